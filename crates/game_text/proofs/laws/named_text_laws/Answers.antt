use Rattle.game_text.proofs.NamedLaws.{named-one_to_one, named-games}
use Rattle.game_text.proofs.NamedRoundTripLaws.{named-round_trip, named-ids_back}
use Rattle.game_text.proofs.laws.named_text_laws.Goals as goal

pub returns : goal.returns
returns c = record { trees = named-one_to_one; games = named-games; round_trip = named-round_trip; ids = named-ids_back }
