use Rattle.game_text.proofs.OneReadingLaws.{one-reading}
use Rattle.game_text.proofs.RoundTripLaws.{round-trip}
use Rattle.game_text.proofs.StoredTextLaws.{stored-bounds, ids-back}
use Rattle.game_text.proofs.laws.text_laws.Goals as goal

pub returns : goal.returns
returns c = record {
  one_reading = one-reading;
  round_trip = round-trip;
  bounds = stored-bounds;
  ids = ids-back;
}
