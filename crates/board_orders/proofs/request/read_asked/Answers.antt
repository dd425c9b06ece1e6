use Rattle.std.proofs.Common.{◌∷◌, ◌-◌, ap, ◌∙◌, map, take, drop, length}
use Rattle.gtp_words.proofs.WordLemmas.{first_of}
use Rattle.board_orders.proofs.request.read_asked.Goals as goal

pub returns-in-None : goal.returns-in-None
returns-in-None c = (c.in-Some.command, _, first_of (λ w. w.now) c.args.words.now _ c.in-len1-up.len_at_least ∙ ap (λ w. w ∷ map (λ v. v.now) (take (length c.args.words.now - 1) (drop 1 c.args.words.now))) c.in-Some.ensures.some, c.in-None.ensures.none)
