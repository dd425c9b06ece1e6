use Rattle.game_text.proofs.MadeBracesLaws.{braces-made}
use Rattle.std.proofs.Common.{◌++◌, ◌∙◌, ap}
use Rattle.game_text.proofs.texts.braces.Goals as goal

pub returns : goal.returns
returns c = let l = c.in_ok-push_side.ensures in let r = c.in_ok-push_side-2.ensures in (l.1.0, r.1.0, l.1.1, r.1.1, braces-made l.1.0 r.1.0 c.new-text.result.items c.push.new.self.items c.push_side.new.text.items c.push-2.new.self.items c.push_side-2.new.text.items c.push-3.new.self.items c.new-text.ensures.items c.in_ok-push.ensures.items (l.2 ∙ ap (λ z. c.push.new.self.items ++ z) l.1.2) c.in_ok-push-2.ensures.items (r.2 ∙ ap (λ z. c.push-2.new.self.items ++ z) r.1.2) c.in_ok-push-3.ensures.items)
