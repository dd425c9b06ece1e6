use Rattle.std.proofs.Common.{length, refl, sym, ap, ◌∙◌, ◌++◌, string_bytes}
use Rattle.board_orders.proofs.TextLemmas.{joined_first, joined_more, on_written}
use Rattle.std.proofs.lemmas.Bool.{false≢true}
use Rattle.board_orders.proofs.texts.join.Goals as goal

pub returns-then-is_bare : goal.returns-then-is_bare
returns-then-is_bare c =
    on_written c.push_str.result (string_bytes c.push_str.new.self) _ _ c.push_str.ensures.bytes
    (joined_first c.args.separator.now (string_bytes c.args.text.now) c.args.part.now (string_bytes c.push_str.new.self) (ap length (sym c.deref.ensures) ∙ c.if-is_bare.ensures.0 refl))

pub returns : goal.returns
returns c =
    on_written c.push_str-3.result (string_bytes c.push_str-3.new.self) _ _ c.push_str-3.ensures.bytes
    (λ is. joined_more c.args.separator.now (string_bytes c.args.text.now) c.args.part.now (string_bytes c.push_str-3.new.self)
    (λ none. false≢true (c.if-is_bare.ensures.1 (ap length c.deref.ensures ∙ none))) (is ∙ ap (λ t. t ++ c.args.part.now) c.in_ok-push_str.ensures.bytes))
