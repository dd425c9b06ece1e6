use Rattle.std.proofs.Common.{◌-◌, ◌+◌, ◌≡◌, arith, ap, ◌∙◌, drop, length, ◌++◌, le_refl, string_bytes}
use Rattle.std.specs.Prelude.{codes}
use Rattle.board_words.specs.Words.{colour_word}
use Rattle.board_orders.specs.Texts.{history_text, joined, move_text}
use Rattle.board_orders.proofs.TextLemmas.{history_more, history_none}
use Rattle.board_orders.proofs.texts.history_text.Goals as goal

pub moves-init : goal.moves-init
moves-init c = (c.new-text.ensures.bytes ∙ history_none c.args.size.columns c.args.size.rows c.args.moves.now (length c.args.moves.now) (le_refl _), le_refl _)

pub moves-preserved : goal.moves-preserved
moves-preserved c =
    let columns = c.args.size.columns in let rows = c.args.size.rows in let moves = c.args.moves.now in let n = c.moves.left - 1 in
    let made = c.index-moves-left.result in let old = string_bytes c.moves.text in let some = c.moves-test.true in
    let here : c.moves.left ≡ n + 1 = omega (arith, some) in (
      history_more columns rows moves n made old (string_bytes c.join.new.text) (omega (arith, some, c.moves.invariant.1)) (c.moves.invariant.0 ∙ ap (λ k. history_text columns rows (drop k moves)) here)
          (c.in_ok-join.ensures ∙ ap (joined (codes "\n") old) (c.deref.ensures ∙ c.in_ok-line.ensures)
          ∙ ap (λ m. joined (codes "\n") old (colour_word m.colour ++ (codes " " ++ move_text columns rows m.chosen))) c.index-moves-left.is),
      omega (arith, c.moves.invariant.1),
    )
