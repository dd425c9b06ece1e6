use mir.Val.{SFits}
use mir.Syntax.{w64}
use Rattle.std.proofs.Common.{◌≡◌, ◌∙◌, ◌<◌, ◌++◌, ap, arith, codes, length, refl, rules, string_bytes, subst, sym, Some, None, to_z, of_z}
use Rattle.std.proofs.lemmas.Int.{to_z-of_z}
use Rattle.board_words.specs.Komi.{komi_word}
use Rattle.fault_words.specs.Naming.{name_by}
use Rattle.report.specs.Analysis.{name_on}
use Rattle.report.specs.TopStones.{IsBestBelow, IsTopText, gain}
use Rattle.report.specs.inner.TopStones.{HasTold}
use Rattle.report.proofs.TopStonesLaws.{all_told, none_told, one_told, ten_told}
use Rattle.report.proofs.top_stones.top_stones_text.Goals as goal

pub stones-init : goal.stones-init
stones-init c =
    let s = c.args.solved.now.state in
    (none_told (name_on c.args.naming s.board) s (to_z w64 (of_z w64 c.args.komi_halves)) (string_bytes c.new-text.result) c.new-text.ensures.bytes, refl)

pub write_rated-requires : goal.write_rated-requires
write_rated-requires c =
    let board = c.board.ensures ∙ ap (λ w. w.board) c.whole.ensures in
    omega (arith, (c.in-Some.ensures {u = tt}).best.is.0, c.size-size.ensures.area, ap (λ g. length g.cells) board, ap (λ v. length v.state.board.cells) c.stones.invariant.1)

pub stones-preserved : goal.stones-preserved
stones-preserved c =
    let s = c.args.solved.now.state in let k = to_z w64 (of_z w64 c.args.komi_halves) in let rated = c.in-Some.rated in
    let (told, same) = c.stones.invariant in
    let board = c.board.ensures ∙ ap (λ w. w.board) c.whole.ensures in
    let columns = c.size-size.ensures.columns ∙ ap (λ g. g.columns) board in
    let rows = c.size-size.ensures.rows ∙ ap (λ g. g.rows) board in
    let side = c.side-side.ensures ∙ ap (λ w. w.side) c.whole-2.ensures in
    let fits : SFits w64 rated.threshold = search rules in
    let threshold = to_z-of_z w64 rated.threshold fits in
    let gained = to_z-of_z w64 c.gain-gained.result (record { sfits = c.gain-gained.type_inv }) ∙ c.gain-gained.ensures ∙ (λ i. gain (side i) k (threshold i)) in (
      one_told (name_on c.args.naming s.board) s k c.stones._told c.stones.last rated (string_bytes c.stones.text) (string_bytes c.write_rated.new.text) c.stones-test.true told
          (subst (λ v. IsBestBelow v.state k c.stones.last (length v.state.board.cells) (Some rated)) same (c.in-Some.ensures {u = tt}).best)
          (c.in_ok-write_rated.ensures {u = tt}
          ∙ (λ i. string_bytes c.stones.text ++ (name_by c.args.naming (columns i) (rows i) rated.point ++ (codes " " ++ (komi_word (gained i) ++ codes " "))))),
      c.next_best.ensures.same ∙ same,
    )

pub returns-in_default : goal.returns-in_default
returns-in_default c =
    let s = c.args.solved.now.state in let name = name_on c.args.naming s.board in let text = string_bytes c.stones.text in
    let komi = to_z-of_z w64 c.args.komi_halves c.ranges.komi_halves in
    let (told, same) = c.stones.invariant in
    let none = subst (λ v. IsBestBelow v.state (to_z w64 (of_z w64 c.args.komi_halves)) c.stones.last (length v.state.board.cells) None) same (c.in_default.ensures {u = tt}).best in record {
      text = subst (IsTopText name s c.args.komi_halves) (sym c.from.ensures)
          (subst (λ k. IsTopText name s k text) komi (all_told name s _ c.stones._told c.stones.last text c.stones-test.true told none));
    }

pub returns : goal.returns
returns c =
    let s = c.args.solved.now.state in let name = name_on c.args.naming s.board in let text = string_bytes c.stones.text in
    let komi = to_z-of_z w64 c.args.komi_halves c.ranges.komi_halves in record {
      text = subst (IsTopText name s c.args.komi_halves) (sym c.from-2.ensures)
          (subst (λ k. IsTopText name s k text) komi
          (ten_told name s _ c.stones._told c.stones.last text (omega (arith, c.stones-test.false, c.stones.auto._told-end)) c.stones.invariant.0));
    }
