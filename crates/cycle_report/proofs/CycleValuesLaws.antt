-- The lines of regions and both their values, one region after another.
use Rattle.std.proofs.Common.{◌≡◌, ◌≢◌, ℕ, zero, suc, ◌+◌, ◌<◌, ◌++◌, ◌∷◌, [], inl, inr, List, length, take, ap, refl, sym, subst, ◌∙◌, arith, append_assoc}
use Rattle.std.specs.Prelude.{codes}
use Rattle.std.proofs.lemmas.Bool.{cases_lt}
use Rattle.std.proofs.lemmas.List.{append-nil, take_more}
use Rattle.go_grid.specs.declared.grid.Cell.{Cell}
use Rattle.go_grid.specs.declared.grid.Colour.{Colour}
use Rattle.go_grid.specs.declared.grid.Colour.TheVariants.{Black, White}
use Rattle.go_grid.specs.declared.region.Touch.{Touch}
use Rattle.go_grid.specs.Region.{Region}
use Rattle.region_cut.specs.Cut.{lowest}
use Rattle.short_games.specs.Tree.{Tree, tree_at}
use Rattle.short_games.proofs.ReductionLaws.{same-canonical}
use Rattle.local_trees.specs.Steady.{IsBudgetValue, IsLeastSteady}
use Rattle.local_trees.proofs.BudgetTreeLaws.{enough, one_budget_tree}
use Rattle.local_value.proofs.OptionsLaws.{canonical-as}
use Rattle.endgame_solver.specs.Regions.{region_at, no_region}
use Rattle.cycle_solver.specs.Begun.{IsReport}
use Rattle.cycle_solver.specs.declared.cycle_game.CycleReport.{CycleReport}
use Rattle.game_text.specs.NamedText.{named_text}
use Rattle.game_lines.specs.Showings.{IsShowing, IsUnshown, labelled_lines, picture}
use Rattle.game_lines.specs.declared.showing.Showing.{Showing}
use Rattle.report.specs.Solution.{count_line, solved_line}
use Rattle.cycle_report.specs.CycleValues.{AreLinesOfBoth, AreLinesOfEach, AreRegionLines, HasShownValues, HasUnshownValues, IsCycleValuesText, IsFirstCycleUnshown, IsSteadyValue}
use Rattle.cycle_report.specs.inner.CycleValues.{AreUnshown, HasLinesOf, HasLinesOfBoth, HasLinesOfEach, HasReport}
use Rattle.report.proofs.ValuesLaws.{region_taken}

-- there is one least budget at which a region is steady
one_budget : (touch : List Touch) (opening : List Cell) (owner : Colour) (i j : ℕ) → IsLeastSteady touch opening owner i → IsLeastSteady touch opening owner j → i ≡ j
one_budget touch opening owner i j h k = elim (cases_lt i j) [
  | inl below ↦ absurd (k.least i below h.steady)
  | inr le ↦ elim (cases_lt j i) [ inl above ↦ absurd (h.least j above k.steady) | inr ge ↦ omega (arith, le, ge) ]
]

-- and one value with it
one_budget_value : (touch : List Touch) (owner : Colour) (j : ℕ) (cells : List Cell) (G H : Tree) → IsBudgetValue touch owner j cells G → IsBudgetValue touch owner j cells H → G ≡ H
one_budget_value touch owner j cells G H g h =
    let same = one_budget_tree touch owner (enough cells j) j cells h.tree g.tree h.of_position g.of_position in
    same-canonical g.tree G H (record { canonical = g.canonical; under = g.same.0; over = g.same.1 })
    (canonical-as h.tree g.tree H same (record { canonical = h.canonical; under = h.same.0; over = h.same.1 }))

-- a region's opening has one value for a colour
pub one_steady_value : (r : Region) (c : Colour) (G H : Tree) → IsSteadyValue r c G → IsSteadyValue r c H → G ≡ H
one_steady_value r c G H (i, least, value) (j, least', value') =
    let budgets = one_budget r.touch r.cells c j i least' least in
    one_budget_value r.touch c i r.cells G H value (subst (λ k. IsBudgetValue r.touch c k r.cells H) budgets value')

-- no region's values can all be shown where one can't
pub both_shown : (r : Region) → HasShownValues r → HasUnshownValues r → ⊥
both_shown r shown (c, (G, is, unshown)) =
    let (H, other, may) = shown c in
    may (subst IsUnshown (one_steady_value r c G H is other) unshown)

-- The lines of both values.

-- the lines on a game by what is shown of it
pub lines_of : (label : List ℕ) (G : Tree) (s : Showing) (before now : List ℕ) → IsShowing G s → now ≡ before ++ labelled_lines label s.text (picture s)
    → HasLinesOf label G before now
lines_of label G s before now shown lines = record {
  said = labelled_lines label (named_text G) (picture s);
  are = record { picture = picture s; shown = shown.shown; drawn = shown.drawn; is = refl };
  text = lines ∙ ap (λ t. before ++ labelled_lines label t (picture s)) shown.text_is;
}

pub one_value_is : (low high : Tree) (a b : List ℕ) → low ≡ high → HasLinesOf (codes "value") low a b → HasLinesOfBoth low high a b
one_value_is low high a b same lines = record { said = lines.said; are = inl (same, lines.are); text = lines.text }

pub two_values_are : (low high : Tree) (a b c : List ℕ) → low ≢ high → HasLinesOf (codes "low") low a b → HasLinesOf (codes "high") high b c
    → HasLinesOfBoth low high a c
two_values_are low high a b c differ first second = record {
  said = first.said ++ second.said;
  are = inr (differ, (first.said, second.said, first.are, second.are, refl));
  text = second.text ∙ ap (λ t. t ++ second.said) first.text ∙ append_assoc a first.said second.said;
}

-- The lines of the regions.

-- one region more
lines_more : (c : ℕ) (rs : List Region) (r : Region) (text last : List ℕ) → AreLinesOfEach c rs text → AreRegionLines c r last → AreLinesOfEach c (rs ++ r ∷ []) (text ++ last)
lines_more c [] r text last empty lines = (last, [], lines, refl, ap (λ t. t ++ last) empty ∙ sym (append-nil last))
lines_more c (q ∷ rs) r text last (first, rest, is, are, text_is) lines =
    (first, rest ++ last, is, lines_more c rs r rest last are lines, ap (λ t. t ++ last) text_is ∙ append_assoc first rest last)

pub each_step : (c : ℕ) (Ts : List Tree) (rs : List Region) (i : ℕ) (report : CycleReport) (before now after : List ℕ) → HasLinesOfEach c (take i rs) before now → i < length rs
    → IsReport Ts (region_at rs i) report → HasReport c Ts report now after → HasLinesOfEach c (take (i + 1) rs) before after
each_step c Ts rs i report before now after h lt is more =
    let r = region_at rs i in
    let lines = solved_line c (lowest r) (length r.points) report.positions ++ more.said in
    let region : AreRegionLines c r lines = record {
      positions = report.positions;
      low = tree_at Ts report.low;
      high = tree_at Ts report.high;
      values = more.said;
      counted = is.positions;
      is_low = is.low.1;
      is_high = is.high.1;
      are_values = more.are;
      is = refl;
    } in
    let made : HasLinesOfEach c (take i rs ++ r ∷ []) before after = record {
      said = h.said ++ lines;
      are = lines_more c (take i rs) r h.said lines h.are region;
      text = more.text ∙ (λ i. now ++ (solved_line c (is.lowest_point i) (is.points i) report.positions ++ more.said)) ∙ ap (λ t. t ++ lines) h.text
          ∙ append_assoc before h.said lines;
    } in
    subst (λ xs. HasLinesOfEach c xs before after) (sym (take_more rs i no_region lt)) made

-- Both values of a region with lines are shown.

shown_both : (low high : Tree) (text : List ℕ) → AreLinesOfBoth low high text → (IsUnshown low → ⊥) × (IsUnshown high → ⊥)
shown_both low high text (inl (same, lines)) = (lines.shown, subst (λ G. IsUnshown G → ⊥) same lines.shown)
shown_both low high text (inr (differ, (first, second, lower, upper, is))) = (lower.shown, upper.shown)

shown_values : (c : ℕ) (r : Region) (text : List ℕ) → AreRegionLines c r text → HasShownValues r
shown_values c r text lines Black = (lines.low, lines.is_low, (shown_both lines.low lines.high lines.values lines.are_values).0)
shown_values c r text lines White = (lines.high, lines.is_high, (shown_both lines.low lines.high lines.values lines.are_values).1)

pub shown_at : (c : ℕ) (rs : List Region) (text : List ℕ) → AreLinesOfEach c rs text → (j : ℕ) → j < length rs → HasShownValues (region_at rs j)
shown_at c [] text h j lt = absurd (omega (arith, lt))
shown_at c (r ∷ rs) text (first, rest, lines, are, is) zero lt = shown_values c r first lines
shown_at c (r ∷ rs) text (first, rest, lines, are, is) (suc j) lt = shown_at c rs rest are j (omega (arith, lt))

unshown_values : (Ts : List Tree) (r : Region) (report : CycleReport) → IsReport Ts r report → AreUnshown Ts report → HasUnshownValues r
unshown_values Ts r report is (inl low) = (Black, (tree_at Ts report.low, is.low.1, low))
unshown_values Ts r report is (inr high) = (White, (tree_at Ts report.high, is.high.1, high))

-- the first region without lines, one of whose values isn't shown
pub first_cycle_unshown : (c : ℕ) (Ts : List Tree) (rs : List Region) (i p : ℕ) (report : CycleReport) (before now : List ℕ) → HasLinesOfEach c (take i rs) before now
    → i < length rs → IsReport Ts (region_at rs i) report → p ≡ report.lowest → AreUnshown Ts report → IsFirstCycleUnshown rs p
first_cycle_unshown c Ts rs i p report before now h lt is at unshown = record {
  place = i;
  inside = lt;
  lowest_point = at ∙ is.lowest_point;
  unshown = unshown_values Ts (region_at rs i) report is unshown;
  shown = λ j lower. let t = region_taken rs i j lower lt in subst HasShownValues t.0 (shown_at c (take i rs) h.said h.are j t.1);
}

-- the text, piece by piece
pub cycle_values_are : (c : ℕ) (rs : List Region) (a b : List ℕ) → a ≡ count_line (codes "regions") (length rs) → HasLinesOfEach c rs a b → IsCycleValuesText c rs b
cycle_values_are c rs a b first lines = record { lines = lines.said; are = lines.are; is = lines.text ∙ ap (λ t. t ++ lines.said) first }
