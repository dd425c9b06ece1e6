-- The lines of regions and their values, one region after another.
use Rattle.std.proofs.Common.{◌≡◌, ℕ, zero, suc, ◌+◌, ◌<◌, ◌++◌, ◌∷◌, [], List, length, take, ap, refl, sym, subst, ◌∙◌, arith, append_assoc, flat_map}
use Rattle.std.specs.Prelude.{codes}
use Rattle.std.proofs.lemmas.List.{append-nil, take_more}
use Rattle.std.proofs.lemmas.List.Concat.{flat_map-append}
use Rattle.go_grid.specs.Region.{Region}
use Rattle.region_cut.specs.Cut.{lowest}
use Rattle.short_games.specs.Tree.{Tree, tree_at}
use Rattle.endgame_solver.specs.Regions.{region_at, no_region}
use Rattle.endgame_solver.specs.Solved.{IsReport}
use Rattle.endgame_solver.specs.declared.solved.RegionReport.{RegionReport}
use Rattle.game_lines.specs.Showings.{game_lines}
use Rattle.report.specs.Solution.{count_line, solved_line}
use Rattle.game_text.specs.NamedText.{named_text}
use Rattle.report.specs.declared.values.ValuesError.{ValuesError}
use Rattle.report.specs.declared.values.ValuesError.TheVariants.{Form, Memory}
use Rattle.report.specs.Values.{IsRefusal, AreEntries, Entry, HasShownValue, IsEntry, IsFirstUnshown, IsUnshown, IsValuesText, entry_lines}
use Rattle.report.specs.inner.Values.{HasEntries, HasEntry}

entries_more : (rs : List Region) (es : List Entry) (r : Region) (e : Entry) → AreEntries rs es → e.region ≡ r → IsEntry e → AreEntries (rs ++ r ∷ []) (es ++ e ∷ [])
entries_more [] [] r e h at is = (at, is, tt)
entries_more [] (d ∷ es) r e h at is = absurd h
entries_more (q ∷ rs) [] r e h at is = absurd h
entries_more (q ∷ rs) (d ∷ es) r e h at is = (h.0, h.1, entries_more rs es r e h.2 at is)

-- one region more
pub entries_step : (c : ℕ) (Ts : List Tree) (rs : List Region) (i : ℕ) (report : RegionReport) (before now after : List ℕ) → HasEntries c (take i rs) before now → i < length rs
    → IsReport Ts (region_at rs i) report → HasEntry c Ts report now after → HasEntries c (take (i + 1) rs) before after
entries_step c Ts rs i report before now after h lt is more =
    let r = region_at rs i in
    let G = tree_at Ts report.value in
    let e : Entry = record { region = r; positions = report.positions; value = G; picture = more.picture } in
    let entry : IsEntry e = record { counted = is.positions; is_value = is.value.1; shown = more.shown; drawn = more.drawn } in
    let rest = game_lines (named_text G) more.picture in
    let are = entries_more (take i rs) h.entries r e h.are refl entry in
    let last : after ≡ now ++ entry_lines c e =
    more.lines ∙ ap (λ p. now ++ (solved_line c p report.points report.positions ++ rest)) is.lowest_point
    ∙ ap (λ n. now ++ (solved_line c (lowest r) n report.positions ++ rest)) is.points in
    let all : flat_map (entry_lines c) (h.entries ++ e ∷ []) ≡ flat_map (entry_lines c) h.entries ++ entry_lines c e =
    flat_map-append (entry_lines c) h.entries (e ∷ []) ∙ ap (λ t. flat_map (entry_lines c) h.entries ++ t) (append-nil (entry_lines c e)) in
    let made : HasEntries c (take i rs ++ r ∷ []) before after = record {
      entries = h.entries ++ e ∷ [];
      are = are;
      lines = last ∙ ap (λ t. t ++ entry_lines c e) h.lines ∙ append_assoc before (flat_map (entry_lines c) h.entries) (entry_lines c e) ∙ ap (λ t. before ++ t) (sym all);
    } in
    subst (λ xs. HasEntries c xs before after) (sym (take_more rs i no_region lt)) made

-- the value of each region with an entry is shown
pub shown_at : (rs : List Region) (es : List Entry) → AreEntries rs es → (j : ℕ) → j < length rs → HasShownValue (region_at rs j)
shown_at [] es h j lt = absurd (omega (arith, lt))
shown_at (r ∷ rs) [] h j lt = absurd h
shown_at (r ∷ rs) (e ∷ es) h zero lt = subst HasShownValue h.0 (e.value, h.1.is_value, h.1.shown)
shown_at (r ∷ rs) (e ∷ es) h (suc j) lt = shown_at rs es h.2 j (omega (arith, lt))

pub region_taken : (rs : List Region) (i j : ℕ) → j < i → i < length rs → (region_at (take i rs) j ≡ region_at rs j) × (j < length (take i rs))
region_taken [] i j before inside = absurd (omega (arith, inside))
region_taken (r ∷ rs) zero j before inside = absurd (omega (arith, before))
region_taken (r ∷ rs) (suc i) zero before inside = (refl, omega arith)
region_taken (r ∷ rs) (suc i) (suc j) before inside =
    let at = region_taken rs i j (omega (arith, before)) (omega (arith, inside)) in
    (at.0, omega (arith, at.1))

-- the first region without an entry, whose value isn't shown
pub first_unshown : (c : ℕ) (Ts : List Tree) (rs : List Region) (i p : ℕ) (report : RegionReport) (before now : List ℕ) → HasEntries c (take i rs) before now → i < length rs
    → IsReport Ts (region_at rs i) report → p ≡ report.lowest → IsUnshown (tree_at Ts report.value) → IsFirstUnshown rs p
first_unshown c Ts rs i p report before now h lt is at unshown = record {
  place = i;
  inside = lt;
  lowest_point = at ∙ is.lowest_point;
  unshown = (tree_at Ts report.value, is.value.1, unshown);
  shown = λ j lower. let t = region_taken rs i j lower lt in subst HasShownValue t.0 (shown_at (take i rs) h.entries h.are j t.1);
}

-- the text, piece by piece
pub values_is : (c : ℕ) (rs : List Region) (a b : List ℕ) → a ≡ count_line (codes "regions") (length rs) → HasEntries c rs a b → IsValuesText c rs b
values_is c rs a b first lines = record { entries = lines.entries; are = lines.are; is = lines.lines ∙ ap (λ t. t ++ flat_map (entry_lines c) lines.entries) first }

-- the lines on a value, behind those of its region
pub entry_is : (t a b front S lines L : List ℕ) → a ≡ t ++ front → front ≡ S → b ≡ a ++ lines → lines ≡ L → b ≡ t ++ (S ++ L)
entry_is t a b front S lines L first region second value = second ∙ ap (λ x. a ++ x) value ∙ ap (λ x. x ++ L) (first ∙ ap (λ x. t ++ x) region) ∙ append_assoc t S L

-- a refusal with another reason
pub refusal_map : {A B : ℕ → Type 0} (e : ValuesError) → ((p : ℕ) → A p → B p) → IsRefusal A e → IsRefusal B e
refusal_map (Form p) f h = f p h
refusal_map (Memory cause) f h = tt
