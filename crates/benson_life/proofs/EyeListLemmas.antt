-- Lists of eyes, by their places.
use Rattle.std.proofs.Common.{◌≡◌, ◌≢◌, ℕ, ◌+◌, ◌<◌, ◌≤◌, inl, inr, List, Bool, length, get_or, set, refl, ap, sym, ◌∙◌, subst, arith, below_more}
use Rattle.std.proofs.lemmas.Bool.{cases_eq}
use Rattle.std.proofs.lemmas.List.{get_or_default, length-set, get_or-set_same, get_or-set_other}
use Rattle.std.specs.List.{All}
use Rattle.std.proofs.lemmas.List.Elements.{Contains-get_or}
use Rattle.go_grid.specs.declared.grid.Colour.{Colour}
use Rattle.go_grid.specs.Board.{Board}
use Rattle.go_grid.specs.Marks.{IsMarked, Marks}
use Rattle.go_grid.specs.Parts.{label}
use Rattle.benson_life.specs.declared.eyes.Eye.{Eye}
use Rattle.benson_life.specs.declared.surveys.Survey.{Survey}
use Rattle.benson_life.specs.inner.Eyes.{AreEyes, HasTwoWalledEyes, HasWalledEye}
use Rattle.go_grid.proofs.PointsLemmas.{Noted}

-- the eye at a place of the list
abbrev pub eye_at : List Eye → ℕ → Eye
eye_at eyes j = get_or eyes j (record { region = 0; chain = 0 })

pub eye_item : (eyes : List Eye) (j : ℕ) (e : Eye) → j < length eyes → e ≡ get_or eyes j e → e ≡ eye_at eyes j
eye_item eyes j e lt is = is ∙ get_or_default eyes j e (record { region = 0; chain = 0 }) lt

-- the names of listed eyes are points of the board
pub eyes_inside : (g : Board) (c : Colour) (s : Survey) (eyes : List Eye) → AreEyes g c s eyes → length g.cells ≤ 625
    → All (λ e. (e.region < 625) × (e.chain < 625)) eyes
eyes_inside g c s eyes are small k d lt =
    let pair = (are (get_or eyes k d)).0 (Contains-get_or eyes k d lt) in
    (omega (arith, pair.lacks.0, small), omega (arith, pair.stone.0, small))

-- the place is of a walled eye other than the one that is known of the chain `k`
abbrev pub SecondAt : List Eye → List Bool → List ℕ → ℕ → ℕ → Type 0
SecondAt eyes breached one j k =
    ((eye_at eyes j).chain ≡ k) × ¬ IsMarked breached (eye_at eyes j).region × (label one k ≢ (eye_at eyes j).region)

-- the place is of a walled eye, of a kept chain and the region `r`
abbrev pub KeptAt : List Eye → List Bool → List Bool → ℕ → ℕ → Type 0
KeptAt eyes breached kept j r =
    ((eye_at eyes j).region ≡ r) × ¬ IsMarked breached r × IsMarked kept (eye_at eyes j).chain

pub walled_at : (eyes : List Eye) (breached : List Bool) (j k r : ℕ) → j < length eyes → (eye_at eyes j).chain ≡ k → (eye_at eyes j).region ≡ r
    → ¬ IsMarked breached r → HasWalledEye eyes breached k r
walled_at eyes breached j k r lt e f none =
    let here : get_or eyes j (record { region = r; chain = k }) ≡ record { region = r; chain = k } =
    get_or_default eyes j (record { region = r; chain = k }) (record { region = 0; chain = 0 }) lt ∙ same (eye_at eyes j) r k f e in ((j, lt, here), none)
  where
    same : (e : Eye) (r k : ℕ) → e.region ≡ r → e.chain ≡ k → e ≡ record { region = r; chain = k }
    same e r k a b = rw (← a, ← b) refl

-- where a walled eye is listed
pub place_of : (eyes : List Eye) (breached : List Bool) (k r : ℕ) → HasWalledEye eyes breached k r
    → (j : ℕ) × (j < length eyes) × ((eye_at eyes j).chain ≡ k) × ((eye_at eyes j).region ≡ r)
place_of eyes breached k r h =
    let e = get_or_default eyes h.0.0 (record { region = 0; chain = 0 }) (record { region = r; chain = k }) h.0.1 ∙ h.0.2 in
    (h.0.0, h.0.1, ap (λ x. x.chain) e, ap (λ x. x.region) e)

-- for each walled eye so far the region of one of its chain
pub record SomeEyes (eyes : List Eye) (breached : List Bool) (regions : List ℕ) (i : ℕ) : Type 0 where
  pub long : length regions ≡ 625
  pub known : (j : ℕ) → j < i → ¬ IsMarked breached (eye_at eyes j).region
      → HasWalledEye eyes breached (eye_at eyes j).chain (label regions (eye_at eyes j).chain)

pub some_skip : (eyes : List Eye) (breached : List Bool) (regions : List ℕ) (i : ℕ) → SomeEyes eyes breached regions i
    → IsMarked breached (eye_at eyes i).region → SomeEyes eyes breached regions (i + 1)
some_skip eyes breached regions i w here = record {
  long = w.long;
  known = below_more (λ j. ¬ IsMarked breached (eye_at eyes j).region
      → HasWalledEye eyes breached (eye_at eyes j).chain (label regions (eye_at eyes j).chain)) i w.known (λ none. absurd (none here));
}

pub some_set : (eyes : List Eye) (breached : List Bool) (regions : List ℕ) (i k r : ℕ) → SomeEyes eyes breached regions i
    → i < length eyes → (eye_at eyes i).chain ≡ k → (eye_at eyes i).region ≡ r → k < 625 → ¬ IsMarked breached r
    → SomeEyes eyes breached (set regions k r) (i + 1)
some_set eyes breached regions i k r w lt e f small none =
    let here : HasWalledEye eyes breached k (label (set regions k r) k) =
    rw (get_or-set_same regions k r 0 (omega (arith, w.long))) (walled_at eyes breached i k r lt e f none) in
    record {
      long = length-set regions k r ∙ w.long;
      known = below_more (λ j. ¬ IsMarked breached (eye_at eyes j).region
          → HasWalledEye eyes breached (eye_at eyes j).chain (label (set regions k r) (eye_at eyes j).chain)) i
          (λ j lt' none'. elim (cases_eq (eye_at eyes j).chain k)
          as (λ _. HasWalledEye eyes breached (eye_at eyes j).chain (label (set regions k r) (eye_at eyes j).chain)) [
            | inl same ↦ subst (λ x. HasWalledEye eyes breached x (label (set regions k r) x)) (sym same) here
            | inr ne ↦ rw (get_or-set_other regions k (eye_at eyes j).chain r 0 ne) (w.known j lt' none')
          ])
          (λ _. subst (λ x. HasWalledEye eyes breached x (label (set regions k r) x)) (sym e) here);
    }

pub some_end : (eyes : List Eye) (breached : List Bool) (regions : List ℕ) (i : ℕ) → SomeEyes eyes breached regions i → length eyes ≤ i
    → (k r : ℕ) → HasWalledEye eyes breached k r → HasWalledEye eyes breached k (label regions k)
some_end eyes breached regions i w le k r h =
    let at = place_of eyes breached k r h in
    subst (λ x. HasWalledEye eyes breached x (label regions x)) at.2
    (w.known at.0 (omega (arith, at.1)) (subst (λ x. ¬ IsMarked breached x) (sym at.3) h.1))

-- what is noted of second eyes and of kept ones
pub two_end : (eyes : List Eye) (breached found : List Bool) (one : List ℕ) (i : ℕ)
    → ((k r : ℕ) → HasWalledEye eyes breached k r → HasWalledEye eyes breached k (label one k))
    → Marks found (Noted (SecondAt eyes breached one) i) → i ≤ length eyes → length eyes ≤ i → Marks found (HasTwoWalledEyes eyes breached)
two_end eyes breached found one i some w le ge k = (
  λ m.
      let h = (w k).0 m in
      let first = walled_at eyes breached h.0 k (eye_at eyes h.0).region (omega (arith, h.1)) h.2.0 refl h.2.1 in
      ((eye_at eyes h.0).region, label one k, first, some k (eye_at eyes h.0).region first, λ e. h.2.2 (sym e)),
  λ h. elim (cases_eq (label one k) h.0) as (λ _. IsMarked found k) [
    | inl e ↦ back h.1 h.3 (λ e'. h.4 (sym e ∙ e'))
    | inr ne ↦ back h.0 h.2 ne
  ],
)
  where
    back : (r : ℕ) → HasWalledEye eyes breached k r → label one k ≢ r → IsMarked found k
    back r h ne =
        let at = place_of eyes breached k r h in
        (w k).1 (at.0, omega (arith, at.1), (at.2, subst (λ x. ¬ IsMarked breached x) (sym at.3) h.1, subst (λ x. label one k ≢ x) (sym at.3) ne))

pub kept_end : (eyes : List Eye) (breached kept found : List Bool) (i : ℕ) → Marks found (Noted (KeptAt eyes breached kept) i)
    → i ≤ length eyes → length eyes ≤ i → Marks found (λ r. (k : ℕ) × HasWalledEye eyes breached k r × IsMarked kept k)
kept_end eyes breached kept found i w le ge r = (
  λ m.
      let h = (w r).0 m in
      ((eye_at eyes h.0).chain, walled_at eyes breached h.0 (eye_at eyes h.0).chain r (omega (arith, h.1)) refl h.2.0 h.2.1, h.2.2),
  λ h.
      let at = place_of eyes breached h.0 r h.1 in
      (w r).1 (at.0, omega (arith, at.1), (at.3, h.1.1, subst (IsMarked kept) (sym at.2) h.2)),
)
