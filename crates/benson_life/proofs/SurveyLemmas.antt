-- Regions, chains and walls by their labels.
use Rattle.std.proofs.Common.{◌↔◌, ◌≡◌, ℕ, inl, inr, List, Bool, false, get_or, sym, ◌∙◌}
use Rattle.std.proofs.lemmas.Bool.{cases_Bool, both_ways}
use Rattle.go_grid.specs.declared.grid.Colour.{Colour}
use Rattle.go_grid.specs.Chain.{InChain, IsLiberty}
use Rattle.go_grid.specs.Board.{Board, DeclaresNothing, NextTo, HasStone, IsClosedOff, IsDeclared, IsEmpty, Lacks}
use Rattle.go_grid.specs.Marks.{IsMarked, Marks, Touches}
use Rattle.go_grid.specs.Parts.{label}
use Rattle.go_grid.proofs.NearLemmas.{next_back}
use Rattle.go_grid.proofs.WalkLemmas.{joined_back, joined_end, joined_join}
use Rattle.benson_life.specs.declared.surveys.Survey.{Survey}
use Rattle.benson_life.specs.inner.Eyes.{IsOfChain}
use Rattle.benson_life.specs.Life.{HasDeclaredLiberty, InRegion, IsVital, IsWalledBy}
use Rattle.benson_life.specs.inner.Survey.{IsSurvey}
use Rattle.benson_life.proofs.PartsLemmas.{one_part}
use Rattle.go_grid.proofs.BoardLemmas.{empty_not_stone}

-- a stone of the chain that `k` names is next to `p`
abbrev pub HasOfChain : ℕ → Survey → ℕ → ℕ → Type 0
HasOfChain columns s k p = (q : ℕ) × NextTo columns p q × IsOfChain s k q

module _ (g : Board) (c : Colour) (s : Survey) (is : IsSurvey g c s) where
  -- points of one region have one label, and the other way
  pub region_of : (p q : ℕ) → Lacks g c p → Lacks g c q → label s.regions p ≡ label s.regions q → InRegion g c p q
  region_of p q hp hq e = one_part g.columns (Lacks g c) s.regions p q is.regions hp hq e

  pub chain_of : (p q : ℕ) → HasStone g c p → HasStone g c q → label s.chains p ≡ label s.chains q → InChain g c p q
  chain_of p q hp hq e = one_part g.columns (HasStone g c) s.chains p q is.chains hp hq e

  -- an empty point's liberty test by labels
  pub liberty_is : (k p : ℕ) → HasStone g c k → label s.chains k ≡ k → IsEmpty g p → HasOfChain g.columns s k p ↔ IsLiberty g c k p
  liberty_is k p stone named empty = (
    λ h. (
      empty,
      (h.0, chain_of k h.0 stone ((is.stones h.0).0 h.2.0) (named ∙ sym h.2.1), next_back g.columns p h.0 h.1),
    ),
    λ l. (
      l.1.0,
      next_back g.columns l.1.0 p l.1.2,
      (
        (is.stones l.1.0).1 (joined_end g.columns (HasStone g c) k l.1.0 l.1.1),
        sym (is.chains.same k l.1.0 l.1.1) ∙ named,
      ),
    ),
  )

  -- a region's walls, by labels
  pub walled_is : (kept struck breached : List Bool) (r : ℕ) → Marks struck (λ p. IsMarked s.stones p × ¬ IsMarked kept p)
      → Marks breached (λ r. (p : ℕ) × IsMarked s.lacking p × (label s.regions p ≡ r) × Touches g.columns struck p)
      → Lacks g c r → (¬ IsMarked breached (label s.regions r)) ↔ IsWalledBy g c (IsMarked kept) r
  walled_is kept struck breached r iss isb lacks = (
    λ none p t at n stone. elim (cases_Bool (get_or kept t false)) as (λ _. IsMarked kept t) [
      | inl on ↦ on
      | inr off ↦ absurd (none ((isb (label s.regions r)).1 (
        p,
        (is.lacking p).1 (joined_end g.columns (Lacks g c) r p at),
        sym (is.regions.same r p at),
        (t, n, (iss t).1 ((is.stones t).1 stone, both_ways _ off)),
      )))
    ],
    λ walled m.
        let h = (isb (label s.regions r)).0 m in
        let bad = (iss h.3.0).0 h.3.2 in
        bad.1 (walled h.0 h.3.0 (region_of r h.0 lacks ((is.lacking h.0).0 h.1) (sym h.2)) h.3.1 ((is.stones h.3.0).0 bad.0)),
  )

  -- a chain with a declared liberty, by its label
  pub sure_is : (closed : IsClosedOff g) (declared sure : List Bool) (t : ℕ) → Marks declared (IsDeclared g c)
      → Marks sure (λ k. (p : ℕ) × IsMarked s.stones p × (label s.chains p ≡ k) × Touches g.columns declared p)
      → HasStone g c t → IsMarked sure (label s.chains t) ↔ HasDeclaredLiberty g c t
  sure_is closed declared sure t isd iss stone = (
    λ m.
        let (p, on, same, (q, next, marked)) = (iss (label s.chains t)).0 m in
        let there = (isd q).0 marked in
        (q, there, ((closed c q there).empty, (p, chain_of t p stone ((is.stones p).0 on) (sym same), next))),
    λ (q, there, (empty, (p, chain, next))).
        (iss (label s.chains t)).1 (
          p,
          (is.stones p).1 (joined_end g.columns (HasStone g c) t p chain),
          sym (is.chains.same t p chain),
          (q, next, (isd q).1 there),
        ),
  )

  -- where nothing is declared no chain has a declared liberty
  pub sure_none : (declared sure : List Bool) → Marks declared (IsDeclared g c)
      → Marks sure (λ k. (p : ℕ) × IsMarked s.stones p × (label s.chains p ≡ k) × Touches g.columns declared p)
      → DeclaresNothing g → (k : ℕ) → ¬ IsMarked sure k
  sure_none declared sure isd iss nothing k m =
      let (p, on, same, (q, next, marked)) = (iss k).0 m in nothing q c ((isd q).0 marked)

  -- a region is vital to each stone of a chain, and from each of its points
  pub vital_at : (r t k u : ℕ) → InRegion g c r t → InChain g c k u → IsVital g c r k → IsVital g c t u
  vital_at r t k u at in' vital p there empty =
      let l = vital p (joined_join g.columns (Lacks g c) r t p at there) empty in
      (l.0, (l.1.0, joined_join g.columns (HasStone g c) u k l.1.0 (joined_back g.columns (HasStone g c) k u in') l.1.1, l.1.2))

  pub walled_at : (In : ℕ → Type 0) (r t : ℕ) → InRegion g c r t → IsWalledBy g c In r → IsWalledBy g c In t
  walled_at In r t at walled p u there = walled p u (joined_join g.columns (Lacks g c) r t p at there)

pub empty_lacks : (g : Board) (c : Colour) (p : ℕ) → IsEmpty g p → Lacks g c p
empty_lacks g c p e = (e.0, λ k. empty_not_stone c (sym e.1 ∙ k))
