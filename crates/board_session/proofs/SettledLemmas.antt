-- A placing leaves a settled board settled, where no point is declared.
use Rattle.std.proofs.Common.{◌≡◌, ◌≢◌, ◌<◌, ℕ, inl, inr, sym, ap, ◌∙◌, subst, length}
use Rattle.std.proofs.lemmas.Bool.{cases_eq}
use Rattle.std.proofs.lemmas.List.{get_or-set_other, length-set}
use Rattle.go_grid.specs.Board.{Board, DeclaresNothing, HasStone, IsEmpty, NextTo, cell_at, other, stone}
use Rattle.go_grid.specs.Chain.{HasLiberty, InChain, IsLiberty, IsSettled}
use Rattle.go_grid.specs.Walk.{Joined}
use Rattle.go_grid.specs.declared.grid.Cell.TheVariants as cell
use Rattle.go_grid.specs.declared.grid.Colour.{Colour}
use Rattle.go_grid.specs.declared.grid.Colour.TheVariants.{Black, White}
use Rattle.go_grid.proofs.BoardLemmas.{empty_not_stone}
use Rattle.go_grid.proofs.ChainLemmas.{same_liberty}
use Rattle.go_grid.proofs.DecidedChainLemmas.{some_or_not}
use Rattle.go_grid.proofs.DecidedLemmas.{Decided}
use Rattle.go_grid.proofs.DeclaredLemmas.{declared_on}
use Rattle.go_grid.proofs.WalkLemmas.{joined_back, joined_end, joined_more, joined_start, joined_step}
use Rattle.go_play.specs.Place.{IsPlaced}
use Rattle.go_play.specs.inner.Place.{with_stone}
use Rattle.go_play.proofs.BoardPlayLemmas.{breathes, placed_long, taken_choked, taken_stone, takes_by}
use Rattle.benson_life.proofs.StandLemmas.{joined_along}
use Rattle.benson_attack.proofs.LegalLemmas.{had_liberty, stays_empty, still, stood_earlier, with_other}
use Rattle.benson_attack.proofs.PlacingLemmas.{liberty_or_not}

not_both : (d : Colour) → stone d ≡ stone (other d) → ⊥
not_both Black e = absurd (cc e)
not_both White e = absurd (cc e)

module _ (g : Board) (d : Colour) (p : ℕ) (m : Board) (placed : IsPlaced g p d m) (settled : IsSettled g) where
  free : IsEmpty g p
  free = (placed.1.place, placed.1.free)

  away : (x : ℕ) → x ≢ p → cell_at (with_stone g p d) x ≡ cell_at g x
  away x ne = get_or-set_other g.cells p x (stone d) cell.Empty ne

  -- a stone of the player's own stays
  own_stays : (x : ℕ) → HasStone g d x → HasStone m d x
  own_stays x at =
      let ne : x ≢ p = λ k. empty_not_stone d (sym free.1 ∙ ap (cell_at g) (sym k) ∙ at.1) in
      let same = placed.1.without.kept x (λ t. not_both d (sym at.1 ∙ sym (away x ne) ∙ (taken_stone g p d x t).1)) in
      (subst (λ n. x < n) (sym (placed_long g p d m placed)) at.0, same ∙ away x ne ∙ at.1)

  own_before : (x : ℕ) → x ≢ p → HasStone m d x → HasStone g d x
  own_before x ne at =
      let same = placed.1.without.kept x (λ t. empty_not_stone d (sym (placed.1.without.gone x t) ∙ at.1)) in
      (subst (λ n. x < n) (placed_long g p d m placed) at.0, sym (away x ne) ∙ sym same ∙ at.1)

  here : HasLiberty m d p
  here = breathes g p d m placed

  chain_on : (c : Colour) → ((x : ℕ) → HasStone g c x → HasStone m c x) → (s q : ℕ) → InChain g c s q → InChain m c s q
  chain_on c stays s q chain = subst (λ k. Joined k (HasStone m c) s q) (sym placed.0.columns) (joined_more g.columns (HasStone g c) (HasStone m c) stays s q chain)

  next_on : (q e : ℕ) → NextTo g.columns q e → NextTo m.columns q e
  next_on q e next = subst (λ k. NextTo k q e) (sym placed.0.columns) next

  own_breathes : (s : ℕ) → HasStone m d s → HasLiberty m d s
  own_breathes s at = elim (cases_eq s p) as (λ _. HasLiberty m d s) [
    | inl k ↦ subst (HasLiberty m d) (sym k) here
    | inr ne ↦
        let (e, (empty, (q, chain, next))) = settled.breathe d s (own_before s ne at) in
        let chain' = chain_on d own_stays s q chain in
        elim (cases_eq e p) as (λ _. HasLiberty m d s) [
          | inl k ↦
              let new = joined_start m.columns (HasStone m d) p here.1.1.0 here.1.1.1 in
              same_liberty m d s p (joined_step m.columns (HasStone m d) s q p chain' (subst (NextTo m.columns q) k (next_on q e next)) new) here
          | inr ne' ↦ (e, (stays_empty g d p m free placed.0 placed.1.without e ne' empty, (q, chain', next_on q e next)))
        ]
  ]

  -- a chain with a liberty beside the new stone isn't taken
  other_stands : (s f : ℕ) → IsLiberty (with_stone g p d) (other d) s f → HasLiberty m (other d) s
  other_stands s f liberty =
      let b = with_stone g p d in
      let stands : (x : ℕ) → InChain b (other d) s x → HasStone b (other d) x → HasStone m (other d) x = λ x j at.
      (let same = placed.1.without.kept x (λ t. taken_choked g p d x t (same_liberty b (other d) x s (joined_back b.columns (HasStone b (other d)) s x j) (f, liberty))) in
      (rw (placed_long g p d m placed, sym (length-set g.cells p (stone d))) at.0, same ∙ at.1)) in
      let had = had_liberty g d p m free placed.0 placed.1.without s f liberty in
      let chain = joined_along b.columns (HasStone b (other d)) (HasStone m (other d)) s liberty.1.0 (λ x j. stands x j (joined_end b.columns (HasStone b (other d)) s x j)) liberty.1.1 in (
        f,
        (
          stays_empty g d p m free placed.0 placed.1.without f had.1 had.0.0,
          (liberty.1.0, subst (λ k. Joined k (HasStone m (other d)) s liberty.1.0) (sym placed.0.columns) chain, next_on liberty.1.0 f liberty.1.2),
        ),
      )

  other_breathes : (s : ℕ) → HasStone m (other d) s → HasLiberty m (other d) s
  other_breathes s at =
      let b = with_stone g p d in
      let breath : Decided (HasLiberty b (other d) s) = some_or_not (length b.cells) (IsLiberty b (other d) s) (λ f l. l.0.0) (liberty_or_not b (other d) s) in
      elim breath as (λ _. HasLiberty m (other d) s) [
        | inl (f, liberty) ↦ other_stands s f liberty
        | inr none ↦
            let (e, (empty, (q, chain, next))) = settled.breathe (other d) s (stood_earlier g d p m placed s at) in
            let chain' = joined_more g.columns (HasStone g (other d)) (HasStone b (other d)) (with_other g d p m free placed.0 placed.1.without) s q chain in
            elim (cases_eq e p) as (λ _. HasLiberty m (other d) s) [
              | inl k ↦ absurd (still g d p m placed s at (takes_by g p d s q chain' (subst (NextTo g.columns q) k next) none))
              | inr ne ↦ absurd (none (e, ((rw (length-set g.cells p (stone d)) empty.0, away e ne ∙ empty.1), (q, chain', next))))
            ]
      ]

-- a stone of either colour breathes
breathe_on : (g : Board) (d : Colour) (p : ℕ) (m : Board) → IsPlaced g p d m → IsSettled g → (c : Colour) (s : ℕ) → HasStone m c s → HasLiberty m c s
breathe_on g Black p m placed settled Black s at = own_breathes g Black p m placed settled s at
breathe_on g Black p m placed settled White s at = other_breathes g Black p m placed settled s at
breathe_on g White p m placed settled Black s at = other_breathes g White p m placed settled s at
breathe_on g White p m placed settled White s at = own_breathes g White p m placed settled s at

pub placed_declares : (g : Board) (d : Colour) (p : ℕ) (m : Board) → IsPlaced g p d m → DeclaresNothing g → DeclaresNothing m
placed_declares g d p m placed none x c declared =
    none x c (declared_on m g (sym placed.0.declared) (sym (placed_long g p d m placed)) c x declared)

pub placed_settled : (g : Board) (d : Colour) (p : ℕ) (m : Board) → IsPlaced g p d m → DeclaresNothing g → IsSettled g → IsSettled m
placed_settled g d p m placed none settled = record {
  breathe = breathe_on g d p m placed settled;
  closed = λ c x declared. absurd (placed_declares g d p m placed none x c declared);
}
