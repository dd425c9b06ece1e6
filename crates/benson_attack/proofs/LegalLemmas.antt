-- Placings that are legal since another point of the region stays empty, or since the last liberty of a chain is filled.
use Rattle.std.proofs.Common.{◌≡◌, ◌≢◌, ℕ, ◌<◌, ◌⊎◌, inl, inr, length, sym, ap, ◌∙◌}
use Rattle.std.proofs.lemmas.Bool.{cases_eq}
use Rattle.std.proofs.lemmas.List.{length-set, get_or-set_same, get_or-set_other}
use Rattle.go_grid.specs.declared.grid.Cell.TheVariants as cell
use Rattle.go_grid.specs.declared.grid.Colour.{Colour}
use Rattle.go_grid.specs.Board.{Board, HasStone, IsEmpty, Lacks, cell_at, stone, other}
use Rattle.go_grid.specs.Chain.{InChain, IsLiberty, HasLiberty}
use Rattle.go_grid.proofs.NearLemmas.{next_back}
use Rattle.go_grid.proofs.WalkLemmas.{joined_here, joined_step, joined_start, joined_join, joined_back, joined_more, carried}
use Rattle.go_play.specs.Place.{IsPlaced, IsTaken, IsCleared, IsSameGround, IsSuicide}
use Rattle.go_play.specs.inner.Place.{with_stone}
use Rattle.benson_life.specs.Life.{InRegion}
use Rattle.benson_life.proofs.StandLemmas.{empty_or_other}
use Rattle.go_grid.proofs.BoardLemmas.{empty_not_stone, not_other}
use Rattle.go_play.proofs.BoardPlayLemmas.{breathes_from, placed_long, takes_by, taken_stone}

-- the board with a stone of `d` more at the empty point `p`, and `m` is that board without what the stone takes
module _ (h : Board) (d : Colour) (p : ℕ) (m : Board) (free : IsEmpty h p) (size : IsSameGround h m) (cleared : IsCleared h p d m.cells) where
  pub long : length m.cells ≡ length h.cells
  long = cleared.long ∙ length-set h.cells p (stone d)

  pub new_stone : HasStone m d p
  new_stone = (
    rw long free.0,
    cleared.kept p (λ t. not_other d (sym (get_or-set_same h.cells p (stone d) cell.Empty free.0) ∙ (taken_stone h p d p t).1))
        ∙ get_or-set_same h.cells p (stone d) cell.Empty free.0,
  )

  -- a cell elsewhere that is no stone of the other colour stays as it was
  pub stays_as : (x : ℕ) → x ≢ p → cell_at h x ≢ stone (other d) → cell_at m x ≡ cell_at h x
  stays_as x ne not = let same = get_or-set_other h.cells p x (stone d) cell.Empty ne in
      cleared.kept x (λ t. not (sym same ∙ (taken_stone h p d x t).1)) ∙ same

  pub stays_empty : (x : ℕ) → x ≢ p → IsEmpty h x → IsEmpty m x
  stays_empty x ne e = (rw long e.0, stays_as x ne (λ k. empty_not_stone (other d) (sym e.1 ∙ k)) ∙ e.1)

  pub stays_own : (x : ℕ) → HasStone h d x → HasStone m d x
  stays_own x s = (
    rw long s.0,
    stays_as x (λ k. empty_not_stone d (sym free.1 ∙ ap (cell_at h) (sym k) ∙ s.1)) (λ k. not_other d (sym s.1 ∙ k)) ∙ s.1,
  )

  pub not_there : (x : ℕ) → HasStone h (other d) x → x ≢ p
  not_there x s k = empty_not_stone (other d) (sym free.1 ∙ ap (cell_at h) (sym k) ∙ s.1)

  -- a stone of the other colour is on the board with the new stone
  pub with_other : (x : ℕ) → HasStone h (other d) x → HasStone (with_stone h p d) (other d) x
  with_other x s =
      (rw (length-set h.cells p (stone d)) s.0, get_or-set_other h.cells p x (stone d) cell.Empty (not_there x s) ∙ s.1)

  -- another empty point of the region stays
  pub room : (e : ℕ) → InRegion h (other d) p e → IsEmpty h e → e ≢ p → HasLiberty m d p
  room e at empty ne =
      let first : InChain m d p p = joined_here m.columns (HasStone m d) p new_stone in
      elim (carried h.columns (Lacks h (other d)) (λ x. HasLiberty m d p ⊎ InChain m d p x)
      (λ x y in' n lacks. elim in' as (λ _. HasLiberty m d p ⊎ InChain m d p y) [
        | inl l ↦ inl l
        | inr j ↦ elim (cases_eq y p) as (λ _. HasLiberty m d p ⊎ InChain m d p y) [
          | inl k ↦ inr (rw k first)
          | inr away ↦ elim (empty_or_other (cell_at h y) d lacks.1) as (λ _. HasLiberty m d p ⊎ InChain m d p y) [
            | inl k ↦ inl (y, (stays_empty y away (lacks.0, k), (x, j, rw size.columns n)))
            | inr k ↦ inr (joined_step m.columns (HasStone m d) p x y j (rw size.columns n) (stays_own y (lacks.0, k)))
          ]
        ]
      ])
      p e (inr first) at) as (λ _. HasLiberty m d p) [
        | inl l ↦ l
        | inr j ↦
            let there = joined_start m.columns (HasStone m d) e p (joined_back m.columns (HasStone m d) p e j) in
            absurd (empty_not_stone d (sym (stays_empty e ne empty).1 ∙ there.1))
      ]

  -- a liberty of a chain of the other colour on the board with the new stone is another liberty that it had
  pub had_liberty : (s e : ℕ) → IsLiberty (with_stone h p d) (other d) s e → IsLiberty h (other d) s e × (e ≢ p)
  had_liberty s e l =
      let away : e ≢ p = λ k. empty_not_stone d
      (sym l.0.1 ∙ ap (cell_at (with_stone h p d)) k ∙ get_or-set_same h.cells p (stone d) cell.Empty free.0) in (
        (
          (rw (length-set h.cells p (stone d)) at l.0.0, sym (get_or-set_other h.cells p e (stone d) cell.Empty away) ∙ l.0.1),
          (
            l.1.0,
            joined_more h.columns (HasStone (with_stone h p d) (other d)) (HasStone h (other d)) (λ x t.
                let apart : x ≢ p = λ k. not_other d
                (sym (get_or-set_same h.cells p (stone d) cell.Empty free.0) ∙ ap (cell_at (with_stone h p d)) (sym k) ∙ t.1) in
                (rw (length-set h.cells p (stone d)) at t.0, sym (get_or-set_other h.cells p x (stone d) cell.Empty apart) ∙ t.1))
                s l.1.0 l.1.1,
            l.1.2,
          ),
        ),
        away,
      )

  -- filling the last liberty of a chain takes it
  pub captures : (s : ℕ) → IsLiberty h (other d) s p → ((q : ℕ) → IsLiberty h (other d) s q → q ≡ p) → HasLiberty m d p
  captures s l only =
      let r = l.1.0 in
      let there = joined_start h.columns (HasStone h (other d)) r s (joined_back h.columns (HasStone h (other d)) s r l.1.1) in
      let here = with_other r there in
      let gone = cleared.gone r (takes_by h p d r r (joined_here h.columns (HasStone (with_stone h p d) (other d)) r here) l.1.2 (λ free'.
      let had = had_liberty r free'.0 free'.1 in
      had.1 (only free'.0 (had.0.0, (had.0.1.0, joined_join h.columns (HasStone h (other d)) s r had.0.1.0 l.1.1 had.0.1.1, had.0.1.2))))) in (
        r,
        (
          (rw long there.0, gone),
          (p, joined_here m.columns (HasStone m d) p new_stone, rw size.columns (next_back h.columns r p l.1.2)),
        ),
      )

-- what stands after a placing wasn't taken, and stood before
pub still : (h : Board) (d : Colour) (p : ℕ) (m : Board) → IsPlaced h p d m → (x : ℕ) → HasStone m (other d) x
    → ¬ IsTaken h p d x
still h d p m placed x s t = empty_not_stone (other d) (sym (placed.1.without.gone x t) ∙ s.1)

pub stood_earlier : (h : Board) (d : Colour) (p : ℕ) (m : Board) → IsPlaced h p d m → (x : ℕ) → HasStone m (other d) x → HasStone h (other d) x
stood_earlier h d p m placed x s =
    let same = placed.1.without.kept x (still h d p m placed x s) in
    let on : x < length h.cells = rw (placed_long h p d m placed) at s.0 in
    elim (cases_eq x p) as (λ _. HasStone h (other d) x) [
      | inl k ↦ absurd (not_other d (sym (get_or-set_same h.cells p (stone d) cell.Empty placed.1.place)
          ∙ ap (cell_at (with_stone h p d)) (sym k) ∙ sym same ∙ s.1))
      | inr ne ↦ (on, sym (get_or-set_other h.cells p x (stone d) cell.Empty ne) ∙ sym same ∙ s.1)
    ]

-- where a placing is refused, the new stone's chain has no liberty
pub not_suicide : (h : Board) (d : Colour) (p : ℕ) (s : IsSuicide h p d) → ¬ HasLiberty (record h { cells = s.0 }) d p
not_suicide h d p s liberty = s.2 (breathes_from h s.0 (s.1.long ∙ length-set h.cells p (stone d)) d p liberty)
