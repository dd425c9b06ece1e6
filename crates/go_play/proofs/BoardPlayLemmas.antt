-- Placing on a board, by chains and liberties.
use Rattle.std.proofs.Common.{◌≡◌, ℕ, inl, inr, sym, ◌∙◌, subst, arith, List, length}
use Rattle.std.proofs.lemmas.List.{length-set}
use Rattle.go_grid.specs.declared.grid.Cell.{Cell}
use Rattle.go_grid.specs.declared.grid.Colour.{Colour}
use Rattle.go_grid.specs.Board.{Board, NextTo, HasStone, stone, other}
use Rattle.go_grid.specs.Chain.{InChain, HasLiberty}
use Rattle.go_grid.specs.Play.{Holds}
use Rattle.go_grid.specs.Play as play
use Rattle.go_grid.proofs.ChainLemmas.{same_liberty}
use Rattle.go_grid.proofs.NearLemmas.{next_back}
use Rattle.go_grid.proofs.PathLemmas.{leads_over}
use Rattle.go_grid.proofs.PlayLemmas.{held_inside, one_without}
use Rattle.go_grid.proofs.WalkLemmas.{joined_back, joined_end}
use Rattle.go_play.specs.Place.{IsBy, IsTaken, Breathes, IsSameGround, IsPlaced, IsSuicide}
use Rattle.go_play.specs.inner.Place.{with_stone}

module _ (g : Board) (cells : List Cell) (long : length cells ≡ length g.cells) where
  -- the board with these cells
  abbrev b : Board
  b = record g { cells = cells }

  pub chain_to : (c : Colour) (s q : ℕ) → play.InChain (IsBy g) cells c s q → InChain b c s q
  chain_to c s q chain =
      leads_over (IsBy g) (NextTo g.columns) (Holds cells c) (HasStone b c) (λ p h. (held_inside cells c p h, h)) (λ x y n h. n.1) s q chain

  pub chain_from : (c : Colour) (s q : ℕ) → InChain b c s q → play.InChain (IsBy g) cells c s q
  chain_from c s q chain =
      leads_over (NextTo g.columns) (IsBy g) (HasStone b c) (Holds cells c) (λ p h. h.1) (λ x y n h. (omega (arith, h.0, long), n)) s q chain

  pub breathes_to : (c : Colour) (s : ℕ) → Breathes g cells c s → HasLiberty b c s
  breathes_to c s (q, chain, inl (e, next, empty)) = (e, ((omega (arith, next.0, long), empty), (q, chain_to c s q chain, next.1)))
  breathes_to c s (q, chain, inr never) = absurd never

  pub breathes_from : (c : Colour) (s : ℕ) → HasLiberty b c s → Breathes g cells c s
  breathes_from c s (e, (empty, (q, chain, next))) =
      (q, chain_from c s q chain, inl (e, (omega (arith, empty.0, long), next), empty.1))

-- what is taken is a stone of the other colour without a liberty, in a chain next to the new stone
module _ (g : Board) (p : ℕ) (c : Colour) where
  long_with : length (with_stone g p c).cells ≡ length g.cells
  long_with = length-set g.cells p (stone c)

  pub taken_near : (q : ℕ) → IsTaken g p c q → (r : ℕ) × NextTo g.columns p r × InChain (with_stone g p c) (other c) r q
  taken_near q (r, next, chain, bound) = (r, next.1, chain_to g (with_stone g p c).cells long_with (other c) r q chain)

  pub taken_stone : (q : ℕ) → IsTaken g p c q → HasStone (with_stone g p c) (other c) q
  taken_stone q t = let (r, next, chain) = taken_near q t in joined_end g.columns (HasStone (with_stone g p c) (other c)) r q chain

  pub taken_choked : (q : ℕ) → IsTaken g p c q → ¬ HasLiberty (with_stone g p c) (other c) q
  taken_choked q (r, next, chain, bound) liberty =
      let b = with_stone g p c in
      bound (breathes_from g b.cells long_with (other c) r
      (same_liberty b (other c) r q (chain_to g b.cells long_with (other c) r q chain) liberty))

  pub takes : (r q : ℕ) → NextTo g.columns p r → InChain (with_stone g p c) (other c) r q → ¬ HasLiberty (with_stone g p c) (other c) r
      → IsTaken g p c q
  takes r q next chain choked =
      let b = with_stone g p c in
      let back = joined_end g.columns (HasStone b (other c)) q r (joined_back g.columns (HasStone b (other c)) r q chain) in (
        r,
        (omega (arith, back.0, long_with), next),
        chain_from g b.cells long_with (other c) r q chain,
        λ free. choked (breathes_to g b.cells long_with (other c) r free),
      )

  -- a chain that the new stone is next to
  pub takes_by : (q r : ℕ) → InChain (with_stone g p c) (other c) q r → NextTo g.columns r p → ¬ HasLiberty (with_stone g p c) (other c) q
      → IsTaken g p c q
  takes_by q r chain next choked =
      let b = with_stone g p c in
      takes r q (next_back g.columns r p next) (joined_back g.columns (HasStone b (other c)) q r chain)
      (λ liberty. choked (same_liberty b (other c) q r chain liberty))

same_ground : (g h : Board) → IsSameGround g h → record g { cells = h.cells } ≡ h
same_ground g h same =
    λ i. record { columns = sym same.columns i; rows = sym same.rows i; cells = h.cells; declared = sym same.declared i }

pub placed_long : (g : Board) (p : ℕ) (c : Colour) (h : Board) → IsPlaced g p c h → length h.cells ≡ length g.cells
placed_long g p c h placed = placed.1.without.long ∙ length-set g.cells p (stone c)

-- the new stone's chain has a liberty
pub breathes : (g : Board) (p : ℕ) (c : Colour) (h : Board) → IsPlaced g p c h → HasLiberty h c p
breathes g p c h placed =
    subst (λ b. HasLiberty b c p) (same_ground g h placed.0) (breathes_to g h.cells (placed_long g p c h placed) c p placed.1.stands)

pub stands_from : (g : Board) (p : ℕ) (c : Colour) (h : Board) → IsSameGround g h → length h.cells ≡ length g.cells → HasLiberty h c p
    → Breathes g h.cells c p
stands_from g p c h same long liberty =
    breathes_from g h.cells long c p (subst (λ b. HasLiberty b c p) (sym (same_ground g h same)) liberty)

-- a placing has one outcome
pub placed_same : (g : Board) (p : ℕ) (c : Colour) (h k : Board) → IsPlaced g p c h → IsPlaced g p c k → h ≡ k
placed_same g p c h k a b =
    let cells = one_without (with_stone g p c).cells (IsTaken g p c) h.cells k.cells a.1.without b.1.without in
    λ i. record { columns = (a.0.columns ∙ sym b.0.columns) i; rows = (a.0.rows ∙ sym b.0.rows) i; cells = cells i; declared = (a.0.declared ∙ sym b.0.declared) i }

pub suicide_not_placed : (g h : Board) (p : ℕ) (c : Colour) → IsSuicide g p c → ¬ IsPlaced g p c h
suicide_not_placed g h p c s placed =
    let same = one_without (with_stone g p c).cells (IsTaken g p c) h.cells s.0 placed.1.without s.1 in
    s.2 (subst (λ cells. Breathes g cells c p) same placed.1.stands)
