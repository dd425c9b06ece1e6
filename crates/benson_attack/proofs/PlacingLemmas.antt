-- Which points are liberties, which stones a placing takes and whether it is legal are decided by the cells.
use Rattle.std.proofs.Common.{◌≡◌, ℕ, zero, suc, ◌⊎◌, inl, inr, List, [], ◌∷◌, length, get_or, refl, ap, ◌∙◌}
use Rattle.go_grid.specs.declared.grid.Cell.{Cell}
use Rattle.go_grid.specs.declared.grid.Cell.TheVariants as cell
use Rattle.go_grid.specs.declared.grid.Colour.{Colour}
use Rattle.go_grid.specs.declared.grid.Colour.TheVariants.{Black, White}
use Rattle.go_grid.specs.Board.{Board, NextTo, HasStone, IsDeclared, IsEmpty, IsUndeclared, cell_at, other, stone}
use Rattle.go_grid.specs.Chain.{InChain, IsLiberty, HasLiberty}
use Rattle.go_grid.proofs.DeclaredLemmas.{declared_or_not}
use Rattle.go_grid.proofs.DecidedLemmas.{Decided, alike, both, either}
use Rattle.go_grid.proofs.WalkLemmas.{joined_end, joined_back}
use Rattle.go_play.specs.Place.{IsPlaced, IsSuicide, IsTaken, IsCleared}
use Rattle.go_play.specs.inner.Place.{with_stone}
use Rattle.benson_attack.specs.inner.Reached.{HasDeclaredBreath}
use Rattle.go_grid.proofs.DecidedChainLemmas.{chain_or_not, lt_or_not, next_or_not, some_or_not}
use Rattle.go_grid.proofs.BoardLemmas.{same_or_not}
use Rattle.go_play.proofs.BoardPlayLemmas.{breathes_from, breathes_to, taken_choked, taken_near, takes_by}
use Rattle.go_grid.proofs.NearLemmas.{next_back}
use Rattle.std.proofs.lemmas.List.{length-set}

reaches_or_not : (g : Board) (c : Colour) (s p : ℕ) → Decided ((q : ℕ) × InChain g c s q × NextTo g.columns q p)
reaches_or_not g c s p =
    alike ((q : ℕ) × (InChain g c s q × NextTo g.columns q p)) ((q : ℕ) × InChain g c s q × NextTo g.columns q p)
    (λ w. (w.0, w.1.0, w.1.1)) (λ w. (w.0, (w.1, w.2)))
    (some_or_not (length g.cells) (λ q. InChain g c s q × NextTo g.columns q p) (λ q w. (joined_end g.columns (HasStone g c) s q w.0).0)
    (λ q. both _ _ (chain_or_not g c s q) (next_or_not g.columns q p)))

pub liberty_or_not : (g : Board) (c : Colour) (s p : ℕ) → Decided (IsLiberty g c s p)
liberty_or_not g c s p =
    both _ _ (both _ _ (lt_or_not p (length g.cells)) (same_or_not (cell_at g p) cell.Empty)) (reaches_or_not g c s p)

declared_some_or_not : (g : Board) (p : ℕ) → Decided ((c : Colour) × IsDeclared g c p)
declared_some_or_not g p =
    alike (IsDeclared g Black p ⊎ IsDeclared g White p) ((c : Colour) × IsDeclared g c p)
    (λ w. elim w as (λ _. (c : Colour) × IsDeclared g c p) [ inl b ↦ (Black, b) | inr w' ↦ (White, w') ]) from
    (either _ _ (declared_or_not g Black p) (declared_or_not g White p))
  where
    from : ((c : Colour) × IsDeclared g c p) → IsDeclared g Black p ⊎ IsDeclared g White p
    from (Black, b) = inl b
    from (White, w) = inr w

pub undeclared_or_not : (g : Board) (p : ℕ) → Decided (IsUndeclared g p)
undeclared_or_not g p = elim (declared_some_or_not g p) as (λ _. Decided (IsUndeclared g p)) [
  | inl (c, declared) ↦ inr (λ outside. outside c declared)
  | inr none ↦ inl (λ c declared. none (c, declared))
]

-- a liberty of the stone's chain is declared, or none is
pub declared_breath_or_not : (g : Board) (d : Colour) (v : ℕ) → Decided (HasDeclaredBreath g d v)
declared_breath_or_not g d v =
    alike ((p : ℕ) × (((c : Colour) × IsDeclared g c p) × IsLiberty g (other d) v p)) (HasDeclaredBreath g d v)
    (λ w. (w.0, w.1.0, w.1.1)) (λ w. (w.0, (w.1, w.2)))
    (some_or_not (length g.cells) (λ p. ((c : Colour) × IsDeclared g c p) × IsLiberty g (other d) v p) (λ p w. w.1.0.0)
    (λ p. both _ _ (declared_some_or_not g p) (liberty_or_not g (other d) v p)))

breath_or_not : (g : Board) (c : Colour) (s : ℕ) → Decided (HasLiberty g c s)
breath_or_not g c s = some_or_not (length g.cells) (IsLiberty g c s) (λ p l. l.0.0) (liberty_or_not g c s)

taken_or_not : (g : Board) (p : ℕ) (c : Colour) (q : ℕ) → Decided (IsTaken g p c q)
taken_or_not g p c q =
    let b = with_stone g p c in
    elim (reaches_or_not b (other c) q p) as (λ _. Decided (IsTaken g p c q)) [
      | inr not ↦ inr (λ t.
          let (r, next, chain) = taken_near g p c q t in
          not (r, joined_back b.columns (HasStone b (other c)) r q chain, next_back b.columns p r next))
      | inl (r, chain, next) ↦ elim (breath_or_not b (other c) q) as (λ _. Decided (IsTaken g p c q)) [
        | inl breath ↦ inr (λ t. taken_choked g p c q t breath)
        | inr choked ↦ inl (takes_by g p c q r chain next choked)
      ]
    ]

-- the cell, or no stone where the condition holds
abbrev emptied : (P : Type 0) → Decided P → Cell → Cell
emptied P (inl p) x = cell.Empty
emptied P (inr f) x = x

emptied_gone : (P : Type 0) (d : Decided P) (x : Cell) → P → emptied P d x ≡ cell.Empty
emptied_gone P (inl p) x at = refl
emptied_gone P (inr f) x at = absurd (f at)

emptied_kept : (P : Type 0) (d : Decided P) (x : Cell) → (P → ⊥) → emptied P d x ≡ x
emptied_kept P (inl p) x not = absurd (not p)
emptied_kept P (inr f) x not = refl

abbrev cleared : (Gone : ℕ → Type 0) → ((q : ℕ) → Decided (Gone q)) → List Cell → List Cell
cleared Gone gone [] = []
cleared Gone gone (x ∷ xs) = emptied (Gone zero) (gone zero) x ∷ cleared (λ q. Gone (suc q)) (λ q. gone (suc q)) xs

cleared_long : (Gone : ℕ → Type 0) (gone : (q : ℕ) → Decided (Gone q)) (xs : List Cell) → length (cleared Gone gone xs) ≡ length xs
cleared_long Gone gone [] = refl
cleared_long Gone gone (x ∷ xs) = ap suc (cleared_long (λ q. Gone (suc q)) (λ q. gone (suc q)) xs)

cleared_gone : (Gone : ℕ → Type 0) (gone : (q : ℕ) → Decided (Gone q)) (xs : List Cell) (q : ℕ) → Gone q
    → get_or (cleared Gone gone xs) q cell.Empty ≡ cell.Empty
cleared_gone Gone gone [] q at = refl
cleared_gone Gone gone (x ∷ xs) zero at = emptied_gone (Gone zero) (gone zero) x at
cleared_gone Gone gone (x ∷ xs) (suc q) at = cleared_gone (λ q. Gone (suc q)) (λ q. gone (suc q)) xs q at

cleared_kept : (Gone : ℕ → Type 0) (gone : (q : ℕ) → Decided (Gone q)) (xs : List Cell) (q : ℕ) → (Gone q → ⊥)
    → get_or (cleared Gone gone xs) q cell.Empty ≡ get_or xs q cell.Empty
cleared_kept Gone gone [] q not = refl
cleared_kept Gone gone (x ∷ xs) zero not = emptied_kept (Gone zero) (gone zero) x not
cleared_kept Gone gone (x ∷ xs) (suc q) not = cleared_kept (λ q. Gone (suc q)) (λ q. gone (suc q)) xs q not

-- a placing at an empty point is legal, or it is suicide
pub placed_or_not : (g : Board) (p : ℕ) (d : Colour) → IsEmpty g p → ((m : Board) × IsPlaced g p d m) ⊎ IsSuicide g p d
placed_or_not g p d free =
    let b = with_stone g p d in
    let gone : (q : ℕ) → Decided (IsTaken g p d q) = taken_or_not g p d in
    let m : Board = record g { cells = cleared (IsTaken g p d) gone b.cells } in
    let without : IsCleared g p d m.cells = record {
      long = cleared_long (IsTaken g p d) gone b.cells;
      gone = cleared_gone (IsTaken g p d) gone b.cells;
      kept = cleared_kept (IsTaken g p d) gone b.cells;
    } in
    let long : length m.cells ≡ length g.cells = without.long ∙ length-set g.cells p (stone d) in
    elim (breath_or_not m d p) as (λ _. ((m : Board) × IsPlaced g p d m) ⊎ IsSuicide g p d) [
      | inl l ↦ inl (
        m,
        (
          record { columns = refl; rows = refl; declared = refl },
          record { place = free.0; free = free.1; without = without; stands = breathes_from g m.cells long d p l },
        ),
      )
      | inr n ↦ inr (m.cells, without, λ f. n (breathes_to g m.cells long d p f))
    ]
