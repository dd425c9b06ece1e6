-- Declared points.
use Rattle.std.proofs.Common.{◌≡◌, ℕ, ◌<◌, inl, inr, [], length, get_or, Option, None, Some, refl, sym, ◌∙◌, subst}
use Rattle.go_grid.specs.declared.grid.Colour.{Colour}
use Rattle.go_grid.specs.declared.grid.Colour.TheVariants.{Black, White}
use Rattle.go_grid.specs.Board.{Board, DeclaresNothing, IsClosedOff, IsDeclared, Lacks, declared_at}
use Rattle.go_grid.specs.Walk.{Joined}
use Rattle.go_grid.proofs.BoardLemmas.{empty_not_stone}
use Rattle.go_grid.proofs.DecidedChainLemmas.{lt_or_not}
use Rattle.go_grid.proofs.DecidedLemmas.{Decided, both}
use Rattle.go_grid.proofs.WalkLemmas.{carried}

-- on a board of as many points that declares the same
pub declared_on : (g h : Board) → h.declared ≡ g.declared → length h.cells ≡ length g.cells → (c : Colour) (p : ℕ) → IsDeclared g c p
    → IsDeclared h c p
declared_on g h same long c p (on, is) =
    (subst (λ n. p < n) (sym long) on, subst (λ l. get_or l p None ≡ Some c) (sym same) is)

some_or_not : (x : Option Colour) (c : Colour) → Decided (x ≡ Some c)
some_or_not None c = inr (λ e. cc)
some_or_not (Some Black) Black = inl refl
some_or_not (Some Black) White = inr (λ e. cc)
some_or_not (Some White) Black = inr (λ e. cc)
some_or_not (Some White) White = inl refl

pub declared_or_not : (g : Board) (c : Colour) (p : ℕ) → Decided (IsDeclared g c p)
declared_or_not g c p = both (p < length g.cells) (declared_at g p ≡ Some c) (lt_or_not p (length g.cells)) (some_or_not (declared_at g p) c)

-- a declared point holds no stone of its colour
pub declared_lacks : (g : Board) → IsClosedOff g → (c : Colour) (p : ℕ) → IsDeclared g c p → Lacks g c p
declared_lacks g closed c p declared =
    let empty = (closed c p declared).empty in (empty.0, λ stone. empty_not_stone c (sym empty.1 ∙ stone))

-- a walk over points without a stone of the colour stays among declared points
pub declared_region : (g : Board) → IsClosedOff g → (c : Colour) (p q : ℕ) → IsDeclared g c p → Joined g.columns (Lacks g c) p q
    → IsDeclared g c q
declared_region g closed c =
    carried g.columns (Lacks g c) (IsDeclared g c) (λ x y declared next lacks.
    elim ((closed c x declared).around y lacks.0 next) as (λ _. IsDeclared g c y) [ inl d ↦ d | inr stone ↦ absurd (lacks.1 stone.1) ])

pub nothing_closed : (g : Board) → DeclaresNothing g → IsClosedOff g
nothing_closed g nothing c p declared = absurd (nothing p c declared)

pub none_declared : (g : Board) → g.declared ≡ [] → DeclaresNothing g
none_declared g none p c declared = nobody c (sym (subst (λ l. get_or l p None ≡ Some c) none declared.1))
  where
    nobody : (c : Colour) → Some c ≡ None → ⊥
    nobody c e = cc
