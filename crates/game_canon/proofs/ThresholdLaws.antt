-- How floors and ceilings follow from those of the options.
use Rattle.std.proofs.Common.{ℕ, ◌+◌, ◌≡◌, ◌↔◌, List, length, get_or, arith, inl, inr, subst, ℤ, pos, negsuc, ◌+ℤ◌, ◌<ℤ◌, Some, None}
use Rattle.std.specs.Prelude.{Option, IfNone}
use Rattle.std.proofs.lemmas.Int.{ints, by_lt_z}
use Rattle.std.proofs.lemmas.Bool.{cases_lt}
use Rattle.dyadic_num.specs.Units.{IsAboveBound, IsBelowBound}
use Rattle.short_games.specs.Tree.{Tree, tree_at}
use Rattle.short_games.specs.Number.{num, IsNumber}
use Rattle.short_games.specs.Order.{◌≤ᵍ◌}
use Rattle.short_games.specs.Threshold.{IsFloor, IsCeiling}
use Rattle.game_store.specs.Places.{IsFloorRange, IsCeilingRange}
use Rattle.short_games.proofs.ThresholdLaws.{game-floor, game-ceiling}
use Rattle.game_store.specs.Meaning.{listed}
use Rattle.game_canon.specs.inner.Bounds.{AreAllWithin, HasCeilingFrom, HasFloorUpTo, AreAllFrom, AreAllUpTo, AreFloorRange, AreCeilingRange, lower, upper}
use Rattle.game_store.proofs.EntryLaws.{pick-has}
use Rattle.short_games.specs.Stops.{GoesWithLeftStop, GoesWithRightStop}
use Rattle.game_canon.proofs.NumberSizeLaws.{floor-within, ceiling-within}
use Rattle.game_canon.proofs.GameLaws.{none-list}

-- one more id
pub from-next : (Ts : List Tree) (is : List ℕ) (n : ℕ) (bound : Option ℤ) (k r : ℤ) → AreAllFrom Ts is n bound → IsCeiling 60 (tree_at Ts (get_or is n 0)) k → ((h : ℤ) → (IsBelowBound bound h × (h <ℤ k)) ↔ (h <ℤ r)) → AreAllFrom Ts is (n + 1) (Some r)
from-next Ts is n bound k r a c b f m h cell = (
  λ all. (b h).0 (
    (a f m h cell).0 (λ j l. all j (omega (arith, l))),
    by_lt_z h k (λ l. l) (λ l. absurd (all n (omega arith) ((c f m h cell).1 l))),
  ),
  λ l j i. elim (cases_lt j n) [
    | inl d ↦ (a f m h cell).1 ((b h).1 l).0 j d
    | inr d ↦ (let same : n ≡ j = omega (arith, i, d) in subst (λ q. tree_at Ts (get_or is q 0) ≤ᵍ num f m → ⊥) same (λ y. (let g = (c f m h cell).0 y in omega (arith, ints, ((b h).1 l).1, g))))
  ],
)

pub up_to-next : (Ts : List Tree) (is : List ℕ) (n : ℕ) (bound : Option ℤ) (k r : ℤ) → AreAllUpTo Ts is n bound → IsFloor 60 (tree_at Ts (get_or is n 0)) k → ((h : ℤ) → (IsAboveBound bound h × (k <ℤ h)) ↔ (r <ℤ h)) → AreAllUpTo Ts is (n + 1) (Some r)
up_to-next Ts is n bound k r a c b f m h cell = (
  λ all. (b h).0 (
    (a f m h cell).0 (λ j l. all j (omega (arith, l))),
    by_lt_z k h (λ l. l) (λ l. absurd (all n (omega arith) ((c f m h cell).1 l))),
  ),
  λ l j i. elim (cases_lt j n) [
    | inl d ↦ (a f m h cell).1 ((b h).1 l).0 j d
    | inr d ↦ (let same : n ≡ j = omega (arith, i, d) in subst (λ q. num f m ≤ᵍ tree_at Ts (get_or is q 0) → ⊥) same (λ y. (let g = (c f m h cell).0 y in omega (arith, ints, ((b h).1 l).1, g))))
  ],
)

-- what the loops keep
pub record LeastSoFar (Ts : List Tree) (is : List ℕ) (n : ℕ) (bound : Option ℤ) : Type 0 where
  pub all : AreAllFrom Ts is n bound
  pub range : AreCeilingRange bound
  pub near : (b : ℕ) → AreAllWithin Ts is n b → HasCeilingFrom bound b
  pub some : IfNone bound (n ≡ 0)

pub record GreatestSoFar (Ts : List Tree) (is : List ℕ) (n : ℕ) (bound : Option ℤ) : Type 0 where
  pub all : AreAllUpTo Ts is n bound
  pub range : AreFloorRange bound
  pub near : (b : ℕ) → AreAllWithin Ts is n b → HasFloorUpTo bound b
  pub some : IfNone bound (n ≡ 0)

below-as : (bound : Option ℤ) (b : ℕ) → HasCeilingFrom bound b → IsBelowBound bound (negsuc (b + b))
below-as None b h = tt
below-as (Some k) b h = h

above-as : (bound : Option ℤ) (b : ℕ) → HasFloorUpTo bound b → IsAboveBound bound (pos (b + b + 1))
above-as None b h = tt
above-as (Some k) b h = h

pub lower-near : (bound : Option ℤ) (b : ℕ) → HasFloorUpTo bound b → lower bound <ℤ pos (b + b + 1)
lower-near None b h = omega (arith, ints)
lower-near (Some k) b h = h

pub upper-near : (bound : Option ℤ) (b : ℕ) → HasCeilingFrom bound b → negsuc (b + b) <ℤ upper bound
upper-near None b h = omega (arith, ints)
upper-near (Some k) b h = h

pub least-step : (Ts : List Tree) (is : List ℕ) (n : ℕ) (bound : Option ℤ) (k r : ℤ) → LeastSoFar Ts is n bound → IsCeiling 60 (tree_at Ts (get_or is n 0)) k → IsCeilingRange k
    → ((h : ℤ) → (IsBelowBound bound h × (h <ℤ k)) ↔ (h <ℤ r)) → (AreCeilingRange bound → IsCeilingRange k → IsCeilingRange r) → GoesWithLeftStop 60 (tree_at Ts (get_or is n 0)) k → LeastSoFar Ts is (n + 1) (Some r)
least-step Ts is n bound k r so c d b g stop = record {
  all = from-next Ts is n bound k r so.all c b;
  range = g so.range d;
  near = λ a w. (b (negsuc (a + a))).0 (below-as bound a (so.near a (λ j i. w j (omega (arith, i)))), ceiling-within (tree_at Ts (get_or is n 0)) a k (w n (omega arith)) stop);
  some = tt;
}

pub greatest-step : (Ts : List Tree) (is : List ℕ) (n : ℕ) (bound : Option ℤ) (k r : ℤ) → GreatestSoFar Ts is n bound → IsFloor 60 (tree_at Ts (get_or is n 0)) k → IsFloorRange k
    → ((h : ℤ) → (IsAboveBound bound h × (k <ℤ h)) ↔ (r <ℤ h)) → (AreFloorRange bound → IsFloorRange k → IsFloorRange r) → GoesWithRightStop 60 (tree_at Ts (get_or is n 0)) k → GreatestSoFar Ts is (n + 1) (Some r)
greatest-step Ts is n bound k r so c d b g stop = record {
  all = up_to-next Ts is n bound k r so.all c b;
  range = g so.range d;
  near = λ a w. (b (pos (a + a + 1))).0 (above-as bound a (so.near a (λ j i. w j (omega (arith, i)))), floor-within (tree_at Ts (get_or is n 0)) a k (w n (omega arith)) stop);
  some = tt;
}

-- the floor and the ceiling of a form that is no number
pub form-floor : (Ts : List Tree) (ls rs : List ℕ) (k : ℤ) → (IsNumber (listed Ts ls rs) → ⊥) → AreAllFrom Ts rs (length rs) (Some k) → IsFloor 60 (listed Ts ls rs) (k +ℤ negsuc 0)
form-floor Ts ls rs k n a = game-floor 60 (listed Ts ls rs) k n
    (λ f m h cell. (λ all. (a f m h cell).0 (λ j l. all _ (pick-has Ts rs j l)), λ l. none-list Ts rs (λ t. t ≤ᵍ num f m) ((a f m h cell).1 l)))

pub form-ceiling : (Ts : List Tree) (ls rs : List ℕ) (k : ℤ) → (IsNumber (listed Ts ls rs) → ⊥) → AreAllUpTo Ts ls (length ls) (Some k) → IsCeiling 60 (listed Ts ls rs) (k +ℤ pos 1)
form-ceiling Ts ls rs k n a = game-ceiling 60 (listed Ts ls rs) k n
    (λ f m h cell. (λ all. (a f m h cell).0 (λ j l. all _ (pick-has Ts ls j l)), λ l. none-list Ts ls (λ t. num f m ≤ᵍ t) ((a f m h cell).1 l)))
