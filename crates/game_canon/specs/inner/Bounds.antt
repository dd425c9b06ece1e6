-- Which numbers lie between the options of a form, counted in half parts of 2 ^ -60.
use Rattle.std.specs.Prelude.{ℕ, ◌≡◌, ◌<◌, ◌≤◌, ◌↔◌, ◌^◌, List, ℤ, ◌<ℤ◌, ◌+◌, ◌+ℤ◌, pos, negsuc, neg_ℤ, unsigned_abs, Option, Some, None}
use Rattle.std.specs.List.{slice_index_or}
use Rattle.dyadic_num.specs.declared.TheConstants.{EXPONENT, LIMIT}
use Rattle.dyadic_num.specs.Units.{IsAboveBound, IsBelowBound, IsInBounds}
use Rattle.short_games.specs.Tree.{Tree, tree_at}
use Rattle.short_games.specs.Order.{◌≤ᵍ◌}
use Rattle.short_games.specs.Number.{num, IsNumber, number_tree}
use Rattle.short_games.specs.Threshold.{IsCell, IsFloor, IsCeiling}
use Rattle.game_store.specs.Places.{IsFloorRange, IsCeilingRange}
use Rattle.game_canon.specs.Outcomes.{IsPastBounds, AreWithin, AreOptionsWithin}
use Rattle.game_canon.specs.declared.thresholds.Value.{Value}
use Rattle.game_canon.specs.declared.thresholds.Value.TheVariants.{Number, PastBounds, NoNumber}

-- the numbers that are at least no game of the first n ids are those below the bound
abbrev pub AreAllFrom : List Tree → List ℕ → ℕ → Option ℤ → Type 0
AreAllFrom Ts is n bound = (f : ℕ) (m h : ℤ) → IsCell EXPONENT (num f m) h → ((j : ℕ) → j < n → tree_at Ts (slice_index_or is j 0) ≤ᵍ num f m → ⊥) ↔ IsBelowBound bound h

-- the numbers that are at most no game of the first n ids are those above the bound
abbrev pub AreAllUpTo : List Tree → List ℕ → ℕ → Option ℤ → Type 0
AreAllUpTo Ts is n bound = (f : ℕ) (m h : ℤ) → IsCell EXPONENT (num f m) h → ((j : ℕ) → j < n → num f m ≤ᵍ tree_at Ts (slice_index_or is j 0) → ⊥) ↔ IsAboveBound bound h

-- the bound, where there is one, is what a floor can be
abbrev pub AreFloorRange : Option ℤ → Type 0
AreFloorRange None = Unit {0}
AreFloorRange (Some k) = IsFloorRange k

-- the bound, where there is one, is what a ceiling can be
abbrev pub AreCeilingRange : Option ℤ → Type 0
AreCeilingRange None = Unit {0}
AreCeilingRange (Some k) = IsCeilingRange k

-- x is further out than the numbers of the options of G by at most 1
abbrev pub IsNear : Tree → ℤ → Type 0
IsNear G x = (b : ℕ) → AreOptionsWithin b G → unsigned_abs x ≤ b + 2 ^ EXPONENT

-- the numbers of the first n games have a size of at most b
abbrev pub AreAllWithin : List Tree → List ℕ → ℕ → ℕ → Type 0
AreAllWithin Ts is n b = (j : ℕ) → j < n → AreWithin b (tree_at Ts (slice_index_or is j 0))

-- the floor, where there is one, is at most 2 b half parts
abbrev pub HasFloorUpTo : Option ℤ → ℕ → Type 0
HasFloorUpTo None b = Unit {0}
HasFloorUpTo (Some k) b = k <ℤ pos (b + b + 1)

-- the ceiling, where there is one, is at least - 2 b half parts
abbrev pub HasCeilingFrom : Option ℤ → ℕ → Type 0
HasCeilingFrom None b = Unit {0}
HasCeilingFrom (Some k) b = negsuc (b + b) <ℤ k

-- what a form is worth: a number, a number past the bounds of a Dyadic, or no number
abbrev pub IsValue : Tree → Value → Type 0
IsValue G (Number x) = IsInBounds x × (G ≤ᵍ number_tree x) × (number_tree x ≤ᵍ G) × IsNear G x
IsValue G PastBounds = IsPastBounds G
IsValue G (NoNumber floor ceiling) = (IsNumber G → ⊥) × IsFloor EXPONENT G floor × IsCeiling EXPONENT G ceiling

-- the lower bound of the numbers that fit, and where there is none an end below all of them
abbrev pub lower : Option ℤ → ℤ
lower None = neg_ℤ (LIMIT +ℤ LIMIT +ℤ pos 1)
lower (Some k) = k

-- the upper bound of the numbers that fit, and where there is none an end above all of them
abbrev pub upper : Option ℤ → ℤ
upper None = LIMIT +ℤ LIMIT +ℤ pos 1
upper (Some k) = k

-- the number at a place of the line, or that there is none within the bounds
abbrev pub IsWorth : ℤ → Value → Type 0
IsWorth h (Number x) = (h ≡ x +ℤ x) × IsInBounds x
IsWorth h PastBounds = (x : ℤ) → IsInBounds x → h ≡ x +ℤ x → ⊥
IsWorth h (NoNumber floor ceiling) = ⊥
