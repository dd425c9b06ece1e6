-- Sums that are equal to a form that came out before.
use Rattle.std.specs.Prelude.{ℕ, ◌≡◌, ◌<◌, ◌⊎◌, List, length, Option, Some, None}
use Rattle.std.specs.List.{slice_index_or}
use Rattle.short_games.specs.Tree.{Tree, Trees, left, right, Has, tree_at}
use Rattle.short_games.specs.Parts.{HasMoreParts}
use Rattle.game_calc.specs.declared.returns.Side.{Side}
use Rattle.game_calc.specs.declared.returns.Side.TheVariants.{Left, Right}

-- the options of the other side
abbrev pub far : Side → Tree → Trees
far Left G = right G
far Right G = left G

-- the id stands in the list
abbrev pub Stands : List ℕ → ℕ → Type 0
Stands ids id = (k : ℕ) × (k < length ids) × (slice_index_or ids k 0 ≡ id)

-- each of the first n ids stands in the other list
abbrev pub AreAmong : List ℕ → List ℕ → ℕ → Type 0
AreAmong ids others n = (j : ℕ) → j < n → j < length ids → Stands others (slice_index_or ids j 0)

-- the move to the id stands in the list, or the other side can answer it by moving to x
abbrev pub IsMet : List Tree → Side → List ℕ → ℕ → ℕ → Type 0
IsMet Ts side near x id = Stands near id ⊎ Has (far side (tree_at Ts id)) (tree_at Ts x)

-- each of the first n moves stands in the list, or the other side can answer it by moving to x
abbrev pub AreMet : List Tree → Side → List ℕ → ℕ → List ℕ → ℕ → Type 0
AreMet Ts side near x ids n = (j : ℕ) → j < n → j < length ids → IsMet Ts side near x (slice_index_or ids j 0)

-- the form with the first two lists of options has all moves of x, whose options are the other two, and each of its moves is one
-- of these or can be answered by moving to x
pub record ReturnsTo (Ts : List Tree) (ls rs ms ns : List ℕ) (x : ℕ) : Type 0 where
  pub left_moves : AreAmong ms ls (length ms)
  pub right_moves : AreAmong ns rs (length ns)
  pub left_met : AreMet Ts Left ms x ls (length ls)
  pub right_met : AreMet Ts Right ns x rs (length rs)

-- the id, where there is one, is of a tree of at most so many parts
abbrev pub IsSmall : List Tree → ℕ → Option ℕ → Type 0
IsSmall Ts limit None = Unit {0}
IsSmall Ts limit (Some id) = (id < length Ts) × (HasMoreParts (tree_at Ts id) limit → ⊥)
