-- What the entries of a store mean, by the lists of its pool.
use Rattle.std.specs.Prelude.{ℕ, ◌<◌, ◌≤◌, List, [], ◌∷◌, ◌++◌, length, take, drop, pos}
use Rattle.std.specs.List.{slice_index_or}
use Rattle.short_games.specs.Tree.{Tree, tree_at, AreDistinct}
use Rattle.short_games.specs.Number.{IsNumberTree, number_tree}
use Rattle.game_store.specs.declared.Entry.{Entry}
use Rattle.game_store.specs.declared.Entry.TheVariants.{Number, Options}
use Rattle.game_store.specs.Meaning.{form, Wanted, AreBelow, IsAscending, AreCanonical}
use Rattle.game_store.specs.Meaning.Wanted.{number, options}

-- the tree of a number, or of options, which are ids
abbrev pub meaning : List Tree → Wanted → Tree
meaning Ts (number x) = number_tree x
meaning Ts (options ls rs) = form Ts ls rs

-- the list at a place of a pool
abbrev pub list_at : List (List ℕ) → ℕ → List ℕ
list_at lists place = slice_index_or lists place []

-- what an entry holds, where the options of both sides are one list, the Left ones first
abbrev pub held : List (List ℕ) → Entry → Wanted
held lists (Number x) = number x
held lists (Options place left_count) = options (take left_count (list_at lists place)) (drop left_count (list_at lists place))

-- the tree of an entry, where Ts are those of the entries before it
abbrev pub value_of : List (List ℕ) → List Tree → Entry → Tree
value_of lists Ts e = meaning Ts (held lists e)

-- the trees of the entries, after those of Ts
abbrev pub values_after : List (List ℕ) → List Tree → List Entry → List Tree
values_after lists Ts [] = Ts
values_after lists Ts (e ∷ es) = values_after lists (Ts ++ value_of lists Ts e ∷ []) es

-- the trees of the entries, one for each
abbrev pub values : List (List ℕ) → List Entry → List Tree
values lists es = values_after lists [] es

-- the entry at a place, the number 0 past the last
abbrev pub entry_at : List Entry → ℕ → Entry
entry_at es k = slice_index_or es k (Number (pos 0))

-- ids below k, of which the first are Left's: some on both sides, each in order
pub record AreOptions (k left_count : ℕ) (is : List ℕ) : Type 0 where
  pub below : AreBelow k is
  pub left_ascends : IsAscending (take left_count is)
  pub right_ascends : IsAscending (drop left_count is)
  pub left_some : 0 < left_count
  pub right_some : left_count < length is

-- the options of entry `k`, if it has any, are a list of the pool, of ids below `k`, some on each side, in ascending order
abbrev pub Fits : List (List ℕ) → ℕ → Entry → Type 0
Fits lists k (Number x) = Unit {0}
Fits lists k (Options place left_count) = (place < length lists) × AreOptions k left_count (list_at lists place)

-- the options of each entry are a list of the pool, of ids below its own, some on each side, in ascending order
abbrev pub AllFit : List (List ℕ) → List Entry → Type 0
AllFit lists es = (k : ℕ) → k < length es → Fits lists k (entry_at es k)

-- the tree G of an entry with options is no number's
abbrev pub IsNoNumber : Tree → Entry → Type 0
IsNoNumber G (Number x) = Unit {0}
IsNoNumber G (Options place left_count) = IsNumberTree G → ⊥

-- what a store keeps: the options of entries fit, the trees are different and canonical, and with options they are no numbers'
pub record IsKept (lists : List (List ℕ)) (es : List Entry) : Type 0 where
  pub fit : AllFit lists es
  pub distinct : AreDistinct (values lists es)
  pub canonical : AreCanonical (values lists es)
  pub no_numbers : (k : ℕ) → k < length es → IsNoNumber (tree_at (values lists es) k) (entry_at es k)

-- the options of the entry, if it has any, are a list of the pool, and those of Left a front part of it
abbrev pub IsWithin : List (List ℕ) → Entry → Type 0
IsWithin lists (Number x) = Unit {0}
IsWithin lists (Options place left_count) = (place < length lists) × (left_count ≤ length (list_at lists place))

-- the options of each entry are a list of the pool, and those of Left a front part of it
abbrev pub Within : List (List ℕ) → List Entry → Type 0
Within lists es = (k : ℕ) → k < length es → IsWithin lists (entry_at es k)
