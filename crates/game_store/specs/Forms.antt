-- What a form that a store lends says of its id.
use Rattle.std.specs.Prelude.{ℕ, ◌≡◌, ◌<◌, List, length}
use Rattle.dyadic_num.specs.Units.{IsInBounds}
use Rattle.short_games.specs.Tree.{Tree, tree_at}
use Rattle.short_games.specs.Number.{IsNumberTree, number_tree}
use Rattle.game_store.specs.Meaning.{form, AreBelow, IsAscending, Wanted}
use Rattle.game_store.specs.Meaning.Wanted.{number, options}
use Rattle.game_store.specs.declared.Form.{Form}
use Rattle.game_store.specs.declared.Form.TheVariants.{Number, Options}

-- the number or the options of a lent form
abbrev pub wanted : Form → Wanted
wanted (Number x) = number x
wanted (Options ls rs) = options ls.now rs.now

-- the tree of the id is that of the options, some on each side, ids below it in ascending order, and it is no number's
pub record IsOptions (Ts : List Tree) (id : ℕ) (ls rs : List ℕ) : Type 0 where
  pub tree : tree_at Ts id ≡ form Ts ls rs
  pub left_below : AreBelow id ls
  pub right_below : AreBelow id rs
  pub left_ascends : IsAscending ls
  pub right_ascends : IsAscending rs
  pub left_some : 0 < length ls
  pub right_some : 0 < length rs
  pub no_number : IsNumberTree (tree_at Ts id) → ⊥

-- the tree of the id is the number's, or that of the options, which are ids below it in ascending order, and no number's
abbrev pub IsMeaning : List Tree → ℕ → Wanted → Type 0
IsMeaning Ts id (number x) = tree_at Ts id ≡ number_tree x
IsMeaning Ts id (options ls rs) = IsOptions Ts id ls rs

-- the form that is lent says what the tree of the id is
abbrev pub IsFormOf : List Tree → ℕ → Form → Type 0
IsFormOf Ts id f = IsMeaning Ts id (wanted f)

-- a number is within the bounds of a Dyadic; of options nothing is asked
abbrev pub IsWithinBounds : Wanted → Type 0
IsWithinBounds (number x) = IsInBounds x
IsWithinBounds (options ls rs) = Unit {0}

-- the tree of each id is that of a number within the bounds of a Dyadic, or that of options which are ids below it
abbrev pub HaveForms : List Tree → Type 0
HaveForms Ts = (id : ℕ) → id < length Ts → (w : Wanted) × IsMeaning Ts id w × IsWithinBounds w
