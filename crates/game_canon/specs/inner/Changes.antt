-- What changing a game, follower by follower, has made so far: its negative, or its sum with a number.
use Rattle.std.specs.Prelude.{ℕ, ◌≡◌, ◌<◌, List, [], ◌∷◌, length, ℤ, ◌+ℤ◌, neg_ℤ, Option, Some, None, cond, nat_eq}
use Rattle.std.specs.List.{slice_index_or}
use Rattle.dyadic_num.specs.Units.{IsInBounds}
use Rattle.short_games.specs.Tree.{Tree, Trees, left, right, neg, tree_at}
use Rattle.short_games.specs.Sum.{◌+ᵍ◌}
use Rattle.short_games.specs.Number.{number_tree}
use Rattle.game_store.specs.Meaning.{AreIds, IsAscending}
use Rattle.short_games.specs.Parts.{IsNumberOf, IsInner}
use Rattle.game_canon.specs.Followers.{IsIn}
use Rattle.game_canon.specs.Outcomes.{IsCanonicalId}
use Rattle.game_canon.specs.declared.change.Change.{Change}
use Rattle.game_canon.specs.declared.change.Change.TheVariants.{Negate, Add}
use Rattle.game_canon.specs.declared.errors.FormError.{FormError}
use Rattle.game_canon.specs.declared.errors.FormError.TheVariants.{Parts, Bounds, Memory}

-- what a change makes of a tree: its negative, or its sum with a number
abbrev pub target : Change → Tree → Tree
target Negate G = neg G
target (Add x) G = G +ᵍ number_tree x

-- the options of a tree that a change makes Left options
abbrev pub lefts : Change → Tree → Trees
lefts Negate G = right G
lefts (Add x) G = left G

-- the options of a tree that a change makes Right options
abbrev pub rights : Change → Tree → Trees
rights Negate G = left G
rights (Add x) G = right G

-- of the ids of the Left and of the Right options, those that a change makes Left options
abbrev pub left_list : Change → List ℕ → List ℕ → List ℕ
left_list Negate ls rs = rs
left_list (Add x) ls rs = ls

-- of the ids of the Left and of the Right options, those that a change makes Right options
abbrev pub right_list : Change → List ℕ → List ℕ → List ℕ
right_list Negate ls rs = ls
right_list (Add x) ls rs = rs

-- what a change makes of a number
abbrev pub shifted : Change → ℤ → ℤ
shifted Negate y = neg_ℤ y
shifted (Add x) y = y +ℤ x

-- the change takes the number past the bounds of a Dyadic; a negative is never past them
abbrev pub IsPastShift : Change → ℤ → Type 0
IsPastShift Negate y = ⊥
IsPastShift (Add x) y = IsInBounds (y +ℤ x) → ⊥

-- the id of the canonical tree of what a change makes of G
abbrev pub IsChanged : List Tree → Change → Tree → ℕ → Type 0
IsChanged Ts c G id = IsCanonicalId Ts (target c G) id

-- for the ids of the first list, those at their places in the second are noted
abbrev pub noted : List ℕ → List ℕ → ℕ → Option ℕ
noted [] ks i = None
noted (j ∷ is) [] i = None
noted (j ∷ is) (k ∷ ks) i = cond (nat_eq j i) (Some k) (noted is ks i)

-- for each of the ids another is noted
abbrev pub AreKnown : (ℕ → Option ℕ) → List ℕ → Type 0
AreKnown note is = (j : ℕ) → j < length is → (k : ℕ) × (note (slice_index_or is j 0) ≡ Some k)

-- the ids that are noted for those of the first list, in ascending order
pub record IsMapped (note : ℕ → Option ℕ) (is vs : List ℕ) : Type 0 where
  pub ascends : IsAscending vs
  pub to : (i : ℕ) → i < length is → (j : ℕ) × (j < length vs) × (note (slice_index_or is i 0) ≡ Some (slice_index_or vs j 0))
  pub from : (j : ℕ) → j < length vs → (i : ℕ) × (i < length is) × (note (slice_index_or is i 0) ≡ Some (slice_index_or vs j 0))

-- each option of the id's tree, unless this is a number's, is the tree of an id; and where that id is below this one, what
-- the change makes of it is noted
abbrev pub AreNoted : List Tree → (ℕ → Option ℕ) → Change → ℕ → Type 0
AreNoted Ts note c id = (X : Tree) → IsInner (tree_at Ts id) X → (i : ℕ) × (i < length Ts) × (X ≡ tree_at Ts i) × (i < id → (k : ℕ) × (note i ≡ Some k) × IsChanged Ts c X k)

-- ids in ascending order, with all options of their trees
pub record AreClosed (Ts : List Tree) (is : List ℕ) : Type 0 where
  pub ids : AreIds Ts is
  pub ascends : IsAscending is
  pub closed : (j : ℕ) → j < length is → (X : Tree) → IsInner (tree_at Ts (slice_index_or is j 0)) X → IsIn Ts is X

-- for each of the first n ids the id of what the change makes of its tree is noted
abbrev pub AreDone : (Ts Us : List Tree) → Change → (ℕ → Option ℕ) → List ℕ → ℕ → Type 0
AreDone Ts Us c note is n = (j : ℕ) → j < n → j < length is → (k : ℕ) × (note (slice_index_or is j 0) ≡ Some k) × IsChanged Us c (tree_at Ts (slice_index_or is j 0)) k

-- why a tree isn't changed: it is a number's, which the change takes past the bounds
abbrev pub IsRefusedAt : Change → Tree → FormError → Type 0
IsRefusedAt c G Parts = ⊥
IsRefusedAt c G Bounds = (y : ℤ) × (G ≡ number_tree y) × IsPastShift c y
IsRefusedAt c G (Memory cause) = Unit {0}

-- why a form isn't changed: a number of it goes past the bounds
abbrev pub IsRefused : Change → Tree → FormError → Type 0
IsRefused c G Parts = ⊥
IsRefused c G Bounds = (y : ℤ) × IsNumberOf G y × IsPastShift c y
IsRefused c G (Memory cause) = Unit {0}
