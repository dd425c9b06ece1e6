-- Lists of ids in order.
use Rattle.std.specs.Prelude.{ℕ, ◌≡◌, ◌<◌, ◌≤◌, ◌⊎◌, List, length}
use Rattle.std.specs.List.{slice_index_or, sum_by}
use Rattle.game_store.specs.Meaning.{IsAscending}

-- the ids of the first list in ascending order, each once
pub record IsInOrder (is vs : List ℕ) : Type 0 where
  pub ascends : IsAscending vs
  pub to : (i : ℕ) → i < length is → (j : ℕ) × (j < length vs) × (slice_index_or is i 0 ≡ slice_index_or vs j 0)
  pub from : (j : ℕ) → j < length vs → (i : ℕ) × (i < length is) × (slice_index_or vs j 0 ≡ slice_index_or is i 0)
  pub fewer : (f : ℕ → ℕ) → sum_by f vs ≤ sum_by f is

-- the id stands in the list
abbrev pub Stands : List ℕ → ℕ → Type 0
Stands is id = (j : ℕ) × (j < length is) × (slice_index_or is j 0 ≡ id)

-- the place comes behind the ids that are below the id, and before the others
pub record IsPlaceOf (is : List ℕ) (id place : ℕ) : Type 0 where
  pub inside : place ≤ length is
  pub before : (j : ℕ) → j < place → slice_index_or is j 0 < id
  pub from : (j : ℕ) → place ≤ j → j < length is → id ≤ slice_index_or is j 0

-- the ids of the first list and one more, in ascending order
pub record IsWith (is : List ℕ) (id : ℕ) (us : List ℕ) : Type 0 where
  pub ascends : IsAscending us
  pub kept : (i : ℕ) → Stands is i → Stands us i
  pub new : Stands us id
  pub from : (i : ℕ) → Stands us i → Stands is i ⊎ (i ≡ id)
