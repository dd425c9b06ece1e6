-- A walk through places as they are found, depth first.
use Rattle.std.specs.Prelude.{◌≡◌, ◌≢◌, ℕ, ◌<◌, ◌⊎◌, Bool, false, List, [], ◌∷◌, ◌++◌, length, slice_index, slice_index_or, Contains, Option, None, Some, IfSome, count_by}
use Rattle.std.specs.List.{AllPairs}
use Rattle.local_graph.specs.declared.graph.Edge.{Edge}
use Rattle.local_graph.specs.declared.search.Visit.{Visit}
use Rattle.local_graph.specs.declared.search.Visit.TheVariants.{New, OnPath, Placed}
use Rattle.local_graph.specs.declared.walk.Task.{Task}
use Rattle.local_graph.specs.declared.walk.Task.TheVariants.{Enter, Leave}
use Rattle.local_graph.specs.declared.walk.Walk.{Walk}
use Rattle.local_graph.specs.inner.Graph.{edges_at}
use Rattle.local_graph.specs.inner.Searching.{visit_at, is_new}

-- the place that a task is about
abbrev pub place_of : Task → ℕ
place_of (Enter i) = i
place_of (Leave i) = i

-- the task with a number, where past the last no place is left
abbrev pub task_at : List Task → ℕ → Task
task_at tasks k = slice_index_or tasks k (Enter 0)

-- a task above the one with number `k`, which is done before it, is about the place
abbrev pub IsAbove : List Task → ℕ → ℕ → Type 0
IsAbove tasks k i = (j : ℕ) × (k < j) × (j < length tasks) × (place_of (task_at tasks j) ≡ i)

-- The places that are placed make an order with ends first. Those on the path are still to be left, and the places that their
-- edges lead to are in the order, or a task above is about them.
pub record Ordering (edges : List (List Edge)) (visits : List Visit) (tasks : List Task) (order : List ℕ) : Type 0 where
  pub on_path : (i : ℕ) → visit_at visits i ≡ OnPath → Contains tasks (Leave i)
  pub not_new : (k i : ℕ) → task_at tasks k ≡ Leave i → visit_at visits i ≢ New
  pub ahead : (k i : ℕ) (e : Edge) → task_at tasks k ≡ Leave i → Contains (edges_at edges i) e
      → (visit_at visits e.next ≡ Placed) ⊎ IsAbove tasks k e.next
  pub placed : (i : ℕ) → visit_at visits i ≡ Placed → Contains order i
  pub of_order : (i : ℕ) → Contains order i → visit_at visits i ≡ Placed
  pub once : AllPairs (λ a b. a ≢ b) order
  pub ends_first : (k : ℕ) (e : Edge) → k < length order → Contains (edges_at edges (slice_index order k)) e
      → (j : ℕ) × (j < k) × (slice_index order j ≡ e.next)

-- each task is about one of the places
abbrev pub AreInside : List Visit → List Task → Type 0
AreInside visits tasks = (t : Task) → Contains tasks t → place_of t < length visits

-- each new place is still to be entered, and there is an order of those that were left, unless a cycle was met
pub record IsWalk (edges : List (List Edge)) (visits : List Visit) (tasks : List Task) (order : List ℕ) (has_cycle : Bool) : Type 0 where
  pub inside : AreInside visits tasks
  pub new : (i : ℕ) → i < length visits → visit_at visits i ≡ New → Contains tasks (Enter i)
  pub ordering : has_cycle ≡ false → Ordering edges visits tasks order

-- the walk with these tasks
abbrev pub WalksWith : List (List Edge) → Walk → List Task → Type 0
WalksWith edges w tasks = IsWalk edges w.visits.items tasks w.order.items w.has_cycle

-- a walk of no places yet
pub record IsBegun (w : Walk) : Type 0 where
  pub visits : w.visits.items ≡ []
  pub tasks : w.tasks.items ≡ Enter 0 ∷ []
  pub order : w.order.items ≡ []

-- the new places stay new, and no other place becomes it
pub record KeepsNew (before after : List Visit) : Type 0 where
  pub long : length after ≡ length before
  pub new : (i : ℕ) → visit_at before i ≡ New → visit_at after i ≡ New
  pub many : count_by is_new after ≡ count_by is_new before

-- the tasks with that of entering the place that was found
abbrev pub with_entering : List Task → Option ℕ → List Task
with_entering tasks None = tasks
with_entering tasks (Some i) = tasks ++ Enter i ∷ []

-- the walk goes on from these tasks, up to a new place to be entered
pub record Goes (before : Walk) (tasks : List Task) (after : Walk) (found : Option ℕ) : Type 0 where
  pub visits : KeepsNew before.visits.items after.visits.items
  pub new : IfSome found (λ i. visit_at after.visits.items i ≡ New)
  pub walk : (edges : List (List Edge)) → WalksWith edges before tasks → WalksWith edges after (with_entering after.tasks.items found)

-- behind the tasks stands the entering of what the edges lead to, but for what is placed
pub record AreTargets (visits : List Visit) (edges : List Edge) (before after : List Task) : Type 0 where
  pub more : List Task
  pub behind : after ≡ before ++ more
  pub only : (t : Task) → Contains more t → (e : Edge) × Contains edges e × (t ≡ Enter e.next)
  pub each : (e : Edge) → Contains edges e → (visit_at visits e.next ≡ Placed) ⊎ Contains more (Enter e.next)

-- one walk is as the other but for its tasks
pub record IsAsBefore (before after : Walk) : Type 0 where
  pub visits : after.visits.items ≡ before.visits.items
  pub order : after.order.items ≡ before.order.items
  pub has_cycle : after.has_cycle ≡ before.has_cycle

-- the place is left behind the tasks
pub record IsOpened (place : ℕ) (before after : Walk) : Type 0 where
  pub same : IsAsBefore before after
  pub tasks : after.tasks.items ≡ before.tasks.items ++ Leave place ∷ []

-- the place is entered behind the tasks, unless it is placed
pub record IsAimed (place : ℕ) (before after : Walk) : Type 0 where
  pub same : IsAsBefore before after
  pub tasks : ((visit_at before.visits.items place ≡ Placed) × (after.tasks.items ≡ before.tasks.items))
      ⊎ (after.tasks.items ≡ before.tasks.items ++ Enter place ∷ [])
