-- A search for strong components along a path, which joins components so far where an edge leads back to an earlier one.
use Rattle.std.specs.Prelude.{◌≡◌, ◌≢◌, ℕ, ◌+◌, ◌*◌, ◌^◌, ◌<◌, ◌≤◌, ◌⊎◌, List, [], ◌∷◌, ◌++◌, length, slice_index, slice_index_or, Contains, Bool, true, false, count_by, sum_by}
use Rattle.std.specs.List.{AllPairs}
use Rattle.local_graph.specs.declared.graph.Edge.{Edge}
use Rattle.local_graph.specs.declared.strong_components.Turn.{Turn}
use Rattle.local_graph.specs.declared.strong_components.Mark.{Mark}
use Rattle.local_graph.specs.declared.strong_components.Mark.TheVariants.{New, Waiting, Told}
use Rattle.local_graph.specs.inner.Built.{IsEdgeAt, Follows}
use Rattle.local_graph.specs.inner.Graph.{edges_at, edge_at}

-- some list of edges leads from one node to the other
abbrev pub LeadsTo : List (List Edge) → ℕ → ℕ → Type 0
LeadsTo edges i j = (es : List Edge) × Follows edges i es j

-- Each node has the number of its component. Two nodes of one number lead to each other, and no edge leads to a greater number.
pub record AreComponents (edges : List (List Edge)) (components : List ℕ) : Type 0 where
  pub long : length components ≡ length edges
  pub together : (i j : ℕ) → i < length edges → j < length edges → slice_index components i ≡ slice_index components j → LeadsTo edges i j
  pub down : (i : ℕ) (e : Edge) → i < length edges → IsEdgeAt edges i e → slice_index components e.next ≤ slice_index components i

-- the mark of a node, where past the last it is new
abbrev pub mark_at : List Mark → ℕ → Mark
mark_at marks i = slice_index_or marks i New

-- each component so far that begins up to the first place begins up to the second
abbrev pub BeginsBy : List ℕ → ℕ → ℕ → Type 0
BeginsBy starts a b = (s : ℕ) → Contains starts s → s ≤ a → s ≤ b

-- the node has a number, or it waits at a place by which the component so far of place `a` begins
abbrev pub IsSettled : List ℕ → List Mark → ℕ → ℕ → Type 0
IsSettled starts marks a i = ((n : ℕ) × (mark_at marks i ≡ Told n)) ⊎ ((b : ℕ) × (mark_at marks i ≡ Waiting b) × BeginsBy starts a b)

-- of the node that waits at a place the edge with the number was followed
abbrev pub IsFollowed : List Turn → ℕ → ℕ → Type 0
IsFollowed path a k = (t : Turn) → Contains path t → t.at ≡ a → t.left ≤ k

-- the search has not yet come to the node
abbrev pub is_new : Mark → Bool
is_new New = true
is_new (Waiting a) = false
is_new (Told n) = false

-- the node has a number
abbrev pub is_told : Mark → Bool
is_told New = false
is_told (Waiting a) = false
is_told (Told n) = true

-- The search under way. The nodes that wait lie one behind another, in components so far that begin at `starts`. Each node
-- leads to those of its own component so far, and of all later ones. Nodes that are told lead to told ones alone.
pub record Telling (edges : List (List Edge)) (path : List Turn) (waiting starts : List ℕ) (marks : List Mark) (told : ℕ) : Type 0 where
  pub long : length marks ≡ length edges
  pub root : mark_at marks 0 ≢ New
  pub waits : (a : ℕ) → a < length waiting → mark_at marks (slice_index waiting a) ≡ Waiting a
  pub of_waiting : (i a : ℕ) → mark_at marks i ≡ Waiting a → (a < length waiting) × (slice_index waiting a ≡ i)
  pub turns : (t : Turn) → Contains path t
      → (t.at < length waiting) × (t.left ≤ length (edges_at edges (slice_index waiting t.at)))
  pub path_up : AllPairs (λ t u. t.at < u.at) path
  pub starts_up : AllPairs (λ s t. s < t) starts
  pub on_path : (s : ℕ) → Contains starts s → (t : Turn) × Contains path t × (t.at ≡ s)
  pub first : 0 < length waiting → Contains starts 0
  pub leads : (a b : ℕ) → a < length waiting → b < length waiting → BeginsBy starts a b
      → LeadsTo edges (slice_index waiting a) (slice_index waiting b)
  pub followed : (a k : ℕ) → a < length waiting → k < length (edges_at edges (slice_index waiting a)) → IsFollowed path a k
      → IsSettled starts marks a (edge_at edges (slice_index waiting a) k).next
  pub together : (i j n : ℕ) → mark_at marks i ≡ Told n → mark_at marks j ≡ Told n → LeadsTo edges i j
  pub down : (i n : ℕ) (e : Edge) → mark_at marks i ≡ Told n → IsEdgeAt edges i e → (m : ℕ) × (mark_at marks e.next ≡ Told m) × (m ≤ n)
  pub below : (i n : ℕ) → mark_at marks i ≡ Told n → n < told
  pub few : told ≤ count_by is_told marks

-- the turn is the last of the path
abbrev pub IsLastTurn : List Turn → Turn → Type 0
IsLastTurn path t = (front : List Turn) × (path ≡ front ++ t ∷ [])

-- the numbers up to a place that ascend, of those that did
pub record AreUpTo (old : List ℕ) (place : ℕ) (new : List ℕ) : Type 0 where
  pub up : AllPairs (λ s t. s < t) new
  pub kept : (s : ℕ) → Contains old s → s ≤ place → Contains new s
  pub of_old : (s : ℕ) → Contains new s → Contains old s × (s ≤ place)

-- all nodes that wait from a place on got the number, and no others
pub record TellsFrom (waiting : List ℕ) (marks : List Mark) (at number : ℕ) (still : List ℕ) (now : List Mark) : Type 0 where
  pub count : length still ≡ at
  pub front : (a : ℕ) → a < at → slice_index still a ≡ slice_index waiting a
  pub long : length now ≡ length marks
  pub members : (a : ℕ) → at ≤ a → a < length waiting → mark_at now (slice_index waiting a) ≡ Told number
  pub others : (i : ℕ) → ((a : ℕ) → at ≤ a → a < length waiting → slice_index waiting a ≢ i) → mark_at now i ≡ mark_at marks i
  pub met : count_by is_new now ≡ count_by is_new marks
  pub more : count_by is_told now + at ≡ count_by is_told marks + length waiting

-- the work that the search has still to do, as a number: new nodes weigh most, then the edges that are left to follow
abbrev pub work_left : List Turn → List Mark → ℕ
work_left path marks = count_by is_new marks * 2 ^ 64 + sum_by (λ t. t.left + 1) path

-- what a step of the search leads to, with less work left than before, or that the path is at its end
abbrev pub GoesOn : List (List Edge) → ℕ → List Turn → List ℕ → List ℕ → List Mark → ℕ → Bool → Type 0
GoesOn edges work path waiting starts marks told true = Telling edges path waiting starts marks told × (work_left path marks < work)
GoesOn edges work path waiting starts marks told false = Telling edges [] waiting starts marks told
