-- The path of a depth-first search.
use Rattle.std.proofs.Common.{◌≡◌, ◌≢◌, ℕ, ◌+◌, ◌<◌, inl, inr, zero, suc, arith, sym, ap, ◌∙◌, List, [], ◌∷◌, ◌++◌, map, length, get_or, take, drop, subst, below_more}
use Rattle.std.specs.List.{Contains}
use Rattle.std.proofs.lemmas.Bool.{cases_lt}
use Rattle.std.proofs.lemmas.List.{length_push, length-map, get_or-map, get_or_default}
use Rattle.std.proofs.lemmas.Simd.{map-map}
use Rattle.std.proofs.lemmas.List.Elements.{Contains-get_or}
use Rattle.local_graph.specs.declared.cycle.CycleMove.{CycleMove}
use Rattle.local_graph.specs.declared.graph.Edge.{Edge}
use Rattle.local_graph.specs.declared.search.Frame.{Frame}
use Rattle.local_graph.specs.declared.search.Visit.{Visit}
use Rattle.local_graph.specs.declared.search.Visit.TheVariants.{Placed}
use Rattle.local_graph.specs.inner.Built.{Follows, ComesBack, IsEdgeAt, IsRooted, move_of}
use Rattle.local_graph.specs.inner.Graph.{edges_at, no_edge, edge_at}
use Rattle.local_graph.specs.inner.Searching.{visit_at, nodes_of, Trail, IsPath, Returns}

push_some : (fs : List Frame) (f : Frame) → fs ++ f ∷ [] ≡ [] → ⊥
push_some fs f e = let l = ap length e in omega (arith, length_push fs f)

-- the last frame of a path is one
pub last_frame : (E : List (List Edge)) (visits : List Visit) (i : ℕ) (front : List Frame) (f : Frame) → IsPath E visits i (front ++ f ∷ [])
    → IsPath E visits f.node (f ∷ [])
last_frame E visits i [] f p = subst (λ x. IsPath E visits x (f ∷ [])) (sym p.0) p
last_frame E visits i (g ∷ gs) f (is, most, after, here) = elim here [
  | inl w ↦ absurd (push_some gs f w.1)
  | inr w ↦ last_frame E visits (edge_at E i g.left).next gs f w.1
]

-- another end of a path, where what was placed stays placed
pub path_end : (E : List (List Edge)) (visits now : List Visit) (i : ℕ) (front : List Frame) (f : Frame) (rest : List Frame)
    → IsPath E visits i (front ++ f ∷ []) → ((q : ℕ) → visit_at visits q ≡ Placed → visit_at now q ≡ Placed)
    → IsPath E now f.node rest → IsPath E now i (front ++ rest)
path_end E visits now i [] f rest p kept new = subst (λ x. IsPath E now x rest) p.0 new
path_end E visits now i (g ∷ gs) f rest (is, most, after, here) kept new = (
  is,
  most,
  λ k past short. kept (edge_at E i k).next (after k past short),
  elim here [
    | inl w ↦ absurd (push_some gs f w.1)
    | inr w ↦ inr (w.0, path_end E visits now (edge_at E i g.left).next gs f rest w.1 kept new)
  ],
)

-- the frames before the last lead to its node
pub path_trail : (E : List (List Edge)) (visits : List Visit) (i : ℕ) (front : List Frame) (f : Frame) → IsPath E visits i (front ++ f ∷ [])
    → Trail E i front f.node
path_trail E visits i [] f p = sym p.0
path_trail E visits i (g ∷ gs) f (is, most, after, here) = elim here [
  | inl w ↦ absurd (push_some gs f w.1)
  | inr w ↦ (is, w.0, path_trail E visits (edge_at E i g.left).next gs f w.1)
]

-- one frame more
pub trail_push : (E : List (List Edge)) (i : ℕ) (front : List Frame) (g : Frame) → Trail E i front g.node
    → g.left < length (edges_at E g.node) → Trail E i (front ++ g ∷ []) (edge_at E g.node g.left).next
trail_push E i [] g t lt =
    (sym t, subst (λ x. g.left < length (edges_at E x)) (sym t) lt, ap (λ x. (edge_at E x g.left).next) t)
trail_push E i (f ∷ fs) g (is, short, rest) lt = (is, short, trail_push E (edge_at E i f.left).next fs g rest lt)

-- the edges along a path
pub along_path : List (List Edge) → List Frame → List Edge
along_path E path = map (λ f. edge_at E f.node f.left) path

pub along_long : (E : List (List Edge)) (path : List Frame) → length (along_path E path) ≡ length path
unfolding along_path
along_long E path = length-map path (λ f. edge_at E f.node f.left)

-- each frame has an edge that is left
pub trail_at : (E : List (List Edge)) (i j k : ℕ) (d : Frame) (path : List Frame) → Trail E i path j → k < length path
    → (get_or path k d).left < length (edges_at E (get_or path k d).node)
trail_at E i j k d [] t lt = absurd (omega arith)
trail_at E i j zero d (f ∷ fs) (is, short, rest) lt = subst (λ x. f.left < length (edges_at E x)) (sym is) short
trail_at E i j (suc k) d (f ∷ fs) (is, short, rest) lt = trail_at E (edge_at E i f.left).next j k d fs rest (omega arith)

-- the front of the edges leads to the frame at its end, and the others lead on from there
pub trail_split : (E : List (List Edge)) (i j k : ℕ) (path : List Frame) → Trail E i path j → k < length path
    → Follows E i (take k (along_path E path)) (get_or (nodes_of path) k 0)
    × Follows E (get_or (nodes_of path) k 0) (drop k (along_path E path)) j
unfolding along_path
trail_split E i j k [] t lt = absurd (omega arith)
trail_split E i j zero (f ∷ fs) t lt = (sym t.0, subst (λ x. Follows E x (along_path E (f ∷ fs)) j) (sym t.0) (whole E i j (f ∷ fs) t))
  where
    whole : (E : List (List Edge)) (i j : ℕ) (path : List Frame) → Trail E i path j → Follows E i (along_path E path) j
    whole E i j [] t = t
    whole E i j (f ∷ fs) (is, short, rest) =
        subst (λ x. IsEdgeAt E i (edge_at E x f.left) × Follows E (edge_at E x f.left).next (along_path E fs) j) (sym is)
        (Contains-get_or (edges_at E i) f.left no_edge short, whole E (edge_at E i f.left).next j fs rest)
trail_split E i j (suc k) (f ∷ fs) (is, short, rest) lt =
    let more = trail_split E (edge_at E i f.left).next j k fs rest (omega arith) in (
      subst (λ x. IsEdgeAt E i (edge_at E x f.left) × Follows E (edge_at E x f.left).next (take k (along_path E fs)) (get_or (nodes_of fs) k 0)) (sym is)
          (Contains-get_or (edges_at E i) f.left no_edge short, more.0),
      more.1,
    )

-- edges lead to one node
follows_one : (E : List (List Edge)) (i a b : ℕ) (es : List Edge) → Follows E i es a → Follows E i es b → a ≡ b
follows_one E i a b [] p q = sym p ∙ q
follows_one E i a b (e ∷ es) p q = follows_one E e.next a b es p.1 q.1

-- the moves along a path are those of its edges
along_moves : (E : List (List Edge)) (path : List Frame)
    → map move_of (along_path E path) ≡ map (λ f. move_of (edge_at E f.node f.left)) path
unfolding along_path
along_moves E path = map-map move_of (λ f. edge_at E f.node f.left) path

-- a path that returns is a cycle
pub path_returns : (E : List (List Edge)) (path : List Frame) (node back : ℕ) (ms : List CycleMove) → Returns E path node
    → back < length path → get_or (nodes_of path) back 0 ≡ node → ms ≡ map (λ f. move_of (edge_at E f.node f.left)) path → ComesBack E ms back
path_returns E path node back ms r lt at is =
    let long = along_long E path in
    let nodes = length-map path (λ f. f.node) in
    let split = trail_split E 0 node back path r.trail lt in record {
      along = along_path E path;
      moves = along_moves E path ∙ sym is;
      before_end = omega arith;
      node = node;
      there = subst (λ x. Follows E 0 (take back (along_path E path)) x) at split.0;
      again = subst (λ x. Follows E x (drop back (along_path E path)) node) at split.1;
      different = λ i j a b less short p q e.
          let first = follows_one E 0 a (get_or (nodes_of path) i 0) _ p (trail_split E 0 node i path r.trail (omega arith)).0 in
          let second = follows_one E 0 b (get_or (nodes_of path) j 0) _ q (trail_split E 0 node j path r.trail (omega arith)).0 in
          r.apart i j 0 less (omega arith) (sym first ∙ e ∙ second);
    }

-- a look along a path for a node that is on it
pub look_on : (path : List Frame) (node place : ℕ) → Contains (nodes_of path) node → ((k : ℕ) → k < place → get_or (nodes_of path) k 0 ≢ node)
    → place < length path
look_on path node place (k, lt, at) none = elim (cases_lt place (length path)) as (λ _. place < length path) [
  | inl less ↦ less
  | inr le ↦ absurd (none k (omega (arith, length-map path (λ f. f.node))) (get_or_default (nodes_of path) k 0 node lt ∙ at))
]

pub look_more : (path : List Frame) (node place : ℕ) (d : Frame) → Contains (nodes_of path) node
    → ((k : ℕ) → k < place → get_or (nodes_of path) k 0 ≢ node) → (get_or path place d).node ≢ node
    → (k : ℕ) → k < place + 1 → get_or (nodes_of path) k 0 ≢ node
look_more path node place d there none apart =
    below_more (λ k. get_or (nodes_of path) k 0 ≢ node) place none
    (λ e. apart (sym (get_or-map (λ f. f.node) path place d 0 (look_on path node place there none)) ∙ e))

-- an edge of a node leads to a node
pub next_inside : (E : List (List Edge)) (i k : ℕ) → IsRooted E → k < length (edges_at E i) → (edge_at E i k).next < length E
next_inside E i k r lt = r.inside i (edge_at E i k) (Contains-get_or (edges_at E i) k no_edge lt)
