-- Whether a path returns, by a look along it.
use Rattle.std.proofs.Common.{◌≡◌, ◌≢◌, ℕ, ◌+◌, ◌<◌, arith, sym, ◌∙◌, List, [], ◌∷◌, ◌++◌, length, get_or, take, subst, below_more}
use Rattle.std.specs.List.{AllPairs, Contains}
use Rattle.std.proofs.lemmas.List.{length-map, get_or-map, get_or_default, take_more, map-append}
use Rattle.std.proofs.lemmas.List.Quantifiers.{all_pairs_push}
use Rattle.local_graph.specs.declared.graph.Edge.{Edge}
use Rattle.local_graph.specs.declared.search.Frame.{Frame}
use Rattle.local_graph.specs.inner.Built.{IsRooted}
use Rattle.local_graph.specs.inner.Graph.{edges_at, edge_at}
use Rattle.local_graph.specs.inner.Searching.{nodes_of, Trail}
use Rattle.local_graph.proofs.PathLemmas.{trail_push, next_inside}

abbrev pub no_frame : Frame
no_frame = record { node = 0; left = 0 }

-- one frame more along a path
pub going_on : (E : List (List Edge)) (path : List Frame) (k at : ℕ) (here : List Edge) → IsRooted E → k < length path
    → Trail E 0 (take k path) at → (get_or path k no_frame).node ≡ at → here ≡ edges_at E at → (get_or path k no_frame).left < length here
    → Trail E 0 (take (k + 1) path) (edge_at E at (get_or path k no_frame).left).next × ((edge_at E at (get_or path k no_frame).left).next < length E)
going_on E path k at here r lt t e same less =
    let f = get_or path k no_frame in
    let more : f.left < length (edges_at E at) = subst (λ xs. f.left < length xs) same less in (
      subst (λ xs. Trail E 0 xs (edge_at E at f.left).next) (sym (take_more path k no_frame lt))
          (subst (λ x. Trail E 0 (take k path ++ f ∷ []) (edge_at E x f.left).next) e
          (trail_push E 0 (take k path) f (subst (Trail E 0 (take k path)) (sym e) t) (subst (λ x. f.left < length (edges_at E x)) (sym e) more))),
      next_inside E at f.left r more,
    )

pub looked_more : (path : List Frame) (k node : ℕ) → ((i : ℕ) → i < k → get_or (nodes_of path) i 0 ≢ node) → k < length path
    → ((get_or path k no_frame).node ≡ node → ⊥) → (i : ℕ) → i < k + 1 → get_or (nodes_of path) i 0 ≢ node
looked_more path k node none lt apart =
    below_more (λ i. get_or (nodes_of path) i 0 ≢ node) k none (λ e. apart (sym (get_or-map (λ f. f.node) path k no_frame 0 lt) ∙ e))

pub not_there : (path : List Frame) (node : ℕ) → ((i : ℕ) → i < length path → get_or (nodes_of path) i 0 ≢ node) → Contains (nodes_of path) node → ⊥
not_there path node none (i, lt, e) =
    none i (omega (arith, length-map path (λ f. f.node))) (get_or_default (nodes_of path) i 0 node lt ∙ e)

-- one frame more, whose node none before has
pub apart_more : (path : List Frame) (k : ℕ) → AllPairs (λ a b. a ≢ b) (nodes_of (take k path)) → k < length path
    → (Contains (nodes_of (take k path)) (get_or path k no_frame).node → ⊥) → AllPairs (λ a b. a ≢ b) (nodes_of (take (k + 1) path))
apart_more path k apart lt none =
    let front = nodes_of (take k path) in
    subst (λ xs. AllPairs (λ a b. a ≢ b) (nodes_of xs)) (sym (take_more path k no_frame lt))
    (subst (AllPairs (λ a b. a ≢ b)) (sym (map-append (λ f. f.node) (take k path) (get_or path k no_frame ∷ [])))
    (all_pairs_push (λ a b. a ≢ b) front (get_or path k no_frame).node apart
    (λ i e less same. none (i, less, get_or_default front i (get_or path k no_frame).node e less ∙ same))))
