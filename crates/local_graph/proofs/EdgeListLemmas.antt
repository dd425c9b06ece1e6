-- Lists of edges, one behind another in one list.
use Rattle.std.proofs.Common.{◌≡◌, ℕ, ◌+◌, ◌-◌, ◌<◌, ◌≤◌, inl, inr, arith, refl, ap, ◌∙◌, List, [], ◌∷◌, ◌++◌, length, take, drop, set, subst, sym, length-drop, length-append}
use Rattle.std.proofs.lemmas.Bool.{cases_lt}
use Rattle.std.proofs.Math.Seq.{drop-append_seam}
use Rattle.std.proofs.lemmas.List.{map-set, take_all, take-append-le, drop-append-le, get_or_past}
use Rattle.std.proofs.lemmas.List.Elements.{All-head, All-tail, All-set, All-weaker}
use Rattle.local_graph.specs.declared.graph.Edge.{Edge}
use Rattle.local_graph.specs.declared.edge_lists.Span.{Span}
use Rattle.local_graph.specs.inner.Graph.{part, lists_of, AreWithin, edges_at}

-- a part stays the same with more edges behind
part_more : (edges more : List Edge) (s : Span) → s.start ≤ s.end → s.end ≤ length edges → part (edges ++ more) s ≡ part edges s
part_more edges more s rising within =
    let size : length (drop s.start edges) ≡ length edges - s.start = length-drop s.start edges in
    ap (take (s.end - s.start)) (drop-append-le s.start edges more (omega arith))
    ∙ take-append-le (s.end - s.start) (drop s.start edges) more (omega arith)

lists_more : (edges more : List Edge) (spans : List Span) → AreWithin (length edges) spans
    → lists_of (edges ++ more) spans ≡ lists_of edges spans
lists_more edges more [] within = refl
lists_more edges more (s ∷ ss) within =
    let here = All-head (λ s. (s.start ≤ s.end) × (s.end ≤ length edges)) s ss within in
    let first = part_more edges more s here.0 here.1 in
    let rest = lists_more edges more ss (All-tail (λ s. (s.start ≤ s.end) × (s.end ≤ length edges)) s ss within) in
    cc

-- a list in place of another
lists_set : (edges more : List Edge) (spans : List Span) (s : Span) (k : ℕ) → AreWithin (length edges) spans → s.start ≡ length edges
    → s.end ≡ length edges + length more → lists_of (edges ++ more) (set spans k s) ≡ set (lists_of edges spans) k more
lists_set edges more spans s k within at to =
    let here : part (edges ++ more) s ≡ more =
    ap (λ n. take (s.end - s.start) (drop n (edges ++ more))) at ∙ ap (take (s.end - s.start)) (drop-append_seam edges more)
    ∙ take_all (s.end - s.start) more (omega arith) in
    map-set (part (edges ++ more)) spans k s ∙ ap (λ l. set l k (part (edges ++ more) s)) (lists_more edges more spans within)
    ∙ ap (set (lists_of edges spans) k) here

-- a node with edges is one
pub node_inside : (edges : List (List Edge)) (i k : ℕ) → k < length (edges_at edges i) → i < length edges
node_inside edges i k lt = elim (cases_lt i (length edges)) as (λ _. i < length edges) [
  | inl less ↦ less
  | inr le ↦ absurd (let l = ap length (get_or_past edges i [] le) in omega arith)
]

-- spans within so many edges are within more
within_more : (few many : ℕ) (spans : List Span) → few ≤ many → AreWithin few spans → AreWithin many spans
within_more few many spans le within =
    All-weaker (λ s. (s.start ≤ s.end) × (s.end ≤ few)) (λ s. (s.start ≤ s.end) × (s.end ≤ many)) (λ s h. (h.0, omega (arith, h.1, le))) spans within

-- the same in the words of the code
pub none_within : (count : ℕ) (spans : List Span) → spans ≡ [] → AreWithin count spans
none_within count spans none = subst (AreWithin count) (sym none) (λ k d lt. absurd (omega arith))

pub within_put : (edges more all : List Edge) (spans spans' : List Span) (s : Span) (k : ℕ) → AreWithin (length edges) spans → all ≡ edges ++ more
    → spans' ≡ set spans k s → s.start ≡ length edges → s.end ≡ length all → AreWithin (length all) spans'
within_put edges more all spans spans' s k within e put at to =
    let le : length edges ≤ length all = omega (arith, ap length e, length-append edges more) in
    subst (AreWithin (length all)) (sym put)
    (All-set (λ x. (x.start ≤ x.end) × (x.end ≤ length all)) spans k s (omega (arith, at, to, le), omega (arith, to))
    (within_more (length edges) (length all) spans le within))

pub lists_put : (edges more all : List Edge) (spans spans' : List Span) (s : Span) (k : ℕ) → AreWithin (length edges) spans → all ≡ edges ++ more
    → spans' ≡ set spans k s → s.start ≡ length edges → s.end ≡ length all
    → lists_of all spans' ≡ set (lists_of edges spans) k more
lists_put edges more all spans spans' s k within e put at to =
    let long : s.end ≡ length edges + length more = to ∙ ap length e ∙ length-append edges more in
    rw (e, put) (lists_set edges more spans s k within at long)
