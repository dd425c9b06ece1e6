-- A tree has no more nodes and properties than bytes.
use Rattle.std.proofs.Common.{ℕ, ◌+◌, ◌≤◌, ◌≡◌, List, [], ◌∷◌, ◌++◌, length, take, drop, arith, refl, length-append, length-drop}
use Rattle.std.proofs.lemmas.List.{length-take, length-map}
use Rattle.std.specs.Prelude.{Ok, map, sum_by}
use Rattle.std.proofs.lemmas.List.Sums.{sum_by-cons, sum_by-append}
use Rattle.sgf_tree.specs.Grammar.{PropertyText, closing, Each, none, more, IsProperty, property, IsNode, node, IsTree, tree, AreTrees, no_trees, trees}
use Rattle.sgf_tree.specs.Reading.{AnswersFile, node_text, property_text, line_text}
use Rattle.sgf_tree.specs.declared.tree.Node.{Node}
use Rattle.sgf_tree.specs.declared.tree.Tree.{Tree}

abbrev pub size : List (List PropertyText) → ℕ
size line = length line + sum_by (λ n. length n) line

properties_size : (bytes : List ℕ) (xs : List PropertyText) → Each IsProperty bytes xs → length xs ≤ length bytes
properties_size _ _ none = omega arith
properties_size _ _ (more white _ others _ xs w (property b letters values text texts l vs) hs) =
    let rest = properties_size others xs hs in
    omega (arith, rest, length-append white ((b ∷ (letters ++ values)) ++ others), length-append (b ∷ (letters ++ values)) others)

nodes_size : (bytes : List ℕ) (xs : List (List PropertyText)) → Each IsNode bytes xs → size xs ≤ length bytes
nodes_size _ _ none = omega arith
nodes_size _ _ (more white _ others _ xs w (node bytes x ps) hs) =
    let rest = nodes_size others xs hs in
    let own = properties_size bytes x ps in
    omega (arith, rest, own, sum_by-cons (λ n. length n) x xs, length-append white ((59 ∷ bytes) ++ others), length-append (59 ∷ bytes) others)

size-append : (xs ys : List (List PropertyText)) → size (xs ++ ys) ≡ size xs + size ys
size-append xs ys = omega (arith, length-append xs ys, sum_by-append (λ n. length n) xs ys)

mutual
  pub tree_size : (bytes : List ℕ) (line : List (List PropertyText)) → IsTree bytes line → size line ≤ length bytes
  tree_size _ _ (tree nodes inner white first others line hs ts w) =
      let own = nodes_size nodes (first ∷ others) hs in
      let rest = trees_size inner line ts in
      omega (arith, own, rest, size-append (first ∷ others) line, length-append nodes (inner ++ (white ++ (closing ∷ []))), length-append inner (white ++ (closing ∷ [])))

  trees_size : (bytes : List ℕ) (line : List (List PropertyText)) → AreTrees bytes line → size line ≤ length bytes
  trees_size _ _ no_trees = omega arith
  trees_size _ _ (trees white first others line dropped w t ts) =
      let own = tree_size first line t in
      omega (arith, own, length-append white (first ++ others), length-append first others)

same_sum : (ns : List Node) → sum_by (λ n. length n) (map node_text ns) ≡ sum_by (λ n. length n.properties.items) ns
same_sum [] = refl
same_sum (n ∷ ns) = omega (arith, same_sum ns, sum_by-cons (λ x. length x) (node_text n) (map node_text ns), sum_by-cons (λ x. length x.properties.items) n ns, length-map n.properties.items property_text)

pub counts_of : (bytes : List ℕ) (t : Tree) → length bytes ≤ 1048576 → AnswersFile bytes (Ok t) → (length t.line.items ≤ 1048576) × (sum_by (λ n. length n.properties.items) t.line.items ≤ 1048576)
counts_of bytes t h (start, s, (n, r)) =
    let most = tree_size (take n (drop start bytes)) (line_text t) r.is_tree in
    let same = same_sum t.line.items in
    let nodes = length-map t.line.items node_text in
    let short = length-take n (drop start bytes) in
    (omega (arith, h, most, nodes, short, length-drop start bytes), omega (arith, h, most, same, short, length-drop start bytes))
