-- Where an alive stone of one colour is next to each of at most three places, the values of local positions have few parts and small
-- numbers. Each part is the value of a position together with some stones taken, of which there are few.
use Rattle.std.proofs.Common.{◌≡◌, ℕ, zero, suc, ◌+◌, ◌*◌, ◌-◌, ◌^◌, ◌<◌, ◌≤◌, ◌⊎◌, inl, inr, refl, sym, ap, ◌∙◌, subst, arith, pos, ◌+ℤ◌, ◌*ℤ◌, List, [], ◌∷◌, length}
use Rattle.std.proofs.Math.Nat.{pow-le-pow_right, pow-suc}
use Rattle.std.proofs.lemmas.Int.{ints}
use Rattle.go_grid.specs.declared.grid.Cell.{Cell}
use Rattle.go_grid.specs.declared.grid.Cell.TheVariants as cell
use Rattle.go_grid.specs.declared.grid.Colour.{Colour}
use Rattle.go_grid.specs.declared.grid.Colour.TheVariants as colour
use Rattle.go_grid.specs.declared.region.Touch.{Touch}
use Rattle.go_grid.specs.Board.{other}
use Rattle.short_games.specs.Tree.{Tree, node, none, Has, tree_at}
use Rattle.short_games.specs.Order.{◌≤ᵍ◌, ◌≡ᵍ◌}
use Rattle.short_games.specs.Sum.{◌+ᵍ◌}
use Rattle.short_games.specs.Number.{num, IsNumberTree, number_tree}
use Rattle.short_games.specs.Parts.{HasMoreParts, IsFollower, IsOption, IsPart}
use Rattle.short_games.specs.Parts.IsFollower.{itself, further}
use Rattle.short_games.specs.TextOrder.{IsCanonicalFor, TextBefore}
use Rattle.short_games.proofs.ExistenceLaws.{canon}
use Rattle.short_games.proofs.NumberLaws.{num-le_plus, num-plus_le, num-zero}
use Rattle.short_games.proofs.OrderLaws.{le-refl, le-trans}
use Rattle.short_games.proofs.StopLaws.{num-scaled}
use Rattle.short_games.proofs.SumLaws.{plus-assoc, plus-le, plus-le_both, plus-nought}
use Rattle.short_games.proofs.TextOrderLaws.{text-order}
use Rattle.game_canon.specs.Changes.{HasNumberPastBounds}
use Rattle.game_players.specs.Players.{credit, gain, options}
use Rattle.short_games.proofs.ReductionLaws.{same-canonical}
use Rattle.game_canon.proofs.NumberPartLaws.{sum-parts}
use Rattle.game_canon.proofs.PartLaws.{fewer}
use Rattle.local_trees.specs.LocalGame.{Step}
use Rattle.local_trees.specs.Laws.{MovesTo}
use Rattle.local_trees.specs.PositionTree.{IsStep, IsTreeOf, IsValueOf, PlaysAreShort}
use Rattle.local_trees.proofs.TreeLaws.{trees-exist, short_plays, depths-agree, trees-same}
use Rattle.board_gen.proofs.HeightLemmas.{IsLow, canonical_low, from_option, low_follower, low_gain, low_more, low_number, low_plus}
use Rattle.board_gen.proofs.ReturnLemmas.{AreWalled, no_cycle, same_or_other}
use Rattle.board_gen.proofs.OwnerLemmas.{counted, owners, owners_most}
use Rattle.go_grid.proofs.PlayLemmas.{long_after}

-- the tree of so many stones taken, as a number in parts of 2 ^ -60
gain_number : (c : Colour) (n : ℕ) → gain c n ≡ number_tree (credit c n *ℤ pos (2 ^ 60))
gain_number c n = sym (num-scaled 60 0 (credit c n))

gain_none : (c : Colour) → gain c 0 ≡ node none none
gain_none colour.Black = num-zero 0
gain_none colour.White = num-zero 0

credit_more : (c : Colour) (a b : ℕ) → credit c a +ℤ credit c b ≡ credit c (a + b)
credit_more colour.Black a b = omega (arith, ints)
credit_more colour.White a b = omega (arith, ints)

-- stones taken at two times are taken together
gain_more : (G : Tree) (c : Colour) (a b : ℕ) → ((G +ᵍ gain c a) +ᵍ gain c b) ≡ᵍ (G +ᵍ gain c (a + b))
gain_more G c a b =
    let both : (G +ᵍ gain c a) +ᵍ gain c b ≡ G +ᵍ (gain c a +ᵍ gain c b) = plus-assoc G (gain c a) (gain c b) in
    let under : gain c a +ᵍ gain c b ≤ᵍ gain c (a + b) = subst (λ z. gain c a +ᵍ gain c b ≤ᵍ num 0 z) (credit_more c a b) (num-plus_le 0 (credit c a) (credit c b)) in
    let over : gain c (a + b) ≤ᵍ gain c a +ᵍ gain c b = subst (λ z. num 0 z ≤ᵍ gain c a +ᵍ gain c b) (credit_more c a b) (num-le_plus 0 (credit c a) (credit c b)) in (
      subst (λ z. z ≤ᵍ G +ᵍ gain c (a + b)) (sym both) (plus-le_both G G (gain c a +ᵍ gain c b) (gain c (a + b)) (le-refl G) under),
      subst (λ z. G +ᵍ gain c (a + b) ≤ᵍ z) (sym both) (plus-le_both G G (gain c (a + b)) (gain c a +ᵍ gain c b) (le-refl G) over),
    )

-- the canonical tree of an equal game
for_equal : (G H C : Tree) → G ≡ᵍ H → IsCanonicalFor G C → IsCanonicalFor H C
for_equal G H C e is = record { canonical = is.canonical; under = le-trans H G C e.1 is.under; over = le-trans C G H is.over e.0 }

-- ---- positions as numbers

digit : Cell → ℕ
digit cell.Empty = 0
digit cell.Black = 1
digit cell.White = 2

digit_most : (x : Cell) → digit x ≤ 2
unfolding digit
digit_most cell.Empty = omega arith
digit_most cell.Black = omega arith
digit_most cell.White = omega arith

digit_tells : (x y : Cell) → digit x ≡ digit y → x ≡ y
unfolding digit
digit_tells cell.Empty cell.Empty e = refl
digit_tells cell.Black cell.Black e = refl
digit_tells cell.White cell.White e = refl
digit_tells cell.Empty cell.Black e = absurd (omega (arith, e))
digit_tells cell.Empty cell.White e = absurd (omega (arith, e))
digit_tells cell.Black cell.Empty e = absurd (omega (arith, e))
digit_tells cell.Black cell.White e = absurd (omega (arith, e))
digit_tells cell.White cell.Empty e = absurd (omega (arith, e))
digit_tells cell.White cell.Black e = absurd (omega (arith, e))

code : List Cell → ℕ
code [] = 0
code (x ∷ xs) = digit x + 3 * code xs

code_below : (xs : List Cell) (k : ℕ) → length xs ≡ k → code xs < 3 ^ k
unfolding code
code_below [] k long = subst (λ z. 0 < 3 ^ z) long (omega arith)
code_below (x ∷ xs) zero long = absurd (omega (arith, long))
code_below (x ∷ xs) (suc k) long =
    let rest = code_below xs k (omega (arith, long)) in omega (arith, rest, digit_most x, pow-suc 3 k)

code_tells : (xs ys : List Cell) → length xs ≡ length ys → code xs ≡ code ys → xs ≡ ys
unfolding code
code_tells [] [] long e = refl
code_tells [] (y ∷ ys) long e = absurd (omega (arith, long))
code_tells (x ∷ xs) [] long e = absurd (omega (arith, long))
code_tells (x ∷ xs) (y ∷ ys) long e =
    let one = digit_tells x y (omega (arith, e, digit_most x, digit_most y)) in
    let rest = code_tells xs ys (omega (arith, long)) (omega (arith, e, digit_most x, digit_most y)) in
    ap (λ z. z ∷ xs) one ∙ ap (λ zs. y ∷ zs) rest

module _ (touch : List Touch) (n : ℕ) (c : Colour) (walled : AreWalled touch n c) (narrow : n ≤ 3) where
  -- how many stones of the colour may still come, four times
  left_over : List Cell → ℕ
  left_over cells = 4 * (3 - owners c cells)

  -- what a move takes is within what no longer is left over
  spent : (d : Colour) (cells next : List Cell) (p taken : ℕ) (x : Step (List Cell)) → length cells ≡ n → IsStep touch d cells x
      → (x.taken + left_over x.to ≤ left_over cells) × (c ≡ other d → x.taken ≡ 0) × (length x.to ≡ n)
  unfolding left_over
  spent d cells next p taken x long step =
      let w = counted touch n c d walled cells x.to step.0 x.taken long step.1 step.2 in
      let most = owners_most c x.to in
      let same : length x.to ≡ n = long_after step.1 ∙ long in (
        elim (same_or_other c d) [
          | inl own ↦ omega (arith, w.own own, w.few, most, same, long, narrow)
          | inr o ↦ omega (arith, w.none o, w.kept)
        ],
        w.none,
        same,
      )

  -- ---- heights

  tree_low : (k m : ℕ) (cells : List Cell) (T : Tree) → length cells ≡ n → m + left_over cells ≤ k → IsTreeOf touch m cells T → IsLow k T
  tree_low k zero cells T long le is = low_more zero k T (omega arith) (subst (IsLow zero) (sym is) (λ X o. elim o [ inl l ↦ l | inr r ↦ r ]))
  tree_low zero (suc m) cells T long le is = absurd (omega (arith, le))
  tree_low (suc k) (suc m) cells T long le is =
      let again = λ (next : List Cell) (Y : Tree) (same : length next ≡ n) (t : IsTreeOf touch m next Y).
      tree_low (m + left_over next) m next Y same (omega arith) t in
      λ X o. elim o [ inl l ↦ at again colour.Black X l | inr r ↦ at again colour.White X r ]
    where
      at : ((next : List Cell) (Y : Tree) → length next ≡ n → IsTreeOf touch m next Y → IsLow (m + left_over next) Y)
          → (d : Colour) (X : Tree) → Has (options d T) X → IsLow k X
      at again d X h =
          let (x, (Y, step, tree, same)) = (is d).0 X h in
          let s = spent d cells x.to 0 0 x long step in
          let low = again x.to Y s.2 tree in
          subst (IsLow k) (sym same) (low_more (m + left_over x.to + x.taken) k (Y +ᵍ gain d x.taken) (omega (arith, le, s.0))
          (low_plus (m + left_over x.to) x.taken Y (gain d x.taken) low (low_gain d x.taken)))

  -- ---- parts

  -- X is the value of a position, with at most `k` stones taken
  record IsMet (k : ℕ) (X : Tree) : Type 0 where
    cells : List Cell
    taken : ℕ
    tree : Tree
    long : length cells ≡ n
    few : taken ≤ k
    of_position : IsTreeOf touch 27 cells tree
    value : IsCanonicalFor (tree +ᵍ gain c taken) X

  deeper : (L M X : Tree) → IsFollower L M → IsFollower M X → IsFollower L X
  deeper L M X (itself _) g = g
  deeper L M X (further _ H _ o f) g = further L H X o (deeper H M X f g)

  part_met : (m : ℕ) (cells : List Cell) (T C X : Tree) → length cells ≡ n → m ≤ 27 → PlaysAreShort (List Cell) (MovesTo touch) m cells
      → IsTreeOf touch m cells T → IsCanonicalFor T C → IsFollower C X → (IsNumberTree X → ⊥) → IsMet (left_over cells) X
  part_met m cells T _ _ long most short is k (itself C) hot =
      let deep = trees-exist touch cells 27 in
      let same = depths-agree (List Cell) (IsStep touch) m 27 cells T deep.0 short (λ qs w. omega (arith, short qs w, most)) is deep.1 in
      let alone : deep.0 +ᵍ gain c 0 ≡ deep.0 = ap (λ z. deep.0 +ᵍ z) (gain_none c) ∙ plus-nought deep.0 in record {
        cells = cells;
        taken = 0;
        tree = deep.0;
        long = long;
        few = omega arith;
        of_position = deep.1;
        value = subst (λ z. IsCanonicalFor z C) (sym alone) (for_equal T deep.0 C same k);
      }
  part_met zero cells T _ _ long most short is k (further C H X o f) hot =
      let (Z, (L, (z, rest))) = from_option T C k H o in
      absurd (no_option Z z)
    where
      no_option : (Z : Tree) → IsOption T Z → ⊥
      no_option Z z = elim (subst (λ t. IsOption t Z) is z) [ inl l ↦ l | inr r ↦ r ]
  part_met (suc m) cells T _ _ long most short is k (further C H X o f) hot =
      let (Z, (L, (z, (value, fol)))) = from_option T C k H o in
      let again = λ (next : List Cell) (Y D P : Tree) (same : length next ≡ n) (s : PlaysAreShort (List Cell) (MovesTo touch) m next)
      (t : IsTreeOf touch m next Y) (is' : IsCanonicalFor Y D) (g : IsFollower D P) (hot' : IsNumberTree P → ⊥).
      part_met m next Y D P same (omega (arith, most)) s t is' g hot' in
      elim z [
        | inl l ↦ at again colour.Black Z L l value (deeper L H X fol f)
        | inr r ↦ at again colour.White Z L r value (deeper L H X fol f)
      ]
    where
      at : ((next : List Cell) (Y D P : Tree) → length next ≡ n → PlaysAreShort (List Cell) (MovesTo touch) m next → IsTreeOf touch m next Y
          → IsCanonicalFor Y D → IsFollower D P → (IsNumberTree P → ⊥) → IsMet (left_over next) P) → (d : Colour) (Z L : Tree) → Has (options d T) Z → IsCanonicalFor Z L → IsFollower L X → IsMet (left_over cells) X
      at again d Z L h value fol =
          let (x, (Y, step, tree, same)) = (is d).0 Z h in
          let s = spent d cells x.to 0 0 x long step in
          let g = gain d x.taken in
          let u = credit d x.taken *ℤ pos (2 ^ 60) in
          let cy = canon TextBefore text-order.total Y in
          let is_cy : IsCanonicalFor Y cy.tree = record { canonical = cy.canonical; under = cy.under; over = cy.over } in
          let sum : IsCanonicalFor (cy.tree +ᵍ g) L = for_equal (Y +ᵍ g) (cy.tree +ᵍ g) L (plus-le Y cy.tree g cy.under, plus-le cy.tree Y g cy.over)
          (subst (λ t. IsCanonicalFor t L) same value) in
          let (P, part, canonical, moved) = sum-parts u L X cy.tree fol hot cy.canonical (subst (λ t. IsCanonicalFor (cy.tree +ᵍ t) L) (gain_number d x.taken) sum) in
          let shorter : PlaysAreShort (List Cell) (MovesTo touch) m x.to = λ qs w. omega (arith, short (x.to ∷ qs) ((d, (x.taken, step)), w)) in
          let met = again x.to Y cy.tree P s.2 shorter tree is_cy part.0 part.1 in
          let moved' : IsCanonicalFor (P +ᵍ g) X = subst (λ t. IsCanonicalFor (P +ᵍ t) X) (sym (gain_number d x.taken)) moved in
          let whole : IsCanonicalFor ((met.tree +ᵍ gain c met.taken) +ᵍ g) X =
          for_equal (P +ᵍ g) ((met.tree +ᵍ gain c met.taken) +ᵍ g) X
          (plus-le P (met.tree +ᵍ gain c met.taken) g met.value.over, plus-le (met.tree +ᵍ gain c met.taken) P g met.value.under) moved' in
          record {
            cells = met.cells;
            taken = met.taken + x.taken;
            tree = met.tree;
            long = met.long;
            few = omega (arith, met.few, s.0);
            of_position = met.of_position;
            value = together d x.taken met.tree met.taken s.1 whole;
          }
        where
          together : (d : Colour) (k : ℕ) (G : Tree) (a : ℕ) → (c ≡ other d → k ≡ 0) → IsCanonicalFor ((G +ᵍ gain c a) +ᵍ gain d k) X
              → IsCanonicalFor (G +ᵍ gain c (a + k)) X
          together d k G a free v = elim (same_or_other c d) [
            | inl own ↦ for_equal ((G +ᵍ gain c a) +ᵍ gain c k) (G +ᵍ gain c (a + k)) X (gain_more G c a k)
                (subst (λ e. IsCanonicalFor ((G +ᵍ gain c a) +ᵍ gain e k) X) own v)
            | inr o ↦
                let nothing : gain d k ≡ node none none = ap (gain d) (free o) ∙ gain_none d in
                let same : a + k ≡ a = omega (arith, free o) in
                subst (λ z. IsCanonicalFor (G +ᵍ gain c z) X) (sym same)
                (subst (λ t. IsCanonicalFor t X) (plus-nought (G +ᵍ gain c a)) (subst (λ t. IsCanonicalFor ((G +ᵍ gain c a) +ᵍ t) X) nothing v))
          ]

  -- ---- the limits

  module _ (cells : List Cell) (V : Tree) (long : length cells ≡ n) (v : IsValueOf touch cells V) where
    depth : ℕ
    depth = 3 ^ length cells

    shallow : depth ≤ 27
    unfolding depth
    shallow =
        let small : length cells ≤ 3 = omega (arith, long, narrow) in
        let power : 3 ^ length cells ≤ 3 ^ 3 = pow-le-pow_right {n = 3} (omega arith) small in power

    is_value : IsCanonicalFor v.tree V
    is_value = record { canonical = v.canonical; under = v.same.0; over = v.same.1 }

    short : PlaysAreShort (List Cell) (MovesTo touch) depth cells
    unfolding depth
    short = short_plays touch cells (no_cycle touch n c walled cells long) cells ([], refl)

    left_most : left_over cells ≤ 12
    unfolding left_over
    left_most = omega arith

    met : (X : Tree) → IsPart V X → IsMet 12 X
    unfolding depth
    met X part =
        let m = part_met (3 ^ length cells) cells v.tree V X long shallow short v.of_position is_value part.0 part.1 in record {
          cells = m.cells;
          taken = m.taken;
          tree = m.tree;
          long = m.long;
          few = omega (arith, m.few, left_most);
          of_position = m.of_position;
          value = m.value;
        }

    -- the number of a part's position and of the stones taken
    abbrev IsCoded : List Tree → ℕ → ℕ → Type 0
    IsCoded Xs j i = (m : IsMet 12 (tree_at Xs j)) × (code m.cells * 13 + m.taken ≡ i)

    pub few_parts : HasMoreParts V 500 → ⊥
    few_parts (Xs, are, many) = omega (arith, many, fewer (length Xs) 351 (IsCoded Xs) each one)
      where
        each : (j : ℕ) → j < length Xs → (i : ℕ) × (i < 351) × IsCoded Xs j i
        each j lt =
            let m = met (tree_at Xs j) (are.each j lt) in
            let below = code_below m.cells n m.long in
            let power : 3 ^ n ≤ 3 ^ 3 = pow-le-pow_right {n = 3} (omega arith) narrow in
            (code m.cells * 13 + m.taken, omega (arith, below, power, m.few), (m, refl))

        one : (i j k : ℕ) → i < length Xs → j < length Xs → IsCoded Xs i k → IsCoded Xs j k → i ≡ j
        one i j k short' lt (a, x) (b, y) =
            let cells_same = code_tells a.cells b.cells (a.long ∙ sym b.long) (omega (arith, x, y, a.few, b.few)) in
            let taken_same : a.taken ≡ b.taken = omega (arith, x, y, a.few, b.few) in
            let tree' = subst (λ z. IsTreeOf touch 27 z a.tree) cells_same a.of_position in
            let same = trees-same (List Cell) (IsStep touch) 27 b.cells a.tree b.tree tree' b.of_position in
            let there : IsCanonicalFor (b.tree +ᵍ gain c b.taken) (tree_at Xs i) =
            for_equal (a.tree +ᵍ gain c b.taken) (b.tree +ᵍ gain c b.taken) (tree_at Xs i)
            (plus-le a.tree b.tree (gain c b.taken) same.0, plus-le b.tree a.tree (gain c b.taken) same.1)
            (subst (λ z. IsCanonicalFor (a.tree +ᵍ gain c z) (tree_at Xs i)) taken_same a.value) in
            are.different i j short' lt (same-canonical (b.tree +ᵍ gain c b.taken) (tree_at Xs i) (tree_at Xs j) there b.value)

    low : IsLow 40 V
    unfolding depth
    low = canonical_low 40 v.tree V (tree_low 40 (3 ^ length cells) cells v.tree long (omega (arith, shallow, left_most)) v.of_position) is_value

    pub small_numbers : HasNumberPastBounds V → ⊥
    small_numbers (N, number, reached, past) =
        let w = low_number N number (low_follower 40 V N low (follower reached)) in past w.0 w.1 w.2
      where
        after : (G P X : Tree) → IsFollower G P → IsOption P X → IsFollower G X
        after G P X f o = deeper G P X f (further P X X o (itself X))

        follower : (N ≡ V) ⊎ ((P : Tree) × IsPart V P × IsOption P N) → IsFollower V N
        follower (inl e) = subst (IsFollower V) (sym e) (itself V)
        follower (inr (P, part, o)) = after V P N part.0 o
