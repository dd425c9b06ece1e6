-- Where a pairing carries one local position onto another: their local moves are paired, and take as many stones; it carries what is
-- reached from the one onto what is reached from the other; and their trees are equal, or the one is the negative of the other.
use Rattle.std.proofs.Common.{◌≡◌, ◌≢◌, ℕ, zero, suc, pos, neg_ℤ, ◌<◌, ◌≤◌, inl, inr, refl, sym, ap, ◌∙◌, subst, arith, List, [], ◌∷◌, ◌++◌, length, set, take, drop, length-drop, Bool, true, false, Some, cond, count_by}
use Rattle.std.proofs.Math.IntN.{neg_ℤ-neg_ℤ}
use Rattle.std.proofs.Math.Seq.{take-append_seam, drop-append_seam}
use Rattle.std.proofs.lemmas.Bool.{cases_Bool, cases_eq, cases_lt, true≢false}
use Rattle.std.proofs.lemmas.List.{ext_get_or, get_or_past, get_or-set_same, get_or-set_other, length-append, length-set}
use Rattle.std.proofs.lemmas.List.Sums.{sum_by-cons, sum_by-set}
use Rattle.go_grid.specs.declared.grid.Cell.{Cell}
use Rattle.go_grid.specs.declared.grid.Cell.TheVariants as cell
use Rattle.go_grid.specs.declared.grid.Colour.{Colour}
use Rattle.go_grid.specs.declared.grid.Colour.TheVariants as colour
use Rattle.go_grid.specs.declared.region.Touch.{Touch}
use Rattle.go_grid.specs.Board.{other, stone}
use Rattle.go_grid.specs.Region.{touch_at}
use Rattle.go_grid.proofs.PathLemmas.{carried, leads_here, leads_start, leads_step}
use Rattle.go_grid.proofs.PlayLemmas.{long_after, held_inside}
use Rattle.local_play.specs.LocalPlay.{held_at, is_stone, with_stone, Holds, IsLinked, IsLocalMove, IsNumberTaken}
use Rattle.local_play.specs.inner.LocalPlay.{InLocalChain, IsFree, IsRemoved}
use Rattle.local_graph.specs.declared.cycle.CycleMove.{CycleMove}
use Rattle.local_graph.specs.FiniteLocalPlay.{HasNoCycle}
use Rattle.local_graph.specs.LocalGraph.{IsReachable, Plays}
use Rattle.region_book.specs.declared.symmetry.Symmetry.{Symmetry}
use Rattle.region_book.specs.Shape.{Carries, Direction, IsPartner, cell_after, colour_after, link, turned}
use Rattle.region_book.specs.Shape.Direction.{up, left, right, down}
use Rattle.region_book.proofs.CarryLaws.{carries_back}
use Rattle.region_book.proofs.SymmetryLaws.{back, colour_back}
use Rattle.short_games.specs.Tree.{Tree, node, none, left as left_options, right as right_options, Has, neg}
use Rattle.short_games.specs.Number.{num}
use Rattle.short_games.specs.Order.{◌≡ᵍ◌}
use Rattle.short_games.specs.Sum.{◌+ᵍ◌}
use Rattle.short_games.proofs.NumberLaws.{neg-num}
use Rattle.short_games.proofs.OrderLaws.{same-path, same-refl, same-sym, same-trans}
use Rattle.short_games.proofs.SumLaws.{has-neg_each, neg_each-has, neg-left, neg-right, neg-plus, same-plus}
use Rattle.game_canon.proofs.NegationLaws.{chosen}
use Rattle.game_players.specs.Players.{gain, options}
use Rattle.local_trees.specs.LocalGame.{Step}
use Rattle.local_trees.specs.PositionTree.{IsStep, IsTreeOf}
use Rattle.local_trees.proofs.TreeLaws.{same_options}
use Rattle.endgame_solver.specs.ShapeValues.{AreLinked, ShapesKeepValues, game_after}

-- Colours, cells and links, turned.
stone_after : (colours : Bool) (c : Colour) → cell_after colours (stone c) ≡ stone (colour_after colours c)
stone_after false c = refl
stone_after true colour.Black = refl
stone_after true colour.White = refl

empty_after : (colours : Bool) → cell_after colours cell.Empty ≡ cell.Empty
empty_after false = refl
empty_after true = refl

is_stone_after : (colours : Bool) (x : Cell) → is_stone (cell_after colours x) ≡ is_stone x
is_stone_after false x = refl
is_stone_after true cell.Empty = refl
is_stone_after true cell.Black = refl
is_stone_after true cell.White = refl

other_after : (colours : Bool) (c : Colour) → colour_after colours (other c) ≡ other (colour_after colours c)
other_after false c = refl
other_after true c = refl

-- a link in a direction
pub link_in : (touch : List Touch) (i k : ℕ) (d : Direction) → link (touch_at touch i) d ≡ Some k → IsLinked touch i k
link_in touch i k up e = inl e
link_in touch i k left e = inr (inl e)
link_in touch i k right e = inr (inr (inl e))
link_in touch i k down e = inr (inr (inr e))

direction_of : (touch : List Touch) (i k : ℕ) → IsLinked touch i k → (d : Direction) × (link (touch_at touch i) d ≡ Some k)
direction_of touch i k (inl e) = (up, e)
direction_of touch i k (inr (inl e)) = (left, e)
direction_of touch i k (inr (inr (inl e))) = (right, e)
direction_of touch i k (inr (inr (inr e))) = (down, e)

-- 1 for a stone
abbrev weight : Cell → ℕ
weight x = cond (is_stone x) 1 0

stone_within : (b : List Cell) (j : ℕ) → is_stone (held_at b j) ≡ true → j < length b
stone_within b j e = elim (cases_lt j (length b)) as (λ _. j < length b) [
  | inl lt ↦ lt
  | inr le ↦ (let none : false ≡ true = sym (ap is_stone (get_or_past b j cell.Empty le)) ∙ e in absurd (true≢false (sym none)))
]

-- a list has at most as many stones as another that has stones where different ones of it lead to
count_over : (a b : List Cell) (R : ℕ → ℕ → Type 0) → ((i : ℕ) → is_stone (held_at a i) ≡ true → (j : ℕ) × R i j × (is_stone (held_at b j) ≡ true))
    → ((i k j : ℕ) → R i j → R k j → i ≡ k) → count_by is_stone a ≤ count_by is_stone b
count_over [] b R there one = omega arith
count_over (x ∷ a) b R there one = elim (cases_Bool (is_stone x)) as (λ _. count_by is_stone (x ∷ a) ≤ count_by is_stone b) [
  | inl some ↦
      let (j, r, stands) = there 0 some in
      let lt = stone_within b j stands in
      let rest = count_over a (set b j cell.Empty) (λ i k. R (suc i) k) (λ i e.
      let (k, q, stands') = there (suc i) e in
      let ne : k ≢ j = λ same. (let zero' = one (suc i) 0 j (subst (R (suc i)) same q) r in omega (arith, zero')) in
      (k, q, ap is_stone (get_or-set_other b j k cell.Empty cell.Empty ne) ∙ stands'))
      (λ i k l p q. let same = one (suc i) (suc k) l p q in omega (arith, same)) in
      let less = sum_by-set weight b j cell.Empty cell.Empty lt in
      let first : weight x ≡ 1 = ap (λ t. cond t 1 0) some in
      let gone : weight (held_at b j) ≡ 1 = ap (λ t. cond t 1 0) stands in
      omega (arith, rest, less, first, gone, sum_by-cons weight x a)
  | inr plain ↦
      let rest = count_over a b (λ i k. R (suc i) k) (λ i e. there (suc i) e) (λ i k l p q. let same = one (suc i) (suc k) l p q in omega (arith, same)) in
      let first : weight x ≡ 0 = ap (λ t. cond t 1 0) plain in
      omega (arith, rest, first, sum_by-cons weight x a)
]

-- the pairing carries the one position onto the other
pub record Matched (touch touch' : List Touch) (Paired : ℕ → ℕ → Type 0) (colours : Bool) (a b : List Cell) : Type 0 where
  pub linked : AreLinked touch a
  pub linked' : AreLinked touch' b
  pub turn : Symmetry
  pub carries : Carries touch a touch' b Paired turn colours

pub matched_back : {touch touch' : List Touch} {Paired : ℕ → ℕ → Type 0} {colours : Bool} {a b : List Cell} → Matched touch touch' Paired colours a b
    → Matched touch' touch (λ j i. Paired i j) colours b a
matched_back {touch} {touch'} {Paired} {colours} {a} {b} m =
    record { linked = m.linked'; linked' = m.linked; turn = back m.turn; carries = carries_back touch a touch' b Paired m.turn colours m.carries }

module _ {touch touch' : List Touch} {Paired : ℕ → ℕ → Type 0} {colours : Bool} {a b : List Cell} (m : Matched touch touch' Paired colours a b) where
  linked_over : (i j k l : ℕ) → Paired i j → Paired k l → IsLinked touch i k → IsLinked touch' j l
  linked_over i j k l p q link =
      let (d, e) = direction_of touch i k link in
      link_in touch' j l (turned m.turn d) ((m.carries.links i j k l p q d).0 e)

  holds_over : (c : Colour) (i j : ℕ) → Paired i j → Holds a c i → Holds b (colour_after colours c) j
  holds_over c i j p own = m.carries.held i j p ∙ ap (cell_after colours) own ∙ stone_after colours c

  partner : (c : Colour) (i : ℕ) → Holds a c i → (j : ℕ) × Paired i j
  partner c i own = m.carries.first i (let lt = held_inside a c i own in omega (arith, lt, m.linked.full))

  chain_over : (c : Colour) (i j k : ℕ) → Paired i j → InLocalChain touch a c i k
      → (l : ℕ) × Paired k l × InLocalChain touch' b (colour_after colours c) j l
  chain_over c i j k p chain =
      carried (IsLinked touch) (Holds a c) (λ x. (y : ℕ) × Paired x y × InLocalChain touch' b (colour_after colours c) j y)
      (λ x z (y, q, path) link own.
      let (w, r) = partner c z own in
      (w, r, leads_step (IsLinked touch') (Holds b (colour_after colours c)) j y w path (linked_over x y z w q r link) (holds_over c z w r own)))
      i k (
        j,
        p,
        leads_here (IsLinked touch') (Holds b (colour_after colours c)) j
            (holds_over c i j p (leads_start (IsLinked touch) (Holds a c) i k chain)),
      )
      chain

  free_over : (c : Colour) (i j : ℕ) → Paired i j → IsFree touch a c i → IsFree touch' b (colour_after colours c) j
  free_over c i j p (k, chain, breath) =
      let (l, q, chain') = chain_over c i j k p chain in (
        l,
        chain',
        elim breath [
          | inl (o, link, empty) ↦
              let (d, e) = direction_of touch k o link in
              let (n, r) = m.carries.first o (m.linked.inside k o d e) in
              inl (n, linked_over k l o n q r link, m.carries.held o n r ∙ ap (cell_after colours) empty ∙ empty_after colours)
          | inr beside ↦ inr (m.carries.beside k l q c ∙ beside)
        ],
      )

  count_less : count_by is_stone a ≤ count_by is_stone b
  count_less = count_over a b Paired
      (λ i e. let lt = stone_within a i e in
      let (j, p) = m.carries.first i (omega (arith, lt, m.linked.full)) in
      (j, p, ap is_stone (m.carries.held i j p) ∙ is_stone_after colours (held_at a i) ∙ e))
      (λ i k j p q. (m.carries.one i j k j p q).1 refl)

  -- the same pairing on other cells
  recelled : (after after' : List Cell) → length after ≡ length a → length after' ≡ length b
      → ((i j : ℕ) → Paired i j → held_at after' j ≡ cell_after colours (held_at after i)) → Matched touch touch' Paired colours after after'
  recelled after after' long long' held = record {
    linked = record { full = long ∙ m.linked.full; inside = m.linked.inside };
    linked' = record { full = long' ∙ m.linked'.full; inside = m.linked'.inside };
    turn = m.turn;
    carries = record {
      inside = m.carries.inside;
      first = m.carries.first;
      second = m.carries.second;
      one = m.carries.one;
      links = m.carries.links;
      held = held;
      beside = m.carries.beside;
    };
  }

  placed_over : (c : Colour) (p q : ℕ) → p < length a → q < length b → Paired p q
      → Matched touch touch' Paired colours (with_stone a p c) (with_stone b q (colour_after colours c))
  placed_over c p q lp lq at = recelled (with_stone a p c) (with_stone b q c') (length-set a p (stone c)) (length-set b q (stone c')) (λ i j r.
      elim (cases_eq i p) as (λ _. held_at (with_stone b q c') j ≡ cell_after colours (held_at (with_stone a p c) i)) [
        | inl e ↦
            ap (held_at (with_stone b q c')) ((m.carries.one i j p q r at).0 e) ∙ get_or-set_same b q (stone c') cell.Empty lq
            ∙ sym (ap (cell_after colours) (ap (held_at (with_stone a p c)) e ∙ get_or-set_same a p (stone c) cell.Empty lp) ∙ stone_after colours c)
        | inr ne ↦
            let ne' : j ≢ q = λ e. ne ((m.carries.one i j p q r at).1 e) in
            get_or-set_other b q j (stone c') cell.Empty ne' ∙ m.carries.held i j r
            ∙ sym (ap (cell_after colours) (get_or-set_other a p i (stone c) cell.Empty ne))
      ])
    where
      c' : Colour
      c' = colour_after colours c

  -- what a position of the first region looks like in the second
  image : (after : List Cell) → length after ≡ length a → (after' : List Cell) × Matched touch touch' Paired colours after after'
  image after long =
      let (xs, long', at) = chosen cell.Empty (λ j x. (i : ℕ) × Paired i j × (x ≡ cell_after colours (held_at after i))) (length b)
      (λ j lt. let (i, p) = m.carries.second j (omega (arith, lt, m.linked'.full)) in (cell_after colours (held_at after i), (i, p, refl))) in (
        xs,
        recelled after xs long long' (λ i j p.
            let lt = (m.carries.inside i j p).1 in
            let (k, q, is) = at j (omega (arith, lt, m.linked'.full)) in
            is ∙ ap (λ x. cell_after colours (held_at after x)) ((m.carries.one k j i j q p).1 refl)),
      )

  -- a position is carried onto one position
  pub matched_one : {b' : List Cell} → Matched touch touch' Paired colours a b' → b ≡ b'
  matched_one {b'} n = ext_get_or cell.Empty b b' (m.linked'.full ∙ sym n.linked'.full) (λ j lt.
      let (i, p) = m.carries.second j (omega (arith, lt, m.linked'.full)) in
      m.carries.held i j p ∙ sym (n.carries.held i j p))

module _ {touch touch' : List Touch} {Paired : ℕ → ℕ → Type 0} {colours : Bool} {a b : List Cell} (m : Matched touch touch' Paired colours a b) where
  removed_over : (d : Colour) (p q j l : ℕ) → Paired p q → Paired j l → IsRemoved touch a p d j → IsRemoved touch' b q (colour_after colours d) l
  removed_over d p q j l at there (i, link, chain, bound) =
      let own = leads_start (IsLinked touch) (Holds a d) i j chain in
      let (k, r) = partner m d i own in
      let (n, t, chain') = chain_over m d i k j r chain in
      let same : n ≡ l = (m.carries.one j n j l t there).0 refl in (
        k,
        linked_over m p q i k at r link,
        subst (InLocalChain touch' b (colour_after colours d) k) same chain',
        λ free. bound (subst (λ e. IsFree touch a e i) (colour_back colours d)
            (free_over (matched_back m) (colour_after colours d) k i r free)),
      )

  count_same : count_by is_stone b ≡ count_by is_stone a
  count_same = omega (arith, count_less m, count_less (matched_back m))

-- the move of the second position that a move of the first is carried onto
pub record IsMoved (touch touch' : List Touch) (Paired : ℕ → ℕ → Type 0) (colours : Bool) (a b after : List Cell) (c : Colour) (p : ℕ) : Type 0 where
  pub place : ℕ
  pub paired : Paired p place
  pub next : List Cell
  pub move : IsLocalMove touch' b (colour_after colours c) place next
  pub matched : Matched touch touch' Paired colours after next
  pub number : (n : ℕ) → IsNumberTaken a after n → IsNumberTaken b next n

module _ {touch touch' : List Touch} {Paired : ℕ → ℕ → Type 0} {colours : Bool} {a b : List Cell} (m : Matched touch touch' Paired colours a b) where
  -- a local move of the first position is one of the second at the partner, with the colours that the pairing makes
  move_over : {after next : List Cell} (c : Colour) (p q : ℕ) → Matched touch touch' Paired colours after next → Paired p q
      → IsLocalMove touch a c p after
      → IsLocalMove touch' b (colour_after colours c) q next
  move_over {after} {next} c p q w at move =
      let lq : q < length b = (let inside = (m.carries.inside p q at).1 in omega (arith, inside, m.linked'.full)) in
      let c' = colour_after colours c in
      let placed = placed_over m c p q move.place lq at in
      let taken_back = λ (j l : ℕ) (r : Paired j l) (gone : IsRemoved touch' (with_stone b q c') q (other c') l).
      subst (λ d. IsRemoved touch (with_stone a p c) p d j) (ap (colour_after colours) (sym (other_after colours c)) ∙ colour_back colours (other c))
      (removed_over (matched_back placed) (other c') q p l j at r gone) in
      record {
        place = lq;
        free = m.carries.held p q at ∙ ap (cell_after colours) move.free ∙ empty_after colours;
        without = record {
          long = w.linked'.full ∙ sym m.linked'.full ∙ sym (length-set b q (stone c'));
          gone = λ l gone. elim (cases_lt l (length touch')) as (λ _. held_at next l ≡ cell.Empty) [
            | inl lt ↦
                (let (j, r) = m.carries.second l lt in w.carries.held j l r ∙ ap (cell_after colours)
                (move.without.gone j (taken_back j l r gone)) ∙ empty_after colours)
            | inr le ↦ get_or_past next l cell.Empty (omega (arith, le, w.linked'.full))
          ];
          kept = λ l stays. elim (cases_lt l (length touch')) as (λ _. held_at next l ≡ held_at (with_stone b q c') l) [
            | inl lt ↦
                let (j, r) = m.carries.second l lt in
                let still : ¬ IsRemoved touch (with_stone a p c) p (other c) j = λ gone. stays
                (subst (λ d. IsRemoved touch' (with_stone b q c') q d l) (other_after colours c) (removed_over placed (other c) p q j l at r gone)) in
                w.carries.held j l r ∙ ap (cell_after colours) (move.without.kept j still) ∙ sym (placed.carries.held j l r)
            | inr le ↦
                get_or_past next l cell.Empty (omega (arith, le, w.linked'.full))
                ∙ sym (get_or_past (with_stone b q c') l cell.Empty (omega (arith, le, placed.linked'.full)))
          ];
        };
        stands = free_over w c p q at move.stands;
      }

  pub move_matched : (after : List Cell) (c : Colour) (p : ℕ) → IsLocalMove touch a c p after → IsMoved touch touch' Paired colours a b after c p
  move_matched after c p move =
      let (q, at) = m.carries.first p (omega (arith, move.place, m.linked.full)) in
      let (next, w) = image m after (long_after move) in
      record {
        place = q;
        paired = at;
        next = next;
        move = move_over c p q w at move;
        matched = w;
        number = λ n number. omega (arith, count_same m, count_same w, number);
      }

-- as many moves from the second position
plays_matched : {touch touch' : List Touch} {Paired : ℕ → ℕ → Type 0} {colours : Bool} (ms : List CycleMove) (a b to : List Cell)
    → Matched touch touch' Paired colours a b → Plays touch a ms to
    → (ns : List CycleMove) × (end : List Cell) × Plays touch' b ns end × (length ns ≡ length ms) × Matched touch touch' Paired colours to end
plays_matched {touch} {touch'} {Paired} {colours} [] a b to m e = ([], b, refl, refl, subst (λ x. Matched touch touch' Paired colours x b) e m)
plays_matched {touch} {touch'} {Paired} {colours} (x ∷ ms) a b to m (next, move, rest) =
    let w = move_matched m next x.colour x.place move in
    let (ns, end, plays, long, last) = plays_matched ms next w.next to w.matched rest in
    (record { colour = colour_after colours x.colour; place = w.place } ∷ ns, end, (w.next, w.move, plays), ap suc long, last)

module _ {touch touch' : List Touch} {Paired : ℕ → ℕ → Type 0} {colours : Bool} {a b : List Cell} (m : Matched touch touch' Paired colours a b) where
  pub reach_matched : (to : List Cell) → IsReachable touch a to
      → (end : List Cell) × IsReachable touch' b end × Matched touch touch' Paired colours to end
  reach_matched to (ms, plays) =
      let (ns, end, plays', long, last) = plays_matched ms a b to m plays in
      (end, (ns, plays'), last)

  -- moves of the first region that come back are carried onto moves of the second that come back
  pub cycle_matched : HasNoCycle touch' b → HasNoCycle touch a
  cycle_matched calm ms n c =
      let (ns, end, plays, long, there) = plays_matched (take n ms) a b c.returns_to m c.there in
      let (ks, last, plays', long', again) = plays_matched (drop n ms) c.returns_to end c.returns_to there c.again in
      let same : last ≡ end = matched_one again there in
      calm (ns ++ ks) (length ns) record {
        before_end = omega (arith, length-append ns ks, long', length-drop n ms, c.before_end);
        returns_to = end;
        there = subst (λ l. Plays touch' b l end) (sym (take-append_seam ns ks)) plays;
        again = subst (λ l. Plays touch' end l end) (sym (drop-append_seam ns ks)) (subst (Plays touch' end ks) same plays');
      }

-- Options and gains of a game, or of its negative.
after-options : (colours : Bool) (c : Colour) (H Z : Tree) → Has (options (colour_after colours c) H) Z → Has (options c (game_after colours H)) (game_after colours Z)
after-options false c H Z h = h
after-options true colour.Black H Z h = subst (λ t. Has t (neg Z)) (sym (neg-left H)) (has-neg_each (right_options H) Z h)
after-options true colour.White H Z h = subst (λ t. Has t (neg Z)) (sym (neg-right H)) (has-neg_each (left_options H) Z h)

options-after : (colours : Bool) (c : Colour) (H X : Tree) → Has (options c (game_after colours H)) X
    → (Z : Tree) × Has (options (colour_after colours c) H) Z × (X ≡ game_after colours Z)
options-after false c H X h = (X, h, refl)
options-after true colour.Black H X h = neg_each-has (right_options H) X (subst (λ t. Has t X) (neg-left H) h)
options-after true colour.White H X h = neg_each-has (left_options H) X (subst (λ t. Has t X) (neg-right H) h)

gain-after : (colours : Bool) (c : Colour) (Y : Tree) (n : ℕ) → game_after colours (Y +ᵍ gain (colour_after colours c) n) ≡ game_after colours Y +ᵍ gain c n
gain-after false c Y n = refl
gain-after true colour.Black Y n =
    neg-plus Y (gain colour.White n) ∙ ap (λ t. neg Y +ᵍ t) (neg-num 0 (neg_ℤ (pos n)) ∙ ap (num 0) (neg_ℤ-neg_ℤ (pos n)))
gain-after true colour.White Y n = neg-plus Y (gain colour.Black n) ∙ ap (λ t. neg Y +ᵍ t) (neg-num 0 (pos n))

none-after : (colours : Bool) → node none none ≡ game_after colours (node none none)
unfolding neg
none-after false = refl
none-after true = refl

-- a step of one position, and the paired one of the other, which takes as many stones
step_over : {touch touch' : List Touch} {Paired : ℕ → ℕ → Type 0} {colours : Bool} {a b : List Cell} → Matched touch touch' Paired colours a b
    → (c : Colour) (x : Step (List Cell)) → IsStep touch c a x
    → (after : List Cell) × IsStep touch' (colour_after colours c) b
    (record { to = after; taken = x.taken }) × Matched touch touch' Paired colours x.to after
step_over m c x (p, move, number) = let w = move_matched m x.to c p move in (w.next, (w.place, w.move, w.number x.taken number), w.matched)

module _ {touch touch' : List Touch} {Paired : ℕ → ℕ → Type 0} {colours : Bool} where
  -- a step of the second position, and the paired one of the first
  step_back : {a b : List Cell} → Matched touch touch' Paired colours a b → (c : Colour) (x : Step (List Cell))
      → IsStep touch' (colour_after colours c) b x
      → (before : List Cell) × IsStep touch c a (record { to = before; taken = x.taken }) × Matched touch touch' Paired colours before x.to
  step_back {a} m c x step =
      let (before, own, w) = step_over (matched_back m) (colour_after colours c) x step in
      (before, subst (λ d. IsStep touch d a (record { to = before; taken = x.taken })) (colour_back colours c) own, matched_back w)

  pub trees_over : (n : ℕ) {a b : List Cell} → Matched touch touch' Paired colours a b → (G H : Tree) → IsTreeOf touch n a G → IsTreeOf touch' n b H
      → G ≡ᵍ game_after colours H
  trees_over zero m G H g k = same-path _ _ (g ∙ none-after colours ∙ ap (game_after colours) (sym k))
  trees_over (suc n) m G H g k = same_options G (game_after colours H)
      (λ c X x.
      let (y, (Y, step, tree, is)) = (g c).0 X x in
      let (after, step', w) = step_over m c y step in
      let (Y', tree', has) = (k (colour_after colours c)).1 (record { to = after; taken = y.taken }) step' in (
        game_after colours (Y' +ᵍ gain (colour_after colours c) y.taken),
        after-options colours c H (Y' +ᵍ gain (colour_after colours c) y.taken) has,
        same-trans _ _ _ (same-path _ _ is)
            (same-trans _ _ _ (same-plus _ _ _ _ (trees_over n w Y Y' tree tree') (same-refl (gain c y.taken)))
            (same-path _ _ (sym (gain-after colours c Y' y.taken)))),
      ))
      (λ c X x.
      let (Z, z, is) = options-after colours c H X x in
      let (y, (Y', step, tree', is')) = (k (colour_after colours c)).0 Z z in
      let (before, step', w) = step_back m c y step in
      let (Y, tree, has) = (g c).1 (record { to = before; taken = y.taken }) step' in (
        Y +ᵍ gain c y.taken,
        has,
        same-sym _ _ (same-trans _ _ _ (same-path _ _ (is ∙ ap (game_after colours) is' ∙ gain-after colours c Y' y.taken))
            (same-plus _ _ _ _ (same-sym _ _ (trees_over n w Y Y' tree tree')) (same-refl (gain c y.taken)))),
      ))

pub shapes-keep_values : ShapesKeepValues
shapes-keep_values touch cells touch' cells' partners s colours linked linked' h n =
    trees_over {Paired = IsPartner partners} n (record { linked = linked; linked' = linked'; turn = s; carries = h })
