-- Drawings: the scaffolds over drawn options, what is joined of them, and the pass up over the ids.
use Rattle.std.proofs.Common.{ℕ, suc, ◌<◌, ◌≡◌, arith, refl, sym, ◌∙◌, ap, subst, ℤ, neg_ℤ, List, [], ◌∷◌, length, map, get_or, Vec, ◌+◌, ◌-◌, ◌^◌, pos, None, inl, inr, ◌++◌, Bool, Global}
use Rattle.std.specs.Int.{int_max}
use Rattle.std.proofs.lemmas.Int.{ints}
use Rattle.std.proofs.lemmas.List.{length-append, length-map, map-append}
use Rattle.short_games.specs.Parts.{IsOption}
use Rattle.short_games.specs.Tree.{Tree, Trees, none, more, left, right, tree_at}
use Rattle.short_games.specs.TextOrder.{sorted, IsCanonicalTree}
use Rattle.game_store.specs.Meaning.{pick}
use Rattle.game_store.specs.Forms.{IsOptions, HaveForms}
use Rattle.game_store.proofs.EntryLaws.{push_both}
use Rattle.short_games.proofs.TextOrderLaws.{sorted-has, has-sorted}
use Rattle.thermograph.specs.declared.breaks.Break.{Break}
use Rattle.thermograph.specs.declared.side.Side.TheVariants as side
use Rattle.short_games.specs.inner.Lines.{Rises, Falls}
use Rattle.short_games.specs.WallGrids.{IsGreatest, IsLeast, AllWallsAre, HasWalls, WallsAre, IsMeeting, HasTemperatureBetween, Bends}
use Rattle.thermograph.specs.inner.Breaks.{IsLevel}
use Rattle.thermograph.specs.inner.Scaffolds.{wall_of, picked, turned_wall, greatest, rise_at, scaffold_at, AreLevel, AreSteady, IsSteadyLine, Stays, IsTraced}
use Rattle.thermograph.specs.inner.Drawings.{IsDrawn, AreDrawnBelow, IsDrawing, IsJoined, Jumps, AreDrawn}
use Rattle.short_games.proofs.GreatestLaws.{IsFilled, filled, greatest-one, greatest-more}
use Rattle.short_games.proofs.LineLaws.{greatest-same, least-same}
use Rattle.short_games.proofs.WallSolutionLaws.{walls-unique, walls-steady}
use Rattle.short_games.proofs.DrawnWallLaws.{left_wall, right_wall, left_scaffold, right_scaffold, left_scaffold-is, right_scaffold-is, walls-at}
use Rattle.short_games.proofs.WallSteps.{solution-drawn, join-drawn, walls-within}
use Rattle.thermograph.proofs.ScaffoldLaws.{each-picked, rise-rises}
use Rattle.thermograph.proofs.FlagLaws.{number-over, store-over, store-bounded, IsStored, among-inner, option-listed}
use Rattle.dyadic_num.specs.Units.{IsInBounds}
use Rattle.short_games.specs.Number.{num, number_tree}
use Rattle.thermograph.specs.declared.drawings.Drawing.{Drawing}
use Rattle.short_games.specs.WallGrids.WallsAre.{of_number, of_game}
use Rattle.thermograph.specs.Breaks.{wall_at, from, IsPath}
use Rattle.thermograph.specs.Drawings.{AreBreaks, IsTemperature, end_of}
use Rattle.short_games.proofs.WallNumberLaws.{num-one_to_one}
use Rattle.short_games.proofs.ExponentLaws.{over-more}
use Rattle.short_games.proofs.WallExistenceLaws.{jump-odd}
use Rattle.thermograph.specs.inner.Flags.{IsFlagged, AreFollowers}

-- The scaffolds of a form whose options are drawn.
-- the greatest of what the walls of the ids have is the greatest of what their trees have
greatest-picked : (f : Tree → ℤ) (h : List Break → ℤ) (Ts : List Tree) (ws : List (Vec Break Global)) (is : List ℕ) → 0 < length is → ((j : ℕ) → j < length is → h (wall_of ws (get_or is j 0)) ≡ f (tree_at Ts (get_or is j 0))) → IsGreatest f (pick Ts is) (greatest h (picked ws is))
unfolding greatest
greatest-picked f h Ts ws [] l e = absurd (omega (arith, l))
greatest-picked f h Ts ws (i ∷ []) l e = subst (IsGreatest f (more (tree_at Ts i) none)) (sym (e 0 (omega arith))) (greatest-one f (tree_at Ts i))
greatest-picked f h Ts ws (i ∷ j ∷ is) l e = subst (IsGreatest f (pick Ts (i ∷ j ∷ is))) (ap (λ x. int_max x (greatest h (picked ws (j ∷ is)))) (sym (e 0 (omega arith))))
    (greatest-more f (tree_at Ts i) (pick Ts (j ∷ is)) _ (greatest-picked f h Ts ws (j ∷ is) (omega arith) (λ n k. e (suc n) (omega (arith, k)))))

greatest-sorted : (f : Tree → ℤ) (Gs : Trees) (x : ℤ) → IsGreatest f Gs x → IsGreatest f (sorted Gs) x
greatest-sorted f Gs x g = record { bound = λ G h. g.bound G (sorted-has Gs G h); reached = (g.reached.0, has-sorted Gs g.reached.0 g.reached.1, g.reached.2) }

least-turned : (f : Tree → ℤ) (Gs : Trees) (x : ℤ) → IsGreatest (λ X. neg_ℤ (f X)) Gs x → IsLeast f Gs (neg_ℤ x)
least-turned f Gs x g = record { bound = λ G h. omega (arith, ints, g.bound G h); reached = (g.reached.0, g.reached.1, omega (arith, ints, g.reached.2)) }

-- walls that a game has are the drawn ones
pub drawn-of : (k : ℕ) (G : Tree) (l r : ℕ → ℤ) → HasWalls k G l r → AllWallsAre k (left_wall k) (right_wall k) G × ((t : ℕ) → (left_wall k G t ≡ l t) × (right_wall k G t ≡ r t))
drawn-of k G l r h =
    let d = solution-drawn k h.lw h.rw G h.all in
    (d, λ t. (let s = walls-unique k (left_wall k) (right_wall k) h.lw h.rw G d h.all t in (s.0 ∙ h.left_is t, s.1 ∙ h.right_is t)))

rises-turned : (f g : ℕ → ℤ) → ((t : ℕ) → g t ≡ f t) → Falls f → Rises (λ t. neg_ℤ (g t))
rises-turned f g e r = record { no_fall = λ t. omega (arith, ints, e t, e (suc t), r.no_rise t); by_one = λ t. omega (arith, ints, e t, e (suc t), r.by_one t) }

module _ (Ts : List Tree) (id : ℕ) (lefts rights : List (Vec Break Global)) (ls rs : List ℕ) (o : IsOptions Ts id ls rs) (h : AreDrawnBelow Ts id lefts rights) where
  left_drawn : (j : ℕ) → j < length ls → IsDrawn (tree_at Ts (get_or ls j 0)) (wall_of lefts (get_or ls j 0)) (wall_of rights (get_or ls j 0))
  left_drawn j l = h.drawn (get_or ls j 0) (among-inner Ts id ls rs o (get_or ls j 0) (inl (j, l, refl)))

  right_drawn : (j : ℕ) → j < length rs → IsDrawn (tree_at Ts (get_or rs j 0)) (wall_of lefts (get_or rs j 0)) (wall_of rights (get_or rs j 0))
  right_drawn j l = h.drawn (get_or rs j 0) (among-inner Ts id ls rs o (get_or rs j 0) (inr (j, l, refl)))

  options-all : (X : Tree) → IsOption (tree_at Ts id) X → AllWallsAre 60 (left_wall 60) (right_wall 60) X
  options-all X x = let a = option-listed Ts id ls rs o X x in
      subst (AllWallsAre 60 (left_wall 60) (right_wall 60)) (sym a.2) (drawn-of 60 _ _ _ (h.drawn a.0 (among-inner Ts id ls rs o a.0 a.3)).walls).0

  left_rise : (t : ℕ) → IsGreatest (λ X. right_wall 60 X t) (left (tree_at Ts id)) (rise_at side.Left (picked rights ls) t)
  left_rise t = subst (λ G. IsGreatest (λ X. right_wall 60 X t) (left G) (rise_at side.Left (picked rights ls) t)) (sym o.tree)
      (greatest-sorted (λ X. right_wall 60 X t) (pick Ts ls) _ (greatest-picked (λ X. right_wall 60 X t) (turned_wall side.Left t) Ts rights ls o.left_some (λ j l. sym ((drawn-of 60 _ _ _ (left_drawn j l).walls).1 t).1)))

  right_rise : (t : ℕ) → IsLeast (λ X. left_wall 60 X t) (right (tree_at Ts id)) (neg_ℤ (rise_at side.Right (picked lefts rs) t))
  right_rise t = subst (λ G. IsLeast (λ X. left_wall 60 X t) (right G) (neg_ℤ (rise_at side.Right (picked lefts rs) t))) (sym o.tree)
      (least-turned (λ X. left_wall 60 X t) (sorted (pick Ts rs)) _ (greatest-sorted (λ X. neg_ℤ (left_wall 60 X t)) (pick Ts rs) _
      (greatest-picked (λ X. neg_ℤ (left_wall 60 X t)) (turned_wall side.Right t) Ts lefts rs o.right_some (λ j l. ap neg_ℤ (sym ((drawn-of 60 _ _ _ (right_drawn j l).walls).1 t).0)))))

  pub left_filled : IsFilled (left (tree_at Ts id))
  left_filled = filled (left (tree_at Ts id)) (left_rise 0).reached.0 (left_rise 0).reached.1

  pub right_filled : IsFilled (right (tree_at Ts id))
  right_filled = filled (right (tree_at Ts id)) (right_rise 0).reached.0 (right_rise 0).reached.1

  pub left-is : (t : ℕ) → scaffold_at side.Left (picked rights ls) t ≡ left_scaffold 60 (tree_at Ts id) t
  left-is t = omega (arith, ints, greatest-same (λ X. right_wall 60 X t) (λ X. right_wall 60 X t) (left (tree_at Ts id)) _ _ (λ X x. refl) (left_rise t) (left_scaffold-is 60 (tree_at Ts id) left_filled t))

  pub right-is : (t : ℕ) → scaffold_at side.Right (picked lefts rs) t ≡ right_scaffold 60 (tree_at Ts id) t
  right-is t = omega (arith, ints, least-same (λ X. left_wall 60 X t) (λ X. left_wall 60 X t) (right (tree_at Ts id)) _ _ (λ X x. refl) (right_rise t) (right_scaffold-is 60 (tree_at Ts id) right_filled t))

  -- what is known of the walls of the two scaffolds
  pub left-known : AreLevel (picked rights ls) × AreSteady side.Left (picked rights ls)
  left-known = (
    each-picked IsLevel rights ls (λ j l. (left_drawn j l).right_level),
    each-picked (IsSteadyLine side.Left) rights ls (λ j l. (let d = left_drawn j l in let w = drawn-of 60 _ _ _ d.walls in
        record { path = d.right_path; rises = subst Rises (λ i. λ t. (w.1 t).1 i) (walls-steady 60 (left_wall 60) (right_wall 60) _ w.0).rises })),
  )

  pub right-known : AreLevel (picked lefts rs) × AreSteady side.Right (picked lefts rs)
  right-known = (
    each-picked IsLevel lefts rs (λ j l. (right_drawn j l).left_level),
    each-picked (IsSteadyLine side.Right) lefts rs (λ j l. (let d = right_drawn j l in let w = drawn-of 60 _ _ _ d.walls in
        record { path = d.left_path; rises = rises-turned _ _ (λ t. sym (w.1 t).0) (walls-steady 60 (left_wall 60) (right_wall 60) _ w.0).falls })),
  )

  pub scaffolds-stay : Stays (scaffold_at side.Left (picked rights ls)) (scaffold_at side.Right (picked lefts rs))
  scaffolds-stay t e =
      omega (arith, ints, (rise-rises side.Left (picked rights ls) left-known.1).by_one t, (rise-rises side.Right (picked lefts rs) right-known.1).by_one t, e)

-- What is joined, and what is drawn of a number, are drawings; and where scaffolds jump, a break point is past the bounds.
-- a number's walls
number-walls : (x : ℤ) → AllWallsAre 60 (left_wall 60) (right_wall 60) (num 60 x)
number-walls x P f = let r = number-over 60 x (num 60 x) P refl f in walls-at 60 P (λ n. absurd (n r.0 r.1))

number-wall : (x : ℤ) (t : ℕ) → (left_wall 60 (num 60 x) t ≡ x) × (right_wall 60 (num 60 x) t ≡ x)
number-wall x t = at (walls-at 60 (num 60 x) (λ n. absurd (n x refl)))
  where
    at : WallsAre 60 (left_wall 60) (right_wall 60) (num 60 x) → (left_wall 60 (num 60 x) t ≡ x) × (right_wall 60 (num 60 x) t ≡ x)
    at (of_number y i p q) = let s : y ≡ x = num-one_to_one 60 y x (sym i) in (p t ∙ s, q t ∙ s)
    at (of_game n _ _ _ _ _) = absurd (n (60, x, refl))

module _ (x : ℤ) (bounds : IsInBounds x) where
  abbrev point : List Break
  point = record { at = 0; value = x } ∷ []

  point_breaks : AreBreaks point 0
  point_breaks = record { first_at = refl; last_at = refl; path = tt; bends = λ t p q. absurd (omega (arith, q)) }

  point_level : IsLevel point
  unfolding wall_at from
  point_level t = (omega (arith, ints, bounds), omega (arith, ints, bounds))

  point_walls : HasWalls 60 (num 60 x) (wall_at point) (wall_at point)
  unfolding wall_at from
  point_walls = record { lw = left_wall 60; rw = right_wall 60; all = number-walls x; left_is = λ t. (number-wall x t).0; right_is = λ t. (number-wall x t).1 }

  -- what is drawn of a number
  pub number-drawing : (g : Drawing) → g.left.items ≡ point → g.right.items ≡ point → g.mean ≡ x → g.temperature ≡ None → IsDrawing (number_tree x) g
  number-drawing g l r m t = record {
    drawn = record { walls = subst (λ bs. HasWalls 60 (num 60 x) (wall_at bs) (wall_at g.right.items)) (sym l) (subst (λ bs. HasWalls 60 (num 60 x) (wall_at point) (wall_at bs)) (sym r) point_walls); left_level = subst IsLevel (sym l) point_level; right_level = subst IsLevel (sym r) point_level; left_path = subst IsPath (sym l) tt; right_path = subst IsPath (sym r) tt };
    temperature = subst (λ o. IsTemperature (num 60 x) (wall_at g.left.items) (wall_at g.right.items) o g.mean) (sym t) (ap (num 60) (sym m));
    left_breaks = subst (λ o. AreBreaks g.left.items (end_of o)) (sym t) (subst (λ bs. AreBreaks bs 0) (sym l) point_breaks);
    right_breaks = subst (λ o. AreBreaks g.right.items (end_of o)) (sym t) (subst (λ bs. AreBreaks bs 0) (sym r) point_breaks);
    end = subst (λ o. end_of o < 2 ^ 120) (sym t) (omega arith);
  }

bends-same : (f g : ℕ → ℤ) (t : ℕ) → g (t - 1) ≡ f (t - 1) → g t ≡ f t → g (t + 1) ≡ f (t + 1) → Bends f t → Bends g t
bends-same f g t a b c n e = n (omega (arith, ints, a, b, c, e))

-- a scaffold's break points up to the end are those of the wall
traced-breaks : (f : ℕ → ℤ) (end : ℕ) (bs : List Break) → IsTraced f end bs → AreBreaks bs end
traced-breaks f end bs r = record {
  first_at = r.first_at;
  last_at = r.last_at;
  path = r.path;
  bends = λ t p q. (let b = r.bends t p q in
      let x = r.agrees (t - 1) (omega (arith, q)) in
      let y = r.agrees t (omega (arith, q)) in
      let z = r.agrees (t + 1) (omega (arith, q)) in
      (λ m. bends-same f (wall_at bs) t x y z (b.0 m), λ m. b.1 (bends-same (wall_at bs) f t (sym x) (sym y) (sym z) m)));
}

module _ (Ts : List Tree) (id : ℕ) (lefts rights : List (Vec Break Global)) (ls rs : List ℕ) (o : IsOptions Ts id ls rs) (h : AreDrawnBelow Ts id lefts rights) (stored : id < length Ts) (forms : HaveForms Ts) where
  options : (X : Tree) → IsOption (tree_at Ts id) X → AllWallsAre 60 (left_wall 60) (right_wall 60) X
  options = options-all Ts id lefts rights ls rs o h

  joined_walls : (g : Drawing) → IsJoined (scaffold_at side.Left (picked rights ls)) (scaffold_at side.Right (picked lefts rs)) g
      → AllWallsAre 60 (left_wall 60) (right_wall 60) (tree_at Ts id) × ((t : ℕ) → (left_wall 60 (tree_at Ts id) t ≡ wall_at g.left.items t) × (right_wall 60 (tree_at Ts id) t ≡ wall_at g.right.items t))
  joined_walls g j = join-drawn 60 (tree_at Ts id) (scaffold_at side.Left (picked rights ls)) (scaffold_at side.Right (picked lefts rs)) (wall_at g.left.items) (wall_at g.right.items) record {
    no_number = o.no_number;
    left_is = λ t. subst (IsGreatest (λ X. right_wall 60 X t) (left (tree_at Ts id))) (omega (arith, ints, left-is Ts id lefts rights ls rs o h t)) (left_scaffold-is 60 (tree_at Ts id) (left_filled Ts id lefts rights ls rs o h) t);
    right_is = λ t. subst (IsLeast (λ X. left_wall 60 X t) (right (tree_at Ts id))) (omega (arith, ints, right-is Ts id lefts rights ls rs o h t)) (right_scaffold-is 60 (tree_at Ts id) (right_filled Ts id lefts rights ls rs o h) t);
    meeting = j.meeting;
    meets = j.left_mean ∙ sym j.right_mean;
    before = j.apart;
    left_along = j.left_traced.agrees;
    left_after = j.left_traced.after;
    right_along = j.right_traced.agrees;
    right_after = j.right_traced.after;
  } (λ X x. options X (inl x)) (λ X x. options X (inr x))

  joined_meeting : (g : Drawing) → (j : IsJoined (scaffold_at side.Left (picked rights ls)) (scaffold_at side.Right (picked lefts rs)) g) → IsMeeting (wall_at g.left.items) (wall_at g.right.items) j.meeting g.mean
  joined_meeting g j = record {
    left_at = j.left_traced.agrees j.meeting (omega arith) ∙ j.left_mean;
    right_at = j.right_traced.agrees j.meeting (omega arith) ∙ j.right_mean;
    before = λ v l. omega (arith, ints, j.apart v l, j.left_traced.agrees v (omega (arith, l)), j.right_traced.agrees v (omega (arith, l)));
  }

  pub joined-drawing : (g : Drawing) → IsJoined (scaffold_at side.Left (picked rights ls)) (scaffold_at side.Right (picked lefts rs)) g → IsDrawing (tree_at Ts id) g
  joined-drawing g j =
      let w = joined_walls g j in
      let within = walls-within 60 (pos (2 ^ 120 - 1)) (IsStored Ts) (left_wall 60) (right_wall 60) (tree_at Ts id) (store-bounded Ts forms) (id, stored, refl) w.0 in
      record {
        drawn = record {
          walls = record { lw = left_wall 60; rw = right_wall 60; all = w.0; left_is = λ t. (w.1 t).0; right_is = λ t. (w.1 t).1 };
          left_level = λ t. (omega (arith, ints, (within t).0, (within t).1, (w.1 t).0), omega (arith, ints, (within t).2, (w.1 t).0));
          right_level = λ t. (omega (arith, ints, (within t).0, (w.1 t).1), omega (arith, ints, (within t).1, (within t).2, (w.1 t).1));
          left_path = j.left_traced.path;
          right_path = j.right_traced.path;
        };
        temperature = subst (λ u. IsTemperature (tree_at Ts id) (wall_at g.left.items) (wall_at g.right.items) u g.mean) (sym j.temperature_is) (o.no_number, (j.meeting, refl, joined_meeting g j));
        left_breaks = subst (λ u. AreBreaks g.left.items (end_of u)) (sym j.temperature_is) (traced-breaks _ j.meeting g.left.items j.left_traced);
        right_breaks = subst (λ u. AreBreaks g.right.items (end_of u)) (sym j.temperature_is) (traced-breaks _ j.meeting g.right.items j.right_traced);
        end = subst (λ u. end_of u < 2 ^ 120) (sym j.temperature_is) j.early;
      }

  pub jumped : IsCanonicalTree (tree_at Ts id) → Jumps (scaffold_at side.Left (picked rights ls)) (scaffold_at side.Right (picked lefts rs)) → HasTemperatureBetween 60 (tree_at Ts id)
  jumped c j =
      let r = jump-odd 60 (tree_at Ts id) (c, over-more 61 60 (tree_at Ts id) (omega arith) (store-over Ts forms id stored)) o.no_number (λ X x. options X (inl x)) (λ X x. options X (inr x)) j.place
      (omega (arith, ints, j.passed, left-is Ts id lefts rights ls rs o h j.place, right-is Ts id lefts rights ls rs o h j.place))
      (λ v l. omega (arith, ints, j.apart v l, left-is Ts id lefts rights ls rs o h v, right-is Ts id lefts rights ls rs o h v)) in
      record {
        left = left_wall 61 (tree_at Ts id);
        right = right_wall 61 (tree_at Ts id);
        place = r.0;
        mean = left_scaffold 61 (tree_at Ts id) (suc (r.0 + r.0));
        walls = record { lw = left_wall 61; rw = right_wall 61; all = r.2; left_is = λ t. refl; right_is = λ t. refl };
        meets = r.3;
      }

-- The pass up over the ids, and what is drawn at its end.
abbrev items : Vec Break Global → List Break
items w = w.items

module _ (Ts : List Tree) (flags : List Bool) where
  -- the options of a flagged form are drawn
  pub drawn-below : (id n : ℕ) (lefts rights : List (Vec Break Global)) → AreFollowers Ts id 0 flags → AreDrawn Ts flags n lefts rights → n < length flags → IsFlagged flags n → AreDrawnBelow Ts n lefts rights
  drawn-below id n lefts rights f d l m = record { left_count = d.left_count; right_count = d.right_count; drawn = λ i o. d.drawn i o.0 (f.closed n i (omega arith) l m o) }

  pub drawn-push : (n : ℕ) (lefts rights lefts' rights' : List (Vec Break Global)) (l r : Vec Break Global)
      → AreDrawn Ts flags n lefts rights → lefts' ≡ lefts ++ l ∷ [] → rights' ≡ rights ++ r ∷ []
      → (IsFlagged flags n → IsDrawn (tree_at Ts n) l.items r.items) → AreDrawn Ts flags (n + 1) lefts' rights'
  drawn-push n lefts rights lefts' rights' l r d p q new =
      let lefts_long : length (map items lefts) ≡ n = length-map lefts items ∙ d.left_count in
      let rights_long : length (map items rights) ≡ n = length-map rights items ∙ d.right_count in rw (p, q) record {
        left_count = omega (arith, length-append lefts (l ∷ []), d.left_count);
        right_count = omega (arith, length-append rights (r ∷ []), d.right_count);
        drawn = λ i h. rw (map-append items lefts (l ∷ []), map-append items rights (r ∷ []))
            (push_both (λ k a b. IsFlagged flags k → IsDrawn (tree_at Ts k) a b) (map items lefts) (map items rights) l.items [] r.items []
            (lefts_long ∙ sym rights_long) (λ k b. d.drawn k (omega (arith, b, rights_long)))
            (subst (λ k. IsFlagged flags k → IsDrawn (tree_at Ts k) l.items r.items) (sym rights_long) new)
            i (omega (arith, h, rights_long, length-append (map items rights) (r.items ∷ []))));
      }
