-- At 0 the walls are the stops; and a canonical tree has walls on each grid that is fine enough for its numbers and its height.
use Rattle.std.proofs.Common.{ℕ, zero, suc, ◌+◌, ◌<◌, ◌≤◌, ◌≡◌, arith, inl, inr, sym, ◌∙◌, ap, subst, ℤ, pos, ◌+ℤ◌, ◌-ℤ◌, ◌<ℤ◌, ◌≤ℤ◌}
use Rattle.std.proofs.lemmas.Int.{ints}
use Rattle.short_games.specs.Tree.{Tree, node, left, right, Has, size}
use Rattle.short_games.specs.Parts.{IsOption}
use Rattle.short_games.specs.Number.{num, IsNumberTree}
use Rattle.short_games.specs.Stops.{IsLeftStop, IsRightStop}
use Rattle.short_games.specs.TextOrder.{IsCanonicalTree}
use Rattle.short_games.specs.WallGrids.{IsGreatest, IsLeast, WallsAre, AllWallsAre, IsMeeting, finer}
use Rattle.short_games.specs.WallGrids.WallsAre.{of_number, of_game}
use Rattle.short_games.specs.inner.Lines.{Rises, Falls}
use Rattle.short_games.proofs.OrderLaws.{size-option, size-pos}
use Rattle.short_games.proofs.StopLaws.{greatest_right-chosen, least_left-chosen, number-left_stop, number-right_stop, stops-ordered}
use Rattle.short_games.proofs.GreatestLaws.{to_greatest, to_least, IsFilled}
use Rattle.short_games.proofs.ExponentLaws.{IsFine, fine-option, over-more, no_number, canonical-filled}
use Rattle.short_games.proofs.LineLaws.{follow-zero, Doubles, finer-doubles}
use Rattle.short_games.proofs.WallSolutionLaws.{by_walls, all-from, walls-unique, walls-steady, walls-finer, left_scaffold-falls, right_scaffold-rises, left_scaffold-doubles, right_scaffold-doubles}
use Rattle.short_games.proofs.WallSteps.{AllDrawn, solution-drawn, jump-middle, follow-meeting}
use Rattle.short_games.proofs.DrawnWallLaws.{left_same, right_same, left_wall, right_wall, left_scaffold, right_scaffold, left_scaffold-is, right_scaffold-is, no_jump-doubled, walls-at}

-- scaffolds at 0 are stops
pub left_at_zero : (k : ℕ) (f : Tree → ℤ) (G : Tree) (x : ℤ) → (IsNumberTree G → ⊥) → ((X : Tree) → Has (left G) X → IsRightStop k X (f X)) → IsGreatest f (left G) (x +ℤ pos 0) → IsLeftStop k G x
unfolding IsLeftStop
left_at_zero k f (node ls rs) x n s g = inr (n, to_greatest _ _ (greatest_right-chosen k) f ls x s (subst (IsGreatest f ls) (omega (arith, ints)) g))

pub right_at_zero : (k : ℕ) (f : Tree → ℤ) (G : Tree) (x : ℤ) → (IsNumberTree G → ⊥) → ((X : Tree) → Has (right G) X → IsLeftStop k X (f X)) → IsLeast f (right G) (x -ℤ pos 0) → IsRightStop k G x
unfolding IsLeftStop
right_at_zero k f (node ls rs) x n s g = inr (n, to_least _ _ (least_left-chosen k) f rs x s (subst (IsLeast f rs) (omega (arith, ints)) g))

module _ (k : ℕ) (lw rw : Tree → ℕ → ℤ) where
  abbrev AtZero : Tree → Type 0
  AtZero G = IsLeftStop k G (lw G 0) × IsRightStop k G (rw G 0)

  zero_at : (G : Tree) → ((X : Tree) → IsOption G X → AtZero X) → WallsAre k lw rw G → AtZero G
  zero_at G f (of_number x i p q) = (number-left_stop k G (lw G 0) (i ∙ ap (num k) (sym (p 0))), number-right_stop k G (rw G 0) (i ∙ ap (num k) (sym (q 0))))
  zero_at G f (of_game n L R h h' w) = let z = follow-zero L R (lw G 0) (rw G 0) (w 0) in (
    subst (IsLeftStop k G) (sym z.0) (left_at_zero k (λ X. rw X 0) G (L 0) n (λ X x. (f X (inl x)).1) (h 0)),
    subst (IsRightStop k G) (sym z.1) (right_at_zero k (λ X. lw X 0) G (R 0) n (λ X x. (f X (inr x)).0) (h' 0)),
  )

  -- at 0 the walls are the stops
  pub walls-zero : (G : Tree) → AllWallsAre k lw rw G → IsLeftStop k G (lw G 0) × IsRightStop k G (rw G 0)
  walls-zero = by_walls k lw rw AtZero (λ G _. zero_at G)

-- where a line is the finer one it doubles the first
same-doubles : (f g : ℕ → ℤ) → ((t : ℕ) → g t ≡ finer f t) → Doubles f g
same-doubles f g e = record { at_even = λ t. e (t + t) ∙ (finer-doubles f).at_even t; at_odd = λ t. e (suc (t + t)) ∙ (finer-doubles f).at_odd t }

-- walls on a grid go on to the next
next : (k : ℕ) (X : Tree) → AllDrawn k X → AllDrawn (suc k) X
next k X x = solution-drawn (suc k) (λ Y. finer (left_wall k Y)) (λ Y. finer (right_wall k Y)) X (walls-finer k (left_wall k) (right_wall k) X x)

-- where the options of a tree have walls on a grid
module _ (k : ℕ) (G : Tree) (p : IsFilled (left G)) (q : IsFilled (right G)) (drawn : (X : Tree) → IsOption G X → AllDrawn k X) where
  left_falls : Falls (left_scaffold k G)
  left_falls = left_scaffold-falls k (left_wall k) (right_wall k) (left G) (left_scaffold k G) (λ X x. walls-steady k (left_wall k) (right_wall k) X (drawn X (inl x))) (left_scaffold-is k G p)

  right_rises : Rises (right_scaffold k G)
  right_rises = right_scaffold-rises k (left_wall k) (right_wall k) (right G) (right_scaffold k G) (λ X x. walls-steady k (left_wall k) (right_wall k) X (drawn X (inr x))) (right_scaffold-is k G q)

  doubles : (X : Tree) → IsOption G X → Doubles (left_wall k X) (left_wall (suc k) X) × Doubles (right_wall k X) (right_wall (suc k) X)
  doubles X o = (
    same-doubles (left_wall k X) (left_wall (suc k) X) (λ t. (same t).0),
    same-doubles (right_wall k X) (right_wall (suc k) X)
        (λ t. (same t).1),
  )
    where
      same : (t : ℕ) → (left_wall (suc k) X t ≡ finer (left_wall k X) t) × (right_wall (suc k) X t ≡ finer (right_wall k X) t)
      same = walls-unique (suc k) (left_wall (suc k)) (right_wall (suc k)) (λ Y. finer (left_wall k Y)) (λ Y. finer (right_wall k Y)) X
          (next k X (drawn X o)) (walls-finer k (left_wall k) (right_wall k) X (drawn X o))

  -- the scaffolds of the next grid
  left_is : (t : ℕ) → left_scaffold (suc k) G t ≡ finer (left_scaffold k G) t
  left_is t = sym (left_same (suc k) G (finer (left_scaffold k G))
      (left_scaffold-doubles k (left_wall k) (right_wall k) (left_wall (suc k)) (right_wall (suc k)) (left G)
      (left_scaffold k G) (finer (left_scaffold k G)) (λ X x. (walls-steady k (left_wall k) (right_wall k) X (drawn X (inl x))).rises)
      (λ X x. (doubles X (inl x)).1)
      (finer-doubles (left_scaffold k G)) (left_scaffold-is k G p)) t)

  right_is : (t : ℕ) → right_scaffold (suc k) G t ≡ finer (right_scaffold k G) t
  right_is t = sym (right_same (suc k) G (finer (right_scaffold k G))
      (right_scaffold-doubles k (left_wall k) (right_wall k) (left_wall (suc k)) (right_wall (suc k)) (right G)
      (right_scaffold k G) (finer (right_scaffold k G)) (λ X x. (walls-steady k (left_wall k) (right_wall k) X (drawn X (inr x))).falls)
      (λ X x. (doubles X (inr x)).0)
      (finer-doubles (right_scaffold k G)) (right_scaffold-is k G q)) t)

  left_doubles : Doubles (left_scaffold k G) (left_scaffold (suc k) G)
  left_doubles = same-doubles (left_scaffold k G) (left_scaffold (suc k) G) left_is

  right_doubles : Doubles (right_scaffold k G) (right_scaffold (suc k) G)
  right_doubles = same-doubles (right_scaffold k G) (right_scaffold (suc k) G) right_is

  -- the scaffolds at 0 are the stops
  start : IsCanonicalTree G → (IsNumberTree G → ⊥) → right_scaffold (suc k) G 0 ≤ℤ left_scaffold (suc k) G 0
  start c n = stops-ordered (suc k) G (left_scaffold (suc k) G 0) (right_scaffold (suc k) G 0) c
      (left_at_zero (suc k) (λ X. right_wall (suc k) X 0) G _ n (λ X x. (zero X (next k X (drawn X (inl x)))).1) (left_scaffold-is (suc k) G p 0))
      (right_at_zero (suc k) (λ X. left_wall (suc k) X 0) G _ n (λ X x. (zero X (next k X (drawn X (inr x)))).0) (right_scaffold-is (suc k) G q 0))
    where
      zero : (X : Tree) → AllDrawn (suc k) X → IsLeftStop (suc k) X (left_wall (suc k) X 0) × IsRightStop (suc k) X (right_wall (suc k) X 0)
      zero = walls-zero (suc k) (left_wall (suc k)) (right_wall (suc k))

-- then the tree has them on the next
drawn_here : (k : ℕ) (G : Tree) → IsFine (suc k) G → ((X : Tree) → IsOption G X → AllDrawn k X)
    → WallsAre (suc k) (left_wall (suc k)) (right_wall (suc k)) G
drawn_here k G f drawn = walls-at (suc k) G (λ x. (
    let n = no_number (suc k) G f x in
    let full = canonical-filled G f.0 n in record {
      no_number = n;
      left_filled = full.0;
      right_filled = full.1;
      no_jump = no_jump-doubled (left_scaffold k G) (right_scaffold k G) (left_scaffold (suc k) G) (right_scaffold (suc k) G)
          (left_falls k G full.0 full.1 drawn) (right_rises k G full.0 full.1 drawn)
          (left_doubles k G full.0 full.1 drawn) (right_doubles k G full.0 full.1 drawn) (start k G full.0 full.1 drawn f.0 n);
    }
    ))

drawn_next : (k : ℕ) (G : Tree) → IsFine (suc k) G → ((X : Tree) → IsOption G X → AllDrawn k X) → AllDrawn (suc k) G
drawn_next k G f drawn = all-from (suc k) (left_wall (suc k)) (right_wall (suc k)) G (drawn_here k G f drawn) (λ X o. next k X (drawn X o))

pub walls-exist : (e k : ℕ) (G : Tree) → size G + e ≤ k → IsFine e G → AllWallsAre k (left_wall k) (right_wall k) G
walls-exist e zero G h f = absurd (omega (arith, h, size-pos G))
walls-exist e (suc k) G h f = drawn_next k G (f.0, over-more (suc k) e G (omega (arith, h)) f.1)
    (λ X o. walls-exist e k X (omega (arith, h, size-option G X o)) (fine-option e G X f o))

-- where the scaffolds jump on a grid, the tree has walls on the next one, and an odd temperature there
pub jump-odd : (k : ℕ) (G : Tree) → IsFine (suc k) G → (IsNumberTree G → ⊥) → ((X : Tree) → Has (left G) X → AllWallsAre k (left_wall k) (right_wall k) X) → ((X : Tree) → Has (right G) X → AllWallsAre k (left_wall k) (right_wall k) X)
    → (u : ℕ) → left_scaffold k G u <ℤ right_scaffold k G u → ((v : ℕ) → v < u → right_scaffold k G v <ℤ left_scaffold k G v)
    → (w : ℕ) × (u ≡ suc w) × AllWallsAre (suc k) (left_wall (suc k)) (right_wall (suc k)) G × IsMeeting (left_wall (suc k) G) (right_wall (suc k) G) (suc (w + w)) (left_scaffold (suc k) G (suc (w + w)))
jump-odd k G f n a b u p h = (middle.0, middle.1, drawn_next k G f drawn, meets (drawn_here k G f drawn))
  where
    drawn : (X : Tree) → IsOption G X → AllDrawn k X
    drawn X o = elim o [ inl x ↦ a X x | inr x ↦ b X x ]

    full : IsFilled (left G) × IsFilled (right G)
    full = canonical-filled G f.0 n

    lefts : Doubles (left_scaffold k G) (left_scaffold (suc k) G)
    lefts = left_doubles k G full.0 full.1 drawn

    rights : Doubles (right_scaffold k G) (right_scaffold (suc k) G)
    rights = right_doubles k G full.0 full.1 drawn

    middle : (w : ℕ) × (u ≡ suc w) × (left_scaffold (suc k) G (suc (w + w)) ≡ right_scaffold (suc k) G (suc (w + w))) × ((v : ℕ) → v < suc (w + w) → right_scaffold (suc k) G v <ℤ left_scaffold (suc k) G v)
    middle = jump-middle (left_scaffold k G) (right_scaffold k G) (left_scaffold (suc k) G) (right_scaffold (suc k) G) u
        (left_falls k G full.0 full.1 drawn) (right_rises k G full.0 full.1 drawn) lefts rights
        (omega (arith, ints, lefts.at_even 0, rights.at_even 0, start k G full.0 full.1 drawn f.0 n)) p h

    meets : WallsAre (suc k) (left_wall (suc k)) (right_wall (suc k)) G → IsMeeting (left_wall (suc k) G) (right_wall (suc k) G) (suc (middle.0 + middle.0)) (left_scaffold (suc k) G (suc (middle.0 + middle.0)))
    meets (of_number x i _ _) = absurd (n (suc k, x, i))
    meets (of_game _ M S g g' w) = subst (IsMeeting (left_wall (suc k) G) (right_wall (suc k) G) (suc (middle.0 + middle.0))) (left_same (suc k) G M g (suc (middle.0 + middle.0)))
        (follow-meeting M S (left_wall (suc k) G) (right_wall (suc k) G) (suc (middle.0 + middle.0)) w
        (omega (arith, ints, left_same (suc k) G M g (suc (middle.0 + middle.0)), right_same (suc k) G S g' (suc (middle.0 + middle.0)), middle.2))
        (λ v l. omega (arith, ints, left_same (suc k) G M g v, right_same (suc k) G S g' v, middle.3 v l)))
