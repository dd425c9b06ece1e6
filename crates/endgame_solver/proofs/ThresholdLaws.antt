-- Thresholds: which number beside a game is the least with which Black wins, what openings of one ground have in common, and that
-- there is exactly one threshold.
use Rattle.std.proofs.Common.{ℕ, ℤ, zero, suc, ◌≡◌, ◌⊎◌, ◌↔◌, ◌+◌, ◌/◌, ◌%◌, ◌<◌, ◌≤◌, inl, inr, refl, sym, ap, ◌∙◌, subst, arith, List, [], ◌∷◌, pos, negsuc, neg_ℤ, ◌+ℤ◌, ◌-ℤ◌, ◌<ℤ◌, ◌≤ℤ◌, cond, nat_eq}
use Rattle.std.proofs.lemmas.Int.{ints, by_lt_z}
use Rattle.go_grid.specs.declared.grid.Colour.{Colour}
use Rattle.go_grid.specs.declared.grid.Colour.TheVariants.{Black, White}
use Rattle.go_grid.specs.Board.{Board, other}
use Rattle.go_grid.specs.Marks.{IsMarked}
use Rattle.go_play.proofs.PlaceLemmas.{one_board}
use Rattle.go_play.specs.Place.{IsPlaced, IsNumberTaken}
use Rattle.whole_rules.specs.declared.money.Purses.{Purses}
use Rattle.whole_rules.specs.declared.money.Token.TheVariants as token
use Rattle.whole_rules.specs.declared.states.Move.TheVariants.{Stone}
use Rattle.whole_rules.specs.FirstWinningMove.{IsWinner}
use Rattle.whole_rules.specs.Opening.{komi_points, komi_token}
use Rattle.whole_rules.specs.OpeningWith.{Ground, OpensWith}
use Rattle.whole_rules.specs.PlainRecursion.{MoverWins, MoverLoses}
use Rattle.whole_rules.specs.Purses.{paid_in}
use Rattle.whole_rules.specs.Threshold.{IsThresholdAfter, stones}
use Rattle.whole_rules.specs.Walls.{Plays}
use Rattle.whole_rules.specs.WholeGame.{Whole, IsMove, Leads, after}
use Rattle.whole_rules.proofs.OpeningLaws.{beside_komi, opens_with_each}
use Rattle.whole_rules.proofs.OutcomeLaws.{wins-not_loses}
use Rattle.short_games.specs.Tree.{Tree, neg, size}
use Rattle.short_games.specs.Order.{◌≤ᵍ◌}
use Rattle.short_games.specs.Number.{num, whole}
use Rattle.short_games.specs.Sum.{◌+ᵍ◌}
use Rattle.short_games.proofs.NumberLaws.{neg-num, no-right, num-double, num-le, num-le_plus, num-lt, num-plus_le, num-zero}
use Rattle.short_games.proofs.OrderLaws.{le-in, le-refl, le-trans, size-left, size-pos}
use Rattle.short_games.proofs.SumLaws.{neg-le, neg-neg, nought, nought-plus, plus-assoc, plus-le, plus-le_both}
use Rattle.game_players.specs.Players.{LosesGame, credit}
use Rattle.game_players.proofs.PlayerLaws.{loses-or_not}
use Rattle.endgame_solver.specs.SumGame.{balance, halves}
use Rattle.endgame_solver.specs.Thresholds.{BlackWins, IsLeastWin}

-- Games beside numbers of halves.

pub wins_more : (c : Colour) (G : Tree) (y z : ℤ) → y ≤ℤ z → BlackWins c (G +ᵍ num 1 y) → BlackWins c (G +ᵍ num 1 z)
wins_more Black G y z le w = λ l. w (le-trans _ _ _ (plus-le_both G G (num 1 y) (num 1 z) (le-refl G) (num-le 1 y z le)) l)
wins_more White G y z le w = le-trans _ _ _ w (plus-le_both G G (num 1 y) (num 1 z) (le-refl G) (num-le 1 y z le))

-- what is below a number beside its negative and less is lost, and what is above one is won
below_nought : (y : ℤ) → y <ℤ pos 0 → nought ≤ᵍ num 1 y → ⊥
below_nought y lt h = num-lt 1 y (pos 0) lt (subst (λ t. t ≤ᵍ num 1 y) (sym (num-zero 1)) h)

above_nought : (y : ℤ) → pos 0 <ℤ y → num 1 y ≤ᵍ nought → ⊥
above_nought y lt h = num-lt 1 (pos 0) y lt (subst (λ t. num 1 y ≤ᵍ t) (sym (num-zero 1)) h)

pub lost_below : (c : Colour) (G : Tree) (h y : ℤ) → G ≤ᵍ num 1 h → (h +ℤ y) <ℤ pos 0 → ¬ BlackWins c (G +ᵍ num 1 y)
lost_below c G h y under lt = at c
  where
    small : G +ᵍ num 1 y ≤ᵍ num 1 (h +ℤ y)
    small = le-trans _ _ _ (plus-le G (num 1 h) (num 1 y) under) (num-plus_le 1 h y)

    at : (c : Colour) → ¬ BlackWins c (G +ᵍ num 1 y)
    at Black = λ w. w (le-trans _ _ _ small (subst (λ t. num 1 (h +ℤ y) ≤ᵍ t) (num-zero 1) (num-le 1 (h +ℤ y) (pos 0) (omega (arith, ints, lt)))))
    at White = λ w. below_nought (h +ℤ y) lt (le-trans _ _ _ w small)

pub won_above : (c : Colour) (G : Tree) (l y : ℤ) → num 1 l ≤ᵍ G → pos 0 <ℤ (l +ℤ y) → BlackWins c (G +ᵍ num 1 y)
won_above c G l y over lt = at c
  where
    great : num 1 (l +ℤ y) ≤ᵍ G +ᵍ num 1 y
    great = le-trans _ _ _ (num-le_plus 1 l y) (plus-le (num 1 l) G (num 1 y) over)

    at : (c : Colour) → BlackWins c (G +ᵍ num 1 y)
    at Black = λ w. above_nought (l +ℤ y) lt (le-trans _ _ _ great w)
    at White = le-trans _ _ _ (subst (λ t. t ≤ᵍ num 1 (l +ℤ y)) (num-zero 1) (num-le 1 (pos 0) (l +ℤ y) (omega (arith, ints, lt)))) great

-- where Black wins as the second player, Black wins as the first with half a point more
pub wins_first : (G : Tree) (y : ℤ) → BlackWins White (G +ᵍ num 1 y) → BlackWins Black (G +ᵍ num 1 (y +ℤ pos 1))
wins_first G y w l =
    let half : num 1 (pos 1) ≤ᵍ (G +ᵍ num 1 y) +ᵍ num 1 (pos 1) =
    subst (λ t. t ≤ᵍ (G +ᵍ num 1 y) +ᵍ num 1 (pos 1)) (nought-plus (num 1 (pos 1))) (plus-le nought (G +ᵍ num 1 y) (num 1 (pos 1)) w) in
    let more : (G +ᵍ num 1 y) +ᵍ num 1 (pos 1) ≤ᵍ G +ᵍ num 1 (y +ℤ pos 1) =
    subst (λ t. t ≤ᵍ G +ᵍ num 1 (y +ℤ pos 1)) (sym (plus-assoc G (num 1 y) (num 1 (pos 1))))
    (plus-le_both G G (num 1 y +ᵍ num 1 (pos 1)) (num 1 (y +ℤ pos 1)) (le-refl G) (num-plus_le 1 y (pos 1))) in
    above_nought (pos 1) (omega (arith, ints)) (le-trans _ _ _ half (le-trans _ _ _ more l))

wins_or_not : (c : Colour) (G : Tree) → BlackWins c G ⊎ ¬ BlackWins c G
wins_or_not Black G = elim (loses-or_not Black G) [ inl l ↦ inr (λ w. w l) | inr w ↦ inl w ]
wins_or_not White G = loses-or_not White G

-- between what is lost and what is won there is a least number that wins
pub least_by : (c : Colour) (G : Tree) (y : ℤ) → ¬ BlackWins c (G +ᵍ num 1 (y -ℤ pos 1)) → BlackWins c (G +ᵍ num 1 y) → IsLeastWin c G y
least_by c G y lost won z = (
  λ w. by_lt_z z y (λ lt. absurd (lost (wins_more c G z (y -ℤ pos 1) (omega (arith, ints, lt)) w))) (λ le. le),
  λ le. wins_more c G y z le won,
)

least_up : (c : Colour) (G : Tree) (n : ℕ) (y : ℤ) → ¬ BlackWins c (G +ᵍ num 1 y) → BlackWins c (G +ᵍ num 1 (y +ℤ pos n))
    → (least : ℤ) × IsLeastWin c G least
least_up c G zero y lost won = absurd (lost (subst (λ z. BlackWins c (G +ᵍ num 1 z)) (omega (arith, ints)) won))
least_up c G (suc n) y lost won = elim (wins_or_not c (G +ᵍ num 1 (y +ℤ pos 1))) [
  | inl w ↦ (y +ℤ pos 1, least_by c G (y +ℤ pos 1) (subst (λ z. ¬ BlackWins c (G +ᵍ num 1 z)) (omega (arith, ints)) lost) w)
  | inr l ↦ least_up c G n (y +ℤ pos 1) l (subst (λ z. BlackWins c (G +ᵍ num 1 z)) (omega (arith, ints)) won)
]

-- each game lies between two whole numbers
at_most : (n : ℕ) (G : Tree) → size G ≤ n → G ≤ᵍ num 0 (pos n)
unfolding num whole
at_most zero G le = absurd (omega (arith, le, size-pos G))
at_most (suc n) G le = le-in G (num 0 (pos (suc n))) record {
  from_left = λ L h y. num-lt 0 (pos n) (pos (suc n)) (omega (arith, ints)) (le-trans _ L _ y (at_most n L (omega (arith, le, size-left G L h))));
  from_right = λ X h _. no-right (suc n) X h;
}

upper : (G : Tree) → (n : ℕ) × (G ≤ᵍ num 1 (pos n))
upper G = (size G + size G, subst (λ t. G ≤ᵍ t) (sym (num-double 0 (pos (size G)))) (at_most (size G) G (omega arith)))

pub some_least : (c : Colour) (G : Tree) → (least : ℤ) × IsLeastWin c G least
some_least c G =
    let (h, under) = upper G in
    let (l, under') = upper (neg G) in
    let over : num 1 (neg_ℤ (pos l)) ≤ᵍ G = rw (neg-num 1 (pos l), neg-neg G) at (neg-le (neg G) (num 1 (pos l)) under') in
    let first = neg_ℤ (pos (suc h)) in
    least_up c G (suc (suc (h + l))) first (lost_below c G (pos h) first under (omega (arith, ints)))
    (won_above c G (neg_ℤ (pos l)) (first +ℤ pos (suc (suc (h + l)))) over (omega (arith, ints)))

-- Who wins a state that a game decides.

-- the state has a winner, and who is to move loses exactly where the game beside the balance of the purses says so
abbrev pub IsDecidedBeside : Tree → Whole → Type 0
IsDecidedBeside G t = (MoverWins Whole Leads t ⊎ MoverLoses Whole Leads t)
    × (MoverLoses Whole Leads t ↔ LosesGame t.side (G +ᵍ num 1 (balance t.purses)))

pub black_wins : (G : Tree) (t : Whole) (c : Colour) (x : ℤ) → IsDecidedBeside G t → t.side ≡ c → balance t.purses ≡ x
    → IsWinner t Black ↔ BlackWins c (G +ᵍ num 1 x)
black_wins G t c x (some, loser) turn is = at c turn (subst (λ T. MoverLoses Whole Leads t ↔ T) (λ i. LosesGame (turn i) (G +ᵍ num 1 (is i))) loser)
  where
    at : (c : Colour) → t.side ≡ c → MoverLoses Whole Leads t ↔ LosesGame c (G +ᵍ num 1 x) → IsWinner t Black ↔ BlackWins c (G +ᵍ num 1 x)
    at Black e d = (
      λ w. elim w [
        | inl (_, wins) ↦ λ h. (let l = d.1 h in absurd (wins-not_loses Whole Leads wins.0 l.0 t wins.1 l.1))
        | inr (is, _) ↦ absurd (let wrong = is ∙ ap other e in cc)
      ],
      λ w. elim some [ inl wins ↦ inl (sym e, wins) | inr loses ↦ absurd (w (d.0 loses)) ],
    )
    at White e d = (
      λ w. elim w [
        | inl (is, _) ↦ absurd (let wrong = is ∙ e in cc)
        | inr (_, loses) ↦ d.0 loses
      ],
      λ h. inr (ap other (sym e), d.1 h),
    )

-- Openings of one ground, and stones from them.

komi_balance : (p q : ℕ) (k : ℤ)
    → balance (record { black = p + komi_points Black k; white = q + komi_points White k; token = komi_token k })
    ≡ ((pos p +ℤ pos p) -ℤ (pos q +ℤ pos q)) -ℤ k
komi_balance p q (pos n) = at (n % 2) refl (omega arith)
  where
    at : (b : ℕ) → n % 2 ≡ b → b < 2 → balance (record { black = p + 0; white = q + n / 2; token = cond (nat_eq (n % 2) 0) token.Nobody token.White })
        ≡ ((pos p +ℤ pos p) -ℤ (pos q +ℤ pos q)) -ℤ pos n
    at zero e lt = rw e (omega (arith, ints, e))
    at (suc zero) e lt = rw e (omega (arith, ints, e))
    at (suc (suc b)) e lt = absurd (omega (arith, lt))
komi_balance p q (negsuc n) = at (suc n % 2) refl (omega arith)
  where
    at : (b : ℕ) → suc n % 2 ≡ b → b < 2
        → balance (record { black = p + suc n / 2; white = q + 0; token = cond (nat_eq (suc n % 2) 0) token.Nobody token.Black })
        ≡ ((pos p +ℤ pos p) -ℤ (pos q +ℤ pos q)) -ℤ negsuc n
    at zero e lt = rw e (omega (arith, ints, e))
    at (suc zero) e lt = rw e (omega (arith, ints, e))
    at (suc (suc b)) e lt = absurd (omega (arith, lt))

-- the balance of an opening is one that all openings of its ground share, less the komi
pub opening_balance : (x : Ground) (k : ℤ) (c : Colour) (s : Whole) → OpensWith x k c s
    → (b : ℤ) × ((l : ℤ) (d : Colour) (t : Whole) → OpensWith x l d t → balance t.purses ≡ b -ℤ l)
opening_balance x k c s o =
    let (points, beside) = beside_komi x k c s o in (
      (pos (points Black) +ℤ pos (points Black)) -ℤ (pos (points White) +ℤ pos (points White)),
      λ l d t p. ap balance (λ i. record { black = beside.black l d t p i; white = beside.white l d t p i; token = p.token i })
          ∙ komi_balance (points Black) (points White) l,
    )

pub balance_paid : (c : Colour) (n : ℕ) (m : Purses) → balance (paid_in c n m) ≡ balance m +ℤ (credit c n +ℤ credit c n)
balance_paid Black n m = sums m.black m.white n (halves m.token)
  where
    sums : (b w n : ℕ) (h : ℤ) → ((pos (b + n) +ℤ neg_ℤ (pos w)) +ℤ (pos (b + n) +ℤ neg_ℤ (pos w))) +ℤ h
        ≡ (((pos b +ℤ neg_ℤ (pos w)) +ℤ (pos b +ℤ neg_ℤ (pos w))) +ℤ h) +ℤ (pos n +ℤ pos n)
    sums b w n h = omega (arith, ints)
balance_paid White n m = sums m.black m.white n (halves m.token)
  where
    sums : (b w n : ℕ) (h : ℤ) → ((pos b +ℤ neg_ℤ (pos (w + n))) +ℤ (pos b +ℤ neg_ℤ (pos (w + n)))) +ℤ h
        ≡ (((pos b +ℤ neg_ℤ (pos w)) +ℤ (pos b +ℤ neg_ℤ (pos w))) +ℤ h) +ℤ (neg_ℤ (pos n) +ℤ neg_ℤ (pos n))
    sums b w n h = omega (arith, ints)

-- two states have one board, the same contested points, and the first's balance is so much more
pub record AreAlike (more : ℤ) (s t : Whole) : Type 0 where
  pub board : s.board ≡ t.board
  pub contested : (q : ℕ) → IsMarked s.contested q ↔ IsMarked t.contested q
  pub balance_is : balance s.purses ≡ balance t.purses +ℤ more

-- a stone leaves alike states alike
alike_stone : (more : ℤ) (p : ℕ) (s t s' t' : Whole) → AreAlike more s t → s.side ≡ t.side → IsMove s (Stone p) s' → IsMove t (Stone p) t'
    → AreAlike more s' t' × (s'.side ≡ t'.side)
alike_stone more p s t s' t' alike turn (_, (h, (n, placed, number, is))) (_, (h', (n', placed', number', is'))) =
    let there = subst (λ T. T) (λ i. IsPlaced (alike.board i) p (turn i) h) placed in
    let board = one_board t.board h h' p t.side there placed' in
    let counted = subst (λ T. T) (λ i. IsNumberTaken (alike.board i) (board i) n) number in
    let taken : n ≡ n' = omega (arith, counted, number') in
    let paid = balance_paid s.side n s.purses ∙ (λ i. balance s.purses +ℤ (credit (turn i) (taken i) +ℤ credit (turn i) (taken i))) in
    let paid' = balance_paid t.side n' t.purses in (
      record {
        board = ap (λ z. z.board) is ∙ board ∙ sym (ap (λ z. z.board) is');
        contested = λ q. subst (λ T. T) (λ i. IsMarked (sym is i).contested q ↔ IsMarked (sym is' i).contested q) (alike.contested q);
        balance_is = ap (λ z. balance z.purses) is ∙ paid
            ∙ moved (balance s.purses) (balance t.purses) more (credit t.side n' +ℤ credit t.side n') alike.balance_is
            ∙ ap (λ z. z +ℤ more) (sym paid' ∙ sym (ap (λ z. balance z.purses) is'));
      },
      ap (λ z. z.side) is ∙ ap other turn ∙ sym (ap (λ z. z.side) is'),
    )
  where
    moved : (a b m n : ℤ) → a ≡ b +ℤ m → a +ℤ n ≡ (b +ℤ n) +ℤ m
    moved a b m n e = omega (arith, ints, e)

pub alike_stones : (more : ℤ) (ps : List ℕ) (s t s' t' : Whole) → AreAlike more s t → s.side ≡ t.side → Plays s (stones ps) s'
    → Plays t (stones ps) t' → AreAlike more s' t' × (s'.side ≡ t'.side)
alike_stones more [] s t s' t' alike turn e e' = subst (λ T. T) (λ i. AreAlike more (e i) (e' i) × ((e i).side ≡ (e' i).side)) (alike, turn)
alike_stones more (p ∷ ps) s t s' t' alike turn (u, move, rest) (u', move', rest') =
    let (next, turn') = alike_stone more p s t u u' alike turn move move' in
    alike_stones more ps u u' s' t' next turn' rest rest'

-- a state in which the same stones can be played
pub follow_stones : (ps : List ℕ) (s t s' : Whole) → s.board ≡ t.board → s.side ≡ t.side → ((p : ℕ) → IsMarked s.contested p → IsMarked t.contested p)
    → Plays s (stones ps) s' → (t' : Whole) × Plays t (stones ps) t'
follow_stones [] s t s' board turn marks e = (t, refl)
follow_stones (p ∷ ps) s t s' board turn marks (u, (mark, (h, (n, placed, number, is))), rest) =
    let next = after h (paid_in t.side n t.purses) t in
    let placed' = subst (λ T. T) (λ i. IsPlaced (board i) p (turn i) h) placed in
    let move : IsMove t (Stone p) next = (marks p mark, (h, (n, placed', subst (λ g. IsNumberTaken g h n) board number, refl))) in
    let more : (q : ℕ) → IsMarked u.contested q → IsMarked next.contested q =
    λ q m. marks q (subst (λ z. IsMarked z.contested q) is m) in
    let (t', plays) = follow_stones ps u next s' (ap (λ z. z.board) is) (ap (λ z. z.side) is ∙ ap other turn) more rest in
    (t', (next, move, plays))

-- The threshold after stones.

pub alike_openings : (x : Ground) (k l : ℤ) (c d : Colour) (s t : Whole) → OpensWith x k c s → OpensWith x l d t → AreAlike (l -ℤ k) s t
alike_openings x k l c d s t o p =
    let (b, is) = opening_balance x k c s o in
    record {
      board = o.board ∙ sym p.board;
      contested = λ q. (λ m. (p.contested q).1 ((o.contested q).0 m), λ m. (o.contested q).1 ((p.contested q).0 m));
      balance_is = less (balance s.purses) (balance t.purses) b k l (is k c s o) (is l d t p);
    }
  where
    less : (a d b k l : ℤ) → a ≡ b -ℤ k → d ≡ b -ℤ l → a ≡ d +ℤ (l -ℤ k)
    less a d b k l e f = omega (arith, ints, e, f)

-- what the balance of the one is, by that of the other and the two komi
pub balance_less : (a b k l : ℤ) → b ≡ a +ℤ (l -ℤ k) → a ≡ (b +ℤ k) -ℤ l
balance_less a b k l e = omega (arith, ints, e)

pub stones_serve : (x : Ground) (k l : ℤ) (c : Colour) (s t u : Whole) (ps : List ℕ) → OpensWith x k c s → Plays s (stones ps) t → OpensWith x l c u
    → (v : Whole) × Plays u (stones ps) v
stones_serve x k l c s t u ps o plays p =
    follow_stones ps s u t (o.board ∙ sym p.board) (o.turn ∙ sym p.turn) (λ q m. (p.contested q).1 ((o.contested q).0 m)) plays

-- where a game decides each state that is reached by the stones, the threshold is found beside it
pub threshold_by : (x : Ground) (c d : Colour) (ps : List ℕ) (G : Tree) (b least : ℤ) → IsLeastWin d G least
    → ((k : ℤ) (s t : Whole) → OpensWith x k c s → Plays s (stones ps) t → IsDecidedBeside G t × (t.side ≡ d) × (balance t.purses ≡ b -ℤ k))
    → IsThresholdAfter x c ps (b -ℤ least)
threshold_by x c d ps G b least is each k s t o plays =
    let (decided, turn, money) = each k s t o plays in
    let w = black_wins G t d (b -ℤ k) decided turn money in
    (λ h. turned ((is (b -ℤ k)).0 (w.0 h)), λ h. w.1 ((is (b -ℤ k)).1 (back h)))
  where
    turned : least ≤ℤ (b -ℤ k) → k ≤ℤ (b -ℤ least)
    turned h = omega (arith, ints, h)

    back : k ≤ℤ (b -ℤ least) → least ≤ℤ (b -ℤ k)
    back h = omega (arith, ints, h)

-- two thresholds are one
pub one_threshold : (x : Ground) (c : Colour) (ps : List ℕ) (k : ℤ) (s t : Whole) → OpensWith x k c s → Plays s (stones ps) t → (K L : ℤ)
    → IsThresholdAfter x c ps K → IsThresholdAfter x c ps L → L ≡ K
one_threshold x c ps k s t o plays K L is is' =
    let below : (A B : ℤ) → IsThresholdAfter x c ps A → IsThresholdAfter x c ps B → A ≤ℤ B = λ A B a b.
    let (u, p) = opens_with_each x k A c c s o in
    let (v, plays') = stones_serve x k A c s t u ps o plays p in
    (b A u v p plays').0 ((a A u v p plays').1 (omega (arith, ints))) in
    both K L (below K L is is') (below L K is' is)
  where
    both : (K L : ℤ) → K ≤ℤ L → L ≤ℤ K → L ≡ K
    both K L a b = omega (arith, ints, a, b)
