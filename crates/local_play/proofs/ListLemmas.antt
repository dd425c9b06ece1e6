-- All moves of a position, in order.
use Rattle.std.proofs.Common.{◌≡◌, ◌≢◌, ℕ, ◌+◌, ◌-◌, ◌<◌, ◌≤◌, ◌⊎◌, ◌↔◌, inl, inr, arith, refl, sym, ap, ◌∙◌, List, [], ◌∷◌, ◌++◌, length, get_or, subst, append_assoc, append-nil, length-append}
use Rattle.std.specs.List.{AllPairs, Contains}
use Rattle.std.proofs.lemmas.Bool.{cases_eq, cases_lt}
use Rattle.std.proofs.lemmas.List.{get_or_append_left, get_or-append_right}
use Rattle.std.proofs.lemmas.List.Elements.{Contains-push, Contains-push_cases, Contains-append_left, Contains-append_right, Contains-append_cases, Contains-get_or}
use Rattle.std.proofs.lemmas.List.Quantifiers.{all_pairs_push}
use Rattle.go_grid.specs.declared.grid.Cell.{Cell}
use Rattle.go_grid.specs.declared.grid.Colour.{Colour}
use Rattle.go_grid.specs.declared.grid.Colour.TheVariants as colour
use Rattle.go_grid.specs.declared.region.Touch.{Touch}
use Rattle.go_grid.specs.Board.{other}
use Rattle.local_play.specs.declared.places.Places.{Places}
use Rattle.local_play.specs.declared.local_move.LocalMove.{LocalMove}
use Rattle.local_play.specs.declared.local_moves.LocalMoves.{LocalMoves}
use Rattle.local_play.specs.GivenMoves.{HaveGiven, HaveGivenTurn}
use Rattle.local_play.specs.LocalPlay.{IsLocalMove}
use Rattle.local_play.specs.Moves.{ListsLocalMoves, IsMoveFrom, StandsBefore}
use Rattle.local_play.specs.Places.{Has}
use Rattle.local_play.specs.inner.Lasting.{IsTurn}
use Rattle.local_play.specs.inner.Giving.{ListsBelow, AreEarlier, IsGiving}

-- pairs of a list and another behind it
pairs_append : {X : Type 0} (R : X → X → Type 0) (xs ys : List X) → AllPairs R xs → AllPairs R ys
    → ((x y : X) → Contains xs x → Contains ys y → R x y) → AllPairs R (xs ++ ys)
pairs_append R xs ys first second between i j d lt short = elim (cases_lt j (length xs)) [
  | inl in' ↦
      let a = get_or_append_left xs ys d i (omega arith) in
      let b = get_or_append_left xs ys d j in' in
      rw (a, b) (first i j d lt in')
  | inr out ↦
      let b = get_or-append_right xs ys (length xs) j d refl out in
      let inside : j - length xs < length ys = omega (arith, length-append xs ys) in
      elim (cases_lt i (length xs)) [
        | inl in'' ↦
            let a = get_or_append_left xs ys d i in'' in
            rw (a, b) (between (get_or xs i d) (get_or ys (j - length xs) d) (Contains-get_or xs i d in'')
            (Contains-get_or ys (j - length xs) d inside))
        | inr out' ↦
            let a = get_or-append_right xs ys (length xs) i d refl out' in
            rw (a, b) (second (i - length xs) (j - length xs) d (omega arith) inside)
      ]
]

colours : (c : Colour) → (c ≡ colour.Black) ⊎ (c ≡ colour.White)
colours colour.Black = inl refl
colours colour.White = inr refl

-- Black's moves and then White's are all moves of the position
all_moves : (touch : List Touch) (cells : List Cell) (black white : List LocalMove) → length cells ≡ length touch
    → ListsBelow touch cells colour.Black (length touch) black → ListsBelow touch cells colour.White (length touch) white
    → ListsLocalMoves touch cells (black ++ white)
all_moves touch cells black white long bb bw = record {
  legal = λ m h. elim (Contains-append_cases black white m h) [
    | inl b ↦ (bb.each m b).2
    | inr w ↦ (bw.each m w).2
  ];
  all = λ e p after m. elim (colours e) [
    | inl same ↦
        let found = bb.all p after (omega (arith, m.place, long)) (subst (λ x. IsLocalMove touch cells x p after) same m) in
        (found.0, Contains-append_left black white found.0 found.1, (bb.each found.0 found.1).0 ∙ sym same, found.2)
    | inr same ↦
        let found = bw.all p after (omega (arith, m.place, long)) (subst (λ x. IsLocalMove touch cells x p after) same m) in
        (found.0, Contains-append_right black white found.0 found.1, (bw.each found.0 found.1).0 ∙ sym same, found.2)
  ];
  in_order = pairs_append StandsBefore black white
      (one_colour colour.Black black bb) (one_colour colour.White white bw)
      (λ x y hx hy. inr ((bb.each x hx).0, (bw.each y hy).0));
}
  where
    one_colour : (c : Colour) (xs : List LocalMove) → ListsBelow touch cells c (length touch) xs → AllPairs StandsBefore xs
    one_colour c xs l i j d lt short =
        let first = l.each (get_or xs i d) (Contains-get_or xs i d (omega arith)) in
        let second = l.each (get_or xs j d) (Contains-get_or xs j d short) in
        inl (first.0 ∙ sym second.0, l.rising i j d lt short)

-- no moves below the first place
none_below : (touch : List Touch) (cells : List Cell) (c : Colour) → ListsBelow touch cells c 0 []
none_below touch cells c = record {
  each = λ m h. absurd (omega (arith, h.1));
  all = λ p after lt. absurd (omega arith);
  rising = λ i j d lt short. absurd (omega arith);
}

-- at the start of a colour's turn all its empty places are left
turn_starts : (touch : List Touch) (cells : List Cell) (given : List LocalMove) (s : LocalMoves) → IsTurn touch cells s.turn
    → AreEarlier touch cells s.turn.colour given → s.rest ≡ s.turn.empty → HaveGiven touch cells given s
turn_starts touch cells given s turn before all = record {
  below = 0;
  giving = record {
    turn = turn;
    earlier = given;
    before = before;
    more = [];
    appended = sym (append-nil given);
    below = none_below touch cells s.turn.colour;
    left = λ q. (λ h. (subst (λ x. Has x q) all h, omega arith), λ w. subst (λ x. Has x q) (sym all) w.0);
  };
}

pub black_starts : (touch : List Touch) (cells : List Cell) (s : LocalMoves) → IsTurn touch cells s.turn → s.turn.colour ≡ colour.Black
    → s.rest ≡ s.turn.empty → HaveGiven touch cells [] s
black_starts touch cells s turn black all =
    turn_starts touch cells [] s turn (subst (λ c. AreEarlier touch cells c []) (sym black) refl) all

-- each move that was given is one of the position
earlier_legal : (touch : List Touch) (cells : List Cell) (c : Colour) (earlier : List LocalMove) → AreEarlier touch cells c earlier
    → (m : LocalMove) → Contains earlier m → IsMoveFrom touch cells m
earlier_legal touch cells colour.Black earlier none m h = let w = subst (λ l. Contains l m) none h in absurd (omega (arith, w.1))
earlier_legal touch cells colour.White earlier black m h = (black.each m h).2

pub given_legal : (touch : List Touch) (cells : List Cell) (given : List LocalMove) (s : LocalMoves) → HaveGiven touch cells given s
    → (m : LocalMove) → Contains given m → IsMoveFrom touch cells m
given_legal touch cells given s have m h =
    let g = have.giving in
    elim (Contains-append_cases g.earlier g.more m (subst (λ l. Contains l m) g.appended h)) [
      | inl old ↦ earlier_legal touch cells s.turn.colour g.earlier g.before m old
      | inr new ↦ (g.below.each m new).2
    ]

-- where no place is left, all moves of the colour were given
pub turn_given : (touch : List Touch) (cells : List Cell) (given : List LocalMove) (s : LocalMoves) → HaveGiven touch cells given s
    → ((q : ℕ) → ¬ Has s.rest q) → HaveGivenTurn touch cells given s
turn_given touch cells given s have none =
    let g = have.giving in
    record {
      turn = g.turn;
      earlier = g.earlier;
      before = g.before;
      more = g.more;
      appended = g.appended;
      whole = record {
        each = λ m h. let w = g.below.each m h in (w.0, omega (arith, w.2.move.place, g.turn.long), w.2);
        all = λ q after lt m. elim (cases_lt q have.below) [
          | inl old ↦ g.below.all q after old m
          | inr le ↦ absurd (none q ((g.left q).1 ((g.turn.empty q).1 (lt, m.free), le)))
        ];
        rising = g.below.rising;
      };
    }

module _ (touch : List Touch) (cells : List Cell) (given : List LocalMove) (s : LocalMoves) (g : HaveGivenTurn touch cells given s) where
  -- White's turn after Black's
  pub white_starts : (after : LocalMoves) → s.turn.colour ≡ colour.Black → after.turn.colour ≡ other s.turn.colour → IsTurn touch cells after.turn
      → after.rest ≡ after.turn.empty → HaveGiven touch cells given after
  white_starts after first turned turn all =
      let white : after.turn.colour ≡ colour.White = turned ∙ ap other first in
      let nothing : g.earlier ≡ [] = subst (λ c. AreEarlier touch cells c g.earlier) first g.before in
      let same : given ≡ g.more = g.appended ∙ ap (λ l. l ++ g.more) nothing in
      turn_starts touch cells given after turn
      (subst (λ c. AreEarlier touch cells c given) (sym white)
      (subst (ListsBelow touch cells colour.Black (length touch)) (sym same) (subst (λ c. ListsBelow touch cells c (length touch) g.more) first g.whole)))
      all

  -- after White's turn all moves were given
  pub all_given : s.turn.colour ≡ colour.White → ListsLocalMoves touch cells given
  all_given last =
      let white = subst (λ c. ListsBelow touch cells c (length touch) g.more) last g.whole in
      let black = subst (λ c. AreEarlier touch cells c g.earlier) last g.before in
      subst (ListsLocalMoves touch cells) (sym g.appended) (all_moves touch cells g.earlier g.more g.turn.long black white)

-- the lowest place that is left is the next to try
pub place_taken : (touch : List Touch) (cells : List Cell) (given : List LocalMove) (s after : LocalMoves) (one : Places) (p : ℕ)
    → HaveGiven touch cells given s → Has s.rest p → ((q : ℕ) → q < p → ¬ Has s.rest q) → ((q : ℕ) → Has one q ↔ (q ≡ p))
    → ((q : ℕ) → Has after.rest q ↔ (Has s.rest q × ¬ Has one q)) → after.turn ≡ s.turn
    → Has after.turn.empty p × IsGiving touch cells given after p (p + 1)
place_taken touch cells given s after one p have here lowest is_one is_rest same =
    let stays : IsGiving touch cells given (record { turn = s.turn; rest = after.rest }) p (p + 1) = record {
      turn = g.turn;
      earlier = g.earlier;
      before = g.before;
      more = g.more;
      appended = g.appended;
      below = record {
        each = λ m h. let w = g.below.each m h in (w.0, omega (arith, w.1, from), w.2);
        all = λ q later lt m. elim (cases_lt q have.below) [
          | inl old ↦ g.below.all q later old m
          | inr le ↦ absurd (lowest q lt ((g.left q).1 ((g.turn.empty q).1 (omega (arith, m.place, g.turn.long), m.free), le)))
        ];
        rising = g.below.rising;
      };
      left = left_now;
    } in
    subst (λ t. Has t.empty p × IsGiving touch cells given (record { turn = t; rest = after.rest }) p (p + 1)) (sym same)
    (((g.left p).0 here).0, stays)
  where
    g : IsGiving touch cells given s have.below have.below
    g = have.giving

    from : have.below ≤ p
    from = ((g.left p).0 here).1

    left_now : (q : ℕ) → Has after.rest q ↔ (Has s.turn.empty q × (p + 1 ≤ q))
    left_now q = (
      λ h.
          let w = (is_rest q).0 h in (
            ((g.left q).0 w.0).0,
            elim (cases_lt q p) as (λ _. p + 1 ≤ q) [
              | inl lt ↦ absurd (lowest q lt w.0)
              | inr le ↦ let ne : q ≢ p = λ e. w.1 ((is_one q).1 e) in omega (arith, ne, le)
            ],
          ),
      λ w. (is_rest q).1 ((g.left q).1 (w.0, omega (arith, w.1, from)), λ h. let e = (is_one q).0 h in absurd (omega (arith, w.1, e))),
    )

module _ (touch : List Touch) (cells : List Cell) (given : List LocalMove) (s : LocalMoves) (p : ℕ) (g : IsGiving touch cells given s p (p + 1)) where
  wider : (m : LocalMove) → (m.colour ≡ s.turn.colour) × (m.place < p) × IsMoveFrom touch cells m
      → (m.colour ≡ s.turn.colour) × (m.place < p + 1) × IsMoveFrom touch cells m
  wider m (c, lt, w) = (c, omega (arith, lt), w)

  -- where the stone is illegal
  pub none_given : ((after : List Cell) → ¬ IsLocalMove touch cells s.turn.colour p after) → HaveGiven touch cells given s
  none_given none = record {
    below = p + 1;
    giving = record {
      turn = g.turn;
      earlier = g.earlier;
      before = g.before;
      more = g.more;
      appended = g.appended;
      below = record {
        each = λ m h. wider m (g.below.each m h);
        all = λ q after lt m. elim (cases_eq q p) [
          | inl e ↦ absurd (none after (subst (λ x. IsLocalMove touch cells s.turn.colour x after) e m))
          | inr ne ↦ g.below.all q after (omega (arith, lt, ne)) m
        ];
        rising = g.below.rising;
      };
      left = g.left;
    };
  }

  -- where it is a move
  pub one_given : (m : LocalMove) → m.colour ≡ s.turn.colour → m.place ≡ p → IsMoveFrom touch cells m
      → HaveGiven touch cells (given ++ m ∷ []) s
  one_given m c at new = record {
    below = p + 1;
    giving = record {
      turn = g.turn;
      earlier = g.earlier;
      before = g.before;
      more = g.more ++ m ∷ [];
      appended = ap (λ l. l ++ m ∷ []) g.appended ∙ append_assoc g.earlier g.more (m ∷ []);
      below = record {
        each = λ x h. elim (Contains-push_cases g.more m x h) [
          | inl old ↦ wider x (g.below.each x old)
          | inr e ↦ subst (λ y. (y.colour ≡ s.turn.colour) × (y.place < p + 1) × IsMoveFrom touch cells y) e (c, omega (arith, at), new)
        ];
        all = λ q after lt w. elim (cases_eq q p) [
          | inl e ↦ (m, Contains-push g.more m, at ∙ sym e)
          | inr ne ↦
              let f = g.below.all q after (omega (arith, lt, ne)) w in
              (f.0, Contains-append_left g.more (m ∷ []) f.0 f.1, f.2)
        ];
        rising = all_pairs_push (λ x y. x.place < y.place) g.more m g.below.rising
            (λ k d lt. let old = g.below.each (get_or g.more k d) (Contains-get_or g.more k d lt) in omega (arith, old.1, at));
      };
      left = g.left;
    };
  }
