-- Who wins within so many moves is decided: a state has finitely many moves, each with one outcome.
use Rattle.std.proofs.Common.{◌≡◌, ◌≢◌, ℕ, zero, suc, ◌+◌, ◌-◌, ◌≤◌, ◌<◌, ◌⊎◌, inl, inr, refl, sym, ap, ◌∙◌, subst, arith, List, [], ◌∷◌, length, get_or, Bool, true, false, cond, count_by}
use Rattle.std.proofs.lemmas.Bool.{cases_Bool, cases_eq, cases_lt}
use Rattle.std.proofs.lemmas.List.Sums.{sum_by-cons, sum_by-set}
use Rattle.go_grid.specs.declared.grid.Cell.{Cell}
use Rattle.go_grid.specs.declared.grid.Cell.TheVariants as cell
use Rattle.go_grid.specs.declared.grid.Colour.{Colour}
use Rattle.go_grid.specs.declared.grid.Colour.TheVariants as colour
use Rattle.go_grid.specs.Board.{Board, cell_at, stone}
use Rattle.go_grid.specs.Play.{is_stone, with_stone}
use Rattle.go_grid.proofs.DecidedLemmas.{Decided, alike, denied, either, some_below}
use Rattle.go_grid.proofs.PlayLemmas.{one_without}
use Rattle.go_play.proofs.PlaceLemmas.{one_board}
use Rattle.go_play.specs.Place.{Breathes, IsNumberTaken, IsPlaced, IsSuicide, IsTaken}
use Rattle.benson_attack.proofs.PlacingLemmas.{placed_or_not}
use Rattle.whole_rules.specs.declared.money.Token.{Token}
use Rattle.whole_rules.specs.declared.money.Token.TheVariants as token
use Rattle.whole_rules.specs.declared.states.Move.{Move}
use Rattle.whole_rules.specs.declared.states.Move.TheVariants.{Stone, Spend, Half}
use Rattle.whole_rules.specs.PlainRecursion.{WinsWithin, LosesWithin}
use Rattle.whole_rules.specs.Purses.{purse, paid_in, paid_out, halved}
use Rattle.whole_rules.specs.WholeGame.{Whole, Leads, IsMove, after}

-- the least number with a property that some number has
pub least_of : (P : ℕ → Type 0) → ((k : ℕ) → Decided (P k)) → (m : ℕ) → P m → (k : ℕ) × (k ≤ m) × P k × ((j : ℕ) → j < k → ¬ P j)
least_of P d m p =
    let start : m ≡ 0 + m = omega arith in
    let (k, le, w, less) = from 0 m (λ j lt. absurd (omega (arith, lt))) (subst P start p) in
    (k, omega (arith, le), w, less)
  where
    from : (i fuel : ℕ) → ((j : ℕ) → j < i → ¬ P j) → P (i + fuel) → (k : ℕ) × (k ≤ i + fuel) × P k × ((j : ℕ) → j < k → ¬ P j)
    from i zero none q = let end : i + 0 ≡ i = omega arith in (i, omega arith, subst P end q, none)
    from i (suc fuel) none q = elim (d i) [
      | inl here ↦ (i, omega arith, here, none)
      | inr not ↦
          let more : (j : ℕ) → j < suc i → ¬ P j = λ j lt w. elim (cases_eq j i) as (λ _. ⊥) [
            | inl e ↦ not (subst P e w)
            | inr ne ↦ none j (omega (arith, lt, ne)) w
          ] in
          let next : i + suc fuel ≡ suc i + fuel = omega arith in
          let (k, le, w, less) = from (suc i) fuel more (subst P next q) in
          (k, omega (arith, le), w, less)
    ]

-- A placing takes some number of stones.

-- 1 where it is so
abbrev one_if : Bool → ℕ
one_if b = cond b 1 0

-- what is counted in one list stands in the other too
count_less : (f : Cell → Bool) (xs ys : List Cell) → length xs ≡ length ys
    → ((q : ℕ) → f (get_or xs q cell.Empty) ≡ true → get_or xs q cell.Empty ≡ get_or ys q cell.Empty) → count_by f xs ≤ count_by f ys
count_less f [] [] e same = omega arith
count_less f [] (y ∷ ys) e same = absurd (omega (arith, e))
count_less f (x ∷ xs) [] e same = absurd (omega (arith, e))
count_less f (x ∷ xs) (y ∷ ys) e same =
    let later = count_less f xs ys (omega (arith, e)) (λ q. same (suc q)) in
    let first = sum_by-cons (λ z. cond (f z) 1 0) x xs in
    let second = sum_by-cons (λ z. cond (f z) 1 0) y ys in
    elim (cases_Bool (f x)) as (λ _. count_by f (x ∷ xs) ≤ count_by f (y ∷ ys)) [
      | inl on ↦ let here : one_if (f x) ≡ one_if (f y) = ap (λ z. one_if (f z)) (same 0 on) in omega (arith, later, first, second, here)
      | inr off ↦ let here : one_if (f x) ≡ 0 = ap one_if off in omega (arith, later, first, second, here)
    ]

some_taken : (g h : Board) (p : ℕ) (c : Colour) → IsPlaced g p c h → (n : ℕ) × IsNumberTaken g h n
some_taken g h p c (ground, m) =
    let rise = sum_by-set (λ y. cond (is_stone y) 1 0) g.cells p (stone c) cell.Empty m.place in
    let was : is_stone (cell_at g p) ≡ false = ap is_stone m.free in
    let more : count_by is_stone (with_stone g.cells p c) ≡ count_by is_stone g.cells + 1 = omega (arith, rw (was, stone_is c) at rise) in
    let less = count_less is_stone h.cells _ m.without.long (λ q on. m.without.kept q (λ t. off q (ap is_stone (m.without.gone q t)) on)) in
    ((count_by is_stone g.cells + 1) - count_by is_stone h.cells, sym (number _ _ _ more less))
  where
    stone_is : (c : Colour) → is_stone (stone c) ≡ true
    stone_is colour.Black = refl
    stone_is colour.White = refl

    off : (q : ℕ) → is_stone (get_or h.cells q cell.Empty) ≡ false → is_stone (get_or h.cells q cell.Empty) ≡ true → ⊥
    off q e f = absurd (let w = sym e ∙ f in cc)

    number : (a b d : ℕ) → b ≡ a + 1 → d ≤ b → a + 1 ≡ d + ((a + 1) - d)
    number a b d e le = omega (arith, e, le)

-- Moves.

empty_or_not : (x : Cell) → Decided (x ≡ cell.Empty)
empty_or_not cell.Empty = inl refl
empty_or_not cell.Black = inr (λ e. cc)
empty_or_not cell.White = inr (λ e. cc)

owned_or_not : (t : Token) → Decided (t ≢ token.Nobody)
owned_or_not token.Nobody = inr (λ f. f refl)
owned_or_not token.Black = inl (λ e. cc)
owned_or_not token.White = inl (λ e. cc)

-- a suicide is no placing
never_placed : (g h : Board) (p : ℕ) (c : Colour) → IsSuicide g p c → IsPlaced g p c h → ⊥
never_placed g h p c (cells, cleared, choked) (ground, m) =
    choked (subst (λ z. Breathes g z c p) (one_without (with_stone g.cells p c) (IsTaken g p c) h.cells cells m.without cleared) m.stands)

-- a stone leads to one state
one_state : (s t u : Whole) (p : ℕ) → IsMove s (Stone p) t → IsMove s (Stone p) u → t ≡ u
one_state s t u p (mark, (h, (n, (ground, m), number, is))) (mark', (k, (n', (ground', m'), number', is'))) =
    let board = one_board s.board h k p s.side (ground, m) (ground', m') in
    let cells = ap (λ b. b.cells) board in
    let same : n ≡ n' = omega (arith, number, number', ap (count_by is_stone) cells) in
    is ∙ (λ i. after (board i) (paid_in s.side (same i) s.purses) s) ∙ sym is'

module _ (P : Whole → Type 0) (told : (t : Whole) → Decided (P t)) (s : Whole) where
  -- some outcome of the move has the property
  abbrev pub Leading : Move → Type 0
  Leading m = (t : Whole) × IsMove s m t × P t

  stone_or_not : (p : ℕ) → Decided (Leading (Stone p))
  stone_or_not p = elim (cases_Bool (get_or s.contested p false)) [
    | inr off ↦ inr (λ (t, (mark, rest), w). absurd (let e = sym off ∙ mark in cc))
    | inl mark ↦ elim (cases_lt p (length s.board.cells)) [
      | inr ge ↦ inr (λ (t, (mark', (h, (n, placed, number, is))), w). omega (arith, ge, placed.1.place))
      | inl lt ↦ elim (empty_or_not (cell_at s.board p)) [
        | inr full ↦ inr (λ (t, (mark', (h, (n, placed, number, is))), w). full placed.1.free)
        | inl free ↦ elim (placed_or_not s.board p s.side (lt, free)) [
          | inr suicide ↦ inr (λ (t, (mark', (h, (n, placed, number, is))), w). never_placed s.board h p s.side suicide placed)
          | inl (h, placed) ↦
              let (n, number) = some_taken s.board h p s.side placed in
              let t = after h (paid_in s.side n s.purses) s in
              let move : IsMove s (Stone p) t = (mark, (h, (n, placed, number, refl))) in
              elim (told t) [
                | inl w ↦ inl (t, move, w)
                | inr not ↦ inr (λ (u, move', w). not (subst P (one_state s u t p move' move) w))
              ]
        ]
      ]
    ]
  ]

  spend_or_not : Decided (Leading Spend)
  spend_or_not = elim (cases_lt 0 (purse s.side s.purses)) [
    | inr none ↦ inr (λ (t, (some, is), w). omega (arith, none, some))
    | inl some ↦ elim (told (after s.board (paid_out s.side s.purses) s)) [
      | inl w ↦ inl (after s.board (paid_out s.side s.purses) s, (omega (arith, some), refl), w)
      | inr not ↦ inr (λ (t, (some', is), w). not (subst P is w))
    ]
  ]

  half_or_not : Decided (Leading Half)
  half_or_not = elim (owned_or_not s.purses.token) [
    | inr none ↦ inr (λ (t, (some, is), w). none some)
    | inl some ↦ elim (told (after s.board (halved s.side s.purses) s)) [
      | inl w ↦ inl (after s.board (halved s.side s.purses) s, (some, refl), w)
      | inr not ↦ inr (λ (t, (some', is), w). not (subst P is w))
    ]
  ]

  pub move_or_not : (m : Move) → Decided (Leading m)
  move_or_not (Stone p) = stone_or_not p
  move_or_not Spend = spend_or_not
  move_or_not Half = half_or_not

  pub some_move : Decided ((t : Whole) × Leads s t × P t)
  some_move = alike _ _ to from
      (either _ _ (some_below (length s.board.cells) (λ p. Leading (Stone p)) stone_or_not) (either _ _ spend_or_not half_or_not))
    where
      to : ((p : ℕ) × (p < length s.board.cells) × Leading (Stone p)) ⊎ (Leading Spend ⊎ Leading Half) → (t : Whole) × Leads s t × P t
      to (inl (p, lt, (t, move, w))) = (t, (Stone p, move), w)
      to (inr (inl (t, move, w))) = (t, (Spend, move), w)
      to (inr (inr (t, move, w))) = (t, (Half, move), w)

      from : (t : Whole) × Leads s t × P t → ((p : ℕ) × (p < length s.board.cells) × Leading (Stone p)) ⊎ (Leading Spend ⊎ Leading Half)
      from (t, (Stone p, move), w) = inl (p, move.1.1.1.1.place, (t, move, w))
      from (t, (Spend, move), w) = inr (inl (t, move, w))
      from (t, (Half, move), w) = inr (inr (t, move, w))

-- a state whose moves all lead to states with a property
all_moves : (P : Whole → Type 0) → ((t : Whole) → Decided (P t)) → (s : Whole) → Decided ((t : Whole) → Leads s t → P t)
all_moves P told s = elim (some_move (λ t. ¬ P t) (λ t. denied (P t) (told t)) s) [
  | inl (t, move, not) ↦ inr (λ all. not (all t move))
  | inr none ↦ inl (λ t move. elim (told t) [
    | inl w ↦ w
    | inr not ↦ absurd (none (t, move, not))
  ])
]

mutual
  pub wins_or_not : (n : ℕ) (s : Whole) → Decided (WinsWithin Whole Leads n s)
  wins_or_not zero s = inr (λ w. w)
  wins_or_not (suc n) s = some_move (λ t. LosesWithin Whole Leads n t) (loses_or_not n) s

  pub loses_or_not : (n : ℕ) (s : Whole) → Decided (LosesWithin Whole Leads n s)
  loses_or_not zero s = all_moves (λ t. ⊥) (λ t. inr (λ w. w)) s
  loses_or_not (suc n) s = all_moves (λ t. WinsWithin Whole Leads n t) (wins_or_not n) s
