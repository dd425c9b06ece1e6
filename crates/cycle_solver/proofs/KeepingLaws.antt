-- Moves that keep winning with budgets, and the first of the moves of a kind.
use Rattle.std.proofs.Common.{ℕ, zero, suc, replicate, ◌≡◌, ◌+◌, ◌<◌, ◌≤◌, ◌↔◌, ◌⊎◌, arith, inl, inr, refl, sym, ap, ◌∙◌, subst, List, length, get_or, set, Bool, true, false, IsTrue, IfSome, MatchOption, Option, None, Some, length-set}
use Rattle.std.proofs.lemmas.Bool.{cases_eq, cases_lt}
use Rattle.std.proofs.lemmas.List.{ext_get_or, get_or_default, get_or-replicate, get_or-set_other, get_or-set_same, set-get_or}
use Rattle.go_grid.specs.declared.grid.Colour.{Colour}
use Rattle.go_grid.specs.Board.{Board, other}
use Rattle.go_grid.specs.Region.{Region}
use Rattle.region_cut.specs.Cut.{AreRegionsOfPlay}
use Rattle.short_games.specs.Number.{num}
use Rattle.short_games.specs.Sum.{◌+ᵍ◌, total}
use Rattle.game_store.specs.Meaning.{pick}
use Rattle.whole_rules.specs.declared.states.Move.{Move}
use Rattle.whole_rules.specs.declared.states.Move.TheVariants.{Half, Spend, Stone}
use Rattle.whole_rules.specs.FirstWinningMove.{IsWinner}
use Rattle.whole_rules.specs.WholeGame.{Whole, IsLegal, IsMove, rank}
use Rattle.whole_rules.proofs.PlainLaws.{move_turn}
use Rattle.endgame_solver.specs.Regions.{no_region}
use Rattle.endgame_solver.specs.SumGame.{balance}
use Rattle.whole_budgets.specs.BudgetPlay.{IsBudgetAfter, WinsWithCaptures}
use Rattle.whole_budgets.specs.BudgetSums.{WinsGame}
use Rattle.whole_budgets.specs.EnginePlay.{AreLeastCaptures, AreListedAfter, IsFirstKeeping, KeepsWinning, WinsWithList, budget_in}
use Rattle.whole_budgets.proofs.BudgetListLemmas.{budget_there, list_of, listed_after, same_wins}
use Rattle.whole_budgets.proofs.BudgetPlayLemmas.{other_not, other_twice}
use Rattle.cycle_solver.specs.declared.asking.Present.{Present}
use Rattle.cycle_solver.specs.declared.changes.Change.{Change}
use Rattle.cycle_solver.specs.Changes.{AreBehind, IsChange, IsLeft, budgets_after, places_after}
use Rattle.cycle_solver.specs.Held.{AreSummedWith}
use Rattle.cycle_solver.specs.Keeping.{IsFirstOf, IsFirstStoneOf, Keeps}
use Rattle.cycle_solver.proofs.ChangeLaws.{region_in}
use Rattle.cycle_solver.proofs.SumLaws.{told, wins_listed}

-- What is left of the budgets.

-- a budget after a move: one less where the move uses it up
abbrev Pays : Type 0 → ℕ → ℕ → Type 0
Pays Used b c = (Used × (b ≡ c + 1)) ⊎ (¬ Used × (b ≡ c))

one_left : (Used : Type 0) (b c d : ℕ) → Pays Used b c → Pays Used b d → c ≡ d
one_left Used b c d (inl (u, e)) (inl (v, f)) = omega (arith, e, f)
one_left Used b c d (inl (u, e)) (inr (not, f)) = absurd (not u)
one_left Used b c d (inr (not, e)) (inl (v, f)) = absurd (not v)
one_left Used b c d (inr (not, e)) (inr (w, f)) = omega (arith, e, f)

-- the stone uses up budget of the region at the place
abbrev Uses : Option (ℕ × ℕ) → Bool → ℕ → Type 0
Uses stone uses k = (uses ≡ true) × ((i : ℕ) × (stone ≡ Some (k, i)))

pays_here : (stone : Option (ℕ × ℕ)) (uses : Bool) (left : ℕ) (bs : List ℕ) → IfSome stone (λ x. x.0 < length bs)
    → IsLeft stone uses bs (Some left) → (k : ℕ) → Pays (Uses stone uses k) (get_or bs k 0) (get_or (budgets_after bs stone left) k 0)
pays_here None uses left bs known is k = inr (λ (u, (i, e)). cc, refl)
pays_here (Some x) true left bs known is k = elim (cases_eq k x.0) as (λ _. Pays (Uses (Some x) true k) (get_or bs k 0) (get_or (set bs x.0 left) k 0)) [
  | inl same ↦ inl (
    (refl, (x.1, ap (λ z. Some (z, x.1)) (sym same))),
    ap (λ z. get_or bs z 0) same ∙ is
        ∙ ap (λ z. z + 1) (sym (get_or-set_same bs x.0 left 0 known) ∙ ap (λ z. get_or (set bs x.0 left) z 0) (sym same)),
  )
  | inr ne ↦ inr (λ (u, (i, e)). ne (sym (ap region_in e)), sym (get_or-set_other bs x.0 k left 0 ne))
]
pays_here (Some x) false left bs known is k = inr (
  λ (u, rest). cc,
  ap (λ l. get_or l k 0) (sym (set-get_or bs x.0 0) ∙ ap (λ z. set bs x.0 (some_or z)) (sym is)),
)
  where
    some_or : Option ℕ → ℕ
    some_or None = 0
    some_or (Some n) = n

unpaid : (stone : Option (ℕ × ℕ)) (uses : Bool) (bs : List ℕ) → IsLeft stone uses bs None
    → (k : ℕ) × Uses stone uses k × (get_or bs k 0 ≡ 0) × ((x : ℕ × ℕ) × (stone ≡ Some x) × (x.0 ≡ k))
unpaid None uses bs is = absurd cc
unpaid (Some x) true bs is = (x.0, (refl, (x.1, refl)), is, (x, refl, refl))
unpaid (Some x) false bs is = absurd cc

length_after : (bs : List ℕ) (stone : Option (ℕ × ℕ)) (left : ℕ) → length (budgets_after bs stone left) ≡ length bs
length_after bs None left = refl
length_after bs (Some x) left = length-set bs x.0 left

-- no two lists are the budgets after a move
pub one_listed : (regions : List Region) (s : Whole) (m : Move) (t : Whole) (bs cs ds : List ℕ) → AreListedAfter regions s m t bs cs
    → AreListedAfter regions s m t bs ds → cs ≡ ds
one_listed regions s m t bs cs ds c d = ext_get_or 0 cs ds (c.many ∙ sym d.many)
    (λ k lt. let short = subst (λ n. k < n) c.many lt in one_left _ (get_or bs k 0) (get_or cs k 0) (get_or ds k 0) (c.each k short) (d.each k short))

-- a list with a number for each region has one for the stone's
pub known_in : (present : Present) (x : Change) → IfSome x.stone (λ y. y.0 < length present.regions.now) → (bs : List ℕ)
    → length bs ≡ length present.regions.now → IfSome x.stone (λ y. y.0 < length bs)
known_in present x known bs many = subst (λ n. IfSome x.stone (λ y. y.0 < n)) (sym many) known

module _ (present : Present) (x : Change) (m : Move) (change : IsChange present m x) (t : Whole) (move : IsMove present.whole.now m t)
    (bs : List ℕ) (many : length bs ≡ length present.regions.now) where
  abbrev Listed : List ℕ → Type 0
  Listed = AreListedAfter present.regions.now present.whole.now m t bs

  -- the budgets after a change are these
  pub paid_listed : (left : ℕ) → IsLeft x.stone x.uses bs (Some left) → Listed (budgets_after bs x.stone left)
  paid_listed left is = record {
    many = length_after bs x.stone left ∙ many;
    each = λ k lt.
        let uses = change.uses t move k lt in
        elim (pays_here x.stone x.uses left bs (known_in present x change.known bs many) is k) [
          | inl (u, e) ↦ inl (uses.1 u, e)
          | inr (not, e) ↦ inr (λ u. not (uses.0 u), e)
        ];
  }

  -- what can't be paid for leaves none
  pub none_listed : IsLeft x.stone x.uses bs None → (cs : List ℕ) → ¬ Listed cs
  none_listed is cs listed =
      let (k, used, nothing, (y, stone, same)) = unpaid x.stone x.uses bs is in
      let lt : k < length present.regions.now =
      subst (λ z. z < length present.regions.now) same (subst (λ o. IfSome o (λ z. z.0 < length present.regions.now)) stone change.known) in
      elim (listed.each k lt) as (λ _. ⊥) [
        | inl (u, e) ↦ omega (arith, e, nothing)
        | inr (not, e) ↦ not ((change.uses t move k lt).1 used)
      ]

-- the listed budgets behind a change are as those before it but in the region of the stone
pub list_behind : (bs : List ℕ) (stone : Option (ℕ × ℕ)) (left : ℕ) → IfSome stone (λ x. x.0 < length bs)
    → AreBehind stone left (λ k. get_or bs k 0) (λ k. get_or (budgets_after bs stone left) k 0)
list_behind bs None left known = λ k. refl
list_behind bs (Some x) left known = (get_or-set_same bs x.0 left 0 known, λ k ne. get_or-set_other bs x.0 k left 0 ne)

-- A change keeps the side to move winning exactly where the search says so.
module _ (present : Present) (x : Change) (m : Move) (change : IsChange present m x) (bs : List ℕ) (many : length bs ≡ length present.regions.now) where
  abbrev s : Whole
  s = present.whole.now

  pub keeps_told : (left : ℕ) → IsLeft x.stone x.uses bs (Some left) → (ids : List ℕ)
      → AreSummedWith present.games.now (places_after present.places.now x.stone) s.side (budgets_after bs x.stone left) ids
      → {next player : Colour} {b : Bool} → next ≡ other s.side → player ≡ s.side
      → IsTrue b ↔ WinsGame player next (total (pick present.store.now ids) +ᵍ num 1 (balance x.purses))
      → IsTrue b ↔ Keeps present.regions.now s bs m
  keeps_told left is ids summed {next} {player} {b} turn mine answer = (
    λ h.
        let (t, move) = change.legal in
        (t, after, record { moved = move; paid = listed t move; wins = (tells t move).0 h }),
    λ (t, cs, keeps).
        let same = one_listed present.regions.now s m t bs cs after keeps.paid (listed t keeps.moved) in
        (tells t keeps.moved).1 (subst (WinsWithList present.regions.now s.side t) same keeps.wins),
  )
    where
      after : List ℕ
      after = budgets_after bs x.stone left

      listed : (t : Whole) (move : IsMove s m t) → AreListedAfter present.regions.now s m t bs after
      listed t move = paid_listed present x m change t move bs many left is

      own : IsTrue b ↔ WinsGame s.side next (total (pick present.store.now ids) +ᵍ num 1 (balance x.purses))
      own = subst (λ d. IsTrue b ↔ WinsGame d next (total (pick present.store.now ids) +ᵍ num 1 (balance x.purses))) mine answer

      tells : (t : Whole) → IsMove s m t → IsTrue b ↔ WinsWithList present.regions.now s.side t after
      tells t move =
          let is_changed = change.each t move in
          told present.store.now ids t (turn ∙ sym is_changed.turn) (sym is_changed.purses) own
          (wins_listed is_changed.stands.1 is_changed.stands.2 s.side (λ k. get_or after k 0) ids summed after (λ k lt. refl))

  -- and not where it can't be paid for
  pub keeps_none : IsLeft x.stone x.uses bs None → ¬ Keeps present.regions.now s bs m
  keeps_none is (t, cs, keeps) = none_listed present x m change t keeps.moved bs many is cs keeps.paid

-- The first of the moves of a kind.
module _ (s : Whole) (Is : Move → Type 0) where
  -- none of the first n points has such a stone
  abbrev pub NoStoneOf : ℕ → Type 0
  NoStoneOf n = (q : ℕ) → q < n → ¬ Is (Stone q)

  -- such a stone is on the board
  pub no_stone_of : ((m : Move) → Is m → IsLegal s m) → (n : ℕ) → length s.board.cells ≤ n → NoStoneOf n → IsFirstStoneOf Is None
  no_stone_of legal n le none q is = let (t, (mark, (h, (k, placed, number, e)))) = legal (Stone q) is in none q (omega (arith, placed.1.place, le)) is

  pub first_stone_of : (p : ℕ) → IsFirstStoneOf Is (Some p) → IsFirstOf Is (Some (Stone p))
  first_stone_of p w = (w.1, λ m x. least m x)
    where
      least : (m : Move) → Is m → p ≤ rank m
      least (Stone q) x = elim (cases_lt q p) as (λ _. p ≤ q) [
        | inl lt ↦ absurd (w.2 q lt x)
        | inr ge ↦ omega (arith, ge)
      ]
      least Spend x = omega (arith, w.0)
      least Half x = omega (arith, w.0)

  pub first_spend_of : IsFirstStoneOf Is None → Is Spend → IsFirstOf Is (Some Spend)
  first_spend_of none w = (w, λ m x. least m x)
    where
      least : (m : Move) → Is m → 625 ≤ rank m
      least (Stone q) x = absurd (none q x)
      least Spend x = omega arith
      least Half x = omega arith

  pub first_half_of : IsFirstStoneOf Is None → ¬ Is Spend → Is Half → IsFirstOf Is (Some Half)
  first_half_of none not w = (w, λ m x. least m x)
    where
      least : (m : Move) → Is m → 626 ≤ rank m
      least (Stone q) x = absurd (none q x)
      least Spend x = absurd (not x)
      least Half x = omega arith

  pub none_of : IsFirstStoneOf Is None → ¬ Is Spend → ¬ Is Half → IsFirstOf Is None
  none_of none not nor (Stone q) x = none q x
  none_of none not nor Spend x = not x
  none_of none not nor Half x = nor x

-- the first move that keeps, as the engine's rule has it
pub keeping_first : (regions : List Region) (s : Whole) (bs : List ℕ) (answer : Option Move) → IsFirstOf (Keeps regions s bs) answer
    → MatchOption answer ((m : Move) (t : Whole) (cs : List ℕ) → ¬ KeepsWinning regions s bs m t cs)
    (λ m. (t : Whole) × (cs : List ℕ) × IsFirstKeeping regions s bs m t cs)
keeping_first regions s bs None none = λ m t cs keeps. none m (t, cs, keeps)
keeping_first regions s bs (Some m) ((t, cs, keeps), first) = (t, cs, record { keeps = keeps; first = λ k u es kept. first k (u, es, kept) })

-- who wins with the same captures in each region wins with a list of them
captures_listed : (g : Board) (regions : List Region) → AreRegionsOfPlay g regions → (c : Colour) (s : Whole) (n : ℕ)
    → WinsWithCaptures regions c s n → WinsWithList regions c s (replicate (length regions) n)
captures_listed g regions are c s n wins =
    let bs = replicate (length regions) n in
    same_wins regions c s (λ r. n) (budget_in regions bs) (λ r (k, lt, is). sym (subst (λ q. budget_in regions bs q ≡ n) (get_or_default regions k no_region r lt ∙ is)
    (budget_there g regions are bs k lt ∙ get_or-replicate (length regions) k n 0 lt))) wins

pub captures_found : (g : Board) (regions : List Region) → AreRegionsOfPlay g regions → (s : Whole) (answer : Option ℕ)
    → MatchOption answer (¬ IsWinner s s.side) (λ n. AreLeastCaptures regions s s.side n)
    → IfSome answer (λ n. WinsWithList regions s.side s (replicate (length regions) n))
captures_found g regions are s None none = tt
captures_found g regions are s (Some n) least = captures_listed g regions are s.side s n least.wins

-- a side to move that wins with budgets has a move that keeps winning
some_keeps : (g : Board) (regions : List Region) → AreRegionsOfPlay g regions → (s : Whole) (bs : List ℕ) → WinsWithList regions s.side s bs
    → (m : Move) × Keeps regions s bs m
some_keeps g regions are s bs (inr (same, loses)) = absurd (other_not s.side same)
some_keeps g regions are s bs (inl (own, (zero, w))) = absurd w
some_keeps g regions are s bs (inl (own, (suc n, (q, (m, move, inr (not, same)), loses)))) = absurd (not refl)
some_keeps g regions are s bs (inl (own, (suc n, (q, (m, move, inl (mine, after)), loses)))) =
    let (cs, many, same) = list_of g regions are q.budgets in
    let paid = (listed_after g regions are s q.state m bs cs many).1
    (λ r i. subst (IsBudgetAfter r s m q.state (budget_in regions bs r)) (sym (same r i)) (after r i)) in
    let turn = sym (other_twice s.side) ∙ ap other (sym (move_turn s q.state m move)) in
    let wins = same_wins regions s.side q.state q.budgets (budget_in regions cs) (λ r i. sym (same r i)) (inr (turn, (n, loses))) in
    (m, (q.state, cs, record { moved = move; paid = paid; wins = wins }))

pub keeping_found : (g : Board) (regions : List Region) → AreRegionsOfPlay g regions → (s : Whole) (bs : List ℕ) (answer : Option Move)
    → IsFirstOf (Keeps regions s bs) answer → answer ≡ None → ¬ WinsWithList regions s.side s bs
keeping_found g regions are s bs None none e wins = let (m, keeps) = some_keeps g regions are s bs wins in none m keeps
keeping_found g regions are s bs (Some m) first e wins = absurd cc
