-- Lists of moves in their order.
use Rattle.std.proofs.Common.{Some, None, ◌≡◌, ℕ, ◌+◌, ◌<◌, ◌≤◌, inl, inr, refl, ap, sym, arith, List, [], ◌∷◌, ◌++◌, length, get_or, subst}
use Rattle.std.proofs.lemmas.Bool.{cases_eq, cases_lt}
use Rattle.std.specs.List.{Contains}
use Rattle.std.proofs.lemmas.List.Elements.{Contains-get_or, Contains-push, Contains-push_cases, Contains-append_left}
use Rattle.std.proofs.lemmas.List.{length_push, get_or_append_left, get_or_push}
use Rattle.go_grid.specs.Board.{Board}
use Rattle.go_grid.specs.Marks.{IsMarked}
use Rattle.std.specs.Prelude.{Err}
use Rattle.go_play.specs.Place.{IsPlaced, IsNumberTaken, PlacesStone}
use Rattle.go_play.specs.declared.placements.PlaceError.{PlaceError}
use Rattle.go_play.specs.declared.placements.PlaceError.TheVariants as placing
use Rattle.whole_rules.specs.Purses.{paid_in}
use Rattle.whole_rules.specs.declared.states.Move.{Move}
use Rattle.whole_rules.specs.declared.states.Move.TheVariants.{Stone, Spend, Half}
use Rattle.whole_rules.specs.declared.states.MoveError.{MoveError}
use Rattle.whole_rules.specs.declared.states.MoveError.TheVariants.{NotContested, Occupied, Suicide, EmptyPurse, NoHalf}
use Rattle.go_play.proofs.BoardPlayLemmas.{suicide_not_placed}
use Rattle.whole_rules.specs.WholeGame.{Whole, after, IsLegal, Refuses, rank, ListsMoves, IsFirstMove}
use Rattle.whole_rules.specs.inner.WholeGame.{MovesBelow}

pub moves_skip : (s : Whole) (n k : ℕ) (ms : List Move) → n ≤ k → MovesBelow s n ms → ((m : Move) → n ≤ rank m → rank m < k → ¬ IsLegal s m) → MovesBelow s k ms
moves_skip s n k ms le w none = record {
  ordered = w.ordered;
  exact = λ m. (
    λ h. (let r = (w.exact m).0 h in (omega (arith, r.0), r.1)),
    λ h. elim (cases_lt (rank m) n) [ inl lt ↦ (w.exact m).1 (lt, h.1) | inr ge ↦ absurd (none m ge h.0 h.1) ],
  );
}

pub moves_push : (s : Whole) (n : ℕ) (ms : List Move) (m : Move) → MovesBelow s n ms → rank m ≡ n → IsLegal s m → ((k : Move) → rank k ≡ n → IsLegal s k → m ≡ k) → MovesBelow s (n + 1) (ms ++ m ∷ [])
moves_push s n ms m w e here only = record {
  ordered = λ j k a lt.
      let short : j < length ms = omega (arith, length_push ms m) in
      rw (get_or_append_left ms (m ∷ []) Half j short)
      (elim (cases_lt k (length ms)) [
        | inl in' ↦ rw (get_or_append_left ms (m ∷ []) Half k in') (w.ordered j k a in')
        | inr out ↦
            let last : length ms ≡ k = omega (arith, length_push ms m) in
            rw (get_or_push ms m Half k last, e)
            ((w.exact (get_or ms j Half)).0 (Contains-get_or ms j Half short)).0
      ]);
  exact = λ k. (
    λ h. elim (Contains-push_cases ms m k h) [
      | inl old ↦ (let r = (w.exact k).0 old in (omega (arith, r.0), r.1))
      | inr i ↦ (omega (arith, e, ap rank i), subst (IsLegal s) i here)
    ],
    λ h. elim (cases_eq (rank k) n) [
      | inl i ↦ subst (Contains (ms ++ m ∷ [])) (only k i h.1) (Contains-push ms m)
      | inr ne ↦ Contains-append_left ms (m ∷ []) k ((w.exact k).1 (omega (arith, h.0, ne), h.1))
    ],
  );
}

-- only a stone ranks below 625
pub stone_only : (p : ℕ) (k : Move) → p < 625 → rank k ≡ p → Stone p ≡ k
stone_only p (Stone q) lt e = ap Stone (sym e)
stone_only p Spend lt e = absurd (omega (arith, e))
stone_only p Half lt e = absurd (omega (arith, e))

-- a stone that may be placed is on the board
pub legal_short : (s : Whole) (k : Move) → IsLegal s k → length s.board.cells ≤ 625 → rank k < 625 → rank k < length s.board.cells
legal_short s (Stone p) h le lt = h.1.1.1.1.1.place
legal_short s Spend h le lt = absurd (omega arith)
legal_short s Half h le lt = absurd (omega arith)

pub spend_only : (s : Whole) (k : Move) → length s.board.cells ≤ 625 → rank k ≡ 625 → IsLegal s k → Spend ≡ k
spend_only s (Stone p) le e h = absurd (omega (arith, e, h.1.1.1.1.1.place))
spend_only s Spend le e h = refl
spend_only s Half le e h = absurd (omega (arith, e))

pub half_only : (s : Whole) (k : Move) → length s.board.cells ≤ 625 → rank k ≡ 626 → IsLegal s k → Half ≡ k
half_only s (Stone p) le e h = absurd (omega (arith, e, h.1.1.1.1.1.place))
half_only s Spend le e h = absurd (omega (arith, e))
half_only s Half le e h = refl

pub moves_all : (s : Whole) (ms : List Move) → length s.board.cells ≤ 625 → MovesBelow s 627 ms → ListsMoves s ms
moves_all s ms le w = record {
  ordered = w.ordered;
  exact = λ m. (λ h. ((w.exact m).0 h).1, λ h. (w.exact m).1 (below m h, h));
}
  where
    below : (m : Move) → IsLegal s m → rank m < 627
    below (Stone p) h = omega (arith, h.1.1.1.1.1.place, le)
    below Spend h = omega arith
    below Half h = omega arith

pub legal_stone : (s : Whole) (p : ℕ) → IsMarked s.contested p → (h : Board) (n : ℕ) → IsPlaced s.board p s.side h → IsNumberTaken s.board h n → IsLegal s (Stone p)
legal_stone s p m h n d t = (after h (paid_in s.side n s.purses) s, (m, (h, (n, d, t, refl))))

-- no move ranks below n
pub NoneBelow : Whole → ℕ → Type 0
NoneBelow s n = (m : Move) → rank m < n → ¬ IsLegal s m

pub none_start : (s : Whole) → NoneBelow s 0
unfolding NoneBelow
none_start s = λ m a h. absurd (omega (arith, a))

pub none_more : (s : Whole) (n k : ℕ) → NoneBelow s n → ((m : Move) → n ≤ rank m → rank m < k → ¬ IsLegal s m) → NoneBelow s k
unfolding NoneBelow
none_more s n k w none = λ m lt h. elim (cases_lt (rank m) n) [ inl a ↦ w m a h | inr ge ↦ none m ge lt h ]

pub no_stone : (s : Whole) (n : ℕ) → n < 625 → ¬ IsLegal s (Stone n) → (m : Move) → n ≤ rank m → rank m < n + 1 → ¬ IsLegal s m
no_stone s n lt none m a b h = none (subst (IsLegal s) (sym (stone_only n m lt (omega (arith, a, b)))) h)

-- no stone is placed past the board
pub no_more_stones : (s : Whole) (n : ℕ) → length s.board.cells ≤ n → length s.board.cells ≤ 625 → (m : Move) → n ≤ rank m → rank m < 625 → ¬ IsLegal s m
no_more_stones s n le most m a b h = omega (arith, a, le, legal_short s m h most b)

pub first_is : (s : Whole) (m : Move) → NoneBelow s (rank m) → IsLegal s m → IsFirstMove s (Some m)
unfolding NoneBelow
first_is s m w h = (h, λ k l. elim (cases_lt (rank k) (rank m)) [ inl lt ↦ absurd (w k lt l) | inr ge ↦ ge ])

pub first_none : (s : Whole) (n : ℕ) → length s.board.cells ≤ n → length s.board.cells ≤ 625 → NoneBelow s n → ¬ IsLegal s Spend → ¬ IsLegal s Half → IsFirstMove s None
unfolding NoneBelow
first_none s n le most w spend half (Stone p) h = w (Stone p) (omega (arith, le, h.1.1.1.1.1.place)) h
first_none s n le most w spend half Spend h = spend h
first_none s n le most w spend half Half h = half h

pub same_length : (s t : Whole) → s ≡ t → length s.board.cells ≡ length t.board.cells
same_length s t e = ap (λ z. length z.board.cells) e

pub one_below : (s : Whole) (n : ℕ) → NoneBelow s n → n < 625 → ¬ IsLegal s (Stone n) → NoneBelow s (n + 1)
one_below s n w lt none = none_more s n (n + 1) w (no_stone s n lt none)

pub none_to_spend : (s : Whole) (n : ℕ) → NoneBelow s n → length s.board.cells ≤ n → length s.board.cells ≤ 625 → NoneBelow s 625
none_to_spend s n w le most = none_more s n 625 w (no_more_stones s n le most)

pub none_to_half : (s : Whole) → NoneBelow s 625 → length s.board.cells ≤ 625 → ¬ IsLegal s Spend → NoneBelow s 626
none_to_half s w most none = none_more s 625 626 w (λ m a b h. none (subst (IsLegal s) (sym (spend_only s m most (omega (arith, a, b)) h)) h))

-- the last two moves, each listed where it is legal
pub moves_spend : (s : Whole) (ms : List Move) → MovesBelow s 625 ms → length s.board.cells ≤ 625 → IsLegal s Spend → MovesBelow s 626 (ms ++ Spend ∷ [])
moves_spend s ms w most h = moves_push s 625 ms Spend w refl h (λ k e l. spend_only s k most e l)

pub moves_no_spend : (s : Whole) (ms : List Move) → MovesBelow s 625 ms → length s.board.cells ≤ 625 → ¬ IsLegal s Spend → MovesBelow s 626 ms
moves_no_spend s ms w most none = moves_skip s 625 626 ms (omega arith) w (λ m a b h. none (subst (IsLegal s) (sym (spend_only s m most (omega (arith, a, b)) h)) h))

pub moves_half : (s : Whole) (ms : List Move) → MovesBelow s 626 ms → length s.board.cells ≤ 625 → IsLegal s Half → ListsMoves s (ms ++ Half ∷ [])
moves_half s ms w most h = moves_all s (ms ++ Half ∷ []) most (moves_push s 626 ms Half w refl h (λ k e l. half_only s k most e l))

pub moves_no_half : (s : Whole) (ms : List Move) → MovesBelow s 626 ms → length s.board.cells ≤ 625 → ¬ IsLegal s Half → ListsMoves s ms
moves_no_half s ms w most none = moves_all s ms most (moves_skip s 626 627 ms (omega arith) w (λ m a b h. none (subst (IsLegal s) (sym (half_only s m most (omega (arith, a, b)) h)) h)))

-- a move that is refused isn't legal
pub refused_not_legal : (s : Whole) (m : Move) (e : MoveError) → Refuses s m e → ¬ IsLegal s m
refused_not_legal s (Stone p) NotContested r l = r (l.1.1.1.1.1.place, l.1.0)
refused_not_legal s (Stone p) Occupied r l = r.1 (l.1.1.1.1.1.place, l.1.1.1.1.1.free)
refused_not_legal s (Stone p) Suicide r l = suicide_not_placed s.board l.1.1.0 p s.side r.2 l.1.1.1.1
refused_not_legal s (Stone p) EmptyPurse r l = r
refused_not_legal s (Stone p) NoHalf r l = r
refused_not_legal s Spend EmptyPurse r l = omega (arith, r, l.1.0)
refused_not_legal s Spend NotContested r l = r
refused_not_legal s Spend Occupied r l = r
refused_not_legal s Spend Suicide r l = r
refused_not_legal s Spend NoHalf r l = r
refused_not_legal s Half NoHalf r l = l.1.0 r
refused_not_legal s Half NotContested r l = r
refused_not_legal s Half Occupied r l = r
refused_not_legal s Half Suicide r l = r
refused_not_legal s Half EmptyPurse r l = r

-- where no stone may be placed
pub refused_stone : (s : Whole) (p : ℕ) (h : Board) (e : PlaceError) → PlacesStone s.board p s.side h (Err e) → ¬ IsLegal s (Stone p)
refused_stone s p h placing.Occupied a l = a.1 (l.1.1.1.1.1.place, l.1.1.1.1.1.free)
refused_stone s p h placing.Suicide a l = suicide_not_placed s.board l.1.1.0 p s.side a.2 l.1.1.1.1
