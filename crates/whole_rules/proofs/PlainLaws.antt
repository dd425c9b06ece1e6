-- A move leads to one state, and plain recursion looks at each.
use Rattle.std.proofs.Common.{◌≡◌, ◌≢◌, ℕ, zero, suc, ◌+◌, ◌-◌, ◌<◌, ◌≤◌, inl, inr, refl, sym, ap, ◌∙◌, subst, arith, List, length, get_or, Bool, true, false, below_more, Some, None}
use Rattle.std.specs.List.{Contains, count_by}
use Rattle.std.proofs.lemmas.Bool.{false≢true}
use Rattle.std.proofs.lemmas.List.{get_or_default}
use Rattle.std.proofs.lemmas.List.Sums.{count_by-le-length}
use Rattle.std.proofs.lemmas.List.Elements.{Contains-get_or}
use Rattle.go_grid.specs.declared.grid.Colour.{Colour}
use Rattle.go_grid.specs.declared.grid.Colour.TheVariants as colour
use Rattle.go_grid.specs.Board.{other}
use Rattle.go_grid.specs.Play.{is_stone}
use Rattle.whole_rules.specs.declared.money.Purses.{Purses}
use Rattle.whole_rules.specs.declared.money.Token.{Token}
use Rattle.whole_rules.specs.declared.money.Token.TheVariants as token
use Rattle.whole_rules.specs.declared.states.Move.{Move}
use Rattle.whole_rules.specs.declared.states.Move.TheVariants.{Stone, Spend, Half}
use Rattle.whole_rules.specs.Purses.{paid_in, paid_out, halved}
use Rattle.whole_rules.specs.PlainRecursion.{WinsWithin, LosesWithin}
use Rattle.whole_rules.specs.PlainWinner.{IsOutcome}
use Rattle.whole_rules.specs.WholeGame.{Whole, IsMove, Leads, after, IsLegal, ListsMoves}
use Rattle.whole_rules.proofs.OutcomeLaws.{wins-not_loses}
use Rattle.go_play.proofs.BoardPlayLemmas.{placed_same}
use Rattle.whole_rules.specs.FirstWinningMove.{HasOneWinner}

pub move_same : (s t u : Whole) (m : Move) → IsMove s m t → IsMove s m u → t ≡ u
move_same s t u (Stone p) a b =
    let e = placed_same s.board p s.side a.1.0 b.1.0 a.1.1.1 b.1.1.1 in
    let n : a.1.1.0 ≡ b.1.1.0 = omega (arith, a.1.1.2, b.1.1.2, ap (λ z. count_by is_stone z.cells) e) in
    a.1.1.3 ∙ (λ i. after (e i) (paid_in s.side (n i) s.purses) s) ∙ sym b.1.1.3
move_same s t u Spend a b = a.1 ∙ sym b.1
move_same s t u Half a b = a.1 ∙ sym b.1

-- a move adds little to a purse
pub record Grows (m k : Purses) (n : ℕ) : Type 0 where
  pub black : k.black ≤ m.black + n
  pub white : k.white ≤ m.white + n

paid_grows : (c : Colour) (m : Purses) (n : ℕ) → n ≤ 626 → Grows m (paid_in c n m) 626
paid_grows colour.Black m n le = record { black = omega (arith, le); white = omega arith }
paid_grows colour.White m n le = record { black = omega arith; white = omega (arith, le) }

out_grows : (c : Colour) (m : Purses) → Grows m (paid_out c m) 626
out_grows colour.Black m = record { black = omega arith; white = omega arith }
out_grows colour.White m = record { black = omega arith; white = omega arith }

halved_grows : (c : Colour) (a b : ℕ) (t : Token) → Grows (record { black = a; white = b; token = t }) (halved c (record { black = a; white = b; token = t })) 626
halved_grows colour.Black a b token.Nobody = record { black = omega arith; white = omega arith }
halved_grows colour.Black a b token.Black = record { black = omega arith; white = omega arith }
halved_grows colour.Black a b token.White = record { black = omega arith; white = omega arith }
halved_grows colour.White a b token.Nobody = record { black = omega arith; white = omega arith }
halved_grows colour.White a b token.Black = record { black = omega arith; white = omega arith }
halved_grows colour.White a b token.White = record { black = omega arith; white = omega arith }

pub move_grows : (s t : Whole) (m : Move) → length s.board.cells ≤ 625 → IsMove s m t → Grows s.purses t.purses 626
move_grows s t (Stone p) le h = subst (λ z. Grows s.purses z.purses 626) (sym h.1.1.3) (paid_grows s.side s.purses h.1.1.0 (omega (arith, le, h.1.1.2, count_by-le-length is_stone s.board.cells)))
move_grows s t Spend le h = subst (λ z. Grows s.purses z.purses 626) (sym h.1) (out_grows s.side s.purses)
move_grows s t Half le h = subst (λ z. Grows s.purses z.purses 626) (sym h.1) (halved_grows s.side s.purses.black s.purses.white s.purses.token)

-- what the moves before k tell, with n moves left after each
pub record Looked (s : Whole) (n : ℕ) (ms : List Move) (k : ℕ) (decided : Bool) : Type 0 where
  pub open' : (j : ℕ) → j < k → (t : Whole) → IsMove s (get_or ms j Half) t → ¬ LosesWithin Whole Leads n t
  pub lost : decided ≡ true → (j : ℕ) → j < k → (t : Whole) → IsMove s (get_or ms j Half) t → WinsWithin Whole Leads n t
  pub unknown : decided ≡ false → (t : Whole) × Leads s t × ¬ WinsWithin Whole Leads n t

-- the move at k leads to a state whose mover wins
pub looked_wins : (s t : Whole) (n : ℕ) (ms : List Move) (k : ℕ) (decided : Bool) → Looked s n ms k decided → IsMove s (get_or ms k Half) t → WinsWithin Whole Leads n t → Looked s n ms (k + 1) decided
looked_wins s t n ms k decided w m win = record {
  open' = below_more (λ j. (u : Whole) → IsMove s (get_or ms j Half) u → ¬ LosesWithin Whole Leads n u) k w.open' (λ u h l. wins-not_loses Whole Leads n n u (subst (WinsWithin Whole Leads n) (move_same s t u _ m h) win) l);
  lost = λ e. below_more (λ j. (u : Whole) → IsMove s (get_or ms j Half) u → WinsWithin Whole Leads n u) k (w.lost e) (λ u h. subst (WinsWithin Whole Leads n) (move_same s t u _ m h) win);
  unknown = w.unknown;
}

-- the move at k leads to a state without an outcome
pub looked_open : (s t : Whole) (n : ℕ) (ms : List Move) (k : ℕ) (decided : Bool) → Looked s n ms k decided → IsMove s (get_or ms k Half) t → ¬ WinsWithin Whole Leads n t → ¬ LosesWithin Whole Leads n t → Looked s n ms (k + 1) false
looked_open s t n ms k decided w m win lose = record {
  open' = below_more (λ j. (u : Whole) → IsMove s (get_or ms j Half) u → ¬ LosesWithin Whole Leads n u) k w.open' (λ u h l. lose (subst (LosesWithin Whole Leads n) (sym (move_same s t u _ m h)) l));
  lost = λ e. absurd (false≢true e);
  unknown = λ e. (t, (get_or ms k Half, m), win);
}

-- all moves were looked at
pub looked_all : (s : Whole) (n k : ℕ) (ms : List Move) (decided : Bool) → Looked s n ms k decided → length ms ≤ k → ListsMoves s ms → (decided ≡ true → IsOutcome (suc n) s (Some (other s.side))) × (decided ≡ false → IsOutcome (suc n) s None)
looked_all s n k ms decided w le moves = (
  λ e. inr (refl, λ t h. let c = (moves.exact h.0).1 (t, h.1) in w.lost e c.0 (omega (arith, c.1, le)) t (subst (λ m. IsMove s m t) (at h.0 c) h.1)),
  λ e. (
    λ win. (let h = win.1 in let c = (moves.exact h.0).1 (win.0, h.1) in w.open' c.0 (omega (arith, c.1, le)) win.0 (subst (λ m. IsMove s m win.0) (at h.0 c) h.1) win.2),
    λ lose. (let u = w.unknown e in u.2 (lose u.0 u.1)),
  ),
)
  where
    at : (m : Move) (c : Contains ms m) → m ≡ get_or ms c.0 Half
    at m c = sym c.2 ∙ get_or_default ms c.0 m Half c.1

pub none_lost : (s : Whole) (ms : List Move) → length ms ≡ 0 → ListsMoves s ms → LosesWithin Whole Leads 0 s
none_lost s ms e moves t h = absurd (omega (arith, e, ((moves.exact h.0).1 (t, h.1)).1))

pub some_open : (s : Whole) (ms : List Move) → length ms ≢ 0 → ListsMoves s ms → IsOutcome 0 s None
some_open s ms ne moves = (λ w. w, λ l. (let r = (moves.exact (get_or ms 0 Half)).0 (Contains-get_or ms 0 Half (omega (arith, ne))) in l r.0 (get_or ms 0 Half, r.1)))

pub listed_legal : (s : Whole) (ms : List Move) (k : ℕ) (m : Move) → k < length ms → m ≡ get_or ms k Half → ListsMoves s ms → IsLegal s m
listed_legal s ms k m lt e moves = subst (IsLegal s) (sym e) ((moves.exact (get_or ms k Half)).0 (Contains-get_or ms k Half lt))

pub move_turn : (s t : Whole) (m : Move) → IsMove s m t → t.side ≡ other s.side
move_turn s t (Stone p) h = ap (λ z. z.side) h.1.1.3
move_turn s t Spend h = ap (λ z. z.side) h.1
move_turn s t Half h = ap (λ z. z.side) h.1

other_not : (c : Colour) → c ≡ other c → ⊥
other_not colour.Black e = cc
other_not colour.White e = cc

other_twice : (c : Colour) → other (other c) ≡ c
other_twice colour.Black = refl
other_twice colour.White = refl

-- the winner after a move, and its own side's winner
pub outcome_mine : (s t : Whole) (m : Move) (d : ℕ) (c : Colour) → 0 < d → IsMove s m t → IsOutcome (d - 1) t (Some c) → c ≡ s.side → WinsWithin Whole Leads d s
outcome_mine s t m zero c lt h o e = absurd (omega (arith, lt))
outcome_mine s t m (suc d) c lt h (inl (i, w)) e = absurd (other_not s.side (sym e ∙ i ∙ move_turn s t m h))
outcome_mine s t m (suc d) c lt h (inr (i, l)) e = (t, (m, h), subst (λ n. LosesWithin Whole Leads n t) one l)
  where
    one : suc d - 1 ≡ d
    one = omega arith

pub outcome_theirs : (s t : Whole) (m : Move) (n : ℕ) (c : Colour) → IsMove s m t → IsOutcome n t (Some c) → ¬ (c ≡ s.side) → WinsWithin Whole Leads n t
outcome_theirs s t m n c h (inl (i, w)) ne = w
outcome_theirs s t m n c h (inr (i, l)) ne = absurd (ne (i ∙ ap other (move_turn s t m h) ∙ other_twice s.side))

pub looked_done : (s : Whole) (d k : ℕ) (ms : List Move) (decided : Bool) → 0 < d → Looked s (d - 1) ms k decided → length ms ≤ k → ListsMoves s ms
    → (decided ≡ true → LosesWithin Whole Leads d s) × (decided ≡ false → IsOutcome d s None)
looked_done s zero k ms decided lt w le moves = absurd (omega (arith, lt))
looked_done s (suc d) k ms decided lt w le moves = let r = looked_all s d k ms decided (subst (λ n. Looked s n ms k decided) one w) le moves in (
  λ e. elim (r.0 e) [ inl x ↦ absurd (other_not s.side (sym x.0)) | inr x ↦ x.1 ],
  r.1,
)
  where
    one : suc d - 1 ≡ d
    one = omega arith

pub one_winner : HasOneWinner
one_winner s c d (inl a) (inl b) = a.0 ∙ sym b.0
one_winner s c d (inr a) (inr b) = a.0 ∙ sym b.0
one_winner s c d (inl a) (inr b) = absurd (wins-not_loses Whole Leads a.1.0 b.1.0 s a.1.1 b.1.1)
one_winner s c d (inr a) (inl b) = absurd (wins-not_loses Whole Leads b.1.0 a.1.0 s b.1.1 a.1.1)
