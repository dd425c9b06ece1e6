-- Games that positions open, less the passes: what a move that puts no stone makes of them, and that they are alike.
use Rattle.std.proofs.Common.{◌≡◌, ◌≢◌, ◌≤◌, ◌+◌, ◌-◌, ◌/◌, ◌%◌, ◌⊎◌, ℕ, ℤ, zero, suc, pos, negsuc, ◌+ℤ◌, ◌-ℤ◌, nat_eq, cond, Bool, arith, inl, inr, refl, sym, ap, ◌∙◌, subst}
use Rattle.std.proofs.lemmas.Bool.{cases_eq}
use Rattle.std.proofs.lemmas.Int.{ints}
use Rattle.go_grid.specs.Board.{other}
use Rattle.go_grid.specs.Marks.{IsMarked}
use Rattle.go_grid.specs.declared.grid.Colour.{Colour}
use Rattle.go_grid.specs.declared.grid.Colour.TheVariants.{Black, White}
use Rattle.go_play.specs.Setup.{Setup}
use Rattle.whole_rules.specs.declared.money.Purses.{Purses}
use Rattle.whole_rules.specs.declared.money.Token.{Token}
use Rattle.whole_rules.specs.declared.money.Token.TheVariants as token
use Rattle.whole_rules.specs.declared.states.Move.TheVariants.{Spend, Half}
use Rattle.whole_rules.specs.Opening.{komi_points, komi_token}
use Rattle.whole_rules.specs.Purses.{halved, paid_out, purse}
use Rattle.whole_rules.specs.WholeGame.{IsMove, Whole}
use Rattle.endgame_solver.specs.Solved.{OpensAs}
use Rattle.engine_player.proofs.AlikeLaws.{AreMarkedAlike, opened_purses, with_marks}
use Rattle.board_orders.specs.declared.position.Position.{Position}
use Rattle.board_session.specs.Generating.{PayFor, after_passes, komi_halved, less_passes, setup_of}
use Rattle.board_orders.specs.Tallies.{Tally, grown}

-- a pass more
less_more : (c : Colour) (p : Tally) (m : Purses) → paid_out c (less_passes p m) ≡ less_passes (grown c 1 p) m
less_more Black p m = let e : m.black - p.black - 1 ≡ m.black - (p.black + 1) = omega arith in λ i. record m { black = e i; white = m.white - p.white }
less_more White p m = let e : m.white - p.white - 1 ≡ m.white - (p.white + 1) = omega arith in λ i. record m { black = m.black - p.black; white = e i }

pays_more : (c : Colour) (p : Tally) (m : Purses) → PayFor p m → 1 ≤ purse c (less_passes p m) → PayFor (grown c 1 p) m
pays_more Black p m pay some = record { black = omega (arith, some); white = pay.white }
pays_more White p m pay some = record { black = pay.black; white = omega (arith, some) }

-- the half-point and the passes
less_halved : (c : Colour) (p : Tally) (b w : ℕ) (t : Token) → p.black ≤ b → p.white ≤ w
    → halved c (less_passes p (record { black = b; white = w; token = t })) ≡ less_passes p (halved c (record { black = b; white = w; token = t }))
less_halved Black p b w token.Nobody hb hw = refl
less_halved Black p b w token.Black hb hw = refl
less_halved Black p b w token.White hb hw = let e : w - p.white + 1 ≡ w + 1 - p.white = omega (arith, hw) in λ i. record { black = b - p.black; white = e i; token = token.Nobody }
less_halved White p b w token.Nobody hb hw = refl
less_halved White p b w token.White hb hw = refl
less_halved White p b w token.Black hb hw = let e : b - p.black + 1 ≡ b + 1 - p.black = omega (arith, hb) in λ i. record { black = e i; white = w - p.white; token = token.Nobody }

pays_halved : (c : Colour) (p : Tally) (b w : ℕ) (t : Token) → p.black ≤ b → p.white ≤ w → PayFor p (halved c (record { black = b; white = w; token = t }))
pays_halved Black p b w token.Nobody hb hw = record { black = hb; white = hw }
pays_halved Black p b w token.Black hb hw = record { black = hb; white = hw }
pays_halved Black p b w token.White hb hw = record { black = hb; white = omega (arith, hw) }
pays_halved White p b w token.Nobody hb hw = record { black = hb; white = hw }
pays_halved White p b w token.White hb hw = record { black = hb; white = hw }
pays_halved White p b w token.Black hb hw = record { black = omega (arith, hb); white = hw }

-- what is in the purses beside a komi
record Beside (k : ℤ) (x y : ℕ) (m : Purses) : Type 0 where
  black : m.black ≡ x + komi_points Black k
  white : m.white ≡ y + komi_points White k
  token : m.token ≡ komi_token k

odd_or_none : (n : ℕ) (x : Token) → ((n % 2 ≡ 0) × (cond (nat_eq (n % 2) 0) token.Nobody x ≡ token.Nobody)) ⊎ ((n % 2 ≡ 1) × (cond (nat_eq (n % 2) 0) token.Nobody x ≡ x))
odd_or_none n x = elim (cases_eq (n % 2) 0) [
  | inl even ↦ inl (even, ap (λ k. cond (nat_eq k 0) token.Nobody x) even)
  | inr not ↦ let odd : n % 2 ≡ 1 = omega (arith, not) in inr (odd, ap (λ k. cond (nat_eq k 0) token.Nobody x) odd)
]

even_none : (n : ℕ) (x : Token) → n % 2 ≡ 0 → cond (nat_eq (n % 2) 0) token.Nobody x ≡ token.Nobody
even_none n x even = ap (λ k. cond (nat_eq k 0) token.Nobody x) even

-- a half-point of White's
white_half : (c : Colour) (n x y b w : ℕ) → n % 2 ≡ 1 → b ≡ x + 0 → w ≡ y + n / 2
    → Beside (komi_halved c (pos n)) x y (halved c (record { black = b; white = w; token = token.White }))
white_half Black n x y b w odd black white =
    let e : pos (n + 1) ≡ pos n +ℤ pos 1 = omega (arith, ints) in
    subst (λ k. Beside k x y (record { black = b; white = w + 1; token = token.Nobody })) e
    record { black = black; white = omega (arith, odd, white); token = sym (even_none (n + 1) token.White (omega (arith, odd))) }
white_half White n x y b w odd black white =
    let e : pos (n - 1) ≡ pos n -ℤ pos 1 = omega (arith, ints, odd) in
    subst (λ k. Beside k x y (record { black = b; white = w; token = token.Nobody })) e
    record { black = black; white = omega (arith, odd, white); token = sym (even_none (n - 1) token.White (omega (arith, odd))) }

-- a half-point of Black's
black_half : (c : Colour) (n x y b w : ℕ) → suc n % 2 ≡ 1 → b ≡ x + suc n / 2 → w ≡ y + 0
    → Beside (komi_halved c (negsuc n)) x y (halved c (record { black = b; white = w; token = token.Black }))
black_half White n x y b w odd black white =
    let e : negsuc (n + 1) ≡ negsuc n -ℤ pos 1 = omega (arith, ints) in
    subst (λ k. Beside k x y (record { black = b + 1; white = w; token = token.Nobody })) e
    record { black = omega (arith, odd, black); white = white; token = sym (even_none (suc (n + 1)) token.Black (omega (arith, odd))) }
black_half Black zero x y b w odd black white =
    let e : pos 0 ≡ negsuc 0 +ℤ pos 1 = refl in
    subst (λ k. Beside k x y (record { black = b; white = w; token = token.Nobody })) e record { black = omega (arith, black); white = white; token = refl }
black_half Black (suc n) x y b w odd black white =
    let e : negsuc n ≡ negsuc (suc n) +ℤ pos 1 = omega (arith, ints) in
    subst (λ k. Beside k x y (record { black = b; white = w; token = token.Nobody })) e
    record { black = omega (arith, odd, black); white = white; token = sym (even_none (suc n) token.Black (omega (arith, odd))) }

halved_beside : (c : Colour) (k : ℤ) (x y b w : ℕ) (t : Token) → Beside k x y (record { black = b; white = w; token = t }) → t ≢ token.Nobody
    → Beside (komi_halved c k) x y (halved c (record { black = b; white = w; token = t }))
halved_beside c (pos n) x y b w t beside some = elim (odd_or_none n token.White) [
  | inl (even, none) ↦ absurd (some (beside.token ∙ none))
  | inr (odd, is) ↦ subst (λ z. Beside (komi_halved c (pos n)) x y (halved c (record { black = b; white = w; token = z }))) (sym (beside.token ∙ is))
      (white_half c n x y b w odd beside.black beside.white)
]
halved_beside c (negsuc n) x y b w t beside some = elim (odd_or_none (suc n) token.Black) [
  | inl (even, none) ↦ absurd (some (beside.token ∙ none))
  | inr (odd, is) ↦ subst (λ z. Beside (komi_halved c (negsuc n)) x y (halved c (record { black = b; white = w; token = z }))) (sym (beside.token ∙ is))
      (black_half c n x y b w odd beside.black beside.white)
]

-- a state that the position opens, in which each pass has cost its colour a point
pub record OpensSo (tax : Bool) (setup : Setup) (passes : Tally) (w : Whole) : Type 0 where
  pub start : Whole
  pub opening : OpensAs setup tax start
  pub pay : PayFor passes start.purses
  pub less : w ≡ after_passes passes start

-- A move that puts no stone, from the game that a position opens.
module _ {tax : Bool} {a : Position} {k : ℤ} {c : Colour} {w : Whole} (opens : OpensSo tax (setup_of a k c) a.passes w) where
  abbrev start : Whole
  start = opens.start

  turn : start.side ≡ c
  turn = opens.opening.turn

  pub spent : (t : Whole) → IsMove w Spend t
      → OpensSo tax (setup_of (record { board = a.board; prisoners = a.prisoners; passes = grown c 1 a.passes }) k (other c)) (grown c 1 a.passes) t
  spent t move =
      let opening = opens.opening in
      let moved = subst (λ x. IsMove x Spend t) opens.less move in
      record {
        start = record start { side = other c };
        opening = record { board = opening.board; contested = opening.contested; black = opening.black; white = opening.white; token = opening.token; turn = refl };
        pay = pays_more c a.passes start.purses opens.pay (subst (λ d. 1 ≤ purse d (less_passes a.passes start.purses)) turn moved.0);
        less = moved.1 ∙ ap (λ d. record start { purses = paid_out d (less_passes a.passes start.purses); side = other d }) turn
            ∙ ap (λ m. record start { purses = m; side = other c }) (less_more c a.passes start.purses);
      }

  pub halved_on : (t : Whole) → IsMove w Half t → OpensSo tax (setup_of a (komi_halved c k) (other c)) a.passes t
  halved_on t move =
      let opening = opens.opening in
      let moved = subst (λ x. IsMove x Half t) opens.less move in
      let m = start.purses in
      let beside = halved_beside c k _ _ m.black m.white m.token (record { black = opening.black.2; white = opening.white.2; token = opening.token }) moved.0 in
      record {
        start = record start { purses = halved c m; side = other c };
        opening = record {
          board = opening.board;
          contested = opening.contested;
          black = (opening.black.0, opening.black.1, beside.black);
          white = (opening.white.0, opening.white.1, beside.white);
          token = beside.token;
          turn = refl;
        };
        pay = pays_halved c a.passes m.black m.white m.token opens.pay.black opens.pay.white;
        less = moved.1 ∙ ap (λ d. record start { purses = halved d (less_passes a.passes m); side = other d }) turn
            ∙ ap (λ z. record start { purses = z; side = other c }) (less_halved c a.passes m.black m.white m.token opens.pay.black opens.pay.white);
      }

-- two games that a position opens differ in these lists alone
pub opened_alike : (tax : Bool) (setup : Setup) (passes : Tally) (v w : Whole) → OpensSo tax setup passes v → OpensSo tax setup passes w
    → (v ≡ with_marks w v.contested) × AreMarkedAlike w.contested v.contested
opened_alike tax setup passes v w a b =
    let p = a.opening in let q = b.opening in
    let purses = opened_purses tax setup a.start b.start p q in
    let start : a.start ≡ with_marks b.start a.start.contested = λ i. record { board = (p.board ∙ sym q.board) i; contested = a.start.contested; purses = purses i; side = (p.turn ∙ sym q.turn) i } in
    let ours = ap (λ z. z.contested) a.less in let theirs = ap (λ z. z.contested) b.less in (
      a.less ∙ ap (after_passes passes) start ∙ (λ i. with_marks (sym b.less i) (sym ours i)),
      λ r. (
        λ marked. subst (λ l. IsMarked l r) (sym ours) ((p.contested r).1 ((q.contested r).0 (subst (λ l. IsMarked l r) theirs marked))),
        λ marked. subst (λ l. IsMarked l r) (sym theirs) ((q.contested r).1 ((p.contested r).0 (subst (λ l. IsMarked l r) ours marked))),
      ),
    )
