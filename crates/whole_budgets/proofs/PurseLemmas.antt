-- Moves keep that the purses hold no more than others.
use Rattle.std.proofs.Common.{ℕ, ◌≡◌, ◌≤◌, arith, refl, sym, ap, ◌∙◌, subst}
use Rattle.go_grid.specs.declared.grid.Colour.{Colour}
use Rattle.go_grid.specs.declared.grid.Colour.TheVariants.{Black, White}
use Rattle.whole_rules.specs.declared.money.Purses.{Purses}
use Rattle.whole_rules.specs.declared.money.Token.{Token}
use Rattle.whole_rules.specs.declared.money.Token.TheVariants as token
use Rattle.whole_rules.specs.declared.states.Move.{Move}
use Rattle.whole_rules.specs.declared.states.Move.TheVariants.{Stone, Spend, Half}
use Rattle.whole_rules.specs.Purses.{halved, paid_in, purse, rewarded, taken_out}
use Rattle.whole_rules.specs.WholeGame.{Whole, IsMove}
use Rattle.endgame_solver.proofs.BookkeepingLaws.{out-less, token-in, token-out}
use Rattle.whole_budgets.specs.EngineLaws.{HoldNoMore}

in_more : (c d : Colour) (n : ℕ) (m most : Purses) → HoldNoMore m most → purse c (paid_in d n m) ≤ purse c (paid_in d n most)
in_more Black Black n m most less = omega (arith, less.purses Black)
in_more White White n m most less = omega (arith, less.purses White)
in_more Black White n m most less = less.purses Black
in_more White Black n m most less = less.purses White

pay_in : (d : Colour) (n : ℕ) (m most : Purses) → HoldNoMore m most → HoldNoMore (paid_in d n m) (paid_in d n most)
pay_in d n m most less = record {
  purses = λ c. in_more c d n m most less;
  token = token-in d n m ∙ less.token ∙ sym (token-in d n most);
}

out_more : (c d : Colour) (n : ℕ) (m most : Purses) → HoldNoMore m most → purse c (taken_out d n m) ≤ purse c (taken_out d n most)
out_more Black Black n m most less = omega (arith, less.purses Black)
out_more White White n m most less = omega (arith, less.purses White)
out_more Black White n m most less = less.purses Black
out_more White Black n m most less = less.purses White

pay_out : (d : Colour) (n : ℕ) (m most : Purses) → HoldNoMore m most → HoldNoMore (taken_out d n m) (taken_out d n most)
pay_out d n m most less = record {
  purses = λ c. out_more c d n m most less;
  token = token-out d n m ∙ less.token ∙ sym (token-out d n most);
}

-- points that are taken out of a purse keep it
pub take_more : (d : Colour) (n : ℕ) (m most : Purses) → HoldNoMore m most → HoldNoMore (taken_out d n m) most
take_more d n m most less = record {
  purses = λ c. omega (arith, out-less c d n m, less.purses c);
  token = token-out d n m ∙ less.token;
}

reward : (owner : Token) (d : Colour) (m most : Purses) → HoldNoMore m most → HoldNoMore (rewarded owner d m) (rewarded owner d most)
reward token.Black White m most less = pay_in Black 1 m most less
reward token.White Black m most less = pay_in White 1 m most less
reward token.Black Black m most less = less
reward token.White White m most less = less
reward token.Nobody d m most less = less

without_token : (c : Colour) (m : Purses) → purse c (record m { token = token.Nobody }) ≡ purse c m
without_token Black m = refl
without_token White m = refl

halve : (d : Colour) (m most : Purses) → HoldNoMore m most → HoldNoMore (halved d m) (halved d most)
halve d m most less =
    let same = subst (λ owner. HoldNoMore (rewarded m.token d m) (rewarded owner d most)) less.token (reward m.token d m most less) in record {
      purses = λ c. omega (arith, without_token c (rewarded m.token d m), without_token c (rewarded most.token d most), same.purses c);
      token = refl;
    }

-- the state with other purses
abbrev holding : Purses → Whole → Whole
holding m s = record s { purses = m }

-- what a move leads to from the same state with other purses
pub record LeadsAlike (s : Whole) (most : Purses) (m : Move) (t : Whole) : Type 0 where
  pub behind : Purses
  pub move : IsMove (record s { purses = most }) m (record t { purses = behind })
  pub less : HoldNoMore t.purses behind

-- each move may be made with purses that hold more, and leads to a state with such purses
pub leads_alike : (s : Whole) (most : Purses) (m : Move) (t : Whole) → HoldNoMore s.purses most → IsMove s m t → LeadsAlike s most m t
leads_alike s most (Stone p) t less (marked, (h, (n, placed, taken, is))) = record {
  behind = paid_in s.side n most;
  move = (marked, (h, (n, placed, taken, ap (holding (paid_in s.side n most)) is)));
  less = subst (λ z. HoldNoMore z.purses (paid_in s.side n most)) (sym is) (pay_in s.side n s.purses most less);
}
leads_alike s most Spend t less (some, is) = record {
  behind = taken_out s.side 1 most;
  move = (omega (arith, some, less.purses s.side), ap (holding (taken_out s.side 1 most)) is);
  less = subst (λ z. HoldNoMore z.purses (taken_out s.side 1 most)) (sym is) (pay_out s.side 1 s.purses most less);
}
leads_alike s most Half t less (some, is) = record {
  behind = halved s.side most;
  move = (λ e. some (less.token ∙ e), ap (holding (halved s.side most)) is);
  less = subst (λ z. HoldNoMore z.purses (halved s.side most)) (sym is) (halve s.side s.purses most less);
}
