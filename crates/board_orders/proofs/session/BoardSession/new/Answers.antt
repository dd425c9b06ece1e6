use Rattle.std.proofs.Common.{◌≡◌, ◌<◌, ◌≤◌, ◌^◌, [], arith, pos, refl, rules, subst, sym, take}
use Rattle.go_grid.specs.declared.grid.Colour.{Colour}
use Rattle.go_grid.specs.declared.grid.Colour.TheVariants.{Black, White}
use Rattle.board_orders.specs.Kept.{IsFit, IsFitAfter, IsModest}
use Rattle.board_orders.specs.States.{after_moves, bare}
use Rattle.board_orders.specs.Tallies.{number_of}
use Rattle.board_orders.proofs.session.BoardSession.new.Goals as goal

small : (c : Colour) → number_of c (bare 19 19).prisoners < 2 ^ 39
small Black = omega arith
small White = omega arith

none : (c : Colour) → number_of c (bare 19 19).passes ≤ 0
none Black = omega arith
none White = omega arith

modest : IsModest (pos 0)
modest = search rules

-- an empty board is fit to begin with
bare_fits : IsFit (pos 0) (bare 19 19) []
bare_fits = record {
  komi = modest;
  start = small;
  positions = λ n le. let none_left : 0 ≡ n = omega (arith, le) in
      subst (λ k. IsFitAfter (bare 19 19) k (after_moves (bare 19 19) (take k []))) none_left (record {
        ground = record { columns = refl; rows = refl; declared = refl };
        prisoners = λ c. omega arith;
        passes = none;
      });
  stones = λ k d lt. absurd (omega (arith, lt));
  komis = λ k d lt. absurd (omega (arith, lt));
}

pub invariant_of-result : goal.invariant_of-result
invariant_of-result c = subst (λ a. IsFit (pos 0) a c.new.result.items) (sym (c.in_ok-bare.ensures {u = tt})) (subst (IsFit (pos 0) (bare 19 19)) (sym c.new.ensures.items) bare_fits)

pub returns : goal.returns
returns c =
    let is = c.in_ok-bare.ensures {u = tt} in let items = c.new.ensures.items in
    λ i. record { komi_halves = pos 0; handicap = 0; setup = is i; moves = items i }
