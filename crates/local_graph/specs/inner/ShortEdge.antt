-- An edge in one number.
use Rattle.std.proofs.Common.{ℕ, ◌≡◌, ◌+◌, ◌*◌, ◌/◌, ◌%◌, ◌<◌, ◌^◌, ◌∙◌, arith, ap, cond, nat_lt, inl, inr, lt-ltb, le-ltb}
use Rattle.std.proofs.lemmas.Bool.{cases_lt}
use Rattle.go_grid.specs.declared.grid.Colour.{Colour}
use Rattle.go_grid.specs.declared.grid.Colour.TheVariants.{Black, White}
use Rattle.local_graph.specs.declared.graph.Edge.{Edge}
use Rattle.local_graph.specs.declared.short_edge.TheConstants.{NEXT, PLACE, TAKEN, WHITE}

-- White's numbers are the upper half
abbrev pub colour_of : ℕ → Colour
colour_of n = cond (nat_lt n WHITE) Black White

-- what a colour adds to an edge's number
abbrev pub share : Colour → ℕ
share Black = 0
share White = WHITE

-- the number of an edge
abbrev pub number_of : Edge → ℕ
number_of e = share e.colour + (e.next + NEXT * (e.place + PLACE * e.taken))

-- the edge that a number stands for
unfoldable pub unpacked : ℕ → Edge
unpacked n = record {
  next = n % NEXT;
  colour = colour_of n;
  place = n / NEXT % PLACE;
  taken = n / (NEXT * PLACE) % TAKEN;
}

-- a number of 4 bytes is that of the edge that it stands for
pub number_again : (n : ℕ) → n < 2 ^ 32 → number_of (unpacked n) ≡ n
unfolding unpacked
number_again n within = elim (cases_lt n WHITE) as (λ _. share (colour_of n) + (n % NEXT + NEXT * (n / NEXT % PLACE + PLACE * (n / (NEXT * PLACE) % TAKEN))) ≡ n) [
  | inl less ↦ ap (λ b. share (cond b Black White) + (n % NEXT + NEXT * (n / NEXT % PLACE + PLACE * (n / (NEXT * PLACE) % TAKEN)))) (lt-ltb n WHITE less)
      ∙ omega (arith, less)
  | inr more ↦ ap (λ b. share (cond b Black White) + (n % NEXT + NEXT * (n / NEXT % PLACE + PLACE * (n / (NEXT * PLACE) % TAKEN)))) (le-ltb n WHITE more)
      ∙ omega (arith, more, within)
]
