-- The two sides.
use Rattle.std.proofs.Common.{◌≡◌, ◌⊎◌, inl, inr, refl}
use Rattle.go_grid.specs.declared.grid.Colour.{Colour}
use Rattle.go_grid.specs.declared.grid.Colour.TheVariants as colour
use Rattle.go_grid.specs.Board.{other}

pub other_not : (c : Colour) → c ≡ other c → ⊥
other_not colour.Black e = cc
other_not colour.White e = cc

pub other_twice : (c : Colour) → other (other c) ≡ c
other_twice colour.Black = refl
other_twice colour.White = refl

-- a colour is one of the two
pub one_side : (c d : Colour) → (c ≡ d) ⊎ (c ≡ other d)
one_side colour.Black colour.Black = inl refl
one_side colour.Black colour.White = inr refl
one_side colour.White colour.Black = inr refl
one_side colour.White colour.White = inl refl

pub not_other : (c d : Colour) → ¬ (c ≡ d) → c ≡ other d
not_other c d ne = elim (one_side c d) [ inl e ↦ absurd (ne e) | inr e ↦ e ]
