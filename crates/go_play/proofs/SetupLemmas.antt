-- What is wrong with parts of which something is known.
use Rattle.std.proofs.Common.{◌≡◌, ◌≤◌, ◌<◌, ◌^◌, ℕ, Err, arith, inl, inr, subst}
use Rattle.std.specs.Prelude.{unsigned_abs}
use Rattle.go_grid.specs.Board.{Board}
use Rattle.go_grid.specs.Chain.{IsFirstUnsettled, IsSettled, IsUnsettled}
use Rattle.go_grid.specs.declared.grid.Colour.TheVariants.{Black, White}
use Rattle.go_play.specs.Setup.{IsOfBoard, MakesSetup, Setup}
use Rattle.go_play.specs.declared.setup.PositionError.{PositionError}
use Rattle.go_play.specs.declared.setup.PositionError.TheVariants.{Unsettled, Prisoners, Komi, Memory}

-- of parts of which no number is out of range only the board can be wrong
pub of_board : (parts : Setup) (e : PositionError) → parts.black_prisoners < 2 ^ 40 → parts.white_prisoners < 2 ^ 40 → unsigned_abs parts.komi_halves ≤ 2000000
    → MakesSetup parts (Err e) → IsOfBoard e
of_board parts (Unsettled p) black white komi made = tt
of_board parts (Prisoners Black) black white komi made = absurd (omega (arith, black, made.1))
of_board parts (Prisoners White) black white komi made = absurd (omega (arith, white, made.2))
of_board parts Komi black white komi made = absurd (omega (arith, komi, made.3))
of_board parts (Memory e) black white komi made = tt

-- the point that is named is the first that isn't settled
pub first_of : (parts : Setup) (e : PositionError) (p : ℕ) → e ≡ Unsettled p → MakesSetup parts (Err e) → IsFirstUnsettled parts.board p
first_of parts e p is made = subst (λ x. MakesSetup parts (Err x)) is made

-- a settled board has no point that isn't settled
pub none_unsettled : {g : Board} {p : ℕ} → IsSettled g → ¬ IsFirstUnsettled g p
none_unsettled {g} {p} settled first = at first.unsettled
  where
    at : IsUnsettled g p → ⊥
    at (inl (c, stone, choked)) = choked (settled.breathe c p stone)
    at (inr (c, declared, broken)) = broken (settled.closed c p declared)
