-- Boards filled point by point.
use Rattle.std.proofs.Common.{◌≡◌, ℕ, ◌+◌, ◌<◌, length, set, sym, subst, arith, get_or-set_same, get_or-set_other, below_more}
use Rattle.go_grid.specs.declared.grid.Cell.{Cell}
use Rattle.go_grid.specs.declared.grid.Cell.TheVariants.{Empty}
use Rattle.go_grid.specs.Board.{Board, cell_at}
use Rattle.board_gen.specs.Trial.{IsTrialCell}

-- one point more
pub filled_more : (number p : ℕ) (g h : Board) (held : Cell) → h ≡ record g { cells = set g.cells p held } → p < length g.cells
    → ((q : ℕ) → q < p → IsTrialCell number q (cell_at g q)) → IsTrialCell number p held
    → (q : ℕ) → q < p + 1 → IsTrialCell number q (cell_at h q)
filled_more number p g h held e short before here =
    subst (λ x. (q : ℕ) → q < p + 1 → IsTrialCell number q (cell_at x q)) (sym e)
    (below_more (λ q. IsTrialCell number q (cell_at (record g { cells = set g.cells p held }) q)) p
    (λ q lt. rw (get_or-set_other g.cells p q held Empty (λ same. omega (arith, lt, same))) (before q lt))
    (rw (get_or-set_same g.cells p held Empty short) here))
