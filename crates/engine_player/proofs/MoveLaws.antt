-- The engine's choice without kos is one.
use Rattle.std.proofs.Common.{◌≡◌, ◌≤◌, length, inl, inr, ap, ◌∙◌, arith}
use Rattle.whole_rules.specs.FirstWinningMove.{IsWinning}
use Rattle.whole_rules.specs.WholeGame.{Whole, IsMove, IsLegal}
use Rattle.whole_rules.specs.declared.states.Move.{Move}
use Rattle.whole_rules.specs.declared.states.Move.TheVariants.{Stone, Spend, Half}
use Rattle.whole_rules.proofs.PlacingLaws.{as_long}
use Rattle.endgame_solver.specs.Solved.{Chooses}
use Rattle.whole_budgets.proofs.OneMoveLemmas.{same_rank}

-- moves leave the board's size
pub cells_kept : (s t : Whole) (m : Move) → IsMove s m t → length t.board.cells ≡ length s.board.cells
cells_kept s t (Stone p) h = ap (λ x. length x.board.cells) h.1.1.3 ∙ h.1.1.1.1.without.long ∙ as_long s.board p s.side
cells_kept s t Spend h = ap (λ x. length x.board.cells) h.1
cells_kept s t Half h = ap (λ x. length x.board.cells) h.1

winning_legal : (s : Whole) (m : Move) → IsWinning s m → IsLegal s m
winning_legal s m w = (w.0, w.1)

pub one_choice : (s : Whole) (m k : Move) → length s.board.cells ≤ 625 → Chooses s m → Chooses s k → m ≡ k
one_choice s m k le (inl a) (inl b) = same_rank s m k le (winning_legal s m a.0) (winning_legal s k b.0) (omega (arith, a.1 k b.0, b.1 m a.0))
one_choice s m k le (inl a) (inr b) = absurd (b.0 m a.0)
one_choice s m k le (inr a) (inl b) = absurd (a.0 k b.0)
one_choice s m k le (inr a) (inr b) = same_rank s m k le a.1.0 b.1.0 (omega (arith, a.1.1 k b.1.0, b.1.1 m a.1.0))
