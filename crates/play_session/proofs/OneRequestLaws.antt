-- A line names one move.
use Rattle.std.proofs.Common.{◌≡◌, ℕ, List, length, refl, sym, ap, ◌∙◌, arith, Option, Some, None}
use Rattle.go_grid.proofs.NameLemmas.{one_named}
use Rattle.go_grid.specs.Board.{Board}
use Rattle.whole_rules.specs.Moves.{move_word}
use Rattle.whole_rules.specs.declared.states.Move.{Move}
use Rattle.whole_rules.specs.declared.states.Move.TheVariants.{Stone, Spend, Half}
use Rattle.play_session.specs.Words.{NamesMove}

-- moves of one word are the same
move_of : (c : ℕ) (m k : Move) → move_word c m ≡ move_word c k → m ≡ k
move_of c (Stone p) (Stone q) e = ap Stone (one_named c p q e)
move_of c (Stone p) Spend e = absurd (omega (arith, ap length e))
move_of c (Stone p) Half e = absurd (omega (arith, ap length e))
move_of c Spend (Stone q) e = absurd (omega (arith, ap length e))
move_of c Spend Spend e = refl
move_of c Spend Half e = absurd (omega (arith, ap length e))
move_of c Half (Stone q) e = absurd (omega (arith, ap length e))
move_of c Half Spend e = absurd (omega (arith, ap length e))
move_of c Half Half e = refl

pub one_asked : (g : Board) (line : List ℕ) (a b : Option Move) → NamesMove g line a → NamesMove g line b → a ≡ b
one_asked g line None None a b = refl
one_asked g line None (Some k) a b = absurd (a k b.0 b.1)
one_asked g line (Some m) None a b = absurd (b m a.0 a.1)
one_asked g line (Some m) (Some k) a b = ap Some (move_of g.columns m k (sym a.1 ∙ b.1))
