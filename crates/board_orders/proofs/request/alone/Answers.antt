use Rattle.std.specs.Prelude.{codes}
use Rattle.std.proofs.Common.{refl, subst, sym}
use Rattle.board_orders.specs.declared.question.Question.TheVariants as question
use Rattle.board_orders.specs.Orders.{FitsAlone, all_commands}
use Rattle.board_orders.specs.Orders.BoardOrder.{ask, clear_board, quit, tell, undo}
use Rattle.board_orders.proofs.request.alone.Goals as goal

pub returns-in-ProtocolVersion-clause-some : goal.returns-in-ProtocolVersion-clause-some
returns-in-ProtocolVersion-clause-some c = subst (λ k. FitsAlone k (tell (codes "2"))) (sym c.in-ProtocolVersion.is) refl

pub returns-in-ProtocolVersion-clause-none : goal.returns-in-ProtocolVersion-clause-none
returns-in-ProtocolVersion-clause-none c = tt

pub returns-in-Name-clause-some : goal.returns-in-Name-clause-some
returns-in-Name-clause-some c = subst (λ k. FitsAlone k (tell (codes "gdsolve"))) (sym c.in-Name.is) refl

pub returns-in-Name-clause-none : goal.returns-in-Name-clause-none
returns-in-Name-clause-none c = tt

pub returns-in-Version-clause-some : goal.returns-in-Version-clause-some
returns-in-Version-clause-some c = subst (λ k. FitsAlone k (tell (codes "1"))) (sym c.in-Version.is) refl

pub returns-in-Version-clause-none : goal.returns-in-Version-clause-none
returns-in-Version-clause-none c = tt

pub returns-in-ListCommands-clause-some : goal.returns-in-ListCommands-clause-some
returns-in-ListCommands-clause-some c = subst (λ k. FitsAlone k (tell all_commands)) (sym c.in-ListCommands.is) refl

pub returns-in-ListCommands-clause-none : goal.returns-in-ListCommands-clause-none
returns-in-ListCommands-clause-none c = tt

pub returns-in-Quit-clause-some : goal.returns-in-Quit-clause-some
returns-in-Quit-clause-some c = subst (λ k. FitsAlone k (quit)) (sym c.in-Quit.is) refl

pub returns-in-Quit-clause-none : goal.returns-in-Quit-clause-none
returns-in-Quit-clause-none c = tt

pub returns-in-ClearBoard-clause-some : goal.returns-in-ClearBoard-clause-some
returns-in-ClearBoard-clause-some c = subst (λ k. FitsAlone k (clear_board)) (sym c.in-ClearBoard.is) refl

pub returns-in-ClearBoard-clause-none : goal.returns-in-ClearBoard-clause-none
returns-in-ClearBoard-clause-none c = tt

pub returns-in-Undo-clause-some : goal.returns-in-Undo-clause-some
returns-in-Undo-clause-some c = subst (λ k. FitsAlone k (undo)) (sym c.in-Undo.is) refl

pub returns-in-Undo-clause-none : goal.returns-in-Undo-clause-none
returns-in-Undo-clause-none c = tt

pub returns-in-ShowBoard-clause-some : goal.returns-in-ShowBoard-clause-some
returns-in-ShowBoard-clause-some c = subst (λ k. FitsAlone k (ask question.Board)) (sym c.in-ShowBoard.is) refl

pub returns-in-ShowBoard-clause-none : goal.returns-in-ShowBoard-clause-none
returns-in-ShowBoard-clause-none c = tt

pub returns-in-MoveHistory-clause-some : goal.returns-in-MoveHistory-clause-some
returns-in-MoveHistory-clause-some c = subst (λ k. FitsAlone k (ask question.History)) (sym c.in-MoveHistory.is) refl

pub returns-in-MoveHistory-clause-none : goal.returns-in-MoveHistory-clause-none
returns-in-MoveHistory-clause-none c = tt

pub returns-in-QueryBoardSize-clause-some : goal.returns-in-QueryBoardSize-clause-some
returns-in-QueryBoardSize-clause-some c = subst (λ k. FitsAlone k (ask question.Size)) (sym c.in-QueryBoardSize.is) refl

pub returns-in-QueryBoardSize-clause-none : goal.returns-in-QueryBoardSize-clause-none
returns-in-QueryBoardSize-clause-none c = tt

pub returns-in-GetKomi-clause-some : goal.returns-in-GetKomi-clause-some
returns-in-GetKomi-clause-some c = subst (λ k. FitsAlone k (ask question.Komi)) (sym c.in-GetKomi.is) refl

pub returns-in-GetKomi-clause-none : goal.returns-in-GetKomi-clause-none
returns-in-GetKomi-clause-none c = tt

pub returns-in-GetHandicap-clause-some : goal.returns-in-GetHandicap-clause-some
returns-in-GetHandicap-clause-some c = subst (λ k. FitsAlone k (ask question.Handicap)) (sym c.in-GetHandicap.is) refl

pub returns-in-GetHandicap-clause-none : goal.returns-in-GetHandicap-clause-none
returns-in-GetHandicap-clause-none c = tt
