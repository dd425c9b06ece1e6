use Rattle.std.proofs.Common.{subst, sym}
use Rattle.board_orders.specs.Kept.{IsModest}
use Rattle.board_orders.proofs.KeptLemmas.{modest_komi, same_komi}
use Rattle.board_orders.proofs.session.BoardSession.set_komi.Goals as goal

pub put_komi-requires : goal.put_komi-requires
put_komi-requires c = let modest = modest_komi c.args.halves c.requires in subst IsModest (sym (same_komi c.args.halves modest)) modest
