use Rattle.std.proofs.Common.{[], codes, refl, ap, ◌∙◌}
use Rattle.gtp_engine.specs.Request.Order.{protocol_version, name, version, known_command, list_commands, quit}
use Rattle.gtp_engine.specs.Session.{all_commands}
use Rattle.gtp_engine.specs.inner.Viewed.{order_of}
use Rattle.gtp_engine.proofs.OrderLemmas.{done_cleared, done_told}
use Rattle.gtp_engine.proofs.engine.Engine.obey_plain.Goals as goal

pub returns-in-ProtocolVersion-clause-obeyed : goal.returns-in-ProtocolVersion-clause-obeyed
returns-in-ProtocolVersion-clause-obeyed c =
    done_told c.args.id.now (codes "2") (order_of c.args.request) protocol_version c.args.self.now c.accept.result (ap order_of c.in-ProtocolVersion.is) (refl, refl) c.accept.ensures

pub returns-in-Name-clause-obeyed : goal.returns-in-Name-clause-obeyed
returns-in-Name-clause-obeyed c =
    done_told c.args.id.now (codes "gdsolve") (order_of c.args.request) name c.args.self.now c.accept-in-Name.result (ap order_of c.in-Name.is) (refl, refl) c.accept-in-Name.ensures

pub returns-in-Version-clause-obeyed : goal.returns-in-Version-clause-obeyed
returns-in-Version-clause-obeyed c =
    done_told c.args.id.now (codes "1") (order_of c.args.request) version c.args.self.now c.accept-in-Version.result (ap order_of c.in-Version.is) (refl, refl) c.accept-in-Version.ensures

pub returns-in-KnownCommand-clause-obeyed : goal.returns-in-KnownCommand-clause-obeyed
returns-in-KnownCommand-clause-obeyed c =
    done_told c.args.id.now c.known.result.now (order_of c.args.request) (known_command c.in-KnownCommand.word.now) c.args.self.now c.accept-in-KnownCommand.result (ap order_of c.in-KnownCommand.is) (c.known.result.now, c.known.ensures, (refl, refl)) c.accept-in-KnownCommand.ensures

pub returns-in-ListCommands-clause-obeyed : goal.returns-in-ListCommands-clause-obeyed
returns-in-ListCommands-clause-obeyed c =
    done_told c.args.id.now all_commands (order_of c.args.request) list_commands c.args.self.now c.accept-in-ListCommands.result (ap order_of c.in-ListCommands.is) (refl, refl) c.accept-in-ListCommands.ensures

pub returns-in-Quit-clause-obeyed : goal.returns-in-Quit-clause-obeyed
returns-in-Quit-clause-obeyed c =
    done_told c.args.id.now [] (order_of c.args.request) quit c.args.self.now c.accept-in-Quit.result (ap order_of c.in-Quit.is) (refl, refl) c.accept-in-Quit.ensures

pub returns-in-ClearBoard-clause-obeyed : goal.returns-in-ClearBoard-clause-obeyed
returns-in-ClearBoard-clause-obeyed c =
    done_cleared c.args.id.now c.size-size.result.columns c.size-size.result.rows (order_of c.args.request) c.args.self.now c.clear.new.self c.clear.result (ap order_of c.in-ClearBoard.is)
    (c.size-size.ensures.columns ∙ ap (λ g. g.columns) c.board-in-ClearBoard.ensures.board ∙ ap (λ v. v.table.setup.board.columns) c.self.view_is)
    (c.size-size.ensures.rows ∙ ap (λ g. g.rows) c.board-in-ClearBoard.ensures.board ∙ ap (λ v. v.table.setup.board.rows) c.self.view_is) c.clear.ensures.cleared
