use Rattle.std.proofs.Common.{inl, inr, refl, rules, subst}
use Rattle.std.proofs.lemmas.Result.{IfOk-weaker}
use Rattle.desk_io.specs.Files.{told_file}
use Rattle.gtp_words.specs.Loads.Fate.{no_load}
use Rattle.board_session.specs.Asking.{OrderNames}
use Rattle.board_orders.specs.Orders.BoardOrder.{loadsgf}
use Rattle.board_orders.specs.Effects.{refused}
use Rattle.board_orders.specs.declared.refusal.Refusal.TheVariants.{CannotLoadFile}
use Rattle.gtp_words.specs.Files.{IsLoaded, load_settings}
use Rattle.gtp_words.proofs.AskingLemmas.{asked_none, asked_once}
use Rattle.board_session.proofs.AnswerLemmas.{loaded_fits, loads_obeyed}
use Rattle.board_session.proofs.engine.BoardEngine.load_file.Goals as goal

pub note-requires-clause-fit : goal.note-requires-clause-fit
note-requires-clause-fit g c =
    let files = g.H.Shelf.files c.args.shelf.now in
    loaded_fits (told_file files c.in-Ok.name.now) (load_settings c.self.inside.limits.territory c.args.after) (g.H.Shelf.faults c.args.shelf.now) (g.H.Shelf.faults c.load.new.shelf) c.in_ok-loading.loading c.in_ok-loading.ensures.loaded

pub returns-clause-loaded : goal.returns-clause-loaded
returns-clause-loaded g c =
    let files = g.H.Shelf.files c.args.shelf.now in let before = g.H.Shelf.faults c.args.shelf.now in let now = g.H.Shelf.faults c.load.new.shelf in
    loads_obeyed files before now c.args.id.now c.args.file.now c.args.after c.args.self.now c.note.new.self c.in_ok-loading.loading c.note.result c.in-Ok.ensures.cases.1
    (subst (λ name. IsLoaded (told_file files name) (load_settings c.args.self.now.limits.territory c.args.after) before now c.in_ok-loading.loading) c.in-Ok.ensures.cases.0
    (subst (λ e. IsLoaded (told_file files c.in-Ok.name.now) (load_settings e.limits.territory c.args.after) before now c.in_ok-loading.loading) c.self.view_is c.in_ok-loading.ensures.loaded)) c.note.ensures.noted

pub returns-in-Err-clause-loaded : goal.returns-in-Err-clause-loaded
returns-in-Err-clause-loaded g c =
    IfOk-weaker c.refuse.result _ _ (λ reply said. (no_load, refused CannotLoadFile, (search rules, (refl, refl)), said, refl, refl)) c.refuse.ensures

pub returns-clause-asked : goal.returns-clause-asked
returns-clause-asked g c =
    asked_once g.H.Shelf.asks (OrderNames (loadsgf c.args.file.now c.args.after)) c.args.shelf.now c.note.result c.args.file.now c.load.new.shelf (inl (c.in-Ok.ensures.cases.1, refl))
    (subst (λ name. g.H.Shelf.asks c.args.shelf.now name c.load.new.shelf) c.in-Ok.ensures.cases.0 c.load.ensures.asked)

pub returns-in_err-loading-clause-asked : goal.returns-in_err-loading-clause-asked
returns-in_err-loading-clause-asked g c =
    asked_once g.H.Shelf.asks (OrderNames (loadsgf c.args.file.now c.args.after)) c.args.shelf.now c.from_residual.result c.args.file.now c.load.new.shelf (inl (c.in-Ok.ensures.cases.1, refl))
    (subst (λ name. g.H.Shelf.asks c.args.shelf.now name c.load.new.shelf) c.in-Ok.ensures.cases.0 c.load.ensures.asked)

pub returns-in-Err-clause-asked : goal.returns-in-Err-clause-asked
returns-in-Err-clause-asked g c = asked_none g.H.Shelf.asks (OrderNames (loadsgf c.args.file.now c.args.after)) c.args.shelf.now c.refuse.result (inr (search rules, refl))
