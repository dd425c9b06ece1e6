use Rattle.desk_io.specs.Files.{told_file, Loads}
use Rattle.sgf_tree.specs.declared.reader.TheConstants.{MOST_BYTES}
use Rattle.std.proofs.Common.{subst, ◌∙◌, ap, Ok}
use Rattle.gtp_words.specs.Files.{load_settings}
use Rattle.gtp_words.proofs.FileLemmas.{too_long}
use Rattle.gtp_words.proofs.loading.load.Goals as goal

pub returns-in-Ok-Longer-clause-loaded : goal.returns-in-Ok-Longer-clause-loaded
returns-in-Ok-Longer-clause-loaded g c =
    let told = told_file (g.H.Shelf.files c.args.shelf.now) c.args.name.now in
    too_long told (load_settings c.args.territory c.args.after) c.new-file.result.items c.load.new.out.items (subst (Loads told MOST_BYTES c.new-file.result.items c.load.new.out.items) (c.in-Ok-Longer.is ∙ ap Ok c.in-Ok-Longer.field-0-is) c.load.ensures.bytes)
