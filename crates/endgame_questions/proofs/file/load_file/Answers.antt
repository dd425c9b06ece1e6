use Rattle.desk_io.specs.Files.{told_file}
use Rattle.sgf_tree.specs.declared.reader.TheConstants.{MOST_BYTES}
use Rattle.endgame_questions.proofs.FileLaws.{longer, whole_short, whole_told}
use Rattle.endgame_questions.proofs.file.load_file.Goals as goal

pub returns-in-Ok-Whole-clause-short : goal.returns-in-Ok-Whole-clause-short
returns-in-Ok-Whole-clause-short g c =
    whole_short c.new-file.result.items c.load.new.out.items c.new-file.ensures.items (told_file (g.H.Shelf.files c.args.shelf.now) c.args.name.now)
    c.in-Ok-Whole.field-0 c.in-Ok-Whole.field-0-is (c.in-Ok-Whole.ensures {u = tt}).bytes

pub returns-in-Ok-Whole-clause-told : goal.returns-in-Ok-Whole-clause-told
returns-in-Ok-Whole-clause-told g c =
    whole_told c.new-file.result.items c.load.new.out.items c.new-file.ensures.items (told_file (g.H.Shelf.files c.args.shelf.now) c.args.name.now)
    c.in-Ok-Whole.field-0 c.in-Ok-Whole.field-0-is (c.in-Ok-Whole.ensures {u = tt}).bytes

pub returns-in-Ok-Whole-clause-too_long : goal.returns-in-Ok-Whole-clause-too_long
returns-in-Ok-Whole-clause-too_long g c e = absurd cc

pub returns-in-Ok-Whole-clause-cannot_read : goal.returns-in-Ok-Whole-clause-cannot_read
returns-in-Ok-Whole-clause-cannot_read g c e = absurd cc

pub returns-in-Ok-Whole-clause-asked : goal.returns-in-Ok-Whole-clause-asked
returns-in-Ok-Whole-clause-asked g c = c.load.ensures.asked

pub returns-in-Ok-Whole-clause-same_files : goal.returns-in-Ok-Whole-clause-same_files
returns-in-Ok-Whole-clause-same_files g c = c.load.ensures.same

pub returns-in-Ok-Whole-clause-later : goal.returns-in-Ok-Whole-clause-later
returns-in-Ok-Whole-clause-later g c = c.load.ensures.cause.later

pub returns-in-Ok-Longer-clause-short : goal.returns-in-Ok-Longer-clause-short
returns-in-Ok-Longer-clause-short g c = tt

pub returns-in-Ok-Longer-clause-told : goal.returns-in-Ok-Longer-clause-told
returns-in-Ok-Longer-clause-told g c = tt

pub returns-in-Ok-Longer-clause-too_long : goal.returns-in-Ok-Longer-clause-too_long
returns-in-Ok-Longer-clause-too_long g c e =
    longer (told_file (g.H.Shelf.files c.args.shelf.now) c.args.name.now) MOST_BYTES c.new-file.result.items c.load.new.out.items
    c.in-Ok-Longer.field-0 c.in-Ok-Longer.field-0-is (c.in-Ok-Longer.ensures {u = tt}).bytes

pub returns-in-Ok-Longer-clause-cannot_read : goal.returns-in-Ok-Longer-clause-cannot_read
returns-in-Ok-Longer-clause-cannot_read g c e = absurd cc

pub returns-in-Ok-Longer-clause-asked : goal.returns-in-Ok-Longer-clause-asked
returns-in-Ok-Longer-clause-asked g c = c.load.ensures.asked

pub returns-in-Ok-Longer-clause-same_files : goal.returns-in-Ok-Longer-clause-same_files
returns-in-Ok-Longer-clause-same_files g c = c.load.ensures.same

pub returns-in-Ok-Longer-clause-later : goal.returns-in-Ok-Longer-clause-later
returns-in-Ok-Longer-clause-later g c = c.load.ensures.cause.later

pub returns-clause-short : goal.returns-clause-short
returns-clause-short g c = tt

pub returns-clause-told : goal.returns-clause-told
returns-clause-told g c = tt

pub returns-clause-too_long : goal.returns-clause-too_long
returns-clause-too_long g c e = absurd cc

pub returns-clause-cannot_read : goal.returns-clause-cannot_read
returns-clause-cannot_read g c e = absurd cc

pub returns-clause-asked : goal.returns-clause-asked
returns-clause-asked g c = c.load.ensures.asked

pub returns-clause-same_files : goal.returns-clause-same_files
returns-clause-same_files g c = c.load.ensures.same

pub returns-clause-later : goal.returns-clause-later
returns-clause-later g c = c.load.ensures.cause.later
