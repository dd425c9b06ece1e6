use Rattle.std.proofs.Common.{ap, ◌∙◌, Err}
use Rattle.sgf_tree.specs.Reading.{line_text}
use Rattle.sgf_go.specs.declared.fault.FileFault.TheVariants as fault
use Rattle.gtp_words.specs.Files.{load_settings}
use Rattle.gtp_words.proofs.FileLemmas.{found_in, tree_fault}
use Rattle.gtp_words.proofs.loading.find_in.Goals as goal

pub returns-in_ok-found-in-Ok : goal.returns-in_ok-found-in-Ok
returns-in_ok-found-in-Ok c = found_in c.args.file.now (load_settings c.args.territory c.args.after) (line_text c.in-Ok.tree) c.in_ok-found-in-Ok.found c.in-Ok.ensures.answer c.in_ok-found-in-Ok.ensures

pub returns-in-Err-Fault : goal.returns-in-Err-Fault
returns-in-Err-Fault c = (fault.Tree c.in-Err-Fault._fault, tree_fault c.args.file.now (load_settings c.args.territory c.args.after) c.in-Err-Fault._fault c.read.result (c.in-Err-Fault.is ∙ ap Err c.in-Err-Fault.field-0-is) c.read.ensures.answer)
