use Rattle.local_value.proofs.OptionsLaws.{form-enough}
use Rattle.local_value.proofs.UndominatedLemmas.{enough-same}
use Rattle.local_value.proofs.memo.form_of.Goals as goal

pub returns-in-Some-clause-form : goal.returns-in-Some-clause-form
returns-in-Some-clause-form c =
    let (os, among, same) = c.in-Some.ensures {u = tt} in
    form-enough c.args.options.now os c.args.store.now (enough-same c.args.store.now c.args.options.now os same) c.args.parts_limit c.in-Some.id
    c.requires.left c.requires.right (c.requires.forms.known os c.in-Some.id among)
