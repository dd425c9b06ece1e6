use Rattle.local_value.proofs.OptionsLaws.{form-learned, known-grown}
use Rattle.local_value.proofs.memo.known_form.Goals as goal

pub returns-in-Some-clause-form : goal.returns-in-Some-clause-form
returns-in-Some-clause-form c = c.requires.forms.known c.args.options.now c.in-Some.id c.in-Some.ensures

pub returns-clause-forms : goal.returns-clause-forms
returns-clause-forms c = record {
  known = form-learned c.args.forms.now.table c.remember.new.self c.args.options.now c.in_ok-id.id c.remember.ensures c.canonical_form.new.store c.args.parts_limit
      c.in_ok-id.ensures.form (known-grown c.canonical_form.ensures.kept c.args.parts_limit c.args.forms.now.table c.requires.forms.known);
  comparisons = c.in_ok-id.ensures.comparisons;
}
