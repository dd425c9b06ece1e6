use Rattle.std.proofs.lemmas.Result.{on_ok_weaker}
use Rattle.local_value.proofs.OptionsLaws.{sums-grown, forms-grown, left-ids, right-ids, form-refused, form-sizes, form-values}
use Rattle.local_value.proofs.values.value_of.Goals as goal

pub form_of-requires : goal.form_of-requires
form_of-requires c =
    let after = (c.in_ok-list_options.ensures {u = tt}).options in record {
      left = left-ids after;
      right = right-ids after;
      forms = forms-grown c.list_options.ensures.kept c.args.parts_limit c.args.memo.now.forms c.requires.memo.forms;
    }

pub returns-clause-value : goal.returns-clause-value
returns-clause-value c =
    form-values (c.in_ok-list_options.ensures {u = tt}).options c.form_of.ensures.kept c.args.parts_limit c.form_of.result c.form_of.ensures.form

pub returns-clause-sizes : goal.returns-clause-sizes
returns-clause-sizes c =
    form-sizes (c.in_ok-list_options.ensures {u = tt}).options c.form_of.ensures.kept c.args.parts_limit c.form_of.result c.form_of.ensures.form

pub returns-clause-refusal : goal.returns-clause-refusal
returns-clause-refusal c =
    form-refused (c.in_ok-list_options.ensures {u = tt}).options c.form_of.ensures.kept c.args.parts_limit c.form_of.result c.form_of.ensures.refusal

pub returns-clause-memo : goal.returns-clause-memo
returns-clause-memo c = on_ok_weaker c.form_of.result (λ forms. record {
  sums = sums-grown c.form_of.ensures.kept c.list_options.new.sums (c.in_ok-list_options.ensures {u = tt}).sums;
  forms = forms;
}) c.form_of.ensures.forms
