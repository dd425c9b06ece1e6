use Rattle.std.proofs.Common.{◌∙◌, arith, inl, inr, ap, sym, get_or}
use Rattle.std.proofs.lemmas.Bool.{cases_eq}
use Rattle.std.proofs.lemmas.List.{ext_get_or}
use Rattle.local_value.proofs.options.are_same.Goals as goal

pub comparing-init : goal.comparing-init
comparing-init c = λ k lt. absurd (omega arith)

pub comparing-preserved : goal.comparing-preserved
comparing-preserved c = λ k lt. elim (cases_eq k c.comparing.at) [
  | inl e ↦ ap (λ n. get_or c.args.options.now n 0) e ∙ c.if-options-at.false ∙ ap (λ n. get_or c.args.others.now n 0) (sym e)
  | inr ne ↦ c.comparing.invariant k (omega (arith, lt, ne))
]

pub returns : goal.returns
returns c = λ _. ext_get_or 0 c.args.options.now c.args.others.now c.if-options-others.false (λ i lt. c.comparing.invariant i (omega (arith, lt, c.comparing-test.false)))
