use Rattle.std.proofs.Common.{get_or, Contains, length, inl, inr, arith, ap, sym, subst}
use Rattle.std.proofs.lemmas.Bool.{cases_eq}
use Rattle.local_value.proofs.OptionSetLemmas.{same-members}
use Rattle.local_value.proofs.option_set.OptionSet.is_same.Goals as goal

pub comparing-preserved : goal.comparing-preserved
comparing-preserved c = λ k lt. elim (cases_eq k c.comparing.option-index) [
  | inl e ↦ subst (λ n. Contains c.args.self.now (get_or c.args.others.now n 0)) (sym e) (c.has.ensures.0 c.if-not-has.false)
  | inr ne ↦ c.comparing.invariant k (omega (arith, lt, ne))
]

pub returns : goal.returns
returns c = λ _. same-members c.args.self.now c.args.others.now c.requires
    (omega (arith, c.if-others-len.false, c.len.ensures, c.self.inside.options.ok, ap length c.self.view_is))
    (λ k lt. c.comparing.invariant k (omega (arith, lt, c.comparing-test.false)))
