use Rattle.std.proofs.Common.{◌≡◌, ap₂, sym, ◌∙◌, subst}
use Rattle.go_grid.specs.declared.grid.Colour.TheVariants.{Black, White}
use Rattle.game_store.specs.Meaning.{listed, AreIds}
use Rattle.game_canon.specs.Outcomes.{IsCanonicalId, AreOptionsWithin}
use Rattle.local_value.specs.Remembered.{options_of}
use Rattle.local_value.proofs.OptionsLaws.{form-made}
use Rattle.local_value.proofs.memo.canonical_form.Goals as goal

pub canonical_with-requires-clause-left : goal.canonical_with-requires-clause-left
canonical_with-requires-clause-left c = subst (AreIds c.args.store.now) (sym (c.deref.ensures.value ∙ c.in_ok-left.ensures)) c.requires.left

pub canonical_with-requires-clause-right : goal.canonical_with-requires-clause-right
canonical_with-requires-clause-right c = subst (AreIds c.args.store.now) (sym (c.deref-2.ensures.value ∙ c.in_ok-right.ensures)) c.requires.right

pub returns-clause-form : goal.returns-clause-form
returns-clause-form c =
    let Ts = c.args.store.now in
    let Us = c.canonical_with.new.store in
    let ls = options_of Black c.args.options.now in
    let rs = options_of White c.args.options.now in
    let id = c.in_ok-id.id in
    let same : listed Ts c.deref.result.now c.deref-2.result.now ≡ listed Ts ls rs =
    ap₂ (listed Ts) (c.deref.ensures.value ∙ c.in_ok-left.ensures) (c.deref-2.ensures.value ∙ c.in_ok-right.ensures) in
    form-made c.canonical_with.ensures.kept c.args.parts_limit ls rs id c.requires.left c.requires.right
    (subst (λ t. IsCanonicalId Us t id) same c.in_ok-id.ensures.value) c.in_ok-id.ensures.parts
    (λ b w. c.in_ok-id.ensures.sizes b (subst (AreOptionsWithin b) (sym same) w))
