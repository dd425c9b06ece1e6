use Rattle.std.proofs.Common.{◌≡◌, ◌∙◌, [], ◌∷◌, ◌++◌, Contains, set, true, false, sym, subst}
use Rattle.local_value.specs.inner.OptionSets.{IsOptionSet, IsWith}
use Rattle.local_value.proofs.OptionSetLemmas.{set-add, with-push}
use Rattle.local_value.proofs.option_set.OptionSet.add.Goals as goal

pub invariant_of-self-2 : goal.invariant_of-self-2
invariant_of-self-2 c =
    let i = c.self.inside in
    let marks = c.make_room.new.marks.items in
    subst (λ os. IsOptionSet os (set marks c.args.option i.turn) i.turn) (sym (c.in_ok-push.ensures {u = tt}).items)
    (set-add c.self.invariant marks c.make_room.ensures.kept c.args.option (c.in_ok-make_room.ensures {u = tt}).room
    (λ h. let bad : true ≡ false = sym (c.has.ensures.1 (subst (λ os. Contains os c.args.option) c.self.view_is h)) ∙ c.if-has.false in cc))

pub returns : goal.returns
returns c =
    let i = c.self.inside in
    subst (IsWith c.args.option c.args.self.now) (sym (c.in_ok-push.ensures {u = tt}).items)
    (subst (λ os. IsWith c.args.option os (i.options.items ++ c.args.option ∷ [])) c.self.view_is (with-push i.options.items c.args.option))
