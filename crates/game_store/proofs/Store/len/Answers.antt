use Rattle.std.proofs.Common.{sym, ◌∙◌, ◌≡◌, length, rules}
use Rattle.game_store.proofs.StoreLaws.{have-forms, holds, length-trees}
use Rattle.game_store.proofs.Store.len.Goals as goal

pub returns-clause-count : goal.returns-clause-count
returns-clause-count c = let count : c.len.result ≡ length c.self.inside.slots.items = search rules in
    count ∙ sym (length-trees (holds c.self.invariant c.self.view_is))

pub returns-clause-forms : goal.returns-clause-forms
returns-clause-forms c = have-forms (holds c.self.invariant c.self.view_is)
