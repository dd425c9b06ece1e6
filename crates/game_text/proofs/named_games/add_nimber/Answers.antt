use Rattle.game_text.proofs.NameReadingLaws.{next-canonical, next-no_number, nimbers-grown}
use Rattle.game_text.proofs.named_games.add_nimber.Goals as goal

pub intern-requires-clause-canonical : goal.intern-requires-clause-canonical
intern-requires-clause-canonical c = next-canonical c.args.store.now _ _ _ c.requires.nimbers c.deref.ensures.value c.deref-2.ensures.value

pub intern-requires-clause-no_number : goal.intern-requires-clause-no_number
intern-requires-clause-no_number c = next-no_number c.args.store.now _ _ _ c.requires.nimbers c.requires.some c.deref.ensures.value c.deref-2.ensures.value

pub returns-clause-nimbers : goal.returns-clause-nimbers
returns-clause-nimbers c = nimbers-grown c.args.store.now c.intern.new.self _ _ _ c.push.new.self.items c.in_ok-id.id c.requires.nimbers c.intern.ensures.kept c.len-count.ensures.forms c.len-count.ensures.distinct c.deref.ensures.value c.deref-2.ensures.value c.in_ok-id.ensures.value c.in_ok-push.ensures.items

pub returns-clause-kept : goal.returns-clause-kept
returns-clause-kept c = c.intern.ensures.kept

pub returns-in_err-id-clause-kept : goal.returns-in_err-id-clause-kept
returns-in_err-id-clause-kept c = c.intern.ensures.kept

pub returns-in_err-push-clause-kept : goal.returns-in_err-push-clause-kept
returns-in_err-push-clause-kept c = c.intern.ensures.kept
