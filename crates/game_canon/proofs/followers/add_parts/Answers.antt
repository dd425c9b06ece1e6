use Rattle.std.proofs.Common.{List, ℕ, sym, subst}
use Rattle.std.proofs.lemmas.List.{take_more}
use Rattle.short_games.specs.Tree.{Has}
use Rattle.game_store.specs.Meaning.{pick}
use Rattle.game_canon.specs.inner.Followers.{IsGrown}
use Rattle.game_canon.proofs.PartLaws.{grown-start, gathered-skip, gathered-insert}
use Rattle.game_canon.proofs.followers.add_parts.Goals as goal

pub loop-id-init : goal.loop-id-init
loop-id-init c = grown-start c.args.store.now c.args.found.now.keys

pub loop-id-preserved-then-not-is_part : goal.loop-id-preserved-then-not-is_part
loop-id-preserved-then-not-is_part c = subst (λ (z : List ℕ). IsGrown c.args.store.now (Has (pick c.args.store.now z)) c.args.found.now.keys c.loop-id.found.keys) (sym (take_more c.args.ids.now c.loop-id.id-index 0 c.loop-id-test.true))
    (gathered-skip c.args.store.now _ _ c.args.found.now.keys c.loop-id.found.keys _ (c.is_part.ensures.number c.if-not-is_part.true)
    c.loop-id.invariant)

pub loop-id-preserved : goal.loop-id-preserved
loop-id-preserved c = subst (λ (z : List ℕ). IsGrown c.args.store.now (Has (pick c.args.store.now z)) c.args.found.now.keys c.insert.new.self.keys) (sym (take_more c.args.ids.now c.loop-id.id-index 0 c.loop-id-test.true))
    (gathered-insert c.args.store.now _ _ c.args.found.now.keys c.loop-id.found.keys _ c.insert.new.self.keys
    (c.requires _ c.loop-id-test.true) (c.is_part.ensures.part c.if-not-is_part.false) c.in_ok-insert.ensures.keys c.loop-id.invariant)
