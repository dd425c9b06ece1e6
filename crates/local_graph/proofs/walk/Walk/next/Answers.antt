use Rattle.std.proofs.Common.{refl, subst, sym, ◌∙◌, append-nil}
use Rattle.local_graph.specs.inner.Walk.{Goes}
use Rattle.local_graph.proofs.WalkLemmas.{goes_more, goes_same, goes_start, last_inside, still_inside}
use Rattle.local_graph.proofs.walk.Walk.next.Goals as goal

pub passing-init : goal.passing-init
passing-init c = record { inside = c.requires; goes = goes_start c.args.self.now }

pub take-requires : goal.take-requires
take-requires c = last_inside c.passing.self.visits.items c.passing.self.tasks.items c.pop.new.self.items c.in-Some.task
    c.passing.invariant.inside c.in-Some.ensures.items

pub passing-preserved : goal.passing-preserved
passing-preserved c =
    let goes = subst (Goes _ _ _) c.in_default-2.is c.in_ok-place.ensures.goes in
    record {
      inside = still_inside c.passing.self.visits.items c.take.new.self.visits.items c.passing.self.tasks.items c.pop.new.self.items
          c.take.new.self.tasks.items c.in-Some.task c.passing.invariant.inside c.in-Some.ensures.items c.take.ensures.tasks goes.visits.long;
      goes = goes_more _ _ c.passing.self _ _ _ _ c.passing.invariant.goes refl refl refl c.in-Some.ensures.items goes;
    }

pub returns-in-Some-2-clause-goes : goal.returns-in-Some-2-clause-goes
returns-in-Some-2-clause-goes c =
    let goes = subst (Goes _ _ _) c.in-Some-2.is c.in_ok-place.ensures.goes in
    goes_more _ _ c.passing.self _ _ _ _ c.passing.invariant.goes refl refl refl c.in-Some.ensures.items goes

pub returns-clause-goes : goal.returns-clause-goes
returns-clause-goes c =
    goes_same _ _ c.passing.self _ c.passing.invariant.goes refl refl refl (sym (c.in_default.ensures.items ∙ append-nil c.pop.new.self.items))
