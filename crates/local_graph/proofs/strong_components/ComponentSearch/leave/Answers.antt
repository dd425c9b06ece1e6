use Rattle.std.proofs.Common.{◌∙◌, ◌-◌, ◌++◌, ◌∷◌, [], length, take, arith, sym, ap, subst}
use Rattle.std.proofs.lemmas.List.Sums.{count_by-le-length}
use Rattle.local_graph.specs.inner.Telling.{TellsFrom, is_told}
use Rattle.local_graph.proofs.SearchLemmas.{ends_in}
use Rattle.local_graph.proofs.TellingSteps.{said_inside, said_inner, said_apart, said_fewer, said_last, front_of, lent_back, none_there}
use Rattle.local_graph.proofs.strong_components.ComponentSearch.leave.Goals as goal

pub returns-in_default-clause-under_way : goal.returns-in_default-clause-under_way
returns-in_default-clause-under_way c =
    let s = c.args.self.now in
    said_inner c.args.edges.now s.path.items c.args.last s.waiting.items s.starts.items s.marks.items s.told c.requires.ends c.requires.under_way
    c.requires.none c.pop.new.self.items (c.pop.ensures.rest ∙ ap (λ n. take (n - 1) s.path.items) s.path.ok.0)
    (front_of s.path.items c.args.last c.requires.ends)
    (none_there s.starts.items c.deref.result.now c.args.last.at c.deref.ensures.value (sym c.last.ensures.value ∙ sym c.copied.ensures ∙ c.in_default.is))

pub returns-then-start-last-clause-under_way : goal.returns-then-start-last-clause-under_way
returns-then-start-last-clause-under_way c =
    let s = c.args.self.now in
    let starts = ends_in s.starts.items c.deref.result.now c.in-Some.start c.deref.ensures.value (sym c.last.ensures.value ∙ sym c.copied.ensures ∙ c.in-Some.is) in
    said_apart c.args.edges.now s.path.items c.args.last s.waiting.items s.starts.items s.marks.items s.told c.requires.ends c.requires.under_way
    c.requires.none c.pop.new.self.items (c.pop.ensures.rest ∙ ap (λ n. take (n - 1) s.path.items) s.path.ok.0)
    (front_of s.path.items c.args.last c.requires.ends) _ c.in-Some.start starts c.if-start-last.true

pub tell-requires-clause-inside : goal.tell-requires-clause-inside
tell-requires-clause-inside c =
    let s = c.args.self.now in
    let inside = said_inside c.args.edges.now s.path.items c.args.last s.waiting.items s.starts.items s.marks.items s.told c.requires.ends c.requires.under_way in
    omega (arith, inside)

pub returns-clause-under_way : goal.returns-clause-under_way
returns-clause-under_way c =
    let s = c.args.self.now in
    let starts = ends_in s.starts.items c.deref.result.now c.in-Some.start c.deref.ensures.value (sym c.last.ensures.value ∙ sym c.copied.ensures ∙ c.in-Some.is) in
    let front = take (length s.starts.items - 1) s.starts.items in
    let ends = starts ∙ ap (λ x. front ++ x ∷ []) c.if-start-last.false in
    let tells = subst (λ l. TellsFrom s.waiting.items l c.args.last.at s.told c.tell.new.waiting.items c.tell.new.marks) c.deref_mut.ensures.value c.tell.ensures in
    rw (lent_back s.marks.len c.tell.new.marks s.marks.items tells.long s.marks.ok.0, c.pop-2.ensures.rest ∙ ap (λ n. take (n - 1) s.starts.items) s.starts.ok.0)
    (said_last c.args.edges.now s.path.items c.args.last s.waiting.items s.starts.items s.marks.items s.told c.requires.ends c.requires.under_way
    c.requires.none c.pop.new.self.items (c.pop.ensures.rest ∙ ap (λ n. take (n - 1) s.path.items) s.path.ok.0)
    (front_of s.path.items c.args.last c.requires.ends) front c.tell.new.waiting.items c.tell.new.marks ends tells).0

pub overflow_add-self : goal.overflow_add-self
overflow_add-self c =
    let s = c.args.self.now in
    omega (arith, c.requires.under_way.few, count_by-le-length is_told s.marks.items, s.marks.ok)

pub returns-in_default-clause-less : goal.returns-in_default-clause-less
returns-in_default-clause-less c =
    let s = c.args.self.now in
    said_fewer c.args.edges.now s.path.items c.args.last s.waiting.items s.starts.items s.marks.items s.told c.requires.ends c.requires.under_way
    c.requires.none c.pop.new.self.items (c.pop.ensures.rest ∙ ap (λ n. take (n - 1) s.path.items) s.path.ok.0)
    (front_of s.path.items c.args.last c.requires.ends)

pub returns-then-start-last-clause-less : goal.returns-then-start-last-clause-less
returns-then-start-last-clause-less c =
    let s = c.args.self.now in
    said_fewer c.args.edges.now s.path.items c.args.last s.waiting.items s.starts.items s.marks.items s.told c.requires.ends c.requires.under_way
    c.requires.none c.pop.new.self.items (c.pop.ensures.rest ∙ ap (λ n. take (n - 1) s.path.items) s.path.ok.0)
    (front_of s.path.items c.args.last c.requires.ends)

pub returns-clause-less : goal.returns-clause-less
returns-clause-less c =
    let s = c.args.self.now in
    let starts = ends_in s.starts.items c.deref.result.now c.in-Some.start c.deref.ensures.value (sym c.last.ensures.value ∙ sym c.copied.ensures ∙ c.in-Some.is) in
    let front = take (length s.starts.items - 1) s.starts.items in
    let ends = starts ∙ ap (λ x. front ++ x ∷ []) c.if-start-last.false in
    let tells = subst (λ l. TellsFrom s.waiting.items l c.args.last.at s.told c.tell.new.waiting.items c.tell.new.marks) c.deref_mut.ensures.value c.tell.ensures in
    rw (lent_back s.marks.len c.tell.new.marks s.marks.items tells.long s.marks.ok.0)
    (said_last c.args.edges.now s.path.items c.args.last s.waiting.items s.starts.items s.marks.items s.told c.requires.ends c.requires.under_way
    c.requires.none c.pop.new.self.items (c.pop.ensures.rest ∙ ap (λ n. take (n - 1) s.path.items) s.path.ok.0)
    (front_of s.path.items c.args.last c.requires.ends) front c.tell.new.waiting.items c.tell.new.marks ends tells).1
