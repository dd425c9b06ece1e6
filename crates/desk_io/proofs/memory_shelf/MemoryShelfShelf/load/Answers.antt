use Rattle.std.proofs.Common.{◌≡◌, refl, sym, ap, ◌∙◌, subst, Err}
use Rattle.desk_io.specs.Files.{Files, Loads, FailsByCount}
use Rattle.desk_io.specs.Files.Told.{holding}
use Rattle.desk_io.specs.Memory.{MemoryShelf, Calls, counted, fails_next}
use Rattle.desk_io.specs.inner.Memory.{files_in}
use Rattle.desk_io.specs.declared.shelf.LoadError.TheVariants.{Absent, Failed}
use Rattle.desk_io.proofs.FilesLemmas.{told_none, told_some, failed_loads, load_cause}
use Rattle.desk_io.proofs.memory_shelf.MemoryShelfShelf.load.Goals as goal
use Rattle.desk_io.proofs.memory_shelf.MemoryShelfShelf.load.Goals.{After-count}

abbrev shelf : Files → Calls → MemoryShelf
shelf files calls = record { files = files; calls = calls }

-- the shelf after the call was counted
asked : (c : After-count) → shelf (files_in c.self.inside.files) c.count.new.self ≡ shelf c.args.self.now.files (counted c.args.self.now.calls (fails_next c.args.self.now.calls))
asked c = ap (shelf (files_in c.self.inside.files)) c.count.ensures.counted ∙ ap (λ s. shelf s.files (counted s.calls (fails_next s.calls))) c.self.view_is

pub returns-then-count-clause-same : goal.returns-then-count-clause-same
returns-then-count-clause-same c = ap (λ s. s.files) c.self.view_is

pub returns-then-count-clause-bytes : goal.returns-then-count-clause-bytes
returns-then-count-clause-bytes c = failed_loads _ c.args.limit _

pub returns-then-count-clause-named : goal.returns-then-count-clause-named
returns-then-count-clause-named c = c.if-count.ensures.fails ∙ ap (λ s. fails_next s.calls) c.self.view_is

pub returns-then-count-clause-calls : goal.returns-then-count-clause-calls
returns-then-count-clause-calls c = ap (λ s. s.calls) (asked (goal.at.returns-then-count-clause-calls c).After-count) ∙ ap (counted c.args.self.now.calls) (sym (returns-then-count-clause-named c))

pub returns-then-count-clause-cause : goal.returns-then-count-clause-cause
returns-then-count-clause-cause c = subst (λ k. FailsByCount c.args.self.now.calls.faults k.faults (Err Failed)) (sym (returns-then-count-clause-calls c)) (load_cause c.args.self.now.calls (Err Failed))

pub returns-then-count-clause-asked : goal.returns-then-count-clause-asked
returns-then-count-clause-asked c = asked (goal.at.returns-then-count-clause-asked c).After-count

pub returns-in_default-clause-same : goal.returns-in_default-clause-same
returns-in_default-clause-same c = ap (λ s. s.files) c.self.view_is

pub returns-in_default-clause-bytes : goal.returns-in_default-clause-bytes
returns-in_default-clause-bytes c = subst (λ t. Loads t c.args.limit c.args.out.now.items c.args.out.now.items (Err Absent)) (sym (told_none c.self.inside.files _ c.args.name.now (ap (λ s. s.files) c.self.view_is) (sym c.in_default.ensures.value))) refl

pub returns-in_default-clause-named : goal.returns-in_default-clause-named
returns-in_default-clause-named c = c.if-count.ensures.fails ∙ ap (λ s. fails_next s.calls) c.self.view_is

pub returns-in_default-clause-calls : goal.returns-in_default-clause-calls
returns-in_default-clause-calls c = ap (λ s. s.calls) (asked (goal.at.returns-in_default-clause-calls c).After-count) ∙ ap (counted c.args.self.now.calls) (sym (returns-in_default-clause-named c))

pub returns-in_default-clause-cause : goal.returns-in_default-clause-cause
returns-in_default-clause-cause c = subst (λ k. FailsByCount c.args.self.now.calls.faults k.faults (Err Absent)) (sym (returns-in_default-clause-calls c)) (load_cause c.args.self.now.calls (Err Absent))

pub returns-in_default-clause-asked : goal.returns-in_default-clause-asked
returns-in_default-clause-asked c = asked (goal.at.returns-in_default-clause-asked c).After-count

pub returns-clause-same : goal.returns-clause-same
returns-clause-same c = ap (λ s. s.files) c.self.view_is

pub returns-clause-bytes : goal.returns-clause-bytes
returns-clause-bytes c = subst (λ t. Loads t c.args.limit c.args.out.now.items c.copy.new.out.items c.copy.result) (ap holding c.deref.ensures.value ∙ sym (told_some c.self.inside.files _ c.args.name.now _ (ap (λ s. s.files) c.self.view_is) (sym c.in-Some.ensures.value))) c.copy.ensures.bytes

pub returns-clause-named : goal.returns-clause-named
returns-clause-named c = c.copy.ensures.memory ∙ c.if-count.ensures.fails ∙ ap (λ s. fails_next s.calls) c.self.view_is

pub returns-clause-calls : goal.returns-clause-calls
returns-clause-calls c = ap (λ s. s.calls) (asked (goal.at.returns-clause-calls c).After-count) ∙ ap (counted c.args.self.now.calls) (sym (returns-clause-named c))

pub returns-clause-cause : goal.returns-clause-cause
returns-clause-cause c = subst (λ k. FailsByCount c.args.self.now.calls.faults k.faults c.copy.result) (sym (returns-clause-calls c)) (load_cause c.args.self.now.calls c.copy.result)

pub returns-clause-asked : goal.returns-clause-asked
returns-clause-asked c = asked (goal.at.returns-clause-asked c).After-count
