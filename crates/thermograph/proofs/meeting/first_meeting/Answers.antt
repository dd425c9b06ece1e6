use Rattle.std.proofs.Common.{◌≤ℤ◌, arith, inl, inr, sym, ◌∙◌, subst}
use Rattle.std.proofs.lemmas.Int.{by_lt_z}
use Rattle.std.proofs.lemmas.Bool.{false≢true}
use Rattle.thermograph.specs.inner.Scaffolds.{line}
use Rattle.short_games.proofs.LineLaws.{below-or_at}
use Rattle.thermograph.proofs.ScaffoldLaws.{last-met, apart-before, apart-crossing, straight-short}
use Rattle.thermograph.proofs.meeting.first_meeting.Goals as goal
use Rattle.thermograph.proofs.meeting.first_meeting.Goals.{In-walking}

not_met : (c : In-walking) → line c.args.left.now c.walking.place ≤ℤ line c.args.right.now c.walking.place → ⊥
not_met c e = false≢true (sym c.walking-test.true ∙ c.have_met.ensures.1 e)

pub next_bend-requires-clause-order : goal.next_bend-requires-clause-order
next_bend-requires-clause-order c = elim (below-or_at c.walking.place 1329227995784915872903807060280344575 (omega (arith, c.walking.invariant.0))) [
  | inl l ↦ l
  | inr e ↦ absurd (not_met c (subst (λ n. line c.args.left.now n ≤ℤ line c.args.right.now n) (sym e) (last-met c.args.left.now c.args.right.now c.requires.left c.requires.right c.requires.left_side c.requires.right_side)))
]

pub steps_to_meeting-requires-clause-left_straight :
    goal.steps_to_meeting-requires-clause-left_straight
steps_to_meeting-requires-clause-left_straight c = straight-short (line c.args.left.now) c.walking.place c.next_bend.result c.min-next.result (omega (arith, c.min-next.ensures, c.next_bend.ensures.after, c.next_bend-in-walking.ensures.after)) (omega (arith, c.min-next.ensures)) c.next_bend.ensures.straight

pub steps_to_meeting-requires-clause-right_straight :
    goal.steps_to_meeting-requires-clause-right_straight
steps_to_meeting-requires-clause-right_straight c = straight-short (line c.args.right.now) c.walking.place c.next_bend-in-walking.result c.min-next.result (omega (arith, c.min-next.ensures, c.next_bend.ensures.after, c.next_bend-in-walking.ensures.after)) (omega (arith, c.min-next.ensures)) c.next_bend-in-walking.ensures.straight

pub steps_to_meeting-requires-clause-apart : goal.steps_to_meeting-requires-clause-apart
steps_to_meeting-requires-clause-apart c = by_lt_z (line c.args.right.now c.walking.place) (line c.args.left.now c.walking.place) (λ l. l) (λ l. absurd (not_met (goal.at.steps_to_meeting-requires-clause-apart c).In-walking l))

pub returns-then-have_met-clause-first : goal.returns-then-have_met-clause-first
returns-then-have_met-clause-first c = apart-crossing (line c.args.left.now) (line c.args.right.now) c.walking.place _ c.walking.invariant.1 c.steps_to_meeting.ensures.crossing

pub walking-preserved : goal.walking-preserved
walking-preserved c = (
  omega (arith, c.min-next.ensures, c.next_bend.ensures.within),
  apart-before (line c.args.left.now) (line c.args.right.now) c.requires.stays c.min-next.result (λ e. false≢true (sym c.if-have_met.false ∙ c.have_met-in-walking.ensures.1 e)),
)
