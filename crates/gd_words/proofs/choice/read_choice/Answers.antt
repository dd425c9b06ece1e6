use Rattle.std.proofs.Common.{rules, subst, sym}
use Rattle.sgf_go.specs.Komi.{IsKomi}
use Rattle.gd_words.specs.declared.choice.Choice.TheVariants.{Komi, Turn, After, BlackPrisoners, WhitePrisoners, Positions, Parts, Engine, Tax, Territory, Cycles, KeepBoard}
use Rattle.gd_words.proofs.ListingLemmas.{at_none}
use Rattle.gd_words.proofs.NameLemmas.{komi_only, turn_only, after_only, black_only, white_only, positions_only, parts_only, engine_only, tax_only, territory_only, cycles_only, board_only}
use Rattle.gd_words.proofs.OneOptionLemmas.{same_komi, unsaid}
use Rattle.gd_words.proofs.choice.read_choice.Goals as goal

pub returns-in_err-read_komi-in-text-clause-none : goal.returns-in_err-read_komi-in-text-clause-none
returns-in_err-read_komi-in-text-clause-none c = at_none _ _ c.from_residual.ensures (unsaid Komi _ c.args.name.now c.args.value.now komi_only (search rules) (λ v k. c.in_err-read_komi-in-text.ensures.none v (subst (λ w. IsKomi w v) (sym c.as_bytes.ensures.value) k)))

pub returns-in_err-read_colour-in-text-2-clause-none : goal.returns-in_err-read_colour-in-text-2-clause-none
returns-in_err-read_colour-in-text-2-clause-none c = at_none _ _ c.from_residual-in_err-read_colour-in-text-2.ensures (unsaid Turn _ c.args.name.now c.args.value.now turn_only (search rules) c.in_err-read_colour-in-text-2.ensures.none)

pub returns-in_err-read_count-in-text-3-clause-none : goal.returns-in_err-read_count-in-text-3-clause-none
returns-in_err-read_count-in-text-3-clause-none c = at_none _ _ c.from_residual-in_err-read_count-in-text-3.ensures (unsaid After _ c.args.name.now c.args.value.now after_only (search rules) c.in_err-read_count-in-text-3.ensures.none)

pub returns-in_err-read_count-in-text-4-clause-none : goal.returns-in_err-read_count-in-text-4-clause-none
returns-in_err-read_count-in-text-4-clause-none c = at_none _ _ c.from_residual-in_err-read_count-in-text-4.ensures (unsaid BlackPrisoners _ c.args.name.now c.args.value.now black_only (search rules) c.in_err-read_count-in-text-4.ensures.none)

pub returns-in_err-read_count-in-text-5-clause-none : goal.returns-in_err-read_count-in-text-5-clause-none
returns-in_err-read_count-in-text-5-clause-none c = at_none _ _ c.from_residual-in_err-read_count-in-text-5.ensures (unsaid WhitePrisoners _ c.args.name.now c.args.value.now white_only (search rules) c.in_err-read_count-in-text-5.ensures.none)

pub returns-in_err-read_count-in-text-6-clause-none : goal.returns-in_err-read_count-in-text-6-clause-none
returns-in_err-read_count-in-text-6-clause-none c = at_none _ _ c.from_residual-in_err-read_count-in-text-6.ensures (unsaid Positions _ c.args.name.now c.args.value.now positions_only (search rules) c.in_err-read_count-in-text-6.ensures.none)

pub returns-in_err-read_count-in-text-7-clause-none : goal.returns-in_err-read_count-in-text-7-clause-none
returns-in_err-read_count-in-text-7-clause-none c = at_none _ _ c.from_residual-in_err-read_count-in-text-7.ensures (unsaid Parts _ c.args.name.now c.args.value.now parts_only (search rules) c.in_err-read_count-in-text-7.ensures.none)

pub returns-in_err-read_colour-in-text-8-clause-none : goal.returns-in_err-read_colour-in-text-8-clause-none
returns-in_err-read_colour-in-text-8-clause-none c = at_none _ _ c.from_residual-in_err-read_colour-in-text-8.ensures (unsaid Engine _ c.args.name.now c.args.value.now engine_only (search rules) c.in_err-read_colour-in-text-8.ensures.none)

pub returns-in_err-read_answer-in-text-9-clause-none : goal.returns-in_err-read_answer-in-text-9-clause-none
returns-in_err-read_answer-in-text-9-clause-none c = at_none _ _ c.from_residual-in_err-read_answer-in-text-9.ensures (unsaid Tax _ c.args.name.now c.args.value.now tax_only (search rules) c.in_err-read_answer-in-text-9.ensures.none)

pub returns-in_err-read_answer-in-text-10-clause-none : goal.returns-in_err-read_answer-in-text-10-clause-none
returns-in_err-read_answer-in-text-10-clause-none c = at_none _ _ c.from_residual-in_err-read_answer-in-text-10.ensures (unsaid Territory _ c.args.name.now c.args.value.now territory_only (search rules) c.in_err-read_answer-in-text-10.ensures.none)

pub returns-in_err-read_answer-in-text-11-clause-none : goal.returns-in_err-read_answer-in-text-11-clause-none
returns-in_err-read_answer-in-text-11-clause-none c = at_none _ _ c.from_residual-in_err-read_answer-in-text-11.ensures (unsaid Cycles _ c.args.name.now c.args.value.now cycles_only (search rules) c.in_err-read_answer-in-text-11.ensures.none)

pub returns-in_err-read_answer-in-text-12-clause-none : goal.returns-in_err-read_answer-in-text-12-clause-none
returns-in_err-read_answer-in-text-12-clause-none c = at_none _ _ c.from_residual-in_err-read_answer-in-text-12.ensures (unsaid KeepBoard _ c.args.name.now c.args.value.now board_only (search rules) c.in_err-read_answer-in-text-12.ensures.none)

pub returns-in_ok-read_komi-in-text-clause-some : goal.returns-in_ok-read_komi-in-text-clause-some
returns-in_ok-read_komi-in-text-clause-some c =
    let halves = c.in_ok-read_komi-in-text.field-0 in
    (search rules, subst (IsKomi c.args.value.now) (sym (same_komi halves c.in_ok-read_komi-in-text.ensures.range)) (subst (λ w. IsKomi w halves) c.as_bytes.ensures.value c.in_ok-read_komi-in-text.ensures.some))

pub returns-in_ok-read_colour-in-text-2-clause-some : goal.returns-in_ok-read_colour-in-text-2-clause-some
returns-in_ok-read_colour-in-text-2-clause-some c = (search rules, c.in_ok-read_colour-in-text-2.ensures.some)

pub returns-in_ok-read_count-in-text-3-clause-some : goal.returns-in_ok-read_count-in-text-3-clause-some
returns-in_ok-read_count-in-text-3-clause-some c = (search rules, c.in_ok-read_count-in-text-3.ensures.some)

pub returns-in_ok-read_count-in-text-4-clause-some : goal.returns-in_ok-read_count-in-text-4-clause-some
returns-in_ok-read_count-in-text-4-clause-some c = (search rules, c.in_ok-read_count-in-text-4.ensures.some)

pub returns-in_ok-read_count-in-text-5-clause-some : goal.returns-in_ok-read_count-in-text-5-clause-some
returns-in_ok-read_count-in-text-5-clause-some c = (search rules, c.in_ok-read_count-in-text-5.ensures.some)

pub returns-in_ok-read_count-in-text-6-clause-some : goal.returns-in_ok-read_count-in-text-6-clause-some
returns-in_ok-read_count-in-text-6-clause-some c = (search rules, c.in_ok-read_count-in-text-6.ensures.some)

pub returns-in_ok-read_count-in-text-7-clause-some : goal.returns-in_ok-read_count-in-text-7-clause-some
returns-in_ok-read_count-in-text-7-clause-some c = (search rules, c.in_ok-read_count-in-text-7.ensures.some)

pub returns-in_ok-read_colour-in-text-8-clause-some : goal.returns-in_ok-read_colour-in-text-8-clause-some
returns-in_ok-read_colour-in-text-8-clause-some c = (search rules, c.in_ok-read_colour-in-text-8.ensures.some)

pub returns-in_ok-read_answer-in-text-9-clause-some : goal.returns-in_ok-read_answer-in-text-9-clause-some
returns-in_ok-read_answer-in-text-9-clause-some c = (search rules, c.in_ok-read_answer-in-text-9.ensures.some)

pub returns-in_ok-read_answer-in-text-10-clause-some : goal.returns-in_ok-read_answer-in-text-10-clause-some
returns-in_ok-read_answer-in-text-10-clause-some c = (search rules, c.in_ok-read_answer-in-text-10.ensures.some)

pub returns-in_ok-read_answer-in-text-11-clause-some : goal.returns-in_ok-read_answer-in-text-11-clause-some
returns-in_ok-read_answer-in-text-11-clause-some c = (search rules, c.in_ok-read_answer-in-text-11.ensures.some)

pub returns-in_ok-read_answer-in-text-12-clause-some : goal.returns-in_ok-read_answer-in-text-12-clause-some
returns-in_ok-read_answer-in-text-12-clause-some c = (search rules, c.in_ok-read_answer-in-text-12.ensures.some)
