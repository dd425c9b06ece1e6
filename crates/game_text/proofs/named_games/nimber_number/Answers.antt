use Rattle.std.proofs.Common.{ℕ, arith, sym, ◌∙◌, ap}
use Rattle.std.proofs.lemmas.Bool.{true≢false}
use Rattle.std.specs.Fmt.{decimal}
use Rattle.game_text.proofs.DecimalLaws.{digits-are}
use Rattle.game_text.proofs.ParsingLaws.{not-none, some-is}
use Rattle.game_text.proofs.named_games.nimber_number.Goals as goal

pub returns-in_default : goal.returns-in_default
returns-in_default c n d = not-none n c.parsed_count.result (c.parsed_count.ensures n (omega (arith, d.1)) (d.2 ∙ digits-are n (omega (arith, d.1)))) c.in_default.is

pub returns-then-number-lt2 : goal.returns-then-number-lt2
returns-then-number-lt2 c n d = (let e = some-is c.in-Some.number n c.parsed_count.result c.in-Some.is (c.parsed_count.ensures n (omega (arith, d.1)) (d.2 ∙ digits-are n (omega (arith, d.1)))) in omega (arith, e, d.0, c.if-number-lt2.true))

pub returns-then-number-gt-MOST_NIMBER : goal.returns-then-number-gt-MOST_NIMBER
returns-then-number-gt-MOST_NIMBER c n d = (let e = some-is c.in-Some.number n c.parsed_count.result c.in-Some.is (c.parsed_count.ensures n (omega (arith, d.1)) (d.2 ∙ digits-are n (omega (arith, d.1)))) in omega (arith, e, d.1, c.if-number-gt-MOST_NIMBER.true))

pub returns-then-branch : goal.returns-then-branch
returns-then-branch c = (omega (arith, c.if-number-lt2.false), omega (arith, c.if-number-gt-MOST_NIMBER.false), c.in_ok-are_digits_of.ensures.0 c.if-branch.true ∙ sym (digits-are c.in-Some.number (omega (arith, c.if-number-gt-MOST_NIMBER.false))))

pub returns-else-branch : goal.returns-else-branch
returns-else-branch c n d =
    let e = some-is c.in-Some.number n c.parsed_count.result c.in-Some.is (c.parsed_count.ensures n (omega (arith, d.1)) (d.2 ∙ digits-are n (omega (arith, d.1)))) in
    true≢false (sym (c.in_ok-are_digits_of.ensures.1 (d.2 ∙ digits-are n (omega (arith, d.1)) ∙ ap (λ (k : ℕ). decimal k) (sym e))) ∙ c.if-branch.false)
