-- Comparisons of sums that wait for one another.
use Rattle.std.proofs.Common.{ℕ, ◌+◌, ◌*◌, ◌<◌, ◌≤◌, ◌≡◌, List, [], ◌∷◌, ◌++◌, length, arith, refl, sym, ◌∙◌, ap, subst, Bool, true, nat_eq, ◌&&◌, Some, None, IfSome, IsTrue, ◌↔◌}
use Rattle.std.specs.Prelude.{Option}
use Rattle.std.proofs.lemmas.Bool.{and_parts, eqb-true, eq-eqb}
use Rattle.short_games.specs.Tree.{Tree}
use Rattle.short_games.specs.Order.{◌≤ᵍ◌}
use Rattle.short_games.specs.Sum.{◌+ᵍ◌}
use Rattle.game_store.specs.Meaning.{Extends}
use Rattle.game_canon.specs.declared.sums.SumPair.{SumPair}
use Rattle.game_canon.specs.declared.sums.Place.TheVariants.{First}
use Rattle.game_canon.specs.declared.sums_at_most.SumQuestion.{SumQuestion}
use Rattle.game_canon.specs.declared.sums_at_most.SumStep.TheVariants.{Ask}
use Rattle.game_canon.specs.SumComparisons.{same_games, Compared, Tells, AreStored, AreSumsRight, AreComparisonsRight}
use Rattle.game_canon.specs.inner.SumComparisons.{with_sums, AreOpen, HasResisted, IsSumStep, weight}
use Rattle.game_canon.proofs.OpenPairLaws.{row, row-le, row-lt, one_open, measure-answer}
use Rattle.game_canon.proofs.WaitingLaws.{AreWaiting, waiting-ask, waiting-answer, waiting-last, other-key, right-more, open-no_more, open-fewer}

abbrev no_games : SumPair
no_games = record { first = 0; second = 0; third = 0; fourth = 0 }

abbrev no_question : SumQuestion
no_question = record { pair = no_games; place = First; from = 0 }

-- where the search is: at a comparison, with those that wait for it, the one asked at first at the bottom
abbrev pub AreAsking : List Tree → (SumPair → Option Bool) → SumPair → SumQuestion → List SumQuestion → Type 0
AreAsking Ts = AreWaiting (λ (q : SumQuestion). q.pair) weight (AreSumsRight Ts) (AreOpen Ts) (HasResisted Ts) no_question

-- another comparison comes first
pub sums_ask : (Ts : List Tree) (known : SumPair → Option Bool) (p : SumPair) (q rest : SumQuestion) (next : SumPair) (begun : SumQuestion) (ws us : List SumQuestion)
    → AreAsking Ts known p q ws → IsSumStep Ts known q.pair (Ask rest next) → us ≡ ws ++ rest ∷ [] → begun.pair ≡ next → HasResisted Ts begun → AreAsking Ts known p begun us
sums_ask Ts known p q rest next begun ws us w (open_next, lighter, same, so_far) e is at_first = subst (AreAsking Ts known p begun) (sym e)
    (waiting-ask _ weight _ _ _ no_question known p q rest begun ws w same
    (subst (AreOpen Ts known) (sym is) open_next) (omega (arith, lighter, ap weight is)) at_first so_far)

-- pairs that the test takes for the same are the same
games-same : (p q : SumPair) → same_games p q ≡ true → p ≡ q
games-same p q t =
    let x = and_parts (nat_eq p.first q.first) (nat_eq p.second q.second && (nat_eq p.third q.third && nat_eq p.fourth q.fourth)) t in
    let y = and_parts (nat_eq p.second q.second) (nat_eq p.third q.third && nat_eq p.fourth q.fourth) x.1 in
    let z = and_parts (nat_eq p.third q.third) (nat_eq p.fourth q.fourth) y.1 in
    λ i. record { first = eqb-true p.first q.first x.0 i; second = eqb-true p.second q.second y.0 i; third = eqb-true p.third q.third z.0 i; fourth = eqb-true p.fourth q.fourth z.1 i }

games-itself : (p : SumPair) → same_games p p ≡ true
games-itself p = rw (
  eq-eqb p.first p.first refl,
  eq-eqb p.second p.second refl,
  eq-eqb p.third p.third refl,
  eq-eqb p.fourth p.fourth
      refl,
) refl

-- what is remembered stays right with one more answer that is right
pub right_more : (Ts : List Tree) (known after : SumPair → Option Bool) (p : SumPair) (answer : Bool) → AreStored Ts p → Tells Ts p answer → ((r : SumPair) → after r ≡ with_sums known p answer r) → AreSumsRight Ts known → AreSumsRight Ts after
right_more Ts known after p answer ids s e r = right-more same_games games-same games-itself known after p answer e
    (λ q v. AreStored Ts q × Tells Ts q v) (ids, s) r

pub right_same : (Ts : List Tree) (before now : Compared) → now ≡ before → AreComparisonsRight Ts before → AreComparisonsRight Ts now
right_same Ts before now e r = subst (AreComparisonsRight Ts) (sym e) r

pub right_tells : (Ts : List Tree) (known : SumPair → Option Bool) (p : SumPair) (r : Option Bool) → AreSumsRight Ts known → r ≡ known p → IfSome r (λ answer. Tells Ts p answer)
right_tells Ts known p None right e = tt
right_tells Ts known p (Some answer) right e = (right p answer (sym e)).1

-- how many pairs of sums are still open
abbrev pub open_sums : (SumPair → Option Bool) → ℕ → ℕ
open_sums known n = row (λ a. row (λ b. row (λ c. row (λ d. one_open (known (record { first = a; second = b; third = c; fourth = d }))) n) n) n) n

open_sums-falls : (known after : SumPair → Option Bool) (n : ℕ) (p : SumPair) → ((q : SumPair) → one_open (after q) ≤ one_open (known q)) → p.first < n → p.second < n → p.third < n → p.fourth < n → one_open (after p) < one_open (known p) → open_sums after n < open_sums known n
open_sums-falls known after n p h a b c d l = row-lt _ _ n p.first (λ i. row-le _ _ n (λ j. row-le _ _ n (λ k. row-le _ _ n (λ m. h (record { first = i; second = j; third = k; fourth = m }))))) a
    (row-lt _ _ n p.second (λ j. row-le _ _ n (λ k. row-le _ _ n (λ m. h (record { first = p.first; second = j; third = k; fourth = m })))) b
    (row-lt _ _ n p.third (λ k. row-le _ _ n (λ m. h (record { first = p.first; second = p.second; third = k; fourth = m }))) c
    (row-lt _ _ n p.fourth (λ m. h (record { first = p.first; second = p.second; third = p.third; fourth = m })) d l)))

-- the measure
abbrev pub sums_work : List Tree → (SumPair → Option Bool) → SumPair → ℕ
sums_work Ts known q = open_sums known (length Ts) * (length Ts + length Ts + length Ts + length Ts) + weight q

module _ (Ts : List Tree) (known after : SumPair → Option Bool) (p : SumPair) (q next : SumQuestion) (us ws : List SumQuestion)
    (answer : Bool) (asked : AreAsking Ts known p q us)
    (noted : (r : SumPair) → after r ≡ with_sums known q.pair answer r) (u : us ≡ ws ++ next ∷ []) where
  waiting : AreAsking Ts known p q (ws ++ next ∷ [])
  waiting = subst (AreAsking Ts known p q) u asked

  -- the comparison is answered, and the last that waits goes on
  pub sums_answer : Tells Ts q.pair answer → AreAsking Ts after p next ws
  sums_answer s = waiting-answer _ weight _ _ _ no_question known p q next ws waiting after
      (right_more Ts known after q.pair answer asked.now.ids s noted asked.right) (λ r l o. record {
        ids = o.ids;
        hot = o.hot;
        unknown = other-key same_games games-same games-itself known after q.pair answer noted r (λ e. omega (arith, l, ap weight e))
            ∙ o.unknown;
      })

  -- the measure falls
  pub sums_smaller : sums_work Ts after next.pair < sums_work Ts known q.pair
  sums_smaller =
      let o = waiting-last _ weight _ _ _ no_question known p q next ws waiting in
      let i = asked.now.ids in
      measure-answer (open_sums known (length Ts)) (open_sums after (length Ts)) (weight q.pair) (weight next.pair) (length Ts + length Ts + length Ts + length Ts)
      (open_sums-falls known after (length Ts) q.pair (open-no_more same_games games-same games-itself known after q.pair answer noted)
      i.first_id i.second_id i.third_id i.fourth_id (open-fewer same_games games-same games-itself known after q.pair answer noted
      asked.now.unknown))
      (omega (arith, o.ids.first_id, o.ids.second_id, o.ids.third_id, o.ids.fourth_id))

-- the same ids after more forms were interned
pub right_grown : (Ts Us : List Tree) (memo : Compared) → Extends Ts Us → AreComparisonsRight Ts memo → AreComparisonsRight Us memo
right_grown Ts Us memo x right p answer e =
    let w = right p answer e in
    let first = x.same p.first w.0.first_id in
    let second = x.same p.second w.0.second_id in
    let third = x.same p.third w.0.third_id in
    let fourth = x.same p.fourth w.0.fourth_id in (
      record {
        first_id = omega (arith, w.0.first_id, x.longer);
        second_id = omega (arith, w.0.second_id, x.longer);
        third_id = omega (arith, w.0.third_id, x.longer);
        fourth_id = omega (arith, w.0.fourth_id, x.longer);
      },
      subst (λ t. IsTrue answer ↔ t) (λ i. sym first i +ᵍ sym second i ≤ᵍ sym third i +ᵍ sym fourth i) w.1,
    )
