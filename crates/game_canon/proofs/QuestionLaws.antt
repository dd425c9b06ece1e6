-- Comparisons of two games that wait for one another.
use Rattle.std.proofs.Common.{ℕ, ◌+◌, ◌*◌, ◌<◌, ◌≡◌, List, [], ◌∷◌, ◌++◌, length, arith, refl, sym, ◌∙◌, subst, Bool, true, nat_eq}
use Rattle.std.specs.Prelude.{Option}
use Rattle.std.proofs.lemmas.Bool.{and_parts, eqb-true, eq-eqb}
use Rattle.short_games.specs.Tree.{Tree}
use Rattle.game_canon.specs.declared.at_most.Question.{Question}
use Rattle.game_canon.specs.declared.at_most.Step.TheVariants.{Ask}
use Rattle.game_canon.specs.Comparisons.{same_pair, SaysAtMost, AreRight}
use Rattle.game_canon.specs.inner.Comparisons.{with_answer, IsOpen, NoneCounters, IsStep}
use Rattle.game_canon.proofs.OpenPairLaws.{undecided, undecided-falls, measure-answer}
use Rattle.game_canon.proofs.WaitingLaws.{AreWaiting, waiting-ask, waiting-answer, waiting-last, other-key, right-more, open-no_more, open-fewer}

-- pairs that the test takes for the same are the same
pub pair-same : (p q : ℕ × ℕ) → same_pair p q ≡ true → p ≡ q
pair-same p q t = let s = and_parts (nat_eq p.0 q.0) (nat_eq p.1 q.1) t in λ i. (eqb-true p.0 q.0 s.0 i, eqb-true p.1 q.1 s.1 i)

pair-itself : (p : ℕ × ℕ) → same_pair p p ≡ true
pair-itself p = rw (eq-eqb p.0 p.0 refl, eq-eqb p.1 p.1 refl) refl

-- where the search is: at a question, with those that wait for it, the one asked at first at the bottom
abbrev pub IsAsking : List Tree → (ℕ → ℕ → Option Bool) → (a b : ℕ) → Question → List Question → Type 0
IsAsking Ts known a b q ws = AreWaiting (λ (q : Question). (q.game, q.other)) (λ (p : ℕ × ℕ). p.0 + p.1)
    (λ k. AreRight Ts (λ c d. k (c, d)))
    (λ k p. IsOpen Ts (λ c d. k (c, d)) p.0 p.1) (λ q. NoneCounters Ts q.game q.other q.place) (record { game = 0; other = 0; place = 0 })
    (λ p. known p.0 p.1) (a, b) q ws

-- another comparison comes first
pub asking_ask : (Ts : List Tree) (known : ℕ → ℕ → Option Bool) (a b : ℕ) (q : Question) (ws us : List Question) (place game other : ℕ)
    → IsAsking Ts known a b q ws → IsStep Ts known q (Ask place game other)
    → us ≡ ws ++ record { game = q.game; other = q.other; place = place } ∷ []
    → IsAsking Ts known a b (record { game = game; other = other; place = 0 }) us
asking_ask Ts known a b q ws us place game other w s e = subst (IsAsking Ts known a b
    (record { game = game; other = other; place = 0 })) (sym e)
    (waiting-ask _ _ _ _ _ _ _ _ q (record { game = q.game; other = q.other; place = place }) _ ws w refl
    s.1 s.2 (λ ls rs ms ns p q j l. absurd (omega (arith, l))) s.0)

abbrev by_pairs : (ℕ → ℕ → Option Bool) → ℕ × ℕ → Option Bool
by_pairs known p = known p.0 p.1

-- what is remembered stays right with one more answer that is right
pub right_more : (Ts : List Tree) (known after : ℕ → ℕ → Option Bool) (a b : ℕ) (answer : Bool) → AreRight Ts known → a < length Ts
    → b < length Ts → SaysAtMost Ts a b answer
    → ((c d : ℕ) → after c d ≡ with_answer known a b answer c d) → AreRight Ts after
right_more Ts known after a b answer r x y s noted c d v k = right-more same_pair pair-same pair-itself (by_pairs known)
    (by_pairs after) (a, b) answer (λ p. noted p.0 p.1)
    (λ p v. (p.0 < length Ts) × (p.1 < length Ts) × SaysAtMost Ts p.0 p.1 v) (x, y, s) (λ p v e. r p.0 p.1 v e) (c, d) v k

pub right_same : (Ts : List Tree) (known after : ℕ → ℕ → Option Bool) → AreRight Ts known → ((c d : ℕ) → after c d ≡ known c d) → AreRight Ts after
right_same Ts known after r e c d v k = r c d v (sym (e c d) ∙ k)

-- the measure: how many pairs are open, and then the ids of the question
abbrev pub open_work : List Tree → (ℕ → ℕ → Option Bool) → Question → ℕ
open_work Ts known q = undecided known (length Ts) * (length Ts + length Ts) + (q.game + q.other)

module _ (Ts : List Tree) (known after : ℕ → ℕ → Option Bool) (a b : ℕ) (q next : Question) (us ws : List Question) (answer : Bool)
    (asked : IsAsking Ts known a b q us)
    (noted : (c d : ℕ) → after c d ≡ with_answer known q.game q.other answer c d) (u : us ≡ ws ++ next ∷ []) where
  waiting : IsAsking Ts known a b q (ws ++ next ∷ [])
  waiting = subst (IsAsking Ts known a b q) u asked

  -- the question is answered, and the last that waits goes on
  pub asking_answer : SaysAtMost Ts q.game q.other answer → IsAsking Ts after a b next ws
  asking_answer s = waiting-answer _ _ _ _ _ _ _ _ q next ws waiting (by_pairs after)
      (right_more Ts known after q.game q.other answer asked.right asked.now.first_id asked.now.second_id s noted)
      (λ r l o. record {
        first_id = o.first_id;
        second_id = o.second_id;
        first_form = o.first_form;
        second_form = o.second_form;
        unknown = other-key same_pair pair-same pair-itself (by_pairs known) (by_pairs after) (q.game, q.other) answer
            (λ p. noted p.0 p.1) r
            (λ e. omega (arith, l, subst (λ (p : ℕ × ℕ). q.game + q.other ≡ p.0 + p.1) e refl)) ∙ o.unknown;
      })

  -- the measure falls
  pub work_answer : open_work Ts after next < open_work Ts known q
  work_answer =
      let o = waiting-last _ _ _ _ _ _ _ _ q next ws waiting in
      let on = λ (c d : ℕ). open-no_more same_pair pair-same pair-itself (by_pairs known) (by_pairs after) (q.game, q.other) answer
      (λ p. noted p.0 p.1) (c, d) in
      measure-answer (undecided known (length Ts)) (undecided after (length Ts)) (q.game + q.other) (next.game + next.other) (length Ts + length Ts)
      (undecided-falls known after (length Ts) q.game q.other on asked.now.first_id asked.now.second_id
      (open-fewer same_pair pair-same pair-itself (by_pairs known) (by_pairs after) (q.game, q.other) answer (λ p. noted p.0 p.1)
      asked.now.unknown))
      (omega (arith, o.first_id, o.second_id))
