-- What is noted of loads stays right.
use Rattle.std.proofs.Common.{◌≡◌, ℕ, ◌+◌, ◌<◌, inl, inr, arith, sym, subst, List, [], ◌∷◌, ◌++◌, length, get_or}
use Rattle.std.specs.List.Sorted.{IsStrictlyIncreasing}
use Rattle.std.proofs.lemmas.Bool.{cases_lt}
use Rattle.std.proofs.lemmas.List.{get_or_append_left, get_or_push, length_push}
use Rattle.std.proofs.lemmas.List.Elements.{Contains-get_or, Contains-push_cases}
use Rattle.gtp_words.specs.Loads.{AreLoads}

-- one more load, which was made
pub loads_more : (n : ℕ) (failed : List ℕ) → AreLoads (record { count = n; failures = failed }) → AreLoads (record { count = n + 1; failures = failed })
loads_more n failed h = record { ascending = h.ascending; below = λ k c. omega (arith, h.below k c) }

ascending_push : (n : ℕ) (failed : List ℕ) → AreLoads (record { count = n; failures = failed }) → IsStrictlyIncreasing (failed ++ n ∷ [])
ascending_push n failed h k lt =
    let short : k < length failed = omega (arith, length_push failed n) in
    rw (get_or_append_left failed (n ∷ []) 0 k short)
    (elim (cases_lt (k + 1) (length failed)) [
      | inl in' ↦ rw (get_or_append_left failed (n ∷ []) 0 (k + 1) in') (h.ascending k in')
      | inr out ↦
          let e : length failed ≡ k + 1 = omega arith in
          rw (get_or_push failed n 0 (k + 1) e)
          (h.below (get_or failed k 0) (Contains-get_or failed k 0 short))
    ])

-- one more load, which failed
pub loads_failed : (n : ℕ) (failed now : List ℕ) → now ≡ failed ++ n ∷ [] → AreLoads (record { count = n; failures = failed }) → AreLoads (record { count = n + 1; failures = now })
loads_failed n failed now is h = subst (λ l. AreLoads (record { count = n + 1; failures = l })) (sym is) (record {
  ascending = ascending_push n failed h;
  below = λ k c. elim (Contains-push_cases failed n k c) [
    | inl old ↦ omega (arith, h.below k old)
    | inr e ↦ omega (arith, e)
  ];
})
