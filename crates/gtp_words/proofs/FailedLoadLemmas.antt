-- Which loads of a session failed.
use Rattle.std.proofs.Common.{◌<◌, ◌≤◌, ◌+◌, ◌++◌, ◌∷◌, ◌↔◌, ℕ, List, [], length, inl, inr, refl, sym, ap, subst, arith, length-append}
use Rattle.std.specs.Prelude.{Contains}
use Rattle.std.proofs.lemmas.List.Elements.{Contains-append_left, Contains-push, Contains-push_cases}
use Rattle.gtp_words.specs.Loads.{AreLoads, Fate, IsLoadNumbered, Loads, NotesFate, RoseBy, unloaded}
use Rattle.gtp_words.specs.Loads.Fate.{no_load, made, failed}
use Rattle.gtp_words.proofs.LoadLemmas.{loads_failed, loads_more}

-- the list tells of the loads so far what is noted of them
abbrev pub Agrees : Loads → List ℕ → Type 0
Agrees l failing = (n : ℕ) → n < l.count → Contains failing n ↔ Contains l.failures n

-- the numbers are below that of the next load
abbrev pub AreBelow : Loads → Type 0
AreBelow l = (n : ℕ) → Contains l.failures n → n < l.count

pub agrees_itself : (l : Loads) → Agrees l l.failures
agrees_itself l = λ n lt. ((λ c. c), (λ c. c))

not_pushed : (loads n : ℕ) (known : List ℕ) → n < loads → Contains (known ++ loads ∷ []) n → Contains known n
not_pushed loads n known lt c = elim (Contains-push_cases known loads n c) [ inl old ↦ old | inr new ↦ absurd (omega (arith, lt, new)) ]

-- no load
pub unloaded_are : AreLoads unloaded
unloaded_are = record { ascending = λ k lt. absurd (omega (arith, lt)); below = λ n c. absurd (omega (arith, c.1)) }

module _ (before now : ℕ) (a : Loads) where
  -- what is noted of a load leaves loads
  pub noted_are : (b : Loads) (fate : Fate) → NotesFate before now fate a b → AreLoads a → AreLoads b
  noted_are b no_load h are = subst AreLoads (sym h) are
  noted_are b made h are = subst AreLoads (sym h) (loads_more a.count a.failures are)
  noted_are b failed h are = subst AreLoads (sym h.0) (loads_failed a.count a.failures (a.failures ++ a.count ∷ []) refl are)

  agrees_failed : (failing : List ℕ) → Agrees (record { count = a.count + 1; failures = a.failures ++ a.count ∷ [] }) failing → Agrees a failing
  agrees_failed failing agrees = λ n lt.
      let both = agrees n (omega (arith, lt)) in
      ((λ c. not_pushed a.count n a.failures lt (both.0 c)), (λ c. both.1 (Contains-append_left a.failures (a.count ∷ []) n c)))

  -- what agrees on one load more
  pub noted_agrees : (b : Loads) (fate : Fate) (failing : List ℕ) → NotesFate before now fate a b → Agrees b failing → Agrees a failing
  noted_agrees b no_load failing h agrees = subst (λ l. Agrees l failing) h agrees
  noted_agrees b made failing h agrees = λ n lt. (subst (λ l. Agrees l failing) h agrees) n (omega (arith, lt))
  noted_agrees b failed failing h agrees = agrees_failed failing (subst (λ l. Agrees l failing) h.0 agrees)

  -- the load has its number
  pub noted_numbered : (b : Loads) (fate : Fate) (failing : List ℕ) → NotesFate before now fate a b → AreBelow a → Agrees b failing → IsLoadNumbered failing fate a.count b.count
  noted_numbered b no_load failing h below agrees = ap (λ l. l.count) h
  noted_numbered b made failing h below agrees =
      (ap (λ l. l.count) h, λ c. let lt = below a.count (((subst (λ l. Agrees l failing) h agrees) a.count (omega arith)).0 c) in absurd (omega (arith, lt)))
  noted_numbered b failed failing h below agrees =
      (ap (λ l. l.count) h.0, ((subst (λ l. Agrees l failing) h.0 agrees) a.count (omega arith)).1 (Contains-push a.failures a.count))

  -- one load more at most
  pub noted_loads : (b : Loads) (fate : Fate) (n : ℕ) → NotesFate before now fate a b → a.count ≤ n → b.count ≤ n + 1
  noted_loads b no_load n h le = omega (arith, ap (λ l. l.count) h, le)
  noted_loads b made n h le = omega (arith, ap (λ l. l.count) h, le)
  noted_loads b failed n h le = omega (arith, ap (λ l. l.count) h.0, le)

  -- the count of faults rose with each failed load
  pub noted_rose : (b : Loads) (fate : Fate) (first : ℕ) → NotesFate before now fate a b → before ≤ now → RoseBy (length a.failures) first before → RoseBy (length b.failures) first now
  noted_rose b no_load first h later rose = subst (λ l. RoseBy (length l.failures) first now) (sym h) (omega (arith, rose, later))
  noted_rose b made first h later rose = subst (λ l. RoseBy (length l.failures) first now) (sym h) (omega (arith, rose, later))
  noted_rose b failed first h later rose =
      subst (λ l. RoseBy (length l.failures) first now) (sym h.0) (subst (λ n. RoseBy n first now) (sym (length-append a.failures (a.count ∷ []))) (omega (arith, rose, later, h.1)))
