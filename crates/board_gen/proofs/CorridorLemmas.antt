-- The corridors that a number draws.
use Rattle.std.proofs.Common.{◌≡◌, ℕ, zero, suc, ◌+◌, ◌*◌, ◌%◌, ◌<◌, ◌≤◌, ◌↔◌, Bool, true, false, List, [], ◌∷◌, ◌++◌, length, get_or, MatchBool, refl, sym, ap, ◌∙◌, subst, arith, below_more}
use Rattle.std.specs.List.{HoldsAt, AllWithin}
use Rattle.std.proofs.lemmas.List.{get_or_append_left, get_or_push, length_push}
use Rattle.board_gen.specs.declared.corridors.Corridor.{Corridor}
use Rattle.board_gen.specs.Trial.{draw, IsInCorridor, IsInSomeCorridor}
use Rattle.board_gen.specs.inner.Corridor.{AreCorridors, Covers, IsCorridor, no_corridor}

-- one corridor more
pub corridors_more : (number i next drawn x : ℕ) (before after : List Corridor) (c : Corridor) → next ≡ suc i → drawn ≡ draw number i
    → x ≡ (75 * drawn + 74) % 65537 → IsCorridor x next c → AreCorridors number i before → after ≡ before ++ c ∷ []
    → AreCorridors number (i + 1) after
corridors_more number i next drawn x before after c n d e is are a =
    let drawn_next : x ≡ draw number (suc i) = e ∙ ap (λ y. (75 * y + 74) % 65537) d in
    subst (AreCorridors number (i + 1)) (sym a) (record {
      long = length_push before c ∙ ap (λ k. k + 1) are.long;
      each = below_more (λ k. IsCorridor (draw number (suc k)) (suc k) (get_or (before ++ c ∷ []) k no_corridor)) i
          (λ k lt. rw (get_or_append_left before (c ∷ []) no_corridor k (omega (arith, lt, are.long))) (are.each k lt))
          (rw (get_or_push before c no_corridor i are.long)
          (subst (λ y. IsCorridor y (suc i) c) drawn_next (subst (λ k. IsCorridor x k c) n is)));
    })

-- whether one of the corridors covers the point
pub found : (number p : ℕ) (corridors : List Corridor) (r : Bool) → AreCorridors number 16 corridors
    → MatchBool r ((k : ℕ) × (k < length corridors) × HoldsAt (λ c. Covers c p) corridors k) (AllWithin (λ c. ¬ Covers c p) corridors 0 (length corridors))
    → (r ≡ true) ↔ IsInSomeCorridor number p
found number p corridors true are h = (
  λ _.
      let below : h.0 < 16 = omega (arith, h.1, are.long) in
      (suc h.0, omega arith, omega (arith, below), (are.each h.0 below p).0 (h.2 no_corridor)),
  λ _. refl,
)
found number p corridors false are h = (λ e. cc, λ s. absurd (none s.0 s.1 s.2 s.3))
  where
    none : (j : ℕ) → 1 ≤ j → j ≤ 16 → IsInCorridor (draw number j) j p → ⊥
    none zero least most i = omega (arith, least)
    none (suc k) least most i =
        let below : k < 16 = omega (arith, most) in
        h k no_corridor (omega arith) (omega (arith, below, are.long)) ((are.each k below p).1 i)
