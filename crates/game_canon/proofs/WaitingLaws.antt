-- Questions that wait for one another, and what is remembered under their keys.
use Rattle.std.proofs.Common.{ℕ, ◌<◌, ◌≤◌, ◌≡◌, List, [], ◌∷◌, ◌++◌, length, get_or, arith, refl, sym, ◌∙◌, inl, inr, ap, subst, Bool, true, cond, Some, None}
use Rattle.std.specs.Prelude.{Option}
use Rattle.std.proofs.lemmas.Bool.{cases_Bool, cases_lt}
use Rattle.std.proofs.lemmas.List.{length-append, get_or_append_left}
use Rattle.std.proofs.Math.Seq.{get_or-append_seam}
use Rattle.game_canon.proofs.OpenPairLaws.{one_open}

-- one more answer is remembered, under the key p
module _ {K : Type 0} (same : K → K → Bool) (same-is : (p q : K) → same p q ≡ true → p ≡ q) (itself : (p : K) → same p p ≡ true)
    (known after : K → Option Bool) (p : K) (answer : Bool) (noted : (q : K) → after q ≡ cond (same p q) (Some answer) (known q)) where
  at-key : (b : Bool) (q : K) → same p q ≡ b → after q ≡ cond b (Some answer) (known q)
  at-key b q t = noted q ∙ ap (λ c. cond c (Some answer) (known q)) t

  -- no other key has another answer
  pub other-key : (q : K) → (p ≡ q → ⊥) → after q ≡ known q
  other-key q n = elim (cases_Bool (same p q)) [ inl t ↦ absurd (n (same-is p q t)) | inr f ↦ at-key _ q f ]

  -- what is remembered stays right where the answer is
  pub right-more : (Right : K → Bool → Type 0) → Right p answer → ((q : K) (v : Bool) → known q ≡ Some v → Right q v)
      → (q : K) (v : Bool) → after q ≡ Some v → Right q v
  right-more Right s r q v k = elim (cases_Bool (same p q)) [
    | inl t ↦ (
        let i : Some answer ≡ Some v = sym (at-key _ q t) ∙ k in
        let is : answer ≡ v = cc in
        subst (λ x. Right x v) (same-is p q t) (subst (Right p) is s)
        )
    | inr f ↦ r q v (sym (at-key _ q f) ∙ k)
  ]

  -- fewer keys are open
  pub open-no_more : (q : K) → one_open (after q) ≤ one_open (known q)
  open-no_more q = elim (cases_Bool (same p q)) [ inl t ↦ rw (at-key _ q t) (omega arith) | inr f ↦ rw (at-key _ q f) (omega arith) ]

  pub open-fewer : known p ≡ None → one_open (after p) < one_open (known p)
  open-fewer e = rw (at-key _ p (itself p), e) (omega arith)

-- of a list with one more at its end
module _ {Q : Type 0} (nothing : Q) (ws : List Q) (x : Q) where
  first-push : (y : Q) → get_or (ws ++ x ∷ []) 0 y ≡ get_or ws 0 x
  first-push y = at ws
    where
      at : (ws : List Q) → get_or (ws ++ x ∷ []) 0 y ≡ get_or ws 0 x
      at [] = refl
      at (w ∷ ws) = refl

  at-old : (P : Q → Type 0) (i : ℕ) → i < length ws → P (get_or ws i nothing) → P (get_or (ws ++ x ∷ []) i nothing)
  at-old P i l = subst P (sym (get_or_append_left ws (x ∷ []) nothing i l))

  at-end : (P : Q → Type 0) (i : ℕ) → length ws ≤ i → i < length (ws ++ x ∷ []) → P x → P (get_or (ws ++ x ∷ []) i nothing)
  at-end P i l m p =
      let same : length ws ≡ i = omega (arith, l, m, length-append ws (x ∷ [])) in
      subst (λ k. P (get_or (ws ++ x ∷ []) k nothing)) same (subst P (sym (get_or-append_seam ws x [] nothing)) p)

-- where the search is: at a question, with those that wait for it, that of the key p at the bottom; and the keys weigh less
-- and less
module _ {K Q : Type 0} (key : Q → K) (weight : K → ℕ) (Right : (K → Option Bool) → Type 0) (Open : (K → Option Bool) → K → Type 0)
    (SoFar : Q → Type 0) (nothing : Q) where
  pub record AreWaiting (known : K → Option Bool) (p : K) (q : Q) (ws : List Q) : Type 0 where
    pub right : Right known
    pub now : Open known (key q)
    pub resisted : SoFar q
    pub waits : (i : ℕ) → i < length ws → Open known (key (get_or ws i nothing))
    pub resist : (i : ℕ) → i < length ws → SoFar (get_or ws i nothing)
    pub above : (i : ℕ) → i < length ws → weight (key q) < weight (key (get_or ws i nothing))
    pub falls : (i j : ℕ) → i < j → j < length ws → weight (key (get_or ws j nothing)) < weight (key (get_or ws i nothing))
    pub first_is : key (get_or ws 0 q) ≡ p

  -- another question comes first
  module _ (known : K → Option Bool) (p : K) (q rest next : Q) (ws : List Q) (w : AreWaiting known p q ws) (same : key rest ≡ key q) where
    first-same : (us : List Q) → key (get_or us 0 rest) ≡ key (get_or us 0 q)
    first-same [] = same
    first-same (u ∷ us) = refl

    as_before : weight (key rest) ≡ weight (key q)
    as_before = ap weight same

    pub waiting-ask : Open known (key next) → weight (key next) < weight (key q) → SoFar next → SoFar rest
        → AreWaiting known p next (ws ++ rest ∷ [])
    waiting-ask unknown lighter begun so_far = record {
      right = w.right;
      now = unknown;
      resisted = begun;
      waits = λ i l. elim (cases_lt i (length ws)) [
        | inl d ↦ at-old nothing ws rest (λ x. Open known (key x)) i d (w.waits i d)
        | inr d ↦ at-end nothing ws rest (λ x. Open known (key x)) i d l (subst (Open known) (sym same) w.now)
      ];
      resist = λ i l. elim (cases_lt i (length ws)) [
        | inl d ↦ at-old nothing ws rest SoFar i d (w.resist i d)
        | inr d ↦ at-end nothing ws rest SoFar i d l so_far
      ];
      above = λ i l. elim (cases_lt i (length ws)) [
        | inl d ↦ at-old nothing ws rest (λ x. weight (key next) < weight (key x)) i d (omega (arith, lighter, w.above i d))
        | inr d ↦ at-end nothing ws rest (λ x. weight (key next) < weight (key x)) i d l (omega (arith, lighter, as_before))
      ];
      falls = λ i j l m. elim (cases_lt j (length ws)) [
        | inl d ↦ at-old nothing ws rest (λ x. weight (key (get_or (ws ++ rest ∷ []) j nothing)) < weight (key x)) i (omega (arith, l, d))
            (at-old nothing ws rest (λ x. weight (key x) < weight (key (get_or ws i nothing))) j d (w.falls i j l d))
        | inr d ↦ (
            let c : i < length ws = omega (arith, l, m, length-append ws (rest ∷ [])) in
            at-old nothing ws rest (λ x. weight (key (get_or (ws ++ rest ∷ []) j nothing)) < weight (key x)) i c
            (at-end nothing ws rest (λ x. weight (key x) < weight (key (get_or ws i nothing))) j d m
            (omega (arith, w.above i c, as_before)))
            )
      ];
      first_is = ap key (first-push nothing ws rest next) ∙ first-same ws ∙ w.first_is;
    }

  -- the question is answered, and the last that waits goes on
  module _ (known : K → Option Bool) (p : K) (q next : Q) (ws : List Q) (w : AreWaiting known p q (ws ++ next ∷ [])) where
    in_it : length ws < length (ws ++ next ∷ [])
    in_it = omega (arith, length-append ws (next ∷ []))

    last : get_or (ws ++ next ∷ []) (length ws) nothing ≡ next
    last = get_or-append_seam ws next [] nothing

    old : (i : ℕ) → i < length ws → get_or (ws ++ next ∷ []) i nothing ≡ get_or ws i nothing
    old i l = get_or_append_left ws (next ∷ []) nothing i l

    pub waiting-last : Open known (key next)
    waiting-last = subst (λ x. Open known (key x)) last (w.waits (length ws) in_it)

    pub waiting-answer : (after : K → Option Bool) → Right after → ((r : K) → weight (key q) < weight r → Open known r → Open after r)
        → AreWaiting after p next ws
    waiting-answer after r stays = record {
      right = r;
      now = subst (λ x. Open after (key x)) last (stay (length ws) in_it);
      resisted = subst SoFar last (w.resist (length ws) in_it);
      waits = λ i l. subst (λ x. Open after (key x)) (old i l) (stay i (omega (arith, l, in_it)));
      resist = λ i l. subst SoFar (old i l) (w.resist i (omega (arith, l, in_it)));
      above = λ i l. subst (λ x. weight (key next) < weight (key x)) (old i l)
          (subst (λ x. weight (key x) < weight (key (get_or (ws ++ next ∷ []) i nothing))) last (w.falls i (length ws) l in_it));
      falls = λ i j l m. subst (λ x. weight (key (get_or ws j nothing)) < weight (key x)) (old i (omega (arith, l, m)))
          (subst (λ x. weight (key x) < weight (key (get_or (ws ++ next ∷ []) i nothing))) (old j m)
          (w.falls i j l (omega (arith, m, in_it))));
      first_is = ap key (sym (first-push nothing ws next q)) ∙ w.first_is;
    }
      where
        stay : (i : ℕ) → i < length (ws ++ next ∷ []) → Open after (key (get_or (ws ++ next ∷ []) i nothing))
        stay i l = stays (key (get_or (ws ++ next ∷ []) i nothing)) (w.above i l) (w.waits i l)
