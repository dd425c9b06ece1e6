-- Where tokens begin and end.
use Rattle.std.proofs.Common.{ℕ, zero, suc, ◌+◌, ◌-◌, ◌<◌, ◌≤◌, ◌≡◌, ◌⊎◌, ◌∷◌, [], List, length, get_or, take, drop, arith, inl, inr, ap, refl, sym, ◌∙◌, cond}
use Rattle.std.specs.Prelude.{slice_range}
use Rattle.std.proofs.lemmas.Bool.{cases_lt, ne_eqb, eq-eqb}
use Rattle.std.proofs.lemmas.List.{drop-drop, drop_more, drop_all, get_or-drop, length-drop}
use Rattle.game_calc.specs.Expression.{next, token, behind_token, kind_of}
use Rattle.game_calc.specs.declared.tokens.Kind.TheVariants.{End}

-- from a blank on, from another byte on, and at the end
pub next-blank : (text : List ℕ) (i : ℕ) → i < length text → get_or text i 0 ≡ 32 → next (drop i text) ≡ next (drop (i + 1) text)
unfolding next
next-blank text i l e = ap next (drop_more text i 0 l) ∙ ap (λ b. cond b (next (drop (i + 1) text)) (get_or text i 0 ∷ drop (i + 1) text)) (eq-eqb (get_or text i 0) 32 e)

pub next-other : (text : List ℕ) (i : ℕ) → i < length text → (get_or text i 0 ≡ 32 → ⊥) → drop i text ≡ next (drop i text)
unfolding next
next-other text i l other =
    drop_more text i 0 l ∙ sym (ap next (drop_more text i 0 l) ∙ ap (λ b. cond b (next (drop (i + 1) text)) (get_or text i 0 ∷ drop (i + 1) text)) (ne_eqb (get_or text i 0) 32 other))

pub next-end : (text : List ℕ) (i : ℕ) → length text ≤ i → drop i text ≡ next (drop i text)
unfolding next
next-end text i l = drop_all i text l ∙ sym (ap next (drop_all i text l))

-- the blanks so far in front of a token
pub record IsPassing (text : List ℕ) (first at : ℕ) : Type 0 where
  pub forward : first ≤ at
  pub within : at ≤ length text
  pub next_is : next (drop at text) ≡ next (drop first text)

pub passing-step : (text : List ℕ) (first at : ℕ) → IsPassing text first at → at < length text → get_or text at 0 ≡ 32 → IsPassing text first (at + 1)
passing-step text first at w l e = record { forward = omega (arith, w.forward); within = omega (arith, l); next_is = sym (next-blank text at l e) ∙ w.next_is }

-- k bytes other than blanks, and then the end or a blank
token-run : (xs : List ℕ) (k : ℕ) → k ≤ length xs → ((j : ℕ) → j < k → get_or xs j 0 ≡ 32 → ⊥) → (length xs ≤ k) ⊎ (get_or xs k 0 ≡ 32) → (take k xs ≡ token xs) × (drop k xs ≡ behind_token xs)
unfolding token behind_token
token-run [] zero l apart end = (refl, refl)
token-run [] (suc k) l apart end = (refl, refl)
token-run (x ∷ xs) zero l apart (inl m) = absurd (omega (arith, m))
token-run (x ∷ xs) zero l apart (inr e) = (
  sym (ap (λ b. cond b [] (x ∷ token xs)) (eq-eqb x 32 e)),
  sym (ap (λ b. cond b (x ∷ xs) (behind_token xs)) (eq-eqb x 32 e)),
)
token-run (x ∷ xs) (suc k) l apart end =
    let other = ne_eqb x 32 (apart 0 (omega arith)) in
    let r = token-run xs k (omega (arith, l)) (λ j m. apart (suc j) (omega (arith, m))) (further end) in (
      ap (λ t. x ∷ t) r.0 ∙ sym (ap (λ b. cond b [] (x ∷ token xs)) other),
      r.1 ∙ sym (ap (λ b. cond b (x ∷ xs) (behind_token xs)) other),
    )
  where
    further : (length (x ∷ xs) ≤ suc k) ⊎ (get_or (x ∷ xs) (suc k) 0 ≡ 32) → (length xs ≤ k) ⊎ (get_or xs k 0 ≡ 32)
    further (inl m) = inl (omega (arith, m))
    further (inr e) = inr e

-- the bytes so far of a token
pub record IsRunning (text : List ℕ) (start at : ℕ) : Type 0 where
  pub forward : start ≤ at
  pub within : at ≤ length text
  pub bytes : (j : ℕ) → start ≤ j → j < at → get_or text j 0 ≡ 32 → ⊥

pub running-end : (text : List ℕ) (start at : ℕ) → IsRunning text start at → (length text ≤ at) ⊎ (get_or text at 0 ≡ 32) → (slice_range text start at ≡ token (drop start text)) × (drop at text ≡ behind_token (drop start text))
running-end text start at w end =
    let e : start + (at - start) ≡ at = omega (arith, w.forward) in
    let r = token-run (drop start text) (at - start) (omega (arith, w.within, w.forward, length-drop start text))
    (λ j l is. w.bytes (start + j) (omega arith) (omega (arith, l)) (sym (get_or-drop start text j 0) ∙ is)) (ended end) in
    (r.0, ap (λ z. drop z text) (sym e) ∙ sym (drop-drop (at - start) start text) ∙ r.1)
  where
    ended : (length text ≤ at) ⊎ (get_or text at 0 ≡ 32) → (length (drop start text) ≤ at - start) ⊎ (get_or (drop start text) (at - start) 0 ≡ 32)
    ended (inl m) = inl (omega (arith, m, w.forward, length-drop start text))
    ended (inr e) = inr (get_or-drop start text (at - start) 0 ∙ ap (λ z. get_or text z 0) (let f : start + (at - start) ≡ at = omega (arith, w.forward) in f) ∙ e)

-- a token that isn't the end has bytes
kind-some : (xs : List ℕ) → (kind_of xs ≡ End → ⊥) → 0 < length xs
unfolding kind_of
kind-some [] other = absurd (other refl)
kind-some (x ∷ xs) other = omega arith

pub some-bytes : (xs : List ℕ) (start end : ℕ) (text : List ℕ) → slice_range text start end ≡ xs → (kind_of xs ≡ End → ⊥) → start < end
some-bytes xs start end text e other = let l = kind-some xs other in elim (cases_lt start end) [ inl d ↦ d | inr d ↦ absurd (omega (arith, l, ap length e, none (end - start) (drop start text) (omega (arith, d)))) ]
  where
    none : (n : ℕ) (ys : List ℕ) → n ≡ 0 → length (take n ys) ≡ 0
    none n ys z = ap (λ m. length (take m ys)) z
