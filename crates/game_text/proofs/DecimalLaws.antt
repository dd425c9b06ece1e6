-- The digits of texts are those that std writes.
use Rattle.std.proofs.Common.{ℕ, zero, suc, ◌+◌, ◌*◌, ◌/◌, ◌%◌, ◌^◌, ◌<◌, ◌≤◌, ◌≡◌, List, [], ◌∷◌, ◌++◌, arith, refl, sym, ◌∙◌, ap, ap₂, ℤ, pos, negsuc, Bool, true, false, cond, append-nil, append_assoc}
use Rattle.std.specs.Prelude.{nat_lt, unsigned_abs}
use Rattle.std.specs.Fmt.{decimal, signed_decimal}
use mir.Val.{to_z, of_z, SFits}
use mir.Syntax.{w128}
use Rattle.std.proofs.lemmas.Int.{ints, to_z-of_z}
use Rattle.std.proofs.lemmas.Nat.{pow_below}
use Rattle.std.proofs.lemmas.Bool.{ltb-true, ltb-false}
use Rattle.std.proofs.lemmas.Fmt.{decimal_digit, decimal_step_wide}
use Rattle.dyadic_num.specs.Units.{IsLowest}
use Rattle.short_games.specs.NumberText.{digits_within, digits, integer_text, denominator_text}
use Rattle.short_games.specs.TextOrder.{tree_text}
use Rattle.short_games.specs.Number.{number_tree}
use Rattle.game_text.proofs.NumberTextLaws.{lowest-text, lowest-both}

pub digits-decimal : (steps n : ℕ) (s : List ℕ) → n < steps → n < 10 ^ 64 → digits_within steps n s ≡ decimal n ++ s
unfolding digits_within
digits-decimal zero n s h k = absurd (omega arith)
digits-decimal (suc steps) n s h k = by_test (nat_lt n 10) refl (λ p. digits-decimal steps (n / 10) ((48 + n % 10) ∷ s) (omega (arith, ltb-false n 10 p)) (omega (arith, k)))
  where
    by_test : (b : Bool) → nat_lt n 10 ≡ b → (nat_lt n 10 ≡ false → digits_within steps (n / 10) ((48 + n % 10) ∷ s) ≡ decimal (n / 10) ++ ((48 + n % 10) ∷ s)) → cond b ((48 + n) ∷ s) (digits_within steps (n / 10) ((48 + n % 10) ∷ s)) ≡ decimal n ++ s
    by_test true p f = ap (λ d. d ++ s) (sym (decimal_digit n (ltb-true n 10 p)))
    by_test false p f = f p ∙ sym (append_assoc (decimal (n / 10)) ((48 + n % 10) ∷ []) s) ∙ ap (λ d. d ++ s) (sym (decimal_step_wide n (ltb-false n 10 p) k))

pub digits-are : (n : ℕ) → n < 10 ^ 64 → digits n [] ≡ decimal n
digits-are n k = digits-decimal (suc n) n [] (omega arith) k ∙ append-nil _

pub integer-decimal : (n : ℤ) (s : List ℕ) → unsigned_abs n < 10 ^ 64 → integer_text n s ≡ signed_decimal n ++ s
integer-decimal (pos n) s k = digits-decimal (suc n) n s (omega arith) k
integer-decimal (negsuc n) s k = ap (λ d. 45 ∷ d) (digits-decimal (suc (suc n)) (suc n) s (omega arith) k)

pub whole-text : (u n : ℤ) (e : ℕ) → IsLowest u n e → unsigned_abs n < 10 ^ 64 → e ≡ 0 → signed_decimal n ≡ tree_text (number_tree u)
whole-text u n e l k z = sym (lowest-text u n e l ∙ at e z)
  where
    at : (d : ℕ) → d ≡ 0 → integer_text n (denominator_text d) ≡ signed_decimal n
    at zero p = integer-decimal n [] k ∙ append-nil _
    at (suc d) p = absurd (omega (arith, p))

pub part-text : (u n : ℤ) (e d : ℕ) → IsLowest u n e → unsigned_abs n < 10 ^ 64 → (e ≡ 0 → ⊥) → d ≡ 2 ^ e → d < 10 ^ 64 → signed_decimal n ++ (47 ∷ decimal d) ≡ tree_text (number_tree u)
part-text u n e d l k z p q = sym (lowest-text u n e l ∙ at e z p)
  where
    at : (f : ℕ) → (f ≡ 0 → ⊥) → d ≡ 2 ^ f → integer_text n (denominator_text f) ≡ signed_decimal n ++ (47 ∷ decimal d)
    at zero z p = absurd (z refl)
    at (suc f) z p = integer-decimal n (47 ∷ digits (2 ^ suc f) []) k ∙ ap (λ s. signed_decimal n ++ (47 ∷ s)) (ap (λ x. digits x []) (sym p) ∙ digits-are d q)

-- integers of 128 bits have short texts
pub short : (n : ℤ) → SFits w128 n → unsigned_abs n < 10 ^ 64
short (pos n) f = omega (arith, ints, f.sfits)
short (negsuc n) f = omega (arith, ints, f.sfits)

pub whole-written : (u m n : ℤ) (d e : ℕ) (old new : List ℕ) → IsLowest u m d → IsLowest u n e → SFits w128 m → e ≡ 0 → old ≡ [] → new ≡ old ++ signed_decimal (to_z w128 (of_z w128 m)) → new ≡ tree_text (number_tree u)
whole-written u m n d e old new a b f z o p = p ∙ ap₂ ◌++◌ o (ap signed_decimal (to_z-of_z w128 m f)) ∙ whole-text u m e (lowest-both u m n d e a b) (short m f) z

shifted : (e : ℕ) → e ≤ 60 → (1 * 2 ^ e) % 2 ^ 64 ≡ 2 ^ e
shifted e l = let small : 2 ^ e < 2 ^ 64 = pow_below e 64 (omega (arith, l)) in omega (arith, small)

pub part-written : (u m n : ℤ) (d e : ℕ) (old new : List ℕ) → IsLowest u m d → IsLowest u n e → SFits w128 m → (e ≡ 0 → ⊥) → e ≤ 60 → old ≡ [] → new ≡ old ++ (signed_decimal (to_z w128 (of_z w128 m)) ++ (47 ∷ decimal ((1 * 2 ^ e) % 2 ^ 64))) → new ≡ tree_text (number_tree u)
part-written u m n d e old new a b f z l o p = p ∙ ap₂ ◌++◌ o (ap₂ (λ s k. s ++ (47 ∷ decimal k)) (ap signed_decimal (to_z-of_z w128 m f)) (shifted e l)) ∙ part-text u m e (2 ^ e) (lowest-both u m n d e a b) (short m f) z refl (let small : 2 ^ e < 2 ^ 64 = pow_below e 64 (omega (arith, l)) in omega (arith, small))
