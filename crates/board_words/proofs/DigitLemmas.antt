-- Numbers in decimal digits.
use Rattle.std.proofs.Common.{◌≡◌, ◌≢◌, ◌≤◌, ◌<◌, ◌^◌, ℕ, List, [], ◌∷◌, ◌&&◌, length, get_or, true, inl, inr, refl, sym, ap, ◌∙◌, subst, arith, Ok}
use Rattle.std.specs.Prelude.{Result}
use Rattle.std.specs.Char.{is_ascii_digit}
use Rattle.std.specs.Fmt.{decimal}
use Rattle.std.specs.List.{list_all}
use Rattle.std.specs.Str.{all_ascii_digits, IsUtf8}
use Rattle.std.specs.Str.Parse.{digits_value, ParsesUnsigned}
use Rattle.std.proofs.lemmas.Bool.{cases_lt}
use Rattle.std.proofs.lemmas.List.{get_or_past}
use Rattle.std.proofs.lemmas.List.Sums.{AllPass-from_list_all}
use Rattle.std.proofs.lemmas.Fmt.{digits_decimal, digits_value-decimal, first_decimal, length-decimal-le, decimal_nonempty, decimal-digits_value}
use Rattle.std.proofs.lemmas.Str.{IsUtf8-from_ascii}
use Rattle.std.proofs.lemmas.Str.Parse.{IsNumeralModel, numerals_by_value, tells_all_ascii_digits, parse_gives, digits_value_short}
use Rattle.board_words.specs.Numbers.{IsNumberWord, IsNumeral}

same_test : (bs : List ℕ) → list_all is_ascii_digit bs ≡ all_ascii_digits bs
same_test [] = refl
same_test (b ∷ bs) = ap (λ x. is_ascii_digit b && x) (same_test bs)

own : IsNumeralModel (λ ds. all_ascii_digits ds ≡ true) (digits_value 10)
own = numerals_by_value _ tells_all_ascii_digits

pub parsed : {E : Type 0} (word : List ℕ) (r : Result ℕ E) → ParsesUnsigned 64 10 word r → list_all is_ascii_digit word ≡ true → 1 ≤ length word → length word ≤ 10 → r ≡ Ok (digits_value 10 word)
parsed word r h digits some few =
    let test : all_ascii_digits word ≡ true = rw (← same_test word) digits in
    let small : digits_value 10 word < 10 ^ 10 = digits_value_short own word 10 test few in
    parse_gives own 64 word r h test (omega (arith, some)) (omega (arith, small))

small_value : (word : List ℕ) → IsNumeral word → digits_value 10 word < 10 ^ 10
small_value word n = digits_value_short own word 10 (rw (← same_test word) n.digits) n.few

-- digits without a leading zero are the decimal text of their number
digits_are : (word : List ℕ) → IsNumeral word → get_or word 0 0 ≢ 48 → decimal (digits_value 10 word) ≡ word
digits_are word n lead =
    let small : digits_value 10 word < 10 ^ 10 = small_value word n in
    decimal-digits_value own word (rw (← same_test word) n.digits) (omega (arith, n.some)) (λ e. absurd (lead e)) (omega (arith, small))

-- a number without a leading zero is its decimal text
pub row_is : (word : List ℕ) (n : ℕ) → IsNumberWord word n → get_or word 0 0 ≢ 48 → word ≡ decimal n
row_is word n h lead = sym (ap decimal h.1 ∙ digits_are word h.0 lead)

-- the decimal text of a small number is a number, and has no leading zero
pub row_read : (word : List ℕ) (row : ℕ) → 1 ≤ row → row ≤ 25 → word ≡ decimal row → IsNumberWord word row × (get_or word 0 0 ≢ 48)
row_read word row some few e =
    let numeral : IsNumeral (decimal row) = record {
      some = omega (arith, decimal_nonempty row (omega (arith, few)));
      few = omega (arith, length-decimal-le 2 row (omega arith) (omega (arith, few)) (omega (arith, few)));
      digits = rw (same_test (decimal row)) (digits_decimal own row (omega (arith, few)));
    } in
    let value = digits_value-decimal own row (omega (arith, few)) in
    let lead : 48 < get_or (decimal row) 0 0 = first_decimal row (omega (arith, some)) (omega (arith, few)) in
    subst (λ w. IsNumberWord w row × (get_or w 0 0 ≢ 48)) (sym e) ((numeral, sym value), λ z. absurd (omega (arith, lead, z)))

small_byte : (b : ℕ) → is_ascii_digit b ≡ true → b < 128
small_byte b e = grind (arith, e)

-- digits are a text
pub not_text : (word : List ℕ) (n : ℕ) → ¬ IsUtf8 word → IsNumberWord word n → ⊥
not_text word n none h = none (IsUtf8-from_ascii word (λ i. elim (cases_lt i (length word)) [
  | inl lt ↦ small_byte (get_or word i 0) (AllPass-from_list_all is_ascii_digit word h.0.digits i 0 lt)
  | inr after ↦ omega (arith, get_or_past word i 0 after)
]))
