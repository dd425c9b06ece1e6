-- How a komi is read, one byte after the other. Nothing that a caller sees speaks of it.
use Rattle.std.specs.Prelude.{ℕ, ◌+◌, ◌*◌, List, [], ◌∷◌, Bool, true, false, ◌==◌, nat_le, Option, Some, None, if◌then◌else◌, ℤ, pos, neg_ℤ}
use Rattle.std.specs.Option.{option_map}
use Rattle.std.specs.Char.{is_ascii_digit, digit_value}
use Rattle.sgf_go.specs.Komi.{digit_0, digit_5}
use Rattle.std.specs.Float.Numeral.{dot, minus, plus}
use Rattle.sgf_go.specs.declared.komi.TheConstants.{MOST_KOMI}

-- whether each of the bytes is the digit `0`
unfoldable pub all_zeros : List ℕ → Bool
all_zeros [] = true
all_zeros (b ∷ bs) = if b == digit_0 then all_zeros bs else false

-- the halves that the bytes behind the point add, if they fit there; `some` says whether a digit came before the point
abbrev pub fraction : Bool → List ℕ → Option ℕ
fraction some [] = if some then Some 0 else None
fraction some (b ∷ bs) = if all_zeros bs then (if b == digit_0 then Some 0 else (if b == digit_5 then Some 1 else None)) else None

-- how many halves a number is, if it is one, with the bytes left to read behind digits of the value `n`; `some` says whether
-- there was a digit
unfoldable pub scan : ℕ → Bool → List ℕ → Option ℕ
scan n some [] = if some then Some (2 * n) else None
scan n some (b ∷ bs) =
    if is_ascii_digit b then (if nat_le (n * 10 + digit_value b) MOST_KOMI then scan (n * 10 + digit_value b) true bs else None)
    else (if b == dot then option_map (λ more. 2 * n + more) (fraction some bs) else None)

-- how many halves a komi is, if the bytes are one
abbrev pub scan_signed : List ℕ → Option ℤ
scan_signed [] = None
scan_signed (b ∷ bs) =
    if b == plus then option_map (λ n. pos n) (scan 0 false bs)
    else (if b == minus then option_map (λ n. neg_ℤ (pos n)) (scan 0 false bs)
    else option_map (λ n. pos n) (scan 0 false (b ∷ bs)))
