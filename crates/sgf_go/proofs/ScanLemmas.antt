-- A komi is read one byte after the other.
use Rattle.std.proofs.Common.{ℕ, ◌+◌, ◌-◌, ◌*◌, ◌<◌, ◌≤◌, ◌≡◌, ◌≢◌, List, ◌∷◌, length, drop, get_or, arith, ◌∙◌, ap, ap₂, Bool, true, false, ◌==◌, Some, None, if◌then◌else◌}
use Rattle.std.specs.Prelude.{Option, nat_le}
use Rattle.std.specs.Option.{option_map}
use Rattle.std.specs.Char.{is_ascii_digit, digit_value}
use Rattle.std.proofs.lemmas.List.{drop_more, drop_all}
use Rattle.sgf_go.specs.Komi.{digit_0}
use Rattle.std.specs.Float.Numeral.{dot}
use Rattle.sgf_go.specs.declared.komi.TheConstants.{MOST_KOMI}
use Rattle.sgf_go.specs.inner.Scan.{all_zeros, fraction, scan}

pub zeros_first : (bs : List ℕ) (at : ℕ) → at < length bs → get_or bs at 0 ≡ 48 → all_zeros (drop at bs) ≡ all_zeros (drop (at + 1) bs)
unfolding all_zeros
zeros_first bs at h e = ap all_zeros (drop_more bs at 0 h ∙ ap (λ x. x ∷ drop (at + 1) bs) e)

pub zeros_not : (bs : List ℕ) (at : ℕ) → at < length bs → get_or bs at 0 ≢ 48 → all_zeros (drop at bs) ≡ false
unfolding all_zeros
zeros_not bs at h e =
    let other : (get_or bs at 0 == digit_0) ≡ false = grind (arith, e) in
    ap all_zeros (drop_more bs at 0 h) ∙ ap (λ c. if c then all_zeros (drop (at + 1) bs) else false) other

pub zeros_end : (bs : List ℕ) (at : ℕ) → length bs ≤ at → all_zeros (drop at bs) ≡ true
unfolding all_zeros
zeros_end bs at h = ap all_zeros (drop_all at bs h)

pub digit_at : (b : ℕ) → is_ascii_digit b ≡ true → digit_value b ≡ b - 48
digit_at b e = grind (arith, e)

-- what stands at a place of the text, by what it is
abbrev Next : List ℕ → ℕ → ℕ → Bool → Bool → Bool → Bool → Option ℕ
Next text at n some digit small point = if digit then (if small then scan (n * 10 + digit_value (get_or text at 0)) true (drop (at + 1) text) else None) else (if point then option_map (λ more. 2 * n + more) (fraction some (drop (at + 1) text)) else None)

scan_at : (text : List ℕ) (at n : ℕ) (some : Bool) → at < length text
    → scan n some (drop at text) ≡ Next text at n some (is_ascii_digit (get_or text at 0)) (nat_le (n * 10 + digit_value (get_or text at 0)) MOST_KOMI) (get_or text at 0 == dot)
unfolding scan
scan_at text at n some h = ap (scan n some) (drop_more text at 0 h)

pub scan_digit : (text : List ℕ) (at n m : ℕ) (some : Bool) → at < length text → is_ascii_digit (get_or text at 0) ≡ true → m ≡ 10 * n + (get_or text at 0 - 48) → m ≤ MOST_KOMI
    → scan n some (drop at text) ≡ scan m true (drop (at + 1) text)
scan_digit text at n m some h d e l =
    let same : n * 10 + digit_value (get_or text at 0) ≡ m = omega (arith, e, digit_at (get_or text at 0) d) in
    let small : nat_le (n * 10 + digit_value (get_or text at 0)) MOST_KOMI ≡ true = grind (arith, l, same) in
    scan_at text at n some h ∙ ap₂ (λ x y. Next text at n some x y (get_or text at 0 == dot)) d small ∙ ap (λ x. scan x true (drop (at + 1) text)) same

pub scan_large : (text : List ℕ) (at n m : ℕ) (some : Bool) → at < length text → is_ascii_digit (get_or text at 0) ≡ true → m ≡ 10 * n + (get_or text at 0 - 48) → MOST_KOMI < m
    → scan n some (drop at text) ≡ None
scan_large text at n m some h d e l =
    let same : n * 10 + digit_value (get_or text at 0) ≡ m = omega (arith, e, digit_at (get_or text at 0) d) in
    let large : nat_le (n * 10 + digit_value (get_or text at 0)) MOST_KOMI ≡ false = grind (arith, l, same) in
    scan_at text at n some h ∙ ap₂ (λ x y. Next text at n some x y (get_or text at 0 == dot)) d large

pub scan_dot : (text : List ℕ) (at n : ℕ) (some : Bool) → at < length text → get_or text at 0 ≡ 46
    → scan n some (drop at text) ≡ option_map (λ more. 2 * n + more) (fraction some (drop (at + 1) text))
unfolding scan
scan_dot text at n some h e = ap (scan n some) (drop_more text at 0 h ∙ ap (λ x. x ∷ drop (at + 1) text) e)

pub scan_bad : (text : List ℕ) (at n : ℕ) (some : Bool) → at < length text → is_ascii_digit (get_or text at 0) ≡ false → get_or text at 0 ≢ 46
    → scan n some (drop at text) ≡ None
scan_bad text at n some h d e =
    let other : (get_or text at 0 == dot) ≡ false = grind (arith, e) in
    scan_at text at n some h ∙ ap₂ (λ x y. Next text at n some x (nat_le (n * 10 + digit_value (get_or text at 0)) MOST_KOMI) y) d other

pub scan_end : (text : List ℕ) (at n : ℕ) (some : Bool) → length text ≤ at → scan n some (drop at text) ≡ (if some then Some (2 * n) else None)
unfolding scan
scan_end text at n some h = ap (scan n some) (drop_all at text h)
