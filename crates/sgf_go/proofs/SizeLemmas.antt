-- Texts of sizes: what they say, and that nothing else is one.
use Rattle.std.proofs.Common.{ℕ, zero, suc, ◌+◌, ◌-◌, ◌*◌, ◌<◌, ◌≤◌, ◌≡◌, ◌≢◌, ◌⊎◌, inl, inr, List, [], ◌∷◌, ◌++◌, length, drop, take, get_or, arith, refl, sym, ◌∙◌, ap, ap₂, subst, true, false}
use Rattle.std.specs.Char.{is_ascii_digit}
use Rattle.std.specs.Str.Parse.{digits_value}
use Rattle.std.proofs.lemmas.List.{drop_more, take-append-drop}
use Rattle.std.proofs.lemmas.Bool.{cases_lt}
use Rattle.sgf_go.specs.Komi.{AreDigits}
use Rattle.sgf_go.specs.Values.{Extent, IsSide, IsSize, square, sides, colon}
use Rattle.sgf_go.specs.inner.Values.{LacksColon}
use Rattle.sgf_go.proofs.ScanLemmas.{digit_at}

digit_of : (text : List ℕ) (i : ℕ) → AreDigits text → i < length text → is_ascii_digit (get_or text i 0) ≡ true
digit_of [] i a h = absurd (omega (arith, h))
digit_of (b ∷ bs) zero a h = a.0
digit_of (b ∷ bs) (suc i) a h = digit_of bs i a.1 (omega (arith, h))

no_digit : (b : ℕ) → is_ascii_digit b ≡ true → b ≢ colon
no_digit b d e = grind (arith, d, e)

value_one : (text : List ℕ) → length text ≡ 1 → is_ascii_digit (get_or text 0 0) ≡ true → digits_value 10 text ≡ get_or text 0 0 - 48
value_one [] h d = absurd (omega (arith, h))
value_one (a ∷ []) h d = let v = digit_at a d in omega (arith, v)
value_one (a ∷ b ∷ bs) h d = absurd (omega (arith, h))

value_two : (text : List ℕ) → length text ≡ 2 → is_ascii_digit (get_or text 0 0) ≡ true → is_ascii_digit (get_or text 1 0) ≡ true → digits_value 10 text ≡ 10 * (get_or text 0 0 - 48) + (get_or text 1 0 - 48)
value_two [] h d e = absurd (omega (arith, h))
value_two (a ∷ []) h d e = absurd (omega (arith, h))
value_two (a ∷ b ∷ []) h d e = let v = digit_at a d in let w = digit_at b e in omega (arith, v, w)
value_two (a ∷ b ∷ c ∷ cs) h d e = absurd (omega (arith, h))

are_one : (text : List ℕ) → length text ≡ 1 → is_ascii_digit (get_or text 0 0) ≡ true → AreDigits text
are_one [] h d = absurd (omega (arith, h))
are_one (a ∷ []) h d = (d, tt)
are_one (a ∷ b ∷ bs) h d = absurd (omega (arith, h))

are_two : (text : List ℕ) → length text ≡ 2 → is_ascii_digit (get_or text 0 0) ≡ true → is_ascii_digit (get_or text 1 0) ≡ true → AreDigits text
are_two [] h d e = absurd (omega (arith, h))
are_two (a ∷ []) h d e = absurd (omega (arith, h))
are_two (a ∷ b ∷ []) h d e = (d, (e, tt))
are_two (a ∷ b ∷ c ∷ cs) h d e = absurd (omega (arith, h))

pub side_one : (text : List ℕ) (v n : ℕ) → length text ≡ 1 → is_ascii_digit (get_or text 0 0) ≡ true → v ≡ get_or text 0 0 - 48 → n ≡ v → 1 ≤ n → n ≤ 25 → IsSide text n
side_one text v n h d e f l m = record { some = omega (arith, h); few = omega (arith, h); digits = are_one text h d; value = f ∙ e ∙ sym (value_one text h d); least = l; most = m }

pub side_two : (text : List ℕ) (v w n : ℕ) → length text ≡ 2 → is_ascii_digit (get_or text 0 0) ≡ true → is_ascii_digit (get_or text 1 0) ≡ true → v ≡ get_or text 0 0 - 48 → w ≡ get_or text 1 0 - 48 → n ≡ 10 * v + w → 1 ≤ n → n ≤ 25
    → IsSide text n
side_two text v w n h d e x y f l m = record { some = omega (arith, h); few = omega (arith, h); digits = are_two text h d e; value = omega (arith, f, x, y, value_two text h d e); least = l; most = m }

pub not_digit : (text : List ℕ) (i : ℕ) → i < length text → is_ascii_digit (get_or text i 0) ≡ false → (m : ℕ) → ¬ IsSide text m
not_digit text i h d m s = let e : is_ascii_digit (get_or text i 0) ≡ true = digit_of text i s.digits h in cc

pub far_one : (text : List ℕ) (v : ℕ) → length text ≡ 1 → is_ascii_digit (get_or text 0 0) ≡ true → v ≡ get_or text 0 0 - 48 → (v < 1) ⊎ (25 < v) → (m : ℕ) → ¬ IsSide text m
far_one text v h d e (inl l) m s = omega (arith, s.least, s.value, value_one text h d, e, l)
far_one text v h d e (inr l) m s = omega (arith, s.most, s.value, value_one text h d, e, l)

pub far_two : (text : List ℕ) (v w : ℕ) → length text ≡ 2 → is_ascii_digit (get_or text 0 0) ≡ true → is_ascii_digit (get_or text 1 0) ≡ true → v ≡ get_or text 0 0 - 48 → w ≡ get_or text 1 0 - 48 → (10 * v + w < 1) ⊎ (25 < 10 * v + w)
    → (m : ℕ) → ¬ IsSide text m
far_two text v w h d e x y (inl l) m s = omega (arith, s.least, s.value, value_two text h d e, x, y, l)
far_two text v w h d e x y (inr l) m s = omega (arith, s.most, s.value, value_two text h d e, x, y, l)

pub side_lacks : (text : List ℕ) (n : ℕ) → IsSide text n → LacksColon text (length text)
side_lacks text n s k h = no_digit (get_or text k 0) (digit_of text k s.digits h)

pub at_joint : (before behind : List ℕ) → get_or (before ++ (colon ∷ behind)) (length before) 0 ≡ colon
at_joint [] behind = refl
at_joint (b ∷ bs) behind = at_joint bs behind

pub in_front : (before behind : List ℕ) (i : ℕ) → i < length before → get_or (before ++ behind) i 0 ≡ get_or before i 0
in_front [] behind i h = absurd (omega (arith, h))
in_front (b ∷ bs) behind zero h = refl
in_front (b ∷ bs) behind (suc i) h = in_front bs behind i (omega (arith, h))

pub joint_within : (before behind : List ℕ) → length before < length (before ++ (colon ∷ behind))
joint_within [] behind = omega arith
joint_within (b ∷ bs) behind = let h = joint_within bs behind in omega (arith, h)

take_joint : (before behind : List ℕ) → take (length before) (before ++ behind) ≡ before
take_joint [] behind = refl
take_joint (b ∷ bs) behind = ap (λ t. b ∷ t) (take_joint bs behind)

drop_joint : (before behind : List ℕ) → drop (length before + 1) (before ++ (colon ∷ behind)) ≡ behind
drop_joint [] behind = refl
drop_joint (b ∷ bs) behind = let e : suc (length bs) + 1 ≡ suc (length bs + 1) = omega arith in ap (λ n. drop n (b ∷ (bs ++ (colon ∷ behind)))) e ∙ drop_joint bs behind

-- a text without a `:` says what its one number says
pub square_only : (text : List ℕ) (e : Extent) → LacksColon text (length text) → IsSize text e → IsSide text e.columns × (e.rows ≡ e.columns)
square_only text _ l (square n s) = (s, refl)
square_only text _ l (sides before behind c r e s t) = absurd (l (length before) (subst (λ x. length before < length x) (sym e) (joint_within before behind)) (ap (λ x. get_or x (length before) 0) e ∙ at_joint before behind))

-- a text with a `:` says what the numbers before and behind the first one say
pub record AreSides (text : List ℕ) (at : ℕ) (e : Extent) : Type 0 where
  pub columns : IsSide (take at text) e.columns
  pub rows : IsSide (drop (at + 1) text) e.rows

pub sides_only : (text : List ℕ) (at : ℕ) (e : Extent) → at < length text → get_or text at 0 ≡ colon → LacksColon text at → IsSize text e → AreSides text at e
sides_only text at _ h c l (square n s) = absurd (side_lacks text n s at h c)
sides_only text at _ h c l (sides before behind m n e s t) =
    let same : at ≡ length before = elim (cases_lt at (length before)) [
      | inl k ↦ absurd (side_lacks before m s at k (sym (in_front before (colon ∷ behind) at k) ∙ ap (λ x. get_or x at 0) (sym e) ∙ c))
      | inr k ↦ elim (cases_lt (length before) at) [
        | inl j ↦ absurd (l (length before) j (ap (λ x. get_or x (length before) 0) e ∙ at_joint before behind))
        | inr j ↦ omega (arith, j, k)
      ]
    ] in
    record {
      columns = subst (λ x. IsSide x m) (sym (ap₂ take same e ∙ take_joint before (colon ∷ behind))) s;
      rows = subst (λ x. IsSide x n) (sym (ap₂ (λ i x. drop (i + 1) x) same e ∙ drop_joint before behind)) t;
    }

pub no_rows : (text : List ℕ) (at : ℕ) → at < length text → get_or text at 0 ≡ colon → LacksColon text at → ((n : ℕ) → ¬ IsSide (drop (at + 1) text) n) → (e : Extent) → ¬ IsSize text e
no_rows text at h c l n e s = n e.rows (sides_only text at e h c l s).rows

pub square_at : (text : List ℕ) (n : ℕ) → IsSide text n → IsSize text (record { columns = n; rows = n })
square_at text n s = square n s

pub sides_at : (text : List ℕ) (at m n : ℕ) → at < length text → get_or text at 0 ≡ colon → IsSide (take at text) m → IsSide (drop (at + 1) text) n → IsSize text (record { columns = m; rows = n })
sides_at text at m n h c s t = sides (take at text) (drop (at + 1) text) m n
    (sym (take-append-drop at text) ∙ ap (λ x. take at text ++ x) (drop_more text at 0 h ∙ ap (λ b. b ∷ drop (at + 1) text) c)) s t
