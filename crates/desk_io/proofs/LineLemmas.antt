-- Bytes begin with one line.
use Rattle.std.proofs.Common.{◌≡◌, ◌≢◌, ℕ, zero, suc, ◌<◌, false, List, [], ◌∷◌, ◌++◌, length, inl, inr, refl, sym, ap, ◌∙◌, arith, if◌then◌else◌, ◌==◌}
use Rattle.std.specs.List.{All}
use Rattle.std.proofs.lemmas.Bool.{ne_eqb}
use Rattle.desk_io.specs.Lines.{IsLine}

record Parted : Type 0 where
  line : List ℕ
  rest : List ℕ

longer : ℕ → Parted → Parted
longer b c = record { line = b ∷ c.line; rest = c.rest }

-- the line and what comes after it, byte by byte
parted : ℕ → List ℕ → Parted
parted zero bytes = record { line = []; rest = bytes }
parted (suc n) [] = record { line = []; rest = [] }
parted (suc n) (b ∷ bytes) = if b == 10 then record { line = []; rest = bytes } else longer b (parted n bytes)

Plain : List ℕ → Type 0
Plain line = All (λ b. b ≢ 10) line

plain_tail : (b : ℕ) (line : List ℕ) → Plain (b ∷ line) → Plain line
unfolding Plain
plain_tail b line plain k d lt = plain (suc k) d (omega (arith, lt))

plain_head : (b : ℕ) (line : List ℕ) → Plain (b ∷ line) → (b == 10) ≡ false
unfolding Plain
plain_head b line plain = ne_eqb b 10 (plain 0 0 (omega arith))

parted_on : (n b : ℕ) (more : List ℕ) → (b == 10) ≡ false → parted (suc n) (b ∷ more) ≡ longer b (parted n more)
unfolding parted
parted_on n b more e = ap (λ t. if t then record { line = []; rest = more } else longer b (parted n more)) e

parted_feed : (n : ℕ) (line rest : List ℕ) → Plain line → length line < n → parted n (line ++ 10 ∷ rest) ≡ record { line = line; rest = rest }
unfolding parted longer
parted_feed zero line rest plain lt = absurd (omega (arith, lt))
parted_feed (suc n) [] rest plain lt = refl
parted_feed (suc n) (b ∷ line) rest plain lt = parted_on n b (line ++ 10 ∷ rest) (plain_head b line plain) ∙ ap (longer b) (parted_feed n line rest (plain_tail b line plain) (omega (arith, lt)))

parted_full : (n : ℕ) (line rest : List ℕ) → Plain line → length line ≡ n → parted n (line ++ rest) ≡ record { line = line; rest = rest }
unfolding parted longer
parted_full zero [] rest plain e = refl
parted_full zero (b ∷ line) rest plain e = absurd (omega (arith, e))
parted_full (suc n) [] rest plain e = absurd (omega (arith, e))
parted_full (suc n) (b ∷ line) rest plain e = parted_on n b (line ++ rest) (plain_head b line plain) ∙ ap (longer b) (parted_full n line rest (plain_tail b line plain) (omega (arith, e)))

parted_last : (n : ℕ) (line : List ℕ) → Plain line → length line < n → parted n line ≡ record { line = line; rest = [] }
unfolding parted longer
parted_last zero line plain lt = absurd (omega (arith, lt))
parted_last (suc n) [] plain lt = refl
parted_last (suc n) (b ∷ line) plain lt = parted_on n b line (plain_head b line plain) ∙ ap (longer b) (parted_last n line (plain_tail b line plain) (omega (arith, lt)))

line_parts : (most : ℕ) (bytes line rest : List ℕ) → IsLine most bytes line rest → parted most bytes ≡ record { line = line; rest = rest }
unfolding Plain
line_parts most bytes line rest l = elim l.cut [
  | inl feed ↦ ap (parted most) feed.1 ∙ parted_feed most line rest l.plain feed.0
  | inr more ↦ elim more [
    | inl full ↦ ap (parted most) full.1 ∙ parted_full most line rest l.plain full.0
    | inr last ↦ ap (parted most) last.1 ∙ parted_last most line l.plain last.0 ∙ ap (λ r. record { line = line; rest = r }) (sym last.2)
  ]
]

pub one_line : (most : ℕ) (bytes l m r q : List ℕ) → IsLine most bytes l r → IsLine most bytes m q → (l ≡ m) × (r ≡ q)
one_line most bytes l m r q a b = let e = sym (line_parts most bytes l r a) ∙ line_parts most bytes m q b in (ap (λ c. c.line) e, ap (λ c. c.rest) e)
