-- The longest run of bytes of numbers in front of bytes.
use Rattle.std.proofs.Common.{ℕ, ◌<◌, ◌≡◌, List, [], ◌∷◌, ◌++◌, length, arith, refl, sym, ◌∙◌, ap₂, subst}
use Rattle.short_games.proofs.TextLaws.{head-is, tail-is, IsMore}
use Rattle.game_text.specs.Reading.{IsNumberByte, AreNumberBytes, EndsNumber, IsNumberRun, IsDigitByte, AreDigitBytes, EndsDigits, IsDigitRun}

-- there is one longest run
runs : (a b s t : List ℕ) → AreNumberBytes a → AreNumberBytes b → EndsNumber s → EndsNumber t → a ++ s ≡ b ++ t → (a ≡ b) × (s ≡ t)
runs [] [] s t p q u v e = (refl, e)
runs [] (y ∷ b) [] t p q u v e = absurd (subst IsMore (sym e) tt)
runs [] (y ∷ b) (x ∷ s) t p q u v e = absurd (u (subst IsNumberByte (sym (head-is e)) q.0))
runs (x ∷ a) [] s [] p q u v e = absurd (subst IsMore e tt)
runs (x ∷ a) [] s (y ∷ t) p q u v e = absurd (v (subst IsNumberByte (head-is e) p.0))
runs (x ∷ a) (y ∷ b) s t p q u v e = let r = runs a b s t p.1 q.1 u v (tail-is e) in (ap₂ ◌∷◌ (head-is e) r.0, r.1)

pub one-run : (bytes a b s t : List ℕ) → IsNumberRun bytes a s → IsNumberRun bytes b t → (a ≡ b) × (s ≡ t)
one-run bytes a b s t p q = runs a b s t p.number_bytes q.number_bytes p.longest q.longest (sym p.is ∙ q.is)

-- a run begins with a byte of numbers
first_of-run : (run : List ℕ) (x : ℕ) (xs rest : List ℕ) → AreNumberBytes run → 0 < length run → x ∷ xs ≡ run ++ rest → IsNumberByte x
first_of-run [] x xs rest d l e = absurd (omega (arith, l))
first_of-run (y ∷ ys) x xs rest d l e = subst IsNumberByte (sym (head-is e)) d.0

pub run-first : (x : ℕ) (xs run rest : List ℕ) → IsNumberRun (x ∷ xs) run rest → IsNumberByte x
run-first x xs run rest r = first_of-run run x xs rest r.number_bytes r.some r.is

pub run-some : (run rest : List ℕ) → 0 < length run → [] ≡ run ++ rest → ⊥
run-some [] rest l e = omega (arith, l)
run-some (y ∷ ys) rest l e = subst IsMore (sym e) tt

-- there is one longest run of digits
digit-runs : (a b s t : List ℕ) → AreDigitBytes a → AreDigitBytes b → EndsDigits s → EndsDigits t → a ++ s ≡ b ++ t → (a ≡ b) × (s ≡ t)
digit-runs [] [] s t p q u v e = (refl, e)
digit-runs [] (y ∷ b) [] t p q u v e = absurd (subst IsMore (sym e) tt)
digit-runs [] (y ∷ b) (x ∷ s) t p q u v e = absurd (u (subst IsDigitByte (sym (head-is e)) q.0))
digit-runs (x ∷ a) [] s [] p q u v e = absurd (subst IsMore e tt)
digit-runs (x ∷ a) [] s (y ∷ t) p q u v e = absurd (v (subst IsDigitByte (head-is e) p.0))
digit-runs (x ∷ a) (y ∷ b) s t p q u v e = let r = digit-runs a b s t p.1 q.1 u v (tail-is e) in (ap₂ ◌∷◌ (head-is e) r.0, r.1)

pub one-digits : (bytes a b s t : List ℕ) → IsDigitRun bytes a s → IsDigitRun bytes b t → (a ≡ b) × (s ≡ t)
one-digits bytes a b s t p q = digit-runs a b s t p.digit_bytes q.digit_bytes p.longest q.longest (sym p.is ∙ q.is)

pub more-length : (t : List ℕ) → IsMore t → 0 < length t
more-length [] m = absurd m
more-length (x ∷ xs) m = omega arith
