-- Words that are parted by blanks.
use Rattle.std.proofs.Common.{◌≡◌, ◌≢◌, ◌<◌, ◌≤◌, ◌+◌, ℕ, List, [], ◌∷◌, ◌++◌, length, take, drop, map, arith, ◌-◌, get_or, inl, inr, sym, ap, ◌∙◌, subst, append-nil}
use Rattle.std.specs.List.{All}
use Rattle.std.proofs.lemmas.List.{take_more, take-append-drop, length-take-le, drop_more, drop_all, take_rest}
use Rattle.std.proofs.lemmas.Bool.{cases_lt}
use Rattle.std.proofs.lemmas.List.Elements.{All-push}
use Rattle.gtp_words.specs.Words.{AreBlanks, AreWords, IsApart, IsFirstWord}

-- one more of which the same holds
one_more : (P : ℕ → Type 0) (text : List ℕ) (at : ℕ) → at < length text → All P (take at text) → P (get_or text at 0) → All P (take (at + 1) text)
one_more P text at lt all here = subst (All P) (sym (take_more text at 0 lt)) (All-push P (take at text) (get_or text at 0) all here)

pub one_blank : (text : List ℕ) (at : ℕ) → at < length text → AreBlanks (take at text) → get_or text at 0 ≡ 32 → AreBlanks (take (at + 1) text)
one_blank text at lt all here = one_more (λ b. b ≡ 32) text at lt all here

pub one_letter : (text : List ℕ) (at : ℕ) → at < length text → All (λ b. b ≢ 32) (take at text) → get_or text at 0 ≢ 32 → All (λ b. b ≢ 32) (take (at + 1) text)
one_letter text at lt all here = one_more (λ b. b ≢ 32) text at lt all here

apart_at : (begun : List ℕ) (e : ℕ) → (e < length begun → get_or begun e 0 ≡ 32) → IsApart (drop e begun)
apart_at begun e next = elim (cases_lt e (length begun)) [
  | inl lt ↦ subst IsApart (sym (drop_more begun e 0 lt)) (next lt)
  | inr past ↦ subst IsApart (sym (drop_all e begun past)) tt
]

some_word : (begun : List ℕ) (e : ℕ) → e ≤ length begun → e ≢ 0 → take e begun ≢ []
some_word begun e within some none = some (sym (length-take-le e begun within) ∙ ap length none)

-- the first word begins behind the blanks
pub first_is : (text begun rest : List ℕ) (f e : ℕ) → begun ≡ drop f text → rest ≡ drop e begun → AreBlanks (take f text) → e ≤ length begun → e ≢ 0
    → All (λ b. b ≢ 32) (take e begun) → (e < length begun → get_or begun e 0 ≡ 32) → IsFirstWord text (take e begun) rest
first_is text begun rest f e is left blanks within some letters next = (
  take f text,
  sym (take-append-drop f text) ∙ ap (λ l. take f text ++ l) (sym is ∙ sym (take-append-drop e begun) ∙ ap (λ l. take e begun ++ l) (sym left)),
  blanks,
  (some_word begun e within some, letters),
  subst IsApart (sym left) (apart_at begun e next),
)

-- the words so far, and those of what is left
abbrev pub AreSplit : List ℕ → List (List ℕ) → List ℕ → Type 0
AreSplit text words left = (more : List (List ℕ)) → AreWords left more → AreWords text (words ++ more)

pub split_all : (text left : List ℕ) (words : List (List ℕ)) → AreSplit text words left → AreBlanks left → AreWords text words
split_all text left words split blanks = subst (AreWords text) (append-nil words) (split [] blanks)

-- the first of a list, and the others
pub first_of : {A B : Type 0} (f : A → B) (xs : List A) (d : A) → 1 ≤ length xs → map f xs ≡ f (get_or xs 0 d) ∷ map f (take (length xs - 1) (drop 1 xs))
first_of f xs d some = ap (map f) (drop_more xs 0 d (omega (arith, some))) ∙ ap (λ l. f (get_or xs 0 d) ∷ map f l) (sym (take_rest xs 1))
