-- A line has one list of words and one id, and a word is that of one colour or point.
use Rattle.std.proofs.Common.{◌≡◌, ◌≢◌, ℕ, suc, ◌+◌, ◌<◌, ◌≤◌, List, [], ◌∷◌, ◌++◌, get_or, inl, inr, refl, sym, ap, ◌∙◌, subst, arith, if◌then◌else◌}
use Rattle.std.specs.Char.{to_ascii_lowercase}
use Rattle.std.specs.Fmt.{decimal}
use Rattle.std.specs.List.{All}
use Rattle.std.proofs.lemmas.Bool.{cases_lt, le-ltb, lt-ltb}
use Rattle.std.proofs.lemmas.Fmt.{decimal_injective}
use Rattle.go_grid.specs.declared.grid.Colour.{Colour}
use Rattle.go_grid.specs.declared.grid.Colour.TheVariants.{Black, White}
use Rattle.gtp_words.specs.declared.vertices.Vertex.{Vertex}
use Rattle.gtp_words.specs.Vertices.{IsColour, IsVertex, column_letter}
use Rattle.gtp_words.specs.Words.{AreBlanks, AreWords, HasId, IsApart, IsWord, lowered}

-- what follows the first byte
blanks_on : (b : ℕ) (bytes : List ℕ) → AreBlanks (b ∷ bytes) → AreBlanks bytes
blanks_on b bytes all k d lt = all (suc k) d (omega (arith, lt))

letters_on : (b : ℕ) (bytes : List ℕ) → All (λ b. b ≢ 32) (b ∷ bytes) → All (λ b. b ≢ 32) bytes
letters_on b bytes all k d lt = all (suc k) d (omega (arith, lt))

-- a word without blanks that ends at a blank, or where nothing is left
one_front : (word other rest left : List ℕ) → word ++ rest ≡ other ++ left → All (λ b. b ≢ 32) word → All (λ b. b ≢ 32) other → IsApart rest → IsApart left
    → (word ≡ other) × (rest ≡ left)
one_front [] [] rest left e w o r l = (refl, e)
one_front [] (c ∷ other) [] left e w o r l = cc
one_front [] (c ∷ other) (b ∷ rest) left e w o r l = let same : b ≡ c = cc in absurd (o 0 0 (omega arith) (sym same ∙ r))
one_front (b ∷ word) [] rest [] e w o r l = cc
one_front (b ∷ word) [] rest (c ∷ left) e w o r l = let same : b ≡ c = cc in absurd (w 0 0 (omega arith) (same ∙ l))
one_front (b ∷ word) (c ∷ other) rest left e w o r l =
    let head : b ≡ c = cc in
    let more : word ++ rest ≡ other ++ left = cc in
    let (same, behind) = one_front word other rest left more (letters_on b word w) (letters_on c other o) r l in
    ((λ i. head i ∷ same i), behind)

one_first : (blanks others word other rest left : List ℕ) → blanks ++ (word ++ rest) ≡ others ++ (other ++ left) → AreBlanks blanks → AreBlanks others
    → IsWord word → IsWord other → IsApart rest → IsApart left → (word ≡ other) × (rest ≡ left)
one_first [] [] word other rest left e b o w v r l = one_front word other rest left e w.1 v.1 r l
one_first [] (c ∷ others) [] other rest left e b o w v r l = absurd (w.0 refl)
one_first [] (c ∷ others) (a ∷ word) other rest left e b o w v r l = let same : a ≡ c = cc in absurd (w.1 0 0 (omega arith) (same ∙ o 0 0 (omega arith)))
one_first (a ∷ blanks) [] word [] rest left e b o w v r l = absurd (v.0 refl)
one_first (a ∷ blanks) [] word (c ∷ other) rest left e b o w v r l = let same : a ≡ c = cc in absurd (v.1 0 0 (omega arith) (sym same ∙ b 0 0 (omega arith)))
one_first (a ∷ blanks) (c ∷ others) word other rest left e b o w v r l =
    let more : blanks ++ (word ++ rest) ≡ others ++ (other ++ left) = cc in
    one_first blanks others word other rest left more (blanks_on a blanks b) (blanks_on c others o) w v r l

-- blanks have no word
no_word : (blanks word rest : List ℕ) → AreBlanks (blanks ++ (word ++ rest)) → IsWord word → ⊥
no_word [] [] rest all w = w.0 refl
no_word [] (b ∷ word) rest all w = w.1 0 0 (omega arith) (all 0 0 (omega arith))
no_word (b ∷ blanks) word rest all w = no_word blanks word rest (blanks_on b (blanks ++ (word ++ rest)) all) w

pub one_words : (text : List ℕ) (words others : List (List ℕ)) → AreWords text words → AreWords text others → words ≡ others
one_words text [] [] a b = refl
one_words text [] (word ∷ others) a (rest, (blanks, is, are, w, apart), more) = absurd (no_word blanks word rest (subst AreBlanks is a) w)
one_words text (word ∷ words) [] (rest, (blanks, is, are, w, apart), more) b = absurd (no_word blanks word rest (subst AreBlanks is b) w)
one_words text (word ∷ words) (other ∷ others) (rest, (blanks, is, are, w, apart), more) (left, (gaps, also, too, v, parted), further) =
    let (same, behind) = one_first blanks gaps word other rest left (sym is ∙ also) are too w v apart parted in
    let all = one_words left words others (subst (λ t. AreWords t words) behind more) further in
    λ i. same i ∷ all i

pub one_id : (words : List (List ℕ)) (id other : List ℕ) (rest left : List (List ℕ)) → HasId words id rest → HasId words other left → (id ≡ other) × (rest ≡ left)
one_id words id other rest left (inl (is, n)) (inl (also, m)) = let e = sym is ∙ also in (cc, cc)
one_id words id other rest left (inl (is, n)) (inr (none, all, not)) = absurd (not id rest is n)
one_id words id other rest left (inr (none, all, not)) (inl (is, n)) = absurd (not other left is n)
one_id words id other rest left (inr (none, all, not)) (inr (nor, also, neither)) = (none ∙ sym nor, all ∙ sym also)

-- the first letter of a colour's word
first_letter : Colour → ℕ
first_letter Black = 98
first_letter White = 119

colour_letter : (word : List ℕ) (c : Colour) → IsColour word c → get_or (lowered word) 0 0 ≡ first_letter c
unfolding first_letter
colour_letter word Black (inl e) = ap (λ l. get_or l 0 0) e
colour_letter word Black (inr e) = ap (λ l. get_or l 0 0) e
colour_letter word White (inl e) = ap (λ l. get_or l 0 0) e
colour_letter word White (inr e) = ap (λ l. get_or l 0 0) e

pub one_colour : (word : List ℕ) (c d : Colour) → IsColour word c → IsColour word d → c ≡ d
unfolding first_letter
one_colour word Black Black a b = refl
one_colour word White White a b = refl
one_colour word Black White a b = absurd (omega (arith, colour_letter word Black a, colour_letter word White b))
one_colour word White Black a b = absurd (omega (arith, colour_letter word White a, colour_letter word Black b))

-- the letter of a column tells it
near_letter : (k : ℕ) → k < 8 → column_letter k ≡ 97 + k
near_letter k lt = ap (λ b. if b then 97 + k else 98 + k) (lt-ltb k 8 lt)

far_letter : (k : ℕ) → 8 ≤ k → column_letter k ≡ 98 + k
far_letter k ge = ap (λ b. if b then 97 + k else 98 + k) (le-ltb k 8 ge)

one_column : (j k : ℕ) → column_letter j ≡ column_letter k → j ≡ k
one_column j k e = elim (cases_lt j 8) as (λ _. j ≡ k) [
  | inl near ↦ elim (cases_lt k 8) as (λ _. j ≡ k) [
    | inl too ↦ omega (arith, sym (near_letter j near) ∙ e ∙ near_letter k too)
    | inr far ↦ absurd (omega (arith, near, far, sym (near_letter j near) ∙ e ∙ far_letter k far))
  ]
  | inr far ↦ elim (cases_lt k 8) as (λ _. j ≡ k) [
    | inl near ↦ absurd (omega (arith, near, far, sym (far_letter j far) ∙ e ∙ near_letter k near))
    | inr too ↦ omega (arith, sym (far_letter j far) ∙ e ∙ far_letter k too)
  ]
]

pub one_vertex : (word : List ℕ) (v u : Vertex) → IsVertex word v → IsVertex word u → v ≡ u
one_vertex word v u a b =
    let e = sym a.spelt ∙ b.spelt in
    let letter : a.letter ≡ b.letter = cc in
    let row : decimal v.row ≡ decimal u.row = cc in
    let columns = one_column v.column u.column (sym a.either_case ∙ ap to_ascii_lowercase letter ∙ b.either_case) in
    let rows = decimal_injective v.row u.row (omega (arith, a.few_rows)) (omega (arith, b.few_rows)) row in
    λ i. record { column = columns i; row = rows i }
