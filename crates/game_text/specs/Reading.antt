-- What a text names, and why it is refused: the grammar, read from the front.
--     game = number | "*" [ digits ] | "^" | "v" | "+" number | "{" options "|" options "}"
--     options = [ game { "," game } ]
use Rattle.std.specs.Prelude.{ℕ, suc, ◌≡◌, ◌+◌, ◌<◌, ◌≤◌, ◌⊎◌, ℤ, pos, neg_ℤ, ◌<ℤ◌, List, [], ◌∷◌, ◌++◌, length, Result, Ok, Err}
use Rattle.std.specs.Float.Numeral.{plus}
use Rattle.dyadic_num.specs.Units.{IsInBounds}
use Rattle.short_games.specs.Tree.{Tree, Trees, node, none, more}
use Rattle.short_games.specs.Text.{open_brace, bar, close_brace, comma}
use Rattle.short_games.specs.TextOrder.{tree_text, IsCanonicalFor}
use Rattle.short_games.specs.Number.{number_tree}
use Rattle.short_games.specs.NumberText.{digits}
use Rattle.short_games.specs.Examples.{choice}
use Rattle.game_text.specs.NamedText.{nimber, up, down}
use Rattle.short_games.specs.Parts.{HasMoreParts}
use Rattle.game_canon.specs.Outcomes.{IsPastBounds, IsCause}
use Rattle.game_canon.specs.declared.errors.FormError.TheVariants.{Parts}
use Rattle.game_text.specs.Depth.{most_open}
use Rattle.game_text.specs.declared.errors.ReadError.{ReadError}
use Rattle.game_text.specs.declared.errors.ReadError.TheVariants as reading

-- the byte is one of those of numbers: `-`, `/` and the digits
abbrev pub IsNumberByte : ℕ → Type 0
IsNumberByte x = (x ≡ 45) ⊎ ((47 ≤ x) × (x < 58))

-- each of the bytes is one of those of numbers
abbrev pub AreNumberBytes : List ℕ → Type 0
AreNumberBytes [] = Unit {0}
AreNumberBytes (x ∷ xs) = IsNumberByte x × AreNumberBytes xs

-- no number goes on with these bytes
abbrev pub EndsNumber : List ℕ → Type 0
EndsNumber [] = Unit {0}
EndsNumber (x ∷ xs) = IsNumberByte x → ⊥

-- the bytes are the longest run of bytes of numbers, of which there is at least one, and the rest
pub record IsNumberRun (bytes run rest : List ℕ) : Type 0 where
  pub is : bytes ≡ run ++ rest
  pub some : 0 < length run
  pub number_bytes : AreNumberBytes run
  pub longest : EndsNumber rest

-- the byte is a digit
abbrev pub IsDigitByte : ℕ → Type 0
IsDigitByte x = (48 ≤ x) × (x < 58)

-- each of the bytes is a digit
abbrev pub AreDigitBytes : List ℕ → Type 0
AreDigitBytes [] = Unit {0}
AreDigitBytes (x ∷ xs) = IsDigitByte x × AreDigitBytes xs

-- no run of digits goes on with these bytes
abbrev pub EndsDigits : List ℕ → Type 0
EndsDigits [] = Unit {0}
EndsDigits (x ∷ xs) = IsDigitByte x → ⊥

-- the bytes are the longest run of digits, which may be empty, and the rest
pub record IsDigitRun (bytes run rest : List ℕ) : Type 0 where
  pub is : bytes ≡ run ++ rest
  pub digit_bytes : AreDigitBytes run
  pub longest : EndsDigits rest

-- the greatest number whose nimber has a name
abbrev pub most_nimber : ℕ
most_nimber = 4294967295

-- the digits of a number from 2 to 4,294,967,295, which behind `*` name its nimber
abbrev pub IsNimberDigits : ℕ → List ℕ → Type 0
IsNimberDigits n run = (2 ≤ n) × (n ≤ most_nimber) × (run ≡ digits n [])

-- the text of the number u, which is within the bounds of a Dyadic
abbrev pub IsNumberText : ℤ → List ℕ → Type 0
IsNumberText u run = IsInBounds u × (run ≡ tree_text (number_tree u))

-- why a text is refused; a place is told by the bytes from it on
pub data Fault : Type 0 where
  bad_byte : List ℕ → Fault
  bad_number : List ℕ → Fault
  cut_short : Fault
  too_deep : Fault
  too_many_parts : Fault
  past_bounds : Fault

-- what reading comes to: what was read and the bytes behind it, or a fault
pub data Outcome (A : Type 0) : Type 0 where
  reads : A → List ℕ → Outcome A
  refused : Fault → Outcome A

-- what reading options comes to, with G in front of those that were read
abbrev pub behind : Tree → Outcome Trees → Outcome Trees
behind G (reads Gs rest) = reads (more G Gs) rest
behind G (refused fault) = refused fault

-- the byte `*`, with which the names of nimbers begin
abbrev pub star_byte : ℕ
star_byte = 42

-- the byte `^`, the name of up
abbrev pub caret : ℕ
caret = 94

-- the byte `v`, the name of down
abbrev pub letter_v : ℕ
letter_v = 118

-- the byte begins a name of a game that is no number; the names of switches begin with `+`
abbrev pub IsNameByte : ℕ → Type 0
IsNameByte x = (x ≡ star_byte) ⊎ ((x ≡ caret) ⊎ ((x ≡ letter_v) ⊎ (x ≡ plus)))

-- what the bytes behind `*` come to: the nimber of 1, or of the number that the digits give
pub data ReadsNimber (bytes : List ℕ) : Outcome Tree → Type 0 where
  of_one : EndsDigits bytes → ReadsNimber bytes (reads (nimber 1) bytes)
  of_number : (run rest : List ℕ) (n : ℕ) → IsDigitRun bytes run rest → IsNimberDigits n run → ReadsNimber bytes (reads (nimber n) rest)
  of_none : (run rest : List ℕ) → IsDigitRun bytes run rest → 0 < length run → ((n : ℕ) → IsNimberDigits n run → ⊥) → ReadsNimber bytes (refused (bad_number bytes))

-- the switch of -u, where u is below 0
abbrev pub switch_below : ℤ → Tree
switch_below u = choice (number_tree (neg_ℤ u)) (number_tree u)

-- what the bytes behind `+` come to: the switch whose Right option is the number there, which is below 0
pub data ReadsSwitch (bytes : List ℕ) : Outcome Tree → Type 0 where
  of_negative : (run rest : List ℕ) (u : ℤ) → IsNumberRun bytes run rest → IsNumberText u run → u <ℤ pos 0 → ReadsSwitch bytes (reads (switch_below u) rest)
  of_other : (run rest : List ℕ) → IsNumberRun bytes run rest → ((u : ℤ) → IsNumberText u run → u <ℤ pos 0 → ⊥) → ReadsSwitch bytes (refused (bad_number bytes))
  no_number : (x : ℕ) (xs : List ℕ) → bytes ≡ x ∷ xs → (IsNumberByte x → ⊥) → ReadsSwitch bytes (refused (bad_byte bytes))
  ends : bytes ≡ [] → ReadsSwitch bytes (refused cut_short)

-- what a name comes to that begins with x, and has these bytes behind it
pub data ReadsName (x : ℕ) (xs : List ℕ) (o : Outcome Tree) : Type 0 where
  a_nimber : x ≡ star_byte → ReadsNimber xs o → ReadsName x xs o
  an_up : x ≡ caret → o ≡ reads up xs → ReadsName x xs o
  a_down : x ≡ letter_v → o ≡ reads down xs → ReadsName x xs o
  a_switch : x ≡ plus → ReadsSwitch xs o → ReadsName x xs o

-- the options of a form: the Left ones end at a bar, the Right ones at a closing brace
pub data Side : Type 0 where
  left_side : Side
  right_side : Side

-- the byte that ends the options of a side: a bar, or a closing brace
abbrev pub mark_of : Side → ℕ
mark_of left_side = bar
mark_of right_side = close_brace

-- the bytes don't begin with the mark
abbrev pub BeginsOtherwise : ℕ → List ℕ → Type 0
BeginsOtherwise mark [] = Unit {0}
BeginsOtherwise mark (x ∷ xs) = x ≡ mark → ⊥

module _ (limit : ℕ) where
  -- a name or a form was read to its end: its canonical tree has at most so many parts, or more of them, or it is a number past the bounds
  pub data IsClosed (G : Tree) (rest : List ℕ) : Outcome Tree → Type 0 where
    taken : (IsPastBounds G → ⊥) → ((C : Tree) → IsCanonicalFor G C → HasMoreParts C limit → ⊥) → IsClosed G rest (reads G rest)
    with_many_parts : IsCause G limit Parts → IsClosed G rest (refused too_many_parts)
    far : IsPastBounds G → IsClosed G rest (refused past_bounds)

  mutual
    -- what reading a game from the front of the bytes comes to, where n braces are open
    pub data ReadsGame : ℕ → List ℕ → Outcome Tree → Type 0 where
      number : (n : ℕ) (bytes run rest : List ℕ) (u : ℤ) → IsNumberRun bytes run rest → IsNumberText u run → ReadsGame n bytes (reads (number_tree u) rest)
      no_number : (n : ℕ) (bytes run rest : List ℕ) → IsNumberRun bytes run rest → ((u : ℤ) → IsNumberText u run → ⊥) → ReadsGame n bytes (refused (bad_number bytes))
      name : (n x : ℕ) (xs rest : List ℕ) (G : Tree) (out : Outcome Tree) → ReadsName x xs (reads G rest) → IsClosed G rest out → ReadsGame n (x ∷ xs) out
      no_name : (n x : ℕ) (xs : List ℕ) (fault : Fault) → ReadsName x xs (refused fault) → ReadsGame n (x ∷ xs) (refused fault)
      one_too_deep : (n x : ℕ) (xs : List ℕ) → x ≡ open_brace → most_open ≤ n → ReadsGame n (x ∷ xs) (refused too_deep)
      form : (n x : ℕ) (xs ys zs : List ℕ) (Ls Rs : Trees) (out : Outcome Tree) → x ≡ open_brace → n < most_open → ReadsOptions (suc n) left_side xs (reads Ls ys) → ReadsOptions (suc n) right_side ys (reads Rs zs) → IsClosed (node Ls Rs) zs out → ReadsGame n (x ∷ xs) out
      left_refused : (n x : ℕ) (xs : List ℕ) (fault : Fault) → x ≡ open_brace → n < most_open → ReadsOptions (suc n) left_side xs (refused fault) → ReadsGame n (x ∷ xs) (refused fault)
      right_refused : (n x : ℕ) (xs ys : List ℕ) (Ls : Trees) (fault : Fault) → x ≡ open_brace → n < most_open → ReadsOptions (suc n) left_side xs (reads Ls ys) → ReadsOptions (suc n) right_side ys (refused fault) → ReadsGame n (x ∷ xs) (refused fault)
      game_stray : (n x : ℕ) (xs : List ℕ) → (IsNumberByte x → ⊥) → (IsNameByte x → ⊥) → (x ≡ open_brace → ⊥) → ReadsGame n (x ∷ xs) (refused (bad_byte (x ∷ xs)))
      game_cut : (n : ℕ) → ReadsGame n [] (refused cut_short)

    -- what reading the options of a side comes to, up to the mark at their end, where n braces are open
    pub data ReadsOptions : ℕ → Side → List ℕ → Outcome Trees → Type 0 where
      no_option : (n : ℕ) (side : Side) (x : ℕ) (xs : List ℕ) → x ≡ mark_of side → ReadsOptions n side (x ∷ xs) (reads none xs)
      first : (n : ℕ) (side : Side) (bytes ys : List ℕ) (G : Tree) (others out : Outcome Trees) → BeginsOtherwise (mark_of side) bytes → ReadsGame n bytes (reads G ys) → ReadsMore n side ys others → out ≡ behind G others → ReadsOptions n side bytes out
      first_refused : (n : ℕ) (side : Side) (bytes : List ℕ) (fault : Fault) → BeginsOtherwise (mark_of side) bytes → ReadsGame n bytes (refused fault) → ReadsOptions n side bytes (refused fault)

    -- what reading the options behind the first comes to, each behind a comma, up to the mark at their end, where n braces are open
    pub data ReadsMore : ℕ → Side → List ℕ → Outcome Trees → Type 0 where
      no_more : (n : ℕ) (side : Side) (x : ℕ) (xs : List ℕ) → x ≡ mark_of side → ReadsMore n side (x ∷ xs) (reads none xs)
      next : (n : ℕ) (side : Side) (x : ℕ) (xs ys : List ℕ) (G : Tree) (others out : Outcome Trees) → x ≡ comma → ReadsGame n xs (reads G ys) → ReadsMore n side ys others → out ≡ behind G others → ReadsMore n side (x ∷ xs) out
      next_refused : (n : ℕ) (side : Side) (x : ℕ) (xs : List ℕ) (fault : Fault) → x ≡ comma → ReadsGame n xs (refused fault) → ReadsMore n side (x ∷ xs) (refused fault)
      more_stray : (n : ℕ) (side : Side) (x : ℕ) (xs : List ℕ) → (x ≡ mark_of side → ⊥) → (x ≡ comma → ⊥) → ReadsMore n side (x ∷ xs) (refused (bad_byte (x ∷ xs)))
      more_cut : (n : ℕ) (side : Side) → ReadsMore n side [] (refused cut_short)

  -- what reading the whole text comes to: behind a game it ends
  pub data ReadsText (text : List ℕ) : Result Tree Fault → Type 0 where
    whole_text : (G : Tree) → ReadsGame 0 text (reads G []) → ReadsText text (Ok G)
    followed : (G : Tree) (x : ℕ) (xs : List ℕ) → ReadsGame 0 text (reads G (x ∷ xs)) → ReadsText text (Err (bad_byte (x ∷ xs)))
    unread : (fault : Fault) → ReadsGame 0 text (refused fault) → ReadsText text (Err fault)

-- the text names G
abbrev pub Names : ℕ → List ℕ → Tree → Type 0
Names limit text G = ReadsText limit text (Ok G)

-- the text is refused with this fault
abbrev pub RefusesText : ℕ → List ℕ → Fault → Type 0
RefusesText limit text fault = ReadsText limit text (Err fault)

-- the text is refused with a fault at this place, counted from 0
abbrev pub RefusesAt : ℕ → List ℕ → (List ℕ → Fault) → ℕ → Type 0
RefusesAt limit text fault place = (rest : List ℕ) × RefusesText limit text (fault rest) × (place + length rest ≡ length text)

-- why a text isn't read: it is refused with this fault, or there is want of memory, which may always be
abbrev pub IsReadRefusal : ℕ → List ℕ → ReadError → Type 0
IsReadRefusal limit text (reading.BadByte place) = RefusesAt limit text bad_byte place
IsReadRefusal limit text (reading.BadNumber place) = RefusesAt limit text bad_number place
IsReadRefusal limit text reading.CutShort = RefusesText limit text cut_short
IsReadRefusal limit text reading.Deep = RefusesText limit text too_deep
IsReadRefusal limit text reading.Parts = RefusesText limit text too_many_parts
IsReadRefusal limit text reading.Bounds = RefusesText limit text past_bounds
IsReadRefusal limit text (reading.Memory cause) = Unit {0}
