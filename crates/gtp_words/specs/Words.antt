-- The words of a line.
use Rattle.std.specs.Prelude.{◌≡◌, ◌≢◌, ◌⊎◌, ℕ, ◌==◌, ◌||◌, nat_lt, if◌then◌else◌, List, [], ◌∷◌, ◌++◌, map, All}
use Rattle.std.specs.Char.{to_ascii_lowercase}
use Rattle.board_words.specs.Numbers.{IsNumeral}

-- what is kept of a byte: a blank for a tab, nothing of another control byte, and else the byte
abbrev pub kept : ℕ → List ℕ
kept b = if b == 9 then 32 ∷ [] else (if nat_lt b 32 || b == 127 then [] else b ∷ [])

-- what counts of a line: nothing from `#` on, and what is kept of each byte before it
unfoldable pub cleaned : List ℕ → List ℕ
cleaned [] = []
cleaned (b ∷ line) = if b == 35 then [] else kept b ++ cleaned line

-- a word has a byte, and no blank
abbrev pub IsWord : List ℕ → Type 0
IsWord word = (word ≢ []) × All (λ b. b ≢ 32) word

-- each of the bytes is a blank
abbrev pub AreBlanks : List ℕ → Type 0
AreBlanks bytes = All (λ b. b ≡ 32) bytes

-- a blank comes next, or nothing
abbrev pub IsApart : List ℕ → Type 0
IsApart [] = Unit {0}
IsApart (b ∷ more) = b ≡ 32

-- the first word of the text, behind blanks, and what comes after it
abbrev pub IsFirstWord : List ℕ → List ℕ → List ℕ → Type 0
IsFirstWord text word rest = (blanks : List ℕ) × (text ≡ blanks ++ (word ++ rest)) × AreBlanks blanks × IsWord word × IsApart rest

-- the text is the words with blanks around them, one at least between two
abbrev pub AreWords : List ℕ → List (List ℕ) → Type 0
AreWords text [] = AreBlanks text
AreWords text (word ∷ words) = (rest : List ℕ) × IsFirstWord text word rest × AreWords rest words

-- the first word is the id where it is a numeral, and the other words ask for something; else there is no id
abbrev pub HasId : List (List ℕ) → List ℕ → List (List ℕ) → Type 0
HasId words id rest = ((words ≡ id ∷ rest) × IsNumeral id)
    ⊎ ((id ≡ []) × (rest ≡ words) × ((first : List ℕ) (more : List (List ℕ)) → words ≡ first ∷ more → ¬ IsNumeral first))

-- the words ask behind the id for something that is such; or there are no words, where this holds
abbrev pub WordsAsk : {A : Type 0} → (List (List ℕ) → A → Type 0) → Type 0 → (A → Type 0) → List (List ℕ) → Type 0
WordsAsk {A} Asks Nothing IsSuch [] = Nothing
WordsAsk {A} Asks Nothing IsSuch (word ∷ words) = (id : List ℕ) × (rest : List (List ℕ)) × (asked : A) × HasId (word ∷ words) id rest × Asks rest asked × IsSuch asked

-- a line asks by its words for something that is such; or it has no words, where this holds
abbrev pub LineAsks : {A : Type 0} → (List (List ℕ) → A → Type 0) → Type 0 → (A → Type 0) → List ℕ → Type 0
LineAsks Asks Nothing IsSuch line = (words : List (List ℕ)) × AreWords (cleaned line) words × WordsAsk Asks Nothing IsSuch words

-- the word in small letters
abbrev pub lowered : List ℕ → List ℕ
lowered word = map to_ascii_lowercase word
