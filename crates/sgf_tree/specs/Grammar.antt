-- The grammar of a game record in the Smart Game Format (FF[4]): which bytes are a tree, and the nodes of its main line.
use Rattle.std.specs.Prelude.{◌≡◌, ◌≢◌, ℕ, List, [], ◌∷◌, ◌++◌, Bool, true, ◌&&◌, ◌||◌, ◌==◌, nat_le, if◌then◌else◌}
use Rattle.std.specs.List.{AllByRecursion}

-- a property: its name, and its values
pub record PropertyText : Type 0 where
  pub name : List ℕ
  pub values : List (List ℕ)

-- the byte `(`
abbrev pub opening : ℕ
opening = 40

-- the byte `)`
abbrev pub closing : ℕ
closing = 41

-- the byte `;`
abbrev pub semicolon : ℕ
semicolon = 59

-- the byte `[`
abbrev pub bracket : ℕ
bracket = 91

-- the byte `\`
abbrev pub backslash : ℕ
backslash = 92

-- the byte `]`
abbrev pub end_bracket : ℕ
end_bracket = 93

-- the byte is white space: a blank, or one of the bytes from 9 to 13, such as a tab or a line feed
abbrev pub is_white : ℕ → Bool
is_white b = (nat_le 9 b && nat_le b 13) || (b == 32)

-- the byte is a capital letter
abbrev pub is_capital : ℕ → Bool
is_capital b = nat_le 65 b && nat_le b 90

-- the byte is a letter, capital or small
abbrev pub is_letter : ℕ → Bool
is_letter b = is_capital b || (nat_le 97 b && nat_le b 122)

-- each of the bytes is white space
abbrev pub AreWhite : List ℕ → Type 0
AreWhite = AllByRecursion (λ b. is_white b ≡ true)

-- each of the bytes is a letter
abbrev pub AreLetters : List ℕ → Type 0
AreLetters = AllByRecursion (λ b. is_letter b ≡ true)

-- the capital letters of an ident are the property's name
abbrev pub capitals : List ℕ → List ℕ
capitals [] = []
capitals (b ∷ bs) = if is_capital b then b ∷ capitals bs else capitals bs

-- what stands between the brackets of a value, and the value: a `\` is dropped, and the byte after it is kept
pub data IsInsideBrackets : List ℕ → List ℕ → Type 0 where
  end : IsInsideBrackets [] []
  plain : (b : ℕ) (bytes text : List ℕ) → b ≢ end_bracket → b ≢ backslash → IsInsideBrackets bytes text → IsInsideBrackets (b ∷ bytes) (b ∷ text)
  escaped : (b : ℕ) (bytes text : List ℕ) → IsInsideBrackets bytes text → IsInsideBrackets (backslash ∷ b ∷ bytes) (b ∷ text)

-- items one after the other, with white space before each
pub data Each {A : Type 0} (Is : List ℕ → A → Type 0) : List ℕ → List A → Type 0 where
  none : Each Is [] []
  more : (white first others : List ℕ) (x : A) (xs : List A) → AreWhite white → Is first x → Each Is others xs → Each Is (white ++ (first ++ others)) (x ∷ xs)

-- a value: `[`, what stands inside, `]`
pub data IsValue : List ℕ → List ℕ → Type 0 where
  value : (inside text : List ℕ) → IsInsideBrackets inside text → IsValue (bracket ∷ (inside ++ (end_bracket ∷ []))) text

-- a property: one letter or more, then one value or more
pub data IsProperty : List ℕ → PropertyText → Type 0 where
  property : (b : ℕ) (letters values text : List ℕ) (texts : List (List ℕ)) → AreLetters (b ∷ letters) → Each IsValue values (text ∷ texts)
      → IsProperty (b ∷ (letters ++ values)) (record { name = capitals (b ∷ letters); values = text ∷ texts })

-- a node: `;`, then properties
pub data IsNode : List ℕ → List PropertyText → Type 0 where
  node : (bytes : List ℕ) (properties : List PropertyText) → Each IsProperty bytes properties → IsNode (semicolon ∷ bytes) properties

mutual
  -- a tree: `(`, one node or more, inner trees, `)`; its main line is its nodes and then the main line of its first inner tree
  pub data IsTree : List ℕ → List (List PropertyText) → Type 0 where
    tree : (nodes inner white : List ℕ) (first : List PropertyText) (others line : List (List PropertyText))
        → Each IsNode nodes (first ∷ others) → AreTrees inner line → AreWhite white
        → IsTree (opening ∷ (nodes ++ (inner ++ (white ++ (closing ∷ []))))) ((first ∷ others) ++ line)

  -- inner trees, with white space before each, and the main line of the first of them; it is empty where there is none
  pub data AreTrees : List ℕ → List (List PropertyText) → Type 0 where
    no_trees : AreTrees [] []
    trees : (white first others : List ℕ) (line dropped : List (List PropertyText)) → AreWhite white → IsTree first line → AreTrees others dropped
        → AreTrees (white ++ (first ++ others)) line
