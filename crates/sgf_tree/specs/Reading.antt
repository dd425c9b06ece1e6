-- What is read of a file, and what is wrong with it: by what continuations exist.
use Rattle.std.specs.Prelude.{◌≡◌, ℕ, ◌+◌, ◌<◌, ◌≤◌, List, ◌∷◌, ◌++◌, ◌==◌, length, map, take, drop, count_by, Result, Ok, Err, Option, Some, None, IfSome}
use Rattle.sgf_tree.specs.Grammar.{PropertyText, AreWhite, IsTree, opening, closing, semicolon}
use Rattle.sgf_tree.specs.declared.tree.Property.{Property}
use Rattle.sgf_tree.specs.declared.tree.Node.{Node}
use Rattle.sgf_tree.specs.declared.tree.Tree.{Tree}
use Rattle.sgf_tree.specs.declared.fault.TreeFault.TheVariants.{NoTree, BadByte, CutShort, TooDeep}
use Rattle.sgf_tree.specs.declared.fault.SgfError.{SgfError}
use Rattle.sgf_tree.specs.declared.fault.SgfError.TheVariants.{Fault, Memory}

-- the most trees that may be open at once
abbrev pub most_open_trees : ℕ
most_open_trees = 1000

-- the bytes begin with `(`, and after any white space `;`
pub record Begins (bytes : List ℕ) : Type 0 where
  pub white : List ℕ
  pub rest : List ℕ
  pub are_white : AreWhite white
  pub same : bytes ≡ opening ∷ (white ++ (semicolon ∷ rest))

-- the first place at which a tree begins
pub record IsStart (bytes : List ℕ) (start : ℕ) : Type 0 where
  pub begins : Begins (drop start bytes)
  pub first : (k : ℕ) → k < start → ¬ Begins (drop k bytes)

-- at no place a tree begins
abbrev pub NoStart : List ℕ → Type 0
NoStart bytes = (k : ℕ) → ¬ Begins (drop k bytes)

-- the bytes are a tree
abbrev pub IsSomeTree : List ℕ → Type 0
IsSomeTree bytes = (line : List (List PropertyText)) × IsTree bytes line

-- some continuation of the bytes makes a tree
abbrev pub IsLive : List ℕ → Type 0
IsLive bytes = (more : List ℕ) × IsSomeTree (bytes ++ more)

-- how many of the bytes are `)`
abbrev pub closings : List ℕ → ℕ
closings bytes = count_by (λ b. b == closing) bytes

-- the least number of bytes `)` that a continuation of the bytes to a tree needs
pub record HasDepth (bytes : List ℕ) (depth : ℕ) : Type 0 where
  pub more : List ℕ
  pub is_tree : IsSomeTree (bytes ++ more)
  pub reached : closings more ≡ depth
  pub least : (other : List ℕ) → IsSomeTree (bytes ++ other) → depth ≤ closings other

-- none of the first `n + 1` beginnings of the bytes is too deep
abbrev pub StaysShallow : List ℕ → ℕ → Type 0
StaysShallow bytes n = (k depth : ℕ) → k ≤ n → HasDepth (take k bytes) depth → depth ≤ most_open_trees

-- none of the first `n + 1` beginnings of the bytes is a tree
abbrev pub StaysOpen : List ℕ → ℕ → Type 0
StaysOpen bytes n = (k : ℕ) → k ≤ n → ¬ IsSomeTree (take k bytes)

-- the first `n` bytes are a tree with this main line, and none of their beginnings is too deep
pub record IsRead (bytes : List ℕ) (n : ℕ) (line : List (List PropertyText)) : Type 0 where
  pub within : n ≤ length bytes
  pub is_tree : IsTree (take n bytes) line
  pub shallow : StaysShallow bytes n

-- the byte at `n` opens one tree too many
pub record IsTooDeep (bytes : List ℕ) (n : ℕ) : Type 0 where
  pub within : n < length bytes
  pub shallow : StaysShallow bytes n
  pub unfinished : StaysOpen bytes n
  pub deep : HasDepth (take (n + 1) bytes) (most_open_trees + 1)

-- the byte at `n` fits no rule
pub record IsBadByte (bytes : List ℕ) (n : ℕ) : Type 0 where
  pub within : n < length bytes
  pub shallow : StaysShallow bytes n
  pub unfinished : StaysOpen bytes n
  pub live : IsLive (take n bytes)
  pub dead : ¬ IsLive (take (n + 1) bytes)

-- the bytes end within the tree
pub record IsCutShort (bytes : List ℕ) : Type 0 where
  pub shallow : StaysShallow bytes (length bytes)
  pub unfinished : StaysOpen bytes (length bytes)
  pub live : IsLive bytes

-- a property without where it lies in memory
abbrev pub property_text : Property → PropertyText
property_text p = record { name = p.name.items; values = map (λ v. v.items) p.values.items }

-- the properties of a node without where they lie in memory
abbrev pub node_text : Node → List PropertyText
node_text n = map property_text n.properties.items

-- the nodes of the main line without where they lie in memory
abbrev pub line_text : Tree → List (List PropertyText)
line_text t = map node_text t.line.items

-- `Is` holds of the bytes from the first place at which a tree begins, and of that place
abbrev pub FromStart : List ℕ → (List ℕ → ℕ → Type 0) → Type 0
FromStart bytes Is = (start : ℕ) × IsStart bytes start × Is (drop start bytes) start

-- a main line, or what is wrong with a file
pub data Answer : Type 0 where
  line : List (List PropertyText) → Answer
  no_tree : Answer
  bad_byte : ℕ → Answer
  cut_short : Answer
  too_deep : Answer

-- the answer to a file: the main line of the tree that begins first, or what is wrong with it
abbrev pub IsTreeAnswer : List ℕ → Answer → Type 0
IsTreeAnswer bytes (line l) = FromStart bytes (λ from start. (n : ℕ) × IsRead from n l)
IsTreeAnswer bytes no_tree = NoStart bytes
IsTreeAnswer bytes (bad_byte at) = FromStart bytes (λ from start. (n : ℕ) × (at ≡ start + n) × IsBadByte from n)
IsTreeAnswer bytes cut_short = FromStart bytes (λ from start. IsCutShort from)
IsTreeAnswer bytes too_deep = FromStart bytes (λ from start. (n : ℕ) × IsTooDeep from n)

-- the answer without where it lies in memory; none where memory ran out
abbrev pub answer_of : Result Tree SgfError → Option Answer
answer_of (Ok tree) = Some (line (line_text tree))
answer_of (Err (Fault NoTree)) = Some no_tree
answer_of (Err (Fault (BadByte at))) = Some (bad_byte at)
answer_of (Err (Fault CutShort)) = Some cut_short
answer_of (Err (Fault TooDeep)) = Some too_deep
answer_of (Err (Memory e)) = None

-- what is answered of a file; want of memory may always be answered
abbrev pub AnswersFile : List ℕ → Result Tree SgfError → Type 0
AnswersFile bytes result = IfSome (answer_of result) (IsTreeAnswer bytes)

-- each file has at most one answer beside want of memory
abbrev pub OneAnswer : Type 0
OneAnswer = (bytes : List ℕ) (a b : Answer) → IsTreeAnswer bytes a → IsTreeAnswer bytes b → a ≡ b
