-- How the reading goes, one byte after the other. Nothing that a caller sees speaks of it.
use Rattle.std.specs.Prelude.{◌≡◌, ℕ, ◌+◌, ◌-◌, List, [], ◌∷◌, ◌++◌, map, Result, Ok, Err, Bool, true, false, not, ◌&&◌, ◌==◌, Option, Some, None, if◌then◌else◌}
use Rattle.sgf_tree.specs.Grammar.{PropertyText, is_white, is_letter, is_capital, opening, closing, semicolon, bracket, backslash, end_bracket}
use Rattle.sgf_tree.specs.declared.machine.Kind.{Kind}
use Rattle.sgf_tree.specs.declared.machine.Kind.TheVariants as kind
use Rattle.sgf_tree.specs.declared.machine.Place.{Place}
use Rattle.sgf_tree.specs.declared.machine.Place.TheVariants as at
use Rattle.sgf_tree.specs.declared.machine.Token.{Token}
use Rattle.sgf_tree.specs.declared.machine.Token.TheVariants as token
use Rattle.sgf_tree.specs.Reading.{most_open_trees, property_text, node_text, line_text}
use Rattle.sgf_tree.specs.declared.tree.Tree.{Tree}
use Rattle.sgf_tree.specs.declared.reader.Draft.{Draft}
use Rattle.sgf_tree.specs.declared.reader.Reader.{Reader}
use Rattle.sgf_tree.specs.declared.fault.TreeFault.TheVariants.{NoTree, BadByte, CutShort, TooDeep}
use Rattle.sgf_tree.specs.declared.fault.SgfError.{SgfError}
use Rattle.sgf_tree.specs.declared.fault.SgfError.TheVariants.{Fault, Memory}

-- the kind of a byte that is neither white space nor a letter
abbrev pub punctuation : ℕ → Kind
punctuation b = if b == opening then kind.Opening else (if b == closing then kind.Closing else (if b == semicolon then kind.Semicolon else (if b == bracket then kind.Bracket else kind.Other)))

-- the kind of a byte outside of values
abbrev pub kind_of : ℕ → Kind
kind_of b = if is_white b then kind.White else (if is_letter b then kind.Letter else punctuation b)

-- what a byte of a kind is at a place outside of values, if it fits there
abbrev pub outside : Place → Kind → Option Token
outside at.Start kind.Opening = Some token.Begin
outside at.Opened kind.White = Some token.White
outside at.Opened kind.Semicolon = Some token.Node
outside at.InNode kind.White = Some token.White
outside at.InNode kind.Letter = Some token.Letter
outside at.InNode kind.Semicolon = Some token.Node
outside at.InNode kind.Opening = Some token.Open
outside at.InNode kind.Closing = Some token.Close
outside at.InIdent kind.White = Some token.IdentEnd
outside at.InIdent kind.Letter = Some token.Letter
outside at.InIdent kind.Bracket = Some token.ValueStart
outside at.AfterIdent kind.White = Some token.White
outside at.AfterIdent kind.Bracket = Some token.ValueStart
outside at.AfterValue kind.White = Some token.White
outside at.AfterValue kind.Letter = Some token.Letter
outside at.AfterValue kind.Bracket = Some token.ValueStart
outside at.AfterValue kind.Semicolon = Some token.Node
outside at.AfterValue kind.Opening = Some token.Open
outside at.AfterValue kind.Closing = Some token.Close
outside at.AfterTree kind.White = Some token.White
outside at.AfterTree kind.Opening = Some token.Open
outside at.AfterTree kind.Closing = Some token.Close
outside p k = None

-- what a byte is between the brackets of a value, unless a `\` stands before it
abbrev pub inside : ℕ → Token
inside b = if b == end_bracket then token.ValueEnd else (if b == backslash then token.Backslash else token.Text)

-- what a byte is at a place, if it fits there
abbrev pub token_at : Place → ℕ → Option Token
token_at at.InValue b = Some (inside b)
token_at at.AfterBackslash b = Some token.Text
token_at p b = outside p (kind_of b)

-- the place that a token leads to, where so many trees are open before it
abbrev pub place_after : Place → Token → ℕ → Place
place_after p token.White depth = p
place_after p token.Begin depth = at.Opened
place_after p token.Open depth = at.Opened
place_after p token.Node depth = at.InNode
place_after p token.Letter depth = at.InIdent
place_after p token.IdentEnd depth = at.AfterIdent
place_after p token.ValueStart depth = at.InValue
place_after p token.Text depth = at.InValue
place_after p token.Backslash depth = at.AfterBackslash
place_after p token.ValueEnd depth = at.AfterValue
place_after p token.Close depth = if depth == 1 then at.Done else at.AfterTree

-- how many trees are open after a token, where so many were before it
abbrev pub depth_after : Token → ℕ → ℕ
depth_after token.Open depth = depth + 1
depth_after token.Close depth = depth - 1
depth_after t depth = depth

-- the nodes so far, and the parts of the node that is being read
pub record Parts : Type 0 where
  pub nodes : List (List PropertyText)
  pub properties : List PropertyText
  pub name : List ℕ
  pub values : List (List ℕ)
  pub text : List ℕ

-- the parts where a value has ended: the text read is one more value of the property
abbrev pub with_value : Parts → Parts
with_value q = record q { values = q.values ++ (q.text ∷ []); text = [] }

-- the parts where a property has ended: the name and the values read are one more property of the node
abbrev pub with_property : Parts → Parts
with_property q = record q { properties = q.properties ++ (record { name = q.name; values = q.values } ∷ []); name = []; values = [] }

-- the parts where a node has ended: the properties read are one more node
abbrev pub with_node : Parts → Parts
with_node q = record q { nodes = q.nodes ++ (q.properties ∷ []); properties = [] }

-- the parts after a letter of a property's name, of which only capital ones are kept
abbrev pub with_letter : ℕ → Parts → Parts
with_letter b q = record q { name = if is_capital b then q.name ++ (b ∷ []) else q.name }

-- the parts after one more byte of a value's text
abbrev pub with_byte : ℕ → Parts → Parts
with_byte b q = record q { text = q.text ++ (b ∷ []) }

-- a property ends where something else than a value follows its values
abbrev pub property_ended : Place → Parts → Parts
property_ended at.AfterValue q = with_property q
property_ended p q = q

-- the parts after the end of a node, if one has begun: right behind `(` none has
abbrev pub node_ended : Place → Parts → Parts
node_ended at.Opened q = q
node_ended p q = with_node (property_ended p q)

-- the parts after a token at a place, with its byte
abbrev pub parts_after : Place → Token → ℕ → Parts → Parts
parts_after p token.Open b q = node_ended p q
parts_after p token.Close b q = node_ended p q
parts_after p token.Node b q = node_ended p q
parts_after p token.Letter b q = with_letter b (property_ended p q)
parts_after p token.Text b q = with_byte b q
parts_after p token.ValueEnd b q = with_value q
parts_after p t b q = q

-- the token closes a tree
abbrev pub is_close : Token → Bool
is_close token.Close = true
is_close t = false

-- how the reading stands: its place, how many trees are open, whether it is on the main line, and the parts read so far
pub record ReaderState : Type 0 where
  pub place : Place
  pub depth : ℕ
  -- no tree has been closed yet
  pub on_main : Bool
  pub parts : Parts

-- how the reading stands after a token and its byte; off the main line no parts are kept
abbrev pub after : ReaderState → Token → ℕ → ReaderState
after s t b = record {
  place = place_after s.place t s.depth;
  depth = depth_after t s.depth;
  on_main = s.on_main && not (is_close t);
  parts = if s.on_main then parts_after s.place t b s.parts else s.parts;
}

-- the parts where nothing has been read
abbrev pub no_parts : Parts
no_parts = record { nodes = []; properties = []; name = []; values = []; text = [] }

-- how the reading stands before the first byte of a tree
abbrev pub begin : ReaderState
begin = record { place = at.Start; depth = 1; on_main = true; parts = no_parts }

-- how the reading ends
pub data Verdict : Type 0 where
  read : ℕ → List (List PropertyText) → Verdict
  bad_byte : ℕ → Verdict
  cut_short : Verdict
  too_deep : ℕ → Verdict

-- the place is behind the whole tree
abbrev pub is_done : Place → Bool
is_done at.Done = true
is_done p = false

-- the token opens an inner tree
abbrev pub is_open : Token → Bool
is_open token.Open = true
is_open t = false

-- how the reading ends where byte `n` fits nowhere, opens one tree too many or closes the whole tree; else `go` says how
abbrev pub judged : ReaderState → ℕ → ℕ → Option Token → (ReaderState → Verdict) → Verdict
judged s n b None go = bad_byte n
judged s n b (Some t) go = if is_open t && (s.depth == most_open_trees) then too_deep n else (if is_done (place_after s.place t s.depth) then read (n + 1) (after s t b).parts.nodes else go (after s t b))

-- how the reading ends, from a state, with `n` bytes read, on the bytes that are left
unfoldable pub verdict : ReaderState → ℕ → List ℕ → Verdict
verdict s n [] = cut_short
verdict s n (b ∷ bs) = judged s n b (token_at s.place b) (λ t. verdict t (n + 1) bs)

-- the parts of the reader's draft without where they lie in memory
abbrev pub parts_of : Draft → Parts
parts_of d = record { nodes = map node_text d.nodes.items; properties = map property_text d.properties.items; name = d.name.items; values = map (λ v. v.items) d.values.items; text = d.text.items }

-- the reader's state without where it lies in memory
abbrev pub state_of : Reader → ReaderState
state_of r = record { place = r.place; depth = r.depth; on_main = r.on_main; parts = parts_of r.draft }

-- what is answered is how the reading ends, unless memory ran out
abbrev pub Gives : Verdict → ℕ → Result Tree SgfError → Type 0
Gives v start (Ok tree) = (n : ℕ) × (v ≡ read n (line_text tree))
Gives v start (Err (Fault NoTree)) = ⊥
Gives v start (Err (Fault (BadByte at))) = (n : ℕ) × (at ≡ start + n) × (v ≡ bad_byte n)
Gives v start (Err (Fault CutShort)) = v ≡ cut_short
Gives v start (Err (Fault TooDeep)) = (n : ℕ) × (v ≡ too_deep n)
Gives v start (Err (Memory e)) = Unit {0}
