-- The laws of texts.
use Rattle.std.specs.Prelude.{ℕ, ◌≡◌, ◌↔◌, ◌<◌, ◌≤◌, ℤ, List, length, Result}
use Rattle.dyadic_num.specs.Units.{IsInBounds}
use Rattle.short_games.specs.Tree.{Tree, tree_at, AreDistinct}
use Rattle.short_games.specs.Order.{◌≡ᵍ◌}
use Rattle.short_games.specs.Number.{IsNumberTree, number_tree}
use Rattle.short_games.specs.TextOrder.{tree_text, IsCanonicalTree, IsCanonicalFor}
use Rattle.game_store.specs.Meaning.{Extends}
use Rattle.game_store.specs.Forms.{HaveForms}
use Rattle.short_games.specs.Parts.{HasMoreParts, IsReached}
use Rattle.game_canon.specs.Outcomes.{IsCanonicalId}
use Rattle.game_text.specs.Depth.{depth, most_open}
use Rattle.game_text.specs.NamedText.{named_text, named_depth}
use Rattle.game_text.specs.Reading.{Fault, most_nimber, ReadsText, Names}

-- reading a text comes to one thing
abbrev pub OneReading : Type 0
OneReading = (limit : ℕ) (text : List ℕ) (one other : Result Tree Fault) → ReadsText limit text one → ReadsText limit text other → one ≡ other

-- each number of G, as G itself or an option of a part of it, is within the bounds of a Dyadic
abbrev pub HasNumbersWithinBounds : Tree → Type 0
HasNumbersWithinBounds G = (N : Tree) → IsNumberTree N → IsReached G N → (u : ℤ) × IsInBounds u × (N ≡ number_tree u)

-- a canonical tree that can be read back: its numbers are within bounds, its braces don't nest too deep, and its parts are
-- not too many
pub record IsReadable (limit : ℕ) (C : Tree) : Type 0 where
  pub canonical : IsCanonicalTree C
  pub numbers : HasNumbersWithinBounds C
  pub shallow : depth C ≤ most_open
  pub small : HasMoreParts C limit → ⊥

-- the text of a canonical tree that can be read back names it
abbrev pub RoundTrip : Type 0
RoundTrip = (limit : ℕ) (C : Tree) → IsReadable limit C → Names limit (tree_text C) C

-- the numbers of a store's trees are within the bounds
abbrev pub StoresKeepBounds : Type 0
StoresKeepBounds = (Ts : List Tree) → HaveForms Ts → (id : ℕ) → id < length Ts → HasNumbersWithinBounds (tree_at Ts id)

-- the text of an id's tree is read back as the id, in the store or in what it has grown to
abbrev pub IdsComeBack : Type 0
IdsComeBack = (limit : ℕ) (Ts Us : List Tree) (id back : ℕ) (G : Tree) → id < length Ts → IsReadable limit (tree_at Ts id) → Extends Ts Us → AreDistinct Us → Names limit (tree_text (tree_at Ts id)) G → IsCanonicalId Us G back → back ≡ id

-- canonical trees of equal named text are the same tree
abbrev pub NamedTextsTellTrees : Type 0
NamedTextsTellTrees = (G H : Tree) → IsCanonicalTree G → IsCanonicalTree H → named_text G ≡ named_text H → G ≡ H

-- canonical trees have equal named texts exactly where they are equal as games
abbrev pub NamedTextsTellGames : Type 0
NamedTextsTellGames = (G H : Tree) → IsCanonicalTree G → IsCanonicalTree H → (named_text G ≡ named_text H) ↔ (G ≡ᵍ H)

-- a canonical tree that can be read back by its named text: its numbers are within bounds, the braces of that text don't
-- nest too deep, and its parts are not too many
pub record IsReadableByName (limit : ℕ) (C : Tree) : Type 0 where
  pub canonical : IsCanonicalTree C
  pub numbers : HasNumbersWithinBounds C
  pub shallow : named_depth C ≤ most_open
  pub small : HasMoreParts C limit → ⊥

-- the named text of a tree that can be read back by it names a game whose canonical tree it is; a limit of parts is a number
-- of 32 bits
abbrev pub NamedRoundTrip : Type 0
NamedRoundTrip = (limit : ℕ) (C : Tree) → limit ≤ most_nimber → IsReadableByName limit C → (G : Tree) × Names limit (named_text C) G × IsCanonicalFor G C

-- the named text of an id's tree is read back as the id, in the store or in what it has grown to
abbrev pub NamedIdsComeBack : Type 0
NamedIdsComeBack = (limit : ℕ) (Ts Us : List Tree) (id back : ℕ) (G : Tree) → limit ≤ most_nimber → id < length Ts → IsReadableByName limit (tree_at Ts id) → Extends Ts Us → AreDistinct Us → Names limit (named_text (tree_at Ts id)) G → IsCanonicalId Us G back → back ≡ id
