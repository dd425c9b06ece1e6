-- How the texts of forms are kept while a text is built from them.
use Rattle.std.specs.Prelude.{ℕ, ◌≡◌, ◌<◌, ◌≤◌, ℤ, pos, neg_ℤ, ◌<ℤ◌, ◌⊎◌, true, List, [], ◌∷◌, ◌++◌, length, map, slice_range, Option, Some, None, cond, nat_eq}
use Rattle.std.specs.List.{slice_index_or}
use Rattle.std.specs.List.Sorted.{IsPermutation, IsSortedBy}
use Rattle.short_games.specs.Tree.{Tree, tree_at}
use Rattle.short_games.specs.Number.{num, number_tree}
use Rattle.short_games.specs.NumberText.{Fraction}
use Rattle.short_games.specs.TextOrder.{tree_text, lesser_text}
use Rattle.game_store.specs.Meaning.{AreIds, IsAscending}
use Rattle.short_games.specs.Parts.{IsInner}
use Rattle.game_text.specs.NamedText.{nimber, is_positive, joined, in_braces, name, named_text}
use Rattle.game_text.specs.declared.texts.Span.{Span}
use Rattle.game_text.specs.declared.errors.WriteError.{WriteError}
use Rattle.game_text.specs.declared.errors.WriteError.TheVariants.{Long, Deep, Memory}

-- there is a span, and it names a part of the bytes
abbrev pub IsWithin : List ℕ → Option Span → Type 0
IsWithin bytes None = ⊥
IsWithin bytes (Some span) = (span.start ≤ span.end) × (span.end ≤ length bytes)

-- the part of the bytes that a span names, empty where there is none
abbrev pub text_at : List ℕ → Option Span → List ℕ
text_at bytes None = []
text_at bytes (Some span) = slice_range bytes span.start span.end

-- the named text of an id's tree is kept
abbrev pub HasText : List Tree → List ℕ → (ℕ → Option Span) → ℕ → Type 0
HasText Ts bytes spans id = IsWithin bytes (spans id) × (text_at bytes (spans id) ≡ named_text (tree_at Ts id))

-- the texts of the ids in the order of their bytes
abbrev pub AreSideTexts : List ℕ → (ℕ → Option Span) → List ℕ → List (List ℕ) → Type 0
AreSideTexts bytes spans ids ts = IsPermutation (map (λ id. text_at bytes (spans id)) ids) ts × IsSortedBy lesser_text ts

-- the texts of the ids in the order of their bytes, with commas between them
abbrev pub IsSideText : List ℕ → (ℕ → Option Span) → List ℕ → List ℕ → Type 0
IsSideText bytes spans ids t = (ts : List (List ℕ)) × AreSideTexts bytes spans ids ts × (t ≡ joined ts)

-- the texts of the ids of two sides in braces, each side in the order of their bytes, with commas between them
abbrev pub IsBracesText : List ℕ → (ℕ → Option Span) → List ℕ → List ℕ → List ℕ → Type 0
IsBracesText bytes spans ls rs t = (us vs : List (List ℕ)) × AreSideTexts bytes spans ls us × AreSideTexts bytes spans rs vs × (t ≡ in_braces us vs)

-- a text is kept for each of the ids
abbrev pub AreKept : List ℕ → (ℕ → Option Span) → List ℕ → Type 0
AreKept bytes spans ids = (j : ℕ) → j < length ids → IsWithin bytes (spans (slice_index_or ids j 0))

-- the named text of the tree of each of the ids is kept
abbrev pub HaveTexts : List Tree → List ℕ → (ℕ → Option Span) → List ℕ → Type 0
HaveTexts Ts bytes spans ids = (j : ℕ) → j < length ids → HasText Ts bytes spans (slice_index_or ids j 0)

-- the span from the first place up to the one past its end
abbrev pub span_of : ℕ → ℕ → Span
span_of first past = record { start = first; end = past }

-- a text is kept for an id behind the others
abbrev pub IsAppended : List ℕ → (ℕ → Option Span) → ℕ → List ℕ → List ℕ → (ℕ → Option Span) → Type 0
IsAppended old spans id text new after = (new ≡ old ++ text) × ((i : ℕ) → after i ≡ cond (nat_eq id i) (Some (span_of (length old) (length new))) (spans i))

-- where an id's tree is no number's, the named texts of its options that are ids below it are kept
abbrev pub HasOptionTexts : List Tree → List ℕ → (ℕ → Option Span) → ℕ → Type 0
HasOptionTexts Ts bytes spans id = (i : ℕ) → i < id → IsInner (tree_at Ts id) (tree_at Ts i) → HasText Ts bytes spans i

-- what was kept stays so, and the text of this id is kept too
pub record IsAdded (Ts : List Tree) (id : ℕ) (old : List ℕ) (spans : ℕ → Option Span) (new : List ℕ) (after : ℕ → Option Span) : Type 0 where
  pub stays : (i : ℕ) → HasText Ts old spans i → HasText Ts new after i
  pub added : HasText Ts new after id

-- why no text is kept: it stands in braces and has more bytes than allowed
abbrev pub IsTooLong : Tree → ℕ → WriteError → Type 0
IsTooLong G limit Long = (name G ≡ None) × (limit < length (named_text G))
IsTooLong G limit Deep = ⊥
IsTooLong G limit (Memory cause) = Unit {0}

-- the texts of the first n ids are kept
abbrev pub AreWritten : List Tree → List ℕ → ℕ → List ℕ → (ℕ → Option Span) → Type 0
AreWritten Ts ids n bytes spans = (j : ℕ) → j < n → j < length ids → HasText Ts bytes spans (slice_index_or ids j 0)

-- the ids of the nimbers of 0, 1, 2 and so on
pub record AreNimbers (Ts : List Tree) (ks : List ℕ) : Type 0 where
  pub below : AreIds Ts ks
  pub ascends : IsAscending ks
  pub each : (k : ℕ) → k < length ks → tree_at Ts (slice_index_or ks k 0) ≡ nimber k

-- where the id's tree is the nimber of n, the id stands at place n of the list
abbrev pub IsAmong : List Tree → List ℕ → ℕ → Type 0
IsAmong Ts ks id = (n : ℕ) → tree_at Ts id ≡ nimber n → (n < length ks) × (slice_index_or ks n 0 ≡ id)

-- the ids of the nimbers of 0, 1, 2 and so on that are among the first n ids
pub record AreFound (Ts : List Tree) (ids : List ℕ) (n : ℕ) (ks : List ℕ) : Type 0 where
  pub nimbers : AreNimbers Ts ks
  pub from : (k : ℕ) → k < length ks → (j : ℕ) × (j < n) × (j < length ids) × (slice_index_or ks k 0 ≡ slice_index_or ids j 0)
  pub among : (j : ℕ) → j < n → j < length ids → IsAmong Ts ks (slice_index_or ids j 0)

-- A and B are the options of up
abbrev pub IsUpPair : Tree → Tree → Type 0
IsUpPair A B = (A ≡ nimber 0) × (B ≡ nimber 1)

-- A and B are the options of down
abbrev pub IsDownPair : Tree → Tree → Type 0
IsDownPair A B = (A ≡ nimber 1) × (B ≡ nimber 0)

-- A and B are the options of the switch of a number above 0
abbrev pub IsSwitchPair : Tree → Tree → Type 0
IsSwitchPair A B = (x : Fraction) × (is_positive x.numerator ≡ true) × (A ≡ num x.exponent x.numerator) × (B ≡ num x.exponent (neg_ℤ x.numerator))

-- A and B are the options of up, of down, or of the switch of a number above 0
abbrev pub IsNamedPair : Tree → Tree → Type 0
IsNamedPair A B = IsUpPair A B ⊎ (IsDownPair A B ⊎ IsSwitchPair A B)

-- t is the name of the switch with the options A and B, a number above 0 and its negative
abbrev pub IsSwitchName : Tree → Tree → List ℕ → Type 0
IsSwitchName A B t = (u : ℤ) × (pos 0 <ℤ u) × (A ≡ number_tree u) × (B ≡ number_tree (neg_ℤ u)) × (t ≡ 43 ∷ 45 ∷ tree_text A)

-- t is the name of up, of down, or of the switch of a number above 0, with the options A and B
abbrev pub IsPairName : Tree → Tree → List ℕ → Type 0
IsPairName A B t = (IsUpPair A B × (t ≡ 94 ∷ [])) ⊎ ((IsDownPair A B × (t ≡ 118 ∷ [])) ⊎ IsSwitchName A B t)
