-- How the sums of pairs of places are noted.
use Rattle.std.specs.Prelude.{ℕ, ◌≡◌, ◌<◌, ◌⊎◌, List, [], ◌∷◌, ◌++◌, length, Option, Some, cond}
use Rattle.std.specs.List.{slice_index_or}
use Rattle.indexmap.specs.IndexMap.{IndexMap, get}
use Rattle.short_games.specs.Tree.{Tree, tree_at}
use Rattle.short_games.specs.Sum.{◌+ᵍ◌}
use Rattle.short_games.specs.Number.{IsNumberTree}
use Rattle.game_store.specs.Forms.{IsOptions}
use Rattle.short_games.specs.Parts.{HasMoreParts}
use Rattle.game_canon.specs.inner.Changes.{AreKnown}
use Rattle.game_canon.specs.Comparisons.{same_pair}
use Rattle.game_canon.specs.Outcomes.{IsCanonicalId}
use Rattle.game_calc.specs.declared.table.Summand.{Summand}
use Rattle.game_calc.specs.declared.table.Summand.TheVariants.{First, Second}

-- what is noted of each pair of ids
abbrev pub noted : {S : Type 0} → IndexMap (ℕ × ℕ) ℕ S → ℕ → ℕ → Option ℕ
noted sums a b = get same_pair sums (a, b)

-- what is noted of each pair of ids after one more sum
abbrev pub with_sum : (ℕ → ℕ → Option ℕ) → ℕ → ℕ → ℕ → ℕ → ℕ → Option ℕ
with_sum note a b sum c d = cond (same_pair (a, b) (c, d)) (Some sum) (note c d)

-- what is noted of each id with another one beside it
abbrev pub beside : (ℕ → ℕ → Option ℕ) → Summand → ℕ → ℕ → Option ℕ
beside note First other moved = note moved other
beside note Second other moved = note other moved

-- the second ids are those that are noted for the first, in order
abbrev pub AreNoted : (ℕ → Option ℕ) → List ℕ → List ℕ → Type 0
AreNoted note [] [] = Unit {0}
AreNoted note (i ∷ is) (v ∷ vs) = (note i ≡ Some v) × AreNoted note is vs
AreNoted note is vs = ⊥

-- what is noted for each of the ids stands behind the others, in order
abbrev pub AddsSums : (ℕ → Option ℕ) → (ids before after : List ℕ) → Type 0
AddsSums note ids before after = (vs : List ℕ) × AreNoted note ids vs × (after ≡ before ++ vs)

-- the id's tree is a number's, and nothing is added; or what is noted for its options stands behind the others
abbrev pub AddsMoves : List Tree → (ℕ → Option ℕ) → ℕ → (left_before right_before left_after right_after : List ℕ) → Type 0
AddsMoves Ts note id ls rs ms ns = (IsNumberTree (tree_at Ts id) × (ms ≡ ls) × (ns ≡ rs))
    ⊎ ((is js : List ℕ) × IsOptions Ts id is js × AddsSums note is ls ms × AddsSums note js rs ns)

-- something is noted for each option of the id's tree
abbrev pub AreMovesKnown : List Tree → (ℕ → Option ℕ) → ℕ → Type 0
AreMovesKnown Ts note id = (is js : List ℕ) → IsOptions Ts id is js → AreKnown note is × AreKnown note js

-- k is the id of the canonical tree of the sum of two ids' trees, which has at most so many parts
pub record IsRightSum (Ts : List Tree) (limit a b k : ℕ) : Type 0 where
  pub first : a < length Ts
  pub second : b < length Ts
  pub sum : IsCanonicalId Ts (tree_at Ts a +ᵍ tree_at Ts b) k
  pub few : HasMoreParts (tree_at Ts k) limit → ⊥

-- what is noted of pairs of ids is right: the canonical trees of their sums, each of at most so many parts
abbrev pub AreNotedSumsRight : List Tree → ℕ → (ℕ → ℕ → Option ℕ) → Type 0
AreNotedSumsRight Ts limit note = (a b k : ℕ) → note a b ≡ Some k → IsRightSum Ts limit a b k

-- for each pair of ids of which a sum was noted one is noted afterwards
abbrev pub Grows : (ℕ → ℕ → Option ℕ) → (ℕ → ℕ → Option ℕ) → Type 0
Grows note after = (a b k : ℕ) → note a b ≡ Some k → (m : ℕ) × (after a b ≡ Some m)

-- the sums of the first n of the one ids with all of the others are noted
abbrev pub AreRowsKnown : (ℕ → ℕ → Option ℕ) → List ℕ → List ℕ → ℕ → Type 0
AreRowsKnown note is js n = (i : ℕ) → i < n → i < length is → AreKnown (λ b. note (slice_index_or is i 0) b) js

-- the sums of each option of the id's tree with each of the listed ids are noted
abbrev pub AreInnerKnown : List Tree → (ℕ → ℕ → Option ℕ) → ℕ → List ℕ → Type 0
AreInnerKnown Ts note id js = (is ks : List ℕ) → IsOptions Ts id is ks → AreRowsKnown note is js (length is) × AreRowsKnown note ks js (length ks)
