-- What comparing games, pair by pair, has found so far.
use Rattle.std.specs.Prelude.{ℕ, ◌+◌, ◌-◌, ◌≡◌, ◌<◌, List, length, Bool, nat_lt, Option, Some, None, IfSome, cond}
use Rattle.std.specs.List.{slice_index_or}
use Rattle.short_games.specs.Tree.{Tree, tree_at}
use Rattle.short_games.specs.Number.{IsNumberTree}
use Rattle.short_games.specs.Order.{◌≤ᵍ◌}
use Rattle.game_store.specs.Forms.{IsOptions}
use Rattle.game_canon.specs.declared.comparisons.Comparisons.{Comparisons}
use Rattle.game_canon.specs.declared.at_most.Step.{Step}
use Rattle.game_canon.specs.declared.at_most.Step.TheVariants.{Answer, Ask}
use Rattle.game_canon.specs.declared.at_most.Question.{Question}
use Rattle.game_canon.specs.Comparisons.{same_pair, SaysAtMost}
use Rattle.game_canon.specs.FormComparisons.{answer_of}

-- what is remembered of each pair of ids
abbrev pub recalled : Comparisons → ℕ → ℕ → Option Bool
recalled memo = answer_of (memo.near.items, memo.far.entries)

-- an answer that is found for a pair is the one that is remembered
abbrev pub Finds : (ℕ → ℕ → Option Bool) → ℕ → ℕ → Option Bool → Type 0
Finds known a b found = IfSome found (λ answer. known a b ≡ Some answer)

-- each answer that is still remembered was so before
abbrev pub Forgets : (ℕ → ℕ → Option Bool) → (ℕ → ℕ → Option Bool) → Type 0
Forgets before after = (a b : ℕ) (answer : Bool) → after a b ≡ Some answer → before a b ≡ Some answer

-- what is remembered of each pair of ids after one more answer
abbrev pub with_answer : (ℕ → ℕ → Option Bool) → ℕ → ℕ → Bool → ℕ → ℕ → Option Bool
with_answer known a b answer c d = cond (same_pair (a, b) (c, d)) (Some answer) (known c d)

-- a comparison of two forms with options that isn't remembered
pub record IsOpen (Ts : List Tree) (known : ℕ → ℕ → Option Bool) (a b : ℕ) : Type 0 where
  pub first_id : a < length Ts
  pub second_id : b < length Ts
  pub first_form : IsNumberTree (tree_at Ts a) → ⊥
  pub second_form : IsNumberTree (tree_at Ts b) → ⊥
  pub unknown : known a b ≡ None

-- The comparisons on which that of a with b rests: b with each Left option of a, and each Right option of b with a.
-- Where one of them is at most, a is not at most b.
abbrev pub counter : ℕ → ℕ → List ℕ → List ℕ → ℕ → ℕ × ℕ
counter a b ls rs j = cond (nat_lt j (length ls)) (b, slice_index_or ls j 0) (slice_index_or rs (j - length ls) 0, a)

-- the tree of the first id of a pair is at most that of the second, which counters a comparison that rests on the pair
abbrev pub IsCountered : List Tree → ℕ × ℕ → Type 0
IsCountered Ts p = tree_at Ts p.0 ≤ᵍ tree_at Ts p.1

-- of the comparisons on which that of a with b rests, none of the first n is at most
abbrev pub NoneCounters : List Tree → ℕ → ℕ → ℕ → Type 0
NoneCounters Ts a b n = (ls rs ms ns : List ℕ) → IsOptions Ts a ls ms → IsOptions Ts b ns rs → (j : ℕ) → j < n → j < length ls + length rs → IsCountered Ts (counter a b ls rs j) → ⊥

-- what going on with a question finds: its answer, or a comparison of smaller ids that has to come first
abbrev pub IsStep : List Tree → (ℕ → ℕ → Option Bool) → Question → Step → Type 0
IsStep Ts known q (Answer answer) = SaysAtMost Ts q.game q.other answer
IsStep Ts known q (Ask place game other) = NoneCounters Ts q.game q.other place × IsOpen Ts known game other × (game + other < q.game + q.other)
