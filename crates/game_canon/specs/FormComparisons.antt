-- Comparisons of forms that are remembered from form to form.
use Rattle.std.specs.Prelude.{ℕ, ◌+◌, ◌*◌, List, length, Bool, nat_lt, ◌&&◌, cond, Option, None}
use Rattle.std.specs.List.{slice_index_or}
use Rattle.std.specs.Map.{lookup}
use Rattle.short_games.specs.Tree.{Tree}
use Rattle.game_store.specs.Meaning.{Extends}
use Rattle.game_canon.specs.Comparisons.{same_pair, AreRight}
use Rattle.game_canon.specs.declared.comparisons.TheConstants.{NEAR}

-- Pairs of forms that are remembered, each with whether the first is at most the second: those of ids below NEAR in a table,
-- if there is one, and others in a list.
abbrev pub ComparedForms : Type 0
ComparedForms = List (Option Bool) × List ((ℕ × ℕ) × Bool)

-- a pair of ids has a place in the table
abbrev pub has_place : List (Option Bool) → ℕ → ℕ → Bool
has_place table a b = nat_lt a NEAR && nat_lt b NEAR && nat_lt (a * NEAR + b) (length table)

-- what is remembered of a pair of ids
abbrev pub answer_of : ComparedForms → ℕ → ℕ → Option Bool
answer_of memo a b = cond (has_place memo.0 a b) (slice_index_or memo.0 (a * NEAR + b) None) (lookup (same_pair (a, b)) memo.1)

-- what is remembered of pairs of forms is of ids of the store, and right there
abbrev pub AreFormComparisonsRight : List Tree → ComparedForms → Type 0
AreFormComparisonsRight Ts memo = AreRight Ts (answer_of memo)

-- comparisons of forms that are right for a store are right for each that it grows to
abbrev pub FormsStayRightInGrownStores : Type 0
FormsStayRightInGrownStores = (Ts Us : List Tree) (memo : ComparedForms) → Extends Ts Us → AreFormComparisonsRight Ts memo
    → AreFormComparisonsRight Us memo
