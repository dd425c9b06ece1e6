-- The laws of canonical trees.
use Rattle.std.specs.Prelude.{ℕ, ◌≡◌, ◌≤◌}
use Rattle.short_games.specs.Tree.{Tree, size}
use Rattle.short_games.specs.TextOrder.{IsCanonicalTree, IsCanonicalFor}
use Rattle.short_games.specs.Parts.{IsFollower, IsOption, HasParts, HasMoreParts}
use Rattle.short_games.specs.Birthdays.{IsBornBy}

-- each tree has exactly one canonical tree that is equal to it
abbrev pub EachHasCanonical : Type 0
EachHasCanonical = (G : Tree) → (C : Tree) × IsCanonicalFor G C × ((D : Tree) → IsCanonicalFor G D → C ≡ D)

-- Where the options of a tree are canonical, those of its canonical tree are followers of them
abbrev pub OptionsAreFollowers : Type 0
OptionsAreFollowers = (G C : Tree) → ((X : Tree) → IsOption G X → IsCanonicalTree X) → IsCanonicalFor G C
    → (X : Tree) → IsOption C X → (L : Tree) × IsOption G L × IsFollower L X

-- each follower of the canonical tree of a game is the canonical tree of a follower of the game
abbrev pub FollowersAreCanonical : Type 0
FollowersAreCanonical = (G C : Tree) → IsCanonicalFor G C → (X : Tree) → IsFollower C X → (P : Tree) × IsFollower G P × IsCanonicalFor P X

-- of all equal games the canonical tree has the fewest nodes
abbrev pub CanonicalHasFewestNodes : Type 0
CanonicalHasFewestNodes = (G C : Tree) → IsCanonicalFor G C → size C ≤ size G

-- of all equal games the canonical tree is born first
abbrev pub CanonicalIsBornFirst : Type 0
CanonicalIsBornFirst = (G C : Tree) (n : ℕ) → IsCanonicalFor G C → IsBornBy n G → IsBornBy n C

-- each game has some number of parts
abbrev pub PartsAreCounted : Type 0
PartsAreCounted = (G : Tree) → (n : ℕ) × HasParts G n

-- of all equal games the canonical tree has the fewest parts
abbrev pub CanonicalHasFewestParts : Type 0
CanonicalHasFewestParts = (G C : Tree) (m n : ℕ) → IsCanonicalFor G C → HasParts G m → HasParts C n → n ≤ m

-- where the canonical tree of a game has more than n parts, so has the game
abbrev pub GamesHaveNoFewerParts : Type 0
GamesHaveNoFewerParts = (G C : Tree) (n : ℕ) → IsCanonicalFor G C → HasMoreParts C n → HasMoreParts G n
