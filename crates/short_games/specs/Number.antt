-- The trees of numbers: m / 2 ^ e for an integer m.
use Rattle.std.specs.Prelude.{ℕ, zero, suc, ◌≡◌, ◌/◌, ◌%◌, ℤ, pos, negsuc, ◌+ℤ◌, Bool, cond, nat_eq}
use Rattle.short_games.specs.Order.{◌≤ᵍ◌}
use Rattle.short_games.specs.Tree.{Tree, node, none, more, neg}

-- the greatest integer of which the double is at most m
abbrev pub half : ℤ → ℤ
half (pos n) = pos (n / 2)
half (negsuc n) = negsuc (n / 2)

-- the integer is twice some integer
abbrev pub is_even : ℤ → Bool
is_even (pos n) = nat_eq (n % 2) 0
is_even (negsuc n) = nat_eq (n % 2) 1

-- the tree of n, whose one option is Left's, to n - 1; of 0 there is none
unfoldable pub count_tree : ℕ → Tree
count_tree zero = node none none
count_tree (suc n) = node (more (count_tree n) none) none

-- the tree of an integer
unfoldable pub whole : ℤ → Tree
whole (pos n) = count_tree n
whole (negsuc n) = neg (count_tree (suc n))

-- the tree of m / 2 ^ e: where m is odd and e above 0, Left moves to (m - 1) / 2 ^ e and Right to (m + 1) / 2 ^ e
unfoldable pub num : ℕ → ℤ → Tree
num zero m = whole m
num (suc e) m = cond (is_even m) (num e (half m)) (node (more (num e (half m)) none) (more (num e (half m +ℤ pos 1)) none))

-- the tree of x / 2 ^ 60
abbrev pub number_tree : ℤ → Tree
number_tree x = num 60 x

-- G is equal as a game to some number
abbrev pub IsNumber : Tree → Type 0
IsNumber G = (e : ℕ) × (m : ℤ) × (G ≤ᵍ num e m) × (num e m ≤ᵍ G)

-- G is the tree of some number
abbrev pub IsNumberTree : Tree → Type 0
IsNumberTree G = (e : ℕ) × (m : ℤ) × (G ≡ num e m)
