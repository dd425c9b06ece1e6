-- The laws of nimbers.
use Rattle.std.specs.Prelude.{ℕ, suc, ◌≡◌}
use Rattle.std.specs.Int.Bits.{bit_xor}
use Rattle.short_games.specs.Tree.{Tree, left, right, neg}
use Rattle.short_games.specs.Order.{◌≡ᵍ◌}
use Rattle.short_games.specs.Sum.{◌+ᵍ◌}
use Rattle.short_games.specs.Number.{IsNumber}
use Rattle.short_games.specs.Parts.{IsOption}
use Rattle.short_games.specs.Nimbers.{nimber, IsMex, IsImpartial}
use Rattle.short_games.specs.Examples.{zero, star, star_two}
use Rattle.short_games.specs.KnownValues.{AreConfused}

-- the nimbers of 0 and 1 are 0 and star, and that of 2 has the options 0 and star
abbrev pub KnownNimbers : Type 0
KnownNimbers = (nimber 0 ≡ zero) × (nimber 1 ≡ star) × (nimber 2 ≡ᵍ star_two)

-- nimbers add up to the nimber of their nim sum, which has the bits that exactly one of the two has
abbrev pub NimSum : Type 0
NimSum = (m n : ℕ) → (nimber m +ᵍ nimber n) ≡ᵍ nimber (bit_xor m n)

-- different nimbers are confused with one another
abbrev pub NimbersAreConfused : Type 0
NimbersAreConfused = (m n : ℕ) → (m ≡ n → ⊥) → AreConfused (nimber m) (nimber n)

-- a nimber is its own negative, even as a tree
abbrev pub NimbersAreNegatives : Type 0
NimbersAreNegatives = (n : ℕ) → neg (nimber n) ≡ nimber n

-- of the nimbers only that of 0 is equal to a number
abbrev pub NimbersAreNoNumbers : Type 0
NimbersAreNoNumbers = (n : ℕ) → IsNumber (nimber (suc n)) → ⊥

-- the mex rule: a game whose options are nimbers, with one mex on both sides, is the nimber of the mex
abbrev pub MexRule : Type 0
MexRule = (G : Tree) (n : ℕ) → ((X : Tree) → IsOption G X → (k : ℕ) × (X ≡ᵍ nimber k)) → IsMex (left G) n → IsMex (right G) n → G ≡ᵍ nimber n

-- each impartial game is equal to a nimber
abbrev pub ImpartialAreNimbers : Type 0
ImpartialAreNimbers = (G : Tree) → IsImpartial G → (n : ℕ) × (G ≡ᵍ nimber n)
