-- The state in which a settled board opens.
use Rattle.std.specs.Prelude.{ℕ, suc, ◌≡◌, ◌+◌, ◌*◌, ◌/◌, ◌%◌, ℤ, pos, negsuc, cond, nat_eq, Bool, true, false}
use Rattle.go_grid.specs.declared.grid.Colour.{Colour}
use Rattle.go_grid.specs.declared.grid.Colour.TheVariants.{Black, White}
use Rattle.go_grid.specs.Board.{Board, DeclaresNothing}
use Rattle.go_grid.specs.Marks.{Marks}
use Rattle.benson_life.specs.Groups.{IsNumberOfGroups}
use Rattle.benson_life.specs.Held.{IsHeld}
use Rattle.benson_life.specs.Region.{IsContested}
use Rattle.whole_rules.specs.declared.money.Token.{Token}
use Rattle.whole_rules.specs.declared.money.Token.TheVariants as token
use Rattle.whole_rules.specs.WholeGame.{Whole}

-- the whole points that a player gets of a komi in half-points: a positive one is White's
abbrev pub komi_points : Colour → ℤ → ℕ
komi_points White (pos n) = n / 2
komi_points Black (negsuc n) = suc n / 2
komi_points White (negsuc n) = 0
komi_points Black (pos n) = 0

-- who owns the half-point that remains
abbrev pub komi_token : ℤ → Token
komi_token (pos n) = cond (nat_eq (n % 2) 0) token.Nobody token.White
komi_token (negsuc n) = cond (nat_eq (suc n % 2) 0) token.Nobody token.Black

-- the points that the board gives a player at the start: what it holds, less two for each of its groups where there is a tax
abbrev pub GivesAtStart : Board → Colour → Bool → ℕ → Type 0
GivesAtStart g c false n = IsHeld g c n
GivesAtStart g c true n = (groups : ℕ) × IsNumberOfGroups g c groups × IsHeld g c (n + 2 * groups)

-- a tax is taken only where nothing is declared: a group with one declared point could not pay it
abbrev pub MayTax : Bool → Board → Type 0
MayTax tax g = tax ≡ true → DeclaresNothing g

-- The state opens the board before any move: what it gives each side, with or without a tax, its prisoners and its part of the komi.
pub record IsOpening (g : Board) (black_prisoners white_prisoners : ℕ) (komi : ℤ) (side : Colour) (tax : Bool) (s : Whole) : Type 0 where
  pub board : s.board ≡ g
  pub contested : Marks s.contested (IsContested g)
  pub black : (n : ℕ) × GivesAtStart g Black tax n × (s.purses.black ≡ n + black_prisoners + komi_points Black komi)
  pub white : (n : ℕ) × GivesAtStart g White tax n × (s.purses.white ≡ n + white_prisoners + komi_points White komi)
  pub token : s.purses.token ≡ komi_token komi
  pub turn : s.side ≡ side
