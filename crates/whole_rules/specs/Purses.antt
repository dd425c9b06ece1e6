-- What moves make of two purses and a token.
use Rattle.std.specs.Prelude.{ℕ, ◌+◌, ◌-◌}
use Rattle.go_grid.specs.declared.grid.Colour.{Colour}
use Rattle.go_grid.specs.declared.grid.Colour.TheVariants.{Black, White}
use Rattle.whole_rules.specs.declared.money.Purses.{Purses}
use Rattle.whole_rules.specs.declared.money.Token.{Token}
use Rattle.whole_rules.specs.declared.money.Token.TheVariants as token

-- what the purse of a player holds
abbrev pub purse : Colour → Purses → ℕ
purse Black m = m.black
purse White m = m.white

-- the purses with n points more in that of a player
abbrev pub paid_in : Colour → ℕ → Purses → Purses
paid_in Black n m = record m { black = m.black + n }
paid_in White n m = record m { white = m.white + n }

-- the purses with n points fewer in that of a player
abbrev pub taken_out : Colour → ℕ → Purses → Purses
taken_out Black n m = record m { black = m.black - n }
taken_out White n m = record m { white = m.white - n }

-- the purses after a player has spent a point
abbrev pub paid_out : Colour → Purses → Purses
paid_out c m = taken_out c 1 m

-- the purses where a player removes the token: its owner gets a point if the player is the opponent
abbrev pub rewarded : Token → Colour → Purses → Purses
rewarded token.Black White m = paid_in Black 1 m
rewarded token.White Black m = paid_in White 1 m
rewarded _ _ m = m

-- the purses after a player's move on the token
abbrev pub halved : Colour → Purses → Purses
halved c m = record (rewarded m.token c m) { token = token.Nobody }
