-- A code for solved games, by which a proof tells two of them apart.
use Rattle.std.specs.Prelude.{ℕ, zero, suc, ◌≡◌, refl, List, Bool, Option}
use Rattle.std.specs.Coded.{Coded, code_by, coded_ℕ, coded_bool, coded_list, coded_option, coded×}
use Rattle.go_grid.specs.declared.grid.Cell.{Cell}
use Rattle.go_grid.specs.declared.grid.Cell.TheVariants as cell
use Rattle.go_grid.specs.declared.grid.Colour.{Colour}
use Rattle.go_grid.specs.declared.grid.Colour.TheVariants as colour
use Rattle.go_grid.specs.declared.region.Touch.{Touch}
use Rattle.go_grid.specs.Board.{Board}
use Rattle.go_grid.specs.Region.{Region}
use Rattle.whole_rules.specs.declared.money.Purses.{Purses}
use Rattle.whole_rules.specs.declared.money.Token.{Token}
use Rattle.whole_rules.specs.declared.money.Token.TheVariants as token
use Rattle.whole_rules.specs.WholeGame.{Whole}
use Rattle.short_games.specs.Tree.{Tree}
use Rattle.short_games.specs.Code.{tree_code}
use Rattle.endgame_solver.specs.Solved.{Solved}

-- a number for a cell
abbrev cell_number : Cell → ℕ
cell_number cell.Empty = 0
cell_number cell.Black = 1
cell_number cell.White = 2

-- the cell that a number stands for
abbrev cell_of : ℕ → Cell
cell_of zero = cell.Empty
cell_of (suc zero) = cell.Black
cell_of (suc (suc n)) = cell.White

-- the number of a cell stands for it
pub cell_back : (c : Cell) → cell_of (cell_number c) ≡ c
cell_back cell.Empty = refl
cell_back cell.Black = refl
cell_back cell.White = refl

-- a code for cells, by which a proof tells two of them apart
abbrev cell_code : Coded Cell
cell_code = code_by ℕ coded_ℕ cell_number cell_of cell_back

-- a number for a colour
abbrev colour_number : Colour → ℕ
colour_number colour.Black = 0
colour_number colour.White = 1

-- the colour that a number stands for
abbrev colour_of : ℕ → Colour
colour_of zero = colour.Black
colour_of (suc n) = colour.White

-- the number of a colour stands for it
pub colour_back : (c : Colour) → colour_of (colour_number c) ≡ c
colour_back colour.Black = refl
colour_back colour.White = refl

-- a code for colours, by which a proof tells two of them apart
abbrev colour_code : Coded Colour
colour_code = code_by ℕ coded_ℕ colour_number colour_of colour_back

-- a number for the owner of a token
abbrev token_number : Token → ℕ
token_number token.Nobody = 0
token_number token.Black = 1
token_number token.White = 2

-- the owner of a token that a number stands for
abbrev token_of : ℕ → Token
token_of zero = token.Nobody
token_of (suc zero) = token.Black
token_of (suc (suc n)) = token.White

-- the number of the owner of a token stands for that owner
pub token_back : (t : Token) → token_of (token_number t) ≡ t
token_back token.Nobody = refl
token_back token.Black = refl
token_back token.White = refl

-- a code for owners of a token, by which a proof tells two of them apart
abbrev token_code : Coded Token
token_code = code_by ℕ coded_ℕ token_number token_of token_back

-- a code for what is next to a place of a region, by which a proof tells two of them apart
abbrev touch_code : Coded Touch
touch_code =
    code_by (Bool × (Bool × (Option ℕ × (Option ℕ × (Option ℕ × Option ℕ)))))
    (coded× coded_bool (coded× coded_bool (coded× (coded_option coded_ℕ) (coded× (coded_option coded_ℕ) (coded× (coded_option coded_ℕ) (coded_option coded_ℕ))))))
    (λ t. (t.black, (t.white, (t.up, (t.left, (t.right, t.down))))))
    (λ p. record { black = p.0; white = p.1.0; up = p.1.1.0; left = p.1.1.1.0; right = p.1.1.1.1.0; down = p.1.1.1.1.1 }) (λ _. refl)

-- a code for regions, by which a proof tells two of them apart
abbrev region_code : Coded Region
region_code =
    code_by (ℕ × (ℕ × (List ℕ × (List Cell × List Touch))))
    (coded× coded_ℕ (coded× coded_ℕ (coded× (coded_list coded_ℕ) (coded× (coded_list cell_code) (coded_list touch_code)))))
    (λ r. (r.columns, (r.rows, (r.points, (r.cells, r.touch)))))
    (λ p. record { columns = p.0; rows = p.1.0; points = p.1.1.0; cells = p.1.1.1.0; touch = p.1.1.1.1 }) (λ _. refl)

-- a code for boards, by which a proof tells two of them apart
abbrev board_code : Coded Board
board_code =
    code_by (ℕ × (ℕ × (List Cell × List (Option Colour))))
    (coded× coded_ℕ (coded× coded_ℕ (coded× (coded_list cell_code) (coded_list (coded_option colour_code)))))
    (λ g. (g.columns, (g.rows, (g.cells, g.declared))))
    (λ p. record { columns = p.0; rows = p.1.0; cells = p.1.1.0; declared = p.1.1.1 }) (λ _. refl)

-- a code for purses with their token, by which a proof tells two of them apart
abbrev purses_code : Coded Purses
purses_code =
    code_by (ℕ × (ℕ × Token)) (coded× coded_ℕ (coded× coded_ℕ token_code))
    (λ m. (m.black, (m.white, m.token))) (λ p. record { black = p.0; white = p.1.0; token = p.1.1 }) (λ _. refl)

-- a code for states of the whole game, by which a proof tells two of them apart
abbrev whole_code : Coded Whole
whole_code =
    code_by (Board × (List Bool × (Purses × Colour))) (coded× board_code (coded× (coded_list coded_bool) (coded× purses_code colour_code)))
    (λ s. (s.board, (s.contested, (s.purses, s.side)))) (λ p. record { board = p.0; contested = p.1.0; purses = p.1.1.0; side = p.1.1.1 }) (λ _. refl)

-- a code for solved games, by which a proof tells two of them apart
abbrev pub solved_code : Coded Solved
solved_code =
    code_by (List Region × (List Tree × Whole)) (coded× (coded_list region_code) (coded× (coded_list tree_code) whole_code))
    (λ s. (s.regions, (s.trees, s.state))) (λ p. record { regions = p.0; trees = p.1.0; state = p.1.1 }) (λ _. refl)
