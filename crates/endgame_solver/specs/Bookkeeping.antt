-- What a list of moves makes of the regions and of the purses.
use Rattle.std.specs.Prelude.{ℕ, ℤ, ◌≡◌, ◌⊎◌, ◌+◌, ◌<◌, List, [], ◌∷◌, length, slice_index, Contains, Bool}
use Rattle.go_grid.specs.declared.grid.Cell.{Cell}
use Rattle.go_grid.specs.declared.grid.Colour.{Colour}
use Rattle.go_grid.specs.declared.grid.Colour.TheVariants.{Black, White}
use Rattle.go_grid.specs.Chain.{IsSettled}
use Rattle.go_grid.specs.Board.{Board, cell_at, other}
use Rattle.go_grid.specs.Region.{Region}
use Rattle.go_play.specs.Place.{IsNumberTaken}
use Rattle.benson_life.specs.Region.{IsContested}
use Rattle.whole_rules.specs.declared.money.Token.{Token}
use Rattle.whole_rules.specs.declared.money.Token.TheVariants as token
use Rattle.whole_rules.specs.declared.states.Move.{Move}
use Rattle.whole_rules.specs.declared.states.Move.TheVariants.{Stone, Spend, Half}
use Rattle.whole_rules.specs.Purses.{purse}
use Rattle.whole_rules.specs.WholeGame.{Whole, IsMove}
use Rattle.local_graph.specs.declared.cycle.CycleMove.{CycleMove}
use Rattle.local_graph.specs.LocalGraph.{Plays as LocalPlays}
use Rattle.whole_rules.specs.Opening.{IsOpening}
use Rattle.whole_rules.specs.Walls.{Plays}
use Rattle.region_cut.specs.Cut.{AreRegionsOfPlay}
use Rattle.region_cut.specs.LocalBoard.{HoldsPosition}

-- The moves of the list that fall into the region, in their order, as local moves, where the player is the first to move.
abbrev pub AreMovesIn : Region → Colour → List Move → List CycleMove → Type 0
AreMovesIn r c [] local = local ≡ []
AreMovesIn r c (Stone p ∷ ms) local =
    (¬ Contains r.points p × AreMovesIn r (other c) ms local)
    ⊎ ((i : ℕ) × (rest : List CycleMove) × (i < length r.points) × (slice_index r.points i ≡ p)
    × (local ≡ record { colour = c; place = i } ∷ rest) × AreMovesIn r (other c) ms rest)
AreMovesIn r c (Spend ∷ ms) local = AreMovesIn r (other c) ms local
AreMovesIn r c (Half ∷ ms) local = AreMovesIn r (other c) ms local

-- the region's cells after the moves are those of local play after its own moves
pub record RegionFollows (g : Board) (r : Region) (c : Colour) (ms : List Move) (h : Board) : Type 0 where
  pub local : List CycleMove
  pub moves : AreMovesIn r c ms local
  pub cells : List Cell
  pub plays : LocalPlays r.touch r.cells local cells
  pub holds : HoldsPosition g r cells h

-- how many stones the move takes
abbrev pub Takes : Whole → Move → Whole → ℕ → Type 0
Takes s (Stone p) t n = IsNumberTaken s.board t.board n
Takes s Spend t n = n ≡ 0
Takes s Half t n = n ≡ 0

-- the moves lead from the one state to the other, and take so many stones each
abbrev pub PlaysTaking : Whole → List Move → List ℕ → Whole → Type 0
PlaysTaking s [] [] t = s ≡ t
PlaysTaking s (m ∷ ms) (n ∷ ns) t = (u : Whole) × IsMove s m u × Takes s m u n × PlaysTaking u ms ns t
PlaysTaking s _ _ t = ⊥

-- n where the player is the one who moves, and 0 where it is the other
abbrev pub own : Colour → Colour → ℕ → ℕ
own Black Black n = n
own White White n = n
own Black White n = 0
own White Black n = 0

-- how many stones a player takes, where the moves take so many each and the second player is the first to move
abbrev pub gains : Colour → Colour → List ℕ → ℕ
gains c d [] = 0
gains c d (n ∷ ns) = own c d n + gains c (other d) ns

-- how many points a player spends by the moves, where the second player is the first to move
abbrev pub spends : Colour → Colour → List Move → ℕ
spends c d [] = 0
spends c d (Spend ∷ ms) = own c d 1 + spends c (other d) ms
spends c d (Stone p ∷ ms) = spends c (other d) ms
spends c d (Half ∷ ms) = spends c (other d) ms

-- 1 for a player who owns a token that the second player, the opponent, removes; else 0
abbrev pub reward : Colour → Colour → Token → ℕ
reward Black White token.Black = 1
reward White Black token.White = 1
reward c d owner = 0

-- 1 for a player who owns a token that the opponent removes by one of the moves, where the second player is the first to move;
-- else 0
abbrev pub rewards : Colour → Colour → Token → List Move → ℕ
rewards c d owner [] = 0
rewards c d owner (Half ∷ ms) = reward c d owner
rewards c d owner (Stone p ∷ ms) = rewards c (other d) owner ms
rewards c d owner (Spend ∷ ms) = rewards c (other d) owner ms

-- Each purse is what it was and what its owner's stones took, and one more where the opponent removed the owner's token, less
-- what its owner spent.
abbrev pub PursesFollow : Type 0
PursesFollow = (c : Colour) (s t : Whole) (ms : List Move) (ns : List ℕ) → PlaysTaking s ms ns t
    → purse c t.purses + spends c s.side ms ≡ purse c s.purses + gains c s.side ns + rewards c s.side s.purses.token ms

-- After any moves from the opening each region follows its own moves, and all points that aren't contested are as at the opening.
abbrev pub RegionsFollow : Type 0
RegionsFollow = (g : Board) (regions : List Region) (black white : ℕ) (komi : ℤ) (side : Colour) (tax : Bool) (s t : Whole) (ms : List Move) → IsSettled g
    → AreRegionsOfPlay g regions → IsOpening g black white komi side tax s → Plays s ms t
    → ((r : Region) → Contains regions r → RegionFollows g r side ms t.board) × ((p : ℕ) → p < length g.cells → ¬ IsContested g p → cell_at t.board p ≡ cell_at g p)
