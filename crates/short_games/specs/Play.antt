-- Play: the sides move in turn, and who is to move and can't loses.
use Rattle.short_games.specs.Tree.{Tree, left, right, Has}

mutual
  -- Left wins G moving first: she has a move after which she wins moving second
  pub data LeftWinsFirst : Tree → Type 0 where
    left_moves : {G : Tree} (L : Tree) → Has (left G) L → LeftWinsSecond L → LeftWinsFirst G

  -- Left wins G moving second: after each move of Right she wins moving first
  pub data LeftWinsSecond : Tree → Type 0 where
    left_answers : {G : Tree} → ((R : Tree) → Has (right G) R → LeftWinsFirst R) → LeftWinsSecond G

mutual
  -- Right wins G moving first: he has a move after which he wins moving second
  pub data RightWinsFirst : Tree → Type 0 where
    right_moves : {G : Tree} (R : Tree) → Has (right G) R → RightWinsSecond R → RightWinsFirst G

  -- Right wins G moving second: after each move of Left he wins moving first
  pub data RightWinsSecond : Tree → Type 0 where
    right_answers : {G : Tree} → ((L : Tree) → Has (left G) L → RightWinsFirst L) → RightWinsSecond G
