-- What a move pays in, and the room that it leaves.
use Rattle.std.proofs.Common.{◌≡◌, ℕ, ◌+◌, ◌*◌, ◌^◌, ◌≤◌, length, arith, refl, subst, sym, ap, List, Option, Some, None, Ok, Err, Result}
use Rattle.std.specs.List.{count_by}
use Rattle.std.proofs.lemmas.List.Sums.{count_by-le-length}
use Rattle.go_grid.specs.declared.grid.Colour.{Colour}
use Rattle.go_grid.specs.declared.grid.Colour.TheVariants.{Black, White}
use Rattle.go_grid.specs.Play.{is_stone}
use Rattle.whole_rules.specs.declared.money.Purses.{Purses}
use Rattle.whole_rules.specs.declared.money.Token.{Token}
use Rattle.whole_rules.specs.declared.states.Move.{Move}
use Rattle.whole_rules.specs.declared.states.Move.TheVariants.{Stone, Spend, Half}
use Rattle.whole_rules.specs.declared.states.MoveError.{MoveError}
use Rattle.whole_rules.specs.Purses.{halved, paid_in, paid_out, purse}
use Rattle.whole_rules.specs.WholeGame.{Whole, IsMove}
use Rattle.endgame_solver.proofs.BeginLaws.{token_few}
use Rattle.endgame_solver.proofs.BookkeepingLaws.{halved-is}
use Rattle.engine_player.specs.Played.{Keeping, keeping_with}
use Rattle.engine_player.specs.EngineGame.{EngineGame, EngineGoes, GoesByHand, MovesKeeping, kept_by_hand}
use Rattle.engine_player.specs.Room.{CanTake, MayHaveMovesLeft}
use Rattle.engine_player.specs.inner.Kept.{HasPurses}

paid_in_most : (c d : Colour) (n : ℕ) (m : Purses) → purse c (paid_in d n m) ≤ purse c m + n
paid_in_most Black Black n m = omega arith
paid_in_most White White n m = omega arith
paid_in_most Black White n m = omega arith
paid_in_most White Black n m = omega arith

paid_out_most : (c d : Colour) (m : Purses) → purse c (paid_out d m) ≤ purse c m
paid_out_most Black Black m = omega arith
paid_out_most White White m = omega arith
paid_out_most Black White m = omega arith
paid_out_most White Black m = omega arith

halved_parts : (c d : Colour) (b w : ℕ) (owner : Token) → purse c (halved d (record { black = b; white = w; token = owner })) ≤ purse c (record { black = b; white = w; token = owner }) + 1
halved_parts c d b w owner =
    let (is, few) = halved-is c d b w owner in let most = token_few owner in omega (arith, is, few, most)

halved_most : (c d : Colour) (m : Purses) → purse c (halved d m) ≤ purse c m + 1
halved_most c d m = halved_parts c d m.black m.white m.token

-- a move pays in at most a point for each point of the board, and one more
pays_most : (s t : Whole) (m : Move) → length s.board.cells ≤ 625 → IsMove s m t → (c : Colour) → purse c t.purses ≤ purse c s.purses + 626
pays_most s t (Stone p) small (marked, (h, ((n, placed, taken, is)))) c =
    let before = count_by-le-length is_stone s.board.cells in
    let most = paid_in_most c s.side n s.purses in
    omega (arith, small, taken, before, most, ap (λ u. purse c u.purses) is)
pays_most s t Spend small (some, is) c = let most = paid_out_most c s.side s.purses in omega (arith, most, ap (λ u. purse c u.purses) is)
pays_most s t Half small (some, is) c = let most = halved_most c s.side s.purses in omega (arith, most, ap (λ u. purse c u.purses) is)

-- what the purses hold behind a move
pub purses_behind : (s t : Whole) (m : Move) (n : ℕ) → length s.board.cells ≤ 625 → IsMove s m t → HasPurses s n → HasPurses t (n + 1)
purses_behind s t m n small moved few c = let most = pays_most s t m small moved c in let had = few c in omega (arith, most, had)

-- room for more is room for fewer
less_room : (k : Option Keeping) (n m : ℕ) → n ≤ m → MayHaveMovesLeft m k → MayHaveMovesLeft n k
less_room None n m le room = tt
less_room (Some keeping) n m le room = omega (arith, le, room)

pub can_take_less : (p : EngineGame) (n m : ℕ) → n ≤ m → CanTake m p → CanTake n p
can_take_less p n m le room = less_room p.keeping n m le room

-- room behind a move
one_more : (c : Colour) (left : Option (List ℕ)) (k : Keeping) → (keeping_with c left k).moves ≡ k.moves + 1
one_more Black left k = refl
one_more White left k = refl

behind_engine : (k left : Option Keeping) (s t : Whole) (m : Move) (n : ℕ) → MovesKeeping k s m t left → MayHaveMovesLeft (n + 1) k → MayHaveMovesLeft n left
behind_engine None None s t m n goes room = tt
behind_engine None (Some after) s t m n goes room = absurd (cc goes.2)
behind_engine (Some keeping) None s t m n goes room = tt
behind_engine (Some keeping) (Some after) s t m n (next, (kept, goes, is), some) room =
    let same : after ≡ next = cc some in
    omega (arith, room, one_more s.side kept keeping, ap (λ k. k.moves) is, ap (λ k. k.moves) same)

pub room_behind_engine : (p q : EngineGame) (m : Move) (n : ℕ) → EngineGoes p m q → CanTake (n + 1) p → CanTake n q
room_behind_engine p q m n goes room = behind_engine p.keeping q.keeping p.state q.state m n goes room

behind_hand : (k left : Option Keeping) (c : Colour) (n : ℕ) → left ≡ kept_by_hand c k → MayHaveMovesLeft (n + 1) k → MayHaveMovesLeft n left
behind_hand None None c n is room = tt
behind_hand None (Some after) c n is room = absurd (cc is)
behind_hand (Some keeping) None c n is room = tt
behind_hand (Some keeping) (Some after) c n is room =
    let same : after ≡ keeping_with c None keeping = cc is in
    omega (arith, room, one_more c None keeping, ap (λ k. k.moves) same)

pub room_behind_hand : (p q : EngineGame) (m : Move) (n : ℕ) (r : Result Unit MoveError) → GoesByHand p m r q → CanTake (n + 1) p → CanTake n q
room_behind_hand p q m n (Ok u) (moved, is) room = behind_hand p.keeping q.keeping p.state.side n is room
room_behind_hand p q m n (Err e) (same, why) room = subst (CanTake n) (sym same) (can_take_less p n (n + 1) (omega arith) room)
