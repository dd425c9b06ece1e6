-- What a list of moves makes of the purses and of the regions.
use Rattle.std.proofs.Common.{ℕ, ◌≡◌, ◌+◌, ◌≤◌, refl, ap, ◌∙◌, subst, arith, List, [], ◌∷◌, ◌<◌, inl, inr, sym, length, get_or, set, map, Contains}
use Rattle.go_grid.specs.declared.grid.Colour.{Colour}
use Rattle.go_grid.specs.declared.grid.Colour.TheVariants.{Black, White}
use Rattle.go_grid.specs.Board.{other, Board, cell_at}
use Rattle.go_play.specs.Place.{IsNumberTaken, IsPlaced}
use Rattle.whole_rules.specs.declared.money.Purses.{Purses}
use Rattle.whole_rules.specs.declared.money.Token.{Token}
use Rattle.whole_rules.specs.declared.states.Move.{Move}
use Rattle.whole_rules.specs.declared.states.Move.TheVariants.{Stone, Spend, Half}
use Rattle.whole_rules.specs.Purses.{purse, paid_in, paid_out, taken_out, halved}
use Rattle.whole_rules.specs.WholeGame.{Whole, after}
use Rattle.endgame_solver.specs.Bookkeeping.{own, gains, spends, reward, rewards, PursesFollow, AreMovesIn, RegionsFollow}
use Rattle.std.proofs.lemmas.Bool.{cases_eq}
use Rattle.std.proofs.lemmas.List.{get_or_default, get_or-map, length-map, get_or-set_same, get_or-set_other}
use Rattle.std.proofs.lemmas.List.Elements.{Contains-get_or}
use Rattle.go_grid.specs.declared.grid.Cell.{Cell}
use Rattle.go_grid.specs.Chain.{IsSettled}
use Rattle.go_grid.specs.Region.{Region}
use Rattle.benson_life.specs.Life.{IsAlive}
use Rattle.benson_life.specs.Walls.{WallsStand}
use Rattle.benson_life.specs.Region.{IsContested}
use Rattle.whole_rules.specs.Walls.{Plays}
use Rattle.whole_rules.proofs.WallLaws.{Keeps, keeps_move, keeps_start, keeps_plays}
use Rattle.local_graph.specs.declared.cycle.CycleMove.{CycleMove}
use Rattle.local_graph.specs.LocalGraph.{Plays as LocalPlays}
use Rattle.go_grid.proofs.BoardLemmas.{same_or_not}
use Rattle.region_cut.specs.Cut.{AreRegionsOfPlay}
use Rattle.region_cut.specs.LocalBoard.{HoldsPosition}
use Rattle.region_cut.proofs.LocalBoardLemmas.{placing_is_local, HoldPositions, holds_start, only_region, positions_after}
use Rattle.endgame_solver.specs.Regions.{no_region, region_at}
use Rattle.go_grid.proofs.PlayLemmas.{long_after}
use Rattle.whole_rules.specs.declared.money.Token.TheVariants as token
use Rattle.endgame_solver.specs.inner.Held.{token_left}

pub paid-in : (c d : Colour) (n : ℕ) (m : Purses) → purse c (paid_in d n m) ≡ purse c m + own c d n
paid-in Black Black n m = refl
paid-in White White n m = refl
paid-in Black White n m = omega arith
paid-in White Black n m = omega arith

pub token-in : (d : Colour) (n : ℕ) (m : Purses) → (paid_in d n m).token ≡ m.token
token-in Black n m = refl
token-in White n m = refl

pub paid-out : (c d : Colour) (m : Purses) → 1 ≤ purse d m → purse c (paid_out d m) + own c d 1 ≡ purse c m
paid-out Black Black m h = omega (arith, h)
paid-out White White m h = omega (arith, h)
paid-out Black White m h = omega arith
paid-out White Black m h = omega arith

-- points that are taken out of a purse leave the other purse and the token
pub out-less : (c d : Colour) (n : ℕ) (m : Purses) → purse c (taken_out d n m) ≤ purse c m
out-less Black Black n m = omega arith
out-less White White n m = omega arith
out-less Black White n m = omega arith
out-less White Black n m = omega arith

pub token-out : (d : Colour) (n : ℕ) (m : Purses) → (taken_out d n m).token ≡ m.token
token-out Black n m = refl
token-out White n m = refl

-- a reward is for a token that was there
pub halved-is : (c d : Colour) (black white : ℕ) (owner : Token)
    → (purse c (halved d (record { black = black; white = white; token = owner })) ≡ purse c (record { black = black; white = white; token = owner }) + reward c d owner)
    × (reward c d owner ≤ token_left owner)
halved-is Black Black b w token.Black = (omega arith, omega arith)
halved-is Black Black b w token.White = (omega arith, omega arith)
halved-is Black Black b w token.Nobody = (omega arith, omega arith)
halved-is Black White b w token.Black = (omega arith, omega arith)
halved-is Black White b w token.White = (omega arith, omega arith)
halved-is Black White b w token.Nobody = (omega arith, omega arith)
halved-is White Black b w token.Black = (omega arith, omega arith)
halved-is White Black b w token.White = (omega arith, omega arith)
halved-is White Black b w token.Nobody = (omega arith, omega arith)
halved-is White White b w token.Black = (omega arith, omega arith)
halved-is White White b w token.White = (omega arith, omega arith)
halved-is White White b w token.Nobody = (omega arith, omega arith)

-- without a token nothing is rewarded
no_rewards : (c d : Colour) (ms : List Move) → rewards c d token.Nobody ms ≡ 0
no_rewards c d [] = refl
no_rewards c d (Half ∷ ms) = let w = halved-is c d 0 0 token.Nobody in omega (arith, w.1)
no_rewards c d (Stone p ∷ ms) = no_rewards c (other d) ms
no_rewards c d (Spend ∷ ms) = no_rewards c (other d) ms

pub own-less : (c d : Colour) (n : ℕ) → own c d n ≤ n
own-less Black Black n = omega arith
own-less White White n = omega arith
own-less Black White n = omega arith
own-less White Black n = omega arith

-- what follows from a state whose purses and side are known
from_after : (c : Colour) (s t u : Whole) (h : Board) (m : Purses) (ms : List Move) (ns : List ℕ) → u ≡ after h m s
    → purse c t.purses + spends c u.side ms ≡ purse c u.purses + gains c u.side ns + rewards c u.side u.purses.token ms
    → purse c t.purses + spends c (other s.side) ms ≡ purse c m + gains c (other s.side) ns + rewards c (other s.side) m.token ms
from_after c s t u h m ms ns is e =
    subst (λ z. purse c t.purses + spends c z.side ms ≡ purse c z.purses + gains c z.side ns + rewards c z.side z.purses.token ms) is e

pub purses_follow : PursesFollow
purses_follow c s t [] [] e = omega (arith, ap (λ z. purse c z.purses) e)
purses_follow c s t [] (n ∷ ns) e = absurd e
purses_follow c s t (m ∷ ms) [] e = absurd e
purses_follow c s t (Stone p ∷ ms) (n ∷ ns) (u, (mark, (h, (k, placed, number, is))), takes, rest) =
    let next = from_after c s t u h (paid_in s.side k s.purses) ms ns is (purses_follow c u t ms ns rest) in
    let takes' : IsNumberTaken s.board h n = subst (λ z. IsNumberTaken s.board z.board n) is takes in
    let same : n ≡ k = omega (arith, takes', number) in
    let owner = ap (λ z. rewards c (other s.side) z ms) (token-in s.side k s.purses) in
    omega (arith, next, ap (own c s.side) same, paid-in c s.side k s.purses, owner)
purses_follow c s t (Spend ∷ ms) (n ∷ ns) (u, (some, is), takes, rest) =
    let next = from_after c s t u s.board (paid_out s.side s.purses) ms ns is (purses_follow c u t ms ns rest) in
    let owner = ap (λ z. rewards c (other s.side) z ms) (token-out s.side 1 s.purses) in
    omega (arith, next, ap (own c s.side) takes, own-less c s.side 0, paid-out c s.side s.purses some, owner)
purses_follow c s t (Half ∷ ms) (n ∷ ns) (u, (owned, is), takes, rest) =
    let next = from_after c s t u s.board (halved s.side s.purses) ms ns is (purses_follow c u t ms ns rest) in
    let paid = (halved-is c s.side s.purses.black s.purses.white s.purses.token).0 in
    omega (arith, next, ap (own c s.side) takes, own-less c s.side 0, paid, no_rewards c (other s.side) ms)

-- Each region follows its own moves.

module _ (g : Board) (settled : IsSettled g) (regions : List Region) (cut : AreRegionsOfPlay g regions) where
  abbrev Held : List (List Cell) → Board → Type 0
  Held positions h = HoldPositions g regions cut positions h

  -- what a region does from a position on
  record FollowsFrom (r : Region) (from : List Cell) (c : Colour) (ms : List Move) (h : Board) : Type 0 where
    moves : List CycleMove
    are : AreMovesIn r c ms moves
    cells : List Cell
    plays : LocalPlays r.touch from moves cells
    holds : HoldsPosition g r cells h

  -- a placing in one region
  record PlacedIn (positions : List (List Cell)) (h after : Board) (c : Colour) (p : ℕ) : Type 0 where
    region : ℕ
    known : region < length regions
    place : ℕ
    inside : place < length (region_at regions region).points
    at : get_or (region_at regions region).points place 0 ≡ p
    next : List Cell
    moves : LocalPlays (region_at regions region).touch (get_or positions region []) (record { colour = c; place = place } ∷ []) next
    held : Held (set positions region next) after
    alone : (l : ℕ) → l < length regions → Contains (region_at regions l).points p → l ≡ region

  placed_in : (positions : List (List Cell)) (h after : Board) (c : Colour) (p : ℕ) → Held positions h → IsContested g p → IsPlaced h p c after
      → PlacedIn positions h after c p
  placed_in positions h after c p held contested placed =
      let w = only_region g regions cut p no_region contested in
      let l = w.0 in
      let r = region_at regions l in
      let (i, short, at) = w.2 in
      let there : get_or r.points i 0 ≡ p = get_or_default r.points i 0 p short ∙ at in
      let play = cut.each r (Contains-get_or regions l no_region w.1) in
      let (next, move, local) = placing_is_local g r settled play (held.each l no_region w.1) i short c after
      (subst (λ x. IsPlaced h x c after) (sym there) placed) in
      record {
        region = l;
        known = w.1;
        place = i;
        inside = short;
        at = there;
        next = next;
        moves = (next, move, refl);
        held = positions_after g regions cut positions next h after l p c no_region held w.1 placed (long_after move) local;
        alone = w.3;
      }

  follows : (s t : Whole) (ms : List Move) (positions : List (List Cell)) (k : ℕ) → Keeps g s → Held positions s.board → Plays s ms t → k < length regions
      → FollowsFrom (region_at regions k) (get_or positions k []) s.side ms t.board
  follows s t [] positions k keeps held e lt =
      record { moves = []; are = refl; cells = get_or positions k []; plays = refl; holds = subst (λ z. HoldsPosition g (region_at regions k) (get_or positions k []) z.board) e (held.each k no_region lt) }
  follows s t (Spend ∷ ms) positions k keeps held (u, move, rest) lt =
      let is = move.1 in
      let f = follows u t ms positions k (keeps_move g settled s u Spend keeps move) (subst (λ z. Held positions z.board) (sym is) held) rest lt in
      record { moves = f.moves; are = subst (λ d. AreMovesIn (region_at regions k) d ms f.moves) (ap (λ z. z.side) is) f.are; cells = f.cells; plays = f.plays; holds = f.holds }
  follows s t (Half ∷ ms) positions k keeps held (u, move, rest) lt =
      let is = move.1 in
      let f = follows u t ms positions k (keeps_move g settled s u Half keeps move) (subst (λ z. Held positions z.board) (sym is) held) rest lt in
      record { moves = f.moves; are = subst (λ d. AreMovesIn (region_at regions k) d ms f.moves) (ap (λ z. z.side) is) f.are; cells = f.cells; plays = f.plays; holds = f.holds }
  follows s t (Stone p ∷ ms) positions k keeps held (u, move, rest) lt =
      let is = move.1.1.3 in
      let w = placed_in positions s.board move.1.0 s.side p held ((keeps.contested p).0 move.0) move.1.1.1 in
      let held' = subst (λ z. Held (set positions w.region w.next) z.board) (sym is) w.held in
      let f = follows u t ms (set positions w.region w.next) k (keeps_move g settled s u (Stone p) keeps move) held' rest lt in
      let are = subst (λ d. AreMovesIn (region_at regions k) d ms f.moves) (ap (λ z. z.side) is) f.are in
      elim (cases_eq k w.region) as (λ _. FollowsFrom (region_at regions k) (get_or positions k []) s.side (Stone p ∷ ms) t.board) [
        | inl same ↦
            let short : w.region < length positions = omega (arith, w.known, held.many) in
            let from : get_or (set positions w.region w.next) k [] ≡ w.next = ap (λ z. get_or (set positions w.region w.next) z []) same ∙ get_or-set_same positions w.region w.next [] short in
            let first = subst (λ z. LocalPlays (region_at regions z).touch (get_or positions z []) (record { colour = s.side; place = w.place } ∷ []) w.next) (sym same) w.moves in
            let inside = subst (λ z. w.place < length (region_at regions z).points) (sym same) w.inside in
            let at = subst (λ z. get_or (region_at regions z).points w.place 0 ≡ p) (sym same) w.at in
            record {
              moves = record { colour = s.side; place = w.place } ∷ f.moves;
              are = inr (w.place, f.moves, inside, at, refl, are);
              cells = f.cells;
              plays = (first.0, first.1, subst (λ z. LocalPlays (region_at regions k).touch z f.moves f.cells) (from ∙ sym first.2) f.plays);
              holds = f.holds;
            }
        | inr ne ↦
            let from : get_or (set positions w.region w.next) k [] ≡ get_or positions k [] = get_or-set_other positions w.region k w.next [] ne in
            record {
              moves = f.moves;
              are = inl (λ in'. ne (w.alone k lt in'), are);
              cells = f.cells;
              plays = subst (λ z. LocalPlays (region_at regions k).touch z f.moves f.cells) from f.plays;
              holds = f.holds;
            }
      ]

-- the regions' own cells
abbrev openings : List Region → List (List Cell)
openings rs = map (λ r. r.cells) rs

held_start : (g : Board) (regions : List Region) (cut : AreRegionsOfPlay g regions) → HoldPositions g regions cut (openings regions) g
held_start g regions cut = record {
  many = length-map regions (λ r. r.cells);
  each = λ k d lt. let r = get_or regions k d in let among = Contains-get_or regions k d lt in
      subst (λ x. HoldsPosition g r x g) (sym (get_or-map (λ r. r.cells) regions k d [] lt))
      (holds_start g r (cut.each r among) (cut.each r among).proper.full);
}

-- a point that isn't contested is an alive stone or counted, and those never change
others_stay : (g h : Board) → WallsStand g h → (p : ℕ) → p < length g.cells → ¬ IsContested g p → cell_at h p ≡ cell_at g p
others_stay g h walls p lt not = elim (same_or_not (cell_at h p) (cell_at g p)) [
  | inl e ↦ e
  | inr ne ↦
      let alive : (c : Colour) → ¬ IsAlive g c p = λ c a. ne ((walls.stones c p a).1 ∙ sym (a.1.stones p a.2).1) in
      absurd (not (lt, alive Black, alive White, (λ w. ne (walls.counted Black p w)), λ w. ne (walls.counted White p w)))
]

pub regions_follow : RegionsFollow
regions_follow g regions black white komi side tax s t ms settled cut opening plays =
    let keeps = keeps_start g black white komi side tax s opening in
    let held = subst (λ z. HoldPositions g regions cut (openings regions) z) (sym opening.board) (held_start g regions cut) in (
      λ r (k, lt, e).
          let here : region_at regions k ≡ r = get_or_default regions k no_region r lt ∙ e in
          let f = follows g settled regions cut s t ms (openings regions) k keeps held plays lt in
          let from : get_or (openings regions) k [] ≡ r.cells = get_or-map (λ r. r.cells) regions k no_region [] lt ∙ ap (λ x. x.cells) here in
          record {
            local = f.moves;
            moves = subst (λ d. AreMovesIn r d ms f.moves) opening.turn (subst (λ x. AreMovesIn x s.side ms f.moves) here f.are);
            cells = f.cells;
            plays = subst (λ x. LocalPlays r.touch x f.moves f.cells) from (subst (λ x. LocalPlays x.touch (get_or (openings regions) k []) f.moves f.cells) here f.plays);
            holds = subst (λ x. HoldsPosition g x f.cells t.board) here f.holds;
          },
      others_stay g t.board (keeps_plays g settled s t ms keeps plays).walls,
    )
