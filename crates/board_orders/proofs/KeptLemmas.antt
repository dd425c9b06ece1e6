-- What a session keeps stays fit.
use Rattle.std.proofs.Common.{◌≡◌, ◌≢◌, ◌≤◌, ◌<◌, ◌+◌, ◌-◌, ◌^◌, ◌++◌, ◌∷◌, ℕ, ℤ, List, [], length, take, get_or, arith, inl, inr, refl, sym, ap, ◌∙◌, subst, to_z, of_z, w64}
use Rattle.std.specs.List.{All}
use Rattle.std.proofs.lemmas.Int.{fits_signed_from_abs, ints, to_z-of_z}
use Rattle.sgf_go.specs.Komi.{IsInRange}
use Rattle.go_play.specs.Setup.{HasFewPrisoners, Setup}
use Rattle.std.proofs.lemmas.Bool.{cases_lt}
use Rattle.std.proofs.lemmas.List.{get_or_push, length_push, take_all, take_more, take-append-le}
use Rattle.std.proofs.lemmas.List.Elements.{All-get_or, All-push, All-take}
use Rattle.go_grid.specs.declared.grid.Colour.{Colour}
use Rattle.go_grid.specs.declared.grid.Colour.TheVariants.{Black, White}
use Rattle.go_play.specs.Place.{IsSameGround}
use Rattle.board_orders.specs.declared.position.MadeMove.{MadeMove}
use Rattle.board_orders.specs.declared.position.Position.{Position}
use Rattle.board_orders.specs.Kept.{IsFit, IsFitAfter, IsModest, IsOnBoard}
use Rattle.board_orders.specs.States.{after_moves, taken_up}
use Rattle.board_orders.specs.Tallies.{Tally, grown, number_of}
use Rattle.board_orders.specs.inner.Doing.{GrowsTo, HasRoom}

-- the position after a list of moves is that after its last one
pub after_push : (a : Position) (moves : List MadeMove) (m : MadeMove) → after_moves a (moves ++ m ∷ []) ≡ m.after
after_push a [] m = refl
after_push a (x ∷ moves) m = after_push x.after moves m

pub after_last : (a : Position) (moves : List MadeMove) (d : MadeMove) → length moves ≢ 0 → after_moves a moves ≡ (get_or moves (length moves - 1) d).after
after_last a moves d some =
    let i = length moves - 1 in
    let whole : moves ≡ take i moves ++ get_or moves i d ∷ [] = sym (take_all (i + 1) moves (omega (arith, some))) ∙ take_more moves i d (omega (arith, some)) in
    ap (after_moves a) whole ∙ after_push a (take i moves) (get_or moves i d)

-- one number grows
pub grown_most : (c d : Colour) (n : ℕ) (t : Tally) → number_of d (grown c n t) ≤ number_of d t + n
grown_most Black Black n t = omega arith
grown_most Black White n t = omega arith
grown_most White Black n t = omega arith
grown_most White White n t = omega arith

-- stones are taken by a stone that is placed
pub grown_fits : (c : Colour) (n more : ℕ) (t : Tally) → n ≤ 65535 → more ≡ n → number_of c t + 65535 < 2 ^ 64 → number_of c t + more < 2 ^ 64
grown_fits c n more t few is room = omega (arith, few, is, room)

pub stone_grows : (a b : Position) (c : Colour) (n : ℕ) → IsSameGround a.board b.board → n ≤ 65535 → b.prisoners ≡ grown c n a.prisoners → b.passes ≡ a.passes → GrowsTo a b
stone_grows a b c n same few prisoners passes = record {
  ground = same;
  prisoners = λ d. let most = grown_most c d n a.prisoners in let now = ap (number_of d) prisoners in omega (arith, few, most, now);
  passes = λ d. let now = ap (number_of d) passes in omega (arith, now);
}

-- one move more
pub fits_next : (start : Position) (n : ℕ) (a b : Position) → IsFitAfter start n a → GrowsTo a b → IsFitAfter start (n + 1) b
fits_next start n a b fit more = record {
  ground = record {
    columns = more.ground.columns ∙ fit.ground.columns;
    rows = more.ground.rows ∙ fit.ground.rows;
    declared = more.ground.declared ∙ fit.ground.declared;
  };
  prisoners = λ c. omega (arith, fit.prisoners c, more.prisoners c);
  passes = λ c. omega (arith, fit.passes c, more.passes c);
}

-- the numbers of a session's positions can grow
pub fits_room : (start : Position) (n : ℕ) (a : Position) → n < 10000 → ((c : Colour) → number_of c start.prisoners < 2 ^ 39) → IsFitAfter start n a → HasRoom a
fits_room start n a few modest fit c = (omega (arith, few, modest c, fit.prisoners c), omega (arith, few, fit.passes c))

-- the position on the board fits
pub fits_present : (halves : ℤ) (setup : Position) (moves : List MadeMove) → IsFit halves setup moves → IsFitAfter setup (length moves) (after_moves setup moves)
fits_present halves setup moves fit = subst (λ l. IsFitAfter setup (length moves) (after_moves setup l)) (take_all (length moves) moves (omega arith)) (fit.positions (length moves) (omega arith))

-- a move more
pub fits_push : (halves : ℤ) (setup : Position) (moves : List MadeMove) (m : MadeMove) → IsFit halves setup moves → IsFitAfter setup (length moves + 1) m.after
    → IsOnBoard setup.board.columns setup.board.rows m.chosen → IsModest m.komi_before → IsFit halves setup (moves ++ m ∷ [])
fits_push halves setup moves m fit last on_board in_range = record {
  komi = fit.komi;
  start = fit.start;
  positions = λ n le. elim (cases_lt n (length moves + 1)) [
    | inl lt ↦
        subst (λ l. IsFitAfter setup n (after_moves setup l)) (sym (take-append-le n moves (m ∷ []) (omega (arith, lt)))) (fit.positions n (omega (arith, lt)))
    | inr past ↦
        let whole : length moves + 1 ≡ n = omega (arith, past, le, length_push moves m) in
        subst (λ k. IsFitAfter setup k (after_moves setup (take k (moves ++ m ∷ [])))) whole
        (subst (λ l. IsFitAfter setup (length moves + 1) (after_moves setup l)) (sym (take_all (length moves + 1) (moves ++ m ∷ []) (omega (arith, length_push moves m))))
        (subst (IsFitAfter setup (length moves + 1)) (sym (after_push setup moves m)) last))
  ];
  stones = All-push (λ x. IsOnBoard setup.board.columns setup.board.rows x.chosen) moves m fit.stones on_board;
  komis = All-push (λ x. IsModest x.komi_before) moves m fit.komis in_range;
}

-- what holds of a list holds of its front
all_front : (P : MadeMove → Type 0) (rest : List MadeMove) (m : MadeMove) → All P (rest ++ m ∷ []) → All P rest
all_front P rest m all = subst (All P) (take-append-le (length rest) rest (m ∷ []) (omega arith) ∙ take_all (length rest) rest (omega arith)) (All-take P (length rest) (rest ++ m ∷ []) all)

-- a move less
pub fits_pop : (halves : ℤ) (setup : Position) (moves rest : List MadeMove) (m : MadeMove) → moves ≡ rest ++ m ∷ [] → IsFit halves setup moves → IsFit halves setup rest
fits_pop halves setup moves rest m is whole =
    let fit = subst (IsFit halves setup) is whole in
    record {
      komi = fit.komi;
      start = fit.start;
      positions = λ n le.
          subst (λ l. IsFitAfter setup n (after_moves setup l)) (take-append-le n rest (m ∷ []) le) (fit.positions n (omega (arith, le, length_push rest m)));
      stones = all_front (λ x. IsOnBoard setup.board.columns setup.board.rows x.chosen) rest m fit.stones;
      komis = all_front (λ x. IsModest x.komi_before) rest m fit.komis;
    }

-- the komi before the last move was in range
pub last_modest : (halves : ℤ) (setup : Position) (moves rest : List MadeMove) (m : MadeMove) → moves ≡ rest ++ m ∷ [] → IsFit halves setup moves → IsModest m.komi_before
last_modest halves setup moves rest m is whole =
    let fit = subst (IsFit halves setup) is whole in
    subst (λ x. IsModest x.komi_before) (get_or_push rest m m (length rest) refl) (All-get_or (λ x. IsModest x.komi_before) (rest ++ m ∷ []) (length rest) m (omega (arith, length_push rest m)) fit.komis)

-- the komi that is read again
pub same_komi : (halves : ℤ) → IsModest halves → to_z w64 (of_z w64 halves) ≡ halves
same_komi halves modest = to_z-of_z w64 halves (fits_signed_from_abs w64 halves (omega (arith, ints, modest)))

-- a komi in the range of commands is modest
pub modest_komi : (halves : ℤ) → IsInRange halves → IsModest halves
modest_komi halves in_range = omega (arith, ints, in_range.0, in_range.1)

-- a position with few prisoners can be taken up
pub fits_start : (setup : Setup) → IsModest setup.komi_halves → HasFewPrisoners setup → IsFit setup.komi_halves (taken_up setup.board setup.black_prisoners setup.white_prisoners) []
fits_start setup modest few = record {
  komi = modest;
  start = λ c. small c;
  positions = λ n le. let start = taken_up setup.board setup.black_prisoners setup.white_prisoners in let none_left : 0 ≡ n = omega (arith, le) in
      subst (λ k. IsFitAfter start k (after_moves start (take k []))) none_left (record {
        ground = record { columns = refl; rows = refl; declared = refl };
        prisoners = λ c. omega arith;
        passes = none;
      });
  stones = λ k d lt. absurd (omega (arith, lt));
  komis = λ k d lt. absurd (omega (arith, lt));
}
  where
    small : (c : Colour) → number_of c (taken_up setup.board setup.black_prisoners setup.white_prisoners).prisoners < 2 ^ 39
    small Black = few.black
    small White = few.white

    none : (c : Colour) → number_of c (taken_up setup.board setup.black_prisoners setup.white_prisoners).passes ≤ 0
    none Black = omega arith
    none White = omega arith
