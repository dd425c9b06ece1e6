-- Stones that were tried: whole chains of them have room, as the alive ones do.
use Rattle.std.proofs.Common.{◌≡◌, ℕ, ◌+◌, ◌⊎◌, inl, inr, List, Bool, false, length, sym, subst, arith}
use Rattle.std.specs.List.{Contains}
use Rattle.std.specs.Prelude.{slice_index_or}
use Rattle.std.proofs.lemmas.Bool.{cases_Bool, cases_eq, both_ways}
use Rattle.go_grid.specs.declared.grid.Colour.{Colour}
use Rattle.go_grid.specs.Board.{HasStone, other}
use Rattle.go_grid.specs.Chain.{InChain}
use Rattle.go_grid.specs.Marks.{IsMarked, Marks}
use Rattle.go_play.specs.Place.{Placings, Stands}
use Rattle.benson_life.proofs.StandLemmas.{healthy_stands}
use Rattle.benson_life.proofs.StrikingLemmas.{room_chain, room_more}
use Rattle.benson_attack.specs.declared.captures.Run.{Run}
use Rattle.benson_attack.specs.inner.Reached.{AllAlive, AreTriedBelow, HasRoomYet}
use Rattle.benson_attack.proofs.AttackLemmas.{twice}
use Rattle.benson_attack.proofs.ReachLemmas.{chain_before}
use Rattle.benson_attack.proofs.RunLemmas.{alive_all}

pub marked_or_not : (marks : List Bool) (p : ℕ) → IsMarked marks p ⊎ (IsMarked marks p → ⊥)
marked_or_not marks p = elim (cases_Bool (slice_index_or marks p false)) as (λ _. IsMarked marks p ⊎ (IsMarked marks p → ⊥)) [
  | inl e ↦ inl e
  | inr e ↦ inr (λ m. absurd (both_ways _ e m))
]

-- an alive stone keeps its room, since the stones of its healthy list stand
alive_room : (d : Colour) (alive : List Bool) (run : Run) (v : ℕ) → IsMarked alive v → HasRoomYet d alive run v
alive_room d alive run v mark g settled marks rest =
    let (S, healthy, at) = (marks v).0 mark in
    let stands : (q : ℕ) → Contains S q → Stands g (other d) q = healthy_stands g (other d) S settled healthy in
    room_more g (other d) (Contains S) (HasStone run.board (other d)) (λ q in'.
    stands q in' run.placings.items run.board (subst (λ c. Placings c g run.placings.items run.board) (sym (twice d)) rest.1)) v
    (healthy.room v at)

module _ (d : Colour) (alive left : List Bool) (run : Run) where
  pub tried_first : (stones : List Bool) → Marks stones (HasStone run.board (other d))
      → Marks left (λ q. IsMarked stones q × (IsMarked alive q → ⊥)) → AreTriedBelow d alive left run 0
  tried_first stones is open' = record {
    stand = λ v m. (is v).0 ((open' v).0 m).0;
    below = λ v s lt. absurd (omega (arith, lt));
    tried = λ v s n. elim (marked_or_not alive v) as (λ _. HasRoomYet d alive run v) [
      | inl m ↦ alive_room d alive run v m
      | inr m ↦ absurd (n ((open' v).1 ((is v).1 s, m)))
    ];
  }

  pub tried_skip : (n : ℕ) → AreTriedBelow d alive left run n → (IsMarked left n → ⊥) → AreTriedBelow d alive left run (n + 1)
  tried_skip n w skip = record {
    stand = w.stand;
    below = λ v s lt. elim (cases_eq v n) as (λ _. HasRoomYet d alive run v) [
      | inl e ↦ w.tried v s (λ m. skip (subst (IsMarked left) e m))
      | inr ne ↦ w.below v s (omega (arith, lt, ne))
    ];
    tried = w.tried;
  }

  pub tried_more : (n : ℕ) (chain less : List Bool) → AreTriedBelow d alive left run n → HasRoomYet d alive run n
      → Marks chain (InChain run.board (other d) n) → Marks less (λ q. IsMarked left q × (IsMarked chain q → ⊥))
      → AreTriedBelow d alive less run (n + 1)
  tried_more n chain less w room is rest = record {
    stand = λ v m. w.stand v ((rest v).0 m).0;
    below = λ v s lt. elim (cases_eq v n) as (λ _. HasRoomYet d alive run v) [
      | inl e ↦ subst (HasRoomYet d alive run) (sym e) room
      | inr ne ↦ w.below v s (omega (arith, lt, ne))
    ];
    tried = λ v s not. elim (marked_or_not chain v) as (λ _. HasRoomYet d alive run v) [
      | inl m ↦ λ g settled marks at.
          room_chain g (other d) (HasStone run.board (other d)) n v
          (chain_before g d (λ _. ⊥) run.board at.0 n v ((is v).0 m)) (room g settled marks at)
      | inr m ↦ w.tried v s (λ l. not ((rest v).1 (l, m)))
    ];
  }

  pub tried_all : (n : ℕ) (stones : List Bool) → AreTriedBelow d alive left run n → length run.board.cells ≡ n
      → Marks stones (HasStone run.board (other d)) → AllAlive d alive run
  tried_all n stones w e is = alive_all d alive run stones is (λ v s. w.below v s (omega (arith, e, s.0)))
