-- The move of a stone, by sets.
use Rattle.std.proofs.Common.{◌≡◌, ℕ, ◌+◌, ◌<◌, ◌↔◌, inl, inr, arith, refl, sym, ap, ◌∙◌, List, length, cond, subst, count_by}
use Rattle.std.proofs.lemmas.List.Sums.{sum_by-set}
use Rattle.go_grid.specs.declared.grid.Cell.{Cell}
use Rattle.go_grid.specs.declared.grid.Cell.TheVariants as cell
use Rattle.go_grid.specs.declared.region.Touch.{Touch}
use Rattle.go_grid.specs.Board.{stone, other}
use Rattle.local_play.specs.LocalPlay.{held_at, Holds, IsLinked, IsLocalMove, with_stone, is_stone}
use Rattle.local_play.specs.inner.LocalPlay.{IsRemoved}
use Rattle.local_play.specs.Packed.{pack}
use Rattle.local_play.specs.inner.Packed.{cleared}
use Rattle.local_play.specs.Moves.{IsMoveFrom}
use Rattle.local_play.specs.declared.places.Places.{Places}
use Rattle.local_play.specs.declared.links.Links.{Links}
use Rattle.local_play.specs.declared.links.Reached.{Reached}
use Rattle.local_play.specs.declared.local_move.LocalMove.{LocalMove}
use Rattle.local_play.specs.declared.local_move.Turn.{Turn}
use Rattle.local_play.specs.Places.{Has}
use Rattle.local_play.specs.inner.Places.{IsCountOf}
use Rattle.local_play.specs.Links.{IsTable, near_at}
use Rattle.local_play.specs.inner.Links.{IsReached}
use Rattle.local_play.specs.inner.Lasting.{IsTurn, CanStand, Lasts, Takes, Stands}
use Rattle.local_play.proofs.PackBitLemmas.{length-cleared, cleared_gone, cleared_kept, cleared_count}
use Rattle.local_play.proofs.SetLemmas.{alone_bit}
use Rattle.local_play.proofs.LinkLemmas.{linked_place}
use Rattle.local_play.proofs.LastingLemmas.{stone_stands, removed_is, removed_from, removed_stands, stands_free, not_legal}
use Rattle.local_play.proofs.JudgingLemmas.{flooded}

module _ (touch : List Touch) (cells : List Cell) (links : Links) (t : Turn) (p : ℕ) (near weak taken : Places)
    (table : IsTable touch links) (turn : IsTurn touch cells t) (here : Has t.empty p) (small : p < 32) (is_near : near ≡ near_at links p)
    (is_weak : (q : ℕ) → Has weak q ↔ (Has t.foe.stones q × ¬ Has t.foe.lasting q))
    (is_taken : (q : ℕ) → Has taken q ↔ (Has near q × Has weak q)) where
  pub place : p < length cells
  place = let w = ((turn.empty p).0 here).0 in omega (arith, w, turn.long)

  pub empty : held_at cells p ≡ cell.Empty
  empty = ((turn.empty p).0 here).1

  near_linked : (q : ℕ) → Has near q → IsLinked touch p q
  near_linked q h = ((table.table.near p q small).0 (subst (λ x. Has x q) is_near h)).1

  linked_near : (q : ℕ) → IsLinked touch p q → Has near q
  linked_near q link = subst (λ x. Has x q) (sym is_near) ((table.table.near p q small).1 (linked_place touch p q link, link))

  taken_weak : (q : ℕ) → Has taken q → IsLinked touch p q × Holds cells (other t.colour) q × ¬ Lasts touch cells (other t.colour) q
  taken_weak q h =
      let w = (is_taken q).0 h in
      let f = (is_weak q).0 w.1 in
      let holds = (turn.foe.stones q).0 f.0 in
      (near_linked q w.0, holds, λ l. f.1 ((turn.foe.lasting q).1 (holds, l)))

  weak_taken : (q : ℕ) → IsLinked touch p q → Holds cells (other t.colour) q → ¬ Lasts touch cells (other t.colour) q → Has taken q
  weak_taken q link holds weak' =
      (is_taken q).1 (linked_near q link, (is_weak q).1 ((turn.foe.stones q).1 holds, λ l. weak' ((turn.foe.lasting q).0 l).1))

  stands_can : Stands touch cells p t.colour → CanStand t near p
  stands_can s = elim s [
    | inl (k, link, bare) ↦ inl (k, linked_near k link, inl ((turn.empty k).1 (table.within.inside p k link, bare)))
    | inr (inl beside) ↦ inr ((turn.own.beside p).1 beside)
    | inr (inr (i, link, holds, lasts)) ↦ inl (i, linked_near i link, inr ((turn.own.lasting i).1 (holds, lasts)))
  ]

  can_stand : CanStand t near p → Stands touch cells p t.colour
  can_stand s = elim s [
    | inl (q, link, inl bare) ↦ inl (q, near_linked q link, ((turn.empty q).0 bare).1)
    | inl (q, link, inr lasts) ↦ let w = (turn.own.lasting q).0 lasts in inr (inr (q, near_linked q link, w.0, w.1))
    | inr beside ↦ inr (inl ((turn.own.beside p).0 beside))
  ]

  takes_none : ((q : ℕ) → ¬ Has taken q) → ¬ Takes touch cells p t.colour
  takes_none none (i, link, holds, weak') = none i (weak_taken i link holds weak')

  pub tried_none : ((q : ℕ) → ¬ Has taken q) → ¬ CanStand t near p → (after : List Cell) → ¬ IsLocalMove touch cells t.colour p after
  tried_none none not after =
      not_legal touch cells p t.colour table.within place empty (λ s. not (stands_can s)) (takes_none none) after

  count_more : count_by is_stone (with_stone cells p t.colour) ≡ count_by is_stone cells + 1
  count_more =
      let step = sum_by-set (λ x. cond (is_stone x) 1 0) cells p (stone t.colour) cell.Empty place in
      let step' = rw (empty, stone_stands t.colour) at step in
      omega (arith, step')

  pub tried_plain : (m : LocalMove) → m.colour ≡ t.colour → m.place ≡ p → m.next ≡ pack (with_stone cells p t.colour) → m.taken ≡ 0
      → ((q : ℕ) → ¬ Has taken q) → CanStand t near p → IsMoveFrom touch cells m
  tried_plain m ec ep en et none can = record {
    after = with_stone cells p t.colour;
    move = subst (λ x. IsLocalMove touch cells x m.place (with_stone cells p t.colour)) (sym ec)
        (subst (λ x. IsLocalMove touch cells t.colour x (with_stone cells p t.colour)) (sym ep) record {
          place = place;
          free = empty;
          without = record { long = refl; gone = λ q r. absurd (removed_none q r); kept = λ q _. refl };
          stands = stands_free touch cells p t.colour table.within place empty (with_stone cells p t.colour)
              (λ q r. absurd (removed_none q r)) (λ q _. refl) (inl (can_stand can));
        });
    next = en;
    taken = omega (arith, et, count_more);
  }
    where
      removed_none : (q : ℕ) → IsRemoved touch (with_stone cells p t.colour) p (other t.colour) q → ⊥
      removed_none q r =
          let w = removed_is touch cells p t.colour table.within place empty q r in takes_none none (w.0, w.1, w.2, w.3)

  pub gone_is : (r : Reached) → IsReached touch taken t.foe.stones r → (q : ℕ)
      → Has r.places q ↔ IsRemoved touch (with_stone cells p t.colour) p (other t.colour) q
  gone_is r reached q = (
    λ h.
        let w = (flooded touch cells (other t.colour) taken t.foe.stones r turn.foe.stones reached q).0 h in
        let k = taken_weak w.0 w.1 in
        removed_from touch cells p t.colour table.within place empty w.0 q k.0 k.1 k.2 w.2,
    λ rem.
        let w = removed_is touch cells p t.colour table.within place empty q rem in
        (flooded touch cells (other t.colour) taken t.foe.stones r turn.foe.stones reached q).1 (w.0, weak_taken w.0 w.1 w.2 w.3, w.4),
  )

  pub gone_holds : (r : Reached) → IsReached touch taken t.foe.stones r → (q : ℕ) → Has r.places q
      → Holds (with_stone cells p t.colour) (other t.colour) q
  gone_holds r reached q h = removed_stands touch cells p t.colour table.within place empty q ((gone_is r reached q).0 h)

  pub tried_taking : (m : LocalMove) (r : Reached) (one : ℕ) → IsReached touch taken t.foe.stones r → Has taken one → m.colour ≡ t.colour
      → m.place ≡ p → m.next ≡ pack (cleared r.places.0 (with_stone cells p t.colour)) → IsCountOf r.places m.taken → IsMoveFrom touch cells m
  tried_taking m r one reached some ec ep en count =
      let after = cleared r.places.0 (with_stone cells p t.colour) in
      let gone = λ (q : ℕ) (rem : IsRemoved touch (with_stone cells p t.colour) p (other t.colour) q).
      cleared_gone r.places.0 (with_stone cells p t.colour) q ((gone_is r reached q).1 rem) in
      let kept = λ (q : ℕ) (not : ¬ IsRemoved touch (with_stone cells p t.colour) p (other t.colour) q).
      cleared_kept r.places.0 (with_stone cells p t.colour) q (λ h. not ((gone_is r reached q).0 h)) in
      let fewer = cleared_count (with_stone cells p t.colour) r.places.0 count.alone (alone_bit r.places count.alone count.is_alone)
      count.is_alone.between (λ q h. ap is_stone (gone_holds r reached q h) ∙ stone_stands (other t.colour)) in
      record {
        after = after;
        move = subst (λ x. IsLocalMove touch cells x m.place after) (sym ec)
            (subst (λ x. IsLocalMove touch cells t.colour x after) (sym ep) record {
              place = place;
              free = empty;
              without = record { long = length-cleared r.places.0 (with_stone cells p t.colour); gone = gone; kept = kept };
              stands = stands_free touch cells p t.colour table.within place empty after gone kept (inr (one, (taken_weak one some).0, (taken_weak one some).1, (taken_weak one some).2));
            });
        next = en;
        taken = omega (arith, fewer, count.count, count_more);
      }
