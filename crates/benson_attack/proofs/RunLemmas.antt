-- Runs: what an attack on one stone keeps, and how it ends.
use Rattle.std.proofs.Common.{◌≡◌, ◌≢◌, ℕ, ◌<◌, ◌+◌, ◌⊎◌, ◌↔◌, inl, inr, List, [], ◌∷◌, ◌++◌, Bool, true, false, Some, length, refl, sym, ap, ◌∙◌, subst, arith}
use Rattle.std.specs.List.{Contains}
use Rattle.std.proofs.lemmas.Bool.{cases_eq}
use Rattle.std.proofs.lemmas.List.{length-append}
use Rattle.go_grid.specs.declared.grid.Colour.{Colour}
use Rattle.go_grid.specs.Board.{Board, HasStone, IsClosedOff, IsUndeclared, other}
use Rattle.go_grid.specs.Chain.{InChain, IsLiberty, HasLiberty, IsSettled}
use Rattle.go_grid.specs.Marks.{IsMarked, Marks}
use Rattle.go_grid.proofs.PointsLemmas.{some_list}
use Rattle.go_grid.proofs.DecidedChainLemmas.{in_either, in_first, in_more}
use Rattle.go_play.specs.Place.{IsPlaced, IsSuicide, Placings}
use Rattle.benson_life.specs.Life.{HasRoom, IsHealthy}
use Rattle.benson_life.proofs.StrikingLemmas.{room_more}
use Rattle.benson_attack.specs.declared.captures.Run.{Run}
use Rattle.benson_attack.specs.Reached.{IsReachedUnderAttack, IsAtRest, number_of_stones}
use Rattle.benson_attack.specs.inner.Reached.{HasDeclaredBreath, HasRefusals, Presses, Follows, Captures, IsPressed, AllAlive, HasRoomYet}
use Rattle.benson_attack.proofs.LegalLemmas.{captures, long, stood_earlier, not_suicide}
use Rattle.benson_attack.proofs.ReachLemmas.{declared_before, refused_eyes, reached_first, reached_over, reached_next, placings_more}
use Rattle.benson_attack.proofs.CountLemmas.{rises}
use Rattle.benson_attack.proofs.PlacingLemmas.{declared_breath_or_not}

-- an item that isn't the given one, or all are it
same_or_apart : (p : ℕ) (xs : List ℕ) → ((q : ℕ) → Contains xs q → q ≡ p) ⊎ ((q : ℕ) × Contains xs q × (p ≢ q))
same_or_apart p [] = inl (λ q at. absurd (omega (arith, at.1)))
same_or_apart p (x ∷ xs) = elim (cases_eq p x)
    as (λ _. ((q : ℕ) → Contains (x ∷ xs) q → q ≡ p) ⊎ ((q : ℕ) × Contains (x ∷ xs) q × (p ≢ q))) [
      | inr ne ↦ inr (x, in_first x xs, ne)
      | inl e ↦ elim (same_or_apart p xs) as (λ _. ((q : ℕ) → Contains (x ∷ xs) q → q ≡ p)
          ⊎ ((q : ℕ) × Contains (x ∷ xs) q × (p ≢ q))) [
            | inr t ↦ inr (t.0, in_more x xs t.0 t.1, t.2)
            | inl all ↦ inl (λ q at. elim (in_either x xs q at) as (λ _. q ≡ p) [ inl k ↦ k ∙ sym e | inr more ↦ all q more ])
          ]
    ]

-- where each placing at a liberty is refused, there are two
pub two_listed : (h : Board) (d : Colour) (v : ℕ) → ((p : ℕ) → IsLiberty h (other d) v p → IsSuicide h p d) → ¬ ¬ HasLiberty h (other d) v
    → (points : List ℕ) → ((p : ℕ) → Contains points p ↔ IsLiberty h (other d) v p) → HasRefusals h d v
two_listed h d v refused some [] each = absurd (some (λ l. omega (arith, ((each l.0).1 l.1).1)))
two_listed h d v refused some (p ∷ points) each =
    let l = (each p).0 (in_first p points) in
    elim (same_or_apart p points) as (λ _. HasRefusals h d v) [
      | inl all ↦
          let r = refused p l in
          absurd (not_suicide h d p r (captures h d p (record h { cells = r.0 }) l.0 (record { columns = refl; rows = refl; declared = refl }) r.1 v l (λ q k. elim (in_either p points q ((each q).1 k)) as (λ _. q ≡ p) [
            | inl e ↦ e
            | inr at ↦ all q at
          ])))
      | inr t ↦
          let k = (each t.0).0 (in_more p points t.0 t.1) in
          record {
            one = p;
            two = t.0;
            apart = t.2;
            one_liberty = l;
            one_refused = refused p l;
            two_liberty = k;
            two_refused = refused t.0 k;
          }
    ]

-- where each placing at a liberty that isn't declared is refused, some liberty is declared, or there are two such
pub declared_or_two : (h : Board) (d : Colour) (v : ℕ) → ((p : ℕ) → IsLiberty h (other d) v p → IsUndeclared h p → IsSuicide h p d)
    → ¬ ¬ HasLiberty h (other d) v → (points : List ℕ) → ((p : ℕ) → Contains points p ↔ IsLiberty h (other d) v p)
    → HasDeclaredBreath h d v ⊎ HasRefusals h d v
declared_or_two h d v refused some points each = elim (declared_breath_or_not h d v) as (λ _. HasDeclaredBreath h d v ⊎ HasRefusals h d v) [
  | inl breath ↦ inl breath
  | inr none ↦ inr (two_listed h d v (λ p l. refused p l (λ c declared. none (p, (c, declared), l))) some points each)
]

pub two_refused : (h : Board) (d : Colour) (v : ℕ) (liberties : List Bool) → Marks liberties (IsLiberty h (other d) v)
    → ((p : ℕ) → IsLiberty h (other d) v p → IsUndeclared h p → IsSuicide h p d) → ¬ ¬ HasLiberty h (other d) v
    → HasDeclaredBreath h d v ⊎ HasRefusals h d v
two_refused h d v liberties is refused some =
    let (points, listed) = some_list liberties in
    declared_or_two h d v refused some points (λ p. (λ at. (is p).0 ((listed p).0 at), λ l. (listed p).1 ((is p).1 l)))

-- a legal placing at a liberty
pub presses_at : (d : Colour) (v : ℕ) (g now h : Board) (p : ℕ) (liberties : List Bool) → Marks liberties (IsLiberty g (other d) v) → IsMarked liberties p → now ≡ g
    → IsUndeclared now p → IsPlaced now p d h → Presses d v g h (Some p)
presses_at d v g now h p liberties is marked same outside placed =
    (subst (λ b. IsUndeclared b p) same outside, (is p).0 marked, subst (λ b. IsPlaced b p d h) same placed)

-- an attack on a stone that stands begins at the run
pub pressed_first : (d : Colour) (v : ℕ) (run : Run) → HasStone run.board (other d) v → IsPressed d v run run
pressed_first d v run at = record {
  short = λ few. few;
  long = refl;
  goes = λ g rest. (
    record {
      columns = rest.0.columns;
      long = rest.0.long;
      declared = rest.0.declared;
      stood = rest.0.stood;
      taken = rest.0.taken;
      whole = rest.0.whole;
      breathes = rest.0.breathes;
      filled = λ q free held. let (r, next, stood, gone) = rest.0.filled q free held in (r, next, stood, λ there. absurd (gone there));
    },
    rest.1,
  );
  fewer = λ q there. there;
  least = omega arith;
  more = inl at;
}

-- one placing more
pub pressed_next : (d : Colour) (v : ℕ) (old now new : Run) (p : ℕ) → IsPressed d v old now → IsUndeclared now.board p
    → IsLiberty now.board (other d) v p → IsPlaced now.board p d new.board → new.placings.items ≡ now.placings.items ++ p ∷ [] → IsPressed d v old new
pressed_next d v old now new p w outside l placed items =
    let up = rises now.board d p new.board placed in record {
      short = λ k.
          let one_more : length new.placings.items ≡ length now.placings.items + 1 = ap length items ∙ length-append now.placings.items (p ∷ []) in
          let few = w.short k in
          omega (arith, up, one_more, few);
      long = long now.board d p new.board (placed.1.place, placed.1.free) placed.0 placed.1.without ∙ w.long;
      goes = λ g rest. let run = w.goes g rest in (
        reached_next g d v now.board run.0 p l new.board placed,
        subst (λ ps. Placings d g ps new.board) (sym items)
            (placings_more d g now.placings.items now.board p new.board run.1 outside placed),
      );
      fewer = λ q k. w.fewer q (stood_earlier now.board d p new.board placed q k);
      least = omega (arith, w.least, up);
      more = inr (omega (arith, w.least, up));
    }

-- a declared liberty is room, and so are two eyes that can't be filled
pub held_room : (g : Board) (d : Colour) (v : ℕ) (h : Board) → IsReachedUnderAttack g d (InChain g (other d) v) h → IsClosedOff g
    → HasDeclaredBreath h d v ⊎ HasRefusals h d v → HasRoom g (other d) (HasStone h (other d)) v
held_room g d v h w closed (inl breath) = inl (declared_before g d (InChain g (other d) v) h w closed v breath)
held_room g d v h w closed (inr r) =
    inr (refused_eyes g d v h w r.one r.two r.apart r.one_liberty r.one_refused r.two_liberty r.two_refused)

-- it ends with the stone taken
pub pressed_taken : (d : Colour) (v : ℕ) (old now : Run) → IsPressed d v old now → ¬ HasStone now.board (other d) v → Follows d old now
pressed_taken d v old now w gone = record {
  short = w.short;
  long = w.long;
  goes = λ g rest. let run = w.goes g rest in (reached_over g d v now.board run.0 gone, run.1);
  more = elim w.more as (λ _. number_of_stones d old.board < number_of_stones d now.board) [ inl s ↦ absurd (gone s) | inr lt ↦ lt ];
}

-- or with room
pub pressed_held : (d : Colour) (v : ℕ) (old now : Run) → IsPressed d v old now → HasStone now.board (other d) v
    → (¬ ¬ HasLiberty now.board (other d) v → HasDeclaredBreath now.board d v ⊎ HasRefusals now.board d v)
    → (g : Board) → IsClosedOff g → IsAtRest g d old → HasRoom g (other d) (HasStone old.board (other d)) v
pressed_held d v old now w s refused g closed rest =
    let run = w.goes g rest in
    room_more g (other d) (HasStone now.board (other d)) (HasStone old.board (other d)) w.fewer v
    (held_room g d v now.board run.0 closed (refused (run.0.breathes v s)))

-- the same from a copy of the run
rest_of_copy : (g : Board) (d : Colour) (run copy : Run) → copy.board ≡ run.board → copy.placings.items ≡ run.placings.items
    → IsAtRest g d run → IsAtRest g d copy
rest_of_copy g d run copy same items rest = (
  subst (IsReachedUnderAttack g d (λ _. ⊥)) (sym same) rest.0,
  subst (λ b. Placings d g copy.placings.items b) (sym same) (subst (λ ps. Placings d g ps run.board) (sym items) rest.1),
)

-- an attack that failed from a copy
pub failed_copy : (d : Colour) (v : ℕ) (run copy new : Run) (b : Bool) → copy.board ≡ run.board
    → copy.placings.items ≡ run.placings.items → Captures d v copy new b → b ≡ false
    → (g : Board) → IsClosedOff g → IsAtRest g d run → HasRoom g (other d) (HasStone run.board (other d)) v
failed_copy d v run copy new true same items w e g closed rest = cc
failed_copy d v run copy new false same items w e g closed rest =
    subst (λ b. HasRoom g (other d) (HasStone b (other d)) v) same (w g closed (rest_of_copy g d run copy same items rest))

pub taken_copy : (d : Colour) (v : ℕ) (run copy new : Run) (b : Bool) → copy.board ≡ run.board
    → copy.placings.items ≡ run.placings.items → Captures d v copy new b → b ≡ true → Follows d run new
taken_copy d v run copy new true same items w e = record {
  short = λ few. w.0.short (omega (arith, few, ap length items, ap (number_of_stones d) same));
  long = w.0.long ∙ ap (λ b. length b.cells) same;
  goes = λ g rest. w.0.goes g (rest_of_copy g d run copy same items rest);
  more = subst (λ b. number_of_stones d b < number_of_stones d new.board) same w.0.more;
}
taken_copy d v run copy new false same items w e = cc

-- stones that all have room are a healthy list
pub healthy_all : (g : Board) (d : Colour) (h : Board) → IsReachedUnderAttack g d (λ _. ⊥) h
    → ((v : ℕ) → HasStone h (other d) v → HasRoom g (other d) (HasStone h (other d)) v)
    → (points : List ℕ) → ((p : ℕ) → Contains points p ↔ HasStone h (other d) p) → IsHealthy g (other d) points
healthy_all g d h w room points each = record {
  stones = λ x at. w.stood x ((each x).0 at);
  whole = λ x y at j. (each y).1 (w.whole x y j ((each x).0 at));
  room = λ x at. room_more g (other d) (HasStone h (other d)) (Contains points) (λ q k. (each q).1 k) x (room x ((each x).0 at));
}

pub alive_all : (d : Colour) (alive : List Bool) (run : Run) (victims : List Bool) → Marks victims (HasStone run.board (other d))
    → ((v : ℕ) → HasStone run.board (other d) v → HasRoomYet d alive run v) → AllAlive d alive run
alive_all d alive run victims is room g settled marks rest q s =
    let (points, listed) = some_list victims in
    let each : (x : ℕ) → Contains points x ↔ HasStone run.board (other d) x =
    λ x. (λ at. (is x).0 ((listed x).0 at), λ k. (listed x).1 ((is x).1 k)) in
    (points, healthy_all g d run.board rest.0 (λ v k. room v k g settled marks rest) points each, (each q).1 s)

-- the run before any placing
pub rest_first : (g : Board) (d : Colour) (run : Run) → IsSettled g → run.board ≡ g → run.placings.items ≡ [] → IsAtRest g d run
rest_first g d run settled same none = (
  subst (IsReachedUnderAttack g d (λ _. ⊥)) (sym same) (reached_first g d settled),
  subst (λ ps. Placings d g ps run.board) (sym none) (sym same),
)

-- the liberties below a number
pub refused_more : (h : Board) (d : Colour) (v n : ℕ) → ((p : ℕ) → p < n → IsLiberty h (other d) v p → IsUndeclared h p → IsSuicide h p d)
    → (IsLiberty h (other d) v n → IsUndeclared h n → IsSuicide h n d) → (p : ℕ) → p < n + 1 → IsLiberty h (other d) v p → IsUndeclared h p
    → IsSuicide h p d
refused_more h d v n below now p lt = elim (cases_eq p n) as (λ _. IsLiberty h (other d) v p → IsUndeclared h p → IsSuicide h p d) [
  | inl e ↦ subst (λ x. IsLiberty h (other d) v x → IsUndeclared h x → IsSuicide h x d) (sym e) now
  | inr ne ↦ below p (omega (arith, lt, ne))
]
