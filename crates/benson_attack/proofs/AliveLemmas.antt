-- A settled board is attacked until each stone that stands has room. So a stone is alive, or placings take it.
use Rattle.std.proofs.Common.{◌≡◌, ℕ, zero, suc, ◌+◌, ◌<◌, ◌-◌, ◌⊎◌, ◌↔◌, inl, inr, List, [], ◌∷◌, ◌++◌, ◌∙◌, length, refl, sym, subst, arith}
use Rattle.std.specs.List.{Contains}
use Rattle.std.proofs.lemmas.Bool.{cases_eq}
use Rattle.go_grid.specs.declared.grid.Colour.{Colour}
use Rattle.go_grid.specs.Board.{Board, HasStone, IsClosedOff, IsUndeclared, other}
use Rattle.go_grid.specs.Chain.{InChain, IsLiberty, IsSettled}
use Rattle.go_play.specs.Place.{IsPlaced, IsSuicide, Placings, Stands}
use Rattle.benson_life.specs.Life.{HasRoom, IsAlive}
use Rattle.benson_life.proofs.StandLemmas.{healthy_stands}
use Rattle.benson_life.proofs.StrikingLemmas.{room_more}
use Rattle.go_grid.proofs.DecidedLemmas.{both}
use Rattle.benson_attack.specs.Reached.{IsReachedUnderAttack, number_of_stones}
use Rattle.benson_attack.proofs.AttackLemmas.{twice}
use Rattle.benson_attack.proofs.CountLemmas.{falls, rises}
use Rattle.benson_attack.proofs.LegalLemmas.{long, stood_earlier}
use Rattle.go_grid.proofs.DecidedChainLemmas.{has_or_not, points_of}
use Rattle.benson_attack.proofs.PlacingLemmas.{liberty_or_not, placed_or_not, undeclared_or_not}
use Rattle.benson_attack.proofs.ReachLemmas.{placings_more, reached_first, reached_next, reached_over, reached_under}
use Rattle.benson_attack.proofs.RunLemmas.{declared_or_two, healthy_all, held_room, refused_more}

module _ (g : Board) (d : Colour) (closed : IsClosedOff g) where
  -- `m` is reached by placings and has more stones of the colour than `h`
  abbrev Further : Board → (ℕ → Type 0) → Board → Type 0
  Further h Under m = IsReachedUnderAttack g d Under m × ((ps : List ℕ) × Placings d g ps m) × (number_of_stones d h < number_of_stones d m)

  abbrev Lives : Board → ℕ → Type 0
  Lives h v = HasRoom g (other d) (HasStone h (other d)) v

  abbrev Ends : Board → ℕ → Type 0
  Ends h k = length h.cells - number_of_stones d h < k

  -- a placing at a point that isn't declared, one of the chain's liberties
  abbrev Pressed : Board → ℕ → Type 0
  Pressed h v = (p : ℕ) × IsUndeclared h p × IsLiberty h (other d) v p × ((m : Board) × IsPlaced h p d m)

  -- each placing at such a liberty below n is refused
  abbrev Refused : Board → ℕ → ℕ → Type 0
  Refused h v n = (p : ℕ) → p < n → IsLiberty h (other d) v p → IsUndeclared h p → IsSuicide h p d

  press : (h : Board) (v n : ℕ) → Pressed h v ⊎ Refused h v n
  press h v zero = inr (λ p lt l. absurd (omega (arith, lt)))
  press h v (suc n) = elim (press h v n) as (λ _. Pressed h v ⊎ Refused h v (suc n)) [
    | inl w ↦ inl w
    | inr below ↦
        let same : n + 1 ≡ suc n = omega arith in
        let more = λ (now : IsLiberty h (other d) v n → IsUndeclared h n → IsSuicide h n d).
        subst (Refused h v) same (refused_more h d v n below now) in
        elim (both _ _ (liberty_or_not h (other d) v n) (undeclared_or_not h n)) as (λ _. Pressed h v ⊎ Refused h v (suc n)) [
          | inr not ↦ inr (more (λ l outside. absurd (not (l, outside))))
          | inl (at, outside) ↦ elim (placed_or_not h n d at.0) as (λ _. Pressed h v ⊎ Refused h v (suc n)) [
            | inl placed ↦ inl (n, outside, at, placed)
            | inr suicide ↦ inr (more (λ _ _. suicide))
          ]
        ]
  ]

  -- the chain is taken, or it has room among the stones that stand
  capture : (k : ℕ) (h : Board) (v : ℕ) → IsReachedUnderAttack g d (InChain g (other d) v) h → ((ps : List ℕ) × Placings d g ps h) → HasStone h (other d) v
      → Ends h k → ((m : Board) × Further h (λ _. ⊥) m) ⊎ Lives h v
  capture zero h v w run s room = absurd (omega (arith, room))
  capture (suc k) h v w run s room = elim (press h v (length h.cells)) as (λ _. ((m : Board) × Further h (λ _. ⊥) m) ⊎ Lives h v) [
    | inr refused ↦
        let (points, each) = points_of (IsLiberty h (other d) v) (liberty_or_not h (other d) v) (length h.cells) in
        inr (held_room g d v h w closed (declared_or_two h d v (λ p l. refused p l.0.0 l) (w.breathes v s) points
        (λ p. (λ at. ((each p).0 at).1, λ l. (each p).1 (l.0.0, l)))))
    | inl (p, outside, l, (m, placed)) ↦
        let next : IsReachedUnderAttack g d (InChain g (other d) v) m = reached_next g d v h w p l m placed in
        let more : (ps : List ℕ) × Placings d g ps m = (run.0 ++ p ∷ [], placings_more d g run.0 h p m run.1 outside placed) in
        let up = rises h d p m placed in
        let less = falls d h m (long h d p m (placed.1.place, placed.1.free) placed.0 placed.1.without) up in
        elim (has_or_not m (other d) v) as (λ _. ((m : Board) × Further h (λ _. ⊥) m) ⊎ Lives h v) [
          | inr gone ↦ inl (m, (reached_over g d v m next gone, more, up))
          | inl stands ↦ elim (capture k m v next more stands (omega (arith, room, less))) as (λ _. ((m : Board) × Further h (λ _. ⊥) m) ⊎ Lives h v) [
            | inl (n, (rest, placings, far)) ↦ inl (n, (rest, placings, omega (arith, far, up)))
            | inr room' ↦ inr (room_more g (other d) (HasStone m (other d)) (HasStone h (other d)) (stood_earlier h d p m placed) v room')
          ]
        ]
  ]

  -- some chain is taken, or each stone below n that stands has room
  advance : (h : Board) → IsReachedUnderAttack g d (λ _. ⊥) h → ((ps : List ℕ) × Placings d g ps h) → (n : ℕ)
      → ((m : Board) × Further h (λ _. ⊥) m) ⊎ ((v : ℕ) → v < n → HasStone h (other d) v → Lives h v)
  advance h w run zero = inr (λ v lt s. absurd (omega (arith, lt)))
  advance h w run (suc n) = elim (advance h w run n)
      as (λ _. ((m : Board) × Further h (λ _. ⊥) m) ⊎ ((v : ℕ) → v < suc n → HasStone h (other d) v → Lives h v)) [
        | inl found ↦ inl found
        | inr below ↦ elim (has_or_not h (other d) n)
            as (λ _. ((m : Board) × Further h (λ _. ⊥) m) ⊎ ((v : ℕ) → v < suc n → HasStone h (other d) v → Lives h v)) [
              | inr not ↦ inr (λ v lt s. elim (cases_eq v n) as (λ _. Lives h v) [
                | inl e ↦ absurd (not (subst (HasStone h (other d)) e s))
                | inr ne ↦ below v (omega (arith, lt, ne)) s
              ])
              | inl at ↦ elim (capture (suc (length h.cells - number_of_stones d h)) h n (reached_under g d h (InChain g (other d) n) w) run at (omega arith))
                  as (λ _. ((m : Board) × Further h (λ _. ⊥) m) ⊎ ((v : ℕ) → v < suc n → HasStone h (other d) v → Lives h v)) [
                    | inl found ↦ inl found
                    | inr eyes ↦ inr (λ v lt s. elim (cases_eq v n) as (λ _. Lives h v) [
                      | inl e ↦ subst (Lives h) (sym e) eyes
                      | inr ne ↦ below v (omega (arith, lt, ne)) s
                    ])
                  ]
            ]
      ]

  -- a board on which each stone that stands has room
  finish : (k : ℕ) (h : Board) → IsReachedUnderAttack g d (λ _. ⊥) h → ((ps : List ℕ) × Placings d g ps h) → Ends h k
      → (m : Board) × IsReachedUnderAttack g d (λ _. ⊥) m × ((ps : List ℕ) × Placings d g ps m) × ((v : ℕ) → HasStone m (other d) v → Lives m v)
  finish zero h w run room = absurd (omega (arith, room))
  finish (suc k) h w run room = elim (advance h w run (length h.cells)) as (λ _. (m : Board) × IsReachedUnderAttack g d (λ _. ⊥) m
      × ((ps : List ℕ) × Placings d g ps m) × ((v : ℕ) → HasStone m (other d) v → Lives m v)) [
        | inl (m, (next, more, up)) ↦
            let same : length m.cells ≡ length h.cells = next.long ∙ sym w.long in
            let less = falls d h m same up in
            finish k m next more (omega (arith, room, less))
        | inr all ↦ (h, w, run, λ v s. all v s.0 s)
      ]

  pub alive_or_taken : IsSettled g → (s : ℕ) → HasStone g (other d) s
      → IsAlive g (other d) s ⊎ ((ps : List ℕ) × (h : Board) × Placings d g ps h × (HasStone h (other d) s → ⊥))
  alive_or_taken settled s at =
      let (m, w, (ps, run), eyes) = finish (suc (length g.cells - number_of_stones d g)) g (reached_first g d settled) ([], refl) (omega arith) in
      elim (has_or_not m (other d) s) as (λ _. IsAlive g (other d) s ⊎ ((ps : List ℕ) × (h : Board) × Placings d g ps h × (HasStone h (other d) s → ⊥))) [
        | inr gone ↦ inr (ps, m, run, gone)
        | inl stands ↦
            let (points, each) = points_of (HasStone m (other d)) (has_or_not m (other d)) (length m.cells) in
            let exact : (p : ℕ) → Contains points p ↔ HasStone m (other d) p = λ p. (λ in'. ((each p).0 in').1, λ k. (each p).1 (k.0, k)) in
            inl (points, healthy_all g d m w eyes points exact, (exact s).1 stands)
      ]

-- a stone is alive exactly where it stands against every list of placings
pub alive_stands : (g : Board) (c : Colour) (s : ℕ) → IsSettled g → HasStone g c s → IsAlive g c s ↔ Stands g c s
alive_stands g c s settled at = (
  λ alive. healthy_stands g c alive.0 settled alive.1 s alive.2,
  λ stands. elim (alive_or_taken g (other c) settled.closed settled s (subst (λ x. HasStone g x s) (sym (twice c)) at)) as (λ _. IsAlive g c s) [
    | inl alive ↦ subst (λ x. IsAlive g x s) (twice c) alive
    | inr (ps, h, run, gone) ↦ absurd (gone (subst (λ x. HasStone h x s) (sym (twice c)) (stands ps h run)))
  ],
)
