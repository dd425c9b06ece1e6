-- Cycles take both ways, and play between returning captures is short.
use Rattle.std.proofs.Common.{◌≡◌, ◌≢◌, ℕ, ◌+◌, ◌*◌, ◌≤◌, ◌<◌, ◌⊎◌, List, [], ◌∷◌, ◌++◌, zero, suc, inl, inr, length, get_or, drop, refl, sym, ap, ◌∙◌, arith, subst}
use Rattle.std.specs.List.{AllPairs, Contains}
use Rattle.std.proofs.Math.Nat.{add-mul, one-mul, mul-le-mul_right}
use Rattle.std.proofs.lemmas.Bool.{cases_lt}
use Rattle.std.proofs.lemmas.List.{length-drop}
use Rattle.std.proofs.lemmas.List.Elements.{Contains-get_or}
use Rattle.std.proofs.lemmas.List.Kept.{AllPairs-cons}
use Rattle.go_grid.specs.declared.grid.Cell.{Cell}
use Rattle.go_grid.specs.declared.grid.Colour.{Colour}
use Rattle.go_grid.specs.declared.region.Touch.{Touch}
use Rattle.go_grid.proofs.PlayLemmas.{long_after}
use Rattle.local_graph.specs.declared.cycle.CycleMove.{CycleMove}
use Rattle.local_graph.specs.LocalGraph.{Plays, IsReachable}
use Rattle.local_graph.specs.Returns.{IsCapture, IsReturningCapture, HasCapture, HasReturningCaptures, CyclesTakeBothWays, ShortBetweenCaptures}
use Rattle.local_graph.proofs.CaptureLemmas.{weight_in, more_or_capture}
use Rattle.local_graph.proofs.FiniteLemmas.{few_among}
use Rattle.local_graph.proofs.PlayLemmas.{plays_more, plays_both, one_after}

-- moves with no capture by the colour lead to no less weight
pub capture_or_more : (touch : List Touch) (c : Colour) (from to : List Cell) (ms : List CycleMove) → Plays touch from ms to
    → HasCapture touch c from ms ⊎ (weight_in (length from) c from + length ms ≤ weight_in (length from) c to)
capture_or_more touch c from to [] h = inr (rw h (omega arith))
capture_or_more touch c from to (m ∷ ms) (next, move, rest) = elim (more_or_capture touch from next c m.colour m.place (length from) (omega arith) move) [
  | inl takes ↦ inl (next, move, inl takes)
  | inr more ↦ elim (capture_or_more touch c next to ms rest) [
    | inl takes ↦ inl (next, move, inr takes)
    | inr more' ↦
        let more'' = subst (λ n. weight_in n c next + length ms ≤ weight_in n c to) (long_after move) more' in
        inr (omega (arith, more, more''))
  ]
]

-- moves that lead back to where they began have a capture by each colour
pub way_back_takes : (touch : List Touch) (c : Colour) (from : List Cell) (ms : List CycleMove) → 0 < length ms → Plays touch from ms from
    → HasCapture touch c from ms
way_back_takes touch c from ms some h = elim (capture_or_more touch c from from ms h) as (λ _. HasCapture touch c from ms) [
  | inl takes ↦ takes
  | inr more ↦ absurd (omega (arith, more, some))
]

pub cycles_take_both_ways : (touch : List Touch) (opening : List Cell) → CyclesTakeBothWays touch opening
cycles_take_both_ways touch opening ms back cycle c =
    way_back_takes touch c cycle.returns_to (drop back ms) (omega (arith, length-drop back ms, cycle.before_end)) cycle.again

-- where moves lead back, a capture among them returns
capture_returns : (touch : List Touch) (c : Colour) (start from to : List Cell) (ms : List CycleMove) → Plays touch from ms to
    → IsReachable touch to start → IsReachable touch start from → HasReturningCaptures touch c from ms 0 → HasCapture touch c from ms → ⊥
capture_returns touch c start from to [] h back there none takes = takes
capture_returns touch c start from to (m ∷ ms) (next, move, rest) back there (next', move', none) (next'', move'', takes) =
    let same = one_after touch from next' next m.colour m.place move' move in
    let same' = one_after touch from next'' next m.colour m.place move'' move in
    elim none [
      | inl w ↦ absurd (omega (arith, w.1.1))
      | inr (not, later) ↦ elim takes [
        | inl (own, capture) ↦ not (own, subst (IsCapture from) (same' ∙ sym same) capture, returns next' same)
        | inr later' ↦
            capture_returns touch c start next to ms rest back (there.0 ++ m ∷ [], plays_more touch start from next there.0 m there.1 move)
            (subst (λ x. HasReturningCaptures touch c x ms 0) same later) (subst (λ x. HasCapture touch c x ms) same' later')
      ]
    ]
  where
    returns : (x : List Cell) → x ≡ next → IsReachable touch x from
    returns x e = (
      ms ++ (back.0 ++ there.0),
      plays_both touch x to from ms (back.0 ++ there.0) (subst (λ y. Plays touch y ms to) (sym e) rest)
          (plays_both touch to start from back.0 there.0 back.1 there.1),
    )

-- moves without such a capture lead from the one position to the other
abbrev LeadsWithout : List Touch → Colour → List Cell → List Cell → Type 0
LeadsWithout touch c from to = (ms : List CycleMove) × Plays touch from ms to × HasReturningCaptures touch c from ms 0

alone : (touch : List Touch) (c : Colour) (from x : List Cell) → Contains (from ∷ []) x → LeadsWithout touch c from x
alone touch c from x (zero, lt, at) = ([], at, refl)
alone touch c from x (suc k, lt, at) = absurd (omega arith)

-- positions up to the next returning capture: all different, and led to without one
record Stretch (touch : List Touch) (c : Colour) (room : ℕ) (from : List Cell) (ms : List CycleMove) (n : ℕ) : Type 0 where
  passed : List (List Cell)
  different : AllPairs (λ a b. a ≢ b) passed
  reached : (x : List Cell) → Contains passed x → LeadsWithout touch c from x
  bound : length ms + 1 ≤ length passed + n * room

module _ (touch : List Touch) (opening : List Cell) (c : Colour) (found : List (List Cell))
    (all : (cells : List Cell) → IsReachable touch opening cells → Contains found cells) where
  -- a stretch has no more positions than are reachable
  within : (from : List Cell) (ms : List CycleMove) (n : ℕ) → IsReachable touch opening from → (s : Stretch touch c (length found) from ms n)
      → length s.passed ≤ length found
  within from ms n reach s = few_among touch opening found s.passed all s.different
      (λ x among. let w = s.reached x among in (reach.0 ++ w.0, plays_both touch opening from x reach.0 w.0 reach.1 w.1))

  stretch : (from to : List Cell) (ms : List CycleMove) (n : ℕ) → IsReachable touch opening from → Plays touch from ms to
      → HasReturningCaptures touch c from ms n → Stretch touch c (length found) from ms n
  stretch from to [] n reach h count = record {
    passed = from ∷ [];
    different = λ i j d lt short. absurd (omega arith);
    reached = alone touch c from;
    bound = omega arith;
  }
  stretch from to (m ∷ ms) n reach (next, move, rest) (next', move', count) =
      let inner = λ (k : ℕ) (later : HasReturningCaptures touch c next' ms k).
      stretch next to ms k reach' rest (subst (λ x. HasReturningCaptures touch c x ms k) same later) in
      elim count [
        | inl w ↦
            let s = inner w.1.0 w.1.2 in
            let few = within next ms w.1.0 reach' s in record {
              passed = from ∷ [];
              different = λ i j d lt short. absurd (omega arith);
              reached = alone touch c from;
              bound = longer w.1.0 (length s.passed) w.1.1 few s.bound;
            }
        | inr w ↦
            let s = inner n w.1 in
            let not' = subst (λ x. ¬ IsReturningCapture touch c from m x) same w.0 in
            record {
              passed = from ∷ s.passed;
              different = AllPairs-cons (λ a b. a ≢ b) from s.passed
                  (λ k d lt. let x = get_or s.passed k d in around x (s.reached x (Contains-get_or s.passed k d lt)) not') s.different;
              reached = ahead s.passed (λ x among. onward not' x (s.reached x among));
              bound = omega (arith, s.bound);
            }
      ]
    where
      same : next' ≡ next
      same = one_after touch from next' next m.colour m.place move' move

      reach' : IsReachable touch opening next
      reach' = (reach.0 ++ m ∷ [], plays_more touch opening from next reach.0 m reach.1 move)

      longer : (k passed : ℕ) → n ≡ k + 1 → passed ≤ length found → length ms + 1 ≤ passed + k * length found
          → length (m ∷ ms) + 1 ≤ 1 + n * length found
      longer k passed e few bound =
          let next : n * length found ≡ (k + 1) * length found = ap (λ x. x * length found) e in
          omega (arith, few, bound, next, add-mul k 1 (length found), one-mul (length found))

      onward : ¬ IsReturningCapture touch c from m next → (x : List Cell)
          → LeadsWithout touch c next x
          → LeadsWithout touch c from x
      onward not x (bs, p, none) = (m ∷ bs, (next, move, p), (next, move, inr (not, none)))

      around : (x : List Cell) → LeadsWithout touch c next x
          → ¬ IsReturningCapture touch c from m next → from ≡ x → ⊥
      around x (bs, p, none) not e =
          let p' : Plays touch next bs from = subst (Plays touch next bs) (sym e) p in
          capture_returns touch c from from from (m ∷ bs) (next, move, p') ([], refl) ([], refl) (next, move, inr (not, none))
          (way_back_takes touch c from (m ∷ bs) (omega arith) (next, move, p'))

      ahead : (passed : List (List Cell))
          → ((x : List Cell) → Contains passed x → LeadsWithout touch c from x)
          → (x : List Cell) → Contains (from ∷ passed) x
          → LeadsWithout touch c from x
      ahead passed later x (zero, lt, at) = ([], at, refl)
      ahead passed later x (suc k, lt, at) = later x (k, omega arith, at)

-- each list of moves has some number of returning captures
counted : (touch : List Touch) (c : Colour) (from to : List Cell) (ms : List CycleMove) → Plays touch from ms to
    → ¬ ¬ ((n : ℕ) × HasReturningCaptures touch c from ms n)
counted touch c from to [] h never = never (0, refl)
counted touch c from to (m ∷ ms) (next, move, rest) never = counted touch c next to ms rest (λ w.
    let not : ¬ IsReturningCapture touch c from m next = λ is. never (w.0 + 1, (next, move, inl (is, (w.0, refl, w.1)))) in
    never (w.0, (next, move, inr (not, w.1))))

pub short_between_captures : (touch : List Touch) (opening : List Cell) → ShortBetweenCaptures touch opening
short_between_captures touch opening found all from to ms reach h c most few =
    elim (cases_lt (length ms) ((most + 1) * length found)) as (λ _. length ms < (most + 1) * length found) [
      | inl lt ↦ lt
      | inr le ↦ absurd (counted touch c from to ms h (λ w. past w.0 w.1 le))
    ]
  where
    past : (n : ℕ) → HasReturningCaptures touch c from ms n → (most + 1) * length found ≤ length ms → ⊥
    past n count le =
        let s = stretch touch opening c found all from to ms n reach h count in
        let one = within touch opening c found all from ms n reach s in
        let times = mul-le-mul_right {m = n} {n = most} (length found) (few n count) in
        omega (arith, le, s.bound, one, times, add-mul most 1 (length found), one-mul (length found))
