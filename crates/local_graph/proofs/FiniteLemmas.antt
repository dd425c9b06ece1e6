-- Local play without a cycle is short.
use Rattle.std.proofs.Common.{◌≡◌, ◌≢◌, ℕ, ◌+◌, ◌*◌, ◌^◌, ◌<◌, ◌≤◌, inl, inr, suc, zero, arith, refl, sym, ap, ◌∙◌, List, [], ◌∷◌, ◌++◌, map, true, false, length, get_or, subst, length-append, nat_eq}
use Rattle.std.specs.List.{AllPairs, Contains, IsDistinct, list_any}
use Rattle.std.proofs.Math.Nat.{pow-suc}
use Rattle.std.proofs.Math.Seq.{take-append_seam, drop-append_seam}
use Rattle.std.proofs.lemmas.Bool.{cases_Bool, eqb-true}
use Rattle.std.proofs.lemmas.List.{length-map, get_or-map}
use Rattle.std.proofs.lemmas.List.Elements.{Contains-get_or}
use Rattle.std.proofs.lemmas.Map.Keys.{IsDistinct-from_apart}
use Rattle.std.proofs.lemmas.Map.Views.{Contains-from_any, list_any-from_Contains}
use Rattle.std.proofs.lemmas.Map.Made.{length-le_from_is_member}
use Rattle.std.specs.Cmp.{nat_eq_equiv}
use Rattle.std.proofs.lemmas.Map.Steps.{length-le_from_distinct_below}
use Rattle.go_grid.specs.declared.grid.Cell.{Cell}
use Rattle.go_grid.specs.declared.region.Touch.{Touch}
use Rattle.local_play.specs.Packed.{code}
use Rattle.local_play.proofs.PackLemmas.{code_small, code_same}
use Rattle.local_graph.specs.declared.cycle.CycleMove.{CycleMove}
use Rattle.local_graph.specs.LocalGraph.{Plays, IsReachable, IsCycle}
use Rattle.local_graph.specs.FiniteLocalPlay.{FewPositions, ShortPlay, HasNoCycle}
use Rattle.local_graph.proofs.PlayLemmas.{plays_long, plays_more}

-- a position as a number in base 3
unfoldable pub ternary : List Cell → ℕ
ternary [] = 0
ternary (c ∷ cs) = code c + 3 * ternary cs

pub ternary_small : (cs : List Cell) → ternary cs < 3 ^ length cs
unfolding ternary
ternary_small [] = omega arith
ternary_small (c ∷ cs) =
    let less = ternary_small cs in
    let digit = code_small c in
    rw pow-suc (omega arith)

ternary_same : (a b : List Cell) → length a ≡ length b → ternary a ≡ ternary b → a ≡ b
unfolding ternary
ternary_same [] [] long e = refl
ternary_same [] (d ∷ b) long e = absurd (omega arith)
ternary_same (c ∷ a) [] long e = absurd (omega arith)
ternary_same (c ∷ a) (d ∷ b) long e =
    let small = code_small c in
    let small' = code_small d in
    let first : code c ≡ code d = omega arith in
    let rest : ternary a ≡ ternary b = omega arith in
    let same = code_same c d first in
    let same' = ternary_same a b (omega arith) rest in
    cc

-- the number at a place of the list of numbers
pub at_map : (f : List Cell → ℕ) (found : List (List Cell)) (k d : ℕ) (e : List Cell) → k < length found
    → get_or (map f found) k d ≡ f (get_or found k e)
at_map f found k d e lt = get_or-map f found k e d lt

-- different positions of as many places have different numbers
pub distinct : (f : List Cell → ℕ) → ((a b : List Cell) → length a ≡ length b → f a ≡ f b → a ≡ b) → (n : ℕ) (found : List (List Cell))
    → AllPairs (λ a b. a ≢ b) found → ((cells : List Cell) → Contains found cells → length cells ≡ n) → IsDistinct nat_eq (map f found)
distinct f f_same n found different long = IsDistinct-from_apart nat_eq (map f found) apart
  where
    apart : (i j d : ℕ) → i < j → j < length (map f found) → nat_eq (get_or (map f found) i d) (get_or (map f found) j d) ≡ false
    apart i j d lt short =
        let inside : j < length found = omega (arith, length-map found f) in
        let inside' : i < length found = omega arith in
        elim (cases_Bool (nat_eq (get_or (map f found) i d) (get_or (map f found) j d))) [
          | inr off ↦ off
          | inl on ↦
              let a = get_or found i [] in
              let b = get_or found j [] in
              let same : f a ≡ f b = sym (at_map f found i d [] inside') ∙ eqb-true _ _ on ∙ at_map f found j d [] inside in
              let la = long a (Contains-get_or found i [] inside') in
              let lb = long b (Contains-get_or found j [] inside) in
              absurd (different i j [] lt inside (f_same a b (la ∙ sym lb) same))
        ]

pub few_positions : (touch : List Touch) (opening : List Cell) → FewPositions touch opening
few_positions touch opening found different reach =
    let long = λ (cells : List Cell) (h : Contains found cells). let r = reach cells h in plays_long touch opening cells r.0 r.1 in
    let bound = length-le_from_distinct_below (map ternary found) (3 ^ length opening) (distinct ternary ternary_same (length opening) found different long)
    (below found long) in
    omega (arith, bound, length-map found ternary)
  where
    below : (xs : List (List Cell)) → ((cells : List Cell) → Contains xs cells → length cells ≡ length opening)
        → (q : ℕ) → list_any (nat_eq q) (map ternary xs) ≡ true → q < 3 ^ length opening
    below xs long q h =
        let w = Contains-from_any {eq = nat_eq} eqb-true q (map ternary xs) h in
        let inside : w.0 < length xs = omega (arith, w.1, length-map xs ternary) in
        let cells = get_or xs w.0 [] in
        let is : q ≡ ternary cells = sym w.2 ∙ at_map ternary xs w.0 q [] inside in
        let full = long cells (Contains-get_or xs w.0 [] inside) in
        rw is (subst (λ n. ternary cells < 3 ^ n) full (ternary_small cells))

-- the two parts of a list of moves that comes back make a cycle
pub cycle_of : (touch : List Touch) (opening p : List Cell) (front bs : List CycleMove) → Plays touch opening front p → Plays touch p bs p
    → 0 < length bs → IsCycle touch opening (front ++ bs) (length front)
cycle_of touch opening p front bs first second some = record {
  before_end = omega (arith, length-append front bs);
  returns_to = p;
  there = subst (λ l. Plays touch opening l p) (sym (take-append_seam front bs)) first;
  again = subst (λ l. Plays touch p l p) (sym (drop-append_seam front bs)) second;
}

-- the positions that a list of moves goes through
trace : (touch : List Touch) (p : List Cell) (ms : List CycleMove) (end : List Cell) → Plays touch p ms end → List (List Cell)
trace touch p [] end h = p ∷ []
trace touch p (m ∷ ms) end (next, move, rest) = p ∷ trace touch next ms end rest

trace_long : (touch : List Touch) (p : List Cell) (ms : List CycleMove) (end : List Cell) (h : Plays touch p ms end)
    → length (trace touch p ms end h) ≡ length ms + 1
unfolding trace
trace_long touch p [] end h = omega arith
trace_long touch p (m ∷ ms) end (next, move, rest) = let e = trace_long touch next ms end rest in omega arith

-- each of them is reached by a front of the list
trace_reached : (touch : List Touch) (p : List Cell) (ms : List CycleMove) (end : List Cell) (h : Plays touch p ms end) (x : List Cell)
    → Contains (trace touch p ms end h) x → (bs : List CycleMove) × Plays touch p bs x
unfolding trace
trace_reached touch p [] end h x (zero, lt, at) = ([], at)
trace_reached touch p [] end h x (suc k, lt, at) = absurd (omega arith)
trace_reached touch p (m ∷ ms) end (next, move, rest) x (zero, lt, at) = ([], at)
trace_reached touch p (m ∷ ms) end (next, move, rest) x (suc k, lt, at) =
    let w = trace_reached touch next ms end rest x (k, omega arith, at) in
    (m ∷ w.0, (next, move, w.1))

-- without a cycle they are all different
trace_different : (touch : List Touch) (opening p : List Cell) (front ms : List CycleMove) (end : List Cell) → HasNoCycle touch opening
    → Plays touch opening front p → (h : Plays touch p ms end) → AllPairs (λ a b. a ≢ b) (trace touch p ms end h)
unfolding trace
trace_different touch opening p front [] end none first h = λ i j d lt short. absurd (omega arith)
trace_different touch opening p front (m ∷ ms) end none first (next, move, rest) =
    go (trace_different touch opening next (front ++ m ∷ []) ms end none (plays_more touch opening p next front m first move) rest)
  where
    apart : (x : List Cell) → Contains (trace touch next ms end rest) x → p ≢ x
    apart x among same =
        let w = trace_reached touch next ms end rest x among in
        none (front ++ m ∷ w.0) (length front)
        (cycle_of touch opening p front (m ∷ w.0) first (next, move, subst (λ y. Plays touch next w.0 y) (sym same) w.1) (omega arith))

    go : AllPairs (λ a b. a ≢ b) (trace touch next ms end rest) → AllPairs (λ a b. a ≢ b) (p ∷ trace touch next ms end rest)
    go later zero zero d lt short = absurd (omega arith)
    go later zero (suc j) d lt short =
        apart (get_or (trace touch next ms end rest) j d) (Contains-get_or (trace touch next ms end rest) j d (omega arith))
    go later (suc i) zero d lt short = absurd (omega arith)
    go later (suc i) (suc j) d lt short = later i j d (omega arith) (omega arith)

-- without a cycle a list of moves is shorter than 3 to the number of places
pub plays_short : (touch : List Touch) (opening : List Cell) → HasNoCycle touch opening → (ms : List CycleMove) (end : List Cell)
    → Plays touch opening ms end → length ms < 3 ^ length opening
plays_short touch opening none ms end h =
    let different = trace_different touch opening opening [] ms end none refl h in
    let few = few_positions touch opening (trace touch opening ms end h) different (trace_reached touch opening ms end h) in
    omega (arith, few, trace_long touch opening ms end h)

-- a list that has every reachable position has as many as different ones that are reachable
pub few_among : (touch : List Touch) (opening : List Cell) (found xs : List (List Cell))
    → ((cells : List Cell) → IsReachable touch opening cells → Contains found cells) → AllPairs (λ a b. a ≢ b) xs
    → ((cells : List Cell) → Contains xs cells → IsReachable touch opening cells) → length xs ≤ length found
few_among touch opening found xs all different reach =
    let long = λ (x : List Cell) (among : Contains xs x). let r = reach x among in plays_long touch opening x r.0 r.1 in
    let once = distinct ternary ternary_same (length opening) xs different long in
    let within = length-le_from_is_member nat_eq_equiv (map ternary xs) (map ternary found) once
    (λ q is. list_any-from_Contains nat_eq_equiv q (map ternary found) (subset q is)) in
    omega (arith, within, length-map xs ternary, length-map found ternary)
  where
    subset : (q : ℕ) → list_any (nat_eq q) (map ternary xs) ≡ true → Contains (map ternary found) q
    subset q is =
        let w = Contains-from_any {eq = nat_eq} eqb-true q (map ternary xs) is in
        let inside : w.0 < length xs = omega (arith, w.1, length-map xs ternary) in
        let cells = get_or xs w.0 [] in
        let number : q ≡ ternary cells = sym w.2 ∙ at_map ternary xs w.0 q [] inside in
        let there = all cells (reach cells (Contains-get_or xs w.0 [] inside)) in
        let inside' : there.0 < length (map ternary found) = omega (arith, there.1, length-map found ternary) in
        let at : get_or (map ternary found) there.0 q ≡ q = at_map ternary found there.0 q cells there.1 ∙ ap ternary there.2 ∙ sym number in
        (there.0, inside', at)

pub short_play : (touch : List Touch) (opening : List Cell) → ShortPlay touch opening
short_play touch opening none found all ms end h =
    let xs = trace touch opening ms end h in
    let few = few_among touch opening found xs all (trace_different touch opening opening [] ms end none refl h) (trace_reached touch opening ms end h) in
    omega (arith, few, trace_long touch opening ms end h)
