-- Parts of two lists, one behind the other, and edges in one number.
use Rattle.std.proofs.Common.{◌≡◌, ℕ, ◌+◌, ◌*◌, ◌/◌, ◌%◌, ◌-◌, ◌<◌, ◌≤◌, arith, ap, ◌∙◌, List, ◌++◌, length, take, drop, sym, length-drop, lt-ltb, le-ltb, cond}
use Rattle.std.proofs.lemmas.List.{take_all, drop-append-le}
use Rattle.std.proofs.Math.Seq.{take-append-add, drop-append-add}
use Rattle.go_grid.specs.declared.grid.Colour.TheVariants.{Black, White}
use Rattle.local_graph.specs.declared.graph.Edge.{Edge}
use Rattle.local_graph.specs.declared.short_edge.TheConstants.{NEXT, PLACE, TAKEN, WHITE}
use Rattle.local_graph.specs.inner.ShortEdge.{unpacked, colour_of}

-- a part that begins in the second list
pub part_of_second : {X : Type 0} (xs ys : List X) (a b : ℕ) → length xs ≤ a → take (b - length xs - (a - length xs)) (drop (a - length xs) ys) ≡ take (b - a) (drop a (xs ++ ys))
part_of_second xs ys a b le =
    let from : a ≡ length xs + (a - length xs) = omega (arith, le) in
    let size : b - length xs - (a - length xs) ≡ b - a = omega (arith, le) in
    ap (λ n. take n (drop (a - length xs) ys)) size
    ∙ ap (take (b - a)) (sym (drop-append-add xs ys (a - length xs)) ∙ ap (λ n. drop n (xs ++ ys)) (sym from))

-- a part that begins in the first list and ends in the second
pub part_of_both : {X : Type 0} (xs ys : List X) (a b : ℕ) → a ≤ length xs → length xs ≤ b → take (length xs - a) (drop a xs) ++ take (b - length xs) ys ≡ take (b - a) (drop a (xs ++ ys))
part_of_both xs ys a b le more =
    let size : b - a ≡ length (drop a xs) + (b - length xs) = omega (arith, le, more, length-drop a xs) in
    let first : take (length xs - a) (drop a xs) ≡ drop a xs = take_all (length xs - a) (drop a xs) (omega (arith, length-drop a xs)) in
    ap (λ zs. zs ++ take (b - length xs) ys) first
    ∙ sym (ap (take (b - a)) (drop-append-le a xs ys le) ∙ ap (λ n. take n (drop a xs ++ ys)) size ∙ take-append-add (drop a xs) ys (b - length xs))

-- the edge with these parts is the one that a number stands for
pub unpacked_as : (n : ℕ) (e : Edge) → e.next ≡ n % NEXT → e.colour ≡ colour_of n → e.place ≡ n / NEXT % PLACE → e.taken ≡ n / (NEXT * PLACE) % TAKEN → unpacked n ≡ e
unfolding unpacked
unpacked_as n e next colour place taken = λ i. record { next = sym next i; colour = sym colour i; place = sym place i; taken = sym taken i }

pub unpacked_black : (e : Edge) → e.next < NEXT → e.place < PLACE → e.taken < TAKEN → e.colour ≡ Black → unpacked (e.next + NEXT * (e.place + PLACE * e.taken)) ≡ e
unpacked_black e next place taken colour =
    let n = e.next + NEXT * (e.place + PLACE * e.taken) in
    let less : n < WHITE = omega (arith, next, place, taken) in
    unpacked_as n e (omega (arith, next, place, taken)) (colour ∙ sym (ap (λ b. cond b Black White) (lt-ltb n WHITE less)))
    (omega (arith, next, place, taken)) (omega (arith, next, place, taken))

pub unpacked_white : (e : Edge) → e.next < NEXT → e.place < PLACE → e.taken < TAKEN → e.colour ≡ White → unpacked (e.next + NEXT * (e.place + PLACE * e.taken) + WHITE) ≡ e
unpacked_white e next place taken colour =
    let n = e.next + NEXT * (e.place + PLACE * e.taken) + WHITE in
    let more : WHITE ≤ n = omega (arith, next, place, taken) in
    unpacked_as n e (omega (arith, next, place, taken)) (colour ∙ sym (ap (λ b. cond b Black White) (le-ltb n WHITE more)))
    (omega (arith, next, place, taken)) (omega (arith, next, place, taken))
