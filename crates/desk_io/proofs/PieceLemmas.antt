-- Lists of bytes that are read and written in pieces.
use Rattle.std.proofs.Common.{◌≡◌, ◌+◌, ◌-◌, ◌≤◌, ◌++◌, ℕ, List, take, drop, length, refl, sym, ◌∙◌, ap, subst}
use Rattle.std.proofs.lemmas.List.{take_at, take-append-drop, drop-drop, length-take-le, take_rest}
use Rattle.std.proofs.Math.Seq.{take-add}
use Rattle.std.proofs.KnownBytes.{Appends-trans}
use Rattle.std.specs.Io.KnownBytes.{Appends}
use Rattle.std.specs.declared.option.Option.{Option}

-- what was left is what a read put at the front of its buffer, and what is left then
pub taken : (s buf : List ℕ) (at n : ℕ) → n ≤ length (drop at s) → drop at s ≡ take n (take n (drop at s) ++ drop n buf) ++ drop (at + n) s
taken s buf at n fits = rw (take_at (take n (drop at s)) (drop n buf) n (length-take-le n (drop at s) fits), ← drop-drop n at s, take-append-drop n (drop at s)) refl

-- a writer that got the first n bytes, and then k of the others
pub passed_more : (a b c : Option (List ℕ)) (s : List ℕ) (n k : ℕ) → Appends a b (take n s) → Appends b c (take k (take (length s - n) (drop n s))) → Appends a c (take (n + k) s)
passed_more a b c s n k first more =
    let on : take n s ++ take k (take (length s - n) (drop n s)) ≡ take (n + k) s = ap (λ l. take n s ++ take k l) (take_rest s n) ∙ sym (take-add n k s) in
    subst (Appends a c) on (Appends-trans a b c _ _ first more)
