-- The lines that were used.
use Rattle.std.proofs.Common.{ℕ, ◌+◌, ◌≤◌, List, [], ◌++◌, length, take, drop, sym, ap, ◌∙◌, arith, append_assoc, length-append, take-append-drop, Option}
use Rattle.std.proofs.Math.Nat.{mul-add, mul-le-mul_left}
use Rattle.std.proofs.lemmas.List.{length-take-le}
use Rattle.desk_io.specs.Lines.{IsSameInput, UsesLines}

-- none
pub used_none : (most from to : ℕ) (a b : List ℕ) (before now : Option (List ℕ)) → from ≤ to → IsSameInput a before b now → UsesLines most from to a before b now
used_none most from to a b before now le same = λ bytes e. let r = same bytes e in ([], r.0, r.1, r.2, omega (arith, mul-le-mul_left most le))

-- one that was held
pub used_line : (most : ℕ) (a held : List ℕ) (before now : Option (List ℕ)) (taken : ℕ) → IsSameInput a before held now → taken ≤ length held → length held ≤ most → UsesLines most 0 1 a before (drop taken held) now
used_line most a held before now taken same le few = λ bytes e.
    let r = same bytes e in (
      take taken held,
      r.0,
      r.1,
      r.2 ∙ ap (λ l. l ++ r.0) (sym (take-append-drop taken held)) ∙ append_assoc (take taken held) (drop taken held) r.0,
      omega (arith, length-take-le taken held le, le, few),
    )

-- those up to one number, and then those up to the next
pub used_then : (most from mid to : ℕ) (a b c : List ℕ) (before between now : Option (List ℕ)) → UsesLines most from mid a before b between → UsesLines most mid to b between c now → UsesLines most from to a before c now
used_then most from mid to a b c before between now first second = λ bytes e.
    let x = first bytes e in let y = second x.1 x.2 in
    (x.0 ++ y.0, y.1, y.2, x.3 ∙ ap (λ l. x.0 ++ l) y.3 ∙ sym (append_assoc x.0 y.0 (c ++ y.1)), omega (arith, x.4, y.4, length-append x.0 y.0))

-- the same number of lines later, and more of them
pub used_at : (most n to : ℕ) (a b : List ℕ) (before now : Option (List ℕ)) → n + 1 ≤ to → UsesLines most 0 1 a before b now → UsesLines most n to a before b now
used_at most n to a b before now le u = λ bytes e. let x = u bytes e in (x.0, x.1, x.2, x.3, omega (arith, x.4, mul-le-mul_left most le, mul-add most n 1))

pub used_most : (most to limit : ℕ) (a b : List ℕ) (before now : Option (List ℕ)) → to ≤ limit → UsesLines most 0 to a before b now → UsesLines most 0 limit a before b now
used_most most to limit a b before now le u = λ bytes e. let x = u bytes e in (x.0, x.1, x.2, x.3, omega (arith, x.4, mul-le-mul_left most le))
