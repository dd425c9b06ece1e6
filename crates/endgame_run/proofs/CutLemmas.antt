-- A write of a front part.
use Rattle.std.proofs.Common.{◌≤◌, ◌∙◌, ℕ, List, length, take, drop, ap, sym, subst, take-append-drop, Option, Ok, Err, Result, IfOk}
use Rattle.std.proofs.lemmas.List.{take-append-le}
use Rattle.std.specs.Io.KnownBytes.{Appends, WriteAppends}

-- what is taken of a front part is taken of the whole
pub taken_of_whole : {E : Type 0} (a b : Option (List ℕ)) (r : Result ℕ E) (n : ℕ) (bytes : List ℕ) → IfOk r (λ k. k ≤ length (take n bytes)) → WriteAppends a b r (take n bytes) → WriteAppends a b r bytes
taken_of_whole a b (Ok k) n bytes few written =
    subst (Appends a b) (sym (take-append-le k (take n bytes) (drop n bytes) few) ∙ ap (take k) (take-append-drop n bytes)) written
taken_of_whole a b (Err e) n bytes few written = written
