-- Arguments by their number.
use Rattle.std.proofs.Common.{◌≡◌, ◌≤◌, ◌<◌, ℕ, List, [], ◌∷◌, length, get_or, map, arith, refl}
use Rattle.board_orders.specs.declared.command.BasicCommand.{BasicCommand}
use Rattle.board_orders.specs.Orders.{BoardOrder, FitsFew}

pub none_of : {A B : Type 0} (f : A → B) (xs : List A) → length xs < 1 → [] ≡ map f xs
none_of f [] few = refl
none_of f (x ∷ xs) few = absurd (omega (arith, few))

pub one_of : {A B : Type 0} (f : A → B) (xs : List A) (d : A) → 1 ≤ length xs → length xs < 2 → f (get_or xs 0 d) ∷ [] ≡ map f xs
one_of f [] d some few = absurd (omega (arith, some))
one_of f (x ∷ []) d some few = refl
one_of f (x ∷ y ∷ xs) d some few = absurd (omega (arith, few))

pub two_of : {A B : Type 0} (f : A → B) (xs : List A) (d e : A) → 2 ≤ length xs → length xs < 3 → f (get_or xs 0 d) ∷ f (get_or xs 1 e) ∷ [] ≡ map f xs
two_of f [] d e some few = absurd (omega (arith, some))
two_of f (x ∷ []) d e some few = absurd (omega (arith, some))
two_of f (x ∷ y ∷ []) d e some few = refl
two_of f (x ∷ y ∷ z ∷ xs) d e some few = absurd (omega (arith, few))

pub three_of : {A B : Type 0} (f : A → B) (xs : List A) (d e g : A) → 3 ≤ length xs → length xs < 4
    → f (get_or xs 0 d) ∷ f (get_or xs 1 e) ∷ f (get_or xs 2 g) ∷ [] ≡ map f xs
three_of f [] d e g some few = absurd (omega (arith, some))
three_of f (x ∷ []) d e g some few = absurd (omega (arith, some))
three_of f (x ∷ y ∷ []) d e g some few = absurd (omega (arith, some))
three_of f (x ∷ y ∷ z ∷ []) d e g some few = refl
three_of f (x ∷ y ∷ z ∷ w ∷ xs) d e g some few = absurd (omega (arith, few))

-- more than three fit no command
pub too_many : {A : Type 0} (f : A → List ℕ) (command : BasicCommand) (xs : List A) (order : BoardOrder) → 4 ≤ length xs → FitsFew command (map f xs) order → ⊥
too_many f command [] order many fits = absurd (omega (arith, many))
too_many f command (x ∷ []) order many fits = absurd (omega (arith, many))
too_many f command (x ∷ y ∷ []) order many fits = absurd (omega (arith, many))
too_many f command (x ∷ y ∷ z ∷ []) order many fits = absurd (omega (arith, many))
too_many f command (x ∷ y ∷ z ∷ w ∷ xs) order many fits = fits
