-- Laws of paths.
use Rattle.std.proofs.Common.{ℕ, List, [], ◌∷◌, refl, sym, subst}
use Rattle.go_grid.specs.Path.{Path, HasPath}

-- what holds at the start and goes on along each step holds at the end
along : (Next : ℕ → ℕ → Type 0) (In C : ℕ → Type 0) → ((p q : ℕ) → C p → Next p q → In q → C q)
    → (rest : List ℕ) (p q : ℕ) → C p → Path Next In p rest q → C q
along Next In C goes [] p q here w = subst C w.1 here
along Next In C goes (r ∷ rest) p q here w = along Next In C goes rest r q (goes p r here w.1 (first rest r q w.2)) w.2
  where
    first : (rest : List ℕ) (r q : ℕ) → Path Next In r rest q → In r
    first [] r q w = w.0
    first (s ∷ rest) r q w = w.0

pub carried : (Next : ℕ → ℕ → Type 0) (In C : ℕ → Type 0) → ((p q : ℕ) → C p → Next p q → In q → C q)
    → (p q : ℕ) → C p → HasPath Next In p q → C q
carried Next In C goes p q here j = along Next In C goes j.0 p q here j.1

pub leads_here : (Next : ℕ → ℕ → Type 0) (In : ℕ → Type 0) (p : ℕ) → In p → HasPath Next In p p
leads_here Next In p h = ([], (h, refl))

extend : (Next : ℕ → ℕ → Type 0) (In : ℕ → Type 0) (rest : List ℕ) (p q r : ℕ) → Path Next In p rest q → Next q r → In r → HasPath Next In p r
extend Next In [] p q r w n h = (r ∷ [], (w.0, subst (λ x. Next x r) (sym w.1) n, (h, refl)))
extend Next In (s ∷ rest) p q r w n h = let t = extend Next In rest s q r w.2 n h in (s ∷ t.0, (w.0, w.1, t.1))

-- one step more
pub leads_step : (Next : ℕ → ℕ → Type 0) (In : ℕ → Type 0) (p q r : ℕ) → HasPath Next In p q → Next q r → In r → HasPath Next In p r
leads_step Next In p q r j n h = extend Next In j.0 p q r j.1 n h

pub leads_start : (Next : ℕ → ℕ → Type 0) (In : ℕ → Type 0) (p q : ℕ) → HasPath Next In p q → In p
leads_start Next In p q ([], w) = w.0
leads_start Next In p q (r ∷ rest, w) = w.0

pub leads_end : (Next : ℕ → ℕ → Type 0) (In : ℕ → Type 0) (p q : ℕ) → HasPath Next In p q → In q
leads_end Next In p q j = carried Next In In (λ p q _ _ h. h) p q (leads_start Next In p q j) j

-- more places and more steps to go over
pub leads_over : (Next More : ℕ → ℕ → Type 0) (In Wider : ℕ → Type 0) → ((p : ℕ) → In p → Wider p)
    → ((p q : ℕ) → Next p q → In q → More p q) → (p q : ℕ) → HasPath Next In p q → HasPath More Wider p q
leads_over Next More In Wider wider more p q j =
    carried Next In (HasPath More Wider p) (λ x y k n h. leads_step More Wider p x y k (more x y n h) (wider y h)) p q
    (leads_here More Wider p (wider p (leads_start Next In p q j))) j

-- more places
pub leads_more : (Next : ℕ → ℕ → Type 0) (In More : ℕ → Type 0) → ((p : ℕ) → In p → More p) → (p q : ℕ)
    → HasPath Next In p q → HasPath Next More p q
leads_more Next In More wider = leads_over Next Next In More wider (λ p q n h. n)

-- one path and then another
pub leads_join : (Next : ℕ → ℕ → Type 0) (In : ℕ → Type 0) (p q r : ℕ) → HasPath Next In p q → HasPath Next In q r → HasPath Next In p r
leads_join Next In p q r j k = carried Next In (HasPath Next In p) (λ x y. leads_step Next In p x y) q r j k
