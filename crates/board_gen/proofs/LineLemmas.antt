-- Walks along a line of points.
use Rattle.std.proofs.Common.{ℕ, zero, suc, ◌+◌, ◌-◌, ◌*◌, ◌%◌, ◌<◌, ◌≤◌, ◌≡◌, subst, arith}
use Rattle.std.proofs.lemmas.Nat.{mod-mul-add}
use Rattle.go_grid.specs.Board.{NextTo}
use Rattle.go_grid.specs.Walk.{Joined}
use Rattle.go_grid.proofs.WalkLemmas.{joined_here, joined_step}
use Rattle.go_grid.proofs.NearLemmas.{next_right, next_down}

-- a line of `n` steps
line : (c : ℕ) (In : ℕ → Type 0) (at : ℕ → ℕ) (n : ℕ) → ((k : ℕ) → k ≤ n → In (at k)) → ((k : ℕ) → k < n → NextTo c (at k) (at (suc k)))
    → Joined c In (at zero) (at n)
line c In at zero inside next = joined_here c In (at zero) (inside zero (omega arith))
line c In at (suc n) inside next =
    joined_step c In (at zero) (at n) (at (suc n)) (line c In at n (λ k le. inside k (omega (arith, le))) (λ k lt. next k (omega (arith, lt))))
    (next n (omega arith)) (inside (suc n) (omega arith))

-- from one column of a row to a later one
pub along_row : (In : ℕ → Type 0) (r x y : ℕ) → x ≤ y → y < 25 → ((k : ℕ) → x ≤ k → k ≤ y → In (r * 25 + k))
    → Joined 25 In (r * 25 + x) (r * 25 + y)
along_row In r x y le most inside =
    let first : r * 25 + (x + 0) ≡ r * 25 + x = omega arith in
    let last : r * 25 + (x + (y - x)) ≡ r * 25 + y = omega (arith, le) in
    subst (λ p. Joined 25 In p (r * 25 + y)) first
    (subst (λ q. Joined 25 In (r * 25 + (x + 0)) q) last
    (line 25 In (λ k. r * 25 + (x + k)) (y - x) (λ k lt. inside (x + k) (omega arith) (omega (arith, lt, le)))
    (λ k lt.
    let next : r * 25 + (x + k) + 1 ≡ r * 25 + (x + suc k) = omega arith in
    let column : (r * 25 + (x + k)) % 25 ≡ x + k = mod-mul-add r 25 (x + k) (omega (arith, lt, most)) in
    subst (NextTo 25 (r * 25 + (x + k))) next (next_right 25 (r * 25 + (x + k)) (omega arith) (omega (arith, column, lt, most))))))

-- down a column to row 23
pub down_column : (In : ℕ → Type 0) (r x : ℕ) → r < 24 → ((k : ℕ) → k < 24 → In (k * 25 + x)) → Joined 25 In (r * 25 + x) (23 * 25 + x)
down_column In r x least inside =
    let first : (r + 0) * 25 + x ≡ r * 25 + x = omega arith in
    let last : (r + (23 - r)) * 25 + x ≡ 23 * 25 + x = omega (arith, least) in
    subst (λ p. Joined 25 In p (23 * 25 + x)) first
    (subst (λ q. Joined 25 In ((r + 0) * 25 + x) q) last
    (line 25 In (λ k. (r + k) * 25 + x) (23 - r) (λ k lt. inside (r + k) (omega (arith, lt, least)))
    (λ k lt.
    let next : (r + k) * 25 + x + 25 ≡ (r + suc k) * 25 + x = omega arith in
    subst (NextTo 25 ((r + k) * 25 + x)) next (next_down 25 ((r + k) * 25 + x) (omega arith)))))
