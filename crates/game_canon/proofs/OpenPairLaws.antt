-- How many pairs of ids are still open.
use Rattle.std.proofs.Common.{ℕ, zero, suc, ◌+◌, ◌*◌, ◌<◌, ◌≤◌, ◌≡◌, arith, inl, inr, subst, Bool, Some, None}
use Rattle.std.specs.Prelude.{Option}
use Rattle.std.proofs.lemmas.Bool.{cases_lt}
use Rattle.std.proofs.lemmas.Nat.{mul-add-lt}

abbrev pub row : (ℕ → ℕ) → ℕ → ℕ
row f zero = 0
row f (suc n) = f n + row f n

pub row-le : (f g : ℕ → ℕ) (n : ℕ) → ((j : ℕ) → g j ≤ f j) → row g n ≤ row f n
row-le f g zero h = omega arith
row-le f g (suc n) h = omega (arith, h n, row-le f g n h)

pub row-lt : (f g : ℕ → ℕ) (n k : ℕ) → ((j : ℕ) → g j ≤ f j) → k < n → g k < f k → row g n < row f n
row-lt f g zero k h l m = absurd (omega (arith, l))
row-lt f g (suc n) k h l m = elim (cases_lt k n) [
  | inl d ↦ omega (arith, h n, row-lt f g n k h d m)
  | inr d ↦ (let same : k ≡ n = omega (arith, l, d) in omega (arith, subst (λ i. g i < f i) same m, row-le f g n h))
]

abbrev pub one_open : Option Bool → ℕ
one_open None = 1
one_open (Some answer) = 0

abbrev pub undecided : (ℕ → ℕ → Option Bool) → ℕ → ℕ
undecided known n = row (λ a. row (λ b. one_open (known a b)) n) n

pub undecided-falls : (known after : ℕ → ℕ → Option Bool) (n a b : ℕ) → ((c d : ℕ) → one_open (after c d) ≤ one_open (known c d)) → a < n → b < n → one_open (after a b) < one_open (known a b) → undecided after n < undecided known n
undecided-falls known after n a b h x y l = row-lt _ _ n a (λ c. row-le _ _ n (h c)) x (row-lt _ _ n b (h a) y l)

-- the measure: first the open pairs, then the ids
pub measure-answer : (u v s t k : ℕ) → v < u → t < k → v * k + t < u * k + s
measure-answer u v s t k l m = omega (arith, mul-add-lt v k t u l m)
