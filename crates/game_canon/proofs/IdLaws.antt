-- Lists of ids in order, and the sizes of their trees.
use Rattle.std.proofs.Common.{ℕ, ◌+◌, ◌<◌, ◌≤◌, ◌≡◌, List, [], ◌∷◌, length, get_or, arith, refl, sym, ◌∙◌, inl, inr, ap, subst, Bool, true, false, cond, nat_eq, suc, ◌-◌, ◌⊎◌}
use Rattle.std.specs.List.{sum_by, dedup, dedup_from, Contains}
use Rattle.std.specs.List.{insert}
use Rattle.std.specs.List.Sorted.{IsStrictlyIncreasing}
use Rattle.std.proofs.lemmas.Bool.{cases_lt}
use Rattle.std.proofs.lemmas.List.Edits.{length-insert, get_or-insert_below, get_or-insert_at, get_or-insert_above}
use Rattle.std.proofs.lemmas.List.Sums.{sum_by-cons}
use Rattle.std.proofs.lemmas.List.Kept.{AllPairs-from_increasing}
use Rattle.std.proofs.lemmas.List.Elements.{Contains-get_or, at_from_Contains}
use Rattle.short_games.specs.Tree.{Tree, Has, size, sizes, tree_at}
use Rattle.game_store.specs.Meaning.{pick, AreIds, IsAscending}
use Rattle.game_store.proofs.EntryLaws.{has-pick, pick-has}
use Rattle.game_canon.specs.inner.Ids.{IsInOrder, Stands, IsPlaceOf, IsWith}

sum-dedup_from : (f : ℕ → ℕ) (x : ℕ) (xs : List ℕ) → sum_by f (dedup_from nat_eq x xs) ≤ f x + sum_by f xs
sum-dedup_from f x [] = omega (arith, sum_by-cons f x [])
sum-dedup_from f x (y ∷ ys) = at (nat_eq y x) (sum-dedup_from f x ys) (sum-dedup_from f y ys)
  where
    at : (b : Bool) → sum_by f (dedup_from nat_eq x ys) ≤ f x + sum_by f ys → sum_by f (dedup_from nat_eq y ys) ≤ f y + sum_by f ys
        → sum_by f (cond b (dedup_from nat_eq x ys) (x ∷ dedup_from nat_eq y ys)) ≤ f x + sum_by f (y ∷ ys)
    at true p q = omega (arith, p, sum_by-cons f y ys)
    at false p q = omega (arith, q, sum_by-cons f y ys, sum_by-cons f x (dedup_from nat_eq y ys))

pub sum-dedup : (f : ℕ → ℕ) (xs : List ℕ) → sum_by f (dedup nat_eq xs) ≤ sum_by f xs
sum-dedup f [] = omega arith
sum-dedup f (x ∷ xs) = omega (arith, sum-dedup_from f x xs, sum_by-cons f x xs)

pub from-words : (is vs : List ℕ) → IsStrictlyIncreasing vs → ((x : ℕ) → Contains is x → Contains vs x) → ((x : ℕ) → Contains vs x → Contains is x) → ((f : ℕ → ℕ) → sum_by f vs ≤ sum_by f is) → IsInOrder is vs
from-words is vs rises keeps adds_none fewer = record {
  ascends = λ i j l k. AllPairs-from_increasing vs rises i j 0 l k;
  to = λ i l. (let r = at_from_Contains vs (get_or is i 0) (keeps _ (Contains-get_or is i 0 l)) in (r.0, r.1, sym (r.2 0)));
  from = λ j l. (let r = at_from_Contains is (get_or vs j 0) (adds_none _ (Contains-get_or vs j 0 l)) in (r.0, r.1, sym (r.2 0)));
  fewer = fewer;
}

sizes-sum : (Ts : List Tree) (is : List ℕ) → sizes (pick Ts is) ≡ sum_by (λ i. size (tree_at Ts i)) is
unfolding size
sizes-sum Ts [] = refl
sizes-sum Ts (i ∷ is) = ap (λ n. size (tree_at Ts i) + n) (sizes-sum Ts is) ∙ sym (sum_by-cons (λ i. size (tree_at Ts i)) i is)

pub sizes-order : (Ts : List Tree) (is vs : List ℕ) → IsInOrder is vs → sizes (pick Ts vs) ≤ sizes (pick Ts is)
sizes-order Ts is vs o = omega (arith, sizes-sum Ts is, sizes-sum Ts vs, o.fewer (λ i. size (tree_at Ts i)))

pub in-order : (Ts : List Tree) (is vs : List ℕ) → IsInOrder is vs → (X : Tree) → Has (pick Ts is) X → Has (pick Ts vs) X
in-order Ts is vs o X h = let r = has-pick Ts is X h in let q = o.to r.0 r.1 in
    subst (Has (pick Ts vs)) (sym (r.2 ∙ ap (tree_at Ts) q.2)) (pick-has Ts vs q.0 q.1)

pub out-order : (Ts : List Tree) (is vs : List ℕ) → IsInOrder is vs → (X : Tree) → Has (pick Ts vs) X → Has (pick Ts is) X
out-order Ts is vs o X h = let r = has-pick Ts vs X h in let q = o.from r.0 r.1 in
    subst (Has (pick Ts is)) (sym (r.2 ∙ ap (tree_at Ts) q.2)) (pick-has Ts is q.0 q.1)

pub ordered-ids : (Ts : List Tree) (is vs : List ℕ) → IsInOrder is vs → AreIds Ts is → AreIds Ts vs
ordered-ids Ts is vs o a j l = let q = o.from j l in subst (λ z. z < length Ts) (sym q.2) (a q.0 q.1)

-- ids that ascend are in order
pub in_order-same : (is : List ℕ) → IsAscending is → IsInOrder is is
in_order-same is up = record { ascends = up; to = λ i l. (i, l, refl); from = λ j l. (j, l, refl); fewer = λ f. omega arith }

-- the first n of them ascend
pub record IsRising (is : List ℕ) (n : ℕ) : Type 0 where
  pub some : 0 < n
  pub up : (i j : ℕ) → i < j → j < n → j < length is → get_or is i 0 < get_or is j 0

pub rising-start : (is : List ℕ) → IsRising is 1
rising-start is = record { some = omega arith; up = λ i j l m. absurd (omega (arith, l, m)) }

pub rising-step : (is : List ℕ) (n : ℕ) → IsRising is n → get_or is (n - 1) 0 < get_or is n 0 → IsRising is (n + 1)
rising-step is n w less = record {
  some = omega arith;
  up = λ i j l m k. elim (cases_lt j n) [
    | inl d ↦ w.up i j l d k
    | inr d ↦ (let e : n ≡ j = omega (arith, d, m) in subst (λ z. get_or is i 0 < get_or is z 0) e (elim (cases_lt i (n - 1)) [
      | inl o ↦ omega (arith, less, w.up i (n - 1) o (omega (arith, w.some)) (omega (arith, e, k)))
      | inr o ↦ (let f : n - 1 ≡ i = omega (arith, o, l, e, w.some) in subst (λ z. get_or is z 0 < get_or is n 0) f less)
    ]))
  ];
}

pub rising-end : (is : List ℕ) (n : ℕ) → IsRising is n → length is ≤ n → IsAscending is
rising-end is n w l i j m k = w.up i j m (omega (arith, k, l)) k

pub ascending-tail : (i : ℕ) (is : List ℕ) → IsAscending (i ∷ is) → IsAscending is
ascending-tail i is up a b l m = up (suc a) (suc b) (omega (arith, l)) (omega (arith, m))

-- a search among them: the place is not before `low`, and not behind `high`
pub record IsSearching (is : List ℕ) (id low high : ℕ) : Type 0 where
  pub inside : high ≤ length is
  pub met : low ≤ high
  pub before : (j : ℕ) → j < low → get_or is j 0 < id
  pub from : (j : ℕ) → high ≤ j → j < length is → id ≤ get_or is j 0

pub searching-start : (is : List ℕ) (id : ℕ) → IsSearching is id 0 (length is)
searching-start is id = record { inside = omega arith; met = omega arith; before = λ j l. absurd (omega (arith, l)); from = λ j a b. absurd (omega (arith, a, b)) }

pub searching-low : (is : List ℕ) (id low high middle : ℕ) → IsAscending is → IsSearching is id low high → middle < high → get_or is middle 0 < id → IsSearching is id (middle + 1) high
searching-low is id low high middle up w l less = record {
  inside = w.inside;
  met = omega (arith, l);
  before = λ j a. elim (cases_lt j middle) [
    | inl d ↦ omega (arith, less, up j middle d (omega (arith, l, w.inside)))
    | inr d ↦ (let e : middle ≡ j = omega (arith, a, d) in subst (λ z. get_or is z 0 < id) e less)
  ];
  from = w.from;
}

pub searching-high : (is : List ℕ) (id low high middle : ℕ) → IsAscending is → IsSearching is id low high → low ≤ middle → middle < high → id ≤ get_or is middle 0 → IsSearching is id low middle
searching-high is id low high middle up w a l more = record {
  inside = omega (arith, l, w.inside);
  met = a;
  before = w.before;
  from = λ j m k. elim (cases_lt middle j) [
    | inl d ↦ omega (arith, more, up middle j d k)
    | inr d ↦ (let e : middle ≡ j = omega (arith, m, d) in subst (λ z. id ≤ get_or is z 0) e more)
  ];
}

pub searching-end : (is : List ℕ) (id low high : ℕ) → IsSearching is id low high → high ≤ low → IsPlaceOf is id low
searching-end is id low high w l = record { inside = omega (arith, w.met, w.inside); before = w.before; from = λ j a k. w.from j (omega (arith, l, a)) k }

-- one more among them
module _ (is : List ℕ) (id place : ℕ) (up : IsAscending is) (p : IsPlaceOf is id place) where
  pub with-there : (place < length is) × (get_or is place 0 ≡ id) → IsWith is id is
  with-there h = record { ascends = up; kept = λ i s. s; new = (place, h.0, h.1); from = λ i s. inl s }

  module _ (us : List ℕ) (made : us ≡ insert is place id) (other : (place < length is) × (get_or is place 0 ≡ id) → ⊥) where
    longer : length us ≡ length is + 1
    longer = ap length made ∙ length-insert is place id p.inside

    above : (j : ℕ) → place ≤ j → j < length is → id < get_or is j 0
    above j a b = elim (cases_lt id (get_or is j 0)) [
      | inl d ↦ d
      | inr d ↦ elim (cases_lt place j) [
        | inl m ↦ absurd (omega (arith, d, up place j m b, p.from place (omega arith) (omega (arith, m, b))))
        | inr m ↦ (
            let e : place ≡ j = omega (arith, a, m) in
            absurd (other (omega (arith, e, b), omega (arith, ap (λ z. get_or is z 0) e, d, p.from j a b)))
            )
      ]
    ]

    -- where the items come from
    low : (j : ℕ) → j < place → get_or us j 0 ≡ get_or is j 0
    low j l = ap (λ z. get_or z j 0) made ∙ get_or-insert_below is place id 0 j l p.inside

    mid : get_or us place 0 ≡ id
    mid = ap (λ z. get_or z place 0) made ∙ get_or-insert_at is place id 0 p.inside

    high : (j : ℕ) → place ≤ j → get_or us (j + 1) 0 ≡ get_or is j 0
    high j l = ap (λ z. get_or z (j + 1) 0) made ∙ get_or-insert_above is place id 0 j l p.inside

    data Source (j : ℕ) : Type 0 where
      first : j < place → Source j
      one : j ≡ place → Source j
      last : (i : ℕ) → place ≤ i → j ≡ i + 1 → Source j

    source : (j : ℕ) → Source j
    source j = elim (cases_lt j place) [
      | inl d ↦ first d
      | inr d ↦ elim (cases_lt place j) [
        | inl m ↦ last (j - 1) (omega (arith, m)) (omega (arith, m))
        | inr m ↦ one (omega (arith, d, m))
      ]
    ]

    rising : (i j : ℕ) → i < j → j < length us → get_or us i 0 < get_or us j 0
    rising i j l m = at (source i) (source j)
      where
        at : Source i → Source j → get_or us i 0 < get_or us j 0
        at (first a) (first b) = omega (arith, low i a, low j b, up i j l (omega (arith, b, p.inside)))
        at (first a) (one e) = omega (arith, low i a, ap (λ z. get_or us z 0) e, mid, p.before i a)
        at (first a) (last k b e) = omega (arith, low i a, ap (λ z. get_or us z 0) e, high k b, up i k (omega (arith, a, b)) (omega (arith, m, longer, e)))
        at (one e) (first b) = absurd (omega (arith, e, b, l))
        at (one e) (one f) = absurd (omega (arith, e, f, l))
        at (one e) (last k b f) = omega (arith, ap (λ z. get_or us z 0) e, mid, ap (λ z. get_or us z 0) f, high k b, above k b (omega (arith, m, longer, f)))
        at (last n a e) (first b) = absurd (omega (arith, a, e, b, l))
        at (last n a e) (one f) = absurd (omega (arith, a, e, f, l))
        at (last n a e) (last k b f) = omega (arith, ap (λ z. get_or us z 0) e, high n a, ap (λ z. get_or us z 0) f, high k b, up n k (omega (arith, e, f, l)) (omega (arith, m, longer, f)))

    pub with-inserted : IsWith is id us
    with-inserted = record {
      ascends = rising;
      kept = λ i s. elim (cases_lt s.0 place) [
        | inl d ↦ (s.0, omega (arith, s.1, longer), low s.0 d ∙ s.2)
        | inr d ↦ (s.0 + 1, omega (arith, s.1, longer), high s.0 (omega (arith, d)) ∙ s.2)
      ];
      new = (place, omega (arith, p.inside, longer), mid);
      from = λ i s. at i s.0 s.1 s.2 (source s.0);
    }
      where
        at : (i j : ℕ) → j < length us → get_or us j 0 ≡ i → Source j → Stands is i ⊎ (i ≡ id)
        at i j l e (first a) = inl (j, omega (arith, a, p.inside), sym (low j a) ∙ e)
        at i j l e (one a) = inr (sym e ∙ ap (λ z. get_or us z 0) a ∙ mid)
        at i j l e (last k a f) = inl (k, omega (arith, l, longer, f), sym (high k a) ∙ sym (ap (λ z. get_or us z 0) f) ∙ e)
