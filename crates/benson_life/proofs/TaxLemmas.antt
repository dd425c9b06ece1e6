-- On a settled board held points pay for groups.
use Rattle.std.proofs.Common.{◌≡◌, ◌≢◌, ℕ, zero, suc, ◌*◌, ◌<◌, ◌≤◌, inl, inr, List, [], ◌∷◌, ◌++◌, false, length, get_or, nat_eq, sym, subst, arith}
use Rattle.std.specs.Cmp.{nat_eq_equiv}
use Rattle.std.specs.List.{Contains, IsDistinct, list_any}
use Rattle.std.specs.List.Sorted.{IsStrictlyIncreasing}
use Rattle.std.proofs.lemmas.Bool.{cases_Bool, eqb-true}
use Rattle.std.proofs.lemmas.List.{length_push}
use Rattle.std.proofs.lemmas.List.Elements.{Contains-get_or, Contains-push_cases}
use Rattle.std.proofs.lemmas.Map.Keys.{IsDistinct-push, below_from_sorted, sorted_from_strictly_increasing}
use Rattle.std.proofs.lemmas.Map.Made.{length-le_from_is_member}
use Rattle.std.proofs.lemmas.Map.Views.{Contains-from_any, list_any-from_Contains}
use Rattle.go_grid.specs.declared.grid.Colour.{Colour}
use Rattle.go_grid.specs.Chain.{IsLiberty, IsSettled}
use Rattle.go_grid.specs.Board.{Board, DeclaresNothing, HasStone, Lacks}
use Rattle.go_grid.proofs.PathLemmas.{leads_here, leads_step}
use Rattle.go_grid.proofs.NearLemmas.{next_back}
use Rattle.go_grid.proofs.WalkLemmas.{joined_back, joined_here, joined_join}
use Rattle.benson_life.specs.Groups.{InGroup, IsLinkedInGroup, IsNumberOfGroups}
use Rattle.benson_life.specs.Held.{IsHeld}
use Rattle.benson_life.specs.Life.{HasRoom, HasTwoEyes, InRegion, IsAlive, IsCounted}
use Rattle.benson_life.proofs.StrikingLemmas.{alive_whole}
use Rattle.benson_life.proofs.WallLemmas.{counted_lacks, eye_point}

not_any : (y : ℕ) (xs : List ℕ) → ¬ Contains xs y → list_any (nat_eq y) xs ≡ false
not_any y xs none = elim (cases_Bool (list_any (nat_eq y) xs)) as (λ _. list_any (nat_eq y) xs ≡ false) [
  | inl on ↦ absurd (none (Contains-from_any eqb-true y xs on))
  | inr off ↦ off
]

-- items of an ascending list that have two items of another list each, and no two of them the same one
module _ (xs ys : List ℕ) (R : ℕ → ℕ → Type 0) (up : IsStrictlyIncreasing xs)
    (two : (x : ℕ) → Contains xs x → (a b : ℕ) × R x a × R x b × (a ≢ b))
    (apart : (x y a : ℕ) → Contains xs x → Contains xs y → R x a → R y a → x ≡ y) where
  -- the items that the first `k` have
  record Gathered (k : ℕ) (found : List ℕ) : Type 0 where
    pub distinct : IsDistinct nat_eq found
    pub long : length found ≡ 2 * k
    pub from : (a : ℕ) → Contains found a → (j : ℕ) × (j < k) × R (get_or xs j 0) a

  gathered : (k : ℕ) → k ≤ length xs → (found : List ℕ) × Gathered k found
  unfolding IsDistinct
  gathered zero le = ([], record { distinct = tt; long = omega arith; from = λ a h. absurd (omega (arith, h.1)) })
  gathered (suc k) le =
      let (found, w) = gathered k (omega (arith, le)) in
      let x = get_or xs k 0 in
      let here = Contains-get_or xs k 0 (omega (arith, le)) in
      let (a, b, ra, rb, ne) = two x here in
      let new : (y : ℕ) → R x y → ¬ Contains found y = λ y r h.
      let (j, lt, s) = w.from y h in
      let same = apart (get_or xs j 0) x y (Contains-get_or xs j 0 (omega (arith, lt, le))) here s r in
      let below = below_from_sorted xs j k 0 (sorted_from_strictly_increasing xs up) lt (omega (arith, le)) in
      omega (arith, same, below) in
      let one = found ++ a ∷ [] in
      let other : ¬ Contains one b = λ h. elim (Contains-push_cases found a b h) [ inl old ↦ new b rb old | inr e ↦ ne e ] in
      let first : IsDistinct nat_eq one = IsDistinct-push nat_eq_equiv found a w.distinct (not_any a found (new a ra)) in (
        one ++ b ∷ [],
        record {
          distinct = IsDistinct-push nat_eq_equiv one b first (not_any b one other);
          long = omega (arith, w.long, length_push found a, length_push one b);
          from = λ y h. elim (Contains-push_cases one b y h) as (λ _. (j : ℕ) × (j < suc k) × R (get_or xs j 0) y) [
            | inl h' ↦ elim (Contains-push_cases found a y h') as (λ _. (j : ℕ) × (j < suc k) × R (get_or xs j 0) y) [
              | inl old ↦ let v = w.from y old in (v.0, omega (arith, v.1), v.2)
              | inr e ↦ (k, omega arith, subst (R x) e ra)
            ]
            | inr e ↦ (k, omega arith, subst (R x) e rb)
          ];
        },
      )

  twice_as_many : ((x a : ℕ) → Contains xs x → R x a → Contains ys a) → 2 * length xs ≤ length ys
  twice_as_many among =
      let (found, w) = gathered (length xs) (omega arith) in
      let fit = length-le_from_is_member nat_eq_equiv found ys w.distinct (λ q on.
      let (j, lt, r) = w.from q (Contains-from_any eqb-true q found on) in
      list_any-from_Contains nat_eq_equiv q ys (among (get_or xs j 0) q (Contains-get_or xs j 0 lt) r)) in
      omega (arith, fit, w.long)

module _ (g : Board) (c : Colour) (settled : IsSettled g) (nothing : DeclaresNothing g) where
  -- a counted point that is a liberty of the stone's chain
  abbrev IsOwn : ℕ → ℕ → Type 0
  IsOwn s a = IsCounted g c a × IsLiberty g c s a

  undeclared_eyes : {In : ℕ → Type 0} (s : ℕ) → HasRoom g c In s → HasTwoEyes g c In s
  undeclared_eyes s (inl (p, declared, liberty)) = absurd (nothing p c declared)
  undeclared_eyes s (inr two) = two

  two_own : (s : ℕ) → IsAlive g c s → (a b : ℕ) × IsOwn s a × IsOwn s b × (a ≢ b)
  two_own s (S, healthy, among) =
      let (r, t, first, second, apart) = undeclared_eyes s (healthy.room s among) in
      let (a, at, counted, liberty) = eye_point g c s r S settled healthy among first in
      let (b, at', counted', liberty') = eye_point g c s t S settled healthy among second in (
        a,
        b,
        (counted, liberty),
        (counted', liberty'),
        λ e. apart (joined_join g.columns (Lacks g c) r a t at
            (joined_back g.columns (Lacks g c) t a (subst (InRegion g c t) (sym e) at'))),
      )

  -- stones with one such point are of one group
  one_group : (s t a : ℕ) → IsAlive g c s → IsAlive g c t → IsOwn s a → IsOwn t a → InGroup g c s t
  one_group s t a alive alive' (counted, (_, (u, chain, n))) (_, (_, (v, chain', m))) =
      let over = leads_step (IsLinkedInGroup g c) (IsAlive g c) in
      let far = alive_whole g c t v alive' chain' in
      let to_u = over s s u (leads_here (IsLinkedInGroup g c) (IsAlive g c) s alive) (inl chain) (alive_whole g c s u alive chain) in
      let to_v = over s u v to_u
      (inr (a, a, counted, joined_here g.columns (Lacks g c) a (counted_lacks g settled.closed c a counted), next_back g.columns u a n, next_back g.columns v a m)) far in
      over s v t to_v (inl (joined_back g.columns (HasStone g c) t v chain')) alive'

  pub taxed : (held groups : ℕ) → IsHeld g c held → IsNumberOfGroups g c groups → 2 * groups ≤ held
  taxed held groups h (leaders, lists, many) =
      let leader = λ (x : ℕ) (k : Contains leaders x). (lists.exact x).0 k in
      let (empties, listed, long) = h.empties in
      let few = twice_as_many leaders empties IsOwn lists.ascending
      (λ x k. two_own x (leader x k).0)
      (λ x y a k l own own'.
      let there = (leader x k).1 y (one_group x y a (leader x k).0 (leader y l).0 own own') in
      let back = (leader y l).1 x (one_group y x a (leader y l).0 (leader x k).0 own' own) in
      omega (arith, there, back))
      (λ x a k own. (listed.exact a).1 (own.0, own.1.0)) in
      omega (arith, few, many, long, h.sum)
