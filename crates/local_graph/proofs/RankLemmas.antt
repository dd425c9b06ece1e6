-- Places sorted by rank are an order with ends first.
use Rattle.std.proofs.Common.{◌≡◌, ◌≢◌, ℕ, ◌<◌, ◌≤◌, ◌⊎◌, inl, inr, false, arith, rules, sym, ap, ◌∙◌, List, map, length, get_or, subst, nat_eq, Less, Equal, Some}
use Rattle.std.specs.List.{AllPairs, All, Contains, IsDistinct}
use Rattle.std.specs.List.Sorted.{IsPermutation, IsSorted}
use Rattle.std.specs.Ordering.{nat_cmp, is_lt}
use Rattle.std.specs.Cmp.{IsTotalOrder, nat_cmp_is}
use Rattle.std.specs.Cmp.Rules.{comparing}
use Rattle.std.proofs.lemmas.Bool.{cases_eq, cases_lt, cases_Bool, eqb-true, eq-eqb, true≢false}
use Rattle.std.proofs.lemmas.Bool.Decides.{eqb_tells}
use Rattle.std.proofs.lemmas.List.{length-map, get_or-map, get_or_default}
use Rattle.std.proofs.lemmas.List.Elements.{Contains-get_or}
use Rattle.std.proofs.lemmas.List.MinMax.{ranks_by}
use Rattle.std.proofs.lemmas.List.Sorted.{sorted_far, length_permutation, All-permutation, Contains-permutation}
use Rattle.std.proofs.lemmas.Map.Keys.{IsDistinct-IsPermutation, IsDistinct-from_apart, apart_from_distinct}
use Rattle.go_grid.specs.declared.grid.Colour.{Colour}
use Rattle.local_graph.specs.declared.graph.Edge.{Edge}
use Rattle.local_graph.specs.declared.return_orders.Rank.{Rank}
use Rattle.local_graph.specs.ReturnGraph.{IsOrderBetweenCaptures}
use Rattle.local_graph.specs.inner.Ranks.{rank_cmp, IsRank, AreRanks, AllFallOrRise}

rank_total : IsTotalOrder rank_cmp
rank_total = search (comparing, rules) depth 9

-- what doesn't come before has no lower component, and weighs no more in its own
not_before : (a b : Rank) → is_lt (rank_cmp b a) ≡ false
    → (a.component < b.component) ⊎ ((a.component ≡ b.component) × (a.lack ≤ b.lack))
not_before a b off = elim (cases_lt a.component b.component) [
  | inl lt ↦ inl lt
  | inr le ↦ elim (cases_eq a.component b.component) [
    | inl e ↦ elim (cases_lt b.lack a.lack) [
      | inl less ↦
          let first : nat_cmp b.component a.component ≡ Equal = sym (nat_cmp_is b.component a.component Equal (sym e)) in
          let second : nat_cmp b.lack a.lack ≡ Less = sym (nat_cmp_is b.lack a.lack Less less) in
          absurd (true≢false (rw (first, second) at off))
      | inr le' ↦ inr (e, le')
    ]
    | inr ne ↦
        let less : nat_cmp b.component a.component ≡ Less = sym (nat_cmp_is b.component a.component Less (omega (arith, le, ne))) in
        absurd (true≢false (rw less at off))
  ]
]

no_rank : Rank
no_rank = record { component = 0; lack = 0; place = 0 }

module _ (c : Colour) (positions components : List ℕ) (ranks sorted : List Rank) (r : AreRanks c positions components ranks)
    (moved : IsPermutation ranks sorted) (up : IsSorted rank_cmp sorted) where
  full : length sorted ≡ length positions
  full = length_permutation ranks sorted moved ∙ r.long

  each_rank : (k : ℕ) (d : Rank) → k < length ranks
      → IsRank c (get_or positions k 0) (get_or components k 0) k (get_or ranks k d)
  each_rank k d lt = r.each k (get_or ranks k d) (omega (arith, lt, r.long)) (get_or_default ranks k (get_or ranks k d) d lt)

  own_rank : All (λ x. (x.place < length positions) × IsRank c (get_or positions x.place 0) (get_or components x.place 0) x.place x) ranks
  own_rank k d lt =
      let w = each_rank k d lt in (
        omega (arith, w.place_is, lt, r.long),
        subst (λ i. IsRank c (get_or positions i 0) (get_or components i 0) i (get_or ranks k d)) (sym w.place_is) w,
      )

  own_sorted : (k : ℕ) → k < length sorted → ((get_or sorted k no_rank).place < length positions)
      × IsRank c (get_or positions (get_or sorted k no_rank).place 0) (get_or components (get_or sorted k no_rank).place 0)
      (get_or sorted k no_rank).place (get_or sorted k no_rank)
  own_sorted k lt = All-permutation (λ x. (x.place < length positions)
      × IsRank c (get_or positions x.place 0) (get_or components x.place 0) x.place x) ranks sorted moved own_rank k no_rank lt

  at_place : (k d : ℕ) → k < length sorted → get_or (map (λ x. x.place) sorted) k d ≡ (get_or sorted k no_rank).place
  at_place k d lt = get_or-map (λ x. x.place) sorted k no_rank d lt

  order_long : length (map (λ x. x.place) sorted) ≡ length sorted
  order_long = length-map sorted (λ x. x.place)

  apart_ranks : IsDistinct (λ x y. nat_eq x.place y.place) ranks
  apart_ranks = IsDistinct-from_apart (λ x y. nat_eq x.place y.place) ranks (λ i j d lt short.
      let a = each_rank i d (omega (arith, lt, short)) in
      let b = each_rank j d short in
      elim (cases_Bool (nat_eq (get_or ranks i d).place (get_or ranks j d).place)) [
        | inr off ↦ off
        | inl on ↦ absurd (omega (arith, lt, eqb-true (get_or ranks i d).place (get_or ranks j d).place on, a.place_is, b.place_is))
      ])

  flips : (x y : Rank) → nat_eq x.place y.place ≡ nat_eq y.place x.place
  flips x y = elim (eqb_tells x.place y.place) [
    | inl on ↦ on.0 ∙ sym (eq-eqb y.place x.place (sym on.1))
    | inr off ↦ elim (eqb_tells y.place x.place) [ inl on ↦ absurd (off.1 (sym on.1)) | inr off' ↦ off.0 ∙ sym off'.0 ]
  ]

  once : AllPairs (λ a b. a ≢ b) (map (λ x. x.place) sorted)
  once i j d lt short e =
      let short' : j < length sorted = omega (arith, short, order_long) in
      let apart = apart_from_distinct (λ x y. nat_eq x.place y.place) sorted i j no_rank
      (IsDistinct-IsPermutation (λ x y. nat_eq x.place y.place) flips ranks sorted moved apart_ranks) lt short' in
      let same : (get_or sorted i no_rank).place ≡ (get_or sorted j no_rank).place =
      sym (at_place i d (omega (arith, lt, short'))) ∙ e ∙ at_place j d short' in
      true≢false (sym (eq-eqb (get_or sorted i no_rank).place (get_or sorted j no_rank).place same) ∙ apart)

  every : (i : ℕ) → i < length positions → Contains (map (λ x. x.place) sorted) i
  every i lt =
      let inside : i < length ranks = omega (arith, lt, r.long) in
      let x = get_or ranks i no_rank in
      let (k, short, at) = Contains-permutation ranks sorted x moved (Contains-get_or ranks i no_rank inside) in
      let is : get_or sorted k no_rank ≡ x = get_or_default sorted k no_rank x short ∙ at in
      (k, omega (arith, short, order_long), at_place k i short ∙ ap (λ y. y.place) is ∙ (each_rank i no_rank inside).place_is)

  pub sorted_order : (edges : List (List Edge)) → AllFallOrRise c positions components edges
      → IsOrderBetweenCaptures c edges (Some components) (map (λ x. x.place) sorted)
  sorted_order edges f = record {
    once = once;
    inside = λ k lt.
        let lt' : k < length sorted = omega (arith, lt, order_long) in
        omega (arith, (own_sorted k lt').0, at_place k 0 lt', f.beside);
    every = λ i lt. every i (omega (arith, lt, f.beside));
    ends_first = λ k e lt among not.
        let lt' : k < length sorted = omega (arith, lt, order_long) in
        let i = get_or (map (λ x. x.place) sorted) k 0 in
        let a = own_sorted k lt' in
        let at : i ≡ (get_or sorted k no_rank).place = at_place k 0 lt' in
        let w = f.each i e (omega (arith, a.0, at)) among in
        let there = every e.next w.inside in
        let short : there.0 < length sorted = omega (arith, there.1, order_long) in
        let at' : (get_or sorted there.0 no_rank).place ≡ e.next = sym (at_place there.0 e.next short) ∙ there.2 in
        let b = own_sorted there.0 short in
        elim (cases_lt there.0 k) [
          | inl less ↦ (there.0, less, at_place there.0 0 short ∙ at')
          | inr le ↦
              let off = sorted_far (λ x y. is_lt (rank_cmp x y)) (ranks_by rank_total (λ x. x)) sorted up k there.0 no_rank le short in
              let ca : (get_or sorted k no_rank).component ≡ get_or components i 0 = a.1.component_is ∙ ap (λ p. get_or components p 0) (sym at) in
              let cb : (get_or sorted there.0 no_rank).component ≡ get_or components e.next 0 = b.1.component_is ∙ ap (λ p. get_or components p 0) at' in
              absurd (elim (not_before (get_or sorted k no_rank) (get_or sorted there.0 no_rank) off) as (λ _. ⊥) [
                | inl lower ↦ omega (arith, lower, ca, cb, w.down)
                | inr level ↦ elim w.rises as (λ _. ⊥) [
                  | inl takes ↦ not (takes.0, takes.1, sym cb ∙ sym level.0 ∙ ca)
                  | inr rises ↦
                      let la = a.1.lack_is w.from w.few (ap (λ p. get_or positions p 0) (sym at) ∙ w.is_from) in
                      let lb = b.1.lack_is w.to w.few_after (ap (λ p. get_or positions p 0) at' ∙ w.is_to) in
                      omega (arith, level.1, la, lb, rises)
                ]
              ])
        ];
  }
