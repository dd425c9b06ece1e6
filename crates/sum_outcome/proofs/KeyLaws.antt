-- A sum, and the sum of its key.
use Rattle.std.proofs.Common.{ℕ, ◌≡◌, ◌+◌, ◌<◌, ◌≤◌, ◌++◌, arith, inl, inr, sym, ap, ◌∙◌, subst, List, [], ◌∷◌, length, get_or, set, drop, ℤ, ◌+ℤ◌}
use Rattle.std.specs.List.{swap}
use Rattle.std.specs.List.Sorted.{IsPermutation}
use Rattle.std.proofs.lemmas.Bool.{cases_eq}
use Rattle.std.proofs.lemmas.List.{drop_more, drop_all, get_or-set_same, get_or-set_other, length-set}
use Rattle.std.proofs.lemmas.List.Edits.{swap_is}
use Rattle.std.proofs.lemmas.List.Sorted.{IsPermutation-keeps}
use Rattle.std.proofs.lemmas.List.Sums.{sum_by-cons}
use mir.Val.{SFits}
use mir.Syntax.{w128}
use Rattle.short_games.specs.Tree.{Tree, Trees, more, tree_at}
use Rattle.short_games.specs.Order.{◌≡ᵍ◌}
use Rattle.short_games.specs.Sum.{◌+ᵍ◌, total}
use Rattle.game_store.specs.Meaning.{pick, AreIds}
use Rattle.short_games.specs.Number.{number_tree}
use Rattle.short_games.proofs.SumLaws.{plus-assoc, plus-cancel, nought-plus, plus-nought, same-plus}
use Rattle.short_games.proofs.OrderLaws.{same-refl, same-path, same-trans}
use Rattle.go_grid.specs.declared.grid.Colour.{Colour}
use Rattle.sum_outcome.specs.Sums.{sum_tree, IsBounded}
use Rattle.sum_outcome.specs.Memo.{mover_of_key}
use Rattle.sum_outcome.specs.inner.Memo.{IsKeyOf}
use Rattle.sum_outcome.specs.declared.key.Key.{Key}
use Rattle.sum_outcome.proofs.MemoLaws.{ids_pushed, ids_permuted}
use Rattle.sum_outcome.proofs.CheapMoveLaws.{IsAt, put-total}
use Rattle.sum_outcome.proofs.ListLaws.{pick-at, pick-put}
use Rattle.sum_outcome.proofs.StopLoopLaws.{same_over, bounded_over, small_fits}

-- the games before a place are listed or added to the number
pub record SplitSoFar (Ts : List Tree) (ids : List ℕ) (x : ℤ) (games : List ℕ) (y : ℤ) (k : ℕ) : Type 0 where
  pub same : sum_tree Ts ids x ≡ᵍ (total (pick Ts games) +ᵍ sum_tree Ts (drop k ids) y)
  pub bounds : IsBounded (pick Ts (drop k ids)) y
  pub known : AreIds Ts games

pub split_start : (Ts : List Tree) (ids : List ℕ) (x : ℤ) → IsBounded (pick Ts ids) x → SplitSoFar Ts ids x [] x 0
unfolding total
split_start Ts ids x b = record { same = same-path _ _ (sym (nought-plus (sum_tree Ts ids x))); bounds = b; known = λ j l. absurd (omega (arith, l)) }

total-push : (Ts : List Tree) (games : List ℕ) (i : ℕ) → total (pick Ts (games ++ i ∷ [])) ≡ total (pick Ts games) +ᵍ tree_at Ts i
unfolding total
total-push Ts [] i = plus-nought (tree_at Ts i) ∙ sym (nought-plus (tree_at Ts i))
total-push Ts (g ∷ gs) i = ap (λ t. tree_at Ts g +ᵍ t) (total-push Ts gs i) ∙ sym (plus-assoc (tree_at Ts g) (total (pick Ts gs)) (tree_at Ts i))

bounded_rest : (G : Tree) (Gs : Trees) (y : ℤ) → IsBounded (more G Gs) y → IsBounded Gs y
bounded_rest G Gs y ([], a, l) = absurd a
bounded_rest G Gs y (b ∷ bs, a, l) = (bs, a.1, omega (arith, l, sum_by-cons (λ n. n) b bs))

module _ (Ts : List Tree) (ids : List ℕ) (x y : ℤ) (games : List ℕ) (k : ℕ) (w : SplitSoFar Ts ids x games y k) (lt : k < length ids) where
  abbrev pub next : Tree
  next = tree_at Ts (get_or ids k 0)

  abbrev rest : Trees
  rest = pick Ts (drop (k + 1) ids)

  bounds_here : IsBounded (more next rest) y
  bounds_here = subst (λ l. IsBounded (pick Ts l) y) (drop_more ids k 0 lt) w.bounds

  bounds_over : (z : ℤ) → next ≡ number_tree z → IsBounded rest (y +ℤ z)
  bounds_over z e = bounded_over next rest y z (inl e) bounds_here

  pub split_fits : (z : ℤ) → next ≡ number_tree z → SFits w128 (y +ℤ z)
  split_fits z e = let b = bounds_over z e in small_fits (y +ℤ z) (omega (arith, b.2))

  pub split_number : (z : ℤ) → next ≡ number_tree z → SplitSoFar Ts ids x games (y +ℤ z) (k + 1)
  unfolding total
  split_number z e = record {
    same = same-trans _ _ _ w.same (same-plus _ _ _ _ (same-refl (total (pick Ts games)))
        (rw (drop_more ids k 0 lt) (subst (λ t. ((t +ᵍ total rest) +ᵍ number_tree y) ≡ᵍ (total rest +ᵍ number_tree (y +ℤ z))) (sym e) (same_over (total rest) y z))));
    bounds = bounds_over z e;
    known = w.known;
  }

  pub split_game : AreIds Ts ids → SplitSoFar Ts ids x (games ++ get_or ids k 0 ∷ []) y (k + 1)
  unfolding total
  split_game are = record {
    same = same-trans _ _ _ w.same (same-path _ _ (ap (λ l. total (pick Ts games) +ᵍ sum_tree Ts l y) (drop_more ids k 0 lt)
        ∙ ap (λ t. total (pick Ts games) +ᵍ t) (plus-assoc next (total rest) (number_tree y))
        ∙ sym (plus-assoc (total (pick Ts games)) next (total rest +ᵍ number_tree y))
        ∙ ap (λ t. t +ᵍ (total rest +ᵍ number_tree y)) (sym (total-push Ts games (get_or ids k 0)))));
    bounds = bounded_rest next rest y bounds_here;
    known = ids_pushed Ts games (get_or ids k 0) w.known (are k lt);
  }

-- two games of a list exchanged: first the second is put for the first
module _ (Ts : List Tree) (is : List ℕ) (i j : ℕ) (li : i < length is) (lj : j < length is) where
  abbrev at_first : Tree
  at_first = tree_at Ts (get_or is i 0)

  abbrev at_second : Tree
  at_second = tree_at Ts (get_or is j 0)

  abbrev between : List ℕ
  between = set is i (get_or is j 0)

  there : get_or between j 0 ≡ get_or is j 0
  there = elim (cases_eq j i) [
    | inl e ↦ rw e (get_or-set_same is i (get_or is i 0) 0 li)
    | inr d ↦ get_or-set_other is i j (get_or is j 0) 0 d
  ]

  one_put : (total (pick Ts between) +ᵍ at_first) ≡ᵍ (total (pick Ts is) +ᵍ at_second)
  one_put = rw (pick-put Ts is i (get_or is j 0)) (put-total (pick Ts is) i at_first at_second (pick-at Ts is i li))

  other_put : (total (pick Ts (set between j (get_or is i 0))) +ᵍ at_second) ≡ᵍ (total (pick Ts between) +ᵍ at_first)
  other_put = rw (pick-put Ts between j (get_or is i 0))
      (put-total (pick Ts between) j at_second at_first (subst (λ n. IsAt (pick Ts between) j (tree_at Ts n)) there (pick-at Ts between j (omega (arith, lj, length-set is i (get_or is j 0))))))

  pub same_swap : total (pick Ts is) ≡ᵍ total (pick Ts (swap is i j))
  same_swap = subst (λ l. total (pick Ts is) ≡ᵍ total (pick Ts l)) (swap_is is i j 0 li lj)
      (let e = same-trans _ _ _ other_put one_put in (plus-cancel _ _ at_second e.1, plus-cancel _ _ at_second e.0))

pub sorted_same : (Ts : List Tree) (games is : List ℕ) → IsPermutation games is → total (pick Ts games) ≡ᵍ total (pick Ts is)
sorted_same Ts games is p = IsPermutation-keeps games (λ l. total (pick Ts games) ≡ᵍ total (pick Ts l)) (same-refl (total (pick Ts games))) (λ l i j li lj e. same-trans _ _ _ e (same_swap Ts l i j li lj)) is p

pub split_end : (Ts : List Tree) (ids : List ℕ) (x y : ℤ) (c : Colour) (games : List ℕ) (k : ℕ) (key : Key) → SplitSoFar Ts ids x games y k → length ids ≤ k → IsPermutation games key.games.items → key.number ≡ y → mover_of_key key ≡ c → IsKeyOf Ts ids x c key
unfolding total
split_end Ts ids x y c games k key w le p number turn = record {
  same = subst (λ z. sum_tree Ts ids x ≡ᵍ sum_tree Ts key.games.items z) (sym number) (same-trans _ _ _ (rw (drop_all k ids le) at w.same)
      (same-plus (total (pick Ts games)) (total (pick Ts key.games.items)) _ (number_tree y) (sorted_same Ts games key.games.items p) (same-path _ _ (nought-plus (number_tree y)))));
  mover = turn;
  known = ids_permuted Ts games key.games.items p w.known;
}
