-- Games that cancel may be taken out of a sum.
use Rattle.std.proofs.Common.{ℕ, zero, suc, ◌≡◌, ◌≢◌, ◌↔◌, ◌<◌, ◌∙◌, arith, sym, ap, subst, List, [], ◌∷◌, length, get_or, set, sum, ℤ, pos, IsTrue, Bool, Some}
use Rattle.std.proofs.lemmas.Int.{ints}
use Rattle.std.proofs.lemmas.List.{get_or-set_other, length-set}
use Rattle.go_grid.specs.declared.grid.Colour.{Colour}
use Rattle.short_games.specs.Tree.{Tree, Trees, none, more, neg, tree_at}
use Rattle.short_games.specs.Order.{◌≤ᵍ◌, ◌≡ᵍ◌}
use Rattle.short_games.specs.Sum.{◌+ᵍ◌, total}
use Rattle.game_store.specs.Meaning.{pick, AreIds}
use Rattle.short_games.specs.Number.{number_tree}
use Rattle.short_games.proofs.OrderLaws.{le-trans, same-refl, same-path, same-sym, same-trans}
use Rattle.short_games.proofs.SumLaws.{nought, nought-plus, plus-nought, plus-neg, plus-assoc, same-plus, same-comm}
use Rattle.short_games.proofs.NumberLaws.{num-zero}
use Rattle.short_games.specs.SumLaws.{incentive}
use Rattle.game_players.specs.Players.{LosesGame}
use Rattle.short_games.proofs.IncentiveLaws.{incentive-dominates}
use Rattle.game_players.proofs.PlayerLaws.{loses-same}
use Rattle.game_canon.proofs.NumberSizeLaws.{own-number}
use Rattle.sum_outcome.specs.Sums.{sum_tree, AreBounds, IsBounded}
use Rattle.sum_outcome.specs.inner.Search.{put}
use Rattle.sum_outcome.specs.Opposites.{MayBeTakenOut, IsZero}
use Rattle.sum_outcome.specs.inner.Opposites.{Cancel, AreOpposite}
use Rattle.sum_outcome.proofs.CheapMoveLaws.{put-total}
use Rattle.sum_outcome.proofs.ListLaws.{pick-at, pick-put, put_back, falls_put, ids_put}

pub taken_out : MayBeTakenOut
taken_out c G K =
    let same : ((G +ᵍ neg G) +ᵍ K) ≡ᵍ K = same-trans _ _ _ (same-plus _ _ _ _ (plus-neg G) (same-refl K)) (same-path _ _ (nought-plus K)) in
    (λ l. loses-same c ((G +ᵍ neg G) +ᵍ K) K same l, λ l. loses-same c K ((G +ᵍ neg G) +ᵍ K) (same-sym _ _ same) l)

-- two games that are each at least the other's negative cancel
pub cancel_both : (Z G H : Tree) → Z ≡ number_tree (pos 0) → incentive H Z ≤ᵍ incentive Z G → incentive Z G ≤ᵍ incentive H Z → Cancel G H
cancel_both Z G H is above below =
    let empty : Z ≡ nought = is ∙ num-zero 60 in
    let none : Z +ᵍ Z ≡ nought = ap (λ t. t +ᵍ t) empty ∙ nought-plus nought in (
      le-trans (G +ᵍ H) (H +ᵍ G) nought (same-comm G H).0 (subst (λ t. H +ᵍ G ≤ᵍ t) none (incentive-dominates H Z Z G below)),
      subst (λ t. t ≤ᵍ G +ᵍ H) none (incentive-dominates Z G H Z above),
    )

bounds_zero : (Gs : Trees) (bs : List ℕ) (k : ℕ) (Z : Tree) → Z ≡ number_tree (pos 0) → AreBounds Gs bs → AreBounds (put Gs k Z) bs
bounds_zero none bs k Z is a = a
bounds_zero (more H Hs) [] k Z is a = absurd a
bounds_zero (more H Hs) (b ∷ bs) zero Z is a = (λ x n. (let e : x ≡ pos 0 = own-number Z (pos 0) x is n in omega (arith, ints, e)), a.1)
bounds_zero (more H Hs) (b ∷ bs) (suc k) Z is a = (a.0, bounds_zero Hs bs k Z is a.1)

-- 0 put for both games of a pair that cancels
module _ (Ts : List Tree) (ids : List ℕ) (z i j : ℕ) (is_zero : IsZero Ts (Some z)) (o : AreOpposite Ts ids z i j) where
  abbrev once : List ℕ
  once = set ids i z

  abbrev pub twice : List ℕ
  twice = set once j z

  abbrev first : Tree
  first = tree_at Ts (get_or ids i 0)

  abbrev second : Tree
  second = tree_at Ts (get_or ids j 0)

  first_inside : i < length ids
  first_inside = omega (arith, o.before, o.inside)

  second_inside : j < length once
  second_inside = omega (arith, o.inside, length-set ids i z)

  other_place : j ≢ i
  other_place e = omega (arith, e, o.before)

  there : get_or once j 0 ≡ get_or ids j 0
  there = get_or-set_other ids i j z 0 other_place

  first_put : (total (pick Ts once) +ᵍ first) ≡ᵍ (total (pick Ts ids) +ᵍ tree_at Ts z)
  first_put = rw (pick-put Ts ids i z) (put-total (pick Ts ids) i first (tree_at Ts z) (pick-at Ts ids i first_inside))

  second_put : (total (pick Ts twice) +ᵍ second) ≡ᵍ (total (pick Ts once) +ᵍ tree_at Ts z)
  second_put = subst (λ n. (total (pick Ts twice) +ᵍ tree_at Ts n) ≡ᵍ (total (pick Ts once) +ᵍ tree_at Ts z)) there
      (rw (pick-put Ts once j z) (put-total (pick Ts once) j (tree_at Ts (get_or once j 0)) (tree_at Ts z) (pick-at Ts once j second_inside)))

  without : (G : Tree) → (G +ᵍ tree_at Ts z) ≡ᵍ G
  without G = same-path _ _ (ap (λ t. G +ᵍ t) (is_zero.1 ∙ num-zero 60) ∙ plus-nought G)

  same_total : total (pick Ts twice) ≡ᵍ total (pick Ts ids)
  same_total =
      let T = total (pick Ts twice) in
      let U = total (pick Ts once) in
      let Z = tree_at Ts z in
      same-trans T (T +ᵍ (first +ᵍ second)) _ (same-sym _ _ (same-trans _ (T +ᵍ nought) _ (same-plus T T _ nought (same-refl T) o.cancel) (same-path _ _ (plus-nought T))))
      (same-trans _ (T +ᵍ (second +ᵍ first)) _ (same-plus T T _ _ (same-refl T) (same-comm first second))
      (same-trans _ ((T +ᵍ second) +ᵍ first) _ (same-path _ _ (sym (plus-assoc T second first)))
      (same-trans _ ((U +ᵍ Z) +ᵍ first) _ (same-plus _ _ first first second_put (same-refl first))
      (same-trans _ (U +ᵍ first) _ (same-plus _ _ first first (without U) (same-refl first))
      (same-trans _ (total (pick Ts ids) +ᵍ Z) _ first_put (without (total (pick Ts ids))))))))

  pub answer_without : (x : ℤ) (c : Colour) (b : Bool) → IsTrue b ↔ LosesGame c (sum_tree Ts twice x) → IsTrue b ↔ LosesGame c (sum_tree Ts ids x)
  answer_without x c b a =
      let same : sum_tree Ts twice x ≡ᵍ sum_tree Ts ids x = same-plus _ _ _ _ same_total (same-refl (number_tree x)) in (
        λ t. loses-same c (sum_tree Ts twice x) (sum_tree Ts ids x) same (a.0 t),
        λ l. a.1 (loses-same c (sum_tree Ts ids x) (sum_tree Ts twice x) (same-sym _ _ same) l),
      )

  second_below : z < get_or once j 0
  second_below = subst (λ n. z < n) (sym there) o.second

  pub ids_without : AreIds Ts ids → AreIds Ts twice
  ids_without are = ids_put Ts once j z second_inside second_below (ids_put Ts ids i z first_inside o.first are)

  bounded_zero : (is : List ℕ) (k : ℕ) (x : ℤ) → IsBounded (pick Ts is) x → IsBounded (pick Ts (set is k z)) x
  bounded_zero is k x b = rw (pick-put Ts is k z) (b.0, bounds_zero (pick Ts is) b.0 k (tree_at Ts z) is_zero.1 b.1, b.2)

  pub bounded_without : (x : ℤ) → IsBounded (pick Ts ids) x → IsBounded (pick Ts twice) x
  bounded_without x b = bounded_zero once j x (bounded_zero ids i x b)

  pub falls_without : sum twice < sum ids
  falls_without = omega (arith, falls_put ids i z first_inside o.first, falls_put once j z second_inside second_below)

  -- both put back
  pub restored_both : (now : List ℕ) → now ≡ twice → set (set now j (get_or ids j 0)) i (get_or ids i 0) ≡ ids
  restored_both now e = ap (λ l. set (set l j (get_or ids j 0)) i (get_or ids i 0)) e
      ∙ ap (λ n. set (set twice j n) i (get_or ids i 0)) (sym there)
      ∙ ap (λ l. set l i (get_or ids i 0)) (put_back once j z)
      ∙ put_back ids i z
