-- The stops of a list added up.
use Rattle.std.proofs.Common.{ℕ, ◌≡◌, ◌+◌, ◌<◌, ◌≤◌, ◌^◌, ◌&&◌, arith, refl, sym, subst, List, [], ◌∷◌, ◌∙◌, length, get_or, drop, Bool, true, false, ℤ, pos, negsuc, ◌+ℤ◌, ◌<ℤ◌, ◌≤ℤ◌, IsTrue, ◌↔◌}
use Rattle.std.specs.Prelude.{unsigned_abs}
use Rattle.std.proofs.lemmas.Int.{ints}
use Rattle.std.proofs.lemmas.Bool.{both_ways}
use mir.Val.{SFits}
use mir.Syntax.{w128}
use Rattle.std.proofs.lemmas.List.{drop_more, drop_all}
use Rattle.std.proofs.lemmas.List.Sums.{sum_by-cons}
use Rattle.std.specs.declared.cmp.Ordering.TheVariants.{Less, Equal, Greater}
use Rattle.short_games.specs.Tree.{Tree, Trees, more, tree_at}
use Rattle.short_games.specs.Order.{◌≤ᵍ◌, ◌≡ᵍ◌}
use Rattle.short_games.specs.Sum.{◌+ᵍ◌, total}
use Rattle.short_games.specs.Number.{IsNumberTree, number_tree}
use Rattle.short_games.specs.Parts.{IsNumberOf}
use Rattle.short_games.specs.Stops.{IsLeftStop, IsRightStop}
use Rattle.short_games.specs.TextOrder.{IsCanonicalTree}
use Rattle.game_store.specs.Meaning.{pick}
use Rattle.short_games.proofs.OrderLaws.{le-trans, same-refl, same-path, same-sym, same-trans}
use Rattle.short_games.proofs.SumLaws.{nought, plus-assoc, nought-plus, same-plus, same-comm}
use Rattle.short_games.proofs.NumberLaws.{num-le, num-zero}
use Rattle.short_games.proofs.StopLaws.{over-right_stop, under-left_stop}
use Rattle.sum_outcome.specs.Sums.{sum_tree, IsBounded}
use Rattle.sum_outcome.specs.inner.Search.{HasNonNumber, IsSign}
use Rattle.sum_outcome.proofs.CheapMoveLaws.{num-sum}
use Rattle.sum_outcome.proofs.StopSumLaws.{IsOver, IsUnder, over-plus, under-plus, over-number, under-number, over-sign, under-sign, left_stop-number, right_stop-number, left_stop-same, right_stop-same}

-- what is known of the whole sum by the games before a place: what bounds the others bounds it with the sums of stops
pub record StoodSoFar (Ts : List Tree) (ids : List ℕ) (x low high : ℤ) (numbers : Bool) (k : ℕ) : Type 0 where
  pub low_bounds : IsBounded (pick Ts (drop k ids)) low
  pub high_bounds : IsBounded (pick Ts (drop k ids)) high
  pub over : (z : ℤ) → IsOver (total (pick Ts (drop k ids))) z → IsOver (sum_tree Ts ids x) (low +ℤ z)
  pub under : (z : ℤ) → IsUnder (total (pick Ts (drop k ids))) z → IsUnder (sum_tree Ts ids x) (high +ℤ z)
  pub low_same : IsTrue numbers → sum_tree Ts ids x ≡ᵍ sum_tree Ts (drop k ids) low
  pub high_same : IsTrue numbers → sum_tree Ts ids x ≡ᵍ sum_tree Ts (drop k ids) high
  pub other : numbers ≡ false → HasNonNumber Ts ids

pub stood_start : (Ts : List Tree) (ids : List ℕ) (x : ℤ) → IsBounded (pick Ts ids) x → StoodSoFar Ts ids x x x true 0
stood_start Ts ids x b = let T = total (pick Ts ids) in record {
  low_bounds = b;
  high_bounds = b;
  over = λ z o. subst (IsOver (T +ᵍ number_tree x)) (omega (arith, ints)) (over-plus T (number_tree x) z x o (over-number x));
  under = λ z o. subst (IsUnder (T +ᵍ number_tree x)) (omega (arith, ints)) (under-plus T (number_tree x) z x o (under-number x));
  low_same = λ _. same-refl (sum_tree Ts ids x);
  high_same = λ _. same-refl (sum_tree Ts ids x);
  other = λ e. cc;
}

-- a number among the games goes over to the number beside them
pub same_over : (T : Tree) (y z : ℤ) → ((number_tree z +ᵍ T) +ᵍ number_tree y) ≡ᵍ (T +ᵍ number_tree (y +ℤ z))
same_over T y z =
    let Z = number_tree z in
    let Y = number_tree y in
    same-trans _ ((T +ᵍ Z) +ᵍ Y) _ (same-plus (Z +ᵍ T) (T +ᵍ Z) Y Y (same-comm Z T) (same-refl Y))
    (same-trans _ (T +ᵍ (Z +ᵍ Y)) _ (same-path _ _ (plus-assoc T Z Y))
    (same-plus T T (Z +ᵍ Y) (number_tree (y +ℤ z)) (same-refl T) (same-sym _ _ (num-sum 60 (y +ℤ z) z y (omega (arith, ints))))))

size-plus : (y z : ℤ) → unsigned_abs (y +ℤ z) ≤ unsigned_abs y + unsigned_abs z
size-plus y z = omega (arith, ints)

pub bounded_over : (G : Tree) (Gs : Trees) (y z : ℤ) → IsNumberOf G z → IsBounded (more G Gs) y → IsBounded Gs (y +ℤ z)
bounded_over G Gs y z n ([], a, l) = absurd a
bounded_over G Gs y z n (b ∷ bs, a, l) = (bs, a.1, omega (arith, l, a.0 z n, size-plus y z, sum_by-cons (λ n. n) b bs))

-- no sum leaves 128 bits
pub small_fits : (v : ℤ) → unsigned_abs v < 2 ^ 120 → SFits w128 v
small_fits (pos n) l = record { sfits = omega (arith, l) }
small_fits (negsuc n) l = record { sfits = omega (arith, l) }

-- the next game, with its stops
module _ (Ts : List Tree) (ids : List ℕ) (x low high : ℤ) (numbers : Bool) (k : ℕ) (w : StoodSoFar Ts ids x low high numbers k) (lt : k < length ids) where
  abbrev pub G : Tree
  G = tree_at Ts (get_or ids k 0)

  abbrev pub rest : Trees
  rest = pick Ts (drop (k + 1) ids)

  bounded_next : (y z : ℤ) → IsBounded (pick Ts (drop k ids)) y → IsNumberOf G z → IsBounded rest (y +ℤ z)
  bounded_next y z b n = bounded_over G rest y z n (subst (λ l. IsBounded (pick Ts l) y) (drop_more ids k 0 lt) b)

  same_next : (y z : ℤ) → G ≡ number_tree z → sum_tree Ts (drop k ids) y ≡ᵍ (total rest +ᵍ number_tree (y +ℤ z))
  unfolding total
  same_next y z e = rw (drop_more ids k 0 lt) (subst (λ t. ((t +ᵍ total rest) +ᵍ number_tree y) ≡ᵍ (total rest +ᵍ number_tree (y +ℤ z))) (sym e) (same_over (total rest) y z))

  pub low_fits : (r : ℤ) → IsRightStop 60 G r → SFits w128 (low +ℤ r)
  low_fits r s = let b = bounded_next low r w.low_bounds (right_stop-number G r s) in small_fits (low +ℤ r) (omega (arith, b.2))

  pub high_fits : (l : ℤ) → IsLeftStop 60 G l → SFits w128 (high +ℤ l)
  high_fits l s = let b = bounded_next high l w.high_bounds (left_stop-number G l s) in small_fits (high +ℤ l) (omega (arith, b.2))

  pub stood_step : (r l : ℤ) (now is : Bool) → IsRightStop 60 G r → IsLeftStop 60 G l → IsTrue is ↔ IsNumberTree G → IsCanonicalTree G → now ≡ (numbers && is)
      → StoodSoFar Ts ids x (low +ℤ r) (high +ℤ l) now (k + 1)
  unfolding total
  stood_step r l now is right left number canonical e = record {
    low_bounds = bounded_next low r w.low_bounds (right_stop-number G r right);
    high_bounds = bounded_next high l w.high_bounds (left_stop-number G l left);
    over = λ z o. subst (IsOver (sum_tree Ts ids x)) (omega (arith, ints))
        (w.over (r +ℤ z) (rw (drop_more ids k 0 lt) (over-plus G (total rest) r z (over-right_stop 60 G r canonical right) o)));
    under = λ z o. subst (IsUnder (sum_tree Ts ids x)) (omega (arith, ints))
        (w.under (l +ℤ z) (rw (drop_more ids k 0 lt) (under-plus G (total rest) l z (under-left_stop 60 G l canonical left) o)));
    low_same = λ t. (let b = both numbers is (sym e ∙ t) in same-trans _ _ _ (w.low_same b.0) (same_next low r (right_stop-same G r (number.0 b.1) right)));
    high_same = λ t. (let b = both numbers is (sym e ∙ t) in same-trans _ _ _ (w.high_same b.0) (same_next high l (left_stop-same G l (number.0 b.1) left)));
    other = λ f. some numbers is (sym e ∙ f) refl refl;
  }
    where
      both : (a b : Bool) → (a && b) ≡ true → IsTrue a × IsTrue b
      both true b t = (refl, t)
      both false b t = cc

      some : (a b : Bool) → (a && b) ≡ false → numbers ≡ a → is ≡ b → HasNonNumber Ts ids
      some false b f p q = w.other p
      some true false f p q = (k, lt, (canonical, λ n. absurd (both_ways _ q (number.1 n))))
      some true true f p q = cc

-- at the end
module _ (Ts : List Tree) (ids : List ℕ) (x low high : ℤ) (numbers : Bool) (k : ℕ) (w : StoodSoFar Ts ids x low high numbers k) (le : length ids ≤ k) where
  abbrev pub S : Tree
  S = sum_tree Ts ids x

  pub stood_above : pos 0 <ℤ low → IsSign Greater S
  unfolding total
  stood_above p = over-sign S low (subst (IsOver S) (omega (arith, ints)) (w.over (pos 0) (rw (drop_all k ids le) (subst (λ t. IsOver t (pos 0)) (num-zero 60) (over-number (pos 0)))))) p

  pub stood_below : high <ℤ pos 0 → IsSign Less S
  unfolding total
  stood_below p = under-sign S high (subst (IsUnder S) (omega (arith, ints)) (w.under (pos 0) (rw (drop_all k ids le) (subst (λ t. IsUnder t (pos 0)) (num-zero 60) (under-number (pos 0)))))) p

  is_number : (y : ℤ) → S ≡ᵍ sum_tree Ts (drop k ids) y → S ≡ᵍ number_tree y
  unfolding total
  is_number y e = same-trans _ _ _ (rw (drop_all k ids le) at e) (same-path _ _ (nought-plus (number_tree y)))

  pub stood_equal : low ≤ℤ pos 0 → pos 0 ≤ℤ high → IsTrue numbers → IsSign Equal S
  stood_equal p q t = (
    le-trans S (number_tree low) nought (is_number low (w.low_same t)).0 (subst (λ t. number_tree low ≤ᵍ t) (num-zero 60) (num-le 60 low (pos 0) p)),
    le-trans nought (number_tree high) S (subst (λ t. t ≤ᵍ number_tree high) (num-zero 60) (num-le 60 (pos 0) high q)) (is_number high (w.high_same t)).1,
  )
