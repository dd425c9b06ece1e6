-- Up and its multiples.
use Rattle.std.proofs.Common.{ℤ, ◌<ℤ◌, ℕ, zero, suc, ◌+◌, ◌<◌, ◌≤◌, ◌≡◌, ◌-◌, arith, refl, inl, inr, sym, ◌∙◌, ap, ap₂, subst, pos, ◌+ℤ◌}
use Rattle.std.proofs.lemmas.Int.{ints}
use Rattle.short_games.specs.Tree.{Tree, left, right, Has}
use Rattle.short_games.specs.Order.{◌≤ᵍ◌, ◌≡ᵍ◌}
use Rattle.short_games.specs.Sum.{◌+ᵍ◌}
use Rattle.short_games.specs.Number.{num}
use Rattle.short_games.specs.Multiples.{times}
use Rattle.short_games.specs.Examples.{choice, star, up}
use Rattle.short_games.specs.KnownValues.{IsLess}
use Rattle.short_games.proofs.OrderLaws.{by_measure, le-in, le-out, le-refl, le-trans, not-le, not-both, same-path, same-refl, same-sym, same-trans}
use Rattle.short_games.proofs.SumLaws.{nought, InSum, left_of_sum, right_of_sum, left_in_second, right_in_first, right_in_second, not_le_left, not_right_le, plus-le, plus-le_both, plus-cancel, plus-assoc, plus-nought, nought-plus, same-plus, same-comm}
use Rattle.short_games.proofs.SumLaws.InSum.{in_first, in_second}
use Rattle.short_games.proofs.NumberLaws.{num-zero, num-double, num-lt, num-le, num-plus_le}
use Rattle.short_games.proofs.StopLaws.{under-left_stop}
use Rattle.short_games.proofs.ExampleLaws.{known-ups, known-sums, known-stops, known-canonical}

times-suc : (n : ℕ) (G : Tree) → times (suc n) G ≡ G +ᵍ times n G
unfolding times
times-suc n G = refl

times-zero : (G : Tree) → times 0 G ≡ nought
unfolding times
times-zero G = refl

-- n times up
abbrev ups : ℕ → Tree
ups n = times n up

up-positive : IsLess nought up
up-positive = known-ups.0

ups-more : (n : ℕ) → IsLess (ups n) (ups (suc n))
ups-more n = rw (times-suc n up) (
  subst (λ t. t ≤ᵍ up +ᵍ ups n) (nought-plus (ups n)) (plus-le nought up (ups n) up-positive.0),
  not-le (up +ᵍ ups n) (ups n) (λ p. not-both up nought (plus-cancel up nought (ups n) (subst (λ t. up +ᵍ ups n ≤ᵍ t) (sym (nought-plus (ups n))) p)) up-positive.1),
)

not-back : (n : ℕ) → ups (suc n) ≤ᵍ ups n → ⊥
not-back n p = not-both _ _ p (ups-more n).1

ups-le : (k d : ℕ) → ups k ≤ᵍ ups (k + d)
ups-le k zero = subst (λ n. ups k ≤ᵍ ups n) (omega arith) (le-refl (ups k))
ups-le k (suc d) = subst (λ n. ups k ≤ᵍ ups n) (omega arith) (le-trans _ _ _ (ups-le k d) (ups-more (k + d)).0)

above-nought : (n : ℕ) → nought ≤ᵍ ups n
above-nought n = subst (λ t. t ≤ᵍ ups n) (times-zero up) (subst (λ m. ups 0 ≤ᵍ ups m) (omega arith) (ups-le 0 n))

not-under_nought : (n : ℕ) → ups (suc n) ≤ᵍ nought → ⊥
not-under_nought n p = not-back n (le-trans _ nought _ p (above-nought n))

pub ups-grow : (n : ℕ) → IsLess (ups n) (ups (suc n)) × IsLess nought (ups (suc n))
ups-grow n = (ups-more n, (above-nought (suc n), not-le (ups (suc n)) nought (not-under_nought n)))

-- {0|n.up and star}
form : ℕ → Tree
form n = choice nought (ups n +ᵍ star)

-- what is shown of the form of n, where those before it are multiples of up
abbrev AreForms : ℕ → Type 0
AreForms n = (k : ℕ) → k < n → ups (suc k) ≡ᵍ form k

star-option : (n : ℕ) → Has (left (ups n +ᵍ star)) (ups n)
star-option n = subst (Has (left (ups n +ᵍ star))) (plus-nought (ups n)) (left_in_second (ups n) star nought (inl refl))

-- Left wins the form of n, moving second
form-over : (n : ℕ) → nought ≤ᵍ form n
unfolding form
form-over n = le-in _ _ record {
  from_left = λ L l. absurd l;
  from_right = λ R r y. elim r [
    | inl e ↦ (le-out _ _ (subst (λ t. t ≤ᵍ nought) e y)).from_left (ups n) (star-option n) (above-nought n)
    | inr a ↦ absurd a
  ];
}

-- the Right option of the form of n isn't at most a smaller multiple and star
right-over : (n k : ℕ) → k < n → (R : Tree) → Has (right (form n)) R → R ≤ᵍ ups k +ᵍ star → ⊥
unfolding form
right-over n k l R (inl e) y = not-back k (le-trans _ (ups n) _ (subst (λ m. ups (suc k) ≤ᵍ ups m) (omega (arith, l)) (ups-le (suc k) (n - suc k)))
    (plus-cancel (ups n) (ups k) star (subst (λ t. t ≤ᵍ ups k +ᵍ star) e y)))
right-over n k l R (inr a) y = absurd a

-- and no Left option of the sum of a smaller form and star is at least the form of n
lefts : (n k : ℕ) → (form n ≤ᵍ form k → ⊥) → (L : Tree) → InSum (form k) star (left (form k)) (left star) L → form n ≤ᵍ L → ⊥
unfolding form
lefts n k apart _ (in_first K (inl e)) y = (le-out _ _ (subst (λ t. form n ≤ᵍ t) (ap (λ t. t +ᵍ star) e ∙ nought-plus star) y)).from_right nought (inl refl) (form-over n)
lefts n k apart _ (in_first K (inr a)) y = absurd a
lefts n k apart _ (in_second K (inl e)) y = apart (subst (λ t. form n ≤ᵍ t) (ap (λ t. form k +ᵍ t) e ∙ plus-nought (form k)) y)
lefts n k apart _ (in_second K (inr a)) y = absurd a

-- so the Right option of a smaller form is at most the form of n
smaller-under : (n k : ℕ) → k < n → AreForms n → ups k +ᵍ star ≤ᵍ form n
unfolding form
smaller-under n zero l f = le-in _ _ record {
  from_left = λ L h y. elim (subst (λ t. Has (left t) L) (ap (λ t. t +ᵍ star) (times-zero up) ∙ nought-plus star) h) [
    | inl e ↦ not_le_left (form n) nought (inl refl) (subst (λ t. form n ≤ᵍ t) e y)
    | inr a ↦ absurd a
  ];
  from_right = right-over n zero l;
}
smaller-under n (suc k) l f = le-trans _ (form k +ᵍ star) _ (plus-le (ups (suc k)) (form k) star (f k (omega (arith, l))).0) (le-in _ _ record {
  from_left = λ L h. lefts n k (λ p. (le-out _ _ p).from_right (ups k +ᵍ star) (inl refl) (smaller-under n k (omega (arith, l)) f)) L (left_of_sum (form k) star L h);
  from_right = λ R r y. right-over n (suc k) l R r (le-trans _ _ _ y (plus-le (form k) (ups (suc k)) star (f k (omega (arith, l))).1));
})

not-smaller : (n k : ℕ) → k < n → AreForms n → form n ≤ᵍ form k → ⊥
unfolding form
not-smaller n k l f p = (le-out _ _ p).from_right (ups k +ᵍ star) (inl refl) (smaller-under n k l f)

form-zero : form 0 ≡ up
unfolding form
form-zero = ap (choice nought) (ap (λ t. t +ᵍ star) (times-zero up) ∙ nought-plus star)

up-first : ups 1 ≡ up
up-first = times-suc 0 up ∙ ap (λ t. up +ᵍ t) (times-zero up) ∙ plus-nought up

-- one multiple more is the next form
module _ (n : ℕ) (f : AreForms (suc n)) where
  is : ups (suc n) ≡ᵍ form n
  is = f n (omega arith)

  -- the sum of up and the form of n, and that it is the multiple
  sum : Tree
  sum = up +ᵍ form n

  sum-is : ups (suc (suc n)) ≡ᵍ sum
  unfolding sum
  sum-is = subst (λ t. t ≡ᵍ (up +ᵍ form n)) (sym (times-suc (suc n) up)) (same-plus up up _ _ (same-refl up) is)

  star-first : (star +ᵍ form n) ≡ᵍ (ups (suc n) +ᵍ star)
  star-first = same-trans _ _ _ (same-plus star star _ _ (same-refl star) (same-sym _ _ is)) (same-comm star (ups (suc n)))

  rights : (R : Tree) → InSum up (form n) (right up) (right (form n)) R → ups (suc n) +ᵍ star ≤ᵍ R
  unfolding form
  rights _ (in_first K (inl e)) = subst (λ t. ups (suc n) +ᵍ star ≤ᵍ t +ᵍ form n) (sym e) star-first.1
  rights _ (in_first K (inr a)) = absurd a
  rights _ (in_second K (inl e)) = subst (λ t. ups (suc n) +ᵍ star ≤ᵍ up +ᵍ t) (sym e) (same-path _ _ (ap (λ t. t +ᵍ star) (times-suc n up) ∙ plus-assoc up (ups n) star)).0
  rights _ (in_second K (inr a)) = absurd a

  sum-lefts : (L : Tree) → InSum up (form n) (left up) (left (form n)) L → form (suc n) ≤ᵍ L → ⊥
  unfolding form
  sum-lefts _ (in_first K (inl e)) y = not-smaller (suc n) n (omega arith) f (subst (λ t. form (suc n) ≤ᵍ t) (ap (λ t. t +ᵍ form n) e ∙ nought-plus (form n)) y)
  sum-lefts _ (in_first K (inr a)) y = absurd a
  sum-lefts _ (in_second K (inl e)) y = not-smaller (suc n) 0 (omega arith) f (subst (λ t. form (suc n) ≤ᵍ t) (ap (λ t. up +ᵍ t) e ∙ plus-nought up ∙ sym form-zero) y)
  sum-lefts _ (in_second K (inr a)) y = absurd a

  under : sum ≤ᵍ form (suc n)
  unfolding sum form
  under = le-in _ _ record {
    from_left = λ L h. sum-lefts L (left_of_sum up (form n) L h);
    from_right = λ R r y. elim r [
      | inl e ↦ not_right_le (up +ᵍ form n) (star +ᵍ form n) (right_in_first up (form n) star (inl refl)) (le-trans _ _ _ star-first.0 (subst (λ t. t ≤ᵍ up +ᵍ form n) e y))
      | inr a ↦ absurd a
    ];
  }

  over : form (suc n) ≤ᵍ sum
  unfolding sum form
  over = le-in _ _ record {
    from_left = λ L l y. elim l [
      | inl e ↦ not-under_nought (suc n) (le-trans _ _ _ sum-is.0 (subst (λ t. up +ᵍ form n ≤ᵍ t) e y))
      | inr a ↦ absurd a
    ];
    from_right = λ R h y. not_right_le (form (suc n)) (ups (suc n) +ᵍ star) (inl refl) (le-trans _ R _ (rights R (right_of_sum up (form n) R h)) y);
  }

  next : ups (suc (suc n)) ≡ᵍ form (suc n)
  next = same-trans _ sum _ sum-is (under, over)

pub ups-forms : (n : ℕ) → ups (suc n) ≡ᵍ choice nought (ups n +ᵍ star)
unfolding form
ups-forms = by_measure (λ n. n) (λ n. ups (suc n) ≡ᵍ form n) step
  where
    step : (n : ℕ) → ((k : ℕ) → k < n → ups (suc k) ≡ᵍ form k) → ups (suc n) ≡ᵍ form n
    step zero f = same-path _ _ (up-first ∙ sym form-zero)
    step (suc n) f = next n f

-- {0|the next multiple}, which is the multiple after it and star
module _ (n : ℕ) where
  beside : Tree
  beside = choice nought (ups (suc n))

  beside-over : nought ≤ᵍ beside
  unfolding beside
  beside-over = le-in _ _ record {
    from_left = λ L l. absurd l;
    from_right = λ R r y. elim r [ inl e ↦ not-under_nought n (subst (λ t. t ≤ᵍ nought) e y) | inr a ↦ absurd a ];
  }

  not-under_star : beside ≤ᵍ star → ⊥
  not-under_star p = (le-out _ _ p).from_right nought (inl refl) beside-over

  -- the game and star have the game as a Right option, which is not at most them
  not-under_own : (X : Tree) → X ≤ᵍ X +ᵍ star → ⊥
  not-under_own X = not_right_le (X +ᵍ star) X (subst (Has (right (X +ᵍ star))) (plus-nought X) (right_in_second X star nought (inl refl)))

  rights-over : (k : ℕ) → k ≤ suc n → (R : Tree) → Has (right beside) R → R ≤ᵍ ups k +ᵍ star → ⊥
  unfolding beside
  rights-over k l R (inl e) y = not-under_own (ups k) (le-trans _ (ups (suc n)) _ (subst (λ m. ups k ≤ᵍ ups m) (omega (arith, l)) (ups-le k (suc n - k))) (subst (λ t. t ≤ᵍ ups k +ᵍ star) e y))
  rights-over k l R (inr a) y = absurd a

  star-lefts : (k : ℕ) → (beside ≤ᵍ form k → ⊥) → (L : Tree) → InSum (form k) star (left (form k)) (left star) L → beside ≤ᵍ L → ⊥
  unfolding form
  star-lefts k away _ (in_first K (inl e)) y = not-under_star (subst (λ t. beside ≤ᵍ t) (ap (λ t. t +ᵍ star) e ∙ nought-plus star) y)
  star-lefts k away _ (in_first K (inr a)) y = absurd a
  star-lefts k away _ (in_second K (inl e)) y = away (subst (λ t. beside ≤ᵍ t) (ap (λ t. form k +ᵍ t) e ∙ plus-nought (form k)) y)
  star-lefts k away _ (in_second K (inr a)) y = absurd a

  star-under : (k : ℕ) → k ≤ suc n → ups k +ᵍ star ≤ᵍ beside
  unfolding beside form
  star-under zero l = le-in _ _ record {
    from_left = λ L h y. elim (subst (λ t. Has (left t) L) (ap (λ t. t +ᵍ star) (times-zero up) ∙ nought-plus star) h) [
      | inl e ↦ not_le_left beside nought (inl refl) (subst (λ t. beside ≤ᵍ t) e y)
      | inr a ↦ absurd a
    ];
    from_right = rights-over zero l;
  }
  star-under (suc k) l = le-trans _ (form k +ᵍ star) _ (plus-le (ups (suc k)) (form k) star (ups-forms k).0) (le-in _ _ record {
    from_left = λ L h. star-lefts k (λ p. (le-out _ _ p).from_right (ups k +ᵍ star) (inl refl) (star-under k (omega (arith, l)))) L (left_of_sum (form k) star L h);
    from_right = λ R r y. rights-over (suc k) l R r (le-trans _ _ _ y (plus-le (form k) (ups (suc k)) star (ups-forms k).1));
  })

  -- two stars cancel
  taken-back : ((ups (suc n) +ᵍ star) +ᵍ star) ≡ᵍ ups (suc n)
  taken-back = let s = same-plus (ups (suc n)) (ups (suc n)) (star +ᵍ star) nought (same-refl (ups (suc n))) known-sums.1 in
      subst (λ t. t ≡ᵍ ups (suc n)) (sym (plus-assoc (ups (suc n)) star star)) (subst (λ t. (ups (suc n) +ᵍ (star +ᵍ star)) ≡ᵍ t) (plus-nought (ups (suc n))) s)

  with_star : Tree
  with_star = form (suc n) +ᵍ star

  star-sum_under : with_star ≤ᵍ beside
  unfolding beside form with_star
  star-sum_under = le-in _ _ record {
    from_left = λ L h. star-lefts (suc n) (λ p. (le-out _ _ p).from_right (ups (suc n) +ᵍ star) (inl refl) (star-under (suc n) (omega arith))) L (left_of_sum (form (suc n)) star L h);
    from_right = λ R r y. elim r [
      | inl e ↦ not_right_le (form (suc n) +ᵍ star) ((ups (suc n) +ᵍ star) +ᵍ star) (right_in_first (form (suc n)) star (ups (suc n) +ᵍ star) (inl refl))
          (le-trans _ _ _ taken-back.0 (subst (λ t. t ≤ᵍ form (suc n) +ᵍ star) e y))
      | inr a ↦ absurd a
    ];
  }

  sum-rights : (R : Tree) → InSum (form (suc n)) star (right (form (suc n))) (right star) R → ups (suc n) ≤ᵍ R
  unfolding form
  sum-rights _ (in_first K (inl e)) = subst (λ t. ups (suc n) ≤ᵍ t +ᵍ star) (sym e) taken-back.1
  sum-rights _ (in_first K (inr a)) = absurd a
  sum-rights _ (in_second K (inl e)) = subst (λ t. ups (suc n) ≤ᵍ t) (sym (ap (λ t. form (suc n) +ᵍ t) e ∙ plus-nought (form (suc n)))) (le-trans _ _ _ (ups-more (suc n)).0 (ups-forms (suc n)).0)
  sum-rights _ (in_second K (inr a)) = absurd a

  star-sum_over : beside ≤ᵍ with_star
  unfolding beside form with_star
  star-sum_over = le-in _ _ record {
    from_left = λ L l y. elim l [
      | inl e ↦ (le-out _ _ (subst (λ t. form (suc n) +ᵍ star ≤ᵍ t) e y)).from_left (form (suc n) +ᵍ nought) (left_in_second (form (suc n)) star nought (inl refl))
          (subst (λ t. nought ≤ᵍ t) (sym (plus-nought (form (suc n)))) (form-over (suc n)))
      | inr a ↦ absurd a
    ];
    from_right = λ R h y. not_right_le (beside) (ups (suc n)) (inl refl) (le-trans _ R _ (sum-rights R (right_of_sum (form (suc n)) star R h)) y);
  }

  pub star-forms : (ups (suc (suc n)) +ᵍ star) ≡ᵍ choice nought (ups (suc n))
  unfolding beside with_star form
  star-forms = same-trans _ with_star _ (same-plus _ _ star star (ups-forms (suc n)) (same-refl star)) (star-sum_under, star-sum_over)

-- up is at most each number above 0
up-small : (e : ℕ) → up ≤ᵍ num e (pos 1)
up-small e = subst (λ t. up ≤ᵍ t) (ap₂ num (omega arith) (grind (arith, ints))) (under-left_stop 0 up (pos 0) known-canonical.3 known-stops.6 e (pos 1) (omega (arith, ints)))

ups-under : (n e : ℕ) → ups n ≤ᵍ num e (pos 1)
ups-under zero e = rw (times-zero up, ← num-zero e) (num-le e (pos 0) (pos 1) (omega (arith, ints)))
ups-under (suc n) e = subst (λ t. ups (suc n) ≤ᵍ t) (num-double e (pos 1)) (rw (times-suc n up)
    (le-trans _ _ _ (plus-le_both _ _ _ _ (up-small (suc e)) (ups-under n (suc e))) (num-plus_le (suc e) (pos 1) (pos 1))))

pub ups-infinitesimal : (n e : ℕ) (m : ℤ) → pos 0 <ℤ m → IsLess (ups n) (num e m)
ups-infinitesimal n e m l =
    let above : num e (pos 1) ≤ᵍ num e m = num-le e (pos 1) m (omega (arith, ints, l)) in (
      le-trans _ _ _ (ups-under n e) above,
      not-le (num e m) (ups n) (λ p. num-lt (suc e) (pos 1) (pos 1 +ℤ pos 1) (omega (arith, ints))
          (subst (λ t. t ≤ᵍ num (suc e) (pos 1)) (sym (num-double e (pos 1))) (le-trans _ _ _ above (le-trans _ _ _ p (ups-under n (suc e)))))),
    )
