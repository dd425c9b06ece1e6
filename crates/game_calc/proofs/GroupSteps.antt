-- The options of a sum come in two groups, by the game that was moved in.
use Rattle.std.proofs.Common.{ℕ, ◌≡◌, ◌<◌, ◌++◌, ◌∷◌, [], List, length, inl, inr, arith, ap, refl, sym, subst, ◌∙◌, take, drop, Some}
use Rattle.std.specs.Prelude.{Option}
use Rattle.std.proofs.lemmas.List.{append-nil, length-append}
use Rattle.short_games.specs.Canonical.{IsReduced}
use Rattle.short_games.specs.Order.{◌≤ᵍ◌}
use Rattle.short_games.specs.Sum.{◌+ᵍ◌}
use Rattle.short_games.specs.TextOrder.{IsCanonicalFor, IsCanonicalTree, TextBefore}
use Rattle.short_games.specs.Tree.{Has, Tree, node, right, tree_at}
use Rattle.short_games.proofs.OrderLaws.{le-trans}
use Rattle.short_games.proofs.ReductionLaws.{same-canonical}
use Rattle.short_games.proofs.SumLaws.{plus-cancel, plus-comm}
use Rattle.game_store.specs.Forms.{IsOptions}
use Rattle.game_store.specs.Meaning.{AreCanonical, pick}
use Rattle.game_canon.specs.Groups.{AreGroups, AreUnordered}
use Rattle.game_canon.proofs.GameLaws.{left-has, right-has}
use Rattle.game_canon.proofs.SideLaws.{take-front}
use Rattle.game_calc.specs.inner.Table.{AddsMoves, AreNoted, AreNotedSumsRight}

-- where sums with one game are noted, those of unordered games are unordered
module _ (Ts : List Tree) (note : ℕ → Option ℕ) (f : Tree → Tree)
    (noted : (i v : ℕ) → note i ≡ Some v → IsCanonicalFor (f (tree_at Ts i)) (tree_at Ts v))
    (order : (X Y : Tree) → f X ≤ᵍ f Y → X ≤ᵍ Y) where
  summand : (is vs : List ℕ) → AreNoted note is vs → (V : Tree) → Has (pick Ts vs) V → (X : Tree) × Has (pick Ts is) X × IsCanonicalFor (f X) V
  summand [] [] m V h = absurd h
  summand [] (v ∷ vs) m V h = absurd m
  summand (i ∷ is) [] m V h = absurd m
  summand (i ∷ is) (v ∷ vs) m V (inl e) = (tree_at Ts i, inl refl, subst (IsCanonicalFor (f (tree_at Ts i))) (sym e) (noted i v m.0))
  summand (i ∷ is) (v ∷ vs) m V (inr h) = let r = summand is vs m.1 V h in (r.0, inr r.1, r.2)

  sums-unordered : (is vs : List ℕ) → AreNoted note is vs → AreUnordered (pick Ts is) → AreUnordered (pick Ts vs)
  sums-unordered is vs m u A B a b le =
      let r = summand is vs m A a in
      let s = summand is vs m B b in
      let same = u r.0 s.0 r.1 s.1 (order r.0 s.0 (le-trans (f r.0) A (f s.0) r.2.under (le-trans A B (f s.0) le s.2.over))) in
      same-canonical (f r.0) A B r.2 (subst (λ t. IsCanonicalFor (f t) B) (sym same) s.2)

reduced : (G : Tree) → IsCanonicalTree G → IsReduced TextBefore G
reduced (node ls rs) c = c.0

left-unordered : (Ts : List Tree) (a : ℕ) (is js : List ℕ) → IsOptions Ts a is js → IsCanonicalTree (tree_at Ts a) → AreUnordered (pick Ts is)
left-unordered Ts a is js o c = λ A B h k. (reduced (tree_at Ts a) c).left_free A B (left-has Ts a is js o A h) (left-has Ts a is js o B k)

right-unordered : (Ts : List Tree) (a : ℕ) (is js : List ℕ) → IsOptions Ts a is js → IsCanonicalTree (tree_at Ts a) → AreUnordered (pick Ts js)
right-unordered Ts a is js o c = λ A B h k. (reduced (tree_at Ts a) c).right_free A B (right-has Ts a is js o A h) (right-has Ts a is js o B k)

drop-front : (xs ys : List ℕ) → drop (length xs) (xs ++ ys) ≡ ys
drop-front [] ys = refl
drop-front (x ∷ xs) ys = drop-front xs ys

two-groups : (Ts : List Tree) (ls xs ms : List ℕ) → ms ≡ ls ++ xs → AreUnordered (pick Ts ls) → AreUnordered (pick Ts xs) → AreGroups Ts ms (length ls)
two-groups Ts ls xs ms e a b = record {
  within = omega (arith, ap length e, length-append ls xs);
  first = subst (λ z. AreUnordered (pick Ts z)) (sym (ap (take (length ls)) e ∙ take-front ls xs)) a;
  second = subst (λ z. AreUnordered (pick Ts z)) (sym (ap (drop (length ls)) e ∙ drop-front ls xs)) b;
}

no-ids : (Ts : List Tree) → AreUnordered (pick Ts [])
no-ids Ts A B h k le = absurd h

-- the sums after moves in the first game are a group, and those after moves in the second another
module _ (Ts : List Tree) (limit : ℕ) (note : ℕ → ℕ → Option ℕ) (right_sums : AreNotedSumsRight Ts limit note) (a b : ℕ)
    (first : IsCanonicalTree (tree_at Ts a)) (second : IsCanonicalTree (tree_at Ts b)) where
  of-first : (is vs : List ℕ) → AreNoted (λ i. note i b) is vs → AreUnordered (pick Ts is) → AreUnordered (pick Ts vs)
  of-first = sums-unordered Ts (λ i. note i b) (λ X. X +ᵍ tree_at Ts b) (λ i v e. (right_sums i b v e).sum.1) (λ X Y. plus-cancel X Y (tree_at Ts b))

  second-order : (X Y : Tree) → tree_at Ts a +ᵍ X ≤ᵍ tree_at Ts a +ᵍ Y → X ≤ᵍ Y
  second-order X Y le =
      let A = tree_at Ts a in
      plus-cancel X Y A (le-trans (X +ᵍ A) (A +ᵍ X) (Y +ᵍ A) (plus-comm X A) (le-trans (A +ᵍ X) (A +ᵍ Y) (Y +ᵍ A) le (plus-comm A Y)))

  of-second : (is vs : List ℕ) → AreNoted (λ i. note a i) is vs → AreUnordered (pick Ts is) → AreUnordered (pick Ts vs)
  of-second = sums-unordered Ts (λ i. note a i) (λ X. tree_at Ts a +ᵍ X) (λ i v e. (right_sums a i v e).sum.1) second-order

  record AreSumGroups (ls rs ms ns : List ℕ) : Type 0 where
    pub left_groups : AreGroups Ts ms (length ls)
    pub right_groups : AreGroups Ts ns (length rs)

  behind : (ls rs ms ns : List ℕ) → AreUnordered (pick Ts ls) → AreUnordered (pick Ts rs) → AddsMoves Ts (λ i. note a i) b ls rs ms ns → AreSumGroups ls rs ms ns
  behind ls rs ms ns p q (inl s) = record {
    left_groups = two-groups Ts ls [] ms (s.1 ∙ sym (append-nil ls)) p (no-ids Ts);
    right_groups = two-groups Ts rs [] ns (s.2 ∙ sym (append-nil rs)) q (no-ids Ts);
  }
  behind ls rs ms ns p q (inr s) = record {
    left_groups = two-groups Ts ls s.3.0 ms s.3.2 p (of-second s.0 s.3.0 s.3.1 (left-unordered Ts b s.0 s.1 s.2 second));
    right_groups = two-groups Ts rs s.4.0 ns s.4.2 q (of-second s.1 s.4.0 s.4.1 (right-unordered Ts b s.0 s.1 s.2 second));
  }

  sum-groups : (ls rs ms ns : List ℕ) → AddsMoves Ts (λ i. note i b) a [] [] ls rs → AddsMoves Ts (λ i. note a i) b ls rs ms ns → AreSumGroups ls rs ms ns
  sum-groups ls rs ms ns (inl f) = behind ls rs ms ns (subst (λ z. AreUnordered (pick Ts z)) (sym f.1) (no-ids Ts)) (subst (λ z. AreUnordered (pick Ts z)) (sym f.2) (no-ids Ts))
  sum-groups ls rs ms ns (inr f) = behind ls rs ms ns
      (subst (λ z. AreUnordered (pick Ts z)) (sym f.3.2) (of-first f.0 f.3.0 f.3.1 (left-unordered Ts a f.0 f.1 f.2 first)))
      (subst (λ z. AreUnordered (pick Ts z)) (sym f.4.2) (of-first f.1 f.4.0 f.4.1 (right-unordered Ts a f.0 f.1 f.2 first)))

-- the options that are noted for a pair are two groups, cut where the second game's begin
pub record ArePairGroups (Ts : List Tree) (ms ns : List ℕ) (p q : ℕ) : Type 0 where
  pub left_groups : AreGroups Ts ms p
  pub right_groups : AreGroups Ts ns q

pub pair-groups : (Ts : List Tree) (limit : ℕ) (note : ℕ → ℕ → Option ℕ) (a b : ℕ) (ks js ls rs vs ws ms ns : List ℕ) (p q : ℕ) → AreNotedSumsRight Ts limit note → AreCanonical Ts → a < length Ts → b < length Ts
    → ks ≡ [] → js ≡ [] → AddsMoves Ts (λ i. note i b) a ks js ls rs → AddsMoves Ts (λ i. note a i) b ls rs vs ws → ms ≡ vs → ns ≡ ws → p ≡ length ls → q ≡ length rs → ArePairGroups Ts ms ns p q
pair-groups Ts limit note a b ks js ls rs vs ws ms ns p q right canonical first second none-left none-right f s e g i j =
    let moved : AddsMoves Ts (λ i. note i b) a [] [] ls rs = subst (λ z. AddsMoves Ts (λ i. note i b) a [] z ls rs) none-right (subst (λ z. AddsMoves Ts (λ i. note i b) a z js ls rs) none-left f) in
    let both = sum-groups Ts limit note right a b (canonical a first) (canonical b second) ls rs vs ws moved s in
    record {
      left_groups = subst (AreGroups Ts ms) (sym i) (subst (λ z. AreGroups Ts z (length ls)) (sym e) both.left_groups);
      right_groups = subst (AreGroups Ts ns) (sym j) (subst (λ z. AreGroups Ts z (length rs)) (sym g) both.right_groups);
    }
