-- The followers of a form, their flags, and the numbers in the trees of a store.
use Rattle.std.proofs.Common.{ℕ, ◌+◌, ◌<◌, ◌≤◌, ◌≡◌, ◌⊎◌, ◌↔◌, ◌∙◌, arith, inl, inr, sym, subst, Bool, true, false, List, length, get_or, set, replicate, zero, suc, ◌-◌, ◌^◌, ℤ, pos, neg_ℤ, ◌≤ℤ◌, refl}
use Rattle.std.proofs.lemmas.Bool.{cases_eq, cases_lt, true≢false}
use Rattle.std.proofs.lemmas.List.{length-set, get_or-set_same, get_or-set_other, get_or-replicate, length-replicate, get_or_past}
use Rattle.short_games.specs.Tree.{Tree, left, right, Has, tree_at, AreDistinct}
use Rattle.game_store.specs.Meaning.{pick, Wanted}
use Rattle.short_games.specs.Parts.{IsFollower, IsOption}
use Rattle.short_games.specs.Parts.IsFollower.{itself, further}
use Rattle.game_store.specs.Forms.{IsOptions, IsMeaning, IsWithinBounds, HaveForms}
use Rattle.game_store.proofs.EntryLaws.{has-pick, pick-has}
use Rattle.short_games.proofs.TextOrderLaws.{sorted-has, has-sorted}
use Rattle.thermograph.specs.inner.Flags.{IsFlagged, AreAdded, IsAmong, IsInnerId, AreFollowers}
use Rattle.short_games.proofs.PartLaws.{follower-trans, follower-of}
use Rattle.std.proofs.lemmas.Int.{ints}
use Rattle.short_games.specs.Number.{num, IsNumberTree}
use Rattle.game_store.specs.Meaning.Wanted.{number, options}
use Rattle.short_games.proofs.NumberLaws.{num-left, num-right}
use Rattle.short_games.proofs.WallNumberLaws.{num-one_to_one}
use Rattle.short_games.proofs.ExponentLaws.{IsOver}
use Rattle.short_games.proofs.WallSteps.{IsBounded}

-- flags, step by step.
-- flags of one set, and then of another
pub added-both : (A B Both : ℕ → Type 0) (xs ys zs : List Bool) → AreAdded A xs ys → AreAdded B ys zs → ((i : ℕ) → i < length xs → Both i ↔ (A i ⊎ B i)) → AreAdded Both xs zs
added-both A B Both xs ys zs a b n = record {
  size = b.size ∙ a.size;
  flagged = λ i h.
      let first = a.flagged i h in
      let both = n i h in
      let second = b.flagged i (omega (arith, h, a.size)) in (
        λ m. elim (second.0 m) [
          | inl c ↦ elim (first.0 c) [ inl d ↦ inl d | inr d ↦ inr (both.1 (inl d)) ]
          | inr d ↦ inr (both.1 (inr d))
        ],
        λ w. elim w [
          | inl m ↦ second.1 (inl (first.1 (inl m)))
          | inr m ↦ second.1 (elim (both.0 m) [ inl d ↦ inl (first.1 (inr d)) | inr d ↦ inr d ])
        ],
      );
}

module _ (Ts : List Tree) (id : ℕ) (ls rs : List ℕ) (o : IsOptions Ts id ls rs) where
  -- an id of the form is an option below it
  pub among-inner : (i : ℕ) → IsAmong ls i ⊎ IsAmong rs i → IsInnerId Ts id i
  among-inner i (inl (j, l, e)) = subst (IsInnerId Ts id) e (o.left_below j l, o.no_number, inl (subst (λ G. Has (left G) (tree_at Ts (get_or ls j 0))) (sym o.tree) (has-sorted (pick Ts ls) _ (pick-has Ts ls j l))))
  among-inner i (inr (j, l, e)) = subst (IsInnerId Ts id) e (o.right_below j l, o.no_number, inr (subst (λ G. Has (right G) (tree_at Ts (get_or rs j 0))) (sym o.tree) (has-sorted (pick Ts rs) _ (pick-has Ts rs j l))))

  -- and each option is the tree of such an id
  pub option-listed : (X : Tree) → IsOption (tree_at Ts id) X → (i : ℕ) × (i < id) × (X ≡ tree_at Ts i) × (IsAmong ls i ⊎ IsAmong rs i)
  option-listed X (inl h) = let a = has-pick Ts ls X (sorted-has (pick Ts ls) X (subst (λ G. Has (left G) X) o.tree h)) in
      (get_or ls a.0 0, o.left_below a.0 a.1, a.2, inl (a.0, a.1, refl))
  option-listed X (inr h) = let a = has-pick Ts rs X (sorted-has (pick Ts rs) X (subst (λ G. Has (right G) X) o.tree h)) in
      (get_or rs a.0 0, o.right_below a.0 a.1, a.2, inr (a.0, a.1, refl))

  pub inner-listed : AreDistinct Ts → id < length Ts → (i : ℕ) → IsInnerId Ts id i → IsAmong ls i ⊎ IsAmong rs i
  inner-listed d h i (l, _, x) = let a = option-listed (tree_at Ts i) x in
      subst (λ n. IsAmong ls n ⊎ IsAmong rs n) (sym (d i a.0 (omega (arith, l, h)) (omega (arith, h, a.1)) a.2)) a.3

-- the walk from id down
pub following-start : (Ts : List Tree) (id count : ℕ) (ys : List Bool) → count ≡ id + 1 → ys ≡ set (replicate count false) id true → AreFollowers Ts id count ys
following-start Ts id count ys k e = subst (AreFollowers Ts id count) (sym e) record {
  size = length-set (replicate count false) id true ∙ length-replicate count false ∙ k;
  root = get_or-set_same (replicate count false) id true false (omega (arith, k, length-replicate count false));
  follows = λ i h m. elim (cases_eq i id) [
    | inl s ↦ subst (λ n. IsFollower (tree_at Ts id) (tree_at Ts n)) (sym s) (itself (tree_at Ts id))
    | inr d ↦ (let unflagged : get_or (replicate count false) i false ≡ false = elim (cases_lt i count) [
      | inl l ↦ get_or-replicate count i false false l
      | inr l ↦ get_or_past (replicate count false) i false (omega (arith, l, length-replicate count false))
    ] in absurd (true≢false (sym m ∙ get_or-set_other (replicate count false) id i true false d ∙ unflagged)))
  ];
  closed = λ j i p q. absurd (omega (arith, p, q, length-set (replicate count false) id true, length-replicate count false));
}

pub following-step : (Ts : List Tree) (id place next : ℕ) (ys zs : List Bool) → AreFollowers Ts id place ys → place ≡ next + 1 → place ≤ length ys → IsFlagged ys next → AreAdded (IsInnerId Ts next) ys zs → AreFollowers Ts id next zs
following-step Ts id place next ys zs f e b n a = record {
  size = a.size ∙ f.size;
  root = (a.flagged id (omega (arith, f.size))).1 (inl f.root);
  follows = λ i h m. (elim ((a.flagged i (omega (arith, h, a.size))).0 m) [
    | inl k ↦ f.follows i (omega (arith, h, a.size)) k
    | inr k ↦ follower-trans (tree_at Ts id) (tree_at Ts next) (tree_at Ts i) (f.follows next (omega (arith, e, b)) n) (further (tree_at Ts next) (tree_at Ts i) (tree_at Ts i) k.2 (itself (tree_at Ts i)))
  ]);
  closed = λ j i p q m k. (elim (cases_eq j next) [
    | inl s ↦ (a.flagged i (omega (arith, q, k.0, a.size))).1 (inr (subst (λ x. IsInnerId Ts x i) s k))
    | inr d ↦ elim ((a.flagged j (omega (arith, q, a.size))).0 m) [
      | inl o ↦ (a.flagged i (omega (arith, q, k.0, a.size))).1 (inl (f.closed j i (omega (arith, p, d, e)) (omega (arith, q, a.size)) o k))
      | inr o ↦ absurd (omega (arith, p, d, o.0))
    ]
  ]);
}

-- The numbers in the trees of a store: parts of 2 ^ -60 within the bounds.
-- the followers of a number are numbers over the same power of two
pub number-over : (e : ℕ) (x : ℤ) (G P : Tree) → G ≡ num e x → IsFollower G P → (n : ℤ) × (P ≡ num e n)
number-over e x _ _ i (itself G) = (x, i)
number-over e x _ _ i (further G H X (inl o) f) = let r = num-left e x H (subst (λ t. Has (left t) H) i o) in number-over e r.0 H X r.2 f
number-over e x _ _ i (further G H X (inr o) f) = let r = num-right e x H (subst (λ t. Has (right t) H) i o) in number-over e r.0 H X r.2 f

module _ (Ts : List Tree) (forms : HaveForms Ts) where
  over_at : (i : ℕ) → ((j : ℕ) → j < i → IsOver 60 (tree_at Ts j)) → (w : Wanted) → IsMeaning Ts i w → IsOver 60 (tree_at Ts i)
  over_at i ih (number x) m P f n = number-over 60 x (tree_at Ts i) P m f
  over_at i ih (options ls rs) o P f n = elim (follower-of (tree_at Ts i) P f) [
    | inl e ↦ absurd (o.no_number (subst IsNumberTree e n))
    | inr (H, x, g) ↦ let a = option-listed Ts i ls rs o H x in ih a.0 a.1 P (subst (λ t. IsFollower t P) a.2 g) n
  ]

  over_within : (n i : ℕ) → i < n → i < length Ts → IsOver 60 (tree_at Ts i)
  over_within zero i a l = absurd (omega arith)
  over_within (suc n) i a l = let w = forms i l in over_at i (λ j k. over_within n j (omega (arith, a, k)) (omega (arith, l, k))) w.0 w.1

  pub store-over : (i : ℕ) → i < length Ts → IsOver 60 (tree_at Ts i)
  store-over i = over_within (suc i) i (omega arith)

-- one of the trees
abbrev pub IsStored : List Tree → Tree → Type 0
IsStored Ts G = (i : ℕ) × (i < length Ts) × (tree_at Ts i ≡ G)

module _ (Ts : List Tree) (forms : HaveForms Ts) where
  number_at : (i : ℕ) (G : Tree) (x : ℤ) (w : Wanted) → tree_at Ts i ≡ G → G ≡ num 60 x → IsMeaning Ts i w → IsWithinBounds w → (neg_ℤ (pos (2 ^ 120 - 1)) ≤ℤ x) × (x ≤ℤ pos (2 ^ 120 - 1))
  number_at i G x (number y) e g m b = let s : x ≡ y = num-one_to_one 60 x y (sym g ∙ sym e ∙ m) in (omega (arith, ints, s, b), omega (arith, ints, s, b))
  number_at i G x (options ls rs) e g o b = absurd (o.no_number (60, x, e ∙ g))

  option_at : (i : ℕ) (G X : Tree) (w : Wanted) → i < length Ts → tree_at Ts i ≡ G → (IsNumberTree G → ⊥) → IsOption G X → IsMeaning Ts i w → IsStored Ts X
  option_at i G X (number y) l e n x m = absurd (n (60, y, sym e ∙ m))
  option_at i G X (options ls rs) l e n x o = let a = option-listed Ts i ls rs o X (subst (λ t. IsOption t X) (sym e) x) in (a.0, omega (arith, l, a.1), sym a.2)

  pub store-bounded : IsBounded 60 (pos (2 ^ 120 - 1)) (IsStored Ts)
  store-bounded = record {
    number = λ G x s g. (let w = forms s.0 s.1 in number_at s.0 G x w.0 s.2 g w.1 w.2);
    left_in = λ G X n s h. (let w = forms s.0 s.1 in option_at s.0 G X w.0 s.1 s.2 n (inl h) w.1);
    right_in = λ G X n s h. (let w = forms s.0 s.1 in option_at s.0 G X w.0 s.1 s.2 n (inr h) w.1);
  }
