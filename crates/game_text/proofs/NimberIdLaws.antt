-- The ids of nimbers, and the names of forms.
use Rattle.std.proofs.Common.{ℕ, suc, ◌+◌, ◌<◌, ◌≤◌, ◌≡◌, ◌⊎◌, List, [], ◌∷◌, ◌++◌, length, get_or, take, arith, refl, inl, inr, sym, ◌∙◌, ap, ap₂, subst, Some, None, ℤ, pos, ◌<ℤ◌, length-append, cond, false}
use Rattle.std.specs.Prelude.{Option, neg_ℤ, MatchOption, nat_lt, ◌^◌, ◌↔◌, Result, Ok, Err, IfOk}
use Rattle.std.proofs.lemmas.Bool.{cases_lt, cases_order, cases_Bool, ltb-true}
use Rattle.std.proofs.lemmas.List.{take_all, length-take-le, get_or-take, get_or_append_left, get_or_push}
use Rattle.short_games.specs.Tree.{Tree, Trees, node, none, more, left, right, Has, tree_at, AreDistinct}
use Rattle.short_games.specs.Canonical.{Ascends}
use Rattle.short_games.specs.Number.{IsNumberTree, number_tree, num, whole, count_tree}
use Rattle.short_games.specs.NumberText.{number_text, number_of, guess, same, digits_within, digits}
use Rattle.short_games.specs.TextOrder.{tree_text, TextBefore, insert, sorted, IsCanonicalTree}
use Rattle.game_store.specs.Meaning.{pick, form, AreIds, IsAscending, Wanted}
use Rattle.game_store.specs.Forms.{IsOptions, HaveForms, IsMeaning}
use Rattle.short_games.proofs.CanonicalLaws.{ascends-rest}
use Rattle.short_games.proofs.TextOrderLaws.{text-order, sorted-ascends, sorted-has, has-sorted}
use Rattle.game_store.proofs.EntryLaws.{has-pick, pick-has, pick-one_to_one}
use Rattle.short_games.specs.Examples.{choice}
use Rattle.game_canon.specs.inner.Changes.{AreClosed}
use Rattle.game_text.specs.NamedText.{nimbers_below, nimber, nimber_name, name, named_text}
use Rattle.game_text.proofs.DecimalLaws.{digits-are}
use Rattle.std.specs.Fmt.{decimal}
use Rattle.game_text.specs.inner.Written.{AreNimbers, IsAmong, AreFound, IsUpPair, IsDownPair, IsSwitchPair, IsNamedPair, IsPairName}
use Rattle.game_text.proofs.NimberLaws.{option-nimber, nimber-option, nimber-same, nimber-no_number, nimber-canonical}
use Rattle.game_text.proofs.NamedLaws.{text-named, named-one_to_one}
use Rattle.game_text.proofs.FoundNameLaws.{number-text, zero-tree, name-number, name-nimber, up-named, down-named, down-not_up, no-name, name-switch, switch-numbers, lefts-same, rights-same}
use Rattle.game_text.proofs.WritingSteps.{before}
use Rattle.short_games.specs.Parts.{IsInner, IsOption}
use Rattle.game_canon.proofs.GameLaws.{has-left, has-right}
use Rattle.game_canon.proofs.NumberSizeLaws.{number-same}
use Rattle.game_store.specs.Meaning.Wanted.{number, options}
use Rattle.short_games.specs.Text.{text}
use Rattle.short_games.proofs.NumberLaws.{num-zero}

-- zero and star
zero-number : number_text (nimber 0) ≡ Some (tree_text (number_tree (pos 0)))
zero-number = ap number_text zero-tree ∙ number-text (pos 0)

zero-digit : tree_text (node none none) ≡ 48 ∷ []
unfolding tree_text text number_of guess same num whole count_tree digits_within
zero-digit = refl

pub zero-text : named_text (nimber 0) ≡ 48 ∷ []
zero-text = text-named (nimber 0) _ (name-number (nimber 0) _ zero-number) ∙ ap tree_text (num-zero 60) ∙ zero-digit

pub star-text : named_text (nimber 1) ≡ 42 ∷ []
star-text = text-named (nimber 1) (42 ∷ []) (name-nimber 1 (omega arith))

-- the first of an ascending list stands before the others
first_before : (G : Tree) (Gs : Trees) → Ascends TextBefore (more G Gs) → (H : Tree) → Has Gs H → TextBefore G H
first_before G none a H h = absurd h
first_before G (more K Ks) a H (inl e) = subst (TextBefore G) (sym e) a.0
first_before G (more K Ks) a H (inr h) = text-order.transitive G K H a.0 (first_before K Ks a.1 H h)

same_list : (Gs Hs : Trees) → Ascends TextBefore Gs → Ascends TextBefore Hs → ((X : Tree) → Has Gs X → Has Hs X) → ((X : Tree) → Has Hs X → Has Gs X) → Gs ≡ Hs
same_list none none a b f g = refl
same_list none (more H Hs) a b f g = absurd (g H (inl refl))
same_list (more G Gs) none a b f g = absurd (f G (inl refl))
same_list (more G Gs) (more H Hs) a b f g = ap₂ more heads (same_list Gs Hs (ascends-rest TextBefore text-order.irreflexive text-order.transitive G Gs a) (ascends-rest TextBefore text-order.irreflexive text-order.transitive H Hs b)
    (λ X x. elim (f X (inr x)) [ inl e ↦ absurd (text-order.irreflexive G (first_before G Gs a G (subst (Has Gs) (e ∙ sym heads) x))) | inr y ↦ y ])
    (λ X x. elim (g X (inr x)) [ inl e ↦ absurd (text-order.irreflexive H (first_before H Hs b H (subst (Has Hs) (e ∙ heads) x))) | inr y ↦ y ]))
  where
    heads : G ≡ H
    heads = elim (f G (inl refl)) [
      | inl e ↦ e
      | inr x ↦ elim (g H (inl refl)) [
        | inl e ↦ sym e
        | inr y ↦ absurd (text-order.irreflexive G (text-order.transitive G H G (first_before G Gs a H y) (first_before H Hs b G x)))
      ]
    ]

module _ (Ts : List Tree) (ks : List ℕ) (a : AreNimbers Ts ks) where
  first-ids : (n : ℕ) → n ≤ length ks → (j : ℕ) → j < length (take n ks) → (j < n) × (get_or (take n ks) j 0 ≡ get_or ks j 0)
  first-ids n l j k = let s : j < n = omega (arith, k, length-take-le n ks l) in (s, get_or-take n ks j 0 s)

  pub first-nimbers : (n : ℕ) → n ≤ length ks → sorted (pick Ts (take n ks)) ≡ sorted (nimbers_below n)
  first-nimbers n l = same_list (sorted (pick Ts (take n ks))) (sorted (nimbers_below n)) (sorted-ascends (pick Ts (take n ks))) (sorted-ascends (nimbers_below n))
      (λ X h. (let r = has-pick Ts (take n ks) X (sorted-has (pick Ts (take n ks)) X h) in let f = first-ids n l r.0 r.1 in
      subst (Has (sorted (nimbers_below n))) (sym (r.2 ∙ ap (λ i. tree_at Ts i) f.1 ∙ a.each r.0 (omega (arith, f.0, l)))) (nimber-option n r.0 f.0)))
      (λ X h. (let r = option-nimber n X h in let k : r.0 < length (take n ks) = omega (arith, r.1, length-take-le n ks l) in let f = first-ids n l r.0 k in
      subst (Has (sorted (pick Ts (take n ks)))) (ap (λ i. tree_at Ts i) f.1 ∙ a.each r.0 (omega (arith, r.1, l)) ∙ sym r.2) (has-sorted (pick Ts (take n ks)) _ (pick-has Ts (take n ks) r.0 k))))

  first-ascend : (n : ℕ) → n ≤ length ks → IsAscending (take n ks)
  first-ascend n l i j k m = let p = first-ids n l j m in let q = first-ids n l i (omega (arith, k, m)) in subst (λ z. get_or (take n ks) i 0 < z) (sym p.1) (subst (λ z. z < get_or ks j 0) (sym q.1) (a.ascends i j k (omega (arith, p.0, l))))

  first-below : (n : ℕ) → n ≤ length ks → AreIds Ts (take n ks)
  first-below n l j m = let p = first-ids n l j m in subst (λ z. z < length Ts) (sym p.1) (a.below j (omega (arith, p.0, l)))

  -- the options of a nimber
  module _ (distinct : AreDistinct Ts) (id : ℕ) (ls rs : List ℕ) (in_store : id < length Ts) (o : IsOptions Ts id ls rs) where
    pub options-are : (n : ℕ) → n ≤ length ks → tree_at Ts id ≡ nimber n → (ls ≡ take n ks) × (rs ≡ take n ks)
    options-are n l e = (
      pick-one_to_one Ts distinct ls (take n ks) o.left_ascends (first-ascend n l) (λ j k. omega (arith, o.left_below j k, in_store)) (first-below n l) (ap left (sym o.tree ∙ e) ∙ sym (first-nimbers n l)),
      pick-one_to_one Ts distinct rs (take n ks) o.right_ascends (first-ascend n l) (λ j k. omega (arith, o.right_below j k, in_store)) (first-below n l) (ap right (sym o.tree ∙ e) ∙ sym (first-nimbers n l)),
    )

    pub next-options : tree_at Ts id ≡ nimber (length ks) → (ls ≡ ks) × (rs ≡ ks)
    next-options e = let r = options-are (length ks) (omega arith) e in let t : take (length ks) ks ≡ ks = take_all (length ks) ks (omega arith) in (r.0 ∙ t, r.1 ∙ t)

    pub next-nimber : ls ≡ ks → rs ≡ ks → tree_at Ts id ≡ nimber (length ks)
    next-nimber p q = let t : take (length ks) ks ≡ ks = take_all (length ks) ks (omega arith) in let s : sorted (pick Ts ks) ≡ sorted (nimbers_below (length ks)) = subst (λ z. sorted (pick Ts z) ≡ sorted (nimbers_below (length ks))) t (first-nimbers (length ks) (omega arith)) in
        o.tree ∙ ap₂ (form Ts) p q ∙ ap₂ node s s

    pub among-count : (n : ℕ) → IsAmong Ts ks id → tree_at Ts id ≡ nimber n → (length ls < length ks) × (get_or ks (length ls) 0 ≡ id)
    among-count n b e = let m = b n e in let r = options-are n (omega (arith, m.0)) e in let s : length ls ≡ n = ap length r.0 ∙ length-take-le n ks (omega (arith, m.0)) in (omega (arith, s, m.0), ap (λ i. get_or ks i 0) s ∙ m.1)

-- a number is the next nimber where it is 0 and there is none yet
pub number-next : (G : Tree) (x : ℤ) (ks : List ℕ) → G ≡ number_tree x → G ≡ nimber (length ks) → (length ks ≡ 0) × (x ≡ pos 0)
number-next G x [] e p = (refl, number-same x (pos 0) (sym e ∙ p ∙ zero-tree))
number-next G x (k ∷ ks) e p = absurd (nimber-no_number (suc (length ks)) (omega arith) (60, x, sym p ∙ e))

pub next-number : (G : Tree) (x : ℤ) (ks : List ℕ) → G ≡ number_tree x → length ks ≡ 0 → x ≡ pos 0 → G ≡ nimber (length ks)
next-number G x ks e p q = e ∙ ap number_tree q ∙ sym zero-tree ∙ ap (λ n. nimber n) (sym p)

-- options have lesser ids
pub option-below : (Ts : List Tree) → HaveForms Ts → (id : ℕ) → id < length Ts → (X : Tree) → IsInner (tree_at Ts id) X → (i : ℕ) × (i < id) × (X ≡ tree_at Ts i)
option-below Ts forms id l X (f, o) = let h = forms id l in at h.0 h.1 o
  where
    at : (w : Wanted) → IsMeaning Ts id w → IsOption (tree_at Ts id) X → (i : ℕ) × (i < id) × (X ≡ tree_at Ts i)
    at (number x) m p = absurd (f (60, x, m))
    at (options ls rs) m (inl h) = let r = has-pick Ts ls X (has-left Ts id ls rs m X h) in (_, m.left_below r.0 r.1, r.2)
    at (options ls rs) m (inr h) = let r = has-pick Ts rs X (has-right Ts id ls rs m X h) in (_, m.right_below r.0 r.1, r.2)

module _ (Ts : List Tree) (ids ks : List ℕ) (n : ℕ) (distinct : AreDistinct Ts) (closed : AreClosed Ts ids) (l : n < length ids) (a : AreFound Ts ids n ks) where
  pub found-step : tree_at Ts (get_or ids n 0) ≡ nimber (length ks) → (us : List ℕ) → us ≡ ks ++ get_or ids n 0 ∷ [] → AreFound Ts ids (n + 1) us
  found-step e us u = subst (AreFound Ts ids (n + 1)) (sym u) (record {
    nimbers = record {
      below = λ j m. elim (place j m) [
        | inl p ↦ subst (λ z. z < length Ts) (sym p.1) (a.nimbers.below j p.0)
        | inr p ↦ subst (λ z. z < length Ts) (sym p.1) (closed.ids n l)
      ];
      ascends = λ i j k m. elim (place j m) [
        | inl p ↦ subst (λ z. get_or (ks ++ get_or ids n 0 ∷ []) i 0 < z) (sym p.1) (subst (λ z. z < get_or ks j 0) (sym (old i (omega (arith, k, p.0)))) (a.nimbers.ascends i j k p.0))
        | inr p ↦ (let f = a.from i (omega (arith, k, p.0)) in subst (λ z. get_or (ks ++ get_or ids n 0 ∷ []) i 0 < z) (sym p.1) (subst (λ z. z < get_or ids n 0) (sym (old i (omega (arith, k, p.0)) ∙ f.3)) (closed.ascends f.0 n f.1 l)))
      ];
      each = λ k m. elim (place k m) [
        | inl p ↦ ap (λ i. tree_at Ts i) p.1 ∙ a.nimbers.each k p.0
        | inr p ↦ ap (λ i. tree_at Ts i) p.1 ∙ e ∙ ap (λ i. nimber i) (sym p.0)
      ];
    };
    from = λ k m. elim (place k m) [
      | inl p ↦ (let f = a.from k p.0 in (f.0, omega (arith, f.1), f.2, p.1 ∙ f.3))
      | inr p ↦ (n, omega arith, l, p.1)
    ];
    among = λ j m k h q. elim (cases_lt j n) [
      | inl d ↦ (let r = a.among j d k h q in (omega (arith, r.0, longer), old h r.0 ∙ r.1))
      | inr d ↦ (let s : j ≡ n = omega (arith, m, d) in let t : h ≡ length ks = nimber-same h (length ks) (sym q ∙ ap (λ i. tree_at Ts (get_or ids i 0)) s ∙ e) in
          (omega (arith, t, longer), ap (λ i. get_or (ks ++ get_or ids n 0 ∷ []) i 0) t ∙ last ∙ ap (λ i. get_or ids i 0) (sym s)))
    ];
  })
    where
      longer : length (ks ++ get_or ids n 0 ∷ []) ≡ length ks + 1
      longer = length-append ks (get_or ids n 0 ∷ [])

      old : (j : ℕ) → j < length ks → get_or (ks ++ get_or ids n 0 ∷ []) j 0 ≡ get_or ks j 0
      old j m = get_or_append_left ks (get_or ids n 0 ∷ []) 0 j m

      last : get_or (ks ++ get_or ids n 0 ∷ []) (length ks) 0 ≡ get_or ids n 0
      last = get_or_push ks (get_or ids n 0) 0 (length ks) refl

      place : (j : ℕ) → j < length (ks ++ get_or ids n 0 ∷ []) → ((j < length ks) × (get_or (ks ++ get_or ids n 0 ∷ []) j 0 ≡ get_or ks j 0)) ⊎ ((j ≡ length ks) × (get_or (ks ++ get_or ids n 0 ∷ []) j 0 ≡ get_or ids n 0))
      place j m = elim (cases_lt j (length ks)) [
        | inl d ↦ inl (d, old j d)
        | inr d ↦ (let s : j ≡ length ks = omega (arith, m, d, longer) in inr (s, ap (λ i. get_or (ks ++ get_or ids n 0 ∷ []) i 0) s ∙ last))
      ]

  pub found-skip : HaveForms Ts → (tree_at Ts (get_or ids n 0) ≡ nimber (length ks) → ⊥) → (us : List ℕ) → us ≡ ks → AreFound Ts ids (n + 1) us
  found-skip forms f us u = subst (AreFound Ts ids (n + 1)) (sym u) (record {
    nimbers = a.nimbers;
    from = λ k m. (let r = a.from k m in (r.0, omega (arith, r.1), r.2, r.3));
    among = λ j m k h q. elim (cases_lt j n) [
      | inl d ↦ a.among j d k h q
      | inr d ↦ (let s : j ≡ n = omega (arith, m, d) in subst (λ z. (h < length ks) × (get_or ks h 0 ≡ get_or ids z 0)) (sym s) (here h (subst (λ z. tree_at Ts (get_or ids z 0) ≡ nimber h) s q)))
    ];
  })
    where
      here : (h : ℕ) → tree_at Ts (get_or ids n 0) ≡ nimber h → (h < length ks) × (get_or ks h 0 ≡ get_or ids n 0)
      here h q = elim (cases_order h (length ks)) [
        | inl e ↦ absurd (f (q ∙ ap (λ i. nimber i) e))
        | inr o ↦ elim o [
          | inl b ↦ (b, distinct (get_or ks h 0) (get_or ids n 0) (a.nimbers.below h b) (closed.ids n l) (a.nimbers.each h b ∙ sym q))
          | inr b ↦ absurd (
              let inner : IsInner (tree_at Ts (get_or ids n 0)) (nimber (length ks)) = ((λ t. nimber-no_number h (omega (arith, b)) (subst IsNumberTree q t)), subst (λ z. IsOption z (nimber (length ks))) (sym q) (inl (nimber-option h (length ks) b))) in
              let r = closed.closed n l (nimber (length ks)) inner in
              let p = option-below Ts forms (get_or ids n 0) (closed.ids n l) (nimber (length ks)) inner in
              let same : get_or ids r.0 0 ≡ p.0 = distinct (get_or ids r.0 0) p.0 (closed.ids r.0 r.1) (omega (arith, p.1, closed.ids n l)) (sym r.2 ∙ p.2) in
              let m = a.among r.0 (before Ts ids closed n l r.0 r.1 (omega (arith, same, p.1))) r.1 (length ks) (sym r.2) in
              omega (arith, m.0))
        ]
      ]

-- the only option of a side
only : (Ts : List Tree) (is : List ℕ) → length is ≡ 1 → sorted (pick Ts is) ≡ more (tree_at Ts (get_or is 0 0)) none
unfolding sorted insert
only Ts [] l = absurd (omega (arith, l))
only Ts (i ∷ []) l = refl
only Ts (i ∷ j ∷ is) l = absurd (omega (arith, l))

pub is-pair : (Ts : List Tree) (id : ℕ) (ls rs : List ℕ) → IsOptions Ts id ls rs → length ls ≡ 1 → length rs ≡ 1 → tree_at Ts id ≡ choice (tree_at Ts (get_or ls 0 0)) (tree_at Ts (get_or rs 0 0))
is-pair Ts id ls rs o l m = o.tree ∙ ap₂ node (only Ts ls l) (only Ts rs m)

-- one option on a side of a pair
one-of : (Ts : List Tree) → AreDistinct Ts → (is : List ℕ) (X : Tree) → AreIds Ts is → IsAscending is → 0 < length is → sorted (pick Ts is) ≡ more X none → length is ≡ 1
one-of Ts d [] X b a l e = absurd (omega (arith, l))
one-of Ts d (i ∷ []) X b a l e = refl
one-of Ts d (i ∷ j ∷ is) X b a l e = absurd (let s : i ≡ j = d i j (b 0 (omega arith)) (b 1 (omega arith)) (is-x 0 (omega arith) ∙ sym (is-x 1 (omega arith))) in omega (arith, s, a 0 1 (omega arith) (omega arith)))
  where
    is-x : (k : ℕ) → k < length (i ∷ j ∷ is) → tree_at Ts (get_or (i ∷ j ∷ is) k 0) ≡ X
    is-x k m = elim (subst (λ z. Has z (tree_at Ts (get_or (i ∷ j ∷ is) k 0))) e (has-sorted (pick Ts (i ∷ j ∷ is)) _ (pick-has Ts (i ∷ j ∷ is) k m))) [ inl p ↦ p | inr h ↦ absurd h ]

pub pair-lengths : (Ts : List Tree) (id : ℕ) (ls rs : List ℕ) (X Y : Tree) → AreDistinct Ts → id < length Ts → IsOptions Ts id ls rs → tree_at Ts id ≡ choice X Y → (length ls ≡ 1) × (length rs ≡ 1)
pair-lengths Ts id ls rs X Y d l o e = (
  one-of Ts d ls X (λ j k. omega (arith, o.left_below j k, l)) o.left_ascends o.left_some (ap left (sym o.tree ∙ e)),
  one-of Ts d rs Y (λ j k. omega (arith, o.right_below j k, l)) o.right_ascends o.right_some (ap right (sym o.tree ∙ e)),
)

-- the name of a pair is that of its tree
module _ (G A B : Tree) (no_number : IsNumberTree G → ⊥) (no_nimber : (n : ℕ) → G ≡ nimber n → ⊥) (e : G ≡ choice A B) where
  pub pair-named : (t : List ℕ) → IsPairName A B t → name G ≡ Some t
  pair-named t (inl ((p, q), r)) = up-named G no_number no_nimber (e ∙ ap₂ choice p q) ∙ ap (λ z. Some z) (sym r)
  pair-named t (inr (inl ((p, q), r))) = let d = e ∙ ap₂ choice p q in down-named G no_number no_nimber d (λ f. down-not_up (sym d ∙ f)) ∙ ap (λ z. Some z) (sym r)
  pair-named t (inr (inr (u, l, p, q, r))) = ap name (e ∙ ap₂ choice p q) ∙ name-switch u l ∙ ap (λ z. Some z) (ap (λ z. 43 ∷ 45 ∷ tree_text z) (sym p) ∙ sym r)

  pub pair-unnamed : (IsNamedPair A B → ⊥) → name G ≡ None
  pair-unnamed f = no-name G no_number no_nimber
      (λ p. f (inl (lefts-same A B (nimber 0) (nimber 1) (sym e ∙ p), rights-same A B (nimber 0) (nimber 1) (sym e ∙ p))))
      (λ p. f (inr (inl (lefts-same A B (nimber 1) (nimber 0) (sym e ∙ p), rights-same A B (nimber 1) (nimber 0) (sym e ∙ p)))))
      (λ x p q. f (inr (inr (x, p, lefts-same A B _ _ (sym e ∙ q), rights-same A B _ _ (sym e ∙ q)))))

-- what is no pair of single options is up, down or no switch
pub many-unnamed : (Ts : List Tree) (id : ℕ) (ls rs : List ℕ) → AreDistinct Ts → id < length Ts → IsOptions Ts id ls rs → ((n : ℕ) → tree_at Ts id ≡ nimber n → ⊥) → (length ls ≡ 1 → length rs ≡ 1 → ⊥) → name (tree_at Ts id) ≡ None
many-unnamed Ts id ls rs d l o f g = no-name (tree_at Ts id) o.no_number f
    (λ p. (let r = pair-lengths Ts id ls rs _ _ d l o p in g r.0 r.1))
    (λ p. (let r = pair-lengths Ts id ls rs _ _ d l o p in g r.0 r.1))
    (λ x p q. (let r = pair-lengths Ts id ls rs _ _ d l o q in g r.0 r.1))

-- numbers of which the one isn't the other's negative
pub not-opposite : (A B : Tree) (x y : ℤ) → A ≡ number_tree x → B ≡ number_tree y → ((pos 0 <ℤ x) × (y ≡ neg_ℤ x) → ⊥) → IsSwitchPair A B → ⊥
not-opposite A B x y p q f (z, r, s, e) = f (switch-numbers x y z r (sym p ∙ s) (sym q ∙ e))

-- texts of the nimbers of 0 and 1
pub zero-is : (A : Tree) (t : List ℕ) → IsCanonicalTree A → t ≡ named_text A → (t ≡ 48 ∷ []) ↔ (A ≡ nimber 0)
zero-is A t c e = ((λ p. named-one_to_one A (nimber 0) c (nimber-canonical 0) (sym e ∙ p ∙ sym zero-text)), λ p. e ∙ ap named_text p ∙ zero-text)

pub star-is : (A : Tree) (t : List ℕ) → IsCanonicalTree A → t ≡ named_text A → (t ≡ 42 ∷ []) ↔ (A ≡ nimber 1)
star-is A t c e = ((λ p. named-one_to_one A (nimber 1) c (nimber-canonical 1) (sym e ∙ p ∙ sym star-text)), λ p. e ∙ ap named_text p ∙ star-text)

-- what is found, in other words
pub on-found : {E V : Type 0} (r : Result (Option V) E) (N M : Type 0) (P Q : V → Type 0) → (N → M) → ((v : V) → P v → Q v) → IfOk r (λ found. MatchOption found N P) → IfOk r (λ found. MatchOption found M Q)
on-found (Ok (Some v)) N M P Q f g h = g v h
on-found (Ok None) N M P Q f g h = f h
on-found (Err e) N M P Q f g h = h

pub no-pair : (A B : Tree) → (IsUpPair A B → ⊥) → (IsDownPair A B → ⊥) → (IsSwitchPair A B → ⊥) → IsNamedPair A B → ⊥
no-pair A B f g h (inl a) = f a
no-pair A B f g h (inr (inl b)) = g b
no-pair A B f g h (inr (inr d)) = h d

-- the name of a nimber, as it is written
pub star-written : (n : ℕ) (old new items : List ℕ) → 2 ≤ n → n < 2 ^ 64 → old ≡ [] → new ≡ old ++ (42 ∷ decimal n) → items ≡ new → items ≡ nimber_name n
star-written n old new items l k o p q =
    let small : nat_lt n 2 ≡ false = elim (cases_Bool (nat_lt n 2)) [ inl t ↦ absurd (omega (arith, ltb-true n 2 t, l)) | inr f ↦ f ] in
    let rest : decimal n ≡ cond (nat_lt n 2) [] (digits n []) = sym (digits-are n (omega (arith, k))) ∙ sym (ap (λ b. cond b [] (digits n [])) small) in
    q ∙ p ∙ ap (λ z. z ++ (42 ∷ decimal n)) o ∙ ap (λ z. 42 ∷ z) rest

-- the text of a number's tree
pub number-is-named : (G : Tree) (u : ℤ) → G ≡ number_tree u → named_text G ≡ tree_text (number_tree u)
number-is-named G u e = ap named_text e ∙ text-named (number_tree u) _ (name-number (number_tree u) _ (number-text u))
