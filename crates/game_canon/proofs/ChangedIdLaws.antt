-- How the forms that a form is made of are changed one after another.
use Rattle.std.proofs.Common.{ℕ, ◌+◌, ◌<◌, ◌≤◌, ◌≡◌, List, [], ◌∷◌, ◌++◌, length, get_or, arith, refl, sym, ◌∙◌, inl, inr, ap, subst, ℤ, pos, nat_eq, cond, Some, None, zero, suc, Bool, true, false}
use Rattle.std.specs.Prelude.{Option, is_some, Result, Err, IfErr}
use Rattle.std.proofs.lemmas.Bool.{cases_lt, eq-eqb, eqb-true, ne_eqb, true≢false}
use Rattle.std.proofs.lemmas.List.{length-append, get_or_append_left}
use Rattle.std.proofs.Math.Seq.{get_or-append_seam}
use Rattle.short_games.specs.Tree.{Tree, Trees, Has, tree_at, AreDistinct}
use Rattle.short_games.specs.Number.{IsNumberTree, number_tree}
use Rattle.short_games.specs.TextOrder.{IsCanonicalTree, IsCanonicalFor}
use Rattle.game_store.specs.Meaning.{pick, form, AreIds, AreBelow, Extends, IsIdOf, IsAscending}
use Rattle.game_store.specs.Forms.{IsOptions}
use Rattle.short_games.specs.Parts.{IsOption, IsNumberOf, IsInner, IsReached}
use Rattle.game_store.proofs.EntryLaws.{has-pick, pick-has}
use Rattle.short_games.proofs.ReductionLaws.{number-canonical}
use Rattle.game_canon.specs.declared.change.Change.{Change}
use Rattle.game_canon.specs.declared.change.Change.TheVariants.{Negate, Add}
use Rattle.game_canon.specs.declared.errors.FormError.{FormError}
use Rattle.game_canon.specs.declared.errors.FormError.TheVariants.{Parts, Bounds, Memory}
use Rattle.game_canon.specs.inner.Ids.{IsInOrder, IsPlaceOf}
use Rattle.game_canon.specs.Reachable.{AreReachable}
use Rattle.game_canon.specs.inner.Changes.{noted, target, lefts, rights, left_list, right_list, shifted, IsChanged, AreKnown, IsMapped, AreNoted, AreClosed, AreDone, IsRefusedAt, IsRefused}
use Rattle.game_canon.proofs.GameLaws.{has-left, left-has, has-right, right-has}
use Rattle.game_canon.proofs.IdLaws.{ascending-tail}
use Rattle.game_canon.proofs.ChangeLaws.{number-shifted, AreImages, changed-form, changed-no_number}

pub changed-number : (Ts : List Tree) (c : Change) (y z : ℤ) (k : ℕ) → IsIdOf Ts (number_tree z) k → z ≡ shifted c y → IsChanged Ts c (number_tree y) k
changed-number Ts c y z k i e = (
  i.0,
  subst (IsCanonicalFor (target c (number_tree y))) (sym (i.1 ∙ ap number_tree e)) (let s = number-shifted c y in record { canonical = number-canonical 60 (shifted c y); under = s.0; over = s.1 }),
)

-- what is noted at places in lists
noted-empty : (is : List ℕ) (i : ℕ) → noted is [] i ≡ None
noted-empty [] i = refl
noted-empty (j ∷ is) i = refl

noted-here : (is ks : List ℕ) (j : ℕ) → IsAscending is → j < length is → j < length ks → noted is ks (get_or is j 0) ≡ Some (get_or ks j 0)
noted-here [] ks j up a b = absurd (omega (arith, a))
noted-here (i ∷ is) [] j up a b = absurd (omega (arith, b))
noted-here (i ∷ is) (k ∷ ks) zero up a b = ap (λ t. cond t (Some k) (noted is ks i)) (eq-eqb i i refl)
noted-here (i ∷ is) (k ∷ ks) (suc j) up a b =
    ap (λ t. cond t (Some k) (noted is ks (get_or is j 0))) (ne_eqb i (get_or is j 0) (λ e. omega (arith, e, up 0 (suc j) (omega arith) a)))
    ∙ noted-here is ks j (ascending-tail i is up) (omega (arith, a)) (omega (arith, b))

noted-none : (is ks : List ℕ) (i : ℕ) → ((j : ℕ) → j < length is → j < length ks → get_or is j 0 ≡ i → ⊥) → noted is ks i ≡ None
noted-none [] ks i other = refl
noted-none (j ∷ is) [] i other = refl
noted-none (j ∷ is) (k ∷ ks) i other =
    ap (λ t. cond t (Some k) (noted is ks i)) (ne_eqb j i (λ e. other 0 (omega arith) (omega arith) e))
    ∙ noted-none is ks i (λ n a b. other (suc n) (omega (arith, a)) (omega (arith, b)))

pub noted-at_place : (is ks : List ℕ) (i place : ℕ) → IsAscending is → place < length is → get_or is place 0 ≡ i → place < length ks → noted is ks i ≡ Some (get_or ks place 0)
noted-at_place is ks i place up l e m = subst (λ z. noted is ks z ≡ Some (get_or ks place 0)) e (noted-here is ks place up l m)

pub noted-past : (is ks : List ℕ) (i place : ℕ) → IsAscending is → place < length is → get_or is place 0 ≡ i → length ks ≤ place → noted is ks i ≡ None
noted-past is ks i place up l e m = noted-none is ks i (λ j a b f. omega (arith, up j place (omega (arith, b, m)) l, e, f))

pub noted-nowhere : (is ks : List ℕ) (i place : ℕ) → IsPlaceOf is i place → ((place < length is) × (get_or is place 0 ≡ i) → ⊥) → IsAscending is → noted is ks i ≡ None
noted-nowhere is ks i place p other up = noted-none is ks i (λ j a b e. elim (cases_lt j place) [
  | inl d ↦ omega (arith, e, p.before j d)
  | inr d ↦ elim (cases_lt place j) [
    | inl m ↦ omega (arith, e, up place j m a, p.from place (omega arith) (omega (arith, m, a)))
    | inr m ↦ (let f : j ≡ place = omega (arith, d, m) in other (omega (arith, f, a), sym (ap (λ z. get_or is z 0) f) ∙ e))
  ]
])

-- one more is noted
swapped : (a b : Bool) (k l : Option ℕ) (r : Option ℕ) → (a ≡ true → b ≡ true → ⊥) → cond a k (cond b l r) ≡ cond b l (cond a k r)
swapped true true k l r other = absurd (other refl refl)
swapped true false k l r other = refl
swapped false true k l r other = refl
swapped false false k l r other = refl

noted-more : (is ks : List ℕ) (k i : ℕ) → IsAscending is → length ks < length is → noted is (ks ++ k ∷ []) i ≡ cond (nat_eq (get_or is (length ks) 0) i) (Some k) (noted is ks i)
noted-more [] ks k i up l = absurd (omega (arith, l))
noted-more (j ∷ is) [] k i up l = ap (cond (nat_eq j i) (Some k)) (noted-empty is i)
noted-more (j ∷ is) (n ∷ ks) k i up l =
    ap (cond (nat_eq j i) (Some n)) (noted-more is ks k i (ascending-tail j is up) (omega (arith, l)))
    ∙ swapped (nat_eq j i) (nat_eq (get_or is (length ks) 0) i) (Some n) (Some k) (noted is ks i)
    (λ a b. omega (arith, eqb-true j i a, eqb-true (get_or is (length ks) 0) i b, up 0 (suc (length ks)) (omega arith) (omega (arith, l))))

pub noted-next : (is ks us : List ℕ) (n k : ℕ) → IsAscending is → n < length is → length ks ≡ n → us ≡ ks ++ k ∷ [] → (i : ℕ) → noted is us i ≡ cond (nat_eq (get_or is n 0) i) (Some k) (noted is ks i)
noted-next is ks us n k up l e u i = ap (λ z. noted is z i) u ∙ noted-more is ks k i up (omega (arith, l, e)) ∙ ap (λ z. cond (nat_eq (get_or is z 0) i) (Some k) (noted is ks i)) e

-- lists of ids
pub record IsMapping (note : ℕ → Option ℕ) (is vs : List ℕ) (n : ℕ) : Type 0 where
  pub to : (i : ℕ) → i < n → i < length is → (j : ℕ) × (j < length vs) × (note (get_or is i 0) ≡ Some (get_or vs j 0))
  pub from : (j : ℕ) → j < length vs → (i : ℕ) × (i < length is) × (note (get_or is i 0) ≡ Some (get_or vs j 0))

pub mapping-start : (note : ℕ → Option ℕ) (is vs : List ℕ) → vs ≡ [] → IsMapping note is vs 0
mapping-start note is vs e = record { to = λ i l. absurd (omega (arith, l)); from = λ j l. absurd (omega (arith, subst (λ z. j < length z) e l)) }

pub mapping-push : (note : ℕ → Option ℕ) (is vs us : List ℕ) (n k : ℕ) → IsMapping note is vs n → n < length is → note (get_or is n 0) ≡ Some k → us ≡ vs ++ k ∷ [] → IsMapping note is us (n + 1)
mapping-push note is vs us n k m l e u = record {
  to = λ i a b. elim (cases_lt i n) [
    | inl d ↦ (let r = m.to i d b in (r.0, omega (arith, r.1, grown), r.2 ∙ sym (ap Some (old r.0 r.1))))
    | inr d ↦ (let s : n ≡ i = omega (arith, a, d) in (length vs, omega (arith, grown), subst (λ z. note (get_or is z 0) ≡ Some (get_or us (length vs) 0)) s (e ∙ sym (ap Some last))))
  ];
  from = λ j a. elim (cases_lt j (length vs)) [
    | inl d ↦ (let r = m.from j d in (r.0, r.1, r.2 ∙ sym (ap Some (old j d))))
    | inr d ↦ (let s : length vs ≡ j = omega (arith, a, d, grown) in (n, l, subst (λ z. note (get_or is n 0) ≡ Some (get_or us z 0)) s (e ∙ sym (ap Some last))))
  ];
}
  where
    grown : length us ≡ length vs + 1
    grown = ap length u ∙ length-append vs (k ∷ [])

    old : (j : ℕ) → j < length vs → get_or us j 0 ≡ get_or vs j 0
    old j d = ap (λ z. get_or z j 0) u ∙ get_or_append_left vs (k ∷ []) 0 j d

    last : get_or us (length vs) 0 ≡ k
    last = ap (λ z. get_or z (length vs) 0) u ∙ get_or-append_seam vs k [] 0

pub mapping-end : (note : ℕ → Option ℕ) (is vs us : List ℕ) (n : ℕ) → IsMapping note is vs n → length is ≤ n → IsInOrder vs us → IsMapped note is us
mapping-end note is vs us n m l o = record {
  ascends = o.ascends;
  to = λ i a. (let r = m.to i (omega (arith, a, l)) a in let q = o.to r.0 r.1 in (q.0, q.1, r.2 ∙ ap Some q.2));
  from = λ j a. (let q = o.from j a in let r = m.from q.0 q.1 in (r.0, r.1, r.2 ∙ sym (ap Some q.2)));
}

abbrev or_nought : Option ℕ → ℕ
or_nought None = 0
or_nought (Some k) = k

pub not-none : (k : ℕ) (o : Option ℕ) → o ≡ Some k → o ≡ None → ⊥
not-none k o p q = true≢false (ap is_some (sym p ∙ q))

same-noted : (note : ℕ → Option ℕ) (i j k : ℕ) → note i ≡ Some j → note i ≡ Some k → j ≡ k
same-noted note i j k p q = ap or_nought (sym p ∙ q)

-- a list of ids of one side of a form
record IsSide (Ts : List Tree) (Gs : Trees) (id : ℕ) (is : List ℕ) : Type 0 where
  below : AreBelow id is
  some : 0 < length is
  to : (X : Tree) → Has Gs X → Has (pick Ts is) X
  from : (X : Tree) → Has (pick Ts is) X → Has Gs X

left-side : (c : Change) (Ts : List Tree) (id : ℕ) (ls rs : List ℕ) → IsOptions Ts id ls rs → IsSide Ts (lefts c (tree_at Ts id)) id (left_list c ls rs)
left-side Negate Ts id ls rs o = record { below = o.right_below; some = o.right_some; to = has-right Ts id ls rs o; from = right-has Ts id ls rs o }
left-side (Add x) Ts id ls rs o = record { below = o.left_below; some = o.left_some; to = has-left Ts id ls rs o; from = left-has Ts id ls rs o }

right-side : (c : Change) (Ts : List Tree) (id : ℕ) (ls rs : List ℕ) → IsOptions Ts id ls rs → IsSide Ts (rights c (tree_at Ts id)) id (right_list c ls rs)
right-side Negate Ts id ls rs o = record { below = o.left_below; some = o.left_some; to = has-left Ts id ls rs o; from = left-has Ts id ls rs o }
right-side (Add x) Ts id ls rs o = record { below = o.right_below; some = o.right_some; to = has-right Ts id ls rs o; from = right-has Ts id ls rs o }

lefts-option : (c : Change) (G X : Tree) → Has (lefts c G) X → IsOption G X
lefts-option Negate G X h = inr h
lefts-option (Add x) G X h = inl h

rights-option : (c : Change) (G X : Tree) → Has (rights c G) X → IsOption G X
rights-option Negate G X h = inl h
rights-option (Add x) G X h = inr h

module _ (Ts : List Tree) (note : ℕ → Option ℕ) (c : Change) (id : ℕ) (distinct : AreDistinct Ts) (in_range : id < length Ts) (noted : AreNoted Ts note c id) (no_number : IsNumberTree (tree_at Ts id) → ⊥) where
  -- what is noted of the id's options
  noted-at : (is : List ℕ) → AreBelow id is → ((X : Tree) → Has (pick Ts is) X → IsOption (tree_at Ts id) X) → (j : ℕ) → j < length is → (k : ℕ) × (note (get_or is j 0) ≡ Some k) × IsChanged Ts c (tree_at Ts (get_or is j 0)) k
  noted-at is b f j l =
      let r = noted (tree_at Ts (get_or is j 0)) (no_number, f _ (pick-has Ts is j l)) in
      let s : r.0 ≡ get_or is j 0 = distinct r.0 (get_or is j 0) r.1 (omega (arith, b j l, in_range)) (sym r.2) in
      let q = r.3 (omega (arith, s, b j l)) in
      (q.0, subst (λ i. note i ≡ Some q.0) s q.1, q.2)

  known-side : (Gs : Trees) (is : List ℕ) → IsSide Ts Gs id is → ((X : Tree) → Has Gs X → IsOption (tree_at Ts id) X) → AreKnown note is
  known-side Gs is s f j l = let r = noted-at is s.below (λ X h. f X (s.from X h)) j l in (r.0, r.1)

  images : (Gs : Trees) (is vs : List ℕ) → IsSide Ts Gs id is → ((X : Tree) → Has Gs X → IsOption (tree_at Ts id) X) → IsMapped note is vs → AreImages c Gs (pick Ts vs)
  images Gs is vs s f m = record {
    to = λ X h. (
        let p = has-pick Ts is X (s.to X h) in
        let q = m.to p.0 p.1 in
        let r = noted-at is s.below (λ X h. f X (s.from X h)) p.0 p.1 in
        (tree_at Ts (get_or vs q.0 0), pick-has Ts vs q.0 q.1, subst (λ t. IsCanonicalFor (target c t) (tree_at Ts (get_or vs q.0 0))) (sym p.2) (subst (λ k. IsCanonicalFor (target c (tree_at Ts (get_or is p.0 0))) (tree_at Ts k)) (same-noted note _ _ _ r.1 q.2) r.2.1))
        );
    from = λ Y h. (
        let p = has-pick Ts vs Y h in
        let q = m.from p.0 p.1 in
        let r = noted-at is s.below (λ X h. f X (s.from X h)) q.0 q.1 in
        (tree_at Ts (get_or is q.0 0), s.from _ (pick-has Ts is q.0 q.1), subst (IsCanonicalFor (target c (tree_at Ts (get_or is q.0 0)))) (sym p.2) (subst (λ k. IsCanonicalFor (target c (tree_at Ts (get_or is q.0 0))) (tree_at Ts k)) (same-noted note _ _ _ r.1 q.2) r.2.1))
        );
  }

  mapped-ids : (Gs : Trees) (is vs : List ℕ) → IsSide Ts Gs id is → ((X : Tree) → Has Gs X → IsOption (tree_at Ts id) X) → IsMapped note is vs → AreIds Ts vs
  mapped-ids Gs is vs s f m j l =
      let q = m.from j l in
      let r = noted-at is s.below (λ X h. f X (s.from X h)) q.0 q.1 in
      subst (λ k. k < length Ts) (same-noted note _ _ _ r.1 q.2) r.2.0

  mapped-some : (Gs : Trees) (is vs : List ℕ) → IsSide Ts Gs id is → IsMapped note is vs → 0 < length vs
  mapped-some Gs is vs s m = let q = m.to 0 s.some in omega (arith, q.1)

  module _ (ls rs : List ℕ) (o : IsOptions Ts id ls rs) where
    pub known-left : AreKnown note ls
    known-left = known-side _ ls (left-side (Add (pos 0)) Ts id ls rs o) (λ X h. inl h)

    pub known-right : AreKnown note rs
    known-right = known-side _ rs (right-side (Add (pos 0)) Ts id ls rs o) (λ X h. inr h)

    -- the lists of the changed form
    pub record IsMade (ms ns : List ℕ) : Type 0 where
      pub left_ids : AreIds Ts ms
      pub right_ids : AreIds Ts ns
      pub left_some : 0 < length ms
      pub right_some : 0 < length ns
      pub canonical : IsCanonicalFor (target c (tree_at Ts id)) (form Ts ms ns)
      pub no_form : IsNumberTree (form Ts ms ns) → ⊥

    pub made : (ms ns : List ℕ) → IsCanonicalTree (tree_at Ts id) → IsMapped note (left_list c ls rs) ms → IsMapped note (right_list c ls rs) ns → IsMade ms ns
    made ms ns k m n =
        let l = left-side c Ts id ls rs o in
        let r = right-side c Ts id ls rs o in
        let a = images _ _ ms l (lefts-option c (tree_at Ts id)) m in
        let b = images _ _ ns r (rights-option c (tree_at Ts id)) n in record {
          left_ids = mapped-ids _ _ ms l (lefts-option c (tree_at Ts id)) m;
          right_ids = mapped-ids _ _ ns r (rights-option c (tree_at Ts id)) n;
          left_some = mapped-some _ _ ms l m;
          right_some = mapped-some _ _ ns r n;
          canonical = changed-form c (tree_at Ts id) (pick Ts ms) (pick Ts ns) k no_number a b;
          no_form = changed-no_number c (tree_at Ts id) (pick Ts ms) (pick Ts ns) k no_number a b;
        }

    -- the same as they are lent
    pub made-lent : (ms ns us vs : List ℕ) → us ≡ ms → vs ≡ ns → IsCanonicalTree (tree_at Ts id) → IsMapped note (left_list c ls rs) ms → IsMapped note (right_list c ls rs) ns → IsMade us vs
    made-lent ms ns us vs p q k m n = subst (λ (z : List ℕ). IsMade z vs) (sym p) (subst (λ (z : List ℕ). IsMade ms z) (sym q) (made ms ns k m n))

    pub made-id : (Us : List Tree) (ms ns : List ℕ) (k : ℕ) → IsMade ms ns → IsIdOf Us (form Ts ms ns) k → IsChanged Us c (tree_at Ts id) k
    made-id Us ms ns k m i = (i.0, subst (IsCanonicalFor (target c (tree_at Ts id))) (sym i.1) m.canonical)

-- what is changed stays so
pub changed-kept : (Ts Us : List Tree) (c : Change) (G : Tree) (k : ℕ) → Extends Ts Us → IsChanged Ts c G k → IsChanged Us c G k
changed-kept Ts Us c G k x h = (omega (arith, h.0, x.longer), subst (IsCanonicalFor (target c G)) (sym (x.same k h.0)) h.1)

pub extends-on : (Ts Us Vs : List Tree) → Extends Ts Us → Extends Us Vs → Extends Ts Vs
extends-on Ts Us Vs a b = record { longer = omega (arith, a.longer, b.longer); same = λ i l. b.same i (omega (arith, l, a.longer)) ∙ a.same i l }

-- the loop over the ids
pub record IsChanging (Ts Us : List Tree) (c : Change) (note : ℕ → Option ℕ) (is : List ℕ) (n : ℕ) : Type 0 where
  pub kept : Extends Ts Us
  pub done : AreDone Ts Us c note is n

pub changing-start : (Ts : List Tree) (c : Change) (note : ℕ → Option ℕ) (is : List ℕ) → IsChanging Ts Ts c note is 0
changing-start Ts c note is = record { kept = record { longer = omega arith; same = λ i l. refl }; done = λ j l. absurd (omega (arith, l)) }

module _ (Ts Us : List Tree) (c : Change) (note : ℕ → Option ℕ) (is : List ℕ) (n : ℕ) (w : IsChanging Ts Us c note is n) (closed : AreClosed Ts is) (l : n < length is) where
  pub step-id : get_or is n 0 < length Us
  step-id = omega (arith, closed.ids n l, w.kept.longer)

  same-tree : tree_at Us (get_or is n 0) ≡ tree_at Ts (get_or is n 0)
  same-tree = w.kept.same (get_or is n 0) (closed.ids n l)

  pub step-noted : AreNoted Us note c (get_or is n 0)
  step-noted X i =
      let r = closed.closed n l X (subst (λ t. IsInner t X) same-tree i) in
      let b = closed.ids r.0 r.1 in (
        get_or is r.0 0,
        omega (arith, b, w.kept.longer),
        r.2 ∙ sym (w.kept.same (get_or is r.0 0) b),
        λ m. (let d = w.done r.0 (before r.0 r.1 m) r.1 in (d.0, d.1, subst (λ t. IsChanged Us c t d.0) (sym r.2) d.2)),
      )
    where
      before : (j : ℕ) → j < length is → get_or is j 0 < get_or is n 0 → j < n
      before j k m = elim (cases_lt j n) [
        | inl d ↦ d
        | inr d ↦ elim (cases_lt n j) [
          | inl o ↦ absurd (omega (arith, m, closed.ascends n j o k))
          | inr o ↦ (let e : j ≡ n = omega (arith, d, o) in absurd (omega (arith, subst (λ z. get_or is z 0 < get_or is n 0) e m)))
        ]
      ]

  pub step-done : (Vs : List Tree) (after : ℕ → Option ℕ) (k : ℕ) → Extends Us Vs → IsChanged Vs c (tree_at Us (get_or is n 0)) k → ((i : ℕ) → after i ≡ cond (nat_eq (get_or is n 0) i) (Some k) (note i)) → IsChanging Ts Vs c after is (n + 1)
  step-done Vs after k x h e = record {
    kept = extends-on Ts Us Vs w.kept x;
    done = λ j a b. elim (cases_lt j n) [
      | inl d ↦ (
          let q = w.done j d b in
          let m = closed.ascends j n d l in
          (q.0, e (get_or is j 0) ∙ ap (λ t. cond t (Some k) (note (get_or is j 0))) (ne_eqb (get_or is n 0) (get_or is j 0) (λ i. omega (arith, i, m))) ∙ q.1, changed-kept Us Vs c _ q.0 x q.2)
          )
      | inr d ↦ (
          let s : n ≡ j = omega (arith, a, d) in
          (k, subst (λ z. after (get_or is z 0) ≡ Some k) s (e (get_or is n 0) ∙ ap (λ t. cond t (Some k) (note (get_or is n 0))) (eq-eqb (get_or is n 0) (get_or is n 0) refl)), subst (λ z. IsChanged Vs c (tree_at Ts (get_or is z 0)) k) s (subst (λ t. IsChanged Vs c t k) same-tree h))
          )
    ];
  }

-- the form itself is among the ids
pub reachable-closed : (Ts : List Tree) (G : Tree) (is : List ℕ) → AreReachable Ts G is → AreClosed Ts is
reachable-closed Ts G is w = record { ids = w.ids; ascends = w.ascends; closed = w.closed }

pub root-noted : (Ts Us : List Tree) (a : ℕ) (is : List ℕ) (c : Change) (note : ℕ → Option ℕ) → AreDistinct Ts → a < length Ts → AreReachable Ts (tree_at Ts a) is → AreDone Ts Us c note is (length is) → (k : ℕ) × (note a ≡ Some k) × IsChanged Us c (tree_at Ts a) k
root-noted Ts Us a is c note d l w m =
    let r = w.root in
    let e : get_or is r.0 0 ≡ a = d (get_or is r.0 0) a (w.ids r.0 r.1) l (sym r.2) in
    let q = m r.0 r.1 r.1 in
    (q.0, subst (λ i. note i ≡ Some q.0) e q.1, subst (λ t. IsChanged Us c t q.0) (sym r.2) q.2)

pub root-is : (Ts Us : List Tree) (a k : ℕ) (is : List ℕ) (c : Change) (note : ℕ → Option ℕ) → AreDistinct Ts → a < length Ts → AreReachable Ts (tree_at Ts a) is → AreDone Ts Us c note is (length is) → note a ≡ Some k → IsChanged Us c (tree_at Ts a) k
root-is Ts Us a k is c note d l w m e = let q = root-noted Ts Us a is c note d l w m in subst (IsChanged Us c (tree_at Ts a)) (same-noted note a q.0 k q.1 e) q.2

number-reached : (G X : Tree) (y : ℤ) → IsReached G X → X ≡ number_tree y → IsNumberOf G y
number-reached G X y (inl e) i = inl (sym e ∙ i)
number-reached G X y (inr r) i = inr (r.0, r.1, subst (IsOption r.0) i r.2)

pub all-refused : (Ts : List Tree) (G : Tree) (is : List ℕ) (c : Change) (e : FormError) → AreReachable Ts G is → (j : ℕ) × (j < length is) × IsRefusedAt c (tree_at Ts (get_or is j 0)) e → IsRefused c G e
all-refused Ts G is c Parts w r = r.2
all-refused Ts G is c Bounds w r = (r.2.0, number-reached G _ r.2.0 (w.reached r.0 r.1) r.2.1, r.2.2)
all-refused Ts G is c (Memory cause) w r = tt

-- what the exit of a `?` says of the error that it passes on
pub passed-on : {A : Type 0} (r : Result A FormError) (x : FormError) (P : FormError → Type 0) → (y : FormError) × (r ≡ Err y) × (y ≡ x) → P x → IfErr r P
passed-on r x P q p = subst (λ z. IfErr z P) (sym q.1) (subst P (sym q.2) p)
