-- How the parts of forms are gathered, and how many they are.
use Rattle.short_games.proofs.PartLaws.{follower-more, number-option, number-follower}
use Rattle.std.proofs.Common.{ℕ, zero, suc, ◌+◌, ◌<◌, ◌≤◌, ◌≡◌, ◌⊎◌, List, [], ◌∷◌, ◌++◌, length, get_or, map, arith, refl, sym, ◌∙◌, inl, inr, ap, subst, Bool, true, false, nat_eq}
use Rattle.std.specs.Prelude.{if◌then◌else◌}
use Rattle.std.specs.List.{list_any, IsDistinct, Contains}
use Rattle.indexmap.specs.IndexSet.{insert_key}
use Rattle.indexmap.proofs.CallerLemmas.{Contains-insert_key}
use Rattle.indexmap.proofs.IndexTableLemmas.Probe.{Into, OneToOne, pigeonhole}
use Rattle.std.proofs.lemmas.Bool.{cases_lt, eq-eqb, true≢false}
use Rattle.std.proofs.lemmas.Bool.Decides.{Decides-eqb}
use Rattle.std.proofs.lemmas.List.{length-append, length-map, get_or-map, get_or_append_left}
use Rattle.std.proofs.lemmas.List.Elements.{at_from_Contains}
use Rattle.std.proofs.lemmas.Map.Keys.{apart_from_distinct}
use Rattle.std.proofs.Math.Seq.{get_or-append_seam}
use Rattle.short_games.specs.Tree.{Tree, node, none, Has, size, tree_at, AreDistinct}
use Rattle.short_games.specs.Number.{IsNumberTree}
use Rattle.game_store.specs.Meaning.{pick, listed, form, AreIds}
use Rattle.short_games.specs.Parts.{IsOption, IsFollower, IsPart, AreParts, HasParts, HasMoreParts}
use Rattle.short_games.specs.Parts.IsFollower.{itself, further}
use Rattle.short_games.proofs.OrderLaws.{size-option}
use Rattle.short_games.proofs.TextOrderLaws.{sorted-has, has-sorted}
use Rattle.game_canon.specs.Followers.{IsIn}
use Rattle.game_canon.specs.inner.Followers.{IsGathered, IsGrown, IsPartOfOption, ArePartsOfOptions, HasBelow, HasMoreBelow}
use Rattle.game_canon.proofs.SideLaws.{append-has, has-append_left, has-append_right, one}

pub number-no_more : (G : Tree) (limit : ℕ) → IsNumberTree G → HasMoreParts G limit → ⊥
number-no_more G limit n h = let p = h.1.each 0 (omega (arith, h.2)) in p.1 (number-follower G _ p.0 n)

-- numbers in no greater number
pub fewer : (n m : ℕ) (R : ℕ → ℕ → Type 0) → ((j : ℕ) → j < n → (i : ℕ) × (i < m) × R j i) → ((i j k : ℕ) → i < n → j < n → R i k → R j k → i ≡ j) → n ≤ m
fewer n m R to one_to_one = pigeonhole n m f into one
  where
    pick_one : (j : ℕ) → (j < n) ⊎ (n ≤ j) → ℕ
    pick_one j (inl l) = (to j l).0
    pick_one j (inr l) = 0

    f : ℕ → ℕ
    f j = pick_one j (cases_lt j n)

    picked : (j : ℕ) (d : (j < n) ⊎ (n ≤ j)) → j < n → (pick_one j d < m) × R j (pick_one j d)
    picked j (inl l) k = ((to j l).1, (to j l).2)
    picked j (inr l) k = absurd (omega (arith, l, k))

    into : Into f n m
    into j l = (picked j (cases_lt j n) l).0

    one : OneToOne f n
    one = λ i j k l e. one_to_one i j (f j) (omega (arith, k, l)) (omega (arith, k, l)) (subst (R i) e (picked i (cases_lt i n) (omega (arith, k, l))).1) (picked j (cases_lt j n) (omega (arith, k, l))).1

-- a list of ids that grows
pub gathered-same : (Ts : List Tree) (S P : Tree → Type 0) (ks : List ℕ) → ((X : Tree) → P X → S X) → IsGathered Ts S P ks ks
gathered-same Ts S P ks f = record {
  longer = omega arith;
  same = λ j l. refl;
  below = λ j l m. absurd (omega (arith, l, m));
  passes = λ j l m. absurd (omega (arith, l, m));
  wanted = λ j l m. absurd (omega (arith, l, m));
  has = λ X p. inl (f X p);
}

pub grown-start : (Ts : List Tree) (ks : List ℕ) → IsGrown Ts (Has (pick Ts [])) ks ks
grown-start Ts ks = gathered-same Ts IsNumberTree (Has (pick Ts [])) ks (λ X h. absurd h)

pub grown-number : (Ts : List Tree) (ks : List ℕ) (G : Tree) → IsNumberTree G → IsGrown Ts (IsOption G) ks ks
grown-number Ts ks G n = gathered-same Ts IsNumberTree (IsOption G) ks (λ X o. number-option G X n o)

module _ (Ts : List Tree) (ks us : List ℕ) (longer : length ks ≤ length us)
    (same : (j : ℕ) → j < length ks → get_or us j 0 ≡ get_or ks j 0) (X : Tree) where
  pub in-longer : IsIn Ts ks X → IsIn Ts us X
  in-longer i = (i.0, omega (arith, i.1, longer), i.2 ∙ ap (tree_at Ts) (sym (same i.0 i.1)))

  pub out-or_longer : (S : Tree → Type 0) → S X ⊎ IsIn Ts ks X → S X ⊎ IsIn Ts us X
  out-or_longer S (inl n) = inl n
  out-or_longer S (inr i) = inr (in-longer i)

-- ids that pass one test, and then ids that pass another
pub gathered-both : (Ts : List Tree) (S P Q R : Tree → Type 0) (ks us vs : List ℕ) → IsGathered Ts S P ks us → IsGathered Ts S Q us vs
    → ((X : Tree) → P X → R X) → ((X : Tree) → Q X → R X) → ((X : Tree) → R X → P X ⊎ Q X) → IsGathered Ts S R ks vs
gathered-both Ts S P Q R ks us vs a b f g h = record {
  longer = omega (arith, a.longer, b.longer);
  same = λ j l. b.same j (omega (arith, l, a.longer)) ∙ a.same j l;
  below = λ j l m. elim (cases_lt j (length us)) [ inl d ↦ subst (λ i. i < length Ts) (sym (b.same j d)) (a.below j d m) | inr d ↦ b.below j l d ];
  passes = λ j l m. elim (cases_lt j (length us)) [ inl d ↦ subst (λ i. R (tree_at Ts i)) (sym (b.same j d)) (f _ (a.passes j d m)) | inr d ↦ g _ (b.passes j l d) ];
  wanted = λ j l m. elim (cases_lt j (length us)) [
    | inl d ↦ subst (λ i. S (tree_at Ts i) → ⊥) (sym (b.same j d)) (a.wanted j d m)
    | inr d ↦ b.wanted j l d
  ];
  has = λ X r. elim (h X r) [ inl p ↦ out-or_longer Ts us vs b.longer b.same X S (a.has X p) | inr q ↦ b.has X q ];
}

-- one more id
module _ (Ts : List Tree) (S : Tree → Type 0) (xs ks us : List ℕ) (y : ℕ) where
  and_one : (vs : List ℕ) → IsGathered Ts S (Has (pick Ts xs)) ks us → IsGathered Ts S (Has (pick Ts (y ∷ []))) us vs
      → IsGathered Ts S (Has (pick Ts (xs ++ y ∷ []))) ks vs
  and_one vs g one_more = gathered-both Ts S (Has (pick Ts xs)) (Has (pick Ts (y ∷ []))) (Has (pick Ts (xs ++ y ∷ []))) ks us vs g one_more
      (has-append_left Ts xs (y ∷ [])) (has-append_right Ts xs (y ∷ [])) (append-has Ts xs (y ∷ []))

  pub gathered-skip : S (tree_at Ts y) → IsGathered Ts S (Has (pick Ts xs)) ks us → IsGathered Ts S (Has (pick Ts (xs ++ y ∷ []))) ks us
  gathered-skip n g = and_one us g (gathered-same Ts S (Has (pick Ts (y ∷ []))) us (λ X h. subst S (sym (one Ts y X h)) n))

  inserted : (vs : List ℕ) → y < length Ts → (S (tree_at Ts y) → ⊥) → vs ≡ insert_key nat_eq us y
      → IsGathered Ts S (Has (pick Ts (y ∷ []))) us vs
  inserted vs l n e = at (list_any (nat_eq y) us) refl
    where
      found : IsIn Ts vs (tree_at Ts y)
      found = let r = at_from_Contains vs y (subst (λ z. Contains z y) (sym e) (Contains-insert_key nat_eq (λ x y. (Decides-eqb x y).0) us y)) in (r.0, r.1, ap (tree_at Ts) (sym (r.2 0)))

      all : (X : Tree) → Has (pick Ts (y ∷ [])) X → S X ⊎ IsIn Ts vs X
      all X h = inr (subst (IsIn Ts vs) (sym (one Ts y X h)) found)

      at : (b : Bool) → list_any (nat_eq y) us ≡ b → IsGathered Ts S (Has (pick Ts (y ∷ []))) us vs
      at true t = let s : us ≡ vs = sym (e ∙ ap (λ c. if c then us else us ++ y ∷ []) t) in
          subst (IsGathered Ts S (Has (pick Ts (y ∷ []))) us) s record {
            longer = omega arith;
            same = λ j k. refl;
            below = λ j k m. absurd (omega (arith, k, m));
            passes = λ j k m. absurd (omega (arith, k, m));
            wanted = λ j k m. absurd (omega (arith, k, m));
            has = subst (λ z. (X : Tree) → Has (pick Ts (y ∷ [])) X → S X ⊎ IsIn Ts z X) (sym s) all;
          }
      at false t =
          let s : us ++ y ∷ [] ≡ vs = sym (e ∙ ap (λ c. if c then us else us ++ y ∷ []) t) in
          let last : (j : ℕ) → j < length (us ++ y ∷ []) → length us ≤ j → y ≡ get_or (us ++ y ∷ []) j 0 = λ j k m.
          (let i : length us ≡ j = omega (arith, k, m, length-append us (y ∷ [])) in subst (λ z. y ≡ get_or (us ++ y ∷ []) z 0) i
          (sym (get_or-append_seam us y [] 0))) in
          subst (IsGathered Ts S (Has (pick Ts (y ∷ []))) us) s record {
            longer = omega (arith, length-append us (y ∷ []));
            same = λ j k. get_or_append_left us (y ∷ []) 0 j k;
            below = λ j k m. subst (λ i. i < length Ts) (last j k m) l;
            passes = λ j k m. subst (λ i. Has (pick Ts (y ∷ [])) (tree_at Ts i)) (last j k m) (inl refl);
            wanted = λ j k m. subst (λ i. S (tree_at Ts i) → ⊥) (last j k m) n;
            has = subst (λ z. (X : Tree) → Has (pick Ts (y ∷ [])) X → S X ⊎ IsIn Ts z X) (sym s) all;
          }

  pub gathered-insert : (vs : List ℕ) → y < length Ts → (S (tree_at Ts y) → ⊥) → vs ≡ insert_key nat_eq us y
      → IsGathered Ts S (Has (pick Ts xs)) ks us
      → IsGathered Ts S (Has (pick Ts (xs ++ y ∷ []))) ks vs
  gathered-insert vs l n e g = and_one vs g (inserted vs l n e)

-- where the search is: the ids are those of parts, the options of G are among them, and those of the first n
pub record IsFollowing (Ts : List Tree) (G : Tree) (ks : List ℕ) (n : ℕ) : Type 0 where
  pub ids : AreIds Ts ks
  pub parts : (j : ℕ) → j < length ks → IsPartOfOption G (tree_at Ts (get_or ks j 0))
  pub starts : (X : Tree) → IsOption G X → IsNumberTree X ⊎ IsIn Ts ks X
  pub closed : (j : ℕ) → j < n → j < length ks → (X : Tree) → IsOption (tree_at Ts (get_or ks j 0)) X → IsNumberTree X ⊎ IsIn Ts ks X

pub follow-start : (Ts : List Tree) (ls rs us ks : List ℕ) → IsGrown Ts (Has (pick Ts ls)) [] us → IsGrown Ts (Has (pick Ts rs)) us ks → IsFollowing Ts (listed Ts ls rs) ks 0
follow-start Ts ls rs us ks a b = record {
  ids = λ j l. g.below j l (omega arith);
  parts = λ j l. (tree_at Ts (get_or ks j 0), g.passes j l (omega arith), (itself _, g.wanted j l (omega arith)));
  starts = g.has;
  closed = λ j l. absurd (omega (arith, l));
}
  where
    g : IsGrown Ts (IsOption (listed Ts ls rs)) [] ks
    g = gathered-both Ts IsNumberTree (Has (pick Ts ls)) (Has (pick Ts rs)) (IsOption (listed Ts ls rs)) [] us ks a b (λ X h. inl h)
        (λ X h. inr h) (λ X h. h)

pub follow-step : (Ts : List Tree) (G : Tree) (ks us : List ℕ) (n id : ℕ) → IsFollowing Ts G ks n → n < length ks → id ≡ get_or ks n 0 → IsGrown Ts (IsOption (tree_at Ts id)) ks us → IsFollowing Ts G us (n + 1)
follow-step Ts G ks us n id w l e g = record {
  ids = λ j k. elim (cases_lt j (length ks)) [ inl d ↦ subst (λ i. i < length Ts) (sym (g.same j d)) (w.ids j d) | inr d ↦ g.below j k d ];
  parts = λ j k. elim (cases_lt j (length ks)) [
    | inl d ↦ subst (λ i. IsPartOfOption G (tree_at Ts i)) (sym (g.same j d)) (w.parts j d)
    | inr d ↦ (let p = subst (λ i. IsPartOfOption G (tree_at Ts i)) (sym e) (w.parts n l)
        in (p.0, p.1, (follower-more p.0 _ _ p.2.0 (g.passes j k d), g.wanted j k d)))
  ];
  starts = λ X o. out-or_longer Ts ks us g.longer g.same X IsNumberTree (w.starts X o);
  closed = λ j k m X o. elim (cases_lt j n) [
    | inl d ↦ (let i : j < length ks = omega (arith, d, l) in out-or_longer Ts ks us g.longer g.same X IsNumberTree
        (w.closed j d i X (subst (λ i. IsOption (tree_at Ts i) X) (g.same j i) o)))
    | inr d ↦ (let i : n ≡ j = omega (arith, k, d) in g.has X (subst (λ i. IsOption (tree_at Ts i) X) (sym (e ∙ sym (g.same n l))) (subst (λ z. IsOption (tree_at Ts (get_or us z 0)) X) (sym i) o)))
  ];
}

-- every part is among the ids once none is left to follow
in-all : (Ts : List Tree) (G : Tree) (ks : List ℕ) (n : ℕ) → IsFollowing Ts G ks n → length ks ≤ n → (H X : Tree) → IsFollower H X → IsNumberTree H ⊎ IsIn Ts ks H → (IsNumberTree X → ⊥) → IsIn Ts ks X
in-all Ts G ks n w l _ _ (itself H) (inl m) no_one = absurd (no_one m)
in-all Ts G ks n w l _ _ (itself H) (inr i) no_one = i
in-all Ts G ks n w l _ _ (further H K X o f) (inl m) no_one = in-all Ts G ks n w l K X f (inl (number-option H K m o)) no_one
in-all Ts G ks n w l _ _ (further H K X o f) (inr i) no_one = in-all Ts G ks n w l K X f (w.closed i.0 (omega (arith, i.1, l)) i.1 K (subst (λ t. IsOption t K) i.2 o)) no_one

-- the ids as different trees
at-map : (Ts : List Tree) (ks : List ℕ) (j : ℕ) → j < length ks → tree_at (map (tree_at Ts) ks) j ≡ tree_at Ts (get_or ks j 0)
at-map Ts ks j l = get_or-map (tree_at Ts) ks j 0 (node none none) l

same-place : (ks : List ℕ) → IsDistinct nat_eq ks → (i j : ℕ) → i < length ks → j < length ks → get_or ks i 0 ≡ get_or ks j 0 → i ≡ j
same-place ks d i j k l e = elim (cases_lt i j) [
  | inl m ↦ absurd (true≢false (sym (eq-eqb (get_or ks i 0) (get_or ks j 0) e) ∙ apart_from_distinct nat_eq ks i j 0 d m l))
  | inr m ↦ elim (cases_lt j i) [
    | inl o ↦ absurd (true≢false (sym (eq-eqb (get_or ks j 0) (get_or ks i 0) (sym e)) ∙ apart_from_distinct nat_eq ks j i 0 d o k))
    | inr o ↦ omega (arith, m, o)
  ]
]

are-below : (Ts : List Tree) (G : Tree) (ks : List ℕ) (n : ℕ) → AreDistinct Ts → IsDistinct nat_eq ks → IsFollowing Ts G ks n → ArePartsOfOptions G (map (tree_at Ts) ks)
are-below Ts G ks n d u w = record {
  each = λ j l. (let k : j < length ks = omega (arith, l, length-map ks (tree_at Ts)) in subst (IsPartOfOption G) (sym (at-map Ts ks j k)) (w.parts j k));
  different = λ i j l m e. (
      let p : i < length ks = omega (arith, l, length-map ks (tree_at Ts)) in
      let q : j < length ks = omega (arith, m, length-map ks (tree_at Ts)) in
      same-place ks u i j p q (d _ _ (w.ids i p) (w.ids j q) (sym (at-map Ts ks i p) ∙ e ∙ at-map Ts ks j q))
      );
}

pub follow-end : (Ts : List Tree) (G : Tree) (ks : List ℕ) (n m : ℕ) → AreDistinct Ts → IsDistinct nat_eq ks → IsFollowing Ts G ks n → length ks ≤ n → m ≡ length ks → HasBelow G m
follow-end Ts G ks n m d u w l e = (
  map (tree_at Ts) ks,
  are-below Ts G ks n d u w,
  λ X b. (let i = in-all Ts G ks n w l b.0 X b.2.0 (w.starts b.0 b.1) b.2.1 in (i.0, omega (arith, i.1, length-map ks (tree_at Ts)), at-map Ts ks i.0 i.1 ∙ sym i.2)),
  length-map ks (tree_at Ts) ∙ sym e,
)

pub follow-over : (Ts : List Tree) (G : Tree) (ks : List ℕ) (n limit : ℕ) → AreDistinct Ts → IsDistinct nat_eq ks → IsFollowing Ts G ks n → limit < length ks → HasMoreBelow G limit
follow-over Ts G ks n limit d u w l = (map (tree_at Ts) ks, are-below Ts G ks n d u w, omega (arith, l, length-map ks (tree_at Ts)))

-- not more ids than the store has
pub ids-few : (Ts : List Tree) (ks : List ℕ) → IsDistinct nat_eq ks → AreIds Ts ks → length ks ≤ length Ts
ids-few Ts ks u a = fewer (length ks) (length Ts) (λ j i. get_or ks j 0 ≡ i) (λ j l. (get_or ks j 0, a j l, refl)) (λ i j k l m p q. same-place ks u i j l m (p ∙ sym q))

-- the parts of one listed form
pub parts-one : (Ts : List Tree) (a n : ℕ) → HasBelow (listed Ts (a ∷ []) []) n → HasParts (tree_at Ts a) n
parts-one Ts a n h = (
  h.0,
  record { each = λ j l. to (tree_at h.0 j) (h.1.each j l); different = h.1.different },
  λ X p. h.2 X (tree_at Ts a, inl (inl refl), p),
  h.3,
)
  where
    is : (H : Tree) → IsOption (listed Ts (a ∷ []) []) H → H ≡ tree_at Ts a
    is H (inl (inl e)) = e
    is H (inl (inr x)) = absurd x
    is H (inr x) = absurd x

    to : (X : Tree) → IsPartOfOption (listed Ts (a ∷ []) []) X → IsPart (tree_at Ts a) X
    to X b = (subst (λ t. IsFollower t X) (is b.0 b.1) b.2.0, b.2.1)

-- a form, and what is below it
pub option-listed : (Ts : List Tree) (ls rs : List ℕ) (X : Tree) → IsOption (form Ts ls rs) X → IsOption (listed Ts ls rs) X
option-listed Ts ls rs X (inl h) = inl (sorted-has (pick Ts ls) X h)
option-listed Ts ls rs X (inr h) = inr (sorted-has (pick Ts rs) X h)

pub listed-option : (Ts : List Tree) (ls rs : List ℕ) (X : Tree) → IsOption (listed Ts ls rs) X → IsOption (form Ts ls rs) X
listed-option Ts ls rs X (inl h) = inl (has-sorted (pick Ts ls) X h)
listed-option Ts ls rs X (inr h) = inr (has-sorted (pick Ts rs) X h)

follower-size : (G X : Tree) → IsFollower G X → size X ≤ size G
follower-size _ _ (itself G) = omega arith
follower-size _ _ (further G H X o f) = omega (arith, size-option G H o, follower-size H X f)

below-part : (Ts : List Tree) (ls rs : List ℕ) (X : Tree) → IsPartOfOption (listed Ts ls rs) X → IsPart (form Ts ls rs) X
below-part Ts ls rs X b = (further _ b.0 X (listed-option Ts ls rs b.0 b.1) b.2.0, b.2.1)

below-other : (Ts : List Tree) (ls rs : List ℕ) (X : Tree) → IsPartOfOption (listed Ts ls rs) X → form Ts ls rs ≡ X → ⊥
below-other Ts ls rs X b e = omega (
  arith,
  follower-size b.0 X b.2.0,
  size-option (form Ts ls rs) b.0 (listed-option Ts ls rs b.0 b.1),
  ap size e,
)

with-itself : (Ts : List Tree) (ls rs : List ℕ) (Xs : List Tree) → (IsNumberTree (form Ts ls rs) → ⊥) → ArePartsOfOptions (listed Ts ls rs) Xs → AreParts (form Ts ls rs) (form Ts ls rs ∷ Xs)
with-itself Ts ls rs Xs n b = record { each = each; different = different }
  where
    each : (j : ℕ) → j < length (form Ts ls rs ∷ Xs) → IsPart (form Ts ls rs) (tree_at (form Ts ls rs ∷ Xs) j)
    each zero l = (itself _, n)
    each (suc j) l = below-part Ts ls rs (tree_at Xs j) (b.each j (omega (arith, l)))

    different : AreDistinct (form Ts ls rs ∷ Xs)
    different zero zero k l e = refl
    different zero (suc j) k l e = absurd (below-other Ts ls rs (tree_at Xs j) (b.each j (omega (arith, l))) e)
    different (suc i) zero k l e = absurd (below-other Ts ls rs (tree_at Xs i) (b.each i (omega (arith, k))) (sym e))
    different (suc i) (suc j) k l e = ap suc (b.different i j (omega (arith, k)) (omega (arith, l)) e)

pub more-over : (Ts : List Tree) (ls rs : List ℕ) (limit : ℕ) → (IsNumberTree (form Ts ls rs) → ⊥) → HasMoreBelow (listed Ts ls rs) limit → HasMoreParts (form Ts ls rs) limit
more-over Ts ls rs limit n h = (form Ts ls rs ∷ h.0, with-itself Ts ls rs h.0 n h.1, omega (arith, h.2))

pub more-counted : (Ts : List Tree) (ls rs : List ℕ) (count limit : ℕ) → (IsNumberTree (form Ts ls rs) → ⊥) → HasBelow (listed Ts ls rs) count → limit ≤ count → HasMoreParts (form Ts ls rs) limit
more-counted Ts ls rs count limit n h l = (form Ts ls rs ∷ h.0, with-itself Ts ls rs h.0 n h.1, omega (arith, h.3, l))

pub few-counted : (Ts : List Tree) (ls rs : List ℕ) (count limit : ℕ) → HasBelow (listed Ts ls rs) count → count < limit → HasMoreParts (form Ts ls rs) limit → ⊥
few-counted Ts ls rs count limit h l m = omega (
  arith,
  l,
  m.2,
  h.3,
  fewer (length m.0) (suc (length h.0)) (λ j i. tree_at m.0 j ≡ tree_at (form Ts ls rs ∷ h.0) i)
      (λ j k. (let p = m.1.each j k in place (tree_at m.0 j) p.0 p.1))
      (λ i j k p q a b. m.1.different i j p q (a ∙ sym b)),
)
  where
    at : (X : Tree) → (G : Tree) → G ≡ form Ts ls rs → IsFollower G X → (IsNumberTree X → ⊥) → (i : ℕ) × (i < suc (length h.0)) × (X ≡ tree_at (form Ts ls rs ∷ h.0) i)
    at _ _ e (itself G) n = (0, omega arith, e)
    at _ _ e (further G H X o f) n = let r = h.2 X (H, option-listed Ts ls rs H (subst (λ t. IsOption t H) e o), (f, n)) in (suc r.0, omega (arith, r.1), sym r.2)

    place : (X : Tree) → IsFollower (form Ts ls rs) X → (IsNumberTree X → ⊥) → (i : ℕ) × (i < suc (length h.0)) × (X ≡ tree_at (form Ts ls rs ∷ h.0) i)
    place X f n = at X (form Ts ls rs) refl f n
