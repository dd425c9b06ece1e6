-- Texts are strictly and totally ordered, and lists of trees can be put in their order.
use Rattle.std.proofs.Common.{ℕ, ◌≡◌, ◌⊎◌, List, arith, Ordering, Less, Equal, Greater, refl, inl, inr, sym, ◌∙◌, ap, subst, Bool, true, false, cond}
use Rattle.std.specs.Ordering.{is_eq, is_lt, nat_cmp, ordering_reverse}
use Rattle.std.specs.Cmp.Lexicographic.{slice_cmp, bytes_decides, texts_ties}
use Rattle.std.proofs.lemmas.Bool.{true≢false}
use Rattle.std.proofs.lemmas.Bool.Decides.{nat_tests}
use Rattle.std.proofs.lemmas.Cmp.{same_from_slice_cmp, nat_list_cmp_total, tied_itself}
use Rattle.short_games.specs.Tree.{Tree, Trees, none, more, Has}
use Rattle.short_games.specs.Canonical.{Ascends}
use Rattle.short_games.specs.inner.Canonical.{IsStrictOrder}
use Rattle.short_games.specs.NumberText.{number_text}
use Rattle.short_games.specs.TextOrder.{tree_text, lesser_text, text_before, TextBefore, insert, sorted}
use Rattle.short_games.proofs.NumberTextLaws.{number_text-bytes, number_text-some, number_text-one_to_one}
use Rattle.short_games.proofs.CanonicalLaws.{rest-ascends}
use Rattle.short_games.proofs.TextLaws.{text-one_to_one}

-- trees of equal texts are one tree
pub tree_text-one_to_one : (G H : Tree) → tree_text G ≡ tree_text H → G ≡ H
unfolding tree_text
tree_text-one_to_one G H e = text-one_to_one number_text number_text-bytes number_text-some number_text-one_to_one G H e

-- the order of texts is that of their bytes
lesser-is : (xs ys : List ℕ) → is_lt (slice_cmp nat_cmp xs ys) ≡ lesser_text xs ys
unfolding lesser_text
lesser-is xs ys = same_from_slice_cmp nat_cmp is_lt lesser_text refl (λ _ _. refl) (λ _ _. refl)
    (λ x y xs ys o e. grind (arith, nat_tests)) xs ys _ refl

lesser-less : (xs ys : List ℕ) → lesser_text xs ys ≡ true → slice_cmp nat_cmp xs ys ≡ Less
lesser-less xs ys e = at (slice_cmp nat_cmp xs ys) (lesser-is xs ys ∙ e)
  where
    at : (o : Ordering) → is_lt o ≡ true → o ≡ Less
    at Less e = refl
    at Equal e = absurd (true≢false (sym e))
    at Greater e = absurd (true≢false (sym e))

less-lesser : (xs ys : List ℕ) → slice_cmp nat_cmp xs ys ≡ Less → lesser_text xs ys ≡ true
less-lesser xs ys e = sym (lesser-is xs ys) ∙ ap is_lt e

lesser-total : (xs ys : List ℕ) → (lesser_text xs ys ≡ true) ⊎ ((xs ≡ ys) ⊎ (lesser_text ys xs ≡ true))
lesser-total xs ys = at (slice_cmp nat_cmp xs ys) refl
  where
    at : (o : Ordering) → slice_cmp nat_cmp xs ys ≡ o → (lesser_text xs ys ≡ true) ⊎ ((xs ≡ ys) ⊎ (lesser_text ys xs ≡ true))
    at Less e = inl (less-lesser xs ys e)
    at Equal e = inr (inl ((bytes_decides xs ys).0 (texts_ties xs ys ∙ ap is_eq e)))
    at Greater e = inr (inr (less-lesser ys xs (nat_list_cmp_total.antisymm ys xs ∙ ap ordering_reverse e)))

pub text-order : IsStrictOrder TextBefore
unfolding text_before
text-order = record {
  irreflexive = λ G e. true≢false (ap is_lt (sym (lesser-less _ _ e) ∙ tied_itself nat_list_cmp_total (tree_text G)));
  transitive = λ G H K p q. less-lesser _ _ (nat_list_cmp_total.trans (tree_text G) (tree_text H) (tree_text K) (lesser-less _ _ p)
      (lesser-less _ _ q));
  total = λ G H. elim (lesser-total (tree_text G) (tree_text H)) [
    | inl a ↦ inl a
    | inr b ↦ elim b [ inl e ↦ inr (inl (tree_text-one_to_one G H e)) | inr a ↦ inr (inr a) ]
  ];
}

-- lists put in order, each tree once: a tree inserted in an ascending list
module _ (Before : Tree → Tree → Type 0) where
  pub record Inserted (A : Tree) (Gs Hs : Trees) : Type 0 where
    pub to : (X : Tree) → Has Hs X → (X ≡ A) ⊎ Has Gs X
    pub new : Has Hs A
    pub old : (X : Tree) → Has Gs X → Has Hs X
    pub ascends : Ascends Before Hs
    -- who stands before A and all of Gs stands before the first of Hs
    pub heads : (Z : Tree) → Before Z A → Ascends Before (more Z Gs) → Ascends Before (more Z Hs)

  pub into-none : (A : Tree) → Inserted A none (more A none)
  into-none A = record { to = λ X h. h; new = inl refl; old = λ X h. absurd h; ascends = tt; heads = λ Z b c. (b, tt) }

  pub in_front : (A G : Tree) (Gs : Trees) → Before A G → Ascends Before (more G Gs) → Inserted A (more G Gs) (more A (more G Gs))
  in_front A G Gs b a = record { to = λ X h. h; new = inl refl; old = λ X h. inr h; ascends = (b, a); heads = λ Z c d. (c, (b, a)) }

  pub there_already : (A G : Tree) (Gs : Trees) → A ≡ G → Ascends Before (more G Gs) → Inserted A (more G Gs) (more G Gs)
  there_already A G Gs e a = record { to = λ X h. inr h; new = inl e; old = λ X h. h; ascends = a; heads = λ Z c d. d }

  pub further_on : (A G : Tree) (Gs Hs : Trees) → Before G A → Ascends Before (more G Gs) → Inserted A Gs Hs → Inserted A (more G Gs) (more G Hs)
  further_on A G Gs Hs b a r = record {
    to = λ X h. elim h [ inl e ↦ inr (inl e) | inr x ↦ elim (r.to X x) [ inl e ↦ inl e | inr y ↦ inr (inr y) ] ];
    new = inr r.new;
    old = λ X h. elim h [ inl e ↦ inl e | inr x ↦ inr (r.old X x) ];
    ascends = r.heads G b a;
    heads = λ Z c d. (d.0, r.heads G b a);
  }

  pub record Sorted (Gs Hs : Trees) : Type 0 where
    pub to : (X : Tree) → Has Hs X → Has Gs X
    pub from : (X : Tree) → Has Gs X → Has Hs X
    pub ascends : Ascends Before Hs

  pub sorted-none : Sorted none none
  sorted-none = record { to = λ X h. h; from = λ X h. h; ascends = tt }

  pub sorted-more : (G : Tree) (Gs Hs Ks : Trees) → Sorted Gs Hs → Inserted G Hs Ks → Sorted (more G Gs) Ks
  sorted-more G Gs Hs Ks r i = record {
    to = λ X h. elim (i.to X h) [ inl e ↦ inl e | inr x ↦ inr (r.to X x) ];
    from = λ X h. elim h [ inl e ↦ subst (λ z. Has Ks z) (sym e) i.new | inr x ↦ i.old X (r.from X x) ];
    ascends = i.ascends;
  }

insert-is : (G : Tree) (Hs : Trees) → Ascends TextBefore Hs → Inserted TextBefore G Hs (insert G Hs)
unfolding insert
insert-is G none a = into-none TextBefore G
insert-is G (more H Hs) a = at (text_before G H) refl (text_before H G) refl (insert-is G Hs (rest-ascends TextBefore H Hs a))
  where
    at : (b : Bool) → text_before G H ≡ b → (c : Bool) → text_before H G ≡ c → Inserted TextBefore G Hs (insert G Hs)
        → Inserted TextBefore G (more H Hs) (cond b (more G (more H Hs)) (cond c (more H (insert G Hs)) (more H Hs)))
    at true p c q i = in_front TextBefore G H Hs p a
    at false p true q i = further_on TextBefore G H Hs (insert G Hs) q a i
    at false p false q i = there_already TextBefore G H Hs (elim (text-order.total G H) [
      | inl b ↦ absurd (true≢false (sym b ∙ p))
      | inr o ↦ elim o [ inl e ↦ e | inr b ↦ absurd (true≢false (sym b ∙ q)) ]
    ]) a

pub sorted-is : (Gs : Trees) → Sorted TextBefore Gs (sorted Gs)
unfolding sorted
sorted-is none = sorted-none TextBefore
sorted-is (more G Gs) = let r = sorted-is Gs in sorted-more TextBefore G Gs (sorted Gs) (insert G (sorted Gs)) r (insert-is G (sorted Gs) r.ascends)

pub sorted-ascends : (Gs : Trees) → Ascends TextBefore (sorted Gs)
sorted-ascends Gs = (sorted-is Gs).ascends

pub sorted-has : (Gs : Trees) (X : Tree) → Has (sorted Gs) X → Has Gs X
sorted-has Gs = (sorted-is Gs).to

pub has-sorted : (Gs : Trees) (X : Tree) → Has Gs X → Has (sorted Gs) X
has-sorted Gs = (sorted-is Gs).from
