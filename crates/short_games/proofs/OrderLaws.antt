-- The order has a test, is as the book tells, reflexive and transitive.
use Rattle.std.proofs.Common.{ℕ, zero, suc, ◌+◌, ◌<◌, ◌≤◌, ◌≡◌, ◌⊎◌, Bool, true, false, ◌&&◌, not, arith, refl, inl, inr, subst}
use Rattle.std.proofs.lemmas.Bool.{and_parts, and_cases, both_ways, cases_Bool, not-true, not-false, false_from_ne_true, true≢false}
use Rattle.short_games.specs.Tree.{Tree, Trees, node, none, more, left, right, Has, size, sizes}
use Rattle.short_games.specs.Parts.{IsOption}
use Rattle.short_games.specs.Order.{◌≤ᵍ◌, ◌⧏ᵍ◌, ◌≡ᵍ◌, at_most, by_left, by_right, NoneBeats}

pub size-node : (ls rs : Trees) → size (node ls rs) ≡ suc (sizes ls + sizes rs)
unfolding size
size-node ls rs = refl

pub sizes-has : (Gs : Trees) (G : Tree) → Has Gs G → size G ≤ sizes Gs
unfolding size
sizes-has none G h = elim h [ ]
sizes-has (more H Hs) G (inl e) = rw e (omega arith)
sizes-has (more H Hs) G (inr h) = omega (arith, sizes-has Hs G h)

pub size-left : (G GL : Tree) → Has (left G) GL → size GL < size G
size-left (node ls rs) GL h = omega (arith, size-node ls rs, sizes-has ls GL h)

pub size-right : (G GR : Tree) → Has (right G) GR → size GR < size G
size-right (node ls rs) GR h = omega (arith, size-node ls rs, sizes-has rs GR h)

pub size-option : (G X : Tree) → IsOption G X → size X < size G
size-option G X o = elim o [ inl l ↦ size-left G X l | inr r ↦ size-right G X r ]

pub size-pos : (G : Tree) → 0 < size G
size-pos (node ls rs) = omega (arith, size-node ls rs)

-- what holds of each thing of which it holds where it holds of all that measure less, holds of all
module _ {A : Type 0} (measure : A → ℕ) (P : A → Type 0) (step : (a : A) → ((b : A) → measure b < measure a → P b) → P a) where
  measured_within : (n : ℕ) (a : A) → measure a < n → P a
  measured_within zero a l = absurd (omega (arith, l))
  measured_within (suc n) a l = step a (λ b k. measured_within n b (omega (arith, k, l)))

  pub by_measure : (a : A) → P a
  by_measure a = measured_within (suc (measure a)) a (omega arith)

pub by_sizes : (P : Tree → Tree → Type 0) → ((G H : Tree) → ((A B : Tree) → size A + size B < size G + size H → P A B) → P G H) → (G H : Tree) → P G H
by_sizes P step G H = by_measure {A = Tree × Tree} (λ p. size p.0 + size p.1) (λ p. P p.0 p.1) (λ p ih. step p.0 p.1 (λ A B l. ih (A, B) l)) (G, H)

pub by_three_sizes : (P : Tree → Tree → Tree → Type 0)
    → ((G H K : Tree) → ((A B C : Tree) → size A + size B + size C < size G + size H + size K → P A B C) → P G H K) → (G H K : Tree) → P G H K
by_three_sizes P step G H K =
    by_measure {A = Tree × Tree × Tree} (λ p. size p.0 + size p.1 + size p.2) (λ p. P p.0 p.1 p.2)
    (λ p ih. step p.0 p.1 p.2 (λ A B C l. ih (A, B, C) l)) (G, H, K)

-- no tree of the list passes the test
abbrev pub no_one : (Tree → Bool) → Trees → Bool
no_one test none = true
no_one test (more H Hs) = not (test H) && no_one test Hs

-- no tree of the list passes the test, as a test and as a fact
pub no_one-has : (p : Tree → Bool) (Gs : Trees) → no_one p Gs ≡ true → (G : Tree) → Has Gs G → p G ≡ true → ⊥
no_one-has p none e G h = elim h [ ]
no_one-has p (more H Hs) e G (inl i) = λ y. both_ways _ (not-true _ (and_parts _ _ e).0) (rw i at y)
no_one-has p (more H Hs) e G (inr h) = no_one-has p Hs (and_parts _ _ e).1 G h

pub none-passes : (p : Tree → Bool) (Gs : Trees) → no_one p Gs ≡ true → (G : Tree) → Has Gs G → p G ≡ false
none-passes p Gs e G h = false_from_ne_true (p G) (no_one-has p Gs e G h)

-- some tree of a list passes a test that not none passes
pub some_one : (p : Tree → Bool) (Gs : Trees) → no_one p Gs ≡ false → (G : Tree) × Has Gs G × (p G ≡ true)
some_one p none e = absurd (true≢false e)
some_one p (more G Gs) e = elim (and_cases _ _ e) [
  | inl f ↦ (G, inl refl, not-false (p G) f)
  | inr f ↦ (let r = some_one p Gs f in (r.0, inr r.1, r.2))
]

-- A test for the order. Each step goes to an option of one of the two, so as many steps as the two have nodes are enough
unfoldable pub le_within : ℕ → Tree → Tree → Bool
le_within zero G H = true
le_within (suc n) G H = no_one (λ GL. le_within n H GL) (left G) && no_one (λ HR. le_within n HR G) (right H)

unfoldable pub le : Tree → Tree → Bool
le G H = le_within (size G + size H) G H

mutual
  unfolding le_within

  true_within : (n : ℕ) (G H : Tree) → size G + size H ≤ n → le_within n G H ≡ true → G ≤ᵍ H
  true_within zero G H a e = absurd (omega (arith, a, size-pos G))
  true_within (suc n) G H a e = let both = and_parts _ _ e in
      at_most (λ L l. false_within n H L (omega (arith, a, size-left G L l)) (none-passes (λ GL. le_within n H GL) (left G) both.0 L l)) (λ R r. false_within n R G (omega (arith, a, size-right H R r)) (none-passes (λ HR. le_within n HR G) (right H) both.1 R r))

  false_within : (n : ℕ) (G H : Tree) → size G + size H ≤ n → le_within n G H ≡ false → H ⧏ᵍ G
  false_within zero G H a e = absurd (true≢false e)
  false_within (suc n) G H a e = elim (and_cases _ _ e) [
    | inl f ↦ (let r = some_one (λ GL. le_within n H GL) (left G) f in by_left r.0 r.1 (true_within n H r.0 (omega (arith, a, size-left G r.0 r.1)) r.2))
    | inr f ↦ (let r = some_one (λ HR. le_within n HR G) (right H) f in by_right r.0 r.1 (true_within n r.0 G (omega (arith, a, size-right H r.0 r.1)) r.2))
  ]

-- a game that is less or confused isn't at least
pub not-both : (G H : Tree) → G ≤ᵍ H → H ⧏ᵍ G → ⊥
not-both = by_sizes (λ G H. G ≤ᵍ H → H ⧏ᵍ G → ⊥) apart
  where
    apart : (G H : Tree) → ((A B : Tree) → size A + size B < size G + size H → A ≤ᵍ B → B ⧏ᵍ A → ⊥) → G ≤ᵍ H → H ⧏ᵍ G → ⊥
    apart G H ih (at_most f g) (by_left L l q) = ih H L (omega (arith, size-left G L l)) q (f L l)
    apart G H ih (at_most f g) (by_right R r q) = ih R G (omega (arith, size-right H R r)) q (g R r)

-- the test tells the order
pub from-test : (G H : Tree) → le G H ≡ true → G ≤ᵍ H
unfolding le
from-test G H = true_within (size G + size H) G H (omega arith)

pub by_test : (G H : Tree) → (G ≤ᵍ H) ⊎ (H ⧏ᵍ G)
unfolding le
by_test G H = elim (cases_Bool (le G H)) [ inl t ↦ inl (from-test G H t) | inr f ↦ inr (false_within (size G + size H) G H (omega arith) f) ]

pub to-test : (G H : Tree) → G ≤ᵍ H → le G H ≡ true
unfolding le
to-test G H p = elim (cases_Bool (le G H)) [ inl t ↦ t | inr f ↦ absurd (not-both G H p (false_within (size G + size H) G H (omega arith) f)) ]

-- where G is not at most H, an option shows it
pub not-le : (G H : Tree) → (G ≤ᵍ H → ⊥) → H ⧏ᵍ G
not-le G H h = elim (by_test G H) [ inl p ↦ absurd (h p) | inr q ↦ q ]

pub le-or_not : (G H : Tree) → (G ≤ᵍ H) ⊎ (G ≤ᵍ H → ⊥)
le-or_not G H = elim (by_test G H) [ inl p ↦ inl p | inr q ↦ inr (λ p. not-both G H p q) ]

-- what can be asked of each tree holds of none of a list, or of some
pub none-or_some : (P : Tree → Type 0) → ((G : Tree) → P G ⊎ (P G → ⊥)) → (Gs : Trees) → ((G : Tree) → Has Gs G → P G → ⊥) ⊎ ((G : Tree) × Has Gs G × P G)
none-or_some P ask none = inl (λ G h. absurd h)
none-or_some P ask (more G Gs) = elim (ask G) [
  | inl p ↦ inr (G, inl refl, p)
  | inr f ↦ elim (none-or_some P ask Gs) [
    | inl g ↦ inl (λ K h p. elim h [ inl e ↦ f (subst P e p) | inr k ↦ g K k p ])
    | inr s ↦ inr (s.0, inr s.1, s.2)
  ]
]

pub le-out : (G H : Tree) → G ≤ᵍ H → NoneBeats G H
le-out G H (at_most f g) = record { from_left = λ L l p. not-both H L p (f L l); from_right = λ R r p. not-both R G p (g R r) }

pub le-in : (G H : Tree) → NoneBeats G H → G ≤ᵍ H
le-in G H b = at_most (λ L l. not-le H L (b.from_left L l)) (λ R r. not-le R G (b.from_right R r))

-- a game is at most itself
pub le-refl : (G : Tree) → G ≤ᵍ G
le-refl = by_measure size (λ G. G ≤ᵍ G) (λ G ih. le-in G G record {
  from_left = λ K k e. (le-out G K e).from_left K k (ih K (size-left G K k));
  from_right = λ K k e. (le-out K G e).from_right K k (ih K (size-right G K k));
})

pub le-trans : (G H K : Tree) → G ≤ᵍ H → H ≤ᵍ K → G ≤ᵍ K
le-trans = by_three_sizes (λ G H K. G ≤ᵍ H → H ≤ᵍ K → G ≤ᵍ K) (λ G H K ih p q. le-in G K record {
  from_left = λ L l e. (le-out G H p).from_left L l (ih H K L (omega (arith, size-left G L l)) q e);
  from_right = λ R r e. (le-out H K q).from_right R r (ih R G H (omega (arith, size-right K R r)) e p);
})

-- a side's own options, the other side's, and the order that the side would have: the laws are the same for both
pub record IsSide (near far : Tree → Trees) (Le : Tree → Tree → Type 0) : Type 0 where
  pub out_near : (G H L : Tree) → Le G H → Has (near G) L → Le H L → ⊥
  pub out_far : (G H R : Tree) → Le G H → Has (far H) R → Le R G → ⊥
  pub build : (G H : Tree) → ((L : Tree) → Has (near G) L → Le H L → ⊥) → ((R : Tree) → Has (far H) R → Le R G → ⊥) → Le G H
  pub itself : (G : Tree) → Le G G
  pub trans : (G H K : Tree) → Le G H → Le H K → Le G K

pub left_side : IsSide left right (λ G H. G ≤ᵍ H)
left_side = record {
  out_near = λ G H L p. (le-out G H p).from_left L;
  out_far = λ G H R p. (le-out G H p).from_right R;
  build = λ G H f g. le-in G H record { from_left = f; from_right = g };
  itself = le-refl;
  trans = le-trans;
}

pub right_side : IsSide right left (λ G H. H ≤ᵍ G)
right_side = record {
  out_near = λ G H L p. (le-out H G p).from_right L;
  out_far = λ G H R p. (le-out H G p).from_left R;
  build = λ G H f g. le-in H G record { from_left = g; from_right = f };
  itself = le-refl;
  trans = λ G H K p q. le-trans K H G q p;
}

-- equal as games
pub same-refl : (G : Tree) → G ≡ᵍ G
same-refl G = (le-refl G, le-refl G)

pub same-path : (G H : Tree) → G ≡ H → G ≡ᵍ H
same-path G H e = subst (λ t. G ≡ᵍ t) e (same-refl G)

pub same-sym : (G H : Tree) → G ≡ᵍ H → H ≡ᵍ G
same-sym G H e = (e.1, e.0)

pub same-trans : (G H K : Tree) → G ≡ᵍ H → H ≡ᵍ K → G ≡ᵍ K
same-trans G H K e f = (le-trans G H K e.0 f.0, le-trans K H G f.1 e.1)
