-- A reduced form in the order of its ids is the canonical tree.
use Rattle.std.proofs.Common.{ℕ, ◌+◌, ◌<◌, ◌≤◌, ◌≡◌, List, length, arith, refl, sym, ◌∙◌, inl, inr, subst, ℤ, pos}
use Rattle.short_games.specs.Tree.{Tree, Has, tree_at, AreDistinct}
use Rattle.short_games.specs.Order.{◌≤ᵍ◌, ◌≡ᵍ◌}
use Rattle.short_games.specs.Number.{IsNumberTree, num, IsNumber, number_tree}
use Rattle.short_games.specs.TextOrder.{IsCanonicalTree, IsCanonicalFor}
use Rattle.short_games.specs.inner.Reduction.{KeepsLeft, KeepsRight}
use Rattle.std.specs.Prelude.{Option, Some, None, Bool, IsTrue, ◌↔◌, unsigned_abs, ◌^◌}
use Rattle.short_games.specs.Threshold.{IsFloor, IsCeiling}
use Rattle.std.proofs.lemmas.Int.{ints}
use Rattle.short_games.proofs.AvoidanceLaws.{cheap_left, cheap_right}
use Rattle.short_games.proofs.TextOrderLaws.{sorted-has, has-sorted}
use Rattle.short_games.proofs.OrderLaws.{le-trans, le-refl, same-trans}
use Rattle.short_games.proofs.FormLaws.{by_better}
use Rattle.short_games.proofs.ReductionLaws.{form-canonical, number-kept_left, number-kept_right, number-canonical, canonical-same}
use Rattle.game_store.specs.Meaning.{pick, listed, form, AreIds, AreCanonical, IsAscending, IsIdOf, Extends}
use Rattle.game_store.proofs.EntryLaws.{has-pick}
use Rattle.game_canon.specs.declared.side.Side.TheVariants.{Left, Right}
use Rattle.game_canon.specs.inner.Sides.{IsReducedForm, IsStart, StartsWith, AreBest, Comes}
use Rattle.game_canon.specs.declared.games.Unstored.{Unstored}
use Rattle.game_canon.specs.declared.games.Games.{Games}
use Rattle.game_canon.specs.inner.Games.{with_unstored, beside, IsUnstored, IsBeside, IsKnown}
use Rattle.game_canon.specs.Comparisons.{AreRight}
use Rattle.game_canon.specs.inner.Comparisons.{recalled}
use Rattle.dyadic_num.specs.Units.{IsInBounds}
use Rattle.short_games.specs.Parts.{HasMoreParts, IsOption, IsNumberOf}
use Rattle.game_canon.specs.Outcomes.{IsCanonicalId, AreOptionsWithin}
use Rattle.game_canon.specs.inner.Bounds.{IsNear}
use Rattle.game_canon.proofs.NumberSizeLaws.{form-number, own-number}
use Rattle.game_canon.proofs.PartLaws.{number-no_more, listed-option, option-listed}
use Rattle.game_canon.proofs.GameLaws.{trees-extend, of-beside}
use Rattle.game_canon.proofs.ReductionLaws.{IsReducing, best-same}

-- the order of the options doesn't matter
pub listed-form : (Ts : List Tree) (ls rs : List ℕ) → listed Ts ls rs ≡ᵍ form Ts ls rs
listed-form Ts ls rs = (
  by_better _ _ (λ L l. (L, has-sorted (pick Ts ls) L l, le-refl L)) (λ S s. (S, sorted-has (pick Ts rs) S s, le-refl S)),
  by_better _ _ (λ L l. (L, sorted-has (pick Ts ls) L l, le-refl L)) (λ S s. (S, has-sorted (pick Ts rs) S s, le-refl S)),
)

-- the form of the ids in order
made : (Ts : List Tree) (G : Tree) (ms ns : List ℕ) → AreCanonical Ts → (IsNumber G → ⊥) → IsReducedForm Ts G ms ns → IsCanonicalFor G (form Ts ms ns)
made Ts G ms ns c n r = record { canonical = f.canonical; under = le-trans _ _ _ r.same.0 f.under; over = le-trans _ _ _ f.over r.same.1 }
  where
    no_number : IsNumber (listed Ts ms ns) → ⊥
    no_number k = n (k.0, k.1, le-trans _ _ _ r.same.0 k.2, le-trans _ _ _ k.3 r.same.1)

    keeps_left : (L : Tree) → Has (pick Ts ms) L → KeepsLeft (listed Ts ms ns) L
    keeps_left L h = let q = has-pick Ts ms L h in elim (r.left_kept q.0 q.1) [
      | inl k ↦ (let e = q.2 ∙ k.2 in subst (KeepsLeft (listed Ts ms ns)) (sym e) (number-kept_left (listed Ts ms ns) no_number r.left_free k.0 k.1 (subst (Has (pick Ts ms)) e h)))
      | inr k ↦ subst (KeepsLeft (listed Ts ms ns)) (sym q.2) (λ R x y. k R x (le-trans R _ G y r.same.1))
    ]

    keeps_right : (R : Tree) → Has (pick Ts ns) R → KeepsRight (listed Ts ms ns) R
    keeps_right R h = let q = has-pick Ts ns R h in elim (r.right_kept q.0 q.1) [
      | inl k ↦ (let e = q.2 ∙ k.2 in subst (KeepsRight (listed Ts ms ns)) (sym e) (number-kept_right (listed Ts ms ns) no_number (λ A B a b l. sym (r.right_free B A b a l)) k.0 k.1 (subst (Has (pick Ts ns)) e h)))
      | inr k ↦ subst (KeepsRight (listed Ts ms ns)) (sym q.2) (λ L x y. k L x (le-trans G _ L r.same.0 y))
    ]

    canonical_at : (is : List ℕ) → AreIds Ts is → (X : Tree) → Has (pick Ts is) X → IsCanonicalTree X
    canonical_at is a X h = let q = has-pick Ts is X h in subst IsCanonicalTree (sym q.2) (c _ (a q.0 q.1))

    f : IsCanonicalFor (listed Ts ms ns) (form Ts ms ns)
    f = form-canonical (pick Ts ms) (pick Ts ns) (canonical_at ms r.left_ids) (canonical_at ns r.right_ids) r.left_free (λ A B a b l. sym (r.right_free B A b a l)) keeps_left keeps_right

pub made-no_number : (G C : Tree) → (IsNumber G → ⊥) → IsCanonicalFor G C → IsNumberTree C → ⊥
made-no_number G C n c k = n (k.0, k.1, le-trans _ _ _ c.under (subst (λ t. t ≤ᵍ num k.0 k.1) (sym k.2) (le-refl _)), le-trans _ _ _ (subst (λ t. num k.0 k.1 ≤ᵍ t) (sym k.2) (le-refl _)) c.over)

pub made-id : (Ts : List Tree) (G C : Tree) (id : ℕ) → IsCanonicalFor G C → IsIdOf Ts C id → IsCanonicalId Ts G id
made-id Ts G C id c i = (i.0, subst (IsCanonicalFor G) (sym i.1) c)

pub made-number : (Ts : List Tree) (G : Tree) (x : ℤ) (id : ℕ) → IsInBounds x × (G ≤ᵍ number_tree x) × (number_tree x ≤ᵍ G) × IsNear G x → IsIdOf Ts (number_tree x) id → IsCanonicalId Ts G id
made-number Ts G x id e i = made-id Ts G (number_tree x) id record { canonical = number-canonical 60 x; under = e.1; over = e.2 } i

-- a game that is no number has a move for each side
pub some-left : (Ts : List Tree) (vs ws : List ℕ) → (IsNumber (form Ts vs ws) → ⊥) → 0 < length vs
some-left Ts vs ws n =
    let l = cheap_left (form Ts vs ws) n 0 (pos 1) (omega (arith, ints)) in
    let r = has-pick Ts vs l.0 (sorted-has (pick Ts vs) l.0 l.1) in omega (arith, r.1)

pub some-right : (Ts : List Tree) (vs ws : List ℕ) → (IsNumber (form Ts vs ws) → ⊥) → 0 < length ws
some-right Ts vs ws n =
    let l = cheap_right (form Ts vs ws) n 0 (pos 1) (omega (arith, ints)) in
    let r = has-pick Ts ws l.0 (sorted-has (pick Ts ws) l.0 l.1) in omega (arith, r.1)

pub made-not : (G C : Tree) → (IsNumber G → ⊥) → IsCanonicalFor G C → IsNumber C → ⊥
made-not G C n c k = n (k.0, k.1, le-trans _ _ _ c.under k.2, le-trans _ _ _ k.3 c.over)

-- what the store asks of the lists
pub record IsReady (Ts : List Tree) (G : Tree) (vs ws : List ℕ) : Type 0 where
  pub left_ids : AreIds Ts vs
  pub right_ids : AreIds Ts ws
  pub left_ascends : IsAscending vs
  pub right_ascends : IsAscending ws
  pub left_some : 0 < length vs
  pub right_some : 0 < length ws
  pub canonical : IsCanonicalFor G (form Ts vs ws)
  pub no_number : IsNumberTree (form Ts vs ws) → ⊥

pub ready : (Ts : List Tree) (G : Tree) (ms ns vs ws : List ℕ) → AreCanonical Ts → (IsNumber G → ⊥) → IsReducedForm Ts G ms ns → vs ≡ ms → ws ≡ ns → IsReady Ts G vs ws
ready Ts G ms ns vs ws c n r d e = subst (λ z. IsReady Ts G z ws) (sym d) (subst (λ z. IsReady Ts G ms z) (sym e) record {
  left_ids = r.left_ids;
  right_ids = r.right_ids;
  left_ascends = r.left_ascends;
  right_ascends = r.right_ascends;
  left_some = some-left Ts ms ns (made-not G (form Ts ms ns) n m);
  right_some = some-right Ts ms ns (made-not G (form Ts ms ns) n m);
  canonical = m;
  no_number = made-no_number G (form Ts ms ns) n m;
})
  where
    m : IsCanonicalFor G (form Ts ms ns)
    m = made Ts G ms ns c n r

-- the form that the reduction starts with
pub starts : (Ts : List Tree) (ls rs ms ns : List ℕ) → AreBest Left Ts ls ms → IsAscending ms → AreBest Right Ts rs ns → IsAscending ns
    → StartsWith Ts ls rs ms ns
starts Ts ls rs ms ns a u b v = record {
  start = record { left_ids = a.ids; right_ids = b.ids; left_ascends = u; right_ascends = v; left_free = a.free; right_free = b.free };
  same = same-trans _ (listed Ts ms rs) _ (best-same Left Ts ls rs ms a)
      (same-trans _ (listed Ts ms ns) _ (best-same Right Ts rs ms ns b) (listed-form Ts ms ns));
  among = λ X o. elim (option-listed Ts ms ns X o) [ inl h ↦ inl (a.among X h) | inr h ↦ inr (b.among X h) ];
}

pub start-as : (Ts Us : List Tree) (ms ns vs ws : List ℕ) → Us ≡ Ts → vs ≡ ms → ws ≡ ns → IsStart Ts ms ns → IsStart Us vs ws
start-as Ts Us ms ns vs ws e p q s = subst (λ z. IsStart z vs ws) (sym e) (subst (λ z. IsStart Ts z ws) (sym p) (subst (λ z. IsStart Ts ms z) (sym q) s))

pub is-unstored : (Ts : List Tree) (G : Tree) (u : Unstored) (f c : ℤ) → G ≡ᵍ form Ts u.left.now u.right.now → (IsNumber G → ⊥) → IsStart Ts u.left.now u.right.now → IsFloor 60 G f → IsCeiling 60 G c → u.standing.now.floor ≡ f → u.standing.now.ceiling ≡ c → IsUnstored Ts u
is-unstored Ts G u f c e n s a b p q = record {
  left_ids = s.left_ids;
  right_ids = s.right_ids;
  left_ascends = s.left_ascends;
  right_ascends = s.right_ascends;
  left_some = some-left Ts u.left.now u.right.now m;
  right_some = some-right Ts u.left.now u.right.now m;
  no_number = m;
  floor_is = subst (IsFloor 60 (form Ts u.left.now u.right.now)) (sym p) (λ d z h cell. (λ y. (a d z h cell).0 (le-trans _ _ _ y e.1), λ l. le-trans _ _ _ ((a d z h cell).1 l) e.0));
  ceiling_is = subst (IsCeiling 60 (form Ts u.left.now u.right.now)) (sym q) (λ d z h cell. (λ y. (b d z h cell).0 (le-trans _ _ _ e.0 y), λ l. le-trans _ _ _ e.1 ((b d z h cell).1 l)));
}
  where
    m : IsNumber (form Ts u.left.now u.right.now) → ⊥
    m k = n (k.0, k.1, le-trans _ _ _ e.0 k.2, le-trans _ _ _ k.3 e.1)

-- comparisons that are right stay so as the store grows
pub right-grown : (Ts Us : List Tree) (known : ℕ → ℕ → Option Bool) → Extends Ts Us → AreRight Ts known → AreRight Us known
right-grown Ts Us known x r a b answer e = let s = r a b answer e in (
  omega (arith, s.0, x.longer),
  omega (arith, s.1, x.longer),
  subst (λ t. IsTrue answer ↔ (t ≤ᵍ tree_at Us b)) (sym (x.same a s.0)) (subst (λ t. IsTrue answer ↔ (tree_at Ts a ≤ᵍ t)) (sym (x.same b s.1)) s.2),
)

-- what was found out on the store's games holds beside a form
pub right-beside : (Ts : List Tree) (o : Option Unstored) (known : ℕ → ℕ → Option Bool) → AreRight Ts known → AreRight (with_unstored Ts o) known
right-beside Ts o known r = right-grown Ts (with_unstored Ts o) known (trees-extend Ts o) r

-- nothing is remembered
pub right-empty : (Ts : List Tree) (known : ℕ → ℕ → Option Bool) → ((a b : ℕ) → known a b ≡ None) → AreRight Ts known
right-empty Ts known e a b answer k = absurd (none-some answer (sym (e a b) ∙ k))
  where
    none-some : (answer : Bool) → None ≡ Some answer → ⊥
    none-some answer k = cc

pub reducing-start : (Ts : List Tree) (o : Option Unstored) (u : Unstored) (ls rs ms ns : List ℕ) → o ≡ Some u → u.left.now ≡ ls → u.right.now ≡ rs → ms ≡ ls → ns ≡ rs → IsStart Ts ls rs → IsReducing Ts (tree_at (with_unstored Ts o) (length Ts)) ms ns
reducing-start Ts o u ls rs ms ns e p q i j s = subst (λ z. IsReducing Ts (tree_at (with_unstored Ts o) (length Ts)) z ns) (sym i) (subst (λ z. IsReducing Ts (tree_at (with_unstored Ts o) (length Ts)) ls z) (sym j) record {
  left_ids = s.left_ids;
  right_ids = s.right_ids;
  left_ascends = s.left_ascends;
  right_ascends = s.right_ascends;
  same = of-beside Ts o u (length Ts) (λ t. t ≡ᵍ listed Ts ls rs) e refl (subst (λ z. form Ts z u.right.now ≡ᵍ listed Ts ls rs) (sym p) (subst (λ z. form Ts ls z ≡ᵍ listed Ts ls rs) (sym q) ((listed-form Ts ls rs).1, (listed-form Ts ls rs).0)));
  left_free = s.left_free;
  right_free = s.right_free;
  comes = of-beside Ts o u (length Ts) (λ t. (X : Tree) → IsOption (listed Ts ls rs) X → Comes t X) e refl (subst (λ z. (X : Tree) → IsOption (listed Ts ls rs) X → Comes (form Ts z u.right.now) X) (sym p) (subst (λ z. (X : Tree) → IsOption (listed Ts ls rs) X → Comes (form Ts ls z) X) (sym q) (λ X x. (X, listed-option Ts ls rs X x, inl refl))));
})

-- of the form beside the store as of one equal to it
pub reduced-of : (Ts : List Tree) (G H : Tree) (ms ns : List ℕ) → G ≡ᵍ H → ((X : Tree) → IsOption H X → IsOption G X) → IsReducedForm Ts H ms ns → IsReducedForm Ts G ms ns
reduced-of Ts G H ms ns e among r = record {
  left_ids = r.left_ids;
  right_ids = r.right_ids;
  left_ascends = r.left_ascends;
  right_ascends = r.right_ascends;
  same = same-trans _ _ _ e r.same;
  left_free = r.left_free;
  right_free = r.right_free;
  comes = λ X o. (let c = r.comes X o in (c.0, among c.0 c.1, c.2));
  left_kept = λ j l. elim (r.left_kept j l) [ inl k ↦ inl k | inr k ↦ inr (λ A a y. k A a (le-trans A G H y e.0)) ];
  right_kept = λ j l. elim (r.right_kept j l) [ inl k ↦ inl k | inr k ↦ inr (λ A a y. k A a (le-trans H G A e.1 y)) ];
}

module _ (Ts : List Tree) (g : Games) (u : Unstored) (G : Tree) (ms ns : List ℕ) (e : g.store.now ≡ Ts) (i : g.unstored ≡ Some u) (p : u.left.now ≡ ms) (q : u.right.now ≡ ns) (same : G ≡ᵍ form Ts ms ns) (among : (X : Tree) → IsOption (form Ts ms ns) X → IsOption G X) where
  same_form : G ≡ᵍ form Ts u.left.now u.right.now
  same_form = subst (λ z. G ≡ᵍ form Ts z u.right.now) (sym p) (subst (λ z. G ≡ᵍ form Ts ms z) (sym q) same)

  pub known-beside : (known : ℕ → ℕ → Option Bool) (f c : ℤ) → AreDistinct Ts → AreRight Ts known → AreRight Ts (recalled g.earlier.now) → (IsNumber G → ⊥) → IsStart Ts ms ns → IsFloor 60 G f → IsCeiling 60 G c → u.standing.now.floor ≡ f → u.standing.now.ceiling ≡ c → IsKnown g known
  known-beside known f c d r w n s a b x y = record {
    games_are = record {
      distinct = subst AreDistinct (sym e) d;
      beside = subst (λ o. IsBeside g.store.now o) (sym i) (subst (λ Us. IsUnstored Us u) (sym e) (is-unstored Ts G u f c same_form n (subst (λ z. IsStart Ts z u.right.now) (sym p) (subst (λ z. IsStart Ts ms z) (sym q) s)) a b x y));
      earlier = subst (λ Us. AreRight Us (recalled g.earlier.now)) (sym e) w;
    };
    right = subst (λ Us. AreRight (with_unstored Us g.unstored) known) (sym e) (right-beside Ts g.unstored known r);
  }

  pub reduced-beside : (vs ws : List ℕ) → IsReducedForm g.store.now (beside g) vs ws → IsReducedForm Ts G vs ws
  reduced-beside vs ws h = reduced-of Ts G (tree_at (with_unstored Ts g.unstored) (length Ts)) vs ws (of-beside Ts g.unstored u (length Ts) (λ t. G ≡ᵍ t) i refl same_form)
      (of-beside Ts g.unstored u (length Ts) (λ t. (X : Tree) → IsOption t X → IsOption G X) i refl (subst (λ z. (X : Tree) → IsOption (form Ts z u.right.now) X → IsOption G X) (sym p) (subst (λ z. (X : Tree) → IsOption (form Ts ms z) X → IsOption G X) (sym q) among)))
      (subst (λ Us. IsReducedForm Us (tree_at (with_unstored Us g.unstored) (length Us)) vs ws) e h)

-- a form that has too many parts, and an id whose form hasn't
pub too-many : (G C : Tree) (limit : ℕ) → (IsNumber G → ⊥) → IsCanonicalFor G C → HasMoreParts C limit → (IsNumber G → ⊥) × ((D : Tree) → IsCanonicalFor G D → HasMoreParts D limit)
too-many G C limit n c h = (n, λ D d. subst (λ t. HasMoreParts t limit) (canonical-same C D c.canonical d.canonical (le-trans _ _ _ c.over d.under) (le-trans _ _ _ d.over c.under)) h)

pub id-few : (Ts : List Tree) (C : Tree) (id limit : ℕ) → IsIdOf Ts C id → (HasMoreParts C limit → ⊥) → HasMoreParts (tree_at Ts id) limit → ⊥
id-few Ts C id limit i n = subst (λ t. HasMoreParts t limit → ⊥) (sym i.1) n

pub number-few : (Ts : List Tree) (x : ℤ) (id limit : ℕ) → IsIdOf Ts (number_tree x) id → HasMoreParts (tree_at Ts id) limit → ⊥
number-few Ts x id limit i = id-few Ts (number_tree x) id limit i (number-no_more (number_tree x) limit (60, x, refl))

-- the numbers of the answer are no further out than those of the options, or by 1
pub number-near : (Ts : List Tree) (x : ℤ) (id : ℕ) (b : ℕ) → IsIdOf Ts (number_tree x) id → unsigned_abs x ≤ b + 2 ^ 60 → (y : ℤ) → IsNumberOf (tree_at Ts id) y → unsigned_abs y ≤ b + 2 ^ 60
number-near Ts x id b i l y n = subst (λ z. unsigned_abs z ≤ b + 2 ^ 60) (sym (own-number (tree_at Ts id) x y i.1 n)) l

pub form-near : (Ts Us : List Tree) (G : Tree) (ms ns vs ws : List ℕ) (id b : ℕ) → IsReducedForm Ts G ms ns → vs ≡ ms → ws ≡ ns → (IsNumberTree (form Ts vs ws) → ⊥) → IsIdOf Us (form Ts vs ws) id → AreOptionsWithin b G → (y : ℤ) → IsNumberOf (tree_at Us id) y → unsigned_abs y ≤ b + 2 ^ 60
form-near Ts Us G ms ns vs ws id b r d e n i w y o =
    let p = form-number G (form Ts vs ws) y n
    (subst (λ z. (X : Tree) → IsOption (form Ts z ws) X → Comes G X) (sym d) (subst (λ z. (X : Tree) → IsOption (form Ts ms z) X → Comes G X) (sym e) (λ X x. r.comes X (option-listed Ts ms ns X x))))
    (subst (λ t. IsNumberOf t y) i.1 o) in
    omega (arith, w p.0 p.1 y p.2)
