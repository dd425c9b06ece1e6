-- Laws that hold of both sides, and of lists of ids.
use Rattle.std.proofs.Common.{ℕ, zero, suc, ◌+◌, ◌-◌, ◌<◌, ◌≤◌, ◌≡◌, Some, ◌⊎◌, List, [], ◌∷◌, ◌++◌, length, get_or, arith, refl, sym, ◌∙◌, inl, inr, ap, subst, take, drop, append_assoc}
use Rattle.std.proofs.lemmas.List.{append-nil, take_more, take-append-drop, length-append, length-take-le, length-drop}
use Rattle.short_games.specs.Tree.{Tree, Trees, more, Has, ◌then◌, size, sizes, tree_at}
use Rattle.short_games.proofs.OrderLaws.{le-refl, le-trans, le-out, none-or_some, le-or_not}
use Rattle.short_games.proofs.TextOrderLaws.{has-sorted}
use Rattle.short_games.proofs.SumLaws.{then-has, has-then_left, has-then_right}
use Rattle.game_store.specs.Meaning.{pick, form, AreIds}
use Rattle.game_store.proofs.EntryLaws.{pick-has}
use Rattle.std.specs.Prelude.{Option}
use Rattle.std.proofs.lemmas.Bool.{cases_lt}
use Rattle.game_canon.specs.declared.games.Unstored.{Unstored}
use Rattle.game_canon.specs.inner.Games.{with_unstored}
use Rattle.game_store.specs.Forms.{IsOptions}
use Rattle.game_canon.specs.declared.side.Side.{Side}
use Rattle.game_canon.specs.declared.side.Side.TheVariants.{Left, Right}
use Rattle.game_canon.specs.inner.Sides.{near, far, Covers, near_list, far_list, AreBest, AreFree, IsRefilled, IsWithout}
use Rattle.game_canon.proofs.GameLaws.{has-left, left-has, has-right, right-has, of-beside}
use Rattle.game_canon.proofs.IdLaws.{sizes-order, in-order, out-order, ordered-ids}
use Rattle.game_canon.specs.inner.Ids.{IsInOrder}
use Rattle.short_games.specs.Order.{◌≤ᵍ◌}

pub covers-refl : (s : Side) (G : Tree) → Covers s G G
covers-refl Left G = le-refl G
covers-refl Right G = le-refl G

pub covers-trans : (s : Side) (A B C : Tree) → Covers s A B → Covers s B C → Covers s A C
covers-trans Left A B C p q = le-trans A B C p q
covers-trans Right A B C p q = le-trans C B A q p

-- a list in which not none covers X has one that does
pub some-covers : (s : Side) (Gs : Trees) (X : Tree) → (((Y : Tree) → Has Gs Y → Covers s X Y → ⊥) → ⊥) → (Y : Tree) × Has Gs Y × Covers s X Y
some-covers Left Gs X h = elim (none-or_some (λ Y. X ≤ᵍ Y) (λ Y. le-or_not X Y) Gs) [ inl t ↦ absurd (h t) | inr f ↦ f ]
some-covers Right Gs X h = elim (none-or_some (λ Y. Y ≤ᵍ X) (λ Y. le-or_not Y X) Gs) [ inl t ↦ absurd (h t) | inr f ↦ f ]

-- lists of ids in a row
pub pick-append : (Ts : List Tree) (xs ys : List ℕ) → pick Ts (xs ++ ys) ≡ pick Ts xs then pick Ts ys
pick-append Ts [] ys = refl
pick-append Ts (x ∷ xs) ys = ap (more (tree_at Ts x)) (pick-append Ts xs ys)

pub append-has : (Ts : List Tree) (xs ys : List ℕ) (X : Tree) → Has (pick Ts (xs ++ ys)) X → Has (pick Ts xs) X ⊎ Has (pick Ts ys) X
append-has Ts xs ys X h = then-has _ _ X (subst (λ z. Has z X) (pick-append Ts xs ys) h)

pub has-append_left : (Ts : List Tree) (xs ys : List ℕ) (X : Tree) → Has (pick Ts xs) X → Has (pick Ts (xs ++ ys)) X
has-append_left Ts xs ys X h = subst (λ z. Has z X) (sym (pick-append Ts xs ys)) (has-then_left _ _ X h)

pub has-append_right : (Ts : List Tree) (xs ys : List ℕ) (X : Tree) → Has (pick Ts ys) X → Has (pick Ts (xs ++ ys)) X
has-append_right Ts xs ys X h = subst (λ z. Has z X) (sym (pick-append Ts xs ys)) (has-then_right _ _ X h)

pub sizes-append : (Ts : List Tree) (xs ys : List ℕ) → sizes (pick Ts (xs ++ ys)) ≡ sizes (pick Ts xs) + sizes (pick Ts ys)
unfolding size
sizes-append Ts [] ys = omega arith
sizes-append Ts (x ∷ xs) ys = omega (arith, sizes-append Ts xs ys)

pub one : (Ts : List Tree) (y : ℕ) (X : Tree) → Has (pick Ts (y ∷ [])) X → X ≡ tree_at Ts y
one Ts y X (inl e) = e
one Ts y X (inr h) = absurd h

pub ids-append : (Ts : List Tree) (xs ys : List ℕ) → AreIds Ts xs → AreIds Ts ys → AreIds Ts (xs ++ ys)
ids-append Ts [] ys a b j l = b j l
ids-append Ts (x ∷ xs) ys a b zero l = a 0 (omega arith)
ids-append Ts (x ∷ xs) ys a b (suc j) l = ids-append Ts xs ys (λ j l. a (suc j) (omega arith)) b j (omega (arith, l))

pub ids-one : (Ts : List Tree) (y : ℕ) → y < length Ts → AreIds Ts (y ∷ [])
ids-one Ts y h zero l = h
ids-one Ts y h (suc j) l = absurd (omega (arith, l))

pub without-skip : (s : Side) (Ts : List Tree) (xs vs : List ℕ) (top y : ℕ) → Covers s (tree_at Ts y) (tree_at Ts top) → IsWithout s Ts xs top vs → IsWithout s Ts (xs ++ y ∷ []) top vs
without-skip s Ts xs vs top y c w = record {
  ids = w.ids;
  among = λ X h. (has-append_left Ts xs (y ∷ []) X (w.among X h).0, (w.among X h).1);
  rest = λ X h. elim (append-has Ts xs (y ∷ []) X h) [ inl a ↦ w.rest X a | inr b ↦ inl (subst (λ t. Covers s t (tree_at Ts top)) (sym (one Ts y X b)) c) ];
  smaller = omega (arith, w.smaller, sizes-append Ts xs (y ∷ []));
}

pub without-push : (s : Side) (Ts : List Tree) (xs vs : List ℕ) (top y : ℕ) → y < length Ts → (Covers s (tree_at Ts y) (tree_at Ts top) → ⊥) → IsWithout s Ts xs top vs → IsWithout s Ts (xs ++ y ∷ []) top (vs ++ y ∷ [])
without-push s Ts xs vs top y b c w = record {
  ids = ids-append Ts vs (y ∷ []) w.ids (ids-one Ts y b);
  among = λ X h. elim (append-has Ts vs (y ∷ []) X h) [
    | inl a ↦ (has-append_left Ts xs (y ∷ []) X (w.among X a).0, (w.among X a).1)
    | inr a ↦ (has-append_right Ts xs (y ∷ []) X a, λ k. c (subst (λ t. Covers s t (tree_at Ts top)) (one Ts y X a) k))
  ];
  rest = λ X h. elim (append-has Ts xs (y ∷ []) X h) [
    | inl a ↦ elim (w.rest X a) [ inl k ↦ inl k | inr k ↦ inr (has-append_left Ts vs (y ∷ []) X k) ]
    | inr a ↦ inr (has-append_right Ts vs (y ∷ []) X a)
  ];
  smaller = omega (arith, w.smaller, sizes-append Ts xs (y ∷ []), sizes-append Ts vs (y ∷ []));
}

-- one more of the ids behind others
pub one-later : (free ids : List ℕ) (n : ℕ) → n < length ids → (free ++ take n ids) ++ get_or ids n 0 ∷ [] ≡ free ++ take (n + 1) ids
one-later free ids n l = append_assoc free (take n ids) (get_or ids n 0 ∷ []) ∙ ap (λ z. free ++ z) (sym (take_more ids n 0 l))

pub best-start : (s : Side) (Ts : List Tree) (free bs : List ℕ) → bs ≡ free → AreIds Ts free → AreFree s (pick Ts free) → AreBest s Ts (free ++ []) bs
best-start s Ts free bs e ids apart = subst (λ z. AreBest s Ts z bs) (sym (append-nil free)) (subst (AreBest s Ts free) (sym e) record {
  ids = ids;
  among = λ X h. h;
  covers = λ X h. (X, h, covers-refl s X);
  free = apart;
  smaller = omega arith;
})

pub best-none : (s : Side) (Ts : List Tree) (bs : List ℕ) → bs ≡ [] → AreBest s Ts bs bs
best-none s Ts bs e = subst (λ z. AreBest s Ts z bs) (sym e) (best-start s Ts [] bs e (λ j l. absurd (omega (arith, l))) (λ A B h k. absurd h))

-- a list without one of its ids, and others behind it
pub take-front : (xs ys : List ℕ) → take (length xs) (xs ++ ys) ≡ xs
take-front [] ys = refl
take-front (x ∷ xs) ys = ap (λ z. x ∷ z) (take-front xs ys)

rest-length : (is : List ℕ) (place : ℕ) → place < length is → length (take place is ++ drop (place + 1) is) ≡ length is - 1
rest-length is place l = omega (arith, l, length-append (take place is) (drop (place + 1) is), length-take-le place is (omega (arith, l)), length-drop (place + 1) is)

pub rest-front : (is vs : List ℕ) (place : ℕ) → place < length is → IsRefilled is place vs → take (length is - 1) vs ≡ take place is ++ drop (place + 1) is
rest-front is vs place l (extra, e) = ap (λ z. take z vs) (sym (rest-length is place l)) ∙ ap (take (length (take place is ++ drop (place + 1) is))) e ∙ take-front (take place is ++ drop (place + 1) is) extra

rest-has : (Ts : List Tree) (is : List ℕ) (place : ℕ) (X : Tree) → Has (pick Ts (take place is ++ drop (place + 1) is)) X → Has (pick Ts is) X
rest-has Ts is place X h = elim (append-has Ts (take place is) (drop (place + 1) is) X h) [
  | inl a ↦ subst (λ z. Has (pick Ts z) X) (take-append-drop place is) (has-append_left Ts (take place is) (drop place is) X a)
  | inr b ↦ subst (λ z. Has (pick Ts z) X) (take-append-drop (place + 1) is) (has-append_right Ts (take (place + 1) is) (drop (place + 1) is) X b)
]

pub rest-free : (s : Side) (Ts : List Tree) (is vs : List ℕ) (place : ℕ) → place < length is → IsRefilled is place vs → AreFree s (pick Ts is) → AreFree s (pick Ts (take (length is - 1) vs))
rest-free s Ts is vs place l r free = subst (λ z. AreFree s (pick Ts z)) (sym (rest-front is vs place l r)) (λ A B a b c. free A B (rest-has Ts is place A a) (rest-has Ts is place B b) c)

-- a list that is parted
pub parted : (all ds xs ys : List ℕ) (n : ℕ) → xs ≡ take n ds → ys ≡ drop n ds → ds ≡ all → xs ++ ys ≡ all
parted all ds xs ys n a b e = ap (λ z. z ++ ys) a ∙ ap (λ z. take n ds ++ z) b ∙ take-append-drop n ds ∙ e

pub best-skip : (s : Side) (Ts : List Tree) (xs bs : List ℕ) (y : ℕ) → (((Y : Tree) → Has (pick Ts bs) Y → Covers s (tree_at Ts y) Y → ⊥) → ⊥) → AreBest s Ts xs bs → AreBest s Ts (xs ++ y ∷ []) bs
best-skip s Ts xs bs y some b = record {
  ids = b.ids;
  among = λ X h. has-append_left Ts xs (y ∷ []) X (b.among X h);
  covers = λ X h. elim (append-has Ts xs (y ∷ []) X h) [
    | inl a ↦ b.covers X a
    | inr a ↦ (let r = some-covers s (pick Ts bs) (tree_at Ts y) some in (r.0, r.1, subst (λ t. Covers s t r.0) (sym (one Ts y X a)) r.2))
  ];
  free = b.free;
  smaller = omega (arith, b.smaller, sizes-append Ts xs (y ∷ []));
}

pub best-push : (s : Side) (Ts : List Tree) (xs bs ws : List ℕ) (y : ℕ) → y < length Ts → ((Y : Tree) → Has (pick Ts bs) Y → Covers s (tree_at Ts y) Y → ⊥) → AreBest s Ts xs bs → IsWithout s Ts bs y ws → AreBest s Ts (xs ++ y ∷ []) (ws ++ y ∷ [])
best-push s Ts xs bs ws y l uncovered b w = record {
  ids = ids-append Ts ws (y ∷ []) w.ids (ids-one Ts y l);
  among = λ X h. elim (append-has Ts ws (y ∷ []) X h) [
    | inl a ↦ has-append_left Ts xs (y ∷ []) X (b.among X (w.among X a).0)
    | inr a ↦ has-append_right Ts xs (y ∷ []) X a
  ];
  covers = λ X h. elim (append-has Ts xs (y ∷ []) X h) [
    | inl a ↦ by_rest X (b.covers X a)
    | inr a ↦ (X, has-append_right Ts ws (y ∷ []) X a, covers-refl s X)
  ];
  free = λ A B a b c. frees A B (append-has Ts ws (y ∷ []) A a) (append-has Ts ws (y ∷ []) B b) c;
  smaller = omega (arith, b.smaller, w.smaller, sizes-append Ts xs (y ∷ []), sizes-append Ts ws (y ∷ []));
}
  where
    by_rest : (X : Tree) → (Y : Tree) × Has (pick Ts bs) Y × Covers s X Y → (Y : Tree) × Has (pick Ts (ws ++ y ∷ [])) Y × Covers s X Y
    by_rest X r = elim (w.rest r.0 r.1) [
      | inl k ↦ (tree_at Ts y, has-append_right Ts ws (y ∷ []) (tree_at Ts y) (inl refl), covers-trans s X r.0 (tree_at Ts y) r.2 k)
      | inr k ↦ (r.0, has-append_left Ts ws (y ∷ []) r.0 k, r.2)
    ]

    frees : (A B : Tree) → Has (pick Ts ws) A ⊎ Has (pick Ts (y ∷ [])) A → Has (pick Ts ws) B ⊎ Has (pick Ts (y ∷ [])) B → Covers s A B → A ≡ B
    frees A B (inl a) (inl c) k = b.free A B (w.among A a).0 (w.among B c).0 k
    frees A B (inl a) (inr c) k = absurd ((w.among A a).1 (subst (λ t. Covers s A t) (one Ts y B c) k))
    frees A B (inr a) (inl c) k = absurd (uncovered B (w.among B c).0 (subst (λ t. Covers s t B) (one Ts y A a) k))
    frees A B (inr a) (inr c) k = one Ts y A a ∙ sym (one Ts y B c)

pub has-near : (s : Side) (Ts : List Tree) (id : ℕ) (ls rs : List ℕ) → IsOptions Ts id ls rs → (X : Tree) → Has (near s (tree_at Ts id)) X → Has (pick Ts (near_list s ls rs)) X
has-near Left = has-left
has-near Right = has-right

pub near-has : (s : Side) (Ts : List Tree) (id : ℕ) (ls rs : List ℕ) → IsOptions Ts id ls rs → (X : Tree) → Has (pick Ts (near_list s ls rs)) X → Has (near s (tree_at Ts id)) X
near-has Left = left-has
near-has Right = right-has

pub has-far : (s : Side) (Ts : List Tree) (id : ℕ) (ls rs : List ℕ) → IsOptions Ts id ls rs → (X : Tree) → Has (far s (tree_at Ts id)) X → Has (pick Ts (far_list s ls rs)) X
has-far Left = has-right
has-far Right = has-left

pub far-has : (s : Side) (Ts : List Tree) (id : ℕ) (ls rs : List ℕ) → IsOptions Ts id ls rs → (X : Tree) → Has (pick Ts (far_list s ls rs)) X → Has (far s (tree_at Ts id)) X
far-has Left = right-has
far-has Right = left-has

-- none of the ids covers X, and none is covered by X
abbrev pub NearUncovered : Side → List Tree → List ℕ → Tree → Type 0
NearUncovered s Ts is X = (j : ℕ) → j < length is → Covers s X (tree_at Ts (get_or is j 0)) → ⊥

abbrev pub FarUncovered : Side → List Tree → List ℕ → Tree → Type 0
FarUncovered s Ts is X = (j : ℕ) → j < length is → Covers s (tree_at Ts (get_or is j 0)) X → ⊥

-- the best in order
pub best-ordered : (s : Side) (Ts : List Tree) (is us vs : List ℕ) → AreBest s Ts is us → IsInOrder us vs → AreBest s Ts is vs
best-ordered s Ts is us vs b o = record {
  ids = ordered-ids Ts us vs o b.ids;
  among = λ X h. b.among X (out-order Ts us vs o X h);
  covers = λ X h. (let r = b.covers X h in (r.0, in-order Ts us vs o r.0 r.1, r.2));
  free = λ A B a c k. b.free A B (out-order Ts us vs o A a) (out-order Ts us vs o B c) k;
  smaller = omega (arith, b.smaller, sizes-order Ts us vs o);
}

-- a form covers no option of the other side's
pub not-covered : (Ts : List Tree) (o : Option Unstored) (u : Unstored) (s : Side) (is : List ℕ) → o ≡ Some u → is ≡ far_list s u.left.now u.right.now
    → (j : ℕ) → j < length is → Covers s (tree_at Ts (get_or is j 0)) (tree_at (with_unstored Ts o) (length Ts)) → ⊥
not-covered Ts o u Left is e i j l =
    let X = tree_at Ts (get_or is j 0) in
    of-beside Ts o u (length Ts) (λ t. X ≤ᵍ t → ⊥) e refl (λ y. (le-out X (form Ts u.left.now u.right.now) y).from_right X
    (has-sorted (pick Ts u.right.now) X (subst (λ ks. Has (pick Ts ks) X) i (pick-has Ts is j l))) (le-refl X))
not-covered Ts o u Right is e i j l =
    let X = tree_at Ts (get_or is j 0) in
    of-beside Ts o u (length Ts) (λ t. t ≤ᵍ X → ⊥) e refl (λ y. (le-out (form Ts u.left.now u.right.now) X y).from_left X
    (has-sorted (pick Ts u.left.now) X (subst (λ ks. Has (pick Ts ks) X) i (pick-has Ts is j l))) (le-refl X))

-- what holds from a place on holds from the one before on, where it holds there
pub above_more : (P : ℕ → Type 0) (n m : ℕ) → 0 < n → ((j : ℕ) → n ≤ j → j < m → P j) → P (n - 1) → (j : ℕ) → n - 1 ≤ j → j < m → P j
above_more P n m some f p j l k = elim (cases_lt j n) [ inl b ↦ subst P (omega (arith, some, l, b)) p | inr a ↦ f j a k ]
