-- One step of the reduction of a form: an option replaced, then the best ones kept.
use Rattle.std.proofs.Common.{ℕ, suc, ◌+◌, ◌<◌, ◌≡◌, ◌⊎◌, List, [], ◌∷◌, ◌++◌, length, get_or, take, drop, arith, refl, sym, ◌∙◌, inl, inr, ap, subst, Bool, true, false, cond}
use Rattle.std.specs.Prelude.{Option, Some, None, MatchOption, Result, Ok, Err, IfOk}
use Rattle.std.proofs.Math.Seq.{drop-cons}
use Rattle.std.proofs.lemmas.List.{take-append-drop, length-drop, length-take, get_or-take, get_or-drop}
use Rattle.std.proofs.lemmas.Bool.{true≢false}
use Rattle.short_games.specs.TextOrder.{insert, sorted, text_before}
use Rattle.short_games.proofs.TextOrderLaws.{text-order, sorted-has}
use Rattle.short_games.specs.Tree.{AreDistinct, Tree, Trees, node, none, more, left, right, Has, size, sizes, tree_at}
use Rattle.game_store.specs.Meaning.{AreBelow, IsAscending, pick, listed, AreIds}
use Rattle.short_games.specs.Order.{◌≤ᵍ◌, ◌≡ᵍ◌}
use Rattle.short_games.specs.Number.{IsNumberTree, IsNumber}
use Rattle.short_games.proofs.OrderLaws.{le-refl, le-trans, same-trans, size-left, size-right, size-node}
use Rattle.short_games.proofs.ReductionLaws.{drops-left, drops-right, bypasses-left, bypasses-right, number-answers_left, number-answers_right}
use Rattle.game_store.specs.Forms.{IsOptions}
use Rattle.game_store.proofs.EntryLaws.{has-pick, pick-has}
use Rattle.game_canon.specs.declared.side.Side.{Side}
use Rattle.game_canon.specs.declared.side.Side.TheVariants.{Left, Right}
use Rattle.short_games.specs.Parts.{IsOption}
use Rattle.game_canon.proofs.NumberSizeLaws.{come-further}
use Rattle.game_canon.specs.inner.Sides.{Comes, near, far, Covers, with_near, near_list, far_list, AreFree, AreBest, IsReplaced, IsReversal, IsIrreversible, IsDone, IsSmaller, IsReducedForm}
use Rattle.game_canon.proofs.SideLaws.{append-has, has-append_left, has-append_right, sizes-append, ids-append, has-far, far-has, FarUncovered}
use Rattle.game_canon.proofs.GameLaws.{none-list}

pub match-along : (o : Option ℕ) (P Q : Type 0) (F G : ℕ → Type 0) → (P → Q) → ((x : ℕ) → F x → G x) → MatchOption o P F → MatchOption o Q G
match-along None P Q F G f g h = f h
match-along (Some x) P Q F G f g h = g x h

-- an answer among the far options
pub answer-from : (s : Side) (Ts : List Tree) (G : Tree) (id : ℕ) (ls rs : List ℕ) (answer : ℕ) → IsOptions Ts id ls rs → (answer < length Ts) × Has (pick Ts (far_list s ls rs)) (tree_at Ts answer) × Covers s (tree_at Ts answer) G → IsReversal s Ts G id answer
answer-from s Ts G id ls rs answer o h = record { below = h.0; option = far-has s Ts id ls rs o _ h.1; covered = h.2 }

pub kept-from : (s : Side) (Ts : List Tree) (G : Tree) (id : ℕ) (ls rs : List ℕ) → IsOptions Ts id ls rs → FarUncovered s Ts (far_list s ls rs) G → IsIrreversible s G (tree_at Ts id)
kept-from s Ts G id ls rs o h A a = none-list Ts (far_list s ls rs) (λ Z. Covers s Z G) h A (has-far s Ts id ls rs o A a)

-- a list with one place left out
split : (is : List ℕ) (p : ℕ) → p < length is → is ≡ take p is ++ get_or is p 0 ∷ drop (p + 1) is
split is p l = sym (take-append-drop p is) ∙ ap (λ (z : List ℕ). take p is ++ z) (drop-cons is p 0 l ∙ ap (λ n. get_or is p 0 ∷ drop n is) (let e : suc p ≡ p + 1 = omega arith in e))

sizes-more : (Ts : List Tree) (y : ℕ) (b : List ℕ) → sizes (pick Ts (y ∷ b)) ≡ size (tree_at Ts y) + sizes (pick Ts b)
unfolding size
sizes-more Ts y b = refl

pub replaced-from : (s : Side) (Ts : List Tree) (is : List ℕ) (place answer : ℕ) (extra vs : List ℕ) → AreIds Ts is → place < length is → AreIds Ts extra
    → IsNumberTree (tree_at Ts answer) ⊎ ((X : Tree) → Has (near s (tree_at Ts answer)) X → Has (pick Ts extra) X) → ((X : Tree) → Has (pick Ts extra) X → (IsNumberTree (tree_at Ts answer) → ⊥) × Has (near s (tree_at Ts answer)) X)
    → sizes (pick Ts extra) < size (tree_at Ts answer) → vs ≡ (take place is ++ drop (place + 1) is) ++ extra → IsReplaced s Ts is place answer vs
replaced-from s Ts is place answer extra vs ids l extra_ids added from few e = subst (IsReplaced s Ts is place answer) (sym e) record {
  ids = ids-append Ts (a ++ b) extra (ids-append Ts a b part part') extra_ids;
  kept = λ X h. keeps X (append-has Ts a (y ∷ b) X (subst (λ z. Has (pick Ts z) X) whole h));
  added = elim added [ inl n ↦ inl n | inr f ↦ inr (λ X x. has-append_right Ts (a ++ b) extra X (f X x)) ];
  from = λ X h. elim (append-has Ts (a ++ b) extra X h) [ inl x ↦ inl (back X (append-has Ts a b X x)) | inr x ↦ inr (from X x) ];
  smaller = λ h. omega (arith, sizes-append Ts (a ++ b) extra, sizes-append Ts a b, count, few, less h);
}
  where
    a : List ℕ
    a = take place is

    b : List ℕ
    b = drop (place + 1) is

    y : ℕ
    y = get_or is place 0

    whole : is ≡ take place is ++ get_or is place 0 ∷ drop (place + 1) is
    whole = split is place l

    part : (j : ℕ) → j < length (take place is) → get_or (take place is) j 0 < length Ts
    part j k = subst (λ z. z < length Ts) (sym (get_or-take place is j 0 (omega (arith, k, length-take place is)))) (ids j (omega (arith, k, length-take place is)))

    part' : (j : ℕ) → j < length (drop (place + 1) is) → get_or (drop (place + 1) is) j 0 < length Ts
    part' j k = subst (λ z. z < length Ts) (sym (get_or-drop (place + 1) is j 0)) (ids (place + 1 + j) (omega (arith, k, length-drop (place + 1) is)))

    count : sizes (pick Ts is) ≡ sizes (pick Ts (take place is)) + (size (tree_at Ts (get_or is place 0)) + sizes (pick Ts (drop (place + 1) is)))
    count = ap (λ (z : List ℕ). sizes (pick Ts z)) whole ∙ sizes-append Ts (take place is) (get_or is place 0 ∷ drop (place + 1) is) ∙ ap (λ n. sizes (pick Ts (take place is)) + n) (sizes-more Ts (get_or is place 0) (drop (place + 1) is))

    less : Has (far s (tree_at Ts (get_or is place 0))) (tree_at Ts answer) → size (tree_at Ts answer) < size (tree_at Ts (get_or is place 0))
    less h = at s h
      where
        at : (s : Side) → Has (far s (tree_at Ts (get_or is place 0))) (tree_at Ts answer) → size (tree_at Ts answer) < size (tree_at Ts (get_or is place 0))
        at Left h = size-right _ _ h
        at Right h = size-left _ _ h

    keeps : (X : Tree) → Has (pick Ts (take place is)) X ⊎ Has (pick Ts (get_or is place 0 ∷ drop (place + 1) is)) X → (X ≡ tree_at Ts (get_or is place 0)) ⊎ Has (pick Ts ((take place is ++ drop (place + 1) is) ++ extra)) X
    keeps X (inl h) = inr (has-append_left Ts (a ++ b) extra X (has-append_left Ts a b X h))
    keeps X (inr (inl i)) = inl i
    keeps X (inr (inr h)) = inr (has-append_left Ts (a ++ b) extra X (has-append_right Ts a b X h))

    back : (X : Tree) → Has (pick Ts (take place is)) X ⊎ Has (pick Ts (drop (place + 1) is)) X → Has (pick Ts is) X
    back X (inl h) = subst (λ z. Has (pick Ts z) X) (sym whole) (has-append_left Ts a (y ∷ b) X h)
    back X (inr h) = subst (λ z. Has (pick Ts z) X) (sym whole) (has-append_right Ts a (y ∷ b) X (inr h))

-- bypassed and then dropped
abbrev pub Better : Side → List Tree → List ℕ → List ℕ → List ℕ → Type 0
Better s Ts ns fs vs = with_near s Ts ns fs ≡ᵍ with_near s Ts vs fs

pub best-same : (s : Side) (Ts : List Tree) (ns fs vs : List ℕ) → AreBest s Ts ns vs → Better s Ts ns fs vs
best-same Left Ts ns fs vs b = drops-left _ _ record { from = b.among; covered = b.covers; others = refl }
best-same Right Ts ns fs vs b = drops-right _ _ record { from = b.among; covered = b.covers; others = refl }

-- what is kept and isn't the one that is replaced
other-kept : (Ts : List Tree) (vs : List ℕ) (Y Z : Tree) → (Y ≡ Z → ⊥) → (Y ≡ Z) ⊎ Has (pick Ts vs) Y → Has (pick Ts vs) Y
other-kept Ts vs Y Z f (inl e) = absurd (f e)
other-kept Ts vs Y Z f (inr h) = h

replaced-same : (s : Side) (Ts : List Tree) (ns fs vs : List ℕ) (place answer : ℕ) → (IsNumber (with_near s Ts ns fs) → ⊥) → place < length ns → IsReversal s Ts (with_near s Ts ns fs) (get_or ns place 0) answer → IsReplaced s Ts ns place answer vs → Better s Ts ns fs vs
replaced-same Left Ts ns fs vs place answer n l a r = bypasses-left (listed Ts ns fs) (listed Ts vs fs) (tree_at Ts (get_or ns place 0)) (tree_at Ts answer) record {
  option = pick-has Ts ns place l;
  answer = a.option;
  reverses = a.covered;
  kept = r.kept;
  added = λ X x. by_added X x r.added;
  from = λ X x. elim (r.from X x) [ inl a ↦ inl a | inr b ↦ inr b.1 ];
  others = refl;
}
  where
    by_added : (X : Tree) → Has (left (tree_at Ts answer)) X → IsNumberTree (tree_at Ts answer) ⊎ ((X : Tree) → Has (left (tree_at Ts answer)) X → Has (pick Ts vs) X) → (Y : Tree) × Has (pick Ts vs) Y × (X ≤ᵍ Y)
    by_added X x (inl t) = let k = number-answers_left (listed Ts ns fs) n (tree_at Ts (get_or ns place 0)) t.0 t.1 (subst (λ z. Has (right (tree_at Ts (get_or ns place 0))) z) t.2 a.option) (subst (λ z. z ≤ᵍ listed Ts ns fs) t.2 a.covered) X (subst (λ z. Has (left z) X) t.2 x) in
        (k.0, other-kept Ts vs k.0 _ k.2 (r.kept k.0 k.1), k.3)
    by_added X x (inr f) = (X, f X x, le-refl X)
replaced-same Right Ts ns fs vs place answer n l a r = bypasses-right (listed Ts fs ns) (listed Ts fs vs) (tree_at Ts (get_or ns place 0)) (tree_at Ts answer) record {
  option = pick-has Ts ns place l;
  answer = a.option;
  reverses = a.covered;
  kept = r.kept;
  added = λ X x. by_added X x r.added;
  from = λ X x. elim (r.from X x) [ inl a ↦ inl a | inr b ↦ inr b.1 ];
  others = refl;
}
  where
    by_added : (X : Tree) → Has (right (tree_at Ts answer)) X → IsNumberTree (tree_at Ts answer) ⊎ ((X : Tree) → Has (right (tree_at Ts answer)) X → Has (pick Ts vs) X) → (Y : Tree) × Has (pick Ts vs) Y × (Y ≤ᵍ X)
    by_added X x (inl t) = let k = number-answers_right (listed Ts fs ns) n (tree_at Ts (get_or ns place 0)) t.0 t.1 (subst (λ z. Has (left (tree_at Ts (get_or ns place 0))) z) t.2 a.option) (subst (λ z. listed Ts fs ns ≤ᵍ z) t.2 a.covered) X (subst (λ z. Has (right z) X) t.2 x) in
        (k.0, other-kept Ts vs k.0 _ k.2 (r.kept k.0 k.1), k.3)
    by_added X x (inr f) = (X, f X x, le-refl X)

covers-equal : (s : Side) (X G H : Tree) → G ≡ᵍ H → Covers s X G → Covers s X H
covers-equal Left X G H e c = le-trans X G H c e.0
covers-equal Right X G H e c = le-trans H G X e.1 c

far-option : (s : Side) (G X : Tree) → Has (far s G) X → IsOption G X
far-option Left G X h = inr h
far-option Right G X h = inl h

near-option : (s : Side) (G X : Tree) → Has (near s G) X → IsOption G X
near-option Left G X h = inl h
near-option Right G X h = inr h

-- what two clauses tell of an answer
pub both_ok : {T F : Type 0} (r : Result T F) (P Q R : T → Type 0) → ((v : T) → P v → Q v → R v) → IfOk r P → IfOk r Q → IfOk r R
both_ok (Ok v) P Q R then p q = then v p q
both_ok (Err e) P Q R then p q = tt

pub smaller-from : (s : Side) (Ts : List Tree) (G : Tree) (ns is vs : List ℕ) (place answer : ℕ) → (IsNumber G → ⊥) → place < length ns → IsReversal s Ts G (get_or ns place 0) answer → IsReplaced s Ts ns place answer is → AreBest s Ts is vs → IsAscending vs → IsSmaller s Ts G ns vs
smaller-from s Ts G ns is vs place answer n l a r b u = record {
  ids = b.ids;
  ascends = u;
  same = λ fs e. (
      let m : IsNumber (with_near s Ts ns fs) → ⊥ = λ k. n (k.0, k.1, le-trans _ _ _ e.1 k.2, le-trans _ _ _ k.3 e.0) in
      let c : IsReversal s Ts (with_near s Ts ns fs) (get_or ns place 0) answer = record { below = a.below; option = a.option; covered = covers-equal s _ _ _ (e.1, e.0) a.covered } in
      same-trans _ _ _ (replaced-same s Ts ns fs is place answer m l c r) (best-same s Ts is fs vs b)
      );
  free = b.free;
  from = λ X x. elim (r.from X (b.among X x)) [ inl h ↦ inl h | inr h ↦ inr (tree_at Ts (get_or ns place 0), pick-has Ts ns place l, (tree_at Ts answer, far-option s _ _ a.option, h.0, near-option s _ _ h.1)) ];
  smaller = omega (arith, r.smaller a.option, b.smaller);
}

-- what the reduction keeps
pub record IsReducing (Ts : List Tree) (G : Tree) (ms ns : List ℕ) : Type 0 where
  pub left_ids : AreIds Ts ms
  pub right_ids : AreIds Ts ns
  pub left_ascends : IsAscending ms
  pub right_ascends : IsAscending ns
  pub same : G ≡ᵍ listed Ts ms ns
  pub left_free : AreFree Left (pick Ts ms)
  pub right_free : AreFree Right (pick Ts ns)
  pub comes : (X : Tree) → IsOption (listed Ts ms ns) X → Comes G X

comes-smaller : (s : Side) (Ts : List Tree) (G : Tree) (ns vs : List ℕ) → IsSmaller s Ts G ns vs
    → ((Y : Tree) → Has (pick Ts ns) Y → Comes G Y)
    → (X : Tree) → Has (pick Ts vs) X → Comes G X
comes-smaller s Ts G ns vs r c X h = elim (r.from X h) [ inl a ↦ c X a | inr f ↦ come-further G f.0 f.2.0 X (c f.0 f.1) f.2.1 f.2.2 f.2.3 ]

pub reducing-left : (Ts : List Tree) (G : Tree) (ms ns vs : List ℕ) → IsReducing Ts G ms ns → IsSmaller Left Ts G ms vs → IsReducing Ts G vs ns
reducing-left Ts G ms ns vs r s = record {
  left_ids = s.ids;
  right_ids = r.right_ids;
  left_ascends = s.ascends;
  right_ascends = r.right_ascends;
  same = same-trans _ _ _ r.same (s.same ns (r.same.1, r.same.0));
  left_free = s.free;
  right_free = r.right_free;
  comes = λ X o. elim o [ inl h ↦ comes-smaller Left Ts G ms vs s (λ Y y. r.comes Y (inl y)) X h | inr h ↦ r.comes X (inr h) ];
}

pub reducing-right : (Ts : List Tree) (G : Tree) (ms ns vs : List ℕ) → IsReducing Ts G ms ns → IsSmaller Right Ts G ns vs → IsReducing Ts G ms vs
reducing-right Ts G ms ns vs r s = record {
  left_ids = r.left_ids;
  right_ids = s.ids;
  left_ascends = r.left_ascends;
  right_ascends = s.ascends;
  same = same-trans _ _ _ r.same (s.same ms (r.same.1, r.same.0));
  left_free = r.left_free;
  right_free = s.free;
  comes = λ X o. elim o [ inl h ↦ r.comes X (inl h) | inr h ↦ comes-smaller Right Ts G ns vs s (λ Y y. r.comes Y (inr y)) X h ];
}

pub reducing-end : (Ts : List Tree) (G : Tree) (ms ns : List ℕ) → IsReducing Ts G ms ns → IsDone Left Ts G ms → IsDone Right Ts G ns → IsReducedForm Ts G ms ns
reducing-end Ts G ms ns r a b = record { left_ids = r.left_ids; right_ids = r.right_ids; left_ascends = r.left_ascends; right_ascends = r.right_ascends; same = r.same; left_free = r.left_free; right_free = r.right_free; comes = r.comes; left_kept = a; right_kept = b }

-- how many nodes the options of an id have together
insert-size : (G : Tree) (Hs : Trees) → (Has Hs G → ⊥) → sizes (insert G Hs) ≡ size G + sizes Hs
unfolding insert size
insert-size G none f = omega arith
insert-size G (more H Hs) f = at (text_before G H) refl (text_before H G) refl (insert-size G Hs (λ h. f (inr h)))
  where
    at : (b : Bool) → text_before G H ≡ b → (c : Bool) → text_before H G ≡ c → sizes (insert G Hs) ≡ size G + sizes Hs → sizes (cond b (more G (more H Hs)) (cond c (more H (insert G Hs)) (more H Hs))) ≡ size G + sizes (more H Hs)
    at true p c q e = omega arith
    at false p true q e = omega (arith, e)
    at false p false q e = elim (text-order.total G H) [
      | inl a ↦ absurd (true≢false (sym a ∙ p))
      | inr b ↦ elim b [ inl i ↦ absurd (f (inl i)) | inr a ↦ absurd (true≢false (sym a ∙ q)) ]
    ]

sorted-size : (Ts : List Tree) → AreDistinct Ts → (xs : List ℕ) → AreIds Ts xs → IsAscending xs → sizes (sorted (pick Ts xs)) ≡ sizes (pick Ts xs)
unfolding sorted size
sorted-size Ts d [] a b = refl
sorted-size Ts d (x ∷ xs) a b = insert-size (tree_at Ts x) (sorted (pick Ts xs)) absent ∙ ap (λ n. size (tree_at Ts x) + n) (sorted-size Ts d xs (λ j l. a (suc j) (omega arith)) (λ i j l h. b (suc i) (suc j) (omega arith) (omega arith)))
  where
    absent : Has (sorted (pick Ts xs)) (tree_at Ts x) → ⊥
    absent h = let r = has-pick Ts xs _ (sorted-has (pick Ts xs) _ h) in
        let e : x ≡ get_or xs r.0 0 = d x (get_or xs r.0 0) (a 0 (omega arith)) (a (suc r.0) (omega (arith, r.1))) r.2 in
        omega (arith, e, b 0 (suc r.0) (omega arith) (omega (arith, r.1)))

form-sizes : (ls rs : Trees) → size (node ls rs) ≡ suc (sizes ls + sizes rs)
form-sizes = size-node

ids-from : (Ts : List Tree) (id : ℕ) (xs : List ℕ) → id < length Ts → AreBelow id xs → AreIds Ts xs
ids-from Ts id xs l b j k = omega (arith, l, b j k)

pub few-near : (s : Side) (Ts : List Tree) (id : ℕ) (ls rs : List ℕ) → AreDistinct Ts → id < length Ts → IsOptions Ts id ls rs → sizes (pick Ts (near_list s ls rs)) < size (tree_at Ts id)
few-near s Ts id ls rs d l o = subst (λ t. sizes (pick Ts (near_list s ls rs)) < size t) (sym o.tree) (at s)
  where
    at : (s : Side) → sizes (pick Ts (near_list s ls rs)) < size (node (sorted (pick Ts ls)) (sorted (pick Ts rs)))
    at Left = omega (arith, form-sizes (sorted (pick Ts ls)) (sorted (pick Ts rs)), sorted-size Ts d ls (ids-from Ts id ls l o.left_below) o.left_ascends)
    at Right = omega (arith, form-sizes (sorted (pick Ts ls)) (sorted (pick Ts rs)), sorted-size Ts d rs (ids-from Ts id rs l o.right_below) o.right_ascends)

pub near-ids : (s : Side) (Ts : List Tree) (id : ℕ) (ls rs : List ℕ) → id < length Ts → IsOptions Ts id ls rs → AreIds Ts (near_list s ls rs)
near-ids Left Ts id ls rs l o = ids-from Ts id ls l o.left_below
near-ids Right Ts id ls rs l o = ids-from Ts id rs l o.right_below

pub nought-few : (Ts : List Tree) (G : Tree) → sizes (pick Ts []) < size G
unfolding size
nought-few Ts (node ls rs) = omega arith

-- what the pieces that are put in a row make
pub pieces : (ids n0 first vs A B : List ℕ) (p : ℕ) → n0 ≡ [] → first ≡ n0 ++ A → vs ≡ first ++ B → A ≡ take p ids → B ≡ drop (p + 1) ids → vs ≡ take p ids ++ drop (p + 1) ids
pieces ids n0 first vs A B p a b c d e = c ∙ ap (λ (z : List ℕ). z ++ B) (b ∙ ap (λ (z : List ℕ). z ++ A) a ∙ d) ∙ ap (λ (z : List ℕ). take p ids ++ z) e
