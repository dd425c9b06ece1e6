-- What a store's entries mean, and the chains along which they are found.
use Rattle.std.proofs.Common.{ℕ, zero, suc, ◌+◌, ◌-◌, ◌<◌, ◌≤◌, ◌≡◌, List, [], ◌∷◌, ◌++◌, length, get_or, take, drop, arith, refl, sym, ◌∙◌, ap, ap₂, subst, pos, inl, inr, cond, nat_eq, Some, None, add-zero, zero-add, Option}
use Rattle.std.proofs.lemmas.Bool.{eqb-true, eqb-false, cases_Bool, cases_lt}
use Rattle.std.proofs.lemmas.List.{length-map, length-drop, length-append, length-take, get_or-take, get_or-drop, get_or_append_left, get_or_push}
use Rattle.std.proofs.Math.Seq.{get_or-append_seam, get_or-append_right, take-append_seam, drop-append_seam}
use Rattle.short_games.specs.Tree.{Tree, Trees, node, none, more, left, right, tree_at, AreDistinct, Has}
use Rattle.short_games.specs.Number.{IsNumberTree}
use Rattle.game_store.specs.declared.Entry.{Entry}
use Rattle.game_store.specs.declared.Entry.TheVariants.{Number, Options}
use Rattle.game_store.specs.Meaning.{pick, form, AreIds, AreBelow, Extends, IsAscending, Wanted}
use Rattle.game_store.specs.inner.Meaning.{IsWithin, Within, value_of, values_after, values, entry_at, Fits, AllFit, AreOptions, list_at, IsKept, IsNoNumber, meaning, held}
use Rattle.game_store.specs.Meaning.Wanted.{number, options}
use Rattle.short_games.specs.TextOrder.{sorted, IsCanonicalTree}
use Rattle.short_games.proofs.TextOrderLaws.{sorted-has, has-sorted}
use Rattle.short_games.proofs.WallNumberLaws.{num-one_to_one}
use Rattle.std.proofs.Math.ListN.{get_or-map}
use Rattle.std.proofs.lemmas.Option.{same_Some}
use Rattle.game_store.specs.declared.Slot.{Slot}
use Rattle.game_store.specs.inner.Chain.{entries_of, fingerprint, fingerprints, latest_of, slot_at, before_at, HasBefores, IsChained, IsAt, place}

-- what holds of each place of two lists of one length holds with one more item in each
pub push_both : {A B : Type 0} (P : ℕ → A → B → Type 0) (xs : List A) (ys : List B) (x dx : A) (y dy : B) → length xs ≡ length ys
    → ((i : ℕ) → i < length ys → P i (get_or xs i dx) (get_or ys i dy)) → P (length ys) x y
    → (i : ℕ) → i < length (ys ++ y ∷ []) → P i (get_or (xs ++ x ∷ []) i dx) (get_or (ys ++ y ∷ []) i dy)
push_both P xs ys x dx y dy e old new i l = elim (cases_lt i (length ys)) [
  | inl b ↦ rw (get_or_append_left xs (x ∷ []) dx i (omega (arith, b, e)), get_or_append_left ys (y ∷ []) dy i b) (old i b)
  | inr b ↦ (
      let same : length ys ≡ i = omega (arith, b, l, length-append ys (y ∷ [])) in
      rw (get_or_push xs x dx i (e ∙ same), get_or_push ys y dy i same) (subst (λ n. P n x y) same new)
      )
]

pub push_one : {A : Type 0} (P : ℕ → A → Type 0) (xs : List A) (x d : A) → ((i : ℕ) → i < length xs → P i (get_or xs i d)) → P (length xs) x
    → (i : ℕ) → i < length (xs ++ x ∷ []) → P i (get_or (xs ++ x ∷ []) i d)
push_one P xs x d old new = push_both (λ i _ y. P i y) xs xs x d x d refl old new

pub values_after-push : (lists : List (List ℕ)) (Ts : List Tree) (es : List Entry) (e : Entry) → values_after lists Ts (es ++ e ∷ []) ≡ values_after lists Ts es ++ value_of lists (values_after lists Ts es) e ∷ []
values_after-push lists Ts [] e = refl
values_after-push lists Ts (d ∷ es) e = values_after-push lists (Ts ++ value_of lists Ts d ∷ []) es e

pub length-values_after : (lists : List (List ℕ)) (Ts : List Tree) (es : List Entry) → length (values_after lists Ts es) ≡ length Ts + length es
length-values_after lists Ts [] = omega arith
length-values_after lists Ts (e ∷ es) = length-values_after lists (Ts ++ value_of lists Ts e ∷ []) es ∙ omega (arith, length-append Ts (value_of lists Ts e ∷ []))

moved : (Ts : List Tree) (v : Tree) (j : ℕ) → length Ts + suc j ≡ length (Ts ++ v ∷ []) + j
moved Ts v j = omega (arith, length-append Ts (v ∷ []))

-- the trees that stood at first stay
pub values_after-first : (lists : List (List ℕ)) (Ts : List Tree) (es : List Entry) (i : ℕ) → i < length Ts → tree_at (values_after lists Ts es) i ≡ tree_at Ts i
values_after-first lists Ts [] i h = refl
values_after-first lists Ts (e ∷ es) i h = values_after-first lists (Ts ++ value_of lists Ts e ∷ []) es i (omega (arith, length-append Ts (value_of lists Ts e ∷ []))) ∙ get_or_append_left Ts _ _ i h

pub pick-same : (Ts Us : List Tree) (is : List ℕ) → ((j : ℕ) → j < length is → tree_at Us (get_or is j 0) ≡ tree_at Ts (get_or is j 0)) → pick Us is ≡ pick Ts is
pick-same Ts Us [] h = refl
pick-same Ts Us (i ∷ is) h = ap₂ more (h 0 (omega arith)) (pick-same Ts Us is (λ j l. h (suc j) (omega arith)))

-- the options of each side
pub left-below : (k n : ℕ) (is : List ℕ) → AreBelow k is → AreBelow k (take n is)
left-below k n is b j l = let count = length-take n is in subst (λ x. x < k) (sym (get_or-take n is j 0 (omega (arith, l, count)))) (b j (omega (arith, l, count)))

pub right-below : (k n : ℕ) (is : List ℕ) → AreBelow k is → AreBelow k (drop n is)
right-below k n is b j l = subst (λ x. x < k) (sym (get_or-drop n is j 0)) (b (n + j) (omega (arith, l, length-drop n is)))

pub value_of-same : (lists : List (List ℕ)) (Ts Us : List Tree) (k : ℕ) (e : Entry) → Fits lists k e → ((i : ℕ) → i < k → tree_at Us i ≡ tree_at Ts i) → value_of lists Us e ≡ value_of lists Ts e
value_of-same lists Ts Us k (Number x) f h = refl
value_of-same lists Ts Us k (Options place n) f h = ap₂ (λ (a b : Trees). node (sorted a) (sorted b))
    (pick-same Ts Us _ (λ j l. h _ (left-below k n (list_at lists place) f.1.below j l)))
    (pick-same Ts Us _ (λ j l. h _ (right-below k n (list_at lists place) f.1.below j l)))

-- the tree of an id is what its entry means by all the trees
values_at : (lists : List (List ℕ)) (Ts : List Tree) (es : List Entry) → ((k : ℕ) → k < length es → Fits lists (length Ts + k) (entry_at es k)) → (k : ℕ) → k < length es → tree_at (values_after lists Ts es) (length Ts + k) ≡ value_of lists (values_after lists Ts es) (entry_at es k)
values_at lists Ts [] f k h = absurd (omega arith)
values_at lists Ts (e ∷ es) f zero h =
    let Us = Ts ++ value_of lists Ts e ∷ [] in
    let longer : length Us ≡ suc (length Ts) = omega (arith, length-append Ts (value_of lists Ts e ∷ [])) in
    values_after-first lists Us es (length Ts + 0) (omega (arith, longer))
    ∙ (rw add-zero (get_or-append_seam Ts (value_of lists Ts e) [] (node none none)))
    ∙ sym (value_of-same lists Ts (values_after lists Us es) (length Ts + 0) e (f 0 (omega arith))
    (λ i b. values_after-first lists Us es i (omega (arith, longer)) ∙ get_or_append_left Ts _ _ i (omega arith)))
values_at lists Ts (e ∷ es) f (suc k) h = let v = value_of lists Ts e in
    rw (moved Ts v k) (values_at lists (Ts ++ v ∷ []) es (λ j b. rw (← moved Ts v j) (f (suc j) (omega arith))) k (omega arith))

pub values-at : (lists : List (List ℕ)) (es : List Entry) → AllFit lists es → (k : ℕ) → k < length es → tree_at (values lists es) k ≡ value_of lists (values lists es) (entry_at es k)
values-at lists es f k h = rw (zero-add k) at (values_at lists [] es (λ j b. rw (zero-add j) (f j b)) k h)

fits-more : (lists extra : List (List ℕ)) (k : ℕ) (e : Entry) → Fits lists k e → Fits (lists ++ extra) k e
fits-more lists extra k (Number x) f = tt
fits-more lists extra k (Options place n) f = (omega (arith, f.0, length-append lists extra), subst (AreOptions k n) (sym (get_or_append_left lists extra [] place f.0)) f.1)

pub held-more : (lists extra : List (List ℕ)) (k : ℕ) (e : Entry) → Fits lists k e → held (lists ++ extra) e ≡ held lists e
held-more lists extra k (Number x) f = refl
held-more lists extra k (Options place n) f = ap (λ (is : List ℕ). options (take n is) (drop n is)) (get_or_append_left lists extra [] place f.0)

values_after-more : (lists extra : List (List ℕ)) (Ts : List Tree) (es : List Entry) → ((k : ℕ) → k < length es → Fits lists (length Ts + k) (entry_at es k)) → values_after (lists ++ extra) Ts es ≡ values_after lists Ts es
values_after-more lists extra Ts [] f = refl
values_after-more lists extra Ts (e ∷ es) f = let v = value_of lists Ts e in
    ap (λ w. values_after (lists ++ extra) (Ts ++ meaning Ts w ∷ []) es) (held-more lists extra (length Ts + 0) e (f 0 (omega arith)))
    ∙ values_after-more lists extra (Ts ++ v ∷ []) es (λ j b. rw (← moved Ts v j) (f (suc j) (omega arith)))

pub values-more : (lists extra : List (List ℕ)) (es : List Entry) → AllFit lists es → values (lists ++ extra) es ≡ values lists es
values-more lists extra es f = values_after-more lists extra [] es (λ j b. rw (zero-add j) (f j b))

-- more lists, and one more entry whose tree is new
pub kept-more : (lists extra : List (List ℕ)) (es : List Entry) → IsKept lists es → IsKept (lists ++ extra) es
kept-more lists extra es h = record {
  fit = λ k b. fits-more lists extra k _ (h.fit k b);
  distinct = rw (values-more lists extra es h.fit) h.distinct;
  canonical = rw (values-more lists extra es h.fit) h.canonical;
  no_numbers = rw (values-more lists extra es h.fit) h.no_numbers;
}

pub length-values : (lists : List (List ℕ)) (es : List Entry) → length (values lists es) ≡ length es
length-values lists es = length-values_after lists [] es ∙ zero-add (length es)

pub kept-push : (lists : List (List ℕ)) (es : List Entry) (e : Entry) → IsKept lists es → Fits lists (length es) e → ((k : ℕ) → k < length es → tree_at (values lists es) k ≡ value_of lists (values lists es) e → ⊥) → IsNoNumber (value_of lists (values lists es) e) e → IsCanonicalTree (value_of lists (values lists es) e) → IsKept lists (es ++ e ∷ [])
kept-push lists es e h f new no_number is_canonical =
    let Ts = values lists es in
    let v = value_of lists Ts e in
    let other : (i : ℕ) → i < length Ts → tree_at Ts i ≡ v → ⊥ = λ i p. new i (omega (arith, p, length-values lists es)) in
    let distinct : AreDistinct (Ts ++ v ∷ []) = λ i j a b.
    push_one (λ m t. t ≡ tree_at (Ts ++ v ∷ []) j → m ≡ j) Ts v (node none none)
    (λ m p. push_one (λ n t. tree_at Ts m ≡ t → m ≡ n) Ts v (node none none) (λ n q. h.distinct m n p q) (λ e'. absurd (other m p e')) j b)
    (push_one (λ n t. v ≡ t → length Ts ≡ n) Ts v (node none none) (λ n q e'. absurd (other n q (sym e'))) (λ _. refl) j b) i a in record {
      fit = push_one (Fits lists) es e (Number (pos 0)) h.fit f;
      distinct = rw (values_after-push lists [] es e) distinct;
      canonical = rw (values_after-push lists [] es e) (push_one (λ _ t. IsCanonicalTree t) Ts v (node none none) h.canonical is_canonical);
      no_numbers = rw (values_after-push lists [] es e)
          (push_both (λ _ t d. IsNoNumber t d) Ts es v (node none none) e (Number (pos 0)) (length-values lists es) h.no_numbers no_number);
    }

-- the ids of a list, by the trees
pub has-pick : (Ts : List Tree) (xs : List ℕ) (G : Tree) → Has (pick Ts xs) G → (j : ℕ) × (j < length xs) × (G ≡ tree_at Ts (get_or xs j 0))
has-pick Ts [] G h = absurd h
has-pick Ts (x ∷ xs) G (inl e) = (0, omega arith, e)
has-pick Ts (x ∷ xs) G (inr h) = let r = has-pick Ts xs G h in (suc r.0, omega (arith, r.1), r.2)

pub pick-has : (Ts : List Tree) (xs : List ℕ) (j : ℕ) → j < length xs → Has (pick Ts xs) (tree_at Ts (get_or xs j 0))
pick-has Ts [] j h = absurd (omega arith)
pick-has Ts (x ∷ xs) zero h = inl refl
pick-has Ts (x ∷ xs) (suc j) h = inr (pick-has Ts xs j (omega arith))

-- ascending lists with the same ids are the same
abbrev Within_list : List ℕ → List ℕ → Type 0
Within_list xs ys = (i : ℕ) → i < length xs → (j : ℕ) × (j < length ys) × (get_or xs i 0 ≡ get_or ys j 0)

heads-le : (x y : ℕ) (xs ys : List ℕ) → IsAscending (x ∷ xs) → (j : ℕ) × (j < length (x ∷ xs)) × (y ≡ get_or (x ∷ xs) j 0) → x ≤ y
heads-le x y xs ys a (zero, l, e) = omega (arith, e)
heads-le x y xs ys a (suc j, l, e) = omega (arith, e, a 0 (suc j) (omega arith) l)

rest-within : (x y : ℕ) (xs ys : List ℕ) → x ≡ y → IsAscending (x ∷ xs) → Within_list (x ∷ xs) (y ∷ ys) → Within_list xs ys
rest-within x y xs ys e a f i l = at (f (suc i) (omega arith))
  where
    at : (j : ℕ) × (j < length (y ∷ ys)) × (get_or xs i 0 ≡ get_or (y ∷ ys) j 0) → (j : ℕ) × (j < length ys) × (get_or xs i 0 ≡ get_or ys j 0)
    at (zero, k, p) = absurd (omega (arith, a 0 (suc i) (omega arith) (omega (arith, l)), p, e))
    at (suc j, k, p) = (j, omega (arith, k), p)

same-ids : (xs ys : List ℕ) → IsAscending xs → IsAscending ys → Within_list xs ys → Within_list ys xs → xs ≡ ys
same-ids [] [] a b f g = refl
same-ids [] (y ∷ ys) a b f g = absurd (let r = g 0 (omega arith) in omega (arith, r.1))
same-ids (x ∷ xs) [] a b f g = absurd (let r = f 0 (omega arith) in omega (arith, r.1))
same-ids (x ∷ xs) (y ∷ ys) a b f g =
    let p : x ≤ y = heads-le x y xs ys a (g 0 (omega arith)) in
    let q : y ≤ x = heads-le y x ys xs b (f 0 (omega arith)) in
    let e : x ≡ y = omega (arith, p, q) in
    ap₂ ◌∷◌ e (same-ids xs ys
    (λ i j l h. a (suc i) (suc j) (omega arith) (omega arith)) (λ i j l h. b (suc i) (suc j) (omega arith) (omega arith))
    (rest-within x y xs ys e a f) (rest-within y x ys xs (sym e) b g))

within-from : (Ts : List Tree) → AreDistinct Ts → (xs ys : List ℕ) → AreIds Ts xs → AreIds Ts ys → sorted (pick Ts xs) ≡ sorted (pick Ts ys) → Within_list xs ys
within-from Ts d xs ys p q e i l =
    let h = sorted-has (pick Ts ys) _ (subst (λ z. Has z (tree_at Ts (get_or xs i 0))) e (has-sorted (pick Ts xs) _ (pick-has Ts xs i l))) in
    let r = has-pick Ts ys _ h in
    (r.0, r.1, d _ _ (p i l) (q r.0 r.1) r.2)

pub pick-one_to_one : (Ts : List Tree) → AreDistinct Ts → (xs ys : List ℕ) → IsAscending xs → IsAscending ys → AreIds Ts xs → AreIds Ts ys → sorted (pick Ts xs) ≡ sorted (pick Ts ys) → xs ≡ ys
pick-one_to_one Ts d xs ys a b p q e = same-ids xs ys a b (within-from Ts d xs ys p q e) (within-from Ts d ys xs q p (sym e))

-- what the options that may be kept are
abbrev pub AreLists : List Tree → Wanted → Type 0
AreLists Ts (number x) = Unit {0}
AreLists Ts (options ls rs) = AreIds Ts ls × AreIds Ts rs × IsAscending ls × IsAscending rs × (IsNumberTree (form Ts ls rs) → ⊥) × (0 < length ls) × (0 < length rs)

-- what may be kept: a number, or options that are ids in order and whose form is canonical and no number's
pub record MayKeep (Ts : List Tree) (w : Wanted) : Type 0 where
  pub canonical : IsCanonicalTree (meaning Ts w)
  pub lists : AreLists Ts w

-- an entry means what is wanted only where it holds that
pub held-is : (lists : List (List ℕ)) (es : List Entry) → IsKept lists es → (w : Wanted) → MayKeep (values lists es) w → (k : ℕ) → k < length es → tree_at (values lists es) k ≡ meaning (values lists es) w → held lists (entry_at es k) ≡ w
held-is lists es h w keep k l e = at_entry (entry_at es k) w (h.fit k l) (h.no_numbers k l) keep.lists (sym (values-at lists es h.fit k l) ∙ e) e
  where
    at_entry : (e : Entry) (w : Wanted) → Fits lists k e → IsNoNumber (tree_at (values lists es) k) e → AreLists (values lists es) w
        → value_of lists (values lists es) e ≡ meaning (values lists es) w → tree_at (values lists es) k ≡ meaning (values lists es) w
        → held lists e ≡ w
    at_entry (Number x) (number y) f n a i t = ap number (num-one_to_one 60 x y i)
    at_entry (Number x) (options ls rs) f n a i t = absurd (a.4 (60, x, sym i))
    at_entry (Options place n) (number y) f no_number a i t = absurd (no_number (60, y, t))
    at_entry (Options place n) (options ls rs) f no_number a i t =
        let is = list_at lists place in
        let same = pick-one_to_one (values lists es) h.distinct in
        let ids : (is : List ℕ) → AreBelow k is → AreIds (values lists es) is =
        λ _ b j i. omega (arith, b j i, l, length-values lists es) in
        ap₂ options (same (take n is) ls f.1.left_ascends a.2 (ids (take n is) (left-below k n is f.1.below)) a.0 (ap left i))
        (same (drop n is) rs f.1.right_ascends a.3 (ids (drop n is) (right-below k n is f.1.below)) a.1 (ap right i))

-- and such an entry does mean it
pub held-from : (lists : List (List ℕ)) (es : List Entry) → IsKept lists es → (w : Wanted) → (k : ℕ) → k < length es → held lists (entry_at es k) ≡ w → tree_at (values lists es) k ≡ meaning (values lists es) w
held-from lists es h w k l f = values-at lists es h.fit k l ∙ ap (meaning (values lists es)) f

-- both sides as one list
pub joined-options : (k : ℕ) (ls rs : List ℕ) → AreBelow k ls → AreBelow k rs → IsAscending ls → IsAscending rs → 0 < length ls → 0 < length rs → AreOptions k (length ls) (ls ++ rs)
joined-options k ls rs p q a b some some' = record {
  below = λ j l. elim (cases_lt j (length ls)) [
    | inl c ↦ rw (get_or_append_left ls rs 0 j c) (p j c)
    | inr c ↦ rw (get_or-append_right ls rs j 0 c) (q (j - length ls) (omega (arith, c, l, length-append ls rs)))
  ];
  left_ascends = subst IsAscending (sym (take-append_seam ls rs)) a;
  right_ascends = subst IsAscending (sym (drop-append_seam ls rs)) b;
  left_some = some;
  right_some = omega (arith, some', length-append ls rs);
}

-- an entry that holds what is wanted and isn't there yet
pub record IsNew (lists : List (List ℕ)) (es es2 : List Entry) (w : Wanted) : Type 0 where
  pub kept : IsKept lists es2
  pub values_are : values lists es2 ≡ values lists es ++ meaning (values lists es) w ∷ []

no_number_of : (Ts : List Tree) (lists : List (List ℕ)) (e : Entry) (w : Wanted) → held lists e ≡ w → AreLists Ts w → IsNoNumber (meaning Ts w) e
no_number_of Ts lists (Number x) w i a = tt
no_number_of Ts lists (Options place n) (number x) i a = cc
no_number_of Ts lists (Options place n) (options ls rs) i a = a.4

pub new-entry : (lists : List (List ℕ)) (es : List Entry) (e : Entry) (w : Wanted) → IsKept lists es → MayKeep (values lists es) w → Fits lists (length es) e → held lists e ≡ w → ((k : ℕ) → k < length es → held lists (entry_at es k) ≡ w → ⊥) → IsNew lists es (es ++ e ∷ []) w
new-entry lists es e w h keep fits is absent = record {
  kept = kept-push lists es e h fits
      (λ k l i. absent k l (held-is lists es h w keep k l (i ∙ ap (meaning (values lists es)) is)))
      (subst (λ t. IsNoNumber t e) (sym (ap (meaning (values lists es)) is)) (no_number_of (values lists es) lists e w is keep.lists))
      (subst IsCanonicalTree (sym (ap (meaning (values lists es)) is)) keep.canonical);
  values_are = values_after-push lists [] es e ∙ ap (λ v. values lists es ++ v ∷ []) (ap (meaning (values lists es)) is);
}

pub extends-same : (Ts Us : List Tree) → Us ≡ Ts → Extends Ts Us
extends-same Ts Us e = record { longer = rw e (omega arith); same = λ i l. rw e }

pub extends-push : (Ts Us : List Tree) (v : Tree) → Us ≡ Ts ++ v ∷ [] → Extends Ts Us
extends-push Ts Us v e = record { longer = rw e (omega (arith, length-append Ts (v ∷ []))); same = λ i l. rw e (get_or_append_left Ts (v ∷ []) (node none none) i l) }

-- the new id has the new tree
pub last-value : (Ts Us : List Tree) (v : Tree) (n : ℕ) → n ≡ length Ts → Us ≡ Ts ++ v ∷ [] → (n < length Us) × (tree_at Us n ≡ v)
last-value Ts Us v n n_is e = rw (e, n_is) (omega (arith, length-append Ts (v ∷ [])), get_or-append_seam Ts v [] (node none none))

-- what the last place with a fingerprint is
pub record IsLast (P : ℕ → ℕ) (n p k : ℕ) : Type 0 where
  pub below : k < n
  pub fingerprint_is : P k ≡ p
  pub none_after : (j : ℕ) → k < j → j < n → P j ≡ p → ⊥

pub latest-some : (P : ℕ → ℕ) (n p k : ℕ) → Some k ≡ latest_of P n p → IsLast P n p k
latest-some P zero p k e = cc
latest-some P (suc n) p k e = elim (cases_Bool (nat_eq (P n) p)) [
  | inl t ↦ (
      let same : k ≡ n = same_Some k n (rw t at e) in
      record { below = omega (arith, same); fingerprint_is = rw same (eqb-true _ _ t); none_after = λ j a b _. absurd (omega (arith, a, b, same)) }
      )
  | inr f ↦ (
      let l = latest-some P n p k (rw f at e) in record {
        below = omega (arith, l.below);
        fingerprint_is = l.fingerprint_is;
        none_after = λ j a b i. elim (cases_lt j n) [
          | inl c ↦ l.none_after j a c i
          | inr c ↦ eqb-false _ _ f (let same : n ≡ j = omega (arith, b, c) in rw same i)
        ];
      }
      )
]

pub latest-none : (P : ℕ → ℕ) (n p : ℕ) → None ≡ latest_of P n p → (k : ℕ) → k < n → P k ≡ p → ⊥
latest-none P zero p h k a e = absurd (omega arith)
latest-none P (suc n) p h k a e = elim (cases_Bool (nat_eq (P n) p)) [
  | inl t ↦ (let i : None ≡ Some n = rw t at h in cc)
  | inr f ↦ elim (cases_lt k n) [
    | inl b ↦ latest-none P n p (rw f at h) k b e
    | inr b ↦ eqb-false _ _ f (let same : n ≡ k = omega (arith, a, b) in rw same e)
  ]
]

-- a walk along a chain: a place on it is a slot's, the walk goes on to the slot before, a measure falls, and at the end no slot holds what is sought
module _ {lists : List (List ℕ)} {slots : List Slot} {w : Wanted} {at : Option ℕ} (walk : IsAt lists slots w at) where
  module _ {k : ℕ} (e : at ≡ Some k) where
    last : IsLast (fingerprints lists slots) walk.left (fingerprint w) k
    last = latest-some _ _ _ k (sym e ∙ walk.is)

    pub at-within : k < length slots
    at-within = omega (arith, last.below, walk.within)

    module _ {next : Option ℕ} (befores : HasBefores lists slots) (step : next ≡ before_at slots k) where
      is : next ≡ latest_of (fingerprints lists slots) k (fingerprints lists slots k)
      is = step ∙ befores k at-within

      pub at-next : (held lists (entry_at (entries_of slots) k) ≡ w → ⊥) → IsAt lists slots w next
      at-next not_this = record { left = k; within = omega (arith, at-within); is = is ∙ ap (latest_of (fingerprints lists slots) k) last.fingerprint_is; passed = passed }
        where
          passed : (j : ℕ) → k ≤ j → j < length slots → held lists (entry_at (entries_of slots) j) ≡ w → ⊥
          passed j b c f = elim (cases_lt j walk.left) [
            | inl d ↦ elim (cases_lt k j) [
              | inl g ↦ last.none_after j g d (ap fingerprint f)
              | inr g ↦ not_this (let same : k ≡ j = omega (arith, b, g) in rw same f)
            ]
            | inr d ↦ walk.passed j d c f
          ]

      pub at-smaller : place next < place at
      at-smaller = rw e (by_next next is)
        where
          by_next : (o : Option ℕ) → o ≡ latest_of (fingerprints lists slots) k (fingerprints lists slots k) → place o < suc k
          by_next None q = omega arith
          by_next (Some j) q = let l : IsLast (fingerprints lists slots) k (fingerprints lists slots k) j = latest-some _ _ _ j q in omega (arith, l.below)

  pub at-end : at ≡ None → (k : ℕ) → k < length slots → held lists (entry_at (entries_of slots) k) ≡ w → ⊥
  at-end e k b f = elim (cases_lt k walk.left) [
    | inl c ↦ latest-none _ _ _ (sym e ∙ walk.is) k c (ap fingerprint f)
    | inr c ↦ walk.passed k c b f
  ]

pub length-entries : (slots : List Slot) → length (entries_of slots) ≡ length slots
length-entries slots = length-map slots (λ s. s.entry)

pub entry-at : (slots : List Slot) (k : ℕ) → entry_at (entries_of slots) k ≡ (slot_at slots k).entry
entry-at slots k = get_or-map (λ (s : Slot). s.entry) slots k _

pub within-at : (lists : List (List ℕ)) (slots : List Slot) (k : ℕ) → Within lists (entries_of slots) → k < length slots → IsWithin lists (slot_at slots k).entry
within-at lists slots k w l = subst (IsWithin lists) (entry-at slots k) (w k (omega (arith, l, length-entries slots)))

-- the chains don't change with more lists, and a new slot heads its chain
latest-same : (P Q : ℕ → ℕ) (n p : ℕ) → ((k : ℕ) → k < n → P k ≡ Q k) → latest_of P n p ≡ latest_of Q n p
latest-same P Q zero p h = refl
latest-same P Q (suc n) p h = rw (h n (omega arith), latest-same P Q n p (λ k l. h k (omega arith)))

pub chained-more : (lists extra : List (List ℕ)) (slots : List Slot) (L : ℕ → Option ℕ) → AllFit lists (entries_of slots) → IsChained lists slots L → IsChained (lists ++ extra) slots L
chained-more lists extra slots L f c = record {
  befores = λ k l. c.befores k l ∙ sym (latest-same _ _ k _ (λ j b. same j (omega (arith, b, l)))) ∙ ap (latest_of (fingerprints (lists ++ extra) slots) k) (sym (same k l));
  latest_is = λ p. c.latest_is p ∙ sym (latest-same _ _ (length slots) p same);
}
  where
    same : (k : ℕ) → k < length slots → fingerprints (lists ++ extra) slots k ≡ fingerprints lists slots k
    same k l = ap fingerprint (held-more lists extra k _ (f k (omega (arith, l, length-entries slots))))

pub chained-push : (lists : List (List ℕ)) (slots : List Slot) (L L' : ℕ → Option ℕ) (s : Slot) (p : ℕ) → IsChained lists slots L → fingerprint (held lists s.entry) ≡ p → s.before ≡ L p → ((q : ℕ) → L' q ≡ cond (nat_eq p q) (Some (length slots)) (L q)) → IsChained lists (slots ++ s ∷ []) L'
chained-push lists slots L L' s p c p_is b_is l_is =
    let P = fingerprints lists (slots ++ s ∷ []) in
    let at : (k : ℕ) (t : Slot) → slot_at (slots ++ s ∷ []) k ≡ t → P k ≡ fingerprint (held lists t.entry) = λ k t e.
    ap (λ x. fingerprint (held lists x)) (entry-at (slots ++ s ∷ []) k ∙ ap (λ x. x.entry) e) in
    let old : (k : ℕ) → k < length slots → P k ≡ fingerprints lists slots k = λ k l.
    at k _ (get_or_append_left slots (s ∷ []) _ k l) ∙ ap (λ x. fingerprint (held lists x)) (sym (entry-at slots k)) in
    let new : P (length slots) ≡ p = at (length slots) s (get_or-append_seam slots s [] _) ∙ p_is in
    let all_old : (q : ℕ) → latest_of P (length slots) q ≡ latest_of (fingerprints lists slots) (length slots) q = λ q.
    latest-same _ _ (length slots) q old in
    let count : length (slots ++ s ∷ []) ≡ suc (length slots) = omega (arith, length-append slots (s ∷ [])) in record {
      befores = push_one (λ k t. t.before ≡ latest_of P k (P k)) slots s _
          (λ k b. c.befores k b ∙ sym (latest-same _ _ k _ (λ j d. old j (omega (arith, b, d)))) ∙ ap (latest_of P k) (sym (old k b)))
          (b_is ∙ c.latest_is p ∙ sym (all_old p) ∙ ap (latest_of P (length slots)) (sym new));
      latest_is = λ q. rw (count, new, all_old q, ← c.latest_is q) (l_is q);
    }
