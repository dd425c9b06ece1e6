-- The floors and ceilings of forms, and what holds of a store's fields as a form is added.
use Rattle.std.proofs.Common.{below_more, ℕ, ◌+◌, ◌<◌, ◌≡◌, List, length, get_or, arith, refl, sym, subst, ℤ, pos, ◌-ℤ◌, ◌+ℤ◌, ◌≤ℤ◌, [], ◌∷◌, ◌++◌, ◌∙◌, ap, ap₂, cond, nat_eq, Some, ◌↔◌, ◌<ℤ◌, Bool, true, take, drop, Option, Ordering, Less, Equal, Greater}
use Rattle.std.specs.Int.{int_max, int_min}
use Rattle.std.proofs.lemmas.Int.{ints, clamps, by_lt_z}
use Rattle.std.proofs.lemmas.Bool.{false≢true}
use Rattle.game_store.specs.declared.Slot.{Slot}
use Rattle.dyadic_num.specs.Units.{IsInBounds}
use Rattle.short_games.specs.Tree.{Tree, Has, tree_at, node, none}
use Rattle.short_games.specs.Number.{num, IsNumber, number_tree}
use Rattle.short_games.specs.TextOrder.{sorted, IsCanonicalTree}
use Rattle.short_games.specs.Threshold.{IsFloor, IsCeiling, IsCell}
use Rattle.game_store.specs.Places.{IsFloorRange, IsCeilingRange}
use Rattle.game_store.specs.inner.Places.{IsPlaced, ArePlaced, floor_at, ceiling_at, IsGreatestFloor, IsLeastCeiling}
use Rattle.short_games.specs.Stops.{IsLeftStop, IsRightStop}
use Rattle.game_store.specs.Meaning.{pick, form, AreIds, AreBelow, IsAscending, Wanted, AreCanonical, IsIdOf}
use Rattle.short_games.proofs.TextOrderLaws.{sorted-has, has-sorted}
use Rattle.short_games.proofs.ReductionLaws.{canonical-number}
use Rattle.short_games.proofs.ThresholdLaws.{number-floor, number-ceiling, half-cell}
use Rattle.short_games.proofs.StopLaws.{IsGreatest, IsLeast, ceiling-by, floor-by, number-left_stop, number-right_stop, game-left_stop, game-right_stop}
use Rattle.game_store.proofs.EntryLaws.{has-pick, pick-has, joined-options, left-below, right-below, MayKeep, new-entry, IsNew, held-more, held-from, length-values, chained-more, chained-push, length-entries, kept-more, values-more, push_both}
use Rattle.game_store.specs.declared.Entry.{Entry}
use Rattle.game_store.specs.declared.Entry.TheVariants.{Number, Options}
use Rattle.game_store.specs.inner.Meaning.{values, IsKept, entry_at, held, meaning, Fits, AreOptions, list_at, IsNoNumber}
use Rattle.game_store.specs.Meaning.Wanted.{number, options}
use Rattle.game_store.specs.Forms.{IsMeaning, IsWithinBounds, HaveForms}
use Rattle.game_store.specs.inner.Chain.{entries_of, IsChained, fingerprint}
use Rattle.std.proofs.lemmas.List.{map-append, length-append, length-take, length-drop}
use Rattle.std.proofs.Math.Seq.{get_or-append_seam, take-append_seam, drop-append_seam}
use Rattle.short_games.proofs.OrderLaws.{le-refl}
use Rattle.short_games.proofs.NumberLaws.{num-double}
use Rattle.std.specs.Cmp.{int_ranks}
use Rattle.std.specs.Ordering.{MatchOrdering, is_le, is_gt, int_cmp}

-- what comparing two places says of them as numbers of half parts
pub at_most : (x y : ℤ) (b : Bool) → b ≡ is_le (int_cmp x y) → (b ≡ true) ↔ (x ≤ℤ y)
at_most x y b e = subst (λ a. (a ≡ true) ↔ (x ≤ℤ y)) (sym e) (said (int_cmp x y) (int_ranks x y))
  where
    said : (r : Ordering) → MatchOrdering r (x <ℤ y) (x ≡ y) (y <ℤ x) → (is_le r ≡ true) ↔ (x ≤ℤ y)
    said Less m = (λ _. omega (arith, ints, m), λ _. refl)
    said Equal m = (λ _. omega (arith, ints, m), λ _. refl)
    said Greater m = (λ f. absurd (false≢true f), λ l. absurd (omega (arith, ints, m, l)))

pub is_above : (x y : ℤ) (b : Bool) → b ≡ is_gt (int_cmp x y) → (b ≡ true) ↔ (y <ℤ x)
is_above x y b e = subst (λ a. (a ≡ true) ↔ (y <ℤ x)) (sym e) (said (int_cmp x y) (int_ranks x y))
  where
    said : (r : Ordering) → MatchOrdering r (x <ℤ y) (x ≡ y) (y <ℤ x) → (is_gt r ≡ true) ↔ (y <ℤ x)
    said Less m = (λ f. absurd (false≢true f), λ l. absurd (omega (arith, ints, m, l)))
    said Equal m = (λ f. absurd (false≢true f), λ l. absurd (omega (arith, ints, m, l)))
    said Greater m = (λ _. m, λ _. refl)

-- the bounds so far
pub record LeastSoFar (slots : List Slot) (is : List ℕ) (n : ℕ) (x : ℤ) : Type 0 where
  pub bound : (j : ℕ) → j < n → x ≤ℤ ceiling_at slots (get_or is j 0)
  pub reached : (j : ℕ) × (j < length is) × (ceiling_at slots (get_or is j 0) ≡ x)

pub record GreatestSoFar (slots : List Slot) (is : List ℕ) (n : ℕ) (x : ℤ) : Type 0 where
  pub bound : (j : ℕ) → j < n → floor_at slots (get_or is j 0) ≤ℤ x
  pub reached : (j : ℕ) × (j < length is) × (floor_at slots (get_or is j 0) ≡ x)

pub least_step : (slots : List Slot) (is : List ℕ) (n : ℕ) (x y z : ℤ) → LeastSoFar slots is n x → n < length is → y ≡ ceiling_at slots (get_or is n 0) → z ≡ int_min x y → LeastSoFar slots is (n + 1) z
least_step slots is n x y z s l e d = record {
  bound = below_more (λ j. z ≤ℤ ceiling_at slots (get_or is j 0)) n (λ j c. omega (arith, ints, clamps, s.bound j c, d))
      (omega (arith, ints, clamps, e, d));
  reached = by_lt_z y x (λ c. (n, l, omega (arith, ints, clamps, c, e, d)))
      (λ c. (s.reached.0, s.reached.1, omega (arith, ints, clamps, c, d, s.reached.2)));
}

pub greatest_step : (slots : List Slot) (is : List ℕ) (n : ℕ) (x y z : ℤ) → GreatestSoFar slots is n x → n < length is → y ≡ floor_at slots (get_or is n 0) → z ≡ int_max x y → GreatestSoFar slots is (n + 1) z
greatest_step slots is n x y z s l e d = record {
  bound = below_more (λ j. floor_at slots (get_or is j 0) ≤ℤ z) n (λ j c. omega (arith, ints, clamps, s.bound j c, d))
      (omega (arith, ints, clamps, e, d));
  reached = by_lt_z x y (λ c. (n, l, omega (arith, ints, clamps, c, e, d)))
      (λ c. (s.reached.0, s.reached.1, omega (arith, ints, clamps, c, d, s.reached.2)));
}

-- a number's floor and ceiling are twice the number
pub number-placed : (x y : ℤ) → IsInBounds x → y ≡ x +ℤ x → IsPlaced (number_tree x) y y
number-placed x y b e = rw e record {
  floor_is = number-floor 60 x;
  ceiling_is = number-ceiling 60 x;
  floor_range = (omega (arith, ints, b), omega (arith, ints, b));
  ceiling_range = (omega (arith, ints, b), omega (arith, ints, b));
  left_stop = (x, number-left_stop 60 (num 60 x) x refl);
  right_stop = (x, number-right_stop 60 (num 60 x) x refl);
}

pub record Holds (Ts : List Tree) (lists : List (List ℕ)) (slots : List Slot) (L : ℕ → Option ℕ) : Type 0 where
  pub all : IsKept lists (entries_of slots) × IsChained lists slots L × ArePlaced (values lists (entries_of slots)) slots
  pub values_are : values lists (entries_of slots) ≡ Ts

pub holds : {Ts : List Tree} {lists : List (List ℕ)} {slots : List Slot} {L : ℕ → Option ℕ}
    → IsKept lists (entries_of slots) × IsChained lists slots L × ArePlaced (values lists (entries_of slots)) slots → values lists (entries_of slots) ≡ Ts
    → Holds Ts lists slots L
holds a v = record { all = a; values_are = v }

placed-number : (x f c : ℤ) → IsPlaced (number_tree x) f c → IsInBounds x
placed-number x f c p =
    let cell : IsCell 60 (num 60 x) (x +ℤ x) = subst (λ t. IsCell 60 t (x +ℤ x)) (num-double 60 x) (half-cell 60 (x +ℤ x)) in
    let a = (p.floor_is 60 x (x +ℤ x) cell).0 (le-refl (num 60 x)) in
    let b = (p.ceiling_is 60 x (x +ℤ x) cell).0 (le-refl (num 60 x)) in
    omega (arith, ints, a, b, p.floor_range, p.ceiling_range)

module _ {Ts : List Tree} {lists : List (List ℕ)} {slots : List Slot} {L : ℕ → Option ℕ} (h : Holds Ts lists slots L) where
  abbrev es : List Entry
  es = entries_of slots

  pub length-trees : length Ts ≡ length slots
  length-trees = ap length (sym h.values_are) ∙ length-values lists es ∙ length-entries slots

  -- an id has a slot, whose places are its tree's
  pub in_range : (id : ℕ) → id < length Ts → id < length slots
  in_range id l = omega (arith, l, length-trees)

  pub ids-below : (is : List ℕ) → AreIds Ts is → AreBelow (length slots) is
  ids-below is a j l = in_range (get_or is j 0) (a j l)

  pub placed-at : (id : ℕ) → id < length Ts → IsPlaced (tree_at Ts id) (floor_at slots id) (ceiling_at slots id)
  placed-at id l = subst (λ us. ArePlaced us slots) h.values_are h.all.2 id (in_range id l)

  pub canonical-at : (id : ℕ) → id < length Ts → IsCanonicalTree (tree_at Ts id)
  canonical-at = subst AreCanonical h.values_are h.all.0.canonical

  -- what an id means
  value-at : (k : ℕ) → k < length slots → (w : Wanted) → held lists (entry_at es k) ≡ w → tree_at Ts k ≡ meaning Ts w
  value-at k l w i = subst (λ us. tree_at us k ≡ meaning us w) h.values_are (held-from lists es h.all.0 w k (omega (arith, l, length-entries slots)) i)

  pub found : (k : ℕ) (w : Wanted) → (k < length slots) × (held lists (entry_at es k) ≡ w) → IsIdOf Ts (meaning Ts w) k
  found k w (l, i) = (omega (arith, l, length-trees), value-at k l w i)

  pub means : (k : ℕ) → k < length slots → (w : Wanted) → held lists (entry_at es k) ≡ w → IsMeaning Ts k w
  means k l w i =
      let short : k < length es = omega (arith, l, length-entries slots) in
      at (entry_at es k) (h.all.0.fit k short) (subst (λ us. IsNoNumber (tree_at us k) (entry_at es k)) h.values_are (h.all.0.no_numbers k short)) w i (value-at k l w i)
    where
      at : (e : Entry) → Fits lists k e → IsNoNumber (tree_at Ts k) e → (w : Wanted) → held lists e ≡ w → tree_at Ts k ≡ meaning Ts w → IsMeaning Ts k w
      at (Number y) f n (number x) i t = t
      at (Number y) f n (options ls rs) i t = cc
      at (Options p m) f n (number x) i t = cc
      at (Options p m) f n (options ls rs) i t = let is = list_at lists p in let l_is : take m is ≡ ls = cc in let r_is : drop m is ≡ rs = cc in record {
        tree = t;
        left_below = subst (AreBelow k) l_is (left-below k m is f.1.below);
        right_below = subst (AreBelow k) r_is (right-below k m is f.1.below);
        left_ascends = subst IsAscending l_is f.1.left_ascends;
        right_ascends = subst IsAscending r_is f.1.right_ascends;
        left_some = subst (λ (xs : List ℕ). 0 < length xs) l_is (omega (arith, f.1.left_some, f.1.right_some, length-take m is));
        right_some = subst (λ (xs : List ℕ). 0 < length xs) r_is (omega (arith, f.1.right_some, length-drop m is));
        no_number = n;
      }

  -- each number of a store is within the bounds of a Dyadic, since its floor and its ceiling are
  pub have-forms : HaveForms Ts
  have-forms id l = let w = held lists (entry_at es id) in let m = means id (in_range id l) w refl in (w, m, bounds w m)
    where
      bounds : (w : Wanted) → IsMeaning Ts id w → IsWithinBounds w
      bounds (number x) t = placed-number x _ _ (subst (λ G. IsPlaced G (floor_at slots id) (ceiling_at slots id)) t (placed-at id l))
      bounds (options ls rs) t = tt

  -- the option at a place of the list
  option : (is : List ℕ) (G : Tree) → Has (sorted (pick Ts is)) G → (j : ℕ) × (j < length is) × (G ≡ tree_at Ts (get_or is j 0))
  option is G h = has-pick Ts is G (sorted-has (pick Ts is) G h)

  has-option : (is : List ℕ) (j : ℕ) → j < length is → Has (sorted (pick Ts is)) (tree_at Ts (get_or is j 0))
  has-option is j l = has-sorted (pick Ts is) _ (pick-has Ts is j l)

  greatest-floor : (is : List ℕ) (k : ℤ) → AreIds Ts is → IsGreatestFloor slots is k → IsGreatest (IsFloor 60) (sorted (pick Ts is)) k
  greatest-floor is k a g = record {
    bound = λ G h. (let o = option is G h in (floor_at slots (get_or is o.0 0), subst (λ t. IsFloor 60 t (floor_at slots (get_or is o.0 0))) (sym o.2) (placed-at _ (a o.0 o.1)).floor_is, g.bound o.0 o.1));
    reached = (tree_at Ts (get_or is g.reached.0 0), has-option is g.reached.0 g.reached.1, subst (IsFloor 60 (tree_at Ts (get_or is g.reached.0 0))) g.reached.2 (placed-at _ (a g.reached.0 g.reached.1)).floor_is);
  }

  least-ceiling : (is : List ℕ) (k : ℤ) → AreIds Ts is → IsLeastCeiling slots is k → IsLeast (IsCeiling 60) (sorted (pick Ts is)) k
  least-ceiling is k a g = record {
    bound = λ G h. (let o = option is G h in (ceiling_at slots (get_or is o.0 0), subst (λ t. IsCeiling 60 t (ceiling_at slots (get_or is o.0 0))) (sym o.2) (placed-at _ (a o.0 o.1)).ceiling_is, g.bound o.0 o.1));
    reached = (tree_at Ts (get_or is g.reached.0 0), has-option is g.reached.0 g.reached.1, subst (IsCeiling 60 (tree_at Ts (get_or is g.reached.0 0))) g.reached.2 (placed-at _ (a g.reached.0 g.reached.1)).ceiling_is);
  }

  pub floor-small : (is : List ℕ) (x : ℤ) → AreIds Ts is → IsGreatestFloor slots is x → IsFloorRange x
  floor-small is x a l = subst IsFloorRange l.reached.2 (placed-at _ (a l.reached.0 l.reached.1)).floor_range

  -- the places of a form are what its options set
  pub options-placed : (ls rs : List ℕ) (f c : ℤ) → MayKeep Ts (options ls rs) → IsLeastCeiling slots rs f → IsGreatestFloor slots ls c
      → (x y : ℤ) → x ≡ f -ℤ pos 1 → y ≡ c +ℤ pos 1 → IsPlaced (form Ts ls rs) x y
  options-placed ls rs f c keep p q x y x_is y_is =
      let G = form Ts ls rs in
      let a = keep.lists.0 in
      let b = keep.lists.1 in
      let no_number : IsNumber G → ⊥ = λ i. keep.lists.4 (i.0, i.1, canonical-number G keep.canonical i) in rw (x_is, y_is) record {
        floor_is = floor-by 60 G f no_number (least-ceiling rs f b p);
        ceiling_is = ceiling-by 60 G c no_number (greatest-floor ls c a q);
        floor_range = (let r = subst IsCeilingRange p.reached.2 (placed-at _ (b p.reached.0 p.reached.1)).ceiling_range in
            (omega (arith, ints, r.0, r.1), omega (arith, ints, r.0, r.1)));
        ceiling_range = (let r = floor-small ls c a q in (omega (arith, ints, r.0, r.1), omega (arith, ints, r.0, r.1)));
        left_stop = game-left_stop 60 G keep.lists.4
            (λ L h. (let o = option ls L h in subst (λ t. (x : ℤ) × IsRightStop 60 t x) (sym o.2) (placed-at _ (a o.0 o.1)).right_stop))
            _ (has-option ls q.reached.0 q.reached.1);
        right_stop = game-right_stop 60 G keep.lists.4
            (λ R h. (let o = option rs R h in subst (λ t. (x : ℤ) × IsLeftStop 60 t x) (sym o.2) (placed-at _ (b o.0 o.1)).left_stop))
            _ (has-option rs p.reached.0 p.reached.1);
      }

  -- more lists, and another way to look up the latest
  pub holds-more : (extra lists1 : List (List ℕ)) → lists1 ≡ lists ++ extra → Holds Ts lists1 slots L
  holds-more extra lists1 is =
      let same = values-more lists extra es h.all.0.fit in rw is record {
        all = (kept-more lists extra es h.all.0, chained-more lists extra slots L h.all.0.fit h.all.1, subst (λ us. ArePlaced us slots) (sym same) h.all.2);
        values_are = same ∙ h.values_are;
      }

  pub holds-map : (L' : ℕ → Option ℕ) → ((q : ℕ) → L' q ≡ L q) → Holds Ts lists slots L'
  holds-map L' e = record { all = (h.all.0, record { befores = h.all.1.befores; latest_is = λ p. e p ∙ h.all.1.latest_is p }, h.all.2); values_are = h.values_are }

  -- a new form
  pub holds-new : (slots2 : List Slot) (L' : ℕ → Option ℕ) (w : Wanted) (s : Slot)
      → MayKeep Ts w → IsPlaced (meaning Ts w) s.floor s.ceiling → Fits lists (length slots) s.entry → held lists s.entry ≡ w → ((k : ℕ) → k < length slots → held lists (entry_at es k) ≡ w → ⊥)
      → slots2 ≡ slots ++ s ∷ [] → s.before ≡ L (fingerprint w)
      → ((q : ℕ) → L' q ≡ cond (nat_eq (fingerprint w) q) (Some (length slots)) (L q)) → Holds (Ts ++ meaning Ts w ∷ []) lists slots2 L'
  holds-new slots2 L' w s keep place fits is absent slots_is before_is map_is =
      let es_is : entries_of (slots ++ s ∷ []) ≡ es ++ s.entry ∷ [] = map-append (λ t. t.entry) slots (s ∷ []) in
      let new : IsNew lists es (es ++ s.entry ∷ []) w =
      new-entry lists es s.entry w h.all.0 (subst (λ us. MayKeep us w) (sym h.values_are) keep)
      (subst (λ n. Fits lists n s.entry) (sym (length-entries slots)) fits) is (λ k l. absent k (omega (arith, l, length-entries slots))) in
      let values_is : values lists (entries_of (slots ++ s ∷ [])) ≡ Ts ++ meaning Ts w ∷ [] =
      ap (values lists) es_is ∙ new.values_are ∙ ap (λ us. us ++ meaning us w ∷ []) h.values_are in
      rw slots_is record {
        all = (
          subst (IsKept lists) (sym es_is) new.kept,
          chained-push lists slots L L' s (fingerprint w) h.all.1 (ap fingerprint is) before_is map_is,
          subst (λ us. ArePlaced us (slots ++ s ∷ [])) (sym values_is)
              (push_both (λ _ G (t : Slot). IsPlaced G t.floor t.ceiling) Ts slots (meaning Ts w) (node none none) s _
              length-trees (subst (λ us. ArePlaced us slots) h.values_are h.all.2) place),
        );
        values_are = values_is;
      }

-- the options of a new form are one more list
pub holds-options : {Ts : List Tree} {lists : List (List ℕ)} {slots : List Slot} {L : ℕ → Option ℕ} → Holds Ts lists slots L
    → (lists2 : List (List ℕ)) (slots2 : List Slot) (L' : ℕ → Option ℕ) (ls rs : List ℕ) (place left_count : ℕ) (s : Slot)
    → MayKeep Ts (options ls rs) → IsPlaced (form Ts ls rs) s.floor s.ceiling → ((k : ℕ) → k < length slots → held lists (entry_at (entries_of slots) k) ≡ options ls rs → ⊥)
    → lists2 ≡ lists ++ (ls ++ rs) ∷ [] → s.entry ≡ Options place left_count → place ≡ length lists → left_count ≡ length ls
    → slots2 ≡ slots ++ s ∷ [] → s.before ≡ L (fingerprint (options ls rs))
    → ((q : ℕ) → L' q ≡ cond (nat_eq (fingerprint (options ls rs)) q) (Some (length slots)) (L q)) → Holds (Ts ++ form Ts ls rs ∷ []) lists2 slots2 L'
holds-options {Ts} {lists} {slots} {L} h lists2 slots2 L' ls rs place left_count s keep placed absent is entry_is place_is count_is slots_is before_is map_is =
    let last : list_at (lists ++ (ls ++ rs) ∷ []) (length lists) ≡ ls ++ rs = get_or-append_seam lists (ls ++ rs) [] [] in
    holds-new (holds-more h ((ls ++ rs) ∷ []) lists2 is) slots2 L' (options ls rs) s keep placed
    (rw (entry_is, place_is, count_is, is) (
      omega (arith, length-append lists ((ls ++ rs) ∷ [])),
      subst (AreOptions (length slots) (length ls)) (sym last) (joined-options (length slots) ls rs
          (ids-below h ls keep.lists.0) (ids-below h rs keep.lists.1) keep.lists.2 keep.lists.3 keep.lists.5 keep.lists.6),
    ))
    (rw (entry_is, place_is, count_is, is) (ap (λ (xs : List ℕ). options (take (length ls) xs) (drop (length ls) xs)) last ∙ ap₂ options (take-append_seam ls rs) (drop-append_seam ls rs)))
    (λ k l i. absent k l (sym (held-more lists ((ls ++ rs) ∷ []) k _ (h.all.0.fit k (omega (arith, l, length-entries slots))))
    ∙ subst (λ us. held us (entry_at (entries_of slots) k) ≡ options ls rs) is i))
    slots_is before_is map_is
