-- What is remembered, the ids after the edges of a place as the store grows, and the form of those ids.
use Rattle.std.proofs.Common.{ℕ, ◌+◌, ◌/◌, ◌%◌, ◌^◌, ◌≡◌, ◌<◌, ◌↔◌, arith, inl, inr, sym, ap, ap₂, get_or, subst, ◌∙◌, List, [], length, Result, ℤ, ◌+ℤ◌, ◌≤◌, to_z, of_z, w32, ◌*◌, refl, pos, neg_ℤ, ◌*ℤ◌, ◌∷◌, ◌++◌, take, Contains, unsigned_abs, IfOk, IfErr}
use Rattle.game_store.proofs.EntryLaws.{pick-same, has-pick, pick-has}
use Rattle.std.proofs.lemmas.Bool.{cases_lt}
use Rattle.std.proofs.lemmas.Int.{to_z-of_z, fits_signed_from_abs, ints}
use Rattle.game_canon.specs.FormComparisons.{answer_of}
use Rattle.game_canon.proofs.CanonicalFormLaws.{right-grown}
use Rattle.local_value.proofs.OptionNumberLemmas.{among_ids, numbered, one_option, listed as listed_in}
use Rattle.short_games.specs.Tree.{Tree, node, left, right, tree_at, none, Has}
use Rattle.short_games.specs.Sum.{◌+ᵍ◌}
use Rattle.short_games.specs.TextOrder.{IsCanonicalFor}
use Rattle.game_store.specs.Meaning.{pick, listed, AreIds, Extends, AreCanonical}
use Rattle.short_games.specs.Number.{number_tree, IsNumber}
use Rattle.short_games.specs.Parts.{HasMoreParts, IsNumberOf, IsOption}
use Rattle.game_canon.specs.Outcomes.{IsCanonicalId, AreWithin, AreOptionsWithin, IsCause}
use Rattle.local_value.specs.declared.memo.Forms.{Forms}
use Rattle.local_value.specs.Remembered.{side as side_of, options_of, stones_units, IsStonesSum, AreStonesSumsRight, IsFormOfOptions, IsFormOf, AreKnownRight}
use Rattle.local_value.specs.inner.Options.{IsNoBetter, AreEnough}
use Rattle.local_value.specs.inner.OptionSets.{IsWith}
use Rattle.local_value.specs.inner.Tables.{Learns}
use Rattle.local_value.specs.inner.Memo.{AreFormsRight}
use Rattle.go_grid.specs.declared.grid.Colour.{Colour}
use Rattle.go_grid.specs.declared.grid.Colour.TheVariants.{Black, White}
use Rattle.local_graph.specs.declared.graph.Edge.{Edge}
use Rattle.game_store.specs.Forms.{HaveForms}
use Rattle.short_games.proofs.StopLaws.{num-scaled}
use Rattle.game_canon.specs.declared.errors.FormError.TheVariants.{Bounds, Parts, Memory}
use Rattle.game_canon.specs.Changes.{IsSumRefusal}
use Rattle.game_players.specs.Players.{credit, gain, options}
use Rattle.game_canon.proofs.ChangedIdLaws.{extends-on}
use Rattle.game_canon.proofs.NumberPartLaws.{sum-fits, same-sum}
use Rattle.local_value.specs.inner.Valuing.{noted, IsWithinAfter, IsAfter, most_units, IsNoted, tree_after, AreWithinAfter, AreAfter, AreBothAfter, HasEdges}
use Rattle.std.proofs.lemmas.List.{get_or_default, take_all, take_more}
use Rattle.std.proofs.lemmas.List.Elements.{Contains-append_left, Contains-get_or, Contains-push, Contains-push_cases}
use Rattle.local_graph.specs.inner.Graph.{no_edge}
use Rattle.short_games.specs.Order.{◌≤ᵍ◌, ◌≡ᵍ◌}
use Rattle.short_games.proofs.OrderLaws.{le-in, le-out, le-refl, le-trans, same-path, same-sym, same-trans}
use Rattle.game_canon.specs.declared.errors.FormError.{FormError}
use Rattle.std.proofs.lemmas.Result.{IfErr-weaker, IfOk-weaker}
use Rattle.local_trees.proofs.TreeLaws.{same_options as alike_options}

-- What is remembered stays right.

-- more forms change nothing
module _ {Ts Us : List Tree} (x : Extends Ts Us) where
  pick-grown : (is : List ℕ) → AreIds Ts is → pick Us is ≡ pick Ts is
  pick-grown is are = pick-same Ts Us is (λ j l. x.same (get_or is j 0) (are j l))

  pub listed-grown : (ls rs : List ℕ) → AreIds Ts ls → AreIds Ts rs → listed Us ls rs ≡ listed Ts ls rs
  listed-grown ls rs l r = ap₂ node (pick-grown ls l) (pick-grown rs r)

  pub ids-grown : (is : List ℕ) → AreIds Ts is → AreIds Us is
  ids-grown is are j l = omega (arith, are j l, x.longer)

  canonical-grown : (G : Tree) (id : ℕ) → IsCanonicalId Ts G id → IsCanonicalId Us G id
  canonical-grown G id k = (omega (arith, k.0, x.longer), subst (IsCanonicalFor G) (sym (x.same id k.0)) k.1)

  -- a sum that was made
  pub sum-made : (game : ℕ) (stones : ℤ) (id : ℕ) → game < length Ts → IsCanonicalId Us (tree_at Ts game +ᵍ number_tree (stones_units stones)) id
      → ((y : ℤ) → IsNumberOf (tree_at Ts game) y ↔ IsNumberOf (tree_at Us id) (y +ℤ stones_units stones)) → IsStonesSum Us game stones id
  sum-made game stones id l value numbers = record {
    game_id = omega (arith, l, x.longer);
    value = subst (λ t. IsCanonicalId Us (t +ᵍ number_tree (stones_units stones)) id) (sym (x.same game l)) value;
    numbers = subst (λ t. (y : ℤ) → IsNumberOf t y ↔ IsNumberOf (tree_at Us id) (y +ℤ stones_units stones)) (sym (x.same game l)) numbers;
  }

  pub sums-grown : (sums : List ((ℕ × ℤ) × ℕ)) → AreStonesSumsRight Ts sums → AreStonesSumsRight Us sums
  sums-grown sums right game stones id h =
      let s = right game stones id h in
      sum-made game stones id s.game_id (canonical-grown _ id s.value)
      (subst (λ t. (y : ℤ) → IsNumberOf (tree_at Ts game) y ↔ IsNumberOf t (y +ℤ stones_units stones)) (sym (x.same id s.value.0)) s.numbers)

  -- a form that was made
  pub form-made : (limit : ℕ) (ls rs : List ℕ) (id : ℕ) → AreIds Ts ls → AreIds Ts rs → IsCanonicalId Us (listed Ts ls rs) id → (HasMoreParts (tree_at Us id) limit → ⊥)
      → ((b : ℕ) → AreOptionsWithin b (listed Ts ls rs) → AreWithin (b + 2 ^ 60) (tree_at Us id)) → IsFormOfOptions Us limit ls rs id
  form-made limit ls rs id l r value few sizes =
      let form = sym (listed-grown ls rs l r) in record {
        left_ids = ids-grown ls l;
        right_ids = ids-grown rs r;
        value = subst (λ t. IsCanonicalId Us t id) form value;
        few = few;
        sizes = λ b w. sizes b (subst (AreOptionsWithin b) (sym form) w);
      }

  pub known-grown : (limit : ℕ) (known : List (List ℕ × ℕ)) → AreKnownRight Ts limit known → AreKnownRight Us limit known
  known-grown limit known right os id h =
      let f = right os id h in
      let same = sym (x.same id f.value.0) in
      form-made limit (options_of Black os) (options_of White os) id f.left_ids f.right_ids (canonical-grown _ id f.value)
      (subst (λ t. HasMoreParts t limit → ⊥) same f.few) (λ b w. subst (AreWithin (b + 2 ^ 60)) same (f.sizes b w))

  pub forms-grown : (limit : ℕ) (forms : Forms) → AreFormsRight Ts limit forms → AreFormsRight Us limit forms
  forms-grown limit forms right = record {
    known = known-grown limit forms.table right.known;
    comparisons = right-grown Ts Us (answer_of forms.comparisons) x right.comparisons;
  }

-- one sum more is remembered
pub sum-learned : (before now : List ((ℕ × ℤ) × ℕ)) (game : ℕ) (stones : ℤ) (sum : ℕ) → Learns before ((game, stones), sum) now
    → (Ts : List Tree) → IsStonesSum Ts game stones sum → AreStonesSumsRight Ts before → AreStonesSumsRight Ts now
sum-learned before now game stones sum learns Ts s right g n id h = elim (learns ((g, n), id) h) [
  | inl old ↦ right g n id old
  | inr e ↦ subst (λ (k : (ℕ × ℤ) × ℕ). IsStonesSum Ts k.0.0 k.0.1 k.1) e s
]

-- one form more is remembered
pub form-learned : (before now : List (List ℕ × ℕ)) (os : List ℕ) (form : ℕ) → Learns before (os, form) now
    → (Ts : List Tree) (limit : ℕ) → IsFormOf Ts limit os form → AreKnownRight Ts limit before → AreKnownRight Ts limit now
form-learned before now os form learns Ts limit f right os' id h = elim (learns (os', id) h) [
  | inl old ↦ right os' id old
  | inr e ↦ subst (λ (k : List ℕ × ℕ). IsFormOf Ts limit k.0 k.1) e f
]

-- few stones are passed as they are
pub held : (stones : ℤ) → unsigned_abs stones ≤ 255 → to_z w32 (of_z w32 stones) ≡ stones
held stones h = to_z-of_z w32 stones (fits_signed_from_abs w32 stones (omega (arith, ints, h)))

-- Stones as numbers.

credit-tree : (c : Colour) (n : ℕ) (x : ℤ) → x ≡ credit c n *ℤ pos (2 ^ 60) → number_tree x ≡ gain c n
credit-tree c n x e = ap number_tree e ∙ num-scaled 60 0 (credit c n)

credit-size : (c : Colour) (n : ℕ) (x : ℤ) → x ≡ credit c n *ℤ pos (2 ^ 60) → unsigned_abs x ≡ n * 2 ^ 60
credit-size Black n x e = omega (arith, ints, e)
credit-size White n x e = omega (arith, ints, e)

-- the sum of two numbers is no larger than their sizes
pub sum-size : (y x : ℤ) (n b : ℕ) → unsigned_abs x ≡ n → unsigned_abs y + n ≤ b → unsigned_abs (y +ℤ x) ≤ b
sum-size y x n b e le = omega (arith, ints, e, le)

module _ (Ts : List Tree) (ids : List ℕ) (e : Edge) (x : ℤ) (is : x ≡ credit e.colour e.taken *ℤ pos (2 ^ 60)) where
  size : unsigned_abs x ≡ e.taken * 2 ^ 60
  size = credit-size e.colour e.taken x is

  -- nothing is refused where the sums are small
  pub never-refused : HaveForms Ts → AreCanonical Ts → get_or ids e.next 0 < length Ts → IsWithinAfter most_units Ts ids e → IsSumRefusal (noted Ts ids e.next +ᵍ number_tree x) Bounds → ⊥
  never-refused forms canonical lt small = sum-fits Ts (get_or ids e.next 0) x forms lt (canonical (get_or ids e.next 0) lt)
      (λ y n. let le = sum-size y x (e.taken * 2 ^ 60) most_units size (small y n) in omega (arith, le))

  value-after : (Us : List Tree) (id : ℕ) → IsCanonicalId Us (noted Ts ids e.next +ᵍ number_tree x) id
      → ((y : ℤ) → IsNumberOf (noted Ts ids e.next) y ↔ IsNumberOf (tree_at Us id) (y +ℤ x)) → IsAfter Ts Us ids e id
  value-after Us id value numbers = record {
    known = value.0;
    canonical = subst (λ t. IsCanonicalFor (noted Ts ids e.next +ᵍ t) (tree_at Us id)) (credit-tree e.colour e.taken x is) value.1;
    sizes = λ b w z n.
        (let back : (z +ℤ neg_ℤ x) +ℤ x ≡ z = omega (arith, ints) in
        let old = (numbers (z +ℤ neg_ℤ x)).1 (subst (IsNumberOf (tree_at Us id)) (sym back) n) in
        subst (λ y. unsigned_abs y ≤ b) back (sum-size (z +ℤ neg_ℤ x) x (e.taken * 2 ^ 60) b size (w (z +ℤ neg_ℤ x) old)));
  }

-- where no stones are taken, the value stays
pub value-untaken : (Ts : List Tree) (ids : List ℕ) (e : Edge) → e.taken ≡ 0 → get_or ids e.next 0 < length Ts → AreCanonical Ts → IsAfter Ts Ts ids e (get_or ids e.next 0)
value-untaken Ts ids e untaken lt canonical =
    let zero : credit e.colour e.taken *ℤ pos (2 ^ 60) ≡ pos 0 = omega (arith, ints, credit-size e.colour e.taken _ refl, untaken) in
    let same : (y x : ℤ) → x ≡ pos 0 → y ≡ y +ℤ x = λ y x z. omega (arith, ints, z) in
    value-after Ts ids e (credit e.colour e.taken *ℤ pos (2 ^ 60)) refl Ts (get_or ids e.next 0)
    (same-sum Ts (get_or ids e.next 0) _ zero lt (canonical (get_or ids e.next 0) lt))
    (λ y. subst (λ z. IsNumberOf (noted Ts ids e.next) y ↔ IsNumberOf (noted Ts ids e.next) z) (same y _ zero) (λ n. n, λ n. n))

-- the sum with the stones that an edge takes
pub value-summed : (Ts Us : List Tree) (ids : List ℕ) (e : Edge) (stones : ℤ) (id : ℕ) → stones ≡ credit e.colour e.taken → Extends Ts Us → get_or ids e.next 0 < length Ts → IsStonesSum Us (get_or ids e.next 0) stones id → IsAfter Ts Us ids e id
value-summed Ts Us ids e stones id is x lt s =
    let same = x.same (get_or ids e.next 0) lt in
    value-after Ts ids e (stones_units stones) (ap stones_units is) Us id (subst (λ t. IsCanonicalId Us (t +ᵍ number_tree (stones_units stones)) id) same s.value)
    (subst (λ t. (y : ℤ) → IsNumberOf t y ↔ IsNumberOf (tree_at Us id) (y +ℤ stones_units stones)) same s.numbers)

-- The ids after the edges of a place, as the store grows.

-- what is noted stays so
module _ {Ts Us : List Tree} (x : Extends Ts Us) (ids : List ℕ) where
  noted-kept : (i : ℕ) → IsNoted Ts ids i → IsNoted Us ids i × (noted Us ids i ≡ noted Ts ids i)
  noted-kept i n = ((n.0, omega (arith, n.1, x.longer)), x.same (get_or ids i 0) n.1)

  within-on : (e : Edge) (b : ℕ) → IsNoted Ts ids e.next → IsWithinAfter b Ts ids e → IsWithinAfter b Us ids e
  within-on e b n w y h = w y (subst (λ t. IsNumberOf t y) (noted-kept e.next n).1 h)

  after-from : {Vs : List Tree} (e : Edge) (id : ℕ) → IsNoted Ts ids e.next → IsAfter Us Vs ids e id → IsAfter Ts Vs ids e id
  after-from {Vs} e id n a = record {
    known = a.known;
    canonical = subst (λ t. IsCanonicalFor (t +ᵍ gain e.colour e.taken) (tree_at Vs id)) (noted-kept e.next n).1 a.canonical;
    sizes = λ b w. a.sizes b (within-on e b n w);
  }

all-kept : {Ts Us Vs : List Tree} {ids : List ℕ} {c : Colour} {es : List Edge} {afters : List ℕ} → Extends Us Vs
    → AreAfter Ts Us ids c es afters → AreAfter Ts Vs ids c es afters
all-kept {Ts} {Us} {Vs} {ids} x all = record {
  from = λ j lt. (let f = all.from j lt in (f.0, f.1, f.2, on f.0 _ f.3));
  to = λ e h s. (let t = all.to e h s in (t.0, t.1, on e _ t.2));
}
  where
    on : (e : Edge) (id : ℕ) → IsAfter Ts Us ids e id → IsAfter Ts Vs ids e id
    on e id a =
        let same = sym (x.same id a.known) in record {
          known = omega (arith, a.known, x.longer);
          canonical = subst (IsCanonicalFor (tree_after Ts ids e)) same a.canonical;
          sizes = λ b w. subst (AreWithin b) same (a.sizes b w);
        }

-- the loop over the edges: the store so far, and the ids after the edges so far
pub record IsListing (Ts Us : List Tree) (ids : List ℕ) (c : Colour) (es : List Edge) (n : ℕ) (afters : List ℕ) : Type 0 where
  pub kept : Extends Ts Us
  pub so_far : AreAfter Ts Us ids c (take n es) afters

module _ {Ts Us : List Tree} {ids : List ℕ} {c : Colour} {es : List Edge} {n : ℕ} {afters : List ℕ}
    (w : IsListing Ts Us ids c es n afters) (among : n < length es) where
  abbrev e : Edge
  e = get_or es n no_edge

  next : take (n + 1) es ≡ take n es ++ e ∷ []
  next = take_more es n no_edge among

  edge_among : Contains es e
  edge_among = Contains-get_or es n no_edge among

  module _ (noted : (d : Edge) → Contains es d → IsNoted Ts ids d.next) where
    pub step-noted : IsNoted Us ids e.next
    step-noted = (noted-kept w.kept ids e.next (noted e edge_among)).0

    pub step-within : (b : ℕ) → AreWithinAfter b Ts ids es → IsWithinAfter b Us ids e
    step-within b small = within-on w.kept ids e b (noted e edge_among) (small e edge_among)

    -- the loop goes on with one option more
    module _ {Vs : List Tree} (x : Extends Us Vs) (id : ℕ) (a : IsAfter Us Vs ids e id) where
      old : AreAfter Ts Vs ids c (take n es) afters
      old = all-kept x w.so_far

      here : IsAfter Ts Vs ids e id
      here = after-from w.kept ids e id (noted e edge_among) a

      placed : (is : List ℕ) (d : Edge) (i : ℕ) → Contains is i → IsAfter Ts Vs ids d i → (j : ℕ) × (j < length is) × IsAfter Ts Vs ids d (get_or is j 0)
      placed is d i (k, inside, at) f = (k, inside, subst (IsAfter Ts Vs ids d) (sym (get_or_default is k 0 i inside ∙ at)) f)

      pub listing-add : (before now : List ℕ) (o : ℕ) → afters ≡ options_of c before → o ≡ 2 * id + side_of e.colour → IsWith o before now
          → IsListing Ts Vs ids c es (n + 1) (options_of c now)
      listing-add before now o are is members = record {
        kept = extends-on Ts Us Vs w.kept x;
        so_far = subst (λ z. AreAfter Ts Vs ids c z (options_of c now)) (sym next) record { from = from; to = to };
      }
        where
          earlier : AreAfter Ts Vs ids c (take n es) (options_of c before)
          earlier = subst (AreAfter Ts Vs ids c (take n es)) are old

          from : (j : ℕ) → j < length (options_of c now)
              → (d : Edge) × Contains (take n es ++ e ∷ []) d × (d.colour ≡ c) × IsAfter Ts Vs ids d (get_or (options_of c now) j 0)
          from j lt =
              let i = get_or (options_of c now) j 0 in
              elim ((members (2 * i + side_of c)).0 (numbered c now i (Contains-get_or (options_of c now) j 0 lt))) [
                | inl there ↦
                    let (k, inside, at) = listed_in c before i there in
                    let f = earlier.from k inside in
                    (f.0, Contains-append_left (take n es) (e ∷ []) f.0 f.1, f.2, subst (IsAfter Ts Vs ids f.0) (get_or_default (options_of c before) k 0 i inside ∙ at) f.3)
                | inr same ↦
                    let one = one_option e.colour c id i (sym is ∙ same) in
                    (e, Contains-push (take n es) e, one.0, subst (IsAfter Ts Vs ids e) one.1 here)
              ]

          to : (d : Edge) → Contains (take n es ++ e ∷ []) d → d.colour ≡ c
              → (j : ℕ) × (j < length (options_of c now)) × IsAfter Ts Vs ids d (get_or (options_of c now) j 0)
          to d h s = elim (Contains-push_cases (take n es) e d h) [
            | inl i ↦
                let t = earlier.to d i s in
                let v = get_or (options_of c before) t.0 0 in
                let there = numbered c before v (Contains-get_or (options_of c before) t.0 0 t.1) in
                placed (options_of c now) d v (listed_in c now v ((members (2 * v + side_of c)).1 (inl there))) t.2
            | inr same ↦
                let number : o ≡ 2 * id + side_of c = is ∙ ap (λ z. 2 * id + side_of z) (ap (λ z. z.colour) same ∙ s) in
                placed (options_of c now) d id (listed_in c now id ((members (2 * id + side_of c)).1 (inr number))) (subst (λ z. IsAfter Ts Vs ids z id) same here)
          ]

pub listing-done : {Ts Us : List Tree} {ids : List ℕ} {es : List Edge} {n : ℕ} {ls rs : List ℕ} → length es ≤ n
    → IsListing Ts Us ids Black es n ls → IsListing Ts Us ids White es n rs → AreBothAfter Ts Us ids es ls rs
listing-done {Ts} {Us} {ids} {es} {n} {ls} {rs} le l r = record {
  left = subst (λ z. AreAfter Ts Us ids Black z ls) (take_all n es le) l.so_far;
  right = subst (λ z. AreAfter Ts Us ids White z rs) (take_all n es le) r.so_far;
}

-- Equal trees.

pub canonical-as : (G H C : Tree) → G ≡ᵍ H → IsCanonicalFor G C → IsCanonicalFor H C
canonical-as G H C s k = record { canonical = k.canonical; under = le-trans H G C s.1 k.under; over = le-trans C G H k.over s.0 }

-- equal trees are numbers alike, and refused alike
pub number-as : (G H : Tree) → G ≡ᵍ H → IsNumber G → IsNumber H
number-as G H s n = (n.0, n.1, le-trans H G _ s.1 n.2, le-trans _ G H n.3 s.0)

pub cause-as : (G H : Tree) (limit : ℕ) (e : FormError) → G ≡ᵍ H → IsCause G limit e → IsCause H limit e
cause-as G H limit Parts s w = (λ n. w.0 (number-as H G (s.1, s.0) n), λ C k. w.1 C (canonical-as H G C (s.1, s.0) k))
cause-as G H limit Bounds s w = (number-as G H s w.0, λ x b y z. w.1 x b (le-trans G H _ s.0 y) (le-trans _ H G z s.1))
cause-as G H limit (Memory cause) s w = tt

-- Lists of options of which some are enough.

-- the ids of the one are ids of the other
AreAmong : List ℕ → List ℕ → Type 0
AreAmong is js = (i : ℕ) → Contains is i → Contains js i

ids-among : (Ts : List Tree) (is js : List ℕ) → AreAmong js is → AreIds Ts is → AreIds Ts js
unfolding AreAmong
ids-among Ts is js among are j lt =
    let (k, inside, at) = among (get_or js j 0) (Contains-get_or js j 0 lt) in
    subst (λ i. i < length Ts) (get_or_default is k 0 (get_or js j 0) inside ∙ at) (are k inside)

pick-among : (Ts : List Tree) (is js : List ℕ) → AreAmong is js → (X : Tree) → Has (pick Ts is) X → Has (pick Ts js) X
unfolding AreAmong
pick-among Ts is js among X h =
    let (j, lt, x) = has-pick Ts is X h in
    let (k, inside, at) = among (get_or is j 0) (Contains-get_or is j 0 lt) in
    subst (Has (pick Ts js)) (ap (tree_at Ts) (get_or_default js k 0 (get_or is j 0) inside ∙ at) ∙ sym x) (pick-has Ts js k inside)

-- whether Y is no worse for the player than X
abbrev Follows : Colour → Tree → Tree → Type 0
Follows Black X Y = X ≤ᵍ Y
Follows White X Y = Y ≤ᵍ X

-- a game is at most another where each of its Left options is at most one of the other's, and each Right option of the other at
-- least one of its own
covered-below : (G H : Tree) → ((X : Tree) → Has (left G) X → (Y : Tree) × Has (left H) Y × (X ≤ᵍ Y)) → ((X : Tree) → Has (right H) X → (Y : Tree) × Has (right G) Y × (Y ≤ᵍ X)) → G ≤ᵍ H
covered-below G H l r = le-in G H record {
  from_left = λ X h le. (let y = l X h in (le-out H H (le-refl H)).from_left y.0 y.1 (le-trans H X y.0 le y.2));
  from_right = λ X h le. (let y = r X h in (le-out G G (le-refl G)).from_right y.0 y.1 (le-trans y.0 X G y.2 le));
}

module _ (os others : List ℕ) (Ts : List Tree) (enough : AreEnough Ts os others) where
  there : (c : Colour) → AreAmong (options_of c others) (options_of c os)
  unfolding AreAmong
  there c i = among_ids c os others enough.among i

  pub ids-enough : (c : Colour) → AreIds Ts (options_of c os) → AreIds Ts (options_of c others)
  ids-enough c = ids-among Ts (options_of c os) (options_of c others) (there c)

  one : (c : Colour) (X Y : Tree) (i n o : ℕ) → n ≡ 2 * i + side_of c → X ≡ tree_at Ts i → Y ≡ tree_at Ts (o / 2) → IsNoBetter c Ts n o → Follows c X Y
  one Black X Y i n o e x y f = rw (x, y) (subst (λ k. tree_at Ts k ≤ᵍ tree_at Ts (o / 2)) (omega (arith, e)) f)
  one White X Y i n o e x y f = rw (x, y) (subst (λ k. tree_at Ts (o / 2) ≤ᵍ tree_at Ts k) (omega (arith, e)) f)

  parity : (c : Colour) (i : ℕ) → (2 * i + side_of c) % 2 ≡ side_of c
  parity Black i = omega arith
  parity White i = omega arith

  looked_up : (is : List ℕ) (k i : ℕ) → k < length is → get_or is k i ≡ i → tree_at Ts (get_or is k 0) ≡ tree_at Ts i
  looked_up is k i inside at = ap (tree_at Ts) (get_or_default is k 0 i inside ∙ at)

  covered : (c : Colour) (X : Tree) → Has (pick Ts (options_of c os)) X → (Y : Tree) × Has (pick Ts (options_of c others)) Y × Follows c X Y
  covered c X h =
      let (j, lt, x) = has-pick Ts (options_of c os) X h in
      let i = get_or (options_of c os) j 0 in
      let (o, its, better) = enough.covered c (2 * i + side_of c) (numbered c os i (Contains-get_or (options_of c os) j 0 lt), parity c i) in
      let back : o ≡ 2 * (o / 2) + side_of c = omega (arith, its.1) in
      let (k, inside, at) = listed_in c others (o / 2) (subst (Contains others) back its.0) in (
        tree_at Ts (get_or (options_of c others) k 0),
        pick-has Ts (options_of c others) k inside,
        one c X (tree_at Ts (get_or (options_of c others) k 0)) i (2 * i + side_of c) o refl x (looked_up (options_of c others) k (o / 2) inside at) better,
      )

  -- the games with these options are equal
  pub listed-enough : listed Ts (options_of Black others) (options_of White others) ≡ᵍ listed Ts (options_of Black os) (options_of White os)
  listed-enough = (
    covered-below (listed Ts (options_of Black others) (options_of White others)) (listed Ts (options_of Black os) (options_of White os))
        (λ X h. (X, pick-among Ts (options_of Black others) (options_of Black os) (there Black) X h, le-refl X)) (covered White),
    covered-below (listed Ts (options_of Black os) (options_of White os)) (listed Ts (options_of Black others) (options_of White others))
        (covered Black) (λ X h. (X, pick-among Ts (options_of White others) (options_of White os) (there White) X h, le-refl X)),
  )

  -- a form of the one list is that of the other
  pub form-enough : (limit id : ℕ) → AreIds Ts (options_of Black os) → AreIds Ts (options_of White os) → IsFormOf Ts limit others id → IsFormOf Ts limit os id
  form-enough limit id l r f = record {
    left_ids = l;
    right_ids = r;
    value = (f.value.0, canonical-as _ _ (tree_at Ts id) listed-enough f.value.1);
    few = f.few;
    sizes = λ b w. f.sizes b (λ L o. w L (on L o));
  }
    where
      on : (L : Tree) → IsOption (listed Ts (options_of Black others) (options_of White others)) L → IsOption (listed Ts (options_of Black os) (options_of White os)) L
      on L (inl h) = inl (pick-among Ts (options_of Black others) (options_of Black os) (there Black) L h)
      on L (inr h) = inr (pick-among Ts (options_of White others) (options_of White os) (there White) L h)

-- the numbers of a list whose options are ids are those of ids
pub numbers-known : (Ts : List Tree) (os : List ℕ) → AreIds Ts (options_of Black os) → AreIds Ts (options_of White os) → (n : ℕ) → Contains os n → n / 2 < length Ts
numbers-known Ts os l r n h = elim (cases_lt (n % 2) 1) [ inl z ↦ at Black l (omega (arith, z)) | inr o ↦ at White r (omega (arith, o)) ]
  where
    at : (c : Colour) → AreIds Ts (options_of c os) → n ≡ 2 * (n / 2) + side_of c → n / 2 < length Ts
    at c are e =
        let (k, inside, is) = listed_in c os (n / 2) (subst (Contains os) e h) in
        subst (λ i. i < length Ts) (get_or_default (options_of c os) k 0 (n / 2) inside ∙ is) (are k inside)

-- options are enough in a store that has grown
pub enough-grown : {Ts Us : List Tree} → Extends Ts Us → (os others : List ℕ) → ((n : ℕ) → Contains os n → n / 2 < length Ts) → AreEnough Ts os others → AreEnough Us os others
enough-grown {Ts} {Us} x os others known e = record {
  among = e.among;
  covered = λ c n h. (let (o, its, better) = e.covered c n h in
      (o, its, on c n o (x.same (n / 2) (known n h.0)) (x.same (o / 2) (known o (e.among o its.0))) better));
}
  where
    on : (c : Colour) (n o : ℕ) → tree_at Us (n / 2) ≡ tree_at Ts (n / 2) → tree_at Us (o / 2) ≡ tree_at Ts (o / 2) → IsNoBetter c Ts n o → IsNoBetter c Us n o
    on Black n o p q f = rw (p, q) f
    on White n o p q f = rw (p, q) f

-- The form of the ids after the edges of a place, and what it shares with each tree of the same edges.

module _ {Ts Us : List Tree} {ids ls rs : List ℕ} {es : List Edge} (a : AreBothAfter Ts Us ids es ls rs) where
  abbrev side : Colour → List ℕ
  side Black = ls
  side White = rs

  afters : (c : Colour) → AreAfter Ts Us ids c es (side c)
  afters Black = a.left
  afters White = a.right

  pub left-ids : AreIds Us ls
  left-ids j lt = (a.left.from j lt).3.known

  pub right-ids : AreIds Us rs
  right-ids j lt = (a.right.from j lt).3.known

  listed-out : (c : Colour) (X : Tree) → Has (options c (listed Us ls rs)) X → (e : Edge) × Contains es e × (e.colour ≡ c) × (tree_after Ts ids e ≡ᵍ X)
  listed-out c X h =
      let q = picked c h in
      let f = (afters c).from q.0 q.1 in
      (f.0, f.1, f.2, same-trans _ _ _ (f.3.canonical.under, f.3.canonical.over) (same-sym _ _ (same-path _ _ q.2)))
    where
      picked : (c : Colour) → Has (options c (listed Us ls rs)) X → (j : ℕ) × (j < length (side c)) × (X ≡ tree_at Us (get_or (side c) j 0))
      picked Black h = has-pick Us ls X h
      picked White h = has-pick Us rs X h

  listed-in : (e : Edge) → Contains es e → (X : Tree) × Has (options e.colour (listed Us ls rs)) X × (X ≡ᵍ tree_after Ts ids e)
  listed-in e among =
      let t = (afters e.colour).to e among refl in
      (tree_at Us (get_or (side e.colour) t.0 0), picked e.colour t.0 t.1, same-sym _ _ (t.2.canonical.under, t.2.canonical.over))
    where
      picked : (c : Colour) (j : ℕ) → j < length (side c) → Has (options c (listed Us ls rs)) (tree_at Us (get_or (side c) j 0))
      picked Black j lt = pick-has Us ls j lt
      picked White j lt = pick-has Us rs j lt

  -- a tree of the edges is equal to the form
  pub edges-same : (G : Tree) → HasEdges Ts ids es G → listed Us ls rs ≡ᵍ G
  edges-same G has = alike_options (listed Us ls rs) G
      (λ c X h. (
      let f = listed-out c X h in
      let t = has.to f.0 f.1 in
      (t.0, subst (λ d. Has (options d G) t.0) f.2 t.1, same-trans _ _ _ (same-sym _ _ f.3) (same-sym _ _ t.2))
      ))
      (λ c Y h. (
      let f = has.from c Y h in
      let t = listed-in f.0 f.1 in
      (t.0, subst (λ d. Has (options d (listed Us ls rs)) t.0) f.2 t.1, same-trans _ _ _ t.2 (same-sym _ _ f.3))
      ))

  options-within : (m : ℕ) → AreWithinAfter m Ts ids es → AreOptionsWithin m (listed Us ls rs)
  options-within m w L o = at o
    where
      within : (c : Colour) (j : ℕ) → j < length (side c) → AreWithin m (tree_at Us (get_or (side c) j 0))
      within c j lt = let f = (afters c).from j lt in f.3.sizes m (w f.0 f.1)

      at : IsOption (listed Us ls rs) L → AreWithin m L
      at (inl h) = let q = has-pick Us ls L h in subst (AreWithin m) (sym q.2) (within Black q.0 q.1)
      at (inr h) = let q = has-pick Us rs L h in subst (AreWithin m) (sym q.2) (within White q.0 q.1)

  -- the form that is made of the ids is that of each tree of the edges
  module _ {Vs : List Tree} (x : Extends Us Vs) (limit : ℕ) (r : Result ℕ FormError) where
    form-listed : listed Vs ls rs ≡ listed Us ls rs
    form-listed = listed-grown x ls rs left-ids right-ids

    pub form-values : IfOk r (IsFormOfOptions Vs limit ls rs) → IfOk r (λ id. (G : Tree) → HasEdges Ts ids es G → IsCanonicalId Vs G id)
    form-values = IfOk-weaker r _ _ (λ id f G has.
        (f.value.0, canonical-as (listed Us ls rs) G _ (edges-same G has) (subst (λ t. IsCanonicalFor t (tree_at Vs id)) form-listed f.value.1)))

    pub form-sizes : IfOk r (IsFormOfOptions Vs limit ls rs) → IfOk r (λ id. (b : ℕ) → AreWithinAfter b Ts ids es → AreWithin (b + 2 ^ 60) (tree_at Vs id))
    form-sizes = IfOk-weaker r _ _ (λ id f b w. f.sizes b (subst (AreOptionsWithin b) (sym form-listed) (options-within b w)))

    pub form-refused : IfErr r (λ e. IsCause (listed Us ls rs) limit e) → IfErr r (λ e. (G : Tree) → HasEdges Ts ids es G → IsCause G limit e)
    form-refused = IfErr-weaker r _ _ (λ e k G has. cause-as (listed Us ls rs) G limit e (edges-same G has) k)

-- a tree without edges has no option
pub no-edges : (Ts : List Tree) (ids : List ℕ) → HasEdges Ts ids [] (node none none)
no-edges Ts ids = record { from = no-option; to = λ e h. absurd (omega (arith, h.1)) }
  where
    no-option : (c : Colour) (X : Tree) → Has (options c (node none none)) X → (e : Edge) × Contains [] e × (e.colour ≡ c) × (X ≡ᵍ tree_after Ts ids e)
    no-option Black X h = absurd h
    no-option White X h = absurd h
