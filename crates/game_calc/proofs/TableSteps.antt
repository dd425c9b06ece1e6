-- How the table of sums is filled, row by row.
use Rattle.std.proofs.Common.{ℕ, ◌+◌, ◌<◌, ◌≡◌, ◌⊎◌, ◌++◌, ◌∷◌, [], List, length, get_or, inl, inr, arith, ap, refl, sym, subst, ◌∙◌, Some, None, take, append_assoc}
use Rattle.std.specs.Prelude.{Option, cond, nat_eq, ◌&&◌}
use Rattle.std.proofs.lemmas.Bool.{cases_lt, cases_Bool, and_parts, eqb-true, eq-eqb}
use Rattle.std.proofs.lemmas.List.{append-nil, take_more}
use Rattle.short_games.specs.Tree.{Tree, node, tree_at, AreDistinct}
use Rattle.short_games.specs.Number.{IsNumberTree}
use Rattle.short_games.specs.TextOrder.{sorted, IsCanonicalFor}
use Rattle.short_games.specs.Sum.{◌+ᵍ◌}
use Rattle.game_store.specs.Meaning.{pick, AreBelow, Extends}
use Rattle.game_store.specs.Forms.{IsOptions}
use Rattle.short_games.specs.Parts.{HasMoreParts, IsInner}
use Rattle.game_store.proofs.EntryLaws.{pick-has, pick-same}
use Rattle.game_canon.specs.inner.Changes.{AreClosed, AreKnown}
use Rattle.game_canon.specs.Outcomes.{IsCanonicalId}
use Rattle.game_canon.proofs.ChangedIdLaws.{extends-on}
use Rattle.game_canon.proofs.GameLaws.{left-has, right-has}
use Rattle.game_calc.specs.inner.Table.{AreNoted, AddsSums, AreNotedSumsRight, IsRightSum, Grows, AreRowsKnown, AreInnerKnown, AreMovesKnown, with_sum}
use Rattle.game_canon.specs.Comparisons.{same_pair}

-- the loop over the options of one side
noted-push : (note : ℕ → Option ℕ) (is vs : List ℕ) (i v : ℕ) → AreNoted note is vs → note i ≡ Some v → AreNoted note (is ++ i ∷ []) (vs ++ v ∷ [])
noted-push note [] [] i v m e = (e, tt)
noted-push note [] (w ∷ vs) i v m e = absurd m
noted-push note (j ∷ is) [] i v m e = absurd m
noted-push note (j ∷ is) (w ∷ vs) i v m e = (m.0, noted-push note is vs i v m.1 e)

pub adds-start : (note : ℕ → Option ℕ) (is before : List ℕ) → AddsSums note (take 0 is) before before
adds-start note is before = ([], tt, sym (append-nil before))

pub adds-step : (note : ℕ → Option ℕ) (is before now after : List ℕ) (n v : ℕ) → AddsSums note (take n is) before now → n < length is → note (get_or is n 0) ≡ Some v → after ≡ now ++ v ∷ [] → AddsSums note (take (n + 1) is) before after
adds-step note is before now after n v h l e p = (
  h.0 ++ v ∷ [],
  subst (λ xs. AreNoted note xs (h.0 ++ v ∷ [])) (sym (take_more is n 0 l)) (noted-push note (take n is) h.0 (get_or is n 0) v h.1 e),
  p ∙ ap (λ xs. xs ++ v ∷ []) h.2 ∙ append_assoc before h.0 (v ∷ []),
)

-- an id's options are those that it had before
pub options-back : (Ts Us : List Tree) (id : ℕ) (ls rs : List ℕ) → Extends Ts Us → id < length Ts → IsOptions Us id ls rs → IsOptions Ts id ls rs
options-back Ts Us id ls rs x l o =
    let same = x.same id l in
    let picked = λ (is : List ℕ) (b : AreBelow id is). pick-same Ts Us is (λ j k. x.same (get_or is j 0) (omega (arith, b j k, l))) in
    record {
      tree = sym same ∙ o.tree ∙ ap (λ t. node (sorted t) (sorted (pick Us rs))) (picked ls o.left_below) ∙ ap (λ t. node (sorted (pick Ts ls)) (sorted t)) (picked rs o.right_below);
      left_below = o.left_below;
      right_below = o.right_below;
      left_ascends = o.left_ascends;
      right_ascends = o.right_ascends;
      left_some = o.left_some;
      right_some = o.right_some;
      no_number = subst (λ t. IsNumberTree t → ⊥) same o.no_number;
    }

-- where the ids of the options stand
module _ (Ts Us : List Tree) (is : List ℕ) (n : ℕ) (distinct : AreDistinct Ts) (closed : AreClosed Ts is) (kept : Extends Ts Us) (l : n < length is) where
  before : (m : ℕ) → m < length is → get_or is m 0 < get_or is n 0 → m < n
  before m k less = elim (cases_lt m n) [
    | inl d ↦ d
    | inr d ↦ elim (cases_lt n m) [
      | inl o ↦ absurd (omega (arith, less, closed.ascends n m o k))
      | inr o ↦ (let e : m ≡ n = omega (arith, d, o) in absurd (omega (arith, subst (λ z. get_or is z 0 < get_or is n 0) e less)))
    ]
  ]

  place : (i : ℕ) → i < get_or is n 0 → IsInner (tree_at Us (get_or is n 0)) (tree_at Us i) → (m : ℕ) × (m < n) × (m < length is) × (get_or is m 0 ≡ i)
  place i less inner =
      let top = closed.ids n l in
      let there : i < length Ts = omega (arith, less, top) in
      let here = subst (λ t. IsInner t (tree_at Ts i)) (kept.same (get_or is n 0) top) (subst (λ t. IsInner (tree_at Us (get_or is n 0)) t) (kept.same i there) inner) in
      let r = closed.closed n l (tree_at Ts i) here in
      let e : get_or is r.0 0 ≡ i = distinct (get_or is r.0 0) i (closed.ids r.0 r.1) there (sym r.2) in
      (r.0, before r.0 r.1 (subst (λ z. z < get_or is n 0) (sym e) less), r.1, e)

  module _ (ls rs : List ℕ) (o : IsOptions Us (get_or is n 0) ls rs) where
    pub place-left : (q : ℕ) → q < length ls → (m : ℕ) × (m < n) × (m < length is) × (get_or is m 0 ≡ get_or ls q 0)
    place-left q k = place (get_or ls q 0) (o.left_below q k) (o.no_number, inl (left-has Us (get_or is n 0) ls rs o _ (pick-has Us ls q k)))

    pub place-right : (q : ℕ) → q < length rs → (m : ℕ) × (m < n) × (m < length is) × (get_or is m 0 ≡ get_or rs q 0)
    place-right q k = place (get_or rs q 0) (o.right_below q k) (o.no_number, inr (right-has Us (get_or is n 0) ls rs o _ (pick-has Us rs q k)))

some-same : (i j : ℕ) → Some i ≡ Some j → i ≡ j
some-same i j e = ap value e
  where
    value : Option ℕ → ℕ
    value None = 0
    value (Some n) = n

pub not-none : (k : ℕ) (o : Option ℕ) → o ≡ Some k → o ≡ None → ⊥
not-none k o p q = cc

right-kept : (Ts Us : List Tree) (limit a b k : ℕ) → Extends Ts Us → IsRightSum Ts limit a b k → IsRightSum Us limit a b k
right-kept Ts Us limit a b k x r =
    let c = r.sum in
    record {
      first = omega (arith, r.first, x.longer);
      second = omega (arith, r.second, x.longer);
      sum = subst (λ t. IsCanonicalId Us t k) (ap (λ t. t +ᵍ tree_at Ts b) (sym (x.same a r.first)) ∙ ap (λ t. tree_at Us a +ᵍ t) (sym (x.same b r.second)))
          (omega (arith, c.0, x.longer), subst (λ t. IsCanonicalFor (tree_at Ts a +ᵍ tree_at Ts b) t) (sym (x.same k c.0)) c.1);
      few = subst (λ t. HasMoreParts t limit → ⊥) (sym (x.same k c.0)) r.few;
    }

-- one more sum is noted
with-cases : (note : ℕ → ℕ → Option ℕ) (a b s c d : ℕ) → ((a ≡ c) × (b ≡ d) × (with_sum note a b s c d ≡ Some s)) ⊎ (with_sum note a b s c d ≡ note c d)
with-cases note a b s c d = elim (cases_Bool (same_pair (a, b) (c, d))) [
  | inl e ↦ (let p = and_parts (nat_eq a c) (nat_eq b d) e in inl (eqb-true a c p.0, eqb-true b d p.1, ap (λ t. cond t (Some s) (note c d)) e))
  | inr e ↦ inr (ap (λ t. cond t (Some s) (note c d)) e)
]

pub right-more : (Us Vs : List Tree) (limit : ℕ) (note after : ℕ → ℕ → Option ℕ) (a b s : ℕ) → AreNotedSumsRight Us limit note → Extends Us Vs → IsRightSum Vs limit a b s → ((c d : ℕ) → after c d ≡ with_sum note a b s c d) → AreNotedSumsRight Vs limit after
right-more Us Vs limit note after a b s right x new e c d k is = elim (with-cases note a b s c d) [
  | inl w ↦ (let same : s ≡ k = some-same s k (sym w.2 ∙ sym (e c d) ∙ is) in subst (λ z. IsRightSum Vs limit c d z) same (subst (λ z. IsRightSum Vs limit c z s) w.1 (subst (λ z. IsRightSum Vs limit z b s) w.0 new)))
  | inr w ↦ right-kept Us Vs limit c d k x (right c d k (sym w ∙ sym (e c d) ∙ is))
]

grows-more : (note after : ℕ → ℕ → Option ℕ) (a b s : ℕ) → ((c d : ℕ) → after c d ≡ with_sum note a b s c d) → Grows note after
grows-more note after a b s e c d k is = elim (with-cases note a b s c d) [ inl w ↦ (s, e c d ∙ w.2) | inr w ↦ (k, e c d ∙ w ∙ is) ]

noted-new : (note after : ℕ → ℕ → Option ℕ) (a b s : ℕ) → ((c d : ℕ) → after c d ≡ with_sum note a b s c d) → after a b ≡ Some s
noted-new note after a b s e = e a b ∙ ap (λ t. cond t (Some s) (note a b)) (ap (λ t. t && nat_eq b b) (eq-eqb a a refl) ∙ eq-eqb b b refl)

grows-on : (f g h : ℕ → ℕ → Option ℕ) → Grows f g → Grows g h → Grows f h
grows-on f g h p q a b k e = let r = p a b k e in q a b r.0 r.1

-- a row: the sums of a with the first n of the places
pub record IsRow (Ts Us : List Tree) (limit a : ℕ) (start note : ℕ → ℕ → Option ℕ) (js : List ℕ) (n : ℕ) : Type 0 where
  pub kept : Extends Ts Us
  pub right : AreNotedSumsRight Us limit note
  pub grows : Grows start note
  pub known : (j : ℕ) → j < n → j < length js → (k : ℕ) × (note a (get_or js j 0) ≡ Some k)

module _ (Ts Us : List Tree) (limit a : ℕ) (start note : ℕ → ℕ → Option ℕ) (js : List ℕ) (n : ℕ) (row : IsRow Ts Us limit a start note js n) (id : a < length Ts) (l : n < length js) where
  -- the sums after a move in a stand in earlier rows
  pub row-first : AreInnerKnown Ts start a js → AreMovesKnown Us (λ i. note i (get_or js n 0)) a
  row-first inner ls rs o =
      let r = inner ls rs (options-back Ts Us a ls rs row.kept id o) in (
        λ q k. (let s = r.0 q k k n l in row.grows (get_or ls q 0) (get_or js n 0) s.0 s.1),
        λ q k. (let s = r.1 q k k n l in row.grows (get_or rs q 0) (get_or js n 0) s.0 s.1),
      )

  -- those after a move in the other stand earlier in this row
  pub row-second : AreDistinct Ts → AreClosed Ts js → AreMovesKnown Us (λ i. note a i) (get_or js n 0)
  row-second distinct closed ls rs o = (
    λ q k. (let p = place-left Ts Us js n distinct closed row.kept l ls rs o q k in let s = row.known p.0 p.1 p.2 in (s.0, subst (λ z. note a z ≡ Some s.0) p.3 s.1)),
    λ q k. (let p = place-right Ts Us js n distinct closed row.kept l ls rs o q k in let s = row.known p.0 p.1 p.2 in (s.0, subst (λ z. note a z ≡ Some s.0) p.3 s.1)),
  )

  pub row-step : (Vs : List Tree) (after : ℕ → ℕ → Option ℕ) (s : ℕ) → get_or js n 0 < length Ts → Extends Us Vs → IsCanonicalId Vs (tree_at Us a +ᵍ tree_at Us (get_or js n 0)) s → (HasMoreParts (tree_at Vs s) limit → ⊥)
      → ((c d : ℕ) → after c d ≡ with_sum note a (get_or js n 0) s c d) → IsRow Ts Vs limit a start after js (n + 1)
  row-step Vs after s there x sum few e =
      let b = get_or js n 0 in
      let first : a < length Us = omega (arith, id, row.kept.longer) in
      let second : b < length Us = omega (arith, there, row.kept.longer) in
      let grown = grows-more note after a b s e in
      record {
        kept = extends-on Ts Us Vs row.kept x;
        right = right-more Us Vs limit note after a b s row.right x record {
          first = omega (arith, first, x.longer);
          second = omega (arith, second, x.longer);
          sum = subst (λ t. IsCanonicalId Vs t s) (ap (λ t. t +ᵍ tree_at Us b) (sym (x.same a first)) ∙ ap (λ t. tree_at Vs a +ᵍ t) (sym (x.same b second))) sum;
          few = few;
        } e;
        grows = grows-on start note after row.grows grown;
        known = λ j m k. elim (cases_lt j n) [
          | inl d ↦ (let q = row.known j d k in grown a (get_or js j 0) q.0 q.1)
          | inr d ↦ (let same : n ≡ j = omega (arith, m, d) in (s, subst (λ z. after a (get_or js z 0) ≡ Some s) same (noted-new note after a b s e)))
        ];
      }

-- the rows of the first n places
pub record AreRows (Ts Us : List Tree) (limit : ℕ) (note : ℕ → ℕ → Option ℕ) (is js : List ℕ) (n : ℕ) : Type 0 where
  pub kept : Extends Ts Us
  pub right : AreNotedSumsRight Us limit note
  pub known : AreRowsKnown note is js n

module _ (Ts Us : List Tree) (limit : ℕ) (note : ℕ → ℕ → Option ℕ) (is js : List ℕ) (n : ℕ) (rows : AreRows Ts Us limit note is js n) (closed : AreClosed Ts is) (l : n < length is) where
  pub rows-inner : AreDistinct Ts → AreInnerKnown Us note (get_or is n 0) js
  rows-inner distinct ls rs o = (
    λ q k m. (let p = place-left Ts Us is n distinct closed rows.kept l ls rs o q m in subst (λ z. AreKnown (λ b. note z b) js) p.3 (rows.known p.0 p.1 p.2)),
    λ q k m. (let p = place-right Ts Us is n distinct closed rows.kept l ls rs o q m in subst (λ z. AreKnown (λ b. note z b) js) p.3 (rows.known p.0 p.1 p.2)),
  )

  pub rows-step : (Vs : List Tree) (after : ℕ → ℕ → Option ℕ) → Extends Us Vs → AreNotedSumsRight Vs limit after → Grows note after → AreKnown (λ b. after (get_or is n 0) b) js → AreRows Ts Vs limit after is js (n + 1)
  rows-step Vs after x right grows known = record {
    kept = extends-on Ts Us Vs rows.kept x;
    right = right;
    known = λ i m k. elim (cases_lt i n) [
      | inl d ↦ (λ j o. (let q = rows.known i d k j o in grows (get_or is i 0) (get_or js j 0) q.0 q.1))
      | inr d ↦ (let same : n ≡ i = omega (arith, m, d) in subst (λ z. AreKnown (λ b. after (get_or is z 0) b) js) same known)
    ];
  }
