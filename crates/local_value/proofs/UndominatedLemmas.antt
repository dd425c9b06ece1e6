-- Options of which none that goes is better than one that stays.
use Rattle.std.proofs.Common.{ℕ, ◌/◌, ◌+◌, ◌*◌, ◌%◌, ◌≡◌, ◌<◌, ◌≤◌, ◌≤ℤ◌, ℤ, ◌⊎◌, inl, inr, List, [], ◌∷◌, ◌++◌, length, get_or, take, Contains, Option, Some, IfSome, arith, sym, ap, subst, ◌∙◌, nat_eq, true, false}
use Rattle.std.proofs.lemmas.Bool.{eq-eqb}
use Rattle.std.proofs.lemmas.Map.Keys.{apart_from_distinct}
use Rattle.std.proofs.lemmas.List.{take_all, take_more, length-take-le, get_or-take, get_or_default}
use Rattle.std.proofs.lemmas.List.Elements.{Contains-append_left, Contains-push, Contains-push_cases}
use Rattle.std.proofs.lemmas.Option.{same_Some}
use Rattle.go_grid.specs.declared.grid.Colour.{Colour}
use Rattle.go_grid.specs.declared.grid.Colour.TheVariants.{Black, White}
use Rattle.short_games.specs.Tree.{Tree, tree_at}
use Rattle.short_games.specs.Order.{◌≤ᵍ◌}
use Rattle.short_games.specs.Threshold.{IsFloor, IsCeiling}
use Rattle.short_games.proofs.OrderLaws.{le-refl}
use Rattle.game_canon.proofs.ComparisonLaws.{number_between}
use Rattle.local_value.specs.Remembered.{side}
use Rattle.local_value.specs.inner.Options.{leader_of, IsNoBetter, IsOptionAmong, IsLed, AreEnough}
use Rattle.local_value.specs.inner.OptionSets.{HasNoRepeats, HaveSameMembers}
use Rattle.local_value.proofs.OptionNumberLemmas.{one_option}
use Rattle.local_value.proofs.OptionSetLemmas.{once-none, once-push}

-- a number between two games shows their order
pub in_order : (Ts : List Tree) (n o g r : ℕ) (f k : ℤ) → g ≡ n / 2 → r ≡ o / 2 → IsCeiling 60 (tree_at Ts g) f → IsFloor 60 (tree_at Ts r) k → f ≤ℤ k
    → tree_at Ts (n / 2) ≤ᵍ tree_at Ts (o / 2)
in_order Ts n o g r f k e d p q l = subst (λ i. tree_at Ts i ≤ᵍ tree_at Ts (o / 2)) e
    (subst (λ i. tree_at Ts g ≤ᵍ tree_at Ts i) d (number_between (tree_at Ts g) (tree_at Ts r) f k p q l))

-- an option is no better than itself
itself : (c : Colour) (Ts : List Tree) (n : ℕ) → IsNoBetter c Ts n n
itself Black Ts n = le-refl (tree_at Ts (n / 2))
itself White Ts n = le-refl (tree_at Ts (n / 2))

of_some : (P : ℕ → Type 0) (m : Option ℕ) (o : ℕ) → IfSome m P → m ≡ Some o → P o
of_some P m o h e = subst (λ x. IfSome x P) e h

-- an option that stands in a list once doesn't stand before its place
none-before : (os : List ℕ) (k : ℕ) → HasNoRepeats os → k < length os → Contains (take k os) (get_or os k 0) → ⊥
none-before os k once inside (j, lt, e) =
    let x = get_or os k 0 in
    let short : j < k = omega (arith, lt, length-take-le k os (omega (arith, inside))) in
    let same : get_or os j 0 ≡ get_or os k 0 = get_or_default os j 0 x (omega (arith, short, inside)) ∙ sym (get_or-take k os j x short) ∙ e in
    let apart : nat_eq (get_or os j 0) (get_or os k 0) ≡ false = apart_from_distinct nat_eq os j k 0 once short inside in
    let bad : true ≡ false = sym (eq-eqb _ _ same) ∙ apart in cc

-- what the loop over the options keeps: each of the first k stays, or the leader of its player is another one, and it no better
pub record AreKept (Ts : List Tree) (os : List ℕ) (black white : Option ℕ) (k : ℕ) (kept : List ℕ) : Type 0 where
  pub once : HasNoRepeats kept
  pub among : (n : ℕ) → Contains kept n → Contains (take k os) n
  pub passed : (c : Colour) (n : ℕ) → IsOptionAmong c (take k os) n → Contains kept n ⊎ IsLed c Ts (leader_of c black white) n

pub kept-none : (Ts : List Tree) (os : List ℕ) (black white : Option ℕ) → AreKept Ts os black white 0 []
kept-none Ts os black white = record {
  once = once-none;
  among = λ n h. absurd (omega (arith, h.1));
  passed = λ c n h. absurd (omega (arith, h.0.1));
}

module _ (Ts : List Tree) (os : List ℕ) (black white : Option ℕ) (k : ℕ) (kept : List ℕ) (w : AreKept Ts os black white k kept) (inside : k < length os) where
  abbrev x : ℕ
  x = get_or os k 0

  next : take (k + 1) os ≡ take k os ++ x ∷ []
  next = take_more os k 0 inside

  among-more : (n : ℕ) → Contains kept n → Contains (take (k + 1) os) n
  among-more n h = subst (λ l. Contains l n) (sym next) (Contains-append_left (take k os) (x ∷ []) n (w.among n h))

  passed-more : (kept' : List ℕ) → ((n : ℕ) → Contains kept n → Contains kept' n)
      → ((c : Colour) → x % 2 ≡ side c → Contains kept' x ⊎ IsLed c Ts (leader_of c black white) x)
      → (c : Colour) (n : ℕ) → IsOptionAmong c (take (k + 1) os) n → Contains kept' n ⊎ IsLed c Ts (leader_of c black white) n
  passed-more kept' more last c n h = elim (Contains-push_cases (take k os) x n (subst (λ l. Contains l n) next h.0)) [
    | inl old ↦ elim (w.passed c n (old, h.1)) [ inl i ↦ inl (more n i) | inr led ↦ inr led ]
    | inr e ↦ subst (λ m. Contains kept' m ⊎ IsLed c Ts (leader_of c black white) m) e (last c (ap (λ m. m % 2) e ∙ h.1))
  ]

  pub kept-skip : (c : Colour) → x % 2 ≡ side c → IsLed c Ts (leader_of c black white) x → AreKept Ts os black white (k + 1) kept
  kept-skip c its goes = record {
    once = w.once;
    among = among-more;
    passed = passed-more kept (λ n h. h) (λ d same. inr (subst (λ e. IsLed e Ts (leader_of e black white) x) (one_side c d (sym its ∙ same)) goes));
  }
    where
      one_side : (c d : Colour) → side c ≡ side d → c ≡ d
      one_side c d e = (one_option c d 0 0 (ap (λ n. 2 * 0 + n) e)).0

  pub kept-push : HasNoRepeats os → AreKept Ts os black white (k + 1) (kept ++ x ∷ [])
  kept-push once = record {
    once = once-push kept x w.once (λ h. none-before os k once inside (w.among x h));
    among = λ n h. elim (Contains-push_cases kept x n h) [
      | inl old ↦ among-more n old
      | inr e ↦ subst (λ l. Contains l n) (sym next) (subst (Contains (take k os ++ x ∷ [])) e (Contains-push (take k os) x))
    ];
    passed = passed-more (kept ++ x ∷ []) (λ n h. Contains-append_left kept (x ∷ []) n h) (λ c same. inl (Contains-push kept x));
  }

-- at the end they are enough, since the leaders stay
pub kept-enough : (Ts : List Tree) (os : List ℕ) (black white : Option ℕ) (k : ℕ) (kept : List ℕ) → AreKept Ts os black white k kept → length os ≤ k
    → IfSome black (IsOptionAmong Black os) → IfSome white (IsOptionAmong White os) → AreEnough Ts os kept
kept-enough Ts os black white k kept w all b h = record {
  among = λ n i. subst (λ l. Contains l n) (take_all k os all) (w.among n i);
  covered = λ c n among. elim (passed c n among) [
    | inl i ↦ (n, (i, among.1), itself c Ts n)
    | inr led ↦ (
        let its = leads c led.0 led.1 in
        elim (passed c led.0 its) [
          | inl i ↦ (led.0, (i, its.1), led.3)
          | inr other ↦ absurd (other.2 (same_Some other.0 led.0 (sym other.1 ∙ led.1)))
        ]
        )
  ];
}
  where
    passed : (c : Colour) (n : ℕ) → IsOptionAmong c os n → Contains kept n ⊎ IsLed c Ts (leader_of c black white) n
    passed c n among = w.passed c n (subst (λ l. Contains l n) (sym (take_all k os all)) among.0, among.1)

    leads : (c : Colour) (o : ℕ) → leader_of c black white ≡ Some o → IsOptionAmong c os o
    leads Black o e = of_some (IsOptionAmong Black os) black o b e
    leads White o e = of_some (IsOptionAmong White os) white o h e

-- a list with the same members is enough
pub enough-same : (Ts : List Tree) (os others : List ℕ) → HaveSameMembers os others → AreEnough Ts os others
enough-same Ts os others same = record {
  among = λ n h. (same n).1 h;
  covered = λ c n h. (n, ((same n).0 h.0, h.1), itself c Ts n);
}
