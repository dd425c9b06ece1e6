-- The best of two groups of options, in each of which none covers another.
use Rattle.std.proofs.Common.{ℕ, ◌<◌, ◌≡◌, ◌⊎◌, List, [], ◌∷◌, ◌++◌, length, get_or, arith, refl, sym, inl, inr, subst, take, drop}
use Rattle.short_games.specs.Tree.{Tree, Has, tree_at}
use Rattle.game_store.specs.Meaning.{pick}
use Rattle.game_canon.specs.Groups.{AreUnordered}
use Rattle.game_canon.specs.declared.side.Side.{Side}
use Rattle.game_canon.specs.declared.side.Side.TheVariants.{Left, Right}
use Rattle.game_canon.specs.inner.Sides.{AreBest, AreFree, Covers, IsUncovered}
use Rattle.game_canon.proofs.GameLaws.{none-list}
use Rattle.game_canon.proofs.SideLaws.{NearUncovered, append-has, covers-refl, covers-trans, has-append_left, has-append_right, ids-append, ids-one, one, parted, sizes-append, some-covers}
use Rattle.game_store.proofs.EntryLaws.{pick-has}

-- where no tree is at most another, none covers another
pub unordered-free : (s : Side) (Ts : List Tree) (is : List ℕ) → AreUnordered (pick Ts is) → AreFree s (pick Ts is)
unordered-free Left Ts is u = u
unordered-free Right Ts is u = λ A B a b c. sym (u B A b a c)

-- one more of the ids, which a game of the others covers or not
pub uncovered-skip : (s : Side) (Ts : List Tree) (xs os vs : List ℕ) (y : ℕ) → (NearUncovered s Ts os (tree_at Ts y) → ⊥)
    → IsUncovered s Ts xs os vs → IsUncovered s Ts (xs ++ y ∷ []) os vs
uncovered-skip s Ts xs os vs y some u = record {
  ids = u.ids;
  among = λ X h. (has-append_left Ts xs (y ∷ []) X (u.among X h).0, (u.among X h).1);
  rest = λ X h. elim (append-has Ts xs (y ∷ []) X h) [
    | inl a ↦ u.rest X a
    | inr a ↦ inl (subst (λ t. (Y : Tree) × Has (pick Ts os) Y × Covers s t Y) (sym (one Ts y X a))
        (some-covers s (pick Ts os) (tree_at Ts y) (λ none. some (λ j l. none (tree_at Ts (get_or os j 0)) (pick-has Ts os j l)))))
  ];
  smaller = omega (arith, u.smaller, sizes-append Ts xs (y ∷ []));
}

pub uncovered-push : (s : Side) (Ts : List Tree) (xs os vs : List ℕ) (y : ℕ) → y < length Ts → NearUncovered s Ts os (tree_at Ts y)
    → IsUncovered s Ts xs os vs → IsUncovered s Ts (xs ++ y ∷ []) os (vs ++ y ∷ [])
uncovered-push s Ts xs os vs y l none u = record {
  ids = ids-append Ts vs (y ∷ []) u.ids (ids-one Ts y l);
  among = λ X h. elim (append-has Ts vs (y ∷ []) X h) [
    | inl a ↦ (has-append_left Ts xs (y ∷ []) X (u.among X a).0, (u.among X a).1)
    | inr a ↦ (
      has-append_right Ts xs (y ∷ []) X a,
      subst (λ t. (Y : Tree) → Has (pick Ts os) Y → Covers s t Y → ⊥) (sym (one Ts y X a)) (none-list Ts os (λ Z. Covers s (tree_at Ts y) Z) none),
    )
  ];
  rest = λ X h. elim (append-has Ts xs (y ∷ []) X h) [
    | inl a ↦ elim (u.rest X a) [ inl k ↦ inl k | inr k ↦ inr (has-append_left Ts vs (y ∷ []) X k) ]
    | inr a ↦ inr (has-append_right Ts vs (y ∷ []) X a)
  ];
  smaller = omega (arith, u.smaller, sizes-append Ts xs (y ∷ []), sizes-append Ts vs (y ∷ []));
}

-- those of the second group that the first doesn't cover, and those of the first that these don't cover
pub best-groups : (s : Side) (Ts : List Tree) (xs ys us vs : List ℕ) → AreFree s (pick Ts xs) → AreFree s (pick Ts ys)
    → IsUncovered s Ts ys xs vs → IsUncovered s Ts xs vs us → AreBest s Ts (xs ++ ys) (us ++ vs)
best-groups s Ts xs ys us vs free other v u = record {
  ids = ids-append Ts us vs u.ids v.ids;
  among = λ X h. elim (append-has Ts us vs X h) [
    | inl a ↦ has-append_left Ts xs ys X (u.among X a).0
    | inr a ↦ has-append_right Ts xs ys X (v.among X a).0
  ];
  covers = λ X h. elim (append-has Ts xs ys X h) [ inl a ↦ of_first X a | inr a ↦ of_second X a ];
  free = λ A B a b k. frees A B (append-has Ts us vs A a) (append-has Ts us vs B b) k;
  smaller = omega (arith, u.smaller, v.smaller, sizes-append Ts xs ys, sizes-append Ts us vs);
}
  where
    of_first : (X : Tree) → Has (pick Ts xs) X → (Y : Tree) × Has (pick Ts (us ++ vs)) Y × Covers s X Y
    of_first X h = elim (u.rest X h) [
      | inl k ↦ (k.0, has-append_right Ts us vs k.0 k.1, k.2)
      | inr k ↦ (X, has-append_left Ts us vs X k, covers-refl s X)
    ]

    of_second : (X : Tree) → Has (pick Ts ys) X → (Y : Tree) × Has (pick Ts (us ++ vs)) Y × Covers s X Y
    of_second X h = elim (v.rest X h) [
      | inl k ↦ (let r = of_first k.0 k.1 in (r.0, r.1, covers-trans s X k.0 r.0 k.2 r.2))
      | inr k ↦ (X, has-append_right Ts us vs X k, covers-refl s X)
    ]

    frees : (A B : Tree) → Has (pick Ts us) A ⊎ Has (pick Ts vs) A → Has (pick Ts us) B ⊎ Has (pick Ts vs) B → Covers s A B → A ≡ B
    frees A B (inl a) (inl b) k = free A B (u.among A a).0 (u.among B b).0 k
    frees A B (inl a) (inr b) k = absurd ((u.among A a).1 B b k)
    frees A B (inr a) (inl b) k = absurd ((v.among A a).1 B (u.among B b).0 k)
    frees A B (inr a) (inr b) k = other A B (v.among A a).0 (v.among B b).0 k

-- the groups of a list are its parts
pub groups-best : (s : Side) (Ts : List Tree) (is xs ys bs : List ℕ) (cut : ℕ) → xs ≡ take cut is → ys ≡ drop cut is → AreBest s Ts (xs ++ ys) bs → AreBest s Ts is bs
groups-best s Ts is xs ys bs cut e f b = subst (λ z. AreBest s Ts z bs) (parted is is xs ys cut e f refl) b
