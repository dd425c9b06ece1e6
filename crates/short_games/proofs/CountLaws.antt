-- Lists of different trees: how many they are, and that the parts of a game are such a list.
use Rattle.std.proofs.Common.{ℕ, zero, suc, ◌<◌, ◌≤◌, ◌≡◌, ◌⊎◌, List, [], ◌∷◌, length, arith, refl, inl, inr, sym, ◌∙◌, subst}
use Rattle.short_games.specs.Tree.{Tree, Trees, node, none, more, Has, tree_at, AreDistinct, ◌then◌}
use Rattle.short_games.specs.Number.{num, IsNumberTree}
use Rattle.short_games.specs.TextOrder.{IsCanonicalTree}
use Rattle.short_games.specs.Parts.{IsFollower, IsOption, HasParts}
use Rattle.short_games.specs.Parts.IsFollower.{itself, further}
use Rattle.short_games.proofs.OrderLaws.{same-path}
use Rattle.short_games.proofs.SumLaws.{then-has, has-then_left, has-then_right}
use Rattle.short_games.proofs.NumberTextLaws.{same-or_not}
use Rattle.short_games.proofs.ReductionLaws.{number-canonical, canonical-same}
use Rattle.short_games.proofs.GameStopLaws.{number-or_not}

-- the tree stands in the list
abbrev IsIn : List Tree → Tree → Type 0
IsIn Xs X = (j : ℕ) × (j < length Xs) × (tree_at Xs j ≡ X)

further_in : (X : Tree) (Xs : List Tree) (Z : Tree) → IsIn Xs Z → IsIn (X ∷ Xs) Z
further_in X Xs Z (j, l, e) = (suc j, omega (arith, l), e)

in-or_not : (Xs : List Tree) (X : Tree) → IsIn Xs X ⊎ (IsIn Xs X → ⊥)
in-or_not [] X = inr (λ h. omega (arith, h.1))
in-or_not (Y ∷ Ys) X = elim (same-or_not Y X) [
  | inl e ↦ inl (0, omega arith, e)
  | inr f ↦ elim (in-or_not Ys X) [ inl h ↦ inl (further_in Y Ys X h) | inr g ↦ inr (λ h. behind h.0 h.1 h.2 f g) ]
]
  where
    behind : (j : ℕ) → j < length (Y ∷ Ys) → tree_at (Y ∷ Ys) j ≡ X → (Y ≡ X → ⊥) → (IsIn Ys X → ⊥) → ⊥
    behind zero l e f g = f e
    behind (suc j) l e f g = g (j, omega (arith, l), e)

-- the list without the tree at a place
without : List Tree → ℕ → List Tree
without [] i = []
without (X ∷ Xs) zero = Xs
without (X ∷ Xs) (suc i) = X ∷ without Xs i

length-without : (Xs : List Tree) (i : ℕ) → i < length Xs → suc (length (without Xs i)) ≡ length Xs
unfolding without
length-without [] i l = absurd (omega (arith, l))
length-without (X ∷ Xs) zero l = omega arith
length-without (X ∷ Xs) (suc i) l = omega (arith, length-without Xs i (omega (arith, l)))

in-without : (Xs : List Tree) (i : ℕ) (Z : Tree) → (tree_at Xs i ≡ Z → ⊥) → IsIn Xs Z → IsIn (without Xs i) Z
unfolding without
in-without [] i Z f (j, l, e) = absurd (omega (arith, l))
in-without (X ∷ Xs) zero Z f (zero, l, e) = absurd (f e)
in-without (X ∷ Xs) zero Z f (suc j, l, e) = (j, omega (arith, l), e)
in-without (X ∷ Xs) (suc i) Z f (zero, l, e) = (0, omega arith, e)
in-without (X ∷ Xs) (suc i) Z f (suc j, l, e) = further_in X (without Xs i) Z (in-without Xs i Z f (j, omega (arith, l), e))

rest-distinct : (X : Tree) (Xs : List Tree) → AreDistinct (X ∷ Xs) → AreDistinct Xs
rest-distinct X Xs d = λ i j k l e. (let s : suc i ≡ suc j = d (suc i) (suc j) (omega (arith, k)) (omega (arith, l)) e in omega (arith, s))

-- different trees that all stand in a list are no more than it has
pub no-more : (Xs Ys : List Tree) → AreDistinct Xs → ((j : ℕ) → j < length Xs → IsIn Ys (tree_at Xs j)) → length Xs ≤ length Ys
no-more [] Ys d f = omega arith
no-more (X ∷ Xs) Ys d f =
    let p = f 0 (omega arith) in
    let less = no-more Xs (without Ys p.0) (rest-distinct X Xs d) (λ j l. in-without Ys p.0 (tree_at Xs j)
    (λ e. (let s : 0 ≡ suc j = d 0 (suc j) (omega arith) (omega (arith, l)) (sym p.2 ∙ e) in omega (arith, s))) (f (suc j) (omega (arith, l)))) in
    omega (arith, less, length-without Ys p.0 p.1)

-- the followers of a tree, as a list in which some may stand more than once
unfoldable mutual
  followers : Tree → Trees
  followers (node ls rs) = more (node ls rs) (followers_each ls then followers_each rs)

  followers_each : Trees → Trees
  followers_each none = none
  followers_each (more G Gs) = followers G then followers_each Gs

each-has : (Gs : Trees) (H X : Tree) → Has Gs H → Has (followers H) X → Has (followers_each Gs) X
unfolding followers
each-has none H X h x = absurd h
each-has (more G Gs) H X (inl e) x = has-then_left (followers G) (followers_each Gs) X (subst (λ t. Has (followers t) X) e x)
each-has (more G Gs) H X (inr h) x = has-then_right (followers G) (followers_each Gs) X (each-has Gs H X h x)

has-itself : (G : Tree) → Has (followers G) G
unfolding followers
has-itself (node ls rs) = inl refl

option-has : (G H X : Tree) → IsOption G H → Has (followers H) X → Has (followers G) X
unfolding followers
option-has (node ls rs) H X (inl h) x = inr (has-then_left (followers_each ls) (followers_each rs) X (each-has ls H X h x))
option-has (node ls rs) H X (inr h) x = inr (has-then_right (followers_each ls) (followers_each rs) X (each-has rs H X h x))

follower-has : (G X : Tree) → IsFollower G X → Has (followers G) X
follower-has _ _ (itself G) = has-itself G
follower-has _ _ (further G H X o f) = option-has G H X o (follower-has H X f)

mutual
  unfolding followers

  has-follower : (G X : Tree) → Has (followers G) X → IsFollower G X
  has-follower (node ls rs) X (inl e) = subst (IsFollower (node ls rs)) (sym e) (itself (node ls rs))
  has-follower (node ls rs) X (inr h) = elim (then-has (followers_each ls) (followers_each rs) X h) [
    | inl x ↦ (let (H, k, f) = has-each ls X x in further (node ls rs) H X (inl k) f)
    | inr x ↦ (let (H, k, f) = has-each rs X x in further (node ls rs) H X (inr k) f)
  ]

  has-each : (Gs : Trees) (X : Tree) → Has (followers_each Gs) X → (H : Tree) × Has Gs H × IsFollower H X
  has-each none X h = absurd h
  has-each (more G Gs) X h = elim (then-has (followers G) (followers_each Gs) X h) [
    | inl x ↦ (G, inl refl, has-follower G X x)
    | inr x ↦ (let (H, k, f) = has-each Gs X x in (H, inr k, f))
  ]

-- of a list, those that pass, each once
record Gathered (P : Tree → Type 0) (Gs : Trees) (Xs : List Tree) : Type 0 where
  each : (j : ℕ) → j < length Xs → Has Gs (tree_at Xs j) × P (tree_at Xs j)
  different : AreDistinct Xs
  all : (X : Tree) → Has Gs X → P X → IsIn Xs X

distinct-more : (X : Tree) (Xs : List Tree) → (IsIn Xs X → ⊥) → AreDistinct Xs → AreDistinct (X ∷ Xs)
distinct-more X Xs f d zero zero k l e = refl
distinct-more X Xs f d zero (suc j) k l e = absurd (f (j, omega (arith, l), sym e))
distinct-more X Xs f d (suc i) zero k l e = absurd (f (i, omega (arith, k), e))
distinct-more X Xs f d (suc i) (suc j) k l e = omega (arith, d i j (omega (arith, k)) (omega (arith, l)) e)

module _ (P : Tree → Type 0) (ask : (X : Tree) → P X ⊎ (P X → ⊥)) where
  -- where the first is there already or doesn't pass
  passed : (G : Tree) (Gs : Trees) (Xs : List Tree) → (P G → IsIn Xs G) → Gathered P Gs Xs → Gathered P (more G Gs) Xs
  passed G Gs Xs f g = record {
    each = λ j l. (inr (g.each j l).0, (g.each j l).1);
    different = g.different;
    all = λ X h p. elim h [ inl e ↦ subst (IsIn Xs) (sym e) (f (subst P e p)) | inr x ↦ g.all X x p ];
  }

  taken : (G : Tree) (Gs : Trees) (Xs : List Tree) → P G → (IsIn Xs G → ⊥) → Gathered P Gs Xs → Gathered P (more G Gs) (G ∷ Xs)
  taken G Gs Xs p f g = record {
    each = at;
    different = distinct-more G Xs f g.different;
    all = λ X h q. elim h [ inl e ↦ (0, omega arith, sym e) | inr x ↦ further_in G Xs X (g.all X x q) ];
  }
    where
      at : (j : ℕ) → j < length (G ∷ Xs) → Has (more G Gs) (tree_at (G ∷ Xs) j) × P (tree_at (G ∷ Xs) j)
      at zero l = (inl refl, p)
      at (suc j) l = let e = g.each j (omega (arith, l)) in (inr e.0, e.1)

  gather : (Gs : Trees) → (Xs : List Tree) × Gathered P Gs Xs
  gather none = ([], record { each = λ j l. absurd (omega (arith, l)); different = λ i j k l e. absurd (omega (arith, l)); all = λ X h. absurd h })
  gather (more G Gs) = let r = gather Gs in elim (ask G) [
    | inr f ↦ (r.0, passed G Gs r.0 (λ p. absurd (f p)) r.1)
    | inl p ↦ elim (in-or_not r.0 G) [ inl h ↦ (r.0, passed G Gs r.0 (λ _. h) r.1) | inr f ↦ (G ∷ r.0, taken G Gs r.0 p f r.1) ]
  ]

-- a tree is a number's or isn't
number_tree-or_not : (X : Tree) → IsNumberTree X ⊎ (IsNumberTree X → ⊥)
number_tree-or_not X = elim (number-or_not X) [
  | inl (e, m, p, q) ↦ elim (same-or_not X (num e m)) [
    | inl i ↦ inl (e, m, i)
    | inr f ↦ inr (λ n. f (canonical-same X (num e m) (subst IsCanonicalTree (sym n.2) (number-canonical n.0 n.1)) (number-canonical e m) p q))
  ]
  | inr f ↦ inr (λ n. (let s = same-path X (num n.0 n.1) n.2 in f (n.0, n.1, s.0, s.1)))
]

pub parts-exist : (G : Tree) → (n : ℕ) × HasParts G n
parts-exist G =
    let r = gather (λ X. IsNumberTree X → ⊥) (λ X. elim (number_tree-or_not X) [ inl i ↦ inr (λ f. f i) | inr f ↦ inl f ]) (followers G) in (
      length r.0,
      (
        r.0,
        record { each = λ j l. (let e = r.1.each j l in (has-follower G (tree_at r.0 j) e.0, e.1)); different = r.1.different },
        λ X p. r.1.all X (follower-has G X p.0) p.1,
        refl,
      ),
    )
