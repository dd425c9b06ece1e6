-- The canonical tree is the smallest of all equal games: its followers are canonical trees of followers.
use Rattle.std.proofs.Common.{ℕ, zero, suc, ◌<◌, ◌≤◌, ◌≡◌, List, [], ◌∷◌, length, arith, refl, inl, inr, sym, ◌∙◌, subst}
use Rattle.short_games.specs.Tree.{Tree, node, size, tree_at}
use Rattle.short_games.specs.Number.{IsNumberTree}
use Rattle.short_games.specs.TextOrder.{IsCanonicalFor, IsCanonicalTree, TextBefore}
use Rattle.short_games.specs.Parts.{IsFollower, IsOption, IsPart, AreParts, HasParts, HasMoreParts}
use Rattle.short_games.specs.Parts.IsFollower.{itself, further}
use Rattle.short_games.specs.Birthdays.{IsBornBy}
use Rattle.short_games.proofs.OrderLaws.{by_measure, le-refl, le-trans, same-trans, same-sym, size-option}
use Rattle.short_games.proofs.PartLaws.{follower-of, follower-trans}
use Rattle.short_games.proofs.TextOrderLaws.{text-order}
use Rattle.short_games.proofs.ReductionLaws.{canonical-same, same-canonical, number-canonical}
use Rattle.short_games.proofs.FormLaws.{all-canonical}
use Rattle.short_games.proofs.CountLaws.{no-more}
use Rattle.short_games.proofs.ExistenceLaws.{canon_below, small_canon, with_canonical_options, WithCanonicalOptions}

-- where the options are canonical, those of the canonical tree are followers of them
pub options-below : (G C : Tree) → ((X : Tree) → IsOption G X → IsCanonicalTree X) → IsCanonicalFor G C → (X : Tree) → IsOption C X
    → (L : Tree) × IsOption G L × IsFollower L X
options-below (node ls rs) C each is X h =
    let r = canon_below TextBefore text-order.total ls rs (all-canonical TextBefore ls (λ Y y. each Y (inl y))) (all-canonical TextBefore rs (λ Y y. each Y (inr y))) in
    let t = r.canon in
    let G = node ls rs in
    let same = canonical-same C t.tree is.canonical t.canonical (le-trans C G t.tree is.over t.under) (le-trans t.tree G C t.over is.under) in
    r.below X (subst (λ z. IsOption z X) same h)

canonical-of : (G : Tree) → (C : Tree) × IsCanonicalFor G C × (size C ≤ size G)
canonical-of G = let r = small_canon TextBefore text-order.total G in
    (r.0.tree, record { canonical = r.0.canonical; under = r.0.under; over = r.0.over }, r.1)

pub fewest-nodes : (G C : Tree) → IsCanonicalFor G C → size C ≤ size G
fewest-nodes G C is = let r = canonical-of G in subst (λ t. size t ≤ size G) (same-canonical G r.0 C r.1 is) r.2

-- an option of the canonical tree is a follower of the canonical tree of an option
record OptionBehind (G X : Tree) : Type 0 where
  option : Tree
  is_option : IsOption G option
  canonical : Tree
  is_canonical : IsCanonicalFor option canonical
  follows : IsFollower canonical X

option-behind : (G C : Tree) → IsCanonicalFor G C → (X : Tree) → IsOption C X → OptionBehind G X
option-behind (node ls rs) C is X o =
    let (L, l, b) = options-below (node w.lefts w.rights) C (λ K k. (w.from K k).2.canonical) of_form X o in
    let (K, k, r) = w.from L l in
    record { option = K; is_option = k; canonical = L; is_canonical = r; follows = b }
  where
    w : WithCanonicalOptions TextBefore text-order.total ls rs
    w = with_canonical_options TextBefore text-order.total ls rs (λ K k. let r = canonical-of K in (r.0, (r.1, r.2)))

    of_form : IsCanonicalFor (node w.lefts w.rights) C
    of_form = let s = same-trans _ _ _ (same-sym _ _ w.same) (is.under, is.over) in record { canonical = is.canonical; under = s.0; over = s.1 }

abbrev Comes : Tree → Tree → Type 0
Comes G X = (P : Tree) × IsFollower G P × IsCanonicalFor P X

followers_step : (G : Tree) → ((A : Tree) → size A < size G → (C : Tree) → IsCanonicalFor A C → (X : Tree) → IsFollower C X → Comes A X)
    → (C : Tree) → IsCanonicalFor G C → (X : Tree) → IsFollower C X → Comes G X
followers_step G ih C is X f = elim (follower-of C X f) [
  | inl e ↦ (G, itself G, subst (IsCanonicalFor G) (sym e) is)
  | inr (Y, o, g) ↦ (let b = option-behind G C is Y o in
      let (P, p, q) = ih b.option (size-option G b.option b.is_option) b.canonical b.is_canonical X (follower-trans b.canonical Y X b.follows g) in
      (P, further G b.option P b.is_option p, q))
]

pub followers-canonical : (G C : Tree) → IsCanonicalFor G C → (X : Tree) → IsFollower C X → Comes G X
followers-canonical = by_measure size (λ G. (C : Tree) → IsCanonicalFor G C → (X : Tree) → IsFollower C X → Comes G X) followers_step

-- who is born by a day is born by the next, and so are the followers
born-later : (n : ℕ) (G : Tree) → IsBornBy n G → IsBornBy (suc n) G
unfolding IsBornBy
born-later zero G b = λ X o. absurd (b X o)
born-later (suc n) G b = λ X o. born-later n X (b X o)

follower-born : (n : ℕ) (G X : Tree) → IsFollower G X → IsBornBy n G → IsBornBy n X
unfolding IsBornBy
follower-born n _ _ (itself G) b = b
follower-born zero _ _ (further G H X o f) b = absurd (b H o)
follower-born (suc n) _ _ (further G H X o f) b = born-later n X (follower-born n H X f (b H o))

pub born-first : (G C : Tree) (n : ℕ) → IsCanonicalFor G C → IsBornBy n G → IsBornBy n C
unfolding IsBornBy
born-first G C zero is b = λ X o. (let w = option-behind G C is X o in b w.option w.is_option)
born-first G C (suc n) is b = λ X o. (let w = option-behind G C is X o in
    follower-born n w.canonical X w.follows (born-first w.option w.canonical n w.is_canonical (b w.option w.is_option)))

-- a part of the canonical tree is the canonical tree of a part
part-of_part : (G C : Tree) → IsCanonicalFor G C → (X : Tree) → IsPart C X → (P : Tree) × (IsPart G P × IsCanonicalFor P X)
part-of_part G C is X (f, n) = let r = followers-canonical G C is X f in
    (r.0, ((r.1, λ i. n (i.0, i.1, same-canonical r.0 X r.0 r.2 (itself-for r.0 i) ∙ i.2)), r.2))
  where
    itself-for : (P : Tree) → IsNumberTree P → IsCanonicalFor P P
    itself-for P i = record { canonical = subst IsCanonicalTree (sym i.2) (number-canonical i.0 i.1); under = le-refl P; over = le-refl P }

-- trees that belong to those of a list, each to that at its place
along : (P : Tree → Tree → Type 0) (Xs : List Tree) → ((j : ℕ) → j < length Xs → (Y : Tree) × P (tree_at Xs j) Y)
    → (Ys : List Tree) × (length Ys ≡ length Xs) × ((j : ℕ) → j < length Xs → P (tree_at Xs j) (tree_at Ys j))
along P [] f = ([], refl, λ j l. absurd (omega (arith, l)))
along P (X ∷ Xs) f =
    let first = f 0 (omega arith) in
    let r = along P Xs (λ j l. f (suc j) (omega (arith, l))) in
    (first.0 ∷ r.0, omega (arith, r.1), at first.0 r.0 first.1 r.2)
  where
    at : (Y : Tree) (Ys : List Tree) → P X Y → ((j : ℕ) → j < length Xs → P (tree_at Xs j) (tree_at Ys j))
        → (j : ℕ) → j < length (X ∷ Xs) → P (tree_at (X ∷ Xs) j) (tree_at (Y ∷ Ys) j)
    at Y Ys p g zero l = p
    at Y Ys p g (suc j) l = g j (omega (arith, l))

-- to different parts of the canonical tree belong different parts of the game
parts-behind : (G C : Tree) (Xs : List Tree) → IsCanonicalFor G C → AreParts C Xs → (Ys : List Tree) × AreParts G Ys × (length Ys ≡ length Xs)
parts-behind G C Xs is parts =
    let r = along (λ X P. IsPart G P × IsCanonicalFor P X) Xs (λ j l. part-of_part G C is (tree_at Xs j) (parts.each j l)) in (
      r.0,
      record {
        each = λ j l. (r.2 j (omega (arith, l, r.1))).0;
        different = λ i j k l e. parts.different i j (omega (arith, k, r.1)) (omega (arith, l, r.1))
            (same-canonical (tree_at r.0 j) (tree_at Xs i) (tree_at Xs j)
            (subst (λ t. IsCanonicalFor t (tree_at Xs i)) e (r.2 i (omega (arith, k, r.1))).1) (r.2 j (omega (arith, l, r.1))).1);
      },
      r.1,
    )

pub more-parts : (G C : Tree) (n : ℕ) → IsCanonicalFor G C → HasMoreParts C n → HasMoreParts G n
more-parts G C n is (Xs, parts, long) = let r = parts-behind G C Xs is parts in (r.0, r.1, omega (arith, long, r.2))

pub fewest-parts : (G C : Tree) (m n : ℕ) → IsCanonicalFor G C → HasParts G m → HasParts C n → n ≤ m
fewest-parts G C m n is (Zs, _, all, short) (Xs, parts, _, long) =
    let r = parts-behind G C Xs is parts in
    let few = no-more r.0 Zs r.1.different (λ j l. all (tree_at r.0 j) (r.1.each j l)) in
    omega (arith, few, short, long, r.2)
