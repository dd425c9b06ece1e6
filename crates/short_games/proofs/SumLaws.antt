-- Sums: their options, and that they keep the order.
use Rattle.std.proofs.Common.{◌+◌, ◌<◌, ◌≡◌, ◌⊎◌, arith, refl, inl, inr, sym, ◌∙◌, ap, ap₂}
use Rattle.short_games.specs.Tree.{Tree, Trees, node, none, more, left, right, Has, size, sizes, ◌then◌, neg, neg_each}
use Rattle.short_games.specs.Order.{◌≡ᵍ◌, ◌≤ᵍ◌}
use Rattle.short_games.specs.Sum.{◌+ᵍ◌, each_plus, plus_each, sum_of_each}
use Rattle.short_games.proofs.OrderLaws.{by_measure, by_sizes, by_three_sizes, le-out, le-in, le-refl, le-trans, same-refl, size-left, size-right}

pub each-is : (ls rs Ms : Trees) → sum_of_each (λ K. each_plus ls K) (λ K. each_plus rs K) Ms ≡ plus_each (node ls rs) Ms
unfolding ◌+ᵍ◌ plus_each
each-is ls rs none = refl
each-is ls rs (more M Ms) = ap (more (node ls rs +ᵍ M)) (each-is ls rs Ms)

pub plus-left : (G H : Tree) → left (G +ᵍ H) ≡ each_plus (left G) H then plus_each G (left H)
unfolding ◌+ᵍ◌
plus-left (node ls rs) (node ms ns) = ap (λ z. each_plus ls (node ms ns) then z) (each-is ls rs ms)

pub plus-right : (G H : Tree) → right (G +ᵍ H) ≡ each_plus (right G) H then plus_each G (right H)
unfolding ◌+ᵍ◌
plus-right (node ls rs) (node ms ns) = ap (λ z. each_plus rs (node ms ns) then z) (each-is ls rs ns)

pub then-has : (As Bs : Trees) (X : Tree) → Has (As then Bs) X → Has As X ⊎ Has Bs X
then-has none Bs X h = inr h
then-has (more A As) Bs X (inl e) = inl (inl e)
then-has (more A As) Bs X (inr h) = elim (then-has As Bs X h) [ inl a ↦ inl (inr a) | inr b ↦ inr b ]

pub has-then_left : (As Bs : Trees) (X : Tree) → Has As X → Has (As then Bs) X
has-then_left none Bs X h = elim h [ ]
has-then_left (more A As) Bs X (inl e) = inl e
has-then_left (more A As) Bs X (inr h) = inr (has-then_left As Bs X h)

pub has-then_right : (As Bs : Trees) (X : Tree) → Has Bs X → Has (As then Bs) X
has-then_right none Bs X h = h
has-then_right (more A As) Bs X h = inr (has-then_right As Bs X h)

-- the trees that f gives for those of a list
abbrev mapped : (Tree → Tree) → Trees → Trees
mapped f none = none
mapped f (more G Gs) = more (f G) (mapped f Gs)

each_plus-mapped : (Gs : Trees) (H : Tree) → each_plus Gs H ≡ mapped (λ G. G +ᵍ H) Gs
unfolding ◌+ᵍ◌
each_plus-mapped none H = refl
each_plus-mapped (more G Gs) H = ap (more (G +ᵍ H)) (each_plus-mapped Gs H)

plus_each-mapped : (G : Tree) (Hs : Trees) → plus_each G Hs ≡ mapped (λ H. G +ᵍ H) Hs
unfolding plus_each
plus_each-mapped G none = refl
plus_each-mapped G (more H Hs) = ap (more (G +ᵍ H)) (plus_each-mapped G Hs)

neg_each-mapped : (Gs : Trees) → neg_each Gs ≡ mapped neg Gs
unfolding neg
neg_each-mapped none = refl
neg_each-mapped (more G Gs) = ap (more (neg G)) (neg_each-mapped Gs)

mapped-has : (f : Tree → Tree) (Gs : Trees) (X : Tree) → Has (mapped f Gs) X → (G : Tree) × Has Gs G × (X ≡ f G)
mapped-has f none X h = absurd h
mapped-has f (more G Gs) X (inl e) = (G, inl refl, e)
mapped-has f (more G Gs) X (inr h) = let r = mapped-has f Gs X h in (r.0, inr r.1, r.2)

has-mapped : (f : Tree → Tree) (Gs : Trees) (G : Tree) → Has Gs G → Has (mapped f Gs) (f G)
has-mapped f none G h = absurd h
has-mapped f (more K Ks) G (inl e) = inl (ap f e)
has-mapped f (more K Ks) G (inr h) = inr (has-mapped f Ks G h)

mapped-then : (f : Tree → Tree) (As Bs : Trees) → mapped f (As then Bs) ≡ mapped f As then mapped f Bs
mapped-then f none Bs = refl
mapped-then f (more A As) Bs = ap (more (f A)) (mapped-then f As Bs)

mapped-twice : (f g h : Tree → Tree) (Gs : Trees) → ((X : Tree) → Has Gs X → f (g X) ≡ h X) → mapped f (mapped g Gs) ≡ mapped h Gs
mapped-twice f g h none e = refl
mapped-twice f g h (more G Gs) e = ap₂ more (e G (inl refl)) (mapped-twice f g h Gs (λ X x. e X (inr x)))

pub each_plus-has : (Gs : Trees) (H X : Tree) → Has (each_plus Gs H) X → (G : Tree) × Has Gs G × (X ≡ G +ᵍ H)
each_plus-has Gs H X h = mapped-has (λ G. G +ᵍ H) Gs X (rw (each_plus-mapped Gs H) at h)

pub has-each_plus : (Gs : Trees) (H G : Tree) → Has Gs G → Has (each_plus Gs H) (G +ᵍ H)
has-each_plus Gs H G h = rw (each_plus-mapped Gs H) (has-mapped (λ G. G +ᵍ H) Gs G h)

pub plus_each-has : (G : Tree) (Hs : Trees) (X : Tree) → Has (plus_each G Hs) X → (H : Tree) × Has Hs H × (X ≡ G +ᵍ H)
plus_each-has G Hs X h = mapped-has (λ H. G +ᵍ H) Hs X (rw (plus_each-mapped G Hs) at h)

pub has-plus_each : (G : Tree) (Hs : Trees) (H : Tree) → Has Hs H → Has (plus_each G Hs) (G +ᵍ H)
has-plus_each G Hs H h = rw (plus_each-mapped G Hs) (has-mapped (λ H. G +ᵍ H) Hs H h)

-- an option of a sum is a move in the first game, or one in the second
pub data InSum (G H : Tree) (Gs Hs : Trees) : Tree → Type 0 where
  in_first : (K : Tree) → Has Gs K → InSum G H Gs Hs (K +ᵍ H)
  in_second : (K : Tree) → Has Hs K → InSum G H Gs Hs (G +ᵍ K)

of_sum : (G H : Tree) (Gs Hs : Trees) (X : Tree) → Has (each_plus Gs H then plus_each G Hs) X → InSum G H Gs Hs X
of_sum G H Gs Hs X h = elim (then-has _ _ X h) [
  | inl a ↦ (let r = each_plus-has Gs H X a in rw r.2 (in_first r.0 r.1))
  | inr b ↦ (let r = plus_each-has G Hs X b in rw r.2 (in_second r.0 r.1))
]

pub left_of_sum : (G H X : Tree) → Has (left (G +ᵍ H)) X → InSum G H (left G) (left H) X
left_of_sum G H X h = of_sum G H (left G) (left H) X (rw (plus-left G H) at h)

pub right_of_sum : (G H X : Tree) → Has (right (G +ᵍ H)) X → InSum G H (right G) (right H) X
right_of_sum G H X h = of_sum G H (right G) (right H) X (rw (plus-right G H) at h)

pub left_in_first : (G H K : Tree) → Has (left G) K → Has (left (G +ᵍ H)) (K +ᵍ H)
left_in_first G H K h = rw (plus-left G H) (has-then_left _ _ _ (has-each_plus (left G) H K h))

pub left_in_second : (G H K : Tree) → Has (left H) K → Has (left (G +ᵍ H)) (G +ᵍ K)
left_in_second G H K h = rw (plus-left G H) (has-then_right _ _ _ (has-plus_each G (left H) K h))

pub right_in_first : (G H K : Tree) → Has (right G) K → Has (right (G +ᵍ H)) (K +ᵍ H)
right_in_first G H K h = rw (plus-right G H) (has-then_left _ _ _ (has-each_plus (right G) H K h))

pub right_in_second : (G H K : Tree) → Has (right H) K → Has (right (G +ᵍ H)) (G +ᵍ K)
right_in_second G H K h = rw (plus-right G H) (has-then_right _ _ _ (has-plus_each G (right H) K h))

-- a game is not at or above its Right options, nor at or below its Left ones
pub not_le_left : (G L : Tree) → Has (left G) L → G ≤ᵍ L → ⊥
not_le_left G L h = λ e. (le-out G G (le-refl G)).from_left L h e

pub not_right_le : (G R : Tree) → Has (right G) R → R ≤ᵍ G → ⊥
not_right_le G R h = λ e. (le-out G G (le-refl G)).from_right R h e

-- the order of two games is the order of their sums with a third
abbrev pub SameOrder : (G H K : Tree) → Type 0
SameOrder G H K = (G ≤ᵍ H → G +ᵍ K ≤ᵍ H +ᵍ K) × (G +ᵍ K ≤ᵍ H +ᵍ K → G ≤ᵍ H)

-- what holds of every three games with fewer nodes than these, holds of these
plus_step : (G H K : Tree) → ((A B C : Tree) → size A + size B + size C < size G + size H + size K → SameOrder A B C) → SameOrder G H K
plus_step G H K ih = (
  λ p. le-in _ _ record {
    from_left = λ X h e. from_left_of p X (left_of_sum G K X h) e;
    from_right = λ X h e. from_right_of p X (right_of_sum H K X h) e;
  },
  λ p. le-in _ _ record {
    from_left = λ L l e. (le-out _ _ p).from_left (L +ᵍ K) (left_in_first G K L l) ((ih H L K (omega (arith, size-left G L l))).0 e);
    from_right = λ R r e. (le-out _ _ p).from_right (R +ᵍ K) (right_in_first H K R r) ((ih R G K (omega (arith, size-right H R r))).0 e);
  },
)
  where
    from_left_of : G ≤ᵍ H → (X : Tree) → InSum G K (left G) (left K) X → H +ᵍ K ≤ᵍ X → ⊥
    from_left_of p X (in_first L l) e = (le-out G H p).from_left L l ((ih H L K (omega (arith, size-left G L l))).1 e)
    from_left_of p X (in_second L l) e = not_le_left (H +ᵍ K) (H +ᵍ L) (left_in_second H K L l) (le-trans _ _ _ e ((ih G H L (omega (arith, size-left K L l))).0 p))

    from_right_of : G ≤ᵍ H → (X : Tree) → InSum H K (right H) (right K) X → X ≤ᵍ G +ᵍ K → ⊥
    from_right_of p X (in_first R r) e = (le-out G H p).from_right R r ((ih R G K (omega (arith, size-right H R r))).1 e)
    from_right_of p X (in_second R r) e = not_right_le (G +ᵍ K) (G +ᵍ R) (right_in_second G K R r) (le-trans _ _ _ ((ih G H R (omega (arith, size-right K R r))).0 p) e)

pub same_order : (G H K : Tree) → SameOrder G H K
same_order = by_three_sizes SameOrder plus_step

pub plus-le : (G H K : Tree) → G ≤ᵍ H → G +ᵍ K ≤ᵍ H +ᵍ K
plus-le G H K = (same_order G H K).0

pub plus-cancel : (G H K : Tree) → G +ᵍ K ≤ᵍ H +ᵍ K → G ≤ᵍ H
plus-cancel G H K = (same_order G H K).1

comm_step : (G H : Tree) → ((A B : Tree) → size A + size B < size G + size H → A +ᵍ B ≤ᵍ B +ᵍ A) → G +ᵍ H ≤ᵍ H +ᵍ G
comm_step G H ih = le-in _ _ record {
  from_left = λ X h e. from_left_of X (left_of_sum G H X h) e;
  from_right = λ X h e. from_right_of X (right_of_sum H G X h) e;
}
  where
    from_left_of : (X : Tree) → InSum G H (left G) (left H) X → H +ᵍ G ≤ᵍ X → ⊥
    from_left_of X (in_first L l) e = not_le_left _ (H +ᵍ L) (left_in_second H G L l) (le-trans _ _ _ e (ih L H (omega (arith, size-left G L l))))
    from_left_of X (in_second L l) e = not_le_left _ (L +ᵍ G) (left_in_first H G L l) (le-trans _ _ _ e (ih G L (omega (arith, size-left H L l))))

    from_right_of : (X : Tree) → InSum H G (right H) (right G) X → X ≤ᵍ G +ᵍ H → ⊥
    from_right_of X (in_first R r) e = not_right_le _ (G +ᵍ R) (right_in_second G H R r) (le-trans _ _ _ (ih G R (omega (arith, size-right H R r))) e)
    from_right_of X (in_second R r) e = not_right_le _ (R +ᵍ H) (right_in_first G H R r) (le-trans _ _ _ (ih R H (omega (arith, size-right G R r))) e)

pub plus-comm : (G H : Tree) → G +ᵍ H ≤ᵍ H +ᵍ G
plus-comm = by_sizes (λ G H. G +ᵍ H ≤ᵍ H +ᵍ G) comm_step

pub plus-le_both : (G H K M : Tree) → G ≤ᵍ H → K ≤ᵍ M → G +ᵍ K ≤ᵍ H +ᵍ M
plus-le_both G H K M p q = le-trans _ _ _ (plus-le G H K p) (le-trans _ _ _ (plus-comm H K) (le-trans _ _ _ (plus-le K M H q) (plus-comm M H)))

-- `neg` and the options
pub has-neg_each : (Gs : Trees) (G : Tree) → Has Gs G → Has (neg_each Gs) (neg G)
has-neg_each Gs G h = rw (neg_each-mapped Gs) (has-mapped neg Gs G h)

pub neg_each-has : (Gs : Trees) (X : Tree) → Has (neg_each Gs) X → (G : Tree) × Has Gs G × (X ≡ neg G)
neg_each-has Gs X h = mapped-has neg Gs X (rw (neg_each-mapped Gs) at h)

pub neg-left : (G : Tree) → left (neg G) ≡ neg_each (right G)
unfolding neg
neg-left (node ls rs) = refl

pub neg-right : (G : Tree) → right (neg G) ≡ neg_each (left G)
unfolding neg
neg-right (node ls rs) = refl

-- the game without options
abbrev pub nought : Tree
nought = node none none

-- lists of options
then-none : (As : Trees) → As then none ≡ As
then-none none = refl
then-none (more A As) = ap (more A) (then-none As)

pub then-assoc : (As Bs Cs : Trees) → (As then Bs) then Cs ≡ As then (Bs then Cs)
then-assoc none Bs Cs = refl
then-assoc (more A As) Bs Cs = ap (more A) (then-assoc As Bs Cs)

pub tree-same : (G H : Tree) → left G ≡ left H → right G ≡ right H → G ≡ H
tree-same (node ls rs) (node ms ns) p q = ap₂ node p q

-- a game and nothing is that very tree
mutual
  unfolding ◌+ᵍ◌ plus_each

  pub plus-nought : (G : Tree) → G +ᵍ nought ≡ G
  plus-nought (node ls rs) = ap₂ node (then-none _ ∙ each-nought ls) (then-none _ ∙ each-nought rs)

  pub each-nought : (Gs : Trees) → each_plus Gs nought ≡ Gs
  each-nought none = refl
  each-nought (more G Gs) = ap₂ more (plus-nought G) (each-nought Gs)

mutual
  unfolding ◌+ᵍ◌ plus_each

  pub nought-plus : (G : Tree) → nought +ᵍ G ≡ G
  nought-plus (node ls rs) = ap₂ node (each-is none none ls ∙ nought-each ls) (each-is none none rs ∙ nought-each rs)

  pub nought-each : (Gs : Trees) → plus_each nought Gs ≡ Gs
  nought-each none = refl
  nought-each (more G Gs) = ap₂ more (nought-plus G) (nought-each Gs)

mutual
  unfolding neg

  pub neg-neg : (G : Tree) → neg (neg G) ≡ G
  neg-neg (node ls rs) = ap₂ node (neg_each-twice ls) (neg_each-twice rs)

  pub neg_each-twice : (Gs : Trees) → neg_each (neg_each Gs) ≡ Gs
  neg_each-twice none = refl
  neg_each-twice (more G Gs) = ap₂ more (neg-neg G) (neg_each-twice Gs)

mutual
  unfolding neg size

  pub size-neg : (G : Tree) → size (neg G) ≡ size G
  size-neg (node ls rs) = omega (arith, sizes-neg ls, sizes-neg rs)

  pub sizes-neg : (Gs : Trees) → sizes (neg_each Gs) ≡ sizes Gs
  sizes-neg none = refl
  sizes-neg (more G Gs) = omega (arith, size-neg G, sizes-neg Gs)

neg_step : (G H : Tree) → ((A B : Tree) → size A + size B < size G + size H → A ≤ᵍ B → neg B ≤ᵍ neg A) → G ≤ᵍ H → neg H ≤ᵍ neg G
neg_step G H ih p = le-in _ _ record {
  from_left = λ X h e. (let r = neg_each-has (right H) X (rw (neg-left H) at h) in
      (le-out G H p).from_right r.0 r.1 (back G r.0 (omega (arith, size-right H r.0 r.1)) (rw r.2 at e)));
  from_right = λ X h e. (let r = neg_each-has (left G) X (rw (neg-right G) at h) in
      (le-out G H p).from_left r.0 r.1 (back r.0 H (omega (arith, size-left G r.0 r.1)) (rw r.2 at e)));
}
  where
    back : (A B : Tree) → size A + size B < size G + size H → neg A ≤ᵍ neg B → B ≤ᵍ A
    back A B b e = rw (neg-neg A, neg-neg B) at (ih (neg A) (neg B) (omega (arith, size-neg A, size-neg B)) e)

pub neg-le : (G H : Tree) → G ≤ᵍ H → neg H ≤ᵍ neg G
neg-le = by_sizes (λ G H. G ≤ᵍ H → neg H ≤ᵍ neg G) neg_step

-- sums brought in another order of brackets are the same tree
assoc_step : (G H K : Tree) → ((A B C : Tree) → size A + size B + size C < size G + size H + size K → (A +ᵍ B) +ᵍ C ≡ A +ᵍ (B +ᵍ C))
    → (G +ᵍ H) +ᵍ K ≡ G +ᵍ (H +ᵍ K)
assoc_step G H K ih = tree-same _ _ (options left plus-left size-left) (options right plus-right size-right)
  where
    options : (side : Tree → Trees) → ((G H : Tree) → side (G +ᵍ H) ≡ each_plus (side G) H then plus_each G (side H)) → ((G X : Tree) → Has (side G) X → size X < size G) → side ((G +ᵍ H) +ᵍ K) ≡ side (G +ᵍ (H +ᵍ K))
    options side is small = simp (
      is,
      each_plus-mapped,
      plus_each-mapped,
      mapped-then,
      then-assoc,
      mapped-twice (λ X. X +ᵍ K) (λ X. X +ᵍ H) (λ X. X +ᵍ (H +ᵍ K)) (side G) (λ X x. ih X H K (omega (arith, small G X x))),
      mapped-twice (λ X. X +ᵍ K) (λ X. G +ᵍ X) (λ X. G +ᵍ (X +ᵍ K)) (side H) (λ X x. ih G X K (omega (arith, small H X x))),
      mapped-twice (λ X. G +ᵍ X) (λ X. X +ᵍ K) (λ X. G +ᵍ (X +ᵍ K)) (side H) (λ X x. refl),
      mapped-twice (λ X. G +ᵍ X) (λ X. H +ᵍ X) (λ X. (G +ᵍ H) +ᵍ X) (side K) (λ X x. sym (ih G H X (omega (arith, small K X x)))),
    )

pub plus-assoc : (G H K : Tree) → (G +ᵍ H) +ᵍ K ≡ G +ᵍ (H +ᵍ K)
plus-assoc = by_three_sizes (λ G H K. (G +ᵍ H) +ᵍ K ≡ G +ᵍ (H +ᵍ K)) assoc_step

neg_plus_step : (G H : Tree) → ((A B : Tree) → size A + size B < size G + size H → neg (A +ᵍ B) ≡ neg A +ᵍ neg B) → neg (G +ᵍ H) ≡ neg G +ᵍ neg H
neg_plus_step G H ih = tree-same _ _ (options left right neg-left plus-left plus-right size-right)
    (options right left neg-right plus-right plus-left size-left)
  where
    options : (near far : Tree → Trees) → ((A : Tree) → near (neg A) ≡ neg_each (far A))
        → ((A B : Tree) → near (A +ᵍ B) ≡ each_plus (near A) B then plus_each A (near B))
        → ((A B : Tree) → far (A +ᵍ B) ≡ each_plus (far A) B then plus_each A (far B)) → ((A X : Tree) → Has (far A) X → size X < size A)
        → near (neg (G +ᵍ H)) ≡ near (neg G +ᵍ neg H)
    options near far turned is others small = simp (
      turned,
      is,
      others,
      neg_each-mapped,
      each_plus-mapped,
      plus_each-mapped,
      mapped-then,
      mapped-twice neg (λ X. X +ᵍ H) (λ X. neg X +ᵍ neg H) (far G) (λ X x. ih X H (omega (arith, small G X x))),
      mapped-twice (λ X. X +ᵍ neg H) neg (λ X. neg X +ᵍ neg H) (far G) (λ X x. refl),
      mapped-twice neg (λ X. G +ᵍ X) (λ X. neg G +ᵍ neg X) (far H) (λ X x. ih G X (omega (arith, small H X x))),
      mapped-twice (λ X. neg G +ᵍ X) neg (λ X. neg G +ᵍ neg X) (far H) (λ X x. refl),
    )

pub neg-plus : (G H : Tree) → neg (G +ᵍ H) ≡ neg G +ᵍ neg H
neg-plus = by_sizes (λ G H. neg (G +ᵍ H) ≡ neg G +ᵍ neg H) neg_plus_step

-- a game and its negative come to nothing: no Left option of the sum is at least that, and by turning no Right one at most
minus_step : (G : Tree) → ((A : Tree) → size A < size G → A +ᵍ neg A ≤ᵍ nought) → G +ᵍ neg G ≤ᵍ nought
minus_step G ih = le-in _ _ record { from_left = λ X h e. from_left_of X (left_of_sum G (neg G) X h) e; from_right = λ X h e. elim h [ ] }
  where
    from_left_of : (X : Tree) → InSum G (neg G) (left G) (left (neg G)) X → nought ≤ᵍ X → ⊥
    from_left_of X (in_first L l) e = (le-out _ _ e).from_right (L +ᵍ neg L) (right_in_second L (neg G) (neg L) (rw (neg-right G) (has-neg_each (left G) L l))) (ih L (size-left G L l))
    from_left_of X (in_second N h) e = let r = neg_each-has (right G) N (rw (neg-left G) at h) in
        (le-out _ _ (rw r.2 at e)).from_right (r.0 +ᵍ neg r.0) (right_in_first G (neg r.0) r.0 r.1) (ih r.0 (size-right G r.0 r.1))

pub plus-neg : (G : Tree) → (G +ᵍ neg G ≤ᵍ nought) × (nought ≤ᵍ G +ᵍ neg G)
unfolding neg
plus-neg G = let under = by_measure size (λ A. A +ᵍ neg A ≤ᵍ nought) minus_step G in
    (under, le-trans _ _ _ (rw (neg-plus G (neg G), neg-neg G) at (neg-le _ _ under)) (plus-comm (neg G) G))

-- sums of equal games
pub same-plus : (G H K M : Tree) → G ≡ᵍ H → K ≡ᵍ M → (G +ᵍ K) ≡ᵍ (H +ᵍ M)
same-plus G H K M e f = (plus-le_both G H K M e.0 f.0, plus-le_both H G M K e.1 f.1)

pub same-comm : (G H : Tree) → (G +ᵍ H) ≡ᵍ (H +ᵍ G)
same-comm G H = (plus-comm G H, plus-comm H G)

-- the last of three to the middle
pub same-swap : (G H K : Tree) → ((G +ᵍ H) +ᵍ K) ≡ᵍ ((G +ᵍ K) +ᵍ H)
same-swap G H K = rw (plus-assoc G H K, plus-assoc G K H) (same-plus G G (H +ᵍ K) (K +ᵍ H) (same-refl G) (same-comm H K))
