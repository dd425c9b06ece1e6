-- Each tree has a canonical tree that is equal to it, where the order of texts is total: options that are dominated or
-- reversible are replaced by smaller ones while there are some, and what is left is put in order.
use Rattle.std.proofs.Common.{◌+◌, ◌<◌, ◌≤◌, ◌≡◌, ◌⊎◌, ◌↔◌, suc, arith, refl, inl, inr, sym, ◌∙◌, ap, subst}
use Rattle.short_games.specs.Tree.{Tree, Trees, node, none, more, left, right, Has, size, sizes, ◌then◌}
use Rattle.short_games.specs.Order.{◌≤ᵍ◌, ◌≡ᵍ◌}
use Rattle.short_games.specs.Canonical.{Ascends, IsCanonical, IsCanonicalOf, AreCanonical}
use Rattle.short_games.specs.Parts.{IsFollower, IsOption}
use Rattle.short_games.specs.Parts.IsFollower.{itself, further}
use Rattle.short_games.proofs.OrderLaws.{IsSide, left_side, right_side, by_measure, le-or_not, none-or_some, same-trans, size-node, size-option, size-pos, sizes-has}
use Rattle.short_games.proofs.SumLaws.{then-has, has-then_left, has-then_right}
use Rattle.short_games.proofs.PartLaws.{follower-trans}
use Rattle.short_games.proofs.CanonicalLaws.{canonical-at, canonical-follower, rest-ascends}
use Rattle.short_games.proofs.NumberTextLaws.{same-or_not}
use Rattle.short_games.proofs.TextOrderLaws.{Inserted, into-none, in_front, there_already, further_on, Sorted, sorted-none, sorted-more}
use Rattle.short_games.proofs.FormLaws.{by_better, bypassed, dropped}
use Rattle.short_games.proofs.ReductionLaws.{form-in_order}

sizes-then : (As Bs : Trees) → sizes (As then Bs) ≡ sizes As + sizes Bs
unfolding size
sizes-then none Bs = omega arith
sizes-then (more A As) Bs = omega (arith, sizes-then As Bs)

sizes-more : (A : Tree) (As : Trees) → sizes (more A As) ≡ size A + sizes As
unfolding size
sizes-more A As = refl

-- Ms is Gs with the tree A replaced by the trees of Bs
record Replaced (Gs : Trees) (A : Tree) (Bs Ms : Trees) : Type 0 where
  kept : (X : Tree) → Has Gs X → (X ≡ A) ⊎ Has Ms X
  added : (X : Tree) → Has Bs X → Has Ms X
  from : (X : Tree) → Has Ms X → Has Gs X ⊎ Has Bs X
  smaller : sizes Bs < size A → sizes Ms < sizes Gs

replaced : (Gs : Trees) (A : Tree) (Bs : Trees) → Has Gs A → (Ms : Trees) × Replaced Gs A Bs Ms
replaced none A Bs h = absurd h
replaced (more G Gs) A Bs (inl e) = (
  Bs then Gs,
  record {
    kept = λ X h. elim h [ inl i ↦ inl (i ∙ sym e) | inr x ↦ inr (has-then_right Bs Gs X x) ];
    added = has-then_left Bs Gs;
    from = λ X h. elim (then-has Bs Gs X h) [ inl x ↦ inr x | inr x ↦ inl (inr x) ];
    smaller = λ l. (let i : size A ≡ size G = ap size e in omega (arith, l, i, sizes-more G Gs, sizes-then Bs Gs));
  },
)
replaced (more G Gs) A Bs (inr a) = let r = replaced Gs A Bs a in (
  more G r.0,
  record {
    kept = λ X h. elim h [ inl i ↦ inr (inl i) | inr x ↦ elim (r.1.kept X x) [ inl i ↦ inl i | inr k ↦ inr (inr k) ] ];
    added = λ X x. inr (r.1.added X x);
    from = λ X h. elim h [ inl i ↦ inl (inl i) | inr x ↦ elim (r.1.from X x) [ inl k ↦ inl (inr k) | inr k ↦ inr k ] ];
    smaller = λ l. omega (arith, sizes-more G Gs, sizes-more G r.0, r.1.smaller l);
  },
)

-- each option of the one is a follower of an option of the other
abbrev pub AreBelow : Tree → Tree → Type 0
AreBelow G C = (X : Tree) → IsOption C X → (L : Tree) × IsOption G L × IsFollower L X

-- a tree with fewer nodes that is equal to G, whose options are below those of G
record Shorter (G : Tree) : Type 0 where
  tree : Tree
  smaller : size tree < size G
  same : G ≡ᵍ tree
  below : AreBelow G tree

-- what can be asked of two trees holds of no tree of a list and one inside it, or of some
none-or_two : (inside : Tree → Trees) (P : Tree → Tree → Type 0) → ((A B : Tree) → P A B ⊎ (P A B → ⊥)) → (Gs : Trees)
    → ((A B : Tree) → Has Gs A → Has (inside A) B → P A B → ⊥) ⊎ ((A : Tree) × Has Gs A × ((B : Tree) × Has (inside A) B × P A B))
none-or_two inside P ask Gs = elim (none-or_some (λ A. (B : Tree) × Has (inside A) B × P A B)
    (λ A. elim (none-or_some (P A) (ask A) (inside A)) [ inl f ↦ inr (λ w. f w.0 w.1 w.2) | inr s ↦ inl s ]) Gs) [
      | inl f ↦ inl (λ A B a b p. f A a (B, b, p))
      | inr s ↦ inr s
    ]

left-nodes : (G : Tree) → size G ≡ suc (sizes (left G) + sizes (right G))
left-nodes (node ls rs) = size-node ls rs

right-nodes : (G : Tree) → size G ≡ suc (sizes (right G) + sizes (left G))
right-nodes G = omega (arith, left-nodes G)

-- nothing near can be dropped or bypassed
record IsShort (near far : Tree → Trees) (Le : Tree → Tree → Type 0) (G : Tree) : Type 0 where
  free : (A B : Tree) → Has (near G) A → Has (near G) B → Le A B → A ≡ B
  kept : (A : Tree) → Has (near G) A → (R : Tree) → Has (far A) R → Le R G → ⊥

-- for one side: `near` has a side's options, `far` the other side's, and `put` gives a tree other options near
module _ (near far : Tree → Trees) (Le : Tree → Tree → Type 0) (side : IsSide near far Le) (ask : (A B : Tree) → Le A B ⊎ (Le A B → ⊥))
    (equal : (A B : Tree) → Le A B × Le B A → A ≡ᵍ B) (put : Tree → Trees → Tree)
    (near-put : (G : Tree) (Ms : Trees) → near (put G Ms) ≡ Ms) (far-put : (G : Tree) (Ms : Trees) → far (put G Ms) ≡ far G)
    (nodes : (G : Tree) → size G ≡ suc (sizes (near G) + sizes (far G)))
    (option : (G X : Tree) → (Has (near G) X ⊎ Has (far G) X) ↔ IsOption G X) where
  -- an option is replaced by smaller ones
  shorter : (G A : Tree) (Bs Ms : Trees) → Has (near G) A → Replaced (near G) A Bs Ms → sizes Bs < size A
      → ((Y : Tree) → Has Bs Y → IsFollower A Y)
      → Le G (put G Ms) × Le (put G Ms) G → Shorter G
  shorter G A Bs Ms a r small behind e = record {
    tree = put G Ms;
    smaller = (let i : sizes (near (put G Ms)) ≡ sizes Ms = ap sizes (near-put G Ms) in
        let j : sizes (far (put G Ms)) ≡ sizes (far G) = ap sizes (far-put G Ms) in
        omega (arith, nodes G, nodes (put G Ms), i, j, r.smaller small));
    same = equal G (put G Ms) e;
    below = λ X h. elim ((option (put G Ms) X).1 h) [
      | inl x ↦ elim (r.from X (subst (λ t. Has t X) (near-put G Ms) x)) [
        | inl k ↦ (X, (option G X).0 (inl k), itself X)
        | inr k ↦ (A, (option G A).0 (inl a), behind X k)
      ]
      | inr x ↦ (X, (option G X).0 (inr (subst (λ t. Has t X) (far-put G Ms) x)), itself X)
    ];
  }

  -- a reversible one by the options of the answer
  bypass : (G A R : Tree) → Has (near G) A → Has (far A) R → Le R G → Shorter G
  bypass G A R a f y =
      let m = replaced (near G) A (near R) a in
      let now = λ (X : Tree) (x : Has m.0 X). subst (λ t. Has t X) (sym (near-put G m.0)) x in
      shorter G A (near R) m.0 a m.1 (omega (arith, nodes A, nodes R, sizes-has (far A) R f))
      (λ Y k. further A R Y ((option A R).0 (inr f)) (further R Y Y ((option R Y).0 (inl k)) (itself Y)))
      (bypassed near far Le side G (put G m.0)
      (λ X x. elim (m.1.kept X x) [
        | inl i ↦ inr (R, subst (λ t. Has (far t) R) (sym i) f, y, λ Y k. (Y, now Y (m.1.added Y k), side.itself Y))
        | inr k ↦ inl (now X k)
      ])
      (λ X x. elim (m.1.from X (subst (λ t. Has t X) (near-put G m.0) x)) [ inl k ↦ inl k | inr k ↦ inr (R, y, k) ]) (far-put G m.0))

  -- and a dominated one by none
  drop : (G A B : Tree) → Has (near G) A → Has (near G) B → Le A B → (A ≡ B → ⊥) → Shorter G
  unfolding size
  drop G A B a b l n =
      let m = replaced (near G) A none a in
      let now = λ (X : Tree) (x : Has m.0 X). subst (λ t. Has t X) (sym (near-put G m.0)) x in
      shorter G A none m.0 a m.1 (size-pos A) (λ Y k. absurd k)
      (dropped near far Le side G (put G m.0)
      (λ X x. elim (m.1.kept X x) [
        | inl i ↦ elim (m.1.kept B b) [ inl j ↦ absurd (n (sym j)) | inr k ↦ (B, now B k, subst (λ Z. Le Z B) (sym i) l) ]
        | inr k ↦ (X, now X k, side.itself X)
      ])
      (λ X x. elim (m.1.from X (subst (λ t. Has t X) (near-put G m.0) x)) [ inl k ↦ k | inr k ↦ absurd k ]) (far-put G m.0))

  shorten : (G : Tree) → Shorter G ⊎ IsShort near far Le G
  shorten G = elim (none-or_two far (λ A R. Le R G) (λ A R. ask R G) (near G)) [
    | inr (A, a, (R, f, y)) ↦ inl (bypass G A R a f y)
    | inl k ↦ elim (none-or_two (λ _. near G) (λ A B. Le A B × (A ≡ B → ⊥)) other (near G)) [
      | inr (A, a, (B, b, w)) ↦ inl (drop G A B a b w.0 w.1)
      | inl f ↦ inr (record {
        free = λ A B a b l. elim (same-or_not A B) [ inl e ↦ e | inr n ↦ absurd (f A B a b (l, n)) ];
        kept = λ A a R r. k A R a r;
      })
    ]
  ]
    where
      other : (A B : Tree) → (Le A B × (A ≡ B → ⊥)) ⊎ (Le A B × (A ≡ B → ⊥) → ⊥)
      other A B = elim (same-or_not A B) [
        | inl e ↦ inr (λ w. w.1 e)
        | inr n ↦ elim (ask A B) [ inl l ↦ inl (l, n) | inr g ↦ inr (λ w. g w.0) ]
      ]

shorten_left : (G : Tree) → Shorter G ⊎ IsShort left right (λ A B. A ≤ᵍ B) G
shorten_left = shorten left right (λ A B. A ≤ᵍ B) left_side le-or_not (λ A B e. e)
    (λ G Ms. node Ms (right G)) (λ G Ms. refl) (λ G Ms. refl) left-nodes (λ G X. (λ h. h, λ h. h))

shorten_right : (G : Tree) → Shorter G ⊎ IsShort right left (λ A B. B ≤ᵍ A) G
shorten_right = shorten right left (λ A B. B ≤ᵍ A) right_side (λ A B. le-or_not B A) (λ A B e. (e.1, e.0))
    (λ G Ms. node (left G) Ms) (λ G Ms. refl) (λ G Ms. refl) right-nodes (λ G X. (turned, turned))
  where
    turned : {A B : Type 0} → A ⊎ B → B ⊎ A
    turned h = elim h [ inl x ↦ inr x | inr x ↦ inl x ]

-- trees that belong to those of a list, one to each, and are no greater
pub matched : (P : Tree → Tree → Type 0) → ((X Y : Tree) → P X Y → size Y ≤ size X) → (Gs : Trees) → ((X : Tree) → Has Gs X → (Y : Tree) × P X Y)
    → (Ms : Trees) × ((X : Tree) → Has Gs X → (Y : Tree) × Has Ms Y × P X Y) × ((Y : Tree) → Has Ms Y → (X : Tree) × Has Gs X × P X Y)
    × (sizes Ms ≤ sizes Gs)
matched P small none f = (none, λ X h. absurd h, λ Y h. absurd h, omega arith)
matched P small (more G Gs) f = let g = f G (inl refl) in let r = matched P small Gs (λ X x. f X (inr x)) in (
  more g.0 r.0,
  λ X h. elim h [ inl e ↦ (g.0, inl refl, subst (λ Z. P Z g.0) (sym e) g.1) | inr x ↦ (let w = r.1 X x in (w.0, inr w.1, w.2)) ],
  λ Y h. elim h [ inl e ↦ (G, inl refl, subst (P G) (sym e) g.1) | inr x ↦ (let w = r.2 Y x in (w.0, inr w.1, w.2)) ],
  omega (arith, sizes-more G Gs, sizes-more g.0 r.0, small G g.0 g.1, r.3),
)

module _ (Before : Tree → Tree → Type 0) (total : (G H : Tree) → Before G H ⊎ ((G ≡ H) ⊎ Before H G)) where
  insert : (A : Tree) (Gs : Trees) → Ascends Before Gs → (Hs : Trees) × Inserted Before A Gs Hs × (sizes Hs ≤ size A + sizes Gs)
  insert A none a = (more A none, into-none Before A, omega (arith, sizes-more A none))
  insert A (more G Gs) a = elim (total A G) [
    | inl b ↦ (more A (more G Gs), in_front Before A G Gs b a, omega (arith, sizes-more A (more G Gs)))
    | inr c ↦ elim c [
      | inl e ↦ (more G Gs, there_already Before A G Gs e a, omega arith)
      | inr b ↦ (let r = insert A Gs (rest-ascends Before G Gs a) in
          (more G r.0, further_on Before A G Gs r.0 b a r.1, omega (arith, r.2, sizes-more G Gs, sizes-more G r.0)))
    ]
  ]

  sort : (Gs : Trees) → (Hs : Trees) × Sorted Before Gs Hs × (sizes Hs ≤ sizes Gs)
  sort none = (none, sorted-none Before, omega arith)
  sort (more G Gs) = let r = sort Gs in let i = insert G r.0 r.1.ascends in
      (i.0, sorted-more Before G Gs r.0 i.0 r.1 i.1, omega (arith, r.2, i.2, sizes-more G Gs))

  -- a canonical tree that is equal to G
  pub record Canon (G : Tree) : Type 0 where
    pub tree : Tree
    pub canonical : IsCanonical Before tree
    pub under : G ≤ᵍ tree
    pub over : tree ≤ᵍ G

  -- a canonical tree that is equal to G and no greater, whose options are below those of G
  pub record CanonBelow (G : Tree) : Type 0 where
    pub canon : Canon G
    pub below : AreBelow G canon.tree
    pub small : size canon.tree ≤ size G

  abbrev along : (G H : Tree) → G ≡ᵍ H → Canon H → Canon G
  along G H e c = let s = same-trans G H c.tree e (c.under, c.over) in record
      { tree = c.tree; canonical = c.canonical; under = s.0; over = s.1 }

  abbrev OfOptions : Tree → Type 0
  OfOptions G = (X : Tree) → IsOption G X → IsCanonical Before X

  -- a form that is short, put in order
  in_order : (G : Tree) → OfOptions G → IsShort left right (λ A B. A ≤ᵍ B) G → IsShort right left (λ A B. B ≤ᵍ A) G → CanonBelow G
  in_order (node ls rs) c s t =
      let m = sort ls in
      let n = sort rs in
      let f = form-in_order Before ls rs m.0 n.0 m.1 n.1 (λ X x. c X (inl x)) (λ X x. c X (inr x))
      s.free (λ A B a b l. sym (t.free B A b a l)) s.kept t.kept in
      record {
        canon = record { tree = node m.0 n.0; canonical = f.canonical; under = f.under; over = f.over };
        below = λ X h. (X, elim h [ inl x ↦ inl (m.1.to X x) | inr x ↦ inr (n.1.to X x) ], itself X);
        small = omega (arith, size-node ls rs, size-node m.0 n.0, m.2, n.2);
      }

  -- where the options are canonical
  canon_from : (G : Tree) → OfOptions G → CanonBelow G
  canon_from = by_measure size (λ G. OfOptions G → CanonBelow G) (λ G ih c.
      let go_on = λ (s : Shorter G). again G s (ih s.tree s.smaller (λ X h. let w = s.below X h in canonical-follower Before w.0 X
      (c w.0 w.1) w.2)) in
      elim (shorten_left G) [
        | inl s ↦ go_on s
        | inr f ↦ elim (shorten_right G) [ inl s ↦ go_on s | inr g ↦ in_order G c f g ]
      ])
    where
      again : (G : Tree) (s : Shorter G) → CanonBelow s.tree → CanonBelow G
      again G s r = record {
        canon = along G s.tree s.same r.canon;
        below = λ X h. let w = r.below X h in let v = s.below w.0 w.1 in (v.0, v.1, follower-trans v.0 w.0 X v.2 w.2);
        small = omega (arith, r.small, s.smaller);
      }

  pub canon_below : (ls rs : Trees) → AreCanonical Before ls → AreCanonical Before rs → CanonBelow (node ls rs)
  canon_below ls rs c d = canon_from (node ls rs) (λ X h. elim h [
    | inl x ↦ canonical-at Before ls X c x
    | inr x ↦ canonical-at Before rs
        X d x
  ])

  -- of every tree
  abbrev IsOf : Tree → Tree → Type 0
  IsOf X C = IsCanonicalOf Before X C × (size C ≤ size X)

  -- a tree of canonical options that is equal to G and no greater, with an option for each of G
  pub record WithCanonicalOptions (ls rs : Trees) : Type 0 where
    pub lefts : Trees
    pub rights : Trees
    pub same : node ls rs ≡ᵍ node lefts rights
    pub small : size (node lefts rights) ≤ size (node ls rs)
    pub from : (Y : Tree) → IsOption (node lefts rights) Y → (X : Tree) × IsOption (node ls rs) X × IsCanonicalOf Before X Y

  pub with_canonical_options : (ls rs : Trees) → ((X : Tree) → IsOption (node ls rs) X → (C : Tree) × IsOf X C) → WithCanonicalOptions ls rs
  with_canonical_options ls rs f =
      let a = matched IsOf (λ X Y w. w.1) ls (λ X x. f X (inl x)) in
      let b = matched IsOf (λ X Y w. w.1) rs (λ X x. f X (inr x)) in
      record {
        lefts = a.0;
        rights = b.0;
        same = (
          by_better _ _ (λ L l. (let y = a.1 L l in (y.0, y.1, y.2.0.under))) (λ S s. (let x = b.2 S s in (x.0, x.1, x.2.0.under))),
          by_better _ _ (λ L l. (let x = a.2 L l in (x.0, x.1, x.2.0.over))) (λ S s. (let y = b.1 S s in (y.0, y.1, y.2.0.over))),
        );
        small = omega (arith, size-node ls rs, size-node a.0 b.0, a.3, b.3);
        from = λ Y h. elim h [
          | inl y ↦ (let x = a.2 Y y in (x.0, inl x.1, x.2.0))
          | inr y ↦ (let x = b.2 Y y in (x.0, inr x.1, x.2.0))
        ];
      }

  of_options : (G : Tree) → ((X : Tree) → IsOption G X → (C : Tree) × IsOf X C) → (c : Canon G) × (size c.tree ≤ size G)
  of_options (node ls rs) f =
      let w = with_canonical_options ls rs f in
      let r = canon_from (node w.lefts w.rights) (λ Y h. (w.from Y h).2.canonical) in
      (along (node ls rs) (node w.lefts w.rights) w.same r.canon, omega (arith, r.small, w.small))

  -- a canonical tree that is no greater
  pub small_canon : (G : Tree) → (c : Canon G) × (size c.tree ≤ size G)
  small_canon = by_measure size (λ G. (c : Canon G) × (size c.tree ≤ size G)) (λ G ih. of_options G (λ X o. let c = ih X (size-option G X o) in
      (c.0.tree, (record { canonical = c.0.canonical; under = c.0.under; over = c.0.over }, c.1))))

  pub canon : (G : Tree) → Canon G
  canon G = (small_canon G).0
