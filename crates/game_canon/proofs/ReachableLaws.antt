-- How what a form is made of is gathered.
use Rattle.std.proofs.Common.{ℕ, zero, suc, ◌+◌, ◌<◌, ◌≤◌, ◌≡◌, List, [], ◌∷◌, length, get_or, arith, refl, sym, ◌∙◌, inl, inr, ap, subst}
use Rattle.std.proofs.lemmas.Bool.{cases_lt}
use Rattle.short_games.specs.Tree.{Tree, tree_at}
use Rattle.short_games.specs.Number.{IsNumberTree}
use Rattle.short_games.specs.Parts.{IsFollower, IsPart, IsInner, IsReached}
use Rattle.short_games.specs.Parts.IsFollower.{itself, further}
use Rattle.short_games.proofs.PartLaws.{follower-more, number-option}
use Rattle.game_store.specs.Meaning.{AreIds, IsAscending}
use Rattle.game_store.specs.Forms.{IsOptions}
use Rattle.game_store.proofs.EntryLaws.{has-pick, pick-has}
use Rattle.game_canon.specs.Followers.{IsIn}
use Rattle.game_canon.specs.Reachable.{AreReachable}
use Rattle.game_canon.specs.inner.Ids.{Stands, IsWith}
use Rattle.game_canon.specs.inner.Reachable.{AreFrom, IsJoined, IsFollowed, IsLastBelow}
use Rattle.game_canon.proofs.GameLaws.{has-left, left-has, has-right, right-has}

-- one list is put into another
pub joined-start : (is js : List ℕ) → IsAscending is → IsJoined is js 0 is
joined-start is js up = record { ascends = up; kept = λ i s. s; added = λ j l. absurd (omega (arith, l)); from = λ i s. inl s }

pub joined-step : (is js us vs : List ℕ) (n : ℕ) → IsJoined is js n us → n < length js → IsWith us (get_or js n 0) vs → IsJoined is js (n + 1) vs
joined-step is js us vs n w l o = record {
  ascends = o.ascends;
  kept = λ i s. o.kept i (w.kept i s);
  added = λ j a b. elim (cases_lt j n) [
    | inl d ↦ o.kept _ (w.added j d b)
    | inr d ↦ (let e : n ≡ j = omega (arith, a, d) in subst (λ z. Stands vs (get_or js z 0)) e o.new)
  ];
  from = λ i s. elim (o.from i s) [ inl h ↦ w.from i h | inr e ↦ inr (n, l, sym e) ];
}

-- the options of a form are put in
in-kept : (Ts : List Tree) (is us : List ℕ) → ((i : ℕ) → Stands is i → Stands us i) → (X : Tree) → IsIn Ts is X → IsIn Ts us X
in-kept Ts is us kept X i = let s = kept (get_or is i.0 0) (i.0, i.1, refl) in (s.0, s.1, i.2 ∙ ap (tree_at Ts) (sym s.2))

pub followed-number : (Ts : List Tree) (is : List ℕ) (id : ℕ) → IsAscending is → IsNumberTree (tree_at Ts id) → IsFollowed Ts is id is
followed-number Ts is id up n = record { ascends = up; kept = λ i s. s; added = λ X i. absurd (i.0 n); from = λ i s. inl s }

pub followed-options : (Ts : List Tree) (is us vs : List ℕ) (id : ℕ) (ls rs : List ℕ) → IsOptions Ts id ls rs → IsJoined is ls (length ls) us → IsJoined us rs (length rs) vs → IsFollowed Ts is id vs
followed-options Ts is us vs id ls rs o a b = record {
  ascends = b.ascends;
  kept = λ i s. b.kept i (a.kept i s);
  added = λ X i. elim i.1 [
    | inl h ↦ (let p = has-pick Ts ls X (has-left Ts id ls rs o X h) in let s = b.kept _ (a.added p.0 p.1 p.1) in (s.0, s.1, p.2 ∙ ap (tree_at Ts) (sym s.2)))
    | inr h ↦ (let p = has-pick Ts rs X (has-right Ts id ls rs o X h) in let s = b.added p.0 p.1 p.1 in (s.0, s.1, p.2 ∙ ap (tree_at Ts) (sym s.2)))
  ];
  from = λ i s. elim (b.from i s) [
    | inl h ↦ elim (a.from i h) [
      | inl k ↦ inl k
      | inr k ↦ inr (subst (λ z. (z < id) × IsInner (tree_at Ts id) (tree_at Ts z)) k.2 (o.left_below k.0 k.1, (o.no_number, inl (left-has Ts id ls rs o _ (pick-has Ts ls k.0 k.1)))))
    ]
    | inr k ↦ inr (subst (λ z. (z < id) × IsInner (tree_at Ts id) (tree_at Ts z)) k.2 (o.right_below k.0 k.1, (o.no_number, inr (right-has Ts id ls rs o _ (pick-has Ts rs k.0 k.1)))))
  ];
}

-- what is reached, and its options
reached-part : (G X : Tree) → IsReached G X → (IsNumberTree X → ⊥) → IsPart G X
reached-part G X (inl e) f = subst (λ t. IsPart G t) (sym e) (itself G, λ n. f (subst IsNumberTree (sym e) n))
reached-part G X (inr r) f = (follower-more G r.0 X r.1.0 r.2, f)

reached-inner : (G X Y : Tree) → IsReached G X → IsInner X Y → IsReached G Y
reached-inner G X Y r i = inr (X, reached-part G X r i.0, i.1)

-- where the search is: the options of what stands from the end on are among the ids
pub record IsReaching (Ts : List Tree) (G : Tree) (ks : List ℕ) (end : ℕ) : Type 0 where
  pub ids : AreIds Ts ks
  pub ascends : IsAscending ks
  pub root : IsIn Ts ks G
  pub reached : (j : ℕ) → j < length ks → IsReached G (tree_at Ts (get_or ks j 0))
  pub closed : (j : ℕ) → j < length ks → end ≤ get_or ks j 0 → (X : Tree) → IsInner (tree_at Ts (get_or ks j 0)) X → IsIn Ts ks X

single : (a j : ℕ) → j < length (a ∷ []) → get_or (a ∷ []) j 0 ≡ a
single a zero l = refl
single a (suc j) l = absurd (omega (arith, l))

pub reaching-start : (Ts : List Tree) (a : ℕ) (ks : List ℕ) → a < length Ts → ks ≡ a ∷ [] → IsReaching Ts (tree_at Ts a) ks (length Ts)
reaching-start Ts a ks l e = subst (λ z. IsReaching Ts (tree_at Ts a) z (length Ts)) (sym e) (record {
  ids = λ j k. omega (arith, single a j k, l);
  ascends = λ i j m k. absurd (omega (arith, m, k));
  root = (0, omega arith, refl);
  reached = λ j k. inl (ap (tree_at Ts) (single a j k));
  closed = λ j k m. absurd (omega (arith, single a j k, l, m));
})

pub reaching-step : (Ts : List Tree) (G : Tree) (ks us : List ℕ) (end id : ℕ) → IsReaching Ts G ks end → IsLastBelow ks end id → IsFollowed Ts ks id us → IsReaching Ts G us id
reaching-step Ts G ks us end id w o f = record {
  ids = λ j l. elim (f.from _ (j, l, refl)) [
    | inl s ↦ subst (λ z. z < length Ts) s.2 (w.ids s.0 s.1)
    | inr b ↦ omega (arith, b.0, inside)
  ];
  ascends = f.ascends;
  root = in-kept Ts ks us f.kept G w.root;
  reached = λ j l. elim (f.from _ (j, l, refl)) [
    | inl s ↦ subst (λ z. IsReached G (tree_at Ts z)) s.2 (w.reached s.0 s.1)
    | inr b ↦ reached-inner G (tree_at Ts id) _ here b.1
  ];
  closed = λ j l m X i. elim (f.from _ (j, l, refl)) [
    | inl s ↦ (let back = subst (λ z. IsInner (tree_at Ts z) X) (sym s.2) i in elim (cases_lt (get_or ks s.0 0) end) [
      | inl d ↦ (let e : get_or ks s.0 0 ≡ id = omega (arith, o.last s.0 s.1 d, m, s.2) in f.added X (subst (λ z. IsInner (tree_at Ts z) X) e back))
      | inr d ↦ in-kept Ts ks us f.kept X (w.closed s.0 s.1 (omega (arith, d)) X back)
    ])
    | inr b ↦ absurd (omega (arith, b.0, m))
  ];
}
  where
    inside : id < length Ts
    inside = subst (λ z. z < length Ts) o.stands.2 (w.ids o.stands.0 o.stands.1)

    here : IsReached G (tree_at Ts id)
    here = subst (λ z. IsReached G (tree_at Ts z)) o.stands.2 (w.reached o.stands.0 o.stands.1)

pub last-inside : (Ts : List Tree) (G : Tree) (ks : List ℕ) (end id : ℕ) → IsReaching Ts G ks end → IsLastBelow ks end id → id < length Ts
last-inside Ts G ks end id w o = subst (λ z. z < length Ts) o.stands.2 (w.ids o.stands.0 o.stands.1)

pub reaching-end : (Ts : List Tree) (G : Tree) (ks : List ℕ) (end : ℕ) → IsReaching Ts G ks end → AreFrom ks end → AreReachable Ts G ks
reaching-end Ts G ks end w o = record { ids = w.ids; ascends = w.ascends; root = w.root; reached = w.reached; closed = λ j l. w.closed j l (o j l) }

-- what comes before a part is no number
pub hot-before : (H P : Tree) → IsFollower H P → (IsNumberTree P → ⊥) → IsNumberTree H → ⊥
hot-before _ _ (itself H) f n = f n
hot-before _ _ (further H K P o p) f n = hot-before K P p f (number-option H K n o)
