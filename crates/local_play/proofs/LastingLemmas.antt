-- Chains that last, and where a stone may stand.
use Rattle.std.proofs.Common.{◌≡◌, ◌≢◌, ℕ, ◌<◌, ◌⊎◌, inl, inr, refl, sym, ◌∙◌, List, true, length, subst}
use Rattle.std.proofs.lemmas.Bool.{cases_eq}
use Rattle.std.proofs.lemmas.List.{get_or-set_same, get_or-set_other}
use Rattle.go_grid.specs.declared.grid.Cell.{Cell}
use Rattle.go_grid.specs.declared.grid.Cell.TheVariants as cell
use Rattle.go_grid.specs.declared.grid.Colour.{Colour}
use Rattle.go_grid.specs.declared.grid.Colour.TheVariants as colour
use Rattle.go_grid.specs.declared.region.Touch.{Touch}
use Rattle.go_grid.specs.Board.{stone, other}
use Rattle.local_play.specs.LocalPlay.{held_at, Holds, IsLinked, IsBeside, IsLocalMove, with_stone, is_stone}
use Rattle.local_play.specs.inner.LocalPlay.{InLocalChain, IsFree, IsRemoved}
use Rattle.local_play.specs.Links.{LinksWithin}
use Rattle.local_play.specs.inner.Lasting.{IsLocalLiberty, Lasts, Takes, Stands}
use Rattle.go_grid.proofs.PathLemmas.{carried, leads_here, leads_step, leads_start, leads_end, leads_more, leads_join}
use Rattle.go_grid.proofs.BoardLemmas.{empty_not_stone, not_other}

pub stone_stands : (c : Colour) → is_stone (stone c) ≡ true
stone_stands colour.Black = refl
stone_stands colour.White = refl

-- links go both ways, and so do chains
pub chain_back : (touch : List Touch) (cells : List Cell) (c : Colour) → LinksWithin touch → (i j : ℕ)
    → InLocalChain touch cells c i j → InLocalChain touch cells c j i
chain_back touch cells c links i j w =
    let start = leads_start (IsLinked touch) (Holds cells c) i j w in
    (carried (IsLinked touch) (Holds cells c) (λ x. InLocalChain touch cells c x i × Holds cells c x)
    (λ x y s link h. (
      leads_join (IsLinked touch) (Holds cells c) y x i
          (leads_step (IsLinked touch) (Holds cells c) y y x (leads_here (IsLinked touch) (Holds cells c) y h) (links.back x y link) s.1) s.0,
      h,
    ))
    i j (leads_here (IsLinked touch) (Holds cells c) i start, start) w).0

-- a chain lasts from each of its places
pub lasts_along : (touch : List Touch) (cells : List Cell) (c : Colour) (i j : ℕ) → InLocalChain touch cells c i j
    → Lasts touch cells c j → Lasts touch cells c i
lasts_along touch cells c i j w l = elim l [
  | inl (k, chain, beside) ↦ inl (k, leads_join (IsLinked touch) (Holds cells c) i j k w chain, beside)
  | inr t ↦ inr record { one = t.one; two = t.two; apart = t.apart; is_one = longer t.one t.is_one; is_two = longer t.two t.is_two }
]
  where
    longer : (a : ℕ) → IsLocalLiberty touch cells c j a → IsLocalLiberty touch cells c i a
    longer a (k, chain, link, bare) = (k, leads_join (IsLinked touch) (Holds cells c) i j k w chain, link, bare)

-- a stone of the colour at the empty place
module _ (touch : List Touch) (cells : List Cell) (p : ℕ) (c : Colour) (links : LinksWithin touch) (place : p < length cells)
    (empty : held_at cells p ≡ cell.Empty) where
  own : held_at (with_stone cells p c) p ≡ stone c
  own = get_or-set_same cells p (stone c) cell.Empty place

  elsewhere : (i : ℕ) → i ≢ p → held_at (with_stone cells p c) i ≡ held_at cells i
  elsewhere i ne = rw get_or-set_other refl

  to_other : (i : ℕ) → Holds (with_stone cells p c) (other c) i → Holds cells (other c) i
  to_other i h = elim (cases_eq i p) [
    | inl e ↦ absurd (not_other c (sym own ∙ subst (λ x. Holds (with_stone cells p c) (other c) x) e h))
    | inr ne ↦ sym (elsewhere i ne) ∙ h
  ]

  from_other : (i : ℕ) → Holds cells (other c) i → Holds (with_stone cells p c) (other c) i
  from_other i h = elim (cases_eq i p) [
    | inl e ↦ absurd (empty_not_stone (other c) (sym empty ∙ subst (λ x. Holds cells (other c) x) e h))
    | inr ne ↦ elsewhere i ne ∙ h
  ]

  chain_to : (i j : ℕ) → InLocalChain touch (with_stone cells p c) (other c) i j → InLocalChain touch cells (other c) i j
  chain_to i j w = leads_more (IsLinked touch) (Holds (with_stone cells p c) (other c)) (Holds cells (other c)) to_other i j w

  chain_from : (i j : ℕ) → InLocalChain touch cells (other c) i j → InLocalChain touch (with_stone cells p c) (other c) i j
  chain_from i j w = leads_more (IsLinked touch) (Holds cells (other c)) (Holds (with_stone cells p c) (other c)) from_other i j w

  open_elsewhere : (k : ℕ) → held_at (with_stone cells p c) k ≡ cell.Empty → (k ≢ p) × (held_at cells k ≡ cell.Empty)
  open_elsewhere k bare = elim (cases_eq k p) [
    | inl e ↦ absurd (empty_not_stone c (sym (subst (λ x. held_at (with_stone cells p c) x ≡ cell.Empty) e bare) ∙ own))
    | inr ne ↦ (ne, sym (elsewhere k ne) ∙ bare)
  ]

  -- of two liberties one isn't the place
  other_liberty : (d : Colour) (i : ℕ) (a b : ℕ) → a ≢ b → IsLocalLiberty touch cells d i a → IsLocalLiberty touch cells d i b
      → (k : ℕ) × (k ≢ p) × IsLocalLiberty touch cells d i k
  other_liberty d i a b ne la lb = elim (cases_eq a p) [
    | inl e ↦ (b, (λ e'. ne (e ∙ sym e')), lb)
    | inr ne' ↦ (a, ne', la)
  ]

  weak_is_taken : (i : ℕ) → IsLinked touch p i → Holds cells (other c) i → ¬ Lasts touch cells (other c) i
      → ¬ IsFree touch (with_stone cells p c) (other c) i
  weak_is_taken i link holds weak (j, chain, breath) = elim breath [
    | inl (k, next, bare) ↦
        let o = open_elsewhere k bare in
        weak (inr record {
          one = k;
          two = p;
          apart = o.0;
          is_one = (j, chain_to i j chain, next, o.1);
          is_two = (i, leads_here (IsLinked touch) (Holds cells (other c)) i holds, links.back p i link, empty);
        })
    | inr beside ↦ weak (inl (j, chain_to i j chain, beside))
  ]

  lasting_stays : (i : ℕ) → Lasts touch cells (other c) i → IsFree touch (with_stone cells p c) (other c) i
  lasting_stays i l = elim l [
    | inl (j, chain, beside) ↦ (j, chain_from i j chain, inr beside)
    | inr t ↦
        let w = other_liberty (other c) i t.one t.two t.apart t.is_one t.is_two in
        (w.2.0, chain_from i w.2.0 w.2.1, inl (w.0, w.2.2, elsewhere w.0 w.1 ∙ w.2.3))
  ]

  -- a stone takes the linked chains that don't last
  pub removed_is : (q : ℕ) → IsRemoved touch (with_stone cells p c) p (other c) q
      → (i : ℕ) × IsLinked touch p i × Holds cells (other c) i × (¬ Lasts touch cells (other c) i) × InLocalChain touch cells (other c) i q
  removed_is q (i, link, chain, choked) =
      let chain' = chain_to i q chain in
      (i, link, leads_start (IsLinked touch) (Holds cells (other c)) i q chain', (λ l. choked (lasting_stays i l)), chain')

  pub removed_from : (i q : ℕ) → IsLinked touch p i → Holds cells (other c) i → ¬ Lasts touch cells (other c) i
      → InLocalChain touch cells (other c) i q → IsRemoved touch (with_stone cells p c) p (other c) q
  removed_from i q link holds weak chain = (i, link, chain_from i q chain, weak_is_taken i link holds weak)

  removed_holds : (q : ℕ) → IsRemoved touch (with_stone cells p c) p (other c) q → Holds cells (other c) q
  removed_holds q r = let w = removed_is q r in leads_end (IsLinked touch) (Holds cells (other c)) w.0 q w.4

  pub removed_stands : (q : ℕ) → IsRemoved touch (with_stone cells p c) p (other c) q → Holds (with_stone cells p c) (other c) q
  removed_stands q r = from_other q (removed_holds q r)

  -- where it stands or takes something, it is legal
  pub stands_free : (after : List Cell)
      → ((q : ℕ) → IsRemoved touch (with_stone cells p c) p (other c) q → held_at after q ≡ cell.Empty)
      → ((q : ℕ) → ¬ IsRemoved touch (with_stone cells p c) p (other c) q → held_at after q ≡ held_at (with_stone cells p c) q)
      → Stands touch cells p c ⊎ Takes touch cells p c → IsFree touch after c p
  stands_free after gone kept why = elim why [
    | inl (inl (k, link, bare)) ↦
        (p, here, inl (k, link, keeps_open k (λ e. links.apart p (subst (λ x. IsLinked touch p x) e link)) bare))
    | inl (inr (inl beside)) ↦ (p, here, inr beside)
    | inl (inr (inr (i, link, holds, lasts))) ↦ elim lasts [
      | inl (j, chain, beside) ↦ (j, reach i j link holds chain, inr beside)
      | inr t ↦
          let w = other_liberty c i t.one t.two t.apart t.is_one t.is_two in
          (w.2.0, reach i w.2.0 link holds w.2.1, inl (w.0, w.2.2, keeps_open w.0 w.1 w.2.3))
    ]
    | inr (i, link, holds, weak) ↦
        (p, here, inl (i, link, gone i (removed_from i i link holds weak (leads_here (IsLinked touch) (Holds cells (other c)) i holds))))
  ]
    where
      keeps_own : (q : ℕ) → Holds cells c q → Holds after c q
      keeps_own q h =
          let ne : q ≢ p = λ e. empty_not_stone c (sym empty ∙ subst (λ x. Holds cells c x) e h) in
          kept q (λ r. not_other c (sym h ∙ removed_holds q r)) ∙ elsewhere q ne ∙ h

      keeps_open : (k : ℕ) → k ≢ p → held_at cells k ≡ cell.Empty → held_at after k ≡ cell.Empty
      keeps_open k ne bare = kept k (λ r. empty_not_stone (other c) (sym bare ∙ removed_holds k r)) ∙ elsewhere k ne ∙ bare

      here : InLocalChain touch after c p p
      here = leads_here (IsLinked touch) (Holds after c) p (kept p (λ r. empty_not_stone (other c) (sym empty ∙ removed_holds p r)) ∙ own)

      reach : (i j : ℕ) → IsLinked touch p i → Holds cells c i → InLocalChain touch cells c i j → InLocalChain touch after c p j
      reach i j link holds chain =
          leads_join (IsLinked touch) (Holds after c) p i j
          (leads_step (IsLinked touch) (Holds after c) p p i here link (keeps_own i holds))
          (leads_more (IsLinked touch) (Holds cells c) (Holds after c) keeps_own i j chain)

  -- and else it isn't
  pub not_legal : ¬ Stands touch cells p c → ¬ Takes touch cells p c → (after : List Cell) → ¬ IsLocalMove touch cells c p after
  not_legal stands takes after m = elim (carried (IsLinked touch) (Holds after c) Near step p m.stands.0 (inl refl) m.stands.1) [
    | inl e ↦ elim m.stands.2 [
      | inl (k, link, bare) ↦ stands (inl (k, subst (λ x. IsLinked touch x k) e link, (open_elsewhere k (sym (same k) ∙ bare)).1))
      | inr beside ↦ stands (inr (inl (subst (λ x. IsBeside touch c x) e beside)))
    ]
    | inr (i, link, chain) ↦
        let holds = leads_start (IsLinked touch) (Holds cells c) i m.stands.0 chain in
        stands (inr (inr (
          i,
          link,
          holds,
          elim m.stands.2 [
            | inl (k, next, bare) ↦
                let o = open_elsewhere k (sym (same k) ∙ bare) in
                inr record {
                  one = k;
                  two = p;
                  apart = o.0;
                  is_one = (m.stands.0, chain, next, o.1);
                  is_two = (i, leads_here (IsLinked touch) (Holds cells c) i holds, links.back p i link, empty);
                }
            | inr beside ↦ inl (m.stands.0, chain, beside)
          ],
        )))
  ]
    where
      same : (q : ℕ) → held_at after q ≡ held_at (with_stone cells p c) q
      same q = m.without.kept q (λ r. let w = removed_is q r in takes (w.0, w.1, w.2, w.3))

      Near : ℕ → Type 0
      Near x = (x ≡ p) ⊎ ((i : ℕ) × IsLinked touch p i × InLocalChain touch cells c i x)

      step : (x y : ℕ) → (x ≡ p) ⊎ ((i : ℕ) × IsLinked touch p i × InLocalChain touch cells c i x) → IsLinked touch x y → Holds after c y
          → (y ≡ p) ⊎ ((i : ℕ) × IsLinked touch p i × InLocalChain touch cells c i y)
      step x y near link h = elim (cases_eq y p) [
        | inl e ↦ inl e
        | inr ne ↦
            let mine : Holds cells c y = sym (elsewhere y ne) ∙ sym (same y) ∙ h in
            elim near [
              | inl e ↦ inr (y, subst (λ z. IsLinked touch z y) e link, leads_here (IsLinked touch) (Holds cells c) y mine)
              | inr (i, first, chain) ↦ inr (i, first, leads_step (IsLinked touch) (Holds cells c) i x y chain link mine)
            ]
      ]
