-- What placings at liberties of chains under attack keep, and why two of them that are refused are two eyes.
use Rattle.std.proofs.Common.{◌≡◌, ◌≢◌, ℕ, ◌<◌, inl, inr, List, [], ◌∷◌, ◌++◌, length, refl, sym, ◌∙◌, subst}
use Rattle.std.proofs.lemmas.Bool.{cases_eq}
use Rattle.std.proofs.lemmas.List.{get_or-set_other}
use Rattle.go_grid.specs.declared.grid.Cell.TheVariants as cell
use Rattle.go_grid.specs.declared.grid.Colour.{Colour}
use Rattle.go_grid.specs.Board.{Board, NextTo, HasStone, IsClosedOff, IsDeclared, IsEmpty, IsUndeclared, Lacks, cell_at, stone, other}
use Rattle.go_grid.specs.Walk.{Joined}
use Rattle.go_grid.specs.Chain.{InChain, IsLiberty, HasLiberty, IsSettled}
use Rattle.go_grid.proofs.NearLemmas.{next_back}
use Rattle.go_grid.proofs.WalkLemmas.{joined_here, joined_step, joined_start, joined_end, joined_join, joined_back, joined_more}
use Rattle.go_play.specs.Place.{IsPlaced, IsTaken, IsSuicide, Placings}
use Rattle.go_play.specs.inner.Place.{with_stone}
use Rattle.benson_life.specs.Life.{InRegion, IsVital, IsEye, HasDeclaredLiberty, HasTwoEyes}
use Rattle.benson_life.proofs.StandLemmas.{empty_or_other, joined_along}
use Rattle.benson_attack.specs.Reached.{IsReachedUnderAttack}
use Rattle.benson_attack.specs.inner.Reached.{HasDeclaredBreath}
use Rattle.benson_attack.proofs.LegalLemmas.{room, stays_empty, with_other, had_liberty, still, stood_earlier, not_suicide}
use Rattle.go_grid.proofs.BoardLemmas.{empty_not_stone, one_colour, same_or_not}
use Rattle.go_grid.proofs.DeclaredLemmas.{declared_on}
use Rattle.go_play.proofs.BoardPlayLemmas.{placed_long, taken_choked, taken_near, takes, takes_by}
use Rattle.go_grid.proofs.ChainLemmas.{same_liberty}

module _ (g : Board) (d : Colour) (Under : ℕ → Type 0) (h : Board) (w : IsReachedUnderAttack g d Under h) where
  -- a chain was the same stones or more
  pub chain_before : (s q : ℕ) → InChain h (other d) s q → InChain g (other d) s q
  chain_before s q j =
      joined_more g.columns (HasStone h (other d)) (HasStone g (other d)) w.stood s q
      (subst (λ x. Joined x (HasStone h (other d)) s q) w.columns j)

  -- no stone of the other colour that was taken is next to one that stands
  beside_stands : (v q x : ℕ) → InChain h (other d) v q → NextTo h.columns q x → HasStone g (other d) x → HasStone h (other d) x
  beside_stands v q x j n at =
      w.whole v x
      (joined_step g.columns (HasStone g (other d)) v q x (chain_before v q j) (subst (λ k. NextTo k q x) w.columns n) at)
      (joined_start h.columns (HasStone h (other d)) v q j)

  no_old_stone : (v p : ℕ) → IsLiberty h (other d) v p → ¬ HasStone g (other d) p
  no_old_stone v p l at =
      let there = beside_stands v l.1.0 p l.1.1 l.1.2 at in empty_not_stone (other d) (sym l.0.1 ∙ there.1)

  lacks_more : (x : ℕ) → Lacks g (other d) x → Lacks h (other d) x
  lacks_more x l = (rw w.long l.0, λ e. l.1 (w.stood x (rw w.long l.0, e)).1)

  pub region_now : (r x : ℕ) → InRegion g (other d) r x → InRegion h (other d) r x
  region_now r x j =
      subst (λ k. Joined k (Lacks h (other d)) r x) (sym w.columns)
      (joined_more g.columns (Lacks g (other d)) (Lacks h (other d)) lacks_more r x j)

-- a declared liberty was one from the first, and is declared for the colour of its stones
pub declared_before : (g : Board) (d : Colour) (Under : ℕ → Type 0) (h : Board) → IsReachedUnderAttack g d Under h → IsClosedOff g → (v : ℕ)
    → HasDeclaredBreath h d v → HasDeclaredLiberty g (other d) v
declared_before g d Under h w closed v (p, (c, declared), (empty, (q, chain, next))) =
    let was : IsDeclared g c p = declared_on h g (sym w.declared) (sym w.long) c p declared in
    let shut = closed c p was in
    let stone : HasStone g (other d) q = w.stood q (joined_end h.columns (HasStone h (other d)) v q chain) in
    let near : NextTo g.columns q p = subst (λ k. NextTo k q p) w.columns next in
    let own : HasStone g c q = elim (shut.around q stone.0 (next_back g.columns q p near)) as (λ _. HasStone g c q) [
      | inl declared' ↦ absurd (empty_not_stone (other d) (sym (closed c q declared').empty.1 ∙ stone.1))
      | inr at ↦ at
    ] in (
      p,
      subst (λ x. IsDeclared g x p) (one_colour g c (other d) q own stone) was,
      (shut.empty, (q, chain_before g d Under h w v q chain, near)),
    )

-- a region that is vital to a stone under attack was an eye of it from the first
module _ (g : Board) (d : Colour) (v : ℕ) (h : Board) (w : IsReachedUnderAttack g d (InChain g (other d) v) h) (r : ℕ)
    (vital : IsVital h (other d) r v) where
  none_taken : (x : ℕ) → InRegion h (other d) r x → ¬ HasStone g (other d) x
  none_taken x j at =
      let lacks = joined_end h.columns (Lacks h (other d)) r x j in
      no_old_stone g d (InChain g (other d) v) h w v x (vital x j (w.taken x at (λ s. lacks.1 s.1))) at

  lacked : (x : ℕ) → InRegion h (other d) r x → Lacks g (other d) x
  lacked x j =
      let lacks = joined_end h.columns (Lacks h (other d)) r x j in
      let on : x < length g.cells = rw w.long at lacks.0 in
      (on, λ e. none_taken x j (on, e))

  -- a stone next to the region that stood stands
  wall_stands : (p s : ℕ) → InRegion g (other d) r p → NextTo g.columns p s → HasStone g (other d) s → HasStone h (other d) s
  wall_stands p s j n at = elim (same_or_not (cell_at h s) (stone (other d))) as (λ _. HasStone h (other d) s) [
    | inl e ↦ (rw w.long at.0, e)
    | inr ne ↦
        let lacks : Lacks h (other d) s = (rw w.long at.0, ne) in
        absurd (none_taken s (joined_step h.columns (Lacks h (other d)) r p s
        (region_now g d (InChain g (other d) v) h w r p j) (rw w.columns n) lacks) at)
  ]

  liberty_before : (p : ℕ) → IsEmpty g p → IsLiberty h (other d) v p → IsLiberty g (other d) v p
  liberty_before p e l =
      (e, (l.1.0, chain_before g d (InChain g (other d) v) h w v l.1.0 l.1.1, rw w.columns at l.1.2))

  pub eye_before : Lacks h (other d) r → IsEye g (other d) (HasStone h (other d)) v r
  eye_before lacks = record {
    lacks = lacked r (joined_here h.columns (Lacks h (other d)) r lacks);
    vital = λ p j e.
        let now = region_now g d (InChain g (other d) v) h w r p j in
        let at = joined_end h.columns (Lacks h (other d)) r p now in
        elim (empty_or_other (cell_at h p) d at.1) as (λ _. IsLiberty g (other d) v p) [
          | inl k ↦ liberty_before p e (vital p now (at.0, k))
          | inr k ↦
              let f = w.filled p e (at.0, k) in
              (e, (f.0, f.3 (wall_stands p f.0 j f.1 f.2), next_back g.columns p f.0 f.1))
        ];
    walled = wall_stands;
  }

-- an empty point where a placing is refused, and which is a liberty, is the only empty point of its region
vital_alone : (h : Board) (d : Colour) (v p : ℕ) → IsLiberty h (other d) v p → IsSuicide h p d → IsVital h (other d) p v
vital_alone h d v p l refused e at empty = elim (cases_eq e p) as (λ _. IsLiberty h (other d) v e) [
  | inl k ↦ rw k l
  | inr ne ↦ absurd (not_suicide h d p refused (room h d p (record h { cells = refused.0 }) l.0 (record { columns = refl; rows = refl; declared = refl }) refused.1 e at empty ne))
]

-- two liberties at which placings are refused are two eyes
pub refused_eyes : (g : Board) (d : Colour) (v : ℕ) (h : Board) → IsReachedUnderAttack g d (InChain g (other d) v) h → (p q : ℕ) → p ≢ q
    → IsLiberty h (other d) v p → IsSuicide h p d → IsLiberty h (other d) v q → IsSuicide h q d
    → HasTwoEyes g (other d) (HasStone h (other d)) v
refused_eyes g d v h w p q ne lp sp lq sq = (
  p,
  q,
  eye_before g d v h w p (vital_alone h d v p lp sp) (lp.0.0, λ e. empty_not_stone (other d) (sym lp.0.1 ∙ e)),
  eye_before g d v h w q (vital_alone h d v q lq sq) (lq.0.0, λ e. empty_not_stone (other d) (sym lq.0.1 ∙ e)),
  λ j. elim (cases_eq q p) [
    | inl k ↦ ne (sym k)
    | inr ne' ↦ not_suicide h d p sp (room h d p (record h { cells = sp.0 }) lp.0 (record { columns = refl; rows = refl; declared = refl }) sp.1 q (region_now g d (InChain g (other d) v) h w p q j) lq.0 ne')
  ],
)

-- the first board, and a chain that comes under attack
pub reached_first : (g : Board) (d : Colour) → IsSettled g → IsReachedUnderAttack g d (λ _. ⊥) g
reached_first g d settled = record {
  columns = refl;
  long = refl;
  declared = refl;
  stood = λ q s. s;
  taken = λ q s n. absurd (n s);
  whole = λ q r j _. joined_end g.columns (HasStone g (other d)) q r j;
  breathes = λ q s n. n (settled.breathe (other d) q s);
  filled = λ q e s. absurd (empty_not_stone d (sym e.1 ∙ s.1));
}

pub reached_under : (g : Board) (d : Colour) (h : Board) (Under : ℕ → Type 0) → IsReachedUnderAttack g d (λ _. ⊥) h → IsReachedUnderAttack g d Under h
reached_under g d h Under w = record {
  columns = w.columns;
  long = w.long;
  declared = w.declared;
  stood = w.stood;
  taken = w.taken;
  whole = w.whole;
  breathes = w.breathes;
  filled = λ q e s. let f = w.filled q e s in (f.0, f.1, f.2, λ k. absurd (f.3 k));
}

-- the chain under attack is taken
pub reached_over : (g : Board) (d : Colour) (v : ℕ) (h : Board) → IsReachedUnderAttack g d (InChain g (other d) v) h → ¬ HasStone h (other d) v
    → IsReachedUnderAttack g d (λ _. ⊥) h
reached_over g d v h w gone = record {
  columns = w.columns;
  long = w.long;
  declared = w.declared;
  stood = w.stood;
  taken = w.taken;
  whole = w.whole;
  breathes = w.breathes;
  filled = λ q e s.
      let f = w.filled q e s in
      (f.0, f.1, f.2, λ k. gone (w.whole f.0 v (joined_back g.columns (HasStone g (other d)) v f.0 (f.3 k)) k));
}

-- one placing at a liberty of the chain under attack
module _ (g : Board) (d : Colour) (v : ℕ) (h : Board) (w : IsReachedUnderAttack g d (InChain g (other d) v) h) (p : ℕ)
    (liberty : IsLiberty h (other d) v p) (m : Board) (placed : IsPlaced h p d m) where
  columns : m.columns ≡ g.columns
  columns = placed.0.columns ∙ w.columns

  long : length m.cells ≡ length g.cells
  long = placed_long h p d m placed ∙ w.long

  not_gone : (x : ℕ) → HasStone m (other d) x → ¬ IsTaken h p d x
  not_gone x s = still h d p m placed x s

  stood_before : (x : ℕ) → HasStone m (other d) x → HasStone h (other d) x
  stood_before x s = stood_earlier h d p m placed x s

  -- a stone that stood and no longer stands is an empty point
  emptied : (x : ℕ) → HasStone h (other d) x → ¬ HasStone m (other d) x → IsEmpty m x
  emptied x s n =
      let on : x < length m.cells = rw (placed_long h p d m placed) s.0 in
      elim (empty_or_other (cell_at m x) d (λ e. n (on, e))) as (λ _. IsEmpty m x) [
        | inl e ↦ (on, e)
        | inr e ↦ absurd (n (
          on,
          placed.1.without.kept x (λ t. empty_not_stone d (sym (placed.1.without.gone x t) ∙ e))
              ∙ (with_other h d p m (placed.1.place, placed.1.free) placed.0 placed.1.without x s).1,
        ))
      ]

  -- a chain that is taken in part is taken whole
  whole : (q r : ℕ) → InChain g (other d) q r → HasStone m (other d) q → HasStone m (other d) r
  whole q r j s =
      let b = with_stone h p d in
      let was = w.whole q r j (stood_before q s) in
      let with' : (x : ℕ) → HasStone h (other d) x → HasStone b (other d) x = with_other h d p m (placed.1.place, placed.1.free) placed.0 placed.1.without in
      let along : InChain b (other d) q r = subst (λ k. Joined k (HasStone b (other d)) q r) (sym w.columns)
      (joined_along g.columns (HasStone g (other d)) (HasStone b (other d)) q r (λ x k. with' x (w.whole q x k (stood_before q s))) j) in
      let back = joined_back b.columns (HasStone b (other d)) q r along in
      elim (same_or_not (cell_at m r) (stone (other d))) as (λ _. HasStone m (other d) r) [
        | inl e ↦ (rw (placed_long h p d m placed) was.0, e)
        | inr ne ↦ absurd (ne (placed.1.without.kept r (λ t.
            let near = taken_near h p d r t in
            not_gone q s (takes h p d near.0 q near.1 (joined_join b.columns (HasStone b (other d)) near.0 r q near.2 back)
            (λ l. taken_choked h p d r t (same_liberty b (other d) r near.0 (joined_back b.columns (HasStone b (other d)) near.0 r near.2) l)))) ∙ (with' r was).1))
      ]

  -- a liberty that isn't filled stays one
  keeps_liberty : (s e : ℕ) → HasStone m (other d) s → IsLiberty h (other d) s e → e ≢ p → HasLiberty m (other d) s
  keeps_liberty s e there l ne = (
    e,
    (
      stays_empty h d p m (placed.1.place, placed.1.free) placed.0 placed.1.without e ne l.0,
      (
        l.1.0,
        subst (λ k. Joined k (HasStone m (other d)) s l.1.0) (sym placed.0.columns)
            (joined_along h.columns (HasStone h (other d)) (HasStone m (other d)) s l.1.0
            (λ x j. whole s x (chain_before g d (InChain g (other d) v) h w s x j) there) l.1.1),
        subst (λ k. NextTo k l.1.0 e) (sym placed.0.columns) l.1.2,
      ),
    ),
  )

  breathes : (s : ℕ) → HasStone m (other d) s → ¬ ¬ HasLiberty m (other d) s
  breathes s there n = w.breathes s (stood_before s there) (λ l. elim (cases_eq l.0 p) [
    | inl k ↦
        let b = with_stone h p d in
        let with' : (x : ℕ) → HasStone h (other d) x → HasStone b (other d) x = with_other h d p m (placed.1.place, placed.1.free) placed.0 placed.1.without in
        not_gone s there (takes_by h p d s l.1.1.0
        (joined_more h.columns (HasStone h (other d)) (HasStone b (other d)) with' s l.1.1.0 l.1.1.1) (subst (λ x. NextTo h.columns l.1.1.0 x) k l.1.1.2)
        (λ f. let had = had_liberty h d p m (placed.1.place, placed.1.free) placed.0 placed.1.without s f.0 f.1 in n (keeps_liberty s f.0 there had.0 had.1)))
    | inr ne ↦ n (keeps_liberty s l.0 there l.1 ne)
  ])

  taken : (q : ℕ) → HasStone g (other d) q → ¬ HasStone m (other d) q → IsEmpty m q
  taken q s n = elim (same_or_not (cell_at h q) (stone (other d))) as (λ _. IsEmpty m q) [
    | inl e ↦ emptied q (rw w.long s.0, e) n
    | inr ne ↦
        let empty = w.taken q s (λ k. ne k.1) in
        stays_empty h d p m (placed.1.place, placed.1.free) placed.0 placed.1.without q
        (λ k. no_old_stone g d (InChain g (other d) v) h w v p liberty (subst (HasStone g (other d)) k s)) empty
  ]

  filled : (q : ℕ) → IsEmpty g q → HasStone m d q
      → (r : ℕ) × NextTo g.columns q r × HasStone g (other d) r × (HasStone m (other d) r → InChain g (other d) v r)
  filled q e s =
      elim (cases_eq q p) as (λ _. (r : ℕ) × NextTo g.columns q r × HasStone g (other d) r
      × (HasStone m (other d) r → InChain g (other d) v r)) [
        | inl k ↦
            let j = chain_before g d (InChain g (other d) v) h w v liberty.1.0 liberty.1.1 in
            let n : NextTo g.columns liberty.1.0 p = subst (λ x. NextTo x liberty.1.0 p) w.columns liberty.1.2 in (
              liberty.1.0,
              subst (λ x. NextTo g.columns x liberty.1.0) (sym k) (next_back g.columns liberty.1.0 p n),
              joined_end g.columns (HasStone g (other d)) v liberty.1.0 j,
              λ _. j,
            )
        | inr ne ↦
            let same = placed.1.without.kept q (λ t. empty_not_stone d (sym (placed.1.without.gone q t) ∙ s.1)) in
            let f = w.filled q e (rw w.long e.0, sym (get_or-set_other h.cells p q (stone d) cell.Empty ne) ∙ sym same ∙ s.1) in
            (f.0, f.1, f.2, λ k. f.3 (stood_before f.0 k))
      ]

  pub reached_next : IsReachedUnderAttack g d (InChain g (other d) v) m
  reached_next = record {
    columns = columns;
    long = long;
    declared = placed.0.declared ∙ w.declared;
    stood = λ q s. w.stood q (stood_before q s);
    taken = taken;
    whole = whole;
    breathes = breathes;
    filled = filled;
  }

pub placings_more : (d : Colour) (g : Board) (ps : List ℕ) (h : Board) (p : ℕ) (m : Board) → Placings d g ps h → IsUndeclared h p
    → IsPlaced h p d m → Placings d g (ps ++ p ∷ []) m
placings_more d g [] h p m run outside placed =
    (subst (λ x. IsUndeclared x p) (sym run) outside, (m, subst (λ x. IsPlaced x p d m) (sym run) placed, refl))
placings_more d g (q ∷ ps) h p m (other', (k, at, run)) outside placed = (other', (k, at, placings_more d k ps h p m run outside placed))
