-- Each stone of a healthy list on a settled board stands against every list of placings of the other colour.
use Rattle.std.proofs.Common.{◌≡◌, ◌≢◌, ℕ, ◌<◌, ◌⊎◌, inl, inr, List, [], ◌∷◌, length, refl, sym, ap, ◌∙◌, subst}
use Rattle.std.specs.List.{Contains}
use Rattle.std.proofs.lemmas.Bool.{cases_eq}
use Rattle.std.proofs.lemmas.List.{length-set, get_or-set_other}
use Rattle.go_grid.specs.declared.grid.Cell.{Cell}
use Rattle.go_grid.specs.declared.grid.Cell.TheVariants as cell
use Rattle.go_grid.specs.declared.grid.Colour.{Colour}
use Rattle.go_grid.specs.declared.grid.Colour.TheVariants as colour
use Rattle.go_grid.specs.Board.{Board, NextTo, HasStone, IsDeclared, IsEmpty, IsUndeclared, Lacks, cell_at, stone, other}
use Rattle.go_grid.specs.Walk.{Joined}
use Rattle.go_grid.specs.Chain.{HasLiberty, IsLiberty, IsSettled}
use Rattle.go_grid.proofs.DeclaredLemmas.{declared_on}
use Rattle.go_grid.proofs.WalkLemmas.{joined_here, joined_step, joined_start, joined_end, joined_join, joined_back, carried}
use Rattle.benson_life.specs.Life.{HasTwoEyes, InRegion, IsWalledBy, IsEye, IsHealthy}
use Rattle.go_play.specs.Place.{IsPlaced, Placings, Stands}
use Rattle.go_play.specs.inner.Place.{with_stone}
use Rattle.go_grid.proofs.BoardLemmas.{empty_not_stone, not_other, same_or_not}
use Rattle.go_play.proofs.BoardPlayLemmas.{breathes, placed_long, taken_choked, taken_stone}

-- what holds no stone of one colour is empty or holds one of the other
pub empty_or_other : (x : Cell) (d : Colour) → x ≢ stone (other d) → (x ≡ cell.Empty) ⊎ (x ≡ stone d)
empty_or_other cell.Empty d ne = inl refl
empty_or_other cell.Black colour.Black ne = inr refl
empty_or_other cell.Black colour.White ne = absurd (ne refl)
empty_or_other cell.White colour.White ne = inr refl
empty_or_other cell.White colour.Black ne = absurd (ne refl)

-- more points to walk over, where all points that are joined to the start are among them
pub joined_along : (c : ℕ) (In More : ℕ → Type 0) (p q : ℕ) → ((x : ℕ) → Joined c In p x → More x) → Joined c In p q → Joined c More p q
joined_along c In More p q wider j =
    let both = carried c In (λ x. Joined c In p x × Joined c More p x)
    (λ x y w n h. let k = joined_step c In p x y w.0 n h in (k, joined_step c More p x y w.1 n (wider y k)))
    p q (joined_here c In p (joined_start c In p q j), joined_here c More p (wider p (joined_here c In p (joined_start c In p q j)))) j in
    both.1

-- each region of a settled board has an empty point
first_empty : (g : Board) (d : Colour) (r : ℕ) → IsSettled g → Lacks g (other d) r → (e : ℕ) × InRegion g (other d) r e × IsEmpty g e
first_empty g d r settled lacks =
    elim (empty_or_other (cell_at g r) d lacks.1) as (λ _. (e : ℕ) × InRegion g (other d) r e × IsEmpty g e) [
      | inl k ↦ (r, joined_here g.columns (Lacks g (other d)) r lacks, (lacks.0, k))
      | inr k ↦
          let liberty = settled.breathe d r (lacks.0, k) in
          let at = carried g.columns (HasStone g d) (InRegion g (other d) r)
          (λ x y in' n j. joined_step g.columns (Lacks g (other d)) r x y in' n (j.0, λ q. not_other d (sym j.1 ∙ q)))
          r liberty.1.1.0 (joined_here g.columns (Lacks g (other d)) r lacks) liberty.1.1.1 in (
            liberty.0,
            joined_step g.columns (Lacks g (other d)) r liberty.1.1.0 liberty.0 at liberty.1.1.2
                (liberty.1.0.0, λ q. empty_not_stone (other d) (sym liberty.1.0.1 ∙ q)),
            liberty.1.0,
          )
    ]

pub region_empty : (g : Board) (c : Colour) (r : ℕ) → IsSettled g → Lacks g c r → (e : ℕ) × InRegion g c r e × IsEmpty g e
region_empty g colour.Black r settled lacks = first_empty g colour.White r settled lacks
region_empty g colour.White r settled lacks = first_empty g colour.Black r settled lacks

-- the attacker's colour is d, and the stones are of the other colour
module _ (g : Board) (d : Colour) (S : List ℕ) (healthy : IsHealthy g (other d) S) where
  -- what each list of placings keeps
  pub record Holds (h : Board) : Type 0 where
    pub columns : h.columns ≡ g.columns
    pub long : length h.cells ≡ length g.cells
    pub declared : h.declared ≡ g.declared
    pub stones : (s : ℕ) → Contains S s → HasStone h (other d) s
    pub others : (q : ℕ) → HasStone g d q → HasStone h d q
    pub open' : (r : ℕ) → Lacks g (other d) r → IsWalledBy g (other d) (Contains S) r
        → (e : ℕ) × InRegion g (other d) r e × IsEmpty h e
    pub kept : (e : ℕ) → IsDeclared g (other d) e → IsEmpty h e

  -- an empty point of a region was empty from the first
  was_empty : (h : Board) → Holds h → (e : ℕ) → Lacks g (other d) e → IsEmpty h e → IsEmpty g e
  was_empty h w e lacks now = elim (empty_or_other (cell_at g e) d lacks.1) as (λ _. IsEmpty g e) [
    | inl k ↦ (lacks.0, k)
    | inr k ↦ let there = w.others e (lacks.0, k) in absurd (empty_not_stone d (sym now.1 ∙ there.1))
  ]

  -- a walk over stones of a board whose stones of S stand, from a point of a region that S walls, stays in the region
  stays : (h : Board) → h.columns ≡ g.columns → length h.cells ≡ length g.cells
      → ((s : ℕ) → Contains S s → HasStone h (other d) s)
      → (r : ℕ) → IsWalledBy g (other d) (Contains S) r → (x y : ℕ) → InRegion g (other d) r x
      → NextTo g.columns x y → y < length h.cells → cell_at h y ≢ stone (other d) → InRegion g (other d) r y
  stays h columns long stand r walled x y at n lt ne =
      elim (same_or_not (cell_at g y) (stone (other d))) as (λ _. InRegion g (other d) r y) [
        | inl k ↦ absurd (ne (stand y (walled x y at n (rw long at lt, k))).1)
        | inr k ↦ joined_step g.columns (Lacks g (other d)) r x y at n (rw long at lt, k)
      ]

  -- a liberty of `s` that is empty still, other than `p`, is one on the board with a stone at `p`
  still_liberty : (h : Board) → Holds h → (p s e : ℕ) → IsEmpty h p → Contains S s → IsLiberty g (other d) s e → IsEmpty h e → e ≢ p
      → HasLiberty (with_stone h p d) (other d) s
  still_liberty h w p s e free in' liberty empty ne = (
    e,
    (
      (rw (length-set h.cells p (stone d)) empty.0, get_or-set_other h.cells p e (stone d) cell.Empty ne ∙ empty.1),
      (
        liberty.1.0,
        joined_along h.columns (HasStone g (other d)) (HasStone (with_stone h p d) (other d)) s liberty.1.0
            (λ x j.
            let there = w.stones x (healthy.whole s x in' (rw w.columns at j)) in
            let apart : x ≢ p = λ k. empty_not_stone (other d) (sym free.1 ∙ ap (cell_at h) (sym k) ∙ there.1) in
            (rw (length-set h.cells p (stone d)) there.0, get_or-set_other h.cells p x (stone d) cell.Empty apart ∙ there.1))
            (subst (λ x. Joined x (HasStone g (other d)) s liberty.1.0) (sym w.columns) liberty.1.1),
        subst (λ x. NextTo x liberty.1.0 e) (sym w.columns) liberty.1.2,
      ),
    ),
  )

  -- an empty point of a region vital to `s`, other than `p`, is a liberty of `s` on the board with a stone at `p`
  keeps_liberty : (h : Board) → Holds h → (p s r e : ℕ) → IsEmpty h p → Contains S s → IsEye g (other d) (Contains S) s r
      → InRegion g (other d) r e → IsEmpty h e → e ≢ p → HasLiberty (with_stone h p d) (other d) s
  keeps_liberty h w p s r e free in' eye at empty ne =
      let lacks = joined_end g.columns (Lacks g (other d)) r e at in
      still_liberty h w p s e free in' (eye.vital e at (was_empty h w e lacks empty)) empty ne

  -- a point declared for the stones isn't one at which a placing is listed
  not_here : (h : Board) → Holds h → (p e : ℕ) → IsUndeclared h p → IsDeclared g (other d) e → e ≢ p
  not_here h w p e free declared same =
      free (other d) (subst (IsDeclared h (other d)) same (declared_on g h w.declared w.long (other d) e declared))

  -- each stone of S has a liberty on the board with a stone more
  not_choked : (h : Board) → Holds h → (p s : ℕ) → IsUndeclared h p → IsEmpty h p → Contains S s → HasLiberty (with_stone h p d) (other d) s
  not_choked h w p s outside free in' = elim (healthy.room s in') as (λ _. HasLiberty (with_stone h p d) (other d) s) [
    | inl (e, declared, liberty) ↦
        still_liberty h w p s e free in' liberty (w.kept e declared) (not_here h w p e outside declared)
    | inr two ↦ has_eyes two
  ]
    where
      has_eyes : HasTwoEyes g (other d) (Contains S) s → HasLiberty (with_stone h p d) (other d) s
      has_eyes (r, t, a, b, apart) =
          let e = w.open' r a.lacks a.walled in
          let f = w.open' t b.lacks b.walled in
          elim (cases_eq e.0 p) [
            | inl k ↦ elim (cases_eq f.0 p) [
              | inl k' ↦
                  let same : f.0 ≡ e.0 = k' ∙ sym k in
                  absurd (apart (joined_join g.columns (Lacks g (other d)) r e.0 t e.1
                  (joined_back g.columns (Lacks g (other d)) t e.0 (subst (λ x. InRegion g (other d) t x) same f.1))))
              | inr ne ↦ keeps_liberty h w p s t f.0 free in' b f.1 f.2 ne
            ]
            | inr ne ↦ keeps_liberty h w p s r e.0 free in' a e.1 e.2 ne
          ]

  -- one legal placing
  holds_next : (h : Board) → Holds h → (p : ℕ) (m : Board) → IsUndeclared h p → IsPlaced h p d m → Holds m
  holds_next h w p m outside placed =
      record { columns = columns; long = long; declared = placed.0.declared ∙ w.declared; stones = stand; others = others; open' = opens; kept = kept }
    where
      columns : m.columns ≡ g.columns
      columns = placed.0.columns ∙ w.columns

      long : length m.cells ≡ length g.cells
      long = placed_long h p d m placed ∙ w.long

      on_board : (x : ℕ) → x < length h.cells → x < length m.cells
      on_board x lt = rw (long, ← w.long) lt

      -- a cell that is no stone of the owner stays as it was
      stays_as : (x : ℕ) → x ≢ p → cell_at h x ≢ stone (other d) → cell_at m x ≡ cell_at h x
      stays_as x ne not = let same = get_or-set_other h.cells p x (stone d) cell.Empty ne in
          placed.1.without.kept x (λ t. not (sym same ∙ (taken_stone h p d x t).1)) ∙ same

      stand : (s : ℕ) → Contains S s → HasStone m (other d) s
      stand s in' =
          let there = w.stones s in' in
          let apart : s ≢ p = λ k. empty_not_stone (other d) (sym placed.1.free ∙ ap (cell_at h) (sym k) ∙ there.1) in (
            on_board s there.0,
            placed.1.without.kept s (λ t. taken_choked h p d s t (not_choked h w p s outside (placed.1.place, placed.1.free) in'))
                ∙ get_or-set_other h.cells p s (stone d) cell.Empty apart ∙ there.1,
          )

      others : (q : ℕ) → HasStone g d q → HasStone m d q
      others q at =
          let there = w.others q at in
          let apart : q ≢ p = λ k. empty_not_stone d (sym placed.1.free ∙ ap (cell_at h) (sym k) ∙ there.1) in
          (on_board q there.0, stays_as q apart (λ k. not_other d (sym there.1 ∙ k)) ∙ there.1)

      opens : (r : ℕ) → Lacks g (other d) r → IsWalledBy g (other d) (Contains S) r
          → (e : ℕ) × InRegion g (other d) r e × IsEmpty m e
      opens r lacks walled =
          let e = w.open' r lacks walled in
          elim (cases_eq e.0 p) [
            | inl k ↦
                let liberty = breathes h p d m placed in
                let at = carried m.columns (HasStone m d) (InRegion g (other d) r)
                (λ x y in' n j. stays m columns long stand r walled x y in' (rw columns at n) j.0 (λ q. not_other d (sym j.1 ∙ q)))
                p liberty.1.1.0 (subst (λ x. InRegion g (other d) r x) k e.1) liberty.1.1.1 in (
                  liberty.0,
                  stays m columns long stand r walled liberty.1.1.0 liberty.0 at (subst (λ n. NextTo n liberty.1.1.0 liberty.0) columns liberty.1.1.2)
                      liberty.1.0.0
                      (λ q. empty_not_stone (other d) (sym liberty.1.0.1 ∙ q)),
                  liberty.1.0,
                )
            | inr ne ↦ (e.0, e.1, (on_board e.0 e.2.0, stays_as e.0 ne (λ q. empty_not_stone (other d) (sym e.2.1 ∙ q)) ∙ e.2.1))
          ]

      kept : (e : ℕ) → IsDeclared g (other d) e → IsEmpty m e
      kept e declared =
          let empty = w.kept e declared in
          (on_board e empty.0, stays_as e (not_here h w p e outside declared) (λ q. empty_not_stone (other d) (sym empty.1 ∙ q)) ∙ empty.1)

  -- a settled board, before any placing
  holds_first : IsSettled g → Holds g
  holds_first settled = record {
    columns = refl;
    long = refl;
    declared = refl;
    stones = healthy.stones;
    others = λ q at. at;
    open' = λ r lacks _. first_empty g d r settled lacks;
    kept = λ e declared. (settled.closed (other d) e declared).empty;
  }

  holds_all : (ps : List ℕ) (h m : Board) → Holds h → Placings d h ps m → Holds m
  holds_all [] h m w e = subst Holds e w
  holds_all (p ∷ ps) h m w (outside, (k, placed, run)) = holds_all ps k m (holds_next h w p k outside placed) run

-- the law
pub healthy_stands : (g : Board) (c : Colour) (S : List ℕ) → IsSettled g → IsHealthy g c S → (s : ℕ) → Contains S s → Stands g c s
healthy_stands g colour.Black S settled healthy s in' ps h run =
    (holds_all g colour.White S healthy ps g h (holds_first g colour.White S healthy settled) run).stones s in'
healthy_stands g colour.White S settled healthy s in' ps h run =
    (holds_all g colour.Black S healthy ps g h (holds_first g colour.Black S healthy settled) run).stones s in'
