-- Alive stones and counted points never change in play.
use Rattle.std.proofs.Common.{◌≡◌, ◌≢◌, ℕ, ◌<◌, List, [], ◌∷◌, Bool, refl, sym, ap, ◌∙◌, subst, ℤ}
use Rattle.go_grid.specs.declared.grid.Colour.{Colour}
use Rattle.go_grid.specs.declared.grid.Colour.TheVariants as colour
use Rattle.go_grid.specs.Board.{Board, NextTo, HasStone, IsEmpty, Lacks, cell_at, stone, other}
use Rattle.go_grid.specs.Walk.{Joined}
use Rattle.go_grid.specs.Marks.{Marks}
use Rattle.go_grid.specs.Chain.{InChain, HasLiberty, IsLiberty, IsSettled}
use Rattle.go_grid.proofs.BoardLemmas.{same_stone, empty_not_stone}
use Rattle.go_grid.proofs.WalkLemmas.{joined_step, joined_end, joined_more}
use Rattle.benson_life.specs.Life.{InRegion, IsAlive, IsCounted}
use Rattle.benson_life.specs.Region.{IsContested}
use Rattle.benson_life.specs.Walls.{WallsStand}
use Rattle.benson_life.proofs.StandLemmas.{joined_along}
use Rattle.benson_life.proofs.WallLemmas.{counted_lacks, counted_region, walls_breathe}
use Rattle.go_play.specs.Place.{IsPlaced, IsTaken}
use Rattle.go_play.specs.inner.Place.{with_stone}
use Rattle.whole_rules.proofs.PlacingLaws.{elsewhere, as_long}
use Rattle.whole_rules.specs.declared.states.Move.{Move}
use Rattle.whole_rules.specs.declared.states.Move.TheVariants.{Stone, Spend, Half}
use Rattle.whole_rules.specs.WholeGame.{Whole, IsMove}
use Rattle.whole_rules.specs.Opening.{IsOpening}
use Rattle.whole_rules.specs.Walls.{Plays, WallsLast}
use Rattle.go_play.proofs.BoardPlayLemmas.{placed_long, taken_choked, taken_stone}

-- an empty point, and a stone of another colour, lacks the colour
empty_lacks : (g : Board) (c : Colour) (p : ℕ) → IsEmpty g p → Lacks g c p
empty_lacks g c p e = (e.0, λ h. empty_not_stone c (sym e.1 ∙ h))

stone_lacks : (g : Board) (c d : Colour) (p : ℕ) → d ≢ c → HasStone g d p → Lacks g c p
stone_lacks g c d p ne h = (h.0, λ e. ne (same_stone d c (sym h.1 ∙ e)))

module _ (g : Board) where
  alive_stone : (c : Colour) (s : ℕ) → IsAlive g c s → HasStone g c s
  alive_stone c s a = a.1.stones s a.2

  -- the liberties of a chain in a region are in the region
  chain_liberty : (c d : Colour) (q : ℕ) → d ≢ c → HasStone g d q → HasLiberty g d q → (r : ℕ) × InRegion g c q r × IsLiberty g d q r
  chain_liberty c d q ne h l =
      let t = l.1.1 in
      let walk = joined_more g.columns (HasStone g d) (Lacks g c) (λ x k. stone_lacks g c d x ne k) q t.0 t.1 in
      (l.0, joined_step g.columns (Lacks g c) q t.0 l.0 walk t.2 (empty_lacks g c l.0 l.1.0), l.1)

  module _ (settled : IsSettled g) where
    module _ (h : Board) (walls : WallsStand g h) where
      module _ (p : ℕ) (c : Colour) (k : Board) (contested : IsContested g p) (placed : IsPlaced h p c k) where
        abbrev b : Board
        b = with_stone h p c

        counted_elsewhere : (d : Colour) (q : ℕ) → IsCounted g d q → q ≢ p
        counted_elsewhere colour.Black q w e = contested.3 (subst (IsCounted g colour.Black) e w)
        counted_elsewhere colour.White q w e = contested.4 (subst (IsCounted g colour.White) e w)

        alive_elsewhere : (d : Colour) (s : ℕ) → IsAlive g d s → s ≢ p
        alive_elsewhere colour.Black s a e = contested.1 (subst (IsAlive g colour.Black) e a)
        alive_elsewhere colour.White s a e = contested.2 (subst (IsAlive g colour.White) e a)

        stone_on : (d : Colour) (x : ℕ) → x ≢ p → HasStone h d x → HasStone b d x
        stone_on d x ne w = (subst (λ n. x < n) (sym (as_long h p c)) w.0, elsewhere h p x c ne ∙ w.1)

        empty_on : (x : ℕ) → x ≢ p → IsEmpty h x → IsEmpty b x
        empty_on x ne w = (subst (λ n. x < n) (sym (as_long h p c)) w.0, elsewhere h p x c ne ∙ w.1)

        -- a chain of the earlier board, with a liberty other than the new stone's point, still has it
        still_breathes : (d : Colour) (s q : ℕ) → q ≢ p → IsLiberty h d s q → HasLiberty b d s
        still_breathes d s q ne l =
            let t = l.1 in
            (q, (empty_on q ne l.0, (t.0, joined_more h.columns (HasStone h d) (HasStone b d) (λ x w. stone_on d x (λ e. empty_not_stone d (sym placed.1.free ∙ subst (λ y. cell_at h y ≡ stone d) e w.1)) w) s t.0 t.1, t.2)))

        alive_kept : (d : Colour) (s : ℕ) → IsAlive g d s → IsTaken h p c s → ⊥
        alive_kept d s a t =
            let on = stone_on d s (alive_elsewhere d s a) (walls.stones d s a) in
            let e : d ≡ other c = same_stone d (other c) (sym on.1 ∙ (taken_stone h p c s t).1) in
            let l = walls_breathe g settled h walls d s a in
            taken_choked h p c s t (subst (λ z. HasLiberty b z s) e (still_breathes d s l.0 (counted_elsewhere d l.0 l.1) l.2))

        counted_kept : (d : Colour) (q : ℕ) → IsCounted g d q → IsTaken h p c q → ⊥
        counted_kept d q w t =
            let o = other c in
            let same : cell_at b q ≡ cell_at g q = elsewhere h p q c (counted_elsewhere d q w) ∙ walls.counted d q w in
            let lacks : Lacks g d q = counted_lacks g settled.closed d q w in
            let stood : HasStone g o q = (lacks.0, sym same ∙ (taken_stone h p c q t).1) in
            let ne : o ≢ d = λ e. lacks.1 (stood.1 ∙ ap stone e) in
            let l = chain_liberty d o q ne stood (settled.breathe o q stood) in
            let in_chain : (x : ℕ) → InChain g o q x → HasStone h o x = λ x j.
            let wx = counted_region g settled.closed d q x w (joined_more g.columns (HasStone g o) (Lacks g d) (λ y v. stone_lacks g d o y ne v) q x j) in
            let sx = joined_end g.columns (HasStone g o) q x j in
            (subst (λ n. x < n) (sym walls.long) sx.0, walls.counted d x wx ∙ sx.1) in
            let r = l.2.1 in
            let wl = counted_region g settled.closed d q l.0 w l.1 in
            let liberty : IsLiberty h o q l.0 = (
              (subst (λ n. l.0 < n) (sym walls.long) l.2.0.0, walls.counted d l.0 wl ∙ l.2.0.1),
              (r.0, subst (λ n. Joined n (HasStone h o) q r.0) (sym walls.columns) (joined_along g.columns (HasStone g o) (HasStone h o) q r.0 in_chain r.1), subst (λ n. NextTo n r.0 l.0) (sym walls.columns) r.2),
            ) in
            taken_choked h p c q t (still_breathes o q l.0 (counted_elsewhere d l.0 wl) liberty)

        pub walls_step : WallsStand g k
        walls_step = record {
          columns = placed.0.columns ∙ walls.columns;
          long = placed_long h p c k placed ∙ walls.long;
          stones = λ d s a.
              let on = stone_on d s (alive_elsewhere d s a) (walls.stones d s a) in
              (subst (λ n. s < n) (sym placed.1.without.long) on.0, placed.1.without.kept s (alive_kept d s a) ∙ on.1);
          counted = λ d q w.
              placed.1.without.kept q (counted_kept d q w) ∙ elsewhere h p q c (counted_elsewhere d q w) ∙ walls.counted d q w;
        }

-- what each play keeps
pub record Keeps (g : Board) (s : Whole) : Type 0 where
  pub walls : WallsStand g s.board
  pub contested : Marks s.contested (IsContested g)

pub keeps_start : (g : Board) (black white : ℕ) (komi : ℤ) (side : Colour) (tax : Bool) (s : Whole) → IsOpening g black white komi side tax s → Keeps g s
keeps_start g black white komi side tax s o = record {
  walls = subst (λ b. WallsStand g b) (sym o.board) record { columns = refl; long = refl; stones = λ c t a. alive_stone g c t a; counted = λ c p w. refl };
  contested = o.contested;
}

pub keeps_move : (g : Board) → IsSettled g → (s t : Whole) (m : Move) → Keeps g s → IsMove s m t → Keeps g t
keeps_move g settled s t (Stone p) w m = record {
  walls = subst (λ z. WallsStand g z.board) (sym m.1.1.3) (walls_step g settled s.board w.walls p s.side m.1.0 ((w.contested p).0 m.0) m.1.1.1);
  contested = subst (λ z. Marks z.contested (IsContested g)) (sym m.1.1.3) w.contested;
}
keeps_move g settled s t Spend w m = record {
  walls = subst (λ z. WallsStand g z.board) (sym m.1) w.walls;
  contested = subst (λ z. Marks z.contested (IsContested g)) (sym m.1) w.contested;
}
keeps_move g settled s t Half w m = record {
  walls = subst (λ z. WallsStand g z.board) (sym m.1) w.walls;
  contested = subst (λ z. Marks z.contested (IsContested g)) (sym m.1) w.contested;
}

pub keeps_plays : (g : Board) → IsSettled g → (s t : Whole) (ms : List Move) → Keeps g s → Plays s ms t → Keeps g t
keeps_plays g settled s t [] w e = subst (Keeps g) e w
keeps_plays g settled s t (m ∷ ms) w e = keeps_plays g settled e.0 t ms (keeps_move g settled s e.0 m w e.1) e.2

pub walls_last : WallsLast
walls_last g black white komi side tax s t ms settled o e =
    let w = (keeps_plays g settled s t ms (keeps_start g black white komi side tax s o) e).walls in
    (w, walls_breathe g settled t.board w)
