-- Chains and liberties, as sets of points.
use Rattle.std.proofs.Common.{ℕ, ◌↔◌, ◌<◌, ◌≤◌, inl, inr, List, Bool, length, arith}
use Rattle.go_grid.specs.declared.grid.Colour.{Colour}
use Rattle.go_grid.specs.Board.{Board, HasStone, IsEmpty}
use Rattle.go_grid.specs.Walk.{Joined}
use Rattle.go_grid.specs.Marks.{IsMarked, Marks, Touches}
use Rattle.go_grid.specs.Chain.{InChain, HasLiberty, IsFirstUnsettled, IsSettled, IsUnsettled}
use Rattle.go_grid.specs.inner.Settled.{IsSettledAt}
use Rattle.go_grid.proofs.WalkLemmas.{joined_back, joined_join, joined_more, joined_end}

-- a chain has a liberty exactly where one of its stones is next to an empty point
pub liberty_marks : (g : Board) (c : Colour) (s : ℕ) (stones empties : List Bool) → Marks stones (HasStone g c) → Marks empties (IsEmpty g)
    → ((p : ℕ) × Joined g.columns (IsMarked stones) s p × Touches g.columns empties p) ↔ HasLiberty g c s
liberty_marks g c s stones empties iss ise = (
  λ t.
      let j = joined_more g.columns (IsMarked stones) (HasStone g c) (λ q. (iss q).0) s t.0 t.1 in
      (t.2.0, ((ise t.2.0).0 t.2.2, (t.0, j, t.2.1))),
  λ l.
      let j = joined_more g.columns (HasStone g c) (IsMarked stones) (λ q. (iss q).1) s l.1.1.0 l.1.1.1 in
      (l.1.1.0, j, (l.0, l.1.1.2, (ise l.0).1 l.1.0)),
)

pub breathing_marks : (g : Board) (c : Colour) (stones empties starts marks : List Bool) → Marks stones (HasStone g c)
    → Marks empties (IsEmpty g) → Marks starts (λ p. IsMarked stones p × Touches g.columns empties p)
    → Marks marks (λ p. (s : ℕ) × IsMarked starts s × Joined g.columns (IsMarked stones) s p)
    → Marks marks (λ p. HasStone g c p × HasLiberty g c p)
breathing_marks g c stones empties starts marks iss ise isx ism p = (
  λ m.
      let h = (ism p).0 m in
      let back = joined_back g.columns (IsMarked stones) h.0 p h.2 in (
        (iss p).0 (joined_end g.columns (IsMarked stones) h.0 p h.2),
        (liberty_marks g c p stones empties iss ise).0 (h.0, back, ((isx h.0).0 h.1).1),
      ),
  λ h.
      let t = (liberty_marks g c p stones empties iss ise).1 h.1 in
      (ism p).1 (t.0, (isx t.0).1 (joined_end g.columns (IsMarked stones) p t.0 t.1, t.2), joined_back g.columns (IsMarked stones) p t.0 t.1),
)

-- the stones of a chain have the same liberties
pub same_liberty : (g : Board) (c : Colour) (s t : ℕ) → InChain g c s t → HasLiberty g c t → HasLiberty g c s
same_liberty g c s t j l =
    (l.0, (l.1.0, (l.1.1.0, joined_join g.columns (HasStone g c) s t l.1.1.0 j l.1.1.1, l.1.1.2)))

not_unsettled : (g : Board) (p : ℕ) → IsSettledAt g p → ¬ IsUnsettled g p
not_unsettled g p w (inl (c, stone, choked)) = choked (w.breathe c stone)
not_unsettled g p w (inr (c, declared, broken)) = broken (w.closed c declared)

-- the first point that is unsettled, where those below are not
pub first_unsettled : (g : Board) (p : ℕ) → ((q : ℕ) → q < p → IsSettledAt g q) → IsUnsettled g p → IsFirstUnsettled g p
first_unsettled g p below here = record { unsettled = here; lowest = λ q lt. not_unsettled g q (below q lt) }

-- a board is settled where each of its points is
pub all_settled : (g : Board) (n : ℕ) → ((q : ℕ) → q < n → IsSettledAt g q) → length g.cells ≤ n → IsSettled g
all_settled g n below all = record {
  breathe = λ c s stone. (below s (omega (arith, stone.0, all))).breathe c stone;
  closed = λ c p declared. (below p (omega (arith, declared.0, all))).closed c declared;
}
