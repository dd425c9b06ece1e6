-- A new stone, the chains that it takes and the liberties that it has.
use Rattle.std.proofs.Common.{◌≡◌, ℕ, ◌≤◌, ◌<◌, arith, ◌⊎◌, ◌↔◌, inl, inr, List, Bool, false, length, get_or, refl, sym, ◌∙◌, subst, Err}
use Rattle.std.proofs.lemmas.Bool.{cases_Bool, both_ways}
use Rattle.std.proofs.lemmas.List.{get_or_default, length-set}
use Rattle.std.proofs.lemmas.List.Elements.{Contains-get_or}
use Rattle.go_grid.specs.declared.grid.Cell.{Cell}
use Rattle.go_grid.specs.declared.grid.Colour.{Colour}
use Rattle.go_grid.specs.Board.{Board, AreAround, HasStone, IsEmpty, cell_at, stone, other}
use Rattle.go_grid.specs.Walk.{Joined}
use Rattle.go_grid.specs.Marks.{IsMarked, Marks, Touches}
use Rattle.go_grid.specs.Chain.{InChain, HasLiberty}
use Rattle.go_grid.proofs.BoardLemmas.{empty_not_stone, not_other, same_or_not}
use Rattle.go_grid.proofs.PlayLemmas.{one_outcome}
use Rattle.go_grid.proofs.PointsLemmas.{Noted}
use Rattle.go_grid.proofs.WalkLemmas.{joined_back, joined_join, joined_start, marks_joined}
use Rattle.go_grid.proofs.ChainLemmas.{liberty_marks, same_liberty}
use Rattle.go_play.specs.declared.placements.PlaceError.{PlaceError}
use Rattle.go_play.specs.declared.placements.PlaceError.TheVariants.{Occupied, Suicide}
use Rattle.go_play.specs.Place.{IsTaken, IsCleared, IsPlaced, Breathes, PlacesStone}
use Rattle.go_play.specs.inner.Place.{with_stone}
use Rattle.go_play.specs.inner.Tried.{AreJudged, IsLost, Judges}
use Rattle.go_play.proofs.BoardPlayLemmas.{breathes_from, breathes_to, chain_to, taken_stone, takes}

-- a placing leads to one board
pub one_board : (g h k : Board) (p : ℕ) (c : Colour) → IsPlaced g p c h → IsPlaced g p c k → h ≡ k
one_board g h k p c (size, placed) (size', placed') = λ i. record {
  columns = (size.columns ∙ sym size'.columns) i;
  rows = (size.rows ∙ sym size'.rows) i;
  cells = one_outcome placed placed' i;
  declared = (size.declared ∙ sym size'.declared) i;
}

-- a chain of the other colour is taken, or it isn't
pub lost_chain : (b : Board) (d : Colour) (s : ℕ) (theirs chain old new : List Bool)
    → Marks theirs (HasStone b d) → IsMarked theirs s → ¬ HasLiberty b d s
    → Marks chain (Joined b.columns (IsMarked theirs) s) → Marks new (λ q. IsMarked old q ⊎ IsMarked chain q)
    → Marks new (λ q. IsMarked old q ⊎ IsLost b d s q)
lost_chain b d s theirs chain old new ist on choked isc both q = (
  λ m. elim ((both q).0 m) as (λ _. IsMarked old q ⊎ IsLost b d s q) [
    | inl o ↦ inl o
    | inr n ↦ inr ((ist s).0 on, choked, (all q).0 n)
  ],
  λ h. elim h as (λ _. IsMarked new q) [
    | inl o ↦ (both q).1 (inl o)
    | inr l ↦ (both q).1 (inr ((all q).1 l.2))
  ],
)
  where
    all : Marks chain (InChain b d s)
    all = marks_joined b.columns s theirs chain (HasStone b d) ist isc

pub none_lost : (b : Board) (d : Colour) (s : ℕ) (old : List Bool) → (HasStone b d s → ¬ ¬ HasLiberty b d s)
    → Marks old (λ q. IsMarked old q ⊎ IsLost b d s q)
none_lost b d s old not q = (
  λ m. inl m,
  λ h. elim h as (λ _. IsMarked old q) [ inl o ↦ o | inr l ↦ absurd (not l.0 l.1) ],
)

-- a chain has a liberty exactly where a point of it is next to an empty one
pub free_chain : (b : Board) (d : Colour) (s : ℕ) (theirs empty chain : List Bool) → Marks theirs (HasStone b d)
    → Marks empty (IsEmpty b) → Marks chain (Joined b.columns (IsMarked theirs) s)
    → ((p : ℕ) × IsMarked chain p × Touches b.columns empty p) ↔ HasLiberty b d s
free_chain b d s theirs empty chain ist ise isc =
    let by = liberty_marks b d s theirs empty ist ise in (
      λ t. by.0 (t.0, (isc t.0).0 t.1, t.2),
      λ l. let t = by.1 l in (t.0, (isc t.0).1 t.1, t.2),
    )

-- what was lost before and is judged is marked already
pub lost_before : (b : Board) (d : Colour) (s : ℕ) (judged taken : List Bool) → AreJudged b d judged taken → IsMarked judged s
    → Marks taken (λ q. IsMarked taken q ⊎ IsLost b d s q)
lost_before b d s judged taken before on q = (
  λ m. inl m,
  λ h. elim h as (λ _. IsMarked taken q) [ inl o ↦ o | inr l ↦ before s q on l ],
)

-- the chain of one more stone is judged: all of its stones have a liberty, or all of them are taken
pub judged_chain : (b : Board) (d : Colour) (s : ℕ) (chain judged now taken new : List Bool) → AreJudged b d judged taken
    → Marks chain (InChain b d s) → Marks now (λ q. IsMarked judged q ⊎ IsMarked chain q)
    → ((q : ℕ) → IsMarked taken q → IsMarked new q) → (¬ HasLiberty b d s → (q : ℕ) → IsMarked chain q → IsMarked new q)
    → AreJudged b d now new
judged_chain b d s chain judged now taken new before isc isn kept lost t q m l = elim ((isn t).0 m) as (λ _. IsMarked new q) [
  | inl old ↦ kept q (before t q old l)
  | inr k ↦
      let j = (isc t).0 k in
      lost (λ free. l.1 (same_liberty b d t s (joined_back b.columns (HasStone b d) s t j) free)) q
      ((isc q).1 (joined_join b.columns (HasStone b d) s t q j l.2))
]

module _ (g : Board) (p : ℕ) (c : Colour) where
  abbrev b : Board
  b = with_stone g p c

  -- what the chain of each point of a list adds
  abbrev pub Loses : List ℕ → ℕ → ℕ → Type 0
  Loses points i = IsLost b (other c) (get_or points i 0)

  -- what is lost next to the new stone is taken
  pub taken_all : (area n : ℕ) (points : List ℕ) (taken : List Bool) → Marks taken (Noted (Loses points) n) → n ≤ length points
      → length points ≤ n → length b.cells ≡ area → AreAround b.columns area p points → Marks taken (IsTaken g p c)
  taken_all area n points taken is most all long around q = (
    λ m.
        let (i, lt, lost) = (is q).0 m in
        let near = (around (get_or points i 0)).0 (Contains-get_or points i 0 (omega (arith, lt, most))) in
        takes g p c (get_or points i 0) q near.1 lost.2 lost.1,
    λ (r, next, walk, bound).
        let long' : length b.cells ≡ length g.cells = length-set g.cells p (stone c) in
        let chain = chain_to g b.cells long' (other c) r q walk in
        let own = joined_start b.columns (HasStone b (other c)) r q chain in
        let (i, lt, e) = (around r).1 (rw long at own.0, next.1) in
        let choked = λ (liberty : HasLiberty b (other c) r). bound (breathes_from g b.cells long' (other c) r liberty) in
        (is q).1 (i, omega (arith, lt, all), subst (λ x. IsLost b (other c) x q) (sym (get_or_default points i 0 r lt ∙ e)) (own, choked, chain)),
  )

  -- the empty points and those of taken stones are on the board
  pub free_inside : (area : ℕ) (empty taken free : List Bool) → area ≡ length g.cells → Marks empty (IsEmpty b) → Marks taken (IsTaken g p c)
      → Marks free (λ q. IsMarked empty q ⊎ IsMarked taken q) → (q : ℕ) → IsMarked free q → q < area
  free_inside area empty taken free same ise ist isf q m = elim ((isf q).0 m) as (λ _. q < area) [
    | inl e ↦ omega (arith, ((ise q).0 e).0, same, length-set g.cells p (stone c))
    | inr t ↦ omega (arith, (taken_stone g p c q ((ist q).0 t)).0, same, length-set g.cells p (stone c))
  ]

  module _ (cells : List Cell) (cleared : IsCleared g p c cells) where
    abbrev h : Board
    h = record g { cells = cells }

    -- the new stone's colour and the empty points without the taken stones
    own_without : (q : ℕ) → HasStone b c q ↔ HasStone h c q
    own_without q = (
      λ s. (rw cleared.long s.0, cleared.kept q (λ t. not_other c (sym s.1 ∙ (taken_stone g p c q t).1)) ∙ s.1),
      λ s. elim (same_or_not (cell_at b q) (stone c)) as (λ _. HasStone b c q) [
        | inl e ↦ (rw cleared.long at s.0, e)
        | inr ne ↦ absurd (ne (sym (cleared.kept q (λ t. empty_not_stone c (sym (cleared.gone q t) ∙ s.1))) ∙ s.1))
      ],
    )

    empty_without : (taken : List Bool) → Marks taken (IsTaken g p c) → (q : ℕ) → (IsEmpty b q ⊎ IsMarked taken q) ↔ IsEmpty h q
    empty_without taken is q = (
      λ s. elim s as (λ _. IsEmpty h q) [
        | inl e ↦ (rw cleared.long e.0, cleared.kept q (λ t. empty_not_stone (other c) (sym e.1 ∙ (taken_stone g p c q t).1)) ∙ e.1)
        | inr m ↦ let t = (is q).0 m in (rw cleared.long (taken_stone g p c q t).0, cleared.gone q t)
      ],
      λ e. elim (cases_Bool (get_or taken q false)) as (λ _. IsEmpty b q ⊎ IsMarked taken q) [
        | inl on ↦ inr on
        | inr off ↦ inl (rw cleared.long at e.0, sym (cleared.kept q (λ t. both_ways _ off ((is q).1 t))) ∙ e.1)
      ],
    )

    pub stands_by : (own empty taken free : List Bool) → Marks own (HasStone b c) → Marks empty (IsEmpty b) → Marks taken (IsTaken g p c)
        → Marks free (λ q. IsMarked empty q ⊎ IsMarked taken q)
        → ((q : ℕ) × Joined g.columns (IsMarked own) p q × Touches g.columns free q) ↔ Breathes g cells c p
    stands_by own empty taken free iso ise ist isf = (
      λ t. breathes_from g cells long c p (by.0 t),
      λ f. by.1 (breathes_to g cells long c p f),
    )
      where
        long : length cells ≡ length g.cells
        long = cleared.long ∙ length-set g.cells p (stone c)

        by : ((q : ℕ) × Joined g.columns (IsMarked own) p q × Touches g.columns free q) ↔ HasLiberty h c p
        by = liberty_marks h c p own free
            (λ q. (λ m. (own_without q).0 ((iso q).0 m), λ s. (iso q).1 ((own_without q).1 s)))
            (λ q. (
              λ m. (empty_without taken ist q).0 (elim ((isf q).0 m) as (λ _. IsEmpty b q ⊎ IsMarked taken q) [
                | inl a ↦ inl ((ise q).0 a)
                | inr t ↦ inr t
              ]),
              λ e. (isf q).1 (elim ((empty_without taken ist q).1 e) as (λ _. IsMarked empty q ⊎ IsMarked taken q) [
                | inl a ↦ inl ((ise q).1 a)
                | inr t ↦ inr t
              ]),
            ))

-- a refusal leaves the board as it was
pub refused : (g : Board) (p : ℕ) (c : Colour) (e : PlaceError) → Judges g p c (Err e) → PlacesStone g p c g (Err e)
refused g p c Occupied j = (refl, j)
refused g p c Suicide j = (refl, j.0, j.1)
