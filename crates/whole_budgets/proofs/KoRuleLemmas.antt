-- Without a capture that returns a player wins under every rule on returns: the same moves win, and none of them is forbidden.
use Rattle.std.proofs.Common.{◌≡◌, ℕ, zero, suc, inl, inr, refl, sym, ◌∙◌, subst, arith, List, ◌∷◌, Contains}
use Rattle.go_grid.specs.declared.grid.Colour.{Colour}
use Rattle.go_grid.specs.Board.{Board, other}
use Rattle.go_grid.specs.Chain.{IsSettled}
use Rattle.go_grid.specs.Region.{Region}
use Rattle.region_cut.specs.Cut.{AreRegionsOfPlay}
use Rattle.whole_rules.specs.declared.states.Move.{Move}
use Rattle.whole_rules.specs.PlainRecursion.{WinsWithin, LosesWithin}
use Rattle.whole_rules.specs.WholeGame.{Whole, IsMove}
use Rattle.whole_rules.proofs.WallLaws.{Keeps, keeps_move, keeps_plays, keeps_start}
use Rattle.whole_budgets.specs.BudgetPlay.{Budgeted, LeadsWithin}
use Rattle.whole_budgets.specs.KoRules.{History, KoRule, Forbids, LeadsUnder, IsRuleOnReturns, beginning}
use Rattle.whole_budgets.specs.KoRuleLaws.{KoRulesAreOnReturns, NoCapturesWinUnderRules}
use Rattle.whole_budgets.proofs.BudgetPlayLemmas.{with, free, theirs, mine, not_mine, turned}
use Rattle.whole_budgets.proofs.QuietLemmas.{IsQuiet, PlaysQuietly, quiet_more, no_return}

module _ (g : Board) (settled : IsSettled g) (regions : List Region) (are : AreRegionsOfPlay g regions) (owner : Colour)
    (rule : KoRule) (on_returns : IsRuleOnReturns regions rule) where
  abbrev Quiet : Whole → Move → Whole → Type 0
  Quiet = IsQuiet g settled regions are owner

  abbrev Quietly : ℕ → Whole → Whole → Type 0
  Quietly = PlaysQuietly g settled regions are owner

  -- from each state of the play quiet moves lead to the present one
  abbrev IsQuietPlay : History → Type 0
  IsQuietPlay p = (u : Whole) → Contains (p.state ∷ p.past) u → Keeps g u × ((n : ℕ) × Quietly n u p.state)

  present : (p : History) → IsQuietPlay p → Keeps g p.state
  present p quiet = (quiet p.state (zero, omega arith, refl)).0

  quiet_play_more : (p q : History) (m : Move) → IsQuietPlay p → IsMove p.state m q.state → Quiet p.state m q.state → q.past ≡ p.state ∷ p.past → IsQuietPlay q
  quiet_play_more p q m quiet move still e u (zero, lt, at) =
      (subst (Keeps g) at (keeps_move g settled p.state q.state m (present p quiet) move), (zero, sym at))
  quiet_play_more p q m quiet move still e u (suc k, lt, at) =
      let (keeps, (n, path)) = quiet u (subst (λ z. Contains z u) e (k, omega (arith, lt), at)) in
      (keeps, (suc n, quiet_more g settled regions are owner n u p.state q.state m path move still))

  -- a quiet move of the owner's isn't forbidden
  allowed : (p : History) (m : Move) (t : Whole) → p.state.side ≡ owner → IsQuietPlay p → IsMove p.state m t → Quiet p.state m t → ¬ Forbids rule p m t
  allowed p m t e quiet move still forbidden = elim (on_returns p m t forbidden) [
    | inl (r, in', returning) ↦ still e r in' returning
    | inr (x, is, (u, among, same)) ↦
        let (keeps, (n, path)) = quiet u among in
        no_return g settled regions are owner n u p.state t x keeps path (subst (λ z. IsMove p.state z t) is move) (subst (λ z. Quiet p.state z t) is still) same
  ]

  -- the owner has no budget
  abbrev HasNone : (Region → ℕ) → Type 0
  HasNone b = (r : Region) → Contains regions r → b r ≡ 0

  mutual
    wins_under : (n : ℕ) (p : History) (b : Region → ℕ) → p.state.side ≡ owner → HasNone b → IsQuietPlay p
        → WinsWithin Budgeted (LeadsWithin regions owner) n (with p.state b) → WinsWithin History (LeadsUnder rule) n p
    wins_under zero p b e none quiet w = absurd w
    wins_under (suc n) p b e none quiet (q, (m, move, inr (f, same)), l) = absurd (f e)
    wins_under (suc n) p b e none quiet (q, (m, move, inl (own, after)), l) =
        let still : Quiet p.state m q.state = λ o r i u. elim (after r i) [
          | inl (v, more) ↦ omega (arith, more, none r i)
          | inr (not, kept) ↦ not u
        ] in
        let none' : HasNone q.budgets = λ r i. elim (after r i) as (λ z. q.budgets r ≡ 0) [
          | inl (v, more) ↦ absurd (omega (arith, more, none r i))
          | inr (not, kept) ↦ sym kept ∙ none r i
        ] in
        let p' : History = record { state = q.state; past = p.state ∷ p.past } in (
          p',
          (m, move, allowed p m q.state e quiet move still, refl),
          loses_under n p' q.budgets (theirs regions owner p.state q.state m e move) none' (quiet_play_more p p' m quiet move still refl) l,
        )

    loses_under : (n : ℕ) (p : History) (b : Region → ℕ) → p.state.side ≡ other owner → HasNone b → IsQuietPlay p
        → LosesWithin Budgeted (LeadsWithin regions owner) n (with p.state b) → LosesWithin History (LeadsUnder rule) n p
    loses_under zero p b e none quiet l = λ q h. l (with q.state b) (free regions owner p.state q.state b e (h.0, h.1))
    loses_under (suc n) p b e none quiet l = λ q h.
        let still : Quiet p.state h.0 q.state = λ o. absurd (not_mine regions owner p.state e o) in
        wins_under n q b (mine regions owner p.state q.state h.0 e h.1) none (quiet_play_more p q h.0 quiet h.1 still h.3)
        (l (with q.state b) (free regions owner p.state q.state b e (h.0, h.1)))

  -- play that begins is quiet
  begun : (s : Whole) → Keeps g s → IsQuietPlay (beginning s)
  begun s keeps u (zero, lt, at) = (subst (Keeps g) at keeps, (zero, sym at))
  begun s keeps u (suc k, lt, at) = absurd (omega (arith, lt))

pub no_captures_win : NoCapturesWinUnderRules
no_captures_win g regions black white komi side tax s t ms settled are opens plays owner wins rule on_returns =
    let keeps = keeps_plays g settled s t ms (keeps_start g black white komi side tax s opens) plays in
    let quiet = begun g settled regions are owner rule on_returns t keeps in
    elim wins [
      | inl (e, (n, w)) ↦ inl (e, (n, wins_under g settled regions are owner rule on_returns n (beginning t) (λ r. 0) (sym e) (λ r i. refl) quiet w))
      | inr (e, (n, l)) ↦ inr (e, (n, loses_under g settled regions are owner rule on_returns n (beginning t) (λ r. 0) (turned owner t e) (λ r i. refl) quiet l))
    ]

pub named_on_returns : KoRulesAreOnReturns
named_on_returns regions rule (inl simple) p m t f =
    let (x, is, (u, rest, before, same)) = (simple p m t).0 f in
    inr (x, is, (u, subst (λ z. Contains (p.state ∷ z) u) (sym before) (1, omega arith, refl), same))
named_on_returns regions rule (inr (inl situational)) p m t f =
    let (x, is, (u, among, turn, same)) = (situational p m t).0 f in
    inr (x, is, (u, among, same))
named_on_returns regions rule (inr (inr positional)) p m t f = inr ((positional p m t).0 f)
