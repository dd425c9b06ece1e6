-- Campaigns: the runs of one colour, one capture after the other.
use Rattle.std.proofs.Common.{◌≡◌, ℕ, ◌<◌, inl, inr, List, [], ◌∷◌, ◌++◌, Bool, true, false, length, sym, subst, arith}
use Rattle.std.specs.List.{Contains}
use Rattle.std.proofs.lemmas.List.Elements.{Contains-push, Contains-push_cases}
use Rattle.std.proofs.lemmas.List.Sums.{count_by-le-length}
use Rattle.go_grid.specs.declared.grid.Colour.{Colour}
use Rattle.go_grid.specs.Board.{Board, HasStone, other}
use Rattle.go_grid.specs.Chain.{IsSettled}
use Rattle.go_grid.specs.Marks.{Marks}
use Rattle.benson_life.specs.Life.{IsAlive}
use Rattle.benson_attack.specs.inner.Attack.{Takes}
use Rattle.benson_attack.specs.declared.captures.Run.{Run}
use Rattle.benson_attack.specs.declared.campaign.Campaign.{Campaign}
use Rattle.benson_attack.specs.Attacks.{AreRuns, IsCampaign}
use Rattle.benson_attack.specs.Reached.{IsAtRest, HasFewPlacings}
use Rattle.benson_attack.specs.inner.Reached.{AllAlive, Captures, Follows}
use Rattle.go_grid.specs.Stones.{is_of}
use Rattle.benson_attack.proofs.RunLemmas.{rest_first}

pub no_runs : (g : Board) (d : Colour) (runs : List Run) → runs ≡ [] → AreRuns g d runs
no_runs g d runs e run at = absurd (omega (arith, subst (λ rs. at.0 < length rs) e at.1))

pub more_runs : (g : Board) (d : Colour) (runs more : List Run) (run : Run) → more ≡ runs ++ run ∷ [] → AreRuns g d runs
    → IsAtRest g d run → HasFewPlacings d run → AreRuns g d more
more_runs g d runs more run e are rest short r at =
    elim (Contains-push_cases runs run r (subst (λ rs. Contains rs r) e at)) as (λ _. IsAtRest g d r × HasFewPlacings d r) [
      | inl in' ↦ are r in'
      | inr k ↦ subst (λ x. IsAtRest g d x × HasFewPlacings d x) k (rest, short)
    ]

pub begun : (g : Board) (d : Colour) (run : Run) → IsSettled g → run.board ≡ g → run.placings.items ≡ [] → IsAtRest g d run × HasFewPlacings d run
begun g d run settled same none = (rest_first g d run settled same none, rw none (omega arith))

pub goes_on : (g : Board) (d : Colour) (run next : Run) → Follows d run next → IsAtRest g d run → HasFewPlacings d run → IsAtRest g d next × HasFewPlacings d next
goes_on g d run next f rest short = (f.goes g rest, f.short short)

pub campaign_is : (g : Board) (d : Colour) (alive : List Bool) (c : Campaign) (runs : List Run) (run : Run) → IsSettled g → Marks alive (IsAlive g (other d))
    → c.by ≡ d → c.runs.items ≡ runs ++ run ∷ [] → AreRuns g d runs → IsAtRest g d run → HasFewPlacings d run → AllAlive d alive run → IsCampaign g c
campaign_is g d alive c runs run settled marks by items are rest short all = record {
  each = subst (λ x. AreRuns g x c.runs.items) (sym by) (more_runs g d runs c.runs.items run items are rest short);
  alive = subst (λ x. (s : ℕ) → HasStone g (other x) s
      → ((r : Run) → Contains c.runs.items r → HasStone r.board (other x) s) → IsAlive g (other x) s) (sym by)
      (λ s at stands. all g settled marks rest s (stands run (subst (λ rs. Contains rs run) (sym items) (Contains-push runs run))));
}

-- a run on whose board the stone is gone takes it
pub run_takes : (g : Board) (d : Colour) (s : ℕ) (run : Run) → IsAtRest g d run → HasFewPlacings d run → (HasStone run.board (other d) s → ⊥)
    → Takes g d s run.placings.items
run_takes g d s run rest short gone = (
  run.board,
  rest.1,
  omega (arith, short, rest.0.long, count_by-le-length (is_of d) run.board.cells),
  gone,
)

-- so does a capture of its chain alone
pub capture_takes : (g : Board) (d : Colour) (s : ℕ) (alone run : Run) (b : Bool) → IsSettled g → alone.board ≡ g → alone.placings.items ≡ []
    → Captures d s alone run b → b ≡ true → Takes g d s run.placings.items
capture_takes g d s alone run true settled same none w e =
    let first = begun g d alone settled same none in run_takes g d s run (w.0.goes g first.0) (w.0.short first.1) w.1
capture_takes g d s alone run false settled same none w e = cc
