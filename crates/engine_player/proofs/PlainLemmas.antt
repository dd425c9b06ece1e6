-- The engine's move in a game whose regions have no cycles.
use Rattle.std.proofs.Common.{inl, inr, refl, Option, Some, None, IfSome, MatchOption}
use Rattle.whole_rules.specs.WholeGame.{Whole, IsLegal}
use Rattle.whole_rules.specs.declared.states.Move.{Move}
use Rattle.endgame_solver.specs.Solved.{Chooses, HasMove}
use Rattle.engine_player.specs.Played.{EnginePlays, Played}
use Rattle.engine_player.specs.EngineGame.{IsEngineMove}

-- a chosen move is legal
pub chosen_legal : (s : Whole) (m : Move) → Chooses s m → IsLegal s m
chosen_legal s m (inl first) = (first.0.0, first.0.1)
chosen_legal s m (inr none) = none.1.0

-- it is the engine's
pub plain_choice : (s : Whole) (r : Option Move) → MatchOption r (¬ HasMove s) (λ m. Chooses s m)
    → MatchOption r (¬ HasMove s) (λ m. IsEngineMove (record { state = s; keeping = None }) m)
plain_choice s None h = h
plain_choice s (Some m) h = let (t, moved) = chosen_legal s m h in (record { state = t; keeping = None }, (h, moved, refl))

pub plain_legal : (s : Whole) (r : Option Move) → MatchOption r (¬ HasMove s) (λ m. Chooses s m) → IfSome r (λ m. IsLegal s m)
plain_legal s None h = tt
plain_legal s (Some m) h = chosen_legal s m h

-- and so is that of a game with kos
pub cycle_choice : (p : Played) (r : Option Move) → MatchOption r (¬ HasMove p.state) (λ m. (after : Played) × EnginePlays p m after)
    → MatchOption r (¬ HasMove p.state) (λ m. IsEngineMove (record { state = p.state; keeping = Some p.keeping }) m)
cycle_choice p None h = h
cycle_choice p (Some m) (after, goes) = (record { state = after.state; keeping = Some after.keeping }, (after.keeping, goes, refl))
