-- A line of an attack, where there is one.
use Rattle.std.specs.Prelude.{◌≡◌, ◌⊎◌, ℕ, List, []}
use Rattle.go_grid.specs.declared.grid.Colour.{Colour}
use Rattle.go_grid.specs.Board.{Board}
use Rattle.benson_attack.specs.Attack.{IsAttack}
use Rattle.benson_life.specs.Life.{IsAlive}

-- placings that take the stone, or none where it is alive
abbrev pub IsAttackIfAny : Board → Colour → ℕ → List ℕ → Type 0
IsAttackIfAny g c s placings = (IsAlive g c s × (placings ≡ [])) ⊎ ((¬ IsAlive g c s) × IsAttack g c s placings)
