-- The lines of chains in the text of `safe`: alive or open, and an attack on each that is open.
use Rattle.std.specs.Prelude.{◌≡◌, ◌↔◌, ◌++◌, ◌≤◌, ℕ, List, [], Bool, true, false, length, codes, decimal, flat_map}
use Rattle.go_grid.specs.declared.grid.Colour.{Colour}
use Rattle.go_grid.specs.Chain.{InChain}
use Rattle.go_grid.specs.Board.{Board, HasStone}
use Rattle.benson_attack.specs.Attack.{IsAttack}
use Rattle.benson_life.specs.Held.{HasPoints}
use Rattle.benson_life.specs.Life.{IsAlive}
use Rattle.report.specs.declared.chains.ChainLine.{ChainLine}
use Rattle.go_grid.specs.Name.{point_name}
use Rattle.board_words.specs.Words.{colour_word}
use Rattle.report.specs.Listing.{ListsBelow}

-- the stone is the lowest of its chain
abbrev pub IsLowestStone : Board → Colour → ℕ → Type 0
IsLowestStone g c s = HasStone g c s × ((q : ℕ) → InChain g c s q → s ≤ q)

-- what is said of a chain by its lowest stone: how many stones it has, and whether it is alive, with an attack where it isn't
pub record IsChainLine (g : Board) (l : ChainLine) : Type 0 where
  pub lowest : IsLowestStone g l.colour l.lowest
  pub stones : HasPoints (InChain g l.colour l.lowest) l.stones
  pub alive : (l.alive ≡ true) ↔ IsAlive g l.colour l.lowest
  pub attack : l.alive ≡ false → IsAttack g l.colour l.lowest l.attack.items

-- a line for each chain whose lowest stone is below `n`, by its lowest stone
abbrev pub AreChainsBelow : Board → ℕ → List ChainLine → Type 0
AreChainsBelow g n ls = ListsBelow ChainLine (λ l. l.lowest) (IsChainLine g) (λ p. (c : Colour) × IsLowestStone g c p) n ls

-- a line for each chain, by its lowest stone
abbrev pub AreChainLines : Board → List ChainLine → Type 0
AreChainLines g ls = AreChainsBelow g (length g.cells) ls

-- the word for whether a chain is alive
abbrev pub life_word : Bool → List ℕ
life_word true = codes "alive"
life_word false = codes "open"

-- the line of a chain: its lowest stone, its colour, how many stones it has, and whether it is alive
unfoldable pub chain_line : ℕ → ChainLine → List ℕ
chain_line columns l = codes "chain " ++ (point_name columns l.lowest ++ (codes " " ++ (colour_word l.colour ++ (codes " stones " ++ (decimal l.stones ++ (codes " " ++ (life_word l.alive ++ codes "\n")))))))

-- a point's name, behind a space
unfoldable pub placing : ℕ → ℕ → List ℕ
placing columns p = codes " " ++ point_name columns p

-- the line of an attack: its placings in order
unfoldable pub attack_line : ℕ → List ℕ → List ℕ
attack_line columns placings = codes "attack" ++ (flat_map (placing columns) placings ++ codes "\n")

-- the line of an attack on a chain that isn't alive, and nothing for one that is
abbrev pub attack_of : ℕ → ChainLine → Bool → List ℕ
attack_of columns l true = []
attack_of columns l false = attack_line columns l.attack.items

-- the line of a chain, and behind it, where the chain is open, the line of an attack
abbrev pub chain_lines : ℕ → ChainLine → List ℕ
chain_lines columns l = chain_line columns l ++ attack_of columns l l.alive
