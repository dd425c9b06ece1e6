-- The lines of chains, and the attacks on those that are open.
use Rattle.std.proofs.Common.{◌≡◌, ◌≢◌, ℕ, ◌<◌, ◌≤◌, inl, inr, sym, ◌∙◌, arith, subst, suc, zero, List, length, get_or, true, false, ◌↔◌, [], ◌∷◌}
use Rattle.std.proofs.lemmas.Bool.{both_ways}
use Rattle.std.proofs.lemmas.List.{length-set}
use Rattle.std.proofs.lemmas.List.Elements.{Contains-get_or}
use Rattle.go_grid.specs.declared.grid.Cell.TheVariants as cell
use Rattle.go_grid.specs.declared.grid.Colour.{Colour}
use Rattle.go_grid.specs.declared.grid.Colour.TheVariants.{Black, White}
use Rattle.go_grid.specs.Chain.{InChain}
use Rattle.go_grid.specs.Board.{Board, HasStone, IsEmpty, stone, other}
use Rattle.go_grid.specs.Marks.{Lists}
use Rattle.go_grid.proofs.BoardLemmas.{one_colour, empty_not_stone}
use Rattle.go_grid.proofs.WalkLemmas.{joined_here}
use Rattle.go_play.specs.Place.{Placings}
use Rattle.benson_attack.specs.Attack.{IsAttack}
use Rattle.benson_life.specs.Life.{IsAlive}
use Rattle.report.specs.declared.chains.ChainLine.{ChainLine}
use Rattle.report.specs.Chains.{AreChainLines, IsChainLine, IsLowestStone}
use Rattle.report.specs.inner.Chains.{IsAttackIfAny}
use Rattle.report.proofs.SafetyLaws.{first_least, has_first, is_first}

-- no chain has its lowest stone where no stone is, or where another stone of the chain is lower
pub no_chain_at : (g : Board) (p : ℕ) → IsEmpty g p → ¬ ((c : Colour) × IsLowestStone g c p)
no_chain_at g p e (c, w) = empty_not_stone c (sym e.1 ∙ w.0.1)

pub no_chain_from : (g : Board) (c : Colour) (p : ℕ) (points : List ℕ) → HasStone g c p → Lists points (InChain g c p) → get_or points 0 0 ≢ p
    → ¬ ((d : Colour) × IsLowestStone g d p)
no_chain_from g c p points h lists other (d, w) =
    let e = one_colour g d c p w.0 h in
    let least = subst (λ x. (q : ℕ) → InChain g x p q → p ≤ q) e w.1 in
    other (is_first points p lists.ascending ((lists.exact p).1 (joined_here g.columns (HasStone g c) p h)) (λ q i. least q ((lists.exact q).0 i)))

pub chain_has_first : (g : Board) (c : Colour) (p : ℕ) (points : List ℕ) → HasStone g c p → Lists points (InChain g c p) → 0 < length points
chain_has_first g c p points h lists = has_first points p ((lists.exact p).1 (joined_here g.columns (HasStone g c) p h))

pub chain_line_is : (g : Board) (points : List ℕ) (l : ChainLine) → HasStone g l.colour l.lowest → Lists points (InChain g l.colour l.lowest)
    → get_or points 0 0 ≡ l.lowest → length points ≡ l.stones → IsAttackIfAny g l.colour l.lowest l.attack.items
    → (l.alive ≡ true) ↔ (l.attack.items ≡ []) → IsChainLine g l
chain_line_is g points l h lists first long attack none = record {
  lowest = (h, λ q i. subst (λ x. x ≤ q) first (first_least points q lists.ascending ((lists.exact q).1 i)));
  stones = (points, lists, long);
  alive = elim attack as (λ _. (l.alive ≡ true) ↔ IsAlive g l.colour l.lowest) [
    | inl a ↦ (λ _. a.0, λ _. none.1 a.1)
    | inr a ↦ (λ t. absurd (a.1.some (none.0 t)), λ alive. absurd (a.0 alive))
  ];
  attack = λ open'. elim attack as (λ _. IsAttack g l.colour l.lowest l.attack.items) [
    | inl a ↦ absurd (both_ways l.alive open' (none.1 a.1))
    | inr a ↦ a.1
  ];
}

-- the lines name points of the board
pub chains_on_board : (g : Board) (ls : List ChainLine) → AreChainLines g ls → (k : ℕ) (d : ChainLine) → k < length ls → (get_or ls k d).lowest < length g.cells
chains_on_board g ls are k d lt = (are.each (get_or ls k d) (Contains-get_or ls k d lt)).1

-- so do the attacks
placings_on_board : (d : Colour) (g : Board) (ps : List ℕ) (h : Board) → Placings d g ps h → (k e : ℕ) → k < length ps → get_or ps k e < length g.cells
placings_on_board d g [] h run k e lt = absurd (omega (arith, lt))
placings_on_board d g (p ∷ ps) h (outside, (m, placed, run)) zero e lt = placed.1.place
placings_on_board d g (p ∷ ps) h (outside, (m, placed, run)) (suc k) e lt =
    subst (λ n. get_or ps k e < n) (placed.1.without.long ∙ length-set g.cells p (stone d)) (placings_on_board d m ps h run k e (omega (arith, lt)))

pub attacks_on_board : (g : Board) (ls : List ChainLine) → AreChainLines g ls → (k : ℕ) (d : ChainLine) → k < length ls
    → (get_or ls k d).alive ≡ false → (i e : ℕ) → i < length (get_or ls k d).attack.items → get_or (get_or ls k d).attack.items i e < length g.cells
attacks_on_board g ls are k d lt open' i e within =
    let l = get_or ls k d in
    let a = (are.each l (Contains-get_or ls k d lt)).0.attack open' in
    placings_on_board (other l.colour) g l.attack.items a.left a.legal i e within
