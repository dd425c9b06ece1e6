-- Attacks on a stone of either colour, and why no stone that lives without answers has one.
use Rattle.std.proofs.Common.{◌≡◌, ◌∙◌, ℕ, List, Result, IfOk, ap, refl, subst}
use Rattle.std.proofs.lemmas.Result.{IfOk-weaker}
use Rattle.go_grid.specs.declared.grid.Colour.{Colour}
use Rattle.go_grid.specs.declared.grid.Colour.TheVariants as colour
use Rattle.go_grid.specs.Chain.{IsSettled}
use Rattle.go_grid.specs.Board.{Board, HasStone, other}
use Rattle.go_grid.proofs.BoardLemmas.{one_colour}
use Rattle.go_play.specs.Place.{Placings}
use Rattle.benson_life.specs.Life.{IsAlive}
use Rattle.benson_life.proofs.StandLemmas.{healthy_stands}
use Rattle.benson_attack.specs.Attack.{IsAttack}
use Rattle.benson_attack.specs.inner.Attack.{Takes}

pub twice : (c : Colour) → other (other c) ≡ c
twice colour.Black = refl
twice colour.White = refl

attack_of : (g : Board) (c : Colour) (s : ℕ) (ps : List ℕ) → HasStone g c s → Takes g (other c) s ps → IsAttack g c s ps
attack_of g c s ps at t =
    let gone : ¬ HasStone t.0 c s = subst (λ x. ¬ HasStone t.0 x s) (twice c) t.3 in record {
      short = t.2;
      some = λ e. gone (subst (λ x. HasStone x c s) (subst (λ x. Placings (other c) g x t.0) e t.1) at);
      left = t.0;
      legal = t.1;
      gone = gone;
    }

attack_on : (g : Board) (c d : Colour) (s : ℕ) (ps : List ℕ) → d ≡ other c → HasStone g c s → Takes g d s ps
    → (b : Colour) → HasStone g b s → IsAttack g b s ps
attack_on g c d s ps e at t b there =
    subst (λ x. IsAttack g x s ps) (one_colour g c b s at there)
    (attack_of g c s ps at (subst (λ x. Takes g x s ps) e t))

not_alive : (g : Board) (c d : Colour) (s : ℕ) (ps : List ℕ) → IsSettled g → d ≡ other c → HasStone g c s → Takes g d s ps
    → (b : Colour) → ¬ IsAlive g b s
not_alive g c d s ps settled e at t b alive =
    let there = alive.1.stones s alive.2 in
    let a = attack_on g c d s ps e at t b there in
    a.gone (healthy_stands g b alive.0 settled alive.1 s alive.2 ps a.left a.legal)

-- what an answer to the stone of one colour says of either colour
module _ (g : Board) (j c d : Colour) (s : ℕ) (same : j ≡ c) (there : HasStone g j s) (e : d ≡ other c) where
  at : HasStone g c s
  at = subst (λ k. HasStone g k s) same there

  pub attacks : {T E : Type 0} (result : Result T E) (items : T → List ℕ) → IfOk result (λ v. Takes g d s (items v))
      → IfOk result (λ v. (b : Colour) → HasStone g b s → IsAttack g b s (items v))
  attacks result items taken = IfOk-weaker result (λ v. Takes g d s (items v)) (λ v. (b : Colour) → HasStone g b s → IsAttack g b s (items v))
      (λ v t. attack_on g c d s (items v) e at t) taken

  pub opens : {T E : Type 0} (result : Result T E) (items : T → List ℕ) → IsSettled g → IfOk result (λ v. Takes g d s (items v))
      → IfOk result (λ _. (b : Colour) → ¬ IsAlive g b s)
  opens result items settled taken = IfOk-weaker result (λ v. Takes g d s (items v)) (λ _. (b : Colour) → ¬ IsAlive g b s)
      (λ v t. not_alive g c d s (items v) settled e at t) taken

  pub lives : IsAlive g (other d) s → (b : Colour) → HasStone g b s → IsAlive g b s
  lives alive b here = subst (λ x. IsAlive g x s) (ap other e ∙ twice c ∙ one_colour g c b s at here) alive
