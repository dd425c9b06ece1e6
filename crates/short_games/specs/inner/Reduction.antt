-- How a form comes nearer to the canonical one: dominated options go, and reversible ones are bypassed.
use Rattle.std.specs.Prelude.{◌≡◌, ◌⊎◌}
use Rattle.short_games.specs.Tree.{Tree, Trees, left, right, Has}
use Rattle.short_games.specs.Order.{◌≤ᵍ◌}

-- H is G with some Left options fewer, each of them at most one that is left
pub record DropsLeft (G H : Tree) : Type 0 where
  pub from : (X : Tree) → Has (left H) X → Has (left G) X
  pub covered : (X : Tree) → Has (left G) X → (Y : Tree) × Has (left H) Y × (X ≤ᵍ Y)
  pub others : right H ≡ right G

-- H is G with some Right options fewer, each of them at least one that is left
pub record DropsRight (G H : Tree) : Type 0 where
  pub from : (X : Tree) → Has (right H) X → Has (right G) X
  pub covered : (X : Tree) → Has (right G) X → (Y : Tree) × Has (right H) Y × (Y ≤ᵍ X)
  pub others : left H ≡ left G

-- H is G with the Left option L, which R reverses, replaced by Left options that are as good as those of R
pub record BypassesLeft (G H L R : Tree) : Type 0 where
  pub option : Has (left G) L
  pub answer : Has (right L) R
  pub reverses : R ≤ᵍ G
  pub kept : (X : Tree) → Has (left G) X → (X ≡ L) ⊎ Has (left H) X
  pub added : (X : Tree) → Has (left R) X → (Y : Tree) × Has (left H) Y × (X ≤ᵍ Y)
  pub from : (X : Tree) → Has (left H) X → Has (left G) X ⊎ Has (left R) X
  pub others : right H ≡ right G

-- H is G with the Right option R, which L reverses, replaced by Right options that are as good as those of L
pub record BypassesRight (G H R L : Tree) : Type 0 where
  pub option : Has (right G) R
  pub answer : Has (left R) L
  pub reverses : G ≤ᵍ L
  pub kept : (X : Tree) → Has (right G) X → (X ≡ R) ⊎ Has (right H) X
  pub added : (X : Tree) → Has (right L) X → (Y : Tree) × Has (right H) Y × (Y ≤ᵍ X)
  pub from : (X : Tree) → Has (right H) X → Has (right G) X ⊎ Has (right L) X
  pub others : left H ≡ left G

-- no tree of the list is at most another, so that as Left options none of them is dominated
abbrev pub IsFreeLeft : Trees → Type 0
IsFreeLeft Ls = (A B : Tree) → Has Ls A → Has Ls B → A ≤ᵍ B → A ≡ B

-- the Left option L cannot be answered by a move to where Left is no better off
abbrev pub KeepsLeft : Tree → Tree → Type 0
KeepsLeft G L = (R : Tree) → Has (right L) R → R ≤ᵍ G → ⊥

-- the Right option R cannot be answered by a move to where Right is no better off
abbrev pub KeepsRight : Tree → Tree → Type 0
KeepsRight G R = (L : Tree) → Has (left R) L → G ≤ᵍ L → ⊥
