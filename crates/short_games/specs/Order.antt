-- The order of games.
use Rattle.short_games.specs.Tree.{Tree, left, right, Has}

mutual
  -- G is at most H: no Left option of G is at least H, and no Right option of H is at most G
  pub data ◌≤ᵍ◌ : Tree → Tree → Type 0 where
    at_most : {G H : Tree} → ((L : Tree) → Has (left G) L → L ⧏ᵍ H) → ((R : Tree) → Has (right H) R → G ⧏ᵍ R) → G ≤ᵍ H

  -- G is less than H or confused with it, that is, not at least H: some Left option of H is at least G, or some Right option
  -- of G is at most H
  pub data ◌⧏ᵍ◌ : Tree → Tree → Type 0 where
    by_left : {G H : Tree} (L : Tree) → Has (left H) L → G ≤ᵍ L → G ⧏ᵍ H
    by_right : {G H : Tree} (R : Tree) → Has (right G) R → R ≤ᵍ H → G ⧏ᵍ H

infix 40 ◌≤ᵍ◌
infix 40 ◌⧏ᵍ◌
-- G and H are equal as games
abbrev pub ◌≡ᵍ◌ : Tree → Tree → Type 0
G ≡ᵍ H = (G ≤ᵍ H) × (H ≤ᵍ G)

infix 40 ◌≡ᵍ◌
-- no Left option of G is at least H, and no Right option of H is at most G
pub record NoneBeats (G H : Tree) : Type 0 where
  pub from_left : (GL : Tree) → Has (left G) GL → H ≤ᵍ GL → ⊥
  pub from_right : (HR : Tree) → Has (right H) HR → HR ≤ᵍ G → ⊥
