-- Both sides of a game said once.
use Rattle.std.specs.Prelude.{ℕ, ◌+◌, ◌≡◌, ◌<◌, ◌≤◌, ◌⊎◌, List, ◌++◌, length, take, drop}
use Rattle.std.specs.List.{slice_index_or}
use Rattle.short_games.specs.Tree.{Tree, Trees, left, right, Has, sizes, tree_at}
use Rattle.short_games.specs.Number.{IsNumberTree}
use Rattle.short_games.specs.Order.{◌≤ᵍ◌, ◌≡ᵍ◌}
use Rattle.short_games.specs.Parts.{IsOption, IsPart}
use Rattle.game_store.specs.Meaning.{form, pick, listed, AreIds, IsAscending}
use Rattle.game_canon.specs.declared.side.Side.{Side}
use Rattle.game_canon.specs.declared.side.Side.TheVariants.{Left, Right}

-- the options of the side
abbrev pub near : Side → Tree → Trees
near Left G = left G
near Right G = right G

-- the options of the other side
abbrev pub far : Side → Tree → Trees
far Left G = right G
far Right G = left G

-- H is at least as good as G for the side
abbrev pub Covers : Side → Tree → Tree → Type 0
Covers Left G H = G ≤ᵍ H
Covers Right G H = H ≤ᵍ G

-- a form by the options of the side and of the other
abbrev pub with_near : Side → List Tree → List ℕ → List ℕ → Tree
with_near Left Ts near far = listed Ts near far
with_near Right Ts near far = listed Ts far near

-- of the lists of the Left and of the Right options, that of the side
abbrev pub near_list : Side → List ℕ → List ℕ → List ℕ
near_list Left ls rs = ls
near_list Right ls rs = rs

-- of the lists of the Left and of the Right options, that of the other side
abbrev pub far_list : Side → List ℕ → List ℕ → List ℕ
far_list Left ls rs = rs
far_list Right ls rs = ls

-- no tree of the list is covered by another
abbrev pub AreFree : Side → Trees → Type 0
AreFree s Gs = (A B : Tree) → Has Gs A → Has Gs B → Covers s A B → A ≡ B

-- the ids of the first list but for those whose games the game of `top` covers
pub record IsWithout (s : Side) (Ts : List Tree) (is : List ℕ) (top : ℕ) (vs : List ℕ) : Type 0 where
  pub ids : AreIds Ts vs
  pub among : (X : Tree) → Has (pick Ts vs) X → Has (pick Ts is) X × (Covers s X (tree_at Ts top) → ⊥)
  pub rest : (X : Tree) → Has (pick Ts is) X → Covers s X (tree_at Ts top) ⊎ Has (pick Ts vs) X
  pub smaller : sizes (pick Ts vs) ≤ sizes (pick Ts is)

-- the ids of the first list but for those whose games a game of the others covers
pub record IsUncovered (s : Side) (Ts : List Tree) (is os vs : List ℕ) : Type 0 where
  pub ids : AreIds Ts vs
  pub among : (X : Tree) → Has (pick Ts vs) X → Has (pick Ts is) X × ((Y : Tree) → Has (pick Ts os) Y → Covers s X Y → ⊥)
  pub rest : (X : Tree) → Has (pick Ts is) X → ((Y : Tree) × Has (pick Ts os) Y × Covers s X Y) ⊎ Has (pick Ts vs) X
  pub smaller : sizes (pick Ts vs) ≤ sizes (pick Ts is)

-- the best of a list of ids: none of them covers another, and each id of the list is covered by one of them
pub record AreBest (s : Side) (Ts : List Tree) (is bs : List ℕ) : Type 0 where
  pub ids : AreIds Ts bs
  pub among : (X : Tree) → Has (pick Ts bs) X → Has (pick Ts is) X
  pub covers : (X : Tree) → Has (pick Ts is) X → (Y : Tree) × Has (pick Ts bs) Y × Covers s X Y
  pub free : AreFree s (pick Ts bs)
  pub smaller : sizes (pick Ts bs) ≤ sizes (pick Ts is)

-- an answer of the other side to a move of this side, after which this side has nothing that it hasn't in G
pub record IsReversal (s : Side) (Ts : List Tree) (G : Tree) (id answer : ℕ) : Type 0 where
  pub below : answer < length Ts
  pub option : Has (far s (tree_at Ts id)) (tree_at Ts answer)
  pub covered : Covers s (tree_at Ts answer) G

-- the other side has no answer to the move to X after which this side has nothing that it hasn't in G
abbrev pub IsIrreversible : Side → Tree → Tree → Type 0
IsIrreversible s G X = (A : Tree) → Has (far s X) A → Covers s A G → ⊥

-- but for moves to numbers, no listed move has an answer after which this side has nothing that it hasn't in G
abbrev pub IsDone : Side → List Tree → Tree → List ℕ → Type 0
IsDone s Ts G is = (j : ℕ) → j < length is → IsNumberTree (tree_at Ts (slice_index_or is j 0)) ⊎ IsIrreversible s G (tree_at Ts (slice_index_or is j 0))

-- X is an option of G, or an option of a part of one
abbrev pub Comes : Tree → Tree → Type 0
Comes G X = (L : Tree) × IsOption G L × ((X ≡ L) ⊎ ((Q : Tree) × IsPart L Q × IsOption Q X))

-- X is an option of a form with options to which there is a move from one of the ids
abbrev pub IsFurther : List Tree → List ℕ → Tree → Type 0
IsFurther Ts is X = (Y : Tree) × Has (pick Ts is) Y × ((A : Tree) × IsOption Y A × (IsNumberTree A → ⊥) × IsOption A X)

-- the ids with one of them replaced by the options of the answer, or by nothing where the answer is a number's tree
pub record IsReplaced (s : Side) (Ts : List Tree) (is : List ℕ) (place answer : ℕ) (vs : List ℕ) : Type 0 where
  pub ids : AreIds Ts vs
  pub kept : (X : Tree) → Has (pick Ts is) X → (X ≡ tree_at Ts (slice_index_or is place 0)) ⊎ Has (pick Ts vs) X
  pub added : IsNumberTree (tree_at Ts answer) ⊎ ((X : Tree) → Has (near s (tree_at Ts answer)) X → Has (pick Ts vs) X)
  pub from : (X : Tree) → Has (pick Ts vs) X → Has (pick Ts is) X ⊎ ((IsNumberTree (tree_at Ts answer) → ⊥) × Has (near s (tree_at Ts answer)) X)
  pub smaller : Has (far s (tree_at Ts (slice_index_or is place 0))) (tree_at Ts answer) → sizes (pick Ts vs) < sizes (pick Ts is)

-- the ids but for that at the place, and behind them others
abbrev pub IsRefilled : List ℕ → ℕ → List ℕ → Type 0
IsRefilled is place vs = (more : List ℕ) × (vs ≡ (take place is ++ drop (place + 1) is) ++ more)

-- where an option can be bypassed: in a form equal to G, other options that leave it equal, of fewer nodes and with none
-- dominated
pub record IsSmaller (s : Side) (Ts : List Tree) (G : Tree) (ns vs : List ℕ) : Type 0 where
  pub ids : AreIds Ts vs
  pub ascends : IsAscending vs
  pub same : (fs : List ℕ) → with_near s Ts ns fs ≡ᵍ G → with_near s Ts ns fs ≡ᵍ with_near s Ts vs fs
  pub free : AreFree s (pick Ts vs)
  pub from : (X : Tree) → Has (pick Ts vs) X → Has (pick Ts ns) X ⊎ IsFurther Ts ns X
  pub smaller : sizes (pick Ts vs) < sizes (pick Ts ns)

-- what the reduction starts with: a form of which no option is dominated
pub record IsStart (Ts : List Tree) (ls rs : List ℕ) : Type 0 where
  pub left_ids : AreIds Ts ls
  pub right_ids : AreIds Ts rs
  pub left_ascends : IsAscending ls
  pub right_ascends : IsAscending rs
  pub left_free : AreFree Left (pick Ts ls)
  pub right_free : AreFree Right (pick Ts rs)

-- the reduction of the form with the first two lists of options starts with the other two: each option that stands there is one
-- of its own
pub record StartsWith (Ts : List Tree) (ls rs ms ns : List ℕ) : Type 0 where
  pub start : IsStart Ts ms ns
  pub same : listed Ts ls rs ≡ᵍ form Ts ms ns
  pub among : (X : Tree) → IsOption (form Ts ms ns) X → IsOption (listed Ts ls rs) X

-- a form equal to G, of which no option can be dropped or bypassed
pub record IsReducedForm (Ts : List Tree) (G : Tree) (ms ns : List ℕ) : Type 0 where
  pub left_ids : AreIds Ts ms
  pub right_ids : AreIds Ts ns
  pub left_ascends : IsAscending ms
  pub right_ascends : IsAscending ns
  pub same : G ≡ᵍ listed Ts ms ns
  pub left_free : AreFree Left (pick Ts ms)
  pub right_free : AreFree Right (pick Ts ns)
  pub comes : (X : Tree) → IsOption (listed Ts ms ns) X → Comes G X
  pub left_kept : IsDone Left Ts G ms
  pub right_kept : IsDone Right Ts G ns
