-- A code for trees, by which a proof tells two of them apart: the tree in postfix form, as a list of numbers.
use Rattle.std.specs.Prelude.{ℕ, zero, suc, ◌≡◌, refl, List, [], ◌∷◌}
use Rattle.std.specs.Coded.{Coded, code_by, coded_list, coded_ℕ}
use mathlib.Core.Path.{◌∙◌}
use Rattle.short_games.specs.Tree.{Tree, Trees, node, none, more}

abbrev mutual
  -- the tokens of a tree, with others behind them: those of its Left options, those of its Right options, and 2
  postfix : Tree → List ℕ → List ℕ
  postfix (node ls rs) ts = postfix_each ls (postfix_each rs (2 ∷ ts))

  -- the tokens of a list of trees, with others behind them: 0 for the empty list, and 1 behind a tree and those after it
  postfix_each : Trees → List ℕ → List ℕ
  postfix_each none ts = 0 ∷ ts
  postfix_each (more G Gs) ts = postfix G (postfix_each Gs (1 ∷ ts))

-- one token on a stack of lists, where a tree stands as the list of it alone
abbrev step : ℕ → List Trees → List Trees
step zero st = none ∷ st
step (suc zero) (Gs ∷ more G _ ∷ st) = more G Gs ∷ st
step (suc zero) st = st
step (suc (suc _)) (rs ∷ ls ∷ st) = more (node ls rs) none ∷ st
step (suc (suc _)) st = st

-- the stack after a list of tokens
abbrev run : List ℕ → List Trees → List Trees
run [] st = st
run (t ∷ ts) st = run ts (step t st)

mutual
  -- the tokens of a tree put it on the stack
  run-postfix : (G : Tree) (ts : List ℕ) (st : List Trees) → run (postfix G ts) st ≡ run ts (more G none ∷ st)
  run-postfix (node ls rs) ts st = run-postfix_each ls _ st ∙ run-postfix_each rs _ (ls ∷ st)

  -- the tokens of a list of trees put it on the stack
  run-postfix_each : (Gs : Trees) (ts : List ℕ) (st : List Trees) → run (postfix_each Gs ts) st ≡ run ts (Gs ∷ st)
  run-postfix_each none ts st = refl
  run-postfix_each (more G Gs) ts st = run-postfix G _ st ∙ run-postfix_each Gs _ (more G none ∷ st)

-- the tree on top of a stack, and one without options where there is none
abbrev read : List Trees → Tree
read (more G _ ∷ st) = G
read _ = node none none

-- the tokens of a tree
abbrev tokens : Tree → List ℕ
tokens G = postfix G []

-- the tree that tokens make on an empty stack
abbrev tree_of : List ℕ → Tree
tree_of ts = read (run ts [])

-- the tokens of a tree make it again
pub tree_of-tokens : (G : Tree) → tree_of (tokens G) ≡ G
tree_of-tokens G = λ i. read (run-postfix G [] [] i)

-- a code for trees, as contracts want it of what a value holds
abbrev pub tree_code : Coded Tree
tree_code = code_by (List ℕ) (coded_list coded_ℕ) tokens tree_of tree_of-tokens
