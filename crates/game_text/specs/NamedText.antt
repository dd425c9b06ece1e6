-- The named text of a tree: small games by their usual names (Siegel), all others as `{`, `|` and `}` with named texts.
use Rattle.std.specs.Prelude.{ℕ, zero, suc, Bool, false, cond, nat_lt, max, ◌&&◌, ℤ, pos, negsuc, neg_ℤ, List, [], ◌∷◌, ◌++◌, Option, Some, None}
use Rattle.std.specs.List.{flat_map}
use Rattle.short_games.specs.Tree.{Tree, Trees, node, none, more, left}
use Rattle.short_games.specs.Number.{num}
use Rattle.short_games.specs.NumberText.{same, Fraction, guess, digits, fraction_text, number_text}
use Rattle.short_games.specs.Text.{open_brace, bar, close_brace, comma}
use Rattle.short_games.specs.TextOrder.{lesser_text, sorted}
use Rattle.short_games.specs.Examples.{choice}

-- the nimbers of the numbers below n
unfoldable pub nimbers_below : ℕ → Trees
nimbers_below zero = none
nimbers_below (suc n) = more (node (sorted (nimbers_below n)) (sorted (nimbers_below n))) (nimbers_below n)

-- the nimber of n, where both players move to the nimbers of the numbers below n; that of 0 is the number 0
abbrev pub nimber : ℕ → Tree
nimber n = node (sorted (nimbers_below n)) (sorted (nimbers_below n))

-- up, where Left moves to 0 and Right to the nimber of 1
abbrev pub up : Tree
up = choice (nimber 0) (nimber 1)

-- down, the negative of up: Left moves to the nimber of 1 and Right to 0
abbrev pub down : Tree
down = choice (nimber 1) (nimber 0)

-- the switch in which Left moves to x and Right to -x
abbrev pub switch : Fraction → Tree
switch x = choice (num x.exponent x.numerator) (num x.exponent (neg_ℤ x.numerator))

-- how many trees a list has
abbrev pub count : Trees → ℕ
count none = 0
count (more G Gs) = suc (count Gs)

-- of which number a tree is the nimber: there are as many options on each side
abbrev pub nimber_of : Tree → Option ℕ
nimber_of G = cond (same (nimber (count (left G))) G) (Some (count (left G))) None

-- whether a number is above 0
abbrev pub is_positive : ℤ → Bool
is_positive (pos n) = nat_lt 0 n
is_positive (negsuc n) = false

-- the first tree of a list, and one without options where there is none
abbrev pub first_of : Trees → Tree
first_of none = node none none
first_of (more G Gs) = G

-- of which number above 0 a tree is the switch
abbrev pub switch_of : Tree → Option Fraction
switch_of G = let x : Fraction = guess (first_of (left G)) in cond (is_positive x.numerator && same (switch x) G) (Some x) None

-- the name of a nimber other than 0: `*`, and from 2 on the number behind it
abbrev pub nimber_name : ℕ → List ℕ
nimber_name n = 42 ∷ cond (nat_lt n 2) [] (digits n [])

-- the name of a nimber, where there is one
abbrev pub nimber_text : Option ℕ → Option (List ℕ)
nimber_text (Some n) = Some (nimber_name n)
nimber_text None = None

-- the name of a switch, where there is one: `+-` and the number
abbrev pub switch_text : Option Fraction → Option (List ℕ)
switch_text (Some x) = Some (43 ∷ 45 ∷ fraction_text x)
switch_text None = None

-- the text, where the condition holds
abbrev pub text_where : Bool → List ℕ → Option (List ℕ)
text_where b t = cond b (Some t) None

-- the first of two texts, and where it is absent the second
abbrev pub first_text : Option (List ℕ) → Option (List ℕ) → Option (List ℕ)
first_text (Some t) o = Some t
first_text None o = o

-- the name of a tree: the text of a number, or the name of a nimber, `^` for up, `v` for down, or the name of a switch
unfoldable pub name : Tree → Option (List ℕ)
name G = first_text (number_text G) (first_text (nimber_text (nimber_of G)) (first_text (text_where (same up G) (94 ∷ [])) (first_text (text_where (same down G) (118 ∷ [])) (switch_text (switch_of G)))))

-- a text in an ascending list, where it isn't in it already
unfoldable pub insert_text : List ℕ → List (List ℕ) → List (List ℕ)
insert_text t [] = t ∷ []
insert_text t (u ∷ us) = cond (lesser_text t u) (t ∷ u ∷ us) (cond (lesser_text u t) (u ∷ insert_text t us) (u ∷ us))

-- texts with commas between them
abbrev pub joined : List (List ℕ) → List ℕ
joined [] = []
joined (t ∷ ts) = t ++ flat_map (λ u. comma ∷ u) ts

-- the texts of two sides in braces
abbrev pub in_braces : List (List ℕ) → List (List ℕ) → List ℕ
in_braces ls rs = open_brace ∷ (joined ls ++ (bar ∷ (joined rs ++ (close_brace ∷ []))))

-- the name, and where there is none the text with braces
abbrev pub name_or : Option (List ℕ) → List ℕ → List ℕ
name_or (Some t) braces = t
name_or None braces = braces

unfoldable mutual
  -- the named text of a tree: its name, where it has one, and else the named texts of its options in braces, in the order of
  -- their bytes
  pub named_text : Tree → List ℕ
  named_text (node ls rs) = name_or (name (node ls rs)) (in_braces (named_texts ls) (named_texts rs))

  -- the named texts of the trees of a list, each once, in the order of their bytes
  pub named_texts : Trees → List (List ℕ)
  named_texts none = []
  named_texts (more G Gs) = insert_text (named_text G) (named_texts Gs)

-- how deep braces nest: 0 where the text is a name
abbrev pub named_depth_or : Option (List ℕ) → ℕ → ℕ
named_depth_or (Some t) braces = 0
named_depth_or None braces = braces

unfoldable mutual
  -- how deep the braces of a tree's named text nest: 0 for a name, else one more than the greatest depth of an option
  pub named_depth : Tree → ℕ
  named_depth (node ls rs) = named_depth_or (name (node ls rs)) (suc (max (named_depths ls) (named_depths rs)))

  -- the greatest named depth of the trees of a list, 0 where there is none
  pub named_depths : Trees → ℕ
  named_depths none = 0
  named_depths (more G Gs) = max (named_depth G) (named_depths Gs)
