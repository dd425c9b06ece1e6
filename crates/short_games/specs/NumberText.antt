-- Which number a tree is, and the text of a number.
use Rattle.std.specs.Prelude.{ℕ, zero, suc, ◌+◌, ◌-◌, ◌/◌, ◌%◌, ◌^◌, Bool, true, false, ◌&&◌, cond, max, nat_lt, ℤ, pos, negsuc, ◌+ℤ◌, ◌*ℤ◌, Option, Some, None, List, [], ◌∷◌}
use Rattle.short_games.specs.Tree.{Tree, Trees, node, none, more}
use Rattle.short_games.specs.Number.{num}

unfoldable mutual
  -- whether two trees are the same
  pub same : Tree → Tree → Bool
  same (node ls rs) (node ms ns) = same_each ls ms && same_each rs ns

  -- whether two lists have the same trees in the same order
  pub same_each : Trees → Trees → Bool
  same_each none none = true
  same_each none (more H Hs) = false
  same_each (more G Gs) none = false
  same_each (more G Gs) (more H Hs) = same G H && same_each Gs Hs

-- the number numerator / 2 ^ exponent
pub record Fraction : Type 0 where
  pub exponent : ℕ
  pub numerator : ℤ

-- the numerator of a fraction over 2 ^ e, where e is at least its exponent
abbrev pub over : ℕ → Fraction → ℤ
over e x = x.numerator *ℤ pos (2 ^ (e - x.exponent))

-- the number halfway between two others
abbrev pub between : Fraction → Fraction → Fraction
between x y = let e : ℕ = max x.exponent y.exponent in record { exponent = suc e; numerator = over e x +ℤ over e y }

-- a guess at the number of a tree, which is right where the tree is some number's
unfoldable pub guess : Tree → Fraction
guess (node none none) = record { exponent = 0; numerator = pos 0 }
guess (node (more L _) none) = record { exponent = 0; numerator = (guess L).numerator +ℤ pos 1 }
guess (node none (more R _)) = record { exponent = 0; numerator = (guess R).numerator +ℤ negsuc 0 }
guess (node (more L _) (more R _)) = between (guess L) (guess R)

-- the number of a tree in lowest terms, if the tree is some number's
unfoldable pub number_of : Tree → Option Fraction
number_of G = let x : Fraction = guess G in cond (same (num x.exponent x.numerator) G) (Some x) None

-- the decimal digits of n with a text behind them, where n is below the steps
unfoldable pub digits_within : ℕ → ℕ → List ℕ → List ℕ
digits_within zero n s = s
digits_within (suc steps) n s = cond (nat_lt n 10) ((48 + n) ∷ s) (digits_within steps (n / 10) ((48 + n % 10) ∷ s))

-- the decimal digits of n with a text behind them
abbrev pub digits : ℕ → List ℕ → List ℕ
digits n s = digits_within (suc n) n s

-- the text of an integer, with `-` in front where it is negative, and with another text behind it
abbrev pub integer_text : ℤ → List ℕ → List ℕ
integer_text (pos n) s = digits n s
integer_text (negsuc n) s = 45 ∷ digits (suc n) s

-- the text of a denominator: `/` and the power of two, and nothing for an integer
abbrev pub denominator_text : ℕ → List ℕ
denominator_text zero = []
denominator_text (suc e) = 47 ∷ digits (2 ^ suc e) []

-- the text of a number: its numerator, and its denominator but for an integer
abbrev pub fraction_text : Fraction → List ℕ
fraction_text x = integer_text x.numerator (denominator_text x.exponent)

-- the text of a number, where there is one
abbrev pub text_of_number : Option Fraction → Option (List ℕ)
text_of_number (Some x) = Some (fraction_text x)
text_of_number None = None

-- the text of a tree that is a number's, none of another
abbrev pub number_text : Tree → Option (List ℕ)
number_text G = text_of_number (number_of G)
