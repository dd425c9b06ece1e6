-- What a line of the calculator says, and why it is refused: the grammar, read from the front.
--     line = sum [ "?" sum ]      sum = [ "-" ] term { ( "+" | "-" ) term }      term = game | "(" sum ")"
-- A token is a longest run of bytes other than a blank.
use Rattle.std.specs.Prelude.{ℕ, suc, ◌≡◌, ◌<◌, ◌≤◌, ◌⊎◌, List, [], ◌∷◌, ◌++◌, cond, nat_eq, Option, Some, None, Result, Ok, Err}
use Rattle.short_games.specs.Tree.{Tree, neg}
use Rattle.short_games.specs.Sum.{◌+ᵍ◌}
use Rattle.short_games.specs.TextOrder.{IsCanonicalFor}
use Rattle.game_text.specs.Depth.{most_open}
use Rattle.game_text.specs.Reading.{ReadsText, Fault as NameFault}
use Rattle.game_text.specs.Reading.Fault.{bad_byte, bad_number, cut_short, too_deep, too_many_parts, past_bounds}
use Rattle.game_calc.specs.Steps.{IsOutOfLimits}
use Rattle.game_calc.specs.declared.amounts.Sign.{Sign}
use Rattle.game_calc.specs.declared.amounts.Sign.TheVariants as sign
use Rattle.game_calc.specs.declared.tokens.Kind.{Kind}
use Rattle.game_calc.specs.declared.tokens.Kind.TheVariants.{End, Plus, Minus, Open, Close, Query, Game}

-- a game that a token names, the opposite of a sum, or the sum of two
pub data Expression : Type 0 where
  game : Tree → Expression
  opposite : Expression → Expression
  sum : Expression → Expression → Expression

-- the tree that an expression names
unfoldable pub tree_of : Expression → Tree
tree_of (game G) = G
tree_of (opposite E) = neg (tree_of E)
tree_of (sum E F) = tree_of E +ᵍ tree_of F

-- a step of an expression is out of limits, where each is taken on canonical trees
unfoldable pub HasStepOutOfLimits : ℕ → Expression → Type 0
HasStepOutOfLimits limit (game G) = ⊥
HasStepOutOfLimits limit (opposite E) = HasStepOutOfLimits limit E
HasStepOutOfLimits limit (sum E F) = (HasStepOutOfLimits limit E ⊎ HasStepOutOfLimits limit F)
    ⊎ ((C D : Tree) → IsCanonicalFor (tree_of E) C → IsCanonicalFor (tree_of F) D → IsOutOfLimits limit C D)

-- a line asks for the value of a sum, or for the order of two
pub data Line : Type 0 where
  value : Expression → Line
  order : Expression → Expression → Line

-- why a line is refused; a place is told by the bytes from it on
pub data Fault : Type 0 where
  stray : List ℕ → Fault
  no_number : List ℕ → Fault
  unfinished : Fault
  deep : Fault
  large : Fault

-- what reading comes to: what was read and the bytes behind it, or a fault
pub data Outcome : Type 0 where
  reads : Expression → List ℕ → Outcome
  refused : Fault → Outcome

-- the byte of a blank
abbrev pub blank : ℕ
blank = 32

-- the bytes from the next token on
unfoldable pub next : List ℕ → List ℕ
next [] = []
next (x ∷ xs) = cond (nat_eq x blank) (next xs) (x ∷ xs)

-- the token that the bytes begin with, empty where they begin with a blank
unfoldable pub token : List ℕ → List ℕ
token [] = []
token (x ∷ xs) = cond (nat_eq x blank) [] (x ∷ token xs)

-- the bytes behind the token that they begin with
unfoldable pub behind_token : List ℕ → List ℕ
behind_token [] = []
behind_token (x ∷ xs) = cond (nat_eq x blank) (x ∷ xs) (behind_token xs)

-- what a token of one byte is
abbrev pub sign_kind : ℕ → Kind
sign_kind x = cond (nat_eq x 43) Plus (cond (nat_eq x 45) Minus (cond (nat_eq x 40) Open (cond (nat_eq x 41) Close (cond (nat_eq x 63) Query Game))))

-- what a token is, where the empty one is the end
unfoldable pub kind_of : List ℕ → Kind
kind_of [] = End
kind_of (x ∷ []) = sign_kind x
kind_of (x ∷ y ∷ ys) = Game

-- what the next token is
abbrev pub kind : List ℕ → Kind
kind bytes = kind_of (token (next bytes))

-- the bytes behind the next token
abbrev pub rest : List ℕ → List ℕ
rest bytes = behind_token (next bytes)

-- what a fault of a name is of the line, where these bytes stand behind the token
abbrev pub fault_of : NameFault → List ℕ → Fault
fault_of (bad_byte xs) bytes = stray (xs ++ bytes)
fault_of (bad_number xs) bytes = no_number (xs ++ bytes)
fault_of cut_short [] = unfinished
fault_of cut_short (x ∷ xs) = stray (x ∷ xs)
fault_of too_deep bytes = deep
fault_of too_many_parts bytes = large
fault_of past_bounds bytes = large

-- what reading a name comes to in a line, where these bytes stand behind the token
abbrev pub outcome_of : Result Tree NameFault → List ℕ → Outcome
outcome_of (Ok G) bytes = reads (game G) bytes
outcome_of (Err fault) bytes = refused (fault_of fault bytes)

-- what a sum in parentheses comes to, where the next token behind it is this, and a closing one is due
abbrev pub closed_by : Kind → Expression → List ℕ → Outcome
closed_by Close E bytes = reads E (rest bytes)
closed_by End E bytes = refused unfinished
closed_by k E bytes = refused (stray (next bytes))

-- what a sum in parentheses comes to, with the closing one that is due behind it
abbrev pub closed : Outcome → Outcome
closed (reads E bytes) = closed_by (kind bytes) E bytes
closed (refused fault) = refused fault

-- the sign that a token is, in front of one more term
abbrev pub sign_of : Kind → Option Sign
sign_of Plus = Some sign.Plus
sign_of Minus = Some sign.Minus
sign_of k = None

-- a term with its sign
abbrev pub signed : Sign → Expression → Expression
signed sign.Plus E = E
signed sign.Minus E = opposite E

-- the terms so far, where there are some, and one more
abbrev pub with_term : Option Expression → Sign → Expression → Expression
with_term None s F = signed s F
with_term (Some E) s F = sum E (signed s F)

-- the sign in front of the first term of a sum, where the next token is this
abbrev pub first_sign : Kind → Sign
first_sign Minus = sign.Minus
first_sign k = sign.Plus

-- the bytes behind the sign in front of the first term of a sum, where the next token is this; a `+` is no such sign
abbrev pub first_bytes : Kind → List ℕ → List ℕ
first_bytes Minus bytes = rest bytes
first_bytes k bytes = bytes

-- a token that is neither the end nor begins a term
abbrev pub BeginsNoTerm : Kind → Type 0
BeginsNoTerm Plus = Unit {0}
BeginsNoTerm Minus = Unit {0}
BeginsNoTerm Close = Unit {0}
BeginsNoTerm Query = Unit {0}
BeginsNoTerm k = ⊥

-- what a line of two sums comes to, where the next token behind the second is this, and the end is due
abbrev pub line_ended : Kind → Expression → Expression → List ℕ → Result Line Fault
line_ended End E F bytes = Ok (order E F)
line_ended k E F bytes = Err (stray (next bytes))

module _ (limit : ℕ) where
  mutual
    -- what the bytes come to where a term is due and the next token is this, with n parentheses open
    pub data ReadsTerm : ℕ → List ℕ → Kind → Outcome → Type 0 where
      a_game : (n : ℕ) (bytes : List ℕ) (r : Result Tree NameFault) → ReadsText limit (token (next bytes)) r → ReadsTerm n bytes Game (outcome_of r (rest bytes))
      a_group : (n : ℕ) (bytes : List ℕ) (o : Outcome) → n < most_open → ReadsTerms (suc n) None (first_sign (kind (rest bytes))) (first_bytes (kind (rest bytes)) (rest bytes)) o → ReadsTerm n bytes Open (closed o)
      one_too_deep : (n : ℕ) (bytes : List ℕ) → most_open ≤ n → ReadsTerm n bytes Open (refused deep)
      none_left : (n : ℕ) (bytes : List ℕ) → ReadsTerm n bytes End (refused unfinished)
      no_term : (n : ℕ) (bytes : List ℕ) (k : Kind) → BeginsNoTerm k → ReadsTerm n bytes k (refused (stray (next bytes)))

    -- what the bytes come to behind the sign in front of a term of a sum, where these terms stand before it, with n parentheses open
    pub data ReadsTerms : ℕ → Option Expression → Sign → List ℕ → Outcome → Type 0 where
      last : (n : ℕ) (before : Option Expression) (s : Sign) (bytes : List ℕ) (F : Expression) (ys : List ℕ) → ReadsTerm n bytes (kind bytes) (reads F ys) → sign_of (kind ys) ≡ None → ReadsTerms n before s bytes (reads (with_term before s F) ys)
      one_more : (n : ℕ) (before : Option Expression) (s : Sign) (bytes : List ℕ) (F : Expression) (ys : List ℕ) (t : Sign) (o : Outcome) → ReadsTerm n bytes (kind bytes) (reads F ys) → sign_of (kind ys) ≡ Some t
          → ReadsTerms n (Some (with_term before s F)) t (rest ys) o → ReadsTerms n before s bytes o
      no_more : (n : ℕ) (before : Option Expression) (s : Sign) (bytes : List ℕ) (fault : Fault) → ReadsTerm n bytes (kind bytes) (refused fault) → ReadsTerms n before s bytes (refused fault)

  -- what the bytes come to where a sum is due, with n parentheses open
  abbrev pub ReadsSum : ℕ → List ℕ → Outcome → Type 0
  ReadsSum n bytes o = ReadsTerms n None (first_sign (kind bytes)) (first_bytes (kind bytes) bytes) o

  -- what a line comes to, once it is known what its second sum does
  abbrev pub BehindSecond : Expression → Outcome → Result Line Fault → Type 0
  BehindSecond E (reads F bytes) out = out ≡ line_ended (kind bytes) E F bytes
  BehindSecond E (refused fault) out = out ≡ Err fault

  -- behind the first sum the line ends, or a `?` and the second sum stand
  abbrev pub AfterFirst : Kind → Expression → List ℕ → Result Line Fault → Type 0
  AfterFirst End E bytes out = out ≡ Ok (value E)
  AfterFirst Query E bytes out = (o : Outcome) × ReadsSum 0 (rest bytes) o × BehindSecond E o out
  AfterFirst k E bytes out = out ≡ Err (stray (next bytes))

  -- what a line comes to, once it is known what its first sum does
  abbrev pub BehindFirst : Outcome → Result Line Fault → Type 0
  BehindFirst (reads E bytes) out = AfterFirst (kind bytes) E bytes out
  BehindFirst (refused fault) out = out ≡ Err fault

  -- what the whole line comes to
  abbrev pub ReadsLine : List ℕ → Result Line Fault → Type 0
  ReadsLine text out = (o : Outcome) × ReadsSum 0 text o × BehindFirst o out
