-- A name and a value say at most one option.
use Rattle.std.proofs.Common.{◌≡◌, ◌≤◌, ℕ, ℤ, List, Bool, true, false, refl, sym, ap, ◌∙◌, subst, arith, to_z, of_z, w64}
use Rattle.std.specs.Prelude.{unsigned_abs}
use Rattle.std.proofs.lemmas.Int.{fits_signed_from_abs, ints, to_z-of_z}
use Rattle.sgf_go.specs.Komi.{IsInRange}
use Rattle.local_graph.specs.declared.graph.TheConstants.{MOST_POSITIONS}
use Rattle.gd_words.specs.declared.choice.TheConstants.{MOST_MOVES, MOST_PARTS}
use Rattle.sgf_go.specs.declared.settings.TheConstants.{MOST_PRISONERS}
use Rattle.go_grid.specs.declared.grid.Colour.{Colour}
use Rattle.go_grid.specs.declared.grid.Colour.TheVariants.{Black, White}
use Rattle.sgf_go.proofs.KomiLemmas.{one_komi}
use Rattle.gd_words.specs.declared.choice.Choice.{Choice}
use Rattle.gd_words.specs.declared.choice.Choice.TheVariants.{Komi, Turn, After, BlackPrisoners, WhitePrisoners, Positions, Parts, Engine, Tax, Territory, Cycles, KeepBoard}
use Rattle.gd_words.specs.Choice.{IsChoice, IsChoiceValue, name_of}
use Rattle.gd_words.specs.Value.{IsNumberWithin, answer_word}
use Rattle.board_words.specs.Words.{colour_word}
use Rattle.gd_words.proofs.NameLemmas.{IsOnly, apart, komi_only, turn_only, after_only, black_only, white_only, positions_only, parts_only, engine_only, tax_only, territory_only, cycles_only, board_only}

pub one_number : (low high : ℕ) (word : List ℕ) (n m : ℕ) → IsNumberWithin low high word n → IsNumberWithin low high word m → n ≡ m
one_number low high word n m a b = a.number.1 ∙ sym b.number.1

one_colour : (word : List ℕ) (c d : Colour) → word ≡ colour_word c → word ≡ colour_word d → c ≡ d
one_colour word Black Black a b = refl
one_colour word White White a b = refl
one_colour word Black White a b = absurd (apart (sym a ∙ b) refl refl)
one_colour word White Black a b = absurd (apart (sym a ∙ b) refl refl)

one_answer : (word : List ℕ) (c d : Bool) → word ≡ answer_word c → word ≡ answer_word d → c ≡ d
one_answer word true true a b = refl
one_answer word false false a b = refl
one_answer word true false a b = absurd (apart (sym a ∙ b) refl refl)
one_answer word false true a b = absurd (apart (sym a ∙ b) refl refl)

same : {A : Type 0} (option : A → Choice) (name word : List ℕ) (y : Choice) (v : A) → IsOnly option (name_of (option v)) → name ≡ name_of (option v) → ((w : A) → IsChoiceValue word (option w) → v ≡ w) → IsChoice name word y → option v ≡ y
same option name word y v only e one b =
    let m = only y (sym b.0 ∙ e) in
    ap option (one m.0 (subst (IsChoiceValue word) m.1 b.1)) ∙ sym m.1

-- a komi in range that is read again
pub same_komi : (halves : ℤ) → IsInRange halves → to_z w64 (of_z w64 halves) ≡ halves
same_komi halves in_range =
    let modest : unsigned_abs halves ≤ 2000000 = omega (arith, ints, in_range.0, in_range.1) in to_z-of_z w64 halves (fits_signed_from_abs w64 halves (omega (arith, ints, modest)))

-- a name whose value says nothing says no option
pub unsaid : {A : Type 0} (option : A → Choice) (known name word : List ℕ) → IsOnly option known → name ≡ known → ((v : A) → ¬ IsChoiceValue word (option v)) → (x : Choice) → ¬ IsChoice name word x
unsaid option known name word only e none x b = let m = only x (sym b.0 ∙ e) in none m.0 (subst (IsChoiceValue word) m.1 b.1)

pub one_choice : (name word : List ℕ) (x y : Choice) → IsChoice name word x → IsChoice name word y → x ≡ y
one_choice name word (Komi v) y a b = same Komi name word y v komi_only a.0 (λ w. one_komi word v w a.1) b
one_choice name word (Turn v) y a b = same Turn name word y v turn_only a.0 (λ w. one_colour word v w a.1) b
one_choice name word (After v) y a b = same After name word y v after_only a.0 (λ w. one_number 0 MOST_MOVES word v w a.1) b
one_choice name word (BlackPrisoners v) y a b = same BlackPrisoners name word y v black_only a.0 (λ w. one_number 0 MOST_PRISONERS word v w a.1) b
one_choice name word (WhitePrisoners v) y a b = same WhitePrisoners name word y v white_only a.0 (λ w. one_number 0 MOST_PRISONERS word v w a.1) b
one_choice name word (Positions v) y a b = same Positions name word y v positions_only a.0 (λ w. one_number 1 MOST_POSITIONS word v w a.1) b
one_choice name word (Parts v) y a b = same Parts name word y v parts_only a.0 (λ w. one_number 1 MOST_PARTS word v w a.1) b
one_choice name word (Engine v) y a b = same Engine name word y v engine_only a.0 (λ w. one_colour word v w a.1) b
one_choice name word (Tax v) y a b = same Tax name word y v tax_only a.0 (λ w. one_answer word v w a.1) b
one_choice name word (Territory v) y a b = same Territory name word y v territory_only a.0 (λ w. one_answer word v w a.1) b
one_choice name word (Cycles v) y a b = same Cycles name word y v cycles_only a.0 (λ w. one_answer word v w a.1) b
one_choice name word (KeepBoard v) y a b = same KeepBoard name word y v board_only a.0 (λ w. one_answer word v w a.1) b
