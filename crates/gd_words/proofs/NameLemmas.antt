-- An option is known by its name, and by its name and its value.
use Rattle.std.proofs.Common.{◌≡◌, ℕ, List, refl, ap}
use Rattle.std.specs.Prelude.{codes, true, false}
use Rattle.std.specs.Str.{bytes_eq}
use Rattle.gd_words.specs.declared.choice.Choice.{Choice}
use Rattle.gd_words.specs.declared.choice.Choice.TheVariants.{Komi, Turn, After, BlackPrisoners, WhitePrisoners, Positions, Parts, Engine, Tax, Territory, Cycles, KeepBoard}
use Rattle.gd_words.specs.Choice.{name_of}

-- two words that a test tells apart are not the same
pub apart : {a b : List ℕ} → a ≡ b → bytes_eq a b ≡ false → bytes_eq b b ≡ true → ⊥
apart {a} {b} e f t = let same = ap (λ x. bytes_eq x b) e in cc

-- an option of that name is made by `option`
abbrev pub IsOnly : {A : Type 0} → (A → Choice) → List ℕ → Type 0
IsOnly {A} option name = (x : Choice) → name_of x ≡ name → (value : A) × (x ≡ option value)

pub komi_only : IsOnly Komi (codes "--komi")
komi_only (Komi v) e = (v, refl)
komi_only x e = absurd (apart e refl refl)

pub turn_only : IsOnly Turn (codes "--turn")
turn_only (Turn v) e = (v, refl)
turn_only x e = absurd (apart e refl refl)

pub after_only : IsOnly After (codes "--after")
after_only (After v) e = (v, refl)
after_only x e = absurd (apart e refl refl)

pub black_only : IsOnly BlackPrisoners (codes "--black-prisoners")
black_only (BlackPrisoners v) e = (v, refl)
black_only x e = absurd (apart e refl refl)

pub white_only : IsOnly WhitePrisoners (codes "--white-prisoners")
white_only (WhitePrisoners v) e = (v, refl)
white_only x e = absurd (apart e refl refl)

pub positions_only : IsOnly Positions (codes "--positions")
positions_only (Positions v) e = (v, refl)
positions_only x e = absurd (apart e refl refl)

pub parts_only : IsOnly Parts (codes "--parts")
parts_only (Parts v) e = (v, refl)
parts_only x e = absurd (apart e refl refl)

pub engine_only : IsOnly Engine (codes "--as")
engine_only (Engine v) e = (v, refl)
engine_only x e = absurd (apart e refl refl)

pub tax_only : IsOnly Tax (codes "--tax")
tax_only (Tax v) e = (v, refl)
tax_only x e = absurd (apart e refl refl)

pub territory_only : IsOnly Territory (codes "--territory")
territory_only (Territory v) e = (v, refl)
territory_only x e = absurd (apart e refl refl)

pub cycles_only : IsOnly Cycles (codes "--cycles")
cycles_only (Cycles v) e = (v, refl)
cycles_only x e = absurd (apart e refl refl)

pub board_only : IsOnly KeepBoard (codes "--board")
board_only (KeepBoard v) e = (v, refl)
board_only x e = absurd (apart e refl refl)
