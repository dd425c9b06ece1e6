-- The grammar of the command line, and the job that its words say:
--     words = ( "solve" | "safe" | "values" | "board" | "margin" | "moves" | "line" | "play" ) file { name value } | "trial" number | "calc" expression { name value } | "gtp" { name value }
use Rattle.std.specs.Prelude.{◌≡◌, ◌≢◌, ◌∷◌, [], ⊤, ℕ, List, Bool, true, false, Option, Some, None}
use Rattle.std.specs.List.{All, AllPairs, Contains}
use Rattle.std.specs.Option.{unwrap_or}
use Rattle.go_grid.specs.declared.grid.Colour.{Colour}
use Rattle.sgf_go.specs.declared.settings.Settings.{Settings}
use Rattle.gd_words.specs.declared.choice.Choice.{Choice}
use Rattle.gd_words.specs.declared.choice.Choice.TheVariants.{Komi, Turn, After, BlackPrisoners, WhitePrisoners, Positions, Parts, Engine, Tax, Territory, Cycles, KeepBoard}
use Rattle.gd_words.specs.declared.chosen.Chosen.{Chosen}
use Rattle.gd_words.specs.Choice.{IsChoice, name_of}
use Rattle.gd_words.specs.Task.{Task, BeginWith, GoesWith, admitting}

-- the words are the names and values of the options, one after the other
abbrev pub Spell : List (List ℕ) → List Choice → Type 0
Spell [] [] = ⊤
Spell (name ∷ value ∷ words) (choice ∷ choices) = IsChoice name value choice × Spell words choices
Spell words choices = ⊥

-- the value of an option that stands among the options, or nothing where it doesn't
abbrev pub GivesOption : {A : Type 0} → List Choice → (A → Choice) → Option A → Type 0
GivesOption choices option (Some value) = Contains choices (option value)
GivesOption {A} choices option None = (value : A) → ¬ Contains choices (option value)

-- what the options say, each its own value
pub record Say (choices : List Choice) (chosen : Chosen) : Type 0 where
  pub komi : GivesOption choices Komi chosen.komi
  pub turn : GivesOption choices Turn chosen.turn
  pub after : GivesOption choices After chosen.after
  pub black_prisoners : GivesOption choices BlackPrisoners chosen.black_prisoners
  pub white_prisoners : GivesOption choices WhitePrisoners chosen.white_prisoners
  pub positions : GivesOption choices Positions chosen.positions
  pub parts : GivesOption choices Parts chosen.parts
  pub engine : GivesOption choices Engine chosen.engine
  pub tax : GivesOption choices Tax chosen.tax
  pub territory : GivesOption choices Territory chosen.territory
  pub cycles : GivesOption choices Cycles chosen.cycles
  pub keep_board : GivesOption choices KeepBoard chosen.keep_board

-- the words are options of the task, in any order and none of them twice, and this is what they say
pub record AreChoices (task : Task) (words : List (List ℕ)) (chosen : Chosen) : Type 0 where
  pub choices : List Choice
  pub spelt : Spell words choices
  pub fit : All (GoesWith task) choices
  pub once : AllPairs (λ x y. name_of x ≢ name_of y) choices
  pub said : Say choices chosen

-- the options ask for a tax, and for declared points, out of which a group couldn't pay it
abbrev pub TaxTerritory : Chosen → Type 0
TaxTerritory chosen = (chosen.tax ≡ Some true) × (chosen.territory ≡ Some true)

-- a job: what is asked for, of which position, within which limits, with which colour for the engine, with or without a tax, with cycles
-- admitted or without, and whether the engine of `gtp` keeps a board
pub record Job : Type 0 where
  pub task : Task
  pub settings : Settings
  pub positions : ℕ
  pub parts : ℕ
  pub engine : Option Colour
  pub tax : Bool
  pub cycles : Bool
  pub keep_board : Bool

-- the job of a task and its options: what they leave open has its default; with cycles the task is the one that admits them
abbrev pub job_of : Task → Chosen → Job
job_of task chosen = record {
  task = admitting (unwrap_or chosen.cycles false) task;
  settings = record {
    after = chosen.after;
    komi = chosen.komi;
    turn = chosen.turn;
    black_prisoners = unwrap_or chosen.black_prisoners 0;
    white_prisoners = unwrap_or chosen.white_prisoners 0;
    territory = unwrap_or chosen.territory false;
  };
  positions = unwrap_or chosen.positions 100000;
  parts = unwrap_or chosen.parts 500;
  engine = chosen.engine;
  tax = unwrap_or chosen.tax false;
  cycles = unwrap_or chosen.cycles false;
  keep_board = unwrap_or chosen.keep_board false;
}

-- the words say the job: those of a task, and then its options, which don't tax declared points
pub record IsJob (words : List (List ℕ)) (job : Job) : Type 0 where
  pub spoken : Task
  pub rest : List (List ℕ)
  pub task : BeginWith spoken words rest
  pub chosen : Chosen
  pub options : AreChoices spoken rest chosen
  pub untaxed : ¬ TaxTerritory chosen
  pub says : job ≡ job_of spoken chosen

-- the words say no job
abbrev pub SayNoJob : List (List ℕ) → Type 0
SayNoJob words = (job : Job) → ¬ IsJob words job

-- the words say the job and no other one
pub record IsOnlyJob (words : List (List ℕ)) (job : Job) : Type 0 where
  pub said : IsJob words job
  pub only : (other : Job) → IsJob words other → other ≡ job
