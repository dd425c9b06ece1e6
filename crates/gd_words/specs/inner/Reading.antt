-- One option more, and the job that a task and its options make.
use Rattle.std.specs.Prelude.{◌≡◌, ℕ, List, Some, None}
use Rattle.gd_words.specs.declared.choice.Choice.{Choice}
use Rattle.gd_words.specs.declared.choice.Choice.TheVariants.{Komi, Turn, After, BlackPrisoners, WhitePrisoners, Positions, Parts, Engine, Tax, Territory, Cycles, KeepBoard}
use Rattle.gd_words.specs.declared.chosen.Chosen.{Chosen}
use Rattle.gd_words.specs.Task.{Task}
use Rattle.gd_words.specs.Job.{AreChoices, Job, TaxTerritory, job_of}

-- `more` says the option besides, which `o` doesn't say
abbrev pub IsWith : Chosen → Choice → Chosen → Type 0
IsWith o (Komi halves) more = (o.komi ≡ None) × (more ≡ record o { komi = Some halves })
IsWith o (Turn colour) more = (o.turn ≡ None) × (more ≡ record o { turn = Some colour })
IsWith o (After n) more = (o.after ≡ None) × (more ≡ record o { after = Some n })
IsWith o (BlackPrisoners n) more = (o.black_prisoners ≡ None) × (more ≡ record o { black_prisoners = Some n })
IsWith o (WhitePrisoners n) more = (o.white_prisoners ≡ None) × (more ≡ record o { white_prisoners = Some n })
IsWith o (Positions n) more = (o.positions ≡ None) × (more ≡ record o { positions = Some n })
IsWith o (Parts n) more = (o.parts ≡ None) × (more ≡ record o { parts = Some n })
IsWith o (Engine colour) more = (o.engine ≡ None) × (more ≡ record o { engine = Some colour })
IsWith o (Tax taxed) more = (o.tax ≡ None) × (more ≡ record o { tax = Some taxed })
IsWith o (Territory declared) more = (o.territory ≡ None) × (more ≡ record o { territory = Some declared })
IsWith o (Cycles admitted) more = (o.cycles ≡ None) × (more ≡ record o { cycles = Some admitted })
IsWith o (KeepBoard kept) more = (o.keep_board ≡ None) × (more ≡ record o { keep_board = Some kept })

-- the words are options of the task which don't tax declared points, and the job is that of the task with them
abbrev pub IsJobOf : Task → List (List ℕ) → Job → Type 0
IsJobOf task words job = (chosen : Chosen) × AreChoices task words chosen × (¬ TaxTerritory chosen) × (job ≡ job_of task chosen)
