-- Words say at most one job.
use Rattle.std.proofs.Common.{◌≡◌, ◌≢◌, ◌<◌, ◌⊎◌, ◌∷◌, ℕ, List, Some, None, inl, inr, get_or, refl, sym, ap, ap₂, ◌∙◌, subst}
use Rattle.std.specs.Prelude.{Option, codes, IfSome, IfNone, cond}
use Rattle.std.specs.Str.{bytes_eq}
use Rattle.std.specs.List.{AllPairs, Contains}
use Rattle.std.proofs.lemmas.Bool.{cases_order}
use Rattle.std.proofs.lemmas.List.{get_or_default}
use Rattle.gd_words.specs.declared.choice.Choice.{Choice}
use Rattle.gd_words.specs.declared.choice.Choice.TheVariants.{Komi, Turn, After, BlackPrisoners, WhitePrisoners, Positions, Parts, Engine, Tax, Territory, Cycles, KeepBoard}
use Rattle.gd_words.specs.declared.chosen.Chosen.{Chosen}
use Rattle.gd_words.specs.Choice.{name_of}
use Rattle.gd_words.specs.declared.job.Question.{Question}
use Rattle.gd_words.specs.declared.job.Question.TheVariants.{Board, Line, Margin, Moves, Safe, Solve, Values, WithCycles}
use Rattle.gd_words.specs.Task.{Task, ask, play, trial, calc, gtp, AreFor, BeginWith, IsWordOf}
use Rattle.gd_words.specs.Job.{GivesOption, Say, AreChoices, TaxTerritory, Job, job_of, IsJob, IsOnlyJob}
use Rattle.gd_words.specs.inner.Reading.{IsJobOf}
use Rattle.gd_words.proofs.NameLemmas.{apart}
use Rattle.gd_words.proofs.OneOptionLemmas.{one_number}
use Rattle.gd_words.proofs.ListingLemmas.{one_spelling}

-- the question that a word asks, where it is the word of one
abbrev question_of : List ℕ → Option Question
question_of word = cond (bytes_eq word (codes "solve")) (Some Solve) (cond (bytes_eq word (codes "safe")) (Some Safe) (cond (bytes_eq word (codes "values")) (Some Values)
    (cond (bytes_eq word (codes "board")) (Some Board) (cond (bytes_eq word (codes "margin")) (Some Margin) (cond (bytes_eq word (codes "moves")) (Some Moves) (cond (bytes_eq word (codes "line")) (Some Line) None))))))

question_back : (word : List ℕ) (q : Question) → IsWordOf q word → question_of word ≡ Some q
question_back word Solve is = ap question_of is
question_back word Safe is = ap question_of is
question_back word Values is = ap question_of is
question_back word Board is = ap question_of is
question_back word Margin is = ap question_of is
question_back word Moves is = ap question_of is
question_back word Line is = ap question_of is
question_back word (WithCycles q) is = absurd is

-- a word that asks no question is that of none
no_question : (word : List ℕ) (q : Question) → IsWordOf q word → question_of word ≡ None → ⊥
no_question word q is none = let k : Path (Option Question) (Some q) None = sym (question_back word q is) ∙ none in absurd cc

one_question : (word : List ℕ) (p q : Question) → IsWordOf p word → IsWordOf q word → p ≡ q
one_question word p q a b = let k : Path (Option Question) (Some p) (Some q) = sym (question_back word p a) ∙ question_back word q b in cc

one_task : (word argument : List ℕ) (t u : Task) → AreFor word argument t → AreFor word argument u → t ≡ u
one_task word argument (ask p f) (ask q g) a b = ap₂ ask (one_question word p q a.0 b.0) (sym a.1 ∙ b.1)
one_task word argument (play f) (play g) a b = ap play (sym a.1 ∙ b.1)
one_task word argument (trial n) (trial m) a b = ap trial (one_number 0 4294967295 argument n m a.1 b.1)
one_task word argument (calc e) (calc f) a b = ap calc (sym a.1 ∙ b.1)
one_task word argument gtp u a b = absurd a
one_task word argument t gtp a b = absurd b
one_task word argument (ask p f) (play g) a b = absurd (no_question word p a.0 (ap question_of b.0))
one_task word argument (ask p f) (trial g) a b = absurd (no_question word p a.0 (ap question_of b.0))
one_task word argument (ask p f) (calc g) a b = absurd (no_question word p a.0 (ap question_of b.0))
one_task word argument (play f) (ask q g) a b = absurd (no_question word q b.0 (ap question_of a.0))
one_task word argument (trial f) (ask q g) a b = absurd (no_question word q b.0 (ap question_of a.0))
one_task word argument (calc f) (ask q g) a b = absurd (no_question word q b.0 (ap question_of a.0))
one_task word argument t u a b = absurd (apart (sym a.0 ∙ b.0) refl refl)

abbrev AreOnce : List Choice → Type 0
AreOnce = AllPairs (λ x y. name_of x ≢ name_of y)

-- options of one name are the same option
one_of_name : (xs : List Choice) (x y : Choice) → AreOnce xs → Contains xs x → Contains xs y → name_of x ≡ name_of y → x ≡ y
one_of_name xs x y n a b e = by_place (cases_order a.0 b.0)
  where
    there : get_or xs b.0 x ≡ y
    there = get_or_default xs b.0 x y b.1 ∙ b.2

    by_place : (a.0 ≡ b.0) ⊎ ((a.0 < b.0) ⊎ (b.0 < a.0)) → x ≡ y
    by_place (inl h) = sym a.2 ∙ ap (λ k. get_or xs k x) h ∙ there
    by_place (inr (inl h)) = absurd (n a.0 b.0 x h b.1 (ap name_of a.2 ∙ e ∙ ap name_of (sym there)))
    by_place (inr (inr h)) = absurd (n b.0 a.0 x h a.1 (ap name_of there ∙ sym e ∙ ap name_of (sym a.2)))

one_value : {A : Type 0} (option : A → Choice) (xs : List Choice) (o p : Option A) → AreOnce xs → ((v w : A) → name_of (option v) ≡ name_of (option w)) → ((v w : A) → option v ≡ option w → v ≡ w)
    → GivesOption xs option o → GivesOption xs option p → o ≡ p
one_value option xs None None n e i a b = refl
one_value option xs None (Some w) n e i a b = absurd (a w b)
one_value option xs (Some v) None n e i a b = absurd (b v a)
one_value option xs (Some v) (Some w) n e i a b = ap Some (i v w (one_of_name xs (option v) (option w) n a b (e v w)))

one_say : (xs : List Choice) (o p : Chosen) → AreOnce xs → Say xs o → Say xs p → o ≡ p
one_say xs o p n a b =
    let komi = one_value Komi xs o.komi p.komi n (λ v w. refl) (λ v w e. cc) a.komi b.komi in
    let turn = one_value Turn xs o.turn p.turn n (λ v w. refl) (λ v w e. cc) a.turn b.turn in
    let after = one_value After xs o.after p.after n (λ v w. refl) (λ v w e. cc) a.after b.after in
    let black = one_value BlackPrisoners xs o.black_prisoners p.black_prisoners n (λ v w. refl) (λ v w e. cc) a.black_prisoners b.black_prisoners in
    let white = one_value WhitePrisoners xs o.white_prisoners p.white_prisoners n (λ v w. refl) (λ v w e. cc) a.white_prisoners b.white_prisoners in
    let positions = one_value Positions xs o.positions p.positions n (λ v w. refl) (λ v w e. cc) a.positions b.positions in
    let parts = one_value Parts xs o.parts p.parts n (λ v w. refl) (λ v w e. cc) a.parts b.parts in
    let engine = one_value Engine xs o.engine p.engine n (λ v w. refl) (λ v w e. cc) a.engine b.engine in
    let tax = one_value Tax xs o.tax p.tax n (λ v w. refl) (λ v w e. cc) a.tax b.tax in
    let territory = one_value Territory xs o.territory p.territory n (λ v w. refl) (λ v w e. cc) a.territory b.territory in
    let cycles = one_value Cycles xs o.cycles p.cycles n (λ v w. refl) (λ v w e. cc) a.cycles b.cycles in
    let board = one_value KeepBoard xs o.keep_board p.keep_board n (λ v w. refl) (λ v w e. cc) a.keep_board b.keep_board in
    λ i. record { komi = komi i; turn = turn i; after = after i; black_prisoners = black i; white_prisoners = white i; positions = positions i; parts = parts i; engine = engine i; tax = tax i; territory = territory i; cycles = cycles i; keep_board = board i }

pub one_choices : (task : Task) (words : List (List ℕ)) (o p : Chosen) → AreChoices task words o → AreChoices task words p → o ≡ p
one_choices task words o p a b =
    let same = one_spelling words b.choices a.choices b.spelt a.spelt in
    one_say a.choices o p a.once a.said (subst (λ xs. Say xs p) same b.said)

-- no two words ask for the engine
not_engine : (word argument : List ℕ) (t : Task) → AreFor word argument t → word ≡ codes "gtp" → ⊥
not_engine word argument gtp a e = a
not_engine word argument (ask q f) a e = no_question word q a.0 (ap question_of e)
not_engine word argument t a e = absurd (apart (sym a.0 ∙ e) refl refl)

-- the words of a task that has two
abbrev BeginWithTwo : Task → List (List ℕ) → List (List ℕ) → Type 0
BeginWithTwo task words rest = (word : List ℕ) × (argument : List ℕ) × (words ≡ word ∷ argument ∷ rest) × AreFor word argument task

-- a task has one word, or two
by_words : (P : Type 0) (task : Task) (words rest : List (List ℕ)) → BeginWith task words rest → (task ≡ gtp → words ≡ codes "gtp" ∷ rest → P) → (BeginWithTwo task words rest → P) → P
by_words P gtp words rest b one two = one refl b
by_words P (ask q f) words rest b one two = two b
by_words P (play f) words rest b one two = two b
by_words P (trial n) words rest b one two = two b
by_words P (calc e) words rest b one two = two b

pub with_two : (task : Task) (words rest : List (List ℕ)) (word argument : List ℕ) → words ≡ word ∷ argument ∷ rest → AreFor word argument task → BeginWith task words rest
with_two gtp words rest word argument e a = absurd a
with_two (ask q f) words rest word argument e a = (word, argument, e, a)
with_two (play f) words rest word argument e a = (word, argument, e, a)
with_two (trial n) words rest word argument e a = (word, argument, e, a)
with_two (calc f) words rest word argument e a = (word, argument, e, a)

one_or_two : (words rest more : List (List ℕ)) (u : Task) → words ≡ codes "gtp" ∷ rest → BeginWithTwo u words more → ⊥
one_or_two words rest more u e (word, argument, d, a) =
    let k : Path (List (List ℕ)) (word ∷ argument ∷ more) (codes "gtp" ∷ rest) = sym d ∙ e in
    not_engine word argument u a cc

two_and_two : (words rest more : List (List ℕ)) (t u : Task) → BeginWithTwo t words rest → BeginWithTwo u words more → (t ≡ u) × (rest ≡ more)
two_and_two words rest more t u (word, argument, e, a) (other, second, d, b) =
    let k : Path (List (List ℕ)) (other ∷ second ∷ more) (word ∷ argument ∷ rest) = sym d ∙ e in
    let first : other ≡ word = cc in
    let then : second ≡ argument = cc in
    (one_task word argument t u a (subst (λ x. AreFor x argument u) first (subst (λ x. AreFor other x u) then b)), cc)

-- words begin with those of one task
one_beginning : (words rest more : List (List ℕ)) (t u : Task) → BeginWith t words rest → BeginWith u words more → (t ≡ u) × (rest ≡ more)
one_beginning words rest more t u a b =
    by_words _ t words rest a
    (λ e w. by_words _ u words more b (λ d v. let k : Path (List (List ℕ)) (codes "gtp" ∷ rest) (codes "gtp" ∷ more) = sym w ∙ v in (e ∙ sym d, cc)) (λ two. absurd (one_or_two words rest more u w two)))
    (λ two. by_words _ u words more b (λ d v. absurd (one_or_two words more rest t v two)) (λ more_two. two_and_two words rest more t u two more_two))

pub one_job : (words : List (List ℕ)) (v w : Job) → IsJob words v → IsJob words w → v ≡ w
one_job words v w a b =
    let p = one_beginning words a.rest b.rest a.spoken b.spoken a.task b.task in
    let own = subst (λ r. AreChoices b.spoken r a.chosen) p.1 (subst (λ t. AreChoices t a.rest a.chosen) p.0 a.options) in
    a.says ∙ ap₂ job_of p.0 (one_choices b.spoken b.rest a.chosen b.chosen own b.options) ∙ sym b.says

pub job_made : (words rest : List (List ℕ)) (task : Task) (job : Job) → BeginWith task words rest → IsJobOf task rest job → IsOnlyJob words job
job_made words rest task job t (o, a, untaxed, j) =
    let said : IsJob words (job_of task o) = record { spoken = task; rest = rest; task = t; chosen = o; options = a; untaxed = untaxed; says = refl } in
    subst (IsOnlyJob words) (sym j) (record { said = said; only = λ other h. one_job words other (job_of task o) h said })

pub no_choices : (words rest : List (List ℕ)) (task : Task) (job : Job) → BeginWith task words rest → ((o : Chosen) → AreChoices task rest o → TaxTerritory o) → ¬ IsJob words job
no_choices words rest task job t none a =
    let p = one_beginning words a.rest rest a.spoken task a.task t in
    a.untaxed (none a.chosen (subst (λ r. AreChoices task r a.chosen) p.1 (subst (λ u. AreChoices u a.rest a.chosen) p.0 a.options)))

-- words that begin with those of no task
pub no_task : (words rest : List (List ℕ)) (word argument : List ℕ) (job : Job) → words ≡ word ∷ argument ∷ rest → word ≢ codes "gtp" → ((task : Task) → ¬ AreFor word argument task) → ¬ IsJob words job
no_task words rest word argument job e apart_from none a =
    by_words _ a.spoken words a.rest a.task
    (λ d w. let k : Path (List (List ℕ)) (codes "gtp" ∷ a.rest) (word ∷ argument ∷ rest) = sym w ∙ e in apart_from cc)
    (λ (other, second, d, b). let k : Path (List (List ℕ)) (other ∷ second ∷ a.rest) (word ∷ argument ∷ rest) = sym d ∙ e in
    let first : other ≡ word = cc in
    let then : second ≡ argument = cc in
    none a.spoken (subst (λ x. AreFor x argument a.spoken) first (subst (λ x. AreFor other x a.spoken) then b)))

pub begins_with_engine : (words rest : List (List ℕ)) (word : List ℕ) → words ≡ word ∷ rest → word ≡ codes "gtp" → BeginWith gtp words rest
begins_with_engine words rest word e is = e ∙ ap (λ x. x ∷ rest) is

-- what holds of a value where there is one, and what where there is none
pub map_some : {A : Type 0} (P Q : A → Type 0) (r : Option A) → ((x : A) → P x → Q x) → IfSome r P → IfSome r Q
map_some P Q None f h = tt
map_some P Q (Some x) f h = f x h

pub map_none : {A : Type 0} (P Q : Type 0) (r : Option A) → (P → Q) → IfNone r P → IfNone r Q
map_none P Q None f h = f h
map_none P Q (Some x) f h = tt
