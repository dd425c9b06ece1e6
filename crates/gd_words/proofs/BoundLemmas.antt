-- The values of options are bounded.
use Rattle.std.proofs.Common.{◌≡◌, ◌≤◌, ◌∷◌, [], ℕ, zero, suc, ℤ, List, Bool, true, false, Some, None, arith, refl, sym, subst}
use Rattle.std.specs.Prelude.{Option, IfSome, ◌+◌, ◌*◌}
use Rattle.std.specs.List.{Contains}
use Rattle.std.proofs.lemmas.Int.{ints}
use Rattle.std.specs.Option.{unwrap_or}
use Rattle.local_graph.specs.declared.graph.TheConstants.{MOST_POSITIONS}
use Rattle.gd_words.specs.declared.choice.TheConstants.{MOST_MOVES, MOST_PARTS}
use Rattle.sgf_go.specs.declared.settings.TheConstants.{MOST_PRISONERS}
use Rattle.sgf_go.specs.declared.komi.TheConstants.{MOST_KOMI}
use Rattle.sgf_go.specs.Komi.{IsKomi, unsigned, positive, negative, IsHalves, halves, IsKomiFraction, nothing, zeros, half, IsInRange}
use Rattle.gd_words.specs.declared.choice.Choice.{Choice}
use Rattle.gd_words.specs.declared.choice.Choice.TheVariants.{Komi, After, BlackPrisoners, WhitePrisoners, Positions, Parts}
use Rattle.gd_words.specs.declared.chosen.Chosen.{Chosen}
use Rattle.gd_words.specs.Choice.{IsChoiceValue}
use Rattle.gd_words.specs.Task.{Task}
use Rattle.gd_words.specs.Job.{Spell, GivesOption, AreChoices, TaxTerritory, Job, job_of}
use Rattle.gd_words.specs.Bounds.{IsInRanges}

one_half : (bytes : List ℕ) (digits more : ℕ) → IsKomiFraction bytes digits more → more ≤ 1
one_half _ _ _ nothing = omega arith
one_half _ _ _ (zeros bytes z) = omega arith
one_half _ _ _ (half bytes z) = omega arith

few_halves : (bytes : List ℕ) (n : ℕ) → IsHalves bytes n → n ≤ 2 * MOST_KOMI + 1
few_halves _ _ (halves whole fraction digits more a l f s) = omega (arith, l, one_half fraction digits more f)

in_range : (word : List ℕ) (k : ℤ) → IsKomi word k → IsInRange k
in_range _ _ (unsigned bytes n h) = let f = few_halves bytes n h in (omega (arith, ints), omega (arith, ints))
in_range _ _ (positive bytes n h) = let f = few_halves bytes n h in (omega (arith, ints), omega (arith, ints))
in_range _ _ (negative bytes n h) = let f = few_halves bytes n h in (omega (arith, ints), omega (arith, ints))

-- each option has its word
spelt_value : (words : List (List ℕ)) (xs : List Choice) (x : Choice) → Spell words xs → Contains xs x → (word : List ℕ) × IsChoiceValue word x
spelt_value words [] x s c = absurd (omega (arith, c.1))
spelt_value [] (y ∷ ys) x s c = absurd s
spelt_value (n ∷ []) (y ∷ ys) x s c = absurd s
spelt_value (n ∷ v ∷ words) (y ∷ ys) x s (zero, h, e) = (v, subst (IsChoiceValue v) e s.0.1)
spelt_value (n ∷ v ∷ words) (y ∷ ys) x s (suc k, h, e) = spelt_value words ys x s.1 (k, omega (arith, h), e)

given_value : {A : Type 0} (P : A → Type 0) (option : A → Choice) (words : List (List ℕ)) (xs : List Choice) (o : Option A) → Spell words xs → GivesOption xs option o → ((word : List ℕ) (v : A) → IsChoiceValue word (option v) → P v) → IfSome o P
given_value P option words xs None s g each = tt
given_value P option words xs (Some v) s g each = let w = spelt_value words xs (option v) s g in each w.0 v w.1

or_default : (P : ℕ → Type 0) (o : Option ℕ) (d : ℕ) → P d → IfSome o P → P (unwrap_or o d)
or_default P None d p h = p
or_default P (Some n) d p h = h

-- with a tax no points are declared
declares_none : (tax territory : Option Bool) → ¬ ((tax ≡ Some true) × (territory ≡ Some true)) → unwrap_or tax false ≡ true → unwrap_or territory false ≡ false
declares_none (Some true) (Some true) apart taxed = absurd (apart (refl, refl))
declares_none (Some true) (Some false) apart taxed = refl
declares_none (Some true) None apart taxed = refl
declares_none (Some false) territory apart taxed = cc
declares_none None territory apart taxed = cc

pub within : (task : Task) (words : List (List ℕ)) (o : Chosen) (job : Job) → AreChoices task words o → ¬ TaxTerritory o → job ≡ job_of task o → IsInRanges job
within task words o job a untaxed j = subst IsInRanges (sym j) (record {
  komi = given_value IsInRange Komi words a.choices o.komi a.spelt a.said.komi in_range;
  after = given_value (λ n. n ≤ MOST_MOVES) After words a.choices o.after a.spelt a.said.after (λ word n v. v.most);
  black_prisoners = or_default (λ n. n ≤ MOST_PRISONERS) o.black_prisoners 0 (omega arith) (given_value (λ n. n ≤ MOST_PRISONERS) BlackPrisoners words a.choices o.black_prisoners a.spelt a.said.black_prisoners (λ word n v. v.most));
  white_prisoners = or_default (λ n. n ≤ MOST_PRISONERS) o.white_prisoners 0 (omega arith) (given_value (λ n. n ≤ MOST_PRISONERS) WhitePrisoners words a.choices o.white_prisoners a.spelt a.said.white_prisoners (λ word n v. v.most));
  some_positions = or_default (λ n. 1 ≤ n) o.positions 100000 (omega arith) (given_value (λ n. 1 ≤ n) Positions words a.choices o.positions a.spelt a.said.positions (λ word n v. v.least));
  few_positions = or_default (λ n. n ≤ MOST_POSITIONS) o.positions 100000 (omega arith) (given_value (λ n. n ≤ MOST_POSITIONS) Positions words a.choices o.positions a.spelt a.said.positions (λ word n v. v.most));
  some_parts = or_default (λ n. 1 ≤ n) o.parts 500 (omega arith) (given_value (λ n. 1 ≤ n) Parts words a.choices o.parts a.spelt a.said.parts (λ word n v. v.least));
  few_parts = or_default (λ n. n ≤ MOST_PARTS) o.parts 500 (omega arith) (given_value (λ n. n ≤ MOST_PARTS) Parts words a.choices o.parts a.spelt a.said.parts (λ word n v. v.most));
  untaxed = declares_none o.tax o.territory untaxed;
})
