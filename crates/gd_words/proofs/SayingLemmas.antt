-- What options say, with one option more.
use Rattle.std.proofs.Common.{◌≡◌, ◌≢◌, ◌<◌, ◌++◌, ◌∷◌, [], ℕ, List, Some, None, inl, inr, length, get_or, arith, refl, sym, subst}
use Rattle.std.specs.Prelude.{Option}
use Rattle.std.specs.List.{Contains}
use Rattle.std.proofs.lemmas.List.Elements.{Contains-get_or, Contains-append_left, Contains-push, Contains-push_cases}
use Rattle.gd_words.specs.declared.choice.Choice.{Choice}
use Rattle.gd_words.specs.declared.choice.Choice.TheVariants.{Komi, Turn, After, BlackPrisoners, WhitePrisoners, Positions, Parts, Engine, Tax, Territory, Cycles, KeepBoard}
use Rattle.gd_words.specs.declared.chosen.Chosen.{Chosen}
use Rattle.gd_words.specs.Choice.{name_of}
use Rattle.gd_words.specs.Job.{GivesOption, Say}
use Rattle.gd_words.specs.inner.Reading.{IsWith}
use Rattle.gd_words.proofs.NameLemmas.{IsOnly, komi_only, turn_only, after_only, black_only, white_only, positions_only, parts_only, engine_only, tax_only, territory_only, cycles_only, board_only}

-- no option of the list has the name
abbrev pub IsNew : List Choice → List ℕ → Type 0
IsNew xs name = (k : ℕ) (d : Choice) → k < length xs → name_of (get_or xs k d) ≢ name

-- some option of the list has the name
abbrev pub IsOld : List Choice → List ℕ → Type 0
IsOld xs name = (x : Choice) × Contains xs x × (name_of x ≡ name)

not_there : {A : Type 0} (option : A → Choice) (xs : List Choice) (v : A) (o : Option A) → IsOnly option (name_of (option v)) → GivesOption xs option o → o ≡ None → IsNew xs (name_of (option v))
not_there option xs v o only g none k d h e =
    let m = only (get_or xs k d) e in
    subst (GivesOption xs option) none g m.0 (subst (Contains xs) m.1 (Contains-get_or xs k d h))

pub fresh : (xs : List Choice) (o p : Chosen) (x : Choice) → Say xs o → IsWith o x p → IsNew xs (name_of x)
fresh xs o p (Komi v) s w = not_there Komi xs v o.komi komi_only s.komi w.0
fresh xs o p (Turn v) s w = not_there Turn xs v o.turn turn_only s.turn w.0
fresh xs o p (After v) s w = not_there After xs v o.after after_only s.after w.0
fresh xs o p (BlackPrisoners v) s w = not_there BlackPrisoners xs v o.black_prisoners black_only s.black_prisoners w.0
fresh xs o p (WhitePrisoners v) s w = not_there WhitePrisoners xs v o.white_prisoners white_only s.white_prisoners w.0
fresh xs o p (Positions v) s w = not_there Positions xs v o.positions positions_only s.positions w.0
fresh xs o p (Parts v) s w = not_there Parts xs v o.parts parts_only s.parts w.0
fresh xs o p (Engine v) s w = not_there Engine xs v o.engine engine_only s.engine w.0
fresh xs o p (Tax v) s w = not_there Tax xs v o.tax tax_only s.tax w.0
fresh xs o p (Territory v) s w = not_there Territory xs v o.territory territory_only s.territory w.0
fresh xs o p (Cycles v) s w = not_there Cycles xs v o.cycles cycles_only s.cycles w.0
fresh xs o p (KeepBoard v) s w = not_there KeepBoard xs v o.keep_board board_only s.keep_board w.0

there : {A : Type 0} (option : A → Choice) (xs : List Choice) (o : Option A) → GivesOption xs option o → o ≢ None → (v : A) × Contains xs (option v)
there option xs (Some v) g n = (v, g)
there option xs None g n = absurd (n refl)

pub given : (xs : List Choice) (o : Chosen) (x : Choice) → Say xs o → ((p : Chosen) → ¬ IsWith o x p) → IsOld xs (name_of x)
given xs o (Komi v) s n = let t = there Komi xs o.komi s.komi (λ e. n (record o { komi = Some v }) (e, refl)) in (Komi t.0, t.1, refl)
given xs o (Turn v) s n = let t = there Turn xs o.turn s.turn (λ e. n (record o { turn = Some v }) (e, refl)) in (Turn t.0, t.1, refl)
given xs o (After v) s n = let t = there After xs o.after s.after (λ e. n (record o { after = Some v }) (e, refl)) in (After t.0, t.1, refl)
given xs o (BlackPrisoners v) s n = let t = there BlackPrisoners xs o.black_prisoners s.black_prisoners (λ e. n (record o { black_prisoners = Some v }) (e, refl)) in (BlackPrisoners t.0, t.1, refl)
given xs o (WhitePrisoners v) s n = let t = there WhitePrisoners xs o.white_prisoners s.white_prisoners (λ e. n (record o { white_prisoners = Some v }) (e, refl)) in (WhitePrisoners t.0, t.1, refl)
given xs o (Positions v) s n = let t = there Positions xs o.positions s.positions (λ e. n (record o { positions = Some v }) (e, refl)) in (Positions t.0, t.1, refl)
given xs o (Parts v) s n = let t = there Parts xs o.parts s.parts (λ e. n (record o { parts = Some v }) (e, refl)) in (Parts t.0, t.1, refl)
given xs o (Engine v) s n = let t = there Engine xs o.engine s.engine (λ e. n (record o { engine = Some v }) (e, refl)) in (Engine t.0, t.1, refl)
given xs o (Tax v) s n = let t = there Tax xs o.tax s.tax (λ e. n (record o { tax = Some v }) (e, refl)) in (Tax t.0, t.1, refl)
given xs o (Territory v) s n = let t = there Territory xs o.territory s.territory (λ e. n (record o { territory = Some v }) (e, refl)) in (Territory t.0, t.1, refl)
given xs o (Cycles v) s n = let t = there Cycles xs o.cycles s.cycles (λ e. n (record o { cycles = Some v }) (e, refl)) in (Cycles t.0, t.1, refl)
given xs o (KeepBoard v) s n = let t = there KeepBoard xs o.keep_board s.keep_board (λ e. n (record o { keep_board = Some v }) (e, refl)) in (KeepBoard t.0, t.1, refl)

other : {A : Type 0} (option : A → Choice) (xs : List Choice) (x : Choice) (o : Option A) → ((v : A) → option v ≢ x) → GivesOption xs option o → GivesOption (xs ++ x ∷ []) option o
other option xs x (Some v) n g = Contains-append_left xs (x ∷ []) (option v) g
other option xs x None n g = λ v c. elim (Contains-push_cases xs x (option v) c) [ inl a ↦ g v a | inr b ↦ n v (sym b) ]

-- what an option says once another one stands behind it
abbrev Next : {A : Type 0} → (A → Choice) → (Chosen → Option A) → Type 0
Next option value = (xs : List Choice) (o p : Chosen) (x : Choice) → GivesOption xs option (value o) → IsWith o x p → GivesOption (xs ++ x ∷ []) option (value p)

komi_next : Next Komi (λ o. o.komi)
komi_next xs o p (Komi v) g w = subst (λ q. GivesOption (xs ++ Komi v ∷ []) Komi q.komi) (sym w.1) (Contains-push xs (Komi v))
komi_next xs o p x g w = subst (λ q. GivesOption (xs ++ x ∷ []) Komi q.komi) (sym w.1) (other Komi xs x o.komi (λ v e. cc) g)

turn_next : Next Turn (λ o. o.turn)
turn_next xs o p (Turn v) g w = subst (λ q. GivesOption (xs ++ Turn v ∷ []) Turn q.turn) (sym w.1) (Contains-push xs (Turn v))
turn_next xs o p x g w = subst (λ q. GivesOption (xs ++ x ∷ []) Turn q.turn) (sym w.1) (other Turn xs x o.turn (λ v e. cc) g)

after_next : Next After (λ o. o.after)
after_next xs o p (After v) g w = subst (λ q. GivesOption (xs ++ After v ∷ []) After q.after) (sym w.1) (Contains-push xs (After v))
after_next xs o p x g w = subst (λ q. GivesOption (xs ++ x ∷ []) After q.after) (sym w.1) (other After xs x o.after (λ v e. cc) g)

black_prisoners_next : Next BlackPrisoners (λ o. o.black_prisoners)
black_prisoners_next xs o p (BlackPrisoners v) g w = subst (λ q. GivesOption (xs ++ BlackPrisoners v ∷ []) BlackPrisoners q.black_prisoners) (sym w.1) (Contains-push xs (BlackPrisoners v))
black_prisoners_next xs o p x g w = subst (λ q. GivesOption (xs ++ x ∷ []) BlackPrisoners q.black_prisoners) (sym w.1) (other BlackPrisoners xs x o.black_prisoners (λ v e. cc) g)

white_prisoners_next : Next WhitePrisoners (λ o. o.white_prisoners)
white_prisoners_next xs o p (WhitePrisoners v) g w = subst (λ q. GivesOption (xs ++ WhitePrisoners v ∷ []) WhitePrisoners q.white_prisoners) (sym w.1) (Contains-push xs (WhitePrisoners v))
white_prisoners_next xs o p x g w = subst (λ q. GivesOption (xs ++ x ∷ []) WhitePrisoners q.white_prisoners) (sym w.1) (other WhitePrisoners xs x o.white_prisoners (λ v e. cc) g)

positions_next : Next Positions (λ o. o.positions)
positions_next xs o p (Positions v) g w = subst (λ q. GivesOption (xs ++ Positions v ∷ []) Positions q.positions) (sym w.1) (Contains-push xs (Positions v))
positions_next xs o p x g w = subst (λ q. GivesOption (xs ++ x ∷ []) Positions q.positions) (sym w.1) (other Positions xs x o.positions (λ v e. cc) g)

parts_next : Next Parts (λ o. o.parts)
parts_next xs o p (Parts v) g w = subst (λ q. GivesOption (xs ++ Parts v ∷ []) Parts q.parts) (sym w.1) (Contains-push xs (Parts v))
parts_next xs o p x g w = subst (λ q. GivesOption (xs ++ x ∷ []) Parts q.parts) (sym w.1) (other Parts xs x o.parts (λ v e. cc) g)

engine_next : Next Engine (λ o. o.engine)
engine_next xs o p (Engine v) g w = subst (λ q. GivesOption (xs ++ Engine v ∷ []) Engine q.engine) (sym w.1) (Contains-push xs (Engine v))
engine_next xs o p x g w = subst (λ q. GivesOption (xs ++ x ∷ []) Engine q.engine) (sym w.1) (other Engine xs x o.engine (λ v e. cc) g)

tax_next : Next Tax (λ o. o.tax)
tax_next xs o p (Tax v) g w = subst (λ q. GivesOption (xs ++ Tax v ∷ []) Tax q.tax) (sym w.1) (Contains-push xs (Tax v))
tax_next xs o p x g w = subst (λ q. GivesOption (xs ++ x ∷ []) Tax q.tax) (sym w.1) (other Tax xs x o.tax (λ v e. cc) g)

territory_next : Next Territory (λ o. o.territory)
territory_next xs o p (Territory v) g w = subst (λ q. GivesOption (xs ++ Territory v ∷ []) Territory q.territory) (sym w.1) (Contains-push xs (Territory v))
territory_next xs o p x g w = subst (λ q. GivesOption (xs ++ x ∷ []) Territory q.territory) (sym w.1) (other Territory xs x o.territory (λ v e. cc) g)

cycles_next : Next Cycles (λ o. o.cycles)
cycles_next xs o p (Cycles v) g w = subst (λ q. GivesOption (xs ++ Cycles v ∷ []) Cycles q.cycles) (sym w.1) (Contains-push xs (Cycles v))
cycles_next xs o p x g w = subst (λ q. GivesOption (xs ++ x ∷ []) Cycles q.cycles) (sym w.1) (other Cycles xs x o.cycles (λ v e. cc) g)

board_next : Next KeepBoard (λ o. o.keep_board)
board_next xs o p (KeepBoard v) g w = subst (λ q. GivesOption (xs ++ KeepBoard v ∷ []) KeepBoard q.keep_board) (sym w.1) (Contains-push xs (KeepBoard v))
board_next xs o p x g w = subst (λ q. GivesOption (xs ++ x ∷ []) KeepBoard q.keep_board) (sym w.1) (other KeepBoard xs x o.keep_board (λ v e. cc) g)

pub say_more : (xs : List Choice) (o p : Chosen) (x : Choice) → Say xs o → IsWith o x p → Say (xs ++ x ∷ []) p
say_more xs o p x s w = record {
  komi = komi_next xs o p x s.komi w;
  turn = turn_next xs o p x s.turn w;
  after = after_next xs o p x s.after w;
  black_prisoners = black_prisoners_next xs o p x s.black_prisoners w;
  white_prisoners = white_prisoners_next xs o p x s.white_prisoners w;
  positions = positions_next xs o p x s.positions w;
  parts = parts_next xs o p x s.parts w;
  engine = engine_next xs o p x s.engine w;
  tax = tax_next xs o p x s.tax w;
  territory = territory_next xs o p x s.territory w;
  cycles = cycles_next xs o p x s.cycles w;
  keep_board = board_next xs o p x s.keep_board w;
}

-- the options that say nothing
abbrev pub IsUnsaid : Chosen → Type 0
IsUnsaid o = (o.komi ≡ None) × ((o.turn ≡ None) × ((o.after ≡ None) × ((o.black_prisoners ≡ None) × ((o.white_prisoners ≡ None) × ((o.positions ≡ None) × ((o.parts ≡ None) × ((o.engine ≡ None) × ((o.tax ≡ None) × ((o.territory ≡ None) × ((o.cycles ≡ None) × (o.keep_board ≡ None)))))))))))

nothing : {A : Type 0} (option : A → Choice) (o : Option A) → o ≡ None → GivesOption [] option o
nothing option (Some v) e = cc
nothing option None e = λ v c. absurd (omega (arith, c.1))

pub say_nothing : (o : Chosen) → IsUnsaid o → Say [] o
say_nothing o e = record {
  komi = nothing Komi o.komi e.0;
  turn = nothing Turn o.turn e.1.0;
  after = nothing After o.after e.1.1.0;
  black_prisoners = nothing BlackPrisoners o.black_prisoners e.1.1.1.0;
  white_prisoners = nothing WhitePrisoners o.white_prisoners e.1.1.1.1.0;
  positions = nothing Positions o.positions e.1.1.1.1.1.0;
  parts = nothing Parts o.parts e.1.1.1.1.1.1.0;
  engine = nothing Engine o.engine e.1.1.1.1.1.1.1.0;
  tax = nothing Tax o.tax e.1.1.1.1.1.1.1.1.0;
  territory = nothing Territory o.territory e.1.1.1.1.1.1.1.1.1.0;
  cycles = nothing Cycles o.cycles e.1.1.1.1.1.1.1.1.1.1.0;
  keep_board = nothing KeepBoard o.keep_board e.1.1.1.1.1.1.1.1.1.1.1;
}
