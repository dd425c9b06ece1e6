-- The ko rules that are played can be told, since boards can be compared.
use Rattle.std.proofs.Common.{◌≡◌, ℕ, ◌↔◌, inl, inr, refl, sym, ap, ◌∙◌, subst, List, [], ◌∷◌, length, get_or, drop, Bool, true, false, Contains, Option, None, Some}
use Rattle.std.proofs.lemmas.Bool.{cases_eq}
use Rattle.std.proofs.lemmas.List.{get_or_default}
use Rattle.std.proofs.lemmas.List.Elements.{Contains-get_or}
use Rattle.go_grid.specs.declared.grid.Colour.{Colour}
use Rattle.go_grid.specs.declared.grid.Colour.TheVariants as colour
use Rattle.go_grid.specs.Board.{Board}
use Rattle.go_grid.proofs.DecidedLemmas.{Decided, alike, both, some_below}
use Rattle.local_trees.proofs.MoveLaws.{same_cells_or_not}
use Rattle.whole_rules.specs.declared.states.Move.{Move}
use Rattle.whole_rules.specs.declared.states.Move.TheVariants.{Stone, Spend, Half}
use Rattle.whole_rules.specs.WholeGame.{Whole}
use Rattle.whole_budgets.specs.KoRules.{History, RepeatsBoard}
use Rattle.whole_budgets.specs.KoRuleLaws.{KoRulesExist}

-- a rule of what can be told
abbrev answer : {P : Type 0} → Decided P → Bool
answer (inl p) = true
answer (inr f) = false

told : {P : Type 0} → (d : Decided P) → (answer d ≡ true) ↔ P
told (inl p) = (λ e. p, λ q. refl)
told (inr f) = (λ e. cc, λ q. absurd (f q))

colour_or_not : (c d : Colour) → Decided (c ≡ d)
colour_or_not colour.Black colour.Black = inl refl
colour_or_not colour.White colour.White = inl refl
colour_or_not colour.Black colour.White = inr (λ e. cc)
colour_or_not colour.White colour.Black = inr (λ e. cc)

same_board : (g h : Board) → g.columns ≡ h.columns → g.rows ≡ h.rows → g.cells ≡ h.cells → g.declared ≡ h.declared → g ≡ h
same_board g h c r e d = λ i. record { columns = c i; rows = r i; cells = e i; declared = d i }

same_owner_or_not : (a b : Option Colour) → Decided (a ≡ b)
same_owner_or_not None None = inl refl
same_owner_or_not None (Some d) = inr (λ e. cc)
same_owner_or_not (Some c) None = inr (λ e. cc)
same_owner_or_not (Some c) (Some d) = alike (c ≡ d) (Some c ≡ Some d) (λ e. ap Some e) (λ e. cc) (colour_or_not c d)

same_declared_or_not : (a b : List (Option Colour)) → Decided (a ≡ b)
same_declared_or_not [] [] = inl refl
same_declared_or_not [] (y ∷ ys) = inr (λ e. cc)
same_declared_or_not (x ∷ xs) [] = inr (λ e. cc)
same_declared_or_not (x ∷ xs) (y ∷ ys) =
    alike ((x ≡ y) × (xs ≡ ys)) (x ∷ xs ≡ y ∷ ys) (λ (h, t). ap (λ z. z ∷ xs) h ∙ ap (λ zs. y ∷ zs) t)
    (λ e. (ap (λ zs. get_or zs 0 x) e, ap (λ zs. drop 1 zs) e)) (both _ _ (same_owner_or_not x y) (same_declared_or_not xs ys))

same_board_or_not : (g h : Board) → Decided (g ≡ h)
same_board_or_not g h =
    alike _ _ (λ (c, (r, (e, d))). same_board g h c r e d)
    (λ e. (ap (λ z. z.columns) e, (ap (λ z. z.rows) e, (ap (λ z. z.cells) e, ap (λ z. z.declared) e))))
    (both _ _ (cases_eq g.columns h.columns) (both _ _ (cases_eq g.rows h.rows)
    (both _ _ (same_cells_or_not g.cells h.cells) (same_declared_or_not g.declared h.declared))))

-- one of the list has what can be told of each
some_of : (us : List Whole) (P : Whole → Type 0) → ((u : Whole) → Decided (P u)) → (z : Whole) → Decided ((u : Whole) × Contains us u × P u)
some_of us P d z = alike _ _ (λ (k, lt, p). (get_or us k z, Contains-get_or us k z lt, p))
    (λ (u, (k, lt, at), p). (k, lt, subst P (sym (get_or_default us k z u lt ∙ at)) p))
    (some_below (length us) (λ k. P (get_or us k z)) (λ k. d (get_or us k z)))

-- the move is a stone of which something can be told
of_stone : (m : Move) (P : Type 0) → Decided P → Decided ((x : ℕ) × (m ≡ Stone x) × P)
of_stone (Stone y) P (inl p) = inl (y, refl, p)
of_stone (Stone y) P (inr f) = inr (λ (x, e, p). f p)
of_stone Spend P d = inr (λ (x, e, p). cc)
of_stone Half P d = inr (λ (x, e, p). cc)

just_before : (past : List Whole) (t : Whole) → Decided ((u : Whole) × (rest : List Whole) × (past ≡ u ∷ rest) × (u.board ≡ t.board))
just_before [] t = inr (λ (u, rest, e, same). cc)
just_before (v ∷ vs) t = alike _ _ (λ same. (v, vs, refl, same))
    (λ (u, rest, e, same). ap (λ z. (get_or z 0 v).board) e ∙ same) (same_board_or_not v.board t.board)

simple_or_not : (p : History) (m : Move) (t : Whole)
    → Decided ((x : ℕ) × (m ≡ Stone x) × ((u : Whole) × (rest : List Whole) × (p.past ≡ u ∷ rest) × (u.board ≡ t.board)))
simple_or_not p m t = of_stone m _ (just_before p.past t)

situational_or_not : (p : History) (m : Move) (t : Whole)
    → Decided ((x : ℕ) × (m ≡ Stone x) × ((u : Whole) × Contains (p.state ∷ p.past) u × (u.side ≡ t.side) × (u.board ≡ t.board)))
situational_or_not p m t = of_stone m _ (alike _ _ (λ (u, among, (side, same)). (u, among, side, same)) (λ (u, among, side, same). (u, among, (side, same)))
    (some_of (p.state ∷ p.past) (λ u. (u.side ≡ t.side) × (u.board ≡ t.board)) (λ u. both _ _ (colour_or_not u.side t.side) (same_board_or_not u.board t.board)) t))

positional_or_not : (p : History) (m : Move) (t : Whole) → Decided (RepeatsBoard p m t)
positional_or_not p m t = of_stone m _ (some_of (p.state ∷ p.past) (λ u. u.board ≡ t.board) (λ u. same_board_or_not u.board t.board) t)

pub rules_exist : KoRulesExist
rules_exist = (
  (λ p m t. answer (simple_or_not p m t), λ p m t. told (simple_or_not p m t)),
  (λ p m t. answer (situational_or_not p m t), λ p m t. told (situational_or_not p m t)),
  (λ p m t. answer (positional_or_not p m t), λ p m t. told (positional_or_not p m t)),
)
