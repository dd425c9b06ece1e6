-- A game of several parts, with two purses and a token: who loses is the sign of the sum of the parts' trees, the purses and the token.
use Rattle.std.proofs.Common.{ℕ, zero, suc, ◌≤◌, arith, ◌≡◌, inl, inr, sym, subst, ◌≢◌, ◌⊎◌, ◌+◌, ◌-◌, ◌<◌, refl, ap, ℤ, pos, ◌+ℤ◌, List, [], ◌∷◌, length, get_or, max, Contains}
use Rattle.std.specs.List.{sum_by}
use Rattle.std.proofs.lemmas.List.Sums.{get_or-le-sum_by}
use Rattle.whole_rules.specs.PlainRecursion.{WinsWithin, LosesWithin}
use Rattle.local_trees.specs.Ending.{EndsWithin}
use Rattle.go_grid.specs.declared.grid.Colour.{Colour}
use Rattle.go_grid.specs.Board.{other}
use Rattle.short_games.specs.Tree.{Tree, Has, neg, node, none}
use Rattle.short_games.specs.Order.{◌≡ᵍ◌}
use Rattle.game_players.specs.Players.{options, LosesGame, credit, gain}
use Rattle.game_players.proofs.PlayerLaws.{loses-same, loses-out, wins-option, loses-or_not, option_of_sum, option_in_first, option_in_second, gain-plus, gain-option, gain-has, gain-no_other}
use Rattle.go_grid.specs.declared.grid.Colour.TheVariants.{Black, White}
use Rattle.whole_rules.specs.declared.money.Token.{Token}
use Rattle.short_games.specs.Sum.{◌+ᵍ◌}
use Rattle.short_games.specs.Number.{num, whole, count_tree}
use Rattle.short_games.proofs.SumLaws.{InSum, plus-nought, plus-assoc, same-plus, same-swap}
use Rattle.short_games.proofs.SumLaws.InSum.{in_first, in_second}
use Rattle.short_games.proofs.NumberLaws.{num-zero, num-double, num-plus_le, num-le_plus}
use Rattle.endgame_solver.specs.SumGame.{token_tree, purses_tree, halves, balance, StepIn, parts_tree, AllEnd, EachPlayEnds, State, Leads, state_tree, IsDecidedBy}
use Rattle.endgame_solver.specs.SumGame.EachPlayEnds.{ends}
use Rattle.whole_rules.specs.Purses.{purse, paid_in, paid_out, halved}
use Rattle.whole_rules.specs.declared.money.Purses.{Purses}
use Rattle.short_games.proofs.OrderLaws.{same-refl, same-path, same-sym, same-trans}
use Rattle.local_trees.specs.LocalGame.{Step, StepsTo, tree_within}
use Rattle.local_trees.proofs.MoveLaws.{contains-cases, contains-head, contains-tail}
use Rattle.local_trees.proofs.TreeLaws.{move-option, option-move}
use Rattle.whole_rules.proofs.OutcomeLaws.{wins-not_loses}
use Rattle.whole_rules.specs.declared.money.Token.TheVariants as token

-- Plays that end, and games that match move by move.
module _ (S : Type 0) (Leads : S → S → Type 0) where
  pub ends-more : (n m : ℕ) (s : S) → n ≤ m → EndsWithin S Leads n s → EndsWithin S Leads m s
  ends-more zero zero s a e = e
  ends-more zero (suc m) s a e = λ t h. absurd (e t h)
  ends-more (suc n) zero s a e = absurd (omega (arith, a))
  ends-more (suc n) (suc m) s a e = λ t h. ends-more n m t (omega (arith, a)) (e t h)

  -- where play from each item ends within some number of moves, one number serves all
  some-bound : (X : Type 0) (at : X → S) (xs : List X) → ((x : X) → Contains xs x → (n : ℕ) × EndsWithin S Leads n (at x))
      → (n : ℕ) × ((x : X) → Contains xs x → EndsWithin S Leads n (at x))
  some-bound X at [] f = (0, λ x h. absurd (omega (arith, h.1)))
  some-bound X at (y ∷ xs) f =
      let (n, e) = f y (contains-head X y xs) in
      let (m, g) = some-bound X at xs (λ x h. f x (contains-tail X y x xs h)) in (
        max n m,
        λ x h. elim (contains-cases X y x xs h) [
          | inl same ↦ ends-more n (max n m) (at x) (omega arith) (subst (λ z. EndsWithin S Leads n (at z)) same e)
          | inr later ↦ ends-more m (max n m) (at x) (omega arith) (g x later)
        ],
      )

-- games that match move by move have the same outcomes
module _ (S T : Type 0) (LeadsS : S → S → Type 0) (LeadsT : T → T → Type 0) (R : S → T → Type 0) where
  pub record Matches : Type 0 where
    pub forth : (s r : S) (t : T) → R s t → LeadsS s r → (u : T) × LeadsT t u × R r u
    pub back : (s : S) (t u : T) → R s t → LeadsT t u → (r : S) × LeadsS s r × R r u

  module _ (m : Matches) where
    mutual
      pub wins-forth : (n : ℕ) (s : S) (t : T) → R s t → WinsWithin S LeadsS n s → WinsWithin T LeadsT n t
      wins-forth zero s t e w = w
      wins-forth (suc n) s t e w = let r = m.forth s w.0 t e w.1 in (r.0, r.1, loses-forth n w.0 r.0 r.2 w.2)

      pub loses-forth : (n : ℕ) (s : S) (t : T) → R s t → LosesWithin S LeadsS n s → LosesWithin T LeadsT n t
      loses-forth zero s t e l = λ u h. (let r = m.back s t u e h in l r.0 r.1)
      loses-forth (suc n) s t e l = λ u h. (let r = m.back s t u e h in wins-forth n r.0 u r.2 (l r.0 r.1))

-- Plain recursion over a game whose states have trees, such that the moves of a state lead to its tree's options.
module _ (S : Type 0) (Leads : S → S → Type 0) (side : S → Colour) (value : S → Tree) (Fine : S → Type 0) where
  pub record Mirrors : Type 0 where
    pub turn : (s t : S) → Fine s → Leads s t → side t ≡ other (side s)
    pub fine : (s t : S) → Fine s → Leads s t → Fine t
    -- each move leads to an option of the player to move, and each such option is met
    pub moved : (s t : S) → Fine s → Leads s t → (X : Tree) × Has (options (side s) (value s)) X × (X ≡ᵍ value t)
    pub met : (s : S) (X : Tree) → Fine s → Has (options (side s) (value s)) X → (t : S) × Leads s t × (X ≡ᵍ value t)

  -- the player to move loses where the tree says so, and else wins
  pub data Decided (n : ℕ) (s : S) : Type 0 where
    lost : LosesGame (side s) (value s) → LosesWithin S Leads n s → Decided n s
    won : (LosesGame (side s) (value s) → ⊥) → WinsWithin S Leads n s → Decided n s

  module _ (m : Mirrors) where
    lost-at : (n : ℕ) (s : S) → ((t : S) → Leads s t → Decided n t) → Fine s → LosesGame (side s) (value s) → LosesWithin S Leads (suc n) s
    lost-at n s ih f l = λ t h. elim (ih t h) [
      | won a w ↦ w
      | lost a w ↦ (let r = m.moved s t f h in
          absurd (loses-out (side s) (value s) r.0 l r.1 (loses-same (other (side s)) (value t) r.0 (r.2.1, r.2.0) (subst (λ c. LosesGame c (value t)) (m.turn s t f h) a))))
    ]

    won-at : (n : ℕ) (s : S) → ((t : S) → Leads s t → Decided n t) → Fine s → (LosesGame (side s) (value s) → ⊥) → WinsWithin S Leads (suc n) s
    won-at n s ih f l =
        let x = wins-option (side s) (value s) l in
        let r = m.met s x.0 f x.1 in (
          r.0,
          r.1,
          elim (ih r.0 r.1) [
            | lost a w ↦ w
            | won a w ↦ absurd (a (subst (λ c. LosesGame c (value r.0)) (sym (m.turn s r.0 f r.1)) (loses-same (other (side s)) x.0 (value r.0) r.2 x.2)))
          ],
        )

    pub decided : (n : ℕ) (s : S) → EndsWithin S Leads n s → Fine s → Decided n s
    decided zero s e f = elim (loses-or_not (side s) (value s)) [
      | inl l ↦ lost l e
      | inr l ↦ (let x = wins-option (side s) (value s) l in let r = m.met s x.0 f x.1 in absurd (e r.0 r.1))
    ]
    decided (suc n) s e f = elim (loses-or_not (side s) (value s)) [
      | inl l ↦ lost l (lost-at n s (λ t h. decided n t (e t h) (m.fine s t f h)) f l)
      | inr l ↦ won l (won-at n s (λ t h. decided n t (e t h) (m.fine s t f h)) f l)
    ]

-- The tree of two purses and a token: its options are the moves on them.

-- a unit paid in is a gain
pub pair-plus : (c : Colour) (a b k : ℕ) → ((gain Black a +ᵍ gain White b) +ᵍ gain c k) ≡ᵍ (let m = paid_in c k (record { black = a; white = b; token = token.Nobody }) in gain Black m.black +ᵍ gain White m.white)
pair-plus Black a b k = same-trans _ _ _
    (same-swap (gain Black a) (gain White b) (gain Black k))
    (same-plus _ _ _ _ (same-sym _ _ (gain-plus Black a k)) (same-refl (gain White b)))
pair-plus White a b k = same-trans _ _ _
    (same-path _ _ (plus-assoc (gain Black a) (gain White b) (gain White k)))
    (same-plus _ _ _ _ (same-refl (gain Black a)) (same-sym _ _ (gain-plus White b k)))

pub purses-plus : (c : Colour) (m : Purses) (k : ℕ) → (purses_tree m +ᵍ gain c k) ≡ᵍ purses_tree (paid_in c k m)
purses-plus Black m k = same-trans _ _ _
    (same-swap (gain Black m.black +ᵍ gain White m.white) (token_tree m.token) (gain Black k))
    (same-plus _ _ _ _ (pair-plus Black m.black m.white k) (same-refl (token_tree m.token)))
purses-plus White m k = same-trans _ _ _
    (same-swap (gain Black m.black +ᵍ gain White m.white) (token_tree m.token) (gain White k))
    (same-plus _ _ _ _ (pair-plus White m.black m.white k) (same-refl (token_tree m.token)))

-- what a move on the token is worth
pub reward : Token → Colour → Tree
reward token.Black White = gain Black 1
reward token.White Black = gain White 1
reward _ _ = num 0 (pos 0)

pub token-option : (c : Colour) (t : Token) (X : Tree) → Has (options c (token_tree t)) X → (t ≢ token.Nobody) × (X ≡ reward t c)
unfolding num whole count_tree neg reward
token-option Black token.Nobody X h = elim h [ ]
token-option White token.Nobody X h = elim h [ ]
token-option Black token.Black X (inl e) = (λ i. absurd (cc i), e)
token-option Black token.Black X (inr h) = elim h [ ]
token-option White token.Black X (inl e) = (λ i. absurd (cc i), e)
token-option White token.Black X (inr h) = elim h [ ]
token-option Black token.White X (inl e) = (λ i. absurd (cc i), e)
token-option Black token.White X (inr h) = elim h [ ]
token-option White token.White X (inl e) = (λ i. absurd (cc i), e)
token-option White token.White X (inr h) = elim h [ ]

pub token-has : (c : Colour) (t : Token) → t ≢ token.Nobody → Has (options c (token_tree t)) (reward t c)
unfolding num whole count_tree neg reward
token-has c token.Nobody h = absurd (h refl)
token-has Black token.Black h = inl refl
token-has White token.Black h = inl refl
token-has Black token.White h = inl refl
token-has White token.White h = inl refl

no_token : (G : Tree) → (G +ᵍ num 0 (pos 0)) ≡ G
no_token G = rw (num-zero 0) (plus-nought G)

pub halved-same : (c : Colour) (a b : ℕ) (t : Token) → ((gain Black a +ᵍ gain White b) +ᵍ reward t c) ≡ᵍ purses_tree (halved c (record { black = a; white = b; token = t }))
unfolding reward
halved-same Black a b token.Nobody = same-refl _
halved-same White a b token.Nobody = same-refl _
halved-same Black a b token.Black = same-refl _
halved-same White a b token.Black = same-trans _ _ _ (pair-plus Black a b 1) (same-path _ _ (sym (no_token _)))
halved-same Black a b token.White = same-trans _ _ _ (pair-plus White a b 1) (same-path _ _ (sym (no_token _)))
halved-same White a b token.White = same-refl _

-- a move on the purses and the token
abbrev pub IsPurseMove : Colour → Purses → Purses → Type 0
IsPurseMove c m n = ((1 ≤ purse c m) × (n ≡ paid_out c m)) ⊎ ((m.token ≢ token.Nobody) × (n ≡ halved c m))

one_less : (c : Colour) (n : ℕ) → 1 ≤ n → Has (options c (gain c n)) (gain c (n - 1))
one_less c zero h = absurd (omega (arith, h))
one_less c (suc n) h = let e : suc n - 1 ≡ n = omega arith in rw e (gain-has c n)

paid_out-option : (c : Colour) (m : Purses) → 1 ≤ purse c m → Has (options c (purses_tree m)) (purses_tree (paid_out c m))
paid_out-option Black m h = option_in_first Black _ _ _ (option_in_first Black _ _ _ (one_less Black m.black h))
paid_out-option White m h = option_in_first White _ _ _ (option_in_second White _ _ _ (one_less White m.white h))

purses-moved : (c : Colour) (m n : Purses) → IsPurseMove c m n → (X : Tree) × Has (options c (purses_tree m)) X × (X ≡ᵍ purses_tree n)
purses-moved c m n (inl (h, e)) = (purses_tree (paid_out c m), paid_out-option c m h, same-path _ _ (ap purses_tree (sym e)))
purses-moved c m n (inr (h, e)) = (
  (gain Black m.black +ᵍ gain White m.white) +ᵍ reward m.token c,
  option_in_second c _ _ _ (token-has c m.token h),
  same-trans _ _ _ (halved-same c m.black m.white m.token) (same-path _ _ (ap purses_tree (sym e))),
)

pub purses-met : (c : Colour) (m : Purses) (X : Tree) → Has (options c (purses_tree m)) X → (n : Purses) × IsPurseMove c m n × (X ≡ᵍ purses_tree n)
purses-met c m X h = at c X (option_of_sum c _ _ X h)
  where
    pairs : (d : Colour) (K : Tree) → InSum (gain Black m.black) (gain White m.white) (options d (gain Black m.black)) (options d (gain White m.white)) K → (n : Purses) × IsPurseMove d m n × ((K +ᵍ token_tree m.token) ≡ᵍ purses_tree n)
    pairs Black _ (in_first L l) = let r = gain-option Black m.black L l in (paid_out Black m, inl (r.0, refl), same-path _ _ (ap (λ z. (z +ᵍ gain White m.white) +ᵍ token_tree m.token) r.1))
    pairs White _ (in_first L l) = absurd (gain-no_other White m.black L l)
    pairs Black _ (in_second L l) = absurd (gain-no_other Black m.white L l)
    pairs White _ (in_second L l) = let r = gain-option White m.white L l in (paid_out White m, inl (r.0, refl), same-path _ _ (ap (λ z. (gain Black m.black +ᵍ z) +ᵍ token_tree m.token) r.1))

    at : (d : Colour) (Y : Tree) → InSum (gain Black m.black +ᵍ gain White m.white) (token_tree m.token) (options d (gain Black m.black +ᵍ gain White m.white)) (options d (token_tree m.token)) Y → (n : Purses) × IsPurseMove d m n × (Y ≡ᵍ purses_tree n)
    at d _ (in_first K k) = pairs d K (option_of_sum d _ _ K k)
    at d _ (in_second K k) = let r = token-option d m.token K k in (halved d m, inr (r.0, refl), same-trans _ _ _ (same-path _ _ (ap (λ z. (gain Black m.black +ᵍ gain White m.white) +ᵍ z) r.1)) (halved-same d m.black m.white m.token))

-- how many moves purses and a token can give
abbrev tokens : Token → ℕ
tokens token.Nobody = 0
tokens token.Black = 2
tokens token.White = 2

abbrev pub funds : Purses → ℕ
funds m = m.black + m.white + tokens m.token

pub paid_in-funds : (c : Colour) (k : ℕ) (m : Purses) → funds (paid_in c k m) ≡ funds m + k
paid_in-funds Black k m = omega arith
paid_in-funds White k m = omega arith

pub paid_out-funds : (c : Colour) (m : Purses) → 1 ≤ purse c m → funds (paid_out c m) < funds m
paid_out-funds Black m h = omega (arith, h)
paid_out-funds White m h = omega (arith, h)

halved-funds-by : (c : Colour) (a b : ℕ) (t : Token) → t ≢ token.Nobody → funds (halved c (record { black = a; white = b; token = t })) < a + b + tokens t
halved-funds-by c a b token.Nobody h = absurd (h refl)
halved-funds-by Black a b token.Black h = omega arith
halved-funds-by White a b token.Black h = omega arith
halved-funds-by Black a b token.White h = omega arith
halved-funds-by White a b token.White h = omega arith

pub halved-funds : (c : Colour) (m : Purses) → m.token ≢ token.Nobody → funds (halved c m) < funds m
halved-funds c m h = halved-funds-by c m.black m.white m.token h

pub purse-move-funds : (c : Colour) (m n : Purses) → IsPurseMove c m n → funds n < funds m
purse-move-funds c m n (inl (h, e)) = omega (arith, ap funds e, paid_out-funds c m h)
purse-move-funds c m n (inr (h, e)) = omega (arith, ap funds e, halved-funds c m h)

token-halves : (t : Token) → token_tree t ≡ num 1 (halves t)
unfolding num whole count_tree
token-halves token.Nobody = refl
token-halves token.Black = refl
token-halves token.White = refl

pub purses-balance : (m : Purses) → purses_tree m ≡ᵍ num 1 (balance m)
purses-balance m = let n : ℤ = credit Black m.black +ℤ credit White m.white in same-trans _ _ _
    (same-plus _ _ _ _ (num-plus_le 0 (credit Black m.black) (credit White m.white), num-le_plus 0 (credit Black m.black) (credit White m.white)) (same-path _ _ (token-halves m.token)))
    (rw (← num-double 0 n) (num-plus_le 1 (n +ℤ n) (halves m.token), num-le_plus 1 (n +ℤ n) (halves m.token)))

pub no_option : (c : Colour) (X : Tree) → Has (options c (node none none)) X → ⊥
no_option Black X h = h
no_option White X h = h

module _ (P : Type 0) (moves : Colour → P → List (Step P)) where
  -- The sum of the parts' trees: its options are the local moves.
  pub parts-moved : (n : ℕ) (c : Colour) (ps qs : List P) (k : ℕ) → AllEnd P moves n ps → StepIn P moves c ps qs k → (X : Tree) × Has (options c (parts_tree P moves n ps)) X × (X ≡ᵍ (parts_tree P moves n qs +ᵍ gain c k))
  unfolding parts_tree
  parts-moved n c [] qs k e h = absurd h
  parts-moved n c (p ∷ ps) [] k e h = absurd h
  parts-moved n c (p ∷ ps) (q ∷ qs) k e (inl (m, r)) = (
    (tree_within P moves n m.0.to +ᵍ gain c m.0.taken) +ᵍ parts_tree P moves n ps,
    option_in_first c _ _ _ (move-option P moves c n p m.0 e.0 m.1),
    same-trans _ _ _
        (same-swap (tree_within P moves n m.0.to) (gain c m.0.taken) (parts_tree P moves n ps))
        (same-path _ _ (λ i. (tree_within P moves n (m.2 i) +ᵍ parts_tree P moves n (r i)) +ᵍ gain c (m.3 i))),
  )
  parts-moved n c (p ∷ ps) (q ∷ qs) k e (inr (r, h)) = let x = parts-moved n c ps qs k e.1 h in (
    tree_within P moves n p +ᵍ x.0,
    option_in_second c _ _ _ x.1,
    same-trans _ _ _
        (same-plus _ _ _ _ (same-path _ _ (ap (tree_within P moves n) r)) x.2)
        (same-path _ _ (sym (plus-assoc (tree_within P moves n q) (parts_tree P moves n qs) (gain c k)))),
  )

  pub parts-met : (n : ℕ) (c : Colour) (ps : List P) (X : Tree) → AllEnd P moves n ps → Has (options c (parts_tree P moves n ps)) X → (qs : List P) × ((k : ℕ) × StepIn P moves c ps qs k × (X ≡ᵍ (parts_tree P moves n qs +ᵍ gain c k)))
  unfolding parts_tree
  parts-met n c [] X e h = absurd (no_option c X h)
  parts-met n c (p ∷ ps) X e h = at X (option_of_sum c _ _ X h) (λ K k. parts-met n c ps K e.1 k)
    where
      at : (Y : Tree) → InSum (tree_within P moves n p) (parts_tree P moves n ps) (options c (tree_within P moves n p)) (options c (parts_tree P moves n ps)) Y
          → ((K : Tree) → Has (options c (parts_tree P moves n ps)) K → (qs : List P) × ((k : ℕ) × StepIn P moves c ps qs k × (K ≡ᵍ (parts_tree P moves n qs +ᵍ gain c k))))
          → (qs : List P) × ((k : ℕ) × StepIn P moves c (p ∷ ps) qs k × (Y ≡ᵍ (parts_tree P moves n qs +ᵍ gain c k)))
      at _ (in_first K h) rest = let m = option-move P moves c n p K e.0 h in (
        m.0.to ∷ ps,
        (
          m.0.taken,
          inl ((m.0, m.1, refl, refl), refl),
          same-trans _ _ _
              (same-path _ _ (ap (λ z. z +ᵍ parts_tree P moves n ps) m.2))
              (same-swap (tree_within P moves n m.0.to) (gain c m.0.taken) (parts_tree P moves n ps)),
        ),
      )
      at _ (in_second K h) rest = let r = rest K h in (
        p ∷ r.0,
        (
          r.1.0,
          inr (refl, r.1.1),
          same-trans _ _ _
              (same-plus _ _ _ _ (same-refl (tree_within P moves n p)) r.1.2)
              (same-path _ _ (sym (plus-assoc (tree_within P moves n p) (parts_tree P moves n r.0) (gain c r.1.0)))),
        ),
      )

  ends-step : (n : ℕ) (p q : P) → EndsWithin P (StepsTo P moves) n p → StepsTo P moves p q → EndsWithin P (StepsTo P moves) n q
  ends-step zero p q e h = absurd (e q h)
  ends-step (suc n) p q e h = ends-more P (StepsTo P moves) n (suc n) q (omega arith) (e q h)

  pub all_end-step : (n : ℕ) (c : Colour) (ps qs : List P) (k : ℕ) → AllEnd P moves n ps → StepIn P moves c ps qs k → AllEnd P moves n qs
  all_end-step n c [] qs k e h = absurd h
  all_end-step n c (p ∷ ps) [] k e h = absurd h
  all_end-step n c (p ∷ ps) (q ∷ qs) k e (inl (m, r)) = (ends-step n p q e.0 (c, (m.0, m.1, m.2)), subst (λ z. AllEnd P moves n z) r e.1)
  all_end-step n c (p ∷ ps) (q ∷ qs) k e (inr (r, h)) = (subst (λ z. EndsWithin P (StepsTo P moves) n z) r e.0, all_end-step n c ps qs k e.1 h)

  -- A position whose plays all end has a bound for them, since each position has finitely many moves.
  ends-some : (p : P) → EachPlayEnds P moves p → (n : ℕ) × EndsWithin P (StepsTo P moves) n p
  ends-some p (ends f) =
      let after : (c : Colour) → (n : ℕ) × ((x : Step P) → Contains (moves c p) x → EndsWithin P (StepsTo P moves) n x.to) =
      λ c. some-bound P (StepsTo P moves) (Step P) (λ x. x.to) (moves c p) (λ x h. ends-some x.to (f x.to (c, (x, h, refl)))) in
      let (n, black) = after Black in
      let (m, white) = after White in (
        suc (max n m),
        λ q (c, (x, h, to)). subst (EndsWithin P (StepsTo P moves) (max n m)) to
            (elim c as (λ d. Contains (moves d p) x → EndsWithin P (StepsTo P moves) (max n m) x.to) [
              | Black ↦ λ among. ends-more P (StepsTo P moves) n (max n m) x.to (omega arith) (black x among)
              | White ↦ λ among. ends-more P (StepsTo P moves) m (max n m) x.to (omega arith) (white x among)
            ] h),
      )

  all_end : (n : ℕ) (ps : List P) → ((p : P) → Contains ps p → EndsWithin P (StepsTo P moves) n p) → AllEnd P moves n ps
  all_end n [] f = tt
  all_end n (p ∷ ps) f = (f p (contains-head P p ps), all_end n ps (λ q h. f q (contains-tail P p q ps h)))

  pub is_bounded : (ps : List P) → ((p : P) → Contains ps p → EachPlayEnds P moves p) → (n : ℕ) × AllEnd P moves n ps
  is_bounded ps f =
      let (n, e) = some-bound P (StepsTo P moves) P (λ p. p) ps (λ p h. ends-some p (f p h)) in
      (n, all_end n ps e)

  -- Each play of the whole game ends.

  -- no play in a part has more moves than its number says
  abbrev Lasts : List ℕ → List P → Type 0
  Lasts ns [] = Unit {0}
  Lasts [] (p ∷ ps) = ⊥
  Lasts (n ∷ ns) (p ∷ ps) = EndsWithin P (StepsTo P moves) n p × Lasts ns ps

  all_end-lasts : (n : ℕ) (ps : List P) → AllEnd P moves n ps → (ns : List ℕ) × Lasts ns ps
  all_end-lasts n [] e = ([], tt)
  all_end-lasts n (p ∷ ps) e = let r = all_end-lasts n ps e.1 in (n ∷ r.0, (e.0, r.1))

  -- what n local moves can bring: each counts, with the stones that it takes
  unfoldable yield : ℕ → P → ℕ
  yield zero p = 0
  yield (suc n) p =
      sum_by (λ x. suc (x.taken + yield n x.to)) (moves Black p) + sum_by (λ x. suc (x.taken + yield n x.to)) (moves White p)

  yield-step : (n : ℕ) (c : Colour) (p : P) (x : Step P) → Contains (moves c p) x → x.taken + yield n x.to < yield (suc n) p
  unfolding yield
  yield-step n c p x (i, lt, e) = by c lt e
    where
      brings : Step P → ℕ
      brings y = suc (y.taken + yield n y.to)

      one : (ys : List (Step P)) → i < length ys → get_or ys i x ≡ x → brings x ≤ sum_by brings ys
      one ys lt e = subst (λ z. brings z ≤ sum_by brings ys) e (get_or-le-sum_by brings ys i x lt)

      by : (d : Colour) → i < length (moves d p) → get_or (moves d p) i x ≡ x → x.taken + yield n x.to < yield (suc n) p
      by Black lt e = omega (arith, one (moves Black p) lt e)
      by White lt e = omega (arith, one (moves White p) lt e)

  abbrev yields : List ℕ → List P → ℕ
  yields ns [] = 0
  yields [] (p ∷ ps) = 0
  yields (n ∷ ns) (p ∷ ps) = yield n p + yields ns ps

  step-lasts : (c : Colour) (ns : List ℕ) (ps qs : List P) (k : ℕ) → Lasts ns ps → StepIn P moves c ps qs k → (ms : List ℕ) × Lasts ms qs × (yields ms qs + k < yields ns ps)
  step-lasts c ns [] qs k e h = absurd h
  step-lasts c ns (p ∷ ps) [] k e h = absurd h
  step-lasts c [] (p ∷ ps) (q ∷ qs) k e h = absurd e
  step-lasts c (zero ∷ ns) (p ∷ ps) (q ∷ qs) k e (inl (m, r)) = absurd (e.0 q (c, (m.0, m.1, m.2)))
  step-lasts c (suc n ∷ ns) (p ∷ ps) (q ∷ qs) k e (inl (m, r)) = (
    n ∷ ns,
    (e.0 q (c, (m.0, m.1, m.2)), subst (λ z. Lasts ns z) r e.1),
    omega (arith, yield-step n c p m.0 m.1, ap (yield n) m.2, m.3, ap (yields ns) r),
  )
  step-lasts c (n ∷ ns) (p ∷ ps) (q ∷ qs) k e (inr (r, h)) = let x = step-lasts c ns ps qs k e.1 h in (
    n ∷ x.0,
    (subst (λ z. EndsWithin P (StepsTo P moves) n z) r e.0, x.1),
    omega (arith, x.2, ap (yield n) r),
  )

  state-lasts : (ns : List ℕ) (s t : State P) → Lasts ns s.parts → Leads P moves s t
      → (ms : List ℕ) × Lasts ms t.parts × (yields ms t.parts + funds t.purses < yields ns s.parts + funds s.purses)
  state-lasts ns s t e h = elim h.move [
    | inl m ↦ (let x = step-lasts s.side ns s.parts t.parts m.0 e m.1 in (x.0, x.1, omega (arith, x.2, ap funds m.2, paid_in-funds s.side m.0 s.purses)))
    | inr (inl m) ↦ (ns, subst (λ z. Lasts ns z) (sym m.1) e, omega (arith, ap (yields ns) m.1, purse-move-funds s.side s.purses t.purses (inl (m.0, m.2))))
    | inr (inr m) ↦ (ns, subst (λ z. Lasts ns z) (sym m.1) e, omega (arith, ap (yields ns) m.1, purse-move-funds s.side s.purses t.purses (inr (m.0, m.2))))
  ]

  lasts-ends : (n : ℕ) (ns : List ℕ) (s : State P) → Lasts ns s.parts → yields ns s.parts + funds s.purses ≤ n → EndsWithin (State P) (Leads P moves) n s
  lasts-ends zero ns s e a = λ t h. (let r = state-lasts ns s t e h in absurd (omega (arith, r.2, a)))
  lasts-ends (suc n) ns s e a = λ t h. (let r = state-lasts ns s t e h in lasts-ends n r.0 t r.1 (omega (arith, r.2, a)))

  pub play-ends : (n : ℕ) (s : State P) → AllEnd P moves n s.parts → (b : ℕ) × EndsWithin (State P) (Leads P moves) b s
  play-ends n s e =
      let (ns, lasts) = all_end-lasts n s.parts e in
      (yields ns s.parts + funds s.purses, lasts-ends (yields ns s.parts + funds s.purses) ns s lasts (omega arith))

  -- Who loses the whole game is the sign of the sum of the parts' trees, the purses and the token.
  module _ (n : ℕ) where
    -- a gain beside the parts goes into the purses
    into_purses : (c : Colour) (s t : State P) (k : ℕ) → t.purses ≡ paid_in c k s.purses → ((parts_tree P moves n t.parts +ᵍ gain c k) +ᵍ purses_tree s.purses) ≡ᵍ state_tree P moves n t
    into_purses c s t k e = same-trans _ _ _
        (same-swap (parts_tree P moves n t.parts) (gain c k) (purses_tree s.purses))
        (same-trans _ _ _
        (same-path _ _ (plus-assoc (parts_tree P moves n t.parts) (purses_tree s.purses) (gain c k)))
        (same-plus _ _ _ _ (same-refl (parts_tree P moves n t.parts)) (same-trans _ _ _ (purses-plus c s.purses k) (same-path _ _ (ap purses_tree (sym e))))))

    state-moved : (s t : State P) → AllEnd P moves n s.parts → Leads P moves s t → (X : Tree) × Has (options s.side (state_tree P moves n s)) X
        × (X ≡ᵍ state_tree P moves n t)
    state-moved s t f h = elim h.move [
      | inl m ↦ (let x = parts-moved n s.side s.parts t.parts m.0 f m.1 in
          (x.0 +ᵍ purses_tree s.purses, option_in_first s.side _ _ _ x.1, same-trans _ _ _ (same-plus _ _ _ _ x.2 (same-refl (purses_tree s.purses))) (into_purses s.side s t m.0 m.2)))
      | inr (inl m) ↦ in_purses m.1 (purses-moved s.side s.purses t.purses (inl (m.0, m.2)))
      | inr (inr m) ↦ in_purses m.1 (purses-moved s.side s.purses t.purses (inr (m.0, m.2)))
    ]
      where
        in_purses : t.parts ≡ s.parts → (X : Tree) × Has (options s.side (purses_tree s.purses)) X × (X ≡ᵍ purses_tree t.purses) → (X : Tree) × Has (options s.side (state_tree P moves n s)) X × (X ≡ᵍ state_tree P moves n t)
        in_purses e x = (parts_tree P moves n s.parts +ᵍ x.0, option_in_second s.side _ _ _ x.1, same-plus _ _ _ _ (same-path _ _ (ap (parts_tree P moves n) (sym e))) x.2)

    state-met : (s : State P) (X : Tree) → AllEnd P moves n s.parts → Has (options s.side (state_tree P moves n s)) X
        → (t : State P) × Leads P moves s t × (X ≡ᵍ state_tree P moves n t)
    state-met s X f h = at X (option_of_sum s.side _ _ X h)
      where
        at : (Y : Tree) → InSum (parts_tree P moves n s.parts) (purses_tree s.purses) (options s.side (parts_tree P moves n s.parts)) (options s.side (purses_tree s.purses)) Y → (t : State P) × Leads P moves s t × (Y ≡ᵍ state_tree P moves n t)
        at _ (in_first K k) =
            let r = parts-met n s.side s.parts K f k in
            let t : State P = record { parts = r.0; purses = paid_in s.side r.1.0 s.purses; side = other s.side } in
            (t, record { turn = refl; move = inl (r.1.0, r.1.1, refl) }, same-trans _ _ _ (same-plus _ _ _ _ r.1.2 (same-refl (purses_tree s.purses))) (into_purses s.side s t r.1.0 refl))
        at _ (in_second K k) =
            let r = purses-met s.side s.purses K k in
            let t : State P = record { parts = s.parts; purses = r.0; side = other s.side } in
            (t, record { turn = refl; move = elim r.1 [ inl m ↦ inr (inl (m.0, refl, m.1)) | inr m ↦ inr (inr (m.0, refl, m.1)) ] }, same-plus _ _ _ _ (same-refl (parts_tree P moves n s.parts)) r.2)

    state-fine : (s t : State P) → AllEnd P moves n s.parts → Leads P moves s t → AllEnd P moves n t.parts
    state-fine s t f h = elim h.move [
      | inl m ↦ all_end-step n s.side s.parts t.parts m.0 f m.1
      | inr (inl m) ↦ subst (λ z. AllEnd P moves n z) (sym m.1) f
      | inr (inr m) ↦ subst (λ z. AllEnd P moves n z) (sym m.1) f
    ]

    mirrors : Mirrors (State P) (Leads P moves) (λ s. s.side) (state_tree P moves n) (λ s. AllEnd P moves n s.parts)
    mirrors = record { turn = λ s t f h. h.turn; fine = state-fine; moved = state-moved; met = state-met }

    pub decomposes : (s : State P) → AllEnd P moves n s.parts → IsDecidedBy P moves (state_tree P moves n s) s
    decomposes s f =
        let (b, e) = play-ends n s f in
        at b (decided (State P) (Leads P moves) (λ z. z.side) (state_tree P moves n) (λ z. AllEnd P moves n z.parts) mirrors b s e f)
      where
        at : (b : ℕ) → Decided (State P) (Leads P moves) (λ z. z.side) (state_tree P moves n) (λ z. AllEnd P moves n z.parts) b s → IsDecidedBy P moves (state_tree P moves n s) s
        at b (lost g w) = record { has_winner = inr (b, w); loser = (λ h. g, λ h. (b, w)) }
        at b (won g w) = record { has_winner = inl (b, w); loser = (λ h. absurd (wins-not_loses (State P) (Leads P moves) b h.0 s w h.1), λ h. absurd (g h)) }
