-- Under situational superko the same player wins, where no half is left: play that comes back to a board with the same side to move
-- has cost both players as much, and who always moves to a state that is lost soonest doesn't come back.
use Rattle.std.proofs.Common.{◌≡◌, ℕ, zero, suc, ◌+◌, ◌-◌, ◌*◌, ◌≤◌, ◌<◌, inl, inr, refl, sym, ap, ◌∙◌, subst, arith, List, [], ◌∷◌, Contains}
use Rattle.std.proofs.lemmas.Bool.{cases_lt}
use Rattle.go_grid.specs.declared.grid.Colour.{Colour}
use Rattle.go_grid.specs.declared.grid.Colour.TheVariants as colour
use Rattle.go_grid.specs.Board.{other}
use Rattle.local_graph.specs.inner.Ranks.{stones_of}
use Rattle.local_graph.proofs.CaptureLemmas.{both_colours}
use Rattle.local_trees.proofs.MoveLaws.{contains-cases}
use Rattle.whole_rules.specs.declared.money.Token.TheVariants as token
use Rattle.whole_rules.specs.declared.states.Move.{Move}
use Rattle.whole_rules.specs.declared.states.Move.TheVariants.{Stone, Spend, Half}
use Rattle.whole_rules.specs.PlainRecursion.{WinsWithin, LosesWithin}
use Rattle.whole_rules.specs.Purses.{purse, paid_in, paid_out, halved}
use Rattle.whole_rules.specs.WholeGame.{Whole, Leads, IsMove, after}
use Rattle.whole_rules.proofs.OutcomeLaws.{loses-more}
use Rattle.whole_rules.proofs.PlainLaws.{move_turn}
use Rattle.whole_budgets.specs.KoRules.{History, KoRule, Forbids, IsSituationalSuperko, LeadsUnder, beginning}
use Rattle.whole_budgets.specs.SituationalSuperko.{WinnersStandUnderSuperko}
use Rattle.whole_budgets.proofs.BudgetPlayLemmas.{other_not, other_twice}
use Rattle.whole_budgets.proofs.DecidedPlayLemmas.{least_of, loses_or_not}
use Rattle.whole_budgets.proofs.SimpleKoLemmas.{lifted, loses_poorer, one_more, returned, richer, richer_half, richer_in, richer_out, richer_purses, theirs_some}

-- So many points more for each player.

richer_by : ℕ → Whole → Whole
richer_by zero s = s
richer_by (suc k) s = richer (richer_by k s)

-- what is lost with more is lost with less, as soon
poorer_loses : (k n : ℕ) (s : Whole) → LosesWithin Whole Leads n (richer_by k s) → LosesWithin Whole Leads n s
unfolding richer_by
poorer_loses zero n s l = l
poorer_loses (suc k) n s l = poorer_loses k n s (loses_poorer n (richer_by k s) l)

-- Who is to move where each player has a point more has the moves that there are without it, and may spend the point: then the other
-- player spends one too.
answered : (n : ℕ) (s : Whole) → LosesWithin Whole Leads n s → ((u : Whole) (m : Move) → IsMove s m u → WinsWithin Whole Leads (suc n) (richer u))
    → (t : Whole) (m : Move) → IsMove (richer s) m t → WinsWithin Whole Leads (suc n) t
unfolding richer_purses
answered n s l later t (Stone p) (inside, (h, (k, placed, taken, is))) =
    let u = after h (paid_in s.side k s.purses) s in
    let e : t ≡ richer u = is ∙ ap (λ z. after h z (richer s)) (sym (richer_in s.side k s.purses)) in
    subst (WinsWithin Whole Leads (suc n)) (sym e) (later u (Stone p) (inside, (h, (k, placed, taken, refl))))
answered n s l later t Half (there, is) =
    let u = after s.board (halved s.side s.purses) s in
    let e : t ≡ richer u = is ∙ ap (λ z. after s.board z (richer s)) (sym (richer_half s.side s.purses)) in
    subst (WinsWithin Whole Leads (suc n)) (sym e) (later u Half (there, refl))
answered n s l later t Spend (some, is) = elim (cases_lt 0 (purse s.side s.purses)) [
  | inl own ↦
      let u = after s.board (paid_out s.side s.purses) s in
      let e : t ≡ richer u = is ∙ ap (λ z. after s.board z (richer s)) (sym (richer_out s.side s.purses (omega (arith, own)))) in
      subst (WinsWithin Whole Leads (suc n)) (sym e) (later u Spend (omega (arith, own), refl))
  | inr none ↦ subst (WinsWithin Whole Leads (suc n)) (sym is) (s, (Spend, (theirs_some s.side s.purses, returned s)), l)
]

mutual
  -- what is won or lost is so with a point more two moves later
  wins_richer : (n : ℕ) (s : Whole) → WinsWithin Whole Leads n s → WinsWithin Whole Leads (suc (suc n)) (richer s)
  wins_richer zero s w = absurd w
  wins_richer (suc n) s (t, (m, move), l) = (richer t, (m, lifted s t m move), loses_richer n t l)

  loses_richer : (n : ℕ) (s : Whole) → LosesWithin Whole Leads n s → LosesWithin Whole Leads (suc (suc n)) (richer s)
  loses_richer zero s l = λ t h. answered zero s l (λ u m move. absurd (l u (m, move))) t h.0 h.1
  loses_richer (suc n) s l = λ t h. answered (suc n) s l (λ u m move. wins_richer n u (l u (m, move))) t h.0 h.1

richer_loses : (k n : ℕ) (s : Whole) → LosesWithin Whole Leads n s → LosesWithin Whole Leads (n + 2 * k) (richer_by k s)
unfolding richer_by
richer_loses zero n s l = let e : n ≡ n + 2 * 0 = omega arith in subst (λ m. LosesWithin Whole Leads m s) e l
richer_loses (suc k) n s l =
    let e : suc (suc (n + 2 * k)) ≡ n + 2 * suc k = omega arith in
    subst (λ m. LosesWithin Whole Leads m (richer (richer_by k s))) e (loses_richer (n + 2 * k) (richer_by k s) (richer_loses k n s l))

richer_is : (k : ℕ) (s : Whole) → richer_by k s
    ≡ record { board = s.board; contested = s.contested; purses = record { black = s.purses.black + k; white = s.purses.white + k; token = s.purses.token }; side = s.side }
unfolding richer_by richer_purses
richer_is zero s =
    let b : s.purses.black ≡ s.purses.black + 0 = omega arith in
    let w : s.purses.white ≡ s.purses.white + 0 = omega arith in
    λ i. record { board = s.board; contested = s.contested; purses = record { black = b i; white = w i; token = s.purses.token }; side = s.side }
richer_is (suc k) s =
    let b : (s.purses.black + k) + 1 ≡ s.purses.black + suc k = omega arith in
    let w : (s.purses.white + k) + 1 ≡ s.purses.white + suc k = omega arith in
    ap richer (richer_is k s)
    ∙ (λ i. record { board = s.board; contested = s.contested; purses = record { black = b i; white = w i; token = s.purses.token }; side = s.side })

-- What play costs.

-- 1 where it is Black's turn
abbrev turn : Colour → ℕ
turn colour.Black = 1
turn colour.White = 0

abbrev up : Whole → ℕ
up s = s.purses.black + stones_of colour.White s.board.cells

abbrev down : Whole → ℕ
down s = s.purses.white + stones_of colour.Black s.board.cells + turn s.side

abbrev both_purses : Whole → ℕ
both_purses s = s.purses.black + s.purses.white

-- a move has cost the player who made it one point
record IsCost (s t : Whole) : Type 0 where
  level : up s + down t ≡ up t + down s
  fewer : both_purses s ≤ both_purses t + 1
  quiet : t.purses.token ≡ token.Nobody
  ground : t.contested ≡ s.contested

stone_cost : (c : Colour) (s t : Whole) (p : ℕ) → s.side ≡ c → s.purses.token ≡ token.Nobody → IsMove s (Stone p) t → IsCost s t × (both_purses s ≤ both_purses t)
stone_cost colour.Black s t p e quiet (mark, (h, (n, placed, number, is))) =
    let black : t.purses.black ≡ s.purses.black + n = ap (λ z. z.purses.black) is ∙ ap (λ d. (paid_in d n s.purses).black) e in
    let white : t.purses.white ≡ s.purses.white = ap (λ z. z.purses.white) is ∙ ap (λ d. (paid_in d n s.purses).white) e in
    let before : turn s.side ≡ 1 = ap turn e in
    let later : turn t.side ≡ 0 = ap (λ z. turn z.side) is ∙ ap (λ d. turn (other d)) e in
    let own = subst (λ d. stones_of d h.cells ≡ stones_of d s.board.cells + 1) e (one_more s.board.cells h.cells s.side p placed.1) in
    let blacks : stones_of colour.Black t.board.cells ≡ stones_of colour.Black h.cells = ap (λ z. stones_of colour.Black z.board.cells) is in
    let whites : stones_of colour.White t.board.cells ≡ stones_of colour.White h.cells = ap (λ z. stones_of colour.White z.board.cells) is in
    let all = both_colours colour.Black s.board.cells in
    let all' = both_colours colour.Black h.cells in (
      record {
        level = omega (arith, black, white, before, later, own, blacks, whites, all, all', number);
        fewer = omega (arith, black, white);
        quiet = ap (λ z. z.purses.token) is ∙ ap (λ d. (paid_in d n s.purses).token) e ∙ quiet;
        ground = ap (λ z. z.contested) is;
      },
      omega (arith, black, white),
    )
stone_cost colour.White s t p e quiet (mark, (h, (n, placed, number, is))) =
    let black : t.purses.black ≡ s.purses.black = ap (λ z. z.purses.black) is ∙ ap (λ d. (paid_in d n s.purses).black) e in
    let white : t.purses.white ≡ s.purses.white + n = ap (λ z. z.purses.white) is ∙ ap (λ d. (paid_in d n s.purses).white) e in
    let before : turn s.side ≡ 0 = ap turn e in
    let later : turn t.side ≡ 1 = ap (λ z. turn z.side) is ∙ ap (λ d. turn (other d)) e in
    let own = subst (λ d. stones_of d h.cells ≡ stones_of d s.board.cells + 1) e (one_more s.board.cells h.cells s.side p placed.1) in
    let blacks : stones_of colour.Black t.board.cells ≡ stones_of colour.Black h.cells = ap (λ z. stones_of colour.Black z.board.cells) is in
    let whites : stones_of colour.White t.board.cells ≡ stones_of colour.White h.cells = ap (λ z. stones_of colour.White z.board.cells) is in
    let all = both_colours colour.Black s.board.cells in
    let all' = both_colours colour.Black h.cells in (
      record {
        level = omega (arith, black, white, before, later, own, blacks, whites, all, all', number);
        fewer = omega (arith, black, white);
        quiet = ap (λ z. z.purses.token) is ∙ ap (λ d. (paid_in d n s.purses).token) e ∙ quiet;
        ground = ap (λ z. z.contested) is;
      },
      omega (arith, black, white),
    )

spend_cost : (c : Colour) (s t : Whole) → s.side ≡ c → s.purses.token ≡ token.Nobody → IsMove s Spend t → IsCost s t
spend_cost colour.Black s t e quiet (some, is) =
    let some' = subst (λ d. 1 ≤ purse d s.purses) e some in
    let black : t.purses.black ≡ s.purses.black - 1 = ap (λ z. z.purses.black) is ∙ ap (λ d. (paid_out d s.purses).black) e in
    let white : t.purses.white ≡ s.purses.white = ap (λ z. z.purses.white) is ∙ ap (λ d. (paid_out d s.purses).white) e in
    let before : turn s.side ≡ 1 = ap turn e in
    let later : turn t.side ≡ 0 = ap (λ z. turn z.side) is ∙ ap (λ d. turn (other d)) e in
    let blacks : stones_of colour.Black t.board.cells ≡ stones_of colour.Black s.board.cells = ap (λ z. stones_of colour.Black z.board.cells) is in
    let whites : stones_of colour.White t.board.cells ≡ stones_of colour.White s.board.cells = ap (λ z. stones_of colour.White z.board.cells) is in
    record {
      level = omega (arith, black, white, before, later, blacks, whites, some');
      fewer = omega (arith, black, white);
      quiet = ap (λ z. z.purses.token) is ∙ ap (λ d. (paid_out d s.purses).token) e ∙ quiet;
      ground = ap (λ z. z.contested) is;
    }
spend_cost colour.White s t e quiet (some, is) =
    let some' = subst (λ d. 1 ≤ purse d s.purses) e some in
    let black : t.purses.black ≡ s.purses.black = ap (λ z. z.purses.black) is ∙ ap (λ d. (paid_out d s.purses).black) e in
    let white : t.purses.white ≡ s.purses.white - 1 = ap (λ z. z.purses.white) is ∙ ap (λ d. (paid_out d s.purses).white) e in
    let before : turn s.side ≡ 0 = ap turn e in
    let later : turn t.side ≡ 1 = ap (λ z. turn z.side) is ∙ ap (λ d. turn (other d)) e in
    let blacks : stones_of colour.Black t.board.cells ≡ stones_of colour.Black s.board.cells = ap (λ z. stones_of colour.Black z.board.cells) is in
    let whites : stones_of colour.White t.board.cells ≡ stones_of colour.White s.board.cells = ap (λ z. stones_of colour.White z.board.cells) is in
    record {
      level = omega (arith, black, white, before, later, blacks, whites, some');
      fewer = omega (arith, black, white);
      quiet = ap (λ z. z.purses.token) is ∙ ap (λ d. (paid_out d s.purses).token) e ∙ quiet;
      ground = ap (λ z. z.contested) is;
    }

cost : (s t : Whole) (m : Move) → s.purses.token ≡ token.Nobody → IsMove s m t → IsCost s t
cost s t (Stone p) quiet move = (stone_cost s.side s t p refl quiet move).0
cost s t Spend quiet move = spend_cost s.side s t refl quiet move
cost s t Half quiet (some, is) = absurd (some quiet)

-- Coming back.

-- An earlier state, lost for who was to move in it within n moves and no fewer, and the present one, which is decided within m moves;
-- `long` moves lead from the one to the other.
record IsBehind (u v : Whole) (m : ℕ) : Type 0 where
  least : ℕ
  long : ℕ
  lost : LosesWithin Whole Leads least u
  none : (j : ℕ) → j < least → ¬ LosesWithin Whole Leads j u
  sooner : m + long ≤ least
  level : up u + down v ≡ up v + down u
  fewer : both_purses u ≤ both_purses v + long
  ground : v.contested ≡ u.contested
  quiet : u.purses.token ≡ token.Nobody

-- a move leads on from it
behind_more : (u v w : Whole) (m k : ℕ) (mv : Move) → IsBehind u v m → v.purses.token ≡ token.Nobody → IsMove v mv w → suc k ≤ m → IsBehind u w k
behind_more u v w m k mv b quiet move le =
    let c = cost v w mv quiet move in
    record {
      least = b.least;
      long = suc b.long;
      lost = b.lost;
      none = b.none;
      sooner = omega (arith, b.sooner, le);
      level = omega (arith, b.level, c.level);
      fewer = omega (arith, b.fewer, c.fewer);
      ground = c.ground ∙ b.ground;
      quiet = b.quiet;
    }

-- states with equal boards, sides and levels differ by as many points for each player
shifted : (u t : Whole) (k : ℕ) → u.board ≡ t.board → u.side ≡ t.side → t.contested ≡ u.contested → u.purses.token ≡ token.Nobody → t.purses.token ≡ token.Nobody
    → t.purses.black ≡ u.purses.black + k → t.purses.white ≡ u.purses.white + k → t ≡ richer_by k u
shifted u t k board side ground quiet quiet' black white =
    (λ i. record {
      board = sym board i;
      contested = ground i;
      purses = record { black = black i; white = white i; token = (quiet' ∙ sym quiet) i };
      side = sym side i;
    }) ∙ sym (richer_is k u)

-- A stone that leads back to an earlier board with the same side to move leads to a state that isn't lost so soon.
not_back : (u v t : Whole) (m k p : ℕ) → IsBehind u v m → v.purses.token ≡ token.Nobody → IsMove v (Stone p) t → suc k ≤ m
    → LosesWithin Whole Leads k t → u.board ≡ t.board → u.side ≡ t.side → ⊥
not_back u v t m k p b quiet move le l board side =
    let (c, kept) = stone_cost v.side v t p refl quiet move in
    let level : up u + down t ≡ up t + down u = omega (arith, b.level, c.level) in
    let whites : stones_of colour.White u.board.cells ≡ stones_of colour.White t.board.cells = ap (λ z. stones_of colour.White z.cells) board in
    let blacks : stones_of colour.Black u.board.cells ≡ stones_of colour.Black t.board.cells = ap (λ z. stones_of colour.Black z.cells) board in
    let turns : turn u.side ≡ turn t.side = ap turn side in
    let even : u.purses.black + t.purses.white ≡ t.purses.black + u.purses.white = omega (arith, level, whites, blacks, turns) in
    let ground : t.contested ≡ u.contested = c.ground ∙ b.ground in
    elim (cases_lt t.purses.black u.purses.black) [
      | inr richer ↦
          let x = t.purses.black - u.purses.black in
          let same = shifted u t x board side ground b.quiet c.quiet (omega (arith, richer)) (omega (arith, richer, even)) in
          b.none k (omega (arith, b.sooner, le)) (poorer_loses x k u (subst (LosesWithin Whole Leads k) same l))
      | inl poorer ↦
          let x = u.purses.black - t.purses.black in
          let same = shifted t u x (sym board) (sym side) (sym ground) c.quiet b.quiet (omega (arith, poorer)) (omega (arith, poorer, even)) in
          let few : k + 2 * x < b.least = omega (arith, b.sooner, le, b.fewer, kept, poorer, even) in
          b.none (k + 2 * x) few (subst (LosesWithin Whole Leads (k + 2 * x)) (sym same) (richer_loses x k t l))
    ]

-- Under situational superko.

module _ (rule : KoRule) (superko : IsSituationalSuperko rule) (c : Colour) where
  -- each earlier state in which the other player was to move
  abbrev AreBehind : List Whole → Whole → ℕ → Type 0
  AreBehind us v m = (u : Whole) → Contains us u → u.side ≡ other c → IsBehind u v m

  allowed : (q : History) (t : Whole) (mv : Move) (m k : ℕ) → q.state.side ≡ c → q.state.purses.token ≡ token.Nobody → AreBehind q.past q.state m
      → IsMove q.state mv t → suc k ≤ m → LosesWithin Whole Leads k t → ¬ Forbids rule q mv t
  allowed q t mv m k side quiet behind move le l forbidden =
      let (x, is, (u, among, turns, board)) = (superko q mv t).0 forbidden in
      let theirs : u.side ≡ other c = turns ∙ move_turn q.state t mv move ∙ ap other side in
      elim (contains-cases Whole q.state u q.past among) [
        | inl e ↦ other_not c (sym side ∙ ap (λ z. z.side) e ∙ theirs)
        | inr earlier ↦ not_back u q.state t m k x (behind u earlier theirs) quiet (subst (λ z. IsMove q.state z t) is move) le l board turns
      ]

  mutual
    wins_under : (f m : ℕ) (q : History) → m ≤ f → q.state.side ≡ c → q.state.purses.token ≡ token.Nobody → AreBehind q.past q.state m
        → WinsWithin Whole Leads m q.state → WinsWithin History (LeadsUnder rule) m q
    wins_under f zero q le side quiet behind w = absurd w
    wins_under zero (suc m) q le side quiet behind w = absurd (omega (arith, le))
    wins_under (suc f) (suc m) q le side quiet behind (t, (mv, move), l) =
        let (k, few, least, none) = least_of (λ j. LosesWithin Whole Leads j t) (λ j. loses_or_not j t) m l in
        let r : History = record { state = t; past = q.state ∷ q.past } in
        let there = cost q.state t mv quiet move in
        let theirs : t.side ≡ other c = move_turn q.state t mv move ∙ ap other side in
        let kept : AreBehind (t ∷ q.state ∷ q.past) t k = λ u among turns. elim (contains-cases Whole t u (q.state ∷ q.past) among) [
          | inl e ↦ subst (λ z. IsBehind z t k) e record {
            least = k;
            long = 0;
            lost = least;
            none = none;
            sooner = omega arith;
            level = refl;
            fewer = omega arith;
            ground = refl;
            quiet = there.quiet;
          }
          | inr later ↦ elim (contains-cases Whole q.state u q.past later) [
            | inl e ↦ absurd (other_not c (sym side ∙ ap (λ z. z.side) e ∙ turns))
            | inr earlier ↦ behind_more u q.state t (suc m) k mv (behind u earlier turns) quiet move (omega (arith, few))
          ]
        ] in (
          r,
          (mv, move, allowed q t mv (suc m) k side quiet behind move (omega (arith, few)) least, refl),
          loses-more History (LeadsUnder rule) k m r few (loses_under f k r (omega (arith, le, few)) theirs there.quiet kept least),
        )

    loses_under : (f m : ℕ) (p : History) → m ≤ f → p.state.side ≡ other c → p.state.purses.token ≡ token.Nobody
        → AreBehind (p.state ∷ p.past) p.state m → LosesWithin Whole Leads m p.state → LosesWithin History (LeadsUnder rule) m p
    loses_under f zero p le side quiet behind l = λ q h. l q.state (h.0, h.1)
    loses_under zero (suc m) p le side quiet behind l = absurd (omega (arith, le))
    loses_under (suc f) (suc m) p le side quiet behind l = λ q h.
        let mine : q.state.side ≡ c = move_turn p.state q.state h.0 h.1 ∙ ap other side ∙ other_twice c in
        let there = cost p.state q.state h.0 quiet h.1 in
        let kept : AreBehind q.past q.state m = λ u among turns.
        behind_more u p.state q.state (suc m) m h.0 (behind u (subst (λ us. Contains us u) h.3 among) turns) quiet h.1 (omega arith) in
        wins_under f m q (omega (arith, le)) mine there.quiet kept (l q.state (h.0, h.1))

pub winners_stand_superko : WinnersStandUnderSuperko
winners_stand_superko rule superko s c quiet (inl (e, (n, w))) =
    inl (e, (n, wins_under rule superko c n n (beginning s) (omega arith) (sym e) quiet (λ u among turns. absurd (omega (arith, among.1))) w))
winners_stand_superko rule superko s c quiet (inr (e, (n, l))) =
    let (k, few, least, none) = least_of (λ j. LosesWithin Whole Leads j s) (λ j. loses_or_not j s) n l in
    let theirs : s.side ≡ other c = sym (ap other e ∙ other_twice s.side) in
    let behind : AreBehind rule superko c (s ∷ []) s k = λ u among turns. elim (contains-cases Whole s u [] among) [
      | inl same ↦ subst (λ z. IsBehind z s k) same record {
        least = k;
        long = 0;
        lost = least;
        none = none;
        sooner = omega arith;
        level = refl;
        fewer = omega arith;
        ground = refl;
        quiet = quiet;
      }
      | inr later ↦ absurd (omega (arith, later.1))
    ] in
    inr (e, (k, loses_under rule superko c k k (beginning s) (omega arith) theirs quiet behind least))
