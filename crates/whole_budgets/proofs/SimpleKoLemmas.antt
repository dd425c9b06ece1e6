-- Under simple ko the same player wins: a stone that is taken back at once leads to the state before, with a point more for each.
use Rattle.std.proofs.Common.{◌≡◌, ℕ, zero, suc, ◌+◌, ◌-◌, ◌≤◌, inl, inr, refl, sym, ap, ◌∙◌, subst, arith, List, [], ◌∷◌, get_or, true, false, cond}
use Rattle.std.specs.List.{count_by}
use Rattle.std.proofs.lemmas.Bool.{cases_Bool, cases_lt}
use Rattle.std.proofs.lemmas.List.Sums.{sum_by-set}
use Rattle.go_grid.specs.declared.grid.Cell.{Cell}
use Rattle.go_grid.specs.declared.grid.Cell.TheVariants as cell
use Rattle.go_grid.specs.declared.grid.Colour.{Colour}
use Rattle.go_grid.specs.declared.grid.Colour.TheVariants as colour
use Rattle.go_grid.specs.Board.{other, stone}
use Rattle.go_grid.specs.Play.{Holds, IsPlaced, IsTaken, held_at, is_stone, with_stone}
use Rattle.go_grid.specs.Stones.{is_of}
use Rattle.go_grid.proofs.BoardLemmas.{not_other, empty_not_stone}
use Rattle.go_grid.proofs.PathLemmas.{leads_end}
use Rattle.local_graph.specs.inner.Ranks.{stones_of}
use Rattle.local_graph.proofs.CaptureLemmas.{both_colours, empty_isn't, same_count}
use Rattle.whole_rules.specs.declared.money.Purses.{Purses}
use Rattle.whole_rules.specs.declared.money.Token.{Token}
use Rattle.whole_rules.specs.declared.money.Token.TheVariants as token
use Rattle.whole_rules.specs.declared.states.Move.{Move}
use Rattle.whole_rules.specs.declared.states.Move.TheVariants.{Stone, Spend, Half}
use Rattle.whole_rules.specs.PlainRecursion.{WinsWithin, LosesWithin}
use Rattle.whole_rules.specs.Purses.{purse, paid_in, paid_out, rewarded, halved}
use Rattle.whole_rules.specs.WholeGame.{Whole, Leads, IsMove, after}
use Rattle.whole_rules.proofs.OutcomeLaws.{wins-more}
use Rattle.whole_budgets.specs.KoRules.{History, KoRule, Forbids, IsSimpleKo, LeadsUnder, beginning}
use Rattle.whole_budgets.specs.SimpleKo.{WinnersStandUnderSimpleKo}
use Rattle.whole_budgets.proofs.BudgetPlayLemmas.{other_twice}

-- Counts of stones

is_own : (d : Colour) → is_of d (stone d) ≡ true
is_own colour.Black = refl
is_own colour.White = refl

own_is : (d : Colour) (x : Cell) → is_of d x ≡ true → x ≡ stone d
own_is colour.Black cell.Black e = refl
own_is colour.Black cell.White e = cc
own_is colour.Black cell.Empty e = cc
own_is colour.White cell.White e = refl
own_is colour.White cell.Black e = cc
own_is colour.White cell.Empty e = cc

-- a stone adds one of its colour
pub one_more : {Next : ℕ → ℕ → Type 0} {Free : Colour → ℕ → Type 0} (cells next : List Cell) (c : Colour) (p : ℕ) → IsPlaced Next Free cells p c next
    → stones_of c next ≡ stones_of c cells + 1
one_more {Next} {Free} cells next c p m =
    let placed = with_stone cells p c in
    let gone = IsTaken Next Free placed p (other c) in
    let once = sum_by-set (λ y. cond (is_of c y) 1 0) cells p (stone c) cell.Empty m.place in
    let was : is_of c (held_at cells p) ≡ false = ap (is_of c) m.free ∙ empty_isn't c in
    let more : stones_of c (with_stone cells p c) ≡ stones_of c cells + 1 = omega (arith, rw (was, is_own c) at once) in
    let not_gone = λ (q : ℕ) (on : held_at placed q ≡ stone c) (t : gone q).
    not_other c (sym on ∙ leads_end Next (Holds placed (other c)) t.0 q t.2) in
    let same = λ (q : ℕ). elim (cases_Bool (is_of c (held_at placed q))) as (λ _. is_of c (held_at next q) ≡ is_of c (held_at placed q)) [
      | inl on ↦ ap (is_of c) (m.without.kept q (not_gone q (own_is c (held_at placed q) on)))
      | inr off ↦ elim (cases_Bool (is_of c (held_at next q))) as (λ _. is_of c (held_at next q) ≡ is_of c (held_at placed q)) [
        | inl on ↦
            let stays = m.without.kept q (λ t. empty_not_stone c (sym (m.without.gone q t) ∙ own_is c (held_at next q) on)) in
            ap (is_of c) stays
        | inr off' ↦ off' ∙ sym off
      ]
    ] in
    same_count (is_of c) (empty_isn't c) next placed same ∙ more

-- A point more for each player

unfoldable pub richer_purses : Purses → Purses
richer_purses m = record { black = m.black + 1; white = m.white + 1; token = m.token }

abbrev pub richer : Whole → Whole
richer s = record { board = s.board; contested = s.contested; purses = richer_purses s.purses; side = s.side }

pub richer_in : (c : Colour) (n : ℕ) (m : Purses) → richer_purses (paid_in c n m) ≡ paid_in c n (richer_purses m)
unfolding richer_purses
richer_in colour.Black n m = let e : (m.black + n) + 1 ≡ (m.black + 1) + n = omega arith in ap (λ z. record { black = z; white = m.white + 1; token = m.token }) e
richer_in colour.White n m = let e : (m.white + n) + 1 ≡ (m.white + 1) + n = omega arith in ap (λ z. record { black = m.black + 1; white = z; token = m.token }) e

pub richer_out : (c : Colour) (m : Purses) → 1 ≤ purse c m → richer_purses (paid_out c m) ≡ paid_out c (richer_purses m)
unfolding richer_purses
richer_out colour.Black m some = let e : (m.black - 1) + 1 ≡ (m.black + 1) - 1 = omega (arith, some) in ap (λ z. record { black = z; white = m.white + 1; token = m.token }) e
richer_out colour.White m some = let e : (m.white - 1) + 1 ≡ (m.white + 1) - 1 = omega (arith, some) in ap (λ z. record { black = m.black + 1; white = z; token = m.token }) e

pub richer_half : (c : Colour) (m : Purses) → richer_purses (halved c m) ≡ halved c (richer_purses m)
unfolding richer_purses
richer_half c m = go c m.token
  where
    go : (c : Colour) (t : Token) → richer_purses (record (rewarded t c m) { token = token.Nobody }) ≡ record (rewarded t c (richer_purses m)) { token = token.Nobody }
    go colour.Black token.Black = refl
    go colour.Black token.White = refl
    go colour.Black token.Nobody = refl
    go colour.White token.Black = refl
    go colour.White token.White = refl
    go colour.White token.Nobody = refl

richer_some : (c : Colour) (m : Purses) → 1 ≤ purse c (richer_purses m)
unfolding richer_purses
richer_some colour.Black m = omega arith
richer_some colour.White m = omega arith

-- each spends the point that is more
back_again : (c : Colour) (m : Purses) → paid_out (other c) (paid_out c (richer_purses m)) ≡ m
unfolding richer_purses
back_again colour.Black m =
    let e : (m.black + 1) - 1 ≡ m.black = omega arith in
    let f : (m.white + 1) - 1 ≡ m.white = omega arith in
    ap (λ z. record { black = z; white = (m.white + 1) - 1; token = m.token }) e ∙ ap (λ z. record { black = m.black; white = z; token = m.token }) f
back_again colour.White m =
    let e : (m.black + 1) - 1 ≡ m.black = omega arith in
    let f : (m.white + 1) - 1 ≡ m.white = omega arith in
    ap (λ z. record { black = z; white = (m.white + 1) - 1; token = m.token }) e ∙ ap (λ z. record { black = m.black; white = z; token = m.token }) f

pub theirs_some : (c : Colour) (m : Purses) → 1 ≤ purse (other c) (paid_out c (richer_purses m))
unfolding richer_purses
theirs_some colour.Black m = omega arith
theirs_some colour.White m = omega arith

-- each move stays one
pub lifted : (s t : Whole) (m : Move) → IsMove s m t → IsMove (richer s) m (richer t)
unfolding richer_purses
lifted s t (Stone p) (inside, (h, (n, placed, taken, is))) =
    (inside, (h, (n, placed, taken, ap richer is ∙ ap (λ z. after h z (richer s)) (richer_in s.side n s.purses))))
lifted s t Spend (some, is) = (richer_some s.side s.purses, ap richer is ∙ ap (λ z. after s.board z (richer s)) (richer_out s.side s.purses some))
lifted s t Half (there, is) = (there, ap richer is ∙ ap (λ z. after s.board z (richer s)) (richer_half s.side s.purses))

-- the state after both have spent the point that is more
pub returned : (s : Whole) → s ≡ after s.board (paid_out (other s.side) (paid_out s.side (richer_purses s.purses))) (after s.board (paid_out s.side (richer_purses s.purses)) (richer s))
returned s = ap (λ z. record { board = s.board; contested = s.contested; purses = z; side = s.side }) (sym (back_again s.side s.purses))
    ∙ ap (λ z. record { board = s.board; contested = s.contested; purses = paid_out (other s.side) (paid_out s.side (richer_purses s.purses)); side = z }) (sym (other_twice s.side))

mutual
  unfolding richer_purses

  wins_poorer : (n : ℕ) (s : Whole) → WinsWithin Whole Leads n (richer s) → WinsWithin Whole Leads n s
  wins_poorer zero s w = absurd w
  wins_poorer (suc n) s (t, (Stone p, (inside, (h, (k, placed, taken, is)))), l) =
      let u = after h (paid_in s.side k s.purses) s in
      let e : t ≡ richer u = is ∙ ap (λ z. after h z (richer s)) (sym (richer_in s.side k s.purses)) in
      (u, (Stone p, (inside, (h, (k, placed, taken, refl)))), loses_poorer n u (subst (LosesWithin Whole Leads n) e l))
  wins_poorer (suc n) s (t, (Half, (there, is)), l) =
      let u = after s.board (halved s.side s.purses) s in
      let e : t ≡ richer u = is ∙ ap (λ z. after s.board z (richer s)) (sym (richer_half s.side s.purses)) in
      (u, (Half, (there, refl)), loses_poorer n u (subst (LosesWithin Whole Leads n) e l))
  wins_poorer (suc n) s (t, (Spend, (some, is)), l) = elim (cases_lt 0 (purse s.side s.purses)) [
    | inl own ↦
        let u = after s.board (paid_out s.side s.purses) s in
        let e : t ≡ richer u = is ∙ ap (λ z. after s.board z (richer s)) (sym (richer_out s.side s.purses (omega (arith, own)))) in
        (u, (Spend, (omega (arith, own), refl)), loses_poorer n u (subst (LosesWithin Whole Leads n) e l))
    | inr none ↦ spent_back n s (subst (LosesWithin Whole Leads n) is l)
  ]

  -- the other player spends the point that is more too
  spent_back : (n : ℕ) (s : Whole) → LosesWithin Whole Leads n (after s.board (paid_out s.side (richer_purses s.purses)) (richer s)) → WinsWithin Whole Leads (suc n) s
  spent_back zero s l = absurd (l s (Spend, (theirs_some s.side s.purses, returned s)))
  spent_back (suc n) s l = wins-more Whole Leads n (suc (suc n)) s (omega arith) (l s (Spend, (theirs_some s.side s.purses, returned s)))

  pub loses_poorer : (n : ℕ) (s : Whole) → LosesWithin Whole Leads n (richer s) → LosesWithin Whole Leads n s
  loses_poorer zero s l = λ t h. l (richer t) (h.0, lifted s t h.0 h.1)
  loses_poorer (suc n) s l = λ t h. wins_poorer n t (l (richer t) (h.0, lifted s t h.0 h.1))

-- A stone that is taken back

-- both paid a point
paid_both : (c : Colour) (m : Purses) (a b : ℕ) → a ≡ 1 → b ≡ 1 → paid_in (other c) b (paid_in c a m) ≡ richer_purses m
unfolding richer_purses
paid_both colour.Black m a b e f = ap (λ z. record { black = m.black + z; white = m.white + b; token = m.token }) e ∙ ap (λ z. record { black = m.black + 1; white = m.white + z; token = m.token }) f
paid_both colour.White m a b e f = ap (λ z. record { black = m.black + b; white = m.white + z; token = m.token }) e ∙ ap (λ z. record { black = m.black + z; white = m.white + 1; token = m.token }) f

pub retaken : (u s t : Whole) (m : Move) (x : ℕ) → IsMove u m s → IsMove s (Stone x) t → u.board ≡ t.board → t ≡ richer u
retaken u s t Spend x (some, is) (inside, (h, (n, placed, taken, is'))) same =
    let more = one_more s.board.cells h.cells s.side x placed.1 in
    let there : stones_of s.side u.board.cells ≡ stones_of s.side h.cells = ap (λ z. stones_of s.side z.cells) (same ∙ ap (λ z. z.board) is') in
    let before : stones_of s.side s.board.cells ≡ stones_of s.side u.board.cells = ap (λ z. stones_of s.side z.board.cells) is in
    absurd (omega (arith, more, there, before))
retaken u s t Half x (some, is) (inside, (h, (n, placed, taken, is'))) same =
    let more = one_more s.board.cells h.cells s.side x placed.1 in
    let there : stones_of s.side u.board.cells ≡ stones_of s.side h.cells = ap (λ z. stones_of s.side z.cells) (same ∙ ap (λ z. z.board) is') in
    let before : stones_of s.side s.board.cells ≡ stones_of s.side u.board.cells = ap (λ z. stones_of s.side z.board.cells) is in
    absurd (omega (arith, more, there, before))
retaken u s t (Stone p) x (inside, (h, (a, placed, taken, is))) second same =
    let (inside', (k, (b, placed', taken', is'))) = subst (λ z. IsMove z (Stone x) t) is second in
    let c = u.side in
    let d = other u.side in
    let back : k ≡ u.board = sym (ap (λ z. z.board) is') ∙ sym same in
    let first = one_more u.board.cells h.cells c p placed.1 in
    let then = one_more h.cells k.cells d x placed'.1 in
    let same_c : stones_of c k.cells ≡ stones_of c u.board.cells = ap (λ z. stones_of c z.cells) back in
    let same_d : stones_of d k.cells ≡ stones_of d u.board.cells = ap (λ z. stones_of d z.cells) back in
    let all : count_by is_stone k.cells ≡ count_by is_stone u.board.cells = ap (λ z. count_by is_stone z.cells) back in
    let one : a ≡ 1 = omega (arith, first, then, same_c, same_d, all, taken, taken', both_colours c u.board.cells, both_colours c h.cells) in
    let two : b ≡ 1 = omega (arith, first, then, same_c, same_d, all, taken, taken', both_colours c u.board.cells, both_colours c h.cells) in
    is' ∙ ap (λ z. record { board = z; contested = u.contested; purses = paid_in d b (paid_in c a u.purses); side = other d }) back
    ∙ ap (λ z. record { board = u.board; contested = u.contested; purses = z; side = other d }) (paid_both c u.purses a b one two)
    ∙ ap (λ z. record { board = u.board; contested = u.contested; purses = richer_purses u.purses; side = z }) (other_twice c)

-- Under simple ko

module _ (rule : KoRule) (simple : IsSimpleKo rule) where
  -- the move that is forbidden leads to the state before, with a point more for each
  forbidden_back : (q : History) (m n : Move) (t u : Whole) (past : List Whole) → q.past ≡ u ∷ past → IsMove u m q.state → IsMove q.state n t → Forbids rule q n t → t ≡ richer u
  forbidden_back q m n t u past before first second f =
      let (x, is, (v, rest, before', same)) = (simple q n t).0 f in
      let e : u ≡ v = ap (λ z. get_or z 0 u) (sym before ∙ before') in
      retaken u q.state t m x first (subst (λ z. IsMove q.state z t) is second) (ap (λ z. z.board) e ∙ same)

  sooner_wins : (n : ℕ) (p q : History) → LeadsUnder rule p q → LosesWithin History (LeadsUnder rule) n p → WinsWithin History (LeadsUnder rule) (suc n) q
  sooner_wins zero p q h l = absurd (l q h)
  sooner_wins (suc n) p q h l = wins-more History (LeadsUnder rule) n (suc (suc n)) q (omega arith) (l q h)

  mutual
    loses_under : (n : ℕ) (p : History) → LosesWithin Whole Leads n p.state → LosesWithin History (LeadsUnder rule) n p
    loses_under zero p l = λ q h. l q.state (h.0, h.1)
    loses_under (suc n) p l = λ q h. answers n p l q h (l q.state (h.0, h.1))

    -- what the other player answers: the winning move where it isn't forbidden, and else what wins sooner
    answers : (n : ℕ) (p : History) → LosesWithin Whole Leads (suc n) p.state → (q : History) → LeadsUnder rule p q → WinsWithin Whole Leads n q.state → WinsWithin History (LeadsUnder rule) n q
    answers zero p l q h w = absurd w
    answers (suc n) p l q h (t, (m, move), later) = elim (cases_Bool (rule q m t)) [
      | inl f ↦
          let e = forbidden_back q h.0 m t p.state p.past h.3 h.1 move f in
          let sooner = loses_under n p (loses_poorer n p.state (subst (LosesWithin Whole Leads n) e later)) in
          sooner_wins n p q h sooner
      | inr not ↦
          let r : History = record { state = t; past = q.state ∷ q.past } in
          (r, (m, move, (λ f. cc), refl), loses_under n r later)
    ]

  -- nothing is forbidden to the first move
  first_wins : (n : ℕ) (s : Whole) → WinsWithin Whole Leads n s → WinsWithin History (LeadsUnder rule) n (beginning s)
  first_wins zero s w = absurd w
  first_wins (suc n) s (t, (m, move), l) =
      let r : History = record { state = t; past = s ∷ [] } in
      (r, (m, move, (λ f. none s m t f), refl), loses_under n r l)
    where
      none : (s : Whole) (m : Move) (t : Whole) → Forbids rule (beginning s) m t → ⊥
      none s m t f = let (x, is, (v, rest, before, same)) = (simple (beginning s) m t).0 f in cc

pub winners_stand : WinnersStandUnderSimpleKo
winners_stand rule simple s c (inl (e, (n, w))) = inl (e, (n, first_wins rule simple n s w))
winners_stand rule simple s c (inr (e, (n, l))) = inr (e, (n, loses_under rule simple n (beginning s) l))
