-- Lists of ids as lists of games.
use Rattle.std.proofs.Common.{ℕ, zero, suc, ◌≡◌, ◌↔◌, ◌+◌, ◌*◌, ◌<◌, arith, inl, inr, refl, sym, ap, subst, List, [], ◌∷◌, length, get_or, set, sum, ℤ}
use Rattle.std.proofs.lemmas.Bool.{cases_eq}
use Rattle.std.proofs.lemmas.List.{get_or-set_same, get_or-set_other, length-set}
use Rattle.std.proofs.lemmas.List.Sums.{sum_by-set}
use Rattle.go_grid.specs.declared.grid.Colour.{Colour}
use Rattle.go_grid.specs.declared.grid.Colour.TheVariants.{Black, White}
use Rattle.go_grid.specs.Board.{other}
use Rattle.short_games.specs.Tree.{Tree, Trees, none, more, Has, tree_at}
use Rattle.short_games.specs.Sum.{◌+ᵍ◌, total}
use Rattle.short_games.specs.Number.{IsNumberTree, number_tree}
use Rattle.short_games.specs.Parts.{IsOption}
use Rattle.short_games.specs.TextOrder.{sorted}
use Rattle.game_store.specs.Meaning.{pick, AreIds}
use Rattle.game_store.proofs.EntryLaws.{pick-has}
use Rattle.short_games.proofs.TextOrderLaws.{sorted-has, has-sorted}
use Rattle.short_games.proofs.PartLaws.{option-numbers}
use Rattle.game_players.specs.Players.{options, LosesGame}
use Rattle.sum_outcome.specs.Sums.{sum_tree, AreBounds, IsBounded}
use Rattle.sum_outcome.specs.inner.Search.{HasNonNumber, IsMove, put, WinsAt}
use Rattle.sum_outcome.proofs.CheapMoveLaws.{IsAt, loses-by_games, wins-by_move}

-- the options listed are the moves
pub listed-moves : (Ts : List Tree) (os : List ℕ) (c : Colour) (G : Tree) → (IsNumberTree G → ⊥) → options c G ≡ sorted (pick Ts os) → (X : Tree) → Has (pick Ts os) X ↔ IsMove G c X
listed-moves Ts os c G no_number e X = (
  λ h. (no_number, rw e (has-sorted (pick Ts os) X h)),
  λ m. sorted-has (pick Ts os) X (subst (λ t. Has t X) e m.1),
)

move-option : (c : Colour) (G X : Tree) → IsMove G c X → IsOption G X
move-option Black G X m = inl m.1
move-option White G X m = inr m.1

bounds_put : (Gs : Trees) (bs : List ℕ) (k : ℕ) (G X : Tree) (c : Colour) → IsAt Gs k G → IsMove G c X → AreBounds Gs bs → AreBounds (put Gs k X) bs
bounds_put none bs k G X c at m a = absurd at
bounds_put (more H Hs) [] k G X c at m a = absurd a
bounds_put (more H Hs) (b ∷ bs) zero G X c at m a = (λ x n. a.0 x (rw at (option-numbers G X x m.0 (move-option c G X m) n)), a.1)
bounds_put (more H Hs) (b ∷ bs) (suc k) G X c at m a = (a.0, bounds_put Hs bs k G X c at m a.1)

-- an option put for a game has a smaller id
pub put_back : (ids : List ℕ) (k i : ℕ) → set (set ids k i) k (get_or ids k 0) ≡ ids
put_back [] k i = refl
put_back (j ∷ js) zero i = refl
put_back (j ∷ js) (suc k) i = ap (λ l. j ∷ l) (put_back js k i)

pub falls_put : (ids : List ℕ) (k i : ℕ) → k < length ids → i < get_or ids k 0 → 2 * sum (set ids k i) + 1 < 2 * sum ids
falls_put ids k i lt below = omega (arith, below, sum_by-set (λ n. n) ids k i 0 lt)

pub ids_put : (Ts : List Tree) (ids : List ℕ) (k i : ℕ) → k < length ids → i < get_or ids k 0 → AreIds Ts ids → AreIds Ts (set ids k i)
ids_put Ts ids k i lt below are j l = elim (cases_eq j k) [
  | inl e ↦ (let s = get_or-set_same ids k i 0 lt in let a = are k lt in rw e (omega (arith, s, a, below)))
  | inr d ↦ (let s = get_or-set_other ids k j i 0 d in let a = are j (omega (arith, l, length-set ids k i)) in omega (arith, s, a))
]

module _ (Ts : List Tree) where
  pub pick-at : (ids : List ℕ) (k : ℕ) → k < length ids → IsAt (pick Ts ids) k (tree_at Ts (get_or ids k 0))
  pick-at [] k lt = absurd (omega (arith, lt))
  pick-at (i ∷ is) zero lt = refl
  pick-at (i ∷ is) (suc k) lt = pick-at is k (omega (arith, lt))

  at-pick : (ids : List ℕ) (k : ℕ) (G : Tree) → IsAt (pick Ts ids) k G → (k < length ids) × (tree_at Ts (get_or ids k 0) ≡ G)
  at-pick [] k G h = absurd h
  at-pick (i ∷ is) zero G h = (omega arith, h)
  at-pick (i ∷ is) (suc k) G h = let r = at-pick is k G h in (omega (arith, r.0), r.1)

  pub pick-put : (ids : List ℕ) (k j : ℕ) → pick Ts (set ids k j) ≡ put (pick Ts ids) k (tree_at Ts j)
  pick-put [] k j = refl
  pick-put (i ∷ is) zero j = refl
  pick-put (i ∷ is) (suc k) j = ap (more (tree_at Ts i)) (pick-put is k j)

  -- where some game is no number and no move in such a game wins, the player loses
  pub loses_all : (ids : List ℕ) (x : ℤ) (c : Colour) → HasNonNumber Ts ids → ((k : ℕ) → k < length ids → WinsAt Ts ids x c k → ⊥) → LosesGame c (sum_tree Ts ids x)
  loses_all ids x c no_number fails = loses-by_games (pick Ts ids) x c no_number.0 (tree_at Ts (get_or ids no_number.0 0)) (pick-at ids no_number.0 no_number.1) no_number.2
      (λ k G X at m l. (let a = at-pick ids k G at in fails k a.0 (X, subst (λ t. IsMove t c X) (sym a.1) m, l)))

  pub wins_one : (ids : List ℕ) (x : ℤ) (c : Colour) (k : ℕ) → k < length ids → WinsAt Ts ids x c k → LosesGame c (sum_tree Ts ids x) → ⊥
  wins_one ids x c k lt w l = wins-by_move (pick Ts ids) x c k (tree_at Ts (get_or ids k 0)) w.0 (pick-at ids k lt) w.1.1 w.2 l

  -- the options of the game at a place, put there one by one
  module _ (ids os : List ℕ) (x : ℤ) (c : Colour) (k : ℕ) (lt : k < length ids) (moves : (X : Tree) → Has (pick Ts os) X ↔ IsMove (tree_at Ts (get_or ids k 0)) c X) where
    pub bounded_put : (j : ℕ) → j < length os → IsBounded (pick Ts ids) x → IsBounded (pick Ts (set ids k (get_or os j 0))) x
    bounded_put j l b = rw (pick-put ids k (get_or os j 0))
        (b.0, bounds_put (pick Ts ids) b.0 k (tree_at Ts (get_or ids k 0)) (tree_at Ts (get_or os j 0)) c (pick-at ids k lt) ((moves (tree_at Ts (get_or os j 0))).0 (pick-has Ts os j l)) b.1, b.2)

    pub wins_by_option : (j : ℕ) → j < length os → LosesGame (other c) (sum_tree Ts (set ids k (get_or os j 0)) x) → WinsAt Ts ids x c k
    wins_by_option j l w = (
      tree_at Ts (get_or os j 0),
      (moves (tree_at Ts (get_or os j 0))).0 (pick-has Ts os j l),
      subst (λ t. LosesGame (other c) (total t +ᵍ number_tree x)) (pick-put ids k (get_or os j 0)) w,
    )
