-- Where moves that no other one dominates fail, all fail.
use Rattle.std.proofs.Common.{ℕ, ℤ, zero, suc, ◌≡◌, ◌<◌, ◌⊎◌, ◌↔◌, ◌∙◌, inl, inr, refl, arith, sym, subst, List, length, get_or, set}
use Rattle.go_grid.specs.declared.grid.Colour.{Colour}
use Rattle.go_grid.specs.declared.grid.Colour.TheVariants.{Black, White}
use Rattle.go_grid.specs.Board.{other}
use Rattle.short_games.specs.Tree.{Tree, Trees, none, more, Has, tree_at}
use Rattle.short_games.specs.Order.{◌≡ᵍ◌}
use Rattle.short_games.specs.Sum.{◌+ᵍ◌, total}
use Rattle.game_store.specs.Meaning.{pick}
use Rattle.short_games.specs.Number.{number_tree}
use Rattle.short_games.proofs.OrderLaws.{le-refl, same-refl, same-path, same-sym, same-trans}
use Rattle.short_games.proofs.SumLaws.{plus-assoc, same-plus, same-comm, same-swap}
use Rattle.game_store.proofs.EntryLaws.{has-pick}
use Rattle.short_games.specs.SumLaws.{incentive}
use Rattle.game_players.specs.Players.{options, LosesGame}
use Rattle.short_games.proofs.IncentiveLaws.{incentive-dominates, incentive-dominates_back}
use Rattle.sum_outcome.specs.Sums.{sum_tree}
use Rattle.sum_outcome.specs.inner.Search.{put, IsMove, WinsAt}
use Rattle.sum_outcome.specs.inner.Incentives.{IsGood, HasPreferred, IsDominated, IsPlaceSettled}
use Rattle.sum_outcome.proofs.CheapMoveLaws.{IsAt, put-total, put-option, NoBetter, same-no_better, no_better-trans, no_better-plus, no_better-cancel, wins-better}
use Rattle.sum_outcome.proofs.ListLaws.{pick-at, pick-put}

good-no_better : (c : Colour) (G Y H X : Tree) → IsGood c G Y H X → NoBetter c (G +ᵍ X) (Y +ᵍ H)
good-no_better Black G Y H X p = incentive-dominates G Y H X p
good-no_better White G Y H X p = swapped (incentive-dominates H X G Y p)
  where
    swapped : NoBetter Black (H +ᵍ Y) (X +ᵍ G) → NoBetter White (G +ᵍ X) (Y +ᵍ H)
    swapped q = no_better-trans White _ (X +ᵍ G) _ (same-no_better White _ _ (same-comm G X)) (no_better-trans White _ (H +ᵍ Y) _ q (same-no_better White _ _ (same-comm H Y)))

around : (T X G : Tree) → ((T +ᵍ X) +ᵍ G) ≡ᵍ ((X +ᵍ G) +ᵍ T)
around T X G = same-trans _ _ _ (same-plus _ _ G G (same-comm T X) (same-refl G)) (same-swap X T G)

no_better-good : (c : Colour) (G Y H X : Tree) → NoBetter c (G +ᵍ X) (Y +ᵍ H) → IsGood c G Y H X
no_better-good Black G Y H X p = incentive-dominates_back G Y H X p
no_better-good White G Y H X p = incentive-dominates_back H X G Y (swapped p)
  where
    swapped : NoBetter White (G +ᵍ X) (Y +ᵍ H) → NoBetter White (X +ᵍ G) (H +ᵍ Y)
    swapped q = no_better-trans White _ (G +ᵍ X) _ (same-no_better White _ _ (same-comm X G)) (no_better-trans White _ (Y +ᵍ H) _ q (same-no_better White _ _ (same-comm Y H)))

good-refl : (c : Colour) (G X : Tree) → IsGood c G X G X
good-refl Black G X = le-refl (incentive G X)
good-refl White G X = le-refl (incentive G X)

module _ (c : Colour) (Gs : Trees) (j k : ℕ) (G Y H X : Tree) (here : IsAt Gs j G) (there : IsAt Gs k H) where
  -- the sum after each of the moves, with both games added
  after : ((total (put Gs k X) +ᵍ (H +ᵍ G)) ≡ᵍ ((G +ᵍ X) +ᵍ total Gs))
  after = same-trans _ ((total (put Gs k X) +ᵍ H) +ᵍ G) _ (same-path _ _ (sym (plus-assoc (total (put Gs k X)) H G)))
      (same-trans _ ((total Gs +ᵍ X) +ᵍ G) _ (same-plus _ _ G G (put-total Gs k H X there) (same-refl G))
      (same-trans _ ((X +ᵍ G) +ᵍ total Gs) _ (around (total Gs) X G) (same-plus _ _ (total Gs) (total Gs) (same-comm X G) (same-refl (total Gs)))))

  after_other : ((total (put Gs j Y) +ᵍ (H +ᵍ G)) ≡ᵍ ((Y +ᵍ H) +ᵍ total Gs))
  after_other = same-trans _ (total (put Gs j Y) +ᵍ (G +ᵍ H)) _ (same-plus _ _ _ _ (same-refl (total (put Gs j Y))) (same-comm H G))
      (same-trans _ ((total (put Gs j Y) +ᵍ G) +ᵍ H) _ (same-path _ _ (sym (plus-assoc (total (put Gs j Y)) G H)))
      (same-trans _ ((total Gs +ᵍ Y) +ᵍ H) _ (same-plus _ _ H H (put-total Gs j G Y here) (same-refl H)) (around (total Gs) Y H)))

  put-no_better : IsGood c G Y H X → NoBetter c (total (put Gs k X)) (total (put Gs j Y))
  put-no_better good = no_better-cancel c (total (put Gs k X)) (total (put Gs j Y)) (H +ᵍ G)
      (no_better-trans c _ ((G +ᵍ X) +ᵍ total Gs) _ (same-no_better c _ _ after)
      (no_better-trans c _ ((Y +ᵍ H) +ᵍ total Gs) _ (no_better-plus c (G +ᵍ X) (Y +ᵍ H) (total Gs) (good-no_better c G Y H X good)) (same-no_better c _ _ (same-sym _ _ after_other))))

  put-good : NoBetter c (total (put Gs k X)) (total (put Gs j Y)) → IsGood c G Y H X
  put-good p = no_better-good c G Y H X (no_better-cancel c (G +ᵍ X) (Y +ᵍ H) (total Gs)
      (no_better-trans c _ (total (put Gs k X) +ᵍ (H +ᵍ G)) _ (same-no_better c _ _ (same-sym _ _ after))
      (no_better-trans c _ (total (put Gs j Y) +ᵍ (H +ᵍ G)) _ (no_better-plus c _ _ (H +ᵍ G) p) (same-no_better c _ _ after_other))))

-- Sums that are reached by moves at places: each fails, or another is better, or as good and reached at an earlier place.
-- Then all fail.
module _ (c : Colour) (Reached : ℕ → Tree → Type 0) (Fails : Tree → Type 0)
    (stable : (V : Tree) → ((Fails V → ⊥) → ⊥) → Fails V)
    (falls : (V W : Tree) → NoBetter c V W → Fails W → Fails V)
    (settled : (k : ℕ) (V : Tree) → Reached k V → Fails V ⊎ ((j : ℕ) × (W : Tree) × Reached j W × NoBetter c V W × ((j < k) ⊎ (NoBetter c W V → ⊥)))) where
  -- where no other is better, one of the best at the earliest place fails
  best_fails : (n k : ℕ) (V : Tree) → k < n → Reached k V → ((j : ℕ) (W : Tree) → Reached j W → NoBetter c V W → (NoBetter c W V → ⊥) → ⊥) → Fails V
  best_fails zero k V lt r most = absurd (omega (arith, lt))
  best_fails (suc n) k V lt r most = elim (settled k V r) [
    | inl f ↦ f
    | inr (j, W, rj, up, inl before) ↦ falls V W up (best_fails n j W (omega (arith, before, lt)) rj (λ i Z ri p q. most i Z ri (no_better-trans c V W Z up p) (λ back. q (no_better-trans c Z V W back up))))
    | inr (j, W, rj, up, inr strict) ↦ absurd (most j W rj up strict)
  ]

  -- where all that are better are listed
  listed_fail : (L : Trees) (k : ℕ) (V : Tree) → Reached k V → ((j : ℕ) (W : Tree) → Reached j W → NoBetter c V W → (NoBetter c W V → ⊥) → Has L W) → Fails V
  listed_fail none k V r within = best_fails (suc k) k V (omega arith) r (λ j W rj p q. within j W rj p q)
  listed_fail (more M L) k V r within = stable V (λ wins. wins (listed_fail L k V r (λ j W rj p q.
      elim (within j W rj p q) [
        | inl e ↦ absurd (wins (falls V W p (listed_fail L j W rj (λ i Z ri up strict.
            elim (within i Z ri (no_better-trans c V W Z p up) (λ back. strict (no_better-trans c Z V W back p))) [
              | inl f ↦ absurd (strict (subst (λ t. NoBetter c t W) (e ∙ sym f) (same-no_better c W W (same-refl W))))
              | inr h ↦ h
            ]))))
        | inr h ↦ h
      ])))

-- an option that is put at the place fails or is dominated
abbrev pub OptionIsSettled : List Tree → List ℕ → ℤ → Colour → ℕ → ℕ → Type 0
OptionIsSettled Ts ids x c k i = (LosesGame (other c) (sum_tree Ts (set ids k i) x) → ⊥) ⊎ IsDominated Ts ids c k (tree_at Ts i)

module _ (Ts : List Tree) (ids : List ℕ) (x : ℤ) (c : Colour) where
  pub options_settled : (os : List ℕ) (k : ℕ) → ((X : Tree) → Has (pick Ts os) X ↔ IsMove (tree_at Ts (get_or ids k 0)) c X) → ((j : ℕ) → j < length os → OptionIsSettled Ts ids x c k (get_or os j 0)) → IsPlaceSettled Ts ids x c k
  options_settled os k moves each X m =
      let r = has-pick Ts os X ((moves X).1 m) in
      subst (λ t. (LosesGame (other c) (total (put (pick Ts ids) k t) +ᵍ number_tree x) → ⊥) ⊎ IsDominated Ts ids c k t) (sym r.2)
      (subst (λ t. (LosesGame (other c) (total t +ᵍ number_tree x) → ⊥) ⊎ IsDominated Ts ids c k (tree_at Ts (get_or os r.0 0))) (pick-put Ts ids k (get_or os r.0 0)) (each r.0 r.1))

  -- a game that stands at an earlier place too
  pub repeated_settled : (j k : ℕ) → j < k → k < length ids → get_or ids j 0 ≡ get_or ids k 0 → IsPlaceSettled Ts ids x c k
  repeated_settled j k before lt e X m =
      inr (j, omega (arith, before, lt), subst (λ i. HasPreferred Ts c i (tree_at Ts (get_or ids k 0)) X (j < k)) (sym e) (X, m, good-refl c (tree_at Ts (get_or ids k 0)) X, inl before))

  abbrev IsReached : ℕ → Tree → Type 0
  IsReached k V = (k < length ids) × (X : Tree) × IsMove (tree_at Ts (get_or ids k 0)) c X × (V ≡ total (put (pick Ts ids) k X))

  abbrev DoesFail : Tree → Type 0
  DoesFail V = LosesGame (other c) (V +ᵍ number_tree x) → ⊥

  abbrev IsNext : ℕ → Tree → Type 0
  IsNext k V = DoesFail V ⊎ ((j : ℕ) × (W : Tree) × IsReached j W × NoBetter c V W × ((j < k) ⊎ (NoBetter c W V → ⊥)))

  pub all_fail : ((k : ℕ) → k < length ids → IsPlaceSettled Ts ids x c k) → (k : ℕ) → k < length ids → WinsAt Ts ids x c k → ⊥
  all_fail settled k lt (X, m, l) = listed_fail c IsReached DoesFail
      (λ V f l. f (λ g. g l))
      (λ V W p f l. f (wins-better c (V +ᵍ number_tree x) (W +ᵍ number_tree x) (no_better-plus c V W (number_tree x) p) l))
      next (options c (total (pick Ts ids))) k (total (put (pick Ts ids) k X)) (lt, X, m, refl) reached l
    where
      reached : (j : ℕ) (W : Tree) → IsReached j W → NoBetter c (total (put (pick Ts ids) k X)) W → (NoBetter c W (total (put (pick Ts ids) k X)) → ⊥) → Has (options c (total (pick Ts ids))) W
      reached j W (lj, Y, my, e) p q = subst (λ t. Has (options c (total (pick Ts ids))) t) (sym e) (put-option c (pick Ts ids) j (tree_at Ts (get_or ids j 0)) Y (pick-at Ts ids j lj) my.1)

      next : (i : ℕ) (V : Tree) → IsReached i V → IsNext i V
      next i V (li, Z, mz, e) = subst (λ t. IsNext i t) (sym e) (elim (settled i li Z mz) [
        | inl f ↦ inl f
        | inr (j, lj, (Y, my, good, which)) ↦ inr (
          j,
          total (put (pick Ts ids) j Y),
          (lj, Y, my, refl),
          put-no_better c (pick Ts ids) j i (tree_at Ts (get_or ids j 0)) Y (tree_at Ts (get_or ids i 0)) Z (pick-at Ts ids j lj) (pick-at Ts ids i li) good,
          elim which [
            | inl before ↦ inl before
            | inr strict ↦ inr (λ p. strict (put-good c (pick Ts ids) i j (tree_at Ts (get_or ids i 0)) Z (tree_at Ts (get_or ids j 0)) Y (pick-at Ts ids i li) (pick-at Ts ids j lj) p))
          ],
        )
      ])
