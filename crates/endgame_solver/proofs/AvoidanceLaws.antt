-- Number avoidance in a game of several parts: who wins it by moving first wins it in a part that is no number, if there is one.
use Rattle.std.proofs.Common.{ℕ, ℤ, ◌≡◌, ◌⊎◌, ◌+◌, inl, inr, refl, sym, ap, ◌∙◌, subst, arith, List, [], ◌∷◌, Contains, pos, ◌+ℤ◌, ◌-ℤ◌, ◌<ℤ◌}
use Rattle.std.proofs.lemmas.Int.{ints}
use Rattle.go_grid.specs.declared.grid.Colour.{Colour}
use Rattle.go_grid.specs.declared.grid.Colour.TheVariants.{Black, White}
use Rattle.go_grid.specs.Board.{other}
use Rattle.short_games.specs.Tree.{Tree, Has}
use Rattle.short_games.specs.Order.{◌≤ᵍ◌, ◌≡ᵍ◌}
use Rattle.short_games.specs.Number.{num, IsNumber}
use Rattle.short_games.specs.Sum.{◌+ᵍ◌}
use Rattle.short_games.proofs.AvoidanceLaws.{cheap_left, cheap_right}
use Rattle.short_games.proofs.NumberLaws.{num-left, num-right, num-plus_le, num-le_plus}
use Rattle.short_games.proofs.OrderLaws.{le-refl, le-trans, same-path, same-refl, same-sym, same-trans}
use Rattle.short_games.proofs.SumLaws.{InSum, plus-assoc, plus-le, plus-le_both, plus-nought, same-comm, same-plus, same-swap}
use Rattle.short_games.proofs.SumLaws.InSum.{in_first, in_second}
use Rattle.short_games.proofs.ThresholdLaws.{scaled}
use Rattle.game_players.specs.Players.{LosesGame, gain, options}
use Rattle.game_players.proofs.PlayerLaws.{loses-same, option_in_first, option_in_second, option_of_sum, wins-option}
use Rattle.local_trees.specs.LocalGame.{Step, tree_within}
use Rattle.local_trees.proofs.TreeLaws.{option-move}
use Rattle.endgame_solver.specs.SumGame.{AllEnd, parts_tree}

-- the player has an option that is as good as the game, but for any number above 0
abbrev pub IsCheap : Colour → Tree → Type 0
IsCheap Black A = (e : ℕ) (d : ℤ) → pos 0 <ℤ d → (X : Tree) × Has (options Black A) X × (A ≤ᵍ X +ᵍ num e d)
IsCheap White A = (e : ℕ) (d : ℤ) → pos 0 <ℤ d → (X : Tree) × Has (options White A) X × (X ≤ᵍ A +ᵍ num e d)

cheap : (c : Colour) (G : Tree) → ¬ IsNumber G → IsCheap c G
cheap Black G apart = λ e d p. cheap_left G apart e d p
cheap White G apart = λ e d p. cheap_right G apart e d p

-- three games in another order
rotated : (A B C : Tree) → ((A +ᵍ B) +ᵍ C) ≡ᵍ ((A +ᵍ C) +ᵍ B)
rotated A B C = same-swap A B C

cheap-plus_right : (c : Colour) (A T : Tree) → IsCheap c T → IsCheap c (A +ᵍ T)
cheap-plus_right Black A T h = λ e d p.
    let (X, has, le) = h e d p in
    (A +ᵍ X, option_in_second Black A T X has, subst (λ t. A +ᵍ T ≤ᵍ t) (sym (plus-assoc A X (num e d))) (plus-le_both A A T (X +ᵍ num e d) (le-refl A) le))
cheap-plus_right White A T h = λ e d p.
    let (X, has, le) = h e d p in
    (A +ᵍ X, option_in_second White A T X has, subst (λ t. A +ᵍ X ≤ᵍ t) (sym (plus-assoc A T (num e d))) (plus-le_both A A X (T +ᵍ num e d) (le-refl A) le))

cheap-plus_left : (c : Colour) (A T : Tree) → IsCheap c A → IsCheap c (A +ᵍ T)
cheap-plus_left Black A T h = λ e d p.
    let (X, has, le) = h e d p in
    (X +ᵍ T, option_in_first Black A T X has, le-trans _ _ _ (plus-le A (X +ᵍ num e d) T le) (same-swap X (num e d) T).0)
cheap-plus_left White A T h = λ e d p.
    let (X, has, le) = h e d p in
    (X +ᵍ T, option_in_first White A T X has, le-trans _ _ _ (plus-le X (A +ᵍ num e d) T le) (same-swap A (num e d) T).0)

-- beside such a game no move in a number is needed
in_number : (c : Colour) (A : Tree) (e : ℕ) (m : ℤ) → IsCheap c A
    → ((X : Tree) → Has (options c A) X → ¬ LosesGame (other c) (X +ᵍ num e m)) → ¬ LosesGame c (A +ᵍ num e m) → ⊥
in_number c A e m free none wins = let (X, has, lost) = wins-option c (A +ᵍ num e m) wins in at c free none X (option_of_sum c A (num e m) X has) lost
  where
    at : (c : Colour) → IsCheap c A → ((X : Tree) → Has (options c A) X → ¬ LosesGame (other c) (X +ᵍ num e m))
        → (X : Tree) → InSum A (num e m) (options c A) (options c (num e m)) X → LosesGame (other c) X → ⊥
    at c free none _ (in_first K h) lost = none K h lost
    at Black free none _ (in_second K h) lost =
        let (k, lt, is) = num-left e m K h in
        let (X, has, le) = free e (m -ℤ k) (omega (arith, ints, lt)) in
        let number : num e (m -ℤ k) +ᵍ num e k ≤ᵍ num e m = subst (λ z. num e (m -ℤ k) +ᵍ num e k ≤ᵍ num e z) (omega (arith, ints)) (num-plus_le e (m -ℤ k) k) in
        none X has (le-trans _ _ _ (subst (λ t. LosesGame White (A +ᵍ t)) is lost)
        (le-trans _ _ _ (plus-le A (X +ᵍ num e (m -ℤ k)) (num e k) le)
        (subst (λ t. t ≤ᵍ X +ᵍ num e m) (sym (plus-assoc X (num e (m -ℤ k)) (num e k))) (plus-le_both X X _ _ (le-refl X) number))))
    at White free none _ (in_second K h) lost =
        let (k, lt, is) = num-right e m K h in
        let (X, has, le) = free e (k -ℤ m) (omega (arith, ints, lt)) in
        let number : num e (k -ℤ m) +ᵍ num e m ≤ᵍ num e k = subst (λ z. num e (k -ℤ m) +ᵍ num e m ≤ᵍ num e z) (omega (arith, ints)) (num-plus_le e (k -ℤ m) m) in
        none X has (le-trans _ _ _ (plus-le X (A +ᵍ num e (k -ℤ m)) (num e m) le)
        (le-trans _ _ _ (subst (λ t. t ≤ᵍ A +ᵍ num e k) (sym (plus-assoc A (num e (k -ℤ m)) (num e m))) (plus-le_both A A _ _ (le-refl A) number))
        (subst (λ t. LosesGame Black (A +ᵍ t)) is lost)))

-- a number among the games goes over to the number beside them
joined : (T : Tree) (e : ℕ) (m : ℤ) → IsNumber T → (f : ℕ) × ((n : ℤ) × ((T +ᵍ num e m) ≡ᵍ num f n))
joined T e m (d, z, under, over) =
    let (w, same) = scaled d e m in
    let (v, same') = scaled e d z in
    let depth : num (e + d) v ≡ num (d + e) v = ap (λ f. num f v) (omega arith) in
    let first : T ≡ᵍ num (d + e) v = same-trans _ _ _ (under, over) (same-path _ _ (sym same' ∙ depth)) in
    (d + e, (v +ℤ w, same-trans _ _ _ (same-plus _ _ _ _ first (same-path _ _ (sym same))) (num-plus_le (d + e) v w, num-le_plus (d + e) v w)))

regroup : (A S T N M : Tree) → (T +ᵍ N) ≡ᵍ M → ((A +ᵍ (T +ᵍ S)) +ᵍ N) ≡ᵍ ((A +ᵍ S) +ᵍ M)
regroup A S T N M e =
    let inner : ((T +ᵍ S) +ᵍ N) ≡ᵍ (S +ᵍ M) = same-trans _ _ _ (same-swap T S N) (same-trans _ _ _ (same-plus _ _ _ _ e (same-refl S)) (same-comm M S)) in
    same-trans _ _ _ (same-path _ _ (plus-assoc A (T +ᵍ S) N))
    (same-trans _ _ _ (same-plus _ _ _ _ (same-refl A) inner) (same-path _ _ (sym (plus-assoc A S M))))

module _ (P : Type 0) (moves : Colour → P → List (Step P)) (n : ℕ) (c : Colour) where
  -- the part is no number
  abbrev pub Hot : P → Type 0
  Hot p = ¬ IsNumber (tree_within P moves n p)

  abbrev pub HotIn : List P → Type 0
  HotIn [] = ⊥
  HotIn (p ∷ ps) = Hot p ⊎ HotIn ps

  -- a local move of the player in a part that is no number, which takes k stones, leads from the one list to the other
  abbrev pub HotStep : List P → List P → ℕ → Type 0
  HotStep [] qs k = ⊥
  HotStep (p ∷ ps) [] k = ⊥
  HotStep (p ∷ ps) (q ∷ qs) k = (Hot p × ((x : Step P) × Contains (moves c p) x × (x.to ≡ q) × (x.taken ≡ k)) × (ps ≡ qs)) ⊎ ((p ≡ q) × HotStep ps qs k)

  abbrev rest : List P → Tree
  rest ps = parts_tree P moves n ps

  -- beside a game it can't be that no such move wins where the player, who moves first, wins
  abbrev pub Avoids : List P → Type 0
  Avoids ps = (A : Tree) (e : ℕ) (m : ℤ) → IsCheap c A ⊎ HotIn ps
      → ((X : Tree) → Has (options c A) X → ¬ LosesGame (other c) ((X +ᵍ rest ps) +ᵍ num e m))
      → ((qs : List P) (k : ℕ) → HotStep ps qs k → ¬ LosesGame (other c) ((A +ᵍ (rest qs +ᵍ gain c k)) +ᵍ num e m))
      → ¬ LosesGame c ((A +ᵍ rest ps) +ᵍ num e m) → ⊥

  pub avoid : (ps : List P) → AllEnd P moves n ps → Avoids ps
  unfolding parts_tree
  avoid [] ends A e m some before hot wins = elim some [
    | inl free ↦ in_number c A e m free (λ X h l. before X h (subst (λ t. LosesGame (other c) (t +ᵍ num e m)) (sym (plus-nought X)) l))
        (λ l. wins (subst (λ t. LosesGame c (t +ᵍ num e m)) (sym (plus-nought A)) l))
    | inr h ↦ h
  ]
  avoid (p ∷ ps) ends A e m some before hot wins = in_part (avoid ps ends.1)
    where
      T : Tree
      T = tree_within P moves n p

      apart : Avoids ps → ¬ IsNumber T → ⊥
      apart again is = again (A +ᵍ T) e m (inl (cheap-plus_right c A T (cheap c T is)))
          (λ X h l. at X (option_of_sum c A T X h) l)
          (λ qs k h l. hot (p ∷ qs) k (inr (refl, h))
          (subst (λ t. LosesGame (other c) (t +ᵍ num e m)) (plus-assoc A T (rest qs +ᵍ gain c k) ∙ ap (λ t. A +ᵍ t) (sym (plus-assoc T (rest qs) (gain c k)))) l))
          (λ l. wins (subst (λ t. LosesGame c (t +ᵍ num e m)) (plus-assoc A T (rest ps)) l))
        where
          at : (X : Tree) → InSum A T (options c A) (options c T) X → ¬ LosesGame (other c) ((X +ᵍ rest ps) +ᵍ num e m)
          at _ (in_first K h) l = before K h (subst (λ t. LosesGame (other c) (t +ᵍ num e m)) (plus-assoc K T (rest ps)) l)
          at _ (in_second K h) l =
              let (x, among, to) = option-move P moves c n p K ends.0 h in
              let swap = same-trans _ _ _ (same-path _ _ (ap (λ t. t +ᵍ rest ps) to)) (same-swap (tree_within P moves n x.to) (gain c x.taken) (rest ps)) in
              let same = same-trans _ _ _ (same-path _ _ (plus-assoc A K (rest ps))) (same-plus A A _ _ (same-refl A) swap) in
              hot (x.to ∷ ps) x.taken (inl (is, (x, among, refl, refl), refl))
              (loses-same (other c) _ _ (same-plus _ _ _ _ same (same-refl (num e m))) l)

      number : Avoids ps → IsNumber T → ⊥
      number again is =
          let (f, (w, same)) = joined T e m is in
          let left : IsCheap c A ⊎ HotIn ps = elim some [ inl free ↦ inl free | inr here ↦ elim here [ inl not ↦ absurd (not is) | inr later ↦ inr later ] ] in
          again A f w left
          (λ X h l. before X h (loses-same (other c) _ _ (same-sym _ _ (regroup X (rest ps) T (num e m) (num f w) same)) l))
          (λ qs k h l. hot (p ∷ qs) k (inr (refl, h)) (loses-same (other c) _ _ (same-sym _ _
          (same-trans _ _ _ (same-path _ _ (ap (λ t. (A +ᵍ t) +ᵍ num e m) (plus-assoc T (rest qs) (gain c k))))
          (regroup A (rest qs +ᵍ gain c k) T (num e m) (num f w) same))) l))
          (λ l. wins (loses-same c _ _ (same-sym _ _ (regroup A (rest ps) T (num e m) (num f w) same)) l))

      in_part : Avoids ps → ⊥
      in_part again = apart again (λ is. number again is)
