-- Number avoidance and translation for all forms: a number in any form may be exchanged for its tree.
use Rattle.std.proofs.Common.{◌≡◌, ◌↔◌, inl, inr, refl, sym, subst}
use Rattle.short_games.specs.Tree.{Tree, Trees, node, none, more, left, right, Has}
use Rattle.short_games.specs.Order.{◌≤ᵍ◌, ◌≡ᵍ◌, by_left, by_right}
use Rattle.short_games.specs.Sum.{◌+ᵍ◌, each_plus, total}
use Rattle.short_games.specs.Number.{num, IsNumber}
use Rattle.short_games.specs.Moves.{LeftMoves, RightMoves, LeftWins, RightWins}
use Rattle.short_games.specs.AvoidanceLaws.{NoneIsNumber}
use Rattle.short_games.proofs.OrderLaws.{le-out, le-trans, le-refl, not-le, same-trans}
use Rattle.short_games.proofs.SumLaws.{nought, plus-le_both, plus-nought, each_plus-has, has-each_plus}
use Rattle.short_games.proofs.FormLaws.{by_better, translation}
use Rattle.short_games.proofs.AvoidanceLaws.{avoid_left, avoid_right, cheap_left, cheap_right}

-- Left wins, moving first, where the game isn't at most 0
pub left_wins-is : (G : Tree) → LeftWins G ↔ (G ≤ᵍ nought → ⊥)
left_wins-is G = (λ w p. (le-out G nought p).from_left w.0 w.1 w.2, λ f. elim (not-le G nought f) [ by_left L l y ↦ (L, l, y) | by_right R r y ↦ absurd r ])

pub right_wins-is : (G : Tree) → RightWins G ↔ (nought ≤ᵍ G → ⊥)
right_wins-is G = (λ w p. (le-out nought G p).from_right w.0 w.1 w.2, λ f. elim (not-le nought G f) [ by_left L l y ↦ absurd l | by_right R r y ↦ (R, r, y) ])

left_wins-along : (G H : Tree) → G ≤ᵍ H → LeftWins G → LeftWins H
left_wins-along G H p w = (left_wins-is H).1 (λ q. (left_wins-is G).0 w (le-trans G H nought p q))

right_wins-along : (G H : Tree) → H ≤ᵍ G → RightWins G → RightWins H
right_wins-along G H p w = (right_wins-is H).1 (λ q. (right_wins-is G).0 w (le-trans nought H G q p))

-- to add more to one game
add-le : (T A B : Tree) → A ≤ᵍ B → T +ᵍ A ≤ᵍ T +ᵍ B
add-le T A B p = plus-le_both T T A B (le-refl T) p

pub left-in_games : (Gs : Trees) (X : Tree) → NoneIsNumber Gs → IsNumber X → LeftWins (total Gs +ᵍ X) → (Hs : Trees) × LeftMoves Gs Hs × (nought ≤ᵍ total Hs +ᵍ X)
left-in_games none X h n w = absurd h.some.1
left-in_games (more G Gs) X h (e, m, under, over) w =
    let v = left_wins-along _ _ (add-le (total (more G Gs)) X (num e m) under) w in
    let r = avoid_left G Gs (h.no_numbers G (inl refl)) e m v.0 v.1 v.2 in
    (r.0, r.1, le-trans _ _ _ r.2 (add-le (total r.0) (num e m) X over))

pub right-in_games : (Gs : Trees) (X : Tree) → NoneIsNumber Gs → IsNumber X → RightWins (total Gs +ᵍ X) → (Hs : Trees) × RightMoves Gs Hs × (total Hs +ᵍ X ≤ᵍ nought)
right-in_games none X h n w = absurd h.some.1
right-in_games (more G Gs) X h (e, m, under, over) w =
    let v = right_wins-along _ _ (add-le (total (more G Gs)) (num e m) X over) w in
    let r = avoid_right G Gs (h.no_numbers G (inl refl)) e m v.0 v.1 v.2 in
    (r.0, r.1, le-trans _ _ _ (add-le (total r.0) X (num e m) under) r.2)

-- a game as a list of one
alone : (G : Tree) → (IsNumber G → ⊥) → NoneIsNumber (more G none)
alone G f = record { some = (G, inl refl); no_numbers = λ K k. elim k [ inl i ↦ subst (λ t. IsNumber t → ⊥) (sym i) f | inr a ↦ absurd a ] }

alone-total : (G : Tree) → total (more G none) ≡ G
unfolding total
alone-total G = plus-nought G

pub left-in_game : (G X : Tree) → (IsNumber G → ⊥) → IsNumber X → LeftWins (G +ᵍ X) → (L : Tree) × Has (left G) L × (nought ≤ᵍ L +ᵍ X)
left-in_game G X f n w = at (left-in_games (more G none) X (alone G f) n (subst (λ t. LeftWins (t +ᵍ X)) (sym (alone-total G)) w))
  where
    at : (Hs : Trees) × LeftMoves (more G none) Hs × (nought ≤ᵍ total Hs +ᵍ X) → (L : Tree) × Has (left G) L × (nought ≤ᵍ L +ᵍ X)
    at (none, v, y) = absurd v
    at (more L Hs, inl v, y) = (L, v.0, subst (λ t. nought ≤ᵍ t +ᵍ X) (alone-total L) (subst (λ t. nought ≤ᵍ total (more L t) +ᵍ X) (sym v.1) y))
    at (more L Hs, inr v, y) = absurd v.1

pub right-in_game : (G X : Tree) → (IsNumber G → ⊥) → IsNumber X → RightWins (G +ᵍ X) → (R : Tree) × Has (right G) R × (R +ᵍ X ≤ᵍ nought)
right-in_game G X f n w = at (right-in_games (more G none) X (alone G f) n (subst (λ t. RightWins (t +ᵍ X)) (sym (alone-total G)) w))
  where
    at : (Hs : Trees) × RightMoves (more G none) Hs × (total Hs +ᵍ X ≤ᵍ nought) → (R : Tree) × Has (right G) R × (R +ᵍ X ≤ᵍ nought)
    at (none, v, y) = absurd v
    at (more R Hs, inl v, y) = (R, v.0, subst (λ t. t +ᵍ X ≤ᵍ nought) (alone-total R) (subst (λ t. total (more R t) +ᵍ X ≤ᵍ nought) (sym v.1) y))
    at (more R Hs, inr v, y) = absurd v.1

-- the options of a game with A added, or with B
shifted : Tree → Tree → Tree
shifted G A = node (each_plus (left G) A) (each_plus (right G) A)

shifted-le : (G A B : Tree) → A ≤ᵍ B → shifted G A ≤ᵍ shifted G B
unfolding shifted
shifted-le G A B p = by_better _ _
    (λ L l. (let r = each_plus-has (left G) A L l in (r.0 +ᵍ B, has-each_plus (left G) B r.0 r.1, subst (λ t. t ≤ᵍ r.0 +ᵍ B) (sym r.2) (add-le r.0 A B p))))
    (λ S s. (let r = each_plus-has (right G) B S s in (r.0 +ᵍ A, has-each_plus (right G) A r.0 r.1, subst (λ t. r.0 +ᵍ A ≤ᵍ t) (sym r.2) (add-le r.0 A B p))))

pub numbers-shift : (G X : Tree) → (IsNumber G → ⊥) → IsNumber X → (G +ᵍ X) ≡ᵍ node (each_plus (left G) X) (each_plus (right G) X)
unfolding shifted
numbers-shift G X f (e, m, under, over) =
    let t = translation e G m (cheap_left G f e) (cheap_right G f e) in
    same-trans (G +ᵍ X) (G +ᵍ num e m) (shifted G X) (add-le G X (num e m) under, add-le G (num e m) X over)
    (same-trans (G +ᵍ num e m) (shifted G (num e m)) (shifted G X) t (shifted-le G (num e m) X over, shifted-le G X (num e m) under))
