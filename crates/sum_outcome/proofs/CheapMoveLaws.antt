-- In a sum with a game that is no number, moves in numbers may be left out.
use Rattle.std.proofs.Common.{ℕ, zero, suc, ◌≡◌, ◌≤◌, arith, inl, inr, refl, sym, ap, subst, ℤ, pos, negsuc, ◌+ℤ◌, ◌<ℤ◌, neg_ℤ}
use Rattle.std.proofs.lemmas.Int.{ints}
use Rattle.go_grid.specs.declared.grid.Colour.{Colour}
use Rattle.go_grid.specs.declared.grid.Colour.TheVariants.{Black, White}
use Rattle.go_grid.specs.Board.{other}
use Rattle.short_games.specs.Tree.{Tree, Trees, node, none, more, Has}
use Rattle.short_games.specs.Order.{◌≤ᵍ◌, ◌≡ᵍ◌}
use Rattle.short_games.specs.Sum.{◌+ᵍ◌, total}
use Rattle.short_games.specs.Number.{num, IsNumber, number_tree}
use Rattle.short_games.proofs.OrderLaws.{le-refl, le-trans, same-refl, same-path, same-sym, same-trans}
use Rattle.short_games.proofs.SumLaws.{InSum, plus-le, plus-le_both, plus-cancel, plus-assoc, plus-nought, nought, same-plus, same-comm, same-swap}
use Rattle.short_games.proofs.SumLaws.InSum.{in_first, in_second}
use Rattle.short_games.proofs.NumberLaws.{num-left, num-right, num-zero, num-plus_le, num-le_plus}
use Rattle.short_games.proofs.ReductionLaws.{canonical-number}
use Rattle.short_games.proofs.AvoidanceLaws.{cheap_left, cheap_right}
use Rattle.game_players.specs.Players.{options, credit, LosesGame}
use Rattle.game_players.proofs.PlayerLaws.{option_of_sum, option_in_first, option_in_second, loses-out, wins-option, loses-or_not}
use Rattle.sum_outcome.specs.inner.Search.{IsNonNumber, IsMove, put}

-- the game at a place
abbrev pub IsAt : Trees → ℕ → Tree → Type 0
IsAt none k G = ⊥
IsAt (more H Hs) zero G = H ≡ G
IsAt (more H Hs) (suc k) G = IsAt Hs k G

-- the first game is no better for the player than the second
abbrev pub NoBetter : Colour → Tree → Tree → Type 0
NoBetter Black G H = G ≤ᵍ H
NoBetter White G H = H ≤ᵍ G

-- d parts of 2 ^ -e to the good of a player
abbrev gift : Colour → ℕ → ℕ → Tree
gift c e d = num e (credit c d)

-- by some move the player loses no more than any number that is named
abbrev IsCheap : Tree → Type 0
IsCheap G = (c : Colour) (e d : ℕ) → 1 ≤ d → (X : Tree) × Has (options c G) X × NoBetter c G (X +ᵍ gift c e d)

abbrev with_number : Tree → ℤ → Tree
with_number G x = G +ᵍ number_tree x

-- laws of NoBetter
pub same-no_better : (c : Colour) (G H : Tree) → G ≡ᵍ H → NoBetter c G H
same-no_better Black G H e = e.0
same-no_better White G H e = e.1

pub no_better-trans : (c : Colour) (G H K : Tree) → NoBetter c G H → NoBetter c H K → NoBetter c G K
no_better-trans Black G H K p q = le-trans G H K p q
no_better-trans White G H K p q = le-trans K H G q p

pub no_better-plus : (c : Colour) (G H K : Tree) → NoBetter c G H → NoBetter c (G +ᵍ K) (H +ᵍ K)
no_better-plus Black G H K p = plus-le G H K p
no_better-plus White G H K p = plus-le H G K p

pub no_better-cancel : (c : Colour) (G H K : Tree) → NoBetter c (G +ᵍ K) (H +ᵍ K) → NoBetter c G H
no_better-cancel Black G H K p = plus-cancel G H K p
no_better-cancel White G H K p = plus-cancel H G K p

pub wins-better : (c : Colour) (G H : Tree) → NoBetter c G H → LosesGame (other c) G → LosesGame (other c) H
wins-better Black G H p l = le-trans nought G H l p
wins-better White G H p l = le-trans H G nought p l

-- numbers and their options
gap : (k y : ℤ) → k <ℤ y → (d : ℕ) × (1 ≤ d) × (y ≡ k +ℤ pos d) × (k ≡ y +ℤ neg_ℤ (pos d))
gap k y lt = at (y +ℤ neg_ℤ k) refl
  where
    at : (z : ℤ) → y +ℤ neg_ℤ k ≡ z → (d : ℕ) × (1 ≤ d) × (y ≡ k +ℤ pos d) × (k ≡ y +ℤ neg_ℤ (pos d))
    at (pos d) e = (d, omega (arith, ints, e, lt), omega (arith, ints, e), omega (arith, ints, e))
    at (negsuc d) e = absurd (omega (arith, ints, e, lt))

pub num-sum : (e : ℕ) (x a b : ℤ) → x ≡ a +ℤ b → num e x ≡ᵍ (num e a +ᵍ num e b)
num-sum e x a b p = rw p (num-le_plus e a b, num-plus_le e a b)

num-option : (c : Colour) (e : ℕ) (x : ℤ) (K : Tree) → Has (options c (num e x)) K → (d : ℕ) × (1 ≤ d) × (num e x ≡ᵍ (K +ᵍ gift c e d))
num-option Black e x K h =
    let r = num-left e x K h in
    let g = gap r.0 x r.1 in
    (g.0, g.1, subst (λ t. num e x ≡ᵍ (t +ᵍ gift Black e g.0)) (sym r.2) (num-sum e x r.0 (pos g.0) g.2))
num-option White e x K h =
    let r = num-right e x K h in
    let g = gap x r.0 r.1 in
    (g.0, g.1, subst (λ t. num e x ≡ᵍ (t +ᵍ gift White e g.0)) (sym r.2) (num-sum e x r.0 (neg_ℤ (pos g.0)) g.3))

-- a game that is no number is cheap
given_back : (G : Tree) (e d : ℕ) → (G +ᵍ num e (pos d)) +ᵍ num e (neg_ℤ (pos d)) ≤ᵍ G
given_back G e d =
    let A = num e (pos d) in
    let B = num e (neg_ℤ (pos d)) in
    let nothing : A +ᵍ B ≤ᵍ nought = subst (λ t. A +ᵍ B ≤ᵍ t) (num-zero e) (subst (λ z. A +ᵍ B ≤ᵍ num e z) (omega (arith, ints)) (num-plus_le e (pos d) (neg_ℤ (pos d)))) in
    rw (plus-assoc G A B) (subst (λ t. G +ᵍ (A +ᵍ B) ≤ᵍ t) (plus-nought G) (plus-le_both G G (A +ᵍ B) nought (le-refl G) nothing))

cheap : (G : Tree) → (IsNumber G → ⊥) → IsCheap G
cheap G f Black e d p = cheap_left G f e (pos d) (omega (arith, ints, p))
cheap G f White e d p =
    let r = cheap_right G f e (pos d) (omega (arith, ints, p)) in
    (r.0, r.1, le-trans _ _ _ (plus-le r.0 (G +ᵍ num e (pos d)) (num e (neg_ℤ (pos d))) r.2) (given_back G e d))

non_number-cheap : (G : Tree) → IsNonNumber G → IsCheap G
non_number-cheap G h = cheap G (λ n. h.1 (n.0, n.1, canonical-number G h.0 n))

-- one game put for another
pub put-total : (Gs : Trees) (k : ℕ) (G X : Tree) → IsAt Gs k G → (total (put Gs k X) +ᵍ G) ≡ᵍ (total Gs +ᵍ X)
unfolding total
put-total none k G X h = absurd h
put-total (more H Hs) zero G X h = rw h (same-trans _ _ _ (same-swap X (total Hs) G) (same-trans _ _ _ (same-plus _ _ _ _ (same-comm X G) (same-refl (total Hs))) (same-swap G X (total Hs))))
put-total (more H Hs) (suc k) G X h = same-trans _ _ _
    (same-path _ _ (plus-assoc H (total (put Hs k X)) G))
    (same-trans _ _ _ (same-plus _ _ _ _ (same-refl H) (put-total Hs k G X h)) (same-path _ _ (sym (plus-assoc H (total Hs) X))))

pub put-option : (c : Colour) (Gs : Trees) (k : ℕ) (G X : Tree) → IsAt Gs k G → Has (options c G) X → Has (options c (total Gs)) (total (put Gs k X))
unfolding total
put-option c none k G X h x = absurd h
put-option c (more H Hs) zero G X h x = option_in_first c H (total Hs) X (rw h x)
put-option c (more H Hs) (suc k) G X h x = option_in_second c H (total Hs) (total (put Hs k X)) (put-option c Hs k G X h x)

none-option : (c : Colour) (Y : Tree) → Has (options c (node none none)) Y → ⊥
none-option Black Y h = h
none-option White Y h = h

option-put : (c : Colour) (Gs : Trees) (Y : Tree) → Has (options c (total Gs)) Y → (k : ℕ) × ((G : Tree) × IsAt Gs k G × ((X : Tree) × Has (options c G) X × (Y ≡ total (put Gs k X))))
unfolding total
option-put c none Y h = absurd (none-option c Y h)
option-put c (more H Hs) Y h = at Y (option_of_sum c H (total Hs) Y h) (λ Z z. option-put c Hs Z z)
  where
    at : (Z : Tree) → InSum H (total Hs) (options c H) (options c (total Hs)) Z
        → ((W : Tree) → Has (options c (total Hs)) W → (k : ℕ) × ((G : Tree) × IsAt Hs k G × ((X : Tree) × Has (options c G) X × (W ≡ total (put Hs k X)))))
        → (k : ℕ) × ((G : Tree) × IsAt (more H Hs) k G × ((X : Tree) × Has (options c G) X × (Z ≡ total (put (more H Hs) k X))))
    at _ (in_first X x) rest = (0, (H, refl, (X, x, refl)))
    at _ (in_second W w) rest = let r = rest W w in (suc r.0, (r.1.0, r.1.1, (r.1.2.0, r.1.2.1, ap (λ t. H +ᵍ t) r.1.2.2)))

-- beside a cheap game, what a move in a number wins, a move in the game wins
module _ (Gs : Trees) (x : ℤ) (c : Colour) (j : ℕ) (H : Tree) (at : IsAt Gs j H) (cheap : IsCheap H) where
  -- the sum is worse than it is after a cheap move by no more than d
  cheap_move : (e d : ℕ) → 1 ≤ d → (L : Tree) × Has (options c H) L × NoBetter c (total Gs) (total (put Gs j L) +ᵍ gift c e d)
  cheap_move e d a =
      let r = cheap c e d a in
      let P = total (put Gs j r.0) in
      let g = gift c e d in (
        r.0,
        r.1,
        no_better-cancel c (total Gs) (P +ᵍ g) r.0
            (no_better-trans c _ (P +ᵍ H) _ (same-no_better c _ _ (same-sym _ _ (put-total Gs j H r.0 at)))
            (no_better-trans c _ ((r.0 +ᵍ g) +ᵍ P) _
            (no_better-trans c _ (H +ᵍ P) _ (same-no_better c _ _ (same-comm P H)) (no_better-plus c H (r.0 +ᵍ g) P r.2))
            (same-no_better c _ _ (same-trans _ _ _ (same-comm (r.0 +ᵍ g) P) (same-trans _ _ _ (same-plus _ _ _ _ (same-refl P) (same-comm r.0 g)) (same-path _ _ (sym (plus-assoc P g r.0)))))))),
      )

  by_number : (K : Tree) → Has (options c (number_tree x)) K → LosesGame (other c) (total Gs +ᵍ K) → (L : Tree) × Has (options c H) L × LosesGame (other c) (with_number (total (put Gs j L)) x)
  by_number K h l =
      let n = num-option c 60 x K h in
      let r = cheap_move 60 n.0 n.1 in
      let P = total (put Gs j r.0) in
      let g = gift c 60 n.0 in (
        r.0,
        r.1,
        wins-better c (total Gs +ᵍ K) (P +ᵍ number_tree x)
            (no_better-trans c _ ((P +ᵍ g) +ᵍ K) _ (no_better-plus c (total Gs) (P +ᵍ g) K r.2)
            (same-no_better c _ _ (same-trans _ _ _ (same-path _ _ (plus-assoc P g K)) (same-plus _ _ _ _ (same-refl P) (same-trans _ _ _ (same-comm g K) (same-sym _ _ n.2)))))) l,
      )

  by_number_at : (i e : ℕ) (y : ℤ) (K : Tree) → IsAt Gs i (num e y) → Has (options c (num e y)) K → LosesGame (other c) (with_number (total (put Gs i K)) x) → (L : Tree) × Has (options c H) L × LosesGame (other c) (with_number (total (put Gs j L)) x)
  by_number_at i e y K ai h l =
      let n = num-option c e y K h in
      let r = cheap_move e n.0 n.1 in
      let P = total (put Gs j r.0) in
      let Q = total (put Gs i K) in
      let g = gift c e n.0 in
      let same : (Q +ᵍ (g +ᵍ K)) ≡ᵍ (total Gs +ᵍ K) = same-trans _ _ _ (same-plus _ _ _ _ (same-refl Q) (same-trans _ _ _ (same-comm g K) (same-sym _ _ n.2))) (put-total Gs i (num e y) K ai) in
      let whole : NoBetter c (Q +ᵍ g) (total Gs) = no_better-cancel c (Q +ᵍ g) (total Gs) K (same-no_better c _ _ (same-trans _ _ _ (same-path _ _ (plus-assoc Q g K)) same)) in
      (r.0, r.1, wins-better c (Q +ᵍ number_tree x) (P +ᵍ number_tree x) (no_better-plus c Q P (number_tree x) (no_better-cancel c Q P g (no_better-trans c _ (total Gs) _ whole r.2))) l)

-- where some game is no number, the player loses where no move in such a game wins
pub loses-by_games : (Gs : Trees) (x : ℤ) (c : Colour) (j : ℕ) (H : Tree) → IsAt Gs j H → IsNonNumber H
    → ((k : ℕ) (G X : Tree) → IsAt Gs k G → IsMove G c X → LosesGame (other c) (with_number (total (put Gs k X)) x) → ⊥) → LosesGame c (with_number (total Gs) x)
loses-by_games Gs x c j H at no_number fails = elim (loses-or_not c (with_number (total Gs) x)) [
  | inl l ↦ l
  | inr w ↦ (let z = wins-option c (with_number (total Gs) x) w in absurd (by z.0 (option_of_sum c (total Gs) (number_tree x) z.0 z.1) z.2))
]
  where
    found : (L : Tree) × Has (options c H) L × LosesGame (other c) (with_number (total (put Gs j L)) x) → ⊥
    found r = fails j H r.0 at (no_number.1, r.1) r.2

    by_game : (k : ℕ) (G X : Tree) → IsAt Gs k G → Has (options c G) X → LosesGame (other c) (with_number (total (put Gs k X)) x) → ⊥
    by_game k G X a h l = fails k G X a (
      λ n. found (by_number_at Gs x c j H at (non_number-cheap H no_number) k n.0 n.1 X (subst (λ t. IsAt Gs k t) n.2 a) (subst (λ t. Has (options c t) X) n.2 h) l),
      h,
    ) l

    by : (Z : Tree) → InSum (total Gs) (number_tree x) (options c (total Gs)) (options c (number_tree x)) Z → LosesGame (other c) Z → ⊥
    by _ (in_second K k) l = found (by_number Gs x c j H at (non_number-cheap H no_number) K k l)
    by _ (in_first Y y) l =
        let r = option-put c Gs Y y in
        by_game r.0 r.1.0 r.1.2.0 r.1.1 r.1.2.1 (subst (λ t. LosesGame (other c) (with_number t x)) r.1.2.2 l)

pub wins-by_move : (Gs : Trees) (x : ℤ) (c : Colour) (k : ℕ) (G X : Tree) → IsAt Gs k G → Has (options c G) X → LosesGame (other c) (with_number (total (put Gs k X)) x) → LosesGame c (with_number (total Gs) x) → ⊥
wins-by_move Gs x c k G X at h w l = loses-out c (with_number (total Gs) x) (with_number (total (put Gs k X)) x) l
    (option_in_first c (total Gs) (number_tree x) (total (put Gs k X)) (put-option c Gs k G X at h)) w
