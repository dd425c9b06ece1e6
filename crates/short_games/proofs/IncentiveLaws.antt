-- Incentives are ordered as sums are.
use Rattle.std.proofs.Common.{sym}
use Rattle.short_games.specs.Tree.{Tree, neg}
use Rattle.short_games.specs.Order.{◌≤ᵍ◌, ◌≡ᵍ◌}
use Rattle.short_games.specs.Sum.{◌+ᵍ◌}
use Rattle.short_games.proofs.OrderLaws.{le-trans, same-refl, same-path, same-trans}
use Rattle.short_games.proofs.SumLaws.{nought, plus-le, plus-cancel, plus-assoc, plus-nought, plus-neg, same-plus, same-comm}
use Rattle.short_games.specs.SumLaws.{incentive}

taken_back : (G H : Tree) → ((G +ᵍ neg H) +ᵍ H) ≡ᵍ G
taken_back G H = same-trans _ (G +ᵍ (neg H +ᵍ H)) G (same-path _ _ (plus-assoc G (neg H) H))
    (same-trans _ (G +ᵍ nought) G (same-plus G G _ _ (same-refl G) (same-trans _ (H +ᵍ neg H) nought (same-comm (neg H) H) (plus-neg H))) (same-path _ _ (plus-nought G)))

-- an incentive at H, with H and K added
beside : (H H' K : Tree) → (incentive H H' +ᵍ (H +ᵍ K)) ≡ᵍ (H' +ᵍ K)
beside H H' K = same-trans _ ((incentive H H' +ᵍ H) +ᵍ K) _ (same-path _ _ (sym (plus-assoc (incentive H H') H K))) (same-plus _ _ K K (taken_back H' H) (same-refl K))

module _ (G G' H H' : Tree) where
  low : (incentive H H' +ᵍ (H +ᵍ G)) ≡ᵍ (G +ᵍ H')
  low = same-trans _ (H' +ᵍ G) _ (beside H H' G) (same-comm H' G)

  high : (incentive G G' +ᵍ (H +ᵍ G)) ≡ᵍ (G' +ᵍ H)
  high = same-trans _ (incentive G G' +ᵍ (G +ᵍ H)) _ (same-plus _ _ _ _ (same-refl (incentive G G')) (same-comm H G)) (beside G G' H)

  pub incentive-dominates : incentive H H' ≤ᵍ incentive G G' → G +ᵍ H' ≤ᵍ G' +ᵍ H
  incentive-dominates p = le-trans _ _ _ low.1 (le-trans _ _ _ (plus-le (incentive H H') (incentive G G') (H +ᵍ G) p) high.0)

  pub incentive-dominates_back : G +ᵍ H' ≤ᵍ G' +ᵍ H → incentive H H' ≤ᵍ incentive G G'
  incentive-dominates_back p = plus-cancel (incentive H H') (incentive G G') (H +ᵍ G) (le-trans _ _ _ low.0 (le-trans _ _ _ p high.1))
