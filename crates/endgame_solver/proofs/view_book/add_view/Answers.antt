use Rattle.std.proofs.Common.{ℕ, ◌≡◌, ◌<◌, sym, ap, subst, arith, length, get_or}
use Rattle.endgame_solver.proofs.view_book.add_view.Goals as goal

pub pairing-places-requires-clause-some : goal.pairing-places-requires-clause-some
pairing-places-requires-clause-some c =
    let same : c.len.result ≡ length c.args.region.now.points = omega (arith, c.len.ensures, ap (λ s. length s.points) c.region.view_is, c.region.inside.points.ok.0) in
    subst (λ n. (j : ℕ) → j < n → (x : ℕ) × (x < n) × (get_or c.args.turn.now.places x 0 ≡ get_or c.args.kind.now.turn.places j 0)) (sym same) c.requires.some
