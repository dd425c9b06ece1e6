use Rattle.std.proofs.Common.{◌≡◌, ◌<◌, ◌≤◌, ◌++◌, ◌∷◌, ◌∙◌, [], ℕ, List, length, get_or, inr, ap, arith}
use Rattle.std.specs.List.{Contains}
use Rattle.std.proofs.Math.Seq.{get_or-append_seam}
use Rattle.std.proofs.lemmas.List.{length_push}
use Rattle.std.proofs.lemmas.Result.{err_from_is_err_and}
use Rattle.local_graph.specs.inner.Found.{Grows}
use Rattle.local_graph.proofs.graph_build.new_place.Goals as goal

-- a position that is new stands behind the others
module _ (xs ys : List ℕ) (n place limit : ℕ) (e : ys ≡ xs ++ n ∷ []) (new : ¬ Contains xs n) (at_end : place ≡ length xs) where
  added : place < limit → Grows xs n ys × (place < length ys) × (get_or ys place 0 ≡ n) × (length ys ≤ limit)
  added lt = (
    inr (e, new),
    omega (arith, ap length e, length_push xs n, at_end),
    ap (λ l. get_or l place 0) e ∙ ap (λ k. get_or (xs ++ n ∷ []) k 0) at_end ∙ get_or-append_seam xs n [] 0,
    omega (arith, ap length e, length_push xs n, at_end, lt),
  )

  too_many : limit ≤ place → Grows xs n ys × (limit < length ys)
  too_many le = (inr (e, new), omega (arith, ap length e, length_push xs n, at_end, le))

pub returns-then-place-limit-clause-placed : goal.returns-then-place-limit-clause-placed
returns-then-place-limit-clause-placed c =
    let positions = c.args.table.now.positions in
    added positions.items _ c.args.position _ c.args.limit
    (c.in_ok-add.ensures.positions ∙ ap (λ n. positions.items ++ n ∷ []) c.position.view_is) c.requires.new (omega (arith, c.len-place.ensures, positions.ok)) c.if-place-limit.true

pub returns-clause-placed : goal.returns-clause-placed
returns-clause-placed c =
    let positions = c.args.table.now.positions in
    too_many positions.items _ c.args.position c.len-place.result c.args.limit
    (c.in_ok-push.ensures.items ∙ ap (λ n. positions.items ++ n ∷ []) c.position.view_is) c.requires.new (omega (arith, c.len-place.ensures, positions.ok)) (omega (arith, c.if-place-limit.false))

pub returns-in_err-add-clause-placed : goal.returns-in_err-add-clause-placed
returns-in_err-add-clause-placed c = let p = err_from_is_err_and c.from_residual.result c.from_residual.ensures.1 in rw (p.1, p.2) tt
