use Rattle.std.proofs.Common.{◌≡◌, ◌∙◌, ℕ, ◌∷◌, [], length, get_or, ap, sym, arith, below_more}
use Rattle.std.proofs.Math.Seq.{get_or-append_seam}
use Rattle.std.proofs.lemmas.List.{get_or_append_left, length_push}
use Rattle.local_graph.specs.declared.strong_components.Mark.TheVariants.{Told}
use Rattle.local_graph.specs.inner.Telling.{mark_at}
use Rattle.local_graph.proofs.strong_components.numbers_of.Goals as goal

pub loop-mark-preserved : goal.loop-mark-preserved
loop-mark-preserved c =
    let so_far = c.loop-mark.invariant in
    let xs = c.loop-mark.numbers.items in
    let x = c.in_ok-number_of.field-0 in
    let pushed = c.in_ok-push.ensures.items in
    record {
      long = omega (arith, ap length pushed, length_push xs x, so_far.long);
      told = λ i n lt e. below_more (λ i. (n : ℕ) → mark_at c.args.marks.now i ≡ Told n → get_or c.push.new.self.items i 0 ≡ n) c.loop-mark.mark-index
          (λ i lt n e. ap (λ l. get_or l i 0) pushed ∙ get_or_append_left xs (x ∷ []) 0 i (omega (arith, lt, so_far.long)) ∙ so_far.told i n lt e)
          (λ n e. ap (λ j. get_or c.push.new.self.items j 0) (sym so_far.long) ∙ ap (λ l. get_or l (length xs) 0) pushed ∙ get_or-append_seam xs x [] 0 ∙ c.in_ok-number_of.ensures {u = tt} n e)
          i lt n e;
    }
