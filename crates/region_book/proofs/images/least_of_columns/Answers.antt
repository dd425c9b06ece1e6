use Rattle.std.proofs.Common.{◌≡◌, inl, inr, true, false}
use Rattle.std.proofs.lemmas.Bool.{cases_Bool}
use Rattle.region_book.proofs.MadeLaws.{least_of_two}
use Rattle.region_book.proofs.images.least_of_columns.Goals as goal

pub returns : goal.returns
returns c =
    let l = c.lesser.ensures in
    least_of_two c.args.region.now c.args.cells.now (λ s e. (s.exchange ≡ c.args.exchange) × (s.columns ≡ false))
    (λ s e. (s.exchange ≡ c.args.exchange) × (s.columns ≡ true)) (λ s e. s.exchange ≡ c.args.exchange) _ _ _
    c.in_ok-kept.ensures c.in_ok-over.ensures
    (λ s e h. elim (cases_Bool s.columns) [
      | inl t ↦ inr (h, t)
      | inr f ↦ inl (h, f)
    ])
    l.one l.first l.second
