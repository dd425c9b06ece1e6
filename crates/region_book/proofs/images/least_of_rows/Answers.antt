use Rattle.std.proofs.Common.{◌≡◌, inl, inr, true, false}
use Rattle.std.proofs.lemmas.Bool.{cases_Bool}
use Rattle.region_book.proofs.MadeLaws.{least_of_two}
use Rattle.region_book.proofs.images.least_of_rows.Goals as goal

pub returns : goal.returns
returns c =
    let l = c.lesser.ensures in
    least_of_two c.args.region.now c.args.cells.now (λ s e. s ≡ record { exchange = c.args.exchange; columns = c.args.columns; rows = false })
    (λ s e. s ≡ record { exchange = c.args.exchange; columns = c.args.columns; rows = true }) (λ s e. (s.exchange ≡ c.args.exchange) × (s.columns ≡ c.args.columns)) _ _ _
    c.in_ok-first.ensures c.in_ok-second.ensures
    (λ s e h. elim (cases_Bool s.rows) [
      | inl t ↦ inr (λ i. record { exchange = h.0 i; columns = h.1 i; rows = t i })
      | inr f ↦ inl (λ i. record { exchange = h.0 i; columns = h.1 i; rows = f i })
    ])
    l.one l.first l.second
