use Rattle.std.proofs.Common.{◌≡◌, inl, inr, true, false}
use Rattle.std.proofs.lemmas.Bool.{cases_Bool}
use Rattle.region_book.proofs.MadeLaws.{least_of_two}
use Rattle.region_book.proofs.images.least_image.Goals as goal

pub returns : goal.returns
returns c =
    let l = c.lesser.ensures in
    least_of_two c.args.region.now c.args.cells.now (λ s e. s.exchange ≡ false)
    (λ s e. s.exchange ≡ true) (λ s e. Unit {0}) _ _ _
    c.in_ok-kept.ensures c.in_ok-exchanged.ensures
    (λ s e h. elim (cases_Bool s.exchange) [
      | inl t ↦ inr t
      | inr f ↦ inl f
    ])
    l.one l.first l.second
