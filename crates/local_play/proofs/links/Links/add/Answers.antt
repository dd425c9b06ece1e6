use Rattle.std.proofs.Common.{◌≡◌, ◌↔◌, ◌⊎◌, true, inl, inr, subst}
use Rattle.local_play.specs.Places.{Has}
use Rattle.local_play.specs.inner.Links.{IsLinkOf}
use Rattle.local_play.proofs.LinkLemmas.{table_more}
use Rattle.local_play.proofs.links.Links.add.Goals as goal

pub returns : goal.returns
returns c touches e below =
    let place = c.args.place in
    let before = c.args.self.now in
    table_more touches before place c.near.result c.union-self.result c.with-self.result c.with-self-2.result c.requires.place
    (λ q. subst (λ t. Has c.near.result q ↔ IsLinkOf t q) e (c.near.ensures q))
    (λ q. (
      λ h. elim ((c.union-self.ensures.either q).0 h) [ inl old ↦ inl old | inr one ↦ inr ((c.of.ensures q).0 one) ],
      λ w. (c.union-self.ensures.either q).1 (elim w [ inl old ↦ inl old | inr is ↦ inr ((c.of.ensures q).1 is) ]),
    ))
    (λ q. subst (λ t. Has c.with-self.result q ↔ (Has before.black q ⊎ ((q ≡ place) × (t.black ≡ true)))) e (c.with-self.ensures q))
    (λ q. subst (λ t. Has c.with-self-2.result q ↔ (Has before.white q ⊎ ((q ≡ place) × (t.white ≡ true)))) e (c.with-self-2.ensures q))
    below
