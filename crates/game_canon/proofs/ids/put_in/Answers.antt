use Rattle.std.proofs.Common.{List, ℕ, ◌≡◌, ◌<◌, length, get_or, sym, subst}
use Rattle.std.proofs.lemmas.Bool.{true≢false}
use Rattle.game_canon.specs.inner.Ids.{IsPlaceOf}
use Rattle.game_canon.proofs.IdLaws.{with-there, with-inserted}
use Rattle.game_canon.proofs.ids.put_in.Goals as goal

pub returns-then-is_at : goal.returns-then-is_at
returns-then-is_at c = with-there c.args.ids.now.items c.args.id c.place_of-place.result c.requires
    (subst (λ (z : List ℕ). IsPlaceOf z c.args.id c.place_of-place.result) c.deref.ensures c.place_of-place.ensures)
    (subst (λ (z : List ℕ). (c.place_of-place.result < length z) × (get_or z c.place_of-place.result 0 ≡ c.args.id)) c.deref-2.ensures (c.is_at.ensures.0 c.if-is_at.true))

pub returns : goal.returns
returns c = with-inserted c.args.ids.now.items c.args.id c.place_of-place.result c.requires
    (subst (λ (z : List ℕ). IsPlaceOf z c.args.id c.place_of-place.result) c.deref.ensures c.place_of-place.ensures)
    c.insert.new.self.items c.in_ok-insert.ensures.ok
    (λ h. true≢false (sym (c.if-is_at.ensures.1 (subst (λ (z : List ℕ). (c.place_of-place.result < length z) × (get_or z c.place_of-place.result 0 ≡ c.args.id)) (sym c.deref-2.ensures) h))))
