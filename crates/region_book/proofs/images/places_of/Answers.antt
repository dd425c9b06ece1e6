use Rattle.std.proofs.Common.{◌<◌, ◌∙◌, arith, length}
use Rattle.region_book.proofs.PlacesLaws.{placing_more, placing_none}
use Rattle.region_book.proofs.images.places_of.Goals as goal

pub loop-place-init : goal.loop-place-init
loop-place-init c = placing_none _ _ _ _ _ _ _ _ c.no_places-all.ensures

pub place_of-requires : goal.place_of-requires
place_of-requires c =
    let lt : c.loop-place.place < length c.args.region.now.points = omega (arith, c.loop-place-test.true, c.places-place-end.ensures.value) in
    rw c.deref.ensures.value ((c.requires.image.exact c.spot-spot.result).1 (c.loop-place.place, lt, c.spot-spot.ensures))

pub loop-place-preserved : goal.loop-place-preserved
loop-place-preserved c =
    let few : c.loop-place.place < 32 = omega (arith, c.loop-place-test.true, c.places-place-end.ensures.value, c.requires.few) in
    let found = rw c.deref.ensures.value at c.place_of.ensures in
    placing_more _ _ _ _ _ _ _ c.loop-place.place c.loop-place.all c.place_of.result c.loop-place.invariant few found.within (λ d. found.there d ∙ c.spot-spot.ensures)
