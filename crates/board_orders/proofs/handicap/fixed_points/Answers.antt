use Rattle.std.proofs.Common.{◌<◌, ◌*◌, ◌∙◌, ◌++◌, ◌∷◌, [], sym, subst, ap, map, take, All}
use Rattle.std.proofs.lemmas.List.{take_more, map-append}
use Rattle.std.proofs.lemmas.List.Elements.{All-push}
use Rattle.board_orders.specs.Handicaps.{place_point}
use Rattle.board_orders.proofs.handicap.fixed_points.Goals as goal

pub places-preserved : goal.places-preserved
places-preserved c =
    let columns = c.args.size.columns in let rows = c.args.size.rows in let places = c.places-places.result.now in let p = c.place_point.result in let f = place_point columns rows in (
      c.in_ok-push.ensures.items ∙ ap (λ l. l ++ p ∷ []) c.places.invariant.0 ∙ ap (λ k. map f (take c.places.at places) ++ k ∷ []) c.place_point.ensures.value
          ∙ sym (ap (map f) (take_more places c.places.at _ c.places-test.true) ∙ map-append f (take c.places.at places) _),
      subst (All (λ k. k < columns * rows)) (sym c.in_ok-push.ensures.items) (All-push (λ k. k < columns * rows) c.places.points.items p c.places.invariant.1 c.place_point.ensures.on_board),
    )
