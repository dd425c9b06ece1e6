use Rattle.std.proofs.Common.{◌≡◌, ◌+◌, ◌++◌, ◌∷◌, [], ◌∙◌, ap, arith, refl, length, set, get_or, subst, sym, ◌<◌}
use Rattle.std.proofs.lemmas.List.{get_or_push}
use Rattle.local_graph.specs.inner.PlaceTable.{threes}
use Rattle.local_graph.proofs.TableLemmas.{slot_inside, more_in_slots, more_in_set}
use Rattle.local_graph.proofs.place_table.PlaceTable.enter.Goals as goal

pub fill_slot-requires-clause-slot : goal.fill_slot-requires-clause-slot
fill_slot-requires-clause-slot c =
    let s = c.args.self.now in
    let has = c.has_slots-has_slots.ensures.slots c.if-has_slots.true in
    let at : c.len-place.result ≡ length s.positions.items = omega (arith, c.len-place.ensures, s.positions.ok) in
    let there : get_or c.push_reserved.new.self.items c.len-place.result 0 ≡ c.args.position =
    ap (λ l. get_or l c.len-place.result 0) (c.push_reserved.ensures.items ∙ ap (λ l. l ++ c.args.position ∷ []) c.reserve.ensures.items) ∙ get_or_push s.positions.items c.args.position 0 c.len-place.result (sym at) in
    subst (λ n. threes n < length s.slots.items) (sym there) (slot_inside c.args.position (length s.slots.items) s.numbers has.enough c.requires.numbered)

pub fill_slot-requires-clause-number : goal.fill_slot-requires-clause-number
fill_slot-requires-clause-number c =
    let s = c.args.self.now in
    let at : c.len-place.result ≡ length s.positions.items = omega (arith, c.len-place.ensures, s.positions.ok) in
    let there : get_or c.push_reserved.new.self.items c.len-place.result 0 ≡ c.args.position =
    ap (λ l. get_or l c.len-place.result 0) (c.push_reserved.ensures.items ∙ ap (λ l. l ++ c.args.position ∷ []) c.reserve.ensures.items) ∙ get_or_push s.positions.items c.args.position 0 c.len-place.result (sym at) in
    c.requires.number ∙ ap threes (sym there)

pub returns-then-has_slots-clause-table : goal.returns-then-has_slots-clause-table
returns-then-has_slots-clause-table c =
    let s = c.args.self.now in
    let at : c.len-place.result ≡ length s.positions.items = omega (arith, c.len-place.ensures, s.positions.ok) in
    let filled = c.fill_slot.ensures in
    more_in_slots s c.fill_slot.new.self c.args.position c.requires.table c.requires.new c.requires.numbered (filled.positions ∙ (c.push_reserved.ensures.items ∙ ap (λ l. l ++ c.args.position ∷ []) c.reserve.ensures.items))
    filled.numbers (c.has_slots-has_slots.ensures.slots c.if-has_slots.true)
    (filled.slots ∙ ap (λ l. set s.slots.items (threes (get_or l c.len-place.result 0)) (c.len-place.result + 1)) (sym filled.positions)
    ∙ ap (λ n. set s.slots.items (threes (get_or c.fill_slot.new.self.positions.items n 0)) (n + 1)) at)

pub returns-clause-table : goal.returns-clause-table
returns-clause-table c =
    more_in_set c.args.self.now _ c.args.position c.requires.table c.requires.new c.requires.numbered (c.push_reserved.ensures.items ∙ ap (λ l. l ++ c.args.position ∷ []) c.reserve.ensures.items) refl
    (c.has_slots-has_slots.ensures.few c.if-has_slots.false) refl c.in_ok-insert.ensures.keys
