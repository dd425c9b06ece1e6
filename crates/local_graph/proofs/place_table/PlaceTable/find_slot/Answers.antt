use Rattle.std.proofs.Common.{◌-◌, ◌∙◌, arith, length}
use Rattle.std.proofs.lemmas.List.{get_or_default}
use Rattle.local_graph.proofs.TableLemmas.{slot_inside, slot_place, slot_none}
use Rattle.local_graph.proofs.place_table.PlaceTable.find_slot.Goals as goal

pub index-link-requires : goal.index-link-requires
index-link-requires c =
    let s = c.args.self.now in
    omega (arith, slot_inside c.args.position (length s.slots.items) s.numbers c.requires.slots.enough c.requires.numbered, c.requires.number, s.slots.ok)

pub returns-then-link-gt0-clause-found : goal.returns-then-link-gt0-clause-found
returns-then-link-gt0-clause-found c =
    let s = c.args.self.now in
    let inside = slot_inside c.args.position (length s.slots.items) s.numbers c.requires.slots.enough c.requires.numbered in
    slot_place s.positions.items s.slots.items s.numbers c.args.position c.args.number c.index-link.result.now (c.index-link.result.now - 1)
    c.requires.slots.entered c.requires.table.numbered c.requires.numbered c.requires.number
    (c.index-link.ensures ∙ get_or_default s.slots.items c.args.number c.index-link.result.now 0 (omega (arith, inside, c.requires.number)))
    (omega (arith, c.if-link-gt0.true))

pub returns-clause-absent : goal.returns-clause-absent
returns-clause-absent c =
    let s = c.args.self.now in
    let inside = slot_inside c.args.position (length s.slots.items) s.numbers c.requires.slots.enough c.requires.numbered in
    slot_none s.positions.items s.slots.items c.args.position c.args.number c.index-link.result.now c.requires.slots.entered c.requires.number
    (c.index-link.ensures ∙ get_or_default s.slots.items c.args.number c.index-link.result.now 0 (omega (arith, inside, c.requires.number)))
    (omega (arith, c.if-link-gt0.false))
