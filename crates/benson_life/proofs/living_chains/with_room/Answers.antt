use Rattle.std.proofs.Common.{◌⊎◌, inl, inr}
use Rattle.go_grid.specs.Marks.{IsMarked}
use Rattle.go_grid.specs.Parts.{label}
use Rattle.benson_life.specs.Life.{HasRoom}
use Rattle.benson_life.proofs.EyesLemmas.{two_is}
use Rattle.benson_life.proofs.EyeListLemmas.{eyes_inside}
use Rattle.benson_life.proofs.living_chains.with_room.Goals as goal

pub two_eyed-eyed-requires : goal.two_eyed-eyed-requires
two_eyed-eyed-requires c =
    eyes_inside c.args.board.now c.args.colour c.args.survey.now c.args.eyes.now c.requires.eyes c.size-size.ensures.most

pub returns : goal.returns
returns c s =
    let w = c.labelled.ensures s in
    let k = label c.args.survey.now.chains s in
    let both = c.either.ensures k in
    let two = two_is c.args.board.now c.args.colour c.args.survey.now c.requires.survey c.args.eyes.now c.requires.eyes
    c.breached-breached.result (IsMarked c.args.kept.now) c.breached-breached.ensures s in (
      λ m.
          let h = w.0 m in
          let stone = c.requires.kept s h.0 in (
            h.0,
            elim (both.0 h.1) as (λ _. HasRoom c.args.board.now c.args.colour (IsMarked c.args.kept.now) s) [
              | inl sure ↦ inl ((c.requires.sure s stone).0 sure)
              | inr eyed ↦ inr ((two stone).0 ((c.two_eyed-eyed.ensures k).0 eyed))
            ],
          ),
      λ h.
          let stone = c.requires.kept s h.0 in
          w.1 (
            h.0,
            both.1 (elim h.1 as (λ _. IsMarked c.args.sure.now k ⊎ IsMarked c.two_eyed-eyed.result k) [
              | inl declared ↦ inl ((c.requires.sure s stone).1 declared)
              | inr eyes ↦ inr ((c.two_eyed-eyed.ensures k).1 ((two stone).1 eyes))
            ]),
          ),
    )
