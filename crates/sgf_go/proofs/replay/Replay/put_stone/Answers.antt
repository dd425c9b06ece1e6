use Rattle.std.proofs.Common.{◌∙◌, ◌≡◌, ◌+◌, ap, arith, refl, subst, sym, Ok, Err}
use Rattle.go_play.specs.Place.{PlacesStone}
use Rattle.go_play.specs.declared.placements.PlaceError.TheVariants.{Occupied, Suicide}
use Rattle.sgf_go.specs.Setup.{Counts, moved}
use Rattle.sgf_go.proofs.PartLemmas.{counts_move, taken_played}
use Rattle.sgf_go.proofs.replay.Replay.put_stone.Goals as goal

pub returns-in-Ok-clause-follows : goal.returns-in-Ok-clause-follows
returns-in-Ok-clause-follows c = (c.place.new.board, Ok c.in-Ok.taken, c.in-Ok.ensures {u = tt}, ap Ok (c.count_move.ensures ∙ ap (moved c.args.colour) c.take.ensures))

pub returns-in-Ok-clause-counts : goal.returns-in-Ok-clause-counts
returns-in-Ok-clause-counts c = subst Counts (sym (c.count_move.ensures ∙ ap (moved c.args.colour) c.take.ensures))
    (counts_move c.args.colour c.in-Ok.taken c.args.self.now c.args.self.now.board c.place.new.board c.requires.counts (omega (arith, c.size-size.ensures.most, c.size-size.ensures.grid.full)) (c.in-Ok.ensures {u = tt}).1)

pub returns-in-Err-Occupied-clause-follows : goal.returns-in-Err-Occupied-clause-follows
returns-in-Err-Occupied-clause-follows c = (c.place.new.board, Err Occupied, subst (λ e. PlacesStone c.args.self.now.board c.args.point c.args.colour c.place.new.board (Err e)) c.in-Err-Occupied.field-0-is (c.in-Err-Occupied.ensures {u = tt}), refl)

pub returns-in-Err-Suicide-clause-follows : goal.returns-in-Err-Suicide-clause-follows
returns-in-Err-Suicide-clause-follows c = (c.place.new.board, Err Suicide, subst (λ e. PlacesStone c.args.self.now.board c.args.point c.args.colour c.place.new.board (Err e)) c.in-Err-Suicide.field-0-is (c.in-Err-Suicide.ensures {u = tt}), refl)

pub count_move-requires : goal.count_move-requires
count_move-requires c =
    let kept : c.take.new.self.played ≡ c.args.self.now.played = ap (λ s. s.played) c.take.ensures ∙ taken_played c.args.colour c.in-Ok.taken _ in
    omega (arith, kept, c.requires.few)

pub returns-in-Ok-clause-played : goal.returns-in-Ok-clause-played
returns-in-Ok-clause-played c =
    let kept : c.take.new.self.played ≡ c.args.self.now.played = ap (λ s. s.played) c.take.ensures ∙ taken_played c.args.colour c.in-Ok.taken _ in
    let more : c.count_move.new.self.played ≡ c.take.new.self.played + 1 = ap (λ s. s.played) c.count_move.ensures in
    omega (arith, kept, more)
