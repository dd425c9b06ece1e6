use Rattle.short_games.specs.Tree.{tree_at}
use Rattle.game_lines.proofs.ShowingLaws.{none_unshown}
use Rattle.game_lines.proofs.showing.show.Goals as goal

pub returns-clause-shown : goal.returns-clause-shown
returns-clause-shown c =
    let text = c.in_ok-text.ensures in
    let drawn = c.in_ok-thermograph.ensures in
    record {
      text_is = text.text;
      drawn = record { is_left_stop = c.left_stop.ensures; is_right_stop = c.right_stop.ensures; drawn = drawn.drawn };
      shown = none_unshown (tree_at c.args.store.now c.args.id) c.in_ok-text.text text.text text.within drawn.within;
    }
