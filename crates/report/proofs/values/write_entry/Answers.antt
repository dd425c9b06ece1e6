use Rattle.std.proofs.Common.{ap, refl}
use Rattle.short_games.specs.Tree.{tree_at}
use Rattle.game_text.specs.NamedText.{named_text}
use Rattle.report.specs.Solution.{solved_line}
use Rattle.game_lines.specs.Showings.{game_lines, picture}
use Rattle.report.proofs.ValuesLaws.{entry_is}
use Rattle.report.proofs.values.write_entry.Goals as goal

pub returns-clause-entry : goal.returns-clause-entry
returns-clause-entry c =
    let r = c.args.report in
    let s = c.in_ok-showing.ensures.shown in
    let drawn = picture c.in_ok-showing.showing in
    record {
      picture = drawn;
      drawn = s.drawn;
      shown = s.shown;
      lines = entry_is _ _ _ _ (solved_line c.args.size.columns r.lowest r.points r.positions) _ (game_lines (named_text (tree_at c.args.store.now r.value)) drawn)
          c.in_ok-add_region.ensures refl c.in_ok-write_showing.ensures (ap (λ x. game_lines x drawn) s.text_is);
    }
