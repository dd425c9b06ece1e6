use Rattle.std.proofs.Common.{◌≡◌, ◌++◌, ◌∷◌, map, take}
use Rattle.std.specs.List.{flat_map}
use Rattle.short_games.specs.Text.{comma}
use Rattle.game_text.proofs.texts.push_joined.Given as goal

abbrev pub invariant-loop-part : goal.invariant-loop-part
invariant-loop-part l = l.text.items ≡ l.initial.text.items ++ flat_map (λ u. comma ∷ u) (map (λ t. t.now) (take l.part-index l.others))
