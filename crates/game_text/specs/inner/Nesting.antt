-- How many braces are open along a text.
use Rattle.std.specs.Prelude.{ℕ, ◌+◌, ◌-◌, cond, nat_eq}
use Rattle.short_games.specs.Text.{open_brace, close_brace}

-- how many braces are open behind a byte, where n are before it
abbrev pub braces_after : ℕ → ℕ → ℕ
braces_after n byte = cond (nat_eq byte open_brace) (n + 1) (cond (nat_eq byte close_brace) (n - 1) n)
