-- Replies.
use Rattle.std.specs.Prelude.{◌++◌, ℕ, List, codes}

-- a reply: its sign, the id, a blank, the text and two line feeds
abbrev pub signed_text : List ℕ → List ℕ → List ℕ → List ℕ
signed_text sign id text = sign ++ (id ++ (codes " " ++ (text ++ codes "\n\n")))
