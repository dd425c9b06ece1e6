-- The pieces of what is shown.
use Rattle.std.proofs.Common.{◌≡◌, ℕ, ◌≤◌, inl, inr, ◌++◌, List, length, ap, sym, ◌∙◌, arith, append_assoc}
use Rattle.std.specs.Prelude.{codes}
use Rattle.short_games.specs.Tree.{Tree}
use Rattle.game_text.specs.NamedText.{named_text, named_depth}
use Rattle.thermograph.specs.PastBounds.{IsDrawnPastBounds}
use Rattle.board_words.specs.Words.{word_line}
use Rattle.game_lines.specs.Showings.{IsUnshown}

-- a game whose text and thermograph are within the limits is shown
pub none_unshown : (G : Tree) (text : List ℕ) → text ≡ named_text G → (length text ≤ 65536) × (named_depth G ≤ 1000) → (IsDrawnPastBounds G → ⊥) → IsUnshown G → ⊥
none_unshown G text is few within (inl past) = within past
none_unshown G text is few within (inr (inl long)) = let e = ap length is in omega (arith, e, few.0, long)
none_unshown G text is few within (inr (inr deep)) = omega (arith, few.1, deep)

-- the lines, piece by piece
pub lines_are : (t a b d e label L U T back P : List ℕ) → a ≡ t ++ L → L ≡ label → b ≡ a ++ codes " " → d ≡ b ++ U → U ≡ T → e ≡ d ++ back
    → back ≡ codes "\n" ++ P → e ≡ t ++ (word_line label T ++ P)
unfolding word_line
lines_are t a b d e label L U T back P first named blank second text third is =
    third ∙ (λ i. ends i ++ is i) ∙ append_assoc t front (codes "\n" ++ P) ∙ ap (λ x. t ++ x) (pieces label T P)
  where
    front : List ℕ
    front = label ++ (codes " " ++ T)

    ends : d ≡ t ++ front
    ends =
        second ∙ (λ i. (blank i) ++ text i) ∙ ap (λ x. (x ++ codes " ") ++ T) (first ∙ ap (λ x. t ++ x) named)
        ∙ append_assoc (t ++ label) (codes " ") T ∙ append_assoc t label (codes " " ++ T)

    pieces : (label T P : List ℕ) → (label ++ (codes " " ++ T)) ++ (codes "\n" ++ P) ≡ (label ++ (codes " " ++ (T ++ codes "\n"))) ++ P
    pieces label T P =
        append_assoc label (codes " " ++ T) (codes "\n" ++ P) ∙ ap (λ x. label ++ x) (append_assoc (codes " ") T (codes "\n" ++ P)
        ∙ ap (λ x. codes " " ++ x) (sym (append_assoc T (codes "\n") P)) ∙ sym (append_assoc (codes " ") (T ++ codes "\n") P))
        ∙ sym (append_assoc label (codes " " ++ (T ++ codes "\n")) P)
