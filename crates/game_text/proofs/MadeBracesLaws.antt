-- What is appended for a form with braces, piece by piece.
use Rattle.std.proofs.Common.{◌≡◌, ◌++◌, ◌∷◌, [], List, ℕ, ◌∙◌, ap, append_assoc}
use Rattle.short_games.specs.Text.{open_brace, bar, close_brace}
use Rattle.game_text.specs.NamedText.{joined, in_braces}

appended : (a d : List ℕ) (o b e : ℕ) → (((([] ++ o ∷ []) ++ a) ++ b ∷ []) ++ d) ++ e ∷ [] ≡ o ∷ (a ++ (b ∷ (d ++ (e ∷ []))))
appended a d o b e = simp append_assoc

pub braces-made : (us vs : List (List ℕ)) (t u v w x y : List ℕ) → t ≡ [] → u ≡ t ++ open_brace ∷ [] → v ≡ u ++ joined us → w ≡ v ++ bar ∷ [] → x ≡ w ++ joined vs → y ≡ x ++ close_brace ∷ [] → y ≡ in_braces us vs
braces-made us vs t u v w x y a b c d e f = (f ∙ ap (λ z. z ++ close_brace ∷ []) (e ∙ ap (λ z. z ++ joined vs) (d ∙ ap (λ z. z ++ bar ∷ []) (c ∙ ap (λ z. z ++ joined us) (b ∙ ap (λ z. z ++ open_brace ∷ []) a))))) ∙ appended (joined us) (joined vs) open_brace bar close_brace
