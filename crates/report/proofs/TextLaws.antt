-- Texts written piece by piece.
use Rattle.std.proofs.Common.{◌≡◌, ℕ, List, [], ◌++◌, ap, ◌∙◌, append_assoc}

pub three_pieces : (t u v w a b c : List ℕ) → t ≡ [] → u ≡ t ++ a → v ≡ u ++ b → w ≡ v ++ c → w ≡ a ++ (b ++ c)
three_pieces t u v w a b c empty first second third =
    third ∙ ap (λ x. x ++ c) (second ∙ ap (λ x. x ++ b) (first ∙ ap (λ x. x ++ a) empty)) ∙ append_assoc a b c

pub three_more : (t u v w a b c : List ℕ) → u ≡ t ++ a → v ≡ u ++ b → w ≡ v ++ c → w ≡ t ++ (a ++ (b ++ c))
three_more t u v w a b c first second third =
    third ∙ ap (λ x. x ++ c) (second ∙ ap (λ x. x ++ b) first ∙ append_assoc t a b) ∙ append_assoc t (a ++ b) c ∙ ap (λ x. t ++ x) (append_assoc a b c)

pub four_pieces : (a b c d e p q r t : List ℕ) → a ≡ [] → b ≡ a ++ p → c ≡ b ++ q → d ≡ c ++ r → e ≡ d ++ t → e ≡ p ++ (q ++ (r ++ t))
four_pieces a b c d e p q r t empty first second third fourth =
    three_more b c d e q r t second third fourth ∙ ap (λ x. x ++ (q ++ (r ++ t))) (first ∙ ap (λ x. x ++ p) empty)
