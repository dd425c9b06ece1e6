-- What stands behind a text is behind it.
use Rattle.std.proofs.Common.{ℕ, ◌≡◌, List, [], ◌∷◌, ◌++◌, refl, sym, ◌∙◌, ap, Some, None, append_assoc}
use Rattle.std.specs.Prelude.{Option}
use Rattle.short_games.specs.Tree.{Tree, Trees, node, none, more}
use Rattle.short_games.specs.Number.{IsNumberTree}
use Rattle.short_games.specs.NumberText.{Fraction, number_of, number_text, text_of_number}
use Rattle.short_games.specs.Text.{text, texts, texts_rest, text_or, open_brace, bar, close_brace, comma}
use Rattle.short_games.specs.TextOrder.{tree_text}
use Rattle.short_games.proofs.NumberTextLaws.{number_of-is}

pub no-number_text : (G : Tree) → (IsNumberTree G → ⊥) → number_text G ≡ None
no-number_text G f = ap text_of_number (at (number_of G) refl)
  where
    at : (o : Option Fraction) → number_of G ≡ o → o ≡ None
    at None e = refl
    at (Some x) e = absurd (f (x.exponent, x.numerator, number_of-is G x e))

mutual
  unfolding text

  pub text-append : (G : Tree) (s r : List ℕ) → text number_text G (s ++ r) ≡ text number_text G s ++ r
  text-append (node ls rs) s r = at (number_text (node ls rs))
      (ap (λ z. open_brace ∷ z) (ap (λ z. texts number_text ls (bar ∷ z)) (texts-append rs (close_brace ∷ s) r) ∙ texts-append ls (bar ∷ texts number_text rs (close_brace ∷ s)) r))
    where
      at : (o : Option (List ℕ)) → open_brace ∷ texts number_text ls (bar ∷ texts number_text rs (close_brace ∷ (s ++ r))) ≡ (open_brace ∷ texts number_text ls (bar ∷ texts number_text rs (close_brace ∷ s))) ++ r → text_or o (open_brace ∷ texts number_text ls (bar ∷ texts number_text rs (close_brace ∷ (s ++ r)))) (s ++ r) ≡ text_or o (open_brace ∷ texts number_text ls (bar ∷ texts number_text rs (close_brace ∷ s))) s ++ r
      at (Some t) e = sym (append_assoc t s r)
      at None e = e

  texts-append : (Gs : Trees) (s r : List ℕ) → texts number_text Gs (s ++ r) ≡ texts number_text Gs s ++ r
  texts-append none s r = refl
  texts-append (more G Gs) s r = ap (text number_text G) (rest-append Gs s r) ∙ text-append G (texts_rest number_text Gs s) r

  rest-append : (Gs : Trees) (s r : List ℕ) → texts_rest number_text Gs (s ++ r) ≡ texts_rest number_text Gs s ++ r
  rest-append none s r = refl
  rest-append (more G Gs) s r = ap (λ z. comma ∷ z) (ap (text number_text G) (rest-append Gs s r) ∙ text-append G (texts_rest number_text Gs s) r)

pub text-behind : (G : Tree) (r : List ℕ) → text number_text G r ≡ tree_text G ++ r
unfolding tree_text
text-behind G r = text-append G [] r
