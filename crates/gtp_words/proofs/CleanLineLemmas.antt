-- What counts of a line.
use Rattle.std.proofs.Common.{◌≡◌, ◌≢◌, ◌<◌, ◌≤◌, ◌+◌, ℕ, List, [], ◌∷◌, ◌++◌, length, drop, get_or, sym, ap, ◌∙◌, append_assoc, append-nil, if◌then◌else◌}
use Rattle.std.proofs.lemmas.Bool.{ne_eqb}
use Rattle.std.proofs.lemmas.List.{drop_more, drop_all}
use Rattle.gtp_words.specs.Words.{cleaned, kept}

cleaned_step : (b : ℕ) (line : List ℕ) → b ≢ 35 → cleaned (b ∷ line) ≡ kept b ++ cleaned line
unfolding cleaned
cleaned_step b line ne = ap (λ t. if t then [] else kept b ++ cleaned line) (ne_eqb b 35 ne)

-- a byte that is kept, or not
pub cleaned_more : (line text next : List ℕ) (at : ℕ) → at < length line → get_or line at 0 ≢ 35 → text ++ cleaned (drop at line) ≡ cleaned line → next ≡ text ++ kept (get_or line at 0)
    → next ++ cleaned (drop (at + 1) line) ≡ cleaned line
cleaned_more line text next at lt ne so_far e =
    ap (λ l. l ++ cleaned (drop (at + 1) line)) e ∙ append_assoc text (kept (get_or line at 0)) (cleaned (drop (at + 1) line))
    ∙ ap (λ l. text ++ l) (sym (cleaned_step (get_or line at 0) (drop (at + 1) line) ne)) ∙ ap (λ l. text ++ cleaned l) (sym (drop_more line at 0 lt)) ∙ so_far

-- a comment
pub cleaned_comment : (line text : List ℕ) (at : ℕ) → at < length line → get_or line at 0 ≡ 35 → text ++ cleaned (drop at line) ≡ cleaned line → text ≡ cleaned line
unfolding cleaned
cleaned_comment line text at lt e so_far =
    let nothing : cleaned (drop at line) ≡ [] = ap cleaned (drop_more line at 0 lt ∙ ap (λ b. b ∷ drop (at + 1) line) e) in
    sym (append-nil text) ∙ ap (λ l. text ++ l) (sym nothing) ∙ so_far

-- the end of the line
pub cleaned_all : (line text : List ℕ) (at : ℕ) → length line ≤ at → text ++ cleaned (drop at line) ≡ cleaned line → text ≡ cleaned line
unfolding cleaned
cleaned_all line text at all so_far = sym (append-nil text) ∙ ap (λ l. text ++ cleaned l) (sym (drop_all at line all)) ∙ so_far
