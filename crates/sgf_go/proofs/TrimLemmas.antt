-- White space is trimmed one byte after the other.
use Rattle.std.proofs.Common.{ℕ, ◌+◌, ◌-◌, ◌<◌, ◌≤◌, ◌≡◌, List, [], ◌∷◌, length, drop, take, get_or, reverse, arith, refl, sym, ◌∙◌, ap, subst, true, false, if◌then◌else◌}
use Rattle.std.proofs.lemmas.List.{drop_more, drop_all, take_more, reverse-append, reverse-reverse}
use Rattle.sgf_tree.specs.Grammar.{is_white}
use Rattle.sgf_go.specs.Values.{trimmed_front}

pub front_white : (bytes : List ℕ) (at : ℕ) → at < length bytes → is_white (get_or bytes at 0) ≡ true → trimmed_front (drop at bytes) ≡ trimmed_front (drop (at + 1) bytes)
unfolding trimmed_front
front_white bytes at h e = ap trimmed_front (drop_more bytes at 0 h) ∙ ap (λ c. if c then trimmed_front (drop (at + 1) bytes) else get_or bytes at 0 ∷ drop (at + 1) bytes) e

pub front_other : (bytes : List ℕ) (at : ℕ) → at < length bytes → is_white (get_or bytes at 0) ≡ false → trimmed_front (drop at bytes) ≡ drop at bytes
unfolding trimmed_front
front_other bytes at h e = ap trimmed_front (drop_more bytes at 0 h) ∙ ap (λ c. if c then trimmed_front (drop (at + 1) bytes) else get_or bytes at 0 ∷ drop (at + 1) bytes) e ∙ sym (drop_more bytes at 0 h)

pub front_none : (bytes : List ℕ) (at : ℕ) → length bytes ≤ at → trimmed_front (drop at bytes) ≡ drop at bytes
unfolding trimmed_front
front_none bytes at h = ap trimmed_front (drop_all at bytes h) ∙ sym (drop_all at bytes h)

last_first : (bytes : List ℕ) (end : ℕ) → 1 ≤ end → end ≤ length bytes → reverse (take end bytes) ≡ get_or bytes (end - 1) 0 ∷ reverse (take (end - 1) bytes)
last_first bytes end h l =
    let same : end ≡ end - 1 + 1 = omega (arith, h) in
    let within : end - 1 < length bytes = omega (arith, h, l) in
    ap (λ x. reverse (take x bytes)) same ∙ ap reverse (take_more bytes (end - 1) 0 within) ∙ reverse-append (take (end - 1) bytes) (get_or bytes (end - 1) 0 ∷ [])

pub back_white : (bytes : List ℕ) (end : ℕ) → 0 < end → end ≤ length bytes → is_white (get_or bytes (end - 1) 0) ≡ true → trimmed_front (reverse (take end bytes)) ≡ trimmed_front (reverse (take (end - 1) bytes))
unfolding trimmed_front
back_white bytes end h l e = ap trimmed_front (last_first bytes end h l) ∙ ap (λ c. if c then trimmed_front (reverse (take (end - 1) bytes)) else get_or bytes (end - 1) 0 ∷ reverse (take (end - 1) bytes)) e

pub back_other : (bytes : List ℕ) (end : ℕ) → 0 < end → end ≤ length bytes → is_white (get_or bytes (end - 1) 0) ≡ false → take end bytes ≡ reverse (trimmed_front (reverse (take end bytes)))
unfolding trimmed_front
back_other bytes end h l e = sym (ap reverse (ap trimmed_front (last_first bytes end h l) ∙ ap (λ c. if c then trimmed_front (reverse (take (end - 1) bytes)) else get_or bytes (end - 1) 0 ∷ reverse (take (end - 1) bytes)) e ∙ sym (last_first bytes end h l)) ∙ reverse-reverse (take end bytes))

pub back_none : (bytes : List ℕ) (end : ℕ) → end ≤ 0 → take end bytes ≡ reverse (trimmed_front (reverse (take end bytes)))
unfolding trimmed_front
back_none bytes end h = let none : end ≡ 0 = omega (arith, h) in subst (λ x. take x bytes ≡ reverse (trimmed_front (reverse (take x bytes)))) (sym none) refl
