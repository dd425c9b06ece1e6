-- Where a tree begins, as the bytes are searched one after the other.
use Rattle.std.proofs.Common.{ℕ, ◌+◌, ◌<◌, ◌≤◌, ◌≡◌, ◌≢◌, ◌⊎◌, List, [], ◌∷◌, ◌++◌, length, drop, get_or, arith, refl, inl, inr, sym, ◌∙◌, ap, subst, Bool, true, false, ◌==◌, if◌then◌else◌, Some, None, append_assoc}
use Rattle.std.specs.Prelude.{Option, IfSome}
use Rattle.std.proofs.lemmas.List.{drop_more, drop_all}
use Rattle.sgf_tree.specs.Grammar.{opening, semicolon, is_white, AreWhite}
use Rattle.sgf_tree.specs.Reading.{Begins, IsStart, NoStart}

-- `;` after any white space
follows : List ℕ → Bool
follows [] = false
follows (b ∷ bs) = if is_white b then follows bs else b == semicolon

follows_past : (white rest : List ℕ) → AreWhite white → follows (white ++ rest) ≡ follows rest
unfolding follows
follows_past [] rest a = refl
follows_past (b ∷ bs) rest a = ap (λ w. if w then follows (bs ++ rest) else b == semicolon) a.0 ∙ follows_past bs rest a.1

-- `(` and then white space up to a place
record Opened (bytes : List ℕ) (k at : ℕ) : Type 0 where
  before : k < at
  white : List ℕ
  are_white : AreWhite white
  same : drop k bytes ≡ opening ∷ (white ++ drop at bytes)

-- before a place no tree begins, but for the last `(` where nothing but white space stands between
pub record Searched (bytes : List ℕ) (at : ℕ) (opened : Option ℕ) : Type 0 where
  others : (k : ℕ) → k < at → opened ≢ Some k → ¬ Begins (drop k bytes)
  pending : IfSome opened (λ k. Opened bytes k at)

-- a byte that isn't `(` begins no tree
not_opening : (bytes : List ℕ) (at : ℕ) → at < length bytes → get_or bytes at 0 ≢ opening → ¬ Begins (drop at bytes)
not_opening bytes at h e b = e (let same = sym (drop_more bytes at 0 h) ∙ b.same in cc)

-- where `;` doesn't follow, the last `(` begins no tree
stuck : (bytes : List ℕ) (k at : ℕ) → Opened bytes k at → follows (drop at bytes) ≡ false → ¬ Begins (drop k bytes)
unfolding follows
stuck bytes k at o e b =
    let tails : o.white ++ drop at bytes ≡ b.white ++ (semicolon ∷ b.rest) = (let same = sym o.same ∙ b.same in cc) in
    let f : false ≡ true = sym e ∙ sym (follows_past o.white (drop at bytes) o.are_white) ∙ ap follows tails ∙ follows_past b.white (semicolon ∷ b.rest) b.are_white in
    cc

none_before : (bytes : List ℕ) (at : ℕ) (o : Option ℕ) → Searched bytes at o → follows (drop at bytes) ≡ false → (k : ℕ) → k < at → ¬ Begins (drop k bytes)
none_before bytes at None s e k h = s.others k h (λ f. cc)
none_before bytes at (Some j) s e k h = elim (same_or j k) [
  | inl f ↦ subst (λ x. ¬ Begins (drop x bytes)) f (stuck bytes j at s.pending e)
  | inr f ↦ s.others k h (λ g. f (let same = g in cc))
]
  where
    same_or : (m n : ℕ) → (m ≡ n) ⊎ (m ≢ n)
    same_or m n = grind arith

last_or : (k n : ℕ) → k < n + 1 → (k < n) ⊎ (n ≡ k)
last_or k n h = grind (arith, h)

pub opened_here : (bytes : List ℕ) (at : ℕ) (o : Option ℕ) → Searched bytes at o → at < length bytes → get_or bytes at 0 ≡ opening → Searched bytes (at + 1) (Some at)
unfolding follows
opened_here bytes at o s h e = record {
  others = λ k l ne. elim (last_or k at l) [
    | inl m ↦ none_before bytes at o s (ap follows here) k m
    | inr m ↦ absurd (ne (ap Some m))
  ];
  pending = record { before = omega arith; white = []; are_white = tt; same = here };
}
  where
    here : drop at bytes ≡ opening ∷ drop (at + 1) bytes
    here = drop_more bytes at 0 h ∙ ap (λ b. b ∷ drop (at + 1) bytes) e

pub none_opened : (bytes : List ℕ) (at : ℕ) → Searched bytes at None → at < length bytes → get_or bytes at 0 ≢ opening → Searched bytes (at + 1) None
none_opened bytes at s h e = record {
  others = λ k l ne. elim (last_or k at l) [
    | inl m ↦ s.others k m (λ f. cc)
    | inr m ↦ subst (λ x. ¬ Begins (drop x bytes)) m (not_opening bytes at h e)
  ];
  pending = tt;
}

pub passed_white : (bytes : List ℕ) (at j : ℕ) → Searched bytes at (Some j) → at < length bytes → get_or bytes at 0 ≢ opening → is_white (get_or bytes at 0) ≡ true → Searched bytes (at + 1) (Some j)
passed_white bytes at j s h e w = record {
  others = λ k l ne. elim (last_or k at l) [
    | inl m ↦ s.others k m ne
    | inr m ↦ subst (λ x. ¬ Begins (drop x bytes)) m (not_opening bytes at h e)
  ];
  pending = (let o = s.pending in record {
    before = omega (arith, o.before);
    white = o.white ++ (get_or bytes at 0 ∷ []);
    are_white = more o.white o.are_white;
    same = o.same ∙ ap (λ x. opening ∷ (o.white ++ x)) (drop_more bytes at 0 h) ∙ ap (λ x. opening ∷ x) (sym (append_assoc o.white (get_or bytes at 0 ∷ []) (drop (at + 1) bytes)));
  });
}
  where
    more : (xs : List ℕ) → AreWhite xs → AreWhite (xs ++ (get_or bytes at 0 ∷ []))
    more [] a = (w, tt)
    more (x ∷ xs) a = (a.0, more xs a.1)

pub passed_other : (bytes : List ℕ) (at : ℕ) (o : Option ℕ) → Searched bytes at o → at < length bytes → get_or bytes at 0 ≢ opening → get_or bytes at 0 ≢ semicolon → is_white (get_or bytes at 0) ≡ false → Searched bytes (at + 1) None
unfolding follows
passed_other bytes at o s h e f w = record {
  others = λ k l ne. elim (last_or k at l) [
    | inl m ↦ none_before bytes at o s stops k m
    | inr m ↦ subst (λ x. ¬ Begins (drop x bytes)) m (not_opening bytes at h e)
  ];
  pending = tt;
}
  where
    other : (get_or bytes at 0 == semicolon) ≡ false
    other = grind (arith, f)

    stops : follows (drop at bytes) ≡ false
    stops = ap follows (drop_more bytes at 0 h) ∙ ap (λ c. if c then follows (drop (at + 1) bytes) else get_or bytes at 0 == semicolon) w ∙ other

pub start_here : (bytes : List ℕ) (at j : ℕ) → Searched bytes at (Some j) → at < length bytes → get_or bytes at 0 ≡ semicolon → IsStart bytes j × (j < length bytes)
start_here bytes at j s h e =
    let o = s.pending in
    let here : drop at bytes ≡ semicolon ∷ drop (at + 1) bytes = drop_more bytes at 0 h ∙ ap (λ b. b ∷ drop (at + 1) bytes) e in (
      record {
        begins = record { white = o.white; rest = drop (at + 1) bytes; are_white = o.are_white; same = o.same ∙ ap (λ x. opening ∷ (o.white ++ x)) here };
        first = λ k l. s.others k (omega (arith, l, o.before)) (λ f. (let same : j ≡ k = cc in omega (arith, same, l)));
      },
      omega (arith, o.before, h),
    )

pub no_start : (bytes : List ℕ) (at : ℕ) (o : Option ℕ) → Searched bytes at o → length bytes ≤ at → NoStart bytes
unfolding follows
no_start bytes at o s h k = elim (before_or k at) [
  | inl l ↦ none_before bytes at o s (ap follows (drop_all at bytes h)) k l
  | inr l ↦ λ b. (let none = sym (drop_all k bytes (omega (arith, h, l))) ∙ b.same in cc)
]
  where
    before_or : (m n : ℕ) → (m < n) ⊎ (n ≤ m)
    before_or m n = grind arith

pub nothing_searched : (bytes : List ℕ) → Searched bytes 0 None
nothing_searched bytes = record { others = λ k l ne. absurd (omega (arith, l)); pending = tt }

pub ruleset searching = (opened_here, none_opened, passed_white, start_here)
