-- A file has at most one answer.
use Rattle.std.proofs.Common.{ℕ, suc, ◌+◌, ◌-◌, ◌<◌, ◌≤◌, ◌≡◌, ◌⊎◌, List, [], ◌∷◌, ◌++◌, length, length-drop, take, drop, arith, refl, inl, inr, sym, ◌∙◌, ap, subst, Some, append_assoc, append-nil}
use Rattle.std.proofs.Math.Seq.{take-add}
use Rattle.std.proofs.lemmas.List.{take_all}
use Rattle.sgf_tree.specs.Grammar.{PropertyText, IsTree}
use Rattle.sgf_tree.specs.Reading.{IsSomeTree, IsLive, HasDepth, IsStart, most_open_trees, IsRead, IsBadByte, IsCutShort, IsTooDeep, line, no_tree, bad_byte, cut_short, too_deep, OneAnswer}
use Rattle.sgf_tree.specs.declared.machine.Place.TheVariants as at
use Rattle.sgf_tree.specs.inner.Machine.{begin, ReaderState, Parts}
use Rattle.sgf_tree.proofs.RunLemmas.{run, run-append, run-none, some-is, none-some, tree_run, off}

order : (m n : ℕ) → (m < n) ⊎ ((m ≡ n) ⊎ (n < m))
order m n = grind arith

pub one_start : (bytes : List ℕ) (m n : ℕ) → IsStart bytes m → IsStart bytes n → m ≡ n
one_start bytes m n a b = elim (order m n) [
  | inl l ↦ absurd (b.first m l a.begins)
  | inr (inl e) ↦ e
  | inr (inr l) ↦ absurd (a.first n l b.begins)
]

-- what goes on to a tree goes on to its beginnings
live_before : (bytes : List ℕ) (m n : ℕ) → m ≤ n → IsLive (take n bytes) → IsLive (take m bytes)
live_before bytes m n h l =
    let cut : n ≡ m + (n - m) = omega (arith, h) in
    let parts : take n bytes ≡ take m bytes ++ take (n - m) (drop m bytes) = ap (λ x. take x bytes) cut ∙ take-add m (n - m) bytes in
    (take (n - m) (drop m bytes) ++ l.0, subst IsSomeTree (ap (λ x. x ++ l.0) parts ∙ append_assoc (take m bytes) (take (n - m) (drop m bytes)) l.0) l.1)

whole : (bytes : List ℕ) (n : ℕ) → length bytes ≤ n → take n bytes ≡ bytes
whole bytes n h = take_all n bytes h

tree_live : (bytes : List ℕ) → IsSomeTree bytes → IsLive bytes
tree_live bytes t = ([], subst IsSomeTree (sym (append-nil bytes)) t)

deep_live : (bytes : List ℕ) (d : ℕ) → HasDepth bytes d → IsLive bytes
deep_live bytes d h = (h.more, h.is_tree)

-- one tree has one main line
one_line : (bytes : List ℕ) (k l : List (List PropertyText)) → IsTree bytes k → IsTree bytes l → k ≡ l
one_line bytes k l a b =
    let r = tree_run bytes k a in
    let s = tree_run bytes l b in
    sym r.2 ∙ ap (λ x. x.parts.nodes) (some-is (sym r.1 ∙ s.1)) ∙ s.2

-- nothing is read behind a tree
beyond : (q : Parts) (bs : List ℕ) (n : ℕ) (t : ReaderState) → 1 ≤ length bs → run (Some (off at.Done 0 q)) (take (suc n) bs) ≡ Some t → ⊥
beyond q [] n t h e = omega (arith, h)
beyond q (b ∷ bs) n t h e = none-some (sym (run-none (take n bs)) ∙ e)

-- no tree begins another
read_apart : (bytes : List ℕ) (m n : ℕ) → m < n → IsSomeTree (take m bytes) → n ≤ length bytes → IsSomeTree (take n bytes) → ⊥
read_apart bytes m n l t h u =
    let cut : n ≡ m + suc (n - m - 1) = omega (arith, l) in
    let r = tree_run (take m bytes) t.0 t.1 in
    let v = tree_run (take n bytes) u.0 u.1 in
    let long : length (drop m bytes) ≡ length bytes - m = length-drop m bytes in
    beyond r.0 (drop m bytes) (n - m - 1) (off at.Done 0 v.0) (omega (arith, l, h, long))
    (ap (λ o. run o (take (suc (n - m - 1)) (drop m bytes))) (sym r.1) ∙ sym (run-append (Some begin) (take m bytes) (take (suc (n - m - 1)) (drop m bytes))) ∙ ap (run (Some begin)) (sym (take-add m (suc (n - m - 1)) bytes)) ∙ ap (λ x. run (Some begin) (take x bytes)) (sym cut) ∙ v.1)

bad_bad : (bytes : List ℕ) (m n : ℕ) → m < n → IsBadByte bytes m → IsBadByte bytes n → ⊥
bad_bad bytes m n l a b = a.dead (live_before bytes (m + 1) n (omega (arith, l)) b.live)

read_bad : (bytes : List ℕ) (m n : ℕ) (k : List (List PropertyText)) → IsRead bytes m k → IsBadByte bytes n → ⊥
read_bad bytes m n k a b = elim (order m n) [
  | inl l ↦ b.unfinished m (omega (arith, l)) (k, a.is_tree)
  | inr (inl e) ↦ b.unfinished m (omega (arith, e)) (k, a.is_tree)
  | inr (inr l) ↦ b.dead (live_before bytes (n + 1) m (omega (arith, l)) (tree_live (take m bytes) (k, a.is_tree)))
]

read_deep : (bytes : List ℕ) (m n : ℕ) (k : List (List PropertyText)) → IsRead bytes m k → IsTooDeep bytes n → ⊥
read_deep bytes m n k a b = elim (order m n) [
  | inl l ↦ b.unfinished m (omega (arith, l)) (k, a.is_tree)
  | inr (inl e) ↦ b.unfinished m (omega (arith, e)) (k, a.is_tree)
  | inr (inr l) ↦ (let most = a.shallow (n + 1) (most_open_trees + 1) (omega (arith, l)) b.deep in omega (arith, most))
]

read_short : (bytes : List ℕ) (m : ℕ) (k : List (List PropertyText)) → IsRead bytes m k → IsCutShort bytes → ⊥
read_short bytes m k a b = b.unfinished m a.within (k, a.is_tree)

bad_short : (bytes : List ℕ) (n : ℕ) → IsBadByte bytes n → IsCutShort bytes → ⊥
bad_short bytes n a b = a.dead (live_before bytes (n + 1) (length bytes) (omega (arith, a.within)) (subst IsLive (sym (whole bytes (length bytes) (omega arith))) b.live))

deep_short : (bytes : List ℕ) (n : ℕ) → IsTooDeep bytes n → IsCutShort bytes → ⊥
deep_short bytes n a b = let most = b.shallow (n + 1) (most_open_trees + 1) (omega (arith, a.within)) a.deep in omega (arith, most)

bad_deep : (bytes : List ℕ) (m n : ℕ) → IsBadByte bytes m → IsTooDeep bytes n → ⊥
bad_deep bytes m n a b = elim (order m n) [
  | inl l ↦ a.dead (live_before bytes (m + 1) (n + 1) (omega (arith, l)) (deep_live (take (n + 1) bytes) (most_open_trees + 1) b.deep))
  | inr (inl e) ↦ a.dead (subst (λ x. IsLive (take (x + 1) bytes)) (sym e) (deep_live (take (n + 1) bytes) (most_open_trees + 1) b.deep))
  | inr (inr l) ↦ (let most = a.shallow (n + 1) (most_open_trees + 1) (omega (arith, l)) b.deep in omega (arith, most))
]

one_end : (bytes : List ℕ) (m n : ℕ) (k l : List (List PropertyText)) → IsRead bytes m k → IsRead bytes n l → k ≡ l
one_end bytes m n k l a b = elim (order m n) [
  | inl h ↦ absurd (read_apart bytes m n h (k, a.is_tree) b.within (l, b.is_tree))
  | inr (inl e) ↦ one_line (take n bytes) k l (subst (λ x. IsTree (take x bytes) k) e a.is_tree) b.is_tree
  | inr (inr h) ↦ absurd (read_apart bytes n m h (l, b.is_tree) a.within (k, a.is_tree))
]

one_bad : (bytes : List ℕ) (m n : ℕ) → IsBadByte bytes m → IsBadByte bytes n → m ≡ n
one_bad bytes m n a b = elim (order m n) [
  | inl h ↦ absurd (bad_bad bytes m n h a b)
  | inr (inl e) ↦ e
  | inr (inr h) ↦ absurd (bad_bad bytes n m h b a)
]

pub one_answer : OneAnswer
one_answer bytes (line k) (line l) (m, s, (i, a)) (n, t, (j, b)) = ap line (one_end (drop n bytes) i j k l (subst (λ x. IsRead (drop x bytes) i k) (one_start bytes m n s t) a) b)
one_answer bytes (line k) no_tree (m, s, a) b = absurd (b m s.begins)
one_answer bytes (line k) (bad_byte y) (m, s, (i, a)) (n, t, (j, e, b)) = absurd (read_bad (drop n bytes) i j k (subst (λ x. IsRead (drop x bytes) i k) (one_start bytes m n s t) a) b)
one_answer bytes (line k) cut_short (m, s, (i, a)) (n, t, b) = absurd (read_short (drop n bytes) i k (subst (λ x. IsRead (drop x bytes) i k) (one_start bytes m n s t) a) b)
one_answer bytes (line k) too_deep (m, s, (i, a)) (n, t, (j, b)) = absurd (read_deep (drop n bytes) i j k (subst (λ x. IsRead (drop x bytes) i k) (one_start bytes m n s t) a) b)
one_answer bytes no_tree (line l) a (n, t, b) = absurd (a n t.begins)
one_answer bytes no_tree no_tree a b = refl
one_answer bytes no_tree (bad_byte y) a (n, t, b) = absurd (a n t.begins)
one_answer bytes no_tree cut_short a (n, t, b) = absurd (a n t.begins)
one_answer bytes no_tree too_deep a (n, t, b) = absurd (a n t.begins)
one_answer bytes (bad_byte x) (line l) (m, s, (i, e, a)) (n, t, (j, b)) = absurd (read_bad (drop m bytes) j i l (subst (λ z. IsRead (drop z bytes) j l) (one_start bytes n m t s) b) a)
one_answer bytes (bad_byte x) no_tree (m, s, a) b = absurd (b m s.begins)
one_answer bytes (bad_byte x) (bad_byte y) (m, s, (i, e, a)) (n, t, (j, f, b)) =
    let starts = one_start bytes m n s t in
    let same = one_bad (drop n bytes) i j (subst (λ z. IsBadByte (drop z bytes) i) starts a) b in
    ap bad_byte (omega (arith, e, f, starts, same))
one_answer bytes (bad_byte x) cut_short (m, s, (i, e, a)) (n, t, b) = absurd (bad_short (drop n bytes) i (subst (λ z. IsBadByte (drop z bytes) i) (one_start bytes m n s t) a) b)
one_answer bytes (bad_byte x) too_deep (m, s, (i, e, a)) (n, t, (j, b)) = absurd (bad_deep (drop n bytes) i j (subst (λ z. IsBadByte (drop z bytes) i) (one_start bytes m n s t) a) b)
one_answer bytes cut_short (line l) (m, s, a) (n, t, (j, b)) = absurd (read_short (drop m bytes) j l (subst (λ z. IsRead (drop z bytes) j l) (one_start bytes n m t s) b) a)
one_answer bytes cut_short no_tree (m, s, a) b = absurd (b m s.begins)
one_answer bytes cut_short (bad_byte y) (m, s, a) (n, t, (j, f, b)) = absurd (bad_short (drop m bytes) j (subst (λ z. IsBadByte (drop z bytes) j) (one_start bytes n m t s) b) a)
one_answer bytes cut_short cut_short a b = refl
one_answer bytes cut_short too_deep (m, s, a) (n, t, (j, b)) = absurd (deep_short (drop m bytes) j (subst (λ z. IsTooDeep (drop z bytes) j) (one_start bytes n m t s) b) a)
one_answer bytes too_deep (line l) (m, s, (i, a)) (n, t, (j, b)) = absurd (read_deep (drop m bytes) j i l (subst (λ z. IsRead (drop z bytes) j l) (one_start bytes n m t s) b) a)
one_answer bytes too_deep no_tree (m, s, a) b = absurd (b m s.begins)
one_answer bytes too_deep (bad_byte y) (m, s, (i, a)) (n, t, (j, f, b)) = absurd (bad_deep (drop m bytes) j i (subst (λ z. IsBadByte (drop z bytes) j) (one_start bytes n m t s) b) a)
one_answer bytes too_deep cut_short (m, s, (i, a)) (n, t, b) = absurd (deep_short (drop m bytes) i a (subst IsCutShort (ap (λ z. drop z bytes) (one_start bytes n m t s)) b))
one_answer bytes too_deep too_deep a b = refl
