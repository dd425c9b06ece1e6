-- Bytes that are held in an array, and those that a source has left.
use Rattle.std.proofs.Common.{◌≡◌, ◌≢◌, ◌⊎◌, ℕ, ◌+◌, ◌-◌, ◌≤◌, ◌<◌, List, [], ◌++◌, length, take, drop, get_or, inl, inr, refl, sym, ap, ◌∙◌, arith, append_assoc, append-nil, below_more, Option, Some, None, Result, Ok, Err, OnErr}
use Rattle.std.specs.List.{copy_within, All}
use Rattle.std.specs.Io.KnownBytes.{prepend_known}
use Rattle.std.proofs.lemmas.List.{take_at, take_all, take-append-le, drop-take, length-take-le, length-drop, length-append, get_or_append_left, get_or-take, drop_all, get_or_default}
use Rattle.std.proofs.lemmas.Bool.{cases_eq}
use borrow.Rule.Slice.PartMut.{put_mid, post_of}
use Rattle.std.proofs.Math.Seq.{take-append-add}
use Rattle.desk_io.specs.Outside.{ended, HasCause}
use Rattle.desk_io.specs.Lines.{IsCut, IsSameInput, IsFound}
use Rattle.desk_io.specs.inner.Lines.{IsFeed}

-- what stands at the front after the first bytes were moved away
pub dropped : (xs : List ℕ) (count len : ℕ) → count ≤ len → len ≤ length xs → take (len - count) (copy_within xs count len 0) ≡ drop count (take len xs)
dropped xs count len fits in_bounds =
    let m = len - count in
    let long : length (take m (drop count xs)) ≡ m = length-take-le m (drop count xs) (omega (arith, length-drop count xs)) in
    let sum : count + m ≡ len = omega arith in
    take_at (take m (drop count xs)) (drop (0 + m) xs) m long ∙ sym (drop-take count m xs) ∙ ap (λ k. drop count (take k xs)) sum

-- so many bytes of a piece that was read come after those that are held
pub read_on : (xs buf : List ℕ) (len room n : ℕ) → len ≤ length xs → n ≤ length buf → take (len + n) (put_mid len room xs buf) ≡ take len xs ++ take n buf
read_on xs buf len room n in_bounds few =
    let front = take len xs in
    let rest = post_of len room xs in
    let long : length front ≡ len = length-take-le len xs in_bounds in
    ap (λ k. take (k + n) (front ++ (buf ++ rest))) (sym long) ∙ take-append-add front (buf ++ rest) n ∙ ap (λ l. front ++ l) (take-append-le n buf rest few)

pub input_same : (held : List ℕ) (told : Option (List ℕ)) → IsSameInput held told held told
input_same held told = λ bytes e. (bytes, e, refl)

-- a piece came
pub input_more : (held piece : List ℕ) (before now : Option (List ℕ)) → before ≡ prepend_known piece now → IsSameInput held before (held ++ piece) now
input_more held piece before None e = λ bytes h. absurd (cc (sym h ∙ e))
input_more held piece before (Some rest) e = λ bytes h. (rest, refl, ap (λ l. held ++ l) (cc (sym h ∙ e)) ∙ sym (append_assoc held piece rest))

-- the places before this one were looked at, and are held
pub record Looked (start held : List ℕ) (before now : Option (List ℕ)) (at : ℕ) : Type 0 where
  pub same : IsSameInput start before held now
  pub within : at ≤ length held
  pub plain : (k : ℕ) → k < at → get_or held k 0 ≢ 10

module _ (start held : List ℕ) (before now : Option (List ℕ)) where
  pub looked_start : Looked start start before before 0
  looked_start = record { same = input_same start before; within = omega arith; plain = λ k lt. absurd (omega (arith, lt)) }

  -- no line feed stands there
  pub looked_more : (at : ℕ) → Looked start held before now at → at < length held → get_or held at 0 ≢ 10 → Looked start held before now (at + 1)
  looked_more at w lt none = record {
    same = w.same;
    within = omega (arith, lt);
    plain = below_more (λ k. get_or held k 0 ≢ 10) at w.plain none;
  }

-- two steps over the same input
pub input_on : (a b c : List ℕ) (x y z : Option (List ℕ)) → IsSameInput a x b y → IsSameInput b y c z → IsSameInput a x c z
input_on a b c x y z first then = λ bytes e. let one = first bytes e in let two = then one.0 one.1 in (two.0, two.1, one.2 ∙ two.2)

-- the byte at a place was looked for, and is held
pub record Ready (most : ℕ) (start held : List ℕ) (before now : Option (List ℕ)) (at : ℕ) : Type 0 where
  pub looked : Looked start held before now at
  pub within : at < length held
  pub few : length held ≤ most

module _ (start held held' : List ℕ) (before now now' : Option (List ℕ)) (at : ℕ) (w : Looked start held before now at) (end : at ≡ length held)
    (same : IsSameInput held now held' now') (n : ℕ) (more : (piece : List ℕ) × (held' ≡ held ++ piece) × (length piece ≡ n)) where
  longer : length held' ≡ at + n
  longer = ap length more.1 ∙ omega (arith, length-append held more.0, more.2, end)

  pub looked_read : Looked start held' before now' at
  looked_read = record {
    same = input_on start held held' before now now' w.same same;
    within = omega (arith, longer);
    plain = λ k lt e. w.plain k lt (sym (get_or_append_left held more.0 0 k (omega (arith, lt, end))) ∙ ap (λ l. get_or l k 0) (sym more.1) ∙ e);
  }

  pub ready_read : (most : ℕ) → n ≢ 0 → length held' ≤ most → Ready most start held' before now' at
  ready_read most some few = record { looked = looked_read; within = omega (arith, longer, some); few = few }

  -- nothing came
  pub looked_end : (most : ℕ) → n ≡ 0 → now' ≡ ended now' → IsFeed most held' now' None
  looked_end most none over = ((λ k lt. looked_read.plain k (omega (arith, lt, longer, none))), inr over)

-- a step that failed, after others that didn't let the count fall
pub cause_err : {S T E : Type 0} (a b now : ℕ) (e : E) (result : Result T E) → a ≤ b → HasCause {T = S} b now (Err e) → HasCause a now result
cause_err a b now e result le h = record { later = omega (arith, le, h.later); failed = always result (omega (arith, le, h.failed)) }
  where
    always : {T E P : Type 0} (r : Result T E) → P → OnErr r P
    always (Ok x) p = tt
    always (Err e) p = p

-- as many were looked at as a line may have
pub looked_all : (most : ℕ) (start held : List ℕ) (before now : Option (List ℕ)) (at : ℕ) → Looked start held before now at → length held ≤ most → most ≤ at → IsFeed most held now None
looked_all most start held before now at w few all = ((λ k lt. w.plain k (omega (arith, lt, few, all))), inl (omega (arith, few, all, w.within)))

plain_front : (held : List ℕ) (n : ℕ) → n ≤ length held → ((k : ℕ) → k < n → get_or held k 0 ≢ 10) → All (λ b. b ≢ 10) (take n held)
plain_front held n le plain k d lt e =
    let short : k < n = omega (arith, lt, length-take-le n held le) in
    plain k short (get_or_default held k 0 d (omega (arith, short, le)) ∙ sym (get_or-take n held k d short) ∙ e)

-- all that is held
pub found_all : (most : ℕ) (held : List ℕ) (left : Option (List ℕ)) (len : ℕ) → len ≡ length held → 0 < len → len ≤ most → IsFeed most held left None → IsFound most held left (Some (record { line = len; taken = len }))
found_all most held left len long some few feed =
    let whole : take len held ≡ held = take_all len held (omega (arith, long)) in
    let none : drop len held ≡ [] = drop_all len held (omega (arith, long)) in
    let plain : All (λ b. b ≢ 10) (take len held) = plain_front held len (omega (arith, long)) (λ k lt. feed.0 k (omega (arith, lt, long))) in
    let same = length-take-le len held (omega (arith, long)) in (
      omega (arith, long),
      omega (arith, long),
      omega (arith, long, some),
      λ rest e. record { plain = plain; cut = cut_of rest e whole none same (cases_eq len most) },
    )
  where
    cut_of : (rest : List ℕ) → left ≡ Some rest → take len held ≡ held → drop len held ≡ [] → length (take len held) ≡ len → (len ≡ most) ⊎ (len ≢ most) → IsCut most (held ++ rest) (take len held) (drop len held ++ rest)
    cut_of rest e whole none same (inl full) = inr (inl (omega (arith, same, full), ap (λ l. l ++ rest) (sym whole) ∙ ap (λ l. take len held ++ (l ++ rest)) (sym none)))
    cut_of rest e whole none same (inr short) = elim feed.1 [
      | inl full ↦ absurd (short (omega (arith, long, full)))
      | inr end ↦
          let over : rest ≡ [] = cc (sym e ∙ end ∙ ap ended e) in
          inr (inr (
            omega (arith, same, few, short),
            ap (λ l. held ++ l) over ∙ append-nil held ∙ sym whole,
            ap (λ l. l ++ rest) none ∙ over,
          ))
    ]
