-- What the machine ends with holds by the grammar.
use Rattle.std.proofs.Common.{ℕ, suc, ◌+◌, ◌-◌, ◌<◌, ◌≤◌, ◌≡◌, ◌⊎◌, List, [], ◌∷◌, ◌++◌, length, take, drop, get_or, arith, refl, inl, inr, sym, ◌∙◌, ap, ap₂, subst, Bool, true, false, ◌&&◌, ◌==◌, Some, None, if◌then◌else◌, length-drop}
use Rattle.std.specs.Prelude.{Option, Result, Ok, Err}
use Rattle.std.proofs.lemmas.List.{take_more, drop_more, take_all, drop_all, take_rest}
use Rattle.sgf_tree.specs.Grammar.{IsTree}
use Rattle.sgf_tree.specs.Reading.{IsLive, HasDepth, most_open_trees, StaysShallow, StaysOpen, IsRead, IsTooDeep, IsBadByte, IsCutShort, IsStart, AnswersFile}
use Rattle.sgf_tree.specs.declared.tree.Tree.{Tree}
use Rattle.sgf_tree.specs.declared.fault.TreeFault.TheVariants.{NoTree, BadByte, CutShort, TooDeep}
use Rattle.sgf_tree.specs.declared.fault.SgfError.{SgfError}
use Rattle.sgf_tree.specs.declared.fault.SgfError.TheVariants.{Fault, Memory}
use Rattle.sgf_tree.specs.declared.machine.Place.{Place}
use Rattle.sgf_tree.specs.declared.machine.Place.TheVariants as at
use Rattle.sgf_tree.specs.declared.machine.Token.{Token}
use Rattle.sgf_tree.specs.declared.machine.Token.TheVariants as token
use Rattle.sgf_tree.specs.inner.Machine.{token_at, place_after, depth_after, ReaderState, after, begin, is_done, is_open, Verdict, read, bad_byte, cut_short, too_deep, judged, verdict, Gives}
use Rattle.sgf_tree.proofs.RunLemmas.{stepped, step, run, run-append, some-is, tree_run}
use Rattle.sgf_tree.proofs.RestLemmas.{run_tree}
use Rattle.sgf_tree.proofs.BeginningLemmas.{has_depth, one_depth, live, dead}

abbrev pub Holds : List ℕ → Verdict → Type 0
Holds from (read n line) = IsRead from n line
Holds from (bad_byte n) = IsBadByte from n
Holds from cut_short = IsCutShort from
Holds from (too_deep n) = IsTooDeep from n

-- so many bytes are read, neither too deep nor to the end
abbrev Goes : List ℕ → ℕ → Type 0
Goes from n = (k : ℕ) → k ≤ n → (s : ReaderState) × (run (Some begin) (take k from) ≡ Some s) × (s.depth ≤ most_open_trees) × (is_done s.place ≡ false)

stays_shallow : (from : List ℕ) (n : ℕ) → Goes from n → StaysShallow from n
stays_shallow from n g = λ k depth h d. (let s = g k h in let same = one_depth (take k from) s.0 depth s.1 d in omega (arith, same, s.2))

stays_open : (from : List ℕ) (n : ℕ) → Goes from n → StaysOpen from n
stays_open from n g = λ k h t. (let s = g k h in let r = tree_run (take k from) t.0 t.1 in true_not_false (ap (λ x. is_done x.place) (sym (some-is (sym s.1 ∙ r.1))) ∙ s.3))
  where
    true_not_false : true ≡ false → ⊥
    true_not_false e = cc

-- where a byte stands next
next_at : (from : List ℕ) (n b : ℕ) (bs : List ℕ) → drop n from ≡ b ∷ bs → (n < length from) × (take (n + 1) from ≡ take n from ++ (b ∷ [])) × (drop (n + 1) from ≡ bs)
next_at from n b bs e =
    let long : length (drop n from) ≡ suc (length bs) = ap length e in
    let within : n < length from = omega (arith, long, length-drop n from) in
    let cut = sym (drop_more from n 0 within) ∙ e in
    let here : get_or from n 0 ≡ b = cc in
    let rest : drop (n + 1) from ≡ bs = cc in
    (within, take_more from n 0 within ∙ ap (λ x. take n from ++ (x ∷ [])) here, rest)

-- at the end of the bytes
end_at : (from : List ℕ) (n : ℕ) → drop n from ≡ [] → n ≤ length from → n ≡ length from
end_at from n e h =
    let long : length (drop n from) ≡ 0 = ap length e in
    omega (arith, long, length-drop n from, h)

-- what is read to the end is a tree with the nodes that were read
run_line : (xs : List ℕ) (t : ReaderState) → run (Some begin) xs ≡ Some t → t.place ≡ at.Done → IsTree xs t.parts.nodes
run_line xs t e d =
    let u = run_tree xs t e d in
    let r = tree_run xs u.0 u.1 in
    subst (IsTree xs) (sym (ap (λ x. x.parts.nodes) (some-is (sym e ∙ r.1)) ∙ r.2)) u.1

done_is : (p : Place) → is_done p ≡ true → p ≡ at.Done
done_is at.Done e = refl
done_is at.Start e = cc
done_is at.Opened e = cc
done_is at.InNode e = cc
done_is at.InIdent e = cc
done_is at.AfterIdent e = cc
done_is at.InValue e = cc
done_is at.AfterBackslash e = cc
done_is at.AfterValue e = cc
done_is at.AfterTree e = cc

pub depth_most : (t : Token) (d : ℕ) → d ≤ most_open_trees → (is_open t && (d == most_open_trees)) ≡ false → depth_after t d ≤ most_open_trees
depth_most token.Open d h e = grind (arith, h, e)
depth_most token.Close d h e = omega (arith, h)
depth_most t d h e = h

too_many : (t : Token) (d : ℕ) → (is_open t && (d == most_open_trees)) ≡ true → depth_after t d ≡ most_open_trees + 1
too_many token.Open d e = grind (arith, e)
too_many token.White d e = cc
too_many token.Begin d e = cc
too_many token.Node d e = cc
too_many token.Letter d e = cc
too_many token.IdentEnd d e = cc
too_many token.ValueStart d e = cc
too_many token.Text d e = cc
too_many token.Backslash d e = cc
too_many token.ValueEnd d e = cc
too_many token.Close d e = cc

last_or : (k n : ℕ) → k ≤ n + 1 → (k ≤ n) ⊎ (k ≡ n + 1)
last_or k n h = grind (arith, h)

-- one byte read
record ByteRead (from : List ℕ) (s : ReaderState) (n b : ℕ) : Type 0 where
  within : n < length from
  taken : take (n + 1) from ≡ take n from ++ (b ∷ [])
  state : run (Some begin) (take n from) ≡ Some s
  goes : Goes from n

stepped_to : (from : List ℕ) (s : ReaderState) (n b : ℕ) (o : Option Token) → ByteRead from s n b → token_at s.place b ≡ o → run (Some begin) (take (n + 1) from) ≡ stepped s b o
stepped_to from s n b o r e = ap (run (Some begin)) r.taken ∙ run-append (Some begin) (take n from) (b ∷ []) ∙ ap (λ x. step x b) r.state ∙ ap (stepped s b) e

judged_holds : (from : List ℕ) (s : ReaderState) (n b : ℕ) → ByteRead from s n b → (go : ReaderState → Verdict)
    → ((t : ReaderState) → run (Some begin) (take (n + 1) from) ≡ Some t → Goes from (n + 1) → Holds from (go t))
    → (o : Option Token) → token_at s.place b ≡ o → Holds from (judged s n b o go)
judged_holds from s n b r go more None e = record {
  within = r.within;
  shallow = stays_shallow from n r.goes;
  unfinished = stays_open from n r.goes;
  live = live (take n from) s r.state;
  dead = dead (take (n + 1) from) (stepped_to from s n b None r e);
}
judged_holds from s n b r go more (Some t) e = by_depth (is_open t && (s.depth == most_open_trees)) refl
  where
    to : run (Some begin) (take (n + 1) from) ≡ Some (after s t b)
    to = stepped_to from s n b (Some t) r e

    shallow_here : s.depth ≤ most_open_trees
    shallow_here = let here = r.goes n (omega arith) in subst (λ x. x.depth ≤ most_open_trees) (some-is (sym here.1 ∙ r.state)) here.2

    by_end : (is_open t && (s.depth == most_open_trees)) ≡ false → (c : Bool) → is_done (place_after s.place t s.depth) ≡ c → Holds from (if c then read (n + 1) (after s t b).parts.nodes else go (after s t b))
    by_end small true f = record {
      within = omega (arith, r.within);
      is_tree = run_line (take (n + 1) from) (after s t b) to (done_is (place_after s.place t s.depth) f);
      shallow = λ k depth h d. elim (last_or k n h) [
        | inl l ↦ stays_shallow from n r.goes k depth l d
        | inr l ↦ (let same = one_depth (take (n + 1) from) (after s t b) depth to (subst (λ x. HasDepth (take x from) depth) l d) in omega (arith, same, depth_most t s.depth shallow_here small))
      ];
    }
    by_end small false f = more (after s t b) to (λ k h. elim (last_or k n h) [
      | inl l ↦ r.goes k l
      | inr l ↦ (after s t b, ap (λ x. run (Some begin) (take x from)) l ∙ to, depth_most t s.depth shallow_here small, f)
    ])

    by_depth : (c : Bool) → (is_open t && (s.depth == most_open_trees)) ≡ c → Holds from (if c then too_deep n else (if is_done (place_after s.place t s.depth) then read (n + 1) (after s t b).parts.nodes else go (after s t b)))
    by_depth true f = record {
      within = r.within;
      shallow = stays_shallow from n r.goes;
      unfinished = stays_open from n r.goes;
      deep = subst (HasDepth (take (n + 1) from)) (too_many t s.depth f) (has_depth (take (n + 1) from) (after s t b) to);
    }
    by_depth false f = by_end f (is_done (place_after s.place t s.depth)) refl

verdict_holds : (bs from : List ℕ) (s : ReaderState) (n : ℕ) → drop n from ≡ bs → n ≤ length from → run (Some begin) (take n from) ≡ Some s → Goes from n → Holds from (verdict s n bs)
unfolding verdict
verdict_holds [] from s n e h r g =
    let all = end_at from n e h in
    record {
      shallow = subst (StaysShallow from) all (stays_shallow from n g);
      unfinished = subst (StaysOpen from) all (stays_open from n g);
      live = subst IsLive (whole all) (live (take n from) s r);
    }
  where
    whole : n ≡ length from → take n from ≡ from
    whole all = ap (λ x. take x from) all ∙ take_all (length from) from (omega arith)
verdict_holds (b ∷ bs) from s n e h r g =
    let next = next_at from n b bs e in
    judged_holds from s n b (record { within = next.0; taken = next.1; state = r; goes = g }) (λ t. verdict t (n + 1) bs)
    (λ t f i. verdict_holds bs from t (n + 1) next.2 (omega (arith, next.0)) f i) (token_at s.place b) refl

pub verdict_right : (from : List ℕ) → Holds from (verdict begin 0 from)
verdict_right from = verdict_holds from from begin 0 refl (omega arith) refl
    (λ k h. (let none : k ≡ 0 = omega (arith, h) in (begin, ap (λ x. run (Some begin) (take x from)) none, omega arith, refl)))

-- what is answered from the machine's end is right
pub answers_from : (bytes : List ℕ) (start : ℕ) (r : Result Tree SgfError) → IsStart bytes start → Gives (verdict begin 0 (drop start bytes)) start r → AnswersFile bytes r
answers_from bytes start (Ok tree) s g = (start, s, (g.0, subst (Holds (drop start bytes)) g.1 (verdict_right (drop start bytes))))
answers_from bytes start (Err (Fault NoTree)) s g = absurd g
answers_from bytes start (Err (Fault (BadByte at))) s g = (start, s, (g.0, g.1, subst (Holds (drop start bytes)) g.2 (verdict_right (drop start bytes))))
answers_from bytes start (Err (Fault CutShort)) s g = (start, s, subst (Holds (drop start bytes)) g (verdict_right (drop start bytes)))
answers_from bytes start (Err (Fault TooDeep)) s g = (start, s, (g.0, subst (Holds (drop start bytes)) g.1 (verdict_right (drop start bytes))))
answers_from bytes start (Err (Memory e)) s g = tt

-- the machine's end from a place in the bytes, by what stands there
verdict_at : (from : List ℕ) (s : ReaderState) (n : ℕ) → n < length from
    → verdict s n (drop n from) ≡ judged s n (get_or from n 0) (token_at s.place (get_or from n 0)) (λ t. verdict t (n + 1) (drop (n + 1) from))
unfolding verdict
verdict_at from s n h = ap (verdict s n) (drop_more from n 0 h)

pub verdict_bad : (from : List ℕ) (s : ReaderState) (n : ℕ) → n < length from → token_at s.place (get_or from n 0) ≡ None → verdict s n (drop n from) ≡ bad_byte n
verdict_bad from s n h e = verdict_at from s n h ∙ ap (λ o. judged s n (get_or from n 0) o (λ t. verdict t (n + 1) (drop (n + 1) from))) e

pub verdict_deep : (from : List ℕ) (s : ReaderState) (n : ℕ) (t : Token) → n < length from → token_at s.place (get_or from n 0) ≡ Some t → (is_open t && (s.depth == most_open_trees)) ≡ true → verdict s n (drop n from) ≡ too_deep n
verdict_deep from s n t h e deep =
    verdict_at from s n h ∙ ap (λ x. judged s n (get_or from n 0) x (λ t. verdict t (n + 1) (drop (n + 1) from))) e
    ∙ ap (λ c. if c then too_deep n else (if is_done (place_after s.place t s.depth) then read (n + 1) (after s t (get_or from n 0)).parts.nodes else verdict (after s t (get_or from n 0)) (n + 1) (drop (n + 1) from))) deep

-- a byte that doesn't open one tree too many
pub verdict_next : (from : List ℕ) (s : ReaderState) (n : ℕ) (t : Token) → n < length from → token_at s.place (get_or from n 0) ≡ Some t → (is_open t && (s.depth == most_open_trees)) ≡ false
    → (c : Bool) → is_done (place_after s.place t s.depth) ≡ c
    → verdict s n (drop n from) ≡ (if c then read (n + 1) (after s t (get_or from n 0)).parts.nodes else verdict (after s t (get_or from n 0)) (n + 1) (drop (n + 1) from))
verdict_next from s n t h e small c d =
    verdict_at from s n h ∙ ap (λ x. judged s n (get_or from n 0) x (λ t. verdict t (n + 1) (drop (n + 1) from))) e
    ∙ ap₂ (λ b c. if b then too_deep n else (if c then read (n + 1) (after s t (get_or from n 0)).parts.nodes else verdict (after s t (get_or from n 0)) (n + 1) (drop (n + 1) from))) small d

pub verdict_end : (from : List ℕ) (s : ReaderState) (n : ℕ) → length from ≤ n → verdict s n (drop n from) ≡ cut_short
unfolding verdict
verdict_end from s n h = ap (verdict s n) (drop_all n from h)

pub verdict_done : (from : List ℕ) (s m : ReaderState) (n : ℕ) (t : Token) → n < length from → token_at s.place (get_or from n 0) ≡ Some t → (is_open t && (s.depth == most_open_trees)) ≡ false
    → m ≡ after s t (get_or from n 0) → is_done m.place ≡ true → verdict s n (drop n from) ≡ read (n + 1) m.parts.nodes
verdict_done from s m n t h e small same d = verdict_next from s n t h e small true (ap (λ x. is_done x.place) (sym same) ∙ d) ∙ ap (λ x. read (n + 1) x.parts.nodes) (sym same)

pub verdict_more : (from : List ℕ) (s m : ReaderState) (n : ℕ) (t : Token) → n < length from → token_at s.place (get_or from n 0) ≡ Some t → (is_open t && (s.depth == most_open_trees)) ≡ false
    → m ≡ after s t (get_or from n 0) → is_done m.place ≡ false → verdict s n (drop n from) ≡ verdict m (n + 1) (drop (n + 1) from)
verdict_more from s m n t h e small same d = verdict_next from s n t h e small false (ap (λ x. is_done x.place) (sym same) ∙ d) ∙ ap (λ x. verdict x (n + 1) (drop (n + 1) from)) (sym same)

pub depth_more : (s m : ReaderState) (t : Token) (b : ℕ) → s.depth ≤ most_open_trees → (is_open t && (s.depth == most_open_trees)) ≡ false → m ≡ after s t b → m.depth ≤ most_open_trees
depth_more s m t b h small same = subst (λ x. x.depth ≤ most_open_trees) (sym same) (depth_most t s.depth h small)

-- the bytes from the start on, as the reading is given them
pub answers_slice : (bytes : List ℕ) (start : ℕ) (r : Result Tree SgfError) → IsStart bytes start → Gives (verdict begin 0 (take (length bytes - start) (drop start bytes))) start r → AnswersFile bytes r
answers_slice bytes start r s g = answers_from bytes start r s (subst (λ x. Gives (verdict begin 0 x) start r) (take_rest bytes start) g)
