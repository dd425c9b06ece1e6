-- Which beginnings are live, and how deep: what the machine says of them.
use Rattle.std.proofs.Common.{ℕ, zero, suc, ◌+◌, ◌-◌, ◌≤◌, ◌≡◌, List, [], ◌∷◌, ◌++◌, arith, refl, sym, ◌∙◌, ap, subst, Bool, true, false, ◌==◌, Some, None, if◌then◌else◌}
use Rattle.std.specs.Prelude.{Option}
use Rattle.std.proofs.lemmas.List.Sums.{sum_by-cons}
use Rattle.sgf_tree.specs.Grammar.{opening, closing, semicolon, bracket, backslash, end_bracket}
use Rattle.sgf_tree.specs.Reading.{IsLive, HasDepth, closings}
use Rattle.sgf_tree.specs.declared.machine.Kind.{Kind}
use Rattle.sgf_tree.specs.declared.machine.Kind.TheVariants as kind
use Rattle.sgf_tree.specs.declared.machine.Place.{Place}
use Rattle.sgf_tree.specs.declared.machine.Place.TheVariants as at
use Rattle.sgf_tree.specs.declared.machine.Token.{Token}
use Rattle.sgf_tree.specs.declared.machine.Token.TheVariants as token
use Rattle.sgf_tree.specs.inner.Machine.{kind_of, outside, token_at, place_after, depth_after, Parts, ReaderState, after, begin}
use Rattle.sgf_tree.proofs.RunLemmas.{stepped, step, run, run-append, run-none, some-is, none-some, Opens, in_node, after_value, after_tree, tree_run, off}
use Rattle.sgf_tree.proofs.RestLemmas.{Says, says, IsSound, some_open, sound_after, run_tree, pred_at}

-- so many bytes `)`
ends : ℕ → List ℕ
ends zero = []
ends (suc d) = closing ∷ ends d

closings-more : (b : ℕ) (bs : List ℕ) → closings (b ∷ bs) ≡ closings (b ∷ []) + closings bs
closings-more b bs = omega (arith, sum_by-cons (λ x. if x == closing then 1 else 0) b bs)

closings-ends : (d : ℕ) → closings (ends d) ≡ d
unfolding ends
closings-ends zero = refl
closings-ends (suc d) = omega (arith, closings-ends d, closings-more closing (ends d))

-- the shortest end of a tree, from a place at a depth
abbrev finish : Place → ℕ → List ℕ
finish at.Start d = opening ∷ semicolon ∷ ends d
finish at.Opened d = semicolon ∷ ends d
finish at.InNode d = ends d
finish at.InIdent d = bracket ∷ end_bracket ∷ ends d
finish at.AfterIdent d = bracket ∷ end_bracket ∷ ends d
finish at.InValue d = end_bracket ∷ ends d
finish at.AfterBackslash d = 0 ∷ end_bracket ∷ ends d
finish at.AfterValue d = ends d
finish at.AfterTree d = ends d
finish at.Done d = []

closings-finish : (p : Place) (d : ℕ) → IsSound p d → closings (finish p d) ≡ d
closings-finish at.Start d s = closings-ends d
closings-finish at.Opened d s = closings-ends d
closings-finish at.InNode d s = closings-ends d
closings-finish at.InIdent d s = closings-ends d
closings-finish at.AfterIdent d s = closings-ends d
closings-finish at.InValue d s = closings-ends d
closings-finish at.AfterBackslash d s = closings-ends d
closings-finish at.AfterValue d s = closings-ends d
closings-finish at.AfterTree d s = closings-ends d
closings-finish at.Done d s = sym s

-- the bytes are read to the end of a tree
abbrev IsEnded : ReaderState → List ℕ → Type 0
IsEnded s bs = (t : ReaderState) × (run (Some s) bs ≡ Some t) × (t.place ≡ at.Done)

close_at : (s : ReaderState) → Opens s.place → step (Some s) closing ≡ Some (after s token.Close closing)
close_at s o = ap (stepped s closing) (fits s.place o)
  where
    fits : (p : Place) → Opens p → token_at p closing ≡ Some token.Close
    fits _ in_node = refl
    fits _ after_value = refl
    fits _ after_tree = refl

ends_run : (d : ℕ) (s : ReaderState) → Opens s.place → s.depth ≡ suc d → IsEnded s (ends (suc d))
unfolding ends
ends_run zero s o e =
    let last : (s.depth == 1) ≡ true = grind (arith, e) in
    (after s token.Close closing, close_at s o, ap (λ c. if c then at.Done else at.AfterTree) last)
ends_run (suc d) s o e =
    let more : (s.depth == 1) ≡ false = grind (arith, e) in
    let behind : place_after s.place token.Close s.depth ≡ at.AfterTree = ap (λ c. if c then at.Done else at.AfterTree) more in
    let r = ends_run d (after s token.Close closing) (subst Opens (sym behind) after_tree) (omega (arith, e)) in
    (r.0, ap (λ o. run o (ends (suc d))) (close_at s o) ∙ r.1, r.2)

ends_at : (d : ℕ) (s : ReaderState) → 1 ≤ d → Opens s.place → s.depth ≡ d → IsEnded s (ends d)
ends_at d s h o e = let n = pred_at d h in subst (λ x. IsEnded s (ends x)) (sym n.1) (ends_run n.0 s o (e ∙ n.1))

finish_run : (p : Place) (d : ℕ) (m : Bool) (q : Parts) → IsSound p d → IsEnded (record { place = p; depth = d; on_main = m; parts = q }) (finish p d)
finish_run at.Start d m q s = ends_at d (after (after (record { place = at.Start; depth = d; on_main = m; parts = q }) token.Begin opening) token.Node semicolon) s in_node refl
finish_run at.Opened d m q s = ends_at d (after (record { place = at.Opened; depth = d; on_main = m; parts = q }) token.Node semicolon) s in_node refl
finish_run at.InNode d m q s = ends_at d (record { place = at.InNode; depth = d; on_main = m; parts = q }) s in_node refl
finish_run at.InIdent d m q s = ends_at d (after (after (record { place = at.InIdent; depth = d; on_main = m; parts = q }) token.ValueStart bracket) token.ValueEnd end_bracket) s after_value refl
finish_run at.AfterIdent d m q s = ends_at d (after (after (record { place = at.AfterIdent; depth = d; on_main = m; parts = q }) token.ValueStart bracket) token.ValueEnd end_bracket) s after_value refl
finish_run at.InValue d m q s = ends_at d (after (record { place = at.InValue; depth = d; on_main = m; parts = q }) token.ValueEnd end_bracket) s after_value refl
finish_run at.AfterBackslash d m q s = ends_at d (after (after (record { place = at.AfterBackslash; depth = d; on_main = m; parts = q }) token.Text 0) token.ValueEnd end_bracket) s after_value refl
finish_run at.AfterValue d m q s = ends_at d (record { place = at.AfterValue; depth = d; on_main = m; parts = q }) s after_value refl
finish_run at.AfterTree d m q s = ends_at d (record { place = at.AfterTree; depth = d; on_main = m; parts = q }) s after_tree refl
finish_run at.Done d m q s = (record { place = at.Done; depth = d; on_main = m; parts = q }, refl, refl)

-- a byte lowers the depth by one at most, and only a `)` does
abbrev Weighs : ℕ → ℕ → Option Token → Type 0
Weighs d b None = Unit {0}
Weighs d b (Some t) = d ≤ depth_after t d + closings (b ∷ [])

grows : (d b : ℕ) → d ≤ d + closings (b ∷ [])
grows d b = omega arith

opens : (d b : ℕ) → d ≤ d + 1 + closings (b ∷ [])
opens d b = omega arith

closes : (d b : ℕ) → b ≡ closing → d ≤ d - 1 + closings (b ∷ [])
closes d b e = subst (λ x. d ≤ d - 1 + closings (x ∷ [])) (sym e) (omega arith)

outside_weight : (p : Place) (k : Kind) (d b : ℕ) → Says b k → Weighs d b (outside p k)
outside_weight at.Start kind.Opening d b s = grows d b
outside_weight at.Opened kind.White d b s = grows d b
outside_weight at.Opened kind.Semicolon d b s = grows d b
outside_weight at.InNode kind.White d b s = grows d b
outside_weight at.InNode kind.Letter d b s = grows d b
outside_weight at.InNode kind.Semicolon d b s = grows d b
outside_weight at.InNode kind.Opening d b s = opens d b
outside_weight at.InNode kind.Closing d b s = closes d b s
outside_weight at.InIdent kind.White d b s = grows d b
outside_weight at.InIdent kind.Letter d b s = grows d b
outside_weight at.InIdent kind.Bracket d b s = grows d b
outside_weight at.AfterIdent kind.White d b s = grows d b
outside_weight at.AfterIdent kind.Bracket d b s = grows d b
outside_weight at.AfterValue kind.White d b s = grows d b
outside_weight at.AfterValue kind.Letter d b s = grows d b
outside_weight at.AfterValue kind.Bracket d b s = grows d b
outside_weight at.AfterValue kind.Semicolon d b s = grows d b
outside_weight at.AfterValue kind.Opening d b s = opens d b
outside_weight at.AfterValue kind.Closing d b s = closes d b s
outside_weight at.AfterTree kind.White d b s = grows d b
outside_weight at.AfterTree kind.Opening d b s = opens d b
outside_weight at.AfterTree kind.Closing d b s = closes d b s
outside_weight p k d b s = tt

inside_weight : (d b : ℕ) (e s : Bool) → Weighs d b (Some (if e then token.ValueEnd else (if s then token.Backslash else token.Text)))
inside_weight d b true s = grows d b
inside_weight d b false true = grows d b
inside_weight d b false false = grows d b

weight : (p : Place) (d b : ℕ) → Weighs d b (token_at p b)
weight at.InValue d b = inside_weight d b (b == end_bracket) (b == backslash)
weight at.AfterBackslash d b = grows d b
weight at.Start d b = outside_weight at.Start (kind_of b) d b (says b)
weight at.Opened d b = outside_weight at.Opened (kind_of b) d b (says b)
weight at.InNode d b = outside_weight at.InNode (kind_of b) d b (says b)
weight at.InIdent d b = outside_weight at.InIdent (kind_of b) d b (says b)
weight at.AfterIdent d b = outside_weight at.AfterIdent (kind_of b) d b (says b)
weight at.AfterValue d b = outside_weight at.AfterValue (kind_of b) d b (says b)
weight at.AfterTree d b = outside_weight at.AfterTree (kind_of b) d b (says b)
weight at.Done d b = outside_weight at.Done (kind_of b) d b (says b)

-- a continuation needs as many bytes `)` as the depth
depth_least : (bs : List ℕ) (s t : ReaderState) → IsSound s.place s.depth → run (Some s) bs ≡ Some t → t.place ≡ at.Done → s.depth ≤ closings bs
depth_least [] s t h e d = at_end s.place s.depth h (ap (λ x. x.place) (some-is e) ∙ d)
  where
    at_end : (p : Place) (n : ℕ) → IsSound p n → p ≡ at.Done → n ≤ 0
    at_end p n i f = subst (λ x. IsSound x n → n ≤ 0) (sym f) (λ z. omega (arith, z)) i
depth_least (b ∷ bs) s t h e d = by_token (λ m i f. depth_least bs m t i f d) (token_at s.place b) refl
  where
    by_token : ((m : ReaderState) → IsSound m.place m.depth → run (Some m) bs ≡ Some t → m.depth ≤ closings bs) → (o : Option Token) → token_at s.place b ≡ o → s.depth ≤ closings (b ∷ bs)
    by_token go None f = absurd (none-some (sym (run-none bs) ∙ sym (ap (λ o. run (stepped s b o) bs) f) ∙ e))
    by_token go (Some k) f =
        let least = some_open s.place s.depth b k f h in
        let r = go (after s k b) (sound_after s.place s.depth k h least) (sym (ap (λ o. run (stepped s b o) bs) f) ∙ e) in
        let w : Weighs s.depth b (Some k) = subst (Weighs s.depth b) f (weight s.place s.depth b) in
        omega (arith, r, w, closings-more b bs)

-- what is read leads from a sound state to a sound state
pub sound_run : (bs : List ℕ) (s t : ReaderState) → IsSound s.place s.depth → run (Some s) bs ≡ Some t → IsSound t.place t.depth
sound_run [] s t h e = subst (λ x. IsSound x.place x.depth) (some-is e) h
sound_run (b ∷ bs) s t h e = by_token (λ m i f. sound_run bs m t i f) (token_at s.place b) refl
  where
    by_token : ((m : ReaderState) → IsSound m.place m.depth → run (Some m) bs ≡ Some t → IsSound t.place t.depth) → (o : Option Token) → token_at s.place b ≡ o → IsSound t.place t.depth
    by_token go None f = absurd (none-some (sym (run-none bs) ∙ sym (ap (λ o. run (stepped s b o) bs) f) ∙ e))
    by_token go (Some k) f = go (after s k b) (sound_after s.place s.depth k h (some_open s.place s.depth b k f h)) (sym (ap (λ o. run (stepped s b o) bs) f) ∙ e)

-- what the machine reads is live, at the machine's depth
pub has_depth : (xs : List ℕ) (s : ReaderState) → run (Some begin) xs ≡ Some s → HasDepth xs s.depth
has_depth xs s e = record {
  more = finish s.place s.depth;
  is_tree = run_tree (xs ++ finish s.place s.depth) end.0 (run-append (Some begin) xs (finish s.place s.depth) ∙ ap (λ o. run o (finish s.place s.depth)) e ∙ end.1) end.2;
  reached = closings-finish s.place s.depth sound;
  least = λ other u. (let r = tree_run (xs ++ other) u.0 u.1 in depth_least other s (off at.Done 0 r.0) sound (sym (run-append (Some begin) xs other ∙ ap (λ o. run o other) e) ∙ r.1) refl);
}
  where
    sound : IsSound s.place s.depth
    sound = sound_run xs begin s (omega arith) e

    end : IsEnded s (finish s.place s.depth)
    end = finish_run s.place s.depth s.on_main s.parts sound

pub one_depth : (xs : List ℕ) (s : ReaderState) (d : ℕ) → run (Some begin) xs ≡ Some s → HasDepth xs d → d ≡ s.depth
one_depth xs s d e h =
    let m = has_depth xs s e in
    omega (arith, h.least m.more m.is_tree, m.reached, m.least h.more h.is_tree, h.reached)

pub live : (xs : List ℕ) (s : ReaderState) → run (Some begin) xs ≡ Some s → IsLive xs
live xs s e = let m = has_depth xs s e in (m.more, m.is_tree)

-- what the machine refuses is not live
pub dead : (xs : List ℕ) → run (Some begin) xs ≡ None → IsLive xs → ⊥
dead xs e l =
    let r = tree_run (xs ++ l.0) l.1.0 l.1.1 in
    none-some (sym (run-none l.0) ∙ sym (run-append (Some begin) xs l.0 ∙ ap (λ o. run o l.0) e) ∙ r.1)
