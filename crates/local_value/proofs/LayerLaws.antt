-- Layers of values: the edges that are followed, one pass over the places, and when two layers are alike.
use Rattle.std.proofs.Common.{ℕ, ◌+◌, ◌-◌, ◌≡◌, ◌<◌, ◌≤◌, ◌⊎◌, ◌==◌, inl, inr, refl, sym, ◌∙◌, ap, subst, arith, List, [], ◌∷◌, ◌++◌, length, get_or, take, Bool, true, false, not, Option, None, Some, Contains}
use Rattle.std.proofs.lemmas.Bool.{true≢false, cases_lt, eq-eqb, eqb-true}
use Rattle.std.proofs.lemmas.Option.{same_Some}
use Rattle.std.proofs.lemmas.List.{get_or_append_left, get_or_past, get_or_push, length-append, take_all, take_more}
use Rattle.std.proofs.lemmas.List.Elements.{Contains-append_left, Contains-push, Contains-push_cases}
use Rattle.go_grid.specs.declared.grid.Colour.{Colour}
use Rattle.local_graph.specs.declared.graph.Edge.{Edge}
use Rattle.local_graph.specs.inner.Graph.{edges_at, no_edge}
use Rattle.local_graph.specs.ReturnGraph.{ReturnGraph, IsReturningCaptureAt}
use Rattle.local_value.specs.inner.Layers.{AreMarked, IsFollowed, AreFollowed, IsBudgetLeft}

-- Edges that are followed.

-- the list goes on with the edge, where it is followed
abbrev pub GoesOn : Option Edge → List Edge → List Edge → Type 0
GoesOn None fs gs = gs ≡ fs
GoesOn (Some f) fs gs = gs ≡ fs ++ f ∷ []

module _ {owner : Colour} {components : Option (List ℕ)} {i count : ℕ} {budget : Bool} where
  pub followed-start : (es : List Edge) → AreFollowed owner components i count budget (take 0 es) []
  followed-start es = record { from = λ f h. absurd (omega (arith, h.1)); to = λ e h. absurd (omega (arith, h.1)) }

  -- one edge more: it is followed or it isn't
  followed-more : (es fs gs : List Edge) (k : ℕ) (o : Option Edge) → AreFollowed owner components i count budget (take k es) fs → k < length es
      → IsFollowed owner components i count budget (get_or es k no_edge) o → ((f : Edge) → Contains fs f → Contains gs f)
      → ((f : Edge) → o ≡ Some f → Contains gs f)
      → ((f : Edge) → Contains gs f → Contains fs f ⊎ (o ≡ Some f)) → AreFollowed owner components i count budget (take (k + 1) es) gs
  followed-more es fs gs k o w lt followed kept new old =
      let e = get_or es k no_edge in
      subst (λ xs. AreFollowed owner components i count budget xs gs) (sym (take_more es k no_edge lt)) record {
        from = λ f h. elim (old f h) [
          | inl before ↦ let (d, among, is) = w.from f before in (d, Contains-append_left (take k es) (e ∷ []) d among, is)
          | inr same ↦ (e, Contains-push (take k es) e, subst (IsFollowed owner components i count budget e) same followed)
        ];
        to = λ d h. elim (Contains-push_cases (take k es) e d h) [
          | inl before ↦ let (p, is, there) = w.to d before in (p, is, λ f same. kept f (there f same))
          | inr same ↦ (o, subst (λ x. IsFollowed owner components i count budget x o) same followed, new)
        ];
      }

  pub followed-on : (es fs gs : List Edge) (k : ℕ) (o : Option Edge) (lent : List Edge) → lent ≡ es
      → AreFollowed owner components i count budget (take k es) fs → k < length lent
      → IsFollowed owner components i count budget (get_or lent k no_edge) o → GoesOn o fs gs → AreFollowed owner components i count budget (take (k + 1) es) gs
  followed-on es fs gs k None lent same w lt followed e = followed-more es fs gs k None w (subst (λ xs. k < length xs) same lt)
      (subst (λ xs. IsFollowed owner components i count budget (get_or xs k no_edge) None) same followed)
      (λ f. subst (λ xs. Contains xs f) (sym e)) (λ f none. cc) (λ f h. inl (subst (λ xs. Contains xs f) e h))
  followed-on es fs gs k (Some f) lent same w lt followed e =
      subst (λ xs. AreFollowed owner components i count budget (take (k + 1) es) xs) (sym e) (followed-more es fs (fs ++ f ∷ []) k (Some f) w
      (subst (λ xs. k < length xs) same lt) (subst (λ xs. IsFollowed owner components i count budget (get_or xs k no_edge) (Some f)) same followed)
      (λ g h. Contains-append_left fs (f ∷ []) g h)
      (λ g same. subst (Contains (fs ++ f ∷ [])) (same_Some f g same) (Contains-push fs f))
      (λ g h. elim (Contains-push_cases fs f g h) [ inl before ↦ inl before | inr same ↦ inr (ap Some same) ]))

  pub followed-done : (es fs : List Edge) (k : ℕ) → AreFollowed owner components i count budget (take k es) fs → length es ≤ k
      → AreFollowed owner components i count budget es fs
  followed-done es fs k w le = subst (λ xs. AreFollowed owner components i count budget xs fs) (take_all k es le) w

-- edges of which none is a returning capture by the owner are followed as they are
pub all-followed : {owner : Colour} {components : Option (List ℕ)} {i count : ℕ} {budget : Bool} (es : List Edge)
    → ((e : Edge) → Contains es e → ¬ IsReturningCaptureAt owner components i e) → AreFollowed owner components i count budget es es
all-followed es none = record {
  from = λ f h. (f, h, inl (none f h, refl));
  to = λ e h. (Some e, inl (none e h, refl), λ f same. subst (Contains es) (same_Some e f same) h);
}

-- a list of layers is empty, or there is a budget less
pub left-of : (b : Bool) (n : ℕ) → b ≡ (n == 0) → IsBudgetLeft (not b) n
left-of true n e = eqb-true n 0 (sym e)
left-of false n e = elim (cases_lt 0 n) [
  | inl lt ↦ (n - 1, omega (arith, lt))
  | inr le ↦ absurd (true≢false (sym (eq-eqb n 0 (omega (arith, le))) ∙ sym e))
]

-- one mark more
pub mark-more : (owner : Colour) (g : ReturnGraph) (marks : List Bool) (x : Bool) (p : ℕ) → length marks ≡ p → AreMarked owner g marks
    → (x ≡ false → (e : Edge) → Contains (edges_at g.edges p) e → ¬ IsReturningCaptureAt owner g.components p e) → AreMarked owner g (marks ++ x ∷ [])
mark-more owner g marks x p long w here i is e among = elim (cases_lt i (length marks)) [
  | inl l ↦ w i (sym (get_or_append_left marks (x ∷ []) true i l) ∙ is) e among
  | inr m ↦ elim (cases_lt (length marks) i) [
    | inl n ↦ absurd (true≢false (sym (get_or_past (marks ++ x ∷ []) i true (omega (arith, n, length-append marks (x ∷ [])))) ∙ is))
    | inr n ↦
        let same : length marks ≡ i = omega (arith, m, n) in
        let at : p ≡ i = omega (arith, same, long) in
        subst (λ k. ¬ IsReturningCaptureAt owner g.components k e) at
        (here (sym (get_or_push marks x true i same) ∙ is) e (subst (λ k. Contains (edges_at g.edges k) e) (sym at) among))
  ]
]
