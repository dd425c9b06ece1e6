-- The steps of a search for strong components, in the words of the code.
use Rattle.std.proofs.Common.{◌≡◌, ◌≢◌, ℕ, ◌+◌, ◌-◌, ◌^◌, ◌<◌, ◌≤◌, arith, refl, sym, ap, ◌∙◌, inl, inr, List, [], ◌∷◌, ◌++◌, length, get_or, set, subst, take, drop, replicate, Some, None, Ok, Err, slice_get}
use Rattle.std.specs.Prelude.{Result, IfOk}
use Rattle.std.proofs.lemmas.Option.{slice_get_cases}
use Rattle.std.specs.List.{Contains}
use Rattle.std.proofs.lemmas.Bool.{cases_lt}
use Rattle.std.proofs.Math.Seq.{take-append_seam, take-length}
use Rattle.std.proofs.lemmas.List.{take-append-le, length_push, get_or_default, get_or-replicate, get_or_past, length-replicate}
use Rattle.local_graph.specs.declared.graph.Edge.{Edge}
use Rattle.local_graph.specs.declared.strong_components.Turn.{Turn}
use Rattle.local_graph.specs.declared.strong_components.Mark.{Mark}
use Rattle.local_graph.specs.declared.strong_components.Mark.TheVariants.{New, Waiting, Told}
use Rattle.local_graph.specs.inner.Built.{IsRooted}
use Rattle.local_graph.specs.inner.Graph.{edges_at, edge_at}
use Rattle.local_graph.specs.inner.Telling.{Telling, AreUpTo, TellsFrom, IsLastTurn, mark_at, work_left}
use Rattle.local_graph.proofs.PathLemmas.{next_inside}
use Rattle.local_graph.proofs.SearchLemmas.{frame_there, path_some}
use Rattle.local_graph.proofs.TellingLemmas.{turn_inside, turn_left, skip_edge, less_left, joined, enter_edge, enter_less, leave_inner, less_turns, starts_apart, tell_last, tell_less, telling_begin}

pub lent_back : {X : Type 0} (n : ℕ) (ks xs : List X) → length ks ≡ length xs → n ≡ length xs → take n (ks ++ drop (length ks) xs) ≡ ks
lent_back n ks xs len long =
    take-append-le n ks (drop (length ks) xs) (omega (arith, long, len)) ∙ ap (λ m. take m ks) (long ∙ sym len) ∙ take-length ks

-- a list that ends in an item ends in it behind all but the last
pub front_of : {X : Type 0} (xs : List X) (x : X) → (front : List X) × (xs ≡ front ++ x ∷ []) → xs ≡ take (length xs - 1) xs ++ x ∷ []
front_of xs x (front, e) =
    let short : length xs - 1 ≡ length front = omega (arith, ap length e, length_push front x) in
    let same : take (length xs - 1) xs ≡ front = ap (λ n. take n xs) short ∙ ap (take (length front)) e ∙ take-append_seam front (x ∷ []) in
    e ∙ ap (λ l. l ++ x ∷ []) (sym same)

-- a list that has no last item has none
pub none_there : (xs now : List ℕ) (at : ℕ) → now ≡ xs → slice_get now (length now - 1) ≡ None → (x : ℕ) → Contains xs x → x ≢ at
none_there xs now at same none x (k, lt, is) = elim (slice_get_cases now (length now - 1)).1 as (λ _. x ≢ at) [
  | inl w ↦ λ e. some_none w.0 (sym w.2 ∙ none)
  | inr w ↦ λ e. omega (arith, w.0, lt, ap length same)
]
  where
    some_none : (y : ℕ) → Some y ≡ None → ⊥
    some_none y e = cc

-- two facts on what a call gives make a third
pub both_ok : {T F : Type 0} (r : Result T F) (P Q R : T → Type 0) → ((v : T) → P v → Q v → R v) → IfOk r P → IfOk r Q → IfOk r R
both_ok (Ok v) P Q R then p q = then v p q
both_ok (Err e) P Q R then p q = tt

-- the search that has met the first node alone
pub said_begin : (E : List (List Edge)) (fresh marks : List Mark) (path path' : List Turn) (waiting waiting' starts starts' : List ℕ)
    (told count : ℕ) → IsRooted E → fresh ≡ replicate count New → count ≡ length E → path' ≡ [] → waiting' ≡ [] → starts' ≡ []
    → marks ≡ set fresh 0 (Waiting (length waiting')) → waiting ≡ waiting' ++ 0 ∷ [] → starts ≡ starts' ++ length waiting' ∷ []
    → path ≡ path' ++ record { at = length waiting'; left = length (edges_at E 0) } ∷ [] → told ≡ 0
    → Telling E path waiting starts marks told
said_begin E fresh marks path path' waiting waiting' starts starts' told count r ef ec ep' ew' es' em ew es ep et =
    let whole : path ≡ record { at = 0; left = length (edges_at E 0) } ∷ [] =
    ep ∙ ap (λ l. l ++ record { at = length waiting'; left = length (edges_at E 0) } ∷ []) ep'
    ∙ ap (λ l. record { at = length l; left = length (edges_at E 0) } ∷ []) ew' in
    let waits : waiting ≡ 0 ∷ [] = ew ∙ ap (λ l. l ++ 0 ∷ []) ew' in
    let begins : starts ≡ 0 ∷ [] = es ∙ ap (λ l. l ++ length waiting' ∷ []) es' ∙ ap (λ l. length l ∷ []) ew' in
    let marked : marks ≡ set fresh 0 (Waiting 0) = em ∙ ap (λ l. set fresh 0 (Waiting (length l))) ew' in
    rw (whole, waits, begins, et)
    (telling_begin E fresh marks (record { at = 0; left = length (edges_at E 0) }) r.some (ap length ef ∙ length-replicate count New ∙ ec) new marked refl)
  where
    new : (i : ℕ) → mark_at fresh i ≡ New
    new i = elim (cases_lt i count) [
      | inl lt ↦ ap (λ l. mark_at l i) ef ∙ get_or-replicate count i New New lt
      | inr le ↦ ap (λ l. mark_at l i) ef ∙ get_or_past (replicate count New) i New (omega (arith, le, length-replicate count New))
    ]

module _ (E : List (List Edge)) (whole : List Turn) (t : Turn) (waiting starts : List ℕ) (marks : List Mark) (told : ℕ)
    (ends : IsLastTurn whole t) (under : Telling E whole waiting starts marks told) where
  said : Telling E (ends.0 ++ t ∷ []) waiting starts marks told
  said = subst (λ p. Telling E p waiting starts marks told) ends.1 under

  pub said_inside : t.at < length waiting
  said_inside = turn_inside E ends.0 t waiting starts marks told said

  less_work : (path : List Turn) (now : List Mark) → work_left path now < work_left (ends.0 ++ t ∷ []) marks
      → work_left path now < work_left whole marks
  less_work path now = subst (λ p. work_left path now < work_left p marks) (sym ends.1)

  module _ (node : ℕ) (more : 0 < t.left) (at : node ≡ get_or waiting t.at node) where
    node_is : get_or waiting t.at 0 ≡ node
    node_is = get_or_default waiting t.at 0 node said_inside ∙ sym at

    pub said_left : t.left - 1 < length (edges_at E node)
    said_left =
        let most = subst (λ x. t.left ≤ length (edges_at E x)) node_is (turn_left E ends.0 t waiting starts marks told said) in
        omega (arith, most, more)

    module _ (r : IsRooted E) (n : ℕ) (edge : Edge) (is : edge ≡ edge_at E node (t.left - 1)) where
      pub said_next : edge.next < length E
      said_next = subst (λ e. e.next < length E) (sym is) (next_inside E node (t.left - 1) r said_left)

      module _ (len : n ≡ length whole) (seen : Mark) (look : seen ≡ get_or marks edge.next seen) where
        u : Turn
        u = record { at = t.at; left = t.left - 1 }

        ended : set whole (n - 1) (record { at = t.at; left = t.left - 1 }) ≡ ends.0 ++ record { at = t.at; left = t.left - 1 } ∷ []
        ended = frame_there ends.0 whole t (record { at = t.at; left = t.left - 1 }) (n - 1) ends.1 (omega (arith, len, path_some ends.0 whole t ends.1))

        one_less : t.left - 1 + 1 ≡ t.left
        one_less = omega (arith, more)

        is_edge : edge ≡ edge_at E (get_or waiting t.at 0) (t.left - 1)
        is_edge = is ∙ ap (λ x. edge_at E x (t.left - 1)) (sym node_is)

        next_is : edge.next ≡ (edge_at E (get_or waiting t.at 0) (t.left - 1)).next
        next_is = ap (λ e. e.next) is_edge

        seen_is : (m : Mark) → seen ≡ m → mark_at marks edge.next ≡ m
        seen_is m e = get_or_default marks edge.next New seen (omega (arith, said_next, under.long)) ∙ sym look ∙ e

        seen_there : (m : Mark) → seen ≡ m → mark_at marks (edge_at E (get_or waiting t.at 0) (t.left - 1)).next ≡ m
        seen_there m e = subst (λ x. mark_at marks x ≡ m) next_is (seen_is m e)

        pub said_told : (m : ℕ) → seen ≡ Told m
            → Telling E (set whole (n - 1) (record { at = t.at; left = t.left - 1 })) waiting starts marks told
            × (work_left (set whole (n - 1) (record { at = t.at; left = t.left - 1 })) marks < work_left whole marks)
        said_told m e = rw ended (
          skip_edge E ends.0 t waiting starts marks told said (record { at = t.at; left = t.left - 1 }) refl one_less (inl (m, seen_there (Told m) e)),
          less_work (ends.0 ++ record { at = t.at; left = t.left - 1 } ∷ []) marks
              (less_left E ends.0 t waiting starts marks told said (record { at = t.at; left = t.left - 1 }) refl one_less),
        )

        pub said_joined : (b : ℕ) (fewer : List ℕ) → seen ≡ Waiting b → AreUpTo starts b fewer
            → Telling E (set whole (n - 1) (record { at = t.at; left = t.left - 1 })) waiting fewer marks told
            × (work_left (set whole (n - 1) (record { at = t.at; left = t.left - 1 })) marks < work_left whole marks)
        said_joined b fewer e w =
            let short = subst (λ x. t.left - 1 < length (edges_at E x)) (sym node_is) said_left in
            let back = joined E ends.0 t waiting starts marks told said b (t.left - 1) fewer short (seen_there (Waiting b) e) w in
            rw ended (
              skip_edge E ends.0 t waiting fewer marks told back (record { at = t.at; left = t.left - 1 }) refl one_less
                  (inr (b, seen_there (Waiting b) e, λ x among le. (w.of_old x among).1)),
              less_work (ends.0 ++ record { at = t.at; left = t.left - 1 } ∷ []) marks
                  (less_left E ends.0 t waiting starts marks told said (record { at = t.at; left = t.left - 1 }) refl one_less),
            )

        pub said_entered : (path : List Turn) (waits begins : List ℕ) (now : List Mark) (number : ℕ) → seen ≡ New
            → path ≡ set whole (n - 1) (record { at = t.at; left = t.left - 1 })
            ++ record { at = length waiting; left = length (edges_at E edge.next) } ∷ []
            → waits ≡ waiting ++ edge.next ∷ [] → begins ≡ starts ++ length waiting ∷ []
            → now ≡ set marks edge.next (Waiting (length waiting)) → number ≡ told → length (edges_at E edge.next) < 2 ^ 64
            → Telling E path waits begins now number × (work_left path now < work_left whole marks)
        said_entered path waits begins now number e ep ew es em et fits =
            let g : Turn = record { at = length waiting; left = length (edges_at E edge.next) } in
            let inside : edge.next < length marks = omega (arith, said_next, under.long) in
            rw (ep, ended, ew, es, em, et) (
              enter_edge E ends.0 t waiting starts marks told said (record { at = t.at; left = t.left - 1 }) refl one_less edge.next next_is inside
                  (seen_is New e) g refl,
              less_work ((ends.0 ++ record { at = t.at; left = t.left - 1 } ∷ []) ++ g ∷ []) (set marks edge.next (Waiting (length waiting)))
                  (enter_less E ends.0 t waiting starts marks told said (record { at = t.at; left = t.left - 1 }) refl one_less edge.next next_is inside
                  (seen_is New e) g refl fits),
            )

  -- the last node is left
  module _ (none : t.left ≡ 0) (path : List Turn) (rest : path ≡ take (length whole - 1) whole)
      (front : whole ≡ take (length whole - 1) whole ++ t ∷ []) where
    under' : Telling E (take (length whole - 1) whole ++ t ∷ []) waiting starts marks told
    under' = subst (λ p. Telling E p waiting starts marks told) front under

    pub said_inner : ((x : ℕ) → Contains starts x → x ≢ t.at) → Telling E path waiting starts marks told
    said_inner apart = rw rest (leave_inner E (take (length whole - 1) whole) t waiting starts marks told under' none apart)

    pub said_apart : (before : List ℕ) (z : ℕ) → starts ≡ before ++ z ∷ [] → z ≢ t.at → Telling E path waiting starts marks told
    said_apart before z e ne = said_inner (starts_apart E (take (length whole - 1) whole) t waiting starts marks told under' before z e ne)

    pub said_fewer : work_left path marks < work_left whole marks
    said_fewer = rw rest (subst (λ p. work_left (take (length whole - 1) whole) marks < work_left p marks) (sym front)
        (less_turns E (take (length whole - 1) whole) t waiting starts marks told under'))

    pub said_last : (before still : List ℕ) (after : List Mark) → starts ≡ before ++ t.at ∷ [] → TellsFrom waiting marks t.at told still after
        → Telling E path still before after (told + 1) × (work_left path after < work_left whole marks)
    said_last before still after e w = rw rest (
      tell_last E (take (length whole - 1) whole) t waiting starts marks told under' before e none still after w,
      subst (λ p. work_left (take (length whole - 1) whole) after < work_left p marks) (sym front)
          (tell_less E (take (length whole - 1) whole) t waiting starts marks told under' before e none still after w),
    )
