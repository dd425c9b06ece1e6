-- A search for strong components under way.
use Rattle.std.proofs.Common.{◌≡◌, ◌≢◌, ℕ, ◌+◌, ◌^◌, ◌<◌, ◌≤◌, ◌⊎◌, inl, inr, arith, refl, sym, ap, ◌∙◌, List, [], ◌∷◌, ◌++◌, length, get_or, set, cond, subst}
use Rattle.std.specs.List.{AllPairs, Contains}
use Rattle.std.proofs.lemmas.Bool.{cases_eq, cases_lt}
use Rattle.std.proofs.lemmas.List.{length_push, length-set, get_or-set_same, get_or-set_other, get_or_past, get_or_push, get_or_append_left, get_or_default}
use Rattle.std.proofs.lemmas.List.Elements.{Contains-get_or, Contains-push, Contains-push_cases, Contains-append_left}
use Rattle.std.proofs.lemmas.List.Quantifiers.{all_pairs_push}
use Rattle.std.proofs.lemmas.List.Sums.{sum_by-set, sum_by_push}
use Rattle.local_graph.specs.declared.graph.Edge.{Edge}
use Rattle.local_graph.specs.declared.strong_components.Turn.{Turn}
use Rattle.local_graph.specs.declared.strong_components.Mark.{Mark}
use Rattle.local_graph.specs.declared.strong_components.Mark.TheVariants.{New, Waiting, Told}
use Rattle.local_graph.specs.inner.Built.{IsEdgeAt, IsRooted, Follows}
use Rattle.local_graph.specs.inner.Graph.{edges_at, edge_at, no_edge}
use Rattle.local_graph.specs.inner.Telling.{LeadsTo, AreComponents, mark_at, IsSettled, IsFollowed, Telling, AreUpTo, TellsFrom, is_new, is_told, work_left}
use Rattle.local_graph.proofs.CycleLemmas.{follows_both}

-- of a list with one item more
pub front_pairs : {X : Type 0} (R : X → X → Type 0) (xs : List X) (x : X) → AllPairs R (xs ++ x ∷ [])
    → AllPairs R xs × ((y : X) → Contains xs y → R y x)
front_pairs R xs x pairs = (
  λ i j d lt short.
      let a = get_or_append_left xs (x ∷ []) d i (omega arith) in
      let b = get_or_append_left xs (x ∷ []) d j short in
      subst (λ T. T) (λ t. R (a t) (b t)) (pairs i j d lt (omega (arith, length_push xs x))),
  λ y (k, lt, at).
      let a = get_or_append_left xs (x ∷ []) y k lt ∙ at in
      let b = get_or_push xs x y (length xs) refl in
      subst (λ T. T) (λ t. R (a t) (b t)) (pairs k (length xs) y lt (omega (arith, length_push xs x))),
)

pub push_pairs : {X : Type 0} (R : X → X → Type 0) (xs : List X) (x : X) → AllPairs R xs → ((y : X) → Contains xs y → R y x)
    → AllPairs R (xs ++ x ∷ [])
push_pairs R xs x pairs last = all_pairs_push R xs x pairs (λ k d lt. last (get_or xs k d) (Contains-get_or xs k d lt))

new_waits : (m : Mark) (a : ℕ) → m ≡ New → m ≡ Waiting a → ⊥
new_waits m a e f = cc

new_told : (m : Mark) (n : ℕ) → m ≡ New → m ≡ Told n → ⊥
new_told m n e f = cc

waits_told : (m : Mark) (a n : ℕ) → m ≡ Waiting a → m ≡ Told n → ⊥
waits_told m a n e f = cc

abbrev place_in : Mark → ℕ
place_in New = 0
place_in (Waiting a) = a
place_in (Told n) = n

one_place : (m : Mark) (a b : ℕ) → m ≡ Waiting a → m ≡ Waiting b → a ≡ b
one_place m a b e f = ap place_in (sym e ∙ f)

one_number : (m : Mark) (a b : ℕ) → m ≡ Told a → m ≡ Told b → a ≡ b
one_number m a b e f = ap place_in (sym e ∙ f)

-- what is known of a node is of one that there is
pub marked_inside : (marks : List Mark) (i : ℕ) → (mark_at marks i ≡ New → ⊥) → i < length marks
marked_inside marks i known = elim (cases_lt i (length marks)) as (λ _. i < length marks) [
  | inl lt ↦ lt
  | inr le ↦ absurd (known (get_or_past marks i New le))
]

leads_on : (E : List (List Edge)) (i j k : ℕ) → LeadsTo E i j → LeadsTo E j k → LeadsTo E i k
leads_on E i j k (es, f) (es', f') = (es ++ es', follows_both E i j k es es' f f')

leads_by : (E : List (List Edge)) (i k : ℕ) → k < length (edges_at E i) → LeadsTo E i (edge_at E i k).next
leads_by E i k lt = (edge_at E i k ∷ [], (Contains-get_or (edges_at E i) k no_edge lt, refl))

module _ (E : List (List Edge)) (front : List Turn) (t : Turn) (waiting starts : List ℕ) (marks : List Mark) (told : ℕ)
    (s : Telling E (front ++ t ∷ []) waiting starts marks told) where
  pub turn_inside : t.at < length waiting
  turn_inside = (s.turns t (Contains-push front t)).0

  pub turn_left : t.left ≤ length (edges_at E (get_or waiting t.at 0))
  turn_left = (s.turns t (Contains-push front t)).1

  pub turn_node : get_or waiting t.at 0 < length marks
  turn_node = let is = s.waits t.at turn_inside in marked_inside marks (get_or waiting t.at 0) (λ e. new_waits _ _ e is)

  pub waiting_inside : (a : ℕ) → a < length waiting → get_or waiting a 0 < length marks
  waiting_inside a lt = let is = s.waits a lt in marked_inside marks (get_or waiting a 0) (λ e. new_waits _ _ e is)

  parted : AllPairs (λ u v. u.at < v.at) front × ((u : Turn) → Contains front u → u.at < t.at)
  parted = front_pairs (λ u v. u.at < v.at) front t s.path_up

  starts_most : (x : ℕ) → Contains starts x → x ≤ t.at
  starts_most x among =
      let w = s.on_path x among in
      elim (Contains-push_cases front t w.0 w.1) as (λ _. x ≤ t.at) [
        | inl old ↦ omega (arith, parted.1 w.0 old, w.2)
        | inr e ↦ omega (arith, ap (λ u. u.at) e, w.2)
      ]

  -- all that wait lead to the last node of the path
  all_lead : (a : ℕ) → a < length waiting → LeadsTo E (get_or waiting a 0) (get_or waiting t.at 0)
  all_lead a lt = s.leads a t.at lt turn_inside (λ x among le. starts_most x among)

  -- a turn of the same place with one edge less to follow
  module _ (u : Turn) (at : u.at ≡ t.at) (less : u.left + 1 ≡ t.left) where
    pub edge_inside : u.left < length (edges_at E (get_or waiting t.at 0))
    edge_inside = omega (arith, turn_left, less)

    was_followed : (path : List Turn) → ((v : Turn) → Contains front v → Contains path v) → Contains path u → (a k : ℕ)
        → IsFollowed path a k → ((a ≡ t.at) × (k ≡ u.left)) ⊎ IsFollowed (front ++ t ∷ []) a k
    was_followed path wide there a k f = elim (cases_eq a t.at) [
      | inl e ↦ elim (cases_eq k u.left) [
        | inl e' ↦ inl (e, e')
        | inr ne ↦ inr (λ v among is. elim (Contains-push_cases front t v among) as (λ _. v.left ≤ k) [
          | inl old ↦ f v (wide v old) is
          | inr same ↦ omega (arith, f u there (at ∙ sym e), ne, less, ap (λ x. x.left) same)
        ])
      ]
      | inr ne ↦ inr (λ v among is. elim (Contains-push_cases front t v among) as (λ _. v.left ≤ k) [
        | inl old ↦ f v (wide v old) is
        | inr same ↦ absurd (ne (sym is ∙ sym (ap (λ x. x.at) same)))
      ])
    ]

    up_to : AllPairs (λ v w. v.at < w.at) (front ++ u ∷ [])
    up_to = push_pairs (λ v w. v.at < w.at) front u parted.0 (λ v among. omega (arith, parted.1 v among, at))

    turns_now : (v : Turn) → Contains (front ++ u ∷ []) v → (v.at < length waiting) × (v.left ≤ length (edges_at E (get_or waiting v.at 0)))
    turns_now v among = elim (Contains-push_cases front u v among) [
      | inl old ↦ s.turns v (Contains-append_left front (t ∷ []) v old)
      | inr e ↦
          let same : v.at ≡ t.at = sym (ap (λ x. x.at) e) ∙ at in (
            omega (arith, turn_inside, same),
            subst (λ x. v.left ≤ length (edges_at E (get_or waiting x 0))) (sym same) (omega (arith, turn_left, less, ap (λ x. x.left) e)),
          )
    ]

    on_now : (x : ℕ) → Contains starts x → (v : Turn) × Contains (front ++ u ∷ []) v × (v.at ≡ x)
    on_now x among =
        let w = s.on_path x among in
        elim (Contains-push_cases front t w.0 w.1) [
          | inl old ↦ (w.0, Contains-append_left front (u ∷ []) w.0 old, w.2)
          | inr e ↦ (u, Contains-push front u, at ∙ ap (λ x. x.at) e ∙ w.2)
        ]

    -- the edge leads to a node that has a number, or waits in the same component so far or a later one
    pub skip_edge : IsSettled starts marks t.at (edge_at E (get_or waiting t.at 0) u.left).next
        → Telling E (front ++ u ∷ []) waiting starts marks told
    skip_edge settled = record {
      long = s.long;
      root = s.root;
      waits = s.waits;
      of_waiting = s.of_waiting;
      turns = turns_now;
      path_up = up_to;
      starts_up = s.starts_up;
      on_path = on_now;
      first = s.first;
      leads = s.leads;
      followed = λ a k lt short f. elim (was_followed (front ++ u ∷ []) (λ v old. Contains-append_left front (u ∷ []) v old)
          (Contains-push front u) a k f) [
            | inl w ↦ subst (λ x. IsSettled starts marks x (edge_at E (get_or waiting x 0) k).next) (sym w.0)
                (subst (λ x. IsSettled starts marks t.at (edge_at E (get_or waiting t.at 0) x).next) (sym w.1) settled)
            | inr old ↦ s.followed a k lt short old
          ];
      together = s.together;
      down = s.down;
      below = s.below;
      few = s.few;
    }

    pub less_left : work_left (front ++ u ∷ []) marks < work_left (front ++ t ∷ []) marks
    less_left = omega (arith, sum_by_push (λ v. v.left + 1) front t, sum_by_push (λ v. v.left + 1) front u, less)

  -- an edge leads back to a node that waits: the components so far behind it are joined
  pub joined : (b k : ℕ) (fewer : List ℕ) → k < length (edges_at E (get_or waiting t.at 0))
      → mark_at marks (edge_at E (get_or waiting t.at 0) k).next ≡ Waiting b → AreUpTo starts b fewer
      → Telling E (front ++ t ∷ []) waiting fewer marks told
  joined b k fewer short is w =
      let there = s.of_waiting (edge_at E (get_or waiting t.at 0) k).next b is in
      let back : LeadsTo E (get_or waiting t.at 0) (get_or waiting b 0) =
      subst (LeadsTo E (get_or waiting t.at 0)) (sym there.1) (leads_by E (get_or waiting t.at 0) k short) in
      record {
        long = s.long;
        root = s.root;
        waits = s.waits;
        of_waiting = s.of_waiting;
        turns = s.turns;
        path_up = s.path_up;
        starts_up = w.up;
        on_path = λ x among. s.on_path x (w.of_old x among).0;
        first = λ some. w.kept 0 (s.first some) (omega arith);
        leads = λ a c la lc by. elim (cases_lt a b) [
          | inl lt ↦ s.leads a c la lc (λ x among le. by x (w.kept x among (omega (arith, le, lt))) le)
          | inr past ↦ leads_on E (get_or waiting a 0) (get_or waiting t.at 0) (get_or waiting c 0) (all_lead a la)
              (leads_on E (get_or waiting t.at 0) (get_or waiting b 0) (get_or waiting c 0) back
              (s.leads b c there.0 lc (λ x among le. by x (w.kept x among le) (omega (arith, le, past)))))
        ];
        followed = λ a j lt less f. elim (s.followed a j lt less f) [
          | inl told' ↦ inl told'
          | inr old ↦ inr (old.0, old.1, λ x among le. old.2 x (w.of_old x among).0 le)
        ];
        together = s.together;
        down = s.down;
        below = s.below;
        few = s.few;
      }

  -- all edges of the last node were followed, and it began no component
  pub leave_inner : t.left ≡ 0 → ((x : ℕ) → Contains starts x → x ≢ t.at) → Telling E front waiting starts marks told
  leave_inner none apart = record {
    long = s.long;
    root = s.root;
    waits = s.waits;
    of_waiting = s.of_waiting;
    turns = λ v among. s.turns v (Contains-append_left front (t ∷ []) v among);
    path_up = parted.0;
    starts_up = s.starts_up;
    on_path = λ x among.
        let w = s.on_path x among in
        elim (Contains-push_cases front t w.0 w.1) [
          | inl old ↦ (w.0, old, w.2)
          | inr e ↦ absurd (apart x among (sym w.2 ∙ sym (ap (λ v. v.at) e)))
        ];
    first = s.first;
    leads = s.leads;
    followed = λ a k lt short f. s.followed a k lt short (λ v among is. elim (Contains-push_cases front t v among) as (λ _. v.left ≤ k) [
      | inl old ↦ f v old is
      | inr e ↦ omega (arith, none, ap (λ v. v.left) e)
    ]);
    together = s.together;
    down = s.down;
    below = s.below;
    few = s.few;
  }

  pub less_turns : work_left front marks < work_left (front ++ t ∷ []) marks
  less_turns = omega (arith, sum_by_push (λ v. v.left + 1) front t)

  pub starts_apart : (before : List ℕ) (z : ℕ) → starts ≡ before ++ z ∷ [] → z ≢ t.at → (x : ℕ) → Contains starts x → x ≢ t.at
  starts_apart before z e ne x among is =
      let up = front_pairs (λ a b. a < b) before z (subst (AllPairs (λ a b. a < b)) e s.starts_up) in
      let most = starts_most z (subst (λ l. Contains l z) (sym e) (Contains-push before z)) in
      elim (Contains-push_cases before z x (subst (λ l. Contains l x) e among)) as (λ _. ⊥) [
        | inl old ↦ omega (arith, up.1 x old, most, is)
        | inr same ↦ ne (same ∙ is)
      ]

  -- an edge leads to a new node
  module _ (u : Turn) (at : u.at ≡ t.at) (less : u.left + 1 ≡ t.left) (n : ℕ)
      (is : n ≡ (edge_at E (get_or waiting t.at 0) u.left).next) (inside : n < length marks) (new : mark_at marks n ≡ New) where
    here : mark_at (set marks n (Waiting (length waiting))) n ≡ Waiting (length waiting)
    here = get_or-set_same marks n (Waiting (length waiting)) New inside

    other : (i : ℕ) → i ≢ n → mark_at (set marks n (Waiting (length waiting))) i ≡ mark_at marks i
    other i ne = rw get_or-set_other refl

    known : (i : ℕ) → (mark_at marks i ≡ New → ⊥) → mark_at (set marks n (Waiting (length waiting))) i ≡ mark_at marks i
    known i met = other i (λ e. met (subst (λ x. mark_at marks x ≡ New) (sym e) new))

    was_told : (i m : ℕ) → mark_at (set marks n (Waiting (length waiting))) i ≡ Told m → mark_at marks i ≡ Told m
    was_told i m e = elim (cases_eq i n) as (λ _. mark_at marks i ≡ Told m) [
      | inl same ↦ absurd (waits_told _ (length waiting) m (subst (λ x. mark_at (set marks n (Waiting (length waiting))) x ≡ Waiting (length waiting)) (sym same) here) e)
      | inr ne ↦ sym (other i ne) ∙ e
    ]

    stays_told : (i m : ℕ) → mark_at marks i ≡ Told m → mark_at (set marks n (Waiting (length waiting))) i ≡ Told m
    stays_told i m e = known i (λ f. new_told _ m f e) ∙ e

    stays_waiting : (i a : ℕ) → mark_at marks i ≡ Waiting a → mark_at (set marks n (Waiting (length waiting))) i ≡ Waiting a
    stays_waiting i a e = known i (λ f. new_waits _ a f e) ∙ e

    at_old : (a : ℕ) → a < length waiting → get_or (waiting ++ n ∷ []) a 0 ≡ get_or waiting a 0
    at_old a lt = get_or_append_left waiting (n ∷ []) 0 a lt

    at_new : get_or (waiting ++ n ∷ []) (length waiting) 0 ≡ n
    at_new = get_or_push waiting n 0 (length waiting) refl

    old_or_last : (a : ℕ) → a < length (waiting ++ n ∷ []) → (a < length waiting) ⊎ (a ≡ length waiting)
    old_or_last a lt = elim (cases_lt a (length waiting)) [ inl old ↦ inl old | inr le ↦ inr (omega (arith, lt, le, length_push waiting n)) ]

    to_new : (a : ℕ) → a < length waiting → LeadsTo E (get_or waiting a 0) n
    to_new a lt =
        leads_on E (get_or waiting a 0) (get_or waiting t.at 0) n (all_lead a lt)
        (subst (LeadsTo E (get_or waiting t.at 0)) (sym is) (leads_by E (get_or waiting t.at 0) u.left (edge_inside u at less)))

    pub enter_edge : (g : Turn) → g ≡ record { at = length waiting; left = length (edges_at E n) }
        → Telling E ((front ++ u ∷ []) ++ g ∷ []) (waiting ++ n ∷ []) (starts ++ length waiting ∷ [])
        (set marks n (Waiting (length waiting))) told
    enter_edge g ge = record {
      long = length-set marks n (Waiting (length waiting)) ∙ s.long;
      root = λ e. elim (cases_eq 0 n) as (λ _. ⊥) [
        | inl same ↦ new_waits _ (length waiting) e (subst (λ x. mark_at (set marks n (Waiting (length waiting))) x ≡ Waiting (length waiting)) (sym same) here)
        | inr ne ↦ s.root (sym (other 0 ne) ∙ e)
      ];
      waits = λ a lt. elim (old_or_last a lt) [
        | inl old ↦ rw (at_old a old) (stays_waiting (get_or waiting a 0) a (s.waits a old))
        | inr last ↦ rw (last, at_new) here
      ];
      of_waiting = λ i a e. elim (cases_eq i n) [
        | inl same ↦
            let e' : length waiting ≡ a = one_place _ (length waiting) a here (subst (λ x. mark_at (set marks n (Waiting (length waiting))) x ≡ Waiting a) same e) in
            (omega (arith, e', length_push waiting n), subst (λ x. get_or (waiting ++ n ∷ []) x 0 ≡ i) e' (at_new ∙ sym same))
        | inr ne ↦
            let w = s.of_waiting i a (sym (other i ne) ∙ e) in
            (omega (arith, w.0, length_push waiting n), at_old a w.0 ∙ w.1)
      ];
      turns = λ v among. elim (Contains-push_cases (front ++ u ∷ []) g v among) [
        | inl old ↦
            let w = turns_now u at less v old in
            (omega (arith, w.0, length_push waiting n), subst (λ x. v.left ≤ length (edges_at E x)) (sym (at_old v.at w.0)) w.1)
        | inr e ↦ last_turn v (sym e ∙ ge)
      ];
      path_up = push_pairs (λ v w. v.at < w.at) (front ++ u ∷ []) g (up_to u at less)
          (λ v among. let w = turns_now u at less v among in omega (arith, w.0, ap (λ x. x.at) ge));
      starts_up = push_pairs (λ a b. a < b) starts (length waiting) s.starts_up
          (λ x among. let w = on_now u at less x among in let t' = turns_now u at less w.0 w.1 in omega (arith, t'.0, w.2));
      on_path = λ x among. elim (Contains-push_cases starts (length waiting) x among) [
        | inl old ↦
            let w = on_now u at less x old in
            (w.0, Contains-append_left (front ++ u ∷ []) (g ∷ []) w.0 w.1, w.2)
        | inr e ↦ (g, Contains-push (front ++ u ∷ []) g, ap (λ x. x.at) ge ∙ e)
      ];
      first = λ some. Contains-append_left starts (length waiting ∷ []) 0 (s.first (omega (arith, turn_inside)));
      leads = λ a b la lb by. elim (old_or_last a la) [
        | inl old ↦ elim (old_or_last b lb) [
          | inl old' ↦ rw (at_old a old, at_old b old') (s.leads a b old old' (λ x among le. by x (Contains-append_left starts (length waiting ∷ []) x among) le))
          | inr last ↦ rw (at_old a old, last, at_new) (to_new a old)
        ]
        | inr last ↦ elim (old_or_last b lb) [
          | inl old' ↦ absurd (let le = by (length waiting) (Contains-push starts (length waiting)) (omega (arith, last)) in omega (arith, le, old'))
          | inr last' ↦ rw (last, last', at_new) ([], refl)
        ]
      ];
      followed = λ a k la short f. elim (old_or_last a la) [
        | inl old ↦
            rw (at_old a old) (still a k old (subst (λ x. k < length (edges_at E x)) (at_old a old) short)
            (was_followed u at less ((front ++ u ∷ []) ++ g ∷ [])
            (λ v among. Contains-append_left (front ++ u ∷ []) (g ∷ []) v (Contains-append_left front (u ∷ []) v among))
            (Contains-append_left (front ++ u ∷ []) (g ∷ []) u (Contains-push front u)) a k f))
        | inr last ↦
            let short' = subst (λ x. k < length (edges_at E x)) (ap (λ x. get_or (waiting ++ n ∷ []) x 0) last ∙ at_new) short in
            let le = f g (Contains-push (front ++ u ∷ []) g) (ap (λ x. x.at) ge ∙ sym last) in
            absurd (omega (arith, short', le, ap (λ x. x.left) ge))
      ];
      together = λ i j m ei ej. s.together i j m (was_told i m ei) (was_told j m ej);
      down = λ i m e ei among. let w = s.down i m e (was_told i m ei) among in (w.0, stays_told e.next w.0 w.1, w.2);
      below = λ i m e. s.below i m (was_told i m e);
      few =
          let count = sum_by-set (λ v. cond (is_told v) 1 0) marks n (Waiting (length waiting)) New inside in
          let count' = rw new at count in
          omega (arith, count', s.few);
    }
      where
        last_turn : (v : Turn) → v ≡ record { at = length waiting; left = length (edges_at E n) }
            → (v.at < length (waiting ++ n ∷ [])) × (v.left ≤ length (edges_at E (get_or (waiting ++ n ∷ []) v.at 0)))
        last_turn v e =
            let place : get_or (waiting ++ n ∷ []) v.at 0 ≡ n = ap (λ x. get_or (waiting ++ n ∷ []) x.at 0) e ∙ at_new in (
              omega (arith, ap (λ x. x.at) e, length_push waiting n),
              subst (λ x. v.left ≤ length (edges_at E x)) (sym place) (omega (arith, ap (λ x. x.left) e)),
            )

        still : (a k : ℕ) → a < length waiting → k < length (edges_at E (get_or waiting a 0))
            → ((a ≡ t.at) × (k ≡ u.left)) ⊎ IsFollowed (front ++ t ∷ []) a k
            → IsSettled (starts ++ length waiting ∷ []) (set marks n (Waiting (length waiting))) a (edge_at E (get_or waiting a 0) k).next
        still a k old short w = elim w [
          | inl p ↦
              let next : (edge_at E (get_or waiting a 0) k).next ≡ n =
              ap (λ x. (edge_at E (get_or waiting x 0) k).next) p.0 ∙ ap (λ x. (edge_at E (get_or waiting t.at 0) x).next) p.1 ∙ sym is in
              inr (
                length waiting,
                subst (λ x. mark_at (set marks n (Waiting (length waiting))) x ≡ Waiting (length waiting)) (sym next) here,
                λ x among le. omega (arith, le, old),
              )
          | inr f ↦ elim (s.followed a k old short f) [
            | inl q ↦ inl (q.0, stays_told (edge_at E (get_or waiting a 0) k).next q.0 q.1)
            | inr q ↦ inr (
              q.0,
              stays_waiting (edge_at E (get_or waiting a 0) k).next q.0 q.1,
              λ x among le. elim (Contains-push_cases starts (length waiting) x among) as (λ _. x ≤ q.0) [
                | inl among' ↦ q.2 x among' le
                | inr e ↦ absurd (omega (arith, e, le, old))
              ],
            )
          ]
        ]

    pub enter_less : (g : Turn) → g.left ≡ length (edges_at E n) → length (edges_at E n) < 2 ^ 64
        → work_left ((front ++ u ∷ []) ++ g ∷ []) (set marks n (Waiting (length waiting))) < work_left (front ++ t ∷ []) marks
    enter_less g whole fits =
        let count = sum_by-set (λ v. cond (is_new v) 1 0) marks n (Waiting (length waiting)) New inside in
        let count' = rw new at count in
        omega (
          arith,
          count',
          fits,
          whole,
          less,
          sum_by_push (λ v. v.left + 1) front t,
          sum_by_push (λ v. v.left + 1) front u,
          sum_by_push (λ v. v.left + 1) (front ++ u ∷ []) g,
        )

  -- all edges of the last node were followed, and it began the last component so far: that one is told
  module _ (before : List ℕ) (ends : starts ≡ before ++ t.at ∷ []) (none : t.left ≡ 0) (still : List ℕ) (after : List Mark)
      (w : TellsFrom waiting marks t.at told still after) where
    unchanged : (i : ℕ) → ((a : ℕ) → t.at ≤ a → mark_at marks i ≡ Waiting a → ⊥) → mark_at after i ≡ mark_at marks i
    unchanged i apart = w.others i (λ a le lt e. apart a le (subst (λ x. mark_at marks x ≡ Waiting a) e (s.waits a lt)))

    member : (i a : ℕ) → t.at ≤ a → mark_at marks i ≡ Waiting a → mark_at after i ≡ Told told
    member i a le e = let p = s.of_waiting i a e in subst (λ x. mark_at after x ≡ Told told) p.1 (w.members a le p.0)

    sorted_out : (i : ℕ) (m : Mark) → mark_at marks i ≡ m
        → (mark_at after i ≡ mark_at marks i) ⊎ ((a : ℕ) × (t.at ≤ a) × (mark_at marks i ≡ Waiting a) × (mark_at after i ≡ Told told))
    sorted_out i New e = inl (unchanged i (λ a le f. new_waits _ a e f))
    sorted_out i (Told n) e = inl (unchanged i (λ a le f. waits_told _ a n f e))
    sorted_out i (Waiting a) e = elim (cases_lt a t.at) [
      | inl lt ↦ inl (unchanged i (λ b le f. omega (arith, lt, le, one_place _ a b e f)))
      | inr le ↦ inr (a, le, e, member i a le e)
    ]

    keeps_told : (i n : ℕ) → mark_at marks i ≡ Told n → mark_at after i ≡ Told n
    keeps_told i n e = unchanged i (λ a le f. waits_told _ a n f e) ∙ e

    keeps_waiting : (i a : ℕ) → a < t.at → mark_at marks i ≡ Waiting a → mark_at after i ≡ Waiting a
    keeps_waiting i a lt e = unchanged i (λ b le f. omega (arith, lt, le, one_place _ a b e f)) ∙ e

    at_front : (a : ℕ) → a < t.at → get_or still a 0 ≡ get_or waiting a 0
    at_front a lt = w.front a lt

    front_long : length still ≡ t.at
    front_long = w.count

    starts_before : AllPairs (λ a b. a < b) before × ((x : ℕ) → Contains before x → x < t.at)
    starts_before = front_pairs (λ a b. a < b) before t.at (subst (AllPairs (λ a b. a < b)) ends s.starts_up)

    in_starts : (x : ℕ) → Contains before x → Contains starts x
    in_starts x among = subst (λ l. Contains l x) (sym ends) (Contains-append_left before (t.at ∷ []) x among)

    last_start : Contains starts t.at
    last_start = subst (λ l. Contains l t.at) (sym ends) (Contains-push before t.at)

    before_or_last : (x : ℕ) → Contains starts x → Contains before x ⊎ (t.at ≡ x)
    before_or_last x among = Contains-push_cases before t.at x (subst (λ l. Contains l x) ends among)

    -- at and behind the last start all edges were followed
    all_followed : (a k : ℕ) → t.at ≤ a → IsFollowed (front ++ t ∷ []) a k
    all_followed a k le v among is = elim (Contains-push_cases front t v among) as (λ _. v.left ≤ k) [
      | inl old ↦ absurd (omega (arith, parted.1 v old, is, le))
      | inr e ↦ omega (arith, none, ap (λ x. x.left) e)
    ]

    pub tell_last : Telling E front still before after (told + 1)
    tell_last = record {
      long = w.long ∙ s.long;
      root = λ e. elim (sorted_out 0 (mark_at marks 0) refl) as (λ _. ⊥) [
        | inl same ↦ s.root (sym same ∙ e)
        | inr p ↦ new_told _ told e p.3
      ];
      waits = λ a lt.
          let lt' : a < t.at = omega (arith, lt, front_long) in
          rw (at_front a lt') (keeps_waiting (get_or waiting a 0) a lt' (s.waits a (omega (arith, lt', turn_inside))));
      of_waiting = λ i a e. elim (sorted_out i (mark_at marks i) refl) [
        | inl same ↦
            let p = s.of_waiting i a (sym same ∙ e) in
            elim (cases_lt a t.at) [
              | inl lt ↦ (omega (arith, lt, front_long), at_front a lt ∙ p.1)
              | inr le ↦ absurd (waits_told _ a told e (member i a le (sym same ∙ e)))
            ]
        | inr p ↦ absurd (waits_told _ a told e p.3)
      ];
      turns = λ v among.
          let p = s.turns v (Contains-append_left front (t ∷ []) v among) in
          let lt = parted.1 v among in
          (omega (arith, lt, front_long), subst (λ x. v.left ≤ length (edges_at E x)) (sym (at_front v.at lt)) p.1);
      path_up = parted.0;
      starts_up = starts_before.0;
      on_path = λ x among.
          let p = s.on_path x (in_starts x among) in
          elim (Contains-push_cases front t p.0 p.1) [
            | inl old ↦ (p.0, old, p.2)
            | inr e ↦ absurd (omega (arith, starts_before.1 x among, p.2, ap (λ v. v.at) e))
          ];
      first = λ some. elim (before_or_last 0 (s.first (omega (arith, turn_inside)))) [
        | inl old ↦ old
        | inr e ↦ absurd (omega (arith, some, front_long, e))
      ];
      leads = λ a b la lb by.
          let la' : a < t.at = omega (arith, la, front_long) in
          let lb' : b < t.at = omega (arith, lb, front_long) in
          rw (at_front a la', at_front b lb')
          (s.leads a b (omega (arith, la', turn_inside)) (omega (arith, lb', turn_inside)) (λ x among le. elim (before_or_last x among) as (λ _. x ≤ b) [
            | inl old ↦ by x old le
            | inr e ↦ absurd (omega (arith, e, le, la'))
          ]));
      followed = λ a k la short f.
          let la' : a < t.at = omega (arith, la, front_long) in
          rw (at_front a la') (still_settled a (edge_at E (get_or waiting a 0) k).next
          (s.followed a k (omega (arith, la', turn_inside)) (subst (λ x. k < length (edges_at E x)) (at_front a la') short)
          (λ v among is. elim (Contains-push_cases front t v among) as (λ _. v.left ≤ k) [
            | inl old ↦ f v old is
            | inr e ↦ absurd (omega (arith, la', is, ap (λ x. x.at) e))
          ])));
      together = λ i j n ei ej. elim (sorted_out i (mark_at marks i) refl) [
        | inl same ↦ elim (sorted_out j (mark_at marks j) refl) [
          | inl same' ↦ s.together i j n (sym same ∙ ei) (sym same' ∙ ej)
          | inr q ↦ absurd (omega (arith, s.below i n (sym same ∙ ei), one_number _ n told ej q.3))
        ]
        | inr p ↦ elim (sorted_out j (mark_at marks j) refl) [
          | inl same' ↦ absurd (omega (arith, s.below j n (sym same' ∙ ej), one_number _ n told ei p.3))
          | inr q ↦
              let x = s.of_waiting i p.0 p.2 in
              let y = s.of_waiting j q.0 q.2 in
              subst (λ a. LeadsTo E a j) x.1 (subst (LeadsTo E (get_or waiting p.0 0)) y.1
              (s.leads p.0 q.0 x.0 y.0 (λ z among le. omega (arith, starts_most z among, q.1))))
        ]
      ];
      down = λ i n e ei among. elim (sorted_out i (mark_at marks i) refl) [
        | inl same ↦
            let d = s.down i n e (sym same ∙ ei) among in
            (d.0, keeps_told e.next d.0 d.1, d.2)
        | inr p ↦
            let x = s.of_waiting i p.0 p.2 in
            let number = one_number _ n told ei p.3 in
            let among' = subst (λ j. IsEdgeAt E j e) (sym x.1) among in
            let is : edge_at E (get_or waiting p.0 0) among'.0 ≡ e =
            get_or_default (edges_at E (get_or waiting p.0 0)) among'.0 no_edge e among'.1 ∙ among'.2 in
            let settled = s.followed p.0 among'.0 x.0 among'.1 (all_followed p.0 among'.0 p.1) in
            told_next e.next n number p.0 p.1 (subst (λ y. IsSettled starts marks p.0 y.next) is settled)
      ];
      below = λ i n e. elim (sorted_out i (mark_at marks i) refl) as (λ _. n < told + 1) [
        | inl same ↦ omega (arith, s.below i n (sym same ∙ e))
        | inr p ↦ omega (arith, one_number _ n told e p.3)
      ];
      few = omega (arith, w.more, s.few, turn_inside);
    }
      where
        still_settled : (a i : ℕ) → IsSettled starts marks a i → IsSettled before after a i
        still_settled a i settled = elim settled [
          | inl q ↦ inl (q.0, keeps_told i q.0 q.1)
          | inr q ↦ elim (cases_lt q.0 t.at) [
            | inl lt ↦ inr (q.0, keeps_waiting i q.0 lt q.1, λ x among le. q.2 x (in_starts x among) le)
            | inr le ↦ inl (told, member i q.0 le q.1)
          ]
        ]

        told_next : (i n : ℕ) → n ≡ told → (a : ℕ) → t.at ≤ a → IsSettled starts marks a i
            → (m : ℕ) × (mark_at after i ≡ Told m) × (m ≤ n)
        told_next i n e a le settled = elim settled [
          | inl q ↦ (q.0, keeps_told i q.0 q.1, omega (arith, s.below i q.0 q.1, e))
          | inr q ↦ (told, member i q.0 (q.2 t.at last_start le) q.1, omega (arith, e))
        ]

    pub tell_less : work_left front after < work_left (front ++ t ∷ []) marks
    tell_less = omega (arith, w.met, sum_by_push (λ v. v.left + 1) front t)

-- before any is told
pub telling_start : (waiting : List ℕ) (marks : List Mark) (number : ℕ) → TellsFrom waiting marks (length waiting) number waiting marks
telling_start waiting marks number = record {
  count = refl;
  front = λ a lt. refl;
  long = refl;
  members = λ a le lt. absurd (omega (arith, le, lt));
  others = λ i apart. refl;
  met = refl;
  more = refl;
}

-- the last that waits is told
module _ (waiting : List ℕ) (marks : List Mark) (number : ℕ) (before : List ℕ) (m : ℕ) (now : List Mark)
    (waits : (a : ℕ) → a < length waiting → mark_at marks (get_or waiting a 0) ≡ Waiting a) (at : ℕ) (most : at ≤ length waiting)
    (w : TellsFrom waiting marks at number (before ++ m ∷ []) now) where
  last : at ≡ length before + 1
  last = omega (arith, w.count, length_push before m)

  is_last : get_or waiting (length before) 0 ≡ m
  is_last = sym (w.front (length before) (omega (arith, last))) ∙ get_or_push before m 0 (length before) refl

  still_waits : mark_at now m ≡ Waiting (length before)
  still_waits =
      let was = subst (λ x. mark_at marks x ≡ Waiting (length before)) is_last (waits (length before) (omega (arith, last, most))) in
      w.others m (λ a le lt e. let is = subst (λ x. mark_at marks x ≡ Waiting a) e (waits a lt) in omega (arith, le, last, one_place _ a (length before) is was))
      ∙ was

  pub member_inside : m < length now
  member_inside = marked_inside now m (λ e. new_waits _ (length before) e still_waits)

  told_here : mark_at (set now m (Told number)) m ≡ Told number
  told_here = get_or-set_same now m (Told number) New member_inside

  told_other : (i : ℕ) → i ≢ m → mark_at (set now m (Told number)) i ≡ mark_at now i
  told_other i ne = rw get_or-set_other refl

  pub telling_member : TellsFrom waiting marks (length before) number before (set now m (Told number))
  telling_member = record {
    count = refl;
    front = λ a lt. sym (get_or_append_left before (m ∷ []) 0 a lt) ∙ w.front a (omega (arith, lt, last));
    long = length-set now m (Told number) ∙ w.long;
    members = λ a le lt. elim (cases_eq (get_or waiting a 0) m) [
      | inl e ↦ rw e told_here
      | inr ne ↦ told_other (get_or waiting a 0) ne ∙ w.members a (behind a le ne) lt
    ];
    others = λ i apart.
        let ne = λ (e : i ≡ m). apart (length before) (omega arith) (omega (arith, last, most)) (is_last ∙ sym e) in
        told_other i ne ∙ w.others i (λ a le lt. apart a (omega (arith, le, last)) lt);
    met =
        let count = sum_by-set (λ v. cond (is_new v) 1 0) now m (Told number) New member_inside in
        let count' = rw still_waits at count in
        omega (arith, count', w.met);
    more =
        let count = sum_by-set (λ v. cond (is_told v) 1 0) now m (Told number) New member_inside in
        let count' = rw still_waits at count in
        omega (arith, count', w.more, last);
  }
    where
      behind : (a : ℕ) → length before ≤ a → get_or waiting a 0 ≢ m → at ≤ a
      behind a le ne = elim (cases_eq a (length before)) as (λ _. at ≤ a) [
        | inl e ↦ absurd (ne (ap (λ x. get_or waiting x 0) e ∙ is_last))
        | inr apart ↦ omega (arith, le, apart, last)
      ]

-- the search that has met the first node alone
pub telling_begin : (E : List (List Edge)) (fresh marks : List Mark) (t : Turn) → 0 < length E → length fresh ≡ length E
    → ((i : ℕ) → mark_at fresh i ≡ New) → marks ≡ set fresh 0 (Waiting 0) → t ≡ record { at = 0; left = length (edges_at E 0) }
    → Telling E (t ∷ []) (0 ∷ []) (0 ∷ []) marks 0
telling_begin E fresh marks t some full new is te = record {
  long = ap length is ∙ length-set fresh 0 (Waiting 0) ∙ full;
  root = λ e. new_waits _ 0 e here;
  waits = λ a lt. let z : a ≡ 0 = omega (arith, lt) in rw (z, is) (get_or-set_same fresh 0 (Waiting 0) New (omega (arith, some, full)));
  of_waiting = λ i a e. elim (cases_eq i 0) [
    | inl z ↦
        let a0 : a ≡ 0 = one_place _ a 0 e (rw z here) in
        (omega (arith, a0), subst (λ x. get_or (0 ∷ []) x 0 ≡ i) (sym a0) (sym z))
    | inr ne ↦ absurd (new_waits _ a (other i ne) e)
  ];
  turns = λ v among. let e = only t v among ∙ te in one_turn v e;
  path_up = λ i j d lt short. absurd (omega (arith, lt, short));
  starts_up = λ i j d lt short. absurd (omega (arith, lt, short));
  on_path = λ x among. (t, (0, omega arith, refl), ap (λ v. v.at) te ∙ sym (only 0 x among));
  first = λ _. (0, omega arith, refl);
  leads = λ a b la lb by. let za : a ≡ 0 = omega (arith, la) in let zb : b ≡ 0 = omega (arith, lb) in rw (za, zb) ([], refl);
  followed = λ a k la short f.
      let z : a ≡ 0 = omega (arith, la) in
      let short' : k < length (edges_at E 0) = subst (λ x. k < length (edges_at E (get_or (0 ∷ []) x 0))) z short in
      absurd (omega (arith, short', f t (0, omega arith, refl) (ap (λ v. v.at) te ∙ sym z), ap (λ v. v.left) te));
  together = λ i j n ei ej. absurd (none_told i n ei);
  down = λ i n e ei among. absurd (none_told i n ei);
  below = λ i n e. absurd (none_told i n e);
  few = omega arith;
}
  where
    here : mark_at marks 0 ≡ Waiting 0
    here = ap (λ l. mark_at l 0) is ∙ get_or-set_same fresh 0 (Waiting 0) New (omega (arith, some, full))

    other : (i : ℕ) → i ≢ 0 → mark_at marks i ≡ New
    other i ne = rw is (rw get_or-set_other (new i))

    none_told : (i n : ℕ) → mark_at marks i ≡ Told n → ⊥
    none_told i n e = elim (cases_eq i 0) as (λ _. ⊥) [
      | inl z ↦ waits_told _ 0 n (rw z here) e
      | inr ne ↦ new_told _ n (other i ne) e
    ]

    only : {X : Type 0} (x y : X) → Contains (x ∷ []) y → y ≡ x
    only x y (k, lt, at) = sym at ∙ (let z : k ≡ 0 = omega (arith, lt) in ap (λ j. get_or (x ∷ []) j y) z)

    one_turn : (v : Turn) → v ≡ record { at = 0; left = length (edges_at E 0) }
        → (v.at < 1) × (v.left ≤ length (edges_at E (get_or (0 ∷ []) v.at 0)))
    one_turn v e =
        let z : v.at ≡ 0 = ap (λ x. x.at) e in
        (omega (arith, z), subst (λ x. v.left ≤ length (edges_at E (get_or (0 ∷ []) x 0))) (sym z) (omega (arith, ap (λ x. x.left) e)))

-- with nothing on the path all nodes are told
pub components_told : (E : List (List Edge)) (waiting starts numbers : List ℕ) (marks : List Mark) (told : ℕ) → IsRooted E
    → Telling E [] waiting starts marks told → length numbers ≡ length marks
    → ((i n : ℕ) → mark_at marks i ≡ Told n → get_or numbers i 0 ≡ n) → AreComponents E numbers
components_told E waiting starts numbers marks told r s full are = record {
  long = full ∙ s.long;
  together = λ i j li lj e.
      let w = number_of i li in
      let v = number_of j lj in
      s.together i j w.0 w.1 (v.1 ∙ ap Told (sym (are j v.0 v.1) ∙ sym e ∙ are i w.0 w.1));
  down = λ i e li among.
      let w = number_of i li in
      let d = s.down i w.0 e w.1 among in
      omega (arith, are i w.0 w.1, are e.next d.0 d.1, d.2);
}
  where
    none : length waiting ≡ 0
    none = elim (cases_lt 0 (length waiting)) as (λ _. length waiting ≡ 0) [
      | inl some ↦ let w = s.on_path 0 (s.first some) in absurd (omega (arith, w.1.1))
      | inr le ↦ omega (arith, le)
    ]

    root : (m : Mark) → mark_at marks 0 ≡ m → (n : ℕ) × (mark_at marks 0 ≡ Told n)
    root New e = absurd (s.root e)
    root (Waiting a) e = absurd (omega (arith, (s.of_waiting 0 a e).0, none))
    root (Told n) e = (n, e)

    along : (i j : ℕ) (es : List Edge) → (n : ℕ) × (mark_at marks i ≡ Told n) → Follows E i es j → (n : ℕ) × (mark_at marks j ≡ Told n)
    along i j [] w f = subst (λ x. (n : ℕ) × (mark_at marks x ≡ Told n)) f w
    along i j (e ∷ es) w f = let d = s.down i w.0 e w.1 f.0 in along e.next j es (d.0, d.1) f.1

    number_of : (i : ℕ) → i < length E → (n : ℕ) × (mark_at marks i ≡ Told n)
    number_of i lt = let w = r.reached i lt in along 0 i w.0 (root (mark_at marks 0) refl) w.1
