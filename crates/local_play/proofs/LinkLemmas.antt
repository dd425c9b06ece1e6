-- The links of a region as sets, and floods along them.
use Rattle.std.proofs.Common.{◌≡◌, ℕ, ◌+◌, ◌<◌, ◌≤◌, ◌⊎◌, ◌↔◌, inl, inr, arith, refl, sym, ap, ◌∙◌, List, length, get_or, set, replicate, Option, Some, None, subst}
use Rattle.std.proofs.lemmas.Bool.{cases_eq, cases_lt}
use Rattle.std.proofs.lemmas.List.{get_or_past, get_or-replicate, get_or-set_other, get_or-set_same, length-replicate, length-set}
use Rattle.go_grid.specs.declared.grid.Cell.{Cell}
use Rattle.go_grid.specs.declared.grid.Colour.TheVariants as colour
use Rattle.go_grid.specs.declared.region.Touch.{Touch}
use Rattle.go_grid.specs.Region.{nothing_near, touch_at, IsRegion}
use Rattle.go_grid.specs.Path.{HasPath}
use Rattle.go_grid.proofs.LinkLemmas.{link_at, linked_to, same_point}
use Rattle.go_grid.proofs.PathLemmas.{carried, leads_here, leads_step}
use Rattle.local_play.specs.LocalPlay.{IsBeside, IsLinked}
use Rattle.local_play.specs.declared.places.Places.{Places}
use Rattle.local_play.specs.declared.links.Links.{Links}
use Rattle.local_play.specs.Places.{Has}
use Rattle.local_play.specs.Links.{LinksWithin, IsTable, IsTableBelow, near_at}
use Rattle.local_play.specs.inner.Links.{IsLinkOf, IsReached}
use Rattle.local_play.proofs.BitLemmas.{has_or_not}

-- a place with a link is a place of the region
pub linked_place : (touch : List Touch) (p q : ℕ) → IsLinked touch p q → p < length touch
linked_place touch p q link = elim (cases_lt p (length touch)) as (λ _. p < length touch) [
  | inl lt ↦ lt
  | inr le ↦ absurd (elim link [
    | inl e ↦ no_link _ q (ap (λ t. t.up) (get_or_past touch p nothing_near le)) e
    | inr (inl e) ↦ no_link _ q (ap (λ t. t.left) (get_or_past touch p nothing_near le)) e
    | inr (inr (inl e)) ↦ no_link _ q (ap (λ t. t.right) (get_or_past touch p nothing_near le)) e
    | inr (inr (inr e)) ↦ no_link _ q (ap (λ t. t.down) (get_or_past touch p nothing_near le)) e
  ])
]
  where
    no_link : (o : Option ℕ) (q : ℕ) → o ≡ None → o ≡ Some q → ⊥
    no_link o q none some = cc

-- the links of a region lead to other places of it, and back
pub links_within : (columns rows : ℕ) (points : List ℕ) (cells : List Cell) (touch : List Touch)
    → IsRegion columns rows points cells touch → length points ≤ 32 → LinksWithin touch
links_within columns rows points cells touch r few = record {
  few = omega (arith, r.beside);
  inside = λ i j link. omega (arith, r.beside, inside i j link);
  apart = λ i link.
      let links = r.links i (here i i link) in
      elim link [
        | inl e ↦ let w = link_at points _ (touch_at touch i).up i links.up e in absurd (omega (arith, w.1.0))
        | inr (inl e) ↦ let w = link_at points _ (touch_at touch i).left i links.left e in absurd (omega (arith, w.1.1))
        | inr (inr (inl e)) ↦ let w = link_at points _ (touch_at touch i).right i links.right e in absurd (omega (arith, w.1.1))
        | inr (inr (inr e)) ↦ let w = link_at points _ (touch_at touch i).down i links.down e in absurd (omega (arith, w.1.0))
      ];
  back = λ i j link.
      let links = r.links i (here i j link) in
      let those = r.links j (inside i j link) in
      let lt = here i j link in
      elim link [
        | inl e ↦
            let w = link_at points _ (touch_at touch i).up j links.up e in
            inr (inr (inr (linked_to points _ (touch_at touch j).down i r.ascending those.down (λ q s a b. same_point columns q s (sym a.0 ∙ b.0) (sym a.1 ∙ b.1)) lt w.1)))
        | inr (inl e) ↦
            let w = link_at points _ (touch_at touch i).left j links.left e in
            inr (inr (inl (linked_to points _ (touch_at touch j).right i r.ascending those.right (λ q s a b. same_point columns q s (sym a.0 ∙ b.0) (sym a.1 ∙ b.1)) lt w.1)))
        | inr (inr (inl e)) ↦
            let w = link_at points _ (touch_at touch i).right j links.right e in
            inr (inl (linked_to points _ (touch_at touch j).left i r.ascending those.left (λ q s a b. same_point columns q s (a.0 ∙ sym b.0) (omega (arith, a.1, b.1))) lt w.1))
        | inr (inr (inr e)) ↦
            let w = link_at points _ (touch_at touch i).down j links.down e in
            inl (linked_to points _ (touch_at touch j).up i r.ascending those.up (λ q s a b. same_point columns q s (omega (arith, a.0, b.0)) (a.1 ∙ sym b.1)) lt w.1)
      ];
}
  where
    here : (i j : ℕ) → IsLinked touch i j → i < length points
    here i j link = omega (arith, linked_place touch i j link, r.beside)

    inside : (i j : ℕ) → IsLinked touch i j → j < length points
    inside i j link =
        let links = r.links i (here i j link) in
        elim link [
          | inl e ↦ (link_at points _ (touch_at touch i).up j links.up e).0
          | inr (inl e) ↦ (link_at points _ (touch_at touch i).left j links.left e).0
          | inr (inr (inl e)) ↦ (link_at points _ (touch_at touch i).right j links.right e).0
          | inr (inr (inr e)) ↦ (link_at points _ (touch_at touch i).down j links.down e).0
        ]

-- no place yet
pub table_start : (touch : List Touch) (links : Links) (none : Places) → ((q : ℕ) → ¬ Has none q)
    → links.near ≡ replicate 32 none → ((q : ℕ) → ¬ Has links.all q) → ((q : ℕ) → ¬ Has links.black q) → ((q : ℕ) → ¬ Has links.white q)
    → IsTableBelow touch links 0
table_start touch links none empty is all black white = record {
  long = ap length is ∙ length-replicate 32 none;
  near = λ i j lt. (
    λ h. absurd (empty j (subst (λ x. Has x j) (ap (λ l. get_or l i (record { 0 = 0 })) is ∙ get_or-replicate 32 i none (record { 0 = 0 }) lt) h)),
    λ w. absurd (omega (arith, w.0)),
  );
  all = λ i. (λ h. absurd (all i h), λ lt. absurd (omega (arith, lt)));
  black = λ i. (λ h. absurd (black i h), λ w. absurd (omega (arith, w.0)));
  white = λ i. (λ h. absurd (white i h), λ w. absurd (omega (arith, w.0)));
}

-- the places below `n` of `P`, and `n` where it is one
one_more : (P : ℕ → Type 0) (n : ℕ) (before after : Places) (Here : Type 0) → ((q : ℕ) → Has before q ↔ ((q < n) × P q))
    → ((q : ℕ) → Has after q ↔ (Has before q ⊎ ((q ≡ n) × Here))) → (Here → P n) → (P n → Here) → (q : ℕ) → Has after q ↔ ((q < n + 1) × P q)
one_more P n before after Here old new there back q = (
  λ h. elim ((new q).0 h) [
    | inl was ↦ let w = (old q).0 was in (omega (arith, w.0), w.1)
    | inr w ↦ (omega (arith, w.0), subst P (sym w.0) (there w.1))
  ],
  λ w. elim (cases_eq q n) [
    | inl e ↦ (new q).1 (inr (e, back (subst P e w.1)))
    | inr ne ↦ (new q).1 (inl ((old q).1 (omega (arith, w.0), w.1)))
  ],
)

-- what a flood found, with the links of the `done` places followed
pub record Flooding (touch : List Touch) (seeds within places done near : Places) : Type 0 where
  pub from : (q : ℕ) → Has places q → (p : ℕ) × Has seeds p × HasPath (IsLinked touch) (Has within) p q
  pub first : (q : ℕ) → Has seeds q → Has places q
  pub followed : (q : ℕ) → Has done q → Has places q
  pub closed : (p q : ℕ) → Has done p → IsLinked touch p q → Has within q → Has places q
  pub beside : (q : ℕ) → Has near q ↔ ((p : ℕ) × Has done p × IsLinked touch p q)

pub flood_start : (touch : List Touch) (seeds within done near : Places) → ((q : ℕ) → Has seeds q → Has within q)
    → ((q : ℕ) → ¬ Has done q) → ((q : ℕ) → ¬ Has near q) → Flooding touch seeds within seeds done near
flood_start touch seeds within done near inside none nothing = record {
  from = λ q h. (q, h, leads_here (IsLinked touch) (Has within) q (inside q h));
  first = λ q h. h;
  followed = λ q h. absurd (none q h);
  closed = λ p q h. absurd (none p h);
  beside = λ q. (λ h. absurd (nothing q h), λ w. absurd (none w.0 w.1));
}

pub flood_step : (touch : List Touch) (links : Links) (seeds within places done near rest one row new places' done' near' : Places) (p : ℕ)
    → IsTable touch links → p < 32 → ((q : ℕ) → Has rest q ↔ (Has places q × ¬ Has done q)) → Has rest p → row ≡ near_at links p
    → ((q : ℕ) → Has one q ↔ (q ≡ p)) → ((q : ℕ) → Has done' q ↔ (Has done q ⊎ Has one q))
    → ((q : ℕ) → Has near' q ↔ (Has near q ⊎ Has row q)) → ((q : ℕ) → Has new q ↔ (Has row q × Has within q))
    → ((q : ℕ) → Has places' q ↔ (Has places q ⊎ Has new q))
    → Flooding touch seeds within places done near → Flooding touch seeds within places' done' near'
flood_step touch links seeds within places done near rest one row new places' done' near' p table small is_rest here is_row is_one is_done is_near is_new is_places s =
    record {
      from = λ q h. elim ((is_places q).0 h) [
        | inl old ↦ s.from q old
        | inr more ↦
            let w = (is_new q).0 more in
            let was = s.from p ((is_rest p).0 here).0 in
            (was.0, was.1, leads_step (IsLinked touch) (Has within) was.0 p q was.2 (linked q w.0) w.1)
      ];
      first = λ q h. (is_places q).1 (inl (s.first q h));
      followed = λ q h. elim ((is_done q).0 h) [
        | inl old ↦ (is_places q).1 (inl (s.followed q old))
        | inr this ↦ (is_places q).1 (inl (subst (Has places) (sym ((is_one q).0 this)) ((is_rest p).0 here).0))
      ];
      closed = λ x q h link inside. elim ((is_done x).0 h) [
        | inl old ↦ (is_places q).1 (inl (s.closed x q old link inside))
        | inr this ↦ (is_places q).1 (inr ((is_new q).1 (row_has q (subst (λ y. IsLinked touch y q) ((is_one x).0 this) link), inside)))
      ];
      beside = λ q. (
        λ h. elim ((is_near q).0 h) [
          | inl old ↦ let w = (s.beside q).0 old in (w.0, (is_done w.0).1 (inl w.1), w.2)
          | inr this ↦ (p, (is_done p).1 (inr ((is_one p).1 refl)), linked q this)
        ],
        λ w. elim ((is_done w.0).0 w.1) [
          | inl old ↦ (is_near q).1 (inl ((s.beside q).1 (w.0, old, w.2)))
          | inr this ↦ (is_near q).1 (inr (row_has q (subst (λ y. IsLinked touch y q) ((is_one w.0).0 this) w.2)))
        ],
      );
    }
  where
    linked : (q : ℕ) → Has row q → IsLinked touch p q
    linked q h = ((table.table.near p q small).0 (subst (λ x. Has x q) is_row h)).1

    row_has : (q : ℕ) → IsLinked touch p q → Has row q
    row_has q link = subst (λ x. Has x q) (sym is_row) ((table.table.near p q small).1 (linked_place touch p q link, link))

pub flood_end : (touch : List Touch) (seeds within places done near rest : Places) → Flooding touch seeds within places done near
    → ((q : ℕ) → Has rest q ↔ (Has places q × ¬ Has done q)) → ((q : ℕ) → ¬ Has rest q)
    → IsReached touch seeds within (record { places = places; near = near })
flood_end touch seeds within places done near rest s is_rest none = record {
  from = s.from;
  all = λ p q seed walk. carried (IsLinked touch) (Has within) (Has places)
      (λ x y on link inside. s.closed x y (all_done x on) link inside) p q (s.first p seed) walk;
  near = λ q. (
    λ h. let w = (s.beside q).0 h in (w.0, s.followed w.0 w.1, w.2),
    λ w. (s.beside q).1 (w.0, all_done w.0 w.1, w.2),
  );
}
  where
    all_done : (q : ℕ) → Has places q → Has done q
    all_done q on = elim (has_or_not done.0 q) [ inl h ↦ h | inr off ↦ absurd (none q ((is_rest q).1 (on, off))) ]

pub table_end : (columns rows : ℕ) (points : List ℕ) (cells : List Cell) (touch touch' : List Touch) (links : Links) (n : ℕ)
    → IsRegion columns rows points cells touch → length points ≤ 32 → touch ≡ touch' → n ≡ length touch → IsTableBelow touch' links n
    → IsTable touch' links
table_end columns rows points cells touch touch' links n r few same e s = subst (λ t. IsTable t links) same record {
  within = links_within columns rows points cells touch r few;
  table = subst (λ k. IsTableBelow touch links k) e (subst (λ t. IsTableBelow t links n) (sym same) s);
}

pub link_small : (columns rows : ℕ) (points : List ℕ) (cells : List Cell) (touch : List Touch) (t : Touch) (i : ℕ)
    → IsRegion columns rows points cells touch → length points ≤ 32 → t ≡ touch_at touch i → (j : ℕ) → IsLinkOf t j → j < 32
link_small columns rows points cells touch t i r few at j link =
    let within = links_within columns rows points cells touch r few in
    let linked : IsLinked touch i j = subst (λ x. IsLinkOf x j) at link in
    omega (arith, within.few, within.inside i j linked)

-- the places that one more was added to, below the next number
marked_more : (old new : Places) (place : ℕ) (P : ℕ → Type 0) → ((q : ℕ) → Has new q ↔ (Has old q ⊎ ((q ≡ place) × P place)))
    → ((q : ℕ) → Has old q ↔ ((q < place) × P q)) → (q : ℕ) → Has new q ↔ ((q < place + 1) × P q)
marked_more old new place P is_new was q = (to, from) where
  to : Has new q → (q < place + 1) × P q
  to h = elim ((is_new q).0 h) [
    | inl before ↦ let w = (was q).0 before in (omega (arith, w.0), w.1)
    | inr (e, here) ↦ (omega (arith, e), subst P (sym e) here)
  ]

  from : (q < place + 1) × P q → Has new q
  from (lt, is) = elim (cases_eq q place) [
    | inl e ↦ (is_new q).1 (inr (e, subst P e is))
    | inr apart ↦ (is_new q).1 (inl ((was q).1 (omega (arith, lt, apart), is)))
  ]

-- a place more, with the sets that its touch says
pub table_more : (touches : List Touch) (links : Links) (place : ℕ) (near all black white : Places) → place < 32
    → ((q : ℕ) → Has near q ↔ IsLinked touches place q) → ((q : ℕ) → Has all q ↔ (Has links.all q ⊎ (q ≡ place)))
    → ((q : ℕ) → Has black q ↔ (Has links.black q ⊎ ((q ≡ place) × IsBeside touches colour.Black place)))
    → ((q : ℕ) → Has white q ↔ (Has links.white q ⊎ ((q ≡ place) × IsBeside touches colour.White place)))
    → IsTableBelow touches links place
    → IsTableBelow touches (record { near = set links.near place near; all = all; black = black; white = white }) (place + 1)
table_more touches links place near all black white small is_near is_all is_black is_white below = record {
  long = length-set links.near place near ∙ below.long;
  near = λ i j lt.
      let near_after = λ (k : ℕ). get_or (set links.near place near) k (record { 0 = 0 }) in
      elim (cases_eq i place) as (λ _. Has (near_after i) j ↔ ((i < place + 1) × IsLinked touches i j)) [
        | inl e ↦
            let here : near_after i ≡ near = ap near_after e ∙ get_or-set_same links.near place near (record { 0 = 0 }) (omega (arith, small, below.long)) in (
              λ h. (omega (arith, e), subst (λ k. IsLinked touches k j) (sym e) ((is_near j).0 (subst (λ s. Has s j) here h))),
              λ w. subst (λ s. Has s j) (sym here) ((is_near j).1 (subst (λ k. IsLinked touches k j) e w.1)),
            )
        | inr apart ↦
            let there : near_after i ≡ near_at links i = get_or-set_other links.near place i near (record { 0 = 0 }) apart in (
              λ h. let w = (below.near i j lt).0 (subst (λ s. Has s j) there h) in (omega (arith, w.0), w.1),
              λ w. subst (λ s. Has s j) (sym there) ((below.near i j lt).1 (omega (arith, w.0, apart), w.1)),
            )
      ];
  all = λ i. (λ h. ((marks i).0 h).0, λ lt. (marks i).1 (lt, tt));
  black = marked_more links.black black place (IsBeside touches colour.Black) is_black below.black;
  white = marked_more links.white white place (IsBeside touches colour.White) is_white below.white;
}
  where
    marks : (i : ℕ) → Has all i ↔ ((i < place + 1) × Unit {0})
    marks = marked_more links.all all place (λ _. Unit {0})
        (λ q. (λ h. elim ((is_all q).0 h) [ inl old ↦ inl old | inr e ↦ inr (e, tt) ], λ w. (is_all q).1 (elim w [ inl old ↦ inl old | inr here ↦ inr here.0 ])))
        (λ q. (λ h. ((below.all q).0 h, tt), λ w. (below.all q).1 w.0))
