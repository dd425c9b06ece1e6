-- Which stones last, as sets.
use Rattle.std.proofs.Common.{◌≡◌, ◌≢◌, ℕ, ◌<◌, ◌⊎◌, ◌↔◌, inl, inr, refl, sym, ap, ◌∙◌, List, length, subst}
use Rattle.std.proofs.lemmas.Bool.{cases_lt, both_ways}
use Rattle.std.proofs.lemmas.List.{get_or_past}
use Rattle.go_grid.specs.declared.grid.Cell.{Cell}
use Rattle.go_grid.specs.declared.grid.Cell.TheVariants as cell
use Rattle.go_grid.specs.declared.grid.Colour.{Colour}
use Rattle.go_grid.specs.declared.grid.Colour.TheVariants as colour
use Rattle.go_grid.specs.declared.region.Touch.{Touch}
use Rattle.go_grid.specs.Region.{nothing_near}
use Rattle.go_grid.proofs.PathLemmas.{leads_here, leads_more, leads_end}
use Rattle.local_play.specs.LocalPlay.{held_at, Holds, IsLinked, IsBeside}
use Rattle.local_play.specs.inner.LocalPlay.{InLocalChain}
use Rattle.local_play.specs.declared.places.Places.{Places}
use Rattle.local_play.specs.declared.links.Links.{Links}
use Rattle.local_play.specs.declared.links.Reached.{Reached}
use Rattle.local_play.specs.Places.{Has}
use Rattle.local_play.specs.Links.{IsTable, LinksWithin}
use Rattle.local_play.specs.inner.Links.{IsReached, beside_of}
use Rattle.local_play.specs.inner.Lasting.{AreSidePlaces, IsLasting, HasSupport, Lasts, IsLocalLiberty, AreEmpty}
use Rattle.local_play.proofs.BitLemmas.{has_or_not}
use Rattle.local_play.proofs.LastingLemmas.{chain_back, lasts_along}

-- the flooded places are the chain
pub flooded : (touch : List Touch) (cells : List Cell) (c : Colour) (seeds stones : Places) (r : Reached) → ((q : ℕ) → Has stones q ↔ Holds cells c q)
    → IsReached touch seeds stones r → (q : ℕ) → Has r.places q ↔ ((p : ℕ) × Has seeds p × InLocalChain touch cells c p q)
flooded touch cells c seeds stones r are s q = (
  λ h. let w = s.from q h in (w.0, w.1, leads_more (IsLinked touch) (Has stones) (Holds cells c) (λ p. (are p).0) w.0 q w.2),
  λ w. s.all w.0 q w.1 (leads_more (IsLinked touch) (Holds cells c) (Has stones) (λ p. (are p).1) w.0 q w.2),
)

-- what is still to be judged, and what lasts of the rest
pub record Judging (touch : List Touch) (cells : List Cell) (c : Colour) (rest lasting : Places) : Type 0 where
  pub left : (q : ℕ) → Has rest q → Holds cells c q
  pub sound : (q : ℕ) → Has lasting q → Holds cells c q × Lasts touch cells c q
  pub complete : (q : ℕ) → Holds cells c q → Lasts touch cells c q → Has rest q ⊎ Has lasting q

-- a stone next to an alive one lasts, and the others are still to be judged
pub judging_start : (touch : List Touch) (cells : List Cell) (c : Colour) (stones beside empty rest lasting : Places)
    → AreSidePlaces touch cells c stones beside empty → ((q : ℕ) → Has lasting q ↔ (Has stones q × Has beside q))
    → ((q : ℕ) → Has rest q ↔ (Has stones q × ¬ Has beside q)) → Judging touch cells c rest lasting
judging_start touch cells c stones beside empty rest lasting placed both others = record {
  left = λ q h. (placed.stones_are q).0 ((others q).0 h).0;
  sound = λ q h.
      let w = (both q).0 h in
      let holds = (placed.stones_are q).0 w.0 in
      (holds, inl (q, leads_here (IsLinked touch) (Holds cells c) q holds, (placed.beside_are q).0 w.1));
  complete = λ q h _.
      let stone = (placed.stones_are q).1 h in
      elim (has_or_not beside.0 q) [ inl near ↦ inr ((both q).1 (stone, near)) | inr far ↦ inl ((others q).1 (stone, far)) ];
}

module _ (touch : List Touch) (cells : List Cell) (c : Colour) (stones beside empty rest lasting one rest' : Places) (p : ℕ) (r : Reached)
    (links : LinksWithin touch) (placed : AreSidePlaces touch cells c stones beside empty) (s : Judging touch cells c rest lasting)
    (here : Has rest p) (is_one : (q : ℕ) → Has one q ↔ (q ≡ p)) (reached : IsReached touch one stones r)
    (is_rest : (q : ℕ) → Has rest' q ↔ (Has rest q × ¬ Has r.places q)) where
  in_chain : (q : ℕ) → Has r.places q → InLocalChain touch cells c p q
  in_chain q h =
      let w = (flooded touch cells c one stones r placed.stones_are reached q).0 h in
      subst (λ x. InLocalChain touch cells c x q) ((is_one w.0).0 w.1) w.2

  chain_in : (q : ℕ) → InLocalChain touch cells c p q → Has r.places q
  chain_in q chain = (flooded touch cells c one stones r placed.stones_are reached q).1 (p, (is_one p).1 refl, chain)

  liberty : (a : ℕ) → (Has r.near a × Has empty a) → IsLocalLiberty touch cells c p a
  liberty a (near, bare) = let w = (reached.near a).0 near in (w.0, in_chain w.0 w.1, w.2, ((placed.empty_are a).0 bare).1)

  has_liberty : (a : ℕ) → IsLocalLiberty touch cells c p a → Has r.near a × Has empty a
  has_liberty a (j, chain, link, bare) =
      ((reached.near a).1 (j, chain_in j chain, link), (placed.empty_are a).1 (links.inside j a link, bare))

  supported : HasSupport r beside empty → Lasts touch cells c p
  supported h = elim h [
    | inl (q, inside, next) ↦ inl (q, in_chain q inside, (placed.beside_are q).0 next)
    | inr (a, b, ne, la, lb) ↦ inr record { one = a; two = b; apart = ne; is_one = liberty a la; is_two = liberty b lb }
  ]

  supports : Lasts touch cells c p → HasSupport r beside empty
  supports l = elim l [
    | inl (j, chain, next) ↦ inl (j, chain_in j chain, (placed.beside_are j).1 next)
    | inr t ↦ inr (t.one, t.two, t.apart, has_liberty t.one t.is_one, has_liberty t.two t.is_two)
  ]

  after_rest : (q : ℕ) → Has rest q → Has rest' q ⊎ Has r.places q
  after_rest q h = elim (has_or_not r.places.0 q) [ inl on ↦ inr on | inr off ↦ inl ((is_rest q).1 (h, off)) ]

  pub judging_lasts : (lasting' : Places) → HasSupport r beside empty → ((q : ℕ) → Has lasting' q ↔ (Has lasting q ⊎ Has r.places q))
      → Judging touch cells c rest' lasting'
  judging_lasts lasting' h is = record {
    left = λ q on. s.left q ((is_rest q).0 on).0;
    sound = λ q on. elim ((is q).0 on) [
      | inl old ↦ s.sound q old
      | inr new ↦
          let chain = in_chain q new in (
            leads_end (IsLinked touch) (Holds cells c) p q chain,
            lasts_along touch cells c q p (chain_back touch cells c links p q chain) (supported h),
          )
    ];
    complete = λ q holds lasts. elim (s.complete q holds lasts) [
      | inl was ↦ elim (after_rest q was) [ inl still ↦ inl still | inr new ↦ inr ((is q).1 (inr new)) ]
      | inr old ↦ inr ((is q).1 (inl old))
    ];
  }

  pub judging_not : ¬ HasSupport r beside empty → Judging touch cells c rest' lasting
  judging_not none = record {
    left = λ q on. s.left q ((is_rest q).0 on).0;
    sound = s.sound;
    complete = λ q holds lasts. elim (s.complete q holds lasts) [
      | inl was ↦ elim (after_rest q was) [
        | inl still ↦ inl still
        | inr new ↦ absurd (none (supports (lasts_along touch cells c p q (in_chain q new) lasts)))
      ]
      | inr old ↦ inr old
    ];
  }

pub judging_end : (touch : List Touch) (cells : List Cell) (c : Colour) (rest lasting : Places) → Judging touch cells c rest lasting
    → ((q : ℕ) → ¬ Has rest q) → IsLasting touch cells c lasting
judging_end touch cells c rest lasting s none q = (
  s.sound q,
  λ w. elim (s.complete q w.0 w.1) [ inl h ↦ absurd (none q h) | inr h ↦ h ],
)

-- the places next to alive stones
pub beside_is : (touch : List Touch) (links : Links) (c : Colour) → IsTable touch links → (q : ℕ) → Has (beside_of links c) q ↔ IsBeside touch c q
beside_is touch links colour.Black table q = (
  λ h. ((table.table.black q).0 h).1,
  λ b. (table.table.black q).1 (
    elim (cases_lt q (length touch)) as (λ _. q < length touch) [
      | inl lt ↦ lt
      | inr le ↦ absurd (both_ways _ (ap (λ t. t.black) (get_or_past touch q nothing_near le)) b)
    ],
    b,
  ),
)
beside_is touch links colour.White table q = (
  λ h. ((table.table.white q).0 h).1,
  λ b. (table.table.white q).1 (
    elim (cases_lt q (length touch)) as (λ _. q < length touch) [
      | inl lt ↦ lt
      | inr le ↦ absurd (both_ways _ (ap (λ t. t.white) (get_or_past touch q nothing_near le)) b)
    ],
    b,
  ),
)

-- what neither colour holds is empty
pub empty_is : (touch : List Touch) (cells : List Cell) (links : Links) (black white both empty : Places) → IsTable touch links
    → ((q : ℕ) → Has black q ↔ Holds cells colour.Black q) → ((q : ℕ) → Has white q ↔ Holds cells colour.White q)
    → ((q : ℕ) → Has both q ↔ (Has black q ⊎ Has white q)) → ((q : ℕ) → Has empty q ↔ (Has links.all q × ¬ Has both q))
    → AreEmpty touch cells empty
empty_is touch cells links black white both empty table are_black are_white are_both are_empty q = (
  λ h. let w = (are_empty q).0 h in (
    (table.table.all q).0 w.0,
    neither (held_at cells q) (λ e. w.1 ((are_both q).1 (inl ((are_black q).1 e)))) (λ e. w.1 ((are_both q).1 (inr ((are_white q).1 e)))),
  ),
  λ w. (are_empty q).1 (
    (table.table.all q).1 w.0,
    λ h. elim ((are_both q).0 h) [
      | inl b ↦ let e : cell.Empty ≡ cell.Black = sym w.1 ∙ (are_black q).0 b in cc
      | inr b ↦ let e : cell.Empty ≡ cell.White = sym w.1 ∙ (are_white q).0 b in cc
    ],
  ),
)
  where
    neither : (x : Cell) → x ≢ cell.Black → x ≢ cell.White → x ≡ cell.Empty
    neither cell.Empty b w = refl
    neither cell.Black b w = absurd (b refl)
    neither cell.White b w = absurd (w refl)
