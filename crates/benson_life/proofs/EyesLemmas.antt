-- Listed eyes are the eyes of the definition.
use Rattle.std.proofs.Common.{◌↔◌, ◌≡◌, ℕ, ◌+◌, ◌<◌, ◌≤◌, ◌⊎◌, inl, inr, List, [], ◌∷◌, ◌++◌, Bool, length, get_or, refl, ap, sym, ◌∙◌, subst, arith, below_more}
use Rattle.std.specs.List.{Contains}
use Rattle.std.proofs.lemmas.Bool.{cases_eq}
use Rattle.std.proofs.lemmas.List.{get_or_default}
use Rattle.std.proofs.lemmas.List.Elements.{Contains-push, Contains-push_cases, Contains-append_left}
use Rattle.go_grid.specs.declared.grid.Colour.{Colour}
use Rattle.go_grid.specs.Chain.{IsSettled}
use Rattle.go_grid.specs.Board.{Board, AreAround, HasStone, IsEmpty, Lacks}
use Rattle.go_grid.specs.Marks.{IsMarked, Marks}
use Rattle.go_grid.specs.Parts.{label}
use Rattle.go_grid.proofs.WalkLemmas.{joined_back}
use Rattle.benson_life.specs.declared.eyes.Eye.{Eye}
use Rattle.benson_life.specs.declared.surveys.Survey.{Survey}
use Rattle.benson_life.specs.inner.Eyes.{AreEyes, HasTwoWalledEyes, HasWalledEye, IsOfChain, IsPairOf, IsVitalPair}
use Rattle.benson_life.specs.Life.{HasTwoEyes, IsEye, IsWalledBy, IsVital}
use Rattle.benson_life.specs.inner.Survey.{IsSurvey}
use Rattle.benson_life.proofs.StandLemmas.{region_empty}
use Rattle.benson_life.proofs.PartsLemmas.{label_in, label_own}
use Rattle.benson_life.proofs.SurveyLemmas.{empty_lacks, region_of, vital_at, liberty_is}

-- the lists differ by the pairs of the region of `p` and the chains of the first `n` points
abbrev pub AddsBelow : Board → Colour → Survey → List Eye → List Eye → ℕ → List ℕ → ℕ → Type 0
AddsBelow g c s old new p near n = (e : Eye)
    → Contains new e ↔ (Contains old e ⊎ ((i : ℕ) × (i < n) × IsPairOf g c s p (get_or near i 0) e))

module _ (g : Board) (c : Colour) (s : Survey) (is : IsSurvey g c s) where
  -- an eye is listed under the names of its region and of the stone's chain
  module _ (eyes : List Eye) (are : AreEyes g c s eyes) (breached : List Bool) (In : ℕ → Type 0)
      (walls : (r : ℕ) → Lacks g c r → (¬ IsMarked breached (label s.regions r)) ↔ IsWalledBy g c In r) where
    pub eye_is : (t r : ℕ) → HasStone g c t → Lacks g c r
        → HasWalledEye eyes breached (label s.chains t) (label s.regions r) ↔ IsEye g c In t r
    eye_is t r stone lacks =
        let region = is.regions.joined r lacks in
        let chain = is.chains.joined t stone in (
          λ h. let pair = (are (record { region = label s.regions r; chain = label s.chains t })).0 h.0 in
              record {
                lacks = lacks;
                vital = vital_at g c s is (label s.regions r) r (label s.chains t) t
                    (joined_back g.columns (Lacks g c) r (label s.regions r) region)
                    (joined_back g.columns (HasStone g c) t (label s.chains t) chain) pair.vital;
                walled = (walls r lacks).0 h.1;
              },
          λ eye. (
            (are (record { region = label s.regions r; chain = label s.chains t })).1 (record {
              lacks = label_in g.columns (Lacks g c) s.regions r is.regions lacks;
              stone = label_in g.columns (HasStone g c) s.chains t is.chains stone;
              region = label_own g.columns (Lacks g c) s.regions r is.regions lacks;
              chain = label_own g.columns (HasStone g c) s.chains t is.chains stone;
              vital = vital_at g c s is r (label s.regions r) t (label s.chains t) region chain eye.vital;
            }),
            (walls r lacks).1 eye.walled,
          ),
        )

    -- a walled eye that is listed under a region's name
    listed_eye : (t r : ℕ) → HasStone g c t → HasWalledEye eyes breached (label s.chains t) r → IsEye g c In t r
    listed_eye t r stone h =
        let pair = (are (record { region = r; chain = label s.chains t })).0 h.0 in
        (eye_is t r stone pair.lacks).0 (subst (HasWalledEye eyes breached (label s.chains t)) (sym pair.region) h)

    pub two_is : (t : ℕ) → HasStone g c t → HasTwoWalledEyes eyes breached (label s.chains t) ↔ HasTwoEyes g c In t
    two_is t stone = (
      λ h.
          let a = (are (record { region = h.0; chain = label s.chains t })).0 h.2.0 in
          let b = (are (record { region = h.1; chain = label s.chains t })).0 h.3.0 in
          (h.0, h.1, listed_eye t h.0 stone h.2, listed_eye t h.1 stone h.3, λ j. h.4 (sym a.region ∙ is.regions.same h.0 h.1 j ∙ b.region)),
      λ two. (
        label s.regions two.0,
        label s.regions two.1,
        (eye_is t two.0 stone two.2.lacks).1 two.2,
        (eye_is t two.1 stone two.3.lacks).1 two.3,
        λ e. two.4 (region_of g c s is two.0 two.1 two.2.lacks two.3.lacks e),
      ),
    )

    -- a region is a walled eye of some kept chain
    pub some_is : (p : ℕ) → Lacks g c p → ((t : ℕ) → In t → HasStone g c t) → ((t : ℕ) → In t → In (label s.chains t))
        → ((k : ℕ) × HasWalledEye eyes breached k (label s.regions p) × In k) ↔ ((t : ℕ) × In t × IsEye g c In t p)
    some_is p lacks stones whole = (
      λ h.
          let pair = (are (record { region = label s.regions p; chain = h.0 })).0 h.1.0 in
          (h.0, h.2, (eye_is h.0 p pair.stone lacks).0 (subst (λ k. HasWalledEye eyes breached k (label s.regions p)) (sym pair.chain) h.1)),
      λ h. (label s.chains h.0, (eye_is h.0 p (stones h.0 h.1) lacks).1 h.2, whole h.0 h.1),
    )

  -- the lists differ by the pair of the region of `p` and the chain of `q`, if that is a stone and the region vital to it
  abbrev pub Adds : List Eye → List Eye → ℕ → ℕ → Type 0
  Adds old new p q = (e : Eye) → Contains new e ↔ (Contains old e ⊎ IsPairOf g c s p q e)

  pub one_eye : (old more : List Eye) (p q : ℕ) → IsEmpty g p → IsMarked s.stones q → IsVital g c (label s.regions p) (label s.chains q)
      → more ≡ old ++ record { region = label s.regions p; chain = label s.chains q } ∷ [] → Adds old more p q
  one_eye old more p q empty m vital e' e =
      let region = label s.regions p in
      let chain = label s.chains q in
      let new : Eye = record { region = region; chain = chain } in
      let lacks = empty_lacks g c p empty in
      let stone = (is.stones q).0 m in
      let pair : IsVitalPair g c s new = record {
        lacks = label_in g.columns (Lacks g c) s.regions p is.regions lacks;
        stone = label_in g.columns (HasStone g c) s.chains q is.chains stone;
        region = label_own g.columns (Lacks g c) s.regions p is.regions lacks;
        chain = label_own g.columns (HasStone g c) s.chains q is.chains stone;
        vital = vital;
      } in (
        λ h. elim (Contains-push_cases old new e (rw e' at h)) as (λ _. Contains old e ⊎ IsPairOf g c s p q e) [
          | inl in' ↦ inl in'
          | inr same ↦ inr (subst (IsPairOf g c s p q) same (pair, refl, (m, refl)))
        ],
        λ h. rw e' (elim h as (λ _. Contains (old ++ new ∷ []) e) [
          | inl in' ↦ Contains-append_left old (new ∷ []) e in'
          | inr h' ↦ subst (Contains (old ++ new ∷ [])) (same_eye region chain e h'.1 h'.2.1) (Contains-push old new)
        ]),
      )
    where
      same_eye : (r k : ℕ) (e : Eye) → e.region ≡ r → k ≡ e.chain → record { region = r; chain = k } ≡ e
      same_eye r k e a b = rw (← a, b) refl

  pub no_eye : (old : List Eye) (p q : ℕ) → (IsMarked s.stones q → ¬ IsVital g c (label s.regions p) (label s.chains q)) → Adds old old p q
  no_eye old p q none e = (
    inl,
    λ h. elim h as (λ _. Contains old e) [
      | inl in' ↦ in'
      | inr h' ↦ absurd (none h'.2.0 (rw (← h'.1, h'.2.1) h'.0.vital))
    ],
  )

  pub adds_start : (old : List Eye) (p : ℕ) (near : List ℕ) → AddsBelow g c s old old p near 0
  adds_start old p near e = (inl, λ h. elim h as (λ _. Contains old e) [ inl in' ↦ in' | inr t ↦ absurd (omega (arith, t.1)) ])

  pub adds_next : (old now more : List Eye) (p q : ℕ) (near : List ℕ) (n : ℕ) → AddsBelow g c s old now p near n → q ≡ get_or near n 0
      → Adds now more p q → AddsBelow g c s old more p near (n + 1)
  adds_next old now more p q near n below at adds e = (
    λ h. elim ((adds e).0 h) as (λ _. Contains old e ⊎ ((i : ℕ) × (i < n + 1) × IsPairOf g c s p (get_or near i 0) e)) [
      | inl in' ↦ elim ((below e).0 in') as (λ _. Contains old e ⊎ ((i : ℕ) × (i < n + 1) × IsPairOf g c s p (get_or near i 0) e)) [
        | inl o ↦ inl o
        | inr t ↦ inr (t.0, omega (arith, t.1), t.2)
      ]
      | inr v ↦ inr (n, omega arith, subst (λ x. IsPairOf g c s p x e) at v)
    ],
    λ h. (adds e).1 (elim h as (λ _. Contains now e ⊎ IsPairOf g c s p q e) [
      | inl o ↦ inl ((below e).1 (inl o))
      | inr t ↦ elim (cases_eq t.0 n) as (λ _. Contains now e ⊎ IsPairOf g c s p q e) [
        | inl k ↦ inr (subst (λ x. IsPairOf g c s p x e) (ap (λ i. get_or near i 0) k ∙ sym at) t.2)
        | inr ne ↦ inl ((below e).1 (inr (t.0, omega (arith, t.1, ne), t.2)))
      ]
    ]),
  )

  -- the chains next to one of its empty points are all to which a region can be vital
  pub adds_all : (old more : List Eye) (p area n : ℕ) (near : List ℕ) → AddsBelow g c s old more p near n → length near ≤ n → IsEmpty g p
      → AreAround g.columns area p near → length g.cells ≤ area → (e : Eye)
      → Contains more e ↔ (Contains old e ⊎ (IsVitalPair g c s e × (e.region ≡ label s.regions p)))
  adds_all old more p area n near below le empty around long e = (
    λ h. elim ((below e).0 h) as (λ _. Contains old e ⊎ (IsVitalPair g c s e × (e.region ≡ label s.regions p))) [
      | inl o ↦ inl o
      | inr t ↦ inr (t.2.0, t.2.1)
    ],
    λ h. elim h as (λ _. Contains more e) [ inl o ↦ (below e).1 (inl o) | inr v ↦ back v.0 v.1 ],
  )
    where
      back : IsVitalPair g c s e → e.region ≡ label s.regions p → Contains more e
      back pair f =
          let in' = region_of g c s is e.region p pair.lacks (empty_lacks g c p empty) (pair.region ∙ f) in
          let (q, next, of) = (liberty_is g c s is e.chain p pair.stone pair.chain empty).1 (pair.vital p in' empty) in
          let at = (around q).1 (let on = ((is.stones q).0 of.0).0 in omega (arith, on, long), next) in
          (below e).1 (inr (
            at.0,
            omega (arith, at.1, le),
            (
              pair,
              f,
              subst (IsOfChain s e.chain) (sym (get_or_default near at.0 0 q at.1 ∙ at.2)) of,
            ),
          ))

module _ (g : Board) (c : Colour) (s : Survey) where
  -- the eyes of the regions that are seen, which are those of the empty points below `n`
  pub record Gathering (eyes : List Eye) (seen : List Bool) (n : ℕ) : Type 0 where
    pub exact : (e : Eye) → Contains eyes e ↔ (IsVitalPair g c s e × IsMarked seen e.region)
    pub every : (p : ℕ) → p < n → IsEmpty g p → IsMarked seen (label s.regions p)

  pub gather_start : (seen : List Bool) → Marks seen (λ _. ⊥) → Gathering [] seen 0
  gather_start seen none = record {
    exact = λ x. (λ h. absurd (omega (arith, h.1)), λ h. absurd ((none x.region).0 h.1));
    every = λ p lt. absurd (omega arith);
  }

  pub gather_skip : (eyes : List Eye) (seen : List Bool) (n : ℕ) → Gathering eyes seen n → (IsEmpty g n → IsMarked seen (label s.regions n))
      → Gathering eyes seen (n + 1)
  gather_skip eyes seen n w here = record {
    exact = w.exact;
    every = below_more (λ p. IsEmpty g p → IsMarked seen (label s.regions p)) n w.every here;
  }

  pub gather_more : (eyes more : List Eye) (seen new : List Bool) (n : ℕ) → Gathering eyes seen n
      → Marks new (λ q. IsMarked seen q ⊎ (q ≡ label s.regions n))
      → ((e : Eye) → Contains more e ↔ (Contains eyes e ⊎ (IsVitalPair g c s e × (e.region ≡ label s.regions n))))
      → Gathering more new (n + 1)
  gather_more eyes more seen new n w is adds = record {
    exact = λ e. (
      λ h. elim ((adds e).0 h) [
        | inl old ↦ let v = (w.exact e).0 old in (v.0, (is e.region).1 (inl v.1))
        | inr k ↦ (k.0, (is e.region).1 (inr k.1))
      ],
      λ h. (adds e).1 (elim ((is e.region).0 h.1) [
        | inl old ↦ inl ((w.exact e).1 (h.0, old))
        | inr k ↦ inr (h.0, k)
      ]),
    );
    every = below_more (λ p. IsEmpty g p → IsMarked new (label s.regions p)) n
        (λ p lt' empty. (is (label s.regions p)).1 (inl (w.every p lt' empty))) (λ _. (is (label s.regions n)).1 (inr refl));
  }

  pub gather_end : (eyes : List Eye) (seen : List Bool) (n : ℕ) → IsSurvey g c s → IsSettled g → Gathering eyes seen n → length g.cells ≤ n
      → AreEyes g c s eyes
  gather_end eyes seen n is settled w le e = (
    λ h. ((w.exact e).0 h).0,
    λ pair.
        let q = region_empty g c e.region settled pair.lacks in
        let m = w.every q.0 (omega (arith, q.2.0)) q.2 in
        (w.exact e).1 (pair, subst (IsMarked seen) (sym (sym pair.region ∙ is.regions.same e.region q.0 q.1)) m),
  )
