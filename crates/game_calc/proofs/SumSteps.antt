-- The options of a sum, up to the order of games, and the form that is made of them.
use Rattle.std.proofs.Common.{ℕ, zero, suc, ◌<◌, ◌≡◌, ◌++◌, ◌∷◌, [], List, length, inl, inr, arith, ap, refl, sym, subst, ◌∙◌, ℤ, ◌+ℤ◌, Some}
use Rattle.std.specs.Prelude.{Option}
use Rattle.dyadic_num.specs.Units.{IsInBounds}
use Rattle.short_games.specs.Tree.{Tree, Trees, node, left, right, Has, ◌then◌, tree_at}
use Rattle.short_games.specs.Order.{◌≤ᵍ◌, ◌≡ᵍ◌}
use Rattle.short_games.specs.Sum.{◌+ᵍ◌, each_plus, plus_each}
use Rattle.short_games.specs.Number.{num, IsNumber, IsNumberTree, number_tree}
use Rattle.short_games.specs.TextOrder.{IsCanonicalTree, IsCanonicalFor}
use Rattle.game_store.specs.Meaning.{pick, listed, AreIds, AreBelow, AreCanonical, IsIdOf}
use Rattle.game_store.specs.Forms.{IsOptions}
use Rattle.short_games.proofs.AvoidanceLaws.{cheap_left, cheap_right}
use Rattle.short_games.proofs.FormLaws.{by_better, translation}
use Rattle.short_games.proofs.NumberLaws.{num-plus_le, num-le_plus}
use Rattle.short_games.proofs.OrderLaws.{le-trans}
use Rattle.short_games.proofs.ReductionLaws.{number-canonical, same-canonical}
use Rattle.short_games.proofs.SumLaws.{plus-left, plus-right, plus-comm, then-has, has-then_left, has-then_right, each_plus-has, has-each_plus, plus_each-has, has-plus_each}
use Rattle.game_canon.specs.declared.errors.FormError.{FormError}
use Rattle.game_canon.specs.declared.errors.FormError.TheVariants.{Parts, Bounds, Memory}
use Rattle.game_canon.specs.Changes.{HasNumberPastBounds}
use Rattle.game_canon.specs.Outcomes.{IsCanonicalId, IsCause}
use Rattle.game_canon.proofs.ChangeLaws.{tree-number}
use Rattle.game_canon.proofs.GameLaws.{has-left, left-has, has-right, right-has}
use Rattle.game_canon.proofs.NumberSizeLaws.{number-same}
use Rattle.game_canon.proofs.SideLaws.{pick-append}
use Rattle.game_calc.specs.inner.Steps.{IsPairRefusal}
use Rattle.game_calc.specs.inner.Table.{AreNoted, AddsMoves, AreNotedSumsRight}

-- each tree of the one list is equal as a game to one of the other
pub record AreAlike (As Bs : Trees) : Type 0 where
  pub to : (A : Tree) → Has As A → (B : Tree) × Has Bs B × (A ≡ᵍ B)
  pub from : (B : Tree) → Has Bs B → (A : Tree) × Has As A × (A ≡ᵍ B)

alike-equal : (G H : Tree) → AreAlike (left G) (left H) → AreAlike (right G) (right H) → G ≡ᵍ H
alike-equal G H a b = (
  by_better G H (λ L l. (let r = a.to L l in (r.0, r.1, r.2.0))) (λ S s. (let r = b.from S s in (r.0, r.1, r.2.0))),
  by_better H G (λ L l. (let r = a.from L l in (r.0, r.1, r.2.1))) (λ S s. (let r = b.to S s in (r.0, r.1, r.2.1))),
)

alike-then : (As Bs Cs Ds : Trees) → AreAlike As Bs → AreAlike Cs Ds → AreAlike (As then Cs) (Bs then Ds)
alike-then As Bs Cs Ds a b = record {
  to = λ A h. elim (then-has As Cs A h) [
    | inl p ↦ (let r = a.to A p in (r.0, has-then_left Bs Ds r.0 r.1, r.2))
    | inr p ↦ (let r = b.to A p in (r.0, has-then_right Bs Ds r.0 r.1, r.2))
  ];
  from = λ B h. elim (then-has Bs Ds B h) [
    | inl p ↦ (let r = a.from B p in (r.0, has-then_left As Cs r.0 r.1, r.2))
    | inr p ↦ (let r = b.from B p in (r.0, has-then_right As Cs r.0 r.1, r.2))
  ];
}

-- what is noted for each id is equal to what f makes of its tree
module _ (Ts : List Tree) (note : ℕ → Option ℕ) (f : Tree → Tree) (same : (i v : ℕ) → note i ≡ Some v → f (tree_at Ts i) ≡ᵍ tree_at Ts v) where
  noted-to : (is vs : List ℕ) → AreNoted note is vs → (X : Tree) → Has (pick Ts is) X → (V : Tree) × Has (pick Ts vs) V × (f X ≡ᵍ V)
  noted-to [] [] m X h = absurd h
  noted-to [] (v ∷ vs) m X h = absurd m
  noted-to (i ∷ is) [] m X h = absurd m
  noted-to (i ∷ is) (v ∷ vs) m X (inl e) = (tree_at Ts v, inl refl, subst (λ t. f t ≡ᵍ tree_at Ts v) (sym e) (same i v m.0))
  noted-to (i ∷ is) (v ∷ vs) m X (inr h) = let r = noted-to is vs m.1 X h in (r.0, inr r.1, r.2)

  noted-from : (is vs : List ℕ) → AreNoted note is vs → (V : Tree) → Has (pick Ts vs) V → (X : Tree) × Has (pick Ts is) X × (f X ≡ᵍ V)
  noted-from [] [] m V h = absurd h
  noted-from [] (v ∷ vs) m V h = absurd m
  noted-from (i ∷ is) [] m V h = absurd m
  noted-from (i ∷ is) (v ∷ vs) m V (inl e) = (tree_at Ts i, inl refl, subst (λ t. f (tree_at Ts i) ≡ᵍ t) (sym e) (same i v m.0))
  noted-from (i ∷ is) (v ∷ vs) m V (inr h) = let r = noted-from is vs m.1 V h in (r.0, inr r.1, r.2)

-- the sums of listed games with another one
each-alike : (Ts : List Tree) (note : ℕ → Option ℕ) (Gs : Trees) (H : Tree) (is vs : List ℕ) → ((i v : ℕ) → note i ≡ Some v → (tree_at Ts i +ᵍ H) ≡ᵍ tree_at Ts v)
    → ((X : Tree) → Has Gs X → Has (pick Ts is) X) → ((X : Tree) → Has (pick Ts is) X → Has Gs X) → AreNoted note is vs → AreAlike (each_plus Gs H) (pick Ts vs)
each-alike Ts note Gs H is vs same into out m = record {
  to = λ A h. (
      let r = each_plus-has Gs H A h in
      let v = noted-to Ts note (λ X. X +ᵍ H) same is vs m r.0 (into r.0 r.1) in
      (v.0, v.1, subst (λ t. t ≡ᵍ v.0) (sym r.2) v.2)
      );
  from = λ B h. (let v = noted-from Ts note (λ X. X +ᵍ H) same is vs m B h in (v.0 +ᵍ H, has-each_plus Gs H v.0 (out v.0 v.1), v.2));
}

plus-alike : (Ts : List Tree) (note : ℕ → Option ℕ) (G : Tree) (Hs : Trees) (is vs : List ℕ) → ((i v : ℕ) → note i ≡ Some v → (G +ᵍ tree_at Ts i) ≡ᵍ tree_at Ts v)
    → ((X : Tree) → Has Hs X → Has (pick Ts is) X) → ((X : Tree) → Has (pick Ts is) X → Has Hs X) → AreNoted note is vs → AreAlike (plus_each G Hs) (pick Ts vs)
plus-alike Ts note G Hs is vs same into out m = record {
  to = λ A h. (
      let r = plus_each-has G Hs A h in
      let v = noted-to Ts note (λ X. G +ᵍ X) same is vs m r.0 (into r.0 r.1) in
      (v.0, v.1, subst (λ t. t ≡ᵍ v.0) (sym r.2) v.2)
      );
  from = λ B h. (let v = noted-from Ts note (λ X. G +ᵍ X) same is vs m B h in (G +ᵍ v.0, has-plus_each G Hs v.0 (out v.0 v.1), v.2));
}

same-trans : (G H K : Tree) → G ≡ᵍ H → H ≡ᵍ K → G ≡ᵍ K
same-trans G H K p q = (le-trans G H K p.0 q.0, le-trans K H G q.1 p.1)

-- a number is added to each option of a canonical tree that is no number
translated : (G N : Tree) → IsCanonicalTree G → (IsNumberTree G → ⊥) → IsNumberTree N → (G +ᵍ N) ≡ᵍ node (each_plus (left G) N) (each_plus (right G) N)
translated G N canonical other n =
    let hot : IsNumber G → ⊥ = λ m. other (tree-number G canonical m) in
    subst (λ t. (G +ᵍ t) ≡ᵍ node (each_plus (left G) t) (each_plus (right G) t)) (sym n.2) (translation n.0 G n.1 (cheap_left G hot n.0) (cheap_right G hot n.0))

-- the form of the options that are noted is equal to the sum
module _ (Ts : List Tree) (limit : ℕ) (note : ℕ → ℕ → Option ℕ) (right_sums : AreNotedSumsRight Ts limit note) (a b : ℕ) (first : IsCanonicalTree (tree_at Ts a)) (second : IsCanonicalTree (tree_at Ts b)) where
  A : Tree
  A = tree_at Ts a

  B : Tree
  B = tree_at Ts b

  first-same : (i v : ℕ) → note i b ≡ Some v → (tree_at Ts i +ᵍ tree_at Ts b) ≡ᵍ tree_at Ts v
  first-same i v e = let k = (right_sums i b v e).sum.1 in (k.under, k.over)

  second-same : (i v : ℕ) → note a i ≡ Some v → (tree_at Ts a +ᵍ tree_at Ts i) ≡ᵍ tree_at Ts v
  second-same i v e = let k = (right_sums a i v e).sum.1 in (k.under, k.over)

  turned-same : (i v : ℕ) → note a i ≡ Some v → (tree_at Ts i +ᵍ tree_at Ts a) ≡ᵍ tree_at Ts v
  turned-same i v e = same-trans _ (tree_at Ts a +ᵍ tree_at Ts i) _ (plus-comm (tree_at Ts i) (tree_at Ts a), plus-comm (tree_at Ts a) (tree_at Ts i)) (second-same i v e)

  both-move : (is js ks ls vs ws xs ys : List ℕ) → IsOptions Ts a is js → IsOptions Ts b ks ls
      → AreNoted (λ i. note i b) is vs → AreNoted (λ i. note i b) js ws → AreNoted (λ i. note a i) ks xs → AreNoted (λ i. note a i) ls ys
      → (tree_at Ts a +ᵍ tree_at Ts b) ≡ᵍ listed Ts (vs ++ xs) (ws ++ ys)
  both-move is js ks ls vs ws xs ys o p iv jw kx ly = alike-equal (tree_at Ts a +ᵍ tree_at Ts b) (listed Ts (vs ++ xs) (ws ++ ys))
      (by-both _ _ _ vs xs (sym (plus-left (tree_at Ts a) (tree_at Ts b)))
      (each-alike Ts (λ i. note i b) (left (tree_at Ts a)) (tree_at Ts b) is vs first-same (has-left Ts a is js o) (left-has Ts a is js o) iv)
      (plus-alike Ts (λ i. note a i) (tree_at Ts a) (left (tree_at Ts b)) ks xs second-same (has-left Ts b ks ls p) (left-has Ts b ks ls p) kx))
      (by-both _ _ _ ws ys (sym (plus-right (tree_at Ts a) (tree_at Ts b)))
      (each-alike Ts (λ i. note i b) (right (tree_at Ts a)) (tree_at Ts b) js ws first-same (has-right Ts a is js o) (right-has Ts a is js o) jw)
      (plus-alike Ts (λ i. note a i) (tree_at Ts a) (right (tree_at Ts b)) ls ys second-same (has-right Ts b ks ls p) (right-has Ts b ks ls p) ly))
    where
      by-both : (As Cs Gs : Trees) (us zs : List ℕ) → (As then Cs) ≡ Gs → AreAlike As (pick Ts us) → AreAlike Cs (pick Ts zs) → AreAlike Gs (pick Ts (us ++ zs))
      by-both As Cs Gs us zs e f g = subst (λ t. AreAlike t (pick Ts (us ++ zs))) e (subst (λ t. AreAlike (As then Cs) t) (sym (pick-append Ts us zs)) (alike-then As (pick Ts us) Cs (pick Ts zs) f g))

  first-moves : (is js vs ws : List ℕ) → IsOptions Ts a is js → IsNumberTree (tree_at Ts b) → AreNoted (λ i. note i b) is vs → AreNoted (λ i. note i b) js ws → (tree_at Ts a +ᵍ tree_at Ts b) ≡ᵍ listed Ts vs ws
  first-moves is js vs ws o n iv jw = same-trans _ _ _ (translated (tree_at Ts a) (tree_at Ts b) first o.no_number n) (alike-equal _ _
      (each-alike Ts (λ i. note i b) _ _ is vs first-same (has-left Ts a is js o) (left-has Ts a is js o) iv)
      (each-alike Ts (λ i. note i b) _ _ js ws first-same (has-right Ts a is js o) (right-has Ts a is js o) jw))

  second-moves : (is js vs ws : List ℕ) → IsOptions Ts b is js → IsNumberTree (tree_at Ts a) → AreNoted (λ i. note a i) is vs → AreNoted (λ i. note a i) js ws → (tree_at Ts a +ᵍ tree_at Ts b) ≡ᵍ listed Ts vs ws
  second-moves is js vs ws o n iv jw = same-trans _ (tree_at Ts b +ᵍ tree_at Ts a) _ (plus-comm (tree_at Ts a) (tree_at Ts b), plus-comm (tree_at Ts b) (tree_at Ts a))
      (same-trans _ _ _ (translated (tree_at Ts b) (tree_at Ts a) second o.no_number n) (alike-equal _ _
      (each-alike Ts (λ i. note a i) _ _ is vs turned-same (has-left Ts b is js o) (left-has Ts b is js o) iv)
      (each-alike Ts (λ i. note a i) _ _ js ws turned-same (has-right Ts b is js o) (right-has Ts b is js o) jw)))

  listed-as : (vs ws ms ns : List ℕ) → ms ≡ vs → ns ≡ ws → (tree_at Ts a +ᵍ tree_at Ts b) ≡ᵍ listed Ts vs ws → (tree_at Ts a +ᵍ tree_at Ts b) ≡ᵍ listed Ts ms ns
  listed-as vs ws ms ns e f h = subst (λ z. (tree_at Ts a +ᵍ tree_at Ts b) ≡ᵍ listed Ts ms z) (sym f) (subst (λ z. (tree_at Ts a +ᵍ tree_at Ts b) ≡ᵍ listed Ts z ws) (sym e) h)

  -- where not both are numbers
  sum-listed : (ls rs ms ns : List ℕ) → AddsMoves Ts (λ i. note i b) a [] [] ls rs → AddsMoves Ts (λ i. note a i) b ls rs ms ns → (IsNumberTree (tree_at Ts a) → IsNumberTree (tree_at Ts b) → ⊥) → (tree_at Ts a +ᵍ tree_at Ts b) ≡ᵍ listed Ts ms ns
  sum-listed ls rs ms ns (inl f) (inl s) other = absurd (other f.0 s.0)
  sum-listed ls rs ms ns (inl f) (inr s) other = listed-as s.3.0 s.4.0 ms ns (s.3.2 ∙ ap (λ z. z ++ s.3.0) f.1) (s.4.2 ∙ ap (λ z. z ++ s.4.0) f.2) (second-moves s.0 s.1 s.3.0 s.4.0 s.2 f.0 s.3.1 s.4.1)
  sum-listed ls rs ms ns (inr f) (inl s) other = listed-as f.3.0 f.4.0 ms ns (s.1 ∙ f.3.2) (s.2 ∙ f.4.2) (first-moves f.0 f.1 f.3.0 f.4.0 f.2 s.0 f.3.1 f.4.1)
  sum-listed ls rs ms ns (inr f) (inr s) other = listed-as (f.3.0 ++ s.3.0) (f.4.0 ++ s.4.0) ms ns (s.3.2 ∙ ap (λ z. z ++ s.3.0) f.3.2) (s.4.2 ∙ ap (λ z. z ++ s.4.0) f.4.2)
      (both-move f.0 f.1 s.0 s.1 f.3.0 f.4.0 s.3.0 s.4.0 f.2 s.2 f.3.1 f.4.1 s.3.1 s.4.1)

-- the options that are noted are ids
below-append : (n : ℕ) (xs ys : List ℕ) → AreBelow n xs → AreBelow n ys → AreBelow n (xs ++ ys)
below-append n [] ys a b j l = b j l
below-append n (x ∷ xs) ys a b zero l = a 0 (omega arith)
below-append n (x ∷ xs) ys a b (suc j) l = below-append n xs ys (λ i m. a (suc i) (omega (arith, m))) b j (omega (arith, l))

noted-below : (n : ℕ) (note : ℕ → Option ℕ) (is vs : List ℕ) → ((i v : ℕ) → note i ≡ Some v → v < n) → AreNoted note is vs → AreBelow n vs
noted-below n note [] [] f m j l = absurd (omega (arith, l))
noted-below n note [] (v ∷ vs) f m j l = absurd m
noted-below n note (i ∷ is) [] f m j l = absurd m
noted-below n note (i ∷ is) (v ∷ vs) f m zero l = f i v m.0
noted-below n note (i ∷ is) (v ∷ vs) f m (suc j) l = noted-below n note is vs f m.1 j (omega (arith, l))

moves-ids : (Ts : List Tree) (note : ℕ → Option ℕ) (id : ℕ) (ls rs ms ns : List ℕ) → ((i v : ℕ) → note i ≡ Some v → v < length Ts) → AddsMoves Ts note id ls rs ms ns → AreIds Ts ls → AreIds Ts rs → AreIds Ts ms × AreIds Ts ns
moves-ids Ts note id ls rs ms ns f (inl s) a b = (subst (AreIds Ts) (sym s.1) a, subst (AreIds Ts) (sym s.2) b)
moves-ids Ts note id ls rs ms ns f (inr s) a b = (
  subst (AreIds Ts) (sym s.3.2) (below-append (length Ts) ls s.3.0 a (noted-below (length Ts) note s.0 s.3.0 f s.3.1)),
  subst (AreIds Ts) (sym s.4.2) (below-append (length Ts) rs s.4.0 b (noted-below (length Ts) note s.1 s.4.0 f s.4.1)),
)

-- one game in another's place
pub canonical-as : (S F C : Tree) → S ≡ᵍ F → IsCanonicalFor S C → IsCanonicalFor F C
canonical-as S F C e k = record { canonical = k.canonical; under = le-trans F S C e.1 k.under; over = le-trans C S F k.over e.0 }

pub id-as : (Us : List Tree) (S F : Tree) (id : ℕ) → S ≡ᵍ F → IsCanonicalId Us F id → IsCanonicalId Us S id
id-as Us S F id e k = (k.0, canonical-as F S (tree_at Us id) (e.1, e.0) k.1)

number-past : (S F C : Tree) → S ≡ᵍ F → IsCause F 0 Bounds → IsCanonicalFor S C → HasNumberPastBounds C
number-past S F C e c k =
    let p : IsCanonicalFor F C = canonical-as S F C e k in
    let n : IsNumberTree C = tree-number C k.canonical (c.0.0, c.0.1, le-trans C F (num c.0.0 c.0.1) p.over c.0.2, le-trans (num c.0.0 c.0.1) F C c.0.3 p.under) in
    (C, n, inl refl, λ u b is. c.1 u b (subst (λ t. F ≤ᵍ t) is p.under) (subst (λ t. t ≤ᵍ F) is p.over))

pub refusal-as : (S F : Tree) (limit : ℕ) (e : FormError) → S ≡ᵍ F → IsCause F limit e → IsPairRefusal S limit e
refusal-as S F limit Parts e c = λ C k. c.1 C (canonical-as S F C e k)
refusal-as S F limit Bounds e c = λ C k. number-past S F C e c k
refusal-as S F limit (Memory cause) e c = tt

-- the options that are noted for a pair, of which not both are numbers
pub record IsPairForm (Ts : List Tree) (a b : ℕ) (ms ns : List ℕ) : Type 0 where
  pub left_ids : AreIds Ts ms
  pub right_ids : AreIds Ts ns
  pub equal : (tree_at Ts a +ᵍ tree_at Ts b) ≡ᵍ listed Ts ms ns

pub pair-form : (Ts : List Tree) (limit : ℕ) (note : ℕ → ℕ → Option ℕ) (a b : ℕ) (ks js ls rs vs ws ms ns : List ℕ) → AreNotedSumsRight Ts limit note → AreCanonical Ts → a < length Ts → b < length Ts
    → (IsNumberTree (tree_at Ts a) → IsNumberTree (tree_at Ts b) → ⊥) → ks ≡ [] → js ≡ [] → AddsMoves Ts (λ i. note i b) a ks js ls rs → AddsMoves Ts (λ i. note a i) b ls rs vs ws → ms ≡ vs → ns ≡ ws → IsPairForm Ts a b ms ns
pair-form Ts limit note a b ks js ls rs vs ws ms ns right canonical first second other none-left none-right f s e g =
    let none : AreIds Ts [] = λ j l. absurd (omega (arith, l)) in
    let moved : AddsMoves Ts (λ i. note i b) a [] [] ls rs = subst (λ z. AddsMoves Ts (λ i. note i b) a [] z ls rs) none-right (subst (λ z. AddsMoves Ts (λ i. note i b) a z js ls rs) none-left f) in
    let held = λ (i v : ℕ) (is : note i b ≡ Some v). (right i b v is).sum.0 in
    let kept = λ (i v : ℕ) (is : note a i ≡ Some v). (right a i v is).sum.0 in
    let one = moves-ids Ts (λ i. note i b) a [] [] ls rs held moved none none in
    let both = moves-ids Ts (λ i. note a i) b ls rs vs ws kept s one.0 one.1 in
    record {
      left_ids = subst (AreIds Ts) (sym e) both.0;
      right_ids = subst (AreIds Ts) (sym g) both.1;
      equal = subst (λ z. (tree_at Ts a +ᵍ tree_at Ts b) ≡ᵍ listed Ts ms z) (sym g) (subst (λ z. (tree_at Ts a +ᵍ tree_at Ts b) ≡ᵍ listed Ts z ws) (sym e)
          (sum-listed Ts limit note right a b (canonical a first) (canonical b second) ls rs vs ws moved s other));
    }

-- two numbers
number-canonical_sum : (x y : ℤ) → IsCanonicalFor (number_tree x +ᵍ number_tree y) (number_tree (x +ℤ y))
number-canonical_sum x y = record { canonical = number-canonical 60 (x +ℤ y); under = num-plus_le 60 x y; over = num-le_plus 60 x y }

pub number-sum : (Ts : List Tree) (x y z : ℤ) (id : ℕ) → z ≡ x +ℤ y → IsIdOf Ts (number_tree z) id → IsCanonicalId Ts (number_tree x +ᵍ number_tree y) id
number-sum Ts x y z id e i = (i.0, subst (IsCanonicalFor (number_tree x +ᵍ number_tree y)) (sym (i.1 ∙ ap number_tree e)) (number-canonical_sum x y))

pub number-refused : (x y : ℤ) (limit : ℕ) → (IsInBounds (x +ℤ y) → ⊥) → IsPairRefusal (number_tree x +ᵍ number_tree y) limit Bounds
number-refused x y limit past = λ C k.
    let e : C ≡ number_tree (x +ℤ y) = same-canonical (number_tree x +ᵍ number_tree y) C (number_tree (x +ℤ y)) k (number-canonical_sum x y) in
    (C, (60, x +ℤ y, e), inl refl, λ u b is. past (subst IsInBounds (number-same u (x +ℤ y) (sym is ∙ e)) b))
