-- A form of canonical options is equal as a game to the form of the options that they stand for.
use Rattle.std.proofs.Common.{ℕ, zero, suc, ◌≡◌, List, [], ◌∷◌, ◌++◌, arith, refl, inl, inr, sym, subst}
use Rattle.short_games.specs.Tree.{Tree, Trees, node, none, more, Has, ◌then◌, tree_at}
use Rattle.short_games.specs.Number.{num, IsNumber, number_tree}
use Rattle.short_games.specs.Order.{◌≤ᵍ◌}
use Rattle.short_games.specs.TextOrder.{IsCanonicalFor}
use Rattle.game_store.specs.Meaning.{pick, listed, AreIds, Extends}
use Rattle.short_games.specs.Parts.{HasMoreParts}
use Rattle.short_games.proofs.OrderLaws.{le-trans}
use Rattle.short_games.proofs.FormLaws.{by_better}
use Rattle.short_games.proofs.ReductionLaws.{canonical-same}
use Rattle.game_canon.specs.Outcomes.{IsCanonicalId, IsPastBounds, IsCause}
use Rattle.game_canon.specs.declared.errors.FormError.TheVariants.{Parts}
use Rattle.game_text.specs.Reading.{IsClosed}
use Rattle.game_text.specs.Reading.Outcome.{reads, refused}
use Rattle.game_text.specs.Reading.Fault.{too_many_parts, past_bounds}
use Rattle.game_text.specs.Reading.IsClosed.{taken, with_many_parts, far}
use Rattle.game_text.specs.inner.Machine.{AreNamed}

-- the canonical tree of an option, and the option of a canonical tree
named-to : (Ts : List Tree) (Gs : Trees) (is : List ℕ) → AreNamed Ts Gs is → (X : Tree) → Has Gs X → (Y : Tree) × Has (pick Ts is) Y × (X ≤ᵍ Y) × (Y ≤ᵍ X)
named-to Ts none is a X h = absurd h
named-to Ts (more G Gs) [] a X h = absurd a
named-to Ts (more G Gs) (i ∷ is) a X (inl e) = (tree_at Ts i, inl refl, subst (λ z. z ≤ᵍ tree_at Ts i) (sym e) a.0.1.under, subst (λ z. tree_at Ts i ≤ᵍ z) (sym e) a.0.1.over)
named-to Ts (more G Gs) (i ∷ is) a X (inr h) = let r = named-to Ts Gs is a.1 X h in (r.0, inr r.1, r.2, r.3)

named-from : (Ts : List Tree) (Gs : Trees) (is : List ℕ) → AreNamed Ts Gs is → (Y : Tree) → Has (pick Ts is) Y → (X : Tree) × Has Gs X × (X ≤ᵍ Y) × (Y ≤ᵍ X)
named-from Ts none [] a Y h = absurd h
named-from Ts none (i ∷ is) a Y h = absurd a
named-from Ts (more G Gs) [] a Y h = absurd a
named-from Ts (more G Gs) (i ∷ is) a Y (inl e) = (G, inl refl, subst (λ z. G ≤ᵍ z) (sym e) a.0.1.under, subst (λ z. z ≤ᵍ G) (sym e) a.0.1.over)
named-from Ts (more G Gs) (i ∷ is) a Y (inr h) = let r = named-from Ts Gs is a.1 Y h in (r.0, inr r.1, r.2, r.3)

pub named-ids : (Ts : List Tree) (Gs : Trees) (is : List ℕ) → AreNamed Ts Gs is → AreIds Ts is
named-ids Ts none [] a j l = absurd (omega (arith, l))
named-ids Ts none (i ∷ is) a j l = absurd a
named-ids Ts (more G Gs) [] a j l = absurd a
named-ids Ts (more G Gs) (i ∷ is) a zero l = a.0.0
named-ids Ts (more G Gs) (i ∷ is) a (suc j) l = named-ids Ts Gs is a.1 j (omega (arith, l))

-- one more
pub named-more : (Ts : List Tree) (Gs : Trees) (is : List ℕ) (G : Tree) (i : ℕ) → AreNamed Ts Gs is → IsCanonicalId Ts G i → AreNamed Ts (Gs then more G none) (is ++ i ∷ [])
named-more Ts none [] G i a c = (c, tt)
named-more Ts none (j ∷ is) G i a c = absurd a
named-more Ts (more H Hs) [] G i a c = absurd a
named-more Ts (more H Hs) (j ∷ is) G i a c = (a.0, named-more Ts Hs is G i a.1 c)

pub canonical-kept : (Ts Us : List Tree) (G : Tree) (i : ℕ) → Extends Ts Us → IsCanonicalId Ts G i → IsCanonicalId Us G i
canonical-kept Ts Us G i x c = (omega (arith, c.0, x.longer), subst (IsCanonicalFor G) (sym (x.same i c.0)) c.1)

pub named-kept : (Ts Us : List Tree) (Gs : Trees) (is : List ℕ) → Extends Ts Us → AreNamed Ts Gs is → AreNamed Us Gs is
named-kept Ts Us none [] x a = tt
named-kept Ts Us none (i ∷ is) x a = a
named-kept Ts Us (more G Gs) [] x a = a
named-kept Ts Us (more G Gs) (i ∷ is) x a = (canonical-kept Ts Us G i x a.0, named-kept Ts Us Gs is x a.1)

module _ (Ts : List Tree) (Ls Rs : Trees) (ls rs : List ℕ) (a : AreNamed Ts Ls ls) (b : AreNamed Ts Rs rs) where
  under : node Ls Rs ≤ᵍ listed Ts ls rs
  under = by_better (node Ls Rs) (listed Ts ls rs) (λ L h. (let r = named-to Ts Ls ls a L h in (r.0, r.1, r.2))) (λ S h. (let r = named-from Ts Rs rs b S h in (r.0, r.1, r.2)))

  over : listed Ts ls rs ≤ᵍ node Ls Rs
  over = by_better (listed Ts ls rs) (node Ls Rs) (λ L h. (let r = named-from Ts Ls ls a L h in (r.0, r.1, r.3))) (λ S h. (let r = named-to Ts Rs rs b S h in (r.0, r.1, r.3)))

  number-listed : IsNumber (node Ls Rs) → IsNumber (listed Ts ls rs)
  number-listed n = (n.0, n.1, le-trans (listed Ts ls rs) (node Ls Rs) (num n.0 n.1) over n.2, le-trans (num n.0 n.1) (node Ls Rs) (listed Ts ls rs) n.3 under)

  number-node : IsNumber (listed Ts ls rs) → IsNumber (node Ls Rs)
  number-node n = (n.0, n.1, le-trans (node Ls Rs) (listed Ts ls rs) (num n.0 n.1) under n.2, le-trans (num n.0 n.1) (listed Ts ls rs) (node Ls Rs) n.3 over)

  past-node : IsPastBounds (listed Ts ls rs) → IsPastBounds (node Ls Rs)
  past-node p = (number-node p.0, λ x i q r. p.1 x i (le-trans (listed Ts ls rs) (node Ls Rs) (number_tree x) over q) (le-trans (number_tree x) (node Ls Rs) (listed Ts ls rs) r under))

  past-listed : IsPastBounds (node Ls Rs) → IsPastBounds (listed Ts ls rs)
  past-listed p = (number-listed p.0, λ x i q r. p.1 x i (le-trans (node Ls Rs) (listed Ts ls rs) (number_tree x) under q) (le-trans (number_tree x) (listed Ts ls rs) (node Ls Rs) r over))

  canonical-listed : (C : Tree) → IsCanonicalFor (node Ls Rs) C → IsCanonicalFor (listed Ts ls rs) C
  canonical-listed C c = record { canonical = c.canonical; under = le-trans (listed Ts ls rs) (node Ls Rs) C over c.under; over = le-trans C (node Ls Rs) (listed Ts ls rs) c.over under }

  pub canonical-node : (C : Tree) → IsCanonicalFor (listed Ts ls rs) C → IsCanonicalFor (node Ls Rs) C
  canonical-node C c = record { canonical = c.canonical; under = le-trans (node Ls Rs) (listed Ts ls rs) C under c.under; over = le-trans C (listed Ts ls rs) (node Ls Rs) c.over over }

  -- the form is closed as the canonical form is found
  pub closed-taken : (Us : List Tree) (limit id : ℕ) (rest : List ℕ) → IsCanonicalId Us (listed Ts ls rs) id → (IsPastBounds (listed Ts ls rs) → ⊥) → (HasMoreParts (tree_at Us id) limit → ⊥) → IsClosed limit (node Ls Rs) rest (reads (node Ls Rs) rest)
  closed-taken Us limit id rest c f g = taken (λ p. f (past-listed p)) (λ C d h. (
      let same : C ≡ tree_at Us id = canonical-same C (tree_at Us id) d.canonical c.1.canonical (le-trans C (node Ls Rs) (tree_at Us id) d.over (canonical-node (tree_at Us id) c.1).under) (le-trans (tree_at Us id) (node Ls Rs) C (canonical-node (tree_at Us id) c.1).over d.under) in
      g (subst (λ z. HasMoreParts z limit) same h)
      ))

  pub closed-many : (limit : ℕ) (rest : List ℕ) → IsCause (listed Ts ls rs) limit Parts → IsClosed limit (node Ls Rs) rest (refused too_many_parts)
  closed-many limit rest c = with_many_parts ((λ n. c.0 (number-listed n)), λ C d. c.1 C (canonical-listed C d))

  pub closed-far : (limit : ℕ) (rest : List ℕ) → IsPastBounds (listed Ts ls rs) → IsClosed limit (node Ls Rs) rest (refused past_bounds)
  closed-far limit rest p = far (past-node p)
