-- What is written of a store's id is read back as the id.
use Rattle.std.proofs.Common.{ℕ, ◌<◌, ◌≡◌, List, length, arith, refl, inl, inr, sym, ◌∙◌, subst, ℤ}
use Rattle.std.specs.Prelude.{Result, Ok}
use Rattle.dyadic_num.specs.Units.{IsInBounds}
use Rattle.short_games.specs.Tree.{Tree, tree_at, AreDistinct}
use Rattle.short_games.specs.Number.{IsNumberTree, number_tree}
use Rattle.short_games.specs.TextOrder.{tree_text}
use Rattle.game_store.specs.Meaning.{Wanted, Extends}
use Rattle.game_store.specs.Meaning.Wanted.{number, options}
use Rattle.game_store.specs.Forms.{HaveForms, IsMeaning, IsWithinBounds}
use Rattle.short_games.specs.Parts.{IsOption, IsFollower}
use Rattle.short_games.specs.Parts.IsFollower.{itself, further}
use Rattle.game_store.proofs.EntryLaws.{has-pick}
use Rattle.short_games.proofs.ReductionLaws.{canonical-same}
use Rattle.game_canon.specs.Outcomes.{IsCanonicalId}
use Rattle.game_canon.proofs.GameLaws.{has-left, has-right}
use Rattle.game_canon.proofs.ReachableLaws.{hot-before}
use Rattle.game_text.specs.Reading.{Fault, Names}
use Rattle.game_text.specs.Laws.{HasNumbersWithinBounds, IsReadable}
use Rattle.game_text.proofs.OneReadingLaws.{one-reading}
use Rattle.game_text.proofs.RoundTripLaws.{round-trip}

abbrev IsStored : List Tree → Tree → Type 0
IsStored Ts X = (j : ℕ) × (j < length Ts) × (X ≡ tree_at Ts j)

module _ (Ts : List Tree) (forms : HaveForms Ts) where
  -- the options of a form that is no number are stored
  option-stored : (i : ℕ) (X : Tree) → i < length Ts → (IsNumberTree (tree_at Ts i) → ⊥) → IsOption (tree_at Ts i) X → IsStored Ts X
  option-stored i X l f o = let h = forms i l in at h.0 h.1 o
    where
      at : (w : Wanted) → IsMeaning Ts i w → IsOption (tree_at Ts i) X → IsStored Ts X
      at (number x) m o = absurd (f (60, x, m))
      at (options ls rs) m (inl h) = let r = has-pick Ts ls X (has-left Ts i ls rs m X h) in (_, omega (arith, m.left_below r.0 r.1, l), r.2)
      at (options ls rs) m (inr h) = let r = has-pick Ts rs X (has-right Ts i ls rs m X h) in (_, omega (arith, m.right_below r.0 r.1, l), r.2)

  follower-stored : (G P : Tree) → IsFollower G P → (IsNumberTree P → ⊥) → IsStored Ts G → IsStored Ts P
  follower-stored _ _ (itself G) f s = s
  follower-stored _ _ (further G H P o p) f s = follower-stored H P p f (option-stored s.0 H s.1 (λ n. hot-before G P (further G H P o p) f (subst IsNumberTree (sym s.2) n)) (subst (λ z. IsOption z H) s.2 o))

  -- a number that is stored is within the bounds
  number-within : (N : Tree) → IsNumberTree N → IsStored Ts N → (u : ℤ) × IsInBounds u × (N ≡ number_tree u)
  number-within N n s = let h = forms s.0 s.1 in at h.0 h.1 h.2
    where
      at : (w : Wanted) → IsMeaning Ts s.0 w → IsWithinBounds w → (u : ℤ) × IsInBounds u × (N ≡ number_tree u)
      at (number x) m b = (x, b, s.2 ∙ m)
      at (options ls rs) m b = absurd (m.no_number (subst IsNumberTree s.2 n))

  pub stored-bounds : (id : ℕ) → id < length Ts → HasNumbersWithinBounds (tree_at Ts id)
  stored-bounds id l N n (inl e) = number-within N n (id, l, e)
  stored-bounds id l N n (inr (P, p, o)) =
      let s = follower-stored (tree_at Ts id) P p.0 p.1 (id, l, refl) in
      number-within N n (option-stored s.0 N s.1 (λ m. p.1 (subst IsNumberTree (sym s.2) m)) (subst (λ z. IsOption z N) s.2 o))

ok-same : (G H : Tree) → ◌≡◌ {A = Result Tree Fault} (Ok G) (Ok H) → G ≡ H
ok-same G H e = cc

pub ids-back : (limit : ℕ) (Ts Us : List Tree) (id back : ℕ) (G : Tree) → id < length Ts → IsReadable limit (tree_at Ts id) → Extends Ts Us → AreDistinct Us → Names limit (tree_text (tree_at Ts id)) G → IsCanonicalId Us G back → back ≡ id
ids-back limit Ts Us id back G l r x d n c =
    let same : G ≡ tree_at Ts id = ok-same G (tree_at Ts id) (one-reading limit (tree_text (tree_at Ts id)) (Ok G) (Ok (tree_at Ts id)) n (round-trip limit (tree_at Ts id) r)) in
    let k : IsCanonicalId Us (tree_at Ts id) back = subst (λ z. IsCanonicalId Us z back) same c in
    d back id c.0 (omega (arith, l, x.longer)) (canonical-same (tree_at Us back) (tree_at Ts id) k.1.canonical r.canonical k.1.over k.1.under ∙ sym (x.same id l))
