-- What a search remembers stays right.
use Rattle.std.proofs.Common.{ℕ, ℤ, ◌≡◌, ◌↔◌, ◌<◌, arith, inl, inr, refl, sym, ap, subst, ◌∙◌, List, [], ◌∷◌, ◌++◌, suc, length, cond, Bool, true, false, ◌&&◌, IsTrue, Option, Some, None, Result, Ok, Err, OnOk, OnErr, IfSome, nat_eq}
use Rattle.std.specs.List.{Contains}
use Rattle.std.specs.List.Sorted.{IsPermutation}
use Rattle.std.proofs.lemmas.List.Elements.{All-get_or, All-from_get_or, All-push}
use Rattle.std.proofs.lemmas.List.Sorted.{All-permutation}
use Rattle.std.specs.Map.{lookup}
use Rattle.std.specs.Str.{bytes_eq}
use Rattle.std.specs.Ordering.{int_eq}
use Rattle.std.specs.Cmp.{booleans_Decides}
use Rattle.std.proofs.Math.Bool.{beq}
use Rattle.std.proofs.lemmas.Bool.Decides.{Decides-eqb, Decides-int_eq}
use Rattle.std.proofs.lemmas.Slice.Eq.{bytes_eq-Decides}
use Rattle.lru.specs.LruCache.{LruCache, lru_cache, put_entries, promoted}
use Rattle.lru.proofs.CallerLemmas.{Contains-lookup, Contains-put_entries, Contains-promoted}
use Rattle.go_grid.specs.declared.grid.Colour.{Colour}
use Rattle.go_grid.specs.declared.grid.Colour.TheVariants.{Black, White}
use Rattle.short_games.specs.Tree.{Tree, more}
use Rattle.short_games.specs.Order.{◌≤ᵍ◌}
use Rattle.short_games.specs.Sum.{◌+ᵍ◌, total}
use Rattle.short_games.specs.SumLaws.{incentive}
use Rattle.game_store.specs.Meaning.{pick, AreIds, Extends}
use Rattle.short_games.specs.Number.{number_tree}
use Rattle.game_players.specs.Players.{LosesGame}
use Rattle.game_players.proofs.PlayerLaws.{loses-same}
use Rattle.short_games.proofs.OrderLaws.{same-sym}
use Rattle.game_canon.proofs.SumQuestionLaws.{right_grown}
use Rattle.sum_outcome.specs.Sums.{sum_tree}
use Rattle.sum_outcome.specs.Incentives as pairs
use Rattle.sum_outcome.specs.inner.Incentives.{IsKnownRight}
use Rattle.sum_outcome.specs.Opposites.{IsZero}
use Rattle.sum_outcome.specs.Memo.{key_tree, mover_of_key, IsAnswer, AreAnswers, FitsGrownStores}
use Rattle.sum_outcome.specs.inner.Memo.{NoneIsNew, IsRight, StaysRight, IsKeyOf, AreSame, IsAmong, AreKept}
use Rattle.sum_outcome.specs.declared.key.Key.{Key}
use Rattle.sum_outcome.specs.declared.memo.Memo.{Memo}
use Rattle.sum_outcome.specs.declared.incentives.MovePair.{MovePair}
use Rattle.sum_outcome.specs.declared.incentives.Incentives.{Incentives}

both : (p q : Bool) → (p && q) ≡ true → (p ≡ true) × (q ≡ true)
both true q t = (refl, t)
both false q t = cc

-- keys are the same where the test says so
abbrev pub same_key : Key → Key → Bool
same_key a b = bytes_eq a.games.items b.games.items && (int_eq a.number b.number && beq a.black b.black)

pub same_key-are : (a b : Key) → same_key a b ≡ true → AreSame b a
same_key-are a b e =
    let p = both (bytes_eq a.games.items b.games.items) (int_eq a.number b.number && beq a.black b.black) e in
    let q = both (int_eq a.number b.number) (beq a.black b.black) p.1 in record {
      games = sym ((bytes_eq-Decides a.games.items b.games.items).0 p.0);
      number = sym ((Decides-int_eq a.number b.number).0 q.0);
      black = sym ((booleans_Decides a.black b.black).0 q.1);
    }

-- and so are pairs of moves
abbrev pub same_moves : MovePair → MovePair → Bool
same_moves p q = nat_eq p.game q.game && (nat_eq p.option q.option && (nat_eq p.other q.other && nat_eq p.other_option q.other_option))

pub same_moves-are : (p q : MovePair) → same_moves p q ≡ true → q ≡ p
same_moves-are p q e =
    let a = both (nat_eq p.game q.game) _ e in
    let b = both (nat_eq p.option q.option) _ a.1 in
    let c = both (nat_eq p.other q.other) (nat_eq p.other_option q.other_option) b.1 in
    let game = sym ((Decides-eqb p.game q.game).0 a.0) in
    let option = sym ((Decides-eqb p.option q.option).0 b.0) in
    let other = sym ((Decides-eqb p.other q.other).0 c.0) in
    let other_option = sym ((Decides-eqb p.other_option q.other_option).0 c.1) in
    λ i. record { game = game i; option = option i; other = other i; other_option = other_option i }

module _ {K : Type 0} (Same : K → K → Type 0) where
  -- what a look-up finds is among the entries
  pub found : (test : K → Bool) (key : K) → ((k : K) → test k ≡ true → Same k key)
      → (entries : List (K × Bool)) (r : Option Bool) → r ≡ lookup test entries → IfSome r (λ answer. IsAmong Same entries key answer)
  found test key same entries None e = tt
  found test key same entries (Some answer) e =
      let w = Contains-lookup test entries answer (sym e) in ((w.0, answer), w.1, same w.0 w.2, refl)

  -- what stands after an answer was put
  pub put_kept : {E : Type 0} (eq : K → K → Bool) → ((x y : K) → eq x y ≡ true → Same y x)
      → ((x : K) → Same x x) → (before now : LruCache K Bool) (k : K) (answer : Bool) (r : Result (Option Bool) E)
      → OnOk r (now ≡ lru_cache (put_entries eq before k answer) before.cap) → OnErr r (now ≡ before) → AreKept Same before.entries k answer now.entries
  put_kept eq same itself before now k answer (Err x) ok err e among = inl (subst (λ c. Contains c.entries e) err among)
  put_kept eq same itself before now k answer (Ok x) ok err e among = elim (Contains-put_entries eq before k answer e (subst (λ c. Contains c.entries e) ok among)) [
    | inl was ↦ inl was
    | inr (is, inl key) ↦ inr (subst (λ z. Same z k) (sym key) (itself k), is)
    | inr (is, inr (old, there, key)) ↦ inr (same k e.0 key, is)
  ]

-- what stands after an answer was put, where others had given way
pub kept_later : {K : Type 0} (Same : K → K → Type 0) (before middle now : List (K × Bool)) (k : K) (answer : Bool)
    → NoneIsNew before middle → AreKept Same middle k answer now → AreKept Same before k answer now
kept_later Same before middle now k answer none kept e among = elim (kept e among) [ inl was ↦ inl (none e was) | inr new ↦ inr new ]

pub none_new : {K : Type 0} (test : K → Bool) (before now : LruCache K Bool) → now ≡ lru_cache (promoted test before.entries) before.cap → NoneIsNew before.entries now.entries
none_new test before now e x among = Contains-promoted test before.entries x (subst (λ c. Contains c.entries x) e among)

-- the sums of keys that are the same
same_tree : (Ts : List Tree) (a b : Key) → AreSame a b → key_tree Ts a ≡ key_tree Ts b
same_tree Ts a b s = ap (λ l. sum_tree Ts l a.number) s.games ∙ ap (λ x. sum_tree Ts b.games.items x) s.number

-- an answer for one of them is one for the other
same_answer : (Ts : List Tree) (a b : Key) (lost : Bool) → AreSame a b → IsAnswer Ts a lost → IsAnswer Ts b lost
same_answer Ts a b lost s w = (
  subst (λ l. AreIds Ts l) s.games w.0,
  subst (λ c. IsTrue lost ↔ LosesGame c (key_tree Ts b)) (ap (λ z. cond z Black White) s.black) (subst (λ t. IsTrue lost ↔ LosesGame (mover_of_key a) t) (same_tree Ts a b s) w.1),
)

-- an answer that is found is right
pub answer_found : (Ts : List Tree) (entries : List (Key × Bool)) (key : Key) (lost : Bool) → IsAmong AreSame entries key lost → AreAnswers Ts entries → IsAnswer Ts key lost
answer_found Ts entries key lost (e, among, same, is) right = same_answer Ts e.0 key lost same (subst (λ b. IsAnswer Ts e.0 b) is (right e among))

-- answers stay right where a right one is put
pub answers_kept : (Ts : List Tree) (before now : List (Key × Bool)) (key : Key) (lost : Bool)
    → IsAnswer Ts key lost → AreKept AreSame before key lost now → AreAnswers Ts before → AreAnswers Ts now
answers_kept Ts before now key lost answer kept right e among = elim (kept e among) as (λ _. IsAnswer Ts e.0 e.1) [
  | inl was ↦ right e was
  | inr (same, is) ↦ subst (λ b. IsAnswer Ts e.0 b) (sym is) (same_answer Ts key e.0 lost (turned same) answer)
]
  where
    turned : {a b : Key} → AreSame a b → AreSame b a
    turned s = record { games = sym s.games; number = sym s.number; black = sym s.black }

pub incentives_kept : (Ts : List Tree) (before now : List (MovePair × Bool)) (pair : MovePair) (answer : Bool)
    → pairs.IsAnswer Ts pair answer → AreKept (λ p q. p ≡ q) before pair answer now → pairs.AreIncentivesRight Ts before → pairs.AreIncentivesRight Ts now
incentives_kept Ts before now pair answer right kept was e among = elim (kept e among) as (λ _. pairs.IsAnswer Ts e.0 e.1) [
  | inl old ↦ was e old
  | inr (same, is) ↦ subst (λ b. pairs.IsAnswer Ts e.0 b) (sym is) (subst (λ p. pairs.IsAnswer Ts p answer) (sym same) right)
]

-- a sum and its key
pub from_key : (Ts : List Tree) (ids : List ℕ) (x : ℤ) (c : Colour) (key : Key) (lost : Bool) → IsKeyOf Ts ids x c key → (IsTrue lost ↔ LosesGame (mover_of_key key) (key_tree Ts key)) → IsTrue lost ↔ LosesGame c (sum_tree Ts ids x)
from_key Ts ids x c key lost k a = (
  λ e. loses-same c (key_tree Ts key) (sum_tree Ts ids x) (same-sym (sum_tree Ts ids x) (key_tree Ts key) k.same) (subst (λ d. LosesGame d (key_tree Ts key)) k.mover (a.0 e)),
  λ l. a.1 (subst (λ d. LosesGame d (key_tree Ts key)) (sym k.mover) (loses-same c (sum_tree Ts ids x) (key_tree Ts key) k.same l)),
)

pub to_key : (Ts : List Tree) (ids : List ℕ) (x : ℤ) (c : Colour) (key : Key) (lost : Bool) → IsKeyOf Ts ids x c key → (IsTrue lost ↔ LosesGame c (sum_tree Ts ids x)) → IsAnswer Ts key lost
to_key Ts ids x c key lost k a = (
  k.known,
  (
    λ e. subst (λ d. LosesGame d (key_tree Ts key)) (sym k.mover) (loses-same c (sum_tree Ts ids x) (key_tree Ts key) k.same (a.0 e)),
    λ l. a.1 (loses-same c (key_tree Ts key) (sum_tree Ts ids x) (same-sym (sum_tree Ts ids x) (key_tree Ts key) k.same) (subst (λ d. LosesGame d (key_tree Ts key)) k.mover l)),
  ),
)

-- what fits once, and again after each step
pub stays : (Ts : List Tree) (a : Memo) → IsRight Ts a → StaysRight Ts a a
stays Ts a right = record { right = right; sums = refl; incentives = refl }

pub stays_on : (Ts : List Tree) (a b c : Memo) → StaysRight Ts a b → StaysRight Ts b c → StaysRight Ts a c
stays_on Ts a b c p q = record { right = q.right; sums = q.sums ∙ p.sums; incentives = q.incentives ∙ p.incentives }

pub incentives_changed : (Ts : List Tree) (a b : Memo) (now : Incentives) → StaysRight Ts a b → IsKnownRight Ts now → now.answers.cap ≡ b.incentives.answers.cap
    → StaysRight Ts a (record { sums = b.sums; incentives = now; zero = b.zero; held = b.held; alloc = b.alloc })
incentives_changed Ts a b now w right cap = record { right = record { sums = w.right.sums; incentives = right.0; comparisons = right.1; zero = w.right.zero }; sums = w.sums; incentives = cap ∙ w.incentives }

-- more forms change nothing
pick-extends : (Ts Us : List Tree) (is : List ℕ) → Extends Ts Us → AreIds Ts is → pick Us is ≡ pick Ts is
pick-extends Ts Us [] x are = refl
pick-extends Ts Us (i ∷ is) x are =
    let first = x.same i (are 0 (omega arith)) in
    let rest = pick-extends Ts Us is x (λ j l. are (suc j) (omega (arith, l))) in λ k. more (first k) (rest k)

grown_ids : (Ts Us : List Tree) (is : List ℕ) → Extends Ts Us → AreIds Ts is → AreIds Us is
grown_ids Ts Us is x are j l = omega (arith, are j l, x.longer)

zero_grown : (Ts Us : List Tree) (o : Option ℕ) → Extends Ts Us → IsZero Ts o → IsZero Us o
zero_grown Ts Us None x w = tt
zero_grown Ts Us (Some z) x w = (omega (arith, w.0, x.longer), x.same z w.0 ∙ w.1)

pub fits_grown : FitsGrownStores
fits_grown Ts Us search x fits = record {
  sums = λ e among. (let w = fits.sums e among in (
    grown_ids Ts Us e.0.games.items x w.0,
    subst (λ t. IsTrue e.1 ↔ LosesGame (mover_of_key e.0) t) (ap (λ g. total g +ᵍ number_tree e.0.number) (sym (pick-extends Ts Us e.0.games.items x w.0))) w.1,
  ));
  incentives = λ e among. (
      let w = fits.incentives e among in
      let game = x.same e.0.game w.0.game_id in
      let option = x.same e.0.option w.0.option_id in
      let other = x.same e.0.other w.0.other_id in
      let other_option = x.same e.0.other_option w.0.other_option_id in (
        record {
          game_id = omega (arith, w.0.game_id, x.longer);
          option_id = omega (arith, w.0.option_id, x.longer);
          other_id = omega (arith, w.0.other_id, x.longer);
          other_option_id = omega (arith, w.0.other_option_id, x.longer);
        },
        subst (λ t. IsTrue e.1 ↔ t) (λ i. incentive (sym other i) (sym other_option i) ≤ᵍ incentive (sym game i) (sym option i)) w.1,
      ));
  comparisons = right_grown Ts Us search.comparisons x fits.comparisons;
  zero = zero_grown Ts Us search.zero x fits.zero;
}

-- ids put in another order
pub ids_permuted : (Ts : List Tree) (xs ys : List ℕ) → IsPermutation xs ys → AreIds Ts xs → AreIds Ts ys
ids_permuted Ts xs ys p are = λ j l. All-get_or (λ i. i < length Ts) ys j 0 l (All-permutation (λ i. i < length Ts) xs ys p (All-from_get_or (λ i. i < length Ts) xs 0 are))

pub ids_pushed : (Ts : List Tree) (xs : List ℕ) (i : ℕ) → AreIds Ts xs → i < length Ts → AreIds Ts (xs ++ i ∷ [])
ids_pushed Ts xs i are known = λ j l. All-get_or (λ i. i < length Ts) (xs ++ i ∷ []) j 0 l (All-push (λ i. i < length Ts) xs i (All-from_get_or (λ i. i < length Ts) xs 0 are) known)
