-- The named text of a canonical tree names a game whose canonical tree it is.
use Rattle.std.proofs.Common.{ℕ, zero, suc, ◌+◌, ◌/◌, ◌%◌, ◌^◌, ◌<◌, ◌≤◌, ◌≡◌, List, [], ◌∷◌, ◌++◌, length, arith, refl, inl, inr, sym, ◌∙◌, ap, ap₂, subst, ℤ, pos, negsuc, neg_ℤ, ◌*ℤ◌, ◌<ℤ◌, Some, None, Bool, true, false, cond, append-nil}
use Rattle.std.specs.Prelude.{Option, max, nat_lt, Result, Ok}
use Rattle.std.proofs.lemmas.Bool.{cases_lt, ltb-true, ltb-false, true≢false}
use Rattle.std.proofs.lemmas.Int.{ints, by_lt_z}
use Rattle.short_games.specs.Tree.{Tree, Trees, node, none, more, left, right, Has, neg, size, tree_at, AreDistinct}
use Rattle.short_games.specs.Order.{◌≤ᵍ◌, ◌≡ᵍ◌}
use Rattle.short_games.specs.Number.{num, IsNumberTree, number_tree}
use Rattle.short_games.specs.NumberText.{Fraction, guess, digits_within, digits, fraction_text, text_of_number, number_text}
use Rattle.short_games.specs.Text.{open_brace, bar, close_brace, comma}
use Rattle.short_games.specs.TextOrder.{tree_text, TextBefore, IsCanonicalTree, IsCanonicalFor}
use Rattle.game_store.specs.Meaning.{Extends}
use Rattle.short_games.specs.Parts.{IsOption, HasMoreParts}
use Rattle.short_games.specs.Parts.IsFollower.{itself}
use Rattle.short_games.proofs.FormLaws.{by_better}
use Rattle.short_games.proofs.NumberLaws.{odd-neg, num-left, num-right, num-le, num-lt, neg-num, num-zero}
use Rattle.short_games.proofs.NumberTextLaws.{number_of-is}
use Rattle.short_games.proofs.OrderLaws.{le-refl, le-trans, size-left, size-right}
use Rattle.short_games.proofs.ReductionLaws.{canonical-number, canonical-same}
use Rattle.short_games.proofs.CanonicalLaws.{canonical-left, canonical-right}
use Rattle.short_games.proofs.TextOrderLaws.{text-order}
use Rattle.game_canon.specs.Outcomes.{IsCanonicalId}
use Rattle.game_text.specs.Depth.{most_open}
use Rattle.game_text.specs.NamedText.{nimber, up, down, switch, is_positive, nimber_name, name, named_text, named_texts, named_depth_or, named_depth, named_depths}
use Rattle.game_text.specs.Laws.{HasNumbersWithinBounds, IsReadableByName}
use Rattle.game_text.specs.Reading.{IsNumberByte, AreNumberBytes, AreDigitBytes, EndsDigits, EndsNumber, Fault, Side, left_side, right_side, mark_of, switch_below, most_nimber, BeginsOtherwise, IsClosed, ReadsGame, ReadsOptions, ReadsMore, Names}
use Rattle.game_text.specs.Reading.Outcome.{reads}
use Rattle.game_text.specs.Reading.IsClosed.{taken}
use Rattle.game_text.specs.Reading.ReadsNimber.{of_one, of_number}
use Rattle.game_text.specs.Reading.ReadsSwitch.{of_negative}
use Rattle.game_text.specs.Reading.ReadsName.{a_nimber as nimber_name_is, an_up as up_is, a_down as down_is, a_switch as switch_is}
use Rattle.game_text.specs.Reading.ReadsGame.{number, form, name as named}
use Rattle.game_text.specs.Reading.ReadsOptions.{no_option, first}
use Rattle.game_text.specs.Reading.ReadsMore.{no_more, next}
use Rattle.game_text.specs.Reading.ReadsText.{whole_text}
use Rattle.game_text.proofs.NumberTextLaws.{IsReduced, guess-num, number_of-num, no_spare, once, text-number}
use Rattle.game_text.proofs.NimberLaws.{nimber-no_number}
use Rattle.game_text.proofs.NimberPartLaws.{many-parts}
use Rattle.game_text.proofs.SpelledTextLaws.{IsSpelled, plain, braced, IsPlain, behind_commas, row, braces-row}
use Rattle.game_text.proofs.TextListLaws.{In}
use Rattle.game_text.proofs.NameKindLaws.{IsNamed, a_number, a_nimber, an_up, a_down, a_switch, is-named}
use Rattle.game_text.proofs.NamedLaws.{text-named, text-unnamed, in-named, named-in, spelled-text, named-one_to_one}
use Rattle.game_text.proofs.FoundNameLaws.{up-no_number, down-no_number}
use Rattle.game_text.proofs.WritingSteps.{named-num}
use Rattle.game_text.proofs.SpellingLaws.{number-bytes}
use Rattle.game_text.proofs.OneReadingLaws.{one-reading}
use Rattle.game_text.proofs.RoundTripLaws.{numbers-option, parts-option}

-- the bytes of digits
digits-more : (steps n : ℕ) (s : List ℕ) → n < steps → AreDigitBytes s → AreDigitBytes (digits_within steps n s)
unfolding digits_within
digits-more zero n s l d = absurd (omega (arith, l))
digits-more (suc steps) n s l d = at (nat_lt n 10) refl (λ p. digits-more steps (n / 10) ((48 + n % 10) ∷ s) (omega (arith, l, ltb-false n 10 p)) ((omega arith, omega arith), d))
  where
    at : (b : Bool) → nat_lt n 10 ≡ b → (nat_lt n 10 ≡ false → AreDigitBytes (digits_within steps (n / 10) ((48 + n % 10) ∷ s))) → AreDigitBytes (cond b ((48 + n) ∷ s) (digits_within steps (n / 10) ((48 + n % 10) ∷ s)))
    at true p f = ((omega arith, omega (arith, ltb-true n 10 p)), d)
    at false p f = f p

ends-digits : (s : List ℕ) → EndsNumber s → EndsDigits s
ends-digits [] e = tt
ends-digits (x ∷ xs) e = λ d. e (inr (omega (arith, d.0), d.1))

-- the text of a number's negative
negative : (m : ℤ) (e : ℕ) → is_positive m ≡ true → fraction_text (record { exponent = e; numerator = neg_ℤ m }) ≡ 45 ∷ fraction_text (record { exponent = e; numerator = m })
negative (pos zero) e p = absurd (true≢false (sym p))
negative (pos (suc n)) e p = refl
negative (negsuc n) e p = absurd (true≢false (sym p))

negative-text : (x : Fraction) → is_positive x.numerator ≡ true → guess (num x.exponent x.numerator) ≡ x → number_text (num x.exponent (neg_ℤ x.numerator)) ≡ Some (45 ∷ fraction_text x)
negative-text x p g =
    let r : IsReduced x.exponent x.numerator x = subst (IsReduced x.exponent x.numerator) g (guess-num x.exponent x.numerator) in
    let y = number_of-num x.exponent (neg_ℤ x.numerator) in
    let same : y.0.exponent ≡ x.exponent = elim r.least [
      | inl z ↦ omega (arith, z, y.1.exponents)
      | inr f ↦ no_spare x.exponent (neg_ℤ x.numerator) y.0 y.1 (odd-neg x.numerator f).0
    ] in
    let none_spare : y.1.spare ≡ 0 = omega (arith, same, y.1.exponents) in
    let numerator : y.0.numerator ≡ neg_ℤ x.numerator = sym (once y.0.numerator) ∙ ap (λ k. y.0.numerator *ℤ pos (2 ^ k)) (sym none_spare) ∙ y.1.scaled in
    let fraction : y.0 ≡ record { exponent = x.exponent; numerator = neg_ℤ x.numerator } = λ i. record { exponent = same i; numerator = numerator i } in
    ap text_of_number y.2 ∙ ap (λ z. Some (fraction_text z)) fraction ∙ ap (λ t. Some t) (negative x.numerator x.exponent p)

text-of : (G : Tree) (t : List ℕ) → number_text G ≡ Some t → tree_text G ≡ t
unfolding tree_text
text-of G t e = text-number G t [] e ∙ append-nil t

twice-neg : (m : ℤ) → neg_ℤ (neg_ℤ m) ≡ m
twice-neg m = omega (arith, ints)

below-zero : (x : Fraction) (v : ℤ) → is_positive x.numerator ≡ true → num x.exponent (neg_ℤ x.numerator) ≡ number_tree v → v <ℤ pos 0
below-zero x v p e = by_lt_z v (pos 0) (λ l. l) (λ l. absurd (num-lt x.exponent (neg_ℤ x.numerator) (pos 0) (at x.numerator p) (subst (λ z. z ≤ᵍ num x.exponent (neg_ℤ x.numerator)) (num-zero 60 ∙ sym (num-zero x.exponent)) (subst (λ z. number_tree (pos 0) ≤ᵍ z) (sym e) (num-le 60 (pos 0) v l)))))
  where
    at : (m : ℤ) → is_positive m ≡ true → neg_ℤ m <ℤ pos 0
    at (pos zero) p = absurd (true≢false (sym p))
    at (pos (suc n)) p = omega (arith, ints)
    at (negsuc n) p = absurd (true≢false (sym p))

positive-above : (m : ℤ) → is_positive m ≡ true → pos 0 <ℤ m
positive-above (pos zero) p = absurd (true≢false (sym p))
positive-above (pos (suc n)) p = omega (arith, ints)
positive-above (negsuc n) p = absurd (true≢false (sym p))

switch-hot : (x : Fraction) → is_positive x.numerator ≡ true → (G : Tree) → G ≡ switch x → IsNumberTree G → ⊥
switch-hot x p G g (e, m, q) =
    let h : switch x ≡ num e m = sym g ∙ q in
    let a = num-left e m (num x.exponent x.numerator) (subst (λ z. Has (left z) (num x.exponent x.numerator)) h (inl refl)) in
    let b = num-right e m (num x.exponent (neg_ℤ x.numerator)) (subst (λ z. Has (right z) (num x.exponent (neg_ℤ x.numerator))) h (inl refl)) in
    num-lt e a.0 b.0 (omega (arith, ints, a.1, b.1)) (subst (λ z. z ≤ᵍ num e a.0) b.2 (subst (λ z. num x.exponent (neg_ℤ x.numerator) ≤ᵍ z) a.2 (num-le x.exponent (neg_ℤ x.numerator) x.numerator (let k = positive-above x.numerator p in omega (arith, ints, k)))))

some-none : {A : Type 0} {x : A} → ◌≡◌ {A = Option A} (Some x) None → ⊥
some-none e = cc

-- depths
depth-in : (Gs : Trees) (G : Tree) → Has Gs G → named_depth G ≤ named_depths Gs
unfolding named_depth
depth-in none G h = absurd h
depth-in (more H Hs) G (inl e) = subst (λ z. named_depth z ≤ max (named_depth H) (named_depths Hs)) (sym e) (omega arith)
depth-in (more H Hs) G (inr h) = omega (arith, depth-in Hs G h)

node-depth : (ls rs : Trees) → name (node ls rs) ≡ None → named_depth (node ls rs) ≡ suc (max (named_depths ls) (named_depths rs))
unfolding named_depth
node-depth ls rs e = ap (λ o. named_depth_or o (suc (max (named_depths ls) (named_depths rs)))) e

option-depth : (ls rs : Trees) (X : Tree) → name (node ls rs) ≡ None → IsOption (node ls rs) X → suc (named_depth X) ≤ named_depth (node ls rs)
option-depth ls rs X e (inl h) = omega (arith, node-depth ls rs e, depth-in ls X h)
option-depth ls rs X e (inr h) = omega (arith, node-depth ls rs e, depth-in rs X h)

canonical-option : (G X : Tree) → IsOption G X → IsCanonicalTree G → IsCanonicalTree X
canonical-option G X (inl h) c = canonical-left TextBefore text-order.irreflexive text-order.transitive G X c h
canonical-option G X (inr h) c = canonical-right TextBefore text-order.irreflexive text-order.transitive G X c h

module _ (limit : ℕ) (most : limit ≤ most_nimber) where
  record Fits (n : ℕ) (G : Tree) : Type 0 where
    canonical : IsCanonicalTree G
    numbers : HasNumbersWithinBounds G
    shallow : n + named_depth G ≤ most_open
    small : HasMoreParts G limit → ⊥

  unnamed-no_number : (G : Tree) → name G ≡ None → IsNumberTree G → ⊥
  unnamed-no_number G e n = named-num n.0 n.1 G n.2 e

  fits-option : (n : ℕ) (ls rs : Trees) (X : Tree) → name (node ls rs) ≡ None → IsOption (node ls rs) X → Fits n (node ls rs) → Fits (suc n) X
  fits-option n ls rs X e o f = record {
    canonical = canonical-option (node ls rs) X o f.canonical;
    numbers = numbers-option (node ls rs) X (unnamed-no_number (node ls rs) e) o f.numbers;
    shallow = (let d = option-depth ls rs X e o in omega (arith, f.shallow, d));
    small = λ p. f.small (parts-option (node ls rs) X limit o p);
  }

  -- a game that is equal to a canonical tree with few enough parts, which is no number, is taken
  closes : (G H : Tree) (s : List ℕ) → IsCanonicalTree G → (HasMoreParts G limit → ⊥) → (IsNumberTree G → ⊥) → H ≡ᵍ G → IsClosed limit H s (reads H s)
  closes G H s c f g e = taken
      (λ p. g (p.0.0, p.0.1, canonical-number G c (p.0.0, p.0.1, le-trans G H (num p.0.0 p.0.1) e.1 p.0.2, le-trans (num p.0.0 p.0.1) H G p.0.3 e.0)))
      (λ C d h. f (subst (λ z. HasMoreParts z limit) (canonical-same C G d.canonical c (le-trans C H G d.over e.0) (le-trans G H C e.1 d.under)) h))

  itself-equal : (G : Tree) → G ≡ᵍ G
  itself-equal G = (le-refl G, le-refl G)

  -- what a text is read as
  record IsReadAs (n : ℕ) (t : List ℕ) (G : Tree) (s : List ℕ) : Type 0 where
    game : Tree
    reads_it : ReadsGame limit n (t ++ s) (reads game s)
    equal : game ≡ᵍ G

  read-same : (n : ℕ) (t s : List ℕ) (G H : Tree) → ReadsGame limit n (t ++ s) (reads H s) → H ≡ G → IsReadAs n t G s
  read-same n t s G H r e = record { game = H; reads_it = r; equal = subst (λ z. H ≡ᵍ z) e (itself-equal H) }

  named-closes : (n : ℕ) (G : Tree) (s : List ℕ) → Fits n G → (IsNumberTree G → ⊥) → IsClosed limit G s (reads G s)
  named-closes n G s f g = closes G G s f.canonical f.small g (itself-equal G)

  nimber-reads : (n k : ℕ) (s : List ℕ) → 0 < k → Fits n (nimber k) → EndsNumber s → ReadsGame limit n (nimber_name k ++ s) (reads (nimber k) s)
  nimber-reads n k s l f e = at (nat_lt k 2) refl
    where
      few : k ≤ most_nimber
      few = elim (cases_lt limit k) [ inl h ↦ absurd (f.small (many-parts k limit h)) | inr h ↦ omega (arith, h, most) ]

      at : (b : Bool) → nat_lt k 2 ≡ b → ReadsGame limit n (42 ∷ (cond b [] (digits k []) ++ s)) (reads (nimber k) s)
      at true p = let one : 1 ≡ k = omega (arith, ltb-true k 2 p, l) in subst (λ i. ReadsGame limit n (42 ∷ s) (reads (nimber i) s)) one
          (named n 42 s s (nimber 1) (reads (nimber 1) s) (nimber_name_is refl (of_one (ends-digits s e))) (subst (λ i. IsClosed limit (nimber i) s (reads (nimber i) s)) (sym one) (named-closes n (nimber k) s f (nimber-no_number k l))))
      at false p = named n 42 (digits k [] ++ s) s (nimber k) (reads (nimber k) s)
          (nimber_name_is refl (of_number (digits k []) s k (record { is = refl; digit_bytes = digits-more (suc k) k [] (omega arith) tt; longest = ends-digits s e }) (omega (arith, ltb-false k 2 p), few, refl)))
          (named-closes n (nimber k) s f (nimber-no_number k l))

  switch-reads : (n : ℕ) (x : Fraction) (s : List ℕ) (G : Tree) → is_positive x.numerator ≡ true → G ≡ switch x → guess (num x.exponent x.numerator) ≡ x → Fits n G → (IsNumberTree G → ⊥) → EndsNumber s → IsReadAs n (43 ∷ 45 ∷ fraction_text x) G s
  switch-reads n x s G p e g f hot stops =
      let R : Tree = num x.exponent (neg_ℤ x.numerator) in
      let b = f.numbers R (x.exponent, neg_ℤ x.numerator, refl) (inr (G, (itself G, hot), subst (λ z. IsOption z R) (sym e) (inr (inl refl)))) in
      let v : ℤ = b.0 in
      let t : 45 ∷ fraction_text x ≡ tree_text (number_tree v) = sym (text-of R _ (negative-text x p g)) ∙ ap tree_text b.2 in
      let q = number-bytes v b.1 in
      let same : switch_below v ≡ G = ap₂ (λ a c. node (more a none) (more c none)) (sym (neg-num 60 v) ∙ ap neg (sym b.2) ∙ neg-num x.exponent (neg_ℤ x.numerator) ∙ ap (num x.exponent) (twice-neg x.numerator)) (sym b.2) ∙ sym e in
      read-same n (43 ∷ 45 ∷ fraction_text x) s G (switch_below v)
      (named n 43 ((45 ∷ fraction_text x) ++ s) s (switch_below v) (reads (switch_below v) s)
      (switch_is refl (of_negative (45 ∷ fraction_text x) s v (record { is = refl; some = omega arith; number_bytes = subst (λ z. AreNumberBytes z) (sym t) q.1; longest = stops }) (b.1, t) (below-zero x v p b.2)))
      (subst (λ z. IsClosed limit z s (reads z s)) (sym same) (named-closes n G s f hot)))
      same

  name-reads : (n : ℕ) (G : Tree) (t s : List ℕ) → IsNamed G t → Fits n G → EndsNumber s → IsReadAs n t G s
  name-reads n G t s (a_number x p e) f stops =
      let b = f.numbers G (x.exponent, x.numerator, number_of-is G x p) (inl refl) in
      let same : t ≡ tree_text (number_tree b.0) = e ∙ sym (text-of G _ (ap text_of_number p)) ∙ ap tree_text b.2 in
      let q = number-bytes b.0 b.1 in
      read-same n t s G (number_tree b.0) (number n (t ++ s) t s b.0 (record { is = refl; some = subst (λ (z : List ℕ). 0 < length z) (sym same) q.0; number_bytes = subst (λ z. AreNumberBytes z) (sym same) q.1; longest = stops }) (b.1, same)) (sym b.2)
  name-reads n G t s (a_nimber k l p e) f stops = read-same n t s G (nimber k) (subst (λ z. ReadsGame limit n (z ++ s) (reads (nimber k) s)) (sym e) (nimber-reads n k s l (subst (Fits n) p f) stops)) (sym p)
  name-reads n G t s (an_up p e) f stops = read-same n t s G up (subst (λ z. ReadsGame limit n (z ++ s) (reads up s)) (sym e) (named n 94 s s up (reads up s) (up_is refl refl) (named-closes n up s (subst (Fits n) p f) up-no_number))) (sym p)
  name-reads n G t s (a_down p e) f stops = read-same n t s G down (subst (λ z. ReadsGame limit n (z ++ s) (reads down s)) (sym e) (named n 118 s s down (reads down s) (down_is refl refl) (named-closes n down s (subst (Fits n) p f) down-no_number))) (sym p)
  name-reads n G t s (a_switch x l p e) f stops = subst (λ z. IsReadAs n z G s) (sym e) (switch-reads n x s G l p.0 p.1 f (λ m. switch-hot x l G p.0 m) stops)

  -- the bytes at which a text ends
  mark-ends : (side : Side) (s : List ℕ) → EndsNumber (mark_of side ∷ s)
  mark-ends left_side s (inl e) = omega (arith, e)
  mark-ends left_side s (inr l) = omega (arith, l.1)
  mark-ends right_side s (inl e) = omega (arith, e)
  mark-ends right_side s (inr l) = omega (arith, l.1)

  comma-ends : IsNumberByte comma → ⊥
  comma-ends (inl e) = omega (arith, e)
  comma-ends (inr l) = omega (arith, l.0)

  commas-end : (ts : List (List ℕ)) (side : Side) (s : List ℕ) → EndsNumber (behind_commas ts (mark_of side ∷ s))
  commas-end [] side s = mark-ends side s
  commas-end (t ∷ ts) side s = comma-ends

  plain-begins : (side : Side) (x : ℕ) → IsPlain x → x ≡ mark_of side → ⊥
  plain-begins left_side x p e = omega (arith, p.0, e)
  plain-begins right_side x p e = omega (arith, p.0, e)

  brace-begins : (side : Side) → open_brace ≡ mark_of side → ⊥
  brace-begins left_side e = omega (arith, e)
  brace-begins right_side e = omega (arith, e)

  begins : (t : List ℕ) (side : Side) (s : List ℕ) → IsSpelled t → BeginsOtherwise (mark_of side) (t ++ s)
  begins _ side s (plain [] a m) = absurd m
  begins _ side s (plain (x ∷ xs) a m) = plain-begins side x a.0
  begins _ side s (braced ls rs a b) = brace-begins side

  abbrev Reads : ℕ → Trees → Type 0
  Reads n Gs = (X : Tree) → Has Gs X → (s : List ℕ) → EndsNumber s → IsReadAs n (named_text X) X s

  -- texts of trees of a list, and the games that are read of them
  record AreReadAs (Gs : Trees) (ts : List (List ℕ)) (Hs : Trees) : Type 0 where
    from : (H : Tree) → Has Hs H → (X : Tree) × Has Gs X × (H ≡ᵍ X)
    to : (t : List ℕ) → In t ts → (H : Tree) × (X : Tree) × Has Hs H × Has Gs X × (t ≡ named_text X) × (H ≡ᵍ X)

  more-read : (Gs : Trees) (t : List ℕ) (ts : List (List ℕ)) (X H : Tree) (Hs : Trees) → Has Gs X → t ≡ named_text X → H ≡ᵍ X → AreReadAs Gs ts Hs → AreReadAs Gs (t ∷ ts) (more H Hs)
  more-read Gs t ts X H Hs h e q a = record {
    from = λ K k. elim k [ inl p ↦ (X, h, subst (λ z. z ≡ᵍ X) (sym p) q) | inr k ↦ a.from K k ];
    to = λ u i. elim i [ inl p ↦ (H, X, inl refl, h, p ∙ e, q) | inr i ↦ (let r = a.to u i in (r.0, r.1, inr r.2, r.3, r.4, r.5)) ];
  }

  none-read : (Gs : Trees) → AreReadAs Gs [] none
  none-read Gs = record { from = λ H h. absurd h; to = λ t i. absurd i }

  abbrev Texts : Trees → List (List ℕ) → Type 0
  Texts Gs ts = (t : List ℕ) → In t ts → (X : Tree) × Has Gs X × (t ≡ named_text X)

  commas-read : (n : ℕ) (side : Side) (s : List ℕ) (Gs : Trees) → Reads n Gs → (ts : List (List ℕ)) → Texts Gs ts → (Hs : Trees) × ReadsMore limit n side (behind_commas ts (mark_of side ∷ s)) (reads Hs s) × AreReadAs Gs ts Hs
  commas-read n side s Gs r [] f = (none, no_more n side (mark_of side) s refl, none-read Gs)
  commas-read n side s Gs r (t ∷ ts) f =
      let x = f t (inl refl) in
      let g = r x.0 x.1 (behind_commas ts (mark_of side ∷ s)) (commas-end ts side s) in
      let o = commas-read n side s Gs r ts (λ u i. f u (inr i)) in (
        more g.game o.0,
        next n side comma (t ++ behind_commas ts (mark_of side ∷ s)) (behind_commas ts (mark_of side ∷ s)) g.game (reads o.0 s) (reads (more g.game o.0) s) refl
            (subst (λ z. ReadsGame limit n (z ++ behind_commas ts (mark_of side ∷ s)) (reads g.game (behind_commas ts (mark_of side ∷ s)))) (sym x.2) g.reads_it) o.1 refl,
        more-read Gs t ts x.0 g.game o.0 x.1 x.2 g.equal o.2,
      )

  row-read : (n : ℕ) (side : Side) (s : List ℕ) (Gs : Trees) → Reads n Gs → (ts : List (List ℕ)) → Texts Gs ts → (Hs : Trees) × ReadsOptions limit n side (row ts (mark_of side ∷ s)) (reads Hs s) × AreReadAs Gs ts Hs
  row-read n side s Gs r [] f = (none, no_option n side (mark_of side) s refl, none-read Gs)
  row-read n side s Gs r (t ∷ ts) f =
      let x = f t (inl refl) in
      let g = r x.0 x.1 (behind_commas ts (mark_of side ∷ s)) (commas-end ts side s) in
      let o = commas-read n side s Gs r ts (λ u i. f u (inr i)) in (
        more g.game o.0,
        first n side (t ++ behind_commas ts (mark_of side ∷ s)) (behind_commas ts (mark_of side ∷ s)) g.game (reads o.0 s) (reads (more g.game o.0) s)
            (subst (λ z. BeginsOtherwise (mark_of side) (z ++ behind_commas ts (mark_of side ∷ s))) (sym x.2) (begins (named_text x.0) side (behind_commas ts (mark_of side ∷ s)) (spelled-text x.0)))
            (subst (λ z. ReadsGame limit n (z ++ behind_commas ts (mark_of side ∷ s)) (reads g.game (behind_commas ts (mark_of side ∷ s)))) (sym x.2) g.reads_it) o.1 refl,
        more-read Gs t ts x.0 g.game o.0 x.1 x.2 g.equal o.2,
      )

  -- the game that is read of each tree of the list
  found : (Gs Hs : Trees) → ((X : Tree) → Has Gs X → IsCanonicalTree X) → AreReadAs Gs (named_texts Gs) Hs → (X : Tree) → Has Gs X → (H : Tree) × Has Hs H × (H ≡ᵍ X)
  found Gs Hs c a X h = let r = a.to (named_text X) (in-named Gs X h) in (r.0, r.2, subst (λ z. r.0 ≡ᵍ z) (sym (named-one_to_one X r.1 (c X h) (c r.1 r.3) r.4)) r.5)

  form-reads : (n : ℕ) (ls rs : Trees) (s : List ℕ) → name (node ls rs) ≡ None → Fits n (node ls rs) → Reads (suc n) ls → Reads (suc n) rs → IsReadAs n (named_text (node ls rs)) (node ls rs) s
  form-reads n ls rs s e f p q =
      let l = row-read (suc n) left_side (row (named_texts rs) (close_brace ∷ s)) ls p (named_texts ls) (λ t i. named-in ls t i) in
      let r = row-read (suc n) right_side s rs q (named_texts rs) (λ t i. named-in rs t i) in
      let lf = found ls l.0 (λ X h. canonical-option (node ls rs) X (inl h) f.canonical) l.2 in
      let rf = found rs r.0 (λ X h. canonical-option (node ls rs) X (inr h) f.canonical) r.2 in
      let same : node l.0 r.0 ≡ᵍ node ls rs = (
        by_better (node l.0 r.0) (node ls rs) (λ L h. (let a = l.2.from L h in (a.0, a.1, a.2.0))) (λ S h. (let a = rf S h in (a.0, a.1, a.2.0))),
        by_better (node ls rs) (node l.0 r.0) (λ L h. (let a = lf L h in (a.0, a.1, a.2.1))) (λ S h. (let a = r.2.from S h in (a.0, a.1, a.2.1))),
      ) in record {
        game = node l.0 r.0;
        reads_it = subst (λ z. ReadsGame limit n z (reads (node l.0 r.0) s)) (sym (ap (λ z. z ++ s) (text-unnamed ls rs e) ∙ braces-row (named_texts ls) (named_texts rs) s))
            (form n open_brace (row (named_texts ls) (bar ∷ row (named_texts rs) (close_brace ∷ s))) (row (named_texts rs) (close_brace ∷ s)) s l.0 r.0 (reads (node l.0 r.0) s) refl (omega (arith, f.shallow, node-depth ls rs e)) l.1 r.1
            (closes (node ls rs) (node l.0 r.0) s f.canonical f.small (unnamed-no_number (node ls rs) e) same));
        equal = same;
      }

  tree_step : (m : ℕ) → ((G : Tree) → size G < m → (n : ℕ) (s : List ℕ) → Fits n G → EndsNumber s → IsReadAs n (named_text G) G s) → (G : Tree) → size G < suc m → (n : ℕ) (s : List ℕ) → Fits n G → EndsNumber s → IsReadAs n (named_text G) G s
  tree_step m ih (node ls rs) l n s f e = at (name (node ls rs)) refl
    where
      at : (o : Option (List ℕ)) → name (node ls rs) ≡ o → IsReadAs n (named_text (node ls rs)) (node ls rs) s
      at (Some t) p = subst (λ z. IsReadAs n z (node ls rs) s) (sym (text-named (node ls rs) t p)) (name-reads n (node ls rs) t s (is-named (node ls rs) t p) f e)
      at None p = form-reads n ls rs s p f
          (λ X h z d. ih X (omega (arith, l, size-left (node ls rs) X h)) (suc n) z (fits-option n ls rs X p (inl h) f) d)
          (λ X h z d. ih X (omega (arith, l, size-right (node ls rs) X h)) (suc n) z (fits-option n ls rs X p (inr h) f) d)

  tree_within : (m : ℕ) (G : Tree) → size G < m → (n : ℕ) (s : List ℕ) → Fits n G → EndsNumber s → IsReadAs n (named_text G) G s
  tree_within zero G l = absurd (omega (arith, l))
  tree_within (suc m) G l = tree_step m (tree_within m) G l

pub named-round_trip : (limit : ℕ) (C : Tree) → limit ≤ most_nimber → IsReadableByName limit C → (G : Tree) × Names limit (named_text C) G × IsCanonicalFor G C
named-round_trip limit C most r =
    let a = tree_within limit most (suc (size C)) C (omega arith) 0 [] (record { canonical = r.canonical; numbers = r.numbers; shallow = omega (arith, r.shallow); small = r.small }) tt in
    (a.game, whole_text a.game (subst (λ z. ReadsGame limit 0 z (reads a.game [])) (append-nil (named_text C)) a.reads_it), record { canonical = r.canonical; under = a.equal.0; over = a.equal.1 })

ok-same : (G H : Tree) → ◌≡◌ {A = Result Tree Fault} (Ok G) (Ok H) → G ≡ H
ok-same G H e = cc

pub named-ids_back : (limit : ℕ) (Ts Us : List Tree) (id back : ℕ) (G : Tree) → limit ≤ most_nimber → id < length Ts → IsReadableByName limit (tree_at Ts id) → Extends Ts Us → AreDistinct Us → Names limit (named_text (tree_at Ts id)) G → IsCanonicalId Us G back → back ≡ id
named-ids_back limit Ts Us id back G most l r x d n c =
    let a = named-round_trip limit (tree_at Ts id) most r in
    let same : G ≡ a.0 = ok-same G a.0 (one-reading limit (named_text (tree_at Ts id)) (Ok G) (Ok a.0) n a.1) in
    let k : IsCanonicalFor G (tree_at Ts id) = subst (λ z. IsCanonicalFor z (tree_at Ts id)) (sym same) a.2 in
    d back id c.0 (omega (arith, l, x.longer)) (canonical-same (tree_at Us back) (tree_at Ts id) c.1.canonical r.canonical (le-trans (tree_at Us back) G (tree_at Ts id) c.1.over k.under) (le-trans (tree_at Ts id) G (tree_at Us back) k.over c.1.under) ∙ sym (x.same id l))
