-- How names are read.
use Rattle.std.proofs.Common.{ℕ, zero, suc, ◌+◌, ◌-◌, ◌<◌, ◌≤◌, ◌≡◌, ◌⊎◌, List, [], ◌∷◌, ◌++◌, length, get_or, take, drop, arith, inl, inr, sym, ◌∙◌, ap, ap₂, subst, ℤ, pos, ◌*ℤ◌, ◌<ℤ◌, length-append, length-drop}
use Rattle.std.specs.Prelude.{◌^◌, Result, Ok, Err, IfOk, IfErr}
use Rattle.std.proofs.lemmas.Bool.{cases_lt}
use Rattle.std.proofs.lemmas.Int.{ints}
use Rattle.std.proofs.lemmas.List.{drop_all, take_all, take-append-drop, get_or-drop, drop-drop, length-take-le, get_or_append_left, get_or_push}
use Rattle.short_games.specs.Tree.{Tree, node, left, Has, tree_at, AreDistinct}
use Rattle.short_games.specs.Number.{IsNumberTree, number_tree}
use Rattle.short_games.specs.TextOrder.{sorted, IsCanonicalTree, IsCanonicalFor}
use Rattle.game_store.specs.Meaning.{pick, form, Extends, IsIdOf}
use Rattle.game_store.specs.Forms.{HaveForms}
use Rattle.short_games.specs.Parts.{HasMoreParts}
use Rattle.short_games.proofs.OrderLaws.{le-refl}
use Rattle.game_text.specs.NamedText.{nimbers_below, nimber}
use Rattle.game_text.specs.Reading.{IsDigitByte, AreDigitBytes, EndsDigits, IsDigitRun, IsNimberDigits, IsNumberByte, IsNameByte, IsNumberText, Outcome, ReadsNimber, ReadsSwitch, switch_below}
use Rattle.game_text.specs.Reading.Fault.{bad_byte, bad_number, cut_short}
use Rattle.game_text.specs.Reading.Outcome.{reads, refused}
use Rattle.game_text.specs.Reading.ReadsNimber.{of_one, of_number, of_none}
use Rattle.game_text.specs.Reading.ReadsSwitch.{of_negative, of_other, no_number, ends}
use Rattle.game_text.specs.inner.Refusals.{IsFormRefusal}
use Rattle.game_text.specs.declared.errors.ReadError.{ReadError}
use Rattle.game_text.specs.declared.errors.ReadError.TheVariants as error
use Rattle.short_games.proofs.TextOrderLaws.{tree_text-one_to_one}
use Rattle.game_canon.proofs.NumberSizeLaws.{number-same}
use Rattle.game_text.proofs.ReadingSteps.{byte-drop}
use Rattle.game_text.proofs.ReadingPlaceLaws.{run-is}
use Rattle.game_text.specs.declared.named_games.Found.{Found}
use Rattle.game_text.specs.inner.Machine.{IsTaken, IsFoundBy, IsRefusedBy, EndsRunAt, EndsDigitsAt}
use Rattle.game_text.specs.inner.Written.{AreNimbers}
use Rattle.game_text.proofs.NimberLaws.{nimber-option, nimber-canonical, nimber-no_number}
use Rattle.game_text.proofs.FoundNameLaws.{zero-tree}
use Rattle.game_text.proofs.NimberIdLaws.{first-nimbers, option-below}
use Rattle.game_text.proofs.NimberPartLaws.{few-parts, nimber-within}

-- the next nimber, by the ids of those before it
next-form : (Ts : List Tree) (ks ls rs : List ℕ) → AreNimbers Ts ks → ls ≡ ks → rs ≡ ks → form Ts ls rs ≡ nimber (length ks)
next-form Ts ks ls rs a p q =
    let t : take (length ks) ks ≡ ks = take_all (length ks) ks (omega arith) in
    let s : sorted (pick Ts ks) ≡ sorted (nimbers_below (length ks)) = subst (λ z. sorted (pick Ts z) ≡ sorted (nimbers_below (length ks))) t (first-nimbers Ts ks a (length ks) (omega arith)) in
    ap₂ (form Ts) p q ∙ ap₂ node s s

pub next-canonical : (Ts : List Tree) (ks ls rs : List ℕ) → AreNimbers Ts ks → ls ≡ ks → rs ≡ ks → IsCanonicalTree (form Ts ls rs)
next-canonical Ts ks ls rs a p q = subst IsCanonicalTree (sym (next-form Ts ks ls rs a p q)) (nimber-canonical (length ks))

pub next-no_number : (Ts : List Tree) (ks ls rs : List ℕ) → AreNimbers Ts ks → 0 < length ks → ls ≡ ks → rs ≡ ks → IsNumberTree (form Ts ls rs) → ⊥
next-no_number Ts ks ls rs a l p q n = nimber-no_number (length ks) l (subst IsNumberTree (next-form Ts ks ls rs a p q) n)

pub nimbers-grown : (Ts Us : List Tree) (ks ls rs us : List ℕ) (id : ℕ) → AreNimbers Ts ks → Extends Ts Us → HaveForms Us → AreDistinct Us → ls ≡ ks → rs ≡ ks → IsIdOf Us (form Ts ls rs) id → us ≡ ks ++ id ∷ [] → AreNimbers Us us
nimbers-grown Ts Us ks ls rs us id a x forms d p q v u = subst (AreNimbers Us) (sym u) (record {
  below = λ j m. elim (place j m) [
    | inl r ↦ subst (λ z. z < length Us) (sym r.1) (omega (arith, a.below j r.0, x.longer))
    | inr r ↦ subst (λ z. z < length Us) (sym r.1) v.0
  ];
  ascends = λ i j k m. elim (place j m) [
    | inl r ↦ subst (λ z. get_or (ks ++ id ∷ []) i 0 < z) (sym r.1) (subst (λ z. z < get_or ks j 0) (sym (old i (omega (arith, k, r.0)))) (a.ascends i j k r.0))
    | inr r ↦ subst (λ z. get_or (ks ++ id ∷ []) i 0 < z) (sym r.1) (subst (λ z. z < id) (sym (old i (omega (arith, k, r.0)))) (lesser i (omega (arith, k, r.0))))
  ];
  each = λ k m. elim (place k m) [
    | inl r ↦ ap (λ i. tree_at Us i) r.1 ∙ x.same _ (a.below k r.0) ∙ a.each k r.0
    | inr r ↦ ap (λ i. tree_at Us i) r.1 ∙ tree-is ∙ ap (λ i. nimber i) (sym r.0)
  ];
})
  where
    tree-is : tree_at Us id ≡ nimber (length ks)
    tree-is = v.1 ∙ next-form Ts ks ls rs a p q

    old : (j : ℕ) → j < length ks → get_or (ks ++ id ∷ []) j 0 ≡ get_or ks j 0
    old j m = get_or_append_left ks (id ∷ []) 0 j m

    place : (j : ℕ) → j < length (ks ++ id ∷ []) → ((j < length ks) × (get_or (ks ++ id ∷ []) j 0 ≡ get_or ks j 0)) ⊎ ((j ≡ length ks) × (get_or (ks ++ id ∷ []) j 0 ≡ id))
    place j m = elim (cases_lt j (length ks)) [
      | inl h ↦ inl (h, old j h)
      | inr h ↦ (let s : j ≡ length ks = omega (arith, m, h, length-append ks (id ∷ [])) in inr (s, get_or_push ks id 0 j (sym s)))
    ]

    lesser : (i : ℕ) → i < length ks → get_or ks i 0 < id
    lesser i m =
        let r = option-below Us forms id v.0 (nimber i) ((λ t. nimber-no_number (length ks) (omega (arith, m)) (subst IsNumberTree tree-is t)), inl (subst (λ z. Has (left z) (nimber i)) (sym tree-is) (nimber-option (length ks) i m))) in
        let e : get_or ks i 0 ≡ r.0 = d (get_or ks i 0) r.0 (omega (arith, a.below i m, x.longer)) (omega (arith, r.1, v.0)) (x.same _ (a.below i m) ∙ a.each i m ∙ r.2) in
        omega (arith, e, r.1)

pub zero-nimbers : (Us : List Tree) (x : ℤ) (id : ℕ) (us : List ℕ) → x ≡ pos 0 *ℤ pos (2 ^ 60) → IsIdOf Us (number_tree x) id → us ≡ [] ++ id ∷ [] → AreNimbers Us us
zero-nimbers Us x id us e v u = subst (AreNimbers Us) (sym u) (record {
  below = λ j m. subst (λ k. get_or (id ∷ []) k 0 < length Us) (let s : 0 ≡ j = omega (arith, m) in s) v.0;
  ascends = λ i j k m. absurd (omega (arith, k, m));
  each = λ k m. subst (λ j. tree_at Us (get_or (id ∷ []) j 0) ≡ nimber j) (let s : 0 ≡ k = omega (arith, m) in s) (v.1 ∙ ap number_tree (let z : x ≡ pos 0 = omega (arith, ints, e) in z) ∙ sym zero-tree);
})

-- a nimber that is taken
pub nimber-taken : (Us : List Tree) (limit n id : ℕ) → 0 < n → n ≤ limit → IsIdOf Us (nimber n) id → IsTaken Us limit (nimber n) id
nimber-taken Us limit n id l m v = (
  (v.0, subst (IsCanonicalFor (nimber n)) (sym v.1) (record { canonical = nimber-canonical n; under = le-refl (nimber n); over = le-refl (nimber n) })),
  nimber-within n l,
  λ h. few-parts n limit m (subst (λ z. HasMoreParts z limit) v.1 h),
)

-- the longest run of digits
all-digits : (xs : List ℕ) (n : ℕ) → n ≤ length xs → ((k : ℕ) → k < n → IsDigitByte (get_or xs k 0)) → AreDigitBytes (take n xs)
all-digits [] zero m f = tt
all-digits [] (suc n) m f = absurd (omega (arith, m))
all-digits (x ∷ xs) zero m f = tt
all-digits (x ∷ xs) (suc n) m f = (f 0 (omega arith), all-digits xs n (omega (arith, m)) (λ k h. f (suc k) (omega (arith, h))))

pub digits-run : (text : List ℕ) (first past : ℕ) → EndsDigitsAt text first past → IsDigitRun (drop first text) (take (past - first) (drop first text)) (drop past text)
digits-run text first past e =
    let long : length (drop first text) ≡ length text - first = length-drop first text in record {
      is = sym (take-append-drop (past - first) (drop first text)) ∙ ap (λ z. take (past - first) (drop first text) ++ z) (drop-drop (past - first) first text ∙ ap (λ k. drop k text) (let s : first + (past - first) ≡ past = omega (arith, e.forward) in s));
      digit_bytes = all-digits (drop first text) (past - first) (omega (arith, long, e.within)) (λ k m. subst IsDigitByte (sym (get_or-drop first text k 0)) (e.digit_bytes (first + k) (omega arith) (omega (arith, m))));
      longest = e.longest;
    }

pub digits-length : (text : List ℕ) (first past : ℕ) → EndsDigitsAt text first past → length (take (past - first) (drop first text)) ≡ past - first
digits-length text first past e = let long : length (drop first text) ≡ length text - first = length-drop first text in length-take-le (past - first) (drop first text) (omega (arith, long, e.within))

-- behind a star
pub one-star : (text : List ℕ) (first past : ℕ) → EndsDigitsAt text first past → past ≡ first → ReadsNimber (drop first text) (reads (nimber 1) (drop past text))
one-star text first past e p = subst (λ k. ReadsNimber (drop first text) (reads (nimber 1) (drop k text))) (sym p) (of_one (subst (λ k. EndsDigits (drop k text)) p e.longest))

pub number-star : (text : List ℕ) (first past n : ℕ) → EndsDigitsAt text first past → IsNimberDigits n (take (past - first) (drop first text)) → ReadsNimber (drop first text) (reads (nimber n) (drop past text))
number-star text first past n e d = of_number _ _ n (digits-run text first past e) d

pub bad-star : (text : List ℕ) (first past : ℕ) → EndsDigitsAt text first past → (past ≡ first → ⊥) → ((n : ℕ) → IsNimberDigits n (take (past - first) (drop first text)) → ⊥) → ReadsNimber (drop first text) (refused (bad_number (drop first text)))
bad-star text first past e f g = of_none _ _ (digits-run text first past e) (elim (cases_lt first past) [ inl l ↦ omega (arith, l, digits-length text first past e) | inr l ↦ absurd (f (omega (arith, l, e.forward))) ]) g

-- behind a plus
module _ (text : List ℕ) (first : ℕ) where
  pub cut-plus : length text ≤ first → ReadsSwitch (drop first text) (refused cut_short)
  cut-plus l = ends (drop_all first text l)

  pub stray-plus : first < length text → (IsNumberByte (get_or text first 0) → ⊥) → ReadsSwitch (drop first text) (refused (bad_byte (drop first text)))
  stray-plus l f = no_number (get_or text first 0) (drop (first + 1) text) (byte-drop text first l) f

  module _ (l : first < length text) (past : ℕ) (e : EndsRunAt text first past) (b : IsNumberByte (get_or text first 0)) where
    pub bad-plus : ((u : ℤ) → IsNumberText u (take (past - first) (drop first text)) → u <ℤ pos 0 → ⊥) → ReadsSwitch (drop first text) (refused (bad_number (drop first text)))
    bad-plus f = of_other _ _ (run-is [] 0 text first [] [] l past e b) f

    pub above-plus : (x : ℤ) → IsNumberText x (take (past - first) (drop first text)) → (x <ℤ pos 0 → ⊥) → ReadsSwitch (drop first text) (refused (bad_number (drop first text)))
    above-plus x t f = bad-plus (λ u s k. f (subst (λ z. z <ℤ pos 0) (number-same u x (tree_text-one_to_one (number_tree u) (number_tree x) (sym s.1 ∙ t.1))) k))

    pub switch-plus : (x : ℤ) → IsNumberText x (take (past - first) (drop first text)) → x <ℤ pos 0 → ReadsSwitch (drop first text) (reads (switch_below x) (drop past text))
    switch-plus x t k = of_negative _ _ x (run-is [] 0 text first [] [] l past e b) t k

-- a game that isn't taken
pub taken-refused : (R : List ℕ → Outcome Tree → Type 0) (limit : ℕ) (text : List ℕ) (spot : ℕ) (G : Tree) (rest : List ℕ) → R (drop spot text) (reads G rest) → (e : ReadError) → IsFormRefusal G limit e → IsRefusedBy R limit text spot e
taken-refused R limit text spot G rest r (error.BadByte place) h = absurd h
taken-refused R limit text spot G rest r (error.BadNumber place) h = absurd h
taken-refused R limit text spot G rest r error.CutShort h = absurd h
taken-refused R limit text spot G rest r error.Deep h = absurd h
taken-refused R limit text spot G rest r error.Parts h = (G, rest, r, h)
taken-refused R limit text spot G rest r error.Bounds h = (G, rest, r, h)
taken-refused R limit text spot G rest r (error.Memory cause) h = tt

-- what is found and refused by one relation is so by another
pub found-as : (R S : List ℕ → Outcome Tree → Type 0) (Us : List Tree) (limit : ℕ) (text : List ℕ) (spot : ℕ) (r : Result Found ReadError) → ((o : Outcome Tree) → R (drop spot text) o → S (drop spot text) o) → IfOk r (λ found. IsFoundBy R Us limit text spot found) → IfOk r (λ found. IsFoundBy S Us limit text spot found)
found-as R S Us limit text spot (Ok found) f h = (h.0, f _ h.1, h.2, h.3, h.4)
found-as R S Us limit text spot (Err e) f h = h

refused-in : (R S : List ℕ → Outcome Tree → Type 0) (limit : ℕ) (text : List ℕ) (spot : ℕ) (e : ReadError) → ((o : Outcome Tree) → R (drop spot text) o → S (drop spot text) o) → IsRefusedBy R limit text spot e → IsRefusedBy S limit text spot e
refused-in R S limit text spot (error.BadByte place) f h = (h.0, f _ h.1)
refused-in R S limit text spot (error.BadNumber place) f h = (h.0, f _ h.1)
refused-in R S limit text spot error.CutShort f h = f _ h
refused-in R S limit text spot error.Deep f h = h
refused-in R S limit text spot error.Parts f h = (h.0, h.1, f _ h.2, h.3)
refused-in R S limit text spot error.Bounds f h = (h.0, h.1, f _ h.2, h.3)
refused-in R S limit text spot (error.Memory cause) f h = tt

pub refused-as : (R S : List ℕ → Outcome Tree → Type 0) (limit : ℕ) (text : List ℕ) (spot : ℕ) (r : Result Found ReadError) → ((o : Outcome Tree) → R (drop spot text) o → S (drop spot text) o) → IfErr r (λ e. IsRefusedBy R limit text spot e) → IfErr r (λ e. IsRefusedBy S limit text spot e)
refused-as R S limit text spot (Ok found) f h = h
refused-as R S limit text spot (Err e) f h = refused-in R S limit text spot e f h

-- the last byte that begins a name
pub last-name : (x : ℕ) → IsNameByte x → (x ≡ 42 → ⊥) → (x ≡ 43 → ⊥) → (x ≡ 94 → ⊥) → x ≡ 118
last-name x (inl e) f g h = absurd (f e)
last-name x (inr (inl e)) f g h = absurd (h e)
last-name x (inr (inr (inl e))) f g h = e
last-name x (inr (inr (inr e))) f g h = absurd (g e)
