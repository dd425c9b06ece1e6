-- Reading a text comes to one thing.
use Rattle.std.proofs.Common.{ℕ, suc, ◌<◌, ◌≤◌, ◌≡◌, List, [], ◌∷◌, length, arith, refl, inl, inr, sym, ◌∙◌, ap, ap₂, subst, ℤ}
use Rattle.std.specs.Prelude.{Result, Ok, Err}
use Rattle.short_games.specs.Tree.{Tree, Trees, node, none}
use Rattle.short_games.specs.Text.{open_brace, comma}
use Rattle.short_games.specs.TextOrder.{TextBefore, IsCanonicalFor}
use Rattle.short_games.specs.Number.{number_tree}
use Rattle.short_games.proofs.TextLaws.{head-is, tail-is, IsMore}
use Rattle.short_games.proofs.TextOrderLaws.{tree_text-one_to_one, text-order}
use Rattle.short_games.proofs.ExistenceLaws.{canon}
use Rattle.game_text.proofs.RunLaws.{one-run, one-digits, more-length, run-first, run-some}
use Rattle.game_text.proofs.NameKindLaws.{digits-bytes}
use Rattle.short_games.specs.NumberText.{digits}
use Rattle.short_games.proofs.NumberTextLaws.{digits-one_to_one}
use Rattle.game_canon.proofs.NumberSizeLaws.{number-same}
use Rattle.game_text.specs.NamedText.{nimber}
use Rattle.game_text.specs.Reading.{IsDigitRun, EndsDigits, switch_below, IsNumberByte, IsNameByte, ReadsNimber, ReadsSwitch, ReadsName, IsNimberDigits, IsNumberRun, IsNumberText, Fault, Outcome, behind, Side, left_side, right_side, mark_of, BeginsOtherwise, IsClosed, ReadsGame, ReadsOptions, ReadsMore, ReadsText}
use Rattle.game_text.specs.Reading.ReadsNimber.{of_one, of_number, of_none}
use Rattle.game_text.specs.Reading.ReadsSwitch.{of_negative, of_other, ends, no_number as no_switch}
use Rattle.game_text.specs.Reading.ReadsName.{a_nimber, an_up, a_down, a_switch}
use Rattle.game_text.specs.Depth.{most_open}
use Rattle.game_text.specs.Reading.Fault.{bad_byte, bad_number, cut_short, too_deep}
use Rattle.game_text.specs.Reading.Outcome.{reads, refused}
use Rattle.game_text.specs.Reading.IsClosed.{taken, with_many_parts, far}
use Rattle.game_text.specs.Reading.ReadsGame.{number, no_number, name, no_name, one_too_deep, form, left_refused, right_refused, game_stray, game_cut}
use Rattle.game_text.specs.Reading.ReadsOptions.{no_option, first, first_refused}
use Rattle.game_text.specs.Reading.ReadsMore.{no_more, next, next_refused, more_stray, more_cut}
use Rattle.game_text.specs.Reading.ReadsText.{whole_text, followed, unread}

no_brace : (x : ℕ) → IsNumberByte x → x ≡ open_brace → ⊥
no_brace x (inl e) p = omega (arith, e, p)
no_brace x (inr l) p = omega (arith, l, p)

-- a name begins otherwise
name-byte : (x : ℕ) (xs : List ℕ) (o : Outcome Tree) → ReadsName x xs o → IsNameByte x
name-byte x xs o (a_nimber e r) = inl e
name-byte x xs o (an_up e r) = inr (inl e)
name-byte x xs o (a_down e r) = inr (inr (inl e))
name-byte x xs o (a_switch e r) = inr (inr (inr e))

no-name_number : (x : ℕ) → IsNameByte x → IsNumberByte x → ⊥
no-name_number x (inl e) (inl p) = omega (arith, e, p)
no-name_number x (inl e) (inr p) = omega (arith, e, p)
no-name_number x (inr (inl e)) (inl p) = omega (arith, e, p)
no-name_number x (inr (inl e)) (inr p) = omega (arith, e, p)
no-name_number x (inr (inr (inl e))) (inl p) = omega (arith, e, p)
no-name_number x (inr (inr (inl e))) (inr p) = omega (arith, e, p)
no-name_number x (inr (inr (inr e))) (inl p) = omega (arith, e, p)
no-name_number x (inr (inr (inr e))) (inr p) = omega (arith, e, p)

no-name_brace : (x : ℕ) → IsNameByte x → x ≡ open_brace → ⊥
no-name_brace x (inl e) p = omega (arith, e, p)
no-name_brace x (inr (inl e)) p = omega (arith, e, p)
no-name_brace x (inr (inr (inl e))) p = omega (arith, e, p)
no-name_brace x (inr (inr (inr e))) p = omega (arith, e, p)

-- a name is read in one way
digit-some : (run rest bytes : List ℕ) → IsDigitRun bytes run rest → 0 < length run → EndsDigits bytes → ⊥
digit-some [] rest bytes r l f = omega (arith, l)
digit-some (x ∷ xs) rest bytes r l f = subst EndsDigits r.is f r.digit_bytes.0

some-digits : (n : ℕ) (run : List ℕ) → IsNimberDigits n run → 0 < length run
some-digits n run d = subst (λ (z : List ℕ). 0 < length z) (sym d.2) (more-length (digits n []) (digits-bytes n [] tt).1)

one-nimber : (bytes : List ℕ) (o p : Outcome Tree) → ReadsNimber bytes o → ReadsNimber bytes p → o ≡ p
one-nimber bytes _ _ (of_one a) (of_one b) = refl
one-nimber bytes _ _ (of_one a) (of_number run rest n r d) = absurd (digit-some run rest bytes r (some-digits n run d) a)
one-nimber bytes _ _ (of_one a) (of_none run rest r l f) = absurd (digit-some run rest bytes r l a)
one-nimber bytes _ _ (of_number run rest n r d) (of_one a) = absurd (digit-some run rest bytes r (some-digits n run d) a)
one-nimber bytes _ _ (of_number run rest n r d) (of_number sun sest m s e) =
    let q = one-digits bytes run sun rest sest r s in ap₂ (λ k z. reads (nimber k) z) (digits-one_to_one n m (sym d.2 ∙ q.0 ∙ e.2)) q.1
one-nimber bytes _ _ (of_number run rest n r d) (of_none sun sest s l f) = absurd (f n (subst (IsNimberDigits n) (one-digits bytes run sun rest sest r s).0 d))
one-nimber bytes _ _ (of_none run rest r l f) (of_one a) = absurd (digit-some run rest bytes r l a)
one-nimber bytes _ _ (of_none run rest r l f) (of_number sun sest m s e) = absurd (f m (subst (IsNimberDigits m) (one-digits bytes sun run sest rest s r).0 e))
one-nimber bytes _ _ (of_none run rest r l f) (of_none sun sest s k g) = refl

run-there : (bytes run rest : List ℕ) → IsNumberRun bytes run rest → bytes ≡ [] → ⊥
run-there bytes run rest r e = run-some run rest r.some (sym e ∙ r.is)

one-switch : (bytes : List ℕ) (o p : Outcome Tree) → ReadsSwitch bytes o → ReadsSwitch bytes p → o ≡ p
one-switch bytes _ _ (of_negative run rest u r t l) (of_negative sun sest v s w k) =
    let q = one-run bytes run sun rest sest r s in
    ap₂ (λ a z. reads (switch_below a) z) (number-same u v (tree_text-one_to_one (number_tree u) (number_tree v) (sym t.1 ∙ q.0 ∙ w.1))) q.1
one-switch bytes _ _ (of_negative run rest u r t l) (of_other sun sest s f) = absurd (f u (subst (IsNumberText u) (one-run bytes run sun rest sest r s).0 t) l)
one-switch bytes _ _ (of_negative run rest u r t l) (no_switch x xs e f) = absurd (f (run-first x xs run rest (subst (λ z. IsNumberRun z run rest) e r)))
one-switch bytes _ _ (of_negative run rest u r t l) (ends e) = absurd (run-there bytes run rest r e)
one-switch bytes _ _ (of_other run rest r f) (of_negative sun sest v s w k) = absurd (f v (subst (IsNumberText v) (one-run bytes sun run sest rest s r).0 w) k)
one-switch bytes _ _ (of_other run rest r f) (of_other sun sest s g) = refl
one-switch bytes _ _ (of_other run rest r f) (no_switch x xs e g) = absurd (g (run-first x xs run rest (subst (λ z. IsNumberRun z run rest) e r)))
one-switch bytes _ _ (of_other run rest r f) (ends e) = absurd (run-there bytes run rest r e)
one-switch bytes _ _ (no_switch x xs e f) (of_negative run rest u r t l) = absurd (f (run-first x xs run rest (subst (λ z. IsNumberRun z run rest) e r)))
one-switch bytes _ _ (no_switch x xs e f) (of_other run rest r g) = absurd (f (run-first x xs run rest (subst (λ z. IsNumberRun z run rest) e r)))
one-switch bytes _ _ (no_switch x xs e f) (no_switch y ys d g) = refl
one-switch bytes _ _ (no_switch x xs e f) (ends d) = absurd (subst IsMore (sym e ∙ d) tt)
one-switch bytes _ _ (ends e) (of_negative run rest u r t l) = absurd (run-there bytes run rest r e)
one-switch bytes _ _ (ends e) (of_other run rest r f) = absurd (run-there bytes run rest r e)
one-switch bytes _ _ (ends e) (no_switch x xs d f) = absurd (subst IsMore (sym d ∙ e) tt)
one-switch bytes _ _ (ends e) (ends d) = refl

one-name : (x : ℕ) (xs : List ℕ) (o p : Outcome Tree) → ReadsName x xs o → ReadsName x xs p → o ≡ p
one-name x xs o p (a_nimber e r) (a_nimber f s) = one-nimber xs o p r s
one-name x xs o p (a_nimber e r) (an_up f s) = absurd (omega (arith, e, f))
one-name x xs o p (a_nimber e r) (a_down f s) = absurd (omega (arith, e, f))
one-name x xs o p (a_nimber e r) (a_switch f s) = absurd (omega (arith, e, f))
one-name x xs o p (an_up e r) (a_nimber f s) = absurd (omega (arith, e, f))
one-name x xs o p (an_up e r) (an_up f s) = r ∙ sym s
one-name x xs o p (an_up e r) (a_down f s) = absurd (omega (arith, e, f))
one-name x xs o p (an_up e r) (a_switch f s) = absurd (omega (arith, e, f))
one-name x xs o p (a_down e r) (a_nimber f s) = absurd (omega (arith, e, f))
one-name x xs o p (a_down e r) (an_up f s) = absurd (omega (arith, e, f))
one-name x xs o p (a_down e r) (a_down f s) = r ∙ sym s
one-name x xs o p (a_down e r) (a_switch f s) = absurd (omega (arith, e, f))
one-name x xs o p (a_switch e r) (a_nimber f s) = absurd (omega (arith, e, f))
one-name x xs o p (a_switch e r) (an_up f s) = absurd (omega (arith, e, f))
one-name x xs o p (a_switch e r) (a_down f s) = absurd (omega (arith, e, f))
one-name x xs o p (a_switch e r) (a_switch f s) = one-switch xs o p r s

no_comma : (side : Side) → comma ≡ mark_of side → ⊥
no_comma left_side e = omega (arith, e)
no_comma right_side e = omega (arith, e)

reads-apart : {A : Type 0} (G H : A) (xs ys : List ℕ) → ◌≡◌ {A = Outcome A} (reads G xs) (reads H ys) → (G ≡ H) × (xs ≡ ys)
reads-apart G H xs ys e = (cc, cc)

not-refused : {A : Type 0} (G : A) (xs : List ℕ) (fault : Fault) → ◌≡◌ {A = Outcome A} (reads G xs) (refused fault) → ⊥
not-refused G xs fault e = cc

module _ (limit : ℕ) where
  one-closed : (G : Tree) (rest : List ℕ) (o p : Outcome Tree) → IsClosed limit G rest o → IsClosed limit G rest p → o ≡ p
  one-closed G rest _ _ (taken f g) (taken h i) = refl
  one-closed G rest _ _ (taken f g) (with_many_parts h) = let r = canon TextBefore text-order.total G in
      let c : IsCanonicalFor G r.tree = record { canonical = r.canonical; under = r.under; over = r.over } in absurd (g r.tree c (h.1 r.tree c))
  one-closed G rest _ _ (taken f g) (far h) = absurd (f h)
  one-closed G rest _ _ (with_many_parts h) (taken f g) = let r = canon TextBefore text-order.total G in
      let c : IsCanonicalFor G r.tree = record { canonical = r.canonical; under = r.under; over = r.over } in absurd (g r.tree c (h.1 r.tree c))
  one-closed G rest _ _ (with_many_parts f) (with_many_parts h) = refl
  one-closed G rest _ _ (with_many_parts f) (far h) = absurd (f.0 h.0)
  one-closed G rest _ _ (far h) (taken f g) = absurd (f h)
  one-closed G rest _ _ (far h) (with_many_parts f) = absurd (f.0 h.0)
  one-closed G rest _ _ (far f) (far h) = refl

  -- what a game that begins with a byte of numbers comes to
  data Numbered (run rest bytes : List ℕ) : Outcome Tree → Type 0 where
    is_one : (u : ℤ) → IsNumberText u run → Numbered run rest bytes (reads (number_tree u) rest)
    is_none : ((u : ℤ) → IsNumberText u run → ⊥) → Numbered run rest bytes (refused (bad_number bytes))

  numbered : (n : ℕ) (bytes : List ℕ) (o : Outcome Tree) → ReadsGame limit n bytes o → (run rest : List ℕ) → IsNumberRun bytes run rest → Numbered run rest bytes o
  numbered _ _ _ (number n bytes a s u q t) run rest r = let e = one-run bytes a run s rest q r in
      subst (λ z. Numbered run rest bytes (reads (number_tree u) z)) (sym e.1) (is_one u (subst (IsNumberText u) e.0 t))
  numbered _ _ _ (no_number n bytes a s q f) run rest r = is_none (λ u t. f u (subst (IsNumberText u) (sym (one-run bytes a run s rest q r).0) t))
  numbered _ _ _ (name n x xs ys G out a c) run rest r = absurd (no-name_number x (name-byte x xs _ a) (run-first x xs run rest r))
  numbered _ _ _ (no_name n x xs fault a) run rest r = absurd (no-name_number x (name-byte x xs _ a) (run-first x xs run rest r))
  numbered _ _ _ (one_too_deep n x xs e l) run rest r = absurd (no_brace x (run-first x xs run rest r) e)
  numbered _ _ _ (form n x xs ys zs Ls Rs out e l a b c) run rest r = absurd (no_brace x (run-first x xs run rest r) e)
  numbered _ _ _ (left_refused n x xs fault e l a) run rest r = absurd (no_brace x (run-first x xs run rest r) e)
  numbered _ _ _ (right_refused n x xs ys Ls fault e l a b) run rest r = absurd (no_brace x (run-first x xs run rest r) e)
  numbered _ _ _ (game_stray n x xs f h g) run rest r = absurd (f (run-first x xs run rest r))
  numbered _ _ _ (game_cut n) run rest r = absurd (run-some run rest r.some r.is)

  one-numbered : (run rest bytes : List ℕ) (o p : Outcome Tree) → Numbered run rest bytes o → Numbered run rest bytes p → o ≡ p
  one-numbered run rest bytes _ _ (is_one u s) (is_one v t) = ap (λ (G : Tree). reads G rest) (tree_text-one_to_one (number_tree u) (number_tree v) (sym s.1 ∙ t.1))
  one-numbered run rest bytes _ _ (is_one u s) (is_none f) = absurd (f u s)
  one-numbered run rest bytes _ _ (is_none f) (is_one u s) = absurd (f u s)
  one-numbered run rest bytes _ _ (is_none f) (is_none g) = refl

  -- what a game that begins with a brace comes to
  data Braced (n : ℕ) (xs : List ℕ) : Outcome Tree → Type 0 where
    deep : most_open ≤ n → Braced n xs (refused too_deep)
    closed : (ys zs : List ℕ) (Ls Rs : Trees) (out : Outcome Tree) → n < most_open → ReadsOptions limit (suc n) left_side xs (reads Ls ys) → ReadsOptions limit (suc n) right_side ys (reads Rs zs) → IsClosed limit (node Ls Rs) zs out → Braced n xs out
    on_left : (fault : Fault) → n < most_open → ReadsOptions limit (suc n) left_side xs (refused fault) → Braced n xs (refused fault)
    on_right : (ys : List ℕ) (Ls : Trees) (fault : Fault) → n < most_open → ReadsOptions limit (suc n) left_side xs (reads Ls ys) → ReadsOptions limit (suc n) right_side ys (refused fault) → Braced n xs (refused fault)

  braced : (n : ℕ) (bytes : List ℕ) (o : Outcome Tree) → ReadsGame limit n bytes o → (x : ℕ) (xs : List ℕ) → bytes ≡ x ∷ xs → x ≡ open_brace → Braced n xs o
  braced _ _ _ (number n bytes a s u q t) x xs e b = absurd (no_brace x (run-first x xs a s (subst (λ z. IsNumberRun z a s) e q)) b)
  braced _ _ _ (no_number n bytes a s q f) x xs e b = absurd (no_brace x (run-first x xs a s (subst (λ z. IsNumberRun z a s) e q)) b)
  braced _ _ _ (name n y ys zs G out a c) x xs e b = absurd (no-name_brace y (name-byte y ys _ a) (head-is e ∙ b))
  braced _ _ _ (no_name n y ys fault a) x xs e b = absurd (no-name_brace y (name-byte y ys _ a) (head-is e ∙ b))
  braced _ _ _ (one_too_deep n y zs c l) x xs e b = deep l
  braced _ _ _ (form n y ws ys zs Ls Rs out c l p q r) x xs e b = closed ys zs Ls Rs out l (subst (λ z. ReadsOptions limit (suc n) left_side z (reads Ls ys)) (tail-is e) p) q r
  braced _ _ _ (left_refused n y ws fault c l p) x xs e b = on_left fault l (subst (λ z. ReadsOptions limit (suc n) left_side z (refused fault)) (tail-is e) p)
  braced _ _ _ (right_refused n y ws ys Ls fault c l p q) x xs e b = on_right ys Ls fault l (subst (λ z. ReadsOptions limit (suc n) left_side z (reads Ls ys)) (tail-is e) p) q
  braced _ _ _ (game_stray n y ys f h g) x xs e b = absurd (g (head-is e ∙ b))
  braced _ _ _ (game_cut n) x xs e b = absurd (subst IsMore (sym e) tt)

  -- each of the four, where the parts of the one reading are all that there is
  one-left : (n : ℕ) (xs : List ℕ) (o : Outcome Tree) → Braced n xs o → (fault : Fault) → n < most_open → ((q : Outcome Trees) → ReadsOptions limit (suc n) left_side xs q → refused fault ≡ q) → refused fault ≡ o
  one-left n xs _ (deep l) fault k ih = absurd (omega (arith, l, k))
  one-left n xs _ (closed ys zs Ls Rs out l p q r) fault k ih = absurd (not-refused Ls ys fault (sym (ih (reads Ls ys) p)))
  one-left n xs _ (on_left other l p) fault k ih = cc (ih (refused other) p)
  one-left n xs _ (on_right ys Ls other l p q) fault k ih = absurd (not-refused Ls ys fault (sym (ih (reads Ls ys) p)))

  one-right : (n : ℕ) (xs : List ℕ) (o : Outcome Tree) → Braced n xs o → (Ls : Trees) (ys : List ℕ) (fault : Fault) → n < most_open → ((q : Outcome Trees) → ReadsOptions limit (suc n) left_side xs q → reads Ls ys ≡ q) → ((q : Outcome Trees) → ReadsOptions limit (suc n) right_side ys q → refused fault ≡ q) → refused fault ≡ o
  one-right n xs _ (deep l) Ls ys fault k ih jh = absurd (omega (arith, l, k))
  one-right n xs _ (closed us vs Ms Rs out l p q r) Ls ys fault k ih jh = let e = reads-apart Ls Ms ys us (ih (reads Ms us) p) in
      absurd (not-refused Rs vs fault (sym (jh (reads Rs vs) (subst (λ z. ReadsOptions limit (suc n) right_side z (reads Rs vs)) (sym e.1) q))))
  one-right n xs _ (on_left other l p) Ls ys fault k ih jh = absurd (not-refused Ls ys other (ih (refused other) p))
  one-right n xs _ (on_right us Ms other l p q) Ls ys fault k ih jh = let e = reads-apart Ls Ms ys us (ih (reads Ms us) p) in
      cc (jh (refused other) (subst (λ z. ReadsOptions limit (suc n) right_side z (refused other)) (sym e.1) q))

  one-form : (n : ℕ) (xs : List ℕ) (o : Outcome Tree) → Braced n xs o → (Ls Rs : Trees) (ys zs : List ℕ) (out : Outcome Tree) → n < most_open → ((q : Outcome Trees) → ReadsOptions limit (suc n) left_side xs q → reads Ls ys ≡ q) → ((q : Outcome Trees) → ReadsOptions limit (suc n) right_side ys q → reads Rs zs ≡ q) → IsClosed limit (node Ls Rs) zs out → out ≡ o
  one-form n xs _ (deep l) Ls Rs ys zs out k ih jh c = absurd (omega (arith, l, k))
  one-form n xs _ (closed us vs Ms Ns other l p q r) Ls Rs ys zs out k ih jh c =
      let e = reads-apart Ls Ms ys us (ih (reads Ms us) p) in
      let f = reads-apart Rs Ns zs vs (jh (reads Ns vs) (subst (λ z. ReadsOptions limit (suc n) right_side z (reads Ns vs)) (sym e.1) q)) in
      one-closed (node Ls Rs) zs out other c (subst (λ z. IsClosed limit (node Ls Rs) z other) (sym f.1) (subst (λ G. IsClosed limit G vs other) (sym (ap₂ node e.0 f.0)) r))
  one-form n xs _ (on_left other l p) Ls Rs ys zs out k ih jh c = absurd (not-refused Ls ys other (ih (refused other) p))
  one-form n xs _ (on_right us Ms other l p q) Ls Rs ys zs out k ih jh c = let e = reads-apart Ls Ms ys us (ih (reads Ms us) p) in
      absurd (not-refused Rs zs other (jh (refused other) (subst (λ z. ReadsOptions limit (suc n) right_side z (refused other)) (sym e.1) q)))

  one-deep : (n : ℕ) (xs : List ℕ) (o : Outcome Tree) → Braced n xs o → most_open ≤ n → refused too_deep ≡ o
  one-deep n xs _ (deep l) k = refl
  one-deep n xs _ (closed us vs Ms Ns other l p q r) k = absurd (omega (arith, l, k))
  one-deep n xs _ (on_left other l p) k = absurd (omega (arith, l, k))
  one-deep n xs _ (on_right us Ms other l p q) k = absurd (omega (arith, l, k))

  one-stray : (n : ℕ) (bytes : List ℕ) (o : Outcome Tree) → ReadsGame limit n bytes o → (x : ℕ) (xs : List ℕ) → bytes ≡ x ∷ xs → (IsNumberByte x → ⊥) → (IsNameByte x → ⊥) → (x ≡ open_brace → ⊥) → refused (bad_byte (x ∷ xs)) ≡ o
  one-stray _ _ _ (number n bytes a s u q t) x xs e f k g = absurd (f (run-first x xs a s (subst (λ z. IsNumberRun z a s) e q)))
  one-stray _ _ _ (no_number n bytes a s q h) x xs e f k g = absurd (f (run-first x xs a s (subst (λ z. IsNumberRun z a s) e q)))
  one-stray _ _ _ (name n y ys zs G out a c) x xs e f k g = absurd (k (subst IsNameByte (head-is e) (name-byte y ys _ a)))
  one-stray _ _ _ (no_name n y ys fault a) x xs e f k g = absurd (k (subst IsNameByte (head-is e) (name-byte y ys _ a)))
  one-stray _ _ _ (one_too_deep n y zs c l) x xs e f k g = absurd (g (sym (head-is e) ∙ c))
  one-stray _ _ _ (form n y ws ys zs Ls Rs out c l p q r) x xs e f k g = absurd (g (sym (head-is e) ∙ c))
  one-stray _ _ _ (left_refused n y ws fault c l p) x xs e f k g = absurd (g (sym (head-is e) ∙ c))
  one-stray _ _ _ (right_refused n y ws ys Ls fault c l p q) x xs e f k g = absurd (g (sym (head-is e) ∙ c))
  one-stray _ _ _ (game_stray n y ys h m i) x xs e f k g = ap (λ z. refused (bad_byte z)) (sym e)
  one-stray _ _ _ (game_cut n) x xs e f k g = absurd (subst IsMore (sym e) tt)

  one-cut : (n : ℕ) (bytes : List ℕ) (o : Outcome Tree) → ReadsGame limit n bytes o → bytes ≡ [] → refused cut_short ≡ o
  one-cut _ _ _ (number n bytes a s u q t) e = absurd (run-some a s q.some (sym e ∙ q.is))
  one-cut _ _ _ (no_number n bytes a s q h) e = absurd (run-some a s q.some (sym e ∙ q.is))
  one-cut _ _ _ (name n y ys zs G out a c) e = absurd (subst IsMore e tt)
  one-cut _ _ _ (no_name n y ys fault a) e = absurd (subst IsMore e tt)
  one-cut _ _ _ (one_too_deep n y zs c l) e = absurd (subst IsMore e tt)
  one-cut _ _ _ (form n y ws ys zs Ls Rs out c l p q r) e = absurd (subst IsMore e tt)
  one-cut _ _ _ (left_refused n y ws fault c l p) e = absurd (subst IsMore e tt)
  one-cut _ _ _ (right_refused n y ws ys Ls fault c l p q) e = absurd (subst IsMore e tt)
  one-cut _ _ _ (game_stray n y ys h m i) e = absurd (subst IsMore e tt)
  one-cut _ _ _ (game_cut n) e = refl

  -- what a game that begins with a name comes to
  data Called (x : ℕ) (xs : List ℕ) : Outcome Tree → Type 0 where
    ended : (rest : List ℕ) (G : Tree) (out : Outcome Tree) → ReadsName x xs (reads G rest) → IsClosed limit G rest out → Called x xs out
    unnamed : (fault : Fault) → ReadsName x xs (refused fault) → Called x xs (refused fault)

  called : (n : ℕ) (bytes : List ℕ) (o : Outcome Tree) → ReadsGame limit n bytes o → (x : ℕ) (xs : List ℕ) → bytes ≡ x ∷ xs → IsNameByte x → Called x xs o
  called _ _ _ (number n bytes a s u q t) x xs e b = absurd (no-name_number x b (run-first x xs a s (subst (λ z. IsNumberRun z a s) e q)))
  called _ _ _ (no_number n bytes a s q f) x xs e b = absurd (no-name_number x b (run-first x xs a s (subst (λ z. IsNumberRun z a s) e q)))
  called _ _ _ (name n y ys zs G out a c) x xs e b = ended zs G out (subst (λ k. ReadsName k xs (reads G zs)) (head-is e) (subst (λ z. ReadsName y z (reads G zs)) (tail-is e) a)) c
  called _ _ _ (no_name n y ys fault a) x xs e b = unnamed fault (subst (λ k. ReadsName k xs (refused fault)) (head-is e) (subst (λ z. ReadsName y z (refused fault)) (tail-is e) a))
  called _ _ _ (one_too_deep n y zs c l) x xs e b = absurd (no-name_brace x b (sym (head-is e) ∙ c))
  called _ _ _ (form n y ws ys zs Ls Rs out c l p q r) x xs e b = absurd (no-name_brace x b (sym (head-is e) ∙ c))
  called _ _ _ (left_refused n y ws fault c l p) x xs e b = absurd (no-name_brace x b (sym (head-is e) ∙ c))
  called _ _ _ (right_refused n y ws ys Ls fault c l p q) x xs e b = absurd (no-name_brace x b (sym (head-is e) ∙ c))
  called _ _ _ (game_stray n y ys f k g) x xs e b = absurd (k (subst IsNameByte (sym (head-is e)) b))
  called _ _ _ (game_cut n) x xs e b = absurd (subst IsMore (sym e) tt)

  one-called : (x : ℕ) (xs : List ℕ) (o p : Outcome Tree) → Called x xs o → Called x xs p → o ≡ p
  one-called x xs _ _ (ended rest G out a c) (ended sest H other b d) = let e = reads-apart G H rest sest (one-name x xs (reads G rest) (reads H sest) a b) in
      one-closed G rest out other c (subst (λ z. IsClosed limit G z other) (sym e.1) (subst (λ K. IsClosed limit K sest other) (sym e.0) d))
  one-called x xs _ _ (ended rest G out a c) (unnamed fault b) = absurd (not-refused G rest fault (one-name x xs (reads G rest) (refused fault) a b))
  one-called x xs _ _ (unnamed fault a) (ended rest G out b d) = absurd (not-refused G rest fault (one-name x xs (reads G rest) (refused fault) b a))
  one-called x xs _ _ (unnamed fault a) (unnamed other b) = one-name x xs (refused fault) (refused other) a b

  -- the same of options
  one-none : (n : ℕ) (side : Side) (bytes : List ℕ) (o : Outcome Trees) → ReadsOptions limit n side bytes o → (x : ℕ) (xs : List ℕ) → bytes ≡ x ∷ xs → x ≡ mark_of side → reads none xs ≡ o
  one-none _ _ _ _ (no_option n side y ys m) x xs e k = ap (λ z. reads none z) (sym (tail-is e))
  one-none _ _ _ _ (first n side bytes ys G others out b p q d) x xs e k = absurd (subst (BeginsOtherwise (mark_of side)) e b k)
  one-none _ _ _ _ (first_refused n side bytes fault b p) x xs e k = absurd (subst (BeginsOtherwise (mark_of side)) e b k)

  one-first : (n : ℕ) (side : Side) (bytes : List ℕ) (o : Outcome Trees) → ReadsOptions limit n side bytes o → (G : Tree) (ys : List ℕ) (others : Outcome Trees) → BeginsOtherwise (mark_of side) bytes → ((q : Outcome Tree) → ReadsGame limit n bytes q → reads G ys ≡ q) → ((q : Outcome Trees) → ReadsMore limit n side ys q → others ≡ q) → behind G others ≡ o
  one-first _ _ _ _ (no_option n side x xs m) G ys others b ih jh = absurd (b m)
  one-first _ _ _ _ (first n side bytes zs H rest out c p q d) G ys others b ih jh = let e = reads-apart G H ys zs (ih (reads H zs) p) in
      ap₂ behind e.0 (jh rest (subst (λ z. ReadsMore limit n side z rest) (sym e.1) q)) ∙ sym d
  one-first _ _ _ _ (first_refused n side bytes fault c p) G ys others b ih jh = absurd (not-refused G ys fault (ih (refused fault) p))

  one-first_refused : (n : ℕ) (side : Side) (bytes : List ℕ) (o : Outcome Trees) → ReadsOptions limit n side bytes o → (fault : Fault) → BeginsOtherwise (mark_of side) bytes → ((q : Outcome Tree) → ReadsGame limit n bytes q → refused fault ≡ q) → refused fault ≡ o
  one-first_refused _ _ _ _ (no_option n side x xs m) fault b ih = absurd (b m)
  one-first_refused _ _ _ _ (first n side bytes zs H rest out c p q d) fault b ih = absurd (not-refused H zs fault (sym (ih (reads H zs) p)))
  one-first_refused _ _ _ _ (first_refused n side bytes other c p) fault b ih = cc (ih (refused other) p)

  one-no_more : (n : ℕ) (side : Side) (bytes : List ℕ) (o : Outcome Trees) → ReadsMore limit n side bytes o → (x : ℕ) (xs : List ℕ) → bytes ≡ x ∷ xs → x ≡ mark_of side → reads none xs ≡ o
  one-no_more _ _ _ _ (no_more n side y ys m) x xs e k = ap (λ z. reads none z) (sym (tail-is e))
  one-no_more _ _ _ _ (next n side y zs ys G others out c p q d) x xs e k = absurd (no_comma side (sym c ∙ head-is e ∙ k))
  one-no_more _ _ _ _ (next_refused n side y ys fault c p) x xs e k = absurd (no_comma side (sym c ∙ head-is e ∙ k))
  one-no_more _ _ _ _ (more_stray n side y ys f g) x xs e k = absurd (f (head-is e ∙ k))
  one-no_more _ _ _ _ (more_cut n side) x xs e k = absurd (subst IsMore (sym e) tt)

  one-next : (n : ℕ) (side : Side) (bytes : List ℕ) (o : Outcome Trees) → ReadsMore limit n side bytes o → (x : ℕ) (xs ys : List ℕ) (G : Tree) (others : Outcome Trees) → bytes ≡ x ∷ xs → x ≡ comma → ((q : Outcome Tree) → ReadsGame limit n xs q → reads G ys ≡ q) → ((q : Outcome Trees) → ReadsMore limit n side ys q → others ≡ q) → behind G others ≡ o
  one-next _ _ _ _ (no_more n side y zs m) x xs ys G others e k ih jh = absurd (no_comma side (sym k ∙ sym (head-is e) ∙ m))
  one-next _ _ _ _ (next n side y us zs H rest out c p q d) x xs ys G others e k ih jh =
      let f = reads-apart G H ys zs (ih (reads H zs) (subst (λ z. ReadsGame limit n z (reads H zs)) (tail-is e) p)) in
      ap₂ behind f.0 (jh rest (subst (λ z. ReadsMore limit n side z rest) (sym f.1) q)) ∙ sym d
  one-next _ _ _ _ (next_refused n side y us fault c p) x xs ys G others e k ih jh = absurd (not-refused G ys fault (ih (refused fault) (subst (λ z. ReadsGame limit n z (refused fault)) (tail-is e) p)))
  one-next _ _ _ _ (more_stray n side y us f g) x xs ys G others e k ih jh = absurd (g (head-is e ∙ k))
  one-next _ _ _ _ (more_cut n side) x xs ys G others e k ih jh = absurd (subst IsMore (sym e) tt)

  one-next_refused : (n : ℕ) (side : Side) (bytes : List ℕ) (o : Outcome Trees) → ReadsMore limit n side bytes o → (x : ℕ) (xs : List ℕ) (fault : Fault) → bytes ≡ x ∷ xs → x ≡ comma → ((q : Outcome Tree) → ReadsGame limit n xs q → refused fault ≡ q) → refused fault ≡ o
  one-next_refused _ _ _ _ (no_more n side y zs m) x xs fault e k ih = absurd (no_comma side (sym k ∙ sym (head-is e) ∙ m))
  one-next_refused _ _ _ _ (next n side y us zs H rest out c p q d) x xs fault e k ih = absurd (not-refused H zs fault (sym (ih (reads H zs) (subst (λ z. ReadsGame limit n z (reads H zs)) (tail-is e) p))))
  one-next_refused _ _ _ _ (next_refused n side y us other c p) x xs fault e k ih = cc (ih (refused other) (subst (λ z. ReadsGame limit n z (refused other)) (tail-is e) p))
  one-next_refused _ _ _ _ (more_stray n side y us f g) x xs fault e k ih = absurd (g (head-is e ∙ k))
  one-next_refused _ _ _ _ (more_cut n side) x xs fault e k ih = absurd (subst IsMore (sym e) tt)

  one-more_stray : (n : ℕ) (side : Side) (bytes : List ℕ) (o : Outcome Trees) → ReadsMore limit n side bytes o → (x : ℕ) (xs : List ℕ) → bytes ≡ x ∷ xs → (x ≡ mark_of side → ⊥) → (x ≡ comma → ⊥) → refused (bad_byte (x ∷ xs)) ≡ o
  one-more_stray _ _ _ _ (no_more n side y zs m) x xs e f g = absurd (f (sym (head-is e) ∙ m))
  one-more_stray _ _ _ _ (next n side y us zs H rest out c p q d) x xs e f g = absurd (g (sym (head-is e) ∙ c))
  one-more_stray _ _ _ _ (next_refused n side y us other c p) x xs e f g = absurd (g (sym (head-is e) ∙ c))
  one-more_stray _ _ _ _ (more_stray n side y us h i) x xs e f g = ap (λ z. refused (bad_byte z)) (sym e)
  one-more_stray _ _ _ _ (more_cut n side) x xs e f g = absurd (subst IsMore (sym e) tt)

  one-more_cut : (n : ℕ) (side : Side) (bytes : List ℕ) (o : Outcome Trees) → ReadsMore limit n side bytes o → bytes ≡ [] → refused cut_short ≡ o
  one-more_cut _ _ _ _ (no_more n side y zs m) e = absurd (subst IsMore e tt)
  one-more_cut _ _ _ _ (next n side y us zs H rest out c p q d) e = absurd (subst IsMore e tt)
  one-more_cut _ _ _ _ (next_refused n side y us other c p) e = absurd (subst IsMore e tt)
  one-more_cut _ _ _ _ (more_stray n side y us h i) e = absurd (subst IsMore e tt)
  one-more_cut _ _ _ _ (more_cut n side) e = refl

  mutual
    pub one-game : (n : ℕ) (bytes : List ℕ) (o : Outcome Tree) → ReadsGame limit n bytes o → (p : Outcome Tree) → ReadsGame limit n bytes p → o ≡ p
    one-game _ _ _ (number n bytes a s u r t) p b = one-numbered a s bytes _ p (is_one u t) (numbered n bytes p b a s r)
    one-game _ _ _ (no_number n bytes a s r f) p b = one-numbered a s bytes _ p (is_none f) (numbered n bytes p b a s r)
    one-game _ _ _ (name n x xs zs G out a c) p b = one-called x xs out p (ended zs G out a c) (called n (x ∷ xs) p b x xs refl (name-byte x xs _ a))
    one-game _ _ _ (no_name n x xs fault a) p b = one-called x xs _ p (unnamed fault a) (called n (x ∷ xs) p b x xs refl (name-byte x xs _ a))
    one-game _ _ _ (one_too_deep n x xs e l) p b = one-deep n xs p (braced n (x ∷ xs) p b x xs refl e) l
    one-game _ _ _ (form n x xs ys zs Ls Rs out e l q r c) p b = one-form n xs p (braced n (x ∷ xs) p b x xs refl e) Ls Rs ys zs out l (one-options (suc n) left_side xs (reads Ls ys) q) (one-options (suc n) right_side ys (reads Rs zs) r) c
    one-game _ _ _ (left_refused n x xs fault e l q) p b = one-left n xs p (braced n (x ∷ xs) p b x xs refl e) fault l (one-options (suc n) left_side xs (refused fault) q)
    one-game _ _ _ (right_refused n x xs ys Ls fault e l q r) p b = one-right n xs p (braced n (x ∷ xs) p b x xs refl e) Ls ys fault l (one-options (suc n) left_side xs (reads Ls ys) q) (one-options (suc n) right_side ys (refused fault) r)
    one-game _ _ _ (game_stray n x xs f k g) p b = one-stray n (x ∷ xs) p b x xs refl f k g
    one-game _ _ _ (game_cut n) p b = one-cut n [] p b refl

    pub one-options : (n : ℕ) (side : Side) (bytes : List ℕ) (o : Outcome Trees) → ReadsOptions limit n side bytes o → (p : Outcome Trees) → ReadsOptions limit n side bytes p → o ≡ p
    one-options _ _ _ _ (no_option n side x xs m) p b = one-none n side (x ∷ xs) p b x xs refl m
    one-options _ _ _ _ (first n side bytes ys G others out c q r d) p b = d ∙ one-first n side bytes p b G ys others c (one-game n bytes (reads G ys) q) (one-more n side ys others r)
    one-options _ _ _ _ (first_refused n side bytes fault c q) p b = one-first_refused n side bytes p b fault c (one-game n bytes (refused fault) q)

    one-more : (n : ℕ) (side : Side) (bytes : List ℕ) (o : Outcome Trees) → ReadsMore limit n side bytes o → (p : Outcome Trees) → ReadsMore limit n side bytes p → o ≡ p
    one-more _ _ _ _ (no_more n side x xs m) p b = one-no_more n side (x ∷ xs) p b x xs refl m
    one-more _ _ _ _ (next n side x xs ys G others out c q r d) p b = d ∙ one-next n side (x ∷ xs) p b x xs ys G others refl c (one-game n xs (reads G ys) q) (one-more n side ys others r)
    one-more _ _ _ _ (next_refused n side x xs fault c q) p b = one-next_refused n side (x ∷ xs) p b x xs fault refl c (one-game n xs (refused fault) q)
    one-more _ _ _ _ (more_stray n side x xs f g) p b = one-more_stray n side (x ∷ xs) p b x xs refl f g
    one-more _ _ _ _ (more_cut n side) p b = one-more_cut n side [] p b refl

  rest_of-game : (G H : Tree) (x : ℕ) (xs : List ℕ) → ◌≡◌ {A = Outcome Tree} (reads G []) (reads H (x ∷ xs)) → ⊥
  rest_of-game G H x xs e = subst IsMore (sym (reads-apart G H [] (x ∷ xs) e).1) tt

  pub one-reading : (text : List ℕ) (o p : Result Tree Fault) → ReadsText limit text o → ReadsText limit text p → o ≡ p
  one-reading text _ _ (whole_text G a) (whole_text H b) = ap (λ (K : Tree). Ok K) (reads-apart G H [] [] (one-game 0 text (reads G []) a (reads H []) b)).0
  one-reading text _ _ (whole_text G a) (followed H x xs b) = absurd (rest_of-game G H x xs (one-game 0 text (reads G []) a (reads H (x ∷ xs)) b))
  one-reading text _ _ (whole_text G a) (unread fault b) = absurd (not-refused G [] fault (one-game 0 text (reads G []) a (refused fault) b))
  one-reading text _ _ (followed G x xs a) (whole_text H b) = absurd (rest_of-game H G x xs (one-game 0 text (reads H []) b (reads G (x ∷ xs)) a))
  one-reading text _ _ (followed G x xs a) (followed H y ys b) = ap (λ z. Err (bad_byte z)) (reads-apart G H (x ∷ xs) (y ∷ ys) (one-game 0 text (reads G (x ∷ xs)) a (reads H (y ∷ ys)) b)).1
  one-reading text _ _ (followed G x xs a) (unread fault b) = absurd (not-refused G (x ∷ xs) fault (one-game 0 text (reads G (x ∷ xs)) a (refused fault) b))
  one-reading text _ _ (unread fault a) (whole_text H b) = absurd (not-refused H [] fault (one-game 0 text (reads H []) b (refused fault) a))
  one-reading text _ _ (unread fault a) (followed H y ys b) = absurd (not-refused H (y ∷ ys) fault (one-game 0 text (reads H (y ∷ ys)) b (refused fault) a))
  one-reading text _ _ (unread fault a) (unread other b) = cc (one-game 0 text (refused fault) a (refused other) b)
