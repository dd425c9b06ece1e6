-- A line comes to one thing.
use Rattle.std.proofs.Common.{ℕ, suc, ◌≡◌, List, [], arith, ap, refl, sym, subst, ◌∙◌, Some, None}
use Rattle.std.specs.Prelude.{Option, Result}
use Rattle.game_text.proofs.OneReadingLaws.{one-reading}
use Rattle.game_calc.specs.Expression.{Expression, Line, Fault, Outcome, ReadsTerm, ReadsTerms, ReadsLine, BehindFirst, BehindSecond, AfterFirst, outcome_of, closed, kind, next, token, rest, sign_of, with_term}
use Rattle.game_calc.specs.Expression.Outcome.{reads, refused}
use Rattle.game_calc.specs.Expression.ReadsTerm.{a_game, a_group, one_too_deep, none_left, no_term}
use Rattle.game_calc.specs.Expression.ReadsTerms.{last, one_more, no_more}
use Rattle.game_calc.specs.declared.amounts.Sign.{Sign}
use Rattle.game_calc.specs.declared.tokens.Kind.{Kind}
use Rattle.game_calc.specs.declared.tokens.Kind.TheVariants.{End, Plus, Minus, Open, Close, Query, Game}

-- the parts of an outcome
abbrev bytes_of : Outcome → List ℕ
bytes_of (reads F bytes) = bytes
bytes_of (refused fault) = []

abbrev term_of : Outcome → Expression → Expression
term_of (reads F bytes) E = F
term_of (refused fault) E = E

abbrev with_terms : Option Expression → Sign → Outcome → Outcome
with_terms before s (reads F bytes) = reads (with_term before s F) bytes
with_terms before s (refused fault) = refused fault

abbrev Was : Outcome → Type 0
Was (reads F bytes) = Unit {0}
Was (refused fault) = ⊥

other : {A : Type 0} (F : Expression) (bytes : List ℕ) (fault : Fault) → reads F bytes ≡ refused fault → A
other F bytes fault e = absurd (subst Was e tt)

abbrev HasSign : Option Sign → Type 0
HasSign None = ⊥
HasSign (Some s) = Unit {0}

same-sign : (s t : Sign) → Some s ≡ Some t → s ≡ t
same-sign s t e = ap value e
  where
    value : Option Sign → Sign
    value None = s
    value (Some u) = u

mutual
  one-term : (limit n : ℕ) (bytes : List ℕ) (k : Kind) (o p : Outcome) → ReadsTerm limit n bytes k o → ReadsTerm limit n bytes k p → o ≡ p
  one-term limit _ _ _ _ _ (a_game n bytes r h) (a_game _ _ s g) = ap (λ z. outcome_of z (rest bytes)) (one-reading limit (token (next bytes)) r s h g)
  one-term limit _ _ _ _ _ (a_game n bytes r h) (no_term _ _ _ b) = absurd b
  one-term limit _ _ _ _ _ (a_group n bytes o l h) (a_group _ _ p m g) = ap closed (one-terms limit (suc n) None _ _ o p h g)
  one-term limit _ _ _ _ _ (a_group n bytes o l h) (one_too_deep _ _ m) = absurd (omega (arith, l, m))
  one-term limit _ _ _ _ _ (a_group n bytes o l h) (no_term _ _ _ b) = absurd b
  one-term limit _ _ _ _ _ (one_too_deep _ _ l) (a_group _ _ p m g) = absurd (omega (arith, l, m))
  one-term limit _ _ _ _ _ (one_too_deep _ _ l) (one_too_deep _ _ m) = refl
  one-term limit _ _ _ _ _ (one_too_deep _ _ l) (no_term _ _ _ b) = absurd b
  one-term limit _ _ _ _ _ (none_left _ _) (none_left _ _) = refl
  one-term limit _ _ _ _ _ (none_left _ _) (no_term _ _ _ b) = absurd b
  one-term limit _ _ _ _ _ (no_term _ _ _ b) (a_game _ _ s g) = absurd b
  one-term limit _ _ _ _ _ (no_term _ _ _ b) (a_group _ _ p m g) = absurd b
  one-term limit _ _ _ _ _ (no_term _ _ _ b) (one_too_deep _ _ m) = absurd b
  one-term limit _ _ _ _ _ (no_term _ _ _ b) (none_left _ _) = absurd b
  one-term limit _ _ _ _ _ (no_term _ _ _ b) (no_term _ _ _ c) = refl

  one-terms : (limit n : ℕ) (before : Option Expression) (s : Sign) (bytes : List ℕ) (o p : Outcome) → ReadsTerms limit n before s bytes o → ReadsTerms limit n before s bytes p → o ≡ p
  one-terms limit _ _ _ _ _ _ (last n before s bytes F ys t e) (last _ _ _ _ G zs u f) = ap (with_terms before s) (one-term limit n bytes (kind bytes) (reads F ys) (reads G zs) t u)
  one-terms limit _ _ _ _ _ _ (last n before s bytes F ys t e) (one_more _ _ _ _ G zs b p u f g) = absurd (subst HasSign (sym f ∙ sym (ap (λ o. sign_of (kind (bytes_of o))) (one-term limit n bytes (kind bytes) (reads F ys) (reads G zs) t u)) ∙ e) tt)
  one-terms limit _ _ _ _ _ _ (last n before s bytes F ys t e) (no_more _ _ _ _ x u) = other F ys x (one-term limit n bytes (kind bytes) (reads F ys) (refused x) t u)
  one-terms limit _ _ _ _ _ _ (one_more n before s bytes F ys a o t e h) (last _ _ _ _ G zs u f) = absurd (subst HasSign (sym e ∙ ap (λ o. sign_of (kind (bytes_of o))) (one-term limit n bytes (kind bytes) (reads F ys) (reads G zs) t u) ∙ f) tt)
  one-terms limit _ _ _ _ _ _ (one_more n before s bytes F ys a o t e h) (one_more _ _ _ _ G zs b p u f g) =
      let r : reads F ys ≡ reads G zs = one-term limit n bytes (kind bytes) (reads F ys) (reads G zs) t u in
      let same : b ≡ a = same-sign b a (sym f ∙ sym (ap (λ o. sign_of (kind (bytes_of o))) r) ∙ e) in
      one-terms limit n (Some (with_term before s F)) a (rest ys) o p h
      (subst (λ z. ReadsTerms limit n (Some (with_term before s (term_of z F))) a (rest (bytes_of z)) p) (sym r) (subst (λ z. ReadsTerms limit n (Some (with_term before s G)) z (rest zs) p) same g))
  one-terms limit _ _ _ _ _ _ (one_more n before s bytes F ys a o t e h) (no_more _ _ _ _ x u) = other F ys x (one-term limit n bytes (kind bytes) (reads F ys) (refused x) t u)
  one-terms limit _ _ _ _ _ _ (no_more n before s bytes x t) (last _ _ _ _ G zs u f) = other G zs x (sym (one-term limit n bytes (kind bytes) (refused x) (reads G zs) t u))
  one-terms limit _ _ _ _ _ _ (no_more n before s bytes x t) (one_more _ _ _ _ G zs b p u f g) = other G zs x (sym (one-term limit n bytes (kind bytes) (refused x) (reads G zs) t u))
  one-terms limit _ _ _ _ _ _ (no_more n before s bytes x t) (no_more _ _ _ _ y u) = one-term limit n bytes (kind bytes) (refused x) (refused y) t u

behind-second : (limit : ℕ) (E : Expression) (o : Outcome) (a b : Result Line Fault) → BehindSecond limit E o a → BehindSecond limit E o b → a ≡ b
behind-second limit E (reads F ys) a b x y = x ∙ sym y
behind-second limit E (refused f) a b x y = x ∙ sym y

after-first : (limit : ℕ) (k : Kind) (E : Expression) (ys : List ℕ) (a b : Result Line Fault) → AfterFirst limit k E ys a → AfterFirst limit k E ys b → a ≡ b
after-first limit End E ys a b x y = x ∙ sym y
after-first limit Plus E ys a b x y = x ∙ sym y
after-first limit Minus E ys a b x y = x ∙ sym y
after-first limit Open E ys a b x y = x ∙ sym y
after-first limit Close E ys a b x y = x ∙ sym y
after-first limit Game E ys a b x y = x ∙ sym y
after-first limit Query E ys a b (o, h, x) (p, g, y) = behind-second limit E o a b x (subst (λ z. BehindSecond limit E z b) (sym (one-terms limit 0 None _ _ o p h g)) y)

behind-first : (limit : ℕ) (o : Outcome) (a b : Result Line Fault) → BehindFirst limit o a → BehindFirst limit o b → a ≡ b
behind-first limit (reads E ys) a b x y = after-first limit (kind ys) E ys a b x y
behind-first limit (refused f) a b x y = x ∙ sym y

pub one-line : (limit : ℕ) (text : List ℕ) (a b : Result Line Fault) → ReadsLine limit text a → ReadsLine limit text b → a ≡ b
one-line limit text a b (o, h, x) (p, g, y) = behind-first limit o a b x (subst (λ z. BehindFirst limit z b) (sym (one-terms limit 0 None _ _ o p h g)) y)
