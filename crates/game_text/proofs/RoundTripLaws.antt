-- The text of a canonical tree names it.
use Rattle.std.proofs.Common.{ℕ, suc, ◌+◌, ◌<◌, ◌≤◌, ◌≡◌, List, [], ◌∷◌, ◌++◌, length, arith, refl, inl, inr, sym, ◌∙◌, ap, subst, ℤ, Some, None}
use Rattle.std.specs.Prelude.{Option, max}
use Rattle.dyadic_num.specs.Units.{IsInBounds}
use Rattle.short_games.specs.Tree.{Tree, Trees, node, none, more, Has}
use Rattle.short_games.specs.Number.{IsNumberTree, number_tree}
use Rattle.short_games.specs.NumberText.{Fraction, number_of, number_text, text_of_number}
use Rattle.short_games.specs.Text.{text, texts, texts_rest, open_brace, bar, close_brace, comma}
use Rattle.short_games.specs.TextOrder.{tree_text, TextBefore, IsCanonicalTree}
use Rattle.short_games.specs.Parts.{IsOption, HasMoreParts}
use Rattle.short_games.specs.Parts.IsFollower.{itself, further}
use Rattle.short_games.proofs.NumberTextLaws.{number_of-is}
use Rattle.short_games.proofs.TextOrderLaws.{text-order}
use Rattle.short_games.proofs.CanonicalLaws.{canonical-left, canonical-right}
use Rattle.short_games.proofs.ReductionLaws.{canonical-number, canonical-same}
use Rattle.game_text.specs.Depth.{depth, depths, depth_or, most_open}
use Rattle.game_text.specs.Laws.{HasNumbersWithinBounds, IsReadable}
use Rattle.game_text.specs.Reading.{IsNumberByte, AreNumberBytes, EndsNumber, Side, left_side, right_side, mark_of, BeginsOtherwise, IsClosed, ReadsGame, ReadsOptions, ReadsMore, Names}
use Rattle.game_text.specs.Reading.Outcome.{reads}
use Rattle.game_text.specs.Reading.IsClosed.{taken}
use Rattle.game_text.specs.Reading.ReadsGame.{number, form}
use Rattle.game_text.specs.Reading.ReadsOptions.{no_option, first}
use Rattle.game_text.specs.Reading.ReadsMore.{no_more, next}
use Rattle.game_text.specs.Reading.ReadsText.{whole_text}
use Rattle.game_text.proofs.NumberTextLaws.{number_of-num, text-braces}
use Rattle.game_text.proofs.BracesLaws.{text-behind}
use Rattle.game_text.proofs.SpellingLaws.{number-bytes}

-- depths
has-depth : (Gs : Trees) (G : Tree) → Has Gs G → depth G ≤ depths Gs
unfolding depth
has-depth none G h = absurd h
has-depth (more H Hs) G (inl e) = subst (λ z. depth z ≤ max (depth H) (depths Hs)) (sym e) (omega arith)
has-depth (more H Hs) G (inr h) = omega (arith, has-depth Hs G h)

node-depth : (ls rs : Trees) → number_of (node ls rs) ≡ None → depth (node ls rs) ≡ suc (max (depths ls) (depths rs))
unfolding depth
node-depth ls rs e = ap (λ o. depth_or o (suc (max (depths ls) (depths rs)))) e

option-depth : (ls rs : Trees) (X : Tree) → number_of (node ls rs) ≡ None → IsOption (node ls rs) X → suc (depth X) ≤ depth (node ls rs)
option-depth ls rs X e (inl h) = omega (arith, node-depth ls rs e, has-depth ls X h)
option-depth ls rs X e (inr h) = omega (arith, node-depth ls rs e, has-depth rs X h)

-- no number's tree
pub no-number : (G : Tree) → number_of G ≡ None → IsNumberTree G → ⊥
no-number G e n = let r = number_of-num n.0 n.1 in let f : number_of G ≡ Some r.0 = ap number_of n.2 ∙ r.2 in cc

-- the numbers and the parts of an option are those of the tree
pub numbers-option : (G X : Tree) → (IsNumberTree G → ⊥) → IsOption G X → HasNumbersWithinBounds G → HasNumbersWithinBounds X
numbers-option G X f o h N n (inl e) = h N n (inr (G, (itself G, f), subst (IsOption G) (sym e) o))
numbers-option G X f o h N n (inr (P, p, q)) = h N n (inr (P, (further G X P o p.0, p.1), q))

pub parts-option : (G X : Tree) (limit : ℕ) → IsOption G X → HasMoreParts X limit → HasMoreParts G limit
parts-option G X limit o (Xs, p, l) = (Xs, record { each = λ j k. (let r = p.each j k in (further G X _ o r.0, r.1)); different = p.different }, l)

module _ (limit : ℕ) where
  -- a tree that can be read back where n braces are open
  record Fits (n : ℕ) (G : Tree) : Type 0 where
    canonical : IsCanonicalTree G
    numbers : HasNumbersWithinBounds G
    shallow : n + depth G ≤ most_open
    small : HasMoreParts G limit → ⊥

  canonical-option : (G X : Tree) → IsOption G X → IsCanonicalTree G → IsCanonicalTree X
  canonical-option G X (inl h) c = canonical-left TextBefore text-order.irreflexive text-order.transitive G X c h
  canonical-option G X (inr h) c = canonical-right TextBefore text-order.irreflexive text-order.transitive G X c h

  fits-option : (n : ℕ) (ls rs : Trees) (X : Tree) → number_of (node ls rs) ≡ None → IsOption (node ls rs) X → Fits n (node ls rs) → Fits (suc n) X
  fits-option n ls rs X e o f = record {
    canonical = canonical-option (node ls rs) X o f.canonical;
    numbers = numbers-option (node ls rs) X (no-number (node ls rs) e) o f.numbers;
    shallow = (let d = option-depth ls rs X e o in omega (arith, f.shallow, d));
    small = λ p. f.small (parts-option (node ls rs) X limit o p);
  }

  abbrev Fit : ℕ → Trees → Type 0
  Fit n Gs = (G : Tree) → Has Gs G → Fits n G

  -- no number goes on behind a text
  mark-ends : (side : Side) (s : List ℕ) → EndsNumber (mark_of side ∷ s)
  mark-ends left_side s (inl e) = omega (arith, e)
  mark-ends left_side s (inr l) = omega (arith, l.1)
  mark-ends right_side s (inl e) = omega (arith, e)
  mark-ends right_side s (inr l) = omega (arith, l.1)

  comma-ends : IsNumberByte comma → ⊥
  comma-ends (inl e) = omega (arith, e)
  comma-ends (inr l) = omega (arith, l.0)

  rest-ends : (Gs : Trees) (side : Side) (s : List ℕ) → EndsNumber (texts_rest number_text Gs (mark_of side ∷ s))
  unfolding text
  rest-ends none side s = mark-ends side s
  rest-ends (more G Gs) side s = comma-ends

  -- a text begins otherwise than a side ends
  byte-begins : (side : Side) (x : ℕ) → IsNumberByte x → x ≡ mark_of side → ⊥
  byte-begins left_side x (inl e) m = omega (arith, e, m)
  byte-begins left_side x (inr k) m = omega (arith, k.1, m)
  byte-begins right_side x (inl e) m = omega (arith, e, m)
  byte-begins right_side x (inr k) m = omega (arith, k.1, m)

  number-begins : (side : Side) (t s : List ℕ) → 0 < length t → AreNumberBytes t → BeginsOtherwise (mark_of side) (t ++ s)
  number-begins side [] s l b = absurd (omega (arith, l))
  number-begins side (x ∷ xs) s l b = byte-begins side x b.0

  brace-begins : (side : Side) (xs : List ℕ) → BeginsOtherwise (mark_of side) (open_brace ∷ xs)
  brace-begins left_side xs m = omega (arith, m)
  brace-begins right_side xs m = omega (arith, m)

  -- a number
  number-tree : (G : Tree) (x : Fraction) (n : ℕ) → number_of G ≡ Some x → Fits n G → (u : ℤ) × IsInBounds u × (G ≡ number_tree u)
  number-tree G x n e f = f.numbers G (x.exponent, x.numerator, number_of-is G x e) (inl refl)

  begins : (G : Tree) (n : ℕ) (side : Side) (s : List ℕ) → Fits n G → BeginsOtherwise (mark_of side) (text number_text G s)
  begins (node ls rs) n side s f = at (number_of (node ls rs)) refl
    where
      at : (o : Option Fraction) → number_of (node ls rs) ≡ o → BeginsOtherwise (mark_of side) (text number_text (node ls rs) s)
      at (Some x) e =
          let r = number-tree (node ls rs) x n e f in
          let b = number-bytes r.0 r.1 in
          subst (BeginsOtherwise (mark_of side)) (ap (λ G. tree_text G ++ s) (sym r.2) ∙ sym (text-behind (node ls rs) s)) (number-begins side (tree_text (number_tree r.0)) s b.0 b.1)
      at None e = subst (BeginsOtherwise (mark_of side)) (sym (text-braces ls rs s (ap text_of_number e))) (brace-begins side (texts number_text ls (bar ∷ texts number_text rs (close_brace ∷ s))))

  number-reads : (G : Tree) (x : Fraction) (n : ℕ) (s : List ℕ) → number_of G ≡ Some x → Fits n G → EndsNumber s → ReadsGame limit n (text number_text G s) (reads G s)
  number-reads G x n s e f stops =
      let r = number-tree G x n e f in
      let b = number-bytes r.0 r.1 in
      subst (λ z. ReadsGame limit n z (reads G s)) (ap (λ H. tree_text H ++ s) (sym r.2) ∙ sym (text-behind G s)) (subst (λ (H : Tree). ReadsGame limit n (tree_text (number_tree r.0) ++ s) (reads H s)) (sym r.2)
      (number n (tree_text (number_tree r.0) ++ s) (tree_text (number_tree r.0)) s r.0 (record { is = refl; some = b.0; number_bytes = b.1; longest = stops }) (r.1, refl)))

  -- a form that is closed is taken
  closes : (ls rs : Trees) (n : ℕ) (s : List ℕ) → number_of (node ls rs) ≡ None → Fits n (node ls rs) → IsClosed limit (node ls rs) s (reads (node ls rs) s)
  closes ls rs n s e f = taken (λ p. no-number (node ls rs) e (p.0.0, p.0.1, canonical-number (node ls rs) f.canonical p.0))
      (λ C c h. f.small (subst (λ G. HasMoreParts G limit) (canonical-same C (node ls rs) c.canonical f.canonical c.over c.under) h))

  mutual
    unfolding text

    reads-tree : (G : Tree) (n : ℕ) (s : List ℕ) → Fits n G → EndsNumber s → ReadsGame limit n (text number_text G s) (reads G s)
    reads-tree (node ls rs) n s f stops = at (number_of (node ls rs)) refl
        (λ e. reads-side ls (suc n) left_side (texts number_text rs (close_brace ∷ s)) (λ X h. fits-option n ls rs X e (inl h) f))
        (λ e. reads-side rs (suc n) right_side s (λ X h. fits-option n ls rs X e (inr h) f))
      where
        at : (o : Option Fraction) → number_of (node ls rs) ≡ o → (number_of (node ls rs) ≡ None → ReadsOptions limit (suc n) left_side (texts number_text ls (bar ∷ texts number_text rs (close_brace ∷ s))) (reads ls (texts number_text rs (close_brace ∷ s)))) → (number_of (node ls rs) ≡ None → ReadsOptions limit (suc n) right_side (texts number_text rs (close_brace ∷ s)) (reads rs s)) → ReadsGame limit n (text number_text (node ls rs) s) (reads (node ls rs) s)
        at (Some x) e p q = number-reads (node ls rs) x n s e f stops
        at None e p q = subst (λ z. ReadsGame limit n z (reads (node ls rs) s)) (sym (text-braces ls rs s (ap text_of_number e)))
            (form n open_brace (texts number_text ls (bar ∷ texts number_text rs (close_brace ∷ s))) (texts number_text rs (close_brace ∷ s)) s ls rs (reads (node ls rs) s) refl (omega (arith, f.shallow, node-depth ls rs e)) (p e) (q e) (closes ls rs n s e f))

    reads-side : (Gs : Trees) (n : ℕ) (side : Side) (s : List ℕ) → Fit n Gs → ReadsOptions limit n side (texts number_text Gs (mark_of side ∷ s)) (reads Gs s)
    reads-side none n side s f = no_option n side (mark_of side) s refl
    reads-side (more G Gs) n side s f = first n side (text number_text G (texts_rest number_text Gs (mark_of side ∷ s))) (texts_rest number_text Gs (mark_of side ∷ s)) G (reads Gs s) (reads (more G Gs) s) (begins G n side (texts_rest number_text Gs (mark_of side ∷ s)) (f G (inl refl)))
        (reads-tree G n (texts_rest number_text Gs (mark_of side ∷ s)) (f G (inl refl)) (rest-ends Gs side s)) (reads-rest Gs n side s (λ X h. f X (inr h))) refl

    reads-rest : (Gs : Trees) (n : ℕ) (side : Side) (s : List ℕ) → Fit n Gs → ReadsMore limit n side (texts_rest number_text Gs (mark_of side ∷ s)) (reads Gs s)
    reads-rest none n side s f = no_more n side (mark_of side) s refl
    reads-rest (more G Gs) n side s f = next n side comma (text number_text G (texts_rest number_text Gs (mark_of side ∷ s))) (texts_rest number_text Gs (mark_of side ∷ s)) G (reads Gs s) (reads (more G Gs) s) refl
        (reads-tree G n (texts_rest number_text Gs (mark_of side ∷ s)) (f G (inl refl)) (rest-ends Gs side s)) (reads-rest Gs n side s (λ X h. f X (inr h))) refl

  pub round-trip : (C : Tree) → IsReadable limit C → Names limit (tree_text C) C
  unfolding tree_text
  round-trip C r = whole_text C (reads-tree C 0 [] (record { canonical = r.canonical; numbers = r.numbers; shallow = omega (arith, r.shallow); small = r.small }) tt)
