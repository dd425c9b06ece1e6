-- How the reader goes on along a text.
use Rattle.std.proofs.Common.{ℕ, suc, ◌+◌, ◌<◌, ◌≡◌, List, [], ◌∷◌, ◌++◌, length, get_or, drop, arith, refl, ◌∙◌, ap, ap₂, append_assoc, length-append}
use Rattle.std.proofs.Math.Seq.{drop-cons}
use Rattle.short_games.specs.Tree.{Tree}
use Rattle.game_store.specs.Meaning.{Extends}
use Rattle.game_canon.specs.Outcomes.{IsCanonicalId}
use Rattle.game_text.specs.Reading.{mark_of}
use Rattle.game_text.specs.inner.Machine.{Frame, on_left, on_right, side_in, with_option, IsOpening, AreOpen, Keeps, place_after, mark_at}
use Rattle.game_text.specs.declared.pending.Opening.{Opening}
use Rattle.game_text.specs.declared.pending.Place.TheVariants as place
use Rattle.game_text.proofs.MachineSteps.{state_after}
use Rattle.game_text.proofs.NamedFormLaws.{named-more, named-kept}

-- the byte at a place, and those behind it
pub byte-drop : (text : List ℕ) (i : ℕ) → i < length text → drop i text ≡ get_or text i 0 ∷ drop (i + 1) text
byte-drop text i l = drop-cons text i 0 l ∙ ap (λ k. get_or text i 0 ∷ drop k text) (let e : suc i ≡ i + 1 = omega arith in e)

-- the last of a list
pub last-of : {A : Type 0} (xs ys : List A) (x y : A) → xs ++ x ∷ [] ≡ ys ++ y ∷ [] → (xs ≡ ys) × (x ≡ y)
last-of [] [] x y e = (refl, cc)
last-of [] (b ∷ []) x y e = absurd (cc)
last-of [] (b ∷ c ∷ ys) x y e = absurd (cc)
last-of (a ∷ []) [] x y e = absurd (cc)
last-of (a ∷ c ∷ xs) [] x y e = absurd (cc)
last-of (a ∷ xs) (b ∷ ys) x y e = let h : a ≡ b = cc in let t : xs ++ x ∷ [] ≡ ys ++ y ∷ [] = cc in let r = last-of xs ys x y t in (ap₂ ◌∷◌ h r.0, r.1)

pub mark-is : (Ts : List Tree) (f : Frame) (n : ℕ) (own : List ℕ) (o : Opening) → IsOpening Ts f n own o → mark_at o ≡ mark_of (side_in f)
mark-is Ts (on_left Ls) n own o h = ap mark_at h.0
mark-is Ts (on_right Ls Rs) n own o h = ap mark_at h.3

-- as many forms are open as openings are kept
pub frames-many : (Ts : List Tree) (fs : List Frame) (options : List ℕ) (opens : List Opening) → AreOpen Ts fs options opens → length opens ≡ length fs
frames-many Ts [] options opens a = ap length a.1
frames-many Ts (f ∷ fs) options opens a = ap length a.opens_are ∙ length-append a.below (a.top ∷ []) ∙ (let e = frames-many Ts fs a.before a.below a.others in omega (arith, e))

-- the store may grow
opening-kept : (Ts Us : List Tree) (f : Frame) (n : ℕ) (own : List ℕ) (o : Opening) → Extends Ts Us → IsOpening Ts f n own o → IsOpening Us f n own o
opening-kept Ts Us (on_left Ls) n own o x h = (h.0, named-kept Ts Us Ls own x h.1)
opening-kept Ts Us (on_right Ls Rs) n own o x (ls, rs, e, p, a, b) = (ls, rs, e, p, named-kept Ts Us Ls ls x a, named-kept Ts Us Rs rs x b)

pub open-kept : (Ts Us : List Tree) (fs : List Frame) (options : List ℕ) (opens : List Opening) → Extends Ts Us → AreOpen Ts fs options opens → AreOpen Us fs options opens
open-kept Ts Us [] options opens x a = a
open-kept Ts Us (f ∷ fs) options opens x a = record {
  before = a.before;
  own = a.own;
  below = a.below;
  top = a.top;
  options_are = a.options_are;
  opens_are = a.opens_are;
  opening = opening-kept Ts Us f (length a.before) a.own a.top x a.opening;
  others = open-kept Ts Us fs a.before a.below x a.others;
}

-- a game is taken among the options
opening-more : (Ts : List Tree) (f : Frame) (n : ℕ) (own : List ℕ) (o : Opening) (G : Tree) (i : ℕ) → IsOpening Ts f n own o → IsCanonicalId Ts G i → IsOpening Ts (with_option f G) n (own ++ i ∷ []) o
opening-more Ts (on_left Ls) n own o G i h c = (h.0, named-more Ts Ls own G i h.1 c)
opening-more Ts (on_right Ls Rs) n own o G i (ls, rs, e, p, a, b) c = (ls, rs ++ i ∷ [], ap (λ z. z ++ i ∷ []) e ∙ append_assoc ls rs (i ∷ []), p, a, named-more Ts Rs rs G i b c)

pub game-taken : (Ts : List Tree) (fs : List Frame) (options : List ℕ) (opens : List Opening) (G : Tree) (i : ℕ) → AreOpen Ts fs options opens → IsCanonicalId Ts G i → Keeps Ts (state_after fs G) (place_after opens) (options ++ i ∷ []) opens
game-taken Ts [] options opens G i a c = (ap place_after a.1, i, ap (λ z. z ++ i ∷ []) a.0, c)
game-taken Ts (f ∷ fs) options opens G i a c = (
  after-some opens a.below a.top a.opens_are,
  record {
    before = a.before;
    own = a.own ++ i ∷ [];
    below = a.below;
    top = a.top;
    options_are = ap (λ z. z ++ i ∷ []) a.options_are ∙ append_assoc a.before a.own (i ∷ []);
    opens_are = a.opens_are;
    opening = opening-more Ts f (length a.before) a.own a.top G i a.opening c;
    others = a.others;
  },
)
  where
    after-some : (opens below : List Opening) (top : Opening) → opens ≡ below ++ top ∷ [] → place_after opens ≡ place.Behind
    after-some os [] top e = ap place_after e
    after-some os (b ∷ bs) top e = ap place_after e
