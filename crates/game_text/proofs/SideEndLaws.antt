-- What the reader does at the end of a side.
use Rattle.std.proofs.Common.{ℕ, ◌+◌, ◌-◌, ◌<◌, ◌≤◌, ◌≡◌, List, [], ◌∷◌, ◌++◌, length, get_or, take, drop, arith, refl, sym, ◌∙◌, ap, ap₂, subst, append_assoc, append-nil, length-append}
use Rattle.std.specs.Prelude.{Option, Some, None, Err, slice_range}
use Rattle.std.proofs.Math.Seq.{drop-append_seam}
use Rattle.short_games.specs.Tree.{Tree, Trees, node, none, tree_at}
use Rattle.short_games.specs.Text.{close_brace}
use Rattle.game_store.specs.Meaning.{listed, AreIds, Extends}
use Rattle.game_canon.specs.Outcomes.{IsCanonicalId, IsPastBounds}
use Rattle.game_text.specs.Reading.{ReadsText, IsReadRefusal}
use Rattle.game_text.specs.Reading.Fault.{too_many_parts, past_bounds}
use Rattle.game_text.specs.Reading.Outcome.{reads}
use Rattle.game_text.specs.inner.Refusals.{IsFormRefusal}
use Rattle.game_text.specs.inner.Machine.{Answer, Frame, on_left, on_right, TextState, first_option, a_game, other_options, all_read, Rest, AreNamed, opening_at, AreOpen, Keeps, IsReading, IsMarkOfInnermost, place_after, mark_at, IsFormTaken}
use Rattle.game_text.specs.declared.errors.ReadError.{ReadError}
use Rattle.game_text.specs.declared.errors.ReadError.TheVariants as reading
use Rattle.game_text.specs.declared.pending.Opening.{Opening}
use Rattle.game_text.specs.declared.pending.Place.{Place}
use Rattle.game_text.specs.declared.pending.Place.TheVariants as place
use Rattle.game_text.proofs.MachineSteps.{state_after, bar-right, brace-closed, closed-refused, after-game}
use Rattle.game_text.proofs.NamedFormLaws.{named-ids, canonical-node, closed-taken, closed-many, closed-far}
use Rattle.game_text.proofs.ReadingSteps.{byte-drop, last-of, open-kept, game-taken}
use Rattle.game_text.proofs.ReadingPlaceLaws.{first-is_no_game, first-is_not_behind, first-is_not_whole}
use Rattle.game_text.proofs.SpellingLaws.{front-of}

some-none : (n : ℕ) (o : Option ℕ) → o ≡ Some n → o ≡ None → ⊥
some-none n o p q = cc

some-same : (m n : ℕ) (o : Option ℕ) → o ≡ Some m → o ≡ Some n → m ≡ n
some-same m n o p q = cc

module _ (Ts : List Tree) (limit : ℕ) (text : List ℕ) (i : ℕ) (options : List ℕ) (opens below : List Opening) (top : Opening) (l : i < length text) (r : IsReading Ts limit text i place.First options opens) (e : opens ≡ below ++ top ∷ []) (mark : get_or text i 0 ≡ mark_at top) where
  -- where the Left options of the innermost form end
  pub record IsLeftEnd : Type 0 where
    pub frames : List Frame
    pub lefts : Trees
    pub before : List ℕ
    pub own : List ℕ
    pub options_are : options ≡ before ++ own
    pub top_is : top ≡ opening_at (length before) None
    pub named : AreNamed Ts lefts own
    pub others : AreOpen Ts frames before below
    pub comes : (out : Answer) → Rest limit (first_option (on_left lefts) frames) (drop i text) out → ReadsText limit text out

  -- where its Right options end
  pub record IsRightEnd : Type 0 where
    pub frames : List Frame
    pub lefts : Trees
    pub rights : Trees
    pub before : List ℕ
    pub left_ids : List ℕ
    pub right_ids : List ℕ
    pub options_are : options ≡ before ++ (left_ids ++ right_ids)
    pub top_is : top ≡ opening_at (length before) (Some (length before + length left_ids))
    pub left_named : AreNamed Ts lefts left_ids
    pub right_named : AreNamed Ts rights right_ids
    pub others : AreOpen Ts frames before below
    pub comes : (out : Answer) → Rest limit (first_option (on_right lefts rights) frames) (drop i text) out → ReadsText limit text out

  left-end : top.middle ≡ None → IsLeftEnd
  left-end n = by r.state r.kept r.comes
    where
      by : (s : TextState) → Keeps Ts s place.First options opens → ((out : Answer) → Rest limit s (drop i text) out → ReadsText limit text out) → IsLeftEnd
      by (first_option (on_left Ls) fs) k c = let s = last-of k.1.below below k.1.top top (sym k.1.opens_are ∙ e) in record {
        frames = fs;
        lefts = Ls;
        before = k.1.before;
        own = k.1.own;
        options_are = k.1.options_are;
        top_is = sym s.1 ∙ k.1.opening.0;
        named = k.1.opening.1;
        others = subst (AreOpen Ts fs k.1.before) s.0 k.1.others;
        comes = c;
      }
      by (first_option (on_right Ls Rs) fs) k c = absurd (let s = last-of k.1.below below k.1.top top (sym k.1.opens_are ∙ e) in some-none _ top.middle (ap (λ (o : Opening). o.middle) (sym s.1 ∙ k.1.opening.3)) n)
      by (a_game fs) k c = absurd (first-is_no_game k.0)
      by (other_options h fs) k c = absurd (first-is_not_behind k.0)
      by (all_read G) k c = absurd (first-is_not_whole k.0)

  pub right-end : (m : ℕ) → top.middle ≡ Some m → IsRightEnd
  right-end m n = by r.state r.kept r.comes
    where
      by : (s : TextState) → Keeps Ts s place.First options opens → ((out : Answer) → Rest limit s (drop i text) out → ReadsText limit text out) → IsRightEnd
      by (first_option (on_left Ls) fs) k c = absurd (let s = last-of k.1.below below k.1.top top (sym k.1.opens_are ∙ e) in some-none m top.middle n (ap (λ (o : Opening). o.middle) (sym s.1 ∙ k.1.opening.0)))
      by (first_option (on_right Ls Rs) fs) k c = let s = last-of k.1.below below k.1.top top (sym k.1.opens_are ∙ e) in record {
        frames = fs;
        lefts = Ls;
        rights = Rs;
        before = k.1.before;
        left_ids = k.1.opening.0;
        right_ids = k.1.opening.1;
        options_are = k.1.options_are ∙ ap (λ z. k.1.before ++ z) k.1.opening.2;
        top_is = sym s.1 ∙ k.1.opening.3;
        left_named = k.1.opening.4;
        right_named = k.1.opening.5;
        others = subst (AreOpen Ts fs k.1.before) s.0 k.1.others;
        comes = c;
      }
      by (a_game fs) k c = absurd (first-is_no_game k.0)
      by (other_options h fs) k c = absurd (first-is_not_behind k.0)
      by (all_read G) k c = absurd (first-is_not_whole k.0)

  -- behind the bar
  pub bar-next : (after : List ℕ) (now : List Opening) → top.middle ≡ None → after ≡ options → now ≡ below ++ opening_at top.start (Some (length options)) ∷ [] → IsReading Ts limit text (i + 1) place.First after now
  bar-next after now n p q =
      let a = left-end n in
      let first : top.start ≡ length a.before = ap (λ (o : Opening). o.start) a.top_is in
      let second : length options ≡ length a.before + length a.own = ap length a.options_are ∙ length-append a.before a.own in record {
        state = first_option (on_right a.lefts none) a.frames;
        kept = (
          refl,
          record {
            before = a.before;
            own = a.own;
            below = below;
            top = opening_at top.start (Some (length options));
            options_are = p ∙ a.options_are;
            opens_are = q;
            opening = (a.own, [], sym (append-nil a.own), ap₂ (λ x y. opening_at x (Some y)) first second, a.named, tt);
            others = a.others;
          },
        );
        within = omega (arith, l);
        comes = λ out s. a.comes out (subst (λ z. Rest limit (first_option (on_left a.lefts) a.frames) z out) (sym (byte-drop text i l)) (bar-right limit a.lefts a.frames (get_or text i 0) (drop (i + 1) text) out (mark ∙ ap mark_at a.top_is) s));
      }

  -- at the closing brace
  module _ (m : ℕ) (n : top.middle ≡ Some m) where
    abbrev A : IsRightEnd
    A = right-end m n

    start-is : top.start ≡ length A.before
    start-is = ap (λ (o : Opening). o.start) A.top_is

    middle-is : m ≡ length A.before + length A.left_ids
    middle-is = some-same m _ top.middle n (ap (λ (o : Opening). o.middle) A.top_is)

    long : length options ≡ length A.before + (length A.left_ids + length A.right_ids)
    long = ap length A.options_are ∙ length-append A.before (A.left_ids ++ A.right_ids) ∙ ap (λ k. length A.before + k) (length-append A.left_ids A.right_ids)

    pub start-within : top.start ≤ m
    start-within = omega (arith, start-is, middle-is)

    pub middle-within : m ≤ length options
    middle-within = omega (arith, middle-is, long)

    front-is : take top.start options ≡ A.before
    front-is = ap₂ take start-is A.options_are ∙ front-of A.before (A.left_ids ++ A.right_ids)

    left-is : slice_range options top.start m ≡ A.left_ids
    left-is = ap₂ (λ k z. take (m - k) (drop k z)) start-is A.options_are ∙ ap₂ take (let s : m - length A.before ≡ length A.left_ids = omega (arith, middle-is) in s) (drop-append_seam A.before (A.left_ids ++ A.right_ids)) ∙ front-of A.left_ids A.right_ids

    right-is : drop m options ≡ A.right_ids
    right-is = ap₂ drop (middle-is ∙ sym (length-append A.before A.left_ids)) (A.options_are ∙ sym (append_assoc A.before A.left_ids A.right_ids)) ∙ drop-append_seam (A.before ++ A.left_ids) A.right_ids

    pub left-ids : AreIds Ts (slice_range options top.start m)
    left-ids = subst (AreIds Ts) (sym left-is) (named-ids Ts A.lefts A.left_ids A.left_named)

    pub right-ids : AreIds Ts (drop m options)
    right-ids = subst (AreIds Ts) (sym right-is) (named-ids Ts A.rights A.right_ids A.right_named)

    same-form : listed Ts (slice_range options top.start m) (drop m options) ≡ listed Ts A.left_ids A.right_ids
    same-form = ap₂ (listed Ts) left-is right-is

    closing : get_or text i 0 ≡ close_brace
    closing = mark ∙ ap mark_at A.top_is

    pub brace-next : (Us : List Tree) (after : List ℕ) (now : List Opening) (p : Place) → Extends Ts Us → IsFormTaken Ts Us limit (slice_range options top.start m) (drop m options) (take top.start options) after → now ≡ below → p ≡ place_after below → IsReading Us limit text (i + 1) p after now
    brace-next Us after now p x (id, q, c, f, g) s v =
        let c_listed : IsCanonicalId Us (listed Ts A.left_ids A.right_ids) id = subst (λ G. IsCanonicalId Us G id) same-form c in
        record {
          state = state_after A.frames (node A.lefts A.rights);
          kept = subst (λ (z : List Opening). Keeps Us (state_after A.frames (node A.lefts A.rights)) p after z) (sym s) (subst (λ (z : List ℕ). Keeps Us (state_after A.frames (node A.lefts A.rights)) p z below) (sym (q ∙ ap (λ z. z ++ id ∷ []) front-is)) (subst (λ z. Keeps Us (state_after A.frames (node A.lefts A.rights)) z (A.before ++ id ∷ []) below) (sym v)
              (game-taken Us A.frames A.before below (node A.lefts A.rights) id (open-kept Ts Us A.frames A.before below x A.others)
              (c_listed.0, canonical-node Ts A.lefts A.rights A.left_ids A.right_ids A.left_named A.right_named (tree_at Us id) c_listed.1))));
          within = omega (arith, l);
          comes = λ out w. A.comes out (subst (λ z. Rest limit (first_option (on_right A.lefts A.rights) A.frames) z out) (sym (byte-drop text i l)) (brace-closed limit A.lefts A.rights A.frames (get_or text i 0) (drop (i + 1) text) (reads (node A.lefts A.rights) (drop (i + 1) text)) out closing
              (closed-taken Ts A.lefts A.rights A.left_ids A.right_ids A.left_named A.right_named Us limit id (drop (i + 1) text) c_listed (λ h. f (subst IsPastBounds (sym same-form) h)) g)
              (after-game limit A.frames (node A.lefts A.rights) (drop (i + 1) text) out w)));
        }

    pub brace-refused : (error : ReadError) → IsFormRefusal (listed Ts (slice_range options top.start m) (drop m options)) limit error → IsReadRefusal limit text error
    brace-refused (reading.BadByte place) h = absurd h
    brace-refused (reading.BadNumber place) h = absurd h
    brace-refused reading.CutShort h = absurd h
    brace-refused reading.Deep h = absurd h
    brace-refused reading.Parts h = A.comes (Err too_many_parts) (subst (λ z. Rest limit (first_option (on_right A.lefts A.rights) A.frames) z (Err too_many_parts)) (sym (byte-drop text i l)) (closed-refused limit A.lefts A.rights A.frames (get_or text i 0) (drop (i + 1) text) too_many_parts closing
        (closed-many Ts A.lefts A.rights A.left_ids A.right_ids A.left_named A.right_named limit (drop (i + 1) text) (subst (λ G. IsFormRefusal G limit reading.Parts) same-form h))))
    brace-refused reading.Bounds h = A.comes (Err past_bounds) (subst (λ z. Rest limit (first_option (on_right A.lefts A.rights) A.frames) z (Err past_bounds)) (sym (byte-drop text i l)) (closed-refused limit A.lefts A.rights A.frames (get_or text i 0) (drop (i + 1) text) past_bounds closing
        (closed-far Ts A.lefts A.rights A.left_ids A.right_ids A.left_named A.right_named limit (drop (i + 1) text) (subst (λ G. IsFormRefusal G limit reading.Bounds) same-form h))))
    brace-refused (reading.Memory cause) h = tt

pub mark-top : (opens below : List Opening) (top : Opening) (byte : ℕ) → IsMarkOfInnermost opens byte → opens ≡ below ++ top ∷ [] → byte ≡ mark_at top
mark-top opens below top byte m e = m.3 ∙ ap mark_at (last-of m.0 below m.1 top (sym m.2 ∙ e)).1
