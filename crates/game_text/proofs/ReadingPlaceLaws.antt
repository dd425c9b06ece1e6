-- What the reader does at a place of a text.
use Rattle.std.proofs.Common.{ℕ, zero, suc, ◌+◌, ◌-◌, ◌<◌, ◌≤◌, ◌≡◌, List, [], ◌∷◌, ◌++◌, length, get_or, take, drop, arith, refl, inl, inr, sym, ◌∙◌, ap, subst, ℤ, append-nil, length-drop}
use Rattle.std.specs.Prelude.{None, Ok, Err}
use Rattle.std.proofs.lemmas.List.{take-append-drop, get_or-drop, drop_all, length-take-le, drop-drop}
use Rattle.std.proofs.lemmas.Bool.{cases_lt}
use Rattle.short_games.specs.Tree.{Tree, none, tree_at}
use Rattle.short_games.specs.Text.{open_brace, comma}
use Rattle.short_games.specs.TextOrder.{IsCanonicalFor}
use Rattle.short_games.specs.Number.{number_tree}
use Rattle.game_store.specs.Meaning.{Extends, IsIdOf}
use Rattle.short_games.specs.Parts.{HasMoreParts}
use Rattle.short_games.proofs.OrderLaws.{le-refl, le-trans}
use Rattle.short_games.proofs.ReductionLaws.{number-canonical, canonical-same}
use Rattle.game_text.specs.Reading.{Fault, Outcome, IsNumberByte, IsNameByte, ReadsName, IsClosed, IsReadRefusal, AreNumberBytes, EndsNumber, IsNumberRun, IsNumberText, mark_of, BeginsOtherwise, ReadsText, Names, RefusesText, RefusesAt}
use Rattle.game_text.specs.Reading.Outcome.{reads, refused}
use Rattle.game_text.specs.Reading.IsClosed.{taken, with_many_parts, far}
use Rattle.game_text.specs.inner.Machine.{IsTaken, IsRefusedBy, Answer, Frame, on_left, side_in, TextState, first_option, a_game, other_options, all_read, Rest, opening_at, AreOpen, Keeps, IsReading, place_after, mark_at, EndsRunAt, IsEnded}
use Rattle.game_text.specs.declared.errors.ReadError.{ReadError}
use Rattle.game_text.specs.declared.errors.ReadError.TheVariants as error
use Rattle.game_canon.specs.Outcomes.{IsCanonicalId}
use Rattle.game_text.specs.Depth.{most_open}
use Rattle.game_text.specs.Reading.Fault.{bad_byte, bad_number, cut_short, too_deep}
use Rattle.game_text.specs.declared.pending.Opening.{Opening}
use Rattle.game_text.specs.declared.pending.Place.{Place}
use Rattle.game_text.specs.declared.pending.Place.TheVariants as place
use Rattle.game_text.proofs.MachineSteps.{state_after, first-game, comma-game, mark-behind, brace-open, number-read, bad-number, deep-open, stray-game, name-read, name-closed, name-refused, stray-behind, cut, start}
use Rattle.game_text.proofs.ReadingSteps.{byte-drop, mark-is, frames-many, open-kept, game-taken}

-- places differ
code : Place → ℕ
code place.First = 0
code place.Game = 1
code place.Behind = 2
code place.Whole = 3

pub first-is_no_game : place.First ≡ place.Game → ⊥
unfolding code
first-is_no_game e = omega (arith, ap code e)

pub first-is_not_behind : place.First ≡ place.Behind → ⊥
unfolding code
first-is_not_behind e = omega (arith, ap code e)

pub first-is_not_whole : place.First ≡ place.Whole → ⊥
unfolding code
first-is_not_whole e = omega (arith, ap code e)

game-is_not_behind : place.Game ≡ place.Behind → ⊥
unfolding code
game-is_not_behind e = omega (arith, ap code e)

game-is_not_whole : place.Game ≡ place.Whole → ⊥
unfolding code
game-is_not_whole e = omega (arith, ap code e)

behind-is_not_whole : place.Behind ≡ place.Whole → ⊥
unfolding code
behind-is_not_whole e = omega (arith, ap code e)

module _ (Ts : List Tree) (limit : ℕ) (text : List ℕ) (i : ℕ) (options : List ℕ) (opens : List Opening) (l : i < length text) where
  -- the first option of a side is read as any game is
  pub first-as_game : IsReading Ts limit text i place.First options opens → ((below : List Opening) (top : Opening) → opens ≡ below ++ top ∷ [] → get_or text i 0 ≡ mark_at top → ⊥) → IsReading Ts limit text i place.Game options opens
  first-as_game r f = by r.state r.kept r.comes
    where
      by : (s : TextState) → Keeps Ts s place.First options opens → ((out : Answer) → Rest limit s (drop i text) out → ReadsText limit text out) → IsReading Ts limit text i place.Game options opens
      by (first_option g fs) k c = record {
        state = a_game (g ∷ fs);
        kept = (refl, k.1);
        within = omega (arith, l);
        comes = λ out q. c out (first-game limit g fs (drop i text) out (subst (BeginsOtherwise (mark_of (side_in g))) (sym (byte-drop text i l)) (λ e. f k.1.below k.1.top k.1.opens_are (e ∙ sym (mark-is Ts g _ k.1.own k.1.top k.1.opening)))) q);
      }
      by (a_game fs) k c = absurd (first-is_no_game k.0)
      by (other_options g fs) k c = absurd (first-is_not_behind k.0)
      by (all_read G) k c = absurd (first-is_not_whole k.0)

  -- a side may end behind options as it may before them
  pub behind-as_first : IsReading Ts limit text i place.Behind options opens → ((below : List Opening) (top : Opening) → opens ≡ below ++ top ∷ [] → get_or text i 0 ≡ mark_at top) → IsReading Ts limit text i place.First options opens
  behind-as_first r m = by r.state r.kept r.comes
    where
      by : (s : TextState) → Keeps Ts s place.Behind options opens → ((out : Answer) → Rest limit s (drop i text) out → ReadsText limit text out) → IsReading Ts limit text i place.First options opens
      by (first_option g fs) k c = absurd (first-is_not_behind (sym k.0))
      by (a_game fs) k c = absurd (game-is_not_behind (sym k.0))
      by (other_options g fs) k c =
          let mark : get_or text i 0 ≡ mark_of (side_in g) = m k.1.below k.1.top k.1.opens_are ∙ mark-is Ts g _ k.1.own k.1.top k.1.opening in record {
            state = first_option g fs;
            kept = (refl, k.1);
            within = omega (arith, l);
            comes = λ out q. c out (subst (λ z. Rest limit (other_options g fs) z out) (sym (byte-drop text i l)) (mark-behind limit g fs (get_or text i 0) (drop (i + 1) text) out mark (subst (λ z. Rest limit (first_option g fs) z out) (byte-drop text i l) q)));
          }
      by (all_read G) k c = absurd (behind-is_not_whole k.0)

  -- behind a comma stands a game
  pub comma-next : IsReading Ts limit text i place.Behind options opens → get_or text i 0 ≡ comma → IsReading Ts limit text (i + 1) place.Game options opens
  comma-next r e = by r.state r.kept r.comes
    where
      by : (s : TextState) → Keeps Ts s place.Behind options opens → ((out : Answer) → Rest limit s (drop i text) out → ReadsText limit text out) → IsReading Ts limit text (i + 1) place.Game options opens
      by (first_option g fs) k c = absurd (first-is_not_behind (sym k.0))
      by (a_game fs) k c = absurd (game-is_not_behind (sym k.0))
      by (other_options g fs) k c = record {
        state = a_game (g ∷ fs);
        kept = (refl, k.1);
        within = omega (arith, l);
        comes = λ out q. c out (subst (λ z. Rest limit (other_options g fs) z out) (sym (byte-drop text i l)) (comma-game limit g fs (get_or text i 0) (drop (i + 1) text) out e q));
      }
      by (all_read G) k c = absurd (behind-is_not_whole k.0)

  place-is : i + length (get_or text i 0 ∷ drop (i + 1) text) ≡ length text
  place-is = let e : length (get_or text i 0 ∷ drop (i + 1) text) ≡ length text - i = ap length (sym (byte-drop text i l)) ∙ length-drop i text in omega (arith, e, l)

  -- bytes that fit no rule
  pub behind-stray : IsReading Ts limit text i place.Behind options opens → ((below : List Opening) (top : Opening) → opens ≡ below ++ top ∷ [] → get_or text i 0 ≡ mark_at top → ⊥) → (get_or text i 0 ≡ comma → ⊥) → RefusesAt limit text bad_byte i
  behind-stray r f g = (get_or text i 0 ∷ drop (i + 1) text, by r.state r.kept r.comes, place-is)
    where
      by : (s : TextState) → Keeps Ts s place.Behind options opens → ((out : Answer) → Rest limit s (drop i text) out → ReadsText limit text out) → RefusesText limit text (bad_byte (get_or text i 0 ∷ drop (i + 1) text))
      by (first_option h fs) k c = absurd (first-is_not_behind (sym k.0))
      by (a_game fs) k c = absurd (game-is_not_behind (sym k.0))
      by (other_options h fs) k c = c _ (subst (λ z. Rest limit (other_options h fs) z (Err (bad_byte (get_or text i 0 ∷ drop (i + 1) text)))) (sym (byte-drop text i l)) (stray-behind limit h fs (get_or text i 0) (drop (i + 1) text) (λ e. f k.1.below k.1.top k.1.opens_are (e ∙ sym (mark-is Ts h _ k.1.own k.1.top k.1.opening))) g))
      by (all_read G) k c = absurd (behind-is_not_whole k.0)

  pub whole-stray : IsReading Ts limit text i place.Whole options opens → RefusesAt limit text bad_byte i
  whole-stray r = (get_or text i 0 ∷ drop (i + 1) text, by r.state r.kept r.comes, place-is)
    where
      by : (s : TextState) → Keeps Ts s place.Whole options opens → ((out : Answer) → Rest limit s (drop i text) out → ReadsText limit text out) → RefusesText limit text (bad_byte (get_or text i 0 ∷ drop (i + 1) text))
      by (first_option h fs) k c = absurd (first-is_not_whole (sym k.0))
      by (a_game fs) k c = absurd (game-is_not_whole (sym k.0))
      by (other_options h fs) k c = absurd (behind-is_not_whole (sym k.0))
      by (all_read G) k c = c _ (subst (λ z. Rest limit (all_read G) z (Err (bad_byte (get_or text i 0 ∷ drop (i + 1) text)))) (sym (byte-drop text i l)) refl)

  -- a game
  abbrev At : List Frame → Type 0
  At fs = AreOpen Ts fs options opens × ((out : Answer) → Rest limit (a_game fs) (drop i text) out → ReadsText limit text out)

  frames : IsReading Ts limit text i place.Game options opens → (fs : List Frame) × At fs
  frames r = by r.state r.kept r.comes
    where
      by : (s : TextState) → Keeps Ts s place.Game options opens → ((out : Answer) → Rest limit s (drop i text) out → ReadsText limit text out) → (fs : List Frame) × At fs
      by (first_option h fs) k c = absurd (first-is_no_game (sym k.0))
      by (a_game fs) k c = (fs, (k.1, c))
      by (other_options h fs) k c = absurd (game-is_not_behind k.0)
      by (all_read G) k c = absurd (game-is_not_whole k.0)

  pub game-stray : IsReading Ts limit text i place.Game options opens → (IsNumberByte (get_or text i 0) → ⊥) → (IsNameByte (get_or text i 0) → ⊥) → (get_or text i 0 ≡ open_brace → ⊥) → RefusesAt limit text bad_byte i
  game-stray r f k g = let a = frames r in
      (get_or text i 0 ∷ drop (i + 1) text, a.1.1 _ (subst (λ z. Rest limit (a_game a.0) z (Err (bad_byte (get_or text i 0 ∷ drop (i + 1) text)))) (sym (byte-drop text i l)) (stray-game limit a.0 (get_or text i 0) (drop (i + 1) text) f k g)), place-is)

  pub game-deep : IsReading Ts limit text i place.Game options opens → get_or text i 0 ≡ open_brace → most_open ≤ length opens → RefusesText limit text too_deep
  game-deep r e m = let a = frames r in
      a.1.1 _ (subst (λ z. Rest limit (a_game a.0) z (Err too_deep)) (sym (byte-drop text i l)) (deep-open limit a.0 (get_or text i 0) (drop (i + 1) text) e (subst (λ n. most_open ≤ n) (frames-many Ts a.0 options opens a.1.0) m)))

  pub game-open : (after : List ℕ) (now : List Opening) → IsReading Ts limit text i place.Game options opens → get_or text i 0 ≡ open_brace → length opens < most_open → after ≡ options → now ≡ opens ++ opening_at (length options) None ∷ [] → IsReading Ts limit text (i + 1) place.First after now
  game-open after now r e m p q = let a = frames r in record {
    state = first_option (on_left none) a.0;
    kept = (refl, record { before = options; own = []; below = opens; top = opening_at (length options) None; options_are = p ∙ sym (append-nil options); opens_are = q; opening = (refl, tt); others = a.1.0 });
    within = omega (arith, l);
    comes = λ out s. a.1.1 out (subst (λ z. Rest limit (a_game a.0) z out) (sym (byte-drop text i l)) (brace-open limit a.0 (get_or text i 0) (drop (i + 1) text) out e (subst (λ n. n < most_open) (frames-many Ts a.0 options opens a.1.0) m) s));
  }

  -- a name
  pub game-name : (Us : List Tree) (past id : ℕ) (G : Tree) (after : List ℕ) (now : List Opening) (p : Place) → IsReading Ts limit text i place.Game options opens → ReadsName (get_or text i 0) (drop (i + 1) text) (reads G (drop past text)) → IsTaken Us limit G id → past ≤ length text → Extends Ts Us → after ≡ options ++ id ∷ [] → now ≡ opens → p ≡ place_after opens → IsReading Us limit text past p after now
  game-name Us past id G after now p r n t w x q s v = let a = frames r in record {
    state = state_after a.0 G;
    kept = subst (λ (z : List Opening). Keeps Us (state_after a.0 G) p after z) (sym s) (subst (λ (z : List ℕ). Keeps Us (state_after a.0 G) p z opens) (sym q) (subst (λ z. Keeps Us (state_after a.0 G) z (options ++ id ∷ []) opens) (sym v)
        (game-taken Us a.0 options opens G id (open-kept Ts Us a.0 options opens x a.1.0) t.0)));
    within = w;
    comes = λ out u. a.1.1 out (subst (λ z. Rest limit (a_game a.0) z out) (sym (byte-drop text i l)) (name-read limit a.0 (get_or text i 0) (drop (i + 1) text) (drop past text) G out n
        (taken t.1 (λ C c h. t.2 (subst (λ z. HasMoreParts z limit) (canonical-same C (tree_at Us id) c.canonical t.0.1.canonical (le-trans C G (tree_at Us id) c.over t.0.1.under) (le-trans (tree_at Us id) G C t.0.1.over c.under)) h))) u));
  }

  name-fault : (fault : Fault) → IsReading Ts limit text i place.Game options opens → ReadsName (get_or text i 0) (drop (i + 1) text) (refused fault) → RefusesText limit text fault
  name-fault fault r n = let a = frames r in a.1.1 _ (subst (λ z. Rest limit (a_game a.0) z (Err fault)) (sym (byte-drop text i l)) (name-refused limit a.0 (get_or text i 0) (drop (i + 1) text) fault n))

  name-cause : (fault : Fault) (G : Tree) (rest : List ℕ) → IsReading Ts limit text i place.Game options opens → ReadsName (get_or text i 0) (drop (i + 1) text) (reads G rest) → IsClosed limit G rest (refused fault) → RefusesText limit text fault
  name-cause fault G rest r n c = let a = frames r in a.1.1 _ (subst (λ z. Rest limit (a_game a.0) z (Err fault)) (sym (byte-drop text i l)) (name-closed limit a.0 (get_or text i 0) (drop (i + 1) text) rest G fault n c))

  behind-is : i + 1 + length (drop (i + 1) text) ≡ length text
  behind-is = let e : length (drop (i + 1) text) ≡ length text - (i + 1) = length-drop (i + 1) text in omega (arith, e, l)

  pub game-name_refused : (R : List ℕ → Outcome Tree → Type 0) → ((o : Outcome Tree) → R (drop (i + 1) text) o → ReadsName (get_or text i 0) (drop (i + 1) text) o) → IsReading Ts limit text i place.Game options opens → (e : ReadError) → IsRefusedBy R limit text (i + 1) e → IsReadRefusal limit text e
  game-name_refused R f r (error.BadByte place) h = (drop (i + 1) text, name-fault _ r (f _ h.1), ap (λ k. k + length (drop (i + 1) text)) h.0 ∙ behind-is)
  game-name_refused R f r (error.BadNumber place) h = (drop (i + 1) text, name-fault _ r (f _ h.1), ap (λ k. k + length (drop (i + 1) text)) h.0 ∙ behind-is)
  game-name_refused R f r error.CutShort h = name-fault _ r (f _ h)
  game-name_refused R f r error.Deep h = absurd h
  game-name_refused R f r error.Parts h = name-cause _ h.0 h.1 r (f _ h.2) (with_many_parts h.3)
  game-name_refused R f r error.Bounds h = name-cause _ h.0 h.1 r (f _ h.2) (far h.3)
  game-name_refused R f r (error.Memory cause) h = tt

  -- the longest run of bytes of numbers
  all-bytes : (xs : List ℕ) (n : ℕ) → n ≤ length xs → ((k : ℕ) → k < n → IsNumberByte (get_or xs k 0)) → AreNumberBytes (take n xs)
  all-bytes [] zero m f = tt
  all-bytes [] (suc n) m f = absurd (omega (arith, m))
  all-bytes (x ∷ xs) zero m f = tt
  all-bytes (x ∷ xs) (suc n) m f = (f 0 (omega arith), all-bytes xs n (omega (arith, m)) (λ k h. f (suc k) (omega (arith, h))))

  run-longer : (past : ℕ) → EndsRunAt text i past → IsNumberByte (get_or text i 0) → i < past
  run-longer past e b = elim (cases_lt i past) [
    | inl h ↦ h
    | inr h ↦ absurd (let s : past ≡ i = omega (arith, h, e.forward) in subst EndsNumber (ap (λ k. drop k text) s ∙ byte-drop text i l) e.longest b)
  ]

  pub run-is : (past : ℕ) → EndsRunAt text i past → IsNumberByte (get_or text i 0) → IsNumberRun (drop i text) (take (past - i) (drop i text)) (drop past text)
  run-is past e b =
      let h : i < past = run-longer past e b in
      let long : length (drop i text) ≡ length text - i = length-drop i text in record {
        is = sym (take-append-drop (past - i) (drop i text)) ∙ ap (λ z. take (past - i) (drop i text) ++ z) (drop-drop (past - i) i text ∙ ap (λ k. drop k text) (let s : i + (past - i) ≡ past = omega (arith, h) in s));
        some = (let s : length (take (past - i) (drop i text)) ≡ past - i = length-take-le (past - i) (drop i text) (omega (arith, long, e.within)) in omega (arith, s, h));
        number_bytes = all-bytes (drop i text) (past - i) (omega (arith, long, e.within)) (λ k m. subst IsNumberByte (sym (get_or-drop i text k 0)) (e.number_bytes (i + k) (omega arith) (omega (arith, m, h))));
        longest = e.longest;
      }

  pub game-number_past : (past : ℕ) → EndsRunAt text i past → IsNumberByte (get_or text i 0) → i < past
  game-number_past past e b = run-longer past e b

  pub game-number : (Us : List Tree) (past : ℕ) (u : ℤ) (id : ℕ) (after : List ℕ) (now : List Opening) (p : Place) → IsReading Ts limit text i place.Game options opens → EndsRunAt text i past → IsNumberByte (get_or text i 0) → IsNumberText u (take (past - i) (drop i text)) → Extends Ts Us → IsIdOf Us (number_tree u) id → after ≡ options ++ id ∷ [] → now ≡ opens → p ≡ place_after opens → IsReading Us limit text past p after now
  game-number Us past u id after now p r e b t x d q s v = let a = frames r in record {
    state = state_after a.0 (number_tree u);
    kept = subst (λ (z : List Opening). Keeps Us (state_after a.0 (number_tree u)) p after z) (sym s) (subst (λ (z : List ℕ). Keeps Us (state_after a.0 (number_tree u)) p z opens) (sym q) (subst (λ z. Keeps Us (state_after a.0 (number_tree u)) z (options ++ id ∷ []) opens) (sym v)
        (game-taken Us a.0 options opens (number_tree u) id (open-kept Ts Us a.0 options opens x a.1.0)
        (d.0, subst (IsCanonicalFor (number_tree u)) (sym d.1) (record { canonical = number-canonical 60 u; under = le-refl (number_tree u); over = le-refl (number_tree u) })))));
    within = e.within;
    comes = λ out w. a.1.1 out (number-read limit a.0 (drop i text) (take (past - i) (drop i text)) (drop past text) u out (run-is past e b) t w);
  }

  pub game-bad_number : (past : ℕ) → IsReading Ts limit text i place.Game options opens → EndsRunAt text i past → IsNumberByte (get_or text i 0) → ((u : ℤ) → IsNumberText u (take (past - i) (drop i text)) → ⊥) → RefusesAt limit text bad_number i
  game-bad_number past r e b f = let a = frames r in (drop i text, a.1.1 _ (bad-number limit a.0 (drop i text) (take (past - i) (drop i text)) (drop past text) (run-is past e b) f), (let long : length (drop i text) ≡ length text - i = length-drop i text in omega (arith, long, l)))

-- the text's start and its end
pub reading-start : (Ts : List Tree) (limit : ℕ) (text options : List ℕ) (opens : List Opening) → options ≡ [] → opens ≡ [] → IsReading Ts limit text 0 place.Game options opens
reading-start Ts limit text options opens p q = record {
  state = a_game [];
  kept = (refl, (p, q));
  within = omega arith;
  comes = λ out r. start limit text out r;
}

module _ (Ts : List Tree) (limit : ℕ) (text : List ℕ) (i : ℕ) (options : List ℕ) (opens : List Opening) (p : Place) (r : IsReading Ts limit text i p options opens) (l : length text ≤ i) where
  pub ended : IsEnded p options
  ended e = by r.state r.kept
    where
      by : (s : TextState) → Keeps Ts s p options opens → (id : ℕ) × (options ≡ id ∷ [])
      by (first_option h fs) k = absurd (first-is_not_whole (sym k.0 ∙ e))
      by (a_game fs) k = absurd (game-is_not_whole (sym k.0 ∙ e))
      by (other_options h fs) k = absurd (behind-is_not_whole (sym k.0 ∙ e))
      by (all_read G) k = (k.1, k.2)

  head-same : (a b : ℕ) → options ≡ a ∷ [] → options ≡ b ∷ [] → a ≡ b
  head-same a b x y = ap (λ z. get_or z 0 0) (sym x ∙ y)

  pub ended-named : (id : ℕ) → p ≡ place.Whole → options ≡ id ∷ [] → (G : Tree) × Names limit text G × IsCanonicalId Ts G id
  ended-named id e o = by r.state r.kept r.comes
    where
      by : (s : TextState) → Keeps Ts s p options opens → ((out : Answer) → Rest limit s (drop i text) out → ReadsText limit text out) → (G : Tree) × Names limit text G × IsCanonicalId Ts G id
      by (first_option h fs) k c = absurd (first-is_not_whole (sym k.0 ∙ e))
      by (a_game fs) k c = absurd (game-is_not_whole (sym k.0 ∙ e))
      by (other_options h fs) k c = absurd (behind-is_not_whole (sym k.0 ∙ e))
      by (all_read G) k c = (G, c (Ok G) (subst (λ z. Rest limit (all_read G) z (Ok G)) (sym (drop_all i text l)) refl), subst (IsCanonicalId Ts G) (head-same k.1 id k.2 o) k.3)

  pub ended-cut : (p ≡ place.Whole → ⊥) → RefusesText limit text cut_short
  ended-cut f = by r.state r.kept r.comes
    where
      by : (s : TextState) → Keeps Ts s p options opens → ((out : Answer) → Rest limit s (drop i text) out → ReadsText limit text out) → RefusesText limit text cut_short
      by (first_option h fs) k c = c _ (subst (λ z. Rest limit (first_option h fs) z (Err cut_short)) (sym (drop_all i text l)) (cut limit (first_option h fs) tt))
      by (a_game fs) k c = c _ (subst (λ z. Rest limit (a_game fs) z (Err cut_short)) (sym (drop_all i text l)) (cut limit (a_game fs) tt))
      by (other_options h fs) k c = c _ (subst (λ z. Rest limit (other_options h fs) z (Err cut_short)) (sym (drop_all i text l)) (cut limit (other_options h fs) tt))
      by (all_read G) k c = absurd (f k.0)
