-- What is left of a text comes to what is left behind its first byte, or its first number.
use Rattle.std.proofs.Common.{ℕ, suc, ◌<◌, ◌≤◌, ◌≡◌, List, [], ◌∷◌, length, refl, sym, ap, subst, ℤ}
use Rattle.std.specs.Prelude.{Err}
use Rattle.short_games.specs.Tree.{Tree, Trees, node, none, more, ◌then◌}
use Rattle.short_games.specs.Text.{open_brace, bar, close_brace, comma}
use Rattle.short_games.specs.Number.{number_tree}
use Rattle.game_text.specs.Depth.{most_open}
use Rattle.game_text.specs.Reading.{IsNumberByte, IsNameByte, ReadsName, IsNumberRun, IsNumberText, Fault, Outcome, behind, left_side, right_side, mark_of, BeginsOtherwise, IsClosed, ReadsMore, ReadsText}
use Rattle.game_text.specs.Reading.Fault.{bad_byte, bad_number, cut_short, too_deep}
use Rattle.game_text.specs.Reading.Outcome.{reads, refused}
use Rattle.game_text.specs.Reading.ReadsGame.{number, no_number, name, no_name, one_too_deep, form, left_refused, right_refused, game_stray, game_cut}
use Rattle.game_text.specs.Reading.ReadsOptions.{no_option, first, first_refused}
use Rattle.game_text.specs.Reading.ReadsMore.{no_more, next, next_refused, more_stray, more_cut}
use Rattle.game_text.specs.Reading.ReadsText.{whole_text, followed, unread}
use Rattle.game_text.specs.inner.Machine.{Answer, Frame, on_left, on_right, side_in, with_option, BehindRight, BehindSide, BehindGame, TextState, first_option, a_game, other_options, all_read, Rest}
use Rattle.game_text.proofs.OneReadingLaws.{one-options}

then-none : (Gs : Trees) → Gs then none ≡ Gs
then-none none = refl
then-none (more G Gs) = ap (more G) (then-none Gs)

then-then : (Gs Hs Ks : Trees) → (Gs then Hs) then Ks ≡ Gs then (Hs then Ks)
then-then none Hs Ks = refl
then-then (more G Gs) Hs Ks = ap (more G) (then-then Gs Hs Ks)

side-same : (f : Frame) (G : Tree) → side_in (with_option f G) ≡ side_in f
side-same (on_left Ls) G = refl
side-same (on_right Ls Rs) G = refl

-- what is read behind a game
abbrev pub state_after : List Frame → Tree → TextState
state_after [] G = all_read G
state_after (f ∷ fs) G = other_options (with_option f G) fs

abbrev pub IsUnfinished : TextState → Type 0
IsUnfinished (first_option f fs) = Unit {0}
IsUnfinished (a_game fs) = Unit {0}
IsUnfinished (other_options f fs) = Unit {0}
IsUnfinished (all_read G) = ⊥

module _ (limit : ℕ) where
  side-behind : (Next : Outcome Tree → Answer → Type 0) (n : ℕ) (f : Frame) (G : Tree) (o : Outcome Trees) (out : Answer) → BehindSide limit Next n (with_option f G) o out → BehindSide limit Next n f (behind G o) out
  side-behind Next n (on_left Ls) G (reads Gs rest) out (o, r, s) = (o, r, subst (λ z. BehindRight limit Next z none o out) (then-then Ls (more G none) Gs) s)
  side-behind Next n (on_left Ls) G (refused fault) out s = s
  side-behind Next n (on_right Ls Rs) G (reads Gs rest) out (o, c, s) = (o, subst (λ z. IsClosed limit (node Ls z) rest o) (then-then Rs (more G none) Gs) c, s)
  side-behind Next n (on_right Ls Rs) G (refused fault) out s = s

  side-refused : (Next : Outcome Tree → Answer → Type 0) (n : ℕ) (f : Frame) (fault : Fault) (out : Answer) → out ≡ Err fault → BehindSide limit Next n f (refused fault) out
  side-refused Next n (on_left Ls) fault out e = e
  side-refused Next n (on_right Ls Rs) fault out e = e

  game-refused : (fs : List Frame) (fault : Fault) (out : Answer) → out ≡ Err fault → BehindGame limit fs (refused fault) out
  game-refused [] fault out e = e
  game-refused (f ∷ fs) fault out e = e

  -- a game may be the first option of a side
  pub first-game : (f : Frame) (fs : List Frame) (bytes : List ℕ) (out : Answer) → BeginsOtherwise (mark_of (side_in f)) bytes → Rest limit (a_game (f ∷ fs)) bytes out → Rest limit (first_option f fs) bytes out
  first-game f fs bytes out b (reads G ys, r, (o, m, s)) = (behind G o, first (suc (length fs)) (side_in f) bytes ys G o (behind G o) b r (subst (λ z. ReadsMore limit (suc (length fs)) z ys o) (side-same f G) m) refl, side-behind (BehindGame limit fs) (suc (length fs)) f G o out s)
  first-game f fs bytes out b (refused fault, r, e) = (refused fault, first_refused (suc (length fs)) (side_in f) bytes fault b r, side-refused (BehindGame limit fs) (suc (length fs)) f fault out e)

  -- behind a comma stands a game
  pub comma-game : (f : Frame) (fs : List Frame) (x : ℕ) (xs : List ℕ) (out : Answer) → x ≡ comma → Rest limit (a_game (f ∷ fs)) xs out → Rest limit (other_options f fs) (x ∷ xs) out
  comma-game f fs x xs out b (reads G ys, r, (o, m, s)) = (behind G o, next (suc (length fs)) (side_in f) x xs ys G o (behind G o) b r (subst (λ z. ReadsMore limit (suc (length fs)) z ys o) (side-same f G) m) refl, side-behind (BehindGame limit fs) (suc (length fs)) f G o out s)
  comma-game f fs x xs out b (refused fault, r, e) = (refused fault, next_refused (suc (length fs)) (side_in f) x xs fault b r, side-refused (BehindGame limit fs) (suc (length fs)) f fault out e)

  -- a side may end behind options as it may before them
  pub mark-behind : (f : Frame) (fs : List Frame) (x : ℕ) (xs : List ℕ) (out : Answer) → x ≡ mark_of (side_in f) → Rest limit (first_option f fs) (x ∷ xs) out → Rest limit (other_options f fs) (x ∷ xs) out
  mark-behind f fs x xs out m (o, r, s) =
      let e : reads none xs ≡ o = one-options limit (suc (length fs)) (side_in f) (x ∷ xs) (reads none xs) (no_option (suc (length fs)) (side_in f) x xs m) o r in
      (reads none xs, no_more (suc (length fs)) (side_in f) x xs m, subst (λ z. BehindSide limit (BehindGame limit fs) (suc (length fs)) f z out) (sym e) s)

  -- behind the bar stand the Right options
  pub bar-right : (Ls : Trees) (fs : List Frame) (x : ℕ) (xs : List ℕ) (out : Answer) → x ≡ bar → Rest limit (first_option (on_right Ls none) fs) xs out → Rest limit (first_option (on_left Ls) fs) (x ∷ xs) out
  bar-right Ls fs x xs out m (o, r, s) = (reads none xs, no_option (suc (length fs)) left_side x xs m, (o, r, subst (λ z. BehindRight limit (BehindGame limit fs) z none o out) (sym (then-none Ls)) s))

  -- behind the closing brace the form is read
  pub brace-closed : (Ls Rs : Trees) (fs : List Frame) (x : ℕ) (xs : List ℕ) (o : Outcome Tree) (out : Answer) → x ≡ close_brace → IsClosed limit (node Ls Rs) xs o → BehindGame limit fs o out → Rest limit (first_option (on_right Ls Rs) fs) (x ∷ xs) out
  brace-closed Ls Rs fs x xs o out m c s = (reads none xs, no_option (suc (length fs)) right_side x xs m, (o, subst (λ z. IsClosed limit (node Ls z) xs o) (sym (then-none Rs)) c, s))

  -- behind an opening brace stand the Left options
  pub brace-open : (fs : List Frame) (x : ℕ) (xs : List ℕ) (out : Answer) → x ≡ open_brace → length fs < most_open → Rest limit (first_option (on_left none) fs) xs out → Rest limit (a_game fs) (x ∷ xs) out
  brace-open fs x xs out m l (refused fault, r, e) = (refused fault, left_refused (length fs) x xs fault m l r, game-refused fs fault out e)
  brace-open fs x xs out m l (reads Ls ys, r, (refused fault, q, e)) = (refused fault, right_refused (length fs) x xs ys Ls fault m l r q, game-refused fs fault out e)
  brace-open fs x xs out m l (reads Ls ys, r, (reads Rs zs, q, (o, c, s))) = (o, form (length fs) x xs ys zs Ls Rs o m l r q c, s)

  pub after-game : (fs : List Frame) (G : Tree) (rest : List ℕ) (out : Answer) → Rest limit (state_after fs G) rest out → BehindGame limit fs (reads G rest) out
  after-game [] G rest out s = s
  after-game (f ∷ fs) G rest out s = s

  pub number-read : (fs : List Frame) (bytes run rest : List ℕ) (u : ℤ) (out : Answer) → IsNumberRun bytes run rest → IsNumberText u run → Rest limit (state_after fs (number_tree u)) rest out → Rest limit (a_game fs) bytes out
  number-read fs bytes run rest u out r t s = (reads (number_tree u) rest, number (length fs) bytes run rest u r t, after-game fs (number_tree u) rest out s)

  -- refusals
  pub bad-number : (fs : List Frame) (bytes run rest : List ℕ) → IsNumberRun bytes run rest → ((u : ℤ) → IsNumberText u run → ⊥) → Rest limit (a_game fs) bytes (Err (bad_number bytes))
  bad-number fs bytes run rest r f = (refused (bad_number bytes), no_number (length fs) bytes run rest r f, game-refused fs (bad_number bytes) (Err (bad_number bytes)) refl)

  pub deep-open : (fs : List Frame) (x : ℕ) (xs : List ℕ) → x ≡ open_brace → most_open ≤ length fs → Rest limit (a_game fs) (x ∷ xs) (Err too_deep)
  deep-open fs x xs m l = (refused too_deep, one_too_deep (length fs) x xs m l, game-refused fs too_deep (Err too_deep) refl)

  -- a name
  pub name-read : (fs : List Frame) (x : ℕ) (xs rest : List ℕ) (G : Tree) (out : Answer) → ReadsName x xs (reads G rest) → IsClosed limit G rest (reads G rest) → Rest limit (state_after fs G) rest out → Rest limit (a_game fs) (x ∷ xs) out
  name-read fs x xs rest G out r c s = (reads G rest, name (length fs) x xs rest G (reads G rest) r c, after-game fs G rest out s)

  pub name-closed : (fs : List Frame) (x : ℕ) (xs rest : List ℕ) (G : Tree) (fault : Fault) → ReadsName x xs (reads G rest) → IsClosed limit G rest (refused fault) → Rest limit (a_game fs) (x ∷ xs) (Err fault)
  name-closed fs x xs rest G fault r c = (refused fault, name (length fs) x xs rest G (refused fault) r c, game-refused fs fault (Err fault) refl)

  pub name-refused : (fs : List Frame) (x : ℕ) (xs : List ℕ) (fault : Fault) → ReadsName x xs (refused fault) → Rest limit (a_game fs) (x ∷ xs) (Err fault)
  name-refused fs x xs fault r = (refused fault, no_name (length fs) x xs fault r, game-refused fs fault (Err fault) refl)

  pub stray-game : (fs : List Frame) (x : ℕ) (xs : List ℕ) → (IsNumberByte x → ⊥) → (IsNameByte x → ⊥) → (x ≡ open_brace → ⊥) → Rest limit (a_game fs) (x ∷ xs) (Err (bad_byte (x ∷ xs)))
  stray-game fs x xs f k g = (refused (bad_byte (x ∷ xs)), game_stray (length fs) x xs f k g, game-refused fs (bad_byte (x ∷ xs)) (Err (bad_byte (x ∷ xs))) refl)

  pub stray-behind : (f : Frame) (fs : List Frame) (x : ℕ) (xs : List ℕ) → (x ≡ mark_of (side_in f) → ⊥) → (x ≡ comma → ⊥) → Rest limit (other_options f fs) (x ∷ xs) (Err (bad_byte (x ∷ xs)))
  stray-behind f fs x xs g h = (refused (bad_byte (x ∷ xs)), more_stray (suc (length fs)) (side_in f) x xs g h, side-refused (BehindGame limit fs) (suc (length fs)) f (bad_byte (x ∷ xs)) (Err (bad_byte (x ∷ xs))) refl)

  pub closed-refused : (Ls Rs : Trees) (fs : List Frame) (x : ℕ) (xs : List ℕ) (fault : Fault) → x ≡ close_brace → IsClosed limit (node Ls Rs) xs (refused fault) → Rest limit (first_option (on_right Ls Rs) fs) (x ∷ xs) (Err fault)
  closed-refused Ls Rs fs x xs fault m c = brace-closed Ls Rs fs x xs (refused fault) (Err fault) m c (game-refused fs fault (Err fault) refl)

  -- the text's end
  pub cut : (s : TextState) → IsUnfinished s → Rest limit s [] (Err cut_short)
  cut (first_option f fs) u = (refused cut_short, first_refused (suc (length fs)) (side_in f) [] cut_short tt (game_cut (suc (length fs))), side-refused (BehindGame limit fs) (suc (length fs)) f cut_short (Err cut_short) refl)
  cut (a_game fs) u = (refused cut_short, game_cut (length fs), game-refused fs cut_short (Err cut_short) refl)
  cut (other_options f fs) u = (refused cut_short, more_cut (suc (length fs)) (side_in f), side-refused (BehindGame limit fs) (suc (length fs)) f cut_short (Err cut_short) refl)
  cut (all_read G) u = absurd u

  -- the text's start
  pub start : (text : List ℕ) (out : Answer) → Rest limit (a_game []) text out → ReadsText limit text out
  start text out (reads G [], r, e) = subst (ReadsText limit text) (sym e) (whole_text G r)
  start text out (reads G (x ∷ xs), r, e) = subst (ReadsText limit text) (sym e) (followed G x xs r)
  start text out (refused fault, r, e) = subst (ReadsText limit text) (sym e) (unread fault r)
