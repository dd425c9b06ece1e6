-- From the properties of node 0 to the position.
use mir.Val.{of_z, to_z}
use mir.Syntax.{w64}
use Rattle.std.proofs.lemmas.Int.{to_z-of_z, ints}
use Rattle.sgf_go.specs.Komi.{IsInRange}
use Rattle.std.proofs.Common.{arith, ◌≡◌, List, refl, sym, subst, true, false, Some, None}
use Rattle.std.specs.Prelude.{Option, Result, Ok, Err, codes, ℤ}
use Rattle.sgf_tree.specs.Grammar.{PropertyText}
use Rattle.go_grid.specs.declared.grid.Size.{Size}
use Rattle.sgf_go.specs.Values.{Says}
use Rattle.sgf_go.specs.Reading.{extent}
use Rattle.sgf_go.specs.Setup.{TerritoryPart, AnswersPosition, Gives, FromGame, FromKomi, IsKomiFor, value_of, is_go, IsBoardSize, root, LinePart, empty_board}
use Rattle.sgf_go.specs.inner.Setup.{AnswersEnd, AnswersPart, AnswersTerritory, EndsWithTerritory}
use Rattle.sgf_go.specs.declared.fault.GoError.{GoError}
use Rattle.sgf_go.specs.declared.fault.GoError.TheVariants.{Fault, Memory}
use Rattle.sgf_tree.specs.declared.tree.Tree.{Tree}
use Rattle.sgf_tree.specs.Reading.{line_text}
use Rattle.sgf_go.specs.declared.replay.Replay.{Replay}
use Rattle.sgf_go.specs.declared.settings.Settings.{Settings}
use Rattle.go_play.specs.Setup.{Setup}
use Rattle.sgf_go.specs.declared.fault.SetupFault.{SetupFault}
use Rattle.sgf_go.specs.declared.fault.SetupFault.TheVariants.{WrongGame, BadSize, BadKomi}

pub wrong_game : (settings : Settings) (line : List (List PropertyText)) → is_go (value_of (codes "GM") (root line)) ≡ false → Gives settings line (Err WrongGame)
wrong_game settings line e = subst (λ b. FromGame settings line b (Err WrongGame)) (sym e) refl

pub bad_size : (settings : Settings) (line : List (List PropertyText)) → is_go (value_of (codes "GM") (root line)) ≡ true → Says (IsBoardSize (value_of (codes "SZ") (root line))) None → Gives settings line (Err BadSize)
bad_size settings line e s = subst (λ b. FromGame settings line b (Err BadSize)) (sym e) (None, s, refl)

pub from_komi : (settings : Settings) (line : List (List PropertyText)) (size : Size) (komi : Option ℤ) (r : Result Setup SetupFault) → is_go (value_of (codes "GM") (root line)) ≡ true
    → Says (IsBoardSize (value_of (codes "SZ") (root line))) (Some (extent size)) → Says (IsKomiFor settings.komi (value_of (codes "KM") (root line))) komi → FromKomi settings line (extent size) komi r → Gives settings line r
from_komi settings line size komi r e s k f = subst (λ b. FromGame settings line b r) (sym e) (Some (extent size), s, (komi, k, f))

pub bad_komi : (settings : Settings) (line : List (List PropertyText)) (size : Size) → is_go (value_of (codes "GM") (root line)) ≡ true
    → Says (IsBoardSize (value_of (codes "SZ") (root line))) (Some (extent size)) → Says (IsKomiFor settings.komi (value_of (codes "KM") (root line))) None → Gives settings line (Err BadKomi)
bad_komi settings line size e s k = from_komi settings line size None (Err BadKomi) e s k refl

pub line_bad : (settings : Settings) (line : List (List PropertyText)) (size : Size) (komi : ℤ) (f : SetupFault) → is_go (value_of (codes "GM") (root line)) ≡ true
    → Says (IsBoardSize (value_of (codes "SZ") (root line))) (Some (extent size)) → Says (IsKomiFor settings.komi (value_of (codes "KM") (root line))) (Some komi)
    → LinePart settings.after settings.turn 0 line (empty_board (extent size)) (Err f) → Gives settings line (Err f)
line_bad settings line size komi f e s k p = from_komi settings line size (Some komi) (Err f) e s k (Err f, (Err f, p, refl), refl)

pub line_good : (settings : Settings) (line : List (List PropertyText)) (size : Size) (komi : ℤ) (s : Replay) (r : Result Setup SetupFault) → is_go (value_of (codes "GM") (root line)) ≡ true
    → Says (IsBoardSize (value_of (codes "SZ") (root line))) (Some (extent size)) → Says (IsKomiFor settings.komi (value_of (codes "KM") (root line))) (Some komi)
    → LinePart settings.after settings.turn 0 line (empty_board (extent size)) (Ok s) → EndsWithTerritory settings line komi s r → Gives settings line r
line_good settings line size komi s r e b k p (m, q, ends) = from_komi settings line size (Some komi) r e b k (m, (Ok s, p, q), ends)

-- what is answered of the end of a line, with the territory before it
pub ends_like : (settings : Settings) (line : List (List PropertyText)) (komi : ℤ) (s m : Replay) (r : Result Setup GoError) → TerritoryPart settings.territory line s (Ok m) → AnswersEnd settings komi m r
    → AnswersTerritory settings line komi s r
ends_like settings line komi s m (Ok x) t e = (Ok m, t, e)
ends_like settings line komi s m (Err (Fault f)) t e = (Ok m, t, e)
ends_like settings line komi s m (Err (Memory x)) t e = tt

-- where the territory is at fault, so is the end of the line
pub fails_like : (settings : Settings) (line : List (List PropertyText)) (komi : ℤ) (s t : Replay) (e : GoError) (r : Result Setup GoError) → (y : GoError) × (r ≡ Err y) × (y ≡ e)
    → AnswersPart (TerritoryPart settings.territory line) s t (Err e) → AnswersTerritory settings line komi s r
fails_like settings line komi s t e r q p = subst (AnswersTerritory settings line komi s) (sym q.1) (subst (λ y. AnswersTerritory settings line komi s (Err y)) (sym q.2) (at e p))
  where
    at : (e : GoError) → AnswersPart (TerritoryPart settings.territory line) s t (Err e) → AnswersTerritory settings line komi s (Err e)
    at (Fault f) p = (Err f, p, refl)
    at (Memory x) p = tt

-- what node 0 and the line behind it give
pub gives_like : (tree : Tree) (settings : Settings) (size : Size) (komi : ℤ) (s : Replay) (r : Result Setup GoError) → is_go (value_of (codes "GM") (root (line_text tree))) ≡ true
    → Says (IsBoardSize (value_of (codes "SZ") (root (line_text tree)))) (Some (extent size)) → Says (IsKomiFor settings.komi (value_of (codes "KM") (root (line_text tree)))) (Some komi)
    → LinePart settings.after settings.turn 0 (line_text tree) (empty_board (extent size)) (Ok s) → AnswersTerritory settings (line_text tree) komi s r → AnswersPosition tree settings r
gives_like tree settings size komi s (Ok x) e b k p a = line_good settings (line_text tree) size komi s (Ok x) e b k p a
gives_like tree settings size komi s (Err (Fault f)) e b k p a = line_good settings (line_text tree) size komi s (Err f) e b k p a
gives_like tree settings size komi s (Err (Memory x)) e b k p a = tt

-- what an error that is passed on says
pub passed_on : {A : Type 0} (r : Result A GoError) (x : GoError) (P : Result A GoError → Type 0) → (y : GoError) × (r ≡ Err y) × (y ≡ x) → P (Err x) → P r
passed_on r x P q p = subst P (sym q.1) (subst (λ y. P (Err y)) (sym q.2) p)

-- a komi is passed on as it is
pub komi_kept : (k : ℤ) → IsInRange k → to_z w64 (of_z w64 k) ≡ k
komi_kept k r = to_z-of_z w64 k (omega (arith, ints, r.0, r.1))
