-- A fault's point lies on the file's board.
use Rattle.std.proofs.Common.{◌≡◌, ℕ, ◌*◌, ◌<◌, refl, sym, ap, subst, ◌∙◌, ◌⊎◌, inl, inr, List, Bool, true, false, length, Some, None, Ok, Err}
use Rattle.std.specs.Prelude.{Option, Result, codes, ℤ}
use Rattle.std.proofs.lemmas.List.{length-replicate}
use Rattle.go_grid.specs.declared.grid.Cell.TheVariants as cell
use Rattle.sgf_tree.specs.Grammar.{PropertyText}
use Rattle.sgf_go.specs.declared.replay.Replay.{Replay}
use Rattle.sgf_go.specs.declared.settings.Settings.{Settings}
use Rattle.go_play.specs.Setup.{Setup}
use Rattle.sgf_go.specs.declared.fault.SetupFault.{SetupFault}
use Rattle.sgf_go.specs.declared.fault.SetupFault.TheVariants.{WrongGame, BadSize, BadKomi, MarkedTwice, NoLiberty}
use Rattle.sgf_go.specs.Values.{Extent, Says}
use Rattle.sgf_go.specs.Setup.{value_of, root, is_go, IsBoardSize, empty_board, EndsMainLine, FromKomi, FromSize, FromGame, Gives}
use Rattle.sgf_go.proofs.BoardSizeLemmas.{Fine, fine_is, fine_line}
use Rattle.endgame_questions.specs.inner.Position.{IsOnLine}

-- the fault is one of a point, which is this
abbrev IsAtPoint : SetupFault → ℕ → Type 0
IsAtPoint f p = (f ≡ MarkedTwice p) ⊎ (f ≡ NoLiberty p)

-- a part with such a fault from an empty board on has the point on it
on_empty : (e : Extent) (f : SetupFault) (p : ℕ) → IsAtPoint f p → Fine (empty_board e) (Err f) → p < e.columns * e.rows
on_empty e f p (inl twice) fine = subst (λ n. p < n) (length-replicate (e.columns * e.rows) cell.Empty) (subst (λ x. Fine (empty_board e) (Err x)) twice fine)
on_empty e f p (inr choked) fine = absurd (subst (λ x. Fine (empty_board e) (Err x)) choked fine)

module _ (settings : Settings) (line : List (List PropertyText)) (f : SetupFault) (p : ℕ) (at_point : IsAtPoint f p) where
  from_end : (komi : ℤ) (e : Extent) (m : Result Replay SetupFault) → Fine (empty_board e) m → EndsMainLine settings komi m (Err f) → p < e.columns * e.rows
  from_end komi e (Ok s) k h =
      let same : p ≡ h.0 = choked at_point in
      let inside = h.1.choked.1.0 in
      subst (λ n. p < n) (k.long ∙ length-replicate (e.columns * e.rows) cell.Empty) (subst (λ q. q < length s.board.cells) (sym same) inside)
    where
      choked : (f ≡ MarkedTwice p) ⊎ (f ≡ NoLiberty p) → p ≡ h.0
      choked (inl twice) = let k : MarkedTwice p ≡ NoLiberty h.0 = sym twice ∙ h.2 in absurd cc
      choked (inr is) = let k : NoLiberty p ≡ NoLiberty h.0 = sym is ∙ h.2 in cc
  from_end komi e (Err g) k h = on_empty e f p at_point (fine_is (empty_board e) (Err f) (Err g) (err_same h) k) where
    err_same : Path (Result Setup SetupFault) (Err f) (Err g) → Path (Result Replay SetupFault) (Err f) (Err g)
    err_same e = let same : f ≡ g = cc in ap Err same

  -- no other fault is of a point
  never : (g : SetupFault) → Path (Result Setup SetupFault) (Err f) (Err g) → ((q : ℕ) → ¬ IsAtPoint g q) → ⊥
  never g e not = let same : f ≡ g = cc in not p (subst (λ x. IsAtPoint x p) same at_point)

  from_komi : (e : Extent) (o : Option ℤ) → FromKomi settings line e o (Err f) → p < e.columns * e.rows
  from_komi e None h = absurd (never BadKomi h (λ q at. elim at [ inl is ↦ cc | inr is ↦ cc ]))
  from_komi e (Some k) h = from_end k e h.0 (fine_line settings line e h.0 h.1) h.2

  from_size : (o : Option Extent) → Says (IsBoardSize (value_of (codes "SZ") (root line))) o → FromSize settings line o (Err f) → IsOnLine line p
  from_size None said h = absurd (never BadSize h (λ q at. elim at [ inl is ↦ cc | inr is ↦ cc ]))
  from_size (Some e) said h = (e, said, from_komi e h.0 h.2)

  from_game : (b : Bool) → FromGame settings line b (Err f) → IsOnLine line p
  from_game false h = absurd (never WrongGame h (λ q at. elim at [ inl is ↦ cc | inr is ↦ cc ]))
  from_game true h = from_size h.0 h.1 h.2

pub twice_on_board : (settings : Settings) (line : List (List PropertyText)) (p : ℕ) → Gives settings line (Err (MarkedTwice p)) → IsOnLine line p
twice_on_board settings line p h = from_game settings line (MarkedTwice p) p (inl refl) (is_go (value_of (codes "GM") (root line))) h

pub no_liberty_on_board : (settings : Settings) (line : List (List PropertyText)) (p : ℕ) → Gives settings line (Err (NoLiberty p)) → IsOnLine line p
no_liberty_on_board settings line p h = from_game settings line (NoLiberty p) p (inr refl) (is_go (value_of (codes "GM") (root line))) h
