-- A session as far as it was played.
use Rattle.std.proofs.Common.{◌≡◌, ℕ, suc, ◌<◌, List, [], ◌++◌, refl, ap, ◌∙◌, subst, Option, Some, None, Ok, Err}
use Rattle.desk_io.specs.declared.lines.TheConstants.{MOST_LINES}
use Rattle.std.specs.Io.KnownBytes.{append_known}
use Rattle.play_session.specs.declared.end.SessionEnd.{SessionEnd}
use Rattle.play_session.specs.declared.fault.Fault.{Fault}
use Rattle.play_session.specs.declared.fault.Fault.TheVariants.{Read, Write}
use Rattle.play_session.specs.Session.{Ends, Turns, IsToAnswer}
use Rattle.play_session.specs.Written.{Session, standing, IsPlayed}
use Rattle.play_session.specs.inner.Written.{TurnWritten, IsPlayedTo}
use Rattle.play_session.proofs.TurnLaws.{append_none, append_twice}

-- turns that were written lead from the one session to the other
pub record Went (start : Session) (bytes : List ℕ) (holds₀ : Option (List ℕ)) (session : Session) (read : ℕ) (left holds : Option (List ℕ)) : Type 0 where
  pub number : ℕ
  pub rest : List ℕ
  pub text : List ℕ
  pub unread : left ≡ Some rest
  pub turns : Turns start.engine number (standing start 0 bytes) text (standing session read rest)
  pub written : holds ≡ append_known holds₀ text

pub record Going (start : Session) (left₀ holds₀ : Option (List ℕ)) (session : Session) (read : ℕ) (left holds : Option (List ℕ)) : Type 0 where
  pub told : (bytes : List ℕ) → left₀ ≡ Some bytes → Went start bytes holds₀ session read left holds

pub going_start : (start : Session) (left holds : Option (List ℕ)) → Going start left holds start 0 left holds
going_start start left holds = record { told = λ bytes e. record { number = 0; rest = bytes; text = []; unread = e; turns = (refl, refl); written = append_none holds } }

module _ (start : Session) (left₀ holds₀ : Option (List ℕ)) (session : Session) (read : ℕ) (left holds : Option (List ℕ)) (w : Going start left₀ holds₀ session read left holds) (new : Session) (count : ℕ) (left' holds' : Option (List ℕ)) where
  joined : (bytes a b : List ℕ) → holds ≡ append_known holds₀ a → holds' ≡ append_known holds b → holds' ≡ append_known holds₀ (a ++ b)
  joined bytes a b e f = f ∙ ap (λ h. append_known h b) e ∙ append_twice holds₀ a b

  -- a turn more
  pub going_turn : ((bytes : List ℕ) → left ≡ Some bytes → TurnWritten start.engine (standing session read bytes) holds holds' (Ok None) new count left') → Going start left₀ holds₀ new count left' holds'
  going_turn turn = record {
    told = λ bytes e.
        let x = w.told bytes e in let t = turn x.rest x.unread in
        record { number = suc x.number; rest = t.0; text = x.text ++ t.1; unread = t.2; turns = (standing session read x.rest, (x.text, t.1, x.turns, t.3, refl)); written = joined bytes x.text t.1 x.written t.4 };
  }

  pub going_ended : (end : SessionEnd) → ((bytes : List ℕ) → left ≡ Some bytes → TurnWritten start.engine (standing session read bytes) holds holds' (Ok (Some end)) new count left')
      → (bytes : List ℕ) → left₀ ≡ Some bytes → IsPlayed start.engine (standing start 0 bytes) holds₀ holds' end new left'
  going_ended end turn bytes e =
      let x = w.told bytes e in let t = turn x.rest x.unread in
      record {
        text = x.text ++ t.1;
        read = count;
        rest = t.0;
        played = record { number = x.number; first = x.text; last = t.1; turns = subst (Turns start.engine x.number (standing start 0 bytes) x.text) t.4 x.turns; ends = subst (λ a. Ends start.engine a t.1 end) t.4 t.3; whole = refl };
        written = joined bytes x.text t.1 x.written t.5;
        unread = t.2;
      }

  -- a fault broke the session off
  pub going_failed : (f : Fault) → ((bytes : List ℕ) → left ≡ Some bytes → TurnWritten start.engine (standing session read bytes) holds holds' (Err f) new count left')
      → (bytes : List ℕ) → left₀ ≡ Some bytes → IsPlayedTo start.engine (standing start 0 bytes) holds₀ holds' (Err f) new left'
  going_failed Read turn bytes e =
      let x = w.told bytes e in let t = turn x.rest x.unread in let a = standing session read x.rest in let b = standing new count t.0 in
      let same : a ≡ b = t.4 in
      record {
        text = x.text;
        read = count;
        rest = t.0;
        waits = (x.number, subst (Turns start.engine x.number (standing start 0 bytes) x.text) same x.turns, subst (λ s. IsToAnswer start.engine s.game.state) same t.2, subst (λ s. s.read < MOST_LINES) same t.3);
        written = t.5 ∙ x.written;
        unread = t.1;
      }
  going_failed Write turn bytes e =
      let x = w.told bytes e in let t = turn x.rest x.unread in
      (x.text ++ t.0, (x.number, standing session read x.rest, x.text, t.0, t.1, x.turns, t.2, refl), joined bytes x.text t.0 x.written t.3)
