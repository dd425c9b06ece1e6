-- Where the reader stands in a text: the forms that are open, and what the rest of the text then comes to.
use Rattle.std.specs.Prelude.{ℕ, suc, ◌≡◌, ◌+◌, ◌<◌, ◌≤◌, List, [], ◌∷◌, ◌++◌, length, drop, Option, Some, None, Result, Ok, Err}
use Rattle.std.specs.List.{slice_index_or}
use Rattle.short_games.specs.Tree.{Tree, Trees, node, none, more, ◌then◌, tree_at}
use Rattle.game_store.specs.Meaning.{listed}
use Rattle.short_games.specs.Parts.{HasMoreParts}
use Rattle.game_canon.specs.Outcomes.{IsCanonicalId, IsPastBounds, IsCause}
use Rattle.game_text.specs.Reading.{Fault, Outcome, Side, left_side, right_side, mark_of, IsNumberByte, EndsNumber, IsClosed, ReadsGame, ReadsOptions, ReadsMore, ReadsText, IsDigitByte, EndsDigits}
use Rattle.game_text.specs.Reading.Fault.{bad_byte, bad_number, cut_short}
use Rattle.game_text.specs.declared.named_games.Found.{Found}
use Rattle.game_text.specs.declared.errors.ReadError.{ReadError}
use Rattle.game_text.specs.declared.errors.ReadError.TheVariants as error
use Rattle.game_canon.specs.declared.errors.FormError.TheVariants as form
use Rattle.game_text.specs.Reading.Outcome.{reads, refused}
use Rattle.game_text.specs.declared.pending.Opening.{Opening}
use Rattle.game_text.specs.declared.pending.Step.{Step}
use Rattle.game_text.specs.declared.pending.Source.{Source}
use Rattle.game_text.specs.declared.pending.Pending.{Pending}
use Rattle.game_text.specs.declared.pending.Place.{Place}
use Rattle.game_text.specs.declared.pending.Place.TheVariants as place

-- what a whole text comes to: the game that it names, or a fault
abbrev pub Answer : Type 0
Answer = Result Tree Fault

-- an open form: its Left options so far; or all of them, and its Right options so far
pub data Frame : Type 0 where
  on_left : Trees → Frame
  on_right : Trees → Trees → Frame

-- the side of an open form whose options are being read
abbrev pub side_in : Frame → Side
side_in (on_left Ls) = left_side
side_in (on_right Ls Rs) = right_side

-- an open form with one more option on the side that is being read
abbrev pub with_option : Frame → Tree → Frame
with_option (on_left Ls) G = on_left (Ls then more G none)
with_option (on_right Ls Rs) G = on_right Ls (Rs then more G none)

-- what the text comes to, once it is known what its game does
abbrev pub AtEnd : Outcome Tree → Answer → Type 0
AtEnd (reads G []) out = out ≡ Ok G
AtEnd (reads G (x ∷ xs)) out = out ≡ Err (bad_byte (x ∷ xs))
AtEnd (refused fault) out = out ≡ Err fault

-- what is to be read: the first option of a side, a game, what is behind an option, or nothing behind the whole game
pub data TextState : Type 0 where
  first_option : Frame → List Frame → TextState
  a_game : List Frame → TextState
  other_options : Frame → List Frame → TextState
  all_read : Tree → TextState

module _ (limit : ℕ) where
  -- what the text comes to, once it is known what other Right options of the innermost form do, where Next tells it of the form
  abbrev pub BehindRight : (Outcome Tree → Answer → Type 0) → Trees → Trees → Outcome Trees → Answer → Type 0
  BehindRight Next Ls Rs (reads Gs rest) out = (o : Outcome Tree) × IsClosed limit (node Ls (Rs then Gs)) rest o × Next o out
  BehindRight Next Ls Rs (refused fault) out = out ≡ Err fault

  -- what the text comes to, once it is known what other Left options of the innermost form do, where Next tells it of the form
  -- and n braces are open
  abbrev pub BehindLeft : (Outcome Tree → Answer → Type 0) → ℕ → Trees → Outcome Trees → Answer → Type 0
  BehindLeft Next n Ls (reads Gs rest) out = (o : Outcome Trees) × ReadsOptions limit n right_side rest o × BehindRight Next (Ls then Gs) none o out
  BehindLeft Next n Ls (refused fault) out = out ≡ Err fault

  -- what the text comes to, once it is known what other options do on the side of the innermost form that is being read, where
  -- Next tells it of the form and n braces are open
  abbrev pub BehindSide : (Outcome Tree → Answer → Type 0) → ℕ → Frame → Outcome Trees → Answer → Type 0
  BehindSide Next n (on_left Ls) o out = BehindLeft Next n Ls o out
  BehindSide Next n (on_right Ls Rs) o out = BehindRight Next Ls Rs o out

  -- what the text comes to, once it is known what a game within the open forms does, the innermost first
  abbrev pub BehindGame : List Frame → Outcome Tree → Answer → Type 0
  BehindGame [] o out = AtEnd o out
  BehindGame (f ∷ fs) (reads G rest) out = (o : Outcome Trees) × ReadsMore limit (suc (length fs)) (side_in (with_option f G)) rest o × BehindSide (BehindGame fs) (suc (length fs)) (with_option f G) o out
  BehindGame (f ∷ fs) (refused fault) out = out ≡ Err fault

  -- what the text comes to from a state on, with the bytes that are left
  abbrev pub Rest : TextState → List ℕ → Answer → Type 0
  Rest (first_option f fs) bytes out = (o : Outcome Trees) × ReadsOptions limit (suc (length fs)) (side_in f) bytes o × BehindSide (BehindGame fs) (suc (length fs)) f o out
  Rest (a_game fs) bytes out = (o : Outcome Tree) × ReadsGame limit (length fs) bytes o × BehindGame fs o out
  Rest (other_options f fs) bytes out = (o : Outcome Trees) × ReadsMore limit (suc (length fs)) (side_in f) bytes o × BehindSide (BehindGame fs) (suc (length fs)) f o out
  Rest (all_read G) bytes out = AtEnd (reads G bytes) out

-- the ids are those of the canonical trees of the listed games, in order
abbrev pub AreNamed : List Tree → Trees → List ℕ → Type 0
AreNamed Ts none [] = Unit {0}
AreNamed Ts none (i ∷ is) = ⊥
AreNamed Ts (more G Gs) [] = ⊥
AreNamed Ts (more G Gs) (i ∷ is) = IsCanonicalId Ts G i × AreNamed Ts Gs is

-- an open form by the place where its options begin, and the one where its Right options do, if they have begun
abbrev pub opening_at : ℕ → Option ℕ → Opening
opening_at first second = record { start = first; middle = second }

-- the ids of an open form's options behind n others, and where they begin
abbrev pub IsOpening : List Tree → Frame → ℕ → List ℕ → Opening → Type 0
IsOpening Ts (on_left Ls) n own o = (o ≡ opening_at n None) × AreNamed Ts Ls own
IsOpening Ts (on_right Ls Rs) n own o = (ls rs : List ℕ) × (own ≡ ls ++ rs) × (o ≡ opening_at n (Some (n + length ls))) × AreNamed Ts Ls ls × AreNamed Ts Rs rs

-- an open form behind those that are open before it
pub record IsInnermost (Ts : List Tree) (f : Frame) (Before : List ℕ → List Opening → Type 0) (options : List ℕ) (opens : List Opening) : Type 0 where
  pub before : List ℕ
  pub own : List ℕ
  pub below : List Opening
  pub top : Opening
  pub options_are : options ≡ before ++ own
  pub opens_are : opens ≡ below ++ top ∷ []
  pub opening : IsOpening Ts f (length before) own top
  pub others : Before before below

-- the options and the openings of the open forms, the innermost first
abbrev pub AreOpen : List Tree → List Frame → List ℕ → List Opening → Type 0
AreOpen Ts [] options opens = (options ≡ []) × (opens ≡ [])
AreOpen Ts (f ∷ fs) options opens = IsInnermost Ts f (AreOpen Ts fs) options opens

-- how the reader keeps a state
abbrev pub Keeps : List Tree → TextState → Place → List ℕ → List Opening → Type 0
Keeps Ts (first_option f fs) p options opens = (p ≡ place.First) × AreOpen Ts (f ∷ fs) options opens
Keeps Ts (a_game fs) p options opens = (p ≡ place.Game) × AreOpen Ts fs options opens
Keeps Ts (other_options f fs) p options opens = (p ≡ place.Behind) × AreOpen Ts (f ∷ fs) options opens
Keeps Ts (all_read G) p options opens = (p ≡ place.Whole) × (id : ℕ) × (options ≡ id ∷ []) × IsCanonicalId Ts G id

-- the text comes to what its rest comes to from the place on
pub record IsReading (Ts : List Tree) (limit : ℕ) (text : List ℕ) (spot : ℕ) (p : Place) (options : List ℕ) (opens : List Opening) : Type 0 where
  pub state : TextState
  pub kept : Keeps Ts state p options opens
  pub within : spot ≤ length text
  pub comes : (out : Answer) → Rest limit state (drop spot text) out → ReadsText limit text out

-- where the reader goes on, further on in the text
abbrev pub IsNext : List Tree → ℕ → List ℕ → ℕ → Step → List ℕ → List Opening → Type 0
IsNext Ts limit text spot step options opens = IsReading Ts limit text step.at step.place options opens × (spot < step.at)

-- the text of a source comes to what its rest comes to from the place on, behind what is kept
abbrev pub IsTextDue : List Tree → Source → ℕ → Place → Pending → Type 0
IsTextDue Ts source spot p kept = IsReading Ts source.parts_limit source.text.now spot p kept.options.items kept.opens.items

-- the step goes on further on in the text of a source, behind what is kept
abbrev pub GoesOnInText : List Tree → Source → ℕ → Pending → Step → Type 0
GoesOnInText Ts source spot kept step = IsNext Ts source.parts_limit source.text.now spot step kept.options.items kept.opens.items

-- what is read behind a game
abbrev pub place_after : List Opening → Place
place_after [] = place.Whole
place_after (o ∷ os) = place.Behind

-- the side of the innermost open form whose options are read
abbrev pub side_of : Option ℕ → Side
side_of None = left_side
side_of (Some middle) = right_side

-- the byte that ends the side of an open form whose options are being read
abbrev pub mark_at : Opening → ℕ
mark_at o = mark_of (side_of o.middle)

-- the longest run of bytes of numbers from a place on
pub record EndsRunAt (text : List ℕ) (first past : ℕ) : Type 0 where
  pub forward : first ≤ past
  pub within : past ≤ length text
  pub number_bytes : (k : ℕ) → first ≤ k → k < past → IsNumberByte (slice_index_or text k 0)
  pub longest : EndsNumber (drop past text)

-- the byte ends the side of the innermost open form
abbrev pub IsMarkOfInnermost : List Opening → ℕ → Type 0
IsMarkOfInnermost opens byte = (below : List Opening) × (top : Opening) × (opens ≡ below ++ top ∷ []) × (byte ≡ mark_at top)

-- the id of the form with these options, which is taken, behind others
abbrev pub IsFormTaken : (Ts Us : List Tree) → ℕ → (ls rs before after : List ℕ) → Type 0
IsFormTaken Ts Us limit ls rs before after = (id : ℕ) × (after ≡ before ++ id ∷ []) × IsCanonicalId Us (listed Ts ls rs) id × (IsPastBounds (listed Ts ls rs) → ⊥) × (HasMoreParts (tree_at Us id) limit → ⊥)

-- where the whole game was read, its id is all that is kept
abbrev pub IsEnded : Place → List ℕ → Type 0
IsEnded p options = p ≡ place.Whole → (id : ℕ) × (options ≡ id ∷ [])

-- the id of the canonical tree of G, which has at most so many parts and is no number past the bounds
abbrev pub IsTaken : List Tree → ℕ → Tree → ℕ → Type 0
IsTaken Us limit G id = IsCanonicalId Us G id × (IsPastBounds G → ⊥) × (HasMoreParts (tree_at Us id) limit → ⊥)

-- a game that is read from a place on, by R, and taken; and the place behind it
abbrev pub IsFoundBy : (List ℕ → Outcome Tree → Type 0) → List Tree → ℕ → List ℕ → ℕ → Found → Type 0
IsFoundBy R Us limit text spot found = (G : Tree) × R (drop spot text) (reads G (drop found.end text)) × IsTaken Us limit G found.id × (spot ≤ found.end) × (found.end ≤ length text)

-- why no game is read from a place on, by R, and taken
abbrev pub IsRefusedBy : (List ℕ → Outcome Tree → Type 0) → ℕ → List ℕ → ℕ → ReadError → Type 0
IsRefusedBy R limit text spot (error.BadByte place) = (place ≡ spot) × R (drop spot text) (refused (bad_byte (drop spot text)))
IsRefusedBy R limit text spot (error.BadNumber place) = (place ≡ spot) × R (drop spot text) (refused (bad_number (drop spot text)))
IsRefusedBy R limit text spot error.CutShort = R (drop spot text) (refused cut_short)
IsRefusedBy R limit text spot error.Deep = ⊥
IsRefusedBy R limit text spot error.Parts = (G : Tree) × (rest : List ℕ) × R (drop spot text) (reads G rest) × IsCause G limit form.Parts
IsRefusedBy R limit text spot error.Bounds = (G : Tree) × (rest : List ℕ) × R (drop spot text) (reads G rest) × IsCause G limit form.Bounds
IsRefusedBy R limit text spot (error.Memory cause) = Unit {0}

-- the longest run of digits from a place on
pub record EndsDigitsAt (text : List ℕ) (first past : ℕ) : Type 0 where
  pub forward : first ≤ past
  pub within : past ≤ length text
  pub digit_bytes : (k : ℕ) → first ≤ k → k < past → IsDigitByte (slice_index_or text k 0)
  pub longest : EndsDigits (drop past text)
