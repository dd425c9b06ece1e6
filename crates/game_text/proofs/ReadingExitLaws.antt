-- What the reader's exits say.
use Rattle.std.proofs.Common.{ℕ, ◌-◌, ◌≤◌, ◌≡◌, List, [], ◌∷◌, ◌++◌, length, take, drop, sym, ◌∙◌, ap, ap₂, subst}
use Rattle.std.proofs.lemmas.List.{take_rest}
use Rattle.short_games.specs.Tree.{Tree, tree_at}
use Rattle.game_store.specs.Meaning.{listed}
use Rattle.short_games.specs.Parts.{HasMoreParts}
use Rattle.game_canon.specs.Outcomes.{IsCanonicalId, IsPastBounds}
use Rattle.game_text.specs.inner.Machine.{IsFormTaken}
use Rattle.std.specs.Prelude.{Result, Ok, Err, IfErr, IfOk, Option, Some, None, MatchOption, slice_range}
use Rattle.game_text.specs.declared.errors.ReadError.{ReadError}
use Rattle.game_text.specs.declared.errors.ReadError.TheVariants as reading
use Rattle.game_text.specs.declared.pending.Place.{Place}
use Rattle.game_text.specs.declared.pending.Place.TheVariants as place
use Rattle.game_text.specs.Depth.{most_open}
use Rattle.game_text.specs.Reading.{Names, RefusesText, IsReadRefusal}
use Rattle.game_text.specs.Reading.Fault.{too_deep, cut_short}
use Rattle.game_text.specs.inner.Refusals.{IsOpeningRefusal}

-- what the exit of a `?` says of the error that it passes on
pub read-passed_on : {A : Type 0} (r : Result A ReadError) (x : ReadError) (P : ReadError → Type 0) → (y : ReadError) × (r ≡ Err y) × (y ≡ x) → P x → IfErr r P
read-passed_on r x P q p = subst (λ z. IfErr z P) (sym q.1) (subst P (sym q.2) p)

pub opening-refused : (limit : ℕ) (text : List ℕ) (n : ℕ) (e : ReadError) → (most_open ≤ n → RefusesText limit text too_deep) → IsOpeningRefusal n e → IsReadRefusal limit text e
opening-refused limit text n (reading.BadByte place) f h = absurd h
opening-refused limit text n (reading.BadNumber place) f h = absurd h
opening-refused limit text n reading.CutShort f h = absurd h
opening-refused limit text n reading.Deep f h = f h
opening-refused limit text n reading.Parts f h = absurd h
opening-refused limit text n reading.Bounds f h = absurd h
opening-refused limit text n (reading.Memory cause) f h = tt

pub if-ok : {A E : Type 0} (r : Result A E) (P Q : Type 0) → (P → Q) → IfOk r (λ _. P) → IfOk r (λ _. Q)
if-ok (Ok x) P Q f p = f p
if-ok (Err e) P Q f p = p

pub at-none : {A : Type 0} (o : Option A) (P : Type 0) (Q : A → Type 0) → o ≡ None → MatchOption o P Q → P
at-none o P Q e m = subst (λ z. MatchOption z P Q) e m

pub at-some : {A : Type 0} (o : Option A) (x : A) (P : Type 0) (Q : A → Type 0) → o ≡ Some x → MatchOption o P Q → Q x
at-some o x P Q e m = subst (λ z. MatchOption z P Q) e m

-- the form that `canonical` gives, where the lists are lent
pub form-taken : (Ts Us : List Tree) (limit : ℕ) (options lent other cut after : List ℕ) (s m id : ℕ) → lent ≡ options → other ≡ options → cut ≡ take s options → IsCanonicalId Us (listed Ts (slice_range lent s m) (take (length other - m) (drop m other))) id → (IsPastBounds (listed Ts (slice_range lent s m) (take (length other - m) (drop m other))) → ⊥) → (HasMoreParts (tree_at Us id) limit → ⊥) → after ≡ cut ++ id ∷ [] → IsFormTaken Ts Us limit (slice_range options s m) (drop m options) (take s options) after
form-taken Ts Us limit options lent other cut after s m id p q r c f g e =
    let same : listed Ts (slice_range lent s m) (take (length other - m) (drop m other)) ≡ listed Ts (slice_range options s m) (drop m options) = ap₂ (listed Ts) (ap (λ z. slice_range z s m) p) (take_rest other m ∙ ap (drop m) q) in
    (id, e ∙ ap (λ z. z ++ id ∷ []) r, subst (λ G. IsCanonicalId Us G id) same c, (λ h. f (subst IsPastBounds (sym same) h)), g)

-- the text's end
pub ended-ok : (limit : ℕ) (text : List ℕ) (p : Place) (Ts : List Tree) (options : List ℕ) (r : Result ℕ ReadError) → ((id : ℕ) → p ≡ place.Whole → options ≡ id ∷ [] → (G : Tree) × Names limit text G × IsCanonicalId Ts G id) → IfOk r (λ id. (p ≡ place.Whole) × (options ≡ id ∷ [])) → IfOk r (λ id. (G : Tree) × Names limit text G × IsCanonicalId Ts G id)
ended-ok limit text p Ts options (Ok id) f h = f id h.0 h.1
ended-ok limit text p Ts options (Err e) f h = h

pub ended-err : (limit : ℕ) (text : List ℕ) (p : Place) (r : Result ℕ ReadError) → ((p ≡ place.Whole → ⊥) → RefusesText limit text cut_short) → IfErr r (λ e. (e ≡ reading.CutShort) × (p ≡ place.Whole → ⊥)) → IfErr r (λ e. IsReadRefusal limit text e)
ended-err limit text p (Ok id) f h = h
ended-err limit text p (Err e) f h = subst (IsReadRefusal limit text) (sym h.0) (f h.1)
