-- What is read of a file: from the source where its word is `-`, and else by a load.
use Rattle.std.proofs.Common.{tests, rules, ◌≡◌, ◌≤◌, ◌<◌, ℕ, ◌⊎◌, inl, inr, arith, length, take, refl, sym, ap, subst, ◌∙◌, List, [], ◌++◌, append_assoc, length-append, Some, None, true, false, ◌≢◌}
use Rattle.std.specs.Prelude.{Option, Ok, if◌then◌else◌}
use Rattle.std.specs.Io.KnownBytes.{prepend_known}
use Rattle.std.specs.Str.{bytes_eq}
use Rattle.std.proofs.KnownBytes.{prepend_known-nil}
use Rattle.std.proofs.lemmas.Slice.Eq.{bytes_eq-Decides}
use Rattle.std.proofs.lemmas.List.{take-append-le}
use Rattle.desk_io.specs.Desk.{Input}
use Rattle.desk_io.specs.Files.{IsLonger, IsTold, Loads, Told, told_file, told_source}
use Rattle.desk_io.specs.Files.Told.{absent, holding, untold}
use Rattle.desk_io.specs.Outside.{Rose, ended}
use Rattle.desk_io.specs.declared.outside.Source as Source
use Rattle.desk_io.specs.declared.shelf.Shelf as Shelf
use Rattle.desk_io.specs.declared.shelf.Loaded.{Loaded}
use Rattle.desk_io.specs.declared.shelf.Loaded.TheVariants.{Longer, Whole}
use Rattle.sgf_go.specs.File.{HasFewBytes}
use Rattle.sgf_tree.specs.declared.reader.TheConstants.{MOST_BYTES}
use Rattle.endgame_questions.specs.File.{ReadsFile, TakesAtMost, count_of, dash, most_of_file, told_of}
use Rattle.endgame_questions.specs.inner.File.{IsWhole}
use Rattle.endgame_questions.proofs.AnswerLaws.{nothing_taken, rest_of, told_is}

-- where the word is that of the source
module _ (word : List ℕ) (i : Input) (is : true ≡ bytes_eq word dash) where
  source_is : told_source i.left ≡ told_of i word
  source_is = ap (λ b. if b then told_source i.left else told_file i.files word) is

  pub source_told : (now : Option (List ℕ)) (file : List ℕ) → IsWhole i.left now file → IsTold (told_of i word) file
  source_told now file w = subst (λ t. IsTold t file) source_is (told_is i.left now file w)

  pub source_longer : IsLonger MOST_BYTES (told_source i.left) → IsLonger MOST_BYTES (told_of i word)
  source_longer h = subst (IsLonger MOST_BYTES) source_is h

  pub source_rose : (j : Input) → Rose i.reads j.reads → Rose (count_of i word) (count_of j word)
  source_rose j h = subst (λ b. Rose (if b then i.reads else i.loads) (if b then j.reads else j.loads)) is h

-- where the word is a name
module _ (word : List ℕ) (i : Input) (other : false ≡ bytes_eq word dash) where
  shelf_is : told_file i.files word ≡ told_of i word
  shelf_is = ap (λ b. if b then told_source i.left else told_file i.files word) other

  pub shelf_told : (file : List ℕ) → IsTold (told_file i.files word) file → IsTold (told_of i word) file
  shelf_told file h = subst (λ t. IsTold t file) shelf_is h

  pub shelf_longer : IsLonger MOST_BYTES (told_file i.files word) → IsLonger MOST_BYTES (told_of i word)
  shelf_longer h = subst (IsLonger MOST_BYTES) shelf_is h

  pub shelf_fault : (j : Input) → (told_file i.files word ≡ absent) ⊎ Rose i.loads j.loads → (told_of i word ≡ absent) ⊎ Rose (count_of i word) (count_of j word)
  shelf_fault j (inl e) = inl (sym shelf_is ∙ e)
  shelf_fault j (inr h) = inr (subst (λ b. Rose (if b then i.reads else i.loads) (if b then j.reads else j.loads)) other h)

pub no_dash : (word : List ℕ) → false ≡ bytes_eq word dash → word ≢ dash
no_dash word other is = let t = (bytes_eq-Decides word dash).1 is in cc

module _ {H S : Type 0} (shelves : Shelf.Ghosts H) (sources : Source.Ghosts S) (word : List ℕ) where
  pub source_read : (shelf : H) (lines now : S) → true ≡ bytes_eq word dash → TakesAtMost most_of_file (sources.left lines) (sources.left now)
      → sources.faults lines ≤ sources.faults now → ReadsFile shelves sources word shelf lines shelf now
  source_read shelf lines now is taken later = record {
    later = record { same_files = refl; loads = omega arith; reads = later; rest = rest_of most_of_file (sources.left lines) (sources.left now) taken };
    taken = taken;
    asked = λ no. absurd (no ((bytes_eq-Decides word dash).0 (sym is)));
    lines_unread = λ no. absurd (no ((bytes_eq-Decides word dash).0 (sym is)));
    shelf_unread = λ e. refl;
  }

  pub shelf_read : (shelf now : H) (lines : S) → false ≡ bytes_eq word dash → shelves.asks shelf word now → shelves.files now ≡ shelves.files shelf
      → shelves.faults shelf ≤ shelves.faults now → ReadsFile shelves sources word shelf lines now lines
  shelf_read shelf now lines other asked same later = record {
    later = record {
      same_files = same;
      loads = later;
      reads = omega arith;
      rest = rest_of 0 (sources.left lines) (sources.left lines) (nothing_taken 0 (sources.left lines));
    };
    taken = nothing_taken most_of_file (sources.left lines);
    asked = λ k. asked;
    lines_unread = λ k. refl;
    shelf_unread = λ e. absurd (no_dash word other e);
  }

-- what a load of a whole file appends to nothing
module _ (old new : List ℕ) (empty : old ≡ []) where
  few : (t : Told) → Loads t MOST_BYTES old new (Ok Whole) → HasFewBytes new
  few untold h = omega (arith, h.1, ap length empty)
  few absent h = absurd h
  few (holding file) h = subst HasFewBytes (sym (h.1 ∙ ap (λ l. l ++ file) empty)) h.0

  all : (t : Told) → Loads t MOST_BYTES old new (Ok Whole) → IsTold t new
  all untold h = tt
  all absent h = absurd h
  all (holding file) h = sym (h.1 ∙ ap (λ l. l ++ file) empty)

  pub whole_short : (t : Told) (how : Loaded) → how ≡ Whole → Loads t MOST_BYTES old new (Ok how) → HasFewBytes new
  whole_short t how is h = few t (subst (λ l. Loads t MOST_BYTES old new (Ok l)) is h)

  pub whole_told : (t : Told) (how : Loaded) → how ≡ Whole → Loads t MOST_BYTES old new (Ok how) → IsTold t new
  whole_told t how is h = all t (subst (λ l. Loads t MOST_BYTES old new (Ok l)) is h)

-- a load that left a rest tells that the file is longer
pub longer : (t : Told) (limit : ℕ) (old new : List ℕ) (how : Loaded) → how ≡ Longer → Loads t limit old new (Ok how) → IsLonger limit t
longer t limit old new how is h = go t (subst (λ l. Loads t limit old new (Ok l)) is h) where
  go : (u : Told) → Loads u limit old new (Ok Longer) → IsLonger limit u
  go untold k = tt
  go absent k = absurd k
  go (holding file) k = k.0

-- a file that is read piece by piece: what was left at first is what was read, and then what is left now
module _ (before now : Option (List ℕ)) (file : List ℕ) (so_far : before ≡ prepend_known file now) where
  pub file_taken : length file ≤ most_of_file → TakesAtMost most_of_file before now
  file_taken few = go now so_far few where
    go : (o : Option (List ℕ)) → before ≡ prepend_known file o → length file ≤ most_of_file → TakesAtMost most_of_file before o
    go None e k bytes is = absurd cc
    go (Some rest) e k bytes is =
        let f : Path (Option (List ℕ)) (Some bytes) (Some (file ++ rest)) = sym is ∙ e in
        let g : bytes ≡ file ++ rest = cc in (file, rest, refl, g, k)

  pub too_long : MOST_BYTES < length file → IsLonger MOST_BYTES (told_source before)
  too_long more = subst (λ b. IsLonger MOST_BYTES (told_source b)) (sym so_far) (go now) where
    go : (o : Option (List ℕ)) → IsLonger MOST_BYTES (told_source (prepend_known file o))
    go None = tt
    go (Some rest) = omega (arith, more, length-append file rest)

  -- one piece more
  pub with_piece : (next : Option (List ℕ)) (piece : List ℕ) → now ≡ prepend_known piece next → before ≡ prepend_known (file ++ piece) next
  with_piece next piece e = so_far ∙ ap (prepend_known file) e ∙ twice next where
    twice : (o : Option (List ℕ)) → prepend_known file (prepend_known piece o) ≡ prepend_known (file ++ piece) o
    twice None = refl
    twice (Some xs) = ap Some (sym (append_assoc file piece xs))

  -- a piece of which the front was read, as it is appended
  pub with_front : (next : Option (List ℕ)) (buf rest new : List ℕ) (n : ℕ) → n ≤ length buf → now ≡ prepend_known (take n buf) next → new ≡ file ++ take n (buf ++ rest)
      → before ≡ prepend_known new next
  with_front next buf rest new n few e same =
      with_piece next (take n buf) e ∙ ap (λ l. prepend_known l next) (sym (same ∙ ap (λ l. file ++ l) (take-append-le n buf rest few)))

  pub whole_at_end : (next : Option (List ℕ)) → now ≡ prepend_known [] next → next ≡ ended now → length file ≤ MOST_BYTES → IsWhole before next file
  whole_at_end next e end few = record {
    all = so_far ∙ ap (prepend_known file) (e ∙ prepend_known-nil next);
    end = end ∙ at_end now ∙ ap ended (sym so_far);
    short = few;
  } where
    at_end : (o : Option (List ℕ)) → ended o ≡ ended (prepend_known file o)
    at_end None = refl
    at_end (Some xs) = refl

-- a count that rose since a moment rose since an earlier one
pub rose_since : (before mid now : ℕ) → before ≤ mid → Rose mid now → Rose before now
rose_since before mid now l h = search (tests, rules)
