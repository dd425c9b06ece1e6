-- A map from texts to bytes, seen as files.
use Rattle.std.proofs.Common.{◌≡◌, ◌≤◌, ℕ, List, [], ◌∷◌, Bool, true, false, cond, map, refl, sym, ap, ◌∙◌, Some, None, Result, Ok, Err, string_bytes, append-nil, arith, rules, tests}
use Rattle.std.specs.declared.option.Option.{Option}
use Rattle.std.specs.Option.{option_map}
use Rattle.std.specs.Ordering.{nat_cmp}
use Rattle.std.specs.Cmp.{eq_by_cmp_equiv}
use Rattle.std.specs.Cmp.Lexicographic.{slice_cmp, nat_list_cmp_total}
use Rattle.std.specs.FinMap.{get, insert, find, from_entries, get-insert, get-from_entries, same_map, slice_cmp-IsAntisymmetric, nat_cmp-IsAntisymmetric}
use Rattle.std.specs.BTreeMap.{BTreeMap, get_by_text, is_at, Updates}
use Rattle.std.specs.String.{string_cmp}
use Rattle.std.specs.Map.{lookup}
use Rattle.std.specs.Str.{bytes_eq}
use Rattle.std.specs.Global.{Global, Vec}
use Rattle.std.specs.declared.string.String.{String}
use Rattle.std.proofs.lemmas.Map.Text.{btree_map_updates_text, is_eq-slice_cmp}
use Rattle.desk_io.specs.Outside.{Rose, next_number}
use Rattle.desk_io.specs.Files.{Files, FailsByCount, Loads, told_entry, has_failed}
use Rattle.desk_io.specs.Files.Told.{absent, holding}
use Rattle.desk_io.specs.Memory.{Calls, counted}
use Rattle.desk_io.specs.declared.shelf.Loaded.{Loaded}
use Rattle.desk_io.specs.declared.shelf.LoadError.{LoadError}
use Rattle.desk_io.specs.declared.shelf.LoadError.TheVariants.{Absent, Failed, Memory}
use Rattle.desk_io.specs.inner.Memory.{files_in}

-- a look-up by the bytes of a text
found : (q : List ℕ) (es : List (String Global × Vec ℕ)) → find (slice_cmp nat_cmp) q (map (λ e. (string_bytes e.0, e.1.items)) es) ≡ option_map (λ v. v.items) (lookup (is_at (λ k. slice_cmp nat_cmp q (string_bytes k))) es)
found q [] = refl
found q (e ∷ es) = elim (is_at (λ k. slice_cmp nat_cmp q (string_bytes k)) e.0) as (λ b. cond b (Some e.1.items) (find (slice_cmp nat_cmp) q (map (λ e. (string_bytes e.0, e.1.items)) es)) ≡ option_map (λ v. v.items) (cond b (Some e.1) (lookup (is_at (λ k. slice_cmp nat_cmp q (string_bytes k))) es))) [
  | true ↦ refl
  | false ↦ found q es
]

pub file_in : (m : BTreeMap (String Global) (Vec ℕ)) (name : List ℕ) → get (files_in m) name ≡ option_map (λ v. v.items) (get_by_text m name)
unfolding files_in
file_in m name = get-from_entries nat_list_cmp_total _ name ∙ found name m.entries

-- the new file, or the old one
chosen : (b : Bool) (v : Vec ℕ) (o : Option (Vec ℕ)) → option_map (λ v. v.items) (cond b (Some v) o) ≡ cond b (Some v.items) (option_map (λ v. v.items) o)
chosen true v o = refl
chosen false v o = refl

pub files_after : (m n : BTreeMap (String Global) (Vec ℕ)) (name : String Global) (file : Vec ℕ) → Updates string_cmp m n name (Some file) → files_in n ≡ insert (files_in m) (string_bytes name) file.items
files_after m n name file after = same_map nat_list_cmp_total (slice_cmp-IsAntisymmetric nat_cmp-IsAntisymmetric) _ _ (λ q.
    let bs = string_bytes name in
    let same : bytes_eq bs q ≡ is_at (slice_cmp nat_cmp q) bs = sym (is_eq-slice_cmp bs q) ∙ (eq_by_cmp_equiv nat_list_cmp_total).symm bs q in
    file_in n q ∙ ap (option_map (λ v. v.items)) (btree_map_updates_text bs m n (Some file) after q) ∙ chosen (bytes_eq bs q) file (get_by_text m q)
    ∙ ap (λ b. cond b (Some file.items) (option_map (λ v. v.items) (get_by_text m q))) same
    ∙ ap (cond (is_at (slice_cmp nat_cmp q) bs) (Some file.items)) (sym (file_in m q))
    ∙ sym (get-insert nat_list_cmp_total (files_in m) bs file.items q))

pub files_same : (m n : BTreeMap (String Global) (Vec ℕ)) → n.entries ≡ m.entries → files_in n ≡ files_in m
unfolding files_in
files_same m n e = ap (λ es. from_entries (map (λ e. (string_bytes e.0, e.1.items)) es)) e

-- what a load answers of no file, and of a file, by what the map holds
pub told_none : (m : BTreeMap (String Global) (Vec ℕ)) (files : Files) (name : List ℕ) → files_in m ≡ files → get_by_text m name ≡ None → told_entry (get files name) ≡ absent
told_none m files name same none = ap (λ f. told_entry (get f name)) (sym same) ∙ ap told_entry (file_in m name) ∙ ap (λ o. told_entry (option_map (λ v. v.items) o)) none

pub told_some : (m : BTreeMap (String Global) (Vec ℕ)) (files : Files) (name : List ℕ) (file : Vec ℕ) → files_in m ≡ files → get_by_text m name ≡ Some file → told_entry (get files name) ≡ holding file.items
told_some m files name file same some = ap (λ f. told_entry (get f name)) (sym same) ∙ ap told_entry (file_in m name) ∙ ap (λ o. told_entry (option_map (λ v. v.items) o)) some

-- a load that failed appended nothing
pub failed_loads : (file : Option (List ℕ)) (limit : ℕ) (old : List ℕ) → Loads (told_entry file) limit old old (Err Failed)
failed_loads None limit old = refl
failed_loads (Some file) limit old = (0, sym (append-nil old))

rises : (n : ℕ) → Rose n (next_number n)
rises n = search (tests, rules)

later : (n : ℕ) → n ≤ next_number n
later n = search (tests, rules)

-- a count that rises with the loads that fail
pub load_cause : (calls : Calls) (result : Result Loaded LoadError) → FailsByCount calls.faults (counted calls (has_failed result)).faults result
load_cause calls (Ok how) = record { later = omega arith; failed = λ e. absurd (cc e) }
load_cause calls (Err Failed) = record { later = later calls.faults; failed = λ _. rises calls.faults }
load_cause calls (Err Absent) = record { later = omega arith; failed = λ e. absurd (cc e) }
load_cause calls (Err (Memory cause)) = record { later = omega arith; failed = λ e. absurd (cc e) }
