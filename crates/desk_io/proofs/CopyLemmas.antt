-- A source that is copied to its end, or up to a limit.
use Rattle.std.proofs.Common.{◌≡◌, ◌+◌, ◌<◌, ◌++◌, ℕ, List, [], take, length, refl, sym, ◌∙◌, ap, subst, arith, append_assoc, append-nil, length-append, Some, None}
use Rattle.std.specs.Prelude.{Ok, Err}
use Rattle.std.specs.Io.{StartsWith}
use Rattle.std.specs.Io.KnownBytes.{prepend_known}
use Rattle.std.specs.declared.option.Option.{Option}
use Rattle.std.proofs.KnownBytes.{prepend_known-nil}
use Rattle.std.proofs.Math.Seq.{take-append_seam, take-append-add}
use Rattle.std.proofs.lemmas.List.{take-append-le, length-take-le}
use Rattle.std.specs.declared.alloc.AllocError.{AllocError}
use Rattle.desk_io.specs.Files.{Loads, told_source}
use Rattle.desk_io.specs.Outside.{ended}
use Rattle.desk_io.specs.declared.shelf.Loaded.TheVariants.{Whole, Longer}
use Rattle.desk_io.specs.declared.shelf.LoadError.TheVariants.{Failed, Memory}

-- a front part of a source was appended, and so many bytes more may be
pub record Copied (before now : Option (List ℕ)) (limit left : ℕ) (old new : List ℕ) : Type 0 where
  piece : List ℕ
  same : new ≡ old ++ piece
  told : before ≡ prepend_known piece now
  room : length piece + left ≡ limit

pub copied_none : (before : Option (List ℕ)) (limit : ℕ) (old : List ℕ) → Copied before before limit limit old old
copied_none before limit old = record { piece = []; same = sym (append-nil old); told = sym (prepend_known-nil before); room = omega arith }

twice : (a b : List ℕ) (o : Option (List ℕ)) → prepend_known a (prepend_known b o) ≡ prepend_known (a ++ b) o
twice a b None = refl
twice a b (Some xs) = ap Some (sym (append_assoc a b xs))

pub copied_more : (before now next : Option (List ℕ)) (limit left more : ℕ) (old new front : List ℕ) → Copied before now limit left old new
    → now ≡ prepend_known front next → left ≡ length front + more → Copied before next limit more old (new ++ front)
copied_more before now next limit left more old new front c e l = record {
  piece = c.piece ++ front;
  same = ap (λ x. x ++ front) c.same ∙ append_assoc old c.piece front;
  told = c.told ∙ ap (prepend_known c.piece) e ∙ twice c.piece front next;
  room = omega (arith, c.room, l, length-append c.piece front);
}

starts : (old new piece : List ℕ) → new ≡ old ++ piece → StartsWith new old
starts old new piece e = ap (take (length old)) e ∙ take-append_seam old piece

pub copied_whole : (before now next : Option (List ℕ)) (limit left : ℕ) (old new : List ℕ) → Copied before now limit left old new
    → next ≡ ended now → now ≡ prepend_known [] next → Loads (told_source before) limit old new (Ok Whole)
copied_whole before None next limit left old new c e f =
    subst (λ b. Loads (told_source b) limit old new (Ok Whole)) (sym c.told) (starts old new c.piece c.same, omega (arith, c.room, ap length c.same, length-append old c.piece))
copied_whole before (Some xs) next limit left old new c e f =
    let all : before ≡ Some c.piece = c.told ∙ ap (prepend_known c.piece) (f ∙ ap (prepend_known []) e) ∙ ap Some (append-nil c.piece) in
    subst (λ b. Loads (told_source b) limit old new (Ok Whole)) (sym all) (omega (arith, c.room), c.same)

pub copied_longer : (before now next : Option (List ℕ)) (limit left : ℕ) (old new front : List ℕ) → Copied before now limit left old new
    → now ≡ prepend_known front next → left < length front → Loads (told_source before) limit old (new ++ take left front) (Ok Longer)
copied_longer before now None limit left old new front c e l =
    let same = ap (λ x. x ++ take left front) c.same ∙ append_assoc old c.piece (take left front) in
    let size = length-take-le left front (omega (arith, l)) in
    subst (λ b. Loads (told_source b) limit old (new ++ take left front) (Ok Longer)) (sym (c.told ∙ ap (prepend_known c.piece) e))
    (starts old (new ++ take left front) (c.piece ++ take left front) same, omega (arith, ap length same, c.room, size, length-append old (c.piece ++ take left front), length-append c.piece (take left front)))
copied_longer before now (Some xs) limit left old new front c e l =
    let cut : take limit (c.piece ++ (front ++ xs)) ≡ c.piece ++ take left front = ap (λ n. take n (c.piece ++ (front ++ xs))) (sym c.room) ∙ take-append-add c.piece (front ++ xs) left ∙ ap (λ x. c.piece ++ x) (take-append-le left front xs (omega (arith, l))) in
    let same = ap (λ x. x ++ take left front) c.same ∙ append_assoc old c.piece (take left front) ∙ ap (λ x. old ++ x) (sym cut) in
    subst (λ b. Loads (told_source b) limit old (new ++ take left front) (Ok Longer)) (sym (c.told ∙ ap (prepend_known c.piece) e))
    (omega (arith, c.room, l, length-append c.piece (front ++ xs), length-append front xs), same)

-- a front part stands at a fault, and where memory ran out
pub copied_part : (before now : Option (List ℕ)) (limit left : ℕ) (old new : List ℕ) → Copied before now limit left old new
    → Loads (told_source before) limit old new (Err Failed) × ((cause : AllocError) → Loads (told_source before) limit old new (Err (Memory cause)))
copied_part before now limit left old new c = subst (λ b. Loads (told_source b) limit old new (Err Failed) × ((cause : AllocError) → Loads (told_source b) limit old new (Err (Memory cause)))) (sym c.told) (part now)
  where
    part : (o : Option (List ℕ)) → Loads (told_source (prepend_known c.piece o)) limit old new (Err Failed) × ((cause : AllocError) → Loads (told_source (prepend_known c.piece o)) limit old new (Err (Memory cause)))
    part None = let p = starts old new c.piece c.same in (p, λ cause. p)
    part (Some xs) =
        let n = length c.piece in
        let p = c.same ∙ ap (λ x. old ++ x) (sym (take-append_seam c.piece xs)) in
        ((n, p), λ cause. (n, p))
