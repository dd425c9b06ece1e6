-- The points that values name are gathered one value after the other.
use Rattle.std.proofs.Common.{ℕ, zero, suc, ◌+◌, ◌*◌, ◌/◌, ◌<◌, ◌≤◌, ◌≡◌, ◌≢◌, ◌⊎◌, ◌↔◌, List, [], ◌∷◌, length, drop, get_or, arith, refl, sym, inl, inr, subst, Bool, true, false, Some}
use Rattle.std.specs.Prelude.{Any, map}
use Rattle.std.specs.Bool.{OnTrue, OnFalse}
use Rattle.std.specs.Str.{bytes_eq}
use Rattle.std.specs.Option.{option_map}
use Rattle.std.proofs.lemmas.List.{drop_more, drop_all}
use Rattle.std.proofs.Math.Nat.{div-lt_iff_lt-mul}
use Rattle.go_grid.specs.declared.grid.Colour.{Colour}
use Rattle.go_grid.specs.declared.grid.Colour.TheVariants.{Black, White}
use Rattle.go_grid.specs.declared.grid.Size.{Size}
use Rattle.go_grid.specs.Board.{Board, HasStone}
use Rattle.go_grid.specs.Marks.{IsMarked, Marks}
use Rattle.sgf_tree.specs.Grammar.{PropertyText}
use Rattle.sgf_tree.specs.Reading.{property_text}
use Rattle.sgf_tree.specs.declared.tree.Property.{Property}
use Rattle.sgf_go.specs.Values.{Rectangle, Says, IsArea, point, corners, colon, IsInRectangle, trimmed}
use Rattle.sgf_go.specs.inner.Reading.{rectangle}
use Rattle.sgf_go.specs.declared.values.Area.{Area}
use Rattle.sgf_go.specs.declared.marks.MarkedPoints.{MarkedPoints}
use Rattle.sgf_go.specs.Territory.{Names, NamesNothing, HasValue, HasBadMark, IsMarkedFor, mark_name}
use Rattle.sgf_go.specs.inner.Territory.{Adds, AddsAll, AreMarked}
use Rattle.sgf_go.proofs.OnePositionLemmas.{one_area}

pub any_none : {A : Type 0} (P : A → Type 0) → ¬ Any P []
any_none P (k, x, lt, is, p) = omega (arith, lt)

pub any_here : {A : Type 0} (P : A → Type 0) (x : A) (xs : List A) → P x → Any P (x ∷ xs)
any_here P x xs p = (0, x, omega arith, refl, p)

pub any_there : {A : Type 0} (P : A → Type 0) (x : A) (xs : List A) → Any P xs → Any P (x ∷ xs)
any_there P x xs (k, y, lt, is, p) = (suc k, y, omega (arith, lt), is, p)

pub any_cases : {A : Type 0} (P : A → Type 0) (x : A) (xs : List A) → Any P (x ∷ xs) → P x ⊎ Any P xs
any_cases P x xs (zero, y, lt, is, p) = inl (subst P (sym is) p)
any_cases P x xs (suc k, y, lt, is, p) = inr (k, y, omega (arith, lt), is, p)

pub any_map : {A B : Type 0} (P : B → Type 0) (f : A → B) (xs : List A) → Any (λ x. P (f x)) xs → Any P (map f xs)
any_map P f [] h = absurd (any_none (λ x. P (f x)) h)
any_map P f (x ∷ xs) h = elim (any_cases (λ y. P (f y)) x xs h) [
  | inl p ↦ any_here P (f x) (map f xs) p
  | inr more ↦ any_there P (f x) (map f xs) (any_map P f xs more)
]

pub any_from_map : {A B : Type 0} (P : B → Type 0) (f : A → B) (xs : List A) → Any P (map f xs) → Any (λ x. P (f x)) xs
any_from_map P f [] h = absurd (any_none P h)
any_from_map P f (x ∷ xs) h = elim (any_cases P (f x) (map f xs) h) [
  | inl p ↦ any_here (λ y. P (f y)) x xs p
  | inr more ↦ any_there (λ y. P (f y)) x xs (any_from_map P f xs more)
]

-- the loop over a list, by what is left of it
pub record Gathers {A : Type 0} (Has : ℕ → A → Type 0) (Bad : A → Type 0) (xs : List A) (before : List Bool) (i : ℕ) (now : List Bool) : Type 0 where
  pub marks : (p : ℕ) → (IsMarked now p ⊎ Any (Has p) (drop i xs)) ↔ (IsMarked before p ⊎ Any (Has p) xs)
  pub bad : Any Bad xs → Any Bad (drop i xs)
  pub found : Any Bad (drop i xs) → Any Bad xs

pub gathers_start : {A : Type 0} (Has : ℕ → A → Type 0) (Bad : A → Type 0) (xs : List A) (before : List Bool) → Gathers Has Bad xs before 0 before
gathers_start Has Bad xs before = record { marks = λ p. (λ h. h, λ h. h); bad = λ h. h; found = λ h. h }

module _ {A : Type 0} (Has : ℕ → A → Type 0) (Bad : A → Type 0) (xs : List A) (before : List Bool) (i : ℕ) (d : A) (old : List Bool) (lt : i < length xs) (so : Gathers Has Bad xs before i old) where
  split : (P : A → Type 0) → Any P (drop i xs) → P (get_or xs i d) ⊎ Any P (drop (i + 1) xs)
  split P h = any_cases P (get_or xs i d) (drop (i + 1) xs) (subst (Any P) (drop_more xs i d lt) h)

  first : (P : A → Type 0) → P (get_or xs i d) → Any P (drop i xs)
  first P p = subst (Any P) (sym (drop_more xs i d lt)) (any_here P (get_or xs i d) (drop (i + 1) xs) p)

  later : (P : A → Type 0) → Any P (drop (i + 1) xs) → Any P (drop i xs)
  later P h = subst (Any P) (sym (drop_more xs i d lt)) (any_there P (get_or xs i d) (drop (i + 1) xs) h)

  pub gathers_step : (new : List Bool) → Adds Has Bad (get_or xs i d) old new → Gathers Has Bad xs before (i + 1) new
  gathers_step new more = record {
    marks = λ p. (
      λ h. elim h as (λ _. IsMarked before p ⊎ Any (Has p) xs) [
        | inl m ↦ (so.marks p).0 (elim ((more.marks p).0 m) as (λ _. IsMarked old p ⊎ Any (Has p) (drop i xs)) [ inl o ↦ inl o | inr n ↦ inr (first (Has p) n) ])
        | inr l ↦ (so.marks p).0 (inr (later (Has p) l))
      ],
      λ h. elim ((so.marks p).1 h) as (λ _. IsMarked new p ⊎ Any (Has p) (drop (i + 1) xs)) [
        | inl o ↦ inl ((more.marks p).1 (inl o))
        | inr l ↦ elim (split (Has p) l) as (λ _. IsMarked new p ⊎ Any (Has p) (drop (i + 1) xs)) [ inl n ↦ inl ((more.marks p).1 (inr n)) | inr r ↦ inr r ]
      ],
    );
    bad = λ h. elim (split Bad (so.bad h)) as (λ _. Any Bad (drop (i + 1) xs)) [ inl b ↦ absurd (more.good b) | inr r ↦ r ];
    found = λ h. so.found (later Bad h);
  }

  pub gathers_bad : Bad (get_or xs i d) → Any Bad xs
  gathers_bad b = so.found (first Bad b)

pub gathers_end : {A : Type 0} (Has : ℕ → A → Type 0) (Bad : A → Type 0) (xs : List A) (before : List Bool) (i : ℕ) (old : List Bool) → length xs ≤ i → Gathers Has Bad xs before i old
    → AddsAll Has Bad xs before old
gathers_end {A} Has Bad xs before i old le so = record {
  marks = λ p. (
    λ m. (so.marks p).0 (inl m),
    λ h. elim ((so.marks p).1 h) as (λ _. IsMarked old p) [ inl m ↦ m | inr l ↦ absurd (none (Has p) l) ],
  );
  good = λ h. none Bad (so.bad h);
}
  where
    none : (P : A → Type 0) → ¬ Any P (drop i xs)
    none P h = any_none P (subst (Any P) (drop_all i xs le) h)

-- what is added by an item's text
pub adds_through : {A B : Type 0} (Has : ℕ → B → Type 0) (Bad : B → Type 0) (f : A → B) (x : A) (old new : List Bool) → Adds Has Bad (f x) old new
    → Adds (λ p y. Has p (f y)) (λ y. Bad (f y)) x old new
adds_through Has Bad f x old new a = record { marks = a.marks; good = a.good }

-- a value
pub area_within : (size : Size) (area : Area) (p : ℕ) → area.bottom < size.rows → IsInRectangle size.columns (rectangle area) p → 1 ≤ size.columns → p < size.columns * size.rows
area_within size area p b i some =
    let row : p / size.columns < size.rows = omega (arith, i.bottom, b) in
    below size.columns size.rows p some row
  where
    below : (columns rows p : ℕ) → 1 ≤ columns → p / columns < rows → p < columns * rows
    below columns rows p some row = let h : p < rows * columns = (div-lt_iff_lt-mul some).0 row in omega (arith, h)

no_area : (columns rows : ℕ) (r : Rectangle) → ¬ IsArea columns rows [] r
no_area columns rows _ (point p n) = absurd (empty n.spelt)
  where
    empty : {x : ℕ} {xs : List ℕ} → [] ≡ x ∷ xs → ⊥
    empty e = cc
no_area columns rows _ (corners p q n e m) = let bad : 0 ≡ colon = e in omega (arith, bad)

pub adds_nothing : (g : Board) (text : List ℕ) (marks : List Bool) → text ≡ [] → Adds (Names g) (NamesNothing g) text marks marks
adds_nothing g text marks e = record {
  marks = λ p. (inl, λ h. elim h as (λ _. IsMarked marks p) [ inl m ↦ m | inr n ↦ absurd (nothing p n) ]);
  good = λ bad. bad.0 e;
}
  where
    nothing : (p : ℕ) → ¬ Names g p text
    nothing p (r, is, inside) = no_area g.columns g.rows r (subst (λ t. IsArea g.columns g.rows t r) e is)

pub adds_area : (g : Board) (text : List ℕ) (area : Area) (old points new : List Bool) → text ≢ [] → Says (IsArea g.columns g.rows text) (option_map rectangle (Some area))
    → Marks points (IsInRectangle g.columns (rectangle area)) → Marks new (λ p. IsMarked old p ⊎ IsMarked points p) → Adds (Names g) (NamesNothing g) text old new
adds_area g text area old points new some says are both = record {
  marks = λ p. (
    λ m. elim ((both p).0 m) as (λ _. IsMarked old p ⊎ Names g p text) [ inl o ↦ inl o | inr i ↦ inr (rectangle area, says, (are p).0 i) ],
    λ h. (both p).1 (elim h as (λ _. IsMarked old p ⊎ IsMarked points p) [
      | inl o ↦ inl o
      | inr (r, is, inside) ↦ inr ((are p).1 (subst (λ x. IsInRectangle g.columns x p) (one_area g.columns g.rows text r (rectangle area) is says) inside))
    ]),
  );
  good = λ bad. bad.1 (rectangle area) says;
}

pub names_nothing : (g : Board) (text : List ℕ) → text ≢ [] → ((r : Rectangle) → ¬ IsArea g.columns g.rows text r) → NamesNothing g text
names_nothing g text some none = (some, none)

-- a property
pub adds_unnamed : (g : Board) (name : List ℕ) (p : PropertyText) (marks : List Bool) → bytes_eq p.name name ≡ false
    → Adds (λ q. HasValue name (Names g q)) (HasValue name (NamesNothing g)) p marks marks
adds_unnamed g name p marks e = record {
  marks = λ q. (inl, λ h. elim h as (λ _. IsMarked marks q) [ inl m ↦ m | inr n ↦ absurd (no n.0) ]);
  good = λ bad. no bad.0;
}
  where
    no : ¬ (bytes_eq p.name name ≡ true)
    no t = cc

pub adds_values : (g : Board) (name : List ℕ) (p : Property) (old new : List Bool) → bytes_eq p.name.items name ≡ true
    → AddsAll (λ q v. Names g q (trimmed v.items)) (λ v. NamesNothing g (trimmed v.items)) p.values.items old new
    → Adds (λ q. HasValue name (Names g q)) (HasValue name (NamesNothing g)) (property_text p) old new
adds_values g name p old new e all = record {
  marks = λ q. (
    λ m. elim ((all.marks q).0 m) as (λ _. IsMarked old q ⊎ HasValue name (Names g q) (property_text p)) [
      | inl o ↦ inl o
      | inr n ↦ inr (e, any_map (λ v. Names g q (trimmed v)) (λ v. v.items) p.values.items n)
    ],
    λ h. (all.marks q).1 (elim h as (λ _. IsMarked old q ⊎ Any (λ v. Names g q (trimmed v.items)) p.values.items) [
      | inl o ↦ inl o
      | inr n ↦ inr (any_from_map (λ v. Names g q (trimmed v)) (λ v. v.items) p.values.items n.1)
    ]),
  );
  good = λ bad. all.good (any_from_map (λ v. NamesNothing g (trimmed v)) (λ v. v.items) p.values.items bad.1);
}

pub bad_values : (g : Board) (name : List ℕ) (p : Property) → bytes_eq p.name.items name ≡ true → Any (λ v. NamesNothing g (trimmed v.items)) p.values.items
    → HasValue name (NamesNothing g) (property_text p)
bad_values g name p e bad = (e, any_map (λ v. NamesNothing g (trimmed v)) (λ v. v.items) p.values.items bad)

-- the properties of a node
pub points_named : (g : Board) (name : List ℕ) (ps : List Property) (none points : List Bool) → Marks none (λ _. ⊥)
    → AddsAll (λ p x. HasValue name (Names g p) (property_text x)) (λ x. HasValue name (NamesNothing g) (property_text x)) ps none points
    → Marks points (λ p. Any (HasValue name (Names g p)) (map property_text ps))
points_named g name ps none points empty all p = (
  λ m. elim ((all.marks p).0 m) as (λ _. Any (HasValue name (Names g p)) (map property_text ps)) [
    | inl o ↦ absurd ((empty p).0 o)
    | inr n ↦ any_map (HasValue name (Names g p)) property_text ps n
  ],
  λ h. (all.marks p).1 (inr (any_from_map (HasValue name (Names g p)) property_text ps h)),
)

pub all_good : (g : Board) (name : List ℕ) (ps : List Property) (none points : List Bool)
    → AddsAll (λ p x. HasValue name (Names g p) (property_text x)) (λ x. HasValue name (NamesNothing g) (property_text x)) ps none points
    → ¬ Any (HasValue name (NamesNothing g)) (map property_text ps)
all_good g name ps none points all bad = all.good (any_from_map (HasValue name (NamesNothing g)) property_text ps bad)

pub some_bad : (g : Board) (name : List ℕ) (ps : List Property) → Any (λ x. HasValue name (NamesNothing g) (property_text x)) ps
    → Any (HasValue name (NamesNothing g)) (map property_text ps)
some_bad g name ps bad = any_map (HasValue name (NamesNothing g)) property_text ps bad

-- the points that both colours' properties name, without their own stones
abbrev Named : List PropertyText → Board → Colour → ℕ → Type 0
Named ps g c p = Any (HasValue (mark_name c) (Names g p)) ps

without : (ps : List PropertyText) (g : Board) (c : Colour) (named points : List Bool) → Marks named (Named ps g c)
    → Marks points (λ p. (p < length g.cells) × IsMarked named p × ¬ HasStone g c p) → Marks points (IsMarkedFor ps g c)
without ps g c named points are kept p = (
  λ m. let w = (kept p).0 m in (w.0, (are p).0 w.1, w.2),
  λ h. (kept p).1 (h.0, (are p).1 h.1, h.2),
)

pub marked_both : (ps : List PropertyText) (g : Board) (black white : List Bool) (m : MarkedPoints) → Marks black (Named ps g Black) → Marks white (Named ps g White)
    → Marks m.black (λ p. (p < length g.cells) × IsMarked black p × ¬ HasStone g Black p)
    → Marks m.white (λ p. (p < length g.cells) × IsMarked white p × ¬ HasStone g White p) → AreMarked ps g m
marked_both ps g black white m b w x y Black = without ps g Black black m.black b x
marked_both ps g black white m b w x y White = without ps g White white m.white w y

pub good_both : (ps : List PropertyText) (g : Board) → ¬ Any (HasValue (mark_name Black) (NamesNothing g)) ps → ¬ Any (HasValue (mark_name White) (NamesNothing g)) ps → ¬ HasBadMark ps g
good_both ps g b w (Black, bad) = b bad
good_both ps g b w (White, bad) = w bad

-- what follows where an answer is true, or false
pub on_true : (b : Bool) (P Q : Type 0) → (P → Q) → OnTrue b P → OnTrue b Q
on_true true P Q to h = to h
on_true false P Q to h = tt

pub on_false : (b : Bool) (P Q : Type 0) → (P → Q) → OnFalse b P → OnFalse b Q
on_false true P Q to h = tt
on_false false P Q to h = to h
