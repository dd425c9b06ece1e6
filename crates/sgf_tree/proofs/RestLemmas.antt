-- What the machine reads to the end is in the grammar: from each place, the bytes that are left end the tree.
use Rattle.std.proofs.Common.{ℕ, zero, suc, ◌+◌, ◌-◌, ◌≤◌, ◌≡◌, ◌⊎◌, List, [], ◌∷◌, ◌++◌, arith, refl, inl, inr, sym, ◌∙◌, ap, subst, Bool, true, false, ◌==◌, Some, None, append_assoc, append-nil, if◌then◌else◌}
use Rattle.std.specs.Prelude.{Option}
use Rattle.sgf_tree.specs.Grammar.{PropertyText, opening, closing, semicolon, bracket, backslash, end_bracket, is_white, is_letter, AreWhite, AreLetters, capitals, IsInsideBrackets, end, plain, escaped, Each, none, more, IsValue, value, IsProperty, property, IsNode, node, IsTree, tree, AreTrees, no_trees, trees}
use Rattle.sgf_tree.specs.Reading.{IsSomeTree}
use Rattle.sgf_tree.specs.declared.machine.Kind.{Kind}
use Rattle.sgf_tree.specs.declared.machine.Kind.TheVariants as kind
use Rattle.sgf_tree.specs.declared.machine.Place.{Place}
use Rattle.sgf_tree.specs.declared.machine.Place.TheVariants as at
use Rattle.sgf_tree.specs.declared.machine.Token.{Token}
use Rattle.sgf_tree.specs.declared.machine.Token.TheVariants as token
use Rattle.sgf_tree.specs.inner.Machine.{kind_of, outside, token_at, place_after, depth_after, ReaderState, after, begin}
use Rattle.sgf_tree.proofs.RunLemmas.{stepped, run, run-none, some-is, none-some}

-- bytes of the one and then bytes of the other
abbrev pub Then : (List ℕ → Type 0) → (List ℕ → Type 0) → List ℕ → Type 0
Then P Q bs = (a : List ℕ) × (c : List ℕ) × (bs ≡ a ++ c) × P a × Q c

pub front : (P S Q : List ℕ → Type 0) (b : ℕ) (bs : List ℕ) → ((a : List ℕ) → P a → S (b ∷ a)) → Then P Q bs → Then S Q (b ∷ bs)
front P S Q b bs f (a, c, e, p, q) = (b ∷ a, c, ap (λ x. b ∷ x) e, f a p, q)

pub skip : (P Q : List ℕ → Type 0) (bs : List ℕ) → P [] → Q bs → Then P Q bs
skip P Q bs p q = ([], bs, refl, p, q)

pub join : (P R S Q : List ℕ → Type 0) (bs : List ℕ) → ((a c : List ℕ) → P a → R c → S (a ++ c)) → Then P (Then R Q) bs → Then S Q bs
join P R S Q bs f (a, c, e, p, (a', c', e', r, q)) = (a ++ a', c', e ∙ ap (λ x. a ++ x) e' ∙ sym (append_assoc a a' c'), f a a' p r, q)

abbrev Items : {A : Type 0} → (List ℕ → A → Type 0) → List ℕ → Type 0
Items {A} Is bs = (xs : List A) × Each Is bs xs

abbrev SomeItems : {A : Type 0} → (List ℕ → A → Type 0) → List ℕ → Type 0
SomeItems {A} Is bs = (x : A) × (xs : List A) × Each Is bs (x ∷ xs)

abbrev Values : List ℕ → Type 0
Values = Items IsValue

abbrev SomeValues : List ℕ → Type 0
SomeValues = SomeItems IsValue

abbrev Properties : List ℕ → Type 0
Properties = Items IsProperty

abbrev Nodes : List ℕ → Type 0
Nodes = Items IsNode

abbrev SomeNodes : List ℕ → Type 0
SomeNodes = SomeItems IsNode

-- to the end of a value
abbrev Inside : List ℕ → Type 0
Inside bs = (inside : List ℕ) × (text : List ℕ) × (bs ≡ inside ++ (end_bracket ∷ [])) × IsInsideBrackets inside text

abbrev Escaped : List ℕ → Type 0
Escaped bs = Inside (backslash ∷ bs)

-- to the end of a tree behind its nodes
abbrev Ending : List ℕ → Type 0
Ending bs = (inner : List ℕ) × (white : List ℕ) × (line : List (List PropertyText)) × (bs ≡ inner ++ (white ++ (closing ∷ []))) × AreTrees inner line × AreWhite white

-- to the end of so many trees, each behind its nodes
abbrev pub Up : ℕ → List ℕ → Type 0
Up zero bs = bs ≡ []
Up (suc d) bs = Then Ending (Up d) bs

-- to the end of all, from a place at a depth
abbrev pub Rest : Place → ℕ → List ℕ → Type 0
Rest at.Start zero = λ bs. ⊥
Rest at.Start (suc d) = Then IsSomeTree (Up d)
Rest at.Opened d = Then SomeNodes (Up d)
Rest at.InNode d = Then Properties (Then Nodes (Up d))
Rest at.InIdent d = Then AreLetters (Then SomeValues (Then Properties (Then Nodes (Up d))))
Rest at.AfterIdent d = Then SomeValues (Then Properties (Then Nodes (Up d)))
Rest at.InValue d = Then Inside (Then Values (Then Properties (Then Nodes (Up d))))
Rest at.AfterBackslash d = Then Escaped (Then Values (Then Properties (Then Nodes (Up d))))
Rest at.AfterValue d = Then Values (Then Properties (Then Nodes (Up d)))
Rest at.AfterTree d = Up d
Rest at.Done d = Up d

-- what a byte of a kind is
abbrev pub Says : ℕ → Kind → Type 0
Says b kind.White = is_white b ≡ true
Says b kind.Letter = is_letter b ≡ true
Says b kind.Opening = b ≡ opening
Says b kind.Closing = b ≡ closing
Says b kind.Semicolon = b ≡ semicolon
Says b kind.Bracket = b ≡ bracket
Says b kind.Other = Unit {0}

pub says : (b : ℕ) → Says b (kind_of b)
says b = by_tests (is_white b) (is_letter b) (b == opening) (b == closing) (b == semicolon) (b == bracket) refl refl refl refl refl refl
  where
    by_tests : (w l o c s v : Bool) → is_white b ≡ w → is_letter b ≡ l → (b == opening) ≡ o → (b == closing) ≡ c → (b == semicolon) ≡ s → (b == bracket) ≡ v
        → Says b (if w then kind.White else (if l then kind.Letter else (if o then kind.Opening else (if c then kind.Closing else (if s then kind.Semicolon else (if v then kind.Bracket else kind.Other))))))
    by_tests true l o c s v h1 h2 h3 h4 h5 h6 = h1
    by_tests false true o c s v h1 h2 h3 h4 h5 h6 = h2
    by_tests false false true c s v h1 h2 h3 h4 h5 h6 = grind (arith, h3)
    by_tests false false false true s v h1 h2 h3 h4 h5 h6 = grind (arith, h4)
    by_tests false false false false true v h1 h2 h3 h4 h5 h6 = grind (arith, h5)
    by_tests false false false false false true h1 h2 h3 h4 h5 h6 = grind (arith, h6)
    by_tests false false false false false false h1 h2 h3 h4 h5 h6 = tt

-- white space in front

each_white : {A : Type 0} (Is : List ℕ → A → Type 0) (b : ℕ) (bs : List ℕ) (xs : List A) → is_white b ≡ true → Each Is bs xs → Each Is (b ∷ bs) xs ⊎ ((bs ≡ []) × Each Is [] xs)
each_white Is b _ _ w none = inr (refl, none)
each_white Is b _ _ w (more white first others x xs ws h hs) = inl (more (b ∷ white) first others x xs (w, ws) h hs)

some_white : {A : Type 0} (Is : List ℕ → A → Type 0) (b : ℕ) (bs : List ℕ) (x : A) (xs : List A) → is_white b ≡ true → Each Is bs (x ∷ xs) → Each Is (b ∷ bs) (x ∷ xs)
some_white Is b _ _ _ w (more white first others x xs ws h hs) = more (b ∷ white) first others x xs (w, ws) h hs

white_then : {A : Type 0} (Is : List ℕ → A → Type 0) (Q : List ℕ → Type 0) (b : ℕ) (bs : List ℕ) → is_white b ≡ true → ((c : List ℕ) → Q c → Q (b ∷ c)) → Then (Items Is) Q bs → Then (Items Is) Q (b ∷ bs)
white_then Is Q b bs w f (a, c, e, (xs, h), q) = elim (each_white Is b a xs w h) [
  | inl g ↦ (b ∷ a, c, ap (λ x. b ∷ x) e, (xs, g), q)
  | inr g ↦ ([], b ∷ c, ap (λ x. b ∷ x) (e ∙ ap (λ x. x ++ c) g.0), (xs, g.1), f c q)
]

white_some : {A : Type 0} (Is : List ℕ → A → Type 0) (Q : List ℕ → Type 0) (b : ℕ) (bs : List ℕ) → is_white b ≡ true → Then (SomeItems Is) Q bs → Then (SomeItems Is) Q (b ∷ bs)
white_some Is Q b bs w t = front (SomeItems Is) (SomeItems Is) Q b bs (λ a p. (p.0, p.1, some_white Is b a p.0 p.1 w p.2)) t

ending_white : (b : ℕ) (inner white : List ℕ) (line : List (List PropertyText)) → is_white b ≡ true → AreTrees inner line → AreWhite white → Ending (b ∷ (inner ++ (white ++ (closing ∷ []))))
ending_white b _ white _ w no_trees ws = ([], b ∷ white, [], refl, no_trees, (w, ws))
ending_white b _ white _ w (trees before first others line dropped bf t ts) ws = (b ∷ (before ++ (first ++ others)), white, line, refl, trees (b ∷ before) first others line dropped (w, bf) t ts, ws)

up_white : (d b : ℕ) (bs : List ℕ) → is_white b ≡ true → Up (suc d) bs → Up (suc d) (b ∷ bs)
up_white d b bs w u = front Ending Ending (Up d) b bs (λ a p. subst (λ x. Ending (b ∷ x)) (sym p.3) (ending_white b p.0 p.1 p.2 w p.4 p.5)) u

nodes_white : (d b : ℕ) (bs : List ℕ) → is_white b ≡ true → Then Nodes (Up (suc d)) bs → Then Nodes (Up (suc d)) (b ∷ bs)
nodes_white d b bs w t = white_then IsNode (Up (suc d)) b bs w (λ c. up_white d b c w) t

properties_white : (d b : ℕ) (bs : List ℕ) → is_white b ≡ true → Then Properties (Then Nodes (Up (suc d))) bs → Then Properties (Then Nodes (Up (suc d))) (b ∷ bs)
properties_white d b bs w t = white_then IsProperty (Then Nodes (Up (suc d))) b bs w (λ c. nodes_white d b c w) t

values_white : (d b : ℕ) (bs : List ℕ) → is_white b ≡ true → Rest at.AfterValue (suc d) bs → Rest at.AfterValue (suc d) (b ∷ bs)
values_white d b bs w t = white_then IsValue (Then Properties (Then Nodes (Up (suc d)))) b bs w (λ c. properties_white d b c w) t

-- pieces in front

no_properties : (d : ℕ) (bs : List ℕ) → Then Nodes (Up d) bs → Rest at.InNode d bs
no_properties d bs t = skip Properties (Then Nodes (Up d)) bs ([], none) t

no_values : (d : ℕ) (bs : List ℕ) → Rest at.InNode d bs → Rest at.AfterValue d bs
no_values d bs t = skip Values (Then Properties (Then Nodes (Up d))) bs ([], none) t

no_nodes : (d : ℕ) (bs : List ℕ) → Up d bs → Then Nodes (Up d) bs
no_nodes d bs u = skip Nodes (Up d) bs ([], none) u

-- some items are items
items : {A : Type 0} (Is : List ℕ → A → Type 0) (Q : List ℕ → Type 0) (bs : List ℕ) → Then (SomeItems Is) Q bs → Then (Items Is) Q bs
items Is Q bs (a, c, e, p, q) = (a, c, e, (p.0 ∷ p.1, p.2), q)

close_back : (d : ℕ) (bs : List ℕ) → Up d bs → Up (suc d) (closing ∷ bs)
close_back d bs u = (closing ∷ [], bs, refl, ([], [], [], refl, no_trees, tt), u)

nodes_end : (a c : List ℕ) → SomeNodes a → Ending c → IsSomeTree (opening ∷ (a ++ c))
nodes_end a c n e = ((n.0 ∷ n.1) ++ e.2, subst (λ x. IsTree (opening ∷ (a ++ x)) ((n.0 ∷ n.1) ++ e.2)) (sym e.3) (tree a e.0 e.1 n.0 n.1 e.2 n.2 e.4 e.5))

open_back : (d : ℕ) (bs : List ℕ) → Then SomeNodes (Up (suc d)) bs → Then IsSomeTree (Up d) (opening ∷ bs)
open_back d bs t = front (λ a. IsSomeTree (opening ∷ a)) IsSomeTree (Up d) opening bs (λ a p. p) (join SomeNodes Ending (λ a. IsSomeTree (opening ∷ a)) (Up d) bs nodes_end t)

tree_end : (a c : List ℕ) → IsSomeTree a → Ending c → Ending (a ++ c)
tree_end a c t e = (a ++ e.0, e.1, t.0, ap (λ x. a ++ x) e.3 ∙ sym (append_assoc a e.0 (e.1 ++ (closing ∷ []))), trees [] a e.0 t.0 e.2 tt t.1 e.4, e.5)

inner_back : (d : ℕ) (bs : List ℕ) → Then SomeNodes (Up (suc d + 1)) bs → Up (suc d) (opening ∷ bs)
inner_back d bs t =
    let same : suc d + 1 ≡ suc (suc d) = omega arith in
    join IsSomeTree Ending Ending (Up d) (opening ∷ bs) tree_end (open_back (suc d) bs (subst (λ n. Then SomeNodes (Up n) bs) same t))

node_back : (d : ℕ) (bs : List ℕ) → Rest at.InNode d bs → Then SomeNodes (Up d) (semicolon ∷ bs)
node_back d bs t = front (λ a. SomeNodes (semicolon ∷ a)) SomeNodes (Up d) semicolon bs (λ a p. p)
    (join Properties Nodes (λ a. SomeNodes (semicolon ∷ a)) (Up d) bs (λ a c p n. (p.0, n.0, more [] (semicolon ∷ a) c p.0 n.0 tt (node a p.0 p.1) n.1)) t)

abbrev IsSomeProperty : List ℕ → Type 0
IsSomeProperty a = (x : PropertyText) × IsProperty a x

letter_back : (d b : ℕ) (bs : List ℕ) → is_letter b ≡ true → Rest at.InIdent d bs → Rest at.InNode d (b ∷ bs)
letter_back d b bs l t = front (λ a. Properties (b ∷ a)) Properties (Then Nodes (Up d)) b bs (λ a p. p)
    (join (λ a. IsSomeProperty (b ∷ a)) Properties (λ a. Properties (b ∷ a)) (Then Nodes (Up d)) bs
    (λ a c p ps. (p.0 ∷ ps.0, more [] (b ∷ a) c p.0 ps.0 tt p.1 ps.1))
    (join AreLetters SomeValues (λ a. IsSomeProperty (b ∷ a)) (Then Properties (Then Nodes (Up d))) bs
    (λ a c ls v. (record { name = capitals (b ∷ a); values = v.0 ∷ v.1 }, property b a c v.0 v.1 (l, ls) v.2)) t))

bracket_back : (d : ℕ) (bs : List ℕ) → Rest at.InValue d bs → Rest at.AfterIdent d (bracket ∷ bs)
bracket_back d bs t = front (λ a. SomeValues (bracket ∷ a)) SomeValues (Then Properties (Then Nodes (Up d))) bracket bs (λ a p. p)
    (join Inside Values (λ a. SomeValues (bracket ∷ a)) (Then Properties (Then Nodes (Up d))) bs
    (λ a c i v. (i.1, v.0, more [] (bracket ∷ a) c i.1 v.0 tt (subst (λ x. IsValue (bracket ∷ x) i.1) (sym i.2) (value i.0 i.1 i.3)) v.1)) t)

-- the bytes that are left after a token, if there is one
abbrev RestAfter : Place → ℕ → List ℕ → Option Token → Type 0
RestAfter p d bs None = ⊥
RestAfter p d bs (Some t) = Rest (place_after p t d) (depth_after t d) bs

closed_up : (c : Bool) (d : ℕ) (bs : List ℕ) → Rest (if c then at.Done else at.AfterTree) d bs → Up d bs
closed_up true d bs r = r
closed_up false d bs r = r

closing_back : (d : ℕ) (bs : List ℕ) → Rest (if suc d == 1 then at.Done else at.AfterTree) (suc d - 1) bs → Up (suc d) (closing ∷ bs)
closing_back d bs r =
    let same : suc d - 1 ≡ d = omega arith in
    close_back d bs (subst (λ n. Up n bs) same (closed_up (suc d == 1) (suc d - 1) bs r))

semicolon_in_node : (d : ℕ) (bs : List ℕ) → Rest at.InNode (suc d) bs → Rest at.InNode (suc d) (semicolon ∷ bs)
semicolon_in_node d bs r = (no_properties (suc d) (semicolon ∷ bs) (items IsNode (Up (suc d)) (semicolon ∷ bs) (node_back (suc d) bs r)))

opening_in_node : (d : ℕ) (bs : List ℕ) → Then SomeNodes (Up (suc d + 1)) bs → Rest at.InNode (suc d) (opening ∷ bs)
opening_in_node d bs r = (no_properties (suc d) (opening ∷ bs) (no_nodes (suc d) (opening ∷ bs) (inner_back d bs r)))

closing_in_node : (d : ℕ) (bs : List ℕ) → Rest (if suc d == 1 then at.Done else at.AfterTree) (suc d - 1) bs → Rest at.InNode (suc d) (closing ∷ bs)
closing_in_node d bs r = (no_properties (suc d) (closing ∷ bs) (no_nodes (suc d) (closing ∷ bs) (closing_back d bs r)))

outside_back : (p : Place) (k : Kind) (d b : ℕ) (bs : List ℕ) → Says b k → RestAfter p (suc d) bs (outside p k) → Rest p (suc d) (b ∷ bs)
outside_back at.Start kind.Opening d b bs s r = subst (λ x. Then IsSomeTree (Up d) (x ∷ bs)) (sym s) (open_back d bs r)
outside_back at.Opened kind.White d b bs s r = white_some IsNode (Up (suc d)) b bs s r
outside_back at.Opened kind.Semicolon d b bs s r = subst (λ x. Rest at.Opened (suc d) (x ∷ bs)) (sym s) (node_back (suc d) bs r)
outside_back at.InNode kind.White d b bs s r = properties_white d b bs s r
outside_back at.InNode kind.Letter d b bs s r = letter_back (suc d) b bs s r
outside_back at.InNode kind.Semicolon d b bs s r = subst (λ x. Rest at.InNode (suc d) (x ∷ bs)) (sym s) (semicolon_in_node d bs r)
outside_back at.InNode kind.Opening d b bs s r = subst (λ x. Rest at.InNode (suc d) (x ∷ bs)) (sym s) (opening_in_node d bs r)
outside_back at.InNode kind.Closing d b bs s r = subst (λ x. Rest at.InNode (suc d) (x ∷ bs)) (sym s) (closing_in_node d bs r)
outside_back at.InIdent kind.White d b bs s r = skip AreLetters (Rest at.AfterIdent (suc d)) (b ∷ bs) tt (white_some IsValue (Then Properties (Then Nodes (Up (suc d)))) b bs s r)
outside_back at.InIdent kind.Letter d b bs s r = front AreLetters AreLetters (Rest at.AfterIdent (suc d)) b bs (λ a p. (s, p)) r
outside_back at.InIdent kind.Bracket d b bs s r = skip AreLetters (Rest at.AfterIdent (suc d)) (b ∷ bs) tt (subst (λ x. Rest at.AfterIdent (suc d) (x ∷ bs)) (sym s) (bracket_back (suc d) bs r))
outside_back at.AfterIdent kind.White d b bs s r = white_some IsValue (Then Properties (Then Nodes (Up (suc d)))) b bs s r
outside_back at.AfterIdent kind.Bracket d b bs s r = subst (λ x. Rest at.AfterIdent (suc d) (x ∷ bs)) (sym s) (bracket_back (suc d) bs r)
outside_back at.AfterValue kind.White d b bs s r = values_white d b bs s r
outside_back at.AfterValue kind.Letter d b bs s r = no_values (suc d) (b ∷ bs) (letter_back (suc d) b bs s r)
outside_back at.AfterValue kind.Bracket d b bs s r = subst (λ x. Rest at.AfterValue (suc d) (x ∷ bs)) (sym s) (items IsValue (Then Properties (Then Nodes (Up (suc d)))) (bracket ∷ bs) (bracket_back (suc d) bs r))
outside_back at.AfterValue kind.Semicolon d b bs s r = no_values (suc d) (b ∷ bs) (subst (λ x. Rest at.InNode (suc d) (x ∷ bs)) (sym s) (semicolon_in_node d bs r))
outside_back at.AfterValue kind.Opening d b bs s r = no_values (suc d) (b ∷ bs) (subst (λ x. Rest at.InNode (suc d) (x ∷ bs)) (sym s) (opening_in_node d bs r))
outside_back at.AfterValue kind.Closing d b bs s r = no_values (suc d) (b ∷ bs) (subst (λ x. Rest at.InNode (suc d) (x ∷ bs)) (sym s) (closing_in_node d bs r))
outside_back at.AfterTree kind.White d b bs s r = up_white d b bs s r
outside_back at.AfterTree kind.Opening d b bs s r = subst (λ x. Up (suc d) (x ∷ bs)) (sym s) (inner_back d bs r)
outside_back at.AfterTree kind.Closing d b bs s r = subst (λ x. Up (suc d) (x ∷ bs)) (sym s) (closing_back d bs r)
outside_back p k d b bs s r = absurd r

inside_back : (d b : ℕ) (bs : List ℕ) (e s : Bool) → (b == end_bracket) ≡ e → (b == backslash) ≡ s
    → RestAfter at.InValue (suc d) bs (Some (if e then token.ValueEnd else (if s then token.Backslash else token.Text))) → Rest at.InValue (suc d) (b ∷ bs)
inside_back d b bs true s h g r =
    let same : b ≡ end_bracket = grind (arith, h) in
    (b ∷ [], bs, refl, ([], [], ap (λ x. x ∷ []) same, end), r)
inside_back d b bs false true h g r =
    let same : b ≡ backslash = grind (arith, g) in
    subst (λ x. Rest at.InValue (suc d) (x ∷ bs)) (sym same) (front Escaped Inside (Rest at.AfterValue (suc d)) backslash bs (λ a p. p) r)
inside_back d b bs false false h g r =
    front Inside Inside (Rest at.AfterValue (suc d)) b bs (λ a p. (b ∷ p.0, b ∷ p.1, ap (λ x. b ∷ x) p.2, plain b p.0 p.1 (λ q. grind (arith, h, q)) (λ q. grind (arith, g, q)) p.3)) r

-- one byte in front
pub byte_back : (p : Place) (d b : ℕ) (bs : List ℕ) → RestAfter p (suc d) bs (token_at p b) → Rest p (suc d) (b ∷ bs)
byte_back at.InValue d b bs r = inside_back d b bs (b == end_bracket) (b == backslash) refl refl r
byte_back at.AfterBackslash d b bs r =
    front Inside Escaped (Rest at.AfterValue (suc d)) b bs (λ a p. (backslash ∷ b ∷ p.0, b ∷ p.1, ap (λ x. backslash ∷ b ∷ x) p.2, escaped b p.0 p.1 p.3)) r
byte_back at.Start d b bs r = outside_back at.Start (kind_of b) d b bs (says b) r
byte_back at.Opened d b bs r = outside_back at.Opened (kind_of b) d b bs (says b) r
byte_back at.InNode d b bs r = outside_back at.InNode (kind_of b) d b bs (says b) r
byte_back at.InIdent d b bs r = outside_back at.InIdent (kind_of b) d b bs (says b) r
byte_back at.AfterIdent d b bs r = outside_back at.AfterIdent (kind_of b) d b bs (says b) r
byte_back at.AfterValue d b bs r = outside_back at.AfterValue (kind_of b) d b bs (says b) r
byte_back at.AfterTree d b bs r = outside_back at.AfterTree (kind_of b) d b bs (says b) r
byte_back at.Done d b bs r = outside_back at.Done (kind_of b) d b bs (says b) r

-- no tree is open at the end, and one at least before it
abbrev pub IsSound : Place → ℕ → Type 0
IsSound at.Done d = d ≡ 0
IsSound p d = 1 ≤ d

pub some_open : (p : Place) (d b : ℕ) (t : Token) → token_at p b ≡ Some t → IsSound p d → 1 ≤ d
some_open at.Done d b t e s = absurd (none-some (sym (nothing (kind_of b)) ∙ e))
  where
    nothing : (k : Kind) → outside at.Done k ≡ None
    nothing kind.Opening = refl
    nothing k = refl
some_open at.Start d b t e s = s
some_open at.Opened d b t e s = s
some_open at.InNode d b t e s = s
some_open at.InIdent d b t e s = s
some_open at.AfterIdent d b t e s = s
some_open at.InValue d b t e s = s
some_open at.AfterBackslash d b t e s = s
some_open at.AfterValue d b t e s = s
some_open at.AfterTree d b t e s = s

pub sound_after : (p : Place) (d : ℕ) (t : Token) → IsSound p d → 1 ≤ d → IsSound (place_after p t d) (depth_after t d)
sound_after p d token.White s h = s
sound_after p d token.Begin s h = h
sound_after p d token.Open s h = omega (arith, h)
sound_after p d token.Node s h = h
sound_after p d token.Letter s h = h
sound_after p d token.IdentEnd s h = h
sound_after p d token.ValueStart s h = h
sound_after p d token.Text s h = h
sound_after p d token.Backslash s h = h
sound_after p d token.ValueEnd s h = h
sound_after p d token.Close s h = by_last (d == 1) refl
  where
    by_last : (c : Bool) → (d == 1) ≡ c → IsSound (if c then at.Done else at.AfterTree) (d - 1)
    by_last true e = grind (arith, e)
    by_last false e = grind (arith, e, h)

at_end : (p : Place) (d : ℕ) → IsSound p d → p ≡ at.Done → Rest p d []
at_end p d s e = subst (λ x. IsSound x d → Rest x d []) (sym e) (λ z. subst (λ n. Up n []) (sym z) refl) s

pub pred_at : (d : ℕ) → 1 ≤ d → (n : ℕ) × (d ≡ suc n)
pred_at zero h = absurd (omega (arith, h))
pred_at (suc n) h = (n, refl)

pub rest_run : (bs : List ℕ) (s t : ReaderState) → IsSound s.place s.depth → run (Some s) bs ≡ Some t → t.place ≡ at.Done → Rest s.place s.depth bs
rest_run [] s t h e d = at_end s.place s.depth h (ap (λ x. x.place) (some-is e) ∙ d)
rest_run (b ∷ bs) s t h e d = by_token (λ m i f. rest_run bs m t i f d) (token_at s.place b) refl
  where
    by_token : ((m : ReaderState) → IsSound m.place m.depth → run (Some m) bs ≡ Some t → Rest m.place m.depth bs) → (o : Option Token) → token_at s.place b ≡ o → Rest s.place s.depth (b ∷ bs)
    by_token go None f = absurd (none-some (sym (run-none bs) ∙ sym (ap (λ o. run (stepped s b o) bs) f) ∙ e))
    by_token go (Some k) f =
        let least = some_open s.place s.depth b k f h in
        let r = go (after s k b) (sound_after s.place s.depth k h least) (sym (ap (λ o. run (stepped s b o) bs) f) ∙ e) in
        let n = pred_at s.depth least in
        subst (λ x. Rest s.place x (b ∷ bs)) (sym n.1) (byte_back s.place n.0 b bs (subst (λ x. RestAfter s.place x bs (token_at s.place b)) n.1 (subst (λ o. RestAfter s.place s.depth bs o) (sym f) r)))

append_none : (a c : List ℕ) → c ≡ [] → a ++ c ≡ a
append_none a c e = ap (λ x. a ++ x) e ∙ append-nil a

-- what is read to the end is a tree
pub run_tree : (bs : List ℕ) (t : ReaderState) → run (Some begin) bs ≡ Some t → t.place ≡ at.Done → IsSomeTree bs
run_tree bs t e d =
    let r = rest_run bs begin t (omega arith) e d in
    subst IsSomeTree (sym (r.2 ∙ append_none r.0 r.1 r.4)) r.3
