-- What the grammar writes, the machine reads.
use Rattle.std.proofs.Common.{ℕ, ◌+◌, ◌-◌, ◌≤◌, ◌≡◌, ◌≢◌, List, [], ◌∷◌, ◌++◌, arith, refl, sym, ◌∙◌, ap, ap₂, subst, Bool, true, false, ◌&&◌, ◌==◌, Some, None, append_assoc, append-nil, if◌then◌else◌}
use Rattle.std.specs.Prelude.{Option}
use Rattle.sgf_tree.specs.Grammar.{PropertyText, opening, closing, semicolon, bracket, backslash, end_bracket, is_white, is_capital, is_letter, AreWhite, AreLetters, capitals, IsInsideBrackets, end, plain, escaped, Each, none, more, IsValue, value, IsProperty, property, IsNode, node, IsTree, tree, AreTrees, no_trees, trees}
use Rattle.sgf_tree.specs.declared.machine.Kind.{Kind}
use Rattle.sgf_tree.specs.declared.machine.Kind.TheVariants as kind
use Rattle.sgf_tree.specs.declared.machine.Place.{Place}
use Rattle.sgf_tree.specs.declared.machine.Place.TheVariants as at
use Rattle.sgf_tree.specs.declared.machine.Token.{Token}
use Rattle.sgf_tree.specs.declared.machine.Token.TheVariants as token
use Rattle.sgf_tree.specs.inner.Machine.{punctuation, kind_of, outside, inside, token_at, Parts, ReaderState, after, begin}

abbrev pub stepped : ReaderState → ℕ → Option Token → Option ReaderState
stepped s b None = None
stepped s b (Some t) = Some (after s t b)

abbrev pub step : Option ReaderState → ℕ → Option ReaderState
step None b = None
step (Some s) b = stepped s b (token_at s.place b)

abbrev pub run : Option ReaderState → List ℕ → Option ReaderState
run o [] = o
run o (b ∷ bs) = run (step o b) bs

pub run-append : (o : Option ReaderState) (xs ys : List ℕ) → run o (xs ++ ys) ≡ run (run o xs) ys
run-append o [] ys = refl
run-append o (x ∷ xs) ys = run-append (step o x) xs ys

-- one piece after the other
pub then_run : (s m : ReaderState) (r : Option ReaderState) (xs ys : List ℕ) → run (Some s) xs ≡ Some m → run (Some m) ys ≡ r → run (Some s) (xs ++ ys) ≡ r
then_run s m r xs ys p q = run-append (Some s) xs ys ∙ ap (λ o. run o ys) p ∙ q

-- one byte more
pub byte_run : (s m : ReaderState) (r : Option ReaderState) (b : ℕ) (ys : List ℕ) → step (Some s) b ≡ Some m → run (Some m) ys ≡ r → run (Some s) (b ∷ ys) ≡ r
byte_run s m r b ys p q = ap (λ o. run o ys) p ∙ q

pub token_step : (s : ReaderState) (b : ℕ) (t : Token) → token_at s.place b ≡ Some t → step (Some s) b ≡ Some (after s t b)
token_step s b t e = ap (stepped s b) e

pub token_run : (s : ReaderState) (r : Option ReaderState) (b : ℕ) (t : Token) (ys : List ℕ) → token_at s.place b ≡ Some t → run (Some (after s t b)) ys ≡ r → run (Some s) (b ∷ ys) ≡ r
token_run s r b t ys p q = byte_run s (after s t b) r b ys (token_step s b t p) q

pub kind-white : (b : ℕ) → is_white b ≡ true → kind_of b ≡ kind.White
kind-white b e = ap (λ w. if w then kind.White else (if is_letter b then kind.Letter else punctuation b)) e

not_white : (b : ℕ) → is_letter b ≡ true → is_white b ≡ false
not_white b e = grind (arith, e)

pub kind-letter : (b : ℕ) → is_letter b ≡ true → kind_of b ≡ kind.Letter
kind-letter b e = ap (λ w. if w then kind.White else (if is_letter b then kind.Letter else punctuation b)) (not_white b e) ∙ ap (λ w. if w then kind.Letter else punctuation b) e

-- a state before the main line is at its end
abbrev pub st : Place → ℕ → Parts → ReaderState
st p d q = record { place = p; depth = d; on_main = true; parts = q }

abbrev pub parts : List (List PropertyText) → List PropertyText → List ℕ → List (List ℕ) → List ℕ → Parts
parts ns ps n vs t = record { nodes = ns; properties = ps; name = n; values = vs; text = t }

-- places where white space is passed over
pub data Passes : Place → Type 0 where
  opened : Passes at.Opened
  in_node : Passes at.InNode
  after_ident : Passes at.AfterIdent
  after_value : Passes at.AfterValue
  after_tree : Passes at.AfterTree

passes : (p : Place) (k : Kind) → Passes p → k ≡ kind.White → outside p k ≡ Some token.White
passes _ k opened e = ap (outside at.Opened) e
passes _ k in_node e = ap (outside at.InNode) e
passes _ k after_ident e = ap (outside at.AfterIdent) e
passes _ k after_value e = ap (outside at.AfterValue) e
passes _ k after_tree e = ap (outside at.AfterTree) e

token_passes : (p : Place) (b : ℕ) → Passes p → is_white b ≡ true → token_at p b ≡ Some token.White
token_passes _ b opened e = passes _ _ opened (kind-white b e)
token_passes _ b in_node e = passes _ _ in_node (kind-white b e)
token_passes _ b after_ident e = passes _ _ after_ident (kind-white b e)
token_passes _ b after_value e = passes _ _ after_value (kind-white b e)
token_passes _ b after_tree e = passes _ _ after_tree (kind-white b e)

keeps_main : (m : Bool) → (m && true) ≡ m
keeps_main true = refl
keeps_main false = refl

keeps_parts : (m : Bool) (q : Parts) → (if m then q else q) ≡ q
keeps_parts true q = refl
keeps_parts false q = refl

white_after : (s : ReaderState) (b : ℕ) → after s token.White b ≡ s
white_after s b = ap₂ (λ m q. record { place = s.place; depth = s.depth; on_main = m; parts = q }) (keeps_main s.on_main) (keeps_parts s.on_main s.parts)

pub white_run : (s : ReaderState) (bs : List ℕ) → Passes s.place → AreWhite bs → run (Some s) bs ≡ Some s
white_run s [] p a = refl
white_run s (b ∷ bs) p a = byte_run s s _ b bs (token_step s b token.White (token_passes s.place b p a.0) ∙ ap Some (white_after s b)) (white_run s bs p a.1)

inside_plain : (b : ℕ) → b ≢ end_bracket → b ≢ backslash → inside b ≡ token.Text
inside_plain b p q = grind (arith, p, q)

pub inside_run : (bytes text : List ℕ) → IsInsideBrackets bytes text → (d : ℕ) (ns : List (List PropertyText)) (ps : List PropertyText) (n : List ℕ) (vs : List (List ℕ)) (t : List ℕ)
    → run (Some (st at.InValue d (parts ns ps n vs t))) bytes ≡ Some (st at.InValue d (parts ns ps n vs (t ++ text)))
inside_run _ _ end d ns ps n vs t = ap (λ x. Some (st at.InValue d (parts ns ps n vs x))) (sym (append-nil t))
inside_run _ _ (plain b bytes text p q h) d ns ps n vs t = token_run (st at.InValue d (parts ns ps n vs t)) _ b token.Text bytes (ap Some (inside_plain b p q))
    (inside_run bytes text h d ns ps n vs (t ++ (b ∷ [])) ∙ ap (λ x. Some (st at.InValue d (parts ns ps n vs x))) (append_assoc t (b ∷ []) text))
inside_run _ _ (escaped b bytes text h) d ns ps n vs t =
    inside_run bytes text h d ns ps n vs (t ++ (b ∷ [])) ∙ ap (λ x. Some (st at.InValue d (parts ns ps n vs x))) (append_assoc t (b ∷ []) text)

-- places where a value may follow
pub data Awaits : Place → Type 0 where
  in_ident : Awaits at.InIdent
  after_ident : Awaits at.AfterIdent
  after_value : Awaits at.AfterValue

bracket_step : (p : Place) → Awaits p → token_at p bracket ≡ Some token.ValueStart
bracket_step _ in_ident = refl
bracket_step _ after_ident = refl
bracket_step _ after_value = refl

-- white space before a value
pub white_awaits : (p : Place) (bs : List ℕ) → Awaits p → AreWhite bs → (d : ℕ) (q : Parts)
    → (m : Place) × Awaits m × (run (Some (st p d q)) bs ≡ Some (st m d q))
white_awaits p [] w a d q = (p, w, refl)
white_awaits _ (b ∷ bs) in_ident a d q =
    (at.AfterIdent, after_ident, token_run (st at.InIdent d q) _ b token.IdentEnd bs (ap (outside at.InIdent) (kind-white b a.0)) (white_run (st at.AfterIdent d q) bs after_ident a.1))
white_awaits _ (b ∷ bs) after_ident a d q = (at.AfterIdent, after_ident, white_run (st at.AfterIdent d q) (b ∷ bs) after_ident a)
white_awaits _ (b ∷ bs) after_value a d q = (at.AfterValue, after_value, white_run (st at.AfterValue d q) (b ∷ bs) after_value a)

pub value_run : (p : Place) (bytes text : List ℕ) → Awaits p → IsValue bytes text → (d : ℕ) (ns : List (List PropertyText)) (ps : List PropertyText) (n : List ℕ) (vs : List (List ℕ))
    → run (Some (st p d (parts ns ps n vs []))) bytes ≡ Some (st at.AfterValue d (parts ns ps n (vs ++ (text ∷ [])) []))
value_run p _ _ w (value inside text h) d ns ps n vs = token_run (st p d (parts ns ps n vs [])) _ bracket token.ValueStart (inside ++ (end_bracket ∷ [])) (bracket_step p w)
    (then_run _ _ _ inside (end_bracket ∷ []) (inside_run inside text h d ns ps n vs []) refl)

-- values one after the other, with white space before each
pub values_run : (bytes : List ℕ) (texts : List (List ℕ)) → Each IsValue bytes texts → (d : ℕ) (ns : List (List PropertyText)) (ps : List PropertyText) (n : List ℕ) (vs : List (List ℕ))
    → run (Some (st at.AfterValue d (parts ns ps n vs []))) bytes ≡ Some (st at.AfterValue d (parts ns ps n (vs ++ texts) []))
values_run _ _ none d ns ps n vs = ap (λ x. Some (st at.AfterValue d (parts ns ps n x []))) (sym (append-nil vs))
values_run _ _ (more white first others x xs w h hs) d ns ps n vs = then_run _ _ _ white (first ++ others) (white_run _ white after_value w)
    (then_run _ _ _ first others (value_run at.AfterValue first x after_value h d ns ps n vs)
    (values_run others xs hs d ns ps n (vs ++ (x ∷ [])) ∙ ap (λ y. Some (st at.AfterValue d (parts ns ps n y []))) (append_assoc vs (x ∷ []) xs)))

-- one value or more
pub some_values_run : (p : Place) (bytes : List ℕ) (x : List ℕ) (xs : List (List ℕ)) → Awaits p → Each IsValue bytes (x ∷ xs) → (d : ℕ) (ns : List (List PropertyText)) (ps : List PropertyText) (n : List ℕ)
    → run (Some (st p d (parts ns ps n [] []))) bytes ≡ Some (st at.AfterValue d (parts ns ps n (x ∷ xs) []))
some_values_run p _ _ _ a (more white first others x xs w h hs) d ns ps n =
    let m = white_awaits p white a w d (parts ns ps n [] []) in
    then_run _ _ _ white (first ++ others) m.2 (then_run _ _ _ first others (value_run m.0 first x m.1 h d ns ps n []) (values_run others xs hs d ns ps n (x ∷ [])))

name_after : (b : ℕ) (n bs : List ℕ) → (if is_capital b then n ++ (b ∷ []) else n) ++ capitals bs ≡ n ++ capitals (b ∷ bs)
name_after b n bs = by_test (is_capital b)
  where
    by_test : (c : Bool) → (if c then n ++ (b ∷ []) else n) ++ capitals bs ≡ n ++ (if c then b ∷ capitals bs else capitals bs)
    by_test true = append_assoc n (b ∷ []) (capitals bs)
    by_test false = refl

-- the letters of an ident after the first
pub letters_run : (bs : List ℕ) → AreLetters bs → (d : ℕ) (ns : List (List PropertyText)) (ps : List PropertyText) (n : List ℕ)
    → run (Some (st at.InIdent d (parts ns ps n [] []))) bs ≡ Some (st at.InIdent d (parts ns ps (n ++ capitals bs) [] []))
letters_run [] a d ns ps n = ap (λ x. Some (st at.InIdent d (parts ns ps x [] []))) (sym (append-nil n))
letters_run (b ∷ bs) a d ns ps n = token_run (st at.InIdent d (parts ns ps n [] [])) _ b token.Letter bs (ap (outside at.InIdent) (kind-letter b a.0))
    (letters_run bs a.1 d ns ps (if is_capital b then n ++ (b ∷ []) else n) ∙ ap (λ x. Some (st at.InIdent d (parts ns ps x [] []))) (name_after b n bs))

-- the places in a node where a property may begin, with the parts of a node of which these properties are read
pub data InBody : Place → Parts → List (List PropertyText) → List PropertyText → Type 0 where
  none_yet : (ns : List (List PropertyText)) → InBody at.InNode (parts ns [] [] [] []) ns []
  some_read : (ns : List (List PropertyText)) (ps : List PropertyText) (n : List ℕ) (vs : List (List ℕ))
      → InBody at.AfterValue (parts ns ps n vs []) ns (ps ++ (record { name = n; values = vs } ∷ []))

body_passes : (p : Place) (q : Parts) (ns : List (List PropertyText)) (ps : List PropertyText) → InBody p q ns ps → Passes p
body_passes _ _ _ _ (none_yet ns) = in_node
body_passes _ _ _ _ (some_read ns ps n vs) = after_value

letter_step : (p : Place) (q : Parts) (ns : List (List PropertyText)) (ps : List PropertyText) (d b : ℕ) → InBody p q ns ps → is_letter b ≡ true
    → step (Some (st p d q)) b ≡ Some (st at.InIdent d (parts ns ps (if is_capital b then b ∷ [] else []) [] []))
letter_step _ _ _ _ d b (none_yet ns) l = token_step (st at.InNode d (parts ns [] [] [] [])) b token.Letter (ap (outside at.InNode) (kind-letter b l))
letter_step _ _ _ _ d b (some_read ns ps n vs) l = token_step (st at.AfterValue d (parts ns ps n vs [])) b token.Letter (ap (outside at.AfterValue) (kind-letter b l))

pub property_run : (p : Place) (q : Parts) (ns : List (List PropertyText)) (ps : List PropertyText) (bytes : List ℕ) (x : PropertyText) → InBody p q ns ps → IsProperty bytes x → (d : ℕ)
    → (r : Parts) × (run (Some (st p d q)) bytes ≡ Some (st at.AfterValue d r)) × InBody at.AfterValue r ns (ps ++ (x ∷ []))
property_run p q ns ps _ _ i (property b letters values text texts l vs) d = (
  parts ns ps (capitals (b ∷ letters)) (text ∷ texts) [],
  byte_run (st p d q) _ _ b (letters ++ values) (letter_step p q ns ps d b i l.0)
      (then_run _ _ _ letters values (letters_run letters l.1 d ns ps (if is_capital b then b ∷ [] else []) ∙ ap (λ n. Some (st at.InIdent d (parts ns ps n [] []))) (name_after b [] letters))
      (some_values_run at.InIdent values text texts in_ident vs d ns ps (capitals (b ∷ letters)))),
  some_read ns ps (capitals (b ∷ letters)) (text ∷ texts),
)

pub properties_run : (p : Place) (q : Parts) (ns : List (List PropertyText)) (ps : List PropertyText) (bytes : List ℕ) (xs : List PropertyText) → InBody p q ns ps → Each IsProperty bytes xs → (d : ℕ)
    → (m : Place) × (r : Parts) × (run (Some (st p d q)) bytes ≡ Some (st m d r)) × InBody m r ns (ps ++ xs)
properties_run p q ns ps _ _ i none d = (p, q, refl, subst (InBody p q ns) (sym (append-nil ps)) i)
properties_run p q ns ps _ _ i (more white first others x xs w h hs) d =
    let f = property_run p q ns ps first x i h d in
    let o = properties_run at.AfterValue f.0 ns (ps ++ (x ∷ [])) others xs f.2 hs d in
    (o.0, o.1, then_run _ _ _ white (first ++ others) (white_run _ white (body_passes p q ns ps i) w) (then_run _ _ _ first others f.1 o.2), subst (InBody o.0 o.1 ns) (append_assoc ps (x ∷ []) xs) o.3)

abbrev pub fresh : List (List PropertyText) → Parts
fresh ns = parts ns [] [] [] []

-- the places behind a node, with the parts once these nodes are read
pub data AfterNode : Place → Parts → List (List PropertyText) → Type 0 where
  after_node : (p : Place) (q : Parts) (ns : List (List PropertyText)) (n : List PropertyText) → InBody p q ns n → AfterNode p q (ns ++ (n ∷ []))

after_node_passes : (p : Place) (q : Parts) (ns : List (List PropertyText)) → AfterNode p q ns → Passes p
after_node_passes _ _ _ (after_node p q ns n i) = body_passes p q ns n i

-- what ends a node leaves its nodes alone
node_step : (p : Place) (q : Parts) (ns : List (List PropertyText)) (d : ℕ) → AfterNode p q ns → step (Some (st p d q)) semicolon ≡ Some (st at.InNode d (fresh ns))
node_step _ _ _ d (after_node _ _ _ _ (none_yet ns)) = refl
node_step _ _ _ d (after_node _ _ _ _ (some_read ns ps n vs)) = refl

open_step : (p : Place) (q : Parts) (ns : List (List PropertyText)) (d : ℕ) → AfterNode p q ns → step (Some (st p d q)) opening ≡ Some (st at.Opened (d + 1) (fresh ns))
open_step _ _ _ d (after_node _ _ _ _ (none_yet ns)) = refl
open_step _ _ _ d (after_node _ _ _ _ (some_read ns ps n vs)) = refl

-- a state once a tree has been closed
abbrev pub off : Place → ℕ → Parts → ReaderState
off p d q = record { place = p; depth = d; on_main = false; parts = q }

abbrev pub closed_at : ℕ → Place
closed_at d = if d == 1 then at.Done else at.AfterTree

close_step : (p : Place) (q : Parts) (ns : List (List PropertyText)) (d : ℕ) → AfterNode p q ns → step (Some (st p d q)) closing ≡ Some (off (closed_at d) (d - 1) (fresh ns))
close_step _ _ _ d (after_node _ _ _ _ (none_yet ns)) = refl
close_step _ _ _ d (after_node _ _ _ _ (some_read ns ps n vs)) = refl

pub nodes_run : (p : Place) (q : Parts) (ns : List (List PropertyText)) (bytes : List ℕ) (xs : List (List PropertyText)) → AfterNode p q ns → Each IsNode bytes xs → (d : ℕ)
    → (m : Place) × (r : Parts) × (run (Some (st p d q)) bytes ≡ Some (st m d r)) × AfterNode m r (ns ++ xs)
nodes_run p q ns _ _ i none d = (p, q, refl, subst (AfterNode p q) (sym (append-nil ns)) i)
nodes_run p q ns _ _ i (more white _ others _ xs w (node bytes x ps) hs) d =
    let f = properties_run at.InNode (fresh ns) ns [] bytes x (none_yet ns) ps d in
    let o = nodes_run f.0 f.1 (ns ++ (x ∷ [])) others xs (after_node f.0 f.1 ns x f.3) hs d in
    (o.0, o.1, then_run _ _ _ white (semicolon ∷ (bytes ++ others)) (white_run (st p d q) white (after_node_passes p q ns i) w) (byte_run (st p d q) (st at.InNode d (fresh ns)) _ semicolon (bytes ++ others) (node_step p q ns d i) (then_run _ _ _ bytes others f.2 o.2)), subst (AfterNode o.0 o.1) (append_assoc ns (x ∷ []) xs) o.3)

-- one node or more
pub some_nodes_run : (ns : List (List PropertyText)) (bytes : List ℕ) (x : List PropertyText) (xs : List (List PropertyText)) → Each IsNode bytes (x ∷ xs) → (d : ℕ)
    → (m : Place) × (r : Parts) × (run (Some (st at.Opened d (fresh ns))) bytes ≡ Some (st m d r)) × AfterNode m r (ns ++ (x ∷ xs))
some_nodes_run ns _ _ _ (more white _ others _ xs w (node bytes x ps) hs) d =
    let f = properties_run at.InNode (fresh ns) ns [] bytes x (none_yet ns) ps d in
    let o = nodes_run f.0 f.1 (ns ++ (x ∷ [])) others xs (after_node f.0 f.1 ns x f.3) hs d in
    (o.0, o.1, then_run _ _ _ white (semicolon ∷ (bytes ++ others)) (white_run (st at.Opened d (fresh ns)) white opened w) (byte_run (st at.Opened d (fresh ns)) (st at.InNode d (fresh ns)) _ semicolon (bytes ++ others) refl (then_run _ _ _ bytes others f.2 o.2)), subst (AfterNode o.0 o.1) (append_assoc ns (x ∷ []) xs) o.3)

pub some-is : {A : Type 0} {x y : A} → Some x ≡ Some y → x ≡ y
some-is {A} {x} {y} e = ap (λ o. elim o as (λ _. A) [ None ↦ x | Some z ↦ z ]) e

pub none-some : {A : Type 0} {x : A} → None ≡ Some x → ⊥
none-some {A} {x} e = cc

pub run-none : (bs : List ℕ) → run None bs ≡ None
run-none [] = refl
run-none (b ∷ bs) = run-none bs

-- what is read once a tree has been closed: the same, and the parts stay
pub off_run : (bs : List ℕ) (s t : ReaderState) (r : Parts) → run (Some s) bs ≡ Some t → run (Some (off s.place s.depth r)) bs ≡ Some (off t.place t.depth r)
off_run [] s t r e = ap (λ z. Some (off z.place z.depth r)) (some-is e)
off_run (b ∷ bs) s t r e = by_token (λ m. off_run bs m t r) (token_at s.place b) refl
  where
    by_token : ((m : ReaderState) → run (Some m) bs ≡ Some t → run (Some (off m.place m.depth r)) bs ≡ Some (off t.place t.depth r))
        → (o : Option Token) → token_at s.place b ≡ o → run (Some (off s.place s.depth r)) (b ∷ bs) ≡ Some (off t.place t.depth r)
    by_token go None h = absurd (none-some (sym (run-none bs) ∙ sym (ap (λ o. run (stepped s b o) bs) h) ∙ e))
    by_token go (Some k) h = token_run (off s.place s.depth r) _ b k bs h (go (after s k b) (sym (ap (λ o. run (stepped s b o) bs) h) ∙ e))

-- places where an inner tree may begin
pub data Opens : Place → Type 0 where
  in_node : Opens at.InNode
  after_value : Opens at.AfterValue
  after_tree : Opens at.AfterTree

opens_passes : (p : Place) → Opens p → Passes p
opens_passes _ in_node = in_node
opens_passes _ after_value = after_value
opens_passes _ after_tree = after_tree

after_node_opens : (p : Place) (q : Parts) (ns : List (List PropertyText)) → AfterNode p q ns → Opens p
after_node_opens _ _ _ (after_node _ _ _ _ (none_yet ns)) = in_node
after_node_opens _ _ _ (after_node _ _ _ _ (some_read ns ps n vs)) = after_value

open_off : (p : Place) (d : ℕ) (r : Parts) → Opens p → step (Some (off p d r)) opening ≡ Some (off at.Opened (d + 1) r)
open_off _ d r in_node = refl
open_off _ d r after_value = refl
open_off _ d r after_tree = refl

close_off : (p : Place) (d : ℕ) (r : Parts) → Opens p → step (Some (off p d r)) closing ≡ Some (off (closed_at d) (d - 1) r)
close_off _ d r in_node = refl
close_off _ d r after_value = refl
close_off _ d r after_tree = refl

inner_closed : (d : ℕ) (r : Parts) → 1 ≤ d → off (closed_at (d + 1)) (d + 1 - 1) r ≡ off at.AfterTree d r
inner_closed d r h =
    let deep : (d + 1 == 1) ≡ false = grind (arith, h) in
    let less : d + 1 - 1 ≡ d = omega arith in
    ap₂ (λ c e. off (if c then at.Done else at.AfterTree) e r) deep less

mutual
  pub tree_off : (bytes : List ℕ) (line : List (List PropertyText)) → IsTree bytes line → (p : Place) → Opens p → (d : ℕ) → 1 ≤ d → (r : Parts)
      → run (Some (off p d r)) bytes ≡ Some (off at.AfterTree d r)
  tree_off _ _ (tree nodes inner white first others line hs ts w) p o d h r =
      let f = some_nodes_run [] nodes first others hs (d + 1) in
      let g = trees_off inner line ts f.0 (after_node_opens f.0 f.1 _ f.3) (d + 1) (omega (arith, h)) r in
      byte_run (off p d r) (off at.Opened (d + 1) r) _ opening (nodes ++ (inner ++ (white ++ (closing ∷ [])))) (open_off p d r o)
      (then_run _ _ _ nodes (inner ++ (white ++ (closing ∷ []))) (off_run nodes (st at.Opened (d + 1) (fresh [])) (st f.0 (d + 1) f.1) r f.2)
      (then_run _ _ _ inner (white ++ (closing ∷ [])) g.2
      (then_run _ _ _ white (closing ∷ []) (white_run (off g.0 (d + 1) r) white (opens_passes g.0 g.1) w)
      (close_off g.0 (d + 1) r g.1 ∙ ap Some (inner_closed d r h)))))

  pub trees_off : (bytes : List ℕ) (line : List (List PropertyText)) → AreTrees bytes line → (p : Place) → Opens p → (d : ℕ) → 1 ≤ d → (r : Parts)
      → (m : Place) × Opens m × (run (Some (off p d r)) bytes ≡ Some (off m d r))
  trees_off _ _ no_trees p o d h r = (p, o, refl)
  trees_off _ _ (trees white first others line dropped w t ts) p o d h r =
      let g = trees_off others dropped ts at.AfterTree after_tree d h r in (
        g.0,
        g.1,
        then_run _ _ _ white (first ++ others) (white_run (off p d r) white (opens_passes p o) w)
            (then_run _ _ _ first others (tree_off first line t p o d h r) g.2),
      )

mutual
  -- the first inner tree, behind the nodes before it
  pub tree_main : (bytes : List ℕ) (line : List (List PropertyText)) → IsTree bytes line → (p : Place) (q : Parts) (ns : List (List PropertyText)) → AfterNode p q ns → (d : ℕ) → 1 ≤ d
      → (r : Parts) × (run (Some (st p d q)) bytes ≡ Some (off at.AfterTree d r)) × (r.nodes ≡ ns ++ line)
  tree_main _ _ (tree nodes inner white first others line hs ts w) p q ns a d h =
      let f = some_nodes_run ns nodes first others hs (d + 1) in
      let g = rest_main inner line ts white w f.0 f.1 (ns ++ (first ∷ others)) f.3 (d + 1) (omega (arith, h)) in (
        g.0,
        byte_run (st p d q) (st at.Opened (d + 1) (fresh ns)) _ opening (nodes ++ (inner ++ (white ++ (closing ∷ [])))) (open_step p q ns d a) (then_run _ _ _ nodes (inner ++ (white ++ (closing ∷ []))) f.2 (g.1 ∙ ap Some (inner_closed d g.0 h))),
        g.2 ∙ append_assoc ns (first ∷ others) line,
      )

  -- all of a tree behind its nodes
  pub rest_main : (bytes : List ℕ) (line : List (List PropertyText)) → AreTrees bytes line → (white : List ℕ) → AreWhite white → (p : Place) (q : Parts) (ns : List (List PropertyText)) → AfterNode p q ns → (d : ℕ) → 1 ≤ d
      → (r : Parts) × (run (Some (st p d q)) (bytes ++ (white ++ (closing ∷ []))) ≡ Some (off (closed_at d) (d - 1) r)) × (r.nodes ≡ ns ++ line)
  rest_main _ _ no_trees white w p q ns a d h =
      (fresh ns, then_run _ _ _ white (closing ∷ []) (white_run (st p d q) white (after_node_passes p q ns a) w) (close_step p q ns d a), sym (append-nil ns))
  rest_main _ _ (trees before first others line dropped b t ts) white w p q ns a d h =
      let f = tree_main first line t p q ns a d h in
      let g = trees_off others dropped ts at.AfterTree after_tree d h f.0 in (
        f.0,
        ap (λ x. run (Some (st p d q)) x) (append_assoc before (first ++ others) (white ++ (closing ∷ [])) ∙ ap (λ x. before ++ x) (append_assoc first others (white ++ (closing ∷ []))))
            ∙ then_run _ _ _ before (first ++ (others ++ (white ++ (closing ∷ [])))) (white_run (st p d q) before (after_node_passes p q ns a) b)
            (then_run _ _ _ first (others ++ (white ++ (closing ∷ []))) f.1
            (then_run _ _ _ others (white ++ (closing ∷ [])) g.2
            (then_run _ _ _ white (closing ∷ []) (white_run (off g.0 d f.0) white (opens_passes g.0 g.1) w)
            (close_off g.0 d f.0 g.1)))),
        f.2,
      )

-- a whole tree is read, with its main line
pub tree_run : (bytes : List ℕ) (line : List (List PropertyText)) → IsTree bytes line → (r : Parts) × (run (Some begin) bytes ≡ Some (off at.Done 0 r)) × (r.nodes ≡ line)
tree_run _ _ (tree nodes inner white first others line hs ts w) =
    let f = some_nodes_run [] nodes first others hs 1 in
    let g = rest_main inner line ts white w f.0 f.1 (first ∷ others) f.3 1 (omega arith) in
    (g.0, byte_run begin (st at.Opened 1 (fresh [])) _ opening (nodes ++ (inner ++ (white ++ (closing ∷ [])))) refl (then_run _ _ _ nodes (inner ++ (white ++ (closing ∷ []))) f.2 g.1), g.2)
