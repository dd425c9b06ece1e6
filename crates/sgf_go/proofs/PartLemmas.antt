-- Parts of a line, one after the other.
use Rattle.std.proofs.Common.{ℕ, ◌+◌, ◌<◌, ◌≤◌, ◌≡◌, ◌≢◌, List, [], ◌∷◌, length, drop, get_or, arith, refl, sym, ◌∙◌, ap, subst, true, false, Some, None}
use Rattle.std.specs.Prelude.{Option, Result, Ok, Err, map, IsErrAnd, if◌then◌else◌}
use Rattle.std.specs.Option.{option_map}
use Rattle.std.proofs.lemmas.List.{drop_more, drop_all}
use Rattle.std.proofs.lemmas.Result.{err_from_is_err_and}
use Rattle.std.proofs.lemmas.List.Sums.{count_by-le-length}
use Rattle.go_grid.specs.Board.{Board}
use Rattle.go_grid.specs.declared.grid.Colour.{Colour}
use Rattle.go_grid.specs.declared.grid.Colour.TheVariants as colour
use Rattle.go_grid.specs.declared.grid.Cell.{Cell}
use Rattle.go_grid.specs.Play.{is_stone}
use Rattle.go_play.specs.Place.{IsNumberTaken}
use Rattle.sgf_go.specs.Values.{IsInRectangle, Rectangle, Says, IsArea, trimmed}
use Rattle.go_grid.specs.Name.{IsName}
use Rattle.sgf_go.specs.inner.Reading.{rectangle}
use Rattle.sgf_tree.specs.Reading.{property_text, node_text}
use Rattle.sgf_tree.specs.declared.tree.Node.{Node}
use Rattle.sgf_tree.specs.declared.tree.Property.{Property}
use Rattle.sgf_go.specs.Setup.{Part, Follows, For, IsSet, SetsValue, SetsValues, SetsProperty, Counts, moved, with_taken, Moves, MovesAsChosen, pass, stone_at, nothing, is_pass, cell_set, mover, first_value, MovesProperty, TurnsByProperty, NodePart, LinePart, Unless, ends_before, ◌then◌}
use Rattle.sgf_go.specs.declared.replay.Replay.{Replay}
use Rattle.sgf_go.specs.declared.values.Area.{Area}
use Rattle.sgf_go.specs.declared.fault.SetupFault.{SetupFault}
use Rattle.sgf_go.specs.declared.fault.SetupFault.TheVariants.{BadPoint}

pub sets_nothing : (node : ℕ) (c : Cell) (text : List ℕ) (s : Replay) → text ≡ [] → SetsValue node c text s (Ok s)
sets_nothing node c text s e = subst (λ x. SetsValue node c x s (Ok s)) (sym e) refl

pub sets_area : (node : ℕ) (c : Cell) (text : List ℕ) (s : Replay) (area : Area) (h : Board) → text ≢ [] → Says (IsArea s.board.columns s.board.rows text) (option_map rectangle (Some area))
    → IsSet s.board (IsInRectangle s.board.columns (rectangle area)) c h → SetsValue node c text s (Ok (record s { board = h }))
sets_area node c [] s area h n e i = absurd (n refl)
sets_area node c (b ∷ bs) s area h n e i = (Some (rectangle area), e, (h, i, refl))

pub sets_fault : (node : ℕ) (c : Cell) (text : List ℕ) (s : Replay) → text ≢ [] → ((r : Rectangle) → ¬ IsArea s.board.columns s.board.rows text r) → SetsValue node c text s (Err (BadPoint node))
sets_fault node c [] s n e = absurd (n refl)
sets_fault node c (b ∷ bs) s n e = (None, e, refl)

-- stones that are taken count as no move
pub taken_played : (c : Colour) (n : ℕ) (s : Replay) → (with_taken c n s).played ≡ s.played
taken_played colour.Black n s = refl
taken_played colour.White n s = refl

pub counts_move : (c : Colour) (n : ℕ) (s : Replay) (g h : Board) → Counts s → length g.cells ≤ 625 → IsNumberTaken g h n → Counts (moved c (with_taken c n (record s { board = h })))
counts_move colour.Black n s g h k l t =
    let few = count_by-le-length is_stone g.cells in
    record { black = omega (arith, k.black, l, t, few); white = omega (arith, k.white) }
counts_move colour.White n s g h k l t =
    let few = count_by-le-length is_stone g.cells in
    record { black = omega (arith, k.black); white = omega (arith, k.white, l, t, few) }

pub for_map : {A B : Type 0} (P : B → Part) (f : A → B) (xs : List A) (s : Replay) (r : Result Replay SetupFault) → For (λ x. P (f x)) xs s r → For P (map f xs) s r
for_map P f [] s r g = g
for_map P f (x ∷ xs) s r (Ok u, p, g) = (Ok u, p, for_map P f xs u r g)
for_map P f (x ∷ xs) s r (Err e, p, g) = (Err e, p, g)

pub follows_values : (node : ℕ) (c : Cell) (p : Property) (s t : Replay) (r : Result (Unit {0}) SetupFault) → Some c ≡ cell_set (property_text p)
    → Follows (For (λ v. SetsValue node c (trimmed v.items)) p.values.items) s t r → Follows (SetsProperty node (property_text p)) s t r
follows_values node c p s t (Ok u) e f = subst (λ o. SetsValues node o (property_text p).values s (Ok t)) e (for_map (λ v. SetsValue node c (trimmed v)) (λ v. v.items) p.values.items s (Ok t) f)
follows_values node c p s t (Err g) e f = subst (λ o. SetsValues node o (property_text p).values s (Err g)) e (for_map (λ v. SetsValue node c (trimmed v)) (λ v. v.items) p.values.items s (Err g) f)

pub follows_nothing : (node : ℕ) (p : Property) (s : Replay) → None ≡ cell_set (property_text p) → SetsProperty node (property_text p) s (Ok s)
follows_nothing node p s e = subst (λ o. SetsValues node o (property_text p).values s (Ok s)) e refl

pub chooses_pass : (node : ℕ) (c : Colour) (text : List ℕ) (s : Replay) → is_pass s.board text ≡ true → Moves node (Some c) text s (Ok (moved c s))
chooses_pass node c text s e = (pass, e, refl)

pub chooses_nothing : (node : ℕ) (c : Colour) (text : List ℕ) (s : Replay) → is_pass s.board text ≡ false → ((p : ℕ) → ¬ IsName s.board.columns s.board.rows text p) → Moves node (Some c) text s (Err (BadPoint node))
chooses_nothing node c text s e n = (nothing, (e, n), refl)

pub chooses_stone : (node : ℕ) (c : Colour) (text : List ℕ) (p : ℕ) (s t : Replay) (r : Result (Unit {0}) SetupFault) → is_pass s.board text ≡ false → IsName s.board.columns s.board.rows text p
    → Follows (MovesAsChosen node c (stone_at p)) s t r → Follows (Moves node (Some c) text) s t r
chooses_stone node c text p s t (Ok u) e n f = (stone_at p, (e, n), f)
chooses_stone node c text p s t (Err g) e n f = (stone_at p, (e, n), f)

-- the loop over a list, by what the rest of it gives
pub goes_step : {A : Type 0} (P : A → Part) (xs : List A) (i : ℕ) (d : A) (s t u : Replay) → i < length xs → ((r : Result Replay SetupFault) → For P (drop i xs) t r → For P xs s r) → P (get_or xs i d) t (Ok u)
    → (r : Result Replay SetupFault) → For P (drop (i + 1) xs) u r → For P xs s r
goes_step P xs i d s t u h g p r f = g r (subst (λ x. For P x t r) (sym (drop_more xs i d h)) (Ok u, p, f))

pub goes_fault : {A : Type 0} (P : A → Part) (xs : List A) (i : ℕ) (d : A) (s t : Replay) (f : SetupFault) → i < length xs → ((r : Result Replay SetupFault) → For P (drop i xs) t r → For P xs s r) → P (get_or xs i d) t (Err f)
    → For P xs s (Err f)
goes_fault P xs i d s t f h g p = g (Err f) (subst (λ x. For P x t (Err f)) (sym (drop_more xs i d h)) (Err f, p, refl))

pub goes_end : {A : Type 0} (P : A → Part) (xs : List A) (i : ℕ) (s t : Replay) → length xs ≤ i → ((r : Result Replay SetupFault) → For P (drop i xs) t r → For P xs s r) → For P xs s (Ok t)
goes_end P xs i s t h g = g (Ok t) (subst (λ x. For P x t (Ok t)) (sym (drop_all i xs h)) refl)

pub moves_nothing : (node : ℕ) (p : Property) (s : Replay) → None ≡ mover (property_text p) → MovesProperty node (property_text p) s (Ok s)
moves_nothing node p s e = subst (λ o. Moves node o (first_value (property_text p)) s (Ok s)) e refl

pub moves_by : (node : ℕ) (c : Colour) (p : Property) (text : List ℕ) (s t : Replay) (r : Result (Unit {0}) SetupFault) → Some c ≡ mover (property_text p) → text ≡ get_or (property_text p).values 0 []
    → Follows (Moves node (Some c) (trimmed text)) s t r → Follows (MovesProperty node (property_text p)) s t r
moves_by node c p text s t (Ok u) e v f = subst (λ o. Moves node o (first_value (property_text p)) s (Ok t)) e (subst (λ x. Moves node (Some c) (trimmed x) s (Ok t)) v f)
moves_by node c p text s t (Err g) e v f = subst (λ o. Moves node o (first_value (property_text p)) s (Err g)) e (subst (λ x. Moves node (Some c) (trimmed x) s (Err g)) v f)

-- what a `?` hands on
pub fault_out : (P : Part) (s t : Replay) (f : SetupFault) (r : Result (Unit {0}) SetupFault) → IsErrAnd r (λ y. y ≡ f) → P s (Err f) → Follows P s t r
fault_out P s t f r i p = let e = err_from_is_err_and r i in subst (Follows P s t) (sym (e.1 ∙ ap Err e.2)) p

-- a node is its four parts
pub node_follows : (turn : Option Colour) (node : ℕ) (ps : List Property) (s a b t : Replay)
    → For (λ p. SetsProperty node (property_text p)) ps s (Ok a) → TurnsByProperty turn (map property_text ps) a (Ok b) → For (λ p. MovesProperty node (property_text p)) ps b (Ok t)
    → NodePart turn node (map property_text ps) s (Ok (record t { last = Some node }))
node_follows turn node ps s a b t f g h = (Ok a, for_map (SetsProperty node) property_text ps s (Ok a) f, (Ok b, g, (Ok t, for_map (MovesProperty node) property_text ps b (Ok t) h, refl)))

pub move_fault : (turn : Option Colour) (node : ℕ) (ps : List Property) (s a b : Replay) (f : SetupFault)
    → For (λ p. SetsProperty node (property_text p)) ps s (Ok a) → TurnsByProperty turn (map property_text ps) a (Ok b) → For (λ p. MovesProperty node (property_text p)) ps b (Err f)
    → NodePart turn node (map property_text ps) s (Err f)
move_fault turn node ps s a b f g h i = (Ok a, for_map (SetsProperty node) property_text ps s (Ok a) g, (Ok b, h, (Err f, for_map (MovesProperty node) property_text ps b (Err f) i, refl)))

pub node_fault : (turn : Option Colour) (node : ℕ) (ps : List Property) (s : Replay) (f : SetupFault) → For (λ p. SetsProperty node (property_text p)) ps s (Err f) → NodePart turn node (map property_text ps) s (Err f)
node_fault turn node ps s f g = (Err f, for_map (SetsProperty node) property_text ps s (Err f) g, refl)

pub side_fault : (turn : Option Colour) (node : ℕ) (ps : List Property) (s a : Replay) (f : SetupFault) → For (λ p. SetsProperty node (property_text p)) ps s (Ok a) → TurnsByProperty turn (map property_text ps) a (Err f) → NodePart turn node (map property_text ps) s (Err f)
side_fault turn node ps s a f g h = (Ok a, for_map (SetsProperty node) property_text ps s (Ok a) g, (Err f, h, refl))

pub counts_same : (s t : Replay) → Counts s → t.played ≡ s.played → t.black ≡ s.black → t.white ≡ s.white → Counts t
counts_same s t c p b w = record { black = omega (arith, c.black, p, b); white = omega (arith, c.white, p, w) }

-- the loop over the nodes, by what the rest of the line gives
pub line_step : (after : Option ℕ) (turn : Option Colour) (line : List Node) (at : ℕ) (d : Node) (s t u : Replay) → at < length line
    → ((r : Result Replay SetupFault) → LinePart after turn at (map node_text (drop at line)) t r → LinePart after turn 0 (map node_text line) s r)
    → ends_before after (node_text (get_or line at d)) t.played ≡ false → NodePart turn at (node_text (get_or line at d)) t (Ok u)
    → (r : Result Replay SetupFault) → LinePart after turn (at + 1) (map node_text (drop (at + 1) line)) u r → LinePart after turn 0 (map node_text line) s r
line_step after turn line at d s t u h g e n r f = g r (subst (λ x. LinePart after turn at (map node_text x) t r) (sym (drop_more line at d h))
    (subst (λ b. Unless b (NodePart turn at (node_text (get_or line at d)) then LinePart after turn (at + 1) (map node_text (drop (at + 1) line))) t r) (sym e) (Ok u, n, f)))

pub line_fault : (after : Option ℕ) (turn : Option Colour) (line : List Node) (at : ℕ) (d : Node) (s t : Replay) (f : SetupFault) → at < length line
    → ((r : Result Replay SetupFault) → LinePart after turn at (map node_text (drop at line)) t r → LinePart after turn 0 (map node_text line) s r)
    → ends_before after (node_text (get_or line at d)) t.played ≡ false → NodePart turn at (node_text (get_or line at d)) t (Err f)
    → LinePart after turn 0 (map node_text line) s (Err f)
line_fault after turn line at d s t f h g e n = g (Err f) (subst (λ x. LinePart after turn at (map node_text x) t (Err f)) (sym (drop_more line at d h))
    (subst (λ b. Unless b (NodePart turn at (node_text (get_or line at d)) then LinePart after turn (at + 1) (map node_text (drop (at + 1) line))) t (Err f)) (sym e) (Err f, n, refl)))

pub line_stops : (after : Option ℕ) (turn : Option Colour) (line : List Node) (at : ℕ) (d : Node) (s t : Replay) → at < length line
    → ((r : Result Replay SetupFault) → LinePart after turn at (map node_text (drop at line)) t r → LinePart after turn 0 (map node_text line) s r)
    → ends_before after (node_text (get_or line at d)) t.played ≡ true → LinePart after turn 0 (map node_text line) s (Ok t)
line_stops after turn line at d s t h g e = g (Ok t) (subst (λ x. LinePart after turn at (map node_text x) t (Ok t)) (sym (drop_more line at d h))
    (subst (λ b. Unless b (NodePart turn at (node_text (get_or line at d)) then LinePart after turn (at + 1) (map node_text (drop (at + 1) line))) t (Ok t)) (sym e) refl))

pub line_ends : (after : Option ℕ) (turn : Option Colour) (line : List Node) (at : ℕ) (s t : Replay) → length line ≤ at
    → ((r : Result Replay SetupFault) → LinePart after turn at (map node_text (drop at line)) t r → LinePart after turn 0 (map node_text line) s r) → LinePart after turn 0 (map node_text line) s (Ok t)
line_ends after turn line at s t h g = g (Ok t) (subst (λ x. LinePart after turn at (map node_text x) t (Ok t)) (sym (drop_all at line h)) refl)
