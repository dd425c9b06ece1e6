-- A main line gives at most one position or fault.
use Rattle.std.proofs.Common.{ℕ, ◌+◌, ◌<◌, ◌≡◌, List, [], ◌∷◌, length, take, drop, get_or, arith, refl, sym, inl, inr, ◌∙◌, ap, ap₂, subst, Bool, true, false, Some, None, ℤ}
use Rattle.std.specs.Prelude.{Option, Result, Ok, Err, codes, count_by}
use Rattle.std.proofs.lemmas.List.{ext_get_or}
use Rattle.std.proofs.lemmas.Bool.{cases_lt}
use Rattle.go_grid.specs.declared.grid.Colour.{Colour}
use Rattle.go_grid.specs.declared.grid.Cell.{Cell}
use Rattle.go_grid.specs.declared.grid.Cell.TheVariants.{Empty}
use Rattle.go_grid.specs.Board.{Board, cell_at}
use Rattle.go_grid.specs.Chain.{IsSettled}
use Rattle.go_play.specs.Place.{PlacesStone}
use Rattle.go_grid.specs.Play.{is_stone}
use Rattle.go_play.specs.declared.placements.PlaceError.{PlaceError}
use Rattle.go_play.specs.declared.placements.PlaceError.TheVariants as place
use Rattle.sgf_tree.specs.Grammar.{PropertyText}
use Rattle.sgf_go.specs.Values.{trimmed, Says, Rectangle, rectangle_between, IsArea, point, corners, colon, IsInRectangle, Extent, IsSide, IsSize, square, sides}
use Rattle.sgf_go.specs.inner.Values.{LacksColon}
use Rattle.go_grid.specs.Name.{IsName}
use Rattle.sgf_go.specs.Setup.{Part, GoesOn, ◌then◌, For, Skips, IsSet, Sets, SetsValue, SetsValues, SetsProperty, cell_set, SetsSide, TurnsTo, side_of, placed, moved, with_taken, Choice, pass, stone_at, nothing, is_pass, IsMoveText, MovesAsChosen, Moves, MovesProperty, mover, first_value, value_of, TurnsByProperty, NodePart, LinePart, Unless, ends_before, IsKomiFor, IsFirstChoked, IsRead, TerritoryOf, TerritoryPart, EndsMainLine, FromKomi, FromSize, FromGame, is_go, IsBoardSize, root, empty_board, OnePosition}
use Rattle.sgf_go.specs.declared.replay.Replay.{Replay}
use Rattle.sgf_go.specs.declared.settings.Settings.{Settings}
use Rattle.go_play.specs.Setup.{Setup}
use Rattle.sgf_go.specs.declared.fault.SetupFault.{SetupFault}
use Rattle.sgf_go.specs.declared.fault.SetupFault.TheVariants.{NoLiberty}
use Rattle.sgf_go.proofs.KomiLemmas.{one_komi}
use Rattle.sgf_go.proofs.SealLemmas.{territory_one}
use Rattle.sgf_go.proofs.PointLemmas.{point_not_corners}
use Rattle.sgf_go.proofs.SizeLemmas.{square_only, sides_only, side_lacks, joint_within, at_joint, in_front}
use Rattle.go_play.proofs.BoardPlayLemmas.{placed_same, suicide_not_placed}
use Rattle.go_grid.proofs.BoardLemmas.{cell_stable}
use Rattle.go_grid.proofs.NameLemmas.{one_named}

-- two boards of one size with the same cells
same_board : (h k : Board) → h.columns ≡ k.columns → h.rows ≡ k.rows → h.declared ≡ k.declared → length h.cells ≡ length k.cells → ((q : ℕ) → q < length h.cells → ¬ ¬ (cell_at h q ≡ cell_at k q)) → h ≡ k
same_board h k c r d l s =
    let cells : h.cells ≡ k.cells = ext_get_or Empty h.cells k.cells l (λ q b. cell_stable (cell_at h q) (cell_at k q) (s q b)) in
    λ i. record { columns = c i; rows = r i; cells = cells i; declared = d i }

one_set : (g h k : Board) (In : ℕ → Type 0) (c : Cell) → IsSet g In c h → IsSet g In c k → h ≡ k
one_set g h k In c a b = same_board h k (a.columns ∙ sym b.columns) (a.rows ∙ sym b.rows) (a.declared ∙ sym b.declared) (a.long ∙ sym b.long) (λ q l differ.
    let out : ¬ In q = λ i. differ (a.set q (omega (arith, l, a.long)) i ∙ sym (b.set q (omega (arith, l, a.long)) i)) in
    differ (a.kept q out ∙ sym (b.kept q out)))

one_placing : (node : ℕ) (c : Colour) (s : Replay) (p : ℕ) (h k : Board) (x y : Result ℕ PlaceError) → PlacesStone s.board p c h x → PlacesStone s.board p c k y → placed node c s h x ≡ placed node c s k y
one_placing node c s p h k (Ok n) (Ok m) a b =
    let board = placed_same s.board p c h k a.0 b.0 in
    let taken : n ≡ m = omega (arith, a.1, b.1, ap (λ g. count_by is_stone g.cells) board) in
    ap₂ (λ g t. Ok (moved c (with_taken c t (record s { board = g })))) board taken
one_placing node c s p h k (Ok n) (Err place.Occupied) a b = absurd (b.1 (a.0.1.place, a.0.1.free))
one_placing node c s p h k (Ok n) (Err place.Suicide) a b = absurd (suicide_not_placed s.board h p c b.2 a.0)
one_placing node c s p h k (Err place.Occupied) (Ok m) a b = absurd (a.1 (b.0.1.place, b.0.1.free))
one_placing node c s p h k (Err place.Occupied) (Err place.Occupied) a b = refl
one_placing node c s p h k (Err place.Occupied) (Err place.Suicide) a b = absurd (a.1 b.1)
one_placing node c s p h k (Err place.Suicide) (Ok m) a b = absurd (suicide_not_placed s.board k p c a.2 b.0)
one_placing node c s p h k (Err place.Suicide) (Err place.Occupied) a b = absurd (b.1 a.1)
one_placing node c s p h k (Err place.Suicide) (Err place.Suicide) a b = refl

one_point : (columns rows : ℕ) (text : List ℕ) (p q : ℕ) → IsName columns rows text p → IsName columns rows text q → p ≡ q
one_point columns rows text p q a b = one_named columns p q (sym a.spelt ∙ b.spelt)

pub one_area : (columns rows : ℕ) (text : List ℕ) (a b : Rectangle) → IsArea columns rows text a → IsArea columns rows text b → a ≡ b
one_area columns rows text _ _ (point p a) (point q b) = ap (λ x. rectangle_between columns x x) (one_point columns rows text p q a b)
one_area columns rows text _ _ (point p a) (corners m n b c d) = absurd (point_not_corners columns rows text p a c)
one_area columns rows text _ _ (corners m n a c d) (point q b) = absurd (point_not_corners columns rows text q b c)
one_area columns rows text _ _ (corners m n a c d) (corners p q b e f) = ap₂ (rectangle_between columns) (one_point columns rows (take 2 text) m p a b) (one_point columns rows (drop 3 text) n q d f)

says_one : {A : Type 0} (Is : A → Type 0) (x y : Option A) → ((a b : A) → Is a → Is b → a ≡ b) → Says Is x → Says Is y → x ≡ y
says_one Is None None one a b = refl
says_one Is None (Some y) one a b = absurd (a y b)
says_one Is (Some x) None one a b = absurd (b x a)
says_one Is (Some x) (Some y) one a b = ap Some (one x y a b)

-- a part has at most one outcome
abbrev HasOne : Part → Type 0
HasOne P = (s : Replay) (r q : Result Replay SetupFault) → P s r → P s q → r ≡ q

skips_one : HasOne Skips
skips_one s r q a b = a ∙ sym b

goes_one : (P : Part) (m r q : Result Replay SetupFault) → HasOne P → GoesOn P m r → GoesOn P m q → r ≡ q
goes_one P (Ok s) r q d a b = d s r q a b
goes_one P (Err f) r q d a b = a ∙ sym b

then_one : (P Q : Part) → HasOne P → HasOne Q → HasOne (P then Q)
then_one P Q d e s r q (m, p, g) (n, o, h) = goes_one Q m r q e g (subst (λ x. GoesOn Q x q) (d s n m o p) h)

for_one : {A : Type 0} (P : A → Part) (xs : List A) → ((x : A) → HasOne (P x)) → HasOne (For P xs)
for_one P [] d = skips_one
for_one P (x ∷ xs) d = then_one (P x) (For P xs) (d x) (for_one P xs d)

sets_one : (node : ℕ) (c : Cell) (area : Option Rectangle) → HasOne (Sets node c area)
sets_one node c None s r q a b = a ∙ sym b
sets_one node c (Some area) s r q (h, i, e) (k, j, f) = e ∙ ap (λ g. Ok (record s { board = g })) (one_set s.board h k (IsInRectangle s.board.columns area) c i j) ∙ sym f

value_one : (node : ℕ) (c : Cell) (text : List ℕ) → HasOne (SetsValue node c text)
value_one node c [] = skips_one
value_one node c (b ∷ bs) = λ s r q x y.
    let same = says_one (IsArea s.board.columns s.board.rows (b ∷ bs)) y.0 x.0 (one_area s.board.columns s.board.rows (b ∷ bs)) y.1 x.1 in
    sets_one node c x.0 s r q x.2 (subst (λ o. Sets node c o s q) same y.2)

values_one : (node : ℕ) (c : Option Cell) (values : List (List ℕ)) → HasOne (SetsValues node c values)
values_one node None values = skips_one
values_one node (Some c) values = for_one (λ v. SetsValue node c (trimmed v)) values (λ v. value_one node c (trimmed v))

turns_one : (c : Option Colour) → HasOne (SetsSide c)
turns_one None s r q a b = a ∙ sym b
turns_one (Some c) s r q a b = a ∙ sym b

side_one : (turn : Option Colour) (ps : List PropertyText) → HasOne (TurnsByProperty turn ps)
side_one (Some c) ps = skips_one
side_one None ps = by_text (value_of (codes "PL") ps) where
  by_text : (o : Option (List ℕ)) → HasOne (TurnsTo o)
  by_text None = skips_one
  by_text (Some text) = turns_one (side_of text)

chooses_one : (node : ℕ) (c : Colour) (x : Choice) → HasOne (MovesAsChosen node c x)
chooses_one node c pass s r q a b = a ∙ sym b
chooses_one node c nothing s r q a b = a ∙ sym b
chooses_one node c (stone_at p) s r q (h, x, a, e) (k, y, b, f) = e ∙ one_placing node c s p h k x y a b ∙ sym f

one_choice : (g : Board) (text : List ℕ) (x y : Choice) → IsMoveText g text x → IsMoveText g text y → x ≡ y
one_choice g text pass pass a b = refl
one_choice g text nothing nothing a b = refl
one_choice g text (stone_at p) (stone_at q) a b = ap stone_at (one_point g.columns g.rows text p q a.1 b.1)
one_choice g text pass nothing a b = let u : is_pass g text ≡ true = a in let v : is_pass g text ≡ false = b.0 in cc
one_choice g text nothing pass a b = let u : is_pass g text ≡ true = b in let v : is_pass g text ≡ false = a.0 in cc
one_choice g text pass (stone_at q) a b = let u : is_pass g text ≡ true = a in let v : is_pass g text ≡ false = b.0 in cc
one_choice g text (stone_at p) pass a b = let u : is_pass g text ≡ true = b in let v : is_pass g text ≡ false = a.0 in cc
one_choice g text nothing (stone_at q) a b = absurd (a.1 q b.1)
one_choice g text (stone_at p) nothing a b = absurd (b.1 p a.1)

moves_one : (node : ℕ) (c : Option Colour) (text : List ℕ) → HasOne (Moves node c text)
moves_one node None text = skips_one
moves_one node (Some c) text = λ s r q x y. chooses_one node c x.0 s r q x.2 (subst (λ z. MovesAsChosen node c z s q) (one_choice s.board text y.0 x.0 y.1 x.1) y.2)

read_one : (node : ℕ) → HasOne (IsRead node)
read_one node s r q a b = a ∙ sym b

node_one : (turn : Option Colour) (node : ℕ) (ps : List PropertyText) → HasOne (NodePart turn node ps)
node_one turn node ps = then_one (For (SetsProperty node) ps) (TurnsByProperty turn ps then For (MovesProperty node) ps then IsRead node) (for_one (SetsProperty node) ps (λ p. values_one node (cell_set p) p.values))
    (then_one (TurnsByProperty turn ps) (For (MovesProperty node) ps then IsRead node) (side_one turn ps)
    (then_one (For (MovesProperty node) ps) (IsRead node) (for_one (MovesProperty node) ps (λ p. moves_one node (mover p) (first_value p))) (read_one node)))

line_one : (after : Option ℕ) (turn : Option Colour) (node : ℕ) (line : List (List PropertyText)) → HasOne (LinePart after turn node line)
line_one after turn node [] = skips_one
line_one after turn node (ps ∷ line) = λ s. unless_one (ends_before after ps s.played) (NodePart turn node ps then LinePart after turn (node + 1) line)
    (then_one (NodePart turn node ps) (LinePart after turn (node + 1) line) (node_one turn node ps) (line_one after turn (node + 1) line)) s
  where
    unless_one : (b : Bool) (P : Part) → HasOne P → HasOne (Unless b P)
    unless_one true P d = skips_one
    unless_one false P d = d

marks_one : (asked : Bool) (line : List (List PropertyText)) → HasOne (TerritoryPart asked line)
marks_one false line = skips_one
marks_one true line = λ s. last_one s.last s
  where
    last_one : (last : Option ℕ) → HasOne (TerritoryOf line last)
    last_one None = skips_one
    last_one (Some node) = territory_one node (get_or line node [])

one_choked : (g : Board) (p q : ℕ) → IsFirstChoked g p → IsFirstChoked g q → p ≡ q
one_choked g p q a b = elim (cases_lt p q) [
  | inl l ↦ absurd (b.lowest p l a.choked)
  | inr l ↦ elim (cases_lt q p) [
    | inl k ↦ absurd (a.lowest q k b.choked)
    | inr k ↦ omega (arith, l, k)
  ]
]

settled_not_choked : (g : Board) (p : ℕ) → IsSettled g → ¬ IsFirstChoked g p
settled_not_choked g p s f = f.choked.2 (s.breathe f.choked.0 p f.choked.1)

ends_one : (settings : Settings) (komi : ℤ) (m : Result Replay SetupFault) (a b : Result Setup SetupFault) → EndsMainLine settings komi m a → EndsMainLine settings komi m b → a ≡ b
ends_one settings komi (Err f) a b x y = x ∙ sym y
ends_one settings komi (Ok s) (Ok a) (Ok b) x y = ap Ok (x.1 ∙ sym y.1)
ends_one settings komi (Ok s) (Ok a) (Err f) x y = absurd (settled_not_choked s.board y.0 x.0 y.1)
ends_one settings komi (Ok s) (Err e) (Ok b) x y = absurd (settled_not_choked s.board x.0 y.0 x.1)
ends_one settings komi (Ok s) (Err e) (Err f) x y = ap Err (x.2 ∙ ap NoLiberty (one_choked s.board x.0 y.0 x.1 y.1) ∙ sym y.2)

one_komi_for : (given : Option ℤ) (text : Option (List ℕ)) (j k : ℤ) → IsKomiFor given text j → IsKomiFor given text k → j ≡ k
one_komi_for (Some n) text j k a b = a ∙ sym b
one_komi_for None None j k a b = a ∙ sym b
one_komi_for None (Some []) j k a b = a ∙ sym b
one_komi_for None (Some (t ∷ ts)) j k a b = one_komi (t ∷ ts) j k a b

one_side : (text : List ℕ) (m n : ℕ) → IsSide text m → IsSide text n → m ≡ n
one_side text m n a b = a.value ∙ sym b.value

square_is : (text : List ℕ) (n : ℕ) (e : Extent) → IsSide text n → IsSize text e → record { columns = n; rows = n } ≡ e
square_is text n e a b =
    let only = square_only text e (side_lacks text n a) b in
    ap₂ (λ i j. record { columns = i; rows = j }) (one_side text n e.columns a only.0) (one_side text n e.columns a only.0 ∙ sym only.1)

one_size : (text : List ℕ) (e f : Extent) → IsSize text e → IsSize text f → e ≡ f
one_size text _ f (square m a) b = square_is text m f a b
one_size text e _ (sides x y c r s b d) (square m a) = sym (square_is text m e a (sides x y c r s b d))
one_size text e f (sides x y c r s b d) (sides z w m n t g h) =
    let at : length x < length text = subst (λ l. length x < length l) (sym s) (joint_within x y) in
    let is : get_or text (length x) 0 ≡ colon = ap (λ l. get_or l (length x) 0) s ∙ at_joint x y in
    let first : LacksColon text (length x) = λ k l i. side_lacks x c b k l (sym (in_front x (colon ∷ y) k l) ∙ ap (λ v. get_or v k 0) (sym s) ∙ i) in
    let p = sides_only text (length x) e at is first (sides x y c r s b d) in
    let q = sides_only text (length x) f at is first (sides z w m n t g h) in
    ap₂ (λ i j. record { columns = i; rows = j }) (one_side (take (length x) text) c m p.columns q.columns) (one_side (drop (length x + 1) text) r n p.rows q.rows)

pub one_board_size : (text : Option (List ℕ)) (e f : Extent) → IsBoardSize text e → IsBoardSize text f → e ≡ f
one_board_size None e f a b = a ∙ sym b
one_board_size (Some text) e f a b = one_size text e f a b

from_komi_one : (settings : Settings) (line : List (List PropertyText)) (e : Extent) (komi : Option ℤ) (a b : Result Setup SetupFault) → FromKomi settings line e komi a → FromKomi settings line e komi b → a ≡ b
from_komi_one settings line e None a b x y = x ∙ sym y
from_komi_one settings line e (Some komi) a b (m, p, f) (n, o, g) =
    let all = then_one (LinePart settings.after settings.turn 0 line) (TerritoryPart settings.territory line) (line_one settings.after settings.turn 0 line) (marks_one settings.territory line) in
    ends_one settings komi m a b f (subst (λ r. EndsMainLine settings komi r b) (all (empty_board e) n m o p) g)

from_size_one : (settings : Settings) (line : List (List PropertyText)) (e : Option Extent) (a b : Result Setup SetupFault) → FromSize settings line e a → FromSize settings line e b → a ≡ b
from_size_one settings line None a b x y = x ∙ sym y
from_size_one settings line (Some e) a b (j, g, x) (k, h, y) =
    let text = value_of (codes "KM") (root line) in
    from_komi_one settings line e j a b x (subst (λ o. FromKomi settings line e o b) (says_one (IsKomiFor settings.komi text) k j (one_komi_for settings.komi text) h g) y)

pub one_position : OnePosition
one_position settings line a b = by_game (is_go (value_of (codes "GM") (root line))) where
  by_game : (go : Bool) → FromGame settings line go a → FromGame settings line go b → a ≡ b
  by_game false x y = x ∙ sym y
  by_game true (m, g, x) (n, h, y) =
      let text = value_of (codes "SZ") (root line) in
      from_size_one settings line m a b x (subst (λ o. FromSize settings line o b) (says_one (IsBoardSize text) n m (one_board_size text) h g) y)
