-- Words ask for one thing.
use Rattle.std.proofs.Common.{◌≡◌, ◌+◌, ◌*◌, ◌≤◌, ℕ, List, [], ◌∷◌, length, get_or, refl, sym, ap, ap₂, ◌∙◌, subst, arith, nat_eq, if◌then◌else◌, Some}
use Rattle.std.specs.Char.{to_ascii_lowercase}
use Rattle.std.proofs.lemmas.Fmt.{length-decimal-le}
use Rattle.std.proofs.lemmas.List.{length-map}
use Rattle.sgf_go.proofs.KomiLemmas.{one_komi}
use Rattle.gtp_words.proofs.OneWordsLaws.{one_colour, one_vertex}
use Rattle.gtp_engine.specs.declared.command.Command.{Command}
use Rattle.gtp_engine.specs.declared.command.Command.TheVariants.{ProtocolVersion, Name, Version, KnownCommand, ListCommands, BoardSize, ClearBoard, Komi, Play, GenMove, LoadSgf, Quit}
use Rattle.gtp_words.specs.declared.vertices.Vertex.{Vertex}
use Rattle.gtp_engine.specs.declared.moves.Wanted.{Wanted}
use Rattle.gtp_engine.specs.declared.moves.Wanted.TheVariants.{At, Pass, Half}
use Rattle.gtp_words.specs.Vertices.{IsVertex}
use Rattle.gtp_words.specs.Words.{lowered}
use Rattle.gtp_engine.specs.Moves.{IsWanted}
use Rattle.gtp_engine.specs.Request.{Asked, Asks, FitsAlone, FitsArguments, FitsOne, FitsTwo, Order, command_word}
use Rattle.gtp_engine.specs.Request.Asked.{something, unknown, misfit}
use Rattle.gtp_engine.specs.Request.Order.{boardsize, genmove, komi, loadsgf, play}

-- a command is told by how long its name is, and by the first letter
command_of : List ℕ → Command
command_of word = pick (length word * 256 + get_or word 0 0)
  where
    pick : ℕ → Command
    pick k =
        if nat_eq k 4208 then ProtocolVersion
        else (if nat_eq k 1134 then Name
        else (if nat_eq k 1910 then Version
        else (if nat_eq k 3435 then KnownCommand
        else (if nat_eq k 3436 then ListCommands
        else (if nat_eq k 2402 then BoardSize
        else (if nat_eq k 2915 then ClearBoard
        else (if nat_eq k 1131 then Komi
        else (if nat_eq k 1136 then Play
        else (if nat_eq k 1895 then GenMove
        else (if nat_eq k 1900 then LoadSgf
        else Quit))))))))))

told_by_word : (c : Command) → command_of (command_word c) ≡ c
unfolding command_of
told_by_word ProtocolVersion = refl
told_by_word Name = refl
told_by_word Version = refl
told_by_word KnownCommand = refl
told_by_word ListCommands = refl
told_by_word BoardSize = refl
told_by_word ClearBoard = refl
told_by_word Komi = refl
told_by_word Play = refl
told_by_word GenMove = refl
told_by_word LoadSgf = refl
told_by_word Quit = refl

one_command : (words : List (List ℕ)) (c d : Command) (rest left : List (List ℕ)) → words ≡ command_word c ∷ rest → words ≡ command_word d ∷ left → (c ≡ d) × (rest ≡ left)
one_command words c d rest left a b =
    let e = sym a ∙ b in
    let word : command_word c ≡ command_word d = cc in
    (sym (told_by_word c) ∙ ap command_of word ∙ told_by_word d, cc)

-- the word of a point is shorter than those of the other moves
short_vertex : (word : List ℕ) (v : Vertex) → IsVertex word v → length word ≤ 3
short_vertex word v h = omega (arith, ap length h.spelt, length-decimal-le 2 v.row (omega arith) (omega (arith, h.few_rows)) (omega (arith, h.few_rows)))

no_vertex : (word other : List ℕ) (v : Vertex) → IsVertex word v → lowered word ≡ other → length other ≡ 4 → ⊥
no_vertex word other v h is four = omega (arith, short_vertex word v h, four, ap length is, length-map word to_ascii_lowercase)

one_wanted : (word : List ℕ) (a b : Wanted) → IsWanted word a → IsWanted word b → a ≡ b
one_wanted word (At v) (At u) a b = ap At (one_vertex word v u a b)
one_wanted word Pass Pass a b = refl
one_wanted word Half Half a b = refl
one_wanted word Pass Half a b = absurd (omega (arith, ap (λ l. get_or l 0 0) (sym a ∙ b)))
one_wanted word Half Pass a b = absurd (omega (arith, ap (λ l. get_or l 0 0) (sym a ∙ b)))
one_wanted word (At v) Pass a b = absurd (no_vertex word _ v a b refl)
one_wanted word (At v) Half a b = absurd (no_vertex word _ v a b refl)
one_wanted word Pass (At u) a b = absurd (no_vertex word _ u b a refl)
one_wanted word Half (At u) a b = absurd (no_vertex word _ u b a refl)

one_alone : (c : Command) (x y : Order) → FitsAlone c x → FitsAlone c y → x ≡ y
one_alone ProtocolVersion x y a b = a ∙ sym b
one_alone Name x y a b = a ∙ sym b
one_alone Version x y a b = a ∙ sym b
one_alone KnownCommand x y a b = absurd a
one_alone ListCommands x y a b = a ∙ sym b
one_alone BoardSize x y a b = absurd a
one_alone ClearBoard x y a b = a ∙ sym b
one_alone Komi x y a b = absurd a
one_alone Play x y a b = absurd a
one_alone GenMove x y a b = absurd a
one_alone LoadSgf x y a b = absurd a
one_alone Quit x y a b = a ∙ sym b

one_argument : (c : Command) (word : List ℕ) (x y : Order) → FitsOne c word x → FitsOne c word y → x ≡ y
one_argument ProtocolVersion word x y a b = absurd a
one_argument Name word x y a b = absurd a
one_argument Version word x y a b = absurd a
one_argument KnownCommand word x y a b = a ∙ sym b
one_argument ListCommands word x y a b = absurd a
one_argument BoardSize word x y (n, a, is) (m, b, also) = is ∙ ap boardsize (a.1 ∙ sym b.1) ∙ sym also
one_argument ClearBoard word x y a b = absurd a
one_argument Komi word x y (j, a, is) (k, b, also) = is ∙ ap komi (one_komi word j k a b) ∙ sym also
one_argument Play word x y a b = absurd a
one_argument GenMove word x y (c, a, is) (d, b, also) = is ∙ ap genmove (one_colour word c d a b) ∙ sym also
one_argument LoadSgf word x y a b = a ∙ sym b
one_argument Quit word x y a b = absurd a

two_arguments : (c : Command) (first second : List ℕ) (x y : Order) → FitsTwo c first second x → FitsTwo c first second y → x ≡ y
two_arguments ProtocolVersion first second x y a b = absurd a
two_arguments Name first second x y a b = absurd a
two_arguments Version first second x y a b = absurd a
two_arguments KnownCommand first second x y a b = absurd a
two_arguments ListCommands first second x y a b = absurd a
two_arguments BoardSize first second x y a b = absurd a
two_arguments ClearBoard first second x y a b = absurd a
two_arguments Komi first second x y a b = absurd a
two_arguments Play first second x y (c, v, a, moved, is) (d, u, b, also, too) = is ∙ ap₂ play (one_colour first c d a b) (one_wanted second v u moved also) ∙ sym too
two_arguments GenMove first second x y a b = absurd a
two_arguments LoadSgf first second x y (n, a, few, is) (m, b, also, too) =
    let same : n ≡ m = omega (arith, a.1, b.1) in is ∙ ap (λ k. loadsgf first (Some k)) same ∙ sym too
two_arguments Quit first second x y a b = absurd a

one_order : (c : Command) (rest : List (List ℕ)) (x y : Order) → FitsArguments c rest x → FitsArguments c rest y → x ≡ y
one_order c [] x y a b = one_alone c x y a b
one_order c (word ∷ []) x y a b = one_argument c word x y a b
one_order c (first ∷ second ∷ []) x y a b = two_arguments c first second x y a b
one_order c (first ∷ second ∷ third ∷ more) x y a b = absurd a

pub one_asked : (words : List (List ℕ)) (x y : Asked) → Asks words x → Asks words y → x ≡ y
one_asked words (something x) (something y) (c, rest, is, a) (d, left, also, b) =
    let (command, arguments) = one_command words c d rest left is also in
    ap something (one_order d left x y (subst (λ r. FitsArguments d r x) arguments (subst (λ z. FitsArguments z rest x) command a)) b)
one_asked words (something x) unknown (c, rest, is, a) b = absurd (b c rest is)
one_asked words (something x) misfit (c, rest, is, a) (d, left, also, none) =
    let (command, arguments) = one_command words c d rest left is also in
    absurd (none x (subst (λ r. FitsArguments d r x) arguments (subst (λ z. FitsArguments z rest x) command a)))
one_asked words unknown (something y) a (d, left, also, b) = absurd (a d left also)
one_asked words unknown unknown a b = refl
one_asked words unknown misfit a (d, left, also, b) = absurd (a d left also)
one_asked words misfit (something y) (c, rest, is, none) (d, left, also, b) =
    let (command, arguments) = one_command words d c left rest also is in
    absurd (none y (subst (λ r. FitsArguments c r y) arguments (subst (λ z. FitsArguments z left y) command b)))
one_asked words misfit unknown (c, rest, is, none) b = absurd (b c rest is)
one_asked words misfit misfit a b = refl
