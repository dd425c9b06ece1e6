-- Where alike states reply alike, a session has one text.
use Rattle.std.proofs.Common.{Bool, true, false, ◌≡◌, ℕ, zero, suc, ◌+◌, ◌≤◌, ◌<◌, List, [], ◌++◌, inl, inr, refl, sym, ap, ap₂, ◌∙◌, subst, arith, append_assoc, append-nil}
use Rattle.std.proofs.lemmas.Bool.{cases_eq, cases_lt}
use Rattle.desk_io.specs.Lines.{IsLine}
use Rattle.desk_io.proofs.LineLemmas.{one_line}
use Rattle.gtp_words.specs.declared.end.GtpEnd.{GtpEnd}
use Rattle.gtp_words.specs.declared.end.GtpEnd.TheVariants.{Quit, InputEnded, ReadFault, WriteFault, TooManyLines, Memory}
use Rattle.gtp_words.specs.Laws.{HaveOneBeginning, HaveOneText, ReplyAlike, StandAlike, has_load}
use Rattle.gtp_words.specs.Loads.{Fate, IsLoadNumbered}
use Rattle.gtp_words.specs.Loads.Fate.{no_load, made, failed}
use Rattle.gtp_words.specs.Sessions.{Answers, Ends, IsSession, Standing, TakesLine, TakesLines}

-- a load that both have comes to the same, and is numbered alike
one_fate : (failing : List ℕ) (f g : Fate) (n m k : ℕ) → has_load f ≡ has_load g → IsLoadNumbered failing f n m → IsLoadNumbered failing g n k → (f ≡ g) × (m ≡ k)
one_fate failing no_load no_load n m k e a b = (refl, a ∙ sym b)
one_fate failing made made n m k e a b = (refl, a.0 ∙ sym b.0)
one_fate failing failed failed n m k e a b = (refl, a.0 ∙ sym b.0)
one_fate failing made failed n m k e a b = absurd (a.1 b.1)
one_fate failing failed made n m k e a b = absurd (b.1 a.1)
one_fate failing no_load made n m k e a b = cc
one_fate failing no_load failed n m k e a b = cc
one_fate failing made no_load n m k e a b = cc
one_fate failing failed no_load n m k e a b = cc

module _ (A : Type 0) (Reply : Answers A) (Alike : A → A → Type 0) (reply : ReplyAlike A Reply Alike) (failing : List ℕ) where
  abbrev Stand : Standing A → Standing A → Type 0
  Stand a b = StandAlike A Alike a b

  -- one line
  one_taken : (a b c d : Standing A) (x y : List ℕ) (last final : Bool) → Stand a b → TakesLine A Reply failing a x c last → TakesLine A Reply failing b y d final
      → (x ≡ y) × Stand c d × (last ≡ final)
  one_taken a b c d x y last final like t u =
      let (line, left) = one_line 1024 b.left t.line u.line c.left d.left (subst (λ l. IsLine 1024 l t.line c.left) like.left t.taken) u.taken in
      let said : Reply u.line t.fate a.state x c.state last = subst (λ l. Reply l t.fate a.state x c.state last) line t.answered in
      let load = reply.loads u.line t.fate u.fate a.state b.state c.state d.state x y last final like.state said u.answered in
      let (fate, loads) = one_fate failing t.fate u.fate b.loads c.loads d.loads load (subst (λ n. IsLoadNumbered failing t.fate n c.loads) like.loads t.numbered) u.numbered in
      let (text, state, end) = reply.replies u.line u.fate a.state b.state c.state d.state x y last final like.state (subst (λ f. Reply u.line f a.state x c.state last) fate said) u.answered in
      (text, record { state = state; loads = loads; read = t.counted ∙ ap (λ n. n + 1) like.read ∙ sym u.counted; left = left }, end)

  -- so many lines
  one_lines : (n : ℕ) (a b c d : Standing A) (x y : List ℕ) → Stand a b → TakesLines A Reply failing n a x c → TakesLines A Reply failing n b y d → (x ≡ y) × Stand c d
  one_lines zero a b c d x y like t u = (t.0 ∙ sym u.0, subst (λ z. Stand z d) (sym t.1) (subst (Stand a) (sym u.1) like))
  one_lines (suc n) a b c d x y like t u =
      let e = one_lines n a b t.0 u.0 t.1.0 u.1.0 like t.1.2 u.1.2 in
      let f = one_taken t.0 u.0 c d t.1.1 u.1.1 false false e.1 t.1.3 u.1.3 in
      (t.1.4 ∙ ap₂ (λ p q. p ++ q) e.0 f.0 ∙ sym u.1.4, f.1)

  -- no line follows an end
  no_line : (a b c d : Standing A) (x y : List ℕ) (end : GtpEnd) → Stand a b → TakesLine A Reply failing a x c false → Ends A Reply failing b y d end → ⊥
  no_line a b c d x y Quit like t e = let same = (one_taken a b c d x y false true like t e).2 in cc
  no_line a b c d x y InputEnded like t e = t.some (like.left ∙ e.1)
  no_line a b c d x y TooManyLines like t e = omega (arith, t.few, like.read, e.0)
  no_line a b c d x y ReadFault like t e = e
  no_line a b c d x y WriteFault like t e = e
  no_line a b c d x y Memory like t e = e

  one_end : (a b c d : Standing A) (x y : List ℕ) (end final : GtpEnd) → Stand a b → Ends A Reply failing a x c end → Ends A Reply failing b y d final
      → (x ≡ y) × Stand c d × (end ≡ final)
  one_end a b c d x y Quit Quit like e f = let (text, stand, last) = one_taken a b c d x y true true like e f in (text, stand, refl)
  one_end a b c d x y Quit InputEnded like e f = absurd (e.some (like.left ∙ f.1))
  one_end a b c d x y Quit TooManyLines like e f = absurd (omega (arith, e.few, like.read, f.0))
  one_end a b c d x y InputEnded Quit like e f = absurd (f.some (sym like.left ∙ e.1))
  one_end a b c d x y InputEnded InputEnded like e f = (e.2 ∙ sym f.2, subst (λ z. Stand z d) (sym e.3) (subst (Stand a) (sym f.3) like), refl)
  one_end a b c d x y InputEnded TooManyLines like e f = absurd (omega (arith, e.0, like.read, f.0))
  one_end a b c d x y TooManyLines Quit like e f = absurd (omega (arith, f.few, like.read, e.0))
  one_end a b c d x y TooManyLines InputEnded like e f = absurd (omega (arith, f.0, like.read, e.0))
  one_end a b c d x y TooManyLines TooManyLines like e f = (e.1 ∙ sym f.1, subst (λ z. Stand z d) (sym e.2) (subst (Stand a) (sym f.2) like), refl)
  one_end a b c d x y ReadFault final like e f = absurd e
  one_end a b c d x y WriteFault final like e f = absurd e
  one_end a b c d x y Memory final like e f = absurd e
  one_end a b c d x y Quit ReadFault like e f = absurd f
  one_end a b c d x y Quit WriteFault like e f = absurd f
  one_end a b c d x y Quit Memory like e f = absurd f
  one_end a b c d x y InputEnded ReadFault like e f = absurd f
  one_end a b c d x y InputEnded WriteFault like e f = absurd f
  one_end a b c d x y InputEnded Memory like e f = absurd f
  one_end a b c d x y TooManyLines ReadFault like e f = absurd f
  one_end a b c d x y TooManyLines WriteFault like e f = absurd f
  one_end a b c d x y TooManyLines Memory like e f = absurd f

  -- fewer lines have a front part of the text
  front_lines : (n m : ℕ) (a b c d : Standing A) (x y : List ℕ) → n ≤ m → Stand a b → TakesLines A Reply failing n a x c → TakesLines A Reply failing m b y d
      → (more : List ℕ) × (y ≡ x ++ more)
  front_lines zero zero a b c d x y le like t u = ([], u.0 ∙ sym (append-nil x ∙ t.0))
  front_lines (suc n) zero a b c d x y le like t u = absurd (omega (arith, le))
  front_lines n (suc m) a b c d x y le like t u = elim (cases_eq n (suc m)) [
    | inl all ↦ (let e = one_lines (suc m) a b c d x y like (subst (λ k. TakesLines A Reply failing k a x c) all t) u in ([], sym e.0 ∙ sym (append-nil x)))
    | inr few ↦ (let e = front_lines n m a b c u.0 x u.1.0 (omega (arith, le, few)) like t u.1.2 in (e.0 ++ u.1.1, u.1.4 ∙ ap (λ l. l ++ u.1.1) e.1 ∙ append_assoc x e.0 u.1.1))
  ]

  -- no more lines than to an end
  no_more : (n m : ℕ) (a b c d e : Standing A) (x y z : List ℕ) (end : GtpEnd) → m < n → Stand a b → TakesLines A Reply failing n a x c → TakesLines A Reply failing m b y d
      → Ends A Reply failing d z e end → ⊥
  no_more zero m a b c d e x y z end lt like t u ends = omega (arith, lt)
  no_more (suc n) m a b c d e x y z end lt like t u ends = elim (cases_eq m n) [
    | inl all ↦ (
        let same = one_lines m a b t.0 d t.1.0 y like (subst (λ k. TakesLines A Reply failing k a t.1.0 t.0) (sym all) t.1.2) u in
        no_line t.0 d c e t.1.1 z end same.1 t.1.3 ends)
    | inr few ↦ no_more n m a b t.0 d e t.1.0 y z end (omega (arith, lt, few)) like t.1.2 u ends
  ]

-- the same with the two sides turned
turned : (A : Type 0) (Reply : Answers A) (Alike : A → A → Type 0) → ReplyAlike A Reply Alike → ReplyAlike A Reply (λ x y. Alike y x)
turned A Reply Alike reply = record {
  loads = λ line f g a b c d s t last final like x y. sym (reply.loads line g f b a d c t s final last like y x);
  replies = λ line f a b c d s t last final like x y. let (text, state, end) = reply.replies line f b a d c t s final last like y x in (sym text, state, sym end);
}

stand_turned : (A : Type 0) (Alike : A → A → Type 0) (a b : Standing A) → StandAlike A Alike a b → StandAlike A (λ x y. Alike y x) b a
stand_turned A Alike a b s = record { state = s.state; loads = sym s.loads; read = sym s.read; left = sym s.left }

module _ (A : Type 0) (Reply : Answers A) (Alike : A → A → Type 0) (reply : ReplyAlike A Reply Alike) (failing : List ℕ) (a b : Standing A) (like : StandAlike A Alike a b) where
  one_session : (c d : Standing A) (s t : List ℕ) (end final : GtpEnd) → IsSession A Reply failing a s c end → IsSession A Reply failing b t d final
      → (s ≡ t) × StandAlike A Alike c d × (end ≡ final)
  one_session c d s t end final p q = elim (cases_lt p.number q.number) [
    | inl lt ↦ absurd (no_more A Reply (λ x y. Alike y x) (turned A Reply Alike reply) failing q.number p.number b a q.before_end p.before_end c q.first p.first p.then end lt
        (stand_turned A Alike a b like) q.turns p.turns p.ends)
    | inr ge ↦ elim (cases_eq p.number q.number) [
      | inl all ↦ (
          let e = one_lines A Reply Alike reply failing q.number a b p.before_end q.before_end p.first q.first like
          (subst (λ k. TakesLines A Reply failing k a p.first p.before_end) all p.turns) q.turns in
          let f = one_end A Reply Alike reply failing p.before_end q.before_end c d p.then q.then end final e.1 p.ends q.ends in
          (p.whole ∙ ap₂ (λ x y. x ++ y) e.0 f.0 ∙ sym q.whole, f.1, f.2))
      | inr more ↦ absurd (no_more A Reply Alike reply failing p.number q.number a b p.before_end q.before_end d p.first q.first q.then final (omega (arith, ge, more))
          like p.turns q.turns q.ends)
    ]
  ]

  -- lines that were answered
  lines_in_front : (n : ℕ) (c d : Standing A) (x t : List ℕ) (end : GtpEnd) → TakesLines A Reply failing n a x c → IsSession A Reply failing b t d end → (more : List ℕ) × (t ≡ x ++ more)
  lines_in_front n c d x t end u q = elim (cases_lt q.number n) [
    | inl lt ↦ absurd (no_more A Reply Alike reply failing n q.number a b c q.before_end d x q.first q.then end lt like u q.turns q.ends)
    | inr ge ↦ (
        let e = front_lines A Reply Alike reply failing n q.number a b c q.before_end x q.first (omega (arith, ge)) like u q.turns in
        (e.0 ++ q.then, q.whole ∙ ap (λ l. l ++ q.then) e.1 ∙ append_assoc x e.0 q.then))
  ]

  -- and the line after them
  line_in_front : (n : ℕ) (m c d : Standing A) (x y t : List ℕ) (last : Bool) (end : GtpEnd) → TakesLines A Reply failing n a x m → TakesLine A Reply failing m y c last
      → IsSession A Reply failing b t d end → (more : List ℕ) × (t ≡ (x ++ y) ++ more)
  line_in_front n m c d x y t false end u l q = lines_in_front (suc n) c d (x ++ y) t end (m, (x, y, u, l, refl)) q
  line_in_front n m c d x y t true end u l q =
      let e = one_session c d (x ++ y) t Quit end (record { number = n; before_end = m; first = x; then = y; turns = u; ends = l; whole = refl }) q in
      ([], sym e.0 ∙ sym (append-nil (x ++ y)))

pub have_one_text : (A : Type 0) (Reply : Answers A) (Alike : A → A → Type 0) → HaveOneText A Reply Alike
have_one_text A Reply Alike reply failing a b c d s t end final like p q = one_session A Reply Alike reply failing a b like c d s t end final p q

pub have_one_beginning : (A : Type 0) (Reply : Answers A) (Alike : A → A → Type 0) → HaveOneBeginning A Reply Alike
have_one_beginning A Reply Alike reply failing a b c d s t end like (inl (n, turns, few)) q = lines_in_front A Reply Alike reply failing a b like n c d s t end turns q
have_one_beginning A Reply Alike reply failing a b c d s t end like (inr (n, m, first, then, more, last, turns, line, is)) q =
    let e = line_in_front A Reply Alike reply failing a b like n m c d first (then ++ more) t last end turns line q in
    (more ++ e.0, e.1 ∙ four first then more e.0 ∙ ap (λ x. x ++ (more ++ e.0)) (sym is))
  where
    four : (x y z w : List ℕ) → (x ++ (y ++ z)) ++ w ≡ (x ++ y) ++ (z ++ w)
    four x y z w = simp append_assoc
