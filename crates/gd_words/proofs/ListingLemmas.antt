-- Words in pairs, and the options that they spell.
use Rattle.std.proofs.Common.{append_assoc, ◌==◌, false, length-append, take, drop, ◌-◌, ◌≤◌, ◌≡◌, ◌≢◌, ◌<◌, ◌++◌, ◌∷◌, [], ℕ, List, Some, None, length, get_or, arith, refl, sym, ap, ap₂, ◌∙◌, subst}
use Rattle.std.specs.Prelude.{IfNone, Option}
use Rattle.std.specs.List.{All, AllPairs}
use Rattle.std.proofs.lemmas.List.Elements.{All-push}
use Rattle.std.proofs.Math.Seq.{get_or-append_seam}
use Rattle.std.proofs.lemmas.List.{get_or_append_left, take_all}
use Rattle.std.proofs.lemmas.List.Quantifiers.{all_pairs_push}
use Rattle.gd_words.specs.declared.choice.Choice.{Choice}
use Rattle.gd_words.specs.declared.chosen.Chosen.{Chosen}
use Rattle.gd_words.specs.Choice.{IsChoice, name_of}
use Rattle.gd_words.specs.Task.{Task, GoesWith}
use Rattle.gd_words.specs.Job.{Spell, AreChoices}
use Rattle.gd_words.specs.inner.Reading.{IsWith}
use Rattle.gd_words.specs.Viewed.{texts}
use denote.Ref.{Bor}
use Rattle.gd_words.proofs.OneOptionLemmas.{one_choice}
use Rattle.gd_words.proofs.SayingLemmas.{IsOld, fresh, given, say_more, say_nothing, IsUnsaid}

spell_more : (words : List (List ℕ)) (xs : List Choice) (name word : List ℕ) (x : Choice) → Spell words xs → IsChoice name word x → Spell (words ++ name ∷ word ∷ []) (xs ++ x ∷ [])
spell_more [] [] name word x s c = (c, tt)
spell_more [] (y ∷ ys) name word x s c = absurd s
spell_more (n ∷ []) [] name word x s c = absurd s
spell_more (n ∷ []) (y ∷ ys) name word x s c = absurd s
spell_more (n ∷ v ∷ words) [] name word x s c = absurd s
spell_more (n ∷ v ∷ words) (y ∷ ys) name word x s c = (s.0, spell_more words ys name word x s.1 c)

-- the options behind those of the words in front
split : (front left : List (List ℕ)) (xs ys : List Choice) → Spell front xs → Spell (front ++ left) ys → (back : List Choice) × (ys ≡ xs ++ back) × Spell left back
split [] left [] ys a b = (ys, refl, b)
split [] left (x ∷ xs) ys a b = absurd a
split (n ∷ []) left [] ys a b = absurd a
split (n ∷ []) left (x ∷ xs) ys a b = absurd a
split (n ∷ v ∷ front) left [] ys a b = absurd a
split (n ∷ v ∷ front) left (x ∷ xs) [] a b = absurd b
split (n ∷ v ∷ front) left (x ∷ xs) (y ∷ ys) a b =
    let r = split front left xs ys a.1 b.1 in
    (r.0, ap₂ (λ z zs. z ∷ zs) (one_choice n v y x b.0 a.0) r.1, r.2)

-- words spell one list of options
pub one_spelling : (words : List (List ℕ)) (xs ys : List Choice) → Spell words xs → Spell words ys → xs ≡ ys
one_spelling [] [] [] a b = refl
one_spelling [] (x ∷ xs) ys a b = absurd a
one_spelling [] [] (y ∷ ys) a b = absurd b
one_spelling (n ∷ []) [] ys a b = absurd a
one_spelling (n ∷ []) (x ∷ xs) ys a b = absurd a
one_spelling (n ∷ v ∷ words) [] ys a b = absurd a
one_spelling (n ∷ v ∷ words) (x ∷ xs) [] a b = absurd b
one_spelling (n ∷ v ∷ words) (x ∷ xs) (y ∷ ys) a b = ap₂ (λ z zs. z ∷ zs) (one_choice n v x y a.0 b.0) (one_spelling words xs ys a.1 b.1)

-- the options of the words in front are read
pub record IsRead (task : Task) (whole left : List (List ℕ)) (o : Chosen) : Type 0 where
  pub front : List (List ℕ)
  pub parts : whole ≡ front ++ left
  pub read : AreChoices task front o

pub read_start : (task : Task) (words : List (List ℕ)) (o : Chosen) → IsUnsaid o → IsRead task words words o
read_start task words o e = record {
  front = [];
  parts = refl;
  read = record { choices = []; spelt = tt; fit = λ k d h. absurd (omega (arith, h)); once = λ i j d h m. absurd (omega (arith, m)); said = say_nothing o e };
}

pub read_more : (task : Task) (whole left : List (List ℕ)) (name word : List ℕ) (o p : Chosen) (x : Choice) → IsRead task whole (name ∷ word ∷ left) o → IsChoice name word x → GoesWith task x → IsWith o x p → IsRead task whole left p
read_more task whole left name word o p x r c g w = record {
  front = r.front ++ name ∷ word ∷ [];
  parts = r.parts ∙ sym (append_assoc r.front (name ∷ word ∷ []) left);
  read = record {
    choices = r.read.choices ++ x ∷ [];
    spelt = spell_more r.front r.read.choices name word x r.read.spelt c;
    fit = All-push (GoesWith task) r.read.choices x r.read.fit g;
    once = all_pairs_push (λ y z. name_of y ≢ name_of z) r.read.choices x r.read.once (fresh r.read.choices o p x r.read.said w);
    said = say_more r.read.choices o p x r.read.said w;
  };
}

pub read_lone : (task : Task) (whole : List (List ℕ)) (word : List ℕ) (o p : Chosen) → IsRead task whole (word ∷ []) o → AreChoices task whole p → ⊥
read_lone task whole word o p r a =
    let s = split r.front (word ∷ []) r.read.choices a.choices r.read.spelt (subst (λ words. Spell words a.choices) r.parts a.spelt) in
    none_alone s.0 s.2
  where
    none_alone : (xs : List Choice) → Spell (word ∷ []) xs → ⊥
    none_alone [] h = h
    none_alone (x ∷ xs) h = h

-- what the next two words say, where all words are options
pub record IsNext (task : Task) (name word : List ℕ) (o : Chosen) : Type 0 where
  pub choice : Choice
  pub said : IsChoice name word choice
  pub fits : GoesWith task choice
  pub new : ((p : Chosen) → ¬ IsWith o choice p) → ⊥

-- behind some options stands one that fits and is new
behind : (task : Task) (front xs : List Choice) (x : Choice) → All (GoesWith task) (front ++ x ∷ xs) → AllPairs (λ y z. name_of y ≢ name_of z) (front ++ x ∷ xs) → GoesWith task x × (IsOld front (name_of x) → ⊥)
behind task front xs x f n = (
  subst (GoesWith task) (get_or-append_seam front x xs x) (f (length front) x short),
  λ old. n old.1.0 (length front) old.0 old.1.1 short
      (ap name_of (get_or_append_left front (x ∷ xs) old.0 old.1.0 old.1.1 ∙ old.1.2) ∙ old.2 ∙ ap name_of (sym (get_or-append_seam front x xs old.0))),
)
  where
    short : length front < length (front ++ x ∷ xs)
    short = omega (arith, length-append front (x ∷ xs))

pub read_next : (task : Task) (whole left : List (List ℕ)) (name word : List ℕ) (o p : Chosen) → IsRead task whole (name ∷ word ∷ left) o → AreChoices task whole p → IsNext task name word o
read_next task whole left name word o p r a =
    let s = split r.front (name ∷ word ∷ left) r.read.choices a.choices r.read.spelt (subst (λ words. Spell words a.choices) r.parts a.spelt) in
    by_back s.0 s.2 (subst (All (GoesWith task)) s.1 a.fit) (subst (AllPairs (λ x y. name_of x ≢ name_of y)) s.1 a.once)
  where
    by_back : (back : List Choice) → Spell (name ∷ word ∷ left) back → All (GoesWith task) (r.read.choices ++ back) → AllPairs (λ x y. name_of x ≢ name_of y) (r.read.choices ++ back) → IsNext task name word o
    by_back [] h f n = absurd h
    by_back (x ∷ xs) h f n =
        let b = behind task r.read.choices xs x f n in
        record { choice = x; said = h.0; fits = b.0; new = λ none. b.1 (given r.read.choices o x r.read.said none) }

pub at_none : {A : Type 0} (r : Option A) (P : Type 0) → r ≡ None → P → IfNone r P
at_none None P e p = p
at_none (Some x) P e p = cc

pub two_first : (left : List (Bor (List ℕ))) (d e : Bor (List ℕ)) → 2 ≤ length left → texts left ≡ (get_or left 0 d).now ∷ (get_or left 1 e).now ∷ texts (take (length left - 2) (drop 2 left))
two_first [] d e h = absurd (omega (arith, h))
two_first (a ∷ []) d e h = absurd (omega (arith, h))
two_first (a ∷ b ∷ left) d e h = ap (λ words. a.now ∷ b.now ∷ texts words) (sym (take_all (length (a ∷ b ∷ left) - 2) left (omega arith)))

pub one_first : (left : List (Bor (List ℕ))) (d : Bor (List ℕ)) → 1 ≤ length left → texts left ≡ (get_or left 0 d).now ∷ texts (take (length left - 1) (drop 1 left))
one_first [] d h = absurd (omega (arith, h))
one_first (a ∷ left) d h = ap (λ words. a.now ∷ texts words) (sym (take_all (length (a ∷ left) - 1) left (omega arith)))

-- two words, one behind the other
pub two_words : (left : List (Bor (List ℕ))) (d e : Bor (List ℕ)) → 1 ≤ length left → 1 ≤ length (take (length left - 1) (drop 1 left))
    → texts left ≡ (get_or left 0 d).now ∷ (get_or (take (length left - 1) (drop 1 left)) 0 e).now
    ∷ texts (take (length (take (length left - 1) (drop 1 left)) - 1) (drop 1 (take (length left - 1) (drop 1 left))))
two_words left d e h k = one_first left d h ∙ ap (λ words. (get_or left 0 d).now ∷ words) (one_first (take (length left - 1) (drop 1 left)) e k)

pub read_two : (task : Task) (whole : List (List ℕ)) (left : List (Bor (List ℕ))) (d e : Bor (List ℕ)) (o p : Chosen) (x : Choice) → 2 ≤ length left → IsRead task whole (texts left) o
    → IsChoice (get_or left 0 d).now (get_or left 1 e).now x → GoesWith task x → IsWith o x p → IsRead task whole (texts (take (length left - 2) (drop 2 left))) p
read_two task whole left d e o p x h r c g w = read_more task whole (texts (take (length left - 2) (drop 2 left))) (get_or left 0 d).now (get_or left 1 e).now o p x (subst (λ words. IsRead task whole words o) (two_first left d e h) r) c g w

pub next_two : (task : Task) (whole : List (List ℕ)) (left : List (Bor (List ℕ))) (d e : Bor (List ℕ)) (o p : Chosen) → 2 ≤ length left → IsRead task whole (texts left) o
    → AreChoices task whole p → IsNext task (get_or left 0 d).now (get_or left 1 e).now o
next_two task whole left d e o p h r a = read_next task whole (texts (take (length left - 2) (drop 2 left))) (get_or left 0 d).now (get_or left 1 e).now o p (subst (λ words. IsRead task whole words o) (two_first left d e h) r) a

pub next_one : (task : Task) (whole : List (List ℕ)) (left : List (Bor (List ℕ))) (o p : Chosen) → length left < 2 → (length left == 0) ≡ false → IsRead task whole (texts left) o → AreChoices task whole p → ⊥
next_one task whole [] o p h n r a = cc
next_one task whole (b ∷ []) o p h n r a = read_lone task whole b.now o p r a
next_one task whole (b ∷ c ∷ left) o p h n r a = absurd (omega (arith, h))
