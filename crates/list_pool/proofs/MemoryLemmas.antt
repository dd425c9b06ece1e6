-- What the walks of the pointer functions share. A block begins at o bytes into b.
--     word_made      a value of one pointer
--     first_empty, one_more      the first empty place is taken out, and put back with a number in it
--     of_room, to_room      room for an array is a row of empty places, and any row is room
--     items_seen      a run of numbers is seen
use mathlib.Core.Path.{◌≡◌, refl, sym, ap, subst, ◌∙◌}
use Prim.Native.Nat.{ℕ, zero, suc, ◌+◌, ◌-◌, ◌*◌, ◌<◌, ◌≤◌}
use native.Mathlib.Omega.{arith}
use mathlib.Core.List.{List, [], ◌∷◌, ◌++◌, map}
use lib.ListN.{length, take, drop, replicate, length-append, length-replicate}
use seplogic.Ra.Ura.{Ura}
use base.Fraction.{full_share}
use mir.Syntax.{Body, w64, ty_int, ty_array}
use mir.Val.{Val, vint, vstruct, vcons, vnil, of_list}
use base.Logic.{ent, sep, emp, via, snd∗, id⊢, mono_r}
use base.Fml.{Fml, Lft, ftrue, fsep, fat, froom}
use types.Logic.{Logic, sem}
use prog.Wp.{Env, Calls, Loops, Wp, after_seq, after_block}
use types.Kit.{Post, any_q, post, Item, Goal, Step, step, ‵, ◌⊛◌, ◌$◌, ◌∵◌, !, qed, by, move, keep, drop as skip, use1, use2, split, frame, fsplit, fjoin, fpack, feq_i, rewrite, done}
use denote.RattleType.{RattleType, Valss}
use denote.Builtin.{u64, unit}
use denote.Plain.{uint_in, uint_out}
use denote.RawPtr.{Ptr, RawPtr, ptr_val}
use denote.Shadow.{shadow, makes_shadow}
use denote.Signature.{Slot, plain}
use denote.Slice.{elements_shared}
use denote.Steps.{nothing}
use denote.Struct.Struct.{Shape, Struct, within}
use denote.Struct.Declared as Declared
use denote.Struct.Tuple.{Tuple, tuple_type}
use Rattle.std.specs.Prelude.{Option, Some, None, slice_range}
use Rattle.std.proofs.lemmas.List.{length-map}
use Rattle.std_alloc.proofs.RcSteps.{word}
use Rattle.list_pool.specs.inner.Ownership.{place, places, place_lent, all_lent, filled}

-- a function's k-th parameter
abbrev pub slot_at : {n : ℕ} → ℕ → List (Slot n) → Slot n
slot_at k [] = plain (λ _. unit)
slot_at zero (s ∷ ss) = s
slot_at (suc k) (s ∷ ss) = slot_at k ss

-- the code that runs once an arm has ended
abbrev pub then_runs : {M : Type 1} {𝓤 : Ura M} (𝓛 : Logic 𝓤) → Calls 𝓤 𝓛.H → Loops 𝓤 𝓛.H → Env 𝓤 𝓛.H → Body → Post 𝓤 𝓛.H → Post 𝓤 𝓛.H
then_runs {𝓤 = 𝓤} 𝓛 C Λ E b q = any_q (after_seq 𝓤 𝓛.H (Wp 𝓤 𝓛.H C Λ E b (post 𝓤 𝓛.H q)) (post 𝓤 𝓛.H q))

abbrev pub out_of_block : {M : Type 1} {𝓤 : Ura M} (𝓛 : Logic 𝓤) → Post 𝓤 𝓛.H → Post 𝓤 𝓛.H
out_of_block {𝓤 = 𝓤} 𝓛 q = any_q (after_block 𝓤 𝓛.H (post 𝓤 𝓛.H q))

abbrev one_field : Shape
one_field = record { name = []; args = []; types = []; fields = RawPtr ∷ [] }

abbrev pub Word : RattleType
Word = Struct one_field

-- the machine value of `Places`, which has no field, and of `Deed`, which has one field of no bytes
abbrev pub blank : Val
blank = vstruct vnil

abbrev pub mark : Val
mark = vstruct (vcons blank vnil)

abbrev pub Blank : RattleType
Blank = Struct (record { name = []; args = []; types = []; fields = [] })

abbrev pub Mark : RattleType
Mark = Struct (record { name = []; args = []; types = []; fields = Blank ∷ [] })

pub blank_told : (vs : List Val) → shadow (Blank.own_val tt vs) → vs ≡ blank ∷ []
blank_told vs s = s.1.0

pub blank_made : {M : Type 1} {𝓤 : Ura M} (𝓛 : Logic 𝓤) → ent 𝓤 (emp 𝓤) (sem 𝓛 (Blank.own_val tt (blank ∷ [])))
blank_made 𝓛 = makes_shadow 𝓛 (Blank.own_val tt (blank ∷ [])) (λ _. (tt, tt)) (tt, (refl, tt))

pub mark_told : (vs : List Val) → shadow (Mark.own_val (tt, tt) vs) → vs ≡ mark ∷ []
mark_told vs s = s.1.0 ∙ (λ i. vstruct (of_list (s.1.1.0.1.0 i ++ [])) ∷ [])

pub mark_made : {M : Type 1} {𝓤 : Ura M} (𝓛 : Logic 𝓤) → ent 𝓤 (emp 𝓤) (sem 𝓛 (Mark.own_val (tt, tt) (mark ∷ [])))
mark_made 𝓛 = makes_shadow 𝓛 (Mark.own_val (tt, tt) (mark ∷ [])) (λ _. (tt, ((λ _. (tt, tt)), tt))) ((blank ∷ [], tt), (refl, ((tt, (refl, tt)), tt)))

abbrev pub three_val : Val → Val → Val → Val
three_val u v w = vstruct (vcons u (vcons v (vcons w vnil)))

pub three_of : {M : Type 1} {𝓤 : Ura M} (𝓛 : Logic 𝓤) (R S T : RattleType) (x : R.Denot) (y : S.Denot) (z : T.Denot) (u v w : Val)
    → ent 𝓤 (sep 𝓤 (sem 𝓛 (R.own_val x (u ∷ []))) (sep 𝓤 (sem 𝓛 (S.own_val y (v ∷ []))) (sem 𝓛 (T.own_val z (w ∷ []))))) (sem 𝓛 ((Tuple (R ∷ S ∷ T ∷ [])).own_val (x, y, z) (three_val u v w ∷ [])))
three_of 𝓛 R S T x y z u v w =
    qed 𝓛 (‵ (R.own_val x (u ∷ [])) ∷ ‵ (S.own_val y (v ∷ [])) ∷ ‵ (T.own_val z (w ∷ [])) ∷ []) ∵ nothing ! $ move ! (3 ∷ 0 ∷ []) $ fjoin ! $ move ! (2 ∷ 0 ∷ []) $ fjoin ! $ move ! (1 ∷ 0 ∷ []) $ fjoin ! $
    feq_i ! (List Val) (three_val u v w ∷ []) (three_val u v w ∷ []) refl $ fjoin ! $
    fpack ! (Valss (R ∷ S ∷ T ∷ [])) (within (Declared.shape (tuple_type (R ∷ S ∷ T ∷ []))) (x, (y, (z, tt))) (three_val u v w ∷ [])) (u ∷ [], (v ∷ [], (w ∷ [], tt))) $ done !

module _ {M : Type 1} {𝓤 : Ura M} {𝓛 : Logic 𝓤} {K : Type 0} {Γ : List (Item 𝓤)} {G : Goal 𝓤 𝓛.H} where
  pub word_made : K → (c : Ptr) → Step K 𝓛 (‵ (Word.own_val (c, tt) (word c ∷ [])) ∷ Γ) G Γ G
  word_made t c = step (λ s.
      nothing t $ feq_i t (List Val) (ptr_val c ∷ []) (ptr_val c ∷ []) refl $ fjoin t $ feq_i t (List Val) (word c ∷ []) (word c ∷ []) refl $ fjoin t $
      fpack t (Valss (RawPtr ∷ [])) (within one_field (c, tt) (word c ∷ [])) (ptr_val c ∷ [], tt) $ s)

-- what is owned of a value of one pointer tells it
pub word_told : (c : Ptr) (vs : List Val) → shadow (Word.own_val (c, tt) vs) → vs ≡ word c ∷ []
word_told c vs s = s.1.0 ∙ (λ i. vstruct (of_list (s.1.1.0 i ++ [])) ∷ [])

-- the empty places of a row that isn't full
pub empties : (items : List ℕ) (room : ℕ) → length items < room → filled items room ≡ map Some items ++ None ∷ replicate (room - suc (length items)) None
unfolding filled
empties items room lt = let more : room - length items ≡ suc (room - suc (length items)) = omega arith in ap (λ k. map Some items ++ replicate k None) more

filled_push : (items : List ℕ) (x : ℕ) (rest : List (Option ℕ)) → map Some (items ++ x ∷ []) ++ rest ≡ map Some items ++ Some x ∷ rest
filled_push [] x rest = refl
filled_push (y ∷ items) x rest = ap (λ l. Some y ∷ l) (filled_push items x rest)

pub pushed : (items : List ℕ) (x room : ℕ) → map Some items ++ Some x ∷ replicate (room - suc (length items)) None ≡ filled (items ++ x ∷ []) room
unfolding filled
pushed items x room =
    let long : suc (length items) ≡ length (items ++ x ∷ []) = omega (arith, length-append items (x ∷ [])) in
    sym (filled_push items x (replicate (room - suc (length items)) None)) ∙ ap (λ k. map Some (items ++ x ∷ []) ++ replicate (room - k) None) long

pub length-filled : (items : List ℕ) (room : ℕ) → length items ≤ room → length (filled items room) ≡ room
unfolding filled
length-filled items room le = omega (arith, length-append (map Some items) (replicate (room - length items) None), length-map items Some, length-replicate {A = Option ℕ} (room - length items) None)

module _ {M : Type 1} {𝓤 : Ura M} (𝓛 : Logic 𝓤) (b : ℕ) where
  open 𝓛 use {H}

  cut : (xs : List ℕ) (ys : List (Option ℕ)) (o at : ℕ) → at ≡ length xs * 8 + o → ent 𝓤 (sem 𝓛 (places b o (map Some xs ++ ys))) (sep 𝓤 (sem 𝓛 (places b o (map Some xs))) (sem 𝓛 (places b at ys)))
  cut [] ys o at e = let same : o ≡ at = omega arith in qed 𝓛 (‵ (places b o ys) ∷ []) ∵ rewrite ! 0 (λ (k : ℕ). ‵ (places b k ys)) same refl $ nothing ! $ done !
  cut (x ∷ xs) ys o at e = let more : at ≡ suc (length xs) * 8 + o = e in qed 𝓛 (‵ (places b o (map Some (x ∷ xs) ++ ys)) ∷ []) ∵ fsplit ! $ move ! (1 ∷ []) $
      use1 𝓛 (‵ (places b (o + 8) (map Some xs)) ⊛ ‵ (places b at ys)) (cut xs ys (o + 8) at (omega arith)) $ split ! $ move ! (2 ∷ 0 ∷ []) $ fjoin ! $ done !

  glue : (xs : List ℕ) (ys : List (Option ℕ)) (o at : ℕ) → at ≡ length xs * 8 + o → ent 𝓤 (sep 𝓤 (sem 𝓛 (places b o (map Some xs))) (sem 𝓛 (places b at ys))) (sem 𝓛 (places b o (map Some xs ++ ys)))
  glue [] ys o at e = let same : at ≡ o = omega arith in qed 𝓛 (‵ ftrue ∷ ‵ (places b at ys) ∷ []) ∵ skip ! $ rewrite ! 0 (λ (k : ℕ). ‵ (places b k ys)) same refl $ done !
  glue (x ∷ xs) ys o at e = let more : at ≡ suc (length xs) * 8 + o = e in qed 𝓛 (‵ (places b o (map Some (x ∷ xs))) ∷ ‵ (places b at ys) ∷ []) ∵ fsplit ! $ move ! (1 ∷ 2 ∷ []) $
      use2 𝓛 (‵ (places b (o + 8) (map Some xs ++ ys))) (glue xs ys (o + 8) at (omega arith)) $ move ! (1 ∷ 0 ∷ []) $ fjoin ! $ done !

  module _ (o : ℕ) (items : List ℕ) (room : ℕ) (lt : length items < room) where
    abbrev pub at : ℕ
    at = length items * 8 + o

    -- the places but for the first empty one
    abbrev pub Others : Fml
    Others = fsep (places b o (map Some items)) (places b (at + 8) (replicate (room - suc (length items)) None))

    pub first_empty : ent 𝓤 (sem 𝓛 (places b o (filled items room))) (sep 𝓤 (sem 𝓛 (froom (ty_int w64) b at)) (sem 𝓛 Others))
    first_empty = qed 𝓛 (‵ (places b o (filled items room)) ∷ []) ∵ rewrite ! 0 (λ (l : List (Option ℕ)). ‵ (places b o l)) (empties items room lt) refl $
        use1 𝓛 (‵ (places b o (map Some items)) ⊛ ‵ (places b at (None ∷ replicate (room - suc (length items)) None))) (cut items (None ∷ replicate (room - suc (length items)) None) o at refl) $
        split ! $ move ! (1 ∷ []) $ fsplit ! $ move ! (2 ∷ 1 ∷ []) $ fjoin ! $ move ! (1 ∷ []) $ done !

    pub one_more : (x : ℕ) → ent 𝓤 (sep 𝓤 (H.at full_share (ty_int w64) b at (vint w64 x)) (sem 𝓛 Others)) (sem 𝓛 (places b o (filled (items ++ x ∷ []) room)))
    one_more x = let rest = replicate (room - suc (length items)) None in qed 𝓛 (‵ (fat full_share (ty_int w64) b at (vint w64 x)) ∷ ‵ Others ∷ []) ∵
        use1 𝓛 (‵ (place b at (Some x))) (uint_in 𝓛 full_share w64 x b at) $ move ! (1 ∷ []) $ fsplit ! $ move ! (2 ∷ 1 ∷ []) $ fjoin ! $ move ! (1 ∷ 0 ∷ []) $
        use2 𝓛 (‵ (places b o (map Some items ++ Some x ∷ rest))) (glue items (Some x ∷ rest) o at refl) $ rewrite ! 0 (λ (l : List (Option ℕ)). ‵ (places b o l)) (pushed items x room) refl $ done !

  all_empty : (n o : ℕ) → ent 𝓤 (H.room (ty_array (ty_int w64) n) b o) (sem 𝓛 (places b o (replicate n None)))
  all_empty zero o = qed 𝓛 (‵ (froom (ty_array (ty_int w64) 0) b o) ∷ []) ∵ keep ! [] $ done !
  all_empty (suc n) o = qed 𝓛 (‵ (froom (ty_array (ty_int w64) (suc n)) b o) ∷ []) ∵
      use1 𝓛 (‵ (froom (ty_int w64) b o) ⊛ ‵ (froom (ty_array (ty_int w64) n) b (o + 8))) (𝓛.laws.room_uncons (ty_int w64) n b o) $ split ! $ frame ! $ by ! (all_empty n (o + 8))

  pub of_room : (n o : ℕ) → ent 𝓤 (H.room (ty_array (ty_int w64) n) b o) (sem 𝓛 (places b o (filled [] n)))
  unfolding filled
  of_room n o = let all : n ≡ n - 0 = omega arith in subst (λ k. ent 𝓤 (H.room (ty_array (ty_int w64) n) b o) (sem 𝓛 (places b o (replicate k None)))) all (all_empty n o)

  emptied : (o : ℕ) (c : Option ℕ) → ent 𝓤 (sem 𝓛 (place b o c)) (H.room (ty_int w64) b o)
  emptied o None = id⊢ 𝓤 _
  emptied o (Some x) = via 𝓤 (H.at full_share (ty_int w64) b o (vint w64 x)) (uint_out 𝓛 full_share w64 x b o) (𝓛.laws.at_room (ty_int w64) b o (vint w64 x))

  pub to_room : (cs : List (Option ℕ)) (o : ℕ) → ent 𝓤 (sem 𝓛 (places b o cs)) (H.room (ty_array (ty_int w64) (length cs)) b o)
  to_room [] o = 𝓛.laws.room_nil (ty_int w64) b o
  to_room (c ∷ cs) o = qed 𝓛 (‵ (place b o c) ∷ ‵ (places b (o + 8) cs) ∷ []) ∵ use1 𝓛 (‵ (froom (ty_int w64) b o)) (emptied o c) $ move ! (1 ∷ []) $
      use1 𝓛 (‵ (froom (ty_array (ty_int w64) (length cs)) b (o + 8))) (to_room cs (o + 8)) $ move ! (1 ∷ []) $ by ! (𝓛.laws.room_cons (ty_int w64) (length cs) b o)

  module _ (κ : Lft) where
    up_to : (xs : List ℕ) (rest : List (Option ℕ)) (o : ℕ) → ent 𝓤 (sem 𝓛 (all_lent b o (map Some xs ++ rest) κ)) (sem 𝓛 (elements_shared u64 xs b o κ))
    up_to [] rest o = qed 𝓛 (‵ (all_lent b o rest κ) ∷ []) ∵ keep ! [] $ done !
    up_to (x ∷ xs) rest o = mono_r 𝓤 (sem 𝓛 (place_lent b o (Some x) κ)) (up_to xs rest (o + 8))

    split_at : (xs : List ℕ) (n : ℕ) (rest : List (Option ℕ)) → map Some (take n xs) ++ (map Some (drop n xs) ++ rest) ≡ map Some xs ++ rest
    split_at xs zero rest = refl
    split_at [] (suc n) rest = refl
    split_at (x ∷ xs) (suc n) rest = ap (λ l. Some x ∷ l) (split_at xs n rest)

    -- the first n of the numbers that are left after `from` of them
    run_seen : (items : List ℕ) (from n o : ℕ) (rest : List (Option ℕ)) → from ≤ length items
        → ent 𝓤 (sem 𝓛 (all_lent b o (map Some items ++ rest) κ)) (sem 𝓛 (elements_shared u64 (take n (drop from items)) b (from * 8 + o) κ))
    run_seen items zero n o rest le = let same : o ≡ 0 * 8 + o = omega arith in
        subst (λ k. ent 𝓤 (sem 𝓛 (all_lent b o (map Some items ++ rest) κ)) (sem 𝓛 (elements_shared u64 (take n items) b k κ))) same
        (subst (λ (l : List (Option ℕ)). ent 𝓤 (sem 𝓛 (all_lent b o l κ)) (sem 𝓛 (elements_shared u64 (take n items) b o κ))) (split_at items n rest) (up_to (take n items) (map Some (drop n items) ++ rest) o))
    run_seen [] (suc from) n o rest le = absurd (omega arith)
    run_seen (x ∷ items) (suc from) n o rest le = let on : from * 8 + (o + 8) ≡ suc from * 8 + o = omega arith in
        via 𝓤 (sem 𝓛 (all_lent b (o + 8) (map Some items ++ rest) κ)) (snd∗ 𝓤 (sem 𝓛 (place_lent b o (Some x) κ)) (sem 𝓛 (all_lent b (o + 8) (map Some items ++ rest) κ)))
        (subst (λ k. ent 𝓤 (sem 𝓛 (all_lent b (o + 8) (map Some items ++ rest) κ)) (sem 𝓛 (elements_shared u64 (take n (drop from items)) b k κ))) on (run_seen items from n (o + 8) rest (omega arith)))

    -- the numbers from the one at `from` on, up to the one at `to`
    pub items_seen : (items : List ℕ) (room from to o : ℕ) → from ≤ length items → ent 𝓤 (sem 𝓛 (all_lent b o (filled items room) κ)) (sem 𝓛 (elements_shared u64 (slice_range items from to) b (from * 8 + o) κ))
    unfolding filled
    items_seen items room from to o le = run_seen items from (to - from) o (replicate (room - length items) None) le
