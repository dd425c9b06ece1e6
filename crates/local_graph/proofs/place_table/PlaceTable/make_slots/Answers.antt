use Rattle.std.proofs.Common.{◌≡◌, ◌+◌, ◌<◌, ◌∙◌, ap, arith, inr, refl, length, get_or, subst, sym, ℕ, ◌≢◌, length-set}
use Rattle.std.specs.List.{AllPairs, Contains}
use Rattle.std.proofs.lemmas.List.{length-replicate}
use Rattle.local_graph.specs.inner.PlaceTable.{threes, AreEntered, IsNumbered}
use Rattle.local_graph.proofs.TableLemmas.{slot_inside, numbered_at, none_entered, entered_more}
use Rattle.local_graph.proofs.place_table.PlaceTable.make_slots.Goals as goal

pub filling-init : goal.filling-init
filling-init c =
    let zeros = c.in_ok-self.ensures.items_if_clones_equal (λ y e. e) in
    record {
      positions = refl;
      numbers = refl;
      enough = omega (arith, ap length zeros, length-replicate {A = ℕ} c.args.self.now.numbers 0);
      entered = none_entered _ _ _ zeros;
    }

pub fill_slot-requires-clause-slot : goal.fill_slot-requires-clause-slot
fill_slot-requires-clause-slot c =
    let w = c.filling.invariant in
    let t = c.requires.table in
    let s = c.filling.self in
    let more : c.filling.place < length c.args.self.now.positions.items = omega (arith, c.filling-test.true, c.len-place-end.ensures, c.args.self.now.positions.ok) in
    slot_inside _ (length s.slots.items) s.numbers w.enough
    (subst (λ k. IsNumbered k (get_or s.positions.items c.filling.place 0)) (sym w.numbers)
    (subst (λ l. IsNumbered c.args.self.now.numbers (get_or l c.filling.place 0)) (sym w.positions) (numbered_at _ _ t.numbered c.filling.place more)))

pub filling-preserved : goal.filling-preserved
filling-preserved c =
    let w = c.filling.invariant in
    let t = c.requires.table in
    let s = c.filling.self in
    let filled = c.fill_slot.ensures in
    let more : c.filling.place < length s.positions.items = omega (arith, c.filling-test.true, c.len-place-end.ensures, c.args.self.now.positions.ok, ap length w.positions) in
    let are = subst (λ l. (n : ℕ) → Contains l n → IsNumbered c.args.self.now.numbers n) (sym w.positions) t.numbered in
    let once = subst (AllPairs (λ a b. a ≢ b)) (sym w.positions) t.once in
    let next = entered_more s.positions.items s.slots.items c.fill_slot.new.self.slots.items c.args.self.now.numbers c.filling.place w.entered more are once
    (omega (arith, w.enough, w.numbers)) filled.slots in
    record {
      positions = filled.positions ∙ w.positions;
      numbers = filled.numbers ∙ w.numbers;
      enough = omega (
        arith,
        w.enough,
        filled.numbers,
        ap length filled.slots,
        length-set s.slots.items (threes (get_or s.positions.items c.filling.place 0)) (c.filling.place + 1),
      );
      entered = subst (λ l. AreEntered l c.fill_slot.new.self.slots.items (c.filling.place + 1)) (sym filled.positions) next;
    }

pub returns-clause-table : goal.returns-clause-table
returns-clause-table c =
    let w = c.filling.invariant in
    let t = c.requires.table in
    let all : c.filling.place ≡ length c.filling.self.positions.items = omega (
      arith,
      c.filling-test.false,
      c.filling.auto.place-end,
      c.len-place-end.ensures,
      c.args.self.now.positions.ok,
      ap length w.positions,
    ) in
    record {
      numbered = subst (λ k. (n : ℕ) → Contains c.filling.self.positions.items n → IsNumbered k n) (sym w.numbers)
          (subst (λ l. (n : ℕ) → Contains l n → IsNumbered c.args.self.now.numbers n) (sym w.positions) t.numbered);
      any = omega (arith, t.any, w.numbers);
      once = subst (AllPairs (λ a b. a ≢ b)) (sym w.positions) t.once;
      found = inr record { enough = w.enough; entered = subst (AreEntered c.filling.self.positions.items c.filling.self.slots.items) all w.entered };
    }

pub returns-clause-positions : goal.returns-clause-positions
returns-clause-positions c = c.filling.invariant.positions

pub returns-clause-numbers : goal.returns-clause-numbers
returns-clause-numbers c = c.filling.invariant.numbers
