-- Parts of a set and their labels.
use Rattle.std.proofs.Common.{◌↔◌, ◌≡◌, ℕ, List, sym, subst}
use Rattle.go_grid.specs.Walk.{Joined}
use Rattle.go_grid.specs.Parts.{ArePartLabels, label}
use Rattle.go_grid.proofs.WalkLemmas.{joined_back, joined_end, joined_join, joined_more}

-- points with one label are in one part
pub one_part : (c : ℕ) (In : ℕ → Type 0) (labels : List ℕ) (p q : ℕ) → ArePartLabels c In labels → In p → In q
    → label labels p ≡ label labels q → Joined c In p q
one_part c In labels p q w hp hq e =
    joined_join c In p (label labels p) q (w.joined p hp)
    (joined_back c In q (label labels p) (subst (λ x. Joined c In q x) (sym e) (w.joined q hq)))

-- a label is a point of the part, and its own label
pub label_in : (c : ℕ) (In : ℕ → Type 0) (labels : List ℕ) (p : ℕ) → ArePartLabels c In labels → In p → In (label labels p)
label_in c In labels p w h = joined_end c In p (label labels p) (w.joined p h)

pub label_own : (c : ℕ) (In : ℕ → Type 0) (labels : List ℕ) (p : ℕ) → ArePartLabels c In labels → In p
    → label labels (label labels p) ≡ label labels p
label_own c In labels p w h = sym (w.same p (label labels p) (w.joined p h))

-- the parts of the same points
pub parts_over : (c : ℕ) (In P : ℕ → Type 0) (labels : List ℕ) → ((p : ℕ) → In p ↔ P p) → ArePartLabels c In labels → ArePartLabels c P labels
parts_over c In P labels is w = record {
  joined = λ p h. joined_more c In P (λ q. (is q).0) p (label labels p) (w.joined p ((is p).1 h));
  same = λ p q j. w.same p q (joined_more c P In (λ x. (is x).1) p q j);
  lowest = λ p h. w.lowest p ((is p).1 h);
}
