-- Lines that rise or fall by at most 1 a step, the greatest of several, and the first meeting of two.
use Rattle.std.proofs.Common.{ℕ, zero, suc, ◌+◌, ◌<◌, ◌≤◌, ◌≡◌, ◌⊎◌, arith, refl, inl, inr, sym, ◌∙◌, ap, ap₂, subst, ℤ, neg_ℤ, ◌+ℤ◌, ◌<ℤ◌, ◌≤ℤ◌}
use Rattle.std.proofs.lemmas.Int.{ints, by_lt_z}
use Rattle.short_games.specs.Tree.{Tree, Trees, Has}
use Rattle.short_games.specs.WallGrids.{IsGreatest, IsLeast, Follow, finer}
use Rattle.short_games.specs.inner.Lines.{Rises, Falls}
use Rattle.short_games.specs.WallGrids.Follow.{apart, met}

-- what f' is where its argument counts half steps of that of f
pub record Doubles (f f' : ℕ → ℤ) : Type 0 where
  pub at_even : (t : ℕ) → f' (t + t) ≡ f t +ℤ f t
  pub at_odd : (t : ℕ) → f' (suc (t + t)) ≡ f t +ℤ f (suc t)

pub finer-doubles : (f : ℕ → ℤ) → Doubles f (finer f)
finer-doubles f = record {
  at_even = λ t. ap₂ (λ a b. f a +ℤ f b) (omega arith) (omega arith);
  at_odd = λ t. ap₂ (λ a b. f a +ℤ f b) (omega arith) (omega arith);
}

-- up to a number is below it or at it
pub below-or_at : (m n : ℕ) → m ≤ n → (m < n) ⊎ (m ≡ n)
below-or_at zero zero h = inr refl
below-or_at zero (suc n) h = inl (omega arith)
below-or_at (suc m) zero h = absurd (omega (arith, h))
below-or_at (suc m) (suc n) h = elim (below-or_at m n (omega (arith, h))) [
  | inl l ↦ inl (omega (arith, l))
  | inr e ↦ inr (ap suc e)
]

-- a number of half steps is even or odd
pub data Parity : ℕ → Type 0 where
  even : (t : ℕ) → Parity (t + t)
  odd : (t : ℕ) → Parity (suc (t + t))

pub parity : (n : ℕ) → Parity n
parity zero = even zero
parity (suc n) = next n (parity n)
  where
    next : (n : ℕ) → Parity n → Parity (suc n)
    next _ (even t) = odd t
    next _ (odd t) = subst Parity (omega arith) (even (suc t))

-- lines that fall or rise, some steps on
pub falls-from : (f : ℕ → ℤ) → Falls f → (n u t : ℕ) → t ≡ n + u → f t ≤ℤ f u
falls-from f s zero u t e = let i : t ≡ u = omega (arith, e) in subst (λ z. f z ≤ℤ f u) (sym i) (omega (arith, ints))
falls-from f s (suc n) u t e = let i : t ≡ suc (n + u) = omega (arith, e) in subst (λ z. f z ≤ℤ f u) (sym i) (omega (arith, ints, s.no_rise (n + u), falls-from f s n u (n + u) refl))

pub rises-from : (f : ℕ → ℤ) → Rises f → (n u t : ℕ) → t ≡ n + u → f u ≤ℤ f t
rises-from f s zero u t e = let i : t ≡ u = omega (arith, e) in subst (λ z. f u ≤ℤ f z) (sym i) (omega (arith, ints))
rises-from f s (suc n) u t e = let i : t ≡ suc (n + u) = omega (arith, e) in subst (λ z. f u ≤ℤ f z) (sym i) (omega (arith, ints, s.no_fall (n + u), rises-from f s n u (n + u) refl))

-- the greatest or least is one number
pub greatest-same : (f g : Tree → ℤ) (Gs : Trees) (x y : ℤ) → ((X : Tree) → Has Gs X → f X ≡ g X) → IsGreatest f Gs x → IsGreatest g Gs y → x ≡ y
greatest-same f g Gs x y s a b = omega (arith, ints, a.reached.2, b.reached.2, a.bound b.reached.0 b.reached.1, b.bound a.reached.0 a.reached.1, s a.reached.0 a.reached.1, s b.reached.0 b.reached.1)

pub least-same : (f g : Tree → ℤ) (Gs : Trees) (x y : ℤ) → ((X : Tree) → Has Gs X → f X ≡ g X) → IsLeast f Gs x → IsLeast g Gs y → x ≡ y
least-same f g Gs x y s a b = omega (arith, ints, a.reached.2, b.reached.2, a.bound b.reached.0 b.reached.1, b.bound a.reached.0 a.reached.1, s a.reached.0 a.reached.1, s b.reached.0 b.reached.1)

-- the greatest of lines that rise rises
module _ (f : Tree → ℕ → ℤ) (Gs : Trees) (g : ℕ → ℤ) where
  pub greatest-rises : ((X : Tree) → Has Gs X → Rises (f X)) → ((t : ℕ) → IsGreatest (λ X. f X t) Gs (g t)) → Rises g
  greatest-rises r i = record {
    no_fall = λ t. (let a = (i t).reached in omega (arith, ints, a.2, (i (suc t)).bound a.0 a.1, (r a.0 a.1).no_fall t));
    by_one = λ t. (let a = (i (suc t)).reached in omega (arith, ints, a.2, (i t).bound a.0 a.1, (r a.0 a.1).by_one t));
  }

  -- between two neighbours the greatest is straight, since no two lines cross there
  pub greatest-doubles : (f' : Tree → ℕ → ℤ) (g' : ℕ → ℤ) → ((X : Tree) → Has Gs X → Rises (f X)) → ((X : Tree) → Has Gs X → Doubles (f X) (f' X)) → Doubles g g' → ((t : ℕ) → IsGreatest (λ X. f X t) Gs (g t))
      → (t : ℕ) → IsGreatest (λ X. f' X t) Gs (g' t)
  greatest-doubles f' g' r d e i t = at t (parity t)
    where
      reached : (t : ℕ) → (X : Tree) × Has Gs X × (f' X (suc (t + t)) ≡ g' (suc (t + t)))
      reached t = let a = (i t).reached in
          let b = (i (suc t)).reached in
          by_lt_z (g t) (g (suc t))
          (λ l. (b.0, b.1, omega (arith, ints, l, b.2, (r b.0 b.1).by_one t, (i t).bound b.0 b.1, (greatest-rises r i).by_one t, (d b.0 b.1).at_odd t, e.at_odd t)))
          (λ l. (a.0, a.1, omega (arith, ints, l, a.2, (r a.0 a.1).no_fall t, (i (suc t)).bound a.0 a.1, (greatest-rises r i).no_fall t, (d a.0 a.1).at_odd t, e.at_odd t)))

      at : (t : ℕ) → Parity t → IsGreatest (λ X. f' X t) Gs (g' t)
      at _ (even t) = record {
        bound = λ X x. omega (arith, ints, (i t).bound X x, (d X x).at_even t, e.at_even t);
        reached = (let a = (i t).reached in (a.0, a.1, omega (arith, ints, a.2, (d a.0 a.1).at_even t, e.at_even t)));
      }
      at _ (odd t) = record { bound = λ X x. omega (arith, ints, (i t).bound X x, (i (suc t)).bound X x, (d X x).at_odd t, e.at_odd t); reached = reached t }

-- what is least is greatest where all is negated, and what falls rises
pub greatest-negated : (f : Tree → ℤ) (Gs : Trees) (x : ℤ) → IsLeast f Gs x → IsGreatest (λ X. neg_ℤ (f X)) Gs (neg_ℤ x)
greatest-negated f Gs x l = record {
  bound = λ X h. omega (arith, ints, l.bound X h);
  reached = (l.reached.0, l.reached.1, ap neg_ℤ l.reached.2);
}

pub least-negated : (f : Tree → ℤ) (Gs : Trees) (x : ℤ) → IsGreatest (λ X. neg_ℤ (f X)) Gs (neg_ℤ x) → IsLeast f Gs x
least-negated f Gs x g = let r = g.reached in
    record { bound = λ X h. omega (arith, ints, g.bound X h); reached = (r.0, r.1, omega (arith, ints, r.2)) }

rises-negated : (f : ℕ → ℤ) → Falls f → Rises (λ t. neg_ℤ (f t))
rises-negated f s = record { no_fall = λ t. omega (arith, ints, s.no_rise t); by_one = λ t. omega (arith, ints, s.by_one t) }

doubles-negated : (f f' : ℕ → ℤ) → Doubles f f' → Doubles (λ t. neg_ℤ (f t)) (λ t. neg_ℤ (f' t))
doubles-negated f f' d = record { at_even = λ t. omega (arith, ints, d.at_even t); at_odd = λ t. omega (arith, ints, d.at_odd t) }

module _ (f : Tree → ℕ → ℤ) (Gs : Trees) (g : ℕ → ℤ) (r : (X : Tree) → Has Gs X → Falls (f X)) where
  pub least-falls : ((t : ℕ) → IsLeast (λ X. f X t) Gs (g t)) → Falls g
  least-falls i =
      let s = greatest-rises (λ X t. neg_ℤ (f X t)) Gs (λ t. neg_ℤ (g t)) (λ X x. rises-negated (f X) (r X x))
      (λ t. greatest-negated _ Gs (g t) (i t)) in
      record { no_rise = λ t. omega (arith, ints, s.no_fall t); by_one = λ t. omega (arith, ints, s.by_one t) }

  pub least-doubles : (f' : Tree → ℕ → ℤ) (g' : ℕ → ℤ) → ((X : Tree) → Has Gs X → Doubles (f X) (f' X)) → Doubles g g'
      → ((t : ℕ) → IsLeast (λ X. f X t) Gs (g t)) → (t : ℕ) → IsLeast (λ X. f' X t) Gs (g' t)
  least-doubles f' g' d e i t = least-negated (λ X. f' X t) Gs (g' t) (greatest-doubles (λ X t. neg_ℤ (f X t)) Gs (λ t. neg_ℤ (g t))
      (λ X t. neg_ℤ (f' X t)) (λ t. neg_ℤ (g' t)) (λ X x. rises-negated (f X) (r X x)) (λ X x. doubles-negated (f X) (f' X) (d X x))
      (doubles-negated g g' e) (λ t. greatest-negated (λ X. f X t) Gs (g t) (i t)) t)

-- the same scaffolds give the same walls
pub follow-same : (L R L' R' : ℕ → ℤ) (t : ℕ) (l r l' r' : ℤ) → ((v : ℕ) → L v ≡ L' v) → ((v : ℕ) → R v ≡ R' v) → Follow L R t l r → Follow L' R' t l' r' → (l ≡ l') × (r ≡ r')
follow-same L R L' R' t l r l' r' p q (apart a x y) (apart b z w) = (x ∙ p t ∙ sym z, y ∙ q t ∙ sym w)
follow-same L R L' R' t l r l' r' p q (apart a x y) (met u h e b z w) = absurd (omega (arith, ints, a u h, p u, q u, e))
follow-same L R L' R' t l r l' r' p q (met u h e a x y) (apart b z w) = absurd (omega (arith, ints, b u h, p u, q u, e))
follow-same L R L' R' t l r l' r' p q (met u h e a x y) (met v k d b z w) =
    let early : u < v → ⊥ = λ i. omega (arith, ints, b u i, p u, q u, e) in
    let late : v < u → ⊥ = λ i. omega (arith, ints, a v i, p v, q v, d) in
    let same : u ≡ v = omega (arith, early, late) in (x ∙ ap L same ∙ p v ∙ sym z, y ∙ ap R same ∙ q v ∙ sym w)

pub follow-zero : (L R : ℕ → ℤ) (l r : ℤ) → Follow L R 0 l r → (l ≡ L 0) × (r ≡ R 0)
follow-zero L R l r (apart c x y) = (x, y)
follow-zero L R l r (met u c d e x y) = let z : u ≡ 0 = omega (arith, c) in (x ∙ ap L z, y ∙ ap R z)

-- walls that follow two scaffolds, the left one falling and the right one rising
module _ (L R l r : ℕ → ℤ) (falls : Falls L) (rises : Rises R) (follows : (t : ℕ) → Follow L R t (l t) (r t)) where
  -- from a step to the next both go on, or both stay
  pub data Step (t : ℕ) : Type 0 where
    goes : ((v : ℕ) → v ≤ t → R v <ℤ L v) → l t ≡ L t → l (suc t) ≡ L (suc t) → r t ≡ R t → r (suc t) ≡ R (suc t) → R (suc t) ≤ℤ L (suc t) → Step t
    stays : (u : ℕ) → u ≤ t → L u ≡ R u → ((v : ℕ) → v < u → R v <ℤ L v) → l t ≡ L u → l (suc t) ≡ L u → r t ≡ R u → r (suc t) ≡ R u → Step t

  pub step : (t : ℕ) → Step t
  step t = at (follows t) (follows (suc t))
    where
      at : Follow L R t (l t) (r t) → Follow L R (suc t) (l (suc t)) (r (suc t)) → Step t
      at (apart a x y) (apart b z w) = goes a x z y w (omega (arith, ints, b (suc t) (omega arith)))
      at (apart a x y) (met u h e b z w) = let late : u ≤ t → ⊥ = λ k. omega (arith, ints, a u k, e) in
          let same : u ≡ suc t = omega (arith, late) in
          goes a x (z ∙ ap L same) y (w ∙ ap R same) (subst (λ v. R v ≤ℤ L v) same (omega (arith, ints, e)))
      at (met u h e a x y) f = (let s = follow-same L R L R (suc t) _ _ (L u) (R u) (λ v. refl) (λ v. refl) f (met u (omega (arith, h)) e a refl refl) in stays u h e a x s.0 y s.1)

  pub left-falls : Falls l
  left-falls = record {
    no_rise = λ t. elim (step t) [
      | goes a x z y w k ↦ omega (arith, ints, x, z, falls.no_rise t)
      | stays u h e a x z y w ↦ omega (arith, ints, x, z)
    ];
    by_one = λ t. elim (step t) [ goes a x z y w k ↦ omega (arith, ints, x, z, falls.by_one t) | stays u h e a x z y w ↦ omega (arith, ints, x, z) ];
  }

  pub right-rises : Rises r
  right-rises = record {
    no_fall = λ t. elim (step t) [
      | goes a x z y w k ↦ omega (arith, ints, y, w, rises.no_fall t)
      | stays u h e a x z y w ↦ omega (arith, ints, y, w)
    ];
    by_one = λ t. elim (step t) [ goes a x z y w k ↦ omega (arith, ints, y, w, rises.by_one t) | stays u h e a x z y w ↦ omega (arith, ints, y, w) ];
  }

  pub walls-ordered : (t : ℕ) → r t ≤ℤ l t
  walls-ordered t = elim (follows t) [ apart a x y ↦ omega (arith, ints, a t (omega arith), x, y) | met u h e a x y ↦ omega (arith, ints, x, y, e) ]

  -- the scaffolds and walls at half steps
  module _ (L' R' l' r' : ℕ → ℤ) (dL : Doubles L L') (dR : Doubles R R') (dl : Doubles l l') (dr : Doubles r r') where
    apart-below : (n : ℕ) → ((v : ℕ) → v < n → R v <ℤ L v) → R n ≤ℤ L n → (v : ℕ) → v < n + n → R' v <ℤ L' v
    apart-below n a k v h = at v (parity v) h
      where
        at : (v : ℕ) → Parity v → v < n + n → R' v <ℤ L' v
        at _ (even t) h = omega (arith, ints, dL.at_even t, dR.at_even t, a t (omega (arith, h)))
        at _ (odd t) h = elim (below-or_at (suc t) n (omega (arith, h))) [
          | inl s ↦ omega (arith, ints, dL.at_odd t, dR.at_odd t, a t (omega (arith, h)), a (suc t) s)
          | inr s ↦ omega (arith, ints, dL.at_odd t, dR.at_odd t, a t (omega (arith, h)), subst (λ m. R m ≤ℤ L m) (sym s) k)
        ]

    pub doubled : (t : ℕ) → Follow L' R' t (l' t) (r' t)
    doubled t = at t (parity t)
      where
        even_at : (t : ℕ) → Follow L R t (l t) (r t) → Follow L' R' (t + t) (l' (t + t)) (r' (t + t))
        even_at t (apart a x y) = apart
            (λ v h. (elim (below-or_at v (t + t) h) [
              | inl s ↦ apart-below t (λ w k. a w (omega (arith, k))) (omega (arith, ints, a t (omega arith))) v s
              | inr s ↦ subst (λ w. R' w <ℤ L' w) (sym s) (omega (arith, ints, dL.at_even t, dR.at_even t, a t (omega arith)))
            ]))
            (omega (arith, ints, dL.at_even t, dl.at_even t, x))
            (omega (arith, ints, dR.at_even t, dr.at_even t, y))
        even_at t (met u h e a x y) = met (u + u) (omega (arith, h)) (omega (arith, ints, dL.at_even u, dR.at_even u, e)) (apart-below u a (omega (arith, ints, e)))
            (omega (arith, ints, dL.at_even u, dl.at_even t, x))
            (omega (arith, ints, dR.at_even u, dr.at_even t, y))

        odd_at : (t : ℕ) → Step t → Follow L' R' (suc (t + t)) (l' (suc (t + t))) (r' (suc (t + t)))
        odd_at t (goes a x z y w k) = apart
            (λ v h. apart-below (suc t) (λ w j. a w (omega (arith, j))) k v (omega (arith, h)))
            (omega (arith, ints, dL.at_odd t, dl.at_odd t, x, z))
            (omega (arith, ints, dR.at_odd t, dr.at_odd t, y, w))
        odd_at t (stays u h e a x z y w) = met (u + u) (omega (arith, h)) (omega (arith, ints, dL.at_even u, dR.at_even u, e)) (apart-below u a (omega (arith, ints, e)))
            (omega (arith, ints, dL.at_even u, dl.at_odd t, x, z))
            (omega (arith, ints, dR.at_even u, dr.at_odd t, y, w))

        at : (t : ℕ) → Parity t → Follow L' R' t (l' t) (r' t)
        at _ (even t) = even_at t (follows t)
        at _ (odd t) = odd_at t (step t)
