-- Striking out.
use Rattle.std.proofs.Common.{ℕ, ◌↔◌, ◌⊎◌, inl, inr, List, Bool, length}
use Rattle.std.specs.List.{Contains}
use Rattle.go_grid.specs.declared.grid.Colour.{Colour}
use Rattle.go_grid.specs.Chain.{InChain, IsLiberty}
use Rattle.go_grid.specs.Board.{Board, HasStone, IsDeclared, Lacks}
use Rattle.go_grid.specs.Marks.{IsMarked, Marks, Lists}
use Rattle.go_grid.proofs.DecidedChainLemmas.{chain_or_not, points_of}
use Rattle.go_grid.proofs.WalkLemmas.{joined_back, joined_end, joined_here, joined_join}
use Rattle.benson_life.specs.Life.{IsEye, HasDeclaredLiberty, HasRoom, IsHealthy, IsLargestHealthy, IsAlive, IsCounted, IsInEye}

-- more stones for walls
eye_more : (g : Board) (c : Colour) (In More : ℕ → Type 0) → ((s : ℕ) → In s → More s) → (s r : ℕ)
    → IsEye g c In s r → IsEye g c More s r
eye_more g c In More wider s r eye = record {
  lacks = eye.lacks;
  vital = eye.vital;
  walled = λ p t at n stone. wider t (eye.walled p t at n stone);
}

pub room_more : (g : Board) (c : Colour) (In More : ℕ → Type 0) → ((s : ℕ) → In s → More s) → (s : ℕ)
    → HasRoom g c In s → HasRoom g c More s
room_more g c In More wider s (inl declared) = inl declared
room_more g c In More wider s (inr (r, t, a, b, apart)) =
    inr (r, t, eye_more g c In More wider s r a, eye_more g c In More wider s t b, apart)

-- the stones of one chain have the same liberties, eyes and room
liberty_chain : (g : Board) (c : Colour) (s t p : ℕ) → InChain g c s t → IsLiberty g c s p → IsLiberty g c t p
liberty_chain g c s t p j (empty, (q, chain, next)) =
    (empty, (q, joined_join g.columns (HasStone g c) t s q (joined_back g.columns (HasStone g c) s t j) chain, next))

eye_chain : (g : Board) (c : Colour) (In : ℕ → Type 0) (s t r : ℕ) → InChain g c s t → IsEye g c In s r → IsEye g c In t r
eye_chain g c In s t r j eye = record {
  lacks = eye.lacks;
  vital = λ p at empty. liberty_chain g c s t p j (eye.vital p at empty);
  walled = eye.walled;
}

pub room_chain : (g : Board) (c : Colour) (In : ℕ → Type 0) (s t : ℕ) → InChain g c s t → HasRoom g c In s → HasRoom g c In t
room_chain g c In s t j (inl (p, declared, liberty)) = inl (p, declared, liberty_chain g c s t p j liberty)
room_chain g c In s t j (inr (r, q, a, b, apart)) = inr (r, q, eye_chain g c In s t r j a, eye_chain g c In s t q j b, apart)

-- only stones that cannot be alive have been struck out
pub record MayBeAlive (g : Board) (c : Colour) (kept : List Bool) : Type 0 where
  pub stones : (s : ℕ) → IsMarked kept s → HasStone g c s
  pub roomy : (s : ℕ) → HasStone g c s → HasRoom g c (IsMarked kept) s → IsMarked kept s
  pub healthy : (T : List ℕ) → IsHealthy g c T → (s : ℕ) → Contains T s → IsMarked kept s

pub may_next : (g : Board) (c : Colour) (kept left : List Bool) → MayBeAlive g c kept
    → Marks left (λ s. IsMarked kept s × HasRoom g c (IsMarked kept) s) → MayBeAlive g c left
may_next g c kept left w is =
    let wider = λ (s : ℕ) (m : IsMarked left s). ((is s).0 m).0 in
    record {
      stones = λ s m. w.stones s (wider s m);
      roomy = λ s stone room. let old = room_more g c (IsMarked left) (IsMarked kept) wider s room in (is s).1 (w.roomy s stone old, old);
      healthy = λ T good s in'. (is s).1
          (w.healthy T good s in', room_more g c (Contains T) (IsMarked kept) (w.healthy T good) s (good.room s in'));
    }

-- when nothing more is struck out, what is kept is alive
pub kept_alive : (g : Board) (c : Colour) (kept left : List Bool) → MayBeAlive g c kept
    → Marks left (λ s. IsMarked kept s × HasRoom g c (IsMarked kept) s) → ((p : ℕ) → IsMarked kept p → IsMarked left p)
    → (S : List ℕ) → ((s : ℕ) → Contains S s ↔ IsMarked kept s) → Marks kept (IsAlive g c)
kept_alive g c kept left w is all S lists s = (λ m. (S, healthy, (lists s).1 m), λ a. w.healthy a.0 a.1 s a.2)
  where
    room : (s : ℕ) → IsMarked kept s → HasRoom g c (IsMarked kept) s
    room s m = ((is s).0 (all s m)).1

    healthy : IsHealthy g c S
    healthy = record {
      stones = λ s in'. w.stones s ((lists s).0 in');
      whole = λ s t in' j.
          (lists t).1 (w.roomy t (joined_end g.columns (HasStone g c) s t j) (room_chain g c (IsMarked kept) s t j (room s ((lists s).0 in'))));
      room = λ s in'. room_more g c (IsMarked kept) (Contains S) (λ x. (lists x).1) s (room s ((lists s).0 in'));
    }

pub alive_stone : (g : Board) (c : Colour) (s : ℕ) → IsAlive g c s → HasStone g c s
alive_stone g c s a = a.1.stones s a.2

pub alive_whole : (g : Board) (c : Colour) (s t : ℕ) → IsAlive g c s → InChain g c s t → IsAlive g c t
alive_whole g c s t a j = (a.0, a.1, a.1.whole s t a.2 j)

-- a stone whose chain has a declared liberty is alive: its chain is a healthy list
pub beside_declared : (g : Board) (c : Colour) (s : ℕ) → HasStone g c s → HasDeclaredLiberty g c s → IsAlive g c s
beside_declared g c s stone room =
    let (points, each) = points_of (InChain g c s) (chain_or_not g c s) (length g.cells) in
    let in_chain = λ (t : ℕ) (in' : Contains points t). ((each t).0 in').1 in
    let listed : (t : ℕ) → InChain g c s t → Contains points t =
    λ t j. (each t).1 ((joined_end g.columns (HasStone g c) s t j).0, j) in (
      points,
      record {
        stones = λ t in'. joined_end g.columns (HasStone g c) s t (in_chain t in');
        whole = λ t u in' j. listed u (joined_join g.columns (HasStone g c) s t u (in_chain t in') j);
        room = λ t in'. room_chain g c (Contains points) s t (in_chain t in') (inl room);
      },
      listed s (joined_here g.columns (HasStone g c) s stone),
    )

-- all that is alive is the largest healthy list
pub alive_largest : (g : Board) (c : Colour) (S : List ℕ) → Lists S (IsAlive g c) → IsLargestHealthy g c S
alive_largest g c S lists = record {
  healthy = record {
    stones = λ s in'. alive_stone g c s ((lists.exact s).0 in');
    whole = λ s t in' j. (lists.exact t).1 (alive_whole g c s t ((lists.exact s).0 in') j);
    room = λ s in'.
        let a = (lists.exact s).0 in' in
        room_more g c (Contains a.0) (Contains S) (λ t k. (lists.exact t).1 (a.0, a.1, k)) s (a.1.room s a.2);
  };
  largest = λ T good s in'. (lists.exact s).1 (T, good, in');
}

-- the points of walled eyes of alive stones
in_eye_same : (g : Board) (c : Colour) (alive found : List Bool) → Marks alive (IsAlive g c)
    → Marks found (λ p. Lacks g c p × ((s : ℕ) × IsMarked alive s × IsEye g c (IsMarked alive) s p))
    → Marks found (IsInEye g c)
in_eye_same g c alive found isa isf p = (
  λ m.
      let h = ((isf p).0 m).1 in
      (h.0, (isa h.0).0 h.1, eye_more g c (IsMarked alive) (IsAlive g c) (λ s. (isa s).0) h.0 p h.2),
  λ h. (isf p).1 (h.2.lacks, (h.0, (isa h.0).1 h.1, eye_more g c (IsAlive g c) (IsMarked alive) (λ s. (isa s).1) h.0 p h.2)),
)

-- these and the declared points are the counted ones
pub counted_same : (g : Board) (c : Colour) (alive found all : List Bool) → Marks alive (IsAlive g c)
    → Marks found (λ p. Lacks g c p × ((s : ℕ) × IsMarked alive s × IsEye g c (IsMarked alive) s p))
    → Marks all (λ p. IsMarked found p ⊎ IsDeclared g c p) → Marks all (IsCounted g c)
counted_same g c alive found all isa isf is p =
    let eye = in_eye_same g c alive found isa isf p in (
      λ m. elim ((is p).0 m) as (λ _. IsCounted g c p) [ inl e ↦ inl (eye.0 e) | inr d ↦ inr d ],
      λ w. (is p).1 (elim w as (λ _. IsMarked found p ⊎ IsDeclared g c p) [ inl e ↦ inl (eye.1 e) | inr d ↦ inr d ]),
    )
