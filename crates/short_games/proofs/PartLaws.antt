-- Followers, and the numbers of a tree.
use Rattle.std.proofs.Common.{◌≡◌, ◌⊎◌, ℤ, refl, inl, inr, subst}
use Rattle.short_games.specs.Tree.{Tree, left, right, Has}
use Rattle.short_games.specs.Number.{IsNumberTree}
use Rattle.short_games.specs.Parts.{IsOption, IsFollower, IsNumberOf}
use Rattle.short_games.specs.Parts.IsFollower.{itself, further}
use Rattle.short_games.proofs.NumberLaws.{num-left, num-right}

-- the numbers of an option are among those of the tree
pub option-numbers : (G X : Tree) (x : ℤ) → (IsNumberTree G → ⊥) → IsOption G X → IsNumberOf X x → IsNumberOf G x
option-numbers G X x no_number o (inl e) = inr (G, (itself G, no_number), subst (λ t. IsOption G t) e o)
option-numbers G X x no_number o (inr (P, p, q)) = inr (P, (further G X P o p.0, p.1), q)

pub follower-of : (G X : Tree) → IsFollower G X → (X ≡ G) ⊎ ((H : Tree) × IsOption G H × IsFollower H X)
follower-of _ _ (itself G) = inl refl
follower-of _ _ (further G H X o f) = inr (H, o, f)

-- a number's followers are numbers, so that it has no parts
pub number-option : (G X : Tree) → IsNumberTree G → IsOption G X → IsNumberTree X
number-option G X n (inl h) = let r = num-left n.0 n.1 X (subst (λ t. Has (left t) X) n.2 h) in (n.0, r.0, r.2)
number-option G X n (inr h) = let r = num-right n.0 n.1 X (subst (λ t. Has (right t) X) n.2 h) in (n.0, r.0, r.2)

pub number-follower : (G X : Tree) → IsFollower G X → IsNumberTree G → IsNumberTree X
number-follower _ _ (itself G) n = n
number-follower _ _ (further G H X o f) n = number-follower H X f (number-option G H n o)

-- followers of followers
pub follower-trans : (G H X : Tree) → IsFollower G H → IsFollower H X → IsFollower G X
follower-trans _ _ X (itself G) f = f
follower-trans _ _ X (further G K H o g) f = further G K X o (follower-trans K H X g f)

-- and options of followers
pub follower-more : (G X Y : Tree) → IsFollower G X → IsOption X Y → IsFollower G Y
follower-more _ _ Y (itself G) o = further G Y Y o (itself Y)
follower-more _ _ Y (further G H X p f) o = further G H Y p (follower-more H X Y f o)
