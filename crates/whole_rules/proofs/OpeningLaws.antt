-- What an opening is made of.
use Rattle.std.proofs.Common.{◌≡◌, ◌≢◌, ℕ, ◌+◌, ◌-◌, ◌*◌, ◌≤◌, refl, sym, ap, subst, ◌∙◌, List, Bool, true, false, nat_eq, ℤ, arith}
use Rattle.std.specs.List.{AllPairs}
use Rattle.std.specs.Set.{is_member}
use Rattle.std.proofs.lemmas.Bool.Decides.{Decides-eqb}
use Rattle.std.proofs.lemmas.Cmp.{nat_eq_equiv}
use Rattle.std.proofs.lemmas.List.Kept.{AllPairs-from_increasing}
use Rattle.std.proofs.lemmas.Map.Made.{IsDistinct-from_AllPairs, is_member-Decides, length-le_from_is_member}
use Rattle.go_grid.specs.declared.grid.Colour.{Colour}
use Rattle.go_grid.specs.declared.grid.Colour.TheVariants.{Black, White}
use Rattle.go_grid.specs.Board.{Board}
use Rattle.go_grid.specs.Marks.{Marks}
use Rattle.benson_life.specs.Groups.{IsNumberOfGroups}
use Rattle.benson_life.specs.Held.{HasPoints, IsHeld}
use Rattle.benson_life.specs.Region.{IsContested}
use Rattle.whole_rules.specs.declared.money.Purses.{Purses}
use Rattle.whole_rules.specs.WholeGame.{Whole}
use Rattle.whole_rules.specs.Opening.{komi_points, komi_token, IsOpening, GivesAtStart}
use Rattle.whole_rules.specs.OpeningWith.{Ground, OpensWith, OpensWithEach}

-- what is held pays for groups
pub starts : (g : Board) (c : Colour) (held groups : ℕ) → IsNumberOfGroups g c groups → IsHeld g c held → 2 * groups ≤ held
    → GivesAtStart g c true (held - 2 * groups)
starts g c held groups n h pays =
    let same : held ≡ held - 2 * groups + 2 * groups = omega (arith, pays) in (groups, n, subst (IsHeld g c) same h)

pub opens : (g b : Board) (marks : List Bool) (m : Purses) (c : Colour) (s : Whole) (x y bp wp : ℕ) (k : ℤ) (tax : Bool)
    → s ≡ record { board = b; contested = marks; purses = m; side = c } → b ≡ g → Marks marks (IsContested g)
    → m ≡ record { black = x + bp + komi_points Black k; white = y + wp + komi_points White k; token = komi_token k }
    → GivesAtStart g Black tax x → GivesAtStart g White tax y → IsOpening g bp wp k c tax s
opens g b marks m c s x y bp wp k tax e same is purses hx hy = record {
  board = ap (λ z. z.board) e ∙ same;
  contested = subst (λ z. Marks z (IsContested g)) (sym (ap (λ z. z.contested) e)) is;
  black = (x, hx, ap (λ z. z.purses.black) e ∙ ap (λ z. z.black) purses);
  white = (y, hy, ap (λ z. z.purses.white) e ∙ ap (λ z. z.white) purses);
  token = ap (λ z. z.purses.token) e ∙ ap (λ z. z.token) purses;
  turn = ap (λ z. z.side) e;
}

-- points that are counted one after the other are as many, whichever list has them
counted_once : (P : ℕ → Type 0) (n m : ℕ) → HasPoints P n → HasPoints P m → n ≤ m
counted_once P n m (xs, a, as_many) (ys, b, as_many') =
    let among : (q : ℕ) → is_member nat_eq xs q ≡ true → is_member nat_eq ys q ≡ true = λ q h.
    (is_member-Decides Decides-eqb ys q).1 ((b.exact q).1 ((a.exact q).0 ((is_member-Decides Decides-eqb xs q).0 h))) in
    let different : AllPairs (λ x y. x ≢ y) xs = λ i j d lt short e. omega (arith, AllPairs-from_increasing xs a.ascending i j d lt short, e) in
    omega (arith, as_many, as_many', length-le_from_is_member nat_eq_equiv xs ys (IsDistinct-from_AllPairs Decides-eqb xs different) among)

one_number : (P : ℕ → Type 0) (n m : ℕ) → HasPoints P n → HasPoints P m → n ≡ m
one_number P n m a b = omega (arith, counted_once P n m a b, counted_once P m n b a)

one_held : (g : Board) (c : Colour) (n m : ℕ) → IsHeld g c n → IsHeld g c m → n ≡ m
one_held g c n m a b = omega (arith, a.sum, b.sum, one_number _ _ _ a.empties b.empties, one_number _ _ _ a.captives b.captives)

-- a board gives a player one number of points
one_start : (g : Board) (c : Colour) (tax : Bool) (n m : ℕ) → GivesAtStart g c tax n → GivesAtStart g c tax m → n ≡ m
one_start g c false n m a b = one_held g c n m a b
one_start g c true n m (i, groups, held) (j, groups', held') =
    omega (arith, one_number _ _ _ groups groups', one_held g c _ _ held held')

-- What two openings of one ground have in common: the points of each side but for the komi.
pub record IsBesideKomi (x : Ground) (points : Colour → ℕ) : Type 0 where
  pub black : (k : ℤ) (c : Colour) (s : Whole) → OpensWith x k c s → s.purses.black ≡ points Black + komi_points Black k
  pub white : (k : ℤ) (c : Colour) (s : Whole) → OpensWith x k c s → s.purses.white ≡ points White + komi_points White k

pub beside_komi : (x : Ground) (k : ℤ) (c : Colour) (s : Whole) → OpensWith x k c s → (points : Colour → ℕ) × IsBesideKomi x points
beside_komi x k c s o = (
  points,
  record {
    black = λ l d t p. (let same = one_start x.board Black x.tax _ _ p.black.1 o.black.1 in omega (arith, same, p.black.2));
    white = λ l d t p. (let same = one_start x.board White x.tax _ _ p.white.1 o.white.1 in omega (arith, same, p.white.2));
  },
)
  where
    points : Colour → ℕ
    points Black = o.black.0 + x.black_prisoners
    points White = o.white.0 + x.white_prisoners

pub opens_with_each : OpensWithEach
opens_with_each x k l c d s o = (
  record {
    board = s.board;
    contested = s.contested;
    purses = record {
      black = o.black.0 + x.black_prisoners + komi_points Black l;
      white = o.white.0 + x.white_prisoners + komi_points White l;
      token = komi_token l;
    };
    side = d;
  },
  record {
    board = o.board;
    contested = o.contested;
    black = (o.black.0, o.black.1, refl);
    white = (o.white.0, o.white.1, refl);
    token = refl;
    turn = refl;
  },
)
