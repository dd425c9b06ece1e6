-- Negatives that are noted, one after the other, stay noted.
use Rattle.std.proofs.Common.{ℕ, ◌≡◌, ◌+◌, ◌-◌, ◌<◌, ◌≤◌, arith, refl, sym, ap, ◌∙◌, subst, below_more, inl, inr, min, set, List, [], length, get_or, Option, Some, None}
use Rattle.std.proofs.lemmas.Bool.{cases_eq}
use Rattle.std.proofs.lemmas.List.{get_or-set_other}
use Rattle.go_grid.specs.declared.grid.Colour.{Colour}
use Rattle.go_grid.specs.declared.grid.Colour.TheVariants.{Black, White}
use Rattle.short_games.specs.Tree.{Tree}
use Rattle.game_store.specs.Meaning.{Extends}
use Rattle.game_canon.proofs.ChangedIdLaws.{extends-on}
use Rattle.endgame_solver.specs.inner.Sharing.{AreNegatives}
use Rattle.cycle_solver.specs.declared.region_game.RegionGame.{RegionGame}
use Rattle.cycle_solver.specs.GameLists.{layers_for, own_layers}
use Rattle.cycle_solver.specs.inner.Shared.{AreLayersOfIds, AreNoted, AreNotedIn, HaveRoom, IsNoted, KeepsNotes}

pub keeps-all : (known : List (Option ℕ)) → KeepsNotes known known
keeps-all known id turned is = is

pub keeps-on : (a b c : List (Option ℕ)) → KeepsNotes a b → KeepsNotes b c → KeepsNotes a c
keeps-on a b c first second id turned is = second id turned (first id turned is)

pub noted-on : (a b : List (Option ℕ)) (id : ℕ) → KeepsNotes a b → IsNoted a id → IsNoted b id
noted-on a b id keeps (turned, is) = (turned, keeps id turned is)

pub noted_in-on : (a b : List (Option ℕ)) (ids : List ℕ) → KeepsNotes a b → AreNotedIn a ids → AreNotedIn b ids
noted_in-on a b ids keeps noted i lt = noted-on a b (get_or ids i 0) keeps (noted i lt)

pub all_noted-on : (a b : List (Option ℕ)) (layers : List (List ℕ)) → KeepsNotes a b → AreNoted a layers → AreNoted b layers
all_noted-on a b layers keeps noted j lt = noted_in-on a b (get_or layers j []) keeps (noted j lt)

-- one note more, where there was none
pub keeps-set : (known : List (Option ℕ)) (id turned : ℕ) → get_or known id None ≡ None → KeepsNotes known (set known id (Some turned))
keeps-set known id turned none k t is = elim (cases_eq k id) as (λ _. get_or (set known id (Some turned)) k None ≡ Some t) [
  | inl same ↦ absurd (apart (sym none ∙ ap (λ n. get_or known n None) (sym same) ∙ is))
  | inr other ↦ get_or-set_other known id k (Some turned) None other ∙ is
]
  where
    apart : None ≡ Some t → ⊥
    apart e = subst (λ x. Is x) e tt
      where
        Is : Option ℕ → Type 0
        Is None = Unit {0}
        Is (Some n) = ⊥

-- what is noted of the first n: `Has` of each of them
pub record NotedBelow (Has : List (Option ℕ) → ℕ → Type 0) (before : List (Option ℕ)) (start : List Tree) (known : List (Option ℕ)) (Ts : List Tree)
    (n : ℕ) : Type 0 where
  pub noted : (i : ℕ) → i < n → Has known i
  pub keeps : KeepsNotes before known
  pub right : AreNegatives Ts known
  pub long : length known ≡ length before
  pub kept : Extends start Ts

pub noted_none : (Has : List (Option ℕ) → ℕ → Type 0) (before : List (Option ℕ)) (start : List Tree) → AreNegatives start before
    → NotedBelow Has before start before start 0
noted_none Has before start right = record {
  noted = λ i lt. absurd (omega (arith, lt));
  keeps = keeps-all before;
  right = right;
  long = refl;
  kept = record { longer = omega arith; same = λ i lt. refl };
}

pub noted_more : (Has : List (Option ℕ) → ℕ → Type 0) (before : List (Option ℕ)) (start : List Tree) (known after : List (Option ℕ)) (Ts Us : List Tree) (n : ℕ)
    → ((i : ℕ) → Has known i → Has after i) → NotedBelow Has before start known Ts n → Has after n → KeepsNotes known after → AreNegatives Us after
    → length after ≡ length known → Extends Ts Us → NotedBelow Has before start after Us (n + 1)
noted_more Has before start known after Ts Us n stays s has keeps right long kept = record {
  noted = below_more (λ i. Has after i) n (λ i lt. stays i (s.noted i lt)) has;
  keeps = keeps-on before known after s.keeps keeps;
  right = right;
  long = long ∙ s.long;
  kept = extends-on start Ts Us s.kept kept;
}

-- a layer below the number of layers serves its own budget
pub served_own : (layers : List (List ℕ)) (j : ℕ) → j < length layers → get_or layers (min j (length layers - 1)) [] ≡ get_or layers j []
served_own layers j lt = (let same : min j (length layers - 1) ≡ j = omega (arith, lt) in ap (λ n. get_or layers n []) same)

-- the layers of White
pub white_is : (game : RegionGame) (white : Option (List (List ℕ))) → game.white ≡ white → layers_for game White ≡ own_layers white game.black
white_is game white is = ap (λ w. own_layers w game.black) is

pub ids_on : (Ts Us : List Tree) (layers : List (List ℕ)) → Extends Ts Us → AreLayersOfIds Ts layers → AreLayersOfIds Us layers
ids_on Ts Us layers e ids j lt i short = (let less = ids j lt i short in omega (arith, less, e.longer))

pub room_on : (known after : List (Option ℕ)) (layers : List (List ℕ)) → length after ≡ length known → HaveRoom known layers → HaveRoom after layers
room_on known after layers long room j lt i short = (let less = room j lt i short in omega (arith, less, long))

-- where both players' layers are noted
pub both_noted : (known : List (Option ℕ)) (game : RegionGame) (white : Option (List (List ℕ))) → game.white ≡ white → AreNoted known game.black
    → AreNoted known (own_layers white game.black) → (c : Colour) → AreNoted known (layers_for game c)
both_noted known game white is black own Black = black
both_noted known game white is black own White = subst (AreNoted known) (sym (white_is game white is)) own

-- as much is noted where there is more room
pub room_negatives : (Ts : List Tree) (known after : List (Option ℕ)) → ((i : ℕ) → get_or after i None ≡ get_or known i None) → AreNegatives Ts known
    → AreNegatives Ts after
room_negatives Ts known after same right id turned is = right id turned (sym (same id) ∙ is)

pub room_keeps : (known after last : List (Option ℕ)) → ((i : ℕ) → get_or after i None ≡ get_or known i None) → KeepsNotes after last → KeepsNotes known last
room_keeps known after last same keeps id turned is = keeps id turned (same id ∙ is)

pub room_for : (Ts : List Tree) (known : List (Option ℕ)) (layers : List (List ℕ)) → length Ts ≤ length known → AreLayersOfIds Ts layers → HaveRoom known layers
room_for Ts known layers le ids j lt i short = (let less = ids j lt i short in omega (arith, less, le))
