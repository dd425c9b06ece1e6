-- The name of the file that a line asks for.
use Rattle.std.specs.Prelude.{◌≡◌, ◌⊎◌, ℕ, List, Option, Some, None}
use Rattle.std.specs.Str.{IsUtf8}
use Rattle.gtp_words.specs.Asking.{LineName, Naming}
use Rattle.board_orders.specs.Orders.{Asked, Asks, BoardOrder}
use Rattle.board_orders.specs.Orders.Asked.{something}
use Rattle.board_orders.specs.Orders.BoardOrder.{loadsgf}

-- the name in an order to load a file, where it is UTF-8; no other order names one
abbrev pub OrderNames : BoardOrder → Option (List ℕ) → Type 0
OrderNames (loadsgf file after) name = (IsUtf8 file × (name ≡ Some file)) ⊎ ((¬ IsUtf8 file) × (name ≡ None))
OrderNames order name = name ≡ None

-- the name in what the words ask for
abbrev pub AskedNames : Asked → Option (List ℕ) → Type 0
AskedNames (something order) name = OrderNames order name
AskedNames asked name = name ≡ None

-- the name in a line
abbrev pub LineNames : Naming
LineNames = LineName Asks AskedNames
