-- A rectangle of points.
use Rattle.sgf_go.specs.Values.{Rectangle}
use Rattle.sgf_go.specs.declared.values.Area.{Area}

-- the code's area as a rectangle
abbrev pub rectangle : Area → Rectangle
rectangle a = record { left = a.left; right = a.right; top = a.top; bottom = a.bottom }
