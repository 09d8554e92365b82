-- What the code's values stand for among the definitions of document 01.
use Rattle.std.specs.Prelude.{ℕ, ◌≤◌, Bool, true, false, ◌&&◌, ltb, leb}
use Rattle.definitions.specs.Grid.{Sides, Cell}
use Rattle.definitions.specs.Maps.{Map}
use Rattle.shape.specs.declared.Axis.{Axis}
use Rattle.shape.specs.declared.Axis.TheVariants.{X, Y, Z}
use Rattle.shape.specs.declared.Coord.{Coord}
use Rattle.shape.specs.declared.constants.Axes.{Axes}

abbrev pub as_sides : Coord → Sides
as_sides s = record { a = s.0; b = s.1; c = s.2 }

abbrev pub as_cell : Coord → Cell
as_cell u = record { x = u.0; y = u.1; z = u.2 }

-- an axis and a flip, as the numbers that a map has for them
abbrev pub axis_number : Axis → ℕ
axis_number X = 0
axis_number Y = 1
axis_number Z = 2

abbrev pub flip_number : Bool → ℕ
flip_number false = 0
flip_number true = 1

abbrev pub as_map : Axes → Map
as_map e =
    record {
      axis_x = axis_number e.x;
      axis_y = axis_number e.y;
      axis_z = axis_number e.z;
      flip_x = flip_number e.flip_x;
      flip_y = flip_number e.flip_y;
      flip_z = flip_number e.flip_z;
    }

-- no side is above 8
pub record ShortSides (s : Sides) : Type 0 where
  pub a : s.a ≤ 8
  pub b : s.b ≤ 8
  pub c : s.c ≤ 8

-- whether no side is above 8, and whether a cell lies in a box
unfoldable pub are_short : Sides → Bool
are_short s = leb s.a 8 && (leb s.b 8 && leb s.c 8)

unfoldable pub lies_in : Sides → Cell → Bool
lies_in s u = ltb u.x s.a && (ltb u.y s.b && ltb u.z s.c)
