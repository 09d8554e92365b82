-- Orders of the axes of a box.
use Rattle.std.specs.Prelude.{ℕ, List, [], ◌∷◌, ◌≡◌, ◌≢◌}
use Rattle.definitions.specs.Grid.{Sides}
use Rattle.definitions.specs.Scan.{axes}
use Rattle.shape.specs.Coords.{axis_number}
use Rattle.shape.specs.declared.Axis.{Axis}

-- three axes, as their numbers
abbrev pub axis_list : Axis → Axis → Axis → List ℕ
axis_list i j k = axis_number i ∷ axis_number j ∷ axis_number k ∷ []

-- each of the three axes stands once
pub record EachOnce (i j k : Axis) : Type 0 where
  pub first_second : i ≢ j
  pub first_third : i ≢ k
  pub second_third : j ≢ k

-- the order of some box's axes
pub record IsOrder (order : List ℕ) : Type 0 where
  pub box : Sides
  pub is_its : axes box ≡ order
