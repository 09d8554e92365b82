-- A turned box, line by line: where its cells lie in the box that was turned.
use Rattle.std.specs.Prelude.{◌≡◌, ℕ, ◌+◌, ◌*◌, ◌<◌, cond, not, List, map, eqb, get_or}
use Rattle.lists.specs.Lists.{each, below}
use Rattle.definitions.specs.Grid.{Sides}
use Rattle.definitions.specs.Maps.{side, from_end}
use Rattle.shape.specs.Coords.{flip_number}
use Rattle.shape.specs.declared.lines.Line.{Line}

-- what a step along an axis adds to a place; and a line that runs along an axis of a box
unfoldable pub stride_of : Sides → ℕ → ℕ
stride_of s i = cond (eqb i 0) (s.b * s.c) (cond (eqb i 1) s.c 1)

pub record RunsAlong (l : Line) (s : Sides) (axis flip : ℕ) : Type 0 where
  pub flipped : l.flip ≡ not (eqb flip 0)
  pub cells : l.n ≡ side s axis
  pub apart : l.step ≡ stride_of s axis

-- how far cell i of a line lies from the line's place
unfoldable pub step_to : Line → ℕ → ℕ
step_to l i = from_end (flip_number l.flip) l.n i * l.step

-- the bytes of a line from a place on, those of the lines z along a line y, and those of a box
unfoldable pub line_of : List ℕ → ℕ → Line → List ℕ
line_of cells start z = map (λ k. get_or cells (start + step_to z k) 0) (below z.n)

unfoldable pub layer_of : List ℕ → ℕ → Line → Line → List ℕ
layer_of cells start y z = each (below y.n) (λ j. line_of cells (start + step_to y j) z)

unfoldable pub box_of : List ℕ → Line → Line → Line → List ℕ
box_of cells x y z = each (below x.n) (λ i. layer_of cells (step_to x i) y z)

-- the cells of a line from a place on stand among so many; those of the lines z along a line y
abbrev pub LineIn : ℕ → ℕ → Line → Type 0
LineIn size start z = (k : ℕ) → k < z.n → start + step_to z k < size

abbrev pub LayerIn : ℕ → ℕ → Line → Line → Type 0
LayerIn size start y z = (j : ℕ) → j < y.n → LineIn size (start + step_to y j) z
