-- Poses: the variants of a piece as the fit test reads them, by 16-bit numbers (src/poses.rt).
use Rattle.std.specs.Prelude.{ℕ, zero, suc, ◌+◌, ◌*◌, ◌/◌, ◌%◌, ◌≤◌, ◌<◌, List, [], map, ◌≡◌, length, get_or, take, set, replicate}
use Rattle.std.proofs.Math.Seq.{paste}
use Rattle.lists.specs.Lists.{sort}
use Rattle.definitions.specs.Grid.{Cell, Grid, filled_cells}
use Rattle.definitions.specs.Scan.{cell_ahead}
use Rattle.definitions.specs.Placements.{origin}
use Rattle.placements.specs.declared.poses.Pose.{Pose}
use Rattle.placements.specs.declared.poses.Poses.{Poses}

-- what stands for a pose past a list's end, and no variants
abbrev pub no_pose : Pose
no_pose = record { size = 0; codes = []; origin = 0 }

abbrev pub empty_poses : Poses
empty_poses = record { count = 0; list = replicate 24 (record { size = 0; codes = replicate 512 0; origin = 0 }) }

-- the code of a cell whose coordinates are below 8, and the cell with a code
unfoldable pub code_of : Cell → ℕ
code_of u = 64 * u.x + 8 * u.y + u.z

unfoldable pub cell_of : ℕ → Cell
cell_of n = record { x = n / 64; y = n / 8 % 8; z = n % 8 }

-- the filled cells of a variant, and its origin
unfoldable pub cells_in : Pose → List Cell
cells_in pose = map cell_of (take pose.size pose.codes)

unfoldable pub origin_in : Pose → Cell
origin_in pose = cell_of pose.origin

-- a variant by its filled cells in scan order, and all variants
unfoldable pub variant_in : List ℕ → Pose → List Cell
variant_in order pose = sort (cell_ahead order) (cells_in pose)

unfoldable pub variants_in : List ℕ → Poses → List (List Cell)
variants_in order poses = map (variant_in order) (take poses.count poses.list)

-- filled cells and their origin written as a pose
unfoldable pub with_pose : List ℕ → List Cell → Pose → Pose
with_pose order us pose =
    record {
      size = length us;
      codes = paste pose.codes 0 (map code_of us) (length us);
      origin = code_of (origin (sort (cell_ahead order) us));
    }

-- the first n of such lists as the first n poses: the other numbers stay
unfoldable pub with_poses : List ℕ → (ℕ → List Cell) → ℕ → Poses → Poses
with_poses order us zero poses = poses
with_poses order us (suc i) poses =
    let before = with_poses order us i poses in
    record before { list = set before.list i (with_pose order (us i) (get_or before.list i no_pose)) }

-- a variant stands there, with its origin; and so does each of them (no ghost field of `Poses`: the order of the axes is the board's)
pub record Stands (order : List ℕ) (pose : Pose) : Type 0 where
  pub small : pose.size ≤ 512
  pub origin_is : origin_in pose ≡ origin (variant_in order pose)

pub record Standing (order : List ℕ) (poses : Poses) : Type 0 where
  pub few : poses.count ≤ 24
  pub each : (i : ℕ) → i < poses.count → Stands order (get_or poses.list i no_pose)

-- a pose is that of a grid, and poses are those of grids
pub record PoseOf (order : List ℕ) (g : Grid) (pose : Pose) : Type 0 where
  pub stands : Stands order pose
  pub cells : cells_in pose ≡ filled_cells g

pub record Posed (order : List ℕ) (gs : List Grid) (poses : Poses) : Type 0 where
  pub stand : Standing order poses
  pub many : poses.count ≡ length gs
  pub cells : map cells_in (take poses.count poses.list) ≡ map filled_cells gs
