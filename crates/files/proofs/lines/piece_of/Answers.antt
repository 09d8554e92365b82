-- A line that passes each test is a piece, and its grid is that of the definition. Assumes nothing.
use Rattle.std.proofs.Common.{arith}
use Rattle.definitions.specs.Files.{grid_in, is_piece, piece_in}
use Rattle.files.proofs.PartLaws.{same_are}
use Rattle.files.proofs.lines.piece_of.Goals as goal

pub returns : goal.returns
unfolding is_piece piece_in grid_in
returns c = grind (arith, same_are)
