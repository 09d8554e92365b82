-- Where there are seven fields, the last is a wood. Assumes nothing.
use Rattle.std.proofs.Common.{rules}
use Rattle.definitions.specs.Files.{has_piece_fields, is_wood, wood_in}
use Rattle.files.proofs.lines.wood_of.Goals as goal

pub returns-in_err-wood-in-7 : goal.returns-in_err-wood-in-7
unfolding has_piece_fields is_wood wood_in
returns-in_err-wood-in-7 c = search rules

pub returns-in_ok-wood-in-7 : goal.returns-in_ok-wood-in-7
unfolding has_piece_fields is_wood wood_in
returns-in_ok-wood-in-7 c = search rules
