-- The tables of Steps, computed. Assumes nothing.
use lib.Dec.{T}
use Rattle.lists.specs.Lists.{all}
use Rattle.definitions.specs.Grid.{set_down, same_cell, box, volume, byte_at, grid_with, filled_cells, sides_then_cells, same_grid, grid_ahead}
use Rattle.definitions.specs.Maps.{side, coordinate, from_end, map_sides, map_cell, axis_of, flip_of, inverse, map_grid, permutations, transform, parity, turns, mirrorings, mirror}
use Rattle.definitions.specs.Stripping.{along, corner, span, spanned, strip, frame_of, own_frame}
use Rattle.definitions.specs.Scan.{axis_ahead, axes, cell_ahead, scan, scan_number}
use Rattle.definitions.specs.Kinds.{variants, smallest, same_form, form_ahead, sorted, forms, mirrored_form, copies_of, partner_of, kinds_of}
use Rattle.definitions.specs.Placements.{origin, lies, reaches, fits, placements_at, placements_of, compile}
use Rattle.definitions.specs.Refusals.{sides_of, grid_of, lent_of, strip_tray, tray_of, identifies, identify_of}
use Rattle.definitions.specs.Moves.{quarter_sides, quarter_cell, step_cell, move_sides, move_cell}
use Rattle.definitions.specs.Files.{call_on}
use Rattle.definitions.specs.Steps.{strip_cases, strips_so, tray_cases, comes_to, move_cases, moves_so}

pub strip_cases_hold : T (all strips_so strip_cases)
unfolding strip_cases strips_so set_down same_cell box volume byte_at grid_with filled_cells sides_then_cells same_grid grid_ahead side coordinate from_end map_sides map_cell axis_of flip_of inverse map_grid permutations transform parity turns mirrorings mirror along corner span spanned strip frame_of own_frame axis_ahead axes cell_ahead scan scan_number variants smallest same_form form_ahead sorted forms mirrored_form copies_of partner_of kinds_of origin lies reaches fits placements_at placements_of compile sides_of grid_of lent_of strip_tray tray_of identifies identify_of
strip_cases_hold = tt

pub tray_cases_hold : T (all comes_to tray_cases)
unfolding tray_cases comes_to call_on set_down same_cell box volume byte_at grid_with filled_cells sides_then_cells same_grid grid_ahead side coordinate from_end map_sides map_cell axis_of flip_of inverse map_grid permutations transform parity turns mirrorings mirror along corner span spanned strip frame_of own_frame axis_ahead axes cell_ahead scan scan_number variants smallest same_form form_ahead sorted forms mirrored_form copies_of partner_of kinds_of origin lies reaches fits placements_at placements_of compile sides_of grid_of lent_of strip_tray tray_of identifies identify_of
tray_cases_hold = tt

pub move_cases_hold : T (all moves_so move_cases)
unfolding move_cases moves_so quarter_sides quarter_cell step_cell move_sides move_cell same_cell
move_cases_hold = tt
