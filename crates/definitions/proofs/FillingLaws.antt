-- The lines of document 01 that are marked to be proved, computed. Assumes nothing.
use Rattle.definitions.specs.Grid.{set_down, same_cell, box, volume, byte_at, grid_with, filled_cells, sides_then_cells, same_grid, grid_ahead}
use Rattle.definitions.specs.Maps.{side, coordinate, from_end, map_sides, map_cell, axis_of, flip_of, inverse, map_grid, permutations, transform, parity, turns, mirrorings, mirror}
use Rattle.definitions.specs.Stripping.{along, corner, span, spanned, strip, frame_of, own_frame}
use Rattle.definitions.specs.Scan.{axis_ahead, axes, cell_ahead, scan, scan_number}
use Rattle.definitions.specs.Kinds.{variants, smallest, same_form, form_ahead, sorted, forms, mirrored_form, copies_of, partner_of, kinds_of}
use Rattle.definitions.specs.Placements.{origin, lies, reaches, fits, placements_at, placements_of, compile}
use Rattle.definitions.specs.Packing.{rank, ahead, same_placement, covering, used, limits, placed, covers_once, within_copies, is_packing}
use Rattle.definitions.specs.Kept.{compared, smaller, kind_after, cell_after, moved, image, symmetries, turned_images, mirrored_images, images, kept}
use Rattle.definitions.specs.Orders.{start, possible, choose, search, fast_choices, identifies_turned, sizes, all_cells, kind0_first, fast_list, tally_ahead, tallies, knuth_choices, knuth_list, packings, listed}
use Rattle.definitions.specs.Answers.{taken, copy_on, answer}
use Rattle.definitions.specs.Page.{page}
use Rattle.definitions.specs.Refusals.{sides_of, grid_of, lent_of, strip_tray, tray_of, identifies, identify_of, is_side, sides_fit, cells_lie, are_bits, some_filled, filled_where, is_tight, copy_count, board_cell_count, is_ported, is_knuth, placement_count, rows_of, link_count, table, refusal}
use Rattle.definitions.specs.Outcomes.{answers_of, answer_size, capacity, page_of, over_start, refused, accepted, outcome}
use Rattle.definitions.specs.Fillings.{FillingsHold, fillings, lists, holds}
use Rattle.definitions.specs.Files.{call_on}

pub fillings_hold : FillingsHold
unfolding FillingsHold call_on fillings lists holds same_cell box volume byte_at grid_with filled_cells sides_then_cells same_grid grid_ahead side coordinate from_end map_sides map_cell axis_of flip_of inverse map_grid permutations transform parity turns mirrorings mirror axis_ahead axes cell_ahead scan scan_number variants smallest same_form form_ahead sorted forms mirrored_form copies_of partner_of kinds_of origin lies reaches fits placements_at placements_of compile rank ahead same_placement covering used limits placed covers_once within_copies is_packing compared smaller kind_after cell_after moved image symmetries turned_images mirrored_images images kept start possible choose search fast_choices identifies_turned sizes all_cells kind0_first fast_list tally_ahead tallies knuth_choices knuth_list packings listed taken copy_on answer page sides_of grid_of lent_of strip_tray tray_of set_down along corner span spanned strip frame_of own_frame identifies identify_of is_side sides_fit cells_lie are_bits some_filled filled_where is_tight copy_count board_cell_count is_ported is_knuth placement_count rows_of link_count table refusal answers_of answer_size capacity page_of over_start refused accepted outcome
fillings_hold = tt
