-- The tables of Dlx1Tables, computed. Assumes nothing.
use mathlib.Core.Bool.{not}
use lib.Dec.{T}
use Rattle.definitions.specs.Texts.{text}
use Rattle.lists.specs.Lists.{all}
use Rattle.definitions.specs.Grid.{set_down, same_cell, box, volume, byte_at, grid_with, filled_cells, sides_then_cells, same_grid, grid_ahead}
use Rattle.definitions.specs.Maps.{side, coordinate, from_end, map_sides, map_cell, axis_of, flip_of, inverse, map_grid, permutations, transform, parity, turns, mirrorings, mirror}
use Rattle.definitions.specs.Stripping.{along, corner, span, spanned, strip, frame_of, own_frame}
use Rattle.definitions.specs.Scan.{axis_ahead, axes, cell_ahead, scan, scan_number}
use Rattle.definitions.specs.Kinds.{variants, smallest, same_form, form_ahead, sorted, forms, mirrored_form, copies_of, partner_of, kinds_of}
use Rattle.definitions.specs.Placements.{origin, lies, reaches, fits, placements_at, placements_of, compile}
use Rattle.definitions.specs.Packing.{rank, ahead, same_placement, covering, used, limits, placed, covers_once, within_copies, is_packing}
use Rattle.definitions.specs.Kept.{compared, smaller, kind_after, cell_after, moved, image, symmetries, turned_images, mirrored_images, images, kept}
use Rattle.definitions.specs.Orders.{start, possible, choose, search, fast_choices, identifies_turned, sizes, all_cells, kind0_first, fast_list, tally_ahead, tallies, knuth_choices, knuth_list, packings, listed}
use Rattle.definitions.specs.Answers.{taken, copy_on, answer}
use Rattle.definitions.specs.Page.{page}
use Rattle.definitions.specs.Refusals.{sides_of, grid_of, lent_of, strip_tray, tray_of, identifies, identify_of, is_side, sides_fit, cells_lie, are_bits, some_filled, filled_where, is_tight, copy_count, board_cell_count, is_ported, is_knuth, placement_count, rows_of, link_count, table, refusal}
use Rattle.definitions.specs.Outcomes.{answers_of, answer_size, capacity, page_of, over_start, cleared, refused, accepted, outcome}
use Rattle.definitions.specs.Files.{call_on, fields_of, field, lines_of, is_digit, is_number, number_in, grid_in, is_grid_in, is_config, is_board, is_wood, has_piece_fields, is_piece, wood_in, piece_in, is_file, call_in, decimal, cell_shown, entry_line, last_line, refused_line, listing, packed}
use Rattle.definitions.specs.Dlx1.{cell_item, kind_item, line, stocked, item_line, boxed, built_cells, option_line, dlx1_text}
use Rattle.definitions.specs.Dlx1Covers.{items_in, is_bar, first_items, primary_in, secondary_in, options_in, is_among, hits, is_text_cover, parts_names, is_name, apart, is_option, is_taken_by_dlx1}
use Rattle.definitions.specs.TextCalls.{as_listing, text_tray, text_of, text_table, text_refusal, text_refused, text_accepted, text_outcome, text_call_in, dlx1_printed}
use Rattle.definitions.specs.Dlx1Tables.{texts, texts_taken, texts_not_taken, covers_of, is_text_case, text_refusals, is_refused_by, programs, is_printed_by_dlx1}

pub texts_hold : T (all is_text_case texts)
unfolding texts is_text_case covers_of is_text_cover is_taken_by_dlx1 cell_item kind_item line stocked item_line boxed built_cells option_line dlx1_text items_in is_bar first_items primary_in secondary_in options_in is_among hits parts_names is_name apart is_option as_listing text_tray text_of text_table text_refusal text_refused text_accepted text_outcome cleared fields_of field lines_of is_digit is_number number_in grid_in is_grid_in is_config is_board is_wood has_piece_fields is_piece wood_in piece_in is_file call_in decimal cell_shown entry_line last_line refused_line listing packed call_on same_cell box volume byte_at grid_with filled_cells sides_then_cells same_grid grid_ahead side coordinate from_end map_sides map_cell axis_of flip_of inverse map_grid permutations transform parity turns mirrorings mirror axis_ahead axes cell_ahead scan scan_number variants smallest same_form form_ahead sorted forms mirrored_form copies_of partner_of kinds_of origin lies reaches fits placements_at placements_of compile rank ahead same_placement covering used limits placed covers_once within_copies is_packing compared smaller kind_after cell_after moved image symmetries turned_images mirrored_images images kept start possible choose search fast_choices identifies_turned sizes all_cells kind0_first fast_list tally_ahead tallies knuth_choices knuth_list packings listed taken copy_on answer page sides_of grid_of lent_of strip_tray tray_of set_down along corner span spanned strip frame_of own_frame identifies identify_of is_side sides_fit cells_lie are_bits some_filled filled_where is_tight copy_count board_cell_count is_ported is_knuth placement_count rows_of link_count table refusal answers_of answer_size capacity page_of over_start refused accepted outcome
texts_hold = tt

pub texts_taken_hold : T (all (λ s. is_taken_by_dlx1 (text s)) texts_taken)
unfolding texts_taken is_taken_by_dlx1 lines_of items_in is_bar first_items primary_in secondary_in options_in is_among parts_names is_name apart is_option
texts_taken_hold = tt

pub texts_not_taken_hold : T (all (λ s. not (is_taken_by_dlx1 (text s))) texts_not_taken)
unfolding texts_not_taken is_taken_by_dlx1 lines_of items_in is_bar first_items primary_in secondary_in options_in is_among parts_names is_name apart is_option
texts_not_taken_hold = tt

pub text_refusals_hold : T (all is_refused_by text_refusals)
unfolding text_refusals is_refused_by cell_item kind_item line stocked item_line boxed built_cells option_line dlx1_text as_listing text_tray text_of text_table text_refusal text_refused text_accepted text_outcome cleared fields_of field lines_of is_digit is_number number_in grid_in is_grid_in is_config is_board is_wood has_piece_fields is_piece wood_in piece_in is_file call_in decimal cell_shown entry_line last_line refused_line listing packed call_on same_cell box volume byte_at grid_with filled_cells sides_then_cells same_grid grid_ahead side coordinate from_end map_sides map_cell axis_of flip_of inverse map_grid permutations transform parity turns mirrorings mirror axis_ahead axes cell_ahead scan scan_number variants smallest same_form form_ahead sorted forms mirrored_form copies_of partner_of kinds_of origin lies reaches fits placements_at placements_of compile rank ahead same_placement covering used limits placed covers_once within_copies is_packing compared smaller kind_after cell_after moved image symmetries turned_images mirrored_images images kept start possible choose search fast_choices identifies_turned sizes all_cells kind0_first fast_list tally_ahead tallies knuth_choices knuth_list packings listed taken copy_on answer page sides_of grid_of lent_of strip_tray tray_of set_down along corner span spanned strip frame_of own_frame identifies identify_of is_side sides_fit cells_lie are_bits some_filled filled_where is_tight copy_count board_cell_count is_ported is_knuth placement_count rows_of link_count table refusal answers_of answer_size capacity page_of over_start refused accepted outcome
text_refusals_hold = tt

pub programs_hold : T (all is_printed_by_dlx1 programs)
unfolding programs is_printed_by_dlx1 text_call_in dlx1_printed cell_item kind_item line stocked item_line boxed built_cells option_line dlx1_text as_listing text_tray text_of text_table text_refusal cleared fields_of field lines_of is_digit is_number number_in grid_in is_grid_in is_config is_board is_wood has_piece_fields is_piece wood_in piece_in is_file call_in decimal cell_shown entry_line last_line refused_line listing packed call_on same_cell box volume byte_at grid_with filled_cells sides_then_cells same_grid grid_ahead side coordinate from_end map_sides map_cell axis_of flip_of inverse map_grid permutations transform parity turns mirrorings mirror axis_ahead axes cell_ahead scan scan_number variants smallest same_form form_ahead sorted forms mirrored_form copies_of partner_of kinds_of origin lies reaches fits placements_at placements_of compile rank ahead same_placement covering used limits placed covers_once within_copies is_packing compared smaller kind_after cell_after moved image symmetries turned_images mirrored_images images kept start possible choose search fast_choices identifies_turned sizes all_cells kind0_first fast_list tally_ahead tallies knuth_choices knuth_list packings listed taken copy_on answer page sides_of grid_of lent_of strip_tray tray_of set_down along corner span spanned strip frame_of own_frame identifies identify_of is_side sides_fit cells_lie are_bits some_filled filled_where is_tight copy_count board_cell_count is_ported is_knuth placement_count rows_of link_count table refusal answers_of answer_size capacity page_of over_start refused accepted outcome
programs_hold = tt
