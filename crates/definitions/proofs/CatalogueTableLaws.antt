-- The tables of CatalogueTables, computed. Assumes nothing.
use lib.Dec.{T}
use Rattle.lists.specs.Lists.{all}
use Rattle.definitions.specs.Grid.{same_cell, box, volume, byte_at, grid_with, filled_cells, sides_then_cells, same_grid, grid_ahead}
use Rattle.definitions.specs.Maps.{side, coordinate, from_end, map_sides, map_cell, axis_of, flip_of, inverse, map_grid, permutations, transform, parity, turns}
use Rattle.definitions.specs.Kinds.{variants, smallest}
use Rattle.definitions.specs.Page.{page}
use Rattle.definitions.specs.Refusals.{filled_where, is_tight}
use Rattle.definitions.specs.Outcomes.{over_start}
use Rattle.definitions.specs.Files.{fields_of, field, lines_of, is_digit, is_number, number_in, decimal, refused_line}
use Rattle.definitions.specs.Catalogue.{touches, wider, hangs, is_needed, boxes, is_smallest_piece, in_box_of, catalogue}
use Rattle.definitions.specs.CatalogueCalls.{catalogue_table, catalogue_refusal, entry_bytes, catalogue_page, catalogue_refused, catalogue_accepted, catalogue_outcome, asks_cells, is_request, cells_asked, piece_shown, count_shown, catalogue_listing, catalogue_printed}
use Rattle.definitions.specs.CatalogueTables.{lists_of_pieces, is_list_of_pieces, numbers_of_pieces, page_cases, is_page_case, requests, is_printed_by_catalogue}

pub lists_of_pieces_hold : T (all is_list_of_pieces lists_of_pieces)
unfolding lists_of_pieces is_list_of_pieces same_cell box volume byte_at grid_with filled_cells sides_then_cells same_grid grid_ahead side coordinate from_end map_sides map_cell axis_of flip_of inverse map_grid permutations transform parity turns variants smallest filled_where is_tight touches wider hangs is_needed boxes is_smallest_piece in_box_of catalogue
lists_of_pieces_hold = tt

pub numbers_of_pieces_hold : T numbers_of_pieces
unfolding numbers_of_pieces same_cell box volume byte_at grid_with filled_cells sides_then_cells same_grid grid_ahead side coordinate from_end map_sides map_cell axis_of flip_of inverse map_grid permutations transform parity turns variants smallest filled_where is_tight touches wider hangs is_needed boxes is_smallest_piece in_box_of catalogue
numbers_of_pieces_hold = tt

pub page_cases_hold : T (all is_page_case page_cases)
unfolding page_cases is_page_case same_cell box volume byte_at grid_with filled_cells sides_then_cells same_grid grid_ahead side coordinate from_end map_sides map_cell axis_of flip_of inverse map_grid permutations transform parity turns variants smallest filled_where is_tight touches wider hangs is_needed boxes is_smallest_piece in_box_of catalogue page over_start catalogue_table catalogue_refusal entry_bytes catalogue_page catalogue_refused catalogue_accepted catalogue_outcome
page_cases_hold = tt

pub requests_hold : T (all is_printed_by_catalogue requests)
unfolding requests is_printed_by_catalogue same_cell box volume byte_at grid_with filled_cells sides_then_cells same_grid grid_ahead side coordinate from_end map_sides map_cell axis_of flip_of inverse map_grid permutations transform parity turns variants smallest filled_where is_tight touches wider hangs is_needed boxes is_smallest_piece in_box_of catalogue catalogue_table catalogue_refusal fields_of field lines_of is_digit is_number number_in decimal refused_line asks_cells is_request cells_asked piece_shown count_shown catalogue_listing catalogue_printed
requests_hold = tt
