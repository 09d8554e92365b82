-- An accepted tray has at most 128 filled board cells and 16 kinds. Assumes nothing.
use Prim.Native.Nat.{◌≤◌}
use mathlib.Core.List.{map}
use mathlib.Core.Path.{◌≡◌, ◌∙◌}
use native.Mathlib.Omega.{arith}
use lib.ListN.{length, length-map}
use Rattle.lists.proofs.ListLaws.{apart_length, length_numbered}
use Rattle.lists.proofs.SortLaws.{sort_at, apart_ascending}
use Rattle.definitions.specs.Stripping.{strip}
use Rattle.definitions.specs.Kinds.{Sorted, sort_piece, form_ahead, sorted, forms, kinds_of}
use Rattle.definitions.specs.Placements.{compile}
use Rattle.definitions.specs.Refusals.{Call, strip_tray, tray_of, lent_of, board_cell_count, refusal}
use Rattle.theorems.proofs.StrippingLaws.{strip_count, sum_bits}
use Rattle.theorems.proofs.RefusalLaws.{passed}
use Rattle.theorems.proofs.PartnerLaws.{form_irrefl, fs, fs_up}
use Rattle.theorems.proofs.ShapeLaws.{scan_length, lent_board_whole}
use Rattle.theorems.proofs.GeometryLaws.{piece_whole}

module _ (l : Call) (ok : refusal l ≡ 0) where
  pub few_cells : length (compile (tray_of l)).cells ≤ 128
  unfolding compile board_cell_count strip_tray tray_of
  few_cells =
      let g = (lent_of l).board in
      let a = (passed l ok).lent.few_cells in
      let b = sum_bits g (passed l ok).lent.board_bits (lent_board_whole l ok) in
      let d = strip_count g in
      let e = scan_length (strip g).sides (strip g) in
      omega arith

  pub few_kinds : length (compile (tray_of l)).kinds ≤ 16
  unfolding compile kinds_of lent_of strip_tray tray_of fs forms sorted
  few_kinds =
      let a = (passed l ok).lent.few_pieces in
      let qs = sorted (tray_of l) in
      let b = apart_length (forms qs) (map (λ q. q.form) qs) (apart_ascending form_ahead form_irrefl (forms qs) (fs_up (tray_of l) (piece_whole l ok)))
      (λ g m. sort_at form_ahead (map (λ (q : Sorted). q.form) qs) m) in
      let d = length-map qs (λ (q : Sorted). q.form) in
      let e = length_numbered {B = Sorted} sort_piece 0 (tray_of l).pieces in
      let f : length (tray_of l).pieces ≡ length l.pieces = length-map (lent_of l).pieces _ ∙ length-map l.pieces _ in
      let g : length (compile (tray_of l)).kinds ≡ length (forms qs) = length-map (forms qs) _ in
      omega arith
