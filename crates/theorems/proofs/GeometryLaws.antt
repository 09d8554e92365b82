-- The geometry of an accepted call's tray: images and sequences of moves. Assumes nothing.
use Prim.Native.Nat.{ℕ}
use mathlib.Core.Bool.{Bool, true, false, not}
use mathlib.Core.List.Memᴰ
use mathlib.Core.List.{List, [], ◌∷◌, map, Memᴰ}
use mathlib.Core.Path.{◌≡◌, refl, sym, ap, ap₂, ◌∙◌, subst}
use lib.Dec.{T}
use lib.ListN.{length, get_or}
use Rattle.lists.specs.Lists.{ascending}
use Rattle.lists.proofs.NthLaws.{nth_mem, get_or_nth, nth_value}
use Rattle.definitions.specs.Grid.{Cell, Grid, volume, filled_cells, InBox}
use Rattle.definitions.specs.Maps.{Map, map_cell, map_grid}
use Rattle.theorems.proofs.MapLaws.{filled_at, turn_fits}
use Rattle.theorems.proofs.GroupLaws.{same_grid→eq, same_grid_of}
use Rattle.definitions.specs.Scan.{axes, cell_ahead, scan, scan_number}
use Rattle.definitions.specs.Kinds.{Tray, Piece, Kind, kinds_of, variants}
use Rattle.definitions.specs.Placements.{Placement, Compiled, compile}
use Rattle.definitions.specs.Packing.{Packing}
use Rattle.definitions.specs.Kept.{Identify, kind_after, image, images}
use Rattle.definitions.specs.Kept.Identify.{None, Turned, Mirrored}
use Rattle.definitions.specs.Moves.{Quarter, Move, Carries, in_reach, brings_back, is_odd, are_turns, grid_after, cell_after_all}
use Rattle.definitions.specs.Moves.Move.{turn, mirroring}
use Rattle.definitions.specs.Refusals.{Call, lent_of, tray_of, are_bits, refusal}
use Rattle.theorems.proofs.SearchLaws.{WellMade}
use Rattle.theorems.proofs.WellMadeLaws.{nth_number, mem_nth, number_below, up_board, ShapeFacts}
use Rattle.theorems.proofs.ShapeLaws.{lent_board_whole, lent_board_bits, board-is, stripped_piece, bits, tight, shape_facts, accepted_well_made, variant_at, smallest_at, kind_at}
use Rattle.theorems.proofs.CellLaws.{Tight, tight_of, tight_mapped, by-cells, scan_filled, filled_scan}
use Rattle.theorems.proofs.MoveLaws.{moves_map, moves_in, moves_cell, moves_grid, mapped_whole, mapped_bits, turn_moves, mirroring_moves, turns_even, turns_alone}
use Rattle.theorems.proofs.PartnerLaws.{kinds_partner}
use Rattle.theorems.proofs.ImageLaws.{Numbered, image_still, image_same, carried_image, image_carried}
use Rattle.theorems.proofs.ActLaws.{may, Allowed, ImageUnder, images-at, images-of, self_image, back_image, next_image, on_cells, act_inj}
use Rattle.theorems.proofs.KeptLaws.{Acts}
use Rattle.theorems.proofs.StrippingLaws.{strip_bits, strip_whole}

module _ (l : Call) (ok : refusal l ≡ 0) where
  abbrev T₀ : Tray
  T₀ = tray_of l

  abbrev facts : ShapeFacts T₀
  facts = shape_facts l ok

  board_whole : length T₀.board.cells ≡ volume T₀.board.sides
  board_whole = subst (λ (g : Grid). length g.cells ≡ volume g.sides) (sym (board-is l ok)) (strip_whole (lent_of l).board (lent_board_whole l ok))

  pub piece_whole : (q : Piece) → Memᴰ q T₀.pieces → length q.grid.cells ≡ volume q.grid.sides
  piece_whole q m = (stripped_piece l ok q m).2.whole

  board-bits : T (are_bits T₀.board)
  board-bits = subst (λ (g : Grid). T (are_bits g)) (sym (board-is l ok)) (strip_bits (lent_of l).board (lent_board_bits l ok))

  pub good : (d : Kind) → Memᴰ d (kinds_of T₀) → (v : Grid) → Memᴰ v (variants d.shape) → Tight v × T (are_bits v) × (length v.cells ≡ volume v.sides)
  good d k v m =
      let r = kind_at T₀ d k in
      let s = smallest_at r.0.grid in
      let a = variant_at d.shape v m in
      let shape-tight : Tight d.shape = subst Tight (s.2 ∙ sym r.2) (tight_mapped s.0 (turn_fits s.0 s.1) r.0.grid (tight_of r.0.grid (tight l ok r.0 r.1))) in
      let shape-bits : T (are_bits d.shape) = subst (λ (g : Grid). T (are_bits g)) (s.2 ∙ sym r.2) (mapped_bits s.0 r.0.grid (bits l ok r.0 r.1)) in (
        subst Tight a.2 (tight_mapped a.0 (turn_fits a.0 a.1) d.shape shape-tight),
        subst (λ (g : Grid). T (are_bits g)) a.2 (mapped_bits a.0 d.shape shape-bits),
        subst (λ (g : Grid). length g.cells ≡ volume g.sides) a.2 (mapped_whole a.0 d.shape),
      )

  -- ---- cells and numbers
  pub W : WellMade (compile T₀)
  W = accepted_well_made l ok

  pub numbered_cells : Numbered (compile T₀)
  unfolding compile
  numbered_cells =
      record {
        cell_in = λ n k. let r = get_or_nth cs n k in Memᴰ.cast (nth_value cs n r.0 origin₀ r.1) (nth_mem cs n r.1);
        number_cell = λ n k. let r = get_or_nth cs n k in ap (scan_number cs) (nth_value cs n r.0 origin₀ r.1) ∙ nth_number or cs up n r.0 r.1;
        number_below = λ u k. number_below or cs up k;
        cell_number = λ u k. let r = mem_nth or cs up k in ap (λ (n : ℕ). get_or cs n origin₀) (nth_number or cs up r.0 u r.1) ∙ nth_value cs r.0 u origin₀ r.1;
        by_cells = by-cells T₀ facts W good;
      }
    where
      or : List ℕ
      or = axes T₀.board.sides

      cs : List Cell
      cs = scan or T₀.board

      up : T (ascending (cell_ahead or) cs)
      up = up_board T₀ facts

      origin₀ : Cell
      origin₀ = record { x = 0; y = 0; z = 0 }

  -- ---- images and moves
  abbrev C : Compiled
  C = compile T₀

  pub to_filled : (u : Cell) → Memᴰ u C.cells → Memᴰ u (filled_cells C.board)
  unfolding compile
  to_filled u k = scan_filled T₀ facts W good T₀.board u k

  pub of_filled : (u : Cell) → Memᴰ u (filled_cells C.board) → Memᴰ u C.cells
  unfolding compile
  of_filled u k = filled_scan T₀ facts W good T₀.board u k

  pub whole : length C.board.cells ≡ volume C.board.sides
  unfolding compile
  whole = board_whole

  board_bits' : T (are_bits C.board)
  unfolding compile
  board_bits' = board-bits

  pub partners : (q r : Placement) → Memᴰ q C.placements → Memᴰ r C.placements → q.kind ≡ kind_after C true r.kind → r.kind ≡ kind_after C true q.kind
  partners = kinds_partner T₀ piece_whole W

  pub in-box : (u : Cell) → Memᴰ u C.cells → InBox C.board.sides u
  in-box u k = (filled_at C.board u (to_filled u k)).0

  pub turns_not_odd : (ms : List Move) → T (are_turns ms) → T (not (is_odd ms))
  turns_not_odd [] t = tt
  turns_not_odd (turn q ∷ ms) t = turns_not_odd ms t
  turns_not_odd (mirroring qs ∷ ms) t = absurd t

  may_of : (i : Identify) → T (may i false) → (ms : List Move) → T (in_reach i ms) → T (may i (is_odd ms))
  unfolding in_reach
  may_of None t ms r = absurd t
  may_of Turned t ms r = turns_not_odd ms r
  may_of Mirrored t ms r = tt

  -- the grid and the cells after a sequence of moves
  moved_grid : (ms : List Move) → grid_after ms C.board ≡ map_grid (moves_map ms) C.board
  moved_grid ms = moves_grid ms C.board board_bits' whole

  moved_image : (ms : List Move) (P : List Placement) → Packing C P
      → image C (is_odd ms) (map_cell (moves_map ms) C.board.sides) P ≡ image C (is_odd ms) (cell_after_all ms C.board.sides) P
  moved_image ms P g = image_same C W numbered_cells (is_odd ms) (map_cell (moves_map ms) C.board.sides) (cell_after_all ms C.board.sides) (λ u k. sym (moves_cell ms C.board.sides u (in-box u k))) P g

  as-map : (i : Identify) → T (may i false) → (ms : List Move) → T (in_reach i ms) → T (brings_back C ms) → (P : List Placement) → Packing C P
      → Memᴰ (image C (is_odd ms) (cell_after_all ms C.board.sides) P) (images C i P)
  unfolding brings_back
  as-map i t ms r b P g =
      images-of C W numbered_cells whole to_filled of_filled i P (image C (is_odd ms) (cell_after_all ms C.board.sides) P)
      (record {
        odd = is_odd ms;
        by = moves_map ms;
        fine = may_of i t ms r;
        allowed = record { is_map = moves_in ms; on_itself = sym (moved_grid ms) ∙ same_grid→eq (grid_after ms C.board) C.board b };
        onto = moved_image ms P g;
      })

  -- a sequence that brings the board back takes its cells to its cells, no two to one
  allowed_by : (ms : List Move) → T (brings_back C ms) → Allowed C.board whole (is_odd ms) (moves_map ms)
  unfolding brings_back
  allowed_by ms b = record { is_map = moves_in ms; on_itself = sym (moved_grid ms) ∙ same_grid→eq (grid_after ms C.board) C.board b }

  moved_is : (ms : List Move) (u : Cell) → Memᴰ u C.cells → cell_after_all ms C.board.sides u ≡ map_cell (moves_map ms) C.board.sides u
  moved_is ms u k = moves_cell ms C.board.sides u (in-box u k)

  moved_on : (ms : List Move) → T (brings_back C ms) → (u : Cell) → Memᴰ u C.cells → Memᴰ (cell_after_all ms C.board.sides u) C.cells
  moved_on ms b u k = Memᴰ.cast (moved_is ms u k) (on_cells C W numbered_cells whole to_filled of_filled (is_odd ms) (moves_map ms) (allowed_by ms b) u k)

  moved_inj : (ms : List Move) → T (brings_back C ms) → (u v : Cell) → Memᴰ u C.cells → Memᴰ v C.cells → cell_after_all ms C.board.sides u ≡ cell_after_all ms C.board.sides v → u ≡ v
  moved_inj ms b u v k m e =
      act_inj C W numbered_cells whole to_filled of_filled partners (is_odd ms) (moves_map ms) (allowed_by ms b) u v k m (sym (moved_is ms u k) ∙ e ∙ moved_is ms v m)

  carried_on : (i : Identify) → T (may i false) → (ms : List Move) → T (in_reach i ms) → (P Q : List Placement) → Packing C P → Carries C ms P Q → Memᴰ Q (images C i P)
  carried_on i t ms r P Q g x =
      Memᴰ.cast (sym (carried_image C W numbered_cells (is_odd ms) (cell_after_all ms C.board.sides) (moved_on ms x.back) (moved_inj ms x.back) P Q g x.packing x.each_from))
      (as-map i t ms r x.back P g)

  carries_of : (ms : List Move) → T (brings_back C ms) → (P Q : List Placement) → Packing C P → Packing C Q → image C (is_odd ms) (cell_after_all ms C.board.sides) P ≡ Q → Carries C ms P Q
  carries_of ms b P Q g h e =
      let x = image_carried C W numbered_cells (is_odd ms) (cell_after_all ms C.board.sides) (moved_on ms b) (moved_inj ms b) P Q g h e in
      record { back = b; packing = h; each_onto = x.0; each_from = x.1 }

  -- a sequence that does what an allowed map does
  done_by : (ms : List Move) (m : Map) (odd : Bool) → moves_map ms ≡ m → is_odd ms ≡ odd → map_grid m C.board ≡ C.board → (P Q : List Placement) → Packing C P
      → image C odd (map_cell m C.board.sides) P ≡ Q → T (brings_back C ms) × (image C (is_odd ms) (cell_after_all ms C.board.sides) P ≡ Q)
  unfolding brings_back
  done_by ms m odd e o h P Q g x = (
    same_grid_of (moved_grid ms ∙ ap (λ (n : Map). map_grid n C.board) e ∙ h),
    sym (moved_image ms P g) ∙ ap₂ (λ (b : Bool) (n : Map). image C b (map_cell n C.board.sides) P) o e ∙ x,
  )

  reach_turned : (i : Identify) → T (may i false) → (qs : List Quarter) → T (in_reach i (map turn qs))
  unfolding in_reach
  reach_turned None t qs = absurd t
  reach_turned Turned t qs = turns_alone qs
  reach_turned Mirrored t qs = tt

  reach_mirrored : (i : Identify) → T (may i true) → (qs : List Quarter) → T (in_reach i (mirroring qs ∷ []))
  unfolding in_reach
  reach_mirrored None t qs = absurd t
  reach_mirrored Turned t qs = absurd t
  reach_mirrored Mirrored t qs = tt

  as-moves : (i : Identify) (P Q : List Placement) → Packing C P → Memᴰ Q (images C i P)
      → (ms : List Move) × T (in_reach i ms) × T (brings_back C ms) × (image C (is_odd ms) (cell_after_all ms C.board.sides) P ≡ Q)
  as-moves i P Q g k = go x.odd x.by x.fine x.allowed x.onto
    where
      x : ImageUnder C W numbered_cells whole to_filled of_filled i P Q
      x = images-at C W numbered_cells whole to_filled of_filled i P Q k

      go : (odd : Bool) (m : Map) → T (may i odd) → Allowed C.board whole odd m → image C odd (map_cell m C.board.sides) P ≡ Q
          → (ms : List Move) × T (in_reach i ms) × T (brings_back C ms) × (image C (is_odd ms) (cell_after_all ms C.board.sides) P ≡ Q)
      go false m t a e =
          let r = turn_moves m a.is_map in
          let d = done_by (map turn r.0) m false r.1 (turns_even r.0) a.on_itself P Q g e in
          (map turn r.0, reach_turned i t r.0, d.0, d.1)
      go true m t a e =
          let r = mirroring_moves m a.is_map in
          let d = done_by (mirroring r.0 ∷ []) m true r.1 refl a.on_itself P Q g e in
          (mirroring r.0 ∷ [], reach_mirrored i t r.0, d.0, d.1)

  pub acts : (i : Identify) → T (may i false) → Acts C i
  acts i t =
      record {
        self = self_image C W numbered_cells whole to_filled of_filled i t;
        back = back_image C W numbered_cells whole to_filled of_filled partners i;
        next = next_image C W numbered_cells whole to_filled of_filled partners i;
        as_map = carried_on i t;
        as_moves = λ P Q g h k. let r = as-moves i P Q g k in (r.0, r.1, carries_of r.0 r.2 P Q g h r.3);
      }

  -- the empty sequence
  empty_back : T (brings_back C [])
  unfolding brings_back
  empty_back = same_grid_of refl

  pub onto-itself : (P : List Placement) → Packing C P → Carries C [] P P
  onto-itself P g = carries_of [] empty_back P P g g (image_still C W numbered_cells (λ u. u) (λ u k. refl) P g)

  pub only-itself : (P Q : List Placement) → Packing C P → Carries C [] P Q → P ≡ Q
  only-itself P Q g x =
      sym (image_still C W numbered_cells (λ u. u) (λ u k. refl) P g)
      ∙ carried_image C W numbered_cells false (λ u. u) (moved_on [] x.back) (moved_inj [] x.back) P Q g x.packing x.each_from
