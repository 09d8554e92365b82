-- Document 02, A4, on calls: the tray of an accepted call is the lent one, stripped; its list is the stripped tray's, put back into the lent box; and no call
-- is refused by 7. Assumes nothing.
use Prim.Native.Nat.{ℕ, ◌<◌}
use mathlib.Core.Bool.{not}
use mathlib.Core.List.Memᴰ
use mathlib.Core.List.{List, [], map, ◌∷◌, Memᴰ, map-map}
use mathlib.Core.Path.{◌≡◌, refl, sym, ap, ap₂, ◌∙◌, subst}
use mathlib.Core.Logic.{◌⊎◌, inl, inr}
use native.Mathlib.Omega.{arith}
use lib.Dec.{T}
use lib.ListN.{length, length-map}
use Rattle.lists.specs.Lists.{all, is_empty}
use Rattle.lists.proofs.ListLaws.{all_at, map_same}
use Rattle.lists.proofs.NthLaws.{nth_mem, get_or_nth, nth_get_or, nth_value}
use Rattle.definitions.specs.Grid.{Cell, Grid, filled_cells}
use Rattle.definitions.specs.Stripping.{corner, strip, frame_of, own_frame}
use Rattle.definitions.specs.EmptyLayers.{Stripped, StrippedTray, StrippedTrays, PutBack, AsLent, Never7}
use Rattle.definitions.specs.Kinds.{Piece, Tray, sorted, kinds_of}
use Rattle.definitions.specs.Placements.{Placement, Compiled, compile}
use Rattle.definitions.specs.Packing.{Packing, limits, placed, covers_once, within_copies, is_packing}
use Rattle.definitions.specs.Kept.{Identify, compared, smaller, kind_after, cell_after, moved, image, turned_images, mirrored_images, images, kept}
use Rattle.definitions.specs.Kept.Identify.{None, Turned, Mirrored}
use Rattle.definitions.specs.Orders.{start, sizes, all_cells, kind0_first, fast_list, knuth_list, packings, listed}
use Rattle.definitions.specs.Answers.{answer}
use Rattle.definitions.specs.Refusals.{Call, lent_of, strip_piece, strip_tray, tray_of, is_tight, is_ported, table, applies, refusal}
use Rattle.definitions.specs.Outcomes.{answers_of, outcome}
use Rattle.definitions.specs.Demands.{MeetsDemand1}
use Rattle.theorems.proofs.RefusalLaws.{demand1_holds}
use Rattle.definitions.specs.PlacementsRight.{piece_at}
use Rattle.definitions.specs.Framing.{in_frame, unframed, own_answer}
use Rattle.definitions.specs.declared.SolverKind.{SolverKind}
use Rattle.definitions.specs.declared.SolverKind.TheVariants.{Auto, Naive, Fast, KnuthAlgorithm}
use Rattle.theorems.proofs.ShapeLaws.{lent_board_whole, lent_board_bits, lent_bits, lent_whole, lent_filled}
use Rattle.theorems.proofs.StrippingLaws.{some_or_none, stripped_of, strip_empty, strip_right, corner_none}
use Rattle.theorems.proofs.StrippedLaws.{strip_tight}
use Rattle.theorems.proofs.GeometryLaws.{W, in-box}
use Rattle.theorems.proofs.AnswerLaws.{geometry}
use Rattle.theorems.proofs.KeptLaws.{list_facts}
use Rattle.theorems.proofs.FramingLaws.{in-frame, unframed_answer}

-- ---- the frame decides no list
pub unframed_list : (t : Tray) (i : Identify) (e : SolverKind) → listed (compile (unframed t)) i e ≡ listed (compile t) i e
unfolding unframed compile listed packings kept images turned_images mirrored_images image moved kind_after cell_after smaller compared is_packing placed covers_once within_copies limits start sizes all_cells kind0_first fast_list knuth_list kinds_of sorted
unframed_list t None Auto = refl
unframed_list t None Naive = refl
unframed_list t None Fast = refl
unframed_list t None KnuthAlgorithm = refl
unframed_list t Turned Auto = refl
unframed_list t Turned Naive = refl
unframed_list t Turned Fast = refl
unframed_list t Turned KnuthAlgorithm = refl
unframed_list t Mirrored Auto = refl
unframed_list t Mirrored Naive = refl
unframed_list t Mirrored Fast = refl
unframed_list t Mirrored KnuthAlgorithm = refl

module _ (l : Call) (ok : refusal l ≡ 0) where
  -- ---- the tray is the lent one, stripped
  some_piece : (t : Tray) (n : ℕ) → n < length t.pieces → Memᴰ (piece_at t n) t.pieces
  unfolding piece_at
  some_piece t n h = let r = get_or_nth t.pieces n h in Memᴰ.cast (nth_value t.pieces n r.0 _ r.1) (nth_mem t.pieces n r.1)

  piece_is : (n : ℕ) → n < length (lent_of l).pieces → piece_at (tray_of l) n ≡ strip_piece (piece_at (lent_of l) n)
  unfolding piece_at tray_of strip_tray
  piece_is n h =
      let r = get_or_nth (lent_of l).pieces n h in
      nth_get_or strip_piece _ (lent_of l).pieces n r.1
      ∙ ap strip_piece (sym (nth_value (lent_of l).pieces n r.0 _ r.1))

  as_many : length (tray_of l).pieces ≡ length (lent_of l).pieces
  unfolding tray_of strip_tray
  as_many = length-map {B = Piece} (lent_of l).pieces strip_piece

  pub stripped_tray : StrippedTray (lent_of l) (tray_of l)
  unfolding tray_of strip_tray frame_of own_frame
  stripped_tray = record { board = of_board (some_or_none (lent_of l).board); lent = refl; as_many = as_many; each = of_piece; counts = λ n h. ap (λ (q : Piece). q.count) (piece_is n (in_lent n h)); woods = λ n h. ap (λ (q : Piece). q.wood) (piece_is n (in_lent n h)) }
    where
      in_lent : (n : ℕ) → n < length (tray_of l).pieces → n < length (lent_of l).pieces
      in_lent n h = let e = as_many in omega arith

      of_board : T (not (is_empty (filled_cells (lent_of l).board))) ⊎ (filled_cells (lent_of l).board ≡ [])
          → Stripped (lent_of l).board (tray_of l).board (tray_of l).frame.at
          ⊎ ((filled_cells (lent_of l).board ≡ []) × ((tray_of l).board ≡ (lent_of l).board) × ((tray_of l).frame ≡ own_frame (lent_of l).board))
      of_board (inl some) = inl (stripped_of (lent_of l).board (lent_board_bits l ok) some)
      of_board (inr e) = inr (e, strip_empty (lent_of l).board e, λ i. record { lent = (lent_of l).board.sides; at = corner_none (lent_of l).board e i })

      of_piece : (n : ℕ) → n < length (tray_of l).pieces → (at : Cell) × Stripped (piece_at (lent_of l) n).grid (piece_at (tray_of l) n).grid at
      of_piece n h =
          let q = piece_at (lent_of l) n in
          let m = some_piece (lent_of l) n (in_lent n h) in
          (corner q.grid, subst (λ (p : Piece). Stripped q.grid p.grid (corner q.grid)) (sym (piece_is n (in_lent n h))) (strip_right q.grid (lent_bits l ok q m) (lent_whole l ok q m) (lent_filled l ok q m)))

  -- ---- its list is the stripped tray's in its own box, put back
  pub put-back : (i : Identify) (e : SolverKind) → answers_of (tray_of l) i e ≡ map (in_frame (tray_of l).frame (tray_of l).board.sides) (answers_of (unframed (tray_of l)) i e)
  unfolding answers_of listed packings is_ported
  put-back i e =
      map_same (answer C) (λ P. in_frame (tray_of l).frame (tray_of l).board.sides (answer (compile (unframed (tray_of l))) P)) (listed C i e) (λ P m. one P (packed e P m))
      ∙ sym (map-map (in_frame (tray_of l).frame (tray_of l).board.sides) (answer (compile (unframed (tray_of l)))) (listed C i e))
      ∙ ap (λ (L : List (List Placement)). map (in_frame (tray_of l).frame (tray_of l).board.sides) (map (answer (compile (unframed (tray_of l)))) L)) (sym (unframed_list (tray_of l) i e))
    where
      C : Compiled
      C = compile (tray_of l)

      one : (P : List Placement) → Packing C P → answer C P ≡ in_frame (tray_of l).frame (tray_of l).board.sides (answer (compile (unframed (tray_of l))) P)
      one P g = frames (in-frame C (W l ok) (in-box l ok) P g) ∙ ap (in_frame (tray_of l).frame (tray_of l).board.sides) (sym (unframed_answer (tray_of l) P))
        where
          frames : answer C P ≡ in_frame C.frame C.board.sides (own_answer C P) → answer C P ≡ in_frame (tray_of l).frame (tray_of l).board.sides (own_answer C P)
          frames k = k ∙ (unfold compile in refl)

      packed : (e : SolverKind) (P : List Placement) → Memᴰ P (listed C i e) → Packing C P
      packed Auto P m = absurd (Memᴰ.not-nil m)
      packed Naive P m = absurd (Memᴰ.not-nil m)
      packed Fast P m = (list_facts C (W l ok) (geometry l ok) i Fast tt).packings P m
      packed KnuthAlgorithm P m = (list_facts C (W l ok) (geometry l ok) i KnuthAlgorithm tt).packings P m

  -- ---- without empty outer layers it is the lent tray
  as_lent : T (is_tight (lent_of l).board) ⊎ (filled_cells (lent_of l).board ≡ []) → T (all (λ q. is_tight q.grid) (lent_of l).pieces) → tray_of l ≡ lent_of l
  unfolding tray_of strip_tray lent_of frame_of own_frame
  as_lent board pieces = λ i. record { board = of_board.0 i; pieces = of-pieces (lent_of l).pieces still i; frame = record { lent = (lent_of l).board.sides; at = of_board.1 i } }
    where
      go : T (is_tight (lent_of l).board) ⊎ (filled_cells (lent_of l).board ≡ []) → (strip (lent_of l).board ≡ (lent_of l).board) × (corner (lent_of l).board ≡ record { x = 0; y = 0; z = 0 })
      go (inl tight) = strip_tight (lent_of l).board (lent_board_bits l ok) (lent_board_whole l ok) tight
      go (inr e) = (strip_empty (lent_of l).board e, corner_none (lent_of l).board e)

      of_board : (strip (lent_of l).board ≡ (lent_of l).board) × (corner (lent_of l).board ≡ record { x = 0; y = 0; z = 0 })
      of_board = go board

      still : (q : Piece) → Memᴰ q (lent_of l).pieces → strip q.grid ≡ q.grid
      still q m = (strip_tight q.grid (lent_bits l ok q m) (lent_whole l ok q m) (all_at (λ (x : Piece). is_tight x.grid) (lent_of l).pieces pieces m)).0

      of-pieces : (qs : List Piece) → ((q : Piece) → Memᴰ q qs → strip q.grid ≡ q.grid) → map strip_piece qs ≡ qs
      of-pieces [] h = refl
      of-pieces (q ∷ qs) h =
          ap₂ (λ (g : Grid) (rest : List Piece). record { grid = g; count = q.count; wood = q.wood } ∷ rest) (h q (Memᴰ.head refl)) (of-pieces qs (λ p m. h p (Memᴰ.tail m)))

-- ---- the statements
pub stripped_tray_holds : StrippedTrays
unfolding StrippedTrays
stripped_tray_holds l ok = stripped_tray l ok

pub put_back_holds : PutBack
unfolding PutBack
put_back_holds l ok = put-back l ok

pub as_lent_holds : AsLent
unfolding AsLent
as_lent_holds l ok = as_lent l ok

pub never7_holds : Never7 outcome
unfolding Never7 MeetsDemand1 applies table
never7_holds l e = subst (λ (n : ℕ). T (applies l n)) e ((demand1_holds l).it_applies (λ z. let i = sym e ∙ z in omega arith))
