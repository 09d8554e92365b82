-- What woods forbid, and what they leave as it was. Assumes nothing.
use Prim.Native.Nat.{ℕ, zero, suc, ◌+◌, ◌*◌, ◌<◌}
use mathlib.Core.Bool.{Bool, true, false, cond, not, ◌&&◌, ◌||◌}
use mathlib.Core.List.Memᴰ
use mathlib.Core.List.{List, [], ◌∷◌, ◌++◌, map, Memᴰ, map-map}
use mathlib.Core.Path.{◌≡◌, refl, sym, ap, ap₂, ◌∙◌, subst, fun_ext}
use native.Mathlib.Omega.{arith}
use lib.Dec.{T, ltb, leb, eqb, eqb_refl}
use lib.ListN.{length, get_or, length-map}
use Rattle.lists.specs.Lists.{all, any, keep, each, before, below, sort, sum, less, same, joined, numbered, numbered_from, ascending}
use Rattle.lists.proofs.TestLaws.{is_true, is_false, ltb_irrefl}
use Rattle.lists.proofs.ListLaws.{get_or_inside, keep_same, all_map, keep_map, each_map, numbered_map, map_same, before_map}
use Rattle.lists.proofs.SortLaws.{sort_map}
use Rattle.lists.proofs.NthLaws.{nth_mem, nth_get_or, get_or_nth, numbered_at, nth_value}
use Rattle.definitions.specs.Grid.{Cell, Grid, box, same_grid, grid_ahead}
use Rattle.definitions.specs.Stripping.{strip, frame_of, own_frame}
use Rattle.definitions.specs.Maps.{map_grid, map_cell, mirror, turns, mirrorings}
use Rattle.definitions.specs.Scan.{axes, scan}
use Rattle.definitions.specs.Kinds.{Piece, Tray, smallest, Form, piece_form, same_form, form_ahead, Sorted, sort_piece, sorted, forms, Copy, copies_of_piece, copies_of, mirrored_form, partner_of, Kind, kind_named, kinds_of, form_of}
use Rattle.definitions.specs.Placements.{Placement, Compiled, placements_of, compile}
use Rattle.definitions.specs.Packing.{ahead, limits, placed, covers_once, within_copies, used, is_packing}
use Rattle.definitions.specs.Kept.{compared, smaller, kind_after, cell_after, moved, image, symmetries, turned_images, mirrored_images, images, kept, Identify}
use Rattle.definitions.specs.Kept.Identify.{None, Turned, Mirrored}
use Rattle.definitions.specs.Moves.{is_odd}
use Rattle.definitions.specs.Orders.{start, choose, search, fast_choices, identifies_turned, sizes, all_cells, kind0_first, fast_list, knuth_choices, knuth_list, packings, listed}
use Rattle.definitions.specs.Answers.{takes, taken, two_bytes, lent_cells, answer}
use Rattle.definitions.specs.Page.{page, Page}
use Rattle.definitions.specs.Refusals.{Call, sides_of, grid_of, lent_of, strip_piece, strip_tray, tray_of, sides_fit, cells_lie, are_bits, some_filled, copy_count, board_cell_count, placement_count, rows_of, link_count, identify_of, is_knuth, is_ported, row, table, first_that_applies, refusal, piece_of}
use Rattle.definitions.specs.Outcomes.{answers_of, capacity, page_of, refused, accepted, outcome, accepted_with}
use Rattle.definitions.specs.Files.{call_in, is_file, listing, packed, refused_line}
use Rattle.definitions.specs.PlacementsRight.{no_kind, piece_at, kind_at}
use Rattle.definitions.specs.Woods.{WoodCarried, WoodLentCarried, woodless, unwooded, OneWood, with_wood, without_woods, OneWoodCalls, OneWoodPrinted, board_in_wood, BoardUnread}
use Rattle.definitions.specs.declared.Record.{Record}
use Rattle.definitions.specs.declared.SolverKind.{SolverKind}
use Rattle.definitions.specs.declared.SolverKind.TheVariants.{Auto, Naive, Fast, KnuthAlgorithm}
use Rattle.theorems.proofs.PackingLaws.{packing_placed}
use Rattle.theorems.proofs.PartnerLaws.{partner_form}
use Rattle.theorems.proofs.GeometryLaws.{piece_whole}
use Rattle.theorems.proofs.SetDownLaws.{of-kind}
use Rattle.theorems.proofs.KindLaws.{kind_wood, copies-lent}

-- ---- lists
-- what has a copy is a kind
copy_kind : (c : Compiled) (k : ℕ) (x : Copy) → Memᴰ x (kind_at c k).copies → k < length c.kinds
unfolding kind_at
copy_kind c k x m = go c.kinds k m
  where
    go : (ks : List Kind) (n : ℕ) → Memᴰ x (get_or ks n no_kind).copies → n < length ks
    go [] n i = absurd (Memᴰ.not-nil i)
    go (d ∷ ks) zero i = omega arith
    go (d ∷ ks) (suc n) i = let h = go ks n i in omega arith

-- ---- no sequence of moves carries a placement onto one of another wood
module _ (l : Call) (ok : refusal l ≡ 0) where
  -- the kind after a map has the kind's wood, where there is such a kind
  wood_after : (odd : Bool) (k : ℕ) → kind_after (compile (tray_of l)) odd k < length (compile (tray_of l)).kinds
      → (kind_at (compile (tray_of l)) (kind_after (compile (tray_of l)) odd k)).wood ≡ (kind_at (compile (tray_of l)) k).wood
  unfolding kind_after kind_at compile mirrored_form form_of
  wood_after false k h = refl
  wood_after true k h =
      let k-is : k < length ks = subst (λ (n : ℕ). k < n) (length-map ks (λ d. d.partner)) (get_or_inside (map (λ d. d.partner) ks) k (length ks) (λ e. let i : get_or (map (λ d. d.partner) ks) k (length ks) ≡ length ks = e in omega (arith, h))) in
      let x = get_or_nth ks k k-is in
      let y = get_or_nth ks j h in
      let e = partner_form (tray_of l) (piece_whole l ok) k j x.0 y.0 x.1 y.1 (nth_get_or (λ (d : Kind). d.partner) (length ks) ks k x.1) in
      ap (λ (d : Kind). d.wood) (nth_value ks j y.0 none y.1) ∙ sym (ap (λ (f : Form). f.wood) e) ∙ sym (ap (λ (d : Kind). d.wood) (nth_value ks k x.0 none x.1))
    where
      ks : List Kind
      ks = kinds_of (tray_of l)

      j : ℕ
      j = get_or (map (λ d. d.partner) (kinds_of (tray_of l))) k (length (kinds_of (tray_of l)))

      none : Kind
      none = no_kind

pub wood_carried_holds : WoodCarried
unfolding WoodCarried
wood_carried_holds l ok ms P Q x r q m k on =
    ap (λ (n : ℕ). (kind_at (compile (tray_of l)) n).wood) on.kinds
    ∙ wood_after l ok (is_odd ms) r.kind (subst (λ (n : ℕ). n < length (compile (tray_of l)).kinds) on.kinds (of-kind l ok q (packing_placed (compile (tray_of l)) Q x.packing q k)))

-- a copy of a kind is of a piece lent in its wood
wood_of_copy : (l : Call) → refusal l ≡ 0 → (k : ℕ) → k < length (compile (tray_of l)).kinds → (x : Copy) → Memᴰ x (kind_at (compile (tray_of l)) k).copies
    → (piece_at (tray_of l) x.piece).wood ≡ (kind_at (compile (tray_of l)) k).wood
wood_of_copy l ok k h x m =
    let lent = (copies-lent l ok k x h).0 m in
    sym (kind_wood l ok x.piece lent.0) ∙ ap (λ (n : ℕ). (kind_at (compile (tray_of l)) n).wood) lent.1

pub wood_lent_carried_holds : WoodLentCarried
unfolding WoodLentCarried WoodCarried
wood_lent_carried_holds l ok ms P Q c r q m k on x y a b =
    let from-q = of-kind l ok q (packing_placed (compile (tray_of l)) Q c.packing q k) in
    let from-r = copy_kind (compile (tray_of l)) r.kind x a in
    wood_of_copy l ok q.kind from-q y b ∙ wood_carried_holds l ok ms P Q c r q m k on ∙ sym (wood_of_copy l ok r.kind from-r x a)

-- ---- nothing but the order of kinds, their partners and their copies reads a wood: kinds with their woods taken off
unwood : Kind → Kind
unwood d = record { shape = d.shape; wood = 0; partner = d.partner; copies = d.copies }

unwood_compiled : Compiled → Compiled
unwood_compiled c = record { board = c.board; frame = c.frame; cells = c.cells; kinds = map unwood c.kinds; placements = c.placements }

module _ (c : Compiled) where
  length_same : length (unwood_compiled c).kinds ≡ length c.kinds
  unfolding unwood_compiled
  length_same = length-map c.kinds unwood

  limits_same : limits (unwood_compiled c) ≡ limits c
  unfolding limits unwood_compiled unwood
  limits_same = map-map (λ (d : Kind). length d.copies) unwood c.kinds

  sizes_same : sizes (unwood_compiled c) ≡ sizes c
  unfolding sizes unwood_compiled unwood
  sizes_same = map-map (λ (d : Kind). sum d.shape.cells) unwood c.kinds

  after_same : (odd : Bool) (k : ℕ) → kind_after (unwood_compiled c) odd k ≡ kind_after c odd k
  unfolding kind_after unwood_compiled unwood
  after_same false k = refl
  after_same true k = ap₂ {C = ℕ} (λ (ps : List ℕ) (n : ℕ). get_or ps k n) (map-map (λ (d : Kind). d.partner) unwood c.kinds) (length-map c.kinds unwood)

  smaller_same : (P Q : List Placement) → smaller (unwood_compiled c) P Q ≡ smaller c P Q
  unfolding smaller compared
  smaller_same P Q = ap₂ (λ (n m : ℕ). less (each (below n) (λ k. let qs = keep (λ q. eqb q.kind k) P in length qs ∷ each qs (λ q. q.p ∷ q.j ∷ []))) (each (below m) (λ k. let qs = keep (λ q. eqb q.kind k) Q in length qs ∷ each qs (λ q. q.p ∷ q.j ∷ [])))) length_same length_same

  image_same : (odd : Bool) (f : Cell → Cell) (P : List Placement) → image (unwood_compiled c) odd f P ≡ image c odd f P
  unfolding image moved cell_after unwood_compiled
  image_same odd f P =
      ap (λ (ms : List (List ℕ)). keep (λ q. any (same (q.kind ∷ q.cells)) ms) c.placements)
      (map_same (moved (unwood_compiled c) odd f) (moved c odd f) P (λ q m. ap (λ (k : ℕ). k ∷ sort ltb (map (cell_after c f) q.cells)) (after_same odd q.kind)))

  turned_same : (P : List Placement) → turned_images (unwood_compiled c) P ≡ turned_images c P
  unfolding turned_images unwood_compiled
  turned_same P = map_same (λ m. image (unwood_compiled c) false (map_cell m c.board.sides) P) (λ m. image c false (map_cell m c.board.sides) P) (symmetries c.board turns) (λ m k. image_same false (map_cell m c.board.sides) P)

  mirrored_same : (P : List Placement) → mirrored_images (unwood_compiled c) P ≡ mirrored_images c P
  unfolding mirrored_images unwood_compiled
  mirrored_same P = map_same (λ m. image (unwood_compiled c) true (map_cell m c.board.sides) P) (λ m. image c true (map_cell m c.board.sides) P) (symmetries c.board mirrorings) (λ m k. image_same true (map_cell m c.board.sides) P)

  images_same : (i : Identify) (P : List Placement) → images (unwood_compiled c) i P ≡ images c i P
  unfolding images
  images_same None P = refl
  images_same Turned P = turned_same P
  images_same Mirrored P = ap₂ (λ (x y : List (List Placement)). x ++ y) (turned_same P) (mirrored_same P)

  packing_same : (P : List Placement) → is_packing (unwood_compiled c) P ≡ is_packing c P
  unfolding is_packing placed covers_once within_copies unwood_compiled
  packing_same P = λ j. ascending ahead P && (placed c P && (covers_once c P && all (λ k. leb (used P k) (get_or (limits_same j) k 0)) (below (length_same j))))

  kept_same : (i : Identify) (P : List Placement) → kept (unwood_compiled c) i P ≡ kept c i P
  unfolding kept
  kept_same i P = ap₂ {C = Bool} (λ (f : List Placement → Bool) (xs : List (List Placement)). all f xs) (fun_ext (λ Q. ap₂ (λ (a b : Bool). not (a && b)) (packing_same Q) (smaller_same Q P))) (images_same i P)

  start_same : start (unwood_compiled c) ≡ start c
  unfolding start unwood_compiled
  start_same = λ i. record { left = limits_same i; free = below (length c.cells); chosen = [] }

  all_cells_same : all_cells (unwood_compiled c) ≡ all_cells c
  unfolding all_cells
  all_cells_same = λ i. sum (map (λ k. get_or (limits_same i) k 0 * get_or (sizes_same i) k 0) (below (length_same i)))

  first_same : (i : Identify) → kind0_first (unwood_compiled c) i ≡ kind0_first c i
  unfolding kind0_first unwood_compiled
  first_same i = λ j. identifies_turned i && (eqb (get_or (limits_same j) 0 0) 1 && eqb (all_cells_same j) (length c.cells))

  packings_same : (i : Identify) (e : SolverKind) → packings (unwood_compiled c) i e ≡ packings c i e
  unfolding packings fast_list knuth_list unwood_compiled
  packings_same i Auto = refl
  packings_same i Naive = refl
  packings_same i Fast =
      λ j.
      let go = search (fast_choices c.placements) (length c.cells) in
      cond (first_same i j) (each (keep (λ q. eqb q.kind 0) c.placements) (λ q. go (choose (start_same j) q))) (go (start_same j))
  packings_same i KnuthAlgorithm = ap (search (knuth_choices c.placements) (length c.cells)) start_same

  listed_same : (i : Identify) (e : SolverKind) → listed (unwood_compiled c) i e ≡ listed c i e
  unfolding listed
  listed_same i e = λ j. keep (λ P. kept_same i P j) (packings_same i e j)

  taken_same : (P : List Placement) → taken (unwood_compiled c) P ≡ taken c P
  unfolding taken unwood_compiled unwood
  taken_same P = ap joined (numbered_map unwood (λ k d. takes d.copies (keep (λ q. eqb q.kind k) P)) 0 c.kinds)

  answer_same : (P : List Placement) → answer (unwood_compiled c) P ≡ answer c P
  unfolding answer unwood_compiled
  answer_same P = λ j. each (box c.frame.lent) (two_bytes (taken_same P j) (lent_cells c))

  answers_same : (i : Identify) (e : SolverKind) → map (answer (unwood_compiled c)) (listed (unwood_compiled c) i e) ≡ map (answer c) (listed c i e)
  answers_same i e = λ j. map (λ P. answer_same P j) (listed_same i e j)

  links_same : link_count (unwood_compiled c) ≡ link_count c
  unfolding link_count rows_of unwood_compiled
  links_same = λ j. length c.cells + length_same j + sum (map (λ q. suc (length q.cells)) (keep (λ q. ltb 0 (get_or (limits_same j) q.kind 0)) c.placements))

-- ---- forms of one wood are ordered as their grids
module _ (w : ℕ) where
  of_wood : Grid → Form
  of_wood g = record { grid = g; wood = w }

  ahead_same : (g h : Grid) → form_ahead (of_wood g) (of_wood h) ≡ grid_ahead g h
  unfolding form_ahead of_wood
  ahead_same g h = ap (λ (b : Bool). grid_ahead g h || (same_grid g h && b)) (is_false (ltb w w) (ltb_irrefl w)) ∙ go (grid_ahead g h) (same_grid g h)
    where
      go : (a b : Bool) → (a || (b && false)) ≡ a
      go true b = refl
      go false true = refl
      go false false = refl

  form_same : (g h : Grid) → same_form (of_wood g) (of_wood h) ≡ same_grid g h
  unfolding same_form of_wood
  form_same g h = ap (λ (b : Bool). same_grid g h && b) (is_true (eqb w w) (eqb_refl w)) ∙ go (same_grid g h)
    where
      go : (a : Bool) → (a && true) ≡ a
      go true = refl
      go false = refl

-- ---- a tray of one wood
-- its kinds by their shapes alone, and the wood
smallest_of : Tray → List Grid
smallest_of t = sort grid_ahead (map (λ q. smallest q.grid) t.pieces)

kind_of_shape : ℕ → Tray → Grid → Kind
kind_of_shape w t g =
    record {
      shape = g;
      wood = w;
      partner = before (same_grid (smallest (map_grid mirror g))) (smallest_of t);
      copies = each (keep (λ q. same_grid q.form.grid g) (sorted t)) copies_of_piece;
    }

forms_sorted : (i : ℕ) (qs : List Piece) → map (λ (q : Sorted). q.form) (numbered_from i qs sort_piece) ≡ map piece_form qs
forms_sorted i [] = refl
forms_sorted i (q ∷ qs) = ap (λ (l : List Form). piece_form q ∷ l) (forms_sorted (suc i) qs)

module _ (t : Tray) (w : ℕ) (one : (q : Piece) → Memᴰ q t.pieces → q.wood ≡ w) where
  forms_of_one : forms (sorted t) ≡ map (of_wood w) (smallest_of t)
  unfolding forms sorted of_wood smallest_of
  forms_of_one =
      ap (sort form_ahead)
      (forms_sorted 0 t.pieces ∙ map_same piece_form (λ (q : Piece). of_wood w (smallest q.grid)) t.pieces (λ q m i. record { grid = smallest q.grid; wood = one q m i })
      ∙ sym (map-map (of_wood w) (λ (q : Piece). smallest q.grid) t.pieces))
      ∙ sort_map (of_wood w) grid_ahead form_ahead (ahead_same w) (map (λ (q : Piece). smallest q.grid) t.pieces)

  -- each piece sorted has the wood
  sorted_wood : (x : Sorted) → Memᴰ x (sorted t) → x.form.wood ≡ w
  unfolding sorted
  sorted_wood x m = let r = numbered_at sort_piece 0 t.pieces m in ap (λ (y : Sorted). y.form.wood) r.3 ∙ one r.1 (nth_mem t.pieces r.0 r.2)

  copies_are : (g : Grid) → copies_of (sorted t) (of_wood w g) ≡ each (keep (λ q. same_grid q.form.grid g) (sorted t)) copies_of_piece
  unfolding copies_of of_wood
  copies_are g =
      ap (λ (xs : List Sorted). each xs copies_of_piece)
      (keep_same (λ (q : Sorted). same_form q.form (of_wood w g)) (λ (q : Sorted). same_grid q.form.grid g) (sorted t)
      (λ x m. ap (λ (n : ℕ). same_form (record { grid = x.form.grid; wood = n }) (of_wood w g)) (sorted_wood x m) ∙ form_same w x.form.grid g))

  partner_are : (g : Grid) → partner_of (map (of_wood w) (smallest_of t)) (of_wood w g) ≡ before (same_grid (smallest (map_grid mirror g))) (smallest_of t)
  unfolding partner_of mirrored_form of_wood
  partner_are g = before_map (of_wood w) (same_grid (smallest (map_grid mirror g))) (same_form (of_wood w (smallest (map_grid mirror g)))) (form_same w (smallest (map_grid mirror g))) (smallest_of t)

  kinds_are : kinds_of t ≡ map (kind_of_shape w t) (smallest_of t)
  unfolding kinds_of kind_of_shape of_wood
  kinds_are =
      ap (λ (fs : List Form). map (kind_named (sorted t) fs) fs) forms_of_one
      ∙ map-map (kind_named (sorted t) (map (of_wood w) (smallest_of t))) (of_wood w) (smallest_of t)
      ∙ map_same _ (kind_of_shape w t) (smallest_of t) (λ g m i. record { shape = g; wood = w; partner = partner_are g i; copies = copies_are g i })

-- the same tray without woods has the same shapes and copies
unwood_sorted : Sorted → Sorted
unwood_sorted q = record { piece = q.piece; count = q.count; form = record { grid = q.form.grid; wood = 0 } }

sorted_bare : (i : ℕ) (qs : List Piece) → numbered_from i (map woodless qs) sort_piece ≡ map unwood_sorted (numbered_from i qs sort_piece)
unfolding unwood_sorted woodless
sorted_bare i [] = refl
sorted_bare i (q ∷ qs) = ap (λ (l : List Sorted). unwood_sorted (sort_piece i q) ∷ l) (sorted_bare (suc i) qs)

module _ (t : Tray) where
  shapes_bare : smallest_of (unwooded t) ≡ smallest_of t
  unfolding smallest_of unwooded woodless
  shapes_bare = ap (sort grid_ahead) (map-map (λ (q : Piece). smallest q.grid) woodless t.pieces)

  copies_bare : (g : Grid) → each (keep (λ q. same_grid q.form.grid g) (sorted (unwooded t))) copies_of_piece ≡ each (keep (λ q. same_grid q.form.grid g) (sorted t)) copies_of_piece
  unfolding sorted unwooded unwood_sorted
  copies_bare g =
      ap (λ (xs : List Sorted). each (keep (λ q. same_grid q.form.grid g) xs) copies_of_piece) (sorted_bare 0 t.pieces)
      ∙ ap (λ (xs : List Sorted). each xs copies_of_piece) (keep_map unwood_sorted (λ (q : Sorted). same_grid q.form.grid g) (sorted t))
      ∙ each_map unwood_sorted copies_of_piece (keep (λ (q : Sorted). same_grid q.form.grid g) (sorted t))

  bare_woods : (q : Piece) → Memᴰ q (unwooded t).pieces → q.wood ≡ 0
  unfolding unwooded woodless
  bare_woods q m = let r = Memᴰ.of_map woodless t.pieces m in sym (ap (λ (x : Piece). x.wood) r.2)

  module _ (w : ℕ) (one : (q : Piece) → Memᴰ q t.pieces → q.wood ≡ w) where
    kinds_bare : kinds_of (unwooded t) ≡ map unwood (kinds_of t)
    unfolding kind_of_shape unwood
    kinds_bare =
        kinds_are (unwooded t) 0 bare_woods ∙ ap (map (kind_of_shape 0 (unwooded t))) shapes_bare
        ∙ map_same (kind_of_shape 0 (unwooded t)) (λ g. unwood (kind_of_shape w t g)) (smallest_of t) (λ g m i. record { shape = g; wood = 0; partner = before (same_grid (smallest (map_grid mirror g))) (shapes_bare i); copies = copies_bare g i })
        ∙ sym (map-map unwood (kind_of_shape w t) (smallest_of t)) ∙ ap (map unwood) (sym (kinds_are t w one))

    compile_bare : compile (unwooded t) ≡ unwood_compiled (compile t)
    unfolding compile unwood_compiled unwooded unwood placements_of
    compile_bare =
        ap {B = Compiled} (λ (ks : List Kind). record { board = t.board; frame = t.frame; cells = cs; kinds = ks; placements = joined (numbered ks (placements_of order cs)) }) kinds_bare
        ∙ ap {B = Compiled} (λ (ps : List (List Placement)). record { board = t.board; frame = t.frame; cells = cs; kinds = map unwood (kinds_of t); placements = joined ps }) (numbered_map unwood (placements_of order cs) 0 (kinds_of t))
      where
        order : List ℕ
        order = axes t.board.sides

        cs : List Cell
        cs = scan order t.board

    answers_bare : (i : Identify) (e : SolverKind) → answers_of (unwooded t) i e ≡ answers_of t i e
    unfolding answers_of
    answers_bare i e = ap (λ (c : Compiled). map (answer c) (listed c i e)) compile_bare ∙ answers_same (compile t) i e

pub one_wood_holds : OneWood
unfolding OneWood
one_wood_holds t w one i e = sym (answers_bare t w one i e)

-- ---- calls
module _ (l : Call) where
  lent_bare : lent_of (without_woods l) ≡ unwooded (lent_of l)
  unfolding lent_of without_woods with_wood unwooded woodless grid_of sides_of
  lent_bare = λ i. record { board = grid_of l.bytes l.board; pieces = pieces_bare i; frame = own_frame (grid_of l.bytes l.board) }
    where
      pieces_bare : map (piece_of l.bytes) (map (with_wood 0) l.pieces) ≡ map woodless (map (piece_of l.bytes) l.pieces)
      pieces_bare = map-map (piece_of l.bytes) (with_wood 0) l.pieces ∙ sym (map-map woodless (piece_of l.bytes) l.pieces)

  -- (stripping reads no wood)
  tray_bare : tray_of (without_woods l) ≡ unwooded (tray_of l)
  unfolding tray_of strip_tray unwooded woodless
  tray_bare =
      ap strip_tray lent_bare
      ∙ (λ i. record { board = strip (lent_of l).board; pieces = same i; frame = frame_of (lent_of l).board })
    where
      same : map strip_piece (map woodless (lent_of l).pieces) ≡ map woodless (map strip_piece (lent_of l).pieces)
      same = map-map strip_piece woodless (lent_of l).pieces ∙ sym (map-map woodless strip_piece (lent_of l).pieces)

  all_bare : (p : Grid → Bool) → all (λ q. p q.grid) (lent_of (without_woods l)).pieces ≡ all (λ q. p q.grid) (lent_of l).pieces
  unfolding unwooded woodless
  all_bare p = ap (λ (t : Tray). all (λ q. p q.grid) t.pieces) lent_bare ∙ all_map woodless (λ (q : Piece). p q.grid) (lent_of l).pieces

  board_bare : (lent_of (without_woods l)).board ≡ (lent_of l).board
  unfolding unwooded
  board_bare = ap (λ (t : Tray). t.board) lent_bare

  sides_bare : all sides_fit (map (with_wood 0) l.pieces) ≡ all sides_fit l.pieces
  unfolding sides_fit with_wood
  sides_bare = all_map (with_wood 0) sides_fit l.pieces

  lie_bare : all (cells_lie l.bytes) (map (with_wood 0) l.pieces) ≡ all (cells_lie l.bytes) l.pieces
  unfolding cells_lie with_wood sides_of
  lie_bare = all_map (with_wood 0) (cells_lie l.bytes) l.pieces

  copies_counted : copy_count (lent_of (without_woods l)) ≡ copy_count (lent_of l)
  unfolding copy_count unwooded woodless
  copies_counted = ap copy_count lent_bare ∙ ap sum (map-map (λ (q : Piece). q.count) woodless (lent_of l).pieces)

  module _ (w : ℕ) (one : (r : Record) → Memᴰ r l.pieces → r.wood ≡ w) where
    one_lent : (q : Piece) → Memᴰ q (tray_of l).pieces → q.wood ≡ w
    unfolding lent_of strip_tray tray_of
    one_lent q m =
        let s = Memᴰ.of_map strip_piece (lent_of l).pieces m in
        let r = Memᴰ.of_map (piece_of l.bytes) l.pieces s.1 in
        sym (ap (λ (x : Piece). x.wood) s.2) ∙ sym (ap (λ (x : Piece). x.wood) r.2) ∙ one r.0 r.1

    compiled : compile (tray_of (without_woods l)) ≡ unwood_compiled (compile (tray_of l))
    compiled = ap compile tray_bare ∙ compile_bare (tray_of l) w one_lent

    placements_counted : placement_count (compile (tray_of (without_woods l))) ≡ placement_count (compile (tray_of l))
    unfolding placement_count unwood_compiled
    placements_counted = ap placement_count compiled

    links_counted : link_count (compile (tray_of (without_woods l))) ≡ link_count (compile (tray_of l))
    links_counted = ap link_count compiled ∙ links_same (compile (tray_of l))

    table_bare : table (without_woods l) ≡ table l
    unfolding table without_woods board_cell_count
    table_bare =
        let turned = l.config.identify_transformed_answers in
        let mirrored = l.config.identify_mirrored_answers in
        let knuth = is_knuth l.config.solver in
        λ i.
        row 2 (ltb 16 (length-map l.pieces (with_wood 0) i)) ∷
        row 3 (not (sides_fit l.board && sides_bare i)) ∷
        row 4 (not (cells_lie l.bytes l.board && lie_bare i)) ∷
        row 5 (not (are_bits (board_bare i) && all_bare are_bits i)) ∷
        row 6 (not (all_bare some_filled i)) ∷
        row 8 (ltb 128 (copies_counted i)) ∷
        row 9 (ltb 128 (sum (board_bare i).cells)) ∷
        row 10 (mirrored && not turned) ∷
        row 11 (not (is_ported l.config.solver)) ∷
        row 12 (ltb (length l.work) 8192) ∷
        row 13 (knuth && ltb (length l.links) 32768) ∷
        row 14 (ltb 1024 (placements_counted i)) ∷
        row 15 (knuth && ltb 4096 (links_counted i)) ∷
        []

    pub refusal_bare : refusal (without_woods l) ≡ refusal l
    unfolding refusal
    refusal_bare = ap first_that_applies table_bare

    pub list_bare : answers_of (tray_of (without_woods l)) (identify_of l.config) l.config.solver ≡ answers_of (tray_of l) (identify_of l.config) l.config.solver
    list_bare = ap (λ (t : Tray). answers_of t (identify_of l.config) l.config.solver) tray_bare ∙ answers_bare (tray_of l) w one_lent (identify_of l.config) l.config.solver

    page_bare : page_of (without_woods l) ≡ page_of l
    unfolding page_of capacity without_woods
    page_bare = ap (λ (xs : List (List ℕ)). page xs l.skip (capacity l)) list_bare

    outcome_bare : outcome (without_woods l) ≡ outcome l
    unfolding outcome accepted refused without_woods
    outcome_bare = ap₂ (λ (g : Page) (n : ℕ). cond (eqb n 0) (accepted_with g l) (refused n l)) page_bare refusal_bare

pub one_wood_calls_holds : OneWoodCalls outcome
unfolding OneWoodCalls
one_wood_calls_holds l w one = sym (outcome_bare l w one)

-- what is printed for a call that a file asks for
said : Call → List ℕ
said l =
    let listed = listing (answers_of (tray_of l) (identify_of l.config) l.config.solver) in
    cond (eqb (refusal l) 0) listed (refused_line (refusal l))

packed_said : (bytes : List ℕ) → T (is_file bytes) → packed bytes ≡ said (call_in bytes 0 0)
unfolding packed said
packed_said bytes file = ap (λ (b : Bool). cond b (said (call_in bytes 0 0)) (refused_line 16)) (is_true (is_file bytes) file)

said_bare : (l : Call) (w : ℕ) → ((r : Record) → Memᴰ r l.pieces → r.wood ≡ w) → said (without_woods l) ≡ said l
unfolding said without_woods
said_bare l w one =
    λ i.
    let n = refusal_bare l w one i in
    cond (eqb n 0) (listing (list_bare l w one i)) (refused_line n)

pub one_wood_printed_holds : OneWoodPrinted
unfolding OneWoodPrinted
one_wood_printed_holds bytes plain file other w one e = packed_said plain other ∙ ap said e ∙ said_bare (call_in bytes 0 0) w one ∙ sym (packed_said bytes file)

pub board_unread_holds : BoardUnread outcome
unfolding BoardUnread board_in_wood with_wood outcome refusal table accepted refused page_of capacity lent_of tray_of grid_of sides_of sides_fit cells_lie
board_unread_holds l w = refl
