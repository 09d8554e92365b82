-- The kinds of an accepted call's tray are its pieces' grids up to quarter turns and their woods, with their mirror partners and the copies lent. Assumes nothing.
use Prim.Native.Nat.{ℕ, ◌+◌, ◌<◌}
use mathlib.Core.Bool.{Bool, true, false, ◌&&◌}
use mathlib.Core.List.Memᴰ
use mathlib.Core.List.{List, [], ◌∷◌, map, Memᴰ}
use mathlib.Core.Path.{◌≡◌, sym, ap, ap₂, ◌∙◌, subst}
use mathlib.Core.Logic.{◌↔◌}
use native.Mathlib.Omega.{arith}
use lib.Dec.{T, ltb, eqb, lt→ltb, eqb_refl}
use lib.ListN.{length, length-map}
use Rattle.lists.specs.Lists.{keep, each, before, ascending, below, less}
use Rattle.lists.proofs.TestLaws.{and_both, or_left, or_right, not_T, is_true}
use Rattle.lists.proofs.ListLaws.{keep_at, keep_of, each_at, each_of}
use Rattle.lists.proofs.SortLaws.{up_map, head_first, keep_ascending, each_ascending, map_ascending}
use Rattle.lists.proofs.RangeLaws.{from_ascending, below_at, below_of}
use Rattle.lists.proofs.NthLaws.{nth_at, Nth, nth_mem, nth_below, nth_get_or, get_or_nth, numbered_at, numbered_ascending, nth_unique, nth_value, before_nth, numbered_of}
use Rattle.lists.proofs.NameLaws.{name_at, name_nth, one_name}
use Rattle.definitions.specs.Grid.{Cell, Grid, volume, filled_cells, grid_ahead}
use Rattle.definitions.specs.Maps.{Map, map_grid, turns, mirrorings, mirror, product}
use Rattle.definitions.specs.Scan.{axes, cell_ahead}
use Rattle.definitions.specs.Kinds.{Piece, Tray, variants, smallest, Form, same_form, form_ahead, Sorted, sort_piece, sorted, forms, Copy, copy_of, copies_of_piece, copies_of, mirrored_form, partner_of, Kind, kind_named, kinds_of, form_of}
use Rattle.definitions.specs.Placements.{Compiled, compile}
use Rattle.definitions.specs.Moves.{Move, is_odd, grid_after}
use Rattle.definitions.specs.Moves.Move.{turn, mirroring}
use Rattle.definitions.specs.Refusals.{Call, tray_of, are_bits, refusal}
use Rattle.definitions.specs.PlacementsRight.{TurnsOnto, MirrorsOnto, no_grid, no_kind, piece_at, kind_at, kind_ahead, copy_ahead}
use Rattle.theorems.proofs.GroupLaws.{identity_grid}
use Rattle.theorems.proofs.WellMadeLaws.{up_board}
use Rattle.theorems.proofs.ShapeLaws.{bits, shape_facts, smallest_at}
use Rattle.theorems.proofs.ActLaws.{maps_of, product_in, product_on, back_in}
use Rattle.theorems.proofs.MoveLaws.{moves_map, moves_in, moves_grid, turn_moves, mirroring_moves, turns_alone, mapped_whole, mirror_in}
use Rattle.theorems.proofs.CellLaws.{grid_trans, grid_irrefl}
use Rattle.theorems.proofs.PartnerLaws.{variant_of, variants_up, smallest_turned, form_path, same_form→eq, same_form_of, forms_ordered, before_form, fs_up, forms-are, fs, one_smallest}
use Rattle.theorems.proofs.GeometryLaws.{piece_whole, to_filled, of_filled, turns_not_odd}

-- ---- sequences of moves and maps, on a grid of 0 and 1 with all its cells
abbrev Whole : Grid → Type 0
Whole g = length g.cells ≡ volume g.sides

module _ (g : Grid) (b : T (are_bits g)) (w : Whole g) where
  by_map : (odd : Bool) (ms : List Move) (h : Grid) → is_odd ms ≡ odd → grid_after ms g ≡ h → (m : Map) × Memᴰ m (maps_of odd) × (map_grid m g ≡ h)
  by_map odd ms h o e = (moves_map ms, subst (λ (x : Bool). Memᴰ (moves_map ms) (maps_of x)) o (moves_in ms), sym (moves_grid ms g b w) ∙ e)

  by_moves : (ms : List Move) (m : Map) (h : Grid) → moves_map ms ≡ m → map_grid m g ≡ h → grid_after ms g ≡ h
  by_moves ms m h e f = moves_grid ms g b w ∙ ap (λ (n : Map). map_grid n g) e ∙ f

  pub turned_onto : (m : Map) (h : Grid) → Memᴰ m turns → map_grid m g ≡ h → TurnsOnto g h
  turned_onto m h k e = let r = turn_moves m k in record { moves = map turn r.0; by_turns = turns_alone r.0; equal = by_moves (map turn r.0) m h r.1 e }

  pub mirrored_onto : (m : Map) (h : Grid) → Memᴰ m mirrorings → map_grid m g ≡ h → MirrorsOnto g h
  mirrored_onto m h k e = let r = mirroring_moves m k in record { moves = mirroring r.0 ∷ []; by_mirroring = tt; equal = by_moves (mirroring r.0 ∷ []) m h r.1 e }

  pub mirrors_by : (h : Grid) → MirrorsOnto g h → (m : Map) × Memᴰ m mirrorings × (map_grid m g ≡ h)
  mirrors_by h r = by_map true r.moves h (is_true (is_odd r.moves) r.by_mirroring) r.equal

-- ---- all 24 mirrored grids have one smallest turned grid
smallest_mirrored : (m n : Map) → Memᴰ m mirrorings → Memᴰ n mirrorings → (g : Grid) → Whole g → smallest (map_grid m g) ≡ smallest (map_grid n g)
smallest_mirrored m n a b g w =
    let r = back_in true n b in
    let undo : map_grid r.0 (map_grid n g) ≡ g = product_on true true r.0 n r.1 b g ∙ ap (λ (j : Map). map_grid j g) r.2 ∙ identity_grid g w in
    ap (λ (h : Grid). smallest (map_grid m h)) (sym undo) ∙ ap smallest (product_on true true m r.0 a r.1 (map_grid n g))
    ∙ smallest_turned (product m r.0) (product_in true true m r.0 a r.1) (map_grid n g) (mapped_whole n g)

smallest_partner : (g : Grid) → Whole g → smallest (map_grid mirror (smallest g)) ≡ smallest (map_grid mirror g)
smallest_partner g w =
    let r = smallest_at g in
    ap (λ (h : Grid). smallest (map_grid mirror h)) (sym r.2) ∙ ap smallest (product_on true false mirror r.0 mirror_in r.1 g)
    ∙ smallest_mirrored (product mirror r.0) mirror (product_in true false mirror r.0 mirror_in r.1) mirror_in g w

-- the kind of the mirrored grids is a grid's kind exactly if a mirroring makes the grids equal
mirror_kind : (g h : Grid) → Whole g → Whole h → (smallest (map_grid mirror (smallest g)) ≡ smallest h) ↔ ((m : Map) × Memᴰ m mirrorings × (map_grid m g ≡ h))
mirror_kind g h wg wh = (there, λ r. smallest_partner g wg ∙ smallest_mirrored mirror r.0 mirror_in r.1 g wg ∙ ap smallest r.2)
  where
    there : smallest (map_grid mirror (smallest g)) ≡ smallest h → (m : Map) × Memᴰ m mirrorings × (map_grid m g ≡ h)
    there e =
        let r = (one_smallest (map_grid mirror g) h (mapped_whole mirror g) wh).0 (sym (smallest_partner g wg) ∙ e) in
        (product r.0 mirror, product_in false true r.0 mirror r.1 mirror_in, sym (product_on false true r.0 mirror r.1 mirror_in g) ∙ r.2)

-- ---- accepted calls
module _ (l : Call) (ok : refusal l ≡ 0) where
  abbrev T₀ : Tray
  T₀ = tray_of l

  abbrev C : Compiled
  C = compile (tray_of l)

  abbrev G : List Form
  G = forms (sorted T₀)

  abbrev grid_at : ℕ → Grid
  grid_at n = (piece_at (tray_of l) n).grid

  -- a piece's form, and its kind: the place of its form among those of all pieces
  unfoldable pub form_at : ℕ → Form
  form_at n = record { grid = smallest (piece_at (tray_of l) n).grid; wood = (piece_at (tray_of l) n).wood }

  unfoldable pub kind_number : ℕ → ℕ
  kind_number n = before (same_form (form_at n)) (forms (sorted (tray_of l)))

  -- ---- the board's cells
  pub cells-filled : (u : Cell) → Memᴰ u (compile (tray_of l)).cells ↔ Memᴰ u (filled_cells (tray_of l).board)
  unfolding compile
  cells-filled u = (to_filled l ok u, of_filled l ok u)

  pub cells-in-order : T (ascending (cell_ahead (axes (tray_of l).board.sides)) (compile (tray_of l)).cells)
  unfolding compile
  cells-in-order = up_board T₀ (shape_facts l ok)

  -- ---- pieces
  pub piece_nth : (n : ℕ) → n < length (tray_of l).pieces → Nth (tray_of l).pieces n (piece_at (tray_of l) n)
  unfolding piece_at
  piece_nth n h = nth_at (record { grid = no_grid; count = 0; wood = 0 }) T₀.pieces n h

  piece_is : (n : ℕ) (q : Piece) → Nth T₀.pieces n q → piece_at T₀ n ≡ q
  unfolding piece_at
  piece_is n q h = nth_value T₀.pieces n q (record { grid = no_grid; count = 0; wood = 0 }) h

  pub grid_bits : (n : ℕ) → n < length (tray_of l).pieces → T (are_bits (piece_at (tray_of l) n).grid)
  grid_bits n h = bits l ok (piece_at T₀ n) (nth_mem T₀.pieces n (piece_nth n h))

  pub grid_all : (n : ℕ) → n < length (tray_of l).pieces → length (piece_at (tray_of l) n).grid.cells ≡ volume (piece_at (tray_of l) n).grid.sides
  grid_all n h = piece_whole l ok (piece_at T₀ n) (nth_mem T₀.pieces n (piece_nth n h))

  -- ---- forms: those of the pieces, sorted, are the kinds'
  sorted_at : (x : Sorted) → Memᴰ x (sorted T₀) → (n : ℕ) × (n < length T₀.pieces) × (x ≡ sort_piece n (piece_at T₀ n))
  unfolding sorted
  sorted_at x m =
      let r = numbered_at sort_piece 0 T₀.pieces m in
      let e : r.0 + 0 ≡ r.0 = omega arith in
      (r.0, nth_below T₀.pieces r.0 r.1 r.2, r.3 ∙ ap₂ (λ (n : ℕ) (q : Piece). sort_piece n q) e (sym (piece_is r.0 r.1 r.2)))

  sorted_of : (n : ℕ) → n < length T₀.pieces → Memᴰ (sort_piece n (piece_at T₀ n)) (sorted T₀)
  unfolding sorted
  sorted_of n h =
      let e : n ≡ n + 0 = omega arith in
      Memᴰ.cast (ap (λ (i : ℕ). sort_piece i (piece_at T₀ n)) e) (numbered_of sort_piece 0 T₀.pieces n (piece_at T₀ n) (piece_nth n h))

  forms_up : T (ascending form_ahead G)
  unfolding fs
  forms_up = fs_up T₀ (piece_whole l ok)

  form-at : (f : Form) → Memᴰ f G → (n : ℕ) × (n < length T₀.pieces) × (form_at n ≡ f)
  unfolding forms form_at
  form-at f m =
      let r = name_at form_ahead same_form forms_ordered (λ (q : Sorted). q.form) (sorted T₀) f m in
      let s = sorted_at r.0 r.1 in
      (s.0, s.1, sym (ap (λ (q : Sorted). q.form) s.2) ∙ r.2)

  number_is : (n k : ℕ) → Nth G k (form_at n) → kind_number n ≡ k
  unfolding kind_number
  number_is n k h = before_form G forms_up k (form_at n) h

  number_nth : (n : ℕ) → n < length T₀.pieces → Nth G (kind_number n) (form_at n)
  unfolding kind_number forms form_at
  number_nth n h = name_nth form_ahead same_form forms_ordered (λ (q : Sorted). q.form) (sorted T₀) (sort_piece n (piece_at T₀ n)) (sorted_of n h)

  -- ---- kinds
  -- the kind with a form
  made : Form → Kind
  made f = kind_named (sorted T₀) G f

  kind_made : (k : ℕ) (f : Form) → Nth G k f → kind_at C k ≡ made f
  unfolding kind_at compile kinds_of made
  kind_made k f h = nth_get_or made no_kind G k h

  kinds_length : length C.kinds ≡ length G
  unfolding compile kinds_of made
  kinds_length = length-map G made

  kind_nth : (k : ℕ) → k < length C.kinds → (f : Form) × Nth G k f
  kind_nth k h = get_or_nth G k (subst (λ (n : ℕ). k < n) kinds_length h)

  pub kind_shape : (n : ℕ) → n < length (tray_of l).pieces → (kind_at (compile (tray_of l)) (kind_number n)).shape ≡ smallest (piece_at (tray_of l) n).grid
  unfolding made form_at
  kind_shape n h = ap (λ (d : Kind). d.shape) (kind_made (kind_number n) (form_at n) (number_nth n h))

  pub kind_wood : (n : ℕ) → n < length (tray_of l).pieces → (kind_at (compile (tray_of l)) (kind_number n)).wood ≡ (piece_at (tray_of l) n).wood
  unfolding made form_at
  kind_wood n h = ap (λ (d : Kind). d.wood) (kind_made (kind_number n) (form_at n) (number_nth n h))

  pub is-kind : (n : ℕ) → n < length (tray_of l).pieces → kind_number n < length (compile (tray_of l)).kinds
  is-kind n h = subst (λ (k : ℕ). kind_number n < k) (sym kinds_length) (nth_below G (kind_number n) (form_at n) (number_nth n h))

  pub some-lent : (k : ℕ) → k < length (compile (tray_of l)).kinds → (n : ℕ) × (n < length (tray_of l).pieces) × (kind_number n ≡ k)
  some-lent k h =
      let r = kind_nth k h in
      let s = form-at r.0 (nth_mem G k r.1) in
      (s.0, s.1, number_is s.0 k (subst (λ (f : Form). Nth G k f) (sym s.2) r.1))

  one_form : (n m : ℕ) → n < length T₀.pieces → m < length T₀.pieces → kind_number n ≡ kind_number m → form_at n ≡ form_at m
  unfolding kind_number forms form_at
  one_form n m a b e = one_name form_ahead same_form forms_ordered (λ (q : Sorted). q.form) (sorted T₀) (sort_piece n (piece_at T₀ n)) (sort_piece m (piece_at T₀ m)) (sorted_of n a) (sorted_of m b) e

  pub turns_by : (n : ℕ) → n < length (tray_of l).pieces → (g : Grid) → TurnsOnto (piece_at (tray_of l) n).grid g → (m : Map) × Memᴰ m turns × (map_grid m (piece_at (tray_of l) n).grid ≡ g)
  turns_by n h g r = by_map (grid_at n) (grid_bits n h) (grid_all n h) false r.moves g (not_T (is_odd r.moves) (turns_not_odd l ok r.moves r.by_turns)) r.equal

  pub one_kind_turns : (n m : ℕ) → n < length (tray_of l).pieces → m < length (tray_of l).pieces
      → (kind_number n ≡ kind_number m) ↔ (TurnsOnto (piece_at (tray_of l) n).grid (piece_at (tray_of l) m).grid × ((piece_at (tray_of l) n).wood ≡ (piece_at (tray_of l) m).wood))
  unfolding kind_number form_at
  one_kind_turns n m a b = (
    λ e.
        let i : form_at n ≡ form_at m = one_form n m a b e in
        let r = both.0 (ap (λ (f : Form). f.grid) i) in
        (turned_onto (grid_at n) (grid_bits n a) (grid_all n a) r.0 (grid_at m) r.1 r.2, ap (λ (f : Form). f.wood) i),
    λ x. ap (λ (f : Form). before (same_form f) G) (form_path (both.1 (turns_by n a (grid_at m) x.0)) x.1),
  )
    where
      both : (smallest (grid_at n) ≡ smallest (grid_at m)) ↔ ((j : Map) × Memᴰ j turns × (map_grid j (grid_at n) ≡ grid_at m))
      both = one_smallest (grid_at n) (grid_at m) (grid_all n a) (grid_all m b)

  -- ---- a kind's shape
  pub shape-turned : (n : ℕ) → n < length (tray_of l).pieces → TurnsOnto (piece_at (tray_of l) n).grid (kind_at (compile (tray_of l)) (kind_number n)).shape
  shape-turned n h =
      let r = smallest_at (grid_at n) in
      turned_onto (grid_at n) (grid_bits n h) (grid_all n h) r.0 (kind_at C (kind_number n)).shape r.1 (r.2 ∙ sym (kind_shape n h))

  pub shape-smallest : (n : ℕ) → n < length (tray_of l).pieces → (g : Grid) → TurnsOnto (piece_at (tray_of l) n).grid g → T (grid_ahead g (kind_at (compile (tray_of l)) (kind_number n)).shape) → ⊥
  unfolding smallest
  shape-smallest n h g x a =
      let r = turns_by n h g x in
      head_first grid_ahead grid_trans grid_irrefl (grid_at n) (variants (grid_at n)) (variants_up (grid_at n)) (Memᴰ.cast (sym r.2) (variant_of (grid_at n) r.0 r.1))
      (subst (λ (k : Grid). T (grid_ahead g k)) (kind_shape n h) a)

  pub kinds-in-order : T (ascending kind_ahead (compile (tray_of l)).kinds)
  unfolding compile kind_ahead form_ahead form_of
  kinds-in-order = up_map form_ahead kind_ahead form_of (λ x y t. t) (kinds_of T₀) (subst (λ (xs : List Form). T (ascending form_ahead xs)) (sym (forms-are T₀ (piece_whole l ok))) (fs_up T₀ (piece_whole l ok)))

  -- ---- mirror partners
  partner_is : (n : ℕ) → n < length T₀.pieces → (kind_at C (kind_number n)).partner ≡ before (same_form (mirrored_form (form_at n))) G
  unfolding made partner_of
  partner_is n h = ap (λ (d : Kind). d.partner) (kind_made (kind_number n) (form_at n) (number_nth n h))

  pub partner_mirrors : (n m : ℕ) → n < length (tray_of l).pieces → m < length (tray_of l).pieces
      → ((kind_at (compile (tray_of l)) (kind_number n)).partner ≡ kind_number m)
      ↔ (MirrorsOnto (piece_at (tray_of l) n).grid (piece_at (tray_of l) m).grid × ((piece_at (tray_of l) n).wood ≡ (piece_at (tray_of l) m).wood))
  unfolding kind_number form_at mirrored_form
  partner_mirrors n m a b = (
    λ e.
        let i : Nth G (before (same_form s) G) (form_at m) = subst (λ (k : ℕ). Nth G k (form_at m)) (sym e ∙ partner_is n a) (number_nth m b) in
        let j : s ≡ form_at m = same_form→eq s (form_at m) (before_nth (same_form s) G (form_at m) i) in
        let r = both.0 (ap (λ (f : Form). f.grid) j) in
        (mirrored_onto (grid_at n) (grid_bits n a) (grid_all n a) r.0 (grid_at m) r.1 r.2, ap (λ (f : Form). f.wood) j),
    λ x. partner_is n a ∙ ap (λ (f : Form). before (same_form f) G) (form_path (both.1 (mirrors_by (grid_at n) (grid_bits n a) (grid_all n a) (grid_at m) x.0)) x.1),
  )
    where
      s : Form
      s = mirrored_form (form_at n)

      both : (smallest (map_grid mirror (smallest (grid_at n))) ≡ smallest (grid_at m)) ↔ ((j : Map) × Memᴰ j mirrorings × (map_grid j (grid_at n) ≡ grid_at m))
      both = mirror_kind (grid_at n) (grid_at m) (grid_all n a) (grid_all m b)

  -- ---- copies
  abbrev of_form : Form → Sorted → Bool
  of_form f q = same_form q.form f

  copies_are : (k : ℕ) (g : Form) → Nth G k g → (kind_at C k).copies ≡ each (keep (of_form g) (sorted T₀)) copies_of_piece
  unfolding made copies_of
  copies_are k g h = ap (λ (d : Kind). d.copies) (kind_made k g h)

  pub copies-lent : (k : ℕ) (x : Copy) → k < length (compile (tray_of l)).kinds
      → Memᴰ x (kind_at (compile (tray_of l)) k).copies ↔ ((x.piece < length (tray_of l).pieces) × (kind_number x.piece ≡ k) × (x.copy < (piece_at (tray_of l) x.piece).count))
  unfolding form_at
  copies-lent k x h = (there, back)
    where
      g : Form
      g = (kind_nth k h).0

      at_k : Nth G k g
      at_k = (kind_nth k h).1

      Lent : ℕ → Type 0
      Lent n = (n < length T₀.pieces) × (kind_number n ≡ k) × (x.copy < (piece_at T₀ n).count)

      there : Memᴰ x (kind_at C k).copies → Lent x.piece
      there m =
          let r = each_at copies_of_piece (keep (of_form g) (sorted T₀)) (subst (λ (xs : List Copy). Memᴰ x xs) (copies_are k g at_k) m) in
          let s = keep_at (of_form g) (sorted T₀) r.1 in
          let c = Memᴰ.of_map (copy_of r.0) (below r.0.count) r.2 in
          let p = sorted_at r.0 s.0 in
          let e : p.0 ≡ x.piece = sym (ap (λ (q : Sorted). q.piece) p.2) ∙ ap (λ (y : Copy). y.piece) c.2 in
          let f : form_at p.0 ≡ g = sym (ap (λ (q : Sorted). q.form) p.2) ∙ same_form→eq r.0.form g s.1 in
          let i : c.0 < (piece_at T₀ p.0).count = subst (λ (q : Sorted). c.0 < q.count) p.2 (below_at r.0.count c.1) in
          let j : x.copy < (piece_at T₀ p.0).count = subst (λ (y : Copy). y.copy < (piece_at T₀ p.0).count) c.2 i in
          subst Lent e (p.1, number_is p.0 k (subst (λ (y : Form). Nth G k y) (sym f) at_k), j)

      back : Lent x.piece → Memᴰ x (kind_at C k).copies
      back r =
          let q : Sorted = sort_piece x.piece (piece_at T₀ x.piece) in
          let a : Nth G k (form_at x.piece) = subst (λ (n : ℕ). Nth G n (form_at x.piece)) r.1 (number_nth x.piece r.0) in
          let f : form_at x.piece ≡ g = nth_unique G k (form_at x.piece) g a at_k in
          subst (λ (xs : List Copy). Memᴰ x xs) (sym (copies_are k g at_k))
          (each_of copies_of_piece (keep (of_form g) (sorted T₀)) (keep_of (of_form g) (sorted T₀) (sorted_of x.piece r.0) (same_form_of f)) (Memᴰ.map (copy_of q) (below_of q.count r.2)))

  -- pieces by number, and each piece's copies from 0
  abbrev lent_first : Sorted → Sorted → Bool
  lent_first x y = ltb x.piece y.piece

  sorted_up : T (ascending lent_first (sorted T₀))
  unfolding sorted
  sorted_up = numbered_ascending sort_piece lent_first (λ n m x y h. lt→ltb n m h) 0 T₀.pieces

  copy_next : (q : Sorted) (a b : ℕ) → T (ltb a b) → T (copy_ahead (copy_of q a) (copy_of q b))
  unfolding copy_ahead
  copy_next q a b t =
      or_right (ltb q.piece q.piece) (eqb q.piece q.piece && less (a ∷ []) (b ∷ []))
      (and_both (eqb q.piece q.piece) (less (a ∷ []) (b ∷ [])) (eqb_refl q.piece) (or_left (ltb a b) (eqb a b && less [] []) t))

  copy_later : (q r : Sorted) → T (lent_first q r) → (x y : Copy) → Memᴰ x (copies_of_piece q) → Memᴰ y (copies_of_piece r) → T (copy_ahead x y)
  unfolding copy_ahead
  copy_later q r t x y m k =
      let a = Memᴰ.of_map (copy_of q) (below q.count) m in
      let b = Memᴰ.of_map (copy_of r) (below r.count) k in
      let e : T (ltb x.piece y.piece) = subst (λ (z : Copy). T (ltb z.piece y.piece)) a.2 (subst (λ (z : Copy). T (ltb q.piece z.piece)) b.2 t) in
      or_left (ltb x.piece y.piece) (eqb x.piece y.piece && less (x.copy ∷ []) (y.copy ∷ [])) e

  pub copies-in-order : (k : ℕ) → k < length (compile (tray_of l)).kinds → T (ascending copy_ahead (kind_at (compile (tray_of l)) k).copies)
  copies-in-order k h =
      let r = kind_nth k h in
      subst (λ (xs : List Copy). T (ascending copy_ahead xs)) (sym (copies_are k r.0 r.1))
      (each_ascending lent_first copy_ahead copies_of_piece (keep (of_form r.0) (sorted T₀)) (keep_ascending lent_first (of_form r.0) (sorted T₀) sorted_up)
      (λ q m. map_ascending ltb copy_ahead (copy_of q) (below q.count) (from_ascending 0 q.count) (λ x y a b. copy_next q x y)) (λ x y m k t. copy_later x y t))
