-- The placements of a tray by a piece of each kind: a kind's variants are those of any of its pieces. Assumes nothing.
use Prim.Native.Nat.{ℕ, ◌+◌, ◌*◌, ◌≤◌, ◌<◌}
use mathlib.Core.List.{List, [], ◌++◌, map}
use mathlib.Core.Path.{◌≡◌, sym, ap, ap₂, ◌∙◌}
use native.Mathlib.Numerals.{add-one}
use native.Mathlib.Omega.{arith}
use lib.Dec.{ltb, ltb→lt}
use lib.ListN.{length, get_or, take, drop, drop_of_length-le}
use lib.Seq.{length-take-le, drop-cons, get_or-take}
use Rattle.lists.specs.Lists.{joined, numbered, numbered_from}
use Rattle.lists.proofs.ListLaws.{numbered_same, all_at, numbered_map}
use Rattle.definitions.specs.Grid.{Grid}
use Rattle.definitions.specs.Scan.{axes, scan}
use Rattle.definitions.specs.Kinds.{Kind, kinds_of, variants}
use Rattle.definitions.specs.Placements.{Placement, placements_at, placements_of, compile}
use Rattle.definitions.specs.Refusals.{grid_of, placement_count}
use Rattle.definitions.specs.declared.Record.{Record}
use Rattle.placements.specs.declared.Pieces.{Pieces}
use Rattle.placements.specs.Pieces.{records_of, lent_in}
use Rattle.placements.specs.Merging.{grid_at, shape_at, AreKinds}
use Rattle.placements.proofs.CountingLaws.{Lent, kinds_shapes, variants_smallest}
use Rattle.rows.proofs.RecordLaws.{piece_size}

-- ---- the placements of kind k, given by some grids, and by piece i
abbrev pub placements_by : List ℕ → Grid → ℕ → List Grid → List Placement
placements_by order g k gs = joined (numbered (scan order g) (placements_at (scan order g) k (map (scan order) gs)))

abbrev pub placements_of_piece : List ℕ → Grid → Pieces → List ℕ → ℕ → ℕ → List Placement
placements_of_piece order g t bytes k i = placements_by order g k (variants (grid_at t bytes i))

-- what is left from kind k on
abbrev pub left_from : List ℕ → Grid → Pieces → List ℕ → List ℕ → ℕ → ℕ → List Placement
left_from order g t bytes first kinds k = joined (numbered_from k (drop k (take kinds first)) (placements_of_piece order g t bytes))

module _ (order : List ℕ) (g : Grid) (t : Pieces) (bytes first : List ℕ) (kinds : ℕ) (within : kinds ≤ length first) (k : ℕ) where
  pub left_kind : (h : Grid) → k < kinds → h ≡ grid_at t bytes (get_or first k 0)
      → left_from order g t bytes first kinds k ≡ placements_by order g k (variants h) ++ left_from order g t bytes first kinds (k + 1)
  left_kind h l e =
      let a = length-take-le kinds first within in
      ap (λ (is : List ℕ). joined (numbered_from k is (placements_of_piece order g t bytes))) (drop-cons (take kinds first) k 0 (omega arith))
      ∙ ap₂ (λ (gs : List Grid) (i : ℕ). placements_by order g k gs ++ joined (numbered_from i (drop i (take kinds first)) (placements_of_piece order g t bytes)))
      (ap (λ (i : ℕ). variants (grid_at t bytes i)) (get_or-take kinds first k 0 l) ∙ ap variants (sym e)) (sym (add-one k))

  pub left_kinds_end : kinds ≤ k → left_from order g t bytes first kinds k ≡ []
  left_kinds_end l =
      let a = length-take-le kinds first within in
      ap (λ (is : List ℕ). joined (numbered_from k is (placements_of_piece order g t bytes))) (drop_of_length-le (take kinds first) {i = k} (omega arith))

-- ---- all placements
module _ (t : Pieces) (board : Record) (bytes : List ℕ) (lent : Lent t board bytes) where
  piece_variants : (i : ℕ) → i < t.count → variants (shape_at t bytes i) ≡ variants (grid_at t bytes i)
  unfolding shape_at
  piece_variants i h = variants_smallest (grid_at t bytes i) (piece_size t board bytes lent i h)

  module _ (first : List ℕ) (kinds : ℕ) (are : AreKinds t bytes first kinds) (order : List ℕ) (is-order : axes (grid_of bytes board).sides ≡ order) (g : Grid) (is : g ≡ grid_of bytes board) where
    pub placements_all : left_from order g t bytes first kinds 0 ≡ (compile (lent_in (records_of t) board bytes)).placements
    unfolding compile placements_of
    placements_all =
        ap₂ (λ (o : List ℕ) (b : Grid). left_from o b t bytes first kinds 0) (sym is-order) is
        ∙ ap joined
        (numbered_same (placements_of_piece ord bd t bytes) (λ k i. by k (shape_at t bytes i)) 0 (take kinds first)
        (λ k i m. ap (placements_by ord bd k) (sym (piece_variants i (ltb→lt i t.count (all_at (λ (j : ℕ). ltb j t.count) (take kinds first) are.ordered.pieces m)))))
        ∙ sym (numbered_map (shape_at t bytes) by 0 (take kinds first))
        ∙ ap (λ (gs : List Grid). numbered_from 0 gs by) (sym (kinds_shapes t board bytes first kinds are))
        ∙ numbered_map (λ (d : Kind). d.shape) by 0 (kinds_of (lent_in (records_of t) board bytes)))
      where
        bd : Grid
        bd = grid_of bytes board

        ord : List ℕ
        ord = axes (grid_of bytes board).sides

        by : ℕ → Grid → List Placement
        by k h = placements_by ord bd k (variants h)

    pub placements_room : (size : ℕ) → 8 * placement_count (compile (lent_in (records_of t) board bytes)) ≤ size → 8 * (0 + length (left_from order g t bytes first kinds 0)) ≤ size
    unfolding placement_count
    placements_room size h = let e = ap length placements_all in omega arith
