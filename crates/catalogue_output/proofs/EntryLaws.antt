-- The entries of the catalogue as bytes: each has a line, and the lines are those of the list. Assumes nothing.
use Prim.Native.Nat.{ℕ, ◌-◌, ◌*◌, ◌<◌, ◌≤◌}
use mathlib.Core.List.{List, [], ◌++◌, map, Memᴰ, append-nil}
use mathlib.Core.Path.{◌≡◌, sym, ap, ◌∙◌, subst}
use native.Mathlib.Omega.{arith}
use lib.Dec.{T, leb}
use lib.ListN.{length, take, drop, get_or, replicate, length-map}
use lib.Seq.{take-append_seam}
use Rattle.lists.specs.Lists.{all, below, joined}
use Rattle.lists.proofs.TestLaws.{is_true}
use Rattle.lists.proofs.ListLaws.{each_joined, length_joined}
use Rattle.lists.proofs.NthLaws.{get_or_nth, nth_get_or, nth_mem}
use Rattle.lists.proofs.RangeLaws.{map_below}
use Rattle.definitions.specs.Grid.{Grid, volume}
use Rattle.definitions.specs.Refusals.{are_bits}
use Rattle.definitions.specs.Catalogue.{Roomy, catalogue}
use Rattle.definitions.specs.CatalogueCalls.{entry_bytes, piece_line}
use Rattle.theorems.proofs.CatalogueLaws.{entry_at, needed_at, roomy}
use Rattle.theorems.proofs.CatalogueCallLaws.{entries_sized, entry_length}
use Rattle.theorems.proofs.EntryPageLaws.{entry_stands}
use Rattle.catalogue_output.specs.Entries.{HasLine, HaveLines, entry_number, first_lines, entry_grid, line_number}

-- a grid is that of its entry
same_grid_in : (g : Grid) → length g.cells ≡ volume g.sides → entry_grid (entry_bytes g) ≡ g
unfolding entry_grid entry_bytes
same_grid_in g whole =
    ap (λ (l : List ℕ). record { sides = g.sides; cells = l })
    (ap (λ (v : ℕ). take v (g.cells ++ replicate (18 - length g.cells) 0)) (sym whole) ∙ take-append_seam g.cells (replicate (18 - length g.cells) 0))

-- the entries for n cells, one after the other
module _ (n : ℕ) (few : n ≤ 6) where
  abbrev bytes : List ℕ
  bytes = joined (map entry_bytes (catalogue n))

  grid_there : (g : Grid) → Memᴰ g (catalogue n) → entry_grid (entry_bytes g) ≡ g
  grid_there g m = same_grid_in g (entry_at n g m).piece.drawn.whole

  has_line : (g : Grid) → Memᴰ g (catalogue n) → HasLine (entry_bytes g)
  unfolding entry_bytes volume are_bits Roomy
  has_line g m =
      let e = entry_at n g m in
      let w = needed_at n g.sides e.walked in
      let a = w.few in
      let b = w.some in
      record {
        long = entry_length n few g m;
        sides = (omega arith, omega arith, omega arith);
        few = roomy n few g m;
        bits = is_true _ (subst (λ (h : Grid). T (all (λ k. leb k 1) h.cells)) (sym (grid_there g m)) e.piece.drawn.bits);
      }

  -- entry i is that of a grid of the list, and so is its line
  there : (i : ℕ) → i < length (catalogue n) → (g : Grid) × Memᴰ g (catalogue n) × (entry_number bytes i ≡ entry_bytes g)
      × (line_number bytes i ≡ get_or (map piece_line (catalogue n)) i [])
  unfolding entry_number
  there i h =
      let r = get_or_nth (catalogue n) i h in
      let m = nth_mem (catalogue n) i r.1 in
      let inside : i < length (map entry_bytes (catalogue n)) = let k = length-map (catalogue n) entry_bytes in omega arith in
      let e = ap (λ (l : List ℕ). take 21 (drop (i * 21) l)) (sym (append-nil (bytes)))
      ∙ entry_stands 21 (map entry_bytes (catalogue n)) (entries_sized n few) [] i inside ∙ nth_get_or entry_bytes [] (catalogue n) i r.1 in
      (r.0, m, e, ap (λ (l : List ℕ). piece_line (entry_grid l)) e ∙ ap piece_line (grid_there r.0 m) ∙ sym (nth_get_or piece_line [] (catalogue n) i r.1))

  pub entries_length : length bytes ≡ length (catalogue n) * 21
  entries_length = length_joined 21 (map entry_bytes (catalogue n)) (entries_sized n few) ∙ ap (λ (k : ℕ). k * 21) (length-map (catalogue n) entry_bytes)

  pub have_lines : HaveLines (length (catalogue n)) bytes
  have_lines =
      record {
        long = entries_length;
        has_line = λ i h. let r = there i h in subst HasLine (sym r.2) (has_line r.0 r.1);
      }

  pub lines_are : first_lines bytes (length (catalogue n)) ≡ joined (map piece_line (catalogue n))
  lines_are =
      each_joined (line_number (bytes)) (below (length (catalogue n)))
      ∙ ap joined (map_below (line_number (bytes)) (length (catalogue n)) [] (map piece_line (catalogue n)) (length-map (catalogue n) piece_line) (λ i h. (there i h).3))
