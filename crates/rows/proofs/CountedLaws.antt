-- Trays that are counted: the front of the pieces of kinds, and of the places of the board's cells. Assumes nothing.
use Prim.Native.Nat.{ℕ, ◌≤◌, ◌<◌}
use mathlib.Core.List.{List, map}
use mathlib.Core.Path.{◌≡◌, sym, ap, ◌∙◌, subst, subst₂}
use native.Mathlib.Omega.{arith}
use lib.Dec.{T, eqb, ltb}
use lib.ListN.{length, get_or, take}
use lib.Seq.{length-take-le, get_or-take, take_all}
use Rattle.lists.specs.Lists.{all, before, below}
use Rattle.definitions.specs.Grid.{Grid, volume}
use Rattle.shape.specs.Places.{cell_at}
use Rattle.placements.specs.Counting.{OnBoard}
use Rattle.placements.specs.declared.counted.CountedTray.{CountedTray}
use Rattle.placements.proofs.CountingLaws.{Lent, lent_passes, board_fits}
use Rattle.placements.proofs.RefusalLaws.{sides_small}
use Rattle.shape.proofs.PlaceLaws.{volume_small}
use Rattle.definitions.specs.Refusals.{grid_of}
use Rattle.rows.specs.Boards.{Numbered}
use Rattle.rows.proofs.BuildSystemLaws.{numbered_board}

-- what is lent of it
pub lent-of : (c : CountedTray) → Lent c.tray.pieces c.tray.board c.tray.bytes.now
lent-of c = lent_passes c.tray.pieces c.tray.board c.tray.bytes.now c.tray.accepted

-- its kinds are few, by a piece each
pub kind_within : (c : CountedTray) → length c.first ≡ 16 → c.counts.kinds ≤ length c.first
kind_within c e = omega (arith, (lent-of c).few, c.counted.are_kinds.few)

module _ (c : CountedTray) (long : length c.first ≡ 16) (kinds : List ℕ) (is : kinds ≡ take c.counts.kinds c.first) where
  pub kind_number : length kinds ≡ c.counts.kinds
  kind_number = ap length is ∙ length-take-le c.counts.kinds c.first (kind_within c long)

  pub first_of : (k : ℕ) → k < c.counts.kinds → get_or kinds k 0 ≡ get_or c.first k 0
  first_of k l = ap (λ (xs : List ℕ). get_or xs k 0) is ∙ get_or-take c.counts.kinds c.first k 0 l

  pub kind_below : (k : ℕ) → k < length kinds → k < c.counts.kinds
  kind_below k l = let e = kind_number in omega arith

-- a list that is the front of the places is all places of the board's cells
pub on_front : (order : List ℕ) (g : Grid) (places : List ℕ) (n : ℕ) → OnBoard order g places n → (ps : List ℕ) → ps ≡ take n places → (length ps ≡ n) × OnBoard order g ps (length ps)
on_front order g places n on ps is = (
  many,
  record {
    is_order = on.is_order;
    within = omega arith;
    few = omega (arith, on.few, many);
    in_box = subst (λ (xs : List ℕ). T (all (λ i. ltb i (volume g.sides)) xs)) (sym front) on.in_box;
    cells = ap (map (cell_at g.sides)) front ∙ on.cells;
  },
)
  where
    many : length ps ≡ n
    many = ap length is ∙ length-take-le n places on.within

    front : take (length ps) ps ≡ take n places
    front = take_all (length ps) ps (omega arith) ∙ is

-- numbers that say of each place how many of these stand before it are the board's scan numbers
pub numbered_front : (order : List ℕ) (g : Grid) (ps scans : List ℕ) → OnBoard order g ps (length ps) → volume g.sides ≤ 512
    → scans ≡ map (λ i. before (eqb i) ps) (below 512) → (o : List ℕ) → o ≡ order → (h : Grid) → h ≡ g → Numbered o h scans
numbered_front order g ps scans on room e o same h is =
    subst₂ (λ (x : List ℕ) (y : Grid). Numbered x y scans) (sym same) (sym is)
    (numbered_board order g ps scans (length ps) 512 on room
    (e ∙ ap (λ (xs : List ℕ). map (λ i. before (eqb i) xs) (below 512)) (sym (take_all (length ps) ps (omega arith)))))

-- the board's box has at most 512 places
pub box_small : (c : CountedTray) → volume (grid_of c.tray.bytes.now c.tray.board).sides ≤ 512
unfolding grid_of
box_small c = (volume_small _ (sides_small c.tray.board (board_fits _ _ _ (lent-of c)).0)).1
