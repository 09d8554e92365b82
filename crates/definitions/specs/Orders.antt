-- Document 01, "Fast's order" and "Knuth's order".
use Rattle.std.specs.Prelude.{ℕ, zero, suc, ◌-◌, ◌*◌, Bool, true, false, cond, not, ◌&&◌, List, [], ◌∷◌, ◌++◌, map, ltb, eqb, length, get_or, set, take}
use Rattle.lists.specs.Lists.{all, any, how_many, keep, each, below, member, less, put, sort, sum, is_empty}
use Rattle.definitions.specs.Placements.{Placement, Compiled}
use Rattle.definitions.specs.Packing.{ahead, limits}
use Rattle.definitions.specs.Kept.{Identify, kept}
use Rattle.definitions.specs.Kept.Identify.{None, Turned, Mirrored}
use Rattle.definitions.specs.declared.SolverKind.{SolverKind}
use Rattle.definitions.specs.declared.SolverKind.TheVariants.{Auto, Naive, Fast, KnuthAlgorithm}

-- A search's state: the copies of each kind that are left, the uncovered cells in scan order, and the placements chosen.
pub record State : Type 0 where
  pub left : List ℕ
  pub free : List ℕ
  pub chosen : List Placement

unfoldable pub start : Compiled → State
start c = record { left = limits c; free = below (length c.cells); chosen = [] }

-- A placement is still possible if a copy of its kind is left and its cells are uncovered.
unfoldable pub possible : State → Placement → Bool
possible s q = ltb 0 (get_or s.left q.kind 0) && all (λ n. member n s.free) q.cells

unfoldable pub choose : State → Placement → State
choose s q =
    record {
      left = set s.left q.kind (get_or s.left q.kind 0 - 1);
      free = keep (λ n. not (member n q.cells)) s.free;
      chosen = put ahead q s.chosen;
    }

-- A search tries an engine's choices at a state one after the other; with no uncovered cell left it has a packing. Each choice covers a cell, so the
-- number of cells is fuel enough.
unfoldable pub search : (State → List Placement) → ℕ → State → List (List Placement)
search choices zero s = cond (is_empty s.free) (s.chosen ∷ []) []
search choices (suc fuel) s =
    let deeper = each (choices s) (λ q. search choices fuel (choose s q)) in
    cond (is_empty s.free) (s.chosen ∷ []) deeper

-- Fast covers the first uncovered cell: "smaller kind first, then smaller j". (A placement possible there that covers it has its origin on it.)
unfoldable pub fast_choices : List Placement → State → List Placement
fast_choices qs s = keep (λ q. any (eqb q.p) (take 1 s.free) && possible s q) qs

-- "The piece of merged kind 0 is placed first exactly if turned packings are identified, that kind has one copy, and all copies together have as many
-- cells as the board."
unfoldable pub identifies_turned : Identify → Bool
identifies_turned None = false
identifies_turned Turned = true
identifies_turned Mirrored = true

unfoldable pub sizes : Compiled → List ℕ
sizes c = map (λ d. sum d.shape.cells) c.kinds

unfoldable pub all_cells : Compiled → ℕ
all_cells c = sum (map (λ k. get_or (limits c) k 0 * get_or (sizes c) k 0) (below (length c.kinds)))

unfoldable pub kind0_first : Compiled → Identify → Bool
kind0_first c i = identifies_turned i && (eqb (get_or (limits c) 0 0) 1 && eqb (all_cells c) (length c.cells))

unfoldable pub fast_list : Compiled → Identify → List (List Placement)
fast_list c i =
    let n = length c.cells in
    let go = search (fast_choices c.placements) n in
    let first = keep (λ q. eqb q.kind 0) c.placements in
    let after = each first (λ q. go (choose (start c) q)) in
    let plain = go (start c) in
    cond (kind0_first c i) after plain

-- "Each step takes the uncovered cell with the fewest placements still possible, but at least one (of equals the first in scan order), and tries these
-- by kind, then (p, j)."
pub record Tally : Type 0 where
  pub placements : ℕ
  pub cell : ℕ

unfoldable pub tally_ahead : Tally → Tally → Bool
tally_ahead t u = less (t.placements ∷ t.cell ∷ []) (u.placements ∷ u.cell ∷ [])

unfoldable pub tallies : List Placement → List ℕ → List Tally
tallies qs free = keep (λ t. ltb 0 t.placements) (map (λ n. record { placements = how_many (λ q. member n q.cells) qs; cell = n }) free)

unfoldable pub knuth_choices : List Placement → State → List Placement
knuth_choices qs s =
    let ps = keep (possible s) qs in
    let fewest = take 1 (sort tally_ahead (tallies ps s.free)) in
    keep (λ q. any (λ t. member t.cell q.cells) fewest) ps

unfoldable pub knuth_list : Compiled → List (List Placement)
knuth_list c = search (knuth_choices c.placements) (length c.cells) (start c)

-- all packings in an engine's order; `Auto` and `Naive` are refused
unfoldable pub packings : Compiled → Identify → SolverKind → List (List Placement)
packings c i Auto = []
packings c i Naive = []
packings c i Fast = fast_list c i
packings c i KnuthAlgorithm = knuth_list c

-- the listed packings in the engine's order
unfoldable pub listed : Compiled → Identify → SolverKind → List (List Placement)
listed c i e = keep (kept c i) (packings c i e)

-- Fast's order as a comparison: "Where kind 0 is placed first, by that placement's (p, j). Then, at the first cell in scan order that two packings cover
-- by different placements, smaller kind first, then smaller j."
unfoldable pub fast_rank : Compiled → Identify → List Placement → List ℕ
fast_rank c i P =
    cond (kind0_first c i) (each (keep (λ q. eqb q.kind 0) P) (λ q. q.p ∷ q.j ∷ [])) [] ++
    each (below (length c.cells)) (λ n. each (keep (λ q. member n q.cells) P) (λ q. q.kind ∷ q.j ∷ []))

unfoldable pub fast_ahead : Compiled → Identify → List Placement → List Placement → Bool
fast_ahead c i P Q = less (fast_rank c i P) (fast_rank c i Q)
