-- Document 01, "Packing": "A set of placements that covers each filled board cell once, no other cell, and uses no kind beyond its copies."
-- (A placement's cells are filled board cells, so no other cell is covered.)
use Rattle.std.specs.Prelude.{ℕ, Bool, ◌&&◌, List, [], ◌∷◌, map, T, leb, eqb, length, get_or}
use Rattle.lists.specs.Lists.{all, any, how_many, below, member, same, less, ascending}
use Rattle.definitions.specs.Placements.{Placement, Compiled}

-- Placements are ordered by kind, then (p, j). A set of placements is an ascending list.
unfoldable pub rank : Placement → List ℕ
rank q = q.kind ∷ q.p ∷ q.j ∷ []

unfoldable pub ahead : Placement → Placement → Bool
ahead q r = less (rank q) (rank r)

unfoldable pub same_placement : Placement → Placement → Bool
same_placement q r = same (rank q) (rank r) && same q.cells r.cells

-- how many placements of a set cover a cell, how many are of a kind, and how many copies each kind has
unfoldable pub covering : List Placement → ℕ → ℕ
covering P n = how_many (λ q. member n q.cells) P

unfoldable pub used : List Placement → ℕ → ℕ
used P k = how_many (λ q. eqb q.kind k) P

unfoldable pub limits : Compiled → List ℕ
limits c = map (λ d. length d.copies) c.kinds

unfoldable pub placed : Compiled → List Placement → Bool
placed c P = all (λ q. any (same_placement q) c.placements) P

unfoldable pub covers_once : Compiled → List Placement → Bool
covers_once c P = all (λ n. eqb (covering P n) 1) (below (length c.cells))

unfoldable pub within_copies : Compiled → List Placement → Bool
within_copies c P = all (λ k. leb (used P k) (get_or (limits c) k 0)) (below (length c.kinds))

pub record Packing (c : Compiled) (P : List Placement) : Type 0 where
  pub a_set : T (ascending ahead P)
  pub of_placements : T (placed c P)
  pub covers : T (covers_once c P)
  pub within : T (within_copies c P)

-- the same as one test
unfoldable pub is_packing : Compiled → List Placement → Bool
is_packing c P = ascending ahead P && (placed c P && (covers_once c P && within_copies c P))
