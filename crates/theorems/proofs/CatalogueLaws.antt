-- The catalogue misses no piece and repeats none: one argument over the number of cells. Assumes nothing.
use Prim.Native.Nat.{ℕ, ◌+◌, ◌-◌, ◌≤◌}
use mathlib.Core.Bool.{Bool, not, ◌&&◌}
use mathlib.Core.List.Memᴰ
use mathlib.Core.List.{List, [], ◌∷◌, ◌++◌, map, Memᴰ}
use mathlib.Core.Path.{◌≡◌, refl, sym, ap, ◌∙◌, subst}
use mathlib.Core.Logic.{⊎_elim}
use native.Mathlib.Omega.{arith}
use lib.Dec.{T, leb, leb→le, le→leb, ltb, ltb→lt, eqb, eqb→eq}
use lib.ListN.{length}
use Rattle.lists.specs.Lists.{all, keep, each, is_empty, sum, below, less, ascending}
use Rattle.lists.proofs.TestLaws.{and_left, and_right, and_both, or_left, or_cases, holds}
use Rattle.lists.proofs.ListLaws.{all_at, keep_at, keep_of, keep_map, each_at, each_of, each_map}
use Rattle.lists.proofs.RangeLaws.{from_ascending}
use Rattle.lists.proofs.SortLaws.{less_after, less_under, less_level, keep_ascending, each_ascending, map_ascending}
use Rattle.definitions.specs.Grid.{Sides, Cell, Grid, InBox, box, volume, filled_cells, same_grid, grid_ahead, sides_then_cells}
use Rattle.definitions.specs.Maps.{Map, side, map_grid, turns}
use Rattle.definitions.specs.Kinds.{variants, smallest}
use Rattle.definitions.specs.Stripping.{corner, strip}
use Rattle.definitions.specs.EmptyLayers.{Stripped}
use Rattle.definitions.specs.Refusals.{are_bits, is_tight}
use Rattle.definitions.specs.Catalogue.{IsDrawn, IsPiece, OneTurned, hangs, cube, box_to, is_needed, boxes, bit_lists, is_smallest_piece, grid_in_box, in_box_of, catalogue, Catalogued, Roomy}
use Rattle.theorems.proofs.MapLaws.{turn_fits, filled_apart, filled_length, box_of}
use Rattle.theorems.proofs.GroupLaws.{same_grid→eq, same_grid_of}
use Rattle.theorems.proofs.CellLaws.{Tight, tight_of, tight_test, tight_mapped}
use Rattle.theorems.proofs.MoveLaws.{mapped_whole, mapped_bits}
use Rattle.theorems.proofs.ShapeLaws.{smallest_at, variant_at}
use Rattle.theorems.proofs.PartnerLaws.{smallest_turned, smallest_again}
use Rattle.theorems.proofs.SetDownLaws.{turned_variant}
use Rattle.theorems.proofs.KindLaws.{turned_onto}
use Rattle.theorems.proofs.StrippingLaws.{stripped_of, strip_count, sum_bits}
use Rattle.theorems.proofs.TogetherLaws.{sides_few}
use Rattle.theorems.proofs.HangsLaws.{hangs_of, hangs_at}
use Rattle.theorems.proofs.TurnedLaws.{together_turned, together_stripped}
use Rattle.theorems.proofs.SortedSidesLaws.{none_ahead, sides_sorted}
use Rattle.theorems.proofs.BitListLaws.{OfBits, bit_list_at, bit_list_of, bit_lists_ascend}

-- ---- pieces: turned, and stripped of empty layers
piece_turned : (n : ℕ) (m : Map) → Memᴰ m turns → (g : Grid) → IsPiece n g → IsPiece n (map_grid m g)
piece_turned n m k g p =
    record {
      drawn = record {
        whole = mapped_whole m g;
        bits = mapped_bits m g p.drawn.bits;
        count = filled_length m (turn_fits m k) g ∙ p.drawn.count;
        together = together_turned m k g p.drawn.together;
      };
      tight = tight_test (map_grid m g) (tight_mapped m (turn_fits m k) g (tight_of g p.tight));
    }

piece_smallest : (n : ℕ) (g : Grid) → IsPiece n g → IsPiece n (smallest g)
piece_smallest n g p = let r = smallest_at g in subst (IsPiece n) r.2 (piece_turned n r.0 r.1 g p)

piece_stripped : (n : ℕ) (g : Grid) → 1 ≤ n → IsDrawn n g → IsPiece n (strip g)
piece_stripped n g some d =
    record {
      drawn = record {
        whole = stripped.whole;
        bits = stripped.bits;
        count = strip_count g ∙ d.count;
        together = together_stripped g (strip g) (corner g) stripped d.together;
      };
      tight = stripped.tight;
    }
  where
    not_none : (us : List Cell) → length us ≡ n → T (not (is_empty us))
    not_none [] e = absurd (omega arith)
    not_none (u ∷ us) e = tt

    stripped : Stripped g (strip g) (corner g)
    stripped = stripped_of g d.bits (not_none (filled_cells g) d.count)

-- ---- the boxes that are walked
pub record Needed (n : ℕ) (s : Sides) : Type 0 where
  pub some : (1 ≤ s.a) × (1 ≤ s.b) × (1 ≤ s.c)
  pub few : s.a + s.b + s.c ≤ n + 2
  pub sorted : (s.a ≤ s.b) × (s.b ≤ s.c)

pub needed_at : (n : ℕ) (s : Sides) → Memᴰ s (boxes n) → Needed n s
unfolding boxes is_needed
needed_at n s m =
    let r = keep_at (is_needed n) (map box_to (box (cube n))) m in
    let u = Memᴰ.of_map box_to (box (cube n)) r.0 in
    let x = ap (λ (t : Sides). t.a) u.2 in
    let y = ap (λ (t : Sides). t.b) u.2 in
    let z = ap (λ (t : Sides). t.c) u.2 in
    let q = and_right (leb (s.a + s.b + s.c) (n + 2)) (leb s.a s.b && leb s.b s.c) r.1 in
    record {
      some = (omega arith, omega arith, omega arith);
      few = leb→le (s.a + s.b + s.c) (n + 2) (and_left (leb (s.a + s.b + s.c) (n + 2)) (leb s.a s.b && leb s.b s.c) r.1);
      sorted = (leb→le s.a s.b (and_left (leb s.a s.b) (leb s.b s.c) q), leb→le s.b s.c (and_right (leb s.a s.b) (leb s.b s.c) q));
    }

needed_of : (n : ℕ) (s : Sides) → Needed n s → Memᴰ s (boxes n)
unfolding boxes is_needed
needed_of n s h = keep_of (is_needed n) (map box_to (box (cube n))) (Memᴰ.cast there (Memᴰ.map box_to (box_of (cube n) last (inside.0, inside.1, inside.2)))) tests
  where
    last : Cell
    last = record { x = s.a - 1; y = s.b - 1; z = s.c - 1 }

    inside : InBox (cube n) last
    inside = (omega arith, omega arith, omega arith)

    back : (n : ℕ) → 1 ≤ n → n ≡ n - 1 + 1
    back n k = omega arith

    there : s ≡ box_to last
    there = λ i. record { a = back s.a h.some.0 i; b = back s.b h.some.1 i; c = back s.c h.some.2 i }

    tests : T (leb (s.a + s.b + s.c) (n + 2) && (leb s.a s.b && leb s.b s.c))
    tests =
        and_both (leb (s.a + s.b + s.c) (n + 2)) (leb s.a s.b && leb s.b s.c) (le→leb (s.a + s.b + s.c) (n + 2) h.few)
        (and_both (leb s.a s.b) (leb s.b s.c) (le→leb s.a s.b h.sorted.0) (le→leb s.b s.c h.sorted.1))

-- ---- a piece that is its smallest turned grid is an entry, and each entry is one
in_needed : (n : ℕ) (g : Grid) → IsPiece n g → smallest g ≡ g → Needed n g.sides
unfolding side
in_needed n g p e =
    record {
      some = (some 0, some 1, some 2);
      few = let l = sides_few g tight p.drawn.together in let c = p.drawn.count in omega arith;
      sorted = sides_sorted g p.drawn.bits p.drawn.whole e;
    }
  where
    tight : Tight g
    tight = tight_of g p.tight

    some : (i : ℕ) → 1 ≤ side g.sides i
    some i = let e = (tight.high i).2 in omega arith

entry_of : (n : ℕ) (g : Grid) → IsPiece n g → smallest g ≡ g → Memᴰ g (catalogue n)
unfolding catalogue in_box_of is_smallest_piece are_bits
entry_of n g p e =
    each_of (in_box_of n) (boxes n) (needed_of n g.sides (in_needed n g p e))
    (keep_of is_smallest_piece (map (grid_in_box g.sides) (bit_lists (volume g.sides) n)) (Memᴰ.map (grid_in_box g.sides) listed)
    (and_both (is_tight g) (hangs (filled_cells g) && same_grid (smallest g) g) p.tight
    (and_both (hangs (filled_cells g)) (same_grid (smallest g) g) (hangs_of (filled_cells g) (filled_apart g) p.drawn.together) (same_grid_of e))))
  where
    listed : Memᴰ g.cells (bit_lists (volume g.sides) n)
    listed =
        subst (λ (v : ℕ). Memᴰ g.cells (bit_lists v n)) p.drawn.whole
        (subst (λ (k : ℕ). Memᴰ g.cells (bit_lists (length g.cells) k)) (sum_bits g p.drawn.bits p.drawn.whole ∙ p.drawn.count) (bit_list_of g.cells p.drawn.bits))

-- an entry: its sides are those of a box that is walked, it is a piece, and its smallest turned grid
pub record Entry (n : ℕ) (g : Grid) : Type 0 where
  pub walked : Memᴰ g.sides (boxes n)
  pub piece : IsPiece n g
  pub small : smallest g ≡ g

in_box_at : (n : ℕ) (s : Sides) (g : Grid) → Memᴰ g (in_box_of n s)
    → (bits : List ℕ) × Memᴰ bits (bit_lists (volume s) n) × (grid_in_box s bits ≡ g) × T (is_smallest_piece g)
unfolding in_box_of
in_box_at n s g m =
    let k = keep_at is_smallest_piece (map (grid_in_box s) (bit_lists (volume s) n)) m in
    let b = Memᴰ.of_map (grid_in_box s) (bit_lists (volume s) n) k.0 in
    (b.0, b.1, b.2, k.1)

pub entry_at : (n : ℕ) (g : Grid) → Memᴰ g (catalogue n) → Entry n g
unfolding catalogue is_smallest_piece are_bits
entry_at n g m =
    let r = each_at (in_box_of n) (boxes n) m in
    let x = in_box_at n r.0 g r.2 in
    made r.0 r.1 x.0 (bit_list_at (volume r.0) n x.0 x.1) x.2 x.3
  where
    made : (s : Sides) → Memᴰ s (boxes n) → (bits : List ℕ) → OfBits (volume s) n bits → grid_in_box s bits ≡ g → T (is_smallest_piece g) → Entry n g
    made s k bits o e t =
        let w : length g.cells ≡ volume g.sides = subst (λ (h : Grid). length h.cells ≡ volume h.sides) e o.long in
        let b : T (are_bits g) = subst (λ (h : Grid). T (are_bits h)) e o.are_bits in
        let q = and_right (is_tight g) (hangs (filled_cells g) && same_grid (smallest g) g) t in
        record {
          walked = subst (λ (h : Grid). Memᴰ h.sides (boxes n)) e k;
          piece = record {
            drawn = record {
              whole = w;
              bits = b;
              count = sym (sum_bits g b w) ∙ subst (λ (h : Grid). sum h.cells ≡ n) e o.ones;
              together = hangs_at (filled_cells g) (filled_apart g) (and_left (hangs (filled_cells g)) (same_grid (smallest g) g) q);
            };
            tight = and_left (is_tight g) (hangs (filled_cells g) && same_grid (smallest g) g) t;
          };
          small = same_grid→eq (smallest g) g (and_right (hangs (filled_cells g)) (same_grid (smallest g) g) q);
        }

-- ---- in order
-- the cells of a box ascend by x, y and z
numbers_of : Cell → List ℕ
numbers_of u = u.x ∷ u.y ∷ u.z ∷ []

cell_before : Cell → Cell → Bool
cell_before u v = less (numbers_of u) (numbers_of v)

box_ascends : (s : Sides) → T (ascending cell_before (box s))
unfolding box cell_before numbers_of
box_ascends s =
    each_ascending ltb cell_before plane (below s.a) (from_ascending 0 s.a)
    (λ i m. each_ascending ltb cell_before (row i) (below s.b) (from_ascending 0 s.b)
    (λ j k. map_ascending ltb cell_before (cell i j) (below s.c) (from_ascending 0 s.c) (λ x y p q t. less_after (i ∷ j ∷ []) (x ∷ []) (y ∷ []) (first x y [] [] t)))
    (λ j j' k k' t u v p q.
    let x = Memᴰ.of_map (cell i j) (below s.c) p in
    let y = Memᴰ.of_map (cell i j') (below s.c) q in
    subst (λ (w : Cell). T (cell_before w v)) x.2
    (subst (λ (w : Cell). T (cell_before (cell i j x.0) w)) y.2 (less_after (i ∷ []) (j ∷ x.0 ∷ []) (j' ∷ y.0 ∷ []) (first j j' (x.0 ∷ []) (y.0 ∷ []) t)))))
    (λ i i' m m' t u v p q.
    subst (λ (k : ℕ). T (less (k ∷ u.y ∷ u.z ∷ []) (numbers_of v))) (in_plane i u p)
    (subst (λ (k : ℕ). T (less (i ∷ u.y ∷ u.z ∷ []) (k ∷ v.y ∷ v.z ∷ []))) (in_plane i' v q) (first i i' (u.y ∷ u.z ∷ []) (v.y ∷ v.z ∷ []) t)))
  where
    cell : ℕ → ℕ → ℕ → Cell
    cell i j k = record { x = i; y = j; z = k }

    row : ℕ → ℕ → List Cell
    row i j = map (cell i j) (below s.c)

    plane : ℕ → List Cell
    plane i = each (below s.b) (row i)

    in_plane : (i : ℕ) (u : Cell) → Memᴰ u (plane i) → i ≡ u.x
    in_plane i u m =
        let r = each_at (row i) (below s.b) m in
        let k = Memᴰ.of_map (cell i r.0) (below s.c) r.2 in
        ap (λ (w : Cell). w.x) k.2

    first : (x y : ℕ) (xs ys : List ℕ) → T (ltb x y) → T (less (x ∷ xs) (y ∷ ys))
    first x y xs ys t = or_left (ltb x y) (eqb x y && less xs ys) t

-- lists of one length decide, each number one larger, whatever follows
one_larger : List ℕ → List ℕ
one_larger ns = map (λ n. n + 1) ns

decided : (xs ys us vs : List ℕ) → length xs ≡ length ys → T (less xs ys) → T (less (one_larger xs ++ us) (one_larger ys ++ vs))
unfolding one_larger
decided [] [] us vs e t = absurd t
decided [] (y ∷ ys) us vs e t = absurd (omega arith)
decided (x ∷ xs) [] us vs e t = absurd t
decided (x ∷ xs) (y ∷ ys) us vs e t =
    ⊎_elim (λ l. let h = ltb→lt x y l in holds _ (less_under (x + 1) (y + 1) (one_larger xs ++ us) (one_larger ys ++ vs) (omega arith)))
    (λ l.
    let h = eqb→eq x y (and_left (eqb x y) (less xs ys) l) in
    subst T (sym (less_level (x + 1) (y + 1) (one_larger xs ++ us) (one_larger ys ++ vs) (omega arith)))
    (decided xs ys us vs (omega arith) (and_right (eqb x y) (less xs ys) l)))
    (or_cases (ltb x y) (eqb x y && less xs ys) t)

-- the list, by the last cells of the boxes that are walked
by_last_cells : (n : ℕ) → catalogue n ≡ each (keep (λ u. is_needed n (box_to u)) (box (cube n))) (λ u. in_box_of n (box_to u))
unfolding catalogue boxes
by_last_cells n =
    ap (λ (ss : List Sides). each ss (in_box_of n)) (keep_map box_to (is_needed n) (box (cube n)))
    ∙ each_map box_to (in_box_of n) (keep (λ u. is_needed n (box_to u)) (box (cube n)))

in_box_ascends : (n : ℕ) (s : Sides) → T (ascending grid_ahead (in_box_of n s))
unfolding in_box_of grid_ahead sides_then_cells
in_box_ascends n s =
    keep_ascending grid_ahead is_smallest_piece (map (grid_in_box s) (bit_lists (volume s) n))
    (map_ascending less grid_ahead (grid_in_box s) (bit_lists (volume s) n) (bit_lists_ascend (volume s) n) (λ x y m k t. less_after (s.a ∷ s.b ∷ s.c ∷ []) x y t))

-- grids in boxes one after the other
boxes_decide : (n : ℕ) (u v : Cell) → T (cell_before u v) → (g h : Grid)
    → Memᴰ g (in_box_of n (box_to u)) → Memᴰ h (in_box_of n (box_to v)) → T (grid_ahead g h)
unfolding cell_before numbers_of one_larger grid_ahead sides_then_cells
boxes_decide n u v t g h m k =
    let x = in_box_at n (box_to u) g m in
    let y = in_box_at n (box_to v) h k in
    subst (λ (j : Grid). T (grid_ahead j h)) x.2
    (subst (λ (j : Grid). T (grid_ahead (grid_in_box (box_to u) x.0) j)) y.2 (decided (numbers_of u) (numbers_of v) x.0 y.0 refl t))

catalogue_ascends : (n : ℕ) → T (ascending grid_ahead (catalogue n))
catalogue_ascends n =
    subst (λ (gs : List Grid). T (ascending grid_ahead gs)) (sym (by_last_cells n))
    (each_ascending cell_before grid_ahead (λ u. in_box_of n (box_to u)) (keep (λ u. is_needed n (box_to u)) (box (cube n)))
    (keep_ascending cell_before (λ u. is_needed n (box_to u)) (box (cube n)) (box_ascends (cube n)))
    (λ u m. in_box_ascends n (box_to u)) (λ u v m k t g h p q. boxes_decide n u v t g h p q))

-- ---- each piece once
one_turned : (n : ℕ) (g : Grid) → IsPiece n g → OneTurned (catalogue n) g
one_turned n g p =
    record {
      entry = smallest g;
      is_listed = entry_of n (smallest g) (piece_smallest n g p) (smallest_again g p.drawn.whole);
      is_turned = let r = smallest_at g in turned_onto g p.drawn.bits p.drawn.whole r.0 (smallest g) r.1 r.2;
      is_only = λ h m t.
          let r = variant_at g h (subst (λ (k : Grid). Memᴰ k (variants g)) t.equal (turned_variant g p.drawn.bits p.drawn.whole t.moves t.by_turns)) in
          sym (entry_at n h m).small ∙ ap smallest (sym r.2) ∙ smallest_turned r.0 r.1 g p.drawn.whole;
    }

pub catalogued : Catalogued
unfolding Catalogued
catalogued n some =
    record {
      only_pieces = λ g m. (entry_at n g m).piece;
      is_smallest = λ g h m r t. let x = entry_at n g m in none_ahead g x.piece.drawn.bits x.piece.drawn.whole x.small h r t;
      ascend = catalogue_ascends n;
      exactly_one = one_turned n;
      however_drawn = λ g d. one_turned n (strip g) (piece_stripped n g some d);
    }

-- ---- an entry has room for its cells: a box that is walked has 18 at most
room_test : T (all (λ s. leb (volume s) 18) (boxes 6))
unfolding boxes is_needed box volume
room_test = tt

pub few_cells : (n : ℕ) → n ≤ 6 → (s : Sides) → Memᴰ s (boxes n) → volume s ≤ 18
few_cells n few s m =
    let h = needed_at n s m in
    let l = h.few in
    leb→le (volume s) 18 (all_at (λ t. leb (volume t) 18) (boxes 6) room_test (needed_of 6 s (record { some = h.some; few = omega arith; sorted = h.sorted })))

pub roomy : Roomy
unfolding Roomy
roomy n few g m = few_cells n few g.sides (entry_at n g m).walked
