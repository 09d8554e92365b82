-- What hangs together still does when it is turned, and when empty outer layers are stripped from it: each moves cells that share a face to
-- cells that share a face. Assumes nothing.
use Prim.Native.Nat.{ℕ, ◌+◌, ◌-◌, ◌*◌, ◌<◌}
use mathlib.Core.Bool.{Bool, true, false, cond, ◌&&◌}
use mathlib.Core.List.Memᴰ
use mathlib.Core.List.{List, [], ◌∷◌, Memᴰ}
use mathlib.Core.Path.{◌≡◌, refl, sym, ap, ◌∙◌, subst}
use native.Mathlib.Nat.{one-mul}
use native.Mathlib.Omega.{arith}
use lib.Dec.{T, ltb, ltb→lt, eqb, eqb→eq}
use Rattle.lists.specs.Lists.{all, any, below, how_many}
use Rattle.lists.proofs.TestLaws.{and_left, and_right, and_both}
use Rattle.lists.proofs.ListLaws.{all_at}
use Rattle.lists.proofs.CountLaws.{total, total_same, by_key}
use Rattle.definitions.specs.Grid.{Sides, Cell, Grid, InBox, set_down, same_cell, filled_cells}
use Rattle.definitions.specs.Maps.{Map, side, coordinate, from_end, map_sides, map_cell, map_grid, inverse, turns, transform, permutations, parity}
use Rattle.definitions.specs.Catalogue.{difference, touches, is_path, HangsTogether}
use Rattle.definitions.specs.EmptyLayers.{Stripped}
use Rattle.theorems.proofs.MapLaws.{turn_fits, filled_at, filled_there, filled_back, mapped_sides}
use Rattle.theorems.proofs.GroupLaws.{coordinate_below}
use Rattle.theorems.proofs.WellMadeLaws.{same_cell→eq, same_cell_refl}
use Rattle.theorems.proofs.SetDownLaws.{on-board, is_on_board}
use Rattle.theorems.proofs.StrippedLaws.{set_down_one}
use Rattle.theorems.proofs.TogetherLaws.{touching, touches_of}

-- ---- cells us that hang together, moved
-- Each cell u of us goes to one cell v of vs, and all of vs are reached.
record Moved (us vs : List Cell) (To : Cell → Cell → Type 0) : Type 0 where
  there : (u : Cell) → Memᴰ u us → (v : Cell) × Memᴰ v vs × To u v
  back : (v : Cell) → Memᴰ v vs → (u : Cell) × Memᴰ u us × To u v
  one : (u v w : Cell) → To u v → To u w → v ≡ w
  face : (u v u' v' : Cell) → Memᴰ u us → Memᴰ v us → To u u' → To v v' → T (touches u v) → T (touches u' v')

module _ (us vs : List Cell) (To : Cell → Cell → Type 0) (moved : Moved us vs To) where
  path_moved : (u : Cell) (ws : List Cell) (v u' v' : Cell) → Memᴰ u us → To u u' → To v v' → T (is_path us u ws v) → (ws' : List Cell) × T (is_path vs u' ws' v')
  path_moved u [] v u' v' m a b p =
      ([], subst (λ (z : Cell). T (same_cell u' z)) (moved.one v u' v' (subst (λ (z : Cell). To z u') (same_cell→eq u v p) a) b) (same_cell_refl u'))
  path_moved u (w ∷ ws) v u' v' m a b p =
      let q = and_right (touches u w) (any (same_cell w) us && is_path us w ws v) p in
      let k = on-board us w (and_left (any (same_cell w) us) (is_path us w ws v) q) in
      let x = moved.there w k in
      let r = path_moved w ws v x.0 v' k x.2 b (and_right (any (same_cell w) us) (is_path us w ws v) q) in (
        x.0 ∷ r.0,
        and_both (touches u' x.0) (any (same_cell x.0) vs && is_path vs x.0 r.0 v') (moved.face u w u' x.0 m k a x.2 (and_left (touches u w) (any (same_cell w) us && is_path us w ws v) p))
            (and_both (any (same_cell x.0) vs) (is_path vs x.0 r.0 v') (is_on_board vs x.0 x.1) r.1),
      )

  together_moved : HangsTogether us → HangsTogether vs
  together_moved h u v m k =
      let x = moved.back u m in
      let y = moved.back v k in
      let p = h x.0 y.0 x.1 y.1 in
      path_moved x.0 p.0 y.0 u v x.1 x.2 y.2 p.1

-- ---- a turn
gap_end : (f n i j : ℕ) → i < n → j < n → difference (from_end f n i) (from_end f n j) ≡ difference i j
unfolding from_end
gap_end f n i j h k = go (eqb f 0)
  where
    go : (b : Bool) → difference (cond b i (n - 1 - i)) (cond b j (n - 1 - j)) ≡ difference i j
    go true = refl
    go false = omega arith

-- a turn has each axis once
axes_of : Map → List ℕ
axes_of m = m.axis_x ∷ m.axis_y ∷ m.axis_z ∷ []

are_axes : List ℕ → Bool
are_axes ns = all (λ i. ltb i 3) ns && all (λ k. eqb (how_many (λ i. eqb i k) ns) 1) (below 3)

turns_axes : T (all (λ m. are_axes (axes_of m)) turns)
unfolding are_axes axes_of turns transform permutations parity
turns_axes = tt

-- a sum over 0, 1 and 2 in any order
sum_axes : (ns : List ℕ) → T (are_axes ns) → (f : ℕ → ℕ) → total f ns ≡ f 0 + f 1 + f 2
unfolding are_axes
sum_axes ns t f =
    by_key (λ i. i) f 3 ns (λ i j. ltb→lt i 3 (all_at (λ n. ltb n 3) ns (and_left (all (λ n. ltb n 3) ns) _ t) j))
    ∙ total_same (λ k. how_many (λ i. eqb i k) ns * f k) f (below 3) (λ k j. ap (λ (c : ℕ). c * f k) (once k j) ∙ one-mul (f k)) ∙ omega arith
  where
    once : (k : ℕ) → Memᴰ k (below 3) → how_many (λ i. eqb i k) ns ≡ 1
    once k j = eqb→eq (how_many (λ i. eqb i k) ns) 1 (all_at (λ c. eqb (how_many (λ i. eqb i c) ns) 1) (below 3) (and_right (all (λ n. ltb n 3) ns) _ t) j)

module _ (m : Map) (k : Memᴰ m turns) where
  over_axes : (f : ℕ → ℕ) → f m.axis_x + f m.axis_y + f m.axis_z ≡ f 0 + f 1 + f 2
  unfolding axes_of
  over_axes f = let e = sum_axes (axes_of m) (all_at (λ (n : Map). are_axes (axes_of n)) turns turns_axes k) f in omega arith

  face_turned : (s : Sides) (u v : Cell) → InBox s u → InBox s v → T (touches u v) → T (touches (map_cell m s u) (map_cell m s v))
  unfolding map_cell coordinate
  face_turned s u v a b t =
      touches_of (map_cell m s u) (map_cell m s v)
      (let p = at m.flip_x m.axis_x in let q = at m.flip_y m.axis_y in let r = at m.flip_z m.axis_z in let e = over_axes apart in let f = touching u v t in omega arith)
    where
      apart : ℕ → ℕ
      apart i = difference (coordinate u i) (coordinate v i)

      at : (f i : ℕ) → difference (from_end f (side s i) (coordinate u i)) (from_end f (side s i) (coordinate v i)) ≡ apart i
      at f i = gap_end f (side s i) (coordinate u i) (coordinate v i) (coordinate_below s u a i) (coordinate_below s v b i)

  pub together_turned : (g : Grid) → HangsTogether (filled_cells g) → HangsTogether (filled_cells (map_grid m g))
  together_turned g = together_moved (filled_cells g) (filled_cells (map_grid m g)) (λ u v. to u ≡ v) moved
    where
      to : Cell → Cell
      to u = map_cell m g.sides u

      moved : Moved (filled_cells g) (filled_cells (map_grid m g)) (λ u v. to u ≡ v)
      moved =
          record {
            there = λ u i. (to u, filled_there m (turn_fits m k) g u i, refl);
            back = λ v i. (
              map_cell (inverse m) (map_sides m g.sides) v,
              filled_back m (turn_fits m k) g v i,
              (turn_fits m k).there_back g.sides v (subst (λ (s : Sides). InBox s v) (mapped_sides m g) (filled_at (map_grid m g) v i).0),
            );
            one = λ u v w e f. sym e ∙ f;
            face = λ u v u' v' i j e f t.
                subst (λ (x : Cell). T (touches x v')) e
                (subst (λ (y : Cell). T (touches (to u) y)) f (face_turned g.sides u v (filled_at g u i).0 (filled_at g v j).0 t));
          }

-- ---- empty layers stripped
gap_beside : (n i j : ℕ) → difference (n + i) (n + j) ≡ difference i j
gap_beside n i j = omega arith

face_set : (at u v : Cell) → T (touches (set_down at u) (set_down at v)) → T (touches u v)
unfolding set_down coordinate
face_set at u v t =
    touches_of u v
    (let e = touching (set_down at u) (set_down at v) t in let x = gap_beside at.x u.x v.x in let y = gap_beside at.y u.y v.y in let z = gap_beside at.z u.z v.z in omega arith)

pub together_stripped : (g h : Grid) (at : Cell) → Stripped g h at → HangsTogether (filled_cells g) → HangsTogether (filled_cells h)
together_stripped g h at s = together_moved (filled_cells g) (filled_cells h) (λ u v. set_down at v ≡ u) moved
  where
    moved : Moved (filled_cells g) (filled_cells h) (λ u v. set_down at v ≡ u)
    moved =
        record {
          there = λ u i. Memᴰ.of_map (set_down at) (filled_cells h) (subst (λ (l : List Cell). Memᴰ u l) s.cells i);
          back = λ v i. (set_down at v, subst (λ (l : List Cell). Memᴰ (set_down at v) l) (sym s.cells) (Memᴰ.map (set_down at) i), refl);
          one = λ u v w e f. set_down_one at v w (e ∙ sym f);
          face = λ u v u' v' i j e f t.
              face_set at u' v' (subst (λ (x : Cell). T (touches x (set_down at v'))) (sym e) (subst (λ (y : Cell). T (touches u y)) (sym f) t));
        }
