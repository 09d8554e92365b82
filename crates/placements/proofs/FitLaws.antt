-- The fit test from the last filled cell to the first: where it stops. Assumes nothing.
use Prim.Native.Nat.{ℕ, ◌+◌, ◌-◌, ◌≤◌, ◌<◌}
use Rattle.std.specs.Prelude.{◌%◌}
use mathlib.Core.Bool.{Bool, true, false, cond, not, ◌&&◌}
use mathlib.Core.List.Memᴰ
use mathlib.Core.List.{List, [], ◌∷◌, ◌++◌, map, Memᴰ, map-append}
use mathlib.Core.Path.{◌≡◌, refl, sym, ap, ap₂, ◌∙◌, subst}
use mathlib.Core.Logic.{◌⊎◌, inl, inr}
use native.Mathlib.Omega.{arith}
use lib.Dec.{T, eqb, leb, le→leb}
use lib.ListN.{length, get_or}
use Rattle.std.specs.List.{last_or}
use Rattle.std.proofs.Common.{Option, None, Some}
use Rattle.lists.specs.Lists.{all, any, keep, cons_if, from, below}
use Rattle.lists.proofs.TestLaws.{and_both, and_right, and_true, is_true, is_false, holds, clash, eqb_same, not_both, lt_or_ge}
use Rattle.lists.proofs.ListLaws.{all_at, all_of, all_same, any_at, any_same, keep_none, keep_append, keep_map}
use Rattle.lists.proofs.RangeLaws.{below_at, below_of, from_at, below_split, from_next}
use Rattle.definitions.specs.Grid.{Cell, Grid, InBox, filled_cells, same_cell, set_down}
use Rattle.theorems.proofs.MapLaws.{filled_at}
use Rattle.shape.specs.Coords.{ShortSides}
use Rattle.definitions.specs.Maps.{coordinate}
use Rattle.definitions.specs.Refusals.{is_tight}
use Rattle.definitions.specs.Placements.{reaches, lies}
use Rattle.theorems.proofs.WellMadeLaws.{same_cell→eq}
use Rattle.theorems.proofs.CellLaws.{tight_of}
use Rattle.placements.specs.declared.poses.Pose.{Pose}
use Rattle.placements.specs.Poses.{cell_of, cells_in, origin_in}
use Rattle.placements.specs.Fitting.{fits_on, fits_pose, lies_on, off_board, stop_of}
use Rattle.placements.proofs.PoseLaws.{cells_numbered}
use Rattle.placements.proofs.FittingLaws.{reach_parts}

-- ---- where a cell lies
pub reach_of : (v o : Cell) → o.x ≤ v.x → o.y ≤ v.y → o.z ≤ v.z → T (reaches v o)
unfolding reaches
reach_of v o a b c =
    and_both (leb o.x v.x && leb o.y v.y) (leb o.z v.z) (and_both (leb o.x v.x) (leb o.y v.y) (le→leb o.x v.x a) (le→leb o.y v.y b))
    (le→leb o.z v.z c)

three : {a b c d e f : Bool} → a ≡ d → b ≡ e → c ≡ f → (a && b && c) ≡ (d && e && f)
three p q r = ap₂ (λ (x y : Bool). x && y) (ap₂ (λ (x y : Bool). x && y) p q) r

-- a difference that wraps around, and that it is a number below 8 only where no larger one is taken off
abbrev pub wrapped : ℕ → ℕ → ℕ
wrapped n m = (n + (18446744073709551616 - m)) % 18446744073709551616

wraps_to : (n m k : ℕ) → n ≤ 1030 → m ≤ 1023 → k ≤ 7 → eqb (wrapped n m) k ≡ eqb n (m + k)
wraps_to n m k a b c = eqb_same (wrapped n m) k n (m + k) (λ e. omega arith) (λ e. omega arith)

pub lies_wrapped : (g : Grid) → ShortSides g.sides → (v o u : Cell) → InBox g.sides v → (o.x ≤ 1023) × (o.y ≤ 7) × (o.z ≤ 7)
    → (u.x ≤ 1023) × (u.y ≤ 7) × (u.z ≤ 7)
    → any (same_cell (record { x = wrapped (v.x + u.x) o.x; y = wrapped (v.y + u.y) o.y; z = wrapped (v.z + u.z) o.z })) (filled_cells g) ≡ lies_on g v o u
unfolding lies_on same_cell set_down
lies_wrapped g short v o u inside small-o small-u =
    any_same _ _ (filled_cells g) (λ w m. let there = (filled_at g w m).0 in three
    (wraps_to (v.x + u.x) o.x w.x (omega (arith, inside.0, short.a, small-u.0)) small-o.0 (omega (arith, there.0, short.a)))
    (wraps_to (v.y + u.y) o.y w.y (omega (arith, inside.1, short.b, small-u.1)) (omega (arith, small-o.1)) (omega (arith, there.1, short.b)))
    (wraps_to (v.z + u.z) o.z w.z (omega (arith, inside.2, short.c, small-u.2)) (omega (arith, small-o.2)) (omega (arith, there.2, short.c))))

-- a cell that lies on a filled cell does not fall before the corner
on_reach : (g : Grid) (v o u : Cell) → T (lies_on g v o u) → (o.x ≤ v.x + u.x) × (o.y ≤ v.y + u.y) × (o.z ≤ v.z + u.z)
unfolding lies_on set_down
on_reach g v o u t =
    let r = any_at (λ w. same_cell (set_down v u) (set_down o w)) (filled_cells g) t in
    let e = same_cell→eq (set_down v u) (set_down o r.0) r.2 in
    let x = ap (λ (c : Cell). c.x) e in
    let y = ap (λ (c : Cell). c.y) e in
    let z = ap (λ (c : Cell). c.z) e in
    (omega arith, omega arith, omega arith)

-- where the origin reaches no further than its cell, the cells lie as `lies` has it
lands_on : (g : Grid) (v o u : Cell) → T (reaches v o) → any (same_cell (lies v o u)) (filled_cells g) ≡ lies_on g v o u
unfolding lies_on lies same_cell set_down
lands_on g v o u t =
    let r = reach_parts v o t in
    any_same _ _ (filled_cells g) (λ w m. three (at v.x o.x u.x w.x r.0) (at v.y o.y u.y w.y r.1) (at v.z o.z u.z w.z r.2))
  where
    at : (n m k l : ℕ) → m ≤ n → eqb (n - m + k) l ≡ eqb (n + k) (m + l)
    at n m k l h = eqb_same (n - m + k) l (n + k) (m + l) (λ e. omega arith) (λ e. omega arith)

and_same : (a b c : Bool) → (T a → b ≡ c) → (a && b) ≡ (a && c)
and_same true b c f = f tt
and_same false b c f = refl

-- the test by sums is the fit test
pub fits_by : (g : Grid) (v o : Cell) (us : List Cell) → fits_on g v o us ≡ (reaches v o && all (lies_on g v o) us)
unfolding fits_on
fits_by g v o us = and_same (reaches v o) _ _ (λ t. all_same _ (lies_on g v o) us (λ u m. lands_on g v o u t))

-- ---- the last of a list
last_end : (o : Option Cell) (x : Cell) (xs : List Cell) → last_or o (xs ++ (x ∷ [])) ≡ Some x
last_end o x [] = refl
last_end o x (y ∷ ys) = last_end (Some y) x ys

-- ---- the test of a pose
abbrev pub cell : Pose → ℕ → Cell
cell pose k = cell_of (get_or pose.codes k 0)

-- the cells from k on lie on filled cells
pub record OnFrom (g : Grid) (v : Cell) (pose : Pose) (k : ℕ) : Type 0 where
  pub on : (i : ℕ) → k ≤ i → i < pose.size → T (lies_on g v (origin_in pose) (cell pose i))

pub on_none : (g : Grid) (v : Cell) (pose : Pose) → OnFrom g v pose pose.size
on_none g v pose = record { on = λ i h k. absurd (omega arith) }

module _ (g : Grid) (v : Cell) (pose : Pose) where
  pub on_next : (k : ℕ) → 0 < k → OnFrom g v pose k → (u o : Cell) → u ≡ cell pose (k - 1) → o ≡ origin_in pose → (b : Bool) → b ≡ lies_on g v o u → b ≡ true
      → OnFrom g v pose (k - 1)
  on_next k some f u o d e b is t = record { on = λ i h l. go i l (lt_or_ge i k) h }
    where
      here : T (lies_on g v (origin_in pose) (cell pose (k - 1)))
      here = holds _ (ap₂ (lies_on g v) (sym e) (sym d) ∙ sym is ∙ t)

      go : (i : ℕ) → i < pose.size → (i < k) ⊎ (k ≤ i) → k - 1 ≤ i → T (lies_on g v (origin_in pose) (cell pose i))
      go i l (inl a) h = let same : k - 1 ≡ i = omega arith in subst (λ (j : ℕ). T (lies_on g v (origin_in pose) (cell pose j))) same here
      go i l (inr a) h = f.on i a l

  module _ (room : pose.size ≤ length pose.codes) where
    abbrev off : Cell → Bool
    off u = not (lies_on g v (origin_in pose) u)

    off_is : off_board g v (origin_in pose) (cells_in pose) ≡ map (cell pose) (keep (λ k. off (cell pose k)) (below pose.size))
    unfolding off_board
    off_is = ap (keep off) (cells_numbered pose room) ∙ keep_map (cell pose) off (below pose.size)

    -- all lie on filled cells
    pub none_off : OnFrom g v pose 0 → off_board g v (origin_in pose) (cells_in pose) ≡ []
    none_off f =
        off_is ∙ ap (map (cell pose)) (keep_none (λ k. off (cell pose k)) (below pose.size)
        (λ i m t. clash (lies_on g v (origin_in pose) (cell pose i)) (f.on i (omega arith) (below_at pose.size m)) t))

    all_on : OnFrom g v pose 0 → T (all (lies_on g v (origin_in pose)) (cells_in pose))
    all_on f =
        subst (λ (us : List Cell). T (all (lies_on g v (origin_in pose)) us)) (sym (cells_numbered pose room))
        (all_of _ (map (cell pose) (below pose.size)) (λ u m. let r = Memᴰ.of_map (cell pose) (below pose.size) m in
        subst (λ (w : Cell). T (lies_on g v (origin_in pose) w)) r.2 (f.on r.0 (omega arith) (below_at pose.size r.1))))

    -- cell k does not, and those behind it do
    module _ (k : ℕ) (h : k < pose.size) (f : OnFrom g v pose (k + 1)) (no : lies_on g v (origin_in pose) (cell pose k) ≡ false) where
      front : List Cell
      front = map (cell pose) (keep (λ i. off (cell pose i)) (below k))

      last_off : off_board g v (origin_in pose) (cells_in pose) ≡ front ++ (cell pose k ∷ [])
      unfolding front
      last_off =
          let p = λ (i : ℕ). off (cell pose i) in
          off_is
          ∙ ap (λ (l : List ℕ). map (cell pose) (keep p l)) (below_split k pose.size (omega arith))
          ∙ ap (λ (l : List ℕ). map (cell pose) (keep p (below k ++ l))) (from_next k pose.size h)
          ∙ ap (map (cell pose)) (keep_append p (below k) (k ∷ from (k + 1) (pose.size - (k + 1)))
          ∙ ap (λ (l : List ℕ). keep p (below k) ++ l)
          (ap₂ (λ (b : Bool) (l : List ℕ). cons_if b k l) (ap not no)
          (keep_none p (from (k + 1) (pose.size - (k + 1))) (λ i m t. let r = from_at (k + 1) (pose.size - (k + 1)) m in
          clash (lies_on g v (origin_in pose) (cell pose i)) (f.on i r.0 (omega arith)) t))))
          ∙ map-append (cell pose) (keep p (below k)) (k ∷ [])

      pub not_all : fits_pose g v pose ≡ false
      unfolding fits_pose
      not_all =
          fits_by g v (origin_in pose) (cells_in pose)
          ∙ is_false _ (λ t.
          let m = Memᴰ.map (cell pose) (below_of pose.size h) in
          let a = all_at (lies_on g v (origin_in pose)) (map (cell pose) (below pose.size))
          (subst (λ (us : List Cell). T (all (lies_on g v (origin_in pose)) us)) (cells_numbered pose room) (and_right (reaches v (origin_in pose)) _ t)) m in
          not_both _ (is_true _ a) no)

      pub stops_there : Some (cell pose k) ≡ stop_of g v pose
      unfolding stop_of
      stops_there =
          sym (ap (λ (b : Bool). cond b None (last_or (Some (origin_in pose)) (off_board g v (origin_in pose) (cells_in pose)))) not_all
          ∙ ap (last_or (Some (origin_in pose))) last_off
          ∙ last_end (Some (origin_in pose)) (cell pose k) front)

      pub stops_last : Some (cell pose k) ≡ last_or None (off_board g v (origin_in pose) (cells_in pose))
      stops_last = sym (ap (last_or None) last_off ∙ last_end None (cell pose k) front)

    -- no cell is off: it fits where the origin reaches no further than the cell
    module _ (f : OnFrom g v pose 0) where
      pub fit_is : fits_pose g v pose ≡ reaches v (origin_in pose)
      unfolding fits_pose
      fit_is = fits_by g v (origin_in pose) (cells_in pose) ∙ ap (λ (b : Bool). reaches v (origin_in pose) && b) (is_true _ (all_on f)) ∙ and_true _

      pub stops_nowhere : reaches v (origin_in pose) ≡ true → None ≡ stop_of g v pose
      unfolding stop_of
      stops_nowhere r = sym (ap (λ (b : Bool). cond b None (last_or (Some (origin_in pose)) (off_board g v (origin_in pose) (cells_in pose)))) (fit_is ∙ r))

      pub stops_origin : reaches v (origin_in pose) ≡ false → Some (origin_in pose) ≡ stop_of g v pose
      unfolding stop_of
      stops_origin r =
          sym (ap (λ (b : Bool). cond b None (last_or (Some (origin_in pose)) (off_board g v (origin_in pose) (cells_in pose)))) (fit_is ∙ r)
          ∙ ap (last_or (Some (origin_in pose))) (none_off f))

      -- a grid with a filled cell in each first layer reaches
      pub tight_reaches : (h : Grid) → T (is_tight h) → cells_in pose ≡ filled_cells h → reaches v (origin_in pose) ≡ true
      unfolding coordinate
      tight_reaches h t e =
          let tight = tight_of h t in
          let o = origin_in pose in
          let x = tight.low 0 in
          let y = tight.low 1 in
          let z = tight.low 2 in
          let a = (there x.0 x.1).0 in
          let b = (there y.0 y.1).1 in
          let d = (there z.0 z.1).2 in
          let x0 : x.0.x ≡ 0 = x.2 in
          let y0 : y.0.y ≡ 0 = y.2 in
          let z0 : z.0.z ≡ 0 = z.2 in
          is_true _ (reach_of v o (omega (arith, a, x0)) (omega (arith, b, y0)) (omega (arith, d, z0)))
        where
          there : (u : Cell) → Memᴰ u (filled_cells h)
              → ((origin_in pose).x ≤ v.x + u.x) × ((origin_in pose).y ≤ v.y + u.y) × ((origin_in pose).z ≤ v.z + u.z)
          there u m = on_reach g v (origin_in pose) u (all_at (lies_on g v (origin_in pose)) (cells_in pose) (all_on f) (subst (Memᴰ u) (sym e) m))
