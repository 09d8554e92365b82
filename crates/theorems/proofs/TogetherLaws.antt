-- A piece of n cells that hangs together fits a box with a + b + c ≤ n + 2: it can be grown cell by cell from any of its cells, and each new cell makes the
-- sides longer by at most one in all. One argument over n. Assumes nothing.
use Prim.Native.Nat.{ℕ, zero, suc, ◌+◌, ◌≤◌, ◌<◌}
use mathlib.Core.Bool.{◌&&◌}
use mathlib.Core.List.Memᴰ
use mathlib.Core.List.{List, [], ◌∷◌, Memᴰ}
use mathlib.Core.Path.{◌≡◌, refl, ap, subst}
use mathlib.Core.Logic.{◌⊎◌, inl, inr, ⊎_elim}
use native.Mathlib.Omega.{arith}
use lib.Dec.{T, eqb→eq}
use lib.ListN.{length}
use Rattle.lists.specs.Lists.{any, Apart}
use Rattle.lists.proofs.TestLaws.{and_left, and_right, clash, decide, eqb_of}
use Rattle.lists.proofs.ListLaws.{apart_length}
use Rattle.definitions.specs.Grid.{Cell, Grid, same_cell, filled_cells}
use Rattle.definitions.specs.Maps.{coordinate, side}
use Rattle.definitions.specs.Catalogue.{difference, touches, is_path, HangsTogether}
use Rattle.theorems.proofs.WellMadeLaws.{same_cell→eq}
use Rattle.theorems.proofs.CellLaws.{Tight}
use Rattle.theorems.proofs.SetDownLaws.{on-board, is_on_board}

-- ---- cells that touch are one apart, over all axes
pub touching : (u v : Cell) → T (touches u v) → difference (coordinate u 0) (coordinate v 0) + difference (coordinate u 1) (coordinate v 1) + difference (coordinate u 2) (coordinate v 2) ≡ 1
unfolding touches coordinate
touching u v t = eqb→eq (difference u.x v.x + difference u.y v.y + difference u.z v.z) 1 t

pub touches_of : (u v : Cell) → difference (coordinate u 0) (coordinate v 0) + difference (coordinate u 1) (coordinate v 1) + difference (coordinate u 2) (coordinate v 2) ≡ 1 → T (touches u v)
unfolding touches coordinate
touches_of u v e = eqb_of e

pub touches_back : (u v : Cell) → T (touches u v) → T (touches v u)
touches_back u v t = touches_of v u (let e = touching u v t in omega arith)

-- ---- the step out of some cells
pub in_or_out : (gs : List Cell) (u : Cell) → Memᴰ u gs ⊎ (Memᴰ u gs → ⊥)
in_or_out gs u = ⊎_elim (λ t. inl (on-board gs u t)) (λ t. inr (λ m. clash (any (same_cell u) gs) (is_on_board gs u m) t)) (decide (any (same_cell u) gs))

-- a cell of us that is not one of gs and touches one of them
pub record StepOut (us gs : List Cell) : Type 0 where
  pub from : Cell
  pub to : Cell
  pub inside : Memᴰ from gs
  pub listed : Memᴰ to us
  pub outside : Memᴰ to gs → ⊥
  pub step : T (touches from to)

-- a path from a cell of gs to one that is not has a first step out
step_out : (us gs : List Cell) (u : Cell) (ws : List Cell) (v : Cell) → Memᴰ u gs → T (is_path us u ws v) → (Memᴰ v gs → ⊥) → StepOut us gs
step_out us gs u [] v m p out = absurd (out (subst (λ (w : Cell). Memᴰ w gs) (same_cell→eq u v p) m))
step_out us gs u (w ∷ ws) v m p out =
    ⊎_elim (λ k. step_out us gs w ws v k (and_right (any (same_cell w) us) (is_path us w ws v) on) out)
    (λ o. record { from = u; to = w; inside = m; listed = on-board us w (and_left (any (same_cell w) us) (is_path us w ws v) on); outside = o; step = and_left (touches u w) _ p })
    (in_or_out gs w)
  where
    on : T (any (same_cell w) us && is_path us w ws v)
    on = and_right (touches u w) (any (same_cell w) us && is_path us w ws v) p

all_or_other : (us gs : List Cell) → ((u : Cell) → Memᴰ u us → Memᴰ u gs) ⊎ ((u : Cell) × Memᴰ u us × (Memᴰ u gs → ⊥))
all_or_other [] gs = inl (λ u m. absurd (Memᴰ.not-nil m))
all_or_other (w ∷ us) gs = go (in_or_out gs w) (all_or_other us gs)
  where
    go : Memᴰ w gs ⊎ (Memᴰ w gs → ⊥) → ((u : Cell) → Memᴰ u us → Memᴰ u gs) ⊎ ((u : Cell) × Memᴰ u us × (Memᴰ u gs → ⊥))
        → ((u : Cell) → Memᴰ u (w ∷ us) → Memᴰ u gs) ⊎ ((u : Cell) × Memᴰ u (w ∷ us) × (Memᴰ u gs → ⊥))
    go (inr o) r = inr (w, Memᴰ.head refl, o)
    go (inl k) (inr r) = inr (r.0, Memᴰ.tail r.1, r.2)
    go (inl k) (inl f) = inl (λ u m. ⊎_elim (λ e. Memᴰ.cast e k) (f u) (Memᴰ.cases_cons m))

module _ (us : List Cell) (h : HangsTogether us) where
  -- some of the cells are all of them, or there is a step out
  pub all_or_step : (gs : List Cell) (g : Cell) → Memᴰ g gs → ((u : Cell) → Memᴰ u gs → Memᴰ u us) → ((u : Cell) → Memᴰ u us → Memᴰ u gs) ⊎ StepOut us gs
  all_or_step gs g m i =
      ⊎_elim (λ f. inl f) (λ r. let p = h g r.0 (i g m) r.1 in inr (step_out us gs g p.0 r.0 m p.1 r.2)) (all_or_other us gs)

  -- ---- what hangs together is grown cell by cell: what holds of one cell, and stays true with each cell that touches one before it, holds of all
  module _ (P : List Cell → Type 0) (more : (gs : List Cell) (u v : Cell) → Memᴰ v gs → T (touches v u) → P gs → P (u ∷ gs)) where
    record Grown : Type 0 where
      cells : List Cell
      made : P cells
      no_more : length cells ≤ length us
      all_in : (u : Cell) → Memᴰ u us → Memᴰ u cells

    grow : (fuel : ℕ) (gs : List Cell) (g : Cell) → Memᴰ g gs → P gs → Apart gs → ((u : Cell) → Memᴰ u gs → Memᴰ u us) → length us < length gs + fuel → Grown
    grow zero gs g m p a i k = absurd (let l = apart_length gs us a i in omega arith)
    grow (suc fuel) gs g m p a i k =
        ⊎_elim (λ f. record { cells = gs; made = p; no_more = apart_length gs us a i; all_in = f })
        (λ s. grow fuel (s.to ∷ gs) s.to (Memᴰ.head refl) (more gs s.to s.from s.inside s.step p) (s.outside, a)
        (λ u n. ⊎_elim (λ e. Memᴰ.cast e s.listed) (i u) (Memᴰ.cases_cons n)) (omega arith))
        (all_or_step gs g m i)

    grown_of : (u : Cell) → Memᴰ u us → P (u ∷ []) → Grown
    grown_of u m p =
        grow (suc (length us)) (u ∷ []) u (Memᴰ.head refl) p (Memᴰ.not-nil, tt) (λ v k. Memᴰ.cast (Memᴰ.eq_of_singleton k) m) (omega arith)

-- ---- how far the cells of a list are apart
-- along axis i by at most far i, over all axes by less than they are
record Spread (us : List Cell) : Type 0 where
  far : ℕ → ℕ
  few : far 0 + far 1 + far 2 < length us
  within : (i : ℕ) (u v : Cell) → Memᴰ u us → Memᴰ v us → coordinate u i ≤ coordinate v i + far i

spread_one : (u : Cell) → Spread (u ∷ [])
spread_one u =
    record {
      far = λ i. 0;
      few = omega arith;
      within = λ i v w m k.
          let e = ap (λ (x : Cell). coordinate x i) (Memᴰ.eq_of_singleton m) in
          let f = ap (λ (x : Cell). coordinate x i) (Memᴰ.eq_of_singleton k) in
          omega arith;
    }

-- u touches v, so that it is one further along one axis at most
spread_more : (gs : List Cell) (u v : Cell) → Memᴰ v gs → T (touches v u) → Spread gs → Spread (u ∷ gs)
spread_more gs u v m t s =
    record {
      far = λ i. s.far i + difference (coordinate v i) (coordinate u i);
      few = let e = touching v u t in let f = s.few in omega arith;
      within = λ i x y k l. go i x y (Memᴰ.cases_cons k) (Memᴰ.cases_cons l);
    }
  where
    go : (i : ℕ) (x y : Cell) → (x ≡ u) ⊎ Memᴰ x gs → (y ≡ u) ⊎ Memᴰ y gs → coordinate x i ≤ coordinate y i + (s.far i + difference (coordinate v i) (coordinate u i))
    go i x y (inl e) (inl f) = let p = ap (λ (w : Cell). coordinate w i) e in let q = ap (λ (w : Cell). coordinate w i) f in omega arith
    go i x y (inl e) (inr l) = let p = ap (λ (w : Cell). coordinate w i) e in let q = s.within i v y m l in omega arith
    go i x y (inr k) (inl f) = let p = s.within i x v k m in let q = ap (λ (w : Cell). coordinate w i) f in omega arith
    go i x y (inr k) (inr l) = let p = s.within i x y k l in omega arith

spread_of : (us : List Cell) → HangsTogether us → (u : Cell) → Memᴰ u us → Spread us
spread_of us h u m =
    let g = grown_of us h Spread spread_more u m (spread_one u) in
    let s = g.made in
    record { far = s.far; few = let l = g.no_more in let f = s.few in omega arith; within = λ i v w k l. s.within i v w (g.all_in v k) (g.all_in w l) }

-- ---- so the box that such cells fill from end to end is small
pub sides_few : (g : Grid) → Tight g → HangsTogether (filled_cells g) → g.sides.a + g.sides.b + g.sides.c ≤ length (filled_cells g) + 2
unfolding side
sides_few g t h =
    let s = spread_of (filled_cells g) h (t.low 0).0 (t.low 0).1 in
    let few = s.few in
    let a = along s 0 in
    let b = along s 1 in
    let c = along s 2 in
    omega arith
  where
    along : (s : Spread (filled_cells g)) (i : ℕ) → side g.sides i ≤ s.far i + 1
    along s i =
        let low = t.low i in
        let high = t.high i in
        let e = low.2 in
        let f = high.2 in
        let w = s.within i high.0 low.0 high.1 low.1 in
        omega arith
