-- A row system that is ready: what its rows and its maps are, read in its slices, and what its laws say of them. Assumes nothing.
use Prim.Native.Nat.{ℕ, ◌+◌, ◌≤◌, ◌<◌}
use mathlib.Core.Bool.{Bool, true, false, not}
use mathlib.Core.List.Memᴰ
use mathlib.Core.List.{List, Memᴰ}
use mathlib.Core.Path.{◌≡◌, refl, ap, ◌∙◌}
use mathlib.Core.Logic.{◌⊎◌, inl, inr}
use native.Mathlib.Nat.{le_of_eq}
use native.Mathlib.Omega.{arith}
use borrow.Author.Tests.{leb-true, leb-false}
use lib.Dec.{T, ltb, leb, eqb, lt→ltb, eqb→eq}
use lib.ListN.{length, length-map}
use Rattle.lists.specs.Lists.{all, ascending, below}
use Rattle.lists.proofs.TestLaws.{decide, clash, eqb_of}
use Rattle.lists.proofs.ListLaws.{all_of}
use Rattle.lists.proofs.RangeLaws.{from-of, below_of, length_below, map_from_ahead}
use Rattle.definitions.specs.Packing.{ahead}
use Rattle.rows.specs.Charts.{images_of, kind_copies}
use Rattle.rows.specs.Rows.{row_at, rows_in}
use Rattle.rows.specs.Ranges.{FirstCells}
use Rattle.rows.specs.Ready.{Ready, Sized}
use Rattle.rows.specs.Systems.{system_in, images_in, system_over}
use Rattle.rows.specs.Lawful.{Lawful, Permutes, allowed}
use Rattle.rows.specs.declared.Dims.{Dims}
use Rattle.rows.proofs.AnsweringLaws.{ahead_kind}
use Rattle.rows.specs.declared.chart.Chart.{Chart}

module _ (d : Dims) (work : List ℕ) (chart : Chart) where
  pub rows_many : length (system_in d work chart).rows ≡ d.rows
  unfolding system_in system_over rows_in
  rows_many = length-map (below d.rows) (row_at work) ∙ length_below d.rows

  pub kinds_many : length (system_in d work chart).copies ≡ d.kinds
  unfolding system_in system_over
  kinds_many = length-map (below d.kinds) (kind_copies chart.kinds) ∙ length_below d.kinds

  pub row_in : (r : ℕ) → r < d.rows → Memᴰ (row_at work r) (system_in d work chart).rows
  unfolding system_in system_over rows_in
  row_in r h = Memᴰ.map (row_at work) (below_of d.rows h)

  -- map m: a turn below the number of turns, else a mirroring
  pub map_in : (m : ℕ) → m < d.turns + d.mirrorings
      → Memᴰ (images_of chart d.size m) (allowed (system_in d work chart) (leb d.turns m))
  unfolding system_in system_over images_in images_of
  map_in m h = go (leb d.turns m) refl
    where
      go : (b : Bool) → leb d.turns m ≡ b → Memᴰ (images_of chart d.size m) (allowed (system_in d work chart) b)
      go false e = let l = leb-false d.turns m e in Memᴰ.map (λ (k : ℕ). images_of chart d.size k) (from-of 0 d.turns {x = m} (omega arith) (omega arith))
      go true e = let l = leb-true d.turns m e in Memᴰ.map (λ (k : ℕ). images_of chart d.size k) (from-of d.turns d.mirrorings l h)

  module _ (ok : Lawful (system_in d work chart)) where
    pub few-cells : d.size ≤ 128
    unfolding system_in system_over
    few-cells = ok.few_cells

    pub few-rows : d.rows ≤ 1024
    few-rows = let e = rows_many in let l = ok.few_rows in omega arith

    pub few-kinds : d.kinds ≤ 16
    few-kinds = let e = kinds_many in let l = ok.few_kinds in omega arith

    pub first_cells : FirstCells (rows_in work d.rows)
    unfolding system_in system_over
    first_cells = record { covers_p = λ q m. (ok.row q m).covers_p; from_p = λ q m. (ok.row q m).from_p }

    pub in-order : T (ascending ahead (rows_in work d.rows))
    unfolding system_in system_over
    in-order = ok.in_order

    pub rows_ahead : (q r : ℕ) → q < r → r < d.rows → T (ahead (row_at work q) (row_at work r))
    unfolding rows_in
    rows_ahead q r h k = map_from_ahead ahead (row_at work) 0 d.rows in-order q r (omega arith) h (omega arith)

    -- kinds ascend with the rows
    pub rows_kinds : (q r : ℕ) → q ≤ r → r < d.rows → (row_at work q).kind ≤ (row_at work r).kind
    rows_kinds q r h k = go (decide (eqb q r))
      where
        go : T (eqb q r) ⊎ T (not (eqb q r)) → (row_at work q).kind ≤ (row_at work r).kind
        go (inl e) = le_of_eq (ap (λ (x : ℕ). (row_at work x).kind) (eqb→eq q r e))
        go (inr e) = let d : q ≡ r → ⊥ = λ p. clash (eqb q r) (eqb_of p) e in ahead_kind (row_at work q) (row_at work r) (rows_ahead q r (omega arith) k)

    module _ (r : ℕ) (h : r < d.rows) where
      pub row_kind : (row_at work r).kind < d.kinds
      row_kind = let e = kinds_many in let l = (ok.row (row_at work r) (row_in r h)).of_kind in omega arith

      pub row-cells : (n : ℕ) → Memᴰ n (row_at work r).cells → n < d.size
      unfolding system_in system_over
      row-cells n m = (ok.row (row_at work r) (row_in r h)).on_board n m

      pub row_on_board : T (all (λ n. ltb n d.size) (row_at work r).cells)
      row_on_board = all_of (λ (n : ℕ). ltb n d.size) (row_at work r).cells (λ n m. lt→ltb n d.size (row-cells n m))

    pub map_permutes : (m : ℕ) → m < d.turns + d.mirrorings → Permutes d.size (images_of chart d.size m)
    unfolding system_in system_over
    map_permutes m h = ok.permutes (leb d.turns m) (images_of chart d.size m) (map_in m h)

-- how large it is at most
pub sized_by : (d : Dims) (work : List ℕ) (chart : Chart) → Ready d work chart → d.places ≤ length chart.scans → Sized d work chart
sized_by d work chart ready fit =
    let ok = ready.lawful in record {
      few_cells = few-cells d work chart ok;
      few_rows = few-rows d work chart ok;
      few_kinds = few-kinds d work chart ok;
      few_maps = ready.few_maps;
      few_places = ready.few_places;
      few_pieces = ready.few_pieces;
      rows_fit = ready.rows_fit;
      scans_fit = fit;
    }
