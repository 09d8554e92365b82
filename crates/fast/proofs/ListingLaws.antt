-- Fast's list over the slices of a row system: the copies left where a search begins, the cells of all copies, whether kind 0 is placed first, and what is
-- listed then. Assumes nothing.
use Prim.Native.Nat.{ℕ, ◌+◌, ◌-◌, ◌*◌, ◌≤◌, ◌<◌}
use mathlib.Core.Bool.{Bool, true, false, cond, not, ◌&&◌}
use mathlib.Core.List.Memᴰ
use mathlib.Core.List.{List, [], map}
use mathlib.Core.Path.{◌≡◌, refl, sym, ap, ap₂, ◌∙◌}
use native.Mathlib.Nat.{mul-le-mul}
use native.Mathlib.Omega.{arith}
use lib.Dec.{eqb}
use lib.ListN.{length, get_or, take, length-map}
use lib.Seq.{length-take-le, get_or-take}
use Rattle.std.proofs.lemmas.List.{length-take}
use Rattle.lists.specs.Lists.{below, from, keep, sum}
use Rattle.lists.proofs.ListLaws.{keep_all, keep_length, map_same}
use Rattle.lists.proofs.RangeLaws.{below_at, length_below, map_below, from_next, from-end, get_or_of}
use Rattle.definitions.specs.Kinds.{Tray}
use Rattle.definitions.specs.Placements.{compile}
use Rattle.definitions.specs.Packing.{limits}
use Rattle.definitions.specs.Kept.{Identify}
use Rattle.definitions.specs.Orders.{identifies_turned, sizes, all_cells, kind0_first}
use Rattle.definitions.specs.Refusals.{identifies}
use Rattle.masks.specs.Masks.{has, nothing}
use Rattle.masks.specs.declared.Mask.{Mask}
use Rattle.rows.specs.Charts.{kind_copies, kind_size}
use Rattle.rows.specs.Systems.{System, system_in, system_over, system_of}
use Rattle.rows.specs.declared.Dims.{Dims}
use Rattle.kept.specs.Normal.{of_kind}
use Rattle.kept.specs.Entries.{start_by}
use Rattle.rows.proofs.ReadyLaws.{kinds_many}
use Rattle.fast.specs.Searching.{Searching, uncovered, state_by, fast_below}
use Rattle.fast.specs.Pruned.{fast_first}
use Rattle.fast.specs.Listing.{total_cells, cells_in, first_by, fast_answers}
use Rattle.rows.specs.declared.chart.Chart.{Chart}

-- ---- the numbers of kinds in a chart
abbrev pub copies_in : Chart → ℕ → List ℕ
copies_in chart n = map (kind_copies chart.kinds) (below n)

abbrev sizes_in : Chart → ℕ → List ℕ
sizes_in chart n = map (kind_size chart.kinds) (below n)

abbrev cells_at : Chart → ℕ → ℕ
cells_at chart k = kind_copies chart.kinds k * kind_size chart.kinds k

-- ---- the copies of each kind, one after the other
module _ (chart : Chart) (left : List ℕ) where
  pub left_end : (n : ℕ) → n ≤ length left → ((j : ℕ) → j < n → get_or left j 0 ≡ kind_copies chart.kinds j) → take n left ≡ copies_in chart n
  left_end n h f =
      sym (map_below (kind_copies chart.kinds) n 0 (take n left) (length-take-le n left h)
      (λ k l. sym (f k l) ∙ sym (get_or-take n left k 0 l)))

-- ---- the cells of the kinds from k on
abbrev pub cells_from : Chart → ℕ → ℕ → ℕ
cells_from chart n k = sum (map (cells_at chart) (from k (n - k)))

module _ (chart : Chart) (n : ℕ) where
  pub cells_start : cells_from chart n 0 ≡ cells_in chart n
  unfolding cells_in
  cells_start = let e : n - 0 ≡ n = omega arith in ap (λ (m : ℕ). sum (map (cells_at chart) (from 0 m))) e

  pub cells_end : (k : ℕ) → n ≤ k → cells_from chart n k ≡ 0
  cells_end k h = ap (λ (l : List ℕ). sum (map (cells_at chart) l)) (from-end k n h)

  module _ (k x y : ℕ) (e : x ≡ kind_copies chart.kinds k) (f : y ≡ kind_size chart.kinds k) where
    pub cells_next : k < n → cells_from chart n k ≡ x * y + cells_from chart n (k + 1)
    cells_next h =
        ap (λ (l : List ℕ). sum (map (cells_at chart) l)) (from_next k n h) ∙ ap₂ (λ (a b : ℕ). a * b + cells_from chart n (k + 1)) (sym e) (sym f)

    pub cells_few : x < 256 → y < 65536 → x * y ≤ 16711425
    cells_few h g =
        let a : x ≤ 255 = omega arith in
        let c : y ≤ 65535 = omega arith in
        mul-le-mul a c

-- ---- kind 0 is placed first as the code decides it
turned_is : (turned mirrored : Bool) → identifies_turned (identifies turned mirrored) ≡ turned
unfolding identifies_turned identifies
turned_is true true = refl
turned_is true false = refl
turned_is false true = refl
turned_is false false = refl

-- in the definitions: of an accepted tray's system
pub first_same : (t : Tray) (i : Identify) → first_by (system_of t) i ≡ kind0_first (compile t) i
unfolding first_by total_cells kind0_first all_cells system_of limits
first_same t i =
    let c = compile t in
    let cells : ℕ → ℕ = λ n. sum (map (λ k. get_or (limits c) k 0 * get_or (sizes c) k 0) (below n)) in
    ap (λ (n : ℕ). identifies_turned i && (eqb (get_or (limits c) 0 0) 1 && eqb (cells n) (length c.cells)))
    (length-map c.kinds (λ d. length d.copies))

module _ (d : Dims) (work : List ℕ) (chart : Chart) where
  abbrev S : System
  S = system_in d work chart

  cells-in : total_cells S ≡ cells_in chart d.kinds
  unfolding total_cells cells_in system_in system_over
  cells-in =
      let n = d.kinds in
      ap (λ (m : ℕ). sum (map (λ k. get_or (copies_in chart n) k 0 * get_or (sizes_in chart n) k 0) (below m))) (kinds_many d work chart)
      ∙ ap sum (map_same (λ k. get_or (copies_in chart n) k 0 * get_or (sizes_in chart n) k 0) (cells_at chart) (below n)
      (λ k m. let h = below_at n m in ap₂ (λ (a b : ℕ). a * b) (at (kind_copies chart.kinds) k h)
      (at (kind_size chart.kinds) k h)))
    where
      at : (f : ℕ → ℕ) (k : ℕ) → k < d.kinds → get_or (map f (below d.kinds)) k 0 ≡ f k
      at f k h = get_or_of f 0 0 d.kinds k h ∙ ap f (let e : 0 + k ≡ k = omega arith in e)

  pub first_told : (turned mirrored told : Bool)
      → told ≡ (turned && (eqb (get_or (copies_in chart d.kinds) 0 0) 1 && eqb (cells_in chart d.kinds) d.size))
      → first_by (system_in d work chart) (identifies turned mirrored) ≡ told
  unfolding first_by system_in system_over
  first_told turned mirrored told e =
      (λ i. turned_is turned mirrored i && (eqb (get_or (copies_in chart d.kinds) 0 0) 1 && eqb (cells-in i) d.size)) ∙ sym e

  -- ---- the start of a search: all copies left, and nothing covered
  module _ (left : List ℕ) (full : take d.kinds left ≡ copies_in chart d.kinds) where
    left_in : take d.kinds left ≡ S.copies
    unfolding system_in system_over
    left_in = full

    left_is : take (length S.copies) left ≡ S.copies
    left_is = ap (λ (n : ℕ). take n left) (kinds_many d work chart) ∙ left_in

    left_long : length S.copies ≤ length left
    unfolding system_in system_over
    left_long = let a = ap length full in let b = length-take d.kinds left in omega arith

    module _ (covered : Mask) (none : has covered ≡ nothing) where
      pub searching : Searching (system_in d work chart) left covered []
      unfolding of_kind uncovered
      searching =
          record {
            enough = left_long;
            apart = tt;
            taken = λ k h. (let e = sym (get_or-take (length S.copies) left k 0 h) ∙ ap (λ (l : List ℕ). get_or l k 0) left_is in omega arith);
            covers = λ r m. absurd (Memᴰ.not-nil m);
            room = (let a = keep_length (λ c. not (has covered c)) (below S.size) in let b = length_below S.size in omega arith);
          }

      begins : state_by S left covered [] ≡ start_by S
      unfolding state_by uncovered start_by nothing
      begins =
          let free = ap (λ (f : ℕ → Bool). keep (λ n. not (f n)) (below S.size)) none ∙ keep_all (below S.size) in
          (λ i. record { left = left_is i; free = free i; chosen = [] })

      -- what is listed
      pub lists_first : (i : Identify) → first_by (system_in d work chart) i ≡ true
          → fast_first (system_in d work chart) i (state_by (system_in d work chart) left covered []) ≡ fast_answers (system_in d work chart) i
      unfolding fast_answers
      lists_first i e = ap (fast_first S i) begins ∙ sym (ap (λ (b : Bool). cond b (fast_first S i (start_by S)) (fast_below S i (start_by S))) e)

      pub lists_below : (i : Identify) → first_by (system_in d work chart) i ≡ false
          → fast_below (system_in d work chart) i (state_by (system_in d work chart) left covered []) ≡ fast_answers (system_in d work chart) i
      unfolding fast_answers
      lists_below i e = ap (fast_below S i) begins ∙ sym (ap (λ (b : Bool). cond b (fast_first S i (start_by S)) (fast_below S i (start_by S))) e)
