-- What the rows of a path tell of each scan number, two bytes a number, laid row by row from the last to the first, so that the first that covers a cell
-- stays. Assumes nothing.
use Prim.Native.Nat.{ℕ, zero, suc, ◌+◌, ◌-◌, ◌*◌, ◌≤◌, ◌<◌}
use mathlib.Core.Bool.{Bool, true, false, cond}
use mathlib.Core.List.{List, [], ◌∷◌, ◌++◌, append-nil}
use mathlib.Core.Path.{◌≡◌, refl, sym, ap, ap₂, ◌∙◌}
use native.Mathlib.Omega.{arith}
use borrow.Author.Tests.{ne_eqb, ltb-true, ltb-false}
use lib.Dec.{ltb, eqb, ltb→lt}
use lib.ListN.{length, get_or, replicate, set, drop_of_length-le}
use lib.Seq.{paste, paste-zero, take_all}
use Rattle.lists.specs.Lists.{all, below, member}
use Rattle.lists.proofs.TestLaws.{is_false}
use Rattle.lists.proofs.ListLaws.{all_at, keep_fails, each_same, each_same_in}
use Rattle.lists.proofs.RangeLaws.{below_at, length_below, member_at, number_at}
use Rattle.lists.proofs.CountLaws.{how_many_length}
use Rattle.definitions.specs.Kinds.{Copy}
use Rattle.definitions.specs.Placements.{Placement}
use Rattle.definitions.specs.Packing.{used}
use Rattle.definitions.specs.Answers.{Taken, copy_on}
use Rattle.masks.specs.Masks.{has, FirstIn}
use Rattle.masks.specs.declared.Mask.{Mask}
use Rattle.rows.specs.Rows.{row_at, cells_of}
use Rattle.rows.specs.Systems.{owned_in}
use Rattle.rows.specs.declared.chart.Owned.{Owned}
use Rattle.rows.specs.Answering.{no_copy, copies_by, path_in, taken_by, answers_over, laid, told_of, Held}
use Rattle.rows.specs.declared.Dims.{Dims}
use Rattle.rows.proofs.PairLaws.{pairs, length_pairs, pair_first, pair_second, front_next, front_kept}
use Rattle.rows.proofs.AnsweringLaws.{bytes_over, rows_to, rows_left, rows_next, rows_end, rows_done, rows_whole, in_cells, used_more, taken_on, taken_in_order, copy_here, copy_past, copy_nowhere}
use Rattle.rows.specs.declared.chart.Chart.{Chart}

-- ---- two bytes for each number below 128
module _ (ts : List Taken) where
  abbrev pub told_by : List ℕ
  told_by = answers_over ts (below 128)

  pub told_long : length told_by ≡ 256
  unfolding answers_over
  told_long = let a = length_pairs (λ n. (copy_on ts n).piece) (λ n. (copy_on ts n).copy) (below 128) in let b = length_below 128 in omega arith

  told_first : (n : ℕ) → n < 128 → get_or told_by (2 * n) 0 ≡ (copy_on ts n).piece
  unfolding answers_over
  told_first n h =
      pair_first (λ n. (copy_on ts n).piece) (λ n. (copy_on ts n).copy) (below 128) n 0 (let e = length_below 128 in omega arith)
      ∙ ap (λ (k : ℕ). (copy_on ts k).piece) (number_at 128 n h)

  told_second : (n : ℕ) → n < 128 → get_or told_by (2 * n + 1) 0 ≡ (copy_on ts n).copy
  unfolding answers_over
  told_second n h =
      pair_second (λ n. (copy_on ts n).piece) (λ n. (copy_on ts n).copy) (below 128) n 0 (let e = length_below 128 in omega arith)
      ∙ ap (λ (k : ℕ). (copy_on ts k).copy) (number_at 128 n h)

  -- read back, where no cell has a number from 128 on
  pub told-of : ((n : ℕ) → 128 ≤ n → copy_on ts n ≡ no_copy) → (n : ℕ) → told_of told_by n ≡ copy_on ts n
  unfolding told_of
  told-of none n = go (ltb n 128) refl
    where
      go : (b : Bool) → ltb n 128 ≡ b → cond b (record { piece = get_or told_by (2 * n) 0; copy = get_or told_by (2 * n + 1) 0 }) no_copy ≡ copy_on ts n
      go true e = let h : n < 128 = ltb-true n 128 e in ap₂ (λ (p m : ℕ). record { piece = p; copy = m }) (told_first n h) (told_second n h)
      go false e = sym (none n (ltb-false n 128 e))

  -- one row more: its copy is laid on its cells
  module _ (c : Copy) (cells : List ℕ) where
    abbrev more : List Taken
    more = record { copy = c; cells = cells } ∷ ts

    pub laid_more : laid cells c told_by ≡ answers_over more (below 128)
    unfolding laid answers_over
    laid_more =
        each_same_in (λ n. cond (member n cells) c.piece (get_or told_by (2 * n) 0) ∷ cond (member n cells) c.copy (get_or told_by (2 * n + 1) 0) ∷ [])
        (λ n. (copy_on more n).piece ∷ (copy_on more n).copy ∷ []) (below 128) (λ n m. go n (below_at 128 m) (member n cells) refl)
      where
        go : (n : ℕ) → n < 128 → (b : Bool) → member n cells ≡ b
            → ◌≡◌ {A = List ℕ} (cond (member n cells) c.piece (get_or told_by (2 * n) 0) ∷ cond (member n cells) c.copy (get_or told_by (2 * n + 1) 0) ∷ [])
            ((copy_on more n).piece ∷ (copy_on more n).copy ∷ [])
        go n h true e = rw (e, copy_here c cells ts n e)
        go n h false e = rw (e, copy_past c cells ts n e, told_first n h, told_second n h)

-- ---- what the rows of a path tell, from the last to the first
module _ (d : Dims) (work : List ℕ) (chart : Chart) (path : List ℕ) where
  abbrev own : List Owned
  own = owned_in chart.pieces d.pieces

  -- what the rows from i on tell
  abbrev pub told_from : ℕ → List ℕ
  told_from i = told_by (taken_on own (rows_to work path i) (rows_left work path i))

  module _ (held : Held d work chart path) where
    in_path : taken_by own d.kinds (path_in work path) ≡ taken_on own [] (path_in work path)
    in_path = taken_in_order own d.kinds (path_in work path) held.ascend held.of_kinds held.enough

    pub told_all : told_from 0 ≡ told_by (taken_by own d.kinds (path_in work path))
    unfolding path_in
    told_all = sym (ap told_by in_path)

    told_nothing : replicate 256 255 ≡ told_by []
    unfolding answers_over copy_on
    told_nothing = refl

    pub told_none : replicate 256 255 ≡ told_from (length path)
    told_none = told_nothing ∙ sym (ap (λ (qs : List Placement). told_by (taken_on own (rows_to work path (length path)) qs)) (rows_end work path))

    module _ (i : ℕ) (h : i < length path) where
      abbrev row : Placement
      row = row_at work (get_or path i 0)

      pub told_row : laid row.cells (get_or (copies_by own row.kind) (used (rows_to work path i) row.kind) no_copy) (told_from (i + 1)) ≡ told_from i
      told_row =
          let rest = rows_left work path (i + 1) in
          let c = get_or (copies_by own row.kind) (used (rows_to work path i) row.kind) no_copy in
          ap (λ (done : List Placement). laid row.cells c (told_by (taken_on own done rest))) (rows_done work path i h)
          ∙ laid_more (taken_on own (rows_to work path i ++ (row ∷ [])) rest) c row.cells
          ∙ sym (ap (λ (qs : List Placement). told_by (taken_on own (rows_to work path i) qs)) (rows_next work path i h))

      -- how many rows of a kind stand before it
      pub used_here : (k : ℕ) → used (rows_to work path (i + 1)) k ≡ used (rows_to work path i) k + cond (eqb row.kind k) 1 0
      used_here k = ap (λ (qs : List Placement). used qs k) (rows_done work path i h) ∙ used_more (rows_to work path i) row k

    none_used : used (path_in work path) d.kinds ≡ 0
    unfolding used
    none_used =
        let is : Placement → Bool = λ q. eqb q.kind d.kinds in
        how_many_length is (path_in work path)
        ∙ ap length (keep_fails is (path_in work path) (λ q m. ne_eqb q.kind d.kinds (λ e.
        let l = ltb→lt q.kind d.kinds (all_at (λ (r : Placement). ltb r.kind d.kinds) (path_in work path) held.of_kinds m) in omega arith)))

    pub used_none : used (rows_to work path (length path)) d.kinds ≡ 0
    used_none = ap (λ (qs : List Placement). used qs d.kinds) (rows_whole work path) ∙ none_used

    -- no row covers a number that is none of a cell
    path_none : (cell : ℕ) → d.size ≤ cell → copy_on (taken_by own d.kinds (path_in work path)) cell ≡ no_copy
    path_none cell h =
        ap (λ (ts : List Taken). copy_on ts cell) in_path
        ∙ copy_nowhere own cell [] (path_in work path) (λ q m. is_false (member cell q.cells) (λ t.
        let l = ltb→lt cell d.size (all_at (λ (k : ℕ). ltb k d.size) q.cells
        (all_at (λ (r : Placement). all (λ k. ltb k d.size) r.cells) (path_in work path) held.on_board m) (member_at cell q.cells t)) in
        omega arith))

    told_at : (cell : ℕ) → told_of (told_by (taken_by own d.kinds (path_in work path))) cell ≡ copy_on (taken_by own d.kinds (path_in work path)) cell
    told_at cell = told-of (taken_by own d.kinds (path_in work path)) (λ k h. path_none k (let l = held.few_cells in omega arith)) cell

    -- so the bytes that are told are the answer's
    pub told_bytes : (told : List ℕ) → told ≡ told_by (taken_by own d.kinds (path_in work path)) → (xs : List ℕ)
        → bytes_over (told_of told) xs ≡ answers_over (taken_by own d.kinds (path_in work path)) xs
    unfolding answers_over
    told_bytes told e xs =
        let on = copy_on (taken_by own d.kinds (path_in work path)) in
        each_same (λ k. (told_of told k).piece ∷ (told_of told k).copy ∷ []) (λ k. (on k).piece ∷ (on k).copy ∷ []) xs
        (λ k. ap {B = List ℕ} (λ (c : Copy). c.piece ∷ c.copy ∷ []) (ap (λ (l : List ℕ). told_of l k) e ∙ told_at k))

-- ---- a copy laid on the cells of a mask, from the first to the last
module _ (mask : Mask) (c : Copy) (old : List ℕ) where
  abbrev piece : ℕ → ℕ
  piece n = cond (member n (cells_of mask)) c.piece (get_or old (2 * n) 0)

  abbrev copy : ℕ → ℕ
  copy n = cond (member n (cells_of mask)) c.copy (get_or old (2 * n + 1) 0)

  -- so far on those below i
  abbrev pub laid_to : ℕ → List ℕ
  laid_to i = paste old 0 (pairs piece copy (below 128)) (2 * i)

  module _ (long : length old ≡ 256) where
    fits : 2 * length (below 128) ≤ length old
    fits = let e = length_below 128 in omega arith

    laid_past : (i : ℕ) → i < 128 → member i (cells_of mask) ≡ false → laid_to i ≡ laid_to (i + 1)
    laid_past i h e =
        let n = number_at 128 i h in
        front_kept piece copy old (below 128) 0 fits i (let e = length_below 128 in omega arith)
        (sym (ap piece n ∙ ap {B = ℕ} (λ (b : Bool). cond b c.piece (get_or old (2 * i) 0)) e))
        (sym (ap copy n ∙ ap {B = ℕ} (λ (b : Bool). cond b c.copy (get_or old (2 * i + 1) 0)) e))

    skip : (m i : ℕ) → i + m ≤ 128 → ((k : ℕ) → i ≤ k → k < i + m → has mask k ≡ false) → laid_to i ≡ laid_to (i + m)
    skip zero i h none = let e : i ≡ i + 0 = omega arith in ap laid_to e
    skip (suc m) i h none =
        let e : (i + 1) + m ≡ i + suc m = omega arith in
        laid_past i (omega arith) (in_cells mask i (omega arith) ∙ none i (omega arith) (omega arith))
        ∙ skip m (i + 1) (omega arith) (λ k a b. none k (omega arith) (omega arith)) ∙ ap laid_to e

    pub laid_none : old ≡ laid_to 0
    laid_none = paste-zero old 0 (pairs piece copy (below 128))

    pub laid_on : (i r : ℕ) → i ≤ 128 → FirstIn (has mask) i r → laid_to i ≡ laid_to r
    laid_on i r h f =
        let a = f.from in
        let b = f.up_to in
        let e : i + (r - i) ≡ r = omega arith in
        skip (r - i) i (omega arith) (λ k l m. f.passed k l (omega arith)) ∙ ap laid_to e

    pub laid_hit : (i : ℕ) → i < 128 → has mask i ≡ true → (told : List ℕ) → told ≡ laid_to i → set (set told (2 * i) c.piece) (2 * i + 1) c.copy ≡ laid_to (i + 1)
    laid_hit i h e told is =
        let n = number_at 128 i h in
        let on : member i (cells_of mask) ≡ true = in_cells mask i h ∙ e in
        front_next piece copy old (below 128) 0 fits i (let e = length_below 128 in omega arith) told is c.piece c.copy
        (sym (ap piece n ∙ ap {B = ℕ} (λ (b : Bool). cond b c.piece (get_or old (2 * i) 0)) on))
        (sym (ap copy n ∙ ap {B = ℕ} (λ (b : Bool). cond b c.copy (get_or old (2 * i + 1) 0)) on))

    pub laid_all : laid_to 128 ≡ laid (cells_of mask) c old
    unfolding laid
    laid_all =
        let e : length (pairs piece copy (below 128)) ≡ 256 = let a = length_pairs piece copy (below 128) in let b = length_below 128 in omega arith in
        let long' : length old ≤ 0 + 256 = omega arith in
        ap₂ (λ (xs ys : List ℕ). xs ++ ys) (take_all 256 (pairs piece copy (below 128)) (omega arith)) (drop_of_length-le old long')
        ∙ append-nil (pairs piece copy (below 128))
