-- Rows by ranges: where the rows of a kind at a cell begin and end, and a row looked up among them. Assumes nothing.
use Prim.Native.Nat.{ℕ, ◌+◌, ◌*◌, ◌^◌, ◌≤◌, ◌<◌}
use mathlib.Core.Bool.{Bool, true, false, ◌&&◌, true≢false}
use mathlib.Core.List.{List, [], ◌∷◌, Memᴰ}
use mathlib.Core.Logic.{⊎_elim}
use mathlib.Core.Path.{◌≡◌, sym, ap₂, ◌∙◌, subst, fun_ext}
use native.Mathlib.Omega.{arith}
use borrow.Author.Count.{below_more}
use lib.Dec.{T, eqb, ltb, leb, ltb→lt, eqb→eq, leb→le, le→leb}
use lib.ListN.{length, get_or, set, length-map}
use lib.Seq.{get_or-set_same, get_or-set_other}
use Rattle.lists.specs.Lists.{all, ascending, before, below, keep, less, same}
use Rattle.lists.proofs.TestLaws.{and_left, and_right, or_cases, is_true, is_false, holds, tests_same, lt_or_ge, by_eq, by_order}
use Rattle.lists.proofs.ListLaws.{before_is, before_by, before_few, before_most, before_none, all_at, keep_at, keep_of}
use Rattle.lists.proofs.SortLaws.{same→eq, same_refl}
use Rattle.lists.proofs.RangeLaws.{map_from_mem, map_from_ahead, before_holds, below_at, below_of, get_or_below, length_below}
use Rattle.definitions.specs.Placements.{Placement}
use Rattle.definitions.specs.Packing.{ahead, rank}
use Rattle.masks.specs.Masks.{has, SameCells, FirstIn}
use Rattle.masks.specs.declared.Mask.{Mask}
use Rattle.masks.proofs.MaskLaws.{beyond}
use Rattle.rows.specs.Rows.{cells_of, mask_at, row_at, rows_in}
use Rattle.rows.specs.Ranges.{start_of, Ranged, FirstCells}
use Rattle.rows.specs.Systems.{row_with}

-- ---- the cells of a mask
cells_at : (m : Mask) {k : ℕ} → Memᴰ k (cells_of m) → (k < 128) × (has m k ≡ true)
unfolding cells_of
cells_at m {k} h = let r = keep_at (has m) (below 128) h in (below_at 128 r.0, is_true (has m k) r.1)

cells-of : (m : Mask) {k : ℕ} → k < 128 → has m k ≡ true → Memᴰ k (cells_of m)
unfolding cells_of
cells-of m {k} h e = keep_of (has m) (below 128) (below_of 128 h) (holds (has m k) e)

-- ---- the range of a row, and the order of rows
abbrev pub range_of : Placement → ℕ
range_of q = 128 * q.kind + q.p

ahead_range : (q r : Placement) → q.p < 128 → T (ahead q r) → range_of q ≤ range_of r
unfolding ahead rank
ahead_range q r small t =
    ⊎_elim (λ s. let l = ltb→lt q.kind r.kind s in omega arith)
    (λ s. let e = eqb→eq q.kind r.kind (and_left (eqb q.kind r.kind) ps s) in
    ⊎_elim (λ u. let l = ltb→lt q.p r.p u in omega arith)
    (λ u. let f = eqb→eq q.p r.p (and_left (eqb q.p r.p) js u) in omega arith)
    (or_cases (ltb q.p r.p) (eqb q.p r.p && js) (and_right (eqb q.kind r.kind) ps s)))
    (or_cases (ltb q.kind r.kind) (eqb q.kind r.kind && ps) t)
  where
    js : Bool
    js = less (q.j ∷ []) (r.j ∷ [])

    ps : Bool
    ps = less (q.p ∷ q.j ∷ []) (r.p ∷ r.j ∷ [])

-- ---- where a range begins
abbrev from_range : ℕ → Placement → Bool
from_range i q = leb i (range_of q)

module _ (work : List ℕ) (n : ℕ) where
  pub rows_length : length (rows_in work n) ≡ n
  unfolding rows_in
  rows_length = length-map (below n) (row_at work) ∙ length_below n

  row_in : (r : ℕ) → r < n → Memᴰ (row_at work r) (rows_in work n)
  unfolding rows_in
  row_in r h = map_from_mem (row_at work) 0 n r (omega arith) (omega arith)

  row_entry : (r : ℕ) → r < n → get_or (rows_in work n) r (row_at work 0) ≡ row_at work r
  unfolding rows_in
  row_entry r h = get_or_below (row_at work) (row_at work 0) n r h

  pub start_most : (i : ℕ) → start_of (rows_in work n) i ≤ n
  unfolding start_of
  start_most i = let a = before_few (from_range i) (rows_in work n) in let b = rows_length in omega arith

  -- a row of a range from i on stands no earlier, and the first that does is one
  pub start_first : (i r : ℕ) → r < n → i ≤ range_of (row_at work r) → start_of (rows_in work n) i ≤ r
  unfolding start_of
  start_first i r h l =
      before_most (from_range i) (row_at work 0) (rows_in work n) r (let b = rows_length in omega arith)
      (subst (λ (q : Placement). T (from_range i q)) (sym (row_entry r h)) (le→leb i (range_of (row_at work r)) l))

  pub start_holds : (i : ℕ) → start_of (rows_in work n) i < n → i ≤ range_of (row_at work (start_of (rows_in work n) i))
  unfolding start_of rows_in
  start_holds i h =
      leb→le i _ (subst (λ (r : ℕ). T (from_range i (row_at work r))) (let e : 0 + before (from_range i) (rows_in work n) ≡ before (from_range i) (rows_in work n) = omega arith in e)
      (before_holds (from_range i) (row_at work) 0 n h))

  pub start_next : (i r : ℕ) → r < n → range_of (row_at work r) < i → r ≤ start_of (rows_in work n) i → r + 1 ≤ start_of (rows_in work n) i
  start_next i r h l k =
      by_eq (start_of (rows_in work n) i) r
      (λ e. absurd (let a = subst (λ (x : ℕ). i ≤ range_of (row_at work x)) e (start_holds i (omega arith)) in omega arith)) (λ d. omega arith)

  pub before_start : (i r : ℕ) → r < start_of (rows_in work n) i → range_of (row_at work r) < i
  before_start i r h =
      let m = start_most i in
      by_order i (range_of (row_at work r)) (λ l. absurd (let a = start_first i r (omega arith) l in omega arith)) (λ l. l)

  -- a later range begins no earlier; and all rows stand before a range that none reaches
  pub starts_up : (i j : ℕ) → i ≤ j → start_of (rows_in work n) i ≤ start_of (rows_in work n) j
  unfolding start_of
  starts_up i j h =
      let e = before_by (from_range j) (from_range i) (rows_in work n) (λ q m t. let l = leb→le j (range_of q) t in le→leb i (range_of q) (omega arith)) in
      omega arith

  pub start_all : T (all (λ q. ltb (128 * q.kind + q.p) 2048) (rows_in work n)) → start_of (rows_in work n) 2048 ≡ n
  unfolding start_of
  start_all few =
      before_none (from_range 2048) (rows_in work n)
      (λ q m t. let a = leb→le 2048 (range_of q) t in let b = ltb→lt (range_of q) 2048 (all_at (λ q. ltb (128 * q.kind + q.p) 2048) (rows_in work n) few m) in omega arith)
      ∙ rows_length

  pub range_small : T (all (λ q. ltb (128 * q.kind + q.p) 2048) (rows_in work n)) → (r : ℕ) → r < n → range_of (row_at work r) < 2048
  range_small few r h = ltb→lt (range_of (row_at work r)) 2048 (all_at (λ q. ltb (128 * q.kind + q.p) 2048) (rows_in work n) few (row_in r h))

  -- ---- rows in order: the rows of range i are those from where it begins to where the next does
  module _ (fc : FirstCells (rows_in work n)) (up : T (ascending ahead (rows_in work n))) where
    first_small : (r : ℕ) → r < n → (row_at work r).p < 128
    unfolding row_at
    first_small r h = (cells_at (mask_at work r) (fc.covers_p (row_at work r) (row_in r h))).0

    pub from_start : (i r : ℕ) → start_of (rows_in work n) i ≤ r → r < n → i ≤ range_of (row_at work r)
    unfolding rows_in
    from_start i r h l =
        let s = start_of (rows_in work n) i in
        let a = start_holds i (omega arith) in
        by_eq s r (λ e. subst (λ (x : ℕ). i ≤ range_of (row_at work x)) e a)
        (λ d. let b = ahead_range (row_at work s) (row_at work r) (first_small s (omega arith))
        (map_from_ahead ahead (row_at work) 0 n up s r (omega arith) (omega arith) (omega arith)) in omega arith)

    pub range_at : (i r : ℕ) → start_of (rows_in work n) i ≤ r → r < start_of (rows_in work n) (i + 1) → range_of (row_at work r) ≡ i
    range_at i r h l =
        let m = start_most (i + 1) in
        let a = from_start i r h (omega arith) in
        let b = before_start (i + 1) r l in
        omega arith

    pub range-of : (i r : ℕ) → r < n → range_of (row_at work r) ≡ i → (start_of (rows_in work n) i ≤ r) × (r < start_of (rows_in work n) (i + 1))
    range-of i r h e = (
      start_first i r h (omega arith),
      by_order (start_of (rows_in work n) (i + 1)) r (λ l. absurd (let a = from_start (i + 1) r l h in omega arith)) (λ l. l),
    )

-- ---- the starts, range by range
module _ (work : List ℕ) (n : ℕ) where
  abbrev pub Begun : List ℕ → ℕ → Type 0
  Begun starts i = (j : ℕ) → j < i → get_or starts j 0 ≡ start_of (rows_in work n) j

  pub begun_next : (starts : List ℕ) (i r : ℕ) → i < length starts → r ≡ start_of (rows_in work n) i → Begun starts i → Begun (set starts i r) (i + 1)
  begun_next starts i r h e b =
      below_more (λ (j : ℕ). get_or (set starts i r) j 0 ≡ start_of (rows_in work n) j) i
      (λ j l. get_or-set_other starts i j r 0 (λ q. omega arith) ∙ b j l) (get_or-set_same starts i r 0 h ∙ e)

  pub begun_all : (starts : List ℕ) → T (all (λ q. ltb (128 * q.kind + q.p) 2048) (rows_in work n)) → Begun starts 2049 → Ranged work starts n
  begun_all starts few b = record { begins = λ i h. b i (omega arith); ends = b 2048 (omega arith) ∙ start_all work n few }

-- ---- looking a row up
abbrev pub matches : List ℕ → Placement → Bool
matches key q = same (q.kind ∷ q.cells) key

-- what `==` of masks tells
pub are_same : (r : Bool) (a b : ℕ → Bool) → r ≡ true → SameCells r a b → a ≡ b
are_same true a b e h = h
are_same false a b e h = absurd (true≢false (sym e))

pub are_apart : (r : Bool) (a b : ℕ → Bool) → r ≡ false → SameCells r a b → a ≡ b → ⊥
are_apart true a b e h = absurd (true≢false e)
are_apart false a b e h = h

-- masks with the same cells have the same numbers
pub same_numbers : (a b : Mask) → a.high < 2 ^ 64 → b.high < 2 ^ 64 → cells_of a ≡ cells_of b → has a ≡ has b
same_numbers a b la lb e = fun_ext λ k. ⊎_elim (λ (h : k < 128). low k h) (λ (h : 128 ≤ k). beyond a.low a.high k la h ∙ sym (beyond b.low b.high k lb h)) (lt_or_ge k 128)
  where
    low : (k : ℕ) → k < 128 → has a k ≡ has b k
    low k h =
        tests_same (has a k) (has b k)
        (λ t. holds (has b k) (cells_at b (subst (λ (l : List ℕ). Memᴰ k l) e (cells-of a h (is_true (has a k) t)))).1)
        (λ t. holds (has a k) (cells_at a (subst (λ (l : List ℕ). Memᴰ k l) (sym e) (cells-of b h (is_true (has b k) t)))).1)

module _ (work : List ℕ) (r kind : ℕ) (m : Mask) where
  pub match_yes : (row_at work r).kind ≡ kind → has (mask_at work r) ≡ has m → matches (kind ∷ cells_of m) (row_at work r) ≡ true
  unfolding row_at cells_of
  match_yes e f =
      is_true (same (get_or work (8 * r + 2) 0 ∷ cells_of (mask_at work r)) (kind ∷ cells_of m))
      (subst (λ (l : List ℕ). T (same (get_or work (8 * r + 2) 0 ∷ cells_of (mask_at work r)) l)) (ap₂ (λ (k : ℕ) (t : ℕ → Bool). k ∷ keep t (below 128)) e f)
      (same_refl (get_or work (8 * r + 2) 0 ∷ cells_of (mask_at work r))))

  pub match_cells : (mask_at work r).high < 2 ^ 64 → m.high < 2 ^ 64 → (has (mask_at work r) ≡ has m → ⊥) → matches (kind ∷ cells_of m) (row_at work r) ≡ false
  unfolding row_at
  match_cells la lb f =
      is_false (matches (kind ∷ cells_of m) (row_at work r))
      (λ t. f (same_numbers (mask_at work r) m la lb (same→eq (cells_of (mask_at work r)) (cells_of m) (and_right (eqb (row_at work r).kind kind) (same (cells_of (mask_at work r)) (cells_of m)) t))))

-- no row before r has a kind and the cells of a mask
abbrev pub Passed : List ℕ → List ℕ → ℕ → Type 0
Passed work key r = (s : ℕ) → s < r → T (matches key (row_at work s)) → ⊥

module _ (work : List ℕ) (n kind : ℕ) (m : Mask) where
  find_is : (r : ℕ) → r ≤ n → Passed work (kind ∷ cells_of m) r → (r < n → T (matches (kind ∷ cells_of m) (row_at work r))) → r ≡ row_with (rows_in work n) (kind ∷ cells_of m)
  unfolding row_with
  find_is r h none hit =
      let t = matches (kind ∷ cells_of m) in
      let e = rows_length work n in
      sym (before_is t (row_at work 0) (rows_in work n) r (omega arith)
      (λ s l u. none s l (subst (λ (q : Placement). T (t q)) (row_entry work n s (omega arith)) u))
      (λ l. subst (λ (q : Placement). T (t q)) (sym (row_entry work n r (omega arith))) (hit (omega arith))))

  pub find_next : (r : ℕ) → (mask_at work r).high < 2 ^ 64 → m.high < 2 ^ 64 → (has (mask_at work r) ≡ has m → ⊥) → Passed work (kind ∷ cells_of m) r → Passed work (kind ∷ cells_of m) (r + 1)
  find_next r la lb f none =
      below_more (λ (s : ℕ). T (matches (kind ∷ cells_of m) (row_at work s)) → ⊥) r none
      (λ t. true≢false (sym (is_true (matches (kind ∷ cells_of m) (row_at work r)) t) ∙ match_cells work r kind m la lb f))

  module _ (starts : List ℕ) (ranged : Ranged work starts n) (fc : FirstCells (rows_in work n)) (up : T (ascending ahead (rows_in work n))) (c : ℕ) (first : FirstIn (has m) 0 c) where
    -- a row with the kind and the cells is at the mask's first cell
    matched : (r : ℕ) → r < n → T (matches (kind ∷ cells_of m) (row_at work r)) → (c < 128) × (range_of (row_at work r) ≡ 128 * kind + c)
    matched r h t =
        let q = row_at work r in
        let k = eqb→eq q.kind kind (and_left (eqb q.kind kind) (same q.cells (cells_of m)) t) in
        let e = same→eq q.cells (cells_of m) (and_right (eqb q.kind kind) (same q.cells (cells_of m)) t) in
        let p = cells_at m (subst (λ (l : List ℕ). Memᴰ q.p l) e (fc.covers_p q (row_in work n r h))) in
        let a = by_order c q.p (λ l. l) (λ l. absurd (true≢false (sym p.1 ∙ first.passed q.p (omega arith) l))) in
        let b = fc.from_p q (row_in work n r h) c (subst (λ (l : List ℕ). Memᴰ c l) (sym e) (cells-of m (omega (arith, p.0)) (first.stops (omega (arith, p.0))))) in
        (omega (arith, p.0), omega arith)

    pub find_none : c ≡ 128 → n ≡ row_with (rows_in work n) (kind ∷ cells_of m)
    find_none e = find_is n (omega arith) (λ s h t. let a = (matched s h t).0 in omega arith) (λ l. absurd (omega arith))

    pub find_beyond : 16 ≤ kind → n ≡ row_with (rows_in work n) (kind ∷ cells_of m)
    find_beyond k =
        let e = sym (ranged.begins 2048 (omega arith)) ∙ ranged.ends in
        find_is n (omega arith) (λ s h t. let a = (matched s h t).1 in let b = before_start work n 2048 s (omega arith) in omega arith) (λ l. absurd (omega arith))

    module _ (few : kind < 16) (inside : c < 128) where
      pub end_most : get_or starts (128 * kind + c + 1) 0 ≤ n
      end_most = let e = ranged.begins (128 * kind + c + 1) (omega arith) in let a = start_most work n (128 * kind + c + 1) in omega arith

      pub find_start : Passed work (kind ∷ cells_of m) (get_or starts (128 * kind + c) 0)
      find_start s l t =
          let e = ranged.begins (128 * kind + c) (omega arith) in
          let b = start_most work n (128 * kind + c) in
          let h = (matched s (omega arith) t).1 in
          let a = (range-of work n fc up (128 * kind + c) s (omega arith) h).0 in
          omega arith

      pub find_end : (r : ℕ) → get_or starts (128 * kind + c + 1) 0 ≤ r → Passed work (kind ∷ cells_of m) r → n ≡ row_with (rows_in work n) (kind ∷ cells_of m)
      find_end r l none =
          let e = ranged.begins (128 * kind + c + 1) (omega arith) in
          find_is n (omega arith)
          (λ s h t. by_order r s
          (λ k. let a = (range-of work n fc up (128 * kind + c) s h (matched s h t).1).1 in omega arith)
          (λ k. none s k t)) (λ k. absurd (omega arith))

      -- a row of the range, and whether it has the cells
      module _ (r : ℕ) (h : get_or starts (128 * kind + c) 0 ≤ r) (l : r < get_or starts (128 * kind + c + 1) 0) where
        row_kind : (row_at work r).kind ≡ kind
        row_kind =
            let a = ranged.begins (128 * kind + c) (omega arith) in
            let b = ranged.begins (128 * kind + c + 1) (omega arith) in
            let m = end_most in
            let e = range_at work n fc up (128 * kind + c) r (omega arith) (omega arith) in
            let p = first_small work n fc up r (omega arith) in
            omega arith

        pub find_hit : has (mask_at work r) ≡ has m → Passed work (kind ∷ cells_of m) r → r ≡ row_with (rows_in work n) (kind ∷ cells_of m)
        find_hit e none = find_is r (let m = end_most in omega arith) none (λ k. holds (matches (kind ∷ cells_of m) (row_at work r)) (match_yes work r kind m row_kind e))
