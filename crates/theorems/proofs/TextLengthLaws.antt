-- The text for DLX1 has at most 663,552 bytes: each item has at most 4, a line of n items at most 5 * n + 1, an option at most 129 items, and there are at most
-- 1,024 options. Assumes nothing.
use Prim.Native.Nat.{ℕ, ◌+◌, ◌*◌, ◌≤◌, ◌<◌}
use mathlib.Core.List.Memᴰ
use mathlib.Core.List.{List, [], ◌∷◌, ◌++◌, map, Memᴰ}
use mathlib.Core.Path.{◌≡◌, refl, ap, subst}
use mathlib.Core.Logic.{◌⊎◌, inl, inr}
use native.Mathlib.Nat.{suc-mul}
use native.Mathlib.Omega.{arith}
use lib.Dec.{ltb}
use lib.ListN.{length, get_or, length-append, length-map}
use Rattle.lists.specs.Lists.{keep, member, below, joined}
use Rattle.lists.proofs.ListLaws.{keep_at, keep_length, before_few}
use Rattle.lists.proofs.RangeLaws.{below_at, length_below}
use Rattle.definitions.specs.Grid.{same_cell, filled_cells}
use Rattle.definitions.specs.Scan.{scan_number}
use Rattle.definitions.specs.Kinds.{Kind}
use Rattle.definitions.specs.Placements.{Placement, Compiled, compile}
use Rattle.definitions.specs.Packing.{limits}
use Rattle.definitions.specs.Refusals.{Call, tray_of, placement_count, rows_of, refusal}
use Rattle.definitions.specs.Dlx1.{cell_item, kind_item, line, stocked, barred, item_line, boxed, built_cells, option_line, dlx1_text}
use Rattle.definitions.specs.TextCalls.{TextCall, as_listing, text_tray, text_of}
use Rattle.theorems.proofs.RefusalLaws.{passed}
use Rattle.theorems.proofs.FewLaws.{few_cells, few_kinds}
use Rattle.theorems.proofs.DigitLaws.{three_digits}
use Rattle.theorems.proofs.ShapeLaws.{scan_length}
use Rattle.theorems.proofs.GeometryLaws.{W}

-- ---- items of at most 4 bytes
cell_short : (n : ℕ) → n < 1000 → length (cell_item n) ≤ 4
unfolding cell_item
cell_short n h = let d = three_digits n h in omega arith

kind_short : (n : ℕ) → n < 1000 → length (kind_item n) ≤ 4
unfolding kind_item
kind_short n h = let d = three_digits n h in omega arith

-- each of some items is short
abbrev Short : List (List ℕ) → Type 0
Short ws = (w : List ℕ) → Memᴰ w ws → length w ≤ 4

-- ---- lines
joined_short : (n : ℕ) (ls : List (List ℕ)) → ((w : List ℕ) → Memᴰ w ls → length w ≤ n) → length (joined ls) ≤ length ls * n
joined_short n [] h = omega arith
joined_short n (w ∷ ls) h =
    let a = length-append w (joined ls) in
    let b = h w (Memᴰ.head refl) in
    let c = joined_short n ls (λ v m. h v (Memᴰ.tail m)) in
    let d = suc-mul (length ls) n in
    omega arith

line_short : (ws : List (List ℕ)) → Short ws → length (line ws) ≤ length ws * 5 + 1
unfolding line
line_short [] h = omega arith
line_short (w ∷ ws) h =
    let spaces = map (λ v. 32 ∷ v) ws in
    let a = joined_short 5 spaces (λ v m. let r = Memᴰ.of_map (λ (u : List ℕ). 32 ∷ u) ws m in let k = h r.0 (Memᴰ.tail r.1) in let e = ap length r.2 in omega arith) in
    let b = length-map {B = List ℕ} ws (λ v. 32 ∷ v) in
    let c = h w (Memᴰ.head refl) in
    let d = length-append w (joined spaces) in
    let e = length-append (w ++ joined spaces) (10 ∷ []) in
    omega arith

barred_length : (ws : List (List ℕ)) → length (barred ws) ≤ 1 + length ws
barred_length [] = omega arith
barred_length (w ∷ ws) = omega arith

barred_short : (ws : List (List ℕ)) → Short ws → Short (barred ws)
barred_short [] h w m = absurd (Memᴰ.not-nil m)
barred_short (v ∷ ws) h w m = go (Memᴰ.cases_cons m)
  where
    go : (w ≡ 124 ∷ []) ⊎ Memᴰ w (v ∷ ws) → length w ≤ 4
    go (inl e) = let k = ap length e in omega arith
    go (inr k) = h w k

mapped_short : (f : ℕ → List ℕ) (ns : List ℕ) → ((n : ℕ) → Memᴰ n ns → length (f n) ≤ 4) → Short (map f ns)
mapped_short f ns h w m = let r = Memᴰ.of_map f ns m in subst (λ (v : List ℕ). length v ≤ 4) r.2 (h r.0 r.1)

both_short : (vs ws : List (List ℕ)) → Short vs → Short ws → Short (vs ++ ws)
both_short vs ws h k w m = go (Memᴰ.append_cases vs m)
  where
    go : Memᴰ w vs ⊎ Memᴰ w ws → length w ≤ 4
    go (inl a) = h w a
    go (inr b) = k w b

-- ---- an accepted tray
module _ (l : Call) (ok : refusal l ≡ 0) where
  abbrev c : Compiled
  c = compile (tray_of l)

  -- ---- its text
  -- the numbers of the kinds that have copies
  stocked_at : (k : ℕ) → Memᴰ k (stocked (limits c)) → k < length c.kinds
  unfolding stocked limits
  stocked_at k m = let h = below_at (length (limits c)) (keep_at _ (below (length (limits c))) m).0 in let e = length-map c.kinds (λ (d : Kind). length d.copies) in omega arith

  few_stocked : length (stocked (limits c)) ≤ length c.kinds
  unfolding stocked limits
  few_stocked = let a = keep_length (λ k. ltb 0 (get_or (limits c) k 0)) (below (length (limits c))) in let b = length_below (length (limits c)) in let e = length-map c.kinds (λ (d : Kind). length d.copies) in omega arith

  first_line : length (item_line (length c.cells) (limits c)) ≤ 726
  unfolding item_line
  first_line =
      let cells = map cell_item (below (length c.cells)) in
      let kinds = map kind_item (stocked (limits c)) in
      let short = both_short cells (barred kinds) (mapped_short cell_item (below (length c.cells)) (λ n m. cell_short n (let h = below_at (length c.cells) m in let k = few_cells l ok in omega arith)))
      (barred_short kinds (mapped_short kind_item (stocked (limits c)) (λ k m. kind_short k (let h = stocked_at k m in let i = few_kinds l ok in omega arith)))) in
      let a = line_short (cells ++ barred kinds) short in
      let b = length-append cells (barred kinds) in
      let d = length-map (below (length c.cells)) cell_item in
      let e = length_below (length c.cells) in
      let f = barred_length kinds in
      let g = length-map (stocked (limits c)) kind_item in
      let h = few_stocked in
      let i = few_cells l ok in
      let j = few_kinds l ok in
      omega arith

  -- the numbers of cells of which a row's are some
  boxed_few : length (boxed c) ≤ 128
  unfolding boxed compile
  boxed_few = let a = length-map (filled_cells c.board) (scan_number c.cells) in let b = scan_length (tray_of l).board.sides (tray_of l).board in let d = few_cells l ok in omega arith

  boxed_at : (n : ℕ) → Memᴰ n (boxed c) → n ≤ 128
  unfolding boxed scan_number
  boxed_at n m = let r = Memᴰ.of_map (scan_number c.cells) (filled_cells c.board) m in let a = before_few (same_cell r.0) c.cells in let e = r.2 in let h = few_cells l ok in omega arith

  option_short : (q : Placement) → Memᴰ q c.placements → length (option_line (boxed c) q) ≤ 646
  unfolding option_line built_cells
  option_short q m =
      let ns = keep (λ n. member n q.cells) (boxed c) in
      let k = (W l ok).of_kinds q m in
      let few = few_kinds l ok in
      let short = both_short (kind_item q.kind ∷ []) (map cell_item ns) (mapped_short kind_item (q.kind ∷ []) (λ n i. kind_short n (let e = Memᴰ.eq_of_singleton i in omega arith)))
      (mapped_short cell_item ns (λ n i. cell_short n (let h = boxed_at n (keep_at (λ n. member n q.cells) (boxed c) i).0 in omega arith))) in
      let a = line_short (kind_item q.kind ∷ map cell_item ns) short in
      let b = length-map ns cell_item in
      let d = keep_length (λ n. member n q.cells) (boxed c) in
      let e = boxed_few in
      omega arith

  few_bytes : length (dlx1_text c) ≤ 663552
  unfolding dlx1_text placement_count rows_of
  few_bytes =
      let ls = map (option_line (boxed c)) (rows_of c) in
      let a = length-append (item_line (length c.cells) (limits c)) (joined ls) in
      let b = first_line in
      let d = joined_short 646 ls (λ w m. let r = Memᴰ.of_map (option_line (boxed c)) (rows_of c) m in subst (λ (v : List ℕ). length v ≤ 646) r.2 (option_short r.0 (keep_at _ c.placements r.1).0)) in
      let e = length-map (rows_of c) (option_line (boxed c)) in
      let f = keep_length (λ q. ltb 0 (get_or (limits c) q.kind 0)) c.placements in
      let g = (passed l ok).few_placements in
      omega arith

pub text_fits : (l : TextCall) → refusal (as_listing l) ≡ 0 → length (text_of l) ≤ 663552
unfolding text_of text_tray
text_fits l ok = few_bytes (as_listing l) ok
