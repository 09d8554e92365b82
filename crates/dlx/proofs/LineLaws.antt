-- Words put one behind the other: the items of the first so many cells, kinds or places, and one more; and the lines made of them. Assumes nothing.
use Prim.Native.Nat.{ℕ, zero, suc, ◌+◌, ◌^◌, ◌≤◌, ◌<◌}
use mathlib.Core.Bool.{Bool, true, false}
use mathlib.Core.List.{List, [], ◌∷◌, ◌++◌, map, map-append, append_assoc, append-nil}
use mathlib.Core.Path.{◌≡◌, refl, sym, ap, ap₂, ◌∙◌, subst}
use mathlib.Core.Logic.{⊎_elim}
use native.Mathlib.Omega.{arith}
use lib.Dec.{ltb}
use lib.ListN.{length, get_or, take, set, length-map}
use Rattle.std.proofs.lemmas.List.{take_more}
use Rattle.lists.specs.Lists.{keep, from, below, member}
use Rattle.lists.proofs.TestLaws.{is_false, lt_or_ge}
use Rattle.lists.proofs.ListLaws.{keep_at, keep_same, keep_with, keep_without}
use Rattle.lists.proofs.RangeLaws.{below_at, below_next, length_below, member_at, get_or_below}
use Rattle.definitions.specs.Dlx1.{cell_item, kind_item, spaced, line, stocked, barred, item_line, built_cells, option_line}
use Rattle.definitions.specs.Files.{decimal}
use Rattle.masks.specs.Masks.{has}
use Rattle.masks.specs.declared.Mask.{Mask}
use Rattle.masks.proofs.MaskLaws.{beyond}
use Rattle.rows.specs.Rows.{cells_of, row_at, mask_at}
use Rattle.rows.proofs.AnsweringLaws.{in_cells}
use Rattle.theorems.proofs.DigitLaws.{three_digits}
use Rattle.texts.specs.Put.{Put}
use Rattle.texts.proofs.PutLaws.{put_one, put_then, put_byte, put_from}
use Rattle.definitions.specs.Dlx1.{parted}

-- ---- one entry more
parted_append : (vs ws : List (List ℕ)) → parted (vs ++ ws) ≡ parted vs ++ parted ws
parted_append [] ws = refl
parted_append (v ∷ vs) ws = ap (λ (l : List ℕ). 32 ∷ v ++ l) (parted_append vs ws) ∙ sym (append_assoc (32 ∷ v) (parted vs) (parted ws))

parted_end : (vs : List (List ℕ)) (w : List ℕ) → parted (vs ++ (w ∷ [])) ≡ parted vs ++ 32 ∷ w
parted_end vs w = parted_append vs (w ∷ []) ∙ ap (λ (l : List ℕ). parted vs ++ 32 ∷ l) (append-nil w)

spaced_append : (v : List ℕ) (vs ws : List (List ℕ)) → spaced (v ∷ vs ++ ws) ≡ spaced (v ∷ vs) ++ parted ws
spaced_append v vs ws = ap (λ (l : List ℕ). v ++ l) (parted_append vs ws) ∙ sym (append_assoc v (parted vs) (parted ws))

barred_first : (vs : List (List ℕ)) (w : List ℕ) → length (parted (barred vs)) ≡ 0
    → parted (barred (vs ++ (w ∷ []))) ≡ ((parted (barred vs) ++ (32 ∷ [])) ++ (124 ∷ [])) ++ 32 ∷ w
barred_first [] w e = ap (λ (l : List ℕ). 32 ∷ 124 ∷ 32 ∷ l) (append-nil w)
barred_first (v ∷ vs) w e = absurd (omega arith)

barred_more : (vs : List (List ℕ)) (w : List ℕ) → 0 < length (parted (barred vs)) → parted (barred (vs ++ (w ∷ []))) ≡ parted (barred vs) ++ 32 ∷ w
barred_more [] w h = absurd (omega arith)
barred_more (v ∷ vs) w h = parted_end ((124 ∷ []) ∷ v ∷ vs) w

-- ---- an item, and an item behind others
module _ {line new : List ℕ} {at letter n r : ℕ} (h : n < 1000) where
  pub put_letter : at + 21 ≤ length line → Put (set line at letter) (at + 1) (decimal n) new r → Put line at (letter ∷ decimal n) new r × (r ≤ at + 4)
  put_letter k q = let d = three_digits n h in let e = q.end in (put_then (put_one line at letter (omega arith)) q (omega arith), omega arith)

  pub put_space : at + 22 ≤ length line → Put (set line at 32) (at + 1) (letter ∷ decimal n) new r → Put line at (32 ∷ letter ∷ decimal n) new r × (r ≤ at + 5)
  put_space k q = let d = three_digits n h in let e = q.end in (put_then (put_one line at 32 (omega arith)) q (omega arith), omega arith)

-- ---- the items of the cells before n
cells_more : (n : ℕ) → 1 ≤ n → spaced (map cell_item (below (n + 1))) ≡ spaced (map cell_item (below n)) ++ 32 ∷ cell_item n
cells_more zero h = absurd (omega arith)
cells_more (suc n) h =
    ap (λ (ns : List ℕ). spaced (map cell_item ns)) (below_next (suc n)) ∙ ap spaced (map-append cell_item (below (suc n)) (suc n ∷ []))
    ∙ spaced_append (cell_item 0) (map cell_item (from 1 n)) (cell_item (suc n) ∷ []) ∙ ap (λ (l : List ℕ). spaced (map cell_item (below (suc n))) ++ 32 ∷ l) (append-nil (cell_item (suc n)))

pub put_first_cell : {old new : List ℕ} {at r : ℕ} → Put old at (98 ∷ decimal 0) new r → Put old at (spaced (map cell_item (below 1))) new r
unfolding cell_item
put_first_cell {old} {new} {at} {r} q = subst (λ (l : List ℕ). Put old at l new r) (sym (append-nil (98 ∷ decimal 0))) q

module _ {old mid new : List ℕ} {at m r : ℕ} where
  pub put_next_cell : (n : ℕ) → 1 ≤ n → Put old at (spaced (map cell_item (below n))) mid m → Put mid m (32 ∷ 98 ∷ decimal n) new r → r ≤ length old
      → Put old at (spaced (map cell_item (below (n + 1)))) new r
  unfolding cell_item
  put_next_cell n h p q k = subst (λ (l : List ℕ). Put old at l new r) (sym (cells_more n h)) (put_then p q k)

-- ---- the bar and the items of the kinds before k that have copies
abbrev pub kinds_to : (ℕ → Bool) → ℕ → List ℕ
kinds_to p k = parted (barred (map kind_item (keep p (below k))))

module _ (p : ℕ → Bool) (k : ℕ) where
  abbrev kept : List (List ℕ)
  kept = map kind_item (keep p (below k))

  with_k : p k ≡ true → map kind_item (keep p (below (k + 1))) ≡ kept ++ (kind_item k ∷ [])
  with_k e = ap (λ (ks : List ℕ). map kind_item (keep p ks)) (below_next k) ∙ ap (map kind_item) (keep_with p (below k) k e) ∙ map-append kind_item (keep p (below k)) (k ∷ [])

  pub kinds_skip : p k ≡ false → kinds_to p k ≡ kinds_to p (k + 1)
  kinds_skip e = sym (ap (λ (ks : List ℕ). parted (barred (map kind_item (keep p ks)))) (below_next k) ∙ ap (λ (ks : List ℕ). parted (barred (map kind_item ks))) (keep_without p (below k) k e))

  module _ {old mid new : List ℕ} {at m r : ℕ} (e : p k ≡ true) (b : Put old at (kinds_to p k) mid m) (room : r ≤ length old) where
    pub put_first_kind : m ≡ at → Put (set (set mid at 32) (at + 1) 124) (at + 2) (32 ∷ 112 ∷ decimal k) new r → Put old at (kinds_to p (k + 1)) new r
    unfolding kind_item
    put_first_kind i q =
        let d = b.end in
        let f = q.end in
        subst (λ (l : List ℕ). Put old at l new r) (sym (ap (λ (ws : List (List ℕ)). parted (barred ws)) (with_k e) ∙ barred_first kept (kind_item k) (omega arith)))
        (put_then (put_byte 124 (put_byte 32 b (omega arith)) (omega arith)) (put_from (ap (λ (j : ℕ). set (set mid j 32) (j + 1) 124) (sym i)) (omega arith) q) room)

    pub put_next_kind : (m ≡ at → ⊥) → Put mid m (32 ∷ 112 ∷ decimal k) new r → Put old at (kinds_to p (k + 1)) new r
    unfolding kind_item
    put_next_kind i q =
        let d = b.end in
        subst (λ (l : List ℕ). Put old at l new r) (sym (ap (λ (ws : List (List ℕ)). parted (barred ws)) (with_k e) ∙ barred_more kept (kind_item k) (omega arith)))
        (put_then b q room)

pub stocked_is : (f : ℕ → ℕ) (n : ℕ) → stocked (map f (below n)) ≡ keep (λ k. ltb 0 (f k)) (below n)
unfolding stocked
stocked_is f n =
    ap (λ (m : ℕ). keep (λ k. ltb 0 (get_or (map f (below n)) k 0)) (below m)) (length-map (below n) f ∙ length_below n)
    ∙ keep_same (λ k. ltb 0 (get_or (map f (below n)) k 0)) (λ k. ltb 0 (f k)) (below n) (λ k m. ap (ltb 0) (get_or_below f 0 n k (below_at n m)))

-- ---- the items of those cells of a mask that stand at the places before i
abbrev pub cells_to : (ℕ → Bool) → List ℕ → ℕ → List ℕ
cells_to p xs i = parted (map cell_item (keep p (take i xs)))

module _ (p : ℕ → Bool) (xs : List ℕ) (i : ℕ) (h : i < length xs) where
  abbrev n : ℕ
  n = get_or xs i 0

  with_n : cells_to p xs (i + 1) ≡ parted (map cell_item (keep p (take i xs ++ (n ∷ []))))
  with_n = ap (λ (ns : List ℕ). parted (map cell_item (keep p ns))) (take_more xs i 0 h)

  pub cells_skip : p n ≡ false → cells_to p xs i ≡ cells_to p xs (i + 1)
  cells_skip e = sym (with_n ∙ ap (λ (ns : List ℕ). parted (map cell_item ns)) (keep_without p (take i xs) n e))

  pub put_cell_at : {old mid new : List ℕ} {at m r : ℕ} → p n ≡ true → Put old at (cells_to p xs i) mid m → Put mid m (32 ∷ 98 ∷ decimal n) new r → r ≤ length old
      → Put old at (cells_to p xs (i + 1)) new r
  unfolding cell_item
  put_cell_at {old} {mid} {new} {at} {m} {r} e b q k =
      subst (λ (l : List ℕ). Put old at l new r)
      (sym (with_n ∙ ap (λ (ns : List ℕ). parted (map cell_item ns)) (keep_with p (take i xs) n e)
      ∙ ap parted (map-append cell_item (keep p (take i xs)) (n ∷ [])) ∙ parted_end (map cell_item (keep p (take i xs))) (cell_item n)))
      (put_then b q k)

-- a mask's cells are its numbers
in_mask : (m : Mask) → m.high < 2 ^ 64 → (n : ℕ) → has m n ≡ member n (cells_of m)
unfolding cells_of
in_mask m h n =
    ⊎_elim (λ (l : n < 128). sym (in_cells m n l))
    (λ (g : 128 ≤ n). beyond m.low m.high n h g ∙ sym (is_false (member n (cells_of m)) (λ t. let k = below_at 128 (keep_at (has m) (below 128) (member_at n (cells_of m) t)).0 in omega arith)))
    (lt_or_ge n 128)

-- ---- whole lines
module _ {old mid next : List ℕ} {at m k : ℕ} where
  pub put_first_line : (size : ℕ) (copies : List ℕ) → 1 ≤ size → Put old at (spaced (map cell_item (below size))) mid m
      → Put mid m (parted (barred (map kind_item (stocked copies)))) next k → k < length old → Put old at (item_line size copies) (set next k 10) (k + 1)
  unfolding item_line line
  put_first_line zero copies h p q l = absurd (omega arith)
  put_first_line (suc size) copies h p q l =
      subst (λ (t : List ℕ). Put old at (t ++ 10 ∷ []) (set next k 10) (k + 1)) (sym (spaced_append (cell_item 0) (map cell_item (from 1 size)) (barred (map kind_item (stocked copies)))))
      (put_byte 10 (put_then p q (omega arith)) l)

  pub put_option_line : (work scans : List ℕ) (r kind : ℕ) (mask : Mask) → kind ≡ (row_at work r).kind → mask ≡ mask_at work r → mask.high < 2 ^ 64
      → Put old at (112 ∷ decimal kind) mid m → Put mid m (parted (map cell_item (keep (has mask) scans))) next k → k < length old
      → Put old at (option_line scans (row_at work r)) (set next k 10) (k + 1)
  unfolding option_line line kind_item built_cells row_at
  put_option_line work scans r kind mask e f h p q l =
      let cells : keep (has mask) scans ≡ keep (λ n. member n (cells_of (mask_at work r))) scans
      = keep_same (has mask) (λ n. member n (cells_of (mask_at work r))) scans (λ n i. in_mask mask h n ∙ ap (λ (x : Mask). member n (cells_of x)) f) in
      subst (λ (t : List ℕ). Put old at t (set next k 10) (k + 1)) (ap₂ (λ (j : ℕ) (ns : List ℕ). ((112 ∷ decimal j) ++ parted (map cell_item ns)) ++ 10 ∷ []) e cells)
      (put_byte 10 (put_then p q (omega arith)) l)
