-- Entries of one size, one after the other; and a page of a list of such entries, which is its stretch of the list, put over the start of the slice that is
-- lent. Assumes nothing.
use Prim.Native.Nat.{ℕ, zero, suc, ◌+◌, ◌-◌, ◌*◌, ◌/◌, ◌≤◌, ◌<◌, min}
use mathlib.Core.List.{List, [], ◌∷◌, ◌++◌, Memᴰ, append_assoc}
use mathlib.Core.Path.{◌≡◌, refl, sym, ap, ap₂, ◌∙◌}
use native.Mathlib.Nat.{div-mul-le_self, lt-div-mul-add, add-mul, suc-mul, one-mul, mul-le-mul_right, le_trans}
use native.Mathlib.Omega.{arith}
use lib.Dec.{T, ltb→lt, lt→ltb}
use lib.ListN.{length, get_or, take, drop, length-take, length-drop}
use lib.Seq.{length_front, length-take-le, take_at, drop-append-add}
use Rattle.std.specs.Prelude.{◌↔◌}
use Rattle.lists.specs.Lists.{joined}
use Rattle.lists.proofs.ListLaws.{take_min, take_in, drop_in, length_joined}
use Rattle.definitions.specs.Page.{Page, page}
use Rattle.definitions.specs.Outcomes.{over_start}

pub entry_stands : (size : ℕ) (xs : List (List ℕ)) → ((x : List ℕ) → Memᴰ x xs → length x ≡ size) → (rest : List ℕ) (i : ℕ) → i < length xs
    → take size (drop (i * size) (joined xs ++ rest)) ≡ get_or xs i []
entry_stands size [] sized rest i h = absurd (omega arith)
entry_stands size (x ∷ xs) sized rest zero h =
    let z : 0 * size ≡ 0 = omega arith in
    ap₂ (λ (j : ℕ) (l : List ℕ). take size (drop j l)) z (append_assoc x (joined xs) rest) ∙ take_at x (joined xs ++ rest) size (sized x (Memᴰ.head refl))
entry_stands size (x ∷ xs) sized rest (suc i) h =
    let e = sized x (Memᴰ.head refl) in
    let m = suc-mul i size in
    let k : suc i * size ≡ length x + i * size = omega arith in
    ap₂ (λ (j : ℕ) (l : List ℕ). take size (drop j l)) k (append_assoc x (joined xs) rest)
    ∙ ap (take size) (drop-append-add x (joined xs ++ rest) (i * size))
    ∙ entry_stands size xs (λ y m. sized y (Memᴰ.tail m)) rest i (omega arith)

module _ (list : List (List ℕ)) (size : ℕ) (some : 0 < size) (sized : (x : List ℕ) → Memᴰ x list → length x ≡ size) (skip : ℕ) (old : List ℕ) where
  abbrev room : ℕ
  room = length old / size

  abbrev its : Page
  its = page list skip room

  pub room_fits : length old / size * size ≤ length old
  room_fits = div-mul-le_self (length old) size

  pub no_more_room : length old < (length old / size + 1) * size
  no_more_room =
      let a = lt-div-mul-add {a = length old} some in
      let b = add-mul room 1 size in
      let c = one-mul size in
      omega arith

  pub page_written : (page list skip (length old / size)).written ≡ min (length old / size) (length list - skip)
  unfolding page
  page_written = length-take room (drop skip list) ∙ ap (λ (n : ℕ). min room n) (length-drop skip list)

  pub page_further : T (page list skip (length old / size)).further ↔ (skip + (page list skip (length old / size)).written < length list)
  unfolding page
  page_further = (λ t. ltb→lt (skip + length its.entries) (length list) t, λ h. lt→ltb (skip + length its.entries) (length list) h)

  entries_length : length (joined its.entries) ≡ its.written * size
  unfolding page
  entries_length = length_joined size its.entries (λ x m. sized x (drop_in skip list (take_in room (drop skip list) m)))

  entries_fit : its.written * size ≤ length old
  entries_fit = le_trans (mul-le-mul_right size (let a = page_written in omega arith)) room_fits

  pub page_length : length (over_start (joined (page list skip (length old / size)).entries) old) ≡ length old
  unfolding over_start
  page_length =
      length_front old (joined its.entries) (length (joined its.entries))
      (sym (length-take-le (length (joined its.entries)) old (let a = entries_length in let b = entries_fit in omega arith)))

  pub page_bytes : over_start (joined (page list skip (length old / size)).entries) old
      ≡ joined (take (page list skip (length old / size)).written (drop skip list)) ++ drop ((page list skip (length old / size)).written * size) old
  unfolding over_start page
  page_bytes = ap₂ (λ (xs : List (List ℕ)) (n : ℕ). joined xs ++ drop n old) (sym (take_min room (drop skip list))) entries_length
