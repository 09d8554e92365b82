-- A row chosen and put back: its copy is taken and put back, and there is a row to put back. Assumes nothing.
use Prim.Native.Nat.{ℕ, ◌+◌, ◌-◌, ◌≤◌, ◌<◌}
use mathlib.Core.List.{List, [], ◌∷◌, ◌++◌}
use mathlib.Core.Path.{◌≡◌, ap, ◌∙◌}
use native.Mathlib.Omega.{arith}
use lib.ListN.{length, get_or, set, length-append}
use lib.Seq.{get_or-set_same, set-set, set-get_or}
use Rattle.lists.proofs.ListLaws.{get_or_pos}

-- row r of kind k is chosen behind the rows rs, with the copies `left` before it
pub record Chosen (left rs : List ℕ) (k r : ℕ) (placed longer : List ℕ) : Type 0 where
  pub left_is : placed ≡ set left k (get_or left k 0 - 1)
  pub rows_are : longer ≡ rs ++ (r ∷ [])

-- as `place_row` does it in a state with the same copies and rows
pub chosen : {left rs left₁ rs₁ placed longer : List ℕ} {k r : ℕ} → left₁ ≡ left → rs₁ ≡ rs
    → (longer ≡ rs₁ ++ (r ∷ [])) × (placed ≡ set left₁ k (get_or left₁ k 0 - 1)) → Chosen left rs k r placed longer
chosen {left} {rs} {left₁} {rs₁} {placed} {longer} {k} {r} same_left same_rows is =
    record {
      left_is = is.1 ∙ ap (λ (m : List ℕ). set m k (get_or m k 0 - 1)) same_left;
      rows_are = is.0 ∙ ap (λ (m : List ℕ). m ++ (r ∷ [])) same_rows;
    }

-- ---- a search behind it leaves copies and rows as they were
module _ {left rs placed longer after rows : List ℕ} {k r : ℕ} (z : Chosen left rs k r placed longer) (some : 0 < get_or left k 0)
    (kept : (after ≡ placed) × (rows ≡ longer)) where
  taken : after ≡ set left k (get_or left k 0 - 1)
  taken = kept.0 ∙ z.left_is

  one_fewer : get_or after k 0 + 1 ≡ get_or left k 0
  one_fewer =
      let a : get_or after k 0 ≡ get_or left k 0 - 1 =
      ap (λ (l : List ℕ). get_or l k 0) taken ∙ get_or-set_same left k (get_or left k 0 - 1) 0 (get_or_pos left k some) in
      omega arith

  -- the row can be put back
  pub to_put_back : get_or left k 0 ≤ 128 → (get_or after k 0 < 65535) × (0 < length rows)
  to_put_back few =
      let a = one_fewer in
      let b = ap length (kept.1 ∙ z.rows_are) ∙ length-append rs (r ∷ []) in
      (omega arith, omega arith)

  -- and then all is as before
  pub is_back : {back fewer : List ℕ}
      → ((before : List ℕ) (last : ℕ) → rows ≡ before ++ (last ∷ []) → fewer ≡ before) × (back ≡ set after k (get_or after k 0 + 1))
      → (back ≡ left) × (fewer ≡ rs)
  is_back put = (
    put.1 ∙ ap (λ (x : ℕ). set after k x) one_fewer ∙ ap (λ (l : List ℕ). set l k (get_or left k 0)) taken
        ∙ set-set left k (get_or left k 0 - 1) (get_or left k 0) ∙ set-get_or left k 0,
    put.0 rs r (kept.1 ∙ z.rows_are),
  )
