-- An answer in the lent box is the stripped tray's answer put back into its frame, and what was put back can be taken out again. Assumes nothing.
use Prim.Native.Nat.{ℕ, zero, suc, ◌+◌, ◌-◌, ◌*◌, ◌<◌}
use mathlib.Core.Bool.{Bool, true, false, cond, not, ◌&&◌}
use mathlib.Core.List.Memᴰ
use mathlib.Core.List.{List, [], ◌∷◌, map, Memᴰ}
use mathlib.Core.Path.{◌≡◌, refl, sym, ap, ap₂, ◌∙◌, subst}
use mathlib.Core.Logic.{◌⊎◌, inl, inr}
use native.Mathlib.Omega.{arith}
use lib.Dec.{T, leb, ltb, eqb, leb→le, le→leb, ltb→lt, lt→ltb}
use lib.ListN.{length, get_or, length-map}
use Rattle.lists.specs.Lists.{cons_if, keep, each, from, below, head_or, member}
use Rattle.lists.proofs.TestLaws.{and_left, and_right, and_both, is_true, is_false, not_T, decide, clash}
use Rattle.lists.proofs.ListLaws.{keep_at, map_same, each_same, pairs_second, pairs_first}
use Rattle.lists.proofs.RangeLaws.{member_at, length_from}
use Rattle.lists.proofs.NthLaws.{nth_mem}
use Rattle.definitions.specs.Grid.{Sides, Cell, Grid, set_down, same_cell, box, volume, place_of, byte_at, grid_with, InBox}
use Rattle.theorems.proofs.MapLaws.{cell_path, box_at, place_lt, byte_with}
use Rattle.theorems.proofs.GroupLaws.{bytes_whole}
use Rattle.theorems.proofs.GridLaws.{all_set_down_none}
use Rattle.definitions.specs.Scan.{scan_number}
use Rattle.definitions.specs.Kinds.{Tray, Copy, kinds_of, sorted}
use Rattle.definitions.specs.Placements.{Placement, Compiled, compile}
use Rattle.definitions.specs.Packing.{Packing}
use Rattle.theorems.proofs.PackingLaws.{packing_placed}
use Rattle.definitions.specs.Answers.{Taken, taken, copy_on, answer, two_bytes}
use Rattle.theorems.proofs.SearchLaws.{WellMade}
use Rattle.theorems.proofs.WellMadeLaws.{same_cell→eq}
use Rattle.theorems.proofs.AnswerLaws.{taken_at, kind_list, set_number}
use Rattle.definitions.specs.Stripping.{Frame, own_frame}
use Rattle.definitions.specs.Framing.{between, inside, lift_off, byte_in, in_frame, unframed, own_answer}

-- ---- two bytes for each cell
-- in a list with two bytes for each cell of a box, the bytes of a cell
module _ (s : Sides) (p q : Cell → ℕ) (u : Cell) (b : InBox s u) where
  pub box_first : get_or (each (box s) (λ v. p v ∷ q v ∷ [])) (2 * place_of s u + 0) 0 ≡ p u
  box_first = pairs_first p q (box s) (place_of s u) ∙ unfold byte_at grid_with in (byte_with s p u b)

  pub box_second : get_or (each (box s) (λ v. p v ∷ q v ∷ [])) (2 * place_of s u + 1) 0 ≡ q u
  box_second = pairs_second p q (box s) (place_of s u) ∙ unfold byte_at grid_with in (byte_with s q u b)

-- ---- the places of a box are the numbers below its volume, in order
pub places : (s : Sides) → map (place_of s) (box s) ≡ below (volume s)
places s = map_same (place_of s) (byte_at g) (box s) (λ u k. sym (at u (box_at s u k))) ∙ bytes_whole g (length_from 0 (volume s))
  where
    g : Grid
    g = record { sides = s; cells = below (volume s) }

    numbers : (i n k : ℕ) → k < n → get_or (from i n) k 0 ≡ k + i
    numbers i zero k h = absurd (omega arith)
    numbers i (suc n) zero h = omega arith
    numbers i (suc n) (suc k) h = numbers (suc i) n k (omega arith) ∙ omega arith

    at : (u : Cell) → InBox s u → byte_at g u ≡ place_of s u
    at u b = unfold byte_at in (numbers 0 (volume s) (place_of s u) (place_lt s u b) ∙ omega arith)

-- ---- the stripped part
-- a cell of the stripped part is one of the box set down, and the other way round
inside_parts : (at : Cell) (s : Sides) (u : Cell) → T (inside at s u) → InBox s (lift_off at u) × (set_down at (lift_off at u) ≡ u)
unfolding inside between lift_off set_down
inside_parts at s u t =
    let r = and_right (B at.x s.a u.x) (B at.y s.b u.y && B at.z s.c u.z) t in
    let x = one at.x s.a u.x (and_left (B at.x s.a u.x) (B at.y s.b u.y && B at.z s.c u.z) t) in
    let y = one at.y s.b u.y (and_left (B at.y s.b u.y) (B at.z s.c u.z) r) in
    let z = one at.z s.c u.z (and_right (B at.y s.b u.y) (B at.z s.c u.z) r) in
    ((x.0, y.0, z.0), cell_path x.1 y.1 z.1)
  where
    B : ℕ → ℕ → ℕ → Bool
    B lo n i = leb lo i && ltb i (lo + n)

    one : (lo n i : ℕ) → T (leb lo i && ltb i (lo + n)) → (i - lo < n) × (lo + (i - lo) ≡ i)
    one lo n i k = let a = leb→le lo i (and_left (leb lo i) (ltb i (lo + n)) k) in let b = ltb→lt i (lo + n) (and_right (leb lo i) (ltb i (lo + n)) k) in (omega arith, omega arith)

inside_of : (at : Cell) (s : Sides) (u : Cell) → InBox s u → T (inside at s (set_down at u))
unfolding inside between set_down
inside_of at s u b =
    and_both (B at.x s.a u.x) (B at.y s.b u.y && B at.z s.c u.z) (one at.x s.a u.x b.0)
    (and_both (B at.y s.b u.y) (B at.z s.c u.z) (one at.y s.b u.y b.1) (one at.z s.c u.z b.2))
  where
    B : ℕ → ℕ → ℕ → Bool
    B lo n i = leb lo (lo + i) && ltb (lo + i) (lo + n)

    one : (lo n i : ℕ) → i < n → T (leb lo (lo + i) && ltb (lo + i) (lo + n))
    one lo n i h = and_both (leb lo (lo + i)) (ltb (lo + i) (lo + n)) (le→leb lo (lo + i) (omega arith)) (lt→ltb (lo + i) (lo + n) (omega arith))

-- ---- put back
-- a cell that is none of them has their number
no_number : (cells : List Cell) (u : Cell) → (Memᴰ u cells → ⊥) → scan_number cells u ≡ length cells
unfolding scan_number
no_number [] u h = refl
no_number (v ∷ vs) u h =
    ap₂ (λ (b : Bool) (n : ℕ). cond b 0 (suc n)) (is_false (same_cell u v) (λ t. h (Memᴰ.head (same_cell→eq u v t)))) (no_number vs u (λ m. h (Memᴰ.tail m)))

module _ (c : Compiled) (w : WellMade c) (in_box : (u : Cell) → Memᴰ u c.cells → InBox c.board.sides u) where
  abbrev f : Frame
  f = c.frame

  -- no copy lies on a number that is no cell's
  no_copy : (P : List Placement) → Packing c P → copy_on (taken c P) (length c.cells) ≡ record { piece = 255; copy = 255 }
  unfolding copy_on
  no_copy P g = ap (λ (l : List Taken). head_or (record { piece = 255; copy = 255 }) (map (λ t. t.copy) l)) (none (taken c P) (λ t m. away t m))
    where
      n : ℕ
      n = length c.cells

      away : (t : Taken) → Memᴰ t (taken c P) → T (member n t.cells) → ⊥
      away t m k =
          let y = taken_at c w P t m in
          let z = keep_at (λ (q : Placement). eqb q.kind y.0) P (nth_mem (kind_list c w P y.0) y.3 y.6) in
          let b = w.on_board y.4 (packing_placed c P g y.4 z.0) n (subst (λ (l : List ℕ). Memᴰ n l) y.7 (member_at n t.cells k)) in
          omega arith

      none : (ts : List Taken) → ((t : Taken) → Memᴰ t ts → T (member n t.cells) → ⊥) → keep (λ t. member n t.cells) ts ≡ []
      none [] h = refl
      none (t ∷ ts) h = ap₂ (λ (b : Bool) (l : List Taken). cons_if b t l) (is_false (member n t.cells) (h t (Memᴰ.head refl))) (none ts (λ x m. h x (Memᴰ.tail m)))

  pub in-frame : (P : List Placement) → Packing c P → answer c P ≡ in_frame c.frame c.board.sides (own_answer c P)
  unfolding answer in_frame byte_in own_answer
  in-frame P g = each_same two (λ u. byte_in f s (own_answer c P) 0 u ∷ byte_in f s (own_answer c P) 1 u ∷ []) (box f.lent) (λ u. go u (decide (inside f.at s u)))
    where
      s : Sides
      s = c.board.sides

      cells : List Cell
      cells = map (set_down f.at) c.cells

      two : Cell → List ℕ
      two u = let d = copy_on (taken c P) (scan_number cells u) in d.piece ∷ d.copy ∷ []

      piece : Cell → ℕ
      piece v = (copy_on (taken c P) (scan_number c.cells v)).piece

      copy : Cell → ℕ
      copy v = (copy_on (taken c P) (scan_number c.cells v)).copy

      there : (u : Cell) (j : ℕ) → inside f.at s u ≡ true → byte_in f s (own_answer c P) j u ≡ get_or (each (box s) (λ v. piece v ∷ copy v ∷ [])) (2 * place_of s (lift_off f.at u) + j) 0
      there u j e = ap {B = ℕ} (λ (b : Bool). cond b (get_or (own_answer c P) (2 * place_of s (lift_off f.at u) + j) 0) 255) e

      nowhere : (u : Cell) (j : ℕ) → inside f.at s u ≡ false → byte_in f s (own_answer c P) j u ≡ 255
      nowhere u j e = ap {B = ℕ} (λ (b : Bool). cond b (get_or (own_answer c P) (2 * place_of s (lift_off f.at u) + j) 0) 255) e

      out : (u : Cell) → T (not (inside f.at s u)) → Memᴰ u cells → ⊥
      out u t m =
          let r = Memᴰ.of_map (set_down f.at) c.cells m in
          clash (inside f.at s u) (subst (λ (v : Cell). T (inside f.at s v)) r.2 (inside_of f.at s r.0 (in_box r.0 r.1))) t

      go : (u : Cell) → T (inside f.at s u) ⊎ T (not (inside f.at s u)) → two u ≡ byte_in f s (own_answer c P) 0 u ∷ byte_in f s (own_answer c P) 1 u ∷ []
      go u (inl t) =
          let r = inside_parts f.at s u t in
          let v = lift_off f.at u in
          let e : scan_number cells u ≡ scan_number c.cells v = ap (scan_number cells) (sym r.1) ∙ set_number f.at c.cells v in
          ap₂ (λ (x y : ℕ). x ∷ y ∷ [])
          (ap (λ (n : ℕ). (copy_on (taken c P) n).piece) e ∙ sym (box_first s piece copy v r.0) ∙ sym (there u 0 (is_true (inside f.at s u) t)))
          (ap (λ (n : ℕ). (copy_on (taken c P) n).copy) e ∙ sym (box_second s piece copy v r.0) ∙ sym (there u 1 (is_true (inside f.at s u) t)))
      go u (inr t) =
          let e : scan_number cells u ≡ length c.cells = no_number cells u (λ m. out u t m) ∙ length-map c.cells (set_down f.at) in
          let d : copy_on (taken c P) (scan_number cells u) ≡ record { piece = 255; copy = 255 } = ap (copy_on (taken c P)) e ∙ no_copy P g in
          ap₂ (λ (x y : ℕ). x ∷ y ∷ [])
          (ap (λ (x : Copy). x.piece) d ∙ sym (nowhere u 0 (not_T (inside f.at s u) t)))
          (ap (λ (x : Copy). x.copy) d ∙ sym (nowhere u 1 (not_T (inside f.at s u) t)))

-- the answer of the unframed tray
pub unframed_answer : (t : Tray) (P : List Placement) → answer (compile (unframed t)) P ≡ own_answer (compile t) P
unfolding answer own_answer unframed own_frame compile taken kinds_of sorted
unframed_answer t P = ap (λ (cells : List Cell). each (box t.board.sides) (two_bytes (taken (compile t) P) cells)) (all_set_down_none (compile t).cells)
