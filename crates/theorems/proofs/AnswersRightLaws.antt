-- An answer has the bytes that document 01 says, cell by cell. Assumes nothing.
use Prim.Native.Nat.{ℕ, zero, suc, ◌*◌, ◌<◌}
use mathlib.Core.Bool.{Bool}
use mathlib.Core.List.Memᴰ
use mathlib.Core.List.{List, [], ◌∷◌, map, Memᴰ}
use mathlib.Core.Path.{◌≡◌, sym, ap, ◌∙◌, subst, subst₂}
use native.Mathlib.Omega.{arith}
use lib.Dec.{T, eqb}
use lib.ListN.{length, take, drop, length-map}
use Rattle.lists.specs.Lists.{each, keep, head_or, member}
use Rattle.lists.proofs.ListLaws.{keep_at, keep_none}
use Rattle.lists.proofs.SortLaws.{keep_ascending}
use Rattle.lists.proofs.RangeLaws.{member_at}
use Rattle.lists.proofs.CountLaws.{how_many_keep}
use Rattle.lists.proofs.NthLaws.{Nth, nth_mem, nth_below, nth_get_or, get_or_nth, nth_how_many, nth_value, before_nth}
use Rattle.definitions.specs.Grid.{Sides, Cell, InBox, set_down, box, place_of, byte_at, grid_with, filled_cells, same_cell}
use Rattle.theorems.proofs.MapLaws.{cell_path, place_lt, byte_with, filled_at}
use Rattle.theorems.proofs.GridLaws.{length_box}
use Rattle.definitions.specs.Scan.{scan_number}
use Rattle.definitions.specs.Kinds.{Copy, Kind}
use Rattle.definitions.specs.Placements.{Placement, Compiled, compile}
use Rattle.definitions.specs.Packing.{ahead, Packing}
use Rattle.definitions.specs.PlacementsRight.{no_kind, kind_at}
use Rattle.definitions.specs.Answers.{Taken, taken, copy_on, lent_cells, answer}
use Rattle.definitions.specs.Refusals.{Call, tray_of, refusal}
use Rattle.definitions.specs.Outcomes.{answer_size}
use Rattle.definitions.specs.AnswersRight.{bytes_of, number_in, copy_for, AnswerRight, AnswersRight}
use Rattle.theorems.proofs.PackingLaws.{ahead_trans, ahead_irrefl, packing_placed, packing_once}
use Rattle.theorems.proofs.SearchLaws.{WellMade}
use Rattle.theorems.proofs.WellMadeLaws.{same_cell→eq}
use Rattle.theorems.proofs.GeometryLaws.{W, to_filled}
use Rattle.theorems.proofs.AnswerLaws.{kind_list, Held, held, taken_at, set_number, in_lent}
use Rattle.theorems.proofs.DemandLaws.{answer-length}

-- ---- two bytes for each cell of the box
two_of : {A : Type 0} (a b : A → ℕ) (xs : List A) (n : ℕ) {x : A} → Nth xs n x → take 2 (drop (2 * n) (each xs (λ z. a z ∷ b z ∷ []))) ≡ a x ∷ b x ∷ []
two_of a b [] n h = absurd h
two_of a b (y ∷ ys) zero h = ap (λ (z : _). a z ∷ b z ∷ []) (sym h)
two_of a b (y ∷ ys) (suc n) h =
    let e : 2 * suc n ≡ suc (suc (2 * n)) = omega arith in
    ap (λ (k : ℕ). take 2 (drop k (a y ∷ b y ∷ each ys (λ z. a z ∷ b z ∷ [])))) e ∙ two_of a b ys n h

-- a cell stands in its box at its place
box_nth : (s : Sides) (u : Cell) → InBox s u → Nth (box s) (place_of s u) u
unfolding byte_at grid_with
box_nth s u h = subst (λ (v : Cell). Nth (box s) (place_of s u) v) (cell_path (same (λ v. v.x)) (same (λ v. v.y)) (same (λ v. v.z))) at.1
  where
    at : (v : Cell) × Nth (box s) (place_of s u) v
    at = get_or_nth (box s) (place_of s u) (subst (λ (n : ℕ). place_of s u < n) (sym (length_box s)) (place_lt s u h))

    same : (f : Cell → ℕ) → f at.0 ≡ f u
    same f = sym (nth_get_or f 0 (box s) (place_of s u) at.1) ∙ byte_with s f u h

abbrev bytes : Copy → List ℕ
bytes d = d.piece ∷ d.copy ∷ []

bytes-are : (c : Compiled) (P : List Placement) (u : Cell) → InBox c.frame.lent u → bytes_of c P u ≡ bytes (copy_on (taken c P) (scan_number (lent_cells c) u))
unfolding bytes_of answer
bytes-are c P u h =
    let on : Cell → Copy = λ v. copy_on (taken c P) (scan_number (lent_cells c) v) in
    let s = c.frame.lent in
    two_of (λ v. (on v).piece) (λ v. (on v).copy) (box s) (place_of s u) (box_nth s u h)

-- ---- the copies of a packing
module _ (c : Compiled) (w : WellMade c) (P : List Placement) (g : Packing c P) where
  -- no placement has a cell beyond those of the board
  none_on : (n : ℕ) → (n < length c.cells → ⊥) → copy_on (taken c P) n ≡ record { piece = 255; copy = 255 }
  unfolding copy_on
  none_on n out = ap (λ (ts : List Taken). head_or (record { piece = 255; copy = 255 }) (map (λ t. t.copy) ts)) (keep_none (λ t. member n t.cells) (taken c P) off)
    where
      off : (t : Taken) → Memᴰ t (taken c P) → T (member n t.cells) → ⊥
      off t m k =
          let r = taken_at c w P t m in
          let q = r.4 in
          let a = keep_at (λ (z : Placement). eqb z.kind r.0) P (nth_mem (kind_list c w P r.0) r.3 r.6) in
          out (w.on_board q (packing_placed c P g q a.0) n (subst (λ (l : List ℕ). Memᴰ n l) r.7 (member_at n t.cells k)))

  -- a placement's place among those of its kind is its number
  place_is : (q : Placement) (j : ℕ) → Nth (kind_list c w P q.kind) j q → number_in P q ≡ j
  unfolding number_in
  place_is q j h =
      let p : Placement → Bool = λ r. eqb r.kind q.kind in
      sym (how_many_keep p (λ r. ahead r q) P) ∙ nth_how_many ahead ahead_trans ahead_irrefl (keep p P) (keep_ascending ahead p P g.a_set) j q h

  -- a cell has the copy of the placement that covers it
  copy_of : (q : Placement) → Memᴰ q P → (n : ℕ) → Memᴰ n q.cells → Nth (kind_at c q.kind).copies (number_in P q) (copy_on (taken c P) n)
  unfolding kind_at
  copy_of q m n k = subst (λ (r : Placement). Nth (kind_at c r.kind).copies (number_in P r) d) (packing_once c P g n b h.by q h.is_in m h.covers k) at
    where
      b : n < length c.cells
      b = w.on_board q (packing_placed c P g q m) n k

      h : Held c w P n
      h = held c w P g n b

      d : Copy
      d = copy_on (taken c P) n

      at : Nth (kind_at c h.by.kind).copies (number_in P h.by) d
      at =
          subst₂ (λ (k : Kind) (j : ℕ). Nth k.copies j d) (sym (nth_value c.kinds h.by.kind h.kind no_kind h.is_kind))
          (sym (place_is h.by h.place h.is_place)) h.copy_is

  copy-is : (q : Placement) → Memᴰ q P → (n : ℕ) → Memᴰ n q.cells → copy_on (taken c P) n ≡ copy_for c P q
  unfolding copy_for
  copy-is q m n k = sym (nth_value (kind_at c q.kind).copies (number_in P q) (copy_on (taken c P) n) (record { piece = 0; copy = 0 }) (copy_of q m n k))

-- ---- accepted calls
module _ (l : Call) (ok : refusal l ≡ 0) where
  abbrev C : Compiled
  C = compile (tray_of l)

  abbrev at : Cell
  at = C.frame.at

  -- a cell of the lent box that has a number of the board's is a filled one
  numbered_filled : (u : Cell) → scan_number (lent_cells C) u < length C.cells → Memᴰ u (map (set_down at) (filled_cells C.board))
  unfolding scan_number
  numbered_filled u h =
      let r = get_or_nth (lent_cells C) (scan_number (lent_cells C) u) (subst (λ (n : ℕ). scan_number (lent_cells C) u < n) (sym (length-map C.cells (set_down at))) h) in
      let m = Memᴰ.of_map (set_down at) C.cells (nth_mem (lent_cells C) (scan_number (lent_cells C) u) r.1) in
      Memᴰ.cast (same_cell→eq u r.0 (before_nth (same_cell u) (lent_cells C) r.0 r.1) ∙ sym m.2) (Memᴰ.map (set_down at) (to_filled l ok m.0 m.1))

  answer_right : (P : List Placement) → Packing C P → AnswerRight C P
  unfolding answer_size
  answer_right P g =
      let w = W l ok in
      record {
        two_bytes = answer-length C P;
        unfilled = λ u b out. bytes-are C P u b ∙ ap bytes (none_on C w P g (scan_number (lent_cells C) u) (λ h. out (numbered_filled u h)));
        has_copy = λ q m. nth_below (kind_at C q.kind).copies (number_in P q) (copy_on (taken C P) q.p) (copy_of C w P g q m q.p (w.covers_p q (packing_placed C P g q m)));
        filled = λ u m q k n.
            bytes-are C P (set_down at u) (in_lent l ok u (filled_at C.board u m).0)
            ∙ ap bytes (ap (copy_on (taken C P)) (set_number at C.cells u) ∙ copy-is C w P g q k (scan_number C.cells u) n);
      }

pub answers_right_holds : AnswersRight
unfolding AnswersRight
answers_right_holds l ok P g = answer_right l ok P g
