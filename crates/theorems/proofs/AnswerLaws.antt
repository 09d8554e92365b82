-- No two packings share an answer. Assumes nothing.
use Prim.Native.Nat.{ℕ, zero, suc, ◌+◌, ◌<◌}
use mathlib.Core.Bool.{Bool, cond, not}
use mathlib.Core.List.Memᴰ
use mathlib.Core.List.{List, [], ◌∷◌, map, Memᴰ}
use mathlib.Core.Path.{◌≡◌, refl, sym, ap, ap₂, ◌∙◌, subst}
use mathlib.Core.Logic.{◌⊎◌, inl, inr}
use native.Mathlib.Omega.{arith}
use lib.Dec.{T, ltb, eqb, eqb→eq, eqb_refl, lt→ltb}
use lib.ListN.{length, get_or}
use Rattle.lists.specs.Lists.{keep, numbered, head_or, member, below, Apart}
use Rattle.lists.proofs.TestLaws.{is_true, is_false, decide, clash, ltb_trans, ltb_irrefl}
use Rattle.lists.proofs.ListLaws.{joined_of, keep_at, keep_of, each_at, apart_each, apart_keep, joined_at, apart_map, two_at}
use Rattle.lists.proofs.SortLaws.{apart_ascending, ascending_unique}
use Rattle.lists.proofs.RangeLaws.{member_at, member_of, from_ascending, below_at}
use Rattle.lists.proofs.CountLaws.{how_many_length}
use Rattle.lists.proofs.NthLaws.{mem_nth_of, numbered_of, Nth, nth_mem, nth_below, nth_get_or, get_or_nth, numbered_at, numbered_ascending, nth_unique, nth_apart}
use Rattle.definitions.specs.Grid.{Cell, set_down, same_cell, box, volume, InBox}
use Rattle.theorems.proofs.MapLaws.{box_of}
use Rattle.definitions.specs.Scan.{scan_number}
use Rattle.definitions.specs.Kinds.{Tray, Piece, Form, same_form, form_ahead, Sorted, sort_piece, sorted, forms, Copy, copy_of, copies_of_piece, copies_of, Kind, kinds_of, form_of}
use Rattle.definitions.specs.Placements.{Placement, Compiled, compile}
use Rattle.definitions.specs.Packing.{ahead, used, limits, Packing}
use Rattle.theorems.proofs.PackingLaws.{ahead_trans, ahead_irrefl, packing_placed, packing_once, packing_at, packing_within}
use Rattle.definitions.specs.Answers.{Taken, takes, taken, copy_on, lent_cells, answer}
use Rattle.definitions.specs.Refusals.{Call, lent_of, strip_tray, tray_of, refusal}
use Rattle.theorems.proofs.SearchLaws.{WellMade}
use Rattle.theorems.proofs.WellMadeLaws.{same_cell→eq, same_cell_refl}
use Rattle.theorems.proofs.ImageLaws.{Numbered}
use Rattle.theorems.proofs.PartnerLaws.{same_form→eq, form_irrefl, fs, fs_up, form_nth}
use Rattle.theorems.proofs.GeometryLaws.{numbered_cells, acts, onto-itself, only-itself, W, in-box, piece_whole}
use Rattle.definitions.specs.Kept.Identify.{Turned, Mirrored}
use Rattle.theorems.proofs.KeptLaws.{Geometry}
use Rattle.theorems.proofs.StrippingLaws.{strip_fits}
use Rattle.theorems.proofs.StrippedLaws.{set_down_one}

-- ---- which copy lies where
takes_at : (ds : List Copy) (qs : List Placement) (t : Taken) → Memᴰ t (takes ds qs) → (j : ℕ) × (q : Placement) × Nth ds j t.copy × Nth qs j q × (t.cells ≡ q.cells)
takes_at [] qs t m = absurd (Memᴰ.not-nil m)
takes_at (d ∷ ds) [] t m = absurd (Memᴰ.not-nil m)
takes_at (d ∷ ds) (q ∷ qs) t m = go (Memᴰ.cases_cons m) (λ (k : Memᴰ t (takes ds qs)). takes_at ds qs t k)
  where
    go : (t ≡ record { copy = d; cells = q.cells }) ⊎ Memᴰ t (takes ds qs) → (Memᴰ t (takes ds qs) → (j : ℕ) × (r : Placement) × Nth ds j t.copy × Nth qs j r × (t.cells ≡ r.cells))
        → (j : ℕ) × (r : Placement) × Nth (d ∷ ds) j t.copy × Nth (q ∷ qs) j r × (t.cells ≡ r.cells)
    go (inl e) f = (zero, q, ap (λ (x : Taken). x.copy) e, refl, ap (λ (x : Taken). x.cells) e)
    go (inr k) f = let r = f k in (suc r.0, r.1, r.2, r.3, r.4)

takes_of : (ds : List Copy) (qs : List Placement) (j : ℕ) (q : Placement) → Nth qs j q → j < length ds → (t : Taken) × Memᴰ t (takes ds qs) × (t.cells ≡ q.cells)
takes_of [] qs j q h k = absurd (omega arith)
takes_of (d ∷ ds) [] j q h k = absurd h
takes_of (d ∷ ds) (r ∷ qs) zero q h k = (record { copy = d; cells = r.cells }, Memᴰ.head refl, ap (λ (x : Placement). x.cells) (sym h))
takes_of (d ∷ ds) (r ∷ qs) (suc j) q h k = let x = takes_of ds qs j q h (omega arith) in (x.0, Memᴰ.tail x.1, x.2)

module _ (c : Compiled) (w : WellMade c) where
  abbrev pub kind_list : List Placement → ℕ → List Placement
  kind_list P k = keep (λ q. eqb q.kind k) P

  -- the copy on cell n: the kind's j-th, where the placement on n is the j-th of the kind
  pub record Held (P : List Placement) (n : ℕ) : Type 0 where
    pub by : Placement
    pub is_in : Memᴰ by P
    pub covers : Memᴰ n by.cells
    pub kind : Kind
    pub is_kind : Nth c.kinds by.kind kind
    pub place : ℕ
    pub is_place : Nth (kind_list P by.kind) place by
    pub copy_is : Nth kind.copies place (copy_on (taken c P) n)

  pub taken_at : (P : List Placement) (t : Taken) → Memᴰ t (taken c P)
      → (k : ℕ) × (d : Kind) × Nth c.kinds k d × (j : ℕ) × (q : Placement) × Nth d.copies j t.copy × Nth (kind_list P k) j q × (t.cells ≡ q.cells)
  unfolding taken
  taken_at P t m =
      let r = joined_at (numbered c.kinds (λ k d. takes d.copies (kind_list P k))) m in
      let x = numbered_at (λ (k : ℕ) (d : Kind). takes d.copies (kind_list P k)) 0 c.kinds r.1 in
      let y = takes_at x.1.copies (kind_list P (x.0 + 0)) t (subst (λ (l : List Taken). Memᴰ t l) x.3 r.2) in
      let e : x.0 + 0 ≡ x.0 = omega arith in
      (x.0 + 0, x.1, subst (λ (n : ℕ). Nth c.kinds n x.1) (sym e) x.2, y.0, y.1, y.2, y.3, y.4)

  taken_of : (P : List Placement) → Packing c P → (q : Placement) → Memᴰ q P → (t : Taken) × Memᴰ t (taken c P) × (t.cells ≡ q.cells)
  unfolding taken used limits
  taken_of P g q m =
      let row = packing_placed c P g q m in
      let kb = w.of_kinds q row in
      let d = get_or_nth c.kinds q.kind kb in
      let i = mem_nth_of (kind_list P q.kind) q (keep_of (λ (z : Placement). eqb z.kind q.kind) P m (eqb_refl q.kind)) in
      let a = nth_below (kind_list P q.kind) i.0 q i.1 in
      let u = how_many_length (λ (z : Placement). eqb z.kind q.kind) P in
      let v = packing_within c P g q.kind kb in
      let x = nth_get_or (λ (z : Kind). length z.copies) 0 c.kinds q.kind d.1 in
      let t = takes_of d.0.copies (kind_list P q.kind) i.0 q i.1 (omega arith) in
      let e : q.kind + 0 ≡ q.kind = omega arith in
      let row' = numbered_of (λ (k : ℕ) (z : Kind). takes z.copies (kind_list P k)) 0 c.kinds q.kind d.0 d.1 in
      (t.0, joined_of (numbered c.kinds (λ k z. takes z.copies (kind_list P k))) row' (subst (λ (n : ℕ). Memᴰ t.0 (takes d.0.copies (kind_list P n))) (sym e) t.1), t.2)

  first_of : (n : ℕ) (ts : List Taken) {t : Taken} → Memᴰ t ts → Memᴰ n t.cells → (x : Taken) × Memᴰ x ts × Memᴰ n x.cells × (copy_on ts n ≡ x.copy)
  unfolding copy_on
  first_of n ts {t} m k = go (keep (λ (z : Taken). member n z.cells) ts) (λ x h. let r = keep_at (λ (z : Taken). member n z.cells) ts h in (r.0, member_at n x.cells r.1)) (keep_of (λ (z : Taken). member n z.cells) ts m (member_of t.cells k))
    where
      go : (xs : List Taken) → ((x : Taken) → Memᴰ x xs → Memᴰ x ts × Memᴰ n x.cells) → Memᴰ t xs
          → (x : Taken) × Memᴰ x ts × Memᴰ n x.cells × (head_or (record { piece = 255; copy = 255 }) (map (λ z. z.copy) xs) ≡ x.copy)
      go [] f h = absurd (Memᴰ.not-nil h)
      go (y ∷ ys) f h = let r = f y (Memᴰ.head refl) in (y, r.0, r.1, refl)

  pub held : (P : List Placement) → Packing c P → (n : ℕ) → n < length c.cells → Held P n
  held P g n h =
      let q = packing_at c P g n h in
      let t = taken_of P g q.0 q.1 in
      let x = first_of n (taken c P) t.1 (subst (λ (l : List ℕ). Memᴰ n l) (sym t.2) q.2) in
      let y = taken_at P x.0 x.1 in
      let z = keep_at (λ (p : Placement). eqb p.kind y.0) P (nth_mem (kind_list P y.0) y.3 y.6) in
      let k : y.4.kind ≡ y.0 = eqb→eq y.4.kind y.0 z.1 in
      record {
        by = y.4;
        is_in = z.0;
        covers = subst (λ (l : List ℕ). Memᴰ n l) y.7 x.2;
        kind = y.1;
        is_kind = subst (λ (i : ℕ). Nth c.kinds i y.1) (sym k) y.2;
        place = y.3;
        is_place = subst (λ (i : ℕ). Nth (kind_list P i) y.3 y.4) (sym k) y.6;
        copy_is = subst (λ (d : Copy). Nth y.1.copies y.3 d) (sym x.3) y.5;
      }

  -- ---- copies tell kinds and places
  module _ (nu : Numbered c)
      (one_copy : (k k' j j' : ℕ) (d d' : Kind) (x : Copy) → Nth c.kinds k d → Nth c.kinds k' d' → Nth d.copies j x → Nth d'.copies j' x → (k ≡ k') × (j ≡ j')) where
    same_copy : (P Q : List Placement) (n m : ℕ) (h : Held P n) (i : Held Q m) → copy_on (taken c P) n ≡ copy_on (taken c Q) m → (h.by.kind ≡ i.by.kind) × (h.place ≡ i.place)
    same_copy P Q n m h i e =
        one_copy h.by.kind i.by.kind h.place i.place h.kind i.kind (copy_on (taken c Q) m) h.is_kind i.is_kind (subst (λ (x : Copy). Nth h.kind.copies h.place x) e h.copy_is) i.copy_is

    -- the placement of Q that lies where one of P lies
    follows : (P Q : List Placement) → Packing c P → Packing c Q → ((n : ℕ) → n < length c.cells → copy_on (taken c P) n ≡ copy_on (taken c Q) n)
        → (n : ℕ) (b : n < length c.cells) (h : Held P n) (i : Held Q n) → (m : ℕ) → Memᴰ m h.by.cells → Memᴰ m i.by.cells
    follows P Q g k same n b h i m a = subst (λ (q : Placement). Memᴰ m q.cells) by_same im.covers
      where
        mb : m < length c.cells
        mb = w.on_board h.by (packing_placed c P g h.by h.is_in) m a

        hm : Held P m
        hm = held P g m mb

        im : Held Q m
        im = held Q k m mb

        q_same : hm.by ≡ h.by
        q_same = packing_once c P g m mb hm.by h.by hm.is_in h.is_in hm.covers a

        copies_same : copy_on (taken c P) m ≡ copy_on (taken c P) n
        copies_same = nth_unique h.kind.copies h.place (copy_on (taken c P) m) (copy_on (taken c P) n) at_m h.copy_is
          where
            kind_same : hm.kind ≡ h.kind
            kind_same = nth_unique c.kinds h.by.kind hm.kind h.kind (subst (λ (q : Placement). Nth c.kinds q.kind hm.kind) q_same hm.is_kind) h.is_kind

            place_same : hm.place ≡ h.place
            place_same =
                nth_apart (kind_list P h.by.kind) (apart_keep (λ q. eqb q.kind h.by.kind) P (apart_ascending ahead ahead_irrefl P g.a_set)) hm.place h.place h.by
                (subst (λ (q : Placement). Nth (kind_list P q.kind) hm.place q) q_same hm.is_place) h.is_place

            at_m : Nth h.kind.copies h.place (copy_on (taken c P) m)
            at_m = subst (λ (j : ℕ). Nth h.kind.copies j (copy_on (taken c P) m)) place_same (subst (λ (d : Kind). Nth d.copies hm.place (copy_on (taken c P) m)) kind_same hm.copy_is)

        x : (im.by.kind ≡ i.by.kind) × (im.place ≡ i.place)
        x = same_copy Q Q m n im i (sym (same m mb) ∙ copies_same ∙ same n b)

        by_same : im.by ≡ i.by
        by_same =
            nth_unique (kind_list Q i.by.kind) i.place im.by i.by
            (subst (λ (j : ℕ). Nth (kind_list Q i.by.kind) j im.by) x.1 (subst (λ (k : ℕ). Nth (kind_list Q k) im.place im.by) x.0 im.is_place)) i.is_place

    half : (P Q : List Placement) → Packing c P → Packing c Q → ((n : ℕ) → n < length c.cells → copy_on (taken c P) n ≡ copy_on (taken c Q) n) → (q : Placement) → Memᴰ q P → Memᴰ q Q
    half P Q g k same q m =
        let row = packing_placed c P g q m in
        let b = w.on_board q row q.p (w.covers_p q row) in
        let h = held P g q.p b in
        let i = held Q k q.p b in
        let is-q : h.by ≡ q = packing_once c P g q.p b h.by q h.is_in m h.covers (w.covers_p q row) in
        let x = same_copy P Q q.p q.p h i (same q.p b) in
        let e = ascending_unique ltb ltb_trans ltb_irrefl h.by.cells i.by.cells (w.cells_ascend h.by (packing_placed c P g h.by h.is_in)) (w.cells_ascend i.by (packing_placed c Q k i.by i.is_in))
        (follows P Q g k same q.p b h i) (follows Q P k g (λ n l. sym (same n l)) q.p b i h) in
        Memᴰ.cast (sym is-q ∙ nu.by_cells h.by i.by (packing_placed c P g h.by h.is_in) (packing_placed c Q k i.by i.is_in) x.0 e) i.is_in

    pub copies_differ : (P Q : List Placement) → Packing c P → Packing c Q → ((n : ℕ) → n < length c.cells → copy_on (taken c P) n ≡ copy_on (taken c Q) n) → P ≡ Q
    copies_differ P Q g k same = ascending_unique ahead ahead_trans ahead_irrefl P Q g.a_set k.a_set (half P Q g k same) (half Q P k g (λ n l. sym (same n l)))

-- scan numbers of cells that are all set down by one cell
pub set_number : (at : Cell) (cells : List Cell) (u : Cell) → scan_number (map (set_down at) cells) (set_down at u) ≡ scan_number cells u
unfolding scan_number
set_number at [] u = refl
set_number at (v ∷ vs) u = ap₂ (λ (b : Bool) (n : ℕ). cond b 0 (suc n)) (go (decide (same_cell u v))) (set_number at vs u)
  where
    go : T (same_cell u v) ⊎ T (not (same_cell u v)) → same_cell (set_down at u) (set_down at v) ≡ same_cell u v
    go (inl t) = let e = same_cell→eq u v t in is_true (same_cell (set_down at u) (set_down at v)) (subst (λ (w : Cell). T (same_cell (set_down at u) (set_down at w))) e (same_cell_refl (set_down at u))) ∙ sym (is_true (same_cell u v) t)
    go (inr t) =
        is_false (same_cell (set_down at u) (set_down at v)) (λ k. clash (same_cell u v) (subst (λ (w : Cell). T (same_cell u w)) (set_down_one at u v (same_cell→eq (set_down at u) (set_down at v) k)) (same_cell_refl u)) t)
        ∙ sym (is_false (same_cell u v) (λ k. clash (same_cell u v) k t))

-- the two bytes of a cell, from an answer
answers_at : (c : Compiled) (P Q : List Placement) → answer c P ≡ answer c Q → (u : Cell) → Memᴰ (set_down c.frame.at u) (box c.frame.lent)
    → ((copy_on (taken c P) (scan_number c.cells u)).piece ≡ (copy_on (taken c Q) (scan_number c.cells u)).piece)
    × ((copy_on (taken c P) (scan_number c.cells u)).copy ≡ (copy_on (taken c Q) (scan_number c.cells u)).copy)
unfolding answer
answers_at c P Q e u k =
    subst (λ (n : ℕ). ((copy_on (taken c P) n).piece ≡ (copy_on (taken c Q) n).piece) × ((copy_on (taken c P) n).copy ≡ (copy_on (taken c Q) n).copy))
    (set_number c.frame.at c.cells u)
    (two_at (λ v. (copy_on (taken c P) (scan_number (lent_cells c) v)).piece) (λ v. (copy_on (taken c P) (scan_number (lent_cells c) v)).copy)
    (λ v. (copy_on (taken c Q) (scan_number (lent_cells c) v)).piece) (λ v. (copy_on (taken c Q) (scan_number (lent_cells c) v)).copy) (box c.frame.lent) e (set_down c.frame.at u) k)

-- ---- copies are numbered apart
module _ (t : Tray) where
  same_piece : (x y : Sorted) → Memᴰ x (sorted t) → Memᴰ y (sorted t) → x.piece ≡ y.piece → x ≡ y
  unfolding sorted
  same_piece x y a b e =
      let r = numbered_at sort_piece 0 t.pieces a in
      let s = numbered_at sort_piece 0 t.pieces b in
      let i : r.0 + 0 ≡ s.0 + 0 = sym (ap (λ (z : Sorted). z.piece) r.3) ∙ e ∙ ap (λ (z : Sorted). z.piece) s.3 in
      let j : r.0 ≡ s.0 = omega arith in
      let p : r.1 ≡ s.1 = nth_unique t.pieces s.0 r.1 s.1 (subst (λ (n : ℕ). Nth t.pieces n r.1) j r.2) s.2 in
      r.3 ∙ ap₂ (λ (n : ℕ) (q : Piece). sort_piece n q) i p ∙ sym s.3

  sorted_apart : Apart (sorted t)
  unfolding sorted
  sorted_apart =
      apart_ascending (λ (x y : Sorted). ltb x.piece y.piece) (λ x s. ltb_irrefl x.piece s) (numbered t.pieces sort_piece)
      (numbered_ascending sort_piece (λ (x y : Sorted). ltb x.piece y.piece) (λ n m x y h. lt→ltb n m h) 0 t.pieces)

  copies_at : (f : Form) (x : Copy) → Memᴰ x (copies_of (sorted t) f) → (q : Sorted) × Memᴰ q (sorted t) × (q.form ≡ f) × (x.piece ≡ q.piece)
  unfolding copies_of
  copies_at f x m =
      let r = each_at copies_of_piece (keep (λ (q : Sorted). same_form q.form f) (sorted t)) m in
      let k = keep_at (λ (q : Sorted). same_form q.form f) (sorted t) r.1 in
      let n = Memᴰ.of_map (copy_of r.0) (below r.0.count) r.2 in
      (r.0, k.0, same_form→eq r.0.form f k.1, sym (ap (λ (z : Copy). z.piece) n.2))

  -- a copy is numbered below the count of the piece that it is of
  copy_below : (f : Form) (x : Copy) → Memᴰ x (copies_of (sorted t) f) → (q : Piece) × Nth t.pieces x.piece q × (x.copy < q.count)
  unfolding copies_of sorted
  copy_below f x m =
      let r = each_at copies_of_piece (keep (λ (q : Sorted). same_form q.form f) (sorted t)) m in
      let k = keep_at (λ (q : Sorted). same_form q.form f) (sorted t) r.1 in
      let n = Memᴰ.of_map (copy_of r.0) (below r.0.count) r.2 in
      let y = numbered_at sort_piece 0 t.pieces k.0 in
      let e : x.piece ≡ y.0 = let p = ap (λ (z : Copy). z.piece) n.2 in let i = ap (λ (z : Sorted). z.piece) y.3 in omega arith in
      let o₁ : r.0.count ≡ y.1.count = ap (λ (z : Sorted). z.count) y.3 in
      let h = below_at r.0.count n.1 in
      let o : n.0 ≡ x.copy = ap (λ (z : Copy). z.copy) n.2 in
      (y.1, subst (λ (i : ℕ). Nth t.pieces i y.1) (sym e) y.2, omega arith)

  copies_apart : (f : Form) → Apart (copies_of (sorted t) f)
  unfolding copies_of
  copies_apart f =
      apart_each copies_of_piece (keep (λ (q : Sorted). same_form q.form f) (sorted t)) (apart_keep (λ (q : Sorted). same_form q.form f) (sorted t) sorted_apart)
      (λ q m. apart_map (copy_of q) (below q.count) (apart_ascending ltb ltb_irrefl (below q.count) (from_ascending 0 q.count)) (λ a b k l e. ap (λ (z : Copy). z.copy) e))
      (λ q r m k x a b.
      let n = Memᴰ.of_map (copy_of q) (below q.count) a in
      let o = Memᴰ.of_map (copy_of r) (below r.count) b in
      same_piece q r (keep_at (λ (z : Sorted). same_form z.form f) (sorted t) m).0 (keep_at (λ (z : Sorted). same_form z.form f) (sorted t) k).0 (ap (λ (z : Copy). z.piece) (n.2 ∙ sym o.2)))

  copies_are : (d : Kind) → Memᴰ d (kinds_of t) → d.copies ≡ copies_of (sorted t) (form_of d)
  unfolding kinds_of form_of
  copies_are d k = let r = Memᴰ.of_map _ (forms (sorted t)) k in sym (ap (λ (x : Kind). x.copies) r.2) ∙ ap (copies_of (sorted t)) (ap form_of r.2)

  pub kind_copy_below : (d : Kind) → Memᴰ d (kinds_of t) → (x : Copy) → Memᴰ x d.copies → (q : Piece) × Nth t.pieces x.piece q × (x.copy < q.count)
  kind_copy_below d k x m = copy_below (form_of d) x (subst (λ (l : List Copy). Memᴰ x l) (copies_are d k) m)

  module _ (wholes : (q : Piece) → Memᴰ q t.pieces → length q.grid.cells ≡ volume q.grid.sides) where
    pub one_copy_of : (k k' j j' : ℕ) (d d' : Kind) (x : Copy) → Nth (kinds_of t) k d → Nth (kinds_of t) k' d' → Nth d.copies j x → Nth d'.copies j' x → (k ≡ k') × (j ≡ j')
    one_copy_of k k' j j' d d' x a b h i = (k_same, nth_apart d'.copies (subst Apart (sym (copies_are d' (nth_mem (kinds_of t) k' b))) (copies_apart (form_of d'))) j j' x (subst (λ (e : Kind). Nth e.copies j x) d_same h) i)
      where
        q : (z : Sorted) × Memᴰ z (sorted t) × (z.form ≡ form_of d) × (x.piece ≡ z.piece)
        q = copies_at (form_of d) x (subst (λ (l : List Copy). Memᴰ x l) (copies_are d (nth_mem (kinds_of t) k a)) (nth_mem d.copies j h))

        q' : (z : Sorted) × Memᴰ z (sorted t) × (z.form ≡ form_of d') × (x.piece ≡ z.piece)
        q' = copies_at (form_of d') x (subst (λ (l : List Copy). Memᴰ x l) (copies_are d' (nth_mem (kinds_of t) k' b)) (nth_mem d'.copies j' i))

        form_same : form_of d ≡ form_of d'
        form_same = sym q.2 ∙ ap (λ (z : Sorted). z.form) (same_piece q.0 q'.0 q.1 q'.1 (sym q.3 ∙ q'.3)) ∙ q'.2

        k_same : k ≡ k'
        k_same =
            nth_apart (fs t wholes) (apart_ascending form_ahead form_irrefl (fs t wholes) (fs_up t wholes)) k k' (form_of d') (subst (λ (f : Form). Nth (fs t wholes) k f) form_same (form_nth t wholes k d a)) (form_nth t wholes k' d' b)

        d_same : d ≡ d'
        d_same = nth_unique (kinds_of t) k' d d' (subst (λ (n : ℕ). Nth (kinds_of t) n d) k_same a) b

-- ---- accepted calls
module _ (l : Call) (ok : refusal l ≡ 0) where
  kinds-of : (compile (tray_of l)).kinds ≡ kinds_of (tray_of l)
  unfolding compile
  kinds-of = refl

  -- where a cell of the stripped board's box lies in the lent one
  pub in_lent : (u : Cell) → InBox (compile (tray_of l)).board.sides u → InBox (compile (tray_of l)).frame.lent (set_down (compile (tray_of l)).frame.at u)
  unfolding compile tray_of strip_tray set_down
  in_lent u k = let f = strip_fits (lent_of l).board in (omega (arith, k.0, f.along_x), omega (arith, k.1, f.along_y), omega (arith, k.2, f.along_z))

  answers-differ : (P Q : List Placement) → Packing (compile (tray_of l)) P → Packing (compile (tray_of l)) Q → answer (compile (tray_of l)) P ≡ answer (compile (tray_of l)) Q → P ≡ Q
  answers-differ P Q g h e = copies_differ C (W l ok) (numbered_cells l ok) one_copy P Q g h same
    where
      C : Compiled
      C = compile (tray_of l)

      one_copy : (k k' j j' : ℕ) (d d' : Kind) (x : Copy) → Nth C.kinds k d → Nth C.kinds k' d' → Nth d.copies j x → Nth d'.copies j' x → (k ≡ k') × (j ≡ j')
      one_copy k k' j j' d d' x a b c f =
          one_copy_of (tray_of l) (piece_whole l ok) k k' j j' d d' x (subst (λ (ks : List Kind). Nth ks k d) kinds-of a) (subst (λ (ks : List Kind). Nth ks k' d') kinds-of b) c f

      same : (n : ℕ) → n < length C.cells → copy_on (taken C P) n ≡ copy_on (taken C Q) n
      same n b = subst (λ (i : ℕ). copy_on (taken C P) i ≡ copy_on (taken C Q) i) ((numbered_cells l ok).number_cell n b) (copy_same (get_or C.cells n (record { x = 0; y = 0; z = 0 })) (in-box l ok (get_or C.cells n (record { x = 0; y = 0; z = 0 })) ((numbered_cells l ok).cell_in n b)))
        where
          copy_path : {x y : Copy} → x.piece ≡ y.piece → x.copy ≡ y.copy → x ≡ y
          copy_path p q = λ i. record { piece = p i; copy = q i }

          copy_same : (u : Cell) → InBox C.board.sides u → copy_on (taken C P) (scan_number C.cells u) ≡ copy_on (taken C Q) (scan_number C.cells u)
          copy_same u k = let r = answers_at C P Q e u (box_of C.frame.lent (set_down C.frame.at u) (in_lent u k)) in copy_path r.0 r.1

  pub geometry : Geometry (compile (tray_of l))
  geometry = record { onto_itself = onto-itself l ok; only_itself = only-itself l ok; turned = acts l ok Turned tt; mirrored = acts l ok Mirrored tt; answers_differ = answers-differ }
