-- The system of an accepted tray is lawful: its rows are the tray's placements, its maps the board's, and the limits are those that a call must keep. Assumes
-- nothing.
use Prim.Native.Nat.{ℕ, suc, ◌+◌, ◌≤◌, ◌<◌}
use mathlib.Core.Bool.{Bool, true, false, cond}
use mathlib.Core.List.Memᴰ
use mathlib.Core.List.{List, [], ◌∷◌, map, Memᴰ, map-map}
use mathlib.Core.Path.{◌≡◌, refl, sym, ap, ◌∙◌}
use native.Mathlib.Omega.{arith}
use lib.Dec.{T}
use lib.ListN.{length, get_or, length-map, length-append}
use Rattle.lists.specs.Lists.{cons_if, all, keep, each, below, numbered_from, ascending, sum}
use Rattle.lists.proofs.TestLaws.{and_right, is_false}
use Rattle.lists.proofs.ListLaws.{map_still}
use Rattle.lists.proofs.SortLaws.{not_again}
use Rattle.lists.proofs.RangeLaws.{length_below, members_below}
use Rattle.lists.proofs.CountLaws.{total, total_add, total_zero, total_same, sum_map}
use Rattle.definitions.specs.Grid.{Cell, set_down, box}
use Rattle.definitions.specs.Scan.{scan_number}
use Rattle.definitions.specs.Answers.{lent_cells}
use Rattle.definitions.specs.Kinds.{Piece, Form, same_form, form_ahead, Sorted, sort_piece, Copy, Kind, sorted, forms, copies_of, kinds_of}
use Rattle.definitions.specs.Placements.{Placement, Compiled, compile}
use Rattle.definitions.specs.Packing.{limits}
use Rattle.definitions.specs.Kept.{kind_after}
use Rattle.definitions.specs.Refusals.{Call, lent_of, tray_of, copy_count, placement_count, refusal}
use Rattle.theorems.proofs.FewLaws.{few_cells, few_kinds}
use Rattle.theorems.proofs.MapLaws.{box_of}
use Rattle.theorems.proofs.RefusalLaws.{PassedLent, passed}
use Rattle.theorems.proofs.AnswerLaws.{set_number, in_lent}
use Rattle.theorems.proofs.DemandLaws.{copies-lent}
use Rattle.theorems.proofs.PartnerLaws.{same_form→eq, form_trans, form_irrefl, fs, fs_up}
use Rattle.theorems.proofs.SetDownLaws.{placement_once}
use Rattle.theorems.proofs.GeometryLaws.{piece_whole, W, numbered_cells, in-box}
use Rattle.rows.specs.Rows.{spread}
use Rattle.rows.specs.Systems.{owned, system_of, kind_by}
use Rattle.rows.specs.Answering.{copies_by}
use Rattle.rows.specs.Lawful.{Lawful}
use Rattle.rows.proofs.SystemMapLaws.{map_permutes, map_identity, map_inverse, map_product, map_image, kind_is, kind_back}

-- ---- counting
-- of forms that ascend at most one is a given one
form_at_most_once : (s : Form) (n : ℕ) (hs : List Form) → T (ascending form_ahead hs) → total (λ g. cond (same_form s g) n 0) hs ≤ n
form_at_most_once s n [] t = omega arith
form_at_most_once s n (g ∷ hs) t = go (same_form s g) (λ b. b) (form_at_most_once s n hs (and_right (all (form_ahead g) hs) (ascending form_ahead hs) t))
  where
    none : s ≡ g → total (λ h. cond (same_form s h) n 0) hs ≡ 0
    none e =
        total_same (λ h. cond (same_form s h) n 0) (λ h. 0) hs
        (λ h m. ap {B = ℕ} (λ (b : Bool). cond b n 0) (is_false (same_form s h) (λ b. not_again form_ahead form_trans form_irrefl g hs t m (sym (same_form→eq s h b) ∙ e))))
        ∙ total_zero hs

    go : (b : Bool) → (T b → T (same_form s g)) → total (λ h. cond (same_form s h) n 0) hs ≤ n → cond b n 0 + total (λ h. cond (same_form s h) n 0) hs ≤ n
    go true f r = let e = none (same_form→eq s g (f tt)) in omega arith
    go false f r = omega arith

-- the copies of all kinds together are no more than those of all pieces
pub copies_more : (q : Sorted) (qs : List Sorted) (g : Form) → length (copies_of (q ∷ qs) g) ≡ cond (same_form q.form g) q.count 0 + length (copies_of qs g)
unfolding copies_of
copies_more q qs g = go (same_form q.form g)
  where
    one : Sorted → List Copy
    one r = map (λ n. record { piece = r.piece; copy = n }) (below r.count)

    rest : List Sorted
    rest = keep (λ r. same_form r.form g) qs

    go : (b : Bool) → length (each (cons_if b q rest) one) ≡ cond b q.count 0 + length (each rest one)
    go true =
        let a = length-append (one q) (each rest one) in
        let b = length-map {B = Copy} (below q.count) (λ (n : ℕ). record { piece = q.piece; copy = n }) in
        let c = length_below q.count in
        omega arith
    go false = omega arith

copies_all : (hs : List Form) → T (ascending form_ahead hs) → (qs : List Sorted) → total (λ g. length (copies_of qs g)) hs ≤ total (λ q. q.count) qs
copies_all hs t [] = unfold copies_of in (let e = total_zero hs in omega arith)
copies_all hs t (q ∷ qs) =
    let a = total_same (λ g. length (copies_of (q ∷ qs) g)) (λ g. cond (same_form q.form g) q.count 0 + length (copies_of qs g)) hs (λ g m. copies_more q qs g) in
    let b = total_add (λ g. cond (same_form q.form g) q.count 0) (λ g. length (copies_of qs g)) hs in
    let c = form_at_most_once q.form q.count hs t in
    let d = copies_all hs t qs in
    omega arith

counts_same : (i : ℕ) (ps : List Piece) → total (λ (q : Sorted). q.count) (numbered_from {B = Sorted} i ps sort_piece) ≡ sum (map (λ q. q.count) ps)
counts_same i [] = refl
counts_same i (p ∷ ps) = ap (λ (n : ℕ). p.count + n) (counts_same (suc i) ps)

-- ---- cells that ascend and are below 128 are given back as they were
module _ (l : Call) (ok : refusal l ≡ 0) where
  abbrev C : Compiled
  C = compile (tray_of l)

  -- ---- limits
  abbrev tested : PassedLent l.pieces l.board l.bytes (lent_of l)
  tested = (passed l ok).lent

  pub few-rows : length (compile (tray_of l)).placements ≤ 1024
  unfolding placement_count
  few-rows = (passed l ok).few_placements

  pub few-copies : sum (limits (compile (tray_of l))) ≤ 128
  unfolding compile limits kinds_of copy_count fs sorted
  few-copies =
      let a = tested.few_copies in
      let e = copies-lent l ok in
      let qs = sorted (tray_of l) in
      let b = copies_all (forms qs) (fs_up (tray_of l) (piece_whole l ok)) qs in
      let c = counts_same 0 (tray_of l).pieces in
      let d : sum (limits C) ≡ total (λ g. length (copies_of qs g)) (forms qs) =
      ap sum (map-map (λ (d : Kind). length d.copies) _ (forms qs)) ∙ sum_map (λ g. length (copies_of qs g)) (forms qs) in
      omega arith

  -- ---- a placement's cells ascend and are below 128, so a row gives it back
  pub spread_placements : map spread (compile (tray_of l)).placements ≡ (compile (tray_of l)).placements
  unfolding spread
  spread_placements = map_still spread C.placements back
    where
      back : (q : Placement) → Memᴰ q C.placements → spread q ≡ q
      back q m =
          let e = members_below 128 q.cells ((W l ok).cells_ascend q m) (λ n k. let a = (W l ok).on_board q m n k in let b = few_cells l ok in omega arith) in
          (λ i. record { kind = q.kind; p = q.p; j = q.j; cells = e i })

  -- ---- each cell has a place in the box that was lent
  scanned_cell : (n : ℕ) → n < length (compile (tray_of l)).cells → Memᴰ n (map (scan_number (lent_cells (compile (tray_of l)))) (box (compile (tray_of l)).frame.lent))
  scanned_cell n h =
      let u : Cell = get_or C.cells n (record { x = 0; y = 0; z = 0 }) in
      let v = set_down C.frame.at u in
      Memᴰ.cast (sym (set_number C.frame.at C.cells u ∙ (numbered_cells l ok).number_cell n h))
      (Memᴰ.map (scan_number (lent_cells C)) (box_of C.frame.lent v (in_lent l ok u (in-box l ok u ((numbered_cells l ok).cell_in n h)))))

  -- ---- the system
  pub lawful : ((k : ℕ) → k < length (compile (tray_of l)).kinds → length (copies_by (owned (tray_of l)) k) ≡ get_or (limits (compile (tray_of l))) k 0) → Lawful (system_of (tray_of l))
  unfolding system_of limits
  lawful copies =
      record {
        few_cells = few_cells l ok;
        few_rows = few-rows;
        few_kinds = (let e = many in let h = few_kinds l ok in omega arith);
        a_partner_each = length-map C.kinds (λ (d : Kind). d.partner) ∙ sym many;
        few_copies = few-copies;
        scanned = scanned_cell;
        in_order = (W l ok).in_order;
        row = λ q m. record {
          of_kind = (let e = many in let h = (W l ok).of_kinds q m in omega arith);
          ascend = (W l ok).cells_ascend q m;
          on_board = (W l ok).on_board q m;
          covers_p = (W l ok).covers_p q m;
          from_p = (W l ok).from_p q m;
        };
        by_cells = placement_once l ok;
        permutes = map_permutes l ok;
        identity = map_identity l ok;
        inverse = map_inverse l ok;
        product = map_product l ok;
        partner_back = λ k h. ap (kind_by partners true) (kind_is l ok true k) ∙ kind_is l ok true (kind_after C true k) ∙ kind_back l ok k (in_kinds true k h);
        image = λ odd f m q row h. map_image l ok odd f m q row (in_kinds odd q.kind h);
        copies_each = λ k h. copies k (let e = many in omega arith);
      }
    where
      partners : List ℕ
      partners = map (λ d. d.partner) C.kinds

      many : length (map (λ d. length d.copies) C.kinds) ≡ length C.kinds
      many = length-map C.kinds (λ (d : Kind). length d.copies)

      in_kinds : (odd : Bool) (k : ℕ) → kind_by partners odd k < length (map (λ d. length d.copies) C.kinds) → kind_after C odd k < length C.kinds
      in_kinds odd k h = let e = many in let i = kind_is l ok odd k in omega arith
