-- The exact covers of a tray's text are those of its matrix within the copies, where no kind has more than one; and they correspond one to one with the
-- packings that are listed with nothing identified. Assumes nothing.
use Prim.Native.Nat.{ℕ, ◌<◌, ◌≤◌}
use mathlib.Core.Bool.{false}
use mathlib.Core.List.Memᴰ
use mathlib.Core.List.{List, [], ◌∷◌, map, Memᴰ}
use mathlib.Core.Path.{◌≡◌, sym, ap, ◌∙◌, subst}
use mathlib.Core.Logic.{◌⊎◌, inl, inr}
use native.Mathlib.Omega.{arith}
use lib.Dec.{T, ltb, leb, eqb, ltb→lt, lt→ltb, leb→le, le→leb, eqb→eq}
use lib.ListN.{length, get_or, length-map, get_or-eq_default}
use Rattle.lists.specs.Lists.{all, any, how_many, below, member, same, Apart}
use Rattle.lists.proofs.TestLaws.{tests_same, eqb_of, lt_or_ge}
use Rattle.lists.proofs.ListLaws.{all_of, all_at, all_map, any_of, any_at, keep_at, keep_of, how_many_map, how_many_any, how_many_same_in, get_or_mem, get_or_map, apart_map, nonempty_length}
use Rattle.lists.proofs.SortLaws.{same→eq}
use Rattle.lists.proofs.RangeLaws.{below_at, below_of, member_at, member_of}
use Rattle.definitions.specs.Grid.{Cell, filled_cells}
use Rattle.definitions.specs.Scan.{scan_number}
use Rattle.definitions.specs.Placements.{Placement, Compiled, compile}
use Rattle.definitions.specs.Packing.{limits, used, within_copies}
use Rattle.definitions.specs.Refusals.{Call, rows_of, tray_of, refusal}
use Rattle.definitions.specs.Demands.{MeetsDemand2, CoverWithin, matrix_of, placements_in, nowhere, Covers}
use Rattle.definitions.specs.Kept.Identify.{None}
use Rattle.definitions.specs.Outcomes.{answers_of}
use Rattle.definitions.specs.declared.SolverKind.TheVariants.{Fast}
use Rattle.definitions.specs.Dlx1.{cell_item, kind_item, stocked, boxed, built_cells, dlx1_text}
use Rattle.definitions.specs.Dlx1Covers.{primary_in, secondary_in, options_in, is_among, hits, TextCover, TakenByDlx1, NamesItems, CoversSame, OneToOne}
use Rattle.definitions.specs.TextCalls.{TextCall, as_listing, text_tray, text_of, text_refusal}
use Rattle.theorems.proofs.MapLaws.{filled_apart}
use Rattle.theorems.proofs.SearchLaws.{WellMade}
use Rattle.theorems.proofs.ShapeLaws.{accepted_well_made}
use Rattle.theorems.proofs.GeometryLaws.{numbered_cells}
use Rattle.theorems.proofs.KindLaws.{cells-filled}
use Rattle.theorems.proofs.DemandLaws.{demand2_holds}
use Rattle.theorems.proofs.FewLaws.{few_cells, few_kinds}
use Rattle.theorems.proofs.TextCallLaws.{listing_accepted, one_copy_each, some_cell}
use Rattle.theorems.proofs.Dlx1ReadingLaws.{tray_items, tray_primary, tray_secondary, tray_options}
use Rattle.theorems.proofs.Dlx1TakenLaws.{cell_tells, kind_tells, cell_no_kind, among, stocked_at, stocked_of, Plain, text_taken}

-- ---- the numbers of rows
module _ (c : Compiled) where
  pub row_placed : {q : Placement} → Memᴰ q (rows_of c) → Memᴰ q c.placements × (0 < get_or (limits c) q.kind 0)
  unfolding rows_of
  row_placed {q} m = let r = keep_at (λ (z : Placement). ltb 0 (get_or (limits c) z.kind 0)) c.placements m in (r.0, ltb→lt 0 (get_or (limits c) q.kind 0) r.1)

  pub matrix_rows : length (matrix_of c) ≡ length (rows_of c)
  unfolding matrix_of
  matrix_rows = length-map (rows_of c) (λ q. q.cells)

  pub matrix_row : (r : ℕ) → r < length (rows_of c) → get_or (matrix_of c) r [] ≡ (get_or (rows_of c) r nowhere).cells
  unfolding matrix_of
  matrix_row r h = get_or_map nowhere [] (λ (q : Placement). q.cells) (rows_of c) r h

  pub all_kinds : length (limits c) ≡ length c.kinds
  unfolding limits
  all_kinds = length-map c.kinds (λ d. length d.copies)

-- ---- the covers of a compiled tray that is well made, where no kind has more than one copy and the cells in the order of the box are all the cells
module _ (c : Compiled) (w : WellMade c) (some : 0 < length c.cells) (most_cells : length c.cells ≤ 128) (most_kinds : length c.kinds ≤ 16)
    (ones : any (ltb 1) (limits c) ≡ false) (in_order : (n : ℕ) → n < length c.cells → Memᴰ n (boxed c)) where
  abbrev text : List ℕ
  text = dlx1_text c

  at_most_one : (k : ℕ) → get_or (limits c) k 0 ≤ 1
  at_most_one k = go (lt_or_ge 1 (get_or (limits c) k 0)) (lt_or_ge k (length (limits c)))
    where
      go : (1 < get_or (limits c) k 0) ⊎ (get_or (limits c) k 0 ≤ 1) → (k < length (limits c)) ⊎ (length (limits c) ≤ k) → get_or (limits c) k 0 ≤ 1
      go (inr h) i = h
      go (inl h) (inr i) = let e = get_or-eq_default (limits c) 0 i in omega arith
      go (inl h) (inl i) = absurd (subst T ones (any_of (ltb 1) (limits c) (get_or_mem 0 (limits c) k i) (lt→ltb 1 (get_or (limits c) k 0) h)))

  -- an option has the cells and the kind of its row
  option_at : (r : ℕ) → r < length (rows_of c)
      → get_or (options_in text) r [] ≡ kind_item (get_or (rows_of c) r nowhere).kind ∷ map cell_item (built_cells (boxed c) (get_or (rows_of c) r nowhere))
  option_at r h =
      ap (λ (os : List (List (List ℕ))). get_or os r []) (tray_options c some)
      ∙ get_or_map nowhere [] (λ (q : Placement). kind_item q.kind ∷ map cell_item (built_cells (boxed c) q)) (rows_of c) r h

  built_at : (q : Placement) → Memᴰ q (rows_of c) → {n : ℕ} → Memᴰ n (built_cells (boxed c) q) → T (member n q.cells) × (n < length c.cells)
  unfolding built_cells
  built_at q m {n} k = let r = keep_at (λ i. member i q.cells) (boxed c) k in (r.1, w.on_board q (row_placed c m).0 n (member_at n q.cells r.1))

  built_of : (q : Placement) {n : ℕ} → n < length c.cells → T (member n q.cells) → Memᴰ n (built_cells (boxed c) q)
  unfolding built_cells
  built_of q {n} h t = keep_of (λ i. member i q.cells) (boxed c) (in_order n h) t

  has_cell : (q : Placement) → Memᴰ q (rows_of c) → (n : ℕ) → n < length c.cells
      → is_among (kind_item q.kind ∷ map cell_item (built_cells (boxed c) q)) (cell_item n) ≡ member n q.cells
  unfolding is_among
  has_cell q m n h =
      tests_same (is_among ws (cell_item n)) (member n q.cells) (λ t. let r = any_at (same (cell_item n)) ws t in to (same→eq (cell_item n) r.0 r.2) (Memᴰ.cases_cons r.1))
      (λ t. among ws (Memᴰ.tail (Memᴰ.map cell_item (built_of q h t))))
    where
      ws : List (List ℕ)
      ws = kind_item q.kind ∷ map cell_item (built_cells (boxed c) q)

      to : {v : List ℕ} → cell_item n ≡ v → (v ≡ kind_item q.kind) ⊎ Memᴰ v (map cell_item (built_cells (boxed c) q)) → T (member n q.cells)
      to e (inl f) = absurd (cell_no_kind n q.kind (e ∙ f))
      to e (inr k) =
          let r = Memᴰ.of_map cell_item (built_cells (boxed c) q) k in
          let b = built_at q m r.1 in
          let l = b.1 in
          subst (λ (i : ℕ). T (member i q.cells)) (sym (cell_tells n r.0 (omega arith) (omega arith) (e ∙ sym r.2))) b.0

  kind_below : (q : Placement) → Memᴰ q (rows_of c) → q.kind < 1000
  kind_below q m = let h = w.of_kinds q (row_placed c m).0 in omega arith

  has_kind : (q : Placement) → Memᴰ q (rows_of c) → (k : ℕ) → k < 1000 → is_among (kind_item q.kind ∷ map cell_item (built_cells (boxed c) q)) (kind_item k) ≡ eqb q.kind k
  unfolding is_among
  has_kind q m k h =
      tests_same (is_among ws (kind_item k)) (eqb q.kind k) (λ t. let r = any_at (same (kind_item k)) ws t in to (same→eq (kind_item k) r.0 r.2) (Memᴰ.cases_cons r.1))
      (λ t. among ws (Memᴰ.head (ap kind_item (sym (eqb→eq q.kind k t)))))
    where
      ws : List (List ℕ)
      ws = kind_item q.kind ∷ map cell_item (built_cells (boxed c) q)

      to : {v : List ℕ} → kind_item k ≡ v → (v ≡ kind_item q.kind) ⊎ Memᴰ v (map cell_item (built_cells (boxed c) q)) → T (eqb q.kind k)
      to e (inl f) = eqb_of (sym (kind_tells k q.kind h (kind_below q m) (e ∙ f)))
      to e (inr l) = let r = Memᴰ.of_map cell_item (built_cells (boxed c) q) l in absurd (cell_no_kind r.0 k (r.2 ∙ sym e))

  -- so a set of options has an item as often as the rows have the cell, and as often as they are of the kind
  module _ (rows : List ℕ) (inside : (r : ℕ) → Memᴰ r rows → r < length (rows_of c)) where
    abbrev row : ℕ → Placement
    row r = get_or (rows_of c) r nowhere

    row_in : (r : ℕ) → Memᴰ r rows → Memᴰ (row r) (rows_of c)
    row_in r m = get_or_mem nowhere (rows_of c) r (inside r m)

    hits_cell : (n : ℕ) → n < length c.cells → hits (options_in text) rows (cell_item n) ≡ how_many (λ r. member n (get_or (matrix_of c) r [])) rows
    unfolding hits
    hits_cell n h =
        how_many_same_in (λ r. is_among (get_or (options_in text) r []) (cell_item n)) (λ r. member n (get_or (matrix_of c) r [])) rows
        (λ r m. ap (λ (ws : List (List ℕ)). is_among ws (cell_item n)) (option_at r (inside r m)) ∙ has_cell (row r) (row_in r m) n h
        ∙ ap (λ (ns : List ℕ). member n ns) (sym (matrix_row c r (inside r m))))

    hits_kind : (k : ℕ) → k < 1000 → hits (options_in text) rows (kind_item k) ≡ used (placements_in c rows) k
    unfolding hits used placements_in
    hits_kind k h =
        how_many_same_in (λ r. is_among (get_or (options_in text) r []) (kind_item k)) (λ r. eqb (row r).kind k) rows
        (λ r m. ap (λ (ws : List (List ℕ)). is_among ws (kind_item k)) (option_at r (inside r m)) ∙ has_kind (row r) (row_in r m) k h)
        ∙ sym (how_many_map (λ (q : Placement). eqb q.kind k) row rows)

    -- no row is of a kind without copies
    none_used : (k : ℕ) → get_or (limits c) k 0 ≡ 0 → used (placements_in c rows) k ≡ 0
    unfolding used placements_in
    none_used k e = go (lt_or_ge 0 (how_many (λ (q : Placement). eqb q.kind k) (map row rows)))
      where
        go : (0 < how_many (λ (q : Placement). eqb q.kind k) (map row rows)) ⊎ (how_many (λ (q : Placement). eqb q.kind k) (map row rows) ≤ 0)
            → how_many (λ (q : Placement). eqb q.kind k) (map row rows) ≡ 0
        go (inr h) = omega arith
        go (inl h) =
            let q = any_at (λ (z : Placement). eqb z.kind k) (map row rows) (how_many_any (λ (z : Placement). eqb z.kind k) (map row rows) h) in
            let r = Memᴰ.of_map row rows q.1 in
            let l = (row_placed c (Memᴰ.cast (sym r.2) (row_in r.0 r.1))).1 in
            let f : get_or (limits c) q.0.kind 0 ≡ 0 = ap (λ (i : ℕ). get_or (limits c) i 0) (eqb→eq q.0.kind k q.2) ∙ e in
            absurd (omega arith)

  cell-item-in : (n : ℕ) → n < length c.cells → Memᴰ (cell_item n) (primary_in text)
  cell-item-in n h = subst (λ (ws : List (List ℕ)). Memᴰ (cell_item n) ws) (sym (tray_primary c some)) (Memᴰ.map cell_item (below_of (length c.cells) h))

  kind-item-in : (k : ℕ) → k < length c.kinds → 0 < get_or (limits c) k 0 → Memᴰ (kind_item k) (secondary_in text)
  kind-item-in k h l =
      let e = all_kinds c in
      subst (λ (ws : List (List ℕ)). Memᴰ (kind_item k) ws) (sym (tray_secondary c some)) (Memᴰ.map kind_item (stocked_of (limits c) (omega arith) l))

  rows_many : length (options_in text) ≡ length (rows_of c)
  rows_many = ap length (tray_options c some) ∙ length-map (rows_of c) (λ q. kind_item q.kind ∷ map cell_item (built_cells (boxed c) q))

  module _ (rows : List ℕ) (h : TextCover text rows) where
    inside : (r : ℕ) → Memᴰ r rows → r < length (rows_of c)
    inside r m = let l = ltb→lt r (length (options_in text)) (all_at (λ i. ltb i (length (options_in text))) rows h.of_options m) in omega (arith, rows_many)

    cell_covered : (n : ℕ) → n < length c.cells → how_many (λ r. member n (get_or (matrix_of c) r [])) rows ≡ 1
    cell_covered n l =
        sym (hits_cell rows inside n l)
        ∙ eqb→eq (hits (options_in text) rows (cell_item n)) 1 (all_at (λ v. eqb (hits (options_in text) rows v) 1) (primary_in text) h.once (cell-item-in n l))

    kind_within : (k : ℕ) → k < length c.kinds → used (placements_in c rows) k ≤ get_or (limits c) k 0
    kind_within k l = go (lt_or_ge 0 (get_or (limits c) k 0))
      where
        go : (0 < get_or (limits c) k 0) ⊎ (get_or (limits c) k 0 ≤ 0) → used (placements_in c rows) k ≤ get_or (limits c) k 0
        go (inl p) =
            let a = leb→le (hits (options_in text) rows (kind_item k)) 1 (all_at (λ v. leb (hits (options_in text) rows v) 1) (secondary_in text) h.at_most_once (kind-item-in k l p)) in
            let e = hits_kind rows inside k (omega arith) in
            omega arith
        go (inr z) = let e = none_used rows inside k (omega arith) in omega arith

    cover_of : CoverWithin c rows
    unfolding within_copies
    cover_of =
        record {
          cover =
              record {
                a_set = h.a_set;
                of_rows = all_of (λ r. ltb r (length (matrix_of c))) rows (λ r m. lt→ltb r (length (matrix_of c)) (let a = inside r m in omega (arith, matrix_rows c)));
                covers = all_of (λ n. eqb (how_many (λ r. member n (get_or (matrix_of c) r [])) rows) 1) (below (length c.cells))
                    (λ n m. eqb_of (cell_covered n (below_at (length c.cells) m)));
              };
          within = all_of (λ k. leb (used (placements_in c rows) k) (get_or (limits c) k 0)) (below (length c.kinds))
              (λ k m. le→leb (used (placements_in c rows) k) (get_or (limits c) k 0) (kind_within k (below_at (length c.kinds) m)));
        }

  module _ (rows : List ℕ) (h : CoverWithin c rows) where
    row_inside : (r : ℕ) → Memᴰ r rows → r < length (rows_of c)
    row_inside r m = let l = ltb→lt r (length (matrix_of c)) (all_at (λ i. ltb i (length (matrix_of c))) rows h.cover.of_rows m) in omega (arith, matrix_rows c)

    item_once : (n : ℕ) → n < length c.cells → hits (options_in text) rows (cell_item n) ≡ 1
    item_once n l =
        hits_cell rows row_inside n l
        ∙ eqb→eq (how_many (λ r. member n (get_or (matrix_of c) r [])) rows) 1
        (all_at (λ i. eqb (how_many (λ r. member i (get_or (matrix_of c) r [])) rows) 1) (below (length c.cells)) h.cover.covers (below_of (length c.cells) l))

    kind_once : (k : ℕ) → k < length c.kinds → hits (options_in text) rows (kind_item k) ≤ 1
    unfolding within_copies
    kind_once k l =
        let e = hits_kind rows row_inside k (omega arith) in
        let a = leb→le (used (placements_in c rows) k) (get_or (limits c) k 0)
        (all_at (λ i. leb (used (placements_in c rows) i) (get_or (limits c) i 0)) (below (length c.kinds)) h.within (below_of (length c.kinds) l)) in
        let b = at_most_one k in
        omega arith

    cover_read : TextCover text rows
    cover_read =
        record {
          a_set = h.cover.a_set;
          of_options = all_of (λ r. ltb r (length (options_in text))) rows (λ r m. lt→ltb r (length (options_in text)) (let a = row_inside r m in omega (arith, rows_many)));
          once = subst (λ (ws : List (List ℕ)). T (all (λ v. eqb (hits (options_in text) rows v) 1) ws)) (sym (tray_primary c some))
              (subst T (sym (all_map cell_item (λ v. eqb (hits (options_in text) rows v) 1) (below (length c.cells))))
              (all_of (λ n. eqb (hits (options_in text) rows (cell_item n)) 1) (below (length c.cells)) (λ n m. eqb_of (item_once n (below_at (length c.cells) m)))));
          at_most_once = subst (λ (ws : List (List ℕ)). T (all (λ v. leb (hits (options_in text) rows v) 1) ws)) (sym (tray_secondary c some))
              (subst T (sym (all_map kind_item (λ v. leb (hits (options_in text) rows v) 1) (stocked (limits c))))
              (all_of (λ k. leb (hits (options_in text) rows (kind_item k)) 1) (stocked (limits c))
              (λ k m. le→leb (hits (options_in text) rows (kind_item k)) 1 (kind_once k (let a = (stocked_at (limits c) m).0 in omega (arith, all_kinds c))))));
        }

  pub same_covers : CoversSame c (dlx1_text c)
  unfolding CoversSame
  same_covers rows = (cover_of rows, cover_read rows)

  pub plain_text : Apart (boxed c) → Plain (length c.cells) (limits c) (boxed c) (rows_of c)
  plain_text apart =
      record {
        some = some;
        few_cells = most_cells;
        few_kinds = let e = all_kinds c in omega arith;
        each_once = apart;
        has_copies = λ q m. let r = row_placed c m in stocked_of (limits c) (let a = w.of_kinds q r.0 in omega (arith, all_kinds c)) r.1;
        on_board = λ q m n k. (built_at q m k).1;
        some_cell = λ q m. let r = w.covers_p q (row_placed c m).0 in (q.p, built_of q (w.on_board q (row_placed c m).0 q.p r) (member_of q.cells r));
      }

-- ---- the tray of an accepted call: the cells in the order of the box are all the cells, each once
module _ (l : Call) (ok : refusal l ≡ 0) where
  abbrev tray : Compiled
  tray = compile (tray_of l)

  pub boxed_all : (n : ℕ) → n < length (compile (tray_of l)).cells → Memᴰ n (boxed (compile (tray_of l)))
  unfolding boxed compile
  boxed_all n h =
      let nu = numbered_cells l ok in
      Memᴰ.cast (sym (nu.number_cell n h)) (Memᴰ.map (scan_number tray.cells) ((cells-filled l ok (get_or tray.cells n (record { x = 0; y = 0; z = 0 }))).0 (nu.cell_in n h)))

  pub boxed_apart : Apart (boxed (compile (tray_of l)))
  unfolding boxed compile
  boxed_apart =
      apart_map (scan_number tray.cells) (filled_cells tray.board) (filled_apart tray.board)
      (λ u v a b e. sym (back u a) ∙ ap (λ (n : ℕ). get_or tray.cells n (record { x = 0; y = 0; z = 0 })) e ∙ back v b)
    where
      back : (u : Cell) → Memᴰ u (filled_cells (tray_of l).board) → get_or tray.cells (scan_number tray.cells u) (record { x = 0; y = 0; z = 0 }) ≡ u
      back u a = (numbered_cells l ok).cell_number u ((cells-filled l ok u).1 a)

-- ---- an accepted call for the text
module _ (l : TextCall) (ok : text_refusal l ≡ 0) where
  abbrev call : Call
  call = as_listing l

  accepted : refusal (as_listing l) ≡ 0
  accepted = listing_accepted l ok

  abbrev C : Compiled
  C = compile (text_tray l)

  pub some_filled_cell : 0 < length (compile (text_tray l)).cells
  some_filled_cell = nonempty_length C.cells (some_cell l ok)

  pub text_taken_by : TakenByDlx1 (text_of l)
  unfolding text_of text_tray dlx1_text
  text_taken_by =
      text_taken (length C.cells) (limits C) (boxed C) (rows_of C)
      (plain_text C (accepted_well_made call accepted) some_filled_cell (few_cells call accepted) (few_kinds call accepted) (one_copy_each l ok) (boxed_all call accepted) (boxed_apart call accepted))

  pub text_names_items : NamesItems (compile (text_tray l)) (text_of l)
  unfolding text_of
  text_names_items = record { first_line = tray_items C some_filled_cell; cells = tray_primary C some_filled_cell; kinds = tray_secondary C some_filled_cell }

  pub text_covers_same : CoversSame (compile (text_tray l)) (text_of l)
  unfolding text_of text_tray
  text_covers_same =
      same_covers C (accepted_well_made call accepted) some_filled_cell (few_cells call accepted) (few_kinds call accepted) (one_copy_each l ok) (boxed_all call accepted)

  pub text_one_to_one : OneToOne (text_tray l) (text_of l)
  unfolding CoversSame text_tray
  text_one_to_one =
      record {
        listed = λ rows h. fast.all_of_them rows ((text_covers_same rows).0 h);
        covered = λ a m. let r = fast.only_those a m in (r.0, (text_covers_same r.0).1 r.1, r.2);
        told_apart = λ rows others h k e. fast.told_apart rows others ((text_covers_same rows).0 h) ((text_covers_same others).0 k) e;
      }
    where
      fast : Covers (text_tray l) (answers_of (text_tray l) None Fast)
      fast = unfold MeetsDemand2 text_tray in (demand2_holds call accepted).fast
