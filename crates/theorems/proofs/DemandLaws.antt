-- The outcome of document 01's definitions meets demands 2 and 3. Assumes nothing.
use Prim.Native.Nat.{ℕ, ◌+◌, ◌*◌, ◌≤◌, ◌<◌}
use mathlib.Core.Bool.{Bool, true, false, cond, ◌&&◌}
use mathlib.Core.List.Memᴰ
use mathlib.Core.List.Perm
use mathlib.Core.List.{List, [], ◌∷◌, ◌++◌, map, Memᴰ, map-map}
use mathlib.Core.Path.{◌≡◌, refl, sym, ap, ◌∙◌, subst}
use mathlib.Core.Logic.{◌⊎◌, inl, inr}
use native.Mathlib.Nat.{mul_comm, mul-pos}
use native.Mathlib.Omega.{arith}
use lib.Dec.{T, ltb, leb, lt→ltb, leb→le}
use lib.ListN.{length, drop, replicate, length-map, length-replicate}
use lib.Seq.{length_front, length-take-le}
use Rattle.lists.specs.Lists.{all, keep, each, head_or, member, sum, ascending, Apart}
use Rattle.lists.proofs.TestLaws.{and_left, and_right}
use Rattle.lists.proofs.ListLaws.{each_length, all_of, keep_at, each_at, apart_map}
use Rattle.lists.proofs.SortLaws.{keep_ascending}
use Rattle.lists.proofs.NthLaws.{nth_mem, nth_below}
use Rattle.definitions.specs.Grid.{Cell, box, volume}
use Rattle.definitions.specs.Stripping.{frame_of}
use Rattle.theorems.proofs.GridLaws.{length_box}
use Rattle.definitions.specs.Scan.{scan_number}
use Rattle.definitions.specs.Kinds.{Tray, Piece, Copy, Kind}
use Rattle.definitions.specs.Placements.{Placement, Compiled, compile}
use Rattle.definitions.specs.Packing.{Packing}
use Rattle.definitions.specs.Kept.{Identify, kept}
use Rattle.definitions.specs.Kept.Identify.{None}
use Rattle.definitions.specs.Orders.{listed, packings, fast_list, fast_ahead}
use Rattle.definitions.specs.Answers.{Taken, taken, copy_on, two_bytes, lent_cells, answer}
use Rattle.definitions.specs.Page.{page}
use Rattle.definitions.specs.Refusals.{Call, sides_of, grid_of, lent_of, strip_piece, strip_tray, tray_of, identify_of, is_side, sides_fit, copy_count, is_ported, is_knuth, refusal, piece_of}
use Rattle.definitions.specs.Outcomes.{Outcome, answers_of, answer_size, capacity, page_of, cleared, accepted, accepted_with, outcome}
use Rattle.definitions.specs.Demands.{Stretch, Pages, placements_in, cover_answer, Covers, Demand2, MeetsDemand2, OneList, MeetsDemand3}
use Rattle.definitions.specs.declared.SolverKind.{SolverKind}
use Rattle.definitions.specs.declared.SolverKind.TheVariants.{Fast, KnuthAlgorithm}
use Rattle.theorems.proofs.EntryPageLaws.{room_fits, no_more_room, page_written, page_further, page_bytes, page_length}
use Rattle.theorems.proofs.RefusalLaws.{passed, board_sides, outcome_accepted}
use Rattle.theorems.proofs.SearchLaws.{WellMade}
use Rattle.theorems.proofs.ShapeLaws.{accepted_well_made}
use Rattle.theorems.proofs.CoverLaws.{CoverList, fast_covers, knuth_covers, fast_knuth, knuth_fast, fast_apart, knuth_apart, rows_same, cover_packing, perm_of}
use Rattle.theorems.proofs.KeptLaws.{ListFacts, list_facts}
use Rattle.theorems.proofs.AnswerLaws.{geometry, kind_copy_below, taken_at}
use Rattle.theorems.proofs.OrderLaws.{fast_ascending}
use Rattle.theorems.proofs.KnuthOrderLaws.{knuth_ordered}

-- ---- lists of entries of one size
-- two numbers for each cell of the box
pub answer-length : (c : Compiled) (P : List Placement) → length (answer c P) ≡ answer_size c.frame.lent
unfolding answer answer_size
answer-length c P =
    let a = each_length 2 (two_bytes (taken c P) (lent_cells c)) (box c.frame.lent) (λ u. refl) in
    let b = length_box c.frame.lent in
    let d = mul_comm (length (box c.frame.lent)) 2 in
    a ∙ d ∙ ap (λ (n : ℕ). 2 * n) b

-- ---- pages
module _ (l : Call) (ok : refusal l ≡ 0) where
  abbrev size : ℕ
  size = answer_size (sides_of l.board)

  -- a side is at least 1
  side_pos : (n : ℕ) → T (is_side n) → 0 < n
  unfolding is_side
  side_pos n t = leb→le 1 n (and_left (leb 1 n) (leb n 8) t)

  size_pos : 0 < size
  unfolding answer_size sides_of volume sides_fit
  size_pos =
      let t = board_sides l ok in
      let a = side_pos l.board.a (and_left (is_side l.board.a) (is_side l.board.b && is_side l.board.c) t) in
      let u = and_right (is_side l.board.a) (is_side l.board.b && is_side l.board.c) t in
      let b = side_pos l.board.b (and_left (is_side l.board.b) (is_side l.board.c) u) in
      let c = side_pos l.board.c (and_right (is_side l.board.b) (is_side l.board.c) u) in
      let v = mul-pos (mul-pos a b) c in
      omega arith

  cleared_length : (n : ℕ) (old : List ℕ) → n ≤ length old → length (replicate n 0 ++ drop n old) ≡ length old
  cleared_length n old h = length_front old (replicate n 0) n (length-replicate n 0 ∙ sym (length-take-le n old h))

  links-length : (b : Bool) → is_knuth l.config.solver ≡ b → length (cond b (replicate 32768 0 ++ drop 32768 l.links) l.links) ≡ length l.links
  links-length true e = cleared_length 32768 l.links ((passed l ok).links_long e)
  links-length false e = refl

  stretch : (list : List (List ℕ)) → ((x : List ℕ) → Memᴰ x list → length x ≡ size) → list ≡ answers_of (tray_of l) (identify_of l.config) l.config.solver
      → Stretch list l (outcome l)
  unfolding accepted page_of capacity cleared
  stretch list sized its =
      subst (λ (o : Outcome). Stretch list l o) (ap (λ (xs : List (List ℕ)). accepted_with (page xs l.skip (capacity l)) l) its ∙ sym (outcome_accepted l ok))
      record {
        number = refl;
        capacity = capacity l;
        they_fit = room_fits list size size_pos sized l.skip l.answers;
        one_more_does_not = no_more_room list size size_pos sized l.skip l.answers;
        written = page_written list size size_pos sized l.skip l.answers;
        further = page_further list size size_pos sized l.skip l.answers;
        bytes = page_bytes list size size_pos sized l.skip l.answers;
        answers_length = page_length list size size_pos sized l.skip l.answers;
        work = refl;
        work_length = cleared_length 8192 l.work (passed l ok).work_long;
        links = refl;
        links_length = links-length (is_knuth l.config.solver) refl;
      }

-- every page of a tray's one list is its stretch
pub answers_sized : (t : Tray) (i : Identify) (e : SolverKind) (x : List ℕ) → Memᴰ x (answers_of t i e) → length x ≡ answer_size t.frame.lent
unfolding answers_of compile
answers_sized t i e x m =
    let r = Memᴰ.of_map (answer (compile t)) (listed (compile t) i e) m in
    ap length (sym r.2) ∙ answer-length (compile t) r.0

-- the box of the frame is the one that was lent
pub box_lent : (l : Call) → (tray_of l).frame.lent ≡ sides_of l.board
unfolding tray_of strip_tray lent_of frame_of grid_of
box_lent l = refl

pub pages_of : (t : Tray) (i : Identify) (e : SolverKind) → Pages outcome t i e (answers_of t i e)
unfolding Pages
pages_of t i e l h =
    stretch l h.not_refused (answers_of t i e)
    (λ x m. answers_sized t i e x m ∙ ap (λ (u : Tray). answer_size u.frame.lent) (sym h.tray) ∙ ap answer_size (box_lent l))
    (sym (λ k. answers_of (h.tray k) (h.identification k) (h.engine k)))

-- ---- copies fit a byte
member_sum : (f : Piece → ℕ) (qs : List Piece) (q : Piece) → Memᴰ q qs → f q ≤ sum (map f qs)
member_sum f [] q m = absurd (Memᴰ.not-nil m)
member_sum f (p ∷ qs) q m = go (Memᴰ.cases_cons m) (λ (k : Memᴰ q qs). member_sum f qs q k)
  where
    go : (q ≡ p) ⊎ Memᴰ q qs → (Memᴰ q qs → f q ≤ sum (map f qs)) → f q ≤ f p + sum (map f qs)
    go (inl e) r = let i = ap f e in omega arith
    go (inr k) r = let i = r k in omega arith

-- in an accepted tray piece numbers are below 16 and copy numbers below 128
module _ (l : Call) (ok : refusal l ≡ 0) where
  few-pieces : length (tray_of l).pieces ≤ 16
  unfolding lent_of strip_tray tray_of
  few-pieces =
      let a = (passed l ok).lent.few_pieces in
      let b = length-map {B = Piece} l.pieces (piece_of l.bytes) in
      let c = length-map {B = Piece} (lent_of l).pieces strip_piece in
      omega arith

  -- stripping changes no count
  pub copies-lent : copy_count (tray_of l) ≡ copy_count (lent_of l)
  unfolding copy_count tray_of strip_tray
  copies-lent = ap sum (map-map {B = Piece} (λ q. q.count) strip_piece (lent_of l).pieces)

  pub copy_fits : (d : Kind) → Memᴰ d (compile (tray_of l)).kinds → (x : Copy) → Memᴰ x d.copies → (x.piece < 16) × (x.copy < 128)
  unfolding compile copy_count
  copy_fits d k x m =
      let r = kind_copy_below (tray_of l) d k x m in
      let a = nth_below (tray_of l).pieces x.piece r.0 r.1 in
      let b = few-pieces in
      let c = member_sum (λ (q : Piece). q.count) (tray_of l).pieces r.0 (nth_mem (tray_of l).pieces x.piece r.1) in
      let e = (passed l ok).lent.few_copies in
      let g = copies-lent in
      let f = r.2 in
      (omega arith, omega arith)

  -- what lies on a cell: a copy of some kind, or 255.255
  on-cell : (P : List Placement) (n : ℕ) → ((copy_on (taken (compile (tray_of l)) P) n).piece < 256) × ((copy_on (taken (compile (tray_of l)) P) n).copy < 256)
  unfolding copy_on
  on-cell P n = go (keep (λ (z : Taken). member n z.cells) (taken C P)) (λ x m. (keep_at (λ (z : Taken). member n z.cells) (taken C P) m).0)
    where
      C : Compiled
      C = compile (tray_of l)

      go : (xs : List Taken) → ((x : Taken) → Memᴰ x xs → Memᴰ x (taken C P))
          → ((head_or (record { piece = 255; copy = 255 }) (map (λ z. z.copy) xs)).piece < 256) × ((head_or (record { piece = 255; copy = 255 }) (map (λ z. z.copy) xs)).copy < 256)
      go [] f = (omega arith, omega arith)
      go (y ∷ ys) f =
          let r = taken_at C (accepted_well_made l ok) P y (f y (Memᴰ.head refl)) in
          let k = copy_fits r.1 (nth_mem C.kinds r.0 r.2) y.copy (nth_mem r.1.copies r.3 r.5) in
          let a = k.0 in
          let b = k.1 in
          (omega arith, omega arith)

  are-bytes : (P : List Placement) → T (all (λ n. ltb n 256) (answer (compile (tray_of l)) P))
  unfolding answer
  are-bytes P = all_of (λ n. ltb n 256) (each (box C.frame.lent) two) (λ n m. go n (each_at two (box C.frame.lent) m))
    where
      C : Compiled
      C = compile (tray_of l)

      two : Cell → List ℕ
      two u = two_bytes (taken C P) (lent_cells C) u

      go : (n : ℕ) → (u : Cell) × Memᴰ u (box C.frame.lent) × Memᴰ n (two u) → T (ltb n 256)
      go n x = at (Memᴰ.cases_cons x.2)
        where
          fits : ((copy_on (taken C P) (scan_number (lent_cells C) x.0)).piece < 256) × ((copy_on (taken C P) (scan_number (lent_cells C) x.0)).copy < 256)
          fits = on-cell P (scan_number (lent_cells C) x.0)

          last : (n ≡ (copy_on (taken C P) (scan_number (lent_cells C) x.0)).copy) ⊎ Memᴰ n [] → T (ltb n 256)
          last (inl e) = subst (λ (k : ℕ). T (ltb k 256)) (sym e) (lt→ltb (copy_on (taken C P) (scan_number (lent_cells C) x.0)).copy 256 fits.1)
          last (inr k) = absurd (Memᴰ.not-nil k)

          at : (n ≡ (copy_on (taken C P) (scan_number (lent_cells C) x.0)).piece) ⊎ Memᴰ n ((copy_on (taken C P) (scan_number (lent_cells C) x.0)).copy ∷ []) → T (ltb n 256)
          at (inl e) = subst (λ (k : ℕ). T (ltb k 256)) (sym e) (lt→ltb (copy_on (taken C P) (scan_number (lent_cells C) x.0)).piece 256 fits.0)
          at (inr k) = last (Memᴰ.cases_cons k)

  -- ---- the demands
  abbrev T₀ : Tray
  T₀ = tray_of l

  abbrev C₀ : Compiled
  C₀ = compile (tray_of l)

  well : WellMade (compile (tray_of l))
  well = accepted_well_made l ok

  listed_facts : (i : Identify) (e : SolverKind) → T (is_ported e) → ListFacts (compile (tray_of l)) i (listed (compile (tray_of l)) i e)
  listed_facts = list_facts (compile (tray_of l)) well (geometry l ok)

  -- no answer stands twice
  answers_apart : (L : List (List Placement)) → Apart L → ((P : List Placement) → Memᴰ P L → Packing C₀ P) → Apart (map (answer C₀) L)
  answers_apart L h f = apart_map (answer C₀) L h (λ P Q m k e. (geometry l ok).answers_differ P Q (f P m) (f Q k) e)

  covers_of : (L : List (List Placement)) → CoverList C₀ well L → Apart L → ((P : List Placement) → Memᴰ P L → Packing C₀ P) → Covers T₀ (map (answer C₀) L)
  unfolding cover_answer
  covers_of L x h f =
      record {
        all_of_them = λ rows k. Memᴰ.map (answer C₀) (x.all_of_them rows k);
        only_those = λ a m.
            let r = Memᴰ.of_map (answer C₀) L m in
            let k = x.only_those r.0 r.1 in
            (k.0, k.1, ap (answer C₀) k.2 ∙ r.2);
        each_once = answers_apart L h f;
        told_apart = λ rows others k m e.
            rows_same C₀ well rows others k m ((geometry l ok).answers_differ (placements_in C₀ rows) (placements_in C₀ others) (cover_packing C₀ well rows k) (cover_packing C₀ well others m) e);
      }

  fast_orders : (i : Identify) → T (ascending (fast_ahead C₀ i) (listed C₀ i Fast))
  unfolding listed packings
  fast_orders i = keep_ascending (fast_ahead C₀ i) (kept C₀ i) (fast_list C₀ i) (fast_ascending C₀ well i)

  two : Demand2 outcome (tray_of l)
  unfolding answers_of is_ported
  two =
      record {
        fast = covers_of (listed C₀ None Fast) (fast_covers C₀ well) (fast_apart C₀ well None) (listed_facts None Fast tt).packings;
        knuth = covers_of (listed C₀ None KnuthAlgorithm) (knuth_covers C₀ well) (knuth_apart C₀ well None) (listed_facts None KnuthAlgorithm tt).packings;
        rearranged = λ i. Perm.map (answer C₀) (perm_of (listed C₀ i Fast) (listed C₀ i KnuthAlgorithm) (fast_apart C₀ well i) (knuth_apart C₀ well i) (fast_knuth C₀ well i) (knuth_fast C₀ well i));
        pages = λ i e. pages_of T₀ i e;
        fast_order = fast_orders;
        knuth_order = knuth_ordered C₀ well;
      }

  three : OneList outcome (tray_of l) (identify_of l.config) l.config.solver (listed (compile (tray_of l)) (identify_of l.config) l.config.solver)
  unfolding answers_of
  three =
      record {
        only_packings = f.packings;
        none_twice = answers_apart (listed C₀ (identify_of l.config) l.config.solver) f.apart f.packings;
        answers_differ = (geometry l ok).answers_differ;
        listed_exactly = f.exactly;
        no_two_alike = f.no_two_alike;
        exactly_one = f.exactly_one;
        with_neither = f.with_neither;
        empty_iff_none = f.empty_iff_none;
        answer_length = λ P. length_is P;
        are_bytes = are-bytes;
        pages = pages_of T₀ (identify_of l.config) l.config.solver;
      }
    where
      f : ListFacts C₀ (identify_of l.config) (listed C₀ (identify_of l.config) l.config.solver)
      f = listed_facts (identify_of l.config) l.config.solver (passed l ok).ported

      length_is : (P : List Placement) → length (answer C₀ P) ≡ answer_size T₀.frame.lent
      length_is P = unfold compile in (answer-length C₀ P)

-- Demand 2
pub demand2_holds : MeetsDemand2 outcome
unfolding MeetsDemand2
demand2_holds l ok = two l ok

-- Demand 3
pub demand3_holds : MeetsDemand3 outcome
unfolding MeetsDemand3
demand3_holds l ok = three l ok
