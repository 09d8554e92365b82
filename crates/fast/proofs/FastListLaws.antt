-- The list that Fast walks through is document 01's: rows in their order are the placements in order, so a row's number tells which is ahead. Assumes nothing.
use Prim.Native.Nat.{ℕ, suc, ◌+◌, ◌<◌}
use mathlib.Core.Bool.{Bool, true, false, cond, not, ◌&&◌, ◌||◌}
use mathlib.Core.List.{List, [], ◌∷◌, map, Memᴰ}
use mathlib.Core.Path.{◌≡◌, refl, sym, ap, ap₂, ◌∙◌, subst}
use mathlib.Core.Logic.{◌⊎◌, inl, inr}
use native.Mathlib.Omega.{arith}
use lib.Dec.{T, ltb, eqb, eqb→eq, ltb→lt, lt→ltb}
use lib.ListN.{length, get_or, length-map}
use Rattle.lists.specs.Lists.{cons_if, all, any, keep, each, below, from, before, same, less, sort, ascending}
use Rattle.lists.proofs.TestLaws.{or_no, and_left, and_right, and_both, eqb_of, holds, or_cases, tests_same}
use Rattle.lists.proofs.ListLaws.{any_at, any_of, keep_at, keep_of, keep_same, each_at, map_same, each_map, any_same, any_map, before_at, before_most}
use Rattle.lists.proofs.ListLaws.{get_or_mem, mem_get_or}
use Rattle.lists.proofs.SortLaws.{ahead_number, get_or_ahead}
use Rattle.lists.proofs.RangeLaws.{below_at, map_below}
use Rattle.lists.proofs.NthLaws.{Nth, nth_get_or}
use Rattle.definitions.specs.Maps.{Map, map_cell, turns, mirrorings}
use Rattle.definitions.specs.Kinds.{Kind}
use Rattle.definitions.specs.Placements.{Placement, Compiled, compile}
use Rattle.definitions.specs.Packing.{rank, ahead, limits, Packing}
use Rattle.definitions.specs.Kept.{Identify, cell_after, moved, image, symmetries, kept}
use Rattle.definitions.specs.Kept.Identify.{None, Turned, Mirrored}
use Rattle.definitions.specs.Orders.{State, start, choose, search, fast_choices, identifies_turned, all_cells, kind0_first, fast_list, packings, listed}
use Rattle.definitions.specs.Pruning.{moved_ahead, always_mirrorable, is_pruned, fast_pruned}
use Rattle.definitions.specs.Answers.{answer}
use Rattle.definitions.specs.Emission.{answers_in}
use Rattle.definitions.specs.Outcomes.{answers_of}
use Rattle.definitions.specs.Refusals.{Call, tray_of, refusal}
use Rattle.definitions.specs.declared.SolverKind.TheVariants.{Fast}
use Rattle.theorems.proofs.PackingLaws.{ahead_trans, ahead_irrefl}
use Rattle.theorems.proofs.SearchLaws.{from_start_sound}
use Rattle.theorems.proofs.EngineLaws.{fast_fair, fast_search, firsts, has_first}
use Rattle.theorems.proofs.PruningLaws.{fast_unchanged}
use Rattle.theorems.proofs.GeometryLaws.{W}
use Rattle.rows.specs.Systems.{System, cell_images, system_of, kind_by, cells_by, moved_by, row_with}
use Rattle.kept.specs.Normal.{no_row, row_of, image_of}
use Rattle.kept.specs.Entries.{entries, start_by}
use Rattle.fast.specs.Searching.{fast_below}
use Rattle.fast.specs.Pruned.{moved_before, always_mirrorable_by, pruned_by, first_rows, fast_first}
use Rattle.fast.specs.Listing.{first_by, fast_answers}
use Rattle.rows.proofs.SystemMapLaws.{takes_to, kind_is}
use Rattle.kept.proofs.EntryLaws.{entries_same}
use Rattle.fast.proofs.ListingLaws.{first_same}

-- ---- lists
map_keep : {A B : Type 0} (f : A → B) (p : B → Bool) (xs : List A) → map f (keep (λ x. p (f x)) xs) ≡ keep p (map f xs)
map_keep f p [] = refl
map_keep {B = B} f p (x ∷ xs) = go (p (f x)) (map_keep f p xs)
  where
    go : (b : Bool) → map f (keep (λ y. p (f y)) xs) ≡ keep p (map f xs) → map f (cons_if b x (keep (λ y. p (f y)) xs)) ≡ cons_if b (f x) (keep p (map f xs))
    go true e = ap (λ (l : List B). f x ∷ l) e
    go false e = e

all_numbers : {A : Type 0} (p : ℕ → Bool) (q : A → Bool) (i : ℕ) (xs : List A) → ((n : ℕ) (x : A) → Nth xs n x → p (n + i) ≡ q x)
    → all p (from i (length xs)) ≡ all q xs
all_numbers p q i [] h = refl
all_numbers p q i (x ∷ xs) h =
    ap₂ (λ (a b : Bool). a && b) (ap p {x = i} {y = 0 + i} (omega arith) ∙ h 0 x refl)
    (all_numbers p q (suc i) xs (λ n z m. ap p {x = n + suc i} {y = suc n + i} (omega arith) ∙ h (suc n) z m))

-- ---- what is ahead of a placement of kind 0 is of kind 0
ahead_zero : (x q : Placement) → q.kind ≡ 0 → T (ahead x q) → x.kind ≡ 0
unfolding ahead rank
ahead_zero x q z t = go (or_cases (ltb x.kind q.kind) (eqb x.kind q.kind && less (x.p ∷ x.j ∷ []) (q.p ∷ q.j ∷ [])) t)
  where
    go : T (ltb x.kind q.kind) ⊎ T (eqb x.kind q.kind && less (x.p ∷ x.j ∷ []) (q.p ∷ q.j ∷ [])) → x.kind ≡ 0
    go (inl u) = let h = ltb→lt x.kind q.kind u in absurd (omega arith)
    go (inr u) = eqb→eq x.kind q.kind (and_left (eqb x.kind q.kind) (less (x.p ∷ x.j ∷ []) (q.p ∷ q.j ∷ [])) u) ∙ z

-- so the first row that passes has a smaller number where one that passes is ahead
module _ (xs : List Placement) (up : T (ascending ahead xs)) (r : ℕ) (h : r < length xs) (z : (get_or xs r no_row).kind ≡ 0) (test : Placement → Bool) where
  first_smaller : ltb (before test xs) r ≡ any (λ x. eqb x.kind (get_or xs r no_row).kind && ahead x (get_or xs r no_row)) (keep test xs)
  first_smaller = tests_same (ltb (before test xs) r) (any is_ahead (keep test xs)) there back
    where
      q : Placement
      q = get_or xs r no_row

      is_ahead : Placement → Bool
      is_ahead x = eqb x.kind q.kind && ahead x q

      there : T (ltb (before test xs) r) → T (any is_ahead (keep test xs))
      there t =
          let k = ltb→lt (before test xs) r t in
          let n = before test xs in
          let x = get_or xs n no_row in
          let a = get_or_ahead no_row ahead xs up n r k h in
          any_of is_ahead (keep test xs) (keep_of test xs (get_or_mem no_row xs n (omega arith)) (before_at test no_row xs (omega arith)))
          (and_both (eqb x.kind q.kind) (ahead x q) (eqb_of (ahead_zero x q z a ∙ sym z)) a)

      back : T (any is_ahead (keep test xs)) → T (ltb (before test xs) r)
      back t =
          let x = any_at is_ahead (keep test xs) t in
          let k = keep_at test xs x.1 in
          let n = mem_get_or no_row xs k.0 in
          let a = and_right (eqb x.0.kind q.kind) (ahead x.0 q) x.2 in
          let b = before_most test no_row xs n.0 n.1 (subst (λ (y : Placement). T (test y)) (sym n.2) k.1) in
          let c = ahead_number ahead ahead_trans ahead_irrefl xs no_row up n.0 r n.1 h (subst (λ (y : Placement). T (ahead y q)) (sym n.2) a) in
          lt→ltb (before test xs) r (omega arith)

module _ (l : Call) (ok : refusal l ≡ 0) where
  abbrev C : Compiled
  C = compile (tray_of l)

  abbrev S : System
  S = system_of (tray_of l)

  abbrev rows : List Placement
  rows = (compile (tray_of l)).placements

  -- ---- the start
  start_same : start_by S ≡ start C
  unfolding start_by start system_of
  start_same = refl

  -- ---- Fast's list
  fast_plain : (i : Identify) → kind0_first C i ≡ false → answers_in (fast_below S i (start C)) ≡ map (answer C) (listed C i Fast)
  unfolding fast_below system_of listed packings fast_list
  fast_plain i e =
      entries_same l ok i plain (from_start_sound C (W l ok) (fast_choices rows) (fast_fair C (W l ok)))
      ∙ ap (λ (b : Bool). map (answer C) (keep (kept C i) (cond b after plain))) (sym e)
    where
      go : State → List (List Placement)
      go t = search (fast_choices rows) (length C.cells) t

      plain : List (List Placement)
      plain = go (start C)

      after : List (List Placement)
      after = each (keep (λ q. eqb q.kind 0) rows) (λ q. go (choose (start C) q))

  -- ---- kind 0 first
  abbrev row : ℕ → Placement
  row r = get_or (compile (tray_of l)).placements r no_row

  module _ (r : ℕ) (h : r < length (compile (tray_of l)).placements) where
    moved_is : (odd : Bool) (m : Map) → moved_by S.partners odd (cell_images C m) (row r) ≡ moved C odd (map_cell m C.board.sides) (row r)
    unfolding moved_by moved cells_by
    moved_is odd m =
        ap₂ (λ (k : ℕ) (ns : List ℕ). k ∷ ns) (kind_is l ok odd (row r).kind)
        (ap (sort ltb) (map_same (λ n. get_or (cell_images C m) n 0) (cell_after C (map_cell m C.board.sides)) (row r).cells
        (λ n a. takes_to l ok m n ((W l ok).on_board (row r) (get_or_mem no_row rows r h) n a))))

    module _ (z : (row r).kind ≡ 0) where
      moved_first : (odd : Bool) (m : Map)
          → ltb (image_of S odd (cell_images C m) r) r
          ≡ any (λ x. eqb x.kind (row r).kind && ahead x (row r)) (image C odd (map_cell m C.board.sides) (row r ∷ []))
      unfolding image_of row_of row_with image system_of
      moved_first odd m =
          ap (λ (ns : List ℕ). ltb (before (λ x. same (x.kind ∷ x.cells) ns) rows) r) (moved_is odd m)
          ∙ first_smaller rows (W l ok).in_order r h z (λ x. same (x.kind ∷ x.cells) to)
          ∙ ap (any (λ (x : Placement). eqb x.kind (row r).kind && ahead x (row r)))
          (keep_same (λ (x : Placement). same (x.kind ∷ x.cells) to) (λ x. any (same (x.kind ∷ x.cells)) (to ∷ [])) rows
          (λ x k. sym (or_no (same (x.kind ∷ x.cells) to))))
        where
          to : List ℕ
          to = moved C odd (map_cell m C.board.sides) (row r)

      moved_same : (odd : Bool) (ms : List Map) → moved_before S odd (map (cell_images C) (symmetries C.board ms)) r ≡ moved_ahead C odd ms (row r)
      unfolding moved_before moved_ahead
      moved_same odd ms =
          any_map (λ to. ltb (image_of S odd to r) r) (cell_images C) (symmetries C.board ms)
          ∙ any_same (λ m. ltb (image_of S odd (cell_images C m) r) r)
          (λ m. any (λ x. eqb x.kind (row r).kind && ahead x (row r)) (image C odd (map_cell m C.board.sides) (row r ∷ [])))
          (symmetries C.board ms) (λ m k. moved_first odd m)

  always_same : always_mirrorable_by S ≡ always_mirrorable C
  unfolding always_mirrorable_by always_mirrorable system_of kind_by
  always_same = ap (λ (n : ℕ). all test (below n)) many ∙ all_numbers test each-kind 0 C.kinds at
    where
      ps : List ℕ
      ps = map (λ d. d.partner) C.kinds

      many : length (limits C) ≡ length C.kinds
      many = unfold limits in length-map C.kinds (λ (d : Kind). length d.copies)

      test : ℕ → Bool
      test k = ltb (get_or ps k (length ps)) (length (limits C)) && eqb (get_or (limits C) k 0) (get_or (limits C) (get_or ps k (length ps)) 0)

      each-kind : Kind → Bool
      each-kind d = ltb d.partner (length C.kinds) && eqb (length d.copies) (get_or (limits C) d.partner 0)

      copies_at : (n : ℕ) (d : Kind) → Nth C.kinds n d → get_or (limits C) n 0 ≡ length d.copies
      copies_at n d m = unfold limits in nth_get_or (λ (d : Kind). length d.copies) 0 C.kinds n m

      at : (n : ℕ) (d : Kind) → Nth C.kinds n d → test (n + 0) ≡ each-kind d
      at n d m =
          let e = nth_get_or (λ (d : Kind). d.partner) (length ps) C.kinds n m in
          let f = copies_at n d m in
          ap test {x = n + 0} {y = n} (omega arith) ∙ (λ i. ltb (e i) (many i) && eqb (f i) (get_or (limits C) (e i) 0))

  pruned_same : (i : Identify) (r : ℕ) → r < length rows → (row r).kind ≡ 0 → pruned_by S i r ≡ is_pruned C i (row r)
  unfolding pruned_by is_pruned system_of
  pruned_same None r h z = refl
  pruned_same Turned r h z = moved_same r h z false turns
  pruned_same Mirrored r h z =
      ap₂ (λ (a b : Bool). a || b) (moved_same r h z false turns)
      (ap₂ (λ (a b : Bool). a && b) always_same (ap₂ (λ (k : ℕ) (b : Bool). eqb k 0 && b) (kind_is l ok true 0) (moved_same r h z true mirrorings)))

  first-rows : (i : Identify) → map (row_of S) (first_rows S i) ≡ keep (λ q. eqb q.kind 0 && not (is_pruned C i q)) rows
  unfolding first_rows row_of system_of
  first-rows i =
      ap (map row) (keep_same (λ r. eqb (row r).kind 0 && not (pruned_by S i r)) (λ r. stays (row r)) (below (length rows)) (λ r m.
      go (eqb (row r).kind 0) (pruned_by S i r) (is_pruned C i (row r)) (λ t. pruned_same i r (below_at (length rows) m) (eqb→eq (row r).kind 0 t))))
      ∙ map_keep row stays (below (length rows)) ∙ ap (keep stays) (map_below row (length rows) no_row rows refl (λ k h. refl))
    where
      stays : Placement → Bool
      stays q = eqb q.kind 0 && not (is_pruned C i q)

      go : (b p q : Bool) → (T b → p ≡ q) → (b && not p) ≡ (b && not q)
      go true p q f = ap not (f tt)
      go false p q f = refl

  fast-first : (i : Identify) → kind0_first C i ≡ true → answers_in (fast_first S i (start C)) ≡ map (answer C) (listed C i Fast)
  unfolding fast_first system_of fast_pruned fast_search firsts kind0_first
  fast-first i e =
      ap (λ (L : List (List Placement)). answers_in (entries S i L))
      (sym (each_map (row_of S) F (first_rows S i)) ∙ ap (λ (qs : List Placement). each qs F) (first-rows i))
      ∙ entries_same l ok i after packed
      ∙ ap (λ (b : Bool). map (answer C) (keep (kept C i) (cond b after plain))) (sym e)
      ∙ ap (map (answer C)) (fast_unchanged l ok i)
    where
      F : Placement → List (List Placement)
      F q = search (fast_choices rows) (length C.cells) (choose (start C) q)

      plain : List (List Placement)
      plain = search (fast_choices rows) (length C.cells) (start C)

      stays : Placement → Bool
      stays q = eqb q.kind 0 && not (is_pruned C i q)

      after : List (List Placement)
      after = each (keep stays rows) F

      both : T (eqb (get_or (limits C) 0 0) 1 && eqb (all_cells C) (length C.cells))
      both = and_right (identifies_turned i) (eqb (get_or (limits C) 0 0) 1 && eqb (all_cells C) (length C.cells)) (holds (kind0_first C i) e)

      one : get_or (limits C) 0 0 ≡ 1
      one = eqb→eq (get_or (limits C) 0 0) 1 (and_left (eqb (get_or (limits C) 0 0) 1) (eqb (all_cells C) (length C.cells)) both)

      enough : all_cells C ≡ length C.cells
      enough = eqb→eq (all_cells C) (length C.cells) (and_right (eqb (get_or (limits C) 0 0) 1) (eqb (all_cells C) (length C.cells)) both)

      packed : (P : List Placement) → Memᴰ P after → Packing C P
      packed P m =
          let x = each_at F (keep stays rows) m in
          let k = keep_at stays rows x.1 in
          let first = keep_of (λ (q : Placement). eqb q.kind 0) rows k.0 (and_left (eqb x.0.kind 0) (not (is_pruned C i x.0)) k.1) in
          (has_first C (W l ok) one enough x.0 first P x.2).0

  -- ---- both: the engine's list has the answers of the document's
  pub fast-answers : (i : Identify) → answers_in (fast_answers (system_of (tray_of l)) i) ≡ answers_of (tray_of l) i Fast
  unfolding fast_answers answers_of
  fast-answers i =
      ap (λ (t : State). answers_in (cond (first_by S i) (fast_first S i t) (fast_below S i t))) start_same ∙ go (first_by S i) (first_same (tray_of l) i)
    where
      go : (b : Bool) → b ≡ kind0_first C i → answers_in (cond b (fast_first S i (start C)) (fast_below S i (start C))) ≡ map (answer C) (listed C i Fast)
      go true e = fast-first i (sym e)
      go false e = fast_plain i (sym e)
