-- Branches that a search may leave early: what is listed stays as it is. Assumes nothing.
use Prim.Native.Nat.{ℕ, zero, suc, ◌≤◌, ◌<◌}
use mathlib.Core.Bool.{Bool, true, false, cond, not, ◌&&◌}
use mathlib.Core.List.Memᴰ
use mathlib.Core.List.{List, [], ◌∷◌, ◌++◌, Memᴰ}
use mathlib.Core.Path.{◌≡◌, refl, sym, ap, ◌∙◌, subst}
use mathlib.Core.Logic.{◌⊎◌, inl, inr}
use native.Mathlib.Omega.{arith}
use lib.Dec.{T, ltb, eqb, eqb→eq, ltb→lt}
use lib.ListN.{length, get_or}
use Rattle.lists.specs.Lists.{any, keep, each, below, from, member, less, is_empty}
use Rattle.lists.proofs.TestLaws.{and_left, and_right, and_both, or_cases, clash, eqb_of, holds}
use Rattle.lists.proofs.ListLaws.{each_keep, nothing_in, all_at, any_at, any_of, keep_at, keep_of, keep_keep, keep_each, each_at, each_same_in}
use Rattle.lists.proofs.SortLaws.{keep_ascending, ascending_unique, less_two}
use Rattle.lists.proofs.RangeLaws.{member_of}
use Rattle.lists.proofs.NthLaws.{nth_mem, nth_get_or, get_or_nth}
use Rattle.definitions.specs.Maps.{Map, turns, mirrorings, map_cell}
use Rattle.definitions.specs.Kinds.{Kind}
use Rattle.definitions.specs.Placements.{Placement, Compiled, compile}
use Rattle.definitions.specs.Packing.{ahead, limits, Packing, is_packing}
use Rattle.theorems.proofs.PackingLaws.{ahead_trans, ahead_irrefl, packing_test, packing_placed, packing_at}
use Rattle.definitions.specs.Kept.{Identify, compared, smaller, kind_after, image, images, symmetries, kept}
use Rattle.definitions.specs.Kept.Identify.{None, Turned, Mirrored}
use Rattle.definitions.specs.Orders.{State, start, possible, choose, search, identifies_turned, all_cells, kind0_first, fast_list, knuth_choices, knuth_list, packings, listed}
use Rattle.definitions.specs.Refusals.{Call, tray_of, refusal}
use Rattle.definitions.specs.declared.SolverKind.TheVariants.{Fast, KnuthAlgorithm}
use Rattle.definitions.specs.Pruning.{unless, has_dead_cell, knuth_pruned, moved_ahead, always_mirrorable, is_pruned, fast_pruned, Pruning}
use Rattle.theorems.proofs.SearchLaws.{WellMade, Sound, Fair, Extends, sound_start, free_at, still-possible, step, chosen_more, search_sound}
use Rattle.theorems.proofs.EngineLaws.{knuth_fair, fast_search, firsts, first_parts, has_first, same_first}
use Rattle.theorems.proofs.OrderLaws.{pj_of}
use Rattle.theorems.proofs.ImageLaws.{Onto-placement, image-at, image-of}
use Rattle.theorems.proofs.ActLaws.{maps_of, may, symmetry_at, images-of}
use Rattle.theorems.proofs.GeometryLaws.{W, numbered_cells, to_filled, of_filled, whole}
use Rattle.theorems.proofs.CarryLaws.{KindsAfter, allowed_packing, turned_enough}

-- ---- dead states
-- A search that makes no choice at a state that no packing extends lists the same.
module _ (c : Compiled) (w : WellMade c) (choices : State → List Placement) (fair : Fair c choices) (dead : State → Bool)
    (hopeless : (s : State) → Sound c s → T (dead s) → (P : List Placement) → Extends c w choices fair s P → ⊥) where
  pub unless_same : (fuel : ℕ) (s : State) → Sound c s → search (unless dead choices) fuel s ≡ search choices fuel s
  unfolding search unless
  unless_same zero s h = refl
  unless_same (suc fuel) s h =
      go (is_empty s.free) (dead s) refl (λ (q : Placement) (m : Memᴰ q (choices s)). unless_same fuel (choose s q) (step c w choices fair s h q m))
    where
      go : (b d : Bool) → dead s ≡ d → ((q : Placement) → Memᴰ q (choices s) → search (unless dead choices) fuel (choose s q) ≡ search choices fuel (choose s q))
          → cond b (s.chosen ∷ []) (each (cond d [] (choices s)) (λ q. search (unless dead choices) fuel (choose s q)))
          ≡ cond b (s.chosen ∷ []) (each (choices s) (λ q. search choices fuel (choose s q)))
      go true d e f = refl
      go false false e f = each_same_in (λ q. search (unless dead choices) fuel (choose s q)) (λ q. search choices fuel (choose s q)) (choices s) f
      go false true e f = sym (nothing_in (each (choices s) (λ q. search choices fuel (choose s q))) none)
        where
          none : (P : List Placement) → Memᴰ P (each (choices s) (λ q. search choices fuel (choose s q))) → ⊥
          none P m =
              let r = each_at (λ (q : Placement). search choices fuel (choose s q)) (choices s) m in
              let x = search_sound c w choices fair fuel (choose s r.0) (step c w choices fair s h r.0 r.1) r.2 in
              hopeless s h (holds (dead s) e) P (x.0, λ q a. x.1 q (chosen_more c w choices fair s r.0 q a))

-- ---- Knuth
module _ (c : Compiled) (w : WellMade c) where
  -- no packing extends a state with an uncovered cell that nothing possible covers
  pub dead_cell : (choices : State → List Placement) (fair : Fair c choices) (s : State) → Sound c s → T (has_dead_cell c.placements s)
      → (P : List Placement) → Extends c w choices fair s P → ⊥
  unfolding has_dead_cell
  dead_cell choices fair s h t P x =
      let ps = keep (possible s) c.placements in
      let r = any_at (λ (n : ℕ). not (any (λ q. member n q.cells) ps)) s.free t in
      let q = packing_at c P x.0 r.0 (free_at c w s h r.1).0 in
      let p = still-possible c w s h P x.0 x.1 r.0 r.1 q.0 q.1 q.2 in
      clash (any (λ z. member r.0 z.cells) ps)
      (any_of (λ (z : Placement). member r.0 z.cells) ps (keep_of (possible s) c.placements (packing_placed c P x.0 q.0 q.1) p) (member_of q.0.cells q.2)) r.2

  pub knuth_pruned_same : knuth_pruned c ≡ knuth_list c
  unfolding knuth_pruned knuth_list
  knuth_pruned_same =
      unless_same c w (knuth_choices c.placements) (knuth_fair c w) (has_dead_cell c.placements) (dead_cell (knuth_choices c.placements) (knuth_fair c w)) (length c.cells) (start c) (sound_start c)

  pub knuth_unchanged : (i : Identify) → keep (kept c i) (knuth_pruned c) ≡ listed c i KnuthAlgorithm
  unfolding listed packings
  knuth_unchanged i = ap (keep (kept c i)) knuth_pruned_same

-- ---- Fast: the comparison begins with the one placement of kind 0
module _ (c : Compiled) (w : WellMade c) (one : get_or (limits c) 0 0 ≡ 1) (enough : all_cells c ≡ length c.cells) where
  block : List Placement → ℕ → List ℕ
  block P k = let qs = keep (λ q. eqb q.kind k) P in length qs ∷ each qs (λ q. q.p ∷ q.j ∷ [])

  first_block : (P : List Placement) → Packing c P → (q : Placement) → Memᴰ q P → q.kind ≡ 0 → block P 0 ≡ 1 ∷ q.p ∷ q.j ∷ []
  unfolding block
  first_block P g q m z =
      ap (λ (l : List Placement). length l ∷ each l (λ y. y.p ∷ y.j ∷ []))
      (ascending_unique ahead ahead_trans ahead_irrefl (keep (λ y. eqb y.kind 0) P) (q ∷ []) (keep_ascending ahead (λ y. eqb y.kind 0) P g.a_set) tt
      (λ y h. let r = keep_at (λ (x : Placement). eqb x.kind 0) P h in Memᴰ.head (same_first c w one enough P g y q r.0 m (eqb→eq y.kind 0 r.1) z))
      (λ y h. keep_of (λ (x : Placement). eqb x.kind 0) P (Memᴰ.cast (Memᴰ.eq_of_singleton h) m) (eqb_of (ap (λ (x : Placement). x.kind) (Memᴰ.eq_of_singleton h) ∙ z))))

  pub first_smaller : (P Q : List Placement) → Packing c P → Packing c Q → (q r : Placement) → Memᴰ q P → Memᴰ r Q → q.kind ≡ 0 → r.kind ≡ 0 → T (ahead r q) → T (smaller c Q P)
  unfolding smaller compared block
  first_smaller P Q g h q r m k z y t = go (length c.kinds) (w.of_kinds q (packing_placed c P g q m))
    where
      go : (n : ℕ) → q.kind < n → T (less (each (below n) (block Q)) (each (below n) (block P)))
      go zero l = absurd (omega arith)
      go (suc n) l =
          subst (λ (b : List ℕ). T (less (b ++ each (from 1 n) (block Q)) (block P 0 ++ each (from 1 n) (block P)))) (sym (first_block Q h r k y))
          (subst (λ (b : List ℕ). T (less (1 ∷ r.p ∷ r.j ∷ each (from 1 n) (block Q)) (b ++ each (from 1 n) (block P)))) (sym (first_block P g q m z))
          (less_two r.p r.j q.p q.j (each (from 1 n) (block Q)) (each (from 1 n) (block P)) (pj_of r q (y ∙ sym z) t)))

-- every kind has a partner, with copies enough
pub mirrored_enough : (c : Compiled) → T (always_mirrorable c) → KindsAfter c true
unfolding always_mirrorable kind_after limits
mirrored_enough c t k h =
    let d = get_or_nth c.kinds k h in
    let i = d.0.partner in
    let n = length d.0.copies in
    let u = all_at (λ (x : Kind). ltb x.partner (length c.kinds) && eqb (length x.copies) (get_or (limits c) x.partner 0)) c.kinds t (nth_mem c.kinds k d.1) in
    let a = ltb→lt i (length c.kinds) (and_left (ltb i (length c.kinds)) (eqb n (get_or (limits c) i 0)) u) in
    let b = eqb→eq n (get_or (limits c) i 0) (and_right (ltb i (length c.kinds)) (eqb n (get_or (limits c) i 0)) u) in
    let e = nth_get_or (λ (x : Kind). x.partner) (length c.kinds) c.kinds k d.1 in
    let f = nth_get_or {B = ℕ} (λ (x : Kind). length x.copies) 0 c.kinds k d.1 in
    (subst (λ (j : ℕ). j < length c.kinds) (sym e) a, subst (λ (j : ℕ). get_or (limits c) j 0 ≤ get_or (limits c) k 0) (sym e) (omega arith))

module _ (l : Call) (ok : refusal l ≡ 0) where
  abbrev C : Compiled
  C = compile (tray_of l)

  module _ (one : get_or (limits C) 0 0 ≡ 1) (enough : all_cells C ≡ length C.cells) where
    -- a packing with a placement of kind 0 that an allowed map takes ahead is not kept: its image is a smaller packing
    pub not_kept : (i : Identify) (odd : Bool) → T (may i odd) → KindsAfter C odd
        → (q : Placement) → q.kind ≡ 0 → T (moved_ahead C odd (maps_of odd) q) → (P : List Placement) → Packing C P → Memᴰ q P → T (kept C i P) → ⊥
    unfolding moved_ahead kept
    not_kept i odd fine copies q z t P g m k =
        let s = C.board.sides in
        let a = any_at (λ (h : Map). any (λ r. eqb r.kind q.kind && ahead r q) (image C odd (map_cell h s) (q ∷ []))) (symmetries C.board (maps_of odd)) t in
        let f = map_cell a.0 s in
        let b = any_at (λ (r : Placement). eqb r.kind q.kind && ahead r q) (image C odd f (q ∷ [])) a.2 in
        let al = symmetry_at C (W l ok) (numbered_cells l ok) (whole l ok) (to_filled l ok) (of_filled l ok) odd a.0 a.1 in
        let x = image-at C (W l ok) (numbered_cells l ok) odd f (q ∷ []) b.0 b.1 in
        let o = subst (λ (r : Placement). Onto-placement C (W l ok) (numbered_cells l ok) odd f r b.0) (Memᴰ.eq_of_singleton x.1.1) x.1.2 in
        let Q = image C odd f P in
        let h = allowed_packing l ok odd copies a.0 al P g in
        let there = images-of C (W l ok) (numbered_cells l ok) (whole l ok) (to_filled l ok) (of_filled l ok) i P Q (record { odd = odd; by = a.0; fine = fine; allowed = al; onto = refl }) in
        let e = eqb→eq b.0.kind q.kind (and_left (eqb b.0.kind q.kind) (ahead b.0 q) b.2) in
        clash (is_packing C Q && smaller C Q P)
        (and_both (is_packing C Q) (smaller C Q P) (packing_test C Q h)
        (first_smaller C (W l ok) one enough P Q g h q b.0 m (image-of C (W l ok) (numbered_cells l ok) odd f P b.0 q x.0 m o) z (e ∙ z)
        (and_right (eqb b.0.kind q.kind) (ahead b.0 q) b.2)))
        (all_at (λ (R : List Placement). not (is_packing C R && smaller C R P)) (images C i P) k there)

    pruned_not_kept : (i : Identify) (q : Placement) → q.kind ≡ 0 → T (is_pruned C i q) → (P : List Placement) → Packing C P → Memᴰ q P → T (kept C i P) → ⊥
    unfolding is_pruned
    pruned_not_kept None q z t P g m k = t
    pruned_not_kept Turned q z t P g m k = not_kept Turned false tt (turned_enough l ok) q z t P g m k
    pruned_not_kept Mirrored q z t P g m k = go (or_cases (moved_ahead C false turns q) (always_mirrorable C && (eqb (kind_after C true 0) 0 && moved_ahead C true mirrorings q)) t)
      where
        go : T (moved_ahead C false turns q) ⊎ T (always_mirrorable C && (eqb (kind_after C true 0) 0 && moved_ahead C true mirrorings q)) → ⊥
        go (inl s) = not_kept Mirrored false tt (turned_enough l ok) q z s P g m k
        go (inr s) =
            not_kept Mirrored true tt (mirrored_enough C (and_left (always_mirrorable C) (eqb (kind_after C true 0) 0 && moved_ahead C true mirrorings q) s)) q z
            (and_right (eqb (kind_after C true 0) 0) (moved_ahead C true mirrorings q) (and_right (always_mirrorable C) (eqb (kind_after C true 0) 0 && moved_ahead C true mirrorings q) s)) P g m k

    -- so nothing is kept of what a search finds from a pruned placement
    pub pruned_empty : (i : Identify) (q : Placement) → Memᴰ q (firsts C (W l ok)) → T (is_pruned C i q) → keep (kept C i) (fast_search C (W l ok) (choose (start C) q)) ≡ []
    pruned_empty i q m t =
        nothing_in (keep (kept C i) (fast_search C (W l ok) (choose (start C) q))) (λ P k.
        let r = keep_at (kept C i) (fast_search C (W l ok) (choose (start C) q)) k in
        let x = has_first C (W l ok) one enough q m P r.0 in
        pruned_not_kept i q (first_parts C (W l ok) one enough q m).1 t P x.0 x.1 r.1)

  pub fast_unchanged : (i : Identify) → keep (kept C i) (fast_pruned C i) ≡ listed C i Fast
  unfolding listed packings fast_pruned fast_list fast_search firsts kind0_first
  fast_unchanged i = go (kind0_first C i) (λ t. t)
    where
      F : Placement → List (List Placement)
      F q = fast_search C (W l ok) (choose (start C) q)

      twice : (b : Bool) → T (not (not b)) → T b
      twice true t = tt
      twice false t = t

      go : (b : Bool) → (T b → T (kind0_first C i))
          → keep (kept C i) (cond b (each (keep (λ q. eqb q.kind 0 && not (is_pruned C i q)) C.placements) F) (fast_search C (W l ok) (start C)))
          ≡ keep (kept C i) (cond b (each (firsts C (W l ok)) F) (fast_search C (W l ok) (start C)))
      go false f = refl
      go true f =
          let t = and_right (identifies_turned i) (eqb (get_or (limits C) 0 0) 1 && eqb (all_cells C) (length C.cells)) (f tt) in
          let one = eqb→eq (get_or (limits C) 0 0) 1 (and_left (eqb (get_or (limits C) 0 0) 1) (eqb (all_cells C) (length C.cells)) t) in
          let enough = eqb→eq (all_cells C) (length C.cells) (and_right (eqb (get_or (limits C) 0 0) 1) (eqb (all_cells C) (length C.cells)) t) in
          keep_each (kept C i) F (keep (λ q. eqb q.kind 0 && not (is_pruned C i q)) C.placements)
          ∙ ap (λ (qs : List Placement). each qs (λ q. keep (kept C i) (F q))) (sym (keep_keep (λ q. eqb q.kind 0) (λ q. not (is_pruned C i q)) C.placements))
          ∙ each_keep (λ q. not (is_pruned C i q)) (λ q. keep (kept C i) (F q)) (firsts C (W l ok)) (λ q m u. pruned_empty one enough i q m (twice (is_pruned C i q) u))
          ∙ sym (keep_each (kept C i) F (firsts C (W l ok)))

pub pruning_holds : Pruning
unfolding Pruning
pruning_holds l ok = record { fast = fast_unchanged l ok; knuth = knuth_unchanged (compile (tray_of l)) (W l ok) }
