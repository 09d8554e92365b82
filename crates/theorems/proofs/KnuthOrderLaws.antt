-- Knuth's listed packings stand in Knuth's order. Assumes nothing.
use Prim.Native.Nat.{ℕ, zero, suc, ◌+◌, ◌≤◌, ◌<◌}
use mathlib.Core.Bool.{Bool, true, false, cond, not, ◌&&◌, and_comm}
use mathlib.Core.List.Memᴰ
use mathlib.Core.List.{List, [], ◌∷◌, Memᴰ, head-eq_of_cons-eq, tail-eq_of_cons-eq}
use mathlib.Core.Path.{◌≡◌, refl, sym, ap, ◌∙◌}
use mathlib.Core.Logic.{◌⊎◌, inl, inr}
use native.Mathlib.Omega.{arith}
use lib.Dec.{T, ltb, eqb, eqb→eq, ltb→lt, lt→ltb}
use lib.ListN.{length, get_or}
use Rattle.lists.specs.Lists.{all, how_many, keep, each, member, less, sort, is_empty, Ordered}
use Rattle.lists.proofs.TestLaws.{and_left, and_right, and_both, or_cases, clash, tests_same, eqb_of}
use Rattle.lists.proofs.ListLaws.{all_at, all_of, keep_same, keep_keep}
use Rattle.lists.proofs.SortLaws.{put_how_many, sort_ascending, less_trans, less_total, ordered_keep, ordered_imp, ordered_each, ordered_at, sort_at, sort_of, first_of}
use Rattle.lists.proofs.RangeLaws.{member_at, member_of}
use Rattle.lists.proofs.CountLaws.{how_many_length}
use Rattle.definitions.specs.Placements.{Placement, Compiled}
use Rattle.definitions.specs.Packing.{ahead, covering, used, limits}
use Rattle.definitions.specs.Kept.{Identify, kept}
use Rattle.definitions.specs.Orders.{State, start, possible, choose, search, Tally, tally_ahead, knuth_choices, knuth_list, packings, listed}
use Rattle.definitions.specs.KnuthOrder.{still_possible, possible_on, StepCell, KnuthAhead}
use Rattle.definitions.specs.KnuthOrder.KnuthAhead.{they_part, both_take}
use Rattle.definitions.specs.declared.SolverKind.TheVariants.{KnuthAlgorithm}
use Rattle.theorems.proofs.SearchLaws.{WellMade, Sound, Fair, sound_start, free_at, free_of, possible_left, possible_free, fresh, chosen_put, step, search_sound}
use Rattle.theorems.proofs.EngineLaws.{fewest, knuth_parts, tally, tallies_at, tally_of, tally_at, knuth_fair}

-- ---- tallies
abbrev key : Tally → List ℕ
key t = t.placements ∷ t.cell ∷ []

pub tally_trans : (t u v : Tally) → T (tally_ahead t u) → T (tally_ahead u v) → T (tally_ahead t v)
unfolding tally_ahead
tally_trans t u v a b = less_trans (key t) (key u) (key v) a b

pub tallies_tied : (t u : Tally) → T (not (tally_ahead t u)) → T (not (tally_ahead u t)) → t ≡ u
unfolding tally_ahead
tallies_tied t u a b = go (less_total (key t) (key u))
  where
    go : T (less (key t) (key u)) ⊎ ((key t ≡ key u) ⊎ T (less (key u) (key t))) → t ≡ u
    go (inl x) = absurd (clash (less (key t) (key u)) x a)
    go (inr (inl e)) = λ i. record { placements = head-eq_of_cons-eq e i; cell = head-eq_of_cons-eq (tail-eq_of_cons-eq e) i }
    go (inr (inr x)) = absurd (clash (less (key u) (key t)) x b)

-- the fewest, and of equals the first
at_most : (t u : Tally) → (u ≡ t) ⊎ T (tally_ahead t u) → (t.placements ≤ u.placements) × (u.placements ≡ t.placements → t.cell ≤ u.cell)
unfolding tally_ahead
at_most t u (inl e) = let a = ap (λ (v : Tally). v.placements) e in let b = ap (λ (v : Tally). v.cell) e in omega arith
at_most t u (inr x) = go (or_cases (ltb t.placements u.placements) (equal && less (t.cell ∷ []) (u.cell ∷ [])) x)
  where
    equal : Bool
    equal = eqb t.placements u.placements

    last : T (ltb t.cell u.cell) ⊎ T (eqb t.cell u.cell && false) → t.cell ≤ u.cell
    last (inl y) = let a = ltb→lt t.cell u.cell y in omega arith
    last (inr y) = absurd (and_right (eqb t.cell u.cell) false y)

    go : T (ltb t.placements u.placements) ⊎ T (equal && less (t.cell ∷ []) (u.cell ∷ [])) → (t.placements ≤ u.placements) × (u.placements ≡ t.placements → t.cell ≤ u.cell)
    go (inl y) = let a = ltb→lt t.placements u.placements y in omega arith
    go (inr y) =
        let a = eqb→eq t.placements u.placements (and_left equal (less (t.cell ∷ []) (u.cell ∷ [])) y) in
        let b = last (or_cases (ltb t.cell u.cell) (eqb t.cell u.cell && false) (and_right equal (less (t.cell ∷ []) (u.cell ∷ [])) y)) in
        omega arith

-- ---- the search
module _ (c : Compiled) (w : WellMade c) where
  abbrev ch : State → List Placement
  ch = knuth_choices c.placements

  -- C, the placements taken, are those chosen at a state in some order
  abbrev Same : List Placement → State → Type 0
  Same C s = (p : Placement → Bool) → how_many p C ≡ how_many p s.chosen

  module _ (s : State) (h : Sound c s) (C : List Placement) (same : Same C s) where
    covering_same : (n : ℕ) → covering C n ≡ covering s.chosen n
    unfolding covering
    covering_same n = same (λ q. member n q.cells)

    used_same : (k : ℕ) → used C k ≡ used s.chosen k
    unfolding used
    used_same k = same (λ q. eqb q.kind k)

    same_choose : (q : Placement) → Memᴰ q (ch s) → Same (q ∷ C) (choose s q)
    unfolding choose
    same_choose q a p =
        let x = knuth_parts c w s q a in
        ap (λ (k : ℕ). cond (p q) 1 0 + k) (same p) ∙ sym (put_how_many ahead p q s.chosen (fresh c w s h q x.0 x.2))

    -- what is still possible, and how much of it covers a cell
    possible_same : (q : Placement) → Memᴰ q c.placements → still_possible c C q ≡ possible s q
    unfolding still_possible possible
    possible_same q m = tests_same (uncovered && copies) (left && free) there back
      where
        uncovered : Bool
        uncovered = all (λ n. eqb (covering C n) 0) q.cells

        copies : Bool
        copies = ltb (used C q.kind) (get_or (limits c) q.kind 0)

        left : Bool
        left = ltb 0 (get_or s.left q.kind 0)

        free : Bool
        free = all (λ n. member n s.free) q.cells

        there : T (uncovered && copies) → T (left && free)
        there t =
            let a = ltb→lt (used C q.kind) (get_or (limits c) q.kind 0) (and_right uncovered copies t) in
            let e = used_same q.kind in
            let l = h.left q.kind in
            and_both left free (lt→ltb 0 (get_or s.left q.kind 0) (omega arith))
            (all_of (λ n. member n s.free) q.cells (λ n k. member_of s.free (free_of c w s h (w.on_board q m n k)
            (sym (covering_same n) ∙ eqb→eq (covering C n) 0 (all_at (λ i. eqb (covering C i) 0) q.cells (and_left uncovered copies t) k)))))

        back : T (left && free) → T (uncovered && copies)
        back t =
            let a = possible_left c w s h q m t in
            let e = used_same q.kind in
            let l = h.left q.kind in
            and_both uncovered copies (all_of (λ n. eqb (covering C n) 0) q.cells (λ n k. eqb_of (covering_same n ∙ (free_at c w s h (possible_free c w s h q m t k)).1)))
            (lt→ltb (used C q.kind) (get_or (limits c) q.kind 0) (omega arith))

    possible-on : (n : ℕ) → possible_on c C n ≡ (tally c w s n).placements
    unfolding possible_on tally
    possible-on n =
        how_many_length both c.placements
        ∙ ap length (keep_same both (λ q. possible s q && on q) c.placements (λ q m. ap (λ (b : Bool). on q && b) (possible_same q m) ∙ and_comm (on q) (possible s q)))
        ∙ ap length (sym (keep_keep (possible s) on c.placements))
        ∙ sym (how_many_length on (keep (possible s) c.placements))
      where
        on : Placement → Bool
        on q = member n q.cells

        both : Placement → Bool
        both q = on q && still_possible c C q

    -- the cell of the least tally
    least_step : (t : Tally) → Memᴰ t (tallies_at c w s) → ((u : Tally) → Memᴰ u (tallies_at c w s) → (u ≡ t) ⊎ T (tally_ahead t u)) → StepCell c C t.cell
    unfolding tally
    least_step t k f =
        record {
          on_board = on.0;
          uncovered = covering_same t.cell ∙ on.1;
          some_left = omega (arith, own, count);
          fewest = λ m b z l. omega (arith, count, least m b z l);
          first_of_equals = λ m l z e. omega (arith, (least m (omega (arith, on)) z (omega (arith, own, count))).1 (e ∙ count));
        }
      where
        own : Memᴰ t.cell s.free × (tally c w s t.cell ≡ t) × (0 < t.placements)
        own = tally_at c w s t k

        on : (t.cell < length c.cells) × (covering s.chosen t.cell ≡ 0)
        on = free_at c w s h own.0

        count : possible_on c C t.cell ≡ t.placements
        count = possible-on t.cell ∙ ap (λ (u : Tally). u.placements) own.1

        least : (m : ℕ) → m < length c.cells → covering C m ≡ 0 → 0 < possible_on c C m → (t.placements ≤ possible_on c C m) × (possible_on c C m ≡ t.placements → t.cell ≤ m)
        least m b z l =
            let u = tally c w s m in
            rw (possible-on m) (at_most t u (f u (tally_of c w s m (free_of c w s h b (sym (covering_same m) ∙ z)) (rw (possible-on m) at l))))

    -- the cell that the choices cover
    step-cell : (q : Placement) → Memᴰ q (ch s) → (n : ℕ) × StepCell c C n × ((r : Placement) → Memᴰ r (ch s) → Memᴰ n r.cells)
    unfolding fewest
    step-cell q a =
        let ts = tallies_at c w s in
        let f = first_of tally_ahead (sort tally_ahead ts) (sort_ascending tally_ahead tally_trans ts) (λ u. member u.cell q.cells) (knuth_parts c w s q a).1 in
        let n = f.0.cell in (
          n,
          least_step f.0 (sort_at tally_ahead ts f.1) (λ u m. f.2 u (sort_of tally_ahead tallies_tied ts m)),
          λ r b. member_at n r.cells (f.3 (λ u. member u.cell r.cells) (knuth_parts c w s r b).1),
        )

  abbrev fair : Fair c ch
  fair = knuth_fair c w

  -- what is found below a choice has it
  has : (fuel : ℕ) (s : State) → Sound c s → (q : Placement) → Memᴰ q (ch s) → {P : List Placement} → Memᴰ P (search ch fuel (choose s q)) → Memᴰ q P
  has fuel s h q a k = (search_sound c w ch fair fuel (choose s q) (step c w ch fair s h q a) k).1 q (chosen_put c w ch fair s h q a)

  abbrev Before : List Placement → List Placement → List Placement → Type 0
  Before C P Q = KnuthAhead c P Q C

  search_ordered : (fuel : ℕ) (s : State) (C : List Placement) → Sound c s → Same C s → Ordered (Before C) (search ch fuel s)
  unfolding search
  search_ordered zero s C h same = go (is_empty s.free)
    where
      go : (b : Bool) → Ordered (Before C) (cond b (s.chosen ∷ []) [])
      go true = (λ Q m. absurd (Memᴰ.not-nil m), tt)
      go false = tt
  search_ordered (suc fuel) s C h same =
      go (is_empty s.free) (λ (q : Placement) (a : Memᴰ q (ch s)). search_ordered fuel (choose s q) (q ∷ C) (step c w ch fair s h q a) (same_choose s h C same q a))
    where
      found : Placement → List (List Placement)
      found q = search ch fuel (choose s q)

      go : (b : Bool) → ((q : Placement) → Memᴰ q (ch s) → Ordered (Before (q ∷ C)) (found q)) → Ordered (Before C) (cond b (s.chosen ∷ []) (each (ch s) found))
      go true f = (λ Q m. absurd (Memᴰ.not-nil m), tt)
      go false f =
          ordered_each (λ q r. T (ahead q r)) (Before C) found (ch s) (ordered_at ahead (ch s) (fair.in_order s))
          (λ q a. let n = step-cell s h C same q a in
          ordered_imp (Before (q ∷ C)) (Before C) (found q) (λ P Q k l. both_take C n.0 q n.1 (has fuel s h q a k) (has fuel s h q a l) (n.2 q a)) (f q a))
          (λ q r a b t P Q k l. let n = step-cell s h C same q a in they_part C n.0 q r n.1 (has fuel s h q a k) (n.2 q a) (has fuel s h r b l) (n.2 r b) t)

  pub knuth_ordered : (i : Identify) → Ordered (λ P Q. KnuthAhead c P Q []) (listed c i KnuthAlgorithm)
  unfolding listed packings knuth_list start
  knuth_ordered i = ordered_keep (Before []) (kept c i) (knuth_list c) (search_ordered (length c.cells) (start c) [] (sound_start c) (λ p. refl))
