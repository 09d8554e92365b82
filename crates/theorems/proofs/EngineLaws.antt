-- Both engines' choices are fair, so their lists hold exactly the packings, each once. Assumes nothing.
use Prim.Native.Nat.{ℕ, ◌*◌, ◌≤◌, ◌<◌}
use mathlib.Core.Bool.{Bool, true, false, cond, not, ◌&&◌}
use mathlib.Core.List.Memᴰ
use mathlib.Core.List.{List, [], ◌∷◌, map, Memᴰ}
use mathlib.Core.Path.{◌≡◌, refl, sym, ap, ◌∙◌, subst}
use mathlib.Core.Logic.{◌⊎◌, inl, inr}
use native.Mathlib.Nat.{mul-le-mul_right, le_of_mul-le-mul_right, le_antisymm, le_of_eq}
use native.Mathlib.Omega.{arith}
use lib.Dec.{T, ltb, eqb, eqb→eq, ltb→lt, lt→ltb}
use lib.ListN.{length, get_or, take, length-map}
use Rattle.lists.specs.Lists.{all, any, how_many, keep, each, below, member, ascending, sort, is_empty, Apart}
use Rattle.lists.proofs.TestLaws.{and_left, and_right, and_both, eqb_of}
use Rattle.lists.proofs.ListLaws.{all_at, all_of, any_at, any_of, keep_at, keep_of, each_at, each_of, how_many_pos, how_many_any, how_many_one, keep_length, apart_each, get_or_pos, one_at, head_at}
use Rattle.lists.proofs.SortLaws.{sort_at, sort_some, keep_ascending, apart_ascending}
use Rattle.lists.proofs.RangeLaws.{from_ascending, member_of, member_at, below_at, below_of, length_below}
use Rattle.lists.proofs.CountLaws.{total, total_same, total_one, total_tight, exchange, how_many_in, by_key, sum_map}
use Rattle.definitions.specs.Placements.{Placement, Compiled}
use Rattle.definitions.specs.Packing.{ahead, covering, used, limits, Packing}
use Rattle.theorems.proofs.PackingLaws.{ahead_irrefl, packing_placed, packing_covers, packing_within}
use Rattle.definitions.specs.Orders.{State, start, possible, choose, search, fast_choices, Tally, tally_ahead, tallies, knuth_choices, knuth_list, fast_list, sizes, all_cells, kind0_first, identifies_turned}
use Rattle.theorems.proofs.SearchLaws.{WellMade, Sound, Fair, sound_start, sound_choose, possible_free, search_sound, search_complete, search_apart, from_start_sound, from_start_complete, from_start_apart}
use Rattle.definitions.specs.Kept.{Identify}

mul_right_cancel_of_pos : {m n k : ℕ} → 0 < k → m * k ≡ n * k → m ≡ n
mul_right_cancel_of_pos h e = le_antisymm (le_of_mul-le-mul_right (le_of_eq e) h) (le_of_mul-le-mul_right (le_of_eq (sym e)) h)

-- ---- Fast
module _ (c : Compiled) (w : WellMade c) where
  pub fast_parts : (s : State) (q : Placement) → Memᴰ q (fast_choices c.placements s)
      → Memᴰ q c.placements × T (any (eqb q.p) (take 1 s.free)) × T (possible s q)
  unfolding fast_choices
  fast_parts s q m =
      let r = keep_at (λ (z : Placement). any (eqb z.p) (take 1 s.free) && possible s z) c.placements m in
      (r.0, and_left (any (eqb q.p) (take 1 s.free)) (possible s q) r.1, and_right (any (eqb q.p) (take 1 s.free)) (possible s q) r.1)

  fast-order : (s : State) → T (ascending ahead (fast_choices c.placements s))
  unfolding fast_choices
  fast-order s = keep_ascending ahead (λ (z : Placement). any (eqb z.p) (take 1 s.free) && possible s z) c.placements w.in_order

  fast_agree : (s : State) → Sound c s → (q r : Placement) → Memᴰ q (fast_choices c.placements s) → Memᴰ r (fast_choices c.placements s)
      → (n : ℕ) × Memᴰ n q.cells × Memᴰ n r.cells
  fast_agree s h q r a b =
      let x = fast_parts s q a in
      let y = fast_parts s r b in
      let o = one_at s.free (eqb q.p) (eqb r.p) x.1 y.1 in
      let e : q.p ≡ r.p = eqb→eq q.p o.0 o.1 ∙ sym (eqb→eq r.p o.0 o.2) in
      (q.p, w.covers_p q x.0, Memᴰ.cast e (w.covers_p r y.0))

  pub free_ascending : (s : State) → Sound c s → T (ascending ltb s.free)
  free_ascending s h =
      subst (λ (l : List ℕ). T (ascending ltb l)) (sym h.free) (keep_ascending ltb (λ (n : ℕ). eqb (covering s.chosen n) 0) (below (length c.cells)) (from_ascending 0 (length c.cells)))

  -- the first of an ascending list is at most each of it
  pub first_least : (xs : List ℕ) → T (ascending ltb xs) → (x : ℕ) → take 1 xs ≡ x ∷ [] → {n : ℕ} → Memᴰ n xs → x ≤ n
  first_least [] t x e m = absurd (Memᴰ.not-nil m)
  first_least (y ∷ ys) t x e {n} m = go (Memᴰ.cases_cons m)
    where
      y≡x : y ≡ x
      y≡x = Memᴰ.eq_of_singleton (subst (λ (l : List ℕ). Memᴰ y l) e (Memᴰ.head refl))

      go : (n ≡ y) ⊎ Memᴰ n ys → x ≤ n
      go (inl i) = omega (arith, y≡x)
      go (inr k) = let z = ltb→lt y n (all_at (ltb y) ys (and_left (all (ltb y) ys) (ascending ltb ys) t) k) in omega (arith, y≡x)

  fast_reach : (s : State) → Sound c s → T (not (is_empty s.free))
      → (n : ℕ) × Memᴰ n s.free × ((q : Placement) → Memᴰ q c.placements → T (possible s q) → Memᴰ n q.cells → Memᴰ q (fast_choices c.placements s))
  unfolding fast_choices
  fast_reach s h t = (o.0, o.2, λ q m p k. keep_of (λ (z : Placement). any (eqb z.p) (take 1 s.free) && possible s z) c.placements m (test q m p k))
    where
      o : (x : ℕ) × (take 1 s.free ≡ x ∷ []) × Memᴰ x s.free
      o = head_at s.free t

      test : (q : Placement) → Memᴰ q c.placements → T (possible s q) → Memᴰ o.0 q.cells → T (any (eqb q.p) (take 1 s.free) && possible s q)
      test q m p k =
          let a = w.from_p q m o.0 k in
          let b = first_least s.free (free_ascending s h) o.0 o.1 (possible_free c w s h q m p (w.covers_p q m)) in
          let e : q.p ≡ o.0 = omega arith in
          and_both (any (eqb q.p) (take 1 s.free)) (possible s q)
          (any_of (eqb q.p) (take 1 s.free) (subst (λ (l : List ℕ). Memᴰ o.0 l) (sym o.1) (Memᴰ.head refl)) (eqb_of e)) p

  pub fast_fair : Fair c (fast_choices c.placements)
  fast_fair =
      record {
        rows = λ s q m. (fast_parts s q m).0;
        can_be = λ s q m. (fast_parts s q m).2;
        in_order = fast-order;
        agree = fast_agree;
        reach = λ s h t f. fast_reach s h t;
      }

  -- ---- Knuth
  abbrev pub tallies_at : State → List Tally
  tallies_at s = tallies (keep (possible s) c.placements) s.free

  unfoldable pub fewest : State → List Tally
  fewest s = take 1 (sort tally_ahead (tallies_at s))

  pub knuth_parts : (s : State) (q : Placement) → Memᴰ q (knuth_choices c.placements s)
      → Memᴰ q c.placements × T (any (λ t. member t.cell q.cells) (fewest s)) × T (possible s q)
  unfolding knuth_choices fewest
  knuth_parts s q m =
      let r = keep_at (λ (z : Placement). any (λ t. member t.cell z.cells) (fewest s)) (keep (possible s) c.placements) m in
      let k = keep_at (possible s) c.placements r.0 in
      (k.0, r.1, k.1)

  knuth-order : (s : State) → T (ascending ahead (knuth_choices c.placements s))
  unfolding knuth_choices fewest
  knuth-order s =
      keep_ascending ahead (λ (z : Placement). any (λ t. member t.cell z.cells) (fewest s)) (keep (possible s) c.placements) (keep_ascending ahead (possible s) c.placements w.in_order)

  knuth_agree : (s : State) → Sound c s → (q r : Placement) → Memᴰ q (knuth_choices c.placements s) → Memᴰ r (knuth_choices c.placements s)
      → (n : ℕ) × Memᴰ n q.cells × Memᴰ n r.cells
  unfolding fewest
  knuth_agree s h q r a b =
      let x = knuth_parts s q a in
      let y = knuth_parts s r b in
      let o = one_at (sort tally_ahead (tallies_at s)) (λ t. member t.cell q.cells) (λ t. member t.cell r.cells) x.1 y.1 in
      (o.0.cell, member_at o.0.cell q.cells o.1, member_at o.0.cell r.cells o.2)

  unfoldable pub tally : State → ℕ → Tally
  tally s n = record { placements = how_many (λ q. member n q.cells) (keep (possible s) c.placements); cell = n }

  -- the tallies are those of the uncovered cells that a possible placement covers
  pub tally_of : (s : State) (n : ℕ) → Memᴰ n s.free → 0 < (tally s n).placements → Memᴰ (tally s n) (tallies_at s)
  unfolding tallies tally
  tally_of s n m h = keep_of (λ (u : Tally). ltb 0 u.placements) (map (tally s) s.free) (Memᴰ.map (tally s) m) (lt→ltb 0 (tally s n).placements h)

  pub tally_at : (s : State) (t : Tally) → Memᴰ t (tallies_at s) → Memᴰ t.cell s.free × (tally s t.cell ≡ t) × (0 < t.placements)
  unfolding tallies tally
  tally_at s t m =
      let r = keep_at (λ (u : Tally). ltb 0 u.placements) (map (tally s) s.free) m in
      let n = Memᴰ.of_map (tally s) s.free r.0 in
      let e : t.cell ≡ n.0 = sym (ap (λ (u : Tally). u.cell) n.2) in
      (Memᴰ.cast e n.1, ap (tally s) e ∙ n.2, ltb→lt 0 t.placements r.1)

  knuth_reach : (s : State) → Sound c s → T (not (is_empty s.free))
      → ((n : ℕ) → Memᴰ n s.free → (q : Placement) × Memᴰ q c.placements × T (possible s q) × Memᴰ n q.cells)
      → (n : ℕ) × Memᴰ n s.free × ((q : Placement) → Memᴰ q c.placements → T (possible s q) → Memᴰ n q.cells → Memᴰ q (knuth_choices c.placements s))
  unfolding knuth_choices fewest tallies tally
  knuth_reach s h t f = (o.0.cell, on_free, choice)
    where
      ps : List Placement
      ps = keep (possible s) c.placements

      ts : List Tally
      ts = tallies_at s

      n₀ : (x : ℕ) × (take 1 s.free ≡ x ∷ []) × Memᴰ x s.free
      n₀ = head_at s.free t

      q₀ : (q : Placement) × Memᴰ q c.placements × T (possible s q) × Memᴰ n₀.0 q.cells
      q₀ = f n₀.0 n₀.2

      some : Memᴰ (tally s n₀.0) ts
      some =
          tally_of s n₀.0 n₀.2
          (how_many_pos (λ (q : Placement). member n₀.0 q.cells) ps (keep_of (possible s) c.placements q₀.1 q₀.2) (member_of q₀.0.cells q₀.3))

      o : (x : Tally) × (take 1 (sort tally_ahead ts) ≡ x ∷ []) × Memᴰ x (sort tally_ahead ts)
      o = head_at (sort tally_ahead ts) (sort_some tally_ahead ts some)

      on_free : Memᴰ o.0.cell s.free
      on_free = (tally_at s o.0 (sort_at tally_ahead ts o.2)).0

      choice : (q : Placement) → Memᴰ q c.placements → T (possible s q) → Memᴰ o.0.cell q.cells → Memᴰ q (knuth_choices c.placements s)
      choice q m p k =
          keep_of (λ (z : Placement). any (λ t. member t.cell z.cells) (fewest s)) ps (keep_of (possible s) c.placements m p)
          (any_of (λ (u : Tally). member u.cell q.cells) (fewest s) (subst (λ (l : List Tally). Memᴰ o.0 l) (sym o.1) (Memᴰ.head refl)) (member_of q.cells k))

  pub knuth_fair : Fair c (knuth_choices c.placements)
  knuth_fair =
      record {
        rows = λ s q m. (knuth_parts s q m).0;
        can_be = λ s q m. (knuth_parts s q m).2;
        in_order = knuth-order;
        agree = knuth_agree;
        reach = knuth_reach;
      }

  -- ---- Fast with kind 0 first
  limits_length : length (limits c) ≡ length c.kinds
  unfolding limits
  limits_length = length-map c.kinds (λ d. length d.copies)

  -- a packing has as many cells as the board
  pub packing_cells : (P : List Placement) → Packing c P → total (λ q. get_or (sizes c) q.kind 0) P ≡ length c.cells
  unfolding covering
  packing_cells P g =
      total_same (λ q. get_or (sizes c) q.kind 0) (λ q. how_many (λ n. member n q.cells) (below (length c.cells))) P
      (λ q m. let row = packing_placed c P g q m in sym (how_many_in (length c.cells) q.cells (w.cells_ascend q row) (λ n k. w.on_board q row n k) ∙ w.sized q row))
      ∙ sym (exchange (λ (n : ℕ) (q : Placement). member n q.cells) (below (length c.cells)) P)
      ∙ total_same (λ n. how_many (λ q. member n q.cells) P) (λ n. 1) (below (length c.cells)) (λ n m. packing_covers c P g n (below_at (length c.cells) m))
      ∙ total_one (below (length c.cells)) ∙ length_below (length c.cells)

  -- where all copies together have as many cells as the board, it uses them all
  pub all_used : (P : List Placement) → Packing c P → all_cells c ≡ length c.cells → (k : ℕ) → k < length c.kinds → used P k ≡ get_or (limits c) k 0
  unfolding all_cells used
  all_used P g e k h = mul_right_cancel_of_pos (w.some_cells k h) (total_tight (λ i. used P i * get_or (sizes c) i 0) (λ i. get_or (limits c) i 0 * get_or (sizes c) i 0) (below (length c.kinds)) at_most equal k (below_of (length c.kinds) h))
    where
      at_most : (i : ℕ) → Memᴰ i (below (length c.kinds)) → used P i * get_or (sizes c) i 0 ≤ get_or (limits c) i 0 * get_or (sizes c) i 0
      at_most i m = mul-le-mul_right (get_or (sizes c) i 0) (packing_within c P g i (below_at (length c.kinds) m))

      equal : total (λ i. used P i * get_or (sizes c) i 0) (below (length c.kinds)) ≡ total (λ i. get_or (limits c) i 0 * get_or (sizes c) i 0) (below (length c.kinds))
      equal =
          sym (by_key (λ (q : Placement). q.kind) (λ i. get_or (sizes c) i 0) (length c.kinds) P (λ q m. w.of_kinds q (packing_placed c P g q m)))
          ∙ packing_cells P g ∙ sym e ∙ sum_map (λ i. get_or (limits c) i 0 * get_or (sizes c) i 0) (below (length c.kinds))

  -- a list of the packings: packings alone, all of them, none twice
  pub record Exactly (L : List (List Placement)) : Type 0 where
    pub only : (P : List Placement) → Memᴰ P L → Packing c P
    pub every : (P : List Placement) → Packing c P → Memᴰ P L
    pub apart : Apart L

  unfoldable pub fast_search : State → List (List Placement)
  fast_search s = search (fast_choices c.placements) (length c.cells) s

  unfoldable pub firsts : List Placement
  firsts = keep (λ q. eqb q.kind 0) c.placements

  pub firsts_up : T (ascending ahead firsts)
  unfolding firsts
  firsts_up = keep_ascending ahead (λ (q : Placement). eqb q.kind 0) c.placements w.in_order

  module _ (one : get_or (limits c) 0 0 ≡ 1) (enough : all_cells c ≡ length c.cells) where
    some_kind : 0 < length c.kinds
    some_kind = let e = limits_length in let p = get_or_pos (limits c) 0 (omega arith) in omega arith

    pub first_parts : (q : Placement) → Memᴰ q firsts → Memᴰ q c.placements × (q.kind ≡ 0)
    unfolding firsts
    first_parts q m = let r = keep_at (λ (z : Placement). eqb z.kind 0) c.placements m in (r.0, eqb→eq q.kind 0 r.1)

    first_possible : (q : Placement) → Memᴰ q firsts → T (possible (start c) q)
    unfolding possible start
    first_possible q m =
        let r = first_parts q m in
        let e : get_or (limits c) q.kind 0 ≡ get_or (limits c) 0 0 = ap (λ (k : ℕ). get_or (limits c) k 0) r.1 in
        and_both (ltb 0 (get_or (limits c) q.kind 0)) (all (λ n. member n (below (length c.cells))) q.cells) (lt→ltb 0 (get_or (limits c) q.kind 0) (omega arith))
        (all_of (λ n. member n (below (length c.cells))) q.cells (λ n k. member_of (below (length c.cells)) (below_of (length c.cells) (w.on_board q r.0 n k))))

    pub first_sound : (q : Placement) → Memᴰ q firsts → Sound c (choose (start c) q)
    first_sound q m = sound_choose c w (start c) (sound_start c) q (first_parts q m).0 (first_possible q m)

    pub first_chosen : (q : Placement) → (choose (start c) q).chosen ≡ q ∷ []
    unfolding choose start
    first_chosen q = refl

    first_free : (q : Placement) → length (choose (start c) q).free ≤ length c.cells
    unfolding choose start
    first_free q =
        let a = keep_length (λ (n : ℕ). not (member n q.cells)) (below (length c.cells)) in
        let b = length_below (length c.cells) in
        omega arith

    pub has_first : (q : Placement) → Memᴰ q firsts → (P : List Placement) → Memᴰ P (fast_search (choose (start c) q)) → Packing c P × Memᴰ q P
    unfolding fast_search
    has_first q m P k =
        let x = search_sound c w (fast_choices c.placements) fast_fair (length c.cells) (choose (start c) q) (first_sound q m) k in
        (x.0, x.1 q (subst (λ (l : List Placement). Memᴰ q l) (sym (first_chosen q)) (Memᴰ.head refl)))

    -- a packing has just one placement of kind 0
    pub one_first : (P : List Placement) → Packing c P → used P 0 ≡ 1
    one_first P g = all_used P g enough 0 some_kind ∙ one

    pub same_first : (P : List Placement) → Packing c P → (q r : Placement) → Memᴰ q P → Memᴰ r P → q.kind ≡ 0 → r.kind ≡ 0 → q ≡ r
    unfolding used
    same_first P g q r a b e f = how_many_one (λ (z : Placement). eqb z.kind 0) P (one_first P g) a b (eqb_of e) (eqb_of f)

    its_first : (P : List Placement) → Packing c P → (q : Placement) × Memᴰ q firsts × Memᴰ q P
    unfolding used firsts
    its_first P g =
        let o = one_first P g in
        let r = any_at (λ (z : Placement). eqb z.kind 0) P (how_many_any (λ (z : Placement). eqb z.kind 0) P (omega arith)) in
        (r.0, keep_of (λ (z : Placement). eqb z.kind 0) c.placements (packing_placed c P g r.0 r.1) r.2, r.1)

    fast_found : (q : Placement) → Memᴰ q firsts → (P : List Placement) → Packing c P → Memᴰ q P → Memᴰ P (fast_search (choose (start c) q))
    unfolding fast_search
    fast_found q m P g k =
        search_complete c w (fast_choices c.placements) fast_fair (length c.cells) (choose (start c) q) (first_sound q m) (first_free q) P
        (g, λ z a. Memᴰ.cast (Memᴰ.eq_of_singleton (subst (λ (l : List Placement). Memᴰ z l) (first_chosen q) a)) k)

    fast_apart : (q : Placement) → Memᴰ q firsts → Apart (fast_search (choose (start c) q))
    unfolding fast_search
    fast_apart q m = search_apart c w (fast_choices c.placements) fast_fair (length c.cells) (choose (start c) q) (first_sound q m)

    firsts_apart : Apart firsts
    unfolding firsts
    firsts_apart = apart_ascending ahead ahead_irrefl (keep (λ (q : Placement). eqb q.kind 0) c.placements) (keep_ascending ahead (λ (q : Placement). eqb q.kind 0) c.placements w.in_order)

    kind0_exact : Exactly (each firsts (λ q. fast_search (choose (start c) q)))
    kind0_exact = record { only = only; every = every; apart = apart }
      where
        only : (P : List Placement) → Memᴰ P (each firsts (λ q. fast_search (choose (start c) q))) → Packing c P
        only P m = let r = each_at (λ (q : Placement). fast_search (choose (start c) q)) firsts m in (has_first r.0 r.1 P r.2).0

        every : (P : List Placement) → Packing c P → Memᴰ P (each firsts (λ q. fast_search (choose (start c) q)))
        every P g = let r = its_first P g in each_of (λ (q : Placement). fast_search (choose (start c) q)) firsts r.1 (found r.0 r.1 r.2)
          where
            found : (q : Placement) → Memᴰ q firsts → Memᴰ q P → Memᴰ P (fast_search (choose (start c) q))
            found q m k = fast_found q m P g k

        apart : Apart (each firsts (λ q. fast_search (choose (start c) q)))
        apart =
            apart_each (λ (q : Placement). fast_search (choose (start c) q)) firsts firsts_apart (λ q m. fast_apart q m)
            (λ q r m k P a b. let x = has_first q m P a in let y = has_first r k P b in same_first P x.0 q r x.1 y.1 (first_parts q m).1 (first_parts r k).1)

  pub fast_exact : (i : Identify) → Exactly (fast_list c i)
  unfolding fast_list kind0_first fast_search firsts
  fast_exact i = go (kind0_first c i) (λ t. t)
    where
      plain : Exactly (fast_search (start c))
      plain =
          record {
            only = from_start_sound c w (fast_choices c.placements) fast_fair;
            every = from_start_complete c w (fast_choices c.placements) fast_fair;
            apart = from_start_apart c w (fast_choices c.placements) fast_fair;
          }

      go : (b : Bool) → (T b → T (kind0_first c i)) → Exactly (cond b (each firsts (λ q. fast_search (choose (start c) q))) (fast_search (start c)))
      go true f =
          let t = and_right (identifies_turned i) (eqb (get_or (limits c) 0 0) 1 && eqb (all_cells c) (length c.cells)) (f tt) in
          kind0_exact (eqb→eq (get_or (limits c) 0 0) 1 (and_left (eqb (get_or (limits c) 0 0) 1) (eqb (all_cells c) (length c.cells)) t))
          (eqb→eq (all_cells c) (length c.cells) (and_right (eqb (get_or (limits c) 0 0) 1) (eqb (all_cells c) (length c.cells)) t))
      go false f = plain

  pub knuth_exact : Exactly (knuth_list c)
  unfolding knuth_list
  knuth_exact =
      record {
        only = from_start_sound c w (knuth_choices c.placements) knuth_fair;
        every = from_start_complete c w (knuth_choices c.placements) knuth_fair;
        apart = from_start_apart c w (knuth_choices c.placements) knuth_fair;
      }
