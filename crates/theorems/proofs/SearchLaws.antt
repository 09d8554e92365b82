-- Laws of the search: for any engine whose choices are fair, it lists packings, all of them, and none twice. Assumes nothing.
use Prim.Native.Nat.{ℕ, zero, suc, ◌+◌, ◌-◌, ◌≤◌, ◌<◌}
use mathlib.Core.Bool.{Bool, true, false, cond, not, ◌&&◌, and-true}
use mathlib.Core.List.Memᴰ
use mathlib.Core.List.{List, [], ◌∷◌, Memᴰ}
use mathlib.Core.Path.{◌≡◌, refl, sym, ap, ◌∙◌, subst}
use mathlib.Core.Logic.{◌⊎◌, inl, inr}
use native.Mathlib.Nat.{le_of_eq}
use native.Mathlib.Omega.{arith}
use lib.Dec.{T, ltb, leb, eqb, le→leb, eqb→eq, ltb→lt, lt→ltb, eqb_refl}
use lib.ListN.{length, get_or, set}
use lib.Seq.{get_or-set_same, get_or-set_other}
use Rattle.lists.specs.Lists.{all, any, keep, each, below, member, ascending, put, is_empty, Apart}
use Rattle.lists.proofs.TestLaws.{and_no, and_left, and_right, and_both, decide, clash, eqb_of, is_true, is_false, not_T, holds}
use Rattle.lists.proofs.ListLaws.{get_or_pos, all_at, all_of, any_at, any_of, keep_at, keep_of, keep_same, keep_keep, each_at, each_of, how_many_pos, how_many_any, keep_shorter, apart_each, nonempty_length}
use Rattle.lists.proofs.SortLaws.{how_many_mono, put_at, put_tail, put_head, put_how_many, put_ascending, ascending_apart, ascending_unique, Fresh, apart_ascending}
use Rattle.lists.proofs.RangeLaws.{below_at, below_of, member_of, member_at, length_below}
use Rattle.definitions.specs.Placements.{Placement, Compiled}
use Rattle.definitions.specs.Packing.{ahead, same_placement, covering, used, limits, placed, covers_once, within_copies, Packing}
use Rattle.theorems.proofs.PackingLaws.{ahead_trans, ahead_irrefl, same_placement_refl, packing_placed, packing_once, packing_at, packing_within}
use Rattle.definitions.specs.Orders.{State, start, possible, choose, search, sizes}

-- What a compiled tray brings to a search: placements ascend, their cells are cells of the board, and each covers its own p, the first of its cells.
pub record WellMade (c : Compiled) : Type 0 where
  pub in_order : T (ascending ahead c.placements)
  pub on_board : (q : Placement) → Memᴰ q c.placements → (n : ℕ) → Memᴰ n q.cells → n < length c.cells
  pub covers_p : (q : Placement) → Memᴰ q c.placements → Memᴰ q.p q.cells
  pub of_kinds : (q : Placement) → Memᴰ q c.placements → q.kind < length c.kinds
  pub from_p : (q : Placement) → Memᴰ q c.placements → (n : ℕ) → Memᴰ n q.cells → q.p ≤ n
  pub cells_ascend : (q : Placement) → Memᴰ q c.placements → T (ascending ltb q.cells)
  -- a placement has as many cells as its kind, and a kind has some
  pub sized : (q : Placement) → Memᴰ q c.placements → length q.cells ≡ get_or (sizes c) q.kind 0
  pub some_cells : (k : ℕ) → k < length c.kinds → 0 < get_or (sizes c) k 0

-- What holds at each state: the chosen placements are a set of the tray's, none covers what another covers, and the uncovered cells and the copies left are
-- what they leave.
pub record Sound (c : Compiled) (s : State) : Type 0 where
  pub a_set : T (ascending ahead s.chosen)
  pub of_rows : (q : Placement) → Memᴰ q s.chosen → Memᴰ q c.placements
  pub free : s.free ≡ keep (λ n. eqb (covering s.chosen n) 0) (below (length c.cells))
  pub once : (n : ℕ) → n < length c.cells → covering s.chosen n ≤ 1
  pub left : (k : ℕ) → get_or s.left k 0 + used s.chosen k ≡ get_or (limits c) k 0

pub sound_start : (c : Compiled) → Sound c (start c)
unfolding start covering used
sound_start c =
    record {
      a_set = tt;
      of_rows = λ q m. absurd (Memᴰ.not-nil m);
      free = all_kept (below (length c.cells));
      once = λ n h. omega arith;
      left = λ k. omega arith;
    }
  where
    all_kept : (xs : List ℕ) → xs ≡ keep (λ n. true) xs
    all_kept [] = refl
    all_kept (x ∷ xs) = ap (λ (l : List ℕ). x ∷ l) (all_kept xs)

module _ (c : Compiled) (w : WellMade c) (s : State) (h : Sound c s) where
  -- an uncovered cell is one of the board that nothing chosen covers
  pub free_at : {n : ℕ} → Memᴰ n s.free → (n < length c.cells) × (covering s.chosen n ≡ 0)
  free_at {n} m =
      let r = keep_at (λ (k : ℕ). eqb (covering s.chosen k) 0) (below (length c.cells)) (subst (λ (l : List ℕ). Memᴰ n l) h.free m) in
      (below_at (length c.cells) r.0, eqb→eq (covering s.chosen n) 0 r.1)

  pub free_of : {n : ℕ} → n < length c.cells → covering s.chosen n ≡ 0 → Memᴰ n s.free
  free_of {n} k e =
      subst (λ (l : List ℕ). Memᴰ n l) (sym h.free)
      (keep_of (λ (k : ℕ). eqb (covering s.chosen k) 0) (below (length c.cells)) (below_of (length c.cells) k) (eqb_of e))

  covered_once : {q : Placement} {n : ℕ} → Memᴰ n q.cells → Memᴰ q s.chosen → covering s.chosen n ≡ 0 → ⊥
  unfolding covering
  covered_once {q} {n} k m z = let o = how_many_pos (λ (i : Placement). member n i.cells) s.chosen m (member_of q.cells k) in omega arith

  -- a placement that is not chosen is tied with none that is
  fresh_of : (q : Placement) → Memᴰ q c.placements → (Memᴰ q s.chosen → ⊥) → Fresh ahead q s.chosen
  fresh_of q m d r k = go (ascending_apart ahead ahead_trans ahead_irrefl c.placements w.in_order m (h.of_rows r k))
    where
      go : (q ≡ r) ⊎ (T (ahead q r) ⊎ T (ahead r q)) → T (ahead q r) ⊎ T (ahead r q)
      go (inl e) = absurd (d (Memᴰ.cast e k))
      go (inr e) = e

  module _ (q : Placement) (m : Memᴰ q c.placements) (t : T (possible s q)) where
    pub possible_left : 0 < get_or s.left q.kind 0
    unfolding possible
    possible_left = ltb→lt 0 (get_or s.left q.kind 0) (and_left (ltb 0 (get_or s.left q.kind 0)) (all (λ n. member n s.free) q.cells) t)

    pub possible_free : {n : ℕ} → Memᴰ n q.cells → Memᴰ n s.free
    unfolding possible
    possible_free {n} k =
        member_at n s.free (all_at (λ (i : ℕ). member i s.free) q.cells (and_right (ltb 0 (get_or s.left q.kind 0)) (all (λ n. member n s.free) q.cells) t) k)

    -- it is not chosen yet
    pub fresh : Fresh ahead q s.chosen
    fresh = fresh_of q m (λ k. covered_once (w.covers_p q m) k (free_at (possible_free (w.covers_p q m))).1)

    covering_put : (n : ℕ) → covering (put ahead q s.chosen) n ≡ cond (member n q.cells) 1 0 + covering s.chosen n
    unfolding covering
    covering_put n = put_how_many ahead (λ (i : Placement). member n i.cells) q s.chosen fresh

    used_put : (k : ℕ) → used (put ahead q s.chosen) k ≡ cond (eqb q.kind k) 1 0 + used s.chosen k
    unfolding used
    used_put k = put_how_many ahead (λ (i : Placement). eqb i.kind k) q s.chosen fresh

    free_test : (n : ℕ) → (eqb (covering s.chosen n) 0 && not (member n q.cells)) ≡ eqb (covering (put ahead q s.chosen) n) 0
    free_test n = go (member n q.cells) (covering_put n)
      where
        go : (b : Bool) → covering (put ahead q s.chosen) n ≡ cond b 1 0 + covering s.chosen n
            → (eqb (covering s.chosen n) 0 && not b) ≡ eqb (covering (put ahead q s.chosen) n) 0
        go true e = and_no (eqb (covering s.chosen n) 0) ∙ sym (is_false (eqb (covering (put ahead q s.chosen) n) 0) (λ z. let y = eqb→eq (covering (put ahead q s.chosen) n) 0 z in omega arith))
        go false e =
            let y : covering s.chosen n ≡ covering (put ahead q s.chosen) n = omega arith in
            and-true (eqb (covering s.chosen n) 0) ∙ ap (λ (i : ℕ). eqb i 0) y

    once_put : (n : ℕ) → n < length c.cells → covering (put ahead q s.chosen) n ≤ 1
    once_put n k = go (decide (member n q.cells))
      where
        go : T (member n q.cells) ⊎ T (not (member n q.cells)) → covering (put ahead q s.chosen) n ≤ 1
        go (inl y) =
            let z = (free_at (possible_free (member_at n q.cells y))).1 in
            let e = covering_put n in
            let v : ◌≡◌ {A = ℕ} (cond (member n q.cells) 1 0) 1 = ap {B = ℕ} (λ (b : Bool). cond b 1 0) (is_true (member n q.cells) y) in
            omega arith
        go (inr y) =
            let z = h.once n k in
            let e = covering_put n in
            let v : ◌≡◌ {A = ℕ} (cond (member n q.cells) 1 0) 0 = ap {B = ℕ} (λ (b : Bool). cond b 1 0) (not_T (member n q.cells) y) in
            omega arith

    left_put : (k : ℕ) → get_or (set s.left q.kind (get_or s.left q.kind 0 - 1)) k 0 + used (put ahead q s.chosen) k ≡ get_or (limits c) k 0
    left_put k = go (decide (eqb q.kind k))
      where
        same_kind : get_or (set s.left q.kind (get_or s.left q.kind 0 - 1)) q.kind 0 + used (put ahead q s.chosen) q.kind ≡ get_or (limits c) q.kind 0
        same_kind =
            let o = possible_left in
            let a = get_or-set_same s.left q.kind (get_or s.left q.kind 0 - 1) 0 (get_or_pos s.left q.kind o) in
            let b = used_put q.kind in
            let v : ◌≡◌ {A = ℕ} (cond (eqb q.kind q.kind) 1 0) 1 = ap {B = ℕ} (λ (z : Bool). cond z 1 0) (is_true (eqb q.kind q.kind) (eqb_refl q.kind)) in
            let l = h.left q.kind in
            omega arith

        go : T (eqb q.kind k) ⊎ T (not (eqb q.kind k)) → get_or (set s.left q.kind (get_or s.left q.kind 0 - 1)) k 0 + used (put ahead q s.chosen) k ≡ get_or (limits c) k 0
        go (inl y) =
            subst (λ (i : ℕ). get_or (set s.left q.kind (get_or s.left q.kind 0 - 1)) i 0 + used (put ahead q s.chosen) i ≡ get_or (limits c) i 0) (eqb→eq q.kind k y) same_kind
        go (inr y) =
            let a = get_or-set_other s.left q.kind k (get_or s.left q.kind 0 - 1) 0 (λ e. clash (eqb q.kind k) (eqb_of (sym e)) y) in
            let b = used_put k in
            let v : ◌≡◌ {A = ℕ} (cond (eqb q.kind k) 1 0) 0 = ap {B = ℕ} (λ (z : Bool). cond z 1 0) (not_T (eqb q.kind k) y) in
            let l = h.left k in
            omega arith

    pub sound_choose : Sound c (choose s q)
    unfolding choose
    sound_choose =
        record {
          a_set = put_ascending ahead ahead_trans q s.chosen h.a_set;
          of_rows = λ r k. rows r (put_at ahead q s.chosen k);
          free =
              ap (keep (λ n. not (member n q.cells))) h.free
              ∙ keep_keep (λ n. eqb (covering s.chosen n) 0) (λ n. not (member n q.cells)) (below (length c.cells))
              ∙ keep_same (λ n. eqb (covering s.chosen n) 0 && not (member n q.cells)) (λ n. eqb (covering (put ahead q s.chosen) n) 0) (below (length c.cells)) (λ n k. free_test n);
          once = once_put;
          left = left_put;
        }
      where
        rows : (r : Placement) → (r ≡ q) ⊎ Memᴰ r s.chosen → Memᴰ r c.placements
        rows r (inl e) = Memᴰ.cast e m
        rows r (inr k) = h.of_rows r k

  -- with no uncovered cell left, the chosen placements are a packing
  pub sound_packing : T (is_empty s.free) → Packing c s.chosen
  unfolding placed covers_once within_copies
  sound_packing e =
      record {
        a_set = h.a_set;
        of_placements = all_of (λ q. any (same_placement q) c.placements) s.chosen (λ q m. any_of (same_placement q) c.placements (h.of_rows q m) (same_placement_refl q));
        covers = all_of (λ n. eqb (covering s.chosen n) 1) (below (length c.cells)) (λ n m. eqb_of (one n (below_at (length c.cells) m)));
        within = all_of (λ k. leb (used s.chosen k) (get_or (limits c) k 0)) (below (length c.kinds)) (λ k m. le→leb (used s.chosen k) (get_or (limits c) k 0) (let l = h.left k in omega arith));
      }
    where
      empty : (xs : List ℕ) → T (is_empty xs) → {n : ℕ} → Memᴰ n xs → ⊥
      empty [] t m = Memᴰ.not-nil m
      empty (x ∷ xs) t m = t

      one : (n : ℕ) → n < length c.cells → covering s.chosen n ≡ 1
      one n k = go (decide (eqb (covering s.chosen n) 0))
        where
          go : T (eqb (covering s.chosen n) 0) ⊎ T (not (eqb (covering s.chosen n) 0)) → covering s.chosen n ≡ 1
          go (inl y) = absurd (empty s.free e (free_of k (eqb→eq (covering s.chosen n) 0 y)))
          go (inr y) =
              let z = h.once n k in
              let d : covering s.chosen n ≡ 0 → ⊥ = λ i. clash (eqb (covering s.chosen n) 0) (eqb_of i) y in
              omega arith

  -- ---- a packing P that has all that is chosen
  module _ (P : List Placement) (g : Packing c P) (sub : (q : Placement) → Memᴰ q s.chosen → Memᴰ q P) where
    -- with no uncovered cell left, P is what is chosen
    pub packing_whole : T (is_empty s.free) → s.chosen ≡ P
    packing_whole e = ascending_unique ahead ahead_trans ahead_irrefl s.chosen P h.a_set g.a_set sub back
      where
        back : (q : Placement) → Memᴰ q P → Memᴰ q s.chosen
        back q m =
            let row = packing_placed c P g q m in
            let on = w.on_board q row q.p (w.covers_p q row) in
            let r = packing_at c s.chosen (sound_packing e) q.p on in
            Memᴰ.cast (packing_once c P g q.p on q r.0 m (sub r.0 r.1) (w.covers_p q row) r.2) r.1

    -- the placement of P on an uncovered cell is still possible
    module _ (n : ℕ) (f : Memᴰ n s.free) (q : Placement) (m : Memᴰ q P) (k : Memᴰ n q.cells) where
      not_chosen : Memᴰ q s.chosen → ⊥
      not_chosen a = covered_once k a (free_at f).1

      cells_free : (i : ℕ) → Memᴰ i q.cells → Memᴰ i s.free
      unfolding covering
      cells_free i a = go (decide (eqb (covering s.chosen i) 0))
        where
          on : i < length c.cells
          on = w.on_board q (packing_placed c P g q m) i a

          go : T (eqb (covering s.chosen i) 0) ⊎ T (not (eqb (covering s.chosen i) 0)) → Memᴰ i s.free
          go (inl y) = free_of on (eqb→eq (covering s.chosen i) 0 y)
          go (inr y) =
              let d : covering s.chosen i ≡ 0 → ⊥ = λ z. clash (eqb (covering s.chosen i) 0) (eqb_of z) y in
              let r = any_at (λ (z : Placement). member i z.cells) s.chosen (how_many_any (λ (z : Placement). member i z.cells) s.chosen (omega arith)) in
              absurd (not_chosen (Memᴰ.cast (packing_once c P g i on q r.0 m (sub r.0 r.1) a (member_at i r.0.cells r.2)) r.1))

      put_sub : (r : Placement) → Memᴰ r (put ahead q s.chosen) → Memᴰ r P
      put_sub r a = go (put_at ahead q s.chosen a)
        where
          go : (r ≡ q) ⊎ Memᴰ r s.chosen → Memᴰ r P
          go (inl e) = Memᴰ.cast e m
          go (inr b) = sub r b

      copies_left : 0 < get_or s.left q.kind 0
      unfolding used
      copies_left =
          let row = packing_placed c P g q m in
          let a = put_how_many ahead (λ (i : Placement). eqb i.kind q.kind) q s.chosen (fresh_of q row not_chosen) in
          let b = how_many_mono ahead ahead_trans ahead_irrefl (λ (i : Placement). eqb i.kind q.kind) (put ahead q s.chosen) P (put_ascending ahead ahead_trans q s.chosen h.a_set) g.a_set put_sub in
          let v : ◌≡◌ {A = ℕ} (cond (eqb q.kind q.kind) 1 0) 1 = ap {B = ℕ} (λ (z : Bool). cond z 1 0) (is_true (eqb q.kind q.kind) (eqb_refl q.kind)) in
          let l = h.left q.kind in
          let u = packing_within c P g q.kind (w.of_kinds q row) in
          omega arith

      pub still-possible : T (possible s q)
      unfolding possible
      still-possible =
          and_both (ltb 0 (get_or s.left q.kind 0)) (all (λ i. member i s.free) q.cells) (lt→ltb 0 (get_or s.left q.kind 0) copies_left)
          (all_of (λ i. member i s.free) q.cells (λ i a. member_of s.free (cells_free i a)))

-- ---- the search

-- An engine's choices are fair: they are possible placements, ascending, that all cover one uncovered cell; and they are all that are possible on some
-- uncovered cell, as long as there is one possible on each.
pub record Fair (c : Compiled) (choices : State → List Placement) : Type 0 where
  pub rows : (s : State) (q : Placement) → Memᴰ q (choices s) → Memᴰ q c.placements
  pub can_be : (s : State) (q : Placement) → Memᴰ q (choices s) → T (possible s q)
  pub in_order : (s : State) → T (ascending ahead (choices s))
  pub agree : (s : State) → Sound c s → (q r : Placement) → Memᴰ q (choices s) → Memᴰ r (choices s) → (n : ℕ) × Memᴰ n q.cells × Memᴰ n r.cells
  pub reach : (s : State) → Sound c s → T (not (is_empty s.free))
      → ((n : ℕ) → Memᴰ n s.free → (q : Placement) × Memᴰ q c.placements × T (possible s q) × Memᴰ n q.cells)
      → (n : ℕ) × Memᴰ n s.free × ((q : Placement) → Memᴰ q c.placements → T (possible s q) → Memᴰ n q.cells → Memᴰ q (choices s))

module _ (c : Compiled) (w : WellMade c) (choices : State → List Placement) (fair : Fair c choices) where
  -- what the search lists from a state: packings that have all that is chosen there
  abbrev pub Extends : State → List Placement → Type 0
  Extends s P = Packing c P × ((q : Placement) → Memᴰ q s.chosen → Memᴰ q P)

  leaf : (s : State) → Sound c s → T (is_empty s.free) → {P : List Placement} → Memᴰ P (s.chosen ∷ []) → Extends s P
  leaf s h e {P} m =
      let i = Memᴰ.eq_of_singleton m in
      (subst (λ (z : List Placement). Packing c z) (sym i) (sound_packing c w s h e), λ q k. subst (λ (z : List Placement). Memᴰ q z) (sym i) k)

  pub chosen_put : (s : State) → Sound c s → (q : Placement) → Memᴰ q (choices s) → Memᴰ q (choose s q).chosen
  unfolding choose
  chosen_put s h q m = put_head ahead q s.chosen (fresh c w s h q (fair.rows s q m) (fair.can_be s q m))

  pub chosen_more : (s : State) (q r : Placement) → Memᴰ r s.chosen → Memᴰ r (choose s q).chosen
  unfolding choose
  chosen_more s q r m = put_tail ahead q s.chosen m

  pub step : (s : State) → Sound c s → (q : Placement) → Memᴰ q (choices s) → Sound c (choose s q)
  step s h q m = sound_choose c w s h q (fair.rows s q m) (fair.can_be s q m)

  pub search_sound : (fuel : ℕ) (s : State) → Sound c s → {P : List Placement} → Memᴰ P (search choices fuel s) → Extends s P
  unfolding search
  search_sound zero s h {P} m = go (is_empty s.free) refl m
    where
      go : (b : Bool) → is_empty s.free ≡ b → Memᴰ P (cond b (s.chosen ∷ []) []) → Extends s P
      go true e k = leaf s h (holds (is_empty s.free) e) k
      go false e k = absurd (Memᴰ.not-nil k)
  search_sound (suc fuel) s h {P} m = go (is_empty s.free) refl m (λ (q : Placement) (a : Memᴰ q (choices s)) (k : Memᴰ P (search choices fuel (choose s q))). search_sound fuel (choose s q) (step s h q a) k)
    where
      go : (b : Bool) → is_empty s.free ≡ b → Memᴰ P (cond b (s.chosen ∷ []) (each (choices s) (λ q. search choices fuel (choose s q))))
          → ((q : Placement) → Memᴰ q (choices s) → Memᴰ P (search choices fuel (choose s q)) → Extends (choose s q) P) → Extends s P
      go true e k f = leaf s h (holds (is_empty s.free) e) k
      go false e k f =
          let r = each_at (λ (q : Placement). search choices fuel (choose s q)) (choices s) k in
          let x = f r.0 r.1 r.2 in
          (x.0, λ q a. x.1 q (chosen_more s r.0 q a))

  shorter : (s : State) → Sound c s → (q : Placement) → Memᴰ q (choices s) → length (choose s q).free < length s.free
  unfolding choose
  shorter s h q a =
      let row = fair.rows s q a in
      keep_shorter (λ (n : ℕ). not (member n q.cells)) s.free (possible_free c w s h q row (fair.can_be s q a) (w.covers_p q row))
      (twice (member q.p q.cells) (member_of q.cells (w.covers_p q row)))
    where
      twice : (b : Bool) → T b → T (not (not b))
      twice true t = tt
      twice false t = t

  -- the choice that a packing makes
  module _ (s : State) (h : Sound c s) (e : is_empty s.free ≡ false) (P : List Placement) (x : Extends s P) where
    on_free : (n : ℕ) → Memᴰ n s.free → (q : Placement) × Memᴰ q P × Memᴰ n q.cells
    on_free n f = packing_at c P x.0 n (free_at c w s h f).0

    available : (n : ℕ) → Memᴰ n s.free → (q : Placement) × Memᴰ q c.placements × T (possible s q) × Memᴰ n q.cells
    available n f =
        let r = on_free n f in
        (r.0, packing_placed c P x.0 r.0 r.1, still-possible c w s h P x.0 x.1 n f r.0 r.1 r.2, r.2)

    its_choice : (q : Placement) × Memᴰ q (choices s) × Extends (choose s q) P
    unfolding choose
    its_choice =
        let r = fair.reach s h (subst (λ (b : Bool). T (not b)) (sym e) tt) available in
        let q = on_free r.0 r.1 in (
          q.0,
          r.2 q.0 (packing_placed c P x.0 q.0 q.1) (still-possible c w s h P x.0 x.1 r.0 r.1 q.0 q.1 q.2) q.2,
          (x.0, λ z a. put_sub c w s h P x.0 x.1 r.0 r.1 q.0 q.1 q.2 z a),
        )

  pub search_complete : (fuel : ℕ) (s : State) → Sound c s → length s.free ≤ fuel → (P : List Placement) → Extends s P → Memᴰ P (search choices fuel s)
  unfolding search
  search_complete zero s h l P x = go (is_empty s.free) refl
    where
      go : (b : Bool) → is_empty s.free ≡ b → Memᴰ P (cond b (s.chosen ∷ []) [])
      go true e = Memᴰ.head (sym (packing_whole c w s h P x.0 x.1 (holds (is_empty s.free) e)))
      go false e = let o = nonempty_length s.free e in absurd (omega arith)
  search_complete (suc fuel) s h l P x = go (is_empty s.free) refl (λ (q : Placement) (a : Memᴰ q (choices s)) (y : Extends (choose s q) P) (z : length (choose s q).free ≤ fuel). search_complete fuel (choose s q) (step s h q a) z P y)
    where
      go : (b : Bool) → is_empty s.free ≡ b
          → ((q : Placement) → Memᴰ q (choices s) → Extends (choose s q) P → length (choose s q).free ≤ fuel → Memᴰ P (search choices fuel (choose s q)))
          → Memᴰ P (cond b (s.chosen ∷ []) (each (choices s) (λ q. search choices fuel (choose s q))))
      go true e f = Memᴰ.head (sym (packing_whole c w s h P x.0 x.1 (holds (is_empty s.free) e)))
      go false e f =
          let r = its_choice s h e P x in
          let k = shorter s h r.0 r.1 in
          each_of (λ (q : Placement). search choices fuel (choose s q)) (choices s) r.1 (f r.0 r.1 r.2 (omega arith))

  pub search_apart : (fuel : ℕ) (s : State) → Sound c s → Apart (search choices fuel s)
  unfolding search
  search_apart zero s h = go (is_empty s.free)
    where
      go : (b : Bool) → Apart (cond b (s.chosen ∷ []) [])
      go true = (λ m. Memᴰ.not-nil m, tt)
      go false = tt
  search_apart (suc fuel) s h = go (is_empty s.free) (λ (q : Placement) (a : Memᴰ q (choices s)). search_apart fuel (choose s q) (step s h q a))
    where
      alike : (q r : Placement) → Memᴰ q (choices s) → Memᴰ r (choices s) → (P : List Placement)
          → Memᴰ P (search choices fuel (choose s q)) → Memᴰ P (search choices fuel (choose s r)) → q ≡ r
      alike q r a b P k l =
          let x = search_sound fuel (choose s q) (step s h q a) k in
          let y = search_sound fuel (choose s r) (step s h r b) l in
          let n = fair.agree s h q r a b in
          packing_once c P x.0 n.0 (w.on_board q (fair.rows s q a) n.0 n.1) q r (x.1 q (chosen_put s h q a)) (y.1 r (chosen_put s h r b)) n.1 n.2

      go : (b : Bool) → ((q : Placement) → Memᴰ q (choices s) → Apart (search choices fuel (choose s q))) → Apart (cond b (s.chosen ∷ []) (each (choices s) (λ q. search choices fuel (choose s q))))
      go true f = (λ m. Memᴰ.not-nil m, tt)
      go false f = apart_each (λ (q : Placement). search choices fuel (choose s q)) (choices s) (apart_ascending ahead ahead_irrefl (choices s) (fair.in_order s)) f alike

  -- from the start: exactly the packings, each once
  pub from_start_sound : (P : List Placement) → Memᴰ P (search choices (length c.cells) (start c)) → Packing c P
  from_start_sound P m = (search_sound (length c.cells) (start c) (sound_start c) m).0

  pub from_start_complete : (P : List Placement) → Packing c P → Memᴰ P (search choices (length c.cells) (start c))
  unfolding start
  from_start_complete P g =
      search_complete (length c.cells) (start c) (sound_start c) (le_of_eq (length_below (length c.cells))) P (g, λ q m. absurd (Memᴰ.not-nil m))

  pub from_start_apart : Apart (search choices (length c.cells) (start c))
  from_start_apart = search_apart (length c.cells) (start c) (sound_start c)
