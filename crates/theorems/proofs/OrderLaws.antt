-- Fast's list goes by Fast's order. Assumes nothing.
use Prim.Native.Nat.{ℕ, zero, suc, ◌+◌, ◌-◌, ◌<◌}
use mathlib.Core.Bool.{Bool, true, false, cond, ◌&&◌}
use mathlib.Core.List.Memᴰ
use mathlib.Core.List.{List, [], ◌∷◌, ◌++◌, Memᴰ, head-eq_of_cons-eq}
use mathlib.Core.Path.{◌≡◌, refl, sym, ap, ◌∙◌, subst}
use mathlib.Core.Logic.{◌⊎◌, inl, inr}
use native.Mathlib.Omega.{arith}
use lib.Dec.{T, ltb, eqb, eqb→eq, ltb→lt}
use lib.ListN.{length, get_or, take}
use Rattle.lists.specs.Lists.{keep, each, below, from, member, less, ascending, is_empty}
use Rattle.lists.proofs.TestLaws.{and_left, and_right, and_both, or_left, or_right, or_cases, eqb_of, holds}
use Rattle.lists.proofs.ListLaws.{take_one, each_same_in, each_append, any_at, keep_at, keep_of, how_many_any}
use Rattle.lists.proofs.SortLaws.{ascending_imp, each_ascending, less_after, keep_ascending, ascending_unique, less_two}
use Rattle.lists.proofs.RangeLaws.{from_at, member_at, member_of, from_append}
use Rattle.definitions.specs.Placements.{Placement, Compiled}
use Rattle.definitions.specs.Packing.{rank, ahead, covering, limits, Packing}
use Rattle.theorems.proofs.PackingLaws.{ahead_trans, ahead_irrefl, packing_once}
use Rattle.definitions.specs.Kept.{Identify}
use Rattle.definitions.specs.Orders.{State, start, choose, search, fast_choices, fast_list, kind0_first, identifies_turned, all_cells, fast_rank, fast_ahead}
use Rattle.theorems.proofs.SearchLaws.{WellMade, Sound, sound_start, free_of, search_sound, step, chosen_put, chosen_more}
use Rattle.theorems.proofs.EngineLaws.{fast_fair, fast_parts, free_ascending, first_least, fast_search, firsts, first_parts, first_sound, has_first, same_first, firsts_up}

-- ---- lists
-- ranks that agree before n and differ at n
split_less : (N n : ℕ) → n < N → (f g : ℕ → List ℕ) → ((m : ℕ) → m < n → m < N → f m ≡ g m) → (a b a' b' : ℕ) → f n ≡ a ∷ b ∷ [] → g n ≡ a' ∷ b' ∷ [] → T (less (a ∷ b ∷ []) (a' ∷ b' ∷ []))
    → T (less (each (below N) f) (each (below N) g))
split_less N n h f g same a b a' b' ef eg t = subst (λ (l : List ℕ). T (less (each l f) (each l g))) cells (subst (λ (x : List ℕ). T (less x (each (from 0 n ++ from n (suc k)) g))) (sym rank_f) (subst (λ (x : List ℕ). T (less (each (from 0 n) f ++ (a ∷ b ∷ each (from (suc n) k) f)) x)) (sym rank_g) (less_after (each (from 0 n) f) (a ∷ b ∷ each (from (suc n) k) f) (a' ∷ b' ∷ each (from (suc n) k) g) (less_two a b a' b' (each (from (suc n) k) f) (each (from (suc n) k) g) t))))
  where
    k : ℕ
    k = N - suc n

    cells : from 0 n ++ from n (suc k) ≡ from 0 N
    cells = ap (λ (i : ℕ). from 0 n ++ from i (suc k)) zero_n ∙ from_append 0 n (suc k) ∙ ap (from 0) count
      where
        zero_n : n ≡ 0 + n
        zero_n = omega arith

        count : n + suc (N - suc n) ≡ N
        count = omega arith

    rank_f : each (from 0 n ++ from n (suc k)) f ≡ each (from 0 n) f ++ (a ∷ b ∷ each (from (suc n) k) f)
    rank_f = each_append (from 0 n) (from n (suc k)) f ∙ ap (λ (x : List ℕ). each (from 0 n) f ++ (x ++ each (from (suc n) k) f)) ef

    rank_g : each (from 0 n ++ from n (suc k)) g ≡ each (from 0 n) f ++ (a' ∷ b' ∷ each (from (suc n) k) g)
    rank_g =
        each_append (from 0 n) (from n (suc k)) g ∙ ap (λ (x : List ℕ). each (from 0 n) g ++ (x ++ each (from (suc n) k) g)) eg
        ∙ ap (λ (x : List ℕ). x ++ (a' ∷ b' ∷ each (from (suc n) k) g)) (sym (each_same_in f g (from 0 n) (λ m l. let r = from_at 0 n l in same m (omega arith) (omega arith))))

-- of two placements with the same p, kind and j decide; with the same kind, p and j
two_of : (q r : Placement) → q.p ≡ r.p → T (ahead q r) → T (less (q.kind ∷ q.j ∷ []) (r.kind ∷ r.j ∷ []))
unfolding ahead rank
two_of q r e t = go (or_cases (ltb q.kind r.kind) (eqb q.kind r.kind && less (q.p ∷ q.j ∷ []) (r.p ∷ r.j ∷ [])) t)
  where
    inner : T (ltb q.p r.p) ⊎ T (eqb q.p r.p && less (q.j ∷ []) (r.j ∷ [])) → T (less (q.j ∷ []) (r.j ∷ []))
    inner (inl x) = let k = ltb→lt q.p r.p x in absurd (omega arith)
    inner (inr x) = and_right (eqb q.p r.p) (less (q.j ∷ []) (r.j ∷ [])) x

    go : T (ltb q.kind r.kind) ⊎ T (eqb q.kind r.kind && less (q.p ∷ q.j ∷ []) (r.p ∷ r.j ∷ [])) → T (less (q.kind ∷ q.j ∷ []) (r.kind ∷ r.j ∷ []))
    go (inl x) = or_left (ltb q.kind r.kind) (eqb q.kind r.kind && less (q.j ∷ []) (r.j ∷ [])) x
    go (inr x) =
        or_right (ltb q.kind r.kind) (eqb q.kind r.kind && less (q.j ∷ []) (r.j ∷ []))
        (and_both (eqb q.kind r.kind) (less (q.j ∷ []) (r.j ∷ [])) (and_left (eqb q.kind r.kind) (less (q.p ∷ q.j ∷ []) (r.p ∷ r.j ∷ [])) x)
        (inner (or_cases (ltb q.p r.p) (eqb q.p r.p && less (q.j ∷ []) (r.j ∷ [])) (and_right (eqb q.kind r.kind) (less (q.p ∷ q.j ∷ []) (r.p ∷ r.j ∷ [])) x))))

pub pj_of : (q r : Placement) → q.kind ≡ r.kind → T (ahead q r) → T (less (q.p ∷ q.j ∷ []) (r.p ∷ r.j ∷ []))
unfolding ahead rank
pj_of q r e t = go (or_cases (ltb q.kind r.kind) (eqb q.kind r.kind && less (q.p ∷ q.j ∷ []) (r.p ∷ r.j ∷ [])) t)
  where
    go : T (ltb q.kind r.kind) ⊎ T (eqb q.kind r.kind && less (q.p ∷ q.j ∷ []) (r.p ∷ r.j ∷ [])) → T (less (q.p ∷ q.j ∷ []) (r.p ∷ r.j ∷ []))
    go (inl x) = let k = ltb→lt q.kind r.kind x in absurd (omega arith)
    go (inr x) = and_right (eqb q.kind r.kind) (less (q.p ∷ q.j ∷ []) (r.p ∷ r.j ∷ [])) x

-- ---- the cells' part of Fast's rank
cell_part : List Placement → ℕ → List ℕ
cell_part P n = each (keep (λ q. member n q.cells) P) (λ q. q.kind ∷ q.j ∷ [])

module _ (c : Compiled) (w : WellMade c) where
  body : List Placement → List ℕ
  body P = each (below (length c.cells)) (cell_part P)

  body_ahead : List Placement → List Placement → Bool
  body_ahead P Q = less (body P) (body Q)

  single : (P : List Placement) → Packing c P → (n : ℕ) → n < length c.cells → (q : Placement) → Memᴰ q P → Memᴰ n q.cells → cell_part P n ≡ q.kind ∷ q.j ∷ []
  unfolding cell_part
  single P g n b q m k =
      ap (λ (l : List Placement). each l (λ z. z.kind ∷ z.j ∷ []))
      (ascending_unique ahead ahead_trans ahead_irrefl (keep (λ z. member n z.cells) P) (q ∷ []) (keep_ascending ahead (λ z. member n z.cells) P g.a_set) tt
      (λ z h. let r = keep_at (λ (y : Placement). member n y.cells) P h in Memᴰ.head (packing_once c P g n b z q r.0 m (member_at n z.cells r.1) k))
      (λ z h. keep_of (λ (y : Placement). member n y.cells) P (Memᴰ.cast (Memᴰ.eq_of_singleton h) m) (subst (λ (y : Placement). T (member n y.cells)) (sym (Memᴰ.eq_of_singleton h)) (member_of q.cells k))))

  abbrev ch : State → List Placement
  ch = fast_choices c.placements

  Ext : State → List Placement → Type 0
  Ext s P = Packing c P × ((q : Placement) → Memᴰ q s.chosen → Memᴰ q P)

  module _ (s : State) (h : Sound c s) where
    -- covered cells are covered alike
    alike : (P Q : List Placement) → Ext s P → Ext s Q → (n : ℕ) → n < length c.cells → (covering s.chosen n ≡ 0 → ⊥) → cell_part P n ≡ cell_part Q n
    unfolding covering Ext
    alike P Q x y n b d =
        let r = any_at (λ (z : Placement). member n z.cells) s.chosen (how_many_any (λ (z : Placement). member n z.cells) s.chosen (omega arith)) in
        let k = member_at n r.0.cells r.2 in
        single P x.0 n b r.0 (x.1 r.0 r.1) k ∙ sym (single Q y.0 n b r.0 (y.1 r.0 r.1) k)

    -- the cells before a choice's first cell are covered
    covered_before : (q : Placement) → Memᴰ q (ch s) → (m : ℕ) → m < q.p → m < length c.cells → covering s.chosen m ≡ 0 → ⊥
    covered_before q a m l b z =
        let qp = fast_parts c w s q a in
        let x = any_at (eqb q.p) (take 1 s.free) qp.1 in
        let e = eqb→eq q.p x.0 x.2 in
        let f = first_least c w s.free (free_ascending c w s h) x.0 (take_one s.free x.0 x.1) (free_of c w s h b z) in
        omega arith

    same_p : (q r : Placement) → Memᴰ q (ch s) → Memᴰ r (ch s) → q.p ≡ r.p
    same_p q r a b =
        let x = any_at (eqb q.p) (take 1 s.free) (fast_parts c w s q a).1 in
        let y = any_at (eqb r.p) (take 1 s.free) (fast_parts c w s r b).1 in
        let e : ◌≡◌ {A = List ℕ} (x.0 ∷ []) (y.0 ∷ []) = sym (take_one s.free x.0 x.1) ∙ take_one s.free y.0 y.1 in
        eqb→eq q.p x.0 x.2 ∙ head-eq_of_cons-eq e ∙ sym (eqb→eq r.p y.0 y.2)

    ext_of : (q : Placement) → Memᴰ q (ch s) → (P : List Placement) → Ext (choose s q) P → Ext s P × Memᴰ q P
    unfolding Ext
    ext_of q a P x = ((x.0, λ z m. x.1 z (chosen_more c w ch (fast_fair c w) s q z m)), x.1 q (chosen_put c w ch (fast_fair c w) s h q a))

    choice_ahead : (q r : Placement) → Memᴰ q (ch s) → Memᴰ r (ch s) → T (ahead q r) → (P Q : List Placement) → Ext (choose s q) P → Ext (choose s r) Q → T (body_ahead P Q)
    unfolding body_ahead body Ext
    choice_ahead q r a b t P Q x y =
        let qp = (fast_parts c w s q a).0 in
        let rp = (fast_parts c w s r b).0 in
        let e = same_p q r a b in
        let ex = ext_of q a P x in
        let ey = ext_of r b Q y in
        split_less (length c.cells) q.p (w.on_board q qp q.p (w.covers_p q qp)) (cell_part P) (cell_part Q)
        (λ m l k. alike P Q ex.0 ey.0 m k (covered_before q a m l k)) q.kind q.j r.kind r.j
        (single P x.0 q.p (w.on_board q qp q.p (w.covers_p q qp)) q ex.1 (w.covers_p q qp))
        (single Q y.0 q.p (w.on_board q qp q.p (w.covers_p q qp)) r ey.1 (Memᴰ.cast e (w.covers_p r rp)))
        (two_of q r e t)

  search_ascending : (fuel : ℕ) (s : State) → Sound c s → T (ascending body_ahead (search ch fuel s))
  unfolding search
  search_ascending zero s h = go (is_empty s.free)
    where
      go : (b : Bool) → T (ascending body_ahead (cond b (s.chosen ∷ []) []))
      go true = tt
      go false = tt
  search_ascending (suc fuel) s h = go (is_empty s.free) (λ (q : Placement) (a : Memᴰ q (ch s)). search_ascending fuel (choose s q) (step c w ch (fast_fair c w) s h q a))
    where
      go : (b : Bool) → ((q : Placement) → Memᴰ q (ch s) → T (ascending body_ahead (search ch fuel (choose s q)))) → T (ascending body_ahead (cond b (s.chosen ∷ []) (each (ch s) (λ q. search ch fuel (choose s q)))))
      go true f = tt
      go false f =
          each_ascending ahead body_ahead (λ (q : Placement). search ch fuel (choose s q)) (ch s) ((fast_fair c w).in_order s) f
          (λ q r a b t P Q k l. choice_ahead s h q r a b t P Q (ext q a P k) (ext r b Q l))
        where
          ext : (q : Placement) → Memᴰ q (ch s) → (P : List Placement) → Memᴰ P (search ch fuel (choose s q)) → Ext (choose s q) P
          ext q a P k = unfold Ext in (search_sound c w ch (fast_fair c w) fuel (choose s q) (step c w ch (fast_fair c w) s h q a) k)

  -- ---- Fast's rank
  kind_part : List Placement → List ℕ
  kind_part P = each (keep (λ q. eqb q.kind 0) P) (λ q. q.p ∷ q.j ∷ [])

  rank_is : (i : Identify) (b : Bool) → kind0_first c i ≡ b → (P : List Placement) → fast_rank c i P ≡ cond b (kind_part P) [] ++ body P
  unfolding fast_rank kind_part body cell_part
  rank_is i b e P = ap (λ (x : Bool). cond x (each (keep (λ q. eqb q.kind 0) P) (λ q. q.p ∷ q.j ∷ [])) [] ++ each (below (length c.cells)) (cell_part P)) e

  ahead_by : (i : Identify) (b : Bool) → kind0_first c i ≡ b → (P Q : List Placement) → T (less (cond b (kind_part P) [] ++ body P) (cond b (kind_part Q) [] ++ body Q)) → T (fast_ahead c i P Q)
  unfolding fast_ahead
  ahead_by i b e P Q t = subst (λ (l : List ℕ). T (less l (fast_rank c i Q))) (sym (rank_is i b e P)) (subst (λ (l : List ℕ). T (less (cond b (kind_part P) [] ++ body P) l)) (sym (rank_is i b e Q)) t)

  kind0_parts : (i : Identify) → T (kind0_first c i) → T (identifies_turned i && (eqb (get_or (limits c) 0 0) 1 && eqb (all_cells c) (length c.cells)))
  unfolding kind0_first
  kind0_parts i t = t

  module _ (one : get_or (limits c) 0 0 ≡ 1) (enough : all_cells c ≡ length c.cells) where
    kind-part : (q : Placement) → Memᴰ q (firsts c w) → (P : List Placement) → Memᴰ P (fast_search c w (choose (start c) q)) → kind_part P ≡ q.p ∷ q.j ∷ []
    unfolding kind_part
    kind-part q m P k =
        let x = has_first c w one enough q m P k in
        let z = (first_parts c w one enough q m).1 in
        ap (λ (l : List Placement). each l (λ z. z.p ∷ z.j ∷ []))
        (ascending_unique ahead ahead_trans ahead_irrefl (keep (λ z. eqb z.kind 0) P) (q ∷ []) (keep_ascending ahead (λ z. eqb z.kind 0) P x.0.a_set) tt
        (λ y h. let r = keep_at (λ (p : Placement). eqb p.kind 0) P h in Memᴰ.head (same_first c w one enough P x.0 y q r.0 x.1 (eqb→eq y.kind 0 r.1) z))
        (λ y h. keep_of (λ (p : Placement). eqb p.kind 0) P (Memᴰ.cast (Memᴰ.eq_of_singleton h) x.1) (eqb_of (ap (λ (p : Placement). p.kind) (Memᴰ.eq_of_singleton h) ∙ z))))

    after_ascending : (i : Identify) → kind0_first c i ≡ true → T (ascending (fast_ahead c i) (each (firsts c w) (λ q. fast_search c w (choose (start c) q))))
    after_ascending i e =
        each_ascending ahead (fast_ahead c i) (λ (q : Placement). fast_search c w (choose (start c) q)) (firsts c w) firsts_order inner
        (λ q r a b t P Q k l. ahead_by i true e P Q
        (subst (λ (x : List ℕ). T (less (x ++ body P) (kind_part Q ++ body Q))) (sym (kind-part q a P k))
        (subst (λ (x : List ℕ). T (less (q.p ∷ q.j ∷ body P) (x ++ body Q))) (sym (kind-part r b Q l)) (less_two q.p q.j r.p r.j (body P) (body Q) (pj_of q r ((first_parts c w one enough q a).1 ∙ sym (first_parts c w one enough r b).1) t)))))
      where
        firsts_order : T (ascending ahead (firsts c w))
        firsts_order = firsts_up c w

        inner : (q : Placement) → Memᴰ q (firsts c w) → T (ascending (fast_ahead c i) (fast_search c w (choose (start c) q)))
        inner q a =
            ascending_imp body_ahead (fast_ahead c i) (fast_search c w (choose (start c) q))
            (λ P Q k l t. ahead_by i true e P Q
            (subst (λ (x : List ℕ). T (less (x ++ body P) (kind_part Q ++ body Q))) (sym (kind-part q a P k))
            (subst (λ (x : List ℕ). T (less (q.p ∷ q.j ∷ body P) (x ++ body Q))) (sym (kind-part q a Q l)) (less_after (q.p ∷ q.j ∷ []) (body P) (body Q) (body_less P Q t)))))
            (from_search q a)
          where
            body_less : (P Q : List Placement) → T (body_ahead P Q) → T (less (body P) (body Q))
            body_less P Q t = unfold body_ahead in t

            from_search : (z : Placement) → Memᴰ z (firsts c w) → T (ascending body_ahead (fast_search c w (choose (start c) z)))
            from_search z m = unfold fast_search in (search_ascending (length c.cells) (choose (start c) z) (first_sound c w one enough z m))

  plain_ascending : (i : Identify) → kind0_first c i ≡ false → T (ascending (fast_ahead c i) (fast_search c w (start c)))
  unfolding fast_search body_ahead
  plain_ascending i e =
      ascending_imp body_ahead (fast_ahead c i) (search ch (length c.cells) (start c)) (λ P Q k l t. ahead_by i false e P Q t) (search_ascending (length c.cells) (start c) (sound_start c))

  pub fast_ascending : (i : Identify) → T (ascending (fast_ahead c i) (fast_list c i))
  unfolding fast_list fast_search firsts
  fast_ascending i = go (kind0_first c i) refl
    where
      go : (b : Bool) → kind0_first c i ≡ b → T (ascending (fast_ahead c i) (cond b (each (firsts c w) (λ q. fast_search c w (choose (start c) q))) (fast_search c w (start c))))
      go true e =
          let t = and_right (identifies_turned i) (eqb (get_or (limits c) 0 0) 1 && eqb (all_cells c) (length c.cells)) (kind0_parts i (holds (kind0_first c i) e)) in
          after_ascending (eqb→eq (get_or (limits c) 0 0) 1 (and_left (eqb (get_or (limits c) 0 0) 1) (eqb (all_cells c) (length c.cells)) t))
          (eqb→eq (all_cells c) (length c.cells) (and_right (eqb (get_or (limits c) 0 0) 1) (eqb (all_cells c) (length c.cells)) t)) i e
      go false e = plain_ascending i e
