-- While an entry is waited for, the packings below a row that this entry does not show only pass by: each of them has the row, alone on its cells, so that its
-- answer shows it. Assumes nothing.
use Prim.Native.Nat.{ℕ, zero, suc, ◌+◌, ◌-◌, ◌≤◌, ◌<◌}
use mathlib.Core.Bool.{Bool, true, false, cond, not, ◌&&◌, ◌||◌, true≢false}
use mathlib.Core.List.Memᴰ
use mathlib.Core.List.{List, [], ◌∷◌, map, Memᴰ}
use mathlib.Core.Logic.{◌⊎◌, inl, inr}
use mathlib.Core.Path.{◌≡◌, refl, sym, ap, ◌∙◌, subst}
use native.Mathlib.Omega.{arith}
use lib.Dec.{T, eqb, ltb, eqb→eq, ltb→lt}
use lib.ListN.{length, get_or, take, set, length-map}
use lib.Seq.{get_or-take, get_or-set_same, get_or-set_other}
use Rattle.lists.specs.Lists.{all, any, each, how_many, is_empty, keep, member, put, same}
use Rattle.lists.proofs.TestLaws.{and_left, and_right, eqb_of, holds, is_false, clash}
use Rattle.lists.proofs.ListLaws.{all_at, each_at, keep_at, keep_map, get_or_pos}
use Rattle.lists.proofs.SortLaws.{put_at, put_head, put_tail, Fresh, ascending_apart, same→eq}
use Rattle.lists.proofs.RangeLaws.{member_at, member_of}
use Rattle.lists.proofs.CountLaws.{how_many_length}
use Rattle.kept.proofs.NormalRowLaws.{row_of_in}
use Rattle.definitions.specs.Placements.{Placement}
use Rattle.definitions.specs.Packing.{ahead, used}
use Rattle.definitions.specs.Kept.{Identify}
use Rattle.definitions.specs.Orders.{State, possible, choose, search, fast_choices}
use Rattle.definitions.specs.Emission.{Emitted, Listed, emits}
use Rattle.theorems.proofs.PackingLaws.{ahead_trans, ahead_irrefl}
use Rattle.theorems.proofs.EmissionLaws.{emits_unmet}
use Rattle.masks.specs.Masks.{has}
use Rattle.masks.specs.declared.Mask.{Mask}
use Rattle.rows.specs.Systems.{System}
use Rattle.rows.specs.Answering.{answer_by}
use Rattle.rows.specs.Lawful.{Lawful}
use Rattle.rows.specs.Shown.{Shown, shows_row}
use Rattle.rows.proofs.ShownLaws.{answer_shows}
use Rattle.kept.specs.Normal.{row_of, of_kind, sort_rows, normal}
use Rattle.kept.specs.Entries.{entries, entry_by, numbers_of, put_all}
use Rattle.kept.proofs.LeafLaws.{packing_sorted}
use Rattle.kept.proofs.SortingLaws.{sort_keep, sort_rows_at}
use Rattle.fast.specs.Searching.{Searching, fast_below, state_by}
use Rattle.fast.proofs.SearchingLaws.{uncovered_at}

-- ---- the test of a row: it can be and-true-left, and while an entry is waited for the entry shows it
pub untried : (a waiting shows : Bool) → (a && (not waiting || shows)) ≡ false → (a ≡ false) ⊎ ((a ≡ true) × (waiting ≡ true) × (shows ≡ false))
untried false waiting shows e = inl refl
untried true false shows e = absurd (true≢false e)
untried true true shows e = inr (refl, refl, e)

pub test_fails : (a b told : Bool) → told ≡ a → told ≡ false → false ≡ (a && b)
test_fails a b told e f = sym (ap (λ (x : Bool). x && b) (sym e ∙ f))

pub test_passes : (a b told rest : Bool) → told ≡ a → told ≡ true → rest ≡ b → rest ≡ (a && b)
test_passes a b told rest e f g = g ∙ sym (ap (λ (x : Bool). x && b) (sym e ∙ f))

-- ---- one placement more is at most one of a kind more
put_few : (p : Placement → Bool) (x : Placement) (ys : List Placement) → how_many p (put ahead x ys) ≤ cond (p x) 1 0 + how_many p ys
put_few p x [] = omega arith
put_few p x (y ∷ ys) = go (ahead x y) (ahead y x) (put_few p x ys)
  where
    go : (b c : Bool) → how_many p (put ahead x ys) ≤ cond (p x) 1 0 + how_many p ys
        → how_many p (cond b (x ∷ y ∷ ys) (cond c (y ∷ put ahead x ys) (y ∷ ys))) ≤ cond (p x) 1 0 + (cond (p y) 1 0 + how_many p ys)
    go true c h = omega arith
    go false true h = omega arith
    go false false h = omega arith

few_chosen : (t : State) (x : Placement) (k limit : ℕ) → 0 < get_or t.left x.kind 0 → get_or t.left k 0 + used t.chosen k ≤ limit
    → get_or (choose t x).left k 0 + used (choose t x).chosen k ≤ limit
unfolding choose used
few_chosen t x k limit some h = go (eqb x.kind k) refl (put_few (λ (z : Placement). eqb z.kind k) x t.chosen)
  where
    these : List Placement → ℕ
    these P = how_many (λ z. eqb z.kind k) P

    go : (b : Bool) → eqb x.kind k ≡ b → these (put ahead x t.chosen) ≤ cond b 1 0 + these t.chosen
        → get_or (set t.left x.kind (get_or t.left x.kind 0 - 1)) k 0 + these (put ahead x t.chosen) ≤ limit
    go true e l =
        let i = eqb→eq x.kind k (holds (eqb x.kind k) e) in
        let a = ap (λ (j : ℕ). get_or (set t.left x.kind (get_or t.left x.kind 0 - 1)) j 0) (sym i)
        ∙ get_or-set_same t.left x.kind (get_or t.left x.kind 0 - 1) 0 (get_or_pos t.left x.kind some) in
        let b = ap (λ (j : ℕ). get_or t.left j 0) i in
        omega arith
    go false e l =
        let a = get_or-set_other t.left x.kind k (get_or t.left x.kind 0 - 1) 0 (λ i. subst T e (eqb_of (sym i))) in
        omega arith

-- ---- a state with q chosen, alone on its cells, and no more of its kind than there are copies
record Chosen (s : System) (q : Placement) (t : State) : Type 0 where
  is_in : Memᴰ q t.chosen
  alone : (x : Placement) → Memᴰ x t.chosen → (c : ℕ) → Memᴰ c q.cells → Memᴰ c x.cells → x ≡ q
  closed : (c : ℕ) → Memᴰ c q.cells → Memᴰ c t.free → ⊥
  few : get_or t.left q.kind 0 + used t.chosen q.kind ≤ get_or s.copies q.kind 0

-- what is possible
module _ (t : State) (x : Placement) (u : T (possible t x)) where
  some_left : 0 < get_or t.left x.kind 0
  unfolding possible
  some_left = ltb→lt 0 (get_or t.left x.kind 0) (and_left (ltb 0 (get_or t.left x.kind 0)) (all (λ n. member n t.free) x.cells) u)

  all_free : (c : ℕ) → Memᴰ c x.cells → Memᴰ c t.free
  unfolding possible
  all_free c m =
      member_at c t.free (all_at (λ n. member n t.free) x.cells (and_right (ltb 0 (get_or t.left x.kind 0)) (all (λ n. member n t.free) x.cells) u) m)

module _ (s : System) (q : Placement) where
  still_chosen : (t : State) (x : Placement) → Chosen s q t → T (possible t x) → Chosen s q (choose t x)
  unfolding choose
  still_chosen t x h u =
      record {
        is_in = put_tail ahead x t.chosen h.is_in;
        alone = λ y m c k l. only y (put_at ahead x t.chosen m) c k l;
        closed = λ c k m. h.closed c k (keep_at (λ n. not (member n x.cells)) t.free m).0;
        few = few_chosen t x q.kind (get_or s.copies q.kind 0) (some_left t x u) h.few;
      }
    where
      only : (y : Placement) → (y ≡ x) ⊎ Memᴰ y t.chosen → (c : ℕ) → Memᴰ c q.cells → Memᴰ c y.cells → y ≡ q
      only y (inl e) c k l = absurd (h.closed c k (all_free t x u c (subst (λ (z : Placement). Memᴰ c z.cells) e l)))
      only y (inr m) c k l = h.alone y m c k l

  can-be : (t : State) (x : Placement) → Memᴰ x (fast_choices s.rows t) → T (possible t x)
  unfolding fast_choices
  can-be t x a =
      and_right (any (eqb x.p) (take 1 t.free)) (possible t x) (keep_at (λ (z : Placement). any (eqb z.p) (take 1 t.free) && possible t z) s.rows a).1

  -- each packing that the search finds is chosen at such a state
  found : (fuel : ℕ) (t : State) → Chosen s q t → {P : List Placement} → Memᴰ P (search (fast_choices s.rows) fuel t)
      → (v : State) × Chosen s q v × (P ≡ v.chosen)
  unfolding search
  found zero t h {P} m = go (is_empty t.free) m
    where
      go : (b : Bool) → Memᴰ P (cond b (t.chosen ∷ []) []) → (v : State) × Chosen s q v × (P ≡ v.chosen)
      go true k = (t, h, Memᴰ.eq_of_singleton k)
      go false k = absurd (Memᴰ.not-nil k)
  found (suc fuel) t h {P} m =
      go (is_empty t.free) m
      (λ (x : Placement) (a : Memᴰ x (fast_choices s.rows t)) (k : Memᴰ P (search (fast_choices s.rows) fuel (choose t x))). found fuel (choose t x)
      (still_chosen t x h (can-be t x a)) k)
    where
      go : (b : Bool) → Memᴰ P (cond b (t.chosen ∷ []) (each (fast_choices s.rows t) (λ x. search (fast_choices s.rows) fuel (choose t x))))
          → ((x : Placement) → Memᴰ x (fast_choices s.rows t) → Memᴰ P (search (fast_choices s.rows) fuel (choose t x))
          → (v : State) × Chosen s q v × (P ≡ v.chosen))
          → (v : State) × Chosen s q v × (P ≡ v.chosen)
      go true k f = (t, h, Memᴰ.eq_of_singleton k)
      go false k f = let r = each_at (λ (x : Placement). search (fast_choices s.rows) fuel (choose t x)) (fast_choices s.rows t) k in f r.0 r.1 r.2

-- ---- row r, which is possible, is chosen
module _ (s : System) (law : Lawful s) (left : List ℕ) (covered : Mask) (rs : List ℕ) (rows : T (all (λ r. ltb r (length s.rows)) rs))
    (h : Searching s left covered rs)
    (r : ℕ) (row : r < length s.rows) (fit : possible (state_by s left covered rs) (row_of s r) ≡ true) where
  abbrev t : State
  t = state_by s left covered rs

  abbrev q : Placement
  q = row_of s r

  fits : T (possible t q)
  fits = holds (possible t q) fit

  chosen_at : {x : Placement} → Memᴰ x t.chosen → (j : ℕ) × Memᴰ j rs × (row_of s j ≡ x)
  unfolding state_by
  chosen_at {x} m =
      let y = Memᴰ.of_map (row_of s) (sort_rows rs) (subst (λ (l : List Placement). Memᴰ x l) (packing_sorted s law rs rows h.apart) m) in
      (y.0, sort_rows_at rs y.1, y.2)

  is_open : (c : ℕ) → Memᴰ c q.cells → has covered c ≡ false
  unfolding state_by
  is_open c k = (uncovered_at s.size covered (all_free t q fits c k)).1

  not_yet : (x : Placement) → Memᴰ x t.chosen → (c : ℕ) → Memᴰ c q.cells → Memᴰ c x.cells → ⊥
  not_yet x m c k l =
      let j = chosen_at m in
      true≢false (sym (h.covers j.0 j.1 c (subst (λ (z : Placement). Memᴰ c z.cells) (sym j.2) l)) ∙ is_open c k)

  fresh : Fresh ahead q t.chosen
  fresh y m =
      let j = chosen_at m in
      let b = ltb→lt j.0 (length s.rows) (all_at (λ i. ltb i (length s.rows)) rs rows j.1) in
      go (ascending_apart ahead ahead_trans ahead_irrefl s.rows law.in_order (row_of_in s r row) (Memᴰ.cast (sym j.2) (row_of_in s j.0 b)))
    where
      go : (q ≡ y) ⊎ (T (ahead q y) ⊎ T (ahead y q)) → T (ahead q y) ⊎ T (ahead y q)
      go (inl e) = let p = (law.row q (row_of_in s r row)).covers_p in absurd (not_yet y m q.p p (subst (λ (z : Placement). Memᴰ q.p z.cells) e p))
      go (inr o) = o

  few_used : get_or t.left q.kind 0 + used t.chosen q.kind ≤ get_or s.copies q.kind 0
  unfolding state_by used of_kind
  few_used =
      let k = q.kind in
      let b = (law.row q (row_of_in s r row)).of_kind in
      let a = get_or-take (length s.copies) left k 0 b in
      let test : Placement → Bool = λ z. eqb z.kind k in
      let u : used (put_all [] (map (row_of s) rs)) k ≡ length (of_kind s k rs) =
      ap (λ (P : List Placement). used P k) (packing_sorted s law rs rows h.apart) ∙ how_many_length test (map (row_of s) (sort_rows rs))
      ∙ ap length (keep_map (row_of s) test (sort_rows rs))
      ∙ length-map (of_kind s k (sort_rows rs)) (row_of s) ∙ sort_keep (λ j. eqb (row_of s j).kind k) rs in
      let e = h.taken k b in
      omega arith

  begun : Chosen s q (choose t q)
  unfolding choose
  begun =
      record {
        is_in = put_head ahead q t.chosen fresh;
        alone = λ x m c k l. only x (put_at ahead q t.chosen m) c k l;
        closed = λ c k m. clash (member c q.cells) (member_of q.cells k) (keep_at (λ n. not (member n q.cells)) t.free m).1;
        few = few_chosen t q q.kind (get_or s.copies q.kind 0) (some_left t q fits) few_used;
      }
    where
      only : (x : Placement) → (x ≡ q) ⊎ Memᴰ x t.chosen → (c : ℕ) → Memᴰ c q.cells → Memᴰ c x.cells → x ≡ q
      only x (inl e) c k l = e
      only x (inr m) c k l = absurd (not_yet x m c k l)

  module _ (last shown : List ℕ) (sh : Shown s.size s.scans last shown) (hidden : shows_row s.pieces shown (row_of s r) ≡ false) (i : Identify) where
    others : (x : Listed) → Memᴰ x (fast_below s i (choose t q)) → same x.answer last ≡ false
    unfolding fast_below entries entry_by
    others x m =
        let L = search (fast_choices s.rows) s.size (choose t q) in
        let y = Memᴰ.of_map (entry_by s) (keep (λ P. normal s i (numbers_of s P)) L) m in
        let z = keep_at (λ (P : List Placement). normal s i (numbers_of s P)) L y.1 in
        let v = found s q s.size (choose t q) begun z.0 in
        let b = (law.row q (row_of_in s r row)).of_kind in
        let few = v.1.few in
        let e = law.copies_each q.kind b in
        let is : answer_by s v.0.chosen ≡ x.answer = ap (answer_by s) (sym v.2) ∙ ap (λ (z : Listed). z.answer) y.2 in
        is_false (same x.answer last) (λ w.
        true≢false (sym (answer_shows s law v.0.chosen q v.1.is_in (row_of_in s r row) v.1.alone (omega arith) last shown sh (is ∙ same→eq x.answer last w))
        ∙ hidden))

    -- what lies below it is not what is waited for
    pub unmet : (capacity : ℕ) (e : Emitted) → e.waiting ≡ true → e.last ≡ last
        → emits capacity (fast_below s i (choose (state_by s left covered rs) (row_of s r))) e ≡ e
    unmet capacity e w is = emits_unmet capacity (fast_below s i (choose t q)) e w (λ x m. ap (same x.answer) is ∙ others x m)
