-- A turn of Fast's search over slices is a choice of the definition's search: the test of a row, the state below it, and what the search keeps true. Assumes
-- nothing.
use Prim.Native.Nat.{ℕ, zero, suc, ◌+◌, ◌-◌, ◌≤◌, ◌<◌}
use mathlib.Core.Bool.{Bool, true, false, cond, not, ◌&&◌, ◌||◌}
use mathlib.Core.List.Memᴰ
use mathlib.Core.List.{List, [], ◌∷◌, ◌++◌, map, Memᴰ, map-append}
use mathlib.Core.Path.{◌≡◌, refl, sym, ap, ap₂, ◌∙◌, subst}
use mathlib.Core.Logic.{◌⊎◌, inl, inr}
use native.Mathlib.Omega.{arith}
use lib.Dec.{T, ltb, eqb, ltb→lt, lt→ltb, eqb→eq}
use lib.ListN.{length, get_or, take, set, length-append, length-set}
use lib.Seq.{get_or-take, get_or-set_same, get_or-set_other, take-set-lt}
use Rattle.lists.specs.Lists.{cons_if, keep, all, from, below, member, is_empty, put}
use Rattle.lists.proofs.TestLaws.{and_right, and_true, decide, clash, is_true, is_false, not_T, holds, eqb_of, tests_same, not_not}
use Rattle.lists.proofs.ListLaws.{all_at, all_of, keep_at, keep_of, keep_same, keep_keep, keep_append, keep_shorter, apart_append}
use Rattle.lists.proofs.RangeLaws.{below_at, below_of, member_at, member_of}
use Rattle.kept.proofs.NormalRowLaws.{row_of_in}
use Rattle.definitions.specs.Placements.{Placement}
use Rattle.definitions.specs.Packing.{ahead}
use Rattle.definitions.specs.Orders.{possible, choose, fast_choices}
use Rattle.masks.specs.Masks.{has, either, apart, FirstOpen}
use Rattle.masks.specs.declared.Mask.{Mask}
use Rattle.masks.proofs.MaskLaws.{apart_of, apart_not}
use Rattle.rows.proofs.AnsweringLaws.{in_cells}
use Rattle.rows.specs.Systems.{System}
use Rattle.rows.specs.Lawful.{Lawful, LawfulRow}
use Rattle.rows.specs.Rows.{cells_of}
use Rattle.kept.specs.Normal.{row_of, of_kind}
use Rattle.kept.specs.Entries.{put_all}
use Rattle.fast.specs.Searching.{uncovered, state_by, Searching, goes_on}
use Rattle.kept.proofs.LeafLaws.{put_all_last}

-- ---- a copy of the kind is left, and no cell is covered
unfoldable pub fits : List ℕ → Mask → Mask → ℕ → Bool
fits left covered mask kind = apart 128 (has mask) (has covered) && ltb 0 (get_or left kind 0)

pub fits_apart : (left : List ℕ) (covered mask : Mask) (kind : ℕ) → 0 < get_or left kind 0 → fits left covered mask kind ≡ apart 128 (has mask) (has covered)
unfolding fits
fits_apart left covered mask kind h =
    ap (λ (b : Bool). apart 128 (has mask) (has covered) && b) (is_true (ltb 0 (get_or left kind 0)) (lt→ltb 0 (get_or left kind 0) h))
    ∙ and_true (apart 128 (has mask) (has covered))

-- ---- whether a search goes on: the rows chosen do not matter
pub goes_same : (s : System) (left : List ℕ) (covered : Mask) (rs : List ℕ) (q : Placement)
    → goes_on s (choose (state_by s left covered rs) q) ≡ goes_on s (choose (state_by s left covered []) q)
unfolding goes_on fast_choices possible choose state_by
goes_same s left covered rs q = refl

pub goes_any : (s : System) (left : List ℕ) (covered : Mask) (rs : List ℕ) → goes_on s (state_by s left covered rs) ≡ goes_on s (state_by s left covered [])
unfolding goes_on fast_choices possible state_by
goes_any s left covered rs = refl

-- ---- the first uncovered cell
first-from : (a : ℕ → Bool) (c i n : ℕ) → i ≤ c → c < i + n → ((k : ℕ) → i ≤ k → k < c → a k ≡ true) → a c ≡ false
    → take 1 (keep (λ k. not (a k)) (from i n)) ≡ c ∷ []
first-from a c i zero h l f e = absurd (omega arith)
first-from a c i (suc n) h l f e = go (decide (eqb i c)) (λ (u : suc i ≤ c) (v : c < suc i + n). first-from a c (suc i) n u v (λ k x y. f k (omega arith) y) e)
  where
    rest : List ℕ
    rest = keep (λ k. not (a k)) (from (suc i) n)

    go : T (eqb i c) ⊎ T (not (eqb i c)) → (suc i ≤ c → c < suc i + n → take 1 rest ≡ c ∷ []) → take 1 (cons_if (not (a i)) i rest) ≡ c ∷ []
    go (inl u) r =
        let q = eqb→eq i c u in
        ap (λ (b : Bool). take 1 (cons_if (not b) i rest)) (ap a q ∙ e) ∙ ap (λ (k : ℕ). k ∷ []) q
    go (inr u) r =
        let d : i ≡ c → ⊥ = λ q. clash (eqb i c) (eqb_of q) u in
        let x : i < c = omega arith in
        ap (λ (b : Bool). take 1 (cons_if (not b) i rest)) (f i (omega arith) x) ∙ r x (omega arith)

none_from : (a : ℕ → Bool) (i n : ℕ) → ((k : ℕ) → i ≤ k → k < i + n → a k ≡ true) → keep (λ k. not (a k)) (from i n) ≡ []
none_from a i zero f = refl
none_from a i (suc n) f =
    ap (λ (b : Bool). cons_if (not b) i (keep (λ k. not (a k)) (from (suc i) n))) (f i (omega arith) (omega arith))
    ∙ none_from a (suc i) n (λ k x y. f k (omega arith) (omega arith))

pub first_uncovered : (size : ℕ) (covered : Mask) (c : ℕ) → FirstOpen (has covered) 0 c → size ≤ 128 → c < size → take 1 (uncovered size covered) ≡ c ∷ []
unfolding uncovered
first_uncovered size covered c o h l = first-from (has covered) c 0 size (omega arith) (omega arith) (λ k x y. o.passed k x y) (o.stops (omega arith))

pub none_uncovered : (size : ℕ) (covered : Mask) (c : ℕ) → FirstOpen (has covered) 0 c → size ≤ c → uncovered size covered ≡ []
unfolding uncovered
none_uncovered size covered c o h = none_from (has covered) 0 size (λ k x y. o.passed k x (omega arith))

pub some_uncovered : (xs : List ℕ) (c : ℕ) → take 1 xs ≡ c ∷ [] → (is_empty xs ≡ false) × (0 < length xs)
some_uncovered [] c e = absurd (Memᴰ.not-nil (subst (λ (l : List ℕ). Memᴰ c l) (sym e) (Memᴰ.head refl)))
some_uncovered (x ∷ xs) c e = (refl, omega arith)

-- ---- the cells of a mask
module _ (mask : Mask) where
  pub cells_at : {n : ℕ} → Memᴰ n (cells_of mask) → (n < 128) × (has mask n ≡ true)
  unfolding cells_of
  cells_at {n} m = let r = keep_at (has mask) (below 128) m in (below_at 128 r.0, is_true (has mask n) r.1)

  pub cells-of : {n : ℕ} → n < 128 → has mask n ≡ true → Memᴰ n (cells_of mask)
  unfolding cells_of
  cells-of {n} h e = keep_of (has mask) (below 128) (below_of 128 h) (holds (has mask n) e)

pub uncovered_at : (size : ℕ) (covered : Mask) {n : ℕ} → Memᴰ n (uncovered size covered) → (n < size) × (has covered n ≡ false)
unfolding uncovered
uncovered_at size covered {n} m = let r = keep_at (λ k. not (has covered k)) (below size) m in (below_at size r.0, not_T (has covered n) r.1)

pub uncovered_of : (size : ℕ) (covered : Mask) {n : ℕ} → n < size → has covered n ≡ false → Memᴰ n (uncovered size covered)
unfolding uncovered
uncovered_of size covered {n} h e = keep_of (λ k. not (has covered k)) (below size) (below_of size h) (subst (λ (b : Bool). T (not b)) (sym e) tt)

not_both : (a b : Bool) → (not a && not b) ≡ not (a || b)
not_both true b = refl
not_both false b = refl

pub uncovered_more : (size : ℕ) (covered mask more : Mask) → size ≤ 128 → has more ≡ either (has covered) (has mask)
    → uncovered size more ≡ keep (λ n. not (member n (cells_of mask))) (uncovered size covered)
unfolding uncovered either
uncovered_more size covered mask more h e =
    sym (keep_keep (λ k. not (has covered k)) (λ n. not (member n (cells_of mask))) (below size)
    ∙ keep_same (λ k. not (has covered k) && not (member k (cells_of mask))) (λ k. not (has more k)) (below size)
    (λ k m. let l = below_at size m in
    ap (λ (b : Bool). not (has covered k) && not b) (in_cells mask k (omega arith)) ∙ not_both (has covered k) (has mask k)
    ∙ sym (ap (λ (g : ℕ → Bool). not (g k)) e)))

-- ---- a row of a search
module _ (s : System) (law : Lawful s) (left : List ℕ) (covered mask : Mask) (rs : List ℕ) (r : ℕ) (row : r < length s.rows)
    (cells : (row_of s r).cells ≡ cells_of mask) where
  row_lawful : LawfulRow s (row_of s r)
  row_lawful = law.row (row_of s r) (row_of_in s r row)

  abbrev q : Placement
  q = row_of s r

  -- the test
  module _ (room : q.kind < length s.copies) where
    left_same : get_or (take (length s.copies) left) q.kind 0 ≡ get_or left q.kind 0
    left_same = get_or-take (length s.copies) left q.kind 0 room

    free_is : all (λ n. member n (uncovered s.size covered)) q.cells ≡ apart 128 (has mask) (has covered)
    free_is = tests_same (all (λ n. member n (uncovered s.size covered)) q.cells) (apart 128 (has mask) (has covered)) there back
      where
        there : T (all (λ n. member n (uncovered s.size covered)) q.cells) → T (apart 128 (has mask) (has covered))
        there t =
            holds (apart 128 (has mask) (has covered)) (apart_of 128 (has mask) (has covered) (λ k h a b.
            let m = subst (λ (l : List ℕ). Memᴰ k l) (sym cells) (cells-of mask h a) in
            let f = uncovered_at s.size covered (member_at k (uncovered s.size covered) (all_at (λ n. member n (uncovered s.size covered)) q.cells t m)) in
            subst T (sym b ∙ f.1) tt))

        back : T (apart 128 (has mask) (has covered)) → T (all (λ n. member n (uncovered s.size covered)) q.cells)
        back t =
            all_of (λ n. member n (uncovered s.size covered)) q.cells (λ n m.
            let x = cells_at mask (subst (λ (l : List ℕ). Memᴰ n l) cells m) in
            member_of (uncovered s.size covered) (uncovered_of s.size covered (row_lawful.on_board n m)
            (is_false (has covered n)
            (λ u. apart_not 128 (has mask) (has covered) (is_true (apart 128 (has mask) (has covered)) t) n x.0 x.1 (is_true (has covered n) u)))))

  and_swap : (a b : Bool) → (a && b) ≡ (b && a)
  and_swap true true = refl
  and_swap true false = refl
  and_swap false true = refl
  and_swap false false = refl

  pub fits_possible : fits left covered mask q.kind ≡ possible (state_by s left covered rs) q
  unfolding fits possible state_by
  fits_possible =
      and_swap (apart 128 (has mask) (has covered)) (ltb 0 (get_or left q.kind 0))
      ∙ ap₂ (λ (n : ℕ) (b : Bool). ltb 0 n && b) (sym (left_same row_lawful.of_kind)) (sym (free_is row_lawful.of_kind))

  module _ (more : Mask) (union : has more ≡ either (has covered) (has mask)) where
    uncovered_less_q : uncovered s.size more ≡ keep (λ n. not (member n q.cells)) (uncovered s.size covered)
    uncovered_less_q =
        uncovered_more s.size covered mask more law.few_cells union
        ∙ ap (λ (l : List ℕ). keep (λ n. not (member n l)) (uncovered s.size covered)) (sym cells)

    -- the state below
    pub child_state : state_by s (set left q.kind (get_or left q.kind 0 - 1)) more (rs ++ (r ∷ [])) ≡ choose (state_by s left covered rs) q
    unfolding state_by choose
    child_state = (λ i. record { left = lefts i; free = uncovered_less_q i; chosen = rows i })
      where
        lefts : take (length s.copies) (set left q.kind (get_or left q.kind 0 - 1))
            ≡ set (take (length s.copies) left) q.kind (get_or (take (length s.copies) left) q.kind 0 - 1)
        lefts =
            take-set-lt (length s.copies) left q.kind (get_or left q.kind 0 - 1) row_lawful.of_kind
            ∙ ap (λ (n : ℕ). set (take (length s.copies) left) q.kind (n - 1)) (sym (left_same row_lawful.of_kind))

        rows : put_all [] (map (row_of s) (rs ++ (r ∷ []))) ≡ put ahead q (put_all [] (map (row_of s) rs))
        rows = ap (λ (l : List Placement). put_all [] l) (map-append (row_of s) rs (r ∷ [])) ∙ put_all_last [] (map (row_of s) rs) q

    module _ (c : ℕ) (at : q.p ≡ c) (is_open : has covered c ≡ false) (inside : c < s.size) where
      pub child_less : length (uncovered s.size more) < length (uncovered s.size covered)
      child_less =
          subst (λ (l : List ℕ). length l < length (uncovered s.size covered)) (sym uncovered_less_q)
          (keep_shorter (λ n. not (member n q.cells)) (uncovered s.size covered) (uncovered_of s.size covered inside is_open)
          (not_not (member c q.cells) (member_of q.cells (subst (λ (n : ℕ). Memᴰ n q.cells) at row_lawful.covers_p))))

      module _ (h : Searching s left covered rs) (fit : fits left covered mask q.kind ≡ true) where
        pub some_left : 0 < get_or left q.kind 0
        unfolding fits
        some_left =
            ltb→lt 0 (get_or left q.kind 0)
            (and_right (apart 128 (has mask) (has covered)) (ltb 0 (get_or left q.kind 0)) (holds (fits left covered mask q.kind) fit))

        new_row : Memᴰ r rs → ⊥
        new_row m = subst T (sym (h.covers r m q.p row_lawful.covers_p) ∙ ap (has covered) at ∙ is_open) tt

        used_more : (k : ℕ) → length (of_kind s k (rs ++ (r ∷ []))) ≡ length (of_kind s k rs) + length (of_kind s k (r ∷ []))
        unfolding of_kind
        used_more k = ap length (keep_append (λ i. eqb (row_of s i).kind k) rs (r ∷ [])) ∙ length-append (of_kind s k rs) (of_kind s k (r ∷ []))

        used_one : (k : ℕ) (b : Bool) → eqb q.kind k ≡ b → length (of_kind s k (r ∷ [])) ≡ cond b 1 0
        unfolding of_kind
        used_one k true e = ap (λ (b : Bool). length (cons_if b r [])) e
        used_one k false e = ap (λ (b : Bool). length (cons_if b r [])) e

        still_taken : (k : ℕ) → k < length s.copies
            → get_or (set left q.kind (get_or left q.kind 0 - 1)) k 0 + length (of_kind s k (rs ++ (r ∷ []))) ≡ get_or s.copies k 0
        still_taken k l = go (eqb q.kind k) refl
          where
            go : (b : Bool) → eqb q.kind k ≡ b
                → get_or (set left q.kind (get_or left q.kind 0 - 1)) k 0 + length (of_kind s k (rs ++ (r ∷ []))) ≡ get_or s.copies k 0
            go true e =
                let i : q.kind ≡ k = eqb→eq q.kind k (holds (eqb q.kind k) e) in
                let a : get_or (set left q.kind (get_or left q.kind 0 - 1)) k 0 ≡ get_or left k 0 - 1 =
                subst (λ (j : ℕ). get_or (set left q.kind (get_or left q.kind 0 - 1)) j 0 ≡ get_or left j 0 - 1) i
                (get_or-set_same left q.kind (get_or left q.kind 0 - 1) 0 (let w = h.enough in let v = row_lawful.of_kind in omega arith)) in
                let p : 0 < get_or left k 0 = subst (λ (j : ℕ). 0 < get_or left j 0) i some_left in
                let u = used_more k in
                let o : length (of_kind s k (r ∷ [])) ≡ 1 = used_one k true e in
                let t = h.taken k l in
                omega arith
            go false e =
                let a : get_or (set left q.kind (get_or left q.kind 0 - 1)) k 0 ≡ get_or left k 0 =
                get_or-set_other left q.kind k (get_or left q.kind 0 - 1) 0 (λ i. subst T e (eqb_of (sym i))) in
                let u = used_more k in
                let o : length (of_kind s k (r ∷ [])) ≡ 0 = used_one k false e in
                let t = h.taken k l in
                omega arith

        covers_more : (i : ℕ) → Memᴰ i (rs ++ (r ∷ [])) → (n : ℕ) → Memᴰ n (row_of s i).cells → has more n ≡ true
        unfolding either
        covers_more i m n k = ap (λ (g : ℕ → Bool). g n) union ∙ go (Memᴰ.append_cases rs m)
          where
            or_true : (a b : Bool) → b ≡ true → (a || b) ≡ true
            or_true true b e = refl
            or_true false b e = e

            go : Memᴰ i rs ⊎ Memᴰ i (r ∷ []) → (has covered n || has mask n) ≡ true
            go (inl l) = ap (λ (b : Bool). b || has mask n) (h.covers i l n k)
            go (inr l) =
                or_true (has covered n) (has mask n)
                (cells_at mask (subst (λ (x : List ℕ). Memᴰ n x) (ap (λ (j : ℕ). (row_of s j).cells) (Memᴰ.eq_of_singleton l) ∙ cells) k)).1

        pub child_searching : Searching s (set left q.kind (get_or left q.kind 0 - 1)) more (rs ++ (r ∷ []))
        child_searching =
            record {
              enough = (let e = length-set left q.kind (get_or left q.kind 0 - 1) in let w = h.enough in omega arith);
              apart = apart_append rs (r ∷ []) h.apart (λ m. Memᴰ.not-nil m, tt) (λ z a b. new_row (Memᴰ.cast (sym (Memᴰ.eq_of_singleton b)) a));
              taken = still_taken;
              covers = covers_more;
              room = (let e = length-append rs (r ∷ []) in let l = child_less in let w = h.room in omega arith);
            }
