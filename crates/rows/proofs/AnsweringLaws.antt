-- The copies that the rows of a path take, one row after the other: where the rows ascend by kind and each kind has copies enough, a row takes the copy of
-- its kind whose number is that of the rows of the kind before it. Assumes nothing.
use Prim.Native.Nat.{ℕ, zero, suc, ◌+◌, ◌-◌, ◌*◌, ◌≤◌, ◌<◌}
use mathlib.Core.Bool.{Bool, true, false, cond, ◌&&◌}
use mathlib.Core.List.Memᴰ
use mathlib.Core.List.{List, [], ◌∷◌, ◌++◌, map, map-append, Memᴰ}
use mathlib.Core.Path.{◌≡◌, refl, sym, ap, ap₂, ◌∙◌, subst}
use mathlib.Core.Logic.{◌⊎◌, inl, inr, ⊎_elim}
use native.Mathlib.Nat.{add-zero}
use native.Mathlib.Numerals.{add-one}
use native.Mathlib.Omega.{arith}
use borrow.Author.Count.{below_more}
use borrow.Author.Tests.{ne_eqb, eqb-true, eqb-false}
use lib.Dec.{T, ltb, eqb, ltb→lt, eqb→eq}
use lib.ListN.{length, get_or, take, drop, set, length-map, get_or-append, drop_of_length-le}
use lib.Seq.{paste, length-take-le, drop-cons, take-suc, take_all, get_or-take, get_or-append-add, ext_get_or}
use Rattle.lists.specs.Lists.{cons_if, keep, all, how_many, joined, ascending, numbered_from, from, below, member, same, less}
use Rattle.lists.proofs.TestLaws.{and_left, and_right, or_cases, is_true, is_false, tests_same}
use Rattle.lists.proofs.ListLaws.{all_at, all_of, keep_at, keep_of, map_same, take_in, keep_fails}
use Rattle.lists.proofs.SortLaws.{same→eq, same_refl}
use Rattle.lists.proofs.RangeLaws.{below_of, length_below, from_at, member_at, member_of, get_or_of}
use Rattle.std.specs.List.{count_by}
use Rattle.std.proofs.lemmas.List.Sums.{sum_by-cons}
use Rattle.lists.proofs.NthLaws.{nth_mem, nth_at}
use Rattle.definitions.specs.Kinds.{Copy}
use Rattle.definitions.specs.Placements.{Placement}
use Rattle.definitions.specs.Packing.{ahead, rank, used}
use Rattle.definitions.specs.Answers.{Taken, takes, copy_on}
use Rattle.masks.specs.Masks.{has}
use Rattle.masks.specs.declared.Mask.{Mask}
use Rattle.rows.specs.Rows.{row_at, mask_at, cells_of}
use Rattle.rows.specs.Charts.{nothing_owned}
use Rattle.rows.specs.Systems.{owned_in}
use Rattle.rows.specs.declared.chart.Owned.{Owned}
use Rattle.rows.specs.Answering.{no_copy, copies_if, copies_by, path_in, taken_by, as_copy}
use Rattle.rows.specs.declared.answers.Copied.{Copied}
use Rattle.rows.proofs.PairLaws.{pairs, length_pairs, pair_first, pair_second, pair_stored}

-- ---- the copies of a kind, piece by piece
abbrev pub owned_at : List Owned → ℕ → Owned
owned_at pieces i = get_or pieces i nothing_owned

-- those of k pieces from p on
abbrev pub copies_from : List Owned → ℕ → ℕ → ℕ → List Copy
copies_from pieces kind p k = joined (numbered_from p (map (owned_at pieces) (from p k)) (λ i q. copies_if (eqb q.kind kind) i q.count))

pub copies_start : (pieces : List Owned) (kind n : ℕ) → copies_from pieces kind 0 (n - 0) ≡ copies_by (owned_in pieces n) kind
unfolding copies_by owned_in
copies_start pieces kind n = let e : n - 0 ≡ n = omega arith in rw e

module _ (pieces : List Owned) (kind n p left : ℕ) where
  abbrev rest : ℕ → ℕ → Copy
  rest q m = get_or (copies_from pieces kind q (n - q)) m no_copy

  copies_next : p < n → (b : Bool) → eqb (owned_at pieces p).kind kind ≡ b
      → rest p left ≡ get_or (copies_if b p (owned_at pieces p).count ++ copies_from pieces kind (p + 1) (n - (p + 1))) left no_copy
  copies_next h b e = let d : n - p ≡ suc (n - (p + 1)) = omega arith in rw (d, e, add-one p)

  abbrev ones : ℕ → List Copy
  ones m = map (λ k. record { piece = p; copy = k }) (below m)

  length_ones : (m : ℕ) → length (ones m) ≡ m
  length_ones m = length-map (below m) _ ∙ length_below m

  pub copy_found : p < n → eqb (owned_at pieces p).kind kind ≡ true → left < (owned_at pieces p).count → rest p left ≡ record { piece = p; copy = left }
  copy_found h e l =
      let m = (owned_at pieces p).count in
      copies_next h true e ∙ get_or-append (ones m) (copies_from pieces kind (p + 1) (n - (p + 1))) no_copy left (let k = length_ones m in omega arith)
      ∙ get_or_of (λ k. record { piece = p; copy = k }) no_copy 0 m left l ∙ ap (λ (k : ℕ). record { piece = p; copy = k }) (omega arith)

  pub copy_later : p < n → eqb (owned_at pieces p).kind kind ≡ true → (owned_at pieces p).count ≤ left → rest p left ≡ rest (p + 1) (left - (owned_at pieces p).count)
  copy_later h e l =
      let m = (owned_at pieces p).count in
      let tail = copies_from pieces kind (p + 1) (n - (p + 1)) in
      copies_next h true e ∙ ap (λ (k : ℕ). get_or (ones m ++ tail) k no_copy) (let k = length_ones m in omega arith)
      ∙ get_or-append-add (ones m) tail (left - m) no_copy

  pub copy_other : p < n → eqb (owned_at pieces p).kind kind ≡ false → rest p left ≡ rest (p + 1) left
  copy_other h e = copies_next h false e

  pub copy_none : n ≤ p → rest p left ≡ no_copy
  copy_none h = let d : n - p ≡ 0 = omega arith in rw d

-- ---- rows of a path
-- the first i, and those from i on
abbrev pub rows_to : List ℕ → List ℕ → ℕ → List Placement
rows_to work path i = path_in work (take i path)

abbrev pub rows_left : List ℕ → List ℕ → ℕ → List Placement
rows_left work path i = map (row_at work) (drop i path)

module _ (work path : List ℕ) where
  pub row_in : T (all (λ r. ltb (8 * r + 7) (length work)) path) → (i : ℕ) → i < length path → 8 * get_or path i 0 + 8 ≤ length work
  row_in t i h =
      let l = ltb→lt (8 * get_or path i 0 + 7) (length work)
      (all_at (λ (r : ℕ). ltb (8 * r + 7) (length work)) path t (nth_mem path i (nth_at 0 path i h))) in
      omega arith

  pub rows_fewer : T (all (λ r. ltb (8 * r + 7) (length work)) path) → (i : ℕ) → T (all (λ r. ltb (8 * r + 7) (length work)) (take i path))
  rows_fewer t i = all_of (λ (r : ℕ). ltb (8 * r + 7) (length work)) (take i path) (λ r m. all_at (λ (k : ℕ). ltb (8 * k + 7) (length work)) path t (take_in i path m))

  pub rows_next : (i : ℕ) → i < length path → rows_left work path i ≡ row_at work (get_or path i 0) ∷ rows_left work path (i + 1)
  rows_next i h = rw (add-one, drop-cons path i 0 h)

  pub rows_end : rows_left work path (length path) ≡ []
  rows_end = let h : length path ≤ length path = omega arith in ap (map (row_at work)) (drop_of_length-le path h)

  pub rows_done : (i : ℕ) → i < length path → rows_to work path (i + 1) ≡ rows_to work path i ++ (row_at work (get_or path i 0) ∷ [])
  unfolding path_in
  rows_done i h = rw (add-one, take-suc path i 0 h) (map-append (row_at work) (take i path) (get_or path i 0 ∷ []))

  pub rows_whole : rows_to work path (length path) ≡ path_in work path
  rows_whole = ap (path_in work) (take_all (length path) path (omega arith))

-- how many of the rows of a path are of a kind
pub kind_counted : (work path : List ℕ) (kind : ℕ) → how_many (λ q. eqb q.kind kind) (path_in work path) ≡ count_by (λ r. eqb (row_at work r).kind kind) path
unfolding path_in
kind_counted work path kind = go path
  where
    go : (xs : List ℕ) → how_many (λ q. eqb q.kind kind) (map (row_at work) xs) ≡ count_by (λ r. eqb (row_at work r).kind kind) xs
    go [] = refl
    go (x ∷ xs) =
        ap (λ (m : ℕ). cond (eqb (row_at work x).kind kind) 1 0 + m) (go xs) ∙ sym (sum_by-cons (λ r. cond (eqb (row_at work r).kind kind) 1 0) x xs)

-- a number below 128 is one of a mask's cells where it is in the mask
pub in_cells : (m : Mask) (cell : ℕ) → cell < 128 → member cell (cells_of m) ≡ has m cell
unfolding cells_of
in_cells m cell h =
    tests_same (member cell (keep (has m) (below 128))) (has m cell)
    (λ t. (keep_at (has m) (below 128) (member_at cell (keep (has m) (below 128)) t)).1)
    (λ t. member_of (keep (has m) (below 128)) (keep_of (has m) (below 128) (below_of 128 h) t))

pub in-mask : (work : List ℕ) (r cell : ℕ) → cell < 128 → member cell (row_at work r).cells ≡ has (mask_at work r) cell
unfolding row_at
in-mask work r cell h = in_cells (mask_at work r) cell h

-- ---- rows take copies one after the other
pub used_more : (P : List Placement) (q : Placement) (k : ℕ) → used (P ++ (q ∷ [])) k ≡ used P k + cond (eqb q.kind k) 1 0
unfolding used
used_more [] q k = omega arith
used_more (r ∷ P) q k = let e = used_more P q k in omega arith

-- of two rows, the one that stands ahead has no later kind
pub ahead_kind : (q r : Placement) → T (ahead q r) → q.kind ≤ r.kind
unfolding ahead rank
ahead_kind q r t =
    ⊎_elim
    (λ (s : T (ltb q.kind r.kind)). let l = ltb→lt q.kind r.kind s in omega arith)
    (λ (s : T (eqb q.kind r.kind && less (q.p ∷ q.j ∷ []) (r.p ∷ r.j ∷ []))).
    let e = eqb→eq q.kind r.kind (and_left (eqb q.kind r.kind) (less (q.p ∷ q.j ∷ []) (r.p ∷ r.j ∷ [])) s) in omega arith)
    (or_cases (ltb q.kind r.kind) (eqb q.kind r.kind && less (q.p ∷ q.j ∷ []) (r.p ∷ r.j ∷ [])) t)

takes_none : (ds : List Copy) → takes ds [] ≡ []
takes_none [] = refl
takes_none (d ∷ ds) = refl

-- the copy on a cell is that of the first that covers it
module _ (c : Copy) (cells : List ℕ) (ts : List Taken) (cell : ℕ) where
  abbrev with : List Taken
  with = record { copy = c; cells = cells } ∷ ts

  pub copy_here : member cell cells ≡ true → copy_on with cell ≡ c
  unfolding copy_on
  copy_here e = rw e

  pub copy_past : member cell cells ≡ false → copy_on with cell ≡ copy_on ts cell
  unfolding copy_on
  copy_past e = rw e

copy_nothing : (cell : ℕ) → copy_on [] cell ≡ no_copy
unfolding copy_on
copy_nothing cell = refl

module _ (own : List Owned) where
  -- behind rows that have taken theirs
  abbrev pub taken_on : List Placement → List Placement → List Taken
  taken_on done [] = []
  taken_on done (q ∷ qs) = record { copy = get_or (copies_by own q.kind) (used done q.kind) no_copy; cells = q.cells } ∷ taken_on (done ++ (q ∷ [])) qs

  abbrev part : List Placement → List Placement → ℕ → List Taken
  part done P k = takes (drop (used done k) (copies_by own k)) (keep (λ q. eqb q.kind k) P)

  -- rows of n kinds from i on
  record Orderly (n i : ℕ) (done P : List Placement) : Type 0 where
    ascend : T (ascending ahead P)
    low : (r : Placement) → Memᴰ r P → i ≤ r.kind
    high : (r : Placement) → Memᴰ r P → r.kind < i + n
    enough : (k : ℕ) → i ≤ k → k < i + n → used done k + used P k ≤ length (copies_by own k)

  abbrev InOrder : ℕ → ℕ → Type 0
  InOrder n i = (done P : List Placement) → Orderly n i done P → joined (map (part done P) (from i n)) ≡ taken_on done P

  module _ (n i : ℕ) (done : List Placement) (q : Placement) (P : List Placement) (o : Orderly (suc n) i done (q ∷ P)) where
    used_first : (k : ℕ) → used (q ∷ P) k ≡ cond (eqb q.kind k) 1 0 + used P k
    unfolding used
    used_first k = refl

    orderly_tail : Orderly (suc n) i (done ++ (q ∷ [])) P
    orderly_tail =
        record {
          ascend = and_right (all (ahead q) P) (ascending ahead P) o.ascend;
          low = λ r m. o.low r (Memᴰ.tail m);
          high = λ r m. o.high r (Memᴰ.tail m);
          enough = λ k h l. let e = used_more done q k in let d = used_first k in omega (arith, o.enough k h l);
        }

    not_first : eqb q.kind i ≡ false → (r : Placement) → (r ≡ q) ⊎ Memᴰ r P → suc i ≤ r.kind
    not_first e r (inl m) =
        let d : q.kind ≡ i → ⊥ = eqb-false q.kind i e in
        let l = o.low q (Memᴰ.head refl) in
        let k : r.kind ≡ q.kind = ap (λ (z : Placement). z.kind) m in
        omega arith
    not_first e r (inr m) =
        let d : q.kind ≡ i → ⊥ = eqb-false q.kind i e in
        let l = o.low q (Memᴰ.head refl) in
        let k = ahead_kind q r (all_at (ahead q) P (and_left (all (ahead q) P) (ascending ahead P) o.ascend) m) in
        omega arith

    orderly_later : eqb q.kind i ≡ false → Orderly n (suc i) done (q ∷ P)
    orderly_later e =
        record {
          ascend = o.ascend;
          low = λ r m. not_first e r (Memᴰ.cases_cons m);
          high = λ r m. omega (arith, o.high r m);
          enough = λ k h l. o.enough k (omega arith) (omega arith);
        }

    later : eqb q.kind i ≡ false → InOrder n (suc i) → joined (map (part done (q ∷ P)) (from i (suc n))) ≡ taken_on done (q ∷ P)
    later e f =
        ap (λ (l : List Taken). l ++ joined (map (part done (q ∷ P)) (from (suc i) n)))
        (ap (takes (drop (used done i) (copies_by own i))) (keep_fails (λ (r : Placement). eqb r.kind i) (q ∷ P) none) ∙ takes_none (drop (used done i) (copies_by own i)))
        ∙ f done (q ∷ P) (orderly_later e)
      where
        none : (r : Placement) → Memᴰ r (q ∷ P) → eqb r.kind i ≡ false
        none r m = let l = not_first e r (Memᴰ.cases_cons m) in ne_eqb r.kind i (λ z. omega arith)

    -- the kinds after the first do not see a row of the first
    same_part : q.kind ≡ i → (k : ℕ) → suc i ≤ k → part done (q ∷ P) k ≡ part (done ++ (q ∷ [])) P k
    same_part e k h =
        let d : eqb q.kind k ≡ false = ne_eqb q.kind k (λ z. omega arith) in
        rw (used_more done q k, d, add-zero (used done k))

    first : eqb q.kind i ≡ true → joined (map (part (done ++ (q ∷ [])) P) (from i (suc n))) ≡ taken_on (done ++ (q ∷ [])) P
        → joined (map (part done (q ∷ P)) (from i (suc n))) ≡ taken_on done (q ∷ P)
    first e r =
        let d : q.kind ≡ i = eqb-true q.kind i e in
        let ds = copies_by own i in
        let u = used done i in
        let l : u < length ds = let a = used_first i in let b : ◌≡◌ {A = ℕ} (cond (eqb q.kind i) 1 0) 1 = ap {B = ℕ} (λ (t : Bool). cond t 1 0) e in omega (arith, o.enough i (omega arith) (omega arith)) in
        let more : used (done ++ (q ∷ [])) i ≡ suc u = let b : ◌≡◌ {A = ℕ} (cond (eqb q.kind i) 1 0) 1 = ap {B = ℕ} (λ (t : Bool). cond t 1 0) e in omega (arith, used_more done q i) in
        let others = map_same (part done (q ∷ P)) (part (done ++ (q ∷ [])) P) (from (suc i) n) (λ k m. same_part d k (from_at (suc i) n m).0) in
        let entry : Copy → Taken = λ c. record { copy = c; cells = q.cells } in
        ap (λ (b : Bool). takes (drop u ds) (cons_if b q (keep (λ (z : Placement). eqb z.kind i) P)) ++ joined (map (part done (q ∷ P)) (from (suc i) n))) e
        ∙ ap (λ (l : List Copy). takes l (q ∷ keep (λ (z : Placement). eqb z.kind i) P) ++ joined (map (part done (q ∷ P)) (from (suc i) n))) (drop-cons ds u no_copy l)
        ∙ ap₂ (λ (m : ℕ) (l : List (List Taken)). entry (get_or ds u no_copy) ∷ (takes (drop m ds) (keep (λ (z : Placement). eqb z.kind i) P) ++ joined l)) (sym more) others
        ∙ ap (λ (l : List Taken). entry (get_or ds u no_copy) ∷ l) r
        ∙ ap (λ (k : ℕ). entry (get_or (copies_by own k) (used done k) no_copy) ∷ taken_on (done ++ (q ∷ [])) P) (sym d)

  by_first : (n i : ℕ) → InOrder n (suc i) → InOrder (suc n) i
  by_first n i f done [] o =
      ap (λ (l : List Taken). l ++ joined (map (part done []) (from (suc i) n))) (takes_none (drop (used done i) (copies_by own i)))
      ∙ f done [] (record { ascend = tt; low = λ r m. absurd (Memᴰ.not-nil m); high = λ r m. absurd (Memᴰ.not-nil m); enough = λ k h l. o.enough k (omega arith) (omega arith) })
  by_first n i f done (q ∷ P) o = go (eqb q.kind i) refl (by_first n i f (done ++ (q ∷ [])) P (orderly_tail n i done q P o))
    where
      go : (b : Bool) → eqb q.kind i ≡ b → joined (map (part (done ++ (q ∷ [])) P) (from i (suc n))) ≡ taken_on (done ++ (q ∷ [])) P
          → joined (map (part done (q ∷ P)) (from i (suc n))) ≡ taken_on done (q ∷ P)
      go true e r = first n i done q P o e r
      go false e r = later n i done q P o e f

  in-order : (n i : ℕ) → InOrder n i
  in-order zero i done [] o = refl
  in-order zero i done (q ∷ P) o = absurd (let h = o.high q (Memᴰ.head refl) in let l = o.low q (Memᴰ.head refl) in omega arith)
  in-order (suc n) i done P o = by_first n i (in-order n (suc i)) done P o

  pub taken_in_order : (kinds : ℕ) (P : List Placement) → T (ascending ahead P) → T (all (λ q. ltb q.kind kinds) P)
      → ((k : ℕ) → k < kinds → used P k ≤ length (copies_by own k)) → taken_by own kinds P ≡ taken_on [] P
  unfolding taken_by used
  taken_in_order kinds P up few enough =
      in-order kinds 0 [] P
      (record {
        ascend = up;
        low = λ r m. omega arith;
        high = λ r m. let l = ltb→lt r.kind kinds (all_at (λ (q : Placement). ltb q.kind kinds) P few m) in omega arith;
        enough = λ k h l. omega (arith, enough k (omega arith));
      })

  -- no copy lies on a cell that no row covers
  pub copy_nowhere : (cell : ℕ) (done qs : List Placement) → ((q : Placement) → Memᴰ q qs → member cell q.cells ≡ false) → copy_on (taken_on done qs) cell ≡ no_copy
  copy_nowhere cell done [] h = copy_nothing cell
  copy_nowhere cell done (q ∷ qs) h =
      copy_past (get_or (copies_by own q.kind) (used done q.kind) no_copy) q.cells (taken_on (done ++ (q ∷ [])) qs) cell (h q (Memᴰ.head refl))
      ∙ copy_nowhere cell (done ++ (q ∷ [])) qs (λ r m. h r (Memᴰ.tail m))

-- ---- an answer's bytes, two a turn
-- two bytes for each of a list of scan numbers, where the copy on each is given
abbrev pub bytes_over : (ℕ → Copy) → List ℕ → List ℕ
bytes_over on scans = pairs (λ n. (on n).piece) (λ n. (on n).copy) scans

module _ (on : ℕ → Copy) (scans old : List ℕ) (at v : ℕ) (long : v ≤ length scans) (fits : at + 2 * v ≤ length old) where
  pub answer_stored : (i : ℕ) → i < v → (answers : List ℕ) → answers ≡ paste old at (bytes_over on (take v scans)) (2 * i)
      → (d : Copied) → as_copy d ≡ on (get_or scans i 0)
      → set (set answers (at + 2 * i) d.piece) (at + 2 * i + 1) d.copy ≡ paste old at (bytes_over on (take v scans)) (2 * (i + 1))
  unfolding as_copy
  answer_stored i h answers e d c =
      let f : ℕ → ℕ = λ n. (on n).piece in
      let g : ℕ → ℕ = λ n. (on n).copy in
      let xs = take v scans in
      let size = length-take-le v scans long in
      let x : get_or xs i 0 ≡ get_or scans i 0 = get_or-take v scans i 0 h in
      let piece : d.piece ≡ f (get_or xs i 0) = ap (λ (y : Copy). y.piece) c ∙ ap f (sym x) in
      let copy : d.copy ≡ g (get_or xs i 0) = ap (λ (y : Copy). y.copy) c ∙ ap g (sym x) in
      ap (λ (l : List ℕ). set (set l (at + 2 * i) d.piece) (at + 2 * i + 1) d.copy) e
      ∙ ap₂ (λ (a b : ℕ). set (set (paste old at (pairs f g xs) (2 * i)) (at + 2 * i) a) (at + 2 * i + 1) b) piece copy
      ∙ pair_stored f g old at xs 0 (omega arith) i (omega arith)

-- ---- an answer's bytes, compared two a turn
-- of a slice as long as an answer for v places, the first 2 i bytes are the answer's
pub record Agreed (told last : List ℕ) (v i : ℕ) : Type 0 where
  pub up_to : i ≤ v
  pub sized : length last ≡ 2 * v
  pub agree : (k : ℕ) → k < 2 * i → get_or last k 0 ≡ get_or told k 0

module _ (on : ℕ → Copy) (scans last : List ℕ) (v : ℕ) (long : v ≤ length scans) where
  abbrev told : List ℕ
  told = bytes_over on (take v scans)

  told_length : length told ≡ 2 * v
  told_length = let a = length_pairs (λ n. (on n).piece) (λ n. (on n).copy) (take v scans) in let b = length-take-le v scans long in omega arith

  told_piece : (i : ℕ) → i < v → (d : Copied) → as_copy d ≡ on (get_or scans i 0) → get_or told (2 * i) 0 ≡ d.piece
  unfolding as_copy
  told_piece i h d c =
      pair_first (λ n. (on n).piece) (λ n. (on n).copy) (take v scans) i 0 (let b = length-take-le v scans long in omega arith)
      ∙ ap (λ (n : ℕ). (on n).piece) (get_or-take v scans i 0 h) ∙ sym (ap (λ (y : Copy). y.piece) c)

  told_copy : (i : ℕ) → i < v → (d : Copied) → as_copy d ≡ on (get_or scans i 0) → get_or told (2 * i + 1) 0 ≡ d.copy
  unfolding as_copy
  told_copy i h d c =
      pair_second (λ n. (on n).piece) (λ n. (on n).copy) (take v scans) i 0 (let b = length-take-le v scans long in omega arith)
      ∙ ap (λ (n : ℕ). (on n).copy) (get_or-take v scans i 0 h) ∙ sym (ap (λ (y : Copy). y.copy) c)

  pub agreed_more : (i : ℕ) → Agreed told last v i → i < v → (d : Copied) → as_copy d ≡ on (get_or scans i 0)
      → get_or last (2 * i) 0 ≡ d.piece → get_or last (2 * i + 1) 0 ≡ d.copy → Agreed told last v (i + 1)
  agreed_more i a h d c p q =
      record {
        up_to = omega arith;
        sized = a.sized;
        agree = λ k l. below_more Same (2 * i + 1) (below_more Same (2 * i) a.agree (p ∙ sym (told_piece i h d c))) (q ∙ sym (told_copy i h d c)) k (omega arith);
      }
    where
      Same : ℕ → Type 0
      Same k = get_or last k 0 ≡ get_or told k 0

  apart : (xs ys : List ℕ) → (xs ≡ ys → ⊥) → false ≡ same xs ys
  apart xs ys f = sym (is_false (same xs ys) (λ t. f (same→eq xs ys t)))

  pub sizes_apart : (length last ≡ 2 * v → ⊥) → false ≡ same told last
  sizes_apart f = apart told last (λ e. f (sym (ap length e) ∙ told_length))

  pub pieces_apart : (i : ℕ) → i < v → (d : Copied) → as_copy d ≡ on (get_or scans i 0) → (get_or last (2 * i) 0 ≡ d.piece → ⊥) → false ≡ same told last
  pieces_apart i h d c f = apart told last (λ e. f (sym (ap (λ (l : List ℕ). get_or l (2 * i) 0) e) ∙ told_piece i h d c))

  pub copies_apart : (i : ℕ) → i < v → (d : Copied) → as_copy d ≡ on (get_or scans i 0) → (get_or last (2 * i + 1) 0 ≡ d.copy → ⊥) → false ≡ same told last
  copies_apart i h d c f = apart told last (λ e. f (sym (ap (λ (l : List ℕ). get_or l (2 * i + 1) 0) e) ∙ told_copy i h d c))

  pub agreed_all : (i : ℕ) → Agreed told last v i → v ≤ i → true ≡ same told last
  agreed_all i a h =
      let n = told_length in
      let e : last ≡ told = ext_get_or 0 last told (a.sized ∙ sym n) (λ k l. a.agree k (let s = a.sized in omega arith)) in
      sym (is_true (same told last) (subst (λ (l : List ℕ). T (same told l)) (sym e) (same_refl told)))
