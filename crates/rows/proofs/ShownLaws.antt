-- A row of a packing is shown by the packing's answer, on each of its cells by one copy of a piece of its kind; and what an answer shows on the cells of
-- the board, found cell by cell. Assumes nothing.
use Prim.Native.Nat.{ℕ, suc, ◌+◌, ◌*◌, ◌≤◌, ◌<◌}
use mathlib.Core.Bool.{Bool, true, false, cond, ◌&&◌}
use mathlib.Core.List.Memᴰ
use mathlib.Core.List.{List, [], ◌∷◌, map, Memᴰ}
use mathlib.Core.Logic.{◌⊎◌, inl, inr}
use mathlib.Core.Path.{◌≡◌, refl, sym, ap, ap₂, ◌∙◌, subst}
use native.Mathlib.Omega.{arith}
use borrow.Author.Tests.{eqb-true, eqb-false}
use lib.Dec.{T, eqb, ltb, eqb→eq, eqb_refl, ltb→lt, lt→ltb}
use lib.ListN.{length, get_or, length-map}
use Rattle.lists.specs.Lists.{all, before, below, head_or, keep, member, numbered, same}
use Rattle.lists.proofs.TestLaws.{and_left, and_right, and_both, is_true, is_false, holds, eqb_of, tests_same}
use Rattle.lists.proofs.ListLaws.{all_at, all_of, keep_at, keep_of, keep_same, joined_at, joined_of}
use Rattle.lists.proofs.SortLaws.{same→eq, same_refl}
use Rattle.lists.proofs.RangeLaws.{below_at, below_of, length_below, member_at, member_of, get_or_of}
use Rattle.lists.proofs.CountLaws.{how_many_length}
use Rattle.lists.proofs.NthLaws.{nth_below, numbered_at, nth_value}
use Rattle.definitions.specs.Kinds.{Copy}
use Rattle.definitions.specs.Placements.{Placement}
use Rattle.definitions.specs.Packing.{used}
use Rattle.definitions.specs.Answers.{Taken, takes, copy_on}
use Rattle.masks.specs.Masks.{has}
use Rattle.masks.specs.declared.Mask.{Mask}
use Rattle.rows.specs.Rows.{cells_of, mask_at, row_at}
use Rattle.rows.specs.Charts.{nothing_owned}
use Rattle.rows.specs.Systems.{System, owned_in}
use Rattle.rows.specs.declared.chart.Owned.{Owned}
use Rattle.rows.specs.Answering.{no_copy, copies_if, copies_by, taken_by, answers_over, answer_by}
use Rattle.rows.specs.Lawful.{Lawful}
use Rattle.rows.specs.Shown.{Shown, shows_row}
use Rattle.rows.proofs.PairLaws.{pair_first, pair_second}
use Rattle.rows.proofs.AnsweringLaws.{in-mask}

-- ---- the place of a cell
before_found : (n : ℕ) (xs : List ℕ) → Memᴰ n xs → (before (eqb n) xs < length xs) × (get_or xs (before (eqb n) xs) 0 ≡ n)
before_found n [] m = absurd (Memᴰ.not-nil m)
before_found n (x ∷ xs) m = go (eqb n x) refl (Memᴰ.cases_cons m) (λ (k : Memᴰ n xs). before_found n xs k)
  where
    go : (b : Bool) → eqb n x ≡ b → (n ≡ x) ⊎ Memᴰ n xs → (Memᴰ n xs → (before (eqb n) xs < length xs) × (get_or xs (before (eqb n) xs) 0 ≡ n))
        → (cond b 0 (suc (before (eqb n) xs)) < suc (length xs)) × (get_or (x ∷ xs) (cond b 0 (suc (before (eqb n) xs))) 0 ≡ n)
    go true e k f = (omega arith, sym (eqb-true n x e))
    go false e (inl k) f = absurd (eqb-false n x e k)
    go false e (inr k) f = let r = f k in (omega arith, r.1)

-- ---- a row shown by one copy, cell by cell
-- the cells of a mask before cell c show a copy of a piece
pub record ShownTo (mask : Mask) (shown : List ℕ) (piece copy c : ℕ) : Type 0 where
  pub up_to : c ≤ 128
  pub is_cell : c < 128 → has mask c ≡ true
  pub each : (k : ℕ) → k < c → has mask k ≡ true → (get_or shown (2 * k) 0 ≡ piece) × (get_or shown (2 * k + 1) 0 ≡ copy)

-- whether a row is shown, by the copy that its first cell shows
module _ (own : List Owned) (shown : List ℕ) (q : Placement) (piece copy : ℕ) (first : piece ≡ get_or shown (2 * q.p) 0) (second : copy ≡ get_or shown (2 * q.p + 1) 0) where
  abbrev on_cell : ℕ → Bool
  on_cell c = eqb (get_or shown (2 * c) 0) piece && eqb (get_or shown (2 * c + 1) 0) copy

  abbrev of_kind : Bool
  of_kind = eqb (get_or own piece nothing_owned).kind q.kind

  shows_is : shows_row own shown q ≡ (ltb piece (length own) && (of_kind && all on_cell q.cells))
  unfolding shows_row
  shows_is =
      ap₂ (λ (i j : ℕ). ltb i (length own) && (eqb (get_or own i nothing_owned).kind q.kind && all (λ c. eqb (get_or shown (2 * c) 0) i && eqb (get_or shown (2 * c + 1) 0) j) q.cells))
      (sym first) (sym second)

  not_shown : (T (ltb piece (length own)) → T of_kind → T (all on_cell q.cells) → ⊥) → shows_row own shown q ≡ false
  not_shown f =
      let p = ltb piece (length own) in
      let cs = all on_cell q.cells in
      shows_is ∙ is_false (p && (of_kind && cs)) (λ t. let u = and_right p (of_kind && cs) t in f (and_left p (of_kind && cs) t) (and_left of_kind cs u) (and_right of_kind cs u))

  not_on : (c : ℕ) → Memᴰ c q.cells → (T (on_cell c) → ⊥) → shows_row own shown q ≡ false
  not_on c m f = not_shown (λ t u v. f (all_at on_cell q.cells v m))

  is-shown : piece < length own → (get_or own piece nothing_owned).kind ≡ q.kind
      → ((c : ℕ) → Memᴰ c q.cells → (get_or shown (2 * c) 0 ≡ piece) × (get_or shown (2 * c + 1) 0 ≡ copy)) → shows_row own shown q ≡ true
  is-shown h e f =
      let p = ltb piece (length own) in
      let cs = all on_cell q.cells in
      let on = all_of on_cell q.cells (λ c m. let r = f c m in and_both (eqb (get_or shown (2 * c) 0) piece) (eqb (get_or shown (2 * c + 1) 0) copy) (eqb_of r.0) (eqb_of r.1)) in
      shows_is ∙ is_true (p && (of_kind && cs)) (and_both p (of_kind && cs) (lt→ltb piece (length own) h) (and_both of_kind cs (eqb_of e) on))

-- the same of row r of the work slice, whose first cell is p, and the pieces of a slice
module _ (work : List ℕ) (pieces : List Owned) (shown : List ℕ) (n r p : ℕ) (e : p ≡ (row_at work r).p) where
  abbrev own : List Owned
  own = owned_in pieces n

  -- the copy that its first cell shows
  abbrev piece : ℕ
  piece = get_or shown (2 * p) 0

  abbrev copy : ℕ
  copy = get_or shown (2 * p + 1) 0

  first : piece ≡ get_or shown (2 * (row_at work r).p) 0
  first = ap (λ (c : ℕ). get_or shown (2 * c) 0) e

  second : copy ≡ get_or shown (2 * (row_at work r).p + 1) 0
  second = ap (λ (c : ℕ). get_or shown (2 * c + 1) 0) e

  abbrev row : Placement
  row = row_at work r

  own_length : length own ≡ n
  unfolding owned_in
  own_length = length-map (below n) _ ∙ length_below n

  own_kind : piece < n → (get_or own piece nothing_owned).kind ≡ (get_or pieces piece nothing_owned).kind
  unfolding owned_in
  own_kind h =
      ap (λ (o : Owned). o.kind) (get_or_of (λ i. get_or pieces i nothing_owned) nothing_owned 0 n piece h)
      ∙ ap (λ (k : ℕ). (get_or pieces k nothing_owned).kind) {x = 0 + piece} {y = piece} (omega arith)

  pub no_piece : n ≤ piece → false ≡ shows_row own shown row
  no_piece h = sym (not_shown own shown row piece copy first second (λ t u v. let l = ltb→lt piece (length own) t in let e = own_length in omega arith))

  pub no_kind : piece < n → ((get_or pieces piece nothing_owned).kind ≡ row.kind → ⊥) → false ≡ shows_row own shown row
  no_kind h f = sym (not_shown own shown row piece copy first second (λ t u v. f (sym (own_kind h) ∙ eqb→eq (get_or own piece nothing_owned).kind row.kind u)))

  module _ (mask : Mask) (is : mask ≡ mask_at work r) where
    no_cell : (c : ℕ) → c < 128 → has mask c ≡ true → (T (on_cell own shown row piece copy first second c) → ⊥) → false ≡ shows_row own shown row
    no_cell c h e f =
        sym (not_on own shown row piece copy first second c
        (member_at c row.cells (holds (member c row.cells) (in-mask work r c h ∙ ap (λ (m : Mask). has m c) (sym is) ∙ e))) f)

    pub other_piece : (c : ℕ) → c < 128 → has mask c ≡ true → (get_or shown (2 * c) 0 ≡ piece → ⊥) → false ≡ shows_row own shown row
    other_piece c h e f = no_cell c h e (λ t. f (eqb→eq (get_or shown (2 * c) 0) piece (and_left (eqb (get_or shown (2 * c) 0) piece) (eqb (get_or shown (2 * c + 1) 0) copy) t)))

    pub other_copy : (c : ℕ) → c < 128 → has mask c ≡ true → (get_or shown (2 * c + 1) 0 ≡ copy → ⊥) → false ≡ shows_row own shown row
    other_copy c h e f = no_cell c h e (λ t. f (eqb→eq (get_or shown (2 * c + 1) 0) copy (and_right (eqb (get_or shown (2 * c) 0) piece) (eqb (get_or shown (2 * c + 1) 0) copy) t)))

    each_on : (c : ℕ) → ShownTo mask shown piece copy c → 128 ≤ c → (k : ℕ) → Memᴰ k row.cells → (get_or shown (2 * k) 0 ≡ piece) × (get_or shown (2 * k + 1) 0 ≡ copy)
    unfolding row_at cells_of
    each_on c s l k m =
        let x = keep_at (has (mask_at work r)) (below 128) m in
        s.each k (let z = below_at 128 x.0 in omega arith) (ap (λ (m : Mask). has m k) is ∙ is_true (has (mask_at work r) k) x.1)

    pub all_shown : piece < n → (get_or pieces piece nothing_owned).kind ≡ row.kind → (c : ℕ) → ShownTo mask shown piece copy c → 128 ≤ c → true ≡ shows_row own shown row
    all_shown h e c s l = sym (is-shown own shown row piece copy first second (let k = own_length in omega arith) (own_kind h ∙ e) (each_on c s l))

-- ---- what the rows of a packing take
takes_at : (ds : List Copy) (qs : List Placement) {t : Taken} → Memᴰ t (takes ds qs) → (x : Placement) × Memᴰ x qs × (t.cells ≡ x.cells) × Memᴰ t.copy ds
takes_at [] qs m = absurd (Memᴰ.not-nil m)
takes_at (d ∷ ds) [] m = absurd (Memᴰ.not-nil m)
takes_at (d ∷ ds) (q ∷ qs) {t} m = go (Memᴰ.cases_cons m) (λ (k : Memᴰ t (takes ds qs)). takes_at ds qs k)
  where
    go : (t ≡ record { copy = d; cells = q.cells }) ⊎ Memᴰ t (takes ds qs) → (Memᴰ t (takes ds qs) → (x : Placement) × Memᴰ x qs × (t.cells ≡ x.cells) × Memᴰ t.copy ds)
        → (x : Placement) × Memᴰ x (q ∷ qs) × (t.cells ≡ x.cells) × Memᴰ t.copy (d ∷ ds)
    go (inl e) f = (q, Memᴰ.head refl, ap (λ (x : Taken). x.cells) e, Memᴰ.head (ap (λ (x : Taken). x.copy) e))
    go (inr k) f = let r = f k in (r.0, Memᴰ.tail r.1, r.2, Memᴰ.tail r.3)

takes_of : (ds : List Copy) (qs : List Placement) {q : Placement} → length qs ≤ length ds → Memᴰ q qs → (t : Taken) × Memᴰ t (takes ds qs) × (t.cells ≡ q.cells)
takes_of [] [] h m = absurd (Memᴰ.not-nil m)
takes_of [] (x ∷ qs) h m = absurd (omega arith)
takes_of (d ∷ ds) [] h m = absurd (Memᴰ.not-nil m)
takes_of (d ∷ ds) (x ∷ qs) {q} h m = go (Memᴰ.cases_cons m) (λ (k : Memᴰ q qs). takes_of ds qs (omega arith) k)
  where
    go : (q ≡ x) ⊎ Memᴰ q qs → (Memᴰ q qs → (t : Taken) × Memᴰ t (takes ds qs) × (t.cells ≡ q.cells))
        → (t : Taken) × Memᴰ t (takes (d ∷ ds) (x ∷ qs)) × (t.cells ≡ q.cells)
    go (inl e) f = (record { copy = d; cells = x.cells }, Memᴰ.head refl, ap (λ (z : Placement). z.cells) (sym e))
    go (inr k) f = let r = f k in (r.0, Memᴰ.tail r.1, r.2)

-- a copy of a kind is one of a piece of the kind
copies_at : (own : List Owned) (k : ℕ) {d : Copy} → Memᴰ d (copies_by own k) → (d.piece < length own) × ((get_or own d.piece nothing_owned).kind ≡ k)
unfolding copies_by
copies_at own k {d} m =
    let r = joined_at (numbered own (λ i q. copies_if (eqb q.kind k) i q.count)) m in
    let x = numbered_at (λ (i : ℕ) (q : Owned). copies_if (eqb q.kind k) i q.count) 0 own r.1 in
    let y = at (eqb x.1.kind k) (x.0 + 0) x.1.count (subst (λ (l : List Copy). Memᴰ d l) x.3 r.2) in
    let e : d.piece ≡ x.0 = let p = y.1 in omega arith in
    let l = nth_below own x.0 x.1 x.2 in
    (omega arith, ap (λ (i : ℕ). (get_or own i nothing_owned).kind) e ∙ ap (λ (o : Owned). o.kind) (nth_value own x.0 x.1 nothing_owned x.2) ∙ eqb→eq x.1.kind k y.0)
  where
    at : (b : Bool) (i n : ℕ) → Memᴰ d (copies_if b i n) → T b × (d.piece ≡ i)
    at true i n l = let z = Memᴰ.of_map (λ (j : ℕ). record { piece = i; copy = j }) (below n) l in (tt, sym (ap (λ (c : Copy). c.piece) z.2))
    at false i n l = absurd (Memᴰ.not-nil l)

module _ (own : List Owned) (kinds : ℕ) (P : List Placement) where
  abbrev kind_rows : ℕ → List Placement
  kind_rows k = keep (λ x. eqb x.kind k) P

  taken_at : {t : Taken} → Memᴰ t (taken_by own kinds P) → (x : Placement) × Memᴰ x P × (t.cells ≡ x.cells) × Memᴰ t.copy (copies_by own x.kind)
  unfolding taken_by
  taken_at {t} m =
      let r = joined_at (map (λ k. takes (copies_by own k) (kind_rows k)) (below kinds)) m in
      let y = Memᴰ.of_map (λ (k : ℕ). takes (copies_by own k) (kind_rows k)) (below kinds) r.1 in
      let k = y.0 in
      let x = takes_at (copies_by own k) (kind_rows k) (subst (λ (l : List Taken). Memᴰ t l) (sym y.2) r.2) in
      let z = keep_at (λ (w : Placement). eqb w.kind k) P x.1 in
      (x.0, z.0, x.2, subst (λ (i : ℕ). Memᴰ t.copy (copies_by own i)) (sym (eqb→eq x.0.kind k z.1)) x.3)

  taken_of : {q : Placement} → Memᴰ q P → q.kind < kinds → used P q.kind ≤ length (copies_by own q.kind) → (t : Taken) × Memᴰ t (taken_by own kinds P) × (t.cells ≡ q.cells)
  unfolding taken_by used
  taken_of {q} m h enough =
      let u = how_many_length (λ (x : Placement). eqb x.kind q.kind) P in
      let t = takes_of (copies_by own q.kind) (kind_rows q.kind) (omega arith) (keep_of (λ (x : Placement). eqb x.kind q.kind) P m (eqb_refl q.kind)) in
      (t.0, joined_of (map (λ k. takes (copies_by own k) (kind_rows k)) (below kinds)) (Memᴰ.map (λ (k : ℕ). takes (copies_by own k) (kind_rows k)) (below_of kinds h)) t.1, t.2)

-- ---- one copy on all cells of a row
-- the first entry, of a list that has one
head_in : (xs : List Taken) {t : Taken} → Memᴰ t xs → (x : Taken) × Memᴰ x xs × (head_or no_copy (map (λ z. z.copy) xs) ≡ x.copy)
head_in [] m = absurd (Memᴰ.not-nil m)
head_in (x ∷ xs) m = (x, Memᴰ.head refl, refl)

module _ (s : System) (law : Lawful s) (P : List Placement) (q : Placement) (m : Memᴰ q P) (is_row : Memᴰ q s.rows)
    (alone : (x : Placement) → Memᴰ x P → (c : ℕ) → Memᴰ c q.cells → Memᴰ c x.cells → x ≡ q)
    (enough : used P q.kind ≤ length (copies_by s.pieces q.kind)) where
  abbrev ts : List Taken
  ts = taken_by s.pieces (length s.copies) P

  -- those that lie on the row's cells
  abbrev those : List Taken
  those = keep (λ t. same t.cells q.cells) ts

  abbrev the_copy : Copy
  the_copy = head_or no_copy (map (λ t. t.copy) those)

  copy-on : (c : ℕ) → Memᴰ c q.cells → copy_on ts c ≡ the_copy
  unfolding copy_on
  copy-on c k = ap (λ (xs : List Taken). head_or no_copy (map (λ t. t.copy) xs)) (keep_same (λ (t : Taken). member c t.cells) (λ t. same t.cells q.cells) ts alike)
    where
      alike : (t : Taken) → Memᴰ t ts → member c t.cells ≡ same t.cells q.cells
      alike t h =
          let x = taken_at s.pieces (length s.copies) P h in
          tests_same (member c t.cells) (same t.cells q.cells)
          (λ u. let e = alone x.0 x.1 c k (subst (λ (l : List ℕ). Memᴰ c l) x.2 (member_at c t.cells u)) in
          subst (λ (l : List ℕ). T (same t.cells l)) (x.2 ∙ ap (λ (z : Placement). z.cells) e) (same_refl t.cells))
          (λ u. member_of t.cells (subst (λ (l : List ℕ). Memᴰ c l) (sym (same→eq t.cells q.cells u)) k))

  copy-is : Memᴰ the_copy (copies_by s.pieces q.kind)
  copy-is =
      let t = taken_of s.pieces (length s.copies) P m (law.row q is_row).of_kind enough in
      let test : Taken → Bool = λ z. same z.cells q.cells in
      let h = head_in those (keep_of test ts t.1 (subst (λ (l : List ℕ). T (same t.0.cells l)) t.2 (same_refl t.0.cells))) in
      let y = keep_at test ts h.1 in
      let x = taken_at s.pieces (length s.copies) P y.0 in
      let p = (law.row q is_row).covers_p in
      let e = alone x.0 x.1 q.p p (subst (λ (l : List ℕ). Memᴰ q.p l) (sym (same→eq h.0.cells q.cells y.1) ∙ x.2) p) in
      Memᴰ.cast h.2 (subst (λ (z : Placement). Memᴰ h.0.copy (copies_by s.pieces z.kind)) e x.3)

  module _ (last shown : List ℕ) (sh : Shown s.size s.scans last shown) (is : answer_by s P ≡ last) where
    on-cell : (c : ℕ) → Memᴰ c q.cells → (get_or shown (2 * c) 0 ≡ the_copy.piece) × (get_or shown (2 * c + 1) 0 ≡ the_copy.copy)
    unfolding answer_by answers_over
    on-cell c k =
        let h = (law.row q is_row).on_board c k in
        let i = before (eqb c) s.scans in
        let at = before_found c s.scans (law.scanned c h) in
        let f : ℕ → ℕ = λ n. (copy_on ts n).piece in
        let g : ℕ → ℕ = λ n. (copy_on ts n).copy in (
          sh.piece c h ∙ ap (λ (l : List ℕ). get_or l (2 * i) 0) (sym is) ∙ pair_first f g s.scans i 0 at.0 ∙ ap f at.1 ∙ ap (λ (d : Copy). d.piece) (copy-on c k),
          sh.copy c h ∙ ap (λ (l : List ℕ). get_or l (2 * i + 1) 0) (sym is) ∙ pair_second f g s.scans i 0 at.0 ∙ ap g at.1 ∙ ap (λ (d : Copy). d.copy) (copy-on c k),
        )

    shows : shows_row s.pieces shown q ≡ true
    shows =
        let p = on-cell q.p (law.row q is_row).covers_p in
        let d = copies_at s.pieces q.kind copy-is in
        is-shown s.pieces shown q the_copy.piece the_copy.copy (sym p.0) (sym p.1) d.0 d.1 on-cell

-- a row of a packing is shown by the packing's answer
pub answer_shows : (s : System) → Lawful s → (P : List Placement) (q : Placement) → Memᴰ q P → Memᴰ q s.rows
    → (alone : (x : Placement) → Memᴰ x P → (c : ℕ) → Memᴰ c q.cells → Memᴰ c x.cells → x ≡ q)
    → (enough : used P q.kind ≤ length (copies_by s.pieces q.kind))
    → (last shown : List ℕ) → Shown s.size s.scans last shown → answer_by s P ≡ last → shows_row s.pieces shown q ≡ true
answer_shows s law P q m is_row alone enough last shown sh is = shows s law P q m is_row alone enough last shown sh is
