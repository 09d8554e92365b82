-- While an answer is waited for, a row that the answer does not show may be passed over: the rows found with it share no cell with it and are of no kind more
-- than there are copies, so that their answer would show it; so none of them has the answer that is waited for, and none changes the page. Assumes nothing.
use Prim.Native.Nat.{ℕ, zero, suc, ◌+◌, ◌-◌, ◌≤◌, ◌<◌}
use mathlib.Core.Bool.{Bool, true, false, cond, true≢false}
use mathlib.Core.List.Memᴰ
use mathlib.Core.List.{List, [], ◌∷◌, ◌++◌, map, Memᴰ}
use mathlib.Core.Logic.{◌⊎◌, inl, inr}
use mathlib.Core.Path.{◌≡◌, refl, sym, ap, ◌∙◌, subst}
use native.Mathlib.Omega.{arith}
use borrow.Author.Tests.{eqb-true, eq-eqb, ne_eqb}
use lib.Dec.{eqb}
use lib.ListN.{length, get_or, length-append, length-map}
use Rattle.lists.specs.Lists.{cons_if, keep, same}
use Rattle.lists.proofs.TestLaws.{is_false, by_eq, both_left}
use Rattle.lists.proofs.ListLaws.{keep_same, keep_append, keep_map}
use Rattle.lists.proofs.SortLaws.{same→eq}
use Rattle.lists.proofs.CountLaws.{how_many_length}
use Rattle.definitions.specs.Placements.{Placement}
use Rattle.definitions.specs.Packing.{used}
use Rattle.definitions.specs.Kept.{Identify}
use Rattle.definitions.specs.Emission.{Emitted, Listed}
use Rattle.theorems.proofs.EmissionLaws.{emits_one, emits_unmet}
use Rattle.rows.specs.Systems.{System}
use Rattle.rows.specs.Lawful.{Lawful}
use Rattle.rows.specs.Answering.{copies_by}
use Rattle.rows.specs.Shown.{Shown, shows_row}
use Rattle.rows.proofs.ShownLaws.{answer_shows}
use Rattle.kept.specs.Normal.{row_of, of_kind, normal, sort_rows}
use Rattle.kept.specs.Emission.{emit_kept, entry_of}
use Rattle.kept.specs.Entries.{entry_by}
use Rattle.kept.proofs.SortingLaws.{sort_keep, sort_rows_at, sort_rows_of}
use Rattle.kept.proofs.NormalRowLaws.{row_of_in}
use Rattle.links.specs.Links.{down, Matrix}
use Rattle.links.specs.Cover.{Reduced, tally, here, alive_run}
use Rattle.links.specs.Search.{Seek, At, select, spend, first_covered, pivot}
use Rattle.links.specs.Packings.{rows_from, exact_covers}
use Rattle.links.proofs.Search.{sel_alive, sel_seek, try_live}
use Rattle.knuth.specs.Matrix.{columns, matrix_of}
use Rattle.knuth.specs.Listing.{Chosen, emit_all, found_rows, knuth_rows}
use Rattle.knuth.proofs.MatrixLaws.{cols_are, row_lawful}
use Rattle.knuth.proofs.ChosenLaws.{node_in, row_node, kind_column, kind_more, spend_kind, spend_other, was_live, select_clear}
use Rattle.knuth.proofs.KnuthFoundLaws.{cond_at, list_at}
use Rattle.knuth.proofs.CycleLaws.{put_append, next_rows}

-- ---- what is found below a reduced matrix: nodes of rows that are possible there, and of no kind more than it has copies
abbrev of_column : Matrix → ℕ → List ℕ → ℕ
of_column t j ks = length (keep (λ x. eqb (t.col (t.lo x)) j) ks)

record Within (t : Matrix) (alive : ℕ → Bool) (copies : ℕ → ℕ) (ks : List ℕ) : Type 0 where
  live : (x : ℕ) → Memᴰ x ks → alive x ≡ true
  few : (j : ℕ) → of_column t j ks ≤ copies j

found_within : (g : ℕ) {w : Reduced} {uncovered : ℕ → Bool} {copies : ℕ → ℕ} {cells left : ℕ} {m : List ℕ} → Seek w uncovered copies cells left m
    → (ks : List ℕ) → Memᴰ ks (exact_covers w.t cells g w.alive copies left) → Within w.t w.alive copies ks
unfolding exact_covers rows_from here
found_within zero seek ks i = absurd (Memᴰ.not-nil i)
found_within (suc g) {w} {uncovered} {copies} {cells} {left} {m} seek ks i =
    go (cond_at (eqb left 0) (eqb c 4096) (rows_from w.t (exact_covers w.t cells g) w.alive copies left c 0) i)
    (λ k lk js j. found_within g (sel_seek seek k lk) js j)
  where
    c : ℕ
    c = pivot (λ j. tally (here w.t w.alive j) w.t.nodes) cells

    below : (ℕ → Bool) → ℕ → List (List ℕ)
    below alive k = exact_covers w.t cells g alive (spend w.t copies k) (left - (w.t.hi k - w.t.lo k - 1))

    run : ℕ → ℕ → Bool
    run k = alive_run w.t w.alive (first_covered w.t copies k) (w.t.hi k - first_covered w.t copies k)

    more : (k : ℕ) (js : List ℕ) → w.alive k ≡ true → Within w.t (run k) (spend w.t copies k) js → Within w.t w.alive copies (k ∷ js)
    more k js lk d = record { live = λ x j. at x (Memᴰ.cases_cons j); few = λ j. one j (eqb (w.t.col (w.t.lo k)) j) refl (d.few j) }
      where
        at : (x : ℕ) → (x ≡ k) ⊎ Memᴰ x js → w.alive x ≡ true
        at x (inl e) = ap w.alive e ∙ lk
        at x (inr j) = was_live w.t w.alive copies k x (ap (λ (f : ℕ → Bool). f x) (sym (sel_alive seek k lk)) ∙ d.live x j)

        one : (j : ℕ) (b : Bool) → eqb (w.t.col (w.t.lo k)) j ≡ b → of_column w.t j js ≤ spend w.t copies k j → length (cons_if b k (keep (λ x. eqb (w.t.col (w.t.lo x)) j) js)) ≤ copies j
        one j true e h =
            let f = eqb-true (w.t.col (w.t.lo k)) j e in
            let a = spend_kind w.t copies k j (sym f) in
            let b : 1 ≤ copies j = subst (λ (n : ℕ). 1 ≤ copies n) f (seek.stock k lk) in
            omega arith
        one j false e h =
            by_eq j (w.t.col (w.t.lo k))
            (λ f. let a = spend_kind w.t copies k j f in omega arith)
            (λ f. let a = spend_other w.t copies k j f in omega arith)

    go : (ks ≡ []) ⊎ Memᴰ ks (rows_from w.t (exact_covers w.t cells g) w.alive copies left c 0)
        → ((k : ℕ) → w.alive k ≡ true → (js : List ℕ) → Memᴰ js (below (run k) k) → Within w.t (run k) (spend w.t copies k) js) → Within w.t w.alive copies ks
    go (inl e) again = subst (Within w.t w.alive copies) (sym e) (record { live = λ x j. absurd (Memᴰ.not-nil j); few = λ j. omega arith })
    go (inr j) again =
        let x = list_at (λ k. map (λ ks. k ∷ ks) (below (select w.t w.alive copies k) k)) (here w.t w.alive c) (w.t.nodes - 0) 0 j in
        let k = x.0 in
        let lk = both_left (w.alive k) (eqb (w.t.col k) c) x.1 in
        let y = Memᴰ.of_map (λ ks. k ∷ ks) (below (select w.t w.alive copies k) k) x.2 in
        subst (Within w.t w.alive copies) y.2 (more k y.0 lk (again k lk y.0 (subst (λ (f : ℕ → Bool). Memᴰ y.0 (below f k)) (sym (sel_alive seek k lk)) y.1)))

-- ---- a list whose answer is none that is waited for
module _ (s : System) (i : Identify) (capacity : ℕ) (e : Emitted) (waits : e.waiting ≡ true) where
  unmet_kept : (rs : List ℕ) → ((entry_of s rs).answer ≡ e.last → ⊥) → emit_kept s i capacity rs e ≡ e
  unfolding emit_kept
  unmet_kept rs f =
      go (normal s i (sort_rows rs)) (sym (emits_one capacity e (entry_of s rs)) ∙ emits_unmet capacity (entry_of s rs ∷ []) e waits others)
    where
      others : (x : Listed) → Memᴰ x (entry_of s rs ∷ []) → same x.answer e.last ≡ false
      others x m =
          let is : (entry_of s rs).answer ≡ x.answer = ap (λ (y : Listed). y.answer) (sym (Memᴰ.eq_of_singleton m)) in
          is_false (same x.answer e.last) (λ t. f (is ∙ same→eq x.answer e.last t))

      go : (b : Bool) {next : Emitted} → next ≡ e → cond b next e ≡ e
      go true h = h
      go false h = refl

  unmet_all : (rs : List ℕ) (kss : List (List ℕ)) → ((ks : List ℕ) → Memᴰ ks kss → (entry_of s (rs ++ map (matrix_of s).row ks)).answer ≡ e.last → ⊥)
      → emit_all s i capacity (found_rows s rs kss) e ≡ e
  unfolding emit_all found_rows
  unmet_all rs [] f = refl
  unmet_all rs (ks ∷ kss) f =
      ap (emit_all s i capacity (found_rows s rs kss)) (unmet_kept (rs ++ map (matrix_of s).row ks) (f ks (Memᴰ.head refl)))
      ∙ unmet_all rs kss (λ js m. f js (Memᴰ.tail m))

-- ---- the rows of a packing, by their numbers in any order
used_rows : (s : System) (k : ℕ) (rs : List ℕ) → used (map (row_of s) (sort_rows rs)) k ≡ length (of_kind s k rs)
unfolding used of_kind
used_rows s k rs =
    how_many_length (λ (q : Placement). eqb q.kind k) (map (row_of s) (sort_rows rs))
    ∙ ap length (keep_map (row_of s) (λ (q : Placement). eqb q.kind k) (sort_rows rs))
    ∙ length-map (keep (λ r. eqb (row_of s r).kind k) (sort_rows rs)) (row_of s)
    ∙ sort_keep (λ r. eqb (row_of s r).kind k) rs

-- ---- what is found with the row of k
module _ (s : System) (law : Lawful s) {w : Reduced} {uncovered : ℕ → Bool} {copies : ℕ → ℕ} {left : ℕ} {m : List ℕ}
    (seek : Seek w uncovered copies s.size left m) (is_t : w.t ≡ matrix_of s) {k : ℕ} (live : w.alive k ≡ true)
    {v : Reduced} {uncovered' : ℕ → Bool} {copies' : ℕ → ℕ} (seek' : Seek v uncovered' copies' s.size left m) (live' : v.alive k ≡ true) {rs : List ℕ} (h : Chosen s v copies' left rs) where
  abbrev r : ℕ
  r = (matrix_of s).row k

  abbrev kind : ℕ
  kind = (row_of s ((matrix_of s).row k)).kind

  abbrev found : ℕ → List (List ℕ)
  found g = exact_covers w.t s.size g (select w.t w.alive copies k) (spend w.t copies k) (left - (w.t.hi k - w.t.lo k - 1))

  of-kind : kind < length s.copies
  of-kind = let n = node_in s seek is_t k live in (row_lawful s law k n.0 n.1).of_kind

  -- as many copies are left in both matrices, since memory says how many
  same_copies : copies (s.size + kind) ≡ copies' (s.size + kind)
  unfolding columns
  same_copies =
      let a = of-kind in
      let e : w.t.cols ≡ s.size + length s.copies = ap (λ (t : Matrix). t.cols) is_t ∙ cols_are s in
      let f : v.t.cols ≡ s.size + length s.copies = ap (λ (t : Matrix). t.cols) h.is_matrix ∙ cols_are s in
      sym (seek.held (s.size + kind) (omega arith)) ∙ seek'.held (s.size + kind) (omega arith)

  module _ (g : ℕ) (ks : List ℕ) (i : Memᴰ ks (found g)) where
    within : Within w.t (select w.t w.alive copies k) (spend w.t copies k) ks
    within =
        subst (λ (f : ℕ → Bool). Within w.t f (spend w.t copies k) ks) (sel_alive seek k live)
        (found_within g (sel_seek seek k live) ks
        (subst (λ (f : ℕ → Bool). Memᴰ ks (exact_covers w.t s.size g f (spend w.t copies k) (left - (w.t.hi k - w.t.lo k - 1)))) (sym (sel_alive seek k live)) i))

    abbrev rows : List ℕ
    rows = (rs ++ (r ∷ [])) ++ map (matrix_of s).row ks

    was : (x : ℕ) → Memᴰ x ks → w.alive x ≡ true
    was x j = was_live w.t w.alive copies k x (within.live x j)

    -- no other of the rows shares a cell with row r
    alone : (z : ℕ) → Memᴰ z rows → (n : ℕ) → Memᴰ n (row_of s r).cells → Memᴰ n (row_of s z).cells → row_of s z ≡ row_of s r
    alone z j n a b = go (Memᴰ.append_cases (rs ++ (r ∷ [])) j)
      where
        before : Memᴰ z rs ⊎ Memᴰ z (r ∷ []) → row_of s z ≡ row_of s r
        before (inl o) = absurd (h.clear k live' z o n b a)
        before (inr o) = ap (row_of s) (Memᴰ.eq_of_singleton o)

        later : (x : ℕ) × Memᴰ x ks × ((matrix_of s).row x ≡ z) → ⊥
        later x =
            let l = was x.0 x.1 in
            let c = node_in s seek is_t k live in
            let d = node_in s seek is_t x.0 l in
            select_clear s law w.alive copies k x.0 c.0 c.1 d.0 d.1 (subst (λ (t : Matrix). select t w.alive copies k x.0 ≡ true) is_t (within.live x.0 x.1)) n a
            (subst (λ (y : ℕ). Memᴰ n (row_of s y).cells) (sym x.2) b)

        go : Memᴰ z (rs ++ (r ∷ [])) ⊎ Memᴰ z (map (matrix_of s).row ks) → row_of s z ≡ row_of s r
        go (inl o) = before (Memᴰ.append_cases rs o)
        go (inr o) = absurd (later (Memᴰ.of_map (matrix_of s).row ks o))

    -- nor are there more of its kind than copies
    kind_found : length (of_kind s kind (map (matrix_of s).row ks)) ≡ of_column w.t (s.size + kind) ks
    unfolding of_kind
    kind_found =
        ap length (keep_map (matrix_of s).row (λ z. eqb (row_of s z).kind kind) ks)
        ∙ length-map (keep (λ x. eqb (row_of s ((matrix_of s).row x)).kind kind) ks) (matrix_of s).row
        ∙ ap length (keep_same (λ x. eqb (row_of s ((matrix_of s).row x)).kind kind) (λ x. eqb (w.t.col (w.t.lo x)) (s.size + kind)) ks
        (λ x j. let e = kind_column s seek is_t x (was x j) in same_eq (row_of s ((matrix_of s).row x)).kind kind (w.t.col (w.t.lo x)) (s.size + kind) (λ f. omega arith) (λ f. omega arith)))
      where
        same_eq : (a b c d : ℕ) → (a ≡ b → c ≡ d) → (c ≡ d → a ≡ b) → eqb a b ≡ eqb c d
        same_eq a b c d f g = by_eq a b (λ e. eq-eqb a b e ∙ sym (eq-eqb c d (f e))) (λ e. ne_eqb a b e ∙ sym (ne_eqb c d (λ u. e (g u))))

    enough : length (of_kind s kind rows) ≤ get_or s.copies kind 0
    unfolding of_kind
    enough =
        let test : ℕ → Bool = λ z. eqb (row_of s z).kind kind in
        let a : length (keep test rows) ≡ length (keep test (rs ++ (r ∷ []))) + length (keep test (map (matrix_of s).row ks)) =
        ap length (keep_append test (rs ++ (r ∷ [])) (map (matrix_of s).row ks)) ∙ length-append (keep test (rs ++ (r ∷ []))) (keep test (map (matrix_of s).row ks)) in
        let b = kind_more s kind r rs refl in
        let c = kind_found in
        let d = within.few (s.size + kind) in
        let e = kind_column s seek is_t k live in
        let f = spend_kind w.t copies k (s.size + kind) (sym e) in
        let o : 1 ≤ copies (s.size + kind) = subst (λ (n : ℕ). 1 ≤ copies n) e (seek.stock k live) in
        let u = same_copies in
        let z = h.taken kind of-kind in
        omega arith

    row_here : Memᴰ r rows
    row_here = Memᴰ.append_left (map (matrix_of s).row ks) (Memᴰ.append_right rs (Memᴰ.head refl))

    -- an answer of these rows would show row r
    not_shown : (last shown : List ℕ) → Shown s.size s.scans last shown → shows_row s.pieces shown (row_of s r) ≡ false → (entry_of s rows).answer ≡ last → ⊥
    unfolding entry_of entry_by
    not_shown last shown sh no-show is =
        true≢false (sym (answer_shows s law P (row_of s r) (Memᴰ.map (row_of s) (sort_rows_of rows row_here)) (row_of_in s r (row_node s seek is_t k live).is_row) others few last shown sh is) ∙ no-show)
      where
        P : List Placement
        P = map (row_of s) (sort_rows rows)

        others : (x : Placement) → Memᴰ x P → (n : ℕ) → Memᴰ n (row_of s r).cells → Memᴰ n x.cells → x ≡ row_of s r
        others x j n a b =
            let o = Memᴰ.of_map (row_of s) (sort_rows rows) j in
            sym o.2 ∙ alone o.0 (sort_rows_at rows o.1) n a (subst (λ (q : Placement). Memᴰ n q.cells) (sym o.2) b)

        few : used P (row_of s r).kind ≤ length (copies_by s.pieces (row_of s r).kind)
        few = let a = used_rows s kind rows in let b = enough in let c = law.copies_each kind of-kind in omega arith

  -- so none of what is found with row r changes the page
  passes_by : (i : Identify) (capacity : ℕ) (e : Emitted) → e.waiting ≡ true → (shown : List ℕ) → Shown s.size s.scans e.last shown → shows_row s.pieces shown (row_of s r) ≡ false → (g : ℕ)
      → emit_all s i capacity (found_rows s (rs ++ (r ∷ [])) (found g)) e ≡ e
  passes_by i capacity e waits shown sh hidden g = unmet_all s i capacity e waits (rs ++ (r ∷ [])) (found g) (λ ks j. not_shown g ks j e.last shown sh hidden)

-- ---- the rest of the column, from the next node on
module _ (s : System) (law : Lawful s) {w : Reduced} {uncovered : ℕ → Bool} {copies : ℕ → ℕ} {left : ℕ} {m : List ℕ}
    (seek : Seek w uncovered copies s.size left m) (is_t : w.t ≡ matrix_of s) {c k : ℕ} (st : At w s.size c k)
    {v : Reduced} {uncovered' : ℕ → Bool} {copies' : ℕ → ℕ} (seek' : Seek v uncovered' copies' s.size left m) (st' : At v s.size c k) {rs : List ℕ}
    (h : Chosen s v copies' left rs) (kc : k ≡ c → ⊥) where
  pub passed_over : (i : Identify) (capacity : ℕ) (e : Emitted) → e.waiting ≡ true → (shown : List ℕ) → Shown s.size s.scans e.last shown
      → shows_row s.pieces shown (row_of s ((matrix_of s).row k)) ≡ false → (m₃ : List ℕ) → m₃ ≡ m → (k' : ℕ) → k' ≡ down m₃ k → (g : ℕ)
      → emit_all s i capacity (knuth_rows s rs g w copies left c k) e ≡ emit_all s i capacity (knuth_rows s rs g w copies left c k') e
  passed_over i capacity e waits shown sh hidden m₃ back k' ek g =
      let live = try_live seek st kc in
      let kss = exact_covers w.t s.size g (select w.t w.alive copies k) (spend w.t copies k) (left - (w.t.hi k - w.t.lo k - 1)) in
      ap (λ (l : List (List ℕ)). emit_all s i capacity l e) (next_rows s i capacity seek rs st kc m₃ back k' ek g)
      ∙ put_append s i capacity (found_rows s (rs ++ ((matrix_of s).row k ∷ [])) kss) (knuth_rows s rs g w copies left c k') e
      ∙ ap (emit_all s i capacity (knuth_rows s rs g w copies left c k')) (passes_by s law seek is_t live seek' (try_live seek' st' kc) h i capacity e waits shown sh hidden g)
