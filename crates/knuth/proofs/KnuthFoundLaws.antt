-- What a search over a system's links finds, on the page: the rows of each list of nodes differ, since a row that is chosen leaves no node of its own
-- possible; so they are a packing's rows, and what is emitted is document 01's list. Assumes nothing.
use Prim.Native.Nat.{ℕ, zero, suc, ◌+◌, ◌-◌, ◌≤◌, ◌<◌}
use mathlib.Core.Bool.{Bool, true, false, cond}
use mathlib.Core.List.Memᴰ
use mathlib.Core.List.{List, [], ◌∷◌, ◌++◌, map, Memᴰ, map-map}
use mathlib.Core.Logic.{◌⊎◌, inl, inr}
use mathlib.Core.Path.{◌≡◌, refl, sym, ap, ◌∙◌, subst}
use native.Mathlib.Omega.{arith}
use lib.Dec.{T, ltb, eqb, lt→ltb}
use lib.ListN.{length, get_or, length-append}
use Rattle.lists.specs.Lists.{cons_if, all, keep, sum, below, Apart}
use Rattle.lists.proofs.TestLaws.{both_left}
use Rattle.lists.proofs.ListLaws.{all_of, keep_map}
use Rattle.lists.proofs.RangeLaws.{by_number}
use Rattle.definitions.specs.Placements.{Placement}
use Rattle.definitions.specs.Kept.{Identify}
use Rattle.definitions.specs.Emission.{Emitted, Listed, emits}
use Rattle.theorems.proofs.EmissionLaws.{emits_append, emits_none}
use Rattle.rows.specs.Systems.{System}
use Rattle.rows.specs.Lawful.{Lawful}
use Rattle.kept.specs.Normal.{no_row, row_of, normal}
use Rattle.kept.specs.Emission.{emit_kept}
use Rattle.kept.specs.Entries.{numbers_of, entries, entry_by, put_all}
use Rattle.kept.proofs.LeafLaws.{packing_emits}
use Rattle.links.specs.Links.{LawfulMatrix}
use Rattle.links.specs.Cover.{tally, here}
use Rattle.links.specs.Search.{select, spend, pivot}
use Rattle.links.specs.Packings.{list_from, rows_from, exact_covers}
use Rattle.links.specs.Build.{every, whole}
use Rattle.knuth.specs.Matrix.{nodes_from, row_nodes, stocked_rows, columns, link_nodes, matrix_of}
use Rattle.knuth.specs.Listing.{emit_all, found_rows, knuth_below, knuth_answers}
use Rattle.knuth.proofs.MatrixLaws.{matrix_rows, row_some, same_row}
use Rattle.knuth.proofs.KnuthStateLaws.{starts}
use Rattle.knuth.proofs.KnuthListLaws.{knuth-rows}
use Rattle.knuth.proofs.ChosenLaws.{was_live, other_row}
use Rattle.knuth.proofs.BuildingLaws.{row_length, links-length}

-- ---- how many nodes there are
module _ (s : System) where
  nodes_length : (x : ℕ) (rs : List ℕ) → length (nodes_from s x rs) ≡ sum (map (λ r. suc (length (row_of s r).cells)) rs)
  nodes_length x [] = refl
  nodes_length x (r ∷ rs) =
      let y = x + suc (length (row_of s r).cells) in
      let a = length-append (row_nodes s.size x r (row_of s r).kind (row_of s r).cells) (nodes_from s y rs) in
      let b = row_length s.size x r (row_of s r).kind (row_of s r).cells in
      let c = nodes_length y rs in
      omega arith

  stocked_are : map (row_of s) (stocked_rows s) ≡ keep (λ q. ltb 0 (get_or s.copies q.kind 0)) s.rows
  unfolding stocked_rows row_of
  stocked_are =
      sym (ap (keep (λ q. ltb 0 (get_or s.copies q.kind 0))) (sym (by_number no_row s.rows))
      ∙ keep_map (row_of s) (λ q. ltb 0 (get_or s.copies q.kind 0)) (below (length s.rows)))

  pub nodes_many : length (link_nodes s) ≡ s.size + length s.copies + sum (map (λ q. suc (length q.cells)) (keep (λ q. ltb 0 (get_or s.copies q.kind 0)) s.rows))
  unfolding columns
  nodes_many =
      let a = links-length s in
      let b = nodes_length (columns s) (stocked_rows s) in
      let c : sum (map (λ r. suc (length (row_of s r).cells)) (stocked_rows s)) ≡ sum (map (λ q. suc (length q.cells)) (keep (λ q. ltb 0 (get_or s.copies q.kind 0)) s.rows)) =
      ap sum (sym (map-map (λ (q : Placement). suc (length q.cells)) (row_of s) (stocked_rows s)) ∙ ap (map (λ (q : Placement). suc (length q.cells))) stocked_are) in
      omega arith

-- ---- where a list of nodes comes from
pub cond_at : {ks : List ℕ} (a b : Bool) (L : List (List ℕ)) → Memᴰ ks (cond a ([] ∷ []) (cond b [] L)) → (ks ≡ []) ⊎ Memᴰ ks L
cond_at true b L m = inl (Memᴰ.eq_of_singleton m)
cond_at false true L m = absurd (Memᴰ.not-nil m)
cond_at false false L m = inr m

pub list_at : (f : ℕ → List (List ℕ)) (p : ℕ → Bool) (n i : ℕ) {ks : List ℕ} → Memᴰ ks (list_from f p n i) → (k : ℕ) × (p k ≡ true) × Memᴰ ks (f k)
unfolding list_from
list_at f p zero i m = absurd (Memᴰ.not-nil m)
list_at f p (suc n) i {ks} m = go (p i) refl (Memᴰ.append_cases (cond (p i) (f i) []) m) (λ (j : Memᴰ ks (list_from f p n (suc i))). list_at f p n (suc i) j)
  where
    go : (b : Bool) → p i ≡ b → Memᴰ ks (cond b (f i) []) ⊎ Memᴰ ks (list_from f p n (suc i)) → (Memᴰ ks (list_from f p n (suc i)) → (k : ℕ) × (p k ≡ true) × Memᴰ ks (f k))
        → (k : ℕ) × (p k ≡ true) × Memᴰ ks (f k)
    go true e (inl j) h = (i, e, j)
    go false e (inl j) h = absurd (Memᴰ.not-nil j)
    go b e (inr j) h = h j

module _ (s : System) (law : Lawful s) where
  -- every node of the list is possible, and no two are of one row
  abbrev Differ : (ℕ → Bool) → List ℕ → Type 0
  Differ alive ks = ((x : ℕ) → Memᴰ x ks → alive x ≡ true) × Apart (map (matrix_of s).row ks)

  abbrev Nodes : (ℕ → Bool) → Type 0
  Nodes alive = (x : ℕ) → alive x ≡ true → (columns s ≤ x) × (x < (matrix_of s).nodes)

  other : (alive : ℕ → Bool) (copies : ℕ → ℕ) → Nodes alive → (k x : ℕ) → alive k ≡ true → select (matrix_of s) alive copies k x ≡ true → (matrix_of s).row x ≡ (matrix_of s).row k → ⊥
  other alive copies on k x lk h e =
      let a = on k lk in
      let b = on x (was_live (matrix_of s) alive copies k x h) in
      let p = (matrix_rows s k a.0 a.1).size in
      let q = (matrix_rows s x b.0 b.1).size in
      let r = row_some s law k a.0 a.1 in
      let f = same_row s x k b.0 b.1 a.0 a.1 e in
      let c = ap (λ (n : ℕ). length (row_of s n).cells) e in
      other_row (matrix_of s) alive copies k x (omega arith) f (omega arith) h

  found_differ : (g : ℕ) (alive : ℕ → Bool) (copies : ℕ → ℕ) (m : ℕ) → Nodes alive → (ks : List ℕ) → Memᴰ ks (exact_covers (matrix_of s) s.size g alive copies m) → Differ alive ks
  unfolding exact_covers rows_from here
  found_differ zero alive copies m on ks i = absurd (Memᴰ.not-nil i)
  found_differ (suc g) alive copies m on ks i =
      go (cond_at (eqb m 0) (eqb c 4096) (rows_from (matrix_of s) (exact_covers (matrix_of s) s.size g) alive copies m c 0) i)
      (λ k on' js j. found_differ g (select (matrix_of s) alive copies k) (spend (matrix_of s) copies k) (m - ((matrix_of s).hi k - (matrix_of s).lo k - 1)) on' js j)
    where
      c : ℕ
      c = pivot (λ j. tally (here (matrix_of s) alive j) (matrix_of s).nodes) s.size

      below_row : ℕ → List (List ℕ)
      below_row k = exact_covers (matrix_of s) s.size g (select (matrix_of s) alive copies k) (spend (matrix_of s) copies k) (m - ((matrix_of s).hi k - (matrix_of s).lo k - 1))

      none : Differ alive []
      none = (λ x j. absurd (Memᴰ.not-nil j), tt)

      more : (k : ℕ) (js : List ℕ) → alive k ≡ true → Differ (select (matrix_of s) alive copies k) js → Differ alive (k ∷ js)
      more k js lk d = (λ x j. at x (Memᴰ.cases_cons j), (λ j. not_again (Memᴰ.of_map (matrix_of s).row js j), d.1))
        where
          at : (x : ℕ) → (x ≡ k) ⊎ Memᴰ x js → alive x ≡ true
          at x (inl e) = ap alive e ∙ lk
          at x (inr j) = was_live (matrix_of s) alive copies k x (d.0 x j)

          not_again : (x : ℕ) × Memᴰ x js × ((matrix_of s).row x ≡ (matrix_of s).row k) → ⊥
          not_again x = other alive copies on k x.0 lk (d.0 x.0 x.1) x.2

      go : (ks ≡ []) ⊎ Memᴰ ks (rows_from (matrix_of s) (exact_covers (matrix_of s) s.size g) alive copies m c 0)
          → ((k : ℕ) → Nodes (select (matrix_of s) alive copies k) → (js : List ℕ) → Memᴰ js (below_row k) → Differ (select (matrix_of s) alive copies k) js) → Differ alive ks
      go (inl e) again = subst (Differ alive) (sym e) none
      go (inr j) again =
          let x = list_at (λ k. map (λ ks. k ∷ ks) (below_row k)) (here (matrix_of s) alive c) ((matrix_of s).nodes - 0) 0 j in
          let k = x.0 in
          let lk = both_left (alive k) (eqb ((matrix_of s).col k) c) x.1 in
          let y = Memᴰ.of_map (λ ks. k ∷ ks) (below_row k) x.2 in
          subst (Differ alive) y.2 (more k y.0 lk (again k (λ z h. on z (was_live (matrix_of s) alive copies k z h)) y.0 y.1))

  -- ---- what is emitted
  entries_cons : (i : Identify) (P : List Placement) (L : List (List Placement)) → entries s i (P ∷ L) ≡ entries s i (P ∷ []) ++ entries s i L
  unfolding entries
  entries_cons i P L = go (normal s i (numbers_of s P))
    where
      go : (b : Bool) → map (entry_by s) (cons_if b P (keep (λ Q. normal s i (numbers_of s Q)) L)) ≡ map (entry_by s) (cons_if b P []) ++ map (entry_by s) (keep (λ Q. normal s i (numbers_of s Q)) L)
      go true = refl
      go false = refl

  abbrev row : ℕ → ℕ
  row = (matrix_of s).row

  emit-all : (i : Identify) (capacity : ℕ) (kss : List (List ℕ)) → ((ks : List ℕ) → Memᴰ ks kss → T (all (λ r. ltb r (length s.rows)) (map row ks)) × Apart (map row ks)) → (e : Emitted)
      → emit_all s i capacity (found_rows s [] kss) e ≡ emits capacity (entries s i (map (λ ks. put_all [] (map (row_of s) (map row ks))) kss)) e
  unfolding emit_all found_rows
  emit-all i capacity [] h e = unfold entries in sym (emits_none capacity e)
  emit-all i capacity (ks ∷ kss) h e =
      let a = h ks (Memᴰ.head refl) in
      let P = put_all [] (map (row_of s) (map row ks)) in
      let L = map (λ js. put_all [] (map (row_of s) (map row js))) kss in
      emit-all i capacity kss (λ js j. h js (Memᴰ.tail j)) (emit_kept s i capacity (map row ks) e)
      ∙ ap (emits capacity (entries s i L)) (packing_emits s law (map row ks) a.0 a.1 i capacity e)
      ∙ sym (emits_append capacity (entries s i (P ∷ [])) (entries s i L) e)
      ∙ ap (λ (l : List Listed). emits capacity l e) (sym (entries_cons i P L))

  pub found_emits : (l : LawfulMatrix (matrix_of s)) (copies : ℕ → ℕ) → ((k : ℕ) → k < length s.copies → copies (s.size + k) ≡ get_or s.copies k 0)
      → (g : ℕ) → s.size < g → (i : Identify) (capacity : ℕ) (e : Emitted)
      → emit_all s i capacity (knuth_below s [] g (whole (matrix_of s) l) copies s.size) e ≡ emits capacity (knuth_answers s i) e
  unfolding knuth_below knuth_answers
  found_emits l copies held g h i capacity e =
      emit-all i capacity (exact_covers (matrix_of s) s.size g (every (matrix_of s)) copies s.size) fine e
      ∙ ap (λ (L : List (List Placement)). emits capacity (entries s i L) e) (knuth-rows s law copies held g h)
    where
      on : Nodes (every (matrix_of s))
      on = (starts s law copies held).node

      fine : (ks : List ℕ) → Memᴰ ks (exact_covers (matrix_of s) s.size g (every (matrix_of s)) copies s.size) → T (all (λ r. ltb r (length s.rows)) (map row ks)) × Apart (map row ks)
      fine ks j =
          let d = found_differ g (every (matrix_of s)) copies s.size on ks j in (
            all_of (λ r. ltb r (length s.rows)) (map row ks) (λ r z.
                let x = Memᴰ.of_map row ks z in
                let n = on x.0 (d.0 x.0 x.1) in
                subst (λ (r : ℕ). T (ltb r (length s.rows))) x.2 (lt→ltb (row x.0) (length s.rows) (matrix_rows s x.0 n.0 n.1).is_row)),
            d.1,
          )
