-- A column's rows, tried one after the other, leave on the page what the list of their packings leaves; nothing changes once a further packing is known.
-- Assumes nothing.
use Prim.Native.Nat.{ℕ, suc, ◌-◌, ◌≤◌, ◌<◌}
use mathlib.Core.Bool.{Bool, true, false, cond}
use mathlib.Core.List.{List, [], ◌∷◌, ◌++◌, map, append-nil, append_assoc}
use mathlib.Core.Path.{◌≡◌, refl, sym, ap, ◌∙◌}
use native.Mathlib.Omega.{arith}
use borrow.Author.Tests.{ne_eqb}
use lib.Dec.{eqb}
use Rattle.definitions.specs.Kept.{Identify}
use Rattle.definitions.specs.Emission.{Emitted}
use Rattle.theorems.proofs.EmissionLaws.{emit_done}
use Rattle.rows.specs.Systems.{System}
use Rattle.kept.specs.Normal.{normal, sort_rows}
use Rattle.kept.specs.Emission.{emit_kept, entry_of}
use Rattle.links.specs.Links.{down, first_of, end_of, size_of}
use Rattle.links.specs.Cover.{tally, Reduced, reduced_to, alive_run}
use Rattle.links.specs.Search.{Seek, At, select, selected, spend, first_covered, has_row, pivot}
use Rattle.links.specs.Packings.{exact_covers, rows_from}
use Rattle.links.proofs.Search.{choose_zero, choose_none, choose_rows, few_open, sel_uncovered, try_live, try_sub, try_seek, try_packings, try_rows_next, try_head}
use Rattle.knuth.specs.Matrix.{matrix_of}
use Rattle.knuth.specs.Listing.{emit_all, found_rows, knuth_below, knuth_rows}

-- ---- packings on the page
module _ (s : System) (i : Identify) (capacity : ℕ) where
  pub put_append : (xss yss : List (List ℕ)) (e : Emitted) → emit_all s i capacity (xss ++ yss) e ≡ emit_all s i capacity yss (emit_all s i capacity xss e)
  unfolding emit_all
  put_append [] yss e = refl
  put_append (xs ∷ xss) yss e = put_append xss yss (emit_kept s i capacity xs e)

  put_done : (rs : List ℕ) (e : Emitted) → e.further ≡ true → emit_kept s i capacity rs e ≡ e
  unfolding emit_kept
  put_done rs e h = go (normal s i (sort_rows rs)) (emit_done capacity (entry_of s rs) e h)
    where
      go : (b : Bool) {next : Emitted} → next ≡ e → cond b next e ≡ e
      go true f = f
      go false f = refl

  puts_done : (xss : List (List ℕ)) (e : Emitted) → e.further ≡ true → emit_all s i capacity xss e ≡ e
  unfolding emit_all
  puts_done [] e h = refl
  puts_done (xs ∷ xss) e h = rw (put_done xs e h) (puts_done xss e h)

-- ---- the rows chosen before those found
found_append : (s : System) (rs : List ℕ) (xss yss : List (List ℕ)) → found_rows s rs (xss ++ yss) ≡ found_rows s rs xss ++ found_rows s rs yss
unfolding found_rows
found_append s rs [] yss = refl
found_append s rs (ks ∷ xss) yss = ap (λ (l : List (List ℕ)). (rs ++ map (matrix_of s).row ks) ∷ l) (found_append s rs xss yss)

found_next : (s : System) (rs : List ℕ) (k : ℕ) (kss : List (List ℕ)) → found_rows s rs (map (λ ks. k ∷ ks) kss) ≡ found_rows s (rs ++ ((matrix_of s).row k ∷ [])) kss
unfolding found_rows
found_next s rs k [] = refl
found_next s rs k (ks ∷ kss) =
    rw (append_assoc rs ((matrix_of s).row k ∷ []) (map (matrix_of s).row ks)) (ap (λ (l : List (List ℕ)). (rs ++ ((matrix_of s).row k ∷ map (matrix_of s).row ks)) ∷ l) (found_next s rs k kss))

module _ (s : System) (i : Identify) (capacity : ℕ) {w : Reduced} {uncovered : ℕ → Bool} {copies : ℕ → ℕ} {left : ℕ} {m : List ℕ} (seek : Seek w uncovered copies s.size left m) (rs : List ℕ) where
  -- every cell is covered
  pub leaf : (g : ℕ) → left < g → left ≡ 0 → (e : Emitted) → emit_kept s i capacity rs e ≡ emit_all s i capacity (knuth_below s rs g w copies left) e
  unfolding emit_all knuth_below found_rows
  leaf g h z e = rw (choose_zero seek g h z, append-nil rs)

  -- no cell can be covered
  pub none : (left ≡ 0 → ⊥) → (c : ℕ) → c ≡ pivot (size_of m) s.size → c ≡ 4096 → (g : ℕ) → left < g → (e : Emitted) → e ≡ emit_all s i capacity (knuth_below s rs g w copies left) e
  unfolding emit_all knuth_below found_rows
  none nz c ec cf g h e = rw (choose_none seek nz c ec cf g h)

  -- fewer cells can be covered than are uncovered
  pub few : tally (has_row m) s.size < left → (g : ℕ) → (e : Emitted) → e ≡ emit_all s i capacity (knuth_below s rs g w copies left) e
  unfolding emit_all knuth_below found_rows
  few h g e = rw (few_open seek h g)

  -- the rows of column c
  pub below_rows : (nz : left ≡ 0 → ⊥) (c : ℕ) (ec : c ≡ pivot (size_of m) s.size) (cf : c ≡ 4096 → ⊥) (k : ℕ) (ek : k ≡ down m c) (g : ℕ) → left < suc g
      → knuth_below s rs (suc g) w copies left ≡ knuth_rows s rs g w copies left c k
  unfolding knuth_below knuth_rows
  below_rows nz c ec cf k ek g h = ap (found_rows s rs) (choose_rows seek nz c ec cf k ek g h)

  -- back at the head
  pub no_rows : (c k : ℕ) → k ≡ c → (g : ℕ) (e : Emitted) → e ≡ emit_all s i capacity (knuth_rows s rs g w copies left c k) e
  unfolding emit_all knuth_rows found_rows
  no_rows c k kc g e = rw (try_head kc (rows_from w.t (exact_covers w.t s.size g) w.alive copies left c k))

  module _ {c k : ℕ} (st : At w s.size c k) (kc : k ≡ c → ⊥) where
    abbrev found : ℕ → List (List ℕ)
    found g = exact_covers w.t s.size g (select w.t w.alive copies k) (spend w.t copies k) (left - (w.t.hi k - w.t.lo k - 1))

    -- those with the row of k, then those from the next node on
    pub next_rows : (m₃ : List ℕ) → m₃ ≡ m → (k' : ℕ) → k' ≡ down m₃ k → (g : ℕ)
        → knuth_rows s rs g w copies left c k ≡ found_rows s (rs ++ ((matrix_of s).row k ∷ [])) (found g) ++ knuth_rows s rs g w copies left c k'
    unfolding knuth_rows
    next_rows m₃ back k' ek g =
        let p : cond (eqb k c) [] (rows_from w.t (exact_covers w.t s.size g) w.alive copies left c k) ≡ rows_from w.t (exact_covers w.t s.size g)
        w.alive copies left c k = rw (ne_eqb k c kc) in
        ap (found_rows s rs) (p ∙ try_rows_next seek st kc m₃ back k' ek (exact_covers w.t s.size g))
        ∙ found_append s rs (map (λ ks. k ∷ ks) (found g)) (cond (eqb k' c) [] (rows_from w.t (exact_covers w.t s.size g) w.alive copies left c k'))
        ∙ ap (λ (l : List (List ℕ)). l ++ found_rows s rs (cond (eqb k' c) [] (rows_from w.t (exact_covers w.t s.size g) w.alive copies left c k'))) (found_next s rs k (found g))

    module _ (n : ℕ) (en : n ≡ end_of m k - first_of m k - 1) (m₁ : List ℕ)
        (g₁ : (w : Reduced) (uncovered : ℕ → Bool) (copies : ℕ → ℕ) (cells left : ℕ) → Seek w uncovered copies cells left m → w.alive k ≡ true → m₁ ≡ selected w copies k m)
        (rs₁ : List ℕ) (longer : rs₁ ≡ rs ++ ((matrix_of s).row k ∷ [])) (is_t : w.t ≡ matrix_of s) (before after : Emitted)
        (f : (w : Reduced) (uncovered : ℕ → Bool) (copies : ℕ → ℕ) (g : ℕ) → Seek w uncovered copies s.size (left - n) m₁ → w.t ≡ matrix_of s → left - n < g
        → after ≡ emit_all s i capacity (knuth_below s rs₁ g w copies (left - n)) before) where
      -- with the row of k
      turn : (g : ℕ) → left ≤ g → after ≡ emit_all s i capacity (found_rows s (rs ++ ((matrix_of s).row k ∷ [])) (found g)) before
      unfolding knuth_below
      turn g h =
          let u = try_sub seek st kc n en in
          f (reduced_to w (first_covered w.t copies k) (w.t.hi k - first_covered w.t copies k)) (sel_uncovered seek k (try_live seek st kc))
          (spend w.t copies k) g (try_seek seek st kc n en m₁ g₁) is_t (omega arith)
          ∙ ap (λ (l : List ℕ). emit_all s i capacity (found_rows s l (exact_covers w.t s.size g
          (alive_run w.t w.alive (first_covered w.t copies k) (w.t.hi k - first_covered w.t copies k)) (spend w.t copies k) (left - n))) before) longer
          ∙ ap (λ (l : List (List ℕ)). emit_all s i capacity (found_rows s (rs ++ ((matrix_of s).row k ∷ [])) l) before) (try_packings seek st kc n en m₁ g₁ g)

      -- a further packing is known: the rest of the column changes nothing
      pub stops : after.further ≡ true → (g : ℕ) → left ≤ g → after ≡ emit_all s i capacity (knuth_rows s rs g w copies left c k) before
      stops done g h =
          let k' : ℕ = down m k in
          sym (ap (λ (l : List (List ℕ)). emit_all s i capacity l before) (next_rows m refl k' refl g)
          ∙ put_append s i capacity (found_rows s (rs ++ ((matrix_of s).row k ∷ [])) (found g)) (knuth_rows s rs g w copies left c k') before
          ∙ ap (emit_all s i capacity (knuth_rows s rs g w copies left c k')) (sym (turn g h))
          ∙ puts_done s i capacity (knuth_rows s rs g w copies left c k') after done)

      -- the rest of the column from the next node on
      pub goes_on : (m₃ : List ℕ) → m₃ ≡ m → (k' : ℕ) → k' ≡ down m₃ k → (end : Emitted) (g : ℕ) → left ≤ g
          → end ≡ emit_all s i capacity (knuth_rows s rs g w copies left c k') after → end ≡ emit_all s i capacity (knuth_rows s rs g w copies left c k) before
      goes_on m₃ back k' ek end g h rest =
          rest ∙ sym (ap (λ (l : List (List ℕ)). emit_all s i capacity l before) (next_rows m₃ back k' ek g)
          ∙ put_append s i capacity (found_rows s (rs ++ ((matrix_of s).row k ∷ [])) (found g)) (knuth_rows s rs g w copies left c k') before
          ∙ ap (emit_all s i capacity (knuth_rows s rs g w copies left c k')) (sym (turn g h)))
