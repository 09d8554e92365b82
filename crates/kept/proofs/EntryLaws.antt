-- The rows of a packing have ascending numbers, so that what is kept and answered by numbers is what document 01 keeps and answers. Assumes nothing.
use Prim.Native.Nat.{ℕ, ◌<◌}
use mathlib.Core.List.Memᴰ
use mathlib.Core.List.{List, [], ◌∷◌, map, Memᴰ, map-map}
use mathlib.Core.Path.{◌≡◌, refl, sym, ap, ◌∙◌, subst}
use native.Mathlib.Omega.{arith}
use lib.Dec.{T, ltb, lt→ltb}
use lib.ListN.{length, get_or}
use Rattle.lists.specs.Lists.{all, keep, before, ascending}
use Rattle.lists.proofs.ListLaws.{all_of, keep_same, map_same, before_at, before_most, mem_get_or}
use Rattle.lists.proofs.SortLaws.{map_ascending, ahead_number}
use Rattle.definitions.specs.Placements.{Placement, Compiled, compile}
use Rattle.definitions.specs.Packing.{ahead, same_placement, Packing}
use Rattle.definitions.specs.Kept.{Identify, kept}
use Rattle.definitions.specs.Answers.{answer}
use Rattle.definitions.specs.Emission.{Listed, answers_in}
use Rattle.definitions.specs.Refusals.{Call, tray_of, refusal}
use Rattle.theorems.proofs.PackingLaws.{ahead_trans, ahead_irrefl, same_placement_refl, same_placement→eq, packing_placed}
use Rattle.theorems.proofs.GeometryLaws.{W}
use Rattle.rows.specs.Systems.{System, system_of}
use Rattle.rows.specs.Answering.{answer_by}
use Rattle.kept.specs.Normal.{no_row, row_of, normal}
use Rattle.kept.specs.Entries.{numbers_of, entries, entry_by}
use Rattle.rows.proofs.AnswerLaws.{same_answer}
use Rattle.kept.proofs.NormalLaws.{normal_same}

-- ---- entries by their number
module _ (l : Call) (ok : refusal l ≡ 0) where
  abbrev C : Compiled
  C = compile (tray_of l)

  abbrev S : System
  S = system_of (tray_of l)

  abbrev rows : List Placement
  rows = (compile (tray_of l)).placements

  -- ---- a packing's rows
  number : Placement → ℕ
  number q = before (same_placement q) rows

  number_row : (q : Placement) → Memᴰ q rows → (number q < length rows) × (get_or rows (number q) no_row ≡ q)
  unfolding number
  number_row q m =
      let r = mem_get_or no_row rows m in
      let a = before_most (same_placement q) no_row rows r.0 r.1 (subst (λ (z : Placement). T (same_placement q z)) (sym r.2) (same_placement_refl q)) in
      let h : before (same_placement q) rows < length rows = (let b = r.1 in omega arith) in
      (h, sym (same_placement→eq q (get_or rows (before (same_placement q) rows) no_row) (before_at (same_placement q) no_row rows h)))

  number_less : (q r : Placement) → Memᴰ q rows → Memᴰ r rows → T (ahead q r) → T (ltb (number q) (number r))
  number_less q r m k t =
      let a = number_row q m in
      let b = number_row r k in
      lt→ltb (number q) (number r) (ahead_number ahead ahead_trans ahead_irrefl rows no_row (W l ok).in_order (number q) (number r) a.0 b.0
      (subst (λ (z : Placement). T (ahead z (get_or rows (number r) no_row))) (sym a.1) (subst (λ (z : Placement). T (ahead q z)) (sym b.1) t)))

  module _ (P : List Placement) (g : Packing C P) where
    placed : (q : Placement) → Memᴰ q P → Memᴰ q rows
    placed q m = packing_placed C P g q m

    pub numbers_below : T (all (λ r. ltb r (length S.rows)) (numbers_of S P))
    unfolding numbers_of system_of number
    numbers_below = all_of (λ (r : ℕ). ltb r (length rows)) (map number P) (λ r m.
        let x = Memᴰ.of_map number P m in
        subst (λ (n : ℕ). T (ltb n (length rows))) x.2 (lt→ltb (number x.0) (length rows) (number_row x.0 (placed x.0 x.1)).0))

    pub numbers_ascend : T (ascending ltb (numbers_of S P))
    unfolding numbers_of system_of number
    numbers_ascend = map_ascending ahead ltb number P g.a_set (λ q r m k t. number_less q r (placed q m) (placed r k) t)

    pub rows_of_numbers : map (row_of S) (numbers_of S P) ≡ P
    unfolding numbers_of system_of row_of number
    rows_of_numbers = go P placed
      where
        go : (Q : List Placement) → ((q : Placement) → Memᴰ q Q → Memᴰ q rows) → map (λ r. get_or rows r no_row) (map number Q) ≡ Q
        go [] h = refl
        go (q ∷ Q) h = (λ i. (number_row q (h q (Memᴰ.head refl))).1 i ∷ go Q (λ z m. h z (Memᴰ.tail m)) i)

    pub normal_kept : (i : Identify) → normal S i (numbers_of S P) ≡ kept C i P
    normal_kept i =
        normal_same l ok i (numbers_of S P) numbers_below numbers_ascend (subst (λ (Q : List Placement). Packing C Q) (sym rows_of_numbers) g)
        ∙ ap (kept C i) rows_of_numbers

  pub entries_same : (i : Identify) (L : List (List Placement)) → ((P : List Placement) → Memᴰ P L → Packing C P)
      → answers_in (entries S i L) ≡ map (answer C) (keep (kept C i) L)
  unfolding entries entry_by
  entries_same i L h =
      map-map (λ (entry : Listed). entry.answer) (entry_by S) (keep (λ P. normal S i (numbers_of S P)) L)
      ∙ map_same (answer_by S) (answer C) (keep (λ P. normal S i (numbers_of S P)) L) (λ P m. same_answer (tray_of l) P)
      ∙ ap (map (answer C)) (keep_same (λ P. normal S i (numbers_of S P)) (kept C i) L (λ P m. normal_kept P (h P m) i))
