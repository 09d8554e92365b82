-- The boxes of the catalogue one after the other, by the places of the cells that their sides less one are; and that they are small. Assumes nothing.
use Prim.Native.Nat.{ℕ, ◌+◌, ◌≤◌, ◌<◌}
use mathlib.Core.Bool.{Bool, true, false}
use mathlib.Core.List.Memᴰ
use mathlib.Core.List.{List, [], ◌∷◌, ◌++◌, map, map-append, map-map, append-nil, Memᴰ}
use mathlib.Core.Path.{◌≡◌, sym, ap, ◌∙◌, subst}
use lib.Dec.{T}
use Rattle.lists.specs.Lists.{below, cons_if, each, keep}
use Rattle.lists.proofs.ListLaws.{each_append, keep_append, keep_of}
use Rattle.lists.proofs.RangeLaws.{below_next, below_of}
use Rattle.definitions.specs.Emission.{Emitted}
use Rattle.definitions.specs.Grid.{Sides, Grid, volume}
use Rattle.definitions.specs.Catalogue.{cube, box_to, boxes, catalogue, in_box_of, is_needed}
use Rattle.theorems.proofs.CatalogueLaws.{few_cells}
use Rattle.theorems.proofs.EmissionLaws.{emits_none}
use Rattle.shape.specs.Places.{cell_at}
use Rattle.shape.proofs.GridLaws.{box_places}
use Rattle.polycubes.proofs.WalkLaws.{after, after_both, after_same}

module _ (n : ℕ) where
  abbrev pub box_by : ℕ → Sides
  box_by i = box_to (cell_at (cube n) i)

  -- ---- the entries of the boxes before place i
  abbrev pub before_place : ℕ → List Grid
  before_place i = each (keep (is_needed n) (map box_by (below i))) (in_box_of n)

  next_place : (i : ℕ) → before_place (i + 1) ≡ before_place i ++ each (keep (is_needed n) (box_by i ∷ [])) (in_box_of n)
  next_place i =
      ap (λ (l : List Sides). each (keep (is_needed n) l) (in_box_of n)) (ap (map box_by) (below_next i) ∙ map-append box_by (below i) (i ∷ []))
      ∙ ap (λ (l : List Sides). each l (in_box_of n)) (keep_append (is_needed n) (map box_by (below i)) (box_by i ∷ []))
      ∙ each_append (keep (is_needed n) (map box_by (below i))) (keep (is_needed n) (box_by i ∷ [])) (in_box_of n)

  module _ (i capacity : ℕ) (e : Emitted) where
    abbrev before_it : Emitted
    before_it = after capacity (before_place i) e

    abbrev behind_it : Emitted
    behind_it = after capacity (before_place (i + 1)) e

    decided : (b : Bool) → b ≡ is_needed n (box_by i) → behind_it ≡ after capacity (each (cons_if b (box_by i) []) (in_box_of n)) before_it
    decided b is =
        after_same capacity e (next_place i ∙ ap (λ (x : Bool). before_place i ++ each (cons_if x (box_by i) []) (in_box_of n)) (sym is))
        ∙ after_both capacity e (before_place i) (each (cons_if b (box_by i) []) (in_box_of n))

    pub box_passed : false ≡ is_needed n (box_by i) → before_it ≡ behind_it
    box_passed is = sym (decided false is ∙ emits_none capacity before_it)

    pub box_listed : true ≡ is_needed n (box_by i) → after capacity (in_box_of n (box_by i)) before_it ≡ behind_it
    box_listed is = after_same capacity before_it (sym (append-nil (in_box_of n (box_by i)))) ∙ sym (decided true is)

  -- ---- all boxes
  boxes_by : boxes n ≡ keep (is_needed n) (map box_by (below (volume (cube n))))
  unfolding boxes
  boxes_by = ap (keep (is_needed n)) (ap (map box_to) (box_places (cube n)) ∙ map-map box_to (cell_at (cube n)) (below (volume (cube n))))

  pub all_boxes : before_place (volume (cube n)) ≡ catalogue n
  unfolding catalogue
  all_boxes = ap (λ (l : List Sides). each l (in_box_of n)) (sym boxes_by)

  pub small_box : n ≤ 6 → (i : ℕ) → i < volume (cube n) → T (is_needed n (box_by i)) → volume (box_by i) ≤ 18
  small_box few i h t =
      let m = keep_of (is_needed n) (map box_by (below (volume (cube n)))) (Memᴰ.map box_by (below_of (volume (cube n)) h)) t in
      few_cells n few (box_by i) (subst (Memᴰ (box_by i)) (sym boxes_by) m)
