-- The entries of one box of the catalogue, found by walking its cells: those whose first cells are decided are those with a 0 next and then those with a 1.
-- Assumes nothing.
use Prim.Native.Nat.{ℕ, suc, ◌<◌}
use mathlib.Core.List.{List, [], ◌∷◌, ◌++◌, map, map-map, map-append, append-nil, append_assoc}
use mathlib.Core.Path.{◌≡◌, refl, sym, ap, ap₂, ◌∙◌}
use Rattle.lists.specs.Lists.{keep}
use Rattle.lists.proofs.ListLaws.{map_same, keep_append}
use Rattle.definitions.specs.Grid.{Sides, Grid, volume}
use Rattle.definitions.specs.Catalogue.{beginning_with, bit_lists, is_smallest_piece, grid_in_box, in_box_of}
use Rattle.theorems.proofs.BitListLaws.{bit_lists_none}

module _ (s : Sides) (front : List ℕ) where
  -- the next cell is b
  next_is : (b : ℕ) (rest : List (List ℕ))
      → map (λ bits. grid_in_box s (front ++ bits)) (map (λ bits. b ∷ bits) rest) ≡ map (λ bits. grid_in_box s ((front ++ (b ∷ [])) ++ bits)) rest
  next_is b rest =
      map-map (λ bits. grid_in_box s (front ++ bits)) (λ bits. b ∷ bits) rest
      ∙ map_same (λ bits. grid_in_box s (front ++ (b ∷ bits))) (λ bits. grid_in_box s ((front ++ (b ∷ [])) ++ bits)) rest
      (λ bits m. ap (grid_in_box s) (sym (append_assoc front (b ∷ []) bits)))

  pub below_zero : (v : ℕ) → beginning_with s front (suc v) 0 ≡ beginning_with s (front ++ (0 ∷ [])) v 0
  below_zero v = ap (keep is_smallest_piece) (next_is 0 (bit_lists v 0))

  pub below_more : (v k : ℕ) → beginning_with s front (suc v) (suc k) ≡ beginning_with s (front ++ (0 ∷ [])) v (suc k) ++ beginning_with s (front ++ (1 ∷ [])) v k
  below_more v k =
      ap (keep is_smallest_piece)
      (map-append (λ bits. grid_in_box s (front ++ bits)) (map (λ bits. 0 ∷ bits) (bit_lists v (suc k))) (map (λ bits. 1 ∷ bits) (bit_lists v k))
      ∙ ap₂ (λ (a b : List Grid). a ++ b) (next_is 0 (bit_lists v (suc k))) (next_is 1 (bit_lists v k)))
      ∙ keep_append is_smallest_piece (map (λ bits. grid_in_box s ((front ++ (0 ∷ [])) ++ bits)) (bit_lists v (suc k)))
      (map (λ bits. grid_in_box s ((front ++ (1 ∷ [])) ++ bits)) (bit_lists v k))

  -- none where fewer cells are left than are to be filled
  pub below_none : (v k : ℕ) → v < k → beginning_with s front v k ≡ []
  below_none v k h = ap (λ (l : List (List ℕ)). keep is_smallest_piece (map (λ bits. grid_in_box s (front ++ bits)) l)) (bit_lists_none v k h)

  -- all cells are decided
  pub below_one : beginning_with s front 0 0 ≡ keep is_smallest_piece (grid_in_box s front ∷ [])
  below_one = ap (λ (l : List ℕ). keep is_smallest_piece (grid_in_box s l ∷ [])) (append-nil front)

-- none is decided
pub below_whole : (n : ℕ) (s : Sides) → in_box_of n s ≡ beginning_with s [] (volume s) n
unfolding in_box_of
below_whole n s = refl
