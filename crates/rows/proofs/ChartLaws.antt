-- Where a map takes a cell, as it stands among the images of a chart. Assumes nothing.
use Prim.Native.Nat.{ℕ, ◌+◌, ◌*◌, ◌≤◌, ◌<◌}
use mathlib.Core.Path.{◌≡◌, ◌∙◌, subst}
use native.Mathlib.Omega.{arith}
use lib.Dec.{T, ltb, ltb→lt}
use lib.ListN.{length, get_or, drop, length-drop}
use lib.Seq.{length-take-le, get_or-take, get_or-drop}
use Rattle.lists.specs.Lists.{all}
use Rattle.lists.proofs.ListLaws.{all_get_or}
use Rattle.rows.specs.Charts.{images_of}
use Rattle.rows.specs.declared.chart.Chart.{Chart}

module _ (chart : Chart) (size m : ℕ) where
  pub image-of : (i : ℕ) → i < size → get_or (images_of chart size m) i 0 ≡ get_or chart.images (128 * m + i) 0
  unfolding images_of
  image-of i h = get_or-take size (drop (128 * m) chart.images) i 0 h ∙ get_or-drop (128 * m) chart.images i 0

  pub images_length : length chart.images ≡ 6144 → size ≤ 128 → m < 48 → length (images_of chart size m) ≡ size
  unfolding images_of
  images_length long few h = length-take-le size (drop (128 * m) chart.images) (simp length-drop (omega arith))

  pub image_small : length chart.images ≡ 6144 → size ≤ 128 → m < 48 → T (all (λ n. ltb n 128) (images_of chart size m))
      → (i : ℕ) → i < size → get_or chart.images (128 * m + i) 0 < 128
  image_small long few h t i l =
      let e = images_length long few h in
      subst (λ (n : ℕ). n < 128) (image-of i l) (ltb→lt (get_or (images_of chart size m) i 0) 128 (all_get_or (λ n. ltb n 128) 0 (images_of chart size m) t i (omega arith)))
