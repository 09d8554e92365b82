-- `moved_mask` meets its contract: the images of the numbers of its two words are those of the mask's. Assumes nothing.
use Prim.Native.Nat.{ℕ, ◌+◌, ◌*◌, ◌<◌}
use mathlib.Core.Bool.{Bool}
use mathlib.Core.Path.{◌≡◌, sym, ap, ap₂, ◌∙◌, subst}
use native.Mathlib.Omega.{arith}
use lib.ListN.{get_or}
use Rattle.masks.specs.Masks.{either}
use Rattle.rows.specs.Charts.{images_of}
use Rattle.rows.proofs.ChartLaws.{image-of, image_small}
use Rattle.rows.proofs.MovedLaws.{word_images, words_images}
use Rattle.rows.proofs.images.moved_mask.Goals as goal
use Rattle.rows.specs.declared.chart.Chart.{Chart}

-- where the map takes the numbers of the mask, and that these are cells
module _ (chart : Chart) (size m : ℕ) where
  abbrev to : ℕ → ℕ
  to i = get_or (images_of chart size m) i 0

  abbrev image : ℕ → ℕ
  image i = get_or chart.images (128 * m + i) 0

  place : (i : ℕ) → i < size → image i ≡ to i
  place i h = sym (image-of chart size m i h)

  -- the same behind the first 64
  abbrev behind : ℕ → ℕ
  behind i = get_or chart.images (128 * m + 64 + i) 0

  shifted : (i : ℕ) → behind i ≡ image (64 + i)
  shifted i = let e : 128 * m + 64 + i ≡ 128 * m + (64 + i) = omega arith in ap (λ (j : ℕ). get_or chart.images j 0) e

pub moved_word-requires : goal.moved_word-requires
moved_word-requires c =
    let a = c.args in
    let p = c.requires in
    (c.if-size-le64.true, omega arith, image_small a.chart.now a.size a.m (omega arith) p.0 p.1 p.2)

pub returns-then-size-le64 : goal.returns-then-size-le64
returns-then-size-le64 c =
    let a = c.args in
    let w = a.chart.now in
    c.moved_word.ensures ∙ word_images a.mask.low a.mask.high a.size (image w a.size a.m) (to w a.size a.m) c.if-size-le64.true (place w a.size a.m)

pub moved_word-low-requires : goal.moved_word-low-requires
moved_word-low-requires c =
    let a = c.args in
    let p = c.requires in
    (omega arith, omega arith, λ i h. image_small a.chart.now a.size a.m (omega arith) p.0 p.1 p.2 i (omega arith))

pub moved_word-high-requires : goal.moved_word-high-requires
moved_word-high-requires c =
    let a = c.args in
    let p = c.requires in
    let small = image_small a.chart.now a.size a.m (omega arith) p.0 p.1 p.2 in
    (omega arith, omega arith, λ i h. subst (λ (n : ℕ). n < 128) (sym (shifted a.chart.now a.size a.m i)) (small (64 + i) (omega arith)))

pub returns : goal.returns
returns c =
    let a = c.args in
    let w = a.chart.now in
    c.union.ensures ∙ ap₂ (λ (x y : ℕ → Bool). either x y) c.moved_word-low.ensures c.moved_word-high.ensures
    ∙ words_images a.mask.low a.mask.high a.size (image w a.size a.m) (to w a.size a.m) (behind w a.size a.m) (omega arith)
    (λ i h. place w a.size a.m i (omega arith)) (λ i h. shifted w a.size a.m i ∙ place w a.size a.m (64 + i) (omega arith))
