use Prim.Native.Nat.{ℕ, ◌+◌, ◌-◌, ◌/◌, ◌^◌, ◌<◌}
use mathlib.Core.Bool.{Bool, true}
use mathlib.Core.Path.{◌≡◌, sym, ap, ◌∙◌, subst}
use native.Mathlib.Nat.{div-one}
use native.Mathlib.Omega.{arith}
use lib.Count.{count_trailing_zeros}
use lib.ListN.{get_or}
use Rattle.masks.specs.Masks.{has, hit}
use Rattle.masks.proofs.MaskLaws.{cell_taken}
use Rattle.masks.proofs.Trailing.{word_passed, word_done, word_hit, word_within, word_next}
use Rattle.rows.proofs.MovedLaws.{TakenUp, taken_none, taken_past, taken_hit, taken_all}
use Rattle.rows.specs.declared.chart.Chart.{Chart}
use Rattle.rows.proofs.images.moved_word.Goals as goal

-- where the map takes a number
abbrev to : Chart → ℕ → ℕ → ℕ
to chart start j = get_or chart.images (start + j) 0

-- ---- the next number of a word of which `rest` is left from number i on
module _ (word rest i : ℕ) (fits : word < 2 ^ 64) (is : rest ≡ word / 2 ^ i) (some : rest ≡ 0 → ⊥) where
  within : i + count_trailing_zeros 64 rest < 64
  within = subst (λ (r : ℕ). i + count_trailing_zeros 64 r < 64) (sym is) (word_within word i fits (λ z. some (is ∙ z)))

  is-hit : hit word (i + count_trailing_zeros 64 rest) ≡ true
  is-hit = subst (λ (r : ℕ). hit word (i + count_trailing_zeros 64 r) ≡ true) (sym is) (word_hit word i fits (λ z. some (is ∙ z)))

  -- all before it are taken up
  up_to : (f : ℕ → ℕ) (size : ℕ) (moved : ℕ → Bool) → TakenUp (hit word) f size i moved
      → TakenUp (hit word) f size (i + count_trailing_zeros 64 rest) moved
  up_to f size moved =
      taken_past (hit word) f size i (i + count_trailing_zeros 64 rest) moved (omega arith)
      (λ j h g. word_passed word i fits j h (subst (λ (r : ℕ). j < i + count_trailing_zeros 64 r) is g))

pub loop-rest-init : goal.loop-rest-init
loop-rest-init c =
    let a = c.args in
    (omega arith, sym (div-one a.word), taken_none (hit a.word) (to a.chart.now a.start) a.size _ c.empty-moved.ensures)

pub returns-then-size-i : goal.returns-then-size-i
returns-then-size-i c =
    let a = c.args in
    let l = c.loop-rest in
    let f = to a.chart.now a.start in
    let fits : a.word < 2 ^ 64 = omega arith in
    taken_all (hit a.word) f a.size (l.i + count_trailing_zeros 64 l.rest) _ c.if-size-i.true
    (up_to a.word l.rest l.i fits l.invariant.1 c.loop-rest-test.true f a.size (has l.moved) l.invariant.2)

pub loop-rest-preserved : goal.loop-rest-preserved
loop-rest-preserved c =
    let a = c.args in
    let l = c.loop-rest in
    let f = to a.chart.now a.start in
    let fits : a.word < 2 ^ 64 = omega arith in
    let is = l.invariant.1 in
    let zeros = count_trailing_zeros 64 l.rest in
    let w = within a.word l.rest l.i fits is c.loop-rest-test.true in
    let image = c.image_at.ensures in
    let numbered : c.image_at.result < 128 = omega (arith, image, c.requires.2 (l.i + zeros) c.if-size-i.false) in (
      omega arith,
      ap (λ (r : ℕ). r / 2 ^ zeros / 2 ^ 1) is ∙ word_next a.word l.i fits zeros,
      taken_hit (hit a.word) f a.size (l.i + zeros) (has l.moved) c.if-size-i.false
          (up_to a.word l.rest l.i fits is c.loop-rest-test.true f a.size (has l.moved) l.invariant.2)
          (is-hit a.word l.rest l.i fits is c.loop-rest-test.true) _ image _ (c.with_cell-moved.ensures ∙ cell_taken _ _ _ numbered),
    )

pub returns : goal.returns
returns c =
    let a = c.args in
    let l = c.loop-rest in
    let f = to a.chart.now a.start in
    let end = l.i + (a.size - l.i) in
    taken_all (hit a.word) f a.size end _ (omega arith)
    (taken_past (hit a.word) f a.size l.i end (has l.moved) (omega arith)
    (λ j h g. word_done a.word l.i (omega arith) (sym l.invariant.1 ∙ c.loop-rest-test.false) j h) l.invariant.2)
