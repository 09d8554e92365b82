-- `measure` counts each line once. Assumes nothing.
use Rattle.std.proofs.Common.{◌≡◌, ℕ, List, length, sym, ap, ◌∙◌, arith}
use Rattle.std.proofs.Math.ListN.{length-append}
use Rattle.rows.proofs.StandingLaws.{stands}
use Rattle.dlx.proofs.TextLaws.{text_to, text_none, next_option, next_none, text_all}
use Rattle.dlx.proofs.text.measure.Goals as goal
use Rattle.dlx.proofs.text.measure.Goals.{then-has_copies, else-has_copies}

pub loop-r-init : goal.loop-r-init
loop-r-init c =
    let s = c.args.system.now in
    let put = c.put_items-length.ensures in
    let e = put.0.end in
    let n = ap (λ (l : List ℕ). length l) (text_none s.d s.work.now s.chart.now) in
    (omega arith, put.1)

pub loop-r-preserved : goal.loop-r-preserved
loop-r-preserved c =
    let s = c.args.system.now in
    let l = c.loop-r in
    elim c.if-has_copies.branch [
      | then-has_copies w ↦
          let put = w.put_option-length.ensures in
          let e = put.0.end in
          let is = next_option s.d s.work.now s.chart.now l.r (sym c.has_copies.ensures ∙ w.if-has_copies.true) in
          let n = ap (λ (t : List ℕ). length t) is ∙ length-append (text_to s.d s.work.now s.chart.now l.r) _ in
          (omega arith, omega arith)
      | else-has_copies w ↦
          let is = next_none s.d s.work.now s.chart.now l.r (sym c.has_copies.ensures ∙ w.if-has_copies.false) in
          let n = ap (λ (t : List ℕ). length t) is in
          (omega arith, omega arith)
    ]

pub returns : goal.returns
returns c =
    let s = c.args.system.now in
    let l = c.loop-r in
    let e : l.r ≡ s.d.rows = omega arith in
    l.invariant.0 ∙ ap (λ (r : ℕ). length (text_to s.d s.work.now s.chart.now r)) e
    ∙ ap (λ (t : List ℕ). length t) (text_all s.d s.work.now s.chart.now (stands s).lawful)
