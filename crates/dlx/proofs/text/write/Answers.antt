-- `write` puts each line behind those before it. Assumes nothing.
use Rattle.std.proofs.Common.{◌≡◌, ℕ, ◌+◌, List, length, refl, sym, ap, ◌∙◌, arith}
use Rattle.std.proofs.Math.ListN.{length-append}
use Rattle.definitions.specs.Outcomes.{over_start}
use Rattle.rows.proofs.StandingLaws.{stands}
use Rattle.texts.proofs.PutLaws.{put_by, put_then}
use Rattle.dlx.proofs.TextLaws.{text_to, text_none, next_option, next_none, text_all, text_within, put_at_start, put_taken}
use Rattle.dlx.proofs.text.write.Goals as goal
use Rattle.dlx.proofs.text.write.Goals.{then-has_copies, else-has_copies}

pub put_bytes-end-requires : goal.put_bytes-end-requires
put_bytes-end-requires c =
    let s = c.args.system.now in
    let first = ap (λ (l : List ℕ). length l) (put_taken c.put_items-n.ensures.0 ∙ sym (text_none s.d s.work.now s.chart.now)) in
    let within = text_within s.d s.work.now s.chart.now (stands s).lawful 0 (omega arith) in
    let room = c.requires.1 in
    omega arith

pub loop-r-init : goal.loop-r-init
loop-r-init c =
    let s = c.args.system.now in
    put_by refl refl (put_taken c.put_items-n.ensures.0 ∙ sym (text_none s.d s.work.now s.chart.now)) c.put_bytes-end.ensures

-- row r has a line, which is put: the text up to it ends within the output
pub put_bytes-end-requires-then-has_copies : goal.put_bytes-end-requires-then-has_copies
put_bytes-end-requires-then-has_copies c =
    let s = c.args.system.now in
    let l = c.loop-r in
    let line = ap (λ (t : List ℕ). length t) (put_taken c.put_option-n.ensures.0) in
    let is = next_option s.d s.work.now s.chart.now l.r (sym c.has_copies.ensures ∙ c.if-has_copies.true) in
    let next = ap (λ (t : List ℕ). length t) is ∙ length-append (text_to s.d s.work.now s.chart.now l.r) _ in
    let within = text_within s.d s.work.now s.chart.now (stands s).lawful (l.r + 1) (omega arith) in
    let room = c.requires.1 in
    let end = l.invariant.end in
    let same = l.auto.output in
    omega arith

pub loop-r-preserved : goal.loop-r-preserved
loop-r-preserved c =
    let s = c.args.system.now in
    let l = c.loop-r in
    elim c.if-has_copies.branch [
      | then-has_copies w ↦
          let put = w.put_bytes-end-then-has_copies in
          let is = next_option s.d s.work.now s.chart.now l.r (sym c.has_copies.ensures ∙ w.if-has_copies.true) in
          let line = put_taken w.put_option-n.ensures.0 in
          let next = ap (λ (t : List ℕ). length t) is ∙ length-append (text_to s.d s.work.now s.chart.now l.r) _ in
          let within = text_within s.d s.work.now s.chart.now (stands s).lawful (l.r + 1) (omega arith) in
          let here = put_by refl refl line put.ensures in
          let start = l.invariant.end in
          let end = here.end in
          let room = c.requires.1 in
          let both = put_then l.invariant here (omega arith) in
          put_by w.output-is w.end-is (sym is) both
      | else-has_copies w ↦ put_by w.output-is w.end-is (sym (next_none s.d s.work.now s.chart.now l.r (sym c.has_copies.ensures ∙ w.if-has_copies.false))) l.invariant
    ]

pub returns : goal.returns
returns c =
    let s = c.args.system.now in
    let l = c.loop-r in
    let e : l.r ≡ s.d.rows = omega arith in
    put_at_start l.invariant ∙ ap (λ (t : List ℕ). over_start t c.args.output.now) (ap (λ (r : ℕ). text_to s.d s.work.now s.chart.now r) e ∙ text_all s.d s.work.now s.chart.now (stands s).lawful)
