-- Each turn of the loop puts a cell, and a space before it where it is not the first. Assumes nothing.
use Rattle.std.proofs.Common.{◌≡◌, ℕ, ◌+◌, ◌*◌, ◌<◌, ◌≤◌, List, length, take, drop, subst, sym, ap, ap₂, ◌∙◌, arith}
use Rattle.std.proofs.Math.ListN.{length-set}
use Rattle.definitions.specs.Files.{cell_shown, cells_shown}
use Rattle.texts.specs.Put.{Put}
use Rattle.texts.proofs.PutLaws.{put_from}
use Rattle.files.proofs.ListingLaws.{chunk_is, put_first_cell, put_next_cell}
use Rattle.files.proofs.printing.put_cells.Goals as goal
use Rattle.files.proofs.printing.put_cells.Goals.{then-i-gt0, else-i-gt0}

pub loop-i-preserved : goal.loop-i-preserved
loop-i-preserved c =
    let l = c.loop-i in
    let n = l.i-iterator.count in
    let a = c.args in
    let z = c.put_cell-end in
    let out = c.if-i-gt0.out in
    let answer = a.answer.now in
    let step = c.in-Some.ensures.steps in
    let first : c.in-Some.i ≡ n = step.1 in
    let more : c.next.new.self.count ≡ n + 1 = step.2 in
    let chunk = chunk_is answer c.in-Some.cell.now c.next.new.self.iter.rest.now n (sym l.invariant.3 ∙ step.0.1.0) (step.0.1.1 ∙ l.invariant.4) in
    let within : 2 * n + 1 < length answer = chunk.0 in
    let put = subst (λ (xs : List ℕ). Put out c.if-i-gt0.end xs z.new.out z.result) (ap₂ cell_shown chunk.1 chunk.2) z.ensures.0 in
    let long : length out ≡ length a.out.now =
    elim c.if-i-gt0.branch [
      | then-i-gt0 w ↦ ap length w.out-is ∙ length-set l.out l.end 32 ∙ l.invariant.0
      | else-i-gt0 w ↦ ap length w.out-is ∙ l.invariant.0
    ] in
    let before : c.if-i-gt0.end ≤ a.at + 8 * n + 1 = elim c.if-i-gt0.branch [ then-i-gt0 w ↦ omega arith | else-i-gt0 w ↦ omega arith ] in
    let most : z.result ≤ a.at + 8 * (n + 1) = omega arith in (
      z.auto.out ∙ long,
      omega arith,
      omega arith,
      chunk.3 ∙ ap (λ (k : ℕ). drop (2 * k) answer) (sym more),
      step.0.0 ∙ l.invariant.4,
      subst (λ (k : ℕ). Put a.out.now a.at (cells_shown (take (2 * k) answer)) z.new.out z.result) (sym more)
          (elim c.if-i-gt0.branch [
            | then-i-gt0 w ↦ put_next_cell answer n within l.invariant.5 (omega (arith, w.if-i-gt0.true)) (put_from w.out-is w.end-is put) (omega arith)
            | else-i-gt0 w ↦ put_first_cell answer n within l.invariant.5 (omega (arith, w.if-i-gt0.false)) (put_from w.out-is w.end-is put) (omega arith)
          ]),
    )
