use Prim.Native.Nat.{ℕ, ◌*◌, ◌≤◌}
use mathlib.Core.List.{List}
use mathlib.Core.Path.{◌≡◌, ap₂, ◌∙◌}
use native.Mathlib.Omega.{arith}
use lib.ListN.{length, take, length-set}
use lib.Seq.{paste}
use Rattle.rows.specs.Answering.{told_of}
use Rattle.rows.proofs.AnsweringLaws.{answer_stored}
use Rattle.rows.proofs.TellingLaws.{told_bytes}
use Rattle.rows.proofs.answers.reconstruct_answer.Goals as goal

pub loop-i-preserved : goal.loop-i-preserved
loop-i-preserved c =
    let a = c.args in
    let l = c.loop-i in
    let long : a.d.places ≤ length a.chart.now.scans = omega arith in (
      simp length-set l.invariant.0,
      answer_stored (told_of c.tell_cells-told.result) a.chart.now.scans a.answers.now a.at a.d.places long c.requires.2 l.i (omega arith) l.answers
          l.invariant.1 c.copy_at-c.result c.copy_at-c.ensures,
    )

pub returns : goal.returns
returns c =
    let a = c.args in
    let l = c.loop-i in
    let e : l.i ≡ a.d.places = omega arith in
    let answer = told_bytes a.d a.work.now a.chart.now a.path.now c.requires.0 c.tell_cells-told.result c.tell_cells-told.ensures
    (take a.d.places a.chart.now.scans) in
    l.invariant.1 ∙ ap₂ (λ (l : List ℕ) (k : ℕ). paste a.answers.now a.at l (2 * k)) answer e
