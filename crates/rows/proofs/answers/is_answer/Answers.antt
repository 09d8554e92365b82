use Prim.Native.Nat.{ℕ, ◌≤◌}
use mathlib.Core.Bool.{Bool}
use mathlib.Core.List.{List}
use mathlib.Core.Path.{◌≡◌, ap, ◌∙◌}
use native.Mathlib.Omega.{arith}
use lib.ListN.{length, take}
use Rattle.lists.specs.Lists.{same}
use Rattle.definitions.specs.Answers.{copy_on}
use Rattle.rows.specs.declared.Dims.{Dims}
use Rattle.lists.specs.Lists.{below}
use Rattle.rows.specs.Answering.{Held, answers_over, taken_in, told_of}
use Rattle.rows.proofs.AnsweringLaws.{agreed_more, agreed_all, bytes_over, sizes_apart, pieces_apart, copies_apart}
use Rattle.rows.proofs.TellingLaws.{told_bytes}
use Rattle.rows.proofs.answers.is_answer.Goals as goal
use Rattle.rows.proofs.answers.is_answer.Goals.{then-last-i-via-then-last-i, then-last-i-via-else-last-i+then-last-i-2}
use Rattle.rows.specs.declared.chart.Chart.{Chart}

-- the bytes that are told are the answer's
alike : (d : Dims) (work : List ℕ) (chart : Chart) (path told last : List ℕ) → Held d work chart path
    → told ≡ answers_over (taken_in d work chart path) (below 128) → (b : Bool)
    → let on = take d.places chart.scans in
    b ≡ same (bytes_over (told_of told) on) last → b ≡ same (answers_over (taken_in d work chart path) on) last
alike d work chart path told last held is b e =
    e ∙ ap (λ (l : List ℕ). same l last) (told_bytes d work chart path held told is (take d.places chart.scans))

pub returns-then-last-d : goal.returns-then-last-d
unfolding answers_over
returns-then-last-d c =
    let a = c.args in
    sizes_apart (copy_on (taken_in a.d a.work.now a.chart.now a.path.now)) a.chart.now.scans a.last.now a.d.places
    (omega arith) c.if-last-d.true

pub returns-then-last-i : goal.returns-then-last-i
returns-then-last-i c =
    let a = c.args in
    let told = c.tell_cells-told.result in
    let long : a.d.places ≤ length a.chart.now.scans = omega arith in
    let d = c.copy_at-c in
    alike a.d a.work.now a.chart.now a.path.now told a.last.now c.requires.0 c.tell_cells-told.ensures _
    (elim c.then-last-i.branch [
      | then-last-i-via-then-last-i w ↦
          pieces_apart (told_of told) a.chart.now.scans a.last.now a.d.places long c.loop-i.i c.loop-i-test.true d.result d.ensures w.if-last-i.true
      | then-last-i-via-else-last-i+then-last-i-2 w ↦
          copies_apart (told_of told) a.chart.now.scans a.last.now a.d.places long c.loop-i.i c.loop-i-test.true d.result d.ensures w.if-last-i-2.true
    ])

pub loop-i-preserved : goal.loop-i-preserved
loop-i-preserved c =
    let a = c.args in
    let l = c.loop-i in
    agreed_more (told_of c.tell_cells-told.result) a.chart.now.scans a.last.now a.d.places (omega arith) l.i l.invariant
    c.loop-i-test.true c.copy_at-c.result c.copy_at-c.ensures c.if-last-i.false c.if-last-i-2.false

pub returns : goal.returns
returns c =
    let a = c.args in
    let l = c.loop-i in
    let told = c.tell_cells-told.result in
    alike a.d a.work.now a.chart.now a.path.now told a.last.now c.requires.0 c.tell_cells-told.ensures _
    (agreed_all (told_of told) a.chart.now.scans a.last.now a.d.places (omega arith) l.i l.invariant c.loop-i-test.false)
