-- `emit_answer` meets its contract: each way through the code is a case of `emit`. Assumes nothing.
use mathlib.Core.Bool.{not}
use mathlib.Core.Path.{refl, sym, ap}
use Rattle.definitions.specs.declared.Start.TheVariants.{Behind, Entry}
use Rattle.theorems.proofs.EmissionLaws.{emit_done}
use Rattle.rows.specs.Answering.{taken_in}
use Rattle.kept.proofs.EmitLaws.{full, passed, put, skipped}
use Rattle.kept.proofs.emission.emit_answer.Goals as goal

pub returns-then-e : goal.returns-then-e
returns-then-e c = sym (emit_done _ _ _ c.if-e.true)

pub returns-then-met : goal.returns-then-met
returns-then-met c =
    let a = c.args in
    let w = a.wanted.now in
    let m = c.is_answer-met in
    passed a.e w.last.now a.answers.now w.capacity _ c.if-e.false c.in-Behind.is (Entry 0) m.result m.ensures (ap not (sym c.if-met.true)) refl

pub returns-else-met : goal.returns-else-met
returns-else-met c =
    let a = c.args in
    let w = a.wanted.now in
    let m = c.is_answer-met in
    passed a.e w.last.now a.answers.now w.capacity _ c.if-e.false c.in-Behind.is Behind m.result m.ensures (ap not (sym c.if-met.false)) refl

pub returns-in-Entry : goal.returns-in-Entry
returns-in-Entry c =
    let a = c.args in
    let w = a.wanted.now in
    skipped a.e w.last.now a.answers.now w.capacity _ c.if-e.false c.in-Entry.skip c.in-Entry.is c.if-skip-gt0.true

pub returns-in-Entry-2 : goal.returns-in-Entry-2
returns-in-Entry-2 c =
    let a = c.args in
    let s = a.wanted.now.system in
    let w = a.wanted.now in
    let taken = taken_in s.d s.work.now s.chart.now a.rows.now in
    put a.e w.last.now a.answers.now w.capacity _ c.if-e.false c.in-Entry.skip c.in-Entry.is c.if-skip-gt0.false taken s.chart.now.scans s.d.places
    s.sized.scans_fit refl c.if-e-wanted.true c.reconstruct_answer.new.answers c.reconstruct_answer.ensures

pub returns-in-Entry-3 : goal.returns-in-Entry-3
returns-in-Entry-3 c =
    let a = c.args in
    let w = a.wanted.now in
    full a.e w.last.now a.answers.now w.capacity _ c.if-e.false c.in-Entry.skip c.in-Entry.is c.if-skip-gt0.false c.if-e-wanted.false
