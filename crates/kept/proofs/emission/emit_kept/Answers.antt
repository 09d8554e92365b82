-- `emit_kept` meets its contract: its rows in ascending order stand kind by kind, and give the packing's answer. Assumes nothing.
use Rattle.rows.proofs.StandingLaws.{stands}
use Rattle.kept.specs.Emission.{emitted_of}
use Rattle.kept.specs.Wanted.{identified}
use Rattle.kept.proofs.EmitLaws.{sorted_rows, sorted_kinds, sorted_up, sorted_held, emit_left, emit_put}
use Rattle.kept.proofs.emission.emit_kept.Goals as goal

pub is_normal_form-requires : goal.is_normal_form-requires
is_normal_form-requires c =
    let a = c.args in
    let system = a.wanted.now.system in
    let ready = stands system in
    let p = c.requires in
    let r = c.sort_path in (
      sorted_rows system.d system.work.now system.chart.now ready a.path.now p.0 p.1 r.new.sorted r.ensures,
      sorted_kinds system.d system.work.now system.chart.now ready a.path.now p.0 p.1 r.new.sorted r.ensures,
      sorted_up system.d system.work.now system.chart.now ready a.path.now p.0 p.1 r.new.sorted r.ensures,
    )

pub returns-then-not-is_normal_form : goal.returns-then-not-is_normal_form
returns-then-not-is_normal_form c =
    let a = c.args in
    let system = a.wanted.now.system in
    let wanted = a.wanted.now in
    let ready = stands system in
    let p = c.requires in
    let r = c.sort_path in
    let v = c.is_normal_form in
    emit_left system.d system.work.now system.chart.now ready a.path.now p.0 p.1 r.new.sorted r.ensures (identified wanted) wanted.capacity
    (emitted_of a.e wanted.last.now a.answers.now) v.result v.ensures c.if-not-is_normal_form.true

pub emit_answer-requires : goal.emit_answer-requires
emit_answer-requires c =
    let a = c.args in
    let system = a.wanted.now.system in
    let ready = stands system in
    let p = c.requires in
    let r = c.sort_path in
    (sorted_held system.d system.work.now system.chart.now ready a.path.now p.0 p.1 r.new.sorted r.ensures, p.2)

pub returns : goal.returns
returns c =
    let a = c.args in
    let system = a.wanted.now.system in
    let wanted = a.wanted.now in
    let ready = stands system in
    let p = c.requires in
    let r = c.sort_path in
    let v = c.is_normal_form in
    emit_put system.d system.work.now system.chart.now ready a.path.now p.0 p.1 r.new.sorted r.ensures (identified wanted) wanted.capacity
    (emitted_of a.e wanted.last.now a.answers.now) v.result v.ensures c.if-not-is_normal_form.false _ c.emit_answer.ensures
