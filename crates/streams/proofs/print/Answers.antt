-- What `Going` gives after a step. Assumes nothing.
use Rattle.std.proofs.Common.{◌∙◌}
use Rattle.streams.proofs.PrintLaws.{going_cut, going_end, going_next}
use Rattle.std.proofs.lemmas.Result.{on_err_weaker, on_ok_weaker}
use Rattle.streams.proofs.WriteLaws.{on_err}
use Rattle.streams.proofs.print.Goals as goal

pub loop-further-preserved : goal.loop-further-preserved
loop-further-preserved g c =
    let l = c.loop-further in
    let s = c.step-made in (
      going_next _ _ c.args.text.now l.cells l.answers l.work l.links l.out l.progress l.invariant.0 _ _ _ _ _ s.result s.ensures _ s.auto.out c.in_ok-write_whole.ensures.ok
          c.in-Some.further c.in-Some.is,
      s.auto.cells ∙ l.invariant.1,
      s.auto.answers ∙ l.invariant.2,
      s.auto.work ∙ l.invariant.3,
      s.auto.links ∙ l.invariant.4,
      s.auto.out ∙ l.invariant.5,
    )

pub returns-in_err-write_whole-clause-err : goal.returns-in_err-write_whole-clause-err
returns-in_err-write_whole-clause-err g c =
    let l = c.loop-further in
    let s = c.step-made in
    on_err c.from_residual.result
    (going_cut _ _ c.args.text.now l.cells l.answers l.work l.links l.out l.progress l.invariant.0 _ _ _ _ _ s.result s.ensures _ c.in_err-write_whole.ensures.err)

pub returns-in_default-clause-ok : goal.returns-in_default-clause-ok
returns-in_default-clause-ok g c =
    let l = c.loop-further in
    let s = c.step-made in
    on_ok_weaker c.write_last.result
    (λ a. going_end _ _ c.args.text.now l.cells l.answers l.work l.links l.out l.progress l.invariant.0 _ _ _ _ _ s.result s.ensures _ a c.in_default.is) c.write_last.ensures.ok

pub returns-in_default-clause-err : goal.returns-in_default-clause-err
returns-in_default-clause-err g c =
    let l = c.loop-further in
    let s = c.step-made in
    on_err_weaker c.write_last.result
    (λ a. going_cut _ _ c.args.text.now l.cells l.answers l.work l.links l.out l.progress l.invariant.0 _ _ _ _ _ s.result s.ensures _ a) c.write_last.ensures.err
