-- `write_whole` meets its contract: the bytes of a write stand behind those written before. Assumes nothing.
use Prim.Native.Nat.{ℕ}
use lib.ListN.{drop, take}
use mathlib.Core.List.{List}
use mathlib.Core.Path.{subst}
use Rattle.std.specs.Io.KnownBytes.{Appends}
use Rattle.streams.proofs.WriteLaws.{appends_both, appends_kept, front_parts, front_taken, on_err}
use Rattle.streams.proofs.write_whole.Goals as goal

pub returns-in_err-done-clause-err : goal.returns-in_err-done-clause-err
returns-in_err-done-clause-err g c =
    let l = c.loop in
    on_err c.from_residual.result (front_taken _ _ l.done c.args.bytes.now (appends_kept _ _ _ (take l.done c.args.bytes.now) l.invariant.1 c.in_err-done.ensures.err))

pub loop-preserved : goal.loop-preserved
loop-preserved g c =
    let l = c.loop in
    let n = c.in_ok-done.done in
    let e = c.in_ok-done.ensures in
    let bytes = c.args.bytes.now in (
      e.within.1,
      subst (λ (xs : List ℕ). Appends (g.W.Write.contents c.args.writer.now) (g.W.Write.contents c.write_more.new.writer) xs) (front_parts l.done n bytes e.within.0)
          (appends_both _ _ _ (take l.done bytes) (drop l.done (take n bytes)) l.invariant.1 e.bytes),
    )

pub returns-clause-err : goal.returns-clause-err
returns-clause-err g c = front_taken _ _ c.loop.done c.args.bytes.now c.loop.invariant.1
