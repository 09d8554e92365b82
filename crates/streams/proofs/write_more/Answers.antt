-- `write_more` meets its contract: what the write took stands behind the first `done` bytes. Assumes nothing.
use Prim.Native.Nat.{ℕ, ◌-◌}
use lib.ListN.{length, take, drop}
use mathlib.Core.List.{List}
use mathlib.Core.Path.{sym, ap, ◌∙◌, subst}
use native.Mathlib.Omega.{arith}
use Rattle.std.proofs.lemmas.List.{drop-take, length-drop, take_all}
use Rattle.std.specs.Io.KnownBytes.{Appends}
use Rattle.streams.proofs.write_more.Goals as goal

pub returns-else-taken-eq0-clause-bytes : goal.returns-else-taken-eq0-clause-bytes
returns-else-taken-eq0-clause-bytes g c =
    let a = c.args in
    let n = c.in-Ok.taken in
    let rest = drop a.done a.bytes.now in
    subst (λ (xs : List ℕ). Appends (g.W.Write.contents a.writer.now) (g.W.Write.contents c.write.new.self) xs)
    (ap (λ (xs : List ℕ). take n xs) (take_all (length a.bytes.now - a.done) rest (omega (arith, length-drop a.done a.bytes.now)))
    ∙ sym (drop-take a.done n a.bytes.now))
    c.in-Ok.ensures.bytes
