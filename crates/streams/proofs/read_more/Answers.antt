-- `read_more` meets its contract: what the read gave stands behind the first n bytes. Assumes nothing.
use Prim.Native.Nat.{ℕ, ◌-◌}
use lib.ListN.{length, drop}
use mathlib.Core.List.{List}
use mathlib.Core.Path.{◌≡◌, sym, ◌∙◌, subst}
use native.Mathlib.Omega.{arith}
use Rattle.std.proofs.lemmas.List.{length-take-le, length-drop}
use Rattle.std.specs.Io.KnownBytes.{Consumes}
use Rattle.streams.proofs.ReadLaws.{read_behind}
use Rattle.streams.proofs.read_more.Goals as goal

pub returns-clause-bytes : goal.returns-clause-bytes
returns-clause-bytes g c =
    let a = c.args in
    let e : length c.read.new.buf ≡ length a.text.now - a.n =
    c.read.auto.buf ∙ length-take-le (length a.text.now - a.n) (drop a.n a.text.now) (omega (arith, length-drop a.n a.text.now)) in
    subst (λ (xs : List ℕ). Consumes (g.R.Read.remaining a.input.now) (g.R.Read.remaining c.read.new.self) xs)
    (sym (read_behind a.n c.in_ok-got.got a.text.now c.read.new.buf c.requires e)) c.in_ok-got.ensures.bytes.0
