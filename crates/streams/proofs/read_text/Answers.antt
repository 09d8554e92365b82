-- `read_text` meets its contract: the bytes of a read stand behind those read before. Assumes nothing.
use Prim.Native.Nat.{ℕ}
use lib.ListN.{drop, take}
use mathlib.Core.List.{List, ◌++◌}
use mathlib.Core.Path.{sym, ap, ◌∙◌, subst}
use Rattle.std.specs.Io.KnownBytes.{Consumes}
use Rattle.streams.proofs.ReadLaws.{consumes_both}
use Rattle.streams.proofs.WriteLaws.{front_parts}
use Rattle.streams.proofs.read_text.Goals as goal

pub loop-n-preserved : goal.loop-n-preserved
loop-n-preserved g c =
    let l = c.loop-n in
    let n = c.in_ok-next.next in
    let r = c.read_more in
    let e = c.in_ok-next.ensures in (
      e.within.1,
      r.auto.text ∙ l.invariant.1,
      subst (λ (xs : List ℕ). Consumes (g.R.Read.remaining c.args.input.now) (g.R.Read.remaining r.new.input) xs)
          (ap (λ (xs : List ℕ). xs ++ drop l.n (take n r.new.text)) (sym r.ensures.kept) ∙ front_parts l.n n r.new.text e.within.0)
          (consumes_both _ _ _ (take l.n l.text) (drop l.n (take n r.new.text)) l.invariant.2 e.bytes),
    )
