-- `Starts::rows_of` meets its contract: of what is no kind there are none. Assumes nothing.
use Prim.Native.Nat.{◌+◌, ◌-◌}
use mathlib.Core.Bool.{Bool, cond}
use mathlib.Core.List.{[]}
use mathlib.Core.Path.{sym, ap}
use borrow.Author.Tests.{lt-ltb, le-ltb}
use lib.ListN.{get_or, take, drop}
use Rattle.kept.specs.Starts.{part_of}
use Rattle.kept.proofs.starts.Starts.rows_of.Goals as goal

pub returns-then-kind-self : goal.returns-then-kind-self
unfolding part_of
returns-then-kind-self c =
    let a = c.args in
    let s = a.self.now in
    sym (ap (λ (b : Bool). cond b (take (get_or s.at (a.kind + 1) 0 - get_or s.at a.kind 0) (drop (get_or s.at a.kind 0) a.rows.now)) [])
    (lt-ltb a.kind s.kinds c.if-kind-self.true))

pub returns-else-kind-self : goal.returns-else-kind-self
unfolding part_of
returns-else-kind-self c =
    let a = c.args in
    let s = a.self.now in
    sym (ap (λ (b : Bool). cond b (take (get_or s.at (a.kind + 1) 0 - get_or s.at a.kind 0) (drop (get_or s.at a.kind 0) a.rows.now)) [])
    (le-ltb a.kind s.kinds c.if-kind-self.false))
