-- `Starts::of` meets its contract: the counts of the kinds before add up. Assumes nothing.
use Prim.Native.Nat.{ℕ, ◌+◌, ◌≤◌, ◌<◌}
use mathlib.Core.List.{List}
use mathlib.Core.Path.{◌≡◌, sym, ap, ◌∙◌}
use native.Mathlib.Omega.{arith}
use lib.ListN.{get_or, set, length, length-set}
use Rattle.kept.specs.Normal.{KindStarts, start_of}
use Rattle.kept.proofs.StartLaws.{start_zero, start_next, start_set, starts_rise}
use Rattle.kept.proofs.starts.Starts.of.Goals as goal

pub loop-k-init : goal.loop-k-init
loop-k-init c =
    let a = c.args in
    record { long = omega arith; few = omega arith; here = sym (start_zero a.work.now a.rows.now); before = λ j h. absurd (omega arith) }

pub loop-k-preserved : goal.loop-k-preserved
loop-k-preserved c =
    let a = c.args in
    let l = c.loop-k in
    let u = c.used_before-at in
    let few = u.ensures.1 in
    let next = start_next a.work.now a.rows.now l.k u.result u.ensures.0 in
    record {
      long = length-set l.starts l.k l.at ∙ l.invariant.long;
      few = omega arith;
      here = let e = l.invariant.here in omega arith;
      before = start_set a.work.now a.rows.now l.starts l.k l.at (omega arith) l.invariant.here l.invariant.before;
    }

-- the starts that are handed back
made : (work rows : List ℕ) (kinds at k : ℕ) (starts : List ℕ) → kinds ≤ 16 → k ≡ kinds → length starts ≡ 17 → at ≡ start_of work rows k
    → ((j : ℕ) → j < k → get_or starts j 0 ≡ start_of work rows j) → KindStarts work rows kinds (set starts kinds at)
made work rows kinds at k starts few e long here before j h =
    start_set work rows starts kinds at (omega arith) (here ∙ ap (start_of work rows) e) (λ i l. before i (omega arith)) j (omega arith)

pub invariant_of-result : goal.invariant_of-result
invariant_of-result c =
    let a = c.args in
    let l = c.loop-k in
    let v = l.invariant in
    let are = made a.work.now a.rows.now a.kinds l.at l.k l.starts (omega arith) (omega arith) v.long v.here v.before in
    record {
      few = c.requires.0;
      rise = λ k h. let p = are k (omega arith) in let q = are (k + 1) (omega arith) in let r = starts_rise a.work.now a.rows.now k in omega arith;
    }
