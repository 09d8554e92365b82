-- `emit` meets its contract: each way through the code is a case of the definition's `emit`. Assumes nothing.
use mathlib.Core.Bool.{true, false}
use mathlib.Core.List.{[]}
use mathlib.Core.Path.{◌≡◌, refl, sym, ap, ◌∙◌}
use native.Mathlib.Omega.{arith}
use Prim.Native.Nat.{ℕ, ◌+◌, ◌*◌, ◌-◌}
use lib.Seq.{paste}
use Rattle.std.proofs.lemmas.Slice.{put_mid-paste}
use Rattle.theorems.proofs.EmissionLaws.{emit_done, emit_full, emit_skipped, emit_written}
use Rattle.polycubes.specs.Emission.{emitted_of}
use Rattle.polycubes.proofs.emission.emit.Goals as goal

pub returns-then-e : goal.returns-then-e
returns-then-e c = sym (emit_done _ _ _ c.if-e.true)

pub returns-then-e-gt0 : goal.returns-then-e-gt0
returns-then-e-gt0 c =
    let e = c.args.e in
    (λ i. record { last = []; waiting = false; skip = e.skip - 1; written = e.written; further = c.if-e.false i; answers = c.args.entries.now })
    ∙ sym (emit_skipped _ _ (emitted_of e c.args.entries.now) refl c.if-e.false c.if-e-gt0.true)

pub returns-then-entries-e : goal.returns-then-entries-e
returns-then-entries-e c =
    let e = c.args.e in
    let none : e.skip ≡ 0 = omega (arith, c.if-e-gt0.false) in
    (λ i. record { last = []; waiting = false; skip = none i; written = e.written; further = true; answers = c.args.entries.now })
    ∙ sym (emit_full _ _ (emitted_of e c.args.entries.now) refl c.if-e.false c.if-e-gt0.false c.if-entries-e.true)

-- the entry has 21 bytes
pub returns : goal.returns
returns c =
    let e = c.args.e in
    let old = c.args.entries.now in
    let entry = c.args.entry.now in
    let none : e.skip ≡ 0 = omega (arith, c.if-e-gt0.false) in
    let at = e.written * 21 in
    let long = sym c.told-entry in
    let copied = c.copy_from_slice in
    let is = put_mid-paste at (at + 21 - at) old copied.new.self entry 21 copied.ensures.after (omega arith) long
    ∙ ap (λ (n : ℕ). paste old (e.written * n) entry n) long in
    (λ i. record { last = []; waiting = false; skip = none i; written = e.written + 1; further = c.if-e.false i; answers = is i })
    ∙ sym (emit_written _ _ (emitted_of e old) refl c.if-e.false c.if-e-gt0.false c.if-entries-e.false)
