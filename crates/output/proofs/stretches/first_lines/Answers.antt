-- The first stretch is a refusal's line, or the first lines of the listing. Assumes nothing.
use Rattle.std.proofs.Common.{◌<◌, false, true, drop, sym, ap, ◌∙◌, arith}
use native.Mathlib.Nat.{le_trans, le_of_eq}
use Rattle.placements.proofs.CountingLaws.{refused_some}
use Rattle.output.proofs.StretchLaws.{scratch_same}
use Rattle.output.proofs.StepLaws.{packed_malformed, packed_refused, packed_listed, scratch_then, refused_step, is-file, read_is, cells-behind, still_read, first_step}
use Rattle.output.proofs.stretches.first_lines.Goals as goal

pub returns-in_default : goal.returns-in_default
returns-in_default c =
    let x = c.args in
    let room = c.requires.1 in
    let told = is-file x.text.now x.cells.now false c.requires.0.long_cells c.in_default.ensures.0 in
    refused_step x.text.now 16 x.cells.now x.work.now x.links.now x.out.now _ _ _ _ _ c.refused_line.result
    (packed_malformed x.text.now told) c.refused_line.ensures (omega arith) (ap (drop 16384) c.in_default.ensures.1) (scratch_same _ _)

pub returns-in-Err : goal.returns-in-Err
returns-in-Err c =
    let x = c.args in
    let room = c.requires.1 in
    let asked = c.in-Some.asked in
    let file = is-file x.text.now x.cells.now true c.requires.0.long_cells c.in-Some.ensures.0 in
    let asks = c.in-Some.ensures.1 in
    let begins = c.in-Err.ensures in
    let none = refused_some c.in-Err.why in
    let number = c.number.ensures in
    let some : 0 < c.number.result = omega arith in
    refused_step x.text.now c.number.result x.cells.now x.work.now x.links.now x.out.now _ _ _ _ _ c.refused_line-in-Err.result
    (packed_refused x.text.now c.number.result file (c.number.ensures ∙ begins.first) some) c.refused_line-in-Err.ensures (omega arith)
    (cells-behind _ _ asked.used asks.few asks.behind) begins.scratch

pub returns-in-Ok : goal.returns-in-Ok
returns-in-Ok c =
    let x = c.args in
    let ready = c.requires.0 in
    let asked = c.in-Some.asked in
    let long = le_trans ready.long_cells (le_of_eq (sym c.read_file.auto.cells)) in
    let file = is-file x.text.now x.cells.now true ready.long_cells c.in-Some.ensures.0 in
    let asks = c.in-Some.ensures.1 in
    let is = read_is x.text.now x.cells.now asked c.read_file.new.cells x.work.now x.links.now asks long ready.words ready.numbers in
    let first = c.first_page in
    let begins = c.in-Ok.ensures in
    let held = begins.first in
    let still = still_read x.text.now asked c.in-Ok.held.asked _ x.work.now x.links.now _ _ is held.asked_same first.auto.work first.auto.links in
    let n = c.next_lines in
    first_step x.text.now c.in-Ok.held _ _ _ _ x.out.now _ _ _ _ n.result
    long (le_trans ready.long_answers (le_of_eq (sym first.auto.answers))) still n.ensures.0
    n.auto.answers n.auto.work n.auto.links
    x.cells.now x.work.now x.links.now (packed_listed x.text.now file held.accepted) held.start
    (cells-behind _ _ asked.used asks.few asks.behind) (scratch_then begins.scratch n.ensures.1)
