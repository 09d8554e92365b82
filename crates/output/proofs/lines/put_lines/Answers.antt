-- The lines of the entries passed are made, and what was to be printed is these bytes and then the rest. Assumes nothing.
use Rattle.std.proofs.Common.{◌+◌, ◌*◌, ◌≤◌, length, drop, take, subst, ◌∙◌, arith}
use Rattle.definitions.specs.Files.{entry_line}
use Rattle.texts.specs.Put.{Put}
use Rattle.theorems.proofs.EmissionLaws.{room}
use Rattle.output.proofs.RestLaws.{entry_lies, rest_more, kept_behind, line_some}
use Rattle.output.proofs.lines.put_lines.Goals as goal

pub loop-i-preserved : goal.loop-i-preserved
loop-i-preserved c =
    let l = c.loop-i in
    let a = c.args in
    let m = l.invariant in
    let z = c.put_entry-made in
    let size = 2 * a.places in
    let h = room l.i a.end size (length a.answers.now) (omega arith) c.requires.3 in
    let lies = entry_lies a.answers.now l.i size h in
    let p : Put l.out l.made (entry_line (a.base + l.i) (take size (drop (l.i * size) a.answers.now))) z.new.out z.result =
    subst (λ x. Put l.out l.made (entry_line (a.base + l.i) x) z.new.out z.result) lies.0 z.ensures.0 in
    let e = p.end in
    let n = line_some (a.base + l.i) (take size (drop (l.i * size) a.answers.now)) in
    let k = m.long in
    let most = z.ensures.1 in
    let long = lies.1 in
    let fit : l.made ≤ length l.out = omega arith in
    record {
      long = z.auto.out ∙ m.long;
      later = λ h. omega arith;
      some = omega arith;
      fits = omega arith;
      behind = kept_behind a.out.now p fit m.behind;
      rest = λ list s. rest_more list l.i s (omega arith) (omega arith) p fit (m.rest list s);
    }
