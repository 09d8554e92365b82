-- `list` meets its contract: the links that are built are where a search begins, what the search emits is the list, and what lies behind the links is as it
-- was. Assumes nothing.
use Prim.Native.Nat.{◌+◌}
use mathlib.Core.Path.{refl, ap, ◌∙◌}
use lib.ListN.{length}
use native.Mathlib.Omega.{arith}
use Rattle.kept.specs.Emission.{emitted_of}
use Rattle.definitions.specs.Refusals.{identifies}
use Rattle.rows.proofs.StandingLaws.{stands}
use Rattle.links.specs.Build.{whole, every_column}
use Rattle.knuth.specs.Matrix.{matrix_of}
use Rattle.rows.specs.Systems.{system_in}
use Rattle.knuth.proofs.KnuthPageLaws.{begins, choosable, lists}
use Rattle.knuth.proofs.listing.list.Goals as goal
use Rattle.std.proofs.lemmas.Slice.{drop-append-drop}

-- every row is possible, and none is chosen
pub choose-requires-clause-choosable : goal.choose-requires-clause-choosable
choose-requires-clause-choosable c =
    let y = c.args.system.now in
    rw (c.new-wanted.ensures.system, c.new-path.ensures) (choosable y.d y.work.now y.chart.now c.build_links.new.links c.build_links.ensures)

pub returns-clause-page : goal.returns-clause-page
returns-clause-page c =
    let a = c.args in
    let y = a.system.now in
    let S = system_in y.d y.work.now y.chart.now in
    let wanted = c.new-wanted.ensures in
    let links = c.build_links.new.links in
    let b = c.build_links.ensures in
    let old = emitted_of a.e a.last.now a.answers.now in
    rw (← lists y.d y.work.now y.chart.now links b (stands y).lawful (identifies a.turned a.mirrored) a.capacity old)
    (rw (c.new-path.ensures, wanted.last, wanted.system, wanted.room, wanted.identified.0, wanted.identified.1) at (c.choose.ensures.found
    (whole (matrix_of S) b.law) every_column b.copies (y.d.size + 1) (rw wanted.system (begins y.d y.work.now y.chart.now links b)) (rw wanted.system refl)
    (omega arith)))

pub returns-clause-behind : goal.returns-clause-behind
returns-clause-behind c =
    drop-append-drop 32768 c.args.links.now c.choose.new.links 32768 (omega arith) (ap length c.choose.ensures.same.0 ∙ c.build_links.array_long)
