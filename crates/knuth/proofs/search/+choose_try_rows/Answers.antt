-- `choose` and `try_rows` meet their contracts: the measure is the number of uncovered cells, then the rows left in the column. Assumes nothing.
use native.Mathlib.Omega.{arith}
use mathlib.Core.Path.{refl, ap, ◌∙◌}
use Rattle.kept.specs.Emission.{emit_kept, emitted_of}
use Rattle.kept.specs.Wanted.{identified}
use Rattle.rows.specs.RowSystems.{seen}
use Rattle.links.specs.Links.{size_of}
use Rattle.links.specs.Search.{has_row, pivot}
use Rattle.links.proofs.Tally.{counted}
use Rattle.links.proofs.Search.{seek_cells, try_small, try_sized, try_selectable, try_sub, try_selected, try_back, try_less, try_below}
use Rattle.rows.proofs.StandingLaws.{stands}
use Rattle.kept.proofs.WantedLaws.{leads_while}
use Rattle.knuth.proofs.CycleStepLaws.{of_seek, column_tryable, path_room, row_below, row_bound, longer_rows, row_choosable}
use Rattle.knuth.proofs.CycleStepLaws.{next_tryable, found_leaf, found_few, found_none, found_rows, found_head, found_stop, found_on, found_passed}
use Rattle.knuth.proofs.search.+choose_try_rows.Goals as goal

pub choose-returns-then-left-eq0-clause-found : goal.choose-returns-then-left-eq0-clause-found
choose-returns-then-left-eq0-clause-found t c = λ w uncovered copies g s e h.
    let a = c.args in
    let y = a.wanted.now.system in
    let put = c.emit_kept in
    let old = emitted_of a.e a.wanted.now.last.now a.answers.now in
    let new = emitted_of put.result a.wanted.now.last.now put.new.answers in
    found_leaf y.d y.work.now y.chart.now (identified a.wanted.now) a.wanted.now.capacity s a.path.now old new g h c.if-left-eq0.true
    (put.ensures ∙ ap (λ rs. emit_kept (seen y) (identified a.wanted.now) a.wanted.now.capacity rs old) c.rows.ensures)

pub choose-returns-then-open_columns-left-clause-found : goal.choose-returns-then-open_columns-left-clause-found
choose-returns-then-open_columns-left-clause-found t c = λ w uncovered copies g s e h.
    let a = c.args in
    let y = a.wanted.now.system in
    let old = emitted_of a.e a.wanted.now.last.now a.answers.now in
    found_few y.d y.work.now y.chart.now (identified a.wanted.now) a.wanted.now.capacity s a.path.now old
    (omega (arith, c.open_columns.ensures ∙ counted (has_row a.links.now) y.d.size, c.if-open_columns-left.true)) g

pub choose-returns-in_default-clause-found : goal.choose-returns-in_default-clause-found
choose-returns-in_default-clause-found t c = λ w uncovered copies g s e h.
    let a = c.args in
    let y = a.wanted.now.system in
    let old = emitted_of a.e a.wanted.now.last.now a.answers.now in
    found_none y.d y.work.now y.chart.now (identified a.wanted.now) a.wanted.now.capacity s a.path.now old
    c.if-left-eq0.false (pivot (size_of a.links.now) y.d.size) refl c.in_default.ensures g h

pub choose-try_rows-requires : goal.choose-try_rows-requires
choose-try_rows-requires t c =
    let a = c.args in
    let y = a.wanted.now.system in
    let found = c.in-Some.ensures in
    let p = c.requires.choosable in
    let cells = seek_cells (of_seek y.d y.work.now y.chart.now p.seek) in
    let top = c.below-k in (
      rw (← c.decreases) (try_below a.left top.result c.in-Some.cell),
      (
        c.requires.ready,
        column_tryable y.d y.work.now y.chart.now p c.if-left-eq0.false c.in-Some.cell found.0 (λ e. omega (arith, found.0, found.1, cells)) top.result top.ensures,
      ),
    )

pub choose-returns-clause-found : goal.choose-returns-clause-found
choose-returns-clause-found t c = λ w uncovered copies g s e h.
    let a = c.args in
    let y = a.wanted.now.system in
    let found = c.in-Some.ensures in
    let top = c.below-k in
    let rest = c.try_rows in
    let old = emitted_of a.e a.wanted.now.last.now a.answers.now in
    let new = emitted_of rest.result a.wanted.now.last.now rest.new.answers in
    found_rows y.d y.work.now y.chart.now (identified a.wanted.now) a.wanted.now.capacity s a.path.now old
    c.if-left-eq0.false c.in-Some.cell found.0 new (λ z. omega (arith, found.0, found.1, seek_cells s)) top.result top.ensures e rest.ensures.found g h

-- ---- trying a column's rows
pub try_rows-returns-then-k-at-clause-found : goal.try_rows-returns-then-k-at-clause-found
try_rows-returns-then-k-at-clause-found t c = λ w uncovered copies g s st e h.
    let a = c.args in
    let y = a.wanted.now.system in
    let old = emitted_of a.e a.wanted.now.last.now a.answers.now in
    found_head y.d y.work.now y.chart.now (identified a.wanted.now) a.wanted.now.capacity s a.path.now old a.at.cell a.k c.if-k-at.true g

pub try_rows-row_of-r-requires : goal.try_rows-row_of-r-requires
try_rows-row_of-r-requires t c = let p = c.requires.tryable in try_small p.seek p.stand c.if-k-at.false

pub try_rows-leads-requires : goal.try_rows-leads-requires
try_rows-leads-requires t c =
    let a = c.args in
    let y = a.wanted.now.system in
    let row = c.row_of-r in
    row_below y.d y.work.now y.chart.now (stands y).lawful c.requires.ready.0 c.requires.tryable c.if-k-at.false
    row.result row.ensures

pub try_rows-below-passed-requires : goal.try_rows-below-passed-requires
try_rows-below-passed-requires t c = let p = c.requires.tryable in try_small p.seek p.stand c.if-k-at.false

pub try_rows-try_rows-requires : goal.try_rows-try_rows-requires
try_rows-try_rows-requires t c =
    let a = c.args in
    let y = a.wanted.now.system in
    let q = c.requires.ready in
    let p = c.requires.tryable in
    let kc = c.if-k-at.false in
    let next = c.below-passed in (
      omega (arith, c.decreases, try_less p.seek p.stand kc a.links.now refl next.result next.ensures),
      (q, next_tryable y.d y.work.now y.chart.now (stands y).lawful q.0 p kc a.links.now refl next.result next.ensures a.path.now refl),
    )

pub try_rows-returns-then-not-leads-clause-found : goal.try_rows-returns-then-not-leads-clause-found
try_rows-returns-then-not-leads-clause-found t c = λ w uncovered copies g s st e h.
    let a = c.args in
    let y = a.wanted.now.system in
    let q = c.requires.ready in
    let row = c.row_of-r in
    let led = c.leads in
    let next = c.below-passed in
    let rest = c.try_rows in
    let old = emitted_of a.e a.wanted.now.last.now a.answers.now in
    let new = emitted_of rest.result a.wanted.now.last.now rest.new.answers in
    found_passed y.d y.work.now y.chart.now (stands y).lawful q.0 c.requires.tryable c.if-k-at.false row.result row.ensures a.wanted.now.shown old a.wanted.now.last_shown
    led.result (led.ensures ∙ leads_while _ _ _ _ _ c.shown_while.ensures) c.if-not-leads.true (identified a.wanted.now) a.wanted.now.capacity s st e next.result next.ensures new rest.ensures.found g h

pub try_rows-row_cells-cells-requires : goal.try_rows-row_cells-cells-requires
try_rows-row_cells-cells-requires t c = let p = c.requires.tryable in try_sized p.seek p.stand c.if-k-at.false

pub try_rows-push-requires : goal.try_rows-push-requires
try_rows-push-requires t c =
    let a = c.args in
    let y = a.wanted.now.system in
    let q = c.requires.ready in
    let p = c.requires.tryable in
    let kc = c.if-k-at.false in
    let row = c.row_of-r in
    let size = c.row_cells-cells in (
      path_room y.d y.work.now y.chart.now (stands y).lawful q.0 p kc size.result size.ensures,
      omega (arith, row_bound y.d y.work.now y.chart.now (stands y).lawful q.0 p kc row.result row.ensures),
    )

pub try_rows-select_row-a-requires : goal.try_rows-select_row-a-requires
try_rows-select_row-a-requires t c = let p = c.requires.tryable in try_selectable p.seek p.stand c.if-k-at.false

pub try_rows-overflow_sub-left : goal.try_rows-overflow_sub-left
try_rows-overflow_sub-left t c =
    let p = c.requires.tryable in
    let size = c.row_cells-cells in
    (try_sub p.seek p.stand c.if-k-at.false size.result size.ensures).0

pub try_rows-choose-s-requires : goal.try_rows-choose-s-requires
try_rows-choose-s-requires t c =
    let a = c.args in
    let y = a.wanted.now.system in
    let q = c.requires.ready in
    let p = c.requires.tryable in
    let kc = c.if-k-at.false in
    let size = c.row_cells-cells in
    let row = c.row_of-r in
    let sel = c.select_row-a in
    let path = c.push in (
      omega (arith, c.decreases, try_sub p.seek p.stand kc size.result size.ensures),
      (
        (
          longer_rows y.d y.work.now y.chart.now (stands y).lawful q.0 p kc size.result size.ensures row.result row.ensures path.new.self path.ensures,
          q.1,
        ),
        row_choosable y.d y.work.now y.chart.now (stands y).lawful q.0 p kc size.result size.ensures row.result row.ensures path.new.self path.ensures
            sel.new.links sel.ensures.done,
      ),
    )

pub try_rows-unselect_row-requires : goal.try_rows-unselect_row-requires
try_rows-unselect_row-requires t c =
    let p = c.requires.tryable in
    let size = c.row_cells-cells in
    let sel = c.select_row-a in
    try_selected p.seek p.stand c.if-k-at.false size.result size.ensures sel.new.links sel.ensures.done sel.result sel.ensures.first
    c.choose-s.new.links c.choose-s.ensures.same.0

pub try_rows-returns-then-s : goal.try_rows-returns-then-s
try_rows-returns-then-s t c =
    let a = c.args in
    let y = a.wanted.now.system in
    let q = c.requires.ready in
    let p = c.requires.tryable in
    let kc = c.if-k-at.false in
    let size = c.row_cells-cells in
    let row = c.row_of-r in
    let sel = c.select_row-a in
    let path = c.push in
    let s = c.choose-s in
    let old = emitted_of a.e a.wanted.now.last.now a.answers.now in
    let new = emitted_of s.result a.wanted.now.last.now s.new.answers in record {
      same = (
        try_back p.seek p.stand kc size.result size.ensures sel.new.links sel.ensures.done sel.result sel.ensures.first
            s.new.links s.ensures.same.0 c.unselect_row.new.links c.unselect_row.ensures,
        c.pop.ensures a.path.now row.result (s.ensures.same.1 ∙ path.ensures),
      );
      found = λ w uncovered copies g sk st e h. found_stop y.d y.work.now y.chart.now (stands y).lawful q.0 p kc
          size.result size.ensures row.result row.ensures path.new.self path.ensures sel.new.links sel.ensures.done
          (identified a.wanted.now) a.wanted.now.capacity sk st e old new s.ensures.found g h c.if-s.true;
    }

pub try_rows-below-next-requires : goal.try_rows-below-next-requires
try_rows-below-next-requires t c = let p = c.requires.tryable in try_small p.seek p.stand c.if-k-at.false

pub try_rows-try_rows-requires-2 : goal.try_rows-try_rows-requires-2
try_rows-try_rows-requires-2 t c =
    let a = c.args in
    let y = a.wanted.now.system in
    let q = c.requires.ready in
    let p = c.requires.tryable in
    let kc = c.if-k-at.false in
    let size = c.row_cells-cells in
    let sel = c.select_row-a in
    let s = c.choose-s in
    let links = c.unselect_row.new.links in
    let back = try_back p.seek p.stand kc size.result size.ensures sel.new.links sel.ensures.done sel.result sel.ensures.first
    s.new.links s.ensures.same.0 links c.unselect_row.ensures in
    let path = c.pop.ensures a.path.now c.row_of-r.result (s.ensures.same.1 ∙ c.push.ensures) in
    let next = c.below-next in (
      omega (arith, c.decreases, try_less p.seek p.stand kc links back next.result next.ensures),
      (
        (rw path q.0, omega (arith, q.1, s.auto.answers)),
        next_tryable y.d y.work.now y.chart.now (stands y).lawful q.0 p kc links back next.result next.ensures c.pop.new.self path,
      ),
    )

pub try_rows-returns : goal.try_rows-returns
try_rows-returns t c =
    let a = c.args in
    let y = a.wanted.now.system in
    let q = c.requires.ready in
    let p = c.requires.tryable in
    let kc = c.if-k-at.false in
    let size = c.row_cells-cells in
    let row = c.row_of-r in
    let sel = c.select_row-a in
    let s = c.choose-s in
    let links = c.unselect_row.new.links in
    let back = try_back p.seek p.stand kc size.result size.ensures sel.new.links sel.ensures.done sel.result sel.ensures.first
    s.new.links s.ensures.same.0 links c.unselect_row.ensures in
    let path = c.pop.ensures a.path.now row.result (s.ensures.same.1 ∙ c.push.ensures) in
    let next = c.below-next in
    let rest = c.try_rows-2 in
    let old = emitted_of a.e a.wanted.now.last.now a.answers.now in
    let new = emitted_of s.result a.wanted.now.last.now s.new.answers in
    let end = emitted_of rest.result a.wanted.now.last.now rest.new.answers in record {
      same = (rest.ensures.same.0 ∙ back, rest.ensures.same.1 ∙ path);
      found = λ w uncovered copies g sk st e h. found_on y.d y.work.now y.chart.now (stands y).lawful q.0 p kc
          size.result size.ensures row.result row.ensures c.push.new.self c.push.ensures sel.new.links sel.ensures.done
          (identified a.wanted.now) a.wanted.now.capacity sk st e old new s.ensures.found g h
          links back next.result next.ensures c.pop.new.self path end rest.ensures.found;
    }
