-- `rows::system::build_system` meets its contract: the rows and images of the stripped tray, its kinds and pieces, and the scan numbers of the lent box.
-- Assumes nothing.
use Prim.Native.Nat.{ℕ, ◌≤◌}
use mathlib.Core.List.{List, map}
use mathlib.Core.Path.{◌≡◌, sym, ap, ◌∙◌, subst}
use native.Mathlib.Omega.{arith}
use lib.Dec.{T, eqb, ltb}
use lib.ListN.{length, take}
use Rattle.lists.specs.Lists.{all, before, below}
use Rattle.definitions.specs.Grid.{Sides, box, volume}
use Rattle.definitions.specs.Scan.{scan_number}
use Rattle.definitions.specs.Answers.{lent_cells}
use Rattle.definitions.specs.Placements.{compile}
use Rattle.definitions.specs.Refusals.{sides_of}
use Rattle.definitions.specs.Stripping.{FitsIn, Frame}
use Rattle.shape.specs.Coords.{ShortSides, as_sides}
use Rattle.shape.specs.declared.Coord.{Coord}
use Rattle.shape.proofs.PlaceLaws.{volume_small}
use Rattle.shape.proofs.GridTestLaws.{short_cells}
use Rattle.placements.specs.declared.counted.CountedTray.{CountedTray}
use Rattle.placements.specs.Stripping.{lent_place}
use Rattle.placements.specs.Pieces.{framed_in, records_of}
use Rattle.rows.specs.Built.{frame_at}
use Rattle.rows.specs.Systems.{system_in}
use Rattle.rows.specs.declared.Dims.{Dims}
use Rattle.rows.proofs.BuildSystemLaws.{part_below, new_few, new_below, new_scans, system_framed}
use Rattle.rows.proofs.system.build_system.Goals as goal

-- ---- the board where it lies in the lent box
module _ (d : CountedTray) (f : Frame) (part : Sides) (is : part ≡ sides_of d.tray.board) (fit : FitsIn f (sides_of d.tray.board)) where
  fits : FitsIn f part
  fits = subst (λ (s : Sides). FitsIn f s) (sym is) fit

  below_part : T (all (λ i. ltb i (volume part)) (take d.counts.size d.places))
  below_part = part_below (records_of d.tray.pieces) d.tray.board d.tray.bytes.now f part is fits d.places d.counts.size d.counted.on_board

  -- the places of its cells there
  module _ (put : List ℕ) (are : put ≡ map (lent_place part f) (take d.counts.size d.places)) (size : ℕ) (room : volume f.lent ≤ size) where
    few_put : length put ≤ 128
    few_put = new_few (records_of d.tray.pieces) d.tray.board d.tray.bytes.now f part is fits d.places d.counts.size d.counted.on_board put are size room

    below_put : T (all (λ i. ltb i size) put)
    below_put = new_below (records_of d.tray.pieces) d.tray.board d.tray.bytes.now f part is fits d.places d.counts.size d.counted.on_board put are size room

    scans_put : (scans : List ℕ) → scans ≡ map (λ i. before (eqb i) put) (below size)
        → let c = compile (framed_in (records_of d.tray.pieces) d.tray.board d.tray.bytes.now f) in
        take (volume f.lent) scans ≡ map (scan_number (lent_cells c)) (box c.frame.lent)
    scans_put = new_scans (records_of d.tray.pieces) d.tray.board d.tray.bytes.now f part is fits d.places d.counts.size d.counted.on_board put are size room

-- a lent box has at most 512 places
small : (lent : Coord) → ShortSides (as_sides lent) → volume (as_sides lent) ≤ 512
small lent fit = (volume_small (as_sides lent) fit).1

pub put_back-requires : goal.put_back-requires
put_back-requires c =
    let a = c.args in
    let d = a.counted.now in
    let f = frame_at a.lent a.at in
    let part = c.sides_of in
    let fit = c.requires.fit in
    (below_part d f (as_sides part.result) part.ensures fit.1, fit.0, fits d f (as_sides part.result) part.ensures fit.1)

pub number_places-requires : goal.number_places-requires
number_places-requires c =
    let a = c.args in
    let d = a.counted.now in
    let f = frame_at a.lent a.at in
    let part = c.sides_of in
    let put = c.put_back in
    let fit = c.requires.fit in
    let few = small a.lent fit.0 in
    let room : volume f.lent ≤ length a.chart.now.scans = omega arith in (
      few_put d f (as_sides part.result) part.ensures fit.1 put.new.places put.ensures (length a.chart.now.scans) room,
      below_put d f (as_sides part.result) part.ensures fit.1 put.new.places put.ensures (length a.chart.now.scans) room,
    )

pub returns : goal.returns
unfolding system_in
returns c =
    let a = c.args in
    let d = a.counted.now in
    let t = d.tray in
    let f = frame_at a.lent a.at in
    let part = c.sides_of in
    let put = c.put_back in
    let fit = c.requires.fit in
    let few = small a.lent fit.0 in
    let room : volume f.lent ≤ length a.chart.now.scans = omega arith in
    let built = c.build_lent-placed in
    let scans = c.number_places.new.scans in
    let size = c.volume_of.ensures.0 ∙ short_cells _ fit.0 in
    let dims : Dims =
    record {
      size = d.counts.size;
      rows = built.result.rows;
      kinds = d.counts.kinds;
      turns = built.result.turns;
      mirrorings = built.result.mirrorings;
      places = c.volume_of.result;
      pieces = t.pieces.count;
    } in
    let new = scans_put d f (as_sides part.result) part.ensures fit.1 put.new.places put.ensures (length a.chart.now.scans) room scans c.number_places.ensures in
    record {
      system = system_framed (records_of t.pieces) t.board t.bytes.now f dims a.work.now built.new.work built.new.starts built.new.images c.list_kinds.new.kinds
          c.list_pieces.new.pieces scans built.ensures c.list_kinds.ensures c.list_pieces.ensures (ap (λ (n : ℕ). take n scans) size ∙ new);
      ranged = built.ensures.ranged;
      places = size;
      behind = built.ensures.behind;
    }
