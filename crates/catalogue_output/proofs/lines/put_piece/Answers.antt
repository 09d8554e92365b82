-- The part of the entry that is put as cells is its grid's, and the line has at most 8 + 3 * 2 + 18 + 1 bytes. Assumes nothing.
use Rattle.std.proofs.Common.{◌≡◌, ◌+◌, ◌-◌, ◌*◌, map, get_or, take, drop, arith}
use Rattle.std.proofs.Math.ListN.{length-map, length-take}
use Rattle.definitions.specs.Grid.{volume}
use Rattle.texts.specs.Put.{Put}
use Rattle.catalogue_output.specs.Entries.{entry_grid}
use Rattle.catalogue_output.proofs.LineLaws.{put_parts}
use Rattle.catalogue_output.proofs.lines.put_piece.Goals as goal

pub put_cells-end-requires : goal.put_cells-end-requires
unfolding entry_grid volume
put_cells-end-requires c =
    let entry = c.args.entry.now in
    let v = get_or entry 0 0 * get_or entry 1 0 * get_or entry 2 0 in
    let z : 3 + v - 3 ≡ v = omega arith in
    rw z ((let a = length-take v (drop 3 entry) in omega arith), c.requires.1.bits)

pub returns : goal.returns
unfolding entry_grid volume
returns c =
    let entry = c.args.entry.now in
    let v = get_or entry 0 0 * get_or entry 1 0 * get_or entry 2 0 in
    let z : 3 + v - 3 ≡ v = omega arith in
    let cells = c.put_cells-end in
    let t : Put c.put_side-cells_at.new.out c.put_side-cells_at.result (map (λ n. n + 48) (take v (drop 3 entry))) cells.new.out cells.result = rw (← z) cells.ensures in
    let e = t.end in
    let a = length-map (take v (drop 3 entry)) (λ n. n + 48) in
    let b = length-take v (drop 3 entry) in
    let w = c.put_bytes-a_at.ensures.end in
    (put_parts (entry_grid entry) c.put_bytes-a_at.ensures c.put_side-b_at.ensures.0 c.put_side-c_at.ensures.0 c.put_side-cells_at.ensures.0 t (omega arith), omega arith)
