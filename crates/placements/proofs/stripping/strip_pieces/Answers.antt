-- `strip_pieces` meets its contract. The loop's invariant: the records of the pieces passed stand for these pieces, stripped. Assumes nothing.
use Rattle.std.proofs.Common.{refl, arith}
use Rattle.placements.proofs.StrippingLaws.{stripped_none, stripped_next, stripped_all}
use Rattle.placements.proofs.MergingLaws.{record_fits}
use Rattle.placements.proofs.stripping.strip_pieces.Goals as goal

pub loop-i-init : goal.loop-i-init
loop-i-init c = let t = c.args.pieces.now in stripped_none t c.args.bytes.now c.args.out.now (omega arith)

pub strip_record-s-requires : goal.strip_record-s-requires
strip_record-s-requires c =
    let t = c.args.pieces.now in
    let fits = record_fits t c.args.bytes.now c.requires.0 (omega arith) c.loop-i.i c.loop-i-test.true in
    (fits.0, fits.1, omega (arith, c.requires.0.few))

pub loop-i-preserved : goal.loop-i-preserved
loop-i-preserved c =
    let t = c.args.pieces.now in
    let l = c.loop-i in
    stripped_next t c.args.bytes.now c.args.out.now (omega arith) l.i l.made l.out l.invariant c.requires.0.few c.loop-i-test.true _ refl
    c.strip_record-s.result _ c.strip_record-s.ensures _ refl

pub returns : goal.returns
returns c =
    let t = c.args.pieces.now in
    let l = c.loop-i in
    stripped_all t c.args.bytes.now c.args.out.now (omega arith) l.i l.made l.out l.invariant c.requires.0.few c.loop-i-test.false
