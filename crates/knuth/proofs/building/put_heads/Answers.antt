-- `put_heads` meets its contract. The loop's invariant: the heads before j are laid. Assumes nothing.
use mathlib.Core.Path.{refl}
use Rattle.knuth.proofs.LaidLaws.{heads_none, heads_more}
use Rattle.knuth.proofs.building.put_heads.Goals as goal

pub loop-j-init : goal.loop-j-init
loop-j-init c = heads_none _ 0 refl

pub loop-j-preserved : goal.loop-j-preserved
loop-j-preserved c =
    let f = c.put_node in
    heads_more c.args.links.now c.loop-j.links f.new.links c.loop-j.j c.loop-j.invariant f.ensures
