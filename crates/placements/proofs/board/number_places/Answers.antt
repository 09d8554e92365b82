-- `number_places` meets its contract. The loop's invariant: the places from number k on are written, so that the first of equal places is written last.
-- Assumes nothing.
use Rattle.std.proofs.Common.{ℕ, ◌≡◌, replicate, length, subst, rules, arith}
use Rattle.placements.proofs.FittingLaws.{NumberedFrom, number_start, number_next, number_end}
use Rattle.placements.proofs.board.number_places.Goals as goal

pub loop-k-init : goal.loop-k-init
loop-k-init c =
    let filled : c.fill.new.self ≡ replicate (length c.args.scans.now) (length c.args.places.now) = search rules in
    number_start c.args.places.now (length c.args.scans.now) c.requires.1 _ filled

pub loop-k-preserved : goal.loop-k-preserved
loop-k-preserved c =
    let l = c.loop-k in
    number_next c.args.places.now (length c.args.scans.now) c.requires.1 l.k l.scans (omega arith) (omega arith) (omega arith) l.invariant

pub returns : goal.returns
returns c =
    let l = c.loop-k in
    let end : l.k ≡ 0 = omega arith in
    number_end c.args.places.now (length c.args.scans.now) c.requires.1 l.scans (omega arith) (subst (λ (k : ℕ). NumberedFrom c.args.places.now k l.scans) end l.invariant)
