-- `clear_links` meets its contract: only KnuthAlgorithm builds links. Assumes nothing.
use Rattle.std.proofs.Common.{cond, Bool, ap, sym, ◌∙◌, length-take-le}
use Rattle.definitions.specs.Outcomes.{cleared}
use Rattle.solver.proofs.ClearingLaws.{cleared_by, knuth_built}
use Rattle.solver.proofs.clearing.clear_links.Goals as goal

pub slice_bounds-fill-end-then-eq : goal.slice_bounds-fill-end-then-eq
slice_bounds-fill-end-then-eq c =
    sym (length-take-le 32768 c.args.links.now (c.requires (knuth_built c.args.solver c.if-eq.ensures)))

pub returns-then-eq : goal.returns-then-eq
returns-then-eq c =
    let links = c.args.links.now in
    let built = knuth_built c.args.solver c.if-eq.ensures in
    cleared_by 32768 links (c.requires built) (c.fill.ensures.after (λ y e. e))
    ∙ ap (λ (b : Bool). cond b (cleared 32768 links) links) (sym built)
