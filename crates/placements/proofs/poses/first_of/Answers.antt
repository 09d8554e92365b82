-- `placements::poses::first_of` meets its contract. The loop's invariant: the first of the cells from k on. Assumes nothing.
use Rattle.std.specs.Ordering.{is_lt}
use Rattle.std.proofs.Common.{ℕ, [], ◌∷◌, ◌-◌, ◌≡◌, ◌∙◌, Bool, true, false, cond, sym, ap, length, get_or, arith}
use lib.ListN.{drop_of_length-le, get_or-append}
use lib.Seq.{get_or-append_seam}
use Rattle.shape.specs.Coords.{as_cell}
use Rattle.shape.specs.Orders.{axis_list}
use Rattle.placements.specs.Poses.{cell_of}
use Rattle.placements.proofs.PoseLaws.{first_from, first_none, first_start, first_step}
use Rattle.placements.proofs.poses.first_of.Goals as goal
use Rattle.placements.proofs.poses.first_of.Goals.{After-is_lt}

pub returns-in_default : goal.returns-in_default
returns-in_default c =
    let codes = c.args.codes.now in
    first_none (axis_list c.args.first c.args.second c.args.third) codes (drop_of_length-le codes {i = 0} (omega (arith, c.in_default.ensures.cases)))

pub loop-k-init : goal.loop-k-init
loop-k-init c =
    let codes = c.args.codes.now in
    let before = c.in-Some.before.now in
    let split = c.in-Some.ensures.cases in
    let end : length codes - 1 ≡ length before = omega (arith, split.1) in
    let last : c.in-Some.field-0-0.now ≡ get_or codes (length codes - 1) 0 =
    sym (ap (λ (k : ℕ). get_or codes k 0) end ∙ ap (λ (xs : _). get_or xs (length before) 0) split.0 ∙ get_or-append_seam before c.in-Some.field-0-0.now [] 0) in (
      omega (arith, split.1),
      first_start (axis_list c.args.first c.args.second c.args.third) codes c.in-Some.field-0-0.now (omega (arith, split.1)) last ∙ ap (first_from (axis_list c.args.first c.args.second c.args.third) codes) end,
    )

-- a turn, by how the two cells compare
step : (c : After-is_lt) (b : Bool) → c.is_lt.result ≡ b
    → cond b (cell_of (get_or c.in-Some.before.now (c.loop-k.k - 1) 0)) (cell_of c.loop-k.ahead) ≡ first_from (axis_list c.args.first c.args.second c.args.third) c.args.codes.now (c.loop-k.k - 1)
step c b e =
    let l = c.loop-k in
    let codes = c.args.codes.now in
    let before = c.in-Some.before.now in
    let split = c.in-Some.ensures.cases in
    let read : get_or before (l.k - 1) 0 ≡ get_or codes (l.k - 1) 0 =
    sym (ap (λ (xs : _). get_or xs (l.k - 1) 0) split.0 ∙ get_or-append before (c.in-Some.field-0-0.now ∷ []) 0 (l.k - 1) (omega arith)) in
    ap (λ (b : Bool). cond b (cell_of (get_or before (l.k - 1) 0)) (cell_of l.ahead)) (sym e ∙ c.is_lt.ensures)
    ∙ ap (λ (x : ℕ). cond (is_lt c.compare_along.result) (cell_of x) (cell_of l.ahead)) read
    ∙ first_step (axis_list c.args.first c.args.second c.args.third) codes l.k c.loop-k-test.true l.invariant.0 l.ahead l.invariant.1 (as_cell c.cell_of.result) (as_cell c.cell_of-in-loop-k.result)
    (c.cell_of.ensures.0 ∙ ap cell_of read) c.cell_of-in-loop-k.ensures.0 c.compare_along.result c.compare_along.ensures

pub loop-k-preserved-then-is_lt : goal.loop-k-preserved-then-is_lt
loop-k-preserved-then-is_lt c = (omega arith, step (goal.at.loop-k-preserved-then-is_lt c).After-is_lt true c.if-is_lt.true)

pub loop-k-preserved : goal.loop-k-preserved
loop-k-preserved c = (omega arith, step (goal.at.loop-k-preserved c).After-is_lt false c.if-is_lt.false)
