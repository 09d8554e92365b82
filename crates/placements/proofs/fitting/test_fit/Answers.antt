-- `placements::fitting::test_fit` meets its contract. The loop's invariant: the cells from k on lie on filled board cells. Assumes nothing.
use Rattle.std.proofs.Common.{List, None, Some, false, ◌≡◌, ◌≤◌, ◌<◌, ◌+◌, ◌-◌, ◌∙◌, sym, ap, length, arith}
use Rattle.std.specs.List.{last_or}
use mathlib.Core.Path.{ap₂, subst}
use Rattle.lists.proofs.TestLaws.{not_both}
use Rattle.definitions.specs.Grid.{Cell}
use Rattle.definitions.specs.Placements.{reaches}
use Rattle.shape.specs.Coords.{as_cell}
use Rattle.shape.specs.CubicGrids.{grid_of}
use Rattle.placements.specs.Poses.{origin_in}
use Rattle.placements.specs.Fitting.{lies_on, off_board}
use Rattle.placements.proofs.FitLaws.{OnFrom, cell, fit_is, none_off, not_all, stops_there, stops_last, stops_nowhere, stops_origin, tight_reaches}
use Rattle.placements.proofs.fitting.test_fit.Goals as goal
use Rattle.placements.proofs.fitting.test_fit.Goals.{After-lies_on, After-does_reach}

-- at a cell that lies on no filled one
module _ (c : After-lies_on) (no : c.lies_on.result ≡ false) where
  inside : c.loop-k.k - 1 < c.args.pose.now.size
  inside = let i = c.loop-k.invariant.0 in let t = c.loop-k-test.true in omega arith

  room : c.args.pose.now.size ≤ length c.args.pose.now.codes
  room = omega arith

  behind : OnFrom (grid_of c.args.board.now) (as_cell c.args.at) c.args.pose.now (c.loop-k.k - 1 + 1)
  behind =
      let t = c.loop-k-test.true in
      let e : c.loop-k.k ≡ c.loop-k.k - 1 + 1 = omega arith in
      subst (OnFrom (grid_of c.args.board.now) (as_cell c.args.at) c.args.pose.now) e c.loop-k.invariant.1

  here : as_cell c.cell_at-u.result ≡ cell c.args.pose.now (c.loop-k.k - 1)
  here = c.cell_at-u.ensures.0

  off : lies_on (grid_of c.args.board.now) (as_cell c.args.at) (origin_in c.args.pose.now) (cell c.args.pose.now (c.loop-k.k - 1)) ≡ false
  off = ap₂ (lies_on (grid_of c.args.board.now) (as_cell c.args.at)) (sym c.origin-o.ensures.0) (sym here) ∙ sym c.lies_on.ensures ∙ no

pub returns-then-not-lies_on-clause-fits : goal.returns-then-not-lies_on-clause-fits
returns-then-not-lies_on-clause-fits c =
    let t = (goal.at.returns-then-not-lies_on-clause-fits c).After-lies_on in
    let no = c.if-not-lies_on.true in
    sym (not_all (grid_of c.args.board.now) (as_cell c.args.at) c.args.pose.now (room t no) (c.loop-k.k - 1) (inside t no) (behind t no) (off t no))

pub returns-then-not-lies_on-clause-stop : goal.returns-then-not-lies_on-clause-stop
returns-then-not-lies_on-clause-stop c =
    let t = (goal.at.returns-then-not-lies_on-clause-stop c).After-lies_on in
    let no = c.if-not-lies_on.true in
    ap Some (here t no)
    ∙ stops_there (grid_of c.args.board.now) (as_cell c.args.at) c.args.pose.now (room t no) (c.loop-k.k - 1) (inside t no) (behind t no) (off t no)

pub returns-then-not-lies_on-clause-last : goal.returns-then-not-lies_on-clause-last
returns-then-not-lies_on-clause-last c h tight e =
    let t = (goal.at.returns-then-not-lies_on-clause-last c).After-lies_on in
    let no = c.if-not-lies_on.true in
    let g = grid_of c.args.board.now in
    let v = as_cell c.args.at in
    let o = origin_in c.args.pose.now in
    ap Some (here t no)
    ∙ stops_last g v c.args.pose.now (room t no) (c.loop-k.k - 1) (inside t no) (behind t no) (off t no)
    ∙ ap (λ (us : List Cell). last_or None (off_board g v o us)) e

-- no cell lies off
module _ (c : After-does_reach) where
  whole : c.args.pose.now.size ≤ length c.args.pose.now.codes
  whole = omega arith

  on : OnFrom (grid_of c.args.board.now) (as_cell c.args.at) c.args.pose.now 0
  on =
      let t = c.loop-k-test.false in
      let e : c.loop-k.k ≡ 0 = omega arith in
      subst (OnFrom (grid_of c.args.board.now) (as_cell c.args.at) c.args.pose.now) e c.loop-k.invariant.1

  reached : reaches (as_cell c.args.at) (origin_in c.args.pose.now) ≡ c.does_reach.result
  reached = ap (reaches (as_cell c.args.at)) (sym c.origin-o.ensures.0) ∙ sym c.does_reach.ensures

pub returns-then-does_reach-clause-fits : goal.returns-then-does_reach-clause-fits
returns-then-does_reach-clause-fits c =
    let t = (goal.at.returns-then-does_reach-clause-fits c).After-does_reach in
    sym (fit_is (grid_of c.args.board.now) (as_cell c.args.at) c.args.pose.now (whole t) (on t) ∙ reached t ∙ c.if-does_reach.true)

pub returns-then-does_reach-clause-stop : goal.returns-then-does_reach-clause-stop
returns-then-does_reach-clause-stop c =
    let t = (goal.at.returns-then-does_reach-clause-stop c).After-does_reach in
    stops_nowhere (grid_of c.args.board.now) (as_cell c.args.at) c.args.pose.now (whole t) (on t) (reached t ∙ c.if-does_reach.true)

pub returns-then-does_reach-clause-last : goal.returns-then-does_reach-clause-last
returns-then-does_reach-clause-last c h tight e =
    let t = (goal.at.returns-then-does_reach-clause-last c).After-does_reach in
    let g = grid_of c.args.board.now in
    let v = as_cell c.args.at in
    let o = origin_in c.args.pose.now in
    sym (ap (λ (us : List Cell). last_or None (off_board g v o us)) (sym e) ∙ ap (last_or None) (none_off g v c.args.pose.now (whole t) (on t)))

pub returns-else-does_reach-clause-fits : goal.returns-else-does_reach-clause-fits
returns-else-does_reach-clause-fits c =
    let t = (goal.at.returns-else-does_reach-clause-fits c).After-does_reach in
    sym (fit_is (grid_of c.args.board.now) (as_cell c.args.at) c.args.pose.now (whole t) (on t) ∙ reached t ∙ c.if-does_reach.false)

pub returns-else-does_reach-clause-stop : goal.returns-else-does_reach-clause-stop
returns-else-does_reach-clause-stop c =
    let t = (goal.at.returns-else-does_reach-clause-stop c).After-does_reach in
    ap Some c.origin-o.ensures.0
    ∙ stops_origin (grid_of c.args.board.now) (as_cell c.args.at) c.args.pose.now (whole t) (on t) (reached t ∙ c.if-does_reach.false)

pub returns-else-does_reach-clause-last : goal.returns-else-does_reach-clause-last
returns-else-does_reach-clause-last c h tight e =
    let t = (goal.at.returns-else-does_reach-clause-last c).After-does_reach in
    not_both (reaches (as_cell c.args.at) (origin_in c.args.pose.now))
    (tight_reaches (grid_of c.args.board.now) (as_cell c.args.at) c.args.pose.now (whole t) (on t) h tight e)
    (reached t ∙ c.if-does_reach.false)
