-- `goes_on` meets its contract. The loop's invariant: no row of a kind before k can be placed at the first uncovered cell. Assumes nothing.
use Rattle.std.proofs.Common.{ℕ, List, [], ◌-◌, ◌<◌, sym, ◌∙◌, subst, get_or, set, arith}
use Rattle.rows.proofs.StandingLaws.{stands}
use Rattle.fast.proofs.AheadLaws.{goes_leaf, ahead_up, goes_found, kind_unplaced, kind_spent, goes_none}
use Rattle.fast.proofs.search.goes_on.Goals as goal
use Rattle.fast.proofs.search.goes_on.Goals.{then-left_after-gt0+else-any_clear, else-left_after-gt0}

-- the copies that are left when one of a kind is placed
abbrev after : List ℕ → ℕ → List ℕ
after left kind = set left kind (get_or left kind 0 - 1)

pub returns-then-system-c : goal.returns-then-system-c
returns-then-system-c c =
    let a = c.args in
    goes_leaf (after a.state.now.left a.kind) _ _ (stands a.system.now) c.next_open-c.ensures c.if-system-c.true

pub any_clear-requires : goal.any_clear-requires
any_clear-requires c =
    let ready = stands c.args.system.now in
    ahead_up [] _ _ ready c.next_open-c.ensures c.if-system-c.false c.loop-k.k c.loop-k-test.true _ _ c.start_at-start.ensures c.start_at-end.ensures

pub returns-then-any_clear : goal.returns-then-any_clear
returns-then-any_clear c =
    let a = c.args in
    goes_found (after a.state.now.left a.kind) _ _ (stands a.system.now) c.next_open-c.ensures c.if-system-c.false c.loop-k.k c.loop-k-test.true _ _
    c.start_at-start.ensures c.start_at-end.ensures (subst (λ (n : ℕ). 0 < n) c.left_after.ensures c.if-left_after-gt0.true)
    (sym c.any_clear.ensures ∙ c.if-any_clear.true)

pub loop-k-preserved : goal.loop-k-preserved
loop-k-preserved c =
    let a = c.args in
    let left = after a.state.now.left a.kind in
    let ready = stands a.system.now in
    let l = c.loop-k in
    elim c.if-left_after-gt0.branch [
      | then-left_after-gt0+else-any_clear w ↦
          kind_unplaced left _ _ ready c.next_open-c.ensures c.if-system-c.false l.k c.loop-k-test.true _ _
          w.start_at-start.ensures w.start_at-end.ensures (sym w.any_clear.ensures ∙ w.if-any_clear.false) l.invariant
      | else-left_after-gt0 w ↦
          kind_spent left _ _ ready c.next_open-c.ensures c.if-system-c.false l.k c.loop-k-test.true
          (omega (arith, c.left_after.ensures, w.if-left_after-gt0.false)) l.invariant
    ]

pub returns : goal.returns
returns c =
    let a = c.args in
    let left = after a.state.now.left a.kind in
    goes_none left _ _ (stands a.system.now) c.next_open-c.ensures c.if-system-c.false c.loop-k.k c.loop-k-test.false c.loop-k.invariant
