-- The proof of the cycle of calls {walk}: the fillings with the next cell unfilled come before those with it filled. The measure is the number of cells that
-- are left. Assumes nothing.
use Prim.Native.Nat.{ℕ, ◌+◌, ◌-◌, ◌/◌, ◌<◌}
use mathlib.Core.List.{List}
use mathlib.Core.Path.{◌≡◌, sym, ap, ◌∙◌, subst}
use native.Mathlib.Omega.{arith}
use lib.ListN.{set}
use Rattle.definitions.specs.Grid.{volume}
use Rattle.definitions.specs.Catalogue.{beginning_with}
use Rattle.theorems.proofs.EmissionLaws.{emits_done}
use Rattle.shape.specs.Coords.{as_sides}
use Rattle.shape.proofs.GridTestLaws.{short_cells}
use Rattle.polycubes.specs.Walk.{Filled, front_of}
use Rattle.polycubes.proofs.FillingLaws.{is_filled, left_unfilled, put_back}
use Rattle.polycubes.proofs.WalkLaws.{after, all_decided, none_left, only_unfilled, then_filled}
use Rattle.polycubes.proofs.walk.+walk.Goals as goal
use Rattle.polycubes.proofs.walk.+walk.Goals.{After-volume_of, then-e-via-then-e, then-e-via-else-e+then-left-k}

volume_is : (t : ℕ) (c : After-volume_of t) → c.volume_of.result ≡ volume (as_sides c.args.sides)
volume_is t c = c.volume_of.ensures.0 ∙ short_cells (as_sides c.args.sides) c.requires.0

pub overflow_sub-left : goal.overflow_sub-left
overflow_sub-left t c = let e = volume_is t c in let f = c.requires.1 in omega (arith, f.inside)

-- a cell is left
one_left : (t : ℕ) (c : After-volume_of t) → (c.volume_of.result - c.args.i ≡ 0 → ⊥) → c.args.i < volume (as_sides c.args.sides)
one_left t c n = let e = volume_is t c in omega arith

pub returns-then-e-clause-page : goal.returns-then-e-clause-page
returns-then-e-clause-page t c =
    let e = volume_is t (goal.at.returns-then-e-clause-page t c).After-volume_of in
    elim c.then-e.branch [
      | then-e-via-then-e w ↦ sym (emits_done _ _ _ w.if-e.true)
      | then-e-via-else-e+then-left-k w ↦ none_left (as_sides c.args.sides) c.args.entry.now c.args.i c.args.k _ _ (omega (arith, w.if-left-k.true))
    ]

pub emit_filling-requires : goal.emit_filling-requires
emit_filling-requires t c =
    let e = volume_is t (goal.at.emit_filling-requires t c).After-volume_of in
    let f = c.requires.1 in
    let z : c.args.i ≡ volume (as_sides c.args.sides) = omega (arith, c.if-left-eq0.true, f.inside) in
    (c.requires.0, subst (λ (n : ℕ). Filled (as_sides c.args.sides) c.args.entry.now n) z f)

pub returns-then-left-eq0-clause-page : goal.returns-then-left-eq0-clause-page
returns-then-left-eq0-clause-page t c =
    let a = c.args in
    let e = volume_is t (goal.at.returns-then-left-eq0-clause-page t c).After-volume_of in
    let f = c.requires.1 in
    c.emit_filling.ensures
    ∙ all_decided (as_sides a.sides) a.entry.now a.i a.k _ _ (omega (arith, c.if-left-eq0.true)) f.inside
    (omega (arith, c.if-left-k.false, c.if-left-eq0.true))

pub walk-unfilled-requires : goal.walk-unfilled-requires
walk-unfilled-requires t c =
    let a = c.args in
    let v = volume (as_sides a.sides) in
    let left = one_left t (goal.at.walk-unfilled-requires t c).After-volume_of c.if-left-eq0.false in
    (subst (λ (m : ℕ). v - (a.i + 1) < m) c.decreases (omega arith), (c.requires.0, left_unfilled a.entry.now c.told-entry c.requires.1 left))

pub returns-then-k-eq0-clause-page : goal.returns-then-k-eq0-clause-page
returns-then-k-eq0-clause-page t c =
    let a = c.args in
    let left = one_left t (goal.at.returns-then-k-eq0-clause-page t c).After-volume_of c.if-left-eq0.false in
    c.walk-unfilled.ensures.page ∙ only_unfilled (as_sides a.sides) a.entry.now a.i a.k _ _ c.told-entry c.requires.1 left c.if-k-eq0.true

pub walk-filled-requires : goal.walk-filled-requires
walk-filled-requires t c =
    let a = c.args in
    let v = volume (as_sides a.sides) in
    let left = one_left t (goal.at.walk-filled-requires t c).After-volume_of c.if-left-eq0.false in
    let f = is_filled a.entry.now c.told-entry c.requires.1 left in (
      subst (λ (m : ℕ). v - (a.i + 1) < m) c.decreases (omega arith),
      (c.requires.0, subst (λ (l : List ℕ). Filled (as_sides a.sides) (set l (3 + a.i) 1) (a.i + 1)) (sym c.walk-unfilled.ensures.restored) f),
    )

pub returns-clause-page : goal.returns-clause-page
returns-clause-page t c =
    let a = c.args in
    let s = as_sides a.sides in
    let one = c.walk-unfilled in
    let left = one_left t (goal.at.returns-clause-page t c).After-volume_of c.if-left-eq0.false in
    let v = volume s - (a.i + 1) in
    c.walk-filled.ensures.page
    ∙ (λ j.
    let filled = set (one.ensures.restored j) (3 + a.i) 1 in
    after (one.auto.entries j / 21) (beginning_with s (front_of filled (a.i + 1)) v (a.k - 1)) (one.ensures.page j))
    ∙ then_filled s a.entry.now a.i a.k _ _ c.told-entry c.requires.1 left (omega (arith, c.if-k-eq0.false))

pub returns-clause-restored : goal.returns-clause-restored
returns-clause-restored t c =
    let a = c.args in
    let left = one_left t (goal.at.returns-clause-restored t c).After-volume_of c.if-left-eq0.false in
    ap (λ (l : List ℕ). set l (3 + a.i) 0) (c.walk-filled.ensures.restored ∙ ap (λ (l : List ℕ). set l (3 + a.i) 1) c.walk-unfilled.ensures.restored)
    ∙ put_back a.entry.now c.told-entry c.requires.1 left
