-- `masks::Mask::next_open` meets its contract: the zeros at the end of a flipped word are the numbers in the set that are passed. Assumes nothing.
use Prim.Native.Nat.{◌-◌, ◌/◌, ◌^◌}
use native.Mathlib.Omega.{arith}
use lib.Count.{trailing_le}
use Rattle.masks.proofs.Trailing.{open_low, open_across, open_high, open_none}
use Rattle.masks.proofs.Mask.next_open.Goals as goal

pub overflow_cast-t : goal.overflow_cast-t
overflow_cast-t c =
    let a = c.args in
    omega (arith, trailing_le 64 ((2 ^ 64 - 1 - a.self.low) / 2 ^ a.n))

pub returns-then-t-n : goal.returns-then-t-n
returns-then-t-n c =
    let a = c.args in
    open_low a.self.low a.self.high a.n (omega arith) (omega arith) (omega arith) c.if-t-n.true

pub overflow_cast-result : goal.overflow_cast-result
overflow_cast-result c =
    let a = c.args in
    omega (arith, trailing_le 64 (2 ^ 64 - 1 - a.self.high))

pub overflow_add-result-then-n-lt64 : goal.overflow_add-result-then-n-lt64
overflow_add-result-then-n-lt64 c =
    let a = c.args in
    omega (arith, trailing_le 64 (2 ^ 64 - 1 - a.self.high))

pub returns-then-n-lt64 : goal.returns-then-n-lt64
returns-then-n-lt64 c =
    let a = c.args in
    open_across a.self.low a.self.high a.n (omega arith) (omega arith) (omega arith) c.if-t-n.false

pub returns-then-n-ge128 : goal.returns-then-n-ge128
returns-then-n-ge128 c = record { from = omega arith; up_to = omega arith; passed = λ k u v. absurd (omega arith); stops = λ u. absurd (omega arith) }

pub overflow_cast-t-2 : goal.overflow_cast-t-2
overflow_cast-t-2 c =
    let a = c.args in
    omega (arith, trailing_le 64 ((2 ^ 64 - 1 - a.self.high) / 2 ^ (a.n - 64)))

pub returns-then-t-n-2 : goal.returns-then-t-n-2
returns-then-t-n-2 c =
    let a = c.args in
    open_high a.self.low a.self.high a.n (omega arith) (omega arith) (omega arith) (omega arith) c.if-t-n-2.true

pub returns : goal.returns
returns c =
    let a = c.args in
    open_none a.self.low a.self.high a.n (omega arith) (omega arith) (omega arith) (omega arith) c.if-t-n-2.false
