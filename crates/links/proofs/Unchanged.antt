-- What `hide_one`, `show_one` and `link_last` leave as it is before they call on: counts, and neighbours. Assumes nothing.
use Prim.Native.Nat.{ℕ, ◌+◌}
use native.Mathlib.Omega.{arith}
use mathlib.Core.Path.{◌≡◌, ◌∙◌}
use mathlib.Core.List.{List}
use lib.ListN.{set}
use lib.Seq.{get_or-set_other}
use Rattle.links.specs.Links.{up, down, size_of, at_up, at_down, at_size, unlink}
use Rattle.links.specs.Cover.{inc}
use Rattle.links.specs.Build.{inserted}
use Rattle.links.proofs.Rings.{two_other, unlink_other}

pub size_unlinked : (m : List ℕ) (y j : ℕ) → size_of (unlink m y) j ≡ size_of m j
size_unlinked m y j = unlink_other m y (at_size j) (omega arith) (omega arith)

pub up_counted : (m : List ℕ) (j y : ℕ) → up (inc m j) y ≡ up m y
unfolding inc
up_counted m j y = get_or-set_other m (at_size j) (at_up y) (size_of m j + 1) 0 (omega arith)

pub down_counted : (m : List ℕ) (j y : ℕ) → down (inc m j) y ≡ down m y
unfolding inc
down_counted m j y = get_or-set_other m (at_size j) (at_down y) (size_of m j + 1) 0 (omega arith)

pub size_inserted : (m : List ℕ) (x c u j : ℕ) → size_of (inserted m x c u) j ≡ size_of m j
unfolding inserted
size_inserted m x c u j =
    two_other (set (set m (at_up x) u) (at_down x) c) (at_down u) x (at_up c) x (at_size j) (omega arith) (omega arith)
    ∙ two_other m (at_up x) u (at_down x) c (at_size j) (omega arith) (omega arith)
