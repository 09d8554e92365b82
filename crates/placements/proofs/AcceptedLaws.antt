-- What a call's acceptance tells: a row that does not apply gives its bound. Assumes nothing.
use Prim.Native.Nat.{ℕ, ◌≤◌}
use mathlib.Core.Path.{◌≡◌}
use borrow.Author.Tests.{ltb-false}
use Rattle.definitions.specs.Placements.{Compiled}
use Rattle.definitions.specs.Refusals.{placement_count, first_that_applies}
use Rattle.definitions.specs.declared.Config.{Config}
use Rattle.theorems.proofs.RefusalLaws.{none_applies}
use Rattle.placements.specs.Stages.{slice_rows, count_rows_by, count_rows}

-- rows 12 and 13 let a call pass: its work slice is long enough
pub work-long : (config : Config) (work links : ℕ) → first_that_applies (slice_rows config work links) ≡ 0 → 8192 ≤ work
unfolding slice_rows
work-long config work links e = ltb-false work 8192 (none_applies (slice_rows config work links) tt e 12)

-- rows 14 and 15 let a call pass: its placements are few
pub placements_few : (c : Compiled) (config : Config) → first_that_applies (count_rows c config) ≡ 0 → placement_count c ≤ 1024
unfolding count_rows count_rows_by
placements_few c config e = ltb-false 1024 (placement_count c) (none_applies (count_rows c config) tt e 14)
