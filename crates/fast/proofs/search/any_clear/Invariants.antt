use Rattle.std.proofs.Common.{Bool, ℕ, List, ◌-◌, ◌≡◌}
use Rattle.lists.specs.Lists.{any, from}
use Rattle.masks.specs.Masks.{has, apart}
use Rattle.masks.specs.declared.Mask.{Mask}
use Rattle.rows.specs.Rows.{mask_at}
use Rattle.fast.proofs.search.any_clear.Given as goal

abbrev pub clear : List ℕ → Mask → ℕ → Bool
clear work covered r = apart 128 (has (mask_at work r)) (has covered)

-- the rows from r on decide
abbrev pub invariant-loop-r : goal.invariant-loop-r
invariant-loop-r l = any (clear l.work l.covered) (from l.r (l.end - l.r)) ≡ any (clear l.work l.covered) (from l.start (l.end - l.start))
