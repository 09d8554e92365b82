use Rattle.std.proofs.Common.{ℕ, ◌+◌, ◌*◌, ◌≤◌, ◌<◌, List, ◌++◌, ◌≡◌, length, drop, take}
use Rattle.output.specs.Rest.{rest_from, Stands}
use Rattle.output.proofs.lines.put_lines.Given as goal

-- the lines of the entries from `from` on up to i are made
pub record Made (base size from end : ℕ) (answers old new : List ℕ) (made i : ℕ) : Type 0 where
  pub long : length new ≡ length old
  pub later : 1 ≤ made → from < i
  pub some : i ≤ from + made
  pub fits : made ≤ length old
  pub behind : drop made new ≡ drop made old
  pub rest : (list : List (List ℕ)) → Stands list base size end answers → rest_from (base + from) list ≡ take made new ++ rest_from (base + i) list

abbrev pub invariant-loop-i : goal.invariant-loop-i
invariant-loop-i l = Made l.base (2 * l.places) l.from l.end l.answers l.initial.out l.out l.made l.i
