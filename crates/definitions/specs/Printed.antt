-- What `pack` prints for an accepted file, held to demand 3: a line for each answer of the one list, in its order and numbered from 0, and last how many there are.
-- Proved in MeetLaws (theorems); that the program writes these bytes is in the contract of `Room::run` (streams).
use Rattle.std.specs.Prelude.{ℕ, ◌<◌, ◌≤◌, ◌^◌, List, ◌++◌, map, ◌≡◌, T, length, take}
use Rattle.lists.specs.Lists.{joined, numbered}
use Rattle.definitions.specs.Kinds.{Tray}
use Rattle.definitions.specs.Placements.{Placement, compile}
use Rattle.definitions.specs.Kept.{Identify}
use Rattle.definitions.specs.Orders.{listed}
use Rattle.definitions.specs.Answers.{answer}
use Rattle.definitions.specs.Refusals.{tray_of, identify_of, refusal}
use Rattle.definitions.specs.Outcomes.{outcome}
use Rattle.definitions.specs.Demands.{OneList}
use Rattle.definitions.specs.Files.{call_in, entry_line, is_file, last_line, packed}
use Rattle.definitions.specs.declared.SolverKind.{SolverKind}

pub record Prints (printed : List ℕ) (t : Tray) (i : Identify) (e : SolverKind) (L : List (List Placement)) : Type 0 where
  -- L is the one list of demand 3: each packing that stands for others once, and no other
  pub one_list : OneList outcome t i e L
  pub whole_list : length L < 2 ^ 64 → printed ≡ joined (numbered (map (answer (compile t)) L) entry_line) ++ last_line (length L)
  -- "Entry numbers have 64 bits; were they used up, the program would stop there without its last line."
  pub numbers_used_up : 2 ^ 64 ≤ length L → printed ≡ joined (numbered (take (2 ^ 64) (map (answer (compile t)) L)) entry_line)

-- the same of a file's bytes
unfoldable pub PrintsListOf : List ℕ → List ℕ → Type 0
PrintsListOf bytes printed =
    let l = call_in bytes 0 0 in
    Prints printed (tray_of l) (identify_of l.config) l.config.solver (listed (compile (tray_of l)) (identify_of l.config) l.config.solver)

unfoldable pub PrintedRight : Type 0
PrintedRight = (bytes : List ℕ) → T (is_file bytes) → refusal (call_in bytes 0 0) ≡ 0 → PrintsListOf bytes (packed bytes)
