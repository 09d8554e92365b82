-- The entries that a search's list of packings comes to.
use Rattle.std.specs.Prelude.{ℕ, List, [], ◌∷◌, map}
use Rattle.lists.specs.Lists.{below, keep, before, put}
use Rattle.definitions.specs.Placements.{Placement}
use Rattle.definitions.specs.Packing.{ahead, same_placement}
use Rattle.definitions.specs.Kept.{Identify}
use Rattle.definitions.specs.Emission.{Listed}
use Rattle.definitions.specs.Orders.{State}
use Rattle.rows.specs.Systems.{System}
use Rattle.rows.specs.Answering.{answer_by}
use Rattle.kept.specs.Normal.{normal}

-- the entry of a packing
unfoldable pub entry_by : System → List Placement → Listed
entry_by s P = record { answer = answer_by s P }

-- the numbers of a packing's rows, and the entries of those packings of a list that are kept
unfoldable pub numbers_of : System → List Placement → List ℕ
numbers_of s P = map (λ q. before (same_placement q) s.rows) P

unfoldable pub entries : System → Identify → List (List Placement) → List Listed
entries s i L = map (entry_by s) (keep (λ P. normal s i (numbers_of s P)) L)

-- the state in which a search begins: all copies left, no cell covered, nothing chosen
unfoldable pub start_by : System → State
start_by s = record { left = s.copies; free = below s.size; chosen = [] }

-- placements put one after the other into an ascending list
abbrev pub put_all : List Placement → List Placement → List Placement
put_all P [] = P
put_all P (q ∷ qs) = put_all (put ahead q P) qs
