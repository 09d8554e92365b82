-- The rows of a kind, by where those of each kind begin.
use Rattle.std.specs.Prelude.{ℕ, ◌+◌, ◌-◌, cond, List, [], ltb, get_or, take, drop}

-- those from where the kind begins to where the next one does; none of what is no kind
unfoldable pub part_of : List ℕ → ℕ → ℕ → List ℕ → List ℕ
part_of starts kinds k rows =
    let part = take (get_or starts (k + 1) 0 - get_or starts k 0) (drop (get_or starts k 0) rows) in cond (ltb k kinds) part []
