-- Rows stand by kind, then p, so those of kind k at cell c, range 128·k + c, stand one behind the other: from where the range begins to where the next does.
use Rattle.std.specs.Prelude.{ℕ, ◌+◌, ◌*◌, ◌≤◌, ◌≡◌, leb, get_or}
use mathlib.Core.List.{List, Memᴰ}
use Rattle.lists.specs.Lists.{before}
use Rattle.definitions.specs.Placements.{Placement}
use Rattle.rows.specs.Rows.{rows_in}

-- where the rows of the ranges from i on begin
unfoldable pub start_of : List Placement → ℕ → ℕ
start_of qs i = before (λ q. leb i (128 * q.kind + q.p)) qs

-- the starts of n rows' ranges, of which there are 2,048; behind them the number of rows
pub record Ranged (work starts : List ℕ) (n : ℕ) : Type 0 where
  pub begins : (i : ℕ) → i ≤ 2048 → get_or starts i 0 ≡ start_of (rows_in work n) i
  pub ends : get_or starts 2048 0 ≡ n

-- each placement has its p, and no cell before it
pub record FirstCells (qs : List Placement) : Type 0 where
  pub covers_p : (q : Placement) → Memᴰ q qs → Memᴰ q.p q.cells
  pub from_p : (q : Placement) → Memᴰ q qs → (n : ℕ) → Memᴰ n q.cells → q.p ≤ n
