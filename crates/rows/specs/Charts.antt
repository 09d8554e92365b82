-- What a chart says of a tray.
use native.Mathlib.Omega.{arith}
use Rattle.std.specs.Prelude.{ℕ, ◌*◌, List, get_or, take, drop}
use Rattle.rows.specs.declared.chart.Chart.{Chart}
use Rattle.rows.specs.declared.chart.Kind.{Kind}
use Rattle.rows.specs.declared.chart.Owned.{Owned}

-- what stands past the end of a list of kinds, and of pieces
abbrev pub no_kind : Kind
no_kind = record { copies = 0; partner = 0; size = 0; few = omega arith }

abbrev pub nothing_owned : Owned
nothing_owned = record { kind = 0; count = 0 }

-- the copies, the mirror partner and the cells of kind k
abbrev pub kind_copies : List Kind → ℕ → ℕ
kind_copies kinds k = (get_or kinds k no_kind).copies

abbrev pub kind_partner : List Kind → ℕ → ℕ
kind_partner kinds k = (get_or kinds k no_kind).partner

abbrev pub kind_size : List Kind → ℕ → ℕ
kind_size kinds k = (get_or kinds k no_kind).size

-- where map m takes each of so many cells
unfoldable pub images_of : Chart → ℕ → ℕ → List ℕ
images_of chart size m = take size (drop (128 * m) chart.images)
