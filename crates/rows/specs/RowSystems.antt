-- What a row system in lent slices stands for.
use Rattle.std.specs.Prelude.{ℕ, Bool, List, leb}
use Rattle.rows.specs.Charts.{images_of}
use Rattle.rows.specs.Systems.{System, system_in}
use Rattle.rows.specs.declared.row_system.RowSystem.{RowSystem}

-- the system that the engines see
abbrev pub seen : RowSystem → System
seen s = system_in s.d s.work.now s.chart.now

-- whether map m is a mirroring, and where it takes each cell
abbrev pub is_mirroring : RowSystem → ℕ → Bool
is_mirroring s m = leb s.d.turns m

abbrev pub images_under : RowSystem → ℕ → List ℕ
images_under s m = images_of s.chart.now s.d.size m
