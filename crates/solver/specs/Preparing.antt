-- What preparation answers, and leaves in the slices.
use Rattle.std.specs.Prelude.{ℕ, List, ◌++◌, ◌≡◌, drop, Result, Ok, Err}
use Rattle.definitions.specs.Grid.{volume}
use Rattle.definitions.specs.Placements.{compile}
use Rattle.definitions.specs.Refusals.{first_that_applies, sides_of}
use Rattle.definitions.specs.Outcomes.{number_of}
use Rattle.definitions.specs.declared.Record.{Record}
use Rattle.definitions.specs.declared.Config.{Config}
use Rattle.definitions.specs.declared.Refusal.{Refusal}
use Rattle.placements.specs.Stages.{lent_rows, config_rows, slice_rows, count_rows}
use Rattle.placements.specs.Pieces.{tray_in}
use Rattle.rows.specs.declared.Dims.{Dims}
use Rattle.rows.specs.declared.chart.Chart.{Chart}
use Rattle.rows.specs.Systems.{system_in, system_of}
use Rattle.rows.specs.Ready.{Ready}

-- the first row of the table that applies, for slices of so many words and numbers
unfoldable pub refusal_by : List Record → Record → List ℕ → Config → ℕ → ℕ → ℕ
refusal_by rs board bytes config work links =
    first_that_applies (lent_rows rs board bytes ++ config_rows config ++ slice_rows config work links ++ count_rows (compile (tray_in rs board bytes)) config)

-- Why a call is refused to which so many words and links are lent, with the slice in which its rows would stand, and the chart, untouched.
pub record RefusedBy (why : Refusal) (rs : List Record) (board : Record) (bytes : List ℕ) (config : Config) (words links : ℕ) (work : List ℕ) (chart : Chart)
    (after : List ℕ) (charted : Chart) : Type 0 where
  pub first : number_of why ≡ refusal_by rs board bytes config words links
  pub untouched : after ≡ work
  pub uncharted : charted ≡ chart

-- or the row system of its tray, ready for the engines
pub record Stands (d : Dims) (rs : List Record) (board : Record) (bytes : List ℕ) (config : Config) (words links : ℕ) (work after : List ℕ) (charted : Chart)
    : Type 0 where
  pub accepted : refusal_by rs board bytes config words links ≡ 0
  pub ready : Ready d after charted
  pub system : system_in d after charted ≡ system_of (tray_in rs board bytes)
  pub places : d.places ≡ volume (sides_of board)
  pub behind : drop 8192 after ≡ drop 8192 work

unfoldable pub Prepares : Result Dims Refusal → List Record → Record → List ℕ → Config → ℕ → ℕ → List ℕ → Chart → List ℕ → Chart → Type 0
Prepares (Err why) rs board bytes config words links work chart after charted = RefusedBy why rs board bytes config words links work chart after charted
Prepares (Ok d) rs board bytes config words links work chart after charted = Stands d rs board bytes config words links work after charted
