-- The stages in which the code tests are document 01's table, so the number that they give is its refusal. Assumes nothing.
use mathlib.Core.List.{◌++◌}
use mathlib.Core.Path.{◌≡◌, refl, ap}
use lib.ListN.{length}
use Rattle.definitions.specs.Placements.{compile}
use Rattle.definitions.specs.Refusals.{Call, lent_of, tray_of, table, refusal, first_that_applies}
use Rattle.placements.specs.Pieces.{tray_in}
use Rattle.placements.specs.Stages.{grid_rows, lent_rows, config_rows, slice_rows, count_rows_by, count_rows}

pub stages : (l : Call)
    → table l
    ≡ lent_rows l.pieces l.board l.bytes ++ config_rows l.config ++ slice_rows l.config (length l.work) (length l.links)
    ++ count_rows (compile (tray_in l.pieces l.board l.bytes)) l.config
unfolding table lent_rows grid_rows config_rows slice_rows count_rows_by count_rows lent_of tray_of
stages l = refl

pub refusal_stages : (l : Call)
    → refusal l
    ≡ first_that_applies (lent_rows l.pieces l.board l.bytes ++ config_rows l.config ++ slice_rows l.config (length l.work) (length l.links)
    ++ count_rows (compile (tray_in l.pieces l.board l.bytes)) l.config)
unfolding refusal
refusal_stages l = ap first_that_applies (stages l)
