-- What the outcome of a page call rests on: the laws that its further clauses are. Assumes nothing.
use Rattle.definitions.proofs.FillingLaws.{fillings_hold}
use Rattle.theorems.proofs.AnswersRightLaws.{answers_right_holds}
use Rattle.theorems.proofs.DemandLaws.{demand2_holds, demand3_holds}
use Rattle.theorems.proofs.EmptyBoxLaws.{empty_box_holds, never1_holds}
use Rattle.theorems.proofs.MapNumberLaws.{moves_are_maps}
use Rattle.theorems.proofs.PlacementLaws.{placements_right_holds}
use Rattle.theorems.proofs.PruningLaws.{pruning_holds}
use Rattle.theorems.proofs.StartLaws.{behind_woods}
use Rattle.theorems.proofs.StrippedLaws.{strip_moved}
use Rattle.theorems.proofs.TrayLaws.{as_lent_holds, never7_holds, put_back_holds, stripped_tray_holds}
use Rattle.theorems.proofs.WoodLaws.{board_unread_holds, one_wood_calls_holds, one_wood_holds, wood_carried_holds, wood_lent_carried_holds}

pub ruleset promises = (
  demand3_holds,
  demand2_holds,
  moves_are_maps,
  placements_right_holds,
  answers_right_holds,
  stripped_tray_holds,
  strip_moved,
  never7_holds,
  put_back_holds,
  as_lent_holds,
  empty_box_holds,
  never1_holds,
  wood_carried_holds,
  wood_lent_carried_holds,
  one_wood_holds,
  one_wood_calls_holds,
  board_unread_holds,
  behind_woods,
  pruning_holds,
  fillings_hold,
)
