-- What is asked of the solver is what the text says: with what `read_file` ensures of its result and of the cells that it writes, the
-- solver's calls have the outcome of document 01's call for the text, and its refusal is the one by which `packed` says what is printed.
-- Assumes nothing.
use Prim.Native.Nat.{ℕ}
use mathlib.Core.List.{List, ◌++◌}
use mathlib.Core.Path.{◌≡◌, sym, ap, ap₂, ◌∙◌}
use lib.ListN.{length, length-replicate}
use Rattle.definitions.specs.Files.{call_in, call_on}
use Rattle.definitions.specs.Placements.{compile}
use Rattle.definitions.specs.Refusals.{Call, Row, first_that_applies, refusal}
use Rattle.definitions.specs.declared.Config.{Config}
use Rattle.definitions.specs.declared.Record.{Record}
use Rattle.placements.specs.declared.Pieces.{Pieces}
use Rattle.placements.specs.Pieces.{records_of, tray_in, pieces_of}
use Rattle.placements.specs.Stages.{lent_rows, config_rows, slice_rows, count_rows}
use Rattle.placements.proofs.StageLaws.{refusal_stages}
use Rattle.definitions.specs.Starts.{outcome_from}
use Rattle.definitions.specs.declared.Start.{Start}
use Rattle.solver.specs.Lent.{call_with}
use Rattle.solver.proofs.RecordLaws.{outcome_same}

-- the call of a file, with slices
abbrev pub call_for : List ℕ → List ℕ → List ℕ → List ℕ → Call
call_for text answers work links = call_with (call_in text 0 0).pieces (call_in text 0 0).board (call_in text 0 0).bytes (call_in text 0 0).config answers work links

module _ (text bytes : List ℕ) (t : Pieces) (board : Record) (config : Config)
    (pieces-said : t ≡ pieces_of (call_in text 0 0).pieces) (board-said : board ≡ (call_in text 0 0).board) (config-said : config ≡ (call_in text 0 0).config)
    (lent : bytes ≡ (call_in text 0 0).bytes) (answers work links : List ℕ) where
  call_said : call_with (records_of t) board bytes config answers work links
      ≡ call_with (records_of (pieces_of (call_in text 0 0).pieces)) (call_in text 0 0).board (call_in text 0 0).bytes (call_in text 0 0).config answers work links
  call_said = (λ i. call_with (records_of (pieces-said i)) (board-said i) (lent i) (config-said i) answers work links)

  pub asked_outcome : (start : Start) (last : List ℕ)
      → outcome_from start last (call_with (records_of t) board bytes config answers work links) ≡ outcome_from start last (call_for text answers work links)
  asked_outcome start last =
      ap (outcome_from start last) call_said ∙ outcome_same (call_in text 0 0).board (call_in text 0 0).bytes (call_in text 0 0).config answers work links start last (call_in text 0 0).pieces

-- the refusal, with the slices that are lent
module _ (text : List ℕ) (answers work links : List ℕ) (words : length work ≡ 8192) (numbers : length links ≡ 32768) where
  abbrev rows_with : ℕ → ℕ → List Row
  rows_with w n =
      lent_rows (call_in text 0 0).pieces (call_in text 0 0).board (call_in text 0 0).bytes ++ config_rows (call_in text 0 0).config
      ++ slice_rows (call_in text 0 0).config w n
      ++ count_rows (compile (tray_in (call_in text 0 0).pieces (call_in text 0 0).board (call_in text 0 0).bytes)) (call_in text 0 0).config

  words_lent : length (call_in text 0 0).work ≡ 8192
  unfolding call_in call_on
  words_lent = length-replicate {A = ℕ} 8192 7

  numbers_lent : length (call_in text 0 0).links ≡ 32768
  unfolding call_in call_on
  numbers_lent = length-replicate {A = ℕ} 32768 7

  made : refusal (call_for text answers work links) ≡ first_that_applies (rows_with (length work) (length links))
  unfolding call_with
  made = refusal_stages (call_for text answers work links)

  pub asked_refusal : refusal (call_for text answers work links) ≡ refusal (call_in text 0 0)
  asked_refusal =
      made ∙ ap₂ (λ (w n : ℕ). first_that_applies (rows_with w n)) (words ∙ sym words_lent) (numbers ∙ sym numbers_lent) ∙ sym (refusal_stages (call_in text 0 0))
