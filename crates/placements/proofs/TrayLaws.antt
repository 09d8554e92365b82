-- What the type of a lent tray tells: rows 2 to 9 let it pass; and that of a counted one. Assumes nothing.
use Prim.Native.Nat.{ℕ, ◌≤◌, ◌<◌}
use mathlib.Core.Path.{◌≡◌, sym, subst}
use native.Mathlib.Omega.{arith}
use lib.Dec.{T}
use lib.ListN.{length, get_or}
use Rattle.definitions.specs.Refusals.{sides_fit, cells_lie}
use Rattle.definitions.specs.declared.Record.{Record}
use Rattle.placements.specs.declared.trays.LentTray.{LentTray}
use Rattle.placements.specs.declared.counted.CountedTray.{CountedTray}
use Rattle.placements.specs.Pieces.{no_record}
use Rattle.placements.specs.Merging.{Sound}
use Rattle.placements.proofs.MergingLaws.{record_fits}
use Rattle.placements.proofs.CountingLaws.{Lent, lent_passes, sound}

module _ (t : LentTray) where
  pub lent : Lent t.pieces t.board t.bytes.now
  lent = lent_passes t.pieces t.board t.bytes.now t.accepted

  pub sound_pieces : Sound t.pieces t.bytes.now
  sound_pieces = sound t.pieces t.board t.bytes.now lent

  pub few_pieces : t.pieces.count ≤ 16
  few_pieces = lent.few

  -- the record of a piece
  pub piece_fits : length t.pieces.records ≡ 16 → (i : ℕ) → i < t.pieces.count → (r : Record) → r ≡ get_or t.pieces.records i no_record
      → T (sides_fit r) × T (cells_lie t.bytes.now r)
  piece_fits long i h r e =
      subst (λ (q : Record). T (sides_fit q) × T (cells_lie t.bytes.now q)) (sym e) (record_fits t.pieces t.bytes.now sound_pieces long i h)

-- what the type of a counted tray tells of its kinds
module _ (c : CountedTray) where
  pub few_kinds : c.counts.kinds ≤ 16
  few_kinds = let few = few_pieces c.tray in omega (arith, c.counted.are_kinds.few)
