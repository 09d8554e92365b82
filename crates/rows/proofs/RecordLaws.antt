-- What holds of each record that is lent, and of the record of zeros, holds of the record of each piece. Assumes nothing.
use Prim.Native.Nat.{ℕ, ◌≤◌, ◌<◌}
use mathlib.Core.List.{List, Memᴰ}
use mathlib.Core.Logic.{◌⊎◌, inl, inr}
use mathlib.Core.Path.{◌≡◌, sym, subst}
use native.Mathlib.Omega.{arith}
use lib.Dec.{T, le→leb}
use lib.ListN.{length, get_or, get_or-eq_default}
use lib.Seq.{get_or-take}
use Rattle.lists.proofs.TestLaws.{lt_or_ge}
use Rattle.lists.proofs.ListLaws.{all_at, get_or_mem}
use Rattle.definitions.specs.Grid.{volume}
use Rattle.definitions.specs.Refusals.{grid_of, sides_of, cells_lie, are_bits}
use Rattle.definitions.specs.declared.Record.{Record}
use Rattle.placements.specs.declared.Pieces.{Pieces}
use Rattle.placements.specs.Pieces.{no_record, records_of}
use Rattle.placements.specs.Merging.{Sound, grid_at}
use Rattle.placements.proofs.RefusalLaws.{records_few}
use Rattle.placements.proofs.CountingLaws.{Lent, sound, grid_size}

module _ (t : Pieces) (few : t.count ≤ 16) where
  pub record_is : (i : ℕ) → i < t.count → get_or (records_of t) i no_record ≡ get_or t.records i no_record
  record_is i h = rw (records_few t few) (get_or-take t.count t.records i no_record h)

  module _ (P : Record → Type 0) (none : P no_record) (each : (r : Record) → Memᴰ r (records_of t) → P r) where
    pub of_record : (i : ℕ) → i < t.count → P (get_or t.records i no_record)
    of_record i h = subst P (record_is i h) (go (lt_or_ge i (length (records_of t))))
      where
        go : (i < length (records_of t)) ⊎ (length (records_of t) ≤ i) → P (get_or (records_of t) i no_record)
        go (inl l) = each _ (get_or_mem no_record (records_of t) i l)
        go (inr l) = subst P (sym (get_or-eq_default (records_of t) no_record l)) none

-- the grid of the record of zeros has no cell
none_lies : (bytes : List ℕ) → T (cells_lie bytes no_record)
unfolding cells_lie sides_of volume
none_lies bytes = le→leb 0 (length bytes) (omega arith)

none_bits : (bytes : List ℕ) → T (are_bits (grid_of bytes no_record))
unfolding are_bits grid_of sides_of volume
none_bits bytes = tt

module _ (t : Pieces) (bytes : List ℕ) (s : Sound t bytes) (i : ℕ) (h : i < t.count) where
  pub record_lies : T (cells_lie bytes (get_or t.records i no_record))
  record_lies = of_record t s.few (λ r. T (cells_lie bytes r)) (none_lies bytes) (λ r m. all_at (cells_lie bytes) (records_of t) s.lie m) i h

  pub record_bits : ((r : Record) → Memᴰ r (records_of t) → T (are_bits (grid_of bytes r))) → T (are_bits (grid_of bytes (get_or t.records i no_record)))
  record_bits each = of_record t s.few (λ r. T (are_bits (grid_of bytes r))) (none_bits bytes) each i h

pub piece_size : (t : Pieces) (board : Record) (bytes : List ℕ) → Lent t board bytes → (i : ℕ) → i < t.count → length (grid_at t bytes i).cells ≡ volume (grid_at t bytes i).sides
unfolding grid_at
piece_size t board bytes lent i h = grid_size t board bytes lent (get_or t.records i no_record) (record_lies t bytes (sound t board bytes lent) i h)
