-- Which places of the memory linking leaves as they are: the other fields of a node, and what lies behind all nodes. Assumes nothing.
use Prim.Native.Nat.{ℕ, ◌≤◌}
use native.Mathlib.Omega.{arith}
use mathlib.Core.Path.{◌≡◌, ◌∙◌}
use mathlib.Core.List.{List}
use lib.ListN.{length, get_or}
use Rattle.links.specs.Links.{at_column, at_first, at_end, at_copies, at_row, Still, Matrix, Fields}
use Rattle.links.specs.Build.{Written}

pub still_column : (x : ℕ) → Still (at_column x)
still_column x = record { up = λ y l e. omega arith; down = λ y l e. omega arith; size = λ y l e. omega arith }

pub still_first : (x : ℕ) → Still (at_first x)
still_first x = record { up = λ y l e. omega arith; down = λ y l e. omega arith; size = λ y l e. omega arith }

pub still_end : (x : ℕ) → Still (at_end x)
still_end x = record { up = λ y l e. omega arith; down = λ y l e. omega arith; size = λ y l e. omega arith }

pub still_copies : (x : ℕ) → Still (at_copies x)
still_copies x = record { up = λ y l e. omega arith; down = λ y l e. omega arith; size = λ y l e. omega arith }

pub still_row : (x : ℕ) → Still (at_row x)
still_row x = record { up = λ y l e. omega arith; down = λ y l e. omega arith; size = λ y l e. omega arith }

pub fields_of : {t : Matrix} {m : List ℕ} → 32768 ≤ length m → Written t m → Fields t m
fields_of long w = record { long = long; col = w.col; lo = w.lo; hi = w.hi; row = w.row }

-- the matrix's fields are such places
pub fields_agree : {t : Matrix} {m : List ℕ} (f : Fields t m) (m' : List ℕ) → length m' ≡ length m
    → ((i : ℕ) → Still i → get_or m' i 0 ≡ get_or m i 0) → Fields t m'
fields_agree f m' e s =
    record {
      long = rw e f.long;
      col = λ y h. s (at_column y) (still_column y) ∙ f.col y h;
      lo = λ y h. s (at_first y) (still_first y) ∙ f.lo y h;
      hi = λ y h. s (at_end y) (still_end y) ∙ f.hi y h;
      row = λ y h. s (at_row y) (still_row y) ∙ f.row y h;
    }
