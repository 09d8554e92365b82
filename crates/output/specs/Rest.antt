-- What is still to be printed once some entries of a listing have been. proofs/RestLaws: before the first entry it is document 01's listing.
use Rattle.std.specs.Prelude.{ℕ, ◌+◌, ◌*◌, ◌<◌, ◌≤◌, ◌^◌, cond, List, [], ◌++◌, ◌≡◌, ltb, length, take, drop, get_or}
use Rattle.lists.specs.Lists.{joined, numbered_from}
use Rattle.definitions.specs.Files.{entry_line, last_line}
use Rattle.output.specs.declared.lines.Lines.{Lines}

-- with n entry numbers: the lines of the entries from k on, and the last line where the numbers suffice
unfoldable pub rest_with : ℕ → ℕ → List (List ℕ) → List ℕ
rest_with n k list = joined (numbered_from k (drop k (take n list)) entry_line) ++ cond (ltb (length list) n) (last_line (length list)) []

unfoldable pub rest_from : ℕ → List (List ℕ) → List ℕ
rest_from k list = rest_with (2 ^ 64) k list

-- entries of a list stand in a buffer, one after the other, from entry `base` on
pub record Stands (list : List (List ℕ)) (base size written : ℕ) (answers : List ℕ) : Type 0 where
  pub inside : base + written ≤ length list
  pub entry : (i : ℕ) → i < written → take size (drop (i * size) answers) ≡ get_or list (base + i) []

-- lines were put at the start of a buffer, from entry `from` on up to `next`: with whatever stands in the answer buffer, what was to be
-- printed is these bytes and then the rest
pub record LinesPut (base size from end : ℕ) (answers old new : List ℕ) (r : Lines) : Type 0 where
  pub some : from < r.next
  pub most : r.next ≤ end
  pub bytes : 1 ≤ r.made
  pub fits : r.made ≤ length old
  pub behind : drop r.made new ≡ drop r.made old
  pub rest : (list : List (List ℕ)) → Stands list base size end answers
      → rest_from (base + from) list ≡ take r.made new ++ rest_from (base + r.next) list
