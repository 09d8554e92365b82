-- A page written entry by entry, as a search, or the catalogue's walk, finds them: what its contract says. Nothing here is of document 01; EmissionLaws
-- (theorems) shows that from the start the entries of a list leave exactly document 01's page of their answers, from any split of the list, and that once a
-- further entry is known the rest changes nothing. A page may also begin behind a given entry, so that a listing in pages does not search anew what it has
-- passed: until that entry is met, entries only pass by.
use Rattle.std.specs.Prelude.{ℕ, ◌+◌, ◌-◌, ◌*◌, Bool, false, true, cond, not, List, [], ◌∷◌, map, ltb, length, ◌≡◌}
use Rattle.std.proofs.Math.Seq.{paste}
use Rattle.lists.specs.Lists.{joined, same}
use Rattle.definitions.specs.Page.{page}
use Rattle.definitions.specs.Outcomes.{over_start}

-- an entry of a list: its answer, or its bytes (what is listed beside these is a further field); and the answers of a list's entries
pub record Listed : Type 0 where
  pub answer : List ℕ

abbrev pub answers_in : List Listed → List (List ℕ)
answers_in list = map (λ (entry : Listed). entry.answer) list

-- the answer of an entry to wait for, and whether it is still to come; how many entries are still to be skipped (counted down, so that no sum can pass 64
-- bits), how many were written, whether a further one is known, and the answer buffer
pub record Emitted : Type 0 where
  pub last : List ℕ
  pub waiting : Bool
  pub skip : ℕ
  pub written : ℕ
  pub further : Bool
  pub answers : List ℕ

abbrev pub begin : List ℕ → Bool → ℕ → List ℕ → Emitted
begin last waiting skip answers = record { last = last; waiting = waiting; skip = skip; written = 0; further = false; answers = answers }

-- the answer buffer with an entry written behind those before it
abbrev pub with_entry : Listed → Emitted → List ℕ
with_entry entry s = paste s.answers (s.written * length entry.answer) entry.answer (length entry.answer)

-- one more entry, where capacity entries fit: nothing once a further one is known; else met or passed by; else skipped; else written behind those before
-- it; else the further one
unfoldable pub emit : ℕ → Listed → Emitted → Emitted
emit capacity entry s =
    cond s.further s
    (cond s.waiting (record { last = s.last; waiting = not (same entry.answer s.last); skip = s.skip; written = s.written; further = false; answers = s.answers })
    (cond (ltb 0 s.skip) (record { last = s.last; waiting = false; skip = s.skip - 1; written = s.written; further = false; answers = s.answers })
    (cond (ltb s.written capacity)
    (record { last = s.last; waiting = false; skip = 0; written = s.written + 1; further = false; answers = with_entry entry s })
    (record { last = s.last; waiting = false; skip = 0; written = s.written; further = true; answers = s.answers }))))

unfoldable pub emits : ℕ → List Listed → Emitted → Emitted
emits capacity [] s = s
emits capacity (entry ∷ entries) s = emits capacity entries (emit capacity entry s)

-- what of a list of answers lies behind the first that equals a given one (nothing where none does); and the list from where a page begins
abbrev pub behind : List ℕ → List (List ℕ) → List (List ℕ)
behind last [] = []
behind last (x ∷ xs) = cond (same x last) xs (behind last xs)

abbrev pub onwards : List ℕ → Bool → List (List ℕ) → List (List ℕ)
onwards last waiting list = cond waiting (behind last list) list

-- what a fold leaves, beside the skip, is the page of the list of answers and the buffer behind it
pub record IsPage (list : List (List ℕ)) (skip capacity : ℕ) (old : List ℕ) (s : Emitted) : Type 0 where
  pub written : s.written ≡ (page list skip capacity).written
  pub further : s.further ≡ (page list skip capacity).further
  pub answers : s.answers ≡ over_start (joined (page list skip capacity).entries) old
