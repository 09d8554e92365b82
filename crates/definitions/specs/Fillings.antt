-- Document 01, "Fillings to hold it to": the lines marked to be proved, as one table, and those of document 02's requests. proofs/FillingLaws has the one
-- theorem, which antt computes. Each line is held for both engines. M is one cell, D two in a row.
use Rattle.std.specs.Prelude.{ℕ, Bool, true, false, not, ◌&&◌, List, [], ◌∷◌, ◌++◌, T, eqb, length, drop}
use Rattle.lists.specs.Lists.{all, same, joined}
use Rattle.definitions.specs.Refusals.{Call}
use Rattle.definitions.specs.Files.{Written, call_on}
use Rattle.definitions.specs.Outcomes.{Outcome, outcome}
use Rattle.definitions.specs.declared.SolverKind.{SolverKind}
use Rattle.definitions.specs.declared.SolverKind.TheVariants.{Fast, KnuthAlgorithm}

abbrev pub piece : ℕ → ℕ → ℕ → ℕ → List ℕ → Written
piece n i j k cells = record { count = n; wood = 0; a = i; b = j; c = k; cells = cells }

-- such a piece in another wood
abbrev pub in_wood : ℕ → Written → Written
in_wood w g = record { count = g.count; wood = w; a = g.a; b = g.b; c = g.c; cells = g.cells }

abbrev pub board : ℕ → ℕ → ℕ → List ℕ → Written
board i j k cells = piece 0 i j k cells

abbrev pub M : ℕ → Written
M n = piece n 1 1 1 (1 ∷ [])

abbrev pub D : ℕ → Written
D n = piece n 1 1 2 (1 ∷ 1 ∷ [])

-- a line: a tray, whether turned and mirrored packings are identified, and the answers that the page is to hold
pub record Line : Type 0 where
  pub board : Written
  pub pieces : List Written
  pub turned : Bool
  pub mirrored : Bool
  pub answers : List (List ℕ)

abbrev pub none : Written → List Written → List (List ℕ) → Line
none b ps xs = record { board = b; pieces = ps; turned = false; mirrored = false; answers = xs }

abbrev pub turned : Written → List Written → List (List ℕ) → Line
turned b ps xs = record { board = b; pieces = ps; turned = true; mirrored = false; answers = xs }

abbrev pub mirrored : Written → List Written → List (List ℕ) → Line
mirrored b ps xs = record { board = b; pieces = ps; turned = true; mirrored = true; answers = xs }

unfoldable pub fillings : List Line
fillings =
    -- "The listing above; `turned`: one, M at z 0; pieces lent D first, `none`: 1.0 0.0 0.0, then 0.0 0.0 1.0."
    none (board 1 1 3 (1 ∷ 1 ∷ 1 ∷ [])) (M 1 ∷ D 1 ∷ []) ((0 ∷ 0 ∷ 1 ∷ 0 ∷ 1 ∷ 0 ∷ []) ∷ (1 ∷ 0 ∷ 1 ∷ 0 ∷ 0 ∷ 0 ∷ []) ∷ []) ∷
    turned (board 1 1 3 (1 ∷ 1 ∷ 1 ∷ [])) (M 1 ∷ D 1 ∷ []) ((0 ∷ 0 ∷ 1 ∷ 0 ∷ 1 ∷ 0 ∷ []) ∷ []) ∷
    none (board 1 1 3 (1 ∷ 1 ∷ 1 ∷ [])) (D 1 ∷ M 1 ∷ []) ((1 ∷ 0 ∷ 0 ∷ 0 ∷ 0 ∷ 0 ∷ []) ∷ (0 ∷ 0 ∷ 0 ∷ 0 ∷ 1 ∷ 0 ∷ []) ∷ []) ∷
    -- Document 02, A4: "cells 1110 with M and D under `turned` now have one packing, not two"
    turned (board 1 1 4 (1 ∷ 1 ∷ 1 ∷ 0 ∷ [])) (M 1 ∷ D 1 ∷ []) ((0 ∷ 0 ∷ 1 ∷ 0 ∷ 1 ∷ 0 ∷ 255 ∷ 255 ∷ []) ∷ []) ∷
    -- "2 by 2 by 1, two D: `none` two, `turned` one; D lent twice, one copy each, `none`: two."
    none (board 2 2 1 (1 ∷ 1 ∷ 1 ∷ 1 ∷ [])) (D 2 ∷ []) ((0 ∷ 0 ∷ 0 ∷ 0 ∷ 0 ∷ 1 ∷ 0 ∷ 1 ∷ []) ∷ (0 ∷ 0 ∷ 0 ∷ 1 ∷ 0 ∷ 0 ∷ 0 ∷ 1 ∷ []) ∷ []) ∷
    turned (board 2 2 1 (1 ∷ 1 ∷ 1 ∷ 1 ∷ [])) (D 2 ∷ []) ((0 ∷ 0 ∷ 0 ∷ 0 ∷ 0 ∷ 1 ∷ 0 ∷ 1 ∷ []) ∷ []) ∷
    none (board 2 2 1 (1 ∷ 1 ∷ 1 ∷ 1 ∷ [])) (D 1 ∷ D 1 ∷ []) ((0 ∷ 0 ∷ 0 ∷ 0 ∷ 1 ∷ 0 ∷ 1 ∷ 0 ∷ []) ∷ (0 ∷ 0 ∷ 1 ∷ 0 ∷ 0 ∷ 0 ∷ 1 ∷ 0 ∷ []) ∷ []) ∷
    -- "1 by 1 by 3, two D: no packing."
    none (board 1 1 3 (1 ∷ 1 ∷ 1 ∷ [])) (D 2 ∷ []) [] ∷
    -- "1 by 1 by 1 unfilled, M: one, bytes 255 255."
    none (board 1 1 1 (0 ∷ [])) (M 1 ∷ []) ((255 ∷ 255 ∷ []) ∷ []) ∷
    -- "1 by 1 by 1, M with no copies: no packing, both engines."
    none (board 1 1 1 (1 ∷ [])) (M 0 ∷ []) [] ∷
    -- "1 by 1 by 1, `mirrored`, M and a handed four-cell piece: one."
    mirrored (board 1 1 1 (1 ∷ [])) (M 1 ∷ piece 1 2 2 2 (1 ∷ 1 ∷ 1 ∷ 0 ∷ 0 ∷ 1 ∷ 0 ∷ 0 ∷ []) ∷ []) ((0 ∷ 0 ∷ []) ∷ []) ∷
    -- Document 02, A1, an empty box: "a board without filled cells has the one empty packing, every other board has none" (nor is there a kind 0 to be placed
    -- first, though all copies together have as many cells as the board)
    none (board 1 1 1 (0 ∷ [])) [] ((255 ∷ 255 ∷ []) ∷ []) ∷
    turned (board 1 1 1 (0 ∷ [])) [] ((255 ∷ 255 ∷ []) ∷ []) ∷
    mirrored (board 1 1 1 (0 ∷ [])) [] ((255 ∷ 255 ∷ []) ∷ []) ∷
    turned (board 2 1 2 (0 ∷ 0 ∷ 0 ∷ 0 ∷ [])) [] ((255 ∷ 255 ∷ 255 ∷ 255 ∷ 255 ∷ 255 ∷ 255 ∷ 255 ∷ []) ∷ []) ∷
    none (board 1 1 1 (1 ∷ [])) [] [] ∷
    turned (board 1 1 1 (1 ∷ [])) [] [] ∷
    mirrored (board 1 1 4 (0 ∷ 1 ∷ 1 ∷ 0 ∷ [])) [] [] ∷
    -- Document 02, A4, empty outer layers: in front of the board too, where "answers are still written in the box that was lent"; "scan order" is that of the
    -- stripped board; an empty layer between filled ones stays; pieces that differ in empty layers alone are one kind; "a board with no filled cell keeps its box"
    none (board 2 1 3 (0 ∷ 0 ∷ 0 ∷ 0 ∷ 1 ∷ 1 ∷ [])) (M 1 ∷ M 1 ∷ []) ((255 ∷ 255 ∷ 255 ∷ 255 ∷ 255 ∷ 255 ∷ 255 ∷ 255 ∷ 0 ∷ 0 ∷ 1 ∷ 0 ∷ []) ∷ []) ∷
    none (board 1 3 2 (0 ∷ 0 ∷ 0 ∷ 1 ∷ 1 ∷ 0 ∷ [])) (M 2 ∷ []) ((255 ∷ 255 ∷ 255 ∷ 255 ∷ 255 ∷ 255 ∷ 0 ∷ 1 ∷ 0 ∷ 0 ∷ 255 ∷ 255 ∷ []) ∷ []) ∷
    none (board 1 1 5 (0 ∷ 1 ∷ 0 ∷ 1 ∷ 0 ∷ [])) (piece 1 1 1 4 (1 ∷ 0 ∷ 1 ∷ 0 ∷ []) ∷ []) ((255 ∷ 255 ∷ 0 ∷ 0 ∷ 255 ∷ 255 ∷ 0 ∷ 0 ∷ 255 ∷ 255 ∷ []) ∷ []) ∷
    none (board 1 1 2 (1 ∷ 1 ∷ [])) (piece 1 1 1 3 (1 ∷ 0 ∷ 1 ∷ []) ∷ []) [] ∷
    none (board 1 1 2 (1 ∷ 1 ∷ [])) (piece 1 1 1 2 (1 ∷ 0 ∷ []) ∷ M 1 ∷ []) ((0 ∷ 0 ∷ 1 ∷ 0 ∷ []) ∷ []) ∷
    turned (board 1 1 4 (0 ∷ 0 ∷ 0 ∷ 0 ∷ [])) (M 1 ∷ []) ((255 ∷ 255 ∷ 255 ∷ 255 ∷ 255 ∷ 255 ∷ 255 ∷ 255 ∷ []) ∷ []) ∷
    []

abbrev pub same_test : Bool → Bool → Bool
same_test true b = b
same_test false b = not b

-- An outcome of an accepted call that lists these answers: the buffer holds them, and behind them what it held; whether a further one follows, and whether the
-- entry to begin behind is missing.
abbrev pub shows : List (List ℕ) → Bool → Bool → List ℕ → Outcome → Bool
shows answers further missing old o =
    let bytes = joined answers in
    eqb o.number 0
    && (eqb o.written (length answers)
    && (same_test o.further further && (same_test o.missing missing && same o.answers (bytes ++ drop (length bytes) old))))

unfoldable pub lists : List (List ℕ) → Bool → Call → Bool
lists answers further l = shows answers further false l.answers (outcome l)

unfoldable pub holds : SolverKind → Line → Bool
holds e l = lists l.answers false (call_on l.board l.pieces l.turned l.mirrored e 0 64)

-- each line comes out so
unfoldable pub FillingsHold : Type 0
FillingsHold = T (all (λ l. holds Fast l && holds KnuthAlgorithm l) fillings)
