-- Document 02, A4: an answer of the stripped tray put back into the box that was lent, and taken out again.
use Rattle.std.specs.Prelude.{ℕ, ◌+◌, ◌-◌, ◌*◌, Bool, cond, ◌&&◌, List, [], ◌∷◌, leb, ltb, get_or}
use Rattle.lists.specs.Lists.{each}
use Rattle.definitions.specs.Grid.{Sides, Cell, set_down, box, place_of}
use Rattle.definitions.specs.Stripping.{Frame, own_frame}
use Rattle.definitions.specs.Kinds.{Tray}
use Rattle.definitions.specs.Placements.{Placement, Compiled}
use Rattle.definitions.specs.Answers.{taken, two_bytes}

-- a number is one of the n from lo on; a cell of the lent box is one of the stripped board's box, whose sides are s and whose corner lies on a cell of the
-- lent one; and which cell of it it is
unfoldable pub between : ℕ → ℕ → ℕ → Bool
between lo n i = leb lo i && ltb i (lo + n)

unfoldable pub inside : Cell → Sides → Cell → Bool
inside at s u = between at.x s.a u.x && (between at.y s.b u.y && between at.z s.c u.z)

unfoldable pub lift_off : Cell → Cell → Cell
lift_off at u = record { x = u.x - at.x; y = u.y - at.y; z = u.z - at.z }

-- byte j of the answer at the cell that lies on u; "255, 255 in the stripped part"
unfoldable pub byte_in : Frame → Sides → List ℕ → ℕ → Cell → ℕ
byte_in f s a j u = cond (inside f.at s u) (get_or a (2 * place_of s (lift_off f.at u) + j) 0) 255

unfoldable pub in_frame : Frame → Sides → List ℕ → List ℕ
in_frame f s a = each (box f.lent) (λ u. byte_in f s a 0 u ∷ byte_in f s a 1 u ∷ [])

unfoldable pub out_of_frame : Frame → Sides → List ℕ → List ℕ
out_of_frame f s a =
    each (box s) (λ u. get_or a (2 * place_of f.lent (set_down f.at u) + 0) 0 ∷ get_or a (2 * place_of f.lent (set_down f.at u) + 1) 0 ∷ [])

-- the tray whose answers are written in its board's own box, and such answers
unfoldable pub unframed : Tray → Tray
unframed t = record { board = t.board; pieces = t.pieces; frame = own_frame t.board }

unfoldable pub own_answer : Compiled → List Placement → List ℕ
own_answer c P =
    let ts = taken c P in
    each (box c.board.sides) (two_bytes ts c.cells)
