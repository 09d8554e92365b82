-- Document 01, "Kinds"; document 02, A5: "two pieces are one kind only if the wood agrees too".
use Rattle.std.specs.Prelude.{ℕ, Bool, ◌&&◌, ◌||◌, List, map, ltb, eqb}
use Rattle.lists.specs.Lists.{each, below, head_or, sort, numbered, before, keep}
use Rattle.definitions.specs.Grid.{Grid, same_grid, grid_ahead}
use Rattle.definitions.specs.Maps.{turns, mirror, map_grid}
use Rattle.definitions.specs.Stripping.{Frame}

pub record Piece : Type 0 where
  pub grid : Grid
  pub count : ℕ
  pub wood : ℕ

pub record Tray : Type 0 where
  pub board : Grid
  pub pieces : List Piece
  -- the box that was lent, in which answers are written, and where the board lies in it
  pub frame : Frame

-- "A kind's distinct turned grids, ascending, are its variants."
unfoldable pub variants : Grid → List Grid
variants g = sort grid_ahead (map (λ m. map_grid m g) turns)

unfoldable pub smallest : Grid → Grid
smallest g = head_or g (variants g)

-- "Two pieces are one kind if a turn makes their grids equal" and "the wood agrees too". Then, and only then, they have the same smallest turned grid and
-- wood, and this form names the kind.
pub record Form : Type 0 where
  pub grid : Grid
  pub wood : ℕ

abbrev pub piece_form : Piece → Form
piece_form q = record { grid = smallest q.grid; wood = q.wood }

unfoldable pub same_form : Form → Form → Bool
same_form f g = same_grid f.grid g.grid && eqb f.wood g.wood

-- "Kinds are ordered by their smallest turned grid"; "kinds with equal smallest grids go by wood".
unfoldable pub form_ahead : Form → Form → Bool
form_ahead f g = grid_ahead f.grid g.grid || (same_grid f.grid g.grid && ltb f.wood g.wood)

pub record Sorted : Type 0 where
  pub piece : ℕ
  pub count : ℕ
  pub form : Form

abbrev pub sort_piece : ℕ → Piece → Sorted
sort_piece i q = record { piece = i; count = q.count; form = piece_form q }

unfoldable pub sorted : Tray → List Sorted
sorted t = numbered t.pieces sort_piece

unfoldable pub forms : List Sorted → List Form
forms qs = sort form_ahead (map (λ q. q.form) qs)

-- "A kind's copies are numbered through its pieces in lent order, each piece's copies from 0."
pub record Copy : Type 0 where
  pub piece : ℕ
  pub copy : ℕ

abbrev pub copy_of : Sorted → ℕ → Copy
copy_of q n = record { piece = q.piece; copy = n }

abbrev pub copies_of_piece : Sorted → List Copy
copies_of_piece q = map (copy_of q) (below q.count)

unfoldable pub copies_of : List Sorted → Form → List Copy
copies_of qs f = each (keep (λ q. same_form q.form f) qs) copies_of_piece

-- "A kind's mirror partner is the kind of its mirrored grids, itself or another", and "must have the same wood": its number, or the number of kinds where
-- there is none.
unfoldable pub mirrored_form : Form → Form
mirrored_form f = record { grid = smallest (map_grid mirror f.grid); wood = f.wood }

unfoldable pub partner_of : List Form → Form → ℕ
partner_of fs f = let m = mirrored_form f in before (same_form m) fs

pub record Kind : Type 0 where
  pub shape : Grid
  pub wood : ℕ
  pub partner : ℕ
  pub copies : List Copy

abbrev pub kind_named : List Sorted → List Form → Form → Kind
kind_named qs fs f = record { shape = f.grid; wood = f.wood; partner = partner_of fs f; copies = copies_of qs f }

unfoldable pub kinds_of : Tray → List Kind
kinds_of t =
    let qs = sorted t in
    let fs = forms qs in
    map (kind_named qs fs) fs

-- what names a kind
unfoldable pub form_of : Kind → Form
form_of d = record { grid = d.shape; wood = d.wood }
