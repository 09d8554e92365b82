-- Document 02, A5, beech and walnut: what woods forbid, and what they leave as it was; what is said of calls is said, as the demands are, of anything that
-- runs them. Statements only; proved in WoodLaws and StartLaws (theorems).
use Rattle.std.specs.Prelude.{ℕ, ◌≡◌, T}
use mathlib.Core.List.{List, map, Memᴰ}
use Rattle.definitions.specs.Kinds.{Piece, Tray, Copy}
use Rattle.definitions.specs.Placements.{Placement, compile}
use Rattle.definitions.specs.Kept.{Identify}
use Rattle.definitions.specs.Moves.{Move, is_odd, cell_after_all, CarriedOnto, Carries}
use Rattle.definitions.specs.Refusals.{Call, tray_of, refusal, with_records}
use Rattle.definitions.specs.Outcomes.{Outcome, answers_of}
use Rattle.definitions.specs.Files.{call_in, is_file, packed}
use Rattle.definitions.specs.PlacementsRight.{piece_at, kind_at}
use Rattle.definitions.specs.Starts.{outcome_behind}
use Rattle.definitions.specs.declared.Record.{Record}
use Rattle.definitions.specs.declared.SolverKind.{SolverKind}

-- "no sequence of moves carries a walnut placement onto a beech one" (that a kind's wood is its pieces': `Right.wood_lent`)
unfoldable pub WoodCarried : Type 0
WoodCarried =
    (l : Call) → refusal l ≡ 0 → (ms : List Move) (P Q : List Placement) → Carries (compile (tray_of l)) ms P Q
    → (r q : Placement) → Memᴰ r P → Memᴰ q Q → CarriedOnto (compile (tray_of l)) (is_odd ms) (cell_after_all ms (compile (tray_of l)).board.sides) r q
    → (kind_at (compile (tray_of l)) q.kind).wood ≡ (kind_at (compile (tray_of l)) r.kind).wood

-- the same of what is lent: a copy that may lie on the one, and a copy that may lie on the other, are of pieces lent in one wood
unfoldable pub WoodLentCarried : Type 0
WoodLentCarried =
    (l : Call) → refusal l ≡ 0 → (ms : List Move) (P Q : List Placement) → Carries (compile (tray_of l)) ms P Q
    → (r q : Placement) → Memᴰ r P → Memᴰ q Q → CarriedOnto (compile (tray_of l)) (is_odd ms) (cell_after_all ms (compile (tray_of l)).board.sides) r q
    → (x y : Copy) → Memᴰ x (kind_at (compile (tray_of l)) r.kind).copies → Memᴰ y (kind_at (compile (tray_of l)) q.kind).copies
    → (piece_at (tray_of l) y.piece).wood ≡ (piece_at (tray_of l) x.piece).wood

-- "Trays of one wood are still compared with the Rust": their answers are those of the tray without woods, whichever wood it is, and a call's whole
-- outcome is
unfoldable pub woodless : Piece → Piece
woodless q = record { grid = q.grid; count = q.count; wood = 0 }

unfoldable pub unwooded : Tray → Tray
unwooded t = record { board = t.board; pieces = map woodless t.pieces; frame = t.frame }

unfoldable pub OneWood : Type 0
OneWood = (t : Tray) (w : ℕ) → ((q : Piece) → Memᴰ q t.pieces → q.wood ≡ w) → (i : Identify) (e : SolverKind) → answers_of t i e ≡ answers_of (unwooded t) i e

unfoldable pub with_wood : ℕ → Record → Record
with_wood w r = record { a = r.a; b = r.b; c = r.c; count = r.count; wood = w; start = r.start }

unfoldable pub without_woods : Call → Call
without_woods l = with_records (map (with_wood 0) l.pieces) l.board l

unfoldable pub OneWoodCalls : (Call → Outcome) → Type 0
OneWoodCalls run = (l : Call) (w : ℕ) → ((r : Record) → Memᴰ r l.pieces → r.wood ≡ w) → run l ≡ run (without_woods l)

-- and so a file of one wood, and the file that says the same without woods, are printed alike
unfoldable pub OneWoodPrinted : Type 0
OneWoodPrinted =
    (bytes plain : List ℕ) → T (is_file bytes) → T (is_file plain) → (w : ℕ) → ((r : Record) → Memᴰ r (call_in bytes 0 0).pieces → r.wood ≡ w)
    → call_in plain 0 0 ≡ without_woods (call_in bytes 0 0) → packed plain ≡ packed bytes

-- "unread on the board"
unfoldable pub board_in_wood : ℕ → Call → Call
board_in_wood w l = with_records l.pieces (with_wood w l.board) l

unfoldable pub BoardUnread : (Call → Outcome) → Type 0
BoardUnread run = (l : Call) (w : ℕ) → run (board_in_wood w l) ≡ run l

-- and so in a page from behind an entry
unfoldable pub WoodsBehind : Type 0
WoodsBehind = (last : List ℕ) → OneWoodCalls (outcome_behind last) × BoardUnread (outcome_behind last)
