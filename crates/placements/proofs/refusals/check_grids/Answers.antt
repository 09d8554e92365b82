-- `check_grids` meets its contract: the tests are the rows 5 to 9, in their order. Assumes nothing.
use Rattle.std.proofs.Common.{◌≡◌, ◌∙◌, sym}
use borrow.Author.Tests.{lt-ltb, le-ltb}
use Rattle.definitions.specs.Refusals.{grid_of, are_bits}
use Rattle.placements.proofs.RefusalLaws.{grid_rows_are, bits_told, cells_count}
use Rattle.placements.proofs.refusals.check_grids.Goals as goal
use Rattle.placements.proofs.refusals.check_grids.Goals.{After-are_bits, then-not-are_bits-via-then-not-are_bits, then-not-are_bits-via-else-not-are_bits+then-not-all_bits}

-- row 5, of the board
board_bits : (c : After-are_bits) → are_bits (grid_of c.args.bytes.now c.args.board) ≡ c.are_bits.result
board_bits c = sym (bits_told c.grid_of-grid.result c.grid_of-grid.ensures c.are_bits.ensures)

pub returns-then-not-are_bits : goal.returns-then-not-are_bits
returns-then-not-are_bits c =
    let board = board_bits (goal.at.returns-then-not-are_bits c).After-are_bits in
    elim c.then-not-are_bits.branch [
      | then-not-are_bits-via-then-not-are_bits w ↦ rw (grid_rows_are, board ∙ w.if-not-are_bits.true)
      | then-not-are_bits-via-else-not-are_bits+then-not-all_bits w ↦
          rw (grid_rows_are, board ∙ w.if-not-are_bits.false, sym w.all_bits.ensures ∙ w.if-not-all_bits.true)
    ]

pub returns-then-not-all_filled : goal.returns-then-not-all_filled
returns-then-not-all_filled c =
    let board = board_bits (goal.at.returns-then-not-all_filled c).After-are_bits in
    rw (
      grid_rows_are,
      board ∙ c.if-not-are_bits.false,
      sym c.all_bits.ensures ∙ c.if-not-all_bits.false,
      sym c.all_filled.ensures ∙ c.if-not-all_filled.true,
    )

pub returns-then-copies_lent-gt128 : goal.returns-then-copies_lent-gt128
returns-then-copies_lent-gt128 c =
    let board = board_bits (goal.at.returns-then-copies_lent-gt128 c).After-are_bits in
    rw (
      grid_rows_are,
      board ∙ c.if-not-are_bits.false,
      sym c.all_bits.ensures ∙ c.if-not-all_bits.false,
      sym c.all_filled.ensures ∙ c.if-not-all_filled.false,
      sym c.copies_lent.ensures,
      lt-ltb _ _ c.if-copies_lent-gt128.true,
    )

-- row 9 counts the cells that row 5 left 0 or 1
pub returns-then-count_filled-gt128 : goal.returns-then-count_filled-gt128
returns-then-count_filled-gt128 c =
    let board = board_bits (goal.at.returns-then-count_filled-gt128 c).After-are_bits ∙ c.if-not-are_bits.false in
    rw (
      grid_rows_are,
      board,
      sym c.all_bits.ensures ∙ c.if-not-all_bits.false,
      sym c.all_filled.ensures ∙ c.if-not-all_filled.false,
      sym c.copies_lent.ensures,
      le-ltb _ _ c.if-copies_lent-gt128.false,
      cells_count c.grid_of-grid.result c.grid_of-grid.ensures _ c.count_filled.ensures.0 board,
      lt-ltb _ _ c.if-count_filled-gt128.true,
    )

pub returns : goal.returns
returns c =
    let board = board_bits (goal.at.returns c).After-are_bits ∙ c.if-not-are_bits.false in
    rw (
      grid_rows_are,
      board,
      sym c.all_bits.ensures ∙ c.if-not-all_bits.false,
      sym c.all_filled.ensures ∙ c.if-not-all_filled.false,
      sym c.copies_lent.ensures,
      le-ltb _ _ c.if-copies_lent-gt128.false,
      cells_count c.grid_of-grid.result c.grid_of-grid.ensures _ c.count_filled.ensures.0 board,
      le-ltb _ _ c.if-count_filled-gt128.false,
    )
