-- Where the board is unfilled a `-` is put, else the piece, a point and the copy, each of at most three digits. Assumes nothing.
use Rattle.std.proofs.Common.{◌≡◌, arith}
use Rattle.texts.proofs.DecimalLaws.{digits_of_byte}
use Rattle.files.proofs.ListingLaws.{put_unfilled, put_filled}
use Rattle.files.proofs.printing.put_cell.Goals as goal
use Rattle.files.proofs.printing.put_cell.Goals.{else-piece-eq255-via-then-piece-eq255+else-copy-eq255, else-piece-eq255-via-else-piece-eq255}

pub returns-then-copy-eq255 : goal.returns-then-copy-eq255
returns-then-copy-eq255 c = let a = c.args in (put_unfilled a.out.now a.at a.piece a.copy (omega arith) (omega arith) (omega arith), omega arith)

pub returns : goal.returns
returns c =
    let a = c.args in
    let p = c.put_decimal-dot.ensures.0 in
    let q = c.put_decimal.ensures.0 in
    let d = digits_of_byte a.piece (omega arith) in
    let e = digits_of_byte a.copy (omega arith) in
    let f = p.end in
    let g = q.end in
    let either : a.piece ≡ 255 → a.copy ≡ 255 → ⊥ =
    λ x y. elim c.else-piece-eq255.branch [
      | else-piece-eq255-via-then-piece-eq255+else-copy-eq255 w ↦ w.if-copy-eq255.false y
      | else-piece-eq255-via-else-piece-eq255 w ↦ w.if-piece-eq255.false x
    ] in
    (put_filled a.piece a.copy either p q (omega arith), omega arith)
