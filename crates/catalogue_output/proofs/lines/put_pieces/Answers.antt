-- Each turn of the loop puts the line of the next entry. Assumes nothing.
use Rattle.std.proofs.Common.{◌≡◌, ℕ, ◌+◌, ◌*◌, List, [], ◌∷◌, ◌++◌, length, drop, subst, sym, ap, ◌∙◌, arith}
use Rattle.std.proofs.Math.ListN.{length-append}
use Rattle.definitions.specs.CatalogueCalls.{piece_line}
use Rattle.texts.specs.Put.{Put}
use Rattle.catalogue_output.specs.Entries.{HasLine, first_lines, entry_grid}
use Rattle.catalogue_output.proofs.LineLaws.{chunk_is, chunk_inside, chunk_behind, put_more}
use Rattle.catalogue_output.proofs.lines.put_pieces.Goals as goal

pub put_piece-end-requires : goal.put_piece-end-requires
put_piece-end-requires c =
    let l = c.loop-entry in
    let n = length l.yielded in
    let entry = c.in-Some.entry.now in
    let rest = c.next.new.self.rest.now in
    let step = c.in-Some.ensures.steps in
    let here = sym l.invariant.3 ∙ step.1.0 in
    let long = step.1.1 ∙ l.invariant.4 in
    let inside = chunk_inside c.args.entries.now entry rest n here long in
    (omega arith, subst HasLine (sym (chunk_is c.args.entries.now entry rest n here long)) (c.requires.0.has_line n inside))

pub loop-entry-preserved : goal.loop-entry-preserved
loop-entry-preserved c =
    let l = c.loop-entry in
    let n = length l.yielded in
    let a = c.args in
    let z = c.put_piece-end in
    let entry = c.in-Some.entry.now in
    let rest = c.next.new.self.rest.now in
    let step = c.in-Some.ensures.steps in
    let here = sym l.invariant.3 ∙ step.1.0 in
    let long = step.1.1 ∙ l.invariant.4 in
    let inside = chunk_inside a.entries.now entry rest n here long in
    let more : length (l.yielded ++ (c.in-Some.entry ∷ [])) ≡ n + 1 = length-append l.yielded (c.in-Some.entry ∷ []) in
    let put = subst (λ (e : List ℕ). Put l.out l.end (piece_line (entry_grid e)) z.new.out z.result) (chunk_is a.entries.now entry rest n here long) z.ensures.0 in (
      z.auto.out ∙ l.invariant.0,
      omega arith,
      omega arith,
      chunk_behind a.entries.now entry rest n here long ∙ ap (λ (k : ℕ). drop (k * 21) a.entries.now) (sym more),
      step.0 ∙ l.invariant.4,
      subst (λ (k : ℕ). Put a.out.now a.at (first_lines a.entries.now k) z.new.out z.result) (sym more) (put_more a.entries.now n l.invariant.5 put (omega arith)),
    )
