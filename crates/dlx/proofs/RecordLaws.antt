-- The pieces made of a list of records stand for the list as far as the outcome of a call that writes the text reads it. Assumes nothing.
use Prim.Native.Nat.{ℕ, ◌<◌}
use mathlib.Core.List.{List}
use mathlib.Core.Path.{◌≡◌, refl, sym, ap, ◌∙◌}
use native.Mathlib.Omega.{arith}
use borrow.Author.Tests.{lt-ltb}
use lib.ListN.{length}
use Rattle.definitions.specs.Refusals.{table}
use Rattle.definitions.specs.TextCalls.{TextCall, as_listing, text_outcome, text_refusal, text_refused, text_table}
use Rattle.definitions.specs.declared.Record.{Record}
use Rattle.placements.specs.Pieces.{pieces_of, records_of}
use Rattle.theorems.proofs.TextCallLaws.{text_outcome_refused}
use Rattle.solver.proofs.RecordLaws.{same_of}
use Rattle.dlx.specs.Texts.{text_call}

module _ (board : Record) (bytes output work : List ℕ) where
  abbrev call : List Record → TextCall
  call ps = text_call ps board bytes output work

  refusal_many : (ps : List Record) → 16 < length ps → text_refusal (text_call ps board bytes output work) ≡ 2
  unfolding text_refusal text_table table as_listing text_call
  refusal_many ps h = simp (lt-ltb 16 (length ps) h)

  many_refused : (ps : List Record) → 16 < length ps → text_outcome (call ps) ≡ text_refused 2 (call ps)
  many_refused ps h =
      let e = refusal_many ps h in
      text_outcome_refused (call ps) (λ z. omega (arith, e, z)) ∙ ap (λ (n : ℕ). text_refused n (call ps)) e

  none_read : (ps qs : List Record) → text_refused 2 (call ps) ≡ text_refused 2 (call qs)
  unfolding text_refused text_call
  none_read ps qs = refl

  pub text_outcome_same : (ps : List Record)
      → text_outcome (text_call (records_of (pieces_of ps)) board bytes output work) ≡ text_outcome (text_call ps board bytes output work)
  text_outcome_same ps =
      same_of (λ l. text_outcome (call l)) (λ l m h k. many_refused l h ∙ none_read l m ∙ sym (many_refused m k)) ps
