-- What the call that writes the text leaves is its outcome: refused as a listing is, or by the row system, or the text is written. Assumes nothing.
use Prim.Native.Nat.{ℕ, ◌≤◌}
use mathlib.Core.List.{List, []}
use mathlib.Core.Path.{◌≡◌, sym, ap, ◌∙◌}
use Rattle.std.specs.Prelude.{Ok, Err, length}
use Rattle.definitions.specs.Outcomes.{cleared, number_of, over_start}
use Rattle.definitions.specs.Refusals.{first_that_applies, lent_of, refusal, tray_of}
use Rattle.definitions.specs.TextCalls.{TextCall, as_listing, plain_fast, text_accepted, text_of, text_outcome, text_outcome_of, text_refusal, text_refused, text_tray}
use Rattle.definitions.specs.declared.Record.{Record}
use Rattle.definitions.specs.declared.Refusal.{Refusal}
use Rattle.theorems.proofs.RefusalLaws.{passed}
use Rattle.theorems.proofs.TextCallLaws.{listing_refuses, text_outcome_accepted, text_outcome_refused}
use Rattle.placements.specs.Pieces.{tray_in}
use Rattle.placements.proofs.CountingLaws.{refused_some}
use Rattle.rows.specs.Systems.{System, system_of}
use Rattle.solver.specs.Lent.{call_with}
use Rattle.solver.specs.Preparing.{refusal_by}
use Rattle.solver.proofs.CallLaws.{refusal_is}
use Rattle.dlx.specs.Texts.{Checked, text_by, text_call, last_rows}
use Rattle.dlx.proofs.SystemTextLaws.{rows_same, text_same}

module _ (rs : List Record) (board : Record) (bytes output work : List ℕ) where
  abbrev l : TextCall
  l = text_call rs board bytes output work

  listing_number : refusal (as_listing (text_call rs board bytes output work)) ≡ refusal_by rs board bytes plain_fast (length work) 0
  unfolding as_listing text_call call_with
  listing_number = refusal_is rs board bytes plain_fast [] work []

  -- refused by a number that is the call's
  by_number : (why : Refusal) → number_of why ≡ text_refusal (text_call rs board bytes output work)
      → text_outcome_of (Err why) output work ≡ text_outcome (text_call rs board bytes output work)
  unfolding text_refused text_call
  by_number why e = ap (λ (n : ℕ). text_refused n l) e ∙ sym (text_outcome_refused l (λ z. refused_some why (e ∙ z)))

  pub listing_refused : (why : Refusal) → number_of why ≡ refusal_by rs board bytes plain_fast (length work) 0
      → text_outcome_of (Err why) output work ≡ text_outcome (text_call rs board bytes output work)
  listing_refused why e =
      let f : number_of why ≡ refusal (as_listing l) = e ∙ sym listing_number in
      by_number why (f ∙ sym (listing_refuses l (λ z. refused_some why (f ∙ z))))

  -- where the listing is accepted, the row system of its tray decides
  module _ (accepted : refusal_by rs board bytes plain_fast (length work) 0 ≡ 0) (s : System) (is : s ≡ system_of (tray_in rs board bytes)) where
    ok : refusal (as_listing (text_call rs board bytes output work)) ≡ 0
    ok = listing_number ∙ accepted

    decides : first_that_applies (last_rows s (length output)) ≡ text_refusal (text_call rs board bytes output work)
    unfolding text_call as_listing text_tray lent_of tray_of
    decides = ap (λ (x : System). first_that_applies (last_rows x (length output))) is ∙ rows_same l ok

    the_text : text_by s ≡ text_of (text_call rs board bytes output work)
    unfolding text_call as_listing text_tray text_of lent_of tray_of
    the_text = ap text_by is ∙ text_same (as_listing l) ok

    pub words_many : 8192 ≤ length work
    unfolding as_listing text_call
    words_many = (passed (as_listing l) ok).work_long

    pub text_refused_by : (why : Refusal) → Checked (Err why) s (length output)
        → text_outcome_of (Err why) output work ≡ text_outcome (text_call rs board bytes output work)
    unfolding Checked
    text_refused_by why e = by_number why (e ∙ decides)

    pub text_written : (n : ℕ) → Checked (Ok n) s (length output) → (output' work' : List ℕ) → output' ≡ over_start (text_by s) output → work' ≡ cleared 8192 work
        → text_outcome_of (Ok n) output' work' ≡ text_outcome (text_call rs board bytes output work)
    unfolding Checked text_accepted text_call
    text_written n h output' work' e f =
        (λ i. record {
          number = 0;
          written = (h.0 ∙ ap (λ (x : List ℕ). length x) the_text) i;
          output = (e ∙ ap (λ (x : List ℕ). over_start x output) the_text) i;
          work = f i;
        })
        ∙ sym (text_outcome_accepted l (sym decides ∙ h.1))
