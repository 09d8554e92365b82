-- What a call leaves, made of what is read of a file, is what `dlx1` prints for it: an accepted call the text, a refused one the number. Assumes nothing.
use Prim.Native.Nat.{ℕ, ◌+◌, ◌≤◌}
use mathlib.Core.Bool.{Bool, true, false, cond, ◌&&◌}
use mathlib.Core.List.{List, ◌++◌}
use mathlib.Core.Path.{◌≡◌, refl, sym, ap, ap₂, ◌∙◌}
use native.Mathlib.Nat.{le_trans, le_of_eq}
use native.Mathlib.Omega.{arith}
use Rattle.std.proofs.lemmas.List.Edits.{paste_all}
use borrow.Author.Tests.{le-leb}
use lib.Dec.{eqb, leb}
use lib.ListN.{drop, length, length-replicate, replicate}
use Rattle.std.specs.Prelude.{Ok, Err}
use Rattle.lists.proofs.TestLaws.{by_eq, cond_same, cond_other}
use Rattle.definitions.specs.Files.{call_in, call_on, is_file, refused_line}
use Rattle.definitions.specs.Outcomes.{cleared, number_of, over_start}
use Rattle.definitions.specs.TextCalls.{TextCall, TextOutcome, dlx1_number, dlx1_printed, text_accepted, text_call_in, text_of, text_outcome, text_outcome_of, text_refusal, text_refused}
use Rattle.definitions.specs.declared.Record.{Record}
use Rattle.definitions.specs.declared.Refusal.{Refusal}
use Rattle.texts.specs.Put.{Put}
use Rattle.placements.specs.Pieces.{pieces_of, records_of}
use Rattle.placements.specs.declared.Pieces.{Pieces}
use Rattle.placements.proofs.CountingLaws.{refused_some}
use Rattle.theorems.proofs.TextCallLaws.{text_outcome_accepted, text_outcome_refused}
use Rattle.dlx.specs.Texts.{text_call}
use Rattle.dlx.proofs.RecordLaws.{text_outcome_same}
use Rattle.dlx_output.proofs.RoomLaws.{text_lent, text_refused_with}

-- a text put over the start of a buffer
over_put : (old bytes : List ℕ) → Put old 0 bytes (over_start bytes old) (length bytes)
unfolding over_start
over_put old bytes =
    let z : 0 + length bytes ≡ length bytes = omega arith in
    record {
      bytes = ap (λ (n : ℕ). bytes ++ drop n old) (sym z) ∙ sym (paste_all old 0 bytes (length bytes) refl);
      end = sym z;
    }

-- whether a text is read, where the cells suffice
pub is_read : (cells : List ℕ) {file read : Bool} → 16384 ≤ length cells → (leb 16384 (length cells) && file) ≡ read → file ≡ read
is_read cells {file} long e = sym (ap (λ (b : Bool). b && file) (le-leb 16384 (length cells) long)) ∙ e

pub malformed : (text : List ℕ) → is_file text ≡ false → dlx1_printed text ≡ refused_line 16
unfolding dlx1_printed
malformed text e = rw e

-- the work words afterwards
abbrev pub work_then : List ℕ → List ℕ → List ℕ
work_then text work = cond (is_file text && eqb (dlx1_number text) 0) (cleared 8192 work) work

pub malformed_work : (text work : List ℕ) → is_file text ≡ false → work ≡ work_then text work
malformed_work text work e = rw e

module _ (text bytes : List ℕ) (t : Pieces) (board : Record) (pieces-said : t ≡ pieces_of (call_in text 0 0).pieces)
    (board-said : board ≡ (call_in text 0 0).board) (lent-said : bytes ≡ (call_in text 0 0).bytes) where
  pub asked_outcome : (output work : List ℕ)
      → text_outcome (text_call (records_of t) board bytes output work)
      ≡ text_outcome (text_call (call_in text 0 0).pieces (call_in text 0 0).board (call_in text 0 0).bytes output work)
  asked_outcome output work =
      (λ i. text_outcome (text_call (records_of (pieces-said i)) (board-said i) (lent-said i) output work))
      ∙ text_outcome_same (call_in text 0 0).board (call_in text 0 0).bytes output work (call_in text 0 0).pieces

module _ (text : List ℕ) where
  -- the call on what the text asks for, with slices
  abbrev lent : List ℕ → List ℕ → TextCall
  lent output work = text_call (call_in text 0 0).pieces (call_in text 0 0).board (call_in text 0 0).bytes output work

  words : 8192 ≤ length (call_in text 0 0).work
  unfolding call_in call_on
  words = le_of_eq (sym (length-replicate {A = ℕ} 8192 7))

  as_lent : (n : ℕ) → text_call_in text n ≡ lent (replicate n 7) (call_in text 0 0).work
  unfolding text_call_in text_call
  as_lent n = refl

  module _ (output work : List ℕ) (long : 8192 ≤ length work) (room : 663552 ≤ length output) where
    same_text : text_of (text_call_in text 0) ≡ text_of (lent output work)
    same_text =
        ap text_of (as_lent 0) ∙ text_lent (call_in text 0 0).pieces (call_in text 0 0).board (call_in text 0 0).bytes (replicate 0 7) (call_in text 0 0).work
        ∙ sym (text_lent (call_in text 0 0).pieces (call_in text 0 0).board (call_in text 0 0).bytes output work)

    same_refusal : text_refusal (text_call_in text (length (text_of (text_call_in text 0)))) ≡ text_refusal (lent output work)
    same_refusal =
        let n = length (text_of (text_call_in text 0)) in
        let e = ap length (same_text ∙ text_lent (call_in text 0 0).pieces (call_in text 0 0).board (call_in text 0 0).bytes output work) in
        ap text_refusal (as_lent n)
        ∙ text_refused_with (call_in text 0 0).pieces (call_in text 0 0).board (call_in text 0 0).bytes (replicate n 7) (call_in text 0 0).work words
        (λ h. le_of_eq (sym e ∙ sym (length-replicate {A = ℕ} n 7)))
        ∙ sym (text_refused_with (call_in text 0 0).pieces (call_in text 0 0).board (call_in text 0 0).bytes output work long (λ h. le_trans h room))

    printed_with : is_file text ≡ true
        → dlx1_printed text ≡ cond (eqb (text_refusal (lent output work)) 0) (text_of (lent output work)) (refused_line (text_refusal (lent output work)))
    unfolding dlx1_printed
    printed_with file =
        rw file (ap₂ (λ (n : ℕ) (written : List ℕ). cond (eqb n 0) written (refused_line n)) same_refusal same_text)

    work_decided : is_file text ≡ true → work_then text work ≡ cond (eqb (text_refusal (lent output work)) 0) (cleared 8192 work) work
    work_decided file = rw file (ap (λ (n : ℕ). cond (eqb n 0) (cleared 8192 work) work) same_refusal)

    pub accepted : (n : ℕ) (output' work' : List ℕ) → is_file text ≡ true → text_outcome_of (Ok n) output' work' ≡ text_outcome (lent output work)
        → Put output 0 (dlx1_printed text) output' n × (work' ≡ work_then text work)
    unfolding text_accepted text_refused text_call
    accepted n output' work' file e =
        by_eq (text_refusal (lent output work)) 0
        (λ z.
        let a = e ∙ text_outcome_accepted (lent output work) z in
        let p = printed_with file ∙ cond_same (text_refusal (lent output work)) 0 (text_of (lent output work)) (refused_line (text_refusal (lent output work))) z in (
          rw (p, ap (λ (o : TextOutcome). o.output) a, ap (λ (o : TextOutcome). o.written) a) (over_put output (text_of (lent output work))),
          ap (λ (o : TextOutcome). o.work) a ∙ sym (work_decided file ∙ cond_same (text_refusal (lent output work)) 0 (cleared 8192 work) work z),
        ))
        (λ d. absurd (d (sym (ap (λ (o : TextOutcome). o.number) (e ∙ text_outcome_refused (lent output work) d)))))

    pub refused : (why : Refusal) (output' work' : List ℕ) → is_file text ≡ true → text_outcome_of (Err why) output' work' ≡ text_outcome (lent output work)
        → (dlx1_printed text ≡ refused_line (number_of why)) × (output' ≡ output) × (work' ≡ work_then text work)
    unfolding text_accepted text_refused text_call
    refused why output' work' file e =
        by_eq (text_refusal (lent output work)) 0
        (λ z. absurd (refused_some why (ap (λ (o : TextOutcome). o.number) (e ∙ text_outcome_accepted (lent output work) z))))
        (λ d.
        let r = e ∙ text_outcome_refused (lent output work) d in (
          printed_with file ∙ cond_other (text_refusal (lent output work)) 0 (text_of (lent output work)) (refused_line (text_refusal (lent output work))) d
              ∙ ap refused_line (sym (ap (λ (o : TextOutcome). o.number) r)),
          ap (λ (o : TextOutcome). o.output) r,
          ap (λ (o : TextOutcome). o.work) r ∙ sym (work_decided file ∙ cond_other (text_refusal (lent output work)) 0 (cleared 8192 work) work d),
        ))
