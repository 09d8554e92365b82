-- Calls that lend the same pieces, board and bytes have the same text. Where each lends 8,192 work words and room for that text, they are refused alike: neither
-- meets 12 or 18. Assumes nothing.
use Prim.Native.Nat.{ℕ, ◌≤◌}
use mathlib.Core.Bool.{Bool, cond, ◌||◌}
use mathlib.Core.List.{List, ◌++◌}
use mathlib.Core.Path.{◌≡◌, refl, sym, ap, ◌∙◌}
use borrow.Author.Tests.{le-ltb}
use lib.Dec.{ltb, eqb}
use lib.ListN.{length}
use Rattle.lists.specs.Lists.{any, is_empty}
use Rattle.lists.proofs.TestLaws.{by_eq, cond_same, cond_other}
use Rattle.definitions.specs.Dlx1.{dlx1_text}
use Rattle.definitions.specs.Packing.{limits}
use Rattle.definitions.specs.Placements.{compile}
use Rattle.definitions.specs.Refusals.{Row, first_that_applies, lent_of, refusal, tray_of}
use Rattle.definitions.specs.TextCalls.{TextCall, as_listing, plain_fast, text_of, text_refusal, text_tray}
use Rattle.definitions.specs.declared.Record.{Record}
use Rattle.placements.specs.Pieces.{tray_in}
use Rattle.placements.specs.Stages.{count_rows, config_rows, lent_rows, slice_rows}
use Rattle.placements.proofs.StageLaws.{refusal_stages}
use Rattle.theorems.proofs.TextCallLaws.{listing_refuses, text_refuses}
use Rattle.theorems.proofs.TextLengthLaws.{text_fits}
use Rattle.dlx.specs.Texts.{text_call}

module _ (pieces : List Record) (board : Record) (bytes : List ℕ) where
  abbrev lent : List ℕ → List ℕ → TextCall
  lent output work = text_call pieces board bytes output work

  abbrev text : List ℕ
  text = dlx1_text (compile (tray_in pieces board bytes))

  pub text_lent : (output work : List ℕ) → text_of (lent output work) ≡ text
  unfolding text_of text_tray as_listing tray_of lent_of text_call
  text_lent output work = refl

  -- ---- the listing as which it is refused, where the work words are enough
  abbrev rows_with : List Row → List Row
  rows_with slices =
      lent_rows pieces board bytes ++ config_rows plain_fast ++ slices ++ count_rows (compile (tray_in pieces board bytes)) plain_fast

  abbrev listing_number : ℕ
  listing_number = first_that_applies (rows_with (slice_rows plain_fast 8192 0))

  enough_words : (n : ℕ) → 8192 ≤ n → slice_rows plain_fast n 0 ≡ slice_rows plain_fast 8192 0
  unfolding slice_rows
  enough_words n h = simp (le-ltb n 8192 h)

  listing_with : (output work : List ℕ) → 8192 ≤ length work → refusal (as_listing (lent output work)) ≡ listing_number
  unfolding as_listing text_call
  listing_with output work h =
      refusal_stages (as_listing (lent output work)) ∙ ap (λ (slices : List Row). first_that_applies (rows_with slices)) (enough_words (length work) h)

  -- ---- 17 and 18
  abbrev no_text : Bool
  no_text = any (ltb 1) (limits (compile (tray_in pieces board bytes))) || is_empty (compile (tray_in pieces board bytes)).cells

  refused_late : (output work : List ℕ) → refusal (as_listing (lent output work)) ≡ 0
      → text_refusal (lent output work) ≡ cond no_text 17 (cond (ltb (length output) (length text)) 18 0)
  unfolding text_of text_tray as_listing tray_of lent_of text_call
  refused_late output work e = text_refuses (lent output work) e

  fits : (output work : List ℕ) → refusal (as_listing (lent output work)) ≡ 0 → length text ≤ 663552
  unfolding text_of text_tray as_listing tray_of lent_of text_call
  fits output work ok = text_fits (lent output work) ok

  -- the number of each call that lends as much
  abbrev said : ℕ
  said = cond (eqb listing_number 0) (cond no_text 17 0) listing_number

  pub text_refused_with : (output work : List ℕ) → 8192 ≤ length work → (length text ≤ 663552 → length text ≤ length output) → text_refusal (lent output work) ≡ said
  text_refused_with output work h room =
      let z = listing_with output work h in
      by_eq (refusal (as_listing (lent output work))) 0
      (λ e.
      refused_late output work e
      ∙ ap (λ (b : Bool). cond no_text 17 (cond b 18 0)) (le-ltb (length output) (length text) (room (fits output work e)))
      ∙ sym (cond_same listing_number 0 (cond no_text 17 0) listing_number (sym z ∙ e)))
      (λ d. listing_refuses (lent output work) d ∙ z ∙ sym (cond_other listing_number 0 (cond no_text 17 0) listing_number (λ e. d (z ∙ e))))
