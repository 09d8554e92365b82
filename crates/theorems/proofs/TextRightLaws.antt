-- What document 02, A2 demands of the call that writes the text for DLX1 holds of its outcome, and so of code whose contract is one equation with it. Assumes
-- nothing.
use Prim.Native.Nat.{ℕ}
use mathlib.Core.Bool.{not}
use mathlib.Core.List.{List, ◌++◌}
use mathlib.Core.Logic.{◌↔◌}
use mathlib.Core.Path.{◌≡◌, refl, sym, ◌∙◌, subst, subst₂}
use lib.Dec.{T, ltb, eqb}
use lib.ListN.{length}
use Rattle.lists.specs.Lists.{all, ascending, is_empty}
use Rattle.lists.proofs.TestLaws.{and_both, and_left, and_right, cond_same, cond_true, is_true}
use Rattle.definitions.specs.Dlx1Covers.{Dlx1Right, TakenByDlx1, TextCover, apart, hits, is_name, is_taken_by_dlx1, is_text_cover, options_in, primary_in, secondary_in}
use Rattle.definitions.specs.Files.{call_in, is_file, last_of, parts, refused_line}
use Rattle.definitions.specs.Refusals.{lent_of, tray_of}
use Rattle.definitions.specs.TextCalls.{TextPrintedRight, MeetsTextDemand, TextCall, TextDemand, TextOutcome, as_listing, dlx1_number, dlx1_printed, text_call_in, text_of, text_outcome, text_refusal, text_tray}
use Rattle.theorems.proofs.BuiltOrderLaws.{built_order}
use Rattle.theorems.proofs.Dlx1CoverLaws.{text_covers_same, text_names_items, text_one_to_one, text_taken_by}
use Rattle.theorems.proofs.TextCallLaws.{text_demand}

-- ---- covers of a text, and what DLX1 asks of it, as tests
pub cover_tested : (text rows : List ℕ) → TextCover text rows ↔ T (is_text_cover text rows)
unfolding is_text_cover
cover_tested text rows = (
  λ c. and_both _ _ c.a_set (and_both _ _ c.of_options (and_both _ _ c.once c.at_most_once)),
  λ t.
      let u = and_right (ascending ltb rows) _ t in
      let v = and_right (all (λ r. ltb r (length (options_in text))) rows) _ u in
      record {
        a_set = and_left (ascending ltb rows) _ t;
        of_options = and_left (all (λ r. ltb r (length (options_in text))) rows) _ u;
        once = and_left (all (λ w. eqb (hits (options_in text) rows w) 1) (primary_in text)) _ v;
        at_most_once = and_right (all (λ w. eqb (hits (options_in text) rows w) 1) (primary_in text)) _ v;
      },
)

pub taken_tested : (text : List ℕ) → TakenByDlx1 text ↔ T (is_taken_by_dlx1 text)
unfolding is_taken_by_dlx1
taken_tested text = (
  λ k. and_both _ _ k.ended (and_both _ _ k.some_item (and_both _ _ k.names (and_both _ _ k.named_once k.options))),
  λ t.
      let items = primary_in text ++ secondary_in text in
      let u = and_right (is_empty (last_of (parts 10 text))) _ t in
      let v = and_right (not (is_empty (primary_in text))) _ u in
      let w = and_right (all is_name items) _ v in
      record {
        ended = and_left (is_empty (last_of (parts 10 text))) _ t;
        some_item = and_left (not (is_empty (primary_in text))) _ u;
        names = and_left (all is_name items) _ v;
        named_once = and_left (apart items) _ w;
        options = and_right (apart items) _ w;
      },
)

-- ---- the call
pub text_right : (l : TextCall) → text_refusal l ≡ 0 → Dlx1Right (text_tray l) (text_of l)
text_right l ok =
    record {
      taken = text_taken_by l ok;
      items = text_names_items l ok;
      built_order = built_order l ok;
      covers_same = text_covers_same l ok;
      one_to_one = text_one_to_one l ok;
    }

pub text_demand_holds : MeetsTextDemand text_outcome
unfolding MeetsTextDemand
text_demand_holds l = text_demand l (text_right l)

pub meets_text : (l : TextCall) (o : TextOutcome) → o ≡ text_outcome l → TextDemand l o
unfolding MeetsTextDemand
meets_text l o e = subst (TextDemand l) (sym e) (text_demand_holds l)

-- ---- the program: what `dlx1` prints for a file that is not refused is the text of its tray
module _ (bytes : List ℕ) where
  printed_text : T (is_file bytes) → dlx1_number bytes ≡ 0 → dlx1_printed bytes ≡ text_of (text_call_in bytes 0)
  unfolding dlx1_printed
  printed_text file ok =
      cond_true (is_file bytes) _ (refused_line 16) (is_true (is_file bytes) file)
      ∙ cond_same (dlx1_number bytes) 0 (text_of (text_call_in bytes 0)) (refused_line (dlx1_number bytes)) ok

  -- the room decides nothing else
  same_text : (room : ℕ) → text_of (text_call_in bytes room) ≡ text_of (text_call_in bytes 0)
  unfolding text_of text_tray as_listing text_call_in
  same_text room = refl

  same_tray : (room : ℕ) → text_tray (text_call_in bytes room) ≡ tray_of (call_in bytes 0 0)
  unfolding text_tray as_listing text_call_in tray_of lent_of
  same_tray room = refl

pub text_printed_right_holds : TextPrintedRight
unfolding TextPrintedRight
text_printed_right_holds bytes file ok =
    let room = length (text_of (text_call_in bytes 0)) in
    subst₂ Dlx1Right (same_tray bytes room) (same_text bytes room ∙ sym (printed_text bytes file ok)) (text_right (text_call_in bytes room) ok)
