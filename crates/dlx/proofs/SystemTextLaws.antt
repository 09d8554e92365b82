-- The text of a tray's row system is the tray's text for DLX1; and what refuses it is told by the system. Assumes nothing.
use Prim.Native.Nat.{ℕ, suc}
use mathlib.Core.Bool.{Bool, ◌||◌}
use mathlib.Core.List.{List, [], ◌∷◌, ◌++◌, map}
use mathlib.Core.Path.{◌≡◌, refl, sym, ap, ap₂, ◌∙◌}
use native.Mathlib.Omega.{arith}
use lib.Dec.{ltb, eqb, eqb→eq}
use Rattle.lists.proofs.TestLaws.{is_false}
use lib.ListN.{length}
use Rattle.lists.specs.Lists.{any, is_empty, joined}
use Rattle.lists.proofs.ListLaws.{keep_at, map_same}
use Rattle.definitions.specs.Dlx1.{cell_item, dlx1_text, item_line, kind_item, line, option_line}
use Rattle.definitions.specs.Packing.{limits}
use Rattle.definitions.specs.Placements.{Compiled, compile}
use Rattle.definitions.specs.Refusals.{Call, rows_of, tray_of, refusal, row, first_that_applies}
use Rattle.definitions.specs.TextCalls.{TextCall, as_listing, text_of, text_refusal, text_tray}
use Rattle.theorems.proofs.BoxOrderLaws.{lent_order}
use Rattle.theorems.proofs.TextCallLaws.{text_refuses}
use Rattle.rows.specs.Systems.{System, system_of}
use Rattle.dlx.specs.Texts.{has_no_text, options_by, text_by, last_rows}

module _ (l : Call) (ok : refusal l ≡ 0) where
  abbrev c : Compiled
  c = compile (tray_of l)

  abbrev s : System
  s = system_of (tray_of l)

  -- its places are those of the lent box, in whose order a row's cells stand as in that of the stripped board's
  pub text_same : text_by (system_of (tray_of l)) ≡ dlx1_text (compile (tray_of l))
  unfolding text_by options_by system_of dlx1_text rows_of option_line
  text_same =
      ap (λ (ls : List (List ℕ)). item_line (length c.cells) (limits c) ++ joined ls)
      (map_same (option_line s.scans) _ (rows_of c) (λ q m. ap (λ (ns : List ℕ). line (kind_item q.kind ∷ map cell_item ns)) (lent_order l ok q (keep_at _ c.placements m).0)))

empty_size : {A : Type 0} (xs : List A) → eqb (length xs) 0 ≡ is_empty xs
empty_size [] = refl
empty_size (x ∷ xs) = is_false (eqb (suc (length xs)) 0) (λ t. let e = eqb→eq (suc (length xs)) 0 t in omega arith)

-- what refuses the text, where the listing is accepted
module _ (l : TextCall) (ok : refusal (as_listing l) ≡ 0) where
  abbrev t : System
  t = system_of (text_tray l)

  pub rows_same : first_that_applies (last_rows (system_of (text_tray l)) (length l.output)) ≡ text_refusal l
  unfolding last_rows has_no_text system_of text_of text_tray
  rows_same =
      ap₂ (λ (e : Bool) (n : ℕ). first_that_applies (row 17 (any (ltb 1) t.copies || e) ∷ row 18 (ltb (length l.output) n) ∷ []))
      (empty_size (compile (text_tray l)).cells) (ap (λ (x : List ℕ). length x) (text_same (as_listing l) ok))
      ∙ sym (text_refuses l ok)
