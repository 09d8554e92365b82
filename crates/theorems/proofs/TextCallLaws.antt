-- The call that writes the text for DLX1 (document 02, A2): its table of refusals, what an accepted one has passed, and its outcome. Assumes nothing.
use Prim.Native.Nat.{ℕ, ◌<◌, ◌≤◌}
use mathlib.Core.Bool.{Bool, true, false, cond, not, ◌||◌}
use mathlib.Core.List.{List, [], ◌∷◌, map}
use mathlib.Core.Path.{◌≡◌, refl, sym, ap, ◌∙◌, subst}
use mathlib.Core.Logic.{⊎_elim, ◌≢◌}
use native.Mathlib.Omega.{arith}
use borrow.Author.Tests.{ltb-false}
use lib.Dec.{T, ltb, eqb, eqb→eq, eqb_refl}
use lib.ListN.{length, take, drop, length-append, length-drop, length-replicate, replicate}
use Rattle.lists.specs.Lists.{any, is_empty, keep, member}
use Rattle.lists.proofs.TestLaws.{or_left, or_right, or_cases, is_false, by_eq, cond_same, cond_other}
use lib.Seq.{take-append_seam, drop-append_seam}
use Rattle.definitions.specs.Placements.{compile}
use Rattle.definitions.specs.Packing.{limits}
use Rattle.definitions.specs.Refusals.{Row, row, table, applies_in, first_that_applies, refusal, is_ported, is_knuth}
use Rattle.definitions.specs.Outcomes.{cleared, over_start}
use Rattle.definitions.specs.Dlx1Covers.{Dlx1Right}
use Rattle.definitions.specs.TextCalls.{TextCall, TextOutcome, TextDemand, as_listing, text_tray, text_of, text_table, text_refusal, text_refused, text_accepted, text_outcome}
use Rattle.theorems.proofs.RefusalLaws.{numbered, rising, test_of, none_applies, first_applies, first_smallest, first_decides, first_passes, passed}

-- the number returned is 0 or a row's
first_among : (rs : List Row) → T (member (first_that_applies rs) (0 ∷ map (λ r. r.number) rs))
first_among [] = tt
first_among (r ∷ rs) = go r.applies (first_among rs)
  where
    go : (b : Bool) → T (member (first_that_applies rs) (0 ∷ map (λ q. q.number) rs))
        → T (member (cond b r.number (first_that_applies rs)) (0 ∷ r.number ∷ map (λ q. q.number) rs))
    go true h = or_right (eqb r.number 0) _ (or_left (eqb r.number r.number) _ (eqb_refl r.number))
    go false h =
        let n = first_that_applies rs in
        ⊎_elim (or_left (eqb n 0) _) (λ t. or_right (eqb n 0) _ (or_right (eqb n r.number) _ t)) (or_cases (eqb n 0) _ h)

module _ (l : TextCall) where
  rows_numbered : T (numbered (text_table l))
  unfolding text_table table
  rows_numbered = tt

  rows_rising : T (rising (text_table l))
  unfolding text_table table
  rows_rising = tt

  none : text_refusal l ≡ 0 → (n : ℕ) → test_of (text_table l) n ≡ false
  unfolding text_refusal
  none ok n = none_applies (text_table l) rows_numbered ok n

  -- ---- an accepted call: the listing that it is refused as is accepted too; no kind has more than one copy, and the board has a filled cell; the text fits
  pub listing_accepted : text_refusal l ≡ 0 → refusal (as_listing l) ≡ 0
  unfolding text_refusal text_table refusal
  listing_accepted ok =
      by_eq (first_that_applies (table (as_listing l))) 0 (λ e. e) (λ d. absurd (d (sym (first_decides (table (as_listing l)) _ d) ∙ ok)))

  -- a listing's refusal is the call's, and behind it 17 and 18 decide
  pub listing_refuses : (refusal (as_listing l) ≡ 0 → ⊥) → text_refusal l ≡ refusal (as_listing l)
  unfolding text_refusal text_table refusal
  listing_refuses d = first_decides (table (as_listing l)) _ d

  pub text_refuses : refusal (as_listing l) ≡ 0
      → text_refusal l
      ≡ first_that_applies (row 17 (any (ltb 1) (limits (compile (text_tray l))) || is_empty (compile (text_tray l)).cells) ∷ row 18 (ltb (length l.output) (length (text_of l))) ∷ [])
  unfolding text_refusal text_table refusal
  text_refuses ok = first_passes (table (as_listing l)) _ (unfold table in tt) ok

  passed_17 : text_refusal l ≡ 0 → (any (ltb 1) (limits (compile (text_tray l))) || is_empty (compile (text_tray l)).cells) ≡ false
  unfolding text_table table
  passed_17 ok = none ok 17

  pub one_copy_each : text_refusal l ≡ 0 → any (ltb 1) (limits (compile (text_tray l))) ≡ false
  one_copy_each ok = is_false (any (ltb 1) (limits (compile (text_tray l)))) (λ t. subst T (passed_17 ok) (or_left _ _ t))

  pub some_cell : text_refusal l ≡ 0 → is_empty (compile (text_tray l)).cells ≡ false
  some_cell ok = is_false (is_empty (compile (text_tray l)).cells) (λ t. subst T (passed_17 ok) (or_right _ _ t))

  pub text_has_room : text_refusal l ≡ 0 → length (text_of l) ≤ length l.output
  unfolding text_table table
  text_has_room ok = ltb-false (length l.output) (length (text_of l)) (none ok 18)

  -- ---- the outcome
  number_is : (text_outcome l).number ≡ text_refusal l
  unfolding text_outcome text_accepted text_refused
  number_is = go (eqb (text_refusal l) 0) (λ t. eqb→eq (text_refusal l) 0 t)
    where
      go : (b : Bool) → (T b → text_refusal l ≡ 0) → (cond b (text_accepted l) (text_refused (text_refusal l) l)).number ≡ text_refusal l
      go true f = sym (f tt)
      go false f = refl

  pub text_outcome_accepted : text_refusal l ≡ 0 → text_outcome l ≡ text_accepted l
  unfolding text_outcome
  text_outcome_accepted ok = cond_same (text_refusal l) 0 (text_accepted l) (text_refused (text_refusal l) l) ok

  pub text_outcome_refused : (text_refusal l ≡ 0 → ⊥) → text_outcome l ≡ text_refused (text_refusal l) l
  unfolding text_outcome
  text_outcome_refused d = cond_other (text_refusal l) 0 (text_accepted l) (text_refused (text_refusal l) l) d

  is_accepted : (text_outcome l).number ≡ 0 → text_outcome l ≡ text_accepted l
  is_accepted e = text_outcome_accepted (sym number_is ∙ e)

  is_refused : (text_outcome l).number ≢ 0 → text_outcome l ≡ text_refused (text_refusal l) l
  is_refused d = text_outcome_refused (λ e. d (number_is ∙ e))

  -- a number returned is that of a row, and the rows of the engine, the identification and the links never apply
  pub numbers_are : T (member (text_refusal l) (0 ∷ 2 ∷ 3 ∷ 4 ∷ 5 ∷ 6 ∷ 8 ∷ 9 ∷ 12 ∷ 14 ∷ 17 ∷ 18 ∷ []))
  unfolding text_refusal text_table table as_listing is_ported is_knuth
  numbers_are = first_among (keep (λ r. not (member r.number (10 ∷ 11 ∷ 13 ∷ 15 ∷ []))) (text_table l))

  -- ---- the demands
  over_length : text_refusal l ≡ 0 → length (over_start (text_of l) l.output) ≡ length l.output
  unfolding over_start
  over_length ok =
      let a = length-append (text_of l) (drop (length (text_of l)) l.output) in
      let b = length-drop (length (text_of l)) l.output in
      let c = text_has_room ok in
      omega arith

  cleared_length : text_refusal l ≡ 0 → length (cleared 8192 l.work) ≡ length l.work
  unfolding cleared as_listing
  cleared_length ok =
      let a = length-append (replicate 8192 0) (drop 8192 l.work) in
      let b = length-drop 8192 l.work in
      let c = length-replicate {A = ℕ} 8192 0 in
      let d : 8192 ≤ length l.work = (passed (as_listing l) (listing_accepted ok)).work_long in
      omega arith

  pub text_demand : (text_refusal l ≡ 0 → Dlx1Right (text_tray l) (text_of l)) → TextDemand l (text_outcome l)
  unfolding text_refused text_accepted over_start text_refusal cleared
  text_demand right =
      let ok : (text_outcome l).number ≡ 0 → text_refusal l ≡ 0 = λ e. sym number_is ∙ e in
      record {
        it_applies = λ d. subst (λ (n : ℕ). T (applies_in (text_table l) n)) (sym number_is) (first_applies (text_table l) rows_numbered (λ e. d (number_is ∙ e)));
        none_before = λ n h t. (first_smallest (text_table l) rows_numbered rows_rising n t).1 (subst (λ (k : ℕ). n < k) number_is h);
        or_none_applies = λ e n t. (first_smallest (text_table l) rows_numbered rows_rising n t).0 (sym number_is ∙ e);
        numbers = subst (λ (n : ℕ). T (member n (0 ∷ 2 ∷ 3 ∷ 4 ∷ 5 ∷ 6 ∷ 8 ∷ 9 ∷ 12 ∷ 14 ∷ 17 ∷ 18 ∷ []))) (sym number_is) numbers_are;
        writes_none = λ d. ap (λ (o : TextOutcome). o.written) (is_refused d);
        output_kept = λ d. ap (λ (o : TextOutcome). o.output) (is_refused d);
        work_kept = λ d. ap (λ (o : TextOutcome). o.work) (is_refused d);
        fits = by_eq (text_outcome l).number 0
            (λ e. subst (λ (o : TextOutcome). o.written ≤ length l.output) (sym (is_accepted e)) (text_has_room (ok e)))
            (λ d. subst (λ (o : TextOutcome). o.written ≤ length l.output) (sym (is_refused d)) (omega arith));
        right = λ e.
            subst (Dlx1Right (text_tray l))
            (sym (ap (λ (o : TextOutcome). take o.written o.output) (is_accepted e) ∙ take-append_seam (text_of l) (drop (length (text_of l)) l.output)))
            (right (ok e));
        behind = λ e.
            ap (λ (o : TextOutcome). drop o.written o.output) (is_accepted e) ∙ drop-append_seam (text_of l) (drop (length (text_of l)) l.output)
            ∙ ap (λ (o : TextOutcome). drop o.written l.output) (sym (is_accepted e));
        output_length = by_eq (text_outcome l).number 0 (λ e. ap (λ (o : TextOutcome). length o.output) (is_accepted e) ∙ over_length (ok e))
            (λ d. ap (λ (o : TextOutcome). length o.output) (is_refused d));
        work = λ e. ap (λ (o : TextOutcome). o.work) (is_accepted e);
        work_length = by_eq (text_outcome l).number 0 (λ e. ap (λ (o : TextOutcome). length o.work) (is_accepted e) ∙ cleared_length (ok e))
            (λ d. ap (λ (o : TextOutcome). length o.work) (is_refused d));
      }
