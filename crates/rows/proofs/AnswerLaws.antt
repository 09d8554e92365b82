-- The answer that a row system gives of a packing is document 01's: a kind's copies by its pieces' kind numbers are those by their forms, since two pieces
-- have one kind number where their forms are the same. Assumes nothing.
use Prim.Native.Nat.{ℕ, suc, ◌+◌, ◌<◌}
use mathlib.Core.Bool.{Bool, true, false}
use mathlib.Core.List.{List, [], ◌∷◌, ◌++◌, map, map-map}
use mathlib.Core.Path.{◌≡◌, refl, sym, ap, ap₂, ◌∙◌, subst}
use native.Mathlib.Omega.{arith}
use lib.Dec.{T, eqb, eqb→eq}
use lib.ListN.{length, get_or, length-map}
use Rattle.lists.specs.Lists.{cons_if, keep, joined, numbered_from, from, below, before, each, ascending}
use Rattle.lists.proofs.TestLaws.{eqb_of, tests_same}
use Rattle.lists.proofs.ListLaws.{each_map, numbered_map}
use Rattle.lists.proofs.SortLaws.{sort_ascending}
use Rattle.lists.proofs.NthLaws.{Nth, nth_get_or, get_or_nth, before_nth}
use Rattle.definitions.specs.Grid.{box}
use Rattle.definitions.specs.Scan.{scan_number}
use Rattle.definitions.specs.Kinds.{Tray, Piece, Form, piece_form, same_form, form_ahead, Sorted, sort_piece, Copy, Kind, sorted, forms, copies_of_piece, copies_of, kind_named, kinds_of}
use Rattle.definitions.specs.Placements.{Placement, compile}
use Rattle.definitions.specs.Packing.{limits}
use Rattle.definitions.specs.Answers.{Taken, takes, taken, copy_on, answer, two_bytes, lent_cells}
use Rattle.theorems.proofs.PartnerLaws.{same_form→eq, form_trans, before_form}
use Rattle.rows.specs.Systems.{owned, system_of}
use Rattle.rows.specs.declared.chart.Owned.{Owned}
use Rattle.rows.specs.Answering.{copies_if, copies_by, taken_by, answers_over, answer_by}

-- ---- lists
numbered_by : {A B : Type 0} (f : ℕ → A → B) (g : ℕ → B) (i : ℕ) (xs : List A) → ((n : ℕ) (x : A) → Nth xs n x → f (n + i) x ≡ g (n + i)) → numbered_from i xs f ≡ map g (from i (length xs))
numbered_by f g i [] h = refl
numbered_by {A} {B} f g i (x ∷ xs) h =
    ap₂ (λ (y : B) (l : List B). y ∷ l) (ap (λ (k : ℕ). f k x) {x = i} {y = 0 + i} (omega arith) ∙ h 0 x refl ∙ ap g {x = 0 + i} {y = i} (omega arith))
    (numbered_by f g (suc i) xs (λ n z m. ap (λ (k : ℕ). f k z) {x = n + suc i} {y = suc n + i} (omega arith) ∙ h (suc n) z m ∙ ap g {x = suc n + i} {y = n + suc i} (omega arith)))

-- ---- a tray's copies
module _ (t : Tray) where
  abbrev shown : List Form
  shown = forms (sorted t)

  up : T (ascending form_ahead (forms (sorted t)))
  unfolding forms
  up = sort_ascending form_ahead form_trans (map (λ q. q.form) (sorted t))

  -- a form has the number k where it is the k-th
  same_number : (k : ℕ) (g : Form) → Nth (forms (sorted t)) k g → (s : Form) → eqb (before (same_form s) (forms (sorted t))) k ≡ same_form s g
  same_number k g m s =
      tests_same (eqb (before (same_form s) shown) k) (same_form s g)
      (λ e. before_nth (same_form s) shown g (subst (λ (n : ℕ). Nth shown n g) (sym (eqb→eq (before (same_form s) shown) k e)) m))
      (λ e. eqb_of (ap (λ (h : Form). before (same_form h) shown) (same_form→eq s g e) ∙ before_form shown up k g m))

  abbrev own : Piece → Owned
  own q = record { kind = before (same_form (piece_form q)) (forms (sorted t)); count = q.count }

  module _ (k : ℕ) (g : Form) (m : Nth (forms (sorted t)) k g) where
    by_pieces : (i : ℕ) (ps : List Piece) → joined (numbered_from i (map own ps) (λ j q. copies_if (eqb q.kind k) j q.count)) ≡ each (keep (λ q. same_form q.form g) (numbered_from i ps sort_piece)) copies_of_piece
    by_pieces i [] = refl
    by_pieces i (p ∷ ps) = go (eqb (before (same_form (piece_form p)) shown) k) (same_form (piece_form p) g) (same_number k g m (piece_form p)) (by_pieces (suc i) ps)
      where
        left : List Copy
        left = joined (numbered_from (suc i) (map own ps) (λ j q. copies_if (eqb q.kind k) j q.count))

        right : List Sorted
        right = keep (λ q. same_form q.form g) (numbered_from (suc i) ps sort_piece)

        go : (a b : Bool) → a ≡ b → left ≡ each right copies_of_piece → copies_if a i p.count ++ left ≡ each (cons_if b (sort_piece i p) right) copies_of_piece
        go true true e r = ap (λ (l : List Copy). copies_of_piece (sort_piece i p) ++ l) r
        go true false e r = cc
        go false true e r = cc
        go false false e r = r

    pub copies_are : copies_by (owned t) k ≡ copies_of (sorted t) g
    unfolding copies_by owned copies_of sorted
    copies_are = by_pieces 0 t.pieces

  -- the copies that placements take
  abbrev made : Form → Kind
  made = kind_named (sorted t) (forms (sorted t))

  pub taken_same : (P : List Placement) → taken_by (owned t) (length (limits (compile t))) P ≡ taken (compile t) P
  unfolding taken_by taken compile limits kinds_of
  taken_same P =
      let take : ℕ → List Copy → List Taken = λ k ds. takes ds (keep (λ q. eqb q.kind k) P) in
      let size : length (map (λ (d : Kind). length d.copies) (map made shown)) ≡ length shown = length-map (map made shown) (λ (d : Kind). length d.copies) ∙ length-map shown made in
      ap joined
      (ap (λ (n : ℕ). map (λ k. take k (copies_by (owned t) k)) (below n)) size
      ∙ sym (numbered_map made (λ k d. take k d.copies) 0 shown
      ∙ numbered_by (λ k g. take k (copies_of (sorted t) g)) (λ k. take k (copies_by (owned t) k)) 0 shown
      (λ n g m. ap (take (n + 0)) (sym (copies_are (n + 0) g (subst (λ (k : ℕ). Nth shown k g) {x = n} {y = n + 0} (omega arith) m))))))

  pub same_answer : (P : List Placement) → answer_by (system_of t) P ≡ answer (compile t) P
  unfolding answer_by system_of answers_over answer
  same_answer P =
      each_map (scan_number (lent_cells (compile t))) (λ n. let d = copy_on (taken_by (owned t) (length (limits (compile t))) P) n in d.piece ∷ d.copy ∷ []) (box (compile t).frame.lent)
      ∙ ap (λ (ts : List Taken). each (box (compile t).frame.lent) (two_bytes ts (lent_cells (compile t)))) (taken_same P)

  pub copies_many : (k : ℕ) → k < length (compile t).kinds → length (copies_by (owned t) k) ≡ get_or (limits (compile t)) k 0
  unfolding compile limits kinds_of
  copies_many k h =
      let r = get_or_nth shown k (let e = length-map shown made in omega arith) in
      ap length (copies_are k r.0 r.1)
      ∙ sym (ap (λ (l : List ℕ). get_or l k 0) (map-map (λ (d : Kind). length d.copies) made shown) ∙ nth_get_or (λ (g : Form). length (copies_of (sorted t) g)) 0 shown k r.1)
