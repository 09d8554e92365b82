-- A tray with an empty box (document 02, A1): its packings, its list, what can still refuse it, and that 1 no longer occurs. Assumes nothing.
use Prim.Native.Nat.{ℕ, zero, suc, ◌≤◌}
use mathlib.Core.Bool.{Bool, true, false, cond, not, ◌&&◌, ◌||◌}
use mathlib.Core.List.{List, [], ◌∷◌, map}
use mathlib.Core.Path.{◌≡◌, refl, sym, ap, ◌∙◌, subst}
use mathlib.Core.Logic.{◌⊎◌, inl, inr, ◌↔◌}
use native.Mathlib.Omega.{arith}
use lib.Dec.{T, ltb, eqb, eqb→eq, ltb→lt}
use lib.ListN.{length, replicate}
use Rattle.lists.specs.Lists.{cons_if, keep, all, any, each, below, is_empty, member}
use Rattle.lists.proofs.TestLaws.{and_left, and_right, and_both, or_left, or_right, or_cases, decide, clash, is_true, eqb_of}
use Rattle.lists.proofs.ListLaws.{all_at, all_of, any_at, keep_length}
use Rattle.definitions.specs.Grid.{Grid, Cell, box, byte_at, volume, filled_cells}
use Rattle.definitions.specs.Stripping.{Frame, strip, frame_of}
use Rattle.theorems.proofs.StrippingLaws.{strip_empty, strip_count, strip_none}
use Rattle.definitions.specs.Scan.{axes, scan}
use Rattle.definitions.specs.Kinds.{sorted, forms, kinds_of}
use Rattle.definitions.specs.Placements.{Placement, Compiled, compile}
use Rattle.definitions.specs.Packing.{limits, covering, placed, covers_once, within_copies, Packing, is_packing}
use Rattle.definitions.specs.Kept.{Identify, compared, smaller, images, kept}
use Rattle.definitions.specs.Orders.{State, start, choose, search, fast_choices, identifies_turned, kind0_first, fast_list, knuth_choices, knuth_list, packings, listed}
use Rattle.definitions.specs.Answers.{taken, copy_on, answer}
use Rattle.definitions.specs.Refusals.{Call, Row, grid_of, lent_of, strip_tray, tray_of, identify_of, sides_fit, copy_count, with_records, is_ported, is_knuth, placement_count, rows_of, link_count, table, applies, refusal}
use Rattle.definitions.specs.Outcomes.{answers_of, answer_size, outcome}
use Rattle.definitions.specs.Demands.{Stretch, Pages, MeetsDemand1}
use Rattle.definitions.specs.Files.{call_in, listing}
use Rattle.definitions.specs.EmptyBox.{empty_box_list, EmptyBoxes, Never1, EmptyBoxPrinted}
use Rattle.definitions.specs.declared.SolverKind.{SolverKind}
use Rattle.definitions.specs.declared.SolverKind.TheVariants.{Auto, Naive, Fast, KnuthAlgorithm}
use Rattle.definitions.specs.declared.Record.{Record}
use Rattle.theorems.proofs.GridLaws.{length_box}
use Rattle.theorems.proofs.ShapeLaws.{scan_length}
use Rattle.theorems.proofs.RefusalLaws.{passed, fit-volume, demand1_holds}
use Rattle.theorems.proofs.DemandLaws.{answer-length, pages_of}
use Rattle.theorems.proofs.MeetLaws.{packed_listing}

-- ---- 1 no longer occurs
-- a number returned is that of a row, and no row has the number 1
pub never1_holds : Never1 outcome
unfolding Never1 MeetsDemand1 applies table
never1_holds l e = subst (λ (n : ℕ). T (applies l n)) e ((demand1_holds l).it_applies (λ z. let i = sym e ∙ z in omega arith))

-- ---- a search that has nothing to choose from ends at once
search_none : (choices : State → List Placement) → ((s : State) → choices s ≡ []) → (n : ℕ) (s : State)
    → search choices n s ≡ cond (is_empty s.free) (s.chosen ∷ []) []
unfolding search
search_none choices h zero s = refl
search_none choices h (suc n) s =
    ap (λ (qs : List Placement). cond (is_empty s.free) (s.chosen ∷ []) (each qs (λ q. search choices n (choose s q)))) (h s)

-- ---- a board that comes with no kind and no placement
module _ (g : Grid) (f : Frame) where
  abbrev c : Compiled
  c = record { board = g; frame = f; cells = scan (axes g.sides) g; kinds = []; placements = [] }

  -- as many cells as are filled, so the search starts with none exactly if none is filled
  none_filled : (us vs : List Cell) → length us ≡ length vs → is_empty (below (length us)) ≡ is_empty vs
  none_filled [] [] e = refl
  none_filled [] (v ∷ vs) e = absurd (omega arith)
  none_filled (u ∷ us) [] e = absurd (omega arith)
  none_filled (u ∷ us) (v ∷ vs) e = refl

  from_start : (choices : State → List Placement) → ((s : State) → choices s ≡ []) → (n : ℕ)
      → search choices n (start c) ≡ cond (is_empty (filled_cells g)) ([] ∷ []) []
  unfolding start
  from_start choices h n =
      search_none choices h n (start c) ∙ ap (λ (b : Bool). cond b ([] ∷ []) []) (none_filled c.cells (filled_cells g) (scan_length g.sides g))

  -- both engines find the empty packing or nothing
  found : (i : Identify) (e : SolverKind) → T (is_ported e) → packings c i e ≡ cond (is_empty (filled_cells g)) ([] ∷ []) []
  unfolding is_ported packings fast_list kind0_first limits fast_choices knuth_list knuth_choices
  found i Auto t = absurd t
  found i Naive t = absurd t
  found i Fast t = plain (identifies_turned i) ∙ from_start (fast_choices []) (λ s. refl) (length c.cells)
    where
      -- (kind 0 is not there to be placed first)
      plain : (b : Bool) {xs : List (List Placement)} → cond (b && false) [] xs ≡ xs
      plain true = refl
      plain false = refl
  found i KnuthAlgorithm t = from_start (knuth_choices []) (λ s. refl) (length c.cells)

  -- with no kind to compare by no packing is smaller than another
  all_kept : (i : Identify) (P : List Placement) → T (kept c i P)
  unfolding kept smaller compared
  all_kept i P = all_of (λ Q. not (is_packing c Q && smaller c Q P)) (images c i P) (λ Q m. go (is_packing c Q))
    where
      go : (b : Bool) → T (not (b && false))
      go true = tt
      go false = tt

  -- the empty packing's answer is 255 throughout
  its_answer : answer c [] ≡ replicate (answer_size f.lent) 255
  unfolding answer taken copy_on
  its_answer = twos (box f.lent) ∙ ap (λ (n : ℕ). replicate n 255) (answer-length c [])
    where
      twos : (us : List Cell) → each {B = ℕ} us (λ u. 255 ∷ 255 ∷ []) ≡ replicate (length (each {B = ℕ} us (λ u. 255 ∷ 255 ∷ []))) 255
      twos [] = refl
      twos (u ∷ us) = ap (λ (ns : List ℕ). 255 ∷ 255 ∷ ns) (twos us)

  -- its list, under each identification and by each engine
  its_list : (i : Identify) (e : SolverKind) → T (is_ported e) → map (answer c) (listed c i e) ≡ cond (is_empty (filled_cells g)) (replicate (answer_size f.lent) 255 ∷ []) []
  unfolding listed
  its_list i e t = ap (λ (Ps : List (List Placement)). map (answer c) (keep (kept c i) Ps)) (found i e t) ∙ go (is_empty (filled_cells g))
    where
      go : (b : Bool) → map (answer c) (keep (kept c i) (cond b ([] ∷ []) [])) ≡ cond b (replicate (answer_size f.lent) 255 ∷ []) []
      go true = ap (λ (b : Bool). map (answer c) (cons_if b [] [])) (is_true (kept c i []) (all_kept i [])) ∙ ap (λ (a : List ℕ). a ∷ []) its_answer
      go false = refl

  -- with no placement only the empty list is a set of them; it covers no cell, so it is a packing exactly if there is none to cover
  its_packings : (P : List Placement) → Packing c P ↔ ((P ≡ []) × (filled_cells g ≡ []))
  unfolding placed covers_once covering within_copies
  its_packings P = (λ k. go P k.of_placements k.covers, λ h. subst (λ (Q : List Placement). Packing c Q) (sym h.0) (empty h.1))
    where
      as_many : length c.cells ≡ length (filled_cells g)
      as_many = scan_length g.sides g

      nothing : (us vs : List Cell) → length us ≡ length vs → T (all (λ n. false) (below (length us))) → vs ≡ []
      nothing [] [] e t = refl
      nothing [] (v ∷ vs) e t = absurd (omega arith)
      nothing (u ∷ us) vs e t = absurd t

      go : (Q : List Placement) → T (placed c Q) → T (covers_once c Q) → (Q ≡ []) × (filled_cells g ≡ [])
      go [] t u = (refl, nothing c.cells (filled_cells g) as_many u)
      go (q ∷ Q) t u = absurd t

      empty : filled_cells g ≡ [] → Packing c []
      empty e =
          record {
            a_set = tt;
            of_placements = tt;
            covers = subst (λ (n : ℕ). T (all (λ k. false) (below n))) (sym (as_many ∙ ap length e)) tt;
            within = tt;
          }
      -- a board has no more filled cells than its box has cells

-- a box has no more filled cells than cells
filled_few : (g : Grid) → length (filled_cells g) ≤ volume g.sides
unfolding filled_cells
filled_few g =
    let a = keep_length (λ u. eqb (byte_at g u) 1) (box g.sides) in
    let b = length_box g.sides in
    omega arith

-- ---- a call that lends no piece
-- the numbers, other than 0, that it can give
abbrev numbers : List ℕ
numbers = 3 ∷ 4 ∷ 5 ∷ 9 ∷ 10 ∷ 11 ∷ 12 ∷ 13 ∷ []

-- if a row with the number n applies, and every row has one of these numbers, or fails, or has not the number n, then n is one of them
among : (n : ℕ) (rs : List Row) → T (all (λ r. member r.number numbers || not (r.applies && eqb r.number n)) rs)
    → T (any (λ r. eqb r.number n && r.applies) rs) → T (member n numbers)
among n rs a h =
    let x = any_at (λ (r : Row). eqb r.number n && r.applies) rs h in
    go x.0 x.2 (all_at (λ (r : Row). member r.number numbers || not (r.applies && eqb r.number n)) rs a x.1)
  where
    go : (r : Row) → T (eqb r.number n && r.applies) → T (member r.number numbers || not (r.applies && eqb r.number n)) → T (member n numbers)
    go r t u = cases (or_cases (member r.number numbers) (not (r.applies && is)) u)
      where
        is : Bool
        is = eqb r.number n

        cases : T (member r.number numbers) ⊎ T (not (r.applies && is)) → T (member n numbers)
        cases (inl m) = subst (λ (k : ℕ). T (member k numbers)) (eqb→eq r.number n (and_left is r.applies t)) m
        cases (inr f) = absurd (clash (r.applies && is) (and_both r.applies is (and_right is r.applies t) (and_left is r.applies t)) f)

module _ (l : Call) where
  -- the same call with no piece
  abbrev bare : Call
  bare = with_records [] l.board l

  -- which is the call itself where it lends none
  is_bare : l.pieces ≡ [] → bare ≡ l
  is_bare e = ap (λ (pieces : List Record). with_records pieces l.board l) (sym e)

  -- its tray comes to a board with no kind and no placement, so its list and its packings are those above
  abbrev lent : Grid
  lent = (lent_of bare).board

  bare_list : refusal bare ≡ 0 → answers_of (tray_of bare) (identify_of bare.config) bare.config.solver ≡ empty_box_list (lent_of bare).board
  unfolding answers_of compile kinds_of forms sorted lent_of strip_tray tray_of frame_of empty_box_list
  bare_list ok =
      its_list (strip lent) (frame_of lent) (identify_of l.config) l.config.solver (passed bare ok).ported
      ∙ ap (λ (b : Bool). cond b (replicate (answer_size lent.sides) 255 ∷ []) []) (strip_none lent)

  bare_packings : (P : List Placement) → Packing (compile (tray_of bare)) P ↔ ((P ≡ []) × (filled_cells (lent_of bare).board ≡ []))
  unfolding compile kinds_of forms sorted lent_of strip_tray tray_of
  bare_packings P =
      let k = its_packings (strip lent) (frame_of lent) P in
      (λ g. ((k.0 g).0, unfilled (k.0 g).1), λ h. k.1 (h.0, ap filled_cells (strip_empty lent h.1) ∙ h.1))
    where
      none : (us : List Cell) → is_empty us ≡ true → us ≡ []
      none [] e = refl
      none (u ∷ us) e = absurd (subst T (sym e) tt)

      unfilled : filled_cells (strip lent) ≡ [] → filled_cells lent ≡ []
      unfilled e = none (filled_cells lent) (sym (strip_none lent) ∙ ap is_empty e)

  -- 15: with no piece the links are the filled board cells, which are few where 3 does not apply
  few-links : T (sides_fit l.board) → link_count (compile (tray_of bare)) ≤ 512
  unfolding link_count rows_of compile kinds_of forms sorted lent_of strip_tray tray_of grid_of
  few-links t =
      let a = scan_length (strip lent).sides (strip lent) in
      let b = strip_count lent in
      let d = filled_few lent in
      let e = fit-volume l.board t in
      omega arith

  -- the number that the call gives
  abbrev returned : ℕ
  returned = (outcome bare).number

  -- 15 is returned only where 3 does not apply, and then there are not as many links
  no_15 : returned ≡ 15 → T (ltb 4096 (link_count (compile (tray_of bare)))) → ⊥
  unfolding MeetsDemand1 applies table
  no_15 e t = go (sides_fit l.board) (λ u. u) ((demand1_holds bare).none_before 3 (omega arith))
    where
      go : (b : Bool) → (T b → T (sides_fit l.board)) → (T (not (b && true) || false) → ⊥) → ⊥
      go true f k = let a = few-links (f tt) in let d = ltb→lt 4096 (link_count (compile (tray_of bare))) t in omega arith
      go false f k = k tt

  -- no row with another number is the one returned: with no piece 2, 6, 8 and 14 fail by themselves
  others : T (all (λ r. member r.number numbers || not (r.applies && eqb r.number returned)) (table bare))
  unfolding table lent_of strip_tray tray_of copy_count placement_count compile kinds_of forms sorted
  others =
      go (is_knuth l.config.solver) (ltb 4096 (link_count (compile (tray_of bare)))) (eqb 15 returned) (λ e t. no_15 (sym (eqb→eq 15 returned e)) t)
    where
      go : (knuth many is : Bool) → (T is → T many → ⊥) → T (not ((knuth && many) && is) && true)
      go false many is f = tt
      go true false is f = tt
      go true true false f = tt
      go true true true f = f tt tt

  -- so 0 is returned, or one of the numbers above
  bare_numbers : T (member (outcome bare).number (0 ∷ numbers))
  unfolding MeetsDemand1 applies
  bare_numbers = go (decide (eqb returned 0))
    where
      go : T (eqb returned 0) ⊎ T (not (eqb returned 0)) → T (member returned (0 ∷ numbers))
      go (inl t) = or_left (eqb returned 0) (member returned numbers) t
      go (inr t) =
          or_right (eqb returned 0) (member returned numbers)
          (among returned (table bare) others ((demand1_holds bare).it_applies (λ e. clash (eqb returned 0) (eqb_of e) t)))

-- ---- the statements
-- the list of an accepted call that lends no piece
pub empty_box : (l : Call) → l.pieces ≡ [] → refusal l ≡ 0
    → answers_of (tray_of l) (identify_of l.config) l.config.solver ≡ empty_box_list (lent_of l).board
empty_box l e =
    subst (λ (x : Call). refusal x ≡ 0 → answers_of (tray_of x) (identify_of x.config) x.config.solver ≡ empty_box_list (lent_of x).board)
    (is_bare l e) (bare_list l)

-- A1 of the definitions' own outcome
pub empty_box_holds : EmptyBoxes outcome
unfolding EmptyBoxes Pages
empty_box_holds l e =
    record {
      numbers = subst (λ (x : Call). T (member (outcome x).number (0 ∷ numbers))) (is_bare l e) (bare_numbers l);
      packings =
          subst (λ (x : Call). (P : List Placement) → Packing (compile (tray_of x)) P ↔ ((P ≡ []) × (filled_cells (lent_of x).board ≡ [])))
          (is_bare l e) (bare_packings l);
      pages = λ ok.
          subst (λ (xs : List (List ℕ)). Stretch xs l (outcome l)) (empty_box l e ok)
          (pages_of (tray_of l) (identify_of l.config) l.config.solver l (record { tray = refl; identification = refl; engine = refl; not_refused = ok }));
    }

-- and what `pack` prints
pub empty_box_printed_holds : EmptyBoxPrinted
unfolding EmptyBoxPrinted
empty_box_printed_holds bytes file e ok = packed_listing bytes file ok ∙ ap listing (empty_box (call_in bytes 0 0) e ok)
