-- The table of refusals: of an accepted call no test applies, so each bound of the table holds, by name; and Demand 1. Assumes nothing.
use Prim.Native.Nat.{ℕ, ◌*◌, ◌<◌, ◌≤◌}
use mathlib.Core.Bool.{Bool, true, false, cond, not, ◌&&◌, ◌||◌}
use mathlib.Core.List.Memᴰ
use mathlib.Core.List.{List, [], ◌∷◌, ◌++◌}
use mathlib.Core.Path.{◌≡◌, refl, sym, ap, ◌∙◌, subst}
use mathlib.Core.Logic.{◌⊎◌, inl, inr, ◌≢◌}
use native.Mathlib.Nat.{mul-le-mul}
use native.Mathlib.Omega.{arith}
use borrow.Author.Tests.{ltb-false, not-false}
use lib.Dec.{T, ltb, leb, eqb, eqb→eq, ltb→lt, leb→le, eqb_refl}
use lib.ListN.{length}
use Rattle.lists.specs.Lists.{all}
use Rattle.lists.proofs.TestLaws.{and_left, and_right, and_both, or_left, or_right, or_cases, eqb_of, is_true, is_false, holds}
use Rattle.lists.proofs.ListLaws.{all_at}
use Rattle.definitions.specs.Grid.{volume}
use Rattle.definitions.specs.Kinds.{Tray}
use Rattle.definitions.specs.Placements.{compile}
use Rattle.definitions.specs.Refusals.{Call, Row, table, applies_in, applies, first_that_applies, refusal, sides_of, lent_of, tray_of, is_side, sides_fit, cells_lie, are_bits, some_filled, copy_count, board_cell_count, is_ported, is_knuth, placement_count, link_count}
use Rattle.definitions.specs.declared.Record.{Record}
use Rattle.definitions.specs.Outcomes.{Outcome, accepted, refused, outcome}
use Rattle.definitions.specs.Demands.{Demand1, MeetsDemand1}

-- ---- rows with numbers from 1 on, ascending
abbrev pub numbered : List Row → Bool
numbered rs = all (λ r. ltb 0 r.number) rs

abbrev pub rising : List Row → Bool
rising [] = true
rising (r ∷ rs) = all (λ s. ltb r.number s.number) rs && rising rs

-- the test of the row with number n, wherever it stands in the table; false where no row has it
abbrev pub test_of : List Row → ℕ → Bool
test_of [] n = false
test_of (r ∷ rs) n = cond (eqb r.number n) r.applies (test_of rs n)

-- where no row of a list applies, not its first, and none of the rest
pub none_first : (r : Row) (rs : List Row) → T (ltb 0 r.number) → first_that_applies (r ∷ rs) ≡ 0 → (r.applies ≡ false) × (first_that_applies rs ≡ 0)
none_first r rs t e = go r.applies e
  where
    go : (b : Bool) → cond b r.number (first_that_applies rs) ≡ 0 → (b ≡ false) × (first_that_applies rs ≡ 0)
    go true i = let p = ltb→lt 0 r.number t in absurd (omega arith)
    go false i = (refl, i)

-- where no number is returned the row with number n does not apply
pub none_applies : (rs : List Row) → T (all (λ r. ltb 0 r.number) rs) → first_that_applies rs ≡ 0 → (n : ℕ) → test_of rs n ≡ false
none_applies [] t e n = refl
none_applies (r ∷ rs) t e n =
    let h = none_first r rs (and_left (ltb 0 r.number) (numbered rs) t) e in
    go (eqb r.number n) h.0 (none_applies rs (and_right (ltb 0 r.number) (numbered rs) t) h.1 n)
  where
    go : (b : Bool) → r.applies ≡ false → test_of rs n ≡ false → cond b r.applies (test_of rs n) ≡ false
    go true i f = i
    go false i f = f

-- rows with numbers from 1 on: where none applies those behind them decide, and where one does they do not
pub first_passes : (xs ys : List Row) → T (all (λ r. ltb 0 r.number) xs) → first_that_applies xs ≡ 0 → first_that_applies (xs ++ ys) ≡ first_that_applies ys
first_passes [] ys p e = refl
first_passes (r ∷ xs) ys p e = go r.applies e (λ (i : first_that_applies xs ≡ 0). first_passes xs ys (and_right (ltb 0 r.number) (all (λ q. ltb 0 q.number) xs) p) i)
  where
    go : (b : Bool) → cond b r.number (first_that_applies xs) ≡ 0 → (first_that_applies xs ≡ 0 → first_that_applies (xs ++ ys) ≡ first_that_applies ys)
        → cond b r.number (first_that_applies (xs ++ ys)) ≡ first_that_applies ys
    go true i f = let l = ltb→lt 0 r.number (and_left (ltb 0 r.number) (all (λ q. ltb 0 q.number) xs) p) in absurd (omega arith)
    go false i f = f i

pub first_decides : (xs ys : List Row) → (first_that_applies xs ≡ 0 → ⊥) → first_that_applies (xs ++ ys) ≡ first_that_applies xs
first_decides [] ys e = absurd (e refl)
first_decides (r ∷ xs) ys e = go r.applies e (λ (i : first_that_applies xs ≡ 0 → ⊥). first_decides xs ys i)
  where
    go : (b : Bool) → (cond b r.number (first_that_applies xs) ≡ 0 → ⊥) → ((first_that_applies xs ≡ 0 → ⊥) → first_that_applies (xs ++ ys) ≡ first_that_applies xs)
        → cond b r.number (first_that_applies (xs ++ ys)) ≡ cond b r.number (first_that_applies xs)
    go true i f = refl
    go false i f = f i

-- the row returned applies, and none with a smaller number does
pub first_applies : (rs : List Row) → T (numbered rs) → (first_that_applies rs ≡ 0 → ⊥) → T (applies_in rs (first_that_applies rs))
first_applies [] t d = absurd (d refl)
first_applies (r ∷ rs) t d = go r.applies d (λ (i : first_that_applies rs ≡ 0 → ⊥). first_applies rs (and_right (ltb 0 r.number) (numbered rs) t) i)
  where
    go : (b : Bool) → (cond b r.number (first_that_applies rs) ≡ 0 → ⊥) → ((first_that_applies rs ≡ 0 → ⊥) → T (applies_in rs (first_that_applies rs)))
        → T ((eqb r.number (cond b r.number (first_that_applies rs)) && b) || applies_in rs (cond b r.number (first_that_applies rs)))
    go true i f = or_left (eqb r.number r.number && true) (applies_in rs r.number) (and_both (eqb r.number r.number) true (eqb_refl r.number) tt)
    go false i f = or_right (eqb r.number (first_that_applies rs) && false) (applies_in rs (first_that_applies rs)) (f i)

-- numbers of later rows are larger
none_later : (m n : ℕ) (rs : List Row) → T (all (λ s. ltb m s.number) rs) → T (applies_in rs n) → m < n
none_later m n [] t h = absurd h
none_later m n (r ∷ rs) t h =
    go (or_cases (eqb r.number n && r.applies) (applies_in rs n) h)
    (λ (i : T (applies_in rs n)). none_later m n rs (and_right (ltb m r.number) (all (λ s. ltb m s.number) rs) t) i)
  where
    go : T (eqb r.number n && r.applies) ⊎ T (applies_in rs n) → (T (applies_in rs n) → m < n) → m < n
    go (inl i) f =
        let a = ltb→lt m r.number (and_left (ltb m r.number) (all (λ s. ltb m s.number) rs) t) in
        let b : r.number ≡ n = eqb→eq r.number n (and_left (eqb r.number n) r.applies i) in
        omega arith
    go (inr i) f = f i

pub first_smallest : (rs : List Row) → T (numbered rs) → T (rising rs) → (n : ℕ) → T (applies_in rs n) → (first_that_applies rs ≡ 0 → ⊥) × (n < first_that_applies rs → ⊥)
first_smallest [] p t n h = absurd h
first_smallest (r ∷ rs) p t n h =
    go r.applies (or_cases (eqb r.number n && r.applies) (applies_in rs n) h)
    (λ (i : T (applies_in rs n)). first_smallest rs (and_right (ltb 0 r.number) (numbered rs) p) (and_right (all (λ s. ltb r.number s.number) rs) (rising rs) t) n i)
  where
    positive : 0 < r.number
    positive = ltb→lt 0 r.number (and_left (ltb 0 r.number) (numbered rs) p)

    later : T (applies_in rs n) → r.number < n
    later i = none_later r.number n rs (and_left (all (λ s. ltb r.number s.number) rs) (rising rs) t) i

    is_it : (b : Bool) → T (eqb r.number n && b) → r.number ≡ n
    is_it b i = eqb→eq r.number n (and_left (eqb r.number n) b i)

    go : (b : Bool) → T (eqb r.number n && b) ⊎ T (applies_in rs n) → (T (applies_in rs n) → (first_that_applies rs ≡ 0 → ⊥) × (n < first_that_applies rs → ⊥))
        → (cond b r.number (first_that_applies rs) ≡ 0 → ⊥) × (n < cond b r.number (first_that_applies rs) → ⊥)
    go true (inl i) f = (λ e. omega (arith, positive), λ k. omega (arith, is_it true i))
    go true (inr i) f = (λ e. omega (arith, positive), λ k. omega (arith, later i))
    go false (inl i) f = absurd (and_right (eqb r.number n) false i)
    go false (inr i) f = f i

-- ---- what is known where no row applies, each fact by its name: who cites one does not say where in the table it is tested
-- what is lent: records, a board and bytes, and the tray that they lend
pub record PassedLent (rs : List Record) (board : Record) (bytes : List ℕ) (t : Tray) : Type 0 where
  pub few_pieces : length rs ≤ 16
  pub sides : T (all sides_fit (board ∷ rs))
  pub lie : T (all (cells_lie bytes) (board ∷ rs))
  pub board_bits : T (are_bits t.board)
  pub bits : T (all (λ q. are_bits q.grid) t.pieces)
  pub filled : T (all (λ q. some_filled q.grid) t.pieces)
  pub few_copies : copy_count t ≤ 128
  pub few_cells : board_cell_count t ≤ 128

-- sides up to 8 make a box of 512 cells at most
pub fit-volume : (r : Record) → T (sides_fit r) → volume (sides_of r) ≤ 512
unfolding is_side sides_fit volume sides_of
fit-volume r t =
    let u = and_right (is_side r.a) (is_side r.b && is_side r.c) t in
    let a = upper r.a (and_left (is_side r.a) (is_side r.b && is_side r.c) t) in
    let b = upper r.b (and_left (is_side r.b) (is_side r.c) u) in
    let ab : r.a * r.b ≤ 64 = mul-le-mul a b in
    mul-le-mul ab (upper r.c (and_right (is_side r.b) (is_side r.c) u))
  where
    upper : (n : ℕ) → T (is_side n) → n ≤ 8
    upper n t = leb→le n 8 (and_right (leb 1 n) (leb n 8) t)

-- where none of the tests 2 to 9 applies
module _ (rs : List Record) (board : Record) (bytes : List ℕ) (t : Tray) where
  abbrev all_fit : Bool
  all_fit = all sides_fit (board ∷ rs)

  abbrev all_lie : Bool
  all_lie = all (cells_lie bytes) (board ∷ rs)

  abbrev all_bits : Bool
  all_bits = all (λ q. are_bits q.grid) t.pieces

  abbrev all_filled : Bool
  all_filled = all (λ q. some_filled q.grid) t.pieces

  passes : (b : Bool) → not b ≡ false → T b
  passes b e = holds b (not-false b e)

  pub passed_lent : ltb 16 (length rs) ≡ false → not (all sides_fit (board ∷ rs)) ≡ false → not (all (cells_lie bytes) (board ∷ rs)) ≡ false
      → not (are_bits t.board && all (λ q. are_bits q.grid) t.pieces) ≡ false → not (all (λ q. some_filled q.grid) t.pieces) ≡ false
      → ltb 128 (copy_count t) ≡ false → ltb 128 (board_cell_count t) ≡ false → PassedLent rs board bytes t
  passed_lent e2 e3 e4 e5 e6 e8 e9 =
      record {
        few_pieces = ltb-false 16 (length rs) e2;
        sides = passes all_fit e3;
        lie = passes all_lie e4;
        board_bits = and_left (are_bits t.board) all_bits (passes (are_bits t.board && all_bits) e5);
        bits = and_right (are_bits t.board) all_bits (passes (are_bits t.board && all_bits) e5);
        filled = passes all_filled e6;
        few_copies = ltb-false 128 (copy_count t) e8;
        few_cells = ltb-false 128 (board_cell_count t) e9;
      }

-- all of an accepted call
pub record Passed (l : Call) : Type 0 where
  pub lent : PassedLent l.pieces l.board l.bytes (lent_of l)
  pub turned_too : (l.config.identify_mirrored_answers && not l.config.identify_transformed_answers) ≡ false
  pub ported : T (is_ported l.config.solver)
  pub work_long : 8192 ≤ length l.work
  pub links_long : is_knuth l.config.solver ≡ true → 32768 ≤ length l.links
  pub few_placements : placement_count (compile (tray_of l)) ≤ 1024
  pub few_links : is_knuth l.config.solver ≡ true → link_count (compile (tray_of l)) ≤ 4096

-- ---- the table of a call
module _ (l : Call) where
  table_numbered : T (numbered (table l))
  unfolding table
  table_numbered = tt

  table_rising : T (rising (table l))
  unfolding table
  table_rising = tt

  -- of an accepted call no test applies, so it has passed them all
  pub passed : refusal l ≡ 0 → Passed l
  unfolding refusal table
  passed ok =
      let none : (n : ℕ) → test_of (table l) n ≡ false = none_applies (table l) table_numbered ok in
      record {
        lent = passed_lent l.pieces l.board l.bytes (lent_of l) (none 2) (none 3) (none 4) (none 5) (none 6) (none 8) (none 9);
        turned_too = none 10;
        ported = holds (is_ported l.config.solver) (not-false (is_ported l.config.solver) (none 11));
        work_long = ltb-false (length l.work) 8192 (none 12);
        links_long = λ e. ltb-false (length l.links) 32768 (subst (λ (b : Bool). (b && ltb (length l.links) 32768) ≡ false) e (none 13));
        few_placements = ltb-false 1024 (placement_count (compile (tray_of l))) (none 14);
        few_links = λ e. ltb-false 4096 (link_count (compile (tray_of l))) (subst (λ (b : Bool). (b && ltb 4096 (link_count (compile (tray_of l)))) ≡ false) e (none 15));
      }

  -- the sides of its board are 1 to 8
  pub board_sides : refusal l ≡ 0 → T (sides_fit l.board)
  board_sides ok = all_at sides_fit (l.board ∷ l.pieces) (passed ok).lent.sides (Memᴰ.head refl)

  number_of : (outcome l).number ≡ refusal l
  unfolding outcome accepted refused
  number_of = go (eqb (refusal l) 0) (λ t. eqb→eq (refusal l) 0 t)
    where
      go : (b : Bool) → (T b → refusal l ≡ 0) → (cond b (accepted l) (refused (refusal l) l)).number ≡ refusal l
      go true f = sym (f tt)
      go false f = refl

  pub outcome_accepted : refusal l ≡ 0 → outcome l ≡ accepted l
  unfolding outcome
  outcome_accepted ok = ap (λ (b : Bool). cond b (accepted l) (refused (refusal l) l)) (is_true (eqb (refusal l) 0) (eqb_of ok))

  pub outcome_refused : (refusal l ≡ 0 → ⊥) → outcome l ≡ refused (refusal l) l
  unfolding outcome
  outcome_refused d = ap (λ (b : Bool). cond b (accepted l) (refused (refusal l) l)) (is_false (eqb (refusal l) 0) (λ t. d (eqb→eq (refusal l) 0 t)))

  is_refused : (outcome l).number ≢ 0 → outcome l ≡ refused (refusal l) l
  is_refused d = outcome_refused (λ e. d (number_of ∙ e))

  first : Demand1 l (outcome l)
  unfolding refused applies refusal
  first =
      record {
        it_applies = λ d. subst (λ (n : ℕ). T (applies l n)) (sym number_of) (first_applies (table l) table_numbered (λ e. d (number_of ∙ e)));
        none_before = λ n h t. (first_smallest (table l) table_numbered table_rising n t).1 (subst (λ (k : ℕ). n < k) number_of h);
        or_none_applies = λ e n t. (first_smallest (table l) table_numbered table_rising n t).0 (sym number_of ∙ e);
        writes_none = λ d. ap (λ (o : Outcome). o.written) (is_refused d);
        says_none_follows = λ d. ap (λ (o : Outcome). o.further) (is_refused d);
        answers_kept = λ d. ap (λ (o : Outcome). o.answers) (is_refused d);
        work_kept = λ d. ap (λ (o : Outcome). o.work) (is_refused d);
        links_kept = λ d. ap (λ (o : Outcome). o.links) (is_refused d);
      }

-- Demand 1
pub demand1_holds : MeetsDemand1 outcome
unfolding MeetsDemand1
demand1_holds l = first l
