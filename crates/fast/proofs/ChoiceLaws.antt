-- What Fast lists below a state is what it lists below its choices, one after the other: each choice covers a cell, so that fuel runs out at no state, and
-- the choices are met row by row, while rows that are none are passed. Assumes nothing.
use Prim.Native.Nat.{ℕ, zero, suc, ◌+◌, ◌-◌, ◌≤◌, ◌<◌}
use mathlib.Core.Bool.{Bool, true, false, cond, not, ◌&&◌, ◌||◌}
use mathlib.Core.List.Memᴰ
use mathlib.Core.List.{List, [], ◌∷◌, ◌++◌, map, Memᴰ, map-append}
use mathlib.Core.Path.{◌≡◌, refl, sym, ap, ◌∙◌, subst}
use native.Mathlib.Numerals.{add-one}
use native.Mathlib.Omega.{arith}
use lib.Dec.{T, eqb, ltb, eqb→eq}
use lib.ListN.{length, get_or, take, drop, drop_of_length-le}
use lib.Seq.{drop-cons}
use Rattle.lists.specs.Lists.{cons_if, keep, all, any, each, member, is_empty}
use Rattle.lists.proofs.TestLaws.{not_not, and_left, and_no, is_true, is_false, eqb_of, by_order}
use Rattle.lists.proofs.ListLaws.{any_at, keep_at, keep_append, keep_shorter, each_same_in, take_in, nonempty_length}
use Rattle.lists.proofs.RangeLaws.{member_of}
use Rattle.definitions.specs.Placements.{Placement}
use Rattle.definitions.specs.Kept.{Identify}
use Rattle.definitions.specs.Emission.{Listed}
use Rattle.definitions.specs.Orders.{State, possible, choose, search, fast_choices}
use Rattle.rows.specs.Systems.{System}
use Rattle.rows.specs.Lawful.{Lawful}
use Rattle.kept.specs.Normal.{row_of, no_row, normal}
use Rattle.kept.specs.Entries.{numbers_of, entries, entry_by}
use Rattle.fast.specs.Searching.{fast_below, goes_on}

-- ---- lists
empty_same : {B : Type 0} (xs : List ℕ) (a b c : B) → length xs ≤ 0 → cond (is_empty xs) a b ≡ cond (is_empty xs) a c
empty_same [] a b c h = refl
empty_same (x ∷ xs) a b c h = absurd (omega arith)

-- ---- the entries of joined lists
pub entries_append : (s : System) (i : Identify) (L M : List (List Placement)) → entries s i (L ++ M) ≡ entries s i L ++ entries s i M
unfolding entries
entries_append s i L M =
    ap (λ (K : List (List Placement)). map (entry_by s) K) (keep_append (λ P. normal s i (numbers_of s P)) L M)
    ∙ map-append (entry_by s) (keep (λ P. normal s i (numbers_of s P)) L) (keep (λ P. normal s i (numbers_of s P)) M)

pub entries_each : {A : Type 0} (s : System) (i : Identify) (f : A → List (List Placement)) (xs : List A)
    → entries s i (each xs f) ≡ each xs (λ x. entries s i (f x))
unfolding entries
entries_each s i f [] = refl
entries_each s i f (x ∷ xs) = entries_append s i (f x) (each xs f) ∙ ap (λ (l : List Listed). entries s i (f x) ++ l) (entries_each s i f xs)

-- ---- fuel
module _ (rows : List Placement) (covers-p : (q : Placement) → Memᴰ q rows → Memᴰ q.p q.cells) where
  choice_less : (t : State) (q : Placement) → Memᴰ q (fast_choices rows t) → length (choose t q).free < length t.free
  unfolding choose fast_choices
  choice_less t q m =
      let r = keep_at (λ (z : Placement). any (eqb z.p) (take 1 t.free) && possible t z) rows m in
      let x = any_at (eqb q.p) (take 1 t.free) (and_left (any (eqb q.p) (take 1 t.free)) (possible t q) r.1) in
      keep_shorter (λ n. not (member n q.cells)) t.free (Memᴰ.cast (eqb→eq q.p x.0 x.2) (take_in 1 t.free x.1))
      (not_not (member q.p q.cells) (member_of q.cells (covers-p q r.0)))

  fuel_same : (f g : ℕ) (t : State) → length t.free ≤ f → length t.free ≤ g → search (fast_choices rows) f t ≡ search (fast_choices rows) g t
  unfolding search
  fuel_same zero zero t h k = refl
  fuel_same zero (suc g) t h k = empty_same t.free (t.chosen ∷ []) [] (each (fast_choices rows t) (λ q. search (fast_choices rows) g (choose t q))) h
  fuel_same (suc f) zero t h k = empty_same t.free (t.chosen ∷ []) (each (fast_choices rows t) (λ q. search (fast_choices rows) f (choose t q))) [] k
  fuel_same (suc f) (suc g) t h k =
      ap (λ (l : List (List Placement)). cond (is_empty t.free) (t.chosen ∷ []) l)
      (each_same_in (λ q. search (fast_choices rows) f (choose t q)) (λ q. search (fast_choices rows) g (choose t q)) (fast_choices rows t)
      (λ q m. let l = choice_less t q m in fuel_same f g (choose t q) (omega arith) (omega arith)))

  below_step : (n : ℕ) (t : State) → length t.free ≤ n → is_empty t.free ≡ false
      → search (fast_choices rows) n t ≡ each (fast_choices rows t) (λ q. search (fast_choices rows) n (choose t q))
  unfolding search
  below_step zero t h e = let k = nonempty_length t.free e in absurd (omega arith)
  below_step (suc n) t h e =
      ap (λ (b : Bool). cond b (t.chosen ∷ []) (each (fast_choices rows t) (λ q. search (fast_choices rows) n (choose t q)))) e
      ∙ each_same_in (λ q. search (fast_choices rows) n (choose t q)) (λ q. search (fast_choices rows) (suc n) (choose t q)) (fast_choices rows t)
      (λ q m. let l = choice_less t q m in fuel_same n (suc n) (choose t q) (omega arith) (omega arith))

below_leaf : (rows : List Placement) (n : ℕ) (t : State) → is_empty t.free ≡ true → search (fast_choices rows) n t ≡ t.chosen ∷ []
unfolding search
below_leaf rows zero t e = ap (λ (b : Bool). cond b (t.chosen ∷ []) []) e
below_leaf rows (suc n) t e = ap (λ (b : Bool). cond b (t.chosen ∷ []) (each (fast_choices rows t) (λ q. search (fast_choices rows) n (choose t q)))) e

-- ---- entries that fail are passed
keep_pass : (test : Placement → Bool) (d : Placement) (qs : List Placement) (n a : ℕ)
    → ((r : ℕ) → a ≤ r → r < a + n → r < length qs → test (get_or qs r d) ≡ false) → keep test (drop a qs) ≡ keep test (drop (a + n) qs)
keep_pass test d qs zero a fail = ap (λ (k : ℕ). keep test (drop k qs)) {x = a} {y = a + zero} (omega arith)
keep_pass test d qs (suc n) a fail = by_order (length qs) a past (here (keep_pass test d qs n (suc a) (λ r x y z. fail r (omega arith) (omega arith) z)))
  where
    past : length qs ≤ a → keep test (drop a qs) ≡ keep test (drop (a + suc n) qs)
    past h = ap (λ (l : List Placement). keep test l) (drop_of_length-le qs h ∙ sym (drop_of_length-le qs {i = a + suc n} (omega arith)))

    here : keep test (drop (suc a) qs) ≡ keep test (drop (suc a + n) qs) → a < length qs → keep test (drop a qs) ≡ keep test (drop (a + suc n) qs)
    here rest h =
        ap (λ (l : List Placement). keep test l) (drop-cons qs a d h)
        ∙ ap (λ (b : Bool). cons_if b (get_or qs a d) (keep test (drop (suc a) qs))) (fail a (omega arith) (omega arith) h)
        ∙ rest ∙ ap (λ (k : ℕ). keep test (drop k qs)) {x = suc a + n} {y = a + suc n} (omega arith)

-- ---- what Fast lists below the choices from row r on
abbrev pub chosen_at : State → Placement → Bool
chosen_at t q = any (eqb q.p) (take 1 t.free) && possible t q

unfoldable pub choices_from : System → Identify → State → ℕ → List Listed
choices_from s i t r = each (keep (chosen_at t) (drop r s.rows)) (λ q. fast_below s i (choose t q))

pub leaf_lists : (s : System) (i : Identify) (t : State) → is_empty t.free ≡ true → fast_below s i t ≡ entries s i (t.chosen ∷ [])
unfolding fast_below
leaf_lists s i t e = ap (λ (L : List (List Placement)). entries s i L) (below_leaf s.rows s.size t e)

pub all_choices : (s : System) → Lawful s → (i : Identify) (t : State) → is_empty t.free ≡ false → length t.free ≤ s.size
    → choices_from s i t 0 ≡ fast_below s i t
unfolding choices_from fast_below fast_choices
all_choices s law i t e h =
    sym (ap (λ (L : List (List Placement)). entries s i L) (below_step s.rows (λ q m. (law.row q m).covers_p) s.size t h e)
    ∙ entries_each s i (λ q. search (fast_choices s.rows) s.size (choose t q)) (fast_choices s.rows t))

-- ---- where a search does not go on nothing is listed
none_searched : (choices : State → List Placement) (n : ℕ) (t : State) → is_empty t.free ≡ false → is_empty (choices t) ≡ true → search choices n t ≡ []
unfolding search
none_searched choices zero t e f = ap (λ (b : Bool). cond b (t.chosen ∷ []) []) e
none_searched choices (suc n) t e f =
    ap (λ (b : Bool). cond b (t.chosen ∷ []) (each (choices t) (λ q. search choices n (choose t q)))) e ∙ nothing (choices t) f
  where
    nothing : (qs : List Placement) → is_empty qs ≡ true → each qs (λ q. search choices n (choose t q)) ≡ []
    nothing [] g = refl
    nothing (q ∷ qs) g = absurd (subst T (sym g) tt)

or_fails : (a b : Bool) → (a || not b) ≡ false → (a ≡ false) × (b ≡ true)
or_fails false true e = (refl, refl)
or_fails false false e = absurd (subst T e tt)
or_fails true b e = absurd (subst T e tt)

pub dead_lists : (s : System) (i : Identify) (t : State) → goes_on s t ≡ false → fast_below s i t ≡ []
unfolding fast_below goes_on entries
dead_lists s i t e =
    let f = or_fails (is_empty t.free) (is_empty (fast_choices s.rows t)) e in
    ap (λ (L : List (List Placement)). entries s i L) (none_searched (fast_choices s.rows) s.size t f.0 f.1)

module _ (s : System) (i : Identify) (t : State) where
  pub choices_end : (r : ℕ) → length s.rows ≤ r → choices_from s i t r ≡ []
  unfolding choices_from
  choices_end r h = ap (λ (l : List Placement). each (keep (chosen_at t) l) (λ q. fast_below s i (choose t q))) (drop_of_length-le s.rows h)

  pub choices_skip : (a b : ℕ) → a ≤ b → ((r : ℕ) → a ≤ r → r < b → r < length s.rows → chosen_at t (row_of s r) ≡ false)
      → choices_from s i t a ≡ choices_from s i t b
  unfolding choices_from row_of
  choices_skip a b h fail =
      let e : a + (b - a) ≡ b = omega arith in
      ap (λ (l : List Placement). each l (λ q. fast_below s i (choose t q)))
      (keep_pass (chosen_at t) no_row s.rows (b - a) a (λ r x y z. fail r x (omega arith) z) ∙ ap (λ (k : ℕ). keep (chosen_at t) (drop k s.rows)) e)

  -- a row whose kind has no copy left is no choice
  pub none_left : (q : Placement) → get_or t.left q.kind 0 ≡ 0 → chosen_at t q ≡ false
  unfolding possible
  none_left q e =
      ap (λ (k : ℕ). any (eqb q.p) (take 1 t.free) && (ltb 0 k && all (λ n. member n t.free) q.cells)) e ∙ and_no (any (eqb q.p) (take 1 t.free))

  module _ (c : ℕ) (first : take 1 t.free ≡ c ∷ []) where
    only : (q : Placement) → T (chosen_at t q) → q.p ≡ c
    only q u =
        let x = any_at (eqb q.p) (c ∷ []) (subst (λ (l : List ℕ). T (any (eqb q.p) l)) first (and_left (any (eqb q.p) (take 1 t.free)) (possible t q) u)) in
        eqb→eq q.p x.0 x.2 ∙ Memᴰ.eq_of_singleton x.1

    -- nor is one at another cell
    pub other_cell : (q : Placement) → (q.p ≡ c → ⊥) → chosen_at t q ≡ false
    other_cell q d = is_false (chosen_at t q) (λ u. d (only q u))

    module _ (r : ℕ) (row : r < length s.rows) (at : (row_of s r).p ≡ c) where
      passes : chosen_at t (row_of s r) ≡ possible t (row_of s r)
      passes =
          ap (λ (l : List ℕ). any (eqb (row_of s r).p) l && possible t (row_of s r)) first
          ∙ ap (λ (b : Bool). (b || false) && possible t (row_of s r)) (is_true (eqb (row_of s r).p c) (eqb_of at))

      one_more : choices_from s i t r
          ≡ each (cons_if (possible t (row_of s r)) (row_of s r) (keep (chosen_at t) (drop (suc r) s.rows))) (λ q. fast_below s i (choose t q))
      unfolding choices_from row_of
      one_more =
          ap (λ (l : List Placement). each (keep (chosen_at t) l) (λ q. fast_below s i (choose t q))) (drop-cons s.rows r no_row row)
          ∙ ap (λ (b : Bool). each (cons_if b (row_of s r) (keep (chosen_at t) (drop (suc r) s.rows))) (λ q. fast_below s i (choose t q))) passes

      pub choices_take : possible t (row_of s r) ≡ true → choices_from s i t r ≡ fast_below s i (choose t (row_of s r)) ++ choices_from s i t (r + 1)
      unfolding choices_from
      choices_take e =
          one_more
          ∙ ap (λ (b : Bool). each (cons_if b (row_of s r) (keep (chosen_at t) (drop (suc r) s.rows))) (λ q. fast_below s i (choose t q))) e
          ∙ ap (λ (k : ℕ). fast_below s i (choose t (row_of s r)) ++ choices_from s i t k) (sym (add-one r))

      pub choices_pass : possible t (row_of s r) ≡ false → choices_from s i t r ≡ choices_from s i t (r + 1)
      unfolding choices_from
      choices_pass e =
          one_more
          ∙ ap (λ (b : Bool). each (cons_if b (row_of s r) (keep (chosen_at t) (drop (suc r) s.rows))) (λ q. fast_below s i (choose t q))) e
          ∙ ap (choices_from s i t) (sym (add-one r))
