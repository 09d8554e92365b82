-- The first column with the fewest rows, but at least one, is the cell that Knuth's choices take: both are the least in the order of count, then cell.
-- Assumes nothing.
use Prim.Native.Nat.{ℕ, zero, suc, ◌≤◌, ◌<◌}
use mathlib.Core.Bool.{Bool, true, false, not, ◌&&◌, ◌||◌, cond}
use mathlib.Core.List.Memᴰ
use mathlib.Core.List.{List, [], ◌∷◌, map, Memᴰ}
use mathlib.Core.Path.{◌≡◌, refl, sym, ap, ◌∙◌}
use mathlib.Core.Logic.{◌⊎◌, inl, inr}
use native.Mathlib.Omega.{arith}
use lib.Dec.{T, ltb, eqb, ltb→lt, lt→ltb, nltb→le, eqb→eq}
use lib.ListN.{take}
use Rattle.lists.specs.Lists.{all, any, how_many, keep, member, less, sort, ascending}
use Rattle.lists.proofs.TestLaws.{or_no, and_left, and_right, or_cases, decide, holds}
use Rattle.lists.proofs.ListLaws.{nothing_in, all_at, keep_at, keep_of, keep_same}
use Rattle.lists.proofs.SortLaws.{sort_ascending, sort_at, sort_of}
use Rattle.theorems.proofs.KnuthOrderLaws.{tallies_tied, tally_trans}
use Rattle.definitions.specs.Placements.{Placement}
use Rattle.definitions.specs.Orders.{State, possible, Tally, tally_ahead, tallies, knuth_choices}
use Rattle.links.specs.Search.{better, least, pivot}

-- ---- what `pivot` finds
pub record Least (f : ℕ → ℕ) (n c : ℕ) : Type 0 where
  pub small : c < n
  pub some : 0 < f c
  pub fewest : (j : ℕ) → j < n → 0 < f j → f c ≤ f j
  pub first : (j : ℕ) → j < c → 0 < f j → f c < f j

-- none, or the first of the least
abbrev Found : (ℕ → ℕ) → ℕ → ℕ → ℕ → Type 0
Found f n c l = ((c ≡ 4096) × (l ≡ 65536) × ((j : ℕ) → j < n → f j ≡ 0)) ⊎ ((l ≡ f c) × Least f n c)

better_yes : (n l : ℕ) → better n l ≡ true → (0 < n) × (n < l)
better_yes n l e = go (ltb 0 n) refl (ltb n l) refl e
  where
    go : (a : Bool) → ltb 0 n ≡ a → (b : Bool) → ltb n l ≡ b → cond a b false ≡ true → (0 < n) × (n < l)
    go true p true q h = (ltb→lt 0 n (holds (ltb 0 n) p), ltb→lt n l (holds (ltb n l) q))
    go true p false q h = absurd (holds false h)
    go false p b q h = absurd (holds false h)

better_no : (n l : ℕ) → better n l ≡ false → 0 < n → l ≤ n
better_no n l e k = go (decide (ltb n l))
  where
    both : (a b : Bool) → T a → T b → cond a b false ≡ false → ⊥
    both true true s t h = holds false (sym h)
    both true false s t h = t
    both false b s t h = s

    go : T (ltb n l) ⊎ T (not (ltb n l)) → l ≤ n
    go (inl t) = absurd (both (ltb 0 n) (ltb n l) (lt→ltb 0 n k) t e)
    go (inr t) = nltb→le n l t

same_number : (f : ℕ → ℕ) (j n : ℕ) → j ≡ n → f j ≡ f n
same_number f j n e = ap f e

pub pivot_found : (f : ℕ → ℕ) → ((j : ℕ) → f j < 65536) → (n : ℕ) → Found f n (pivot f n) (least f n)
unfolding pivot least
pivot_found f few zero = inl (refl, refl, λ j h. absurd (omega arith))
pivot_found f few (suc n) = go (better (f n) (least f n)) refl (pivot_found f few n)
  where
    last_or : (j : ℕ) → j < suc n → (j < n) ⊎ (j ≡ n)
    last_or j h = cut (decide (ltb j n))
      where
        cut : T (ltb j n) ⊎ T (not (ltb j n)) → (j < n) ⊎ (j ≡ n)
        cut (inl t) = inl (ltb→lt j n t)
        cut (inr t) = let l = nltb→le j n t in inr (omega arith)

    go : (b : Bool) → better (f n) (least f n) ≡ b → Found f n (pivot f n) (least f n) → Found f (suc n) (cond b n (pivot f n)) (cond b (f n) (least f n))
    go true e (inl h) =
        let y = better_yes (f n) (least f n) e in
        inr (refl, record { small = omega arith; some = y.0; fewest = λ j l k. low j k (last_or j l); first = λ j l k. absurd (let z = h.2 j l in omega arith) })
      where
        low : (j : ℕ) → 0 < f j → (j < n) ⊎ (j ≡ n) → f n ≤ f j
        low j k (inl l) = absurd (let z = h.2 j l in omega arith)
        low j k (inr l) = let z = same_number f j n l in omega arith
    go true e (inr h) =
        let y = better_yes (f n) (least f n) e in
        inr (refl, record { small = omega arith; some = y.0; fewest = λ j l k. low j k (last_or j l); first = λ j l k. under j l k })
      where
        under : (j : ℕ) → j < n → 0 < f j → f n < f j
        under j l k = let y = (better_yes (f n) (least f n) e).1 in let z = h.1.fewest j l k in let u = h.0 in omega arith

        low : (j : ℕ) → 0 < f j → (j < n) ⊎ (j ≡ n) → f n ≤ f j
        low j k (inl l) = let z = under j l k in omega arith
        low j k (inr l) = let z = same_number f j n l in omega arith
    go false e (inl h) = inl (h.0, h.1, λ j l. none j (last_or j l))
      where
        last : f n ≡ 0
        last = cut (decide (ltb 0 (f n)))
          where
            cut : T (ltb 0 (f n)) ⊎ T (not (ltb 0 (f n))) → f n ≡ 0
            cut (inl t) = absurd (let z = better_no (f n) (least f n) e (ltb→lt 0 (f n) t) in let u = h.1 in let v = few n in omega arith)
            cut (inr t) = let z = nltb→le 0 (f n) t in omega arith

        none : (j : ℕ) → (j < n) ⊎ (j ≡ n) → f j ≡ 0
        none j (inl l) = h.2 j l
        none j (inr l) = same_number f j n l ∙ last
    go false e (inr h) =
        inr (h.0, record { small = (let z = h.1.small in omega arith); some = h.1.some; fewest = λ j l k. low j k (last_or j l); first = h.1.first })
      where
        low : (j : ℕ) → 0 < f j → (j < n) ⊎ (j ≡ n) → f (pivot f n) ≤ f j
        low j k (inl l) = h.1.fewest j l k
        low j k (inr l) =
            let z = same_number f j n l in
            let u = better_no (f n) (least f n) e (omega arith) in
            let v = h.0 in
            omega arith

-- ---- the first of sorted tallies
first_of_sorted : (xs : List Tally) → T (ascending tally_ahead xs) → {y : Tally} → Memᴰ y xs
    → (x : Tally) × (take 1 xs ≡ x ∷ []) × Memᴰ x xs × ((y ≡ x) ⊎ T (tally_ahead x y))
first_of_sorted [] t m = absurd (Memᴰ.not-nil m)
first_of_sorted (x ∷ xs) t {y} m = (x, refl, Memᴰ.head refl, go (Memᴰ.cases_cons m))
  where
    go : (y ≡ x) ⊎ Memᴰ y xs → (y ≡ x) ⊎ T (tally_ahead x y)
    go (inl e) = inl e
    go (inr k) = inr (all_at (tally_ahead x) xs (and_left (all (tally_ahead x) xs) (ascending tally_ahead xs) t) k)

module _ (ps : List Placement) (free : List ℕ) (size : ℕ) where
  abbrev many : ℕ → ℕ
  many n = how_many (λ q. member n q.cells) ps

  abbrev counted : ℕ → Tally
  counted n = record { placements = many n; cell = n }

  module _ (on : (n : ℕ) → Memᴰ n free → n < size) (reach : (n : ℕ) → n < size → 0 < many n → Memᴰ n free) (few : (n : ℕ) → many n < 65536) where
    tally_at : {x : Tally} → Memᴰ x (tallies ps free) → (n : ℕ) × Memᴰ n free × (counted n ≡ x) × (0 < many n)
    unfolding tallies
    tally_at {x} m =
        let k = keep_at (λ (u : Tally). ltb 0 u.placements) (map counted free) m in
        let r = Memᴰ.of_map counted free k.0 in
        let e : many r.0 ≡ x.placements = ap (λ (u : Tally). u.placements) r.2 in
        let p = ltb→lt 0 x.placements k.1 in
        (r.0, r.1, r.2, omega arith)

    tally_of : {n : ℕ} → Memᴰ n free → 0 < many n → Memᴰ (counted n) (tallies ps free)
    unfolding tallies
    tally_of {n} m h = keep_of (λ (u : Tally). ltb 0 u.placements) (map counted free) (Memᴰ.map counted m) (lt→ltb 0 (many n) h)

    no_tallies : ((j : ℕ) → j < size → many j ≡ 0) → tallies ps free ≡ []
    no_tallies h = nothing_in (tallies ps free) (λ x m. let r = tally_at m in let z = h r.0 (on r.0 r.1) in let u = r.3 in omega arith)

    the_first : (c : ℕ) → Least many size c → take 1 (sort tally_ahead (tallies ps free)) ≡ counted c ∷ []
    unfolding tally_ahead
    the_first c h = go (first_of_sorted (sort tally_ahead ts) (sort_ascending tally_ahead tally_trans ts) (sort_of tally_ahead tallies_tied ts (tally_of (reach c h.small h.some) h.some)))
      where
        ts : List Tally
        ts = tallies ps free

        no_less : (x : Tally) (n : ℕ) → counted n ≡ x → n < size → 0 < many n → T (ltb x.placements (many c)) ⊎ T (eqb x.placements (many c) && (ltb x.cell c || (eqb x.cell c && false))) → ⊥
        no_less x n e l k (inl t) =
            let p : many n ≡ x.placements = ap (λ (u : Tally). u.placements) e in
            let a = ltb→lt x.placements (many c) t in
            let b = h.fewest n l k in
            omega arith
        no_less x n e l k (inr t) =
            let p : many n ≡ x.placements = ap (λ (u : Tally). u.placements) e in
            let q : n ≡ x.cell = ap (λ (u : Tally). u.cell) e in
            let a = eqb→eq x.placements (many c) (and_left (eqb x.placements (many c)) (ltb x.cell c || (eqb x.cell c && false)) t) in
            let b = under (or_cases (ltb x.cell c) (eqb x.cell c && false) (and_right (eqb x.placements (many c)) (ltb x.cell c || (eqb x.cell c && false)) t)) in
            let d = h.first n (omega arith) k in
            omega arith
          where
            under : T (ltb x.cell c) ⊎ T (eqb x.cell c && false) → x.cell < c
            under (inl u) = ltb→lt x.cell c u
            under (inr u) = absurd (and_right (eqb x.cell c) false u)

        at_c : (x : Tally) → Memᴰ x (sort tally_ahead ts) → (counted c ≡ x) ⊎ T (tally_ahead x (counted c)) → x ≡ counted c
        at_c x m (inl e) = sym e
        at_c x m (inr t) =
            let r = tally_at (sort_at tally_ahead ts m) in
            absurd (no_less x r.0 r.2 (on r.0 r.1) r.3 (or_cases (ltb x.placements (many c)) (eqb x.placements (many c) && less (x.cell ∷ []) (c ∷ [])) t))

        go : (x : Tally) × (take 1 (sort tally_ahead ts) ≡ x ∷ []) × Memᴰ x (sort tally_ahead ts) × ((counted c ≡ x) ⊎ T (tally_ahead x (counted c)))
            → take 1 (sort tally_ahead ts) ≡ counted c ∷ []
        go f = f.1 ∙ ap (λ (u : Tally). u ∷ []) (at_c f.0 f.2 f.3)

    -- the cell that is taken
    pub fewest_is : ((pivot many size ≡ 4096) × (tallies ps free ≡ [])) ⊎ (Least many size (pivot many size) × (take 1 (sort tally_ahead (tallies ps free)) ≡ counted (pivot many size) ∷ []))
    fewest_is = go (pivot_found many few size)
      where
        go : Found many size (pivot many size) (least many size)
            → ((pivot many size ≡ 4096) × (tallies ps free ≡ [])) ⊎ (Least many size (pivot many size) × (take 1 (sort tally_ahead (tallies ps free)) ≡ counted (pivot many size) ∷ []))
        go (inl h) = inl (h.0, no_tallies h.2)
        go (inr h) = inr (h.1, the_first (pivot many size) h.1)

-- ---- Knuth's choices by that cell
module _ (rows : List Placement) (t : State) where
  pub knuth_none : tallies (keep (possible t) rows) t.free ≡ [] → knuth_choices rows t ≡ []
  unfolding knuth_choices
  knuth_none e =
      ap (λ (ts : List Tally). keep (λ q. any (λ u. member u.cell q.cells) (take 1 (sort tally_ahead ts))) (keep (possible t) rows)) e
      ∙ nothing_in (keep (λ q. false) (keep (possible t) rows)) (λ q m. (keep_at (λ (z : Placement). false) (keep (possible t) rows) m).1)

  pub knuth_some : (c n : ℕ) → take 1 (sort tally_ahead (tallies (keep (possible t) rows) t.free)) ≡ record { placements = n; cell = c } ∷ []
      → knuth_choices rows t ≡ keep (λ q. member c q.cells) (keep (possible t) rows)
  unfolding knuth_choices
  knuth_some c n e =
      ap (λ (ts : List Tally). keep (λ q. any (λ u. member u.cell q.cells) ts) (keep (possible t) rows)) e
      ∙ keep_same (λ q. member c q.cells || false) (λ q. member c q.cells) (keep (possible t) rows) (λ q m. or_no (member c q.cells))
