-- Where the rows of each kind begin in a path that goes kind by kind: the counts of the kinds before add up, and the rows of a kind are a part of the path.
-- Assumes nothing.
use Prim.Native.Nat.{ℕ, zero, suc, ◌+◌, ◌-◌, ◌≤◌, ◌<◌}
use mathlib.Core.Bool.{Bool, true, false, cond}
use mathlib.Core.List.{List, [], ◌∷◌, ◌++◌, map}
use mathlib.Core.Path.{◌≡◌, refl, sym, ap, ap₂, ◌∙◌}
use mathlib.Core.Logic.{⊎_elim}
use native.Mathlib.Numerals.{add-one}
use native.Mathlib.Omega.{arith}
use borrow.Author.Tests.{lt-ltb, le-ltb, eq-eqb, ne_eqb}
use lib.Dec.{ltb, eqb, eqb→eq, ltb→lt}
use lib.ListN.{length, take, drop, get_or, set, length-map, length-append}
use lib.Seq.{get_or-set_same, get_or-set_other, take_at, drop_at}
use Rattle.lists.specs.Lists.{each, how_many, below, from}
use Rattle.lists.proofs.TestLaws.{by_eq, by_order, lt_or_ge}
use Rattle.lists.proofs.ListLaws.{all_at, keep_none, keep_length, each_append}
use Rattle.lists.proofs.RangeLaws.{below_next, below_split, from_next}
use Rattle.lists.proofs.CountLaws.{how_many_length}
use Rattle.definitions.specs.Placements.{Placement}
use Rattle.rows.specs.declared.chart.Chart.{Chart}
use Rattle.rows.specs.Rows.{row_at}
use Rattle.rows.specs.Systems.{System, system_in}
use Rattle.rows.specs.Answering.{path_in}
use Rattle.rows.specs.declared.Dims.{Dims}
use Rattle.kept.specs.Normal.{row_of, of_kind, InKinds, start_of, KindStarts}
use Rattle.kept.specs.Starts.{part_of}
use Rattle.rows.specs.Ready.{Ready}
use Rattle.kept.specs.Packings.{AreRows}
use Rattle.rows.proofs.ReadyLaws.{kinds_many, row_kind}
use Rattle.kept.proofs.ReadyLaws.{row_is}
use Rattle.kept.proofs.NormalFormLaws.{of-kind}

-- ---- how many are below k + 1: those below k, and those that are k
one_below : (y k : ℕ) → ◌≡◌ {A = ℕ} (cond (ltb y (k + 1)) 1 0) (cond (ltb y k) 1 0 + cond (eqb y k) 1 0)
one_below y k = by_order k y above under
  where
    both : (b c e : Bool) → ltb y (k + 1) ≡ b → ltb y k ≡ c → eqb y k ≡ e → ◌≡◌ {A = ℕ} (cond b 1 0) (cond c 1 0 + cond e 1 0)
        → ◌≡◌ {A = ℕ} (cond (ltb y (k + 1)) 1 0) (cond (ltb y k) 1 0 + cond (eqb y k) 1 0)
    both b c e p q r s =
        ap {B = ℕ} (λ (x : Bool). cond x 1 0) p ∙ s ∙ sym (ap₂ {C = ℕ} (λ (x z : Bool). cond x 1 0 + cond z 1 0) q r)

    under : y < k → ◌≡◌ {A = ℕ} (cond (ltb y (k + 1)) 1 0) (cond (ltb y k) 1 0 + cond (eqb y k) 1 0)
    under h = both true true false (lt-ltb y (k + 1) (omega arith)) (lt-ltb y k h) (ne_eqb y k (λ e. omega arith)) refl

    above : k ≤ y → ◌≡◌ {A = ℕ} (cond (ltb y (k + 1)) 1 0) (cond (ltb y k) 1 0 + cond (eqb y k) 1 0)
    above h =
        by_eq y k
        (λ e. both true false true (lt-ltb y (k + 1) (omega arith)) (le-ltb y k h) (eq-eqb y k e) refl)
        (λ e. both false false false (le-ltb y (k + 1) (omega arith)) (le-ltb y k h) (ne_eqb y k e) refl)

module _ {A : Type 0} (f : A → ℕ) where
  below_none : (xs : List A) → how_many (λ x. ltb (f x) 0) xs ≡ 0
  below_none [] = refl
  below_none (x ∷ xs) =
      let e : ◌≡◌ {A = ℕ} (cond (ltb (f x) 0) 1 0) 0 = ap {B = ℕ} (λ (b : Bool). cond b 1 0) (le-ltb (f x) 0 (omega arith)) in
      let i = below_none xs in
      omega arith

  below_more : (k : ℕ) (xs : List A) → how_many (λ x. ltb (f x) (k + 1)) xs ≡ how_many (λ x. ltb (f x) k) xs + how_many (λ x. eqb (f x) k) xs
  below_more k [] = refl
  below_more k (x ∷ xs) = let e = one_below (f x) k in let i = below_more k xs in omega arith

module _ (work rows : List ℕ) where
  pub start_zero : start_of work rows 0 ≡ 0
  unfolding start_of
  start_zero = below_none (λ (q : Placement). q.kind) (map (row_at work) rows)

  start_more : (k : ℕ) → start_of work rows (k + 1) ≡ start_of work rows k + how_many (λ q. eqb q.kind k) (map (row_at work) rows)
  unfolding start_of
  start_more k = below_more (λ (q : Placement). q.kind) k (map (row_at work) rows)

  -- as `used_before` counts them
  pub start_next : (k u : ℕ) → u ≡ how_many (λ q. eqb q.kind k) (path_in work rows) → start_of work rows (k + 1) ≡ start_of work rows k + u
  unfolding path_in
  start_next k u e = let a = start_more k in omega arith

  pub starts_rise : (k : ℕ) → start_of work rows k ≤ start_of work rows (k + 1)
  starts_rise k = let a = start_more k in omega arith

  pub start_few : (k : ℕ) → start_of work rows k ≤ length rows
  unfolding start_of
  start_few k =
      let p : Placement → Bool = λ q. ltb q.kind k in
      let a = how_many_length p (map (row_at work) rows) in
      let b = keep_length p (map (row_at work) rows) in
      let c = length-map rows (row_at work) in
      omega arith

  pub starts_within : (kinds n : ℕ) (starts : List ℕ) → n ≡ kinds → KindStarts work rows kinds starts → (k : ℕ) → k ≤ n → get_or starts k 0 ≤ length rows
  starts_within kinds n starts e are k h = let a = are k (omega arith) in let b = start_few k in omega arith

  -- one start more
  pub start_set : (starts : List ℕ) (k at : ℕ) → k < length starts → at ≡ start_of work rows k → ((j : ℕ) → j < k → get_or starts j 0 ≡ start_of work rows j)
      → (j : ℕ) → j < k + 1 → get_or (set starts k at) j 0 ≡ start_of work rows j
  start_set starts k at h e f j l =
      by_eq j k
      (λ i. ap (λ (x : ℕ). get_or (set starts k at) x 0) i ∙ get_or-set_same starts k at 0 h ∙ e ∙ ap (start_of work rows) (sym i))
      (λ i. get_or-set_other starts k j at 0 i ∙ f j (omega arith))

-- ---- the rows of a kind, by the starts
module _ (d : Dims) (work : List ℕ) (chart : Chart) (ready : Ready d work chart) (rows : List ℕ) (o : AreRows d rows) where
  abbrev S : System
  S = system_in d work chart

  abbrev own : ℕ → List ℕ
  own k = of_kind S k rows

  next : (k : ℕ) → start_of work rows (k + 1) ≡ start_of work rows k + length (own k)
  next k = let a = start_more work rows k in let b = of-kind d work chart k rows o.are_rows in omega arith

  none_own : (k : ℕ) → d.kinds ≤ k → own k ≡ []
  unfolding of_kind
  none_own k h =
      keep_none (λ r. eqb (row_of S r).kind k) rows (λ r m t.
      let l = ltb→lt r d.rows (all_at (λ s. ltb s d.rows) rows o.are_rows m) in
      let a = row_kind d work chart ready.lawful r l in
      let e = ap (λ (q : Placement). q.kind) (row_is d work chart r l) in
      let b = eqb→eq (row_of S r).kind k t in
      omega arith)

  before_length : (k : ℕ) → length (each (below k) own) ≡ start_of work rows k
  before_length zero = sym (start_zero work rows)
  before_length (suc k) =
      let a = ap (λ (ks : List ℕ). length (each ks own)) (ap below (sym (add-one k)) ∙ below_next k) in
      let b = ap length (each_append (below k) (k ∷ []) own) in
      let c = length-append (each (below k) own) (own k ++ []) in
      let e = length-append (own k) [] in
      let i = before_length k in
      let j = next k in
      let z = ap (start_of work rows) (add-one k) in
      omega arith

  module _ (kinds : InKinds S rows) where
    from_start_on : (k : ℕ) → k < d.kinds → drop (start_of work rows k) rows ≡ own k ++ each (from (k + 1) (d.kinds - (k + 1))) own
    from_start_on k h =
        ap (drop (start_of work rows k))
        (sym kinds ∙ ap (λ (ks : List ℕ). each ks own) (ap below (kinds_many d work chart) ∙ below_split k d.kinds (omega arith)) ∙ each_append (below k) (from k (d.kinds - k)) own)
        ∙ drop_at (each (below k) own) (each (from k (d.kinds - k)) own) (start_of work rows k) (before_length k)
        ∙ ap (λ (ks : List ℕ). each ks own) (from_next k d.kinds h)

    pub part_own : (starts : List ℕ) → KindStarts work rows d.kinds starts → (k : ℕ) → part_of starts d.kinds k rows ≡ own k
    unfolding part_of
    part_own starts are k =
        let part = take (get_or starts (k + 1) 0 - get_or starts k 0) (drop (get_or starts k 0) rows) in
        ⊎_elim
        (λ (h : k < d.kinds).
        let a = are k (omega arith) in
        let b = are (k + 1) (omega arith) in
        let e = next k in
        let many : get_or starts (k + 1) 0 - get_or starts k 0 ≡ length (own k) = omega arith in
        ap (λ (b : Bool). cond b part []) (lt-ltb k d.kinds h)
        ∙ ap₂ (λ (n at : ℕ). take n (drop at rows)) many a
        ∙ ap (take (length (own k))) (from_start_on k h)
        ∙ take_at (own k) (each (from (k + 1) (d.kinds - (k + 1))) own) (length (own k)) refl)
        (λ (h : d.kinds ≤ k). ap (λ (b : Bool). cond b part []) (le-ltb k d.kinds h) ∙ sym (none_own k h))
        (lt_or_ge k d.kinds)

    -- as `rows_of` gives them
    pub rows_own : (starts : List ℕ) (n : ℕ) → n ≡ d.kinds → KindStarts work rows d.kinds starts → (k : ℕ) (rs : List ℕ) → rs ≡ part_of starts n k rows → rs ≡ own k
    rows_own starts n e are k rs is = is ∙ ap (λ (m : ℕ). part_of starts m k rows) e ∙ part_own starts are k
