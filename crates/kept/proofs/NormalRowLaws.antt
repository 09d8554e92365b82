-- The rows of a lawful system stand by kind, then (p, j), so among rows of one kind their numbers compare as their (p, j) do. Assumes nothing.
use Prim.Native.Nat.{ℕ, ◌≤◌, ◌<◌}
use mathlib.Core.Bool.{Bool, true, not, ◌&&◌, ◌||◌}
use mathlib.Core.List.Memᴰ
use mathlib.Core.List.{List, [], ◌∷◌, ◌++◌, map, Memᴰ}
use mathlib.Core.Path.{◌≡◌, refl, sym, ap, ap₂, ◌∙◌, subst}
use mathlib.Core.Logic.{◌⊎◌, inl, inr}
use native.Mathlib.Omega.{arith}
use lib.Dec.{T, ltb, eqb, eqb→eq, ltb→lt, nltb→le}
use lib.ListN.{length, length-map}
use Rattle.lists.specs.Lists.{all, each, below, less, ascending}
use Rattle.lists.proofs.TestLaws.{and_left, and_right, and_both, or_left, ltb_trans, ltb_irrefl, decide, clash, is_true, is_false, eqb_of}
use Rattle.lists.proofs.ListLaws.{get_or_mem, all_at, all_of, keep_at, keep_of, each_at, each_of}
use Rattle.lists.proofs.SortLaws.{less_back, less_level, get_or_ahead, keep_ascending, ascending_unique, each_ascending, less_two}
use Rattle.lists.proofs.RangeLaws.{below_of, from_ascending}
use Rattle.rows.proofs.AnsweringLaws.{ahead_kind}
use Rattle.definitions.specs.Placements.{Placement}
use Rattle.definitions.specs.Packing.{ahead}
use Rattle.theorems.proofs.OrderLaws.{pj_of}
use Rattle.theorems.proofs.PackingLaws.{ahead_irrefl}
use Rattle.rows.specs.Systems.{System, kind_by}
use Rattle.rows.specs.Lawful.{Lawful, LawfulRow, Permutes, ImageOf, allowed}
use Rattle.kept.specs.Normal.{no_row, row_of, of_kind, counted, InKinds}

-- ---- what the order of packings needs of a lawful system
pub record Comparable (s : System) : Type 0 where
  pub in_order : T (ascending ahead s.rows)
  pub row : (q : Placement) → Memᴰ q s.rows → LawfulRow s q
  pub by_cells : (q r : Placement) → Memᴰ q s.rows → Memᴰ r s.rows → q.kind ≡ r.kind → q.cells ≡ r.cells → q ≡ r
  pub permutes : (odd : Bool) (f : List ℕ) → Memᴰ f (allowed s odd) → Permutes s.size f
  pub partner_back : (k : ℕ) → kind_by s.partners true k < length s.copies → kind_by s.partners true (kind_by s.partners true k) ≡ k
  pub image : (odd : Bool) (f : List ℕ) → Memᴰ f (allowed s odd) → (q : Placement) → Memᴰ q s.rows → kind_by s.partners odd q.kind < length s.copies
      → (r : Placement) × ImageOf s odd f q r

pub comparable : (s : System) → Lawful s → Comparable s
comparable s w = record { in_order = w.in_order; row = w.row; by_cells = w.by_cells; permutes = w.permutes; partner_back = w.partner_back; image = w.image }

-- numbers of rows
abbrev pub RowNumbers : System → List ℕ → Type 0
RowNumbers s rs = (r : ℕ) → Memᴰ r rs → r < length s.rows

pub of-rows : (s : System) (rs : List ℕ) → T (all (λ r. ltb r (length s.rows)) rs) → RowNumbers s rs
of-rows s rs t r m = ltb→lt r (length s.rows) (all_at (λ r. ltb r (length s.rows)) rs t m)

pub row_of_in : (s : System) (r : ℕ) → r < length s.rows → Memᴰ (row_of s r) s.rows
unfolding row_of
row_of_in s r h = get_or_mem no_row s.rows r h

module _ (s : System) (w : Comparable s) where
  pub row_ahead : (a b : ℕ) → a < b → b < length s.rows → T (ahead (row_of s a) (row_of s b))
  unfolding row_of
  row_ahead a b h k = get_or_ahead no_row ahead s.rows w.in_order a b h k

  -- different numbers, different rows
  pub row_apart : (a b : ℕ) → a < length s.rows → b < length s.rows → row_of s a ≡ row_of s b → a ≡ b
  row_apart a b h k e = go (decide (ltb a b)) (decide (ltb b a))
    where
      go : T (ltb a b) ⊎ T (not (ltb a b)) → T (ltb b a) ⊎ T (not (ltb b a)) → a ≡ b
      go (inl t) u = absurd (ahead_irrefl (row_of s b) (subst (λ (q : Placement). T (ahead q (row_of s b))) e (row_ahead a b (ltb→lt a b t) k)))
      go (inr t) (inl u) = absurd (ahead_irrefl (row_of s b) (subst (λ (q : Placement). T (ahead (row_of s b) q)) e (row_ahead b a (ltb→lt b a u) h)))
      go (inr t) (inr u) = let x = nltb→le a b t in let y = nltb→le b a u in omega arith

  pub rows_up : (rs : List ℕ) → RowNumbers s rs → T (ascending ltb rs) → T (ascending ahead (map (row_of s) rs))
  rows_up [] h t = tt
  rows_up (r ∷ rs) h t =
      and_both (all (ahead (row_of s r)) (map (row_of s) rs)) (ascending ahead (map (row_of s) rs))
      (all_of (ahead (row_of s r)) (map (row_of s) rs) (λ q m.
      let z = Memᴰ.of_map (row_of s) rs m in
      subst (λ (y : Placement). T (ahead (row_of s r) y)) z.2
      (row_ahead r z.0 (ltb→lt r z.0 (all_at (ltb r) rs (and_left (all (ltb r) rs) (ascending ltb rs) t) z.1)) (h z.0 (Memᴰ.tail z.1)))))
      (rows_up rs (λ z m. h z (Memᴰ.tail m)) (and_right (all (ltb r) rs) (ascending ltb rs) t))

  pub kinds-of : (k : ℕ) (rs : List ℕ) {r : ℕ} → Memᴰ r (of_kind s k rs) → Memᴰ r rs × ((row_of s r).kind ≡ k)
  unfolding of_kind
  kinds-of k rs {r} m = let x = keep_at (λ z. eqb (row_of s z).kind k) rs m in (x.0, eqb→eq (row_of s r).kind k x.1)

  pub of-kinds : (k : ℕ) (rs : List ℕ) {r : ℕ} → Memᴰ r rs → (row_of s r).kind ≡ k → Memᴰ r (of_kind s k rs)
  unfolding of_kind
  of-kinds k rs m e = keep_of (λ z. eqb (row_of s z).kind k) rs m (eqb_of e)

  pub kind_up : (k : ℕ) (rs : List ℕ) → T (ascending ltb rs) → T (ascending ltb (of_kind s k rs))
  unfolding of_kind
  kind_up k rs t = keep_ascending ltb (λ z. eqb (row_of s z).kind k) rs t

  pub by_kinds : (rs : List ℕ) → RowNumbers s rs → T (ascending ltb rs) → InKinds s rs
  by_kinds rs h t =
      ascending_unique ltb ltb_trans ltb_irrefl (each (below (length s.copies)) (λ k. of_kind s k rs)) rs
      (each_ascending ltb ltb (λ k. of_kind s k rs) (below (length s.copies)) (from_ascending 0 (length s.copies)) (λ k m. kind_up k rs t) cross) t
      (λ r m. let x = each_at (λ k. of_kind s k rs) (below (length s.copies)) m in (kinds-of x.0 rs x.2).0)
      (λ r m. each_of (λ k. of_kind s k rs) (below (length s.copies)) (below_of (length s.copies) (w.row (row_of s r) (row_of_in s r (h r m))).of_kind) (of-kinds (row_of s r).kind rs m refl))
    where
      cross : (k i : ℕ) → Memᴰ k (below (length s.copies)) → Memᴰ i (below (length s.copies)) → T (ltb k i)
          → (a b : ℕ) → Memᴰ a (of_kind s k rs) → Memᴰ b (of_kind s i rs) → T (ltb a b)
      cross k i m n u a b x y = go (decide (ltb a b))
        where
          less_kind : k < i
          less_kind = ltb→lt k i u

          p : Memᴰ a rs × ((row_of s a).kind ≡ k)
          p = kinds-of k rs x

          q : Memᴰ b rs × ((row_of s b).kind ≡ i)
          q = kinds-of i rs y

          ahead_or : T (ltb b a) ⊎ T (not (ltb b a)) → b ≤ a → ⊥
          ahead_or (inl v) le =
              let z = ahead_kind (row_of s b) (row_of s a) (row_ahead b a (ltb→lt b a v) (h a p.0)) in
              let e = p.1 in
              let f = q.1 in
              let g = less_kind in
              omega arith
          ahead_or (inr v) le =
              let z = nltb→le b a v in
              let d : a ≡ b = omega arith in
              let e = sym p.1 ∙ ap (λ (n : ℕ). (row_of s n).kind) d ∙ q.1 in
              let g = less_kind in
              omega arith

          go : T (ltb a b) ⊎ T (not (ltb a b)) → T (ltb a b)
          go (inl v) = v
          go (inr v) = absurd (ahead_or (decide (ltb b a)) (nltb→le a b v))

-- ---- the numbers of rows of one kind compare as their (p, j)
abbrev pub pj : Placement → List ℕ
pj q = q.p ∷ q.j ∷ []

abbrev pub coded : List Placement → List ℕ
coded qs = length qs ∷ each qs pj

module _ (s : System) (w : Comparable s) where
  -- rows of kind k
  abbrev pub RowsOfKind : ℕ → List ℕ → Type 0
  RowsOfKind k xs = (x : ℕ) → Memᴰ x xs → (x < length s.rows) × ((row_of s x).kind ≡ k)

  pair_same : (x y : ℕ) → x < length s.rows → y < length s.rows → (row_of s x).kind ≡ (row_of s y).kind → (a b c d : List ℕ) → less a b ≡ less c d
      → less (x ∷ a) (y ∷ b) ≡ less ((row_of s x).p ∷ (row_of s x).j ∷ c) ((row_of s y).p ∷ (row_of s y).j ∷ d)
  pair_same x y h k e a b c d i = go (decide (ltb x y)) (decide (ltb y x))
    where
      q : Placement
      q = row_of s x

      r : Placement
      r = row_of s y

      go : T (ltb x y) ⊎ T (not (ltb x y)) → T (ltb y x) ⊎ T (not (ltb y x)) → less (x ∷ a) (y ∷ b) ≡ less (q.p ∷ q.j ∷ c) (r.p ∷ r.j ∷ d)
      go (inl t) u =
          is_true (less (x ∷ a) (y ∷ b)) (or_left (ltb x y) (eqb x y && less a b) t)
          ∙ sym (is_true (less (q.p ∷ q.j ∷ c) (r.p ∷ r.j ∷ d)) (less_two q.p q.j r.p r.j c d (pj_of q r e (row_ahead s w x y (ltb→lt x y t) k))))
      go (inr t) (inl u) =
          less_back (y ∷ b) (x ∷ a) (or_left (ltb y x) (eqb y x && less b a) u)
          ∙ sym (less_back (r.p ∷ r.j ∷ d) (q.p ∷ q.j ∷ c) (less_two r.p r.j q.p q.j d c (pj_of r q (sym e) (row_ahead s w y x (ltb→lt y x u) h))))
      go (inr t) (inr u) =
          let f : x ≡ y = let v = nltb→le x y t in let z = nltb→le y x u in omega arith in
          less_level x y a b f ∙ i
          ∙ sym (less_level q.p r.p (q.j ∷ c) (r.j ∷ d) (ap (λ (n : ℕ). (row_of s n).p) f) ∙ less_level q.j r.j c d (ap (λ (n : ℕ). (row_of s n).j) f))

  codes_same : (k : ℕ) (xs ys : List ℕ) → RowsOfKind k xs → RowsOfKind k ys → length xs ≡ length ys → (a b c d : List ℕ) → less a b ≡ less c d
      → less (xs ++ a) (ys ++ b) ≡ less (each (map (row_of s) xs) pj ++ c) (each (map (row_of s) ys) pj ++ d)
  codes_same k [] [] g h l a b c d i = i
  codes_same k [] (y ∷ ys) g h l a b c d i = absurd (omega arith)
  codes_same k (x ∷ xs) [] g h l a b c d i = absurd (omega arith)
  codes_same k (x ∷ xs) (y ∷ ys) g h l a b c d i =
      let u = g x (Memᴰ.head refl) in
      let v = h y (Memᴰ.head refl) in
      pair_same x y u.0 v.0 (u.1 ∙ sym v.1) (xs ++ a) (ys ++ b) (each (map (row_of s) xs) pj ++ c) (each (map (row_of s) ys) pj ++ d)
      (codes_same k xs ys (λ z m. g z (Memᴰ.tail m)) (λ z m. h z (Memᴰ.tail m)) (omega arith) a b c d i)

  blocks_same : (k : ℕ) (xs ys : List ℕ) → RowsOfKind k xs → RowsOfKind k ys → (a b c d : List ℕ) → less a b ≡ less c d
      → less (counted xs ++ a) (counted ys ++ b) ≡ less (coded (map (row_of s) xs) ++ c) (coded (map (row_of s) ys) ++ d)
  blocks_same k xs ys g h a b c d i = go (decide (eqb (length xs) (length ys)))
    where
      cs : List ℕ
      cs = each (map (row_of s) xs) pj ++ c

      ds : List ℕ
      ds = each (map (row_of s) ys) pj ++ d

      lengths : less (length (map (row_of s) xs) ∷ cs) (length (map (row_of s) ys) ∷ ds) ≡ less (length xs ∷ cs) (length ys ∷ ds)
      lengths = ap₂ (λ (m n : ℕ). less (m ∷ cs) (n ∷ ds)) (length-map xs (row_of s)) (length-map ys (row_of s))

      go : T (eqb (length xs) (length ys)) ⊎ T (not (eqb (length xs) (length ys)))
          → less (length xs ∷ (xs ++ a)) (length ys ∷ (ys ++ b)) ≡ less (length (map (row_of s) xs) ∷ cs) (length (map (row_of s) ys) ∷ ds)
      go (inl t) =
          ap (λ (u : Bool). ltb (length xs) (length ys) || (eqb (length xs) (length ys) && u)) (codes_same k xs ys g h (eqb→eq (length xs) (length ys) t) a b c d i) ∙ sym lengths
      go (inr t) =
          let e = is_false (eqb (length xs) (length ys)) (λ u. clash (eqb (length xs) (length ys)) u t) in
          ap (λ (u : Bool). ltb (length xs) (length ys) || (u && less (xs ++ a) (ys ++ b))) e
          ∙ sym (ap (λ (u : Bool). ltb (length xs) (length ys) || (u && less cs ds)) e) ∙ sym lengths

  -- two packings kind by kind
  pub keys_same : (f g : ℕ → List ℕ) (ks : List ℕ) → ((k : ℕ) → Memᴰ k ks → RowsOfKind k (f k)) → ((k : ℕ) → Memᴰ k ks → RowsOfKind k (g k))
      → less (each ks (λ k. counted (f k))) (each ks (λ k. counted (g k))) ≡ less (each ks (λ k. coded (map (row_of s) (f k)))) (each ks (λ k. coded (map (row_of s) (g k))))
  keys_same f g [] h i = refl
  keys_same f g (k ∷ ks) h i =
      blocks_same k (f k) (g k) (h k (Memᴰ.head refl)) (i k (Memᴰ.head refl)) (each ks (λ k. counted (f k))) (each ks (λ k. counted (g k)))
      (each ks (λ k. coded (map (row_of s) (f k)))) (each ks (λ k. coded (map (row_of s) (g k)))) (keys_same f g ks (λ z m. h z (Memᴰ.tail m)) (λ z m. i z (Memᴰ.tail m)))
