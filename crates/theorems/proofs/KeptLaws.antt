-- The list of kept packings, from what the images of packings under allowed maps have to do with sequences of moves. Assumes nothing.
use Prim.Native.Nat.{ℕ}
use mathlib.Core.Bool.{Bool, true, false, cond, not, ◌&&◌}
use mathlib.Core.List.Memᴰ
use mathlib.Core.List.{List, [], ◌∷◌, ◌++◌, Memᴰ, head-eq_of_cons-eq, tail-eq_of_cons-eq}
use mathlib.Core.Path.{◌≡◌, refl, sym, ap, ap₂, ◌∙◌, subst}
use mathlib.Core.Logic.{◌⊎◌, inl, inr, ◌↔◌}
use native.Mathlib.Omega.{arith}
use lib.Dec.{T, eqb, eqb→eq, eqb_refl}
use lib.ListN.{length}
use Rattle.lists.specs.Lists.{keep, each, below, less, is_empty, Apart}
use Rattle.lists.proofs.TestLaws.{and_left, and_right, and_both, clash}
use Rattle.lists.proofs.ListLaws.{all_at, all_of, keep_at, keep_of, apart_keep}
use Rattle.lists.proofs.SortLaws.{less_total, less_trans, less_irrefl, ascending_unique, ascending_apart}
use Rattle.lists.proofs.RangeLaws.{below_of}
use Rattle.definitions.specs.Placements.{Placement, Compiled}
use Rattle.definitions.specs.Packing.{rank, ahead, Packing, is_packing}
use Rattle.theorems.proofs.PackingLaws.{ahead_trans, ahead_irrefl, packing_of, packing_test, packing_placed}
use Rattle.definitions.specs.Kept.{Identify, compared, smaller, images, kept}
use Rattle.definitions.specs.Kept.Identify.{None, Turned, Mirrored}
use Rattle.definitions.specs.Moves.{Move, Carries, in_reach}
use Rattle.definitions.specs.Moves.Quarter.{about_x}
use Rattle.definitions.specs.Moves.Move.{turn}
use Rattle.definitions.specs.Orders.{listed, packings}
use Rattle.definitions.specs.Answers.{answer}
use Rattle.definitions.specs.Refusals.{is_ported}
use Rattle.definitions.specs.declared.SolverKind.{SolverKind}
use Rattle.definitions.specs.declared.SolverKind.TheVariants.{Auto, Naive, Fast, KnuthAlgorithm}
use Rattle.theorems.proofs.SearchLaws.{WellMade}
use Rattle.theorems.proofs.EngineLaws.{Exactly, fast_exact, knuth_exact}
use Rattle.definitions.specs.Demands.{Reached, StandsFor}

-- ---- the comparison of packings tells them apart
-- two lists of blocks, each led by its length, are the same only block by block
codes : List Placement → List ℕ
codes qs = each qs (λ q. q.p ∷ q.j ∷ [])

split_codes : (qs rs : List Placement) (a b : List ℕ) → length qs ≡ length rs → codes qs ++ a ≡ codes rs ++ b → (codes qs ≡ codes rs) × (a ≡ b)
unfolding codes
split_codes [] [] a b l e = (refl, e)
split_codes [] (r ∷ rs) a b l e = absurd (omega arith)
split_codes (q ∷ qs) [] a b l e = absurd (omega arith)
split_codes (q ∷ qs) (r ∷ rs) a b l e =
    let x = split_codes qs rs a b (omega arith) (tail-eq_of_cons-eq (tail-eq_of_cons-eq e)) in
    (ap₂ (λ (n : ℕ) (t : List ℕ). n ∷ t) (head-eq_of_cons-eq e) (ap₂ (λ (n : ℕ) (t : List ℕ). n ∷ t) (head-eq_of_cons-eq (tail-eq_of_cons-eq e)) x.0), x.1)

of_kind : List Placement → ℕ → List Placement
of_kind P k = keep (λ q. eqb q.kind k) P

block : List Placement → ℕ → List ℕ
block P k = length (of_kind P k) ∷ codes (of_kind P k)

same_blocks : (P Q : List Placement) (ks : List ℕ) → each ks (block P) ≡ each ks (block Q) → (k : ℕ) → Memᴰ k ks → codes (of_kind P k) ≡ codes (of_kind Q k)
unfolding block
same_blocks P Q [] e k m = absurd (Memᴰ.not-nil m)
same_blocks P Q (i ∷ ks) e k m = go (Memᴰ.cases_cons m) (λ (f : each ks (block P) ≡ each ks (block Q)) (l : Memᴰ k ks). same_blocks P Q ks f k l)
  where
    x : (codes (of_kind P i) ≡ codes (of_kind Q i)) × (each ks (block P) ≡ each ks (block Q))
    x = split_codes (of_kind P i) (of_kind Q i) (each ks (block P)) (each ks (block Q)) (head-eq_of_cons-eq e) (tail-eq_of_cons-eq e)

    go : (k ≡ i) ⊎ Memᴰ k ks → (each ks (block P) ≡ each ks (block Q) → Memᴰ k ks → codes (of_kind P k) ≡ codes (of_kind Q k)) → codes (of_kind P k) ≡ codes (of_kind Q k)
    go (inl f) r = subst (λ (n : ℕ). codes (of_kind P n) ≡ codes (of_kind Q n)) (sym f) x.0
    go (inr l) r = r x.1 l

-- an entry has its (p, j) in the codes, and equal codes give an entry with the same
code_in : (qs rs : List Placement) → codes qs ≡ codes rs → (q : Placement) → Memᴰ q qs → (r : Placement) × Memᴰ r rs × (q.p ≡ r.p) × (q.j ≡ r.j)
unfolding codes
code_in [] rs e q m = absurd (Memᴰ.not-nil m)
code_in (x ∷ qs) [] e q m = absurd (cons_nil e)
  where
    cons_nil : {a : ℕ} {l : List ℕ} → ◌≡◌ {A = List ℕ} (a ∷ l) [] → ⊥
    cons_nil f = subst (λ (l : List ℕ). T (not (is_empty l))) f tt
code_in (x ∷ qs) (y ∷ rs) e q m = go (Memᴰ.cases_cons m) (λ (l : Memᴰ q qs). code_in qs rs (tail-eq_of_cons-eq (tail-eq_of_cons-eq e)) q l)
  where
    go : (q ≡ x) ⊎ Memᴰ q qs → (Memᴰ q qs → (r : Placement) × Memᴰ r rs × (q.p ≡ r.p) × (q.j ≡ r.j)) → (r : Placement) × Memᴰ r (y ∷ rs) × (q.p ≡ r.p) × (q.j ≡ r.j)
    go (inl f) g = (y, Memᴰ.head refl, ap (λ (z : Placement). z.p) f ∙ head-eq_of_cons-eq e, ap (λ (z : Placement). z.j) f ∙ head-eq_of_cons-eq (tail-eq_of_cons-eq e))
    go (inr l) g = let z = g l in (z.0, Memᴰ.tail z.1, z.2, z.3)

module _ (c : Compiled) (w : WellMade c) where
  -- placements with the same kind, p and j are the same
  pub same_rank : (q r : Placement) → Memᴰ q c.placements → Memᴰ r c.placements → q.kind ≡ r.kind → q.p ≡ r.p → q.j ≡ r.j → q ≡ r
  unfolding ahead rank
  same_rank q r a b k p j = go (ascending_apart ahead ahead_trans ahead_irrefl c.placements w.in_order a b)
    where
      ranks : rank q ≡ rank r
      ranks = ap₂ (λ (n : ℕ) (t : List ℕ). n ∷ t) k (ap₂ (λ (n : ℕ) (t : List ℕ). n ∷ t) p (ap (λ (n : ℕ). n ∷ []) j))

      go : (q ≡ r) ⊎ (T (ahead q r) ⊎ T (ahead r q)) → q ≡ r
      go (inl e) = e
      go (inr (inl t)) = absurd (less_irrefl (rank r) (subst (λ (l : List ℕ). T (less l (rank r))) ranks t))
      go (inr (inr t)) = absurd (less_irrefl (rank r) (subst (λ (l : List ℕ). T (less (rank r) l)) ranks t))

  half : (P Q : List Placement) → Packing c P → Packing c Q → compared c P ≡ compared c Q → (q : Placement) → Memᴰ q P → Memᴰ q Q
  unfolding compared of_kind block codes
  half P Q g h e q m =
      let row = packing_placed c P g q m in
      let k = w.of_kinds q row in
      let f = same_blocks P Q (below (length c.kinds)) e q.kind (below_of (length c.kinds) k) in
      let r = code_in (of_kind P q.kind) (of_kind Q q.kind) f q (keep_of (λ (z : Placement). eqb z.kind q.kind) P m (eqb_refl q.kind)) in
      let s = keep_at (λ (z : Placement). eqb z.kind q.kind) Q r.1 in
      Memᴰ.cast (same_rank q r.0 row (packing_placed c Q h r.0 s.0) (sym (eqb→eq r.0.kind q.kind s.1)) r.2 r.3) s.0

  pub compared_apart : (P Q : List Placement) → Packing c P → Packing c Q → compared c P ≡ compared c Q → P ≡ Q
  compared_apart P Q g h e = ascending_unique ahead ahead_trans ahead_irrefl P Q g.a_set h.a_set (half P Q g h e) (half Q P h g (sym e))

  -- of two packings neither of which is smaller, both are the same
  pub neither_smaller : (P Q : List Placement) → Packing c P → Packing c Q → (T (smaller c P Q) → ⊥) → (T (smaller c Q P) → ⊥) → P ≡ Q
  unfolding smaller
  neither_smaller P Q g h a b = go (less_total (compared c P) (compared c Q))
    where
      go : T (less (compared c P) (compared c Q)) ⊎ ((compared c P ≡ compared c Q) ⊎ T (less (compared c Q) (compared c P))) → P ≡ Q
      go (inl t) = absurd (a t)
      go (inr (inl e)) = compared_apart P Q g h e
      go (inr (inr t)) = absurd (b t)

-- ---- the smallest of some
module _ {A : Type 0} (key : A → List ℕ) where
  least : A → List A → A
  least d [] = d
  least d (x ∷ xs) = least (cond (less (key x) (key d)) x d) xs

  least_in : (d : A) (xs : List A) → Memᴰ (least d xs) (d ∷ xs)
  unfolding least
  least_in d [] = Memᴰ.head refl
  least_in d (x ∷ xs) = go (less (key x) (key d)) (λ (b : Bool). least_in (cond b x d) xs)
    where
      down : (b : Bool) → {z : A} → (z ≡ cond b x d) ⊎ Memᴰ z xs → Memᴰ z (d ∷ x ∷ xs)
      down true (inl e) = Memᴰ.tail (Memᴰ.head e)
      down false (inl e) = Memᴰ.head e
      down b (inr m) = Memᴰ.tail (Memᴰ.tail m)

      go : (b : Bool) → ((b : Bool) → Memᴰ (least (cond b x d) xs) (cond b x d ∷ xs)) → Memᴰ (least (cond b x d) xs) (d ∷ x ∷ xs)
      go b f = down b (Memᴰ.cases_cons (f b))

  -- a key that is not less than another, which is not less than a third, is not less than the third
  not_less : (x y z : List ℕ) → (T (less x y) → ⊥) → (T (less y z) → ⊥) → T (less x z) → ⊥
  not_less x y z a b t = go (less_total y z)
    where
      go : T (less y z) ⊎ ((y ≡ z) ⊎ T (less z y)) → ⊥
      go (inl s) = b s
      go (inr (inl e)) = a (subst (λ (l : List ℕ). T (less x l)) (sym e) t)
      go (inr (inr s)) = a (less_trans x z y t s)

  least_least : (d : A) (xs : List A) (z : A) → Memᴰ z (d ∷ xs) → T (less (key z) (key (least d xs))) → ⊥
  unfolding least
  least_least d [] z m t = go (Memᴰ.cases_cons m)
    where
      go : (z ≡ d) ⊎ Memᴰ z [] → ⊥
      go (inl e) = less_irrefl (key d) (subst (λ (y : A). T (less (key y) (key d))) e t)
      go (inr k) = Memᴰ.not-nil k
  least_least d (x ∷ xs) z m t = go (less (key x) (key d)) (λ y. y) (λ y. y) (λ (b : Bool) (y : A) (k : Memᴰ y (cond b x d ∷ xs)) (s : T (less (key y) (key (least (cond b x d) xs)))). least_least (cond b x d) xs y k s) t
    where
      below_d : (b : Bool) → (T b → T (less (key x) (key d))) → (T (not b) → T (not (less (key x) (key d))))
          → (l : A) → (T (less (key (cond b x d)) (key l)) → ⊥) → ((y : A) → Memᴰ y xs → T (less (key y) (key l)) → ⊥) → T (less (key z) (key l)) → (z ≡ d) ⊎ ((z ≡ x) ⊎ Memᴰ z xs) → ⊥
      below_d b f g l h r s (inr (inr k)) = r z k s
      below_d true f g l h r s (inl e) = h (less_trans (key x) (key d) (key l) (f tt) (subst (λ (y : A). T (less (key y) (key l))) e s))
      below_d true f g l h r s (inr (inl e)) = h (subst (λ (y : A). T (less (key y) (key l))) e s)
      below_d false f g l h r s (inl e) = h (subst (λ (y : A). T (less (key y) (key l))) e s)
      below_d false f g l h r s (inr (inl e)) = not_less (key x) (key d) (key l) (λ y. clash (less (key x) (key d)) y (g tt)) h (subst (λ (y : A). T (less (key y) (key l))) e s)

      three : (z ≡ d) ⊎ Memᴰ z (x ∷ xs) → (z ≡ d) ⊎ ((z ≡ x) ⊎ Memᴰ z xs)
      three (inl e) = inl e
      three (inr k) = inr (Memᴰ.cases_cons k)

      go : (b : Bool) → (T b → T (less (key x) (key d))) → (T (not b) → T (not (less (key x) (key d))))
          → ((b : Bool) (y : A) → Memᴰ y (cond b x d ∷ xs) → T (less (key y) (key (least (cond b x d) xs))) → ⊥) → T (less (key z) (key (least (cond b x d) xs))) → ⊥
      go b f g r s = below_d b f g (least (cond b x d) xs) (λ y. r b (cond b x d) (Memᴰ.head refl) y) (λ y k. r b y (Memᴰ.tail k)) s (three (Memᴰ.cases_cons m))

-- ---- what the geometry brings
-- With turned packings identified, or mirrored ones too: a packing is an image of itself, images can be taken back and one after the other, and they are just
-- what sequences of moves that bring the board back carry a packing onto.
pub record Acts (c : Compiled) (i : Identify) : Type 0 where
  pub self : (P : List Placement) → Packing c P → Memᴰ P (images c i P)
  pub back : (P Q : List Placement) → Packing c P → Packing c Q → Memᴰ Q (images c i P) → Memᴰ P (images c i Q)
  pub next : (P Q R : List Placement) → Packing c P → Packing c Q → Packing c R → Memᴰ Q (images c i P) → Memᴰ R (images c i Q) → Memᴰ R (images c i P)
  pub as_map : (ms : List Move) → T (in_reach i ms) → (P Q : List Placement) → Packing c P → Carries c ms P Q → Memᴰ Q (images c i P)
  pub as_moves : (P Q : List Placement) → Packing c P → Packing c Q → Memᴰ Q (images c i P) → (ms : List Move) × T (in_reach i ms) × Carries c ms P Q

-- ---- Demand 3's core, over any list that holds exactly the packings
module _ (c : Compiled) (w : WellMade c) (i : Identify) (a : Acts c i) (X : List (List Placement)) (x : Exactly c w X) where
  abbrev L : List (List Placement)
  L = keep (kept c i) X

  listed_at : (P : List Placement) → Memᴰ P L → Packing c P × T (kept c i P)
  listed_at P m = let r = keep_at (kept c i) X m in (x.only P r.0, r.1)

  listed_of : (P : List Placement) → Packing c P → T (kept c i P) → Memᴰ P L
  listed_of P g t = keep_of (kept c i) X (x.every P g) t

  kept_at : (P : List Placement) → T (kept c i P) → (Q : List Placement) → Memᴰ Q (images c i P) → Packing c Q → T (smaller c Q P) → ⊥
  unfolding kept
  kept_at P t Q m g s =
      clash (is_packing c Q && smaller c Q P) (and_both (is_packing c Q) (smaller c Q P) (packing_test c Q g) s) (all_at (λ (R : List Placement). not (is_packing c R && smaller c R P)) (images c i P) t m)

  kept_of : (P : List Placement) → ((Q : List Placement) → Memᴰ Q (images c i P) → Packing c Q → T (smaller c Q P) → ⊥) → T (kept c i P)
  unfolding kept
  kept_of P f = all_of (λ (R : List Placement). not (is_packing c R && smaller c R P)) (images c i P) (λ R m. no_of (is_packing c R && smaller c R P) (λ t. f R m (packing_of c R (and_left (is_packing c R) (smaller c R P) t)) (and_right (is_packing c R) (smaller c R P) t)))
    where
      no_of : (b : Bool) → (T b → ⊥) → T (not b)
      no_of true g = g tt
      no_of false g = tt

  -- two listed packings of which one is an image of the other are the same
  alike : (P Q : List Placement) → Memᴰ P L → Memᴰ Q L → Memᴰ Q (images c i P) → P ≡ Q
  alike P Q m k h =
      let p = listed_at P m in
      let q = listed_at Q k in
      neither_smaller c w P Q p.0 q.0 (kept_at Q q.1 P (a.back P Q p.0 q.0 h) p.0) (kept_at P p.1 Q h q.0)

  pub no-two-alike : (ms : List Move) → T (in_reach i ms) → (P Q : List Placement) → Memᴰ P L → Memᴰ Q L → Carries c ms P Q → P ≡ Q
  no-two-alike ms t P Q m k r = alike P Q m k (a.as_map ms t P Q (listed_at P m).0 r)

  -- the listed packing that stands for P
  pub stands_for : List Placement → List Placement
  stands_for P = least (compared c) P (keep (is_packing c) (images c i P))

  module _ (P : List Placement) (g : Packing c P) where
    among : Memᴰ (stands_for P) (images c i P) × Packing c (stands_for P)
    unfolding stands_for
    among = go (Memᴰ.cases_cons (least_in (compared c) P (keep (is_packing c) (images c i P))))
      where
        Q : List Placement
        Q = least (compared c) P (keep (is_packing c) (images c i P))

        go : (Q ≡ P) ⊎ Memᴰ Q (keep (is_packing c) (images c i P)) → Memᴰ Q (images c i P) × Packing c Q
        go (inl e) = (Memᴰ.cast e (a.self P g), subst (λ (R : List Placement). Packing c R) (sym e) g)
        go (inr m) = let r = keep_at (is_packing c) (images c i P) m in (r.0, packing_of c Q r.1)

    stands_kept : T (kept c i (stands_for P))
    unfolding stands_for smaller
    stands_kept =
        kept_of (stands_for P) (λ R m h s. least_least (compared c) P (keep (is_packing c) (images c i P)) R
        (Memᴰ.tail (keep_of (is_packing c) (images c i P) (a.next P (stands_for P) R g among.1 h among.0 m) (packing_test c R h))) s)

    pub stands_listed : Memᴰ (stands_for P) L
    stands_listed = listed_of (stands_for P) among.1 stands_kept

    pub stands_reached : Reached c i P (stands_for P)
    stands_reached = let r = a.as_moves P (stands_for P) g among.1 among.0 in record { moves = r.0; in_reach = r.1; carried = r.2 }

    pub stands_only : (Q : List Placement) → Memᴰ Q L → Reached c i P Q → Q ≡ stands_for P
    stands_only Q m r =
        let h = a.as_map r.moves r.in_reach P Q g r.carried in
        let q = (listed_at Q m).0 in
        sym (alike (stands_for P) Q stands_listed m (a.next (stands_for P) P Q among.1 g q (a.back P (stands_for P) g among.1 among.0) h))

-- ---- the list
-- what is left to show of a tray's geometry
pub record Geometry (c : Compiled) : Type 0 where
  pub onto_itself : (P : List Placement) → Packing c P → Carries c [] P P
  pub only_itself : (P Q : List Placement) → Packing c P → Carries c [] P Q → P ≡ Q
  pub turned : Acts c Turned
  pub mirrored : Acts c Mirrored
  pub answers_differ : (P Q : List Placement) → Packing c P → Packing c Q → answer c P ≡ answer c Q → P ≡ Q

-- what holds of the list of an identification's kept packings
pub record ListFacts (c : Compiled) (i : Identify) (L : List (List Placement)) : Type 0 where
  pub packings : (P : List Placement) → Memᴰ P L → Packing c P
  pub apart : Apart L
  pub exactly : (P : List Placement) → Memᴰ P L ↔ (Packing c P × T (kept c i P))
  pub no_two_alike : (ms : List Move) → T (in_reach i ms) → (P Q : List Placement) → Memᴰ P L → Memᴰ Q L → Carries c ms P Q → P ≡ Q
  pub exactly_one : (P : List Placement) → Packing c P → StandsFor c i L P
  pub with_neither : i ≡ None → (P : List Placement) → Packing c P → Memᴰ P L
  pub empty_iff_none : (L ≡ []) ↔ ((P : List Placement) → Packing c P → ⊥)

module _ (C : Compiled) (w : WellMade C) (geo : Geometry C) where
  empty_of : {A : Type 0} (xs : List A) → ((z : A) → Memᴰ z xs → ⊥) → xs ≡ []
  empty_of [] f = refl
  empty_of (x ∷ xs) f = absurd (f x (Memᴰ.head refl))

  not_empty : {A : Type 0} (xs : List A) → xs ≡ [] → {z : A} → Memᴰ z xs → ⊥
  not_empty xs e {z} m = Memᴰ.not-nil (subst (λ (ys : List _). Memᴰ z ys) e m)

  module _ (i : Identify) (X : List (List Placement)) (x : Exactly C w X) where
    kept_packings : (P : List Placement) → Memᴰ P (keep (kept C i) X) → Packing C P
    kept_packings P m = x.only P (keep_at (kept C i) X m).0

    kept_exactly : (P : List Placement) → Memᴰ P (keep (kept C i) X) ↔ (Packing C P × T (kept C i P))
    kept_exactly P = (λ m. (kept_packings P m, (keep_at (kept C i) X m).1), λ h. keep_of (kept C i) X (x.every P h.0) h.1)

    with_acts : Acts C i → (i ≡ None → ⊥) → ListFacts C i (keep (kept C i) X)
    with_acts a d =
        record {
          packings = kept_packings;
          apart = apart_keep (kept C i) X x.apart;
          exactly = kept_exactly;
          no_two_alike = no-two-alike C w i a X x;
          exactly_one = λ P g. record { packing = stands_for C w i a X x P; is_listed = stands_listed C w i a X x P g; is_reached = stands_reached C w i a X x P g; is_only = stands_only C w i a X x P g };
          with_neither = λ e. absurd (d e);
          empty_iff_none = (
            λ e P g. not_empty (keep (kept C i) X) e (stands_listed C w i a X x P g),
            λ f. empty_of (keep (kept C i) X) (λ P m. f P (kept_packings P m)),
          );
        }

  module _ (X : List (List Placement)) (x : Exactly C w X) where
    all_kept : (P : List Placement) → Packing C P → Memᴰ P (keep (kept C None) X)
    unfolding kept images
    all_kept P g = keep_of (kept C None) X (x.every P g) tt

    carried_same : (ms : List Move) → T (in_reach None ms) → (P Q : List Placement) → Packing C P → Carries C ms P Q → P ≡ Q
    unfolding in_reach
    carried_same [] t P Q g r = geo.only_itself P Q g r
    carried_same (m ∷ ms) t P Q g r = absurd t

    start_again : (P : List Placement) → Packing C P → Reached C None P P
    unfolding in_reach
    start_again P g = record { moves = []; in_reach = tt; carried = geo.onto_itself P g }

    with-neither : ListFacts C None (keep (kept C None) X)
    with-neither =
        record {
          packings = kept_packings None X x;
          apart = apart_keep (kept C None) X x.apart;
          exactly = kept_exactly None X x;
          no_two_alike = λ ms t P Q m k r. carried_same ms t P Q (kept_packings None X x P m) r;
          exactly_one = λ P g. record { packing = P; is_listed = all_kept P g; is_reached = start_again P g; is_only = λ Q m r. sym (carried_same r.moves r.in_reach P Q g r.carried) };
          with_neither = λ e P g. all_kept P g;
          empty_iff_none = (
            λ e P g. not_empty (keep (kept C None) X) e (all_kept P g),
            λ f. empty_of (keep (kept C None) X) (λ P m. f P (kept_packings None X x P m)),
          );
        }

  by_identify : (i : Identify) (X : List (List Placement)) → Exactly C w X → ListFacts C i (keep (kept C i) X)
  unfolding in_reach
  by_identify None X x = with-neither X x
  by_identify Turned X x = with_acts Turned X x geo.turned (λ e. subst (λ (i : Identify). T (in_reach i (turn about_x ∷ []))) e tt)
  by_identify Mirrored X x = with_acts Mirrored X x geo.mirrored (λ e. subst (λ (i : Identify). T (in_reach i (turn about_x ∷ []))) e tt)

  exactly_of : (i : Identify) (e : SolverKind) → T (is_ported e) → Exactly C w (packings C i e)
  unfolding packings is_ported
  exactly_of i Auto t = absurd t
  exactly_of i Naive t = absurd t
  exactly_of i Fast t = fast_exact C w i
  exactly_of i KnuthAlgorithm t = knuth_exact C w

  pub list_facts : (i : Identify) (e : SolverKind) → T (is_ported e) → ListFacts C i (listed C i e)
  unfolding listed
  list_facts i e t = by_identify i (packings C i e) (exactly_of i e t)
