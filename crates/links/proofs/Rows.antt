-- The loops of `hide_row` and `show_row`: after each turn the links are `hide_to` of what they were. Assumes nothing.
use Prim.Native.Nat.{ℕ, zero, suc, ◌+◌, ◌-◌, ◌≤◌, ◌<◌}
use native.Mathlib.Omega.{arith}
use mathlib.Core.Path.{◌≡◌, refl, sym, ap, ◌∙◌, subst}
use mathlib.Core.List.{List}
use mathlib.Core.Bool.{true, cond}
use lib.ListN.{length, length-set}
use lib.Dec.{eqb}
use Rattle.lists.proofs.TestLaws.{at_cond}
use Rattle.links.specs.Links.{first_of, end_of, unlink, relink, Matrix, Fields}
use Rattle.links.specs.Cover.{dec, inc, hide1, show1, hide_to, hide, here, Reduced, Holds, hide_one, show_one, One, Back}
use Rattle.links.proofs.Tally.{tally_le}
use Rattle.links.proofs.Rings.{up_size, down_size}
use Rattle.links.proofs.Hide.{part, show_back, count_pos, one_in_row, hide1_own, dec_length}

hide1_length : (t : Matrix) (x : ℕ) (m : List ℕ) (y : ℕ) → length (hide1 t x m y) ≡ length m
unfolding hide1 unlink
hide1_length t x m y = dec_length (cond (eqb y x) m (unlink m y)) (t.col y) ∙ at_cond (λ (l : List ℕ). length l ≡ length m) y x m (unlink m y) (λ e. refl) (λ e. simp length-set)

pub hide_to_length : (t : Matrix) (x : ℕ) (m : List ℕ) (n : ℕ) → length (hide_to t x m n) ≡ length m
unfolding hide_to
hide_to_length t x m zero = refl
hide_to_length t x m (suc n) = hide1_length t x (hide_to t x m n) (t.lo x + n) ∙ hide_to_length t x m n

-- what is hidden of the row of x is what stands before y
pub record Rowed (w : Reduced) (m₀ : List ℕ) (x : ℕ) (m : List ℕ) (y : ℕ) : Type 0 where
  pub low : w.t.lo x ≤ y
  pub high : y ≤ w.t.hi x
  pub so : m ≡ hide_to w.t x m₀ (y - w.t.lo x)

module _ (w : Reduced) {m₀ : List ℕ} (s : Holds w m₀) {x : ℕ} (lx : w.alive x ≡ true) where
  row_low : (w.t.cols ≤ w.t.lo x) × (w.t.lo x ≤ x)
  row_low = w.law.low x (s.node x lx).0 (s.node x lx).1

  row_high : (x < w.t.hi x) × (w.t.hi x ≤ w.t.nodes)
  row_high = w.law.high x (s.node x lx).0 (s.node x lx).1

  -- at the n-th node, which is not hidden yet
  at_node : (n : ℕ) → w.t.lo x + n < w.t.hi x → One (hide_to w.t x m₀ n) (w.t.lo x + n)
  at_node n h =
      let nx = s.node x lx in
      let y : ℕ = w.t.lo x + n in
      let p = part w.law s x lx n (omega arith) in
      let ny : w.t.cols ≤ y = omega (arith, row_low) in
      let ly : y < w.t.nodes = omega (arith, row_high) in
      let ay = p.left y (omega arith) h in
      let c = p.fields.col y ly in
      let kept = p.kept (w.t.col y) (λ i a b e. absurd (omega (arith, one_in_row w.law x y i nx.0 nx.1 (omega arith) h a (omega arith) e))) in
      record {
        linked = record {
          small = omega (arith, w.law.small);
          above = up_size w.law p.fields p.rings y ay ny;
          below = down_size w.law p.fields p.rings y ay ny;
        };
        column = omega (arith, c, w.law.inside y ny ly, w.law.some, w.law.small);
        some = rw c (rw kept (count_pos w.law s x lx y (omega arith) h));
      }

  hide_one_is : (m : List ℕ) (y : ℕ) → y < w.t.nodes → Fields w.t m → hide_one m x y ≡ hide1 w.t x m y
  unfolding hide_one hide1
  hide_one_is m y h f = ap (λ (j : ℕ). dec (cond (eqb y x) m (unlink m y)) j) (f.col y h)

  show_one_is : (m : List ℕ) (y : ℕ) → y < w.t.nodes → Fields w.t m → show_one m x y ≡ show1 w.t x m y
  unfolding show_one show1
  show_one_is m y h f = ap (λ (j : ℕ). cond (eqb y x) (inc m j) (relink (inc m j) y)) (f.col y h)

  hide_to_next : (n : ℕ) → hide_to w.t x m₀ (suc n) ≡ hide1 w.t x (hide_to w.t x m₀ n) (w.t.lo x + n)
  unfolding hide_to
  hide_to_next n = refl

  at_node_next : (n : ℕ) → w.t.lo x + n < w.t.hi x → hide_one (hide_to w.t x m₀ n) x (w.t.lo x + n) ≡ hide_to w.t x m₀ (suc n)
  at_node_next n h =
      hide_one_is (hide_to w.t x m₀ n) (w.t.lo x + n) (omega (arith, row_high)) (part w.law s x lx n (omega arith)).fields
      ∙ sym (hide_to_next n)

  -- at the n-th node, which was hidden last
  at_hidden : (n : ℕ) → w.t.lo x + n < w.t.hi x → Back (hide_to w.t x m₀ (suc n)) (w.t.lo x + n)
  at_hidden n h =
      let nx = s.node x lx in
      let y : ℕ = w.t.lo x + n in
      let p = part w.law s x lx n (omega arith) in
      let p' = part w.law s x lx (suc n) (omega arith) in
      let ny : w.t.cols ≤ y = omega (arith, row_low) in
      let ly : y < w.t.nodes = omega (arith, row_high) in
      let ay = p.left y (omega arith) h in
      let own = hide1_own w.law p.fields p.rings x y ny ly ay in
      let c = p'.fields.col y ly in
      let less = p'.less y (omega arith) (omega arith) in
      let inside = w.law.inside y ny ly in
      record {
        linked = record {
          small = omega (arith, w.law.small);
          above = rw (hide_to_next n, own.0) (up_size w.law p.fields p.rings y ay ny);
          below = rw (hide_to_next n, own.1) (down_size w.law p.fields p.rings y ay ny);
        };
        column = omega (arith, c, w.law.some, w.law.small);
        few = rw c (omega (arith, less, s.count (w.t.col y) inside, tally_le (here w.t w.alive (w.t.col y)) w.t.nodes, w.law.small, count_pos w.law s x lx y (omega arith) h));
      }

  at_hidden_next : (n : ℕ) → w.t.lo x + n < w.t.hi x → show_one (hide_to w.t x m₀ (suc n)) x (w.t.lo x + n) ≡ hide_to w.t x m₀ n
  at_hidden_next n h =
      show_one_is (hide_to w.t x m₀ (suc n)) (w.t.lo x + n) (omega (arith, row_high)) (part w.law s x lx (suc n) (omega arith)).fields
      ∙ show_back w.law s x lx n (omega arith)

  -- ---- the loops

  pub hiding_start : (y : ℕ) → y ≡ first_of m₀ x → Rowed w m₀ x m₀ y
  unfolding hide_to
  hiding_start y e =
      let l : y ≡ w.t.lo x = e ∙ s.fields.lo x (s.node x lx).1 in
      record {
        low = omega arith;
        high = omega (arith, row_low, row_high);
        so = sym (ap (λ (n : ℕ). hide_to w.t x m₀ n) (let z : y - w.t.lo x ≡ 0 = omega arith in z));
      }

  pub row_end : (e : ℕ) → e ≡ end_of m₀ x → e ≡ w.t.hi x
  row_end e q = q ∙ s.fields.hi x (s.node x lx).1

  module _ {m : List ℕ} {y : ℕ} (r : Rowed w m₀ x m y) where
    pub hiding_one : y < w.t.hi x → One m y
    hiding_one h =
        let z : w.t.lo x + (y - w.t.lo x) ≡ y = omega (arith, r.low) in
        rw r.so (subst (λ (k : ℕ). One (hide_to w.t x m₀ (y - w.t.lo x)) k) z (at_node (y - w.t.lo x) (omega arith)))

    pub hiding_next : y < w.t.hi x → (m' : List ℕ) → m' ≡ hide_one m x y → Rowed w m₀ x m' (y + 1)
    hiding_next h m' e =
        let z : w.t.lo x + (y - w.t.lo x) ≡ y = omega (arith, r.low) in
        record {
          low = omega (arith, r.low);
          high = omega arith;
          so = e
              ∙ ap (λ (l : List ℕ). hide_one l x y) r.so
              ∙ ap (λ (k : ℕ). hide_one (hide_to w.t x m₀ (y - w.t.lo x)) x k) (sym z)
              ∙ at_node_next (y - w.t.lo x) (omega arith)
              ∙ ap (λ (k : ℕ). hide_to w.t x m₀ k) (omega (arith, r.low));
        }

    pub hiding_end : w.t.hi x ≤ y → m ≡ hide w.t x m₀
    unfolding hide
    hiding_end h = r.so ∙ ap (λ (k : ℕ). hide_to w.t x m₀ k) (omega (arith, r.high))

    -- the other way, from y down
    module _ (h : w.t.lo x < y) where
      n : ℕ
      n = y - 1 - w.t.lo x

      last_is : m ≡ hide_to w.t x m₀ (suc n)
      unfolding n
      last_is = r.so ∙ ap (λ (k : ℕ). hide_to w.t x m₀ k) (omega arith)

      at_is : w.t.lo x + n ≡ y - 1
      unfolding n
      at_is = omega arith

      pub showing_one : Back m (y - 1)
      showing_one = rw last_is (subst (λ (k : ℕ). Back (hide_to w.t x m₀ (suc n)) k) at_is (at_hidden n (omega (arith, at_is, r.high))))

      pub showing_next : (m' : List ℕ) → m' ≡ show_one m x (y - 1) → Rowed w m₀ x m' (y - 1)
      unfolding n
      showing_next m' e =
          record {
            low = omega arith;
            high = omega (arith, r.high);
            so = e
                ∙ ap (λ (l : List ℕ). show_one l x (y - 1)) last_is
                ∙ ap (λ (k : ℕ). show_one (hide_to w.t x m₀ (suc n)) x k) (sym at_is)
                ∙ at_hidden_next n (omega (arith, at_is, r.high));
          }

    pub showing_end : y ≤ w.t.lo x → m ≡ m₀
    unfolding hide_to
    showing_end h = r.so ∙ ap (λ (k : ℕ). hide_to w.t x m₀ k) (let z : y - w.t.lo x ≡ 0 = omega arith in z)

  pub showing_start : {m : List ℕ} → m ≡ hide w.t x m₀ → (y : ℕ) → y ≡ end_of m x → Rowed w m₀ x m y
  unfolding hide
  showing_start {m} q y e =
      let p = part w.law s x lx (w.t.hi x - w.t.lo x) (omega (arith, row_low, row_high)) in
      let z : y ≡ w.t.hi x = e ∙ ap (λ (l : List ℕ). end_of l x) q ∙ p.fields.hi x (s.node x lx).1 in
      record {
        low = omega (arith, row_low, row_high);
        high = omega arith;
        so = q ∙ ap (λ (k : ℕ). hide_to w.t x m₀ k) (omega arith);
      }

  pub row_first : {m : List ℕ} → m ≡ hide w.t x m₀ → (y : ℕ) → y ≡ first_of m x → y ≡ w.t.lo x
  unfolding hide
  row_first {m} q y e =
      let p = part w.law s x lx (w.t.hi x - w.t.lo x) (omega (arith, row_low, row_high)) in
      e ∙ ap (λ (l : List ℕ). first_of l x) q ∙ p.fields.lo x (s.node x lx).1

pub hide_length : (t : Matrix) (x : ℕ) (m : List ℕ) → length (hide t x m) ≡ length m
unfolding hide
hide_length t x m = hide_to_length t x m (t.hi x - t.lo x)
