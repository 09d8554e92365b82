-- The heads, then the nodes: once all are linked every row is possible and every column uncovered. Assumes nothing.
use Prim.Native.Nat.{ℕ, zero, suc}
use native.Mathlib.Omega.{arith}
use mathlib.Core.Path.{◌≡◌, refl, sym, ◌∙◌}
use mathlib.Core.List.{List}
use lib.ListN.{get_or}
use Rattle.links.specs.Links.{copies_of, at_copies, Still, Matrix, LawfulMatrix, Fields}
use Rattle.links.specs.Cover.{tally, Holds}
use Rattle.links.specs.Search.{Shape, Seek}
use Rattle.links.specs.Build.{whole, every_column, Headed, Partial, Linkable, Stocked}
use Rattle.links.proofs.Places.{still_copies}
use Rattle.links.proofs.Build.{headed_all, partial_all, in_every, every_node}

tally_all : (n : ℕ) → tally every_column n ≡ n
unfolding tally every_column
tally_all zero = refl
tally_all (suc n) = omega (arith, tally_all n)

module _ {m₀ : List ℕ} {primary cols nodes : ℕ} (t : Matrix) (law : LawfulMatrix t) (f : Fields t m₀) (shape : Shape t primary) (stock : Stocked t m₀) (ec : cols ≡ t.cols) (en : nodes ≡ t.nodes)
    (m₁ : List ℕ) (g₁ : (t : Matrix) → LawfulMatrix t → Fields t m₀ → cols ≡ t.cols → Headed t cols m₁) (b₁ : (i : ℕ) → Still i → get_or m₁ i 0 ≡ get_or m₀ i 0) where
  heads : Partial t cols m₁
  heads = rw ec (headed_all law (rw ec at (g₁ t law f ec)))

  pub whole_linkable : Linkable m₁ cols nodes
  whole_linkable = record { t = t; law = law; part = heads; c_is = ec; n_is = en }

  module _ (m₂ : List ℕ) (g₂ : (t : Matrix) → LawfulMatrix t → Partial t cols m₁ → cols ≡ t.cols → nodes ≡ t.nodes → Partial t nodes m₂) (b₂ : (i : ℕ) → Still i → get_or m₂ i 0 ≡ get_or m₁ i 0) where
    holds : Holds (whole t law) m₂
    holds = partial_all law (rw en at (g₂ t law heads ec en))

    pub whole_seek : Seek (whole t law) every_column (copies_of m₀) primary primary m₂
    unfolding every_column
    whole_seek =
        record {
          holds = holds;
          shape = shape;
          clean = λ x h k a q n. in_every t k n (holds.rings.bound k a);
          meets = λ x h. refl;
          rest = sym (tally_all primary);
          held = λ j l. b₂ (at_copies j) (still_copies j) ∙ b₁ (at_copies j) (still_copies j);
          few = stock.few;
          stock = λ x h. let n = every_node t x h in stock.some x n.0 n.1;
        }
