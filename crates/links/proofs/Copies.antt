-- A copy of a kind, taken and given back, changes one number that is no link and no count, so rings and counts stay as they are. Assumes nothing.
use Prim.Native.Nat.{ℕ, ◌-◌, ◌≤◌, ◌<◌}
use native.Mathlib.Omega.{arith}
use mathlib.Core.Path.{◌≡◌, refl, ap, ◌∙◌}
use mathlib.Core.List.{List}
use lib.ListN.{length, get_or, set, length-set}
use lib.Seq.{get_or-set_same, get_or-set_other, set-set, set-get_or}
use Rattle.links.specs.Links.{copies_of, at_up, at_down, at_column, at_first, at_end, at_size, at_copies, at_row}
use Rattle.links.specs.Cover.{Reduced, Holds}
use Rattle.links.specs.Search.{spent, regained}
use Rattle.links.proofs.Rings.{rings_agree}

pub spent_length : (m : List ℕ) (j : ℕ) → length (spent m j) ≡ length m
unfolding spent
spent_length m j = length-set m (at_copies j) (copies_of m j - 1)

pub spent_other : (m : List ℕ) (j i : ℕ) → (i ≡ at_copies j → ⊥) → get_or (spent m j) i 0 ≡ get_or m i 0
unfolding spent
spent_other m j i h = get_or-set_other m (at_copies j) i (copies_of m j - 1) 0 h

pub spent_same : (m : List ℕ) (j : ℕ) → at_copies j < length m → copies_of (spent m j) j ≡ copies_of m j - 1
unfolding spent
spent_same m j h = get_or-set_same m (at_copies j) (copies_of m j - 1) 0 h

set_spent : (m : List ℕ) (j : ℕ) → set (spent m j) (at_copies j) (copies_of m j) ≡ m
unfolding spent
set_spent m j = set-set m (at_copies j) (copies_of m j - 1) (copies_of m j) ∙ set-get_or m (at_copies j) 0

pub regained_spent : (m : List ℕ) (j : ℕ) → at_copies j < length m → 1 ≤ copies_of m j → regained (spent m j) j ≡ m
unfolding regained
regained_spent m j h l = ap (λ (n : ℕ). set (spent m j) (at_copies j) n) (omega (arith, spent_same m j h)) ∙ set_spent m j

pub spent_holds : (w : Reduced) {m : List ℕ} (s : Holds w m) (j : ℕ) → j < 4096 → Holds w (spent m j)
spent_holds w {m} s j l =
    let law = w.law in
    record {
      fields = record {
        long = rw spent_length s.fields.long;
        col = λ y h. spent_other m j (at_column y) (omega arith) ∙ s.fields.col y h;
        lo = λ y h. spent_other m j (at_first y) (omega arith) ∙ s.fields.lo y h;
        hi = λ y h. spent_other m j (at_end y) (omega arith) ∙ s.fields.hi y h;
        row = λ y h. spent_other m j (at_row y) (omega arith) ∙ s.fields.row y h;
      };
      rings = rings_agree (spent m j) s.rings (λ k. refl) (λ k. spent_other m j (at_up k) (omega arith)) (λ k. spent_other m j (at_down k) (omega arith));
      node = s.node;
      whole = s.whole;
      there = s.there;
      count = λ i h. spent_other m j (at_size i) (omega arith) ∙ s.count i h;
    }
