-- The lists of v bits with k ones are all in `bit_lists v k`, which has no others and ascends. Assumes nothing.
use Prim.Native.Nat.{ℕ, zero, suc, ◌+◌, ◌<◌}
use mathlib.Core.List.Memᴰ
use mathlib.Core.List.{List, [], ◌∷◌, ◌++◌, map, Memᴰ}
use mathlib.Core.Path.{◌≡◌, refl, sym, ap, ap₂, ◌∙◌, subst}
use mathlib.Core.Logic.{⊎_elim}
use native.Mathlib.Omega.{arith}
use lib.Dec.{T, leb, leb→le}
use lib.ListN.{length}
use Rattle.lists.specs.Lists.{all, ascending, less, sum}
use Rattle.lists.proofs.TestLaws.{and_left, and_right, and_both}
use Rattle.lists.proofs.SortLaws.{map_ascending, append_ascending, less_after}
use Rattle.definitions.specs.Catalogue.{bit_lists}

pub record OfBits (v k : ℕ) (bits : List ℕ) : Type 0 where
  pub long : length bits ≡ v
  pub ones : sum bits ≡ k
  pub are_bits : T (all (λ n. leb n 1) bits)

-- a bit b in front, where what comes next is one of some such lists
with_bit : (b : ℕ) → T (leb b 1) → (v k n : ℕ) → b + k ≡ n → (rest : List (List ℕ)) → ((bits : List ℕ) → Memᴰ bits rest → OfBits v k bits)
    → (bits : List ℕ) → Memᴰ bits (map (λ l. b ∷ l) rest) → OfBits (suc v) n bits
with_bit b t v k n e rest f bits m =
    let r = Memᴰ.of_map (λ (l : List ℕ). b ∷ l) rest m in
    let o = f r.0 r.1 in
    subst (OfBits (suc v) n) r.2 (record { long = ap suc o.long; ones = ap (λ (i : ℕ). b + i) o.ones ∙ e; are_bits = and_both (leb b 1) (all (λ i. leb i 1) r.0) t o.are_bits })

pub bit_list_at : (v k : ℕ) (bits : List ℕ) → Memᴰ bits (bit_lists v k) → OfBits v k bits
bit_list_at zero zero bits m = subst (OfBits 0 0) (sym (Memᴰ.eq_of_singleton m)) (record { long = refl; ones = refl; are_bits = tt })
bit_list_at zero (suc k) bits m = absurd (Memᴰ.not-nil m)
bit_list_at (suc v) zero bits m = with_bit 0 tt v 0 0 refl (bit_lists v 0) (bit_list_at v 0) bits m
bit_list_at (suc v) (suc k) bits m =
    ⊎_elim (λ l. with_bit 0 tt v (suc k) (suc k) (omega arith) (bit_lists v (suc k)) (bit_list_at v (suc k)) bits l)
    (λ l. with_bit 1 tt v k (suc k) (omega arith) (bit_lists v k) (bit_list_at v k) bits l)
    (Memᴰ.append_cases (map (λ l. 0 ∷ l) (bit_lists v (suc k))) m)

-- a 0, or a 1, in front
zero_in : (v k : ℕ) (bits : List ℕ) → Memᴰ bits (bit_lists v k) → Memᴰ (0 ∷ bits) (bit_lists (suc v) k)
zero_in v zero bits m = Memᴰ.map (λ (l : List ℕ). 0 ∷ l) m
zero_in v (suc k) bits m = Memᴰ.append_left (map (λ l. 1 ∷ l) (bit_lists v k)) (Memᴰ.map (λ (l : List ℕ). 0 ∷ l) m)

one_in : (v k : ℕ) (bits : List ℕ) → Memᴰ bits (bit_lists v k) → Memᴰ (1 ∷ bits) (bit_lists (suc v) (suc k))
one_in v k bits m = Memᴰ.append_right (map (λ l. 0 ∷ l) (bit_lists v (suc k))) (Memᴰ.map (λ (l : List ℕ). 1 ∷ l) m)

pub bit_list_of : (bits : List ℕ) → T (all (λ n. leb n 1) bits) → Memᴰ bits (bit_lists (length bits) (sum bits))
bit_list_of [] t = Memᴰ.head refl
bit_list_of (b ∷ bits) t = go b (and_left (leb b 1) (all (λ n. leb n 1) bits) t) (bit_list_of bits (and_right (leb b 1) (all (λ n. leb n 1) bits) t))
  where
    go : (b : ℕ) → T (leb b 1) → Memᴰ bits (bit_lists (length bits) (sum bits)) → Memᴰ (b ∷ bits) (bit_lists (suc (length bits)) (b + sum bits))
    go zero t m =
        let e : sum bits ≡ 0 + sum bits = omega arith in
        subst (λ (k : ℕ). Memᴰ (0 ∷ bits) (bit_lists (suc (length bits)) k)) e (zero_in (length bits) (sum bits) bits m)
    go (suc zero) t m =
        let e : suc (sum bits) ≡ 1 + sum bits = omega arith in
        subst (λ (k : ℕ). Memᴰ (1 ∷ bits) (bit_lists (suc (length bits)) k)) e (one_in (length bits) (sum bits) bits m)
    go (suc (suc b)) t m = absurd (let h = leb→le (suc (suc b)) 1 t in omega arith)

-- ---- in order
with_ascending : (b : ℕ) (xs : List (List ℕ)) → T (ascending less xs) → T (ascending less (map (λ l. b ∷ l) xs))
with_ascending b xs t = map_ascending less less (λ l. b ∷ l) xs t (λ x y m k a. less_after (b ∷ []) x y a)

pub bit_lists_ascend : (v k : ℕ) → T (ascending less (bit_lists v k))
bit_lists_ascend zero zero = tt
bit_lists_ascend zero (suc k) = tt
bit_lists_ascend (suc v) zero = with_ascending 0 (bit_lists v 0) (bit_lists_ascend v 0)
bit_lists_ascend (suc v) (suc k) =
    append_ascending less (map (λ l. 0 ∷ l) (bit_lists v (suc k))) (map (λ l. 1 ∷ l) (bit_lists v k))
    (with_ascending 0 (bit_lists v (suc k)) (bit_lists_ascend v (suc k))) (with_ascending 1 (bit_lists v k) (bit_lists_ascend v k))
    (λ x y m l.
    let r = Memᴰ.of_map (λ (l : List ℕ). 0 ∷ l) (bit_lists v (suc k)) m in
    let s = Memᴰ.of_map (λ (l : List ℕ). 1 ∷ l) (bit_lists v k) l in
    subst (λ (z : List ℕ). T (less z y)) r.2 (subst (λ (z : List ℕ). T (less (0 ∷ r.0) z)) s.2 tt))

-- ---- none where there are more ones than bits
pub bit_lists_none : (v k : ℕ) → v < k → bit_lists v k ≡ []
bit_lists_none zero zero h = absurd (omega arith)
bit_lists_none zero (suc k) h = refl
bit_lists_none (suc v) zero h = absurd (omega arith)
bit_lists_none (suc v) (suc k) h =
    ap₂ (λ (a b : List (List ℕ)). map (λ bits. 0 ∷ bits) a ++ map (λ bits. 1 ∷ bits) b) (bit_lists_none v (suc k) (omega arith)) (bit_lists_none v k (omega arith))
