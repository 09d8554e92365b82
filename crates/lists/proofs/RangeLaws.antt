-- Laws of ranges of numbers, what a list made from one has at a place, and tests of each number of a range. Assumes nothing.
use Prim.Native.Nat.{ℕ, zero, suc, ◌+◌, ◌-◌, ◌*◌, ◌≤◌, ◌<◌}
use mathlib.Core.Bool.{Bool, true, false, cond, not}
use mathlib.Core.List.Memᴰ
use mathlib.Core.List.{List, [], ◌∷◌, ◌++◌, map, append-nil, Memᴰ}
use mathlib.Core.Path.{◌≡◌, refl, sym, ap, ap₂, ◌∙◌, subst}
use mathlib.Core.Logic.{◌⊎◌, inl, inr}
use native.Mathlib.Nat.{zero-mul, suc-mul}
use native.Mathlib.Numerals.{add-one}
use native.Mathlib.Decide.{ℕ_discrete}
use native.Mathlib.Omega.{arith}
use lib.Dec.{T, ltb, eqb, eqb→eq, eqb_refl, ltb→lt, lt→ltb}
use lib.ListN.{length, take, get_or, length-append, get_or-append}
use lib.Seq.{get_or-append-add}
use Rattle.lists.specs.Lists.{keep, all, any, before, ascending, each, member, from, below, Apart}
use Rattle.lists.proofs.TestLaws.{and_left, and_right, and_both, ltb_trans, ltb_irrefl, decide, clash, holds, eqb_of}
use Rattle.lists.proofs.ListLaws.{all_at, all_of, any_at, any_of, keep_at, keep_of, keep_append, keep_none, each_append}
use Rattle.lists.proofs.SortLaws.{apart_ascending, ascending_unique, keep_ascending}

-- ---- numbers from i on, and below n
pub from_at : (i n : ℕ) {x : ℕ} → Memᴰ x (from i n) → (i ≤ x) × (x < i + n)
from_at i zero m = absurd (Memᴰ.not-nil m)
from_at i (suc n) {x} m = go (Memᴰ.cases_cons m) (λ (k : Memᴰ x (from (suc i) n)). from_at (suc i) n k)
  where
    go : (x ≡ i) ⊎ Memᴰ x (from (suc i) n) → (Memᴰ x (from (suc i) n) → (suc i ≤ x) × (x < suc i + n)) → (i ≤ x) × (x < i + suc n)
    go (inl e) f = omega arith
    go (inr k) f = let r = f k in omega arith

pub from-of : (i n : ℕ) {x : ℕ} → i ≤ x → x < i + n → Memᴰ x (from i n)
from-of i zero h k = absurd (omega arith)
from-of i (suc n) {x} h k = go (decide (eqb x i)) (λ (a : suc i ≤ x) (b : x < suc i + n). from-of (suc i) n a b)
  where
    go : T (eqb x i) ⊎ T (not (eqb x i)) → (suc i ≤ x → x < suc i + n → Memᴰ x (from (suc i) n)) → Memᴰ x (i ∷ from (suc i) n)
    go (inl e) f = Memᴰ.head (eqb→eq x i e)
    go (inr e) f = let d : x ≡ i → ⊥ = λ q. clash (eqb x i) (eqb_of q) e in Memᴰ.tail (f (omega arith) (omega arith))

pub below_at : (n : ℕ) {x : ℕ} → Memᴰ x (below n) → x < n
below_at n m = let r = from_at 0 n m in omega arith

pub below_of : (n : ℕ) {x : ℕ} → x < n → Memᴰ x (below n)
below_of n h = from-of 0 n (omega arith) (omega arith)

pub from_ascending : (i n : ℕ) → T (ascending ltb (from i n))
from_ascending i zero = tt
from_ascending i (suc n) =
    and_both (all (ltb i) (from (suc i) n)) (ascending ltb (from (suc i) n)) (all_of (ltb i) (from (suc i) n) (λ x m. lt→ltb i x (from_at (suc i) n m).0)) (from_ascending (suc i) n)

pub length_from : (i n : ℕ) → length (from i n) ≡ n
length_from i zero = refl
length_from i (suc n) = ap suc (length_from (suc i) n)

pub length_below : (n : ℕ) → length (below n) ≡ n
length_below n = length_from 0 n

pub apart_below : (n : ℕ) → Apart (below n)
apart_below n = apart_ascending ltb (λ x t. let h = ltb→lt x x t in omega arith) (below n) (from_ascending 0 n)

pub from_append : (i n m : ℕ) → from i n ++ from (i + n) m ≡ from i (n + m)
from_append i zero m = let e : i + zero ≡ i = omega arith in let f : m ≡ zero + m = omega arith in ap (λ (k : ℕ). from k m) e ∙ ap (from i) f
from_append i (suc n) m =
    let e : i + suc n ≡ suc i + n = omega arith in
    let f : suc (n + m) ≡ suc n + m = omega arith in
    ap (λ (l : List ℕ). i ∷ l) (ap (λ (k : ℕ). from (suc i) n ++ from k m) e ∙ from_append (suc i) n m) ∙ ap (from i) f

pub from_shift : (t i n : ℕ) → map (λ k. t + k) (from i n) ≡ from (t + i) n
from_shift t i zero = refl
from_shift t i (suc n) = let e : t + suc i ≡ suc (t + i) = omega arith in ap (λ (l : List ℕ). (t + i) ∷ l) (from_shift t (suc i) n ∙ ap (λ (k : ℕ). from k n) e)

pub from_next : (k n : ℕ) → k < n → from k (n - k) ≡ k ∷ from (k + 1) (n - (k + 1))
from_next k n h = let e : n - k ≡ suc (n - suc k) = omega arith in rw (e, add-one k)

pub from-end : (k n : ℕ) → n ≤ k → from k (n - k) ≡ []
from-end k n h = let e : n - k ≡ 0 = omega arith in rw e

pub from_start : (n : ℕ) → from 0 (n - 0) ≡ below n
from_start n = let a : n - 0 ≡ n = omega arith in ap (from 0) a

-- the numbers below n and those from n on
pub below_split : (n m : ℕ) → n ≤ m → below m ≡ below n ++ from n (m - n)
below_split n m h =
    let a : 0 + n ≡ n = omega arith in
    let b : n + (m - n) ≡ m = omega arith in
    sym (ap (λ (k : ℕ). below n ++ from k (m - n)) (sym a) ∙ from_append 0 n (m - n) ∙ ap below b)

pub below_next : (n : ℕ) → below (n + 1) ≡ below n ++ (n ∷ [])
below_next n = let a : n + 1 - n ≡ 1 = omega arith in below_split n (n + 1) (omega arith) ∙ ap (λ (k : ℕ). below n ++ from n k) a

pub take_from : (i v n : ℕ) → v ≤ n → take v (from i n) ≡ from i v
take_from i zero n h = refl
take_from i (suc v) zero h = absurd (omega arith)
take_from i (suc v) (suc n) h = ap (λ (l : List ℕ). i ∷ l) (take_from (suc i) v n (omega arith))

pub member_at : (n : ℕ) (xs : List ℕ) → T (member n xs) → Memᴰ n xs
member_at n xs t = let r = any_at (eqb n) xs t in Memᴰ.cast (eqb→eq n r.0 r.2) r.1

pub member_of : {n : ℕ} (xs : List ℕ) → Memᴰ n xs → T (member n xs)
member_of {n} xs m = any_of (eqb n) xs m (eqb_refl n)

-- ---- what stands at a place of a range, and of a list made from one
pub get_or_number : (i n k d : ℕ) → k < n → get_or (from i n) k d ≡ i + k
get_or_number i zero k d h = absurd (omega arith)
get_or_number i (suc n) zero d h = omega arith
get_or_number i (suc n) (suc k) d h = let e = get_or_number (suc i) n k d (omega arith) in omega arith

pub number_at : (n k : ℕ) → k < n → get_or (below n) k 0 ≡ k
number_at n k h = let e = get_or_number 0 n k 0 h in omega arith

pub get_or_of : {A : Type 0} (f : ℕ → A) (d : A) (i n z : ℕ) → z < n → get_or (map f (from i n)) z d ≡ f (i + z)
get_or_of f d i zero z h = absurd (omega arith)
get_or_of f d i (suc n) zero h = let e : i ≡ i + 0 = omega arith in ap f e
get_or_of f d i (suc n) (suc z) h = let e : suc i + z ≡ i + suc z = omega arith in get_or_of f d (suc i) n z (omega arith) ∙ ap f e

pub get_or_below : {A : Type 0} (f : ℕ → A) (d : A) (n k : ℕ) → k < n → get_or (map f (below n)) k d ≡ f k
get_or_below f d n k h = let z : 0 + k ≡ k = omega arith in get_or_of f d 0 n k h ∙ ap f z

module _ {A : Type 0} (f : ℕ → A) where
  -- a list is what its entries are, number by number
  pub map_from : (i : ℕ) (d : A) (xs : List A) → ((k : ℕ) → k < length xs → f (i + k) ≡ get_or xs k d) → map f (from i (length xs)) ≡ xs
  map_from i d [] h = refl
  map_from i d (x ∷ xs) h =
      ap (λ (y : A). y ∷ map f (from (suc i) (length xs))) (ap f (omega arith) ∙ h 0 (omega arith))
      ∙ ap (λ (l : List A). x ∷ l) (map_from (suc i) d xs (λ k l. ap f (omega arith) ∙ h (suc k) (omega arith)))

pub map_below : {A : Type 0} (f : ℕ → A) (n : ℕ) (d : A) (xs : List A) → length xs ≡ n → ((k : ℕ) → k < n → f k ≡ get_or xs k d) → map f (below n) ≡ xs
map_below f n d xs e h =
    ap (λ (m : ℕ). map f (below m)) (sym e) ∙ map_from f 0 d xs (λ k l. ap f (omega arith) ∙ h k (omega arith))

pub map_shift : {A : Type 0} (f : ℕ → A) (i n : ℕ) → map f (from (suc i) n) ≡ map (λ j. f (suc j)) (from i n)
map_shift f i zero = refl
map_shift f i (suc n) = ap (λ (l : List _). f (suc i) ∷ l) (map_shift f (suc i) n)

pub map_entries : {A B : Type 0} (f : A → B) (d : A) (xs : List A) → map (λ i. f (get_or xs i d)) (below (length xs)) ≡ map f xs
map_entries f d [] = refl
map_entries f d (x ∷ xs) = ap (λ (l : List _). f x ∷ l) (map_shift (λ i. f (get_or (x ∷ xs) i d)) 0 (length xs) ∙ map_entries f d xs)

pub by_number : {A : Type 0} (d : A) (xs : List A) → map (λ i. get_or xs i d) (below (length xs)) ≡ xs
by_number d xs = map_below (λ i. get_or xs i d) (length xs) d xs refl (λ k h. refl)

-- the first that passes among n numbered entries passes
pub before_holds : {A : Type 0} (t : A → Bool) (f : ℕ → A) (i n : ℕ) → before t (map f (from i n)) < n → T (t (f (i + before t (map f (from i n)))))
before_holds t f i zero h = absurd (omega arith)
before_holds t f i (suc n) h = go (t (f i)) refl h (λ (k : before t (map f (from (suc i) n)) < n). before_holds t f (suc i) n k)
  where
    b : ℕ
    b = before t (map f (from (suc i) n))

    go : (c : Bool) → t (f i) ≡ c → cond c 0 (suc b) < suc n → (b < n → T (t (f (suc i + b)))) → T (t (f (i + cond c 0 (suc b))))
    go true e l r = let k : i ≡ i + 0 = omega arith in subst (λ (j : ℕ). T (t (f j))) k (holds (t (f i)) e)
    go false e l r = let k : suc i + b ≡ i + suc b = omega arith in subst (λ (j : ℕ). T (t (f j))) k (r (omega arith))

pub map_from_mem : {A : Type 0} (f : ℕ → A) (i n k : ℕ) → i ≤ k → k < i + n → Memᴰ (f k) (map f (from i n))
map_from_mem f i zero k a b = absurd (omega arith)
map_from_mem f i (suc n) k a b = go (ℕ_discrete k i) (λ (p : suc i ≤ k) (q : k < suc i + n). map_from_mem f (suc i) n k p q)
  where
    go : Dec (k ≡ i) → (suc i ≤ k → k < suc i + n → Memᴰ (f k) (map f (from (suc i) n))) → Memᴰ (f k) (f i ∷ map f (from (suc i) n))
    go (yes e) g = Memᴰ.head (ap f e)
    go (no e) g = Memᴰ.tail (g (omega arith) (omega arith))

-- a map-from-ahead number has a map-from-ahead entry
pub map_from_ahead : {A : Type 0} (ahead : A → A → Bool) (g : ℕ → A) (i n : ℕ) → T (ascending ahead (map g (from i n))) → (a b : ℕ) → i ≤ a → a < b → b < i + n → T (ahead (g a) (g b))
map_from_ahead ahead g i zero t a b h k l = absurd (omega arith)
map_from_ahead ahead g i (suc n) t a b h k l =
    go (decide (eqb a i)) (λ (u : suc i ≤ a). map_from_ahead ahead g (suc i) n (and_right (all (ahead (g i)) (map g (from (suc i) n))) (ascending ahead (map g (from (suc i) n))) t) a b u k (omega arith))
  where
    go : T (eqb a i) ⊎ T (not (eqb a i)) → (suc i ≤ a → T (ahead (g a) (g b))) → T (ahead (g a) (g b))
    go (inl e) f =
        let q = eqb→eq a i e in
        subst (λ (x : ℕ). T (ahead (g x) (g b))) (sym q)
        (all_at (ahead (g i)) (map g (from (suc i) n)) (and_left (all (ahead (g i)) (map g (from (suc i) n))) (ascending ahead (map g (from (suc i) n))) t)
        (Memᴰ.map g (from-of (suc i) n {x = b} (omega arith) (omega arith))))
    go (inr e) f = let d : a ≡ i → ⊥ = λ q. clash (eqb a i) (eqb_of q) e in f (omega arith)

-- ---- a test of each number from k to below n
module _ (p : ℕ → Bool) (k n : ℕ) where
  pub any_found : k < n → p k ≡ true → any p (from k (n - k)) ≡ true
  any_found h e = rw (from_next k n h, e)

  pub any_next : k < n → p k ≡ false → any p (from k (n - k)) ≡ any p (from (k + 1) (n - (k + 1)))
  any_next h e = rw (from_next k n h, e)

  pub any_none : n ≤ k → any p (from k (n - k)) ≡ false
  any_none h = rw (from-end k n h)

  pub all_failed : k < n → p k ≡ false → all p (from k (n - k)) ≡ false
  all_failed h e = rw (from_next k n h, e)

  pub all_next : k < n → p k ≡ true → all p (from k (n - k)) ≡ all p (from (k + 1) (n - (k + 1)))
  all_next h e = rw (from_next k n h, e)

  pub all_done : n ≤ k → all p (from k (n - k)) ≡ true
  all_done h = rw (from-end k n h)

-- ---- those that pass among the numbers below
-- where all that pass are below n, those below n are all
pub keep_below : (p : ℕ → Bool) (n m : ℕ) → n ≤ m → ((c : ℕ) → Memᴰ c (keep p (below m)) → c < n) → keep p (below m) ≡ keep p (below n)
keep_below p n m h f =
    ap (keep p) (below_split n m h) ∙ keep_append p (below n) (from n (m - n))
    ∙ ap (λ (l : List ℕ). keep p (below n) ++ l) (keep_none p (from n (m - n)) over) ∙ append-nil (keep p (below n))
  where
    over : (c : ℕ) → Memᴰ c (from n (m - n)) → T (p c) → ⊥
    over c k t =
        let r = from_at n (m - n) k in
        let a = r.0 in
        let b = r.1 in
        let l = f c (keep_of p (below m) (below_of m (omega arith)) t) in
        omega arith

-- of the numbers below n, those in an ascending list of such numbers are that list
pub members_below : (n : ℕ) (xs : List ℕ) → T (ascending ltb xs) → ((x : ℕ) → Memᴰ x xs → x < n) → keep (λ i. member i xs) (below n) ≡ xs
members_below n xs t h =
    ascending_unique ltb ltb_trans ltb_irrefl (keep (λ i. member i xs) (below n)) xs (keep_ascending ltb (λ i. member i xs) (below n) (from_ascending 0 n)) t
    (λ z m. member_at z xs (keep_at (λ i. member i xs) (below n) m).1) (λ z m. keep_of (λ i. member i xs) (below n) (below_of n (h z m)) (member_of xs m))

-- ---- each number of a range
pub each_shift : {A : Type 0} (h : ℕ → List A) (t i n : ℕ) → each (from i n) (λ j. h (t + j)) ≡ each (from (t + i) n) h
each_shift h t i zero = refl
each_shift h t i (suc n) = let e : t + suc i ≡ suc (t + i) = omega arith in ap (λ (l : List _). h (t + i) ++ l) (each_shift h t (suc i) n ∙ ap (λ (k : ℕ). each (from k n) h) e)

module _ {B : Type 0} (f : ℕ → List B) where
  pub each_none : (i m : ℕ) → ((j : ℕ) → i ≤ j → j < i + m → f j ≡ []) → each (from i m) f ≡ []
  each_none i zero h = refl
  each_none i (suc m) h = ap₂ (λ (x y : List B). x ++ y) (h i (omega arith) (omega arith)) (each_none (suc i) m (λ j a b. h j (omega arith) (omega arith)))

-- of which only a window of numbers gives something
pub each_window : {B : Type 0} (f : ℕ → List B) (lo m n : ℕ) → lo + m ≤ n → ((i : ℕ) → (i < lo) ⊎ (lo + m ≤ i) → f i ≡ []) → each (below n) f ≡ each (below m) (λ i. f (lo + i))
each_window f lo m n h none =
    let rest = n - (lo + m) in
    let parts : from 0 n ≡ from 0 lo ++ (from (0 + lo) m ++ from (0 + lo + m) rest) =
    ap (λ (k : ℕ). from 0 k) (let e : n ≡ lo + (m + (n - (lo + m))) = omega arith in e) ∙ sym (from_append 0 lo (m + rest)) ∙ ap (λ (l : List ℕ). from 0 lo ++ l) (sym (from_append (0 + lo) m rest)) in
    ap (λ (l : List ℕ). each l f) parts ∙ each_append (from 0 lo) (from (0 + lo) m ++ from (0 + lo + m) rest) f
    ∙ ap₂ (λ (x y : List _). x ++ y) (each_none f 0 lo (λ j a b. none j (inl (omega arith)))) (each_append (from (0 + lo) m) (from (0 + lo + m) rest) f)
    ∙ ap (λ (y : List _). each (from (0 + lo) m) f ++ y) (each_none f (0 + lo + m) rest (λ j a b. none j (inr (omega arith))))
    ∙ append-nil (each (from (0 + lo) m) f) ∙ ap (λ (k : ℕ). each (from k m) f) (let e : 0 + lo ≡ lo + 0 = omega arith in e) ∙ sym (each_shift f lo 0 m)

pub from_blocks : (L i n : ℕ) → each (from i n) (λ k. from (k * L) L) ≡ from (i * L) (n * L)
from_blocks L i zero = ap (from (i * L)) (sym (zero-mul L))
from_blocks L i (suc n) =
    let y = suc-mul i L in
    let z = suc-mul n L in
    let e : suc i * L ≡ i * L + L = omega arith in
    let f : L + n * L ≡ suc n * L = omega arith in
    ap (λ (l : List ℕ). from (i * L) L ++ l) (from_blocks L (suc i) n) ∙ ap (λ (k : ℕ). from (i * L) L ++ from k (n * L)) e
    ∙ from_append (i * L) L (n * L) ∙ ap (from (i * L)) f

module _ {A : Type 0} (d : A) where
  pub length_blocks : (g : ℕ → List A) (L : ℕ) → ((k : ℕ) → length (g k) ≡ L) → (i n : ℕ) → length (each (from i n) g) ≡ n * L
  length_blocks g L h i zero = sym (zero-mul L)
  length_blocks g L h i (suc n) = length-append (g i) (each (from (suc i) n) g) ∙ (let r = length_blocks g L h (suc i) n in let e = h i in let s = suc-mul n L in omega arith)

  -- blocks of one length: entry r of block x
  pub get_or_blocks : (g : ℕ → List A) (L : ℕ) → ((k : ℕ) → length (g k) ≡ L) → (i n x r : ℕ) → x < n → r < L → get_or (each (from i n) g) (x * L + r) d ≡ get_or (g (x + i)) r d
  get_or_blocks g L h i zero x r a b = absurd (omega arith)
  get_or_blocks g L h i (suc n) zero r a b =
      ap (λ (k : ℕ). get_or (g i ++ each (from (suc i) n) g) k d) (let z = zero-mul L in omega arith)
      ∙ get_or-append (g i) (each (from (suc i) n) g) d r (let e = h i in omega arith) ∙ ap (λ (k : ℕ). get_or (g k) r d) (omega arith)
  get_or_blocks g L h i (suc n) (suc x) r a b =
      ap (λ (k : ℕ). get_or (g i ++ each (from (suc i) n) g) k d) (let z = suc-mul x L in let e = h i in omega arith)
      ∙ get_or-append-add (g i) (each (from (suc i) n) g) (x * L + r) d ∙ get_or_blocks g L h (suc i) n x r (omega arith) b ∙ ap (λ (k : ℕ). get_or (g k) r d) (omega arith)
