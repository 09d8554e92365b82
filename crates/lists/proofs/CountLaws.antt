-- Counting: sums over lists, and how many entries pass as a sum. Assumes nothing.
use Prim.Native.Nat.{ℕ, zero, suc, ◌+◌, ◌-◌, ◌*◌, ◌≤◌, ◌<◌}
use mathlib.Core.Bool.{Bool, true, false, cond, not, ◌&&◌}
use mathlib.Core.List.Memᴰ
use mathlib.Core.List.{List, [], ◌∷◌, ◌++◌, map, Memᴰ}
use mathlib.Core.Path.{◌≡◌, refl, sym, ap, ap₂, ◌∙◌, subst}
use mathlib.Core.Logic.{◌⊎◌, inl, inr}
use native.Mathlib.Nat.{add-mul, zero-mul, one-mul}
use native.Mathlib.Omega.{arith}
use borrow.Author.Tests.{lt-ltb, le-ltb}
use lib.Dec.{T, ltb, leb, eqb, eqb→eq, leb→le, le→leb}
use lib.ListN.{length, get_or, drop, length-append, drop_of_length-le}
use lib.Seq.{drop-cons}
use native.Mathlib.Numerals.{add-one}
use Rattle.lists.specs.Lists.{each, how_many, keep, cons_if, below, from, member, all, ascending, sum, numbered_from, Apart}
use Rattle.lists.proofs.TestLaws.{decide, clash, eqb_of, is_true, is_false, not_T, and_left, and_right, and_both}
use Rattle.lists.proofs.ListLaws.{keep_at, keep_keep, keep_append, how_many_pos, apart_keep, apart_length, all_at, all_of, all_get_or}
use Rattle.lists.proofs.RangeLaws.{members_below, below_split}

-- the sum of f over a list
abbrev pub total : {A : Type 0} → (A → ℕ) → List A → ℕ
total f [] = 0
total f (x ∷ xs) = f x + total f xs

module _ {A : Type 0} where
  pub total_same : (f g : A → ℕ) (xs : List A) → ((x : A) → Memᴰ x xs → f x ≡ g x) → total f xs ≡ total g xs
  total_same f g [] h = refl
  total_same f g (x ∷ xs) h = ap₂ (λ (a b : ℕ). a + b) (h x (Memᴰ.head refl)) (total_same f g xs (λ z m. h z (Memᴰ.tail m)))

  pub total_add : (f g : A → ℕ) (xs : List A) → total (λ x. f x + g x) xs ≡ total f xs + total g xs
  total_add f g [] = omega arith
  total_add f g (x ∷ xs) = let r = total_add f g xs in omega arith

  pub total_zero : (xs : List A) → total (λ x. 0) xs ≡ 0
  total_zero [] = refl
  total_zero (x ∷ xs) = let r = total_zero xs in omega arith

  pub total_one : (xs : List A) → total (λ x. 1) xs ≡ length xs
  total_one [] = refl
  total_one (x ∷ xs) = let r = total_one xs in omega arith

  pub total_le : (f g : A → ℕ) (xs : List A) → ((x : A) → Memᴰ x xs → f x ≤ g x) → total f xs ≤ total g xs
  total_le f g [] h = omega arith
  total_le f g (x ∷ xs) h = let r = total_le f g xs (λ z m. h z (Memᴰ.tail m)) in let k = h x (Memᴰ.head refl) in omega arith

  -- sums that are equal, one below the other at each entry, are equal at each entry
  pub total_tight : (f g : A → ℕ) (xs : List A) → ((x : A) → Memᴰ x xs → f x ≤ g x) → total f xs ≡ total g xs → (x : A) → Memᴰ x xs → f x ≡ g x
  total_tight f g [] h e x m = absurd (Memᴰ.not-nil m)
  total_tight f g (y ∷ ys) h e x m = go (Memᴰ.cases_cons m) (λ (i : total f ys ≡ total g ys) (k : Memᴰ x ys). total_tight f g ys (λ z l. h z (Memᴰ.tail l)) i x k)
    where
      go : (x ≡ y) ⊎ Memᴰ x ys → (total f ys ≡ total g ys → Memᴰ x ys → f x ≡ g x) → f x ≡ g x
      go (inl i) r =
          let a = total_le f g ys (λ z l. h z (Memᴰ.tail l)) in
          let b = h y (Memᴰ.head refl) in
          let d : f y ≡ g y = omega arith in
          subst (λ (z : A). f z ≡ g z) (sym i) d
      go (inr k) r =
          let a = total_le f g ys (λ z l. h z (Memᴰ.tail l)) in
          let b = h y (Memᴰ.head refl) in
          r (omega arith) k

  pub how_many_total : (p : A → Bool) (xs : List A) → how_many p xs ≡ total (λ x. cond (p x) 1 0) xs
  how_many_total p [] = refl
  how_many_total p (x ∷ xs) = ap (λ (n : ℕ). cond (p x) 1 0 + n) (how_many_total p xs)

  pub how_many_length : (p : A → Bool) (xs : List A) → how_many p xs ≡ length (keep p xs)
  how_many_length p [] = refl
  how_many_length p (x ∷ xs) = go (p x) (how_many_length p xs)
    where
      go : (b : Bool) → how_many p xs ≡ length (keep p xs) → cond b 1 0 + how_many p xs ≡ length (cons_if b x (keep p xs))
      go true e = omega arith
      go false e = omega arith

  pub how_many_keep : (p q : A → Bool) (xs : List A) → how_many q (keep p xs) ≡ how_many (λ x. p x && q x) xs
  how_many_keep p q xs = how_many_length q (keep p xs) ∙ ap length (keep_keep p q xs) ∙ sym (how_many_length (λ x. p x && q x) xs)

-- the order of two sums
pub exchange : {A B : Type 0} (p : A → B → Bool) (xs : List A) (ys : List B) → total (λ x. how_many (p x) ys) xs ≡ total (λ y. how_many (λ x. p x y) xs) ys
exchange p xs [] = total_zero xs
exchange p xs (y ∷ ys) =
    total_add (λ x. cond (p x y) 1 0) (λ x. how_many (p x) ys) xs
    ∙ ap₂ (λ (a b : ℕ). a + b) (sym (how_many_total (λ x. p x y) xs)) (exchange p xs ys)

-- of the numbers below n, those in an ascending list of such numbers are as many as it has
pub how_many_in : (n : ℕ) (xs : List ℕ) → T (ascending ltb xs) → ((x : ℕ) → Memᴰ x xs → x < n) → how_many (λ i. member i xs) (below n) ≡ length xs
how_many_in n xs t h = how_many_length (λ i. member i xs) (below n) ∙ ap length (members_below n xs t h)

-- the sum over the numbers below n of what stands at one of them alone
one_hot_none : (f : ℕ → ℕ) (a i n : ℕ) → a < i → total (λ k. cond (eqb a k) 1 0 * f k) (from i n) ≡ 0
one_hot_none f a i zero h = refl
one_hot_none f a i (suc n) h =
    let r = one_hot_none f a (suc i) n (omega arith) in
    let z : ◌≡◌ {A = ℕ} (cond (eqb a i) 1 0 * f i) 0 = ap {B = ℕ} (λ (b : Bool). cond b 1 0 * f i) (is_false (eqb a i) (λ t. let e = eqb→eq a i t in omega arith)) ∙ zero-mul (f i) in
    omega arith

one_hot_from : (f : ℕ → ℕ) (a i n : ℕ) → i ≤ a → a < i + n → total (λ k. cond (eqb a k) 1 0 * f k) (from i n) ≡ f a
one_hot_from f a i zero h k = absurd (omega arith)
one_hot_from f a i (suc n) h k = go (decide (eqb a i)) (λ (l : suc i ≤ a) (m : a < suc i + n). one_hot_from f a (suc i) n l m)
  where
    go : T (eqb a i) ⊎ T (not (eqb a i)) → (suc i ≤ a → a < suc i + n → total (λ k. cond (eqb a k) 1 0 * f k) (from (suc i) n) ≡ f a)
        → cond (eqb a i) 1 0 * f i + total (λ k. cond (eqb a k) 1 0 * f k) (from (suc i) n) ≡ f a
    go (inl t) r =
        let e = eqb→eq a i t in
        let z = one_hot_none f a (suc i) n (omega arith) in
        let v : ◌≡◌ {A = ℕ} (cond (eqb a i) 1 0 * f i) (f i) = ap {B = ℕ} (λ (b : Bool). cond b 1 0 * f i) (is_true (eqb a i) t) ∙ one-mul (f i) in
        let y : f i ≡ f a = ap f (sym e) in
        omega arith
    go (inr t) r =
        let d : a ≡ i → ⊥ = λ e. clash (eqb a i) (eqb_of e) t in
        let z = r (omega arith) (omega arith) in
        let v : ◌≡◌ {A = ℕ} (cond (eqb a i) 1 0 * f i) 0 = ap {B = ℕ} (λ (b : Bool). cond b 1 0 * f i) (not_T (eqb a i) t) ∙ zero-mul (f i) in
        omega arith

-- a sum by the entries' keys is the sum over the keys of how many have it
pub by_key : {A : Type 0} (key : A → ℕ) (f : ℕ → ℕ) (n : ℕ) (xs : List A) → ((x : A) → Memᴰ x xs → key x < n)
    → total (λ x. f (key x)) xs ≡ total (λ k. how_many (λ x. eqb (key x) k) xs * f k) (below n)
by_key key f n [] h = sym (total_same (λ k. 0 * f k) (λ k. 0) (below n) (λ k m. zero-mul (f k)) ∙ total_zero (below n))
by_key key f n (x ∷ xs) h =
    ap₂ (λ (a b : ℕ). a + b) (sym (one_hot_from f (key x) 0 n (omega arith) (let k = h x (Memᴰ.head refl) in omega arith))) (by_key key f n xs (λ z m. h z (Memᴰ.tail m)))
    ∙ sym (total_add (λ k. cond (eqb (key x) k) 1 0 * f k) (λ k. how_many (λ z. eqb (key z) k) xs * f k) (below n))
    ∙ total_same (λ k. cond (eqb (key x) k) 1 0 * f k + how_many (λ z. eqb (key z) k) xs * f k) (λ k. (cond (eqb (key x) k) 1 0 + how_many (λ z. eqb (key z) k) xs) * f k) (below n)
    (λ k m. sym (add-mul (cond (eqb (key x) k) 1 0) (how_many (λ z. eqb (key z) k) xs) (f k)))

pub sum_map : {A : Type 0} (f : A → ℕ) (xs : List A) → sum (map f xs) ≡ total f xs
sum_map f [] = refl
sum_map f (x ∷ xs) = ap (λ (n : ℕ). f x + n) (sum_map f xs)

pub total_append : {A : Type 0} (f : A → ℕ) (xs ys : List A) → total f (xs ++ ys) ≡ total f xs + total f ys
total_append f [] ys = omega arith
total_append f (x ∷ xs) ys = let r = total_append f xs ys in omega arith

pub length_each : {A B : Type 0} (f : A → List B) (xs : List A) → length (each xs f) ≡ total (λ x. length (f x)) xs
length_each f [] = refl
length_each f (x ∷ xs) = length-append (f x) (each xs f) ∙ ap (λ (n : ℕ). length (f x) + n) (length_each f xs)

pub total_keep : {A : Type 0} (p : A → Bool) (f : A → ℕ) (xs : List A) → total f (keep p xs) ≡ total (λ x. cond (p x) (f x) 0) xs
total_keep p f [] = refl
total_keep p f (x ∷ xs) = go (p x) (total_keep p f xs)
  where
    go : (b : Bool) → total f (keep p xs) ≡ total (λ x. cond (p x) (f x) 0) xs → total f (cons_if b x (keep p xs)) ≡ cond b (f x) 0 + total (λ x. cond (p x) (f x) 0) xs
    go true e = omega arith
    go false e = omega arith

pub total_each : {A : Type 0} (f : A → ℕ) (c : ℕ) (xs : List A) → ((x : A) → Memᴰ x xs → f x ≡ c) → total f xs ≡ length xs * c
total_each f c [] h = sym (zero-mul c)
total_each f c (x ∷ xs) h =
    let r = total_each f c xs (λ z m. h z (Memᴰ.tail m)) in
    let a = h x (Memᴰ.head refl) in
    let e : suc (length xs) * c ≡ c + length xs * c = omega arith in
    omega arith

pub total_times : {A : Type 0} (f : A → ℕ) (c : ℕ) (xs : List A) → total (λ x. f x * c) xs ≡ total f xs * c
total_times f c [] = sym (zero-mul c)
total_times f c (x ∷ xs) = let r = total_times f c xs in let e = add-mul (f x) (total f xs) c in omega arith

module _ {A B : Type 0} (f : B → ℕ) (g : A → ℕ) where
  pub total_numbered : (F : ℕ → A → B) (i : ℕ) (xs : List A) → ((n : ℕ) (x : A) → Memᴰ x xs → f (F n x) ≡ g x) → total f (numbered_from i xs F) ≡ total g xs
  total_numbered F i [] h = refl
  total_numbered F i (x ∷ xs) h = ap₂ (λ (a b : ℕ). a + b) (h i x (Memᴰ.head refl)) (total_numbered F (suc i) xs (λ n z m. h n z (Memᴰ.tail m)))

pub at_most_sum : (xs : List ℕ) (k : ℕ) → get_or xs k 0 ≤ sum xs
at_most_sum [] k = omega arith
at_most_sum (x ∷ xs) zero = omega arith
at_most_sum (x ∷ xs) (suc k) = let h = at_most_sum xs k in omega arith

-- ---- how many entries pass
module _ {A : Type 0} where
  -- just one entry passes where one does and no other
  pub just_one : (p : A → Bool) (xs : List A) → Apart xs → (x : A) → Memᴰ x xs → T (p x) → ((y : A) → Memᴰ y xs → T (p y) → y ≡ x) → how_many p xs ≡ 1
  just_one p xs h x m t f =
      let a = how_many_pos p xs m t in
      let b = apart_length (keep p xs) (x ∷ []) (apart_keep p xs h) (λ z k. let r = keep_at p xs k in Memᴰ.head (f z r.0 r.1)) in
      let e = how_many_length p xs in
      omega arith

pub count_more : (p : ℕ → Bool) (n m : ℕ) → n ≤ m → how_many p (below n) ≤ how_many p (below m)
count_more p n m h =
    let a = how_many_length p (below m) in
    let b = how_many_length p (below n) in
    let c = ap length (ap (keep p) (below_split n m h) ∙ keep_append p (below n) (from n (m - n))) in
    let d = length-append (keep p (below n)) (keep p (from n (m - n))) in
    omega arith

-- from the i-th entry on
module _ (p : ℕ → Bool) (xs : List ℕ) (i : ℕ) where
  pub count_at : i < length xs → (b : Bool) → p (get_or xs i 0) ≡ b → how_many p (drop i xs) ≡ cond b 1 0 + how_many p (drop (i + 1) xs)
  count_at h b e = rw (add-one, drop-cons xs i 0, e)

  pub count_hit : i < length xs → p (get_or xs i 0) ≡ true → how_many p (drop i xs) ≡ 1 + how_many p (drop (i + 1) xs)
  count_hit h e = count_at h true e

  pub count_miss : i < length xs → p (get_or xs i 0) ≡ false → how_many p (drop i xs) ≡ how_many p (drop (i + 1) xs)
  count_miss h e = count_at h false e ∙ omega arith

  pub count_end : length xs ≤ i → how_many p (drop i xs) ≡ 0
  count_end h = ap (how_many p) (drop_of_length-le xs h)

-- ---- how many entries of an ascending list are below a number
one_most : (b : Bool) → cond b 1 0 ≤ 1
one_most true = omega arith
one_most false = omega arith

none_under : (v : ℕ) (xs : List ℕ) → T (all (leb v) xs) → how_many (λ z. ltb z v) xs ≡ 0
none_under v [] t = refl
none_under v (x ∷ xs) t =
    let e : ◌≡◌ {A = ℕ} (cond (ltb x v) 1 0) 0 = ap {B = ℕ} (λ (b : Bool). cond b 1 0) (le-ltb x v (leb→le v x (and_left (leb v x) (all (leb v) xs) t))) in
    let i = none_under v xs (and_right (leb v x) (all (leb v) xs) t) in
    omega arith

-- entry i of an ascending list is below v where more than i entries are, and nowhere else
pub nth_under : (xs : List ℕ) → T (ascending leb xs) → (v i : ℕ) → i < length xs → get_or xs i 0 < v → i < how_many (λ z. ltb z v) xs
nth_under [] t v i h k = absurd (omega arith)
nth_under (x ∷ xs) t v zero h k = let e : ◌≡◌ {A = ℕ} (cond (ltb x v) 1 0) 1 = ap {B = ℕ} (λ (b : Bool). cond b 1 0) (lt-ltb x v k) in omega arith
nth_under (x ∷ xs) t v (suc i) h k =
    let l = leb→le x (get_or xs i 0) (all_get_or (leb x) 0 xs (and_left (all (leb x) xs) (ascending leb xs) t) i (omega arith)) in
    let e : ◌≡◌ {A = ℕ} (cond (ltb x v) 1 0) 1 = ap {B = ℕ} (λ (b : Bool). cond b 1 0) (lt-ltb x v (omega arith)) in
    let r = nth_under xs (and_right (all (leb x) xs) (ascending leb xs) t) v i (omega arith) k in
    omega arith

pub nth_over : (xs : List ℕ) → T (ascending leb xs) → (v i : ℕ) → i < length xs → v ≤ get_or xs i 0 → how_many (λ z. ltb z v) xs ≤ i
nth_over [] t v i h k = absurd (omega arith)
nth_over (x ∷ xs) t v zero h k =
    let later = all_of (leb v) xs (λ z m. le→leb v z (let a = leb→le x z (all_at (leb x) xs (and_left (all (leb x) xs) (ascending leb xs) t) m) in omega arith)) in
    let e = none_under v (x ∷ xs) (and_both (leb v x) (all (leb v) xs) (le→leb v x k) later) in
    omega arith
nth_over (x ∷ xs) t v (suc i) h k =
    let b = one_most (ltb x v) in
    let r = nth_over xs (and_right (all (leb x) xs) (ascending leb xs) t) v i (omega arith) k in
    omega arith
