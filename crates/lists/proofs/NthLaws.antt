-- Laws of entries by their number: `Nth xs n x` says that x stands at n. Assumes nothing.
use Prim.Native.Nat.{ℕ, zero, suc, ◌+◌, ◌<◌}
use mathlib.Core.Bool.{Bool, true, false, cond}
use mathlib.Core.List.Memᴰ
use mathlib.Core.List.{List, [], ◌∷◌, map, Memᴰ}
use mathlib.Core.Path.{◌≡◌, refl, sym, ap, ap₂, ◌∙◌, subst, subst₂}
use mathlib.Core.Logic.{◌⊎◌, inl, inr}
use native.Mathlib.Omega.{arith}
use lib.Dec.{T}
use lib.ListN.{length, get_or}
use Rattle.lists.specs.Lists.{cons_if, all, keep, how_many, before, ascending, joined, numbered_from, Apart}
use Rattle.lists.proofs.TestLaws.{and_left, and_right, and_both, is_true}
use Rattle.lists.proofs.ListLaws.{all_at, all_of, keep_none, joined_at}
use Rattle.lists.proofs.SortLaws.{first_ahead, append_ascending}
use Rattle.lists.proofs.CountLaws.{how_many_length}

abbrev pub Nth : {A : Type 0} → List A → ℕ → A → Type 0
Nth [] n x = ⊥
Nth (y ∷ ys) zero x = x ≡ y
Nth (y ∷ ys) (suc n) x = Nth ys n x

module _ {A : Type 0} where
  pub nth_mem : (xs : List A) (n : ℕ) {x : A} → Nth xs n x → Memᴰ x xs
  nth_mem [] n h = absurd h
  nth_mem (y ∷ ys) zero h = Memᴰ.head h
  nth_mem (y ∷ ys) (suc n) h = Memᴰ.tail (nth_mem ys n h)

  pub nth_below : (xs : List A) (n : ℕ) (x : A) → Nth xs n x → n < length xs
  nth_below [] n x h = absurd h
  nth_below (y ∷ ys) zero x h = omega arith
  nth_below (y ∷ ys) (suc n) x h = let r = nth_below ys n x h in omega arith

  pub nth_get_or : {B : Type 0} (f : A → B) (b : B) (xs : List A) (n : ℕ) {x : A} → Nth xs n x → get_or (map f xs) n b ≡ f x
  nth_get_or f b [] n h = absurd h
  nth_get_or f b (y ∷ ys) zero h = ap f (sym h)
  nth_get_or f b (y ∷ ys) (suc n) h = nth_get_or f b ys n h

  pub get_or_nth : (xs : List A) (n : ℕ) → n < length xs → (x : A) × Nth xs n x
  get_or_nth [] n h = absurd (omega arith)
  get_or_nth (y ∷ ys) zero h = (y, refl)
  get_or_nth (y ∷ ys) (suc n) h = get_or_nth ys n (omega arith)

  pub nth_unique : (xs : List A) (n : ℕ) (a b : A) → Nth xs n a → Nth xs n b → a ≡ b
  nth_unique [] n a b h k = absurd h
  nth_unique (x ∷ xs) zero a b h k = h ∙ sym k
  nth_unique (x ∷ xs) (suc n) a b h k = nth_unique xs n a b h k

  pub nth_apart : (xs : List A) → Apart xs → (n m : ℕ) (a : A) → Nth xs n a → Nth xs m a → n ≡ m
  nth_apart [] p n m a h k = absurd h
  nth_apart (x ∷ xs) p zero zero a h k = refl
  nth_apart (x ∷ xs) p zero (suc m) a h k = absurd (p.0 (Memᴰ.cast (sym h) (nth_mem xs m k)))
  nth_apart (x ∷ xs) p (suc n) zero a h k = absurd (p.0 (Memᴰ.cast (sym k) (nth_mem xs n h)))
  nth_apart (x ∷ xs) p (suc n) (suc m) a h k = ap suc (nth_apart xs p.1 n m a h k)

  pub nth_value : (xs : List A) (n : ℕ) (a d : A) → Nth xs n a → get_or xs n d ≡ a
  nth_value [] n a d h = absurd h
  nth_value (x ∷ xs) zero a d h = sym h
  nth_value (x ∷ xs) (suc n) a d h = nth_value xs n a d h

  -- a number below the length has an entry
  pub nth_at : (d : A) (xs : List A) (n : ℕ) → n < length xs → Nth xs n (get_or xs n d)
  nth_at d xs n h = let r = get_or_nth xs n h in subst (λ (x : A). Nth xs n x) (sym (nth_value xs n r.0 d r.1)) r.1

  -- as many entries of an ascending list stand ahead of the n-th as its number says
  pub nth_how_many : (first : A → A → Bool) → ((x y z : A) → T (first x y) → T (first y z) → T (first x z)) → ((x : A) → T (first x x) → ⊥)
      → (xs : List A) → T (ascending first xs) → (n : ℕ) (x : A) → Nth xs n x → how_many (λ y. first y x) xs ≡ n
  nth_how_many first trans irrefl [] t n x h = absurd h
  nth_how_many first trans irrefl (y ∷ ys) t zero x h = how_many_length (λ z. first z x) (y ∷ ys) ∙ ap length (keep_none (λ z. first z x) (y ∷ ys) (λ z m a. go (Memᴰ.cases_cons m) a))
    where
      go : {z : A} → (z ≡ y) ⊎ Memᴰ z ys → T (first z x) → ⊥
      go (inl e) a = irrefl y (subst₂ (λ (v w : A). T (first v w)) e h a)
      go {z} (inr m) a = irrefl y (trans y z y (first_ahead first trans irrefl y ys t m) (subst (λ (w : A). T (first z w)) h a))
  nth_how_many first trans irrefl (y ∷ ys) t (suc n) x h =
      let a : ◌≡◌ {A = ℕ} (cond (first y x) 1 0) 1 = ap {B = ℕ} (λ (b : Bool). cond b 1 0) (is_true (first y x) (first_ahead first trans irrefl y ys t (nth_mem ys n h))) in
      let r = nth_how_many first trans irrefl ys (and_right (all (first y) ys) (ascending first ys) t) n x h in
      omega arith

pub mem_nth_of : {A : Type 0} (xs : List A) (x : A) → Memᴰ x xs → (n : ℕ) × Nth xs n x
mem_nth_of [] x m = absurd (Memᴰ.not-nil m)
mem_nth_of (y ∷ ys) x m = go (Memᴰ.cases_cons m) (λ (k : Memᴰ x ys). mem_nth_of ys x k)
  where
    go : (x ≡ y) ⊎ Memᴰ x ys → (Memᴰ x ys → (n : ℕ) × Nth ys n x) → (n : ℕ) × Nth (y ∷ ys) n x
    go (inl e) f = (zero, e)
    go (inr k) f = let r = f k in (suc r.0, r.1)

pub nth_map : {A B : Type 0} (f : A → B) (xs : List A) (n : ℕ) (x : A) → Nth xs n x → Nth (map f xs) n (f x)
nth_map f [] n x h = absurd h
nth_map f (y ∷ ys) zero x h = ap f h
nth_map f (y ∷ ys) (suc n) x h = nth_map f ys n x h

-- an entry that is kept for its value under f has the number that its value has among the values kept
pub nth_kept : {A B : Type 0} (f : A → B) (p : B → Bool) (xs : List A) (n : ℕ) (x : A) → Nth (keep (λ z. p (f z)) xs) n x → Nth (keep p (map f xs)) n (f x)
nth_kept f p [] n x h = absurd h
nth_kept f p (y ∷ ys) n x h = go (p (f y)) n h (λ (i : ℕ) (k : Nth (keep (λ z. p (f z)) ys) i x). nth_kept f p ys i x k)
  where
    go : (b : Bool) (i : ℕ) → Nth (cons_if b y (keep (λ z. p (f z)) ys)) i x → ((j : ℕ) → Nth (keep (λ z. p (f z)) ys) j x → Nth (keep p (map f ys)) j (f x))
        → Nth (cons_if b (f y) (keep p (map f ys))) i (f x)
    go true zero k r = ap f k
    go true (suc i) k r = r i k
    go false i k r = r i k

pub before_nth : {A : Type 0} (p : A → Bool) (xs : List A) (x : A) → Nth xs (before p xs) x → T (p x)
before_nth p [] x h = absurd h
before_nth p (y ∷ ys) x h = go (p y) refl h (λ (k : Nth ys (before p ys) x). before_nth p ys x k)
  where
    go : (b : Bool) → p y ≡ b → Nth (y ∷ ys) (cond b 0 (suc (before p ys))) x → (Nth ys (before p ys) x → T (p x)) → T (p x)
    go true e k f = subst T (sym (ap p k ∙ e)) tt
    go false e k f = f k

-- the numbers of an ascending list's entries go by their order
module _ {A : Type 0} (ahead : A → A → Bool) where
  pub nth_up : (xs : List A) → T (ascending ahead xs) → (n m : ℕ) (x y : A) → Nth xs n x → Nth xs m y → n < m → T (ahead x y)
  nth_up [] s n m x y k l h = absurd k
  nth_up (z ∷ zs) s n zero x y k l h = absurd (omega arith)
  nth_up (z ∷ zs) s zero (suc m) x y k l h = subst (λ (w : A). T (ahead w y)) (sym k) (all_at (ahead z) zs (and_left (all (ahead z) zs) (ascending ahead zs) s) (nth_mem zs m l))
  nth_up (z ∷ zs) s (suc n) (suc m) x y k l h = nth_up zs (and_right (all (ahead z) zs) (ascending ahead zs) s) n m x y k l (omega arith)

  module _ (trans : (x y z : A) → T (ahead x y) → T (ahead y z) → T (ahead x z)) (irrefl : (x : A) → T (ahead x x) → ⊥) where
    pub nth_ahead : (xs : List A) → T (ascending ahead xs) → (n m : ℕ) (x y : A) → Nth xs n x → Nth xs m y → T (ahead x y) → n < m
    nth_ahead [] s n m x y k l t = absurd k
    nth_ahead (z ∷ zs) s zero zero x y k l t = absurd (irrefl x (subst (λ (w : A). T (ahead x w)) (l ∙ sym k) t))
    nth_ahead (z ∷ zs) s zero (suc m) x y k l t = omega arith
    nth_ahead (z ∷ zs) s (suc n) zero x y k l t =
        absurd (irrefl x (trans x y x t (subst (λ (w : A). T (ahead w x)) (sym l) (first_ahead ahead trans irrefl z zs s (nth_mem zs n k)))))
    nth_ahead (z ∷ zs) s (suc n) (suc m) x y k l t = let r = nth_ahead zs (and_right (all (ahead z) zs) (ascending ahead zs) s) n m x y k l t in omega arith

-- ---- lists made by number
module _ {A B : Type 0} (f : ℕ → A → B) where
  pub numbered_at : (i : ℕ) (xs : List A) {z : B} → Memᴰ z (numbered_from i xs f) → (n : ℕ) × (x : A) × Nth xs n x × (z ≡ f (n + i) x)
  numbered_at i [] m = absurd (Memᴰ.not-nil m)
  numbered_at i (x ∷ xs) {z} m = go (Memᴰ.cases_cons m) (λ (k : Memᴰ z (numbered_from (suc i) xs f)). numbered_at (suc i) xs k)
    where
      go : (z ≡ f i x) ⊎ Memᴰ z (numbered_from (suc i) xs f) → (Memᴰ z (numbered_from (suc i) xs f) → (n : ℕ) × (y : A) × Nth xs n y × (z ≡ f (n + suc i) y))
          → (n : ℕ) × (y : A) × Nth (x ∷ xs) n y × (z ≡ f (n + i) y)
      go (inl e) g = (zero, x, refl, e ∙ ap (λ (k : ℕ). f k x) (omega arith))
      go (inr k) g = let r = g k in (suc r.0, r.1, r.2, r.3 ∙ ap (λ (k : ℕ). f k r.1) (omega arith))

  -- a list made by number ascends where later numbers stand behind
  pub numbered_ascending : (ahead : B → B → Bool) → ((n m : ℕ) (x y : A) → n < m → T (ahead (f n x) (f m y))) → (i : ℕ) (xs : List A) → T (ascending ahead (numbered_from i xs f))
  numbered_ascending ahead h i [] = tt
  numbered_ascending ahead h i (x ∷ xs) =
      and_both (all (ahead (f i x)) (numbered_from (suc i) xs f)) (ascending ahead (numbered_from (suc i) xs f))
      (all_of (ahead (f i x)) (numbered_from (suc i) xs f) (λ z m. at z (numbered_at (suc i) xs m))) (numbered_ascending ahead h (suc i) xs)
    where
      at : (z : B) → (n : ℕ) × (y : A) × Nth xs n y × (z ≡ f (n + suc i) y) → T (ahead (f i x) z)
      at z r = subst (λ (w : B). T (ahead (f i x) w)) (sym r.3) (h i (r.0 + suc i) x r.1 (omega arith))

pub numbered_of : {A B : Type 0} (f : ℕ → A → B) (i : ℕ) (xs : List A) (n : ℕ) (x : A) → Nth xs n x → Memᴰ (f (n + i) x) (numbered_from i xs f)
numbered_of f i [] n x h = absurd h
numbered_of f i (y ∷ ys) zero x h = Memᴰ.head (let e : zero + i ≡ i = omega arith in ap₂ (λ (k : ℕ) (z : _). f k z) e h)
numbered_of f i (y ∷ ys) (suc n) x h = Memᴰ.tail (Memᴰ.cast (let e : suc n + i ≡ n + suc i = omega arith in ap (λ (k : ℕ). f k x) e) (numbered_of f (suc i) ys n x h))

module _ {A B : Type 0} (f : ℕ → A → List B) where
  pub joined_ascending : (ahead : B → B → Bool) → ((n : ℕ) (x : A) → T (ascending ahead (f n x)))
      → ((n m : ℕ) (x y : A) → n < m → (z w : B) → Memᴰ z (f n x) → Memᴰ w (f m y) → T (ahead z w)) → (i : ℕ) (xs : List A) → T (ascending ahead (joined (numbered_from i xs f)))
  joined_ascending ahead g h i [] = tt
  joined_ascending ahead g h i (x ∷ xs) =
      append_ascending ahead (f i x) (joined (numbered_from (suc i) xs f)) (g i x) (joined_ascending ahead g h (suc i) xs) (λ z w m k. at z w m (joined_at (numbered_from (suc i) xs f) k))
    where
      at : (z w : B) → Memᴰ z (f i x) → (ys : List B) × Memᴰ ys (numbered_from (suc i) xs f) × Memᴰ w ys → T (ahead z w)
      at z w m r =
          let q = numbered_at f (suc i) xs r.1 in
          h i (q.0 + suc i) x q.1 (omega arith) z w m (subst (λ (l : List B). Memᴰ w l) q.3 r.2)
