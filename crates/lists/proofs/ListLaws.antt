-- Laws of the lists of Lists.antt: all, any, keep, each, how many, the first that passes, entries by number, lists without repetition. Assumes nothing.
use Prim.Native.Nat.{ℕ, zero, suc, ◌+◌, ◌-◌, ◌*◌, ◌≤◌, ◌<◌}
use mathlib.Core.Bool.{Bool, true, false, cond, not, ◌&&◌, ◌||◌}
use mathlib.Core.List.Memᴰ
use mathlib.Core.List.{List, [], ◌∷◌, ◌++◌, map, map-append, append-nil, append_assoc, Memᴰ, nil≢cons, cons≢nil, head-eq_of_cons-eq, tail-eq_of_cons-eq}
use mathlib.Core.Path.{◌≡◌, refl, sym, ap, ap₂, ◌∙◌, subst}
use mathlib.Core.Logic.{◌⊎◌, inl, inr}
use native.Mathlib.Nat.{zero-mul, suc-mul, zero-add}
use native.Mathlib.Numerals.{add-one}
use native.Mathlib.Omega.{arith}
use lib.Dec.{T}
use lib.ListN.{length, take, drop, get_or, set, length-append, length-drop}
use lib.Seq.{take-nil, take-take, take-add, drop-drop, ext_get_or, get_or-drop, take-suc-set}
use Rattle.lists.specs.Lists.{cons_if, keep, all, any, how_many, before, is_empty, joined, each, numbered_from, Apart}
use Rattle.lists.proofs.TestLaws.{and_left, and_right, and_both, or_left, or_right, or_cases, is_true, is_false}

-- ---- all, any, keep, each
module _ {A : Type 0} (p : A → Bool) where
  pub all_at : (xs : List A) → T (all p xs) → {x : A} → Memᴰ x xs → T (p x)
  all_at [] t m = absurd (Memᴰ.not-nil m)
  all_at (y ∷ ys) t {x} m = go (Memᴰ.cases_cons m) (λ (k : Memᴰ x ys). all_at ys (and_right (p y) (all p ys) t) k)
    where
      go : (x ≡ y) ⊎ Memᴰ x ys → (Memᴰ x ys → T (p x)) → T (p x)
      go (inl e) f = subst (λ (z : A). T (p z)) (sym e) (and_left (p y) (all p ys) t)
      go (inr k) f = f k

  pub all_of : (xs : List A) → ((x : A) → Memᴰ x xs → T (p x)) → T (all p xs)
  all_of [] f = tt
  all_of (y ∷ ys) f = and_both (p y) (all p ys) (f y (Memᴰ.head refl)) (all_of ys (λ x m. f x (Memᴰ.tail m)))

  pub any_of : (xs : List A) {x : A} → Memᴰ x xs → T (p x) → T (any p xs)
  any_of [] m t = absurd (Memᴰ.not-nil m)
  any_of (y ∷ ys) {x} m t = go (Memᴰ.cases_cons m) (λ (k : Memᴰ x ys). any_of ys k t)
    where
      go : (x ≡ y) ⊎ Memᴰ x ys → (Memᴰ x ys → T (any p ys)) → T (p y || any p ys)
      go (inl e) f = or_left (p y) (any p ys) (subst (λ (z : A). T (p z)) e t)
      go (inr k) f = or_right (p y) (any p ys) (f k)

  pub any_at : (xs : List A) → T (any p xs) → (x : A) × Memᴰ x xs × T (p x)
  any_at [] t = absurd t
  any_at (y ∷ ys) t = go (or_cases (p y) (any p ys) t) (λ (k : T (any p ys)). any_at ys k)
    where
      go : T (p y) ⊎ T (any p ys) → (T (any p ys) → (x : A) × Memᴰ x ys × T (p x)) → (x : A) × Memᴰ x (y ∷ ys) × T (p x)
      go (inl s) f = (y, Memᴰ.head refl, s)
      go (inr s) f = let r = f s in (r.0, Memᴰ.tail r.1, r.2)

  mem_cons_if : (b : Bool) {x y : A} {zs : List A} → Memᴰ x (cons_if b y zs) → (T b × (x ≡ y)) ⊎ Memᴰ x zs
  mem_cons_if true {x} {y} {zs} m = go (Memᴰ.cases_cons m)
    where
      go : (x ≡ y) ⊎ Memᴰ x zs → (T true × (x ≡ y)) ⊎ Memᴰ x zs
      go (inl e) = inl (tt, e)
      go (inr k) = inr k
  mem_cons_if false m = inr m

  cons_if_tail : (b : Bool) {x : A} (y : A) {zs : List A} → Memᴰ x zs → Memᴰ x (cons_if b y zs)
  cons_if_tail true y m = Memᴰ.tail m
  cons_if_tail false y m = m

  cons_if_head : (b : Bool) {x y : A} (zs : List A) → T b → x ≡ y → Memᴰ x (cons_if b y zs)
  cons_if_head true zs t e = Memᴰ.head e
  cons_if_head false zs t e = absurd t

  pub keep_at : (xs : List A) {x : A} → Memᴰ x (keep p xs) → Memᴰ x xs × T (p x)
  keep_at [] m = absurd (Memᴰ.not-nil m)
  keep_at (y ∷ ys) {x} m = go (mem_cons_if (p y) m) (λ (k : Memᴰ x (keep p ys)). keep_at ys k)
    where
      go : (T (p y) × (x ≡ y)) ⊎ Memᴰ x (keep p ys) → (Memᴰ x (keep p ys) → Memᴰ x ys × T (p x)) → Memᴰ x (y ∷ ys) × T (p x)
      go (inl h) f = (Memᴰ.head h.1, subst (λ (z : A). T (p z)) (sym h.1) h.0)
      go (inr k) f = let r = f k in (Memᴰ.tail r.0, r.1)

  pub keep_of : (xs : List A) {x : A} → Memᴰ x xs → T (p x) → Memᴰ x (keep p xs)
  keep_of [] m t = absurd (Memᴰ.not-nil m)
  keep_of (y ∷ ys) {x} m t = go (Memᴰ.cases_cons m) (λ (k : Memᴰ x ys). keep_of ys k t)
    where
      go : (x ≡ y) ⊎ Memᴰ x ys → (Memᴰ x ys → Memᴰ x (keep p ys)) → Memᴰ x (cons_if (p y) y (keep p ys))
      go (inl e) f = cons_if_head (p y) (keep p ys) (subst (λ (z : A). T (p z)) e t) e
      go (inr k) f = cons_if_tail (p y) y (f k)

module _ {A B : Type 0} (f : A → List B) where
  pub each_of : (xs : List A) {x : A} {y : B} → Memᴰ x xs → Memᴰ y (f x) → Memᴰ y (each xs f)
  each_of [] m k = absurd (Memᴰ.not-nil m)
  each_of (z ∷ zs) {x} {y} m k = go (Memᴰ.cases_cons m) (λ (h : Memᴰ x zs). each_of zs h k)
    where
      go : (x ≡ z) ⊎ Memᴰ x zs → (Memᴰ x zs → Memᴰ y (each zs f)) → Memᴰ y (f z ++ each zs f)
      go (inl e) g = Memᴰ.append_left (each zs f) (subst (λ (w : A). Memᴰ y (f w)) e k)
      go (inr h) g = Memᴰ.append_right (f z) (g h)

  pub each_at : (xs : List A) {y : B} → Memᴰ y (each xs f) → (x : A) × Memᴰ x xs × Memᴰ y (f x)
  each_at [] m = absurd (Memᴰ.not-nil m)
  each_at (z ∷ zs) {y} m = go (Memᴰ.append_cases (f z) m) (λ (h : Memᴰ y (each zs f)). each_at zs h)
    where
      go : Memᴰ y (f z) ⊎ Memᴰ y (each zs f) → (Memᴰ y (each zs f) → (x : A) × Memᴰ x zs × Memᴰ y (f x)) → (x : A) × Memᴰ x (z ∷ zs) × Memᴰ y (f x)
      go (inl h) g = (z, Memᴰ.head refl, h)
      go (inr h) g = let r = g h in (r.0, Memᴰ.tail r.1, r.2)

module _ {A : Type 0} where
  pub all_same : (p q : A → Bool) (xs : List A) → ((x : A) → Memᴰ x xs → p x ≡ q x) → all p xs ≡ all q xs
  all_same p q [] h = refl
  all_same p q (x ∷ xs) h = ap₂ (λ (a b : Bool). a && b) (h x (Memᴰ.head refl)) (all_same p q xs (λ z m. h z (Memᴰ.tail m)))

  pub all_append : (p : A → Bool) (xs ys : List A) → all p (xs ++ ys) ≡ all p xs && all p ys
  all_append p [] ys = refl
  all_append p (x ∷ xs) ys = go (p x) (all_append p xs ys)
    where
      go : (b : Bool) → all p (xs ++ ys) ≡ all p xs && all p ys → b && all p (xs ++ ys) ≡ (b && all p xs) && all p ys
      go true e = e
      go false e = refl

  pub any_same : (p q : A → Bool) (xs : List A) → ((x : A) → Memᴰ x xs → p x ≡ q x) → any p xs ≡ any q xs
  any_same p q [] f = refl
  any_same p q (x ∷ xs) f = ap₂ ◌||◌ (f x (Memᴰ.head refl)) (any_same p q xs (λ y m. f y (Memᴰ.tail m)))

  pub all_insert : (p : A → Bool) (m : A) (xs ys : List A) → T (all p (xs ++ ys)) → T (p m) → T (all p (xs ++ (m ∷ ys)))
  all_insert p m [] ys t s = and_both (p m) (all p ys) s t
  all_insert p m (x ∷ xs) ys t s = and_both (p x) (all p (xs ++ (m ∷ ys))) (and_left (p x) (all p (xs ++ ys)) t) (all_insert p m xs ys (and_right (p x) (all p (xs ++ ys)) t) s)

  pub nothing_in : (xs : List A) → ((x : A) → Memᴰ x xs → ⊥) → xs ≡ []
  nothing_in [] f = refl
  nothing_in (x ∷ xs) f = absurd (f x (Memᴰ.head refl))

-- ---- how many entries pass
module _ {A : Type 0} (p : A → Bool) where
  pub how_many_zero : (xs : List A) → how_many p xs ≡ 0 → {x : A} → Memᴰ x xs → T (p x) → ⊥
  how_many_zero [] e m t = Memᴰ.not-nil m
  how_many_zero (y ∷ ys) e {x} m t = go (Memᴰ.cases_cons m) (p y) refl e (λ (g : how_many p ys ≡ 0) (k : Memᴰ x ys). how_many_zero ys g k t)
    where
      go : (x ≡ y) ⊎ Memᴰ x ys → (b : Bool) → p y ≡ b → cond b 1 0 + how_many p ys ≡ 0 → (how_many p ys ≡ 0 → Memᴰ x ys → ⊥) → ⊥
      go k true f g r = omega arith
      go (inl h) false f g r = subst T (ap p h ∙ f) t
      go (inr h) false f g r = r (omega arith) h

  pub how_many_pos : (xs : List A) {x : A} → Memᴰ x xs → T (p x) → 0 < how_many p xs
  how_many_pos [] m t = absurd (Memᴰ.not-nil m)
  how_many_pos (y ∷ ys) {x} m t = go (Memᴰ.cases_cons m) (p y) refl (λ (k : Memᴰ x ys). how_many_pos ys k t)
    where
      go : (x ≡ y) ⊎ Memᴰ x ys → (b : Bool) → p y ≡ b → (Memᴰ x ys → 0 < how_many p ys) → 0 < cond b 1 0 + how_many p ys
      go k true f r = omega arith
      go (inl h) false f r = absurd (subst T (ap p h ∙ f) t)
      go (inr h) false f r = let g = r h in omega arith

  pub how_many_any : (xs : List A) → 0 < how_many p xs → T (any p xs)
  how_many_any [] h = absurd (omega arith)
  how_many_any (y ∷ ys) h = go (p y) h (λ (k : 0 < how_many p ys). how_many_any ys k)
    where
      go : (b : Bool) → 0 < cond b 1 0 + how_many p ys → (0 < how_many p ys → T (any p ys)) → T (b || any p ys)
      go true k f = tt
      go false k f = f (omega arith)

  -- where one passes, any two that pass are the same
  pub how_many_one : (xs : List A) → how_many p xs ≡ 1 → {x y : A} → Memᴰ x xs → Memᴰ y xs → T (p x) → T (p y) → x ≡ y
  how_many_one [] e m k s t = absurd (Memᴰ.not-nil m)
  how_many_one (z ∷ zs) e {x} {y} m k s t =
      go (Memᴰ.cases_cons m) (Memᴰ.cases_cons k) (p z) refl e (λ (g : how_many p zs ≡ 1) (h : Memᴰ x zs) (l : Memᴰ y zs). how_many_one zs g h l s t)
    where
      go : (x ≡ z) ⊎ Memᴰ x zs → (y ≡ z) ⊎ Memᴰ y zs → (b : Bool) → p z ≡ b → cond b 1 0 + how_many p zs ≡ 1
          → (how_many p zs ≡ 1 → Memᴰ x zs → Memᴰ y zs → x ≡ y) → x ≡ y
      go (inl h) (inl l) b f g r = h ∙ sym l
      go (inl h) (inr l) true f g r = absurd (how_many_zero zs (omega arith) l t)
      go (inr h) (inl l) true f g r = absurd (how_many_zero zs (omega arith) h s)
      go (inr h) (inr l) true f g r = absurd (how_many_zero zs (omega arith) h s)
      go (inl h) (inr l) false f g r = absurd (subst T (ap p h ∙ f) s)
      go (inr h) (inl l) false f g r = absurd (subst T (ap p l ∙ f) t)
      go (inr h) (inr l) false f g r = r (omega arith) h l

pub how_many_map : {A B : Type 0} (p : B → Bool) (f : A → B) (xs : List A) → how_many p (map f xs) ≡ how_many (λ x. p (f x)) xs
how_many_map p f [] = refl
how_many_map p f (x ∷ xs) = ap (λ (n : ℕ). cond (p (f x)) 1 0 + n) (how_many_map p f xs)

pub how_many_same_in : {A : Type 0} (p q : A → Bool) (xs : List A) → ((x : A) → Memᴰ x xs → p x ≡ q x) → how_many p xs ≡ how_many q xs
how_many_same_in p q [] h = refl
how_many_same_in p q (x ∷ xs) h =
    ap₂ (λ (b : Bool) (n : ℕ). cond b 1 0 + n) (h x (Memᴰ.head refl)) (how_many_same_in p q xs (λ y m. h y (Memᴰ.tail m)))

pub how_many_same : {A : Type 0} (p q : A → Bool) (xs : List A) → ((x : A) → p x ≡ q x) → how_many p xs ≡ how_many q xs
how_many_same p q xs h = how_many_same_in p q xs (λ x m. h x)

-- ---- a list that is not empty
pub nonempty_length : {A : Type 0} (xs : List A) → is_empty xs ≡ false → 0 < length xs
nonempty_length [] e = absurd (subst T e tt)
nonempty_length (x ∷ xs) e = omega arith

-- ---- keep
module _ {A : Type 0} where
  pub keep_same : (p q : A → Bool) (xs : List A) → ((x : A) → Memᴰ x xs → p x ≡ q x) → keep p xs ≡ keep q xs
  keep_same p q [] f = refl
  keep_same p q (x ∷ xs) f = ap₂ (λ (b : Bool) (l : List A). cons_if b x l) (f x (Memᴰ.head refl)) (keep_same p q xs (λ z m. f z (Memᴰ.tail m)))

  pub keep_none : (p : A → Bool) (xs : List A) → ((x : A) → Memᴰ x xs → T (p x) → ⊥) → keep p xs ≡ []
  keep_none p [] f = refl
  keep_none p (x ∷ xs) f = ap₂ (λ (b : Bool) (l : List A). cons_if b x l) (is_false (p x) (f x (Memᴰ.head refl))) (keep_none p xs (λ z m. f z (Memᴰ.tail m)))

  pub keep_keep : (p q : A → Bool) (xs : List A) → keep q (keep p xs) ≡ keep (λ x. p x && q x) xs
  keep_keep p q [] = refl
  keep_keep p q (x ∷ xs) = go (p x) (keep_keep p q xs)
    where
      go : (b : Bool) → keep q (keep p xs) ≡ keep (λ z. p z && q z) xs → keep q (cons_if b x (keep p xs)) ≡ cons_if (b && q x) x (keep (λ z. p z && q z) xs)
      go true e = ap (λ (l : List A). cons_if (q x) x l) e
      go false e = e

pub keep_fails : {A : Type 0} (p : A → Bool) (xs : List A) → ((x : A) → Memᴰ x xs → p x ≡ false) → keep p xs ≡ []
keep_fails p xs h = keep_none p xs (λ x m t. subst T (h x m) t)

pub keep_all : {A : Type 0} (xs : List A) → keep (λ x. true) xs ≡ xs
keep_all [] = refl
keep_all {A} (x ∷ xs) = ap (λ (l : List A). x ∷ l) (keep_all xs)

pub keep_append : {A : Type 0} (p : A → Bool) (xs ys : List A) → keep p (xs ++ ys) ≡ keep p xs ++ keep p ys
keep_append p [] ys = refl
keep_append p (x ∷ xs) ys = go (p x) (keep_append p xs ys)
  where
    go : (b : Bool) → keep p (xs ++ ys) ≡ keep p xs ++ keep p ys → cons_if b x (keep p (xs ++ ys)) ≡ cons_if b x (keep p xs) ++ keep p ys
    go true e = ap (λ (l : List _). x ∷ l) e
    go false e = e

-- one entry more at the end
pub keep_with : {A : Type 0} (p : A → Bool) (xs : List A) (x : A) → p x ≡ true → keep p (xs ++ (x ∷ [])) ≡ keep p xs ++ (x ∷ [])
keep_with p xs x e = keep_append p xs (x ∷ []) ∙ ap (λ (b : Bool). keep p xs ++ cons_if b x []) e

pub keep_without : {A : Type 0} (p : A → Bool) (xs : List A) (x : A) → p x ≡ false → keep p (xs ++ (x ∷ [])) ≡ keep p xs
keep_without p xs x e = keep_append p xs (x ∷ []) ∙ ap (λ (b : Bool). keep p xs ++ cons_if b x []) e ∙ append-nil (keep p xs)

pub keep_each : {A B : Type 0} (p : B → Bool) (f : A → List B) (xs : List A) → keep p (each xs f) ≡ each xs (λ x. keep p (f x))
keep_each p f [] = refl
keep_each p f (x ∷ xs) = keep_append p (f x) (each xs f) ∙ ap (λ (l : List _). keep p (f x) ++ l) (keep_each p f xs)

-- ---- a list, and the list that a function makes of it
module _ {A B : Type 0} (f : A → B) where
  pub all_map : (p : B → Bool) (xs : List A) → all p (map f xs) ≡ all (λ x. p (f x)) xs
  all_map p [] = refl
  all_map p (x ∷ xs) = ap (λ (b : Bool). p (f x) && b) (all_map p xs)

  pub keep_map : (p : B → Bool) (xs : List A) → keep p (map f xs) ≡ map f (keep (λ x. p (f x)) xs)
  keep_map p [] = refl
  keep_map p (x ∷ xs) = go (p (f x)) (keep_map p xs)
    where
      go : (b : Bool) → keep p (map f xs) ≡ map f (keep (λ y. p (f y)) xs) → cons_if b (f x) (keep p (map f xs)) ≡ map f (cons_if b x (keep (λ y. p (f y)) xs))
      go true e = ap (λ (l : List B). f x ∷ l) e
      go false e = e

  pub drop_map : (k : ℕ) (xs : List A) → drop k (map f xs) ≡ map f (drop k xs)
  drop_map zero xs = refl
  drop_map (suc k) [] = refl
  drop_map (suc k) (x ∷ xs) = drop_map k xs

  module _ {C : Type 0} where
    pub each_map : (g : B → List C) (xs : List A) → each (map f xs) g ≡ each xs (λ x. g (f x))
    each_map g [] = refl
    each_map g (x ∷ xs) = ap (λ (l : List C). g (f x) ++ l) (each_map g xs)

    pub numbered_map : (g : ℕ → B → C) (i : ℕ) (xs : List A) → numbered_from i (map f xs) g ≡ numbered_from i xs (λ n x. g n (f x))
    numbered_map g i [] = refl
    numbered_map g i (x ∷ xs) = ap (λ (l : List C). g i (f x) ∷ l) (numbered_map g (suc i) xs)

pub any_keep : {A : Type 0} (p q : A → Bool) (xs : List A) → any q (keep p xs) ≡ any (λ x. p x && q x) xs
any_keep p q [] = refl
any_keep p q (x ∷ xs) = go (p x) (any_keep p q xs)
  where
    go : (b : Bool) → any q (keep p xs) ≡ any (λ z. p z && q z) xs → any q (cons_if b x (keep p xs)) ≡ (b && q x) || any (λ z. p z && q z) xs
    go true e = ap (λ (b : Bool). q x || b) e
    go false e = e

pub any_map : {A B : Type 0} (p : B → Bool) (f : A → B) (xs : List A) → any p (map f xs) ≡ any (λ x. p (f x)) xs
any_map p f [] = refl
any_map p f (x ∷ xs) = ap (λ (b : Bool). p (f x) || b) (any_map p f xs)

pub map_same : {A B : Type 0} (f g : A → B) (xs : List A) → ((x : A) → Memᴰ x xs → f x ≡ g x) → map f xs ≡ map g xs
map_same f g [] h = refl
map_same f g (x ∷ xs) h = ap₂ (λ (a : _) (l : List _). a ∷ l) (h x (Memᴰ.head refl)) (map_same f g xs (λ z m. h z (Memᴰ.tail m)))

-- a function that leaves each entry as it is leaves the list as it is
pub map_still : {A : Type 0} (f : A → A) (xs : List A) → ((x : A) → Memᴰ x xs → f x ≡ x) → map f xs ≡ xs
map_still f [] h = refl
map_still f (x ∷ xs) h = (λ i. h x (Memᴰ.head refl) i ∷ map_still f xs (λ z m. h z (Memᴰ.tail m)) i)

pub map_each : {A B C : Type 0} (f : B → C) (g : A → List B) (xs : List A) → map f (each xs g) ≡ each xs (λ x. map f (g x))
map_each f g [] = refl
map_each f g (x ∷ xs) = map-append f (g x) (each xs g) ∙ ap (λ (l : List _). map f (g x) ++ l) (map_each f g xs)

pub map_same_at : {A : Type 0} (f g : A → ℕ) (xs : List A) → map f xs ≡ map g xs → (x : A) → Memᴰ x xs → f x ≡ g x
map_same_at f g [] e x m = absurd (Memᴰ.not-nil m)
map_same_at f g (y ∷ ys) e x m = go (Memᴰ.cases_cons m) (λ (k : Memᴰ x ys). map_same_at f g ys (tail-eq_of_cons-eq e) x k)
  where
    go : (x ≡ y) ⊎ Memᴰ x ys → (Memᴰ x ys → f x ≡ g x) → f x ≡ g x
    go (inl i) r = ap f i ∙ head-eq_of_cons-eq e ∙ ap g (sym i)
    go (inr k) r = r k

-- lists that are the same under f and g are the same under what f and g tell
pub map_through : {A B C D : Type 0} (f : A → C) (g : B → C) (F : A → D) (G : B → D) (xs : List A) (ys : List B)
    → ((x : A) (y : B) → Memᴰ x xs → Memᴰ y ys → f x ≡ g y → F x ≡ G y) → map f xs ≡ map g ys → map F xs ≡ map G ys
map_through f g F G [] [] h e = refl
map_through f g F G [] (y ∷ ys) h e = absurd (nil≢cons e)
map_through f g F G (x ∷ xs) [] h e = absurd (cons≢nil e)
map_through f g F G (x ∷ xs) (y ∷ ys) h e =
    ap₂ (λ (a : _) (l : List _). a ∷ l) (h x y (Memᴰ.head refl) (Memᴰ.head refl) (head-eq_of_cons-eq e))
    (map_through f g F G xs ys (λ a b m k. h a b (Memᴰ.tail m) (Memᴰ.tail k)) (tail-eq_of_cons-eq e))

-- ---- each
pub each_append : {A B : Type 0} (xs ys : List A) (f : A → List B) → each (xs ++ ys) f ≡ each xs f ++ each ys f
each_append [] ys f = refl
each_append (x ∷ xs) ys f = ap (λ (l : List _). f x ++ l) (each_append xs ys f) ∙ sym (append_assoc (f x) (each xs f) (each ys f))

pub each_same_in : {A B : Type 0} (f g : A → List B) (xs : List A) → ((x : A) → Memᴰ x xs → f x ≡ g x) → each xs f ≡ each xs g
each_same_in f g [] h = refl
each_same_in f g (x ∷ xs) h = ap₂ (λ (a b : List _). a ++ b) (h x (Memᴰ.head refl)) (each_same_in f g xs (λ z m. h z (Memᴰ.tail m)))

pub each_same : {A B : Type 0} (f g : A → List B) (xs : List A) → ((x : A) → f x ≡ g x) → each xs f ≡ each xs g
each_same f g xs h = each_same_in f g xs (λ x m. h x)

-- entries that give nothing may be left out
pub each_keep : {A B : Type 0} (p : A → Bool) (f : A → List B) (xs : List A) → ((x : A) → Memᴰ x xs → T (not (p x)) → f x ≡ []) → each (keep p xs) f ≡ each xs f
each_keep p f [] h = refl
each_keep p f (x ∷ xs) h = go (p x) (h x (Memᴰ.head refl)) (each_keep p f xs (λ z m t. h z (Memᴰ.tail m) t))
  where
    go : (b : Bool) → (T (not b) → f x ≡ []) → each (keep p xs) f ≡ each xs f → each (cons_if b x (keep p xs)) f ≡ f x ++ each xs f
    go true g e = ap (λ (l : List _). f x ++ l) e
    go false g e = e ∙ ap (λ (l : List _). l ++ each xs f) (sym (g tt))

pub each_empty : {A B : Type 0} (f : A → List B) (xs : List A) → ((x : A) → f x ≡ []) → each xs f ≡ []
each_empty f [] h = refl
each_empty f (x ∷ xs) h = ap₂ (λ (a b : List _). a ++ b) (h x) (each_empty f xs h)

pub keep_one_each : {A B : Type 0} (p : B → Bool) (f : A → B) (xs : List A) → keep p (map f xs) ≡ each xs (λ x. cons_if (p (f x)) (f x) [])
keep_one_each p f [] = refl
keep_one_each p f (x ∷ xs) = go (p (f x)) (keep_one_each p f xs)
  where
    go : (b : Bool) → keep p (map f xs) ≡ each xs (λ y. cons_if (p (f y)) (f y) []) → cons_if b (f x) (keep p (map f xs)) ≡ cons_if b (f x) [] ++ each xs (λ y. cons_if (p (f y)) (f y) [])
    go true e = ap (λ (l : List _). f x ∷ l) e
    go false e = e

pub each_length : {A : Type 0} (n : ℕ) (f : A → List ℕ) (xs : List A) → ((x : A) → length (f x) ≡ n) → length (each xs f) ≡ length xs * n
each_length n f [] h = sym (zero-mul n)
each_length n f (x ∷ xs) h =
    let a = length-append (f x) (each xs f) in
    let b = h x in
    let c = each_length n f xs h in
    let d = suc-mul (length xs) n in
    omega arith

-- two numbers for each entry
pub two_at : {A : Type 0} (a b a' b' : A → ℕ) (xs : List A) → each xs (λ x. a x ∷ b x ∷ []) ≡ each xs (λ x. a' x ∷ b' x ∷ []) → (x : A) → Memᴰ x xs → (a x ≡ a' x) × (b x ≡ b' x)
two_at a b a' b' [] e x m = absurd (Memᴰ.not-nil m)
two_at a b a' b' (y ∷ ys) e x m = go (Memᴰ.cases_cons m) (λ (k : Memᴰ x ys). two_at a b a' b' ys (tail-eq_of_cons-eq (tail-eq_of_cons-eq e)) x k)
  where
    go : (x ≡ y) ⊎ Memᴰ x ys → (Memᴰ x ys → (a x ≡ a' x) × (b x ≡ b' x)) → (a x ≡ a' x) × (b x ≡ b' x)
    go (inl i) f = subst (λ z. (a z ≡ a' z) × (b z ≡ b' z)) (sym i) (head-eq_of_cons-eq e, head-eq_of_cons-eq (tail-eq_of_cons-eq e))
    go (inr k) f = f k

module _ {A : Type 0} (p q : A → ℕ) where
  pub pairs_first : (xs : List A) (n : ℕ) → get_or (each xs (λ x. p x ∷ q x ∷ [])) (2 * n + 0) 0 ≡ get_or (map p xs) n 0
  pairs_first [] n = refl
  pairs_first (x ∷ xs) zero = refl
  pairs_first (x ∷ xs) (suc n) =
      ap (λ (k : ℕ). get_or (p x ∷ q x ∷ each xs (λ y. p y ∷ q y ∷ [])) k 0) {x = 2 * suc n + 0} {y = suc (suc (2 * n + 0))} (omega arith) ∙ pairs_first xs n

  pub pairs_second : (xs : List A) (n : ℕ) → get_or (each xs (λ x. p x ∷ q x ∷ [])) (2 * n + 1) 0 ≡ get_or (map q xs) n 0
  pairs_second [] n = refl
  pairs_second (x ∷ xs) zero = refl
  pairs_second (x ∷ xs) (suc n) =
      ap (λ (k : ℕ). get_or (p x ∷ q x ∷ each xs (λ y. p y ∷ q y ∷ [])) k 0) {x = 2 * suc n + 1} {y = suc (suc (2 * n + 1))} (omega arith) ∙ pairs_second xs n

-- ---- lists joined
pub joined_of : {A : Type 0} (xss : List (List A)) {xs : List A} {z : A} → Memᴰ xs xss → Memᴰ z xs → Memᴰ z (joined xss)
joined_of [] m k = absurd (Memᴰ.not-nil m)
joined_of (ys ∷ xss) {xs} {z} m k = go (Memᴰ.cases_cons m) (λ (h : Memᴰ xs xss). joined_of xss h k)
  where
    go : (xs ≡ ys) ⊎ Memᴰ xs xss → (Memᴰ xs xss → Memᴰ z (joined xss)) → Memᴰ z (ys ++ joined xss)
    go (inl e) f = Memᴰ.append_left (joined xss) (subst (λ (l : List _). Memᴰ z l) e k)
    go (inr h) f = Memᴰ.append_right ys (f h)

module _ {A : Type 0} where
  pub joined_at : (xss : List (List A)) {z : A} → Memᴰ z (joined xss) → (xs : List A) × Memᴰ xs xss × Memᴰ z xs
  joined_at [] m = absurd (Memᴰ.not-nil m)
  joined_at (xs ∷ xss) {z} m = go (Memᴰ.append_cases xs m) (λ (k : Memᴰ z (joined xss)). joined_at xss k)
    where
      go : Memᴰ z xs ⊎ Memᴰ z (joined xss) → (Memᴰ z (joined xss) → (ys : List A) × Memᴰ ys xss × Memᴰ z ys) → (ys : List A) × Memᴰ ys (xs ∷ xss) × Memᴰ z ys
      go (inl k) f = (xs, Memᴰ.head refl, k)
      go (inr k) f = let r = f k in (r.0, Memᴰ.tail r.1, r.2)

pub joined_append : {A : Type 0} (xs ys : List (List A)) → joined (xs ++ ys) ≡ joined xs ++ joined ys
joined_append [] ys = refl
joined_append (x ∷ xs) ys = ap (λ (l : List _). x ++ l) (joined_append xs ys) ∙ sym (append_assoc x (joined xs) (joined ys))

pub each_joined : {A B : Type 0} (f : A → List B) (xs : List A) → each xs f ≡ joined (map f xs)
each_joined f [] = refl
each_joined f (x ∷ xs) = ap (λ (l : List _). f x ++ l) (each_joined f xs)

pub length_joined : (n : ℕ) (xs : List (List ℕ)) → ((x : List ℕ) → Memᴰ x xs → length x ≡ n) → length (joined xs) ≡ length xs * n
length_joined n [] h = sym (zero-mul n)
length_joined n (x ∷ xs) h =
    let a = length-append x (joined xs) in
    let b = h x (Memᴰ.head refl) in
    let c = length_joined n xs (λ y m. h y (Memᴰ.tail m)) in
    let d = suc-mul (length xs) n in
    omega arith

-- ---- entries by number, made one after the other
pub numbered_same : {A B : Type 0} (F G : ℕ → A → B) (i : ℕ) (xs : List A) → ((k : ℕ) (x : A) → Memᴰ x xs → F k x ≡ G k x) → numbered_from i xs F ≡ numbered_from i xs G
numbered_same F G i [] h = refl
numbered_same {B = B} F G i (x ∷ xs) h =
    ap₂ (λ (y : B) (l : List B). y ∷ l) (h i x (Memᴰ.head refl)) (numbered_same F G (suc i) xs (λ k z m. h k z (Memᴰ.tail m)))

pub length_numbered : {A B : Type 0} (f : ℕ → A → B) (i : ℕ) (xs : List A) → length (numbered_from i xs f) ≡ length xs
length_numbered f i [] = refl
length_numbered f i (x ∷ xs) = ap suc (length_numbered f (suc i) xs)

-- ---- the first entry that passes
pub before_few : {A : Type 0} (p : A → Bool) (xs : List A) → before p xs ≤ length xs
before_few p [] = omega arith
before_few p (x ∷ xs) = go (p x) (before_few p xs)
  where
    go : (b : Bool) → before p xs ≤ length xs → cond b 0 (suc (before p xs)) ≤ suc (length xs)
    go true h = omega arith
    go false h = omega arith

-- the entry at `before` passes
pub before_at : {A : Type 0} (p : A → Bool) (d : A) (xs : List A) → before p xs < length xs → T (p (get_or xs (before p xs) d))
before_at p d [] h = absurd (omega arith)
before_at {A} p d (x ∷ xs) h = go (p x) refl h (λ (k : before p xs < length xs). before_at p d xs k)
  where
    go : (b : Bool) → p x ≡ b → cond b 0 (suc (before p xs)) < suc (length xs) → (before p xs < length xs → T (p (get_or xs (before p xs) d)))
        → T (p (get_or (x ∷ xs) (cond b 0 (suc (before p xs))) d))
    go true e k f = subst T (sym e) tt
    go false e k f = f (omega arith)

module _ {A : Type 0} where
  -- no entry before it passes
  pub before_most : (p : A → Bool) (d : A) (xs : List A) (n : ℕ) → n < length xs → T (p (get_or xs n d)) → before p xs ≤ n
  before_most p d [] n h t = absurd (omega arith)
  before_most p d (x ∷ xs) zero h t = let e : ◌≡◌ {A = ℕ} (cond (p x) 0 (suc (before p xs))) 0 = ap {B = ℕ} (λ (b : Bool). cond b 0 (suc (before p xs))) (is_true (p x) t) in omega arith
  before_most p d (x ∷ xs) (suc n) h t = go (p x) (before_most p d xs n (omega arith) t)
    where
      go : (b : Bool) → before p xs ≤ n → cond b 0 (suc (before p xs)) ≤ suc n
      go true k = omega arith
      go false k = omega arith

  module _ (d : A) where
    -- the first entry that passes, where one does
    pub before_found : (p : A → Bool) (xs : List A) → T (any p xs) → (before p xs < length xs) × T (p (get_or xs (before p xs) d))
    before_found p [] t = absurd t
    before_found p (x ∷ xs) t = go (p x) (λ b. b) t (λ (u : T (any p xs)). before_found p xs u)
      where
        go : (b : Bool) → (T b → T (p x)) → T (b || any p xs) → (T (any p xs) → (before p xs < length xs) × T (p (get_or xs (before p xs) d)))
            → (cond b 0 (suc (before p xs)) < suc (length xs)) × T (p (get_or (x ∷ xs) (cond b 0 (suc (before p xs))) d))
        go true f u r = (omega arith, f tt)
        go false f u r = let y = r u in let h = y.0 in (omega arith, y.1)

  -- where each that passes t passes u too, the first that passes t is looked for from the first that passes u on
  pub before_by : (t u : A → Bool) (qs : List A) → ((q : A) → Memᴰ q qs → T (t q) → T (u q)) → before t qs ≡ before u qs + before t (drop (before u qs) qs)
  before_by t u [] f = refl
  before_by t u (q ∷ qs) f = go (u q) refl (before_by t u qs (λ x m. f x (Memᴰ.tail m)))
    where
      go : (b : Bool) → u q ≡ b → before t qs ≡ before u qs + before t (drop (before u qs) qs)
          → before t (q ∷ qs) ≡ cond b 0 (suc (before u qs)) + before t (drop (cond b 0 (suc (before u qs))) (q ∷ qs))
      go true e h = sym (zero-add (before t (q ∷ qs)))
      go false e h =
          ap {B = ℕ} (λ (b : Bool). cond b 0 (suc (before t qs))) (is_false (t q) (λ s. subst T e (f q (Memᴰ.head refl) s)))
          ∙ ap suc h ∙ omega arith

  pub before_none : (t : A → Bool) (qs : List A) → ((q : A) → Memᴰ q qs → T (t q) → ⊥) → before t qs ≡ length qs
  before_none t [] f = refl
  before_none t (q ∷ qs) f =
      ap {B = ℕ} (λ (b : Bool). cond b 0 (suc (before t qs))) (is_false (t q) (f q (Memᴰ.head refl))) ∙ ap suc (before_none t qs (λ x m. f x (Memᴰ.tail m)))

-- the first entry that passes, by those before it
pub before_is : {A : Type 0} (p : A → Bool) (d : A) (xs : List A) (i : ℕ) → i ≤ length xs → ((k : ℕ) → k < i → T (p (get_or xs k d)) → ⊥) → (i < length xs → T (p (get_or xs i d))) → before p xs ≡ i
before_is p d [] i h f g = omega arith
before_is p d (x ∷ xs) zero h f g = ap {B = ℕ} (λ (b : Bool). cond b 0 (suc (before p xs))) (is_true (p x) (g (omega arith)))
before_is p d (x ∷ xs) (suc i) h f g =
    ap {B = ℕ} (λ (b : Bool). cond b 0 (suc (before p xs))) (is_false (p x) (f 0 (omega arith)))
    ∙ ap suc (before_is p d xs i (omega arith) (λ k l. f (suc k) (omega arith)) (λ l. g (omega arith)))

module _ {A B : Type 0} (f : A → B) where
  pub before_map : (p : A → Bool) (q : B → Bool) → ((x : A) → q (f x) ≡ p x) → (xs : List A) → before q (map f xs) ≡ before p xs
  before_map p q h [] = refl
  before_map p q h (x ∷ xs) = ap₂ {C = ℕ} (λ (b : Bool) (n : ℕ). cond b 0 (suc n)) (h x) (before_map p q h xs)

-- ---- entries and their numbers
module _ {A : Type 0} (d : A) where
  pub get_or_mem : (xs : List A) (r : ℕ) → r < length xs → Memᴰ (get_or xs r d) xs
  get_or_mem [] r h = absurd (omega arith)
  get_or_mem (x ∷ xs) zero h = Memᴰ.head refl
  get_or_mem (x ∷ xs) (suc r) h = Memᴰ.tail (get_or_mem xs r (omega arith))

  pub mem_get_or : (xs : List A) {x : A} → Memᴰ x xs → (r : ℕ) × (r < length xs) × (get_or xs r d ≡ x)
  mem_get_or [] m = absurd (Memᴰ.not-nil m)
  mem_get_or (y ∷ ys) {x} m = go (Memᴰ.cases_cons m) (λ (k : Memᴰ x ys). mem_get_or ys k)
    where
      go : (x ≡ y) ⊎ Memᴰ x ys → (Memᴰ x ys → (r : ℕ) × (r < length ys) × (get_or ys r d ≡ x)) → (r : ℕ) × (r < suc (length ys)) × (get_or (y ∷ ys) r d ≡ x)
      go (inl e) f = (zero, omega arith, sym e)
      go (inr k) f = let r = f k in (suc r.0, (let h = r.1 in omega arith), r.2)

pub all_get_or : {A : Type 0} (p : A → Bool) (d : A) (xs : List A) → T (all p xs) → (i : ℕ) → i < length xs → T (p (get_or xs i d))
all_get_or p d [] h i l = absurd (omega arith)
all_get_or p d (x ∷ xs) h zero l = and_left (p x) (all p xs) h
all_get_or p d (x ∷ xs) h (suc i) l = all_get_or p d xs (and_right (p x) (all p xs) h) i (omega arith)

pub get_or_map : {A B : Type 0} (d : A) (e : B) (g : A → B) (xs : List A) (i : ℕ) → i < length xs → get_or (map g xs) i e ≡ g (get_or xs i d)
get_or_map d e g [] i h = absurd (omega arith)
get_or_map d e g (x ∷ xs) zero h = refl
get_or_map d e g (x ∷ xs) (suc i) h = get_or_map d e g xs i (omega arith)

pub get_or_pos : (xs : List ℕ) (k : ℕ) → 0 < get_or xs k 0 → k < length xs
get_or_pos [] k h = absurd (omega arith)
get_or_pos (x ∷ xs) zero h = omega arith
get_or_pos (x ∷ xs) (suc k) h = let r = get_or_pos xs k h in omega arith

pub get_or_inside : {A : Type 0} (xs : List A) (k : ℕ) (d : A) → (get_or xs k d ≡ d → ⊥) → k < length xs
get_or_inside [] k d h = absurd (h refl)
get_or_inside (x ∷ xs) zero d h = omega arith
get_or_inside (x ∷ xs) (suc k) d h = let i = get_or_inside xs k d h in omega arith

-- ---- parts of a list
pub drop_in : {A : Type 0} (n : ℕ) (xs : List A) {x : A} → Memᴰ x (drop n xs) → Memᴰ x xs
drop_in zero xs m = m
drop_in (suc n) [] m = m
drop_in (suc n) (y ∷ ys) m = Memᴰ.tail (drop_in n ys m)

pub take_in : {A : Type 0} (n : ℕ) (xs : List A) {x : A} → Memᴰ x (take n xs) → Memᴰ x xs
take_in zero xs m = absurd (Memᴰ.not-nil m)
take_in (suc n) [] m = m
take_in (suc n) (y ∷ ys) {x} m = go (Memᴰ.cases_cons m) (λ (k : Memᴰ x (take n ys)). take_in n ys k)
  where
    go : (x ≡ y) ⊎ Memᴰ x (take n ys) → (Memᴰ x (take n ys) → Memᴰ x ys) → Memᴰ x (y ∷ ys)
    go (inl e) f = Memᴰ.head e
    go (inr k) f = Memᴰ.tail (f k)

pub take_min : {A : Type 0} (n : ℕ) (xs : List A) → take (length (take n xs)) xs ≡ take n xs
take_min zero xs = refl
take_min (suc n) [] = refl
take_min (suc n) (x ∷ xs) = ap (λ (l : List _). x ∷ l) (take_min n xs)

-- the end of a front part
pub drop_take : (k m : ℕ) (xs : List ℕ) → drop k (take m xs) ≡ take (m - k) (drop k xs)
drop_take zero m xs = let e : m ≡ m - 0 = omega arith in ap (λ (n : ℕ). take n xs) e
drop_take (suc k) zero xs = let e : 0 ≡ 0 - suc k = omega arith in ap (λ (n : ℕ). take n (drop (suc k) xs)) e
drop_take (suc k) (suc m) [] = sym (take-nil (suc m - suc k))
drop_take (suc k) (suc m) (x ∷ xs) = let e : m - k ≡ suc m - suc k = omega arith in drop_take k m xs ∙ ap (λ (n : ℕ). take n (drop k xs)) e

-- a part of a front part is that of the whole
pub front_part : (a n m : ℕ) (xs : List ℕ) → a + m ≤ n → take m (drop a (take n xs)) ≡ take m (drop a xs)
front_part a n m xs h = ap (take m) (drop_take a n xs) ∙ take-take m (n - a) (drop a xs) (omega arith)

pub take_split : (l : List ℕ) (a n : ℕ) → a ≤ n → take n l ≡ take a l ++ take (n - a) (drop a l)
take_split l a n h = let e : n ≡ a + (n - a) = omega arith in ap (λ (k : ℕ). take k l) e ∙ take-add a (n - a) l

pub drop_later : (a b : ℕ) (xs ys : List ℕ) → a ≤ b → drop a xs ≡ drop a ys → drop b xs ≡ drop b ys
drop_later a b xs ys h e =
    let k : b ≡ a + (b - a) = omega arith in
    ap (λ (m : ℕ). drop m xs) k ∙ sym (drop-drop (b - a) a xs) ∙ ap (drop (b - a)) e ∙ drop-drop (b - a) a ys ∙ ap (λ (m : ℕ). drop m ys) (sym k)

-- lists that agree from n on agree from n + 1 on
pub drop_next : (n : ℕ) (xs ys : List ℕ) → drop n xs ≡ drop n ys → drop (n + 1) xs ≡ drop (n + 1) ys
drop_next n xs ys e = sym (drop-drop 1 n xs) ∙ ap (λ (l : List ℕ). drop 1 l) e ∙ drop-drop 1 n ys

-- lists that are the same from n on
pub drop_same : (n : ℕ) (xs ys : List ℕ) → length xs ≡ length ys → ((i : ℕ) → n ≤ i → get_or xs i 0 ≡ get_or ys i 0) → drop n xs ≡ drop n ys
drop_same n xs ys e f =
    ext_get_or 0 (drop n xs) (drop n ys) (let a = length-drop n xs in let b = length-drop n ys in omega arith)
    (λ i h. get_or-drop n xs i 0 ∙ f (n + i) (omega arith) ∙ sym (get_or-drop n ys i 0))

-- a number put behind the first n
pub take_set_next : (path : List ℕ) (n r : ℕ) → n < length path → take (n + 1) (set path n r) ≡ take n path ++ (r ∷ [])
take_set_next path n r h = rw add-one (take-suc-set path n r h)

-- ---- the first entry
pub take_one : {A : Type 0} (xs : List A) (x : A) → Memᴰ x (take 1 xs) → take 1 xs ≡ x ∷ []
take_one [] x m = absurd (Memᴰ.not-nil m)
take_one (y ∷ ys) x m = ap (λ (z : _). z ∷ []) (sym (Memᴰ.eq_of_singleton m))

module _ {A : Type 0} where
  -- the first entry
  pub head_at : (xs : List A) → T (not (is_empty xs)) → (x : A) × (take 1 xs ≡ x ∷ []) × Memᴰ x xs
  head_at [] t = absurd t
  head_at (x ∷ xs) t = (x, refl, Memᴰ.head refl)

-- at most one entry of the first
pub one_at : {A : Type 0} (xs : List A) (p q : A → Bool) → T (any p (take 1 xs)) → T (any q (take 1 xs)) → (x : A) × T (p x) × T (q x)
one_at [] p q s t = absurd s
one_at (x ∷ xs) p q s t =
    let a = any_at p (x ∷ []) s in
    let b = any_at q (x ∷ []) t in
    (x, subst (λ z. T (p z)) (Memᴰ.eq_of_singleton a.1) a.2, subst (λ z. T (q z)) (Memᴰ.eq_of_singleton b.1) b.2)

-- ---- lists without repetition
module _ {A : Type 0} where
  pub apart_append : (xs ys : List A) → Apart xs → Apart ys → ((z : A) → Memᴰ z xs → Memᴰ z ys → ⊥) → Apart (xs ++ ys)
  apart_append [] ys h k f = k
  apart_append (x ∷ xs) ys h k f =
      (λ m. cross (Memᴰ.append_cases xs m), apart_append xs ys h.1 k (λ z a b. f z (Memᴰ.tail a) b))
    where
      cross : Memᴰ x xs ⊎ Memᴰ x ys → ⊥
      cross (inl a) = h.0 a
      cross (inr b) = f x (Memᴰ.head refl) b

  pub apart_keep : (p : A → Bool) (xs : List A) → Apart xs → Apart (keep p xs)
  apart_keep p [] h = tt
  apart_keep p (x ∷ xs) h = go (p x) (apart_keep p xs h.1)
    where
      go : (b : Bool) → Apart (keep p xs) → Apart (cons_if b x (keep p xs))
      go true k = (λ m. h.0 (keep_at p xs m).0, k)
      go false k = k

module _ {A B : Type 0} (f : A → List B) where
  pub apart_each : (xs : List A) → Apart xs → ((x : A) → Memᴰ x xs → Apart (f x))
      → ((x y : A) → Memᴰ x xs → Memᴰ y xs → (z : B) → Memᴰ z (f x) → Memᴰ z (f y) → x ≡ y) → Apart (each xs f)
  apart_each [] h g d = tt
  apart_each (x ∷ xs) h g d =
      apart_append (f x) (each xs f) (g x (Memᴰ.head refl)) (apart_each xs h.1 (λ y m. g y (Memᴰ.tail m)) (λ y z m k. d y z (Memᴰ.tail m) (Memᴰ.tail k)))
      (λ z a b. let r = each_at f xs b in h.0 (Memᴰ.cast (d x r.0 (Memᴰ.head refl) (Memᴰ.tail r.1) z a r.2) r.1))

pub apart_map : {A B : Type 0} (f : A → B) (xs : List A) → Apart xs → ((x y : A) → Memᴰ x xs → Memᴰ y xs → f x ≡ f y → x ≡ y) → Apart (map f xs)
apart_map f [] h g = tt
apart_map f (x ∷ xs) h g = (
  λ m. let r = Memᴰ.of_map f xs m in h.0 (Memᴰ.cast (g x r.0 (Memᴰ.head refl) (Memᴰ.tail r.1) (sym r.2)) r.1),
  apart_map f xs h.1 (λ y z m k. g y z (Memᴰ.tail m) (Memᴰ.tail k)),
)

pub apart_end : (rs : List ℕ) (r : ℕ) → Apart rs → (Memᴰ r rs → ⊥) → Apart (rs ++ (r ∷ []))
apart_end rs r a h = apart_append rs (r ∷ []) a (Memᴰ.not-nil, tt) (λ z i j. h (Memᴰ.cast (sym (Memᴰ.eq_of_singleton j)) i))

-- ---- lengths of what is kept
module _ {A : Type 0} (p : A → Bool) where
  pub keep_length : (xs : List A) → length (keep p xs) ≤ length xs
  keep_length [] = omega arith
  keep_length (x ∷ xs) = go (p x) (keep_length xs)
    where
      go : (b : Bool) → length (keep p xs) ≤ length xs → length (cons_if b x (keep p xs)) ≤ suc (length xs)
      go true h = omega arith
      go false h = omega arith

  -- one that is not kept makes it shorter
  pub keep_shorter : (xs : List A) {x : A} → Memᴰ x xs → T (not (p x)) → length (keep p xs) < length xs
  keep_shorter [] m t = absurd (Memᴰ.not-nil m)
  keep_shorter (y ∷ ys) {x} m t = go (Memᴰ.cases_cons m) (p y) refl (λ (k : Memᴰ x ys). keep_shorter ys k t) (keep_length ys)
    where
      go : (x ≡ y) ⊎ Memᴰ x ys → (b : Bool) → p y ≡ b → (Memᴰ x ys → length (keep p ys) < length ys) → length (keep p ys) ≤ length ys → length (cons_if b y (keep p ys)) < suc (length ys)
      go k false e f l = omega arith
      go (inl h) true e f l = absurd (subst (λ (b : Bool). T (not b)) (ap p h ∙ e) t)
      go (inr h) true e f l = let r = f h in omega arith

pub split_length : (p : ℕ → Bool) (xs : List ℕ) → length (keep p xs) + length (keep (λ n. not (p n)) xs) ≡ length xs
split_length p [] = omega arith
split_length p (x ∷ xs) = go (p x) (split_length p xs)
  where
    go : (b : Bool) → length (keep p xs) + length (keep (λ n. not (p n)) xs) ≡ length xs
        → length (cons_if b x (keep p xs)) + length (cons_if (not b) x (keep (λ n. not (p n)) xs)) ≡ suc (length xs)
    go true e = omega arith
    go false e = omega arith

-- ---- lengths of lists without repetition
module _ {A : Type 0} where
  -- a list without one of its entries
  pub without : (ys : List A) {x : A} → Memᴰ x ys → (zs : List A) × (length ys ≡ suc (length zs)) × ((z : A) → Memᴰ z ys → (z ≡ x) ⊎ Memᴰ z zs)
  without [] m = absurd (Memᴰ.not-nil m)
  without (y ∷ ys) {x} m = go (Memᴰ.cases_cons m) (λ (k : Memᴰ x ys). without ys k)
    where
      here : x ≡ y → (z : A) → (z ≡ y) ⊎ Memᴰ z ys → (z ≡ x) ⊎ Memᴰ z ys
      here e z (inl f) = inl (f ∙ sym e)
      here e z (inr k) = inr k

      down : (zs : List A) (z : A) → (z ≡ x) ⊎ Memᴰ z zs → (z ≡ x) ⊎ Memᴰ z (y ∷ zs)
      down zs z (inl f) = inl f
      down zs z (inr k) = inr (Memᴰ.tail k)

      there : (zs : List A) → ((z : A) → Memᴰ z ys → (z ≡ x) ⊎ Memᴰ z zs) → (z : A) → (z ≡ y) ⊎ Memᴰ z ys → (z ≡ x) ⊎ Memᴰ z (y ∷ zs)
      there zs f z (inl e) = inr (Memᴰ.head e)
      there zs f z (inr k) = down zs z (f z k)

      go : (x ≡ y) ⊎ Memᴰ x ys → (Memᴰ x ys → (zs : List A) × (length ys ≡ suc (length zs)) × ((z : A) → Memᴰ z ys → (z ≡ x) ⊎ Memᴰ z zs))
          → (zs : List A) × (suc (length ys) ≡ suc (length zs)) × ((z : A) → Memᴰ z (y ∷ ys) → (z ≡ x) ⊎ Memᴰ z zs)
      go (inl e) f = (ys, refl, λ z k. here e z (Memᴰ.cases_cons k))
      go (inr k) f = let r = f k in (y ∷ r.0, ap suc r.1, λ z l. there r.0 r.2 z (Memᴰ.cases_cons l))

  pub apart_length : (xs ys : List A) → Apart xs → ((z : A) → Memᴰ z xs → Memᴰ z ys) → length xs ≤ length ys
  apart_length [] ys h f = omega arith
  apart_length (x ∷ xs) ys h f =
      let r = without ys (f x (Memᴰ.head refl)) in
      let k = apart_length xs r.0 h.1 (λ z m. other z m (r.2 z (f z (Memᴰ.tail m)))) in
      let e = r.1 in
      omega arith
    where
      other : {zs : List A} (z : A) → Memᴰ z xs → (z ≡ x) ⊎ Memᴰ z zs → Memᴰ z zs
      other z m (inl e) = absurd (h.0 (Memᴰ.cast (sym e) m))
      other z m (inr k) = k

pub inject_length : {A B : Type 0} (f : A → B) (xs : List A) (ys : List B) → Apart xs → ((x : A) → Memᴰ x xs → Memᴰ (f x) ys)
    → ((x y : A) → Memᴰ x xs → Memᴰ y xs → f x ≡ f y → x ≡ y) → length xs ≤ length ys
inject_length f [] ys h g i = omega arith
inject_length f (x ∷ xs) ys h g i =
    let r = without ys (g x (Memᴰ.head refl)) in
    let k = inject_length f xs r.0 h.1 (λ z m. other z m (r.2 (f z) (g z (Memᴰ.tail m)))) (λ y z m l. i y z (Memᴰ.tail m) (Memᴰ.tail l)) in
    let e = r.1 in
    omega arith
  where
    other : {zs : List _} (z : _) → Memᴰ z xs → (f z ≡ f x) ⊎ Memᴰ (f z) zs → Memᴰ (f z) zs
    other z m (inl e) = absurd (h.0 (Memᴰ.cast (sym (i z x (Memᴰ.tail m) (Memᴰ.head refl) e)) m))
    other z m (inr k) = k

-- a list whose entries are related each to one of another list, no two to the same, is no longer
pub relate_length : {A B : Type 0} (R : A → B → Type 0) (xs : List A) (ys : List B) → Apart xs → ((x : A) → Memᴰ x xs → (y : B) × Memᴰ y ys × R x y)
    → ((x z : A) (y : B) → Memᴰ x xs → Memᴰ z xs → R x y → R z y → x ≡ z) → length xs ≤ length ys
relate_length R [] ys h g i = omega arith
relate_length R (x ∷ xs) ys h g i =
    let r = without ys (g x (Memᴰ.head refl)).1 in
    let k =
    relate_length R xs r.0 h.1 (λ z m. other z m (g z (Memᴰ.tail m)) (r.2 (g z (Memᴰ.tail m)).0 (g z (Memᴰ.tail m)).1))
    (λ z v y m l. i z v y (Memᴰ.tail m) (Memᴰ.tail l)) in
    let e = r.1 in
    omega arith
  where
    other : {zs : List _} (z : _) → Memᴰ z xs → (b : (y : _) × Memᴰ y ys × R z y) → (b.0 ≡ (g x (Memᴰ.head refl)).0) ⊎ Memᴰ b.0 zs → (y : _) × Memᴰ y zs × R z y
    other z m b (inl e) = absurd (h.0 (Memᴰ.cast (i x z b.0 (Memᴰ.head refl) (Memᴰ.tail m) (subst (λ (y : _). R x y) (sym e) (g x (Memᴰ.head refl)).2) b.2) m))
    other z m b (inr k) = (b.0, k, b.2)
