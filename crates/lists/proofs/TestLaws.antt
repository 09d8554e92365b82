-- Laws of tests on Bool and on numbers. Assumes nothing.
use Prim.Native.Nat.{ℕ, zero, suc, ◌+◌, ◌≤◌, ◌<◌}
use mathlib.Core.Bool.{Bool, true, false, false≢true, cond, not, ◌&&◌, ◌||◌}
use mathlib.Core.Path.{◌≡◌, refl, sym, ◌∙◌, subst}
use mathlib.Core.Logic.{◌⊎◌, inl, inr, ⊎_elim}
use native.Mathlib.Nat.{le_antisymm}
use native.Mathlib.Decide.{ℕ_discrete, dec_le, dec_lt}
use native.Mathlib.Omega.{arith}
use lib.Dec.{T, ltb, eqb, ltb→lt, lt→ltb, eqb_refl, nltb→le}
use borrow.Author.Tests.{eq-eqb, ne_eqb, lt-ltb, le-ltb}

-- ---- both of two tests, one of two
pub and_left : (a b : Bool) → T (a && b) → T a
and_left true b t = tt
and_left false b t = t

pub and_right : (a b : Bool) → T (a && b) → T b
and_right true b t = t
and_right false b t = absurd t

pub and_both : (a b : Bool) → T a → T b → T (a && b)
and_both true b s t = t
and_both false b s t = s

pub or_left : (a b : Bool) → T a → T (a || b)
or_left true b t = tt
or_left false b t = absurd t

pub or_right : (a b : Bool) → T b → T (a || b)
or_right true b t = tt
or_right false b t = t

pub or_cases : (a b : Bool) → T (a || b) → T a ⊎ T b
or_cases true b t = inl tt
or_cases false b t = inr t

pub and_no : (b : Bool) → (b && false) ≡ false
and_no true = refl
and_no false = refl

pub and_true : (b : Bool) → b && true ≡ b
and_true true = refl
and_true false = refl

pub or_no : (b : Bool) → (b || false) ≡ b
or_no true = refl
or_no false = refl

pub or_assoc : (a b d : Bool) → (a || b) || d ≡ a || (b || d)
or_assoc true b d = refl
or_assoc false b d = refl

pub and_true_left : (x y : Bool) → x && y ≡ true → x ≡ true
and_true_left true y e = refl
and_true_left false y e = e

pub and_true_right : (x y : Bool) → x && y ≡ true → y ≡ true
and_true_right true y e = e
and_true_right false true e = refl
and_true_right false false e = e

-- ---- a test passes or fails
pub decide : (b : Bool) → T b ⊎ T (not b)
decide true = inl tt
decide false = inr tt

pub clash : (b : Bool) → T b → T (not b) → ⊥
clash true s t = t
clash false s t = s

pub is_true : (b : Bool) → T b → b ≡ true
is_true true t = refl
is_true false t = absurd t

pub is_false : (b : Bool) → (T b → ⊥) → b ≡ false
is_false true f = absurd (f tt)
is_false false f = refl

pub not_T : (b : Bool) → T (not b) → b ≡ false
not_T true t = absurd t
not_T false t = refl

pub tests_same : (a b : Bool) → (T a → T b) → (T b → T a) → a ≡ b
tests_same true true f g = refl
tests_same true false f g = absurd (f tt)
tests_same false true f g = absurd (g tt)
tests_same false false f g = refl

pub holds : (b : Bool) → b ≡ true → T b
holds true e = tt
holds false e = subst T (sym e) tt

pub not_not : (b : Bool) → T b → T (not (not b))
not_not true t = tt
not_not false t = t

-- two tests that hold together are one
-- two tests that hold together are one
pub true_together : (a b : Bool) → (a ≡ true → b ≡ true) → (b ≡ true → a ≡ true) → a ≡ b
true_together true true p q = refl
true_together true false p q = sym (p refl)
true_together false true p q = q refl
true_together false false p q = refl

pub by_bool : {P : Type 0} (b : Bool) → (b ≡ true → P) → (b ≡ false → P) → P
by_bool true p q = p refl
by_bool false p q = q refl

pub not_true : (b : Bool) → (b ≡ true → ⊥) → b ≡ false
not_true true h = absurd (h refl)
not_true false h = refl

pub not_both : {P : Type 0} (b : Bool) → b ≡ true → b ≡ false → P
not_both b p q = absurd (false≢true (sym q ∙ p))

-- ---- numbers
pub eqb_of : {a b : ℕ} → a ≡ b → T (eqb a b)
eqb_of {a} {b} e = subst (λ (x : ℕ). T (eqb a x)) e (eqb_refl a)

pub ltb_trans : (a b d : ℕ) → T (ltb a b) → T (ltb b d) → T (ltb a d)
ltb_trans a b d s u = let k = ltb→lt a b s in let l = ltb→lt b d u in lt→ltb a d (omega arith)

pub ltb_irrefl : (a : ℕ) → T (ltb a a) → ⊥
ltb_irrefl a s = let k = ltb→lt a a s in omega arith

pub ltb_tied : (a b : ℕ) → T (not (ltb a b)) → T (not (ltb b a)) → a ≡ b
ltb_tied a b s t = le_antisymm (nltb→le b a t) (nltb→le a b s)

pub lt_or_ge : (a b : ℕ) → (a < b) ⊎ (b ≤ a)
lt_or_ge a b = go (dec_lt a b)
  where
    go : Dec (a < b) → (a < b) ⊎ (b ≤ a)
    go (yes h) = inl h
    go (no h) = inr (omega arith)

pub by_eq : {P : Type 0} (a b : ℕ) → (a ≡ b → P) → ((a ≡ b → ⊥) → P) → P
by_eq {P} a b p q = go (ℕ_discrete a b)
  where
    go : Dec (a ≡ b) → P
    go (yes e) = p e
    go (no n) = q n

pub by_order : {P : Type 0} (a b : ℕ) → (a ≤ b → P) → (b < a → P) → P
by_order {P} a b p q = go (dec_le a b)
  where
    go : Dec (a ≤ b) → P
    go (yes e) = p e
    go (no n) = q (omega arith)

-- two tests that hold together
pub ltb_same : (a b c d : ℕ) → (a < b → c < d) → (b ≤ a → d ≤ c) → ltb a b ≡ ltb c d
ltb_same a b c d f g =
    ⊎_elim (λ (h : a < b). lt-ltb a b h ∙ sym (lt-ltb c d (f h))) (λ (h : b ≤ a). le-ltb a b h ∙ sym (le-ltb c d (g h))) (lt_or_ge a b)

pub eqb_same : (a b c d : ℕ) → (a ≡ b → c ≡ d) → (c ≡ d → a ≡ b) → eqb a b ≡ eqb c d
eqb_same a b c d f g = go (ℕ_discrete a b)
  where
    go : Dec (a ≡ b) → eqb a b ≡ eqb c d
    go (yes e) = eq-eqb a b e ∙ sym (eq-eqb c d (f e))
    go (no e) = ne_eqb a b e ∙ sym (ne_eqb c d (λ q. e (g q)))

pub eqb_flip : (a b : ℕ) → eqb a b ≡ eqb b a
eqb_flip a b = eqb_same a b b a (λ e. sym e) (λ e. sym e)

-- ---- a choice by a test
pub cond_true : {A : Type 0} (b : Bool) (u v : A) → b ≡ true → cond b u v ≡ u
cond_true true u v e = refl
cond_true false u v e = absurd (false≢true e)

pub cond_false : {A : Type 0} (b : Bool) (u v : A) → b ≡ false → cond b u v ≡ v
cond_false true u v e = absurd (false≢true (sym e))
cond_false false u v e = refl

-- a choice by a test of two numbers
pub cond_same : {A : Type 0} (a b : ℕ) (u v : A) → a ≡ b → cond (eqb a b) u v ≡ u
cond_same a b u v e = cond_true (eqb a b) u v (eq-eqb a b e)

pub cond_other : {A : Type 0} (a b : ℕ) (u v : A) → (a ≡ b → ⊥) → cond (eqb a b) u v ≡ v
cond_other a b u v h = cond_false (eqb a b) u v (ne_eqb a b h)

-- a claim of a choice, by cases
pub at_cond : {A : Type 0} (P : A → Type 0) (a b : ℕ) (u v : A) → (a ≡ b → P u) → ((a ≡ b → ⊥) → P v) → P (cond (eqb a b) u v)
at_cond P a b u v p q =
    by_eq a b (λ e. subst P (sym (cond_same a b u v e)) (p e)) (λ d. subst P (sym (cond_other a b u v d)) (q d))

-- both of two tests, as a choice
-- both of two tests
pub both_left : (a b : Bool) → cond a b false ≡ true → a ≡ true
both_left true b e = refl
both_left false b e = e

pub both_right : (a b : Bool) → cond a b false ≡ true → b ≡ true
both_right true b e = e
both_right false b e = absurd (false≢true e)

pub both : (a b : Bool) → a ≡ true → b ≡ true → cond a b false ≡ true
both true b p q = q
both false b p q = p

-- a number among n from a on that passes, or none
pub by_find : {P : Type 0} (p : ℕ → Bool) (a n : ℕ)
    → ((y : ℕ) → a ≤ y → y < a + n → p y ≡ true → P) → (((y : ℕ) → a ≤ y → y < a + n → p y ≡ true → ⊥) → P) → P
by_find p a zero f g = g (λ y l h e. omega arith)
by_find p a (suc n) f g =
    by_bool (p (a + n))
    (λ e. f (a + n) (omega arith) (omega arith) e)
    (λ e. by_find p a n (λ y l h q. f y l (omega arith) q)
    (λ none. g (λ y l h q. by_eq y (a + n) (λ d. not_both (p (a + n)) (subst (λ (k : ℕ). p k ≡ true) d q) e) (λ d. none y l (omega arith) q))))
