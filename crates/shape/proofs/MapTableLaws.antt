-- The code's constants, each by one computed test: an entry is the number of the product, or of the inverse. And the laws of map numbers and of mapped
-- places that later code cites. Assumes nothing.
use Prim.Native.Nat.{ℕ, zero, suc, ◌+◌, ◌*◌, ◌<◌}
use mathlib.Core.Bool.{Bool, true, false, ◌&&◌}
use mathlib.Core.List.{List, [], ◌∷◌, ◌++◌, map, Memᴰ}
use mathlib.Core.Path.{◌≡◌, refl, ap, ◌∙◌, subst}
use native.Mathlib.Omega.{arith}
use native.Mathlib.Nat.{mul-suc, mul-zero}
use lib.Dec.{T, eqb, ltb, ltb→lt}
use lib.ListN.{length, get_or, length-map, get_or-append}
use lib.Seq.{get_or-append-add}
use Rattle.lists.specs.Lists.{all, each, before}
use Rattle.lists.proofs.TestLaws.{and_left, and_right}
use Rattle.lists.proofs.ListLaws.{get_or_map, all_at}
use Rattle.definitions.specs.Grid.{Sides}
use Rattle.definitions.specs.Maps.{Map, map_of, maps, identity, inverse, product, axis_at, flip_at, axis_of, flip_of, turns, mirrorings, transform, permutations, parity}
use Rattle.theorems.proofs.GroupLaws.{same_map, same_map→eq, code_of}
use Rattle.theorems.proofs.ActLaws.{plus, maps_of, product_in}
use Rattle.theorems.proofs.MapNumberLaws.{map_in}
use Rattle.shape.specs.Coords.{as_map}
use Rattle.shape.specs.declared.Axis.{Axis}
use Rattle.shape.specs.declared.Axis.TheVariants.{X, Y, Z}
use Rattle.shape.specs.declared.constants.Axes.{Axes}

pub sides_path : {s t : Sides} → s.a ≡ t.a → s.b ≡ t.b → s.c ≡ t.c → s ≡ t
sides_path x y z = λ i. record { a = x i; b = y i; c = z i }

-- ---- the number of a map is its place in the table
unfoldable pub number_of : Map → ℕ
unfolding same_map code_of maps turns mirrorings transform permutations parity
number_of m = before (same_map m) maps

-- the number of the product, first n, then m; and of the inverse
unfoldable pub times : ℕ → ℕ → ℕ
times m n = number_of (product (map_of m) (map_of n))

unfoldable pub inverse_number : ℕ → ℕ
inverse_number n = number_of (inverse (map_of n))

-- by the whole table: a map stands at its number, and so does its inverse
numbered : Map → Bool
numbered m = ltb (number_of m) 48 && same_map (map_of (number_of m)) m

each_numbered : (odd : Bool) → T (all numbered (maps_of odd))
unfolding numbered number_of same_map code_of map_of maps identity turns mirrorings transform permutations parity
each_numbered false = tt
each_numbered true = tt

each_inverse : (odd : Bool) → T (all (λ m. numbered (inverse m)) (maps_of odd))
unfolding numbered number_of same_map code_of map_of maps inverse axis_of flip_of identity turns mirrorings transform permutations parity
each_inverse false = tt
each_inverse true = tt

pub record IsNumber (m : Map) : Type 0 where
  pub small : number_of m < 48
  pub right : map_of (number_of m) ≡ m

is-number : (m : Map) → T (numbered m) → IsNumber m
unfolding numbered
is-number m t = record {
  small = ltb→lt (number_of m) 48 (and_left (ltb (number_of m) 48) _ t);
  right = same_map→eq (map_of (number_of m)) m (and_right (ltb (number_of m) 48) _ t);
}

number_is : (odd : Bool) (m : Map) → Memᴰ m (maps_of odd) → IsNumber m
number_is odd m k = is-number m (all_at numbered (maps_of odd) (each_numbered odd) k)

-- ---- products and inverses of numbers
module _ (m n : ℕ) where
  product_number : IsNumber (product (map_of m) (map_of n))
  product_number = number_is (plus (map_in m).0 (map_in n).0) (product (map_of m) (map_of n)) (product_in (map_in m).0 (map_in n).0 (map_of m) (map_of n) (map_in m).1 (map_in n).1)

  pub times_lt : times m n < 48
  unfolding times
  times_lt = product_number.small

  pub times_is : map_of (times m n) ≡ product (map_of m) (map_of n)
  unfolding times
  times_is = product_number.right

module _ (n : ℕ) where
  inverse-number : IsNumber (inverse (map_of n))
  inverse-number = is-number (inverse (map_of n)) (all_at (λ (m : Map). numbered (inverse m)) (maps_of (map_in n).0) (each_inverse (map_in n).0) (map_in n).1)

  pub inverse_lt : inverse_number n < 48
  unfolding inverse_number
  inverse_lt = inverse-number.small

  pub inverse_is : map_of (inverse_number n) ≡ inverse (map_of n)
  unfolding inverse_number
  inverse_is = inverse-number.right

-- ---- the code's constants as lists, and what stands at a place of each
maps_length : length maps ≡ 48
unfolding maps turns mirrorings transform permutations parity
maps_length = refl

abbrev pub axis_of_number : ℕ → Axis
axis_of_number zero = X
axis_of_number (suc zero) = Y
axis_of_number (suc (suc n)) = Z

abbrev pub row_of : Map → Axes
row_of m = record {
  x = axis_of_number m.axis_x;
  y = axis_of_number m.axis_y;
  z = axis_of_number m.axis_z;
  flip_x = eqb m.flip_x 1;
  flip_y = eqb m.flip_y 1;
  flip_z = eqb m.flip_z 1;
}

abbrev pub none : Axes
none = record { x = X; y = X; z = X; flip_x = false; flip_y = false; flip_z = false }

unfoldable pub rows : List Axes
unfolding maps turns mirrorings transform permutations parity
rows = map row_of maps

unfoldable pub inverses : List ℕ
unfolding number_of inverse axis_of flip_of maps turns mirrorings transform permutations parity
inverses = map (λ m. number_of (inverse m)) maps

unfoldable pub products : List ℕ
unfolding number_of product axis_at flip_at maps turns mirrorings transform permutations parity
products = each maps (λ m. map (λ n. number_of (product m n)) maps)

each_row : (odd : Bool) → T (all (λ m. same_map (as_map (row_of m)) m) (maps_of odd))
unfolding same_map code_of turns mirrorings transform permutations parity
each_row false = tt
each_row true = tt

pub rows_at : (n : ℕ) → n < 48 → as_map (get_or rows n none) ≡ map_of n
unfolding rows map_of
rows_at n h =
    ap as_map (get_or_map identity none row_of maps n (let e = maps_length in omega arith))
    ∙ same_map→eq (as_map (row_of (map_of n))) (map_of n) (all_at (λ m. same_map (as_map (row_of m)) m) (maps_of (map_in n).0) (each_row (map_in n).0) (map_in n).1)

pub inverses_at : (n : ℕ) → n < 48 → get_or inverses n 0 ≡ inverse_number n
unfolding inverses inverse_number map_of
inverses_at n h = get_or_map identity 0 (λ m. number_of (inverse m)) maps n (let e = maps_length in omega arith)

-- entry 48 * m + n, of the row of m
row_at : {A : Type 0} (d : A) (f : A → A → ℕ) (ys xs : List A) (i j : ℕ) → i < length xs → j < length ys
    → get_or (each xs (λ x. map (f x) ys)) (length ys * i + j) 0 ≡ f (get_or xs i d) (get_or ys j d)
row_at d f ys [] i j h k = absurd (omega arith)
row_at d f ys (x ∷ xs) zero j h k =
    ap (λ (n : ℕ). get_or (map (f x) ys ++ each xs (λ x. map (f x) ys)) n 0) (let z = mul-zero (length ys) in omega arith)
    ∙ get_or-append (map (f x) ys) (each xs (λ x. map (f x) ys)) 0 j (let e = length-map ys (f x) in omega arith)
    ∙ get_or_map d 0 (f x) ys j k
row_at d f ys (x ∷ xs) (suc i) j h k =
    ap (λ (n : ℕ). get_or (map (f x) ys ++ each xs (λ x. map (f x) ys)) n 0) (let z = mul-suc (length ys) i in let e = length-map ys (f x) in omega arith)
    ∙ get_or-append-add (map (f x) ys) (each xs (λ x. map (f x) ys)) (length ys * i + j) 0
    ∙ row_at d f ys xs i j (omega arith) k

pub products_at : (m n : ℕ) → m < 48 → n < 48 → get_or products (48 * m + n) 0 ≡ times m n
unfolding products times map_of
products_at m n h k =
    subst (λ (l : ℕ). get_or products (l * m + n) 0 ≡ times m n) maps_length
    (row_at identity (λ a b. number_of (product a b)) maps maps m n (let e = maps_length in omega arith) (let e = maps_length in omega arith))

pub zero_identity : map_of 0 ≡ identity
unfolding map_of maps turns mirrorings transform permutations parity identity
zero_identity = refl
