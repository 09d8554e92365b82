-- Each sequence of moves acts as the map with some number below 48, and each number's map is the action of a sequence. Assumes nothing.
use Prim.Native.Nat.{ℕ, ◌<◌, ◌≤◌}
use mathlib.Core.Bool.{Bool, true, false, not, ◌&&◌}
use mathlib.Core.List.Memᴰ
use mathlib.Core.List.{List, [], ◌∷◌, map, Memᴰ}
use mathlib.Core.Path.{◌≡◌, refl, sym, ap, ◌∙◌, subst}
use mathlib.Core.Logic.{◌⊎◌, inl, inr}
use native.Mathlib.Omega.{arith}
use lib.Dec.{T, ltb, leb, leb→le, le→leb, ltb→lt, lt→ltb, nltb→le}
use lib.ListN.{length, get_or-eq_default}
use Rattle.lists.specs.Lists.{all, any, below, from}
use Rattle.lists.proofs.TestLaws.{is_true, is_false, decide, and_left, and_right, and_both}
use Rattle.lists.proofs.ListLaws.{all_at, any_at}
use Rattle.lists.proofs.RangeLaws.{from_at, below_of}
use Rattle.definitions.specs.Grid.{Sides, Grid}
use Rattle.definitions.specs.Maps.{Map, map_sides, map_cell, map_grid, permutations, transform, parity, turns, mirrorings, maps, map_of, identity, product, inverse, axis_at, flip_at, axis_of, flip_of, is_mirroring}
use Rattle.definitions.specs.Moves.{Move, sides_after_all, is_odd}
use Rattle.definitions.specs.Moves.Move.{turn, mirroring}
use Rattle.definitions.specs.MovesAndMaps.{ActsAs, MovesAreMaps}
use Rattle.theorems.proofs.MapLaws.{Fits}
use Rattle.theorems.proofs.GroupLaws.{is_flips, identity_turn, identity_sides, product_sides, same_map, same_map→eq, code_of, in_maps, in-maps}
use Rattle.theorems.proofs.ActLaws.{maps_of, fits_of, flips_of, product_on}
use Rattle.theorems.proofs.MoveLaws.{move_map, odd_move, move_in, move-sides, moves_map, moves_in, moves_cell, moves_grid, turn_moves, mirroring_moves, turns_alone}

-- ---- sides after a sequence
pub moves_sides : (ms : List Move) (s : Sides) → sides_after_all ms s ≡ map_sides (moves_map ms) s
unfolding moves_map
moves_sides [] s = sym (identity_sides s)
moves_sides (m ∷ ms) s =
    ap (sides_after_all ms) (move-sides m s) ∙ moves_sides ms (map_sides (move_map m) s)
    ∙ product_sides (moves_map ms) (move_map m) (flips_of (is_odd ms) (moves_map ms) (moves_in ms)) (flips_of (odd_move m) (move_map m) (move_in m)) s

-- ---- maps and their numbers, by the whole table
abbrev numbers_of : Bool → List ℕ
numbers_of false = from 0 24
numbers_of true = from 24 24

each_numbered : (odd : Bool) → T (all (λ m. any (λ n. same_map (map_of n) m) (numbers_of odd)) (maps_of odd))
unfolding map_of maps same_map code_of identity turns mirrorings transform permutations parity
each_numbered false = tt
each_numbered true = tt

each_in : T (all (λ n. in_maps (maps_of (is_mirroring n)) (map_of n)) (below 48))
unfolding is_mirroring in_maps map_of maps same_map code_of identity turns mirrorings transform permutations parity
each_in = tt

number_of : (odd : Bool) (m : Map) → Memᴰ m (maps_of odd) → (n : ℕ) × (n < 48) × (is_mirroring n ≡ odd) × (map_of n ≡ m)
number_of odd m k = (r.0, is_below odd r.0 r.1, is-odd odd r.0 r.1, same_map→eq (map_of r.0) m r.2)
  where
    r : (n : ℕ) × Memᴰ n (numbers_of odd) × T (same_map (map_of n) m)
    r = any_at (λ (n : ℕ). same_map (map_of n) m) (numbers_of odd) (all_at (λ (j : Map). any (λ (n : ℕ). same_map (map_of n) j) (numbers_of odd)) (maps_of odd) (each_numbered odd) k)

    is_below : (o : Bool) (n : ℕ) → Memᴰ n (numbers_of o) → n < 48
    is_below false n i = let h = from_at 0 24 i in omega arith
    is_below true n i = let h = from_at 24 24 i in omega arith

    is-odd : (o : Bool) (n : ℕ) → Memᴰ n (numbers_of o) → is_mirroring n ≡ o
    is-odd false n i = unfold is_mirroring in is_false (leb 24 n && ltb n 48) (λ t. let h = from_at 0 24 i in let g = leb→le 24 n (and_left (leb 24 n) (ltb n 48) t) in omega arith)
    is-odd true n i = unfold is_mirroring in let h = from_at 24 24 i in is_true (leb 24 n && ltb n 48) (and_both (leb 24 n) (ltb n 48) (le→leb 24 n h.0) (lt→ltb n 48 (omega arith)))

number-in : (n : ℕ) → n < 48 → Memᴰ (map_of n) (maps_of (is_mirroring n))
number-in n h = in-maps (maps_of (is_mirroring n)) (map_of n) (all_at (λ (i : ℕ). in_maps (maps_of (is_mirroring i)) (map_of i)) (below 48) each_in (below_of 48 h))

in_turns : (n : ℕ) → n < 24 → Memᴰ (map_of n) turns
unfolding is_mirroring
in_turns n h = subst (λ (b : Bool). Memᴰ (map_of n) (maps_of b)) (is_false (is_mirroring n) (λ t. let g = leb→le 24 n (and_left (leb 24 n) (ltb n 48) t) in omega arith)) (number-in n (omega arith))

in_mirrorings : (n : ℕ) → n < 48 → T (is_mirroring n) → Memᴰ (map_of n) mirrorings
in_mirrorings n h t = subst (λ (b : Bool). Memᴰ (map_of n) (maps_of b)) (is_true (is_mirroring n) t) (number-in n h)

-- ---- any number: from 48 on it stands for the map that moves nothing
maps_length : length maps ≡ 48
unfolding maps turns mirrorings transform permutations parity
maps_length = refl

pub past_maps : (n : ℕ) → 48 ≤ n → map_of n ≡ identity
unfolding map_of
past_maps n h = get_or-eq_default maps identity (let e = maps_length in omega arith)

pub map_in : (n : ℕ) → (odd : Bool) × Memᴰ (map_of n) (maps_of odd)
map_in n = go (decide (ltb n 48))
  where
    go : T (ltb n 48) ⊎ T (not (ltb n 48)) → (odd : Bool) × Memᴰ (map_of n) (maps_of odd)
    go (inl t) = (is_mirroring n, number-in n (ltb→lt n 48 t))
    go (inr t) = (false, Memᴰ.cast (past_maps n (nltb→le n 48 t)) identity_turn)

pub map_fits : (n : ℕ) → Fits (map_of n)
map_fits n = let r = map_in n in fits_of r.0 (map_of n) r.1

pub map_flips : (n : ℕ) → T (is_flips (map_of n))
map_flips n = let r = map_in n in flips_of r.0 (map_of n) r.1

-- a product of the maps of two numbers acts as they do one after the other
pub map_product_grid : (m n : ℕ) (g : Grid) → map_grid (product (map_of m) (map_of n)) g ≡ map_grid (map_of m) (map_grid (map_of n) g)
map_product_grid m n g = let r = map_in m in let k = map_in n in sym (product_on r.0 k.0 (map_of m) (map_of n) r.1 k.1 g)

-- ---- the inverse undoes a map, by the whole table
undone : Map → Bool
undone m = same_map (product (inverse m) m) identity && (same_map (product m (inverse m)) identity && is_flips (inverse m))

each_undone : (odd : Bool) → T (all undone (maps_of odd))
unfolding undone same_map code_of is_flips product axis_at flip_at inverse axis_of flip_of identity turns mirrorings transform permutations parity
each_undone false = tt
each_undone true = tt

module _ (n : ℕ) where
  is_undone : T (undone (map_of n))
  is_undone = let r = map_in n in all_at undone (maps_of r.0) (each_undone r.0) r.1

  pub inverse_before : product (inverse (map_of n)) (map_of n) ≡ identity
  unfolding undone
  inverse_before = same_map→eq (product (inverse (map_of n)) (map_of n)) identity (and_left (same_map (product (inverse (map_of n)) (map_of n)) identity) _ is_undone)

  pub inverse_flips : T (is_flips (inverse (map_of n)))
  unfolding undone
  inverse_flips =
      and_right (same_map (product (map_of n) (inverse (map_of n))) identity) (is_flips (inverse (map_of n))) (and_right (same_map (product (inverse (map_of n)) (map_of n)) identity) _ is_undone)

  pub sides_back : (s : Sides) → map_sides (inverse (map_of n)) (map_sides (map_of n) s) ≡ s
  sides_back s = product_sides (inverse (map_of n)) (map_of n) inverse_flips (map_flips n) s ∙ ap (λ (m : Map). map_sides m s) inverse_before ∙ identity_sides s

-- ---- a sequence with a number's map acts as that number
acts_as : (ms : List Move) (n : ℕ) → moves_map ms ≡ map_of n → ActsAs ms n
acts_as ms n e =
    record {
      sides = λ s. moves_sides ms s ∙ ap (λ (m : Map). map_sides m s) e;
      cells = λ s u b. moves_cell ms s u b ∙ ap (λ (m : Map). map_cell m s u) e;
      grids = λ g t w. moves_grid ms g t w ∙ ap (λ (m : Map). map_grid m g) e;
    }

pub map_done : (n : ℕ) → (ms : List Move) × ActsAs ms n
map_done n = go (map_in n).0 (map_in n).1
  where
    go : (odd : Bool) → Memᴰ (map_of n) (maps_of odd) → (ms : List Move) × ActsAs ms n
    go false k = let r = turn_moves (map_of n) k in (map turn r.0, acts_as (map turn r.0) n r.1)
    go true k = let r = mirroring_moves (map_of n) k in (mirroring r.0 ∷ [], acts_as (mirroring r.0 ∷ []) n r.1)

pub moves_are_maps : MovesAreMaps
moves_are_maps =
    record {
      acts_as_one = λ ms. let r = number_of (is_odd ms) (moves_map ms) (moves_in ms) in (r.0, r.1, r.2, acts_as ms r.0 (sym r.3));
      turn_is_done = λ n h. let r = turn_moves (map_of n) (in_turns n h) in (map turn r.0, turns_alone r.0, acts_as (map turn r.0) n r.1);
      mirroring_is_done = λ n h t. let r = mirroring_moves (map_of n) (in_mirrorings n h t) in (mirroring r.0 ∷ [], tt, acts_as (mirroring r.0 ∷ []) n r.1);
    }
