-- A sequence of moves does what one of the 48 maps does, and each of them is done by a sequence. Assumes nothing.
use Prim.Native.Nat.{ℕ, zero, suc}
use mathlib.Core.Bool.{Bool, true, false, cond, not}
use mathlib.Core.List.Memᴰ
use mathlib.Core.List.{List, [], ◌∷◌, map, Memᴰ}
use mathlib.Core.Path.{◌≡◌, refl, sym, ap, ap₂, ◌∙◌, subst}
use mathlib.Core.Logic.{◌⊎◌, inl, inr}
use native.Mathlib.Omega.{arith}
use lib.Dec.{T, leb, eqb, le→leb, eqb→eq}
use lib.ListN.{length, length-map}
use Rattle.lists.specs.Lists.{all, any, each}
use Rattle.lists.proofs.TestLaws.{is_true, is_false, decide, clash, eqb_of}
use Rattle.lists.proofs.ListLaws.{all_at, all_of, any_at, any_of}
use Rattle.definitions.specs.Grid.{Sides, Cell, Grid, box, volume, byte_at, grid_with, filled_cells, same_cell, InBox}
use Rattle.definitions.specs.Maps.{Map, side, coordinate, from_end, map_sides, map_cell, inverse, map_grid, permutations, transform, parity, turns, mirrorings, mirror, product, identity, axis_at, flip_at}
use Rattle.theorems.proofs.MapLaws.{Fits, filled_at, filled_of}
use Rattle.theorems.proofs.GroupLaws.{identity_turn, identity_cell, identity_sides, identity_grid, product_cell, product_sides, same_map, same_map→eq, code_of, in_maps, in-maps, grid_with_same}
use Rattle.definitions.specs.Refusals.{are_bits}
use Rattle.theorems.proofs.GridLaws.{byte_bit, length_box}
use Rattle.theorems.proofs.WellMadeLaws.{same_cell→eq, same_cell_refl}
use Rattle.theorems.proofs.ActLaws.{plus, maps_of, fits_of, flips_of, product_in, product_on}
use Rattle.definitions.specs.Moves.{Quarter, quarter_sides, quarter_cell, quarters_sides, quarters_cell, Move, step_cell, move_sides, move_cell, move_grid, grid_after, cell_after_all, is_odd, are_turns}
use Rattle.definitions.specs.Moves.Quarter.{about_x, about_y, about_z}
use Rattle.definitions.specs.Moves.Move.{turn, mirroring}

-- ---- quarter turns as maps
unfoldable pub quarter_map : Quarter → Map
quarter_map about_x = record { axis_x = 0; axis_y = 2; axis_z = 1; flip_x = 0; flip_y = 1; flip_z = 0 }
quarter_map about_y = record { axis_x = 2; axis_y = 1; axis_z = 0; flip_x = 0; flip_y = 0; flip_z = 1 }
quarter_map about_z = record { axis_x = 1; axis_y = 0; axis_z = 2; flip_x = 1; flip_y = 0; flip_z = 0 }

quarter_turn : (q : Quarter) → Memᴰ (quarter_map q) turns
unfolding quarter_map in_maps same_map code_of turns transform permutations parity
quarter_turn about_x = in-maps turns (quarter_map about_x) tt
quarter_turn about_y = in-maps turns (quarter_map about_y) tt
quarter_turn about_z = in-maps turns (quarter_map about_z) tt

quarter-sides : (q : Quarter) (s : Sides) → quarter_sides q s ≡ map_sides (quarter_map q) s
unfolding quarter_sides quarter_map map_sides side
quarter-sides about_x s = refl
quarter-sides about_y s = refl
quarter-sides about_z s = refl

quarter-cell : (q : Quarter) (s : Sides) (u : Cell) → quarter_cell q s u ≡ map_cell (quarter_map q) s u
unfolding quarter_cell quarter_map map_cell side coordinate from_end
quarter-cell about_x s u = refl
quarter-cell about_y s u = refl
quarter-cell about_z s u = refl

pub mirror_in : Memᴰ mirror mirrorings
unfolding mirror in_maps same_map code_of mirrorings transform permutations parity
mirror_in = in-maps mirrorings mirror tt

mirror_sides : (s : Sides) → map_sides mirror s ≡ s
unfolding map_sides mirror side
mirror_sides s = refl

mirror_cell : (s : Sides) (u : Cell) → step_cell s u ≡ map_cell mirror s u
unfolding step_cell map_cell mirror side coordinate from_end
mirror_cell s u = refl

-- ---- quarter turns one after the other
unfoldable pub quarters_map : List Quarter → Map
quarters_map [] = identity
quarters_map (q ∷ qs) = product (quarters_map qs) (quarter_map q)

quarters_turn : (qs : List Quarter) → Memᴰ (quarters_map qs) turns
unfolding quarters_map
quarters_turn [] = identity_turn
quarters_turn (q ∷ qs) = product_in false false (quarters_map qs) (quarter_map q) (quarters_turn qs) (quarter_turn q)

quarters-sides : (qs : List Quarter) (s : Sides) → quarters_sides qs s ≡ map_sides (quarters_map qs) s
unfolding quarters_map
quarters-sides [] s = sym (identity_sides s)
quarters-sides (q ∷ qs) s =
    ap (quarters_sides qs) (quarter-sides q s) ∙ quarters-sides qs (map_sides (quarter_map q) s)
    ∙ product_sides (quarters_map qs) (quarter_map q) (flips_of false (quarters_map qs) (quarters_turn qs)) (flips_of false (quarter_map q) (quarter_turn q)) s

quarters-cell : (qs : List Quarter) (s : Sides) (u : Cell) → InBox s u → quarters_cell qs s u ≡ map_cell (quarters_map qs) s u
unfolding quarters_map
quarters-cell [] s u b = sym (identity_cell s u)
quarters-cell (q ∷ qs) s u b =
    ap₂ (λ (t : Sides) (v : Cell). quarters_cell qs t v) (quarter-sides q s) (quarter-cell q s u)
    ∙ quarters-cell qs (map_sides (quarter_map q) s) (map_cell (quarter_map q) s u) ((fits_of false (quarter_map q) (quarter_turn q)).there s u b)
    ∙ product_cell (quarters_map qs) (quarter_map q) (flips_of false (quarters_map qs) (quarters_turn qs)) (flips_of false (quarter_map q) (quarter_turn q)) s u b

-- ---- moves
abbrev pub odd_move : Move → Bool
odd_move (turn q) = false
odd_move (mirroring qs) = true

unfoldable pub move_map : Move → Map
move_map (turn q) = quarter_map q
move_map (mirroring qs) = product (quarters_map qs) mirror

pub move_in : (m : Move) → Memᴰ (move_map m) (maps_of (odd_move m))
unfolding move_map
move_in (turn q) = quarter_turn q
move_in (mirroring qs) = product_in false true (quarters_map qs) mirror (quarters_turn qs) mirror_in

pub move-sides : (m : Move) (s : Sides) → move_sides m s ≡ map_sides (move_map m) s
unfolding move_map move_sides
move-sides (turn q) s = quarter-sides q s
move-sides (mirroring qs) s =
    ap (quarters_sides qs) (sym (mirror_sides s)) ∙ quarters-sides qs (map_sides mirror s)
    ∙ product_sides (quarters_map qs) mirror (flips_of false (quarters_map qs) (quarters_turn qs)) (flips_of true mirror mirror_in) s

move-cell : (m : Move) (s : Sides) (u : Cell) → InBox s u → move_cell m s u ≡ map_cell (move_map m) s u
unfolding move_map move_cell
move-cell (turn q) s u b = quarter-cell q s u
move-cell (mirroring qs) s u b =
    ap₂ (λ (t : Sides) (v : Cell). quarters_cell qs t v) (sym (mirror_sides s)) (mirror_cell s u)
    ∙ quarters-cell qs (map_sides mirror s) (map_cell mirror s u) ((fits_of true mirror mirror_in).there s u b)
    ∙ product_cell (quarters_map qs) mirror (flips_of false (quarters_map qs) (quarters_turn qs)) (flips_of true mirror mirror_in) s u b

unfoldable pub moves_map : List Move → Map
moves_map [] = identity
moves_map (m ∷ ms) = product (moves_map ms) (move_map m)

odd_plus : (m : Move) (ms : List Move) → plus (is_odd ms) (odd_move m) ≡ is_odd (m ∷ ms)
odd_plus (turn q) ms = go (is_odd ms)
  where
    go : (b : Bool) → plus b false ≡ b
    go false = refl
    go true = refl
odd_plus (mirroring qs) ms = go (is_odd ms)
  where
    go : (b : Bool) → plus b true ≡ not b
    go false = refl
    go true = refl

pub moves_in : (ms : List Move) → Memᴰ (moves_map ms) (maps_of (is_odd ms))
unfolding moves_map
moves_in [] = identity_turn
moves_in (m ∷ ms) = subst (λ (b : Bool). Memᴰ (product (moves_map ms) (move_map m)) (maps_of b)) (odd_plus m ms) (product_in (is_odd ms) (odd_move m) (moves_map ms) (move_map m) (moves_in ms) (move_in m))

pub moves_cell : (ms : List Move) (s : Sides) (u : Cell) → InBox s u → cell_after_all ms s u ≡ map_cell (moves_map ms) s u
unfolding moves_map
moves_cell [] s u b = sym (identity_cell s u)
moves_cell (m ∷ ms) s u b =
    ap₂ (λ (t : Sides) (v : Cell). cell_after_all ms t v) (move-sides m s) (move-cell m s u b)
    ∙ moves_cell ms (map_sides (move_map m) s) (map_cell (move_map m) s u) ((fits_of (odd_move m) (move_map m) (move_in m)).there s u b)
    ∙ product_cell (moves_map ms) (move_map m) (flips_of (is_odd ms) (moves_map ms) (moves_in ms)) (flips_of (odd_move m) (move_map m) (move_in m)) s u b

-- ---- grids
pub mapped_whole : (m : Map) (g : Grid) → length (map_grid m g).cells ≡ volume (map_grid m g).sides
unfolding map_grid grid_with
mapped_whole m g = length-map (box (map_sides m g.sides)) (λ u. byte_at g (map_cell (inverse m) (map_sides m g.sides) u)) ∙ length_box (map_sides m g.sides)

pub mapped_bits : (m : Map) (g : Grid) → T (are_bits g) → T (are_bits (map_grid m g))
unfolding map_grid grid_with are_bits
mapped_bits m g t =
    all_of (λ n. leb n 1) (map φ (box (map_sides m g.sides))) (λ n k. let r = Memᴰ.of_map φ (box (map_sides m g.sides)) k in subst (λ (i : ℕ). T (leb i 1)) r.2 (le→leb (φ r.0) 1 (byte_bit g t (map_cell (inverse m) (map_sides m g.sides) r.0))))
  where
    φ : Cell → ℕ
    φ u = byte_at g (map_cell (inverse m) (map_sides m g.sides) u)

module _ (m : Move) (g : Grid) (bits : T (are_bits g)) where
  abbrev M : Map
  M = move_map m

  abbrev s' : Sides
  s' = map_sides M g.sides

  fm : Fits M
  fm = fits_of (odd_move m) M (move_in m)

  filled-there? : Cell → Bool
  filled-there? v = any (λ u. same_cell (move_cell m g.sides u) v) (filled_cells g)

  moved-byte : (v : Cell) → InBox s' v → cond (filled-there? v) 1 0 ≡ byte_at g (map_cell (inverse M) s' v)
  unfolding filled-there?
  moved-byte v b = go (decide (eqb (byte_at g u₀) 1))
    where
      u₀ : Cell
      u₀ = map_cell (inverse M) s' v

      b₀ : InBox g.sides u₀
      b₀ = fm.back g.sides v b

      go : T (eqb (byte_at g u₀) 1) ⊎ T (not (eqb (byte_at g u₀) 1)) → cond (any (λ u. same_cell (move_cell m g.sides u) v) (filled_cells g)) 1 0 ≡ byte_at g u₀
      go (inl t) =
          let e = eqb→eq (byte_at g u₀) 1 t in
          let h : move_cell m g.sides u₀ ≡ v = move-cell m g.sides u₀ b₀ ∙ fm.there_back g.sides v b in
          ap {B = ℕ} (λ (x : Bool). cond x 1 0) (is_true (any (λ u. same_cell (move_cell m g.sides u) v) (filled_cells g))
          (any_of (λ (u : Cell). same_cell (move_cell m g.sides u) v) (filled_cells g) (filled_of g u₀ b₀ e) (subst (λ (w : Cell). T (same_cell (move_cell m g.sides u₀) w)) h (same_cell_refl (move_cell m g.sides u₀)))))
          ∙ sym e
      go (inr t) =
          let k = byte_bit g bits u₀ in
          let d : byte_at g u₀ ≡ 1 → ⊥ = λ e. clash (eqb (byte_at g u₀) 1) (eqb_of e) t in
          let z : 0 ≡ byte_at g u₀ = omega arith in
          ap {B = ℕ} (λ (x : Bool). cond x 1 0) (is_false (any (λ u. same_cell (move_cell m g.sides u) v) (filled_cells g)) (λ a.
          let r = any_at (λ (u : Cell). same_cell (move_cell m g.sides u) v) (filled_cells g) a in
          let f = filled_at g r.0 r.1 in
          let h : map_cell M g.sides r.0 ≡ v = sym (move-cell m g.sides r.0 f.0) ∙ same_cell→eq (move_cell m g.sides r.0) v r.2 in
          let u : r.0 ≡ u₀ = sym (fm.back_there g.sides r.0 f.0) ∙ ap (map_cell (inverse M) s') h in
          d (ap (byte_at g) (sym u) ∙ f.1))) ∙ z

  pub move-grid : move_grid m g ≡ map_grid M g
  unfolding move_grid map_grid filled-there?
  move-grid =
      ap (λ (s : Sides). grid_with s (λ v. cond (filled-there? v) 1 0)) (move-sides m g.sides)
      ∙ grid_with_same s' (λ v. cond (filled-there? v) 1 0) (λ v. byte_at g (map_cell (inverse M) s' v)) moved-byte

pub moves_grid : (ms : List Move) (g : Grid) → T (are_bits g) → length g.cells ≡ volume g.sides → grid_after ms g ≡ map_grid (moves_map ms) g
unfolding moves_map
moves_grid [] g t e = sym (identity_grid g e)
moves_grid (m ∷ ms) g t e =
    ap (grid_after ms) (move-grid m g t) ∙ moves_grid ms (map_grid (move_map m) g) (mapped_bits (move_map m) g t) (mapped_whole (move_map m) g)
    ∙ product_on (is_odd ms) (odd_move m) (moves_map ms) (move_map m) (moves_in ms) (move_in m) g

-- ---- each map is a sequence of moves
sequences : ℕ → List (List Quarter)
sequences zero = [] ∷ []
sequences (suc n) = [] ∷ each (sequences n) (λ qs. (about_x ∷ qs) ∷ (about_y ∷ qs) ∷ (about_z ∷ qs) ∷ [])

turns_done : T (all (λ m. any (λ qs. same_map (moves_map (map turn qs)) m) (sequences 4)) turns)
unfolding sequences moves_map move_map quarter_map quarters_map same_map code_of product axis_at flip_at identity turns transform permutations parity
turns_done = tt

mirrorings_done : T (all (λ m. any (λ qs. same_map (moves_map (mirroring qs ∷ [])) m) (sequences 4)) mirrorings)
unfolding sequences moves_map move_map quarter_map quarters_map same_map code_of product axis_at flip_at identity mirror mirrorings transform permutations parity
mirrorings_done = tt

pub turn_moves : (m : Map) → Memᴰ m turns → (qs : List Quarter) × (moves_map (map turn qs) ≡ m)
turn_moves m k =
    let r = any_at (λ (qs : List Quarter). same_map (moves_map (map turn qs)) m) (sequences 4) (all_at (λ (n : Map). any (λ (qs : List Quarter). same_map (moves_map (map turn qs)) n) (sequences 4)) turns turns_done k) in
    (r.0, same_map→eq (moves_map (map turn r.0)) m r.2)

pub mirroring_moves : (m : Map) → Memᴰ m mirrorings → (qs : List Quarter) × (moves_map (mirroring qs ∷ []) ≡ m)
mirroring_moves m k =
    let r = any_at (λ (qs : List Quarter). same_map (moves_map (mirroring qs ∷ [])) m) (sequences 4) (all_at (λ (n : Map). any (λ (qs : List Quarter). same_map (moves_map (mirroring qs ∷ [])) n) (sequences 4)) mirrorings mirrorings_done k) in
    (r.0, same_map→eq (moves_map (mirroring r.0 ∷ [])) m r.2)

pub turns_even : (qs : List Quarter) → is_odd (map turn qs) ≡ false
turns_even [] = refl
turns_even (q ∷ qs) = turns_even qs

pub turns_alone : (qs : List Quarter) → T (are_turns (map turn qs))
turns_alone [] = tt
turns_alone (q ∷ qs) = turns_alone qs
