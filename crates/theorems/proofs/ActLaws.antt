-- Allowed maps are a group, and so are the images of packings under them. Assumes nothing.
use mathlib.Core.Bool.{Bool, true, false, not}
use mathlib.Core.List.Memᴰ
use mathlib.Core.List.{List, Memᴰ}
use mathlib.Core.Path.{◌≡◌, sym, ap, ◌∙◌, subst}
use mathlib.Core.Logic.{◌⊎◌, inl, inr}
use lib.Dec.{T}
use lib.ListN.{length}
use Rattle.lists.proofs.ListLaws.{all_at, keep_at, keep_of}
use Rattle.definitions.specs.Grid.{Sides, Cell, Grid, volume, filled_cells, same_grid}
use Rattle.definitions.specs.Maps.{Map, map_sides, map_cell, map_grid, turns, mirrorings, product, identity}
use Rattle.theorems.proofs.MapLaws.{Fits, turn_fits, mirroring_fits, filled_at, filled_there, mapped_sides}
use Rattle.theorems.proofs.GroupLaws.{is_flips, identity_turn, identity_cell, identity_grid, turns_flips, mirrorings_flips, closed_at, turn_turn_test, mirror_mirror_test, turn_mirror_test, mirror_turn_test, back_at, turns_back_test, mirrorings_back_test, product_cell, product_grid, same_grid→eq, same_grid_of}
use Rattle.definitions.specs.Placements.{Placement, Compiled}
use Rattle.definitions.specs.Packing.{Packing}
use Rattle.definitions.specs.Kept.{Identify, kind_after, image, symmetries, turned_images, mirrored_images, images}
use Rattle.definitions.specs.Kept.Identify.{None, Turned, Mirrored}
use Rattle.theorems.proofs.SearchLaws.{WellMade}
use Rattle.theorems.proofs.ImageLaws.{Numbered, image_still, image_same, image_back, image_next}

-- ---- turns are even, mirrorings odd
abbrev pub plus : Bool → Bool → Bool
plus false b = b
plus true b = not b

abbrev pub maps_of : Bool → List Map
maps_of false = turns
maps_of true = mirrorings

pub fits_of : (odd : Bool) (m : Map) → Memᴰ m (maps_of odd) → Fits m
fits_of false m k = turn_fits m k
fits_of true m k = mirroring_fits m k

pub flips_of : (odd : Bool) (m : Map) → Memᴰ m (maps_of odd) → T (is_flips m)
flips_of false m k = all_at is_flips turns turns_flips k
flips_of true m k = all_at is_flips mirrorings mirrorings_flips k

pub product_in : (odd odd' : Bool) (m n : Map) → Memᴰ m (maps_of odd) → Memᴰ n (maps_of odd') → Memᴰ (product m n) (maps_of (plus odd odd'))
product_in false false m n a b = closed_at turns turns turns turn_turn_test m n a b
product_in false true m n a b = closed_at turns mirrorings mirrorings turn_mirror_test m n a b
product_in true false m n a b = closed_at mirrorings turns mirrorings mirror_turn_test m n a b
product_in true true m n a b = closed_at mirrorings mirrorings turns mirror_mirror_test m n a b

pub back_in : (odd : Bool) (m : Map) → Memᴰ m (maps_of odd) → (n : Map) × Memᴰ n (maps_of odd) × (product n m ≡ identity) × (product m n ≡ identity)
back_in false m k = back_at turns turns_back_test m k
back_in true m k = back_at mirrorings mirrorings_back_test m k

-- the grid of a product
pub product_on : (odd odd' : Bool) (m n : Map) → Memᴰ m (maps_of odd) → Memᴰ n (maps_of odd') → (g : Grid) → map_grid m (map_grid n g) ≡ map_grid (product m n) g
product_on odd odd' m n a b g =
    product_grid m n (flips_of odd m a) (flips_of odd' n b) (fits_of odd m a) (fits_of odd' n b) (fits_of (plus odd odd') (product m n) (product_in odd odd' m n a b)) g

-- ---- maps that bring a grid onto itself
module _ (g : Grid) (whole : length g.cells ≡ volume g.sides) where
  pub record Allowed (odd : Bool) (m : Map) : Type 0 where
    pub is_map : Memᴰ m (maps_of odd)
    pub on_itself : map_grid m g ≡ g

  pub allowed_identity : Allowed false identity
  allowed_identity = record { is_map = identity_turn; on_itself = identity_grid g whole }

  pub allowed_product : (odd odd' : Bool) (m n : Map) → Allowed odd m → Allowed odd' n → Allowed (plus odd odd') (product m n)
  allowed_product odd odd' m n a b =
      record {
        is_map = product_in odd odd' m n a.is_map b.is_map;
        on_itself = sym (product_on odd odd' m n a.is_map b.is_map g) ∙ ap (map_grid m) b.on_itself ∙ a.on_itself;
      }

  pub allowed_back : (odd : Bool) (m : Map) → Allowed odd m → (n : Map) × Allowed odd n × (product n m ≡ identity) × (product m n ≡ identity)
  allowed_back odd m a =
      let r = back_in odd m a.is_map in
      (r.0, record { is_map = r.1; on_itself = ap (map_grid r.0) (sym a.on_itself) ∙ product_on odd odd r.0 m r.1 a.is_map g ∙ ap (λ (k : Map). map_grid k g) r.2 ∙ identity_grid g whole }, r.2, r.3)

  pub allowed_sides : (odd : Bool) (m : Map) → Allowed odd m → map_sides m g.sides ≡ g.sides
  allowed_sides odd m a = sym (mapped_sides m g) ∙ ap (λ (h : Grid). h.sides) a.on_itself

  pub allowed_cell : (odd : Bool) (m : Map) → Allowed odd m → (u : Cell) → Memᴰ u (filled_cells g) → Memᴰ (map_cell m g.sides u) (filled_cells g)
  allowed_cell odd m a u k = subst (λ (h : Grid). Memᴰ (map_cell m g.sides u) (filled_cells h)) a.on_itself (filled_there m (fits_of odd m a.is_map) g u k)

  pub allowed_then : (odd odd' : Bool) (m n : Map) → Allowed odd m → Allowed odd' n → (u : Cell) → Memᴰ u (filled_cells g)
      → map_cell m g.sides (map_cell n g.sides u) ≡ map_cell (product m n) g.sides u
  allowed_then odd odd' m n a b u k =
      ap (λ (s : Sides). map_cell m s (map_cell n g.sides u)) (sym (allowed_sides odd' n b))
      ∙ product_cell m n (flips_of odd m a.is_map) (flips_of odd' n b.is_map) g.sides u (filled_at g u k).0

  pub identity_then_cell : (odd : Bool) (m n : Map) → Allowed odd m → Allowed odd n → product n m ≡ identity → (u : Cell) → Memᴰ u (filled_cells g) → map_cell n g.sides (map_cell m g.sides u) ≡ u
  identity_then_cell odd m n a b e u k = allowed_then odd odd n m b a u k ∙ ap (λ (h : Map). map_cell h g.sides u) e ∙ identity_cell g.sides u

-- ---- images
-- what an identification allows: turns, and mirrorings with Mirrored
abbrev pub may : Identify → Bool → Bool
may None odd = false
may Turned odd = not odd
may Mirrored odd = true

module _ (c : Compiled) (w : WellMade c) (nu : Numbered c) (whole : length c.board.cells ≡ volume c.board.sides)
    (to_filled : (u : Cell) → Memᴰ u c.cells → Memᴰ u (filled_cells c.board)) (of_filled : (u : Cell) → Memᴰ u (filled_cells c.board) → Memᴰ u c.cells) where
  abbrev G : Grid
  G = c.board

  abbrev act : Map → Cell → Cell
  act m u = map_cell m G.sides u

  pub symmetry_at : (odd : Bool) (m : Map) → Memᴰ m (symmetries G (maps_of odd)) → Allowed G whole odd m
  unfolding symmetries
  symmetry_at odd m k = let r = keep_at (λ (n : Map). same_grid (map_grid n G) G) (maps_of odd) k in record { is_map = r.0; on_itself = same_grid→eq (map_grid m G) G r.1 }

  symmetry_of : (odd : Bool) (m : Map) → Allowed G whole odd m → Memᴰ m (symmetries G (maps_of odd))
  unfolding symmetries
  symmetry_of odd m a = keep_of (λ (n : Map). same_grid (map_grid n G) G) (maps_of odd) a.is_map (same_grid_of a.on_itself)

  -- an image is that under an allowed map
  pub record ImageUnder (i : Identify) (P Q : List Placement) : Type 0 where
    pub odd : Bool
    pub by : Map
    pub fine : T (may i odd)
    pub allowed : Allowed G whole odd by
    pub onto : image c odd (act by) P ≡ Q

  under_turn : (P Q : List Placement) → Memᴰ Q (turned_images c P) → (m : Map) × Allowed G whole false m × (image c false (act m) P ≡ Q)
  unfolding turned_images
  under_turn P Q k = let r = Memᴰ.of_map (λ (m : Map). image c false (act m) P) (symmetries G turns) k in (r.0, symmetry_at false r.0 r.1, r.2)

  under_mirroring : (P Q : List Placement) → Memᴰ Q (mirrored_images c P) → (m : Map) × Allowed G whole true m × (image c true (act m) P ≡ Q)
  unfolding mirrored_images
  under_mirroring P Q k = let r = Memᴰ.of_map (λ (m : Map). image c true (act m) P) (symmetries G mirrorings) k in (r.0, symmetry_at true r.0 r.1, r.2)

  of_turn : (P : List Placement) (m : Map) → Allowed G whole false m → Memᴰ (image c false (act m) P) (turned_images c P)
  unfolding turned_images
  of_turn P m a = Memᴰ.map (λ (n : Map). image c false (act n) P) (symmetry_of false m a)

  of_mirroring : (P : List Placement) (m : Map) → Allowed G whole true m → Memᴰ (image c true (act m) P) (mirrored_images c P)
  unfolding mirrored_images
  of_mirroring P m a = Memᴰ.map (λ (n : Map). image c true (act n) P) (symmetry_of true m a)

  pub images-at : (i : Identify) (P Q : List Placement) → Memᴰ Q (images c i P) → ImageUnder i P Q
  unfolding images
  images-at None P Q k = absurd (Memᴰ.not-nil k)
  images-at Turned P Q k = let r = under_turn P Q k in record { odd = false; by = r.0; fine = tt; allowed = r.1; onto = r.2 }
  images-at Mirrored P Q k = go (Memᴰ.append_cases (turned_images c P) k)
    where
      go : Memᴰ Q (turned_images c P) ⊎ Memᴰ Q (mirrored_images c P) → ImageUnder Mirrored P Q
      go (inl k) = let r = under_turn P Q k in record { odd = false; by = r.0; fine = tt; allowed = r.1; onto = r.2 }
      go (inr k) = let r = under_mirroring P Q k in record { odd = true; by = r.0; fine = tt; allowed = r.1; onto = r.2 }

  images_by : (i : Identify) (odd : Bool) → T (may i odd) → (m : Map) → Allowed G whole odd m → (P : List Placement) → Memᴰ (image c odd (act m) P) (images c i P)
  unfolding images
  images_by None odd t m a P = absurd t
  images_by Turned false t m a P = of_turn P m a
  images_by Turned true t m a P = absurd t
  images_by Mirrored false t m a P = Memᴰ.append_left (mirrored_images c P) (of_turn P m a)
  images_by Mirrored true t m a P = Memᴰ.append_right (turned_images c P) (of_mirroring P m a)

  pub images-of : (i : Identify) (P Q : List Placement) → ImageUnder i P Q → Memᴰ Q (images c i P)
  images-of i P Q x = Memᴰ.cast (sym x.onto) (images_by i x.odd x.fine x.by x.allowed P)

  may_false : (i : Identify) (odd : Bool) → T (may i odd) → T (may i false)
  may_false None odd t = t
  may_false Turned odd t = tt
  may_false Mirrored odd t = tt

  may_plus : (i : Identify) (a b : Bool) → T (may i a) → T (may i b) → T (may i (plus a b))
  may_plus None a b s t = absurd s
  may_plus Turned false b s t = t
  may_plus Turned true b s t = absurd s
  may_plus Mirrored a b s t = tt

  pub on_cells : (odd : Bool) (m : Map) → Allowed G whole odd m → (u : Cell) → Memᴰ u c.cells → Memᴰ (act m u) c.cells
  on_cells odd m a u k = of_filled (act m u) (allowed_cell G whole odd m a u (to_filled u k))

  pub self_image : (i : Identify) → T (may i false) → (P : List Placement) → Packing c P → Memᴰ P (images c i P)
  self_image i t P g = images-of i P P (record { odd = false; by = identity; fine = t; allowed = allowed_identity G whole; onto = image_still c w nu (act identity) (λ u k. identity_cell G.sides u) P g })

  module _ (partner_back : (q r : Placement) → Memᴰ q c.placements → Memᴰ r c.placements → q.kind ≡ kind_after c true r.kind → r.kind ≡ kind_after c true q.kind) where
    pub kinds_back : (odd : Bool) (q r : Placement) → Memᴰ q c.placements → Memᴰ r c.placements → q.kind ≡ kind_after c odd r.kind → r.kind ≡ kind_after c odd q.kind
    unfolding kind_after
    kinds_back false q r a b e = sym e
    kinds_back true q r a b e = partner_back q r a b e

    kinds_plus : (odd odd' : Bool) (q r : Placement) → Memᴰ q c.placements → Memᴰ r c.placements → q.kind ≡ kind_after c odd r.kind → kind_after c odd' q.kind ≡ kind_after c (plus odd' odd) r.kind
    unfolding kind_after
    kinds_plus false false q r a b e = e
    kinds_plus false true q r a b e = ap (kind_after c true) e
    kinds_plus true false q r a b e = e
    kinds_plus true true q r a b e = sym (partner_back q r a b e)

    pub back_image : (i : Identify) (P Q : List Placement) → Packing c P → Packing c Q → Memᴰ Q (images c i P) → Memᴰ P (images c i Q)
    back_image i P Q g h k =
        let x = images-at i P Q k in
        let r = allowed_back G whole x.odd x.by x.allowed in
        images-of i Q P (record {
          odd = x.odd;
          by = r.0;
          fine = x.fine;
          allowed = r.1;
          onto =
              image_back c w nu x.odd (act x.by) (act r.0) (on_cells x.odd x.by x.allowed) (on_cells x.odd r.0 r.1)
              (λ u m. identity_then_cell G whole x.odd x.by r.0 x.allowed r.1 r.2 u (to_filled u m))
              (λ u m. identity_then_cell G whole x.odd r.0 x.by r.1 x.allowed r.3 u (to_filled u m))
              (kinds_back x.odd) P Q g h x.onto;
        })

    pub act_inj : (odd : Bool) (m : Map) → Allowed G whole odd m → (u v : Cell) → Memᴰ u c.cells → Memᴰ v c.cells → act m u ≡ act m v → u ≡ v
    act_inj odd m a u v k l e =
        let r = allowed_back G whole odd m a in
        sym (identity_then_cell G whole odd m r.0 a r.1 r.2 u (to_filled u k)) ∙ ap (act r.0) e ∙ identity_then_cell G whole odd m r.0 a r.1 r.2 v (to_filled v l)

    pub next_image : (i : Identify) (P Q R : List Placement) → Packing c P → Packing c Q → Packing c R → Memᴰ Q (images c i P) → Memᴰ R (images c i Q) → Memᴰ R (images c i P)
    next_image i P Q R g h k a b =
        let x = images-at i P Q a in
        let y = images-at i Q R b in
        images-of i P R (record {
          odd = plus y.odd x.odd;
          by = product y.by x.by;
          fine = may_plus i y.odd x.odd y.fine x.fine;
          allowed = allowed_product G whole y.odd x.odd y.by x.by y.allowed x.allowed;
          onto =
              image_same c w nu (plus y.odd x.odd) (act (product y.by x.by)) (λ u. act y.by (act x.by u))
              (λ u m. sym (allowed_then G whole y.odd x.odd y.by x.by y.allowed x.allowed u (to_filled u m))) P g
              ∙ image_next c w nu x.odd y.odd (plus y.odd x.odd) (act x.by) (act y.by) (on_cells x.odd x.by x.allowed) (on_cells y.odd y.by y.allowed)
              (act_inj x.odd x.by x.allowed) (act_inj y.odd y.by y.allowed) (kinds_plus x.odd y.odd) P Q R g h k x.onto y.onto;
        })
