-- Turned grids have the same variants, so a mirror partner's partner is the kind itself; and what an accepted call's tray has. Assumes nothing.
use Prim.Native.Nat.{ℕ}
use mathlib.Core.Bool.{Bool, true, false, not, ◌&&◌, ◌||◌}
use mathlib.Core.List.Memᴰ
use mathlib.Core.List.{List, [], ◌∷◌, map, Memᴰ, map-map}
use mathlib.Core.Path.{◌≡◌, refl, sym, ap, ◌∙◌, subst}
use mathlib.Core.Logic.{◌⊎◌, inl, inr, ◌↔◌}
use native.Mathlib.Omega.{arith}
use lib.Dec.{T, eqb, ltb, eqb→eq, nltb→le}
use lib.ListN.{length}
use Rattle.lists.specs.Lists.{same, before, ascending, head_or, less}
use Rattle.lists.proofs.TestLaws.{and_left, and_right, and_both, or_left, or_right, or_cases, ltb_trans, ltb_irrefl, eqb_of, decide, clash}
use Rattle.lists.proofs.SortLaws.{ascending_unique, sort_ascending, less_total, same_refl, sort_of}
use Rattle.lists.proofs.NthLaws.{nth_map, before_nth, Nth, nth_mem, nth_get_or, get_or_nth}
use Rattle.lists.proofs.NameLaws.{StrictOrder, before_entry, names_up}
use Rattle.definitions.specs.Grid.{Grid, volume, same_grid, grid_ahead, sides_then_cells}
use Rattle.definitions.specs.Maps.{Map, map_grid, turns, mirror, product}
use Rattle.theorems.proofs.GroupLaws.{identity_grid, same_grid→eq, same_grid_of}
use Rattle.definitions.specs.Kinds.{Tray, Piece, Form, same_form, form_ahead, Sorted, Kind, sorted, forms, variants, smallest, mirrored_form, partner_of, kinds_of, form_of}
use Rattle.definitions.specs.Placements.{Placement, compile}
use Rattle.definitions.specs.Kept.{kind_after}
use Rattle.theorems.proofs.SearchLaws.{WellMade}
use Rattle.theorems.proofs.ShapeLaws.{variant_at, smallest_at, kind_at}
use Rattle.theorems.proofs.ActLaws.{product_in, product_on, back_in}
use Rattle.theorems.proofs.MoveLaws.{mapped_whole, mirror_in}
use Rattle.theorems.proofs.CellLaws.{grid_trans, grid_irrefl}

-- ---- variants
pub grids_tied : (g h : Grid) → T (not (grid_ahead g h)) → T (not (grid_ahead h g)) → g ≡ h
unfolding grid_ahead same_grid
grids_tied g h a b = go (less_total (sides_then_cells g) (sides_then_cells h))
  where
    sides_then_cells_eq : sides_then_cells g ≡ sides_then_cells h → g ≡ h
    sides_then_cells_eq e = same_grid→eq g h (subst (λ (l : List ℕ). T (same (sides_then_cells g) l)) e (same_refl (sides_then_cells g)))

    go : T (less (sides_then_cells g) (sides_then_cells h)) ⊎ ((sides_then_cells g ≡ sides_then_cells h) ⊎ T (less (sides_then_cells h) (sides_then_cells g))) → g ≡ h
    go (inl t) = absurd (clash (less (sides_then_cells g) (sides_then_cells h)) t a)
    go (inr (inl e)) = sides_then_cells_eq e
    go (inr (inr t)) = absurd (clash (less (sides_then_cells h) (sides_then_cells g)) t b)

pub variant_of : (g : Grid) (m : Map) → Memᴰ m turns → Memᴰ (map_grid m g) (variants g)
unfolding variants
variant_of g m k = sort_of grid_ahead grids_tied (map (λ n. map_grid n g) turns) (Memᴰ.map (λ (n : Map). map_grid n g) k)

pub variants_up : (g : Grid) → T (ascending grid_ahead (variants g))
unfolding variants
variants_up g = sort_ascending grid_ahead grid_trans (map (λ m. map_grid m g) turns)

pub variants_turned : (t : Map) → Memᴰ t turns → (g : Grid) → length g.cells ≡ volume g.sides → variants (map_grid t g) ≡ variants g
variants_turned t k g e = ascending_unique grid_ahead grid_trans grid_irrefl (variants (map_grid t g)) (variants g) (variants_up (map_grid t g)) (variants_up g) there back
  where
    there : (v : Grid) → Memᴰ v (variants (map_grid t g)) → Memᴰ v (variants g)
    there v m =
        let r = variant_at (map_grid t g) v m in
        Memᴰ.cast (sym r.2 ∙ product_on false false r.0 t r.1 k g) (variant_of g (product r.0 t) (product_in false false r.0 t r.1 k))

    back : (v : Grid) → Memᴰ v (variants g) → Memᴰ v (variants (map_grid t g))
    back v m =
        let r = variant_at g v m in
        let b = back_in false t k in
        let undo : map_grid b.0 (map_grid t g) ≡ g = product_on false false b.0 t b.1 k g ∙ ap (λ (n : Map). map_grid n g) b.2 ∙ identity_grid g e in
        Memᴰ.cast (sym r.2 ∙ ap (map_grid r.0) (sym undo) ∙ product_on false false r.0 b.0 r.1 b.1 (map_grid t g))
        (variant_of (map_grid t g) (product r.0 b.0) (product_in false false r.0 b.0 r.1 b.1))

-- the smallest turned grid does not change by a turn
head_of : (g h : Grid) (xs : List Grid) → Memᴰ g xs → head_or g xs ≡ head_or h xs
head_of g h [] m = absurd (Memᴰ.not-nil m)
head_of g h (x ∷ xs) m = refl

pub smallest_turned : (t : Map) → Memᴰ t turns → (g : Grid) → length g.cells ≡ volume g.sides → smallest (map_grid t g) ≡ smallest g
unfolding smallest
smallest_turned t k g e = ap (head_or (map_grid t g)) (variants_turned t k g e) ∙ head_of (map_grid t g) g (variants g) (variant_of g t k)

pub smallest_again : (g : Grid) → length g.cells ≡ volume g.sides → smallest (smallest g) ≡ smallest g
smallest_again g e = let r = smallest_at g in ap smallest (sym r.2) ∙ smallest_turned r.0 r.1 g e

-- a mirrored grid's smallest, mirrored again, is back at the smallest
pub mirror_twice : (s : Grid) → length s.cells ≡ volume s.sides → smallest (map_grid mirror (smallest (map_grid mirror s))) ≡ smallest s
mirror_twice s e =
    let r = smallest_at (map_grid mirror s) in
    let a = product_in false true r.0 mirror r.1 mirror_in in
    ap (λ (h : Grid). smallest (map_grid mirror h)) (sym r.2 ∙ product_on false true r.0 mirror r.1 mirror_in s)
    ∙ ap smallest (product_on true true mirror (product r.0 mirror) mirror_in a s)
    ∙ smallest_turned (product mirror (product r.0 mirror)) (product_in true true mirror (product r.0 mirror) mirror_in a) s e

-- ---- partners
-- grids by their order
pub grids_ordered : StrictOrder Grid grid_ahead same_grid
grids_ordered = record { trans = grid_trans; irrefl = grid_irrefl; tied = grids_tied; equal = same_grid→eq; alike = λ g h e. same_grid_of e }

-- ---- forms: by grid, then by wood
pub form_path : {f g : Form} → f.grid ≡ g.grid → f.wood ≡ g.wood → f ≡ g
form_path p q = λ i. record { grid = p i; wood = q i }

pub same_form→eq : (f g : Form) → T (same_form f g) → f ≡ g
unfolding same_form
same_form→eq f g t =
    form_path (same_grid→eq f.grid g.grid (and_left (same_grid f.grid g.grid) (eqb f.wood g.wood) t))
    (eqb→eq f.wood g.wood (and_right (same_grid f.grid g.grid) (eqb f.wood g.wood) t))

pub same_form_of : {f g : Form} → f ≡ g → T (same_form f g)
unfolding same_form
same_form_of {f} {g} e = and_both (same_grid f.grid g.grid) (eqb f.wood g.wood) (same_grid_of (ap (λ (x : Form). x.grid) e)) (eqb_of (ap (λ (x : Form). x.wood) e))

-- "kinds with equal smallest grids go by wood"
pub form-ahead : (f g : Form) → T (form_ahead f g) ↔ (T (grid_ahead f.grid g.grid) ⊎ ((f.grid ≡ g.grid) × T (ltb f.wood g.wood)))
unfolding form_ahead
form-ahead f g = (λ t. there (or_cases a (b && c) t), back)
  where
    a : Bool
    a = grid_ahead f.grid g.grid

    b : Bool
    b = same_grid f.grid g.grid

    c : Bool
    c = ltb f.wood g.wood

    there : T a ⊎ T (b && c) → T a ⊎ ((f.grid ≡ g.grid) × T c)
    there (inl t) = inl t
    there (inr t) = inr (same_grid→eq f.grid g.grid (and_left b c t), and_right b c t)

    back : T a ⊎ ((f.grid ≡ g.grid) × T c) → T (a || (b && c))
    back (inl t) = or_left a (b && c) t
    back (inr r) = or_right a (b && c) (and_both b c (same_grid_of r.0) r.1)

pub form_trans : (f g h : Form) → T (form_ahead f g) → T (form_ahead g h) → T (form_ahead f h)
form_trans f g h s t = (form-ahead f h).1 (go ((form-ahead f g).0 s) ((form-ahead g h).0 t))
  where
    Ahead : Form → Form → Type 0
    Ahead x y = T (grid_ahead x.grid y.grid) ⊎ ((x.grid ≡ y.grid) × T (ltb x.wood y.wood))

    go : Ahead f g → Ahead g h → Ahead f h
    go (inl a) (inl b) = inl (grid_trans f.grid g.grid h.grid a b)
    go (inl a) (inr b) = inl (subst (λ (k : Grid). T (grid_ahead f.grid k)) b.0 a)
    go (inr a) (inl b) = inl (subst (λ (k : Grid). T (grid_ahead k h.grid)) (sym a.0) b)
    go (inr a) (inr b) = inr (a.0 ∙ b.0, ltb_trans f.wood g.wood h.wood a.1 b.1)

pub form_irrefl : (f : Form) → T (form_ahead f f) → ⊥
form_irrefl f t = go ((form-ahead f f).0 t)
  where
    go : T (grid_ahead f.grid f.grid) ⊎ ((f.grid ≡ f.grid) × T (ltb f.wood f.wood)) → ⊥
    go (inl a) = grid_irrefl f.grid a
    go (inr a) = ltb_irrefl f.wood a.1

pub forms_tied : (f g : Form) → T (not (form_ahead f g)) → T (not (form_ahead g f)) → f ≡ g
forms_tied f g a b = form_path grids (woods (decide (ltb f.wood g.wood)) (decide (ltb g.wood f.wood)))
  where
    neither : (x y : Form) → T (not (form_ahead x y)) → T (grid_ahead x.grid y.grid) → ⊥
    neither x y n t = clash (form_ahead x y) ((form-ahead x y).1 (inl t)) n

    not_grid : (x y : Form) → T (not (form_ahead x y)) → T (grid_ahead x.grid y.grid) ⊎ T (not (grid_ahead x.grid y.grid)) → T (not (grid_ahead x.grid y.grid))
    not_grid x y n (inl t) = absurd (neither x y n t)
    not_grid x y n (inr t) = t

    grids : f.grid ≡ g.grid
    grids = grids_tied f.grid g.grid (not_grid f g a (decide (grid_ahead f.grid g.grid))) (not_grid g f b (decide (grid_ahead g.grid f.grid)))

    woods : T (ltb f.wood g.wood) ⊎ T (not (ltb f.wood g.wood)) → T (ltb g.wood f.wood) ⊎ T (not (ltb g.wood f.wood)) → f.wood ≡ g.wood
    woods (inl t) k = absurd (clash (form_ahead f g) ((form-ahead f g).1 (inr (grids, t))) a)
    woods (inr s) (inl t) = absurd (clash (form_ahead g f) ((form-ahead g f).1 (inr (sym grids, t))) b)
    woods (inr s) (inr t) = let x = nltb→le f.wood g.wood s in let y = nltb→le g.wood f.wood t in omega arith

pub forms_ordered : StrictOrder Form form_ahead same_form
forms_ordered = record { trans = form_trans; irrefl = form_irrefl; tied = forms_tied; equal = same_form→eq; alike = λ f g e. same_form_of e }

pub before_form : (xs : List Form) → T (ascending form_ahead xs) → (n : ℕ) (f : Form) → Nth xs n f → before (same_form f) xs ≡ n
before_form xs t n f h = before_entry form_ahead same_form forms_ordered xs t n f h

module _ (t : Tray) (wholes : (q : Piece) → Memᴰ q t.pieces → length q.grid.cells ≡ volume q.grid.sides) where
  unfoldable pub fs : List Form
  fs = forms (sorted t)

  pub fs_up : T (ascending form_ahead fs)
  unfolding fs forms
  fs_up = names_up form_ahead same_form forms_ordered (λ (q : Sorted). q.form) (sorted t)

  pub forms-are : map form_of (kinds_of t) ≡ fs
  unfolding kinds_of fs form_of
  forms-are = map-map form_of _ (forms (sorted t)) ∙ map_id (forms (sorted t))
    where
      map_id : (xs : List Form) → map (λ f. f) xs ≡ xs
      map_id [] = refl
      map_id (x ∷ xs) = ap (λ (l : List Form). x ∷ l) (map_id xs)

  pub partner_is : (d : Kind) → Memᴰ d (kinds_of t) → d.partner ≡ before (same_form (mirrored_form (form_of d))) fs
  unfolding kinds_of partner_of fs form_of
  partner_is d k = let r = Memᴰ.of_map _ (forms (sorted t)) k in sym (ap (λ (x : Kind). x.partner) r.2) ∙ ap (λ (f : Form). before (same_form (mirrored_form f)) (forms (sorted t))) (ap form_of r.2)

  pub form_nth : (n : ℕ) (d : Kind) → Nth (kinds_of t) n d → Nth fs n (form_of d)
  form_nth n d h = subst (λ (l : List Form). Nth l n (form_of d)) forms-are (nth_map form_of (kinds_of t) n d h)

  -- a kind's shape is whole, and its own smallest
  pub shape_whole : (d : Kind) → Memᴰ d (kinds_of t) → (length d.shape.cells ≡ volume d.shape.sides) × (smallest d.shape ≡ d.shape)
  shape_whole d k =
      let r = kind_at t d k in
      let m = smallest_at r.0.grid in (
        subst (λ (g : Grid). length g.cells ≡ volume g.sides) (m.2 ∙ sym r.2) (mapped_whole m.0 r.0.grid),
        ap smallest r.2 ∙ smallest_again r.0.grid (wholes r.0 r.1) ∙ sym r.2,
      )

  -- a kind's mirror partner has its mirrored grids and its wood
  pub partner_form : (k l : ℕ) (d e : Kind) → Nth (kinds_of t) k d → Nth (kinds_of t) l e → l ≡ d.partner → mirrored_form (form_of d) ≡ form_of e
  partner_form k l d e a b h = same_form→eq (mirrored_form (form_of d)) (form_of e) (before_nth (same_form (mirrored_form (form_of d))) fs (form_of e) at_l)
    where
      at_l : Nth fs (before (same_form (mirrored_form (form_of d))) fs) (form_of e)
      at_l = subst (λ (n : ℕ). Nth fs n (form_of e)) (h ∙ partner_is d (nth_mem (kinds_of t) k a)) (form_nth l e b)

  pub partner-back : (k l : ℕ) (d e : Kind) → Nth (kinds_of t) k d → Nth (kinds_of t) l e → l ≡ d.partner → k ≡ e.partner
  unfolding mirrored_form form_of
  partner-back k l d e a b h = sym (partner_is e (nth_mem (kinds_of t) l b) ∙ ap (λ (f : Form). before (same_form f) fs) mirrored_back ∙ before_form fs fs_up k (form_of d) (form_nth k d a))
    where
      e_is : mirrored_form (form_of d) ≡ form_of e
      e_is = partner_form k l d e a b h

      w : (length d.shape.cells ≡ volume d.shape.sides) × (smallest d.shape ≡ d.shape)
      w = shape_whole d (nth_mem (kinds_of t) k a)

      mirrored_back : mirrored_form (form_of e) ≡ form_of d
      mirrored_back = ap mirrored_form (sym e_is) ∙ form_path (mirror_twice d.shape w.0 ∙ w.1) refl

  pub kinds_partner : WellMade (compile t) → (q r : Placement) → Memᴰ q (compile t).placements → Memᴰ r (compile t).placements
      → q.kind ≡ kind_after (compile t) true r.kind → r.kind ≡ kind_after (compile t) true q.kind
  unfolding kind_after compile
  kinds_partner w q r a b h =
      let x = get_or_nth (kinds_of t) r.kind (w.of_kinds r b) in
      let y = get_or_nth (kinds_of t) q.kind (w.of_kinds q a) in
      partner-back r.kind q.kind x.0 y.0 x.1 y.1 (h ∙ nth_get_or (λ (d : Kind). d.partner) (length (kinds_of t)) (kinds_of t) r.kind x.1)
      ∙ sym (nth_get_or (λ (d : Kind). d.partner) (length (kinds_of t)) (kinds_of t) q.kind y.1)

-- a turn makes two grids equal exactly if their smallest turned grids are the same
pub one_smallest : (g h : Grid) → length g.cells ≡ volume g.sides → length h.cells ≡ volume h.sides
    → (smallest g ≡ smallest h) ↔ ((m : Map) × Memᴰ m turns × (map_grid m g ≡ h))
one_smallest g h eg eh = (there, λ r. sym (smallest_turned r.0 r.1 g eg) ∙ ap smallest r.2)
  where
    there : smallest g ≡ smallest h → (m : Map) × Memᴰ m turns × (map_grid m g ≡ h)
    there e =
        let a = smallest_at g in
        let b = smallest_at h in
        let r = back_in false b.0 b.1 in (
          product r.0 a.0,
          product_in false false r.0 a.0 r.1 a.1,
          sym (product_on false false r.0 a.0 r.1 a.1 g) ∙ ap (map_grid r.0) (a.2 ∙ e ∙ sym b.2)
              ∙ product_on false false r.0 b.0 r.1 b.1 h ∙ ap (λ (n : Map). map_grid n h) r.2 ∙ identity_grid h eh,
        )
