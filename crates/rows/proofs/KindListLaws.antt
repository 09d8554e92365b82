-- The kinds and the pieces of a tray, listed: a kind's copies, its mirror partner and how many cells it has, a piece's kind and its count. Assumes nothing.
use Prim.Native.Nat.{ℕ, zero, suc, ◌+◌, ◌≤◌, ◌<◌}
use mathlib.Core.Bool.{Bool, true, false, cond}
use mathlib.Core.List.{List, [], ◌∷◌, map, map-map}
use mathlib.Core.Path.{◌≡◌, refl, sym, ap, ap₂, ◌∙◌, subst}
use native.Mathlib.Omega.{arith}
use borrow.Author.Count.{below_more}
use lib.Dec.{T, eqb, ltb, ltb→lt}
use lib.ListN.{length, get_or, take, set, length-map, get_or-map}
use lib.Seq.{length-take-le, get_or-take, get_or-set_same, get_or-set_other}
use Rattle.lists.specs.Lists.{all, before, below, how_many, sum}
use Rattle.lists.proofs.ListLaws.{before_few, all_at, map_same}
use Rattle.lists.proofs.RangeLaws.{map_below}
use Rattle.definitions.specs.Grid.{Grid, volume, filled_cells}
use Rattle.definitions.specs.Maps.{Map, map_grid, map_of, mirror, product, identity, maps, turns, mirrorings, transform, permutations, parity, axis_at, flip_at}
use Rattle.definitions.specs.Kinds.{Piece, Tray, Form, piece_form, same_form, Kind, kind_named, kinds_of, smallest, sorted, forms, mirrored_form, partner_of}
use Rattle.definitions.specs.Placements.{compile}
use Rattle.definitions.specs.Packing.{limits}
use Rattle.definitions.specs.Orders.{sizes}
use Rattle.definitions.specs.Refusals.{grid_of, are_bits, copy_count, piece_of}
use Rattle.definitions.specs.declared.Record.{Record}
use Rattle.theorems.proofs.GroupLaws.{identity_grid}
use Rattle.theorems.proofs.ActLaws.{product_on}
use Rattle.theorems.proofs.MoveLaws.{mirror_in, mapped_whole}
use Rattle.theorems.proofs.PartnerLaws.{mirror_twice, form_path}
use Rattle.theorems.proofs.ShapeLaws.{smallest_at, sum_filled}
use Rattle.theorems.proofs.GroupLaws.{filled_bytes}
use Rattle.placements.specs.declared.Pieces.{Pieces}
use Rattle.placements.specs.Pieces.{no_record, records_of, lent_in}
use Rattle.placements.specs.Merging.{Sound, grid_at, shape_at, wood_at, form_at, moved_form, forms_of, AreKinds, copies_at}
use Rattle.placements.specs.Counting.{Accepted9}
use Rattle.placements.proofs.RefusalLaws.{all_grids}
use Rattle.placements.proofs.MergingLaws.{form_in, forms_length, counted, copies_all}
use Rattle.placements.proofs.CountingLaws.{lent_passes, sound, kinds_many, filled_smallest}
use Rattle.rows.proofs.RecordLaws.{record_is, record_bits, piece_size}
use Rattle.rows.specs.Charts.{kind_copies, kind_partner, kind_size, no_kind, nothing_owned}
use Rattle.rows.specs.declared.chart.Kind.{Kind as Entry}
use Rattle.rows.specs.Systems.{KindsIn, owned, owned_in}
use Rattle.rows.specs.declared.chart.Owned.{Owned}

-- ---- a tray has at most 128 copies
pub few-copies : (t : Pieces) (board : Record) (bytes : List ℕ) → Accepted9 t board bytes → copy_count (lent_in (records_of t) board bytes) ≤ 128
few-copies t board bytes ok = (lent_passes t board bytes ok).passed.few_copies

abbrev counts : List ℕ → List Record → ℕ
counts bytes rs = sum (map (λ q. q.count) (map (piece_of bytes) rs))

counted_few : (bytes : List ℕ) (g : Form) (rs : List Record) → counted bytes g rs ≤ counts bytes rs
unfolding counted
counted_few bytes g [] = omega arith
counted_few bytes g (r ∷ rs) = go (same_form (form_in bytes r) g) (counted_few bytes g rs)
  where
    go : (b : Bool) → counted bytes g rs ≤ counts bytes rs → cond b r.count 0 + counted bytes g rs ≤ r.count + counts bytes rs
    go true h = omega arith
    go false h = omega arith

pub one_few : (bytes : List ℕ) (rs : List Record) (i : ℕ) → (get_or rs i no_record).count ≤ counts bytes rs
one_few bytes [] i = omega arith
one_few bytes (r ∷ rs) zero = omega arith
one_few bytes (r ∷ rs) (suc i) = let h = one_few bytes rs i in omega arith

-- ---- mirrored, a kind's smallest turned grid stands for the kind of any of its mirrored grids
is_mirror : map_of 26 ≡ mirror
unfolding map_of maps turns mirrorings transform permutations parity mirror
is_mirror = refl

mirror_mirror : product mirror mirror ≡ identity
unfolding product mirror identity axis_at flip_at
mirror_mirror = refl

pub smallest_mirrored : (g : Grid) → length g.cells ≡ volume g.sides → smallest (map_grid mirror (smallest g)) ≡ smallest (map_grid mirror g)
smallest_mirrored g e =
    let back : map_grid mirror (map_grid mirror g) ≡ g = product_on true true mirror mirror mirror_in mirror_in g ∙ ap (λ (m : Map). map_grid m g) mirror_mirror ∙ identity_grid g e in
    ap (λ (h : Grid). smallest (map_grid mirror (smallest h))) (sym back) ∙ mirror_twice (map_grid mirror g) (mapped_whole mirror g)

-- ---- as many cells of a kind's smallest turned grid are filled as of any of its grids
pub smallest_size : (g : Grid) → T (are_bits g) → length g.cells ≡ volume g.sides → sum (smallest g).cells ≡ how_many (eqb 1) g.cells
smallest_size g bits e =
    let r = smallest_at g in
    ap (λ (h : Grid). sum h.cells) (sym r.2) ∙ sum_filled r.0 g bits ∙ ap (λ (h : Grid). length (filled_cells h)) r.2 ∙ filled_smallest g ∙ filled_bytes g e

-- ---- the form of piece i's mirrored grid; and that of a map that makes the smallest turned grid of it
unfoldable pub mirrored_at : Pieces → List ℕ → ℕ → Form
mirrored_at t bytes i = record { grid = smallest (map_grid (map_of 26) (grid_at t bytes i)); wood = wood_at t i }

pub mirrored_by : (t : Pieces) (bytes : List ℕ) (i m : ℕ) → map_grid (map_of m) (grid_at t bytes i) ≡ smallest (map_grid (map_of 26) (grid_at t bytes i)) → moved_form (map_of m) t bytes i ≡ mirrored_at t bytes i
unfolding moved_form mirrored_at
mirrored_by t bytes i m e = form_path e refl

-- ---- what is written: of the kind of piece i its copies, its partner and how many cells it has, of piece i its kind and its count
abbrev pub partner_at : Pieces → List ℕ → List ℕ → ℕ → ℕ → ℕ
partner_at t bytes first n i = before (same_form (mirrored_at t bytes i)) (forms_of t bytes (take n first))

abbrev pub size_at : Pieces → List ℕ → ℕ → ℕ
size_at t bytes i = how_many (eqb 1) (grid_at t bytes i).cells

pub record KindAt (t : Pieces) (bytes first : List ℕ) (n : ℕ) (kinds : List Entry) (k : ℕ) : Type 0 where
  pub copies : kind_copies kinds k ≡ copies_at t bytes (get_or first k 0)
  pub partner : kind_partner kinds k ≡ partner_at t bytes first n (get_or first k 0)
  pub size : kind_size kinds k ≡ size_at t bytes (get_or first k 0)

abbrev pub kind_at : Pieces → List ℕ → List ℕ → ℕ → ℕ → ℕ
kind_at t bytes first n i = before (same_form (form_at t bytes i)) (forms_of t bytes (take n first))

abbrev pub count_at : Pieces → ℕ → ℕ
count_at t i = (get_or t.records i no_record).count

module _ (t : Pieces) (board : Record) (bytes first : List ℕ) (n : ℕ) (ok : Accepted9 t board bytes) (are : AreKinds t bytes first n) (h : n ≤ length first) where
  pub lent_sound : Sound t bytes
  lent_sound = sound t board bytes (lent_passes t board bytes ok)

  all-bits : T (all (λ q. are_bits (grid_of bytes q)) (records_of t))
  all-bits = subst T (all_grids are_bits bytes (records_of t)) (lent_passes t board bytes ok).passed.bits

  whole : (i : ℕ) → i < t.count → length (grid_at t bytes i).cells ≡ volume (grid_at t bytes i).sides
  whole i l = piece_size t board bytes (lent_passes t board bytes ok) i l

  -- they fit a byte
  pub copies_fit : (i : ℕ) → copies_at t bytes i ≤ 128
  unfolding copy_count
  copies_fit i = let a = copies_all t bytes i in let b = counted_few bytes (form_at t bytes i) (records_of t) in let d = few-copies t board bytes ok in omega arith

  pub count_fits : (i : ℕ) → i < t.count → count_at t i ≤ 128
  unfolding copy_count
  count_fits i l =
      let a = one_few bytes (records_of t) i in
      let b = few-copies t board bytes ok in
      let e : (get_or (records_of t) i no_record).count ≡ count_at t i = ap (λ (r : Record). r.count) (record_is t lent_sound.few i l) in
      omega arith

  pub number_fits : (g : Form) → before (same_form g) (forms_of t bytes (take n first)) ≤ 16
  number_fits g =
      let a = before_few (same_form g) (forms_of t bytes (take n first)) in
      let b = forms_length t bytes (take n first) in
      let c = length-take-le n first h in
      let d = are.few in
      let e = lent_sound.few in
      omega arith

  -- ---- kinds
  abbrev xs : List ℕ
  xs = take n first

  size : length xs ≡ n
  size = length-take-le n first h

  -- what the code stores of kind k leaves the kinds before it
  pub kind_next : (old : List Entry) (k : ℕ) (e : Entry) → k < length old → ((j : ℕ) → j < k → KindAt t bytes first n old j)
      → e.copies ≡ copies_at t bytes (get_or first k 0) → e.partner ≡ partner_at t bytes first n (get_or first k 0) → e.size ≡ size_at t bytes (get_or first k 0)
      → (j : ℕ) → j < k + 1 → KindAt t bytes first n (set old k e) j
  kind_next old k e room all p q r =
      below_more (λ (j : ℕ). KindAt t bytes first n (set old k e) j) k
      (λ j l.
      let at = all j l in
      let s : get_or (set old k e) j no_kind ≡ get_or old j no_kind = get_or-set_other old k j e no_kind (λ d. omega arith) in
      record {
        copies = ap (λ (x : Entry). x.copies) s ∙ at.copies;
        partner = ap (λ (x : Entry). x.partner) s ∙ at.partner;
        size = ap (λ (x : Entry). x.size) s ∙ at.size;
      })
      (let s : get_or (set old k e) k no_kind ≡ e = get_or-set_same old k e no_kind room in
      record { copies = ap (λ (x : Entry). x.copies) s ∙ p; partner = ap (λ (x : Entry). x.partner) s ∙ q; size = ap (λ (x : Entry). x.size) s ∙ r })

  abbrev tray : Tray
  tray = lent_in (records_of t) board bytes

  forms-are : forms (sorted tray) ≡ map (form_at t bytes) xs
  unfolding sorted forms_of
  forms-are = sym are.forms_are

  -- what a function makes of the kinds, by a piece of each
  by_pieces : {B : Type 0} (f : Kind → B) (g : ℕ → B)
      → ((i : ℕ) → i < t.count → f (kind_named (sorted tray) (forms (sorted tray)) (form_at t bytes i)) ≡ g i)
      → map f (kinds_of tray) ≡ map g xs
  unfolding kinds_of
  by_pieces f g e =
      let qs = sorted tray in
      let make : Form → Kind = kind_named qs (forms qs) in
      map-map f make (forms qs) ∙ ap (map (λ (s : Form). f (make s))) forms-are ∙ map-map (λ (s : Form). f (make s)) (form_at t bytes) xs
      ∙ map_same (λ i. f (make (form_at t bytes i))) g xs (λ i m. e i (ltb→lt i t.count (all_at (λ (j : ℕ). ltb j t.count) xs are.ordered.pieces m)))

  partner_is : (i : ℕ) → i < t.count → partner_of (forms (sorted tray)) (form_at t bytes i) ≡ partner_at t bytes first n i
  unfolding partner_of mirrored_form mirrored_at form_at shape_at sorted
  partner_is i l =
      ap₂ (λ (f : Form) (fs : List Form). before (same_form f) fs)
      (form_path (smallest_mirrored (grid_at t bytes i) (whole i l) ∙ ap (λ (m : Map). smallest (map_grid m (grid_at t bytes i))) (sym is_mirror)) refl) (sym are.forms_are)

  copies_are : map (λ (d : Kind). length d.copies) (kinds_of tray) ≡ map (copies_at t bytes) xs
  unfolding copies_at sorted
  copies_are = by_pieces (λ (d : Kind). length d.copies) (copies_at t bytes) (λ i l. refl)

  partners_are : map (λ (d : Kind). d.partner) (kinds_of tray) ≡ map (partner_at t bytes first n) xs
  partners_are = by_pieces (λ (d : Kind). d.partner) (partner_at t bytes first n) partner_is

  size_is : (i : ℕ) → i < t.count → sum (form_at t bytes i).grid.cells ≡ size_at t bytes i
  unfolding form_at shape_at grid_at
  size_is i l = smallest_size (grid_at t bytes i) (record_bits t bytes lent_sound i l (λ r m. all_at (λ (q : Record). are_bits (grid_of bytes q)) (records_of t) all-bits m)) (whole i l)

  sizes-are : map (λ (d : Kind). sum d.shape.cells) (kinds_of tray) ≡ map (size_at t bytes) xs
  sizes-are = by_pieces (λ (d : Kind). sum d.shape.cells) (size_at t bytes) size_is

  pub kinds_end : (new : List Entry) → ((k : ℕ) → k < n → KindAt t bytes first n new k) → KindsIn new n (compile (lent_in (records_of t) board bytes))
  unfolding compile limits sizes
  kinds_end new all =
      record {
        count = sym (kinds_many t board bytes first n are h);
        copies = listed (kind_copies new) (copies_at t bytes) (λ k l. (all k l).copies) ∙ sym copies_are;
        partners = listed (kind_partner new) (partner_at t bytes first n) (λ k l. (all k l).partner) ∙ sym partners_are;
        sizes_are = listed (kind_size new) (size_at t bytes) (λ k l. (all k l).size) ∙ sym sizes-are;
      }
    where
      listed : (f g : ℕ → ℕ) → ((k : ℕ) → k < n → f k ≡ g (get_or first k 0)) → map f (below n) ≡ map g xs
      listed f g e = map_below f n (g 0) (map g xs) (length-map xs g ∙ size) (λ k l. e k l ∙ ap g (sym (get_or-take n first k 0 l)) ∙ sym (get_or-map g xs k 0))

  -- ---- pieces
  forms_here : forms_of t bytes (take n first) ≡ forms (sorted (lent_in (records_of t) board bytes))
  unfolding sorted
  forms_here = are.forms_are

  form_here : (i : ℕ) → form_in bytes (get_or t.records i no_record) ≡ form_at t bytes i
  unfolding form_at shape_at wood_at grid_at
  form_here i = refl

  -- what stands of piece i
  abbrev pub piece_entry : ℕ → Owned
  piece_entry i = record { kind = kind_at t bytes first n i; count = count_at t i }

  pub piece_next : (old : List Owned) (i : ℕ) (e : Owned) → i < length old → ((j : ℕ) → j < i → get_or old j nothing_owned ≡ piece_entry j)
      → e.kind ≡ kind_at t bytes first n i → e.count ≡ count_at t i → (j : ℕ) → j < i + 1 → get_or (set old i e) j nothing_owned ≡ piece_entry j
  piece_next old i e room all p q =
      below_more (λ (j : ℕ). get_or (set old i e) j nothing_owned ≡ piece_entry j) i
      (λ j l. get_or-set_other old i j e nothing_owned (λ d. omega arith) ∙ all j l)
      (get_or-set_same old i e nothing_owned room ∙ ap₂ {C = Owned} (λ (a b : ℕ). record { kind = a; count = b }) p q)

  pub pieces_end : length (records_of t) ≡ t.count → (new : List Owned) → ((i : ℕ) → i < t.count → get_or new i nothing_owned ≡ piece_entry i) → owned_in new t.count ≡ owned (lent_in (records_of t) board bytes)
  unfolding owned_in owned
  pieces_end many new all =
      map_below (λ i. get_or new i nothing_owned) t.count (own (piece_of bytes no_record)) (map own (map (piece_of bytes) (records_of t)))
      (length-map (map (piece_of bytes) (records_of t)) own ∙ length-map (records_of t) (piece_of bytes) ∙ many)
      (λ i l. all i l ∙ ap (λ (k : ℕ). record { kind = k; count = count_at t i }) (ap (before (same_form (form_at t bytes i))) forms_here) ∙ sym (listed i l))
    where
      gs : List Form
      gs = forms (sorted (lent_in (records_of t) board bytes))

      own : Piece → Owned
      own q = record { kind = before (same_form (piece_form q)) gs; count = q.count }

      listed : (i : ℕ) → i < t.count → get_or (map own (map (piece_of bytes) (records_of t))) i (own (piece_of bytes no_record)) ≡ record { kind = before (same_form (form_at t bytes i)) gs; count = count_at t i }
      listed i l =
          get_or-map own (map (piece_of bytes) (records_of t)) i (piece_of bytes no_record) ∙ ap own (get_or-map (piece_of bytes) (records_of t) i no_record)
          ∙ ap (λ (r : Record). own (piece_of bytes r)) (record_is t lent_sound.few i l) ∙ ap (λ (g : Form). record { kind = before (same_form g) gs; count = count_at t i }) (form_here i)
