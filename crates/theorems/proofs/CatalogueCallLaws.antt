-- A call for a page of the catalogue is refused where the number of cells is not 1 to 6; else it leaves its stretch of the one list of all pieces, in entries
-- of 21 bytes of which no two are the same. Assumes nothing.
use Prim.Native.Nat.{ℕ, zero, suc, ◌+◌, ◌-◌, ◌/◌, ◌<◌, ◌≤◌}
use mathlib.Core.Bool.{Bool, cond, not, ◌&&◌}
use mathlib.Core.List.Memᴰ
use mathlib.Core.List.{List, ◌++◌, map, Memᴰ, head-eq_of_cons-eq, tail-eq_of_cons-eq}
use mathlib.Core.Path.{◌≡◌, refl, sym, ap, ap₂, ◌∙◌, subst}
use native.Mathlib.Omega.{arith}
use lib.Dec.{T, leb, leb→le, le→leb, ltb, lt→ltb, eqb}
use lib.ListN.{length, take, replicate, length-append, length-replicate}
use lib.Seq.{take-append_seam}
use Rattle.lists.specs.Lists.{all}
use Rattle.lists.proofs.TestLaws.{and_left, and_right, and_both, is_true, is_false, cond_same}
use Rattle.lists.proofs.ListLaws.{all_at, all_of, all_append, apart_map}
use Rattle.lists.proofs.SortLaws.{apart_ascending}
use Rattle.definitions.specs.Grid.{Grid, volume, grid_ahead}
use Rattle.definitions.specs.Refusals.{are_bits}
use Rattle.definitions.specs.Catalogue.{catalogue, Catalogued, Roomy}
use Rattle.definitions.specs.CatalogueCalls.{CatalogueCall, CatalogueOutcome, catalogue_table, catalogue_refusal, entry_bytes, catalogue_page, catalogue_refused, catalogue_accepted, catalogue_outcome}
use Rattle.definitions.specs.CatalogueCalls.{RefusedBy21, CatalogueStretch, CatalogueDemand, OneCatalogue, MeetsCatalogueDemand}
use Rattle.theorems.proofs.GroupLaws.{grid_path}
use Rattle.theorems.proofs.CellLaws.{grid_irrefl}
use Rattle.theorems.proofs.EntryPageLaws.{room_fits, no_more_room, page_written, page_further, page_bytes, page_length}
use Rattle.theorems.proofs.CatalogueLaws.{needed_at, entry_at, catalogued, roomy}

-- ---- refused or not
pub refused_none : (n : ℕ) → 1 ≤ n → n ≤ 6 → catalogue_refusal n ≡ 0
unfolding catalogue_refusal catalogue_table
refused_none n h k = ap (λ (b : Bool). cond (not b) 21 0) (is_true (leb 1 n && leb n 6) (and_both (leb 1 n) (leb n 6) (le→leb 1 n h) (le→leb n 6 k)))

pub refused_21 : (n : ℕ) → ((1 ≤ n) × (n ≤ 6) → ⊥) → catalogue_refusal n ≡ 21
unfolding catalogue_refusal catalogue_table
refused_21 n d =
    ap (λ (b : Bool). cond (not b) 21 0)
    (is_false (leb 1 n && leb n 6) (λ t. d (leb→le 1 n (and_left (leb 1 n) (leb n 6) t), leb→le n 6 (and_right (leb 1 n) (leb n 6) t))))

module _ (l : CatalogueCall) where
  pub is_accepted : 1 ≤ l.n → l.n ≤ 6 → catalogue_outcome l ≡ catalogue_accepted l
  unfolding catalogue_outcome
  is_accepted h k = cond_same (catalogue_refusal l.n) 0 (catalogue_accepted l) (catalogue_refused (catalogue_refusal l.n) l) (refused_none l.n h k)

  pub is_refused : ((1 ≤ l.n) × (l.n ≤ 6) → ⊥) → catalogue_outcome l ≡ catalogue_refused 21 l
  unfolding catalogue_outcome
  is_refused d = ap (λ (n : ℕ). cond (eqb n 0) (catalogue_accepted l) (catalogue_refused n l)) (refused_21 l.n d)

-- ---- entries
module _ (n : ℕ) (few : n ≤ 6) (g : Grid) (m : Memᴰ g (catalogue n)) where
  pub entry_length : length (entry_bytes g) ≡ 21
  unfolding entry_bytes Roomy
  entry_length =
      let room = roomy n few g m in
      let whole = (entry_at n g m).piece.drawn.whole in
      let a = length-append g.cells (replicate (18 - length g.cells) 0) in
      let b = length-replicate {A = ℕ} (18 - length g.cells) 0 in
      omega arith

  entries_are_bytes : T (all (λ x. ltb x 256) (entry_bytes g))
  unfolding entry_bytes are_bits
  entries_are_bytes =
      and_both _ _ (side g.sides.a (omega arith)) (and_both _ _ (side g.sides.b (omega arith)) (and_both _ _ (side g.sides.c (omega arith))
      (subst T (sym (all_append (λ x. ltb x 256) g.cells (replicate (18 - length g.cells) 0))) (and_both _ _ bits (zeros (18 - length g.cells))))))
    where
      side : (x : ℕ) → x ≤ g.sides.a + g.sides.b + g.sides.c → T (ltb x 256)
      side x h = lt→ltb x 256 (let w = (needed_at n g.sides (entry_at n g m).walked).few in omega arith)

      bits : T (all (λ x. ltb x 256) g.cells)
      bits =
          all_of (λ x. ltb x 256) g.cells
          (λ x k. lt→ltb x 256 (let h = leb→le x 1 (all_at (λ i. leb i 1) g.cells (entry_at n g m).piece.drawn.bits k) in omega arith))

      zeros : (k : ℕ) → T (all (λ x. ltb x 256) (replicate k 0))
      zeros zero = tt
      zeros (suc k) = zeros k

pub entries_sized : (n : ℕ) → n ≤ 6 → (x : List ℕ) → Memᴰ x (map entry_bytes (catalogue n)) → length x ≡ 21
entries_sized n few x m = let r = Memᴰ.of_map entry_bytes (catalogue n) m in ap (λ (bytes : List ℕ). length bytes) (sym r.2) ∙ entry_length n few r.0 r.1

-- the bytes tell the sides, the sides how many cells there are, and the bytes the cells
same_entry : (n : ℕ) (g h : Grid) → Memᴰ g (catalogue n) → Memᴰ h (catalogue n) → entry_bytes g ≡ entry_bytes h → g ≡ h
unfolding entry_bytes
same_entry n g h m k e = grid_path sides (sym (front g) ∙ ap₂ (λ (v : ℕ) (l : List ℕ). take v l) as_long rest ∙ front h)
  where
    front : (j : Grid) → take (length j.cells) (j.cells ++ replicate (18 - length j.cells) 0) ≡ j.cells
    front j = take-append_seam j.cells (replicate (18 - length j.cells) 0)

    a : g.sides.a ≡ h.sides.a
    a = head-eq_of_cons-eq e

    b : g.sides.b ≡ h.sides.b
    b = head-eq_of_cons-eq (tail-eq_of_cons-eq e)

    c : g.sides.c ≡ h.sides.c
    c = head-eq_of_cons-eq (tail-eq_of_cons-eq (tail-eq_of_cons-eq e))

    sides : g.sides ≡ h.sides
    sides = λ i. record { a = a i; b = b i; c = c i }

    rest : g.cells ++ replicate (18 - length g.cells) 0 ≡ h.cells ++ replicate (18 - length h.cells) 0
    rest = tail-eq_of_cons-eq (tail-eq_of_cons-eq (tail-eq_of_cons-eq e))

    as_long : length g.cells ≡ length h.cells
    as_long = (entry_at n g m).piece.drawn.whole ∙ ap volume sides ∙ sym (entry_at n h k).piece.drawn.whole

one_catalogue : (n : ℕ) → 1 ≤ n → n ≤ 6 → OneCatalogue n (catalogue n)
unfolding Catalogued
one_catalogue n h k =
    record {
      pieces = catalogued n h;
      none_twice = apart_map entry_bytes (catalogue n) (apart_ascending grid_ahead grid_irrefl (catalogue n) (catalogued n h).ascend) (same_entry n);
      entry_length = entry_length n k;
      are_bytes = entries_are_bytes n k;
    }

-- ---- the demand
module _ (l : CatalogueCall) where
  entries : List (List ℕ)
  entries = map entry_bytes (catalogue l.n)

  stretch : 1 ≤ l.n → l.n ≤ 6 → CatalogueStretch (map entry_bytes (catalogue l.n)) l (catalogue_accepted l)
  unfolding catalogue_accepted catalogue_page entries
  stretch h k =
      record {
        number = refl;
        capacity = length l.entries / 21;
        they_fit = room_fits entries 21 some sized l.skip l.entries;
        one_more_does_not = no_more_room entries 21 some sized l.skip l.entries;
        written = page_written entries 21 some sized l.skip l.entries;
        further = page_further entries 21 some sized l.skip l.entries;
        bytes = page_bytes entries 21 some sized l.skip l.entries;
        entries_length = page_length entries 21 some sized l.skip l.entries;
      }
    where
      some : 0 < 21
      some = omega arith

      sized : (x : List ℕ) → Memᴰ x (map entry_bytes (catalogue l.n)) → length x ≡ 21
      sized = entries_sized l.n k

  -- whatever left what the definitions say has met it
  pub catalogue_demand : (o : CatalogueOutcome) → o ≡ catalogue_outcome l → CatalogueDemand l o
  unfolding catalogue_refused
  catalogue_demand o e =
      record {
        refused = λ d. subst (RefusedBy21 l) (sym (e ∙ is_refused l d)) (record { number = refl; writes_none = refl; says_none_follows = refl; entries_kept = refl });
        listed = λ h k. subst (CatalogueStretch (map entry_bytes (catalogue l.n)) l) (sym (e ∙ is_accepted l h k)) (stretch h k);
      }

pub catalogue_demand_holds : MeetsCatalogueDemand catalogue_outcome
catalogue_demand_holds = record { each_call = λ l. catalogue_demand l (catalogue_outcome l) refl; each_list = one_catalogue }
