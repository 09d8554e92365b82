-- One record more behind those of the pieces, and the records and cells of one grid more. Assumes nothing.
use Prim.Native.Nat.{ℕ, suc, ◌+◌, ◌≤◌, ◌<◌}
use mathlib.Core.Bool.{Bool, true, false, not}
use mathlib.Core.List.{List, [], ◌∷◌, ◌++◌, append-nil, append_assoc, map}
use mathlib.Core.Logic.{◌⊎◌, inl, inr}
use mathlib.Core.Path.{◌≡◌, refl, sym, ap, ◌∙◌}
use native.Mathlib.Omega.{arith}
use borrow.Author.Tests.{lt-ltb, le-ltb, ltb-true, ltb-false, leb-true, leb-false}
use lib.Dec.{T, ltb, leb, eqb, eqb→eq}
use lib.ListN.{length, get_or, set, length-map, length-append, length-set, get_or-append, get_or-eq_default}
use lib.Seq.{get_or-append_seam, get_or-set_same, get_or-set_other, ext_get_or}
use Rattle.lists.specs.Lists.{below}
use Rattle.lists.proofs.TestLaws.{eqb_of, decide, clash}
use Rattle.lists.proofs.RangeLaws.{length_below, get_or_of}
use Rattle.definitions.specs.Files.{Written, record_at, records_from}
use Rattle.definitions.specs.declared.Record.{Record}
use Rattle.placements.specs.declared.Pieces.{Pieces}
use Rattle.placements.specs.Pieces.{no_record, empty_pieces, pieces_of}
use Rattle.files.specs.Reading.{cells_of_all, push_record}

-- ---- one record more
pub pushed : (t : Pieces) (p : Record) (rows : List Record) → ((t.count < 16) × (rows ≡ set t.records t.count p)) ⊎ ((16 ≤ t.count) × (rows ≡ t.records)) → record { records = rows; count = t.count + 1 } ≡ push_record t p
pushed t p rows (inl e) = rw (lt-ltb t.count 16 e.0, e.1)
pushed t p rows (inr e) = rw (le-ltb t.count 16 e.0, e.1)

module _ (ps : List Record) (p : Record) where
  abbrev more : List Record
  more = ps ++ (p ∷ [])

  abbrev rows_of : List Record → List Record
  rows_of qs = map (λ i. get_or qs i no_record) (below 16)

  rows_length : (qs : List Record) → length (rows_of qs) ≡ 16
  rows_length qs = length-map (below 16) (λ i. get_or qs i no_record) ∙ length_below 16

  rows_at : (qs : List Record) (i : ℕ) → i < 16 → get_or (rows_of qs) i no_record ≡ get_or qs i no_record
  rows_at qs i h = let z : 0 + i ≡ i = omega arith in get_or_of (λ j. get_or qs j no_record) no_record 0 16 i h ∙ ap (λ (j : ℕ). get_or qs j no_record) z

  -- what stands at a place of the longer list
  at_old : (i : ℕ) → (i ≡ length ps → ⊥) → get_or more i no_record ≡ get_or ps i no_record
  at_old i f = go (leb (length ps) i) refl
    where
      go : (b : Bool) → leb (length ps) i ≡ b → get_or more i no_record ≡ get_or ps i no_record
      go true e =
          let h = leb-true (length ps) i e in
          let l = length-append ps (p ∷ []) in
          let k : length more ≤ i = omega (arith, f) in
          get_or-eq_default more no_record k ∙ sym (get_or-eq_default ps no_record h)
      go false e = get_or-append ps (p ∷ []) no_record i (leb-false (length ps) i e)

  rows_few : length ps < 16 → rows_of more ≡ set (rows_of ps) (length ps) p
  rows_few h =
      let l = rows_length ps in
      let m = rows_length more in
      let n = length-set (rows_of ps) (length ps) p in
      ext_get_or no_record (rows_of more) (set (rows_of ps) (length ps) p) (omega arith) (λ i k. go i (omega arith) (decide (eqb i (length ps))))
    where
      go : (i : ℕ) → i < 16 → T (eqb i (length ps)) ⊎ T (not (eqb i (length ps))) → get_or (rows_of more) i no_record ≡ get_or (set (rows_of ps) (length ps) p) i no_record
      go i k (inl t) =
          let e = eqb→eq i (length ps) t in
          let l = rows_length ps in
          rows_at more i k ∙ ap (λ (j : ℕ). get_or more j no_record) e ∙ get_or-append_seam ps p [] no_record
          ∙ sym (ap (λ (j : ℕ). get_or (set (rows_of ps) (length ps) p) j no_record) e ∙ get_or-set_same (rows_of ps) (length ps) p no_record (omega arith))
      go i k (inr t) =
          let f : i ≡ length ps → ⊥ = λ e. clash (eqb i (length ps)) (eqb_of e) t in
          rows_at more i k ∙ at_old i f ∙ sym (rows_at ps i k) ∙ sym (get_or-set_other (rows_of ps) (length ps) i p no_record f)

  rows_many : 16 ≤ length ps → rows_of more ≡ rows_of ps
  rows_many h =
      let l = rows_length ps in
      let m = rows_length more in
      ext_get_or no_record (rows_of more) (rows_of ps) (omega arith) (λ i k. let j : i < 16 = omega arith in rows_at more i j ∙ at_old i (λ e. omega arith) ∙ sym (rows_at ps i j))

  pieces_of_more : push_record (pieces_of ps) p ≡ pieces_of (ps ++ (p ∷ []))
  unfolding pieces_of
  pieces_of_more = sym (ap (λ (n : ℕ). record { records = rows_of more; count = n }) (length-append ps (p ∷ [])) ∙ pushed (pieces_of ps) p (rows_of more) (go (ltb (length ps) 16) refl))
    where
      go : (b : Bool) → ltb (length ps) 16 ≡ b → ((length ps < 16) × (rows_of more ≡ set (rows_of ps) (length ps) p)) ⊎ ((16 ≤ length ps) × (rows_of more ≡ rows_of ps))
      go true e = let h = ltb-true (length ps) 16 e in inl (h, rows_few h)
      go false e = let h = ltb-false (length ps) 16 e in inr (h, rows_many h)

pub pieces_of_none : empty_pieces 0 ≡ pieces_of []
unfolding pieces_of
pieces_of_none = refl

-- records, and their cells, of one grid more
module _ (g : Written) where
  pub cells_more : (gs : List Written) → cells_of_all (gs ++ (g ∷ [])) ≡ cells_of_all gs ++ g.cells
  unfolding cells_of_all
  cells_more [] = append-nil g.cells
  cells_more (h ∷ gs) = ap (λ (l : List ℕ). h.cells ++ l) (cells_more gs) ∙ sym (append_assoc h.cells (cells_of_all gs) g.cells)

  records_more : (start : ℕ) (gs : List Written) → records_from start (gs ++ (g ∷ [])) ≡ records_from start gs ++ (record_at (start + length (cells_of_all gs)) g ∷ [])
  unfolding cells_of_all
  records_more start [] = let e : start ≡ start + 0 = omega arith in ap (λ (n : ℕ). record_at n g ∷ []) e
  records_more start (h ∷ gs) =
      let l = length-append h.cells (cells_of_all gs) in
      let e : start + length h.cells + length (cells_of_all gs) ≡ start + length (h.cells ++ cells_of_all gs) = omega arith in
      ap (λ (ps : List Record). record_at start h ∷ ps) (records_more (start + length h.cells) gs ∙ ap (λ (n : ℕ). records_from (start + length h.cells) gs ++ (record_at n g ∷ [])) e)

  pub piece_more : (gs : List Written) → push_record (pieces_of (records_from 0 gs)) (record_at (length (cells_of_all gs)) g) ≡ pieces_of (records_from 0 (gs ++ (g ∷ [])))
  piece_more gs =
      let e : length (cells_of_all gs) ≡ 0 + length (cells_of_all gs) = omega arith in
      pieces_of_more (records_from 0 gs) (record_at (length (cells_of_all gs)) g)
      ∙ ap pieces_of (ap (λ (n : ℕ). records_from 0 gs ++ (record_at n g ∷ [])) e ∙ sym (records_more 0 gs))

pub records_length : (start : ℕ) (gs : List Written) → length (records_from start gs) ≡ length gs
records_length start [] = refl
records_length start (g ∷ gs) = ap suc (records_length (start + length g.cells) gs)
