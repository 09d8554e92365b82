-- What `catalogue` prints for a request that is not refused: the lines of all pieces, each of which is read in a tray's file as that piece, and last how many
-- they are. Assumes nothing.
use Prim.Native.Nat.{ℕ, ◌+◌, ◌-◌, ◌*◌, ◌≤◌, ◌<◌}
use mathlib.Core.Bool.{Bool, true, false, not, ◌||◌}
use mathlib.Core.List.{List, [], ◌∷◌, ◌++◌, map, map-map, map-append, append-nil, append_assoc, Memᴰ}
use mathlib.Core.Path.{◌≡◌, sym, ap, ap₂, ◌∙◌, subst}
use native.Mathlib.Omega.{arith}
use lib.Dec.{T, leb, eqb, leb→le}
use lib.ListN.{length, length-map}
use Rattle.lists.specs.Lists.{all, joined}
use Rattle.lists.proofs.TestLaws.{and_both, by_eq, clash, eqb_of, is_false, is_true}
use Rattle.lists.proofs.ListLaws.{joined_append, all_append, all_at, all_map, all_of, map_still}
use Rattle.definitions.specs.Texts.{text}
use Rattle.definitions.specs.Grid.{Grid, volume}
use Rattle.definitions.specs.Refusals.{are_bits}
use Rattle.definitions.specs.Files.{decimal, field, fields_of, grid_in, has_piece_fields, is_digit, is_grid_in, is_number, is_piece, last_of, lines_of, number_in, parts, piece_in, refused_line, without_last, wood_in}
use Rattle.definitions.specs.Catalogue.{Catalogued, catalogue}
use Rattle.definitions.specs.CatalogueCalls.{CataloguePrintedRight, Pasted, PrintsPieces, catalogue_listing, catalogue_printed, cells_asked, is_request, piece_shown, count_shown}
use Rattle.theorems.proofs.DigitLaws.{decimal_number, no_digit, side_number}
use Rattle.theorems.proofs.Dlx1ReadingLaws.{all_but_last, parts_behind, parts_between, parted_without, the_last, without}
use Rattle.theorems.proofs.CatalogueLaws.{catalogued, entry_at, needed_at}
use Rattle.theorems.proofs.CatalogueCallLaws.{refused_none, refused_21}

-- ---- the fields of a line
module _ (g : Grid) where
  abbrev words : List (List ℕ)
  words = (49 ∷ []) ∷ decimal g.sides.a ∷ decimal g.sides.b ∷ decimal g.sides.c ∷ map (λ n. n + 48) g.cells ∷ []

  by_words : piece_shown g ≡ text "piece" ++ joined (map (λ v. 9 ∷ v) words)
  unfolding piece_shown
  by_words = regroup (decimal g.sides.a) (decimal g.sides.b) (decimal g.sides.c) (map (λ n. n + 48) g.cells)
    where
      regroup : (a b c d : List ℕ) → text "piece\t1\t" ++ a ++ 9 ∷ b ++ 9 ∷ c ++ 9 ∷ d ≡ text "piece" ++ joined (map (λ v. 9 ∷ v) ((49 ∷ []) ∷ a ∷ b ∷ c ∷ d ∷ []))
      regroup a b c d = simp (append_assoc, append-nil)

-- ---- of a whole grid with cells 0 and 1 and sides below 1,000
module _ (g : Grid) (whole : length g.cells ≡ volume g.sides) (bits : T (all (λ n. leb n 1) g.cells)) (small : (g.sides.a < 1000) × (g.sides.b < 1000) × (g.sides.c < 1000)) where
  -- what `0` and `1` pass, all cells pass
  cells_pass : (p : ℕ → Bool) → T (p 48) → T (p 49) → T (all p (map (λ n. n + 48) g.cells))
  cells_pass p t u = subst T (sym (all_map (λ n. n + 48) p g.cells)) (all_of (λ n. p (n + 48)) g.cells (λ n m. one n (leb→le n 1 (all_at (λ k. leb k 1) g.cells bits m))))
    where
      one : (n : ℕ) → n ≤ 1 → T (p (n + 48))
      one n h =
          by_eq n 0 (λ e. subst (λ (k : ℕ). T (p (k + 48))) (sym e) t)
          (λ d. let e : 1 ≡ n = omega arith in subst (λ (k : ℕ). T (p (k + 48))) e u)

  words_without : (b : ℕ) → T (not (is_digit b)) → T (not (eqb 48 b)) → T (not (eqb 49 b)) → T (all (without b) (words g))
  words_without b t u v =
      and_both (without b (49 ∷ [])) _ (and_both (not (eqb 49 b)) true v tt)
      (and_both (without b (decimal g.sides.a)) _ (no_digit b g.sides.a t) (and_both (without b (decimal g.sides.b)) _ (no_digit b g.sides.b t)
      (and_both (without b (decimal g.sides.c)) _ (no_digit b g.sides.c t) (and_both (without b (map (λ n. n + 48) g.cells)) true (cells_pass (λ x. not (eqb x b)) u v) tt))))

  fields_are : fields_of (piece_shown g) ≡ text "piece" ∷ words g
  unfolding fields_of is_digit
  fields_are = ap (parts 9) (by_words g) ∙ parts_between 9 (text "piece") (words g) (words_without 9 tt tt tt)

  unbroken : T (without 10 (piece_shown g))
  unfolding is_digit
  unbroken = subst (λ (l : List ℕ). T (without 10 l)) (sym (by_words g)) (parted_without 9 10 (text "piece") (words g) tt (words_without 10 tt tt tt))

  side_read : (n : ℕ) → n < 1000 → number_in (decimal n) ≡ n
  side_read n h = decimal_number n (omega arith)

  cells_many : length (map (λ n. n + 48) g.cells) ≡ number_in (decimal g.sides.a) * number_in (decimal g.sides.b) * number_in (decimal g.sides.c)
  unfolding volume
  cells_many = rw (side_read g.sides.a small.0, side_read g.sides.b small.1, side_read g.sides.c small.2) (length-map g.cells (λ n. n + 48) ∙ whole)

  is_read : T (is_piece (piece_shown g))
  unfolding is_piece has_piece_fields is_grid_in field is_number is_digit
  is_read =
      rw fields_are
      (and_both (is_number 3 (decimal g.sides.a)) _ (side_number g.sides.a small.0) (and_both (is_number 3 (decimal g.sides.b)) _ (side_number g.sides.b small.1)
      (and_both (is_number 3 (decimal g.sides.c)) _ (side_number g.sides.c small.2)
      (and_both (all (λ x. eqb x 48 || eqb x 49) (map (λ n. n + 48) g.cells)) _ (cells_pass (λ x. eqb x 48 || eqb x 49) tt tt) (eqb_of cells_many)))))

  grid_read : piece_in (piece_shown g) ≡ record { count = 1; wood = 0; a = g.sides.a; b = g.sides.b; c = g.sides.c; cells = g.cells }
  unfolding piece_in grid_in wood_in field number_in
  grid_read =
      rw fields_are
      (λ i. record { count = 1; wood = 0; a = side_read g.sides.a small.0 i; b = side_read g.sides.b small.1 i; c = side_read g.sides.c small.2 i; cells = cells_read i })
    where
      cells_read : map (λ x. x - 48) (map (λ n. n + 48) g.cells) ≡ g.cells
      cells_read = map-map (λ x. x - 48) (λ n. n + 48) g.cells ∙ map_still (λ n. n + 48 - 48) g.cells (λ n m. omega arith)

  pasted : Pasted g (piece_shown g)
  pasted = record { is_read = is_read; is_grid = grid_read }

-- ---- what is printed
its_lines : ℕ → List (List ℕ)
its_lines n = map piece_shown (catalogue n) ++ (count_shown (length (catalogue n)) ∷ [])

module _ (n : ℕ) (few : n ≤ 6) where
  small_sides : (g : Grid) → Memᴰ g (catalogue n) → (g.sides.a < 1000) × (g.sides.b < 1000) × (g.sides.c < 1000)
  small_sides g m = let w = (needed_at n g.sides (entry_at n g m).walked).few in (omega arith, omega arith, omega arith)

  each_pasted : (g : Grid) → Memᴰ g (catalogue n) → Pasted g (piece_shown g)
  unfolding are_bits
  each_pasted g m = let d = (entry_at n g m).piece.drawn in pasted g d.whole d.bits (small_sides g m)

  each_unbroken : (g : Grid) → Memᴰ g (catalogue n) → T (without 10 (piece_shown g))
  unfolding are_bits
  each_unbroken g m = let d = (entry_at n g m).piece.drawn in unbroken g d.whole d.bits (small_sides g m)

  last_unbroken : T (without 10 (count_shown (length (catalogue n))))
  unfolding count_shown is_digit
  last_unbroken = no_digit 10 (length (catalogue n)) tt

  as_lines : catalogue_listing n ≡ joined (map (λ w. w ++ (10 ∷ [])) (its_lines n))
  unfolding catalogue_listing its_lines
  as_lines =
      let line = λ (w : List ℕ). w ++ (10 ∷ []) in
      let last = count_shown (length (catalogue n)) in
      sym (ap joined (map-append line (map piece_shown (catalogue n)) (last ∷ [])) ∙ joined_append (map line (map piece_shown (catalogue n))) (line last ∷ [])
      ∙ ap₂ (λ (a b : List ℕ). a ++ b) (ap joined (map-map line piece_shown (catalogue n))) (append-nil (line last)))

  lines_unbroken : T (all (without 10) (its_lines n))
  unfolding its_lines
  lines_unbroken =
      subst T (sym (all_append (without 10) (map piece_shown (catalogue n)) (count_shown (length (catalogue n)) ∷ [])))
      (and_both (all (without 10) (map piece_shown (catalogue n))) _
      (subst T (sym (all_map piece_shown (without 10) (catalogue n))) (all_of (λ g. without 10 (piece_shown g)) (catalogue n) each_unbroken))
      (and_both (without 10 (count_shown (length (catalogue n)))) true last_unbroken tt))

  parts_are : parts 10 (catalogue_listing n) ≡ its_lines n ++ ([] ∷ [])
  parts_are = ap (parts 10) as_lines ∙ parts_behind 10 (its_lines n) lines_unbroken

  prints_pieces : 1 ≤ n → PrintsPieces n (catalogue n) (catalogue_listing n)
  unfolding Catalogued lines_of its_lines
  prints_pieces some =
      record {
        pieces = catalogued n some;
        lines = ap without_last parts_are ∙ all_but_last (its_lines n) [];
        ended = ap last_of parts_are ∙ the_last (its_lines n) [];
        pasted = each_pasted;
      }

-- ---- whatever is read
module _ (bytes : List ℕ) where
  pub malformed_printed : is_request bytes ≡ false → catalogue_printed bytes ≡ refused_line 16
  unfolding catalogue_printed
  malformed_printed e = rw e

  module _ (request : is_request bytes ≡ true) where
    pub listing_printed : 1 ≤ cells_asked bytes → cells_asked bytes ≤ 6 → catalogue_printed bytes ≡ catalogue_listing (cells_asked bytes)
    unfolding catalogue_printed
    listing_printed some few = rw (request, refused_none (cells_asked bytes) some few)

    pub refusal_21_printed : ((1 ≤ cells_asked bytes) × (cells_asked bytes ≤ 6) → ⊥) → catalogue_printed bytes ≡ refused_line 21
    unfolding catalogue_printed
    refusal_21_printed d = rw (request, refused_21 (cells_asked bytes) d)

pub catalogue_printed_right : CataloguePrintedRight
catalogue_printed_right =
    record {
      malformed = λ bytes t. malformed_printed bytes (is_false (is_request bytes) (λ u. clash (is_request bytes) u t));
      refused = λ bytes t. refusal_21_printed bytes (is_true (is_request bytes) t);
      listed = λ bytes t some few.
          subst (PrintsPieces (cells_asked bytes) (catalogue (cells_asked bytes))) (sym (listing_printed bytes (is_true (is_request bytes) t) some few))
          (prints_pieces (cells_asked bytes) few some);
    }
