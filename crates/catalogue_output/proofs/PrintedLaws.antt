-- What a page call from entry 0 on leaves is what `catalogue` prints: an accepted call the entries, all of them, a refused one the number. Assumes nothing.
use Prim.Native.Nat.{ℕ, ◌+◌, ◌*◌, ◌/◌, ◌≤◌}
use mathlib.Core.Bool.{true}
use mathlib.Core.List.{List, ◌++◌, map}
use mathlib.Core.Path.{◌≡◌, sym, ap, ◌∙◌, subst}
use native.Mathlib.Nat.{mul-div_cancel}
use native.Mathlib.Omega.{arith}
use lib.ListN.{length, take, drop, length-map}
use lib.Seq.{take-length, take_at, drop_at}
use Rattle.std.specs.Prelude.{Ok, Err}
use Rattle.lists.specs.Lists.{joined}
use Rattle.lists.proofs.ListLaws.{drop_later}
use Rattle.lists.proofs.TestLaws.{by_order}
use Rattle.definitions.specs.Files.{refused_line}
use Rattle.definitions.specs.Outcomes.{number_of}
use Rattle.definitions.specs.Catalogue.{catalogue}
use Rattle.definitions.specs.CatalogueCalls.{CatalogueCall, CatalogueDemand, CatalogueStretch, catalogue_listing, catalogue_outcome_of, catalogue_printed, cells_asked, entry_bytes, is_request, count_line}
use Rattle.definitions.specs.declared.Page.{Page as WrittenPage}
use Rattle.definitions.specs.declared.Refusal.{Refusal}
use Rattle.placements.proofs.CountingLaws.{refused_some}
use Rattle.theorems.proofs.CataloguePrintedLaws.{listing_printed, refusal_21_printed}
use Rattle.theorems.proofs.CatalogueSizeLaws.{few_entries}
use Rattle.catalogue_output.specs.Entries.{HaveLines, first_lines}
use Rattle.catalogue_output.proofs.EntryLaws.{entries_length, have_lines, lines_are}

abbrev pub asked : ℕ → List ℕ → CatalogueCall
asked n old = record { n = n; skip = 0; entries = old }

-- one of two: so many cells are listed, or not
by_cells : {P : Type 0} (n : ℕ) → (1 ≤ n → n ≤ 6 → P) → (((1 ≤ n) × (n ≤ 6) → ⊥) → P) → P
by_cells n f g = by_order 1 n (λ h. by_order n 6 (λ k. f h k) (λ k. g (λ b. let z = b.1 in omega arith))) (λ h. g (λ b. let z = b.0 in omega arith))

-- ---- an accepted call: room for 166 entries is room for all
module _ (n : ℕ) (old new : List ℕ) (room : 3486 ≤ length old) (p : WrittenPage) (d : CatalogueDemand (asked n old) (catalogue_outcome_of (Ok p) new)) where
  pub some_cells : (1 ≤ n) × (n ≤ 6)
  some_cells = by_cells n (λ h k. (h, k)) (λ no. absurd (let e = (d.refused no).number in omega arith))

  stretch : CatalogueStretch (map entry_bytes (catalogue n)) (asked n old) (catalogue_outcome_of (Ok p) new)
  stretch = d.listed some_cells.0 some_cells.1

  few : length (catalogue n) ≤ 166
  few = few_entries n some_cells.1

  pub all_written : p.written ≡ length (catalogue n)
  all_written =
      let a = stretch.written in
      let b = stretch.one_more_does_not in
      let c = length-map (catalogue n) entry_bytes in
      let f = few in
      omega arith

  stands : new ≡ joined (map entry_bytes (catalogue n)) ++ drop (p.written * 21) old
  stands =
      stretch.bytes
      ∙ ap (λ (l : List (List ℕ)). joined l ++ drop (p.written * 21) old)
      (ap (λ (k : ℕ). take k (map entry_bytes (catalogue n))) (all_written ∙ sym (length-map (catalogue n) entry_bytes)) ∙ take-length (map entry_bytes (catalogue n)))

  as_long : length (joined (map entry_bytes (catalogue n))) ≡ p.written * 21
  as_long = entries_length n some_cells.1 ∙ ap (λ (k : ℕ). k * 21) (sym all_written)

  -- the entries that are written, how many they are, and their lines
  are_entries : take (p.written * 21) new ≡ joined (map entry_bytes (catalogue n))
  are_entries = ap (take (p.written * 21)) stands ∙ take_at (joined (map entry_bytes (catalogue n))) (drop (p.written * 21) old) (p.written * 21) as_long

  pub count_is : length (take (p.written * 21) new) / 21 ≡ length (catalogue n)
  count_is =
      ap (λ (l : List ℕ). length l / 21) are_entries ∙ ap (λ (k : ℕ). k / 21) (entries_length n some_cells.1)
      ∙ mul-div_cancel (length (catalogue n)) (omega arith)

  pub all_have_lines : HaveLines (length (take (p.written * 21) new) / 21) (take (p.written * 21) new)
  all_have_lines = rw (count_is, are_entries) (have_lines n some_cells.1)

  pub lines_fit : length (take (p.written * 21) new) / 21 * 33 + 64 ≤ 5542
  lines_fit = let a = count_is in let b = few in omega arith

  pub lines_printed : (text : List ℕ) → is_request text ≡ true → n ≡ cells_asked text
      → first_lines (take (p.written * 21) new) (length (take (p.written * 21) new) / 21) ++ count_line (length (take (p.written * 21) new) / 21)
      ≡ catalogue_printed text
  unfolding catalogue_listing
  lines_printed text request e =
      rw (count_is, are_entries)
      (ap (λ (l : List ℕ). l ++ count_line (length (catalogue n))) (lines_are n some_cells.1)
      ∙ ap catalogue_listing e ∙ sym (listing_printed text request (subst (λ (k : ℕ). 1 ≤ k) e some_cells.0) (subst (λ (k : ℕ). k ≤ 6) e some_cells.1)))

  pub kept : drop 3486 new ≡ drop 3486 old
  kept =
      drop_later (p.written * 21) 3486 new old (let a = all_written in let f = few in omega arith)
      (ap (drop (p.written * 21)) stands ∙ drop_at (joined (map entry_bytes (catalogue n))) (drop (p.written * 21) old) (p.written * 21) as_long)

-- ---- a refused call
module _ (n : ℕ) (old new : List ℕ) (why : Refusal) (d : CatalogueDemand (asked n old) (catalogue_outcome_of (Err why) new)) where
  other_cells : (1 ≤ n) × (n ≤ 6) → ⊥
  other_cells b = refused_some why (d.listed b.0 b.1).number

  pub refusal_printed : (text : List ℕ) → is_request text ≡ true → n ≡ cells_asked text → refused_line (number_of why) ≡ catalogue_printed text
  refusal_printed text request e =
      ap refused_line (d.refused other_cells).number ∙ sym (refusal_21_printed text request (subst (λ (k : ℕ). ((1 ≤ k) × (k ≤ 6)) → ⊥) e other_cells))

  pub unchanged : new ≡ old
  unchanged = (d.refused other_cells).entries_kept
