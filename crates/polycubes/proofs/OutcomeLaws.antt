-- The entries of the catalogue, emitted from the start, leave the page that a call is to write. Assumes nothing.
use Prim.Native.Nat.{ℕ, ◌/◌, ◌≤◌}
use mathlib.Core.Bool.{false}
use mathlib.Core.List.{List, [], map, map-map}
use mathlib.Core.Path.{◌≡◌, sym, ◌∙◌, subst}
use native.Mathlib.Nat.{div-mul-le_self}
use lib.ListN.{length}
use Rattle.definitions.specs.Emission.{Emitted, IsPage, answers_in, begin, emits}
use Rattle.definitions.specs.Catalogue.{catalogue}
use Rattle.definitions.specs.CatalogueCalls.{CatalogueCall, catalogue_accepted, catalogue_page, entry_bytes}
use Rattle.theorems.proofs.CatalogueCallLaws.{entries_sized}
use Rattle.theorems.proofs.EmissionLaws.{Sized, emits_page}
use Rattle.polycubes.specs.Emission.{as_entries}

module _ (l : CatalogueCall) (few : l.n ≤ 6) where
  bytes_listed : answers_in (as_entries (catalogue l.n)) ≡ map entry_bytes (catalogue l.n)
  bytes_listed = map-map _ _ (catalogue l.n)

  abbrev capacity : ℕ
  capacity = length l.entries / 21

  abbrev emitted : Emitted
  emitted = emits capacity (as_entries (catalogue l.n)) (begin [] false l.skip l.entries)

  emitted_page : IsPage (map entry_bytes (catalogue l.n)) l.skip capacity l.entries emitted
  emitted_page =
      let fit = div-mul-le_self (length l.entries) 21 in
      subst (λ (xs : List (List ℕ)). IsPage xs l.skip capacity l.entries emitted) bytes_listed
      (emits_page [] false 21 (as_entries (catalogue l.n)) (subst (Sized 21) (sym bytes_listed) (entries_sized l.n few)) l.skip capacity l.entries fit)

  pub page_left : (e : Emitted) → e ≡ emitted → record { number = 0; written = e.written; further = e.further; entries = e.answers } ≡ catalogue_accepted l
  unfolding catalogue_accepted catalogue_page
  page_left e is =
      let p = emitted_page in
      (λ i. record { number = 0; written = (is i).written; further = (is i).further; entries = (is i).answers })
      ∙ (λ i. record { number = 0; written = p.written i; further = p.further i; entries = p.answers i })
