-- The pieces made of a list of records stand for the list as far as a call's outcome reads it: of at most 16 records they have all, and a call with more is
-- refused with 2, whatever the records are. Assumes nothing.
use Rattle.std.proofs.Common.{◌≡◌, ℕ, ◌+◌, ◌-◌, ◌≤◌, ◌<◌, min, leb, ltb, Bool, true, false, List, ◌++◌, map, length, get_or, take, drop, replicate, refl, sym, ap, ◌∙◌, arith}
use Rattle.std.proofs.Common.{ext_get_or, get_or-take, get_or-drop}
use Rattle.std.proofs.lemmas.List.{get_or_append_left, get_or-append_right, get_or-replicate, get_or_past, length-append, length-drop, length-replicate, length-take-le}
use borrow.Author.Tests.{leb-true, leb-false, ltb-true, ltb-false, lt-ltb}
use lib.ListN.{length-map}
use Rattle.lists.specs.Lists.{below}
use Rattle.lists.proofs.RangeLaws.{length_below, get_or_below, get_or_of}
use Rattle.definitions.specs.Refusals.{Call, table, refusal}
use Rattle.definitions.specs.Outcomes.{refused}
use Rattle.definitions.specs.declared.Record.{Record}
use Rattle.definitions.specs.declared.Config.{Config}
use Rattle.definitions.specs.Starts.{outcome_from}
use Rattle.definitions.specs.declared.Start.{Start}
use Rattle.theorems.proofs.StartLaws.{from_refused}
use Rattle.placements.specs.Pieces.{no_record, records_of, pieces_of}
use Rattle.placements.proofs.RefusalLaws.{records_few, records_count}
use Rattle.solver.specs.Lent.{call_with}

-- the records that are there, and behind them those of zeros
module _ (ps : List Record) (n : ℕ) (is : n ≡ min (length ps) 16) where
  abbrev made : List Record
  made = take n ps ++ drop n (replicate 16 no_record)

  abbrev asked : List Record
  asked = map (λ i. get_or ps i no_record) (below 16)

  n_few : n ≤ 16
  n_few = omega arith

  n_there : n ≤ length ps
  n_there = omega arith

  made_many : length made ≡ 16
  made_many =
      let a = length-append (take n ps) (drop n (replicate 16 no_record)) in
      let b = length-take-le n ps n_there in
      let c = length-drop n (replicate 16 no_record) in
      let d = length-replicate 16 no_record in
      let few = n_few in
      omega arith

  entry : (i : ℕ) → i < 16 → get_or made i no_record ≡ get_or ps i no_record
  entry i h = go (ltb i n) refl
    where
      long : length (take n ps) ≡ n
      long = length-take-le n ps n_there

      go : (b : Bool) → ltb i n ≡ b → get_or made i no_record ≡ get_or ps i no_record
      go true e =
          let l = ltb-true i n e in
          get_or_append_left (take n ps) (drop n (replicate 16 no_record)) no_record i (omega (arith, long, l)) ∙ get_or-take n ps i no_record l
      go false e =
          let l = ltb-false i n e in
          get_or-append_right (take n ps) (drop n (replicate 16 no_record)) n i no_record long l
          ∙ get_or-drop n (replicate 16 no_record) (i - n) no_record
          ∙ get_or-replicate 16 (n + (i - n)) no_record no_record (omega (arith, l))
          ∙ sym (get_or_past ps i no_record (omega (arith, l)))

  pub taken_are : take n ps ++ drop n (replicate 16 no_record) ≡ map (λ i. get_or ps i no_record) (below 16)
  taken_are =
      let many = length-map (below 16) (λ i. get_or ps i no_record) ∙ length_below 16 in
      ext_get_or no_record made asked (made_many ∙ sym many)
      (λ i l. let k : i < 16 = omega (arith, made_many) in entry i k ∙ sym (get_or_below (λ j. get_or ps j no_record) no_record 16 i k))

module _ (ps : List Record) where
  abbrev rows : List Record
  rows = map (λ i. get_or ps i no_record) (below 16)

  rows_many : length rows ≡ 16
  rows_many = length-map (below 16) (λ i. get_or ps i no_record) ∙ length_below 16

  -- of at most 16 records, the pieces stand for all
  records_are : length ps ≤ 16 → records_of (pieces_of ps) ≡ ps
  unfolding pieces_of
  records_are h =
      let m = rows_many in
      let len : length (take (length ps) rows) ≡ length ps = length-take-le (length ps) rows (omega arith) in
      records_few (pieces_of ps) h
      ∙ ext_get_or no_record (take (length ps) rows) ps len
      (λ i l. let k : i < length ps = omega arith in
      get_or-take (length ps) rows i no_record k ∙ get_or_of (λ j. get_or ps j no_record) no_record 0 16 i (omega arith) ∙ ap (λ (j : ℕ). get_or ps j no_record) (let z : 0 + i ≡ i = omega arith in z))

  -- and of more, a list that is as long
  records_more : length (records_of (pieces_of ps)) ≡ length ps
  unfolding pieces_of
  records_more = records_count (pieces_of ps) rows_many

-- a definition that says the same of all lists of more than 16 records says the same of the pieces' list
pub same_of : {A : Type 0} (d : List Record → A) → ((ps qs : List Record) → 16 < length ps → 16 < length qs → d ps ≡ d qs) → (ps : List Record) → d (records_of (pieces_of ps)) ≡ d ps
same_of d big ps = go (leb (length ps) 16) refl
  where
    go : (b : Bool) → leb (length ps) 16 ≡ b → d (records_of (pieces_of ps)) ≡ d ps
    go true e = ap d (records_are ps (leb-true (length ps) 16 e))
    go false e = let h = leb-false (length ps) 16 e in let m = records_more ps in big (records_of (pieces_of ps)) ps (omega arith) h

module _ (board : Record) (bytes : List ℕ) (config : Config) (answers work links : List ℕ) where
  abbrev call : List Record → Call
  call ps = call_with ps board bytes config answers work links

  refusal_many : (ps : List Record) → 16 < length ps → refusal (call_with ps board bytes config answers work links) ≡ 2
  unfolding refusal table call_with
  refusal_many ps h = simp (lt-ltb 16 (length ps) h)

  many_refused : (start : Start) (last : List ℕ) (ps : List Record) → 16 < length ps → outcome_from start last (call ps) ≡ refused 2 (call ps)
  many_refused start last ps h = let e = refusal_many ps h in from_refused start last (call ps) (λ z. omega (arith, e, z)) ∙ ap (λ (n : ℕ). refused n (call ps)) e

  none_read : (l m : List Record) → refused 2 (call l) ≡ refused 2 (call m)
  unfolding refused call_with
  none_read l m = refl

  pub outcome_same : (start : Start) (last : List ℕ) (ps : List Record)
      → outcome_from start last (call_with (records_of (pieces_of ps)) board bytes config answers work links) ≡ outcome_from start last (call_with ps board bytes config answers work links)
  outcome_same start last ps =
      same_of (λ l. outcome_from start last (call l)) (λ l m hl hm. many_refused start last l hl ∙ none_read l m ∙ sym (many_refused start last m hm)) ps
