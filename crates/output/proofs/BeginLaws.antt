-- The first page holds the list's first entries, or the call is refused with document 01's number. Assumes nothing.
use Prim.Native.Nat.{ℕ, ◌+◌, ◌*◌, ◌<◌, ◌≤◌}
use mathlib.Core.Bool.{Bool, true, false, cond, true≢false}
use mathlib.Core.List.{List, ◌++◌}
use mathlib.Core.Logic.{inl}
use mathlib.Core.Path.{◌≡◌, refl, sym, ap, ◌∙◌, subst}
use native.Mathlib.Nat.{mul-le-mul_right}
use native.Mathlib.Omega.{arith}
use borrow.Author.Tests.{ltb-true}
use lib.Dec.{T, eqb, eqb→eq, ltb}
use lib.ListN.{length, take, drop}
use lib.Seq.{length-take-le}
use Rattle.lists.proofs.TestLaws.{is_true}
use Rattle.placements.proofs.RefusalLaws.{sides_some}
use Rattle.definitions.specs.Files.{call_in}
use Rattle.definitions.specs.Grid.{volume}
use Rattle.definitions.specs.Outcomes.{Outcome, accepted, answer_size, number_of, outcome, outcome_of, refused}
use Rattle.definitions.specs.Refusals.{Call, refusal, sides_fit, sides_of, lent_of, tray_of}
use Rattle.definitions.specs.declared.Page.{Page as WrittenPage}
use Rattle.definitions.specs.declared.Record.{Record}
use Rattle.std.specs.Prelude.{Option, Ok, Err, None, Some, IsSome}
use Rattle.definitions.specs.declared.Refusal.{Refusal}
use Rattle.theorems.proofs.RefusalLaws.{board_sides, outcome_refused}
use Rattle.placements.specs.Pieces.{records_of}
use Rattle.placements.proofs.CountingLaws.{refused_some}
use Rattle.solver.specs.Lent.{call_with}
use Rattle.definitions.specs.Starts.{outcome_from}
use Rattle.definitions.specs.declared.Start.TheVariants.{Entry}
use Rattle.theorems.proofs.StartLaws.{entry_told}
use Rattle.output.specs.Rest.{Stands}
use Rattle.output.specs.Standing.{Begins, IsRead, list_in, places_of}
use Rattle.files.specs.declared.reading.Asked.{Asked}
use Rattle.output.specs.declared.Held.{Held}
use Rattle.output.proofs.AskedLaws.{asked_outcome, asked_refusal, call_for}
use Rattle.output.proofs.PageLaws.{Here, page_here, page_scratch, wrote}

number_is : (l : Call) → (outcome l).number ≡ refusal l
unfolding outcome accepted refused
number_is l = go (eqb (refusal l) 0) (λ t. eqb→eq (refusal l) 0 t)
  where
    go : (b : Bool) → (T b → refusal l ≡ 0) → (cond b (accepted l) (refused (refusal l) l)).number ≡ refusal l
    go true f = sym (f tt)
    go false f = refl

places_fit : (board : Record) → T (sides_fit board) → places_of board ≡ volume (sides_of board)
unfolding places_of
places_fit board t = ap (λ (b : Bool). cond b (volume (sides_of board)) 0) (is_true (sides_fit board) t)

abbrev pub start_with : Asked → ℕ → ℕ → Bool → Held
start_with asked places n further = record { asked = asked; base = 0; from = 0; written = n; further = further; room = 1; places = places }

module _ (text : List ℕ) (asked : Asked) (cells work links : List ℕ) (read : IsRead text asked cells work links)
    (answers : List ℕ) (places : ℕ) (said : places ≡ places_of asked.board) (small : places ≤ 512) (long : 1024 ≤ length answers) (few_bytes : length answers < 4611686018427387904) where
  abbrev l : Call
  l = call_for text (take (2 * places) answers) work links

  first_outcome : (last : List ℕ) → outcome_from (Entry 0) last (call_with (records_of asked.pieces) asked.board (take asked.used cells) asked.config (take (2 * places) answers) work links) ≡ outcome l
  unfolding outcome_from call_with
  first_outcome last = asked_outcome text (take asked.used cells) asked.pieces asked.board asked.config read.pieces_are read.board_is read.config_is read.bytes_are (take (2 * places) answers) work links (Entry 0) last

  refusal_same : refusal l ≡ refusal (call_in text 0 0)
  refusal_same = asked_refusal text (take (2 * places) answers) work links read.words read.numbers

  pub first_refused : (w : Refusal) (last page work' links' answers' : List ℕ)
      → outcome_of (Err w) page work' links' ≡ outcome_from (Entry 0) last (call_with (records_of asked.pieces) asked.board (take asked.used cells) asked.config (take (2 * places) answers) work links) → Begins text asked work links answers' work' links' (Err w)
  unfolding outcome_of refused call_with
  first_refused w last page work' links' answers' e =
      let z : number_of w ≡ (outcome l).number = ap (λ (o : Outcome). o.number) (e ∙ first_outcome last) in
      let no = e ∙ first_outcome last ∙ outcome_refused l (λ ok. refused_some w (z ∙ number_is l ∙ ok)) in
      record {
        first = z ∙ number_is l ∙ refusal_same;
        scratch = record { work_then = inl (ap (λ (o : Outcome). o.work) no); links_then = inl (ap (λ (o : Outcome). o.links) no) };
      }

  pub first_listed : (n : ℕ) (further : Bool) (last page work' links' answers' : List ℕ)
      → outcome_of (wrote n further) page work' links' ≡ outcome_from (Entry 0) last (call_with (records_of asked.pieces) asked.board (take asked.used cells) asked.config (take (2 * places) answers) work links)
      → answers' ≡ page ++ drop (2 * places) answers → length answers' ≡ length answers → Begins text asked work links answers' work' links' (Ok (start_with asked places n further))
  unfolding outcome_of list_in call_with lent_of tray_of answer_size
  first_listed n further last page work' links' answers' e f same =
      let z : 0 ≡ (outcome l).number = ap (λ (o : Outcome). o.number) (e ∙ first_outcome last) in
      let ok : refusal l ≡ 0 = sym (z ∙ number_is l) in
      let fit : T (sides_fit (call_in text 0 0).board) = board_sides l ok in
      let places_are : places ≡ volume (sides_of (call_in text 0 0).board) = said ∙ ap places_of read.board_is ∙ places_fit (call_in text 0 0).board fit in
      let some : 1 ≤ places = subst (λ (m : ℕ). 1 ≤ m) (sym places_are) (sides_some (call_in text 0 0).board fit) in
      let one : 2 * places ≡ 1 * (2 * places) = omega arith in
      let h : Here (list_in text) 0 (2 * places) 1 n further (page ++ drop (2 * places) answers)
      = page_here l ok (2 * places) 1 (ap (λ (m : ℕ). 2 * m) places_are) (omega arith) (length-take-le (2 * places) answers (omega arith) ∙ one) (omega arith) 0 (omega arith) n further page work' links' (drop (2 * places) answers) (e ∙ first_outcome last) in
      let few : n * (2 * places) ≤ 1 * (2 * places) = mul-le-mul_right (2 * places) h.few in
      let goes = h.goes_on in
      record {
        first = record {
          accepted = sym refusal_same ∙ ok;
          standing = record {
            accepted = sym refusal_same ∙ ok;
            places_are = places_are;
            some = some;
            small = small;
            stands = subst (Stands (list_in text) 0 (2 * places) n) (sym f) h.stands;
            lie = omega arith;
            passed = omega arith;
            goes_on = goes;
            some_written = λ v. h.some (follows (0 + n) (length (list_in text)) (sym goes ∙ v));
            room_some = omega arith;
            lend = omega arith;
            number = omega arith;
            few_bytes = omega arith;
          };
          asked_same = refl;
          start = refl;
        };
        scratch = page_scratch l ok (2 * places) 1 (ap (λ (m : ℕ). 2 * m) places_are) (omega arith) (length-take-le (2 * places) answers (omega arith) ∙ one) (omega arith) 0 n further page work' links' (e ∙ first_outcome last);
      }
    where
      follows : (m k : ℕ) → ltb m k ≡ true → 0 < k
      follows m k e = let h = ltb-true m k e in omega arith

  -- the page starts at an entry by its number
  pub first_there : (r : Option WrittenPage) (last page work' links' : List ℕ)
      → outcome_of (Ok r) page work' links' ≡ outcome_from (Entry 0) last (call_with (records_of asked.pieces) asked.board (take asked.used cells) asked.config (take (2 * places) answers) work links) → IsSome r
  unfolding outcome_of
  first_there None last page work' links' e = absurd (true≢false (ap (λ (o : Outcome). o.missing) e ∙ entry_told 0 last _))
  first_there (Some w) last page work' links' e = refl
