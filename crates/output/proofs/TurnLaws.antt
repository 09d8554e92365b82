-- A page behind the last entry of a page holds the entries of document 01's one list that follow. Assumes nothing.
use Prim.Native.Nat.{ℕ, suc, ◌+◌, ◌-◌, ◌*◌, ◌<◌, ◌≤◌}
use mathlib.Core.Bool.{Bool, true}
use mathlib.Core.List.{List, ◌++◌}
use mathlib.Core.Path.{◌≡◌, refl, sym, ap, ◌∙◌, subst}
use native.Mathlib.Nat.{le_trans, mul-le-mul_right}
use native.Mathlib.Omega.{arith}
use lib.Dec.{ltb, ltb→lt}
use lib.ListN.{length, take, drop}
use lib.Seq.{length-take-le}
use Rattle.lists.proofs.TestLaws.{holds}
use Rattle.definitions.specs.Outcomes.{answer_size, outcome, outcome_of}
use Rattle.definitions.specs.Refusals.{Call, refusal, sides_of, lent_of, tray_of}
use Rattle.std.specs.Prelude.{Ok, Err, None}
use Rattle.definitions.specs.declared.Refusal.{Refusal}
use Rattle.placements.specs.Pieces.{records_of}
use Rattle.solver.specs.Lent.{call_with}
use Rattle.definitions.specs.Starts.{outcome_from, skipping}
use Rattle.definitions.specs.declared.Start.TheVariants.{Behind}
use Rattle.output.specs.Rest.{Stands}
use Rattle.output.specs.Standing.{IsRead, Standing, Turned, list_in}
use Rattle.output.specs.declared.Held.{Held}
use Rattle.output.proofs.AskedLaws.{asked_outcome, asked_refusal, call_for}
use Rattle.output.proofs.PageLaws.{Here, page_here, page_accepted, page_there, page_scratch, behind_is, wrote}

module _ (text : List ℕ) (p : Held) (cells work links : List ℕ) (read : IsRead text p.asked cells work links)
    (answers : List ℕ) (s : Standing text p answers) (all : p.from ≡ p.written) (more : p.further ≡ true)
    (room : ℕ) (room_some : 1 ≤ room) (lend : room * (2 * p.places) ≤ length answers) where
  abbrev l : Call
  l = call_for text (take (room * (2 * p.places)) answers) work links

  ok : refusal l ≡ 0
  ok = asked_refusal text (take (room * (2 * p.places)) answers) work links read.words read.numbers ∙ s.accepted

  size_is : 2 * p.places ≡ answer_size (sides_of l.board)
  unfolding call_with answer_size
  size_is = ap (λ (n : ℕ). 2 * n) s.places_are

  room_is : length l.answers ≡ room * (2 * p.places)
  unfolding call_with
  room_is = length-take-le (room * (2 * p.places)) answers lend

  -- a further entry follows those in the buffer
  follows : p.base + p.written < length (list_in text)
  follows = ltb→lt (p.base + p.written) (length (list_in text)) (holds (ltb (p.base + p.written) (length (list_in text))) (sym s.goes_on ∙ more))

  sized : 1 ≤ 2 * p.places
  sized = let h = s.some in omega arith

  -- the outcome asked for is that of the page behind the entries in the buffer
  turned_outcome : outcome_from Behind (take (2 * p.places) (drop ((p.written - 1) * (2 * p.places)) answers)) (call_with (records_of p.asked.pieces) p.asked.board (take p.asked.used cells) p.asked.config (take (room * (2 * p.places)) answers) work links)
      ≡ outcome (skipping (p.base + p.written) (call_for text (take (room * (2 * p.places)) answers) work links))
  unfolding list_in call_with lent_of tray_of
  turned_outcome =
      let some = s.some_written more in
      let f = follows in
      let last = take (2 * p.places) (drop ((p.written - 1) * (2 * p.places)) answers) in
      let next : suc (p.base + (p.written - 1)) ≡ p.base + p.written = omega arith in
      asked_outcome text (take p.asked.used cells) p.asked.pieces p.asked.board p.asked.config read.pieces_are read.board_is read.config_is read.bytes_are (take (room * (2 * p.places)) answers) work links Behind last
      ∙ behind_is l ok (2 * p.places) room size_is sized room_is room_some (p.base + (p.written - 1)) (omega arith) last (s.stands.entry (p.written - 1) (omega arith))
      ∙ ap (λ (m : ℕ). outcome (skipping m l)) next

  pub turned : (n : ℕ) (further : Bool) (page work' links' answers' : List ℕ)
      → outcome_of (wrote n further) page work' links'
      ≡ outcome_from Behind (take (2 * p.places) (drop ((p.written - 1) * (2 * p.places)) answers)) (call_with (records_of p.asked.pieces) p.asked.board (take p.asked.used cells) p.asked.config (take (room * (2 * p.places)) answers) work links)
      → answers' ≡ page ++ drop (room * (2 * p.places)) answers → length answers' ≡ length answers
      → Turned text p work links answers' work' links' (record { asked = p.asked; base = p.base + p.written; from = 0; written = n; further = further; room = room; places = p.places })
  unfolding list_in call_with lent_of tray_of
  turned n further page work' links' answers' e f long =
      let h : Here (list_in text) (p.base + p.written) (2 * p.places) room n further (page ++ drop (room * (2 * p.places)) answers)
      = page_here l ok (2 * p.places) room size_is sized room_is room_some (p.base + p.written) (let k = follows in omega arith) n further page work' links' (drop (room * (2 * p.places)) answers) (e ∙ turned_outcome) in
      let few : n * (2 * p.places) ≤ length answers = le_trans (mul-le-mul_right (2 * p.places) h.few) lend in
      let number = s.number in
      let few_bytes = s.few_bytes in
      record {
        standing = record {
          accepted = s.accepted;
          places_are = s.places_are;
          some = s.some;
          small = s.small;
          stands = subst (Stands (list_in text) (p.base + p.written) (2 * p.places) n) (sym f) h.stands;
          lie = omega arith;
          passed = omega arith;
          goes_on = h.goes_on;
          some_written = λ u. h.some follows;
          room_some = room_some;
          lend = omega arith;
          number = omega arith;
          few_bytes = omega arith;
        };
        asked_same = refl;
        base = refl;
        fresh = refl;
        some = h.some follows;
        scratch = page_scratch l ok (2 * p.places) room size_is sized room_is room_some (p.base + p.written) n further page work' links' (e ∙ turned_outcome);
      }

  pub never_refused : (w : Refusal) (page work' links' : List ℕ)
      → outcome_of (Err w) page work' links'
      ≡ outcome_from Behind (take (2 * p.places) (drop ((p.written - 1) * (2 * p.places)) answers)) (call_with (records_of p.asked.pieces) p.asked.board (take p.asked.used cells) p.asked.config (take (room * (2 * p.places)) answers) work links) → ⊥
  never_refused w page work' links' e = page_accepted l ok (2 * p.places) room size_is sized room_is room_some (p.base + p.written) w page work' links' (e ∙ turned_outcome)

  -- nor is the entry in the buffer none of the list
  pub never_missing : (page work' links' : List ℕ)
      → outcome_of (Ok None) page work' links'
      ≡ outcome_from Behind (take (2 * p.places) (drop ((p.written - 1) * (2 * p.places)) answers)) (call_with (records_of p.asked.pieces) p.asked.board (take p.asked.used cells) p.asked.config (take (room * (2 * p.places)) answers) work links) → ⊥
  never_missing page work' links' e = page_there l ok (2 * p.places) room size_is sized room_is room_some (p.base + p.written) page work' links' (e ∙ turned_outcome)
