-- The lines of entries in the answer buffer, and the last line, are what is to be printed next. Assumes nothing.
use Prim.Native.Nat.{ℕ, ◌+◌, ◌-◌, ◌*◌, ◌≤◌, ◌<◌}
use mathlib.Core.Bool.{false}
use mathlib.Core.List.{List, ◌++◌, append-nil}
use mathlib.Core.Logic.{inl}
use Rattle.std.specs.Prelude.{Option, Some, None}
use mathlib.Core.Path.{◌≡◌, refl, sym, ap, ◌∙◌}
use native.Mathlib.Omega.{arith}
use borrow.Author.Tests.{ltb-false}
use lib.ListN.{length, take}
use Rattle.definitions.specs.Files.{last_line}
use Rattle.texts.specs.Put.{Put}
use Rattle.output.specs.Rest.{LinesPut, Stands, rest_from}
use Rattle.output.specs.Standing.{Scratch, Standing, Turned, list_in}
use Rattle.output.specs.Stretches.{Made, Onward, rest_at}
use Rattle.output.specs.declared.lines.Lines.{Lines}
use Rattle.output.specs.declared.Held.{Held}
use Rattle.output.specs.declared.Progress.{Progress}
use Rattle.output.specs.declared.Progress.TheVariants.{Unbegun, Begun}
use Rattle.output.specs.declared.Stretch.{Stretch}
use Rattle.output.proofs.RestLaws.{kept_behind, last_some, made_more, rest_last, rest_used_up}

-- the same listing, further on
abbrev pub moved_to : Held → ℕ → Held
moved_to p next = record { asked = p.asked; base = p.base; from = next; written = p.written; further = p.further; room = p.room; places = p.places }

module _ (text : List ℕ) (p : Held) (answers old out' : List ℕ) (s : Standing text p answers) (end : ℕ) (few : end ≤ p.written) (numbers : p.base + end ≤ 18446744073709551616)
    (l : Lines) (put : LinesPut p.base (2 * p.places) p.from end answers old out' l) where
  part : Stands (list_in text) p.base (2 * p.places) end answers
  part = let inside = s.stands.inside in record { inside = omega arith; entry = λ i h. s.stands.entry i (omega arith) }

  -- the entry numbers are used up
  pub held_last : 18446744073709551615 - p.base < l.next → Made text p old answers out' (record { made = l.made; next = None })
  unfolding rest_at
  held_last h =
      let most = put.most in
      let inside = s.stands.inside in
      let number = s.number in
      let all : p.base + l.next ≡ 18446744073709551616 = omega arith in
      record {
        some = put.bytes;
        fits = put.fits;
        behind = put.behind;
        rest = put.rest (list_in text) part ∙ ap (λ (x : List ℕ). take l.made out' ++ x) (ap (λ (k : ℕ). rest_from k (list_in text)) all ∙ rest_used_up (list_in text) (omega arith));
        onward = tt;
      }

  pub held_on : l.next ≤ 18446744073709551615 - p.base → Made text p old answers out' (record { made = l.made; next = Some (Begun (moved_to p l.next)) })
  unfolding rest_at
  held_on h =
      let most = put.most in
      let some = put.some in
      record {
        some = put.bytes;
        fits = put.fits;
        behind = put.behind;
        rest = put.rest (list_in text) part;
        onward = (
          record {
            accepted = s.accepted;
            places_are = s.places_are;
            some = s.some;
            small = s.small;
            stands = s.stands;
            lie = s.lie;
            passed = omega arith;
            goes_on = s.goes_on;
            some_written = s.some_written;
            room_some = s.room_some;
            lend = s.lend;
            number = omega arith;
            few_bytes = s.few_bytes;
          },
          refl,
          omega arith,
        );
      }

-- a stretch from the next page is one from the page before it
onward_from : (text : List ℕ) (p q : Held) (answers' : List ℕ) (next : Option Progress) → q.asked ≡ p.asked → p.base + p.from ≡ q.base + q.from → Onward text q answers' next → Onward text p answers' next
onward_from text p q answers' None a e o = tt
onward_from text p q answers' (Some Unbegun) a e o = o
onward_from text p q answers' (Some (Begun r)) a e o = let h = o.2 in (o.0, o.1 ∙ a, omega arith)

pub turned_made : (text : List ℕ) (p q : Held) (old work links mid work' links' answers' out' : List ℕ) (r : Stretch) → p.from ≡ p.written → Turned text p work links mid work' links' q → Made text q old answers' out' r → Made text p old answers' out' r
unfolding rest_at
turned_made text p q old work links mid work' links' answers' out' r all t m =
    let b = t.base in
    let f = t.fresh in
    let e : p.base + p.from ≡ q.base + q.from = omega arith in
    record {
      some = m.some;
      fits = m.fits;
      behind = m.behind;
      rest = ap (λ (k : ℕ). rest_from k (list_in text)) e ∙ m.rest;
      onward = onward_from text p q answers' r.next t.asked_same e m.onward;
    }

-- the last line
pub last_made : (text : List ℕ) (p : Held) (answers old out' : List ℕ) (n : ℕ) → Standing text p answers → p.written ≤ p.from → p.further ≡ false
    → Put old 0 (last_line (p.base + p.from)) out' n → n ≤ length old → Made text p old answers out' (record { made = n; next = None })
unfolding rest_at
last_made text p answers old out' n s all ended put fit =
    let inside = s.stands.inside in
    let passed = s.passed in
    let h = ltb-false (p.base + p.written) (length (list_in text)) (sym s.goes_on ∙ ended) in
    let e : p.base + p.from ≡ length (list_in text) = omega arith in
    let number = s.number in
    let z = put.end in
    let k = last_some (p.base + p.from) in
    record {
      some = omega arith;
      fits = fit;
      behind = kept_behind old put (omega arith) refl;
      rest = ap (λ (m : ℕ). rest_from m (list_in text)) e ∙ rest_last (list_in text) (omega arith) ∙ ap last_line (sym e) ∙ sym (made_more put (omega arith)) ∙ sym (append-nil (take n out'));
      onward = tt;
    }

-- where no page call is made
pub scratch_same : (work links : List ℕ) → Scratch work links work links
scratch_same work links = record { work_then = inl refl; links_then = inl refl }
