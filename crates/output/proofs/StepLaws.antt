-- What is printed first, whatever is read: a refusal, alone, or a listing's first lines. Assumes nothing.
use Prim.Native.Nat.{ℕ, ◌+◌, ◌-◌, ◌<◌, ◌≤◌}
use Rattle.std.specs.Prelude.{Option, Some, None, IfSome}
use mathlib.Core.Bool.{Bool, true, false, ◌&&◌}
use mathlib.Core.List.{List, [], ◌∷◌, ◌++◌, append-nil}
use mathlib.Core.Logic.{◌⊎◌, inl, inr}
use mathlib.Core.Path.{◌≡◌, refl, sym, ap, ◌∙◌, subst}
use native.Mathlib.Omega.{arith}
use borrow.Author.Tests.{le-leb}
use lib.Dec.{eqb, eqb→eq, leb}
use lib.ListN.{length, take, drop, replicate, length-append, length-replicate}
use lib.Seq.{drop_at, drop-drop}
use Rattle.lists.proofs.TestLaws.{eqb_of, is_false, is_true}
use Rattle.definitions.specs.Texts.{text}
use Rattle.definitions.specs.Files.{call_in, decimal, is_file, packed, refused_line}
use Rattle.definitions.specs.Outcomes.{cleared}
use Rattle.definitions.specs.Refusals.{refusal}
use Rattle.files.specs.Reading.{Asks}
use Rattle.files.specs.declared.reading.Asked.{Asked}
use Rattle.output.specs.Rest.{rest_from}
use Rattle.output.specs.Standing.{IsRead, Scratch, list_in}
use Rattle.output.specs.Stretches.{Made, Onward, Ready, RefusedMade, Stepped, left, rest_after, rest_at}
use Rattle.output.specs.declared.Held.{Held}
use Rattle.output.specs.declared.Progress.{Progress}
use Rattle.output.specs.declared.Progress.TheVariants.{Unbegun, Begun}
use Rattle.output.specs.declared.Stretch.{Stretch}
use Rattle.output.proofs.RestLaws.{kept_behind, listing_rest, made_more}

pub packed_malformed : (bytes : List ℕ) → is_file bytes ≡ false → packed bytes ≡ refused_line 16
unfolding packed
packed_malformed bytes e = rw e

pub packed_refused : (bytes : List ℕ) (n : ℕ) → is_file bytes ≡ true → n ≡ refusal (call_in bytes 0 0) → 0 < n → packed bytes ≡ refused_line n
unfolding packed
packed_refused bytes n e f h =
    let z : eqb (refusal (call_in bytes 0 0)) 0 ≡ false = is_false (eqb (refusal (call_in bytes 0 0)) 0) (λ u. let v = eqb→eq (refusal (call_in bytes 0 0)) 0 u in omega arith) in
    rw (e, z) (ap refused_line (sym f))

pub packed_listed : (bytes : List ℕ) → is_file bytes ≡ true → refusal (call_in bytes 0 0) ≡ 0 → packed bytes ≡ rest_from 0 (list_in bytes)
unfolding packed list_in
packed_listed bytes e f =
    let z : eqb (refusal (call_in bytes 0 0)) 0 ≡ true = is_true (eqb (refusal (call_in bytes 0 0)) 0) (eqb_of f) in
    rw (e, z) (listing_rest (list_in bytes))

refused_some : (n : ℕ) → 1 ≤ length (refused_line n)
unfolding refused_line
refused_some n =
    let e : length (refused_line n) ≡ length (text "refused" ++ 9 ∷ decimal n) + 1 = length-append (text "refused" ++ 9 ∷ decimal n) (10 ∷ []) in
    omega arith

-- what a step leaves of the work words and the links where two page calls were made
scratch_twice : (n : ℕ) {a b c : List ℕ} → (b ≡ a) ⊎ (b ≡ cleared n a) → (c ≡ b) ⊎ (c ≡ cleared n b) → (c ≡ a) ⊎ (c ≡ cleared n a)
unfolding cleared
scratch_twice n {a} (inl e) (inl f) = inl (f ∙ e)
scratch_twice n {a} (inl e) (inr f) = inr (f ∙ ap (cleared n) e)
scratch_twice n {a} (inr e) (inl f) = inr (f ∙ e)
scratch_twice n {a} (inr e) (inr f) = inr (f ∙ ap (cleared n) e ∙ ap (λ (l : List ℕ). replicate n 0 ++ l) (drop_at (replicate n 0) (drop n a) n (length-replicate {A = ℕ} n 0)))

pub scratch_then : {a b c k l m : List ℕ} → Scratch a k b l → Scratch b l c m → Scratch a k c m
scratch_then s t = record { work_then = scratch_twice 8192 s.work_then t.work_then; links_then = scratch_twice 32768 s.links_then t.links_then }

-- ---- a refusal, alone
module _ (text : List ℕ) (number : ℕ) (cells work links out cells' answers' work' links' out' : List ℕ) (r : Stretch)
    (is : packed text ≡ refused_line number) (m : RefusedMade number out out' r) (long : 64 ≤ length out)
    (cells_then : drop 16384 cells' ≡ drop 16384 cells) (scratch : Scratch work links work' links') where
  pub refused_step : Stepped text Unbegun cells work links out cells' answers' work' links' out' r
  refused_step =
      let end = m.put.end in
      let k = refused_some number in
      let few = m.fits in
      record {
        some = omega arith;
        fits = omega arith;
        behind = kept_behind out m.put (omega arith) refl;
        rest = is ∙ sym (made_more m.put (omega arith)) ∙ sym (append-nil (take r.made out')) ∙ ap (λ (o : Option Progress). take r.made out' ++ rest_after text o) (sym m.is_last);
        ready = subst (λ (o : Option Progress). IfSome o (λ q. Ready text q cells' answers' work' links')) (sym m.is_last) tt;
        nearer = subst (λ (o : Option Progress). IfSome o (λ q. left q < left Unbegun)) (sym m.is_last) tt;
        cells_behind = cells_then;
        cells_kept = tt;
        scratch = scratch;
      }

-- ---- lines of a listing, at its beginning or later
-- a text that was read
pub read_is : (text old : List ℕ) (asked : Asked) (cells work links : List ℕ) → Asks text old asked cells
    → 16384 ≤ length cells → length work ≡ 8192 → length links ≡ 32768 → IsRead text asked cells work links
read_is text old asked cells work links asks long words numbers =
    let few = asks.few in
    record {
      pieces_are = asks.pieces_are;
      board_is = asks.board_is;
      config_is = asks.config_is;
      used_few = omega arith;
      bytes_are = asks.bytes_are;
      words = words;
      numbers = numbers;
    }

-- and whether it was, where the cells suffice
pub is-file : (text old : List ℕ) (b : Bool) → 16384 ≤ length old → (leb 16384 (length old) && is_file text) ≡ b → is_file text ≡ b
is-file text old b long e = sym (ap (λ (t : Bool). t && is_file text) (le-leb 16384 (length old) long)) ∙ e

pub cells-behind : (old new : List ℕ) (used : ℕ) → used ≤ 16384 → drop used new ≡ drop used old → drop 16384 new ≡ drop 16384 old
cells-behind old new used few e =
    let rest : used + (16384 - used) ≡ 16384 = omega arith in
    let at : (cells : List ℕ) → drop (16384 - used) (drop used cells) ≡ drop 16384 cells
    = λ cells. drop-drop (16384 - used) used cells ∙ ap (λ (n : ℕ). drop n cells) rest in
    sym (at new) ∙ ap (drop (16384 - used)) e ∙ at old

pub still_read : (text : List ℕ) (asked asked' : Asked) (cells work links work' links' : List ℕ) → IsRead text asked cells work links → asked' ≡ asked
    → length work' ≡ length work → length links' ≡ length links → IsRead text asked' cells work' links'
still_read text asked asked' cells work links work' links' read e w l =
    let r = subst (λ (a : Asked). IsRead text a cells work links) (sym e) read in
    record {
      pieces_are = r.pieces_are;
      board_is = r.board_is;
      config_is = r.config_is;
      used_few = r.used_few;
      bytes_are = r.bytes_are;
      words = w ∙ r.words;
      numbers = l ∙ r.numbers;
    }

module _ (text : List ℕ) (q : Held) (cells answers work links answers' work' links' : List ℕ)
    (long_cells : 16384 ≤ length cells) (long_answers : 1024 ≤ length answers) (read : IsRead text q.asked cells work links)
    (same_answers : length answers' ≡ length answers) (same_work : length work' ≡ length work) (same_links : length links' ≡ length links) where
  then_ready : (next : Option Progress) → Onward text q answers' next → IfSome next (λ p. Ready text p cells answers' work' links')
  then_ready None o = tt
  then_ready (Some Unbegun) o = absurd o
  then_ready (Some (Begun p)) o =
      let few = o.0.few_bytes in
      record {
        room = record {
          long_cells = long_cells;
          long_answers = omega arith;
          few_answers = few;
          words = same_work ∙ read.words;
          numbers = same_links ∙ read.numbers;
        };
        left_there = record { read = still_read text q.asked p.asked cells work links work' links' read o.1 same_work same_links; standing = o.0 };
      }

nearer_first : (text : List ℕ) (q : Held) (answers' : List ℕ) (next : Option Progress) → Onward text q answers' next → IfSome next (λ p. left p < left Unbegun)
nearer_first text q answers' None o = tt
nearer_first text q answers' (Some Unbegun) o = absurd o
nearer_first text q answers' (Some (Begun p)) o = omega arith

module _ (text : List ℕ) (q : Held) (cells answers work links out answers' work' links' out' : List ℕ) (r : Stretch)
    (long_cells : 16384 ≤ length cells) (long_answers : 1024 ≤ length answers) (read : IsRead text q.asked cells work links) (m : Made text q out answers' out' r)
    (same_answers : length answers' ≡ length answers) (same_work : length work' ≡ length work) (same_links : length links' ≡ length links) where
  -- it begins here, with a text that was read
  pub first_step : (cells₀ work₀ links₀ : List ℕ) → packed text ≡ rest_from 0 (list_in text) → q.base + q.from ≡ 0
      → drop 16384 cells ≡ drop 16384 cells₀ → Scratch work₀ links₀ work' links' → Stepped text Unbegun cells₀ work₀ links₀ out cells answers' work' links' out' r
  unfolding rest_at
  first_step cells₀ work₀ links₀ is start behind scratch =
      record {
        some = m.some;
        fits = m.fits;
        behind = m.behind;
        rest = is ∙ ap (λ (k : ℕ). rest_from k (list_in text)) (sym start) ∙ m.rest;
        ready = then_ready text q cells answers work links answers' work' links' long_cells long_answers read same_answers same_work same_links r.next m.onward;
        nearer = nearer_first text q answers' r.next m.onward;
        cells_behind = behind;
        cells_kept = tt;
        scratch = scratch;
      }
