-- What holds whenever `print` makes a step, and of what it prints. Assumes nothing.
use Prim.Native.Nat.{ℕ, ◌≤◌}
use Rattle.std.specs.Prelude.{Option, Some, None, IfSome}
use Rattle.std.specs.Io.KnownBytes.{Appends}
use mathlib.Core.List.{List, ◌++◌, append_assoc, append-nil}
use mathlib.Core.Path.{◌≡◌, sym, ap, ◌∙◌, subst}
use native.Mathlib.Omega.{arith}
use lib.ListN.{length, take}
use Rattle.definitions.specs.Files.{packed}
use Rattle.output.specs.Stretches.{Ready, Stepped, rest_after, rest_of}
use Rattle.output.specs.declared.Progress.{Progress}
use Rattle.output.specs.declared.Stretch.{Stretch}
use Rattle.theorems.proofs.EmptyBoxLaws.{empty_box_printed_holds}
use Rattle.theorems.proofs.MeetLaws.{printed_right_holds}
use Rattle.theorems.proofs.WoodLaws.{one_wood_printed_holds}
use Rattle.streams.specs.Writing.{AppendsFront}
use Rattle.streams.proofs.WriteLaws.{appends_both}

-- what is printed is right, whatever the text
pub ruleset printed_right = (
  printed_right_holds,
  empty_box_printed_holds,
  one_wood_printed_holds,
)

-- what is written already, and then what is still to be printed, is what is to be printed for the text
pub record Going (first now : Option (List ℕ)) (text cells answers work links out : List ℕ) (p : Progress) : Type 0 where
  pub ready : Ready text p cells answers work links
  pub long_out : 4160 ≤ length out
  pub before : List ℕ
  pub written : Appends first now before
  pub rest : packed text ≡ before ++ rest_of text p

module _ (first now : Option (List ℕ)) (text cells answers work links out : List ℕ) (p : Progress)
    (g : Going first now text cells answers work links out p) (cells' answers' work' links' out' : List ℕ) (r : Stretch)
    (s : Stepped text p cells work links out cells' answers' work' links' out' r) (then : Option (List ℕ)) where
  -- the bytes of the step stand between what was written and what is still to be printed
  parts : packed text ≡ g.before ++ (take r.made out' ++ rest_after text r.next)
  parts = g.rest ∙ ap (λ (l : List ℕ). g.before ++ l) s.rest

  pub going_next : length out' ≡ length out → Appends now then (take r.made out') → (q : Progress) → r.next ≡ Some q
      → Going first then text cells' answers' work' links' out' q
  going_next same a q e =
      let long = g.long_out in
      record {
        ready = subst (λ (o : Option Progress). IfSome o (λ q. Ready text q cells' answers' work' links')) e s.ready;
        long_out = omega arith;
        before = g.before ++ take r.made out';
        written = appends_both first now then g.before (take r.made out') g.written a;
        rest =
            parts ∙ ap (λ (o : Option Progress). g.before ++ (take r.made out' ++ rest_after text o)) e
            ∙ sym (append_assoc g.before (take r.made out') (rest_of text q));
      }

  pub going_end : Appends now then (take r.made out') → r.next ≡ None → Appends first then (packed text)
  going_end a e =
      subst (λ (l : List ℕ). Appends first then l)
      (sym (parts ∙ ap (λ (o : Option Progress). g.before ++ (take r.made out' ++ rest_after text o)) e ∙ ap (λ (l : List ℕ). g.before ++ l) (append-nil (take r.made out'))))
      (appends_both first now then g.before (take r.made out') g.written a)

  pub going_cut : AppendsFront now then (take r.made out') → AppendsFront first then (packed text)
  going_cut a =
      let rest = rest_after text r.next in
      record {
        front = g.before ++ a.front;
        back = a.back ++ rest;
        parts =
            parts ∙ ap (λ (l : List ℕ). g.before ++ l) (ap (λ (l : List ℕ). l ++ rest) a.parts ∙ append_assoc a.front a.back rest)
            ∙ sym (append_assoc g.before a.front (a.back ++ rest));
        appended = appends_both first now then g.before a.front g.written a.appended;
      }
