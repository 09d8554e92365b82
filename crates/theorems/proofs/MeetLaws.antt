-- From a contract to the demands: a call that leaves the outcome leaves the first refusal that applies or its stretch of the one list, which `pack` prints
-- whole. Assumes nothing.
use Prim.Native.Nat.{ℕ, ◌<◌, ◌≤◌, ◌^◌}
use mathlib.Core.Bool.{Bool, true, cond}
use mathlib.Core.List.{List, ◌++◌, map}
use mathlib.Core.Path.{◌≡◌, refl, sym, ap, ◌∙◌, subst}
use native.Mathlib.Omega.{arith}
use lib.Dec.{T, eqb, ltb, lt→ltb, ltb→lt}
use lib.ListN.{length, length-map, take}
use lib.Seq.{take_all}
use Rattle.lists.specs.Lists.{joined, numbered}
use Rattle.lists.proofs.TestLaws.{eqb_of, is_false, is_true}
use Rattle.definitions.specs.Placements.{compile}
use Rattle.definitions.specs.Orders.{listed}
use Rattle.definitions.specs.Answers.{answer}
use Rattle.definitions.specs.Refusals.{Call, tray_of, identify_of, refusal}
use Rattle.definitions.specs.Outcomes.{Outcome, answers_of, outcome}
use Rattle.definitions.specs.Files.{call_in, entry_line, is_file, last_line, listing, packed}
use Rattle.definitions.specs.Printed.{PrintsListOf, PrintedRight}
use Rattle.definitions.specs.Demands.{Demand1, MeetsDemand1, MeetsDemand3, Stretch, Pages}
use Rattle.theorems.proofs.RefusalLaws.{demand1_holds}
use Rattle.theorems.proofs.DemandLaws.{demand3_holds}

-- one call, whatever it left: what the contract of a page call says of its result and its slices is enough
module _ (l : Call) (o : Outcome) (is : o ≡ outcome l) where
  pub meets_first : Demand1 l o
  unfolding MeetsDemand1
  meets_first = subst (λ (x : Outcome). Demand1 l x) (sym is) (demand1_holds l)

  pub meets_stretch : refusal l ≡ 0 → Stretch (map (answer (compile (tray_of l))) (listed (compile (tray_of l)) (identify_of l.config) l.config.solver)) l o
  unfolding MeetsDemand3 Pages
  meets_stretch ok =
      subst (λ (x : Outcome). Stretch (map (answer (compile (tray_of l))) (listed (compile (tray_of l)) (identify_of l.config) l.config.solver)) l x) (sym is)
      ((demand3_holds l ok).pages l (record { tray = refl; identification = refl; engine = refl; not_refused = ok }))

-- ---- what is printed
-- a listing of fewer entries than there are numbers, and of more
listing_whole : (n : ℕ) (list : List (List ℕ)) → length list < n
    → cond (ltb (length list) n) (joined (numbered (take n list) entry_line) ++ last_line (length list)) (joined (numbered (take n list) entry_line))
    ≡ joined (numbered list entry_line) ++ last_line (length list)
listing_whole n list h =
    ap (λ (b : Bool). cond b (joined (numbered (take n list) entry_line) ++ last_line (length list)) (joined (numbered (take n list) entry_line))) (is_true (ltb (length list) n) (lt→ltb (length list) n h))
    ∙ ap (λ (l : List (List ℕ)). joined (numbered l entry_line) ++ last_line (length list)) (take_all n list (omega arith))

listing_cut : (n : ℕ) (list : List (List ℕ)) → n ≤ length list
    → cond (ltb (length list) n) (joined (numbered (take n list) entry_line) ++ last_line (length list)) (joined (numbered (take n list) entry_line))
    ≡ joined (numbered (take n list) entry_line)
listing_cut n list h =
    ap (λ (b : Bool). cond b (joined (numbered (take n list) entry_line) ++ last_line (length list)) (joined (numbered (take n list) entry_line)))
    (is_false (ltb (length list) n) (λ u. let v = ltb→lt (length list) n u in omega arith))

module _ (bytes : List ℕ) (file : T (is_file bytes)) (ok : refusal (call_in bytes 0 0) ≡ 0) where
  abbrev l : Call
  l = call_in bytes 0 0

  abbrev list : List (List ℕ)
  list = answers_of (tray_of l) (identify_of l.config) l.config.solver

  pub packed_listing : packed bytes ≡ listing list
  unfolding packed
  packed_listing =
      let accepted : eqb (refusal l) 0 ≡ true = is_true (eqb (refusal l) 0) (eqb_of ok) in
      rw (is_true (is_file bytes) file, accepted)

  pub prints_list : PrintsListOf bytes (packed bytes)
  unfolding PrintsListOf listing answers_of MeetsDemand3
  prints_list =
      let L = listed (compile (tray_of l)) (identify_of l.config) l.config.solver in
      let many : length list ≡ length L = length-map L (answer (compile (tray_of l))) in
      record {
        one_list = demand3_holds l ok;
        whole_list = λ h.
            packed_listing ∙ listing_whole (2 ^ 64) list (subst (λ (n : ℕ). n < 2 ^ 64) (sym many) h) ∙ ap (λ (n : ℕ). joined (numbered list entry_line) ++ last_line n) many;
        numbers_used_up = λ h. packed_listing ∙ listing_cut (2 ^ 64) list (subst (λ (n : ℕ). 2 ^ 64 ≤ n) (sym many) h);
      }

pub printed_right_holds : PrintedRight
unfolding PrintedRight
printed_right_holds bytes file ok = prints_list bytes file ok
