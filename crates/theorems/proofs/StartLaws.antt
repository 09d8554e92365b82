-- A page from where it starts: the outcome of a call for its list, from an entry on, or for what lies behind an entry that is lent, meets the user's sentences;
-- behind entry k of its list it is document 01's with skip k + 1; and what the code of a page call shows is enough for it. Assumes nothing.
use Prim.Native.Nat.{ℕ, zero, suc, ◌+◌, ◌*◌, ◌/◌, ◌<◌}
use mathlib.Core.Bool.{Bool, true, false, cond, not, ◌&&◌, true≢false}
use mathlib.Core.List.{List, [], ◌∷◌, ◌++◌, Memᴰ}
use mathlib.Core.Path.{◌≡◌, refl, sym, ap, ap₂, ◌∙◌, subst}
use mathlib.Core.Logic.{◌⊎◌, inl, inr}
use native.Mathlib.Nat.{div-mul-le_self}
use native.Mathlib.Omega.{arith}
use lib.Dec.{eqb, eqb→eq}
use lib.ListN.{length, get_or, take, drop, replicate, length-drop}
use lib.Seq.{take-nil}
use Rattle.lists.specs.Lists.{Apart, any, joined, same}
use Rattle.lists.proofs.TestLaws.{ltb_same, eqb_of, holds, is_false, is_true}
use Rattle.lists.proofs.ListLaws.{any_at, any_of, get_or_mem, mem_get_or}
use Rattle.lists.proofs.SortLaws.{same_of, same→eq}
use Rattle.definitions.specs.Grid.{volume}
use Rattle.definitions.specs.Demands.{Demand1, Stretch, MeetsDemand1, MeetsDemand3}
use Rattle.definitions.specs.Emission.{Emitted, IsPage, Listed, answers_in, begin, emits, behind, onwards}
use Rattle.definitions.specs.Page.{Page, page}
use Rattle.definitions.specs.Outcomes.{Outcome, accepted, accepted_with, answers_of, answer_size, capacity, cleared, links_after, work_after, outcome, outcome_of, over_start, page_of, refused}
use Rattle.definitions.specs.Refusals.{Call, cells_lie, grid_of, identify_of, refusal, sides_fit, sides_of, table, lent_of, tray_of}
use Rattle.definitions.specs.Starts.{GoesOn, Meets, NotThere, PageIs, accepted_behind, accepted_from, entry_of, is_entry, list_of, no_entry, outcome_behind, outcome_from, page_from, reply_of, skip_at, skipping, waits_at}
use Rattle.definitions.specs.Woods.{BoardUnread, OneWoodCalls, WoodsBehind, board_in_wood, with_wood, without_woods}
use Rattle.definitions.specs.declared.Start.{Start}
use Rattle.definitions.specs.declared.Start.TheVariants.{Entry, Behind}
use Rattle.theorems.proofs.DemandLaws.{answers_sized, box_lent, demand3_holds}
use Rattle.theorems.proofs.EmissionLaws.{Sized, behind_none, emits_page, emits_waiting}
use Rattle.theorems.proofs.MeetLaws.{meets_first, meets_stretch}
use Rattle.theorems.proofs.RefusalLaws.{demand1_holds, outcome_accepted, outcome_refused}
use Rattle.theorems.proofs.WoodLaws.{list_bare, refusal_bare}

-- ---- behind an entry of a list
-- no entry stands twice: what lies behind the first that equals entry k lies behind entry k
pub behind_drop : (last : List ℕ) (l : List (List ℕ)) → Apart l → (k : ℕ) → k < length l → get_or l k [] ≡ last → behind last l ≡ drop (suc k) l
behind_drop last [] apart k h e = absurd (omega arith)
behind_drop last (x ∷ l) apart zero h e = ap (λ (b : Bool). cond b l (behind last l)) (is_true (same x last) (same_of e))
behind_drop last (x ∷ l) apart (suc k) h e = go (same x last) refl (behind_drop last l apart.1 k (omega arith) e)
  where
    go : (b : Bool) → same x last ≡ b → behind last l ≡ drop (suc k) l → cond b l (behind last l) ≡ drop (suc k) l
    go true f r = absurd (apart.0 (subst (λ (y : List ℕ). Memᴰ y l) (e ∙ sym (same→eq x last (holds (same x last) f))) (get_or_mem [] l k (omega arith))))
    go false f r = r

-- a page from the start of what lies behind entry k is the page of the list from entry k + 1 on
page_later : (l : List (List ℕ)) (k room : ℕ) → page (drop (suc k) l) 0 room ≡ page l (suc k) room
unfolding page
page_later l k room =
    let entries = take room (drop (suc k) l) in
    let e = length-drop (suc k) l in
    let t = ltb_same (0 + length entries) (length (drop (suc k) l)) (suc k + length entries) (length l) (λ h. omega arith) (λ h. omega arith) in
    (λ i. record { entries = entries; written = length entries; further = t i })

-- an entry of the list, found by the test and by its number
module _ (last : List ℕ) (l : Call) where
  pub is-entry : (k : ℕ) → k < length (list_of l) → get_or (list_of l) k [] ≡ last → is_entry last l ≡ true
  unfolding is_entry
  is-entry k h e = is_true (any (λ x. same x last) (list_of l)) (any_of (λ x. same x last) (list_of l) (get_or_mem [] (list_of l) k h) (same_of e))

  pub entry_is : is_entry last l ≡ true → (k : ℕ) × (k < length (list_of l)) × (get_or (list_of l) k [] ≡ last)
  unfolding is_entry
  entry_is e =
      let r = any_at (λ x. same x last) (list_of l) (holds (any (λ x. same x last) (list_of l)) e) in
      let k = mem_get_or [] (list_of l) r.1 in
      (k.0, k.1, k.2 ∙ same→eq r.0 last r.2)

-- ---- accepted or refused, from any start
module _ (last : List ℕ) (l : Call) where
  behind_accepted : refusal l ≡ 0 → outcome_behind last l ≡ accepted_behind last l
  unfolding outcome_behind
  behind_accepted e = ap (λ (b : Bool). cond b (accepted_behind last l) (refused (refusal l) l)) (is_true (eqb (refusal l) 0) (eqb_of e))

  behind_refused : (refusal l ≡ 0 → ⊥) → outcome_behind last l ≡ refused (refusal l) l
  unfolding outcome_behind
  behind_refused d = ap (λ (b : Bool). cond b (accepted_behind last l) (refused (refusal l) l)) (is_false (eqb (refusal l) 0) (λ u. d (eqb→eq (refusal l) 0 u)))

  -- met or not
  behind_met : is_entry last l ≡ true → accepted_behind last l ≡ accepted_with (page_from last true l) l
  unfolding accepted_behind
  behind_met e = ap (λ (b : Bool). cond b (accepted_with (page_from last true l) l) (no_entry l)) e

  behind_unmet : is_entry last l ≡ false → accepted_behind last l ≡ no_entry l
  unfolding accepted_behind
  behind_unmet e = ap (λ (b : Bool). cond b (accepted_with (page_from last true l) l) (no_entry l)) e

-- no refusal reads the skip
same_refusal : (skip : ℕ) (l : Call) → refusal (skipping skip l) ≡ refusal l
unfolding refusal table lent_of tray_of
same_refusal skip l = refl

pub from_accepted : (start : Start) (last : List ℕ) (l : Call) → refusal l ≡ 0 → outcome_from start last l ≡ accepted_from start last l
unfolding outcome_from accepted_from
from_accepted (Entry k) last l e = outcome_accepted (skipping k l) (same_refusal k l ∙ e)
from_accepted Behind last l e = behind_accepted last (skipping 0 l) (same_refusal 0 l ∙ e)

pub from_refused : (start : Start) (last : List ℕ) (l : Call) → (refusal l ≡ 0 → ⊥) → outcome_from start last l ≡ refused (refusal l) l
unfolding outcome_from refused
from_refused (Entry k) last l d = outcome_refused (skipping k l) (λ e. d (sym (same_refusal k l) ∙ e)) ∙ ap (λ (n : ℕ). refused n l) (same_refusal k l)
from_refused Behind last l d = behind_refused last (skipping 0 l) (λ e. d (sym (same_refusal 0 l) ∙ e)) ∙ ap (λ (n : ℕ). refused n l) (same_refusal 0 l)

-- of a call from an entry on no entry is told to be missing
pub entry_told : (k : ℕ) (last : List ℕ) (l : Call) → (outcome_from (Entry k) last l).missing ≡ false
unfolding outcome_from outcome accepted refused
entry_told k last l = go (eqb (refusal (skipping k l)) 0)
  where
    go : (b : Bool) → (cond b (accepted (skipping k l)) (refused (refusal (skipping k l)) (skipping k l))).missing ≡ false
    go true = refl
    go false = refl

-- ---- behind entry k
module _ (l : Call) (ok : refusal l ≡ 0) where
  apart : Apart (list_of l)
  unfolding answers_of MeetsDemand3
  apart = (demand3_holds l ok).none_twice

  still_ok : (skip : ℕ) → refusal (skipping skip l) ≡ 0
  still_ok skip = same_refusal skip l ∙ ok

  module _ (last : List ℕ) (k : ℕ) (h : k < length (list_of l)) (e : get_or (list_of l) k [] ≡ last) where
    pub outcome_met : outcome_behind last (skipping 0 l) ≡ outcome (skipping (suc k) l)
    unfolding accepted page_from page_of lent_of tray_of capacity
    outcome_met =
        let at : List (List ℕ) → Page = λ m. page m 0 (capacity l) in
        let later = ap at (behind_drop last (list_of l) apart k h e) ∙ page_later (list_of l) k (capacity l) in
        behind_accepted last (skipping 0 l) (still_ok 0)
        ∙ behind_met last (skipping 0 l) (is-entry last (skipping 0 l) k h e)
        ∙ ap (λ (g : Page). accepted_with g l) later
        ∙ sym (outcome_accepted (skipping (suc k) l) (still_ok (suc k)))

  pub outcome-behind : (k : ℕ) → k < length (list_of l) → outcome_behind (entry_of l k) (skipping 0 l) ≡ outcome (skipping (suc k) l)
  outcome-behind k h = outcome_met (entry_of l k) k h refl

  -- behind what is no entry
  pub outcome_unmet : (last : List ℕ) → is_entry last l ≡ false → outcome_behind last (skipping 0 l) ≡ no_entry l
  unfolding is_entry lent_of tray_of no_entry
  outcome_unmet last e = behind_accepted last (skipping 0 l) (still_ok 0) ∙ behind_unmet last (skipping 0 l) e

-- a page of an accepted call, whatever left it, is demand 3's stretch of the one list from its skip on
from_stretch : (l : Call) → refusal l ≡ 0 → (skip : ℕ) (o : Outcome) → o ≡ outcome (skipping skip l) → Stretch (list_of l) (skipping skip l) o
unfolding answers_of lent_of tray_of
from_stretch l ok skip o e = meets_stretch (skipping skip l) o e (still_ok l ok skip)

-- ---- the user's sentences
-- the first refusal that applies or none, from behind an entry too
module _ (last : List ℕ) (l : Call) where
  number_behind : refusal l ≡ 0 → (outcome_behind last l).number ≡ 0
  unfolding no_entry
  number_behind ok = ap (λ (o : Outcome). o.number) (behind_accepted last l ok) ∙ go (is_entry last l) refl
    where
      go : (b : Bool) → is_entry last l ≡ b → (accepted_behind last l).number ≡ 0
      go true e = ap (λ (o : Outcome). o.number) (behind_met last l e)
      go false e = ap (λ (o : Outcome). o.number) (behind_unmet last l e)

  first_behind : Demand1 l (outcome_behind last l)
  unfolding MeetsDemand1 accepted
  first_behind = go (eqb (refusal l) 0) refl
    where
      accepts : refusal l ≡ 0 → Demand1 l (outcome_behind last l)
      accepts ok =
          let z = number_behind ok in
          record {
            it_applies = λ d. absurd (d z);
            none_before = λ n h t. omega arith;
            or_none_applies = λ e. (demand1_holds l).or_none_applies (ap (λ (o : Outcome). o.number) (outcome_accepted l ok));
            writes_none = λ d. absurd (d z);
            says_none_follows = λ d. absurd (d z);
            answers_kept = λ d. absurd (d z);
            work_kept = λ d. absurd (d z);
            links_kept = λ d. absurd (d z);
          }

      go : (b : Bool) → eqb (refusal l) 0 ≡ b → Demand1 l (outcome_behind last l)
      go true e = accepts (eqb→eq (refusal l) 0 (holds (eqb (refusal l) 0) e))
      go false e =
          let d : refusal l ≡ 0 → ⊥ = λ u. true≢false (sym (is_true (eqb (refusal l) 0) (eqb_of u)) ∙ e) in
          subst (λ (o : Outcome). Demand1 l o) (outcome_refused l d ∙ sym (behind_refused last l d)) (demand1_holds l)

-- behind an entry that is lent: it goes on, or the entry is not there
behind_either : (last : List ℕ) (l : Call) (o : Outcome) → o ≡ outcome_behind last (skipping 0 l) → refusal l ≡ 0 → GoesOn last l o ⊎ NotThere last l o
unfolding accepted no_entry
behind_either last l o is ok = go (is_entry last l) refl
  where
    met : (k : ℕ) × (k < length (list_of l)) × (get_or (list_of l) k [] ≡ last) → GoesOn last l o
    met r =
        let next : o ≡ outcome (skipping (suc r.0) l) = is ∙ outcome_met l ok last r.0 r.1 r.2 in
        record {
          entry = r.0;
          in_list = r.1;
          is_last = r.2;
          told_so = ap (λ (x : Outcome). x.missing) (next ∙ outcome_accepted (skipping (suc r.0) l) (still_ok l ok (suc r.0)));
          next = next;
          stretch = from_stretch l ok (suc r.0) o next;
        }

    unmet : is_entry last l ≡ false → NotThere last l o
    unmet e =
        let left : o ≡ no_entry l = is ∙ outcome_unmet l ok last e in
        record {
          none_is_last = λ k h f. true≢false (sym (is-entry last l k h f) ∙ e);
          told_so = ap (λ (x : Outcome). x.missing) left;
          left = left;
        }

    go : (b : Bool) → is_entry last l ≡ b → GoesOn last l o ⊎ NotThere last l o
    go true e = inl (met (entry_is last l e))
    go false e = inr (unmet e)

-- what the contract of a page call says of its result and its slices is enough
pub meets_from : (start : Start) (last : List ℕ) (l : Call) (o : Outcome) → o ≡ outcome_from start last l → Meets start last l o
unfolding outcome_from
meets_from (Entry k) last l o e = (meets_first (skipping k l) o e, λ ok. from_stretch l ok k o e)
meets_from Behind last l o e = (subst (λ (x : Outcome). Demand1 (skipping 0 l) x) (sym e) (first_behind last (skipping 0 l)), behind_either last l o e)

-- ---- what the code of a page call shows
-- a slice cleared, once more
pub cleared_again : (n : ℕ) (old mid : List ℕ) → drop n mid ≡ drop n old → cleared n mid ≡ cleared n old
unfolding cleared
cleared_again n old mid e = ap (λ (l : List ℕ). replicate n 0 ++ l) e

-- every answer of the list has its two bytes for each cell of the lent box
list_sized : (l : Call) (x : List ℕ) → Memᴰ x (list_of l) → length x ≡ 2 * volume (sides_of l.board)
unfolding answer_size
list_sized l x m = answers_sized (tray_of l) (identify_of l.config) l.config.solver x m ∙ ap answer_size (box_lent l)

-- what is emitted of entries with the list's answers, from the start on, or from behind an entry on, is the page
pub page_is : (l : Call) (last : List ℕ) (waiting : Bool) (places : ℕ) → places ≡ volume (sides_of l.board) → (list : List Listed) → answers_in list ≡ list_of l → (x : Emitted)
    → x ≡ emits (length l.answers / (2 * places)) list (begin last waiting l.skip l.answers)
    → PageIs last waiting l x.waiting x.written x.further x.answers
unfolding page_from is_entry capacity answer_size
page_is l last waiting places v list are x e =
    let n = 2 * volume (sides_of l.board) in
    let room = length l.answers / n in
    let left = emits room list (begin last waiting l.skip l.answers) in
    let sized = subst (λ (xs : List (List ℕ)). Sized n xs) (sym are) (list_sized l) in
    let p =
    subst (λ (xs : List (List ℕ)). IsPage (onwards last waiting xs) l.skip room l.answers left) are
    (emits_page last waiting n list sized l.skip room l.answers (div-mul-le_self (length l.answers) n)) in
    let f = e ∙ ap (λ (k : ℕ). emits (length l.answers / (2 * k)) list (begin last waiting l.skip l.answers)) v in
    record {
      written_is = ap (λ (y : Emitted). y.written) f ∙ p.written;
      further_is = ap (λ (y : Emitted). y.further) f ∙ p.further;
      answers_are = ap (λ (y : Emitted). y.answers) f ∙ p.answers;
      still_is =
          ap (λ (y : Emitted). y.waiting) f
          ∙ emits_waiting room list last waiting l.skip l.answers
          ∙ ap (λ (xs : List (List ℕ)). waiting && not (any (λ y. same y last) xs)) are;
    }

-- The page, handed back with slices that were cleared, is the outcome of the call.
module _ (start : Start) (last : List ℕ) (l : Call) (ok : refusal l ≡ 0) (still : Bool) (written : ℕ) (further : Bool) (answers work links : List ℕ) where
  abbrev Shown : Bool → ℕ → Type 0
  Shown waiting skip = PageIs last waiting (skipping skip l) still written further answers

  abbrev reply : Bool → Outcome
  reply b = outcome_of (reply_of b written further) answers work links

  pub page_outcome : PageIs last (waits_at start) (skipping (skip_at start) l) still written further answers → work ≡ work_after l → links ≡ links_after l
      → outcome_of (reply_of still written further) answers work links ≡ outcome_from start last l
  unfolding outcome_of accepted_from accepted page_from page_of is_entry no_entry page over_start
  page_outcome p w k = go start p ∙ sym (from_accepted start last l ok)
    where
      paged : (waiting : Bool) (skip : ℕ) → Shown waiting skip → still ≡ false → reply still ≡ accepted_with (page_from last waiting (skipping skip l)) l
      paged waiting skip p e =
          let of = p.written_is in
          let more = p.further_is in
          let is = p.answers_are in
          ap reply e ∙ (λ i. record { number = 0; written = of i; further = more i; missing = false; answers = is i; work = w i; links = k i })

      -- behind what is no entry nothing was written
      untouched : Shown true 0 → is_entry last (skipping 0 l) ≡ false → answers ≡ l.answers
      untouched p e =
          let room = capacity (skipping 0 l) in
          p.answers_are
          ∙ ap (λ (xs : List (List ℕ)). over_start (joined (take room xs)) l.answers) (behind_none last (list_of (skipping 0 l)) e)
          ∙ ap (λ (xs : List (List ℕ)). over_start (joined xs) l.answers) (take-nil room)

      resumed : (b : Bool) → is_entry last (skipping 0 l) ≡ b → Shown true 0 → reply still ≡ accepted_behind last (skipping 0 l)
      resumed true e p = paged true 0 p (p.still_is ∙ ap not e) ∙ sym (behind_met last (skipping 0 l) e)
      resumed false e p =
          ap reply (p.still_is ∙ ap not e)
          ∙ (λ i. record { number = 0; written = 0; further = false; missing = true; answers = untouched p e i; work = w i; links = k i })
          ∙ sym (behind_unmet last (skipping 0 l) e)

      go : (s : Start) → Shown (waits_at s) (skip_at s) → reply still ≡ accepted_from s last l
      go (Entry n) p = paged false n p p.still_is
      go Behind p = resumed (is_entry last (skipping 0 l)) refl p

-- ---- woods
-- a page from behind an entry, too, is that without woods where all pieces are of one wood, and does not read the board's (document 02, A5)
behind_one_wood : (last : List ℕ) → OneWoodCalls (outcome_behind last)
unfolding OneWoodCalls outcome_behind accepted_behind no_entry is_entry page_from capacity refused without_woods
behind_one_wood last l w one = sym (ap₂ left (list_bare l w one) (refusal_bare l w one))
  where
    left : List (List ℕ) → ℕ → Outcome
    left xs n =
        let yes = accepted_with (page (onwards last true xs) l.skip (capacity l)) l in
        cond (eqb n 0) (cond (any (λ x. same x last) xs) yes (no_entry l)) (refused n l)

behind_unread : (last : List ℕ) → BoardUnread (outcome_behind last)
unfolding BoardUnread outcome_behind accepted_behind no_entry is_entry page_from capacity refused board_in_wood with_wood refusal table lent_of tray_of grid_of sides_of sides_fit cells_lie
behind_unread last l w = refl

pub behind_woods : WoodsBehind
unfolding WoodsBehind
behind_woods last = (behind_one_wood last, behind_unread last)
