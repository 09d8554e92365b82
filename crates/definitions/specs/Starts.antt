-- Where a page starts: at an entry of the list, by its number, which is document 01's skip, or behind an entry that is lent, so that a listing in pages does
-- not search anew what it has passed. What a call for either returns and leaves; what the code of a page call shows; and the user's sentences about one call.
-- StartLaws (theorems) shows that the outcome defined here meets the sentences.
use Rattle.std.specs.Prelude.{ℕ, suc, ◌<◌, Bool, true, false, cond, not, ◌&&◌, List, [], ◌≡◌, ◌⊎◌, eqb, length, get_or, Some, None, Ok}
use Rattle.lists.specs.Lists.{any, same, joined}
use Rattle.definitions.specs.Refusals.{Call, tray_of, identify_of, refusal}
use Rattle.definitions.specs.Page.{Page, page}
use Rattle.definitions.specs.Emission.{onwards}
use Rattle.definitions.specs.Outcomes.{Outcome, Reply, answers_of, capacity, over_start, work_after, links_after, refused, accepted, accepted_with, outcome}
use Rattle.definitions.specs.Demands.{Demand1, Stretch}
use Rattle.definitions.specs.declared.Start.{Start}
use Rattle.definitions.specs.declared.Start.TheVariants.{Entry, Behind}

-- the same call with another skip
abbrev pub skipping : ℕ → Call → Call
skipping skip l =
    record {
      pieces = l.pieces;
      board = l.board;
      bytes = l.bytes;
      config = l.config;
      skip = skip;
      answers = l.answers;
      work = l.work;
      links = l.links;
    }

-- the one list of a call's tray, identification and engine, and its entry k
abbrev pub list_of : Call → List (List ℕ)
list_of l = answers_of (tray_of l) (identify_of l.config) l.config.solver

abbrev pub entry_of : Call → ℕ → List ℕ
entry_of l k = get_or (list_of l) k []

-- ---- a start: whether an entry is waited for, and how many entries are skipped
abbrev pub waits_at : Start → Bool
waits_at (Entry k) = false
waits_at Behind = true

abbrev pub skip_at : Start → ℕ
skip_at (Entry k) = k
skip_at Behind = 0

-- ---- the outcome
-- the page of a call over its list, or over what lies behind an entry; that of the whole list is document 01's `page_of`
unfoldable pub page_from : List ℕ → Bool → Call → Page
page_from last waiting l = page (onwards last waiting (list_of l)) l.skip (capacity l)

-- some entry of the list equals the one that is lent
unfoldable pub is_entry : List ℕ → Call → Bool
is_entry last l = any (λ x. same x last) (list_of l)

-- None does: nothing is written and none follows, and this is told. It is no refusal of document 01's table, for the search has run: work slice and links are
-- as after an accepted call.
unfoldable pub no_entry : Call → Outcome
no_entry l =
    record {
      number = 0;
      written = 0;
      further = false;
      missing = true;
      answers = l.answers;
      work = work_after l;
      links = links_after l;
    }

-- The outcome of a call for what lies behind an entry of its list. StartLaws (theorems): behind entry k it is document 01's outcome with skip k + 1.
unfoldable pub accepted_behind : List ℕ → Call → Outcome
accepted_behind last l =
    let yes = accepted_with (page_from last true l) l in
    let no = no_entry l in
    cond (is_entry last l) yes no

unfoldable pub outcome_behind : List ℕ → Call → Outcome
outcome_behind last l =
    let n = refusal l in
    let yes = accepted_behind last l in
    let no = refused n l in
    cond (eqb n 0) yes no

-- The outcome of a call from where it starts, whatever it lends (the call's own skip is not read), and that of one that is not refused.
unfoldable pub outcome_from : Start → List ℕ → Call → Outcome
outcome_from (Entry k) last l = outcome (skipping k l)
outcome_from Behind last l = outcome_behind last (skipping 0 l)

unfoldable pub accepted_from : Start → List ℕ → Call → Outcome
accepted_from (Entry k) last l = accepted (skipping k l)
accepted_from Behind last l = accepted_behind last (skipping 0 l)

-- ---- what the code of a page call shows
-- What was written, and the answer buffer afterwards, are the page; and an entry is still waited for exactly if it was, and none of the list equals it.
pub record PageIs (last : List ℕ) (waiting : Bool) (l : Call) (still : Bool) (written : ℕ) (further : Bool) (answers : List ℕ) : Type 0 where
  pub written_is : written ≡ (page_from last waiting l).written
  pub further_is : further ≡ (page_from last waiting l).further
  pub answers_are : answers ≡ over_start (joined (page_from last waiting l).entries) l.answers
  pub still_is : still ≡ (waiting && not (is_entry last l))

-- what it hands back then
abbrev pub reply_of : Bool → ℕ → Bool → Reply
reply_of true written further = Ok None
reply_of false written further = Ok (Some (record { written = written; further = further }))

-- ---- the user's sentences about one call, whatever it lends, and what it left
-- Behind an entry: it went on. Some entry of the list equals the one that was lent, the outcome is document 01's with the next number as skip, and so it is
-- that stretch of the one list.
pub record GoesOn (last : List ℕ) (l : Call) (o : Outcome) : Type 0 where
  pub entry : ℕ
  pub in_list : entry < length (list_of l)
  pub is_last : get_or (list_of l) entry [] ≡ last
  pub told_so : o.missing ≡ false
  pub next : o ≡ outcome (skipping (suc entry) l)
  pub stretch : Stretch (list_of l) (skipping (suc entry) l) o

-- Or no entry of the list equals it, and this is told; nothing is written, and the slices are as after an accepted call.
pub record NotThere (last : List ℕ) (l : Call) (o : Outcome) : Type 0 where
  pub none_is_last : (k : ℕ) → k < length (list_of l) → get_or (list_of l) k [] ≡ last → ⊥
  pub told_so : o.missing ≡ true
  pub left : o ≡ no_entry l

-- The first refusal that applies or none, and a refusal leaves the slices untouched; else its stretch of the one list, from entry k on or from behind the entry
-- that was lent, if it is one.
abbrev pub Meets : Start → List ℕ → Call → Outcome → Type 0
Meets (Entry k) last l o = Demand1 (skipping k l) o × (refusal l ≡ 0 → Stretch (list_of l) (skipping k l) o)
Meets Behind last l o = Demand1 (skipping 0 l) o × (refusal l ≡ 0 → GoesOn last l o ⊎ NotThere last l o)
