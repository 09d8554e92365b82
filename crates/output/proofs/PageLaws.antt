-- A page's answers stand in the buffer one after the other, and they are the entries of the list from where the page begins. Assumes nothing.
use Prim.Native.Nat.{ℕ, suc, ◌+◌, ◌*◌, ◌/◌, ◌<◌, ◌≤◌}
use mathlib.Core.Bool.{Bool, true, false, cond, true≢false}
use mathlib.Core.List.Memᴰ
use mathlib.Core.List.{List, [], ◌++◌, append_assoc, Memᴰ}
use mathlib.Core.Logic.{◌⊎◌, inl, inr}
use mathlib.Core.Path.{◌≡◌, sym, ap, ap₂, ◌∙◌, subst}
use native.Mathlib.Nat.{mul-div_cancel}
use native.Mathlib.Omega.{arith}
use lib.Dec.{ltb}
use lib.ListN.{length, take, drop, get_or, length-take, length-drop}
use lib.Seq.{get_or-take, get_or-drop}
use Rattle.lists.specs.Lists.{joined}
use Rattle.lists.proofs.ListLaws.{drop_in, take_in}
use Rattle.definitions.specs.Page.{page}
use Rattle.definitions.specs.Demands.{MeetsDemand3}
use Rattle.definitions.specs.Outcomes.{Outcome, Reply, accepted, answers_of, answer_size, capacity, cleared, number_of, outcome, outcome_of, over_start, page_of}
use Rattle.definitions.specs.Orders.{listed}
use Rattle.definitions.specs.Answers.{answer}
use Rattle.definitions.specs.Placements.{compile}
use Rattle.definitions.specs.Refusals.{Call, identify_of, is_knuth, refusal, sides_of, table, lent_of, tray_of}
use Rattle.definitions.specs.declared.Refusal.{Refusal}
use Rattle.std.specs.Prelude.{Ok, Err, Some, None}
use Rattle.theorems.proofs.DemandLaws.{demand3_holds, box_lent}
use Rattle.theorems.proofs.RefusalLaws.{outcome_accepted}
use Rattle.placements.proofs.CountingLaws.{refused_some}
use Rattle.definitions.specs.Starts.{outcome_from, skipping}
use Rattle.definitions.specs.declared.Start.TheVariants.{Behind}
use Rattle.theorems.proofs.EntryPageLaws.{entry_stands}
use Rattle.theorems.proofs.StartLaws.{outcome-behind}
use Rattle.output.specs.Rest.{Stands}
use Rattle.output.specs.Standing.{Scratch}

-- what a page call hands back that wrote so many answers
abbrev pub wrote : ℕ → Bool → Reply
wrote n further = Ok (Some (record { written = n; further = further }))

-- ---- a page's entries
page_stands : (list : List (List ℕ)) (skip room size : ℕ) (answers rest : List ℕ) → ((x : List ℕ) → Memᴰ x list → length x ≡ size) → skip ≤ length list
    → answers ≡ joined (page list skip room).entries ++ rest → Stands list skip size (page list skip room).written answers
unfolding page
page_stands list skip room size answers rest sized h e =
    let d = length-drop skip list in
    let t = length-take room (drop skip list) in
    record {
      inside = omega arith;
      entry = λ i k.
          ap (λ (l : List ℕ). take size (drop (i * size) l)) e
          ∙ entry_stands size (take room (drop skip list)) (λ x m. sized x (drop_in skip list (take_in room (drop skip list) m))) rest i k
          ∙ get_or-take room (drop skip list) i [] (omega arith) ∙ get_or-drop skip list i [];
    }

-- a page with room that begins before the list's end has an entry
page_some : (list : List (List ℕ)) (skip room : ℕ) → skip < length list → 1 ≤ room → 1 ≤ (page list skip room).written
unfolding page
page_some list skip room h k = let d = length-drop skip list in let t = length-take room (drop skip list) in omega arith

-- the answers of an accepted call have one size
answers_sized : (l : Call) → refusal l ≡ 0 → (x : List ℕ) → Memᴰ x (answers_of (tray_of l) (identify_of l.config) l.config.solver) → length x ≡ answer_size (sides_of l.board)
unfolding answers_of MeetsDemand3
answers_sized l ok x m =
    let r = Memᴰ.of_map (answer (compile (tray_of l))) (listed (compile (tray_of l)) (identify_of l.config) l.config.solver) m in
    sym (ap length r.2) ∙ (demand3_holds l ok).answer_length r.0 ∙ ap answer_size (box_lent l)

-- ---- a page of an accepted call
-- n entries of a list stand in a buffer from entry `skip` on, as many as there is room for
pub record Here (list : List (List ℕ)) (skip size room n : ℕ) (further : Bool) (answers : List ℕ) : Type 0 where
  pub stands : Stands list skip size n answers
  pub some : skip < length list → 1 ≤ n
  pub few : n ≤ room
  pub goes_on : further ≡ ltb (skip + n) (length list)

module _ (l : Call) (ok : refusal l ≡ 0) (size room : ℕ) (size_is : size ≡ answer_size (sides_of l.board)) (some : 1 ≤ size) (room_is : length l.answers ≡ room * size) (room-some : 1 ≤ room) where
  abbrev list : List (List ℕ)
  list = answers_of (tray_of l) (identify_of l.config) l.config.solver

  still : (skip : ℕ) → refusal (skipping skip l) ≡ 0
  unfolding refusal table lent_of tray_of
  still skip = ok

  capacity_is : capacity l ≡ room
  unfolding capacity
  capacity_is = ap₂ (λ (a b : ℕ). a / b) room_is (sym size_is) ∙ mul-div_cancel room (omega arith)

  here : (skip : ℕ) → skip ≤ length list → (n : ℕ) (further : Bool) (answers rest : List ℕ) → n ≡ (page list skip room).written → further ≡ (page list skip room).further
      → answers ≡ over_start (joined (page list skip room).entries) l.answers → Here list skip size room n further (answers ++ rest)
  unfolding page over_start
  here skip h n further answers rest w v a =
      let text = joined (page list skip room).entries in
      let old = drop (length text) l.answers in
      let whole : answers ++ rest ≡ text ++ (old ++ rest) = ap (λ (x : List ℕ). x ++ rest) a ∙ append_assoc text old rest in
      let t = length-take room (drop skip list) in
      record {
        stands = subst (λ (m : ℕ). Stands list skip size m (answers ++ rest)) (sym w) (page_stands list skip room size (answers ++ rest) (old ++ rest) (λ x m. answers_sized l ok x m ∙ sym size_is) h whole);
        some = λ k. subst (λ (m : ℕ). 1 ≤ m) (sym w) (page_some list skip room k room-some);
        few = subst (λ (m : ℕ). m ≤ room) (sym w) (omega arith);
        goes_on = v ∙ ap (λ (m : ℕ). ltb (skip + m) (length list)) (sym w);
      }

  pub page_here : (skip : ℕ) → skip ≤ length (answers_of (tray_of l) (identify_of l.config) l.config.solver) → (n : ℕ) (further : Bool) (answers work links rest : List ℕ)
      → outcome_of (wrote n further) answers work links ≡ outcome (skipping skip l)
      → Here (answers_of (tray_of l) (identify_of l.config) l.config.solver) skip size room n further (answers ++ rest)
  unfolding outcome_of accepted page_of lent_of tray_of capacity
  page_here skip h n further answers work links rest e =
      let f = e ∙ outcome_accepted (skipping skip l) (still skip) in
      let g = page list skip room in
      let w : n ≡ (page list skip (capacity l)).written = ap (λ (o : Outcome). o.written) f in
      let v : further ≡ (page list skip (capacity l)).further = ap (λ (o : Outcome). o.further) f in
      let a : answers ≡ over_start (joined (page list skip (capacity l)).entries) l.answers = ap (λ (o : Outcome). o.answers) f in
      let w' : n ≡ g.written = w ∙ ap (λ (r : ℕ). (page list skip r).written) capacity_is in
      let v' : further ≡ g.further = v ∙ ap (λ (r : ℕ). (page list skip r).further) capacity_is in
      let a' : answers ≡ over_start (joined g.entries) l.answers = a ∙ ap (λ (r : ℕ). over_start (joined (page list skip r).entries) l.answers) capacity_is in
      here skip h n further answers rest w' v' a'

  pub page_accepted : (skip : ℕ) (w : Refusal) (answers work links : List ℕ) → outcome_of (Err w) answers work links ≡ outcome (skipping skip l) → ⊥
  unfolding outcome_of accepted
  page_accepted skip w answers work links e =
      let z : number_of w ≡ 0 = ap (λ (o : Outcome). o.number) (e ∙ outcome_accepted (skipping skip l) (still skip)) in
      refused_some w z

  pub page_there : (skip : ℕ) (answers work links : List ℕ) → outcome_of (Ok None) answers work links ≡ outcome (skipping skip l) → ⊥
  unfolding outcome_of accepted
  page_there skip answers work links e = true≢false (ap (λ (o : Outcome). o.missing) (e ∙ outcome_accepted (skipping skip l) (still skip)))

  -- the work words and the links afterwards
  pub page_scratch : (skip n : ℕ) (further : Bool) (answers work links : List ℕ) → outcome_of (wrote n further) answers work links ≡ outcome (skipping skip l)
      → Scratch l.work l.links work links
  unfolding outcome_of accepted
  page_scratch skip n further answers work links e =
      let f = e ∙ outcome_accepted (skipping skip l) (still skip) in
      record { work_then = inr (ap (λ (o : Outcome). o.work) f); links_then = go (is_knuth l.config.solver) (ap (λ (o : Outcome). o.links) f) }
    where
      go : (b : Bool) → links ≡ cond b (cleared 32768 l.links) l.links → (links ≡ l.links) ⊎ (links ≡ cleared 32768 l.links)
      go true u = inr u
      go false u = inl u

  -- behind entry k it is the page from entry k + 1 on
  pub behind_is : (k : ℕ) → k < length (answers_of (tray_of l) (identify_of l.config) l.config.solver) → (last : List ℕ) → last ≡ get_or (answers_of (tray_of l) (identify_of l.config) l.config.solver) k []
      → outcome_from Behind last l ≡ outcome (skipping (suc k) l)
  unfolding outcome_from
  behind_is k h last e = ap (λ (x : List ℕ). outcome_from Behind x l) e ∙ outcome-behind l ok k h
