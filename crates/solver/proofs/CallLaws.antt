-- A call as the solver answers it: the first row of the table that applies is its refusal; where none does, an engine's answers over the tray's row system are
-- the list of document 01, so that what is emitted is the call's page. Assumes nothing.
use Prim.Native.Nat.{ℕ, ◌*◌, ◌/◌, ◌≤◌, ◌<◌}
use mathlib.Core.Bool.{true, false, cond}
use mathlib.Core.List.{List}
use mathlib.Core.Path.{◌≡◌, refl, sym, ap, ◌∙◌, subst}
use mathlib.Core.Logic.{◌⊎◌, inl, inr}
use native.Mathlib.Omega.{arith}
use lib.ListN.{length}
use Rattle.std.specs.Prelude.{Err}
use Rattle.placements.proofs.RefusalLaws.{sides_some}
use Rattle.definitions.specs.Kept.{Identify}
use Rattle.definitions.specs.Emission.{Emitted, answers_in, emits}
use Rattle.definitions.specs.Orders.{packings, listed}
use Rattle.definitions.specs.Outcomes.{answers_of, cleared, number_of, outcome_of, refused}
use Rattle.definitions.specs.Refusals.{Call, identify_of, is_knuth, lent_of, refusal, tray_of}
use Rattle.definitions.specs.Starts.{PageIs, list_of, outcome_from, reply_of, skip_at, skipping, waits_at}
use Rattle.definitions.specs.declared.Config.{Config}
use Rattle.definitions.specs.declared.Record.{Record}
use Rattle.definitions.specs.declared.Refusal.{Refusal}
use Rattle.definitions.specs.declared.SolverKind.{SolverKind}
use Rattle.definitions.specs.declared.SolverKind.TheVariants.{Auto, Naive, Fast, KnuthAlgorithm}
use Rattle.definitions.specs.declared.Start.{Start}
use Rattle.theorems.proofs.EmissionLaws.{emits_none}
use Rattle.theorems.proofs.RefusalLaws.{board_sides, passed}
use Rattle.theorems.proofs.StartLaws.{cleared_again, from_refused, page_is, page_outcome}
use Rattle.placements.specs.Pieces.{tray_in}
use Rattle.placements.proofs.CountingLaws.{refused_some}
use Rattle.placements.proofs.StageLaws.{refusal_stages}
use Rattle.rows.specs.declared.Dims.{Dims}
use Rattle.rows.specs.declared.chart.Chart.{Chart}
use Rattle.rows.specs.Systems.{System, system_in, system_of}
use Rattle.kept.specs.Emission.{emitted_of}
use Rattle.kept.specs.declared.emission.Emission.{Emission}
use Rattle.fast.proofs.FastListLaws.{fast-answers}
use Rattle.knuth.specs.Matrix.{link_nodes}
use Rattle.knuth.proofs.KnuthPageLaws.{knuth-answers, links_many}
use Rattle.solver.specs.Lent.{LinksAfter, answers_by, call_with}
use Rattle.solver.specs.Preparing.{Stands, refusal_by}

-- what an engine lists over the row system of an accepted tray has the answers of the one list
lists : (l : Call) → refusal l ≡ 0 → (i : Identify) (e : SolverKind) → answers_in (answers_by (system_of (tray_of l)) i e) ≡ answers_of (tray_of l) i e
unfolding answers_by answers_of listed packings
lists l ok i Auto = refl
lists l ok i Naive = refl
lists l ok i Fast = fast-answers l ok i
lists l ok i KnuthAlgorithm = knuth-answers l ok i

-- what an engine emits and leaves of the links, said of the engine that a configuration names
pub by_engine : {solver engine : SolverKind} → solver ≡ engine → (s : System) (i : Identify) (room : ℕ) (old new : Emitted) (links links' : List ℕ)
    → new ≡ emits room (answers_by s i engine) old → LinksAfter engine links links' → (new ≡ emits room (answers_by s i solver) old) × LinksAfter solver links links'
by_engine e s i room old new links links' f k = subst (λ (x : SolverKind). (new ≡ emits room (answers_by s i x) old) × LinksAfter x links links') (sym e) (f, k)

-- an engine that is not ported lists nothing
pub unported : {solver : SolverKind} → (solver ≡ Auto) ⊎ (solver ≡ Naive) → (s : System) (i : Identify) (room : ℕ) (old : Emitted) (links : List ℕ)
    → (old ≡ emits room (answers_by s i solver) old) × LinksAfter solver links links
unfolding answers_by LinksAfter
unported (inl e) s i room old links = by_engine e s i room old old links links (sym (emits_none room old)) refl
unported (inr e) s i room old links = by_engine e s i room old old links links (sym (emits_none room old)) refl

-- an engine builds links and they are cleared, or it leaves them
links_cleared : (e : SolverKind) (old mid new : List ℕ) → LinksAfter e old mid → new ≡ cond (is_knuth e) (cleared 32768 mid) mid → new ≡ cond (is_knuth e) (cleared 32768 old) old
unfolding LinksAfter is_knuth
links_cleared Auto old mid new k e = e ∙ k
links_cleared Naive old mid new k e = e ∙ k
links_cleared Fast old mid new k e = e ∙ k
links_cleared KnuthAlgorithm old mid new k e = e ∙ cleared_again 32768 old mid k

module _ (rs : List Record) (board : Record) (bytes : List ℕ) (config : Config) (answers work links : List ℕ) where
  abbrev call : Call
  call = call_with rs board bytes config answers work links

  pub refusal_is : refusal (call_with rs board bytes config answers work links) ≡ refusal_by rs board bytes config (length work) (length links)
  unfolding call_with refusal_by
  refusal_is = refusal_stages (call_with rs board bytes config answers work links)

  pub refused_outcome : (start : Start) (last : List ℕ) (why : Refusal) → number_of why ≡ refusal_by rs board bytes config (length work) (length links)
      → outcome_of (Err why) answers work links ≡ outcome_from start last (call_with rs board bytes config answers work links)
  unfolding outcome_of refused call_with
  refused_outcome start last why e =
      ap (λ (n : ℕ). refused n call) (e ∙ sym refusal_is) ∙ sym (from_refused start last call (λ z. refused_some why (e ∙ sym refusal_is ∙ z)))

  -- ---- a call that is not refused
  module _ (d : Dims) (after : List ℕ) (chart : Chart) (s : Stands d rs board bytes config (length work) (length links) work after chart) where
    ok : refusal (call_with rs board bytes config answers work links) ≡ 0
    ok = refusal_is ∙ s.accepted

    pub work-long : 8192 ≤ length work
    unfolding call_with
    work-long = (passed call ok).work_long

    pub box_some : 0 < d.places
    unfolding call_with
    box_some = subst (λ (n : ℕ). 0 < n) (sym s.places) (sides_some board (board_sides call ok))

    pub links-long : is_knuth config.solver ≡ true → 32768 ≤ length links
    unfolding call_with
    links-long = (passed call ok).links_long

    pub links_few : is_knuth config.solver ≡ true → length (link_nodes (system_in d after chart)) ≤ 4096
    unfolding call_with lent_of tray_of
    links_few k =
        let a = links_many (tray_in rs board bytes) in
        let b = (passed call ok).few_links k in
        subst (λ (x : System). length (link_nodes x) ≤ 4096) (sym s.system) (omega arith)

    answers-are : answers_in (answers_by (system_in d after chart) (identify_of config) config.solver) ≡ list_of (call_with rs board bytes config answers work links)
    unfolding call_with lent_of tray_of
    answers-are = ap (λ (x : System). answers_in (answers_by x (identify_of config) config.solver)) s.system ∙ lists call ok (identify_of config) config.solver

    -- what an engine emits from where the page starts, and the slices once they are cleared
    module _ (start : Start) (last : List ℕ) (r : Emission) (new : List ℕ)
        (is : emitted_of r last new ≡ emits (length answers / (2 * d.places)) (answers_by (system_in d after chart) (identify_of config) config.solver)
        (emitted_of (record { start = start; written = 0; further = false }) last answers)) where
      page : PageIs last (waits_at start) (skipping (skip_at start) (call_with rs board bytes config answers work links)) (waits_at r.start) r.written r.further new
      unfolding call_with lent_of tray_of
      page =
          let list = answers_by (system_in d after chart) (identify_of config) config.solver in
          page_is (skipping (skip_at start) call) last (waits_at start) d.places s.places list answers-are (emitted_of r last new) is

      pub page_left : (work' links₁ links₂ : List ℕ) → work' ≡ cleared 8192 after → LinksAfter config.solver links links₁
          → links₂ ≡ cond (is_knuth config.solver) (cleared 32768 links₁) links₁
          → outcome_of (reply_of (waits_at r.start) r.written r.further) new work' links₂ ≡ outcome_from start last (call_with rs board bytes config answers work links)
      page_left work' links₁ links₂ w k m =
          page_outcome start last call ok (waits_at r.start) r.written r.further new work' links₂ page
          (unfold call_with in (w ∙ cleared_again 8192 work after s.behind)) (unfold call_with in (links_cleared config.solver links links₁ links₂ k m))
