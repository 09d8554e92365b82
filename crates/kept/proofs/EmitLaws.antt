-- A packing's answer on the page: an answer has two bytes for each place, so that capacity of them fit. Assumes nothing.
use Prim.Native.Nat.{ℕ, ◌+◌, ◌-◌, ◌*◌, ◌≤◌, ◌<◌}
use mathlib.Core.Bool.{Bool, true, false, cond, not}
use mathlib.Core.List.Memᴰ
use mathlib.Core.List.{List, [], ◌∷◌, map, Memᴰ}
use mathlib.Core.Path.{◌≡◌, refl, sym, ap, ap₂, ◌∙◌, subst}
use native.Mathlib.Omega.{arith}
use lib.Dec.{T, ltb, lt→ltb, ltb→lt}
use lib.ListN.{length, take}
use lib.Seq.{paste, length-take-le}
use Rattle.lists.specs.Lists.{all, ascending, same}
use Rattle.lists.proofs.ListLaws.{all_at, all_of}
use Rattle.definitions.specs.Placements.{Placement}
use Rattle.definitions.specs.Packing.{ahead, used}
use Rattle.definitions.specs.Kept.{Identify}
use Rattle.definitions.specs.Emission.{Emitted, Listed, emit}
use Rattle.definitions.specs.Answers.{Taken}
use Rattle.definitions.specs.Starts.{skip_at, waits_at}
use Rattle.definitions.specs.declared.Start.{Start}
use Rattle.definitions.specs.declared.Start.TheVariants.{Behind, Entry}
use Rattle.theorems.proofs.EmissionLaws.{emit_full, emit_skipped, emit_waited, emit_written}
use Rattle.rows.specs.declared.chart.Chart.{Chart}
use Rattle.rows.specs.declared.Dims.{Dims}
use Rattle.rows.specs.Rows.{row_at}
use Rattle.rows.specs.Systems.{System, system_in, owned_in, system_over}
use Rattle.rows.specs.Answering.{Held, answers_over, answer_by, copies_by, path_in, taken_by}
use Rattle.kept.specs.Normal.{sort_rows, row_of, of_kind, normal, InKinds}
use Rattle.rows.specs.Ready.{Ready}
use Rattle.kept.specs.Packings.{AreRows, Fillable}
use Rattle.kept.specs.Emission.{emit_kept, emitted_of, entry_of}
use Rattle.kept.specs.declared.emission.Emission.{Emission}
use Rattle.kept.specs.Entries.{entry_by}
use Rattle.kept.proofs.SortingLaws.{sort_keep, sort_rows_at, sort_rows_ascending, sort_rows_length}
use Rattle.kept.proofs.NormalFormLaws.{rows_fit_all, used_is}
use Rattle.kept.proofs.NormalLaws.{in_kinds, rows_ascend}
use Rattle.rows.proofs.ReadyLaws.{few-cells, row_kind, row_on_board, kinds_many, rows_many}
use Rattle.kept.proofs.ReadyLaws.{row_is}

-- the entry that is waited for, or another
pub met_or_passed : (s : Emitted) (capacity : ℕ) (entry : Listed) → s.further ≡ false → s.waiting ≡ true → (met : Bool) → met ≡ same entry.answer s.last
    → record { last = s.last; waiting = not met; skip = s.skip; written = s.written; further = false; answers = s.answers } ≡ emit capacity entry s
met_or_passed s capacity entry e f met is =
    ap (λ (b : Bool). record { last = s.last; waiting = not b; skip = s.skip; written = s.written; further = false; answers = s.answers }) is ∙ sym (emit_waited capacity entry s e f)

answer_bytes : (ts : List Taken) (scans : List ℕ) → length (answers_over ts scans) ≡ 2 * length scans
unfolding answers_over
answer_bytes ts [] = refl
answer_bytes ts (n ∷ scans) = let e = answer_bytes ts scans in omega arith

module _ (ts : List Taken) (scans : List ℕ) (places : ℕ) (h : places ≤ length scans) where
  pub answer-length : length (answers_over ts (take places scans)) ≡ 2 * places
  answer-length = answer_bytes ts (take places scans) ∙ ap (λ (n : ℕ). 2 * n) (length-take-le places scans h)

  pub emit_answer_written : (capacity : ℕ) (s : Emitted) → s.waiting ≡ false → s.further ≡ false → s.skip ≤ 0 → s.written < capacity → (after : List ℕ)
      → after ≡ paste s.answers (s.written * (2 * places)) (answers_over ts (take places scans)) (2 * places)
      → record { last = s.last; waiting = false; skip = 0; written = s.written + 1; further = false; answers = after }
      ≡ emit capacity (record { answer = answers_over ts (take places scans) }) s
  emit_answer_written capacity s f e z k after is =
      let entry : Listed = record { answer = answers_over ts (take places scans) } in
      ap (λ (l : List ℕ). record { last = s.last; waiting = false; skip = 0; written = s.written + 1; further = false; answers = l })
      (is ∙ ap (λ (n : ℕ). paste s.answers (s.written * n) entry.answer n) (sym answer-length))
      ∙ sym (emit_written capacity entry s f e z k)

-- ---- one entry more, by where the rest of the page starts
module _ (e : Emission) (last answers : List ℕ) (capacity : ℕ) (entry : Listed) (goes : e.further ≡ false) where
  abbrev next : Start → ℕ → Bool → List ℕ → Emitted
  next start written further after = emitted_of (record { start = start; written = written; further = further }) last after

  pub passed : e.start ≡ Behind → (start : Start) (met : Bool) → met ≡ same entry.answer last → waits_at start ≡ not met → skip_at start ≡ 0
      → next start e.written e.further answers ≡ emit capacity entry (emitted_of e last answers)
  passed is start met m w k =
      (λ i. record { last = last; waiting = w i; skip = (k ∙ sym (ap skip_at is)) i; written = e.written; further = goes i; answers = answers })
      ∙ met_or_passed (emitted_of e last answers) capacity entry goes (ap waits_at is) met m

  module _ (k : ℕ) (is : e.start ≡ Entry k) where
    pub skipped : 0 < k → next (Entry (k - 1)) e.written e.further answers ≡ emit capacity entry (emitted_of e last answers)
    skipped h =
        (λ i. record { last = last; waiting = false; skip = sym (ap (λ (s : Start). skip_at s - 1) is) i; written = e.written; further = goes i; answers = answers })
        ∙ sym (emit_skipped capacity entry (emitted_of e last answers) (ap waits_at is) goes (let n = ap skip_at is in omega arith))

    module _ (none : k ≤ 0) where
      nothing : skip_at e.start ≡ 0
      nothing = ap skip_at is ∙ omega arith

      pub full : capacity ≤ e.written → next e.start e.written true answers ≡ emit capacity entry (emitted_of e last answers)
      full h =
          (λ i. record { last = last; waiting = ap waits_at is i; skip = nothing i; written = e.written; further = true; answers = answers })
          ∙ sym (emit_full capacity entry (emitted_of e last answers) (ap waits_at is) goes (let n = nothing in omega arith) h)

      pub put : (ts : List Taken) (scans : List ℕ) (places : ℕ) → places ≤ length scans → entry ≡ record { answer = answers_over ts (take places scans) }
          → e.written < capacity → (after : List ℕ) → after ≡ paste answers (e.written * (2 * places)) (answers_over ts (take places scans)) (2 * places)
          → next e.start (e.written + 1) e.further after ≡ emit capacity entry (emitted_of e last answers)
      put ts scans places long made h after w =
          (λ i. record { last = last; waiting = ap waits_at is i; skip = nothing i; written = e.written + 1; further = goes i; answers = after })
          ∙ emit_answer_written ts scans places long capacity (emitted_of e last answers) (ap waits_at is) goes (let n = nothing in omega arith) h after w
          ∙ ap (λ (x : Listed). emit capacity x (emitted_of e last answers)) (sym made)

-- ---- a packing by its rows in any order
module _ (d : Dims) (work : List ℕ) (chart : Chart) (ready : Ready d work chart) (path : List ℕ) (o : AreRows d path)
    (fills : Fillable (system_in d work chart) path) (sorted : List ℕ) (is : sorted ≡ sort_rows path) where
  abbrev S : System
  S = system_in d work chart

  sorted_row : (r : ℕ) → Memᴰ r sorted → r < d.rows
  sorted_row r m = ltb→lt r d.rows (all_at (λ s. ltb s d.rows) path o.are_rows (sort_rows_at path (subst (λ (xs : List ℕ). Memᴰ r xs) is m)))

  pub sorted_rows : AreRows d sorted
  sorted_rows =
      record {
        few = let h = o.few in let e = ap length is ∙ sort_rows_length path in omega arith;
        are_rows = all_of (λ r. ltb r d.rows) sorted (λ r m. lt→ltb r d.rows (sorted_row r m));
      }

  pub sorted_up : T (ascending ltb sorted)
  sorted_up = subst (λ (xs : List ℕ). T (ascending ltb xs)) (sym is) (sort_rows_ascending path fills.apart)

  sorted_in : T (all (λ r. ltb r (length S.rows)) sorted)
  sorted_in =
      all_of (λ r. ltb r (length S.rows)) sorted
      (λ r m. lt→ltb r (length S.rows) (let h = sorted_row r m in let e = rows_many d work chart in omega arith))

  pub sorted_kinds : InKinds S sorted
  sorted_kinds = in_kinds S ready.lawful sorted sorted_in sorted_up

  rows_are : (rs : List ℕ) → ((r : ℕ) → Memᴰ r rs → r < d.rows) → map (row_of S) rs ≡ map (row_at work) rs
  rows_are [] f = refl
  rows_are (r ∷ rs) f =
      ap₂ (λ (q : Placement) (qs : List Placement). q ∷ qs) (row_is d work chart r (f r (Memᴰ.head refl))) (rows_are rs (λ s m. f s (Memᴰ.tail m)))

  path_is : map (row_of S) sorted ≡ path_in work sorted
  unfolding path_in
  path_is = rows_are sorted sorted_row

  all_path : (p : Placement → Bool) → ((r : ℕ) → r < d.rows → T (p (row_at work r))) → T (all p (path_in work sorted))
  unfolding path_in
  all_path p f =
      all_of p (map (row_at work) sorted)
      (λ q m. let v = Memᴰ.of_map (row_at work) sorted m in subst (λ (x : Placement). T (p x)) v.2 (f v.0 (sorted_row v.0 v.1)))

  enough : (k : ℕ) → k < d.kinds → used (path_in work sorted) k ≤ length (copies_by (owned_in chart.pieces d.pieces) k)
  unfolding system_in system_over used of_kind
  enough k h =
      let m = kinds_many d work chart in
      let a = used_is d work chart ready sorted sorted_rows k (used (path_in work sorted) k) refl in
      let b : length (of_kind S k sorted) ≡ length (of_kind S k path) = ap (λ (xs : List ℕ). length (of_kind S k xs)) is ∙ sort_keep _ path in
      let g = fills.enough k (omega arith) in
      let e = ready.lawful.copies_each k (omega arith) in
      omega arith

  pub sorted_held : Held d work chart sorted
  sorted_held =
      record {
        are_rows = rows_fit_all d work chart ready sorted sorted_rows;
        few_cells = few-cells d work chart ready.lawful;
        few_pieces = ready.few_pieces;
        ascend = subst (λ (qs : List Placement). T (ascending ahead qs)) path_is (rows_ascend S ready.lawful sorted sorted_in sorted_up);
        of_kinds = all_path (λ q. ltb q.kind d.kinds) (λ r h. lt→ltb (row_at work r).kind d.kinds (row_kind d work chart ready.lawful r h));
        on_board = all_path (λ q. all (λ m. ltb m d.size) q.cells) (λ r h. row_on_board d work chart ready.lawful r h);
        enough = enough;
      }

  -- the entry that the code makes
  abbrev made : ℕ → List Placement → Listed
  made k qs = record { answer = answers_over (taken_by (owned_in chart.pieces d.pieces) k qs) (take d.places chart.scans) }

  entry_is : made d.kinds (path_in work sorted) ≡ entry_of S path
  unfolding entry_of entry_by answer_by system_in system_over
  entry_is = ap₂ made (sym (kinds_many d work chart)) (sym path_is ∙ ap (map (row_of S)) is)

  module _ (i : Identify) (capacity : ℕ) (e : Emitted) (r : Bool) (v : r ≡ normal S i sorted) where
    decided : (b : Bool) → r ≡ b → normal S i (sort_rows path) ≡ b
    decided b w = ap (normal S i) (sym is) ∙ sym v ∙ w

    pub emit_left : r ≡ false → e ≡ emit_kept S i capacity path e
    unfolding emit_kept
    emit_left w = ap (λ (b : Bool). cond b (emit capacity (entry_of S path) e) e) (sym (decided false w))

    pub emit_put : r ≡ true → (a : Emitted) → a ≡ emit capacity (made d.kinds (path_in work sorted)) e
        → a ≡ emit_kept S i capacity path e
    unfolding emit_kept
    emit_put w a g =
        g ∙ ap (λ (x : Listed). emit capacity x e) entry_is ∙ ap (λ (b : Bool). cond b (emit capacity (entry_of S path) e) e) (sym (decided true w))
