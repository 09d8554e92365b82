-- Knuth's list over a row system: a search begins with every row possible and none chosen, and what it emits is the list. Over an accepted tray's system its
-- answers are document 01's list, and there are as many links as document 01 counts. Assumes nothing.
use Prim.Native.Nat.{ℕ, ◌+◌}
use mathlib.Core.List.Memᴰ
use mathlib.Core.List.{List, []}
use mathlib.Core.Path.{◌≡◌, refl}
use native.Mathlib.Omega.{arith}
use lib.ListN.{length, length-map}
use Rattle.definitions.specs.Kinds.{Tray, Kind}
use Rattle.definitions.specs.Placements.{compile}
use Rattle.definitions.specs.Packing.{limits}
use Rattle.definitions.specs.Kept.{Identify}
use Rattle.definitions.specs.Emission.{Emitted, answers_in, emits}
use Rattle.definitions.specs.Orders.{start, knuth_list, packings, listed}
use Rattle.definitions.specs.Outcomes.{answers_of}
use Rattle.definitions.specs.Refusals.{Call, tray_of, rows_of, link_count, refusal}
use Rattle.definitions.specs.declared.SolverKind.TheVariants.{KnuthAlgorithm}
use Rattle.theorems.proofs.GeometryLaws.{W}
use Rattle.theorems.proofs.EngineLaws.{knuth_exact}
use Rattle.rows.specs.declared.Dims.{Dims}
use Rattle.rows.specs.Systems.{System, system_in, system_of, system_over}
use Rattle.rows.specs.Lawful.{Lawful}
use Rattle.kept.specs.Normal.{of_kind}
use Rattle.kept.specs.Entries.{start_by}
use Rattle.kept.proofs.EntryLaws.{entries_same}
use Rattle.links.specs.Search.{Seek}
use Rattle.links.specs.Build.{whole, every_column}
use Rattle.knuth.specs.Matrix.{link_nodes, matrix_of}
use Rattle.knuth.specs.Listing.{Choosable, Begun, emit_all, knuth_below, knuth_answers}
use Rattle.knuth.proofs.KnuthFoundLaws.{nodes_many, found_emits}
use Rattle.rows.specs.declared.chart.Chart.{Chart}

-- ---- over the system of a tray: how many links there are, and what is listed
pub links_many : (t : Tray) → length (link_nodes (system_of t)) ≡ link_count (compile t)
unfolding system_of link_count rows_of limits
links_many t = let a = nodes_many (system_of t) in let b = length-map (compile t).kinds (λ (k : Kind). length k.copies) in omega arith

pub knuth-answers : (l : Call) → refusal l ≡ 0 → (i : Identify)
    → answers_in (knuth_answers (system_of (tray_of l)) i) ≡ answers_of (tray_of l) i KnuthAlgorithm
unfolding knuth_answers answers_of listed packings knuth_list start start_by system_of
knuth-answers l ok i = entries_same l ok i (knuth_list (compile (tray_of l))) (knuth_exact (compile (tray_of l)) (W l ok)).only

-- ---- over a system in slices
module _ (d : Dims) (work : List ℕ) (chart : Chart) (links : List ℕ) (b : Begun (system_in d work chart) links) where
  abbrev S : System
  S = system_in d work chart

  -- the start of a search: every row possible, and none chosen
  pub begins : Seek (whole (matrix_of (system_in d work chart)) b.law) every_column b.copies d.size d.size links
  unfolding system_in system_over
  begins = b.seek

  pub choosable : Choosable (system_in d work chart) links d.size []
  unfolding system_in system_over of_kind
  choosable =
      record {
        w = whole (matrix_of S) b.law;
        uncovered = every_column;
        copies = b.copies;
        seek = b.seek;
        chosen = record {
          is_matrix = refl;
          apart = tt;
          taken = λ k h. (let e = b.stock k h in omega arith);
          clear = λ x l r m. absurd (Memᴰ.not-nil m);
          room = omega arith;
        };
      }

  -- what the search emits
  module _ (law : Lawful (system_in d work chart)) (i : Identify) (capacity : ℕ) (e : Emitted) where
    found : emit_all S i capacity (knuth_below S [] (S.size + 1) (whole (matrix_of S) b.law) b.copies S.size) e ≡ emits capacity (knuth_answers S i) e
    found = found_emits S law b.law b.copies b.stock (S.size + 1) (omega arith) i capacity e

    pub lists : emit_all S i capacity (knuth_below S [] (d.size + 1) (whole (matrix_of S) b.law) b.copies d.size) e
        ≡ emits capacity (knuth_answers S i) e
    lists = unfold system_in system_over in found
