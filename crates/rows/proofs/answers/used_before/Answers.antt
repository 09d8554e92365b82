-- `used_before` meets its contract: std's count of the rows of the kind. Assumes nothing.
use Prim.Native.Nat.{ℕ, ◌+◌, ◌*◌, ◌≤◌, ◌<◌}
use mathlib.Core.List.{List}
use mathlib.Core.Path.{◌≡◌, sym, ◌∙◌}
use native.Mathlib.Omega.{arith}
use lib.Dec.{T, eqb, ltb, ltb→lt}
use lib.ListN.{length, get_or}
use Rattle.std.proofs.Common.{rules, tests}
use Rattle.std.proofs.lemmas.Iterator.{YieldsList-from_slice}
use Rattle.std.proofs.lemmas.Iterator.Adapters.{serves_from_places}
use Rattle.std.specs.List.{count_by}
use Rattle.std.proofs.lemmas.List.Sums.{count_by-le-length}
use Rattle.lists.specs.Lists.{all}
use Rattle.lists.proofs.ListLaws.{all_at}
use Rattle.lists.proofs.NthLaws.{nth_mem, nth_at}
use Rattle.rows.specs.Rows.{row_at}
use Rattle.rows.proofs.AnsweringLaws.{kind_counted}
use Rattle.rows.proofs.answers.used_before.Goals as goal

-- a row of the path stands in the work slice
row_found : (work path : List ℕ) → T (all (λ r. ltb (8 * r + 7) (length work)) path) → (r i : ℕ) → i < length path → get_or path i r ≡ r → 8 * r + 8 ≤ length work
row_found work path t r i h e =
    let l = ltb→lt (8 * get_or path i r + 7) (length work) (all_at (λ (s : ℕ). ltb (8 * s + 7) (length work)) path t (nth_mem path i (nth_at r path i h))) in
    omega arith

pub count-requires-clause-can : goal.count-requires-clause-can
count-requires-clause-can c =
    let path = c.args.path.now in (
      tt,
      tt,
      serves_from_places (YieldsList-from_slice path cc) (λ x q r. search rules)
          (λ x k inside at. let there = row_found c.args.work.now path c.requires x.now k inside (search (rules, at)) in search (rules, there)),
    )

pub returns : goal.returns
returns c =
    let a = c.args in
    let counted : c.count.result ≡ count_by (λ r. eqb (row_at a.work.now r).kind a.kind) a.path.now = search (rules, tests) in (
      counted ∙ sym (kind_counted a.work.now a.path.now a.kind),
      omega (arith, counted, count_by-le-length (λ r. eqb (row_at a.work.now r).kind a.kind) a.path.now),
    )
