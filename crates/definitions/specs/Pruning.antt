-- Where a search may leave a branch early. Nothing here is of document 01: these are the engines' lists with such branches left out, and the claim that
-- what is listed stays as it is. Proved in PruningLaws (theorems).
use Rattle.std.specs.Prelude.{Bool, true, false, cond, not, ◌&&◌, ◌||◌, List, [], ◌∷◌, ◌≡◌, ltb, eqb, length, get_or}
use Rattle.lists.specs.Lists.{all, any, keep, each, member}
use Rattle.definitions.specs.Maps.{Map, turns, mirrorings, map_cell}
use Rattle.definitions.specs.Placements.{Placement, Compiled, compile}
use Rattle.definitions.specs.Packing.{ahead, limits}
use Rattle.definitions.specs.Kept.{Identify, kind_after, image, symmetries, kept}
use Rattle.definitions.specs.Kept.Identify.{None, Turned, Mirrored}
use Rattle.definitions.specs.Orders.{State, start, possible, choose, search, fast_choices, kind0_first, knuth_choices, listed}
use Rattle.definitions.specs.Refusals.{Call, tray_of, refusal}
use Rattle.definitions.specs.declared.SolverKind.TheVariants.{Fast, KnuthAlgorithm}

-- an engine's choices, none at a state that a test calls dead
unfoldable pub unless : (State → Bool) → (State → List Placement) → State → List Placement
unless dead choices s = let cs = choices s in cond (dead s) [] cs

-- Knuth: an uncovered cell that no placement still possible covers. (Document 01 passes over such a cell: "but at least one".)
unfoldable pub has_dead_cell : List Placement → State → Bool
has_dead_cell qs s = let ps = keep (possible s) qs in any (λ n. not (any (λ q. member n q.cells) ps)) s.free

unfoldable pub knuth_pruned : Compiled → List (List Placement)
knuth_pruned c = search (unless (has_dead_cell c.placements) (knuth_choices c.placements)) (length c.cells) (start c)

-- Fast, kind 0 first (`use_pre_pruning` of fast.rs): an allowed map takes the placement of kind 0 onto one of kind 0 that is ahead of it
unfoldable pub moved_ahead : Compiled → Bool → List Map → Placement → Bool
moved_ahead c odd ms q = any (λ m. any (λ r. eqb r.kind q.kind && ahead r q) (image c odd (map_cell m c.board.sides) (q ∷ []))) (symmetries c.board ms)

-- every kind has a mirror partner with as many copies (`always_mirrorable`)
unfoldable pub always_mirrorable : Compiled → Bool
always_mirrorable c = all (λ d. ltb d.partner (length c.kinds) && eqb (length d.copies) (get_or (limits c) d.partner 0)) c.kinds

unfoldable pub is_pruned : Compiled → Identify → Placement → Bool
is_pruned c None q = false
is_pruned c Turned q = moved_ahead c false turns q
is_pruned c Mirrored q = moved_ahead c false turns q || (always_mirrorable c && (eqb (kind_after c true 0) 0 && moved_ahead c true mirrorings q))

unfoldable pub fast_pruned : Compiled → Identify → List (List Placement)
fast_pruned c i =
    let n = length c.cells in
    let go = search (fast_choices c.placements) n in
    let first = keep (λ q. eqb q.kind 0 && not (is_pruned c i q)) c.placements in
    let after = each first (λ q. go (choose (start c) q)) in
    let plain = go (start c) in
    cond (kind0_first c i) after plain

-- the lists are unchanged
pub record Unchanged (c : Compiled) : Type 0 where
  pub fast : (i : Identify) → keep (kept c i) (fast_pruned c i) ≡ listed c i Fast
  pub knuth : (i : Identify) → keep (kept c i) (knuth_pruned c) ≡ listed c i KnuthAlgorithm

unfoldable pub Pruning : Type 0
Pruning = (l : Call) → refusal l ≡ 0 → Unchanged (compile (tray_of l))
