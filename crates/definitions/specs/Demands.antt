-- The demands as statements over the definitions of call, packing, move and page, for anything that runs calls: run l is what it makes of the call l.
-- DemandLaws (theorems) shows that the definitions' own outcome meets them all; so code meets them whose contract is one equation with that outcome.
use Rattle.std.specs.Prelude.{ℕ, ◌+◌, ◌-◌, ◌*◌, ◌<◌, ◌≤◌, min, false, cond, ◌≡◌, ◌↔◌, ◌≢◌, T, ltb, eqb, length, take, drop, get_or, replicate}
use mathlib.Core.List.{List, [], ◌++◌, map, Memᴰ, Perm}
use Rattle.lists.specs.Lists.{all, below, how_many, joined, member, ascending, Apart, Ordered}
use Rattle.definitions.specs.Kinds.{Tray}
use Rattle.definitions.specs.Placements.{Placement, Compiled, compile}
use Rattle.definitions.specs.Packing.{Packing, within_copies}
use Rattle.definitions.specs.Kept.{Identify, kept}
use Rattle.definitions.specs.Kept.Identify.{None}
use Rattle.definitions.specs.Moves.{Move, Carries, in_reach}
use Rattle.definitions.specs.Orders.{listed, fast_ahead}
use Rattle.definitions.specs.KnuthOrder.{KnuthAhead}
use Rattle.definitions.specs.Answers.{answer}
use Rattle.definitions.specs.Refusals.{Call, sides_of, tray_of, identify_of, is_knuth, rows_of, applies, refusal}
use Rattle.definitions.specs.Outcomes.{Outcome, answers_of, answer_size}
use Rattle.definitions.specs.declared.SolverKind.{SolverKind}
use Rattle.definitions.specs.declared.SolverKind.TheVariants.{Fast, KnuthAlgorithm}

-- ---- Demand 1
-- "Each public entry point takes every input, ends, and lists or gives the first refusal in document 01's table that applies; a refusal leaves the lent
-- buffers untouched." (That it ends is part of being a function here, and of being proved in the code.)
pub record Demand1 (l : Call) (o : Outcome) : Type 0 where
  pub it_applies : o.number ≢ 0 → T (applies l o.number)
  pub none_before : (n : ℕ) → n < o.number → T (applies l n) → ⊥
  pub or_none_applies : o.number ≡ 0 → (n : ℕ) → T (applies l n) → ⊥
  pub writes_none : o.number ≢ 0 → o.written ≡ 0
  pub says_none_follows : o.number ≢ 0 → o.further ≡ false
  pub answers_kept : o.number ≢ 0 → o.answers ≡ l.answers
  pub work_kept : o.number ≢ 0 → o.work ≡ l.work
  pub links_kept : o.number ≢ 0 → o.links ≡ l.links

unfoldable pub MeetsDemand1 : (Call → Outcome) → Type 0
MeetsDemand1 run = (l : Call) → Demand1 l (run l)

-- ---- pages, for demands 2 and 3
-- the call l lends the tray t under the identification i to the engine e, and none of the table's tests applies
pub record Lends (l : Call) (t : Tray) (i : Identify) (e : SolverKind) : Type 0 where
  pub tray : tray_of l ≡ t
  pub identification : identify_of l.config ≡ i
  pub engine : l.config.solver ≡ e
  pub not_refused : refusal l ≡ 0

-- What a call leaves is its stretch of a list of answers: how many were written and whether a further one follows, as whole numbers; the bytes of the
-- entries from skip on, whole answers only, and what lay behind them; the work slice and the links as document 01 has them after an accepted call.
-- capacity is "how many whole answers fit": they do, and one more does not.
pub record Stretch (list : List (List ℕ)) (l : Call) (o : Outcome) : Type 0 where
  pub number : o.number ≡ 0
  pub capacity : ℕ
  pub they_fit : capacity * answer_size (sides_of l.board) ≤ length l.answers
  pub one_more_does_not : length l.answers < (capacity + 1) * answer_size (sides_of l.board)
  pub written : o.written ≡ min capacity (length list - l.skip)
  pub further : T o.further ↔ (l.skip + o.written < length list)
  pub bytes : o.answers ≡ joined (take o.written (drop l.skip list)) ++ drop (o.written * answer_size (sides_of l.board)) l.answers
  pub answers_length : length o.answers ≡ length l.answers
  pub work : o.work ≡ replicate 8192 0 ++ drop 8192 l.work
  pub work_length : length o.work ≡ length l.work
  pub links : o.links ≡ cond (is_knuth l.config.solver) (replicate 32768 0 ++ drop 32768 l.links) l.links
  pub links_length : length o.links ≡ length l.links

-- every page of one list: whatever the skip, the three slices and what they held, and wherever the tray's cells are lent
unfoldable pub Pages : (Call → Outcome) → Tray → Identify → SolverKind → List (List ℕ) → Type 0
Pages run t i e list = (l : Call) → Lends l t i e → Stretch list l (run l)

-- ---- Demand 2
-- Knuth, "Dancing Links": given a matrix of 0s and 1s, an exact cover is a set of rows with exactly one 1 in each column. A row is given by its columns,
-- and a set of rows by their numbers, ascending.
pub record ExactCover (columns : ℕ) (matrix : List (List ℕ)) (rows : List ℕ) : Type 0 where
  pub a_set : T (ascending ltb rows)
  pub of_rows : T (all (λ r. ltb r (length matrix)) rows)
  pub covers : T (all (λ n. eqb (how_many (λ r. member n (get_or matrix r [])) rows) 1) (below columns))

-- the matrix of a tray: a column for each filled board cell, a row for each placement of a kind that has copies; and the placements of a set of rows
unfoldable pub matrix_of : Compiled → List (List ℕ)
matrix_of c = map (λ q. q.cells) (rows_of c)

unfoldable pub nowhere : Placement
nowhere = record { kind = 0; p = 0; j = 0; cells = [] }

unfoldable pub placements_in : Compiled → List ℕ → List Placement
placements_in c rows = map (λ r. get_or (rows_of c) r nowhere) rows

pub record CoverWithin (c : Compiled) (rows : List ℕ) : Type 0 where
  pub cover : ExactCover (length c.cells) (matrix_of c) rows
  pub within : T (within_copies c (placements_in c rows))

unfoldable pub cover_answer : Tray → List ℕ → List ℕ
cover_answer t rows = let c = compile t in answer c (placements_in c rows)

-- "with nothing identified the answers are all the exact covers of Knuth's Dancing Links within the copies, and only those": each once, and no two covers
-- share an answer
pub record Covers (t : Tray) (list : List (List ℕ)) : Type 0 where
  pub all_of_them : (rows : List ℕ) → CoverWithin (compile t) rows → Memᴰ (cover_answer t rows) list
  pub only_those : (a : List ℕ) → Memᴰ a list → (rows : List ℕ) × CoverWithin (compile t) rows × (cover_answer t rows ≡ a)
  pub each_once : Apart list
  pub told_apart : (rows others : List ℕ) → CoverWithin (compile t) rows → CoverWithin (compile t) others → cover_answer t rows ≡ cover_answer t others → rows ≡ others

-- "Knuth's list is Fast's rearranged", under each identification; every page is its stretch of its list; Fast's listed packings ascend in Fast's order,
-- where kind 0 is placed first too; and Knuth's stand in Knuth's order
pub record Demand2 (run : Call → Outcome) (t : Tray) : Type 0 where
  pub fast : Covers t (answers_of t None Fast)
  pub knuth : Covers t (answers_of t None KnuthAlgorithm)
  pub rearranged : (i : Identify) → Perm (answers_of t i Fast) (answers_of t i KnuthAlgorithm)
  pub pages : (i : Identify) (e : SolverKind) → Pages run t i e (answers_of t i e)
  pub fast_order : (i : Identify) → T (ascending (fast_ahead (compile t) i) (listed (compile t) i Fast))
  pub knuth_order : (i : Identify) → Ordered (λ P Q. KnuthAhead (compile t) P Q []) (listed (compile t) i KnuthAlgorithm)

unfoldable pub MeetsDemand2 : (Call → Outcome) → Type 0
MeetsDemand2 run = (l : Call) → refusal l ≡ 0 → Demand2 run (tray_of l)

-- ---- Demand 3
-- P is carried onto Q by some sequence of moves that the identification speaks of
pub record Reached (c : Compiled) (i : Identify) (P Q : List Placement) : Type 0 where
  pub moves : List Move
  pub in_reach : T (in_reach i moves)
  pub carried : Carries c moves P Q

-- the one listed packing that some such sequence carries P onto
pub record StandsFor (c : Compiled) (i : Identify) (L : List (List Placement)) (P : List Placement) : Type 0 where
  pub packing : List Placement
  pub is_listed : Memᴰ packing L
  pub is_reached : Reached c i P packing
  pub is_only : (Q : List Placement) → Memᴰ Q L → Reached c i P Q → Q ≡ packing

-- L is the one list of a tray, an identification and an engine: the packings whose answers, in this order, the pages hold
pub record OneList (run : Call → Outcome) (t : Tray) (i : Identify) (e : SolverKind) (L : List (List Placement)) : Type 0 where
  -- "Only packings, none twice": no answer stands twice, and no two packings share an answer
  pub only_packings : (P : List Placement) → Memᴰ P L → Packing (compile t) P
  pub none_twice : Apart (map (answer (compile t)) L)
  pub answers_differ : (P Q : List Placement) → Packing (compile t) P → Packing (compile t) Q → answer (compile t) P ≡ answer (compile t) Q → P ≡ Q
  -- "a packing is listed exactly if no image of it under an allowed map is a smaller packing"
  pub listed_exactly : (P : List Placement) → Memᴰ P L ↔ (Packing (compile t) P × T (kept (compile t) i P))
  -- "for every SEQUENCE of quarter turns, however long, that brings the board back onto itself, no listed packing is carried onto another"; "mirrored
  -- likewise with mirrorings"
  pub no_two_alike : (ms : List Move) → T (in_reach i ms) → (P Q : List Placement) → Memᴰ P L → Memᴰ Q L → Carries (compile t) ms P Q → P ≡ Q
  -- "for every packing exactly one listed packing is what some such sequence carries it onto"
  pub exactly_one : (P : List Placement) → Packing (compile t) P → StandsFor (compile t) i L P
  -- "with neither, each packing exactly once" (once, by none_twice)
  pub with_neither : i ≡ None → (P : List Placement) → Packing (compile t) P → Memᴰ P L
  -- "Empty exactly when no packing exists"
  pub empty_iff_none : (L ≡ []) ↔ ((P : List Placement) → Packing (compile t) P → ⊥)
  -- an answer has two numbers for each cell of the box, and each fits a byte
  pub answer_length : (P : List Placement) → length (answer (compile t) P) ≡ answer_size t.frame.lent
  pub are_bytes : (P : List Placement) → T (all (λ n. ltb n 256) (answer (compile t) P))
  -- "every page not refused is its stretch of it, whatever skip and buffers"
  pub pages : Pages run t i e (map (answer (compile t)) L)

unfoldable pub MeetsDemand3 : (Call → Outcome) → Type 0
MeetsDemand3 run =
    (l : Call) → refusal l ≡ 0
    → OneList run (tray_of l) (identify_of l.config) l.config.solver (listed (compile (tray_of l)) (identify_of l.config) l.config.solver)
