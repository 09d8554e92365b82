-- The line of an entry, put part by part, and lines put one after the other. Assumes nothing.
use Rattle.std.proofs.Common.{◌≡◌, ℕ, ◌+◌, ◌*◌, ◌/◌, ◌<◌, ◌≤◌, List, [], ◌∷◌, ◌++◌, map, length, take, drop, set, sym, ap, ◌∙◌, subst, append_assoc, arith}
use mathlib.Core.List.{append-nil}
use Rattle.std.proofs.Math.ListN.{length-append, length-drop}
use Rattle.std.proofs.Math.Seq.{take_at, drop_at, drop-drop}
use Rattle.lists.specs.Lists.{below, each}
use Rattle.lists.proofs.ListLaws.{each_append}
use Rattle.lists.proofs.RangeLaws.{below_next}
use Rattle.definitions.specs.Grid.{Grid}
use Rattle.definitions.specs.Texts.{text}
use Rattle.definitions.specs.Files.{decimal}
use Rattle.definitions.specs.CatalogueCalls.{piece_line, piece_shown}
use Rattle.texts.specs.Put.{Put}
use Rattle.texts.proofs.PutLaws.{put_then, put_byte}
use Rattle.catalogue_output.specs.Entries.{entry_number, first_lines, line_number}

regroup : (w a b c d : List ℕ) → ((((w ++ (a ++ (9 ∷ []))) ++ (b ++ (9 ∷ []))) ++ (c ++ (9 ∷ []))) ++ d) ++ (10 ∷ []) ≡ (w ++ a ++ 9 ∷ b ++ 9 ∷ c ++ 9 ∷ d) ++ 10 ∷ []
regroup w a b c d = simp append_assoc

module _ (g : Grid) {old l₁ l₂ l₃ l₄ l₅ : List ℕ} {at m₁ m₂ m₃ m₄ m₅ : ℕ} where
  pub put_parts : Put old at (text "piece\t1\t") l₁ m₁ → Put l₁ m₁ (decimal g.sides.a ++ 9 ∷ []) l₂ m₂ → Put l₂ m₂ (decimal g.sides.b ++ 9 ∷ []) l₃ m₃
      → Put l₃ m₃ (decimal g.sides.c ++ 9 ∷ []) l₄ m₄ → Put l₄ m₄ (map (λ n. n + 48) g.cells) l₅ m₅ → m₅ < length old
      → Put old at (piece_line g) (set l₅ m₅ 10) (m₅ + 1)
  unfolding piece_shown
  put_parts p q r s t h =
      let b = q.end in
      let c = r.end in
      let d = s.end in
      let e = t.end in
      subst (λ (l : List ℕ). Put old at l (set l₅ m₅ 10) (m₅ + 1))
      (regroup (text "piece\t1\t") (decimal g.sides.a) (decimal g.sides.b) (decimal g.sides.c) (map (λ n. n + 48) g.cells))
      (put_byte 10 (put_then (put_then (put_then (put_then p q (omega arith)) r (omega arith)) s (omega arith)) t (omega arith)) h)

-- a chunk of entries
module _ (entries entry rest : List ℕ) (n : ℕ) (here : drop (n * 21) entries ≡ entry ++ rest) (long : length entry ≡ 21) where
  pub chunk_is : entry ≡ entry_number entries n
  unfolding entry_number
  chunk_is = sym (ap (take 21) here ∙ take_at entry rest 21 long)

  pub chunk_inside : n < length entries / 21
  chunk_inside =
      let a = sym (length-drop (n * 21) entries) ∙ ap length here ∙ length-append entry rest in
      omega arith

  pub chunk_behind : rest ≡ drop ((n + 1) * 21) entries
  chunk_behind =
      let e : n * 21 + 21 ≡ (n + 1) * 21 = omega arith in
      sym (ap (drop 21) here ∙ drop_at entry rest 21 long) ∙ drop-drop 21 (n * 21) entries ∙ ap (λ (k : ℕ). drop k entries) e

-- one line more
pub put_more : (entries : List ℕ) (n : ℕ) {old mid new : List ℕ} {at m r : ℕ} → Put old at (first_lines entries n) mid m → Put mid m (line_number entries n) new r
    → r ≤ length old → Put old at (first_lines entries (n + 1)) new r
put_more entries n {old} {mid} {new} {at} {m} {r} p q h =
    let e = ap (λ (l : List ℕ). each l (line_number entries)) (below_next n) ∙ each_append (below n) (n ∷ []) (line_number entries)
    ∙ ap (λ (l : List ℕ). first_lines entries n ++ l) (append-nil (line_number entries n)) in
    subst (λ (l : List ℕ). Put old at l new r) (sym e) (put_then p q h)
