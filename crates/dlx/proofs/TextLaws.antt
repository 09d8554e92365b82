-- The text of a row system, line by line: the lines of the rows before one, and its own. Assumes nothing.
use Prim.Native.Nat.{ℕ, ◌+◌, ◌-◌, ◌≤◌}
use mathlib.Core.Bool.{Bool, true, false, cond}
use mathlib.Core.List.{List, [], ◌∷◌, ◌++◌, map, append_assoc, append-nil}
use mathlib.Core.Path.{◌≡◌, refl, sym, ap, ◌∙◌}
use native.Mathlib.Omega.{arith}
use lib.Dec.{ltb}
use lib.ListN.{length, get_or, take, drop, length-append}
use lib.Seq.{take-append_seam}
use Rattle.lists.specs.Lists.{below, cons_if, each, from, joined, keep}
use Rattle.lists.proofs.ListLaws.{each_append, each_map, each_same_in}
use Rattle.lists.proofs.RangeLaws.{below_at, below_next, below_split, get_or_below}
use Rattle.definitions.specs.Dlx1.{item_line, option_line}
use Rattle.definitions.specs.Placements.{Placement}
use Rattle.rows.specs.Charts.{kind_copies}
use Rattle.rows.specs.Rows.{row_at, rows_in}
use Rattle.rows.specs.Systems.{System, system_in, system_over}
use Rattle.rows.specs.Lawful.{Lawful}
use Rattle.rows.specs.declared.Dims.{Dims}
use Rattle.rows.specs.declared.chart.Chart.{Chart}
use Rattle.rows.proofs.ReadyLaws.{row_kind}
use Rattle.definitions.specs.Outcomes.{over_start}
use Rattle.texts.specs.Put.{Put}
use Rattle.texts.proofs.PutLaws.{put_over}
use Rattle.dlx.specs.Texts.{text_by, options_by}

-- what each entry that passes gives, or nothing
joined_kept : {A : Type 0} (p : A → Bool) (f : A → List ℕ) (xs : List A) → joined (map f (keep p xs)) ≡ each xs (λ x. cond (p x) (f x) [])
joined_kept p f [] = refl
joined_kept p f (x ∷ xs) = go (p x) ∙ ap (λ (l : List ℕ). cond (p x) (f x) [] ++ l) (joined_kept p f xs)
  where
    go : (b : Bool) → joined (map f (cons_if b x (keep p xs))) ≡ cond b (f x) [] ++ joined (map f (keep p xs))
    go true = refl
    go false = refl

module _ (d : Dims) (work : List ℕ) (chart : Chart) where
  abbrev s : System
  s = system_in d work chart

  -- the line of row r: nothing where its kind has no copies
  abbrev pub line_at : ℕ → List ℕ
  line_at r = cond (ltb 0 (kind_copies chart.kinds (row_at work r).kind)) (option_line (system_in d work chart).scans (row_at work r)) []

  -- the text up to row n
  unfoldable pub text_to : ℕ → List ℕ
  text_to n = item_line (system_in d work chart).size (system_in d work chart).copies ++ each (below n) line_at

  pub text_none : text_to 0 ≡ item_line (system_in d work chart).size (system_in d work chart).copies
  unfolding text_to
  text_none = append-nil _

  pub text_next : (n : ℕ) → text_to (n + 1) ≡ text_to n ++ line_at n
  unfolding text_to
  text_next n =
      ap (λ (l : List ℕ). item_line s.size s.copies ++ l) (ap (λ (l : List ℕ). each l line_at) (below_next n) ∙ each_append (below n) (n ∷ []) line_at ∙ ap (λ (l : List ℕ). each (below n) line_at ++ l) (append-nil (line_at n)))
      ∙ sym (append_assoc (item_line s.size s.copies) (each (below n) line_at) (line_at n))

  -- a row of a kind with copies has a line, and another has none
  pub next_option : (r : ℕ) → ltb 0 (kind_copies chart.kinds (row_at work r).kind) ≡ true
      → text_to (r + 1) ≡ text_to r ++ option_line (system_in d work chart).scans (row_at work r)
  next_option r e = text_next r ∙ ap (λ (b : Bool). text_to r ++ cond b (option_line s.scans (row_at work r)) []) e

  pub next_none : (r : ℕ) → ltb 0 (kind_copies chart.kinds (row_at work r).kind) ≡ false → text_to (r + 1) ≡ text_to r
  next_none r e = text_next r ∙ ap (λ (b : Bool). text_to r ++ cond b (option_line s.scans (row_at work r)) []) e ∙ append-nil (text_to r)

  pub text_all : Lawful (system_in d work chart) → text_to d.rows ≡ text_by (system_in d work chart)
  unfolding text_to text_by options_by system_in system_over rows_in
  text_all ok =
      let p : Placement → Bool = λ q. ltb 0 (get_or s.copies q.kind 0) in
      ap (λ (l : List ℕ). item_line s.size s.copies ++ l)
      (sym (joined_kept p (option_line s.scans) s.rows ∙ each_map (row_at work) _ (below d.rows)
      ∙ each_same_in _ line_at (below d.rows)
      (λ r m. ap (λ (n : ℕ). cond (ltb 0 n) (option_line s.scans (row_at work r)) [])
      (get_or_below (kind_copies chart.kinds) 0 d.kinds (row_at work r).kind (row_kind d work chart ok r (below_at d.rows m))))))

  -- the text up to a row is no longer than that up to a later one
  pub text_grows : (n m : ℕ) → n ≤ m → length (text_to n) ≤ length (text_to m)
  unfolding text_to
  text_grows n m h =
      let e : each (below m) line_at ≡ each (below n) line_at ++ each (from n (m - n)) line_at
      = ap (λ (l : List ℕ). each l line_at) (below_split n m h) ∙ each_append (below n) (from n (m - n)) line_at in
      let a = length-append (item_line s.size s.copies) (each (below n) line_at) in
      let b = length-append (item_line s.size s.copies) (each (below m) line_at) in
      let f = ap (λ (l : List ℕ). length l) e ∙ length-append (each (below n) line_at) (each (from n (m - n)) line_at) in
      omega arith

  -- so it has room where the whole text has
  pub text_within : Lawful (system_in d work chart) → (n : ℕ) → n ≤ d.rows → length (text_to n) ≤ length (text_by (system_in d work chart))
  text_within ok n h = let e = ap (λ (l : List ℕ). length l) (text_all ok) in let g = text_grows n d.rows h in omega arith

-- ---- bytes put at the start of a buffer: they stand there, and what was lent lies behind
pub put_at_start : {old text new : List ℕ} {n : ℕ} → Put old 0 text new n → new ≡ over_start text old
unfolding over_start
put_at_start {old} {text} p = p.bytes ∙ put_over old text 0 ∙ ap (λ (k : ℕ). text ++ drop k old) (let z : 0 + length text ≡ length text = omega arith in z)

pub put_taken : {old text new : List ℕ} {n : ℕ} → Put old 0 text new n → take n new ≡ text
unfolding over_start
put_taken {old} {text} {new} {n} p =
    let z : n ≡ length text = p.end ∙ omega arith in
    ap (λ (k : ℕ). take k new) z ∙ ap (take (length text)) (put_at_start p) ∙ take-append_seam text (drop (length text) old)
