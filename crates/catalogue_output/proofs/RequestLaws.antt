-- A text is a request where it is one line and that line asks. Assumes nothing.
use Rattle.std.proofs.Common.{◌≡◌, ℕ, suc, ◌<◌, Bool, true, false, cond, ◌&&◌, eqb, List, [], ◌∷◌, length, refl, ap, ◌∙◌, arith}
use borrow.Author.Tests.{ne_eqb}
use Rattle.lists.specs.Lists.{is_empty}
use Rattle.lists.proofs.TestLaws.{and_no, not_both}
use Rattle.definitions.specs.CatalogueCalls.{asks_cells, cells_asked, is_request}
use Rattle.definitions.specs.Files.{field, last_of, lines_of, number_in, on_first, parts, without_last}
use Rattle.files.specs.Lines.{FirstLine, NoLine}

pub unended : (text : List ℕ) → NoLine text → is_request text ≡ false
unfolding is_request
unended text n = rw n.lines (and_no (is_empty (last_of (parts 10 text))))

parts_exist : (b : ℕ) (xs : List ℕ) → 0 < length (parts b xs)
parts_exist b [] = omega arith
parts_exist b (x ∷ xs) = go (eqb x b) (parts b xs)
  where
    go : (t : Bool) (ws : List (List ℕ)) → 0 < length (cond t ([] ∷ ws) (on_first x ws))
    go true ws = omega arith
    go false [] = omega arith
    go false (w ∷ ws) = omega arith

-- a text that is not empty has a line or a last part
something_left : (b : ℕ) (xs : List ℕ) → 0 < length xs → is_empty (last_of (parts b xs)) && eqb (suc (length (without_last (parts b xs)))) 1 ≡ false
something_left b [] h = absurd (omega arith)
something_left b (x ∷ xs) h = go (eqb x b) (parts b xs) (parts_exist b xs)
  where
    more : (ws : List (List ℕ)) (w : List ℕ) (vs : List (List ℕ)) → is_empty (last_of ws) && eqb (suc (length (w ∷ vs))) 1 ≡ false
    more ws w vs = ap (λ (t : Bool). is_empty (last_of ws) && t) (ne_eqb (suc (suc (length vs))) 1 (λ e. omega arith)) ∙ and_no (is_empty (last_of ws))

    go : (t : Bool) (ws : List (List ℕ)) → 0 < length ws
        → is_empty (last_of (cond t ([] ∷ ws) (on_first x ws))) && eqb (suc (length (without_last (cond t ([] ∷ ws) (on_first x ws))))) 1 ≡ false
    go true [] h = absurd (omega arith)
    go true (w ∷ ws) h = more (w ∷ ws) [] (without_last (w ∷ ws))
    go false [] h = absurd (omega arith)
    go false (w ∷ []) h = refl
    go false (w ∷ v ∷ ws) h = more (v ∷ ws) (x ∷ w) (without_last (v ∷ ws))

something_left_asks : (text : List ℕ) (asks : Bool) → 0 < length text
    → is_empty (last_of (parts 10 text)) && (eqb (suc (length (lines_of text))) 1 && asks) ≡ false
unfolding lines_of
something_left_asks text asks h = go (is_empty (last_of (parts 10 text))) (eqb (suc (length (lines_of text))) 1) (something_left 10 text h)
  where
    go : (a b : Bool) → a && b ≡ false → a && (b && asks) ≡ false
    go true true e = absurd (not_both true refl e)
    go true false e = refl
    go false b e = refl

nothing_left : (text : List ℕ) (asks : Bool) → length text ≡ 0 → is_empty (last_of (parts 10 text)) && (eqb (suc (length (lines_of text))) 1 && asks) ≡ asks
unfolding lines_of
nothing_left [] asks e = refl
nothing_left (x ∷ xs) asks e = absurd (omega arith)

-- a text with an ended line
module _ {text line rest : List ℕ} (s : FirstLine text line rest) where
  by_first : is_request text ≡ is_empty (last_of (parts 10 rest)) && (eqb (suc (length (lines_of rest))) 1 && asks_cells line)
  unfolding is_request
  by_first = rw (s.left, s.lines)

  pub longer : 0 < length rest → is_request text ≡ false
  longer h = by_first ∙ something_left_asks rest (asks_cells line) h

  pub alone : length rest ≡ 0 → is_request text ≡ asks_cells line
  alone e = by_first ∙ nothing_left rest (asks_cells line) e

  pub asked_is : cells_asked text ≡ number_in (field line 1)
  unfolding cells_asked
  asked_is = rw s.lines
