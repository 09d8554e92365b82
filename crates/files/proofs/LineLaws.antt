-- The first line of a text, and the lines behind it. Assumes nothing.
use Rattle.std.proofs.Common.{◌≡◌, ℕ, ◌+◌, ◌-◌, ◌<◌, ◌≤◌, Bool, true, false, cond, ◌&&◌, Option, Some, None, List, [], ◌∷◌, eqb, ltb, length, take, drop, refl, sym, ap, ◌∙◌, arith}
use borrow.Author.Tests.{ltb-true, ltb-false}
use Rattle.std.specs.List.{position_or_len}
use Rattle.std.proofs.lemmas.List.Sums.{fails_before_first}
use Rattle.std.proofs.lemmas.List.Splits.{slice_split_first, slice_split_none, length-slice_split}
use Rattle.std.proofs.Math.ListN.{length-drop}
use Rattle.std.proofs.Math.Seq.{length-take-le, take_all}
use Rattle.lists.specs.Lists.{all, is_empty}
use Rattle.lists.proofs.TestLaws.{and_no}
use Rattle.definitions.specs.Files.{is_piece, last_of, lines_of, parts, without_last}
use Rattle.files.specs.Lines.{FirstLine, NoLine, all_pieces}
use Rattle.files.proofs.PartLaws.{parts_are}

-- ---- the first line
abbrev pub ends : ℕ → Bool
ends x = eqb x 10

abbrev pub place : List ℕ → ℕ
place text = position_or_len ends text

parts_exist : (xs : List ℕ) → 0 < length (parts 10 xs)
parts_exist xs = let e = ap length (parts_are 10 xs) in omega (arith, length-slice_split ends xs)

without_more : (w : List ℕ) (ws : List (List ℕ)) → 0 < length ws → without_last (w ∷ ws) ≡ w ∷ without_last ws
without_more w [] h = absurd (omega arith)
without_more w (v ∷ ws) h = refl

last_more : (w : List ℕ) (ws : List (List ℕ)) → 0 < length ws → last_of (w ∷ ws) ≡ last_of ws
last_more w [] h = absurd (omega arith)
last_more w (v ∷ ws) h = refl

module _ (text : List ℕ) where
  found : place text < length text → FirstLine text (take (place text) text) (drop (place text + 1) text)
  unfolding lines_of
  found h =
      let rest = drop (place text + 1) text in
      let e = sym (parts_are 10 text) ∙ slice_split_first ends text 0 h ∙ ap (λ (ws : List (List ℕ)). take (place text) text ∷ ws) (parts_are 10 rest) in
      record {
        lines = ap without_last e ∙ without_more (take (place text) text) (parts 10 rest) (parts_exist rest);
        left = ap last_of e ∙ last_more (take (place text) text) (parts 10 rest) (parts_exist rest);
        shorter = let a = length-take-le (place text) text (omega arith) in let b = length-drop (place text + 1) text in omega arith;
      }

  nowhere : length text ≤ place text → NoLine text
  unfolding lines_of
  nowhere h =
      let e = sym (parts_are 10 text) ∙ slice_split_none ends text (λ k d l. fails_before_first ends text k d (omega arith)) in
      record { lines = ap without_last e; left = ap last_of e }

  abbrev pub At : Option ℕ → Type 0
  At r = r ≡ cond (ltb (place text) (length text)) (Some (place text)) None

  pub first_line : (end : ℕ) → At (Some end) → FirstLine text (take end text) (take (length text - (end + 1)) (drop (end + 1) text))
  first_line end e = rw (take_all (length text - (end + 1)) (drop (end + 1) text) (let l = length-drop (end + 1) text in omega arith)) (go (ltb (place text) (length text)) refl e)
    where
      go : (t : Bool) → ltb (place text) (length text) ≡ t → Some end ≡ cond t (Some (place text)) None → FirstLine text (take end text) (drop (end + 1) text)
      go true f g = let s : end ≡ place text = cc in rw s (found (ltb-true (place text) (length text) f))
      go false f g = cc

  pub no_line : At None → NoLine text
  no_line e = go (ltb (place text) (length text)) refl e
    where
      go : (t : Bool) → ltb (place text) (length text) ≡ t → None ≡ cond t (Some (place text)) None → NoLine text
      go true f g = cc
      go false f g = nowhere (ltb-false (place text) (length text) f)

-- ---- lines of pieces
module _ {text line rest : List ℕ} (s : FirstLine text line rest) where
  whole : all_pieces text ≡ is_empty (last_of (parts 10 rest)) && (is_piece line && all is_piece (lines_of rest))
  whole = rw (s.left, s.lines)

  swap : (a b d : Bool) → a && (b && d) ≡ b && (a && d)
  swap true b d = refl
  swap false true d = refl
  swap false false d = refl

  pub piece_stops : is_piece line ≡ false → all_pieces text ≡ false
  piece_stops e = whole ∙ ap (λ (t : Bool). is_empty (last_of (parts 10 rest)) && (t && all is_piece (lines_of rest))) e ∙ and_no (is_empty (last_of (parts 10 rest)))

  pub piece_passes : is_piece line ≡ true → all_pieces rest ≡ all_pieces text
  piece_passes e = sym (whole ∙ ap (λ (t : Bool). is_empty (last_of (parts 10 rest)) && (t && all is_piece (lines_of rest))) e)

  pub piece_is : all_pieces text ≡ true → is_piece line ≡ true
  piece_is e = go (is_piece line) refl
    where
      go : (t : Bool) → is_piece line ≡ t → t ≡ true
      go true f = refl
      go false f = let g = piece_stops f in cc
