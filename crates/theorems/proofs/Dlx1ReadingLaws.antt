-- The text for DLX1, read: its items are the cells and the kinds that have copies, and its options are the placements' kinds and cells. Assumes nothing.
use Prim.Native.Nat.{ℕ, zero, suc, ◌+◌, ◌<◌}
use mathlib.Core.Bool.{Bool, true, cond, not, ◌&&◌}
use mathlib.Core.List.{List, [], ◌∷◌, ◌++◌, map, map-map, append-nil, append_assoc}
use mathlib.Core.Path.{◌≡◌, refl, sym, ap, ◌∙◌, subst}
use native.Mathlib.Numerals.{add-one}
use native.Mathlib.Omega.{arith}
use borrow.Author.Tests.{eq-eqb}
use lib.Dec.{T, eqb}
use lib.ListN.{length, take, drop, get_or}
use lib.Seq.{take_at}
use Rattle.lists.specs.Lists.{all, before, joined, below, is_empty, same}
use Rattle.lists.proofs.TestLaws.{and_left, and_right, and_both, not_T}
use Rattle.lists.proofs.ListLaws.{all_append, all_map, all_of, map_same}
use Rattle.definitions.specs.Placements.{Placement, Compiled}
use Rattle.definitions.specs.Packing.{limits}
use Rattle.definitions.specs.Refusals.{rows_of}
use Rattle.definitions.specs.Files.{is_digit, decimal, on_first, parts, without_last, last_of, lines_of}
use Rattle.definitions.specs.Dlx1.{cell_item, kind_item, spaced, line, stocked, barred, item_line, boxed, built_cells, option_line, dlx1_text}
use Rattle.definitions.specs.Dlx1Covers.{items_in, is_bar, first_items, primary_in, secondary_in, options_in}
use Rattle.theorems.proofs.DigitLaws.{no_digit}

-- ---- the parts of words that do not have the byte between them
abbrev pub without : ℕ → List ℕ → Bool
without b w = all (λ x. not (eqb x b)) w

pub parts_word : (b : ℕ) (w rest : List ℕ) → T (without b w) → parts b (w ++ b ∷ rest) ≡ w ∷ parts b rest
parts_word b [] rest t = ap (λ (s : Bool). cond s ([] ∷ parts b rest) (on_first b (parts b rest))) (eq-eqb b b refl)
parts_word b (x ∷ w) rest t =
    ap (λ (s : Bool). cond s ([] ∷ parts b (w ++ b ∷ rest)) (on_first x (parts b (w ++ b ∷ rest)))) (not_T (eqb x b) (and_left (not (eqb x b)) (without b w) t))
    ∙ ap (on_first x) (parts_word b w rest (and_right (not (eqb x b)) (without b w) t))

pub parts_alone : (b : ℕ) (w : List ℕ) → T (without b w) → parts b w ≡ w ∷ []
parts_alone b [] t = refl
parts_alone b (x ∷ w) t =
    ap (λ (s : Bool). cond s ([] ∷ parts b w) (on_first x (parts b w))) (not_T (eqb x b) (and_left (not (eqb x b)) (without b w) t))
    ∙ ap (on_first x) (parts_alone b w (and_right (not (eqb x b)) (without b w) t))

-- words with the byte between them, and words each with the byte behind it
pub parts_between : (b : ℕ) (w : List ℕ) (ws : List (List ℕ)) → T (all (without b) (w ∷ ws)) → parts b (w ++ joined (map (λ v. b ∷ v) ws)) ≡ w ∷ ws
parts_between b w [] t = ap (parts b) (append-nil w) ∙ parts_alone b w (and_left (without b w) true t)
parts_between b w (v ∷ ws) t =
    parts_word b w (v ++ joined (map (λ u. b ∷ u) ws)) (and_left (without b w) (all (without b) (v ∷ ws)) t)
    ∙ ap (λ (us : List (List ℕ)). w ∷ us) (parts_between b v ws (and_right (without b w) (all (without b) (v ∷ ws)) t))

pub parts_behind : (b : ℕ) (ws : List (List ℕ)) → T (all (without b) ws) → parts b (joined (map (λ w. w ++ (b ∷ [])) ws)) ≡ ws ++ ([] ∷ [])
parts_behind b [] t = refl
parts_behind b (w ∷ ws) t =
    ap (parts b) (append_assoc w (b ∷ []) (joined (map (λ v. v ++ (b ∷ [])) ws)))
    ∙ parts_word b w (joined (map (λ v. v ++ (b ∷ [])) ws)) (and_left (without b w) (all (without b) ws) t)
    ∙ ap (λ (us : List (List ℕ)). w ∷ us) (parts_behind b ws (and_right (without b w) (all (without b) ws) t))

pub all_but_last : (ws : List (List ℕ)) (w : List ℕ) → without_last (ws ++ (w ∷ [])) ≡ ws
all_but_last [] w = refl
all_but_last (v ∷ []) w = refl
all_but_last (v ∷ u ∷ us) w = ap (λ (l : List (List ℕ)). v ∷ l) (all_but_last (u ∷ us) w)

pub the_last : (ws : List (List ℕ)) (w : List ℕ) → last_of (ws ++ (w ∷ [])) ≡ w
the_last [] w = refl
the_last (v ∷ []) w = refl
the_last (v ∷ u ∷ us) w = the_last (u ∷ us) w

-- ---- an item is its letter and digits, so it has no byte that is neither
pub cell_without : (b n : ℕ) → T (not (eqb 98 b)) → T (not (is_digit b)) → T (without b (cell_item n))
unfolding cell_item
cell_without b n t u = and_both (not (eqb 98 b)) (without b (decimal n)) t (no_digit b n u)

pub kind_without : (b k : ℕ) → T (not (eqb 112 b)) → T (not (is_digit b)) → T (without b (kind_item k))
unfolding kind_item
kind_without b k t u = and_both (not (eqb 112 b)) (without b (decimal k)) t (no_digit b k u)

cells_without : (b : ℕ) (ns : List ℕ) → T (not (eqb 98 b)) → T (not (is_digit b)) → T (all (without b) (map cell_item ns))
cells_without b ns t u = subst T (sym (all_map cell_item (without b) ns)) (all_of (λ n. without b (cell_item n)) ns (λ n m. cell_without b n t u))

kinds_without : (b : ℕ) (ks : List ℕ) → T (not (eqb 112 b)) → T (not (is_digit b)) → T (all (without b) (map kind_item ks))
kinds_without b ks t u = subst T (sym (all_map kind_item (without b) ks)) (all_of (λ k. without b (kind_item k)) ks (λ k m. kind_without b k t u))

barred_without : (b : ℕ) (ws : List (List ℕ)) → T (not (eqb 124 b)) → T (all (without b) ws) → T (all (without b) (barred ws))
barred_without b [] t u = tt
barred_without b (w ∷ ws) t u = and_both (without b (124 ∷ [])) (all (without b) (w ∷ ws)) (and_both (not (eqb 124 b)) true t tt) u

-- words with a byte between them have another byte only where one of the words has it
pub parted_without : (s b : ℕ) (w : List ℕ) (ws : List (List ℕ)) → T (not (eqb s b)) → T (all (without b) (w ∷ ws)) → T (without b (w ++ joined (map (λ v. s ∷ v) ws)))
parted_without s b w [] t u = subst (λ (l : List ℕ). T (without b l)) (sym (append-nil w)) (and_left (without b w) true u)
parted_without s b w (v ∷ ws) t u =
    subst T (sym (all_append (λ x. not (eqb x b)) w (s ∷ (v ++ joined (map (λ v. s ∷ v) ws)))))
    (and_both (without b w) (without b (s ∷ (v ++ joined (map (λ v. s ∷ v) ws)))) (and_left (without b w) (all (without b) (v ∷ ws)) u)
    (and_both (not (eqb s b)) (without b (v ++ joined (map (λ v. s ∷ v) ws))) t (parted_without s b v ws t (and_right (without b w) (all (without b) (v ∷ ws)) u))))

spaced_without : (b : ℕ) (ws : List (List ℕ)) → T (not (eqb 32 b)) → T (all (without b) ws) → T (without b (spaced ws))
spaced_without b [] t u = tt
spaced_without b (w ∷ ws) t u = parted_without 32 b w ws t u

-- ---- the first line, up to the bar and behind it
pub before_bar : (ws ks : List (List ℕ)) → T (all (without 124) ws) → before is_bar (ws ++ barred ks) ≡ length ws
unfolding is_bar
before_bar [] [] t = refl
before_bar [] (k ∷ ks) t = refl
before_bar ([] ∷ ws) ks t = ap suc (before_bar ws ks t)
before_bar ((x ∷ w) ∷ ws) ks t =
    ap {B = ℕ} (λ (s : Bool). cond (s && same w []) 0 (suc (before is_bar (ws ++ barred ks)))) (not_T (eqb x 124) (and_left (not (eqb x 124)) (without 124 w) (and_left (without 124 (x ∷ w)) (all (without 124) ws) t)))
    ∙ ap suc (before_bar ws ks (and_right (without 124 (x ∷ w)) (all (without 124) ws) t))

behind_bar : (ws ks : List (List ℕ)) (n : ℕ) → length ws ≡ n → drop (n + 1) (ws ++ barred ks) ≡ ks
behind_bar ws ks n e = rw add-one (go ws ks n e)
  where
    go : (vs us : List (List ℕ)) (m : ℕ) → length vs ≡ m → drop (suc m) (vs ++ barred us) ≡ us
    go [] [] m e = refl
    go [] (u ∷ us) zero e = refl
    go [] (u ∷ us) (suc m) e = absurd (omega arith)
    go (v ∷ vs) us zero e = absurd (omega arith)
    go (v ∷ vs) us (suc m) e = go vs us m (omega arith)

-- ---- the text, over plain values: so many cells, the copies of each kind, the cells in the order of the box, and the placements
module _ (size : ℕ) (copies order : List ℕ) (rows : List Placement) (some : 0 < size) where
  abbrev pub the_text : List ℕ
  the_text = item_line size copies ++ joined (map (option_line order) rows)

  abbrev item_words : List (List ℕ)
  item_words = map cell_item (below size) ++ barred (map kind_item (stocked copies))

  abbrev pub option_words : Placement → List (List ℕ)
  option_words q = kind_item q.kind ∷ map cell_item (built_cells order q)

  abbrev its_lines : List (List ℕ)
  its_lines = spaced item_words ∷ map (λ q. spaced (option_words q)) rows

  as_lines : the_text ≡ joined (map (λ w. w ++ (10 ∷ [])) its_lines)
  unfolding item_line option_line line
  as_lines = ap (λ (ls : List (List ℕ)). line item_words ++ joined ls) (sym (map-map (λ w. w ++ (10 ∷ [])) (λ q. spaced (option_words q)) rows))

  items_without : (b : ℕ) → T (not (eqb 98 b)) → T (not (eqb 112 b)) → T (not (eqb 124 b)) → T (not (is_digit b)) → T (all (without b) item_words)
  items_without b s t u v =
      subst T (sym (all_append (without b) (map cell_item (below size)) (barred (map kind_item (stocked copies)))))
      (and_both (all (without b) (map cell_item (below size))) (all (without b) (barred (map kind_item (stocked copies)))) (cells_without b (below size) s v)
      (barred_without b (map kind_item (stocked copies)) u (kinds_without b (stocked copies) t v)))

  option_without : (b : ℕ) → T (not (eqb 98 b)) → T (not (eqb 112 b)) → T (not (is_digit b)) → (q : Placement) → T (all (without b) (option_words q))
  option_without b s t v q =
      and_both (without b (kind_item q.kind)) (all (without b) (map cell_item (built_cells order q))) (kind_without b q.kind t v) (cells_without b (built_cells order q) s v)

  lines_without : T (all (without 10) its_lines)
  unfolding is_digit
  lines_without =
      and_both (without 10 (spaced item_words)) (all (without 10) (map (λ q. spaced (option_words q)) rows)) (spaced_without 10 item_words tt (items_without 10 tt tt tt tt))
      (subst T (sym (all_map (λ q. spaced (option_words q)) (without 10) rows))
      (all_of (λ q. without 10 (spaced (option_words q))) rows (λ q m. spaced_without 10 (option_words q) tt (option_without 10 tt tt tt q))))

  parts_are : parts 10 the_text ≡ its_lines ++ ([] ∷ [])
  parts_are = ap (parts 10) as_lines ∙ parts_behind 10 its_lines lines_without

  pub nothing_behind : last_of (parts 10 the_text) ≡ []
  nothing_behind = ap last_of parts_are ∙ the_last its_lines []

  pub lines_are : lines_of the_text ≡ spaced item_words ∷ map (λ q. spaced (option_words q)) rows
  unfolding lines_of
  lines_are = ap without_last parts_are ∙ all_but_last its_lines []

  items_back : (ws : List (List ℕ)) → T (not (is_empty ws)) → T (all (without 32) ws) → items_in (spaced ws) ≡ ws
  unfolding items_in
  items_back [] s t = absurd s
  items_back (w ∷ ws) s t = parts_between 32 w ws t

  some-items : T (not (is_empty item_words))
  some-items = go size some
    where
      go : (n : ℕ) → 0 < n → T (not (is_empty (map cell_item (below n) ++ barred (map kind_item (stocked copies)))))
      go zero h = absurd (omega arith)
      go (suc n) h = tt

  pub first-items : first_items the_text ≡ item_words
  unfolding first_items is_digit
  first-items = ap (λ (ls : List (List ℕ)). items_in (get_or ls 0 [])) lines_are ∙ items_back item_words some-items (items_without 32 tt tt tt tt)

  bar-at : before is_bar item_words ≡ length (map cell_item (below size))
  unfolding is_digit
  bar-at = before_bar (map cell_item (below size)) (map kind_item (stocked copies)) (cells_without 124 (below size) tt tt)

  pub primary_read : primary_in the_text ≡ map cell_item (below size)
  unfolding primary_in
  primary_read =
      ap (λ (ws : List (List ℕ)). take (before is_bar ws) ws) first-items
      ∙ take_at (map cell_item (below size)) (barred (map kind_item (stocked copies))) (before is_bar item_words) (sym bar-at)

  pub secondary_read : secondary_in the_text ≡ map kind_item (stocked copies)
  unfolding secondary_in
  secondary_read =
      ap (λ (ws : List (List ℕ)). drop (before is_bar ws + 1) ws) first-items
      ∙ behind_bar (map cell_item (below size)) (map kind_item (stocked copies)) (before is_bar item_words) (sym bar-at)

  pub options_read : options_in the_text ≡ map option_words rows
  unfolding options_in is_digit
  options_read =
      ap (λ (ls : List (List ℕ)). map items_in (drop 1 ls)) lines_are
      ∙ map-map items_in (λ q. spaced (option_words q)) rows
      ∙ map_same (λ q. items_in (spaced (option_words q))) option_words rows (λ q m. items_back (option_words q) tt (option_without 32 tt tt tt q))

-- ---- the text of a tray with a filled cell
module _ (c : Compiled) (some : 0 < length c.cells) where
  pub tray_behind : last_of (parts 10 (dlx1_text c)) ≡ []
  unfolding dlx1_text
  tray_behind = nothing_behind (length c.cells) (limits c) (boxed c) (rows_of c) some

  pub tray_items : first_items (dlx1_text c) ≡ map cell_item (below (length c.cells)) ++ barred (map kind_item (stocked (limits c)))
  unfolding dlx1_text
  tray_items = first-items (length c.cells) (limits c) (boxed c) (rows_of c) some

  pub tray_primary : primary_in (dlx1_text c) ≡ map cell_item (below (length c.cells))
  unfolding dlx1_text
  tray_primary = primary_read (length c.cells) (limits c) (boxed c) (rows_of c) some

  pub tray_secondary : secondary_in (dlx1_text c) ≡ map kind_item (stocked (limits c))
  unfolding dlx1_text
  tray_secondary = secondary_read (length c.cells) (limits c) (boxed c) (rows_of c) some

  pub tray_options : options_in (dlx1_text c) ≡ map (λ q. kind_item q.kind ∷ map cell_item (built_cells (boxed c) q)) (rows_of c)
  unfolding dlx1_text
  tray_options = options_read (length c.cells) (limits c) (boxed c) (rows_of c) some
