-- The text for DLX1 is one that DLX1 takes: names that it reads, each item once, and options of items that were named, each at most once, one of them a cell.
-- Assumes nothing.
use Prim.Native.Nat.{ℕ, zero, suc, ◌<◌, ◌≤◌}
use mathlib.Core.Bool.{Bool, true, false, not, ◌&&◌, ◌||◌}
use mathlib.Core.List.Memᴰ
use mathlib.Core.List.{List, [], ◌∷◌, ◌++◌, map, Memᴰ, head-eq_of_cons-eq, tail-eq_of_cons-eq}
use mathlib.Core.Path.{◌≡◌, sym, ◌∙◌, subst}
use mathlib.Core.Logic.{◌⊎◌, inl, inr}
use native.Mathlib.Omega.{arith}
use lib.Dec.{T, ltb, leb, eqb, ltb→lt, lt→ltb, le→leb, leb→le, eqb→eq}
use lib.ListN.{length, get_or}
use Rattle.lists.specs.Lists.{all, any, below, member, same, is_empty, Apart}
use Rattle.lists.proofs.TestLaws.{and_both, decide, and_left, and_right, is_false}
use Rattle.lists.proofs.ListLaws.{all_of, all_at, all_append, all_map, any_of, keep_at, keep_of, apart_append, apart_map, apart_keep}
use Rattle.lists.proofs.SortLaws.{same→eq, same_refl}
use Rattle.lists.proofs.RangeLaws.{below_at, below_of, apart_below}
use Rattle.definitions.specs.Placements.{Placement}
use Rattle.definitions.specs.Files.{is_digit, decimal}
use Rattle.definitions.specs.Dlx1.{cell_item, kind_item, stocked, built_cells}
use Rattle.definitions.specs.Dlx1Covers.{is_among, is_name, parts_names, apart, is_option, TakenByDlx1}
use Rattle.theorems.proofs.DigitLaws.{digits_are, three_digits, decimal_tells}
use Rattle.theorems.proofs.Dlx1ReadingLaws.{the_text, option_words, nothing_behind, primary_read, secondary_read, options_read}

-- ---- items tell their numbers
pub cell_tells : (n m : ℕ) → n < 1000 → m < 1000 → cell_item n ≡ cell_item m → n ≡ m
unfolding cell_item
cell_tells n m h k e = decimal_tells n m h k (tail-eq_of_cons-eq e)

pub kind_tells : (k i : ℕ) → k < 1000 → i < 1000 → kind_item k ≡ kind_item i → k ≡ i
unfolding kind_item
kind_tells k i h l e = decimal_tells k i h l (tail-eq_of_cons-eq e)

pub cell_no_kind : (n k : ℕ) → cell_item n ≡ kind_item k → ⊥
unfolding cell_item kind_item
cell_no_kind n k e = let h : ◌≡◌ {A = ℕ} 98 112 = head-eq_of_cons-eq e in omega arith

-- ---- names
-- no digit parts names
plain_digit : (y : ℕ) → T (is_digit y) → T (not (parts_names y))
unfolding is_digit parts_names
plain_digit y t =
    let a = leb→le 48 y (and_left (leb 48 y) (leb y 57) t) in
    let b = leb→le y 57 (and_right (leb 48 y) (leb y 57) t) in
    neither (eqb y 0) _ (other 0 (omega arith)) (neither (leb 9 y && leb y 13) _ (past (omega arith))
    (neither (eqb y 32) _ (other 32 (omega arith)) (neither (eqb y 58) _ (other 58 (omega arith)) (other 124 (omega arith)))))
  where
    neither : (a b : Bool) → T (not a) → T (not b) → T (not (a || b))
    neither true b s t = absurd s
    neither false b s t = t

    other : (n : ℕ) → (y ≡ n → ⊥) → T (not (eqb y n))
    other n d = subst (λ (b : Bool). T (not b)) (sym (is_false (eqb y n) (λ t. d (eqb→eq y n t)))) tt

    past : 13 < y → T (not (leb 9 y && leb y 13))
    past h = subst (λ (b : Bool). T (not b)) (sym (is_false (leb 9 y && leb y 13) (λ t. let k = leb→le y 13 (and_right (leb 9 y) (leb y 13) t) in omega arith))) tt

named : (x n : ℕ) → T (not (parts_names x)) → n < 1000 → T (is_name (x ∷ decimal n))
unfolding is_name
named x n t h =
    let l = length (x ∷ decimal n) in
    let a = three_digits n h in
    let plain : ℕ → Bool = λ y. not (parts_names y) in
    and_both (leb 1 l) (leb l 8 && all plain (x ∷ decimal n)) (le→leb 1 l (omega arith))
    (and_both (leb l 8) (all plain (x ∷ decimal n)) (le→leb l 8 (omega arith))
    (and_both (plain x) (all plain (decimal n)) t (all_of plain (decimal n) (λ y m. plain_digit y (all_at is_digit (decimal n) (digits_are n) m)))))

pub cell_named : (n : ℕ) → n < 1000 → T (is_name (cell_item n))
unfolding cell_item parts_names
cell_named n h = named 98 n tt h

pub kind_named : (k : ℕ) → k < 1000 → T (is_name (kind_item k))
unfolding kind_item parts_names
kind_named k h = named 112 k tt h

-- ---- words
pub among : (ws : List (List ℕ)) {w : List ℕ} → Memᴰ w ws → T (is_among ws w)
unfolding is_among
among ws {w} m = any_of (same w) ws m (same_refl w)

pub words_apart : (ws : List (List ℕ)) → Apart ws → T (apart ws)
unfolding apart
words_apart [] h = tt
words_apart (w ∷ ws) h = and_both (all (λ v. not (same w v)) ws) (apart ws) (all_of (λ v. not (same w v)) ws (λ v m. go v m (decide (same w v)))) (words_apart ws h.1)
  where
    go : (v : List ℕ) → Memᴰ v ws → T (same w v) ⊎ T (not (same w v)) → T (not (same w v))
    go v m (inl t) = absurd (h.0 (Memᴰ.cast (same→eq w v t) m))
    go v m (inr t) = t

-- ---- the kinds that have copies
pub stocked_at : (copies : List ℕ) {k : ℕ} → Memᴰ k (stocked copies) → (k < length copies) × (0 < get_or copies k 0)
unfolding stocked
stocked_at copies {k} m =
    let r = keep_at (λ i. ltb 0 (get_or copies i 0)) (below (length copies)) m in
    (below_at (length copies) r.0, ltb→lt 0 (get_or copies k 0) r.1)

pub stocked_of : (copies : List ℕ) {k : ℕ} → k < length copies → 0 < get_or copies k 0 → Memᴰ k (stocked copies)
unfolding stocked
stocked_of copies {k} h l = keep_of (λ i. ltb 0 (get_or copies i 0)) (below (length copies)) (below_of (length copies) h) (lt→ltb 0 (get_or copies k 0) l)

stocked_apart : (copies : List ℕ) → Apart (stocked copies)
unfolding stocked
stocked_apart copies = apart_keep (λ i. ltb 0 (get_or copies i 0)) (below (length copies)) (apart_below (length copies))

-- ---- the text over plain values, where each placement is of a kind that has copies and has a cell, each once, and all of them cells that there are
pub record Plain (size : ℕ) (copies order : List ℕ) (rows : List Placement) : Type 0 where
  pub some : 0 < size
  pub few_cells : size ≤ 128
  pub few_kinds : length copies ≤ 16
  pub each_once : Apart order
  pub has_copies : (q : Placement) → Memᴰ q rows → Memᴰ q.kind (stocked copies)
  pub on_board : (q : Placement) → Memᴰ q rows → (n : ℕ) → Memᴰ n (built_cells order q) → n < size
  pub some_cell : (q : Placement) → Memᴰ q rows → (n : ℕ) × Memᴰ n (built_cells order q)

module _ (size : ℕ) (copies order : List ℕ) (rows : List Placement) (h : Plain size copies order rows) where
  abbrev cells : List (List ℕ)
  cells = map cell_item (below size)

  abbrev kinds : List (List ℕ)
  kinds = map kind_item (stocked copies)

  few_stocked : {k : ℕ} → Memᴰ k (stocked copies) → k < 1000
  few_stocked m = let r = (stocked_at copies m).0 in let f = h.few_kinds in omega arith

  few_below : {n : ℕ} → Memᴰ n (below size) → n < 1000
  few_below m = let r = below_at size m in let f = h.few_cells in omega arith

  all_named : T (all is_name (cells ++ kinds))
  all_named =
      subst T (sym (all_append is_name cells kinds))
      (and_both (all is_name cells) (all is_name kinds)
      (subst T (sym (all_map cell_item is_name (below size))) (all_of (λ n. is_name (cell_item n)) (below size) (λ n m. cell_named n (few_below m))))
      (subst T (sym (all_map kind_item is_name (stocked copies))) (all_of (λ k. is_name (kind_item k)) (stocked copies) (λ k m. kind_named k (few_stocked m)))))

  items_apart : Apart (cells ++ kinds)
  items_apart =
      apart_append cells kinds (apart_map cell_item (below size) (apart_below size) (λ n m a b e. cell_tells n m (few_below a) (few_below b) e))
      (apart_map kind_item (stocked copies) (stocked_apart copies) (λ k i a b e. kind_tells k i (few_stocked a) (few_stocked b) e))
      (λ w a b. let r = Memᴰ.of_map cell_item (below size) a in let s = Memᴰ.of_map kind_item (stocked copies) b in cell_no_kind r.0 s.0 (r.2 ∙ sym s.2))

  module _ (q : Placement) (m : Memᴰ q rows) where
    abbrev its : List ℕ
    its = built_cells order q

    cell_in : (n : ℕ) → Memᴰ n its → Memᴰ (cell_item n) cells
    cell_in n k = Memᴰ.map cell_item (below_of size (h.on_board q m n k))

    its_apart : Apart its
    unfolding built_cells
    its_apart = apart_keep (λ n. member n q.cells) order h.each_once

    option_apart : Apart (kind_item q.kind ∷ map cell_item its)
    option_apart = (
      λ k. let r = Memᴰ.of_map cell_item its k in cell_no_kind r.0 q.kind r.2,
      apart_map cell_item its its_apart (λ n i a b e. cell_tells n i (few_below (below_of size (h.on_board q m n a))) (few_below (below_of size (h.on_board q m i b))) e),
    )

    option_taken : T (is_option cells (cells ++ kinds) (kind_item q.kind ∷ map cell_item its))
    unfolding is_option
    option_taken =
        let ws = kind_item q.kind ∷ map cell_item its in
        let r = h.some_cell q m in
        and_both (all (is_among (cells ++ kinds)) ws) (apart ws && any (is_among cells) ws)
        (and_both (is_among (cells ++ kinds) (kind_item q.kind)) (all (is_among (cells ++ kinds)) (map cell_item its))
        (among (cells ++ kinds) (Memᴰ.append_right cells (Memᴰ.map kind_item (h.has_copies q m))))
        (subst T (sym (all_map cell_item (is_among (cells ++ kinds)) its))
        (all_of (λ n. is_among (cells ++ kinds) (cell_item n)) its (λ n k. among (cells ++ kinds) (Memᴰ.append_left kinds (cell_in n k))))))
        (and_both (apart ws) (any (is_among cells) ws) (words_apart ws option_apart)
        (any_of (is_among cells) ws (Memᴰ.tail (Memᴰ.map cell_item r.1)) (among cells (cell_in r.0 r.1))))

  pub text_taken : TakenByDlx1 (the_text size copies order rows h.some)
  text_taken =
      let primary = primary_read size copies order rows h.some in
      let secondary = secondary_read size copies order rows h.some in
      let options = options_read size copies order rows h.some in
      record {
        ended = subst (λ (w : List ℕ). T (is_empty w)) (sym (nothing_behind size copies order rows h.some)) tt;
        some_item = subst (λ (ws : List (List ℕ)). T (not (is_empty ws))) (sym primary) (go size h.some);
        names = subst T (sym (λ i. all is_name (primary i ++ secondary i))) all_named;
        named_once = subst T (sym (λ i. apart (primary i ++ secondary i))) (words_apart (cells ++ kinds) items_apart);
        options = subst T (sym (λ i. all (is_option (primary i) (primary i ++ secondary i)) (options i)))
            (subst T (sym (all_map (option_words size copies order rows h.some) (is_option cells (cells ++ kinds)) rows))
            (all_of (λ q. is_option cells (cells ++ kinds) (option_words size copies order rows h.some q)) rows option_taken));
      }
    where
      go : (n : ℕ) → 0 < n → T (not (is_empty (map cell_item (below n))))
      go zero l = absurd (omega arith)
      go (suc n) l = tt
