-- Moved cells: a mask that takes up the images of its cells one by one, and a row's cells after a map, sorted or as a mask. Assumes nothing.
use Prim.Native.Nat.{ℕ, zero, suc, ◌+◌, ◌-◌, ◌≤◌, ◌<◌}
use mathlib.Core.Bool.{Bool, true, false, cond, ◌||◌}
use mathlib.Core.List.{List, [], ◌∷◌, ◌++◌, map, map-append, map-map, Memᴰ}
use mathlib.Core.Logic.{⊎_elim}
use mathlib.Core.Path.{◌≡◌, refl, sym, ap, ap₂, ◌∙◌, subst, fun_ext}
use native.Mathlib.Numerals.{add-one}
use native.Mathlib.Omega.{arith}
use lib.Dec.{T, eqb, ltb, ltb→lt, lt→ltb}
use lib.ListN.{length, get_or}
use Rattle.lists.specs.Lists.{cons_if, all, keep, from, below, member, sort}
use Rattle.lists.proofs.TestLaws.{and_both, or_assoc, ltb_trans, ltb_irrefl, ltb_tied, lt_or_ge}
use Rattle.lists.proofs.ListLaws.{all_at, keep_at, keep_of, keep_same, keep_append, keep_map, map_same}
use Rattle.lists.proofs.SortLaws.{keep_ascending, ascending_unique, sort_ascending, sort_at, sort_of}
use Rattle.lists.proofs.RangeLaws.{from_ascending, from_shift, below_at, below_of, below_split, get_or_of, member_at, member_of}
use Rattle.definitions.specs.Placements.{Placement}
use Rattle.masks.specs.Masks.{hit, hit2, has, nothing, only, either}
use Rattle.masks.proofs.MaskLaws.{hit2_low, hit2_high}
use Rattle.masks.specs.declared.Mask.{Mask}
use Rattle.rows.specs.Rows.{cells_of, mask_at, row_at}
use Rattle.rows.specs.Systems.{kind_by, cells_by, moved_by, row_with}
use Rattle.rows.specs.Lawful.{Permutes}

-- ---- the kind after a map
pub kind_odd : (f : ℕ → ℕ) (n k : ℕ) (odd : Bool) → k < n → odd ≡ true → f k ≡ kind_by (map f (below n)) odd k
unfolding kind_by
kind_odd f n k odd h e =
    let z : 0 + k ≡ k = omega arith in
    sym (ap (λ (b : Bool). cond b (get_or (map f (below n)) k (length (map f (below n)))) k) e ∙ get_or_of f (length (map f (below n))) 0 n k h ∙ ap f z)

pub kind_even : (partners : List ℕ) (k : ℕ) (odd : Bool) → odd ≡ false → k ≡ kind_by partners odd k
unfolding kind_by
kind_even partners k odd e = sym (ap (λ (b : Bool). cond b (get_or partners k (length partners)) k) e)

-- ---- the images of a mask's cells, from cell i on
module _ (t : ℕ → Bool) (f : ℕ → ℕ) where
  abbrev pub images_from : ℕ → ℕ → ℕ → Bool
  images_from i v k = member k (map f (keep t (from i (v - i))))

  -- what is taken up, and what is left, are all
  unfoldable pub TakenUp : ℕ → ℕ → (ℕ → Bool) → Type 0
  TakenUp v i taken = (k : ℕ) → (taken k || images_from i v k) ≡ member k (map f (keep t (below v)))

  pub taken_none : (v : ℕ) (taken : ℕ → Bool) → taken ≡ nothing → TakenUp v 0 taken
  unfolding TakenUp nothing
  taken_none v taken e k = let z : v - 0 ≡ v = omega arith in rw (e, z)

  more : (v i : ℕ) → i < v → (b : Bool) → t i ≡ b → (k : ℕ) → images_from i v k ≡ member k (map f (cons_if b i (keep t (from (i + 1) (v - (i + 1))))))
  more v i h b e k = let z : v - i ≡ suc (v - (i + 1)) = omega arith in rw (z, add-one i, e)

  -- d cells that are not in the set are passed
  passed_by : (v d i : ℕ) → ((j : ℕ) → i ≤ j → j < i + d → t j ≡ false) → (k : ℕ) → images_from i v k ≡ images_from (i + d) v k
  passed_by v zero i p k = let z : i + 0 ≡ i = omega arith in rw z refl
  passed_by v (suc d) i p k =
      let z : i + 1 + d ≡ i + suc d = omega arith in
      let rest : images_from (i + 1) v k ≡ images_from (i + suc d) v k = rw z at (passed_by v d (i + 1) (λ j g l. p j (omega arith) (omega arith)) k) in
      ⊎_elim (λ (h : i < v). more v i h false (p i (omega arith) (omega arith)) k ∙ rest) (λ (h : v ≤ i). none_from i h ∙ sym (none_from (i + suc d) (omega arith))) (lt_or_ge i v)
    where
      none_from : (j : ℕ) → v ≤ j → images_from j v k ≡ false
      none_from j h = let z : v - j ≡ 0 = omega arith in rw z refl

  -- the walk goes on past numbers that are not in the set
  pub taken_past : (v i r : ℕ) (taken : ℕ → Bool) → i ≤ r → ((j : ℕ) → i ≤ j → j < r → t j ≡ false) → TakenUp v i taken → TakenUp v r taken
  unfolding TakenUp
  taken_past v i r taken h p u k =
      let z : i + (r - i) ≡ r = omega arith in
      let e : images_from i v k ≡ images_from r v k = rw z at (passed_by v (r - i) i (λ j g l. p j g (omega arith)) k) in
      ap (λ (b : Bool). taken k || b) (sym e) ∙ u k

  pub taken_hit : (v i : ℕ) (taken : ℕ → Bool) → i < v → TakenUp v i taken → t i ≡ true → (y : ℕ) → y ≡ f i → (now : ℕ → Bool) → now ≡ either taken (only y) → TakenUp v (i + 1) now
  unfolding TakenUp either only
  taken_hit v i taken h u e y is now d k =
      ap (λ (g : ℕ → Bool). g k || images_from (i + 1) v k) d ∙ ap (λ (z : ℕ). (taken k || eqb k z) || images_from (i + 1) v k) is
      ∙ or_assoc (taken k) (eqb k (f i)) (images_from (i + 1) v k) ∙ ap (λ (b : Bool). taken k || b) (sym (more v i h true e k)) ∙ u k

  pub taken_all : (v i : ℕ) (taken : ℕ → Bool) → v ≤ i → TakenUp v i taken → taken ≡ (λ n. member n (map f (keep t (below v))))
  unfolding TakenUp
  taken_all v i taken h u = fun_ext λ k. let z : v - i ≡ 0 = omega arith in sym (alone (taken k)) ∙ ap (λ (j : ℕ). taken k || member k (map f (keep t (from i j)))) (sym z) ∙ u k
    where
      alone : (b : Bool) → (b || false) ≡ b
      alone true = refl
      alone false = refl

-- ---- the images of two words' numbers are those of the mask's
images_same : (f g : ℕ → ℕ) (p q : ℕ → Bool) (xs : List ℕ) → ((i : ℕ) → Memᴰ i xs → f i ≡ g i) → ((i : ℕ) → Memᴰ i xs → p i ≡ q i) → map f (keep p xs) ≡ map g (keep q xs)
images_same f g p q xs h k = map_same f g (keep p xs) (λ i m. h i (keep_at p xs m).0) ∙ ap (map g) (keep_same p q xs k)

member_append : (n : ℕ) (xs ys : List ℕ) → member n (xs ++ ys) ≡ (member n xs || member n ys)
member_append n [] ys = refl
member_append n (x ∷ xs) ys = ap (λ (b : Bool). eqb n x || b) (member_append n xs ys) ∙ sym (or_assoc (eqb n x) (member n xs) (member n ys))

module _ (a b size : ℕ) (f g : ℕ → ℕ) where
  pub word_images : size ≤ 64 → ((i : ℕ) → i < size → f i ≡ g i)
      → ◌≡◌ {A = ℕ → Bool} (λ n. member n (map f (keep (hit a) (below size)))) (λ n. member n (map g (keep (hit2 a b) (below size))))
  word_images h e =
      fun_ext λ n. ap (member n) (images_same f g (hit a) (hit2 a b) (below size) (λ i m. e i (below_at size m)) (λ i m. sym (hit2_low a b i (let l = below_at size m in omega arith))))

  module _ (h : ℕ → ℕ) (more : 64 ≤ size) (low : (i : ℕ) → i < 64 → f i ≡ g i) (high : (i : ℕ) → i < size - 64 → h i ≡ g (64 + i)) where
    high_images : map h (keep (hit b) (below (size - 64))) ≡ map g (keep (hit2 a b) (from 64 (size - 64)))
    high_images =
        images_same h (λ i. g (64 + i)) (hit b) (λ i. hit2 a b (64 + i)) (below (size - 64)) (λ i m. high i (below_at (size - 64) m))
        (λ i m. let z : 64 + i - 64 ≡ i = omega arith in sym (hit2_high a b (64 + i) (omega arith) ∙ ap (hit b) z))
        ∙ sym (map-map g (λ i. 64 + i) (keep (λ i. hit2 a b (64 + i)) (below (size - 64))))
        ∙ ap (map g) (sym (keep_map (λ i. 64 + i) (hit2 a b) (below (size - 64))))
        ∙ ap (λ (xs : List ℕ). map g (keep (hit2 a b) xs)) (from_shift 64 0 (size - 64))

    pub words_images :
        ◌≡◌ {A = ℕ → Bool} (either (λ n. member n (map f (keep (hit a) (below 64)))) (λ n. member n (map h (keep (hit b) (below (size - 64))))))
        (λ n. member n (map g (keep (hit2 a b) (below size))))
    unfolding either
    words_images =
        fun_ext λ n.
        sym (member_append n (map f (keep (hit a) (below 64))) (map h (keep (hit b) (below (size - 64)))))
        ∙ ap (member n)
        (ap₂ (λ (xs ys : List ℕ). xs ++ ys) (images_same f g (hit a) (hit2 a b) (below 64) (λ i m. low i (below_at 64 m)) (λ i m. sym (hit2_low a b i (below_at 64 m)))) high_images
        ∙ sym (map-append g (keep (hit2 a b) (below 64)) (keep (hit2 a b) (from 64 (size - 64))))
        ∙ ap (map g) (sym (keep_append (hit2 a b) (below 64) (from 64 (size - 64)))) ∙ ap (λ (xs : List ℕ). map g (keep (hit2 a b) xs)) (sym (below_split 64 size more)))

-- ---- what holds of all numbers of a list, one by one
all_below : (p : ℕ → Bool) (xs : List ℕ) → ((i : ℕ) → i < length xs → T (p (get_or xs i 0))) → T (all p xs)
all_below p [] f = tt
all_below p (x ∷ xs) f = and_both (p x) (all p xs) (f 0 (omega arith)) (all_below p xs (λ i h. f (suc i) (omega arith)))

-- a map's images are cells
pub images_small : (size : ℕ) (to : List ℕ) → size ≤ 128 → Permutes size to → T (all (λ n. ltb n 128) to)
images_small size to h p = all_below (λ n. ltb n 128) to (λ i l. lt→ltb (get_or to i 0) 128 (let e = p.onto i (omega (arith, p.each)) in omega arith))

-- ---- a row's cells after a map
module _ (to : List ℕ) (m r : Mask) (size : ℕ) (few : size ≤ 128) (on : T (all (λ n. ltb n size) (cells_of m))) (p : Permutes size to)
    (is : has r ≡ (λ n. member n (map (λ i. get_or to i 0) (keep (has m) (below size))))) where
  pub cells_moved : cells_of r ≡ cells_by to (cells_of m)
  unfolding cells_of cells_by
  cells_moved =
      ascending_unique ltb ltb_trans ltb_irrefl (keep (has r) (below 128)) (sort ltb (map f (keep (has m) (below 128))))
      (keep_ascending ltb (has r) (below 128) (from_ascending 0 128)) (sort_ascending ltb ltb_trans (map f (keep (has m) (below 128)))) there back
    where
      f : ℕ → ℕ
      f i = get_or to i 0

      there : (n : ℕ) → Memᴰ n (keep (has r) (below 128)) → Memᴰ n (sort ltb (map f (keep (has m) (below 128))))
      there n k =
          let a = member_at n (map f (keep (has m) (below size))) (subst (λ (g : ℕ → Bool). T (g n)) is (keep_at (has r) (below 128) k).1) in
          let x = mathlib.Core.List.Memᴰ.of_map f (keep (has m) (below size)) a in
          let y = keep_at (has m) (below size) x.1 in
          let l = below_at size y.0 in
          sort_of ltb ltb_tied (map f (keep (has m) (below 128))) (mathlib.Core.List.Memᴰ.cast (sym x.2) (mathlib.Core.List.Memᴰ.map f (keep_of (has m) (below 128) (below_of 128 (omega arith)) y.1)))

      back : (n : ℕ) → Memᴰ n (sort ltb (map f (keep (has m) (below 128)))) → Memᴰ n (keep (has r) (below 128))
      back n k =
          let x = mathlib.Core.List.Memᴰ.of_map f (keep (has m) (below 128)) (sort_at ltb (map f (keep (has m) (below 128))) k) in
          let l = ltb→lt x.0 size (all_at (λ j. ltb j size) (cells_of m) on x.1) in
          let y = keep_of (has m) (below size) (below_of size l) (keep_at (has m) (below 128) x.1).1 in
          let z : Memᴰ n (map f (keep (has m) (below size))) = mathlib.Core.List.Memᴰ.cast (sym x.2) (mathlib.Core.List.Memᴰ.map f y) in
          let s : n < 128 = let o = p.onto x.0 l in omega (arith, x.2) in
          keep_of (has r) (below 128) (below_of 128 s) (subst (λ (g : ℕ → Bool). T (g n)) (sym is) (member_of (map f (keep (has m) (below size))) z))

-- the image of row i, as it is looked up
pub image_is : (rows : List Placement) (work partners to : List ℕ) (odd : Bool) (i size : ℕ) (m r : Mask) (kind : ℕ)
    → m ≡ mask_at work i → size ≤ 128 → T (all (λ n. ltb n size) (row_at work i).cells) → Permutes size to
    → has r ≡ (λ n. member n (map (λ j. get_or to j 0) (keep (has m) (below size)))) → kind ≡ kind_by partners odd (row_at work i).kind
    → row_with rows (kind ∷ cells_of r) ≡ row_with rows (moved_by partners odd to (row_at work i))
unfolding moved_by row_at
image_is rows work partners to odd i size m r kind e few on p is k =
    ap₂ (λ (a : ℕ) (l : List ℕ). row_with rows (a ∷ l)) k
    (cells_moved to m r size few (subst (λ (x : Mask). T (all (λ n. ltb n size) (cells_of x))) (sym e) on) p is ∙ ap (λ (x : Mask). cells_by to (cells_of x)) e)
