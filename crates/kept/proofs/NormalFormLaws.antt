-- Whether a packing is kept, as the code finds out: kind by kind, row by row, equal beginnings decide nothing. Assumes nothing.
use Prim.Native.Nat.{ℕ, ◌+◌, ◌-◌, ◌*◌, ◌≤◌, ◌<◌}
use mathlib.Core.Bool.{Bool, true, false, cond, not, ◌&&◌, ◌||◌}
use mathlib.Core.List.{List, [], ◌∷◌, ◌++◌, map, map-append, Memᴰ}
use mathlib.Core.Path.{◌≡◌, refl, sym, ap, ap₂, ◌∙◌}
use native.Mathlib.Numerals.{add-one}
use native.Mathlib.Omega.{arith}
use borrow.Author.Tests.{le-leb, lt-leb}
use lib.Dec.{T, ltb, leb, eqb, lt→ltb, ltb→lt}
use lib.ListN.{length, take, get_or, set, get_or-eq_default}
use lib.Seq.{take-suc}
use Rattle.std.specs.declared.cmp.Ordering.{Ordering}
use Rattle.lists.specs.Lists.{cons_if, keep, all, each, how_many, from, below, same, less}
use Rattle.lists.proofs.TestLaws.{and_true, and_left, and_right}
use Rattle.lists.proofs.ListLaws.{all_same, all_append, before_few, all_at, all_of, all_map, get_or_mem, take_set_next, keep_at, keep_length}
use Rattle.lists.proofs.RangeLaws.{from_start, from-end, from_next, get_or_below, from_at, from_append}
use Rattle.definitions.specs.Placements.{Placement}
use Rattle.definitions.specs.Refusals.{identifies}
use Rattle.rows.specs.Charts.{images_of, kind_copies, kind_partner}
use Rattle.rows.specs.declared.chart.Chart.{Chart}
use Rattle.rows.specs.declared.Dims.{Dims}
use Rattle.rows.specs.Rows.{row_at, rows_in}
use Rattle.rows.specs.Systems.{System, system_in, images_in, kind_by, moved_by, row_with, system_over}
use Rattle.rows.specs.Answering.{path_in}
use Rattle.kept.specs.Normal.{sort_rows, row_of, of_kind, image_of, moved_rows, counted, key_of, image_key, image_smaller, mirrorable, normal}
use Rattle.kept.specs.Orders.{OrderIs, decided}
use Rattle.rows.specs.Ready.{Ready}
use Rattle.kept.specs.Packings.{AreRows}
use Rattle.rows.proofs.ReadyLaws.{kinds_many, rows_many, few-rows}
use Rattle.kept.proofs.ReadyLaws.{row_is, image_is}

-- ---- lists
-- a test of each number below n, from k on
module _ (p : ℕ → Bool) (k n : ℕ) where
  pub all_start : (j : ℕ) → j ≡ 0 → all p (from j (n - j)) ≡ all p (below n)
  all_start j e = ap (λ (i : ℕ). all p (from i (n - i))) e ∙ ap (all p) (from_start n)

-- ---- the order of lists: a list for each kind, with its length before it, A against B, from kind k on
module _ (A B : ℕ → List ℕ) (n : ℕ) where
  abbrev pub key_from : (ℕ → List ℕ) → ℕ → List ℕ
  key_from F k = each (from k (n - k)) (λ j. counted (F j))

  abbrev pub less_from : ℕ → Bool
  less_from k = less (key_from A k) (key_from B k)

  pub less_end : (k : ℕ) → n ≤ k → less_from k ≡ false
  less_end k h = ap (λ (l : List ℕ). less (each l (λ j. counted (A j))) (each l (λ j. counted (B j)))) (from-end k n h)

  -- how those of kind k compare
  pub less_next : (k : ℕ) → k < n → (o : Ordering) → OrderIs o (counted (A k)) (counted (B k)) → less_from k ≡ decided o (less_from (k + 1))
  less_next k h o is =
      ap (λ (l : List ℕ). less (each l (λ j. counted (A j))) (each l (λ j. counted (B j)))) (from_next k n h) ∙ is (key_from A (k + 1)) (key_from B (k + 1))

-- ---- a system in slices
module _ (d : Dims) (work : List ℕ) (chart : Chart) where
  abbrev S : System
  S = system_in d work chart

  -- where map m takes each cell
  abbrev to : ℕ → List ℕ
  to m = images_of chart d.size m

  -- how many rows of a list are of a kind
  pub of-kind : (k : ℕ) (rs : List ℕ) → T (all (λ r. ltb r d.rows) rs) → how_many (λ q. eqb q.kind k) (map (row_at work) rs) ≡ length (of_kind S k rs)
  unfolding of_kind
  of-kind k [] t = refl
  of-kind k (r ∷ rs) t =
      go (eqb (row_of S r).kind k) (ap (λ (q : Placement). eqb q.kind k) (sym (row_is d work chart r (ltb→lt r d.rows (and_left (ltb r d.rows) (all (λ s. ltb s d.rows) rs) t)))))
      (of-kind k rs (and_right (ltb r d.rows) (all (λ s. ltb s d.rows) rs) t))
    where
      go : (b : Bool) → eqb (row_at work r).kind k ≡ b → how_many (λ q. eqb q.kind k) (map (row_at work) rs) ≡ length (keep (λ s. eqb (row_of S s).kind k) rs)
          → cond (eqb (row_at work r).kind k) 1 0 + how_many (λ q. eqb q.kind k) (map (row_at work) rs) ≡ length (cons_if b r (keep (λ s. eqb (row_of S s).kind k) rs))
      go true e i = ap {B = ℕ} (λ (b : Bool). cond b 1 0 + how_many (λ (q : Placement). eqb q.kind k) (map (row_at work) rs)) e ∙ omega arith
      go false e i = ap {B = ℕ} (λ (b : Bool). cond b 1 0 + how_many (λ (q : Placement). eqb q.kind k) (map (row_at work) rs)) e ∙ omega arith

  -- a partner's copies
  pub copies_at : (k : ℕ) → k < d.kinds → kind_copies chart.kinds k ≡ get_or S.copies k 0
  unfolding system_in system_over
  copies_at k h = sym (get_or_below (kind_copies chart.kinds) 0 d.kinds k h)

  pub copies_none : (k : ℕ) → d.kinds ≤ k → 0 ≡ get_or S.copies k 0
  copies_none k h = sym (get_or-eq_default S.copies 0 {n = k} (let e = kinds_many d work chart in omega arith))

  -- the partner of kind k has enough copies
  abbrev pub mirrors_at : List ℕ → ℕ → Bool
  mirrors_at rs k = leb (length (of_kind S k rs)) (get_or S.copies (kind_by S.partners true k) 0)

  pub mirrors_all : (rs : List ℕ) → all (mirrors_at rs) (below d.kinds) ≡ mirrorable S rs
  unfolding mirrorable
  mirrors_all rs = ap (λ (n : ℕ). all (mirrors_at rs) (below n)) (sym (kinds_many d work chart))

  module _ (rs : List ℕ) (k used partner copies : ℕ) (u : used ≡ length (of_kind S k rs)) (p : partner ≡ kind_by (map (kind_partner chart.kinds) (below d.kinds)) true k)
      (c : copies ≡ get_or S.copies partner 0) where
    copies_are : copies ≡ get_or S.copies (kind_by S.partners true k) 0
    unfolding system_in system_over
    copies_are = c ∙ ap (λ (j : ℕ). get_or S.copies j 0) p

    pub mirrors_yes : used ≤ copies → mirrors_at rs k ≡ true
    mirrors_yes h = le-leb (length (of_kind S k rs)) (get_or S.copies (kind_by S.partners true k) 0) (let e = copies_are in omega arith)

    pub mirrors_no : copies < used → mirrors_at rs k ≡ false
    mirrors_no h = lt-leb (length (of_kind S k rs)) (get_or S.copies (kind_by S.partners true k) 0) (let e = copies_are in omega arith)

  -- the image under map m is not smaller
  abbrev pub is_kept : List ℕ → ℕ → Bool
  is_kept rs m = not (image_smaller S (leb d.turns m) rs (to m))

  module _ (rs : List ℕ) where
    turned_all : all (is_kept rs) (below d.turns) ≡ all (λ f. not (image_smaller S false rs f)) S.turned
    unfolding system_in system_over images_in images_of
    turned_all =
        all_same (is_kept rs) (λ m. not (image_smaller S false rs (to m))) (below d.turns)
        (λ m k. ap (λ (b : Bool). not (image_smaller S b rs (to m))) (lt-leb d.turns m (let h = from_at 0 d.turns k in omega arith)))
        ∙ sym (all_map to (λ f. not (image_smaller S false rs f)) (below d.turns))

    mirrored_all : all (is_kept rs) (from d.turns d.mirrorings) ≡ all (λ f. not (image_smaller S true rs f)) S.mirrored
    unfolding system_in system_over images_in images_of
    mirrored_all =
        all_same (is_kept rs) (λ m. not (image_smaller S true rs (to m))) (from d.turns d.mirrorings)
        (λ m k. ap (λ (b : Bool). not (image_smaller S b rs (to m))) (le-leb d.turns m (let h = from_at d.turns d.mirrorings k in omega arith)))
        ∙ sym (all_map to (λ f. not (image_smaller S true rs f)) (from d.turns d.mirrorings))

    both_all : all (is_kept rs) (below (d.turns + d.mirrorings)) ≡ all (λ f. not (image_smaller S false rs f)) S.turned && all (λ f. not (image_smaller S true rs f)) S.mirrored
    both_all =
        let z : 0 + d.turns ≡ d.turns = omega arith in
        ap (all (is_kept rs)) (sym (from_append 0 d.turns d.mirrorings) ∙ ap (λ (j : ℕ). from 0 d.turns ++ from j d.mirrorings) z)
        ∙ all_append (is_kept rs) (below d.turns) (from d.turns d.mirrorings)
        ∙ ap₂ (λ (a b : Bool). a && b) turned_all mirrored_all

    pub normal_none : (turned mirrored : Bool) → turned ≡ false → true ≡ normal S (identifies turned mirrored) rs
    unfolding normal identifies
    normal_none turned mirrored t = go mirrored ∙ ap (λ (b : Bool). normal S (identifies b mirrored) rs) (sym t)
      where
        go : (m : Bool) → true ≡ normal S (identifies false m) rs
        go true = refl
        go false = refl

    module _ (end : ℕ) (r : Bool) (is : r ≡ all (is_kept rs) (below end)) (turned mirrored : Bool) (t : turned ≡ true) where
      pub normal_turned : mirrored ≡ false → end ≡ d.turns → r ≡ normal S (identifies turned mirrored) rs
      unfolding normal identifies
      normal_turned m e =
          is ∙ ap (λ (n : ℕ). all (is_kept rs) (below n)) e ∙ turned_all ∙ ap₂ (λ (a b : Bool). normal S (identifies a b) rs) (sym t) (sym m)

      pub normal_unmirrorable : mirrored ≡ true → mirrorable S rs ≡ false → end ≡ d.turns → r ≡ normal S (identifies turned mirrored) rs
      unfolding normal identifies
      normal_unmirrorable m k e =
          is ∙ ap (λ (n : ℕ). all (is_kept rs) (below n)) e ∙ turned_all ∙ sym (and_true (all (λ f. not (image_smaller S false rs f)) S.turned))
          ∙ ap (λ (b : Bool). all (λ f. not (image_smaller S false rs f)) S.turned && (not b || all (λ f. not (image_smaller S true rs f)) S.mirrored)) (sym k)
          ∙ ap₂ (λ (a b : Bool). normal S (identifies a b) rs) (sym t) (sym m)

      pub normal_mirrored : mirrored ≡ true → mirrorable S rs ≡ true → end ≡ d.turns + d.mirrorings → r ≡ normal S (identifies turned mirrored) rs
      unfolding normal identifies
      normal_mirrored m k e =
          is ∙ ap (λ (n : ℕ). all (is_kept rs) (below n)) e ∙ both_all
          ∙ ap (λ (b : Bool). all (λ f. not (image_smaller S false rs f)) S.turned && (not b || all (λ f. not (image_smaller S true rs f)) S.mirrored)) (sym k)
          ∙ ap₂ (λ (a b : Bool). normal S (identifies a b) rs) (sym t) (sym m)

  -- the rows of each kind, and those of the image under map m
  module _ (rs : List ℕ) where
    abbrev pub own_rows : ℕ → List ℕ
    own_rows k = of_kind S k rs

    abbrev pub other_rows : ℕ → ℕ → List ℕ
    other_rows m k = moved_rows S (leb d.turns m) (to m) k rs

    -- the kinds from k on decide
    abbrev pub smaller_from : ℕ → ℕ → Bool
    smaller_from m k = less_from (other_rows m) own_rows d.kinds k

    pub smaller_all : (m : ℕ) → smaller_from m 0 ≡ image_smaller S (leb d.turns m) rs (to m)
    unfolding image_smaller image_key key_of
    smaller_all m =
        ap (λ (l : List ℕ). less (each l (λ k. counted (other_rows m k))) (each l (λ k. counted (own_rows k)))) (from_start d.kinds ∙ ap below (sym (kinds_many d work chart)))

    pub smaller_end : (m k : ℕ) → d.kinds ≤ k → smaller_from m k ≡ false
    smaller_end m k h = less_end (other_rows m) own_rows d.kinds k h

  image_few : (x : List ℕ) → row_with (rows_in work d.rows) x ≤ d.rows
  unfolding row_with system_in system_over
  image_few x = let h : row_with (rows_in work d.rows) x ≤ length S.rows = before_few (λ q. same (q.kind ∷ q.cells) x) (rows_in work d.rows) in let e = rows_many d work chart in omega arith

  -- ---- a lawful one
  module _ (ready : Ready d work chart) where
    pub image_small : (odd : Bool) (f : List ℕ) (r s : ℕ)
        → s ≡ row_with (rows_in work d.rows) (moved_by (map (kind_partner chart.kinds) (below d.kinds)) odd f (row_at work r)) → s ≤ 1024
    image_small odd f r s e = let h = image_few (moved_by (map (kind_partner chart.kinds) (below d.kinds)) odd f (row_at work r)) in let k = few-rows d work chart ready.lawful in omega arith

    -- ---- rows
    module _ (rows : List ℕ) (o : AreRows d rows) where
      pub row-below : {r : ℕ} → Memᴰ r rows → r < d.rows
      row-below {r} m = ltb→lt r d.rows (all_at (λ s. ltb s d.rows) rows o.are_rows m)

      pub row_there : (i : ℕ) → i < length rows → get_or rows i 0 < d.rows
      row_there i h = row-below (get_or_mem 0 rows i h)

      pub rows_fit_all : T (all (λ r. ltb (8 * r + 7) (length work)) rows)
      rows_fit_all = all_of (λ r. ltb (8 * r + 7) (length work)) rows (λ r m. lt→ltb (8 * r + 7) (length work) (let h = row-below m in let k = ready.rows_fit in omega arith))

      pub rows_small : T (all (λ r. ltb r 1024) rows)
      rows_small = all_of (λ r. ltb r 1024) rows (λ r m. lt→ltb r 1024 (let h = row-below m in let k = few-rows d work chart ready.lawful in omega arith))

      -- as `used_before` counts them
      pub used_is : (k u : ℕ) → u ≡ how_many (λ q. eqb q.kind k) (path_in work rows) → u ≡ length (of_kind S k rows)
      unfolding path_in
      used_is k u e = e ∙ of-kind k rows o.are_rows

      -- one image more
      pub images_next : (m i s : ℕ) (moved : List ℕ) → i < length rows → i < length moved
          → s ≡ row_with (rows_in work d.rows) (moved_by (map (kind_partner chart.kinds) (below d.kinds)) (leb d.turns m) (to m) (row_at work (get_or rows i 0)))
          → take i moved ≡ map (image_of S (leb d.turns m) (to m)) (take i rows) → take (i + 1) (set moved i s) ≡ map (image_of S (leb d.turns m) (to m)) (take (i + 1) rows)
      images_next m i s moved h l is e =
          let f = image_of S (leb d.turns m) (to m) in
          let image : s ≡ f (get_or rows i 0) = is ∙ image_is d work chart (get_or rows i 0) (row_there i h) (leb d.turns m) (to m) in
          let more : take (i + 1) rows ≡ take i rows ++ (get_or rows i 0 ∷ []) = rw add-one (take-suc rows i 0 h) in
          take_set_next moved i s l ∙ ap₂ (λ (xs : List ℕ) (x : ℕ). xs ++ (x ∷ [])) e image
          ∙ sym (map-append f (take i rows) (get_or rows i 0 ∷ []))
          ∙ ap (map f) (sym more)

      -- those of a kind
      pub kind_rows : (k : ℕ) → AreRows d (of_kind S k rows)
      unfolding of_kind
      kind_rows k =
          let p : ℕ → Bool = λ r. eqb (row_of S r).kind k in
          record {
            few = let a = keep_length p rows in let b = o.few in omega arith;
            are_rows = all_of (λ r. ltb r d.rows) (keep p rows) (λ r m. lt→ltb r d.rows (row-below (keep_at p rows m).0));
          }

-- the images of the rows that become of a kind, in ascending order, are the image's rows of that kind
module _ (d : Dims) (work : List ℕ) (chart : Chart) (rows : List ℕ) (m kind source : ℕ)
    (e : source ≡ kind_by (map (kind_partner chart.kinds) (below d.kinds)) (leb d.turns m) kind) where
  pub source_is : source ≡ kind_by (system_in d work chart).partners (leb d.turns m) kind
  unfolding system_in system_over
  source_is = e

  pub others_are : sort_rows (map (image_of (system_in d work chart) (leb d.turns m) (images_of chart d.size m)) (own_rows d work chart rows source))
      ≡ other_rows d work chart rows m kind
  unfolding moved_rows
  others_are =
      ap (λ (k : ℕ). sort_rows (map (image_of (system_in d work chart) (leb d.turns m) (images_of chart d.size m)) (own_rows d work chart rows k))) source_is

  -- how a kind compares, as the code finds its rows and those that become of it
  pub kind_step : (own others : List ℕ) → own ≡ own_rows d work chart rows kind → others ≡ own_rows d work chart rows source → kind < d.kinds → (o : Ordering)
      → OrderIs o (counted (sort_rows (map (image_of (system_in d work chart) (leb d.turns m) (images_of chart d.size m)) others))) (counted own)
      → smaller_from d work chart rows m kind ≡ decided o (smaller_from d work chart rows m (kind + 1))
  kind_step own others f g h o is =
      less_next (other_rows d work chart rows m) (own_rows d work chart rows) d.kinds kind h o
      (λ more rest.
      ap₂ (λ (xs ys : List ℕ). less (counted xs ++ more) (counted ys ++ rest))
      (sym (ap (λ (rs : List ℕ). sort_rows (map (image_of (system_in d work chart) (leb d.turns m) (images_of chart d.size m)) rs)) g ∙ others_are)) (sym f)
      ∙ is more rest)
