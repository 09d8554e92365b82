-- Kind 0 first: what the loops over maps, kinds and rows find is what the definitions say. Assumes nothing.
use Prim.Native.Nat.{ℕ, ◌+◌, ◌-◌, ◌≤◌, ◌<◌}
use mathlib.Core.Bool.{Bool, true, false, not, ◌&&◌, ◌||◌, true≢false}
use mathlib.Core.List.{List, [], ◌∷◌, ◌++◌, map}
use mathlib.Core.Logic.{⊎_elim}
use mathlib.Core.Path.{◌≡◌, refl, sym, ap, ap₂, ◌∙◌, subst}
use native.Mathlib.Omega.{arith}
use borrow.Author.Tests.{ltb-true, lt-ltb, le-ltb, le-leb, lt-leb, eq-eqb, ne_eqb, not-true, not-false}
use lib.Dec.{ltb, leb, eqb}
use lib.ListN.{length, get_or, take, set}
use Rattle.lists.specs.Lists.{all, any, below, from, keep, each}
use Rattle.lists.proofs.CountLaws.{at_most_sum}
use Rattle.lists.proofs.ListLaws.{any_map, any_same, all_same, keep_fails}
use Rattle.lists.proofs.RangeLaws.{from-end, from_next, from_at, below_at, get_or_of}
use Rattle.definitions.specs.Placements.{Placement}
use Rattle.definitions.specs.Kept.{Identify}
use Rattle.definitions.specs.Orders.{State, possible, choose, search, fast_choices}
use Rattle.definitions.specs.Refusals.{identifies}
use Rattle.definitions.specs.Emission.{Emitted, Listed, emits}
use Rattle.theorems.proofs.EmissionLaws.{emits_append, emits_done, emits_none}
use Rattle.masks.specs.Masks.{has, either, nothing}
use Rattle.masks.specs.declared.Mask.{Mask}
use Rattle.masks.proofs.MaskLaws.{hit2_zero, apart_of}
use Rattle.rows.specs.Charts.{images_of, kind_copies, kind_partner}
use Rattle.rows.specs.Rows.{cells_of, mask_at, row_at, rows_in}
use Rattle.rows.specs.Systems.{System, system_in, images_in, owned_in, kind_by, moved_by, row_with, system_over}
use Rattle.rows.specs.Shown.{Shown, shows_row}
use Rattle.kept.specs.Normal.{row_of, image_of}
use Rattle.rows.specs.Ready.{Ready}
use Rattle.kept.specs.Entries.{entries}
use Rattle.fast.specs.Searching.{Searching, fast_below, state_by}
use Rattle.fast.specs.Pruned.{moved_before, always_mirrorable_by, pruned_by, first_rows, fast_first}
use Rattle.rows.specs.declared.Dims.{Dims}
use Rattle.rows.proofs.ReadyLaws.{kinds_many, row_kind, rows_many, rows_kinds}
use Rattle.kept.proofs.ReadyLaws.{row_is, image_is}
use Rattle.kept.proofs.NormalRowLaws.{row_of_in}
use Rattle.fast.proofs.SearchingLaws.{fits, fits_possible, child_state, child_searching}
use Rattle.fast.proofs.StateLaws.{Chosen}
use Rattle.fast.proofs.UnmetLaws.{untried, unmet}
use Rattle.fast.proofs.ChoiceLaws.{entries_append}
use Rattle.rows.specs.declared.chart.Chart.{Chart}

-- ---- each kind has a mirror partner with as many copies
unfoldable pub mirrors : Chart → ℕ → ℕ → Bool
mirrors chart n k =
    let p = kind_partner chart.kinds k in
    ltb p n && eqb (kind_copies chart.kinds k) (kind_copies chart.kinds p)

module _ (chart : Chart) (n : ℕ) where
  abbrev copies : List ℕ
  copies = map (kind_copies chart.kinds) (below n)

  abbrev partners : List ℕ
  partners = map (kind_partner chart.kinds) (below n)

  copies_at : (k : ℕ) → k < n → get_or copies k 0 ≡ kind_copies chart.kinds k
  copies_at k h =
      get_or_of (kind_copies chart.kinds) 0 0 n k h
      ∙ ap (λ (i : ℕ). kind_copies chart.kinds i) (let e : 0 + k ≡ k = omega arith in e)

  pub partner-at : (k : ℕ) → k < n → kind_by (map (kind_partner chart.kinds) (below n)) true k ≡ kind_partner chart.kinds k
  unfolding kind_by
  partner-at k h =
      get_or_of (kind_partner chart.kinds) (length partners) 0 n k h
      ∙ ap (λ (i : ℕ). kind_partner chart.kinds i) (let e : 0 + k ≡ k = omega arith in e)

  mirrors-at : (k : ℕ) → k < n → (ltb (kind_by partners true k) n && eqb (get_or copies k 0) (get_or copies (kind_by partners true k) 0)) ≡ mirrors chart n k
  unfolding mirrors
  mirrors-at k h =
      let p = kind_partner chart.kinds k in
      let y = kind_copies chart.kinds k in
      ap (λ (x : ℕ). ltb x n && eqb (get_or copies k 0) (get_or copies x 0)) (partner-at k h)
      ∙ ap (λ (x : ℕ). ltb p n && eqb x (get_or copies p 0)) (copies_at k h)
      ∙ go p y (ltb p n) refl
    where
      go : (p y : ℕ) (b : Bool) → ltb p n ≡ b → (b && eqb y (get_or copies p 0)) ≡ (b && eqb y (kind_copies chart.kinds p))
      go p y true e = ap (eqb y) (copies_at p (ltb-true p n e))
      go p y false e = refl

  -- as the code reads it: the partner p, and the copies of both
  module _ (k p : ℕ) (partner : p ≡ kind_partner chart.kinds k) where
    pub mirrors_not : n ≤ p → mirrors chart n k ≡ false
    unfolding mirrors
    mirrors_not h = rw (sym partner, le-ltb p n h)

    pub mirrors_told : p < n → (x y : ℕ) → x ≡ kind_copies chart.kinds k → y ≡ kind_copies chart.kinds p → (b : Bool) → eqb x y ≡ b
        → mirrors chart n k ≡ b
    unfolding mirrors
    mirrors_told h x y e f b g = rw (sym partner, sym e, sym f, lt-ltb p n h) g

pub mirrorable_start : (d : Dims) (work : List ℕ) (chart : Chart)
    → all (mirrors chart d.kinds) (from 0 (d.kinds - 0)) ≡ always_mirrorable_by (system_in d work chart)
unfolding always_mirrorable_by system_in system_over
mirrorable_start d work chart =
    let n = d.kinds in
    let e : n - 0 ≡ n = omega arith in
    let test : ℕ → ℕ → Bool =
    λ m k. let p = kind_by (partners chart n) true k in ltb p m && eqb (get_or (copies chart n) k 0) (get_or (copies chart n) p 0) in
    ap (λ (m : ℕ). all (mirrors chart n) (from 0 m)) e
    ∙ sym (all_same (test n) (mirrors chart n) (below n) (λ k m. mirrors-at chart n k (below_at n m)))
    ∙ ap (λ (m : ℕ). all (test m) (below m)) (sym (kinds_many d work chart))

-- ---- the maps by their numbers
module _ (d : Dims) (work : List ℕ) (chart : Chart) (r : ℕ) where
  -- map m takes row r onto a row before it
  abbrev pub moves : ℕ → Bool
  moves m = ltb (image_of (system_in d work chart) (leb d.turns m) (images_of chart d.size m) r) r

  pub moves_told : r < d.rows → (m x : ℕ)
      → x ≡ row_with (rows_in work d.rows)
      (moved_by (map (kind_partner chart.kinds) (below d.kinds)) (leb d.turns m) (images_of chart d.size m) (row_at work r))
      → (b : Bool) → ltb x r ≡ b → moves m ≡ b
  moves_told h m x e b f =
      ap (λ (y : ℕ). ltb y r) (sym (e ∙ image_is d work chart r h (leb d.turns m) (images_of chart d.size m))) ∙ f

  pub turned_before : any moves (from 0 (d.turns - 0)) ≡ moved_before (system_in d work chart) false (system_in d work chart).turned r
  unfolding moved_before system_in system_over images_in images_of
  turned_before =
      let s = system_in d work chart in
      let e : d.turns - 0 ≡ d.turns = omega arith in
      ap (λ (n : ℕ). any moves (from 0 n)) e
      ∙ any_same moves (λ m. ltb (image_of s false (images_of chart d.size m) r) r) (from 0 d.turns)
      (λ m k. ap (λ (b : Bool). ltb (image_of s b (images_of chart d.size m) r) r) (lt-leb d.turns m (below_at d.turns k)))
      ∙ sym (any_map (λ to. ltb (image_of s false to r) r) (λ m. images_of chart d.size m) (from 0 d.turns))

  pub mirrored_before : any moves (from d.turns (d.turns + d.mirrorings - d.turns))
      ≡ moved_before (system_in d work chart) true (system_in d work chart).mirrored r
  unfolding moved_before system_in system_over images_in images_of
  mirrored_before =
      let s = system_in d work chart in
      let e : d.turns + d.mirrorings - d.turns ≡ d.mirrorings = omega arith in
      ap (λ (n : ℕ). any moves (from d.turns n)) e
      ∙ any_same moves (λ m. ltb (image_of s true (images_of chart d.size m) r) r) (from d.turns d.mirrorings)
      (λ m k. ap (λ (b : Bool). ltb (image_of s b (images_of chart d.size m) r) r) (le-leb d.turns m (from_at d.turns d.mirrorings k).0))
      ∙ sym (any_map (λ to. ltb (image_of s true to r) r) (λ m. images_of chart d.size m) (from d.turns d.mirrorings))

-- ---- a row that starts no packing that is kept
module _ (s : System) (r : ℕ) (turned mirrored : Bool) where
  pub pruned_none : turned ≡ false → false ≡ pruned_by s (identifies turned mirrored) r
  unfolding pruned_by identifies
  pruned_none e = rw e (go mirrored)
    where
      go : (b : Bool) → false ≡ pruned_by s (identifies false b) r
      go true = refl
      go false = refl

  pub pruned_turned : turned ≡ true → moved_before s false s.turned r ≡ true → true ≡ pruned_by s (identifies turned mirrored) r
  unfolding pruned_by identifies
  pruned_turned e m = rw e (go mirrored)
    where
      go : (b : Bool) → true ≡ pruned_by s (identifies true b) r
      go true = rw m
      go false = sym m

  module _ (e : turned ≡ true) (m : moved_before s false s.turned r ≡ false) where
    pub pruned_not : mirrored ≡ false → false ≡ pruned_by s (identifies turned mirrored) r
    unfolding pruned_by identifies
    pruned_not f = rw (e, f) (sym m)

    module _ (f : mirrored ≡ true) where
      pub pruned_unlike : always_mirrorable_by s ≡ false → false ≡ pruned_by s (identifies turned mirrored) r
      unfolding pruned_by identifies
      pruned_unlike a = rw (e, f, m, a)

      pub pruned_other : always_mirrorable_by s ≡ true → (kind_by s.partners true 0 ≡ 0 → ⊥) → false ≡ pruned_by s (identifies turned mirrored) r
      unfolding pruned_by identifies
      pruned_other a d = rw (e, f, m, a, ne_eqb (kind_by s.partners true 0) 0 d)

      pub pruned_mirrored : always_mirrorable_by s ≡ true → kind_by s.partners true 0 ≡ 0 → (b : Bool) → b ≡ moved_before s true s.mirrored r
          → b ≡ pruned_by s (identifies turned mirrored) r
      unfolding pruned_by identifies
      pruned_mirrored a d b h = rw (e, f, m, a, eq-eqb (kind_by s.partners true 0) 0 d) h

-- ---- the rows of kind 0, one after the other
entries_each : (s : System) (i : Identify) (f : ℕ → List (List Placement)) (xs : List ℕ) → entries s i (each xs f) ≡ each xs (λ x. entries s i (f x))
unfolding entries
entries_each s i f [] = refl
entries_each s i f (x ∷ xs) = entries_append s i (f x) (each xs f) ∙ ap (λ (l : List Listed). entries s i (f x) ++ l) (entries_each s i f xs)

-- of n rows, what the rows of kind 0 from r on list
unfoldable pub first_from : System → Identify → State → ℕ → ℕ → List Listed
first_from s i t n r = each (keep (λ q. eqb (row_of s q).kind 0 && not (pruned_by s i q)) (from r (n - r))) (λ q. fast_below s i (choose t (row_of s q)))

module _ (s : System) (i : Identify) (t : State) (n : ℕ) where
  pub first_start : length s.rows ≡ n → first_from s i t n 0 ≡ fast_first s i t
  unfolding first_from fast_first first_rows fast_below
  first_start e =
      let z : n - 0 ≡ length s.rows = omega arith in
      rw z (sym (entries_each s i (λ q. search (fast_choices s.rows) s.size (choose t (row_of s q))) (first_rows s i)))

  module _ (r : ℕ) where
    first_end : n ≤ r → first_from s i t n r ≡ []
    unfolding first_from
    first_end h = rw (from-end r n h)

    first_others : ((q : ℕ) → r ≤ q → q < n → 0 < (row_of s q).kind) → first_from s i t n r ≡ []
    unfolding first_from
    first_others f =
        rw (keep_fails (λ q. eqb (row_of s q).kind 0 && not (pruned_by s i q)) (from r (n - r))
        (λ q m. let k = from_at r (n - r) m in let l = f q k.0 (omega arith) in rw (ne_eqb (row_of s q).kind 0 (λ e. omega arith))))

    first_next : r < n → (row_of s r).kind ≡ 0 → pruned_by s i r ≡ false
        → first_from s i t n r ≡ fast_below s i (choose t (row_of s r)) ++ first_from s i t n (r + 1)
    unfolding first_from
    first_next h e f = rw (from_next r n h, eq-eqb (row_of s r).kind 0 e, f)

    first_past : r < n → (row_of s r).kind ≡ 0 → pruned_by s i r ≡ true → first_from s i t n r ≡ first_from s i t n (r + 1)
    unfolding first_from
    first_past h e f = rw (from_next r n h, eq-eqb (row_of s r).kind 0 e, f)

    -- what a turn of the loop leaves: x before it, y after it
    module _ (capacity : ℕ) (x z : Emitted) where
      pub first_emitted : (y : Emitted) → r < n → (row_of s r).kind ≡ 0 → pruned_by s i r ≡ false
          → y ≡ emits capacity (fast_below s i (choose t (row_of s r))) x
          → emits capacity (first_from s i t n r) x ≡ z → emits capacity (first_from s i t n (r + 1)) y ≡ z
      first_emitted y h e f g k =
          ap (emits capacity (first_from s i t n (r + 1))) g
          ∙ sym (emits_append capacity (fast_below s i (choose t (row_of s r))) (first_from s i t n (r + 1)) x)
          ∙ ap (λ (l : List Listed). emits capacity l x) (sym (first_next h e f)) ∙ k

      first_passed : r < n → (row_of s r).kind ≡ 0 → pruned_by s i r ≡ true → emits capacity (first_from s i t n r) x ≡ z
          → emits capacity (first_from s i t n (r + 1)) x ≡ z
      first_passed h e f k = ap (λ (l : List Listed). emits capacity l x) (sym (first_past h e f)) ∙ k

      pub first_full : x.further ≡ true → emits capacity (first_from s i t n r) x ≡ z → x ≡ z
      first_full f k = sym (emits_done capacity (first_from s i t n r) x f) ∙ k

      pub first_over : n ≤ r → emits capacity (first_from s i t n r) x ≡ z → x ≡ z
      first_over h k = sym (emits_none capacity x) ∙ ap (λ (l : List Listed). emits capacity l x) (sym (first_end h)) ∙ k

      pub first_left : ((q : ℕ) → r ≤ q → q < n → 0 < (row_of s q).kind) → emits capacity (first_from s i t n r) x ≡ z → x ≡ z
      first_left f k = sym (emits_none capacity x) ∙ ap (λ (l : List Listed). emits capacity l x) (sym (first_others f)) ∙ k

-- ---- row r, of kind 0, chosen first
abbrev pub nothing_covered : Mask
nothing_covered = record { low = 0; high = 0 }

with_nothing : (m : Mask) → has m ≡ either (has nothing_covered) (has m)
unfolding either nothing
with_nothing m = ap (λ (f : ℕ → Bool). either f (has m)) (sym hit2_zero)

nothing_has : (p : ℕ) → has nothing_covered p ≡ false
unfolding nothing
nothing_has p = ap (λ (f : ℕ → Bool). f p) hit2_zero

module _ {d : Dims} {work : List ℕ} {chart : Chart} (ready : Ready d work chart) {r : ℕ} (h : r < d.rows) where
  abbrev sys : System
  sys = system_in d work chart

  at_row : row_of sys r ≡ row_at work r
  at_row = row_is d work chart r h

  -- behind a row of another kind there is none of kind 0
  pub later_kinds : 0 < (row_at work r).kind → (q : ℕ) → r ≤ q → q < d.rows → 0 < (row_of (system_in d work chart) q).kind
  later_kinds k q l m =
      let e = ap (λ (p : Placement). p.kind) (row_is d work chart q m) in
      let f = rows_kinds d work chart ready.lawful r q l m in
      omega arith

  module _ (kind : (row_at work r).kind ≡ 0) where
    pub first_kind : (row_of (system_in d work chart) r).kind ≡ 0
    first_kind = ap (λ (q : Placement). q.kind) at_row ∙ kind

    -- no more than 128 copies of it are left
    pub first_few : (left₀ : List ℕ) → Searching (system_in d work chart) left₀ nothing_covered [] → get_or left₀ 0 0 ≤ 128
    first_few left₀ all =
        let m = kinds_many d work chart in
        let k = row_kind d work chart ready.lawful r h in
        let t = all.taken 0 (omega arith) in
        let s = at_most_sum (system_in d work chart).copies 0 in
        let f = ready.lawful.few_copies in
        omega arith

    in_rows : r < length sys.rows
    in_rows = let e = rows_many d work chart in omega arith

    row_mask : (row_of sys r).cells ≡ cells_of (mask_at work r)
    unfolding row_at
    row_mask = ap (λ (q : Placement). q.cells) at_row

    fits_first : (left₀ : List ℕ) → 0 < get_or left₀ 0 0 → fits left₀ nothing_covered (mask_at work r) (row_of sys r).kind ≡ true
    unfolding fits
    fits_first left₀ some =
        ap₂ ◌&&◌ (apart_of 128 (has (mask_at work r)) (has nothing_covered) (λ k l a b. true≢false (sym b ∙ nothing_has k)))
        (lt-ltb 0 (get_or left₀ (row_of sys r).kind 0) (subst (λ (k : ℕ). 0 < get_or left₀ k 0) (sym first_kind) some))

    -- it is pruned, or the entry that is waited for does not show it
    module _ (left₀ : List ℕ) (all : Searching (system_in d work chart) left₀ nothing_covered []) (some : 0 < get_or left₀ 0 0) where
      abbrev begun : State
      begun = state_by sys left₀ nothing_covered []

      can_start : possible begun (row_of sys r) ≡ true
      can_start = sym (fits_possible sys ready.lawful left₀ nothing_covered (mask_at work r) [] r in_rows row_mask) ∙ fits_first left₀ some

      module _ (last shown : List ℕ) (sh : Shown d.size (take d.places chart.scans) last shown) (i : Identify) (capacity : ℕ) (x z : Emitted)
          (is : x.last ≡ last) where
        hides : shows_row (owned_in chart.pieces d.pieces) shown (row_at work r) ≡ false → x.waiting ≡ true
            → emits capacity (fast_below sys i (choose begun (row_of sys r))) x ≡ x
        unfolding system_in system_over
        hides v w =
            unmet sys ready.lawful left₀ nothing_covered [] tt all r in_rows can_start last shown sh
            (ap (λ (q : Placement). shows_row (owned_in chart.pieces d.pieces) shown q) at_row ∙ v) i capacity x w is

        pub first_untried : (not (pruned_by (system_in d work chart) i r)
            && (not x.waiting || shows_row (owned_in chart.pieces d.pieces) shown (row_at work r))) ≡ false
            → emits capacity (first_from (system_in d work chart) i (state_by (system_in d work chart) left₀ nothing_covered []) d.rows r) x ≡ z
            → emits capacity (first_from (system_in d work chart) i (state_by (system_in d work chart) left₀ nothing_covered []) d.rows (r + 1)) x ≡ z
        first_untried f k =
            ⊎_elim (λ a. first_passed sys i begun d.rows r capacity x z h first_kind (not-false (pruned_by sys i r) a) k)
            (λ a. first_emitted sys i begun d.rows r capacity x z x h first_kind (not-true (pruned_by sys i r) a.0) (sym (hides a.2 a.1)) k)
            (untried (not (pruned_by sys i r)) x.waiting (shows_row (owned_in chart.pieces d.pieces) shown (row_at work r)) f)

    -- the copies and the rows with it chosen
    module _ {left₀ placed rs : List ℕ} (z : Chosen left₀ [] 0 r placed rs) where
      module _ {mask : Mask} (m : mask ≡ mask_at work r) where
        first_state : state_by sys placed mask rs ≡ choose (state_by sys left₀ nothing_covered []) (row_of sys r)
        first_state =
            ap (λ (l : List ℕ). state_by sys l mask rs) z.left_is
            ∙ ap (λ (x : Mask). state_by sys (set left₀ 0 (get_or left₀ 0 0 - 1)) x rs) m
            ∙ ap (state_by sys (set left₀ 0 (get_or left₀ 0 0 - 1)) (mask_at work r)) z.rows_are
            ∙ ap (λ (k : ℕ). state_by sys (set left₀ k (get_or left₀ k 0 - 1)) (mask_at work r) (r ∷ [])) (sym first_kind)
            ∙ child_state sys ready.lawful left₀ nothing_covered (mask_at work r) [] r in_rows row_mask (mask_at work r) (with_nothing (mask_at work r))

        pub first_searching : Searching (system_in d work chart) left₀ nothing_covered [] → 0 < get_or left₀ 0 0
            → Searching (system_in d work chart) placed mask rs
        first_searching all some =
            let law = ready.lawful.row (row_of sys r) (row_of_in sys r in_rows) in
            let p = (row_of sys r).p in
            subst (λ (l : List ℕ). Searching sys l mask rs) (sym z.left_is)
            (subst (λ (x : Mask). Searching sys (set left₀ 0 (get_or left₀ 0 0 - 1)) x rs) (sym m)
            (subst (Searching sys (set left₀ 0 (get_or left₀ 0 0 - 1)) (mask_at work r)) (sym z.rows_are)
            (subst (λ (k : ℕ). Searching sys (set left₀ k (get_or left₀ k 0 - 1)) (mask_at work r) (r ∷ [])) first_kind
            (child_searching sys ready.lawful left₀ nothing_covered (mask_at work r) [] r in_rows row_mask (mask_at work r) (with_nothing (mask_at work r))
            p refl (nothing_has p) (law.on_board p law.covers_p) all (fits_first left₀ some)))))

        -- its search emits what is listed below it, and what is left to list is that of the rows behind
        pub first_turns : (i : Identify) (capacity : ℕ) (x y whole : Emitted) → pruned_by (system_in d work chart) i r ≡ false
            → y ≡ emits capacity (fast_below (system_in d work chart) i (state_by (system_in d work chart) placed mask rs)) x
            → emits capacity (first_from (system_in d work chart) i (state_by (system_in d work chart) left₀ nothing_covered []) d.rows r) x ≡ whole
            → emits capacity (first_from (system_in d work chart) i (state_by (system_in d work chart) left₀ nothing_covered []) d.rows (r + 1)) y ≡ whole
        first_turns i capacity x y whole pruned page e =
            first_emitted sys i (state_by sys left₀ nothing_covered []) d.rows r capacity x whole y h first_kind pruned
            (page ∙ ap (λ (u : State). emits capacity (fast_below sys i u) x) first_state) e
