-- The entries of a list, emitted one after the other, leave document 01's page of their answers. Assumes nothing.
use Prim.Native.Nat.{ℕ, zero, suc, min, ◌+◌, ◌-◌, ◌*◌, ◌≤◌, ◌<◌}
use mathlib.Core.Bool.{Bool, true, false, cond, not, ◌&&◌, ◌||◌, true≢false}
use mathlib.Core.List.{List, [], ◌∷◌, ◌++◌, Memᴰ, append-nil, append_assoc}
use mathlib.Core.Path.{◌≡◌, refl, sym, ap, ◌∙◌, subst}
use mathlib.Core.Logic.{◌⊎◌, inl, inr, ⊎_elim}
use native.Mathlib.Nat.{suc-mul, add-mul, zero-mul, mul-le-mul_right}
use native.Mathlib.Numerals.{add-one}
use native.Mathlib.Omega.{arith}
use borrow.Author.Tests.{lt-ltb, le-ltb, ltb-true, ltb-false}
use lib.Dec.{ltb, leb-suc-suc}
use lib.ListN.{length, take, drop, length-map, length-take, length-drop, drop_of_length-le, take-append-drop}
use lib.Seq.{paste, take-nil, drop-nil, take-length, take-paste, drop-paste, drop-drop, length-paste}
use Rattle.lists.specs.Lists.{any, joined, same}
use Rattle.lists.proofs.TestLaws.{ltb_same, lt_or_ge}
use Rattle.lists.proofs.ListLaws.{drop_map, length_joined, drop_in, take_in}
use Rattle.definitions.specs.Page.{page}
use Rattle.definitions.specs.Outcomes.{over_start}
use Rattle.definitions.specs.Emission.{Emitted, IsPage, Listed, answers_in, begin, behind, emit, emits, onwards, with_entry}

-- ---- one entry
module _ (capacity : ℕ) (entry : Listed) (s : Emitted) where
  pub emit_done : s.further ≡ true → emit capacity entry s ≡ s
  unfolding emit
  emit_done e = rw e

  pub emit_waited : s.further ≡ false → s.waiting ≡ true
      → emit capacity entry s ≡ record { last = s.last; waiting = not (same entry.answer s.last); skip = s.skip; written = s.written; further = false; answers = s.answers }
  unfolding emit
  emit_waited e f = rw (e, f)

  module _ (f : s.waiting ≡ false) where
    pub emit_skipped : s.further ≡ false → 0 < s.skip
        → emit capacity entry s ≡ record { last = s.last; waiting = false; skip = s.skip - 1; written = s.written; further = false; answers = s.answers }
    unfolding emit
    emit_skipped e h = rw (e, f, lt-ltb 0 s.skip h)

    pub emit_written : s.further ≡ false → s.skip ≤ 0 → s.written < capacity
        → emit capacity entry s ≡ record { last = s.last; waiting = false; skip = 0; written = s.written + 1; further = false; answers = with_entry entry s }
    unfolding emit
    emit_written e z h = rw (e, f, le-ltb 0 s.skip z, lt-ltb s.written capacity h)

    pub emit_full : s.further ≡ false → s.skip ≤ 0 → capacity ≤ s.written
        → emit capacity entry s ≡ record { last = s.last; waiting = false; skip = 0; written = s.written; further = true; answers = s.answers }
    unfolding emit
    emit_full e z h = rw (e, f, le-ltb 0 s.skip z, le-ltb s.written capacity h)

-- ---- no entry, and one
module _ (capacity : ℕ) (s : Emitted) where
  pub emits_none : emits capacity [] s ≡ s
  unfolding emits
  emits_none = refl

  pub emits_one : (entry : Listed) → emits capacity (entry ∷ []) s ≡ emit capacity entry s
  unfolding emits
  emits_one entry = refl

-- ---- from any split of the list; and once a further entry is known nothing changes, so that a search may stop at once
pub emits_append : (capacity : ℕ) (xs ys : List Listed) (s : Emitted) → emits capacity (xs ++ ys) s ≡ emits capacity ys (emits capacity xs s)
unfolding emits
emits_append capacity [] ys s = refl
emits_append capacity (x ∷ xs) ys s = emits_append capacity xs ys (emit capacity x s)

pub emits_done : (capacity : ℕ) (xs : List Listed) (s : Emitted) → s.further ≡ true → emits capacity xs s ≡ s
unfolding emits
emits_done capacity [] s e = refl
emits_done capacity (x ∷ xs) s e = rw (emit_done capacity x s e) (emits_done capacity xs s e)

-- while an entry is waited for, those that are others change nothing
pub emits_unmet : (capacity : ℕ) (xs : List Listed) (s : Emitted) → s.waiting ≡ true → ((x : Listed) → Memᴰ x xs → same x.answer s.last ≡ false) → emits capacity xs s ≡ s
unfolding emits
emits_unmet capacity [] s f others = refl
emits_unmet capacity (x ∷ xs) s f others = rw (stays s.further refl) (emits_unmet capacity xs s f (λ y m. others y (Memᴰ.tail m)))
  where
    stays : (b : Bool) → s.further ≡ b → emit capacity x s ≡ s
    stays true e = emit_done capacity x s e
    stays false e =
        emit_waited capacity x s e f
        ∙ (λ i. record { last = s.last; waiting = (ap not (others x (Memᴰ.head refl)) ∙ sym f) i; skip = s.skip; written = s.written; further = sym e i; answers = s.answers })

-- an entry that was met, or was not waited for, is not waited for any more
met_stays : (capacity : ℕ) (x : Listed) (s : Emitted) → s.waiting ≡ false → (emit capacity x s).waiting ≡ false
met_stays capacity x s f = go s.further refl
  where
    full : (b : Bool) → ltb s.written capacity ≡ b → s.further ≡ false → s.skip ≤ 0 → (emit capacity x s).waiting ≡ false
    full true d e z = ap (λ (y : Emitted). y.waiting) (emit_written capacity x s f e z (ltb-true s.written capacity d))
    full false d e z = ap (λ (y : Emitted). y.waiting) (emit_full capacity x s f e z (ltb-false s.written capacity d))

    skips : (b : Bool) → ltb 0 s.skip ≡ b → s.further ≡ false → (emit capacity x s).waiting ≡ false
    skips true d e = ap (λ (y : Emitted). y.waiting) (emit_skipped capacity x s f e (ltb-true 0 s.skip d))
    skips false d e = full (ltb s.written capacity) refl e (ltb-false 0 s.skip d)

    go : (b : Bool) → s.further ≡ b → (emit capacity x s).waiting ≡ false
    go true e = ap (λ (y : Emitted). y.waiting) (emit_done capacity x s e) ∙ f
    go false e = skips (ltb 0 s.skip) refl e

all_met : (capacity : ℕ) (xs : List Listed) (s : Emitted) → s.waiting ≡ false → (emits capacity xs s).waiting ≡ false
unfolding emits
all_met capacity [] s f = f
all_met capacity (x ∷ xs) s f = all_met capacity xs (emit capacity x s) (met_stays capacity x s f)

-- afterwards an entry is waited for exactly if it was, and no answer of the list equals its
pub emits_waiting : (capacity : ℕ) (list : List Listed) (last : List ℕ) (waiting : Bool) (skip : ℕ) (old : List ℕ)
    → (emits capacity list (begin last waiting skip old)).waiting ≡ (waiting && not (any (λ x. same x last) (answers_in list)))
unfolding emits
emits_waiting capacity list last false skip old = all_met capacity list (begin last false skip old) refl
emits_waiting capacity list last true skip old = go list
  where
    go : (xs : List Listed) → (emits capacity xs (begin last true skip old)).waiting ≡ not (any (λ x. same x last) (answers_in xs))
    go [] = refl
    go (x ∷ xs) = ap (λ (s : Emitted). (emits capacity xs s).waiting) (emit_waited capacity x (begin last true skip old) refl refl) ∙ one (same x.answer last) (go xs)
      where
        one : (b : Bool) → (emits capacity xs (begin last true skip old)).waiting ≡ not (any (λ y. same y last) (answers_in xs))
            → (emits capacity xs (begin last (not b) skip old)).waiting ≡ not (b || any (λ y. same y last) (answers_in xs))
        one true r = all_met capacity xs (begin last false skip old) refl
        one false r = r

-- ---- entries that are skipped
abbrev at : List ℕ → ℕ → ℕ → List ℕ → Emitted
at last k w o = record { last = last; waiting = false; skip = k; written = w; further = false; answers = o }

skipped : (last : List ℕ) (capacity w : ℕ) (o : List ℕ) (l : List Listed) (k : ℕ) → emits capacity l (at last k w o) ≡ emits capacity (drop k l) (at last (k - length l) w o)
unfolding emits
skipped last capacity w o [] zero = refl
skipped last capacity w o [] (suc k) = let e : suc k - 0 ≡ suc k = omega arith in rw e
skipped last capacity w o (x ∷ l) zero = let e : 0 - suc (length l) ≡ 0 = omega arith in rw e
skipped last capacity w o (x ∷ l) (suc k) =
    let e : suc k - suc (length l) ≡ k - length l = omega arith in
    let d : suc k - 1 ≡ k = omega arith in
    rw (emit_skipped capacity x (at last (suc k) w o) refl refl (omega arith), d, e) (skipped last capacity w o l k)

-- ---- entries that are written from the w-th answer on
-- what the buffer holds afterwards, with room for c answers
abbrev filled : ℕ → List ℕ → ℕ → ℕ → List (List ℕ) → List ℕ
filled n o w c l = take (w * n) o ++ joined (take c l) ++ drop ((w + min c (length l)) * n) o

-- one answer more
module _ (n : ℕ) (o a : List ℕ) (w : ℕ) (size : length a ≡ n) (fits : w * n + n ≤ length o) where
  head_more : (f : List ℕ) → take ((w + 1) * n) (paste o (w * n) a n) ++ f ≡ take (w * n) o ++ (a ++ f)
  head_more f =
      let e : (w + 1) * n ≡ w * n + n = rw (add-one w) (suc-mul w n) in
      let t : take n a ≡ a = rw (← size) (take-length a) in
      rw (e, take-paste o (w * n) a n (omega arith) (omega arith), t) (append_assoc (take (w * n) o) a f)

  tail_more : (m k : ℕ) → k ≡ w + 1 + m → drop (k * n) (paste o (w * n) a n) ≡ drop (k * n) o
  tail_more m k q =
      let e : k * n ≡ w * n + n + m * n = rw (q, add-mul (w + 1) m n, add-one w, suc-mul w n) in
      rw (e, ← drop-drop (m * n) (w * n + n) (paste o (w * n) a n), drop-paste o (w * n) a n (omega arith) (omega arith)) (drop-drop (m * n) (w * n + n) o)

-- every answer has n numbers
abbrev pub Sized : ℕ → List (List ℕ) → Type 0
Sized n l = (x : List ℕ) → Memᴰ x l → length x ≡ n

pub room : (w capacity n m : ℕ) → w < capacity → capacity * n ≤ m → w * n + n ≤ m
room w capacity n m h k = let a = mul-le-mul_right n (let i : suc w ≤ capacity = omega arith in i) in let b = suc-mul w n in omega arith

written : (last : List ℕ) (n : ℕ) (l : List Listed) → Sized n (answers_in l) → (c capacity w : ℕ) (o : List ℕ) → capacity ≡ w + c → capacity * n ≤ length o
    → emits capacity l (at last 0 w o)
    ≡ record { last = last; waiting = false; skip = 0; written = w + min c (length (answers_in l)); further = ltb c (length (answers_in l)); answers = filled n o w c (answers_in l) }
unfolding emits
written last n [] s c capacity w o e h =
    let z : w + min c 0 ≡ w = omega arith in
    rw (z, le-ltb c 0 (omega arith), take-nil c, append-nil (take (w * n) o), take-append-drop (w * n) o)
written last n (x ∷ xs) s zero capacity w o e h =
    let z : w + min 0 (suc (length (answers_in xs))) ≡ w = omega arith in
    let full = emit_full capacity x (at last 0 w o) refl refl (omega arith) (omega arith) in
    rw (z, lt-ltb 0 (suc (length (answers_in xs))) (omega arith), full, append-nil (take (w * n) o), take-append-drop (w * n) o)
    (emits_done capacity xs _ refl)
written last n (x ∷ xs) s (suc c) capacity w o e h =
    let z : w + min (suc c) (suc (length (answers_in xs))) ≡ w + 1 + min c (length (answers_in xs)) = omega arith in
    let size : length x.answer ≡ n = s x.answer (Memᴰ.head refl) in
    let fits : w * n + n ≤ length o = room w capacity n (length o) (omega arith) h in
    rw (
      z,
      leb-suc-suc (suc c) (length (answers_in xs)),
      emit_written capacity x (at last 0 w o) refl refl (omega arith) (omega arith),
      size,
      ← head_more n o x.answer w size fits (joined (take c (answers_in xs))),
      ← tail_more n o x.answer w size fits (min c (length (answers_in xs))) (w + 1 + min c (length (answers_in xs))) refl,
    )
    (written last n xs (λ y m. s y (Memᴰ.tail m)) c capacity (w + 1) (paste o (w * n) x.answer n) (omega arith) (rw (length-paste o (w * n) x.answer n fits (omega arith)) h))

-- ---- the page
module _ (last : List ℕ) (n : ℕ) (list : List Listed) (sized : Sized n (answers_in list)) (skip capacity : ℕ) (old : List ℕ) (fits : capacity * n ≤ length old) where
  abbrev all_answers : List (List ℕ)
  all_answers = answers_in list

  abbrev entries : List (List ℕ)
  entries = take capacity (drop skip all_answers)

  how-many : length entries ≡ min capacity (length all_answers - skip)
  how-many = length-take capacity (drop skip all_answers) ∙ ap (λ (k : ℕ). min capacity k) (length-drop skip all_answers)

  how_long : length (joined entries) ≡ length entries * n
  how_long = length_joined n entries (λ x m. sized x (drop_in skip all_answers (take_in capacity (drop skip all_answers) m)))

  -- the answers of the entries that are not skipped
  from_skip : answers_in (drop skip list) ≡ drop skip all_answers
  from_skip = sym (drop_map (λ (entry : Listed). entry.answer) skip list)

  skip_sized : Sized n (answers_in (drop skip list))
  skip_sized = subst (λ (l : List (List ℕ)). Sized n l) (sym from_skip) (λ x m. sized x (drop_in skip all_answers m))

  as_many : length all_answers ≡ length list
  as_many = length-map list (λ (entry : Listed). entry.answer)

  -- the state that the fold ends in
  abbrev end : Emitted
  end =
      record {
        last = last;
        waiting = false;
        skip = 0;
        written = length entries;
        further = ltb capacity (length all_answers - skip);
        answers = joined entries ++ drop (length (joined entries)) old;
      }

  ends : skip < length all_answers → emits capacity list (at last skip 0 old) ≡ end
  ends h =
      let m = as_many in
      let k : skip - length list ≡ 0 = omega arith in
      let v : 0 + min capacity (length all_answers - skip) ≡ length entries = let e = how-many in omega arith in
      rw (
        skipped last capacity 0 old list skip,
        k,
        written last n (drop skip list) skip_sized capacity capacity 0 old (omega arith) fits,
        from_skip,
        length-drop skip all_answers,
        zero-mul n,
        v,
        how_long,
      )

  past : length all_answers ≤ skip → emits capacity list (at last skip 0 old) ≡ at last (skip - length list) 0 old
  unfolding emits
  past h =
      let m = as_many in
      let k : length list ≤ skip = omega arith in
      rw (skipped last capacity 0 old list skip, drop_of_length-le list k)

  whole_page : IsPage all_answers skip capacity old (emits capacity list (begin last false skip old))
  unfolding page over_start
  whole_page =
      ⊎_elim
      (λ (h : skip < length all_answers).
      let k = how-many in
      rw (ends h)
      (record {
        written = refl;
        further = ltb_same capacity (length all_answers - skip) (skip + length entries) (length all_answers) (λ u. omega arith) (λ u. omega arith);
        answers = refl;
      }))
      (λ (h : length all_answers ≤ skip).
      let e : entries ≡ [] = ap (λ (l : List (List ℕ)). take capacity l) (drop_of_length-le all_answers h) ∙ take-nil capacity in
      rw (past h)
      (record {
        written = sym (ap (λ (l : List (List ℕ)). length l) e);
        further = sym (le-ltb (skip + length entries) (length all_answers) (omega arith));
        answers = sym (ap (λ (l : List (List ℕ)). joined l ++ drop (length (joined l)) old) e);
      }))
      (lt_or_ge skip (length all_answers))

-- ---- behind an entry
behind_in : (last : List ℕ) (list : List (List ℕ)) {x : List ℕ} → Memᴰ x (behind last list) → Memᴰ x list
behind_in last [] m = m
behind_in last (y ∷ ys) {x} m = go (same y last) m (λ (k : Memᴰ x (behind last ys)). behind_in last ys k)
  where
    go : (b : Bool) → Memᴰ x (cond b ys (behind last ys)) → (Memᴰ x (behind last ys) → Memᴰ x ys) → Memᴰ x (y ∷ ys)
    go true k f = Memᴰ.tail k
    go false k f = Memᴰ.tail (f k)

-- behind an entry that is not in the list there is nothing
pub behind_none : (last : List ℕ) (list : List (List ℕ)) → any (λ x. same x last) list ≡ false → behind last list ≡ []
behind_none last [] e = refl
behind_none last (x ∷ xs) e = go (same x last) e (behind_none last xs)
  where
    go : (b : Bool) → (b || any (λ y. same y last) xs) ≡ false → (any (λ y. same y last) xs ≡ false → behind last xs ≡ []) → cond b xs (behind last xs) ≡ []
    go true f r = absurd (true≢false f)
    go false f r = r f

-- the entry is met, and what lies behind it is emitted; or it never comes, and there is nothing behind it
module _ (last : List ℕ) (capacity skip : ℕ) (old : List ℕ) where
  abbrev MetOrNot : List (List ℕ) → Emitted → Type 0
  MetOrNot answers s =
      ((rest : List Listed) × (answers_in rest ≡ answers) × (s ≡ emits capacity rest (begin last false skip old))) ⊎ ((answers ≡ []) × (s ≡ begin last true skip old))

  met_or_not : (list : List Listed) → MetOrNot (behind last (answers_in list)) (emits capacity list (begin last true skip old))
  unfolding emits
  met_or_not [] = inr (refl, refl)
  met_or_not (x ∷ xs) = go (same x.answer last) refl (met_or_not xs)
    where
      after : Bool → Emitted
      after b = record { last = last; waiting = not b; skip = skip; written = 0; further = false; answers = old }

      one : (b : Bool) → same x.answer last ≡ b → emit capacity x (begin last true skip old) ≡ after b
      one b e = emit_waited capacity x (begin last true skip old) refl refl ∙ ap after e

      go : (b : Bool) → same x.answer last ≡ b → MetOrNot (behind last (answers_in xs)) (emits capacity xs (begin last true skip old))
          → MetOrNot (cond b (answers_in xs) (behind last (answers_in xs))) (emits capacity xs (emit capacity x (begin last true skip old)))
      go true e r = inl (xs, refl, ap (emits capacity xs) (one true e))
      go false e (inl f) = inl (f.0, f.1, ap (emits capacity xs) (one false e) ∙ f.2)
      go false e (inr f) = inr (f.0, ap (emits capacity xs) (one false e) ∙ f.1)

module _ (last : List ℕ) (waiting : Bool) (n : ℕ) (list : List Listed) (sized : Sized n (answers_in list)) (skip capacity : ℕ) (old : List ℕ) (fits : capacity * n ≤ length old) where
  pub emits_page : IsPage (onwards last waiting (answers_in list)) skip capacity old (emits capacity list (begin last waiting skip old))
  unfolding page over_start
  emits_page = go waiting
    where
      none : IsPage [] skip capacity old (begin last true skip old)
      none =
          let e : take capacity (drop skip []) ≡ [] = ap (λ (l : List (List ℕ)). take capacity l) (drop-nil skip) ∙ take-nil capacity in
          record {
            written = sym (ap (λ (l : List (List ℕ)). length l) e);
            further = sym (le-ltb (skip + length (take capacity (drop skip []))) 0 (omega arith));
            answers = sym (ap (λ (l : List (List ℕ)). joined l ++ drop (length (joined l)) old) e);
          }

      paged : (answers : List (List ℕ)) (s : Emitted) → Sized n answers → MetOrNot last capacity skip old answers s → IsPage answers skip capacity old s
      paged answers s h (inl f) =
          let fine = subst (λ (l : List (List ℕ)). Sized n l) (sym f.1) h in
          subst (λ (t : Emitted). IsPage answers skip capacity old t) (sym f.2)
          (subst (λ (l : List (List ℕ)). IsPage l skip capacity old (emits capacity f.0 (begin last false skip old))) f.1
          (whole_page last n f.0 fine skip capacity old fits))
      paged answers s h (inr f) =
          subst (λ (t : Emitted). IsPage answers skip capacity old t) (sym f.1)
          (subst (λ (l : List (List ℕ)). IsPage l skip capacity old (begin last true skip old)) (sym f.0) none)

      go : (b : Bool) → IsPage (onwards last b (answers_in list)) skip capacity old (emits capacity list (begin last b skip old))
      go false = whole_page last n list sized skip capacity old fits
      go true = paged (behind last (answers_in list)) _ (λ x m. sized x (behind_in last (answers_in list) m)) (met_or_not last capacity skip old list)
