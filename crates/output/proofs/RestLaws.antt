-- What is printed line by line is document 01's listing. Assumes nothing.
use Prim.Native.Nat.{ℕ, suc, ◌+◌, ◌-◌, ◌*◌, ◌<◌, ◌≤◌, ◌^◌}
use mathlib.Core.Bool.{Bool, true, false, cond}
use mathlib.Core.List.{List, [], ◌∷◌, ◌++◌, append_assoc, append-nil}
use mathlib.Core.Path.{◌≡◌, refl, sym, ap, ap₂, ◌∙◌}
use native.Mathlib.Omega.{arith}
use lib.Dec.{ltb, lt→ltb, ltb→lt}
use lib.ListN.{length, take, drop, get_or, length-take, length-append, length-drop}
use lib.Seq.{take-paste, drop-paste, take-length, take_all, drop-length, drop-cons, drop-drop, get_or-take, length-take-le}
use Rattle.lists.specs.Lists.{joined, numbered, numbered_from}
use Rattle.lists.proofs.TestLaws.{is_true, is_false}
use Rattle.definitions.specs.Texts.{text}
use Rattle.definitions.specs.Files.{cells_shown, decimal, entry_line, last_line, listing}
use Rattle.texts.specs.Put.{Put}
use Rattle.output.specs.Rest.{rest_with, rest_from, Stands}

-- one entry's line, and then the rest
rest_line : (n k : ℕ) (list : List (List ℕ)) → k < n → k < length list → rest_with n k list ≡ entry_line k (get_or list k []) ++ rest_with n (suc k) list
unfolding rest_with
rest_line n k list h j =
    let few : k < length (take n list) = rw length-take (omega arith) in
    let end = cond (ltb (length list) n) (last_line (length list)) [] in
    ap (λ (l : List (List ℕ)). joined (numbered_from k l entry_line) ++ end) (drop-cons (take n list) k [] few ∙ ap (λ (x : List ℕ). x ∷ drop (suc k) (take n list)) (get_or-take n list k [] h))
    ∙ append_assoc (entry_line k (get_or list k [])) (joined (numbered_from (suc k) (drop (suc k) (take n list)) entry_line)) end

rest_entry : (k : ℕ) (list : List (List ℕ)) → k < 18446744073709551616 → k < length list → rest_from k list ≡ entry_line k (get_or list k []) ++ rest_from (suc k) list
unfolding rest_from
rest_entry k list h j = rest_line 18446744073709551616 k list h j

-- behind the last entry: the last line, where the entry numbers suffice, and nothing where they are used up
rest_end : (n : ℕ) (list : List (List ℕ)) → length list < n → rest_with n (length list) list ≡ last_line (length list)
unfolding rest_with
rest_end n list h =
    ap₂ (λ (l : List (List ℕ)) (b : Bool). joined (numbered_from (length list) l entry_line) ++ cond b (last_line (length list)) [])
    (ap (drop (length list)) (take_all n list (omega arith)) ∙ drop-length list) (is_true (ltb (length list) n) (lt→ltb (length list) n h))

pub rest_last : (list : List (List ℕ)) → length list < 18446744073709551616 → rest_from (length list) list ≡ last_line (length list)
unfolding rest_from
rest_last list h = rest_end 18446744073709551616 list h

rest_full : (n : ℕ) (list : List (List ℕ)) → n ≤ length list → rest_with n n list ≡ []
unfolding rest_with
rest_full n list h =
    let e : length (take n list) ≡ n = length-take-le n list h in
    ap₂ (λ (l : List (List ℕ)) (b : Bool). joined (numbered_from n l entry_line) ++ cond b (last_line (length list)) [])
    (ap (λ (m : ℕ). drop m (take n list)) (sym e) ∙ drop-length (take n list)) (is_false (ltb (length list) n) (λ u. let v = ltb→lt (length list) n u in omega arith))

pub rest_used_up : (list : List (List ℕ)) → 18446744073709551616 ≤ length list → rest_from 18446744073709551616 list ≡ []
unfolding rest_from
rest_used_up list h = rest_full 18446744073709551616 list h

-- before the first entry it is the listing
listed_with : (n : ℕ) (list : List (List ℕ)) → cond (ltb (length list) n) (joined (numbered (take n list) entry_line) ++ last_line (length list)) (joined (numbered (take n list) entry_line)) ≡ rest_with n 0 list
unfolding rest_with
listed_with n list = go (ltb (length list) n)
  where
    go : (b : Bool) → cond b (joined (numbered (take n list) entry_line) ++ last_line (length list)) (joined (numbered (take n list) entry_line))
        ≡ joined (numbered_from 0 (take n list) entry_line) ++ cond b (last_line (length list)) []
    go true = refl
    go false = sym (append-nil (joined (numbered_from 0 (take n list) entry_line)))

pub listing_rest : (list : List (List ℕ)) → listing list ≡ rest_from 0 list
unfolding listing rest_from
listing_rest list = listed_with (2 ^ 64) list

-- a line put behind what was made
pub made_more : {mid line new : List ℕ} {at r : ℕ} → Put mid at line new r → at ≤ length mid → take r new ≡ take at mid ++ line
made_more {mid} {line} {new} {at} {r} p h =
    ap₂ (λ (k : ℕ) (l : List ℕ). take k l) p.end p.bytes ∙ take-paste mid at line (length line) h (omega arith) ∙ ap (λ (l : List ℕ). take at mid ++ l) (take-length line)

-- one entry more
pub rest_more : {base size end at r : ℕ} {answers mid new before : List ℕ} (list : List (List ℕ)) (i : ℕ) → Stands list base size end answers → i < end → base + end ≤ 18446744073709551616
    → Put mid at (entry_line (base + i) (take size (drop (i * size) answers))) new r → at ≤ length mid
    → before ≡ take at mid ++ rest_from (base + i) list → before ≡ take r new ++ rest_from (base + (i + 1)) list
rest_more {base} {size} {end} {at} {r} {answers} {mid} {new} {before} list i s h k p fit e =
    let inside = s.inside in
    let line = entry_line (base + i) (take size (drop (i * size) answers)) in
    let next : suc (base + i) ≡ base + (i + 1) = omega arith in
    e ∙ ap (λ (l : List ℕ). take at mid ++ l)
    (rest_entry (base + i) list (omega arith) (omega arith)
    ∙ ap₂ (λ (x : List ℕ) (m : ℕ). entry_line (base + i) x ++ rest_from m list) (sym (s.entry i h)) next)
    ∙ sym (append_assoc (take at mid) line (rest_from (base + (i + 1)) list))
    ∙ ap (λ (l : List ℕ). l ++ rest_from (base + (i + 1)) list) (sym (made_more p fit))

-- what lies behind the bytes made is as it was
pub kept_behind : (old : List ℕ) {mid line new : List ℕ} {at r : ℕ} → Put mid at line new r → at ≤ length mid → drop at mid ≡ drop at old → drop r new ≡ drop r old
kept_behind old {mid} {line} {new} {at} {r} p h e =
    ap₂ (λ (k : ℕ) (l : List ℕ). drop k l) p.end p.bytes ∙ drop-paste mid at line (length line) h (omega arith)
    ∙ sym (drop-drop (length line) at mid) ∙ ap (drop (length line)) e ∙ drop-drop (length line) at old ∙ ap (λ (k : ℕ). drop k old) (sym p.end)

-- a line has a byte
pub line_some : (n : ℕ) (entry : List ℕ) → 1 ≤ length (entry_line n entry)
unfolding entry_line
line_some n entry =
    let e : length (entry_line n entry) ≡ length (decimal n ++ 9 ∷ cells_shown entry) + 1 = length-append (decimal n ++ 9 ∷ cells_shown entry) (10 ∷ []) in
    omega arith

-- the answer of an entry, as it lies in the answer buffer
pub entry_lies : (answers : List ℕ) (i size : ℕ) → i * size + size ≤ length answers
    → (take (i * size + size - i * size) (drop (i * size) answers) ≡ take size (drop (i * size) answers)) × (length (take (i * size + size - i * size) (drop (i * size) answers)) ≡ size)
entry_lies answers i size h =
    let d = length-drop (i * size) answers in
    let e : i * size + size - i * size ≡ size = omega arith in
    let same = ap (λ (k : ℕ). take k (drop (i * size) answers)) e in
    (same, ap length same ∙ length-take-le size (drop (i * size) answers) (omega arith))

pub last_some : (n : ℕ) → 1 ≤ length (last_line n)
unfolding last_line
last_some n =
    let e : length (last_line n) ≡ length (text "packings" ++ 9 ∷ decimal n) + 1 = length-append (text "packings" ++ 9 ∷ decimal n) (10 ∷ []) in
    omega arith
