-- A text put behind a text puts both, and one byte stored puts that byte; a line is put part by part. The buffer keeps its length. Assumes nothing.
use Prim.Native.Nat.{ℕ, suc, ◌+◌, ◌≤◌, ◌<◌}
use mathlib.Core.List.{List, [], ◌∷◌, ◌++◌, append_assoc}
use mathlib.Core.Path.{◌≡◌, refl, sym, ap, ap₂, ◌∙◌, subst, subst₂}
use native.Mathlib.Numerals.{add-one}
use native.Mathlib.Omega.{arith}
use lib.ListN.{length, take, drop, set, length-append}
use lib.Seq.{paste, take-paste, drop-paste, length-paste, take-length, drop-drop, set_split, append_snoc}
use Rattle.texts.specs.Put.{Put}

pub put_over : (old xs : List ℕ) (at : ℕ) → paste old at xs (length xs) ≡ take at old ++ xs ++ drop (at + length xs) old
put_over old xs at = ap (λ (l : List ℕ). take at old ++ l ++ drop (at + length xs) old) (take-length xs)

pub put_length : {old xs new : List ℕ} {at r : ℕ} → Put old at xs new r → r ≤ length old → length new ≡ length old
put_length {old} {xs} {new} {at} {r} p h =
    let e = p.end in
    ap length p.bytes ∙ length-paste old at xs (length xs) (omega arith) (omega arith)

pub put_then : {old xs mid ys new : List ℕ} {at m r : ℕ} → Put old at xs mid m → Put mid m ys new r → r ≤ length old → Put old at (xs ++ ys) new r
put_then {old} {xs} {mid} {ys} {new} {at} {m} {r} p q h =
    let e = p.end in
    let f = q.end in
    let long = length-append xs ys in
    let head : take m mid ≡ take at old ++ xs
    = ap₂ (λ (k : ℕ) (l : List ℕ). take k l) e p.bytes ∙ take-paste old at xs (length xs) (omega arith) (omega arith) ∙ ap (λ (l : List ℕ). take at old ++ l) (take-length xs) in
    let behind : drop m mid ≡ drop m old
    = ap₂ (λ (k : ℕ) (l : List ℕ). drop k l) e p.bytes ∙ drop-paste old at xs (length xs) (omega arith) (omega arith) ∙ ap (λ (k : ℕ). drop k old) (sym e) in
    let same : m + length ys ≡ at + length (xs ++ ys) = omega arith in
    let tail : drop (m + length ys) mid ≡ drop (at + length (xs ++ ys)) old
    = sym (drop-drop (length ys) m mid) ∙ ap (drop (length ys)) behind ∙ drop-drop (length ys) m old ∙ ap (λ (k : ℕ). drop k old) same in
    record {
      bytes = q.bytes ∙ put_over mid ys m ∙ ap₂ (λ (l t : List ℕ). l ++ ys ++ t) head tail ∙ ap (λ (l : List ℕ). l ++ drop (at + length (xs ++ ys)) old) (append_assoc (take at old) xs ys) ∙ sym (put_over old (xs ++ ys) at);
      end = omega arith;
    }

pub put_one : (old : List ℕ) (at b : ℕ) → at < length old → Put old at (b ∷ []) (set old at b) (at + 1)
put_one old at b h =
    record {
      bytes = set_split old at b h ∙ sym (append_snoc (take at old) b (drop (suc at) old)) ∙ ap (λ (k : ℕ). take at old ++ (b ∷ []) ++ drop k old) (sym (add-one at));
      end = refl;
    }

-- one byte more
pub put_byte : {old xs mid : List ℕ} {at m : ℕ} (b : ℕ) → Put old at xs mid m → m < length old → Put old at (xs ++ (b ∷ [])) (set mid m b) (m + 1)
put_byte {old} {xs} {mid} {at} {m} b p h =
    let e = put_length p (omega arith) in
    put_then p (put_one mid m b (omega arith)) (omega arith)

-- the same buffer and place by other names, at the beginning; and at the end, with the text
pub put_from : {mid xs new other : List ℕ} {m r k : ℕ} → other ≡ mid → k ≡ m → Put other k xs new r → Put mid m xs new r
put_from {mid} {xs} {new} {other} {m} {r} {k} e f q = subst (λ (j : ℕ). Put mid j xs new r) f (subst (λ (l : List ℕ). Put l k xs new r) e q)

pub put_by : {old xs ys new other : List ℕ} {at r k : ℕ} → other ≡ new → k ≡ r → xs ≡ ys → Put old at xs new r → Put old at ys other k
put_by {old} {xs} {ys} {new} {other} {at} {r} {k} e f g q =
    subst (λ (t : List ℕ). Put old at t other k) g (subst₂ (λ (l : List ℕ) (j : ℕ). Put old at xs l j) (sym e) (sym f) q)

-- two texts with a byte between them
pub put_parted : {old xs mid ys new : List ℕ} {at m r : ℕ} (b : ℕ) → Put old at xs mid m → Put (set mid m b) (m + 1) ys new r → r ≤ length old → Put old at (xs ++ b ∷ ys) new r
put_parted {old} {xs} {mid} {ys} {new} {at} {m} {r} b p q h =
    let f = q.end in
    subst (λ (l : List ℕ). Put old at l new r) (append_snoc xs b ys) (put_then (put_byte b p (omega arith)) q h)

-- two texts, a tab between them and a line feed behind them
pub put_line : {old xs mid ys next : List ℕ} {at m k : ℕ} → Put old at xs mid m → Put (set mid m 9) (m + 1) ys next k → k < length old → Put old at (xs ++ 9 ∷ ys ++ 10 ∷ []) (set next k 10) (k + 1)
put_line p q h = put_byte 10 (put_parted 9 p q (omega arith)) h
