-- What is read behind the first bytes of a text. Assumes nothing.
use Prim.Native.Nat.{ℕ, ◌+◌, ◌-◌, ◌≤◌}
use Rattle.std.specs.Prelude.{Option, Some, None}
use Rattle.std.specs.Io.KnownBytes.{Consumes}
use Rattle.std.proofs.Math.Seq.{drop-append_seam}
use Rattle.std.proofs.Math.ListN.{drop_of_length-le}
use Rattle.std.proofs.lemmas.List.{length-take-le, length-drop, drop-take}
use mathlib.Core.List.{List, [], ◌++◌, append_assoc, append-nil}
use mathlib.Core.Path.{◌≡◌, refl, sym, ap, ◌∙◌, subst}
use native.Mathlib.Omega.{arith}
use lib.ListN.{length, take, drop}
use borrow.Rule.Slice.PartMut.{put_mid}

-- bytes taken after bytes
pub consumes_both : (o p q : Option (List ℕ)) (xs ys : List ℕ) → Consumes o p xs → Consumes p q ys → Consumes o q (xs ++ ys)
consumes_both None p q xs ys a b = _
consumes_both (Some zs) None q xs ys a b = elim a [ ]
consumes_both (Some zs) (Some us) None xs ys a b = elim b [ ]
consumes_both (Some zs) (Some us) (Some vs) xs ys a b = a ∙ ap (λ (l : List ℕ). xs ++ l) b ∙ sym (append_assoc xs ys vs)

-- what lies behind the first n numbers once the rest was written
pub behind : (n : ℕ) (xs ys : List ℕ) → n ≤ length xs → length ys ≡ length xs - n → drop n (put_mid n (length xs - n) xs ys) ≡ ys
behind n xs ys h e =
    let none : drop (length xs - n) (drop n xs) ≡ [] = drop_of_length-le (drop n xs) (omega (arith, length-drop n xs)) in
    subst (λ (k : ℕ). drop k (take n xs ++ (ys ++ drop (length xs - n) (drop n xs))) ≡ ys ++ drop (length xs - n) (drop n xs)) (length-take-le n xs h)
    (drop-append_seam (take n xs) (ys ++ drop (length xs - n) (drop n xs)))
    ∙ ap (λ (l : List ℕ). ys ++ l) none ∙ append-nil ys

-- the k bytes that were read behind the first n
pub read_behind : (n k : ℕ) (xs ys : List ℕ) → n ≤ length xs → length ys ≡ length xs - n
    → drop n (take (n + k) (put_mid n (length xs - n) xs ys)) ≡ take k ys
read_behind n k xs ys h e = drop-take n k (put_mid n (length xs - n) xs ys) ∙ ap (λ (l : List ℕ). take k l) (behind n xs ys h e)
