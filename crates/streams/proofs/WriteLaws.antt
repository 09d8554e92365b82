-- Bytes appended to a writer after bytes. Assumes nothing.
use Prim.Native.Nat.{ℕ, ◌≤◌}
use Rattle.std.specs.Prelude.{Option, Some, None, Result, Ok, Err, OnErr}
use Rattle.std.specs.Io.KnownBytes.{Appends, Keeps}
use Rattle.std.proofs.lemmas.List.{take-append-drop, take-take}
use mathlib.Core.List.{List, [], ◌++◌, append_assoc, append-nil}
use mathlib.Core.Path.{◌≡◌, sym, ap, ◌∙◌}
use lib.ListN.{take, drop}
use Rattle.streams.specs.Writing.{AppendsFront}

pub appends_both : (o p q : Option (List ℕ)) (xs ys : List ℕ) → Appends o p xs → Appends p q ys → Appends o q (xs ++ ys)
appends_both None p q xs ys a b = _
appends_both (Some zs) None q xs ys a b = elim a [ ]
appends_both (Some zs) (Some us) None xs ys a b = elim b [ ]
appends_both (Some zs) (Some us) (Some vs) xs ys a b = b ∙ ap (λ (l : List ℕ). l ++ ys) a ∙ append_assoc zs xs ys

-- nothing appended after bytes
pub appends_kept : (o p q : Option (List ℕ)) (xs : List ℕ) → Appends o p xs → Keeps p q → Appends o q xs
appends_kept None p q xs a b = _
appends_kept (Some zs) None q xs a b = elim a [ ]
appends_kept (Some zs) (Some us) None xs a b = elim b [ ]
appends_kept (Some zs) (Some us) (Some vs) xs a b = b ∙ a

-- the bytes before a place are a beginning of them
pub front_taken : (o p : Option (List ℕ)) (n : ℕ) (xs : List ℕ) → Appends o p (take n xs) → AppendsFront o p xs
front_taken o p n xs a = record { front = take n xs; back = drop n xs; parts = sym (take-append-drop n xs); appended = a }

-- the first bytes, and those behind them up to a further place
pub front_parts : (n m : ℕ) (xs : List ℕ) → n ≤ m → take n xs ++ drop n (take m xs) ≡ take m xs
front_parts n m xs h = ap (λ (l : List ℕ). l ++ drop n (take m xs)) (sym (take-take n m xs h)) ∙ take-append-drop n (take m xs)

-- what holds in any case holds of an error
pub on_err : {A E P : Type 0} (r : Result A E) → P → OnErr r P
on_err (Ok x) p = _
on_err (Err e) p = p
