-- Cells put into a slice one by one, each as a function of it: as bytes 0 and 1, or as digits. Assumes nothing.
use Rattle.std.proofs.Common.{◌≡◌, ℕ, ◌+◌, ◌<◌, List, map, length, get_or, set, sym, ap, ap₂, ◌∙◌, arith, add-one}
use Rattle.std.proofs.Math.ListN.{length-map, get_or-map}
use Rattle.std.proofs.Math.Seq.{paste, paste-suc}

-- one cell more
pub cell_put : (f : ℕ → ℕ) (old xs : List ℕ) (at i : ℕ) {new : List ℕ} → at + i < length old → i < length xs → new ≡ paste old at (map f xs) i
    → set new (at + i) (f (get_or xs i 0)) ≡ paste old at (map f xs) (i + 1)
cell_put f old xs at i {new} h k e =
    let m = length-map xs f in
    ap₂ (λ (l : List ℕ) (x : ℕ). set l (at + i) x) e (sym (get_or-map f xs i 0))
    ∙ paste-suc old at (map f xs) i (f 0) h (omega arith) ∙ ap (paste old at (map f xs)) (sym (add-one i))
