-- The cells of an answer, put one after the other. Assumes nothing.
use Prim.Native.Nat.{ℕ, zero, suc, ◌+◌, ◌*◌, ◌≤◌, ◌<◌}
use mathlib.Core.Bool.{Bool, true, false, cond, ◌&&◌}
use mathlib.Core.List.{List, [], ◌∷◌, ◌++◌, append_assoc}
use mathlib.Core.Path.{◌≡◌, refl, sym, ap, ◌∙◌, subst}
use native.Mathlib.Omega.{arith}
use borrow.Author.Tests.{eq-eqb, ne_eqb, eqb-true}
use lib.Dec.{eqb}
use lib.ListN.{length, get_or, take, drop, set, length-drop}
use lib.Seq.{take-add, drop-cons, drop-drop, get_or-drop, length-take-le}
use Rattle.definitions.specs.Files.{cell_shown, cells_shown, decimal}
use Rattle.texts.specs.Put.{Put}
use Rattle.texts.proofs.PutLaws.{put_one, put_then, put_parted}

-- ---- a cell
unfilled : (piece copy : ℕ) → piece ≡ 255 → copy ≡ 255 → cell_shown piece copy ≡ 45 ∷ []
unfolding cell_shown
unfilled piece copy e f = rw (eq-eqb piece 255 e, eq-eqb copy 255 f)

filled : (piece copy : ℕ) → (piece ≡ 255 → copy ≡ 255 → ⊥) → cell_shown piece copy ≡ decimal piece ++ 46 ∷ decimal copy
unfolding cell_shown
filled piece copy f = go (eqb piece 255) refl
  where
    go : (t : Bool) → eqb piece 255 ≡ t → cond (t && eqb copy 255) (45 ∷ []) (decimal piece ++ 46 ∷ decimal copy) ≡ decimal piece ++ 46 ∷ decimal copy
    go true e = rw (ne_eqb copy 255 (f (eqb-true piece 255 e)))
    go false e = refl

pub put_unfilled : (old : List ℕ) (at piece copy : ℕ) → piece ≡ 255 → copy ≡ 255 → at < length old → Put old at (cell_shown piece copy) (set old at 45) (at + 1)
put_unfilled old at piece copy e f h = subst (λ (l : List ℕ). Put old at l (set old at 45) (at + 1)) (sym (unfilled piece copy e f)) (put_one old at 45 h)

pub put_filled : {old mid new : List ℕ} {at m r : ℕ} (piece copy : ℕ) → (piece ≡ 255 → copy ≡ 255 → ⊥) → Put old at (decimal piece) mid m → Put (set mid m 46) (m + 1) (decimal copy) new r → r ≤ length old → Put old at (cell_shown piece copy) new r
put_filled {old} {mid} {new} {at} {m} {r} piece copy f p q h = subst (λ (l : List ℕ). Put old at l new r) (sym (filled piece copy f)) (put_parted 46 p q h)

-- ---- cells, one after the other
cells-behind : (xs : List ℕ) (k x y : ℕ) → length xs ≡ 2 * k → 0 < k → cells_shown (xs ++ (x ∷ y ∷ [])) ≡ cells_shown xs ++ 32 ∷ cell_shown x y
cells-behind [] k x y e h = absurd (omega arith)
cells-behind (a ∷ []) k x y e h = absurd (omega arith)
cells-behind (a ∷ b ∷ []) k x y e h = refl
cells-behind (a ∷ b ∷ d ∷ rest) zero x y e h = absurd (omega arith)
cells-behind (a ∷ b ∷ d ∷ rest) (suc k) x y e h = ap (λ (l : List ℕ). cell_shown a b ++ 32 ∷ l) (cells-behind (d ∷ rest) k x y (omega arith) (omega arith)) ∙ sym (append_assoc (cell_shown a b) (32 ∷ cells_shown (d ∷ rest)) (32 ∷ cell_shown x y))

-- the two bytes of a cell as a chunk of an answer
pub chunk_is : (answer cell rest : List ℕ) (i : ℕ) → drop (2 * i) answer ≡ cell ++ rest → length cell ≡ 2
    → (2 * i + 1 < length answer) × (get_or cell 0 0 ≡ get_or answer (2 * i) 0) × (get_or cell 1 0 ≡ get_or answer (2 * i + 1) 0)
    × (rest ≡ drop (2 * (i + 1)) answer)
chunk_is answer [] rest i e h = absurd (omega arith)
chunk_is answer (x ∷ []) rest i e h = absurd (omega arith)
chunk_is answer (x ∷ y ∷ []) rest i e h =
    let long = sym (length-drop (2 * i) answer) ∙ ap length e in (
      omega arith,
      sym (ap (λ (l : List ℕ). get_or l 0 0) e) ∙ get_or-drop (2 * i) answer 0 0 ∙ ap (λ (k : ℕ). get_or answer k 0) (omega arith),
      sym (ap (λ (l : List ℕ). get_or l 1 0) e) ∙ get_or-drop (2 * i) answer 1 0,
      sym (ap (drop 2) e) ∙ drop-drop 2 (2 * i) answer ∙ ap (λ (k : ℕ). drop k answer) (omega arith),
    )
chunk_is answer (x ∷ y ∷ z ∷ more) rest i e h = absurd (omega arith)

-- the next cell of an answer
module _ (answer : List ℕ) (i : ℕ) (h : 2 * i + 1 < length answer) where
  next_two : take (2 * (i + 1)) answer ≡ take (2 * i) answer ++ (get_or answer (2 * i) 0 ∷ get_or answer (2 * i + 1) 0 ∷ [])
  next_two =
      let e : 2 * (i + 1) ≡ 2 * i + 2 = omega arith in
      let f : suc (2 * i) ≡ 2 * i + 1 = omega arith in
      let two : take 2 (drop (2 * i) answer) ≡ get_or answer (2 * i) 0 ∷ get_or answer (suc (2 * i)) 0 ∷ []
      = ap (take 2) (drop-cons answer (2 * i) 0 (omega arith) ∙ ap (λ (l : List ℕ). get_or answer (2 * i) 0 ∷ l) (drop-cons answer (suc (2 * i)) 0 (omega arith))) in
      ap (λ (k : ℕ). take k answer) e ∙ take-add (2 * i) 2 answer
      ∙ ap (λ (l : List ℕ). take (2 * i) answer ++ l) (two ∙ ap (λ (k : ℕ). get_or answer (2 * i) 0 ∷ get_or answer k 0 ∷ []) f)

  abbrev pub here : List ℕ
  here = cell_shown (get_or answer (2 * i) 0) (get_or answer (2 * i + 1) 0)

  first_shown : i ≡ 0 → cells_shown (take (2 * (i + 1)) answer) ≡ cells_shown (take (2 * i) answer) ++ here
  first_shown e =
      let two : 2 * i ≡ 0 = omega arith in
      let none : take (2 * i) answer ≡ [] = ap (λ (k : ℕ). take k answer) two in
      ap cells_shown next_two ∙ ap (λ (l : List ℕ). cells_shown (l ++ (get_or answer (2 * i) 0 ∷ get_or answer (2 * i + 1) 0 ∷ []))) none ∙ ap (λ (l : List ℕ). cells_shown l ++ here) (sym none)

  next_shown : 0 < i → cells_shown (take (2 * (i + 1)) answer) ≡ cells_shown (take (2 * i) answer) ++ 32 ∷ here
  next_shown l = ap cells_shown next_two ∙ cells-behind (take (2 * i) answer) i _ _ (length-take-le (2 * i) answer (omega arith)) l

  module _ {old mid new : List ℕ} {at m r : ℕ} (p : Put old at (cells_shown (take (2 * i) answer)) mid m) where
    pub put_first_cell : i ≡ 0 → Put mid m here new r → r ≤ length old → Put old at (cells_shown (take (2 * (i + 1)) answer)) new r
    put_first_cell e q k = subst (λ (l : List ℕ). Put old at l new r) (sym (first_shown e)) (put_then p q k)

    pub put_next_cell : 0 < i → Put (set mid m 32) (m + 1) here new r → r ≤ length old → Put old at (cells_shown (take (2 * (i + 1)) answer)) new r
    put_next_cell l q k = subst (λ (z : List ℕ). Put old at z new r) (sym (next_shown l)) (put_parted 32 p q k)
