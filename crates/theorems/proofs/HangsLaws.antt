-- Hanging together is decided by rounds: each round adds the cells that share a face with one that is reached, and as many rounds as there are further cells
-- reach all. Assumes nothing.
use Prim.Native.Nat.{ℕ, zero, suc, ◌+◌, ◌≤◌}
use mathlib.Core.Bool.{◌&&◌, ◌||◌}
use mathlib.Core.List.Memᴰ
use mathlib.Core.List.{List, [], ◌∷◌, Memᴰ}
use mathlib.Core.Path.{◌≡◌, refl, sym, subst}
use mathlib.Core.Logic.{◌⊎◌, inl, inr, ⊎_elim}
use native.Mathlib.Omega.{arith}
use lib.Dec.{T, eqb→eq}
use lib.ListN.{length}
use Rattle.lists.specs.Lists.{any, Apart}
use Rattle.lists.proofs.TestLaws.{and_left, and_right, and_both, or_left, or_right, or_cases, eqb_of}
use Rattle.lists.proofs.ListLaws.{any_at, any_of, keep_at, keep_of, apart_keep, apart_length}
use Rattle.definitions.specs.Grid.{Cell, same_cell}
use Rattle.definitions.specs.Catalogue.{touches, is_path, HangsTogether, wider, reached, hangs}
use Rattle.theorems.proofs.WellMadeLaws.{same_cell→eq, same_cell_refl}
use Rattle.theorems.proofs.SetDownLaws.{on-board, is_on_board}
use Rattle.theorems.proofs.TogetherLaws.{touches_back, in_or_out, StepOut, all_or_step}

-- cells of us alone
abbrev Within : List Cell → List Cell → Type 0
Within us got = (u : Cell) → Memᴰ u got → Memᴰ u us

module _ (us : List Cell) where
  -- ---- a round
  wider_at : (got : List Cell) (u : Cell) → Memᴰ u (wider us got) → Memᴰ u us × (Memᴰ u got ⊎ ((v : Cell) × Memᴰ v got × T (touches u v)))
  unfolding wider
  wider_at got u m =
      let r = keep_at (λ v. any (same_cell v) got || any (touches v) got) us m in
      (r.0, ⊎_elim (λ t. inl (on-board got u t)) (λ t. inr (any_at (touches u) got t)) (or_cases (any (same_cell u) got) (any (touches u) got) r.1))

  wider_old : (got : List Cell) → Within us got → (u : Cell) → Memᴰ u got → Memᴰ u (wider us got)
  unfolding wider
  wider_old got i u m = keep_of (λ v. any (same_cell v) got || any (touches v) got) us (i u m) (or_left (any (same_cell u) got) (any (touches u) got) (is_on_board got u m))

  wider_new : (got : List Cell) (u v : Cell) → Memᴰ u us → Memᴰ v got → T (touches u v) → Memᴰ u (wider us got)
  unfolding wider
  wider_new got u v m k t = keep_of (λ w. any (same_cell w) got || any (touches w) got) us m (or_right (any (same_cell u) got) (any (touches u) got) (any_of (touches u) got k t))

  wider_within : (got : List Cell) → Within us (wider us got)
  wider_within got u m = (wider_at got u m).0

  wider_apart : Apart us → (got : List Cell) → Apart (wider us got)
  unfolding wider
  wider_apart b got = apart_keep (λ v. any (same_cell v) got || any (touches v) got) us b

  -- ---- enough rounds reach all
  module _ (apart : Apart us) (h : HangsTogether us) where
    -- a round that does not find all there are adds one
    longer : (got : List Cell) (g : Cell) → Memᴰ g got → Apart got → Within us got → (n : ℕ) → length us ≤ length got + suc n → length us ≤ length (wider us got) + n
    longer got g m a i n k = ⊎_elim all (λ s. step s) (all_or_step us h got g m i)
      where
        all : ((u : Cell) → Memᴰ u us → Memᴰ u got) → length us ≤ length (wider us got) + n
        all f = let l = apart_length us (wider us got) apart (λ u j. wider_old got i u (f u j)) in omega arith

        step : StepOut us got → length us ≤ length (wider us got) + n
        step s =
            let l = apart_length (s.to ∷ got) (wider us got) (s.outside, a)
            (λ u j. ⊎_elim (λ e. Memᴰ.cast e (wider_new got s.to s.from s.listed s.inside (touches_back s.from s.to s.step))) (wider_old got i u) (Memᴰ.cases_cons j)) in
            omega arith

    rounds : (n : ℕ) (got : List Cell) (g : Cell) → Memᴰ g got → Apart got → Within us got → length us ≤ length got + n → length (reached n us got) ≡ length us
    rounds zero got g m a i k = let l = apart_length got us a i in omega arith
    rounds (suc n) got g m a i k = rounds n (wider us got) g (wider_old got i g m) (wider_apart apart got) (wider_within got) (longer got g m a i n k)

  -- ---- what is reached is reached by a path
  abbrev Linked : Cell → Cell → Type 0
  Linked u v = (ws : List Cell) × T (is_path us u ws v)

  stay : (u : Cell) → Linked u u
  stay u = ([], same_cell_refl u)

  -- one step, and then a path
  step_first : (u v w : Cell) → T (touches u v) → Memᴰ v us → Linked v w → Linked u w
  step_first u v w t m l =
      (v ∷ l.0, and_both (touches u v) (any (same_cell v) us && is_path us v l.0 w) t (and_both (any (same_cell v) us) (is_path us v l.0 w) (is_on_board us v m) l.1))

  then : (u : Cell) (ws : List Cell) (v w : Cell) → T (is_path us u ws v) → Linked v w → Linked u w
  then u [] v w p l = subst (λ (z : Cell). Linked z w) (sym (same_cell→eq u v p)) l
  then u (x ∷ ws) v w p l =
      let q = and_right (touches u x) (any (same_cell x) us && is_path us x ws v) p in
      step_first u x w (and_left (touches u x) (any (same_cell x) us && is_path us x ws v) p) (on-board us x (and_left (any (same_cell x) us) (is_path us x ws v) q))
      (then x ws v w (and_right (any (same_cell x) us) (is_path us x ws v) q) l)

  module _ (o : Cell) where
    -- there is a path from o, and one back to it
    abbrev Near : Cell → Type 0
    Near u = Memᴰ u us × Linked o u × Linked u o

    near_step : (u v : Cell) → Memᴰ u us → T (touches u v) → Near v → Near u
    near_step u v m t n = (
      m,
      then o n.1.0 v u n.1.1 (step_first v u u (touches_back u v t) m (stay u)),
      step_first u v o t n.0 n.2,
    )

    near_all : (n : ℕ) (got : List Cell) → ((u : Cell) → Memᴰ u got → Near u) → (u : Cell) → Memᴰ u (reached n us got) → Near u
    near_all zero got f u m = f u m
    near_all (suc n) got f u m =
        near_all n (wider us got) (λ v k. let r = wider_at got v k in ⊎_elim (f v) (λ s. near_step v s.0 r.0 s.2 (f s.0 s.1)) r.1) u m

  reached_apart : Apart us → (n : ℕ) (got : List Cell) → Apart got → Apart (reached n us got)
  reached_apart b zero got a = a
  reached_apart b (suc n) got a = reached_apart b n (wider us got) (wider_apart b got)

  -- cells of us that are as many as us are all of us
  all_there : (got : List Cell) → Apart got → Within us got → length us ≤ length got → (u : Cell) → Memᴰ u us → Memᴰ u got
  all_there got a i k u m = ⊎_elim (λ j. j) (λ o. absurd (more o)) (in_or_out got u)
    where
      more : (Memᴰ u got → ⊥) → ⊥
      more o = let l = apart_length (u ∷ got) us (o, a) (λ v j. ⊎_elim (λ e. Memᴰ.cast e m) (i v) (Memᴰ.cases_cons j)) in omega arith

pub hangs_of : (us : List Cell) → Apart us → HangsTogether us → T (hangs us)
unfolding hangs
hangs_of [] a h = tt
hangs_of (u ∷ us) a h =
    eqb_of (rounds (u ∷ us) a h (length us) (u ∷ []) u (Memᴰ.head refl) (Memᴰ.not-nil, tt) (λ v k. Memᴰ.head (Memᴰ.eq_of_singleton k)) (omega arith))

pub hangs_at : (us : List Cell) → Apart us → T (hangs us) → HangsTogether us
unfolding hangs
hangs_at [] a t v w m k = absurd (Memᴰ.not-nil m)
hangs_at (u ∷ us) a t v w m k = then (u ∷ us) v p.2.0 u w p.2.1 q.1
  where
    got : List Cell
    got = reached (length us) (u ∷ us) (u ∷ [])

    here : (x : Cell) → x ≡ u → Near (u ∷ us) u x
    here x e = subst (λ (z : Cell). Near (u ∷ us) u z) (sym e) (Memᴰ.head refl, stay (u ∷ us) u, stay (u ∷ us) u)

    near : (x : Cell) → Memᴰ x got → Near (u ∷ us) u x
    near = near_all (u ∷ us) u (length us) (u ∷ []) (λ x j. here x (Memᴰ.eq_of_singleton j))

    there : (x : Cell) → Memᴰ x (u ∷ us) → Memᴰ x got
    there =
        let e = eqb→eq (length got) (suc (length us)) t in
        all_there (u ∷ us) got (reached_apart (u ∷ us) a (length us) (u ∷ []) (Memᴰ.not-nil, tt)) (λ x j. (near x j).0) (omega arith)

    p : Near (u ∷ us) u v
    p = near v (there v m)

    q : Near (u ∷ us) u w
    q = near w (there w k)
