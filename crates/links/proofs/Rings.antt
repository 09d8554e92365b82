-- Taking a node out of its ring leaves the rings of the others, and putting it back restores the links. Assumes nothing.
use Prim.Native.Nat.{ℕ, ◌≤◌, ◌<◌}
use native.Mathlib.Omega.{arith}
use mathlib.Core.Path.{◌≡◌, refl, sym, ap, ◌∙◌, subst}
use mathlib.Core.List.{List}
use mathlib.Core.Bool.{Bool, true, false, false≢true, cond}
use lib.ListN.{length, get_or, set, length-set}
use lib.Seq.{get_or-set_same, get_or-set_other, set-set, set_comm, set-get_or}
use lib.Dec.{eqb}
use borrow.Author.Tests.{eqb-false, ne_eqb}
use Rattle.lists.proofs.TestLaws.{by_eq, by_order}
use Rattle.links.proofs.Places.{fields_agree}
use Rattle.links.specs.Links.{up, down, at_up, at_down, Still, unlink, relink, Matrix, LawfulMatrix, Fields, Rings, without}

-- two stores, at a and then at b
module _ (m : List ℕ) (a v b w : ℕ) where
  pub two_other : (i : ℕ) → (i ≡ a → ⊥) → (i ≡ b → ⊥) → get_or (set (set m a v) b w) i 0 ≡ get_or m i 0
  two_other i h k = get_or-set_other (set m a v) b i w 0 k ∙ get_or-set_other m a i v 0 h

  pub two_first : (a ≡ b → ⊥) → a < length m → get_or (set (set m a v) b w) a 0 ≡ v
  two_first k h = get_or-set_other (set m a v) b a w 0 k ∙ get_or-set_same m a v 0 h

  pub two_second : b < length m → get_or (set (set m a v) b w) b 0 ≡ w
  two_second h = get_or-set_same (set m a v) b w 0 (simp length-set h)

  pub two_length : length (set (set m a v) b w) ≡ length m
  two_length = simp length-set

  -- two more stores at the same places, of what stood there
  pub two_undo : (v' w' : ℕ) → (a ≡ b → ⊥) → get_or m a 0 ≡ v' → get_or m b 0 ≡ w' → set (set (set (set m a v) b w) a v') b w' ≡ m
  two_undo v' w' k p q =
      ap (λ (l : List ℕ). set l b w') (set_comm (set m a v) b a w v' (λ e. k (sym e)) ∙ ap (λ (l : List ℕ). set l b w) (set-set m a v v' ∙ ap (λ (n : ℕ). set m a n) (sym p) ∙ set-get_or m a 0))
      ∙ set-set m b w w' ∙ ap (λ (n : ℕ). set m b n) (sym q) ∙ set-get_or m b 0

module _ (m : List ℕ) (x : ℕ) where
  pub length_unlink : length (unlink m x) ≡ length m
  unfolding unlink
  length_unlink = simp length-set

  -- a field of any node but the two that are changed
  pub unlink_other : (i : ℕ) → (i ≡ at_down (up m x) → ⊥) → (i ≡ at_up (down m x) → ⊥) → get_or (unlink m x) i 0 ≡ get_or m i 0
  unfolding unlink
  unlink_other i h k = two_other m (at_down (up m x)) (down m x) (at_up (down m x)) (up m x) i h k

module _ (m : List ℕ) (x : ℕ) (long : 32768 ≤ length m) (dl : down m x < 4096) (ul : up m x < 4096) where
  pub unlink_down : down (unlink m x) (up m x) ≡ down m x
  unfolding unlink
  unlink_down = two_first m (at_down (up m x)) (down m x) (at_up (down m x)) (up m x) (omega arith) (omega arith)

  pub unlink_up : up (unlink m x) (down m x) ≡ up m x
  unfolding unlink
  unlink_up = two_second m (at_down (up m x)) (down m x) (at_up (down m x)) (up m x) (omega arith)

  unlink_undo : down m (up m x) ≡ x → up m (down m x) ≡ x → set (set (unlink m x) (at_down (up m x)) x) (at_up (down m x)) x ≡ m
  unfolding unlink
  unlink_undo down_up up_down = two_undo m (at_down (up m x)) (down m x) (at_up (down m x)) (up m x) x x (omega arith) down_up up_down

  -- putting a node back undoes taking it out
  pub relink_unlink : x < 4096 → (down m x ≡ x → ⊥) → (up m x ≡ x → ⊥) → down m (up m x) ≡ x → up m (down m x) ≡ x → relink (unlink m x) x ≡ m
  unfolding relink
  relink_unlink xl dx ux down_up up_down =
      let p : up (unlink m x) x ≡ up m x = unlink_other m x (at_up x) (omega arith) (λ e. dx (omega arith)) in
      let q : down (unlink m x) x ≡ down m x = unlink_other m x (at_down x) (λ e. ux (omega arith)) (omega arith) in
      ap (λ (a : ℕ). set (set (unlink m x) (at_down a) x) (at_up (down (unlink m x) x)) x) p
      ∙ ap (λ (b : ℕ). set (set (unlink m x) (at_down (up m x)) x) (at_up b) x) q
      ∙ unlink_undo down_up up_down

-- ---- the nodes without x

cond_true : (b a : Bool) → cond b false a ≡ true → (b ≡ false) × (a ≡ true)
cond_true true a e = absurd (false≢true e)
cond_true false a e = (refl, e)

pub without_active : (active : ℕ → Bool) (x y : ℕ) → without active x y ≡ true → active y ≡ true
unfolding without
without_active active x y h = (cond_true (eqb y x) (active y) h).1

pub without_ne : (active : ℕ → Bool) (x y : ℕ) → without active x y ≡ true → y ≡ x → ⊥
unfolding without
without_ne active x y h = eqb-false y x (cond_true (eqb y x) (active y) h).0

pub in_without : (active : ℕ → Bool) (x y : ℕ) → active y ≡ true → (y ≡ x → ⊥) → without active x y ≡ true
unfolding without
in_without active x y a h = ap (λ (b : Bool). cond b false (active y)) (ne_eqb y x h) ∙ a

module _ {t : Matrix} (law : LawfulMatrix t) {active : ℕ → Bool} {m : List ℕ} (f : Fields t m) (r : Rings t active m) (x : ℕ) (ax : active x ≡ true) (nx : t.cols ≤ x) where
  x_size : x < 4096
  x_size = omega (arith, r.bound x ax, law.small)

  x_node : t.col x < x
  x_node = omega (arith, law.inside x nx (r.bound x ax))

  pub down_size : down m x < 4096
  down_size = omega (arith, r.bound (down m x) (r.down_active x ax), law.small)

  pub up_size : up m x < 4096
  up_size = omega (arith, r.bound (up m x) (r.up_active x ax), law.small)

  pub down_ne : down m x ≡ x → ⊥
  down_ne e = omega (arith, r.wrap x ax (omega arith), x_node)

  pub up_ne : up m x ≡ x → ⊥
  up_ne e = down_ne (ap (λ (n : ℕ). down m n) (sym e) ∙ r.down_up x ax)

  pub unlink_back : relink (unlink m x) x ≡ m
  unlink_back = relink_unlink m x f.long down_size up_size x_size down_ne up_ne (r.down_up x ax) (r.up_down x ax)

  up_less : up m x < x
  up_less = by_order x (up m x) (λ h. absurd (omega (arith, r.wrap (up m x) (r.up_active x ax) (rw (r.down_up x ax) h), r.down_up x ax, r.up_column x ax, x_node))) (λ h. h)

  d' : (y : ℕ) → (y ≡ up m x → ⊥) → down (unlink m x) y ≡ down m y
  d' y h = unlink_other m x (at_down y) (λ e. h (omega arith)) (omega (arith, down_size))

  u' : (y : ℕ) → y < 4096 → (y ≡ down m x → ⊥) → up (unlink m x) y ≡ up m y
  u' y l h = unlink_other m x (at_up y) (omega arith) (λ e. h (omega arith))

  down_up' : down (unlink m x) (up m x) ≡ down m x
  down_up' = unlink_down m x f.long down_size up_size

  up_down' : up (unlink m x) (down m x) ≡ up m x
  up_down' = unlink_up m x f.long down_size up_size

  pub unlink_still : (i : ℕ) → Still i → get_or (unlink m x) i 0 ≡ get_or m i 0
  unlink_still i s = unlink_other m x i (s.down (up m x) up_size) (s.up (down m x) down_size)

  pub unlink_fields : Fields t (unlink m x)
  unlink_fields = fields_agree f (unlink m x) (length_unlink m x) unlink_still

  size : (y : ℕ) → active y ≡ true → y < 4096
  size y a = omega (arith, r.bound y a, law.small)

  -- the neighbour of a node is x only where the node is x's neighbour on the other side
  down_not : (y : ℕ) → active y ≡ true → (y ≡ up m x → ⊥) → down m y ≡ x → ⊥
  down_not y a h e = h (sym (r.up_down y a) ∙ ap (λ (n : ℕ). up m n) e)

  up_not : (y : ℕ) → active y ≡ true → (y ≡ down m x → ⊥) → up m y ≡ x → ⊥
  up_not y a h e = h (sym (r.down_up y a) ∙ ap (λ (n : ℕ). down m n) e)

  -- the claims of the ring at a node y, by whether y is a neighbour of x
  at-up : (P : ℕ → Type 0) (y : ℕ) → (y ≡ up m x → P (down m x)) → ((y ≡ up m x → ⊥) → P (down m y)) → P (down (unlink m x) y)
  at-up P y p q =
      by_eq y (up m x)
      (λ e. subst P (sym (ap (λ (n : ℕ). down (unlink m x) n) e ∙ down_up')) (p e))
      (λ e. subst P (sym (d' y e)) (q e))

  at-down : (P : ℕ → Type 0) (y : ℕ) → y < 4096 → (y ≡ down m x → P (up m x)) → ((y ≡ down m x → ⊥) → P (up m y)) → P (up (unlink m x) y)
  at-down P y l p q =
      by_eq y (down m x)
      (λ e. subst P (sym (ap (λ (n : ℕ). up (unlink m x) n) e ∙ up_down')) (p e))
      (λ e. subst P (sym (u' y l e)) (q e))

  pub unlink_rings : Rings t (without active x) (unlink m x)
  unlink_rings =
      record {
        bound = λ y h. r.bound y (without_active active x y h);
        heads = λ c h. in_without active x c (r.heads c h) (omega arith);
        down_active = λ y h.
            let a = without_active active x y h in
            at-up (λ (n : ℕ). without active x n ≡ true) y
            (λ e. in_without active x (down m x) (r.down_active x ax) down_ne)
            (λ e. in_without active x (down m y) (r.down_active y a) (down_not y a e));
        up_active = λ y h.
            let a = without_active active x y h in
            at-down (λ (n : ℕ). without active x n ≡ true) y (size y a)
            (λ e. in_without active x (up m x) (r.up_active x ax) up_ne)
            (λ e. in_without active x (up m y) (r.up_active y a) (up_not y a e));
        down_column = λ y h.
            let a = without_active active x y h in
            at-up (λ (n : ℕ). t.col n ≡ t.col y) y
            (λ e. r.down_column x ax ∙ sym (r.up_column x ax) ∙ ap (λ (n : ℕ). t.col n) (sym e))
            (λ e. r.down_column y a);
        up_column = λ y h.
            let a = without_active active x y h in
            at-down (λ (n : ℕ). t.col n ≡ t.col y) y (size y a)
            (λ e. r.up_column x ax ∙ sym (r.down_column x ax) ∙ ap (λ (n : ℕ). t.col n) (sym e))
            (λ e. r.up_column y a);
        up_down = λ y h.
            let a = without_active active x y h in
            at-up (λ (n : ℕ). up (unlink m x) n ≡ y) y
            (λ e. up_down' ∙ sym e)
            (λ e. u' (down m y) (size (down m y) (r.down_active y a)) (λ k. without_ne active x y h (sym (r.up_down y a) ∙ ap (λ (n : ℕ). up m n) k ∙ r.up_down x ax)) ∙ r.up_down y a);
        down_up = λ y h.
            let a = without_active active x y h in
            at-down (λ (n : ℕ). down (unlink m x) n ≡ y) y (size y a)
            (λ e. down_up' ∙ sym e)
            (λ e. d' (up m y) (λ k. without_ne active x y h (sym (r.down_up y a) ∙ ap (λ (n : ℕ). down m n) k ∙ r.down_up x ax)) ∙ r.down_up y a);
        wrap = λ y h.
            let a = without_active active x y h in
            at-up (λ (n : ℕ). n ≤ y → n ≡ t.col y) y
            (λ e l. r.wrap x ax (omega (arith, up_less)) ∙ sym (r.up_column x ax) ∙ ap (λ (n : ℕ). t.col n) (sym e))
            (λ e l. r.wrap y a l);
        next = λ y k h hk.
            let a = without_active active x y h in
            let ak = without_active active x k hk in
            at-up (λ (n : ℕ). t.col k ≡ t.col y → y < k → (y < n) × (n ≤ k)) y
            (λ e c l. after y k ak (without_ne active x k hk) e c l)
            (λ e c l. r.next y k a ak c l);
      }
    where
      after : (y k : ℕ) → active k ≡ true → (k ≡ x → ⊥) → y ≡ up m x → t.col k ≡ t.col y → y < k → (y < down m x) × (down m x ≤ k)
      after y k ak ne e c l =
          let au : active y ≡ true = subst (λ (n : ℕ). active n ≡ true) (sym e) (r.up_active x ax) in
          let dy : down m y ≡ x = ap (λ (n : ℕ). down m n) e ∙ r.down_up x ax in
          let cx : t.col y ≡ t.col x = ap (λ (n : ℕ). t.col n) e ∙ r.up_column x ax in
          let s = r.next y k au ak c l in
          let z = r.next x k ax ak (c ∙ cx) (omega arith) in
          omega (arith, up_less)

-- the rings stand in the nodes' neighbours alone, and for the same active nodes
module _ {t : Matrix} {active active' : ℕ → Bool} {m : List ℕ} (m' : List ℕ) (r : Rings t active m)
    (same : (x : ℕ) → active' x ≡ active x) (ue : (x : ℕ) → up m' x ≡ up m x) (de : (x : ℕ) → down m' x ≡ down m x) where
  was : (x : ℕ) → active' x ≡ true → active x ≡ true
  was x a = sym (same x) ∙ a

  pub rings_agree : Rings t active' m'
  rings_agree =
      record {
        bound = λ x h. r.bound x (was x h);
        heads = λ c h. same c ∙ r.heads c h;
        down_active = λ x h. ap active' (de x) ∙ same (down m x) ∙ r.down_active x (was x h);
        up_active = λ x h. ap active' (ue x) ∙ same (up m x) ∙ r.up_active x (was x h);
        down_column = λ x h. ap t.col (de x) ∙ r.down_column x (was x h);
        up_column = λ x h. ap t.col (ue x) ∙ r.up_column x (was x h);
        up_down = λ x h. ap (λ (n : ℕ). up m' n) (de x) ∙ ue (down m x) ∙ r.up_down x (was x h);
        down_up = λ x h. ap (λ (n : ℕ). down m' n) (ue x) ∙ de (up m x) ∙ r.down_up x (was x h);
        wrap = λ x h l. de x ∙ r.wrap x (was x h) (omega (arith, de x));
        next = λ x k h hk c l. omega (arith, de x, r.next x k (was x h) (was k hk) c l);
      }

pub without_other : (active : ℕ → Bool) (x y : ℕ) → (y ≡ x → ⊥) → without active x y ≡ active y
unfolding without
without_other active x y h = ap (λ (b : Bool). cond b false (active y)) (ne_eqb y x h)
