-- Laws of packings: the order of placements, the test and the record, and when two packings are the same. Assumes nothing.
use Prim.Native.Nat.{ℕ, ◌≤◌, ◌<◌}
use mathlib.Core.Bool.{◌&&◌}
use mathlib.Core.List.{List, [], ◌∷◌, Memᴰ, head-eq_of_cons-eq, tail-eq_of_cons-eq}
use mathlib.Core.Path.{◌≡◌, sym, subst}
use native.Mathlib.Omega.{arith}
use lib.Dec.{T, leb, eqb, leb→le, eqb→eq}
use lib.ListN.{length, get_or}
use Rattle.lists.specs.Lists.{any, below, member, same, ascending}
use Rattle.lists.proofs.TestLaws.{and_left, and_right, and_both}
use Rattle.lists.proofs.ListLaws.{all_at, any_at, how_many_one, how_many_any}
use Rattle.lists.proofs.SortLaws.{same→eq, same_refl, less_irrefl, less_trans}
use Rattle.lists.proofs.RangeLaws.{below_of, member_of, member_at}
use Rattle.definitions.specs.Placements.{Placement, Compiled}
use Rattle.definitions.specs.Packing.{rank, ahead, same_placement, covering, used, limits, placed, covers_once, within_copies, Packing, is_packing}

pub ahead_trans : (q r s : Placement) → T (ahead q r) → T (ahead r s) → T (ahead q s)
unfolding ahead
ahead_trans q r s h k = less_trans (rank q) (rank r) (rank s) h k

pub ahead_irrefl : (q : Placement) → T (ahead q q) → ⊥
unfolding ahead
ahead_irrefl q h = less_irrefl (rank q) h

pub same_placement_refl : (q : Placement) → T (same_placement q q)
unfolding same_placement
same_placement_refl q = and_both (same (rank q) (rank q)) (same q.cells q.cells) (same_refl (rank q)) (same_refl q.cells)

pub same_placement→eq : (q r : Placement) → T (same_placement q r) → q ≡ r
unfolding same_placement rank
same_placement→eq q r t = λ i. record { kind = k i; p = p i; j = j i; cells = l i }
  where
    e : ◌≡◌ {A = List ℕ} (q.kind ∷ q.p ∷ q.j ∷ []) (r.kind ∷ r.p ∷ r.j ∷ [])
    e = same→eq (q.kind ∷ q.p ∷ q.j ∷ []) (r.kind ∷ r.p ∷ r.j ∷ []) (and_left (same (rank q) (rank r)) (same q.cells r.cells) t)

    k : q.kind ≡ r.kind
    k = head-eq_of_cons-eq e

    p : q.p ≡ r.p
    p = head-eq_of_cons-eq (tail-eq_of_cons-eq e)

    j : q.j ≡ r.j
    j = head-eq_of_cons-eq (tail-eq_of_cons-eq (tail-eq_of_cons-eq e))

    l : q.cells ≡ r.cells
    l = same→eq q.cells r.cells (and_right (same (rank q) (rank r)) (same q.cells r.cells) t)

-- the test and the record
pub packing_of : (c : Compiled) (P : List Placement) → T (is_packing c P) → Packing c P
unfolding is_packing
packing_of c P t =
    let t₁ = and_right (ascending ahead P) (placed c P && (covers_once c P && within_copies c P)) t in
    let t₂ = and_right (placed c P) (covers_once c P && within_copies c P) t₁ in
    record {
      a_set = and_left (ascending ahead P) (placed c P && (covers_once c P && within_copies c P)) t;
      of_placements = and_left (placed c P) (covers_once c P && within_copies c P) t₁;
      covers = and_left (covers_once c P) (within_copies c P) t₂;
      within = and_right (covers_once c P) (within_copies c P) t₂;
    }

pub packing_test : (c : Compiled) (P : List Placement) → Packing c P → T (is_packing c P)
unfolding is_packing
packing_test c P h =
    and_both (ascending ahead P) (placed c P && (covers_once c P && within_copies c P)) h.a_set
    (and_both (placed c P) (covers_once c P && within_copies c P) h.of_placements (and_both (covers_once c P) (within_copies c P) h.covers h.within))

-- the parts of a packing, as facts
module _ (c : Compiled) (P : List Placement) (h : Packing c P) where
  pub packing_placed : (q : Placement) → Memᴰ q P → Memᴰ q c.placements
  unfolding placed
  packing_placed q m =
      let r = any_at (same_placement q) c.placements (all_at (λ r. any (same_placement r) c.placements) P h.of_placements m) in
      subst (λ (z : Placement). Memᴰ z c.placements) (sym (same_placement→eq q r.0 r.2)) r.1

  pub packing_covers : (n : ℕ) → n < length c.cells → covering P n ≡ 1
  unfolding covers_once
  packing_covers n k = eqb→eq (covering P n) 1 (all_at (λ m. eqb (covering P m) 1) (below (length c.cells)) h.covers (below_of (length c.cells) k))

  pub packing_within : (k : ℕ) → k < length c.kinds → used P k ≤ get_or (limits c) k 0
  unfolding within_copies
  packing_within k l = leb→le (used P k) (get_or (limits c) k 0) (all_at (λ i. leb (used P i) (get_or (limits c) i 0)) (below (length c.kinds)) h.within (below_of (length c.kinds) l))

  -- two placements of a packing that share a cell are the same
  pub packing_once : (n : ℕ) → n < length c.cells → (q r : Placement) → Memᴰ q P → Memᴰ r P → Memᴰ n q.cells → Memᴰ n r.cells → q ≡ r
  unfolding covering
  packing_once n k q r a b s t =
      how_many_one (λ z. member n z.cells) P (packing_covers n k) a b (member_of q.cells s) (member_of r.cells t)

  -- a cell of the board is covered by a placement
  pub packing_at : (n : ℕ) → n < length c.cells → (q : Placement) × Memᴰ q P × Memᴰ n q.cells
  unfolding covering
  packing_at n k =
      let one = packing_covers n k in
      let r = any_at (λ (z : Placement). member n z.cells) P (how_many_any (λ (z : Placement). member n z.cells) P (omega arith)) in
      (r.0, r.1, member_at n r.0.cells r.2)
