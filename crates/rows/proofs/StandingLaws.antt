-- A row system in lent slices is ready. A `RowSystem` says that it is; what is ready is found there again: a member by a test of each entry. Assumes nothing.
use mathlib.Core.List.{List, Memᴰ}
use mathlib.Core.Bool.{Bool, not, ◌&&◌}
use mathlib.Core.Path.{◌≡◌, sym, subst}
use mathlib.Core.Logic.{◌⊎◌, inl, inr, ∥∥₁_elim, ∥∥₁_map}
use Prim.Native.Nat.{ℕ}
use lib.Dec.{T, eqb, eqb→eq, eqb_refl}
use Rattle.std.proofs.Props.{props}
use Rattle.lists.specs.Lists.{any, below, same}
use Rattle.lists.proofs.TestLaws.{decide, clash, and_left, and_right, and_both, eqb_of}
use Rattle.lists.proofs.ListLaws.{any_of, any_at}
use Rattle.lists.proofs.SortLaws.{same→eq, same_refl}
use Rattle.definitions.specs.Placements.{Placement}
use Rattle.rows.specs.Systems.{System, kind_by, cells_by, system_in}
use Rattle.rows.specs.Lawful.{Lawful, LawfulRow, ImageOf, allowed, after_by}
use Rattle.rows.specs.Ready.{Ready}
use Rattle.rows.specs.declared.row_system.RowSystem.{RowSystem}

-- ---- what is known to be in a list is found in it
module _ {A : Type 0} (p : A → Bool) (xs : List A) where
  found : ∥ ((x : A) × Memᴰ x xs × T (p x)) ∥₁ → (x : A) × Memᴰ x xs × T (p x)
  found t = go (decide (any p xs))
    where
      go : T (any p xs) ⊎ T (not (any p xs)) → (x : A) × Memᴰ x xs × T (p x)
      go (inl h) = any_at p xs h
      go (inr h) = absurd (∥∥₁_elim t (hlevel props) (λ w. clash (any p xs) (any_of p xs w.1 w.2) h))

number_in : (n : ℕ) (xs : List ℕ) → ∥ Memᴰ n xs ∥₁ → Memᴰ n xs
number_in n xs t =
    let w = found (eqb n) xs (∥∥₁_map t (λ m. (n, m, eqb_refl n))) in
    subst (λ (x : ℕ). Memᴰ x xs) (sym (eqb→eq n w.0 w.2)) w.1

list_in : (xs : List ℕ) (xss : List (List ℕ)) → ∥ Memᴰ xs xss ∥₁ → Memᴰ xs xss
list_in xs xss t =
    let w = found (same xs) xss (∥∥₁_map t (λ m. (xs, m, same_refl xs))) in
    subst (λ (ys : List ℕ). Memᴰ ys xss) (sym (same→eq xs w.0 w.2)) w.1

-- ---- the laws of a system
module _ (s : System) where
  row_of : (q : Placement) → ∥ LawfulRow s q ∥₁ → LawfulRow s q
  row_of q t = record {
    of_kind = ∥∥₁_elim t (hlevel props) (λ l. l.of_kind);
    ascend = ∥∥₁_elim t (hlevel props) (λ l. l.ascend);
    on_board = ∥∥₁_elim t (hlevel props) (λ l. l.on_board);
    covers_p = number_in q.p q.cells (∥∥₁_map t (λ l. l.covers_p));
    from_p = ∥∥₁_elim t (hlevel props) (λ l. l.from_p);
  }

  inverse_of : (odd : Bool) (f : List ℕ) → ∥ ((g : List ℕ) × Memᴰ g (allowed s odd) × (after_by s.size g f ≡ below s.size)) ∥₁
      → (g : List ℕ) × Memᴰ g (allowed s odd) × (after_by s.size g f ≡ below s.size)
  inverse_of odd f t =
      let test : List ℕ → Bool = λ g. same (after_by s.size g f) (below s.size) in
      let w = found test (allowed s odd) (∥∥₁_map t (λ v. (v.0, v.1, subst (λ (l : List ℕ). T (same (after_by s.size v.0 f) l)) v.2 (same_refl (after_by s.size v.0 f))))) in
      (w.0, w.1, same→eq (after_by s.size w.0 f) (below s.size) w.2)

  image_of : (odd : Bool) (f : List ℕ) (q : Placement) → ∥ ((r : Placement) × ImageOf s odd f q r) ∥₁ → (r : Placement) × ImageOf s odd f q r
  image_of odd f q t =
      let kind = kind_by s.partners odd q.kind in
      let cells = cells_by f q.cells in
      let w = found (λ r. eqb r.kind kind && same r.cells cells) s.rows
      (∥∥₁_map t (λ v. (v.0, v.1.is_row, and_both _ _ (eqb_of v.1.kind) (subst (λ (l : List ℕ). T (same v.0.cells l)) v.1.cells (same_refl v.0.cells))))) in
      (w.0, record { is_row = w.1; kind = eqb→eq _ _ (and_left _ _ w.2); cells = same→eq _ _ (and_right _ _ w.2) })

  lawful_of : ∥ Lawful s ∥₁ → Lawful s
  lawful_of t = record {
    few_cells = ∥∥₁_elim t (hlevel props) (λ l. l.few_cells);
    few_rows = ∥∥₁_elim t (hlevel props) (λ l. l.few_rows);
    few_kinds = ∥∥₁_elim t (hlevel props) (λ l. l.few_kinds);
    a_partner_each = ∥∥₁_elim t (hlevel props) (λ l. l.a_partner_each);
    few_copies = ∥∥₁_elim t (hlevel props) (λ l. l.few_copies);
    scanned = λ c h. number_in c s.scans (∥∥₁_map t (λ l. l.scanned c h));
    in_order = ∥∥₁_elim t (hlevel props) (λ l. l.in_order);
    row = λ q m. row_of q (∥∥₁_map t (λ l. l.row q m));
    by_cells = ∥∥₁_elim t (hlevel props) (λ l. l.by_cells);
    permutes = ∥∥₁_elim t (hlevel props) (λ l. l.permutes);
    identity = ∥∥₁_elim t (hlevel props) (λ l. l.identity);
    inverse = λ odd f m. inverse_of odd f (∥∥₁_map t (λ l. l.inverse odd f m));
    product = λ odd even f g m n. list_in _ _ (∥∥₁_map t (λ l. l.product odd even f g m n));
    partner_back = ∥∥₁_elim t (hlevel props) (λ l. l.partner_back);
    image = λ odd f m q n h. image_of odd f q (∥∥₁_map t (λ l. l.image odd f m q n h));
    copies_each = ∥∥₁_elim t (hlevel props) (λ l. l.copies_each);
  }

-- ---- what stands in slices
pub stands : (s : RowSystem) → Ready s.d s.work.now s.chart.now
stands s =
    let t = s.ready in record {
      lawful = lawful_of (system_in s.d s.work.now s.chart.now) (∥∥₁_map t (λ r. r.lawful));
      ranged = ∥∥₁_elim t (hlevel props) (λ r. r.ranged);
      rows_fit = ∥∥₁_elim t (hlevel props) (λ r. r.rows_fit);
      few_maps = ∥∥₁_elim t (hlevel props) (λ r. r.few_maps);
      few_places = ∥∥₁_elim t (hlevel props) (λ r. r.few_places);
      few_pieces = ∥∥₁_elim t (hlevel props) (λ r. r.few_pieces);
    }
