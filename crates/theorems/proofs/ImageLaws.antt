-- Images of packings: what an image holds, and how images go back and on. Assumes nothing.
use Prim.Native.Nat.{ℕ, ◌<◌}
use mathlib.Core.Bool.{Bool, false}
use mathlib.Core.List.Memᴰ
use mathlib.Core.List.{List, ◌∷◌, map, Memᴰ, head-eq_of_cons-eq, tail-eq_of_cons-eq}
use mathlib.Core.Path.{◌≡◌, refl, sym, ap, ap₂, ◌∙◌, subst}
use lib.Dec.{T, ltb}
use lib.ListN.{length, get_or}
use Rattle.lists.specs.Lists.{any, ascending, sort, same}
use Rattle.lists.proofs.TestLaws.{ltb_tied, ltb_trans, ltb_irrefl}
use Rattle.lists.proofs.ListLaws.{any_at, any_of, keep_at, keep_of}
use Rattle.lists.proofs.SortLaws.{keep_ascending, same→eq, same_refl, ascending_unique, sort_ascending, sort_at, sort_of}
use Rattle.definitions.specs.Grid.{Cell}
use Rattle.definitions.specs.Scan.{scan_number}
use Rattle.definitions.specs.Placements.{Placement, Compiled}
use Rattle.definitions.specs.Packing.{ahead, Packing}
use Rattle.theorems.proofs.PackingLaws.{ahead_trans, ahead_irrefl, packing_placed, packing_once, packing_at}
use Rattle.definitions.specs.Kept.{kind_after, cell_after, moved, image}
use Rattle.definitions.specs.Moves.{CarriedOnto}
use Rattle.theorems.proofs.SearchLaws.{WellMade}

-- the cells of the board and their scan numbers are one to one, and a placement is given by its kind and cells
pub record Numbered (c : Compiled) : Type 0 where
  pub cell_in : (n : ℕ) → n < length c.cells → Memᴰ (get_or c.cells n (record { x = 0; y = 0; z = 0 })) c.cells
  pub number_cell : (n : ℕ) → n < length c.cells → scan_number c.cells (get_or c.cells n (record { x = 0; y = 0; z = 0 })) ≡ n
  pub number_below : (u : Cell) → Memᴰ u c.cells → scan_number c.cells u < length c.cells
  pub cell_number : (u : Cell) → Memᴰ u c.cells → get_or c.cells (scan_number c.cells u) (record { x = 0; y = 0; z = 0 }) ≡ u
  pub by_cells : (q r : Placement) → Memᴰ q c.placements → Memᴰ r c.placements → q.kind ≡ r.kind → q.cells ≡ r.cells → q ≡ r

module _ (c : Compiled) (w : WellMade c) (nu : Numbered c) where
  -- f takes board cells to board cells
  abbrev pub Onto : (Cell → Cell) → Type 0
  Onto f = (u : Cell) → Memᴰ u c.cells → Memᴰ (f u) c.cells

  pub after_below : (f : Cell → Cell) → Onto f → (n : ℕ) → n < length c.cells → cell_after c f n < length c.cells
  unfolding cell_after
  after_below f h n k = nu.number_below (f (get_or c.cells n (record { x = 0; y = 0; z = 0 }))) (h (get_or c.cells n (record { x = 0; y = 0; z = 0 })) (nu.cell_in n k))

  pub after_after : (f g : Cell → Cell) → Onto f → (n : ℕ) → n < length c.cells → cell_after c g (cell_after c f n) ≡ cell_after c (λ u. g (f u)) n
  unfolding cell_after
  after_after f g h n k =
      ap (λ (u : Cell). scan_number c.cells (g u)) (nu.cell_number (f (get_or c.cells n (record { x = 0; y = 0; z = 0 }))) (h (get_or c.cells n (record { x = 0; y = 0; z = 0 })) (nu.cell_in n k)))

  after_same : (f g : Cell → Cell) → ((u : Cell) → Memᴰ u c.cells → f u ≡ g u) → (n : ℕ) → n < length c.cells → cell_after c f n ≡ cell_after c g n
  unfolding cell_after
  after_same f g e n k = ap (scan_number c.cells) (e (get_or c.cells n (record { x = 0; y = 0; z = 0 })) (nu.cell_in n k))

  pub after_still : (f : Cell → Cell) → ((u : Cell) → Memᴰ u c.cells → f u ≡ u) → (n : ℕ) → n < length c.cells → cell_after c f n ≡ n
  unfolding cell_after
  after_still f e n k = ap (scan_number c.cells) (e (get_or c.cells n (record { x = 0; y = 0; z = 0 })) (nu.cell_in n k)) ∙ nu.number_cell n k

  -- f carries the placement r onto q
  pub record Onto-placement (odd : Bool) (f : Cell → Cell) (r q : Placement) : Type 0 where
    pub kinds : q.kind ≡ kind_after c odd r.kind
    pub there : (n : ℕ) → Memᴰ n r.cells → Memᴰ (cell_after c f n) q.cells
    pub back : (n : ℕ) → Memᴰ n q.cells → (m : ℕ) × Memᴰ m r.cells × (cell_after c f m ≡ n)

  module _ (odd : Bool) (f : Cell → Cell) (P : List Placement) where
    pub image-at : (q : Placement) → Memᴰ q (image c odd f P) → Memᴰ q c.placements × ((r : Placement) × Memᴰ r P × Onto-placement odd f r q)
    unfolding image moved
    image-at q m =
        let x = keep_at (λ (z : Placement). any (same (z.kind ∷ z.cells)) (map (moved c odd f) P)) c.placements m in
        let y = any_at (same (q.kind ∷ q.cells)) (map (moved c odd f) P) x.1 in
        let r = Memᴰ.of_map (moved c odd f) P y.1 in
        let e : ◌≡◌ {A = List ℕ} (q.kind ∷ q.cells) (moved c odd f r.0) = same→eq (q.kind ∷ q.cells) y.0 y.2 ∙ sym r.2 in
        let l : q.cells ≡ sort ltb (map (cell_after c f) r.0.cells) = tail-eq_of_cons-eq e in (
          x.0,
          (
            r.0,
            r.1,
            record {
              kinds = head-eq_of_cons-eq e;
              there = λ n k. subst (λ (xs : List ℕ). Memᴰ (cell_after c f n) xs) (sym l) (sort_of ltb ltb_tied (map (cell_after c f) r.0.cells) (Memᴰ.map (cell_after c f) k));
              back = λ n k. Memᴰ.of_map (cell_after c f) r.0.cells (sort_at ltb (map (cell_after c f) r.0.cells) (subst (λ (xs : List ℕ). Memᴰ n xs) l k));
            },
          ),
        )

    pub image-of : (q r : Placement) → Memᴰ q c.placements → Memᴰ r P → Onto-placement odd f r q → Memᴰ q (image c odd f P)
    unfolding image moved
    image-of q r m k o =
        keep_of (λ (z : Placement). any (same (z.kind ∷ z.cells)) (map (moved c odd f) P)) c.placements m
        (any_of (same (q.kind ∷ q.cells)) (map (moved c odd f) P) (Memᴰ.map (moved c odd f) k) (subst (λ (xs : List ℕ). T (same (q.kind ∷ q.cells) xs)) equal (same_refl (q.kind ∷ q.cells))))
      where
        cells_equal : q.cells ≡ sort ltb (map (cell_after c f) r.cells)
        cells_equal =
            ascending_unique ltb ltb_trans ltb_irrefl q.cells (sort ltb (map (cell_after c f) r.cells)) (w.cells_ascend q m) (sort_ascending ltb ltb_trans (map (cell_after c f) r.cells))
            (λ n a. let x = o.back n a in sort_of ltb ltb_tied (map (cell_after c f) r.cells) (Memᴰ.cast (sym x.2) (Memᴰ.map (cell_after c f) x.1)))
            (λ n a. let x = Memᴰ.of_map (cell_after c f) r.cells (sort_at ltb (map (cell_after c f) r.cells) a) in Memᴰ.cast (sym x.2) (o.there x.0 x.1))

        equal : ◌≡◌ {A = List ℕ} (q.kind ∷ q.cells) (kind_after c odd r.kind ∷ sort ltb (map (cell_after c f) r.cells))
        equal = ap₂ (λ (n : ℕ) (xs : List ℕ). n ∷ xs) o.kinds cells_equal

    pub image_ascending : T (ascending ahead (image c odd f P))
    unfolding image
    image_ascending = keep_ascending ahead (λ (z : Placement). any (same (z.kind ∷ z.cells)) (map (moved c odd f) P)) c.placements w.in_order

  -- placements carried onto placements of one kind with the same cells
  pub same_cells : (q r : Placement) → Memᴰ q c.placements → Memᴰ r c.placements → q.kind ≡ r.kind
      → ((n : ℕ) → Memᴰ n q.cells → Memᴰ n r.cells) → ((n : ℕ) → Memᴰ n r.cells → Memᴰ n q.cells) → q ≡ r
  same_cells q r a b k f g = nu.by_cells q r a b k (ascending_unique ltb ltb_trans ltb_irrefl q.cells r.cells (w.cells_ascend q a) (w.cells_ascend r b) f g)

  -- the identity leaves a packing as it is
  pub image_still : (f : Cell → Cell) → ((u : Cell) → Memᴰ u c.cells → f u ≡ u) → (P : List Placement) → Packing c P → image c false f P ≡ P
  unfolding kind_after
  image_still f e P g = ascending_unique ahead ahead_trans ahead_irrefl (image c false f P) P (image_ascending false f P) g.a_set there back
    where
      at : (r : Placement) → Memᴰ r P → (n : ℕ) → Memᴰ n r.cells → cell_after c f n ≡ n
      at r m n k = after_still f e n (w.on_board r (packing_placed c P g r m) n k)

      there : (q : Placement) → Memᴰ q (image c false f P) → Memᴰ q P
      there q m =
          let x = image-at false f P q m in
          let r = x.1.0 in
          let o = x.1.2 in
          Memᴰ.cast (same_cells q r x.0 (packing_placed c P g r x.1.1) o.kinds
          (λ n k. let y = o.back n k in Memᴰ.cast (sym y.2 ∙ at r x.1.1 y.0 y.1) y.1)
          (λ n k. Memᴰ.cast (sym (at r x.1.1 n k)) (o.there n k))) x.1.1

      back : (q : Placement) → Memᴰ q P → Memᴰ q (image c false f P)
      back q m =
          image-of false f P q q (packing_placed c P g q m) m
          (record { kinds = refl; there = λ n k. Memᴰ.cast (at q m n k) k; back = λ n k. (n, k, at q m n k) })

  pub numbers_inj : (f : Cell → Cell) → Onto f → ((u v : Cell) → Memᴰ u c.cells → Memᴰ v c.cells → f u ≡ f v → u ≡ v)
      → (n m : ℕ) → n < length c.cells → m < length c.cells → cell_after c f n ≡ cell_after c f m → n ≡ m
  unfolding cell_after
  numbers_inj f on inj n m a b i =
      let u = get_or c.cells n (record { x = 0; y = 0; z = 0 }) in
      let v = get_or c.cells m (record { x = 0; y = 0; z = 0 }) in
      let p = on u (nu.cell_in n a) in
      let q = on v (nu.cell_in m b) in
      let j : f u ≡ f v = sym (nu.cell_number (f u) p) ∙ ap (λ (k : ℕ). get_or c.cells k (record { x = 0; y = 0; z = 0 })) i ∙ nu.cell_number (f v) q in
      sym (nu.number_cell n a) ∙ ap (scan_number c.cells) (inj u v (nu.cell_in n a) (nu.cell_in m b) j) ∙ nu.number_cell m b

  -- where the image is a packing, each placement has its image in it
  module _ (odd : Bool) (f : Cell → Cell) (on : Onto f) (inj : (u v : Cell) → Memᴰ u c.cells → Memᴰ v c.cells → f u ≡ f v → u ≡ v)
      (P Q : List Placement) (g : Packing c P) (h : Packing c Q) (e : image c odd f P ≡ Q) where
    after_inj : (n m : ℕ) → n < length c.cells → m < length c.cells → cell_after c f n ≡ cell_after c f m → n ≡ m
    unfolding cell_after
    after_inj n m a b i =
        let u = get_or c.cells n (record { x = 0; y = 0; z = 0 }) in
        let v = get_or c.cells m (record { x = 0; y = 0; z = 0 }) in
        let p = on u (nu.cell_in n a) in
        let q = on v (nu.cell_in m b) in
        let j : f u ≡ f v = sym (nu.cell_number (f u) p) ∙ ap (λ (k : ℕ). get_or c.cells k (record { x = 0; y = 0; z = 0 })) i ∙ nu.cell_number (f v) q in
        sym (nu.number_cell n a) ∙ ap (scan_number c.cells) (inj u v (nu.cell_in n a) (nu.cell_in m b) j) ∙ nu.number_cell m b

    in_image : (q : Placement) → Memᴰ q Q → Memᴰ q c.placements × ((r : Placement) × Memᴰ r P × Onto-placement odd f r q)
    in_image q m = image-at odd f P q (subst (λ (L : List Placement). Memᴰ q L) (sym e) m)

    pub has_image : (r : Placement) → Memᴰ r P → (q : Placement) × Memᴰ q Q × Onto-placement odd f r q
    has_image r m = (q.0, q.1, subst (λ (z : Placement). Onto-placement odd f z q.0) r_is x.1.2)
      where
        row : Memᴰ r c.placements
        row = packing_placed c P g r m

        pb : r.p < length c.cells
        pb = w.on_board r row r.p (w.covers_p r row)

        q : (z : Placement) × Memᴰ z Q × Memᴰ (cell_after c f r.p) z.cells
        q = packing_at c Q h (cell_after c f r.p) (after_below f on r.p pb)

        x : Memᴰ q.0 c.placements × ((z : Placement) × Memᴰ z P × Onto-placement odd f z q.0)
        x = in_image q.0 q.1

        y : (n : ℕ) × Memᴰ n x.1.0.cells × (cell_after c f n ≡ cell_after c f r.p)
        y = x.1.2.back (cell_after c f r.p) q.2

        n_is : y.0 ≡ r.p
        n_is = after_inj y.0 r.p (w.on_board x.1.0 (packing_placed c P g x.1.0 x.1.1) y.0 y.1) pb y.2

        r_is : x.1.0 ≡ r
        r_is = packing_once c P g r.p pb x.1.0 r x.1.1 m (Memᴰ.cast (sym n_is) y.1) (w.covers_p r row)

  -- the image under a function that agrees on the board's cells
  pub image_same : (odd : Bool) (f g : Cell → Cell) → ((u : Cell) → Memᴰ u c.cells → f u ≡ g u) → (P : List Placement) → Packing c P → image c odd f P ≡ image c odd g P
  image_same odd f g e P h =
      ascending_unique ahead ahead_trans ahead_irrefl (image c odd f P) (image c odd g P) (image_ascending odd f P) (image_ascending odd g P) (half f g e) (half g f (λ u m. sym (e u m)))
    where
      half : (f' g' : Cell → Cell) → ((u : Cell) → Memᴰ u c.cells → f' u ≡ g' u) → (q : Placement) → Memᴰ q (image c odd f' P) → Memᴰ q (image c odd g' P)
      half f' g' i q m =
          let x = image-at odd f' P q m in
          let r = x.1.0 in
          let o = x.1.2 in
          let row = packing_placed c P h r x.1.1 in
          image-of odd g' P q r x.0 x.1.1
          (record {
            kinds = o.kinds;
            there = λ n k. Memᴰ.cast (sym (after_same f' g' i n (w.on_board r row n k))) (o.there n k);
            back = λ n k. let y = o.back n k in (y.0, y.1, sym (after_same f' g' i y.0 (w.on_board r row y.0 y.1)) ∙ y.2);
          })

  module _ (odd : Bool) (f g : Cell → Cell) (on : Onto f) (ong : Onto g) (gf : (u : Cell) → Memᴰ u c.cells → g (f u) ≡ u) (fg : (u : Cell) → Memᴰ u c.cells → f (g u) ≡ u)
      (kinds : (q r : Placement) → Memᴰ q c.placements → Memᴰ r c.placements → q.kind ≡ kind_after c odd r.kind → r.kind ≡ kind_after c odd q.kind)
      (P Q : List Placement) (p : Packing c P) (h : Packing c Q) (e : image c odd f P ≡ Q) where
    inj : (u v : Cell) → Memᴰ u c.cells → Memᴰ v c.cells → f u ≡ f v → u ≡ v
    inj u v a b i = sym (gf u a) ∙ ap g i ∙ gf v b

    gf_after : (n : ℕ) → n < length c.cells → cell_after c g (cell_after c f n) ≡ n
    gf_after n k = after_after f g on n k ∙ after_still (λ u. g (f u)) gf n k

    -- what f carries r onto, g carries back
    turned_back : (r q : Placement) → Memᴰ r c.placements → Memᴰ q c.placements → Onto-placement odd f r q → Onto-placement odd g q r
    turned_back r q a b o =
        record {
          kinds = kinds q r b a o.kinds;
          there = λ n k. let y = o.back n k in Memᴰ.cast (ap (cell_after c g) (sym y.2) ∙ gf_after y.0 (w.on_board r a y.0 y.1)) y.1;
          back = λ n k. (cell_after c f n, o.there n k, gf_after n (w.on_board r a n k));
        }

    pub image_back : image c odd g Q ≡ P
    image_back = ascending_unique ahead ahead_trans ahead_irrefl (image c odd g Q) P (image_ascending odd g Q) p.a_set there back
      where
        back : (r : Placement) → Memᴰ r P → Memᴰ r (image c odd g Q)
        back r m =
            let x = has_image odd f on inj P Q p h e r m in
            let row = packing_placed c P p r m in
            image-of odd g Q r x.0 row x.1 (turned_back r x.0 row (packing_placed c Q h x.0 x.1) x.2)

        there : (r : Placement) → Memᴰ r (image c odd g Q) → Memᴰ r P
        there r m =
            let x = image-at odd g Q r m in
            let q = x.1.0 in
            let y = in_image odd f on inj P Q p h e q x.1.1 in
            let s = y.1.0 in
            let a = packing_placed c P p s y.1.1 in
            let o = turned_back s q a y.0 y.1.2 in
            Memᴰ.cast (same_cells r s x.0 a (x.1.2.kinds ∙ sym o.kinds)
            (λ n k. let z = x.1.2.back n k in Memᴰ.cast (sym z.2) (o.there z.0 z.1))
            (λ n k. let z = o.back n k in Memᴰ.cast (sym z.2) (x.1.2.there z.0 z.1))) y.1.1

  module _ (odd odd' odd'' : Bool) (f g : Cell → Cell) (onf : Onto f) (ong : Onto g)
      (injf : (u v : Cell) → Memᴰ u c.cells → Memᴰ v c.cells → f u ≡ f v → u ≡ v) (injg : (u v : Cell) → Memᴰ u c.cells → Memᴰ v c.cells → g u ≡ g v → u ≡ v)
      (kinds : (q r : Placement) → Memᴰ q c.placements → Memᴰ r c.placements → q.kind ≡ kind_after c odd r.kind → kind_after c odd' q.kind ≡ kind_after c odd'' r.kind)
      (P Q R : List Placement) (p : Packing c P) (h : Packing c Q) (k : Packing c R) (e : image c odd f P ≡ Q) (i : image c odd' g Q ≡ R) where
    one_then : (r q s : Placement) → Memᴰ r c.placements → Memᴰ q c.placements → Onto-placement odd f r q → Onto-placement odd' g q s → Onto-placement odd'' (λ u. g (f u)) r s
    one_then r q s a b o o' =
        record {
          kinds = o'.kinds ∙ kinds q r b a o.kinds;
          there = λ n m. Memᴰ.cast (sym (after_after f g onf n (w.on_board r a n m))) (o'.there (cell_after c f n) (o.there n m));
          back = λ n m.
              let y = o'.back n m in
              let z = o.back y.0 y.1 in
              (z.0, z.1, sym (after_after f g onf z.0 (w.on_board r a z.0 z.1)) ∙ ap (cell_after c g) z.2 ∙ y.2);
        }

    pub image_next : image c odd'' (λ u. g (f u)) P ≡ R
    image_next = ascending_unique ahead ahead_trans ahead_irrefl (image c odd'' (λ u. g (f u)) P) R (image_ascending odd'' (λ u. g (f u)) P) k.a_set there back
      where
        back : (s : Placement) → Memᴰ s R → Memᴰ s (image c odd'' (λ u. g (f u)) P)
        back s m =
            let x = in_image odd' g ong injg Q R h k i s m in
            let y = in_image odd f onf injf P Q p h e x.1.0 x.1.1 in
            image-of odd'' (λ u. g (f u)) P s y.1.0 x.0 y.1.1 (one_then y.1.0 x.1.0 s (packing_placed c P p y.1.0 y.1.1) y.0 y.1.2 x.1.2)

        there : (s : Placement) → Memᴰ s (image c odd'' (λ u. g (f u)) P) → Memᴰ s R
        there s m =
            let x = image-at odd'' (λ u. g (f u)) P s m in
            let r = x.1.0 in
            let a = packing_placed c P p r x.1.1 in
            let q = has_image odd f onf injf P Q p h e r x.1.1 in
            let b = packing_placed c Q h q.0 q.1 in
            let t = has_image odd' g ong injg Q R h k i q.0 q.1 in
            let o = one_then r q.0 t.0 a b q.2 t.2 in
            Memᴰ.cast (same_cells s t.0 x.0 (packing_placed c R k t.0 t.1) (x.1.2.kinds ∙ sym o.kinds)
            (λ n l. let z = x.1.2.back n l in Memᴰ.cast (sym z.2) (o.there z.0 z.1))
            (λ n l. let z = o.back n l in Memᴰ.cast (sym z.2) (x.1.2.there z.0 z.1))) t.1

  -- Q is the image of P exactly if each placement of Q is carried onto by one of P, and then each of P is carried onto one of Q
  module _ (odd : Bool) (f : Cell → Cell) (on : Onto f) (inj : (u v : Cell) → Memᴰ u c.cells → Memᴰ v c.cells → f u ≡ f v → u ≡ v)
      (P Q : List Placement) (g : Packing c P) (h : Packing c Q) (from_P : (q : Placement) → Memᴰ q Q → (r : Placement) × Memᴰ r P × Onto-placement odd f r q) where
    its_image : (r : Placement) → Memᴰ r P → (q : Placement) × Memᴰ q Q × Onto-placement odd f r q
    its_image r m =
        let row = packing_placed c P g r m in
        let pb = w.on_board r row r.p (w.covers_p r row) in
        let q = packing_at c Q h (cell_after c f r.p) (after_below f on r.p pb) in
        let x = from_P q.0 q.1 in
        let y = x.2.back (cell_after c f r.p) q.2 in
        let n_is = numbers_inj f on inj y.0 r.p (w.on_board x.0 (packing_placed c P g x.0 x.1) y.0 y.1) pb y.2 in
        let r_is = packing_once c P g r.p pb x.0 r x.1 m (Memᴰ.cast (sym n_is) y.1) (w.covers_p r row) in
        (q.0, q.1, subst (λ (z : Placement). Onto-placement odd f z q.0) r_is x.2)

    pub image_is : image c odd f P ≡ Q
    image_is = ascending_unique ahead ahead_trans ahead_irrefl (image c odd f P) Q (image_ascending odd f P) h.a_set there back
      where
        back : (q : Placement) → Memᴰ q Q → Memᴰ q (image c odd f P)
        back q m = let x = from_P q m in image-of odd f P q x.0 (packing_placed c Q h q m) x.1 x.2

        there : (q : Placement) → Memᴰ q (image c odd f P) → Memᴰ q Q
        there q m =
            let x = image-at odd f P q m in
            let y = its_image x.1.0 x.1.1 in
            let o = x.1.2 in
            Memᴰ.cast (same_cells q y.0 x.0 (packing_placed c Q h y.0 y.1) (o.kinds ∙ sym y.2.kinds)
            (λ n k. let z = o.back n k in Memᴰ.cast (sym z.2) (y.2.there z.0 z.1))
            (λ n k. let z = y.2.back n k in Memᴰ.cast (sym z.2) (o.there z.0 z.1))) y.1

  -- ---- the document's words
  to_onto : (odd : Bool) (f : Cell → Cell) (r q : Placement) → CarriedOnto c odd f r q → Onto-placement odd f r q
  to_onto odd f r q o =
      record {
        kinds = o.kinds;
        there = λ n k. subst (λ (xs : List ℕ). Memᴰ (cell_after c f n) xs) (sym o.cells) (sort_of ltb ltb_tied (map (cell_after c f) r.cells) (Memᴰ.map (cell_after c f) k));
        back = λ n k. Memᴰ.of_map (cell_after c f) r.cells (sort_at ltb (map (cell_after c f) r.cells) (subst (λ (xs : List ℕ). Memᴰ n xs) o.cells k));
      }

  of_onto : (odd : Bool) (f : Cell → Cell) (r q : Placement) → Memᴰ q c.placements → Onto-placement odd f r q → CarriedOnto c odd f r q
  of_onto odd f r q m o =
      record {
        kinds = o.kinds;
        cells =
            ascending_unique ltb ltb_trans ltb_irrefl q.cells (sort ltb (map (cell_after c f) r.cells)) (w.cells_ascend q m) (sort_ascending ltb ltb_trans (map (cell_after c f) r.cells))
            (λ n a. let x = o.back n a in sort_of ltb ltb_tied (map (cell_after c f) r.cells) (Memᴰ.cast (sym x.2) (Memᴰ.map (cell_after c f) x.1)))
            (λ n a. let x = Memᴰ.of_map (cell_after c f) r.cells (sort_at ltb (map (cell_after c f) r.cells) a) in Memᴰ.cast (sym x.2) (o.there x.0 x.1));
      }

  module _ (odd : Bool) (f : Cell → Cell) (on : Onto f) (inj : (u v : Cell) → Memᴰ u c.cells → Memᴰ v c.cells → f u ≡ f v → u ≡ v)
      (P Q : List Placement) (g : Packing c P) (h : Packing c Q) where
    -- what is carried onto Q has Q for its image
    pub carried_image : ((q : Placement) → Memᴰ q Q → (r : Placement) × Memᴰ r P × CarriedOnto c odd f r q) → image c odd f P ≡ Q
    carried_image k = image_is odd f on inj P Q g h (λ q m. let x = k q m in (x.0, x.1, to_onto odd f x.0 q x.2))

    -- and its image is carried onto, placement by placement
    pub image_carried : image c odd f P ≡ Q
        → ((r : Placement) → Memᴰ r P → (q : Placement) × Memᴰ q Q × CarriedOnto c odd f r q) × ((q : Placement) → Memᴰ q Q → (r : Placement) × Memᴰ r P × CarriedOnto c odd f r q)
    image_carried e = (
      (λ r m. let x = has_image odd f on inj P Q g h e r m in (x.0, x.1, of_onto odd f r x.0 (packing_placed c Q h x.0 x.1) x.2)),
      (λ q m. let x = in_image odd f on inj P Q g h e q m in (x.1.0, x.1.1, of_onto odd f x.1.0 q x.0 x.1.2)),
    )
