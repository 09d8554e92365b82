-- What std's words say of a text's parts, its tests and its words is what the definitions say. Assumes nothing.
use Rattle.std.proofs.Common.{◌≡◌, ℕ, Bool, cond, ◌&&◌, List, [], ◌∷◌, eqb, refl, ap, ◌∙◌}
use Rattle.std.specs.List.{slice_split, onto_first, list_all}
use Rattle.std.specs.Cmp.Lexicographic.{pointwise}
use Rattle.lists.specs.Lists.{all, same}
use Rattle.definitions.specs.Files.{on_first, parts}

first_are : (x : ℕ) (ws : List (List ℕ)) → onto_first x ws ≡ on_first x ws
first_are x [] = refl
first_are x (w ∷ ws) = refl

pub parts_are : (b : ℕ) (xs : List ℕ) → slice_split (λ x. eqb x b) xs ≡ parts b xs
parts_are b [] = refl
parts_are b (x ∷ xs) =
    ap (λ (ws : List (List ℕ)). cond (eqb x b) ([] ∷ ws) (onto_first x ws)) (parts_are b xs)
    ∙ ap (λ (ws : List (List ℕ)). cond (eqb x b) ([] ∷ parts b xs) ws) (first_are x (parts b xs))

pub all_are : (p : ℕ → Bool) (xs : List ℕ) → list_all p xs ≡ all p xs
all_are p [] = refl
all_are p (x ∷ xs) = ap (λ (t : Bool). p x && t) (all_are p xs)

pub same_are : (xs ys : List ℕ) → pointwise eqb xs ys ≡ same xs ys
same_are [] [] = refl
same_are [] (y ∷ ys) = refl
same_are (x ∷ xs) [] = refl
same_are (x ∷ xs) (y ∷ ys) = ap (λ (t : Bool). eqb x y && t) (same_are xs ys)
