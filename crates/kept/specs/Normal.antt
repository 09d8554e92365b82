-- Which packing is kept, by row numbers. A packing is the ascending list of its rows' numbers; within a kind, ascending numbers are ascending (p, j).
-- Proved in proofs/NormalLaws: of a packing's rows, `normal` says what `kept` of document 01's definitions says of the packing.
use Rattle.std.specs.Prelude.{ℕ, ◌≤◌, Bool, true, false, cond, not, ◌&&◌, ◌||◌, List, [], ◌∷◌, map, ◌≡◌, ltb, leb, eqb, length, get_or}
use Rattle.lists.specs.Lists.{all, keep, each, how_many, below, less}
use Rattle.definitions.specs.Placements.{Placement}
use Rattle.definitions.specs.Kept.{Identify}
use Rattle.definitions.specs.Kept.Identify.{None, Turned, Mirrored}
use Rattle.rows.specs.Systems.{System, kind_by, moved_by, row_with}
use Rattle.rows.specs.Rows.{row_at}

-- a number put into an ascending list, behind those that are smaller; and a list in ascending order
abbrev pub insert_row : ℕ → List ℕ → List ℕ
insert_row r [] = r ∷ []
insert_row r (s ∷ ss) = let rest = s ∷ insert_row r ss in cond (ltb s r) rest (r ∷ s ∷ ss)

abbrev pub sort_rows : List ℕ → List ℕ
sort_rows [] = []
sort_rows (r ∷ rs) = insert_row r (sort_rows rs)

-- the row with a number; those of a list that are of a kind
abbrev pub no_row : Placement
no_row = record { kind = 0; p = 0; j = 0; cells = [] }

unfoldable pub row_of : System → ℕ → Placement
row_of s r = get_or s.rows r no_row

unfoldable pub of_kind : System → ℕ → List ℕ → List ℕ
of_kind s k rs = keep (λ r. eqb (row_of s r).kind k) rs

-- the number of a row's image, and the images that are of kind k: those of the rows whose kind becomes k
unfoldable pub image_of : System → Bool → List ℕ → ℕ → ℕ
image_of s odd to r = row_with s.rows (moved_by s.partners odd to (row_of s r))

unfoldable pub moved_rows : System → Bool → List ℕ → ℕ → List ℕ → List ℕ
moved_rows s odd to k rs = sort_rows (map (image_of s odd to) (of_kind s (kind_by s.partners odd k) rs))

-- "Two packings are compared kind by kind: fewer used copies is smaller, then the ascending list of (p, j)."
abbrev pub counted : List ℕ → List ℕ
counted rs = length rs ∷ rs

unfoldable pub key_of : System → List ℕ → List ℕ
key_of s rs = each (below (length s.copies)) (λ k. counted (of_kind s k rs))

unfoldable pub image_key : System → Bool → List ℕ → List ℕ → List ℕ
image_key s odd to rs = each (below (length s.copies)) (λ k. counted (moved_rows s odd to k rs))

unfoldable pub image_smaller : System → Bool → List ℕ → List ℕ → Bool
image_smaller s odd rs to = less (image_key s odd to rs) (key_of s rs)

-- the box holds the mirrored pieces: of each kind no more are used than its partner has copies (none where it has no partner)
unfoldable pub mirrorable : System → List ℕ → Bool
mirrorable s rs = all (λ k. leb (length (of_kind s k rs)) (get_or s.copies (kind_by s.partners true k) 0)) (below (length s.copies))

unfoldable pub normal : System → Identify → List ℕ → Bool
normal s None rs = true
normal s Turned rs = all (λ to. not (image_smaller s false rs to)) s.turned
normal s Mirrored rs =
    all (λ to. not (image_smaller s false rs to)) s.turned && (not (mirrorable s rs) || all (λ to. not (image_smaller s true rs to)) s.mirrored)

-- how many rows of a packing are of kinds before k: where those of kind k begin, if it goes kind by kind
unfoldable pub start_of : List ℕ → List ℕ → ℕ → ℕ
start_of work rows k = how_many (λ q. ltb q.kind k) (map (row_at work) rows)

-- for each kind, by these numbers, how many rows are of kinds before it; and behind them how many are of all kinds
abbrev pub KindStarts : List ℕ → List ℕ → ℕ → List ℕ → Type 0
KindStarts work rows kinds starts = (k : ℕ) → k ≤ kinds → get_or starts k 0 ≡ start_of work rows k

-- the rows stand kind by kind. (In no type: rows of one owner, by the kinds that another's system has.)
abbrev pub InKinds : System → List ℕ → Type 0
InKinds s rs = each (below (length s.copies)) (λ k. of_kind s k rs) ≡ rs
