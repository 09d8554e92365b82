-- A stretch of what `pack` prints: what was still to be printed before it is its bytes, and then what is still to be printed after it.
use Rattle.std.specs.Prelude.{ℕ, ◌+◌, ◌-◌, ◌<◌, ◌≤◌, Option, Some, None, List, [], ◌++◌, ◌≡◌, IfSome, length, take, drop}
use Rattle.definitions.specs.Files.{packed, refused_line}
use Rattle.texts.specs.Put.{Put}
use Rattle.output.specs.Rest.{rest_from}
use Rattle.output.specs.Standing.{IsRead, Scratch, Standing, list_in}
use Rattle.output.specs.declared.Held.{Held}
use Rattle.output.specs.declared.Progress.{Progress}
use Rattle.output.specs.declared.Progress.TheVariants.{Unbegun, Begun}
use Rattle.output.specs.declared.Stretch.{Stretch}

-- ---- what is still to be printed
-- of a listing
unfoldable pub rest_at : List ℕ → Held → List ℕ
rest_at text p = rest_from (p.base + p.from) (list_in text)

-- at all: before the beginning, whatever the text is, it is document 01's `packed`
abbrev pub rest_of : List ℕ → Progress → List ℕ
rest_of text Unbegun = packed text
rest_of text (Begun p) = rest_at text p

-- after a stretch: nothing where it was the last
abbrev pub rest_after : List ℕ → Option Progress → List ℕ
rest_after text None = []
rest_after text (Some p) = rest_of text p

-- how many steps can follow: a step that is not the last prints an entry, and entry numbers have 64 bits
abbrev pub left : Progress → ℕ
left Unbegun = 18446744073709551617
left (Begun p) = 18446744073709551616 - (p.base + p.from)

-- ---- the lent slices
-- each is long enough for any text, and the work words and links are as many as document 01 has them
pub record Room (cells answers work links : List ℕ) : Type 0 where
  pub long_cells : 16384 ≤ length cells
  pub long_answers : 1024 ≤ length answers
  pub few_answers : length answers < 4611686018427387904
  pub words : length work ≡ 8192
  pub numbers : length links ≡ 32768

-- once the output has begun, what the steps before left there
pub record Left (text : List ℕ) (p : Held) (cells answers work links : List ℕ) : Type 0 where
  pub read : IsRead text p.asked cells work links
  pub standing : Standing text p answers

abbrev pub LeftBy : List ℕ → Progress → List ℕ → List ℕ → List ℕ → List ℕ → Type 0
LeftBy text Unbegun cells answers work links = Unit {0}
LeftBy text (Begun p) cells answers work links = Left text p cells answers work links

-- what a step asks of them
pub record Ready (text : List ℕ) (p : Progress) (cells answers work links : List ℕ) : Type 0 where
  pub room : Room cells answers work links
  pub left_there : LeftBy text p cells answers work links

-- ---- stretches
-- lines of a listing, or its last line; the same listing, further on, where more is to be printed
abbrev pub Onward : List ℕ → Held → List ℕ → Option Progress → Type 0
Onward text p answers' None = Unit {0}
Onward text p answers' (Some Unbegun) = ⊥
Onward text p answers' (Some (Begun q)) = Standing text q answers' × (q.asked ≡ p.asked) × (p.base + p.from < q.base + q.from)

pub record Made (text : List ℕ) (p : Held) (old answers' out' : List ℕ) (r : Stretch) : Type 0 where
  pub some : 1 ≤ r.made
  pub fits : r.made ≤ length old
  pub behind : drop r.made out' ≡ drop r.made old
  pub rest : rest_at text p ≡ take r.made out' ++ rest_after text r.next
  pub onward : Onward text p answers' r.next

-- a refusal's line, alone
pub record RefusedMade (number : ℕ) (old out' : List ℕ) (r : Stretch) : Type 0 where
  pub put : Put old 0 (refused_line number) out' r.made
  pub fits : r.made ≤ 64
  pub is_last : r.next ≡ None

-- the cells stay once a text is read into them
abbrev pub KeptBy : Progress → List ℕ → List ℕ → Type 0
KeptBy Unbegun cells cells' = Unit {0}
KeptBy (Begun p) cells cells' = cells' ≡ cells

-- What a step leaves: its bytes at the start of `out`, at least one, and what lay behind them; what is still to be printed; slices that serve the next step,
-- which comes nearer to the end. The first 16,384 cells are free until a text is read into them, and then stay; the answer buffer is free but for the entries
-- that stand in it (`Ready`).
pub record Stepped (text : List ℕ) (p : Progress) (cells work links out cells' answers' work' links' out' : List ℕ) (r : Stretch) : Type 0 where
  pub some : 1 ≤ r.made
  pub fits : r.made ≤ length out
  pub behind : drop r.made out' ≡ drop r.made out
  pub rest : rest_of text p ≡ take r.made out' ++ rest_after text r.next
  pub ready : IfSome r.next (λ q. Ready text q cells' answers' work' links')
  pub nearer : IfSome r.next (λ q. left q < left p)
  pub cells_behind : drop 16384 cells' ≡ drop 16384 cells
  pub cells_kept : KeptBy p cells cells'
  pub scratch : Scratch work links work' links'
