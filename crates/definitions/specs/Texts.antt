-- Texts as bytes. Nothing here is of document 01.
use Rattle.std.specs.Prelude.{ℕ, List, [], ◌∷◌}
use Prim.Native.Char.{code}
use Prim.Native.String.{String, [] as []ₛ, ◌∷◌ as ◌∷ₛ◌}

-- the bytes of a text of plain characters
abbrev pub text : String → List ℕ
text []ₛ = []
text (c ∷ₛ rest) = code c ∷ text rest
