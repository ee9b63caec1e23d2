-- Lines of text as bytes. Definitions only.
use Rattle.std.specs.Prelude.{List, [] as []ᴸ, ◌∷◌ as ◌∷ᴸ◌, ◌++◌, ℕ}
use Prim.Native.Char.{code}
use Prim.Native.String.{String, [], ◌∷◌}

-- The bytes of a text's characters.
unfoldable pub bytes : String → List ℕ
bytes [] = []ᴸ
bytes (c ∷ s) = code c ∷ᴸ bytes s

-- The bytes of lines, each ended by LF.
unfoldable pub ended : List String → List ℕ
ended []ᴸ = []ᴸ
ended (line ∷ᴸ lines) = bytes line ++ (10 ∷ᴸ ended lines)
