-- Bytes as hexadecimal digits, and no bytes as `.`.
use Rattle.std.specs.Prelude.{◌≡◌, ◌<◌, ◌⊎◌, ℕ, List, [], ◌∷◌, length, codes, Ok}
use Rattle.hex.specs.Hex.{decode_of, encode_lower}

-- the word spells these bytes: a dot for no bytes, or two digits of either case for each byte
abbrev pub IsHexadecimal : List ℕ → List ℕ → Type 0
IsHexadecimal word bytes =
    ((word ≡ codes ".") × (bytes ≡ [])) ⊎ ((0 < length word) × (decode_of word ≡ Ok bytes))

-- the word that is printed for these bytes
abbrev pub hexadecimal_text : List ℕ → List ℕ
hexadecimal_text [] = codes "."
hexadecimal_text (byte ∷ rest) = encode_lower (byte ∷ rest)
