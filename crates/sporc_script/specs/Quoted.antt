-- Texts in double quotes.
use Rattle.std.specs.Prelude.{ℕ, List, ◌++◌, if◌then◌else◌, ◌==◌, flat_map, codes, encode_utf8}

-- a character as it stands in a quoted text: three have escapes, the others stand for themselves
abbrev pub escape : ℕ → List ℕ
escape c =
    if c == 92 then codes "\\\\"
    else (if c == 34 then codes "\\\"" else (if c == 10 then codes "\\n" else encode_utf8 c))

-- a text, given by its characters, in quotes
abbrev pub quoted : List ℕ → List ℕ
quoted text = codes "\"" ++ (flat_map escape text ++ codes "\"")
