-- An id is a number of 128 bits. It is read in any of the four forms of a UUID, and printed in one.
use Rattle.std.specs.Prelude.{ℕ, List, Option, option_map}
use Rattle.std.specs.Int.{from_be_bytes, to_be_bytes, w128}
use Rattle.uuid.specs.Text.{parsed, hyphenated_text, lower}

-- the number that a text says, in any of the four forms
unfoldable pub id_of : List ℕ → Option ℕ
id_of text = option_map (from_be_bytes w128) (parsed text)

-- the number in lower case with hyphens
unfoldable pub id_text : ℕ → List ℕ
id_text n = hyphenated_text lower (to_be_bytes w128 n)
