-- A text is a list of characters, and UTF-8 gives it its bytes.
use Rattle.std.specs.Prelude.{ℕ, List, Bool, ◌&&◌, chars, encode_utf8_all}
use Rattle.std.specs.Str.{all_scalars, bytes_eq}

-- whether the bytes are those of a text
unfoldable pub is_text : List ℕ → Bool
is_text bytes = all_scalars (chars bytes) && bytes_eq (encode_utf8_all (chars bytes)) bytes
