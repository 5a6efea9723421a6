-- The lines of an input: the pieces that line feeds end, and what stands behind the last line feed.
-- A piece of spaces, tabs and carriage returns alone is no line, however long it is.
use Rattle.std.specs.Prelude.{ℕ, ◌==◌, ◌||◌, List, [], ◌∷◌, ◌++◌, Bool, not, filter, Option, Some, None, length, nat_le, if◌then◌else◌}
use Rattle.std.specs.List.{list_all}
use Rattle.dv_service.specs.declared.line_buffer.TheConstants.{LINE_LIMIT}

abbrev pub line_feed : ℕ
line_feed = 10

-- a space, a tab or a carriage return
abbrev pub is_blank_byte : ℕ → Bool
is_blank_byte b = b == 32 || b == 9 || b == 13

-- whether the piece is a line
unfoldable pub has_content : List ℕ → Bool
has_content piece = not (list_all is_blank_byte piece)

-- the byte in front of the first piece
abbrev pub in_front : ℕ → List (List ℕ) × List ℕ → List (List ℕ) × List ℕ
in_front b ([], rest) = ([], b ∷ rest)
in_front b (piece ∷ pieces, rest) = ((b ∷ piece) ∷ pieces, rest)

-- the pieces that line feeds end, and what stands behind the last line feed
unfoldable pub split_of : List ℕ → List (List ℕ) × List ℕ
split_of [] = ([], [])
split_of (b ∷ bytes) = if b == line_feed then ([] ∷ (split_of bytes).0, (split_of bytes).1) else in_front b (split_of bytes)

-- the lines that have ended
unfoldable pub ended_lines : List ℕ → List (List ℕ)
ended_lines bytes = filter has_content (split_of bytes).0

-- what has come of the line that hasn't ended
unfoldable pub open_line : List ℕ → List ℕ
open_line bytes = (split_of bytes).1

-- all lines of an input that has come to its end, which ends its last line
abbrev pub lines_of : List ℕ → List (List ℕ)
lines_of bytes = ended_lines bytes ++ filter has_content (open_line bytes ∷ [])

-- the line, unless it is longer than the lines that are read
unfoldable pub within_limit : List ℕ → Option (List ℕ)
within_limit line = if nat_le (length line) LINE_LIMIT then Some line else None
