-- How many bytes the values of a row take.
use Rattle.std.specs.Prelude.{ℕ, ◌+◌, List, [], ◌∷◌, Option, length, nat_lt, chars, codes}
use Rattle.dv_value.specs.declared.value.Value.{Value}
use Rattle.dv_value.specs.Spelling.{spelling_of}
use Rattle.dv_refusal.specs.declared.refusal.Refusal.{Refusal}
use Rattle.dv_refusal.specs.declared.refusal.Refusal.TheVariants as answer
use Rattle.dv_message.specs.Checked.{refused_if}

-- how many bytes a value takes
abbrev pub size_of : Value → ℕ
size_of value = length (spelling_of value)

-- how many bytes values take together
unfoldable pub sizes_of : List Value → ℕ
sizes_of [] = 0
sizes_of (value ∷ values) = size_of value + sizes_of values

-- the most bytes that a row takes
abbrev pub most_bytes : ℕ
most_bytes = 4096

-- a row that is too large is refused as such
abbrev pub size_fault : List Value → Option Refusal
size_fault values = refused_if (nat_lt most_bytes (sizes_of values)) (answer.OutOfRange (chars (codes "row")))
