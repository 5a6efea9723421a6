-- A value has one spelling in bytes: a tag that says its kind, and then what it holds. Numbers are big-endian, and signed ones are in two's complement.
use Rattle.std.specs.Prelude.{◌≡◌, ℕ, ◌<◌, ◌≤◌, ◌^◌, true, List, [], ◌∷◌, ◌++◌, length, take, encode_utf8_all, FitsSigned}
use Rattle.std.specs.Int.{Width, byte_len, to_be_bytes, cast_unsigned, from_bool, w32, w64, w128}
use Rattle.std.specs.Str.{all_scalars}
use Rattle.dv_value.specs.Moment.{IsMoment}
use Rattle.dv_value.specs.declared.value.Value.{Value}
use Rattle.dv_value.specs.declared.value.Value.TheVariants.{Empty, Flag, Whole, Choice, Amount, Moment, Text, Ref}

-- the number of the value's kind
unfoldable pub tag_of : Value → ℕ
tag_of Empty = 0
tag_of (Flag flag) = 1
tag_of (Whole number) = 2
tag_of (Choice number) = 3
tag_of (Amount amount) = 4
tag_of (Moment seconds) = 5
tag_of (Text text) = 6
tag_of (Ref id) = 7

-- the bytes of what the value holds; a text's begin with how many they are
unfoldable pub body_of : Value → List ℕ
body_of Empty = []
body_of (Flag flag) = from_bool flag ∷ []
body_of (Whole number) = to_be_bytes w32 (cast_unsigned w32 number)
body_of (Choice number) = to_be_bytes w32 (cast_unsigned w32 number)
body_of (Amount amount) = to_be_bytes w64 (cast_unsigned w64 amount)
body_of (Moment seconds) = to_be_bytes w64 (cast_unsigned w64 seconds)
body_of (Text text) = to_be_bytes w32 (length (encode_utf8_all text)) ++ encode_utf8_all text
body_of (Ref id) = to_be_bytes w128 id.0

-- the value's bytes
abbrev pub spelling_of : Value → List ℕ
spelling_of value = tag_of value ∷ body_of value

-- what holds of each value of a program: its numbers lie in their types, and its text is one of characters
unfoldable pub IsValue : Value → Type 0
IsValue Empty = Unit {0}
IsValue (Flag flag) = Unit {0}
IsValue (Whole number) = FitsSigned w32 number
IsValue (Choice number) = FitsSigned w32 number
IsValue (Amount amount) = FitsSigned w64 amount
IsValue (Moment seconds) = FitsSigned w64 seconds
IsValue (Text text) = all_scalars text ≡ true
IsValue (Ref id) = id.0 < 2 ^ 128

-- a moment out of a clock's range has no spelling, nor has a text that is too long for its length
unfoldable pub HasSpelling : Value → Type 0
HasSpelling Empty = Unit {0}
HasSpelling (Flag flag) = Unit {0}
HasSpelling (Whole number) = Unit {0}
HasSpelling (Choice number) = Unit {0}
HasSpelling (Amount amount) = Unit {0}
HasSpelling (Moment seconds) = IsMoment seconds
HasSpelling (Text text) = length (encode_utf8_all text) < 2 ^ 32
HasSpelling (Ref id) = Unit {0}

-- the first `len` of the bytes are the spelling of the value
pub record BeginsWith (bytes : List ℕ) (value : Value) (len : ℕ) : Type 0 where
  pub is_value : IsValue value
  pub has_spelling : HasSpelling value
  pub front : take len bytes ≡ spelling_of value
  pub within : len ≤ length bytes

-- the bytes begin with those of a number of that width
pub record BeginsWithNumber (width : Width) (bytes : List ℕ) (number : ℕ) : Type 0 where
  pub number_front : take (byte_len width) bytes ≡ to_be_bytes width number
  pub number_within : byte_len width ≤ length bytes
  pub number_fits : number < 256 ^ byte_len width
