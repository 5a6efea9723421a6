-- Values are ordered by their kind, then by their number, then by the bytes of their text after Unicode default case folding. So texts that fold alike are equal.
use Rattle.std.specs.Prelude.{ℕ, ℤ, pos, List, [], encode_utf8_all, true, false}
use Rattle.std.specs.declared.cmp.Ordering.{Ordering}
use Rattle.std.specs.Ordering.{nat_cmp, int_cmp, ordering_then}
use Rattle.std.specs.Cmp.Lexicographic.{slice_cmp}
use Rattle.caseless.specs.Caseless.{default_case_fold}
use Rattle.dv_value.specs.Spelling.{tag_of}
use Rattle.dv_value.specs.declared.value.Value.{Value}
use Rattle.dv_value.specs.declared.value.Value.TheVariants.{Empty, Flag, Whole, Choice, Amount, Moment, Text, Ref}

-- what a value is ordered by within its kind, where that is a number of at most 64 bits; false is 0 and true is 1
unfoldable pub number_of : Value → ℤ
number_of Empty = pos 0
number_of (Flag false) = pos 0
number_of (Flag true) = pos 1
number_of (Whole number) = number
number_of (Choice number) = number
number_of (Amount amount) = amount
number_of (Moment seconds) = seconds
number_of (Text text) = pos 0
number_of (Ref id) = pos 0

-- the number of an id
unfoldable pub id_number_of : Value → ℕ
id_number_of Empty = 0
id_number_of (Flag flag) = 0
id_number_of (Whole number) = 0
id_number_of (Choice number) = 0
id_number_of (Amount amount) = 0
id_number_of (Moment seconds) = 0
id_number_of (Text text) = 0
id_number_of (Ref id) = id.0

-- the characters of a text
unfoldable pub characters_of : Value → List ℕ
characters_of Empty = []
characters_of (Flag flag) = []
characters_of (Whole number) = []
characters_of (Choice number) = []
characters_of (Amount amount) = []
characters_of (Moment seconds) = []
characters_of (Text text) = text
characters_of (Ref id) = []

-- the UTF-8 bytes of a text, case folded
unfoldable pub folded : List ℕ → List ℕ
folded text = encode_utf8_all (default_case_fold text)

-- the order of two texts
abbrev pub text_order : List ℕ → List ℕ → Ordering
text_order a b = slice_cmp nat_cmp (folded a) (folded b)

-- the order of two values
unfoldable pub order : Value → Value → Ordering
order a b =
    ordering_then (nat_cmp (tag_of a) (tag_of b)) (ordering_then (int_cmp (number_of a) (number_of b))
    (ordering_then (nat_cmp (id_number_of a) (id_number_of b)) (text_order (characters_of a) (characters_of b))))
