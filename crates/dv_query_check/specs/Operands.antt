-- A condition's value is one of its column's kind, whatever the kind's limits, or a number of days.
use Rattle.std.specs.Prelude.{ℕ, ℤ, pos, negsuc, List, Bool, true, false, not, ◌&&◌, int_le, nat_le, Option, position, encode_utf8_all}
use Rattle.std.specs.Option.{is_some}
use Rattle.dv_value.specs.Amount.{amount_of}
use Rattle.dv_value.specs.Ids.{id_of}
use Rattle.dv_value.specs.Moment.{moment_of}
use Rattle.dv_value.specs.declared.kind.Kind.{Kind}
use Rattle.dv_value.specs.declared.kind.Kind.TheVariants.{Flag, Whole, Choice, Amount, Moment, Text, Ref}
use Rattle.dv_value.specs.declared.raw.Raw.{Raw}
use Rattle.dv_value.specs.declared.raw.Raw.TheVariants as raw
use Rattle.dv_query.specs.declared.operator.Operator.{Operator}
use Rattle.dv_query_check.specs.declared.operators.Operands.{Operands}
use Rattle.dv_query_check.specs.declared.operators.Operands.TheVariants.{Nothing, One, Two, Several, Days}
use Rattle.dv_query_check.specs.Operators.{operands_of}

-- the most decimals that an amount has
abbrev pub most_decimals : ℕ
most_decimals = 4

-- the most days that a condition may count
abbrev pub most_days : ℤ
most_days = pos 10000

-- an integer of 32 bits
unfoldable pub is_short : ℤ → Bool
is_short n = int_le (negsuc 2147483647) n && int_le n (pos 2147483647)

-- truth values are of a flag
unfoldable pub is_flag : Kind → Bool
is_flag Flag = true
is_flag (Whole min max) = false
is_flag (Choice options) = false
is_flag (Amount scale) = false
is_flag Moment = false
is_flag (Text max) = false
is_flag Ref = false

-- integers are of a whole number or a choice
unfoldable pub is_integer : Kind → Bool
is_integer Flag = false
is_integer (Whole min max) = true
is_integer (Choice options) = true
is_integer (Amount scale) = false
is_integer Moment = false
is_integer (Text max) = false
is_integer Ref = false

-- an amount with at most so many decimals, which are four at most
unfoldable pub is_amount : ℕ → List ℕ → Bool
is_amount scale text = nat_le scale most_decimals && is_some (amount_of scale (encode_utf8_all text))

-- texts are of an amount, a moment, a text or an id, in its spelling
unfoldable pub is_written : Kind → List ℕ → Bool
is_written Flag text = false
is_written (Whole min max) text = false
is_written (Choice options) text = false
is_written (Amount scale) text = is_amount scale text
is_written Moment text = is_some (moment_of (encode_utf8_all text))
is_written (Text max) text = true
is_written Ref text = is_some (id_of (encode_utf8_all text))

-- a raw value of the kind, whatever its limits; null is none
unfoldable pub is_value : Kind → Raw → Bool
is_value kind raw.Null = false
is_value kind (raw.Bool flag) = is_flag kind
is_value kind (raw.Int n) = is_integer kind && is_short n
is_value kind (raw.Str text) = is_written kind text

-- a number of days, 1 at least
unfoldable pub is_days : Raw → Bool
is_days raw.Null = false
is_days (raw.Bool flag) = false
is_days (raw.Int n) = int_le (pos 1) n && int_le n most_days
is_days (raw.Str text) = false

-- a raw value that a condition may have on a column of the kind
unfoldable pub is_operand : Operands → Kind → Raw → Bool
is_operand Nothing kind value = is_value kind value
is_operand One kind value = is_value kind value
is_operand Two kind value = is_value kind value
is_operand Several kind value = is_value kind value
is_operand Days kind value = is_days value

-- the place of the first raw value that an operator may not have on a column of the kind
unfoldable pub first_wrong : Operator → Kind → List Raw → Option ℕ
first_wrong operator kind values = position (λ value. not (is_operand (operands_of operator) kind value)) values
