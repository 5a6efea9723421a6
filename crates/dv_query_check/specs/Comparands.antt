-- A value that a condition gives is typed by its column's kind, whatever the kind's limits; a number of days is a whole number.
use Rattle.std.specs.Prelude.{ℕ, ℤ, pos, Bool, ◌&&◌, List, int_le, Option, Some, None, if◌then◌else◌, nat_le, option_map, encode_utf8_all}
use Rattle.dv_value.specs.Amount.{amount_of}
use Rattle.dv_value.specs.Ids.{id_of}
use Rattle.dv_value.specs.Moment.{moment_of}
use Rattle.dv_value.specs.declared.kind.Kind.{Kind}
use Rattle.dv_value.specs.declared.kind.Kind.TheVariants as kind
use Rattle.dv_value.specs.declared.raw.Raw.{Raw}
use Rattle.dv_value.specs.declared.raw.Raw.TheVariants as raw
use Rattle.dv_value.specs.declared.value.Value.{Value}
use Rattle.dv_value.specs.declared.value.Value.TheVariants.{Flag, Whole, Choice, Amount, Moment, Text, Ref}
use Rattle.dv_query_check.specs.declared.operators.Operands.{Operands}
use Rattle.dv_query_check.specs.declared.operators.Operands.TheVariants.{Nothing, One, Two, Several, Days}
use Rattle.dv_query_check.specs.Operands.{most_decimals, most_days, is_short}
use Rattle.dv_query_check.specs.Each.{each_of}
use Rattle.dv_query_check.specs.Operators.{operands_of}
use Rattle.dv_query.specs.declared.operator.Operator.{Operator}

-- the value that a truth value is in a kind
unfoldable pub flag_in : Kind → Bool → Option Value
flag_in kind.Flag flag = Some (Flag flag)
flag_in (kind.Whole min max) flag = None
flag_in (kind.Choice options) flag = None
flag_in (kind.Amount scale) flag = None
flag_in kind.Moment flag = None
flag_in (kind.Text max) flag = None
flag_in kind.Ref flag = None

-- the value that an integer is in a kind
unfoldable pub number_in : Kind → ℤ → Option Value
number_in kind.Flag n = None
number_in (kind.Whole min max) n = if is_short n then Some (Whole n) else None
number_in (kind.Choice options) n = if is_short n then Some (Choice n) else None
number_in (kind.Amount scale) n = None
number_in kind.Moment n = None
number_in (kind.Text max) n = None
number_in kind.Ref n = None

-- the amount that a text is, with at most so many decimals, which are four at most
unfoldable pub amount_in : ℕ → List ℕ → Option Value
amount_in scale text = if nat_le scale most_decimals then option_map Amount (amount_of scale (encode_utf8_all text)) else None

-- the value that a text is in a kind
unfoldable pub text_in : Kind → List ℕ → Option Value
text_in kind.Flag text = None
text_in (kind.Whole min max) text = None
text_in (kind.Choice options) text = None
text_in (kind.Amount scale) text = amount_in scale text
text_in kind.Moment text = option_map Moment (moment_of (encode_utf8_all text))
text_in (kind.Text max) text = Some (Text text)
text_in kind.Ref text = option_map (λ id. Ref (record { 0 = id })) (id_of (encode_utf8_all text))

-- the value that a raw value is in a kind
unfoldable pub value_in : Kind → Raw → Option Value
value_in kind raw.Null = None
value_in kind (raw.Bool flag) = flag_in kind flag
value_in kind (raw.Int n) = number_in kind n
value_in kind (raw.Str text) = text_in kind text

-- the whole number that a number of days is
unfoldable pub days_in : Raw → Option Value
days_in raw.Null = None
days_in (raw.Bool flag) = None
days_in (raw.Int n) = if int_le (pos 1) n && int_le n most_days then Some (Whole n) else None
days_in (raw.Str text) = None

-- the value that an operator compares a column of the kind with
unfoldable pub operand_in : Operands → Kind → Raw → Option Value
operand_in Nothing kind value = value_in kind value
operand_in One kind value = value_in kind value
operand_in Two kind value = value_in kind value
operand_in Several kind value = value_in kind value
operand_in Days kind value = days_in value

-- the values that an operator compares a column of the kind with
unfoldable pub operands_in : Operator → Kind → List Raw → Option (List Value)
operands_in operator kind values = each_of (operand_in (operands_of operator) kind) values
