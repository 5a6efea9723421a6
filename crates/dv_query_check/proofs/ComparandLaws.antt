-- A value that a condition may have stands for a value of its column's kind.
use Rattle.std.proofs.Common.{◌≡◌, ℕ, ℤ, pos, Bool, true, false, ◌&&◌, nat_le, int_le, List, Option, Some, None, if◌then◌else◌, option_map, encode_utf8_all, refl}
use Rattle.std.specs.Option.{is_some}
use Rattle.dv_value.specs.Amount.{amount_of}
use Rattle.dv_value.specs.Ids.{id_of}
use Rattle.dv_value.specs.Moment.{moment_of}
use Rattle.dv_value.specs.declared.kind.Kind.{Kind}
use Rattle.dv_value.specs.declared.kind.Kind.TheVariants as kind
use Rattle.dv_value.specs.declared.raw.Raw.{Raw}
use Rattle.dv_value.specs.declared.raw.Raw.TheVariants as raw
use Rattle.dv_value.specs.declared.value.Value.TheVariants.{Amount, Moment}
use Rattle.dv_query_check.specs.declared.operators.Operands.{Operands}
use Rattle.dv_query_check.specs.declared.operators.Operands.TheVariants.{Nothing, One, Two, Several, Days}
use Rattle.dv_query_check.specs.Comparands.{flag_in, number_in, amount_in, text_in, value_in, days_in, operand_in}
use Rattle.dv_query_check.specs.Operands.{most_days, most_decimals, is_short, is_flag, is_integer, is_amount, is_written, is_value, is_days, is_operand}
use Rattle.dv_query_check.proofs.AcceptedLaws.{and_left, and_right}
use Rattle.dv_query_check.proofs.EveryLaws.{map_there}

if_there : {A : Type 0} (test : Bool) (x : A) → test ≡ true → is_some (if test then Some x else None) ≡ true
if_there true x e = refl
if_there false x e = absurd (cc)

then_there : {A : Type 0} (test : Bool) (o : Option A) → test ≡ true → is_some o ≡ true → is_some (if test then o else None) ≡ true
then_there true o e f = f
then_there false o e f = absurd (cc)

flag_there : (k : Kind) (flag : Bool) → is_flag k ≡ true → is_some (flag_in k flag) ≡ true
unfolding is_flag flag_in
flag_there kind.Flag flag e = refl
flag_there (kind.Whole min max) flag e = absurd (cc)
flag_there (kind.Choice options) flag e = absurd (cc)
flag_there (kind.Amount scale) flag e = absurd (cc)
flag_there kind.Moment flag e = absurd (cc)
flag_there (kind.Text max) flag e = absurd (cc)
flag_there kind.Ref flag e = absurd (cc)

number_there : (k : Kind) (n : ℤ) → is_integer k ≡ true → is_short n ≡ true → is_some (number_in k n) ≡ true
unfolding is_integer number_in
number_there kind.Flag n e f = absurd (cc)
number_there (kind.Whole min max) n e f = if_there (is_short n) _ f
number_there (kind.Choice options) n e f = if_there (is_short n) _ f
number_there (kind.Amount scale) n e f = absurd (cc)
number_there kind.Moment n e f = absurd (cc)
number_there (kind.Text max) n e f = absurd (cc)
number_there kind.Ref n e f = absurd (cc)

amount_there : (scale : ℕ) (text : List ℕ) → is_amount scale text ≡ true → is_some (amount_in scale text) ≡ true
unfolding is_amount amount_in
amount_there scale text e =
    let few = nat_le scale most_decimals in
    let read = amount_of scale (encode_utf8_all text) in
    then_there few (option_map Amount read) (and_left few (is_some read) e) (map_there Amount read (and_right few (is_some read) e))

text_there : (k : Kind) (text : List ℕ) → is_written k text ≡ true → is_some (text_in k text) ≡ true
unfolding is_written text_in
text_there kind.Flag text e = absurd (cc)
text_there (kind.Whole min max) text e = absurd (cc)
text_there (kind.Choice options) text e = absurd (cc)
text_there (kind.Amount scale) text e = amount_there scale text e
text_there kind.Moment text e = map_there Moment (moment_of (encode_utf8_all text)) e
text_there (kind.Text max) text e = refl
text_there kind.Ref text e = map_there _ (id_of (encode_utf8_all text)) e

value_there : (k : Kind) (value : Raw) → is_value k value ≡ true → is_some (value_in k value) ≡ true
unfolding is_value value_in
value_there k raw.Null e = absurd (cc)
value_there k (raw.Bool flag) e = flag_there k flag e
value_there k (raw.Int n) e = number_there k n (and_left (is_integer k) (is_short n) e) (and_right (is_integer k) (is_short n) e)
value_there k (raw.Str text) e = text_there k text e

days_there : (value : Raw) → is_days value ≡ true → is_some (days_in value) ≡ true
unfolding is_days days_in
days_there raw.Null e = absurd (cc)
days_there (raw.Bool flag) e = absurd (cc)
days_there (raw.Int n) e = if_there (int_le (pos 1) n && int_le n most_days) _ e
days_there (raw.Str text) e = absurd (cc)

pub operand_there : (operands : Operands) (k : Kind) (value : Raw) → is_operand operands k value ≡ true → is_some (operand_in operands k value) ≡ true
unfolding is_operand operand_in
operand_there Nothing k value e = value_there k value e
operand_there One k value e = value_there k value e
operand_there Two k value e = value_there k value e
operand_there Several k value e = value_there k value e
operand_there Days k value e = days_there value e
