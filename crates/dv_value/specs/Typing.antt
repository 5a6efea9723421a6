-- A kind gives a raw value its meaning: null is Empty, a text is read in the kind's spelling, and a number, a choice and a text keep to the kind's limits.
use Rattle.std.specs.Prelude.{◌≡◌, ◌⊎◌, chars, ℕ, ◌^◌, ◌≤◌, true, ℤ, pos, negsuc, ◌≤ℤ◌, int_le, nat_lt, nat_le, Bool, ◌&&◌, if◌then◌else◌, List, length, encode_utf8_all, Option, Some, None, Result, Ok, Err}
use Rattle.std.specs.List.{list_any}
use Rattle.std.specs.Ordering.{int_eq}
use Rattle.dv_value.specs.Amount.{amount_of, amount_text}
use Rattle.dv_value.specs.Ids.{id_of, id_text}
use Rattle.dv_value.specs.Moment.{moment_of, IsTextOf}
use Rattle.dv_value.specs.Spelling.{tag_of}
use Rattle.dv_value.specs.declared.kind.Kind.{Kind}
use Rattle.dv_value.specs.declared.kind.Kind.TheVariants.{Flag as FlagKind, Whole as WholeKind, Choice as ChoiceKind, Amount as AmountKind, Moment as MomentKind, Text as TextKind, Ref as RefKind}
use Rattle.dv_value.specs.declared.raw.Raw.{Raw}
use Rattle.dv_value.specs.declared.raw.Raw.TheVariants.{Null, Bool as Truth, Int, Str}
use Rattle.dv_value.specs.declared.typing.TypeFault.{TypeFault}
use Rattle.dv_value.specs.declared.typing.TypeFault.TheVariants.{WrongType, OutOfRange}
use Rattle.dv_value.specs.declared.value.Value.{Value}
use Rattle.dv_value.specs.declared.value.Value.TheVariants.{Empty, Flag, Whole, Choice, Amount, Moment, Text, Ref}

-- an amount's kind has at most four decimals
unfoldable pub HasScale : Kind → Type 0
HasScale FlagKind = Unit {0}
HasScale (WholeKind min max) = Unit {0}
HasScale (ChoiceKind options) = Unit {0}
HasScale (AmountKind scale) = scale ≤ 4
HasScale MomentKind = Unit {0}
HasScale (TextKind max) = Unit {0}
HasScale RefKind = Unit {0}

-- whether a number is one of 32 bits
unfoldable pub is_32 : ℤ → Bool
is_32 (pos n) = nat_lt n (2 ^ 31)
is_32 (negsuc n) = nat_lt n (2 ^ 31)

-- the value where the test holds, else out of range
abbrev pub in_limits : Bool → Value → Result Value TypeFault
in_limits test value = if test then Ok value else Err OutOfRange

-- what a text says, or the wrong type where it has another spelling
unfoldable pub said : {A : Type 0} → (A → Value) → Option A → Result Value TypeFault
said make (Some x) = Ok (make x)
said make None = Err WrongType

-- the value of a truth value
unfoldable pub typed_truth : Kind → Bool → Result Value TypeFault
typed_truth FlagKind flag = Ok (Flag flag)
typed_truth (WholeKind min max) flag = Err WrongType
typed_truth (ChoiceKind options) flag = Err WrongType
typed_truth (AmountKind scale) flag = Err WrongType
typed_truth MomentKind flag = Err WrongType
typed_truth (TextKind max) flag = Err WrongType
typed_truth RefKind flag = Err WrongType

-- the value of an integer
unfoldable pub typed_number : Kind → ℤ → Result Value TypeFault
typed_number FlagKind n = Err WrongType
typed_number (WholeKind min max) n = in_limits (is_32 n && int_le min n && int_le n max) (Whole n)
typed_number (ChoiceKind options) n = in_limits (is_32 n && list_any (λ option. int_eq option n) options) (Choice n)
typed_number (AmountKind scale) n = Err WrongType
typed_number MomentKind n = Err WrongType
typed_number (TextKind max) n = Err WrongType
typed_number RefKind n = Err WrongType

-- the value of a text
unfoldable pub typed_text : Kind → List ℕ → Result Value TypeFault
typed_text FlagKind text = Err WrongType
typed_text (WholeKind min max) text = Err WrongType
typed_text (ChoiceKind options) text = Err WrongType
typed_text (AmountKind scale) text = said Amount (amount_of scale (encode_utf8_all text))
typed_text MomentKind text = said Moment (moment_of (encode_utf8_all text))
typed_text (TextKind max) text = in_limits (nat_le (length text) max) (Text text)
typed_text RefKind text = said (λ id. Ref (record { 0 = id })) (id_of (encode_utf8_all text))

-- the value of a raw value
unfoldable pub typed : Kind → Raw → Result Value TypeFault
typed kind Null = Ok Empty
typed kind (Truth flag) = typed_truth kind flag
typed kind (Int n) = typed_number kind n
typed kind (Str text) = typed_text kind text

-- the tag of a kind's values
unfoldable pub kind_tag : Kind → ℕ
kind_tag FlagKind = 1
kind_tag (WholeKind min max) = 2
kind_tag (ChoiceKind options) = 3
kind_tag (AmountKind scale) = 4
kind_tag MomentKind = 5
kind_tag (TextKind max) = 6
kind_tag RefKind = 7

-- the value is Empty or of the kind
abbrev pub IsOfKind : Kind → Value → Type 0
IsOfKind kind value = (tag_of value ≡ 0) ⊎ (tag_of value ≡ kind_tag kind)

-- the value keeps to the kind's limits: an integer to its ends, a choice to its options, and a text to so many characters
unfoldable pub IsWithin : Kind → Value → Type 0
IsWithin (WholeKind min max) (Whole n) = (min ≤ℤ n) × (n ≤ℤ max)
IsWithin (ChoiceKind options) (Choice n) = list_any (λ option. int_eq option n) options ≡ true
IsWithin (TextKind max) (Text text) = length text ≤ max
IsWithin kind value = Unit {0}

-- the decimals of a kind's amounts
unfoldable pub scale_of : Kind → ℕ
scale_of FlagKind = 0
scale_of (WholeKind min max) = 0
scale_of (ChoiceKind options) = 0
scale_of (AmountKind scale) = scale
scale_of MomentKind = 0
scale_of (TextKind max) = 0
scale_of RefKind = 0

-- the raw value is the kind's spelling of the value
unfoldable pub IsRawOf : Kind → Value → Raw → Type 0
IsRawOf kind Empty raw = raw ≡ Null
IsRawOf kind (Flag flag) raw = raw ≡ Truth flag
IsRawOf kind (Whole n) raw = raw ≡ Int n
IsRawOf kind (Choice n) raw = raw ≡ Int n
IsRawOf kind (Amount amount) raw = raw ≡ Str (amount_text (scale_of kind) amount)
IsRawOf kind (Moment seconds) raw = (text : List ℕ) × IsTextOf text seconds × (raw ≡ Str text)
IsRawOf kind (Text text) raw = raw ≡ Str text
IsRawOf kind (Ref id) raw = raw ≡ Str (chars (id_text id.0))
