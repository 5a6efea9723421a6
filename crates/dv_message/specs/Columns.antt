-- The columns of a table and the values that a request gives them.
use Rattle.std.specs.Prelude.{ℕ, Bool, true, false, encode_utf8_all, List, [], ◌∷◌, Option, Some, None, Result, Ok, Err, chars, codes, drop, find, nat_le, if◌then◌else◌}
use Rattle.std.specs.Option.{option_or}
use Rattle.std.specs.Ordering.{on, nat_cmp, is_gt}
use Rattle.std.specs.Cmp.Lexicographic.{slice_cmp}
use Rattle.std.specs.declared.cmp.Ordering.{Ordering}
use Rattle.std.specs.Str.{bytes_eq}
use Rattle.dv_value.specs.declared.kind.Kind.{Kind}
use Rattle.dv_value.specs.declared.kind.Kind.TheVariants as kind
use Rattle.dv_value.specs.declared.raw.Raw.{Raw}
use Rattle.dv_value.specs.declared.typing.TypeFault.{TypeFault}
use Rattle.dv_value.specs.declared.typing.TypeFault.TheVariants as fault
use Rattle.dv_value.specs.declared.value.Value.{Value}
use Rattle.dv_value.specs.declared.value.Value.TheVariants.{Empty}
use Rattle.dv_value.specs.Raws.{value_of}
use Rattle.dv_value.specs.Typing.{typed}
use Rattle.dv_refusal.specs.declared.refusal.Refusal.{Refusal}
use Rattle.dv_refusal.specs.declared.refusal.Refusal.TheVariants.{UnknownColumn, WrongType, NotWritable, OutOfRange}
use Rattle.dv_schema.specs.declared.table.Table.{Table}
use Rattle.dv_schema.specs.Sound.{system_count}
use Rattle.dv_message.specs.declared.columns.Writing.{Writing}
use Rattle.dv_message.specs.declared.columns.Writing.TheVariants.{Creation, Update}
use Rattle.dv_schema.specs.declared.table.Column.{Column}
use Rattle.dv_schema.specs.declared.table.ColumnRole.{ColumnRole}
use Rattle.dv_schema.specs.declared.table.ColumnRole.TheVariants.{System, Plain, Lookup, Rollup, Companion}

-- the column of a name
abbrev pub column_of : List Column → List ℕ → Option Column
column_of columns name = find (λ column. bytes_eq column.name name) columns

-- the columns of a table that its definition lists, behind those of the service
abbrev pub own_columns : Table → List Column
own_columns table = drop (system_count table.user_owned) table.columns

-- the name of the column that says who owns a row
abbrev pub owner_name : List ℕ
owner_name = chars (codes "ownerid")

-- the system column that a request may write: the owner of a new row, and whether a row is active later
unfoldable pub open_name : Writing → List ℕ
open_name Creation = codes "ownerid"
open_name Update = codes "statecode"

-- whether a request may write a column: those that hold what a request says, lookups among them, and one of the system's
unfoldable pub is_written_by : Writing → ColumnRole → List ℕ → Bool
is_written_by writing Plain name = true
is_written_by writing System name = bytes_eq name (chars (open_name writing))
is_written_by writing (Lookup relationship) name = true
is_written_by writing (Rollup rollup) name = false
is_written_by writing Companion name = false

abbrev pub is_writable : Writing → Column → Bool
is_writable writing column = is_written_by writing column.role column.name

-- whether a kind is one that values can be typed by: no amount has more than four decimals
unfoldable pub has_scale : Kind → Bool
has_scale (kind.Amount scale) = nat_le scale 4
has_scale kind.Flag = true
has_scale (kind.Whole min max) = true
has_scale (kind.Choice options) = true
has_scale kind.Moment = true
has_scale (kind.Text max) = true
has_scale kind.Ref = true

-- the value that a raw value is in a column
abbrev pub typed_in : Kind → Raw → Result Value TypeFault
typed_in of raw = if has_scale of then typed of raw else Err fault.WrongType

-- why a value isn't one of its column
unfoldable pub type_fault : List ℕ → Result Value TypeFault → Option Refusal
type_fault name (Ok value) = None
type_fault name (Err fault.WrongType) = Some (WrongType name)
type_fault name (Err fault.OutOfRange) = Some (OutOfRange name)
type_fault name (Err fault.OutOfMemory) = None

-- what is wrong with a value that a row is given: there is no such column; it can't be written; the value isn't one of its
-- kind, or not within its limits
unfoldable pub value_fault : Writing → List Column → List ℕ × Raw → Option Refusal
value_fault writing columns value = of (column_of columns value.0)
  where
    of : Option Column → Option Refusal
    of None = Some (UnknownColumn value.0)
    of (Some column) = if is_writable writing column then type_fault value.0 (typed_in column.kind value.1) else Some (NotWritable value.0)

-- the first of the values with which something is wrong, in the order of their names
unfoldable pub values_fault : Writing → List Column → List (List ℕ × Raw) → Option Refusal
values_fault writing columns [] = None
values_fault writing columns (value ∷ values) = option_or (value_fault writing columns value) (values_fault writing columns values)

-- what a raw value is in a column; Empty where none is given, or one that isn't of the column
unfoldable pub given_by : Kind → Option Raw → Value
given_by of None = Empty
given_by of (Some raw) = or_empty (typed_in of raw)
  where
    or_empty : Result Value TypeFault → Value
    or_empty (Ok value) = value
    or_empty (Err fault) = Empty

-- the value that a new row is given in a column
abbrev pub given_in : List (List ℕ × Raw) → Column → Value
given_in values column = given_by column.kind (value_of column.name values)

-- whether a value is empty
abbrev pub is_empty : Value → Bool
is_empty Empty = true
is_empty value = false

-- names in the order of their bytes
abbrev pub name_cmp : List ℕ → List ℕ → Ordering
name_cmp = on encode_utf8_all (slice_cmp nat_cmp)

-- the one of two columns whose name comes first in byte order
abbrev pub earlier : Column → Option Column → Column
earlier column None = column
earlier column (Some other) = if is_gt (name_cmp column.name other.name) then other else column

-- of some columns the first by name
unfoldable pub first_by_name : List Column → Option Column
first_by_name [] = None
first_by_name (column ∷ columns) = Some (earlier column (first_by_name columns))
