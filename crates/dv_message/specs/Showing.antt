-- How a row is shown: an object with its id and the columns that are asked for.
use Rattle.std.specs.Prelude.{◌≡◌, ◌==◌, ◌&&◌, ◌||◌, ◌+◌, ◌^◌, pos, negsuc, length, int_le, ℕ, Bool, true, false, List, [], ◌∷◌, ◌++◌, Option, Some, None, chars, codes, encode_utf8_all, if◌then◌else◌, nat_lt, slice_get}
use Rattle.std.specs.Option.{unwrap_or}
use Rattle.std.specs.List.{list_any}
use Rattle.std.specs.Str.{bytes_eq}
use Rattle.serde_json.specs.Data.{Members, no_members, put}
use Rattle.dv_value.specs.declared.id.Id.{Id}
use Rattle.dv_value.specs.declared.kind.Kind.{Kind}
use Rattle.dv_value.specs.declared.raw.Raw.{Raw}
use Rattle.dv_value.specs.declared.raw.Raw.TheVariants.{Null}
use Rattle.dv_value.specs.declared.value.Value.{Value}
use Rattle.dv_value.specs.declared.value.Value.TheVariants as value
use Rattle.dv_value.specs.Printed.{raw_data}
use Rattle.dv_value.specs.Raws.{values_of}
use Rattle.dv_value.specs.Typing.{IsRawOf, kind_tag}
use Rattle.dv_value.specs.Spelling.{tag_of}
use Rattle.dv_schema.specs.declared.table.Column.{Column}
use Rattle.dv_store.specs.declared.row.Row.{Row}
use Rattle.dv_store.specs.Shapes.{place_of}
use Rattle.dv_message.specs.Columns.{has_scale}

-- the number of the id among the columns of a table; a row's values leave it out
abbrev pub id_number : ℕ
id_number = 2

-- the value of a row in the column of a number
abbrev pub value_at : Id → Row → ℕ → Value
value_at id row number = if number == id_number then value.Ref id else unwrap_or (slice_get row.values (place_of number)) value.Empty

-- whether a value has a text: a moment of the calendar, and a text that isn't too long for its length
unfoldable pub has_spelling : Value → Bool
has_spelling (value.Moment seconds) = int_le (negsuc 62135596799) seconds && int_le seconds (pos 253402300799)
has_spelling (value.Text text) = nat_lt (length (encode_utf8_all text)) (2 ^ 32)
has_spelling value.Empty = true
has_spelling (value.Flag flag) = true
has_spelling (value.Whole number) = true
has_spelling (value.Choice number) = true
has_spelling (value.Amount amount) = true
has_spelling (value.Ref id) = true

-- whether a value is one of a kind, or Empty, so that it can be shown as one
abbrev pub is_of : Kind → Value → Bool
is_of kind v = has_scale kind && (((tag_of v == 0) || (tag_of v == kind_tag kind)) && has_spelling v)

-- a value as it is shown: as the kind of its column writes it; a value of another kind, which no column has, as null
abbrev pub IsShown : Kind → Value → Raw → Type 0
IsShown kind v raw = by (is_of kind v)
  where
    by : Bool → Type 0
    by true = IsRawOf kind v raw
    by false = raw ≡ Null

-- whether a name is that of the id or one of some names
abbrev pub is_among : List (List ℕ) → List ℕ → Bool
is_among names name = bytes_eq name (chars (codes "id")) || list_any (λ asked. bytes_eq asked name) names

-- whether a column is asked for: by its name, or where no names are given; the id always is
abbrev pub is_asked : Option (List (List ℕ)) → List ℕ → Bool
is_asked None name = true
is_asked (Some names) name = is_among names name

-- the numbers of the columns that are asked for, of which the first has a number
unfoldable pub asked_from : ℕ → Option (List (List ℕ)) → List Column → List ℕ
asked_from number names [] = []
asked_from number names (column ∷ columns) = (if is_asked names column.name then number ∷ [] else []) ++ asked_from (number + 1) names columns

-- a column of a row shown: its name with the value is put into the object
abbrev pub ShowsColumn : Id → Row → ℕ → Option Column → Members → Members → Type 0
ShowsColumn id row number None before after = after ≡ before
ShowsColumn id row number (Some column) before after = (raw : Raw) × IsShown column.kind (value_at id row number) raw × (after ≡ put (encode_utf8_all column.name) (raw_data raw) before)

-- the columns of these numbers, one after another
unfoldable pub ShowsColumns : List Column → Id → Row → List ℕ → Members → Members → Type 0
ShowsColumns columns id row [] before after = after ≡ before
ShowsColumns columns id row (number ∷ numbers) before after = (next : Members) × ShowsColumn id row number (slice_get columns number) before next × ShowsColumns columns id row numbers next after

-- a row, as it is shown; each member is null, a truth value, an integer or a text, so that the object has its values
abbrev pub IsShownRow : List Column → List ℕ → Id → Row → List (List ℕ × Raw) → Type 0
IsShownRow columns numbers id row shown = (members : Members) × ShowsColumns columns id row numbers no_members members × (shown ≡ unwrap_or (values_of members) [])
