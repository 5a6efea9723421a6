-- Each operator suits some columns and takes some values.
use Rattle.std.specs.Prelude.{ℕ, List, codes, Bool, true, false, ◌&&◌, ◌||◌, ◌==◌, nat_le, encode_utf8_all}
use Rattle.std.specs.Str.{bytes_eq}
use Rattle.dv_value.specs.declared.kind.Kind.{Kind}
use Rattle.dv_value.specs.declared.kind.Kind.TheVariants as kind
use Rattle.dv_query.specs.declared.operator.Operator.{Operator}
use Rattle.dv_query.specs.declared.operator.Operator.TheVariants as op
use Rattle.dv_schema.specs.declared.table.Column.{Column}
use Rattle.dv_schema.specs.declared.table.ColumnRole.{ColumnRole}
use Rattle.dv_schema.specs.declared.table.ColumnRole.TheVariants.{System, Plain, Lookup, Rollup, Companion}
use Rattle.dv_query_check.specs.declared.operators.Suited.{Suited}
use Rattle.dv_query_check.specs.declared.operators.Suited.TheVariants.{All, Ordered, Texts, Moments, People, Owner}
use Rattle.dv_query_check.specs.declared.operators.Operands.{Operands}
use Rattle.dv_query_check.specs.declared.operators.Operands.TheVariants.{Nothing, One, Two, Several, Days}

-- the columns that an operator suits
unfoldable pub suited_by : Operator → Suited
suited_by op.Eq = All
suited_by op.Ne = All
suited_by op.Gt = Ordered
suited_by op.Ge = Ordered
suited_by op.Lt = Ordered
suited_by op.Le = Ordered
suited_by op.Between = Ordered
suited_by op.NotBetween = Ordered
suited_by op.In = All
suited_by op.NotIn = All
suited_by op.Like = Texts
suited_by op.NotLike = Texts
suited_by op.Begins = Texts
suited_by op.NotBegins = Texts
suited_by op.Ends = Texts
suited_by op.NotEnds = Texts
suited_by op.Contains = Texts
suited_by op.NotContains = Texts
suited_by op.On = Moments
suited_by op.OnOrBefore = Moments
suited_by op.OnOrAfter = Moments
suited_by op.Today = Moments
suited_by op.Yesterday = Moments
suited_by op.Tomorrow = Moments
suited_by op.LastDays = Moments
suited_by op.NextDays = Moments
suited_by op.Me = People
suited_by op.NotMe = People
suited_by op.MyTeams = Owner
suited_by op.MeOrMyTeams = Owner
suited_by op.Null = All
suited_by op.NotNull = All

-- the values that an operator takes
unfoldable pub operands_of : Operator → Operands
operands_of op.Eq = One
operands_of op.Ne = One
operands_of op.Gt = One
operands_of op.Ge = One
operands_of op.Lt = One
operands_of op.Le = One
operands_of op.Between = Two
operands_of op.NotBetween = Two
operands_of op.In = Several
operands_of op.NotIn = Several
operands_of op.Like = One
operands_of op.NotLike = One
operands_of op.Begins = One
operands_of op.NotBegins = One
operands_of op.Ends = One
operands_of op.NotEnds = One
operands_of op.Contains = One
operands_of op.NotContains = One
operands_of op.On = One
operands_of op.OnOrBefore = One
operands_of op.OnOrAfter = One
operands_of op.Today = Nothing
operands_of op.Yesterday = Nothing
operands_of op.Tomorrow = Nothing
operands_of op.LastDays = Days
operands_of op.NextDays = Days
operands_of op.Me = Nothing
operands_of op.NotMe = Nothing
operands_of op.MyTeams = Nothing
operands_of op.MeOrMyTeams = Nothing
operands_of op.Null = Nothing
operands_of op.NotNull = Nothing

-- whole numbers, choices, amounts, moments and texts have an order that conditions may speak of
unfoldable pub is_ordered : Kind → Bool
is_ordered kind.Flag = false
is_ordered (kind.Whole min max) = true
is_ordered (kind.Choice options) = true
is_ordered (kind.Amount scale) = true
is_ordered kind.Moment = true
is_ordered (kind.Text max) = true
is_ordered kind.Ref = false

-- the kind of texts
unfoldable pub is_text : Kind → Bool
is_text kind.Flag = false
is_text (kind.Whole min max) = false
is_text (kind.Choice options) = false
is_text (kind.Amount scale) = false
is_text kind.Moment = false
is_text (kind.Text max) = true
is_text kind.Ref = false

-- the kind of moments
unfoldable pub is_moment : Kind → Bool
is_moment kind.Flag = false
is_moment (kind.Whole min max) = false
is_moment (kind.Choice options) = false
is_moment (kind.Amount scale) = false
is_moment kind.Moment = true
is_moment (kind.Text max) = false
is_moment kind.Ref = false

-- every table has the column, and the service keeps it
unfoldable pub is_kept_by_service : ColumnRole → Bool
is_kept_by_service System = true
is_kept_by_service Plain = false
is_kept_by_service (Lookup relationship) = false
is_kept_by_service (Rollup rollup) = false
is_kept_by_service Companion = false

-- the column says who owns a row
unfoldable pub is_owner : Column → Bool
is_owner column = is_kept_by_service column.role && bytes_eq (encode_utf8_all column.name) (codes "ownerid")

-- the names of the columns of a user
unfoldable pub is_user_name : List ℕ → Bool
is_user_name name = bytes_eq name (codes "createdby") || bytes_eq name (codes "modifiedby")

-- the column says who created or last changed a row
unfoldable pub has_user : Column → Bool
has_user column = is_kept_by_service column.role && is_user_name (encode_utf8_all column.name)

-- the column says who owns, created or last changed a row
unfoldable pub is_person : Column → Bool
is_person column = is_owner column || has_user column

-- whether a column is among those
unfoldable pub is_among : Suited → Column → Bool
is_among All column = true
is_among Ordered column = is_ordered column.kind
is_among Texts column = is_text column.kind
is_among Moments column = is_moment column.kind
is_among People column = is_person column
is_among Owner column = is_owner column

-- whether an operator suits a column
unfoldable pub suits : Operator → Column → Bool
suits operator column = is_among (suited_by operator) column

-- the most values that an operator takes
abbrev pub most_values : ℕ
most_values = 500

-- whether so many values are as many as that
unfoldable pub is_count_of : Operands → ℕ → Bool
is_count_of Nothing n = n == 0
is_count_of One n = n == 1
is_count_of Two n = n == 2
is_count_of Several n = nat_le 1 n && nat_le n most_values
is_count_of Days n = n == 1

-- whether an operator takes so many values
unfoldable pub takes : Operator → ℕ → Bool
takes operator n = is_count_of (operands_of operator) n
