-- How a row is made: what is checked, in which order, and what the new row is.
use Rattle.std.specs.Prelude.{◌≡◌, ◌^◌, ◌+◌, ◌-◌, ◌&&◌, ℕ, pos, ⊤, Bool, false, not, List, [], ◌∷◌, ◌++◌, Option, Some, None, Result, IsErr, map, filter, if◌then◌else◌, nat_lt, nat_le}
use Rattle.std.specs.Option.{option_map, option_map_or}
use Rattle.dv_value.specs.declared.id.Id.{Id}
use Rattle.dv_value.specs.declared.kind.Kind.TheVariants as kind
use Rattle.dv_value.specs.declared.raw.Raw.{Raw}
use Rattle.dv_value.specs.declared.value.Value.{Value}
use Rattle.dv_value.specs.declared.value.Value.TheVariants as value
use Rattle.dv_value.specs.Raws.{value_of}
use Rattle.dv_refusal.specs.declared.refusal.Refusal.{Refusal}
use Rattle.dv_refusal.specs.declared.refusal.Refusal.TheVariants as answer
use Rattle.dv_refusal.specs.declared.what.What.TheVariants as what
use Rattle.dv_schema.specs.declared.table.Table.{Table}
use Rattle.dv_schema.specs.declared.table.Column.{Column}
use Rattle.dv_schema.specs.declared.opening.Action.{Action}
use Rattle.dv_schema.specs.declared.opening.Action.TheVariants as action
use Rattle.dv_units.specs.Chart.{Chart}
use Rattle.dv_work.specs.History.{History}
use Rattle.dv_shares.specs.Outcome.{LimitSays}
use Rattle.dv_store.specs.declared.keys.RowKey.{RowKey}
use Rattle.dv_store.specs.Keys.{row_key}
use Rattle.dv_store.specs.World.{World, row_put, bumped, id_drawn, is_there, row_total, most_rows}
use Rattle.dv_store.specs.declared.row.Row.{Row}
use Rattle.dv_access.specs.Reaches.{Reaches}
use Rattle.dv_access.specs.Denial.{IsDenial}
use Rattle.dv_access.specs.declared.denied.Denied.{Denied}
use Rattle.dv_request.specs.declared.reply.Reply.{Reply}
use Rattle.dv_request.specs.declared.reply.Reply.TheVariants.{Created}
use Rattle.dv_message.specs.declared.lookups.Naming.{Naming}
use Rattle.dv_message.specs.Checked.{Judged, refused_if}
use Rattle.dv_message.specs.Columns.{first_by_name, given_by, given_in, is_empty, own_columns, owner_name, values_fault}
use Rattle.dv_message.specs.Lookups.{namings, AppendSays, NamedSays}
use Rattle.dv_message.specs.Refusing.{denied_as}
use Rattle.dv_message.specs.Rights.{is_owner}
use Rattle.dv_message.specs.Scenes.{Setting, Targeted, setting_of}
use Rattle.dv_message.specs.Sizes.{size_fault}
use Rattle.dv_message.specs.Versions.{next_version}
use Rattle.dv_message.specs.declared.columns.Writing.TheVariants.{Creation}
use Rattle.dv_write.specs.Effects.{LimitThen}
use Rattle.dv_write.specs.Moving.{Settles}
use Rattle.dv_pipeline.specs.Requests.{is_none}
use Rattle.dv_message.specs.declared.stop.Stop.{Stop}
use Rattle.dv_message.specs.declared.stop.Stop.TheVariants.{Refused, OutOfMemory}
use Rattle.dv_pipeline.specs.declared.creation.Creation.{Creation as Made}
use Rattle.dv_pipeline.specs.declared.creation.CreationCheck.{CreationCheck}
use Rattle.dv_pipeline.specs.declared.creation.CreationCheck.TheVariants as check

-- what a creation is about: who makes the row, of which organisation and when, a table and its number, the id if one is
-- chosen, the values
pub record Creating : Type 0 where
  pub setting : Setting
  pub world : World
  pub number : ℕ
  pub table : Table
  pub chosen : Option Id
  pub values : List (List ℕ × Raw)

-- a creation in a world
abbrev pub creating_in : World → Made → Creating
creating_in w c = record { setting = setting_of c.scene; world = w; number = c.number; table = c.table.now; chosen = c.chosen; values = c.values.now }

-- a creation in the present world of a store
abbrev pub creating : History World → Made → Creating
creating h c = creating_in h.present c

-- the id that a value names; else another
abbrev pub id_in : Value → Id → Id
id_in (value.Ref id) other = id
id_in value other = other

-- the owner of the new row, where rows have owners: the one that is given, or else the user who makes the row
abbrev pub owner_in : Table → Id → List (List ℕ × Raw) → Option Id
owner_in table user values = if table.user_owned then Some (id_in (given_by kind.Ref (value_of owner_name values)) user) else None

abbrev pub new_owner : Creating → Option Id
new_owner c = owner_in c.table c.setting.user c.values

-- the id of the new row: the one that is chosen, or else the next one
abbrev pub new_id : Creating → Id
new_id c = chosen_or c.chosen
  where
    chosen_or : Option Id → Id
    chosen_or (Some id) = id
    chosen_or None = record { 0 = c.world.last_id + 1 }

-- the new row, as if a message named it
abbrev pub target_of : Creating → Targeted
target_of c = record { setting = c.setting; world = c.world; number = c.number; table = c.table; id = new_id c }

-- the rows that the lookups name which are given
abbrev pub named_rows : Creating → List Naming
named_rows c = namings c.setting.definition c.table.columns c.values

-- whether an owner may not be one
abbrev pub is_bad_owner : Chart → Option Id → Bool
is_bad_owner chart owner = option_map_or (λ id. not (is_owner chart id)) owner false

-- the first id that callers may choose
abbrev pub first_free : ℕ
first_free = 2 ^ 64

-- whether the id that is chosen is one of those that the service gives
abbrev pub is_reserved : Option Id → Bool
is_reserved chosen = option_map_or (λ id. nat_lt id.0 first_free) chosen false

-- whether an id has to be given while there is none left
abbrev pub has_no_id : Creating → Bool
has_no_id c = is_none c.chosen && nat_le (2 ^ 64 - 1) c.world.last_id

-- whether a column must have a value and gets none
abbrev pub is_missing : List (List ℕ × Raw) → Column → Bool
is_missing values column = column.required && is_empty (given_in values column)

-- a column that must have a value and gets none is missing; the first of them by name is told
unfoldable pub missing_fault : List (List ℕ × Raw) → List Column → Option Refusal
missing_fault values columns = option_map (λ column. answer.RequiredMissing column.name) (first_by_name (filter (is_missing values) columns))

-- the owner's value, where rows have owners
abbrev pub owner_values : Option Id → List Value
owner_values None = []
owner_values (Some id) = value.Ref id ∷ []

-- the values that the service keeps of a new row: who made it and when, who changed it and when, its owner, that it is
-- active, and its version
abbrev pub system_values : Creating → List Value
system_values c = value.Ref c.setting.user ∷ value.Moment c.setting.moment ∷ value.Ref c.setting.user ∷ value.Moment c.setting.moment
    ∷ (owner_values (new_owner c) ++ (value.Choice (pos 0) ∷ value.Amount (pos (next_version c.world)) ∷ []))

-- the values of the columns of the definition
abbrev pub own_values : Table → List (List ℕ × Raw) → List Value
own_values table values = map (given_in values) (own_columns table)

-- the new row
unfoldable pub new_row : Creating → Row
new_row c = record { values = system_values c ++ own_values c.table c.values }

-- the place of the new row
abbrev pub new_key : Creating → RowKey
new_key c = row_key c.number (new_id c)

-- the world with the new row in it
unfoldable pub with_row : Creating → World
with_row c = row_put c.world (new_key c) (new_row c)

-- the world with the next id given out where none was chosen
abbrev pub drawn : Option Id → World → World
drawn None w = id_drawn w
drawn (Some id) w = w

-- the world with the new row, and with its version and its id given out
unfoldable pub created : Creating → World
created c = drawn c.chosen (bumped (with_row c))

-- the limit that the new row would pass: that of rows and removals, or that of versions
unfoldable pub limit_fault : Creating → Option Refusal
limit_fault c = if nat_lt most_rows (row_total (with_row c)) then Some (answer.Limit what.Row)
    else if nat_lt (2 ^ 63 - 1) (c.world.version + 1) then Some (answer.Limit what.Version) else None

-- why the change isn't made: the limit that it would go past, or that memory ran out
abbrev pub IsLimit : Creating → Stop → Type 0
IsLimit c (Refused refusal) = limit_fault c ≡ Some refusal
IsLimit c OutOfMemory = ⊤

-- the new row is made, and where it has a parent, that is handed on
abbrev pub IsCreated : Creating → World → Type 0
IsCreated c new = Settles c.setting.definition (new_key c) None (created c) new

-- the limit that a creation would pass: that of rows and removals or of versions, or else that of grants
abbrev pub CreationLimit : Creating → Option Refusal → Type 0
CreationLimit c said = LimitThen (limit_fault c) (LimitSays (IsCreated c) (created c)) said

-- what the privilege to do an action to a new row says: the user has it for the owner of the row, or is denied
abbrev pub MayDoNew : Setting → Action → ℕ → Table → Option Id → Option Refusal → Type 0
MayDoNew s action number table owner None = Reaches s.directory s.user action number owner
MayDoNew s action number table owner (Some refusal) = (Reaches s.directory s.user action number owner → ⊥)
    × ((denied : Denied) × IsDenial s.directory s.user action number denied × (refusal ≡ denied_as table denied))

abbrev pub NewRight : Creating → Action → Option Refusal → Type 0
NewRight c action refusal = MayDoNew c.setting action c.number c.table (new_owner c) refusal

-- what each check says
unfoldable pub CreationSays : Creating → CreationCheck → Option Refusal → Type 0
CreationSays c check.Values refusal = refusal ≡ values_fault Creation c.table.columns c.values
CreationSays c check.ChosenId refusal = refusal ≡ refused_if (is_reserved c.chosen) answer.ReservedId
CreationSays c check.NextId refusal = refusal ≡ refused_if (has_no_id c) (answer.Limit what.Id)
CreationSays c check.Owner refusal = refusal ≡ refused_if (is_bad_owner c.setting.directory.chart (new_owner c)) answer.BadPrincipal
CreationSays c check.Privilege refusal = NewRight c action.Create refusal
CreationSays c check.Append refusal = AppendSays (NewRight c action.Append) (target_of c) (named_rows c) refusal
CreationSays c check.Required refusal = refusal ≡ missing_fault c.values (own_columns c.table)
CreationSays c check.Named refusal = NamedSays (target_of c) (named_rows c) refusal
CreationSays c check.FreeId refusal = refusal ≡ refused_if (is_there c.world.rows (new_key c)) answer.IdTaken
CreationSays c check.Size refusal = refusal ≡ size_fault (new_row c).values

-- the checks, in their order
abbrev pub creation_checks : List CreationCheck
creation_checks = check.Values ∷ check.ChosenId ∷ check.NextId ∷ check.Owner ∷ check.Privilege ∷ check.Append ∷ check.Required ∷ check.Named ∷ check.FreeId ∷ check.Size ∷ []

-- the row is made, and its id is told
abbrev pub Creates : Creating → World → Reply → Type 0
Creates c new reply = IsCreated c new × (reply ≡ Created (new_id c))

-- what comes of a creation; a refused one leaves the world
abbrev pub RunsCreating : Creating → World → Result Reply Refusal → Type 0
RunsCreating c new outcome = Judged (CreationSays c) creation_checks (CreationLimit c) (Creates c new) outcome × (IsErr outcome → new ≡ c.world)
