-- What a text of a definition's form says: each member as its schema lists it, with what stands where one is missing. A text of another form is rejected before it is read, so what these definitions give for it doesn't matter.
use Rattle.std.specs.Prelude.{ℕ, List, map, codes, Option, Some, None, option_map, option_and_then, unwrap_or, if◌then◌else◌}
use Rattle.serde_json.specs.Data.{Data, null}
use Rattle.serde_json.specs.Find as find
use Rattle.serde_json.specs.Find.{get, as_str}
use Rattle.dv_form.specs.Members.{at, says, names_of, flag_of, id_of_json, text_of, short_of, natural_of, natural_below, raw_values_of, list_of}
use Rattle.dv_value.specs.declared.kind.Kind.{Kind}
use Rattle.dv_value.specs.declared.kind.Kind.TheVariants as kind
use Rattle.dv_schema.specs.Limits.{least_short, greatest_short}
use Rattle.dv_schema.specs.Words.{message_of, cascade_of, rollup_kind_of, action_of, type_of}
use Rattle.dv_schema.specs.declared.column_type.ColumnType.{ColumnType}
use Rattle.dv_schema.specs.declared.column_type.ColumnType.TheVariants as type
use Rattle.dv_schema.specs.declared.draft.Draft.{Draft}
use Rattle.dv_schema.specs.declared.draft.DraftTable.{DraftTable}
use Rattle.dv_schema.specs.declared.draft.DraftColumn.{DraftColumn}
use Rattle.dv_schema.specs.declared.draft.DraftForm.{DraftForm}
use Rattle.dv_schema.specs.declared.draft.DraftForm.TheVariants as form
use Rattle.dv_schema.specs.declared.draft.DraftRollup.{DraftRollup}
use Rattle.dv_schema.specs.declared.draft.DraftRelationship.{DraftRelationship}
use Rattle.dv_schema.specs.declared.draft.DraftRegistration.{DraftRegistration}
use Rattle.dv_schema.specs.declared.opening.Action.{Action}
use Rattle.dv_schema.specs.declared.opening.Action.TheVariants as action
use Rattle.dv_schema.specs.declared.opening.Entry.{Entry}
use Rattle.dv_schema.specs.declared.opening.Opening.{Opening}
use Rattle.dv_schema.specs.declared.opening.OpeningTeam.{OpeningTeam}
use Rattle.dv_schema.specs.declared.opening.OpeningUnit.{OpeningUnit}
use Rattle.dv_schema.specs.declared.opening.OpeningUser.{OpeningUser}
use Rattle.dv_schema.specs.declared.opening.Role.{Role}
use Rattle.dv_schema.specs.declared.registration.Message.{Message}
use Rattle.dv_schema.specs.declared.registration.Message.TheVariants as message
use Rattle.dv_schema.specs.declared.relationship.Cascade.{Cascade}
use Rattle.dv_schema.specs.declared.relationship.Cascade.TheVariants as cascade
use Rattle.dv_schema.specs.declared.table.RollupKind.{RollupKind}
use Rattle.dv_schema.specs.declared.table.RollupKind.TheVariants as rollup

-- ---- words; a value that is none of them is rejected before it is read, and gives the one named here

-- the message that a value says
unfoldable pub message_in : Data → Message
message_in d = unwrap_or (option_and_then message_of (as_str d)) message.Revoke

-- the cascade that a value says; a member that is missing hands nothing on
unfoldable pub cascade_in : Data → Cascade
cascade_in d = unwrap_or (option_and_then cascade_of (as_str d)) cascade.NoCascade

-- the kind of rollup that a value says
unfoldable pub rollup_kind_in : Data → RollupKind
rollup_kind_in d = unwrap_or (option_and_then rollup_kind_of (as_str d)) rollup.Max

-- the action that a value says; none is every action
unfoldable pub action_in : Data → Option Action
action_in d = option_and_then action_of (as_str d)

-- the type of a column that a value says
unfoldable pub type_in : Data → ColumnType
type_in d = unwrap_or (option_and_then type_of (as_str d)) type.Rollup

-- none is every table
unfoldable pub entry_table_of : Data → Option (List ℕ)
entry_table_of d = if says "*" d then None else Some (text_of d)

-- ---- tables

-- how a rollup is calculated
unfoldable pub rollup_of : Data → DraftRollup
rollup_of d = record {
  kind = rollup_kind_in (at "kind" d);
  over = text_of (at "over" d);
  of = option_map text_of (get (codes "of") d);
  active = flag_of (at "active" d);
}

-- a whole that says no end has that of 32 bits
unfoldable pub whole_of : Data → Kind
whole_of d = kind.Whole (unwrap_or (option_map short_of (get (codes "min") d)) least_short) (unwrap_or (option_map short_of (get (codes "max") d)) greatest_short)

-- what a column of a type says
unfoldable pub form_for : ColumnType → Data → DraftForm
form_for type.Flag d = form.Plain kind.Flag
form_for type.Moment d = form.Plain kind.Moment
form_for type.Lookup d = form.Lookup
form_for type.Whole d = form.Plain (whole_of d)
form_for type.Choice d = form.Plain (kind.Choice (map short_of (list_of (at "options" d))))
form_for type.Amount d = form.Plain (kind.Amount (natural_below 256 (at "scale" d)))
form_for type.Text d = form.Plain (kind.Text (natural_below 4294967296 (at "max" d)))
form_for type.Rollup d = form.Rollup (rollup_of d)

-- what a column's type says
abbrev pub form_of : Data → DraftForm
form_of d = form_for (type_in (at "type" d)) d

-- a column
unfoldable pub column_of : Data → DraftColumn
column_of d = record { name = text_of (at "name" d); required = flag_of (at "required" d); form = form_of d }

-- a table
unfoldable pub table_of : Data → DraftTable
table_of d = record {
  name = text_of (at "name" d);
  user_owned = says "user" (at "owned" d);
  tracking = flag_of (at "tracking" d);
  columns = map column_of (list_of (at "columns" d));
}

-- a cascade that isn't given reaches no child; for a delete, the lookups of the children are emptied
unfoldable pub relationship_of : Data → DraftRelationship
relationship_of d = record {
  name = text_of (at "name" d);
  parent = text_of (at "parent" d);
  child = text_of (at "child" d);
  column = text_of (at "column" d);
  assign = cascade_in (at "assign" d);
  share = cascade_in (at "share" d);
  unshare = cascade_in (at "unshare" d);
  reparent = cascade_in (at "reparent" d);
  delete = unwrap_or (option_map cascade_in (get (codes "delete") d)) cascade.RemoveLink;
}

-- ---- registrations

-- a registration of a step
unfoldable pub registration_of : Data → DraftRegistration
registration_of d = record {
  step = natural_of (at "step" d);
  message = message_in (at "message" d);
  table = text_of (at "table" d);
  stage = natural_below 256 (at "stage" d);
  rank = natural_below 4294967296 (at "rank" d);
  columns = option_map names_of (get (codes "columns") d);
  user = option_map id_of_json (get (codes "as") d);
  pre = names_of (at "pre" d);
  post = names_of (at "post" d);
  config = raw_values_of (at "config" d);
}

-- ---- the opening directory

-- an item of a list, null where it is missing
abbrev pub item_at : ℕ → Data → Data
item_at i d = unwrap_or (find.at i d) null

-- a privilege: an action, a table and a depth
unfoldable pub entry_of : Data → Entry
entry_of d = record { action = action_in (item_at 0 d); table = entry_table_of (item_at 1 d); depth = natural_below 256 (item_at 2 d) }

-- a security role
unfoldable pub role_of : Data → Role
role_of d = record { id = id_of_json (at "id" d); direct = says "direct" (at "inheritance" d); manage = flag_of (at "manage" d); entries = map entry_of (list_of (at "privileges" d)) }

-- a business unit
unfoldable pub unit_of : Data → OpeningUnit
unit_of d = record { id = id_of_json (at "id" d); parent = id_of_json (at "parent" d) }

-- a user
unfoldable pub user_of : Data → OpeningUser
user_of d = record { id = id_of_json (at "id" d); unit = id_of_json (at "unit" d); roles = map id_of_json (list_of (at "roles" d)) }

-- a team
unfoldable pub team_of : Data → OpeningTeam
team_of d = record {
  id = id_of_json (at "id" d);
  unit = id_of_json (at "unit" d);
  access = says "access" (at "kind" d);
  members = map id_of_json (list_of (at "members" d));
  roles = map id_of_json (list_of (at "roles" d));
}

-- the opening directory
unfoldable pub opening_of : Data → Opening
opening_of d = record {
  root = id_of_json (at "root" d);
  admin = id_of_json (at "admin" d);
  units = map unit_of (list_of (at "units" d));
  roles = map role_of (list_of (at "roles" d));
  users = map user_of (list_of (at "users" d));
  teams = map team_of (list_of (at "teams" d));
}

-- the whole definition
unfoldable pub draft_of : Data → Draft
draft_of d = record {
  tables = map table_of (list_of (at "tables" d));
  relationships = map relationship_of (list_of (at "relationships" d));
  steps = map registration_of (list_of (at "steps" d));
  opening = opening_of d;
}
