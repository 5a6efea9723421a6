-- The form of a definition, object by object: each member with its form, in the order in which they are looked at.
use Rattle.std.specs.Prelude.{ℕ, pos, List, [], ◌∷◌, ◌++◌, map, true, false, codes, Some, None}
use Prim.Native.String.{String}
use Rattle.dv_form.specs.Forms.{Spelling, real_id, any_id, a_name, a_name_or_star, a_flag, integer_from, integer_among, word_among, Form, value, raw_values, object_of, tuple_of, list_of, distinct_integers, Exclusion, is_word, is_not_integer, is_same_id, Member, Case, Schema}
use Rattle.dv_schema.specs.Limits.{most_tables, most_columns, most_relationships, most_steps, most_units, most_roles, most_users, most_teams, most_members, longest_text, largest_scale, deepest, last_rank, last_step, least_short, greatest_short}
use Rattle.dv_schema.specs.Words.{message_word, messages, cascade_word, cascades, delete_cascades, rollup_word, rollup_kinds, action_word, actions, type_word, types}
use Rattle.dv_schema.specs.declared.column_type.ColumnType.{ColumnType}
use Rattle.dv_schema.specs.declared.column_type.ColumnType.TheVariants as type
use Rattle.dv_schema.specs.declared.grammar.Rule.{Rule}
use Rattle.dv_schema.specs.declared.grammar.Rule.TheVariants.{Definition, Table, Column, Relationship, Registration, Unit, Role, User, Team}

-- a member that must be there
abbrev pub needs : String → Form Rule → Member Rule
needs name form = record { name = codes name; needed = true; form = form; excluded_by = [] }

-- a member that may be missing
abbrev pub may : String → Form Rule → Member Rule
may name form = record { name = codes name; needed = false; form = form; excluded_by = [] }

-- a member that must be there, and that may not be so
abbrev pub needs_unless : String → Form Rule → List Exclusion → Member Rule
needs_unless name form excluded_by = record { name = codes name; needed = true; form = form; excluded_by = excluded_by }

-- a member that may be missing, and that may not be there so
abbrev pub may_unless : String → Form Rule → List Exclusion → Member Rule
may_unless name form excluded_by = record { name = codes name; needed = false; form = form; excluded_by = excluded_by }

-- an object that always has the same members
abbrev pub plain : List (Member Rule) → Schema Rule
plain members = record { members = members; decided_by = None; cases = [] }

-- ids, as many as may be
abbrev pub ids : Form Rule
ids = list_of (value any_id) None

-- names, as many as may be
abbrev pub names : Form Rule
names = list_of (value a_name) None

-- the words of what is handed on to children
abbrev pub cascade : Form Rule
cascade = value (word_among (map cascade_word cascades))

-- an action, a table and a depth
abbrev pub privilege : List Spelling
privilege =
    word_among (map action_word actions ++ (codes "*" ∷ []))
    ∷ a_name_or_star
    ∷ integer_from (pos 0) deepest
    ∷ []

-- an integer of 32 bits
abbrev pub short : Form Rule
short = value (integer_from least_short greatest_short)

-- what a column has further, by its type
abbrev pub members_for : ColumnType → List (Member Rule)
members_for type.Flag = []
members_for type.Moment = []
members_for type.Lookup = []
members_for type.Whole = may "min" short ∷ may "max" short ∷ []
members_for type.Choice = needs "options" distinct_integers ∷ []
members_for type.Amount = needs "scale" (value (integer_from (pos 0) largest_scale)) ∷ []
members_for type.Text = needs "max" (value (integer_from (pos 1) longest_text)) ∷ []
members_for type.Rollup =
    needs "kind" (value (word_among (map rollup_word rollup_kinds)))
    ∷ needs "over" (value a_name)
    ∷ may "of" (value a_name)
    ∷ may "active" (value a_flag)
    ∷ []

-- the members of each type under its word
abbrev pub by_type : List (Case Rule)
by_type = map (λ t. record { word = type_word t; members = members_for t }) types

-- the whole definition
abbrev pub definition : Schema Rule
definition = plain (
    needs "root" (value real_id)
    ∷ needs_unless "admin" (value real_id) (is_same_id (codes "root") ∷ [])
    ∷ needs "tables" (list_of (object_of Table) (Some most_tables))
    ∷ may "relationships" (list_of (object_of Relationship) (Some most_relationships))
    ∷ may "steps" (list_of (object_of Registration) (Some most_steps))
    ∷ may "units" (list_of (object_of Unit) (Some most_units))
    ∷ may "roles" (list_of (object_of Role) (Some most_roles))
    ∷ may "users" (list_of (object_of User) (Some most_users))
    ∷ may "teams" (list_of (object_of Team) (Some most_teams))
    ∷ [])

-- a table
abbrev pub table : Schema Rule
table = plain (
    needs "name" (value a_name)
    ∷ needs "owned" (value (word_among (codes "user" ∷ codes "organization" ∷ [])))
    ∷ may "tracking" (value a_flag)
    ∷ needs "columns" (list_of (object_of Column) (Some most_columns))
    ∷ [])

-- a column
abbrev pub column : Schema Rule
column = record {
  members =
      needs "name" (value a_name)
      ∷ needs "type" (value (word_among (map type_word types)))
      ∷ may "required" (value a_flag)
      ∷ [];
  decided_by = Some (codes "type");
  cases = by_type;
}

-- a relationship
abbrev pub relationship : Schema Rule
relationship = plain (
    needs "name" (value a_name)
    ∷ needs "parent" (value a_name)
    ∷ needs "child" (value a_name)
    ∷ needs "column" (value a_name)
    ∷ may "assign" cascade
    ∷ may "share" cascade
    ∷ may "unshare" cascade
    ∷ may "reparent" cascade
    ∷ may "delete" (value (word_among (map cascade_word delete_cascades)))
    ∷ [])

-- a registration of a step; there is no row before a create, and there is a row after only at stage 40, and never after a delete
abbrev pub registration : Schema Rule
registration = plain (
    needs "step" (value (integer_from (pos 0) last_step))
    ∷ needs "message" (value (word_among (map message_word messages)))
    ∷ needs "table" (value a_name)
    ∷ needs "stage" (value (integer_among (pos 10 ∷ pos 20 ∷ pos 40 ∷ [])))
    ∷ needs "rank" (value (integer_from (pos 0) last_rank))
    ∷ may "columns" names
    ∷ may "as" (value any_id)
    ∷ may_unless "pre" names (is_word (codes "message") (codes "create") ∷ [])
    ∷ may_unless "post" names (is_not_integer (codes "stage") (pos 40) ∷ is_word (codes "message") (codes "delete") ∷ [])
    ∷ may "config" raw_values
    ∷ [])

-- a business unit
abbrev pub unit : Schema Rule
unit = plain (needs "id" (value any_id) ∷ needs "parent" (value any_id) ∷ [])

-- a security role
abbrev pub role : Schema Rule
role = plain (
    needs "id" (value any_id)
    ∷ needs "inheritance" (value (word_among (codes "team" ∷ codes "direct" ∷ [])))
    ∷ may "manage" (value a_flag)
    ∷ needs "privileges" (list_of (tuple_of privilege) None)
    ∷ [])

-- a user
abbrev pub user : Schema Rule
user = plain (needs "id" (value any_id) ∷ needs "unit" (value any_id) ∷ may "roles" ids ∷ [])

-- a team
abbrev pub team : Schema Rule
team = plain (
    needs "id" (value any_id)
    ∷ needs "unit" (value any_id)
    ∷ needs "kind" (value (word_among (codes "owner" ∷ codes "access" ∷ [])))
    ∷ may "members" (list_of (value any_id) (Some most_members))
    ∷ may "roles" ids
    ∷ [])

-- the schema of each object
unfoldable pub schemas : Rule → Schema Rule
schemas Definition = definition
schemas Table = table
schemas Column = column
schemas Relationship = relationship
schemas Registration = registration
schemas Unit = unit
schemas Role = role
schemas User = user
schemas Team = team
