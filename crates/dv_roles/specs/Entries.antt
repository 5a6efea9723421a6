-- The privileges of a role: what is refused, and how they are spread out over actions and tables.
use Rattle.std.specs.Prelude.{ℕ, zero, suc, Bool, true, false, not, ◌==◌, ◌||◌, ◌&&◌, List, [], ◌∷◌, ◌++◌, Option, Some, None, if◌then◌else◌, codes, find, flat_map, length, slice_get}
use Rattle.std.specs.List.{list_any}
use Rattle.std.specs.Option.{option_map, option_map_or}
use Rattle.dv_schema.specs.declared.definition.Definition.{Definition}
use Rattle.dv_schema.specs.declared.opening.Action.{Action}
use Rattle.dv_schema.specs.declared.opening.Entry.{Entry}
use Rattle.dv_schema.specs.declared.table.Table.{Table}
use Rattle.dv_schema.specs.Definitions.{tables_of}
use Rattle.dv_schema.specs.First.{first}
use Rattle.dv_schema.specs.Names.{Name, same_name}
use Rattle.dv_refusal.specs.declared.refusal.Refusal.{Refusal}
use Rattle.dv_refusal.specs.declared.refusal.Refusal.TheVariants.{UnknownTable, RoleRule}
use Rattle.dv_roles.specs.declared.role.RoleEntry.{RoleEntry}
use Rattle.dv_roles.specs.Actions.{actions, same_action, is_for_owners, has_action}

-- whether users own the rows of the table of a name, where it is there
abbrev pub owned_at : Definition → Name → Option Bool
owned_at definition name = option_map (λ table. table.user_owned) (find (λ table. same_name table.name name) (tables_of definition))

-- an entry's action, or any
abbrev pub is_of_owners : Option Action → Bool
is_of_owners None = false
is_of_owners (Some action) = is_for_owners action

-- an entry on a table of a name: users own its rows, or the entry reaches the whole organisation and its action isn't
-- one for owners
unfoldable pub fault_on : Name → Option Bool → Entry → Option Refusal
fault_on name None entry = Some (UnknownTable name)
fault_on name (Some true) entry = None
fault_on name (Some false) entry = if not (entry.depth == 3) || is_of_owners entry.action then Some (RoleRule (codes "entry")) else None

-- why an entry is refused; one on all tables never is
unfoldable pub entry_fault : Definition → Entry → Option Refusal
entry_fault definition entry = on entry.table
  where
    on : Option Name → Option Refusal
    on None = None
    on (Some name) = fault_on name (owned_at definition name) entry

-- the first refusal of a list of entries
abbrev pub entries_fault : Definition → List Entry → Option Refusal
entries_fault definition entries = first (λ i entry. entry_fault definition entry) entries

-- whether an entry is on a table: by its name, or as one on all tables, which are those that users own, and at depth 3
-- every table
abbrev pub is_on : Table → Entry → Bool
is_on table entry = by entry.table
  where
    by : Option Name → Bool
    by None = table.user_owned || (entry.depth == 3)
    by (Some name) = same_name table.name name

-- whether an entry is for an action: its own, or any
abbrev pub is_for : Action → Option Action → Bool
is_for action None = true
is_for action (Some own) = same_action own action

-- whether an entry allows an action on a table, which has that action
unfoldable pub covers : Table → Action → Entry → Bool
covers table action entry = has_action table.user_owned action && (is_for action entry.action && is_on table entry)

-- whether one of the entries allows an action on a table at a depth
abbrev pub is_at_depth : List Entry → Table → Action → ℕ → Bool
is_at_depth entries table action depth = list_any (λ entry. covers table action entry && (entry.depth == depth)) entries

-- the greatest depth at which one of the entries allows an action on a table
unfoldable pub greatest : List Entry → Table → Action → Option ℕ
greatest entries table action =
    if is_at_depth entries table action 3 then Some 3
    else if is_at_depth entries table action 2 then Some 2
    else if is_at_depth entries table action 1 then Some 1
    else if is_at_depth entries table action 0 then Some 0
    else None

-- an entry of a depth, where there is one
abbrev pub entry_of : Action → ℕ → Option ℕ → List RoleEntry
entry_of action number None = []
entry_of action number (Some depth) = record { action = action; table = number; depth = depth } ∷ []

-- what is kept for an action on the table of a number: one entry or none
unfoldable pub kept_at : List Table → List Entry → Action → ℕ → List RoleEntry
kept_at tables entries action number = option_map_or (λ table. entry_of action number (greatest entries table action)) (slice_get tables number) []

-- the numbers below a number, ascending
unfoldable pub below : ℕ → List ℕ
below zero = []
below (suc n) = below n ++ n ∷ []

-- what is kept for an action, by the tables' numbers
abbrev pub kept_for : List Table → List Entry → Action → List RoleEntry
kept_for tables entries action = flat_map (kept_at tables entries action) (below (length tables))

-- what is kept of a list of entries: one entry for each action and table that they allow, by action, then by table
abbrev pub spread : List Table → List Entry → List RoleEntry
spread tables entries = flat_map (kept_for tables entries) actions
