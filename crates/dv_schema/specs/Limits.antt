-- How large a definition may be.
use Rattle.std.specs.Prelude.{ℕ, ℤ, pos, negsuc, ◌≡◌, ◌≤◌, Some, length, slice_get}
use Rattle.dv_schema.specs.declared.draft.Draft.{Draft}
use Rattle.dv_schema.specs.declared.draft.DraftTable.{DraftTable}

-- the most bytes of a definition's text
abbrev pub most_bytes : ℕ
most_bytes = 1048576

-- the most tables
abbrev pub most_tables : ℕ
most_tables = 100

-- the most columns that a definition gives a table
abbrev pub most_columns : ℕ
most_columns = 60

-- the most relationships
abbrev pub most_relationships : ℕ
most_relationships = 300

-- the most registrations of steps
abbrev pub most_steps : ℕ
most_steps = 500

-- the most business units beside the root
abbrev pub most_units : ℕ
most_units = 999

-- the most security roles
abbrev pub most_roles : ℕ
most_roles = 500

-- the most users beside the first
abbrev pub most_users : ℕ
most_users = 9999

-- the most teams
abbrev pub most_teams : ℕ
most_teams = 5000

-- the most members of a team
abbrev pub most_members : ℕ
most_members = 100000

-- the most characters that a text column may allow
abbrev pub longest_text : ℤ
longest_text = pos 2000

-- the most digits that an amount has after the point
abbrev pub largest_scale : ℤ
largest_scale = pos 4

-- the last of the depths of a privilege, the organisation
abbrev pub deepest : ℤ
deepest = pos 3

-- the last rank of a registration
abbrev pub last_rank : ℤ
last_rank = pos 1000000

-- the largest number of a step
abbrev pub last_step : ℤ
last_step = pos 9223372036854775807

-- the least integer of 32 bits
abbrev pub least_short : ℤ
least_short = negsuc 2147483647

-- the greatest integer of 32 bits
abbrev pub greatest_short : ℤ
greatest_short = pos 2147483647

-- no list of the definition is too long
pub record IsWithinLimits (draft : Draft) : Type 0 where
  pub tables : length draft.tables ≤ most_tables
  pub columns : (i : ℕ) (table : DraftTable) → slice_get draft.tables i ≡ Some table → length table.columns ≤ most_columns
  pub relationships : length draft.relationships ≤ most_relationships
  pub steps : length draft.steps ≤ most_steps
