-- Words of the code's contracts for the roles of the opening directory.
use Rattle.std.specs.Prelude.{Bool, List, is_some}
use Rattle.std.specs.List.{list_any}
use Rattle.dv_schema.specs.declared.draft.Draft.{Draft}
use Rattle.dv_schema.specs.declared.opening.Entry.{Entry}
use Rattle.dv_schema.specs.declared.opening.Role.{Role}
use Rattle.dv_opening.specs.Directory.{Directory, adding_entry, adding_role}
use Rattle.dv_meta.specs.Named.{owned}

-- whether one of the privileges is refused
abbrev pub entry_refused : Draft → List Entry → Bool
entry_refused draft entries = list_any (λ entry. is_some (adding_entry (owned draft) entry)) entries

-- whether a directory refuses a role
abbrev pub refuses_role : Draft → Directory → Role → Bool
refuses_role draft directory role = is_some (adding_role directory (owned draft) role.id.0 role.entries)
