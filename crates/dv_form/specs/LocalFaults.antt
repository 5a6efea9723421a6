-- A fault as the code has it: its kind, and its path as it is written.
use Rattle.std.specs.Prelude.{ℕ, List, [], ◌++◌, true, false, chars, codes, if◌then◌else◌}
use Rattle.std.specs.Fmt.{decimal}
use Rattle.dv_form.specs.Places.{is_named, path_text}
use Rattle.dv_form.specs.Walk as walk
use Rattle.dv_form.specs.declared.fault.Fault.{Fault}
use Rattle.dv_form.specs.declared.local_fault.LocalFault.{LocalFault}

-- on its way out
abbrev pub local_of : walk.Violation → LocalFault
local_of f = record { kind = f.kind; is_named = is_named f.path; text = path_text f.path }

-- seen from the object whose member has it
abbrev pub within_member : List ℕ → LocalFault → LocalFault
within_member name f = record { kind = f.kind; is_named = true; text = name ++ (if f.is_named then codes "." else []) ++ f.text }

-- seen from the list whose item has it
abbrev pub within_item : ℕ → LocalFault → LocalFault
within_item at f = record { kind = f.kind; is_named = false; text = (codes "[" ++ decimal at ++ codes "]") ++ (if f.is_named then codes "." else []) ++ f.text }

-- as it is told
abbrev pub fault_of : walk.Violation → Fault
fault_of f = record { kind = f.kind; place = chars (path_text f.path) }
