-- A text that isn't a JSON object, or is longer than a definition may be, is no definition; of any other text the first fault of its form is that of the walk by its schemas.
use Rattle.std.specs.Prelude.{ℕ, List, [], nat_lt, length, if◌then◌else◌, Option, Some, None, option_map, unwrap_or, chars}
use Rattle.std.specs.Option.{is_some}
use Rattle.serde_json.specs.Data.{Data, null}
use Rattle.serde_json.specs.Find.{as_object}
use Rattle.dv_value.specs.Json.{json_of}
use Rattle.dv_form.specs.Forms.{object_of}
use Rattle.dv_form.specs.Places.{path_text}
use Rattle.dv_form.specs.Walk.{Violation, first_fault}
use Rattle.dv_form.specs.declared.fault.FaultKind.{FaultKind}
use Rattle.dv_form.specs.declared.fault.FaultKind.TheVariants.{Unlisted, Wrong, TooLong}
use Rattle.dv_schema.specs.Grammar.{schemas}
use Rattle.dv_schema.specs.Limits.{most_bytes}
use Rattle.dv_schema.specs.Reading.{draft_of}
use Rattle.dv_schema.specs.declared.draft.Draft.{Draft}
use Rattle.dv_schema.specs.declared.fault.DefFault.{DefFault}
use Rattle.dv_schema.specs.declared.fault.DefFault.TheVariants.{Bad}
use Rattle.dv_schema.specs.declared.fault.DefKind.{DefKind}
use Rattle.dv_schema.specs.declared.fault.DefKind.TheVariants.{NotJson, UnknownField, BadForm, Limit}
use Rattle.dv_schema.specs.declared.grammar.Rule.TheVariants.{Definition}

-- a fault of form as a kind of a definition's fault
unfoldable pub kind_of : FaultKind → DefKind
kind_of Unlisted = UnknownField
kind_of Wrong = BadForm
kind_of TooLong = Limit

-- a fault of form as it is told
abbrev pub told : Violation → DefFault
told fault = Bad (kind_of fault.kind) (chars (path_text fault.path))

-- no JSON object, at the empty place
abbrev pub not_json : DefFault
not_json = Bad NotJson []

-- the first fault of form of a JSON value
unfoldable pub fault_in : Data → Option DefFault
fault_in d = if is_some (as_object d) then option_map told (first_fault schemas d (object_of Definition)) else Some not_json

-- the first fault of form of what may be JSON
unfoldable pub fault_of_read : Option Data → Option DefFault
fault_of_read None = Some not_json
fault_of_read (Some d) = fault_in d

-- the first fault of form of a text, which may have 1,048,576 bytes
unfoldable pub form_fault : List ℕ → Option DefFault
form_fault bytes = if nat_lt most_bytes (length bytes) then Some not_json else fault_of_read (json_of bytes)

-- what a text of the right form says
unfoldable pub draft_in : List ℕ → Draft
draft_in bytes = draft_of (unwrap_or (json_of bytes) null)
