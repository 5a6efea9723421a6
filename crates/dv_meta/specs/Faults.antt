-- The passes over a well-formed text, each over the whole of it; the first pass that finds a fault tells it.
use Rattle.std.specs.Prelude.{ℕ, chars, ◌≡◌, Option, Some, option_map}
use Rattle.std.specs.Option.{option_or}
use Rattle.dv_schema.specs.declared.draft.Draft.{Draft}
use Rattle.dv_schema.specs.declared.fault.DefFault.{DefFault}
use Rattle.dv_schema.specs.declared.fault.DefFault.TheVariants.{Bad, OutOfMemory}
use Rattle.dv_schema.specs.declared.fault.DefKind.{DefKind}
use Rattle.dv_schema.specs.declared.fault.DefKind.TheVariants.{NameTaken, UnknownName, BadCascade, OwnershipClash, SecondParent, BadRollup, UnknownStep, BadDirectory}
use Rattle.dv_schema.specs.declared.place.Place.{Place}
use Rattle.dv_schema.specs.Places.{path_of}
use Rattle.dv_opening.specs.Opening.{bad_directory}
use Rattle.dv_meta.specs.declared.passes.Fault.{Fault}
use Rattle.dv_meta.specs.NameTaken.{name_taken}
use Rattle.dv_meta.specs.Named.{owned}
use Rattle.dv_meta.specs.Relations.{bad_cascade, ownership_clash, second_parent}
use Rattle.dv_meta.specs.Rollups.{bad_rollup}
use Rattle.dv_meta.specs.Steps.{unknown_step}
use Rattle.dv_meta.specs.UnknownName.{unknown_name}

-- a fault of a kind, if there is a place that has it
abbrev pub of_kind : DefKind → Option Place → Option Fault
of_kind kind place = option_map (λ at. record { kind = kind; place = at }) place

-- the first pass that finds a fault, and the place that it finds
unfoldable pub first_fault : Draft → ℕ → Option Fault
first_fault draft steps =
    option_or (of_kind NameTaken (name_taken draft))
    (option_or (of_kind UnknownName (unknown_name draft))
    (option_or (of_kind BadCascade (bad_cascade draft))
    (option_or (of_kind OwnershipClash (ownership_clash draft))
    (option_or (of_kind SecondParent (second_parent draft))
    (option_or (of_kind BadRollup (bad_rollup draft))
    (option_or (of_kind UnknownStep (unknown_step steps draft))
    (of_kind BadDirectory (bad_directory (owned draft) draft.opening))))))))

-- what is told of a fault: its kind, and its place as text
abbrev pub refusal_of : Fault → DefFault
refusal_of fault = Bad fault.kind (chars (path_of fault.place))

-- a refusal tells the first fault; out of memory says nothing of the definition
abbrev pub IsTold : Option Fault → DefFault → Type 0
IsTold first (Bad kind place) = option_map refusal_of first ≡ Some (Bad kind place)
IsTold first OutOfMemory = Unit {0}
