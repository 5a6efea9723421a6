-- A text is accepted where it has no fault, and then its definition is what it says.
use Rattle.std.specs.Prelude.{◌≡◌, ℕ, List, Option, Some, None, option_map}
use Rattle.std.specs.Option.{option_or}
use Rattle.dv_meta.specs.Accepted.{IsDefinitionOf}
use Rattle.dv_meta.specs.Faults.{first_fault, refusal_of}
use Rattle.dv_schema.specs.Form.{form_fault, draft_in}
use Rattle.dv_schema.specs.declared.definition.Definition.{Definition}
use Rattle.dv_schema.specs.declared.fault.DefFault.{DefFault}
use Rattle.dv_schema.specs.declared.fault.DefFault.TheVariants.{OutOfMemory}

-- the first fault of a text: that of its form, or else that of the passes over what it says
abbrev pub first_fault_of : List ℕ → ℕ → Option DefFault
first_fault_of bytes steps = option_or (form_fault bytes) (option_map refusal_of (first_fault (draft_in bytes) steps))

-- what is told is out of memory, or the first fault of the text
abbrev pub IsFirstFault : List ℕ → ℕ → DefFault → Type 0
IsFirstFault bytes steps fault = (fault ≡ OutOfMemory → ⊥) → first_fault_of bytes steps ≡ Some fault

-- the text has no fault, and the definition is what it says
pub record IsAccepted (bytes : List ℕ) (steps : ℕ) (definition : Definition) : Type 0 where
  pub faultless : first_fault_of bytes steps ≡ None
  pub meaning : IsDefinitionOf (draft_in bytes) definition
