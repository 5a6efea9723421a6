-- An organisation: its definition, its directory, and its rows with their counters.
use Rattle.std.specs.Prelude.{refl}
use Rattle.std.specs.Coded.{Coded, code_by, coded×}
use Rattle.dv_schema.specs.declared.definition.Definition.{Definition}
use Rattle.dv_schema.specs.contracts.definition.Definition as definition_type
use Rattle.dv_roles.specs.contracts.directory.Directory as directory_type
use Rattle.dv_roles.specs.State.{State}
use Rattle.dv_store.specs.World.{World, world_code}

-- what is kept of an organisation
pub record Organisation : Type 0 where
  pub definition : Definition
  pub directory : State
  pub world : World

-- with another directory, or with another world
abbrev pub with_directory : Organisation → State → Organisation
with_directory org directory = record { definition = org.definition; directory = directory; world = org.world }

abbrev pub with_world : Organisation → World → Organisation
with_world org world = record { definition = org.definition; directory = org.directory; world = world }

-- an organisation is stored as its parts
abbrev pub organisation_code : Coded Organisation
organisation_code = code_by (Definition × (State × World)) (coded× (definition_type.the_row).coded (coded× (directory_type.the_row).coded world_code))
    (λ org. (org.definition, (org.directory, org.world))) (λ parts. record { definition = parts.0; directory = parts.1.0; world = parts.1.1 }) (λ _. refl)
