-- Access rights as numbers, each a bit of its own, as Dataverse numbers them.
use Rattle.std.specs.Prelude.{ℕ, Bool, ◌==◌, ◌||◌, ◌^◌}
use Rattle.std.specs.Int.{bit_at}
use Rattle.dv_schema.specs.declared.opening.Action.{Action}
use Rattle.dv_schema.specs.declared.opening.Action.TheVariants.{Create, Read, Write, Delete, Append, AppendTo, Assign, Share}

-- the place of an action's bit
abbrev pub bit_of : Action → ℕ
bit_of Read = 0
bit_of Write = 1
bit_of Append = 2
bit_of AppendTo = 4
bit_of Create = 5
bit_of Delete = 16
bit_of Share = 18
bit_of Assign = 19

-- the right to do an action
abbrev pub right_of : Action → ℕ
right_of action = 2 ^ bit_of action

-- whether rights have the right to do an action
abbrev pub has_right : ℕ → Action → Bool
has_right rights action = bit_at rights (bit_of action) == 1

-- whether the direct rights of a grant have it, or the inherited ones
abbrev pub grant_has : ℕ × ℕ → Action → Bool
grant_has grant action = has_right grant.0 action || has_right grant.1 action
