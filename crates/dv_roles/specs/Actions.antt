-- The actions that privileges speak of.
use Rattle.std.specs.Prelude.{ℕ, Bool, true, false, not, ◌==◌, ◌||◌, List, [], ◌∷◌}
use Rattle.dv_schema.specs.declared.opening.Action.{Action}
use Rattle.dv_schema.specs.declared.opening.Action.TheVariants.{Create, Read, Write, Delete, Append, AppendTo, Assign, Share}

-- all actions, in their order
abbrev pub actions : List Action
actions = Create ∷ Read ∷ Write ∷ Delete ∷ Append ∷ AppendTo ∷ Assign ∷ Share ∷ []

-- an action's place in the order
abbrev pub number_of : Action → ℕ
number_of Create = 0
number_of Read = 1
number_of Write = 2
number_of Delete = 3
number_of Append = 4
number_of AppendTo = 5
number_of Assign = 6
number_of Share = 7

abbrev pub same_action : Action → Action → Bool
same_action a b = number_of a == number_of b

-- assigning and sharing are for rows that have an owner
abbrev pub is_for_owners : Action → Bool
is_for_owners Assign = true
is_for_owners Share = true
is_for_owners _ = false

-- whether a table has an action: one whose rows users own has them all
abbrev pub has_action : Bool → Action → Bool
has_action owned action = owned || not (is_for_owners action)
