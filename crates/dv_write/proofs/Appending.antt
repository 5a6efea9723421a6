-- A lookup that fails ends the walk over the lookups.
use Rattle.std.proofs.Common.{inl, List, ◌∷◌}
use Rattle.std.specs.Prelude.{Option, Err}
use Rattle.dv_refusal.specs.declared.refusal.Refusal.{Refusal}
use Rattle.dv_message.specs.declared.lookups.Naming.{Naming}
use Rattle.dv_message.specs.declared.stop.Stop.{Stop}
use Rattle.dv_message.specs.declared.stop.Stop.TheVariants.{Refused, OutOfMemory}
use Rattle.dv_message.specs.Checked.{Answers, Both, FirstSays}
use Rattle.dv_message.specs.Lookups.{AppendSays, AppendToSays}
use Rattle.dv_message.specs.Scenes.{Targeted}

-- what a lookup says that fails is what the lookups say of which it is the first
pub append_ended : (MayAppend : Option Refusal → Type 0) (t : Targeted) (naming : Naming) (named : List Naming) (stop : Stop)
    → Answers {T = Unit {0}} (Both MayAppend (AppendToSays t naming)) (Err stop) → Answers {T = Unit {0}} (AppendSays MayAppend t (naming ∷ named)) (Err stop)
unfolding AppendSays FirstSays
append_ended MayAppend t naming named (Refused refusal) said = inl said
append_ended MayAppend t naming named OutOfMemory said = tt
