-- What a change answers where a definition says that it is refused, or what it makes.
use Rattle.std.specs.Prelude.{◌≡◌, ⊤, Result, Err, Option, Some}
use Rattle.dv_refusal.specs.declared.refusal.Refusal.{Refusal}
use Rattle.dv_units.specs.declared.fault.DirFault.{DirFault}
use Rattle.dv_units.specs.declared.fault.DirFault.TheVariants.{Refused, OutOfMemory}

-- a refusal is the one that the definition gives; running out of memory says nothing of it
abbrev pub IsFaultOf : {C : Type 0} → Result C Refusal → DirFault → Type 0
IsFaultOf outcome (Refused refusal) = outcome ≡ Err refusal
IsFaultOf outcome OutOfMemory = ⊤

-- the same where the definition gives the refusal alone
abbrev pub IsCauseOf : Option Refusal → DirFault → Type 0
IsCauseOf cause (Refused refusal) = cause ≡ Some refusal
IsCauseOf cause OutOfMemory = ⊤
