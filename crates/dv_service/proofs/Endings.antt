use Rattle.std.proofs.Common.{◌≡◌, refl, arith}
use Rattle.dv_service.specs.Statuses.{code_of}
use Rattle.dv_service.specs.declared.status.Ending.{Ending}
use Rattle.dv_service.specs.declared.status.Ending.TheVariants as ending

-- which ending a status tells
pub code_of-0 : (e : Ending) → code_of e ≡ 0 → e ≡ ending.Done
unfolding code_of
code_of-0 ending.Done is = refl
code_of-0 ending.NotOpened is = absurd (omega arith)
code_of-0 ending.ReadFault is = absurd (omega arith)
code_of-0 ending.WriteFault is = absurd (omega arith)
code_of-0 ending.OutOfMemory is = absurd (omega arith)
code_of-0 ending.InputLimit is = absurd (omega arith)

pub code_of-3 : (e : Ending) → code_of e ≡ 3 → e ≡ ending.NotOpened
unfolding code_of
code_of-3 ending.Done is = absurd (omega arith)
code_of-3 ending.NotOpened is = refl
code_of-3 ending.ReadFault is = absurd (omega arith)
code_of-3 ending.WriteFault is = absurd (omega arith)
code_of-3 ending.OutOfMemory is = absurd (omega arith)
code_of-3 ending.InputLimit is = absurd (omega arith)

pub code_of-5 : (e : Ending) → code_of e ≡ 5 → e ≡ ending.ReadFault
unfolding code_of
code_of-5 ending.Done is = absurd (omega arith)
code_of-5 ending.NotOpened is = absurd (omega arith)
code_of-5 ending.ReadFault is = refl
code_of-5 ending.WriteFault is = absurd (omega arith)
code_of-5 ending.OutOfMemory is = absurd (omega arith)
code_of-5 ending.InputLimit is = absurd (omega arith)

pub code_of-6 : (e : Ending) → code_of e ≡ 6 → e ≡ ending.WriteFault
unfolding code_of
code_of-6 ending.Done is = absurd (omega arith)
code_of-6 ending.NotOpened is = absurd (omega arith)
code_of-6 ending.ReadFault is = absurd (omega arith)
code_of-6 ending.WriteFault is = refl
code_of-6 ending.OutOfMemory is = absurd (omega arith)
code_of-6 ending.InputLimit is = absurd (omega arith)

pub code_of-9 : (e : Ending) → code_of e ≡ 9 → e ≡ ending.OutOfMemory
unfolding code_of
code_of-9 ending.Done is = absurd (omega arith)
code_of-9 ending.NotOpened is = absurd (omega arith)
code_of-9 ending.ReadFault is = absurd (omega arith)
code_of-9 ending.WriteFault is = absurd (omega arith)
code_of-9 ending.OutOfMemory is = refl
code_of-9 ending.InputLimit is = absurd (omega arith)

pub code_of-10 : (e : Ending) → code_of e ≡ 10 → e ≡ ending.InputLimit
unfolding code_of
code_of-10 ending.Done is = absurd (omega arith)
code_of-10 ending.NotOpened is = absurd (omega arith)
code_of-10 ending.ReadFault is = absurd (omega arith)
code_of-10 ending.WriteFault is = absurd (omega arith)
code_of-10 ending.OutOfMemory is = absurd (omega arith)
code_of-10 ending.InputLimit is = refl

pub code_of-other : (e : Ending) → code_of e ≡ 2 → ⊥
unfolding code_of
code_of-other ending.Done is = omega arith
code_of-other ending.NotOpened is = omega arith
code_of-other ending.ReadFault is = omega arith
code_of-other ending.WriteFault is = omega arith
code_of-other ending.OutOfMemory is = omega arith
code_of-other ending.InputLimit is = omega arith

-- and which status tells an ending
pub ReadFault-code : (e : Ending) → e ≡ ending.ReadFault → code_of e ≡ 5
unfolding code_of
ReadFault-code e is = rw is refl

pub WriteFault-code : (e : Ending) → e ≡ ending.WriteFault → code_of e ≡ 6
unfolding code_of
WriteFault-code e is = rw is refl
