-- How the telling of faults goes over several calls.
use Rattle.std.proofs.Common.{◌≡◌, ℕ, Ok, Err, IsErrOf, refl, sym, ◌∙◌, subst}
use Rattle.dv_base.specs.Faults.{Rose}
use Rattle.dv_service.specs.Sessions.{TellsFault}
use Rattle.dv_service.specs.Statuses.{ending_of}
use Rattle.dv_service.specs.declared.run.Turn.TheVariants.{Took, AtEnd, ReadFault, Stopped}
use Rattle.dv_service.specs.declared.status.Ending.{Ending}
use Rattle.dv_service.specs.declared.status.Ending.TheVariants as ending
use Rattle.dv_service.specs.declared.status.Stop.{Stop}
use Rattle.dv_service.specs.declared.status.Stop.TheVariants as stop

-- a fault that rose and is told
pub TellsFault-told : (told : Type 0) (before now : ℕ) → Rose before now → told → TellsFault told before now
TellsFault-told told before now rose is = record { rose = λ t. rose; steady = λ other. absurd (other is) }

-- no fault, and none is told
pub TellsFault-none : (told : Type 0) (before now : ℕ) → now ≡ before → (told → ⊥) → TellsFault told before now
TellsFault-none told before now steady other = record { rose = λ t. absurd (other t); steady = λ o. steady }

-- a fault after calls that met none
pub TellsFault-since : (told : Type 0) (before middle now : ℕ) → middle ≡ before → TellsFault told middle now → TellsFault told before now
TellsFault-since told before middle now steady tells = subst (λ n. TellsFault told n now) steady tells

-- one fault told in two ways
pub TellsFault-as : (told other : Type 0) (before now : ℕ) → (told → other) → (other → told) → TellsFault told before now → TellsFault other before now
TellsFault-as told other before now to from tells =
    record { rose = λ o. tells.rose (from o); steady = λ none. tells.steady (λ t. none (to t)) }

stops : {T : Type 0} (s : Stop) → IsErrOf {T = T} {E = Stop} (Err s) stop.WriteFault → s ≡ stop.WriteFault
stops stop.NotOpened is = absurd (cc)
stops stop.WriteFault is = refl
stops stop.OutOfMemory is = absurd (cc)

is_stop : {T : Type 0} (s : Stop) → s ≡ stop.WriteFault → IsErrOf {T = T} {E = Stop} (Err s) stop.WriteFault
is_stop s is = rw is refl

is_stopped : (s : Stop) → Stopped s ≡ Stopped stop.WriteFault → s ≡ stop.WriteFault
is_stopped s is = cc

stopped : (s : Stop) → s ≡ stop.WriteFault → Stopped s ≡ Stopped stop.WriteFault
stopped s is = cc

ends : (s : Stop) (e : Ending) → e ≡ ending_of s → s ≡ stop.WriteFault → e ≡ ending.WriteFault
ends s e ending is = rw is at ending

ended : (s : Stop) → ending_of s ≡ ending.WriteFault → s ≡ stop.WriteFault
ended stop.NotOpened is = absurd (cc)
ended stop.WriteFault is = refl
ended stop.OutOfMemory is = absurd (cc)

-- a stop told by a turn
pub TellsFault-turn : {T : Type 0} (s : Stop) (before now : ℕ) → TellsFault (IsErrOf {T = T} {E = Stop} (Err s) stop.WriteFault) before now
    → TellsFault (Stopped s ≡ Stopped stop.WriteFault) before now
TellsFault-turn s before now tells = TellsFault-as _ _ before now (λ is. stopped s (stops s is)) (λ is. is_stop s (is_stopped s is)) tells

-- a stop told by an ending
pub TellsFault-ending : {T : Type 0} (s : Stop) (e : Ending) (before now : ℕ) → e ≡ ending_of s
    → TellsFault (IsErrOf {T = T} {E = Stop} (Err s) stop.WriteFault) before now → TellsFault (e ≡ ending.WriteFault) before now
TellsFault-ending s e before now is tells =
    TellsFault-as _ _ before now (λ err. ends s e is (stops s err)) (λ end. is_stop s (ended s (sym is ∙ end))) tells

-- a stop of a turn told by an ending
pub TellsFault-stopped : (s : Stop) (e : Ending) (before now : ℕ) → e ≡ ending_of s
    → TellsFault (Stopped s ≡ Stopped stop.WriteFault) before now → TellsFault (e ≡ ending.WriteFault) before now
TellsFault-stopped s e before now is tells =
    TellsFault-as _ _ before now (λ turn. ends s e is (is_stopped s turn)) (λ end. stopped s (ended s (sym is ∙ end))) tells

-- what a result, a turn or an ending is not
pub Ok-Err : {T : Type 0} (value : T) → IsErrOf {T = T} {E = Stop} (Ok value) stop.WriteFault → ⊥
Ok-Err value is = cc

pub Took-ReadFault : (n : ℕ) → Took n ≡ ReadFault → ⊥
Took-ReadFault n is = cc

pub Took-Stopped : (n : ℕ) (s : Stop) → Took n ≡ Stopped s → ⊥
Took-Stopped n s is = cc

pub AtEnd-ReadFault : AtEnd ≡ ReadFault → ⊥
AtEnd-ReadFault is = cc

pub AtEnd-Stopped : (s : Stop) → AtEnd ≡ Stopped s → ⊥
AtEnd-Stopped s is = cc

pub ReadFault-Stopped : (s : Stop) → ReadFault ≡ Stopped s → ⊥
ReadFault-Stopped s is = cc

pub Stopped-ReadFault : (s : Stop) → Stopped s ≡ ReadFault → ⊥
Stopped-ReadFault s is = cc

pub fault-of-input : ending.ReadFault ≡ ending.WriteFault → ⊥
fault-of-input is = cc

pub limit-read : ending.InputLimit ≡ ending.ReadFault → ⊥
limit-read is = cc

pub limit-write : ending.InputLimit ≡ ending.WriteFault → ⊥
limit-write is = cc
