-- The next version, and what a fault of the store means to a caller.
use Rattle.std.specs.Prelude.{ℕ, ◌+◌, ◌-◌, ◌^◌, if◌then◌else◌, nat_lt}
use Rattle.dv_refusal.specs.declared.refusal.Refusal.TheVariants as answer
use Rattle.dv_store.specs.World.{World}
use Rattle.dv_store.specs.declared.fault.StoreFault.{StoreFault}
use Rattle.dv_store.specs.declared.fault.StoreFault.TheVariants.{Limit, OutOfMemory as NoMemory}
use Rattle.dv_message.specs.declared.stop.Stop.{Stop}
use Rattle.dv_message.specs.declared.stop.Stop.TheVariants.{Refused, OutOfMemory}

-- the next version; there is none where the counter stands at its end
abbrev pub next_version : World → ℕ
next_version w = if nat_lt (2 ^ 63 - 1) (w.version + 1) then 0 else w.version + 1

-- what a fault of the store means to a caller
unfoldable pub stop_of : StoreFault → Stop
stop_of (Limit what) = Refused (answer.Limit what)
stop_of NoMemory = OutOfMemory
