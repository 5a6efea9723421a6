use Rattle.std.proofs.Common.{◌≡◌, map, take}
use Rattle.dv_meta.specs.Accepted.{registration_of}
use Rattle.dv_meta.proofs.building.registrations_of.Given as goal

abbrev pub invariant-loop-g : goal.invariant-loop-g
invariant-loop-g l = l.steps ≡ map (registration_of l.draft) (take l.g-index l.g-items)
