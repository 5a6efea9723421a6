-- What comes of a call: the world that it makes, its earlier states, and its refusals.
use Rattle.std.specs.Prelude.{◌≡◌, ◌<◌, ◌≤◌, ◌⊎◌, Option, None, Some}
use Rattle.dv_refusal.specs.declared.refusal.Refusal.{Refusal}
use Rattle.dv_refusal.specs.declared.refusal.Refusal.TheVariants as answer
use Rattle.dv_refusal.specs.declared.what.What.TheVariants as what
use Rattle.dv_refusal.specs.declared.what.What.TheVariants.{Grant}
use Rattle.dv_work.specs.History.{History, Extends}
use Rattle.dv_store.specs.declared.fault.StoreFault.{StoreFault}
use Rattle.dv_store.specs.declared.fault.StoreFault.TheVariants.{Limit, OutOfMemory}
use Rattle.dv_store.specs.World.{World, grant_total, most_grants}

-- a store comes to a world, and each mark that it had, that of the world before too, brings back what it brought back
pub record Makes (old new : History World) (w : World) : Type 0 where
  pub present : new.present ≡ w
  pub extends : Extends old new

-- the limit of grants isn't passed, if it wasn't before
abbrev pub StaysWithin : World → World → Type 0
StaysWithin old new = grant_total old ≤ most_grants → grant_total new ≤ most_grants

-- a refusal to make a world: memory ran out, or there is the limit of grants, which that world passes
abbrev pub MayRefuse : World → StoreFault → Type 0
MayRefuse w fault = (fault ≡ OutOfMemory) ⊎ ((fault ≡ Limit Grant) × (most_grants < grant_total w))

-- there is a world of which something is so, and it passes the limit of grants
pub record Passes (IsMade : World → Type 0) : Type 0 where
  pub world : World
  pub made : IsMade world
  pub past : most_grants < grant_total world

-- a refusal to make a world of which something is so: memory ran out, or there is the limit of grants, which it passes
abbrev pub MayRefuseTo : (World → Type 0) → StoreFault → Type 0
MayRefuseTo IsMade fault = (fault ≡ OutOfMemory) ⊎ ((fault ≡ Limit Grant) × Passes IsMade)

-- What the limit of grants says of the world that a message would make: where it isn't told, that world is within the
-- limit, if the one before was; where it is told, that world passes it.
abbrev pub LimitSays : (World → Type 0) → World → Option Refusal → Type 0
LimitSays Makes old None = (new : World) × Makes new × StaysWithin old new
LimitSays Makes old (Some refusal) = (new : World) × Makes new × (most_grants < grant_total new) × (refusal ≡ answer.Limit what.Grant)
