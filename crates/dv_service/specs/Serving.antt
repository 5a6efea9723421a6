-- A line after the first is served: what it reads is answered, at a moment that the clock gives.
use Rattle.std.specs.Prelude.{◌≡◌, ◌⊎◌, ℕ, ℤ, Bool, true, false, ◌||◌, List, [], Option, Some, None, Result, Ok, Err}
use Rattle.dv_base.specs.Clock.{ClockState, IsInRange, Ticks}
use Rattle.dv_base.specs.Faults.{Rose}
use Rattle.dv_value.specs.declared.id.Id.{Id}
use Rattle.dv_refusal.specs.declared.refusal.Refusal.{Refusal}
use Rattle.dv_refusal.specs.declared.refusal.Refusal.TheVariants.{Malformed, NotBuilt, ClockFault, OutOfMemory}
use Rattle.dv_request.specs.declared.reply.Reply.{Reply}
use Rattle.dv_request.specs.declared.reply.Reply.TheVariants.{Done}
use Rattle.dv_request.specs.declared.request.Request.{Request}
use Rattle.dv_roles.specs.State.{State}
use Rattle.dv_store.specs.World.{World}
use Rattle.dv_cascade.specs.Sound.{HasSoundLinks}
use Rattle.dv_wire.specs.Reads.{Reading, spelled, faulty, reads}
use Rattle.dv_pipeline.specs.Requests.{is_built}
use Rattle.dv_pipeline.specs.Run.{Runs}
use Rattle.dv_service.specs.Answers.{refused}
use Rattle.dv_service.specs.Lines.{within_limit}
use Rattle.dv_service.specs.Managing.{is_of_directory, managed}
use Rattle.dv_service.specs.Organisations.{Organisation, with_directory, with_world}

-- what a line that isn't too long reads; one that is too long has a fault as a whole
unfoldable pub reading_of : Option (List ℕ) → Reading (Id × Request)
reading_of None = faulty []
reading_of (Some bytes) = reads bytes

-- whether the service is built as far as the request asks
unfoldable pub is_served : Request → Bool
is_served request = is_of_directory request || is_built request

-- a message of the directory changes it, and nothing else, or is refused
unfoldable pub Manages : Result State Refusal → Organisation → Reply → Organisation → Type 0
Manages (Ok directory) org reply new = (reply ≡ Done) × (new ≡ with_directory org directory)
Manages (Err refusal) org reply new = (reply ≡ refused refusal) × (new ≡ org)

-- the reply to a request on rows
abbrev pub reply_of : Result Reply Refusal → Reply
reply_of (Ok reply) = reply
reply_of (Err refusal) = refused refusal

-- a request on rows changes them, and nothing else, or is refused; the links of the rows are sound then: each lookup names
-- a row that is there, and no row is above itself
pub record Executes (org : Organisation) (now : ℤ) (user : Id) (request : Request) (reply : Reply) (new : Organisation) : Type 0 where
  pub world : World
  pub outcome : Result Reply Refusal
  pub runs : Runs org.definition org.directory org.world user now request world outcome
  pub told : reply ≡ reply_of outcome
  pub kept : new ≡ with_world org world
  pub sound : HasSoundLinks world org.definition

unfoldable pub ServesAs : Bool → Organisation → ℤ → Id → Request → Reply → Organisation → Type 0
ServesAs true org now user request reply new = Manages (managed org.definition org.directory user request) org reply new
ServesAs false org now user request reply new = Executes org now user request reply new

-- A request of a user is served at a moment: it has this reply, and leaves this organisation.
abbrev pub Serves : Organisation → ℤ → Id → Request → Reply → Organisation → Type 0
Serves org now user request reply new = ServesAs (is_of_directory request) org now user request reply new

-- The clock gave this moment, at which the request was served.
pub record IsServed (org : Organisation) (user : Id) (request : Request) (clock : ClockState) (reply : Reply) (new : Organisation) (after : ClockState) : Type 0 where
  pub now : ℤ
  pub ticks : Ticks clock now after
  pub in_range : IsInRange now
  pub serves : Serves org now user request reply new

-- The clock failed, and counted a fault. The organisation is as before, and the clock has the moments that it had.
pub record IsClockFault (org : Organisation) (clock : ClockState) (reply : Reply) (new : Organisation) (after : ClockState) : Type 0 where
  pub told : reply ≡ refused ClockFault
  pub rose : Rose clock.faults after.faults
  pub moments : after.moments ≡ clock.moments
  pub kept : new ≡ org

-- Memory ran out, before the clock gave a moment or after it. The organisation is as before.
pub record IsOutOfMemory (org : Organisation) (clock : ClockState) (reply : Reply) (new : Organisation) (after : ClockState) : Type 0 where
  pub told : reply ≡ refused OutOfMemory
  pub ticks : (after ≡ clock) ⊎ ((now : ℤ) × Ticks clock now after)
  pub kept : new ≡ org

-- what comes of a request that is asked of the service
pub data Asks (org : Organisation) (user : Id) (request : Request) (clock : ClockState) (reply : Reply) (new : Organisation) (after : ClockState) : Type 0 where
  served : IsServed org user request clock reply new after → Asks org user request clock reply new after
  fault : IsClockFault org clock reply new after → Asks org user request clock reply new after
  memory : IsOutOfMemory org clock reply new after → Asks org user request clock reply new after

-- A refusal for which the clock isn't asked; or memory ran out. The organisation and the clock are as before.
pub record Declined (refusal : Refusal) (org : Organisation) (clock : ClockState) (reply : Reply) (new : Organisation) (after : ClockState) : Type 0 where
  pub told : (reply ≡ refused refusal) ⊎ (reply ≡ refused OutOfMemory)
  pub kept : new ≡ org
  pub unasked : after ≡ clock

unfoldable pub ServedIf : Bool → Organisation → Id → Request → ClockState → Reply → Organisation → ClockState → Type 0
ServedIf true org user request clock reply new after = Asks org user request clock reply new after
ServedIf false org user request clock reply new after = Declined NotBuilt org clock reply new after

unfoldable pub ServedAs : Reading (Id × Request) → Organisation → ClockState → Reply → Organisation → ClockState → Type 0
ServedAs (faulty place) org clock reply new after = Declined (Malformed place) org clock reply new after
ServedAs (spelled line) org clock reply new after = ServedIf (is_served line.1) org line.0 line.1 clock reply new after

-- A line gets this reply, and leaves this organisation and this clock.
unfoldable pub Served : Organisation → List ℕ → ClockState → Reply → Organisation → ClockState → Type 0
Served org line clock reply new after = ServedAs (reading_of (within_limit line)) org clock reply new after
