-- How a line is served by what it reads, and how its reply is told.
use Rattle.std.proofs.Common.{◌≡◌, ℕ, ℤ, Bool, true, false, List, Result, Ok, Err, IfOk, IfErr, IsErrOf, inl, inr, refl}
use Rattle.dv_base.specs.Clock.{ClockState, IsInRange, Ticks}
use Rattle.dv_base.specs.Faults.{Rose}
use Rattle.dv_value.specs.declared.id.Id.{Id}
use Rattle.dv_refusal.specs.declared.refusal.Refusal.{Refusal}
use Rattle.dv_refusal.specs.declared.refusal.Refusal.TheVariants.{Malformed, NotBuilt, ClockFault, OutOfMemory}
use Rattle.dv_request.specs.declared.reply.Reply.{Reply}
use Rattle.dv_request.specs.declared.reply.Reply.TheVariants.{Done}
use Rattle.dv_request.specs.declared.request.Request.{Request}
use Rattle.dv_roles.specs.State.{State}
use Rattle.dv_wire.specs.Reads.{Reading, spelled, faulty}
use Rattle.dv_service.specs.Answers.{answer_line, refused}
use Rattle.dv_service.specs.Lines.{within_limit}
use Rattle.dv_service.specs.Managing.{is_of_directory, managed}
use Rattle.dv_service.specs.Organisations.{Organisation, with_directory}
use Rattle.dv_service.specs.Replies.{Tells}
use Rattle.dv_service.specs.Serving.{reading_of, is_served, Manages, Executes, ServesAs, Serves, Asks, served, fault, memory, ServedIf, ServedAs, Served}
use Rattle.dv_service.specs.declared.answer.Answer.TheVariants.{Replied}
use Rattle.dv_service.specs.declared.serving.LineFault.{LineFault}
use Rattle.dv_service.specs.declared.serving.LineFault.TheVariants.{Clock, Memory}

module _ {T : Type 0} (text : T → List ℕ) (means : Reply → Type 0) where
  -- a refusal is told by its line, or memory ran out
  pub Tells-refused : (result : Result T LineFault) (refusal : Refusal) → IfOk result (λ line. text line ≡ answer_line (Replied (refused refusal)))
      → IfErr result (λ why. why ≡ Memory) → means (refused refusal) → means (refused OutOfMemory) → Tells result text means
  Tells-refused (Ok line) refusal is only told other = (refused refusal, told, is)
  Tells-refused (Err Clock) refusal is only told other = absurd (cc)
  Tells-refused (Err Memory) refusal is only told other = other

  -- the line of a reply that is meant
  pub Tells-ok : (result : Result T LineFault) → Tells result text means → IfOk result (λ line. (reply : Reply) × means reply × (text line ≡ answer_line (Replied reply)))
  Tells-ok (Ok line) tells = tells
  Tells-ok (Err why) tells = tt

  -- a fault of the clock
  pub Tells-clock : (result : Result T LineFault) → Tells result text means → IsErrOf result Clock → means (refused ClockFault)
  Tells-clock (Ok line) tells is = absurd (cc)
  Tells-clock (Err Clock) tells is = tells
  Tells-clock (Err Memory) tells is = absurd (cc)

  -- memory ran out
  pub Tells-memory : (result : Result T LineFault) → Tells result text means → IsErrOf result Memory → means (refused OutOfMemory)
  Tells-memory (Ok line) tells is = absurd (cc)
  Tells-memory (Err Clock) tells is = absurd (cc)
  Tells-memory (Err Memory) tells is = tells

-- a refusal's line fails for memory alone
pub Memory-Clock : {T : Type 0} (result : Result T LineFault) → IfErr result (λ why. why ≡ Memory) → IsErrOf result Clock → ⊥
Memory-Clock (Ok line) only is = cc
Memory-Clock (Err Clock) only is = cc
Memory-Clock (Err Memory) only is = cc

-- what a reply means more widely is told too
pub Tells-weaker : {T : Type 0} (text : T → List ℕ) (means other : Reply → Type 0) (result : Result T LineFault)
    → ((reply : Reply) → means reply → other reply) → Tells result text means → Tells result text other
Tells-weaker text means other (Ok line) weaker tells = (tells.0, weaker tells.0 tells.1, tells.2)
Tells-weaker text means other (Err Clock) weaker tells = weaker (refused ClockFault) tells
Tells-weaker text means other (Err Memory) weaker tells = weaker (refused OutOfMemory) tells

module _ (org : Organisation) (now : ℤ) (user : Id) (request : Request) (reply : Reply) (new : Organisation) where
  -- a message of the directory is served as one
  pub Serves-directory : is_of_directory request ≡ true → Manages (managed org.definition org.directory user request) org reply new → Serves org now user request reply new
  unfolding ServesAs
  Serves-directory is manages = rw is manages

  -- and another request on the rows
  pub Serves-rows : is_of_directory request ≡ false → Executes org now user request reply new → Serves org now user request reply new
  unfolding ServesAs
  Serves-rows is executes = rw is executes

module _ (org : Organisation) where
  -- a message of the directory that is done
  pub Manages-done : (outcome : Result State Refusal) (directory : State) → outcome ≡ Ok directory → Manages outcome org Done (with_directory org directory)
  unfolding Manages
  Manages-done outcome directory is = rw is (refl, refl)

  -- and one that is refused
  pub Manages-refused : (outcome : Result State Refusal) (refusal : Refusal) → outcome ≡ Err refusal → Manages outcome org (refused refusal) org
  unfolding Manages
  Manages-refused outcome refusal is = rw is (refl, refl)

-- what comes of a request that is asked of the service, by what the clock gave and what came of serving it
module _ (org : Organisation) (user : Id) (request : Request) (clock : ClockState) where
  -- it was served at the moment that the clock gave
  pub Asks-served : (now : ℤ) (reply : Reply) (new : Organisation) (after : ClockState) → Ticks clock now after → IsInRange now
      → Serves org now user request reply new → Asks org user request clock reply new after
  Asks-served now reply new after ticks range serves = served (record { now = now; ticks = ticks; in_range = range; serves = serves })

  -- the clock failed
  pub Asks-fault : (after : ClockState) → Rose clock.faults after.faults → after.moments ≡ clock.moments → Asks org user request clock (refused ClockFault) org after
  Asks-fault after rose moments = fault (record { told = refl; rose = rose; moments = moments; kept = refl })

  -- memory ran out after the clock gave a moment
  pub Asks-memory : (now : ℤ) (new : Organisation) (after : ClockState) → Ticks clock now after → new ≡ org → Asks org user request clock (refused OutOfMemory) new after
  Asks-memory now new after ticks kept = memory (record { told = refl; ticks = inr (now, ticks); kept = kept })

module _ (org : Organisation) (clock : ClockState) where
  pub ServedIf-memory : (built : Bool) (user : Id) (request : Request) → ServedIf built org user request clock (refused OutOfMemory) org clock
  unfolding ServedIf
  ServedIf-memory true user request = memory (record { told = refl; ticks = inl refl; kept = refl })
  ServedIf-memory false user request = record { told = inr refl; kept = refl; unasked = refl }

  ServedAs-memory : (reading : Reading (Id × Request)) → ServedAs reading org clock (refused OutOfMemory) org clock
  unfolding ServedAs
  ServedAs-memory (faulty place) = record { told = inr refl; kept = refl; unasked = refl }
  ServedAs-memory (spelled line) = ServedIf-memory (is_served line.1) line.0 line.1

  -- memory ran out before the clock was asked
  pub Served-memory : (line : List ℕ) → Served org line clock (refused OutOfMemory) org clock
  unfolding Served
  Served-memory line = ServedAs-memory (reading_of (within_limit line))

  -- a line that reads no request
  pub Served-faulty : (line place : List ℕ) → reading_of (within_limit line) ≡ faulty place → Served org line clock (refused (Malformed place)) org clock
  unfolding Served ServedAs
  Served-faulty line place is = rw is (record { told = inl refl; kept = refl; unasked = refl })

-- a request that is not served yet is declined
pub ServedIf-later : (built : Bool) (org : Organisation) (user : Id) (request : Request) (clock : ClockState) → built ≡ false → ServedIf built org user request clock (refused NotBuilt) org clock
unfolding ServedIf
ServedIf-later built org user request clock later = rw later (record { told = inl refl; kept = refl; unasked = refl })

-- and one that is served is asked
pub ServedIf-asked : (built : Bool) (org : Organisation) (user : Id) (request : Request) (clock : ClockState) (reply : Reply) (new : Organisation) (after : ClockState)
    → built ≡ true → Asks org user request clock reply new after → ServedIf built org user request clock reply new after
unfolding ServedIf
ServedIf-asked built org user request clock reply new after is asks = rw is asks

-- a line that reads a request
pub Served-read : (org : Organisation) (line : List ℕ) (read : Id × Request) (clock : ClockState) (reply : Reply) (new : Organisation) (after : ClockState)
    → reading_of (within_limit line) ≡ spelled read → ServedIf (is_served read.1) org read.0 read.1 clock reply new after → Served org line clock reply new after
unfolding Served ServedAs
Served-read org line read clock reply new after is served_if = rw is served_if
