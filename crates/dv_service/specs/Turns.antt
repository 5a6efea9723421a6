-- What one turn of a run leaves, and what the end of its input leaves.
use Rattle.std.specs.Prelude.{◌≡◌, ◌⊎◌, ◌≤◌, ℕ, List, [], ◌++◌, length, Option, Some, Err}
use Rattle.std.specs.Io.KnownBytes.{prepend_known, IsAtEnd}
use Rattle.dv_service.specs.Lines.{ended_lines}
use Rattle.dv_service.specs.Organisations.{Organisation}
use Rattle.dv_service.specs.Outcome.{Answered, CutIn}
use Rattle.dv_service.specs.Outside.{Outside}
use Rattle.dv_service.specs.Sessions.{Stands, IsRefused, Leaves}
use Rattle.dv_service.specs.declared.run.Turn.{Turn}
use Rattle.dv_service.specs.declared.run.Turn.TheVariants.{Took, AtEnd, ReadFault, Stopped}
use Rattle.dv_service.specs.declared.session.Session.{Session}
use Rattle.dv_service.specs.declared.status.Ending.{Ending}
use Rattle.dv_service.specs.declared.status.Ending.TheVariants as ending

-- What a turn tells of the piece that it took: the session stands behind it, or was stopped in it.
abbrev pub TurnedAt : Turn → List ℕ → List ℕ → Session → Option (List ℕ) → Outside → Outside → Type 0
TurnedAt (Took n) taken piece session left_now before now = (length piece ≡ n) × Stands session (taken ++ piece) before now
TurnedAt AtEnd taken piece session left_now before now = (piece ≡ []) × IsAtEnd left_now × Stands session taken before now
TurnedAt ReadFault taken piece session left_now before now = (piece ≡ []) × Stands session taken before now
TurnedAt (Stopped stop) taken piece session left_now before now =
    Leaves {T = Unit {0}} (Err stop) (Stands session (taken ++ piece) before now) (ended_lines (taken ++ piece)) before now

-- A turn took a piece of at most so many bytes.
pub record Turned (turn : Turn) (most : ℕ) (taken : List ℕ) (session : Session) (left left_now : Option (List ℕ)) (before now : Outside) : Type 0 where
  pub piece : List ℕ
  pub took : left ≡ prepend_known piece left_now
  pub within : length piece ≤ most
  pub how : TurnedAt turn taken piece session left_now before now

-- What the end of the input leaves, by the ending: all its lines were answered; or there is none, or the first was
-- refused; or the reply to the last was cut; or memory ran out and nothing was written.
abbrev pub Finished : Ending → List (List ℕ) → Outside → Outside → Type 0
Finished ending.Done lines before now = (org : Organisation) × Answered lines (Some org) before now
Finished ending.NotOpened lines before now = ((lines ≡ []) × (now ≡ before)) ⊎ IsRefused lines before now
Finished ending.WriteFault lines before now = CutIn lines before now
Finished ending.OutOfMemory lines before now = now ≡ before
Finished ending.ReadFault lines before now = ⊥
Finished ending.InputLimit lines before now = ⊥
