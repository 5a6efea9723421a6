-- Where a session stands between two bytes of its input, and how a call leaves it.
use Rattle.std.specs.Prelude.{◌≡◌, ℕ, List, [], ◌∷◌, ◌++◌, Option, Some, None, Result, Ok, Err, IsErrOf, take}
use Rattle.std.specs.Io.KnownBytes.{append_known}
use Rattle.dv_base.specs.Faults.{Rose}
use Rattle.dv_base.specs.Sink.{IsCut}
use Rattle.dv_service.specs.Lines.{has_content, ended_lines, open_line, lines_of}
use Rattle.dv_refusal.specs.declared.refusal.Refusal.{Refusal}
use Rattle.dv_service.specs.Answers.{answer_line, refused}
use Rattle.dv_service.specs.Machine.{Step, opened, RefusesBy, Writes}
use Rattle.dv_service.specs.Organisations.{Organisation}
use Rattle.dv_service.specs.Outside.{Outside, with_text}
use Rattle.dv_service.specs.Outcome.{Answered, CutIn}
use Rattle.dv_service.specs.declared.line_buffer.TheConstants.{ROOM}
use Rattle.dv_service.specs.declared.line_buffer.LineBuffer.{LineBuffer}
use Rattle.dv_service.specs.declared.answer.Answer.{Answer}
use Rattle.dv_service.specs.declared.answer.Answer.TheVariants.{Replied}
use Rattle.dv_service.specs.declared.session.Session.{Session}
use Rattle.dv_service.specs.declared.status.Stop.{Stop}
use Rattle.dv_service.specs.declared.status.Stop.TheVariants.{NotOpened, WriteFault, OutOfMemory}

-- As much of a line as is held.
unfoldable pub front_of : List ℕ → List ℕ
front_of line = take ROOM line

-- The buffer stands for this line: it has the front, and knows whether the line is one.
pub record IsHeld (buffer : LineBuffer) (line : List ℕ) : Type 0 where
  pub front : buffer.bytes.items ≡ front_of line
  pub content : buffer.has_content ≡ has_content line

-- The session stands behind these bytes: it holds the open line, and has answered the lines that ended.
pub record Stands (session : Session) (taken : List ℕ) (before now : Outside) : Type 0 where
  pub line : IsHeld session.line (open_line taken)
  pub answered : Answered (ended_lines taken) session.org before now

-- The first of the lines begins no organisation, and its refusal was written.
pub record IsRefused (lines : List (List ℕ)) (before now : Outside) : Type 0 where
  pub line : List ℕ
  pub others : List (List ℕ)
  pub first : lines ≡ line ∷ others
  pub text : List ℕ
  pub bad : RefusesBy line text
  pub wrote : now ≡ with_text before text

-- What writing a text leaves: it was written whole, or it was cut by a fault of the output.
abbrev pub Wrote : {T : Type 0} → Result T Stop → List ℕ → Option (List ℕ) → Option (List ℕ) → Type 0
Wrote (Ok value) text before now = now ≡ append_known before text
Wrote (Err WriteFault) text before now = IsCut text before now
Wrote (Err NotOpened) text before now = ⊥
Wrote (Err OutOfMemory) text before now = ⊥

-- What refusing the first line leaves: the refusal's line was written, or cut by a fault of the output, or memory ran
-- out before anything was written.
abbrev pub RefusesFirst : {T : Type 0} → Result T Stop → Refusal → Option (List ℕ) → Option (List ℕ) → Type 0
RefusesFirst (Ok value) refusal before now = ⊥
RefusesFirst (Err NotOpened) refusal before now = now ≡ append_known before (answer_line (Replied (refused refusal)))
RefusesFirst (Err WriteFault) refusal before now = IsCut (answer_line (Replied (refused refusal))) before now
RefusesFirst (Err OutOfMemory) refusal before now = now ≡ before

-- What telling of an organisation that has begun leaves: its line was written and it is kept, or the line was cut by a
-- fault of the output, or memory ran out before anything was written.
abbrev pub TellsBegun : {T : Type 0} → Result T Stop → Organisation → Option Organisation → Option (List ℕ) → Option (List ℕ) → Type 0
TellsBegun (Ok value) begun new before now = (new ≡ Some begun) × (now ≡ append_known before (answer_line (opened begun)))
TellsBegun (Err NotOpened) begun new before now = ⊥
TellsBegun (Err WriteFault) begun new before now = IsCut (answer_line (opened begun)) before now
TellsBegun (Err OutOfMemory) begun new before now = now ≡ before

-- What answering one line leaves: its answer was written and the organisation made its step; or the first line was
-- refused; or what is written for the line was cut; or memory ran out before anything was answered.
abbrev pub AnswersLine : {T : Type 0} → Result T Stop → Option Organisation → List ℕ → Option Organisation → Outside → Outside → Type 0
AnswersLine (Ok value) old line new before now =
    (answer : Answer) × (next : Organisation) × (new ≡ Some next) × Step old line before.clock answer next now.clock × (now.written ≡ append_known before.written (answer_line answer))
AnswersLine (Err NotOpened) old line new before now =
    (text : List ℕ) × (old ≡ None) × RefusesBy line text × (now ≡ with_text before text)
AnswersLine (Err WriteFault) old line new before now =
    (text : List ℕ) × Writes old line before.clock text now.clock × IsCut text before.written now.written
AnswersLine (Err OutOfMemory) old line new before now = (old ≡ None) × (now ≡ before)

-- Whatever line the buffer holds, answering it leaves that.
abbrev pub AnswersHeld : {T : Type 0} → Result T Stop → LineBuffer → Option Organisation → Option Organisation → Outside → Outside → Type 0
AnswersHeld result buffer old new before now =
    (line : List ℕ) → IsHeld buffer line → AnswersLine result old line new before now

-- How a call left the session where these lines have ended so far: they were answered, and it stood as said; or the
-- first was refused; or the reply to one was cut; or memory ran out and nothing was written.
abbrev pub Leaves : {T : Type 0} → Result T Stop → Type 0 → List (List ℕ) → Outside → Outside → Type 0
Leaves (Ok value) stood lines before now = stood
Leaves (Err NotOpened) stood lines before now = IsRefused lines before now
Leaves (Err WriteFault) stood lines before now = CutIn lines before now
Leaves (Err OutOfMemory) stood lines before now = now ≡ before

-- Wherever the session stood, the call took this piece of the input, and stands behind it where it was an `Ok`.
abbrev pub Takes : {T : Type 0} → Result T Stop → Session → List ℕ → Session → Outside → Outside → Type 0
Takes result old piece new written now = (taken : List ℕ) (before : Outside) → Stands old taken before written
    → Leaves result (Stands new (taken ++ piece) before now) (ended_lines (taken ++ piece)) before now

-- Wherever the session stood, the call ended the open line, and holds an empty one where it was an `Ok`.
abbrev pub EndsLine : {T : Type 0} → Result T Stop → Session → Session → Outside → Outside → Type 0
EndsLine result old new written now = (taken : List ℕ) (before : Outside) → Stands old taken before written
    → Leaves result (IsHeld new.line [] × Answered (lines_of taken) new.org before now) (lines_of taken) before now

-- The count of faults rose where a fault was told, and stands as before where none was.
pub record TellsFault (told : Type 0) (before now : ℕ) : Type 0 where
  pub rose : told → Rose before now
  pub steady : ¬ told → now ≡ before

-- The sink's count rose where a fault of the sink was told, and else stands as before.
abbrev pub TellsWriteFault : {T : Type 0} → Result T Stop → ℕ → ℕ → Type 0
TellsWriteFault result before now = TellsFault (IsErrOf result WriteFault) before now
