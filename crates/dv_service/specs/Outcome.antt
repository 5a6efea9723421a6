-- What a run has done when it ends, by its status: which lines were answered, and what was written.
-- `left` is what the source still has, where it tells it; `written` is what the sink has taken and what the clock tells.
use Rattle.std.specs.declared.alloc.Global.{Global}
use Rattle.std.specs.Prelude.{map, codes, String, string_bytes, ◌≡◌, ◌⊎◌, ◌<◌, ◌≤◌, ℕ, List, [], ◌∷◌, ◌++◌, length, Option, None, Some}
use Rattle.std.specs.Io.KnownBytes.{append_known, prepend_known, IsAtEnd}
use Rattle.dv_base.specs.Sink.{IsCut}
use Rattle.dv_service.specs.Lines.{ended_lines, lines_of}
use Rattle.dv_service.specs.Answers.{printed}
use Rattle.dv_service.specs.Machine.{Run, RefusesBy, Writes}
use Rattle.dv_service.specs.Opening.{Begins}
use Rattle.dv_service.specs.Organisations.{Organisation}
use Rattle.dv_service.specs.Outside.{Outside, with_text}
use Rattle.dv_service.specs.declared.answer.Answer.{Answer}
use Rattle.dv_service.specs.declared.run.TheConstants.{INPUT_LIMIT}
use Rattle.dv_service.specs.declared.status.Ending.{Ending}
use Rattle.dv_service.specs.declared.status.Ending.TheVariants as ending

-- the words are `run` alone
abbrev pub AreRun : List (String Global) → Type 0
AreRun words = map string_bytes words ≡ codes "run" ∷ []

-- The machine answered these lines, from its start on, and its answers were written whole, in order, and nothing else.
pub record Answered (lines : List (List ℕ)) (org : Option Organisation) (before now : Outside) : Type 0 where
  pub answers : List Answer
  pub ran : Run None lines before.clock answers org now.clock
  pub wrote : now.written ≡ append_known before.written (printed answers)

-- Status 0: the input was read to its end, and all its lines were answered.
pub record RanToEnd (left left_now : Option (List ℕ)) (written written_now : Outside) : Type 0 where
  pub input : List ℕ
  pub took : left ≡ prepend_known input left_now
  pub at_end : IsAtEnd left_now
  pub short : length input < INPUT_LIMIT
  pub org : Organisation
  pub answered : Answered (lines_of input) (Some org) written written_now

-- the lines that ended in these bytes; the end of the input ends the last line too
abbrev pub HaveEnded : List (List ℕ) → List ℕ → Option (List ℕ) → Type 0
HaveEnded lines taken left_now = ((lines ≡ ended_lines taken) × (length taken ≤ INPUT_LIMIT)) ⊎ ((lines ≡ lines_of taken) × IsAtEnd left_now × (length taken < INPUT_LIMIT))

-- The input was read to its end and has no line, and nothing was written.
pub record EndsUnopened (taken : List ℕ) (left_now : Option (List ℕ)) (written written_now : Outside) : Type 0 where
  pub none : lines_of taken ≡ []
  pub at_end : IsAtEnd left_now
  pub short : length taken < INPUT_LIMIT
  pub wrote : written_now ≡ written

-- The first line that ended begins no organisation, and its refusal was written.
pub record RefusesFirst (taken : List ℕ) (left_now : Option (List ℕ)) (written written_now : Outside) : Type 0 where
  pub lines : List (List ℕ)
  pub ended : HaveEnded lines taken left_now
  pub line : List ℕ
  pub others : List (List ℕ)
  pub parts : lines ≡ line ∷ others
  pub text : List ℕ
  pub bad : RefusesBy line text
  pub wrote : written_now ≡ with_text written text

-- Status 3: there is no definition line, or the first line isn't accepted.
pub record NotOpened (left left_now : Option (List ℕ)) (written written_now : Outside) : Type 0 where
  pub taken : List ℕ
  pub took : left ≡ prepend_known taken left_now
  pub how : EndsUnopened taken left_now written written_now ⊎ RefusesFirst taken left_now written written_now

-- At a fault of the input or at the limit: some bytes were taken, and the lines that ended in them were answered.
pub record StoppedBetween (left left_now : Option (List ℕ)) (written written_now : Outside) : Type 0 where
  pub taken : List ℕ
  pub took : left ≡ prepend_known taken left_now
  pub org : Option Organisation
  pub answered : Answered (ended_lines taken) org written written_now

-- Status 5: fewer bytes were taken than a run takes.
abbrev pub StoppedBelowLimit : Option (List ℕ) → Option (List ℕ) → Outside → Outside → Type 0
StoppedBelowLimit left left_now written written_now =
    (stopped : StoppedBetween left left_now written written_now) × (length stopped.taken < INPUT_LIMIT)

-- Status 10: as many bytes were taken as a run takes.
abbrev pub StoppedAtLimit : Option (List ℕ) → Option (List ℕ) → Outside → Outside → Type 0
StoppedAtLimit left left_now written written_now =
    (stopped : StoppedBetween left left_now written written_now) × (length stopped.taken ≡ INPUT_LIMIT)

-- Lines are answered up to one of them, of whose reply only a front was written.
pub record CutIn (lines : List (List ℕ)) (written written_now : Outside) : Type 0 where
  pub served : List (List ℕ)
  pub line : List ℕ
  pub others : List (List ℕ)
  pub parts : lines ≡ served ++ line ∷ others
  pub org : Option Organisation
  pub middle : Outside
  pub answered : Answered served org written middle
  pub text : List ℕ
  pub writes : Writes org line middle.clock text written_now.clock
  pub cut : IsCut text middle.written written_now.written

-- Status 6: some bytes were taken, and of the lines that ended in them one was cut short, and no later one answered.
pub record CutShort (left left_now : Option (List ℕ)) (written written_now : Outside) : Type 0 where
  pub taken : List ℕ
  pub took : left ≡ prepend_known taken left_now
  pub lines : List (List ℕ)
  pub ended : HaveEnded lines taken left_now
  pub cut : CutIn lines written written_now

-- Whether the first line begins an organisation.
abbrev pub IsOpened : List (List ℕ) → Type 0
IsOpened [] = ⊥
IsOpened (line ∷ lines) = (org : Organisation) × Begins line org

-- What a run has done, by its ending.
abbrev pub Ran : Ending → Option (List ℕ) → Option (List ℕ) → Outside → Outside → Type 0
Ran ending.Done left left_now written written_now = RanToEnd left left_now written written_now
Ran ending.NotOpened left left_now written written_now = NotOpened left left_now written written_now
Ran ending.ReadFault left left_now written written_now = StoppedBelowLimit left left_now written written_now
Ran ending.WriteFault left left_now written written_now = CutShort left left_now written written_now
Ran ending.OutOfMemory left left_now written written_now = written_now ≡ written
Ran ending.InputLimit left left_now written written_now = StoppedAtLimit left left_now written written_now
