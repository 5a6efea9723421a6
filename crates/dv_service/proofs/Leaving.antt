-- How what a call leaves follows from what the calls in it leave.
use Rattle.std.proofs.Common.{◌≡◌, ℕ, ◌<◌, List, [], ◌∷◌, ◌++◌, length, take, get_or, Option, Some, None, Result, Ok, Err, true, refl, sym, ◌∙◌, ap, subst, inl, inr}
use Rattle.std.specs.Io.KnownBytes.{append_known}
use Rattle.dv_base.specs.Clock.{ClockState}
use Rattle.dv_refusal.specs.declared.refusal.Refusal.TheVariants.{BadDefinition}
use Rattle.dv_service.specs.Answers.{answer_line, bad_definition}
use Rattle.dv_service.specs.Lines.{line_feed, has_content, ended_lines, open_line, lines_of}
use Rattle.dv_service.specs.Machine.{Step, opened, Writes}
use Rattle.dv_service.specs.Opening.{Begins, Declines}
use Rattle.dv_service.specs.Organisations.{Organisation}
use Rattle.dv_service.specs.Outcome.{Answered}
use Rattle.dv_service.specs.Outside.{Outside, outside, with_text}
use Rattle.dv_service.specs.Sessions.{IsHeld, Stands, Wrote, RefusesFirst, TellsBegun, AnswersLine, Leaves}
use Rattle.dv_service.specs.declared.answer.Answer.{Answer}
use Rattle.dv_service.specs.declared.session.Session.{Session}
use Rattle.dv_service.specs.declared.status.Stop.{Stop}
use Rattle.dv_service.specs.declared.status.Stop.TheVariants.{NotOpened, WriteFault, OutOfMemory}
use Rattle.dv_service.proofs.Runs.{Answered-more, Answered-unopened}
use Rattle.dv_service.proofs.Splitting.{ended_lines-feed}
use Rattle.dv_service.proofs.Streams.{Stands-feed, lines_of-line, IsRefused-within, CutIn-feed, CutIn-within}

-- a text that wasn't written whole was cut
AnswersLine-cut : (T : Type 0) (stop : Stop) (old new : Option Organisation) (line text : List ℕ) (before now : Outside)
    → Writes old line before.clock text now.clock → Wrote {T = T} (Err stop) text before.written now.written → AnswersLine {T = T} (Err stop) old line new before now
AnswersLine-cut T NotOpened old new line text before now writes wrote = absurd wrote
AnswersLine-cut T WriteFault old new line text before now writes wrote = (text, writes, wrote)
AnswersLine-cut T OutOfMemory old new line text before now writes wrote = absurd wrote

-- an answer that was written answers the line
pub AnswersLine-step : {T : Type 0} (result : Result T Stop) (old : Option Organisation) (line text : List ℕ) (answer : Answer) (next : Organisation) (before now : Outside)
    → Step old line before.clock answer next now.clock → text ≡ answer_line answer → Wrote result text before.written now.written → AnswersLine result old line (Some next) before now
AnswersLine-step (Ok value) old line text answer next before now step is wrote = (answer, next, refl, step, wrote ∙ ap (append_known before.written) is)
AnswersLine-step {T} (Err stop) old line text answer next before now step is wrote =
    AnswersLine-cut T stop old (Some next) line text before now (inl (answer, next, step, is)) wrote

module _ {T : Type 0} (line : List ℕ) (new : Option Organisation) (before now : Option (List ℕ)) (clock : ClockState) where
  -- the first line began an organisation
  pub AnswersLine-begun : (result : Result T Stop) (begun : Organisation) → Begins line begun → TellsBegun result begun new before now
      → AnswersLine result None line new (outside before clock) (outside now clock)
  AnswersLine-begun (Ok value) begun begins told = (opened begun, begun, told.0, (begins, refl, refl), told.1)
  AnswersLine-begun (Err NotOpened) begun begins told = absurd told
  AnswersLine-begun (Err WriteFault) begun begins told = (answer_line (opened begun), inl (opened begun, begun, (begins, refl, refl), refl), told)
  AnswersLine-begun (Err OutOfMemory) begun begins told = (refl, ap (λ w. outside w clock) told)

  -- the first line was refused
  pub AnswersLine-declined : (result : Result T Stop) (kind place : List ℕ) → Declines line kind place → RefusesFirst result (BadDefinition kind place) before now
      → AnswersLine result None line new (outside before clock) (outside now clock)
  AnswersLine-declined (Ok value) kind place declines told = absurd told
  AnswersLine-declined (Err NotOpened) kind place declines told =
      (answer_line (bad_definition kind place), refl, (kind, place, declines, refl), ap (λ w. outside w clock) told)
  AnswersLine-declined (Err WriteFault) kind place declines told =
      (answer_line (bad_definition kind place), inr (refl, (kind, place, declines, refl), refl), told)
  AnswersLine-declined (Err OutOfMemory) kind place declines told = (refl, ap (λ w. outside w clock) told)

-- a line that ended and wasn't answered
pub Leaves-unanswered : (stop : Stop) (taken : List ℕ) (old new : Option Organisation) (before middle now : Outside) (stood : Type 0)
    → has_content (open_line taken) ≡ true → Answered (ended_lines taken) old before middle
    → AnswersLine {T = Unit {0}} (Err stop) old (open_line taken) new middle now → Leaves {T = Unit {0}} (Err stop) stood (lines_of taken) before now
Leaves-unanswered NotOpened taken old new before middle now stood content answered (text, none, bad, wrote) =
    let unopened = Answered-unopened _ _ _ _ answered none in
    record {
      line = open_line taken;
      others = [];
      first = lines_of-line taken content ∙ ap (λ lines. lines ++ open_line taken ∷ []) unopened.0;
      text = text;
      bad = bad;
      wrote = wrote ∙ ap (λ told. with_text told text) unopened.1;
    }
Leaves-unanswered WriteFault taken old new before middle now stood content answered (text, writes, cut) = record {
  served = ended_lines taken;
  line = open_line taken;
  others = [];
  parts = lines_of-line taken content;
  org = old;
  middle = middle;
  answered = answered;
  text = text;
  writes = writes;
  cut = cut;
}
Leaves-unanswered OutOfMemory taken old new before middle now stood content answered (none, untouched) =
    untouched ∙ (Answered-unopened _ _ _ _ answered none).1

-- a line that ended and was answered
pub Answered-line : (taken : List ℕ) (old new : Option Organisation) (before middle now : Outside)
    → has_content (open_line taken) ≡ true → Answered (ended_lines taken) old before middle
    → ((answer : Answer) × (next : Organisation) × (new ≡ Some next) × Step old (open_line taken) middle.clock answer next now.clock × (now.written ≡ append_known middle.written (answer_line answer)))
    → Answered (lines_of taken) new before now
Answered-line taken old new before middle now content answered (answer, next, is, step, wrote) =
    rw (lines_of-line taken content)
    (subst (λ org. Answered (ended_lines taken ++ open_line taken ∷ []) org before now) (sym is)
    (Answered-more (ended_lines taken) old before middle now (open_line taken) answer next answered step wrote))

-- a line feed ends the line
pub Leaves-feed : {T : Type 0} (result : Result T Stop) (session : Session) (taken : List ℕ) (b : ℕ) (before now : Outside) → b ≡ line_feed
    → Leaves result (IsHeld session.line [] × Answered (lines_of taken) session.org before now) (lines_of taken) before now
    → Leaves result (Stands session (taken ++ b ∷ []) before now) (ended_lines (taken ++ b ∷ [])) before now
Leaves-feed (Ok value) session taken b before now feed (held, answered) = Stands-feed session taken b before now feed held answered
Leaves-feed (Err NotOpened) session taken b before now feed refused = rw (feed, ended_lines-feed taken) refused
Leaves-feed (Err WriteFault) session taken b before now feed cut = CutIn-feed taken b before now feed cut
Leaves-feed (Err OutOfMemory) session taken b before now feed untouched = untouched

-- what stopped a byte of a piece stopped the piece
pub Leaves-within : (stop : Stop) (some_stood stood : Type 0) (taken piece : List ℕ) (i : ℕ) (before now : Outside) → i < length piece
    → Leaves {T = Unit {0}} (Err stop) some_stood (ended_lines ((taken ++ take i piece) ++ get_or piece i 0 ∷ [])) before now
    → Leaves {T = Unit {0}} (Err stop) stood (ended_lines (taken ++ piece)) before now
Leaves-within NotOpened some_stood stood taken piece i before now h refused = IsRefused-within taken piece i before now h refused
Leaves-within WriteFault some_stood stood taken piece i before now h cut = CutIn-within taken piece i before now h cut
Leaves-within OutOfMemory some_stood stood taken piece i before now h untouched = untouched
