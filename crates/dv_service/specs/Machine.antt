-- The machine that is served: its first line begins the organisation, and each later line is one step of it.
use Rattle.std.specs.Prelude.{◌≡◌, ◌⊎◌, ℕ, List, [], ◌∷◌, Option, Some, None, length}
use Rattle.dv_base.specs.Clock.{ClockState}
use Rattle.dv_request.specs.declared.reply.Reply.{Reply}
use Rattle.dv_schema.specs.Definitions.{tables_of}
use Rattle.dv_service.specs.Answers.{answer_line, bad_definition}
use Rattle.dv_service.specs.Opening.{Begins, Declines}
use Rattle.dv_service.specs.Organisations.{Organisation}
use Rattle.dv_service.specs.Serving.{Served}
use Rattle.dv_service.specs.declared.answer.Answer.{Answer}
use Rattle.dv_service.specs.declared.answer.Answer.TheVariants.{Opened, Replied}

-- the answer that tells of an organisation that has begun
abbrev pub opened : Organisation → Answer
opened org = Opened (length (tables_of org.definition))

-- One step: the definition line begins the organisation and asks nothing of the clock, and each line after it is
-- served.
abbrev pub Step : Option Organisation → List ℕ → ClockState → Answer → Organisation → ClockState → Type 0
Step None line clock answer new after = Begins line new × (answer ≡ opened new) × (after ≡ clock)
Step (Some org) line clock answer new after = (reply : Reply) × (answer ≡ Replied reply) × Served org line clock reply new after

-- The lines are answered one after another, by one answer each.
abbrev pub Run : Option Organisation → List (List ℕ) → ClockState → List Answer → Option Organisation → ClockState → Type 0
Run old [] clock [] new after = (new ≡ old) × (after ≡ clock)
Run old (line ∷ lines) clock (answer ∷ answers) new after =
    (next : Organisation) × (ticked : ClockState) × Step old line clock answer next ticked × Run (Some next) lines ticked answers new after
Run old [] clock (answer ∷ answers) new after = ⊥
Run old (line ∷ lines) clock [] new after = ⊥

-- The first line is no definition that begins an organisation, and this is the line that refuses it.
abbrev pub RefusesBy : List ℕ → List ℕ → Type 0
RefusesBy line text = (kind : List ℕ) × (place : List ℕ) × Declines line kind place × (text ≡ answer_line (bad_definition kind place))

-- What is written for a line: its answer's line, or for a first line that is no definition the line that refuses it.
abbrev pub Writes : Option Organisation → List ℕ → ClockState → List ℕ → ClockState → Type 0
Writes old line clock text after =
    ((answer : Answer) × (new : Organisation) × Step old line clock answer new after × (text ≡ answer_line answer))
    ⊎ ((old ≡ None) × RefusesBy line text × (after ≡ clock))
