-- A line is read as a caller and a request, and a body as the request of its message, or it has a first fault: it isn't JSON, which is a fault of the whole, or its first fault is that of the walk over the schemas of the messages.
use Rattle.std.specs.Prelude.{ℕ, ◌==◌, List, [], length, if◌then◌else◌, Option, Some, None, option_map, chars}
use Rattle.serde_json.specs.Data.{Data, object, no_members}
use Rattle.dv_form.specs.Forms.{object_of}
use Rattle.dv_form.specs.Places.{path_text}
use Rattle.dv_form.specs.Walk.{Violation, first_fault}
use Rattle.dv_form.specs.Members.{at, id_of_json}
use Rattle.dv_value.specs.Json.{json_of}
use Rattle.dv_value.specs.declared.id.Id.{Id}
use Rattle.dv_request.specs.declared.request.Request.{Request}
use Rattle.dv_wire.specs.declared.grammar.Rule.{Rule}
use Rattle.dv_wire.specs.declared.grammar.Rule.TheVariants as rule
use Rattle.dv_wire.specs.declared.verb.Verb.{Verb}
use Rattle.dv_wire.specs.Grammar.{rules}
use Rattle.dv_wire.specs.Requests.{request_for, request_of, requests_at}
use Rattle.dv_wire.specs.Verbs.{verb_of}

-- what is read, or the place of the first fault
pub data Reading (A : Type 0) : Type 0 where
  spelled : A → Reading A
  faulty : List ℕ → Reading A

-- what is read of a value by its first fault, or without one
unfoldable pub judged : {A : Type 0} → A → Option Violation → Reading A
judged read None = spelled read
judged read (Some fault) = faulty (chars (path_text fault.path))

-- the first fault of a value as an object by a rule
abbrev pub fault_in : Rule → Data → Option Violation
fault_in rule d = first_fault rules d (object_of rule)

-- what is read of an object by a rule, or of no value
unfoldable pub value_reads : {A : Type 0} → Rule → (Data → A) → Option Data → Reading A
value_reads rule read None = faulty []
value_reads rule read (Some d) = judged (read d) (fault_in rule d)

-- the caller and the request of a line
abbrev pub line_of : Data → Id × Request
line_of d = (id_of_json (at "caller" d), request_of d)

-- the bytes of a line
unfoldable pub reads : List ℕ → Reading (Id × Request)
reads bytes = value_reads rule.Request line_of (json_of bytes)

-- the value of a body; an empty one is an object without members
unfoldable pub body_json : List ℕ → Option Data
body_json bytes = if length bytes == 0 then Some (object no_members) else json_of bytes

-- the request of a message with these members
abbrev pub body_of : Verb → Data → Request
body_of verb d = request_for verb d (requests_at d)

-- the bytes of a body of a message
unfoldable pub message_reads : Verb → List ℕ → Reading Request
message_reads verb bytes = value_reads (rule.Body verb) (body_of verb) (body_json bytes)

-- the same by the message's word; nothing where no message has the word
unfoldable pub body_reads : List ℕ → List ℕ → Option (Reading Request)
body_reads word bytes = option_map (λ verb. message_reads verb bytes) (verb_of word)
