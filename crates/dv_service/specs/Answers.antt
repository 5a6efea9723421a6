-- An answer is one line: compact JSON with members in ascending byte order, and a line feed.
use Rattle.std.specs.Prelude.{ℕ, List, [], ◌∷◌, ◌++◌, None, codes}
use Rattle.serde_json.specs.Data.{Data, number, unsigned, no_members, member}
use Rattle.serde_json.specs.Written.{compact_text}
use Rattle.dv_print.specs.Printed.{ok, reply_data}
use Rattle.dv_refusal.specs.declared.refusal.Refusal.{Refusal}
use Rattle.dv_refusal.specs.declared.refusal.Refusal.TheVariants.{BadDefinition}
use Rattle.dv_request.specs.declared.reply.Reply.{Reply}
use Rattle.dv_request.specs.declared.reply.Reply.TheVariants.{Refused}
use Rattle.dv_service.specs.declared.answer.Answer.{Answer}
use Rattle.dv_service.specs.declared.answer.Answer.TheVariants.{Opened, Replied}

-- the answer as JSON: how many tables the organisation has that has begun, or a reply
unfoldable pub answer_data : Answer → Data
answer_data (Opened tables) = ok (member (codes "tables") (number (unsigned tables)) no_members)
answer_data (Replied reply) = reply_data reply

-- the answer's line
unfoldable pub answer_line : Answer → List ℕ
answer_line answer = compact_text (answer_data answer) ++ 10 ∷ []

-- the lines of the answers, one after another
abbrev pub printed : List Answer → List ℕ
printed [] = []
printed (answer ∷ answers) = answer_line answer ++ printed answers

-- the reply that tells a refusal
abbrev pub refused : Refusal → Reply
refused refusal = Refused refusal None

-- the answer to a definition line that isn't accepted
abbrev pub bad_definition : List ℕ → List ℕ → Answer
bad_definition kind place = Replied (refused (BadDefinition kind place))
