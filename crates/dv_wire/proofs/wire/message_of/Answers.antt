use Rattle.std.proofs.Common.{sym, ◌∙◌, ap, Err, refl}
use Rattle.serde_json.specs.View.{view}
use Rattle.dv_wire.specs.declared.grammar.Rule.TheVariants as rule
use Rattle.dv_wire.specs.Reads.{faulty, message_reads, body_of, body_json}
use Rattle.dv_wire.proofs.ReadLaws.{told, reads-none, reads-fault, reads-spelled}
use Rattle.dv_wire.proofs.SpelledLaws.{spelled-body}
use Rattle.dv_wire.proofs.wire.message_of.Goals as goal

pub returns-in-Err-Malformed-clause-malformed : goal.returns-in-Err-Malformed-clause-malformed
unfolding message_reads
returns-in-Err-Malformed-clause-malformed c = λ place is.
    told c.new.result place _ (reads-none (rule.Body c.args.verb) (body_of c.args.verb) (body_json c.args.bytes.now) (c.in-Err-Malformed.ensures.malformed (ap Err c.in-Err-Malformed.field-0-is)) ∙ ap faulty (sym c.new.ensures)) is

pub returns-in-Some-clause-malformed : goal.returns-in-Some-clause-malformed
unfolding message_reads
returns-in-Some-clause-malformed c = λ place is.
    told c.in-Some.fault.place place _ (reads-fault (rule.Body c.args.verb) (body_of c.args.verb) (body_json c.args.bytes.now) (view c.in-Ok.json) c.in-Some.fault c.in-Ok.ensures.ok (sym c.in-Some.is ∙ c.in_ok-fault.ensures)) is

pub returns-in_ok-request_for-in-None-clause-spelled : goal.returns-in_ok-request_for-in-None-clause-spelled
unfolding message_reads
returns-in_ok-request_for-in-None-clause-spelled c =
    reads-spelled (rule.Body c.args.verb) (body_of c.args.verb) (body_json c.args.bytes.now) (view c.in-Ok.json) _ c.in-Ok.ensures.ok (sym c.in-None.is ∙ c.in_ok-fault.ensures) (c.in_ok-request_for-in-None.ensures)

pub returns-in_ok-request_for-in-None-clause-members : goal.returns-in_ok-request_for-in-None-clause-members
returns-in_ok-request_for-in-None-clause-members c = λ d is. spelled-body c.args.verb (body_json c.args.bytes.now) d (view c.in-Ok.json) c.in-Ok.ensures.ok (sym c.in-None.is ∙ c.in_ok-fault.ensures) is
