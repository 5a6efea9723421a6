use Rattle.std.proofs.Common.{sym, ◌∙◌, ap, Err, refl}
use Rattle.serde_json.specs.View.{view}
use Rattle.dv_wire.specs.declared.grammar.Rule.TheVariants as rule
use Rattle.dv_wire.specs.Reads.{faulty, reads, line_of}
use Rattle.dv_wire.proofs.ReadLaws.{told, reads-none, reads-fault, reads-spelled, pair_is}
use Rattle.dv_wire.proofs.SpelledLaws.{spelled-line}
use Rattle.dv_value.specs.Json.{json_of}
use Rattle.dv_wire.proofs.wire.read_request.Goals as goal

pub returns-in-Err-Malformed-clause-malformed : goal.returns-in-Err-Malformed-clause-malformed
unfolding reads
returns-in-Err-Malformed-clause-malformed c = λ place is.
    told c.new.result place _ (reads-none rule.Request line_of (json_of c.args.bytes.now) (c.in-Err-Malformed.ensures.malformed (ap Err c.in-Err-Malformed.field-0-is)) ∙ ap faulty (sym c.new.ensures)) is

pub returns-in-Some-clause-malformed : goal.returns-in-Some-clause-malformed
unfolding reads
returns-in-Some-clause-malformed c = λ place is.
    told c.in-Some.fault.place place _ (reads-fault rule.Request line_of (json_of c.args.bytes.now) (view c.in-Ok.json) c.in-Some.fault c.in-Ok.ensures.ok (sym c.in-Some.is ∙ c.in_ok-fault.ensures)) is

pub returns-in_ok-request_of-in-None-clause-spelled : goal.returns-in_ok-request_of-in-None-clause-spelled
unfolding reads
returns-in_ok-request_of-in-None-clause-spelled c =
    reads-spelled rule.Request line_of (json_of c.args.bytes.now) (view c.in-Ok.json) _ c.in-Ok.ensures.ok (sym c.in-None.is ∙ c.in_ok-fault.ensures) (pair_is _ _ _ _ c.id_at.ensures c.in_ok-request_of-in-None.ensures)

pub returns-in_ok-request_of-in-None-clause-members : goal.returns-in_ok-request_of-in-None-clause-members
returns-in_ok-request_of-in-None-clause-members c = λ d is. spelled-line (json_of c.args.bytes.now) d (view c.in-Ok.json) c.in-Ok.ensures.ok (sym c.in-None.is ∙ c.in_ok-fault.ensures) is
