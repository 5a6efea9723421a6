use Rattle.std.proofs.Common.{refl, sym, ◌∙◌, ap, subst}
use Rattle.dv_service.specs.Outcome.{Ran}
use Rattle.dv_service.specs.Outside.{outside}
use Rattle.dv_service.specs.Statuses.{is_status}
use Rattle.dv_service.proofs.Complete.{complete, refuses, is_status-code_of}
use Rattle.dv_service.proofs.Endings.{code_of-0, code_of-3, code_of-5, code_of-6, code_of-9, code_of-10, code_of-other, ReadFault-code, WriteFault-code}
use Rattle.dv_service.proofs.service.top.Goals as goal

pub returns-then-is_run-clause-finished : goal.returns-then-is_run-clause-finished
returns-then-is_run-clause-finished g c = λ is. subst (λ e. Ran e (g.S.Ends.left c.args.input.now) (g.S.Ends.left c.run.new.input) (outside (g.W.Ends.written c.args.output.now) (g.C.Clock.state c.args.clock.now)) (outside (g.W.Ends.written c.run.new.output) (g.C.Clock.state c.run.new.clock)))
    (code_of-0 c.run.result (sym c.status.ensures ∙ is)) c.run.ensures.ran

pub returns-then-is_run-clause-bad_words : goal.returns-then-is_run-clause-bad_words
returns-then-is_run-clause-bad_words g c = (
  λ is words. code_of-other c.run.result (sym c.status.ensures ∙ is),
  λ other. absurd (other (c.is_run.ensures.0 c.if-is_run.true)),
)

pub returns-then-is_run-clause-bad_words_read : goal.returns-then-is_run-clause-bad_words_read
returns-then-is_run-clause-bad_words_read g c = λ is. absurd (code_of-other c.run.result (sym c.status.ensures ∙ is))

pub returns-then-is_run-clause-bad_words_wrote : goal.returns-then-is_run-clause-bad_words_wrote
returns-then-is_run-clause-bad_words_wrote g c = λ is. absurd (code_of-other c.run.result (sym c.status.ensures ∙ is))

pub returns-then-is_run-clause-not_opened : goal.returns-then-is_run-clause-not_opened
returns-then-is_run-clause-not_opened g c = λ is. subst (λ e. Ran e (g.S.Ends.left c.args.input.now) (g.S.Ends.left c.run.new.input) (outside (g.W.Ends.written c.args.output.now) (g.C.Clock.state c.args.clock.now)) (outside (g.W.Ends.written c.run.new.output) (g.C.Clock.state c.run.new.clock)))
    (code_of-3 c.run.result (sym c.status.ensures ∙ is)) c.run.ensures.ran

pub returns-then-is_run-clause-read_fault : goal.returns-then-is_run-clause-read_fault
returns-then-is_run-clause-read_fault g c = λ is. c.run.ensures.read_fault.rose (code_of-5 c.run.result (sym c.status.ensures ∙ is))

pub returns-then-is_run-clause-read_stopped : goal.returns-then-is_run-clause-read_stopped
returns-then-is_run-clause-read_stopped g c = λ is. subst (λ e. Ran e (g.S.Ends.left c.args.input.now) (g.S.Ends.left c.run.new.input) (outside (g.W.Ends.written c.args.output.now) (g.C.Clock.state c.args.clock.now)) (outside (g.W.Ends.written c.run.new.output) (g.C.Clock.state c.run.new.clock)))
    (code_of-5 c.run.result (sym c.status.ensures ∙ is)) c.run.ensures.ran

pub returns-then-is_run-clause-write_fault : goal.returns-then-is_run-clause-write_fault
returns-then-is_run-clause-write_fault g c = λ is. c.run.ensures.write_fault.rose (code_of-6 c.run.result (sym c.status.ensures ∙ is))

pub returns-then-is_run-clause-cut_short : goal.returns-then-is_run-clause-cut_short
returns-then-is_run-clause-cut_short g c = λ is. subst (λ e. Ran e (g.S.Ends.left c.args.input.now) (g.S.Ends.left c.run.new.input) (outside (g.W.Ends.written c.args.output.now) (g.C.Clock.state c.args.clock.now)) (outside (g.W.Ends.written c.run.new.output) (g.C.Clock.state c.run.new.clock)))
    (code_of-6 c.run.result (sym c.status.ensures ∙ is)) c.run.ensures.ran

pub returns-then-is_run-clause-no_read_fault : goal.returns-then-is_run-clause-no_read_fault
returns-then-is_run-clause-no_read_fault g c = λ other.
    c.run.ensures.read_fault.steady (λ is. other (c.status.ensures ∙ ReadFault-code c.run.result is))

pub returns-then-is_run-clause-no_write_fault : goal.returns-then-is_run-clause-no_write_fault
returns-then-is_run-clause-no_write_fault g c = λ other.
    c.run.ensures.write_fault.steady (λ is. other (c.status.ensures ∙ WriteFault-code c.run.result is))

pub returns-then-is_run-clause-out_of_memory : goal.returns-then-is_run-clause-out_of_memory
returns-then-is_run-clause-out_of_memory g c = λ is. ap (λ told. told.written) (subst (λ e. Ran e (g.S.Ends.left c.args.input.now) (g.S.Ends.left c.run.new.input) (outside (g.W.Ends.written c.args.output.now) (g.C.Clock.state c.args.clock.now)) (outside (g.W.Ends.written c.run.new.output) (g.C.Clock.state c.run.new.clock)))
    (code_of-9 c.run.result (sym c.status.ensures ∙ is)) c.run.ensures.ran)

pub returns-then-is_run-clause-out_of_memory_clock : goal.returns-then-is_run-clause-out_of_memory_clock
returns-then-is_run-clause-out_of_memory_clock g c = λ is. ap (λ told. told.clock) (subst (λ e. Ran e (g.S.Ends.left c.args.input.now) (g.S.Ends.left c.run.new.input) (outside (g.W.Ends.written c.args.output.now) (g.C.Clock.state c.args.clock.now)) (outside (g.W.Ends.written c.run.new.output) (g.C.Clock.state c.run.new.clock)))
    (code_of-9 c.run.result (sym c.status.ensures ∙ is)) c.run.ensures.ran)

pub returns-then-is_run-clause-bad_words_clock : goal.returns-then-is_run-clause-bad_words_clock
returns-then-is_run-clause-bad_words_clock g c = λ is. absurd (code_of-other c.run.result (sym c.status.ensures ∙ is))

pub returns-then-is_run-clause-input_limit : goal.returns-then-is_run-clause-input_limit
returns-then-is_run-clause-input_limit g c = λ is. subst (λ e. Ran e (g.S.Ends.left c.args.input.now) (g.S.Ends.left c.run.new.input) (outside (g.W.Ends.written c.args.output.now) (g.C.Clock.state c.args.clock.now)) (outside (g.W.Ends.written c.run.new.output) (g.C.Clock.state c.run.new.clock)))
    (code_of-10 c.run.result (sym c.status.ensures ∙ is)) c.run.ensures.ran

pub returns-then-is_run-clause-complete : goal.returns-then-is_run-clause-complete
returns-then-is_run-clause-complete g c = λ words no_read no_write.
    rw c.status.ensures (complete _ _ _ _ _ _ _ c.run.result _ c.run.ensures.ran c.run.ensures.read_fault c.run.ensures.write_fault no_read no_write)

pub returns-then-is_run-clause-refuses : goal.returns-then-is_run-clause-refuses
returns-then-is_run-clause-refuses g c = λ words no_read no_write.
    rw c.status.ensures (refuses _ _ _ _ _ _ _ c.run.result _ c.run.ensures.ran c.run.ensures.read_fault c.run.ensures.write_fault no_read no_write)

pub returns-then-is_run-clause-known : goal.returns-then-is_run-clause-known
returns-then-is_run-clause-known g c = rw c.status.ensures (is_status-code_of c.run.result)

pub returns-else-is_run-clause-known : goal.returns-else-is_run-clause-known
unfolding is_status
returns-else-is_run-clause-known g c = refl
