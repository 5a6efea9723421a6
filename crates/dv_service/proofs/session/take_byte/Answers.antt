use Rattle.dv_service.specs.Lines.{open_line}
use Rattle.dv_service.proofs.Leaving.{Leaves-feed}
use Rattle.dv_service.proofs.Streams.{Stands-byte}
use Rattle.dv_service.proofs.session.take_byte.Goals as goal

pub returns-then-byte-eq10-clause-takes : goal.returns-then-byte-eq10-clause-takes
returns-then-byte-eq10-clause-takes g c = λ taken before stands.
    Leaves-feed c.end_line.result c.end_line.new.session taken c.args.byte before _ c.if-byte-eq10.true (c.end_line.ensures.ends taken before stands)

pub returns-else-byte-eq10-clause-takes : goal.returns-else-byte-eq10-clause-takes
returns-else-byte-eq10-clause-takes g c = λ taken before stands.
    Stands-byte _ taken c.args.byte before _ c.if-byte-eq10.false (c.add.ensures (open_line taken) stands.line) stands.answered
