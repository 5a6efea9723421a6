use Rattle.std.proofs.Common.{ap, ◌∙◌}
use Rattle.dv_keeper.specs.Cells.{all_changed}
use Rattle.dv_keeper.specs.Memory.{all_written, held_in}
use Rattle.dv_keeper.proofs.WriteLaws.{all_written-write_of}
use Rattle.dv_keeper.proofs.places.make_changes.Goals as goal

pub returns-clause-ok : goal.returns-clause-ok
returns-clause-ok c =
    c.write_places.ensures ∙ ap (λ writes. all_written writes (held_in c.make_places.new.places.entries)) c.in_ok-writes.ensures
    ∙ all_written-write_of c.args.changes.now (held_in c.make_places.new.places.entries) ∙ ap (all_changed c.args.changes.now) c.make_places.ensures.held
