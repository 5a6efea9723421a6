use Rattle.std.proofs.lemmas.List.{drop-drop, take_rest}
use Rattle.dv_base.proofs.mem_source.MemSourceSource.read.Goals as goal

pub returns-clause-taken : goal.returns-clause-taken
returns-clause-taken c =
    rw (← c.self.view_is)
    (rw (take_rest c.deref.result.now c.self.inside.at, c.deref.ensures.value, drop-drop c.copy_front-count.result c.self.inside.at c.self.inside.bytes.items) at c.copy_front-count.ensures.copied)
