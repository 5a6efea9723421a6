use Rattle.std.proofs.Common.{◌≡◌}
use Rattle.std.specs.Prelude.{slice_get}
use Rattle.dv_work.specs.Entries.{first_from}
use Rattle.dv_work.specs.Journal.{entries_of}
use Rattle.dv_work.proofs.places.first_from.Given as goal

abbrev pub invariant-loop-key : goal.invariant-loop-key
invariant-loop-key g l = slice_get (entries_of l.key-iterator) 0 ≡ first_from g.K.Ord.cmp l.fn.start (entries_of l.places.entries)
