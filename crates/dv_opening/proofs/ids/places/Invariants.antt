use Rattle.std.proofs.Common.{map, take}
use Rattle.dv_opening.specs.Seats.{Places}
use Rattle.dv_opening.proofs.ids.places.Given as goal

abbrev pub invariant-loop-k : goal.invariant-loop-k
invariant-loop-k g l = Places l.ids (map g.T.HasId.id_of (take l.k l.items))
