use Rattle.dv_cascade.proofs.Left.{are_of-start}
use Rattle.dv_cascade.proofs.Closures.{reached-is}
use Rattle.dv_cascade.proofs.closing.closure.Goals as goal

pub find_under-requires-clause-are_of : goal.find_under-requires-clause-are_of
find_under-requires-clause-are_of c = are_of-start c.args.store.now.present.rows c.args.target c.in_ok-found.found c.in_ok-found.ensures

pub returns : goal.returns
returns c = reached-is c.args.store.now.present c.args.definition.now c.args.cascading c.args.target c.in_ok-found.found c.find_under.new.found c.in_ok-sorted.field-0.items c.in_ok-found.ensures c.in_ok-find_under.ensures c.in_ok-sorted.ensures
