use Rattle.std.proofs.Common.{rules}
use Rattle.dv_work.proofs.PlaceLaws.{first_from-entries_of}
use Rattle.dv_work.proofs.places.first_from.Goals as goal

pub loop-key-init : goal.loop-key-init
loop-key-init g c =
    let between = c.range-key-items.ensures.between (search rules) in
    let whole = c.into_iter-key-iterator.ensures.into_iter_gives in
    rw (whole, between) (first_from-entries_of g.K.Ord.cmp c.args.start c.args.places.now.entries)
