use Rattle.std.proofs.Common.{◌∙◌}
use Rattle.std.proofs.lemmas.List.{take_more}
use Rattle.dv_keeper.proofs.WriteLaws.{HavePlaces-append, HavePlaces-grow}
use Rattle.dv_keeper.proofs.places.make_places.Goals as goal

pub loop-write-preserved : goal.loop-write-preserved
loop-write-preserved c = record {
  held = c.make_place.ensures.held ∙ c.loop-write.invariant.held;
  there = rw (take_more c.args.writes.now c.loop-write.write-index c.write-item.result c.loop-write-test.true, ← c.write-item.is)
      (HavePlaces-append _ _ _ (HavePlaces-grow _ _ c.make_place.ensures.others _ c.loop-write.invariant.there) c.in_ok-make_place.ensures.there);
}
