use Rattle.std.proofs.Common.{◌∷◌, ap, sym, ◌∙◌, subst}
use Rattle.std.specs.Vec.Iter.{into_iter_items}
use Rattle.dv_keeper.specs.Memory.{all_written, held_in, HavePlaces}
use Rattle.dv_keeper.proofs.WriteLaws.{HavePlaces-grow}
use Rattle.dv_keeper.proofs.places.write_places.Goals as goal

pub loop-write-preserved : goal.loop-write-preserved
loop-write-preserved c =
    let rest = into_iter_items c.next.new.self in
    let step = c.in-Some.ensures.steps.0 in
    let there : HavePlaces c.loop-write.places.entries (c.in-Some.write ∷ rest) = subst (HavePlaces c.loop-write.places.entries) step c.loop-write.invariant.there in
    record {
      there = HavePlaces-grow _ _ c.write_place.ensures.others rest there.1;
      held = ap (all_written rest) c.write_place.ensures.held ∙ sym (ap (λ writes. all_written writes (held_in c.loop-write.places.entries)) step) ∙ c.loop-write.invariant.held;
    }
