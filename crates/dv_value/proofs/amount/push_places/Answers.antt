use Rattle.std.proofs.Common.{arith, string_bytes}
use Rattle.dv_value.proofs.Amounts.{place_more, places_all}
use Rattle.dv_value.proofs.amount.push_places.Goals as goal

pub loop-place-preserved : goal.loop-place-preserved
loop-place-preserved c =
    place_more (string_bytes c.loop-place.text) (string_bytes c.push.new.self) _ c.args.number c.loop-place.place c.unit.result c.from.result c.loop-place-test.true c.unit.ensures.value c.from.ensures c.in_ok-push.ensures.bytes c.loop-place.invariant

pub returns : goal.returns
returns c = places_all (string_bytes c.loop-place.text) _ c.args.number c.loop-place.place (omega arith) c.loop-place.invariant
