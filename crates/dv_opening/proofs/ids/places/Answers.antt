use Rattle.std.proofs.Common.{◌≡◌, ℕ, Some, None, cond, eqb, subst, arith}
use Rattle.std.specs.Option.{option_or}
use Rattle.dv_opening.specs.Seats.{place_in}
use Rattle.dv_opening.proofs.SeatLaws.{Places-nil, Places-more, Places-all}
use Rattle.dv_opening.proofs.ids.places.Goals as goal

pub loop-k-init : goal.loop-k-init
loop-k-init g c = Places-nil c.new-ids.result c.new-ids.ensures

pub loop-k-preserved : goal.loop-k-preserved
loop-k-preserved g c =
    let P : ℕ → Type 0 = λ n. (q : ℕ) → place_in c.add.new.self q ≡ option_or (place_in c.loop-k.ids q) (cond (eqb q n) (Some c.loop-k.k) None) in
    Places-more g.T.HasId.id_of c.args.items.now c.loop-k.k c.index-items-k.result c.loop-k.ids c.add.new.self (omega arith) c.index-items-k.is c.loop-k.invariant (subst P c.id.ensures c.in_ok-add.ensures)

pub returns : goal.returns
returns g c = Places-all g.T.HasId.id_of c.args.items.now c.loop-k.k c.loop-k.ids (omega arith) c.loop-k.invariant
