use Rattle.std.proofs.Common.{refl, sym, ◌+◌}
use Rattle.std.specs.FinMap as map
use Rattle.dv_cascade.specs.Links.{Leads}
use Rattle.dv_cascade.proofs.Left.{are_of_within}
use Rattle.dv_cascade.proofs.Closures.{closes_begin, closes_more, closes_end, closes_smaller}
use Rattle.dv_cascade.proofs.closing.find_under.Goals as goal

pub rows-init : goal.rows-init
rows-init c = closes_begin c.args.store.now.present.rows (Leads c.args.store.now.present c.args.definition.now c.args.cascading) c.args.found.now c.requires.are_of

pub rows-smaller : goal.rows-smaller
rows-smaller c =
    let rows = c.args.store.now.present.rows in
    closes_smaller rows (Leads c.args.store.now.present c.args.definition.now c.args.cascading) c.args.found.now c.rows.next c.in-Some.parent c.rows.found (map.len rows) (sym c.in-Some.ensures.value) (are_of_within rows c.rows.found c.rows.invariant.are_of)

pub rows-preserved : goal.rows-preserved
rows-preserved c = closes_more c.args.store.now.present.rows (Leads c.args.store.now.present c.args.definition.now c.args.cascading) c.args.found.now c.rows.next (c.rows.next + 1) c.in-Some.parent c.rows.found c.find_all.new.found
    refl (sym c.in-Some.ensures.value) c.rows.invariant c.in_ok-find_all.ensures

pub returns : goal.returns
returns c = closes_end c.args.store.now.present.rows (Leads c.args.store.now.present c.args.definition.now c.args.cascading) c.args.found.now c.rows.next c.rows.found (sym c.in_default.ensures.value) c.rows.invariant
