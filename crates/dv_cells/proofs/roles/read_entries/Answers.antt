use Rattle.std.proofs.Common.{subst}
use Rattle.dv_cells.proofs.Listed.{no_entry, no_short, IsListing, IsListing-only, IsListing-start, IsListing-step}
use Rattle.dv_cells.proofs.Spelled.{is_empty, not_empty}
use Rattle.dv_cells.proofs.roles.read_entries.Goals as goal

pub loop-rest-init : goal.loop-rest-init
loop-rest-init c = rw c.new-entries.ensures (IsListing-start c.args.bytes.now)

pub returns-in_default-clause-refused : goal.returns-in_default-clause-refused
returns-in_default-clause-refused c _ =
    no_short c.args.bytes.now c.loop-rest.rest.now c.loop-rest.entries c.loop-rest.invariant
    (not_empty c.loop-rest.rest.now c.is_empty.result c.is_empty.ensures c.loop-rest-test.true) c.in_default.ensures.cases

pub returns-in_default-read_entry-clause-refused : goal.returns-in_default-read_entry-clause-refused
returns-in_default-read_entry-clause-refused c _ =
    no_entry c.args.bytes.now c.loop-rest.rest.now c.loop-rest.entries c.loop-rest.invariant
    (not_empty c.loop-rest.rest.now c.is_empty.result c.is_empty.ensures c.loop-rest-test.true)
    c.in-Some.first.now c.in-Some.ensures.cases.0 c.in_default-read_entry.ensures

pub loop-rest-preserved : goal.loop-rest-preserved
loop-rest-preserved c =
    rw c.in_ok-keep.ensures
    (IsListing-step c.args.bytes.now c.loop-rest.rest.now c.loop-rest.entries c.loop-rest.invariant
    (not_empty c.loop-rest.rest.now c.is_empty.result c.is_empty.ensures c.loop-rest-test.true)
    c.in-Some.first.now c.in-Some.after.now c.in-Some-read_entry.entry c.in-Some.ensures.cases.0 c.in-Some.ensures.cases.1
    c.in-Some-read_entry.ensures.0 c.in-Some-read_entry.ensures.1)

pub returns-clause-only : goal.returns-clause-only
returns-clause-only c others =
    IsListing-only c.args.bytes.now c.loop-rest.entries others
    (subst (λ rest. IsListing c.args.bytes.now rest c.loop-rest.entries) (is_empty c.loop-rest.rest.now c.is_empty.result c.is_empty.ensures c.loop-rest-test.false) c.loop-rest.invariant)
